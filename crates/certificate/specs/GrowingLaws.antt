-- Laws, for the proofs of this crate and of those above it.
-- One more line: what was there stays as it is, its lines get this one, and it keeps its form.
use Rattle.std.proofs.Common.{◌≡◌, ℕ, ◌≤◌, Bool, true, false, List, [], ◌∷◌, ◌++◌, length, map, Option, Some, refl, sym, ap, ◌∙◌, subst, arith, append_assoc, append-nil}
use Rattle.std.specs.Prelude.{◌&&◌, codes, flat_map, if◌then◌else◌}
use Rattle.std.specs.Option.{option_map}
use Rattle.std.specs.Str.{bytes_eq}
use Rattle.std.specs.List.{AllByRecursion}
use Rattle.std.proofs.lemmas.Bool.Decides.{nat_tests}
use Rattle.camelot_values.specs.Lists.{Ascend}
use Rattle.annotations.specs.Vectors.{Vector}
use Rattle.text_lines.specs.Numbers.{number}
use Rattle.certificate.specs.Text.{vector_words, param_words, result_lines, var_words, block_words, block_lines, make_words, function_words, func_lines}
use Rattle.certificate.specs.Certificates.{VarCert, BlockCert, MakeCert, FuncCert, IsNotZero, AreVars, MakesAscend, FuncIsFormed, FuncIsWithin, VarIsWithin, BlockIsWithin, MakeIsWithin, VectorIsWithin}
use Rattle.certificate.specs.Reading.{last_of, is_after, makes_on, is_none, at_last, vector_of, var_of_words, block_of_words, make_of_words, function_of_words, bare_func, add_param, add_result, add_block, var_into, add_var, add_make, add_own, add_line}
use Rattle.text_lines.specs.OptionLaws.{and_parts, only_some, map_some, same_bytes}
use Rattle.certificate.specs.VectorLaws.{some_found}
use Rattle.certificate.specs.PartLaws.{var_found, block_found, make_found, function_found}
use Rattle.text_lines.specs.FrontLaws.{all_last}

-- ---- lists

pub map_end : {A B : Type 0} (f : A → B) (xs : List A) (x : A) → map f (xs ++ x ∷ []) ≡ map f xs ++ f x ∷ []
map_end f [] x = refl
map_end f (y ∷ xs) x = ap (λ l. f y ∷ l) (map_end f xs x)

pub flat_end : {A B : Type 0} (f : A → List B) (xs : List A) (x : A) → flat_map f (xs ++ x ∷ []) ≡ flat_map f xs ++ f x
flat_end f [] x = append-nil (f x)
flat_end f (y ∷ xs) x = ap (λ l. f y ++ l) (flat_end f xs x) ∙ sym (append_assoc (f y) (flat_map f xs) (f x))

pub all_end : {A : Type 0} (P : A → Type 0) (xs : List A) (x : A) → AllByRecursion P xs → P x → AllByRecursion P (xs ++ x ∷ [])
all_end P [] x h k = (k, tt)
all_end P (y ∷ xs) x h k = (h.0, all_end P xs x h.1 k)

pub all_front : {A : Type 0} (P : A → Type 0) (xs : List A) (x : A) → AllByRecursion P (xs ++ x ∷ []) → AllByRecursion P xs
all_front P [] x h = tt
all_front P (y ∷ xs) x h = (h.0, all_front P xs x h.1)

pub ascend_end : (xs : List ℕ) (x : ℕ) → Ascend xs → is_after (last_of xs) x ≡ true → Ascend (xs ++ x ∷ [])
ascend_end [] x h k = tt
ascend_end (y ∷ []) x h k = (grind (arith, nat_tests, k), tt)
ascend_end (y ∷ z ∷ xs) x h k = (h.0, ascend_end (z ∷ xs) x h.1 k)

is_nothing : {A : Type 0} (xs : List A) → is_none xs ≡ true → xs ≡ []
is_nothing [] h = refl
is_nothing (x ∷ xs) h = absurd cc

-- the last of these was changed
pub record Changed {A : Type 0} (step : A → Option A) (xs ys : List A) : Type 0 where
  pub front : List A
  pub old : A
  pub new : A
  pub was : xs ≡ front ++ old ∷ []
  pub is : ys ≡ front ++ new ∷ []
  pub found : step old ≡ Some new

pub last_changed : {A : Type 0} (step : A → Option A) (xs ys : List A) → at_last step xs ≡ Some ys → Changed step xs ys
last_changed step [] ys e = absurd cc
last_changed step (x ∷ []) ys e = let (y, y_is, same) = map_some (λ y. y ∷ []) (step x) ys e in record { front = []; old = x; new = y; was = refl; is = same; found = y_is }
last_changed step (x ∷ z ∷ xs) ys e =
    let (zs, zs_is, same) = map_some (λ zs. x ∷ zs) (at_last step (z ∷ xs)) ys e in
    let c = last_changed step (z ∷ xs) zs zs_is in
    record { front = x ∷ c.front; old = c.old; new = c.new; was = ap (λ l. x ∷ l) c.was; is = same ∙ ap (λ l. x ∷ l) c.is; found = c.found }

-- ---- a function

abbrev pub lines_by : List (List ℕ) → List VarCert → Vector → List BlockCert → List MakeCert → List (List (List ℕ))
lines_by first ps r bs ms = first ∷ map param_words ps ++ (result_lines r ++ (flat_map block_lines bs ++ map make_words ms))

pub record Grown (f : FuncCert) (line : List (List ℕ)) (g : FuncCert) : Type 0 where
  pub formed : FuncIsFormed f → FuncIsFormed g
  pub lines : func_lines g ≡ func_lines f ++ line ∷ []
  pub back : FuncIsWithin g → FuncIsWithin f

param_lines : (first : List (List ℕ)) (ps : List VarCert) (v : VarCert) (r : Vector) (bs : List BlockCert) (ms : List MakeCert) → r ≡ [] → bs ≡ [] → ms ≡ []
    → lines_by first (ps ++ v ∷ []) r bs ms ≡ lines_by first ps r bs ms ++ param_words v ∷ []
param_lines first ps v (x ∷ r) bs ms h j k = absurd cc
param_lines first ps v [] (x ∷ bs) ms h j k = absurd cc
param_lines first ps v [] [] (x ∷ ms) h j k = absurd cc
param_lines first ps v [] [] [] h j k = ap (λ l. first ∷ l) (append-nil (map param_words (ps ++ v ∷ [])) ∙ map_end param_words ps v ∙ ap (λ l. l ++ param_words v ∷ []) (sym (append-nil (map param_words ps))))

var_words_are : (tag : List ℕ) (ws : List (List ℕ)) (v : VarCert) → ws ≡ number v.var ∷ vector_words v.vector
    → tag ∷ number v.var ∷ vector_words v.vector ≡ tag ∷ ws
var_words_are tag ws v e = ap (λ l. tag ∷ l) (sym e)

vars_end : (vs : List VarCert) (v : VarCert) → AreVars vs → is_after (last_of (map (λ v. v.var) vs)) v.var ≡ true → IsNotZero v.vector → AreVars (vs ++ v ∷ [])
vars_end vs v h k z = record {
  ascending = subst Ascend (sym (map_end (λ (w : VarCert). w.var) vs v)) (ascend_end (map (λ v. v.var) vs) v.var h.ascending k);
  each = all_end (λ (w : VarCert). IsNotZero w.vector) vs v h.each z;
}

param_grown : (ws : List (List ℕ)) (f g : FuncCert) → add_param ws f ≡ Some g → Grown f (codes "param" ∷ ws) g
unfolding add_param
param_grown ws f g e =
    let (test, found) = only_some (is_none f.result && is_none f.blocks && is_none f.makes) (option_map (λ v. record f { params = f.params ++ v ∷ [] }) (var_of_words (last_of (map (λ v. v.var) f.params)) ws)) g e in
    let (v, v_is, same) = map_some (λ v. record f { params = f.params ++ v ∷ [] }) (var_of_words (last_of (map (λ v. v.var) f.params)) ws) g found in
    let d = var_found (last_of (map (λ v. v.var) f.params)) ws v v_is in
    let outer = and_parts (is_none f.result && is_none f.blocks) (is_none f.makes) test in
    let inner = and_parts (is_none f.result) (is_none f.blocks) outer.0 in
    let all : Grown f (codes "param" ∷ ws) (record f { params = f.params ++ v ∷ [] }) = record {
      formed = λ h. record { name = h.name; params = vars_end f.params v h.params d.order d.form; result = h.result; blocks = h.blocks; vars = h.vars; makes = h.makes; each_make = h.each_make };
      lines = param_lines (function_words f) f.params v f.result f.blocks f.makes (is_nothing f.result inner.0) (is_nothing f.blocks inner.1) (is_nothing f.makes outer.1)
          ∙ ap (λ l. func_lines f ++ l ∷ []) (var_words_are (codes "param") ws v d.is);
      back = λ h. record { need = h.need; back = h.back; params = all_front VarIsWithin f.params v h.params; result = h.result; blocks = h.blocks; makes = h.makes };
    } in
    subst (Grown f (codes "param" ∷ ws)) (sym same) all

result_lines_more : (first : List (List ℕ)) (ps : List VarCert) (v r : Vector) (bs : List BlockCert) (ms : List MakeCert) → 1 ≤ length v → r ≡ []
    → bs ≡ [] → ms ≡ []
    → lines_by first ps v bs ms ≡ lines_by first ps r bs ms ++ (codes "result" ∷ vector_words v) ∷ []
result_lines_more first ps [] r bs ms s h j k = absurd (none s)
  where
    none : 1 ≤ 0 → ⊥
    none k = omega arith
result_lines_more first ps (p ∷ v) (x ∷ r) bs ms s h j k = absurd cc
result_lines_more first ps (p ∷ v) [] (x ∷ bs) ms s h j k = absurd cc
result_lines_more first ps (p ∷ v) [] [] (x ∷ ms) s h j k = absurd cc
result_lines_more first ps (p ∷ v) [] [] [] s h j k = ap (λ l. first ∷ (l ++ (codes "result" ∷ vector_words (p ∷ v)) ∷ [])) (sym (append-nil (map param_words ps)))

result_grown : (ws : List (List ℕ)) (f g : FuncCert) → add_result ws f ≡ Some g → Grown f (codes "result" ∷ ws) g
unfolding add_result
result_grown ws f g e =
    let (test, found) = only_some (is_none f.result && is_none f.blocks && is_none f.makes) (option_map (λ v. record f { result = v }) (vector_of ws)) g e in
    let (v, v_is, same) = map_some (λ v. record f { result = v }) (vector_of ws) g found in
    let d = some_found ws v v_is in
    let outer = and_parts (is_none f.result && is_none f.blocks) (is_none f.makes) test in
    let inner = and_parts (is_none f.result) (is_none f.blocks) outer.0 in
    let none : f.result ≡ [] = is_nothing f.result inner.0 in
    let all : Grown f (codes "result" ∷ ws) (record f { result = v }) = record {
      formed = λ h. record { name = h.name; params = h.params; result = d.form.form; blocks = h.blocks; vars = h.vars; makes = h.makes; each_make = h.each_make };
      lines = result_lines_more (function_words f) f.params v f.result f.blocks f.makes d.form.some none (is_nothing f.blocks inner.1) (is_nothing f.makes outer.1)
          ∙ ap (λ l. func_lines f ++ (codes "result" ∷ l) ∷ []) (sym d.is);
      back = λ h. record { need = h.need; back = h.back; params = h.params; result = subst VectorIsWithin (sym none) tt; blocks = h.blocks; makes = h.makes };
    } in
    subst (Grown f (codes "result" ∷ ws)) (sym same) all

block_lines_more : (first : List (List ℕ)) (ps : List VarCert) (r : Vector) (bs : List BlockCert) (b : BlockCert) (ms : List MakeCert) → b.vars ≡ [] → ms ≡ []
    → lines_by first ps r (bs ++ b ∷ []) ms ≡ lines_by first ps r bs ms ++ block_words b ∷ []
block_lines_more first ps r bs b (x ∷ ms) h k = absurd cc
block_lines_more first ps r bs b [] h k =
    let one : block_lines b ≡ block_words b ∷ [] = ap (λ (vs : List VarCert). block_words b ∷ map var_words vs) h in
    let blocks : flat_map block_lines (bs ++ b ∷ []) ++ [] ≡ (flat_map block_lines bs ++ []) ++ block_words b ∷ [] =
    append-nil (flat_map block_lines (bs ++ b ∷ [])) ∙ flat_end block_lines bs b ∙ ap (λ l. flat_map block_lines bs ++ l) one ∙ ap (λ l. l ++ block_words b ∷ []) (sym (append-nil (flat_map block_lines bs))) in
    ap (λ l. first ∷ (map param_words ps ++ (result_lines r ++ l))) blocks
    ∙ ap (λ l. first ∷ (map param_words ps ++ l)) (sym (append_assoc (result_lines r) (flat_map block_lines bs ++ []) (block_words b ∷ [])))
    ∙ ap (λ l. first ∷ l) (sym (append_assoc (map param_words ps) (result_lines r ++ (flat_map block_lines bs ++ [])) (block_words b ∷ [])))

block_grown : (ws : List (List ℕ)) (f g : FuncCert) → add_block ws f ≡ Some g → Grown f (codes "block" ∷ ws) g
unfolding add_block
block_grown ws f g e =
    let (test, found) = only_some (is_none f.makes) (option_map (λ b. record f { blocks = f.blocks ++ b ∷ [] }) (block_of_words (last_of (map (λ b. b.block) f.blocks)) ws)) g e in
    let (b, b_is, same) = map_some (λ b. record f { blocks = f.blocks ++ b ∷ [] }) (block_of_words (last_of (map (λ b. b.block) f.blocks)) ws) g found in
    let d = block_found (last_of (map (λ b. b.block) f.blocks)) ws b b_is in
    let none : AreVars b.vars = subst AreVars (sym d.bare) (record { ascending = tt; each = tt }) in
    let all : Grown f (codes "block" ∷ ws) (record f { blocks = f.blocks ++ b ∷ [] }) = record {
      formed = λ h. record {
        name = h.name;
        params = h.params;
        result = h.result;
        blocks = subst Ascend (sym (map_end (λ (c : BlockCert). c.block) f.blocks b)) (ascend_end (map (λ b. b.block) f.blocks) b.block h.blocks d.order);
        vars = all_end (λ (c : BlockCert). AreVars c.vars) f.blocks b h.vars none;
        makes = h.makes;
        each_make = h.each_make;
      };
      lines = block_lines_more (function_words f) f.params f.result f.blocks b f.makes d.bare (is_nothing f.makes test) ∙ ap (λ l. func_lines f ++ (codes "block" ∷ l) ∷ []) (sym d.is);
      back = λ h. record { need = h.need; back = h.back; params = h.params; result = h.result; blocks = all_front BlockIsWithin f.blocks b h.blocks; makes = h.makes };
    } in
    subst (Grown f (codes "block" ∷ ws)) (sym same) all

-- a block with one local more
record Into (ws : List (List ℕ)) (b c : BlockCert) : Type 0 where
  block_is : c.block ≡ b.block
  vars : AreVars b.vars → AreVars c.vars
  lines : block_lines c ≡ block_lines b ++ (codes "var" ∷ ws) ∷ []
  back : BlockIsWithin c → BlockIsWithin b

into_found : (ws : List (List ℕ)) (b c : BlockCert) → var_into ws b ≡ Some c → Into ws b c
unfolding var_into
into_found ws b c e =
    let (v, v_is, same) = map_some (λ v. record b { vars = b.vars ++ v ∷ [] }) (var_of_words (last_of (map (λ v. v.var) b.vars)) ws) c e in
    let d = var_found (last_of (map (λ v. v.var) b.vars)) ws v v_is in
    let all : Into ws b (record b { vars = b.vars ++ v ∷ [] }) = record {
      block_is = refl;
      vars = λ h. vars_end b.vars v h d.order d.form;
      lines = ap (λ l. block_words b ∷ l) (map_end var_words b.vars v ∙ ap (λ l. map var_words b.vars ++ l ∷ []) (var_words_are (codes "var") ws v d.is));
      back = λ h. record { block = h.block; need = h.need; vars = all_front VarIsWithin b.vars v h.vars };
    } in
    subst (Into ws b) (sym same) all

var_lines_more : (first : List (List ℕ)) (ps : List VarCert) (r : Vector) (bs : List BlockCert) (b c : BlockCert) (line : List (List ℕ)) (ms : List MakeCert) → block_lines c ≡ block_lines b ++ line ∷ [] → ms ≡ []
    → lines_by first ps r (bs ++ c ∷ []) ms ≡ lines_by first ps r (bs ++ b ∷ []) ms ++ line ∷ []
var_lines_more first ps r bs b c line (x ∷ ms) h k = absurd cc
var_lines_more first ps r bs b c line [] h k =
    let blocks : flat_map block_lines (bs ++ c ∷ []) ++ [] ≡ (flat_map block_lines (bs ++ b ∷ []) ++ []) ++ line ∷ [] =
    append-nil (flat_map block_lines (bs ++ c ∷ [])) ∙ flat_end block_lines bs c ∙ ap (λ l. flat_map block_lines bs ++ l) h ∙ sym (append_assoc (flat_map block_lines bs) (block_lines b) (line ∷ []))
    ∙ ap (λ l. l ++ line ∷ []) (sym (flat_end block_lines bs b) ∙ sym (append-nil (flat_map block_lines (bs ++ b ∷ [])))) in
    ap (λ l. first ∷ (map param_words ps ++ (result_lines r ++ l))) blocks
    ∙ ap (λ l. first ∷ (map param_words ps ++ l)) (sym (append_assoc (result_lines r) (flat_map block_lines (bs ++ b ∷ []) ++ []) (line ∷ [])))
    ∙ ap (λ l. first ∷ l) (sym (append_assoc (map param_words ps) (result_lines r ++ (flat_map block_lines (bs ++ b ∷ []) ++ [])) (line ∷ [])))

-- the same with other names for what was found
var_grown_by : (ws : List (List ℕ)) (f : FuncCert) (bs : List BlockCert) → is_none f.makes ≡ true → Changed (var_into ws) f.blocks bs → Grown f (codes "var" ∷ ws) (record f { blocks = bs })
var_grown_by ws f bs test ch =
    let d = into_found ws ch.old ch.new ch.found in
    let was : map (λ (b : BlockCert). b.block) f.blocks ≡ map (λ (b : BlockCert). b.block) bs =
    ap (map (λ (b : BlockCert). b.block)) ch.was ∙ map_end (λ (b : BlockCert). b.block) ch.front ch.old ∙ ap (λ x. map (λ (b : BlockCert). b.block) ch.front ++ x ∷ []) (sym d.block_is)
    ∙ sym (map_end (λ (b : BlockCert). b.block) ch.front ch.new) ∙ ap (map (λ (b : BlockCert). b.block)) (sym ch.is) in
    record {
      formed = λ h.
          let old = subst (AllByRecursion (λ (c : BlockCert). AreVars c.vars)) ch.was h.vars in
          record {
            name = h.name;
            params = h.params;
            result = h.result;
            blocks = subst Ascend was h.blocks;
            vars = subst (AllByRecursion (λ (c : BlockCert). AreVars c.vars)) (sym ch.is) (all_end (λ (c : BlockCert). AreVars c.vars) ch.front ch.new (all_front (λ (c : BlockCert). AreVars c.vars) ch.front ch.old old) (d.vars (all_last (λ (c : BlockCert). AreVars c.vars) ch.front ch.old old)));
            makes = h.makes;
            each_make = h.each_make;
          };
      lines = ap (λ l. lines_by (function_words f) f.params f.result l f.makes) ch.is ∙ var_lines_more (function_words f) f.params f.result ch.front ch.old ch.new (codes "var" ∷ ws) f.makes d.lines (is_nothing f.makes test)
          ∙ ap (λ l. lines_by (function_words f) f.params f.result l f.makes ++ (codes "var" ∷ ws) ∷ []) (sym ch.was);
      back = λ h.
          let new = subst (AllByRecursion BlockIsWithin) ch.is h.blocks in
          record { need = h.need; back = h.back; params = h.params; result = h.result; blocks = subst (AllByRecursion BlockIsWithin) (sym ch.was) (all_end BlockIsWithin ch.front ch.old (all_front BlockIsWithin ch.front ch.new new) (d.back (all_last BlockIsWithin ch.front ch.new new))); makes = h.makes };
    }

var_grown : (ws : List (List ℕ)) (f g : FuncCert) → add_var ws f ≡ Some g → Grown f (codes "var" ∷ ws) g
unfolding add_var
var_grown ws f g e =
    let (test, found) = only_some (is_none f.makes) (option_map (λ bs. record f { blocks = bs }) (at_last (var_into ws) f.blocks)) g e in
    let (bs, bs_is, same) = map_some (λ bs. record f { blocks = bs }) (at_last (var_into ws) f.blocks) g found in
    subst (Grown f (codes "var" ∷ ws)) (sym same) (var_grown_by ws f bs test (last_changed (var_into ws) f.blocks bs bs_is))

makes_end : (ms : List MakeCert) (m : MakeCert) → MakesAscend ms → makes_on ms m.block m.place ≡ true → MakesAscend (ms ++ m ∷ [])
makes_end [] m h k = tt
makes_end (l ∷ []) m h k = (grind (arith, nat_tests, k), λ e. grind (arith, nat_tests, k, e), tt)
makes_end (l ∷ n ∷ ms) m h k = (h.0, h.1, makes_end (n ∷ ms) m h.2 k)

make_lines_more : (first : List (List ℕ)) (ps : List VarCert) (r : Vector) (bs : List BlockCert) (ms : List MakeCert) (m : MakeCert)
    → lines_by first ps r bs (ms ++ m ∷ []) ≡ lines_by first ps r bs ms ++ make_words m ∷ []
make_lines_more first ps r bs ms m =
    ap (λ l. first ∷ (map param_words ps ++ (result_lines r ++ (flat_map block_lines bs ++ l)))) (map_end make_words ms m)
    ∙ ap (λ l. first ∷ (map param_words ps ++ (result_lines r ++ l))) (sym (append_assoc (flat_map block_lines bs) (map make_words ms) (make_words m ∷ [])))
    ∙ ap (λ l. first ∷ (map param_words ps ++ l)) (sym (append_assoc (result_lines r) (flat_map block_lines bs ++ map make_words ms) (make_words m ∷ [])))
    ∙ ap (λ l. first ∷ l) (sym (append_assoc (map param_words ps) (result_lines r ++ (flat_map block_lines bs ++ map make_words ms)) (make_words m ∷ [])))

make_grown : (ws : List (List ℕ)) (f g : FuncCert) → add_make ws f ≡ Some g → Grown f (codes "make" ∷ ws) g
unfolding add_make
make_grown ws f g e =
    let (m, m_is, same) = map_some (λ m. record f { makes = f.makes ++ m ∷ [] }) (make_of_words f.makes ws) g e in
    let d = make_found f.makes ws m m_is in
    let all : Grown f (codes "make" ∷ ws) (record f { makes = f.makes ++ m ∷ [] }) = record {
      formed = λ h. record {
        name = h.name;
        params = h.params;
        result = h.result;
        blocks = h.blocks;
        vars = h.vars;
        makes = makes_end f.makes m h.makes d.order;
        each_make = all_end (λ (n : MakeCert). IsNotZero n.vector) f.makes m h.each_make d.form;
      };
      lines = make_lines_more (function_words f) f.params f.result f.blocks f.makes m ∙ ap (λ l. func_lines f ++ (codes "make" ∷ l) ∷ []) (sym d.is);
      back = λ h. record { need = h.need; back = h.back; params = h.params; result = h.result; blocks = h.blocks; makes = all_front MakeIsWithin f.makes m h.makes };
    } in
    subst (Grown f (codes "make" ∷ ws)) (sym same) all

if_tag : {A : Type 0} (P : A → Type 0) (t : Bool) (x y : A) → (t ≡ true → P x) → (t ≡ false → P y) → P (if t then x else y)
if_tag P true x y f g = f refl
if_tag P false x y f g = g refl

-- what was added is this line
record OwnGrown (tag : List ℕ) (ws : List (List ℕ)) (f : FuncCert) (o : Option FuncCert) : Type 0 where
  of : (g : FuncCert) → o ≡ Some g → Grown f (tag ∷ ws) g

by_tag : (tag name : List ℕ) (ws : List (List ℕ)) (f : FuncCert) (o : Option FuncCert) → ((g : FuncCert) → o ≡ Some g → Grown f (name ∷ ws) g)
    → bytes_eq tag name ≡ true → OwnGrown tag ws f o
by_tag tag name ws f o h t = record { of = λ g e. subst (λ n. Grown f (n ∷ ws) g) (sym (same_bytes tag name t)) (h g e) }

pub own_grown : (tag : List ℕ) (ws : List (List ℕ)) (f g : FuncCert) → add_own tag ws f ≡ Some g → Grown f (tag ∷ ws) g
unfolding add_own
own_grown tag ws f = all.of
  where
    P : Option FuncCert → Type 0
    P = OwnGrown tag ws f

    all : OwnGrown tag ws f (add_own tag ws f)
    all =
        if_tag P (bytes_eq tag (codes "param")) _ _ (by_tag tag (codes "param") ws f _ (param_grown ws f)) (λ p.
        if_tag P (bytes_eq tag (codes "result")) _ _ (by_tag tag (codes "result") ws f _ (result_grown ws f)) (λ r.
        if_tag P (bytes_eq tag (codes "block")) _ _ (by_tag tag (codes "block") ws f _ (block_grown ws f)) (λ b.
        if_tag P (bytes_eq tag (codes "var")) _ _ (by_tag tag (codes "var") ws f _ (var_grown ws f)) (λ v.
        if_tag P (bytes_eq tag (codes "make")) _ _ (by_tag tag (codes "make") ws f _ (make_grown ws f)) (λ m. record { of = λ g e. absurd cc })))))

-- ---- all functions

pub record AllGrown (fs : List FuncCert) (line : List (List ℕ)) (gs : List FuncCert) : Type 0 where
  pub formed : AllByRecursion FuncIsFormed fs → AllByRecursion FuncIsFormed gs
  pub lines : flat_map func_lines gs ≡ flat_map func_lines fs ++ line ∷ []
  pub back : AllByRecursion FuncIsWithin gs → AllByRecursion FuncIsWithin fs

own_line : (tag : List ℕ) (ws : List (List ℕ)) (fs gs : List FuncCert) → at_last (add_own tag ws) fs ≡ Some gs → AllGrown fs (tag ∷ ws) gs
own_line tag ws fs gs e =
    let ch = last_changed (add_own tag ws) fs gs e in
    let d = own_grown tag ws ch.old ch.new ch.found in
    record {
      formed = λ h. let old = subst (AllByRecursion FuncIsFormed) ch.was h in subst (AllByRecursion FuncIsFormed) (sym ch.is) (all_end FuncIsFormed ch.front ch.new (all_front FuncIsFormed ch.front ch.old old) (d.formed (all_last FuncIsFormed ch.front ch.old old)));
      lines = ap (flat_map func_lines) ch.is ∙ flat_end func_lines ch.front ch.new ∙ ap (λ l. flat_map func_lines ch.front ++ l) d.lines ∙ sym (append_assoc (flat_map func_lines ch.front) (func_lines ch.old) ((tag ∷ ws) ∷ []))
          ∙ ap (λ l. l ++ (tag ∷ ws) ∷ []) (sym (flat_end func_lines ch.front ch.old) ∙ ap (flat_map func_lines) (sym ch.was));
      back = λ h. let new = subst (AllByRecursion FuncIsWithin) ch.is h in subst (AllByRecursion FuncIsWithin) (sym ch.was) (all_end FuncIsWithin ch.front ch.old (all_front FuncIsWithin ch.front ch.new new) (d.back (all_last FuncIsWithin ch.front ch.new new)));
    }

function_line : (tag : List ℕ) (ws : List (List ℕ)) (fs gs : List FuncCert) → bytes_eq tag (codes "function") ≡ true
    → option_map (λ f. fs ++ f ∷ []) (function_of_words ws) ≡ Some gs → AllGrown fs (tag ∷ ws) gs
function_line tag ws fs gs t e =
    let (f, f_is, same) = map_some (λ f. fs ++ f ∷ []) (function_of_words ws) gs e in
    let d = function_found ws f f_is in
    let form : FuncIsFormed (bare_func d.name d.need d.back) = record { name = d.form; params = record { ascending = tt; each = tt }; result = record { ascending = tt; some = tt }; blocks = tt; vars = tt; makes = tt; each_make = tt } in
    let line : func_lines f ≡ (tag ∷ ws) ∷ [] = ap func_lines d.f_is ∙ ap (λ l. (codes "function" ∷ l) ∷ []) (sym d.is) ∙ ap (λ l. (l ∷ ws) ∷ []) (sym (same_bytes tag (codes "function") t)) in
    record {
      formed = λ h. subst (AllByRecursion FuncIsFormed) (sym same) (all_end FuncIsFormed fs f h (subst FuncIsFormed (sym d.f_is) form));
      lines = ap (flat_map func_lines) same ∙ flat_end func_lines fs f ∙ ap (λ l. flat_map func_lines fs ++ l) line;
      back = λ h. all_front FuncIsWithin fs f (subst (AllByRecursion FuncIsWithin) same h);
    }

pub line_grown : (line : List (List ℕ)) (fs gs : List FuncCert) → add_line line fs ≡ Some gs → AllGrown fs line gs
unfolding add_line
line_grown [] fs gs e = absurd cc
line_grown (tag ∷ ws) fs gs e = by_test (bytes_eq tag (codes "function")) refl e
  where
    by_test : (t : Bool) → bytes_eq tag (codes "function") ≡ t
        → (if t then option_map (λ f. fs ++ f ∷ []) (function_of_words ws) else at_last (add_own tag ws) fs) ≡ Some gs → AllGrown fs (tag ∷ ws) gs
    by_test true h e = function_line tag ws fs gs h e
    by_test false h e = own_line tag ws fs gs e
