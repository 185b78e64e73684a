-- Laws, for the proofs of this crate and of those above it.
-- The lines of functions add up to these functions, and to no others.
use Rattle.std.proofs.Common.{◌≡◌, ℕ, ◌<◌, ◌≤◌, Bool, true, false, List, [], ◌∷◌, ◌++◌, map, Option, Some, refl, sym, ap, ◌∙◌, subst, arith, append_assoc, append-nil}
use Rattle.std.specs.Prelude.{◌==◌, ◌&&◌, ◌||◌, nat_lt, codes, flat_map, if◌then◌else◌}
use Rattle.std.specs.Option.{option_map}
use Rattle.std.specs.Str.{bytes_eq}
use Rattle.std.specs.List.{AllByRecursion}
use Rattle.std.proofs.lemmas.Bool.Decides.{nat_tests}
use Rattle.std.proofs.lemmas.List.{map-append}
use Rattle.camelot_values.specs.Lists.{Ascend}
use Rattle.annotations.specs.Vectors.{Vector, IsVector}
use Rattle.text_lines.specs.Numbers.{number}
use Rattle.certificate.specs.Text.{vector_words, param_words, result_lines, var_words, block_words, block_lines, make_words, function_words, func_lines}
use Rattle.certificate.specs.Certificates.{VarCert, BlockCert, MakeCert, FuncCert, IsNotZero, AreVars, MakesAscend, FuncIsFormed, FuncIsWithin}
use Rattle.certificate.specs.Reading.{last_of, is_after, makes_on, at_last, vector_of, var_of_words, block_of_words, make_of_words, function_of_words, bare_func, add_param, add_result, add_block, var_into, add_var, add_make, add_own, add_line}
use Rattle.text_lines.specs.Cuts.{and_then}
use Rattle.text_lines.specs.OptionLaws.{map_is, then_some, some_same}
use Rattle.certificate.specs.VectorLaws.{some_read}
use Rattle.certificate.specs.PartLaws.{var_read, block_read, make_read, function_read}
use Rattle.certificate.specs.GrowingLaws.{line_grown}

-- the functions with these lines more
abbrev pub adds : List (List (List ℕ)) → List FuncCert → Option (List FuncCert)
adds [] fs = Some fs
adds (l ∷ ls) fs = and_then (add_line l fs) (adds ls)

pub adds_step : (l : List (List ℕ)) (ls : List (List (List ℕ))) (fs gs : List FuncCert) → add_line l fs ≡ Some gs → adds (l ∷ ls) fs ≡ adds ls gs
adds_step l ls fs gs e = ap (λ o. and_then o (adds ls)) e

pub last_end : {A : Type 0} (step : A → Option A) (fs : List A) (f g : A) → step f ≡ Some g → at_last step (fs ++ f ∷ []) ≡ Some (fs ++ g ∷ [])
last_end step [] f g e = map_is (λ y. y ∷ []) (step f) g e
last_end step (x ∷ []) f g e = map_is (λ zs. x ∷ zs) (at_last step (f ∷ [])) (g ∷ []) (last_end step [] f g e)
last_end step (x ∷ y ∷ fs) f g e = map_is (λ zs. x ∷ zs) (at_last step (y ∷ (fs ++ f ∷ []))) (y ∷ (fs ++ g ∷ [])) (last_end step (y ∷ fs) f g e)

own_step : (tag : List ℕ) (ws : List (List ℕ)) (fs : List FuncCert) (f g : FuncCert) → bytes_eq tag (codes "function") ≡ false
    → add_own tag ws f ≡ Some g → add_line (tag ∷ ws) (fs ++ f ∷ []) ≡ Some (fs ++ g ∷ [])
unfolding add_line
own_step tag ws fs f g h e = ap (λ t. if t then option_map (λ k. (fs ++ f ∷ []) ++ k ∷ []) (function_of_words ws) else at_last (add_own tag ws) (fs ++ f ∷ [])) h ∙ last_end (add_own tag ws) fs f g e

ascend_mid : (xs : List ℕ) (y : ℕ) (ys : List ℕ) → Ascend (xs ++ y ∷ ys) → is_after (last_of xs) y ≡ true
ascend_mid [] y ys h = refl
ascend_mid (x ∷ []) y ys h = let k : x < y = h.0 in grind (arith, nat_tests, k)
ascend_mid (x ∷ z ∷ xs) y ys h = ascend_mid (z ∷ xs) y ys h.1

all_mid : {A : Type 0} (P : A → Type 0) (xs : List A) (y : A) (ys : List A) → AllByRecursion P (xs ++ y ∷ ys) → P y
all_mid P [] y ys h = h.0
all_mid P (x ∷ xs) y ys h = all_mid P xs y ys h.1

makes_mid : (ms : List MakeCert) (m : MakeCert) (ns : List MakeCert) → MakesAscend (ms ++ m ∷ ns) → makes_on ms m.block m.place ≡ true
makes_mid [] m ns h = refl
makes_mid (l ∷ []) m ns h = by_test (nat_lt l.block m.block) refl
  where
    within : (l.block ≡ m.block → l.place < m.place)
    within = h.1

    by_test : (t : Bool) → nat_lt l.block m.block ≡ t → (t || ((l.block == m.block) && nat_lt l.place m.place)) ≡ true
    by_test true e = refl
    by_test false e = let k : l.block ≤ m.block = h.0 in let s : l.block ≡ m.block = grind (arith, nat_tests, e, k) in let p : l.place < m.place = within s in grind (arith, nat_tests, s, p)
makes_mid (l ∷ n ∷ ms) m ns h = makes_mid (n ∷ ms) m ns h.2

-- a function with these parts
abbrev by_parts : FuncCert → List VarCert → Vector → List BlockCert → List MakeCert → FuncCert
by_parts f ps r bs ms = record { name = f.name; need = f.need; back = f.back; params = ps; result = r; blocks = bs; makes = ms }

-- ---- parameters

param_step : (f : FuncCert) (ps : List VarCert) (v : VarCert) → is_after (last_of (map (λ v. v.var) ps)) v.var ≡ true → IsNotZero v.vector
    → add_own (codes "param") (number v.var ∷ vector_words v.vector) (by_parts f ps [] [] []) ≡ Some (by_parts f (ps ++ v ∷ []) [] [] [])
unfolding add_own add_param
param_step f ps v h k = map_is (λ v. by_parts f (ps ++ v ∷ []) [] [] []) (var_of_words (last_of (map (λ v. v.var) ps)) (number v.var ∷ vector_words v.vector)) v (var_read (last_of (map (λ v. v.var) ps)) v h k)

-- a local among others
vars_mid : (vs : List VarCert) (v : VarCert) (ws : List VarCert) → AreVars (vs ++ v ∷ ws) → is_after (last_of (map (λ v. v.var) vs)) v.var ≡ true
vars_mid vs v ws h = ascend_mid (map (λ v. v.var) vs) v.var (map (λ v. v.var) ws) (subst Ascend (map-append (λ (v : VarCert). v.var) vs (v ∷ ws)) h.ascending)

params_add : (f : FuncCert) (ps qs : List VarCert) (rest : List (List (List ℕ))) (fs : List FuncCert) → AreVars (ps ++ qs)
    → adds (map param_words qs ++ rest) (fs ++ by_parts f ps [] [] [] ∷ []) ≡ adds rest (fs ++ by_parts f (ps ++ qs) [] [] [] ∷ [])
params_add f ps [] rest fs h = ap (λ l. adds rest (fs ++ by_parts f l [] [] [] ∷ [])) (sym (append-nil ps))
params_add f ps (v ∷ qs) rest fs h =
    let step = own_step (codes "param") (number v.var ∷ vector_words v.vector) fs (by_parts f ps [] [] []) (by_parts f (ps ++ v ∷ []) [] [] []) refl
    (param_step f ps v (vars_mid ps v qs h) (all_mid (λ (v : VarCert). IsNotZero v.vector) ps v qs h.each)) in
    let assoc : (ps ++ v ∷ []) ++ qs ≡ ps ++ v ∷ qs = append_assoc ps (v ∷ []) qs in
    adds_step (param_words v) (map param_words qs ++ rest) (fs ++ by_parts f ps [] [] [] ∷ []) (fs ++ by_parts f (ps ++ v ∷ []) [] [] [] ∷ []) step
    ∙ params_add f (ps ++ v ∷ []) qs rest fs (subst AreVars (sym assoc) h) ∙ ap (λ l. adds rest (fs ++ by_parts f l [] [] [] ∷ [])) assoc

-- ---- the result

result_step : (f : FuncCert) (ps : List VarCert) (r : Vector) → IsNotZero r
    → add_own (codes "result") (vector_words r) (by_parts f ps [] [] []) ≡ Some (by_parts f ps r [] [])
unfolding add_own add_result
result_step f ps r h = map_is (λ v. by_parts f ps v [] []) (vector_of (vector_words r)) r (some_read r h)

result_add : (f : FuncCert) (ps : List VarCert) (r : Vector) (rest : List (List (List ℕ))) (fs : List FuncCert) → IsVector r
    → adds (result_lines r ++ rest) (fs ++ by_parts f ps [] [] [] ∷ []) ≡ adds rest (fs ++ by_parts f ps r [] [] ∷ [])
result_add f ps [] rest fs h = refl
result_add f ps (p ∷ r) rest fs h =
    adds_step (codes "result" ∷ vector_words (p ∷ r)) rest (fs ++ by_parts f ps [] [] [] ∷ []) (fs ++ by_parts f ps (p ∷ r) [] [] ∷ [])
    (own_step (codes "result") (vector_words (p ∷ r)) fs (by_parts f ps [] [] []) (by_parts f ps (p ∷ r) [] []) refl (result_step f ps (p ∷ r) (record { form = h; some = omega arith })))

-- ---- blocks

abbrev with_vars : BlockCert → List VarCert → BlockCert
with_vars b vs = record { block = b.block; need = b.need; vars = vs }

block_step : (f : FuncCert) (ps : List VarCert) (r : Vector) (bs : List BlockCert) (b : BlockCert) → is_after (last_of (map (λ b. b.block) bs)) b.block ≡ true
    → add_own (codes "block") (number b.block ∷ codes "need" ∷ number b.need ∷ []) (by_parts f ps r bs []) ≡ Some (by_parts f ps r (bs ++ with_vars b [] ∷ []) [])
unfolding add_own add_block
block_step f ps r bs b h =
    map_is (λ b. by_parts f ps r (bs ++ b ∷ []) []) (block_of_words (last_of (map (λ b. b.block) bs)) (number b.block ∷ codes "need" ∷ number b.need ∷ [])) (with_vars b []) (block_read (last_of (map (λ b. b.block) bs)) b.block b.need h)

into_step : (b : BlockCert) (vs : List VarCert) (v : VarCert) → is_after (last_of (map (λ v. v.var) vs)) v.var ≡ true → IsNotZero v.vector
    → var_into (number v.var ∷ vector_words v.vector) (with_vars b vs) ≡ Some (with_vars b (vs ++ v ∷ []))
unfolding var_into
into_step b vs v h k = map_is (λ v. with_vars b (vs ++ v ∷ [])) (var_of_words (last_of (map (λ v. v.var) vs)) (number v.var ∷ vector_words v.vector)) v (var_read (last_of (map (λ v. v.var) vs)) v h k)

var_step : (f : FuncCert) (ps : List VarCert) (r : Vector) (bs : List BlockCert) (b : BlockCert) (vs : List VarCert) (v : VarCert)
    → is_after (last_of (map (λ v. v.var) vs)) v.var ≡ true → IsNotZero v.vector
    → add_own (codes "var") (number v.var ∷ vector_words v.vector) (by_parts f ps r (bs ++ with_vars b vs ∷ []) []) ≡ Some (by_parts f ps r (bs ++ with_vars b (vs ++ v ∷ []) ∷ []) [])
unfolding add_own add_var
var_step f ps r bs b vs v h k =
    map_is (λ bs. by_parts f ps r bs []) (at_last (var_into (number v.var ∷ vector_words v.vector)) (bs ++ with_vars b vs ∷ [])) (bs ++ with_vars b (vs ++ v ∷ []) ∷ [])
    (last_end (var_into (number v.var ∷ vector_words v.vector)) bs (with_vars b vs) (with_vars b (vs ++ v ∷ [])) (into_step b vs v h k))

vars_add : (f : FuncCert) (ps : List VarCert) (r : Vector) (bs : List BlockCert) (b : BlockCert) (vs ws : List VarCert) (rest : List (List (List ℕ))) (fs : List FuncCert) → AreVars (vs ++ ws)
    → adds (map var_words ws ++ rest) (fs ++ by_parts f ps r (bs ++ with_vars b vs ∷ []) [] ∷ []) ≡ adds rest (fs ++ by_parts f ps r (bs ++ with_vars b (vs ++ ws) ∷ []) [] ∷ [])
vars_add f ps r bs b vs [] rest fs h = ap (λ l. adds rest (fs ++ by_parts f ps r (bs ++ with_vars b l ∷ []) [] ∷ [])) (sym (append-nil vs))
vars_add f ps r bs b vs (v ∷ ws) rest fs h =
    let step = own_step (codes "var") (number v.var ∷ vector_words v.vector) fs (by_parts f ps r (bs ++ with_vars b vs ∷ []) []) (by_parts f ps r (bs ++ with_vars b (vs ++ v ∷ []) ∷ []) []) refl
    (var_step f ps r bs b vs v (vars_mid vs v ws h) (all_mid (λ (v : VarCert). IsNotZero v.vector) vs v ws h.each)) in
    let assoc : (vs ++ v ∷ []) ++ ws ≡ vs ++ v ∷ ws = append_assoc vs (v ∷ []) ws in
    adds_step (var_words v) (map var_words ws ++ rest) (fs ++ by_parts f ps r (bs ++ with_vars b vs ∷ []) [] ∷ []) (fs ++ by_parts f ps r (bs ++ with_vars b (vs ++ v ∷ []) ∷ []) [] ∷ []) step
    ∙ vars_add f ps r bs b (vs ++ v ∷ []) ws rest fs (subst AreVars (sym assoc) h) ∙ ap (λ l. adds rest (fs ++ by_parts f ps r (bs ++ with_vars b l ∷ []) [] ∷ [])) assoc

blocks_add : (f : FuncCert) (ps : List VarCert) (r : Vector) (bs cs : List BlockCert) (rest : List (List (List ℕ))) (fs : List FuncCert)
    → Ascend (map (λ b. b.block) (bs ++ cs)) → AllByRecursion (λ b. AreVars b.vars) cs
    → adds (flat_map block_lines cs ++ rest) (fs ++ by_parts f ps r bs [] ∷ []) ≡ adds rest (fs ++ by_parts f ps r (bs ++ cs) [] ∷ [])
blocks_add f ps r bs [] rest fs h k = ap (λ l. adds rest (fs ++ by_parts f ps r l [] ∷ [])) (sym (append-nil bs))
blocks_add f ps r bs (c ∷ cs) rest fs h k =
    let order = ascend_mid (map (λ b. b.block) bs) c.block (map (λ b. b.block) cs) (subst Ascend (map-append (λ (b : BlockCert). b.block) bs (c ∷ cs)) h) in
    let step = own_step (codes "block") (number c.block ∷ codes "need" ∷ number c.need ∷ []) fs (by_parts f ps r bs []) (by_parts f ps r (bs ++ with_vars c [] ∷ []) []) refl (block_step f ps r bs c order) in
    let assoc : (bs ++ c ∷ []) ++ cs ≡ bs ++ c ∷ cs = append_assoc bs (c ∷ []) cs in
    ap (λ l. adds (block_words c ∷ l) (fs ++ by_parts f ps r bs [] ∷ [])) (append_assoc (map var_words c.vars) (flat_map block_lines cs) rest)
    ∙ adds_step (block_words c) (map var_words c.vars ++ (flat_map block_lines cs ++ rest)) (fs ++ by_parts f ps r bs [] ∷ []) (fs ++ by_parts f ps r (bs ++ with_vars c [] ∷ []) [] ∷ []) step
    ∙ vars_add f ps r bs c [] c.vars (flat_map block_lines cs ++ rest) fs k.0
    ∙ blocks_add f ps r (bs ++ c ∷ []) cs rest fs (subst (λ l. Ascend (map (λ (b : BlockCert). b.block) l)) (sym assoc) h) k.1
    ∙ ap (λ l. adds rest (fs ++ by_parts f ps r l [] ∷ [])) assoc

-- ---- builds

make_step : (f : FuncCert) (ps : List VarCert) (r : Vector) (bs : List BlockCert) (ms : List MakeCert) (m : MakeCert)
    → makes_on ms m.block m.place ≡ true → IsNotZero m.vector
    → add_own (codes "make") (number m.block ∷ number m.place ∷ vector_words m.vector) (by_parts f ps r bs ms) ≡ Some (by_parts f ps r bs (ms ++ m ∷ []))
unfolding add_own add_make
make_step f ps r bs ms m h k = map_is (λ m. by_parts f ps r bs (ms ++ m ∷ [])) (make_of_words ms (number m.block ∷ number m.place ∷ vector_words m.vector)) m (make_read ms m h k)

makes_add : (f : FuncCert) (ps : List VarCert) (r : Vector) (bs : List BlockCert) (ms ns : List MakeCert) (rest : List (List (List ℕ))) (fs : List FuncCert) → MakesAscend (ms ++ ns) → AllByRecursion (λ m. IsNotZero m.vector) ns
    → adds (map make_words ns ++ rest) (fs ++ by_parts f ps r bs ms ∷ []) ≡ adds rest (fs ++ by_parts f ps r bs (ms ++ ns) ∷ [])
makes_add f ps r bs ms [] rest fs h k = ap (λ l. adds rest (fs ++ by_parts f ps r bs l ∷ [])) (sym (append-nil ms))
makes_add f ps r bs ms (m ∷ ns) rest fs h k =
    let step = own_step (codes "make") (number m.block ∷ number m.place ∷ vector_words m.vector) fs (by_parts f ps r bs ms) (by_parts f ps r bs (ms ++ m ∷ [])) refl (make_step f ps r bs ms m (makes_mid ms m ns h) k.0) in
    let assoc : (ms ++ m ∷ []) ++ ns ≡ ms ++ m ∷ ns = append_assoc ms (m ∷ []) ns in
    adds_step (make_words m) (map make_words ns ++ rest) (fs ++ by_parts f ps r bs ms ∷ []) (fs ++ by_parts f ps r bs (ms ++ m ∷ []) ∷ []) step
    ∙ makes_add f ps r bs (ms ++ m ∷ []) ns rest fs (subst MakesAscend (sym assoc) h) k.1 ∙ ap (λ l. adds rest (fs ++ by_parts f ps r bs l ∷ [])) assoc

-- ---- functions

function_step : (fs : List FuncCert) (f : FuncCert) → FuncIsFormed f → add_line (function_words f) fs ≡ Some (fs ++ bare_func f.name f.need f.back ∷ [])
unfolding add_line
function_step fs f h = map_is (λ g. fs ++ g ∷ []) (function_of_words (f.name ∷ codes "need" ∷ number f.need ∷ codes "back" ∷ number f.back ∷ [])) (bare_func f.name f.need f.back) (function_read f.name f.need f.back h.name)

func_add : (f : FuncCert) (rest : List (List (List ℕ))) (fs : List FuncCert) → FuncIsFormed f → adds (func_lines f ++ rest) fs ≡ adds rest (fs ++ f ∷ [])
func_add f rest fs h =
    let B : List (List (List ℕ)) = flat_map block_lines f.blocks in
    let M : List (List (List ℕ)) = map make_words f.makes in
    let shape : (map param_words f.params ++ (result_lines f.result ++ (B ++ M))) ++ rest ≡ map param_words f.params
    ++ (result_lines f.result ++ (B ++ (M ++ rest))) =
    append_assoc (map param_words f.params) (result_lines f.result ++ (B ++ M)) rest ∙ ap (λ l. map param_words f.params ++ l) (append_assoc (result_lines f.result) (B ++ M) rest ∙ ap (λ l. result_lines f.result ++ l) (append_assoc B M rest)) in
    ap (λ l. adds (function_words f ∷ l) fs) shape
    ∙ adds_step (function_words f) (map param_words f.params ++ (result_lines f.result ++ (B ++ (M ++ rest)))) fs (fs ++ bare_func f.name f.need f.back ∷ []) (function_step fs f h)
    ∙ params_add f [] f.params (result_lines f.result ++ (B ++ (M ++ rest))) fs h.params
    ∙ result_add f f.params f.result (B ++ (M ++ rest)) fs h.result
    ∙ blocks_add f f.params f.result [] f.blocks (M ++ rest) fs h.blocks h.vars
    ∙ makes_add f f.params f.result f.blocks [] f.makes rest fs h.makes h.each_make

funcs_add : (gs : List FuncCert) (rest : List (List (List ℕ))) (fs : List FuncCert) → AllByRecursion FuncIsFormed gs
    → adds (flat_map func_lines gs ++ rest) fs ≡ adds rest (fs ++ gs)
funcs_add [] rest fs h = ap (adds rest) (sym (append-nil fs))
funcs_add (g ∷ gs) rest fs h =
    ap (λ l. adds l fs) (append_assoc (func_lines g) (flat_map func_lines gs) rest) ∙ func_add g (flat_map func_lines gs ++ rest) fs h.0
    ∙ funcs_add gs rest (fs ++ g ∷ []) h.1 ∙ ap (adds rest) (append_assoc fs (g ∷ []) gs)

-- the lines of functions in form add up to them
pub adds_all : (gs : List FuncCert) (rest : List (List (List ℕ))) → AllByRecursion FuncIsFormed gs → adds (flat_map func_lines gs ++ rest) [] ≡ adds rest gs
adds_all gs rest h = funcs_add gs rest [] h

pub adds_whole : (gs : List FuncCert) → AllByRecursion FuncIsFormed gs → adds (flat_map func_lines gs) [] ≡ Some gs
adds_whole gs h = ap (λ l. adds l []) (sym (append-nil (flat_map func_lines gs))) ∙ adds_all gs [] h

-- functions with the same lines are the same
pub funcs_one : (fs gs : List FuncCert) → AllByRecursion FuncIsFormed fs → AllByRecursion FuncIsFormed gs
    → flat_map func_lines fs ≡ flat_map func_lines gs → fs ≡ gs
funcs_one fs gs h k e = some_same fs gs (sym (adds_whole fs h) ∙ ap (λ l. adds l []) e ∙ adds_whole gs k)

-- what comes behind the lines of these functions in those of others
pub record Next (line : List (List ℕ)) (rest : List (List (List ℕ))) (fs gs : List FuncCert) : Type 0 where
  pub new : List FuncCert
  pub found : add_line line fs ≡ Some new
  pub others : adds rest new ≡ Some gs

pub next_line : (fs gs : List FuncCert) (line : List (List ℕ)) (rest : List (List (List ℕ))) → AllByRecursion FuncIsFormed fs → AllByRecursion FuncIsFormed gs
    → flat_map func_lines gs ≡ flat_map func_lines fs ++ line ∷ rest → Next line rest fs gs
next_line fs gs line rest h k e =
    let all : adds (line ∷ rest) fs ≡ Some gs = sym (adds_all fs (line ∷ rest) h) ∙ ap (λ l. adds l []) (sym e) ∙ adds_whole gs k in
    let (new, found, others) = then_some (add_line line fs) (adds rest) gs all in
    record { new = new; found = found; others = others }

pub adds_back : (rest : List (List (List ℕ))) (fs gs : List FuncCert) → adds rest fs ≡ Some gs → AllByRecursion FuncIsWithin gs → AllByRecursion FuncIsWithin fs
adds_back [] fs gs e h = subst (AllByRecursion FuncIsWithin) (sym (some_same fs gs e)) h
adds_back (l ∷ rest) fs gs e h =
    let (new, found, others) = then_some (add_line l fs) (adds rest) gs e in
    (line_grown l fs new found).back (adds_back rest new gs others h)
