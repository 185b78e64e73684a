-- Laws, for the proofs of this crate and of those above it.
-- The words of one line, and what is read of them.
use Rattle.std.proofs.Common.{◌≡◌, ℕ, ◌≤◌, Bool, true, List, [], ◌∷◌, Option, Some, refl, sym, ap, ◌∙◌, subst}
use Rattle.std.specs.Prelude.{◌==◌, ◌&&◌, not, codes}
use Rattle.std.specs.Option.{option_map}
use Rattle.std.specs.Str.{bytes_eq}
use Rattle.camelot_values.specs.Names.{IsLowerName, is_lower, is_lower_name}
use Rattle.camelot_values.specs.NameLaws.{name_passes, passing_name}
use Rattle.text_lines.specs.Numbers.{number}
use Rattle.certificate.specs.Text.{vector_words, unit_words}
use Rattle.certificate.specs.Certificates.{VarCert, BlockCert, MakeCert, FuncCert, IsNotZero}
use Rattle.certificate.specs.Reading.{vector_of, is_after, makes_on, var_of_words, block_of_words, make_of_words, function_of_words, bare_func, unit_of}
use Rattle.text_lines.specs.Cuts.{and_then, only_if, number_of}
use Rattle.text_lines.specs.OptionLaws.{same_bytes, and_parts, and_both, then_some, then_is, only_some, only_is, map_some, map_is, some_same}
use Rattle.text_lines.specs.NumberLaws.{number_read, number_found}
use Rattle.certificate.specs.VectorLaws.{not_zero, some_units, some_read, some_found}

-- ---- locals

pub var_read : (last : Option ℕ) (v : VarCert) → is_after last v.var ≡ true → IsNotZero v.vector
    → var_of_words last (number v.var ∷ vector_words v.vector) ≡ Some v
unfolding var_of_words
var_read last v h k =
    then_is (number_of (number v.var)) (λ n. only_if (is_after last n) (option_map (λ w. record { var = n; vector = w }) (vector_of (vector_words v.vector)))) v.var (Some v) (number_read v.var)
    (only_is (is_after last v.var) (option_map (λ w. record { var = v.var; vector = w }) (vector_of (vector_words v.vector))) (Some v) h
    (map_is (λ w. record { var = v.var; vector = w }) (vector_of (vector_words v.vector)) v.vector (some_read v.vector k)))

pub record VarFound (last : Option ℕ) (ws : List (List ℕ)) (v : VarCert) : Type 0 where
  pub is : ws ≡ number v.var ∷ vector_words v.vector
  pub order : is_after last v.var ≡ true
  pub form : IsNotZero v.vector

pub var_found : (last : Option ℕ) (ws : List (List ℕ)) (v : VarCert) → var_of_words last ws ≡ Some v → VarFound last ws v
unfolding var_of_words
var_found last [] v e = absurd cc
var_found last (w ∷ ws) v e =
    let (n, n_is, rest) = then_some (number_of w) (λ n. only_if (is_after last n) (option_map (λ v. record { var = n; vector = v }) (vector_of ws))) v e in
    let (order, found) = only_some (is_after last n) (option_map (λ v. record { var = n; vector = v }) (vector_of ws)) v rest in
    let (vector, vector_is, same) = map_some (λ v. record { var = n; vector = v }) (vector_of ws) v found in
    let d = some_found ws vector vector_is in
    let all : VarFound last (w ∷ ws) (record { var = n; vector = vector }) = record { is = ap (λ l. l ∷ ws) (number_found w n n_is) ∙ ap (λ l. number n ∷ l) d.is; order = order; form = d.form } in
    subst (VarFound last (w ∷ ws)) (sym same) all

-- ---- blocks

pub block_read : (last : Option ℕ) (block need : ℕ) → is_after last block ≡ true → block_of_words last (number block ∷ codes "need" ∷ number need ∷ []) ≡ Some (record { block = block; need = need; vars = [] })
unfolding block_of_words
block_read last block need h =
    let b : BlockCert = record { block = block; need = need; vars = [] } in
    then_is (number_of (number block)) (λ k. and_then (number_of (number need)) (λ n. only_if (bytes_eq (codes "need") (codes "need") && is_after last k) (Some (record { block = k; need = n; vars = [] })))) block (Some b) (number_read block)
    (then_is (number_of (number need)) (λ n. only_if (bytes_eq (codes "need") (codes "need") && is_after last block) (Some (record { block = block; need = n; vars = [] }))) need (Some b) (number_read need)
    (only_is (bytes_eq (codes "need") (codes "need") && is_after last block) (Some b) (Some b) (and_both (bytes_eq (codes "need") (codes "need")) (is_after last block) refl h) refl))

pub record BlockFound (last : Option ℕ) (ws : List (List ℕ)) (b : BlockCert) : Type 0 where
  pub is : ws ≡ number b.block ∷ codes "need" ∷ number b.need ∷ []
  pub order : is_after last b.block ≡ true
  pub bare : b.vars ≡ []

pub block_found : (last : Option ℕ) (ws : List (List ℕ)) (b : BlockCert) → block_of_words last ws ≡ Some b → BlockFound last ws b
unfolding block_of_words
block_found last [] b e = absurd cc
block_found last (x ∷ []) b e = absurd cc
block_found last (x ∷ w ∷ []) b e = absurd cc
block_found last (x ∷ w ∷ y ∷ z ∷ ws) b e = absurd cc
block_found last (x ∷ w ∷ y ∷ []) b e =
    let (block, block_is, rest) = then_some (number_of x) (λ k. and_then (number_of y) (λ n. only_if (bytes_eq w (codes "need") && is_after last k) (Some (record { block = k; need = n; vars = [] })))) b e in
    let (need, need_is, last_part) = then_some (number_of y) (λ n. only_if (bytes_eq w (codes "need") && is_after last block) (Some (record { block = block; need = n; vars = [] }))) b rest in
    let c : BlockCert = record { block = block; need = need; vars = [] } in
    let (test, same) = only_some (bytes_eq w (codes "need") && is_after last block) (Some c) b last_part in
    let parts = and_parts (bytes_eq w (codes "need")) (is_after last block) test in
    let all : BlockFound last (x ∷ w ∷ y ∷ []) c = record {
      is = ap (λ l. l ∷ w ∷ y ∷ []) (number_found x block block_is) ∙ ap (λ l. number block ∷ l ∷ y ∷ []) (same_bytes w (codes "need") parts.0) ∙ ap (λ l. number block ∷ codes "need" ∷ l ∷ []) (number_found y need need_is);
      order = parts.1;
      bare = refl;
    } in
    subst (BlockFound last (x ∷ w ∷ y ∷ [])) (some_same c b same) all

-- ---- builds

pub make_read : (makes : List MakeCert) (m : MakeCert) → makes_on makes m.block m.place ≡ true → IsNotZero m.vector
    → make_of_words makes (number m.block ∷ number m.place ∷ vector_words m.vector) ≡ Some m
unfolding make_of_words
make_read makes m h k =
    then_is (number_of (number m.block)) (λ b. and_then (number_of (number m.place)) (λ p. only_if (makes_on makes b p) (option_map (λ v. record { block = b; place = p; vector = v }) (vector_of (vector_words m.vector))))) m.block (Some m) (number_read m.block)
    (then_is (number_of (number m.place)) (λ p. only_if (makes_on makes m.block p) (option_map (λ v. record { block = m.block; place = p; vector = v }) (vector_of (vector_words m.vector)))) m.place (Some m) (number_read m.place)
    (only_is (makes_on makes m.block m.place) (option_map (λ v. record { block = m.block; place = m.place; vector = v }) (vector_of (vector_words m.vector))) (Some m) h
    (map_is (λ v. record { block = m.block; place = m.place; vector = v }) (vector_of (vector_words m.vector)) m.vector (some_read m.vector k))))

pub record MakeFound (makes : List MakeCert) (ws : List (List ℕ)) (m : MakeCert) : Type 0 where
  pub is : ws ≡ number m.block ∷ number m.place ∷ vector_words m.vector
  pub order : makes_on makes m.block m.place ≡ true
  pub form : IsNotZero m.vector

pub make_found : (makes : List MakeCert) (ws : List (List ℕ)) (m : MakeCert) → make_of_words makes ws ≡ Some m → MakeFound makes ws m
unfolding make_of_words
make_found makes [] m e = absurd cc
make_found makes (x ∷ []) m e = absurd cc
make_found makes (x ∷ y ∷ ws) m e =
    let (block, block_is, rest) = then_some (number_of x) (λ b. and_then (number_of y) (λ p. only_if (makes_on makes b p) (option_map (λ v. record { block = b; place = p; vector = v }) (vector_of ws)))) m e in
    let (place, place_is, last) = then_some (number_of y) (λ p. only_if (makes_on makes block p) (option_map (λ v. record { block = block; place = p; vector = v }) (vector_of ws))) m rest in
    let (order, found) = only_some (makes_on makes block place) (option_map (λ v. record { block = block; place = place; vector = v }) (vector_of ws)) m last in
    let (vector, vector_is, same) = map_some (λ v. record { block = block; place = place; vector = v }) (vector_of ws) m found in
    let d = some_found ws vector vector_is in
    let all : MakeFound makes (x ∷ y ∷ ws) (record { block = block; place = place; vector = vector }) = record {
      is = ap (λ l. l ∷ y ∷ ws) (number_found x block block_is) ∙ ap (λ l. number block ∷ l ∷ ws) (number_found y place place_is) ∙ ap (λ l. number block ∷ number place ∷ l) d.is;
      order = order;
      form = d.form;
    } in
    subst (MakeFound makes (x ∷ y ∷ ws)) (sym same) all

-- ---- functions

name_test : (name : List ℕ) → IsLowerName name → is_lower_name name ≡ true
name_test name h = name_passes is_lower name h

test_name : (name : List ℕ) → is_lower_name name ≡ true → IsLowerName name
test_name name h = passing_name is_lower name h

pub function_read : (name : List ℕ) (need back : ℕ) → IsLowerName name
    → function_of_words (name ∷ codes "need" ∷ number need ∷ codes "back" ∷ number back ∷ []) ≡ Some (bare_func name need back)
unfolding function_of_words
function_read name need back h =
    let t : (is_lower_name name && bytes_eq (codes "need") (codes "need") && bytes_eq (codes "back") (codes "back")) ≡ true =
    and_both (is_lower_name name && bytes_eq (codes "need") (codes "need")) (bytes_eq (codes "back") (codes "back")) (and_both (is_lower_name name) (bytes_eq (codes "need") (codes "need")) (name_test name h) refl) refl in
    let T : Bool = is_lower_name name && bytes_eq (codes "need") (codes "need") && bytes_eq (codes "back") (codes "back") in
    then_is (number_of (number need)) (λ n. and_then (number_of (number back)) (λ b. only_if T (Some (bare_func name n b)))) need (Some (bare_func name need back)) (number_read need)
    (then_is (number_of (number back)) (λ b. only_if T (Some (bare_func name need b))) back (Some (bare_func name need back)) (number_read back)
    (only_is T (Some (bare_func name need back)) (Some (bare_func name need back)) t refl))

pub record FunctionFound (ws : List (List ℕ)) (f : FuncCert) : Type 0 where
  pub name : List ℕ
  pub need : ℕ
  pub back : ℕ
  pub is : ws ≡ name ∷ codes "need" ∷ number need ∷ codes "back" ∷ number back ∷ []
  pub f_is : f ≡ bare_func name need back
  pub form : IsLowerName name

pub function_found : (ws : List (List ℕ)) (f : FuncCert) → function_of_words ws ≡ Some f → FunctionFound ws f
unfolding function_of_words
function_found [] f e = absurd cc
function_found (a ∷ []) f e = absurd cc
function_found (a ∷ w ∷ []) f e = absurd cc
function_found (a ∷ w ∷ x ∷ []) f e = absurd cc
function_found (a ∷ w ∷ x ∷ v ∷ []) f e = absurd cc
function_found (a ∷ w ∷ x ∷ v ∷ y ∷ z ∷ ws) f e = absurd cc
function_found (a ∷ w ∷ x ∷ v ∷ y ∷ []) f e =
    let T : Bool = is_lower_name a && bytes_eq w (codes "need") && bytes_eq v (codes "back") in
    let (need, need_is, rest) = then_some (number_of x) (λ n. and_then (number_of y) (λ b. only_if T (Some (bare_func a n b)))) f e in
    let (back, back_is, last) = then_some (number_of y) (λ b. only_if T (Some (bare_func a need b))) f rest in
    let (test, same) = only_some T (Some (bare_func a need back)) f last in
    let outer = and_parts (is_lower_name a && bytes_eq w (codes "need")) (bytes_eq v (codes "back")) test in
    let inner = and_parts (is_lower_name a) (bytes_eq w (codes "need")) outer.0 in
    record {
      name = a;
      need = need;
      back = back;
      is = ap (λ l. a ∷ l ∷ x ∷ v ∷ y ∷ []) (same_bytes w (codes "need") inner.1) ∙ ap (λ l. a ∷ codes "need" ∷ l ∷ v ∷ y ∷ []) (number_found x need need_is)
          ∙ ap (λ l. a ∷ codes "need" ∷ number need ∷ l ∷ y ∷ []) (same_bytes v (codes "back") outer.1) ∙ ap (λ l. a ∷ codes "need" ∷ number need ∷ codes "back" ∷ l ∷ []) (number_found y back back_is);
      f_is = sym (some_same (bare_func a need back) f same);
      form = test_name a inner.0;
    }

-- ---- the unit

pub unit_read : (unit : ℕ) → 1 ≤ unit → unit_of (unit_words unit) ≡ Some unit
unfolding unit_of
unit_read unit h =
    then_is (number_of (number unit)) (λ n. only_if (bytes_eq (codes "unit") (codes "unit") && not (n == 0)) (Some n)) unit (Some unit) (number_read unit)
    (only_is (bytes_eq (codes "unit") (codes "unit") && not (unit == 0)) (Some unit) (Some unit) (and_both (bytes_eq (codes "unit") (codes "unit")) (not (unit == 0)) refl (not_zero unit h)) refl)

pub unit_found : (ws : List (List ℕ)) (unit : ℕ) → unit_of ws ≡ Some unit → (ws ≡ unit_words unit) × (1 ≤ unit)
unfolding unit_of
unit_found [] unit e = absurd cc
unit_found (t ∷ []) unit e = absurd cc
unit_found (t ∷ w ∷ v ∷ ws) unit e = absurd cc
unit_found (t ∷ w ∷ []) unit e =
    let (n, n_is, last) = then_some (number_of w) (λ n. only_if (bytes_eq t (codes "unit") && not (n == 0)) (Some n)) unit e in
    let (test, same) = only_some (bytes_eq t (codes "unit") && not (n == 0)) (Some n) unit last in
    let parts = and_parts (bytes_eq t (codes "unit")) (not (n == 0)) test in
    let s : n ≡ unit = some_same n unit same in
    (ap (λ l. l ∷ w ∷ []) (same_bytes t (codes "unit") parts.0) ∙ ap (λ l. codes "unit" ∷ l ∷ []) (number_found w n n_is ∙ ap number s), subst (λ k. 1 ≤ k) s (some_units n parts.1))
