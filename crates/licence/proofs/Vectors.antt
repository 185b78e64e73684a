-- Finding annotations, and adding up what arguments carry.
use Rattle.std.proofs.Common.{◌≡◌, ℕ, zero, suc, ◌+◌, ◌<◌, ◌≤◌, Bool, true, false, List, [], ◌∷◌, length, map, drop, get_or, Some, None, refl, sym, ap, ◌∙◌, subst, arith}
use Rattle.std.specs.Prelude.{◌*◌, ◌==◌, if◌then◌else◌, slice_get, cond}
use Rattle.std.proofs.lemmas.Bool.Decides.{nat_tests}
use Rattle.std.specs.List.{AllByRecursion}
use Rattle.camelot_values.specs.Value as value
use Rattle.camelot_values.specs.Value.{Value, Values, parts}
use Rattle.camelot_values.specs.Kinds.{DataType}
use Rattle.camelot_values.specs.Counts.{cells, cells_among, size, size_all}
use Rattle.camelot_values.specs.CountLaws.{cells_all_within}
use Rattle.annotations.specs.Vectors.{Vector, at, is_heap_con, node_units, potential, potential_all}
use Rattle.annotations.specs.PotentialLaws.{at_within, potential_within}
use Rattle.certificate.specs.Certificates.{VarCert, VarIsWithin}
use Rattle.certificate.specs.Words.{var_of}
use Rattle.certificate.specs.declared.types.VarCert.{VarCert as DeclaredVar}
use Rattle.licence.specs.Books.{Carried, vector_of}
use Rattle.licence.specs.Bound.{arguments_carry}

var_here : (v : VarCert) (vs : List VarCert) (x : ℕ) → v.var ≡ x → v.vector ≡ vector_of (v ∷ vs) x
var_here v vs x e = let t : (v.var == x) ≡ true = grind (arith, nat_tests, e) in sym (ap (λ b. if b then v.vector else vector_of vs x) t)

var_later : (v : VarCert) (vs : List VarCert) (x : ℕ) → (v.var ≡ x → ⊥) → vector_of vs x ≡ vector_of (v ∷ vs) x
var_later v vs x n = by_test (v.var == x) refl
  where
    by_test : (b : Bool) → (v.var == x) ≡ b → vector_of vs x ≡ (if b then v.vector else vector_of vs x)
    by_test true e = absurd (n (grind (arith, nat_tests, e)))
    by_test false e = refl

-- the line at this place, and those behind it
record Split (vars : List DeclaredVar) (i : ℕ) (v : DeclaredVar) : Type 0 where
  is : drop i vars ≡ v ∷ drop (suc i) vars

split : (vars : List DeclaredVar) (i : ℕ) (v : DeclaredVar) → slice_get vars i ≡ Some v → Split vars i v
split [] i v e = let c : None ≡ Some v = e in absurd cc
split (w ∷ vars) zero v e = let same : w ≡ v = cc in record { is = ap (λ u. u ∷ vars) same }
split (w ∷ vars) (suc i) v e = record { is = (split vars i v e).is }

pub here : (vars : List DeclaredVar) (i x : ℕ) (v : DeclaredVar) → slice_get vars i ≡ Some v
    → vector_of (map var_of (drop i vars)) x ≡ vector_of (map var_of vars) x → v.var ≡ x → v.vector ≡ vector_of (map var_of vars) x
here vars i x v at known e =
    let s = split vars i v at in
    var_here (var_of v) (map var_of (drop (suc i) vars)) x e ∙ sym (ap (λ vs. vector_of (map var_of vs) x) s.is) ∙ known

pub later : (vars : List DeclaredVar) (i x : ℕ) (v : DeclaredVar) → slice_get vars i ≡ Some v
    → vector_of (map var_of (drop i vars)) x ≡ vector_of (map var_of vars) x → (v.var ≡ x → ⊥)
    → vector_of (map var_of (drop (i + 1) vars)) x ≡ vector_of (map var_of vars) x
later vars i x v at known n =
    let s = split vars i v at in
    let next : i + 1 ≡ suc i = omega arith in
    ap (λ j. vector_of (map var_of (drop j vars)) x) next ∙ var_later (var_of v) (map var_of (drop (suc i) vars)) x n ∙ sym (ap (λ vs. vector_of (map var_of vs) x) s.is) ∙ known

drop_nothing : {A : Type 0} (i : ℕ) → ◌≡◌ {A = List A} (drop i []) []
drop_nothing zero = refl
drop_nothing (suc i) = refl

drop_all : {A : Type 0} (xs : List A) (i : ℕ) → length xs ≤ i → drop i xs ≡ []
drop_all [] i h = drop_nothing i
drop_all (x ∷ xs) zero h = absurd (omega (arith, h))
drop_all (x ∷ xs) (suc i) h = drop_all xs i (omega (arith, h))

pub nowhere : (vars : List DeclaredVar) (i x : ℕ) → length vars ≤ i → vector_of (map var_of (drop i vars)) x ≡ vector_of (map var_of vars) x
    → [] ≡ vector_of (map var_of vars) x
nowhere vars i x h known = sym (ap (λ vs. vector_of (map var_of vs) x) (drop_all vars i h)) ∙ known

-- ---- sums

pub item_got : {A : Type 0} (xs : List A) (i : ℕ) (x d : A) → i < length xs → x ≡ get_or xs i d → slice_get xs i ≡ Some x
item_got [] i x d h e = absurd (omega (arith, h))
item_got (y ∷ xs) zero x d h e = ap (λ z. Some z) (sym e)
item_got (y ∷ xs) (suc i) x d h e = item_got xs i x d (omega (arith, h)) e

-- there are no more arguments than nodes in them
some_nodes : (v : Value) → 1 ≤ size v
some_nodes (value.Int z) = omega arith
some_nodes (value.Flag b) = omega arith
some_nodes value.Dia = omega arith
some_nodes (value.Con c vs) = omega arith

pub few_arguments : (vs : List Value) → length vs ≤ size_all (parts vs)
few_arguments [] = omega arith
few_arguments (v ∷ vs) = let one = some_nodes v in let rest = few_arguments vs in omega (arith, one, rest)

pub count_few : (vs : List Value) → size_all (parts vs) ≤ 65536 → length vs ≤ 4294967295
count_few vs few = let h = few_arguments vs in omega (arith, h, few)

item_here : {A : Type 0} (xs : List A) (i : ℕ) (x : A) → slice_get xs i ≡ Some x → drop i xs ≡ x ∷ drop (suc i) xs
item_here [] i x e = let c : None ≡ Some x = e in absurd cc
item_here (y ∷ xs) zero x e = let same : y ≡ x = cc in ap (λ u. u ∷ xs) same
item_here (y ∷ xs) (suc i) x e = item_here xs i x e

pub one_more : (types : List DataType) (carried : Carried ℕ) (total number i whole : ℕ) (args : List Value) (v : Value) → slice_get args i ≡ Some v
    → total + arguments_carry types carried number (drop i args) ≡ whole
    → total + potential types (carried number) v + arguments_carry types carried (number + 1) (drop (i + 1) args) ≡ whole
one_more types carried total number i whole args v at known =
    let a : number + 1 ≡ suc number = omega arith in
    let b : i + 1 ≡ suc i = omega arith in
    let rest : arguments_carry types carried (number + 1) (drop (i + 1) args) ≡ arguments_carry types carried (suc number) (drop (suc i) args) = ap (λ n. arguments_carry types carried n (drop (i + 1) args)) a ∙ ap (λ j. arguments_carry types carried (suc number) (drop j args)) b in
    let here : arguments_carry types carried number (drop i args) ≡ potential types (carried number) v + arguments_carry types carried (suc number) (drop (suc i) args) = ap (arguments_carry types carried number) (item_here args i v at) in
    omega (arith, rest, here, known)

-- what is still to come is no more than the whole
pub one_within : (types : List DataType) (carried : Carried ℕ) (total number i whole : ℕ) (args : List Value) (v : Value) → slice_get args i ≡ Some v
    → total + arguments_carry types carried number (drop i args) ≡ whole
    → total + potential types (carried number) v ≤ whole
one_within types carried total number i whole args v at known =
    let here : arguments_carry types carried number (drop i args) ≡ potential types (carried number) v + arguments_carry types carried (suc number) (drop (suc i) args) = ap (arguments_carry types carried number) (item_here args i v at) in
    omega (arith, here, known)

pub all_added : (types : List DataType) (carried : Carried ℕ) (total number i whole : ℕ) (args : List Value) → length args ≤ i
    → total + arguments_carry types carried number (drop i args) ≡ whole → total ≡ whole
all_added types carried total number i whole args h known =
    let none : arguments_carry types carried number (drop i args) ≡ 0 = ap (arguments_carry types carried number) (drop_all args i h) in omega (arith, none, known)

pub one_more_cells : (types : List DataType) (total i whole : ℕ) (args : List Value) (v : Value) → slice_get args i ≡ Some v
    → total + cells_among types (drop i args) ≡ whole
    → total + cells types v + cells_among types (drop (i + 1) args) ≡ whole
one_more_cells types total i whole args v at known =
    let b : i + 1 ≡ suc i = omega arith in
    let rest : cells_among types (drop (i + 1) args) ≡ cells_among types (drop (suc i) args) = ap (λ j. cells_among types (drop j args)) b in
    let here : cells_among types (drop i args) ≡ cells types v + cells_among types (drop (suc i) args) = ap (cells_among types) (item_here args i v at) in
    omega (arith, rest, here, known)

pub all_cells : (types : List DataType) (total i whole : ℕ) (args : List Value) → length args ≤ i → total + cells_among types (drop i args) ≡ whole
    → total ≡ whole
all_cells types total i whole args h known =
    let none : cells_among types (drop i args) ≡ 0 = ap (cells_among types) (drop_all args i h) in omega (arith, none, known)

-- so that the sum fits
pub cells_fit : (types : List DataType) (total i : ℕ) (args : List Value) (v : Value) → slice_get args i ≡ Some v
    → total + cells_among types (drop i args) ≡ cells_among types args → size_all (parts args) ≤ 65536
    → total + cells types v ≤ 65536
cells_fit types total i args v at known few =
    let here : cells_among types (drop i args) ≡ cells types v + cells_among types (drop (suc i) args) = ap (cells_among types) (item_here args i v at) in
    let within = cells_all_within types (parts args) in
    omega (arith, here, known, few, within)

-- ---- no annotations

mutual
  no_units : (types : List DataType) (v : Value) → 0 ≡ potential types (at []) v
  no_units types (value.Int z) = refl
  no_units types (value.Flag b) = refl
  no_units types value.Dia = refl
  no_units types (value.Con c vs) = let rest = no_units_all types vs in let node : node_units types (at []) c ≡ 0 = by_test (is_heap_con types c) in omega (arith, rest, node)
    where
      by_test : (b : Bool) → ◌≡◌ {A = ℕ} (cond b 0 0) 0
      by_test true = refl
      by_test false = refl

  no_units_all : (types : List DataType) (vs : Values) → 0 ≡ potential_all types (at []) vs
  no_units_all types value.End = refl
  no_units_all types (value.And v vs) = let one = no_units types v in let rest = no_units_all types vs in omega (arith, one, rest)

pub nothing_carried : (types : List DataType) (vector : Vector) (v : Value) → [] ≡ vector → 0 ≡ potential types (at vector) v
nothing_carried types vector v e = no_units types v ∙ ap (λ u. potential types (at u) v) e

-- ---- bounds

vector_within : (vars : List VarCert) (x : ℕ) → AllByRecursion VarIsWithin vars → (con : ℕ) → at (vector_of vars x) con ≤ 2147483648
vector_within [] x h con = omega arith
vector_within (v ∷ vs) x h con = by_test (vector_within vs x h.1 con) (v.var == x)
  where
    every : (ps : Vector) → AllByRecursion (λ p. (p.0 ≤ 4294967295) × (p.1 ≤ 2147483648)) ps → AllByRecursion (λ p. p.1 ≤ 2147483648) ps
    every [] g = tt
    every (q ∷ qs) g = (g.0.1, every qs g.1)

    by_test : at (vector_of vs x) con ≤ 2147483648 → (b : Bool) → at (if b then v.vector else vector_of vs x) con ≤ 2147483648
    by_test rest true = at_within v.vector 2147483648 (every v.vector h.0.vector) con
    by_test rest false = rest

carry_within : (types : List DataType) (carried : Carried ℕ) (m n : ℕ) (vs : List Value) → ((x con : ℕ) → carried x con ≤ m)
    → arguments_carry types carried n vs ≤ m * size_all (parts vs)
carry_within types carried m n [] h = omega arith
carry_within types carried m n (v ∷ vs) h =
    let one = potential_within types (carried n) m (h n) v in
    let rest = carry_within types carried m (suc n) vs h in
    grind (arith, one, rest)

-- What arguments carry has few digits.
pub carry_few : (types : List DataType) (vars : List VarCert) (vs : List Value) → AllByRecursion VarIsWithin vars → size_all (parts vs) ≤ 65536
    → arguments_carry types (λ x. at (vector_of vars x)) 0 vs ≤ 140737488355328
carry_few types vars vs h few =
    let within = carry_within types (λ x. at (vector_of vars x)) 2147483648 0 vs (λ x con. vector_within vars x h con) in
    omega (arith, within, few)

pub carried_small : (types : List DataType) (vars vars' : List DeclaredVar) (vs : List Value) → vars ≡ vars'
    → AllByRecursion VarIsWithin (map var_of vars') → size_all (parts vs) ≤ 65536
    → arguments_carry types (λ x. at (vector_of (map var_of vars) x)) 0 vs ≤ 140737488355328
carried_small types vars vars' vs same h few = carry_few types (map var_of vars) vs (subst (λ u. AllByRecursion VarIsWithin (map var_of u)) (sym same) h) few
