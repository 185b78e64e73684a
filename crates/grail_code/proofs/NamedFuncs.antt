-- The first function of a name.
use Rattle.std.proofs.Common.{◌≡◌, ℕ, zero, suc, ◌<◌, ◌≤◌, List, [], ◌∷◌, length, get_or, map, Some, None, refl, sym, ap, ◌∙◌, inl, inr, arith}
use Rattle.std.specs.Prelude.{slice_get, nat_eq, nat_lt, if◌then◌else◌, Bool, false}
use Rattle.std.specs.List.{position, position_or_len}
use Rattle.std.proofs.lemmas.List.Quantifiers.{position-Some}
use Rattle.std.proofs.lemmas.List.Sums.{fails_before_first}
use Rattle.std.specs.Cmp.Lexicographic.{pointwise, same_text, other_text}
use Rattle.camelot_values.specs.Kinds.{DataType}
use Rattle.std.specs.Option.{option_map}
use Rattle.std.proofs.lemmas.Bool.{cases_lt, lt-ltb}
use Rattle.std.proofs.lemmas.Option.{slice_get-get_or, slice_get_past}
use Rattle.grail_code.specs.declared.code.Func.{Func as DeclaredFunc}
use Rattle.grail_code.specs.Code.{func_of}
use Rattle.grail_code.specs.ByName.{HasName, IsFirstNamed}

name_at : (fs : List DeclaredFunc) (i : ℕ) → option_map (λ f. f.name) (slice_get (map func_of fs) i) ≡ option_map (λ f. f.name) (slice_get fs i)
name_at [] i = refl
name_at (f ∷ fs) zero = refl
name_at (f ∷ fs) (suc i) = name_at fs i

named : (fs : List DeclaredFunc) (i : ℕ) (f : DeclaredFunc) → i < length fs → f ≡ get_or fs i f
    → option_map (λ f. f.name) (slice_get (map func_of fs) i) ≡ Some f.name
named fs i f lt e = name_at fs i ∙ ap (option_map (λ f. f.name)) (slice_get-get_or fs i f lt) ∙ ap (λ g. Some g.name) (sym e)

abbrev is_named : List ℕ → DeclaredFunc → Bool
is_named name f = pointwise nat_eq f.name name

not_named : (fs : List DeclaredFunc) (i : ℕ) (name : List ℕ) (f : DeclaredFunc) → i < length fs → is_named name (get_or fs i f) ≡ false
    → option_map (λ f. f.name) (slice_get (map func_of fs) i) ≡ Some name → ⊥
not_named fs i name f lt other has =
    let both : Some (get_or fs i f).name ≡ Some name = sym (name_at fs i ∙ ap (option_map (λ f. f.name)) (slice_get-get_or fs i f lt)) ∙ has in
    other_text (get_or fs i f).name name (sym other) cc

past : (fs : List DeclaredFunc) (i : ℕ) (name : List ℕ) → length fs ≤ i → option_map (λ f. f.name) (slice_get (map func_of fs) i) ≡ Some name → ⊥
past fs i name le has = let e : None ≡ Some name = sym (ap (option_map (λ (f : DeclaredFunc). f.name)) (slice_get_past fs i le)) ∙ sym (name_at fs i) ∙ has in absurd cc

-- the place of the first, among functions that begin with this one
first_of : (types : List DataType) (f : DeclaredFunc) (fs : List DeclaredFunc) (name : List ℕ) (i : ℕ) → position (is_named name) (f ∷ fs) ≡ Some i
    → IsFirstNamed (record { types = types; funcs = map func_of (f ∷ fs) }) i name
first_of types f fs name i e =
    let all = f ∷ fs in
    let told = position-Some (is_named name) all i f e in
    let has : option_map (λ g. g.name) (slice_get (map func_of all) i) ≡ Some (get_or all i f).name = name_at all i ∙ ap (option_map (λ g. g.name)) (slice_get-get_or all i f told.0) in
    record {
      named = has ∙ ap Some (same_text (get_or all i f).name name (sym told.1));
      first = λ earlier lt h. not_named all earlier name f (let k = told.0 in omega arith) (told.2 earlier lt) h;
    }

pub first_at : (types : List DataType) (fs : List DeclaredFunc) (name : List ℕ) (i : ℕ) → Some i ≡ position (λ f. pointwise nat_eq f.name name) fs → IsFirstNamed (record { types = types; funcs = map func_of fs }) i name
first_at types [] name i e = absurd cc
first_at types (f ∷ fs) name i e = first_of types f fs name i (sym e)

pub first_below : (fs : List DeclaredFunc) (name : List ℕ) (i : ℕ) → Some i ≡ position (λ f. pointwise nat_eq f.name name) fs → i < length fs
first_below [] name i e = absurd cc
first_below (f ∷ fs) name i e = (position-Some (is_named name) (f ∷ fs) i f (sym e)).0

passed_over : (n m : ℕ) → (if nat_lt n m then Some n else None) ≡ None → m ≤ n
passed_over n m e = elim (cases_lt n m) [
  | inl lt ↦ let k : Some n ≡ None = sym (ap (λ v. if v then Some n else None) (lt-ltb n m lt)) ∙ e in absurd cc
  | inr ge ↦ ge
]

none_of : (f : DeclaredFunc) (fs : List DeclaredFunc) (name : List ℕ) (number : ℕ) → position (is_named name) (f ∷ fs) ≡ None
    → option_map (λ g. g.name) (slice_get (map func_of (f ∷ fs)) number) ≡ Some name → ⊥
none_of f fs name number e has =
    let all = f ∷ fs in
    let over : length all ≤ position_or_len (is_named name) all = passed_over (position_or_len (is_named name) all) (length all) e in
    elim (cases_lt number (length all)) [
      | inl lt ↦ not_named all number name f lt (fails_before_first (is_named name) all number f (omega arith)) has
      | inr ge ↦ past all number name ge has
    ]

pub none_at : (types : List DataType) (fs : List DeclaredFunc) (name : List ℕ) → None ≡ position (λ f. pointwise nat_eq f.name name) fs → (number : ℕ) → HasName (record { types = types; funcs = map func_of fs }) number name → ⊥
none_at types [] name e number has = absurd cc
none_at types (f ∷ fs) name e number has = none_of f fs name number (sym e) has
