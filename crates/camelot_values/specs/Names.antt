-- Cited by contracts.
-- The names of programs: a letter, and then letters, digits or `_`; at most 64 bytes.
use Rattle.std.specs.Prelude.{◌≡◌, ℕ, suc, ◌≤◌, nat_le, ◌==◌, ◌&&◌, ◌||◌, if◌then◌else◌, Bool, false, List, [], ◌∷◌, ◌++◌, length, Option, Some, None, IsTrue}
use Rattle.std.specs.List.{list_all, list_any}
use Rattle.std.specs.Option.{option_map}
use Rattle.std.specs.Str.{bytes_eq}

-- `a` to `z`
abbrev pub is_lower : ℕ → Bool
is_lower b = nat_le 97 b && nat_le b 122

-- `A` to `Z`
abbrev pub is_upper : ℕ → Bool
is_upper b = nat_le 65 b && nat_le b 90

-- `0` to `9`
abbrev pub is_digit : ℕ → Bool
is_digit b = nat_le 48 b && nat_le b 57

-- what may stand behind a name's first letter
abbrev pub is_tail : ℕ → Bool
is_tail b = is_lower b || is_upper b || is_digit b || (b == 95)

-- a first byte of this sort, and then only letters, digits and `_`
abbrev pub has_form : (ℕ → Bool) → List ℕ → Bool
has_form is_first [] = false
has_form is_first (b ∷ bs) = is_first b && list_all is_tail bs

-- a first letter of this sort, then only letters, digits and `_`, and at most 64 bytes
pub record IsName (is_first : ℕ → Bool) (word : List ℕ) : Type 0 where
  pub form : IsTrue (has_form is_first word)
  pub short : length word ≤ 64

-- a name that begins with a lower-case letter, as of a type, a function or a variable
abbrev pub IsLowerName : List ℕ → Type 0
IsLowerName word = IsName is_lower word

-- a name that begins with an upper-case letter, as of a constructor
abbrev pub IsUpperName : List ℕ → Type 0
IsUpperName word = IsName is_upper word

-- the same as tests
abbrev pub is_name : (ℕ → Bool) → List ℕ → Bool
is_name is_first word = has_form is_first word && nat_le (length word) 64

abbrev pub is_lower_name : List ℕ → Bool
is_lower_name word = is_name is_lower word

abbrev pub is_upper_name : List ℕ → Bool
is_upper_name word = is_name is_upper word

-- ---- lists of names

-- no word stands twice
abbrev pub AreDistinct : {A : Type 0} → List A → Type 0
AreDistinct {A} words = (word : A) (before between rest : List A) → words ≡ before ++ word ∷ (between ++ word ∷ rest) → ⊥

-- the name stood before
abbrev pub stands : List (List ℕ) → List ℕ → Bool
stands earlier name = list_any (bytes_eq name) earlier

-- the place of the first of these names that is this one
abbrev pub place_among : List (List ℕ) → List ℕ → Option ℕ
place_among [] name = None
place_among (n ∷ ns) name = if bytes_eq n name then Some 0 else option_map suc (place_among ns name)

-- ---- names in scope

-- a name that is bound, and to what
pub record Binder (A : Type 0) : Type 0 where
  pub name : List ℕ
  pub is : A

-- what a name means in a scope: the innermost binding is first and hides those behind it
abbrev pub find : {A : Type 0} → List (Binder A) → List ℕ → Option A
find [] name = None
find (b ∷ bs) name = if bytes_eq b.name name then Some b.is else find bs name
