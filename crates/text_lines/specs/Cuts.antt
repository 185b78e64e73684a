-- Cited by contracts.
-- Cuts at a byte, and numbers without leading zeros.
use Rattle.std.specs.Borrow.{Bor}
use Rattle.std.specs.Prelude.{◌≡◌, ℕ, ◌+◌, ◌-◌, ◌*◌, ◌==◌, Bool, true, false, if◌then◌else◌, Option, Some, None, List, [], ◌∷◌, ◌++◌, min}
use Rattle.camelot_values.specs.Names.{is_digit}

abbrev pub and_then : {A B : Type 0} → Option A → (A → Option B) → Option B
and_then None go = None
and_then (Some x) go = go x

abbrev pub only_if : {A : Type 0} → Bool → Option A → Option A
only_if true o = o
only_if false o = None

-- what stands before the first such byte, and the text from it on
abbrev pub upto : ℕ → List ℕ → List ℕ
upto byte [] = []
upto byte (b ∷ bs) = if b == byte then [] else b ∷ upto byte bs

abbrev pub from : ℕ → List ℕ → List ℕ
from byte [] = []
from byte (b ∷ bs) = if b == byte then b ∷ bs else from byte bs

abbrev pub behind : List ℕ → List ℕ
behind [] = []
behind (b ∷ bs) = bs

abbrev pub onto_first : ℕ → List (List ℕ) → List (List ℕ)
onto_first b [] = (b ∷ []) ∷ []
onto_first b (w ∷ ws) = (b ∷ w) ∷ ws

-- the words of a line
abbrev pub words : List ℕ → List (List ℕ)
words [] = [] ∷ []
words (b ∷ bs) = if b == 32 then [] ∷ words bs else onto_first b (words bs)

-- those that are left where a space stands before each
abbrev pub further : List ℕ → List (List ℕ)
further [] = []
further (b ∷ bs) = words bs

-- words with a space between two
abbrev pub spaced : List (List ℕ) → List ℕ
spaced [] = []
spaced (w ∷ []) = w
spaced (w ∷ v ∷ ws) = w ++ 32 ∷ spaced (v ∷ ws)

-- more than each limit, and less than 2^42
abbrev pub capped : ℕ → ℕ
capped n = min n 2199023255552

abbrev pub digits_on : ℕ → List ℕ → Option ℕ
digits_on n [] = Some n
digits_on n (b ∷ bs) = if is_digit b then digits_on (n * 10 + (b - 48)) bs else None

-- digits without a leading zero
unfoldable pub number_of : List ℕ → Option ℕ
number_of [] = None
number_of (b ∷ []) = digits_on 0 (b ∷ [])
number_of (b ∷ c ∷ bs) = if b == 48 then None else digits_on 0 (b ∷ c ∷ bs)

-- a space and the word behind it, and what is left
abbrev pub word_of : List ℕ → Option (List ℕ × List ℕ)
word_of [] = None
word_of (b ∷ bs) = only_if (b == 32) (Some (upto 32 bs, from 32 bs))

-- the same word and the same rest, or both nothing
pub record IsCut (found : Option (List ℕ × List ℕ)) (word rest : List ℕ) : Type 0 where
  pub is : found ≡ Some (word, rest)

abbrev pub CutWord : Option (List ℕ × List ℕ) → Option (Bor (List ℕ) × Bor (List ℕ)) → Type 0
CutWord found None = found ≡ None
CutWord found (Some p) = IsCut found p.0.now p.1.now
