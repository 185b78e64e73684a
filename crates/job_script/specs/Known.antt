-- Private: words for functions of this crate.
-- How the names of a script are kept: as a set of keys, each a number with the name itself.
use Rattle.std.specs.Prelude.{◌≡◌, ℕ, ◌-◌, ◌≤◌, nat_lt, ◌==◌, ◌&&◌, ◌||◌, Bool, false, List, length, take, drop, IsTrue}
use Rattle.std.specs.Borrow.{Bor}
use Rattle.std.specs.List.{list_any}
use Rattle.std.specs.declared.cmp.Ordering.{Ordering}
use Rattle.std.specs.Ordering.{is_eq, ordering_then, nat_cmp}
use Rattle.std.specs.Cmp.Lexicographic.{slice_cmp}
use Rattle.std.specs.Int.{from_be_bytes, w64}
use Rattle.camelot_values.specs.Names.{stands}

-- the first eight bytes as a number, the first one in the highest place, with zeros behind fewer
unfoldable pub number_of : List ℕ → ℕ
number_of bytes = from_be_bytes w64 bytes

-- the last eight bytes of a name, or all of a shorter one
abbrev pub back : List ℕ → List ℕ
back name = drop (length name - 8) name

-- how a number with a name compares with a key: the numbers first, and then the names
abbrev pub against : ℕ → List ℕ → ℕ × Bor (List ℕ) → Ordering
against n name key = ordering_then (nat_cmp n key.0) (slice_cmp nat_cmp name key.1.now)

-- the name's own key is among these
abbrev pub has_key : List (ℕ × Bor (List ℕ)) → List ℕ → Bool
has_key keys name = list_any (λ key. is_eq (against (number_of (back name)) name key)) keys

-- these are the keys of each of these words, and no others
abbrev pub AreKeys : List (ℕ × Bor (List ℕ)) → List (List ℕ) → Type 0
AreKeys keys words = (name : List ℕ) → has_key keys name ≡ stands words name

-- the first words, so many of them, are filed: these are their keys
pub record AreFiled (keys : List (ℕ × Bor (List ℕ))) (words : List (List ℕ)) (filed : ℕ) : Type 0 where
  pub are : AreKeys keys (take filed words)
  pub within : filed ≤ length words

-- a name of this size and number is past those up to here: it is longer, or as long with a greater number
unfoldable pub is_past : ℕ → ℕ → ℕ → ℕ → Bool
is_past size number longest greatest = nat_lt longest size || (size == longest && nat_lt greatest number)

-- no word is past these
abbrev pub AreUpTo : ℕ → ℕ → List (List ℕ) → Type 0
AreUpTo longest greatest words = (word : List ℕ) → IsTrue (stands words word) → is_past (length word) (number_of (back word)) longest greatest ≡ false

-- what is kept beside the words: the keys of the first ones, and a size and a number that no word is past
abbrev pub AreKept : List (ℕ × Bor (List ℕ)) → List (List ℕ) → ℕ → ℕ → ℕ → Type 0
AreKept keys words filed longest greatest = AreFiled keys words filed × AreUpTo longest greatest words
