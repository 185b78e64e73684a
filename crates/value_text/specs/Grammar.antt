-- Cited by contracts.
-- Texts of lists of values: words and marks in order, with any number of spaces before each of them and at the end.
-- What is printed is one text of a value among many.
use Rattle.std.specs.Prelude.{◌≡◌, ℕ, suc, ◌≤◌, ◌<◌, ◌==◌, ◌||◌, ◌&&◌, ◌⊎◌, not, Bool, false, cond, ℤ, pos, neg_ℤ, List, [], ◌∷◌, ◌++◌, length, map, take, codes, decimal, IsTrue, IsFalse}
use Rattle.std.specs.List.{list_all, AllByRecursion}
use Rattle.camelot_values.specs.Value as value
use Rattle.camelot_values.specs.Value.{Value, Values, parts, part_count}
use Rattle.camelot_values.specs.Kinds.{DataType, constructors, constructor_name}
use Rattle.camelot_values.specs.Names.{AreDistinct, IsUpperName}
use Rattle.camelot_values.specs.Typing.{FitAll}
use Rattle.camelot_values.specs.Counts.{size_all}
use Rattle.camelot_values.specs.declared.kinds.Kind.{Kind}
use Rattle.camelot_values.specs.declared.value.Item.{Item}
use Rattle.camelot_values.specs.declared.value.Item.TheVariants as item

-- ---- names

-- each constructor has an upper name
abbrev pub AreNamed : List DataType → Type 0
AreNamed types = AllByRecursion (λ c. IsUpperName c.name) (constructors types)

-- no two constructors have one name
abbrev pub DistinctNames : List DataType → Type 0
DistinctNames types = AreDistinct (map (λ c. c.name) (constructors types))

-- ---- words

-- no space, parenthesis or comma
abbrev pub is_word_byte : ℕ → Bool
is_word_byte b = not ((b == 32) || (b == 40) || (b == 41) || (b == 44))

-- one such byte or more
abbrev pub is_word : List ℕ → Bool
is_word [] = false
is_word (b ∷ bs) = is_word_byte b && list_all is_word_byte bs

-- a word isn't going on here
abbrev pub Ends : List ℕ → Type 0
Ends [] = Unit {0}
Ends (b ∷ rest) = IsFalse (is_word_byte b)

-- the texts of an int: digits without a leading zero, and for a negative one, or for 0, `-` before them
pub record IsIntText (word : List ℕ) (z : ℤ) : Type 0 where
  pub size : ℕ
  pub is : ((word ≡ decimal size) × (z ≡ pos size)) ⊎ ((word ≡ 45 ∷ decimal size) × (z ≡ neg_ℤ (pos size)))

-- the texts of a node
abbrev pub IsNodeText : (ℕ → List ℕ) → Item → List ℕ → Type 0
IsNodeText names (item.Int z) word = IsIntText word z
IsNodeText names (item.Flag b) word = word ≡ cond b (codes "true") (codes "false")
IsNodeText names item.Dia word = word ≡ codes "<>"
IsNodeText names (item.Con n c) word = word ≡ names c

-- ---- words and marks in order

-- the word of a node, or a byte of its own: a parenthesis, a comma, or the space that there is between two values
pub data Piece : Type 0 where
  Node : Item → Piece
  Mark : ℕ → Piece

-- a value, before what follows it
abbrev mutual
  pub pieces : Value → List Piece → List Piece
  pieces (value.Int z) rest = Node (item.Int z) ∷ rest
  pieces (value.Flag b) rest = Node (item.Flag b) ∷ rest
  pieces value.Dia rest = Node item.Dia ∷ rest
  pieces (value.Con c value.End) rest = Node (item.Con 0 c) ∷ rest
  pieces (value.Con c (value.And v vs)) rest = Node (item.Con (suc (part_count vs)) c) ∷ Mark 40 ∷ pieces v (further_pieces vs rest)

  -- the second part and those that follow it, each after a comma, and what closes them
  pub further_pieces : Values → List Piece → List Piece
  further_pieces value.End rest = Mark 41 ∷ rest
  further_pieces (value.And v vs) rest = Mark 44 ∷ pieces v (further_pieces vs rest)

-- values after another one
abbrev pub other_pieces : List Value → List Piece
other_pieces [] = []
other_pieces (v ∷ vs) = Mark 32 ∷ pieces v (other_pieces vs)

-- a list of values
abbrev pub list_pieces : List Value → List Piece
list_pieces [] = []
list_pieces (v ∷ vs) = pieces v (other_pieces vs)

-- ---- their texts

-- after any number of spaces
abbrev pub AfterSpaces : (List ℕ → Type 0) → List ℕ → Type 0
AfterSpaces P [] = P []
AfterSpaces P (b ∷ text) = P (b ∷ text) ⊎ ((b ≡ 32) × AfterSpaces P text)

-- the text is a mark and then another
pub record MarkThen (mark : ℕ) (Then : List ℕ → Type 0) (text : List ℕ) : Type 0 where
  pub rest : List ℕ
  pub parts : text ≡ mark ∷ rest
  pub next : Then rest

-- the text is a word, as far as it goes, and then another
pub record WordThen (IsText : List ℕ → Type 0) (Then : List ℕ → Type 0) (text : List ℕ) : Type 0 where
  pub word : List ℕ
  pub rest : List ℕ
  pub parts : text ≡ word ++ rest
  pub form : IsTrue (is_word word)
  pub ends : Ends rest
  pub is : IsText word
  pub next : Then rest

-- the text is these pieces in order
abbrev pub Spelled : (ℕ → List ℕ) → List Piece → List ℕ → Type 0
Spelled names [] text = AfterSpaces (λ rest. rest ≡ []) text
Spelled names (Node x ∷ ps) text = AfterSpaces (WordThen (IsNodeText names x) (Spelled names ps)) text
Spelled names (Mark b ∷ ps) text = AfterSpaces (MarkThen b (Spelled names ps)) text

-- the text is one of these values, one of each of these kinds
pub record IsTextOf (types : List DataType) (kinds : List Kind) (text : List ℕ) (values : List Value) : Type 0 where
  pub fit : FitAll types kinds (parts values)
  pub spelled : Spelled (constructor_name types) (list_pieces values) text

-- something that begins so is a text of values of these kinds
pub record Begins (types : List DataType) (kinds : List Kind) (front : List ℕ) : Type 0 where
  pub rest : List ℕ
  pub values : List Value
  pub whole : IsTextOf types kinds (front ++ rest) values

-- ---- what is answered

-- the values, with at most 65,536 nodes in all
pub record IsRead (types : List DataType) (kinds : List Kind) (text : List ℕ) (values : List Value) : Type 0 where
  pub text_of : IsTextOf types kinds text values
  pub few : size_all (parts values) ≤ 65536

-- so many nodes, and more than 65,536
pub record IsTooLong (types : List DataType) (kinds : List Kind) (text : List ℕ) (items : ℕ) : Type 0 where
  pub values : List Value
  pub text_of : IsTextOf types kinds text values
  pub items_is : items ≡ size_all (parts values)
  pub many : 65536 < items

-- The text is none of values of these kinds. Its front of this length begins one, and no longer front does; where
-- nothing is a text of values of these kinds, since one of them has no value, the length is 0.
pub record IsBadShape (types : List DataType) (kinds : List Kind) (text : List ℕ) (at : ℕ) : Type 0 where
  pub none : (values : List Value) → IsTextOf types kinds text values → ⊥
  pub within : at ≤ length text
  pub begins : Begins types kinds (take at text) ⊎ ((at ≡ 0) × (Begins types kinds [] → ⊥))
  pub longest : (n : ℕ) → n ≤ length text → Begins types kinds (take n text) → n ≤ at
