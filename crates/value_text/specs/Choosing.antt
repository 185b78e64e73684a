-- Private: words for functions of this crate.
-- Which constructor a word names, and how much of it begins a name.
use Rattle.std.specs.Prelude.{◌≡◌, ℕ, suc, max, ◌≤◌, ◌⊎◌, Bool, false, List, [], ◌∷◌, ◌++◌, length, take, get_or, slice_get, Option, Some, None, ◌==◌, ◌&&◌, if◌then◌else◌, cond, codes, decimal, ℤ, pos, neg_ℤ, ◌+◌, ◌-◌, ◌*◌, ◌<◌, true}
use Rattle.std.specs.Option.{option_map}
use Rattle.std.specs.Str.{bytes_eq}
use Rattle.camelot_values.specs.Kinds.{Constructor}
use Rattle.camelot_values.specs.Names.{is_digit}
use Rattle.camelot_values.specs.Kinds.{DataType}
use Rattle.camelot_values.specs.declared.kinds.Kind.{Kind}
use Rattle.camelot_values.specs.declared.value.Item.{Item}
use Rattle.camelot_values.specs.declared.value.Item.TheVariants as item
use Rattle.value_text.specs.Finite.{is_ready}
use Rattle.value_text.specs.Inhabited.{first_con}
use Rattle.value_text.specs.declared.names.Look.{Look}
use Rattle.value_text.specs.declared.names.Look.TheVariants as look

-- how many bytes two words have in common at their fronts
abbrev pub common : List ℕ → List ℕ → ℕ
common [] ys = 0
common (x ∷ xs) [] = 0
common (x ∷ xs) (y ∷ ys) = if x == y then suc (common xs ys) else 0

-- the place of the first constructor with this name whose fields have values
abbrev pub choose : List Bool → List ℕ → List Constructor → Option ℕ
choose marks word [] = None
choose marks word (c ∷ cs) = if is_ready marks c && bytes_eq c.name word then Some 0 else option_map suc (choose marks word cs)

-- the most bytes of the word that begin the name of such a constructor
abbrev pub best : List Bool → List ℕ → List Constructor → ℕ
best marks word [] = 0
best marks word (c ∷ cs) = if is_ready marks c then max (common c.name word) (best marks word cs) else best marks word cs

-- so many digits from the front are the number's, and no more are those of a number of at most `most`
pub record DigitsRead (most : ℕ) (word : List ℕ) (value good : ℕ) : Type 0 where
  pub within : good ≤ length word
  pub small : value ≤ most
  pub text : (good ≡ 0) ⊎ (take good word ≡ decimal value)
  pub longest : (n : ℕ) (front last rest : List ℕ) → n ≤ most → word ≡ front ++ last → decimal n ≡ front ++ rest → length front ≤ good

-- so many digits in front are the number's
pub record FewDigits (word : List ℕ) (value good : ℕ) : Type 0 where
  pub within : good ≤ length word
  pub first : is_digit (get_or word 0 0) ≡ true
  pub text : take good word ≡ decimal value

-- no number goes on with the byte: it is no digit, stands behind a leading zero, or makes the number too large
pub record NoDigit (most value at byte : ℕ) : Type 0 where
  pub why : (is_digit byte ≡ false) ⊎ (((1 ≤ at) × (value ≡ 0)) ⊎ ((is_digit byte ≡ true) × (most < value * 10 + (byte - 48))))

-- the number with one digit more
pub record NextDigit (most value at byte next : ℕ) : Type 0 where
  pub digit : is_digit byte ≡ true
  pub lead : (at ≡ 0) ⊎ (1 ≤ value)
  pub is : next ≡ value * 10 + (byte - 48)
  pub fit : next ≤ most

-- the word doesn't begin with `-`
pub record IsPlain (word : List ℕ) : Type 0 where
  pub head : (rest : List ℕ) → word ≡ 45 ∷ rest → ⊥

-- the word is this int's
pub record IntRead (word : List ℕ) (z : ℤ) : Type 0 where
  pub size : ℕ
  pub is : ((size ≤ 2147483647) × (word ≡ decimal size) × (z ≡ pos size)) ⊎ ((size ≤ 2147483648) × (word ≡ 45 ∷ decimal size) × (z ≡ neg_ℤ (pos size)))

-- the word is no int's, and so many bytes of it begin one
pub record IntRefused (word : List ℕ) (good : ℕ) : Type 0 where
  pub digits : List ℕ
  pub value : ℕ
  pub count : ℕ
  pub part : count ≡ length digits → count ≡ 0
  pub is : ((word ≡ digits) × (good ≡ count) × DigitsRead 2147483647 digits value count × IsPlain word)
      ⊎ ((word ≡ 45 ∷ digits) × (good ≡ count + 1) × DigitsRead 2147483648 digits value count)

-- what one constructor says of a word
abbrev pub Looked : List Bool → List ℕ → Constructor → Look → Type 0
Looked marks word con look.Found = (is_ready marks con && bytes_eq con.name word) ≡ true
Looked marks word con (look.Common n) = ((is_ready marks con && bytes_eq con.name word) ≡ false) × (n ≡ if is_ready marks con then common con.name word else 0)

-- the type is there, and has a constructor at this place
pub record HasPlace (types : List DataType) (t place : ℕ) : Type 0 where
  pub def : DataType
  pub is : slice_get types t ≡ Some def
  pub within : place < length def.cons

-- the node is of the constructor at this place of the type, and has parts of these kinds
pub record IsConNode (types : List DataType) (t place : ℕ) (x : Item) (fields : List Kind) : Type 0 where
  pub def : DataType
  pub con : Constructor
  pub is : slice_get types t ≡ Some def
  pub at : slice_get def.cons place ≡ Some con
  pub x_is : x ≡ item.Con (length con.fields) (first_con types t + place)
  pub fields_is : fields ≡ con.fields

-- the word is this truth value's
pub record IsFlag (word : List ℕ) (flag : Bool) : Type 0 where
  pub is : word ≡ cond flag (codes "true") (codes "false")

-- the word is no truth value's, and so many bytes of it begin one
pub record NoFlag (word : List ℕ) (good : ℕ) : Type 0 where
  pub not_true : word ≡ codes "true" → ⊥
  pub not_false : word ≡ codes "false" → ⊥
  pub good_is : good ≡ max (common (codes "true") word) (common (codes "false") word)
