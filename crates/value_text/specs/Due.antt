-- Private: words for functions of this crate.
-- What is still to come in a text of values, and what has been read of it.
use Rattle.std.specs.Prelude.{◌≡◌, ◌≤◌, ℕ, take, IsTrue, Bool, true, false, List, [], ◌∷◌, ◌++◌, length, Some}
use Rattle.std.specs.Option.{option_map}
use Rattle.camelot_values.specs.Value.{Value, Values, IsInt32}
use Rattle.camelot_values.specs.Items.{nodes}
use Rattle.camelot_values.specs.Kinds.{DataType, Constructor, constructor, type_of, constructor_name}
use Rattle.camelot_values.specs.Typing.{Fits, FitAll}
use Rattle.camelot_values.specs.declared.kinds.Kind.{Kind}
use Rattle.camelot_values.specs.declared.kinds.Kind.TheVariants as kind
use Rattle.camelot_values.specs.declared.value.Item.{Item}
use Rattle.camelot_values.specs.declared.value.Item.TheVariants as item
use Rattle.value_text.specs.Grammar as g
use Rattle.value_text.specs.Grammar.{Piece, pieces, Spelled, Ends, IsNodeText, is_word}
use Rattle.value_text.specs.declared.reading.TextStop.{TextStop}
use Rattle.value_text.specs.declared.reading.TextStop.TheVariants as stop
use Rattle.value_text.specs.Dues.{Due}
use Rattle.value_text.specs.Dues as due

-- what is due comes to these pieces and nodes
abbrev pub Comes : List DataType → List Due → List Piece → List Item → Type 0
Comes types [] ps xs = (ps ≡ []) × (xs ≡ [])
Comes types (due.Mark b ∷ ds) ps xs = (more : List Piece) × (ps ≡ g.Mark b ∷ more) × Comes types ds more xs
Comes types (due.Value q ∷ ds) ps xs = (v : Value) × (more : List Piece) × (ys : List Item) × Fits types q v × (ps ≡ pieces v more) × (xs ≡ nodes v ys) × Comes types ds more ys

-- the text is what is due, with these nodes
pub record Accepts (types : List DataType) (ds : List Due) (text : List ℕ) (xs : List Item) : Type 0 where
  pub ps : List Piece
  pub comes : Comes types ds ps xs
  pub spelled : Spelled (constructor_name types) ps text

-- the nodes are these and then others, and the text is of what is due, with the others
pub record Rest (types : List DataType) (ds : List Due) (text : List ℕ) (xs zs : List Item) : Type 0 where
  pub ys : List Item
  pub is : zs ≡ xs ++ ys
  pub accepts : Accepts types ds text ys

-- what may stand behind a word, where one was read last
abbrev pub After : Bool → List ℕ → Type 0
After true text = Ends text
After false text = Unit {0}

-- once `front` was read, with these nodes, of what was due at first, just `later` is due
pub record Leads (types : List DataType) (first : List Due) (front : List ℕ) (xs : List Item) (word : Bool) (later : List Due) : Type 0 where
  pub to : (text : List ℕ) (ys : List Item) → After word text → Accepts types later text ys → Accepts types first (front ++ text) (xs ++ ys)
  pub from : (text : List ℕ) (zs : List Item) → After word text → Accepts types first (front ++ text) zs → Rest types later text xs zs

-- something comes of what is due
pub record Possible (types : List DataType) (ds : List Due) : Type 0 where
  pub ps : List Piece
  pub xs : List Item
  pub comes : Comes types ds ps xs

-- the text was read up to `rest`
pub record Reading (types : List DataType) (first : List Due) (text : List ℕ) (xs : List Item) (ds : List Due) (rest : List ℕ) : Type 0 where
  pub front : List ℕ
  pub word : Bool
  pub is : text ≡ front ++ rest
  pub leads : Leads types first front xs word ds
  pub after : After word rest
  pub possible : Possible types ds

-- the node is of this kind, and its parts are of those
abbrev pub IsNode : List DataType → Kind → Item → List Kind → Type 0
IsNode types q (item.Int z) fields = (q ≡ kind.Int) × IsInt32 z × (fields ≡ [])
IsNode types q (item.Flag b) fields = (q ≡ kind.Flag) × (fields ≡ [])
IsNode types q item.Dia fields = (q ≡ kind.Dia) × (fields ≡ [])
IsNode types q (item.Con n c) fields =
    (con : Constructor) × (constructor types c ≡ Some con) × (option_map kind.Of (type_of types c) ≡ Some q) × (fields ≡ con.fields) × (n ≡ length fields)

-- what is due behind the word of a node with such parts
abbrev pub further_due : List Kind → List Due
further_due [] = due.Mark 41 ∷ []
further_due (q ∷ qs) = due.Mark 44 ∷ due.Value q ∷ further_due qs

abbrev pub parts_due : List Kind → List Due
parts_due [] = []
parts_due (q ∷ qs) = due.Mark 40 ∷ due.Value q ∷ further_due qs

-- what is due at first: values of these kinds with a space between two
abbrev pub others_due : List Kind → List Due
others_due [] = []
others_due (q ∷ qs) = due.Mark 32 ∷ due.Value q ∷ others_due qs

abbrev pub first_due : List Kind → List Due
first_due [] = []
first_due (q ∷ qs) = due.Value q ∷ others_due qs

-- values of these kinds
pub record HaveValues (types : List DataType) (kinds : List Kind) : Type 0 where
  pub values : Values
  pub fit : FitAll types kinds values

-- the front is that of a word of this kind, of a node whose parts have values
pub record IsWordFront (types : List DataType) (q : Kind) (front : List ℕ) : Type 0 where
  pub x : Item
  pub fields : List Kind
  pub more : List ℕ
  pub node : IsNode types q x fields
  pub have : HaveValues types fields
  pub text : IsNodeText (constructor_name types) x (front ++ more)
  pub form : IsTrue (is_word (front ++ more))

-- The word is that of this node of the kind, whose parts have values, and of no other.
pub record Named (types : List DataType) (q : Kind) (word : List ℕ) (x : Item) (fields : List Kind) : Type 0 where
  pub node : IsNode types q x fields
  pub have : HaveValues types fields
  pub text : IsNodeText (constructor_name types) x word
  pub only : (y : Item) (others : List Kind) → IsNode types q y others → IsNodeText (constructor_name types) y word → (y ≡ x) × (others ≡ fields)

-- The word is that of no node of the kind whose parts have values, and `good` bytes of it are the most that begin such
-- a word.
pub record Unnamed (types : List DataType) (q : Kind) (word : List ℕ) (good : ℕ) : Type 0 where
  pub front : List ℕ
  pub more : List ℕ
  pub is : word ≡ front ++ more
  pub good_is : good ≡ length front
  pub begun : IsWordFront types q front
  pub longest : (longer last : List ℕ) → word ≡ longer ++ last → IsWordFront types q longer → length longer ≤ good
  pub none : (x : Item) (fields : List Kind) → IsNode types q x fields → HaveValues types fields → IsNodeText (constructor_name types) x word → ⊥

-- the text is not of what is due, and its front of this length is the longest that begins one
pub record Stops (types : List DataType) (first : List Due) (text : List ℕ) (at : ℕ) : Type 0 where
  pub none : (xs : List Item) → Accepts types first text xs → ⊥
  pub good : List ℕ
  pub bad : List ℕ
  pub parts : text ≡ good ++ bad
  pub at_is : at ≡ length good
  pub more : List ℕ
  pub items : List Item
  pub begins : Accepts types first (good ++ more) items
  pub longest : (n : ℕ) → n ≤ length text → (rest : List ℕ) (xs : List Item) → Accepts types first (take n text ++ rest) xs → n ≤ at

-- the text is of what is due, with these nodes and no others
pub record Whole (types : List DataType) (first : List Due) (text : List ℕ) (xs : List Item) : Type 0 where
  pub accepts : Accepts types first text xs
  pub only : (zs : List Item) → Accepts types first text zs → zs ≡ xs

-- memory ran out, or reading stops there
abbrev pub IsStop : List DataType → List Kind → List ℕ → TextStop → Type 0
IsStop types kinds text stop.Memory = Unit {0}
IsStop types kinds text (stop.At at) = Stops types (first_due kinds) text at
