-- Private: words for functions of this crate.
-- Spaces, words and marks at the front of a text.
use Rattle.std.specs.Prelude.{◌≡◌, ℕ, ℤ, Bool, true, List, [], ◌∷◌, ◌++◌, if◌then◌else◌, ◌==◌, ◌+◌, ◌≤◌, length, take, drop, get_or, slice_get, Some, IsTrue}
use Rattle.std.specs.List.{list_all}
use Rattle.camelot_values.specs.Kinds.{DataType, Constructor}
use Rattle.camelot_values.specs.declared.kinds.Kind.{Kind}
use Rattle.camelot_values.specs.declared.value.Item.{Item}
use Rattle.value_text.specs.Grammar.{is_word_byte, Ends}
use Rattle.value_text.specs.Due.{Named, Unnamed}
use Rattle.value_text.specs.Choosing.{IntRead}
use Rattle.value_text.specs.Finite.{is_ready}

-- without the spaces in front
abbrev pub skip : List ℕ → List ℕ
skip [] = []
skip (b ∷ text) = if b == 32 then skip text else b ∷ text

-- where the mark has to stand: behind spaces, unless it is one
abbrev pub before_mark : ℕ → List ℕ → List ℕ
before_mark mark text = if mark == 32 then text else skip text

-- the text doesn't begin with this byte
abbrev pub NotFirst : ℕ → List ℕ → Type 0
NotFirst mark [] = Unit {0}
NotFirst mark (b ∷ text) = b ≡ mark → ⊥

-- a front of bytes of a word, as far as it goes, and the rest
pub record IsSplit (text word rest : List ℕ) : Type 0 where
  pub parts : text ≡ word ++ rest
  pub all : IsTrue (list_all is_word_byte word)
  pub ends : Ends rest

-- in front stands the word of this node
pub record FrontRead (types : List DataType) (q : Kind) (text : List ℕ) (x : Item) (fields : List Kind) (rest : List ℕ) : Type 0 where
  pub word : List ℕ
  pub split : IsSplit text word rest
  pub named : Named types q word x fields

-- in front stands the word of this int
pub record FrontInt (text : List ℕ) (z : ℤ) (rest : List ℕ) : Type 0 where
  pub word : List ℕ
  pub split : IsSplit text word rest
  pub read : IntRead word z

-- behind spaces stands the word of this int, and then the comma in front of what is left
pub record FrontIntPart (text : List ℕ) (z : ℤ) (after : List ℕ) : Type 0 where
  pub behind : List ℕ
  pub read : FrontInt (skip text) z behind
  pub mark : before_mark 44 behind ≡ 44 ∷ after

-- four bytes from this place on are the same in both
pub record IsSameFour (xs ys : List ℕ) (at : ℕ) : Type 0 where
  pub first : get_or xs at 0 ≡ get_or ys at 0
  pub second : get_or xs (at + 1) 0 ≡ get_or ys (at + 1) 0
  pub third : get_or xs (at + 2) 0 ≡ get_or ys (at + 2) 0
  pub fourth : get_or xs (at + 3) 0 ≡ get_or ys (at + 3) 0

-- the text is the name, which ends there, and the rest
pub record IsBehind (name text rest : List ℕ) : Type 0 where
  pub parts : text ≡ name ++ rest
  pub ends : Ends rest

-- the text is the name of the constructor at this place, whose fields have values, and the rest
pub record FrontCon (marks : List Bool) (cons : List Constructor) (text : List ℕ) (place : ℕ) (rest : List ℕ) : Type 0 where
  pub con : Constructor
  pub is : slice_get cons place ≡ Some con
  pub ready : is_ready marks con ≡ true
  pub front : IsBehind con.name text rest

-- Behind spaces stands the word of this node, which has no parts and is due with others behind it, and then the comma in
-- front of the next one.
pub record FrontPart (q : Kind) (others : List Kind) (text : List ℕ) (x : Item) (next : Kind) (further : List Kind) (after : List ℕ) : Type 0 where
  pub parts : others ≡ next ∷ further
  pub behind : List ℕ
  pub read : (types : List DataType) → FrontRead types q (skip text) x [] behind
  pub mark : before_mark 44 behind ≡ 44 ∷ after

-- behind spaces stands the word of this node
pub record NodeRead (types : List DataType) (q : Kind) (text : List ℕ) (x : Item) (fields : List Kind) (rest : List ℕ) : Type 0 where
  pub word : List ℕ
  pub split : IsSplit (skip text) word rest
  pub named : Named types q word x fields

-- behind spaces stands no word of the kind; so many bytes are left from the first bad one on
pub record NodeRefused (types : List DataType) (q : Kind) (text : List ℕ) (left : ℕ) : Type 0 where
  pub word : List ℕ
  pub rest : List ℕ
  pub good : ℕ
  pub split : IsSplit (skip text) word rest
  pub unnamed : Unnamed types q word good
  pub left_is : left + good ≡ length (skip text)

-- so many bytes in front are of a word, and no more
pub record IsWordLength (text : List ℕ) (n : ℕ) : Type 0 where
  pub within : n ≤ length text
  pub all : IsTrue (list_all is_word_byte (take n text))
  pub ends : Ends (drop n text)
