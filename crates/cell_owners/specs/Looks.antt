-- Private: words for functions of this crate.
-- One look at a word, and the cells that are still to be looked at.
use Rattle.std.specs.Prelude.{◌≡◌, ℕ, ◌+◌, ◌-◌, ◌==◌, nat_le, nat_lt, if◌then◌else◌, List, [], ◌∷◌, ◌++◌, slice_get, Option, Some, None}
use Rattle.cell_span.specs.declared.cell.Cell.{Cell}
use Rattle.camelot_values.specs.Kinds.{DataType, Constructor, constructor, type_of}
use Rattle.camelot_values.specs.declared.kinds.Kind.{Kind}
use Rattle.camelot_values.specs.declared.kinds.Kind.TheVariants as kind
use Rattle.annotations.specs.Vectors.{Vector, at, node_units}
use Rattle.cell_machine.specs.Cells.{inline_base, is_inline_word}
use Rattle.cell_machine.specs.Steps.{if_there}
use Rattle.cell_owners.specs.declared.look.Due.{Due}
use Rattle.cell_owners.specs.declared.look.Due.TheVariants as due
use Rattle.cell_owners.specs.declared.look.Look.{Look}
use Rattle.cell_owners.specs.declared.look.Look.TheVariants as look

-- ---- one word

-- the constructor of this number, where it is of this type
abbrev pub con_by : ℕ → Option Constructor → Option ℕ → Option Constructor
con_by t o None = None
con_by t o (Some u) = if u == t then o else None

abbrev pub con_of : List DataType → ℕ → ℕ → Option Constructor
con_of types t c = con_by t (constructor types c) (type_of types c)

-- an inline constructor takes no cell
abbrev pub inline_look : List DataType → Vector → ℕ → Option Constructor → Look
inline_look types vector c None = look.Wrong
inline_look types vector c (Some con) = if con.inline then look.Leaf (node_units types (at vector) c) else look.Wrong

-- A word of this kind stands for nothing, for a value without a cell that carries so much, or for what a cell says.
abbrev pub look_at : List DataType → Vector → Kind → ℕ → Look
look_at types vector kind.Int w = if nat_lt w 4294967296 then look.Leaf 0 else look.Wrong
look_at types vector kind.Flag w = if nat_le w 1 then look.Leaf 0 else look.Wrong
look_at types vector kind.Dia w = look.Cell (due.Diamond w)
look_at types vector (kind.Of t) w = if is_inline_word w
    then inline_look types vector (w - inline_base) (con_of types t (w - inline_base)) else look.Cell (due.Boxed t w)

-- ---- cells that are due

abbrev pub due_kind : Due → Kind
due_kind (due.Diamond w) = kind.Dia
due_kind (due.Boxed t w) = kind.Of t

abbrev pub due_at : Due → ℕ
due_at (due.Diamond w) = w
due_at (due.Boxed t w) = w

-- the cells that are due, and what the values met so far carry
pub record Pile : Type 0 where
  pub cells : List Due
  pub units : ℕ

-- one word more, and what follows
abbrev pub put : Look → (List Due → ℕ → Option Pile) → List Due → ℕ → Option Pile
put look.Wrong next ds n = None
put (look.Leaf k) next ds n = next ds (n + k)
put (look.Cell d) next ds n = next (ds ++ d ∷ []) n

-- words of these kinds
abbrev pub put_all : List DataType → Vector → List Kind → List ℕ → List Due → ℕ → Option Pile
put_all types vector [] ws ds n = Some (record { cells = ds; units = n })
put_all types vector (q ∷ qs) [] ds n = None
put_all types vector (q ∷ qs) (w ∷ ws) ds n = put (look_at types vector q w) (λ more m. put_all types vector qs ws more m) ds n

-- the parts of a boxed constructor
abbrev pub boxed_by : List DataType → Vector → Cell → List Due → Option Constructor → Option Pile
boxed_by types vector cell ds None = None
boxed_by types vector cell ds (Some con) = if con.inline then None else put_all types vector con.fields cell.words ds (node_units types (at vector) cell.tag)

-- a cell that was due
abbrev pub open_at : List DataType → Vector → List Cell → List Due → Due → Option Pile
open_at types vector cells ds (due.Diamond w) = Some (record { cells = ds; units = 0 })
open_at types vector cells ds (due.Boxed t w) = if_there (slice_get cells w) (λ cell. boxed_by types vector cell ds (con_of types t cell.tag))

-- ---- answers

abbrev pub PutIs : Look → (before behind : List Due) → Option ℕ → Type 0
PutIs look.Wrong before behind o = o ≡ None
PutIs (look.Leaf k) before behind o = (o ≡ Some k) × (behind ≡ before)
PutIs (look.Cell d) before behind o = (o ≡ Some 0) × (behind ≡ before ++ d ∷ [])

abbrev pub PileIs : Option Pile → List Due → Option ℕ → Type 0
PileIs p ds None = p ≡ None
PileIs p ds (Some n) = p ≡ Some (record { cells = ds; units = n })

-- ---- free cells

-- where the free list goes on behind this cell, if it is a free one
abbrev pub next_in : List ℕ → Option ℕ
next_in (next ∷ b ∷ c ∷ d ∷ []) = if b == 0 then (if c == 0 then (if d == 0 then Some next else None) else None) else None
next_in ws = None

abbrev pub next_of : Cell → Option ℕ
next_of c = if c.tag == 4294967295 then next_in c.words else None
