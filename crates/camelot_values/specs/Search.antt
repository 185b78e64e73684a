-- Private: words for functions of this crate.
-- What the private search for the types in a type does to its marks.
use Rattle.std.specs.Prelude.{◌≡◌, ℕ, suc, List, length, [], ◌∷◌, slice_get, slice_set, Option, Some, Bool, cond, ◌&&◌, ◌+◌, ◌++◌}
use Rattle.std.specs.List.{range_with_len}
use Rattle.camelot_values.specs.Kinds.{DataType}
use Rattle.camelot_values.specs.Heap.{HoldsType, IsLedTo, is_heap_type, leads_by}
use Rattle.camelot_values.specs.declared.kinds.Kind.{Kind}
use Rattle.camelot_values.specs.declared.kinds.Kind.TheVariants.{Of}
use Rattle.camelot_values.specs.declared.reach.Mark.{Mark}
use Rattle.camelot_values.specs.declared.reach.Mark.TheVariants.{New, Waiting, Seen}

-- a type that is new waits now
abbrev pub met : Option Mark → ℕ → List Mark → List Mark
met (Some New) u marks = slice_set marks u Waiting
met o u marks = marks

abbrev pub wait : Kind → List Mark → List Mark
wait (Of u) marks = met (slice_get marks u) u marks
wait q marks = marks

abbrev pub spread : List Kind → List Mark → List Mark
spread [] marks = marks
spread (q ∷ qs) marks = spread qs (wait q marks)

abbrev pub NoneWaits : List Mark → Type 0
NoneWaits marks = (place : ℕ) → slice_get marks place ≡ Some Waiting → ⊥

-- what the search from type `first` keeps: what was met is led to, and what a done type holds was met
pub record Searched (types : List DataType) (first : ℕ) (marks : List Mark) : Type 0 where
  pub size : length marks ≡ 64
  pub begun : slice_get marks first ≡ Some New → ⊥
  pub sound : (u : ℕ) (m : Mark) → slice_get marks u ≡ Some m → (m ≡ New → ⊥) → IsLedTo types first u
  pub closed : (t u : ℕ) → slice_get marks t ≡ Some Seen → HoldsType types t u → slice_get marks u ≡ Some New → ⊥

-- the type is a heap type that stands in type t
abbrev pub passes : List DataType → ℕ → ℕ → Bool
passes types t u = is_heap_type types u && leads_by types (length types) t u

-- the numbers of the constructors of the types that pass, where the first type has this number and its first
-- constructor is `next`
abbrev pub numbers_where : (ℕ → Bool) → ℕ → ℕ → List DataType → List ℕ
numbers_where q number next [] = []
numbers_where q number next (d ∷ ds) = cond (q number) (range_with_len next (length d.cons)) [] ++ numbers_where q (suc number) (next + length d.cons) ds
