-- Private: words for functions of this crate.
-- How a scope is kept: a map from each name to what it means now, and the bindings with what to put back.
use Rattle.std.specs.Prelude.{◌≡◌, ℕ, List, [], ◌∷◌, map, Option}
use Rattle.std.specs.Borrow.{Bor}
use Rattle.std.specs.BTreeMap.{BTreeMap, get_by}
use Rattle.std.specs.Cmp.Lexicographic.{slice_cmp}
use Rattle.std.specs.Ordering.{nat_cmp}
use Rattle.camelot_names.specs.declared.scopes.Binding.{Binding}
use Rattle.camelot_values.specs.Names.{Binder, find, place_among}

-- what the map has at a name
abbrev pub at_name : {X : Type 0} → BTreeMap (Bor (List ℕ)) X → List ℕ → Option X
at_name words name = get_by (λ word. slice_cmp nat_cmp name word.now) words

-- a binding, as callers see it
abbrev pub bound : {T : Type 0} → Binding T → Binder T
bound b = record { name = b.name.now; is = b.value }

-- taking off each of these bindings, the innermost first, gives its name what it means outside of it
abbrev pub AreUndone : {T : Type 0} → List (Binding T) → Type 0
AreUndone [] = Unit {0}
AreUndone (b ∷ outer) = (b.hidden ≡ find (map bound outer) b.name.now) × AreUndone outer

-- the map agrees with these bindings, the innermost first
pub record IsKept {T : Type 0} (words : BTreeMap (Bor (List ℕ)) T) (bindings : List (Binding T)) : Type 0 where
  pub means : (name : List ℕ) → at_name words name ≡ find (map bound bindings) name
  pub undo : AreUndone bindings

-- the map has the place of each of these words, and no others
abbrev pub ArePlaces : BTreeMap (Bor (List ℕ)) ℕ → List (List ℕ) → Type 0
ArePlaces places words = (name : List ℕ) → at_name places name ≡ place_among words name
