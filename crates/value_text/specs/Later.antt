-- Private: words for functions of this crate.
-- What is due behind a part that is read, as the reader keeps it: what is left of the innermost node, how many nodes
-- are complete with that, what is left of the nodes around them, the innermost last, and the other values.
use Rattle.std.specs.Prelude.{ℕ, zero, suc, List, [], ◌∷◌, ◌++◌, reverse, Option, Some, None}
use Rattle.camelot_values.specs.Kinds.{DataType}
use Rattle.camelot_values.specs.declared.kinds.Kind.{Kind}
use Rattle.camelot_values.specs.declared.value.Item.{Item}
use Rattle.value_text.specs.Dues as due
use Rattle.value_text.specs.Dues.{Due}
use Rattle.value_text.specs.Due.{Reading, further_due, others_due}
use Rattle.value_text.specs.declared.behind.Frame.{Frame}

-- so many closing parentheses, and then this
abbrev pub closed_due : ℕ → List Due → List Due
closed_due zero ds = ds
closed_due (suc n) ds = due.Mark 41 ∷ closed_due n ds

-- what is left of nodes, the innermost first, and then this
abbrev pub frames_due : List Frame → List Due → List Due
frames_due [] ds = ds
frames_due (f ∷ fs) ds = further_due (f.first ∷ f.others.now) ++ closed_due f.closed (frames_due fs ds)

-- parts of a node that isn't complete, where some are left, and then this
abbrev pub inner_due : List Kind → List Due → List Due
inner_due [] ds = ds
inner_due (q ∷ qs) ds = further_due (q ∷ qs) ++ ds

-- all that is due
unfoldable pub later_due : List Kind → ℕ → List Frame → List Kind → List Due
later_due inner closed frames others = inner_due inner (closed_due closed (frames_due (reverse frames) (others_due others)))

-- the text was read up to a value of this kind, or to its end
abbrev pub NextDue : List DataType → List Due → List ℕ → List Item → List Due → Option Kind → List ℕ → Type 0
NextDue types first text xs ds None rest = Reading types first text xs [] rest
NextDue types first text xs ds (Some q) rest = Reading types first text xs (due.Value q ∷ ds) rest
