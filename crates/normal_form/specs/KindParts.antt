-- Private: words for functions of this crate.
-- The kinds of the locals of an expression, with the kind of its value.
use Rattle.std.specs.Prelude.{List, [], ◌∷◌, ◌++◌, Option, Some, None}
use Rattle.std.specs.Option.{option_map_or}
use Rattle.camelot_values.specs.declared.kinds.Kind.{Kind}
use Rattle.camelot_values.specs.declared.kinds.Kind.TheVariants as kind
use Rattle.camelot_tree.specs.declared.tree.Name.{Name}
use Rattle.camelot_tree.specs.Tree.{Expression, Arms, Branch, Source}
use Rattle.camelot_typing.specs.Kinds.{Scope, or_else, types_of, built_kind, head_of, arm_scope}
use Rattle.camelot_typing.specs.Typing.{Signature, known_kind}
use Rattle.normal_form.specs.declared.kinds.PartKinds.{PartKinds}
use Rattle.normal_form.specs.Normal.{con_of, cons_of, bound_kinds, of_first, all_of, kind_in, arm_kind, kinds, arm_kinds, tail_kinds}

abbrev pub kind_of_build : Source → Name → Kind
kind_of_build p c = or_else (built_kind (types_of p) (con_of p c)) kind.Int

abbrev pub kind_of_call : List Signature → Name → Kind
kind_of_call sigs f = option_map_or (λ h. h.result) (head_of sigs f.word) kind.Int

pub record PlainKinds : Type 0 where
  pub kinds : List Kind
  pub kind : Kind

abbrev pub kinds_piece : Source → List Signature → Scope Kind → Expression → PlainKinds
kinds_piece p sigs s e = record { kinds = kinds p sigs s e; kind = kind_in p sigs s e }

-- an arm, where there is one
abbrev pub branch_kinds : Source → List Signature → Scope Kind → Option Branch → PlainKinds
branch_kinds p sigs s None = record { kinds = []; kind = kind.Int }
branch_kinds p sigs s (Some a) =
    let inner = arm_scope known_kind (types_of p) a.con a.fields a.cell s in
    record { kinds = bound_kinds p a.con a.cell ++ kinds p sigs inner a.body; kind = kind_in p sigs inner a.body }

abbrev pub arms_kinds : Source → List Signature → Scope Kind → Arms → PlainKinds
arms_kinds p sigs s as' = record { kinds = all_of (arm_kinds p sigs s as') (cons_of p as'); kind = of_first (arm_kind p sigs s as') (cons_of p as') }

-- all of these arms, and the kind of the first one
abbrev pub all_branches : Source → List Signature → Scope Kind → List (Option Branch) → List Kind
all_branches p sigs s [] = []
all_branches p sigs s (o ∷ os) = (branch_kinds p sigs s o).kinds ++ all_branches p sigs s os

abbrev pub first_kind : Source → List Signature → Scope Kind → Option Kind → List (Option Branch) → Kind
first_kind p sigs s (Some k) os = k
first_kind p sigs s None [] = kind.Int
first_kind p sigs s None (o ∷ os) = (branch_kinds p sigs s o).kind

-- an arm that ends the function
abbrev pub branch_tail_kinds : Source → List Signature → Scope Kind → Option Branch → List Kind
branch_tail_kinds p sigs s None = []
branch_tail_kinds p sigs s (Some a) = bound_kinds p a.con a.cell ++ tail_kinds p sigs (arm_scope known_kind (types_of p) a.con a.fields a.cell s) a.body

abbrev pub all_tail_branches : Source → List Signature → Scope Kind → List (Option Branch) → List Kind
all_tail_branches p sigs s [] = []
all_tail_branches p sigs s (o ∷ os) = branch_tail_kinds p sigs s o ++ all_tail_branches p sigs s os

abbrev pub kinds_of : PartKinds → PlainKinds
kinds_of k = record { kinds = k.kinds.items; kind = k.kind }
