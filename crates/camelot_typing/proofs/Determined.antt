-- An expression has one kind at most, and it is the one that is computed.
use Rattle.std.proofs.Common.{◌≡◌, sym, ap, ◌∙◌}
use Rattle.std.specs.Option.{option_map_or}
use Rattle.camelot_values.specs.declared.kinds.Kind.{Kind}
use Rattle.camelot_values.specs.declared.kinds.Kind.TheVariants as kind
use Rattle.camelot_tree.specs.Tree.{Expression, Num, Truth, Var, Prim, If, Let, Match, Build, Call, NoArms, AndArm}
use Rattle.camelot_typing.specs.Kinds.{Globals, Scope, bind, or_else, built_kind, arm_scope, atom_of}
use Rattle.camelot_typing.specs.Typing.{known_kind, HasKind}

pub kind_is_atom : (g : Globals Kind) (s : Scope Kind) (e : Expression) (k : Kind) → HasKind g s e k → k ≡ atom_of known_kind g s e
kind_is_atom g s (Num z l) k h = h
kind_is_atom g s (Truth b l) k h = h
kind_is_atom g s (Var n) k h = sym (ap (λ o. or_else o kind.Int) h)
kind_is_atom g s (Prim op a b l) k h = h.2
kind_is_atom g s (If c a b l) k h = kind_is_atom g s a k h.1
kind_is_atom g s (Let n e b) k h =
    let same : h.0 ≡ atom_of known_kind g s e = kind_is_atom g s e h.0 h.1 in
    kind_is_atom g (bind n.word h.0 s) b k h.2 ∙ ap (λ q. atom_of known_kind g (bind n.word q s) b) same
kind_is_atom g s (Match e NoArms l) k h = absurd h
kind_is_atom g s (Match e (AndArm c fs x b as') l) k h = kind_is_atom g (arm_scope known_kind g.types c fs x s) b k h.3.1
kind_is_atom g s (Build c es place) k h =
    sym (ap (λ o. or_else (built_kind g.types (or_else o 0)) kind.Int) h.1 ∙ ap (λ o. or_else o kind.Int) h.2)
kind_is_atom g s (Call f es) k h = sym (ap (λ o. option_map_or (λ f. f.result) o kind.Int) h.1 ∙ h.2)

pub one_kind : (g : Globals Kind) (s : Scope Kind) (e : Expression) (k q : Kind) → HasKind g s e k → HasKind g s e q → k ≡ q
one_kind g s e k q h i = kind_is_atom g s e k h ∙ sym (kind_is_atom g s e q i)
