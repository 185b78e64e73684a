-- What the rule needs of typing: an arm has one name or `_` for each field of its constructor, and no name twice.
use Rattle.std.proofs.Common.{◌≡◌, ℕ, Bool, true, false, List, [], ◌∷◌, ◌++◌, map, length, Option, refl, sym, ap, ◌∙◌}
use Rattle.std.specs.Prelude.{◌||◌}
use Rattle.std.specs.Str.{bytes_eq}
use Rattle.camelot_values.specs.Kinds.{DataType}
use Rattle.camelot_values.specs.Names.{AreDistinct}
use Rattle.camelot_values.specs.declared.kinds.Kind.{Kind}
use Rattle.camelot_values.specs.NameLaws.{same_name}
use Rattle.camelot_tree.specs.declared.tree.Name.{Name}
use Rattle.camelot_tree.specs.declared.tree.ArmCell.{ArmCell}
use Rattle.camelot_tree.specs.Tree.{Expression, Num, Truth, Var, Prim, If, Let, Match, Build, Call, Expressions, NoExpressions, AndExpression, Arms, NoArms, AndArm}
use Rattle.camelot_typing.specs.Kinds.{Globals, Scope, bind, or_else, fields_of, bound_names, arm_scope}
use Rattle.camelot_typing.specs.Typing.{HasKind, HaveKinds, ArmsHaveKind, HeadFits, known_kind}
use Rattle.linear_use.specs.Uses.{is_bound}
use Rattle.linear_use.specs.Flow.{con_fields}

-- no name is among those behind it
abbrev pub AreApart : List Name → Type 0
AreApart [] = Unit {0}
AreApart (n ∷ ns) = (is_bound n.word ns ≡ false) × AreApart ns

never : (b : Bool) → (b ≡ true → ⊥) → b ≡ false
never true h = absurd (h refl)
never false h = refl

bound_at : (x : List ℕ) (ns : List Name) → is_bound x ns ≡ true
    → (before : List (List ℕ)) × (rest : List (List ℕ)) × (map (λ n. n.word) ns ≡ before ++ x ∷ rest)
bound_at x [] h = cc
bound_at x (n ∷ ns) h = at_head (bound_at x ns) (bytes_eq n.word x) refl h
  where
    at_head : (is_bound x ns ≡ true → (before : List (List ℕ)) × (rest : List (List ℕ)) × (map (λ n. n.word) ns ≡ before ++ x ∷ rest)) → (b : Bool)
        → bytes_eq n.word x ≡ b → (b || is_bound x ns) ≡ true
        → (before : List (List ℕ)) × (rest : List (List ℕ)) × (n.word ∷ map (λ n. n.word) ns ≡ before ++ x ∷ rest)
    at_head f true e k = ([], map (λ n. n.word) ns, ap (λ w. w ∷ map (λ n. n.word) ns) (same_name n.word x e))
    at_head f false e k = let p = f k in (n.word ∷ p.0, p.1, ap (λ l. n.word ∷ l) p.2)

pub distinct_apart : (ns : List Name) → AreDistinct (map (λ n. n.word) ns) → AreApart ns
distinct_apart [] h = tt
distinct_apart (n ∷ ns) h = (
  never (is_bound n.word ns) (λ k. let p = bound_at n.word ns k in h n.word [] p.0 p.1 (ap (λ l. n.word ∷ l) p.2)),
  distinct_apart ns (λ word before between rest e. h word (n.word ∷ before) between rest (ap (λ l. n.word ∷ l) e)),
)

pub record HeadIsFull (types : List DataType) (c : Name) (fs : List (Option Name)) (x : ArmCell) : Type 0 where
  pub full : length fs ≡ length (con_fields types c)
  pub apart : AreApart (bound_names fs x)

abbrev mutual
  pub IsFull : List DataType → Expression → Type 0
  IsFull types (Num z l) = Unit {0}
  IsFull types (Truth b l) = Unit {0}
  IsFull types (Var n) = Unit {0}
  IsFull types (Prim op a b l) = IsFull types a × IsFull types b
  IsFull types (If c a b l) = IsFull types c × IsFull types a × IsFull types b
  IsFull types (Let n e b) = IsFull types e × IsFull types b
  IsFull types (Match e as' l) = IsFull types e × ArmsAreFull types as'
  IsFull types (Build c es place) = AllAreFull types es
  IsFull types (Call f es) = AllAreFull types es

  pub AllAreFull : List DataType → Expressions → Type 0
  AllAreFull types NoExpressions = Unit {0}
  AllAreFull types (AndExpression e es) = IsFull types e × AllAreFull types es

  pub ArmsAreFull : List DataType → Arms → Type 0
  ArmsAreFull types NoArms = Unit {0}
  ArmsAreFull types (AndArm c fs x b as') = HeadIsFull types c fs x × IsFull types b × ArmsAreFull types as'

head_full : (types : List DataType) (t : ℕ) (c : Name) (fs : List (Option Name)) (x : ArmCell) → HeadFits types t c fs x → HeadIsFull types c fs x
head_full types t c fs x h = record {
  full = h.full ∙ ap (λ r. length (fields_of types (or_else r 0))) (sym h.is);
  apart = distinct_apart (bound_names fs x) h.distinct;
}

mutual
  pub typed_full : (g : Globals Kind) (s : Scope Kind) (e : Expression) (k : Kind) → HasKind g s e k → IsFull g.types e
  typed_full g s (Num z l) k h = tt
  typed_full g s (Truth b l) k h = tt
  typed_full g s (Var n) k h = tt
  typed_full g s (Prim op a b l) k h = (typed_full g s a _ h.0, typed_full g s b _ h.1)
  typed_full g s (If c a b l) k h = (typed_full g s c _ h.0, typed_full g s a k h.1, typed_full g s b k h.2)
  typed_full g s (Let n e b) k h = (typed_full g s e h.0 h.1, typed_full g (bind n.word h.0 s) b k h.2)
  typed_full g s (Match e NoArms l) k h = absurd h
  typed_full g s (Match e (AndArm c fs x b as') l) k h = (typed_full g s e _ h.1, typed_arms_full g s h.0 (AndArm c fs x b as') k h.3)
  typed_full g s (Build c es place) k h = typed_all_full g s es (fields_of g.types h.0) h.3
  typed_full g s (Call f es) k h = typed_all_full g s es h.0.params h.3

  typed_all_full : (g : Globals Kind) (s : Scope Kind) (es : Expressions) (ks : List Kind) → HaveKinds g s es ks → AllAreFull g.types es
  typed_all_full g s NoExpressions ks h = tt
  typed_all_full g s (AndExpression e es) [] h = absurd h
  typed_all_full g s (AndExpression e es) (k ∷ ks) h = (typed_full g s e k h.0, typed_all_full g s es ks h.1)

  typed_arms_full : (g : Globals Kind) (s : Scope Kind) (t : ℕ) (as' : Arms) (k : Kind) → ArmsHaveKind g s t as' k → ArmsAreFull g.types as'
  typed_arms_full g s t NoArms k h = tt
  typed_arms_full g s t (AndArm c fs x b as') k h = (
    head_full g.types t c fs x h.0,
    typed_full g (arm_scope known_kind g.types c fs x s) b k h.1,
    typed_arms_full g s t as' k h.2,
  )
