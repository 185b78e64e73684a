-- What is live in front of a case, by what is live in front of its arms.
use Rattle.std.proofs.Common.{◌≡◌, ℕ, suc, ◌+◌, ◌≤◌, Bool, List, [], ◌∷◌, ◌++◌, length, Option, Some, None, refl, sym, ap, ◌∙◌, subst, arith, append_assoc}
use Rattle.std.specs.Prelude.{◌&&◌, not, flat_map}
use Rattle.std.specs.List.{list_any, AllByRecursion}
use Rattle.camelot_values.specs.Lists.{is_among}
use Rattle.camelot_values.specs.declared.kinds.Kind.{Kind}
use Rattle.camelot_tree.specs.Tree.{Branch, Source}
use Rattle.grail_blocks.specs.Blocks as block
use Rattle.grail_blocks.specs.Events.{bound_by}
use Rattle.grail_code.specs.WellFormed.{looked_by}
use Rattle.normal_form.specs.Normal.{Line, Close, case_arm, total, in_turn, all_of}
use Rattle.normal_form.specs.Live.{bit}
use Rattle.normal_form.proofs.Lines.{closes, IsClosed, closes_append, closed_append}
use Rattle.normal_form.proofs.Ends.{closes_turn, closed_turn}
use Rattle.normal_form.proofs.KindsAt.{At, at_front, at_back}
use Rattle.normal_form.proofs.LiveLines.{Ownership, live_here, later_lines, live_in, AllOnce, AreLent, lent_front, lent_back, Looks, looks_front, looks_back}
use Rattle.normal_form.proofs.LiveParts.{bit_max}
use Rattle.normal_form.proofs.LiveArms.{ArmLives}

target_is : (p : Source) (o : Option Branch) (n b : ℕ) → (case_arm p o n b).target ≡ b
target_is p None n b = refl
target_is p (Some a) n b = refl

-- the fields of arms that leave their cell
abbrev pub looked_of : List block.CaseArm → List ℕ
looked_of arms = flat_map (λ a. looked_by a.cell a.fields) arms

-- parts that are written in turn, for the arms of a case that ends block `b0`; behind them are the lines `rest`, in
-- block `end`
pub record Turning : Type 1 where
  pub source : Source
  pub own : Ownership
  pub all : List Kind
  pub arms_of : ℕ → Option Branch
  pub locals : ℕ → ℕ
  pub blocks : ℕ → ℕ
  pub part : ℕ → ℕ → ℕ → List Line
  pub kinds : ℕ → List Kind
  pub Covered : ℕ → Type 0
  pub most : ℕ → ℕ
  pub low : ℕ
  pub end : ℕ
  pub rest : List Line
  pub count : (con n i : ℕ) → closes (part con n i) ≡ blocks con
  pub closed : (con n i : ℕ) → IsClosed (part con n i)
  pub lengths : (con : ℕ) → length (kinds con) ≡ locals con
  pub each : (con n i : ℕ) (back : List Line) → Covered con → At all n (kinds con) → Looks own (part con n i)
      → AreLent own (looked_by (case_arm source (arms_of con) n i).cell (case_arm source (arms_of con) n i).fields)
      → low ≤ n → IsClosed back → (i + blocks con) + closes back ≡ end
      → AllOnce own (i + blocks con) (back ++ rest)
      → ArmLives own (case_arm source (arms_of con) n i) i (part con n i ++ (back ++ rest)) most
  pub rest_once : AllOnce own end rest

abbrev pub parts_in : Turning → List ℕ → ℕ → ℕ → List Line
parts_in T cons n i = in_turn T.locals T.blocks T.part cons n i

abbrev pub arms_in : Turning → List ℕ → ℕ → ℕ → List block.CaseArm
arms_in T cons n i = in_turn T.locals T.blocks (λ c n b. case_arm T.source (T.arms_of c) n b ∷ []) cons n i

-- the fields of the arm of a constructor
abbrev looked_here : Turning → ℕ → ℕ → ℕ → List ℕ
looked_here T con n i = looked_by (case_arm T.source (T.arms_of con) n i).cell (case_arm T.source (T.arms_of con) n i).fields

-- what these arms want of a local
abbrev pub wanted : ℕ → List Line → ℕ → List block.CaseArm → Bool
wanted b0 whole y arms = list_any (λ a. not (is_among (bound_by a) y) && later_lines b0 whole a.target y) arms

turns_once : (T : Turning) (cons : List ℕ) (n i : ℕ) → T.low ≤ n → At T.all n (all_of T.kinds cons) → AllByRecursion T.Covered cons
    → Looks T.own (parts_in T cons n i) → AreLent T.own (looked_of (arms_in T cons n i))
    → i + total T.blocks cons ≡ T.end → AllOnce T.own i (parts_in T cons n i ++ T.rest)
turns_once T [] n i least at covered looks lent is = let same : T.end ≡ i = omega (arith, is) in subst (λ e. AllOnce T.own e T.rest) same T.rest_once
turns_once T (con ∷ cons) n i least at covered looks lent is =
    let back = parts_in T cons (n + T.locals con) (i + T.blocks con) in
    let size = T.lengths con in
    let later = turns_once T cons (n + T.locals con) (i + T.blocks con) (omega (arith, least)) (at_back T.all n (n + T.locals con) (T.kinds con) (all_of T.kinds cons) (omega (arith, size)) at) covered.1 (looks_back T.own (T.part con n i) back looks) (lent_back T.own (looked_here T con n i) (looked_of (arms_in T cons (n + T.locals con) (i + T.blocks con))) lent) (omega (arith, is)) in
    let ends = closes_turn T.locals T.blocks T.part T.count cons (n + T.locals con) (i + T.blocks con) in
    subst (AllOnce T.own i) (sym (append_assoc (T.part con n i) back T.rest))
    (T.each con n i back covered.0 (at_front T.all n (T.kinds con) (all_of T.kinds cons) at) (looks_front T.own (T.part con n i) back looks)
    (lent_front T.own (looked_here T con n i) (looked_of (arms_in T cons (n + T.locals con) (i + T.blocks con))) lent) least (closed_turn T.locals T.blocks T.part T.closed cons (n + T.locals con) (i + T.blocks con)) (omega (arith, ends, is)) later).once

turns_live : (T : Turning) (b0 : ℕ) (whole front : List Line) (cons : List ℕ) (n i y : ℕ) → T.low ≤ n → At T.all n (all_of T.kinds cons)
    → AllByRecursion T.Covered cons → Looks T.own (parts_in T cons n i) → AreLent T.own (looked_of (arms_in T cons n i)) → i + total T.blocks cons ≡ T.end
    → whole ≡ front ++ (parts_in T cons n i ++ T.rest) → IsClosed front → i ≡ b0 + suc (closes front) → bit (wanted b0 whole y (arms_in T cons n i)) ≤ T.most y
turns_live T b0 whole front [] n i y least at covered looks lent is split closed begins = omega arith
turns_live T b0 whole front (con ∷ cons) n i y least at covered looks lent is split closed begins =
    let part = T.part con n i in
    let back = parts_in T cons (n + T.locals con) (i + T.blocks con) in
    let size = T.lengths con in
    let at_later = at_back T.all n (n + T.locals con) (T.kinds con) (all_of T.kinds cons) (omega (arith, size)) at in
    let looks_later = looks_back T.own part back looks in
    let lent_later = lent_back T.own (looked_here T con n i) (looked_of (arms_in T cons (n + T.locals con) (i + T.blocks con))) lent in
    let behind = turns_once T cons (n + T.locals con) (i + T.blocks con) (omega (arith, least)) at_later covered.1 looks_later lent_later (omega (arith, is)) in
    let ends = closes_turn T.locals T.blocks T.part T.count cons (n + T.locals con) (i + T.blocks con) in
    let own = T.each con n i back covered.0 (at_front T.all n (T.kinds con) (all_of T.kinds cons) at) (looks_front T.own part back looks)
    (lent_front T.own (looked_here T con n i) (looked_of (arms_in T cons (n + T.locals con) (i + T.blocks con))) lent) least (closed_turn T.locals T.blocks T.part T.closed cons (n + T.locals con) (i + T.blocks con)) (omega (arith, ends, is)) behind in
    let together : whole ≡ front ++ (part ++ (back ++ T.rest)) = split ∙ ap (λ l. front ++ l) (append_assoc part back T.rest) in
    let both = closes_append front part in
    let counted = T.count con n i in
    let later = turns_live T b0 whole (front ++ part) cons (n + T.locals con) (i + T.blocks con) y (omega (arith, least)) at_later covered.1 looks_later lent_later (omega (arith, is))
    (together ∙ sym (append_assoc front part (back ++ T.rest))) (closed_append front part closed (T.closed con n i)) (omega (arith, begins, both, counted)) in
    let jump : later_lines b0 whole (case_arm T.source (T.arms_of con) n i).target y ≡ live_here i (part ++ (back ++ T.rest)) y =
    ap (λ b. later_lines b0 whole b y) (target_is T.source (T.arms_of con) n i) ∙ ap (λ l. later_lines b0 l i y) together
    ∙ live_in b0 (Close (block.Ret 0) ∷ front) (part ++ (back ++ T.rest)) i y closed begins in
    let here = own.live y in
    let same = ap (λ b. bit (not (is_among (bound_by (case_arm T.source (T.arms_of con) n i)) y) && b)) jump in
    let either = bit_max (not (is_among (bound_by (case_arm T.source (T.arms_of con) n i)) y) && later_lines b0 whole (case_arm T.source (T.arms_of con) n i).target y)
    (wanted b0 whole y (arms_in T cons (n + T.locals con) (i + T.blocks con))) in
    omega (arith, here, same, later, either)

-- all arms of a case, whose lines begin in the block behind it
pub record CaseLives (T : Turning) (b0 : ℕ) (cons : List ℕ) (n : ℕ) : Type 0 where
  pub live : (y : ℕ) → bit (wanted b0 (parts_in T cons n (suc b0) ++ T.rest) y (arms_in T cons n (suc b0))) ≤ T.most y
  pub once : AllOnce T.own (suc b0) (parts_in T cons n (suc b0) ++ T.rest)

pub case_lives : (T : Turning) (b0 : ℕ) (cons : List ℕ) (n : ℕ) → T.low ≤ n → At T.all n (all_of T.kinds cons) → AllByRecursion T.Covered cons
    → Looks T.own (parts_in T cons n (suc b0)) → AreLent T.own (looked_of (arms_in T cons n (suc b0))) → suc b0 + total T.blocks cons ≡ T.end → CaseLives T b0 cons n
case_lives T b0 cons n least at covered looks lent is = record {
  live = λ y. turns_live T b0 (parts_in T cons n (suc b0) ++ T.rest) [] cons n (suc b0) y least at covered looks lent is refl tt (omega arith);
  once = turns_once T cons n (suc b0) least at covered looks lent is;
}
