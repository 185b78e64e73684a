-- As many blocks and locals as are counted.
use Rattle.std.proofs.Common.{◌≡◌, ℕ, suc, ◌+◌, ◌≤◌, Bool, true, false, if◌then◌else◌, List, [], ◌∷◌, ◌++◌, length, Option, Some, refl, sym, ap, ◌∙◌, subst, arith, length-append}
use Rattle.std.specs.Prelude.{slice_get}
use Rattle.std.specs.List.{AllByRecursion}
use Rattle.std.specs.Option.{option_map_or}
use Rattle.camelot_values.specs.Typing.{operator_kind}
use Rattle.camelot_values.specs.declared.kinds.Kind.TheVariants as kind
use Rattle.camelot_values.specs.declared.kinds.Kind.{Kind}
use Rattle.camelot_tree.specs.declared.tree.Name.{Name}
use Rattle.camelot_tree.specs.declared.tree.ArmCell.{ArmCell}
use Rattle.camelot_tree.specs.declared.tree.ArmCell.TheVariants as cell
use Rattle.camelot_tree.specs.Tree.{Expression, Num, Truth, Var, Prim, If, Let, Match, Build, Call, Expressions, NoExpressions, AndExpression, Arms, NoArms, AndArm, Source}
use Rattle.camelot_tree.specs.Meaning.{constructor_number, is_that}
use Rattle.camelot_typing.specs.Kinds as typed
use Rattle.camelot_typing.specs.Kinds.{Scope, bind, or_else, types_of, fields_of, built_kind, arm_scope, numbered}
use Rattle.camelot_typing.specs.Typing.{Signature, known_kind, globals_of, HasKind, HaveKinds, ArmsHaveKind, HeadFits, arms_with}
use Rattle.camelot_typing.specs.NumberLaws.{number_same}
use Rattle.grail_blocks.specs.Blocks as block
use Rattle.normal_form.specs.Normal.{NormalBlock, Line, Bind, Close, in_first, cut, con_of, cons_of, diamonds, bound_count, total, made, all_made, arm_made, tail_made, arm_tail_made, tail_ends, tail, diamond_kinds, bound_kinds, of_first, kind_in, arm_kind, all_of, kinds, all_kinds, arm_kinds, tail_kinds, arm_tail_kinds}
use Rattle.normal_form.proofs.Lines.{closes, IsClosed, EndsClosed, ends_is_closed}
use Rattle.normal_form.proofs.Ends.{closes_tail, tail_closed}
use Rattle.normal_form.proofs.Turns.{placed}
use Rattle.normal_form.proofs.Values.{cons_are, fewer}

-- ---- blocks

mutual
  cut_count : (lines : List Line) → IsClosed lines → length (cut lines) ≡ closes lines
  cut_count [] h = refl
  cut_count (Bind l ∷ lines) h = ends_count l lines h
  cut_count (Close t ∷ lines) h = ap suc (cut_count lines h)

  ends_count : (l : block.Let) (lines : List Line) → EndsClosed lines → length (in_first l (cut lines)) ≡ closes lines
  ends_count l [] h = absurd h
  ends_count l (Bind m ∷ lines) h = twice l m (cut lines) ∙ ends_count m lines h
    where
      twice : (l m : block.Let) (bs : List NormalBlock) → length (in_first l (in_first m bs)) ≡ length (in_first m bs)
      twice l m [] = refl
      twice l m (b ∷ bs) = refl
  ends_count l (Close t ∷ lines) h = ap suc (cut_count lines h)

pub blocks_counted : (p : Source) (e : Expression) (s : Scope ℕ) (next number : ℕ) → length (cut (tail p e s next number)) ≡ tail_ends p e
blocks_counted p e s next number = cut_count (tail p e s next number) (ends_is_closed (tail p e s next number) (tail_closed p e s next number)) ∙ closes_tail p e s next number

-- ---- locals

-- what an arm makes at its beginning
diamonds_counted : (x : ArmCell) → length (diamond_kinds x) ≡ diamonds x
diamonds_counted cell.Plain = refl
diamonds_counted cell.Free = refl
diamonds_counted (cell.Keep d) = refl

bound_counted : (p : Source) (t : ℕ) (c : Name) (fs : List (Option Name)) (x : ArmCell) → HeadFits (types_of p) t c fs x
    → length (bound_kinds p c x) ≡ bound_count fs x
bound_counted p t c fs x head =
    let number : con_of p c ≡ head.con = ap (λ o. or_else o 0) (sym (number_same p c) ∙ head.is) in
    let fields = ap (λ n. length (fields_of (types_of p) n)) number in
    let both = length-append (fields_of (types_of p) (con_of p c)) (diamond_kinds x) in
    let own = diamonds_counted x in
    let full = head.full in
    omega (arith, both, fields, own, full)

all_counted : (count : ℕ → ℕ) (kinds_by : ℕ → List Kind) → ((con : ℕ) → length (kinds_by con) ≡ count con) → (cons : List ℕ)
    → length (all_of kinds_by cons) ≡ total count cons
all_counted count kinds_by h [] = refl
all_counted count kinds_by h (con ∷ cons) =
    let both = length-append (kinds_by con) (all_of kinds_by cons) in
    let own = h con in
    let rest = all_counted count kinds_by h cons in
    omega (arith, both, own, rest)

chosen_counted : (t : Bool) (xs ys : List Kind) (m n : ℕ) → length xs ≡ m → length ys ≡ n → length (if t then xs else ys) ≡ (if t then m else n)
chosen_counted true xs ys m n h k = h
chosen_counted false xs ys m n h k = k

-- the kind that a typed expression has is the one that is computed
first_known : (P : ℕ → Type 0) (kind_of : ℕ → Kind) (k : Kind) (cons : List ℕ) (i con : ℕ) → slice_get cons i ≡ Some con
    → ((c : ℕ) → P c → kind_of c ≡ k) → AllByRecursion P cons → of_first kind_of cons ≡ k
first_known P kind_of k [] i con e h each = absurd cc
first_known P kind_of k (c ∷ cons) i con e h each = h c each.0

mutual
  pub kind_is : (p : Source) (sigs : List Signature) (s : Scope Kind) (e : Expression) (k : Kind) → HasKind (globals_of p sigs) s e k → kind_in p sigs s e ≡ k
  kind_is p sigs s (Num z l) k h = sym h
  kind_is p sigs s (Truth b l) k h = sym h
  kind_is p sigs s (Var n) k h = ap (λ o. or_else o kind.Int) h
  kind_is p sigs s (Prim op a b l) k h = sym h.2
  kind_is p sigs s (If c a b l) k h = kind_is p sigs s a k h.1
  kind_is p sigs s (Let n e b) k h = ap (λ q. kind_in p sigs (bind n.word q s) b) (kind_is p sigs s e h.0 h.1) ∙ kind_is p sigs (bind n.word h.0 s) b k h.2
  kind_is p sigs s (Match e NoArms l) k h = absurd h
  kind_is p sigs s (Match e (AndArm c fs x b as') l) k h =
      let same = cons_are p h.0 c fs x b as' h.3.0 in
      let place = placed (types_of p) h.3.0.con h.0 h.3.0.owned in
      let zero_is : 0 + h.3.0.con ≡ h.3.0.con = omega arith in
      first_known (λ con. arms_with (types_of p) con (AndArm c fs x b as') ≡ 1) (arm_kind p sigs s (AndArm c fs x b as')) k (cons_of p (AndArm c fs x b as')) place.i h.3.0.con (ap (λ cs. slice_get cs place.i) same ∙ place.at ∙ ap Some zero_is)
      (λ con one. arm_kind_is p sigs s h.0 (AndArm c fs x b as') k con h.3 (omega (arith, one))) (subst (AllByRecursion (λ con. arms_with (types_of p) con (AndArm c fs x b as') ≡ 1)) (sym same) h.2)
  kind_is p sigs s (Build c es place) k h = ap (λ o. or_else (built_kind (types_of p) (or_else o 0)) kind.Int) h.1 ∙ ap (λ o. or_else o kind.Int) h.2
  kind_is p sigs s (Call f es) k h = ap (λ o. option_map_or (λ f. f.result) o kind.Int) h.1 ∙ h.2

  pub arm_kind_is : (p : Source) (sigs : List Signature) (s : Scope Kind) (t : ℕ) (as' : Arms) (k : Kind) (con : ℕ)
      → ArmsHaveKind (globals_of p sigs) s t as' k → 1 ≤ arms_with (types_of p) con as' → arm_kind p sigs s as' con ≡ k
  arm_kind_is p sigs s t NoArms k con h some = absurd (omega (arith, some))
  arm_kind_is p sigs s t (AndArm c fs x b as') k con h some =
      by_test (is_that (constructor_number p c) con) refl (kind_is p sigs (arm_scope known_kind (types_of p) c fs x s) b k h.1) (λ more. arm_kind_is p sigs s t as' k con h.2 more)
    where
      by_test : (t : Bool) → is_that (constructor_number p c) con ≡ t → kind_in p sigs (arm_scope known_kind (types_of p) c fs x s) b ≡ k
          → (1 ≤ arms_with (types_of p) con as' → arm_kind p sigs s as' con ≡ k)
          → (if t then kind_in p sigs (arm_scope known_kind (types_of p) c fs x s) b else arm_kind p sigs s as' con) ≡ k
      by_test true e here later = here
      by_test false e here later =
          later (fewer (is_that (typed.constructor_number (types_of p) c.word) con) (arms_with (types_of p) con as') (ap (λ o. is_that o con) (number_same p c) ∙ e) some)

-- a part and one local more
one_more : (xs : List Kind) (k : Kind) (n : ℕ) → length xs ≡ n → length (xs ++ k ∷ []) ≡ suc n
one_more xs k n h = let e = length-append xs (k ∷ []) in omega (arith, e, h)

two_parts : (xs ys : List Kind) (m n : ℕ) → length xs ≡ m → length ys ≡ n → length (xs ++ ys) ≡ m + n
two_parts xs ys m n h k = let e = length-append xs ys in omega (arith, e, h, k)

mutual
  pub kinds_counted : (p : Source) (sigs : List Signature) (s : Scope Kind) (e : Expression) (k : Kind) → HasKind (globals_of p sigs) s e k
      → length (kinds p sigs s e) ≡ made p e
  kinds_counted p sigs s (Num z l) k h = refl
  kinds_counted p sigs s (Truth b l) k h = refl
  kinds_counted p sigs s (Var n) k h = refl
  kinds_counted p sigs s (Prim op a b l) k h =
      let first = kinds_counted p sigs s a kind.Int h.0 in
      let last = one_more (kinds p sigs s b) (operator_kind op) (made p b) (kinds_counted p sigs s b kind.Int h.1) in
      let both = length-append (kinds p sigs s a) (kinds p sigs s b ++ operator_kind op ∷ []) in
      omega (arith, first, last, both)
  kinds_counted p sigs s (If c a b l) k h =
      let on = kinds_counted p sigs s c kind.Flag h.0 in
      let first = kinds_counted p sigs s a k h.1 in
      let second = kinds_counted p sigs s b k h.2 in
      let inner = length-append (kinds p sigs s a) (kinds p sigs s b) in
      let both = length-append (kinds p sigs s c) (kind_in p sigs s (If c a b l) ∷ (kinds p sigs s a ++ kinds p sigs s b)) in
      omega (arith, on, first, second, inner, both)
  kinds_counted p sigs s (Let n e b) k h =
      two_parts (kinds p sigs s e) (kinds p sigs (bind n.word (kind_in p sigs s e) s) b) (made p e) (made p b) (kinds_counted p sigs s e h.0 h.1)
      (ap (λ q. length (kinds p sigs (bind n.word q s) b)) (kind_is p sigs s e h.0 h.1) ∙ kinds_counted p sigs (bind n.word h.0 s) b k h.2)
  kinds_counted p sigs s (Match e NoArms l) k h = absurd h
  kinds_counted p sigs s (Match e (AndArm c fs x b as') l) k h =
      let on = kinds_counted p sigs s e (kind.Of h.0) h.1 in
      let arms = all_counted (arm_made p (AndArm c fs x b as')) (arm_kinds p sigs s (AndArm c fs x b as')) (λ con. arm_counted p sigs s h.0 (AndArm c fs x b as') k con h.3) (cons_of p (AndArm c fs x b as')) in
      let both = length-append (kinds p sigs s e) (kind_in p sigs s (Match e (AndArm c fs x b as') l) ∷ all_of (arm_kinds p sigs s (AndArm c fs x b as')) (cons_of p (AndArm c fs x b as'))) in
      omega (arith, on, arms, both)
  kinds_counted p sigs s (Build c es place) k h = one_more (all_kinds p sigs s es) (kind_in p sigs s (Build c es place)) (all_made p es) (args_counted p sigs s es (fields_of (types_of p) h.0) h.3)
  kinds_counted p sigs s (Call f es) k h = one_more (all_kinds p sigs s es) (kind_in p sigs s (Call f es)) (all_made p es) (args_counted p sigs s es h.0.params h.3)

  pub args_counted : (p : Source) (sigs : List Signature) (s : Scope Kind) (es : Expressions) (ks : List Kind)
      → HaveKinds (globals_of p sigs) s es ks → length (all_kinds p sigs s es) ≡ all_made p es
  args_counted p sigs s NoExpressions ks h = refl
  args_counted p sigs s (AndExpression e es) [] h = absurd h
  args_counted p sigs s (AndExpression e es) (k ∷ ks) h = two_parts (kinds p sigs s e) (all_kinds p sigs s es) (made p e) (all_made p es) (kinds_counted p sigs s e k h.0) (args_counted p sigs s es ks h.1)

  pub arm_counted : (p : Source) (sigs : List Signature) (s : Scope Kind) (t : ℕ) (as' : Arms) (k : Kind) (con : ℕ)
      → ArmsHaveKind (globals_of p sigs) s t as' k → length (arm_kinds p sigs s as' con) ≡ arm_made p as' con
  arm_counted p sigs s t NoArms k con h = refl
  arm_counted p sigs s t (AndArm c fs x b as') k con h =
      chosen_counted (is_that (constructor_number p c) con) (bound_kinds p c x ++ kinds p sigs (arm_scope known_kind (types_of p) c fs x s) b) (arm_kinds p sigs s as' con) (bound_count fs x + made p b) (arm_made p as' con)
      (two_parts (bound_kinds p c x) (kinds p sigs (arm_scope known_kind (types_of p) c fs x s) b) (bound_count fs x) (made p b) (bound_counted p t c fs x h.0) (kinds_counted p sigs (arm_scope known_kind (types_of p) c fs x s) b k h.1))
      (arm_counted p sigs s t as' k con h.2)

mutual
  pub locals_counted : (p : Source) (sigs : List Signature) (s : Scope Kind) (e : Expression) (k : Kind) → HasKind (globals_of p sigs) s e k
      → length (tail_kinds p sigs s e) ≡ tail_made p e
  locals_counted p sigs s (Num z l) k h = refl
  locals_counted p sigs s (Truth b l) k h = refl
  locals_counted p sigs s (Var n) k h = refl
  locals_counted p sigs s (Prim op a b l) k h = kinds_counted p sigs s (Prim op a b l) k h
  locals_counted p sigs s (Build c es place) k h = kinds_counted p sigs s (Build c es place) k h
  locals_counted p sigs s (Call f es) k h = args_counted p sigs s es h.0.params h.3
  locals_counted p sigs s (Let n e b) k h =
      two_parts (kinds p sigs s e) (tail_kinds p sigs (bind n.word (kind_in p sigs s e) s) b) (made p e) (tail_made p b) (kinds_counted p sigs s e h.0 h.1)
      (ap (λ q. length (tail_kinds p sigs (bind n.word q s) b)) (kind_is p sigs s e h.0 h.1) ∙ locals_counted p sigs (bind n.word h.0 s) b k h.2)
  locals_counted p sigs s (If c a b l) k h =
      two_parts (kinds p sigs s c) (tail_kinds p sigs s a ++ tail_kinds p sigs s b) (made p c) (tail_made p a + tail_made p b) (kinds_counted p sigs s c kind.Flag h.0)
      (two_parts (tail_kinds p sigs s a) (tail_kinds p sigs s b) (tail_made p a) (tail_made p b) (locals_counted p sigs s a k h.1) (locals_counted p sigs s b k h.2))
  locals_counted p sigs s (Match e NoArms l) k h = absurd h
  locals_counted p sigs s (Match e (AndArm c fs x b as') l) k h =
      two_parts (kinds p sigs s e) (all_of (arm_tail_kinds p sigs s (AndArm c fs x b as')) (cons_of p (AndArm c fs x b as'))) (made p e) (total (arm_tail_made p (AndArm c fs x b as')) (cons_of p (AndArm c fs x b as')))
      (kinds_counted p sigs s e (kind.Of h.0) h.1)
      (all_counted (arm_tail_made p (AndArm c fs x b as')) (arm_tail_kinds p sigs s (AndArm c fs x b as')) (λ con. arm_locals_counted p sigs s h.0 (AndArm c fs x b as') k con h.3) (cons_of p (AndArm c fs x b as')))

  pub arm_locals_counted : (p : Source) (sigs : List Signature) (s : Scope Kind) (t : ℕ) (as' : Arms) (k : Kind) (con : ℕ)
      → ArmsHaveKind (globals_of p sigs) s t as' k → length (arm_tail_kinds p sigs s as' con) ≡ arm_tail_made p as' con
  arm_locals_counted p sigs s t NoArms k con h = refl
  arm_locals_counted p sigs s t (AndArm c fs x b as') k con h =
      chosen_counted (is_that (constructor_number p c) con) (bound_kinds p c x ++ tail_kinds p sigs (arm_scope known_kind (types_of p) c fs x s) b) (arm_tail_kinds p sigs s as' con) (bound_count fs x + tail_made p b) (arm_tail_made p as' con)
      (two_parts (bound_kinds p c x) (tail_kinds p sigs (arm_scope known_kind (types_of p) c fs x s) b) (bound_count fs x) (tail_made p b) (bound_counted p t c fs x h.0) (locals_counted p sigs (arm_scope known_kind (types_of p) c fs x s) b k h.1))
      (arm_locals_counted p sigs s t as' k con h.2)
