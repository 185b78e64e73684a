-- Locals and their kinds: those of the names in scope, and those that an expression makes.
use Rattle.std.proofs.Common.{◌≡◌, ℕ, zero, suc, ◌+◌, ◌≤◌, ◌<◌, Bool, true, false, List, [], ◌∷◌, ◌++◌, length, Option, Some, None, refl, sym, ap, ◌∙◌, subst, arith, length-append}
use Rattle.std.specs.Prelude.{if◌then◌else◌, slice_get}
use Rattle.std.specs.List.{AllByRecursion}
use Rattle.std.specs.Option.{option_map_or}
use Rattle.std.specs.Str.{bytes_eq}
use Rattle.camelot_values.specs.Heap.{is_heap}
use Rattle.camelot_values.specs.Names.{find}
use Rattle.camelot_values.specs.Typing.{operator_kind}
use Rattle.camelot_values.specs.Lists.{is_among}
use Rattle.camelot_values.specs.declared.kinds.Kind.{Kind}
use Rattle.camelot_values.specs.declared.kinds.Kind.TheVariants as kind
use Rattle.camelot_tree.specs.declared.tree.Name.{Name}
use Rattle.camelot_tree.specs.declared.tree.ArmCell.{ArmCell}
use Rattle.camelot_tree.specs.declared.tree.ArmCell.TheVariants as cell
use Rattle.camelot_tree.specs.Tree.{Expression, Num, Truth, Var, Prim, If, Let, Match, Build, Call, Expressions, NoExpressions, AndExpression, Arms, NoArms, AndArm, Source}
use Rattle.camelot_tree.specs.Meaning.{constructor_number, is_that}
use Rattle.camelot_typing.specs.Kinds as typed
use Rattle.camelot_typing.specs.Kinds.{Scope, bind, bind_fields, bind_cell, arm_scope, or_else, types_of, fields_of, atom_of, numbers_of}
use Rattle.camelot_typing.specs.Typing.{Signature, known_kind, globals_of, FunctionsFit, HasKind, HaveKinds, ArmsHaveKind, HeadFits, arms_with}
use Rattle.camelot_typing.specs.NumberLaws.{number_same, is_among_numbers}
use Rattle.normal_form.specs.Normal.{con_of, local, cons_of, diamonds, bound_count, with_fields, with_cell, in_arm, total, made, all_made, arm_made, local_of, diamond_kinds, bound_kinds, of_first, kind_in, arm_kind, all_of, kinds, all_kinds, arm_kinds}
use Rattle.normal_form.proofs.Values.{cons_are, number_found, fewer}

-- ---- what is common to a function

-- a function in its program, where all its locals have these kinds
pub record Frame : Type 0 where
  pub source : Source
  pub sigs : List Signature
  pub kinds : List Kind
  pub fit : FunctionsFit source (globals_of source sigs) source.funs sigs
  pub computed : (s : Scope Kind) (e : Expression) (k : Kind) → HasKind (globals_of source sigs) s e k → k ≡ atom_of known_kind (globals_of source sigs) s e

-- the local is of a heap kind
abbrev pub heap_in : Frame → ℕ → Bool
heap_in F x = option_map_or (is_heap (types_of F.source)) (slice_get F.kinds x) false

-- from this local on, the function's locals have these kinds
abbrev pub At : List Kind → ℕ → List Kind → Type 0
At all next ks = (i : ℕ) (k : Kind) → slice_get ks i ≡ Some k → slice_get all (next + i) ≡ Some k

front_get : {A : Type 0} (xs ys : List A) (i : ℕ) (x : A) → slice_get xs i ≡ Some x → slice_get (xs ++ ys) i ≡ Some x
front_get [] ys i x e = let k : None ≡ Some x = e in absurd cc
front_get (y ∷ xs) ys zero x e = e
front_get (y ∷ xs) ys (suc i) x e = front_get xs ys i x e

back_get : {A : Type 0} (xs ys : List A) (i : ℕ) → slice_get (xs ++ ys) (length xs + i) ≡ slice_get ys i
back_get [] ys i = let e : 0 + i ≡ i = omega arith in ap (slice_get ys) e
back_get (x ∷ xs) ys i = let e : suc (length xs) + i ≡ suc (length xs + i) = omega arith in ap (slice_get (x ∷ (xs ++ ys))) e ∙ back_get xs ys i

pub at_front : (all : List Kind) (next : ℕ) (xs ys : List Kind) → At all next (xs ++ ys) → At all next xs
at_front all next xs ys h i k e = h i k (front_get xs ys i k e)

pub at_back : (all : List Kind) (next more : ℕ) (xs ys : List Kind) → more ≡ next + length xs → At all next (xs ++ ys) → At all more ys
at_back all next more xs ys is h i k e =
    let same : next + (length xs + i) ≡ more + i = omega (arith, is) in
    ap (slice_get all) (sym same) ∙ h (length xs + i) k (back_get xs ys i ∙ e)

pub at_head : (all : List Kind) (next : ℕ) (k : Kind) (ks : List Kind) → At all next (k ∷ ks) → slice_get all next ≡ Some k
at_head all next k ks h = let same : next ≡ next + 0 = omega arith in ap (slice_get all) same ∙ h 0 k refl

pub at_rest : (all : List Kind) (next : ℕ) (k : Kind) (ks : List Kind) → At all next (k ∷ ks) → At all (suc next) ks
at_rest all next k ks h i q e = let same : suc next + i ≡ next + suc i = omega arith in ap (slice_get all) same ∙ h (suc i) q e

-- ---- names

abbrev pub Agreed : List Kind → ℕ → Option Kind → Option ℕ → Type 0
Agreed all next None None = Unit {0}
Agreed all next (Some k) (Some x) = (slice_get all x ≡ Some k) × (x < next)
Agreed all next o q = ⊥

-- each name in scope has a local of its kind, below `next`
pub record Named (F : Frame) (s : Scope Kind) (l : Scope ℕ) (next : ℕ) : Type 0 where
  pub at : (name : List ℕ) → Agreed F.kinds next (find s name) (find l name)

pub named_kept : (F : Frame) (s : Scope Kind) (l : Scope ℕ) (next more : ℕ) → Named F s l next → next ≤ more → Named F s l more
named_kept F s l next more n up = record { at = λ name. kept (find s name) (find l name) (n.at name) }
  where
    kept : (o : Option Kind) (q : Option ℕ) → Agreed F.kinds next o q → Agreed F.kinds more o q
    kept None None h = tt
    kept None (Some x) h = absurd h
    kept (Some k) None h = absurd h
    kept (Some k) (Some x) h = (h.0, (let less = h.1 in omega (arith, less, up)))

pub named_bind : (F : Frame) (s : Scope Kind) (l : Scope ℕ) (next : ℕ) (n : List ℕ) (k : Kind) (x : ℕ) → Named F s l next
    → slice_get F.kinds x ≡ Some k → x < next → Named F (bind n k s) (bind n x l) next
named_bind F s l next n k x st is less = record { at = λ name. by_test name (bytes_eq n name) }
  where
    by_test : (name : List ℕ) (b : Bool) → Agreed F.kinds next (if b then Some k else find s name) (if b then Some x else find l name)
    by_test name true = (is, less)
    by_test name false = st.at name

-- the local of a name
pub record HasLocal (all : List Kind) (l : Scope ℕ) (next : ℕ) (name : List ℕ) (k : Kind) : Type 0 where
  pub x : ℕ
  pub found : find l name ≡ Some x
  pub kind : slice_get all x ≡ Some k
  pub below : x < next

pub named_local : (F : Frame) (s : Scope Kind) (l : Scope ℕ) (next : ℕ) (name : List ℕ) (k : Kind) → Named F s l next → find s name ≡ Some k
    → HasLocal F.kinds l next name k
named_local F s l next name k st e = by_cases (find s name) (find l name) refl e (st.at name)
  where
    by_cases : (o : Option Kind) (q : Option ℕ) → find l name ≡ q → o ≡ Some k → Agreed F.kinds next o q → HasLocal F.kinds l next name k
    by_cases None q is e h = absurd cc
    by_cases (Some j) None is e h = absurd h
    by_cases (Some j) (Some x) is e h = let same : j ≡ k = cc in record { x = x; found = is; kind = h.0 ∙ ap Some same; below = h.1 }

-- the name of a local
pub record HasName (F : Frame) (s : Scope Kind) (next : ℕ) (name : List ℕ) (x : ℕ) : Type 0 where
  pub k : Kind
  pub found : find s name ≡ Some k
  pub kind : slice_get F.kinds x ≡ Some k
  pub below : x < next

pub named_name : (F : Frame) (s : Scope Kind) (l : Scope ℕ) (next : ℕ) (name : List ℕ) (x : ℕ) → Named F s l next → find l name ≡ Some x
    → HasName F s next name x
named_name F s l next name x st e = by_cases (find s name) (find l name) refl e (st.at name)
  where
    by_cases : (o : Option Kind) (q : Option ℕ) → find s name ≡ o → q ≡ Some x → Agreed F.kinds next o q → HasName F s next name x
    by_cases o None is e h = absurd cc
    by_cases None (Some y) is e h = absurd h
    by_cases (Some k) (Some y) is e h =
        let same : y ≡ x = cc in
        record { k = k; found = is; kind = ap (slice_get F.kinds) (sym same) ∙ h.0; below = (let less = h.1 in omega (arith, less, same)) }

-- ---- arms

pub named_fields : (F : Frame) (s : Scope Kind) (l : Scope ℕ) (n : ℕ) (fs : List (Option Name)) (ks : List Kind) → Named F s l n
    → length fs ≡ length ks → At F.kinds n ks
    → Named F (bind_fields known_kind fs ks s) (with_fields fs n l) (n + length fs)
named_fields F s l n [] [] st full at = named_kept F s l n (n + 0) st (omega arith)
named_fields F s l n [] (k ∷ ks) st full at = absurd (omega (arith, full))
named_fields F s l n (f ∷ fs) [] st full at = absurd (omega (arith, full))
named_fields F s l n (None ∷ fs) (k ∷ ks) st full at =
    let same : suc n + length fs ≡ n + suc (length fs) = omega arith in
    subst (Named F (bind_fields known_kind fs ks s) (with_fields fs (suc n) l)) same
    (named_fields F s l (suc n) fs ks (named_kept F s l n (suc n) st (omega arith)) (omega (arith, full)) (at_rest F.kinds n k ks at))
named_fields F s l n (Some f ∷ fs) (k ∷ ks) st full at =
    let same : suc n + length fs ≡ n + suc (length fs) = omega arith in
    subst (Named F (bind_fields known_kind fs ks (bind f.word k s)) (with_fields fs (suc n) (bind f.word n l))) same
    (named_fields F (bind f.word k s) (bind f.word n l) (suc n) fs ks
    (named_bind F s l (suc n) f.word k n (named_kept F s l n (suc n) st (omega arith)) (at_head F.kinds n k ks at) (omega arith)) (omega (arith, full)) (at_rest F.kinds n k ks at))

pub named_cell : (F : Frame) (s : Scope Kind) (l : Scope ℕ) (n : ℕ) (x : ArmCell) → Named F s l n → At F.kinds n (diamond_kinds x)
    → Named F (bind_cell known_kind x s) (with_cell x n l) (n + diamonds x)
named_cell F s l n cell.Plain st at = named_kept F s l n (n + 0) st (omega arith)
named_cell F s l n cell.Free st at = named_kept F s l n (n + 0) st (omega arith)
named_cell F s l n (cell.Keep d) st at =
    named_bind F s l (n + 1) d.word kind.Dia n (named_kept F s l n (n + 1) st (omega arith)) (at_head F.kinds n kind.Dia [] at) (omega arith)

-- the constructor of a typed arm
pub record ArmFor (p : Source) (c : Name) (fs : List (Option Name)) (con : ℕ) : Type 0 where
  pub is : typed.constructor_number (types_of p) c.word ≡ Some con
  pub con_is : con_of p c ≡ con
  pub full : length fs ≡ length (fields_of (types_of p) con)

pub arm_for_con : (p : Source) (t con : ℕ) (c : Name) (fs : List (Option Name)) (x : ArmCell) → HeadFits (types_of p) t c fs x
    → is_that (constructor_number p c) con ≡ true → ArmFor p c fs con
arm_for_con p t con c fs x head test =
    let number : typed.constructor_number (types_of p) c.word ≡ Some con = number_same p c ∙ number_found (constructor_number p c) con test in
    let both : Some head.con ≡ Some con = sym head.is ∙ number in
    let same : head.con ≡ con = cc in
    record { is = number; con_is = ap (λ o. or_else o 0) (number_found (constructor_number p c) con test); full = head.full ∙ ap (λ n. length (fields_of (types_of p) n)) same }

pub diamonds_are : (x : ArmCell) → length (diamond_kinds x) ≡ diamonds x
diamonds_are cell.Plain = refl
diamonds_are cell.Free = refl
diamonds_are (cell.Keep d) = refl

-- the kinds of what an arm of this constructor binds
abbrev pub bound_of : Source → ℕ → ArmCell → List Kind
bound_of p con x = fields_of (types_of p) con ++ diamond_kinds x

pub bound_same : (p : Source) (con : ℕ) (c : Name) (fs : List (Option Name)) (x : ArmCell) → ArmFor p c fs con → bound_kinds p c x ≡ bound_of p con x
bound_same p con c fs x a = ap (λ n. fields_of (types_of p) n ++ diamond_kinds x) a.con_is

pub bound_are : (p : Source) (con : ℕ) (c : Name) (fs : List (Option Name)) (x : ArmCell) → ArmFor p c fs con → length (bound_of p con x) ≡ bound_count fs x
bound_are p con c fs x a = let e = length-append (fields_of (types_of p) con) (diamond_kinds x) in let d = diamonds_are x in let full = a.full in omega (arith, e, d, full)

pub named_arm : (F : Frame) (s : Scope Kind) (l : Scope ℕ) (n con : ℕ) (c : Name) (fs : List (Option Name)) (x : ArmCell) → Named F s l n
    → ArmFor F.source c fs con → At F.kinds n (bound_of F.source con x)
    → Named F (arm_scope known_kind (types_of F.source) c fs x s) (in_arm fs x n l) (n + bound_count fs x)
named_arm F s l n con c fs x st a at =
    let types = types_of F.source in
    let ks = fields_of types con in
    let full = a.full in
    let same : (n + length fs) + diamonds x ≡ n + bound_count fs x = omega arith in
    subst (λ cs. Named F (bind_cell known_kind x (bind_fields known_kind fs (fields_of types (or_else cs 0)) s)) (in_arm fs x n l) (n + bound_count fs x)) (sym a.is)
    (subst (Named F (bind_cell known_kind x (bind_fields known_kind fs ks s)) (in_arm fs x n l)) same
    (named_cell F (bind_fields known_kind fs ks s) (with_fields fs n l) (n + length fs) x
    (named_fields F s l n fs ks st full (at_front F.kinds n ks (diamond_kinds x) at))
    (at_back F.kinds n (n + length fs) ks (diamond_kinds x) (omega (arith, full)) at)))

-- ---- as many kinds as locals

pub all_of_made : (F : ℕ → List Kind) (count : ℕ → ℕ) → ((con : ℕ) → length (F con) ≡ count con) → (cons : List ℕ) → length (all_of F cons) ≡ total count cons
all_of_made F count h [] = refl
all_of_made F count h (con ∷ cons) = let e = length-append (F con) (all_of F cons) in let own = h con in let rest = all_of_made F count h cons in omega (arith, e, own, rest)

one_more : (xs : List Kind) (k : Kind) (n : ℕ) → length xs ≡ n → length (xs ++ k ∷ []) ≡ suc n
one_more xs k n h = let e = length-append xs (k ∷ []) in omega (arith, e, h)

pub two_parts : (xs ys : List Kind) (m n : ℕ) → length xs ≡ m → length ys ≡ n → length (xs ++ ys) ≡ m + n
two_parts xs ys m n h k = let e = length-append xs ys in omega (arith, e, h, k)

-- ---- the kind of an expression

of_first_is : (kind_of : ℕ → Kind) (q : Kind) (P : ℕ → Type 0) (cons : List ℕ) (con : ℕ) → ((con : ℕ) → P con → q ≡ kind_of con)
    → AllByRecursion P cons → is_among cons con ≡ true → q ≡ of_first kind_of cons
of_first_is kind_of q P [] con each all some = absurd cc
of_first_is kind_of q P (c ∷ cons) con each all some = each c all.0

mutual
  -- it is the one that the definition computes
  pub kind_is : (F : Frame) (e : Expression) (s : Scope Kind) (q : Kind) → HasKind (globals_of F.source F.sigs) s e q → q ≡ kind_in F.source F.sigs s e
  kind_is F (Num z l) s q has = F.computed s (Num z l) q has
  kind_is F (Truth b l) s q has = F.computed s (Truth b l) q has
  kind_is F (Var n) s q has = F.computed s (Var n) q has
  kind_is F (Prim op a b l) s q has = F.computed s (Prim op a b l) q has
  kind_is F (Build c es place) s q has = F.computed s (Build c es place) q has
  kind_is F (Call f es) s q has = F.computed s (Call f es) q has
  kind_is F (If c a b l) s q has = kind_is F a s q has.1
  kind_is F (Let n a b) s q has =
      kind_is F b (bind n.word (kind_in F.source F.sigs s a) s) q (subst (λ o. HasKind (globals_of F.source F.sigs) (bind n.word o s) b q) (kind_is F a s has.0 has.1) has.2)
  kind_is F (Match e NoArms l) s q has = absurd has
  kind_is F (Match e (AndArm c fs x b as') l) s q has =
      let types = types_of F.source in
      let arms = AndArm c fs x b as' in
      of_first_is (arm_kind F.source F.sigs s arms) q (λ con. arms_with types con arms ≡ 1) (numbers_of types has.0) has.3.0.con
      (λ con covered. arm_kind_is F (AndArm c fs x b as') s has.0 con q has.3 (omega (arith, covered))) has.2 (is_among_numbers types has.3.0.con has.0 has.3.0.owned)
      ∙ ap (of_first (arm_kind F.source F.sigs s arms)) (sym (cons_are F.source has.0 c fs x b as' has.3.0))

  pub arm_kind_is : (F : Frame) (as' : Arms) (s : Scope Kind) (t con : ℕ) (q : Kind) → ArmsHaveKind (globals_of F.source F.sigs) s t as' q
      → 1 ≤ arms_with (types_of F.source) con as' → q ≡ arm_kind F.source F.sigs s as' con
  arm_kind_is F NoArms s t con q has some = absurd (omega (arith, some))
  arm_kind_is F (AndArm c fs x b as') s t con q has some =
      by_test (is_that (constructor_number F.source c) con) (ap (λ o. is_that o con) (number_same F.source c)) (kind_is F b (arm_scope known_kind (types_of F.source) c fs x s) q has.1) (λ more. arm_kind_is F as' s t con q has.2 more)
    where
      by_test : (test : Bool) → is_that (typed.constructor_number (types_of F.source) c.word) con ≡ test
          → q ≡ kind_in F.source F.sigs (arm_scope known_kind (types_of F.source) c fs x s) b
          → (1 ≤ arms_with (types_of F.source) con as' → q ≡ arm_kind F.source F.sigs s as' con)
          → q ≡ (if test then kind_in F.source F.sigs (arm_scope known_kind (types_of F.source) c fs x s) b else arm_kind F.source F.sigs s as' con)
      by_test true e own rest = own
      by_test false e own rest = rest (fewer (is_that (typed.constructor_number (types_of F.source) c.word) con) (arms_with (types_of F.source) con as') e some)

-- a let's body is typed in the scope of its computed kind
pub in_let : (F : Frame) (s : Scope Kind) (n : Name) (a b : Expression) (r q : Kind) → HasKind (globals_of F.source F.sigs) s a r
    → HasKind (globals_of F.source F.sigs) (bind n.word r s) b q
    → HasKind (globals_of F.source F.sigs) (bind n.word (kind_in F.source F.sigs s a) s) b q
in_let F s n a b r q h k = subst (λ o. HasKind (globals_of F.source F.sigs) (bind n.word o s) b q) (kind_is F a s r h) k

-- and it is the one that typing computes
pub kind_same : (F : Frame) (a : Expression) (s : Scope Kind) (q : Kind) → HasKind (globals_of F.source F.sigs) s a q
    → atom_of known_kind (globals_of F.source F.sigs) s a ≡ kind_in F.source F.sigs s a
kind_same F a s q has = sym (F.computed s a q has) ∙ kind_is F a s q has

mutual
  pub kinds_made : (F : Frame) (e : Expression) (s : Scope Kind) (q : Kind) → HasKind (globals_of F.source F.sigs) s e q
      → length (kinds F.source F.sigs s e) ≡ made F.source e
  kinds_made F (Var n) s q has = refl
  kinds_made F (Num z l) s q has = refl
  kinds_made F (Truth b l) s q has = refl
  kinds_made F (Prim op a b l) s q has =
      let p = F.source in
      let ka = kinds_made F a s kind.Int has.0 in
      let kb = one_more (kinds p F.sigs s b) (operator_kind op) (made p b) (kinds_made F b s kind.Int has.1) in
      let e = two_parts (kinds p F.sigs s a) (kinds p F.sigs s b ++ (operator_kind op ∷ [])) (made p a) (suc (made p b)) ka kb in
      omega (arith, e)
  kinds_made F (Build c es place) s q has = one_more (all_kinds F.source F.sigs s es) _ (all_made F.source es) (all_kinds_made F es s _ has.3)
  kinds_made F (Call f es) s q has = one_more (all_kinds F.source F.sigs s es) _ (all_made F.source es) (all_kinds_made F es s _ has.3)
  kinds_made F (Let n a b) s q has =
      let p = F.source in
      let inner = bind n.word (kind_in p F.sigs s a) s in
      two_parts (kinds p F.sigs s a) (kinds p F.sigs inner b) (made p a) (made p b) (kinds_made F a s has.0 has.1) (kinds_made F b inner q (in_let F s n a b has.0 q has.1 has.2))
  kinds_made F (If c a b l) s q has =
      let p = F.source in
      let both = two_parts (kinds p F.sigs s a) (kinds p F.sigs s b) (made p a) (made p b) (kinds_made F a s q has.1) (kinds_made F b s q has.2) in
      let e = two_parts (kinds p F.sigs s c) (kind_in p F.sigs s (If c a b l) ∷ (kinds p F.sigs s a ++ kinds p F.sigs s b)) (made p c) (suc (made p a + made p b)) (kinds_made F c s kind.Flag has.0) (ap suc both) in
      omega (arith, e)
  kinds_made F (Match e NoArms l) s q has = absurd has
  kinds_made F (Match e (AndArm c fs x b as') l) s q has =
      let p = F.source in
      let arms = AndArm c fs x b as' in
      let all = all_of_made (arm_kinds p F.sigs s arms) (arm_made p arms) (λ con. arm_kinds_made F (AndArm c fs x b as') s has.0 con q has.3) (cons_of p arms) in
      let e = two_parts (kinds p F.sigs s e) (kind_in p F.sigs s (Match e arms l) ∷ all_of (arm_kinds p F.sigs s arms) (cons_of p arms)) (made p e) (suc (total (arm_made p arms) (cons_of p arms)))
      (kinds_made F e s (kind.Of has.0) has.1) (ap suc all) in
      omega (arith, e)

  pub all_kinds_made : (F : Frame) (es : Expressions) (s : Scope Kind) (ks : List Kind) → HaveKinds (globals_of F.source F.sigs) s es ks
      → length (all_kinds F.source F.sigs s es) ≡ all_made F.source es
  all_kinds_made F NoExpressions s ks has = refl
  all_kinds_made F (AndExpression e es) s [] has = absurd has
  all_kinds_made F (AndExpression e es) s (k ∷ ks) has =
      two_parts (kinds F.source F.sigs s e) (all_kinds F.source F.sigs s es) (made F.source e) (all_made F.source es) (kinds_made F e s k has.0) (all_kinds_made F es s ks has.1)

  pub arm_kinds_made : (F : Frame) (as' : Arms) (s : Scope Kind) (t con : ℕ) (q : Kind) → ArmsHaveKind (globals_of F.source F.sigs) s t as' q
      → length (arm_kinds F.source F.sigs s as' con) ≡ arm_made F.source as' con
  arm_kinds_made F NoArms s t con q has = refl
  arm_kinds_made F (AndArm c fs x b as') s t con q has =
      by_test (is_that (constructor_number F.source c) con) refl (kinds_made F b (arm_scope known_kind (types_of F.source) c fs x s) q has.1) (arm_kinds_made F as' s t con q has.2)
    where
      by_test : (test : Bool) → is_that (constructor_number F.source c) con ≡ test
          → length (kinds F.source F.sigs (arm_scope known_kind (types_of F.source) c fs x s) b) ≡ made F.source b → length (arm_kinds F.source F.sigs s as' con) ≡ arm_made F.source as' con
          → length (if test then bound_kinds F.source c x ++ kinds F.source F.sigs (arm_scope known_kind (types_of F.source) c fs x s) b else arm_kinds F.source F.sigs s as' con)
          ≡ (if test then bound_count fs x + made F.source b else arm_made F.source as' con)
      by_test true e own rest =
          let a = arm_for_con F.source t con c fs x has.0 e in
          two_parts (bound_kinds F.source c x) (kinds F.source F.sigs (arm_scope known_kind (types_of F.source) c fs x s) b) (bound_count fs x) (made F.source b) (ap length (bound_same F.source con c fs x a) ∙ bound_are F.source con c fs x a) own
      by_test false e own rest = rest

-- ---- the local of an expression

-- it is there, and has the expression's kind
pub record LocalIs (F : Frame) (x top : ℕ) (q : Kind) : Type 0 where
  pub kind : slice_get F.kinds x ≡ Some q
  pub below : x < top

behind_at : (all : List Kind) (next x : ℕ) (xs : List Kind) (k : Kind) (ys : List Kind) → x ≡ next + length xs → At all next (xs ++ (k ∷ ys))
    → slice_get all x ≡ Some k
behind_at all next x xs k ys is h = at_head all x k ys (at_back all next x xs (k ∷ ys) is h)

pub local_is : (F : Frame) (e : Expression) (s : Scope Kind) (l : Scope ℕ) (next : ℕ) (q : Kind) → Named F s l next
    → HasKind (globals_of F.source F.sigs) s e q → At F.kinds next (kinds F.source F.sigs s e)
    → LocalIs F (local_of F.source e l next) (next + made F.source e) q
local_is F (Var n) s l next q st has at =
    let r = named_local F s l next n.word q st has in
    let x_is : local l n ≡ r.x = ap (λ o. or_else o 0) r.found in
    record { kind = ap (slice_get F.kinds) x_is ∙ r.kind; below = (let less = r.below in omega (arith, x_is, less)) }
local_is F (Num z l0) s l next q st has at = record { kind = at_head F.kinds next kind.Int [] at ∙ ap Some (sym has); below = omega arith }
local_is F (Truth b l0) s l next q st has at = record { kind = at_head F.kinds next kind.Flag [] at ∙ ap Some (sym has); below = omega arith }
local_is F (Prim op a b l0) s l next q st has at =
    let p = F.source in
    let ka = kinds_made F a s kind.Int has.0 in
    let kb = kinds_made F b s kind.Int has.1 in
    record {
      kind = behind_at F.kinds (next + made p a) (next + (made p a + made p b)) (kinds p F.sigs s b) (operator_kind op) [] (omega (arith, kb))
          (at_back F.kinds next (next + made p a) (kinds p F.sigs s a) (kinds p F.sigs s b ++ (operator_kind op ∷ [])) (omega (arith, ka)) at) ∙ ap Some (sym has.2);
      below = omega arith;
    }
local_is F (Build c es place) s l next q st has at =
    let p = F.source in
    let count = all_kinds_made F es s _ has.3 in
    record {
      kind = behind_at F.kinds next (next + all_made p es) (all_kinds p F.sigs s es) (kind_in p F.sigs s (Build c es place)) [] (omega (arith, count)) at ∙ ap Some (sym (kind_is F (Build c es place) s q has));
      below = omega arith;
    }
local_is F (Call f es) s l next q st has at =
    let p = F.source in
    let count = all_kinds_made F es s _ has.3 in
    record {
      kind = behind_at F.kinds next (next + all_made p es) (all_kinds p F.sigs s es) (kind_in p F.sigs s (Call f es)) [] (omega (arith, count)) at ∙ ap Some (sym (kind_is F (Call f es) s q has));
      below = omega arith;
    }
local_is F (Let n a b) s l next q st has at =
    let p = F.source in
    let r = kind_in p F.sigs s a in
    let na = next + made p a in
    let ka = kinds_made F a s has.0 has.1 in
    let first = local_is F a s l next has.0 st has.1 (at_front F.kinds next (kinds p F.sigs s a) (kinds p F.sigs (bind n.word r s) b) at) in
    let own = local_is F b (bind n.word r s) (bind n.word (local_of p a l next) l) na q
    (named_bind F s l na n.word r (local_of p a l next) (named_kept F s l next na st (omega arith)) (first.kind ∙ ap Some (kind_is F a s has.0 has.1)) first.below)
    (in_let F s n a b has.0 q has.1 has.2)
    (at_back F.kinds next na (kinds p F.sigs s a) (kinds p F.sigs (bind n.word r s) b) (omega (arith, ka)) at) in
    record { kind = own.kind; below = (let less = own.below in omega (arith, less)) }
local_is F (If c a b l0) s l next q st has at =
    let p = F.source in
    let kc = kinds_made F c s kind.Flag has.0 in
    record {
      kind = behind_at F.kinds next (next + made p c) (kinds p F.sigs s c) (kind_in p F.sigs s (If c a b l0)) (kinds p F.sigs s a ++ kinds p F.sigs s b) (omega (arith, kc)) at
          ∙ ap Some (sym (kind_is F (If c a b l0) s q has));
      below = omega arith;
    }
local_is F (Match e NoArms l0) s l next q st has at = absurd has
local_is F (Match e (AndArm c fs x b as') l0) s l next q st has at =
    let p = F.source in
    let arms = AndArm c fs x b as' in
    let ke = kinds_made F e s (kind.Of has.0) has.1 in
    record {
      kind = behind_at F.kinds next (next + made p e) (kinds p F.sigs s e) (kind_in p F.sigs s (Match e arms l0)) (all_of (arm_kinds p F.sigs s arms) (cons_of p arms)) (omega (arith, ke)) at
          ∙ ap Some (sym (kind_is F (Match e arms l0) s q has));
      below = omega arith;
    }
