-- The trees of the code as plain data, and the walk's steps at each sort of expression.
use Rattle.std.proofs.Common.{◌≡◌, ℕ, suc, Bool, ◌+◌, ◌≤◌, ◌<◌, List, [], ◌∷◌, ◌++◌, map, length, Box, Vec, Global, Option, refl, sym, ap, subst, arith, rules, append_assoc, length-append}
use Rattle.std.specs.Prelude.{Result, Ok, Err}
use Rattle.camelot_values.specs.declared.kinds.Kind.{Kind}
use Rattle.camelot_values.specs.Operator.{Operator}
use Rattle.camelot_tree.specs.declared.tree.Name.{Name}
use Rattle.camelot_tree.specs.declared.tree.PrimOp.{PrimOp}
use Rattle.camelot_tree.specs.declared.tree.Expr.{Expr}
use Rattle.camelot_tree.specs.declared.tree.Expr as code
use Rattle.camelot_tree.specs.declared.tree.Expr.TheFolds.{the_lemmas}
use Rattle.camelot_tree.specs.declared.tree.Arm.{Arm}
use Rattle.camelot_tree.specs.declared.tree.Build.{Build as BuildParts}
use Rattle.camelot_tree.specs.declared.tree.Call.{Call as CallParts}
use Rattle.camelot_tree.specs.Tree.{Expression, Prim, If, Match, Build, Call, Expressions, Arms, expression_of, branch_of, operator_of, expressions, arms}
use Rattle.camelot_tree.specs.Spine.{size, arms_size}
use Rattle.camelot_typing.specs.Kinds.{Globals, atom_of, arms_atoms}
use Rattle.camelot_typing.specs.Typing.{known_kind}
use Rattle.linear_use.specs.Uses.{Loans}
use Rattle.linear_use.specs.declared.state.State.{State}
use Rattle.linear_use.specs.Flow.{After, Either, looks_on, scrutinee_flow, kinds_in, place_flow, next_of, all_next, arms_next, flow, all_flow, arms_flow}
use Rattle.linear_use.specs.Walk.{AreAt, Walked, Walks, WalksParts, WalksArms, WalksCall, kinds_at, all_kinds_at, arms_kinds_at, parts_kinds, rest_kinds}
use Rattle.linear_use.proofs.Walking.{at_front, end_within, seq_at, seq_walked, walked_count, finished}
use Rattle.linear_use.proofs.Climbing.{WalkedTerm, WalkedRest}

-- ---- the code's trees

pub arm_is : (a : Arm) → branch_of a ≡ record { con = a.con; fields = a.fields.items; cell = a.cell; body = expression_of a.body }
arm_is a = search (rules, the_lemmas)

pub match_is : (on : Box Expr Global) (as' : Vec Arm Global) (l : ℕ)
    → expression_of (code.Match l on as') ≡ Match (expression_of on.value) (arms (map branch_of as'.items)) l
match_is on as' l = search (rules, the_lemmas)

pub build_is : (b : Box BuildParts Global) → expression_of (code.Build b) ≡ Build b.value.con (expressions (map expression_of b.value.args.items)) b.value.place
build_is b = search (rules, the_lemmas)

pub call_is : (b : Box CallParts Global) → expression_of (code.Call b) ≡ Call b.value.fun (expressions (map expression_of b.value.args.items))
call_is b = search (rules, the_lemmas)

pub prim_is : (op : PrimOp) (a b : Box Expr Global) (l : ℕ)
    → expression_of (code.Prim op a b l) ≡ Prim (operator_of op) (expression_of a.value) (expression_of b.value) l
prim_is op a b l = search (rules, the_lemmas)

pub if_is : (c a b : Box Expr Global) (l : ℕ) → expression_of (code.If c a b l) ≡ If (expression_of c.value) (expression_of a.value) (expression_of b.value) l
if_is c a b l = search (rules, the_lemmas)

-- ---- matches

pub match_at : (g : Globals Kind) (ex : List Kind) (s0 : State) (e on : Expression) (as' : Arms) (l : ℕ) → e ≡ Match on as' l
    → AreAt ex s0.position (parts_kinds g (kinds_in s0.scope) e)
    → AreAt ex s0.position (kinds_at g s0 on ++ arms_kinds_at g s0 as')
match_at g ex s0 e on as' l q h = subst (λ x. AreAt ex s0.position (parts_kinds g (kinds_in s0.scope) x)) q h

pub match_smaller : (e on : Expression) (as' : Arms) (l : ℕ) → e ≡ Match on as' l → suc (size on + arms_size as') ≤ size e
match_smaller e on as' l q = let k = ap size q in omega (arith, k)

abbrev pub WalkedOn : Loans → Globals Kind → (lent : Bool) → Expression → Arms → State → State → Type 0
WalkedOn loans g lent on as' s0 s1 = Walked (scrutinee_flow lent on as' (flow loans g s0.next s0.scope on)) (next_of g.types s0.next on) (length (kinds_at g s0 on)) s0 s1

pub match_arms_at : (loans : Loans) (g : Globals Kind) (ex : List Kind) (lent : Bool) (s0 s1 : State) (on : Expression) (as' : Arms)
    → AreAt ex s0.position (kinds_at g s0 on ++ arms_kinds_at g s0 as')
    → WalkedOn loans g lent on as' s0 s1 → AreAt ex s1.position (arms_kinds_at g s1 as')
match_arms_at loans g ex lent s0 s1 on as' h w =
    seq_at ex (λ s. arms_atoms known_kind g (kinds_in s) as') (scrutinee_flow lent on as' (flow loans g s0.next s0.scope on)) (next_of g.types s0.next on) (length (kinds_at g s0 on)) (kinds_at g s0 on) s0 s1 w refl h

pub match_walks : {A E : Type 0} (loans : Loans) (g : Globals Kind) (lent : Bool) (s0 s1 s2 : State) (on : Expression) (as' : Arms) (l : ℕ) (r : Result A E) → lent ≡ looks_on s0.scope on
    → WalkedOn loans g lent on as' s0 s1 → WalksArms loans g lent as' s1 r s2
    → WalksParts loans g (Match on as' l) s0 r s2
match_walks loans g lent s0 s1 s2 on as' l (Ok x) e w v =
    let on_flow = flow loans g s0.next s0.scope on in
    let both = walked_count _ _ _ _ s0 s2 (sym (length-append (kinds_at g s0 on) (arms_kinds_at g s0 as')))
    (seq_walked (λ n s. arms_flow loans g lent n s as') (λ n. arms_next g.types n as') (λ s. arms_atoms known_kind g (kinds_in s) as') (scrutinee_flow lent on as' on_flow) (next_of g.types s0.next on) (length (kinds_at g s0 on)) s0 s1 s2 w v) in
    subst (λ b. Walked (After (scrutinee_flow b on as' on_flow) (arms_flow loans g b (next_of g.types s0.next on) s0.scope as')) (arms_next g.types (next_of g.types s0.next on) as') (length (kinds_at g s0 on ++ arms_kinds_at g s0 as')) s0 s2) e both
match_walks loans g lent s0 s1 s2 on as' l (Err stop) e w v = tt

pub match_whole : {A E : Type 0} (loans : Loans) (g : Globals Kind) (s0 s2 : State) (e on : Expression) (as' : Arms) (l : ℕ) (r : Result A E)
    → e ≡ Match on as' l → WalksParts loans g (Match on as' 0) s0 r s2
    → WalksParts loans g e s0 r s2
match_whole loans g s0 s2 e on as' l r q w = subst (λ x. WalksParts loans g x s0 r s2) (sym q) w

-- ---- builds and calls

build_walks : {A E : Type 0} (loans : Loans) (g : Globals Kind) (s0 s1 s2 : State) (c : Name) (es : Expressions) (place : Option Name) (r : Result A E)
    → Walked (all_flow loans g [] s0.next s0.scope es) (all_next g.types s0.next es) (length (all_kinds_at g s0 es)) s0 s1
    → Walks (place_flow g.types s1.scope place) s1.next 0 s1 r s2 → WalksParts loans g (Build c es place) s0 r s2
build_walks loans g s0 s1 s2 c es place (Ok x) w v =
    walked_count _ _ _ _ s0 s2 (let k : length (all_kinds_at g s0 es) + 0 ≡ length (all_kinds_at g s0 es) = omega arith in k)
    (seq_walked (λ n s. place_flow g.types s place) (λ n. n) (λ s. []) (all_flow loans g [] s0.next s0.scope es) (all_next g.types s0.next es) (length (all_kinds_at g s0 es)) s0 s1 s2 w v)
build_walks loans g s0 s1 s2 c es place (Err stop) w v = tt

pub build_walked : {A E : Type 0} (loans : Loans) (g : Globals Kind) (s0 s1 s2 : State) (e : Expression) (c : Name) (es : Expressions) (place : Option Name) (r : Result A E) → e ≡ Build c es place
    → Walked (all_flow loans g [] s0.next s0.scope es) (all_next g.types s0.next es) (length (all_kinds_at g s0 es)) s0 s1
    → Walks (place_flow g.types s1.scope place) s1.next 0 s1 r s2 → WalksParts loans g e s0 r s2
build_walked loans g s0 s1 s2 e c es place r q w v = subst (λ x. WalksParts loans g x s0 r s2) (sym q) (build_walks loans g s0 s1 s2 c es place r w v)

pub call_whole : {A E : Type 0} (loans : Loans) (g : Globals Kind) (s0 s2 : State) (e : Expression) (f : Name) (es : Expressions) (r : Result A E) → e ≡ Call f es
    → WalksCall loans g f.word es s0 r s2 → WalksParts loans g e s0 r s2
call_whole loans g s0 s2 e f es r q w = subst (λ x. WalksParts loans g x s0 r s2) (sym q) w

-- ---- operators and conditionals

pub prim_at : (g : Globals Kind) (ex : List Kind) (s0 : State) (e a b : Expression) (op : Operator) (l : ℕ) → e ≡ Prim op a b l
    → AreAt ex s0.position (rest_kinds g (kinds_in s0.scope) e)
    → AreAt ex s0.position (kinds_at g s0 b)
prim_at g ex s0 e a b op l q h =
    at_front ex s0.position (kinds_at g s0 b) (atom_of known_kind g (kinds_in s0.scope) (Prim op a b l) ∷ []) (subst (λ x. AreAt ex s0.position (rest_kinds g (kinds_in s0.scope) x)) q h)

pub prim_smaller : (e a b : Expression) (op : Operator) (l : ℕ) → e ≡ Prim op a b l → suc (size b) ≤ size e
prim_smaller e a b op l q = let k = ap size q in omega (arith, k)

pub prim_walked : (loans : Loans) (g : Globals Kind) (s0 s1 s2 : State) (e a b : Expression) (op : Operator) (l : ℕ) → e ≡ Prim op a b l → WalkedTerm loans g b s0 s1 → s2 ≡ record s1 { position = s1.position + 1 } → WalkedRest loans g e s0 s2
prim_walked loans g s0 s1 s2 e a b op l q w f =
    let k = length-append (kinds_at g s0 b) (atom_of known_kind g (kinds_in s0.scope) (Prim op a b l) ∷ []) in
    subst (λ x. WalkedRest loans g x s0 s2) (sym q) (finished (flow loans g s0.next s0.scope b) (next_of g.types s0.next b) (length (kinds_at g s0 b)) _ s0 s1 s2 w f k)

pub if_at : (g : Globals Kind) (ex : List Kind) (s0 : State) (e c a b : Expression) (l : ℕ) → e ≡ If c a b l
    → AreAt ex s0.position (rest_kinds g (kinds_in s0.scope) e)
    → AreAt ex s0.position (kinds_at g s0 a ++ kinds_at g s0 b)
if_at g ex s0 e c a b l q h =
    let k = atom_of known_kind g (kinds_in s0.scope) (If c a b l) ∷ [] in
    at_front ex s0.position (kinds_at g s0 a ++ kinds_at g s0 b) k
    (subst (AreAt ex s0.position) (sym (append_assoc (kinds_at g s0 a) (kinds_at g s0 b) k)) (subst (λ x. AreAt ex s0.position (rest_kinds g (kinds_in s0.scope) x)) q h))

pub if_smaller : (e c a b : Expression) (l : ℕ) → e ≡ If c a b l → suc (size a + size b) ≤ size e
if_smaller e c a b l q = let k = ap size q in omega (arith, k)

abbrev pub WalkedBranches : Loans → Globals Kind → Expression → Expression → State → State → Type 0
WalkedBranches loans g a b s0 s1 =
    Walked (Either (flow loans g s0.next s0.scope a) (flow loans g (next_of g.types s0.next a) s0.scope b)) (next_of g.types (next_of g.types s0.next a) b) (length (kinds_at g s0 a ++ kinds_at g s0 b)) s0 s1

pub if_walked : (loans : Loans) (g : Globals Kind) (s0 s1 s2 : State) (e c a b : Expression) (l : ℕ) → e ≡ If c a b l
    → WalkedBranches loans g a b s0 s1 → s2 ≡ record s1 { position = s1.position + 1 } → WalkedRest loans g e s0 s2
if_walked loans g s0 s1 s2 e c a b l q w f =
    let k = atom_of known_kind g (kinds_in s0.scope) (If c a b l) ∷ [] in
    let n = length-append (kinds_at g s0 a ++ kinds_at g s0 b) k in
    let m = ap length (append_assoc (kinds_at g s0 a) (kinds_at g s0 b) k) in
    subst (λ x. WalkedRest loans g x s0 s2) (sym q) (finished _ _ (length (kinds_at g s0 a ++ kinds_at g s0 b)) _ s0 s1 s2 w f (omega (arith, n, m)))

-- ---- the places of their own kinds

pub prim_end : (loans : Loans) (g : Globals Kind) (ex : List Kind) (s0 s1 : State) (e a b : Expression) (op : Operator) (l : ℕ) → e ≡ Prim op a b l
    → AreAt ex s0.position (rest_kinds g (kinds_in s0.scope) e) → WalkedTerm loans g b s0 s1
    → s1.position < length ex
prim_end loans g ex s0 s1 e a b op l q h w =
    end_within ex s0.position s1.position (kinds_at g s0 b) (atom_of known_kind g (kinds_in s0.scope) (Prim op a b l)) w.position (subst (λ x. AreAt ex s0.position (rest_kinds g (kinds_in s0.scope) x)) q h)

pub if_end : (loans : Loans) (g : Globals Kind) (ex : List Kind) (s0 s1 : State) (e c a b : Expression) (l : ℕ) → e ≡ If c a b l
    → AreAt ex s0.position (rest_kinds g (kinds_in s0.scope) e) → WalkedBranches loans g a b s0 s1
    → s1.position < length ex
if_end loans g ex s0 s1 e c a b l q h w =
    let k = atom_of known_kind g (kinds_in s0.scope) (If c a b l) in
    end_within ex s0.position s1.position (kinds_at g s0 a ++ kinds_at g s0 b) k w.position
    (subst (AreAt ex s0.position) (sym (append_assoc (kinds_at g s0 a) (kinds_at g s0 b) (k ∷ []))) (subst (λ x. AreAt ex s0.position (rest_kinds g (kinds_in s0.scope) x)) q h))
