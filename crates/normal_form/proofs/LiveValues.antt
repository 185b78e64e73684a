-- What is live in front of an expression's lines is what occurs in it by the names in scope and what is live behind it,
-- and no owned local is taken that is read or taken again.
use Rattle.std.proofs.Common.{◌≡◌, ℕ, suc, ◌+◌, ◌≤◌, ◌<◌, Bool, true, false, List, [], ◌∷◌, ◌++◌, Option, Some, None, refl, sym, ap, ◌∙◌, subst, arith, append_assoc, inl, inr}
use Rattle.std.specs.Prelude.{max, if◌then◌else◌, slice_get, ◌⊎◌, ◌==◌, ◌&&◌}
use Rattle.std.specs.List.{AllByRecursion}
use Rattle.std.specs.Option.{option_map_or}
use Rattle.std.specs.Str.{bytes_eq}
use Rattle.camelot_values.specs.Heap.{is_heap}
use Rattle.camelot_values.specs.Lists.{is_among}
use Rattle.camelot_values.specs.declared.kinds.Kind.{Kind}
use Rattle.camelot_values.specs.declared.kinds.Kind.TheVariants as kind
use Rattle.camelot_tree.specs.declared.tree.Name.{Name}
use Rattle.camelot_tree.specs.Tree.{Expression, Num, Truth, Var, Prim, If, Let, Match, Build, Call, Expressions, NoExpressions, AndExpression, Arms, NoArms, AndArm, Branch, Source}
use Rattle.camelot_tree.specs.Meaning.{constructor_number, is_that}
use Rattle.camelot_typing.specs.Kinds as typed
use Rattle.camelot_typing.specs.Kinds.{Scope, bind, arm_scope, or_else, types_of, fields_of, is_inline}
use Rattle.camelot_typing.specs.Typing.{known_kind, globals_of, HaveKinds, ArmsHaveKind, PlaceFits, arms_with}
use Rattle.camelot_typing.specs.NumberLaws.{number_same}
use Rattle.linear_use.specs.Uses.{arm_flags, looks_at, is_reading, reads_behind, IsFair, IsLinear, AllAreLinear, ArmsAreLinear}
use Rattle.linear_use.specs.FairLaws.{fair_by_paths}
use Rattle.grail_blocks.specs.declared.blocks.Place.TheVariants as place
use Rattle.grail_blocks.specs.Blocks as block
use Rattle.grail_blocks.specs.Events.{taken_by, read_by}
use Rattle.grail_blocks.specs.Events as event
use Rattle.grail_code.specs.WellFormed.{looked_by}
use Rattle.normal_form.specs.Normal.{Line, Close, new, con_of, fun_of, local, place_in, cons_of, arm_for, bound_count, in_arm, case_arm, case_arms, total, in_turn, made, all_made, arm_made, ends, all_ends, arm_ends, local_of, locals_of, joining, value, values, arm_value, bound_kinds, kind_in, all_of, kinds, all_kinds, arm_kinds}
use Rattle.normal_form.specs.Live.{bit, times}
use Rattle.normal_form.proofs.Lines.{closes, IsClosed, ends_is_closed}
use Rattle.normal_form.proofs.Ends.{closes_value, closes_joining, closed_joining, closes_arm, closed_arm}
use Rattle.normal_form.proofs.Values.{two, cons_are, fewer}
use Rattle.normal_form.proofs.UsedNames.{without, is_any, place_taken, call_reads, taken, all_taken, arms_taken, seen, all_seen, arms_seen, Fair, AllFair, ArmsFair, seen_most, unseen_taken, all_unseen, fair_taken, none_seen, no_part_seen, no_arm_seen, none_placed, none_read, split_fair, fewer_seen, fewer_taken, fewer_fair, one_fair, by_either}
use Rattle.normal_form.proofs.KindsAt.{Frame, At, at_front, at_back, at_rest, Named, named_kept, named_bind, named_local, kind_is, kind_same, in_let, kinds_made, arm_kinds_made, local_is, arm_for_con, bound_of, bound_same, bound_are, named_arm}
use Rattle.normal_form.proofs.Frames.{Typed}
use Rattle.normal_form.proofs.NamedUses.{named, one, one_same, one_other, same_or_not, found_named, above_none, above_seen, above_taken, bound_else, itself, itself_one, bound_split, local_once}
use Rattle.normal_form.proofs.LiveLines.{live_here, later_lines, live_in, AllOnce, AreLent, Looks, looks_front, looks_back, looks_end, looks_behind}
use Rattle.normal_form.proofs.LiveParts.{Ruled, bit_most, bit_max, bit_one, among_times, among_parted, among_one, Lives, lives_more, lives_most, new_lives, close_lives, joining_lives}
use Rattle.normal_form.proofs.LiveArms.{ArmLives, arm_lives, arm_once, arm_split, arm_more}
use Rattle.normal_form.proofs.LiveTurns.{Turning, case_lives}

-- what is live behind, none of it a local that isn't made
abbrev pub Below : ℕ → (ℕ → ℕ) → Type 0
Below next out = (y : ℕ) → next ≤ y → out y ≡ 0

-- the expression is a name
abbrev pub is_name : Expression → Bool
is_name (Var n) = true
is_name e = false

-- the rule holds in the expression; of a name alone nothing is asked
abbrev pub Linear : (F : Frame) → Ruled F → Scope Kind → Scope Bool → Expression → Type 0
Linear F R s flags e = is_name e ≡ false → IsLinear R.loans (globals_of F.source F.sigs) s flags e

no_name_looks : (flags : Scope Bool) (e : Expression) → is_name e ≡ false → looks_at flags e ≡ false
no_name_looks flags (Var n) h = absurd cc
no_name_looks flags (Num z l) h = refl
no_name_looks flags (Truth b l) h = refl
no_name_looks flags (Prim op a b l) h = refl
no_name_looks flags (If c a b l) h = refl
no_name_looks flags (Let n a b) h = refl
no_name_looks flags (Match e as' l) h = refl
no_name_looks flags (Build c es place) h = refl
no_name_looks flags (Call f es) h = refl

-- what a match asks of its scrutinee
pub linear_scrutinee : (F : Frame) (R : Ruled F) (s : Scope Kind) (flags : Scope Bool) (e : Expression)
    → (looks_at flags e ≡ false → IsLinear R.loans (globals_of F.source F.sigs) s flags e) → Linear F R s flags e
linear_scrutinee F R s flags e h k = h (no_name_looks flags e k)

-- Of each owned local, nothing comes behind its taking in the expression, and what is live behind the expression isn't
-- taken there.
abbrev pub Fairly : (F : Frame) → Ruled F → Scope ℕ → Expression → (ℕ → ℕ) → Type 0
Fairly F R l e out = (y : ℕ) → R.own.owned y ≡ true → Fair R.loans (named l y) e × (taken R.loans (named l y) e + out y ≤ 1)

abbrev pub AllFairly : (F : Frame) → Ruled F → Scope ℕ → List Bool → Expressions → (ℕ → ℕ) → Type 0
AllFairly F R l ms es out = (y : ℕ) → R.own.owned y ≡ true → AllFair R.loans (named l y) ms es × (all_taken R.loans (named l y) ms es + out y ≤ 1)

abbrev pub ArmsFairly : (F : Frame) → Ruled F → Scope ℕ → Arms → (ℕ → ℕ) → Type 0
ArmsFairly F R l as' out = (y : ℕ) → R.own.owned y ≡ true → ArmsFair R.loans (named l y) as' × (arms_taken R.loans (named l y) as' + out y ≤ 1)

pub without_above : (F : Frame) (R : Ruled F) (s : Scope Kind) (l : Scope ℕ) (next y : ℕ) (n : Name) (b : Expression) → Named F s l next → next ≤ y
    → seen R.loans (without n (named l y)) b ≡ 0
without_above F R s l next y n b st h = none_seen R.loans (without n (named l y)) b (λ v. hidden v (above_none F s l next y st h v))
  where
    hidden : (v : List ℕ) → named l y v ≡ false → without n (named l y) v ≡ false
    hidden v e = by_test (bytes_eq n.word v)
      where
        by_test : (t : Bool) → (if t then false else named l y v) ≡ false
        by_test true = refl
        by_test false = e

-- ---- a name that is bound

-- what a let's body does to the local that it names, and what comes behind
pub let_once : (F : Frame) (R : Ruled F) (s : Scope Kind) (l : Scope ℕ) (next : ℕ) (n : Name) (a b : Expression) (r : Kind) (out : ℕ → ℕ) → Named F s l next
    → Typed F s a r → At F.kinds next (kinds F.source F.sigs s a)
    → IsFair R.loans (types_of F.source) r false n.word b → Below next out
    → ((y : ℕ) → R.own.owned y ≡ true → (Fair R.loans (named l y) a × Fair R.loans (without n (named l y)) b × (taken R.loans (named l y) a + seen R.loans (without n (named l y)) b ≤ 1)) × ((taken R.loans (named l y) a + taken R.loans (without n (named l y)) b) + out y ≤ 1))
    → Fairly F R (bind n.word (local_of F.source a l next) l) b out
let_once F R s l next n a b r out st has at single below once y own = either (same_or_not (local_of F.source a l next) y)
  where
    either : (local_of F.source a l next ≡ y) ⊎ (local_of F.source a l next ≡ y → ⊥)
        → Fair R.loans (named (bind n.word (local_of F.source a l next) l) y) b × (taken R.loans (named (bind n.word (local_of F.source a l next) l) y) b + out y ≤ 1)
    either (inr differ) =
        let else' = bound_else l n (local_of F.source a l next) y differ in
        let k = fewer_taken R.loans (named (bind n.word (local_of F.source a l next) l) y) (without n (named l y)) b else' in
        let all = once y own in
        let few = all.1 in
        (fewer_fair R.loans (named (bind n.word (local_of F.source a l next) l) y) (without n (named l y)) b else' all.0.1, omega (arith, k, few))
    either (inl same) =
        let is = local_is F a s l next r st has at in
        let heap_kind : is_heap (types_of F.source) r ≡ true = sym (ap (λ o. option_map_or (is_heap (types_of F.source)) o false) (ap (slice_get F.kinds) (sym same) ∙ is.kind)) ∙ R.heap y own in
        let by_name = fair_by_paths R.loans n.word b (single (ap (λ t. t && true) heap_kind)) in
        let first = one_fair R.loans n.word (itself n) b (itself_one n) by_name in
        let all = once y own in
        let apart = all.0.2 in
        let few = all.1 in
        let none = local_once F R.loans a s l next r y (max (seen R.loans (without n (named l y)) b) (taken R.loans (without n (named l y)) b + out y)) st has at (omega (arith, apart, few))
        (λ h. (let p = without_above F R s l next y n b st h in let u = unseen_taken R.loans (without n (named l y)) b p in let q = below y h in
        let z : max (seen R.loans (without n (named l y)) b) (taken R.loans (without n (named l y)) b + out y) ≡ 0 = omega (arith, p, u, q) in z)) in
        let self = one_same (local_of F.source a l next) y same in
        let fair = split_fair R.loans (named (bind n.word (local_of F.source a l next) l) y) (itself n) (without n (named l y)) b (bound_split l n (local_of F.source a l next) y) (omega (arith, none, self)) first in
        let up = fair_taken R.loans (named (bind n.word (local_of F.source a l next) l) y) b fair in
        let most = seen_most R.loans (named (bind n.word (local_of F.source a l next) l) y) b in
        (fair, omega (arith, up, most, none, self))

pub let_live : (F : Frame) (R : Ruled F) (number : ℕ) (lines : List Line) (l : Scope ℕ) (n : Name) (xa : ℕ) (b : Expression) (out : ℕ → ℕ)
    → Lives R.own number lines (λ y. max (seen R.loans (named (bind n.word xa l) y) b) (out y))
    → Lives R.own number lines (λ y. one xa y + max (seen R.loans (without n (named l y)) b) (out y))
let_live F R number lines l n xa b out r = record { live = λ y. either y (same_or_not xa y); once = r.once }
  where
    either : (y : ℕ) → (xa ≡ y) ⊎ (xa ≡ y → ⊥) → bit (live_here number lines y) ≤ one xa y + max (seen R.loans (without n (named l y)) b) (out y)
    either y (inl same) = let own = one_same xa y same in let most = bit_most (live_here number lines y) in omega (arith, own, most)
    either y (inr differ) = let k = fewer_seen R.loans (named (bind n.word xa l) y) (without n (named l y)) b (bound_else l n xa y differ) in let all = r.live y in omega (arith, k, all)

-- ---- one part and then another

-- what follows may take what it takes, and the value of the part before it
pub after_once : (F : Frame) (R : Ruled F) (a : Expression) (s : Scope Kind) (l : Scope ℕ) (next : ℕ) (q : Kind) (y more out : ℕ) → Named F s l next
    → Typed F s a q → At F.kinds next (kinds F.source F.sigs s a)
    → (next ≤ y → more ≡ 0) → (next ≤ y → out ≡ 0) → (taken R.loans (named l y) a + more) + out ≤ 1 → more + (one (local_of F.source a l next) y + out) ≤ 1
after_once F R a s l next q y more out st has at none below few =
    let k = local_once F R.loans a s l next q y (more + out) st has at (omega (arith, few)) (λ h. (let p = none h in let r = below h in omega (arith, p, r))) in
    omega (arith, k)

pub after_below : (F : Frame) (a : Expression) (s : Scope Kind) (l : Scope ℕ) (next : ℕ) (q : Kind) (out : ℕ → ℕ) → Named F s l next → Typed F s a q
    → At F.kinds next (kinds F.source F.sigs s a) → Below next out
    → Below (next + made F.source a) (λ y. one (local_of F.source a l next) y + out y)
after_below F a s l next q out st has at below y h =
    let is = local_is F a s l next q st has at in
    let less = is.below in
    let none = one_other (local_of F.source a l next) y (λ same. omega (arith, same, less, h)) in
    let k = below y (omega (arith, h)) in
    omega (arith, none, k)

-- ---- arguments

-- how often the local is that of an argument, without those that are read in place
abbrev pub value_times : Source → ℕ → List Bool → Expressions → Scope ℕ → ℕ → ℕ
value_times p y ms NoExpressions l next = 0
value_times p y ms (AndExpression e es) l next = (if is_reading ms e then 0 else one (local_of p e l next) y) + value_times p y (reads_behind ms) es l (next + made p e)

no_reading : (e : Expression) → is_reading [] e ≡ false
no_reading (Var n) = refl
no_reading (Num z l) = refl
no_reading (Truth b l) = refl
no_reading (Prim op a b l) = refl
no_reading (If c a b l) = refl
no_reading (Let n a b) = refl
no_reading (Match e as' l) = refl
no_reading (Build c es place) = refl
no_reading (Call f es) = refl

no_reading_here : (ms : List Bool) (e : Expression) → is_reading (false ∷ ms) e ≡ false
no_reading_here ms (Var n) = refl
no_reading_here ms (Num z l) = refl
no_reading_here ms (Truth b l) = refl
no_reading_here ms (Prim op a b l) = refl
no_reading_here ms (If c a b l) = refl
no_reading_here ms (Let n a b) = refl
no_reading_here ms (Match e as' l) = refl
no_reading_here ms (Build c es place) = refl
no_reading_here ms (Call f es) = refl

-- where all are taken, it stands so often among their locals
pub values_all : (p : Source) (y : ℕ) (es : Expressions) (l : Scope ℕ) (next : ℕ) → times y (locals_of p es l next) ≡ value_times p y [] es l next
values_all p y NoExpressions l next = refl
values_all p y (AndExpression e es) l next =
    let a = ap (λ b. if b then 0 else one (local_of p e l next) y) (no_reading e) in
    let b = values_all p y es l (next + made p e) in
    omega (arith, a, b)

-- an argument that is read in place adds no lines
reading_lines : (p : Source) (ms : List Bool) (e : Expression) (l : Scope ℕ) (next number : ℕ) → is_reading ms e ≡ true → value p e l next number ≡ []
reading_lines p ms (Var n) l next number h = refl
reading_lines p ms (Num z l0) l next number h = absurd cc
reading_lines p ms (Truth b l0) l next number h = absurd cc
reading_lines p ms (Prim op a b l0) l next number h = absurd cc
reading_lines p ms (If c a b l0) l next number h = absurd cc
reading_lines p ms (Let n a b) l next number h = absurd cc
reading_lines p ms (Match e as' l0) l next number h = absurd cc
reading_lines p ms (Build c es place) l next number h = absurd cc
reading_lines p ms (Call f es) l next number h = absurd cc

reading_ends : (p : Source) (ms : List Bool) (e : Expression) → is_reading ms e ≡ true → ends p e ≡ 0
reading_ends p ms (Var n) h = refl
reading_ends p ms (Num z l0) h = absurd cc
reading_ends p ms (Truth b l0) h = absurd cc
reading_ends p ms (Prim op a b l0) h = absurd cc
reading_ends p ms (If c a b l0) h = absurd cc
reading_ends p ms (Let n a b) h = absurd cc
reading_ends p ms (Match e as' l0) h = absurd cc
reading_ends p ms (Build c es place) h = absurd cc
reading_ends p ms (Call f es) h = absurd cc

-- the local of an argument that is read in place is that of its name
name_read : (F : Frame) (s : Scope Kind) (l : Scope ℕ) (next : ℕ) (n : Name) (q : Kind) (y : ℕ) (m : Bool) → Named F s l next → Typed F s (Var n) q → m ≡ true
    → one (local l n) y ≤ (if m && named l y n.word then 1 else 0)
name_read F s l next n q y false st has h = absurd cc
name_read F s l next n q y true st has h =
    let x = named_local F s l next n.word q st has in
    let x_is : local l n ≡ x.x = ap (λ o. or_else o 0) x.found in
    let a = found_named l n.word x.x y x.found in
    let b = ap (λ z. one z y) x_is in
    let c = as_test (named l y n.word) in
    omega (arith, a, b, c)
  where
    as_test : (t : Bool) → bit t ≡ (if t then 1 else 0)
    as_test true = refl
    as_test false = refl

reading_named : (F : Frame) (s : Scope Kind) (l : Scope ℕ) (next : ℕ) (ms : List Bool) (e : Expression) (q : Kind) (y : ℕ) → Named F s l next → Typed F s e q
    → is_reading ms e ≡ true → one (local_of F.source e l next) y ≤ (if is_reading ms e && is_any (named l y) e then 1 else 0)
reading_named F s l next [] (Var n) q y st has h = absurd cc
reading_named F s l next (m ∷ ms) (Var n) q y st has h = name_read F s l next n q y m st has h
reading_named F s l next ms (Num z l0) q y st has h = absurd cc
reading_named F s l next ms (Truth b l0) q y st has h = absurd cc
reading_named F s l next ms (Prim op a b l0) q y st has h = absurd cc
reading_named F s l next ms (If c a b l0) q y st has h = absurd cc
reading_named F s l next ms (Let n a b) q y st has h = absurd cc
reading_named F s l next ms (Match e as' l0) q y st has h = absurd cc
reading_named F s l next ms (Build c es place) q y st has h = absurd cc
reading_named F s l next ms (Call f es) q y st has h = absurd cc

-- Of these arguments a call takes some and reads the others, among them `kept` that have a local of their own.
pub record Parted (p : Source) (y : ℕ) (ms : List Bool) (es : Expressions) (l : Scope ℕ) (next : ℕ) : Type 0 where
  pub kept : ℕ
  pub whole : value_times p y ms es l next ≡ times y (taken_by ms (locals_of p es l next)) + kept
  pub read : bit (is_among (read_by ms (locals_of p es l next)) y) ≤ kept + call_reads (named l y) ms es

pub args_parted : (F : Frame) (s : Scope Kind) (l : Scope ℕ) (next : ℕ) (ms : List Bool) (es : Expressions) (ks : List Kind) (y : ℕ) → Named F s l next
    → HaveKinds (globals_of F.source F.sigs) s es ks → Parted F.source y ms es l next
args_parted F s l next [] NoExpressions ks y st has = record { kept = 0; whole = refl; read = omega arith }
args_parted F s l next (m ∷ ms) NoExpressions ks y st has = record { kept = 0; whole = refl; read = omega arith }
args_parted F s l next ms (AndExpression e es) [] y st has = absurd has
args_parted F s l next [] (AndExpression e es) (k ∷ ks) y st has =
    let a = values_all F.source y (AndExpression e es) l next in
    record { kept = 0; whole = (let z : value_times F.source y [] (AndExpression e es) l next ≡ times y (locals_of F.source (AndExpression e es) l next) + 0 = omega (arith, a) in z); read = omega arith }
args_parted F s l next (false ∷ ms) (AndExpression e es) (k ∷ ks) y st has =
    let r = args_parted F s l (next + made F.source e) ms es ks y (named_kept F s l next (next + made F.source e) st (omega arith)) has.1 in
    let a = ap (λ b. if b then 0 else one (local_of F.source e l next) y) (no_reading_here ms e) in
    let w = r.whole in
    let u = r.read in
    record { kept = r.kept; whole = omega (arith, a, w); read = omega (arith, u) }
args_parted F s l next (true ∷ ms) (AndExpression e es) (k ∷ ks) y st has =
    let p = F.source in
    let nb = next + made p e in
    let x = local_of p e l next in
    let r = args_parted F s l nb ms es ks y (named_kept F s l next nb st (omega arith)) has.1 in
    let w = r.whole in
    let u = r.read in
    let d = bit_max (x == y) (is_among (read_by ms (locals_of p es l nb)) y) in
    let g = bit_one x y in
    by_either (Parted F.source y (true ∷ ms) (AndExpression e es) l next) (is_reading (true ∷ ms) e)
    (λ t. (let a = ap (λ b. if b then 0 else one x y) t in
    let h = reading_named F s l next (true ∷ ms) e k y st has.0 t in
    record { kept = r.kept; whole = omega (arith, a, w); read = omega (arith, h, u, d, g) }))
    (λ t. (let a = ap (λ b. if b then 0 else one x y) t in
    record { kept = one x y + r.kept; whole = omega (arith, a, w); read = omega (arith, u, d, g) }))

-- the locals of arguments are no others that are still wanted
test_once : (t : Bool) (own x all values n next nb y : ℕ) → ((m : ℕ) → own + m ≤ 1 → (next ≤ y → m ≡ 0) → x + m ≤ 1) → ((m : ℕ) → all + m ≤ 1 → (nb ≤ y → m ≡ 0) → values + m ≤ 1)
    → next ≤ nb → (next ≤ y → all ≡ 0) → (nb ≤ y → x ≡ 0) → ((if t then 0 else own) + all) + n ≤ 1 → (next ≤ y → n ≡ 0)
    → ((if t then 0 else x) + values) + n ≤ 1
test_once true own x all values n next nb y first rest up none other few zero = let k = rest n (omega (arith, few)) (λ h. zero (omega (arith, h, up))) in omega (arith, k)
test_once false own x all values n next nb y first rest up none other few zero =
    let a = first (all + n) (omega (arith, few)) (λ h. (let p = none h in let q = zero h in omega (arith, p, q))) in
    let b = rest (x + n) (omega (arith, a)) (λ h. (let p = other h in let q = zero (omega (arith, h, up)) in omega (arith, p, q))) in
    omega (arith, b)

pub locals_once : (F : Frame) (R : Ruled F) (es : Expressions) (s : Scope Kind) (l : Scope ℕ) (next : ℕ) (ms : List Bool) (ks : List Kind) (y n : ℕ) → Named F s l next
    → HaveKinds (globals_of F.source F.sigs) s es ks → At F.kinds next (all_kinds F.source F.sigs s es)
    → all_taken R.loans (named l y) ms es + n ≤ 1 → (next ≤ y → n ≡ 0) → value_times F.source y ms es l next + n ≤ 1
locals_once F R NoExpressions s l next ms ks y n st has at once zero = omega (arith, once)
locals_once F R (AndExpression e es) s l next ms [] y n st has at once zero = absurd has
locals_once F R (AndExpression e es) s l next ms (k ∷ ks) y n st has at once zero =
    let p = F.source in
    let nb = next + made p e in
    let x = local_of p e l next in
    let size = kinds_made F e s k has.0 in
    let at_e = at_front F.kinds next (kinds p F.sigs s e) (all_kinds p F.sigs s es) at in
    let at_es = at_back F.kinds next nb (kinds p F.sigs s e) (all_kinds p F.sigs s es) (omega (arith, size)) at in
    let is = local_is F e s l next k st has.0 at_e in
    let less = is.below in
    test_once (is_reading ms e) (taken R.loans (named l y) e) (one x y) (all_taken R.loans (named l y) (reads_behind ms) es) (value_times p y (reads_behind ms) es l nb) n next nb y
    (λ m h z. local_once F R.loans e s l next k y m st has.0 at_e h z)
    (λ m h z. locals_once F R es s l nb (reads_behind ms) ks y m (named_kept F s l next nb st (omega arith)) has.1 at_es h z)
    (omega arith) (λ h. all_unseen R.loans (named l y) (reads_behind ms) es (no_part_seen R.loans (named l y) (reads_behind ms) es (above_none F s l next y st h)))
    (λ h. one_other x y (λ same. omega (arith, same, less, h))) once zero

times_append : (y : ℕ) (xs ys : List ℕ) → times y (xs ++ ys) ≡ times y xs + times y ys
times_append y [] ys = omega arith
times_append y (x ∷ xs) ys = let e = times_append y xs ys in omega (arith, e)

-- the diamond that a build takes is what its place takes
place_is_taken : (F : Frame) (s : Scope Kind) (l : Scope ℕ) (next con : ℕ) (inline : Bool) (place : Option Name) (y : ℕ) → Named F s l next
    → PlaceFits s inline place
    → times y (event.taken (place_in F.source con place l)) ≡ place_taken (named l y) place
place_is_taken F s l next con inline None y st fit = by_test (is_inline (types_of F.source) con)
  where
    by_test : (b : Bool) → times y (event.taken (if b then place.Inline else place.New)) ≡ 0
    by_test true = refl
    by_test false = refl
place_is_taken F s l next con inline (Some d) y st fit =
    let r = named_local F s l next d.word kind.Dia st fit.1 in
    let x_is : local l d ≡ r.x = ap (λ o. or_else o 0) r.found in
    let k = found_named l d.word r.x y r.found in
    let same = ap (λ x. one x y) x_is in
    omega (arith, k, same)

place_above : (F : Frame) (s : Scope Kind) (l : Scope ℕ) (next : ℕ) (place : Option Name) → Named F s l next → Below next (λ y. place_taken (named l y) place)
place_above F s l next place st y h = none_placed (named l y) place (above_none F s l next y st h)

-- ---- expressions

-- the jump at the end of an arm, or of a branch
abbrev Jumps : (mid : ℕ) (follow : List Line) (join m : ℕ) (rest : List Line) → Type 0
Jumps mid follow join m rest = (y : ℕ) → later_lines mid follow join y ≡ live_here m rest y

jumps_to : (mid : ℕ) (back rest : List Line) (join m : ℕ) → IsClosed back → join ≡ suc (mid + closes back) → join ≡ m → Jumps mid (back ++ rest) join m rest
jumps_to mid back rest join m closed is same y =
    live_in mid (Close (block.Ret 0) ∷ back) rest join y closed (omega (arith, is)) ∙ ap (λ n. live_here n rest y) same

three : (xs ys us zs : List Line) → (xs ++ (ys ++ us)) ++ zs ≡ xs ++ (ys ++ (us ++ zs))
three xs ys us zs = append_assoc xs (ys ++ us) zs ∙ ap (λ l. xs ++ l) (append_assoc ys us zs)

-- the end of a call: what it takes, what it reads, and what is live behind it
pub call_once : (F : Frame) (R : Ruled F) (s : Scope Kind) (l : Scope ℕ) (next : ℕ) (ms : List Bool) (es : Expressions) (ks : List Kind) (y out : ℕ) → Named F s l next
    → HaveKinds (globals_of F.source F.sigs) s es ks → At F.kinds next (all_kinds F.source F.sigs s es)
    → all_taken R.loans (named l y) ms es + max (call_reads (named l y) ms es) out ≤ 1 → (next ≤ y → out ≡ 0)
    → times y (taken_by ms (locals_of F.source es l next)) + max (bit (is_among (read_by ms (locals_of F.source es l next)) y)) out ≤ 1
call_once F R s l next ms es ks y out st has at few zero =
    let r = args_parted F s l next ms es ks y st has in
    let w = r.whole in
    let u = r.read in
    let k = locals_once F R es s l next ms ks y (max (call_reads (named l y) ms es) out) st has at few
    (λ h. (let p = none_read (named l y) ms es (above_none F s l next y st h) in let q = zero h in let z : max (call_reads (named l y) ms es) out ≡ 0 = omega (arith, p, q) in z)) in
    omega (arith, w, u, k)

-- all arguments are live in front of it
pub call_live : (F : Frame) (s : Scope Kind) (l : Scope ℕ) (next : ℕ) (ms : List Bool) (es : Expressions) (ks : List Kind) (y out : ℕ) → Named F s l next
    → HaveKinds (globals_of F.source F.sigs) s es ks
    → max (bit (is_among (locals_of F.source es l next) y)) out ≤ value_times F.source y ms es l next + max (call_reads (named l y) ms es) out
call_live F s l next ms es ks y out st has =
    let r = args_parted F s l next ms es ks y st has in
    let w = r.whole in
    let u = r.read in
    let a = among_parted ms (locals_of F.source es l next) y in
    omega (arith, w, u, a)

mutual
  pub value_lives : (F : Frame) (R : Ruled F) (e : Expression) (s : Scope Kind) (flags : Scope Bool) (l : Scope ℕ) (next number m : ℕ) (q : Kind) (rest : List Line) (out : ℕ → ℕ)
      → m ≡ number + ends F.source e → Named F s l next → Typed F s e q → Linear F R s flags e
      → At F.kinds next (kinds F.source F.sigs s e) → Looks R.own (value F.source e l next number) → Below next out → Fairly F R l e out → Lives R.own m rest (λ y. one (local_of F.source e l next) y + out y)
      → Lives R.own number (value F.source e l next number ++ rest) (λ y. max (seen R.loans (named l y) e) (out y))
  value_lives F R (Var n) s flags l next number m q rest out is st has lin at looks below once r =
      let x = named_local F s l next n.word q st has in
      let x_is : local l n ≡ x.x = ap (λ o. or_else o 0) x.found in
      let same : m ≡ number = omega (arith, is) in
      lives_most R.own number rest (λ y. one (local l n) y + out y) (λ y. max (bit (named l y n.word)) (out y))
      (λ y k most all. (let a = found_named l n.word x.x y x.found in let b = ap (λ z. one z y) x_is in omega (arith, a, b, most, all)))
      (subst (λ b. Lives R.own b rest (λ y. one (local l n) y + out y)) same r)
  value_lives F R (Num z l0) s flags l next number m q rest out is st has lin at looks below once r =
      let same : m ≡ number = omega (arith, is) in
      new_lives R.own number next (block.Lit z) rest out (λ y own. (let k = once y own in let few = k.1 in omega (arith, few))) (subst (λ b. Lives R.own b rest (λ y. one next y + out y)) same r)
  value_lives F R (Truth t l0) s flags l next number m q rest out is st has lin at looks below once r =
      let same : m ≡ number = omega (arith, is) in
      new_lives R.own number next (block.Flag t) rest out (λ y own. (let k = once y own in let few = k.1 in omega (arith, few))) (subst (λ b. Lives R.own b rest (λ y. one next y + out y)) same r)
  value_lives F R (Prim op a b l0) s flags l next number m q rest out is st has lin at looks below once r =
      let p = F.source in
      let nb = next + made p a in
      let mb = number + ends p a in
      let xa = local_of p a l next in
      let xb = local_of p b l nb in
      let x = next + (made p a + made p b) in
      let end = new x (block.Prim op xa xb) in
      let size = kinds_made F a s kind.Int has.0 in
      let at_a = at_front F.kinds next (kinds p F.sigs s a) (kinds p F.sigs s b ++ (_ ∷ [])) at in
      let at_b = at_front F.kinds nb (kinds p F.sigs s b) (_ ∷ []) (at_back F.kinds next nb (kinds p F.sigs s a) (kinds p F.sigs s b ++ (_ ∷ [])) (omega (arith, size)) at) in
      let st_b = named_kept F s l next nb st (omega arith) in
      let looks_a = looks_front R.own (value p a l next number) (value p b l nb mb ++ (end ∷ [])) looks in
      let looks_b = looks_front R.own (value p b l nb mb) (end ∷ []) (looks_back R.own (value p a l next number) (value p b l nb mb ++ (end ∷ [])) looks) in
      let below_b = after_below F a s l next kind.Int out st has.0 at_a below in
      let few_b = λ (y : ℕ) (own : R.own.owned y ≡ true). (let k = once y own in
      after_once F R a s l next kind.Int y (taken R.loans (named l y) b) (out y) st has.0 at_a (above_taken F R.loans s l next y b st) (below y) k.1) in
      let once_b : Fairly F R l b (λ y. one xa y + out y) = λ y own. ((once y own).0.1, few_b y own) in
      let prim = new_lives R.own m x (block.Prim op xa xb) rest out
      (λ y own. (let k = local_once F R.loans b s l nb kind.Int y (one xa y + out y) st_b has.1 at_b (few_b y own) (below_b y) in omega (arith, k))) r in
      let second = value_lives F R b s flags l nb mb m kind.Int (end ∷ rest) (λ y. one xa y + out y) (omega (arith, is)) st_b has.1 (λ k. (lin refl).1) at_b looks_b below_b once_b
      (lives_more R.own m (end ∷ rest) (λ y. max (bit (is_among (xa ∷ xb ∷ []) y)) (out y)) (λ y. one xb y + (one xa y + out y)) (λ y. (let k = among_times (xa ∷ xb ∷ []) y in omega (arith, k))) prim) in
      let first = value_lives F R a s flags l next number mb kind.Int (value p b l nb mb ++ (end ∷ rest)) (λ y. max (seen R.loans (named l y) b) (out y)) refl st has.0 (λ k. (lin refl).0) at_a looks_a
      (λ y h. (let i = above_seen F R.loans s l next y b st h in let j = below y h in let z : max (seen R.loans (named l y) b) (out y) ≡ 0 = omega (arith, i, j) in z))
      (λ y own. (let k = once y own in let apart = k.0.2 in let few = k.1 in (k.0.0, omega (arith, apart, few))))
      (lives_more R.own mb (value p b l nb mb ++ (end ∷ rest)) (λ y. max (seen R.loans (named l y) b) (one xa y + out y)) (λ y. one xa y + max (seen R.loans (named l y) b) (out y)) (λ y. omega arith) second) in
      subst (λ lines. Lives R.own number lines (λ y. max (max (seen R.loans (named l y) a) (seen R.loans (named l y) b)) (out y))) (sym (three (value p a l next number) (value p b l nb mb) (end ∷ []) rest))
      (lives_more R.own number (value p a l next number ++ (value p b l nb mb ++ (end ∷ rest))) (λ y. max (seen R.loans (named l y) a) (max (seen R.loans (named l y) b) (out y)))
      (λ y. max (max (seen R.loans (named l y) a) (seen R.loans (named l y) b)) (out y)) (λ y. omega arith) first)
  value_lives F R (Build c es place) s flags l next number m q rest out is st has lin at looks below once r =
      let p = F.source in
      let xs = locals_of p es l next in
      let x = next + all_made p es in
      let ds = event.taken (place_in p (con_of p c) place l) in
      let end = new x (block.Make (con_of p c) xs (place_in p (con_of p c) place l)) in
      let at_es = at_front F.kinds next (all_kinds p F.sigs s es) (_ ∷ []) at in
      let spent = λ (y : ℕ). place_is_taken F s l next (con_of p c) (is_inline (types_of p) has.0) place y st has.4 in
      let free = place_above F s l next place st in
      let ks = fields_of (types_of p) has.0 in
      let make = new_lives R.own m x (block.Make (con_of p c) xs (place_in p (con_of p c) place l)) rest out
      (λ y own. (let k = once y own in let few = k.1 in let a = times_append y xs ds in let b = spent y in let w = values_all p y es l next in
      let i = locals_once F R es s l next [] ks y (place_taken (named l y) place + out y) st has.3 at_es (omega (arith, few))
      (λ h. (let u = free y h in let v = below y h in omega (arith, u, v))) in
      omega (arith, a, b, w, i))) r in
      let run = values_lives F R es s flags l next number m [] ks (end ∷ rest) (λ y. max (place_taken (named l y) place) (out y)) is st has.3 (lin refl).0 at_es
      (looks_front R.own (values p es l next number) (end ∷ []) looks)
      (λ y h. (let u = free y h in let v = below y h in let z : max (place_taken (named l y) place) (out y) ≡ 0 = omega (arith, u, v) in z))
      (λ y own. (let k = once y own in let apart = k.0.1 in let few = k.1 in (k.0.0, omega (arith, apart, few))))
      (lives_more R.own m (end ∷ rest) (λ y. max (bit (is_among (xs ++ ds) y)) (out y)) (λ y. value_times p y [] es l next + max (place_taken (named l y) place) (out y))
      (λ y. (let a = times_append y xs ds in let b = spent y in let w = values_all p y es l next in let i = among_times (xs ++ ds) y in omega (arith, a, b, w, i))) make) in
      subst (λ lines. Lives R.own number lines (λ y. max (max (all_seen R.loans (named l y) [] es) (place_taken (named l y) place)) (out y))) (sym (two (values p es l next number) (end ∷ []) rest))
      (lives_more R.own number (values p es l next number ++ (end ∷ rest)) (λ y. max (all_seen R.loans (named l y) [] es) (max (place_taken (named l y) place) (out y)))
      (λ y. max (max (all_seen R.loans (named l y) [] es) (place_taken (named l y) place)) (out y)) (λ y. omega arith) run)
  value_lives F R (Call f es) s flags l next number m q rest out is st has lin at looks below once r =
      let p = F.source in
      let ms = R.loans f.word in
      let xs = locals_of p es l next in
      let x = next + all_made p es in
      let end = new x (block.Call (fun_of p f) xs) in
      let at_es = at_front F.kinds next (all_kinds p F.sigs s es) (_ ∷ []) at in
      let marks : R.own.reads (fun_of p f) ≡ ms = R.marks f has.0 has.1 in
      let few_of = λ (y : ℕ) (own : R.own.owned y ≡ true). (let k = once y own in let apart = k.0.1 in let few = k.1 in
      let z : all_taken R.loans (named l y) ms es + max (call_reads (named l y) ms es) (out y) ≤ 1 = omega (arith, apart, few) in z) in
      let call = new_lives R.own m x (block.Call (fun_of p f) xs) rest out
      (λ y own. subst (λ k. times y (taken_by k xs) + max (bit (is_among (read_by k xs) y)) (out y) ≤ 1) (sym marks) (call_once F R s l next ms es has.0.params y (out y) st has.3 at_es (few_of y own) (below y))) r in
      let run = values_lives F R es s flags l next number m ms has.0.params (end ∷ rest) (λ y. max (call_reads (named l y) ms es) (out y)) is st has.3 (lin refl) at_es
      (looks_front R.own (values p es l next number) (end ∷ []) looks)
      (λ y h. (let u = none_read (named l y) ms es (above_none F s l next y st h) in let v = below y h in let z : max (call_reads (named l y) ms es) (out y) ≡ 0 = omega (arith, u, v) in z))
      (λ y own. ((once y own).0.0, few_of y own))
      (lives_more R.own m (end ∷ rest) (λ y. max (bit (is_among xs y)) (out y)) (λ y. value_times p y ms es l next + max (call_reads (named l y) ms es) (out y))
      (λ y. call_live F s l next ms es has.0.params y (out y) st has.3) call) in
      subst (λ lines. Lives R.own number lines (λ y. max (max (all_seen R.loans (named l y) ms es) (call_reads (named l y) ms es)) (out y))) (sym (two (values p es l next number) (end ∷ []) rest))
      (lives_more R.own number (values p es l next number ++ (end ∷ rest)) (λ y. max (all_seen R.loans (named l y) ms es) (max (call_reads (named l y) ms es) (out y)))
      (λ y. max (max (all_seen R.loans (named l y) ms es) (call_reads (named l y) ms es)) (out y)) (λ y. omega arith) run)
  value_lives F R (Let n a b) s flags l next number m q rest out is st has lin at looks below once r =
      let p = F.source in
      let k = kind_in p F.sigs s a in
      let nb = next + made p a in
      let mb = number + ends p a in
      let xa = local_of p a l next in
      let size = kinds_made F a s has.0 has.1 in
      let has_a = subst (Typed F s a) (kind_is F a s has.0 has.1) has.1 in
      let single = subst (λ o. IsFair R.loans (types_of p) o false n.word b) (kind_same F a s has.0 has.1) (lin refl).1 in
      let lin_b = subst (λ o. IsLinear R.loans (globals_of p F.sigs) (bind n.word o s) (bind n.word false flags) b) (kind_same F a s has.0 has.1) (lin refl).2 in
      let at_a = at_front F.kinds next (kinds p F.sigs s a) (kinds p F.sigs (bind n.word k s) b) at in
      let x = local_is F a s l next k st has_a at_a in
      let looks_a = looks_front R.own (value p a l next number) (value p b (bind n.word xa l) nb mb) looks in
      let looks_b = looks_back R.own (value p a l next number) (value p b (bind n.word xa l) nb mb) looks in
      let hidden = λ (y : ℕ) (h : next ≤ y). without_above F R s l next y n b st h in
      let body = value_lives F R b (bind n.word k s) (bind n.word false flags) (bind n.word xa l) nb mb m q rest out (omega (arith, is)) (named_bind F s l nb n.word k xa (named_kept F s l next nb st (omega arith)) x.kind x.below)
      (in_let F s n a b has.0 q has.1 has.2) (λ k. lin_b) (at_back F.kinds next nb (kinds p F.sigs s a) (kinds p F.sigs (bind n.word k s) b) (omega (arith, size)) at) looks_b (λ y h. below y (omega (arith, h)))
      (let_once F R s l next n a b k out st has_a at_a single below once) r in
      let first = value_lives F R a s flags l next number mb k (value p b (bind n.word xa l) nb mb ++ rest) (λ y. max (seen R.loans (without n (named l y)) b) (out y)) refl st has_a (λ k. (lin refl).0) at_a looks_a
      (λ y h. (let i = hidden y h in let j = below y h in let z : max (seen R.loans (without n (named l y)) b) (out y) ≡ 0 = omega (arith, i, j) in z))
      (λ y own. (let k = once y own in let apart = k.0.2 in let few = k.1 in (k.0.0, omega (arith, apart, few))))
      (let_live F R mb (value p b (bind n.word xa l) nb mb ++ rest) l n xa b out body) in
      subst (λ lines. Lives R.own number lines (λ y. max (max (seen R.loans (named l y) a) (seen R.loans (without n (named l y)) b)) (out y))) (sym (two (value p a l next number) (value p b (bind n.word xa l) nb mb) rest))
      (lives_more R.own number (value p a l next number ++ (value p b (bind n.word xa l) nb mb ++ rest)) (λ y. max (seen R.loans (named l y) a) (max (seen R.loans (without n (named l y)) b) (out y)))
      (λ y. max (max (seen R.loans (named l y) a) (seen R.loans (without n (named l y)) b)) (out y)) (λ y. omega arith) first)
  value_lives F R (If c a b l0) s flags l next number m q rest out is st has lin at looks below once r =
      let p = F.source in
      let result = next + made p c in
      let b0 = number + ends p c in
      let yes = suc b0 in
      let no = yes + suc (ends p a) in
      let join = no + suc (ends p b) in
      let n1 = suc result in
      let n2 = n1 + made p a in
      let ma = yes + ends p a in
      let mb = no + ends p b in
      let xc = local_of p c l next in
      let xa = local_of p a l n1 in
      let xb = local_of p b l n2 in
      let first = joining (value p a l n1 yes) xa result join in
      let second = joining (value p b l n2 no) xb result join in
      let size = kinds_made F c s kind.Flag has.0 in
      let size_a = kinds_made F a s q has.1 in
      let at_c = at_front F.kinds next (kinds p F.sigs s c) (_ ∷ (kinds p F.sigs s a ++ kinds p F.sigs s b)) at in
      let at_both = at_rest F.kinds result _ (kinds p F.sigs s a ++ kinds p F.sigs s b) (at_back F.kinds next result (kinds p F.sigs s c) (_ ∷ (kinds p F.sigs s a ++ kinds p F.sigs s b)) (omega (arith, size)) at) in
      let at_a = at_front F.kinds n1 (kinds p F.sigs s a) (kinds p F.sigs s b) at_both in
      let at_b = at_back F.kinds n1 n2 (kinds p F.sigs s a) (kinds p F.sigs s b) (omega (arith, size_a)) at_both in
      let st_a = named_kept F s l next n1 st (omega arith) in
      let st_b = named_kept F s l next n2 st (omega arith) in
      let looks_c = looks_front R.own (value p c l next number) (Close (block.If xc yes no) ∷ (first ++ second)) looks in
      let looks_both = looks_back R.own (value p c l next number) (Close (block.If xc yes no) ∷ (first ++ second)) looks in
      let looks_a = looks_front R.own (value p a l n1 yes) (new result (block.Copy xa) ∷ Close (block.Goto join) ∷ []) (looks_front R.own first second looks_both) in
      let looks_b = looks_front R.own (value p b l n2 no) (new result (block.Copy xb) ∷ Close (block.Goto join) ∷ []) (looks_back R.own first second looks_both) in
      let below_a : Below n1 out = λ y h. below y (omega (arith, h)) in
      let below_b : Below n2 out = λ y h. below y (omega (arith, h)) in
      let once_a : Fairly F R l a out = λ y own. (let k = once y own in let few = k.1 in (k.0.1, omega (arith, few))) in
      let once_b : Fairly F R l b out = λ y own. (let k = once y own in let few = k.1 in (k.0.2, omega (arith, few))) in
      let same : join ≡ m = omega (arith, is) in
      let goes = λ (y : ℕ). (let g = r.live y in let g2 : bit (live_here m rest y) ≤ one result y + out y = omega (arith, g) in g2) in
      let on_b = joining_lives R.own no mb (value p b l n2 no) xb result join m rest rest out (λ y. max (seen R.loans (named l y) b) (out y))
      (λ k. value_lives F R b s flags l n2 no mb q (new result (block.Copy xb) ∷ Close (block.Goto join) ∷ rest) out refl st_b has.2 (λ k. (lin refl).2) at_b looks_b below_b once_b k)
      (λ y own. local_once F R.loans b s l n2 q y (out y) st_b has.2 at_b (once_b y own).1 (below_b y))
      (jumps_to mb [] rest join m tt (omega arith) same)
      (let up : m ≡ suc mb = omega (arith, is) in subst (λ i. AllOnce R.own i rest) up r.once) goes in
      let on_a = joining_lives R.own yes ma (value p a l n1 yes) xa result join m (second ++ rest) rest out (λ y. max (seen R.loans (named l y) a) (out y))
      (λ k. value_lives F R a s flags l n1 yes ma q (new result (block.Copy xa) ∷ Close (block.Goto join) ∷ (second ++ rest)) out refl st_a has.1 (λ k. (lin refl).1) at_a looks_a below_a once_a k)
      (λ y own. local_once F R.loans a s l n1 q y (out y) st_a has.1 at_a (once_a y own).1 (below_a y))
      (jumps_to ma second rest join m (ends_is_closed second (closed_joining (value p b l n2 no) xb result join))
      (let count = closes_joining (value p b l n2 no) xb result join (ends p b) (closes_value p b l n2 no) in omega (arith, count)) same)
      (let up : no ≡ suc ma = omega arith in subst (λ i. AllOnce R.own i (second ++ rest)) up on_b.once) goes in
      let grouped = two first second rest in
      let whole = (first ++ second) ++ rest in
      let branches = λ (y : ℕ). max (max (seen R.loans (named l y) a) (seen R.loans (named l y) b)) (out y) in
      let none = λ (y : ℕ) (h : next ≤ y). (let i = above_seen F R.loans s l next y a st h in let j = above_seen F R.loans s l next y b st h in let k = below y h in
      let z : max (max (seen R.loans (named l y) a) (seen R.loans (named l y) b)) (out y) ≡ 0 = omega (arith, i, j, k) in z) in
      let few_c = λ (y : ℕ) (own : R.own.owned y ≡ true). (let k = once y own in let apart = k.0.3 in let few = k.1 in
      let z : taken R.loans (named l y) c + max (max (seen R.loans (named l y) a) (seen R.loans (named l y) b)) (out y) ≤ 1 = omega (arith, apart, few) in z) in
      let condition = close_lives R.own b0 (block.If xc yes no) whole branches
      (λ y.
      (let at_yes : later_lines b0 whole yes y ≡ live_here yes (first ++ (second ++ rest)) y = ap (λ w. later_lines b0 w yes y) grouped ∙ live_in b0 (Close (block.Ret 0) ∷ []) (first ++ (second ++ rest)) yes y tt (omega arith) in
      let at_no : later_lines b0 whole no y ≡ live_here no (second ++ rest) y =
      ap (λ w. later_lines b0 w no y) grouped ∙ live_in b0 (Close (block.Ret 0) ∷ first) (second ++ rest) no y (ends_is_closed first (closed_joining (value p a l n1 yes) xa result join))
      (let count = closes_joining (value p a l n1 yes) xa result join (ends p a) (closes_value p a l n1 yes) in omega (arith, count)) in
      let i = on_a.live y in
      let j = on_b.live y in
      let u = ap bit at_yes in
      let v = ap bit at_no in
      let either = bit_max (later_lines b0 whole yes y) (later_lines b0 whole no y) in
      omega (arith, i, j, u, v, either)))
      (λ y own. (let k = local_once F R.loans c s l next kind.Flag y (branches y) st has.0 at_c (few_c y own) (none y) in omega (arith, k)))
      (subst (AllOnce R.own yes) (sym grouped) on_a.once) in
      let run = value_lives F R c s flags l next number b0 kind.Flag (Close (block.If xc yes no) ∷ whole) branches refl st has.0 (λ k. (lin refl).0) at_c looks_c none (λ y own. ((once y own).0.0, few_c y own))
      (lives_more R.own b0 (Close (block.If xc yes no) ∷ whole) (λ y. max (bit (is_among (xc ∷ []) y)) (branches y)) (λ y. one xc y + branches y) (λ y. (let k = among_one xc y in omega (arith, k))) condition) in
      subst (λ lines. Lives R.own number lines (λ y. max (max (seen R.loans (named l y) c) (max (seen R.loans (named l y) a) (seen R.loans (named l y) b))) (out y))) (sym (two (value p c l next number) (Close (block.If xc yes no) ∷ (first ++ second)) rest))
      (lives_more R.own number (value p c l next number ++ (Close (block.If xc yes no) ∷ whole)) (λ y. max (seen R.loans (named l y) c) (branches y))
      (λ y. max (max (seen R.loans (named l y) c) (max (seen R.loans (named l y) a) (seen R.loans (named l y) b))) (out y)) (λ y. omega arith) run)
  value_lives F R (Match e NoArms l0) s flags l next number m q rest out is st has lin at looks below once r = absurd has
  value_lives F R (Match e (AndArm c fs x b as') l0) s flags l next number m q rest out is st has lin at looks below once r =
      let p = F.source in
      let types = types_of p in
      let arms = AndArm c fs x b as' in
      let result = next + made p e in
      let n1 = suc result in
      let b0 = number + ends p e in
      let first = suc b0 in
      let join = first + total (arm_ends p arms) (cons_of p arms) in
      let xe = local_of p e l next in
      let part = λ (con n i : ℕ). arm_value p arms con l n i result join in
      let all = in_turn (arm_made p arms) (arm_ends p arms) part (cons_of p arms) n1 first in
      let end = block.Case xe (case_arms p arms (arm_made p arms) (arm_ends p arms) n1 first) in
      let size = kinds_made F e s (kind.Of has.0) has.1 in
      let at_e = at_front F.kinds next (kinds p F.sigs s e) (_ ∷ all_of (arm_kinds p F.sigs s arms) (cons_of p arms)) at in
      let at_arms = at_rest F.kinds result _ (all_of (arm_kinds p F.sigs s arms) (cons_of p arms)) (at_back F.kinds next result (kinds p F.sigs s e) (_ ∷ all_of (arm_kinds p F.sigs s arms) (cons_of p arms)) (omega (arith, size)) at) in
      let looks_e = looks_front R.own (value p e l next number) (Close end ∷ all) looks in
      let looks_arms = looks_back R.own (value p e l next number) (Close end ∷ all) looks in
      let looks_all = looks_behind R.own end all looks_arms in
      let lent_all = looks_end R.own end all looks_arms in
      let st_arms = named_kept F s l next n1 st (omega arith) in
      let same : join ≡ m = omega (arith, is) in
      let uses = λ (y : ℕ). max (arms_seen R.loans (named l y) arms) (out y) in
      let none = λ (y : ℕ) (h : next ≤ y). (let i = no_arm_seen R.loans (named l y) arms (above_none F s l next y st h) in let k = below y h in let z : max (arms_seen R.loans (named l y) arms) (out y) ≡ 0 = omega (arith, i, k) in z) in
      let few_e = λ (y : ℕ) (own : R.own.owned y ≡ true). (let k = once y own in let apart = k.0.2 in let few = k.1 in
      let z : taken R.loans (named l y) e + max (arms_seen R.loans (named l y) arms) (out y) ≤ 1 = omega (arith, apart, few) in z) in
      let T : Turning = record {
        source = p;
        own = R.own;
        all = F.kinds;
        arms_of = arm_for p arms;
        locals = arm_made p arms;
        blocks = arm_ends p arms;
        part = part;
        kinds = arm_kinds p F.sigs s arms;
        Covered = λ con. arms_with types con arms ≡ 1;
        most = uses;
        low = n1;
        end = join;
        rest = rest;
        count = λ con n i. closes_arm p arms con l n i result join;
        closed = λ con n i. closed_arm p arms con l n i result join;
        lengths = λ con. arm_kinds_made F (AndArm c fs x b as') s has.0 con q has.3;
        each = λ con n i back covered at looks lent low closed is behind.
            arm_value_lives F R (AndArm c fs x b as') s flags (looks_at flags e) l n next i result join m con has.0 q (back ++ rest) rest out (named_kept F s l n1 n st_arms low) has.3 (lin refl).1 (omega (arith, covered)) at looks lent (omega (arith, low)) (omega (arith, low)) below
            (λ y own. (let k = once y own in let few = k.1 in (k.0.1, omega (arith, few))))
            (λ mid h. jumps_to mid back rest join m closed (omega (arith, is, h)) same) behind
            (λ y. (let g = r.live y in omega (arith, g)));
        rest_once = subst (λ i. AllOnce R.own i rest) (sym same) r.once;
      } in
      let lives = case_lives T b0 (cons_of p arms) n1 (omega arith) at_arms (subst (AllByRecursion (λ con. arms_with types con arms ≡ 1)) (sym (cons_are p has.0 c fs x b as' has.3.0)) has.2) looks_all lent_all refl in
      let taken_apart = close_lives R.own b0 end (all ++ rest) uses lives.live
      (λ y own. (let k = local_once F R.loans e s l next (kind.Of has.0) y (uses y) st has.1 at_e (few_e y own) (none y) in omega (arith, k))) lives.once in
      let run = value_lives F R e s flags l next number b0 (kind.Of has.0) (Close end ∷ (all ++ rest)) uses refl st has.1 (linear_scrutinee F R s flags e (lin refl).0) at_e looks_e none (λ y own. ((once y own).0.0, few_e y own))
      (lives_more R.own b0 (Close end ∷ (all ++ rest)) (λ y. max (bit (is_among (xe ∷ []) y)) (uses y)) (λ y. one xe y + uses y) (λ y. (let k = among_one xe y in omega (arith, k))) taken_apart) in
      subst (λ lines. Lives R.own number lines (λ y. max (max (seen R.loans (named l y) e) (arms_seen R.loans (named l y) arms)) (out y))) (sym (two (value p e l next number) (Close end ∷ all) rest))
      (lives_more R.own number (value p e l next number ++ (Close end ∷ (all ++ rest))) (λ y. max (seen R.loans (named l y) e) (uses y))
      (λ y. max (max (seen R.loans (named l y) e) (arms_seen R.loans (named l y) arms)) (out y)) (λ y. omega arith) run)

  pub values_lives : (F : Frame) (R : Ruled F) (es : Expressions) (s : Scope Kind) (flags : Scope Bool) (l : Scope ℕ) (next number m : ℕ) (ms : List Bool) (ks : List Kind) (rest : List Line) (out : ℕ → ℕ) → m ≡ number + all_ends F.source es → Named F s l next
      → HaveKinds (globals_of F.source F.sigs) s es ks → AllAreLinear R.loans (globals_of F.source F.sigs) s flags ms es → At F.kinds next (all_kinds F.source F.sigs s es) → Looks R.own (values F.source es l next number) → Below next out → AllFairly F R l ms es out
      → Lives R.own m rest (λ y. value_times F.source y ms es l next + out y) → Lives R.own number (values F.source es l next number ++ rest) (λ y. max (all_seen R.loans (named l y) ms es) (out y))
  values_lives F R NoExpressions s flags l next number m ms ks rest out is st has lin at looks below once r =
      let same : m ≡ number = omega (arith, is) in
      lives_more R.own number rest (λ y. 0 + out y) (λ y. max 0 (out y)) (λ y. omega arith) (subst (λ b. Lives R.own b rest (λ y. 0 + out y)) same r)
  values_lives F R (AndExpression e es) s flags l next number m ms [] rest out is st has lin at looks below once r = absurd has
  values_lives F R (AndExpression e es) s flags l next number m ms (k ∷ ks) rest out is st has lin at looks below once r =
      let p = F.source in
      let nb = next + made p e in
      let mb = number + ends p e in
      let x = local_of p e l next in
      let here = value p e l next number in
      let behind = values p es l nb mb in
      let others = reads_behind ms in
      let size = kinds_made F e s k has.0 in
      let at_e = at_front F.kinds next (kinds p F.sigs s e) (all_kinds p F.sigs s es) at in
      let at_es = at_back F.kinds next nb (kinds p F.sigs s e) (all_kinds p F.sigs s es) (omega (arith, size)) at in
      let st_es = named_kept F s l next nb st (omega arith) in
      let looks_e = looks_front R.own here behind looks in
      let looks_es = looks_back R.own here behind looks in
      let all_most = λ (y : ℕ). max (max (if is_reading ms e then 0 else seen R.loans (named l y) e) (all_seen R.loans (named l y) others es)) (out y) in
      let above = λ (y : ℕ) (h : next ≤ y). no_part_seen R.loans (named l y) others es (above_none F s l next y st h) in
      by_either (Lives R.own number ((here ++ behind) ++ rest) all_most) (is_reading ms e)
      (λ t. (let run = values_lives F R es s flags l nb mb m others ks rest out (omega (arith, is)) st_es has.1 lin.1 at_es looks_es (λ y h. below y (omega (arith, h)))
      (λ y own. (let f = once y own in let few = f.1 in let u = ap (λ b. if b then 0 else taken R.loans (named l y) e) t in (f.0.1, omega (arith, few, u))))
      (lives_more R.own m rest (λ y. ((if is_reading ms e then 0 else one x y) + value_times p y others es l nb) + out y) (λ y. value_times p y others es l nb + out y)
      (λ y. (let u = ap (λ b. if b then 0 else one x y) t in omega (arith, u))) r) in
      let none = reading_ends p ms e t in
      let placed : mb ≡ number = omega (arith, none) in
      subst (λ lines. Lives R.own number ((lines ++ behind) ++ rest) all_most) (sym (reading_lines p ms e l next number t))
      (lives_more R.own number (behind ++ rest) (λ y. max (all_seen R.loans (named l y) others es) (out y)) all_most (λ y. omega arith)
      (subst (λ b. Lives R.own b (behind ++ rest) (λ y. max (all_seen R.loans (named l y) others es) (out y))) placed run))))
      (λ t. (let few_es = λ (y : ℕ) (own : R.own.owned y ≡ true). (let f = once y own in let few = f.1 in let u = ap (λ b. if b then 0 else taken R.loans (named l y) e) t in
      after_once F R e s l next k y (all_taken R.loans (named l y) others es) (out y) st has.0 at_e (λ h. all_unseen R.loans (named l y) others es (above y h)) (below y) (omega (arith, few, u))) in
      let second = values_lives F R es s flags l nb mb m others ks rest (λ y. one x y + out y) (omega (arith, is)) st_es has.1 lin.1 at_es looks_es
      (after_below F e s l next k out st has.0 at_e below)
      (λ y own. ((once y own).0.1, few_es y own))
      (lives_more R.own m rest (λ y. ((if is_reading ms e then 0 else one x y) + value_times p y others es l nb) + out y) (λ y. value_times p y others es l nb + (one x y + out y))
      (λ y. (let u = ap (λ b. if b then 0 else one x y) t in omega (arith, u))) r) in
      let first = value_lives F R e s flags l next number mb k (behind ++ rest) (λ y. max (all_seen R.loans (named l y) others es) (out y)) refl st has.0 (λ o. lin.0 t) at_e looks_e
      (λ y h. (let i = above y h in let j = below y h in let z : max (all_seen R.loans (named l y) others es) (out y) ≡ 0 = omega (arith, i, j) in z))
      (λ y own. (let f = once y own in let apart = f.0.2 in let few = f.1 in let u = ap (λ b. if b then 0 else taken R.loans (named l y) e) t in (f.0.0 t, omega (arith, apart, few, u))))
      (lives_more R.own mb (behind ++ rest) (λ y. max (all_seen R.loans (named l y) others es) (one x y + out y)) (λ y. one x y + max (all_seen R.loans (named l y) others es) (out y)) (λ y. omega arith) second) in
      subst (λ lines. Lives R.own number lines all_most) (sym (two here behind rest))
      (lives_more R.own number (here ++ (behind ++ rest)) (λ y. max (seen R.loans (named l y) e) (max (all_seen R.loans (named l y) others es) (out y))) all_most
      (λ y. (let u = ap (λ b. if b then 0 else seen R.loans (named l y) e) t in omega (arith, u))) first)))

  pub arm_value_lives : (F : Frame) (R : Ruled F) (as' : Arms) (s : Scope Kind) (flags : Scope Bool) (lent : Bool) (l : Scope ℕ) (n next number result join m con t : ℕ) (q : Kind) (follow rest : List Line) (out : ℕ → ℕ) → Named F s l n
      → ArmsHaveKind (globals_of F.source F.sigs) s t as' q → ArmsAreLinear R.loans (globals_of F.source F.sigs) s flags lent as' → 1 ≤ arms_with (types_of F.source) con as' → At F.kinds n (arm_kinds F.source F.sigs s as' con)
      → Looks R.own (arm_value F.source as' con l n number result join)
      → AreLent R.own (looked_by (case_arm F.source (arm_for F.source as' con) n number).cell (case_arm F.source (arm_for F.source as' con) n number).fields)
      → next ≤ n → result < n
      → Below next out → ArmsFairly F R l as' out → ((mid : ℕ) → suc mid ≡ number + arm_ends F.source as' con → Jumps mid follow join m rest) → AllOnce R.own (number + arm_ends F.source as' con) follow
      → ((y : ℕ) → bit (live_here m rest y) ≤ one result y + out y)
      → ArmLives R.own (case_arm F.source (arm_for F.source as' con) n number) number (arm_value F.source as' con l n number result join ++ follow) (λ y. max (arms_seen R.loans (named l y) as') (out y))
  arm_value_lives F R NoArms s flags lent l n next number result join m con t q follow rest out st has lin some at looks fields least more below once jumps behind goes = absurd (omega (arith, some))
  arm_value_lives F R (AndArm c fs x b as') s flags lent l n next number result join m con t q follow rest out st has lin some at looks fields least more below once jumps behind goes =
      let p = F.source in
      let types = types_of p in
      let inner = arm_scope known_kind types c fs x s in
      let n1 = n + bound_count fs x in
      let l1 = in_arm fs x n l in
      let xb = local_of p b l1 n1 in
      let br : Branch = record { con = c; fields = fs; cell = x; body = b } in
      let own_lines = joining (value p b l1 n1 number) xb result join in
      let other_lines = arm_value p as' con l n number result join in
      arm_split p R.own (is_that (constructor_number p c) con) br (arm_for p as' con) n number own_lines other_lines follow (λ y. max (arms_seen R.loans (named l y) (AndArm c fs x b as')) (out y))
      (λ test.
      let a = arm_for_con p t con c fs x has.0 test in
      let at_arm = subst (λ bs. At F.kinds n (bs ++ kinds p F.sigs inner b)) (bound_same p con c fs x a) (subst (λ t. At F.kinds n (if t then bound_kinds p c x ++ kinds p F.sigs inner b else arm_kinds p F.sigs s as' con)) test at) in
      let at_bound = at_front F.kinds n (bound_of p con x) (kinds p F.sigs inner b) at_arm in
      let size = bound_are p con c fs x a in
      let at_b = at_back F.kinds n n1 (bound_of p con x) (kinds p F.sigs inner b) (omega (arith, size)) at_arm in
      let st_b = named_arm F s l n con c fs x st a at_bound in
      let looks_b = looks_front R.own (value p b l1 n1 number) (new result (block.Copy xb) ∷ Close (block.Goto join) ∷ []) (subst (λ t. Looks R.own (if t then own_lines else other_lines)) test looks) in
      let fields_b = subst (λ t. AreLent R.own (looked_by (case_arm p (if t then Some br else arm_for p as' con) n number).cell (case_arm p (if t then Some br else arm_for p as' con) n number).fields)) test fields in
      let below_b : Below n1 out = λ y h. below y (omega (arith, h, least)) in
      let once_b : Fairly F R l1 b out = λ y own. arm_once F R s l n number con next c fs x b as' lent flags out y st a at_bound least below lin.0 fields_b lin.1 (once y) own in
      let ends_are : (if is_that (constructor_number p c) con then suc (ends p b) else arm_ends p as' con) ≡ suc (ends p b) = ap (λ t. if t then suc (ends p b) else arm_ends p as' con) test in
      arm_lives F R s l n con next number c fs x b as' c (own_lines ++ follow) out st a at_bound least below
      (joining_lives R.own number (number + ends p b) (value p b l1 n1 number) xb result join m follow rest out (λ y. max (seen R.loans (named l1 y) b) (out y))
      (λ k. value_lives F R b inner (arm_flags types lent c fs x flags) l1 n1 number (number + ends p b) q (new result (block.Copy xb) ∷ Close (block.Goto join) ∷ follow) out refl st_b has.1 (λ o. lin.2) at_b looks_b below_b once_b k)
      (λ y own. local_once F R.loans b inner l1 n1 q y (out y) st_b has.1 at_b (once_b y own).1 (below_b y))
      (jumps (number + ends p b) (omega (arith, ends_are)))
      (let up : number + (if is_that (constructor_number p c) con then suc (ends p b) else arm_ends p as' con) ≡ suc (number + ends p b) = omega (arith, ends_are) in subst (λ i. AllOnce R.own i follow) up behind)
      goes))
      (λ test.
      let typed_test : is_that (typed.constructor_number types c.word) con ≡ false = ap (λ o. is_that o con) (number_same p c) ∙ test in
      let ends_are : (if is_that (constructor_number p c) con then suc (ends p b) else arm_ends p as' con) ≡ arm_ends p as' con = ap (λ t. if t then suc (ends p b) else arm_ends p as' con) test in
      arm_more R.own (case_arm p (arm_for p as' con) n number) number (other_lines ++ follow) (λ y. max (arms_seen R.loans (named l y) as') (out y)) (λ y. max (arms_seen R.loans (named l y) (AndArm c fs x b as')) (out y))
      (λ y. omega arith)
      (arm_value_lives F R as' s flags lent l n next number result join m con t q follow rest out st has.2 lin.3 (fewer (is_that (typed.constructor_number types c.word) con) (arms_with types con as') typed_test some)
      (subst (λ t. At F.kinds n (if t then bound_kinds p c x ++ kinds p F.sigs inner b else arm_kinds p F.sigs s as' con)) test at)
      (subst (λ t. Looks R.own (if t then own_lines else other_lines)) test looks)
      (subst (λ t. AreLent R.own (looked_by (case_arm p (if t then Some br else arm_for p as' con) n number).cell (case_arm p (if t then Some br else arm_for p as' con) n number).fields)) test fields)
      least more below
      (λ y own. (let k = once y own in let few = k.1 in (k.0.1, omega (arith, few))))
      (λ mid h. jumps mid (h ∙ sym (ap (λ i. number + i) ends_are))) (subst (λ i. AllOnce R.own (number + i) follow) ends_are behind) goes))
