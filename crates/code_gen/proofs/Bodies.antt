-- The blocks of generated code are well formed.
use Rattle.std.proofs.Common.{◌≡◌, ℕ, zero, suc, ◌+◌, ◌≤◌, ◌<◌, Bool, true, false, List, [], ◌∷◌, ◌++◌, length, map, Option, Some, None, refl, sym, ap, ◌∙◌, subst, arith, inl, inr, length-append}
use Rattle.std.specs.Prelude.{◌==◌, ◌||◌, ◌&&◌, not, if◌then◌else◌, flat_map, slice_get, IsSomeAnd, ◌⊎◌}
use Rattle.std.specs.List.{AllByRecursion, list_any}
use Rattle.std.specs.Option.{option_map, option_map_or}
use Rattle.std.proofs.lemmas.Bool.Decides.{nat_tests}
use Rattle.camelot_values.specs.Kinds.{Constructor, DataType, constructor, type_of}
use Rattle.camelot_values.specs.Lists.{Ascend, is_among}
use Rattle.camelot_values.specs.declared.kinds.Kind.{Kind}
use Rattle.camelot_values.specs.declared.kinds.Kind.TheVariants as kind
use Rattle.grail_blocks.specs.declared.blocks.Place.{Place}
use Rattle.grail_blocks.specs.declared.blocks.Place.TheVariants as place
use Rattle.grail_blocks.specs.Blocks.{Op, Lit, Flag, Copy, Prim, Make, Call, Let, CaseArm, Term, Ret, Tail, Goto, If, Case}
use Rattle.grail_blocks.specs.Events.{taken, operands_of, term_uses, bound_by, params_at}
use Rattle.grail_code.specs.Code.{Func, Code}
use Rattle.grail_code.specs.WellFormed.{local_kinds, kind_of, HaveKinds, PlaceFits, Gives, LetFits, ArmsFit, TermFits, JumpFits, data_type, is_owned, is_marked, is_of_heap, looked_at, reads_of, LetLends, TermLends, BlockFits, BlocksFit, FuncFits}
use Rattle.normal_form.specs.Normal.{NormalBlock, NormalFunction, NormalProgram}
use Rattle.normal_form.specs.Live.{Marks, LaterMarks, unless_bound, lets_live, onward_live, term_live, block_live, live_from, times, BlocksOnce}
use Rattle.normal_form.specs.Coded.{coded_blocks, coded}
use Rattle.normal_form.specs.Facts.{is_owned_in, reads_in, UsesFairly, BodyFits, BodyLends, FitsAsCode}
use Rattle.code_gen.specs.Generated.{local_count, live_params, code_of_normal}
use Rattle.code_gen.proofs.Sorted.{among_passing, times_passing, among_times, passing_ascend, passing_below, range_passes}
use Rattle.code_gen.proofs.Ready.{or_split, Ahead, ParamsLive, block_ready}

-- ---- live locals are there

get_below : {A : Type 0} (xs : List A) (i : ℕ) (x : A) → slice_get xs i ≡ Some x → i < length xs
get_below [] i x e = let k : None ≡ Some x = e in absurd cc
get_below (y ∷ xs) zero x e = omega arith
get_below (y ∷ xs) (suc i) x e = let k = get_below xs i x e in omega (arith, k)

-- the local is there
abbrev IsThere : Func → ℕ → Type 0
IsThere f x = x < length (local_kinds f)

one_there : (f : Func) (y x : ℕ) (k : Kind) → kind_of f y ≡ Some k → (y == x) ≡ true → IsThere f x
one_there f y x k is e = let same : y ≡ x = grind (arith, nat_tests, e) in let less = get_below (local_kinds f) y k is in omega (arith, same, less)

list_heads : (a b : Option Kind) (as' bs : List (Option Kind)) → ◌≡◌ {A = List (Option Kind)} (a ∷ as') (b ∷ bs) → (a ≡ b) × (as' ≡ bs)
list_heads a b as' bs e = (cc, cc)

kinds_there : (f : Func) (xs : List ℕ) (ks : List Kind) (x : ℕ) → HaveKinds f xs ks → is_among xs x ≡ true → IsThere f x
kinds_there f [] ks x h e = absurd cc
kinds_there f (y ∷ xs) [] x h e = let k : kind_of f y ∷ map (kind_of f) xs ≡ [] = h in absurd cc
kinds_there f (y ∷ xs) (k ∷ ks) x h e =
    let heads = list_heads (kind_of f y) (Some k) (map (kind_of f) xs) (map Some ks) h in
    either heads.0 (kinds_there f xs ks x heads.1) (or_split (y == x) (is_among xs x) e)
  where
    either : kind_of f y ≡ Some k → (is_among xs x ≡ true → IsThere f x) → ((y == x) ≡ true) ⊎ (is_among xs x ≡ true) → IsThere f x
    either is rest (inl same) = one_there f y x k is same
    either is rest (inr r) = rest r

among_append : (xs ys : List ℕ) (y : ℕ) → is_among (xs ++ ys) y ≡ (is_among xs y || is_among ys y)
among_append [] ys y = refl
among_append (x ∷ xs) ys y = ap (λ b. (x == y) || b) (among_append xs ys y) ∙ grouped (x == y) (is_among xs y) (is_among ys y)
  where
    grouped : (a b c : Bool) → (a || (b || c)) ≡ ((a || b) || c)
    grouped true b c = refl
    grouped false b c = refl

or_none : (b : Bool) → (b || false) ≡ true → b ≡ true
or_none true h = refl
or_none false h = h

taken_there : (f : Func) (inline : Bool) (at : Place) (x : ℕ) → PlaceFits f inline at → is_among (taken at) x ≡ true → IsThere f x
taken_there f inline place.Inline x fit e = absurd cc
taken_there f inline place.New x fit e = absurd cc
taken_there f inline (place.Reuse d) x fit e = one_there f d x kind.Dia fit.1 (or_none (d == x) e)

op_there : (p : Code) (f : Func) (op : Op) (q : Kind) (x : ℕ) → Gives p f op q → is_among (operands_of op) x ≡ true → IsThere f x
op_there p f (Lit z) q x g e = absurd cc
op_there p f (Flag b) q x g e = absurd cc
op_there p f (Copy y) q x g e = one_there f y x q g (or_none (y == x) e)
op_there p f (Prim op y z) q x g e = kinds_there f (y ∷ z ∷ []) (kind.Int ∷ kind.Int ∷ []) x g.0 e
op_there p f (Make con args at) q x g e = by_con (constructor p.types con) g
  where
    by_con : (o : Option Constructor) → IsSomeAnd o (λ c. HaveKinds f args c.fields × PlaceFits f c.inline at × (option_map kind.Of (type_of p.types con) ≡ Some q)) → IsThere f x
    by_con None h = absurd h
    by_con (Some c) h = either (or_split (is_among args x) (is_among (taken at) x) (sym (among_append args (taken at) x) ∙ e))
      where
        either : (is_among args x ≡ true) ⊎ (is_among (taken at) x ≡ true) → IsThere f x
        either (inl k) = kinds_there f args c.fields x h.0 k
        either (inr k) = taken_there f c.inline at x h.1 k
op_there p f (Call func args) q x g e = by_callee (slice_get p.funcs func) g
  where
    by_callee : (o : Option Func) → IsSomeAnd o (λ callee. HaveKinds f args callee.params × (q ≡ callee.result)) → IsThere f x
    by_callee None h = absurd h
    by_callee (Some callee) h = kinds_there f args callee.params x h.0 e

let_there : (p : Code) (f : Func) (l : Let) (x : ℕ) → LetFits p f l → is_among (operands_of l.op) x ≡ true → IsThere f x
let_there p f l x fit e = by_kind (kind_of f l.target) fit
  where
    by_kind : (o : Option Kind) → IsSomeAnd o (Gives p f l.op) → IsThere f x
    by_kind None h = absurd h
    by_kind (Some q) h = op_there p f l.op q x h e

and_second : (a b : Bool) → (not a && b) ≡ true → b ≡ true
and_second true b h = absurd cc
and_second false b h = h

lets_there : (p : Code) (f : Func) (ls : List Let) (after : Marks) (x : ℕ) → AllByRecursion (LetFits p f) ls → (after x ≡ true → IsThere f x)
    → lets_live ls after x ≡ true → IsThere f x
lets_there p f [] after x fit rest e = rest e
lets_there p f (l ∷ ls) after x fit rest e =
    either (λ k. let_there p f l x fit.0 k) (λ k. lets_there p f ls after x fit.1 rest (and_second (l.target == x) (lets_live ls after x) k)) (or_split (is_among (operands_of l.op) x) (unless_bound l.target (lets_live ls after) x) e)
  where
    either : {A B C : Type 0} → (A → C) → (B → C) → A ⊎ B → C
    either f g (inl a) = f a
    either f g (inr b) = g b

term_there : (p : Code) (f : Func) (n : ℕ) (t : Term) (x : ℕ) → TermFits p f n t → is_among (term_uses t) x ≡ true → IsThere f x
term_there p f n (Ret y) x fit e = one_there f y x f.result fit (or_none (y == x) e)
term_there p f n (Tail func args) x fit e = by_callee (slice_get p.funcs func) fit
  where
    by_callee : (o : Option Func) → IsSomeAnd o (λ callee. HaveKinds f args callee.params × (callee.result ≡ f.result)) → IsThere f x
    by_callee None h = absurd h
    by_callee (Some callee) h = kinds_there f args callee.params x h.0 e
term_there p f n (Goto b) x fit e = absurd cc
term_there p f n (If y first second) x fit e = one_there f y x kind.Flag fit.0 (or_none (y == x) e)
term_there p f n (Case y arms) x fit e = by_kind (kind_of f y) refl fit
  where
    by_kind : (o : Option Kind) → kind_of f y ≡ o → IsSomeAnd (data_type p.types o) (λ t. ArmsFit f n t.cons arms) → IsThere f x
    by_kind None is h = absurd h
    by_kind (Some k) is h = one_there f y x k is (or_none (y == x) e)

arms_there : (later : LaterMarks) (x : ℕ) (Q : Type 0) → ((b : ℕ) → later b x ≡ true → Q) → (arms : List CaseArm)
    → list_any (λ a. not (is_among (bound_by a) x) && later a.target x) arms ≡ true → Q
arms_there later x Q h [] e = absurd cc
arms_there later x Q h (a ∷ arms) e =
    either (λ k. h a.target (and_second (is_among (bound_by a) x) (later a.target x) k)) (λ k. arms_there later x Q h arms k)
    (or_split (not (is_among (bound_by a) x) && later a.target x) (list_any (λ a. not (is_among (bound_by a) x) && later a.target x) arms) e)
  where
    either : {A B C : Type 0} → (A → C) → (B → C) → A ⊎ B → C
    either f g (inl a) = f a
    either f g (inr b) = g b

onward_there : (later : LaterMarks) (x : ℕ) (Q : Type 0) → ((b : ℕ) → later b x ≡ true → Q) → (t : Term) → onward_live later t x ≡ true → Q
onward_there later x Q h (Ret y) e = absurd cc
onward_there later x Q h (Tail func args) e = absurd cc
onward_there later x Q h (Goto b) e = h b e
onward_there later x Q h (If y first second) e = either (or_split (later first x) (later second x) e)
  where
    either : (later first x ≡ true) ⊎ (later second x ≡ true) → Q
    either (inl k) = h first k
    either (inr k) = h second k
onward_there later x Q h (Case y arms) e = arms_there later x Q h arms e

block_there : (p : Code) (f : Func) (n : ℕ) (b : NormalBlock) (later : LaterMarks) (x : ℕ) → AllByRecursion (LetFits p f) b.lets
    → TermFits p f n b.term → ((m : ℕ) → later m x ≡ true → IsThere f x) → block_live later b x ≡ true → IsThere f x
block_there p f n b later x lets term h e = lets_there p f b.lets (term_live later b.term) x lets (λ k. either (or_split (is_among (term_uses b.term) x) (onward_live later b.term x) k)) e
  where
    either : (is_among (term_uses b.term) x ≡ true) ⊎ (onward_live later b.term x ≡ true) → IsThere f x
    either (inl k) = term_there p f n b.term x term k
    either (inr k) = onward_there later x (IsThere f x) h b.term k

-- A local that is live at some block is there.
pub live_there : (p : Code) (f : Func) (first : ℕ) (bs : List NormalBlock) (b x : ℕ) → BodyFits p f first bs → live_from first bs b x ≡ true → IsThere f x
live_there p f first [] b x fit e = absurd cc
live_there p f first (body ∷ bs) b x fit e = by_test (b == first) (λ m k. live_there p f (suc first) bs m x fit.2 k) e
  where
    by_test : (t : Bool) → ((m : ℕ) → live_from (suc first) bs m x ≡ true → IsThere f x)
        → (if t then block_live (live_from (suc first) bs) body x else live_from (suc first) bs b x) ≡ true → IsThere f x
    by_test true rest e = block_there p f first body (live_from (suc first) bs) x fit.0 fit.1 rest e
    by_test false rest e = rest b e

-- ---- jumps

arms_ahead : (f : Func) (n : ℕ) (cs : List Constructor) (arms : List CaseArm) → ArmsFit f n cs arms → AllByRecursion (λ a. JumpFits f n a.target) arms
arms_ahead f n [] [] h = tt
arms_ahead f n [] (a ∷ arms) h = absurd h
arms_ahead f n (c ∷ cs) [] h = absurd h
arms_ahead f n (c ∷ cs) (a ∷ arms) h = (h.0.jump, arms_ahead f n cs arms h.1)

term_ahead : (p : Code) (f : Func) (n : ℕ) (t : Term) → TermFits p f n t → Ahead f n t
term_ahead p f n (Ret y) fit = tt
term_ahead p f n (Tail func args) fit = tt
term_ahead p f n (Goto b) fit = fit
term_ahead p f n (If y first second) fit = (fit.1, fit.2)
term_ahead p f n (Case y arms) fit = by_type (data_type p.types (kind_of f y)) fit
  where
    by_type : (o : Option DataType) → IsSomeAnd o (λ t. ArmsFit f n t.cons arms) → AllByRecursion (λ a. JumpFits f n a.target) arms
    by_type None h = absurd h
    by_type (Some t) h = arms_ahead f n t.cons arms h

-- ---- parameters

pub length_coded : (takes : ℕ → List ℕ) (number : ℕ) (bs : List NormalBlock) → length (coded_blocks takes number bs) ≡ length bs
length_coded takes number [] = refl
length_coded takes number (b ∷ bs) = ap suc (length_coded takes (suc number) bs)

params_coded : (takes : ℕ → List ℕ) (number : ℕ) (bs : List NormalBlock) (i : ℕ) → i < length bs
    → params_at (coded_blocks takes number bs) i ≡ takes (number + i)
params_coded takes number [] i h = absurd (omega (arith, h))
params_coded takes number (b ∷ bs) zero h = let same : number ≡ number + 0 = omega arith in ap takes same
params_coded takes number (b ∷ bs) (suc i) h = let same : suc number + i ≡ number + suc i = omega arith in params_coded takes (suc number) bs i (omega (arith, h)) ∙ ap takes same

-- these blocks are those of the function from block n on
abbrev IsRest : NormalFunction → ℕ → List NormalBlock → Type 0
IsRest f n bs = (b x : ℕ) → n ≤ b → live_from 0 f.blocks b x ≡ live_from n bs b x

rest_next : (f : NormalFunction) (n : ℕ) (body : NormalBlock) (bs : List NormalBlock) → IsRest f n (body ∷ bs) → IsRest f (suc n) bs
rest_next f n body bs h b x more =
    let test : (b == n) ≡ false = grind (arith, nat_tests, more) in
    h b x (omega (arith, more)) ∙ ap (λ t. if t then block_live (live_from (suc n) bs) body x else live_from (suc n) bs b x) test

rest_here : (f : NormalFunction) (n : ℕ) (body : NormalBlock) (bs : List NormalBlock) → IsRest f n (body ∷ bs) → (x : ℕ)
    → live_from 0 f.blocks n x ≡ block_live (live_from (suc n) bs) body x
rest_here f n body bs h x =
    let test : (n == n) ≡ true = grind (arith, nat_tests) in
    h n x (omega arith) ∙ ap (λ t. if t then block_live (live_from (suc n) bs) body x else live_from (suc n) bs n x) test

params_live : (f : NormalFunction) (n : ℕ) (bs : List NormalBlock) → IsRest f (suc n) bs → (b : ℕ) → JumpFits (coded live_params f) n b
    → ParamsLive (coded_blocks (live_params f) 0 f.blocks) (live_from (suc n) bs) b
params_live f n bs rest zero jump = absurd (let less = jump.0 in omega (arith, less))
params_live f n bs rest (suc b) jump =
    let size = length_coded (live_params f) 0 f.blocks in
    let less = jump.0 in
    let there = jump.1 in
    let start : 0 + suc b ≡ suc b = omega arith in
    let is : params_at (coded_blocks (live_params f) 0 f.blocks) (suc b) ≡ live_params f (suc b) = params_coded (live_params f) 0 f.blocks (suc b) (omega (arith, there, size)) ∙ ap (live_params f) start in
    record {
      live = λ x e.
          (let t = times_passing (live_from 0 f.blocks (suc b)) 0 (local_count f) x in
          sym (rest (suc b) x (omega (arith, less))) ∙ t.passes (among_times (live_params f (suc b)) x (ap (λ l. is_among l x) (sym is) ∙ e)));
      once = λ x. (let t = times_passing (live_from 0 f.blocks (suc b)) 0 (local_count f) x in let most = t.most in let same = ap (times x) is in omega (arith, most, same));
    }

-- what is live at a block is among its parameters
holds_live : (p : Code) (f : NormalFunction) (np : NormalProgram) (n : ℕ) (x : ℕ) → UsesFairly np f
    → BodyFits p (coded live_params f) 0 f.blocks → live_from 0 f.blocks n x ≡ true → is_among (live_params f n) x ≡ true
holds_live p f np zero x fair fit e =
    ap (λ l. is_among l x) (sym (range_passes 0 (length f.params))) ∙ among_passing (λ y. true) 0 (length f.params) x (omega arith) (let less = fair.bound x e in omega (arith, less)) refl
holds_live p f np (suc n) x fair fit e =
    let there = live_there p (coded live_params f) 0 f.blocks (suc n) x fit e in
    let size = length-append f.params f.locals in
    among_passing (live_from 0 f.blocks (suc n)) 0 (local_count f) x (omega arith) (omega (arith, there, size)) e

params_below : (f : NormalFunction) (n : ℕ) → AllByRecursion (λ x. x < length (f.params ++ f.locals)) (live_params f n)
params_below f zero =
    let size = length-append f.params f.locals in
    subst (AllByRecursion (λ x. x < length (f.params ++ f.locals))) (range_passes 0 (length f.params)) (passing_below (λ y. true) 0 (length f.params) (length (f.params ++ f.locals)) (omega (arith, size)))
params_below f (suc n) =
    let size = length-append f.params f.locals in
    passing_below (live_from 0 f.blocks (suc n)) 0 (local_count f) (length (f.params ++ f.locals)) (omega (arith, size))

params_ascend : (f : NormalFunction) (n : ℕ) → Ascend (live_params f n)
params_ascend f zero = subst Ascend (range_passes 0 (length f.params)) (passing_ascend (λ y. true) 0 (length f.params))
params_ascend f (suc n) = passing_ascend (live_from 0 f.blocks (suc n)) 0 (local_count f)

-- ---- what is owned

looked_same : (takes : ℕ → List ℕ) (number : ℕ) (bs : List NormalBlock)
    → flat_map (λ b. looked_at b.term) (coded_blocks takes number bs) ≡ flat_map (λ b. looked_at b.term) bs
looked_same takes number [] = refl
looked_same takes number (b ∷ bs) = ap (λ xs. looked_at b.term ++ xs) (looked_same takes (suc number) bs)

-- the code owns the same locals
owned_same : (p : NormalProgram) (f : NormalFunction) → is_owned_in p.types f ≡ is_owned p.types (coded live_params f)
owned_same p f i x =
    is_of_heap p.types (coded live_params f) x && not (is_marked (coded live_params f) x || is_among (sym (looked_same (live_params f) 0 f.blocks) i) x)

-- and has the same marks
marks_same : (fs : List NormalFunction) (func : ℕ)
    → option_map_or (λ f. f.reads) (slice_get fs func) [] ≡ option_map_or (λ f. f.reads) (slice_get (map (coded live_params) fs) func) []
marks_same [] func = refl
marks_same (f ∷ fs) zero = refl
marks_same (f ∷ fs) (suc func) = marks_same fs func

pub reads_same : (p : NormalProgram) → reads_in p ≡ reads_of (code_of_normal p)
reads_same p i func = marks_same p.functions func i

-- ---- blocks

block_fits : (p : NormalProgram) (f : NormalFunction) (n : ℕ) (body : NormalBlock) (bs : List NormalBlock) → UsesFairly p f
    → BodyFits (code_of_normal p) (coded live_params f) 0 f.blocks
    → AllByRecursion (LetFits (code_of_normal p) (coded live_params f)) body.lets → TermFits (code_of_normal p) (coded live_params f) n body.term
    → AllByRecursion (LetLends (code_of_normal p) (coded live_params f)) body.lets → TermLends (code_of_normal p) (coded live_params f) body.term
    → BlocksOnce (reads_of (code_of_normal p)) (is_owned p.types (coded live_params f)) n (body ∷ bs) → IsRest f n (body ∷ bs)
    → BlockFits (code_of_normal p) (coded live_params f) n (record { params = live_params f n; lets = body.lets; term = body.term })
block_fits p f n body bs fair fit lets term lets_lend term_lends once rest = record {
  params = params_below f n;
  ascending = params_ascend f n;
  entry = λ is. ap (live_params f) is;
  lets = lets;
  term = term;
  lets_lend = lets_lend;
  term_lends = term_lends;
  uses = block_ready (reads_of (code_of_normal p)) (is_owned p.types (coded live_params f)) (coded_blocks (live_params f) 0 f.blocks) (live_from (suc n) bs) (coded live_params f) n (live_params f n) body once.0
      (params_live f n bs (rest_next f n body bs rest)) (term_ahead (code_of_normal p) (coded live_params f) n body.term term)
      (λ x e. holds_live (code_of_normal p) f p n x fair fit (rest_here f n body bs rest x ∙ e));
}

blocks_fit : (p : NormalProgram) (f : NormalFunction) (n : ℕ) (bs : List NormalBlock) → UsesFairly p f
    → BodyFits (code_of_normal p) (coded live_params f) 0 f.blocks → BodyFits (code_of_normal p) (coded live_params f) n bs
    → BodyLends (code_of_normal p) (coded live_params f) bs
    → BlocksOnce (reads_of (code_of_normal p)) (is_owned p.types (coded live_params f)) n bs → IsRest f n bs
    → BlocksFit (code_of_normal p) (coded live_params f) n (coded_blocks (live_params f) n bs)
blocks_fit p f n [] fair whole fit lends once rest = tt
blocks_fit p f n (body ∷ bs) fair whole fit lends once rest =
    (block_fits p f n body bs fair whole fit.0 fit.1 lends.0 lends.1 once rest, blocks_fit p f (suc n) bs fair whole fit.2 lends.2 once.1 (rest_next f n body bs rest))

-- A function that uses its locals fairly, and fits as code, is well formed with its live locals as parameters.
pub function_well_formed : (p : NormalProgram) (f : NormalFunction) → UsesFairly p f → FitsAsCode live_params p f
    → FuncFits (code_of_normal p) (coded live_params f)
function_well_formed p f fair fit = record {
  marked = fit.marked;
  keeps = fit.keeps;
  kinds = fit.kinds;
  result = fit.result;
  blocks = blocks_fit p f 0 f.blocks fair fit.body fit.body fit.lends
      (subst (λ reads. BlocksOnce reads (is_owned p.types (coded live_params f)) 0 f.blocks) (reads_same p)
      (subst (λ h. BlocksOnce (reads_in p) h 0 f.blocks) (owned_same p f) fair.once)) (λ b x more. refl);
}

pub functions_well_formed : (p : NormalProgram) (fs : List NormalFunction) → AllByRecursion (UsesFairly p) fs
    → AllByRecursion (FitsAsCode live_params p) fs → AllByRecursion (FuncFits (code_of_normal p)) (map (coded live_params) fs)
functions_well_formed p [] fair fit = tt
functions_well_formed p (f ∷ fs) fair fit = (function_well_formed p f fair.0 fit.0, functions_well_formed p fs fair.1 fit.1)
