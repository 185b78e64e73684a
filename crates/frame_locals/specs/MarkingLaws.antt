-- Laws, for the proofs of this crate and of those above it.
-- Marks go along with the states of locals.
use Rattle.std.proofs.Common.{◌≡◌, ℕ, zero, suc, ◌+◌, ◌<◌, ◌≤◌, Bool, true, false, List, [], ◌∷◌, ◌++◌, length, map, take, Option, Some, None, refl, sym, ap, ◌∙◌, subst, arith}
use Rattle.std.specs.Prelude.{◌==◌, ◌&&◌, not, if◌then◌else◌, slice_get, slice_set, replicate}
use Rattle.std.specs.Option.{option_map, option_map_or}
use Rattle.std.proofs.lemmas.Bool.Decides.{nat_tests}
use Rattle.std.proofs.lemmas.List.{length-set}
use Rattle.camelot_values.specs.Kinds.{DataType}
use Rattle.camelot_values.specs.Heap.{is_heap}
use Rattle.camelot_values.specs.declared.kinds.Kind.{Kind}
use Rattle.grail_blocks.specs.Events.{Event, Use, Look, Bind, Reads, taken_by, read_by, argument_events, uses_of, let_events}
use Rattle.grail_blocks.specs.States as states
use Rattle.grail_blocks.specs.States.{Status, Ready, Unbound, Spent, nothing_bound, at_start, after_lets, after_let, state_at}
use Rattle.grail_code.specs.Code.{Let, Block, Func, Code}
use Rattle.grail_code.specs.WellFormed.{local_kinds, is_read, is_owned, reads_of}
use Rattle.frame_locals.specs.Places.{behind_operands, ready_in_block, ready_in_func, ready_at, waits_in_block, waits_in_func, waits_at, is_ready}
use Rattle.frame_locals.specs.Tables.{owned_from}
use Rattle.frame_locals.specs.Marking.{AreMarks, is_set, use_mark, marks_after, marks_behind, marks_used}

-- ---- one mark

set_here : (marks : List Bool) (b : Bool) (x : ℕ) → x < length marks → slice_get (slice_set marks x b) x ≡ Some b
set_here [] b x less = absurd (omega (arith, less))
set_here (m ∷ marks) b zero less = refl
set_here (m ∷ marks) b (suc x) less = set_here marks b x (omega (arith, less))

set_elsewhere : (marks : List Bool) (b : Bool) (y x : ℕ) → (y ≡ x → ⊥) → slice_get (slice_set marks y b) x ≡ slice_get marks x
set_elsewhere [] b y x n = refl
set_elsewhere (m ∷ marks) b zero zero n = absurd (n refl)
set_elsewhere (m ∷ marks) b zero (suc x) n = refl
set_elsewhere (m ∷ marks) b (suc y) zero n = refl
set_elsewhere (m ∷ marks) b (suc y) (suc x) n = set_elsewhere marks b y x (λ e. n (ap suc e))

get_set : (marks : List Bool) (b : Bool) (y x : ℕ) → x < length marks → slice_get (slice_set marks y b) x ≡ (if y == x then Some b else slice_get marks x)
get_set marks b y x less = by_test (y == x) refl
  where
    by_test : (t : Bool) → (y == x) ≡ t → slice_get (slice_set marks y b) x ≡ (if t then Some b else slice_get marks x)
    by_test true e = let same : y ≡ x = grind (arith, nat_tests, e) in ap (λ z. slice_get (slice_set marks z b) x) same ∙ set_here marks b x less
    by_test false e = set_elsewhere marks b y x (λ same. let c : (y == x) ≡ true = grind (arith, nat_tests, same) in let k : false ≡ true = sym e ∙ c in absurd cc)

pub marks_long : (owned marks : List Bool) (events : List Event) → length (marks_after owned marks events) ≡ length marks
marks_long owned marks [] = refl
marks_long owned marks (Bind x ∷ events) = marks_long owned (slice_set marks x true) events ∙ length-set marks x true
marks_long owned marks (Look x ∷ events) = marks_long owned marks events
marks_long owned marks (Use x ∷ events) = marks_long owned (use_mark owned marks x) events ∙ by_test (is_set owned x)
  where
    by_test : (t : Bool) → length (if t then slice_set marks x false else marks) ≡ length marks
    by_test true = length-set marks x false
    by_test false = refl

pub lets_long : (reads : Reads) (owned marks : List Bool) (ls : List Let) → length (marks_behind reads owned marks ls) ≡ length marks
lets_long reads owned marks [] = refl
lets_long reads owned marks (l ∷ ls) = lets_long reads owned (marks_after owned marks (let_events reads l)) ls ∙ marks_long owned marks (let_events reads l)

-- ---- events

bound_mark : (s : states.State) (marks : List Bool) (y : ℕ) → AreMarks s marks → AreMarks (states.bind s y) (slice_set marks y true)
unfolding AreMarks
bound_mark s marks y h x less =
    let less2 : x < length marks = subst (λ n. x < n) (length-set marks y true) less in
    get_set marks true y x less2 ∙ by_test (y == x) (h x less2)
  where
    by_test : (t : Bool) → slice_get marks x ≡ Some (is_ready (s x)) → (if t then Some true else slice_get marks x) ≡ Some (is_ready (if t then Ready else s x))
    by_test true e = refl
    by_test false e = e

used_mark : (is_owned : ℕ → Bool) (owned : List Bool) (s : states.State) (marks : List Bool) (y : ℕ) → is_set owned y ≡ is_owned y → AreMarks s marks
    → AreMarks (states.use_of is_owned s y) (use_mark owned marks y)
unfolding AreMarks
used_mark is_owned owned s marks y same h = by_owned (is_owned y) refl
  where
    by_owned : (o : Bool) → is_owned y ≡ o → (x : ℕ) → x < length (if is_set owned y then slice_set marks y false else marks)
        → slice_get (if is_set owned y then slice_set marks y false else marks) x ≡ Some (is_ready (if (y == x) && is_owned y then Spent else s x))
    by_owned true e x less =
        let set : is_set owned y ≡ true = same ∙ e in
        let less2 : x < length (slice_set marks y false) = subst (λ t. x < length (if t then slice_set marks y false else marks)) set less in
        let less3 : x < length marks = subst (λ n. x < n) (length-set marks y false) less2 in
        ap (λ t. slice_get (if t then slice_set marks y false else marks) x) set ∙ get_set marks false y x less3 ∙ by_test (y == x) (h x less3)
        ∙ ap (λ o. Some (is_ready (if (y == x) && o then Spent else s x))) (sym e)
      where
        by_test : (t : Bool) → slice_get marks x ≡ Some (is_ready (s x)) → (if t then Some false else slice_get marks x) ≡ Some (is_ready (if t && true then Spent else s x))
        by_test true e = refl
        by_test false e = e
    by_owned false e x less =
        let set : is_set owned y ≡ false = same ∙ e in
        let less2 : x < length marks = subst (λ t. x < length (if t then slice_set marks y false else marks)) set less in
        ap (λ t. slice_get (if t then slice_set marks y false else marks) x) set ∙ h x less2 ∙ by_test (y == x)
        ∙ ap (λ o. Some (is_ready (if (y == x) && o then Spent else s x))) (sym e)
      where
        by_test : (t : Bool) → Some (is_ready (s x)) ≡ Some (is_ready (if t && false then Spent else s x))
        by_test true = refl
        by_test false = refl

-- behind events the marks are again those of the state
pub marks_right : (is_owned : ℕ → Bool) (owned : List Bool) → ((x : ℕ) → is_set owned x ≡ is_owned x) → (s : states.State) (marks : List Bool) (events : List Event)
    → AreMarks s marks → AreMarks (states.after is_owned s events) (marks_after owned marks events)
marks_right is_owned owned same s marks [] h = h
marks_right is_owned owned same s marks (Bind x ∷ events) h = marks_right is_owned owned same (states.bind s x) (slice_set marks x true) events (bound_mark s marks x h)
marks_right is_owned owned same s marks (Use x ∷ events) h =
    marks_right is_owned owned same (states.use_of is_owned s x) (use_mark owned marks x) events (used_mark is_owned owned s marks x (same x) h)
marks_right is_owned owned same s marks (Look x ∷ events) h = marks_right is_owned owned same s marks events h

pub lets_right : (reads : Reads) (is_owned : ℕ → Bool) (owned : List Bool) → ((x : ℕ) → is_set owned x ≡ is_owned x) → (s : states.State) (marks : List Bool) (ls : List Let)
    → AreMarks s marks → AreMarks (after_lets reads is_owned s ls) (marks_behind reads owned marks ls)
lets_right reads is_owned owned same s marks [] h = h
lets_right reads is_owned owned same s marks (l ∷ ls) h =
    lets_right reads is_owned owned same (after_let reads is_owned s l) (marks_after owned marks (let_events reads l)) ls (marks_right is_owned owned same s marks (let_events reads l) h)

pub none_ready : (n : ℕ) → AreMarks nothing_bound (replicate n false)
unfolding AreMarks
none_ready n x less = none n x less
  where
    none : (n x : ℕ) → x < length (replicate n false) → slice_get (replicate n false) x ≡ Some false
    none zero x less = absurd (omega (arith, less))
    none (suc n) zero less = refl
    none (suc n) (suc x) less = none n x (omega (arith, less))

-- ---- the table says which locals are owned

owned_get : (types : List DataType) (f : Func) (k : ℕ) (qs : List Kind) (x : ℕ)
    → slice_get (owned_from types f k qs) x ≡ option_map (λ q. is_heap types q && not (is_read f (k + x))) (slice_get qs x)
owned_get types f k [] x = refl
owned_get types f k (q ∷ qs) zero = ap (λ n. Some (is_heap types q && not (is_read f n))) (let e : k ≡ k + 0 = omega arith in e)
owned_get types f k (q ∷ qs) (suc x) = owned_get types f (suc k) qs x ∙ ap (λ n. option_map (λ q. is_heap types q && not (is_read f n)) (slice_get qs x)) (let e : suc k + x ≡ k + suc x = omega arith in e)

pub owned_is : (types : List DataType) (f : Func) (x : ℕ) → is_set (owned_from types f 0 (local_kinds f)) x ≡ is_owned types f x
owned_is types f x =
    let e : 0 + x ≡ x = omega arith in
    ap (λ o. option_map_or (λ mark. mark) o false) (owned_get types f 0 (local_kinds f) x ∙ ap (λ n. option_map (λ q. is_heap types q && not (is_read f n)) (slice_get (local_kinds f) x)) e)
    ∙ by_kind (slice_get (local_kinds f) x)
  where
    by_kind : (o : Option Kind) → option_map_or (λ mark. mark) (option_map (λ q. is_heap types q && not (is_read f x)) o) false ≡ (option_map_or (is_heap types) o false && not (is_read f x))
    by_kind None = refl
    by_kind (Some q) = refl

-- ---- events of a let

pub events_both : (owned marks : List Bool) (es ds : List Event) → marks_after owned marks (es ++ ds) ≡ marks_after owned (marks_after owned marks es) ds
events_both owned marks [] ds = refl
events_both owned marks (Bind x ∷ es) ds = events_both owned (slice_set marks x true) es ds
events_both owned marks (Use x ∷ es) ds = events_both owned (use_mark owned marks x) es ds
events_both owned marks (Look x ∷ es) ds = events_both owned marks es ds

pub used_both : (owned marks : List Bool) (xs ys : List ℕ) → marks_after owned marks (map Use (xs ++ ys)) ≡ marks_after owned (marks_after owned marks (map Use xs)) (map Use ys)
used_both owned marks [] ys = refl
used_both owned marks (x ∷ xs) ys = used_both owned (use_mark owned marks x) xs ys

-- what is looked at stays as it is
looks : (owned marks : List Bool) (xs : List ℕ) → marks_after owned marks (map Look xs) ≡ marks
looks owned marks [] = refl
looks owned marks (x ∷ xs) = looks owned marks xs

pub looks_nothing : (owned marks reads : List Bool) (xs : List ℕ) → marks_after owned marks (argument_events reads xs) ≡ marks_after owned marks (map Use (taken_by reads xs))
looks_nothing owned marks [] xs = refl
looks_nothing owned marks (r ∷ reads) xs =
    events_both owned marks (map Use (taken_by (r ∷ reads) xs)) (map Look (read_by (r ∷ reads) xs)) ∙ looks owned (marks_after owned marks (map Use (taken_by (r ∷ reads) xs))) (read_by (r ∷ reads) xs)

none_taken : (reads : List Bool) → taken_by reads [] ≡ []
none_taken [] = refl
none_taken (r ∷ reads) = refl

-- where no argument is left, nothing more is used
pub taken_end : (owned marks reads : List Bool) (xs : List ℕ) → length xs < 1 → marks_after owned marks (map Use (taken_by reads xs)) ≡ marks
taken_end owned marks reads [] less = ap (λ l. marks_after owned marks (map Use l)) (none_taken reads)
taken_end owned marks reads (x ∷ xs) less = absurd (omega (arith, less))

-- ---- places

ready_marked : (reads : Reads) (is_owned : ℕ → Bool) (owned : List Bool) (n : ℕ) (b : Block) (place : ℕ) → ((x : ℕ) → is_set owned x ≡ is_owned x)
    → AreMarks (state_at reads is_owned b place) (marks_behind reads owned (marks_after owned (replicate n false) (map Bind b.params)) (take place b.lets))
ready_marked reads is_owned owned n b place same =
    lets_right reads is_owned owned same (at_start is_owned b) (marks_after owned (replicate n false) (map Bind b.params)) (take place b.lets)
    (marks_right is_owned owned same nothing_bound (replicate n false) (map Bind b.params) (none_ready n))

-- the marks of a block at a place
pub place_marked : (p : Code) (func block place n : ℕ) (f : Func) (b : Block) (owned new : List Bool) → slice_get p.funcs func ≡ Some f → slice_get f.blocks block ≡ Some b
    → owned ≡ owned_from p.types f 0 (local_kinds f) → new ≡ marks_behind (reads_of p) owned (marks_after owned (replicate n false) (map Bind b.params)) (take place b.lets)
    → AreMarks (ready_at p func block place) new
place_marked p func block place n f b owned new at_func at_block own is =
    let same : (x : ℕ) → is_set owned x ≡ is_owned p.types f x = λ x. ap (λ o. is_set o x) own ∙ owned_is p.types f x in
    let at : ready_at p func block place ≡ state_at (reads_of p) (is_owned p.types f) b place =
    ap (λ o. ready_in_func p o block place) at_func ∙ ap (λ o. ready_in_block p f o place) at_block in
    subst (λ s. AreMarks s new) (sym at) (subst (AreMarks (state_at (reads_of p) (is_owned p.types f) b place)) (sym is) (ready_marked (reads_of p) (is_owned p.types f) owned n b place same))

pub no_func_marked : (p : Code) (func block place n : ℕ) (new : List Bool) → slice_get p.funcs func ≡ None → new ≡ replicate n false → AreMarks (ready_at p func block place) new
no_func_marked p func block place n new e is = subst (λ o. AreMarks (ready_in_func p o block place) new) (sym e) (subst (AreMarks nothing_bound) (sym is) (none_ready n))

pub no_block_marked : (p : Code) (func block place n : ℕ) (f : Func) (new : List Bool) → slice_get p.funcs func ≡ Some f → slice_get f.blocks block ≡ None → new ≡ replicate n false
    → AreMarks (ready_at p func block place) new
no_block_marked p func block place n f new e k is =
    subst (λ o. AreMarks (ready_in_func p o block place) new) (sym e) (subst (λ o. AreMarks (ready_in_block p f o place) new) (sym k) (subst (AreMarks nothing_bound) (sym is) (none_ready n)))

-- the same once the operands of the let there are used
pub no_func_waits : (p : Code) (func block place n : ℕ) (new : List Bool) → slice_get p.funcs func ≡ None → new ≡ replicate n false → AreMarks (waits_at p func block place) new
no_func_waits p func block place n new e is = subst (λ o. AreMarks (waits_in_func p o block place) new) (sym e) (subst (AreMarks nothing_bound) (sym is) (none_ready n))

pub no_block_waits : (p : Code) (func block place n : ℕ) (f : Func) (new : List Bool) → slice_get p.funcs func ≡ Some f → slice_get f.blocks block ≡ None → new ≡ replicate n false
    → AreMarks (waits_at p func block place) new
no_block_waits p func block place n f new e k is =
    subst (λ o. AreMarks (waits_in_func p o block place) new) (sym e) (subst (λ o. AreMarks (waits_in_block p f o place) new) (sym k) (subst (AreMarks nothing_bound) (sym is) (none_ready n)))

pub waits_marked : (p : Code) (func block place n : ℕ) (f : Func) (b : Block) (o : Option Let) (owned old new : List Bool) → slice_get p.funcs func ≡ Some f
    → slice_get f.blocks block ≡ Some b → slice_get b.lets place ≡ o → owned ≡ owned_from p.types f 0 (local_kinds f)
    → old ≡ marks_behind (reads_of p) owned (marks_after owned (replicate n false) (map Bind b.params)) (take place b.lets) → new ≡ marks_used (reads_of p) owned old o
    → AreMarks (waits_at p func block place) new
waits_marked p func block place n f b o owned old new at_func at_block at_let own was is =
    let same : (x : ℕ) → is_set owned x ≡ is_owned p.types f x = λ x. ap (λ o. is_set o x) own ∙ owned_is p.types f x in
    let before : AreMarks (state_at (reads_of p) (is_owned p.types f) b place) old =
    subst (AreMarks (state_at (reads_of p) (is_owned p.types f) b place)) (sym was) (ready_marked (reads_of p) (is_owned p.types f) owned n b place same) in
    let at : waits_at p func block place ≡ behind_operands p f (state_at (reads_of p) (is_owned p.types f) b place) o =
    ap (λ o. waits_in_func p o block place) at_func ∙ ap (λ o. waits_in_block p f o place) at_block
    ∙ ap (behind_operands p f (state_at (reads_of p) (is_owned p.types f) b place)) at_let in
    subst (λ s. AreMarks s new) (sym at) (subst (AreMarks (behind_operands p f (state_at (reads_of p) (is_owned p.types f) b place) o)) (sym is) (by_let o same before))
  where
    by_let : (o : Option Let) → ((x : ℕ) → is_set owned x ≡ is_owned p.types f x) → AreMarks (state_at (reads_of p) (is_owned p.types f) b place) old
        → AreMarks (behind_operands p f (state_at (reads_of p) (is_owned p.types f) b place) o) (marks_used (reads_of p) owned old o)
    by_let None same h = h
    by_let (Some l) same h = marks_right (is_owned p.types f) owned same (state_at (reads_of p) (is_owned p.types f) b place) old (uses_of (reads_of p) l.op) h
