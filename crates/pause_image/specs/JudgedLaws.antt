-- Laws, for the proofs of this crate and of those above it.
-- What was judged can go on.
use Rattle.std.proofs.Common.{◌≡◌, ℕ, zero, suc, ◌+◌, ◌-◌, ◌≤◌, ◌<◌, Bool, true, false, List, [], ◌∷◌, ◌++◌, map, length, take, Option, Some, None, refl, sym, ap, ◌∙◌, subst, arith, append_assoc}
use Rattle.std.specs.Prelude.{◌/◌, ◌==◌, ◌&&◌, if◌then◌else◌, reverse, replicate, slice_get, slice_set, IsSomeAnd}
use Rattle.std.specs.Option.{option_map_or}
use Rattle.std.specs.List.{AllByRecursion}
use Rattle.std.proofs.lemmas.Bool.Decides.{nat_tests}
use Rattle.std.proofs.lemmas.List.{reverse-append, length-reverse, append-nil}
use Rattle.std.proofs.lemmas.Option.{slice_get_within}
use Rattle.cell_span.specs.declared.cell.Cell.{Cell}
use Rattle.camelot_values.specs.Value.{Value}
use Rattle.camelot_values.specs.declared.kinds.Kind.{Kind}
use Rattle.grail_blocks.specs.Events.{Event, Use, Look, Bind, Reads, argument_events, operands_of, taken_by, read_by, uses_of, let_events}
use Rattle.grail_blocks.specs.States as states
use Rattle.grail_blocks.specs.States.{Status, Unbound, Ready, Spent, nothing_bound, at_start, after_let, after_lets, state_at}
use Rattle.grail_code.specs.Code.{Op, Lit, Flag, Copy, Prim, Make, Call, Let, Block, Func, Code}
use Rattle.grail_code.specs.Limits.{IsWithinLimits}
use Rattle.grail_code.specs.WellFormed.{kind_of, local_kinds, is_owned, reads_of, LetFits, BlockFits, IsWellFormed}
use Rattle.licence.specs.Books.{book_of}
use Rattle.licence.specs.Licensed.{Licensed, IsLicensed}
use Rattle.frame_locals.specs.Lending.{LendsWhere, lends_at}
use Rattle.frame_locals.specs.LendingLaws as lending
use Rattle.frame_locals.specs.Places.{ready_at, waits_at}
use Rattle.licence.specs.Worth.{worth_at}
use Rattle.machine_image.specs.Images.{Bound, Frame}
use Rattle.cell_machine.specs.Bounds.{put_back}
use Rattle.cell_machine.specs.Counted.{IsFit}
use Rattle.cell_machine.specs.Demands.{waiting_demands, ResultsSuffice, demands}
use Rattle.cell_machine.specs.Saved.{Saved, width_at, frame_back, frames_back, youngest, others, highest, below, HasItsLocals, configuration_of, CanGoOn}
use Rattle.cell_machine.specs.Sound.{Holding, holdings_of, running_loans, WaitingFrame, WaitingFrames, waiting_holdings, running_holdings, cells_held, LoansApart, RunningFrame, IsSound}
use Rattle.cell_machine.specs.Stands.{times, RepeatsNone}
use Rattle.cell_machine.specs.State.{Activation, Configuration, most_calls}
use Rattle.cell_machine.specs.theory.Counting.{times_append}
use Rattle.cell_machine.specs.theory.Course.{here}
use Rattle.cell_machine.specs.theory.Living.{in_block, at_call}
use Rattle.pause_image.specs.Found.{Found, value_at, taken}
use Rattle.pause_image.specs.FoundLaws.{NoneLent, IsStood, stood}
use Rattle.pause_image.specs.Judged.{words_of, account_of, RunsThere, WaitsThere, FramesThere, all_taken, running_asks, waiting_asks, all_asks, IsJudged}

-- ---- a ready local is one of the function's

abbrev Inside : ℕ → states.State → Type 0
Inside n s = (x : ℕ) → s x ≡ Ready → x < n

bind_inside : (n : ℕ) (s : states.State) (y : ℕ) → Inside n s → y < n → Inside n (states.bind s y)
bind_inside n s y h less x r = by_test (y == x) refl r
  where
    by_test : (b : Bool) → (y == x) ≡ b → (if b then Ready else s x) ≡ Ready → x < n
    by_test true e r = grind (arith, nat_tests, e, less)
    by_test false e r = h x r

use_inside : (n : ℕ) (o : ℕ → Bool) (s : states.State) (y : ℕ) → Inside n s → Inside n (states.use_of o s y)
use_inside n o s y h x r = by_test ((y == x) && o y) r
  where
    by_test : (b : Bool) → (if b then Spent else s x) ≡ Ready → x < n
    by_test true r = absurd cc
    by_test false r = h x r

abbrev BindsIn : ℕ → List Event → Type 0
BindsIn n [] = Unit {0}
BindsIn n (Bind x ∷ es) = (x < n) × BindsIn n es
BindsIn n (Use x ∷ es) = BindsIn n es
BindsIn n (Look x ∷ es) = BindsIn n es

after_inside : (n : ℕ) (o : ℕ → Bool) (s : states.State) (es : List Event) → Inside n s → BindsIn n es → Inside n (states.after o s es)
after_inside n o s [] h k = h
after_inside n o s (Bind x ∷ es) h k = after_inside n o (states.bind s x) es (bind_inside n s x h k.0) k.1
after_inside n o s (Use x ∷ es) h k = after_inside n o (states.use_of o s x) es (use_inside n o s x h) k
after_inside n o s (Look x ∷ es) h k = after_inside n o s es h k

binds_both : (n : ℕ) (es ds : List Event) → BindsIn n es → BindsIn n ds → BindsIn n (es ++ ds)
binds_both n [] ds h k = k
binds_both n (Bind x ∷ es) ds h k = (h.0, binds_both n es ds h.1 k)
binds_both n (Use x ∷ es) ds h k = binds_both n es ds h k
binds_both n (Look x ∷ es) ds h k = binds_both n es ds h k

uses_bind : (n : ℕ) (xs : List ℕ) → BindsIn n (map Use xs)
uses_bind n [] = tt
uses_bind n (x ∷ xs) = uses_bind n xs

looks_bind : (n : ℕ) (xs : List ℕ) → BindsIn n (map Look xs)
looks_bind n [] = tt
looks_bind n (x ∷ xs) = looks_bind n xs

arguments_bind : (n : ℕ) (reads : List Bool) (xs : List ℕ) → BindsIn n (argument_events reads xs)
arguments_bind n [] xs = uses_bind n xs
arguments_bind n (r ∷ reads) xs = binds_both n (map Use (taken_by (r ∷ reads) xs)) (map Look (read_by (r ∷ reads) xs)) (uses_bind n (taken_by (r ∷ reads) xs)) (looks_bind n (read_by (r ∷ reads) xs))

op_binds : (n : ℕ) (reads : Reads) (op : Op) → BindsIn n (uses_of reads op)
op_binds n reads (Call func args) = arguments_bind n (reads func) args
op_binds n reads (Lit z) = tt
op_binds n reads (Flag b) = tt
op_binds n reads (Copy y) = tt
op_binds n reads (Prim op y z) = tt
op_binds n reads (Make con args at) = uses_bind n (operands_of (Make con args at))

params_bind : (n : ℕ) (xs : List ℕ) → AllByRecursion (λ x. x < n) xs → BindsIn n (map Bind xs)
params_bind n [] h = tt
params_bind n (x ∷ xs) h = (h.0, params_bind n xs h.1)

target_in : (f : Func) (x : ℕ) (P : Kind → Type 0) → IsSomeAnd (kind_of f x) P → x < length (local_kinds f)
target_in f x P h = by_kind (kind_of f x) refl h
  where
    by_kind : (o : Option Kind) → kind_of f x ≡ o → IsSomeAnd o P → x < length (local_kinds f)
    by_kind None e h = absurd h
    by_kind (Some q) e h = slice_get_within (local_kinds f) x q e

lets_inside : (p : Code) (f : Func) (o : ℕ → Bool) (s : states.State) (ls : List Let) (k : ℕ) → AllByRecursion (LetFits p f) ls → Inside (length (local_kinds f)) s
    → Inside (length (local_kinds f)) (after_lets (reads_of p) o s (take k ls))
lets_inside p f o s ls zero h i = i
lets_inside p f o s [] (suc k) h i = i
lets_inside p f o s (l ∷ ls) (suc k) h i =
    lets_inside p f o (after_let (reads_of p) o s l) ls k h.1
    (after_inside (length (local_kinds f)) o s (let_events (reads_of p) l) i (binds_both (length (local_kinds f)) (uses_of (reads_of p) l.op) (Bind l.target ∷ []) (op_binds (length (local_kinds f)) (reads_of p) l.op) (target_in f l.target _ h.0, tt)))

state_inside : (p : Code) (f : Func) (number : ℕ) (b : Block) (place : ℕ) → BlockFits p f number b → Inside (length (local_kinds f)) (state_at (reads_of p) (is_owned p.types f) b place)
state_inside p f number b place fits =
    lets_inside p f (is_owned p.types f) (at_start (is_owned p.types f) b) b.lets place fits.lets
    (after_inside (length (local_kinds f)) (is_owned p.types f) nothing_bound (map Bind b.params) (λ x r. absurd cc) (params_bind (length (local_kinds f)) b.params fits.params))

-- ---- one frame

length_set : (ws : List ℕ) (x w : ℕ) → length (slice_set ws x w) ≡ length ws
length_set [] x w = refl
length_set (u ∷ ws) zero w = refl
length_set (u ∷ ws) (suc x) w = ap suc (length_set ws x w)

put_length : (ws : List ℕ) (bs : List Bound) → length (put_back ws bs) ≡ length ws
put_length ws [] = refl
put_length ws (b ∷ bs) = put_length (slice_set ws b.local b.word) bs ∙ length_set ws b.local b.word

zeros_many : (n : ℕ) → length {A = ℕ} (replicate n 0) ≡ n
zeros_many zero = refl
zeros_many (suc n) = ap suc (zeros_many n)

words_many : (p : Code) (f : Frame) (h : Func) → slice_get p.funcs f.func ≡ Some h → length (words_of p f) ≡ length (local_kinds h)
words_many p f h is = put_length (replicate (width_at p f.func) 0) f.live ∙ zeros_many (width_at p f.func) ∙ ap (λ o. option_map_or (λ f. length (local_kinds f)) o 0) is

unlent_by : (p : Code) (h : Func) (s : states.State) (b : Bool) → LendsWhere p h s b → b ≡ false → NoneLent p.types h s
unlent_by p h s b w e x lent ready = let told = w.told (record { local = x; lent = lent; ready = ready }) in absurd cc

runs_stood : (l : Licensed) (cells : List Cell) (f : Frame) (os : List (Option Value)) → IsWellFormed l.code → IsWithinLimits l.code → (r : RunsThere l cells f os)
    → RepeatsNone (taken l.code.types cells (words_of l.code f) os) → IsStood l.code.types cells r.h (state_at (reads_of l.code) (is_owned l.code.types r.h) r.b (f.place - 1)) (words_of l.code f) os
runs_stood l cells f os well limits r once =
    let p = l.code in
    let fr = frame_back p f in
    let is : ready_at p f.func f.block (f.place - 1) ≡ state_at (reads_of p) (is_owned p.types r.h) r.b (f.place - 1) = in_block p fr r.h r.b r.func r.block in
    let at = here p f.func r.h f.block r.b well limits r.func r.block in
    let width = words_many p f r.h r.func in
    let inside = state_inside p r.h f.block r.b (f.place - 1) at.fits in
    stood p.types cells r.h (state_at (reads_of p) (is_owned p.types r.h) r.b (f.place - 1)) (words_of p f) os width (λ x k. omega (arith, inside x k, width))
    (subst (NoneLent p.types r.h) is (unlent_by p r.h (ready_at p f.func f.block (f.place - 1)) (lends_at p f.func f.block) (lending.runs p f.func f.block (f.place - 1) r.h well r.func) r.unlent))
    (subst (λ s. Found p.types cells r.h s 0 (words_of p f) os) is r.found) once

-- the state of a frame that waits
abbrev waits_in : (l : Licensed) (cells : List Cell) (f next : Frame) (os : List (Option Value)) → WaitsThere l cells f next os → states.State
waits_in l cells f next os w = states.after (is_owned l.code.types w.h) (state_at (reads_of l.code) (is_owned l.code.types w.h) w.b (f.place - 1)) (argument_events (reads_of l.code w.callee) w.args)

waits_stood : (l : Licensed) (cells : List Cell) (f next : Frame) (os : List (Option Value)) → IsWellFormed l.code → IsWithinLimits l.code → (w : WaitsThere l cells f next os)
    → RepeatsNone (taken l.code.types cells (words_of l.code f) os) → IsStood l.code.types cells w.h (waits_in l cells f next os w) (words_of l.code f) os
waits_stood l cells f next os well limits w once =
    let p = l.code in
    let fr = frame_back p f in
    let is : waits_at p f.func f.block (f.place - 1) ≡ waits_in l cells f next os w = at_call p fr w.h w.b (record { target = w.target; op = Call w.callee w.args }) w.func w.block w.call in
    let at = here p f.func w.h f.block w.b well limits w.func w.block in
    let width = words_many p f w.h w.func in
    let inside = after_inside (length (local_kinds w.h)) (is_owned p.types w.h) (state_at (reads_of p) (is_owned p.types w.h) w.b (f.place - 1)) (argument_events (reads_of p w.callee) w.args)
    (state_inside p w.h f.block w.b (f.place - 1) at.fits) (arguments_bind (length (local_kinds w.h)) (reads_of p w.callee) w.args) in
    stood p.types cells w.h (waits_in l cells f next os w) (words_of p f) os width (λ x k. omega (arith, inside x k, width))
    (subst (NoneLent p.types w.h) is (unlent_by p w.h (waits_at p f.func f.block (f.place - 1)) (lends_at p f.func f.block) (lending.waits p f.func f.block (f.place - 1) w.h well w.func) w.unlent))
    (subst (λ s. Found p.types cells w.h s 0 (words_of p f) os) is w.found) once

-- ---- frames that wait

cells_both : (hs ks : List Holding) → cells_held (hs ++ ks) ≡ cells_held hs ++ cells_held ks
cells_both [] ks = refl
cells_both (h ∷ hs) ks = ap (λ l. h.cells ++ l) (cells_both hs ks) ∙ sym (append_assoc h.cells (cells_held hs) (cells_held ks))

-- what waits below a frame of this function, how often each cell is held there, and what is asked for
record Waits (l : Licensed) (cells : List Cell) (k : Func) (next : ℕ) (frs : List Activation) (count : ℕ → ℕ) (asks : ℕ) : Type 0 where
  waits : WaitingFrames l.code cells k.result frs
  suffice : ResultsSuffice l.code (book_of l.cert) cells k.result next frs waits
  demand : waiting_demands l.code (book_of l.cert) cells k.result next frs waits ≡ asks
  holds : (frame at : ℕ) → times at (cells_held (waiting_holdings l.code cells k.result frs waits frame)) ≡ count at
  apart : (taken : ℕ → ℕ) → LoansApart l.code cells k.result frs waits taken

none_waits : (l : Licensed) (cells : List Cell) (k : Func) (next : ℕ) → Waits l cells k next [] (λ at. 0) 0
none_waits l cells k next = record { waits = tt; suffice = tt; demand = refl; holds = λ frame at. refl; apart = λ t. tt }

one_waits : (l : Licensed) (cells : List Cell) (f next : Frame) (os : List (Option Value)) (w : WaitsThere l cells f next os) (frs : List Activation) (count : ℕ → ℕ) (asks : ℕ)
    → IsStood l.code.types cells w.h (waits_in l cells f next os w) (words_of l.code f) os → Waits l cells w.h f.func frs count asks
    → Waits l cells w.k next.func (frame_back l.code f ∷ frs) (λ at. times at (taken l.code.types cells (words_of l.code f) os) + count at) (waiting_asks l cells f next os w + asks)
one_waits l cells f next os w frs count asks is acc = record {
  waits = (one, acc.waits);
  suffice = (w.suffices, acc.suffice);
  demand = omega (arith, acc.demand, is.carries (account_of l f w.b).carried);
  holds = λ frame at. omega (
    arith,
    ap (times at) (cells_both (holdings_of l.code.types cells w.h (waits_in l cells f next os w) (value_at os) (words_of l.code f) frame) (waiting_holdings l.code cells w.h.result frs acc.waits (suc frame))),
    times_append at (cells_held (holdings_of l.code.types cells w.h (waits_in l cells f next os w) (value_at os) (words_of l.code f) frame)) (cells_held (waiting_holdings l.code cells w.h.result frs acc.waits (suc frame))),
    ap (times at) (is.holdings frame),
    acc.holds (suc frame) at,
  );
  apart = λ t. (λ at some. absurd (omega (arith, some, is.loans at)), acc.apart _);
}
  where
    one : WaitingFrame l.code cells w.k.result (frame_back l.code f)
    one = record {
      f = w.h;
      b = w.b;
      env = value_at os;
      target = w.target;
      callee = w.callee;
      args = w.args;
      func = w.func;
      block = w.block;
      call = w.call;
      result_is = w.result;
      stands = is.stands;
    }

-- ---- all frames

-- these are the frame that runs and those that wait, with what they hold and ask for
record Gone (l : Licensed) (cells : List Cell) (all : List Activation) (count : ℕ → ℕ) (asks : ℕ) : Type 0 where
  fr : Activation
  frs : List Activation
  is : all ≡ fr ∷ frs
  running : RunningFrame l.code cells fr
  waits : WaitingFrames l.code cells running.f.result frs
  suffice : ResultsSuffice l.code (book_of l.cert) cells running.f.result fr.func frs waits
  demand : worth_at l.code (book_of l.cert) fr.func running.f fr.block running.b fr.place running.env + waiting_demands l.code (book_of l.cert) cells running.f.result fr.func frs waits ≡ asks
  holds : (at : ℕ) → times at (cells_held (running_holdings l.code cells fr running ++ waiting_holdings l.code cells running.f.result frs waits 1)) ≡ count at
  quiet : (at : ℕ) → times at (running_loans l.code cells fr running) ≡ 0
  apart : (taken : ℕ → ℕ) → LoansApart l.code cells running.f.result frs waits taken

runs_last : (l : Licensed) (cells : List Cell) (f : Frame) (os : List (Option Value)) (r : RunsThere l cells f os) (frs : List Activation) (count : ℕ → ℕ) (asks : ℕ)
    → IsStood l.code.types cells r.h (state_at (reads_of l.code) (is_owned l.code.types r.h) r.b (f.place - 1)) (words_of l.code f) os → Waits l cells r.h f.func frs count asks
    → Gone l cells (frame_back l.code f ∷ frs) (λ at. times at (taken l.code.types cells (words_of l.code f) os) + count at) (running_asks l cells f os r + asks)
runs_last l cells f os r frs count asks is acc = record {
  fr = frame_back l.code f;
  frs = frs;
  is = refl;
  running = record { f = r.h; b = r.b; env = value_at os; func = r.func; block = r.block; place = omega (arith, r.place); stands = is.stands };
  waits = acc.waits;
  suffice = acc.suffice;
  demand = omega (arith, acc.demand, is.carries (account_of l f r.b).carried);
  holds = λ at. omega (
    arith,
    ap (times at) (cells_both (holdings_of l.code.types cells r.h (state_at (reads_of l.code) (is_owned l.code.types r.h) r.b (f.place - 1)) (value_at os) (words_of l.code f) 0) (waiting_holdings l.code cells r.h.result frs acc.waits 1)),
    times_append at (cells_held (holdings_of l.code.types cells r.h (state_at (reads_of l.code) (is_owned l.code.types r.h) r.b (f.place - 1)) (value_at os) (words_of l.code f) 0)) (cells_held (waiting_holdings l.code cells r.h.result frs acc.waits 1)),
    ap (times at) (is.holdings 0),
    acc.holds 1 at,
  );
  quiet = is.loans;
  apart = acc.apart;
}

-- the same with counts that are equal, and of the same frames with as much asked for
recount : (l : Licensed) (cells : List Cell) (all new : List Activation) (c d : ℕ → ℕ) (a b : ℕ) → new ≡ all → ((at : ℕ) → c at ≡ d at) → a ≡ b → Gone l cells all c a → Gone l cells new d b
recount l cells all new c d a b e k m g = record {
  fr = g.fr;
  frs = g.frs;
  is = e ∙ g.is;
  running = g.running;
  waits = g.waits;
  suffice = g.suffice;
  demand = g.demand ∙ m;
  holds = λ at. g.holds at ∙ k at;
  quiet = g.quiet;
  apart = g.apart;
}

-- the function of the first of these frames, and its number
abbrev FirstIs : Licensed → List Frame → Func → Type 0
FirstIs l [] k = ⊥
FirstIs l (f ∷ fs) k = slice_get l.code.funcs f.func ≡ Some k

abbrev first_func : List Frame → ℕ
first_func [] = 0
first_func (f ∷ fs) = f.func

one_func : (o : Option Func) (k h : Func) → o ≡ Some k → o ≡ Some h → k ≡ h
one_func o k h a b = cc

gone : (l : Licensed) (cells : List Cell) → IsWellFormed l.code → IsWithinLimits l.code → (fs : List Frame) (oss : List (List (Option Value))) (h : FramesThere l cells fs oss)
    (k : Func) (frs : List Activation) (count : ℕ → ℕ) (asks : ℕ) → FirstIs l fs k → Waits l cells k (first_func fs) frs count asks
    → ((at : ℕ) → times at (all_taken l cells fs oss) + count at ≤ 1)
    → Gone l cells (reverse (map (frame_back l.code) fs) ++ frs) (λ at. times at (all_taken l cells fs oss) + count at) (all_asks l cells fs oss h + asks)
gone l cells well limits [] [] h k frs count asks is acc few = absurd h
gone l cells well limits [] (os ∷ oss) h k frs count asks is acc few = absurd h
gone l cells well limits (f ∷ fs) [] h k frs count asks is acc few = absurd h
gone l cells well limits (f ∷ []) (os ∷ []) r k frs count asks is acc few =
    let stands = runs_stood l cells f os well limits r (λ at. omega (arith, few at, times_append at (taken l.code.types cells (words_of l.code f) os) [])) in
    let same = one_func (slice_get l.code.funcs f.func) k r.h is r.func in
    let last = runs_last l cells f os r frs count asks stands (subst (λ k. Waits l cells k f.func frs count asks) same acc) in
    recount l cells (frame_back l.code f ∷ frs) (frame_back l.code f ∷ frs) (λ at. times at (taken l.code.types cells (words_of l.code f) os) + count at)
    (λ at. times at (all_taken l cells (f ∷ []) (os ∷ [])) + count at) (running_asks l cells f os r + asks) (running_asks l cells f os r + asks) refl
    (λ at. omega (arith, times_append at (taken l.code.types cells (words_of l.code f) os) [])) refl last
gone l cells well limits (f ∷ []) (os ∷ ps ∷ oss) h k frs count asks is acc few = absurd h
gone l cells well limits (f ∷ g ∷ fs) (os ∷ oss) h k frs count asks is acc few =
    let p = l.code in
    let own : List ℕ = taken p.types cells (words_of p f) os in
    let later : List ℕ = all_taken l cells (g ∷ fs) oss in
    let stands = waits_stood l cells f g os well limits h.0 (λ at. omega (arith, few at, times_append at own later)) in
    let same = one_func (slice_get p.funcs f.func) k h.0.h is h.0.func in
    let more = one_waits l cells f g os h.0 frs count asks stands (subst (λ k. Waits l cells k f.func frs count asks) same acc) in
    let rest = gone l cells well limits (g ∷ fs) oss h.1 h.0.k (frame_back p f ∷ frs) (λ at. times at own + count at) (waiting_asks l cells f g os h.0 + asks) h.0.above more
    (λ at. omega (arith, few at, times_append at own later)) in
    recount l cells (reverse (map (frame_back p) (g ∷ fs)) ++ frame_back p f ∷ frs) (reverse (map (frame_back p) (f ∷ g ∷ fs)) ++ frs)
    (λ at. times at later + (times at own + count at)) (λ at. times at (own ++ later) + count at)
    (all_asks l cells (g ∷ fs) oss h.1 + (waiting_asks l cells f g os h.0 + asks)) ((waiting_asks l cells f g os h.0 + all_asks l cells (g ∷ fs) oss h.1) + asks)
    (ap (λ a. a ++ frs) (reverse-append (frame_back p f ∷ []) (map (frame_back p) (g ∷ fs))) ∙ append_assoc (reverse (map (frame_back p) (g ∷ fs))) (frame_back p f ∷ []) frs)
    (λ at. omega (arith, times_append at own later)) (omega arith) rest

-- ---- the whole

first_there : (l : Licensed) (cells : List Cell) (fs : List Frame) (oss : List (List (Option Value))) → FramesThere l cells fs oss → (k : Func) × FirstIs l fs k
first_there l cells [] [] h = absurd h
first_there l cells [] (os ∷ oss) h = absurd h
first_there l cells (f ∷ fs) [] h = absurd h
first_there l cells (f ∷ []) (os ∷ []) h = (h.h, h.func)
first_there l cells (f ∷ []) (os ∷ ps ∷ oss) h = absurd h
first_there l cells (f ∷ g ∷ fs) (os ∷ oss) h = (h.0.h, h.0.func)

some_there : (l : Licensed) (cells : List Cell) (fs : List Frame) (oss : List (List (Option Value))) → FramesThere l cells fs oss → 1 ≤ length fs
some_there l cells [] [] h = absurd h
some_there l cells [] (os ∷ oss) h = absurd h
some_there l cells (f ∷ fs) oss h = omega arith

locals_there : (l : Licensed) (cells : List Cell) (fs : List Frame) (oss : List (List (Option Value))) → FramesThere l cells fs oss → AllByRecursion (HasItsLocals l.code) fs
locals_there l cells [] [] h = absurd h
locals_there l cells [] (os ∷ oss) h = absurd h
locals_there l cells (f ∷ fs) [] h = absurd h
locals_there l cells (f ∷ []) (os ∷ []) h = (h.locals, tt)
locals_there l cells (f ∷ []) (os ∷ ps ∷ oss) h = absurd h
locals_there l cells (f ∷ g ∷ fs) (os ∷ oss) h = (h.0.locals, locals_there l cells (g ∷ fs) oss h.1)

many_turned : (p : Code) (fs : List Frame) → length (reverse (map (frame_back p) fs)) ≡ length fs
many_turned p fs = length-reverse (map (frame_back p) fs) ∙ many fs
  where
    many : (fs : List Frame) → length (map (frame_back p) fs) ≡ length fs
    many [] = refl
    many (f ∷ fs) = ap suc (many fs)

-- a fit state, whose net and free cells are at most so many
abbrev FitsIn : Licensed → (size : ℕ) → Configuration → Type 0
FitsIn l size c = (f : IsFit l.code (book_of l.cert) most_calls c) × (length f.sound.free + c.peak ≤ size + c.low)

pub judged_goes_on : (l : Licensed) (s : Saved) (size : ℕ) → IsLicensed l → IsJudged l s size → CanGoOn l s size
judged_goes_on l s size kept j =
    let first = first_there l s.cells s.frames j.values j.frames in
    let g = gone l s.cells kept.well kept.limits s.frames j.values j.frames first.0 [] (λ at. 0) 0 first.1 (none_waits l s.cells first.0 (first_func s.frames))
    (λ at. omega (arith, j.once at, times_append at (all_taken l s.cells s.frames j.values) j.free)) in
    let whole : frames_back l.code s.frames ≡ g.fr ∷ g.frs = sym (append-nil (frames_back l.code s.frames)) ∙ g.is in
    let c : Configuration = record {
      cells = s.cells;
      head = s.free;
      frame = g.fr;
      waiting = g.frs;
      fuel = s.fuel;
      calls = s.calls;
      peak = highest s.net s.peak;
      low = below s.net (highest s.net s.peak);
    } in
    let same : c ≡ configuration_of l.code s = λ i. record {
      cells = s.cells;
      head = s.free;
      frame = sym (ap youngest whole) i;
      waiting = sym (ap others whole) i;
      fuel = s.fuel;
      calls = s.calls;
      peak = highest s.net s.peak;
      low = below s.net (highest s.net s.peak);
    } in
    let held : List ℕ = cells_held (running_holdings l.code s.cells g.fr g.running ++ waiting_holdings l.code s.cells g.running.f.result g.frs g.waits 1) in
    let sound : IsSound l.code c = record {
      few_cells = omega (arith, j.cells, j.few_cells);
      running = g.running;
      waiting = g.waits;
      free = j.free;
      list = j.list;
      once = λ at. omega (arith, times_append at held j.free, g.holds at, j.once at, times_append at (all_taken l s.cells s.frames j.values) j.free);
      loans = λ at some. absurd (omega (arith, some, g.quiet at));
      lent = g.apart _;
    } in
    let asked : demands l.code (book_of l.cert) c sound ≡ all_asks l s.cells s.frames j.values j.frames = omega (arith, g.demand) in
    let fit : FitsIn l size c = (
      record {
        sound = sound;
        balanced = record { results = g.suffice; enough = subst (λ n. n / (book_of l.cert).unit ≤ length j.free) (sym asked) j.enough };
        counted = j.counted;
        few = omega (arith, j.few_frames, ap length whole, many_turned l.code s.frames);
      },
      j.within,
    ) in
    let again : FitsIn l size (configuration_of l.code s) = subst (FitsIn l size) same fit in
    record {
      cells = j.cells;
      some = some_there l s.cells s.frames j.values j.frames;
      locals = locals_there l s.cells s.frames j.values j.frames;
      fit = again.0;
      peak = j.peak;
      steps = j.steps;
      within = again.1;
    }
