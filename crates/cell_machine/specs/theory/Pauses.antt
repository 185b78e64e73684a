-- Laws, for the proofs of this crate.
-- A state without its dead words is as fit as the state, and goes on as it does.
use Rattle.std.proofs.Common.{◌≡◌, ℕ, zero, suc, ◌+◌, Bool, true, false, List, [], ◌∷◌, ◌++◌, map, length, Option, Some, None, refl, sym, ap, ◌∙◌, subst, arith}
use Rattle.std.specs.Prelude.{◌+◌, if◌then◌else◌, slice_get, flat_map}
use Rattle.std.specs.List.{range_with_len}
use Rattle.std.proofs.Math.Path.{fun_ext}
use Rattle.cell_span.specs.declared.cell.Cell.{Cell}
use Rattle.camelot_values.specs.Value.{Value}
use Rattle.camelot_values.specs.Kinds.{DataType}
use Rattle.camelot_values.specs.declared.kinds.Kind.{Kind}
use Rattle.grail_blocks.specs.States as states
use Rattle.grail_blocks.specs.States.{Status, Unbound, Ready, Spent, state_at}
use Rattle.grail_code.specs.Code.{Call, Func, Code}
use Rattle.grail_code.specs.WellFormed.{local_kinds, is_lent, is_owned, reads_of}
use Rattle.grail_code.specs.Meaning.{Locals}
use Rattle.grail_code.specs.Limits.{IsWithinLimits}
use Rattle.licence.specs.Books.{Book}
use Rattle.cell_machine.specs.State.{Activation, Configuration, Machine, Running, Over}
use Rattle.cell_machine.specs.Stands.{times, RepeatsNone}
use Rattle.cell_machine.specs.Sound.{LocalStands, held, owning, lending, Holding, holdings_of, owned_by, loans_of, FrameStands, RunningFrame, WaitingFrames, running_holdings, waiting_holdings, cells_held, waiting_state, LoansApart, running_owned, IsSound}
use Rattle.cell_machine.specs.Steps.{step}
use Rattle.cell_machine.specs.Loading.{go_on, steps}
use Rattle.cell_machine.specs.Dead.{ready_running, ready_waiting, live_word, live_words, with_words, with_frames, live_frame, live, live_machine, live_next}
use Rattle.cell_machine.specs.Counted.{IsFit, StaysFit, MachineFits}
use Rattle.cell_machine.specs.Slices.{in_slices, whole}
use Rattle.cell_machine.specs.Annotated.{IsAnnotated}
use Rattle.cell_machine.specs.Plain.{Plain, plain_of, plain_all, plain_demands, PlainSuffice, OnBudget}
use Rattle.cell_machine.specs.theory.Holdings.{loans_fewer}
use Rattle.cell_machine.specs.theory.WholeRuns.{steps_more}
use Rattle.cell_machine.specs.theory.Living.{SameLive, in_block, at_call, live_same, step_live}
use Rattle.cell_machine.specs.theory.Balanced.{on_budget, from_budget, balanced_step}

-- ---- one frame

held_same : (types : List DataType) (cells : List Cell) (s : Status) (o : Option Value) (u w : Option ℕ) → (s ≡ Ready → u ≡ w) → held types cells s o u ≡ held types cells s o w
held_same types cells Ready o u w h = ap (held types cells Ready o) (h refl)
held_same types cells Unbound o u w h = refl
held_same types cells Spent o u w h = refl

owning_ready : (l : Bool) (s : Status) → (if l then Spent else s) ≡ Ready → s ≡ Ready
owning_ready true s e = absurd cc
owning_ready false s e = e

lending_ready : (l : Bool) (s : Status) → (if l then s else Spent) ≡ Ready → s ≡ Ready
lending_ready true s e = e
lending_ready false s e = absurd cc

-- what a frame owns, and what is lent to it, local by local
owned_same : (types : List DataType) (cells : List Cell) (f : Func) (s : states.State) (env : Locals) (ws us : List ℕ) → SameLive s ws us
    → ◌≡◌ {A = ℕ → List ℕ} (λ x. held types cells (owning types f s x) (env x) (slice_get us x)) (λ x. held types cells (owning types f s x) (env x) (slice_get ws x))
owned_same types cells f s env ws us a = fun_ext (λ x. held_same types cells (owning types f s x) (env x) (slice_get us x) (slice_get ws x) (λ e. a.same x (owning_ready (is_lent types f x) (s x) e)))

lent_same : (types : List DataType) (cells : List Cell) (f : Func) (s : states.State) (env : Locals) (ws us : List ℕ) → SameLive s ws us
    → ◌≡◌ {A = ℕ → List ℕ} (λ x. held types cells (lending types f s x) (env x) (slice_get us x)) (λ x. held types cells (lending types f s x) (env x) (slice_get ws x))
lent_same types cells f s env ws us a = fun_ext (λ x. held_same types cells (lending types f s x) (env x) (slice_get us x) (slice_get ws x) (λ e. a.same x (lending_ready (is_lent types f x) (s x) e)))

record SameHoldings (types : List DataType) (cells : List Cell) (f : Func) (s : states.State) (env : Locals) (ws us : List ℕ) : Type 0 where
  stands : FrameStands types cells f s env us
  holdings : (frame : ℕ) → holdings_of types cells f s env us frame ≡ holdings_of types cells f s env ws frame
  owned : owned_by types cells f s env us ≡ owned_by types cells f s env ws
  loans : loans_of types cells f s env us ≡ loans_of types cells f s env ws

frame_same : (types : List DataType) (cells : List Cell) (f : Func) (s : states.State) (env : Locals) (ws us : List ℕ) → FrameStands types cells f s env ws → SameLive s ws us
    → SameHoldings types cells f s env ws us
frame_same types cells f s env ws us m a = record {
  stands = record {
    fits = m.fits;
    width = a.many ∙ m.width;
    stands = λ x r. subst (LocalStands types cells (env x)) (sym (a.same x r)) (m.stands x r);
    each = λ x at. omega (arith, m.each x at, ap (times at) (held_same types cells (s x) (env x) (slice_get us x) (slice_get ws x) (a.same x)));
  };
  holdings = λ frame. ap (λ g. map (λ x. make frame x (g x)) (range_with_len 0 (length (local_kinds f)))) (owned_same types cells f s env ws us a);
  owned = ap (λ g. flat_map g (range_with_len 0 (length (local_kinds f)))) (owned_same types cells f s env ws us a);
  loans = ap (λ g. flat_map g (range_with_len 0 (length (local_kinds f)))) (lent_same types cells f s env ws us a);
}
  where
    make : ℕ → ℕ → List ℕ → Holding
    make frame x cells = record { frame = frame; local = x; cells = cells }

-- ---- frames that wait

-- without its dead words
abbrev pub shed : Code → Activation → Activation
shed p fr = live_frame (ready_waiting p fr) fr

record SameWait (p : Code) (cells : List Cell) (result : Kind) (frs : List Activation) (r : WaitingFrames p cells result frs) : Type 0 where
  now : WaitingFrames p cells result (map (shed p) frs)
  holdings : (frame : ℕ) → waiting_holdings p cells result (map (shed p) frs) now frame ≡ waiting_holdings p cells result frs r frame
  lent : (taken : ℕ → ℕ) → LoansApart p cells result frs r taken → LoansApart p cells result (map (shed p) frs) now taken
  same : plain_all p cells result (map (shed p) frs) now ≡ plain_all p cells result frs r

waits_same : (p : Code) (cells : List Cell) (result : Kind) (frs : List Activation) (r : WaitingFrames p cells result frs) → SameWait p cells result frs r
waits_same p cells result [] r = record { now = tt; holdings = λ frame. refl; lent = λ taken h. tt; same = refl }
waits_same p cells result (fr ∷ frs) r =
    let state_is : ready_waiting p fr ≡ waiting_state p cells result fr r.0 = at_call p fr r.0.f r.0.b (record { target = r.0.target; op = Call r.0.callee r.0.args }) r.0.func r.0.block r.0.call in
    let agree = subst (λ s. SameLive s fr.words (live_words (ready_waiting p fr) 0 fr.words)) state_is (live_same (ready_waiting p fr) fr.words) in
    let one = frame_same p.types cells r.0.f (waiting_state p cells result fr r.0) r.0.env fr.words (live_words (ready_waiting p fr) 0 fr.words) r.0.stands agree in
    let others = waits_same p cells r.0.f.result frs r.1 in
    record {
      now = (record { f = r.0.f; b = r.0.b; env = r.0.env; target = r.0.target; callee = r.0.callee; args = r.0.args; func = r.0.func; block = r.0.block; call = r.0.call; result_is = r.0.result_is; stands = one.stands }, others.now);
      holdings = λ frame. ap (λ l. l ++ waiting_holdings p cells r.0.f.result (map (shed p) frs) others.now (suc frame)) (one.holdings frame)
          ∙ ap (λ l. holdings_of p.types cells r.0.f (waiting_state p cells result fr r.0) r.0.env fr.words frame ++ l) (others.holdings (suc frame));
      lent = λ taken h. (
        λ at some. omega (arith, h.0 at (omega (arith, some, ap (times at) one.loans)), ap (times at) one.owned),
        others.lent (λ at. taken at + times at (owned_by p.types cells r.0.f (waiting_state p cells result fr r.0) r.0.env (live_words (ready_waiting p fr) 0 fr.words)))
            (loans_fewer p cells r.0.f.result frs r.1 (λ at. taken at + times at (owned_by p.types cells r.0.f (waiting_state p cells result fr r.0) r.0.env fr.words))
            (λ at. taken at + times at (owned_by p.types cells r.0.f (waiting_state p cells result fr r.0) r.0.env (live_words (ready_waiting p fr) 0 fr.words))) (λ at. omega (arith, ap (times at) one.owned)) h.1),
      );
      same = ap (λ ws. plain_of p cells result fr r.0 ∷ ws) others.same;
    }

demands_same : (p : Code) (book : Book ℕ) (next : ℕ) (frs : List Activation) (ws : List Plain) → plain_demands p book next (map (shed p) frs) ws ≡ plain_demands p book next frs ws
demands_same p book next [] ws = refl
demands_same p book next (fr ∷ frs) [] = refl
demands_same p book next (fr ∷ frs) (w ∷ ws) = omega (arith, demands_same p book fr.func frs ws)

suffice_same : (p : Code) (book : Book ℕ) (result : Kind) (next : ℕ) (frs : List Activation) (ws : List Plain) → PlainSuffice p book result next frs ws → PlainSuffice p book result next (map (shed p) frs) ws
suffice_same p book result next [] ws h = tt
suffice_same p book result next (fr ∷ frs) [] h = tt
suffice_same p book result next (fr ∷ frs) (w ∷ ws) h = (h.0, suffice_same p book w.f.result fr.func frs ws h.1)

many_same : (p : Code) (frs : List Activation) → length (map (shed p) frs) ≡ length frs
many_same p [] = refl
many_same p (fr ∷ frs) = ap suc (many_same p frs)

-- ---- a whole state

-- A state without its dead words is sound.
pub live_sound : (p : Code) (s : Configuration) → IsSound p s → IsSound p (live p s)
live_sound p s r = record {
  few_cells = r.few_cells;
  running = running;
  waiting = others.now;
  free = r.free;
  list = r.list;
  once = subst (λ hs. RepeatsNone (cells_held hs ++ r.free)) (sym holdings) r.once;
  loans = λ at some. omega (arith, r.loans at (omega (arith, some, ap (times at) one.loans)), ap (times at) one.owned);
  lent = others.lent (λ at. times at (running_owned p s.cells (live p s).frame running) + times at r.free)
      (loans_fewer p s.cells r.running.f.result s.waiting r.waiting (λ at. times at (running_owned p s.cells s.frame r.running) + times at r.free)
      (λ at. times at (running_owned p s.cells (live p s).frame running) + times at r.free) (λ at. omega (arith, ap (times at) one.owned)) r.lent);
}
  where
    state_is : ready_running p s.frame ≡ state_at (reads_of p) (is_owned p.types r.running.f) r.running.b s.frame.place
    state_is = in_block p s.frame r.running.f r.running.b r.running.func r.running.block

    agree : SameLive (state_at (reads_of p) (is_owned p.types r.running.f) r.running.b s.frame.place) s.frame.words (live_words (ready_running p s.frame) 0 s.frame.words)
    agree = subst (λ t. SameLive t s.frame.words (live_words (ready_running p s.frame) 0 s.frame.words)) state_is (live_same (ready_running p s.frame) s.frame.words)

    one : SameHoldings p.types s.cells r.running.f (state_at (reads_of p) (is_owned p.types r.running.f) r.running.b s.frame.place) r.running.env s.frame.words (live_words (ready_running p s.frame) 0 s.frame.words)
    one = frame_same p.types s.cells r.running.f (state_at (reads_of p) (is_owned p.types r.running.f) r.running.b s.frame.place) r.running.env s.frame.words (live_words (ready_running p s.frame) 0 s.frame.words) r.running.stands agree

    running : RunningFrame p s.cells (live p s).frame
    running = record { f = r.running.f; b = r.running.b; env = r.running.env; func = r.running.func; block = r.running.block; place = r.running.place; stands = one.stands }

    others : SameWait p s.cells r.running.f.result s.waiting r.waiting
    others = waits_same p s.cells r.running.f.result s.waiting r.waiting

    holdings : running_holdings p s.cells (live p s).frame running ++ waiting_holdings p s.cells r.running.f.result (map (shed p) s.waiting) others.now 1
        ≡ running_holdings p s.cells s.frame r.running ++ waiting_holdings p s.cells r.running.f.result s.waiting r.waiting 1
    holdings = ap (λ l. l ++ waiting_holdings p s.cells r.running.f.result (map (shed p) s.waiting) others.now 1) (one.holdings 0)
        ∙ ap (λ l. running_holdings p s.cells s.frame r.running ++ l) (others.holdings 1)

-- A fit state is fit without its dead words: what a pause writes is never refused.
pub live_fit : (p : Code) (book : Book ℕ) → IsAnnotated p book → (limit : ℕ) (s : Configuration) → IsFit p book limit s → IsFit p book limit (live p s)
unfolding live_sound waits_same
live_fit p book good limit s fit = record {
  sound = live_sound p s fit.sound;
  balanced = from_budget p book good (live p s) (live_sound p s fit.sound) (
    subst (λ ws. PlainSuffice p book fit.sound.running.f.result s.frame.func (map (shed p) s.waiting) ws) (sym others.same) (suffice_same p book fit.sound.running.f.result s.frame.func s.waiting known b.0),
    omega (arith, b.1, ap (plain_demands p book s.frame.func (map (shed p) s.waiting)) others.same, demands_same p book s.frame.func s.waiting known),
  );
  counted = fit.counted;
  few = omega (arith, fit.few, many_same p s.waiting);
}
  where
    known : List Plain
    known = plain_all p s.cells fit.sound.running.f.result s.waiting fit.sound.waiting

    b : OnBudget p (Some book) s fit.sound
    b = on_budget p book good s fit.sound fit.balanced

    others : SameWait p s.cells fit.sound.running.f.result s.waiting fit.sound.waiting
    others = waits_same p s.cells fit.sound.running.f.result s.waiting fit.sound.waiting

-- ---- many steps

next_fits : (p : Code) (book : Book ℕ) (limit room : ℕ) (s : Configuration) (m : Machine) → StaysFit p book limit room s (Some m) → MachineFits p book limit m
next_fits p book limit room s (Running t) h = h.fit
next_fits p book limit room s (Over f) h = tt

-- Two fit machines that agree without their dead words agree so after as many steps: at each, and at the end with its
-- cells.
pub steps_agree : (p : Code) (book : Book ℕ) → IsAnnotated p book → IsWithinLimits p → (limit n : ℕ) (a b : Machine) → MachineFits p book limit a → MachineFits p book limit b
    → live_machine p a ≡ live_machine p b → live_machine p (steps p limit n a) ≡ live_machine p (steps p limit n b)
steps_agree p book good limits limit zero a b fa fb e = e
steps_agree p book good limits limit (suc n) (Over f) (Over g) fa fb e = steps_agree p book good limits limit n (Over f) (Over g) fa fb e
steps_agree p book good limits limit (suc n) (Over f) (Running t) fa fb e = absurd cc
steps_agree p book good limits limit (suc n) (Running s) (Over g) fa fb e = absurd cc
steps_agree p book good limits limit (suc n) (Running s) (Running t) fa fb e =
    let same : live p s ≡ live p t = cc in
    by_steps (step p limit s) (step p limit t) _ _ (balanced_step p book good limits limit s fa) (balanced_step p book good limits limit t fb)
    (sym (step_live p limit s good.well limits fa.sound) ∙ ap (λ x. live_next p (step p limit x)) same ∙ step_live p limit t good.well limits fb.sound)
    (λ a b fa fb e. steps_agree p book good limits limit n a b fa fb e)
  where
    some_is : (x y : Machine) → ◌≡◌ {A = Option Machine} (Some x) (Some y) → x ≡ y
    some_is x y k = cc

    by_steps : (o k : Option Machine) (room room' : ℕ) → StaysFit p book limit room s o → StaysFit p book limit room' t k → live_next p o ≡ live_next p k
        → ((a b : Machine) → MachineFits p book limit a → MachineFits p book limit b → live_machine p a ≡ live_machine p b → live_machine p (steps p limit n a) ≡ live_machine p (steps p limit n b))
        → live_machine p (steps p limit n (go_on (Running s) o)) ≡ live_machine p (steps p limit n (go_on (Running t) k))
    by_steps None k room room' h g e go = absurd h
    by_steps (Some x) None room room' h g e go = absurd g
    by_steps (Some x) (Some y) room room' h g e go = go x y (next_fits p book limit room s x h) (next_fits p book limit room' t y g) (some_is (live_machine p x) (live_machine p y) e)

word_twice : (t : Status) (w : ℕ) → live_word t (live_word t w) ≡ live_word t w
word_twice Ready w = refl
word_twice Unbound w = refl
word_twice Spent w = refl

words_twice : (s : states.State) (n : ℕ) (ws : List ℕ) → live_words s n (live_words s n ws) ≡ live_words s n ws
words_twice s n [] = refl
words_twice s n (w ∷ ws) = ap (λ u. u ∷ live_words s (suc n) (live_words s (suc n) ws)) (word_twice (s n) w) ∙ ap (λ us. live_word (s n) w ∷ us) (words_twice s (suc n) ws)

shed_twice : (p : Code) (frs : List Activation) → map (shed p) (map (shed p) frs) ≡ map (shed p) frs
shed_twice p [] = refl
shed_twice p (fr ∷ frs) = ap (λ ws. with_words fr ws ∷ map (shed p) (map (shed p) frs)) (words_twice (ready_waiting p fr) 0 fr.words) ∙ ap (λ gs. shed p fr ∷ gs) (shed_twice p frs)

-- A state without its dead words has none.
pub live_twice : (p : Code) (s : Configuration) → live p (live p s) ≡ live p s
live_twice p s = ap (λ ws. with_frames s ws (map (shed p) (map (shed p) s.waiting))) (words_twice (ready_running p s.frame) 0 s.frame.words)
    ∙ ap (λ frs. with_frames s (live_words (ready_running p s.frame) 0 s.frame.words) frs) (shed_twice p s.waiting)

-- So a machine that goes on from what a pause kept comes after as many steps to what the paused one comes to: to the
-- same state but for dead words, or to the same end with the same cells. The first index of its range is no part of it.
pub paused_goes_on : (p : Code) (book : Book ℕ) → IsAnnotated p book → IsWithinLimits p → (limit n : ℕ) (s : Configuration) → IsFit p book limit s
    → live_machine p (steps p limit n (Running (live p s))) ≡ live_machine p (steps p limit n (Running s))
paused_goes_on p book good limits limit n s fit = steps_agree p book good limits limit n (Running (live p s)) (Running s) (live_fit p book good limit s fit) fit (ap Running (live_twice p s))

-- ---- slices

stays_fit : (p : Code) (book : Book ℕ) → IsAnnotated p book → IsWithinLimits p → (limit n : ℕ) (m : Machine) → MachineFits p book limit m → MachineFits p book limit (steps p limit n m)
stays_fit p book good limits limit zero m fit = fit
stays_fit p book good limits limit (suc n) (Over f) fit = stays_fit p book good limits limit n (Over f) fit
stays_fit p book good limits limit (suc n) (Running s) fit =
    stays_fit p book good limits limit n (go_on (Running s) (step p limit s)) (by_step (step p limit s) _ (balanced_step p book good limits limit s fit))
  where
    by_step : (o : Option Machine) (room : ℕ) → StaysFit p book limit room s o → MachineFits p book limit (go_on (Running s) o)
    by_step None room h = absurd h
    by_step (Some m) room h = next_fits p book limit room s m h

machine_live_fit : (p : Code) (book : Book ℕ) → IsAnnotated p book → (limit : ℕ) (m : Machine) → MachineFits p book limit m → MachineFits p book limit (live_machine p m)
machine_live_fit p book good limit (Running s) fit = live_fit p book good limit s fit
machine_live_fit p book good limit (Over f) fit = tt

machine_twice : (p : Code) (m : Machine) → live_machine p (live_machine p m) ≡ live_machine p m
machine_twice p (Running s) = ap Running (live_twice p s)
machine_twice p (Over f) = refl

-- A run in slices of so many steps, with a pause behind each, comes to what the run comes to that isn't paused.
pub slices_compose : (p : Code) (book : Book ℕ) → IsAnnotated p book → IsWithinLimits p → (limit : ℕ) (slices : List ℕ) (m : Machine) → MachineFits p book limit m
    → live_machine p (in_slices p limit slices m) ≡ live_machine p (steps p limit (whole slices) m)
slices_compose p book good limits limit [] m fit = refl
slices_compose p book good limits limit (k ∷ ks) m fit =
    slices_compose p book good limits limit ks (live_machine p (steps p limit k m)) (machine_live_fit p book good limit (steps p limit k m) (stays_fit p book good limits limit k m fit))
    ∙ steps_agree p book good limits limit (whole ks) (live_machine p (steps p limit k m)) (steps p limit k m)
    (machine_live_fit p book good limit (steps p limit k m) (stays_fit p book good limits limit k m fit)) (stays_fit p book good limits limit k m fit) (machine_twice p (steps p limit k m))
    ∙ ap (live_machine p) (sym (steps_more p limit k (whole ks) m))
