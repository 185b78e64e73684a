-- Laws, for the proofs of this crate and of those above it.
-- Stepping on while a frame lends: the oldest one that lends goes on lending until it runs and leaves its block, and no
-- frame below it comes to lend.
use Rattle.std.proofs.Common.{◌≡◌, ℕ, suc, ◌+◌, ◌<◌, ◌≤◌, Bool, true, false, List, [], ◌∷◌, ◌++◌, length, Option, Some, None, refl, sym, ap, ◌∙◌, subst, arith, inl, inr, length-append}
use Rattle.std.specs.Prelude.{◌-◌, ◌⊎◌, ◌||◌, nat_lt, if◌then◌else◌, reverse, MatchOption, is_some}
use Rattle.std.proofs.lemmas.Bool.Decides.{nat_tests}
use Rattle.std.specs.List.{AllByRecursion, list_any}
use Rattle.std.proofs.lemmas.List.{reverse-append, reverse-reverse, length-reverse}
use Rattle.frame_locals.specs.Lending.{lends_at}
use Rattle.grail_code.specs.Code.{Code}
use Rattle.cell_machine.specs.Saving.{lender_from, oldest_first}
use Rattle.camelot_values.specs.Value.{Value}
use Rattle.camelot_values.specs.Outcome.{Outcome}
use Rattle.grail_code.specs.Limits.{IsWithinLimits}
use Rattle.grail_code.specs.WellFormed.{IsWellFormed}
use Rattle.cell_machine.specs.Coming.{IsOnCourse, steps_left}
use Rattle.cell_machine.specs.Loading.{go_on, steps}
use Rattle.cell_machine.specs.MachineLaws.{steps_more}
use Rattle.cell_machine.specs.Running.{IsRunning, IsEnding}
use Rattle.cell_machine.specs.State.{Activation, Configuration, Running, Over, most_calls}
use Rattle.cell_machine.specs.Steps.{step}
use Rattle.cell_machine.specs.Views.{MachineView}
use Rattle.cell_machine.specs.declared.machine.Ending.{Ending}
use Rattle.cell_machine.specs.theory.Stepping.{goes_on, goes_further}
use Rattle.pause_image.specs.KeptLaws.{all_turned}
use Rattle.pause_image.specs.MoveLaws.{Moves, step_moves}
use Rattle.pause_image.specs.Slicing.{frame_lends, state_lends, LendsAfter, IsSliced, IsOverIn}

-- ---- frames from a place on

-- none of these frames lends
abbrev pub Quiet : Code → List Activation → Type 0
Quiet p frs = AllByRecursion (λ fr. frame_lends p fr ≡ false) frs

-- the last of these frames lends, if there is one
abbrev pub LastLends : Code → List Activation → Type 0
LastLends p [] = Unit {0}
LastLends p (fr ∷ []) = frame_lends p fr ≡ true
LastLends p (fr ∷ g ∷ frs) = LastLends p (g ∷ frs)

-- So many frames are below the oldest one that lends, and they don't. It waits, or it is the one that runs.
pub record Lender (p : Code) (s : Configuration) (n : ℕ) : Type 0 where
  pub tops : List Activation
  pub olds : List Activation
  pub is : s.waiting ≡ tops ++ olds
  pub many : length olds ≡ n
  pub quiet : Quiet p olds
  pub last : LastLends p tops

quiet_any : (p : Code) (frs : List Activation) → Quiet p frs → list_any (frame_lends p) frs ≡ false
quiet_any p [] h = refl
quiet_any p (fr ∷ frs) h = ap (λ b. b || list_any (frame_lends p) frs) h.0 ∙ quiet_any p frs h.1

any_last : (p : Code) (fr : Activation) (frs olds : List Activation) → LastLends p (fr ∷ frs) → list_any (frame_lends p) ((fr ∷ frs) ++ olds) ≡ true
any_last p fr [] olds h = ap (λ b. b || list_any (frame_lends p) olds) h
any_last p fr (g ∷ frs) olds h = ap (λ b. frame_lends p fr || b) (any_last p g frs olds h) ∙ or_true (frame_lends p fr)
  where
    or_true : (b : Bool) → (b || true) ≡ true
    or_true true = refl
    or_true false = refl

or_right : (b : Bool) → (b || true) ≡ true
or_right true = refl
or_right false = refl

-- above the lender something lends
pub lends_above : (p : Code) (s : Configuration) (n : ℕ) → Lender p s n → n < length s.waiting → state_lends p s ≡ true
lends_above p s n l more = by_tops l.tops l.is l.last
  where
    by_tops : (tops : List Activation) → s.waiting ≡ tops ++ l.olds → LastLends p tops → state_lends p s ≡ true
    by_tops [] e h = absurd (omega (arith, ap length e, l.many, more))
    by_tops (fr ∷ tops) e h = ap (λ frs. frame_lends p s.frame || list_any (frame_lends p) frs) e ∙ ap (λ b. frame_lends p s.frame || b) (any_last p fr tops l.olds h) ∙ or_right (frame_lends p s.frame)

pub lends_running : (p : Code) (s : Configuration) → frame_lends p s.frame ≡ true → state_lends p s ≡ true
lends_running p s e = ap (λ b. b || list_any (frame_lends p) s.waiting) e

-- where the lender runs and doesn't lend, nothing does
pub unlent_at : (p : Code) (s : Configuration) (n : ℕ) → Lender p s n → n ≡ length s.waiting → frame_lends p s.frame ≡ false → state_lends p s ≡ false
unlent_at p s n l same e = by_tops l.tops l.is
  where
    by_tops : (tops : List Activation) → s.waiting ≡ tops ++ l.olds → state_lends p s ≡ false
    by_tops [] k = ap (λ b. b || list_any (frame_lends p) s.waiting) e ∙ ap (list_any (frame_lends p)) k ∙ quiet_any p l.olds l.quiet
    by_tops (fr ∷ tops) k = absurd (omega (arith, ap length k, l.many, same, length-append tops l.olds))

-- ---- a step

abbrev tail_of : List Activation → List Activation
tail_of [] = []
tail_of (fr ∷ frs) = frs

abbrev head_or : Activation → List Activation → Activation
head_or other [] = other
head_or other (fr ∷ frs) = fr

-- behind a step from a state that lends: there is such a lender again; or its frame is gone, and nothing lends
pub lender_moves : (p : Code) (s t : Configuration) (n : ℕ) → Lender p s n → (length s.waiting ≡ n → frame_lends p s.frame ≡ true) → Moves s (Some (Running t))
    → Lender p t n ⊎ ((length t.waiting < n) × (state_lends p t ≡ false))
lender_moves p s t n l runs (inl same) = inl (record { tops = l.tops; olds = l.olds; is = same ∙ l.is; many = l.many; quiet = l.quiet; last = l.last })
lender_moves p s t n l runs (inr (inl pushed)) = inl (record {
  tops = s.frame ∷ l.tops;
  olds = l.olds;
  is = pushed ∙ ap (λ frs. s.frame ∷ frs) l.is;
  many = l.many;
  quiet = l.quiet;
  last = by_tops l.tops l.is l.last;
})
  where
    by_tops : (tops : List Activation) → s.waiting ≡ tops ++ l.olds → LastLends p tops → LastLends p (s.frame ∷ tops)
    by_tops [] e h = runs (ap length e ∙ l.many)
    by_tops (fr ∷ tops) e h = h
lender_moves p s t n l runs (inr (inr popped)) = by_tops l.tops l.olds l.is l.many l.quiet l.last
  where
    by_tops : (tops olds : List Activation) → s.waiting ≡ tops ++ olds → length olds ≡ n → Quiet p olds → LastLends p tops → Lender p t n ⊎ ((length t.waiting < n) × (state_lends p t ≡ false))
    by_tops [] [] e m q h = absurd (no_frame (sym popped.was ∙ e))
      where
        no_frame : (popped.fr ∷ t.waiting) ≡ [] → ⊥
        no_frame k = absurd (omega (arith, ap length k))
    by_tops [] (o ∷ olds) e m q h =
        let both : (popped.fr ∷ t.waiting) ≡ o ∷ olds = sym popped.was ∙ e in
        let rest : t.waiting ≡ olds = ap tail_of both in
        let first : popped.fr ≡ o = ap (head_or o) both in
        inr (
          omega (arith, ap length rest, m),
          ap (λ b. b || list_any (frame_lends p) t.waiting) (ap (λ n. lends_at p n t.frame.block) popped.func ∙ ap (lends_at p popped.fr.func) popped.block ∙ ap (frame_lends p) first ∙ q.0)
              ∙ ap (list_any (frame_lends p)) rest ∙ quiet_any p olds q.1,
        )
    by_tops (fr ∷ tops) olds e m q h =
        let both : (popped.fr ∷ t.waiting) ≡ fr ∷ (tops ++ olds) = sym popped.was ∙ e in
        inl (record { tops = tops; olds = olds; is = ap tail_of both; many = m; quiet = q; last = shorter fr tops h })
      where
        shorter : (fr : Activation) (tops : List Activation) → LastLends p (fr ∷ tops) → LastLends p tops
        shorter fr [] h = tt
        shorter fr (g ∷ tops) h = h

-- ---- the oldest frame that lends

last_lends : (p : Code) (frs : List Activation) (fr : Activation) → frame_lends p fr ≡ true → LastLends p (frs ++ fr ∷ [])
last_lends p [] fr h = h
last_lends p (g ∷ []) fr h = h
last_lends p (g ∷ k ∷ frs) fr h = last_lends p (k ∷ frs) fr h

-- where the oldest frame that lends is, of these and one more
record Among (p : Code) (frs : List Activation) (k n : ℕ) : Type 0 where
  before : List Activation
  fr : Activation
  behind : List Activation
  is : frs ≡ before ++ fr ∷ behind
  quiet : Quiet p before
  lends : frame_lends p fr ≡ true
  number : n ≡ k + length before

record AtLast (p : Code) (frs : List Activation) (last : Activation) (k n : ℕ) : Type 0 where
  quiet : Quiet p frs
  lends : frame_lends p last ≡ true
  number : n ≡ k + length frs

found_from : (p : Code) (k n : ℕ) (frs : List Activation) (last : Activation) → lender_from p k (frs ++ last ∷ []) ≡ Some n → Among p frs k n ⊎ AtLast p frs last k n
found_from p k n [] last e = by_test (frame_lends p last) refl e
  where
    by_test : (b : Bool) → frame_lends p last ≡ b → (if b then Some k else None) ≡ Some n → Among p [] k n ⊎ AtLast p [] last k n
    by_test true t e = let same : k ≡ n = cc in inr (record { quiet = tt; lends = t; number = omega (arith, same) })
    by_test false t e = absurd cc
found_from p k n (fr ∷ frs) last e = by_test (frame_lends p fr) refl e (λ e. found_from p (suc k) n frs last e)
  where
    by_test : (b : Bool) → frame_lends p fr ≡ b → (if b then Some k else lender_from p (suc k) (frs ++ last ∷ [])) ≡ Some n
        → (lender_from p (suc k) (frs ++ last ∷ []) ≡ Some n → Among p frs (suc k) n ⊎ AtLast p frs last (suc k) n) → Among p (fr ∷ frs) k n ⊎ AtLast p (fr ∷ frs) last k n
    by_test true t e further = let same : k ≡ n = cc in inl (record { before = []; fr = fr; behind = frs; is = refl; quiet = tt; lends = t; number = omega (arith, same) })
    by_test false t e further = by_rest (further e)
      where
        by_rest : Among p frs (suc k) n ⊎ AtLast p frs last (suc k) n → Among p (fr ∷ frs) k n ⊎ AtLast p (fr ∷ frs) last k n
        by_rest (inl a) = inl (record { before = fr ∷ a.before; fr = a.fr; behind = a.behind; is = ap (λ l. fr ∷ l) a.is; quiet = (t, a.quiet); lends = a.lends; number = omega (arith, a.number) })
        by_rest (inr a) = inr (record { quiet = (t, a.quiet); lends = a.lends; number = omega (arith, a.number) })

none_from : (p : Code) (k : ℕ) (frs : List Activation) → lender_from p k frs ≡ None → Quiet p frs
none_from p k [] e = tt
none_from p k (fr ∷ frs) e = by_test (frame_lends p fr) refl e (λ e. none_from p (suc k) frs e)
  where
    by_test : (b : Bool) → frame_lends p fr ≡ b → (if b then Some k else lender_from p (suc k) frs) ≡ None → (lender_from p (suc k) frs ≡ None → Quiet p frs) → Quiet p (fr ∷ frs)
    by_test true t e rest = absurd cc
    by_test false t e rest = (t, rest e)

quiet_front : (p : Code) (xs ys : List Activation) → Quiet p (xs ++ ys) → Quiet p xs × Quiet p ys
quiet_front p [] ys h = (tt, h)
quiet_front p (x ∷ xs) ys h = let r = quiet_front p xs ys h.1 in ((h.0, r.0), r.1)

turned_back : (frs xs : List Activation) → reverse frs ≡ xs → frs ≡ reverse xs
turned_back frs xs e = sym (reverse-reverse frs) ∙ ap reverse e

-- the oldest frame that lends, by its number
pub lender_found : (p : Code) (s : Configuration) (n : ℕ) → lender_from p 0 (oldest_first s) ≡ Some n → Lender p s n × (length s.waiting ≡ n → frame_lends p s.frame ≡ true)
lender_found p s n e = by_place (found_from p 0 n (reverse s.waiting) s.frame e)
  where
    by_place : Among p (reverse s.waiting) 0 n ⊎ AtLast p (reverse s.waiting) s.frame 0 n → Lender p s n × (length s.waiting ≡ n → frame_lends p s.frame ≡ true)
    by_place (inl a) =
        let whole : s.waiting ≡ (reverse a.behind ++ a.fr ∷ []) ++ reverse a.before =
        turned_back s.waiting (a.before ++ a.fr ∷ a.behind) a.is ∙ reverse-append a.before (a.fr ∷ a.behind) ∙ ap (λ l. l ++ reverse a.before) (reverse-append (a.fr ∷ []) a.behind) in (
          record {
            tops = reverse a.behind ++ a.fr ∷ [];
            olds = reverse a.before;
            is = whole;
            many = omega (arith, length-reverse a.before, a.number);
            quiet = all_turned (λ fr. frame_lends p fr ≡ false) a.before a.quiet;
            last = last_lends p (reverse a.behind) a.fr a.lends;
          },
          λ same. absurd (omega (arith, same, ap length whole, length-append (reverse a.behind ++ a.fr ∷ []) (reverse a.before), length-append (reverse a.behind) (a.fr ∷ []), length-reverse a.before, a.number)),
        )
    by_place (inr a) = (
      record {
        tops = [];
        olds = s.waiting;
        is = refl;
        many = omega (arith, length-reverse s.waiting, a.number);
        quiet = subst (Quiet p) (reverse-reverse s.waiting) (all_turned (λ fr. frame_lends p fr ≡ false) (reverse s.waiting) a.quiet);
        last = tt;
      },
      λ same. a.lends,
    )

pub no_lender : (p : Code) (s : Configuration) → lender_from p 0 (oldest_first s) ≡ None → state_lends p s ≡ false
no_lender p s e =
    let both = quiet_front p (reverse s.waiting) (s.frame ∷ []) (none_from p 0 (oldest_first s) e) in
    ap (λ b. b || list_any (frame_lends p) s.waiting) both.1.0
    ∙ quiet_any p s.waiting (subst (Quiet p) (reverse-reverse s.waiting) (all_turned (λ fr. frame_lends p fr ≡ false) (reverse s.waiting) both.0))

-- ---- a run from step to step

-- so many steps later the run goes on
pub record IsAhead (old new : MachineView) (count : ℕ) : Type 0 where
  pub running : IsRunning new
  pub code : new.code ≡ old.code
  pub are : steps old.code most_calls count (Running old.state) ≡ Running new.state
  pub course : (room : ℕ) (outcome : Outcome Value) → IsOnCourse old.code most_calls room outcome old.state → IsOnCourse old.code most_calls room outcome new.state

pub here_ahead : (m : MachineView) → IsRunning m → IsAhead m m 0
here_ahead m r = record { running = r; code = refl; are = refl; course = λ room outcome c. c }

pub one_ahead : (old cur new : MachineView) (count : ℕ) → IsAhead old cur count → IsRunning new → new.code ≡ cur.code → step cur.code most_calls cur.state ≡ Some (Running new.state) → IsAhead old new (count + 1)
one_ahead old cur new count a r code is =
    let next : step old.code most_calls cur.state ≡ Some (Running new.state) = subst (λ p. step p most_calls cur.state ≡ Some (Running new.state)) a.code is in
    record {
      running = r;
      code = code ∙ a.code;
      are = steps_more old.code most_calls count 1 (Running old.state) ∙ ap (steps old.code most_calls 1) a.are ∙ ap (go_on (Running cur.state)) next;
      course = λ room outcome c. goes_on old.code most_calls room outcome cur.state new.state (subst IsWellFormed a.code a.running.going.well) (subst IsWithinLimits a.code a.running.going.limits) (a.course room outcome c) next;
    }

pub fewer_left : (cur new : MachineView) → IsRunning cur → step cur.code most_calls cur.state ≡ Some (Running new.state) → steps_left new.state < steps_left cur.state
fewer_left cur new r is = (goes_further cur.code most_calls r.going.room r.going.outcome cur.state new.state r.going.well r.going.limits r.going.course is)

pub over_ahead : (old cur new : MachineView) (count asked : ℕ) (ending : Ending) → IsAhead old cur count → IsEnding cur new ending
    → ((n : ℕ) → asked ≤ n → n < count + 1 → LendsAfter old.code old.state n) → IsOverIn old new asked ending
over_ahead old cur new count asked ending a e least = record {
  final = e.final;
  count = count + 1;
  are = steps_more old.code most_calls count 1 (Running old.state) ∙ ap (steps old.code most_calls 1) a.are
      ∙ ap (go_on (Running cur.state)) (subst (λ p. step p most_calls cur.state ≡ Some (Over e.final)) a.code e.is);
  cells = e.cells;
  right = λ room outcome c. e.right room outcome (subst (λ p. IsOnCourse p most_calls room outcome cur.state) (sym a.code) (a.course room outcome c));
  least = least;
}

-- stepping on while something is lent: the lender is found, or nothing lends any more
pub record IsLent (old new : MachineView) (asked n : ℕ) : Type 0 where
  pub count : ℕ
  pub ahead : IsAhead old new count
  pub many : asked ≤ count
  pub least : (k : ℕ) → asked ≤ k → k < count → LendsAfter old.code old.state k
  pub lender : Lender old.code new.state n ⊎ ((length new.state.waiting < n) × (state_lends old.code new.state ≡ false))

-- the lender is there, or nothing lends any more
abbrev pub MayLend : Code → Configuration → ℕ → Type 0
MayLend p s n = Lender p s n ⊎ ((length s.waiting < n) × (state_lends p s ≡ false))

pub above_lends : (p : Code) (s : Configuration) (n : ℕ) → MayLend p s n → n < length s.waiting → true ≡ state_lends p s
above_lends p s n (inl l) h = sym (lends_above p s n l h)
above_lends p s n (inr q) h = absurd (omega (arith, q.0, h))

pub at_lends : (p : Code) (s : Configuration) (n : ℕ) (b : Bool) → MayLend p s n → n ≡ length s.waiting → b ≡ frame_lends p s.frame → b ≡ state_lends p s
at_lends p s n true (inl l) h e = sym (lends_running p s (sym e))
at_lends p s n false (inl l) h e = sym (unlent_at p s n l h (sym e))
at_lends p s n b (inr q) h e = absurd (omega (arith, q.0, h))

-- one state more that lends
pub least_on : (old cur : MachineView) (n : ℕ) (l : IsLent old cur 0 n) → state_lends cur.code cur.state ≡ true
    → (k : ℕ) → k < l.count + 1 → LendsAfter old.code old.state k
least_on old cur n l lends k h = by_place (nat_lt k l.count) refl
  where
    by_place : (b : Bool) → nat_lt k l.count ≡ b → LendsAfter old.code old.state k
    by_place true e = let less : k < l.count = grind (arith, nat_tests, e) in l.least k (omega arith) less
    by_place false e =
        let more : l.count ≤ k = grind (arith, nat_tests, e) in
        let same : l.count ≡ k = omega (arith, more, h) in
        subst (LendsAfter old.code old.state) same (record { state = cur.state; is = l.ahead.are; lends = subst (λ p. state_lends p cur.state ≡ true) l.ahead.code lends })

pub lent_on : (old cur new : MachineView) (n : ℕ) → IsLent old cur 0 n → state_lends cur.code cur.state ≡ true → Lender cur.code cur.state n
    → (length cur.state.waiting ≡ n → frame_lends cur.code cur.state.frame ≡ true) → IsRunning new → new.code ≡ cur.code → step cur.code most_calls cur.state ≡ Some (Running new.state) → IsLent old new 0 n
lent_on old cur new n l lends lender runs r code is = record {
  count = l.count + 1;
  ahead = one_ahead old cur new l.count l.ahead r code is;
  many = omega (arith, l.many);
  least = λ k a b. least_on old cur n l lends k b;
  lender = subst (λ p. MayLend p new.state n) l.ahead.code (lender_moves cur.code cur.state new.state n lender runs (subst (Moves cur.state) is (step_moves cur.code most_calls cur.state)));
}

-- ---- two parts of a slice

later : (old mid : MachineView) (asked n : ℕ) → IsAhead old mid asked → asked ≤ n → LendsAfter mid.code mid.state (n - asked) → LendsAfter old.code old.state n
later old mid asked n a h k =
    let whole : n ≡ asked + (n - asked) = omega (arith, h) in
    record {
      state = k.state;
      is = ap (λ m. steps old.code most_calls m (Running old.state)) whole ∙ steps_more old.code most_calls asked (n - asked) (Running old.state)
          ∙ ap (steps old.code most_calls (n - asked)) a.are ∙ subst (λ p. steps p most_calls (n - asked) (Running mid.state) ≡ Running k.state) a.code k.is;
      lends = subst (λ p. state_lends p k.state ≡ true) a.code k.lends;
    }

pub sliced_behind : (old mid new : MachineView) (asked : ℕ) → IsAhead old mid asked → IsSliced mid new 0 → IsSliced old new asked
sliced_behind old mid new asked a q = record {
  running = q.running;
  count = asked + q.count;
  many = omega arith;
  are = steps_more old.code most_calls asked q.count (Running old.state) ∙ ap (steps old.code most_calls q.count) a.are
      ∙ subst (λ p. steps p most_calls q.count (Running mid.state) ≡ Running new.state) a.code q.are;
  unlent = subst (λ p. state_lends p new.state ≡ false) a.code q.unlent;
  least = λ n h k. later old mid asked n a h (q.least (n - asked) (omega arith) (omega (arith, h, k)));
}

pub over_behind : (old mid new : MachineView) (asked : ℕ) (ending : Ending) → IsAhead old mid asked → IsOverIn mid new 0 ending → IsOverIn old new asked ending
over_behind old mid new asked ending a q = record {
  final = q.final;
  count = asked + q.count;
  are = steps_more old.code most_calls asked q.count (Running old.state) ∙ ap (steps old.code most_calls q.count) a.are
      ∙ subst (λ p. steps p most_calls q.count (Running mid.state) ≡ Over q.final) a.code q.are;
  cells = q.cells;
  right = λ room outcome c. q.right room outcome (subst (λ p. IsOnCourse p most_calls room outcome mid.state) (sym a.code) (a.course room outcome c));
  least = λ n h k. later old mid asked n a h (q.least (n - asked) (omega arith) (omega (arith, h, k)));
}

pub both_parts : (old mid new : MachineView) (asked : ℕ) (o : Option Ending) → IsAhead old mid asked → MatchOption o (IsSliced mid new 0) (λ ending. IsOverIn mid new 0 ending)
    → MatchOption o (IsSliced old new asked) (λ ending. IsOverIn old new asked ending)
both_parts old mid new asked None a h = sliced_behind old mid new asked a h
both_parts old mid new asked (Some ending) a h = over_behind old mid new asked ending a h

-- nothing is lent any more
pub sliced_here : (old new : MachineView) (n : ℕ) → IsLent old new 0 n → state_lends new.code new.state ≡ false → IsSliced old new 0
sliced_here old new n l e = record {
  running = l.ahead.running;
  count = l.count;
  many = l.many;
  are = l.ahead.are;
  unlent = subst (λ p. state_lends p new.state ≡ false) l.ahead.code e;
  least = l.least;
}

pub none_lent : (old new : MachineView) (asked : ℕ) → IsAhead old new asked → lender_from new.code 0 (oldest_first new.state) ≡ None → IsSliced old new asked
none_lent old new asked a e = record {
  running = a.running;
  count = asked;
  many = omega arith;
  are = a.are;
  unlent = subst (λ p. state_lends p new.state ≡ false) a.code (no_lender new.code new.state e);
  least = λ n h k. absurd (omega (arith, h, k));
}

pub lent_first : (m : MachineView) (n : ℕ) → IsRunning m → Lender m.code m.state n → IsLent m m 0 n
lent_first m n r l = record { count = 0; ahead = here_ahead m r; many = omega arith; least = λ k a b. absurd (omega (arith, b)); lender = inl l }

-- ---- the number of the oldest frame that lends, and whether one does

found_lends : (p : Code) (s : Configuration) (n : ℕ) → lender_from p 0 (oldest_first s) ≡ Some n → true ≡ state_lends p s
found_lends p s n e = by_place (nat_lt n (length s.waiting)) refl
  where
    found : Lender p s n × (length s.waiting ≡ n → frame_lends p s.frame ≡ true)
    found = lender_found p s n e

    by_place : (b : Bool) → nat_lt n (length s.waiting) ≡ b → true ≡ state_lends p s
    by_place true t = let less : n < length s.waiting = grind (arith, nat_tests, t) in above_lends p s n (inl found.0) less
    by_place false t =
        let more : length s.waiting ≤ n = grind (arith, nat_tests, t) in
        let same : length s.waiting ≡ n = omega (arith, more, found.0.many, length-append found.0.tops found.0.olds, ap length found.0.is) in
        sym (lends_running p s (found.1 same))

lends_same_as : (p : Code) (s : Configuration) (o : Option ℕ) → lender_from p 0 (oldest_first s) ≡ o → is_some o ≡ state_lends p s
lends_same_as p s None e = sym (no_lender p s e)
lends_same_as p s (Some n) e = found_lends p s n e

pub lends_same : (p : Code) (s : Configuration) → is_some (lender_from p 0 (oldest_first s)) ≡ state_lends p s
lends_same p s = lends_same_as p s (lender_from p 0 (oldest_first s)) refl
