-- Laws, for the laws of the world.
-- Items put over others in a list, and a step in the middle of a list of cells.
use Rattle.std.proofs.Common.{◌≡◌, ℕ, zero, suc, ◌+◌, ◌<◌, ◌≤◌, List, [], ◌∷◌, ◌++◌, length, take, drop, Some, None, refl, sym, ap, ◌∙◌, subst, arith, inl, inr}
use Rattle.std.specs.Prelude.{slice_get, ◌⊎◌}
use Rattle.cell_span.specs.declared.cell.Cell.{Cell}
use Rattle.grail_code.specs.Code.{Code}
use Rattle.cell_machine.specs.State.{Machine, Running, Over, cells_of, most_calls}
use Rattle.cell_machine.specs.Steps.{step}
use Rattle.cell_machine.specs.Wide.{wide, wide_machine, Widens}
use Rattle.cell_machine.specs.MachineLaws.{step_wide}
use Rattle.job_world.specs.Put.{over_first, put_at, Core, Going, Ended, machine_of, core_of, one_step}

-- ---- lists

over_same : {A : Type 0} (xs : List A) → over_first xs xs ≡ xs
over_same [] = refl
over_same (x ∷ xs) = ap (λ l. x ∷ l) (over_same xs)

-- the same items behind
over_rest : {A : Type 0} (xs ys more : List A) → length xs ≡ length ys → over_first (xs ++ more) (ys ++ more) ≡ over_first xs (ys ++ more)
over_rest [] [] more e = over_same more
over_rest [] (y ∷ ys) more e = absurd (omega (arith, e))
over_rest (x ∷ xs) [] more e = absurd (omega (arith, e))
over_rest (x ∷ xs) (y ∷ ys) more e = ap (λ l. x ∷ l) (over_rest xs ys more (omega (arith, e)))

pub put_rest : {A : Type 0} (first : ℕ) (xs ys more whole : List A) → drop first whole ≡ ys ++ more → length xs ≡ length ys
    → put_at first (xs ++ more) whole ≡ put_at first xs whole
put_rest zero xs ys more whole e n = ap (over_first (xs ++ more)) e ∙ over_rest xs ys more n ∙ sym (ap (over_first xs) e)
put_rest (suc first) xs ys more [] e n = refl
put_rest (suc first) xs ys more (w ∷ whole) e n = ap (λ l. w ∷ l) (put_rest first xs ys more whole e n)

over_here : {A : Type 0} (xs whole : List A) → length xs ≤ length whole → take (length xs) (over_first xs whole) ≡ xs
over_here [] whole h = refl
over_here (x ∷ xs) [] h = absurd (omega (arith, h))
over_here (x ∷ xs) (w ∷ whole) h = ap (λ l. x ∷ l) (over_here xs whole (omega (arith, h)))

-- what was put is there
pub put_here : {A : Type 0} (first : ℕ) (xs whole : List A) → first + length xs ≤ length whole → take (length xs) (drop first (put_at first xs whole)) ≡ xs
put_here zero xs whole h = over_here xs whole (omega (arith, h))
put_here (suc first) xs [] h = absurd (omega (arith, h))
put_here (suc first) xs (w ∷ whole) h = put_here first xs whole (omega (arith, h))

-- before and behind all stays
pub put_before : {A : Type 0} (first from size : ℕ) (xs whole : List A) → from + size ≤ first
    → take size (drop from (put_at first xs whole)) ≡ take size (drop from whole)
put_before first zero zero xs whole h = refl
put_before zero zero (suc size) xs whole h = absurd (omega (arith, h))
put_before (suc first) zero (suc size) xs [] h = refl
put_before (suc first) zero (suc size) xs (w ∷ whole) h = ap (λ l. w ∷ l) (put_before first zero size xs whole (omega (arith, h)))
put_before zero (suc from) size xs whole h = absurd (omega (arith, h))
put_before (suc first) (suc from) size xs [] h = refl
put_before (suc first) (suc from) size xs (w ∷ whole) h = put_before first from size xs whole (omega (arith, h))

over_behind : {A : Type 0} (from : ℕ) (xs whole : List A) → length xs ≤ from → drop from (over_first xs whole) ≡ drop from whole
over_behind from [] whole h = refl
over_behind zero (x ∷ xs) whole h = absurd (omega (arith, h))
over_behind (suc from) (x ∷ xs) [] h = refl
over_behind (suc from) (x ∷ xs) (w ∷ whole) h = over_behind from xs whole (omega (arith, h))

pub put_behind : {A : Type 0} (first from : ℕ) (xs whole : List A) → first + length xs ≤ from → drop from (put_at first xs whole) ≡ drop from whole
put_behind zero from xs whole h = over_behind from xs whole (omega (arith, h))
put_behind (suc first) zero xs whole h = absurd (omega (arith, h))
put_behind (suc first) (suc from) xs [] h = refl
put_behind (suc first) (suc from) xs (w ∷ whole) h = put_behind first from xs whole (omega (arith, h))

-- a run that lies apart has the cells that it had
pub put_apart : {A : Type 0} (first from size : ℕ) (xs whole : List A) → (from + size ≤ first) ⊎ (first + length xs ≤ from)
    → take size (drop from (put_at first xs whole)) ≡ take size (drop from whole)
put_apart first from size xs whole (inl h) = put_before first from size xs whole h
put_apart first from size xs whole (inr h) = ap (take size) (put_behind first from xs whole h)

over_length : {A : Type 0} (xs whole : List A) → length (over_first xs whole) ≡ length whole
over_length [] whole = refl
over_length (x ∷ xs) [] = refl
over_length (x ∷ xs) (w ∷ whole) = ap suc (over_length xs whole)

pub put_length : {A : Type 0} (first : ℕ) (xs whole : List A) → length (put_at first xs whole) ≡ length whole
put_length zero xs whole = over_length xs whole
put_length (suc first) xs [] = refl
put_length (suc first) xs (w ∷ whole) = ap suc (put_length first xs whole)

over_get : {A : Type 0} (xs whole : List A) (i : ℕ) → length xs ≤ i → slice_get (over_first xs whole) i ≡ slice_get whole i
over_get [] whole i h = refl
over_get (x ∷ xs) whole zero h = absurd (omega (arith, h))
over_get (x ∷ xs) [] (suc i) h = refl
over_get (x ∷ xs) (w ∷ whole) (suc i) h = over_get xs whole i (omega (arith, h))

-- each item outside stays
pub put_get : {A : Type 0} (first : ℕ) (xs whole : List A) (i : ℕ) → (i < first) ⊎ (first + length xs ≤ i)
    → slice_get (put_at first xs whole) i ≡ slice_get whole i
put_get zero xs whole i (inl h) = absurd (omega (arith, h))
put_get zero xs whole i (inr h) = over_get xs whole i (omega (arith, h))
put_get (suc first) xs [] i h = refl
put_get (suc first) xs (w ∷ whole) zero h = refl
put_get (suc first) xs (w ∷ whole) (suc i) (inl h) = put_get first xs whole i (inl (omega (arith, h)))
put_get (suc first) xs (w ∷ whole) (suc i) (inr h) = put_get first xs whole i (inr (omega (arith, h)))

parted : {A : Type 0} (size : ℕ) (xs : List A) → xs ≡ take size xs ++ drop size xs
parted zero xs = refl
parted (suc size) [] = refl
parted (suc size) (x ∷ xs) = ap (λ l. x ∷ l) (parted size xs)

pub taken : {A : Type 0} (first size : ℕ) (whole : List A) → first + size ≤ length whole → length (take size (drop first whole)) ≡ size
taken zero zero whole h = refl
taken zero (suc size) [] h = absurd (omega (arith, h))
taken zero (suc size) (w ∷ whole) h = ap suc (taken zero size whole (omega (arith, h)))
taken (suc first) size [] h = absurd (omega (arith, h))
taken (suc first) size (w ∷ whole) h = taken first size whole (omega (arith, h))

-- ---- a step in the whole list

wide_of : (more cells : List Cell) (k : Core) → machine_of (cells ++ more) k ≡ wide_machine more (machine_of cells k)
wide_of more cells (Going r) = refl
wide_of more cells (Ended end calls peak low) = refl

pub one_wide : (p : Code) (more : List Cell) (m n : Machine) → one_step p m ≡ Some n → one_step p (wide_machine more m) ≡ Some (wide_machine more n)
one_wide p more (Running s) n e = subst (λ o. Widens more o (step p most_calls (wide more s))) e (step_wide p most_calls more s)
one_wide p more (Over f) n e = let k : None ≡ Some n = e in absurd cc

cells_wide : (more : List Cell) (m : Machine) → cells_of (wide_machine more m) ≡ cells_of m ++ more
cells_wide more (Running s) = refl
cells_wide more (Over f) = refl

core_wide : (more : List Cell) (m : Machine) → core_of (wide_machine more m) ≡ core_of m
core_wide more (Running s) = refl
core_wide more (Over f) = refl

-- Where the lone machine has a step in its range, the step at the whole list from the range on is that one: it has the
-- same frames, and the whole list is the old one with the range's new cells.
pub record StepsSame (p : Code) (first size : ℕ) (whole : List Cell) (k : Core) (m : Machine) : Type 0 where
  pub other : Machine
  pub is : one_step p (machine_of (drop first whole) k) ≡ Some other
  pub core : core_of other ≡ core_of m
  pub cells : put_at first (cells_of other) whole ≡ put_at first (cells_of m) whole

pub steps_same : (p : Code) (first size : ℕ) (whole : List Cell) (k : Core) (m : Machine) → first + size ≤ length whole
    → one_step p (machine_of (take size (drop first whole)) k) ≡ Some m → length (cells_of m) ≡ size
    → StepsSame p first size whole k m
steps_same p first size whole k m h e n =
    let more = drop size (drop first whole) in
    let both : drop first whole ≡ take size (drop first whole) ++ more = parted size (drop first whole) in
    record {
      other = wide_machine more m;
      is = ap (λ l. one_step p (machine_of l k)) both ∙ ap (one_step p) (wide_of more (take size (drop first whole)) k) ∙ one_wide p more (machine_of (take size (drop first whole)) k) m e;
      core = core_wide more m;
      cells = ap (λ l. put_at first l whole) (cells_wide more m) ∙ put_rest first (cells_of m) (take size (drop first whole)) more whole both (n ∙ sym (taken first size whole h));
    }
