-- What a turn comes to.
use Rattle.std.proofs.Common.{◌≡◌, ℕ, zero, suc, ◌+◌, ◌-◌, ◌*◌, ◌<◌, ◌≤◌, List, [], ◌∷◌, length, take, sym, ap, ◌∙◌, subst, arith, length-append}
use Rattle.std.proofs.lemmas.List.{take-append-le}
use Rattle.licence.specs.Licensed.{Licensed}
use Rattle.job_world.specs.Plans.{Plan, Planned}
use Rattle.sliced_jobs.specs.Kits.{AreKits}
use Rattle.sliced_jobs.specs.Ready.{WentOn, HasRun}
use Rattle.sliced_jobs.specs.Table.{lease_at, leased, slices_left, most_slices, IsPlanAt, IsHeld, IsTable, IsSameBut, IsFiled, left_of}
use Rattle.sliced_jobs.specs.declared.job.Went.{Went}
use Rattle.sliced_jobs.specs.declared.job.Went.TheVariants as went
use Rattle.sliced_jobs.specs.declared.table.Going.{Going}
use Rattle.sliced_jobs.specs.declared.table.Table.{Table}
use Rattle.sliced_jobs.proofs.Tables.{Again, with_kits, ended_is, ended_less, again_is, again_less}

-- behind a turn the table is one again, with less to come; and those that have no turn yet in this round are the same
pub record Turned (asked arena : ℕ) (ps : Planned) (s u : Table) (cells : ℕ) : Type 0 where
  pub table : IsTable asked ps arena u
  pub less : left_of ps u < left_of ps s
  pub others : length s.going.items ≤ length u.going.items + 1
  pub rest : (k : ℕ) → 1 ≤ k → k ≤ length s.going.items → leased ps (take k s.going.items) ≡ cells + leased ps (take (k - 1) u.going.items)

rest_of : (ps : Planned) (g : Going) (gs hs : List Going) (cells : ℕ) → cells ≡ lease_at ps g.job → ((k : ℕ) → k ≤ length gs → take k hs ≡ take k gs)
    → (k : ℕ) → 1 ≤ k → k ≤ length (g ∷ gs) → leased ps (take k (g ∷ gs)) ≡ cells + leased ps (take (k - 1) hs)
rest_of ps g gs hs cells e same zero a b = absurd (omega (arith, a))
rest_of ps g gs hs cells e same (suc k) a b =
    let n : suc k - 1 ≡ k = omega arith in
    omega (arith, e, ap (leased ps) (same k (omega (arith, b))), ap (λ m. leased ps (take m hs)) n)

held_first : (asked arena : ℕ) (ps : Planned) (s t : Table) (g : Going) → IsTable asked ps arena s → s.going.items ≡ g ∷ t.going.items → IsSameBut s t → AreKits ps.licences t.kits.items
    → length t.kits.items ≡ length ps.licences → IsHeld asked ps arena (g ∷ t.going.items) t
held_first asked arena ps s t g h is same own many = with_kits asked arena ps (g ∷ t.going.items) s t (subst (λ l. IsHeld asked ps arena l s) is h) same own many

left_same : (ps : Planned) (s t : Table) (g : Going) → s.going.items ≡ g ∷ t.going.items → IsSameBut s t → slices_left (g ∷ t.going.items) + (length ps.plans - t.next) * (most_slices + 1) ≡ left_of ps s
left_same ps s t g is same = ap (λ n. slices_left (g ∷ t.going.items) + (length ps.plans - n) * (most_slices + 1)) same.next
    ∙ ap (λ l. slices_left l + (length ps.plans - s.next) * (most_slices + 1)) (sym is)

pub turned : (asked arena : ℕ) (ps : Planned) (s t u : Table) (g : Going) (cells : ℕ) (w : Went) → IsTable asked ps arena s → s.going.items ≡ g ∷ t.going.items → IsSameBut s t
    → AreKits ps.licences t.kits.items → length t.kits.items ≡ length ps.licences → ((p : Plan) (l : Licensed) → IsPlanAt ps g.job p l → WentOn asked l p g.made w) → cells ≡ lease_at ps g.job
    → IsFiled t u g cells w → Turned asked arena ps s u cells
turned asked arena ps s t u g cells (went.Ended ending) h is same own many goes e k =
    let held = held_first asked arena ps s t g h is same own many in
    let first = held.going.0 in
    record {
      table = subst (λ l. IsHeld asked ps arena l u) (sym k.going) (ended_is asked arena ps g t.going.items t u held (record {
        p = first.p;
        l = first.l;
        at = first.at;
        ending = ending;
        number = g.made + 1;
        ended = goes first.p first.l first.at;
        endings = k.endings;
        numbers = k.numbers;
        free = omega (arith, k.free, e);
        next = k.next;
        kits = k.kits;
      }));
      less = omega (arith, ended_less asked ps g t.going.items t u first k.going k.next, left_same ps s t g is same);
      others = omega (arith, ap length is, ap length k.going);
      rest = subst (λ l. (n : ℕ) → 1 ≤ n → n ≤ length l → leased ps (take n l) ≡ cells + leased ps (take (n - 1) u.going.items)) (sym is)
          (rest_of ps g t.going.items u.going.items cells e (λ n b. ap (take n) k.going));
    }
turned asked arena ps s t u g cells (went.Paused text) h is same own many goes e k =
    let held = held_first asked arena ps s t g h is same own many in
    let first = held.going.0 in
    let again : Again asked ps g t.going.items t u = record {
      p = first.p;
      l = first.l;
      at = first.at;
      new = k.new;
      job = k.job;
      made = k.made;
      run = subst (HasRun asked first.l first.p (g.made + 1)) (sym k.image) (goes first.p first.l first.at);
      going = k.going;
      same = k.same;
      kits = k.kits;
    } in
    record {
      table = again_is asked arena ps g t.going.items t u held again;
      less = omega (arith, again_less asked ps g t.going.items t u first again, left_same ps s t g is same);
      others = omega (arith, ap length is, ap length k.going, length-append t.going.items (k.new ∷ []));
      rest = subst (λ l. (n : ℕ) → 1 ≤ n → n ≤ length l → leased ps (take n l) ≡ cells + leased ps (take (n - 1) u.going.items)) (sym is)
          (rest_of ps g t.going.items u.going.items cells e (λ n b. ap (take n) k.going ∙ take-append-le n t.going.items (k.new ∷ []) b));
    }
turned asked arena ps s t u g cells went.Short h is same own many goes e k = absurd k
