-- Runs within numbers of 32 bits stay so.
use Rattle.std.proofs.Common.{◌≡◌, ℕ, zero, suc, ◌+◌, ◌-◌, ◌≤◌, ◌==◌, nat_le, nat_lt, Bool, true, false, if◌then◌else◌, List, [], ◌∷◌, Option, Some, None, length, replicate, refl, sym, ap, subst, arith}
use Rattle.std.specs.Prelude.{slice_get, slice_set}
use Rattle.std.specs.Option.{option_map}
use Rattle.std.proofs.lemmas.Bool.Decides.{nat_tests}
use Rattle.std.proofs.lemmas.List.{length-set, length-replicate}
use Rattle.hole_list.specs.declared.run.Run.{Run}
use Rattle.hole_list.specs.Placing.{Taken, behind, both, end_of, give_run, rest_of_run, run, take_run, taken}
use Rattle.hole_list.specs.PlacingLaws.{some_same}
use Rattle.journal_replay.specs.Within.{AreLeasesWithin, AreWithin, IsLeaseWithin, IsWithin}

rest_within : (h : Run) (size : ℕ) (hs : List Run) → size ≤ h.size → IsWithin h → AreWithin hs → AreWithin (rest_of_run h size hs)
rest_within h size hs most here all = by_test (h.size == size)
  where
    by_test : (b : Bool) → AreWithin (if b then hs else run (h.first + size) (h.size - size) ∷ hs)
    by_test true = all
    by_test false = (omega (arith, most, here), all)

pub take_within : (hs : List Run) (size : ℕ) (t : Taken) → take_run hs size ≡ Some t → AreWithin hs → IsWithin t.run × AreWithin t.holes
take_within [] size t e all = absurd (let q : None ≡ Some t = e in grind arith)
take_within (h ∷ hs) size t e all = by_test (nat_le size h.size) refl (λ u k. take_within hs size u k all.1) e
  where
    by_rest : (o : Option Taken) → take_run hs size ≡ o → ((u : Taken) → take_run hs size ≡ Some u → IsWithin u.run × AreWithin u.holes)
        → option_map (behind h) o ≡ Some t → IsWithin t.run × AreWithin t.holes
    by_rest None k go q = absurd (let r : None ≡ Some t = q in grind arith)
    by_rest (Some u) k go q = subst (λ (v : Taken). IsWithin v.run × AreWithin v.holes) (some_same (behind h u) t q) ((go u k).0, (all.0, (go u k).1))

    by_test : (b : Bool) → nat_le size h.size ≡ b → ((u : Taken) → take_run hs size ≡ Some u → IsWithin u.run × AreWithin u.holes)
        → (if b then Some (taken (run h.first size) (rest_of_run h size hs)) else option_map (behind h) (take_run hs size)) ≡ Some t
        → IsWithin t.run × AreWithin t.holes
    by_test true k go q =
        let most : size ≤ h.size = grind (arith, nat_tests, k) in
        subst (λ (v : Taken). IsWithin v.run × AreWithin v.holes) (some_same (taken (run h.first size) (rest_of_run h size hs)) t q)
        (let here = all.0 in omega (arith, most, here), rest_within h size hs most all.0 all.1)
    by_test false k go q = by_rest (take_run hs size) refl go q

pub give_within : (hs : List Run) (r : Run) → AreWithin hs → IsWithin r → AreWithin (give_run hs r)
give_within [] r all here = (here, tt)
give_within (h ∷ hs) r all here = by_tests (nat_lt (end_of r) h.first) (end_of r == h.first) (end_of h == r.first) refl refl (λ s k. give_within hs s all.1 k)
  where
    by_tests : (a b c : Bool) → (end_of r == h.first) ≡ b → (end_of h == r.first) ≡ c → ((s : Run) → IsWithin s → AreWithin (give_run hs s))
        → AreWithin (if a then r ∷ h ∷ hs else if b then both r h ∷ hs else if c then give_run hs (both h r) else h ∷ give_run hs r)
    by_tests true b c p q go = (here, all)
    by_tests false true c p q go = (let meets : end_of r ≡ h.first = grind (arith, nat_tests, p) in let own = all.0 in omega (arith, meets, own), all.1)
    by_tests false false true p q go = go (both h r) (let meets : end_of h ≡ r.first = grind (arith, nat_tests, q) in omega (arith, meets, here))
    by_tests false false false p q go = (all.0, go r here)

pub set_within : (ls : List (Option Run)) (job : ℕ) (o : Option Run) → AreLeasesWithin ls → IsLeaseWithin o → AreLeasesWithin (slice_set ls job o)
set_within [] job o all here = tt
set_within (l ∷ ls) zero o all here = (here, all.1)
set_within (l ∷ ls) (suc job) o all here = (all.0, set_within ls job o all.1 here)

pub lease_within : (ls : List (Option Run)) (job : ℕ) (r : Run) → slice_get ls job ≡ Some (Some r) → AreLeasesWithin ls → IsWithin r
lease_within [] job r e all = absurd (let q : None ≡ Some (Some r) = e in grind arith)
lease_within (l ∷ ls) zero r e all = subst IsLeaseWithin (some_same l (Some r) e) all.0
lease_within (l ∷ ls) (suc job) r e all = lease_within ls job r e all.1

all_none : (n : ℕ) → AreLeasesWithin (replicate n None)
all_none zero = tt
all_none (suc n) = (tt, all_none n)

pub set_few : (ls : List (Option Run)) (job n : ℕ) (o : Option Run) → length ls ≤ n → length (slice_set ls job o) ≤ n
set_few ls job n o h = let same = length-set ls job o in omega (arith, same, h)

pub many_none : (ls : List (Option Run)) (jobs n : ℕ) → ls ≡ replicate jobs None → jobs ≤ n → length ls ≤ n
many_none ls jobs n e h = let same = ap length e in let size = length-replicate jobs (let none : Option Run = None in none) in omega (arith, same, size, h)

pub none_within : (ls : List (Option Run)) (n : ℕ) → ls ≡ replicate n None → AreLeasesWithin ls
none_within ls n e = subst AreLeasesWithin (sym e) (all_none n)
