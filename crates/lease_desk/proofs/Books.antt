-- Leases that go out and come back, in the book.
use Rattle.std.proofs.Common.{◌≡◌, ℕ, ◌+◌, ◌≤◌, List, length, replicate, Option, Some, None, sym, ap, ◌∙◌, arith}
use Rattle.std.specs.Prelude.{slice_get, slice_set}
use Rattle.hole_list.specs.declared.run.Run.{Run}
use Rattle.lease_desk.specs.Journal.{leased}
use Rattle.lease_desk.specs.theory.Leases.{room_out, sum_length, sum_out, sum_back}
use Rattle.lease_desk.specs.theory.Sound.{none_leased}

pub none_yet : (ls : List (Option Run)) (n : ℕ) → ls ≡ replicate n None → 0 ≡ length (leased ls)
none_yet ls n e = sym (ap (λ (l : List (Option Run)). length (leased l)) e ∙ ap (λ (l : List Run). length l) (none_leased n))

pub one_goes : (ls v : List (Option Run)) (job out : ℕ) (r : Run) → ls ≡ v → slice_get v job ≡ Some None → out ≡ length (leased ls)
    → out + 1 ≡ length (leased (slice_set ls job (Some r)))
one_goes ls v job out r same free is =
    let f : slice_get ls job ≡ Some None = ap (λ (l : List (Option Run)). slice_get l job) same ∙ free in
    omega (arith, is, sum_out (λ q. 1) ls job r f, sum_length (leased ls), sum_length (leased (slice_set ls job (Some r))))

pub one_less : (ls v : List (Option Run)) (job out : ℕ) → ls ≡ v → slice_get v job ≡ Some None → out ≡ length (leased ls) → out + 1 ≤ length ls
one_less ls v job out same free is =
    let f : slice_get ls job ≡ Some None = ap (λ (l : List (Option Run)). slice_get l job) same ∙ free in
    omega (arith, is, room_out ls job f)

pub one_comes : (ls v : List (Option Run)) (job out : ℕ) (r : Run) → ls ≡ v → slice_get v job ≡ Some (Some r) → out ≡ length (leased ls)
    → (1 ≤ out) × (out ≡ length (leased (slice_set ls job None)) + 1)
one_comes ls v job out r same here is =
    let f : slice_get ls job ≡ Some (Some r) = ap (λ (l : List (Option Run)). slice_get l job) same ∙ here in
    let s = sum_back (λ q. 1) ls job r f in
    (omega (arith, is, s, sum_length (leased ls), sum_length (leased (slice_set ls job None))), omega (arith, is, s, sum_length (leased ls), sum_length (leased (slice_set ls job None))))
