-- Laws, for the proofs of this crate.
-- The runs that a list of holes knows as out are the leased ones, in another order.
use Rattle.std.proofs.Common.{◌≡◌, ℕ, zero, suc, ◌+◌, ◌≤◌, ◌==◌, nat_lt, Bool, true, false, if◌then◌else◌, ◌⊎◌, inl, inr, List, [], ◌∷◌, length, Option, Some, None, refl, sym, ap, ◌∙◌, arith}
use Rattle.std.specs.Prelude.{slice_get, slice_set}
use Rattle.std.proofs.lemmas.List.{nil_from_length}
use Rattle.hole_list.specs.declared.run.Run.{Run}
use Rattle.hole_list.specs.Placing.{in_run, times_in, with_run, without_run, IsOut}
use Rattle.lease_desk.specs.Journal.{leased}
use Rattle.lease_desk.specs.Outs.{one_same, copies, AreReordered}
use Rattle.hole_list.specs.PlacingLaws.{in_yes}
use Rattle.lease_desk.specs.theory.Leases.{sum_of, sum_length, sum_out, sum_back}

sum_copies : (q : Run) (rs : List Run) → sum_of (one_same q) rs ≡ copies q rs
sum_copies q [] = refl
sum_copies q (r ∷ rs) = ap (λ n. one_same q r + n) (sum_copies q rs)

same_run : (q r : Run) → 1 ≤ one_same q r → q ≡ r
same_run q r k = λ i. record { first = (let e : q.first ≡ r.first = grind arith in e) i; size = (let e : q.size ≡ r.size = grind arith in e) i }

same_itself : (q : Run) → one_same q q ≡ 1
same_itself q = grind arith

at_most : (q r : Run) → one_same q r ≤ 1
at_most q r = grind arith

copies_with : (q : Run) (rs : List Run) (r : Run) → copies q (with_run rs r) ≡ copies q rs + one_same q r
copies_with q [] r = omega arith
copies_with q (s ∷ ss) r = by_test (nat_lt r.first s.first) (copies_with q ss r)
  where
    by_test : (b : Bool) → copies q (with_run ss r) ≡ copies q ss + one_same q r
        → copies q (if b then r ∷ s ∷ ss else s ∷ with_run ss r) ≡ (one_same q s + copies q ss) + one_same q r
    by_test true k = omega arith
    by_test false k = omega (arith, k)

length_with : (rs : List Run) (r : Run) → length (with_run rs r) ≡ length rs + 1
length_with [] r = refl
length_with (s ∷ ss) r = by_test (nat_lt r.first s.first) (length_with ss r)
  where
    by_test : (b : Bool) → length (with_run ss r) ≡ length ss + 1 → length (if b then r ∷ s ∷ ss else s ∷ with_run ss r) ≡ suc (length ss) + 1
    by_test true k = omega arith
    by_test false k = omega (arith, k)

-- a lease goes out
pub out_more : (out : List Run) (ls : List (Option Run)) (job : ℕ) (r : Run) → slice_get ls job ≡ Some None → AreReordered out (leased ls)
    → AreReordered (with_run out r) (leased (slice_set ls job (Some r)))
out_more out ls job r free k = record {
  copied = λ q. omega (arith, k.copied q, copies_with q out r, sum_out (one_same q) ls job r free, sum_copies q (leased ls), sum_copies q (leased (slice_set ls job (Some r))));
  many = omega (arith, k.many, length_with out r, sum_out (λ q. 1) ls job r free, sum_length (leased ls), sum_length (leased (slice_set ls job (Some r))));
}

-- one that is out is among them
pub is_copied : (ls : List (Option Run)) (job : ℕ) (r : Run) → slice_get ls job ≡ Some (Some r) → 1 ≤ copies r (leased ls)
is_copied ls job r e = omega (arith, sum_back (one_same r) ls job r e, same_itself r, sum_copies r (leased ls))

pub is_out : (rs : List Run) (r : Run) → 1 ≤ copies r rs → IsOut rs r
is_out [] r k = absurd (omega (arith, k))
is_out (s ∷ ss) r k = by_same (one_same r s) refl (λ m. is_out ss r m)
  where
    by_same : (n : ℕ) → one_same r s ≡ n → (1 ≤ copies r ss → IsOut ss r) → (s ≡ r) ⊎ IsOut ss r
    by_same zero e go = inr (go (omega (arith, k, e)))
    by_same (suc n) e go = inl (sym (same_run r s (omega (arith, e))))

-- the job of a lease among them
leased_at : (ls : List (Option Run)) (r : Run) → 1 ≤ copies r (leased ls) → (job : ℕ) × (slice_get ls job ≡ Some (Some r))
leased_at [] r k = absurd (omega (arith, k))
leased_at (None ∷ ls) r k = let q = leased_at ls r k in (suc q.0, q.1)
leased_at (Some s ∷ ls) r k = by_same (one_same r s) refl (λ m. leased_at ls r m)
  where
    by_same : (n : ℕ) → one_same r s ≡ n → (1 ≤ copies r (leased ls) → (job : ℕ) × (slice_get ls job ≡ Some (Some r)))
        → (job : ℕ) × (slice_get (Some s ∷ ls) job ≡ Some (Some r))
    by_same zero e go = let q = go (omega (arith, k, e)) in (suc q.0, q.1)
    by_same (suc n) e go = (0, ap (λ (x : Run). Some (Some x)) (sym (same_run r s (omega (arith, e)))))

copy_cells : (rs : List Run) (r : Run) (i : ℕ) → 1 ≤ copies r rs → in_run r i ≤ times_in rs i
copy_cells [] r i k = absurd (omega (arith, k))
copy_cells (s ∷ ss) r i k = by_same (one_same r s) refl (λ m. copy_cells ss r i m)
  where
    by_same : (n : ℕ) → one_same r s ≡ n → (1 ≤ copies r ss → in_run r i ≤ times_in ss i) → in_run r i ≤ in_run s i + times_in ss i
    by_same zero e go = omega (arith, go (omega (arith, k, e)))
    by_same (suc n) e go = omega (arith, ap (λ x. in_run x i) (same_run r s (omega (arith, e))))

-- runs with cells, no cell of which is in two, begin at different cells
same_first : (rs : List Run) (r s : Run) → 1 ≤ copies r rs → 1 ≤ copies s rs → r.first ≡ s.first → 1 ≤ r.size → 1 ≤ s.size
    → ((i : ℕ) → times_in rs i ≤ 1) → r ≡ s
same_first [] r s k l e a b once = absurd (omega (arith, k))
same_first (q ∷ qs) r s k l e a b once = by_both (one_same r q) (one_same s q) refl refl (λ m n o. same_first qs r s m n e a b o)
  where
    by_both : (m n : ℕ) → one_same r q ≡ m → one_same s q ≡ n → (1 ≤ copies r qs → 1 ≤ copies s qs → ((i : ℕ) → times_in qs i ≤ 1) → r ≡ s) → r ≡ s
    by_both zero zero x y go = go (omega (arith, k, x)) (omega (arith, l, y)) (λ i. omega (arith, once i))
    by_both (suc m) (suc n) x y go = same_run r q (omega (arith, x)) ∙ sym (same_run s q (omega (arith, y)))
    by_both (suc m) zero x y go =
        absurd (omega (
          arith,
          once s.first,
          copy_cells qs s s.first (omega (arith, l, y)),
          in_yes s s.first (omega arith) (omega (arith, b)),
          ap (λ z. in_run z s.first) (same_run r q (omega (arith, x))),
          in_yes r s.first (omega (arith, e)) (omega (arith, e, a)),
        ))
    by_both zero (suc n) x y go =
        absurd (omega (
          arith,
          once r.first,
          copy_cells qs r r.first (omega (arith, k, x)),
          in_yes r r.first (omega arith) (omega (arith, a)),
          ap (λ z. in_run z r.first) (same_run s q (omega (arith, y))),
          in_yes s r.first (omega (arith, e)) (omega (arith, e, b)),
        ))

-- without the one that begins where it does
without_same : (out : List Run) (r : Run) → 1 ≤ copies r out → ((s : Run) → 1 ≤ copies s out → s.first ≡ r.first → s ≡ r)
    → ((q : Run) → copies q (without_run out r.first) + one_same q r ≡ copies q out) × (length (without_run out r.first) + 1 ≡ length out)
without_same [] r k only = absurd (omega (arith, k))
without_same (s ∷ ss) r k only = by_test (s.first == r.first) refl (λ m o. without_same ss r m o)
  where
    by_test : (b : Bool) → (s.first == r.first) ≡ b
        → (1 ≤ copies r ss → ((t : Run) → 1 ≤ copies t ss → t.first ≡ r.first → t ≡ r) → ((q : Run) → copies q (without_run ss r.first) + one_same q r ≡ copies q ss) × (length (without_run ss r.first) + 1 ≡ length ss))
        → ((q : Run) → copies q (if b then ss else s ∷ without_run ss r.first) + one_same q r ≡ one_same q s + copies q ss)
        × (length (if b then ss else s ∷ without_run ss r.first) + 1 ≡ suc (length ss))
    by_test true e go =
        let same : s ≡ r = only s (omega (arith, same_itself s)) (grind arith) in
        (λ q. omega (arith, ap (one_same q) same), omega arith)
    by_test false e go =
        let ne : one_same r s ≡ 0 = grind arith in
        let rest = go (omega (arith, k, ne)) (λ t m f. only t (omega (arith, m)) f) in
        (λ q. omega (arith, rest.0 q), omega (arith, rest.1))

-- a lease comes back
pub out_less : (out : List Run) (ls : List (Option Run)) (job : ℕ) (r : Run) → slice_get ls job ≡ Some (Some r) → AreReordered out (leased ls)
    → ((j : ℕ) (s : Run) → slice_get ls j ≡ Some (Some s) → 1 ≤ s.size) → ((i : ℕ) → times_in (leased ls) i ≤ 1)
    → AreReordered (without_run out r.first) (leased (slice_set ls job None))
out_less out ls job r e k some once =
    let here : 1 ≤ copies r (leased ls) = is_copied ls job r e in
    let w = without_same out r (omega (arith, k.copied r, here)) (λ s m f.
    let there : 1 ≤ copies s (leased ls) = omega (arith, k.copied s, m) in
    let p = leased_at ls s there in
    same_first (leased ls) s r there here f (some p.0 s p.1) (some job r e) once) in
    record {
      copied = λ q. omega (arith, k.copied q, w.0 q, sum_back (one_same q) ls job r e, sum_copies q (leased ls), sum_copies q (leased (slice_set ls job None)));
      many = omega (arith, k.many, w.1, sum_back (λ q. 1) ls job r e, sum_length (leased ls), sum_length (leased (slice_set ls job None)));
    }

pub out_none : (out : List Run) (ls : List (Option Run)) → AreReordered out (leased ls) → leased ls ≡ [] → out ≡ []
out_none out ls k e = nil_from_length out (omega (arith, k.many, ap (λ (rs : List Run). length rs) e))
