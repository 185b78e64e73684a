-- One turn of a writing, over plain variables.
use Rattle.std.proofs.Common.{◌≡◌, ℕ, ◌+◌, ◌-◌, ◌<◌, ◌≤◌, List, [], ◌++◌, length, take, drop, sym, ap, ◌∙◌, subst, arith, append_assoc, append-nil, Option, Some, None}
use Rattle.std.proofs.Math.Seq.{take-add}
use Rattle.std.proofs.lemmas.List.{take_all, length-drop}
use Rattle.host_io.specs.Sink.{Tells, TellsFront}

pub Tells-trans : (a b c : Option (List ℕ)) (xs ys : List ℕ) → Tells a b xs → Tells b c ys → Tells a c (xs ++ ys)
Tells-trans a b None xs ys p q = tt
Tells-trans a None (Some z) xs ys p q = absurd q
Tells-trans None (Some y) (Some z) xs ys p q = absurd p
Tells-trans (Some x) (Some y) (Some z) xs ys p q = q ∙ ap (λ l. l ++ ys) p ∙ append_assoc x xs ys

pub Tells-nil : (a : Option (List ℕ)) → Tells a a []
Tells-nil None = tt
Tells-nil (Some x) = sym (append-nil x)

-- one more piece was told
pub tells_more : (a b c : Option (List ℕ)) (xs : List ℕ) (i n : ℕ) → i ≤ length xs → n ≤ length xs - i → Tells a b (take i xs)
    → Tells b c (take n (take (length xs - i) (drop i xs))) → Tells a c (take (i + n) xs)
tells_more a b c xs i n h k p q =
    let rest : take n (take (length xs - i) (drop i xs)) ≡ take n (drop i xs) = ap (take n) (take_all (length xs - i) (drop i xs) (omega (arith, length-drop i xs))) in
    let P : List ℕ → Type 0 = λ ys. Tells a c ys in
    subst P (sym (take-add i n xs)) (Tells-trans a b c (take i xs) (take n (drop i xs)) p (subst (λ ys. Tells b c ys) rest q))

-- all pieces were told
pub tells_all : (a b : Option (List ℕ)) (xs : List ℕ) (i : ℕ) → length xs ≤ i → Tells a b (take i xs) → Tells a b xs
tells_all a b xs i h p = subst (λ ys. Tells a b ys) (take_all i xs h) p

-- the last piece was refused, and nothing of it was told
pub tells_front : (a b c : Option (List ℕ)) (xs : List ℕ) (i : ℕ) → i < length xs → Tells a b (take i xs) → Tells b c [] → TellsFront a c xs
tells_front a b c xs i h p q = record {
  count = i;
  within = h;
  front = subst (λ ys. Tells a c ys) (append-nil (take i xs)) (Tells-trans a b c (take i xs) [] p q);
}
