-- A name as the beginning of an array.
use Rattle.std.proofs.Common.{◌≡◌, ℕ, ◌+◌, ◌≤◌, Bool, true, false, List, [], ◌++◌, length, take, sym, ap, ◌∙◌, arith, append_assoc, append-nil}
use Rattle.std.proofs.Math.Seq.{take-append-add, take-append_seam}
use Rattle.std.proofs.lemmas.List.{take-take}
use Rattle.std.specs.Prelude.{codes, cond}
use Rattle.value_text.specs.Printing.{IsWord}

cut : (old word mid new : List ℕ) (n k : ℕ) → n ≡ length old + k → mid ≡ old ++ word → new ≡ take n mid → new ≡ old ++ take k word
cut old word mid new n k e m t = t ∙ ap (λ i. take i mid) e ∙ ap (take (length old + k)) m ∙ take-append-add old word k

pub opened_cut : (name word old mid new : List ℕ) (n : ℕ) (opens : Bool) → IsWord name word → length name ≤ 15 → n ≡ length old + length name + 1
    → mid ≡ old ++ word → new ≡ take n mid → opens ≡ true → new ≡ old ++ name ++ cond opens (codes "(") []
opened_cut name word old mid new n opens is h e m t o =
    cut old word mid new n (length name + 1) (omega (arith, e)) m t ∙ ap (λ l. old ++ l) (is (omega (arith, h))) ∙ sym (append_assoc old name (codes "("))
    ∙ ap (λ b. old ++ name ++ cond b (codes "(") []) (sym o)

pub bare_cut : (name word old mid new : List ℕ) (n : ℕ) (opens : Bool) → IsWord name word → length name ≤ 15 → n ≡ length old + length name
    → mid ≡ old ++ word → new ≡ take n mid → opens ≡ false → new ≡ old ++ name ++ cond opens (codes "(") []
bare_cut name word old mid new n opens is h e m t o =
    let first : take (length name) word ≡ take (length name) (name ++ codes "(") =
    sym (take-take (length name) (length name + 1) word (omega arith)) ∙ ap (take (length name)) (is (omega (arith, h))) in
    cut old word mid new n (length name) e m t ∙ ap (λ l. old ++ l) (first ∙ take-append_seam name (codes "(")) ∙ sym (append-nil (old ++ name))
    ∙ ap (λ b. old ++ name ++ cond b (codes "(") []) (sym o)
