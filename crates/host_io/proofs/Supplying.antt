-- One call of a source over memory, over plain variables.
use Rattle.std.proofs.Common.{◌≡◌, ℕ, ◌+◌, ◌-◌, ◌<◌, ◌≤◌, List, [], ◌++◌, length, take, drop, min, sym, ap, ◌∙◌, arith, length-append, length-drop, length-take-le, take-append-drop, drop_of_length-le}
use Rattle.std.proofs.Math.Seq.{take-append_seam}
use Rattle.std.proofs.lemmas.List.{take_all, drop-drop}

-- the slice from a place on is the rest of the bytes
rest_read : (bytes read : List ℕ) (at : ℕ) → read ≡ bytes → take (length read - at) (drop at read) ≡ drop at bytes
rest_read bytes read at r = take_all (length read - at) (drop at read) (omega (arith, length-drop at read)) ∙ ap (drop at) r

-- What was copied into the buffer is the front of what was left, and the rest is left.
pub supplied : (bytes read copied into : List ℕ) (at n enough most : ℕ) → read ≡ bytes → copied ≡ take n (take (length read - at) (drop at read))
    → n ≡ min enough most
    → enough ≡ min (length (take (length read - at) (drop at read))) (length into)
    → drop at bytes ≡ take n (copied ++ drop n into) ++ drop (at + n) bytes
supplied bytes read copied into at n enough most r c m q =
    let rest : take (length read - at) (drop at read) ≡ drop at bytes = rest_read bytes read at r in
    let front : copied ≡ take n (drop at bytes) = c ∙ ap (take n) rest in
    let size : length copied ≡ n = ap length front ∙ length-take-le n (drop at bytes) (omega (arith, ap length rest)) in
    let kept : take n (copied ++ drop n into) ≡ copied = ap (λ i. take i (copied ++ drop n into)) (sym size) ∙ take-append_seam copied (drop n into) in
    sym (take-append-drop n (drop at bytes)) ∙ ap (λ l. l ++ drop n (drop at bytes)) (sym (kept ∙ front)) ∙ ap (λ l. take n (copied ++ drop n into) ++ l) (drop-drop n at bytes)

-- Nothing was copied only where nothing is left.
pub supplied_end : (bytes read copied into : List ℕ) (at n enough most : ℕ) → read ≡ bytes → copied ≡ take n (take (length read - at) (drop at read))
    → n ≡ min enough most
    → enough ≡ min (length (take (length read - at) (drop at read))) (length into) → 1 ≤ most
    → n ≡ 0 → 0 < length (copied ++ drop n into) → drop (at + n) bytes ≡ []
supplied_end bytes read copied into at n enough most r c m q k none some =
    let rest : take (length read - at) (drop at read) ≡ drop at bytes = rest_read bytes read at r in
    let size : length copied ≡ n = ap length c ∙ length-take-le n (take (length read - at) (drop at read)) (omega arith) in
    drop_of_length-le bytes {i = at + n} (omega (arith, ap length rest, length-append {A = ℕ} copied (drop n into), length-drop n into, length-drop at bytes))

-- The same for a source that gives as much as is there and as there is room for.
pub sure_supplied : (bytes read copied into : List ℕ) (at n : ℕ) → read ≡ bytes → copied ≡ take n (take (length read - at) (drop at read))
    → n ≡ min (length (take (length read - at) (drop at read))) (length into)
    → drop at bytes ≡ take n (copied ++ drop n into) ++ drop (at + n) bytes
sure_supplied bytes read copied into at n r c q = supplied bytes read copied into at n n (n + 1) r c (omega arith) q

pub sure_supplied_end : (bytes read copied into : List ℕ) (at n : ℕ) → read ≡ bytes → copied ≡ take n (take (length read - at) (drop at read))
    → n ≡ min (length (take (length read - at) (drop at read))) (length into)
    → n ≡ 0 → 0 < length (copied ++ drop n into) → drop (at + n) bytes ≡ []
sure_supplied_end bytes read copied into at n r c q = supplied_end bytes read copied into at n n (n + 1) r c (omega arith) q (omega arith)
