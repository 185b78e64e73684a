-- Laws, for the proofs of this crate.
-- What is put back into as many zeros are the live words.
use Rattle.std.proofs.Common.{◌≡◌, ℕ, suc, List, [], ◌∷◌, ◌++◌, length, refl, sym, ap, ◌∙◌, subst, arith, append_assoc, length-append}
use Rattle.std.specs.Prelude.{replicate, slice_set}
use Rattle.grail_blocks.specs.States as states
use Rattle.grail_blocks.specs.States.{Status, Unbound, Ready, Spent}
use Rattle.cell_machine.specs.Dead.{live_word, live_words}
use Rattle.cell_machine.specs.Bounds.{bound_if, bounds, put_back}

set_behind : (front more : List ℕ) (v w : ℕ) → slice_set (front ++ v ∷ more) (length front) w ≡ front ++ w ∷ more
set_behind [] more v w = refl
set_behind (u ∷ front) more v w = ap (λ l. u ∷ l) (set_behind front more v w)

one_more : (s : states.State) (front ws : List ℕ) (u : ℕ) → put_back ((front ++ u ∷ []) ++ replicate (length ws) 0) (bounds s (length (front ++ u ∷ [])) ws) ≡ (front ++ u ∷ []) ++ live_words s (length (front ++ u ∷ [])) ws
    → put_back (front ++ u ∷ replicate (length ws) 0) (bounds s (suc (length front)) ws) ≡ front ++ u ∷ live_words s (suc (length front)) ws
one_more s front ws u h =
    let size : length (front ++ u ∷ []) ≡ suc (length front) = omega (arith, length-append front (u ∷ [])) in
    let left : (front ++ u ∷ []) ++ replicate (length ws) 0 ≡ front ++ u ∷ replicate (length ws) 0 = append_assoc front (u ∷ []) (replicate (length ws) 0) in
    let right : (front ++ u ∷ []) ++ live_words s (suc (length front)) ws ≡ front ++ u ∷ live_words s (suc (length front)) ws = append_assoc front (u ∷ []) (live_words s (suc (length front)) ws) in
    ap (λ l. put_back l (bounds s (suc (length front)) ws)) (sym left)
    ∙ subst (λ n. put_back ((front ++ u ∷ []) ++ replicate (length ws) 0) (bounds s n ws) ≡ (front ++ u ∷ []) ++ live_words s n ws) size h
    ∙ right

from_there : (s : states.State) (front ws : List ℕ) → put_back (front ++ replicate (length ws) 0) (bounds s (length front) ws) ≡ front ++ live_words s (length front) ws
from_there s front [] = refl
from_there s front (w ∷ ws) = by_status (λ u. one_more s front ws u (from_there s (front ++ u ∷ []) ws)) (s (length front))
  where
    by_status : ((u : ℕ) → put_back (front ++ u ∷ replicate (length ws) 0) (bounds s (suc (length front)) ws) ≡ front ++ u ∷ live_words s (suc (length front)) ws) → (t : Status) → put_back (front ++ 0 ∷ replicate (length ws) 0) (bound_if t (length front) w (bounds s (suc (length front)) ws)) ≡ front ++ live_word t w ∷ live_words s (suc (length front)) ws
    by_status shorter Ready = ap (λ l. put_back l (bounds s (suc (length front)) ws)) (set_behind front (replicate (length ws) 0) 0 w) ∙ shorter w
    by_status shorter Unbound = shorter 0
    by_status shorter Spent = shorter 0

pub put_back_live : (s : states.State) (ws : List ℕ) → put_back (replicate (length ws) 0) (bounds s 0 ws) ≡ live_words s 0 ws
put_back_live s ws = from_there s [] ws
