-- A copy, element by element.
use Rattle.std.proofs.Common.{◌≡◌, ℕ, ◌+◌, ◌≤◌, List, [], ◌∷◌, ◌++◌, length, take, Some, sym, ap, ◌∙◌}
use Rattle.std.specs.Prelude.{slice_get}
use Rattle.std.proofs.lemmas.List.{take_more, take_all}
use Rattle.std.proofs.lemmas.Option.{slice_get_within, get_or_from_slice_get}

pub copy_more : {X : Type 0} (xs ys : List X) (i : ℕ) (x : X) → ys ≡ take i xs → slice_get xs i ≡ Some x → ys ++ x ∷ [] ≡ take (i + 1) xs
copy_more xs ys i x e s =
    ap (λ zs. zs ++ x ∷ []) e ∙ sym (take_more xs i x (slice_get_within xs i x s) ∙ ap (λ z. take i xs ++ z ∷ []) (get_or_from_slice_get xs i x x s))

pub copy_whole : {X : Type 0} (xs ys : List X) (i : ℕ) → ys ≡ take i xs → length xs ≤ i → ys ≡ xs
copy_whole xs ys i e n = e ∙ take_all i xs n
