-- Names that stood before.
use Rattle.std.proofs.Common.{◌≡◌, ℕ, Bool, true, false, List, [], ◌∷◌, ◌++◌, map, refl, ap, ◌∙◌, Bor}
use Rattle.std.specs.Prelude.{not, ◌||◌, if◌then◌else◌, IsTrue}
use Rattle.std.specs.List.{list_any}
use Rattle.std.specs.Str.{bytes_eq}
use Rattle.grail_check.specs.Faulting.{stands}

-- a test of what references point to
stands_among : (words : List (Bor (List ℕ))) (name : List ℕ) → list_any (λ y. bytes_eq name y.now) words ≡ stands (map (λ word. word.now) words) name
stands_among [] name = refl
stands_among (w ∷ ws) name = ap (λ b. bytes_eq name w.now || b) (stands_among ws name)

pub added_is : (b : Bool) (words : List (Bor (List ℕ))) (w : Bor (List ℕ)) → b ≡ not (list_any (λ y. bytes_eq w.now y.now) words)
    → b ≡ not (stands (map (λ word. word.now) words) w.now)
added_is b words w h = h ∙ ap not (stands_among words w.now)

last_of : (words : List (Bor (List ℕ))) (w : Bor (List ℕ)) → map {B = List ℕ} (λ word. word.now) (words ++ w ∷ []) ≡ map (λ word. word.now) words ++ w.now ∷ []
last_of [] w = refl
last_of (v ∷ ws) w = ap (λ l. v.now ∷ l) (last_of ws w)

-- a new key is added last
pub added_last : (b : Bool) (words : List (Bor (List ℕ))) (w : Bor (List ℕ)) → IsTrue (not b)
    → map {B = List ℕ} (λ word. word.now) (if b then words else words ++ w ∷ []) ≡ map (λ word. word.now) words ++ w.now ∷ []
added_last true words w h = cc
added_last false words w h = last_of words w
