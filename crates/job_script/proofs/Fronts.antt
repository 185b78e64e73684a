-- The fronts of items, one number of them after the other.
use Rattle.std.proofs.Common.{◌≡◌, ℕ, zero, suc, ◌+◌, ◌-◌, ◌<◌, ◌≤◌, List, [], ◌∷◌, ◌++◌, length, get_or, take, refl, sym, ap, ◌∙◌, subst, arith, append_assoc, append-nil, length-append}
use Rattle.std.proofs.Math.Seq.{take-append_seam}
use Rattle.std.proofs.lemmas.List.{get_or_append_left, get_or_push}
use Rattle.std.specs.Prelude.{codes}
use Rattle.text_lines.specs.Numbers.{number}
use Rattle.job_script.specs.Made.{heads}
use Rattle.job_script.specs.Fronts.{AreFronts}

-- the front of one item
abbrev pub head : ℕ → List ℕ
head item = codes "Cons(" ++ (number item ++ codes ",")

-- so many items, and as many more behind them
split : (k m first : ℕ) → heads (k + m) first ≡ heads k first ++ heads m (first + k)
split zero m first =
    let z : zero + m ≡ m = omega arith in
    let e : first + zero ≡ first = omega arith in
    ap (λ n. heads n first) z ∙ sym (ap (heads m) e)
split (suc k) m first =
    let s : suc k + m ≡ suc (k + m) = omega arith in
    let e : suc first + k ≡ first + suc k = omega arith in
    ap (λ n. heads n first) s ∙ ap (λ l. head first ++ l) (split k m (suc first) ∙ ap (λ n. heads k (suc first) ++ heads m n) e) ∙ sym (append_assoc (head first) (heads k (suc first)) (heads m (first + suc k)))

one_more : (k : ℕ) → heads (suc k) 1 ≡ heads k 1 ++ head (suc k)
one_more k =
    let e : suc k ≡ k + suc zero = omega arith in
    let f : 1 + k ≡ suc k = omega arith in
    ap (λ n. heads n 1) e ∙ split k (suc zero) 1 ∙ ap (λ n. heads k 1 ++ heads (suc zero) n) f ∙ ap (λ l. heads k 1 ++ l) (append-nil (head (suc k)))

pub no_fronts : AreFronts 0 [] (0 ∷ [])
no_fronts = record { whole = refl; size = refl; each = λ k h. first k h }
  where
    first : (k : ℕ) → k < 1 → get_or (0 ∷ []) k 0 ≡ length (heads k 1)
    first zero h = refl
    first (suc k) h = absurd (omega (arith, h))

data Place (k n : ℕ) : Type 0 where
  Front : k < n → Place k n
  Last : k ≡ n → Place k n

place : (k n : ℕ) → k < suc n → Place k n
place zero zero h = Last refl
place zero (suc n) h = Front (omega arith)
place (suc k) zero h = absurd (omega (arith, h))
place (suc k) (suc n) h = by_case (place k n (omega (arith, h)))
  where
    by_case : Place k n → Place (suc k) (suc n)
    by_case (Front l) = Front (omega (arith, l))
    by_case (Last e) = Last (ap suc e)

pub front_more : (made : ℕ) (text ends new_text new_ends : List ℕ) → AreFronts made text ends → new_text ≡ text ++ (codes "Cons(" ++ (number (made + 1) ++ codes ","))
    → new_ends ≡ ends ++ length new_text ∷ [] → AreFronts (made + 1) new_text new_ends
front_more made text ends new_text new_ends f e g =
    let next : made + 1 ≡ suc made = omega arith in
    let whole : new_text ≡ heads (suc made) 1 = e ∙ ap (λ l. l ++ head (made + 1)) f.whole ∙ ap (λ n. heads made 1 ++ head n) next ∙ sym (one_more made) in
    let longer : length new_ends ≡ suc (length ends) = ap length g ∙ length-append ends (length new_text ∷ []) ∙ omega arith in
    subst (λ n. AreFronts n new_text new_ends) (sym next) (record {
      whole = whole;
      size = longer ∙ ap suc f.size;
      each = λ k h. ap (λ l. get_or l k 0) g ∙ at k (place k (length ends) (omega (arith, h, longer))) whole;
    })
  where
    at : (k : ℕ) → Place k (length ends) → new_text ≡ heads (suc made) 1 → get_or (ends ++ length new_text ∷ []) k 0 ≡ length (heads k 1)
    at k (Front l) whole = get_or_append_left ends (length new_text ∷ []) 0 k l ∙ f.each k l
    at k (Last s) whole = get_or_push ends (length new_text) 0 k (sym s) ∙ ap length whole ∙ ap (λ n. length (heads n 1)) (sym (s ∙ f.size))

pub all_fronts : (count made : ℕ) (text ends : List ℕ) → AreFronts made text ends → made ≤ count → count ≤ made → AreFronts count text ends
all_fronts count made text ends f h k = let e : made ≡ count = omega (arith, h, k) in subst (λ n. AreFronts n text ends) e f

-- the fronts of fewer items stand in front
pub fewer : (most k : ℕ) (text ends : List ℕ) → AreFronts most text ends → k ≤ most → take (get_or ends k 0) text ≡ heads k 1
fewer most k text ends f h =
    let m = most - k in
    let e : k + m ≡ most = omega (arith, h) in
    let there : k < length ends = omega (arith, h, f.size) in
    ap (λ n. take n text) (f.each k there)
    ∙ ap (take (length (heads k 1))) (f.whole ∙ ap (λ n. heads n 1) (sym e) ∙ split k m 1)
    ∙ take-append_seam (heads k 1) (heads m (1 + k))

-- and none ends behind the text
pub end_within : (most k : ℕ) (text ends : List ℕ) → AreFronts most text ends → k ≤ most → get_or ends k 0 ≤ length text
end_within most k text ends f h =
    let m = most - k in
    let e : k + m ≡ most = omega (arith, h) in
    let there : k < length ends = omega (arith, h, f.size) in
    let whole : text ≡ heads k 1 ++ heads m (1 + k) = f.whole ∙ ap (λ n. heads n 1) (sym e) ∙ split k m 1 in
    omega (arith, f.each k there, ap length whole, length-append (heads k 1) (heads m (1 + k)))
