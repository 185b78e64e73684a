-- Writing a spelling part by part.
use Rattle.std.proofs.Common.{◌≡◌, ℕ, zero, suc, ◌+◌, ◌*◌, ◌/◌, ◌%◌, ◌^◌, ◌<◌, ◌≤◌, List, [], ◌∷◌, ◌++◌, length, get_or, take, map, refl, sym, ap, subst, ◌∙◌, append_assoc, inl, inr, arith}
use Rattle.std.specs.List.{AllByRecursion, flat_map}
use Rattle.std.proofs.lemmas.Bool.{cases_lt, lt-ltb, le-ltb}
use Rattle.std.proofs.lemmas.List.{take_all, map_push, flat_map_more}
use Rattle.std.proofs.lemmas.Grind.{take_at_read}
use Rattle.grail_code.specs.Spelling.{leb128, number}

-- ---- numbers: one byte more that may follow changes nothing

abbrev room : ℕ → ℕ
room zero = 128
room (suc more) = 128 * room more

more_room : (more n : ℕ) → n < room more → leb128 more n ≡ leb128 (suc more) n
more_room zero n lt = rw (lt-ltb n 128 lt) refl
more_room (suc more) n lt = elim (cases_lt n 128) [
  | inl less ↦ rw (lt-ltb n 128 less) refl
  | inr ge ↦
      let ih : leb128 more (n / 128) ≡ leb128 (suc more) (n / 128) = more_room more (n / 128) (omega arith) in
      rw (le-ltb n 128 ge) (ap (λ w. (128 + n % 128) ∷ w) ih)
]

opens : (more n : ℕ) → 128 ≤ n → leb128 (suc more) n ≡ (128 + n % 128) ∷ leb128 more (n / 128)
opens more n ge = rw (le-ltb n 128 ge) refl

number_step : (n : ℕ) → 128 ≤ n → n < 2 ^ 32 → number n ≡ (128 + n % 128) ∷ number (n / 128)
unfolding number
number_step n ge lt =
    let same : leb128 3 (n / 128) ≡ leb128 4 (n / 128) = more_room 3 (n / 128) (omega arith) in
    opens 3 n ge ∙ ap (λ w. (128 + n % 128) ∷ w) same

pub number_more : (out now first : List ℕ) (n value : ℕ) → 128 ≤ n → n < 2 ^ 32 → now ≡ out ++ (128 + n % 128) ∷ []
    → out ++ number n ≡ first ++ number value → now ++ number (n / 128) ≡ first ++ number value
number_more out now first n value ge lt pushed so_far = ap (λ w. w ++ number (n / 128)) pushed ∙ append_assoc out ((128 + n % 128) ∷ []) (number (n / 128)) ∙ ap (λ w. out ++ w) (sym (number_step n ge lt)) ∙ so_far

pub number_small : (n : ℕ) → n < 128 → number n ≡ n ∷ []
unfolding number
number_small n lt = rw (lt-ltb n 128 lt) refl

-- ---- things in a row

pub thing_fits : {X A : Type 0} (F : A → Type 0) (f : X → A) (xs : List X) (i : ℕ) (x : X) → AllByRecursion F (map f xs) → i < length xs
    → x ≡ get_or xs i x → F (f x)
thing_fits F f [] i x h lt e = absurd (omega arith)
thing_fits F f (y ∷ ys) zero x h lt e = subst (λ z. F (f z)) (sym e) h.0
thing_fits F f (y ∷ ys) (suc i) x h lt e = thing_fits F f ys i x h.1 (omega arith) e

pub things_more : {X A : Type 0} (f : X → A) (spell : A → List ℕ) (first out now : List ℕ) (xs : List X) (i : ℕ) (x : X) → i < length xs
    → x ≡ get_or xs i x → now ≡ out ++ spell (f x)
    → out ≡ first ++ flat_map spell (map f (take i xs)) → now ≡ first ++ flat_map spell (map f (take (i + 1) xs))
things_more f spell first out now xs i x lt e wrote so_far =
    let one : take (i + 1) xs ≡ take i xs ++ x ∷ [] = (take_at_read xs i x lt).1 ∙ ap (λ y. take i xs ++ y ∷ []) (sym e) in
    let all : map f (take (i + 1) xs) ≡ map f (take i xs) ++ f x ∷ [] = ap (map f) one ∙ map_push f (take i xs) x in
    wrote ∙ ap (λ w. w ++ spell (f x)) so_far ∙ flat_map_more spell first (map f (take i xs)) (f x) ∙ ap (λ ys. first ++ flat_map spell ys) (sym all)

pub things_done : {X A : Type 0} (f : X → A) (spell : A → List ℕ) (first out : List ℕ) (xs : List X) (i : ℕ) → length xs ≤ i
    → out ≡ first ++ flat_map spell (map f (take i xs)) → out ≡ first ++ flat_map spell (map f xs)
things_done f spell first out xs i le so_far = so_far ∙ ap (λ ys. first ++ flat_map spell (map f ys)) (take_all i xs le)
