-- Steps of the loops over spaces, words and common fronts.
use Rattle.std.proofs.Common.{◌≡◌, ℕ, suc, ◌+◌, ◌-◌, ◌<◌, ◌≤◌, true, false, List, [], ◌∷◌, ◌++◌, length, take, drop, get_or, refl, sym, ap, ◌∙◌, subst, arith, drop-cons, drop_of_length-le, add-one, inl, inr, Bool}
use Rattle.std.specs.Prelude.{◌⊎◌, IsTrue, ◌==◌, ◌&&◌, if◌then◌else◌}
use Rattle.std.specs.List.{list_all}
use Rattle.std.proofs.Math.Seq.{take-suc}
use Rattle.std.proofs.lemmas.List.{take-append-drop, take_all, length-drop}
use Rattle.std.proofs.lemmas.Bool.Decides.{nat_tests}
use Rattle.value_text.specs.Grammar.{is_word_byte, Ends}
use Rattle.value_text.specs.Choosing.{common}
use Rattle.value_text.specs.Splitting.{skip, IsSplit, IsWordLength, IsSameFour, IsBehind}
use Rattle.value_text.proofs.Words.{and_parts, and_both}

pub skip_here : (text all : List ℕ) (at : ℕ) → at < length text → get_or text at 0 ≡ 32 → skip (drop at text) ≡ all → skip (drop (at + 1) text) ≡ all
skip_here text all at h is e =
    ap (λ n. skip (drop n text)) (add-one at) ∙ ap (λ b. if b then skip (drop (suc at) text) else get_or text at 0 ∷ drop (suc at) text) (let t : true ≡ (get_or text at 0 == 32) = grind (arith, nat_tests, is) in t)
    ∙ ap skip (sym (drop-cons text at 0 h)) ∙ e

pub skip_done : (text all result : List ℕ) (at : ℕ) → at < length text → (get_or text at 0 ≡ 32 → ⊥)
    → result ≡ take (length text - at) (drop at text) → skip (drop at text) ≡ all → result ≡ all
skip_done text all result at h not is e =
    is ∙ take_all (length text - at) (drop at text) (omega (arith, length-drop at text)) ∙ drop-cons text at 0 h
    ∙ ap (λ b. if b then skip (drop (suc at) text) else get_or text at 0 ∷ drop (suc at) text) (let t : false ≡ (get_or text at 0 == 32) = grind (arith, nat_tests, not) in t)
    ∙ ap skip (sym (drop-cons text at 0 h)) ∙ e

pub skip_end : (text all : List ℕ) (at : ℕ) → length text ≤ at → skip (drop at text) ≡ all → [] ≡ all
skip_end text all at h e = ap skip (sym (drop_of_length-le text {i = at} h)) ∙ e

pub skip_empty : (text : List ℕ) → length text ≡ 0 → text ≡ skip text
skip_empty [] h = refl
skip_empty (b ∷ text) h = absurd (omega (arith, h))

pub skip_none : (text : List ℕ) → (length text ≡ 0 → ⊥) → (get_or text 0 0 ≡ 32 → ⊥) → text ≡ skip text
skip_none [] h n = refl
skip_none (b ∷ text) h n = ap (λ t. if t then skip text else b ∷ text) (let t : false ≡ (b == 32) = grind (arith, nat_tests, n) in t)

all_more : (xs : List ℕ) (c : ℕ) → IsTrue (list_all is_word_byte xs) → is_word_byte c ≡ true → IsTrue (list_all is_word_byte (xs ++ c ∷ []))
all_more [] c h k = and_both (is_word_byte c) true k refl
all_more (d ∷ xs) c h k = let p = and_parts (is_word_byte d) _ h in and_both (is_word_byte d) _ p.0 (all_more xs c p.1 k)

pub word_here : (text : List ℕ) (at : ℕ) → at < length text → is_word_byte (get_or text at 0) ≡ true → IsTrue (list_all is_word_byte (take at text))
    → IsTrue (list_all is_word_byte (take (at + 1) text))
word_here text at h is all =
    subst (λ n. IsTrue (list_all is_word_byte (take n text))) (sym (add-one at)) (subst (λ l. IsTrue (list_all is_word_byte l)) (sym (take-suc text at 0 h)) (all_more (take at text) (get_or text at 0) all is))

pub word_done : (text : List ℕ) (at : ℕ) → at < length text → is_word_byte (get_or text at 0) ≡ false → IsTrue (list_all is_word_byte (take at text))
    → IsWordLength text at
word_done text at h is all = record { within = omega (arith, h); all = all; ends = subst Ends (sym (drop-cons text at 0 h)) is }

pub word_end : (text : List ℕ) (at : ℕ) → length text ≤ at → at ≤ length text → IsTrue (list_all is_word_byte (take at text)) → IsWordLength text at
word_end text at h k all = record { within = k; all = all; ends = subst Ends (sym (drop_of_length-le text {i = at} h)) tt }

pub split_there : (text word rest : List ℕ) (at : ℕ) → IsWordLength text at → word ≡ take at text → rest ≡ take (length text - at) (drop at text)
    → IsSplit text word rest
split_there text word rest at w e f =
    let r : rest ≡ drop at text = f ∙ take_all (length text - at) (drop at text) (omega (arith, length-drop at text)) in
    record { parts = sym (ap (λ l. l ++ rest) e ∙ ap (λ l. take at text ++ l) r ∙ take-append-drop at text); all = subst (λ l. IsTrue (list_all is_word_byte l)) (sym e) w.all; ends = subst Ends (sym r) w.ends }

pub common_here : (xs ys : List ℕ) (at all : ℕ) → at < length xs → at < length ys → get_or xs at 0 ≡ get_or ys at 0
    → at + common (drop at xs) (drop at ys) ≡ all → at + 1 + common (drop (at + 1) xs) (drop (at + 1) ys) ≡ all
common_here xs ys at all h k same e =
    let s : common (drop at xs) (drop at ys) ≡ suc (common (drop (suc at) xs) (drop (suc at) ys)) =
    ap (λ l. common l (drop at ys)) (drop-cons xs at 0 h) ∙ ap (common (get_or xs at 0 ∷ drop (suc at) xs)) (drop-cons ys at 0 k)
    ∙ ap (λ b. if b then suc (common (drop (suc at) xs) (drop (suc at) ys)) else 0) (let t : (get_or xs at 0 == get_or ys at 0) ≡ true = grind (arith, nat_tests, same) in t) in
    let n : common (drop (at + 1) xs) (drop (at + 1) ys) ≡ common (drop (suc at) xs) (drop (suc at) ys) = ap (λ n. common (drop n xs) (drop n ys)) (add-one at) in
    omega (arith, e, s, n)

pub common_done : (xs ys : List ℕ) (at all : ℕ) → at < length xs → at < length ys → (get_or xs at 0 ≡ get_or ys at 0 → ⊥)
    → at + common (drop at xs) (drop at ys) ≡ all → at ≡ all
common_done xs ys at all h k not e =
    let s : common (drop at xs) (drop at ys) ≡ 0 =
    ap (λ l. common l (drop at ys)) (drop-cons xs at 0 h) ∙ ap (common (get_or xs at 0 ∷ drop (suc at) xs)) (drop-cons ys at 0 k)
    ∙ ap (λ b. if b then suc (common (drop (suc at) xs) (drop (suc at) ys)) else 0) (let t : (get_or xs at 0 == get_or ys at 0) ≡ false = grind (arith, nat_tests, not) in t) in
    omega (arith, e, s)

common_none : (xs : List ℕ) → common xs [] ≡ 0
common_none [] = refl
common_none (x ∷ xs) = refl

pub common_end : (xs ys : List ℕ) (at all : ℕ) → (length xs ≤ at) ⊎ (length ys ≤ at) → at + common (drop at xs) (drop at ys) ≡ all → at ≡ all
common_end xs ys at all (inl h) e = let s : common (drop at xs) (drop at ys) ≡ 0 = ap (λ l. common l (drop at ys)) (drop_of_length-le xs {i = at} h) in omega (arith, e, s)
common_end xs ys at all (inr h) e = let s : common (drop at xs) (drop at ys) ≡ 0 = ap (common (drop at xs)) (drop_of_length-le ys {i = at} h) ∙ common_none (drop at xs) in omega (arith, e, s)

-- ---- names in front

pub ends_none : (rest : List ℕ) → length rest ≡ 0 → Ends rest
ends_none [] h = tt
ends_none (b ∷ rest) h = absurd (omega (arith, h))

pub ends_byte : (rest : List ℕ) (d : ℕ) → (length rest ≡ 0 → ⊥) → is_word_byte (get_or rest 0 d) ≡ false → Ends rest
ends_byte [] d n h = tt
ends_byte (b ∷ rest) d n h = h

common_some : (x y : ℕ) (xs ys : List ℕ) (P : ℕ → Type 0) → ((x ≡ y) → P (suc (common xs ys))) → P 0 → P (common (x ∷ xs) (y ∷ ys))
common_some x y xs ys P f z = by_test (x == y) refl
  where
    by_test : (t : Bool) → (x == y) ≡ t → P (if t then suc (common xs ys) else 0)
    by_test true e = f (grind (arith, nat_tests, e))
    by_test false e = z

within_word : (xs ys : List ℕ) → common xs ys ≤ length ys
within_word [] ys = omega arith
within_word (x ∷ xs) [] = omega arith
within_word (x ∷ xs) (y ∷ ys) = common_some x y xs ys (λ n. n ≤ suc (length ys)) (λ e. omega (arith, within_word xs ys)) (omega arith)

pub common_within : (xs ys : List ℕ) (at : ℕ) → at ≡ common xs ys → at ≤ length ys
common_within xs ys at e = omega (arith, e, within_word xs ys)

whole_name : (xs ys : List ℕ) → length xs ≤ common xs ys → ys ≡ xs ++ drop (length xs) ys
whole_name [] ys h = refl
whole_name (x ∷ xs) [] h = absurd (omega (arith, h))
whole_name (x ∷ xs) (y ∷ ys) h =
    common_some x y xs ys (λ n. suc (length xs) ≤ n → y ∷ ys ≡ x ∷ (xs ++ drop (length xs) ys))
    (λ e k. ap (λ b. b ∷ ys) (sym e) ∙ ap (λ l. x ∷ l) (whole_name xs ys (omega (arith, k)))) (λ k. absurd (omega (arith, k))) h

pub behind_here : (name text rest : List ℕ) (count : ℕ) → count ≡ length name → length name ≤ common name text
    → rest ≡ take (length text - count) (drop count text) → Ends rest → IsBehind name text rest
behind_here name text rest count size all is ends =
    let r : rest ≡ drop (length name) text = is ∙ take_all (length text - count) (drop count text) (omega (arith, length-drop count text)) ∙ ap (λ n. drop n text) size in
    record { parts = whole_name name text all ∙ ap (λ l. name ++ l) (sym r); ends = ends }

-- four more bytes are the same
pub common_fours : (xs ys : List ℕ) (at all : ℕ) → at + 4 ≤ length xs → at + 4 ≤ length ys → IsSameFour xs ys at
    → at + common (drop at xs) (drop at ys) ≡ all → at + 4 + common (drop (at + 4) xs) (drop (at + 4) ys) ≡ all
common_fours xs ys at all h k f e =
    let a = common_here xs ys at all (omega (arith, h)) (omega (arith, k)) f.first e in
    let b = common_here xs ys (at + 1) all (omega (arith, h)) (omega (arith, k)) f.second a in
    let c : at + 1 + 1 + common (drop (at + 2) xs) (drop (at + 2) ys) ≡ all =
    subst (λ n. at + 1 + 1 + common (drop n xs) (drop n ys) ≡ all) (let p : at + 1 + 1 ≡ at + 2 = omega arith in p) b in
    let d = common_here xs ys (at + 2) all (omega (arith, h)) (omega (arith, k)) f.third (subst (λ n. n + common (drop (at + 2) xs) (drop (at + 2) ys) ≡ all) (let p : at + 1 + 1 ≡ at + 2 = omega arith in p) c) in
    let g = subst (λ n. n + common (drop n xs) (drop n ys) ≡ all) (let p : at + 2 + 1 ≡ at + 3 = omega arith in p) d in
    let i = common_here xs ys (at + 3) all (omega (arith, h)) (omega (arith, k)) f.fourth g in
    subst (λ n. n + common (drop n xs) (drop n ys) ≡ all) (let p : at + 3 + 1 ≡ at + 4 = omega arith in p) i

same_byte : (x y : ℕ) → (x == y) ≡ true → x ≡ y
same_byte x y e = grind (arith, nat_tests, e)

pub four_same : (xs ys : List ℕ) (at : ℕ)
    → ((((get_or xs at 0 == get_or ys at 0) && (get_or xs (at + 1) 0 == get_or ys (at + 1) 0)) && (get_or xs (at + 2) 0 == get_or ys (at + 2) 0)) && (get_or xs (at + 3) 0 == get_or ys (at + 3) 0)) ≡ true
    → IsSameFour xs ys at
four_same xs ys at e =
    let p = and_parts _ (get_or xs (at + 3) 0 == get_or ys (at + 3) 0) e in
    let q = and_parts _ (get_or xs (at + 2) 0 == get_or ys (at + 2) 0) p.0 in
    let r = and_parts (get_or xs at 0 == get_or ys at 0) (get_or xs (at + 1) 0 == get_or ys (at + 1) 0) q.0 in
    record {
      first = same_byte (get_or xs at 0) (get_or ys at 0) r.0;
      second = same_byte (get_or xs (at + 1) 0) (get_or ys (at + 1) 0) r.1;
      third = same_byte (get_or xs (at + 2) 0) (get_or ys (at + 2) 0) q.1;
      fourth = same_byte (get_or xs (at + 3) 0) (get_or ys (at + 3) 0) p.1;
    }
