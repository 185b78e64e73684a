-- One more from the front.
use Rattle.std.proofs.Common.{◌≡◌, ℕ, zero, suc, ◌+◌, ◌-◌, ◌<◌, ◌≤◌, List, [], ◌∷◌, ◌++◌, length, map, refl, sym, ap, ◌∙◌, subst, arith}
use Rattle.std.specs.List.{AllByRecursion, range_with_len}
use Rattle.std.proofs.lemmas.List.{append-nil, append_assoc, map-append}
use Rattle.camelot_values.specs.Lists.{Ascend}
use Rattle.annotations.specs.Vectors.{Vector, IsVector}
use Rattle.lp_system.specs.Found.{with_units}
use Rattle.camelot_values.specs.Kinds.{DataType}
use Rattle.grail_code.specs.Code.{Func}
use Rattle.certificate.specs.Certificates.{BlockCert}
use Rattle.certificate.specs.Words.{block_of}
use Rattle.certificate.specs.declared.types.BlockCert.{BlockCert as DeclaredBlock}
use Rattle.lp_solution.specs.Taking.{value_of, others_of, vector_from, block_from, behind_block, blocks_from, behind_blocks}

pub some_more : (made whole : Vector) (c : ℕ) (cs vs : List ℕ) → made ++ vector_from (c ∷ cs) vs ≡ whole → 0 < value_of vs
    → (made ++ (c, value_of vs) ∷ []) ++ vector_from cs (others_of vs) ≡ whole
some_more made whole c cs vs e some = append_assoc made ((c, value_of vs) ∷ []) (vector_from cs (others_of vs)) ∙ ap (λ v. made ++ (v ++ vector_from cs (others_of vs))) (one (value_of vs) some) ∙ e
  where
    one : (n : ℕ) → 0 < n → (c, n) ∷ [] ≡ with_units c n
    one zero h = absurd (omega (arith, h))
    one (suc n) h = refl

pub none_more : (made whole : Vector) (c : ℕ) (cs vs : List ℕ) → made ++ vector_from (c ∷ cs) vs ≡ whole → value_of vs ≤ 0
    → made ++ vector_from cs (others_of vs) ≡ whole
none_more made whole c cs vs e none = ap (λ v. made ++ (v ++ vector_from cs (others_of vs))) (nothing (value_of vs) none) ∙ e
  where
    nothing : (n : ℕ) → n ≤ 0 → [] ≡ with_units c n
    nothing zero h = refl
    nothing (suc n) h = absurd (omega (arith, h))

-- ---- the form of what is taken

above : (x : ℕ) (xs : List ℕ) → Ascend (x ∷ xs) → AllByRecursion (λ y. x < y) xs
above x [] h = tt
above x (y ∷ xs) h = (h.0, lift xs (above y xs h.1))
  where
    lift : (zs : List ℕ) → AllByRecursion (λ z. y < z) zs → AllByRecursion (λ z. x < z) zs
    lift [] k = tt
    lift (z ∷ zs) k = (omega (arith, h.0, k.0), lift zs k.1)

rest_ascends : (x : ℕ) (xs : List ℕ) → Ascend (x ∷ xs) → Ascend xs
rest_ascends x [] h = tt
rest_ascends x (y ∷ xs) h = h.1

in_front : (x : ℕ) (xs : List ℕ) → AllByRecursion (λ y. x < y) xs → Ascend xs → Ascend (x ∷ xs)
in_front x [] h k = tt
in_front x (y ∷ xs) h k = (h.0, k)

taken_above : (low : ℕ) (cs vs : List ℕ) → AllByRecursion (λ c. low < c) cs → AllByRecursion (λ c. low < c) (map (λ p. p.0) (vector_from cs vs))
taken_above low [] vs h = tt
taken_above low (c ∷ cs) vs h = by_units (taken_above low cs (others_of vs) h.1) (value_of vs)
  where
    by_units : AllByRecursion (λ c. low < c) (map (λ p. p.0) (vector_from cs (others_of vs))) → (n : ℕ)
        → AllByRecursion (λ c. low < c) (map (λ p. p.0) (with_units c n ++ vector_from cs (others_of vs)))
    by_units rest zero = rest
    by_units rest (suc n) = (h.0, rest)

taken_formed : (cs vs : List ℕ) → Ascend cs → IsVector (vector_from cs vs)
taken_formed [] vs h = record { ascending = tt; some = tt }
taken_formed (c ∷ cs) vs h = by_units (taken_formed cs (others_of vs) (rest_ascends c cs h)) (value_of vs)
  where
    by_units : IsVector (vector_from cs (others_of vs)) → (n : ℕ) → IsVector (with_units c n ++ vector_from cs (others_of vs))
    by_units rest zero = rest
    by_units rest (suc n) = record { ascending = in_front c (map (λ p. p.0) (vector_from cs (others_of vs))) (taken_above c cs (others_of vs) (above c cs h)) rest.ascending; some = (omega arith, rest.some) }

-- when none is left
pub formed_at_end : (made : Vector) (rest cs vs ws : List ℕ) → Ascend cs → length rest < 1 → made ++ vector_from rest vs ≡ vector_from cs ws → IsVector made
formed_at_end made [] cs vs ws h few e = subst IsVector (sym (sym (append-nil made) ∙ e)) (taken_formed cs ws h)
formed_at_end made (r ∷ rest) cs vs ws h few e = absurd (omega (arith, few))

-- ---- numbers in a row

pub range_more : (a n : ℕ) → range_with_len a (n + 1) ≡ range_with_len a n ++ (a + n) ∷ []
range_more a zero = let e : a ≡ a + 0 = omega arith in ap (λ x. x ∷ []) e
range_more a (suc n) = (let z : suc n + 1 ≡ suc (n + 1) = omega arith in ap (range_with_len a) z) ∙ ap (λ r. a ∷ r) (range_more (a + 1) n ∙ (let e : a + 1 + n ≡ a + suc n = omega arith in ap (λ x. range_with_len (a + 1) n ++ x ∷ []) e))

pub one_number_more : (numbers : List ℕ) (n : ℕ) → numbers ≡ range_with_len 0 n → numbers ++ n ∷ [] ≡ range_with_len 0 (n + 1)
one_number_more numbers n e = ap (λ xs. xs ++ n ∷ []) e ∙ sym (range_more 0 n ∙ (let z : 0 + n ≡ n = omega arith in ap (λ x. range_with_len 0 n ++ x ∷ []) z))

range_first : (n k : ℕ) → n < k → range_with_len n (k - n) ≡ n ∷ range_with_len (n + 1) (k - (n + 1))
range_first n k less = let e : k - n ≡ suc (k - (n + 1)) = omega (arith, less) in ap (range_with_len n) e

-- one block more
pub block_more : (types : List DataType) (f : Func) (made whole : List BlockCert) (n k : ℕ) (vs : List ℕ) → n < k
    → made ++ blocks_from types f (range_with_len n (k - n)) vs ≡ whole
    → (made ++ block_from types f n vs ∷ []) ++ blocks_from types f (range_with_len (n + 1) (k - (n + 1))) (behind_block types f n vs) ≡ whole
block_more types f made whole n k vs less e =
    append_assoc made (block_from types f n vs ∷ []) (blocks_from types f (range_with_len (n + 1) (k - (n + 1))) (behind_block types f n vs))
    ∙ ap (λ bs. made ++ blocks_from types f bs vs) (sym (range_first n k less)) ∙ e

pub behind_more : (types : List DataType) (f : Func) (whole : List ℕ) (n k : ℕ) (vs : List ℕ) → n < k
    → behind_blocks types f (range_with_len n (k - n)) vs ≡ whole
    → behind_blocks types f (range_with_len (n + 1) (k - (n + 1))) (behind_block types f n vs) ≡ whole
behind_more types f whole n k vs less e = ap (λ bs. behind_blocks types f bs vs) (sym (range_first n k less)) ∙ e

-- the same of blocks as the code has them
pub block_pushed : (types : List DataType) (f : Func) (old new : List DeclaredBlock) (block : DeclaredBlock) (whole : List BlockCert) (n k : ℕ) (vs vs' : List ℕ) → new ≡ old ++ block ∷ [] → block_of block ≡ block_from types f n vs → vs' ≡ behind_block types f n vs → n < k
    → map block_of old ++ blocks_from types f (range_with_len n (k - n)) vs ≡ whole → map block_of new ++ blocks_from types f (range_with_len (n + 1) (k - (n + 1))) vs' ≡ whole
block_pushed types f old new block whole n k vs vs' pushed is left less e =
    ap (λ bs. map block_of bs ++ blocks_from types f (range_with_len (n + 1) (k - (n + 1))) vs') pushed
    ∙ ap (λ ms. ms ++ blocks_from types f (range_with_len (n + 1) (k - (n + 1))) vs') (map-append block_of old (block ∷ []))
    ∙ ap (λ b. (map block_of old ++ b ∷ []) ++ blocks_from types f (range_with_len (n + 1) (k - (n + 1))) vs') is
    ∙ ap (λ v. (map block_of old ++ block_from types f n vs ∷ []) ++ blocks_from types f (range_with_len (n + 1) (k - (n + 1))) v) left
    ∙ block_more types f (map block_of old) whole n k vs less e

pub behind_pushed : (types : List DataType) (f : Func) (whole : List ℕ) (n k : ℕ) (vs vs' : List ℕ) → vs' ≡ behind_block types f n vs → n < k
    → behind_blocks types f (range_with_len n (k - n)) vs ≡ whole → behind_blocks types f (range_with_len (n + 1) (k - (n + 1))) vs' ≡ whole
behind_pushed types f whole n k vs vs' left less e = ap (behind_blocks types f (range_with_len (n + 1) (k - (n + 1)))) left ∙ behind_more types f whole n k vs less e
