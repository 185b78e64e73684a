-- One item further in the walks over functions and over parameters.
use Rattle.std.proofs.Common.{◌≡◌, ℕ, zero, suc, ◌+◌, ◌<◌, List, [], ◌∷◌, length, map, drop, get_or, refl, sym, ap, ◌∙◌, subst, arith}
use Rattle.camelot_values.specs.Kinds.{DataType}
use Rattle.camelot_values.specs.declared.kinds.Kind.{Kind}
use Rattle.grail_code.specs.Code.{Func, Code, func_of}
use Rattle.grail_code.specs.declared.code.Func.{Func as DeclaredFunc}
use Rattle.lp_system.specs.Unknowns.{local_carriers}
use Rattle.lp_size.specs.Counting.{more, func_rows, funcs_onto, params_onto, func_count, funcs_count_onto}

item_here : {A : Type 0} (xs : List A) (i : ℕ) (x : A) → i < length xs → x ≡ get_or xs i x → drop i xs ≡ x ∷ drop (suc i) xs
item_here [] i x h e = absurd (omega (arith, h))
item_here (y ∷ xs) zero x h e = ap (λ u. u ∷ xs) (sym e)
item_here (y ∷ xs) (suc i) x h e = item_here xs i x (omega (arith, h)) e

next : (i : ℕ) → suc i ≡ i + 1
next i = omega arith

pub count_more : (types : List DataType) (fs : List DeclaredFunc) (i total whole : ℕ) (f : DeclaredFunc) (n t : ℕ) → i < length fs
    → f ≡ get_or fs i f → funcs_count_onto types total (map func_of (drop i fs)) ≡ whole
    → n ≡ func_count types (func_of f) → t ≡ more total n → funcs_count_onto types t (map func_of (drop (i + 1) fs)) ≡ whole
count_more types fs i total whole f n t h e before is sum =
    subst (λ j. funcs_count_onto types t (map func_of (drop j fs)) ≡ whole) (next i)
    (ap (λ m. funcs_count_onto types m (map func_of (drop (suc i) fs))) (sum ∙ ap (more total) is)
    ∙ sym (ap (λ xs. funcs_count_onto types total (map func_of xs)) (item_here fs i f h e)) ∙ before)

one_less : {A : Type 0} (xs : List A) (i : ℕ) → i < length xs → (x : A) × (drop i xs ≡ x ∷ drop (suc i) xs)
one_less [] i h = absurd (omega (arith, h))
one_less (x ∷ xs) zero h = (x, refl)
one_less (x ∷ xs) (suc i) h = one_less xs i (omega (arith, h))

pub params_more : (types : List DataType) (f : Func) (qs : List Kind) (i number total whole n t : ℕ) → i < length qs
    → params_onto types f number total (drop i qs) ≡ whole → n ≡ length (local_carriers types f number) → t ≡ more total n
    → params_onto types f (number + 1) t (drop (i + 1) qs) ≡ whole
params_more types f qs i number total whole n t h before is sum =
    let q = one_less qs i h in
    subst (λ k. params_onto types f k t (drop (i + 1) qs) ≡ whole) (next number)
    (subst (λ j. params_onto types f (suc number) t (drop j qs) ≡ whole) (next i)
    (ap (λ m. params_onto types f (suc number) m (drop (suc i) qs)) (sum ∙ ap (more total) is)
    ∙ sym (ap (params_onto types f number total) q.1) ∙ before))

pub rows_more : (p : Code) (fs : List DeclaredFunc) (i number total whole : ℕ) (f : DeclaredFunc) (n t : ℕ) → i < length fs
    → f ≡ get_or fs i f → funcs_onto p number total (map func_of (drop i fs)) ≡ whole
    → n ≡ func_rows p number (func_of f) → t ≡ more total n → funcs_onto p (number + 1) t (map func_of (drop (i + 1) fs)) ≡ whole
rows_more p fs i number total whole f n t h e before is sum =
    subst (λ k. funcs_onto p k t (map func_of (drop (i + 1) fs)) ≡ whole) (next number)
    (subst (λ j. funcs_onto p (suc number) t (map func_of (drop j fs)) ≡ whole) (next i)
    (ap (λ m. funcs_onto p (suc number) m (map func_of (drop (suc i) fs))) (sum ∙ ap (more total) is)
    ∙ sym (ap (λ xs. funcs_onto p number total (map func_of xs)) (item_here fs i f h e)) ∙ before))
