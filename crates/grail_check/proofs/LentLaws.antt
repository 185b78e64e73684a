-- The locals that are only read, as the code marks them.
use Rattle.std.proofs.Common.{◌≡◌, ℕ, zero, suc, ◌+◌, ◌<◌, ◌≤◌, Bool, true, false, List, [], ◌∷◌, ◌++◌, length, map, drop, get_or, take, Option, Some, None, refl, sym, ap, ◌∙◌, subst, arith, append_assoc, append-nil}
use Rattle.std.specs.Prelude.{◌||◌, ◌==◌, slice_get, slice_set, flat_map, replicate, ◌&&◌}
use Rattle.std.specs.Option.{option_map, option_map_or}
use Rattle.std.proofs.lemmas.Bool.Decides.{nat_tests}
use Rattle.std.proofs.lemmas.List.{length-set, length-append, length-replicate, take_all, map_push, flat_map_more}
use Rattle.std.proofs.lemmas.Grind.{take_at_read}
use Rattle.camelot_values.specs.Kinds.{DataType}
use Rattle.camelot_values.specs.Lists.{is_among}
use Rattle.camelot_values.specs.declared.kinds.Kind.{Kind}
use Rattle.grail_code.specs.Code.{Func}
use Rattle.grail_code.specs.WellFormed.{local_kinds, kind_of, is_read, looked_in, taken_by, read_by}
use Rattle.grail_check.specs.Marked.{mark_all, all_marks}
use Rattle.grail_check.specs.Faulting.{local_of, locals_from, param_lends, lends_from, spend_all, again_fault}
use Rattle.grail_check.specs.declared.locals.Local.{Local}
use Rattle.grail_check.specs.declared.locals.Mark.{Mark}

pub marks_both : (marks : List Bool) (xs ys : List ℕ) → mark_all marks (xs ++ ys) ≡ mark_all (mark_all marks xs) ys
marks_both marks [] ys = refl
marks_both marks (x ∷ xs) ys = marks_both (slice_set marks x true) xs ys

nothing_before : (xs : List ℕ) → [] ++ xs ≡ xs
nothing_before xs = refl

-- what is looked at by one thing more
pub looked_more : {X A : Type 0} (f : X → A) (look : A → List ℕ) (first out now : List Bool) (xs : List X) (i : ℕ) (x : X) → i < length xs → x ≡ get_or xs i x
    → now ≡ mark_all out (look (f x)) → out ≡ mark_all first (flat_map look (map f (take i xs))) → now ≡ mark_all first (flat_map look (map f (take (i + 1) xs)))
looked_more f look first out now xs i x lt e done so_far =
    let one : take (i + 1) xs ≡ take i xs ++ x ∷ [] = (take_at_read xs i x lt).1 ∙ ap (λ y. take i xs ++ y ∷ []) (sym e) in
    let all : map f (take (i + 1) xs) ≡ map f (take i xs) ++ f x ∷ [] = ap (map f) one ∙ map_push f (take i xs) x in
    done ∙ ap (λ w. mark_all w (look (f x))) so_far ∙ sym (marks_both first (flat_map look (map f (take i xs))) (look (f x)))
    ∙ ap (mark_all first) (flat_map_more look [] (map f (take i xs)) (f x) ∙ ap (flat_map look) (sym all))

pub looked_done : {X A : Type 0} (f : X → A) (look : A → List ℕ) (first out : List Bool) (xs : List X) (i : ℕ) → length xs ≤ i
    → out ≡ mark_all first (flat_map look (map f (take i xs))) → out ≡ mark_all first (flat_map look (map f xs))
looked_done f look first out xs i le so_far = so_far ∙ ap (λ ys. mark_all first (flat_map look (map f ys))) (take_all i xs le)

-- ---- one mark

set_here : (marks : List Bool) (x : ℕ) → slice_get (slice_set marks x true) x ≡ option_map (λ b. true) (slice_get marks x)
set_here [] x = refl
set_here (b ∷ marks) zero = refl
set_here (b ∷ marks) (suc x) = set_here marks x

set_elsewhere : (marks : List Bool) (y x : ℕ) → (y ≡ x → ⊥) → slice_get (slice_set marks y true) x ≡ slice_get marks x
set_elsewhere [] y x n = refl
set_elsewhere (b ∷ marks) zero zero n = absurd (n refl)
set_elsewhere (b ∷ marks) zero (suc x) n = refl
set_elsewhere (b ∷ marks) (suc y) zero n = refl
set_elsewhere (b ∷ marks) (suc y) (suc x) n = set_elsewhere marks y x (λ e. n (ap suc e))

or_true : (b : Bool) → (b || true) ≡ true
or_true true = refl
or_true false = refl

or_false : (b : Bool) → (b || false) ≡ b
or_false true = refl
or_false false = refl

pub marked : (marks : List Bool) (xs : List ℕ) (x : ℕ) → slice_get (mark_all marks xs) x ≡ option_map (λ b. b || is_among xs x) (slice_get marks x)
marked marks [] x = by_mark (slice_get marks x)
  where
    by_mark : (o : Option Bool) → o ≡ option_map (λ b. b || false) o
    by_mark None = refl
    by_mark (Some b) = ap Some (sym (or_false b))
marked marks (y ∷ xs) x = marked (slice_set marks y true) xs x ∙ by_test (y == x) refl
  where
    by_mark : (o : Option Bool) → option_map (λ b. b || is_among xs x) (option_map (λ b. true) o) ≡ option_map (λ b. b || true) o
    by_mark None = refl
    by_mark (Some b) = ap Some (sym (or_true b))

    by_test : (t : Bool) → (y == x) ≡ t → option_map (λ b. b || is_among xs x) (slice_get (slice_set marks y true) x) ≡ option_map (λ b. b || (t || is_among xs x)) (slice_get marks x)
    by_test true e = let same : y ≡ x = grind (arith, nat_tests, e) in
        subst (λ z. option_map (λ b. b || is_among xs x) (slice_get (slice_set marks z true) x) ≡ option_map (λ b. b || true) (slice_get marks x)) (sym same)
        (ap (option_map (λ b. b || is_among xs x)) (set_here marks x) ∙ by_mark (slice_get marks x))
    by_test false e =
        ap (option_map (λ b. b || is_among xs x)) (set_elsewhere marks y x (λ same. let c : (y == x) ≡ true = grind (arith, nat_tests, same) in let k : false ≡ true = sym e ∙ c in absurd cc))

-- ---- all locals of a function

pub marked_count : (marks : List Bool) (xs : List ℕ) → length (mark_all marks xs) ≡ length marks
marked_count marks [] = refl
marked_count marks (x ∷ xs) = marked_count (slice_set marks x true) xs ∙ length-set marks x true

marks_there : (reads : List Bool) (params locals : List Kind) (x : ℕ) → length reads ≡ length params → x < length (params ++ locals)
    → slice_get (reads ++ replicate (length locals) false) x ≡ Some (option_map_or (λ mark. mark) (slice_get reads x) false)
marks_there [] [] [] x e less = absurd (omega (arith, less))
marks_there [] [] (q ∷ locals) zero e less = refl
marks_there [] [] (q ∷ locals) (suc x) e less = marks_there [] [] locals x refl (omega (arith, less))
marks_there [] (q ∷ params) locals x e less = absurd (omega (arith, e))
marks_there (b ∷ reads) [] locals x e less = absurd (omega (arith, e))
marks_there (b ∷ reads) (q ∷ params) locals zero e less = refl
marks_there (b ∷ reads) (q ∷ params) locals (suc x) e less = marks_there reads params locals x (omega (arith, e)) (omega (arith, less))

pub reads_count : (f : Func) → length f.reads ≡ length f.params → length (mark_all (all_marks f) (looked_in f)) ≡ length (local_kinds f)
reads_count f e =
    let marks = length-append f.reads (replicate (length f.locals) false) in
    let further = length-replicate (length f.locals) false in
    let kinds = length-append f.params f.locals in
    let count = marked_count (all_marks f) (looked_in f) in
    omega (arith, e, marks, further, kinds, count)

pub reads_known : (f : Func) → length f.reads ≡ length f.params → (x : ℕ) → x < length (local_kinds f) → slice_get (mark_all (all_marks f) (looked_in f)) x ≡ Some (is_read f x)
reads_known f e x less = marked (all_marks f) (looked_in f) x ∙ ap (option_map (λ b. b || is_among (looked_in f) x)) (marks_there f.reads f.params f.locals x e less)

-- what was lent as a slice is there again
pub whole_again : (n : ℕ) (xs ys : List Bool) → length xs ≡ n → take n (xs ++ ys) ≡ xs
whole_again zero [] ys e = refl
whole_again zero (x ∷ xs) ys e = absurd (omega (arith, e))
whole_again (suc n) [] ys e = absurd (omega (arith, e))
whole_again (suc n) (x ∷ xs) ys e = ap (λ l. x ∷ l) (whole_again n xs ys (omega (arith, e)))

-- ---- the list of what is known of each

some_kind : (ks : List Kind) (n : ℕ) (k : Kind) → slice_get ks n ≡ Some k → drop n ks ≡ k ∷ drop (suc n) ks
some_kind [] n k e = absurd cc
some_kind (q ∷ ks) zero k e = let same : q ≡ k = cc in ap (λ r. r ∷ ks) same
some_kind (q ∷ ks) (suc n) k e = some_kind ks n k e

no_kind : (ks : List Kind) (n : ℕ) → slice_get ks n ≡ None → drop n ks ≡ []
no_kind [] zero e = refl
no_kind [] (suc n) e = refl
no_kind (q ∷ ks) zero e = absurd cc
no_kind (q ∷ ks) (suc n) e = no_kind ks n e

past_kinds : (ks : List Kind) (n : ℕ) → length ks ≤ n → drop n ks ≡ []
past_kinds [] zero less = refl
past_kinds [] (suc n) less = refl
past_kinds (q ∷ ks) zero less = absurd (omega (arith, less))
past_kinds (q ∷ ks) (suc n) less = past_kinds ks n (omega (arith, less))

pub locals_more : (types : List DataType) (f : Func) (n : ℕ) (k : Kind) (read : Bool) (one : Local) (made more whole : List Local) → kind_of f n ≡ Some k → read ≡ is_read f n → one ≡ local_of types k read
    → more ≡ made ++ one ∷ [] → made ++ locals_from types f n (drop n (local_kinds f)) ≡ whole → more ++ locals_from types f (n + 1) (drop (n + 1) (local_kinds f)) ≡ whole
locals_more types f n k read one made more whole is r o pushed so_far =
    let next : n + 1 ≡ suc n = omega arith in
    ap (λ l. l ++ locals_from types f (n + 1) (drop (n + 1) (local_kinds f))) (pushed ∙ ap (λ l. made ++ l ∷ []) (o ∙ ap (local_of types k) r))
    ∙ append_assoc made (local_of types k (is_read f n) ∷ []) (locals_from types f (n + 1) (drop (n + 1) (local_kinds f)))
    ∙ ap (λ m. made ++ local_of types k (is_read f n) ∷ locals_from types f m (drop m (local_kinds f))) next
    ∙ ap (λ ks. made ++ locals_from types f n ks) (sym (some_kind (local_kinds f) n k is)) ∙ so_far

read_there : (reads : List Bool) (n : ℕ) → n < length reads → slice_get reads n ≡ Some (get_or reads n false)
read_there [] n less = absurd (omega (arith, less))
read_there (b ∷ reads) zero less = refl
read_there (b ∷ reads) (suc n) less = read_there reads n (omega (arith, less))

pub locals_step : (types : List DataType) (f : Func) (reads : List Bool) (n : ℕ) (k : Kind) (made more whole : List Local)
    → ((x : ℕ) → x < length (local_kinds f) → slice_get reads x ≡ Some (is_read f x)) → length reads ≡ length (local_kinds f) → n < length reads
    → kind_of f n ≡ Some k → more ≡ made ++ local_of types k (get_or reads n false) ∷ [] → made ++ locals_from types f n (drop n (local_kinds f)) ≡ whole
    → more ++ locals_from types f (n + 1) (drop (n + 1) (local_kinds f)) ≡ whole
locals_step types f reads n k made more whole known count less is pushed so_far =
    let there : slice_get reads n ≡ Some (get_or reads n false) = read_there reads n less in
    let told : slice_get reads n ≡ Some (is_read f n) = known n (omega (arith, less, count)) in
    let both : Some (get_or reads n false) ≡ Some (is_read f n) = sym there ∙ told in
    let same : get_or reads n false ≡ is_read f n = cc in
    locals_more types f n k (get_or reads n false) (local_of types k (get_or reads n false)) made more whole is same refl pushed so_far

pub locals_none : (types : List DataType) (f : Func) (n : ℕ) (made whole : List Local) → kind_of f n ≡ None
    → made ++ locals_from types f n (drop n (local_kinds f)) ≡ whole → made ≡ whole
locals_none types f n made whole is so_far = sym (append-nil made) ∙ ap (λ ks. made ++ locals_from types f n ks) (sym (no_kind (local_kinds f) n is)) ∙ so_far

pub locals_end : (types : List DataType) (f : Func) (n : ℕ) (made whole : List Local) → length (local_kinds f) ≤ n
    → made ++ locals_from types f n (drop n (local_kinds f)) ≡ whole → made ≡ whole
locals_end types f n made whole past so_far = sym (append-nil made) ∙ ap (λ ks. made ++ locals_from types f n ks) (sym (past_kinds (local_kinds f) n past)) ∙ so_far

-- ---- parameters that are lent

pub params_more : (types : List DataType) (f : Func) (n : ℕ) (whole : Bool) → n < length f.params → param_lends types f n ≡ true
    → lends_from types f n (drop n f.params) ≡ whole → lends_from types f (n + 1) (drop (n + 1) f.params) ≡ whole
params_more types f n whole less here so_far = on f.params less so_far
  where
    next : n + 1 ≡ suc n
    next = omega arith

    step : (qs : List Kind) (m : ℕ) → m < length qs → lends_from types f n (drop m qs) ≡ (param_lends types f n && lends_from types f (suc n) (drop (suc m) qs))
    step [] m l = absurd (omega (arith, l))
    step (q ∷ qs) zero l = refl
    step (q ∷ qs) (suc m) l = step qs m (omega (arith, l))

    on : (qs : List Kind) → n < length qs → lends_from types f n (drop n qs) ≡ whole → lends_from types f (n + 1) (drop (n + 1) qs) ≡ whole
    on qs l e = ap (λ m. lends_from types f m (drop m qs)) next ∙ sym (ap (λ b. b && lends_from types f (suc n) (drop (suc n) qs)) here) ∙ sym (step qs n l) ∙ e

pub params_fail : (types : List DataType) (f : Func) (n : ℕ) (whole : Bool) → n < length f.params → param_lends types f n ≡ false
    → lends_from types f n (drop n f.params) ≡ whole → false ≡ whole
params_fail types f n whole less here so_far = on f.params n less so_far
  where
    on : (qs : List Kind) (m : ℕ) → m < length qs → lends_from types f n (drop m qs) ≡ whole → false ≡ whole
    on [] m l e = absurd (omega (arith, l))
    on (q ∷ qs) zero l e = sym (ap (λ b. b && lends_from types f (suc n) qs) here) ∙ e
    on (q ∷ qs) (suc m) l e = on qs m (omega (arith, l)) e

-- ---- arguments

-- without arguments nothing is taken, and nothing is looked at again
pub none_taken : (locals : List Local) (marks : List Mark) (reads : List Bool) (xs : List ℕ) → length xs < 1 → marks ≡ spend_all locals marks (taken_by reads xs)
none_taken locals marks [] [] few = refl
none_taken locals marks (read ∷ reads) [] few = refl
none_taken locals marks reads (x ∷ xs) few = absurd (omega (arith, few))

pub none_read : (marks : List Mark) (reads : List Bool) (xs : List ℕ) → length xs < 1 → again_fault marks (read_by reads xs) ≡ None
none_read marks [] [] few = refl
none_read marks (read ∷ reads) [] few = refl
none_read marks reads (x ∷ xs) few = absurd (omega (arith, few))
