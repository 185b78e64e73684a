-- One turn of a loop, and one step after another.
use Rattle.std.proofs.Common.{◌≡◌, ℕ, zero, suc, ◌+◌, ◌-◌, ◌<◌, ◌≤◌, Bool, true, false, ℤ, pos, List, [], ◌∷◌, ◌++◌, length, map, take, drop, get_or, Option, refl, sym, ap, ◌∙◌, subst, arith, append_assoc, set, add-one, drop-cons, drop_of_length-le}
use Rattle.std.specs.Prelude.{if◌then◌else◌, cond, flat_map}
use Rattle.std.specs.List.{range_with_len, filter}
use Rattle.std.specs.Int.{w64, int_wrapping_sub}
use Rattle.std.proofs.lemmas.List.{take_more_set, drop-set-lt, take_all, take-append-drop}
use Rattle.dual_simplex.specs.declared.system.Summand.{Summand}
use Rattle.dual_simplex.specs.Systems.{Inequality}
use Rattle.camelot_values.specs.Kinds.{DataType}
use Rattle.camelot_values.specs.declared.kinds.Kind.{Kind}
use Rattle.grail_code.specs.Code.{Func, func_of}
use Rattle.grail_code.specs.declared.code.Func.{Func as DeclaredFunc}
use Rattle.grail_code.specs.WellFormed.{kind_of, is_marked}
use Rattle.licence.specs.Books.{Units, Carried}
use Rattle.licence.specs.Rules.{Asks, arguments_asks}
use Rattle.lp_system.specs.Unknowns.{Unknown, Param, same, carriers, local_carriers, params_unknowns, block_unknowns, func_unknowns, funcs_unknowns}
use Rattle.lp_system.specs.Forms.{is_zero, asks}
use Rattle.lp_rows.specs.Dense.{more, less, sums, differences, tick, ticks, term_at, terms_less}
use Rattle.lp_rows.specs.Plain.{plain, units_of}
use Rattle.lp_rows.specs.Walk.{cons_rows, value_rows, local_rows, unknown_rows, argument_rows_at}
use Rattle.lp_rows.specs.declared.unknown.Origin.{Origin}
use Rattle.lp_rows.specs.declared.unknown.Unknown.{Unknown as DeclaredUnknown}

-- ---- lists that grow

pub two : {A : Type 0} (old mid new xs ys : List A) → mid ≡ old ++ xs → new ≡ mid ++ ys → new ≡ old ++ (xs ++ ys)
two old mid new xs ys e d = d ∙ ap (λ q. q ++ ys) e ∙ append_assoc old xs ys

pub turn : {A : Type 0} (old new xs rest whole : List A) → old ++ (xs ++ rest) ≡ whole → new ≡ old ++ xs → new ++ rest ≡ whole
turn old new xs rest whole e d = ap (λ q. q ++ rest) d ∙ append_assoc old xs rest ∙ e

no_more : {A : Type 0} (xs : List A) → xs ++ [] ≡ xs
no_more [] = refl
no_more (x ∷ xs) = ap (λ ys. x ∷ ys) (no_more xs)

-- where a test says so
pub two_where : {A : Type 0} (b : Bool) (old mid new xs ys : List A) → b ≡ true → mid ≡ old ++ xs → new ≡ mid ++ ys → new ≡ old ++ cond b (xs ++ ys) []
two_where b old mid new xs ys h e d = two old mid new xs ys e d ∙ ap (λ t. old ++ cond t (xs ++ ys) []) (sym h)

-- ---- terms

pub one_term : (old new rest whole : List Summand) (n : ℕ) (z : ℤ) → old ++ cond (is_zero z) rest (record { unknown = n; factor = z } ∷ rest) ≡ whole → new ≡ old ++ term_at n z → new ++ rest ≡ whole
one_term old new rest whole n z e d = ap (λ q. q ++ rest) d ∙ append_assoc old (term_at n z) rest ∙ ap (λ q. old ++ q) (by_test (is_zero z)) ∙ e
  where
    by_test : (b : Bool) → cond b [] (record { unknown = n; factor = z } ∷ []) ++ rest ≡ cond b rest (record { unknown = n; factor = z } ∷ rest)
    by_test true = refl
    by_test false = refl

pub no_terms : (old whole : List Summand) (n : ℕ) (xs ys : List ℤ) → length xs < 1 → old ++ terms_less n xs ys ≡ whole → old ≡ whole
no_terms old whole n [] ys h e = sym (no_more old) ∙ e
no_terms old whole n (x ∷ xs) ys h e = absurd (omega (arith, h))

-- ---- factors in place

next_of : {A : Type 0} (xs : List A) (i : ℕ) (d : A) → i < length xs → drop i xs ≡ get_or xs i d ∷ drop (i + 1) xs
next_of xs i d h = rw (add-one, drop-cons xs i d)

sum_nothing : (xs : List ℤ) → sums xs [] ≡ xs
sum_nothing [] = refl
sum_nothing (x ∷ xs) = refl

pub sum_turn : (xs all : List ℤ) (i : ℕ) (v y : ℤ) (ys : List ℤ) → i < length xs → v ≡ more (get_or xs i (pos 0)) y
    → take i xs ++ sums (drop i xs) (y ∷ ys) ≡ all
    → take (i + 1) (set xs i v) ++ sums (drop (i + 1) (set xs i v)) ys ≡ all
sum_turn xs all i v y ys h e before =
    ap (λ zs. zs ++ sums (drop (i + 1) (set xs i v)) ys) (take_more_set xs i v h)
    ∙ append_assoc (take i xs) (v ∷ []) (sums (drop (i + 1) (set xs i v)) ys)
    ∙ ap (λ zs. take i xs ++ v ∷ sums zs ys) (drop-set-lt (i + 1) xs i v (omega arith))
    ∙ ap (λ z. take i xs ++ z ∷ sums (drop (i + 1) xs) ys) e
    ∙ ap (λ zs. take i xs ++ sums zs (y ∷ ys)) (sym (next_of xs i (pos 0) h))
    ∙ before

pub sum_done : (xs all ys : List ℤ) (i : ℕ) → length ys < 1 → take i xs ++ sums (drop i xs) ys ≡ all → xs ≡ all
sum_done xs all [] i h e = sym (take-append-drop i xs) ∙ ap (λ zs. take i xs ++ zs) (sym (sum_nothing (drop i xs))) ∙ e
sum_done xs all (y ∷ ys) i h e = absurd (omega (arith, h))

pub sum_stop : (xs all ys : List ℤ) (i : ℕ) → length xs ≤ i → take i xs ++ sums (drop i xs) ys ≡ all → xs ≡ all
sum_stop xs all ys i h e = sym (no_more xs) ∙ ap (λ zs. zs ++ []) (sym (take_all i xs h)) ∙ ap (λ zs. take i xs ++ sums zs ys) (sym (drop_of_length-le xs h)) ∙ e

difference_nothing : (xs : List ℤ) → differences xs [] ≡ xs
difference_nothing [] = refl
difference_nothing (x ∷ xs) = refl

pub difference_turn : (xs all : List ℤ) (i : ℕ) (v y : ℤ) (ys : List ℤ) → i < length xs → v ≡ less (get_or xs i (pos 0)) y
    → take i xs ++ differences (drop i xs) (y ∷ ys) ≡ all
    → take (i + 1) (set xs i v) ++ differences (drop (i + 1) (set xs i v)) ys ≡ all
difference_turn xs all i v y ys h e before =
    ap (λ zs. zs ++ differences (drop (i + 1) (set xs i v)) ys) (take_more_set xs i v h)
    ∙ append_assoc (take i xs) (v ∷ []) (differences (drop (i + 1) (set xs i v)) ys)
    ∙ ap (λ zs. take i xs ++ v ∷ differences zs ys) (drop-set-lt (i + 1) xs i v (omega arith))
    ∙ ap (λ z. take i xs ++ z ∷ differences (drop (i + 1) xs) ys) e
    ∙ ap (λ zs. take i xs ++ differences zs (y ∷ ys)) (sym (next_of xs i (pos 0) h))
    ∙ before

pub difference_done : (xs all ys : List ℤ) (i : ℕ) → length ys < 1 → take i xs ++ differences (drop i xs) ys ≡ all → xs ≡ all
difference_done xs all [] i h e = sym (take-append-drop i xs) ∙ ap (λ zs. take i xs ++ zs) (sym (difference_nothing (drop i xs))) ∙ e
difference_done xs all (y ∷ ys) i h e = absurd (omega (arith, h))

pub difference_stop : (xs all ys : List ℤ) (i : ℕ) → length xs ≤ i → take i xs ++ differences (drop i xs) ys ≡ all → xs ≡ all
difference_stop xs all ys i h e = sym (no_more xs) ∙ ap (λ zs. zs ++ []) (sym (take_all i xs h)) ∙ ap (λ zs. take i xs ++ differences zs ys) (sym (drop_of_length-le xs h)) ∙ e

-- ---- the same value

zero_terms : (us : List Unknown) (n : ℕ) (u : Unknown) → terms_less n (ticks us u) (ticks us u) ≡ []
zero_terms [] n u = refl
zero_terms (v ∷ us) n u = by_test (zero_terms us (suc n) u) (same u v)
  where
    by_test : terms_less (suc n) (ticks us u) (ticks us u) ≡ [] → (b : Bool)
        → (let t : ℤ = if b then pos 1 else pos 0 in cond (is_zero (less t t)) (terms_less (suc n) (ticks us u) (ticks us u)) (record { unknown = n; factor = less t t } ∷ terms_less (suc n) (ticks us u) (ticks us u))) ≡ []
    by_test rec true = rec
    by_test rec false = rec

same_row : (us : List Unknown) (u : Unknown) → unknown_rows us u u ≡ []
same_row us u = ap (λ ts. filter asks (record { terms = ts; least = int_wrapping_sub w64 (pos 0) (pos 0) } ∷ [])) (zero_terms us 0 u)

same_cons : (us : List Unknown) (units : Units Unknown) (cons : List ℕ) → cons_rows us units units cons ≡ []
same_cons us units [] = refl
same_cons us units (c ∷ cons) = (λ i. same_row us (units c) i ++ same_cons us units cons i)

pub same_value : (rows : List Inequality) (types : List DataType) (us : List Unknown) (q : Option Kind) (have need : Origin) → have ≡ need
    → rows ≡ rows ++ value_rows types us q (units_of have) (units_of need)
same_value rows types us q have need e = sym (ap (λ rs. rows ++ rs) (ap (λ o. value_rows types us q (units_of o) (units_of need)) e ∙ same_cons us (units_of need) (carriers types q)) ∙ no_more rows)

-- ---- loops over numbers

pub one_param : (types : List DataType) (f : Func) (func : ℕ) (old new whole : List Unknown) (v n : ℕ) → v < n
    → old ++ params_unknowns types f func (range_with_len v (n - v)) ≡ whole
    → new ≡ old ++ map (Param func v) (local_carriers types f v) → new ++ params_unknowns types f func (range_with_len (v + 1) (n - (v + 1))) ≡ whole
one_param types f func old new whole v n h e d =
    let s : n - v ≡ suc (n - (v + 1)) = omega (arith, h) in
    turn old new (map (Param func v) (local_carriers types f v)) (params_unknowns types f func (range_with_len (v + 1) (n - (v + 1)))) whole
    (sym (ap (λ k. old ++ params_unknowns types f func (range_with_len v k)) s) ∙ e) d

pub one_block : (types : List DataType) (f : Func) (func : ℕ) (old new whole : List Unknown) (v n : ℕ) → v < n
    → old ++ flat_map (block_unknowns types f func) (range_with_len v (n - v)) ≡ whole
    → new ≡ old ++ block_unknowns types f func v → new ++ flat_map (block_unknowns types f func) (range_with_len (v + 1) (n - (v + 1))) ≡ whole
one_block types f func old new whole v n h e d =
    let s : n - v ≡ suc (n - (v + 1)) = omega (arith, h) in
    turn old new (block_unknowns types f func v) (flat_map (block_unknowns types f func) (range_with_len (v + 1) (n - (v + 1)))) whole
    (sym (ap (λ k. old ++ flat_map (block_unknowns types f func) (range_with_len v k)) s) ∙ e) d

-- arguments against the parameters from this number on
abbrev argument_rows : List DataType → List Unknown → Func → Carried Unknown → (callee : ℕ) → Func → (number count : ℕ) → List ℕ → List Inequality
argument_rows types us f carried callee g v k xs = local_rows types us f carried (arguments_asks (λ x con. Param callee x con) (is_marked g) v k xs)

pub one_argument : (types : List DataType) (us : List Unknown) (f : Func) (carried : Carried Unknown) (callee : ℕ) (g : Func) (x : ℕ) (xs : List ℕ) (old new whole : List Inequality) (v n : ℕ) → v < n
    → old ++ local_rows types us f carried (arguments_asks (λ y con. Param callee y con) (is_marked g) v (n - v) (x ∷ xs)) ≡ whole
    → new ≡ old ++ argument_rows_at types us f carried callee g v x
    → new ++ local_rows types us f carried (arguments_asks (λ y con. Param callee y con) (is_marked g) (v + 1) (n - (v + 1)) xs) ≡ whole
one_argument types us f carried callee g x xs old new whole v n h e d =
    let s : n - v ≡ suc (n - (v + 1)) = omega (arith, h) in
    let next : suc v ≡ v + 1 = omega arith in
    subst (λ w. new ++ argument_rows types us f carried callee g w (n - (v + 1)) xs ≡ whole) next
    (turn old new (argument_rows_at types us f carried callee g v x) (argument_rows types us f carried callee g (suc v) (n - (v + 1)) xs) whole
    (ap (λ rs. old ++ rs) (sym (by_mark (is_marked g v))) ∙ sym (ap (λ k. old ++ argument_rows types us f carried callee g v k (x ∷ xs)) s) ∙ e) d)
  where
    rest : Asks Unknown
    rest = arguments_asks (λ y con. Param callee y con) (is_marked g) (suc v) (n - (v + 1)) xs

    here : List Inequality
    here = value_rows types us (kind_of f x) (carried x) (Param callee v)

    by_mark : (b : Bool) → local_rows types us f carried (cond b rest ((x, Param callee v) ∷ rest)) ≡ cond b [] here ++ local_rows types us f carried rest
    by_mark true = refl
    by_mark false = refl

pub no_argument : (types : List DataType) (us : List Unknown) (f : Func) (carried : Carried Unknown) (callee : ℕ) (g : Func) (xs : List ℕ) (old whole : List Inequality) (v n : ℕ) → n ≤ v
    → old ++ local_rows types us f carried (arguments_asks (λ y con. Param callee y con) (is_marked g) v (n - v) xs) ≡ whole → old ≡ whole
no_argument types us f carried callee g xs old whole v n h e =
    let s : n - v ≡ 0 = omega (arith, h) in sym (no_more old) ∙ sym (ap (λ k. old ++ argument_rows types us f carried callee g v k xs) s) ∙ e

pub no_more_arguments : (types : List DataType) (us : List Unknown) (f : Func) (carried : Carried Unknown) (callee : ℕ) (g : Func) (xs : List ℕ) (old whole : List Inequality) (v n : ℕ) → length xs < 1
    → old ++ local_rows types us f carried (arguments_asks (λ y con. Param callee y con) (is_marked g) v n xs) ≡ whole → old ≡ whole
no_more_arguments types us f carried callee g [] old whole v zero h e = sym (no_more old) ∙ e
no_more_arguments types us f carried callee g [] old whole v (suc n) h e = sym (no_more old) ∙ e
no_more_arguments types us f carried callee g (x ∷ xs) old whole v n h e = absurd (omega (arith, h))

-- ---- what is left of a list behind its first item

rest_is : {A : Type 0} (xs : List A) (d : A) → 1 ≤ length xs → xs ≡ get_or xs 0 d ∷ take (length xs - 1) (drop 1 xs)
rest_is [] d h = absurd (omega (arith, h))
rest_is (x ∷ xs) d h = ap (λ ys. x ∷ ys) (sym (take_all (length (x ∷ xs) - 1) xs (omega arith)))

pub number_turn : {A : Type 0} (n m : ℕ) (xs : List A) → 1 ≤ length xs → n + length xs ≡ m → n + 1 + length (take (length xs - 1) (drop 1 xs)) ≡ m
number_turn n m [] h e = absurd (omega (arith, h))
number_turn n m (x ∷ xs) h e = let k : length (take (length (x ∷ xs) - 1) xs) ≡ length xs = ap length (take_all (length (x ∷ xs) - 1) xs (omega arith)) in omega (arith, k, e)

pub sum_turn_of : (xs all : List ℤ) (i : ℕ) (v : ℤ) (us : List DeclaredUnknown) (w : DeclaredUnknown) (u : Unknown) → i < length xs → 1 ≤ length us
    → v ≡ more (get_or xs i (pos 0)) (tick u (plain (get_or us 0 w)))
    → take i xs ++ sums (drop i xs) (ticks (map plain us) u) ≡ all → take (i + 1) (set xs i v) ++ sums (drop (i + 1) (set xs i v)) (ticks (map plain (take (length us - 1) (drop 1 us))) u) ≡ all
sum_turn_of xs all i v us w u h k e before = sum_turn xs all i v (tick u (plain (get_or us 0 w))) (ticks (map plain (take (length us - 1) (drop 1 us))) u) h e
    (ap (λ q. take i xs ++ sums (drop i xs) (ticks (map plain q) u)) (sym (rest_is us w k)) ∙ before)

pub sum_done_of : (xs all : List ℤ) (i : ℕ) (us : List DeclaredUnknown) (u : Unknown) → length us < 1
    → take i xs ++ sums (drop i xs) (ticks (map plain us) u) ≡ all → xs ≡ all
sum_done_of xs all i [] u h e = sum_done xs all [] i h e
sum_done_of xs all i (w ∷ us) u h e = absurd (omega (arith, h))

pub difference_turn_of : (xs all : List ℤ) (i : ℕ) (v : ℤ) (us : List DeclaredUnknown) (w : DeclaredUnknown) (u : Unknown) → i < length xs
    → 1 ≤ length us → v ≡ less (get_or xs i (pos 0)) (tick u (plain (get_or us 0 w)))
    → take i xs ++ differences (drop i xs) (ticks (map plain us) u) ≡ all → take (i + 1) (set xs i v) ++ differences (drop (i + 1) (set xs i v)) (ticks (map plain (take (length us - 1) (drop 1 us))) u) ≡ all
difference_turn_of xs all i v us w u h k e before = difference_turn xs all i v (tick u (plain (get_or us 0 w))) (ticks (map plain (take (length us - 1) (drop 1 us))) u) h e
    (ap (λ q. take i xs ++ differences (drop i xs) (ticks (map plain q) u)) (sym (rest_is us w k)) ∙ before)

pub difference_done_of : (xs all : List ℤ) (i : ℕ) (us : List DeclaredUnknown) (u : Unknown) → length us < 1
    → take i xs ++ differences (drop i xs) (ticks (map plain us) u) ≡ all → xs ≡ all
difference_done_of xs all i [] u h e = difference_done xs all [] i h e
difference_done_of xs all i (w ∷ us) u h e = absurd (omega (arith, h))

pub unknown_turn : (old new whole : List Summand) (n : ℕ) (z t : ℤ) (us : List DeclaredUnknown) (w : DeclaredUnknown) (u v : Unknown) → 1 ≤ length us
    → t ≡ tick u (plain (get_or us 0 w)) → z ≡ less t (tick v (plain (get_or us 0 w)))
    → old ++ terms_less n (ticks (map plain us) u) (ticks (map plain us) v) ≡ whole → new ≡ old ++ term_at n z
    → new ++ terms_less (n + 1) (ticks (map plain (take (length us - 1) (drop 1 us))) u) (ticks (map plain (take (length us - 1) (drop 1 us))) v) ≡ whole
unknown_turn old new whole n z t us w u v k d e before pushed =
    let is : z ≡ less (tick u (plain (get_or us 0 w))) (tick v (plain (get_or us 0 w))) = e ∙ ap (λ q. less q (tick v (plain (get_or us 0 w)))) d in
    let next : suc n ≡ n + 1 = omega arith in
    subst (λ m. new ++ terms_less m (ticks (map plain (take (length us - 1) (drop 1 us))) u) (ticks (map plain (take (length us - 1) (drop 1 us))) v) ≡ whole) next
    (one_term old new (terms_less (suc n) (ticks (map plain (take (length us - 1) (drop 1 us))) u) (ticks (map plain (take (length us - 1) (drop 1 us))) v)) whole n z
    (ap (λ y. old ++ cond (is_zero y) (terms_less (suc n) (ticks (map plain (take (length us - 1) (drop 1 us))) u) (ticks (map plain (take (length us - 1) (drop 1 us))) v)) (record { unknown = n; factor = y } ∷ terms_less (suc n) (ticks (map plain (take (length us - 1) (drop 1 us))) u) (ticks (map plain (take (length us - 1) (drop 1 us))) v))) is
    ∙ ap (λ q. old ++ terms_less n (ticks (map plain q) u) (ticks (map plain q) v)) (sym (rest_is us w k)) ∙ before) pushed)

pub left_turn : (old new whole : List Summand) (n : ℕ) (z : ℤ) (xs : List ℤ) (us : List DeclaredUnknown) (w : DeclaredUnknown) (v : Unknown)
    → 1 ≤ length xs → 1 ≤ length us
    → z ≡ less (get_or xs 0 (pos 0)) (tick v (plain (get_or us 0 w))) → old ++ terms_less n xs (ticks (map plain us) v) ≡ whole → new ≡ old ++ term_at n z
    → new ++ terms_less (n + 1) (take (length xs - 1) (drop 1 xs)) (ticks (map plain (take (length us - 1) (drop 1 us))) v) ≡ whole
left_turn old new whole n z xs us w v j k e before pushed =
    let next : suc n ≡ n + 1 = omega arith in
    subst (λ m. new ++ terms_less m (take (length xs - 1) (drop 1 xs)) (ticks (map plain (take (length us - 1) (drop 1 us))) v) ≡ whole) next
    (one_term old new (terms_less (suc n) (take (length xs - 1) (drop 1 xs)) (ticks (map plain (take (length us - 1) (drop 1 us))) v)) whole n z
    (ap (λ y. old ++ cond (is_zero y) (terms_less (suc n) (take (length xs - 1) (drop 1 xs)) (ticks (map plain (take (length us - 1) (drop 1 us))) v)) (record { unknown = n; factor = y } ∷ terms_less (suc n) (take (length xs - 1) (drop 1 xs)) (ticks (map plain (take (length us - 1) (drop 1 us))) v))) e
    ∙ ap (λ q. old ++ terms_less n q (ticks (map plain (get_or us 0 w ∷ take (length us - 1) (drop 1 us))) v)) (sym (rest_is xs (pos 0) j))
    ∙ ap (λ q. old ++ terms_less n xs (ticks (map plain q) v)) (sym (rest_is us w k)) ∙ before) pushed)

pub no_unknowns : (old whole : List Summand) (n : ℕ) (xs : List ℤ) (us : List DeclaredUnknown) (v : Unknown) → length us < 1
    → old ++ terms_less n xs (ticks (map plain us) v) ≡ whole → old ≡ whole
no_unknowns old whole n [] [] v h e = sym (no_more old) ∙ e
no_unknowns old whole n (x ∷ xs) [] v h e = sym (no_more old) ∙ e
no_unknowns old whole n xs (w ∷ us) v h e = absurd (omega (arith, h))

pub argument_turn : (types : List DataType) (us : List Unknown) (f : Func) (carried : Carried Unknown) (callee : ℕ) (g : Func) (xs : List ℕ) (old new whole : List Inequality) (v n : ℕ) → v < n → 1 ≤ length xs
    → old ++ local_rows types us f carried (arguments_asks (λ y con. Param callee y con) (is_marked g) v (n - v) xs) ≡ whole
    → new ≡ old ++ argument_rows_at types us f carried callee g v (get_or xs 0 0)
    → new ++ local_rows types us f carried (arguments_asks (λ y con. Param callee y con) (is_marked g) (v + 1) (n - (v + 1)) (take (length xs - 1) (drop 1 xs))) ≡ whole
argument_turn types us f carried callee g xs old new whole v n h k before pushed =
    one_argument types us f carried callee g (get_or xs 0 0) (take (length xs - 1) (drop 1 xs)) old new whole v n h
    (ap (λ z. old ++ argument_rows types us f carried callee g v (n - v) z) (sym (rest_is xs 0 k)) ∙ before) pushed

pub func_turn : (types : List DataType) (fs gs : List DeclaredFunc) (i n : ℕ) (item : DeclaredFunc) (old new whole : List Unknown) → fs ≡ gs
    → i < length fs → item ≡ get_or fs i item
    → old ++ funcs_unknowns types n (map func_of (drop i gs)) ≡ whole → new ≡ old ++ func_unknowns types n (func_of item) → new ++ funcs_unknowns types (n + 1) (map func_of (drop (i + 1) gs)) ≡ whole
func_turn types fs gs i n item old new whole same h is before pushed =
    let next : suc n ≡ n + 1 = omega arith in
    subst (λ m. new ++ funcs_unknowns types m (map func_of (drop (i + 1) gs)) ≡ whole) next
    (subst (λ q. new ++ funcs_unknowns types (suc n) (map func_of (drop (i + 1) q)) ≡ whole) same
    (turn old new (func_unknowns types n (func_of item)) (funcs_unknowns types (suc n) (map func_of (drop (i + 1) fs))) whole
    (ap (λ f. old ++ (func_unknowns types n (func_of f) ++ funcs_unknowns types (suc n) (map func_of (drop (i + 1) fs)))) is
    ∙ ap (λ q. old ++ funcs_unknowns types n (map func_of q)) (sym (next_of fs i item h)) ∙ ap (λ q. old ++ funcs_unknowns types n (map func_of (drop i q))) same ∙ before) pushed))
