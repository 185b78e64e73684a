-- Numbers that ascend, searched, and the rows of a table.
use Rattle.std.proofs.Common.{◌≡◌, ◌≢◌, ◌⊎◌, ◌↔◌, ℕ, zero, suc, add-one, append_assoc, replicate, ◌+◌, ◌-◌, ◌<◌, ◌≤◌, Bool, true, false, length, map, List, [], ◌∷◌, ◌++◌, get_or, Result, Ok, Err, IsTrue, inl, inr, refl, sym, ap, ◌∙◌, subst, arith}
use Rattle.std.specs.Prelude.{slice_get, None, ◌==◌, ◌||◌, Option, Some, nat_lt, if◌then◌else◌}
use Rattle.std.specs.List.{AllByRecursion, range_with_len, list_any}
use Rattle.std.specs.Option.{option_map_or}
use Rattle.std.specs.List.Sorted.{IsBinarySearchResult}
use Rattle.std.specs.Ordering.{nat_cmp}
use Rattle.std.proofs.lemmas.Option.{slice_get_past}
use Rattle.std.proofs.lemmas.Bool.{cases_lt}
use Rattle.std.proofs.lemmas.Bool.Decides.{nat_tests}
use Rattle.std.proofs.lemmas.List.{map-append, length-replicate, replicate-append-replicate}
use Rattle.std.proofs.lemmas.List.Sorted.{searched}
use Rattle.std.proofs.lemmas.List.FromFn.{length-map-range_with_len, get_or-map-range_with_len, map-range_with_len_more}
use Rattle.camelot_values.specs.Kinds.{DataType, type_from, type_of}
use Rattle.camelot_values.specs.KindLaws.{slice_get_behind}
use Rattle.camelot_values.specs.Heap.{reached, Reaches, ReachesFrom, LeadsTo, is_of, fields_of, fields_at, has_boxed, is_heap, is_heap_type}
use Rattle.camelot_values.specs.Lists.{Ascend, is_among}
use Rattle.camelot_values.specs.ReachLaws.{reached_is, reached_ascends}
use Rattle.camelot_values.specs.declared.kinds.Kind.{Kind}
use Rattle.camelot_values.specs.declared.kinds.Kind.TheVariants.{Int, Flag, Dia, Of}
use Rattle.annotations.specs.Tables.{Table, reached_from, owners_from, table_of, IsRow, is_heap_in, is_heap_con_in, is_in, row_in, AreIn, ReachesEach}
use Rattle.annotations.specs.Vectors.{Vector, is_heap_con}

-- ---- a search among numbers that ascend

others : (x : ℕ) (xs : List ℕ) → Ascend (x ∷ xs) → Ascend xs
others x [] h = tt
others x (y ∷ ys) h = h.1

first_least : (x : ℕ) (xs : List ℕ) → Ascend (x ∷ xs) → (j : ℕ) → j < length xs → x < get_or xs j 0
first_least x [] h j l = absurd (omega (arith, l))
first_least x (y ∷ ys) h zero l = h.0
first_least x (y ∷ ys) h (suc j) l = omega (arith, h.0, first_least y ys h.1 j (omega (arith, l)))

rises : (xs : List ℕ) → Ascend xs → (i j : ℕ) → i ≤ j → j < length xs → get_or xs i 0 ≤ get_or xs j 0
rises [] h i j le l = absurd (omega (arith, l))
rises (x ∷ xs) h zero zero le l = omega arith
rises (x ∷ xs) h zero (suc j) le l = omega (arith, first_least x xs h j (omega (arith, l)))
rises (x ∷ xs) h (suc i) zero le l = absurd (omega (arith, le))
rises (x ∷ xs) h (suc i) (suc j) le l = rises xs (others x xs h) i j (omega (arith, le)) (omega (arith, l))

pub among_at : (xs : List ℕ) (x i : ℕ) → i < length xs → get_or xs i 0 ≡ x → is_among xs x ≡ true
among_at [] x i l e = absurd (omega (arith, l))
among_at (y ∷ ys) x zero l e = grind (arith, nat_tests, e)
among_at (y ∷ ys) x (suc i) l e = or_last (y == x) (is_among ys x) (among_at ys x i (omega (arith, l)) e)
  where
    or_last : (a b : Bool) → b ≡ true → (a || b) ≡ true
    or_last true b k = refl
    or_last false b k = k

pub not_among : (xs : List ℕ) (x : ℕ) → ((k : ℕ) → k < length xs → get_or xs k 0 ≢ x) → is_among xs x ≡ false
not_among [] x h = refl
not_among (y ∷ ys) x h = grind (arith, nat_tests, h 0 (omega arith), not_among ys x (λ k l. h (suc k) (omega (arith, l))))

abbrev pub is_found : Result ℕ ℕ → Bool
is_found (Ok i) = true
is_found (Err i) = false

pub found : (xs : List ℕ) (x : ℕ) (r : Result ℕ ℕ) → Ascend xs → IsBinarySearchResult (λ y. nat_cmp y x) xs r → is_found r ≡ is_among xs x
found xs x (Ok i) h k = let f = searched xs x (Ok i) k (rises xs h) in sym (among_at xs x i f.0 f.1)
found xs x (Err i) h k = let f = searched xs x (Err i) k (rises xs h) in sym (not_among xs x (λ j l e. by_order j l e f.1 f.2 (cases_lt j i)))
  where
    by_order : (j : ℕ) → j < length xs → get_or xs j 0 ≡ x → ((k : ℕ) → k < i → get_or xs k 0 < x)
        → ((k : ℕ) → i ≤ k → k < length xs → x < get_or xs k 0) → (j < i) ⊎ (i ≤ j) → ⊥
    by_order j l e below above (inl less) = omega (arith, below j less, e)
    by_order j l e below above (inr more) = omega (arith, above j more l, e)

-- ---- the rows

-- a type that isn't there reaches nothing
pub nothing_from : (types : List DataType) (t con : ℕ) → length types ≤ t → ReachesFrom types t con → ⊥
nothing_from types t con out r = by_way r.leads.0 r.leads.1
  where
    no_type : slice_get types t ≡ None
    no_type = slice_get_past types t out

    by_way : (path : List ℕ) → LeadsTo types t path r.last → ⊥
    by_way [] same =
        let none : is_heap_type types t ≡ false = ap (λ o. option_map_or has_boxed o false) no_type in
        let heap : is_heap_type types t ≡ true = ap (is_heap_type types) same ∙ r.heap in
        absurd cc
    by_way (v ∷ path) h =
        let none : fields_at types t ≡ [] = ap (λ o. option_map_or fields_of o []) no_type in
        let holds : false ≡ true = sym (ap (list_any (is_of v)) none) ∙ h.0 in
        absurd cc

pub row_is : (types : List DataType) (t con : ℕ) → is_among (get_or (table_of types).rows t []) con ≡ is_among (reached types (Of t)) con
row_is types t con = by_order (cases_lt t (length types))
  where
    out_of_range : {A : Type 0} (xs : List (List A)) (i : ℕ) → length xs ≤ i → get_or xs i [] ≡ []
    out_of_range [] i l = refl
    out_of_range (x ∷ xs) zero l = absurd (omega (arith, l))
    out_of_range (x ∷ xs) (suc i) l = out_of_range xs i (omega (arith, l))

    by_order : (t < length types) ⊎ (length types ≤ t) → is_among (get_or (table_of types).rows t []) con ≡ is_among (reached types (Of t)) con
    by_order (inl less) = ap (λ row. is_among row con) (get_or-map-range_with_len (reached_from types) 0 (length types) t t [] less (omega arith))
    by_order (inr more) = ap (λ row. is_among row con) (out_of_range (table_of types).rows t (omega (arith, length-map-range_with_len (reached_from types) 0 (length types), more)))
        ∙ sym (none (is_among (reached types (Of t)) con) refl)
      where
        none : (b : Bool) → is_among (reached types (Of t)) con ≡ b → is_among (reached types (Of t)) con ≡ false
        none true e = absurd (nothing_from types t con more ((reached_is types (Of t) con).0 e))
        none false e = e

-- a kind that reaches nothing has no row
nothing : (types : List DataType) (q : Kind) (con : ℕ) → (Reaches types q con → ⊥) → false ≡ is_among (reached types q) con
nothing types q con h = by_test (is_among (reached types q) con) refl
  where
    by_test : (b : Bool) → is_among (reached types q) con ≡ b → false ≡ is_among (reached types q) con
    by_test true e = absurd (h ((reached_is types q con).0 e))
    by_test false e = sym e

-- What the table says is what the types say.
pub table_says : (types : List DataType) (q : Kind) (con : ℕ) → is_in (table_of types) q con ≡ is_among (reached types q) con
table_says types (Of t) con = row_is types t con
table_says types Int con = nothing types Int con (λ r. r)
table_says types Flag con = nothing types Flag con (λ r. r)
table_says types Dia con = nothing types Dia con (λ r. r)

pub exactly : (types : List DataType) (table : Table) (q : Kind) (con : ℕ) (b : Bool) → b ≡ is_in table q con → table ≡ table_of types → IsTrue b
    ↔ Reaches types q con
exactly types table q con b e same =
    let r = reached_is types q con in
    let says : b ≡ is_among (reached types q) con = e ∙ ap (λ t. is_in t q con) same ∙ table_says types q con in
    (λ h. r.0 (sym says ∙ h), λ h. says ∙ r.1 h)

-- a list that no number is among is empty
empty : (xs : List ℕ) → ((x : ℕ) → is_among xs x ≡ true → ⊥) → [] ≡ xs
empty [] h = refl
empty (x ∷ xs) h = absurd (h x (among_at (x ∷ xs) x 0 (omega arith) refl))

nothing_reached : (types : List DataType) (q : Kind) → ((con : ℕ) → Reaches types q con → ⊥) → [] ≡ reached types q
nothing_reached types q h = empty (reached types q) (λ con e. h con ((reached_is types q con).0 e))

-- The row of the table is the list of what is reached.
pub row_says : (types : List DataType) (q : Kind) → row_in (table_of types) q ≡ reached types q
row_says types Int = nothing_reached types Int (λ con r. r)
row_says types Flag = nothing_reached types Flag (λ con r. r)
row_says types Dia = nothing_reached types Dia (λ con r. r)
row_says types (Of t) = by_order (cases_lt t (length types))
  where
    out_of_range : {A : Type 0} (xs : List (List A)) (i : ℕ) → length xs ≤ i → get_or xs i [] ≡ []
    out_of_range [] i l = refl
    out_of_range (x ∷ xs) zero l = absurd (omega (arith, l))
    out_of_range (x ∷ xs) (suc i) l = out_of_range xs i (omega (arith, l))

    by_order : (t < length types) ⊎ (length types ≤ t) → row_in (table_of types) (Of t) ≡ reached types (Of t)
    by_order (inl less) = get_or-map-range_with_len (reached_from types) 0 (length types) t t [] less (omega arith)
    by_order (inr more) = out_of_range (table_of types).rows t (omega (arith, length-map-range_with_len (reached_from types) 0 (length types), more))
        ∙ nothing_reached types (Of t) (λ con. nothing_from types t con more)

pub table_reached : (types : List DataType) (table : Table) (q : Kind) (row : List ℕ) → row ≡ row_in table q → table ≡ table_of types → row ≡ reached types q
table_reached types table q row e same = e ∙ ap (λ t. row_in t q) same ∙ row_says types q

-- each constructor
pub each_exactly : (types : List DataType) (table : Table) (q : Kind) (vector : Vector) (b : Bool) → IsTrue b ↔ AreIn table q vector
    → table ≡ table_of types → IsTrue b ↔ ReachesEach types q vector
each_exactly types table q vector b h same = (λ k. to vector (h.0 k), λ k. h.1 (from vector k))
  where
    says : (con : ℕ) → IsTrue (is_in table q con) ↔ Reaches types q con
    says con = exactly types table q con (is_in table q con) refl same

    to : (v : Vector) → AreIn table q v → ReachesEach types q v
    to [] k = tt
    to (e ∷ v) k = ((says e.0).0 k.0, to v k.1)

    from : (v : Vector) → ReachesEach types q v → AreIn table q v
    from [] k = tt
    from (e ∷ v) k = ((says e.0).1 k.0, from v k.1)

-- Rows ascend.
all_rows_ascend : (types : List DataType) (first n : ℕ) → AllByRecursion Ascend (map (reached_from types) (range_with_len first n))
all_rows_ascend types first zero = tt
all_rows_ascend types first (suc n) = (reached_ascends types (Of first), all_rows_ascend types (first + 1) n)

pub rows_ascend : (types : List DataType) (table : List (List ℕ)) → table ≡ (table_of types).rows → AllByRecursion Ascend table
rows_ascend types table e = subst (AllByRecursion Ascend) (sym e) (all_rows_ascend types 0 (length types))

row_ascends : (table : List (List ℕ)) (t : ℕ) → AllByRecursion Ascend table → Ascend (get_or table t [])
row_ascends [] t h = tt
row_ascends (row ∷ table) zero h = h.0
row_ascends (row ∷ table) (suc t) h = row_ascends table t h.1

pub row_there : {A : Type 0} (f : A → List ℕ) (rows : List A) (t : ℕ) (row : A) → AllByRecursion Ascend (map f rows) → t < length rows
    → row ≡ get_or rows t row → IsRow (map f rows) t (f row)
row_there f rows t row h l e = let is = at_place f rows t row l e in (is, subst Ascend (sym is) (row_ascends (map f rows) t h))
  where
    at_place : {A : Type 0} (f : A → List ℕ) (rows : List A) (t : ℕ) (row : A) → t < length rows → row ≡ get_or rows t row → f row ≡ get_or (map f rows) t []
    at_place f [] t row l e = absurd (omega (arith, l))
    at_place f (r ∷ rows) zero row l e = ap f e
    at_place f (r ∷ rows) (suc t) row l e = at_place f rows t row (omega (arith, l)) e

pub no_row : {A : Type 0} (f : A → List ℕ) (rows : List A) (t : ℕ) → slice_get rows t ≡ None → IsRow (map f rows) t []
no_row f [] t e = (refl, tt)
no_row f (r ∷ rows) zero e = absurd cc
no_row f (r ∷ rows) (suc t) e = no_row f rows t e

-- ---- making the table

-- one row more
pub one_row : {A : Type 0} (f : A → List ℕ) (types : List DataType) (n : ℕ) (rows more : List A) (row : A)
    → map f rows ≡ map (reached_from types) (range_with_len 0 n) → f row ≡ reached types (Of n) → more ≡ rows ++ row ∷ []
    → map f more ≡ map (reached_from types) (range_with_len 0 (n + 1))
one_row f types n rows more row h is e =
    ap (map f) e ∙ map-append f rows (row ∷ []) ∙ ap (λ r. map f rows ++ r ∷ []) is ∙ ap (λ xs. xs ++ reached types (Of n) ∷ []) h ∙ sym (map-range_with_len_more (reached_from types) 0 n n (omega arith))

-- all rows
pub all_rows : (types : List DataType) (table : List (List ℕ)) (n : ℕ) → table ≡ map (reached_from types) (range_with_len 0 n) → n ≡ length types
    → AllByRecursion Ascend table
all_rows types table n h e = rows_ascend types table (h ∙ ap (λ k. map (reached_from types) (range_with_len 0 k)) e)

-- ---- types of constructors

one_turn : (n a : ℕ) → replicate (n + 1) a ≡ replicate n a ++ a ∷ []
one_turn n a = sym (replicate-append-replicate n 1 a)

-- so many of one number, one by one
pub one_owner : (first owners more : List ℕ) (n a : ℕ) → owners ≡ first ++ replicate n a → more ≡ owners ++ a ∷ [] → more ≡ first ++ replicate (n + 1) a
one_owner first owners more n a h e = e ∙ ap (λ xs. xs ++ a ∷ []) h ∙ append_assoc first (replicate n a) (a ∷ []) ∙ ap (λ xs. first ++ xs) (sym (one_turn n a))

front : (k a c : ℕ) (ys : List ℕ) → c < k → slice_get (replicate k a ++ ys) c ≡ Some a
front zero a c ys l = absurd (omega (arith, l))
front (suc k) a zero ys l = refl
front (suc k) a (suc c) ys l = front k a c ys (omega (arith, l))

-- the table's type of a constructor is its type
owner_from : (number : ℕ) (types : List DataType) (con : ℕ) → slice_get (owners_from number types) con ≡ type_from number types con
owner_from number [] con = refl
owner_from number (t ∷ ts) con = by_test (nat_lt con (length t.cons)) refl (owner_from (number + 1) ts (con - length t.cons))
  where
    by_test : (b : Bool) → nat_lt con (length t.cons) ≡ b
        → slice_get (owners_from (number + 1) ts) (con - length t.cons) ≡ type_from (number + 1) ts (con - length t.cons)
        → slice_get (replicate (length t.cons) number ++ owners_from (number + 1) ts) con ≡ (if b then Some number else type_from (suc number) ts (con - length t.cons))
    by_test true e f = let less : con < length t.cons = grind (arith, nat_tests, e) in front (length t.cons) number con (owners_from (number + 1) ts) less
    by_test false e f =
        let more : length t.cons ≤ con = grind (arith, nat_tests, e) in
        let behind = slice_get_behind (replicate (length t.cons) number) (owners_from (number + 1) ts) con (omega (arith, more, length-replicate (length t.cons) number)) in
        behind ∙ ap (λ n. slice_get (owners_from (number + 1) ts) (con - n)) (length-replicate (length t.cons) number) ∙ f ∙ ap (λ n. type_from n ts (con - length t.cons)) (add-one number)

pub owner_says : (types : List DataType) (table : Table) (con : ℕ) (o : Option ℕ) → o ≡ slice_get table.owners con → table ≡ table_of types
    → o ≡ type_of types con
owner_says types table con o e same = e ∙ ap (λ t. slice_get t.owners con) same ∙ owner_from 0 types con

-- ---- heap types

heap_is : (types : List DataType) (t : ℕ) → get_or (table_of types).heaps t false ≡ is_heap_type types t
heap_is types t = by_order (cases_lt t (length types))
  where
    out_of_range : (xs : List Bool) (i : ℕ) → length xs ≤ i → get_or xs i false ≡ false
    out_of_range [] i l = refl
    out_of_range (x ∷ xs) zero l = absurd (omega (arith, l))
    out_of_range (x ∷ xs) (suc i) l = out_of_range xs i (omega (arith, l))

    by_order : (t < length types) ⊎ (length types ≤ t) → get_or (table_of types).heaps t false ≡ is_heap_type types t
    by_order (inl less) = get_or-map-range_with_len (is_heap_type types) 0 (length types) t t false less (omega arith)
    by_order (inr more) = out_of_range (table_of types).heaps t (omega (arith, length-map-range_with_len (is_heap_type types) 0 (length types), more)) ∙ sym (ap (λ o. option_map_or has_boxed o false) (slice_get_past types t more))

kind_is : (types : List DataType) (q : Kind) → is_heap_in (table_of types) q ≡ is_heap types q
kind_is types (Of t) = heap_is types t
kind_is types Int = refl
kind_is types Flag = refl
kind_is types Dia = refl

pub heap_says : (types : List DataType) (table : Table) (q : Kind) (b : Bool) → b ≡ is_heap_in table q → table ≡ table_of types → b ≡ is_heap types q
heap_says types table q b e same = e ∙ ap (λ t. is_heap_in t q) same ∙ kind_is types q

pub con_says : (types : List DataType) (table : Table) (con : ℕ) (b : Bool) → b ≡ is_heap_con_in table con → table ≡ table_of types → b ≡ is_heap_con types con
con_says types table con b e same = e ∙ ap (λ t. is_heap_con_in t con) same ∙ ap (λ o. option_map_or (λ t. get_or (table_of types).heaps t false) o false) (owner_from 0 types con) ∙ of_owner (type_of types con)
  where
    of_owner : (o : Option ℕ) → option_map_or (λ t. get_or (table_of types).heaps t false) o false ≡ option_map_or (is_heap_type types) o false
    of_owner None = refl
    of_owner (Some t) = heap_is types t

-- ---- making these

-- one type more
pub one_heap : (types : List DataType) (n : ℕ) (heaps more : List Bool) (b : Bool) → heaps ≡ map (is_heap_type types) (range_with_len 0 n)
    → b ≡ is_heap types (Of n) → more ≡ heaps ++ b ∷ [] → more ≡ map (is_heap_type types) (range_with_len 0 (n + 1))
one_heap types n heaps more b h is e = e ∙ ap (λ x. heaps ++ x ∷ []) is ∙ ap (λ xs. xs ++ is_heap_type types n ∷ []) h ∙ sym (map-range_with_len_more (is_heap_type types) 0 n n (omega arith))

pub one_type : (t : DataType) (ts : List DataType) (owners more all : List ℕ) (n : ℕ) → owners ++ owners_from n (t ∷ ts) ≡ all
    → more ≡ owners ++ replicate (length t.cons) n → more ++ owners_from (n + 1) ts ≡ all
one_type t ts owners more all n h e = ap (λ xs. xs ++ owners_from (n + 1) ts) e ∙ append_assoc owners (replicate (length t.cons) n) (owners_from (n + 1) ts) ∙ h
