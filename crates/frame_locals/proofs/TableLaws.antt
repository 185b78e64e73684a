-- The table of a code, row by row.
use Rattle.std.proofs.Common.{◌≡◌, ℕ, zero, suc, ◌+◌, ◌<◌, ◌≤◌, Bool, true, false, List, [], ◌∷◌, ◌++◌, length, map, drop, get_or, take, Option, Some, None, refl, sym, ap, ◌∙◌, subst, arith, append_assoc, append-nil}
use Rattle.std.specs.Prelude.{◌||◌, ◌&&◌, not, slice_get, replicate}
use Rattle.std.specs.Option.{option_map, option_map_or}
use Rattle.std.proofs.lemmas.List.{length-append, length-replicate, take-map, take_all, map_push}
use Rattle.std.proofs.lemmas.Option.{slice_get_within, slice_get-get_or, slice_get-map}
use Rattle.std.proofs.lemmas.Grind.{take_at_read}
use Rattle.camelot_values.specs.Kinds.{DataType}
use Rattle.camelot_values.specs.Heap.{is_heap}
use Rattle.camelot_values.specs.Lists.{is_among}
use Rattle.camelot_values.specs.declared.kinds.Kind.{Kind}
use Rattle.grail_code.specs.Code.{Block, Func, Code}
use Rattle.grail_code.specs.WellFormed.{local_kinds, kind_of, is_marked, is_read, is_lent, looked_in}
use Rattle.frame_locals.specs.Lending.{block_lends, lends_in_func, lends_in, lends_at}
use Rattle.frame_locals.specs.Marking.{is_set}
use Rattle.frame_locals.specs.Tables.{Row, owned_from, row_for, table_of}

marks_there : (reads : List Bool) (params locals : List Kind) (x : ℕ) → length reads ≡ length params → x < length (params ++ locals)
    → slice_get (reads ++ replicate (length locals) false) x ≡ Some (option_map_or (λ mark. mark) (slice_get reads x) false)
marks_there [] [] [] x e less = absurd (omega (arith, less))
marks_there [] [] (q ∷ locals) zero e less = refl
marks_there [] [] (q ∷ locals) (suc x) e less = marks_there [] [] locals x refl (omega (arith, less))
marks_there [] (q ∷ params) locals x e less = absurd (omega (arith, e))
marks_there (b ∷ reads) [] locals x e less = absurd (omega (arith, e))
marks_there (b ∷ reads) (q ∷ params) locals zero e less = refl
marks_there (b ∷ reads) (q ∷ params) locals (suc x) e less = marks_there reads params locals x (omega (arith, e)) (omega (arith, less))

-- all that is read, by the marks of parameters and what arms look at
pub reads_known : (f : Func) (old new : List Bool) → length f.reads ≡ length f.params → old ≡ f.reads ++ replicate (length f.locals) false
    → ((x : ℕ) → slice_get new x ≡ option_map (λ b. b || is_among (looked_in f) x) (slice_get old x))
    → (x : ℕ) → x < length (local_kinds f) → slice_get new x ≡ Some (is_read f x)
reads_known f old new e q h x less =
    h x ∙ ap (λ marks. option_map (λ b. b || is_among (looked_in f) x) (slice_get marks x)) q
    ∙ ap (option_map (λ b. b || is_among (looked_in f) x)) (marks_there f.reads f.params f.locals x e less)

pub reads_count : (f : Func) (old new : List Bool) → length f.reads ≡ length f.params → old ≡ f.reads ++ replicate (length f.locals) false
    → length new ≡ length old → length new ≡ length (local_kinds f)
reads_count f old new e q h =
    let marks = length-append f.reads (replicate (length f.locals) false) in
    let further = length-replicate (length f.locals) false in
    let kinds = length-append f.params f.locals in
    let all = ap length q in
    omega (arith, e, h, marks, further, kinds, all)

-- a list that is made one by one
pub one_more : {X A B : Type 0} (f : X → A) (g : A → B) (out now : List B) (xs : List X) (i : ℕ) (x : X) → i < length xs → x ≡ get_or xs i x
    → now ≡ out ++ g (f x) ∷ [] → out ≡ map g (map f (take i xs)) → now ≡ map g (map f (take (i + 1) xs))
one_more f g out now xs i x lt e done so_far =
    let one : take (i + 1) xs ≡ take i xs ++ x ∷ [] = (take_at_read xs i x lt).1 ∙ ap (λ y. take i xs ++ y ∷ []) (sym e) in
    done ∙ ap (λ l. l ++ g (f x) ∷ []) so_far ∙ sym (ap (map g) (ap (map f) one ∙ map_push f (take i xs) x) ∙ map_push g (map f (take i xs)) (f x))

pub all_are : {X A B : Type 0} (f : X → A) (g : A → B) (out : List B) (xs : List X) (i : ℕ) → length xs ≤ i → out ≡ map g (map f (take i xs)) → out ≡ map g (map f xs)
all_are f g out xs i le so_far = so_far ∙ ap (λ ys. map g (map f ys)) (take_all i xs le)

-- a local that is there is lent where it is of a heap kind and only read
pub lent_read : (types : List DataType) (f : Func) (reads : List Bool) (x : ℕ) (q : Kind) (b : Bool) → ((y : ℕ) → y < length (local_kinds f) → slice_get reads y ≡ Some (is_read f y))
    → kind_of f x ≡ Some q → slice_get reads x ≡ Some b → (is_heap types q && b) ≡ is_lent types f x
lent_read types f reads x q b h k e =
    let less : x < length (local_kinds f) = slice_get_within (local_kinds f) x q k in
    let same : Some b ≡ Some (is_read f x) = sym e ∙ h x less in
    let read : b ≡ is_read f x = cc in
    ap (λ r. is_heap types q && r) read ∙ ap (λ o. option_map_or (is_heap types) o false && is_read f x) (sym k)

-- ---- which locals are owned

some_kind : (ks : List Kind) (n : ℕ) (k : Kind) → slice_get ks n ≡ Some k → drop n ks ≡ k ∷ drop (suc n) ks
some_kind [] n k e = absurd cc
some_kind (q ∷ ks) zero k e = let same : q ≡ k = cc in ap (λ r. r ∷ ks) same
some_kind (q ∷ ks) (suc n) k e = some_kind ks n k e

pub owned_more : (types : List DataType) (f : Func) (reads : List Bool) (n : ℕ) (k : Kind) (made more whole : List Bool)
    → ((x : ℕ) → x < length (local_kinds f) → slice_get reads x ≡ Some (is_read f x)) → length reads ≡ length (local_kinds f) → n < length reads
    → kind_of f n ≡ Some k → more ≡ made ++ (is_heap types k && not (get_or reads n false)) ∷ [] → made ++ owned_from types f n (drop n (local_kinds f)) ≡ whole
    → more ++ owned_from types f (n + 1) (drop (n + 1) (local_kinds f)) ≡ whole
owned_more types f reads n k made more whole known count less is pushed so_far =
    let there : slice_get reads n ≡ Some (get_or reads n false) = slice_get-get_or reads n false less in
    let told : slice_get reads n ≡ Some (is_read f n) = known n (omega (arith, less, count)) in
    let both : Some (get_or reads n false) ≡ Some (is_read f n) = sym there ∙ told in
    let same : get_or reads n false ≡ is_read f n = cc in
    let next : n + 1 ≡ suc n = omega arith in
    ap (λ l. l ++ owned_from types f (n + 1) (drop (n + 1) (local_kinds f))) (pushed ∙ ap (λ r. made ++ (is_heap types k && not r) ∷ []) same)
    ∙ append_assoc made ((is_heap types k && not (is_read f n)) ∷ []) (owned_from types f (n + 1) (drop (n + 1) (local_kinds f)))
    ∙ ap (λ m. made ++ (is_heap types k && not (is_read f n)) ∷ owned_from types f m (drop m (local_kinds f))) next
    ∙ ap (λ ks. made ++ owned_from types f n ks) (sym (some_kind (local_kinds f) n k is)) ∙ so_far

-- ---- a row of the table

row_is : (p : Code) (func : ℕ) (r : Row) (f : Func) → slice_get (table_of p) func ≡ Some r → slice_get p.funcs func ≡ Some f → r ≡ row_for p f
row_is p func r f e k =
    let right : slice_get (table_of p) func ≡ Some (row_for p f) = slice_get-map (row_for p) p.funcs func ∙ ap (option_map (row_for p)) k in
    let both : Some r ≡ Some (row_for p f) = sym e ∙ right in
    cc

-- the rows are as many as the functions
no_func : (p : Code) (func : ℕ) (f : Func) → slice_get (table_of p) func ≡ None → slice_get p.funcs func ≡ Some f → ⊥
no_func p func f e k =
    let right : slice_get (table_of p) func ≡ Some (row_for p f) = slice_get-map (row_for p) p.funcs func ∙ ap (option_map (row_for p)) k in
    let both : None ≡ Some (row_for p f) = sym e ∙ right in
    cc

no_row : (p : Code) (func : ℕ) (r : Row) → slice_get (table_of p) func ≡ Some r → slice_get p.funcs func ≡ None → ⊥
no_row p func r e k =
    let right : slice_get (table_of p) func ≡ None = slice_get-map (row_for p) p.funcs func ∙ ap (option_map (row_for p)) k in
    let both : Some r ≡ None = sym e ∙ right in
    cc

pub owned_told : (p : Code) (func : ℕ) (r : Row) (f : Func) → slice_get (table_of p) func ≡ Some r → slice_get p.funcs func ≡ Some f → r.owned ≡ owned_from p.types f 0 (local_kinds f)
owned_told p func r f e k = ap (λ (q : Row). q.owned) (row_is p func r f e k)

pub owned_none : (p : Code) (func : ℕ) (f : Func) (owned : List Bool) → slice_get (table_of p) func ≡ None → slice_get p.funcs func ≡ Some f → owned ≡ owned_from p.types f 0 (local_kinds f)
owned_none p func f owned e k = absurd (no_func p func f e k)

block_told : (p : Code) (f : Func) (o : Option Block) → option_map_or (λ mark. mark) (option_map (block_lends p f) o) false ≡ lends_in_func p f o
block_told p f None = refl
block_told p f (Some b) = refl

pub lends_told : (p : Code) (func block : ℕ) (r : Row) → slice_get (table_of p) func ≡ Some r → is_set r.lends block ≡ lends_at p func block
lends_told p func block r e = by_func (slice_get p.funcs func) refl
  where
    by_func : (found : Option Func) → slice_get p.funcs func ≡ found → is_set r.lends block ≡ lends_in p found block
    by_func None n = absurd (no_row p func r e n)
    by_func (Some f) n =
        ap (λ (q : Row). is_set q.lends block) (row_is p func r f e n) ∙ ap (λ o. option_map_or (λ mark. mark) o false) (slice_get-map (block_lends p f) f.blocks block)
        ∙ block_told p f (slice_get f.blocks block)

pub lends_none : (p : Code) (func block : ℕ) → slice_get (table_of p) func ≡ None → false ≡ lends_at p func block
lends_none p func block e = by_func (slice_get p.funcs func) refl
  where
    by_func : (found : Option Func) → slice_get p.funcs func ≡ found → false ≡ lends_in p found block
    by_func None n = refl
    by_func (Some f) n = absurd (no_func p func f e n)

pub front_of : {X Y : Type 0} (f : X → Y) (n : ℕ) (xs : List X) → take n (map f xs) ≡ map f (take n xs)
front_of f n xs = take-map f n xs
