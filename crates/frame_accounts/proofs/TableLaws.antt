-- The table of a licence: marks of constructors, and lines in front of blocks.
use Rattle.std.proofs.Common.{◌≡◌, ℕ, zero, suc, ◌+◌, ◌<◌, ◌≤◌, Bool, true, false, List, [], ◌∷◌, ◌++◌, length, map, drop, get_or, replicate, Option, Some, refl, sym, ap, ◌∙◌, subst, arith, append_assoc}
use Rattle.std.specs.Prelude.{◌-◌, nat_lt, cond, if◌then◌else◌, slice_get}
use Rattle.std.specs.List.{prefix_len, range_with_len}
use Rattle.std.specs.Option.{option_map, option_map_or}
use Rattle.std.proofs.lemmas.Bool.Decides.{nat_tests}
use Rattle.std.proofs.lemmas.List.{length-replicate, replicate-append-replicate, drop_more}
use Rattle.std.proofs.lemmas.List.Sums.{prefix_len-le-length}
use Rattle.std.proofs.lemmas.List.FromFn.{map-range_with_len_more}
use Rattle.std.proofs.lemmas.Option.{slice_get-get_or, slice_get-map}
use Rattle.camelot_values.specs.Kinds.{DataType, type_from}
use Rattle.camelot_values.specs.Heap.{is_heap_type}
use Rattle.camelot_values.specs.KindLaws.{slice_get_front, slice_get_behind}
use Rattle.annotations.specs.Vectors.{is_heap_con}
use Rattle.certificate.specs.Certificates.{FuncCert, Cert}
use Rattle.certificate.specs.Words.{block_of, make_of}
use Rattle.certificate.specs.declared.types.BlockCert.{BlockCert as DeclaredBlock}
use Rattle.certificate.specs.declared.types.MakeCert.{MakeCert as DeclaredMake}
use Rattle.grail_code.specs.Code as plain
use Rattle.grail_code.specs.Code.{Func}
use Rattle.grail_code.specs.declared.code.Block.{Block as DeclaredBody}
use Rattle.grail_code.specs.Code.{func_of as body_of}
use Rattle.grail_code.specs.declared.code.Func.{Func as DeclaredFunc}
use Rattle.licence.specs.Licensed.{Licensed}
use Rattle.frame_accounts.specs.Tables.{Row, row_of, heaps_from, lines_before, makes_before, row_for, rows_for, rows_from, table_of}
use Rattle.frame_accounts.specs.declared.table.BlockRow.{BlockRow}

-- ---- marks

one_turn : (n : ℕ) (b : Bool) → replicate (n + 1) b ≡ replicate n b ++ b ∷ []
one_turn n b = sym (replicate-append-replicate n 1 b)

pub one_mark : (first marks more : List Bool) (n : ℕ) (b : Bool) → marks ≡ first ++ replicate n b → more ≡ marks ++ b ∷ [] → more ≡ first ++ replicate (n + 1) b
one_mark first marks more n b h e = e ∙ ap (λ bs. bs ++ b ∷ []) h ∙ append_assoc first (replicate n b) (b ∷ []) ∙ ap (λ bs. first ++ bs) (sym (one_turn n b))

replicate_get : (n x : ℕ) (b : Bool) → x < n → slice_get (replicate n b) x ≡ Some b
replicate_get zero x b less = absurd (omega (arith, less))
replicate_get (suc n) zero b less = refl
replicate_get (suc n) (suc x) b less = replicate_get n x b (omega (arith, less))

-- the mark of a constructor says whether its type is a heap type
heaps_get : (types : List DataType) (number : ℕ) (ts : List DataType) (con : ℕ)
    → option_map_or (λ mark. mark) (slice_get (heaps_from types number ts) con) false ≡ option_map_or (is_heap_type types) (type_from number ts con) false
heaps_get types number [] con = refl
heaps_get types number (t ∷ ts) con = by_test (heaps_get types (suc number) ts (con - length t.cons)) (nat_lt con (length t.cons)) refl
  where
    marks : List Bool
    marks = replicate (length t.cons) (is_heap_type types number)

    rest : List Bool
    rest = heaps_from types (suc number) ts

    long : length marks ≡ length t.cons
    long = length-replicate (length t.cons) (is_heap_type types number)

    by_test : option_map_or (λ mark. mark) (slice_get rest (con - length t.cons)) false ≡ option_map_or (is_heap_type types) (type_from (suc number) ts (con - length t.cons)) false
        → (b : Bool) → nat_lt con (length t.cons) ≡ b
        → option_map_or (λ mark. mark) (slice_get (marks ++ rest) con) false ≡ option_map_or (is_heap_type types) (if b then Some number else type_from (suc number) ts (con - length t.cons)) false
    by_test rec true e =
        let less : con < length t.cons = grind (arith, nat_tests, e) in
        ap (λ o. option_map_or (λ mark. mark) o false) (slice_get_front marks rest con (omega (arith, less, long)) ∙ replicate_get (length t.cons) con (is_heap_type types number) less)
    by_test rec false e =
        let most : length t.cons ≤ con = grind (arith, nat_tests, e) in
        ap (λ o. option_map_or (λ mark. mark) o false) (slice_get_behind marks rest con (omega (arith, most, long)) ∙ ap (λ n. slice_get rest (con - n)) long) ∙ rec

pub heap_told : (types : List DataType) (heaps : List Bool) (con : ℕ) (o : Option Bool) → heaps ≡ heaps_from types 0 types → slice_get heaps con ≡ o
    → option_map_or (λ mark. mark) o false ≡ is_heap_con types con
heap_told types heaps con o told e =
    ap (λ o. option_map_or (λ mark. mark) o false) (sym e ∙ ap (λ bs. slice_get bs con) told) ∙ heaps_get types 0 types con

-- ---- how many lines pass

prefix_more : {Y : Type 0} (p : Y → Bool) (ys : List Y) (i : ℕ) (y : Y) → slice_get ys i ≡ Some y → p y ≡ true → i ≤ prefix_len p ys → suc i ≤ prefix_len p ys
prefix_more p [] i y e t le = absurd cc
prefix_more p (z ∷ ys) zero y e t le = let same : z ≡ y = cc in let passes : p z ≡ true = ap p same ∙ t in subst (λ b. 1 ≤ cond b (1 + prefix_len p ys) 0) (sym passes) (omega arith)
prefix_more p (z ∷ ys) (suc i) y e t le = by_test (prefix_more p ys i y e t) (p z) le
  where
    by_test : (i ≤ prefix_len p ys → suc i ≤ prefix_len p ys) → (b : Bool) → suc i ≤ cond b (1 + prefix_len p ys) 0 → suc (suc i) ≤ cond b (1 + prefix_len p ys) 0
    by_test rec true le = omega (arith, rec (omega (arith, le)))
    by_test rec false le = absurd (omega (arith, le))

prefix_stop : {Y : Type 0} (p : Y → Bool) (ys : List Y) (i : ℕ) (y : Y) → slice_get ys i ≡ Some y → p y ≡ false → i ≤ prefix_len p ys → i ≡ prefix_len p ys
prefix_stop p [] i y e t le = absurd cc
prefix_stop p (z ∷ ys) zero y e t le = let same : z ≡ y = cc in let fails : p z ≡ false = ap p same ∙ t in ap (λ b. cond b (1 + prefix_len p ys) 0) (sym fails)
prefix_stop p (z ∷ ys) (suc i) y e t le = by_test (prefix_stop p ys i y e t) (p z) le
  where
    by_test : (i ≤ prefix_len p ys → i ≡ prefix_len p ys) → (b : Bool) → suc i ≤ cond b (1 + prefix_len p ys) 0 → suc i ≡ cond b (1 + prefix_len p ys) 0
    by_test rec true le = let same : i ≡ prefix_len p ys = rec (omega (arith, le)) in omega (arith, same)
    by_test rec false le = absurd (omega (arith, le))

prefix_grows : {Y : Type 0} (p q : Y → Bool) → ((y : Y) → p y ≡ true → q y ≡ true) → (ys : List Y) → prefix_len p ys ≤ prefix_len q ys
prefix_grows p q h [] = omega arith
prefix_grows p q h (y ∷ ys) = by_test (prefix_grows p q h ys) (p y) refl
  where
    by_test : prefix_len p ys ≤ prefix_len q ys → (b : Bool) → p y ≡ b → cond b (1 + prefix_len p ys) 0 ≤ cond (q y) (1 + prefix_len q ys) 0
    by_test rec true e = subst (λ b. 1 + prefix_len p ys ≤ cond b (1 + prefix_len q ys) 0) (sym (h y e)) (omega (arith, rec))
    by_test rec false e = omega arith

later_passes : (n k : ℕ) → nat_lt k n ≡ true → nat_lt k (n + 1) ≡ true
later_passes n k e = grind (arith, nat_tests, e)

-- ---- lines of blocks

line_read : (lines : List DeclaredBlock) (n : ℕ) (d : DeclaredBlock) → n < length lines → slice_get (map block_of lines) n ≡ Some (block_of (get_or lines n d))
line_read lines n d less = slice_get-map block_of lines n ∙ ap (option_map block_of) (slice_get-get_or lines n d less)

pub one_line : (lines : List DeclaredBlock) (n block : ℕ) (d : DeclaredBlock) → n ≤ lines_before (map block_of lines) block → n < length lines
    → nat_lt (get_or lines n d).block block ≡ true → n + 1 ≤ lines_before (map block_of lines) block
one_line lines n block d le less t =
    let more : suc n ≤ lines_before (map block_of lines) block = prefix_more (λ b. nat_lt b.block block) (map block_of lines) n (block_of (get_or lines n d)) (line_read lines n d less) t le in
    omega (arith, more)

pub no_line : (lines : List DeclaredBlock) (n block : ℕ) (d : DeclaredBlock) → n ≤ lines_before (map block_of lines) block → n < length lines
    → nat_lt (get_or lines n d).block block ≡ false → n ≡ lines_before (map block_of lines) block
no_line lines n block d le less t = prefix_stop (λ b. nat_lt b.block block) (map block_of lines) n (block_of (get_or lines n d)) (line_read lines n d less) t le

map_long : {X Y : Type 0} (f : X → Y) (xs : List X) → length (map f xs) ≡ length xs
map_long f [] = refl
map_long f (x ∷ xs) = ap suc (map_long f xs)

pub no_more_lines : (lines : List DeclaredBlock) (n block : ℕ) → n ≤ lines_before (map block_of lines) block → length lines ≤ n → n ≡ lines_before (map block_of lines) block
no_more_lines lines n block le most =
    let short : lines_before (map block_of lines) block ≤ length (map block_of lines) = prefix_len-le-length (λ b. nat_lt b.block block) (map block_of lines) in
    omega (arith, le, most, short, map_long block_of lines)

pub lines_grow : (lines : List DeclaredBlock) (block : ℕ) → lines_before (map block_of lines) block ≤ lines_before (map block_of lines) (block + 1)
lines_grow lines block = prefix_grows (λ b. nat_lt b.block block) (λ b. nat_lt b.block (block + 1)) (λ b e. later_passes block b.block e) (map block_of lines)

-- ---- lines of builds

make_read : (makes : List DeclaredMake) (n : ℕ) (d : DeclaredMake) → n < length makes → slice_get (map make_of makes) n ≡ Some (make_of (get_or makes n d))
make_read makes n d less = slice_get-map make_of makes n ∙ ap (option_map make_of) (slice_get-get_or makes n d less)

pub one_make : (makes : List DeclaredMake) (n block : ℕ) (d : DeclaredMake) → n ≤ makes_before (map make_of makes) block → n < length makes
    → nat_lt (get_or makes n d).block block ≡ true → n + 1 ≤ makes_before (map make_of makes) block
one_make makes n block d le less t =
    let more : suc n ≤ makes_before (map make_of makes) block = prefix_more (λ m. nat_lt m.block block) (map make_of makes) n (make_of (get_or makes n d)) (make_read makes n d less) t le in
    omega (arith, more)

pub no_make : (makes : List DeclaredMake) (n block : ℕ) (d : DeclaredMake) → n ≤ makes_before (map make_of makes) block → n < length makes
    → nat_lt (get_or makes n d).block block ≡ false → n ≡ makes_before (map make_of makes) block
no_make makes n block d le less t = prefix_stop (λ m. nat_lt m.block block) (map make_of makes) n (make_of (get_or makes n d)) (make_read makes n d less) t le

pub no_more_makes : (makes : List DeclaredMake) (n block : ℕ) → n ≤ makes_before (map make_of makes) block → length makes ≤ n → n ≡ makes_before (map make_of makes) block
no_more_makes makes n block le most =
    let short : makes_before (map make_of makes) block ≤ length (map make_of makes) = prefix_len-le-length (λ m. nat_lt m.block block) (map make_of makes) in
    omega (arith, le, most, short, map_long make_of makes)

pub makes_grow : (makes : List DeclaredMake) (block : ℕ) → makes_before (map make_of makes) block ≤ makes_before (map make_of makes) (block + 1)
makes_grow makes block = prefix_grows (λ m. nat_lt m.block block) (λ m. nat_lt m.block (block + 1)) (λ m e. later_passes block m.block e) (map make_of makes)

-- ---- rows

push_row : {X : Type 0} (f : X → Row) (xs : List X) (x : X) → map f (xs ++ x ∷ []) ≡ map f xs ++ f x ∷ []
push_row f [] x = refl
push_row f (y ∷ xs) x = ap (λ l. f y ∷ l) (push_row f xs x)

pub one_row : (own : FuncCert) (rows more : List BlockRow) (r : BlockRow) (block line make : ℕ) → map row_of rows ≡ map (row_for own) (range_with_len 0 block) → more ≡ rows ++ r ∷ []
    → row_of r ≡ record { line = line; make = make } → line ≡ lines_before own.blocks block → make ≡ makes_before own.makes block
    → map row_of more ≡ map (row_for own) (range_with_len 0 (block + 1))
one_row own rows more r block line make so_far pushed is at_line at_make =
    ap (map row_of) pushed ∙ push_row row_of rows r ∙ ap (λ l. l ++ row_of r ∷ []) so_far
    ∙ ap (λ q. map (row_for own) (range_with_len 0 block) ++ q ∷ []) (is ∙ λ i. record { line = at_line i; make = at_make i })
    ∙ sym (map-range_with_len_more (row_for own) 0 block block (let e : 0 + block ≡ block = omega arith in e))

pub one_func : (c : Cert) (funcs : List DeclaredFunc) (n : ℕ) (d : DeclaredFunc) (rows more whole : List (List Row)) → n < length funcs
    → rows ++ rows_from c n (map body_of (drop n funcs)) ≡ whole → more ≡ rows ++ rows_for (body_of (get_or funcs n d)) (slice_get c.funcs n) ∷ []
    → more ++ rows_from c (n + 1) (map body_of (drop (n + 1) funcs)) ≡ whole
one_func c funcs n d rows more whole less so_far pushed =
    ap (λ l. l ++ rows_from c (n + 1) (map body_of (drop (n + 1) funcs))) pushed
    ∙ append_assoc rows (rows_for (body_of (get_or funcs n d)) (slice_get c.funcs n) ∷ []) (rows_from c (n + 1) (map body_of (drop (n + 1) funcs)))
    ∙ ap (λ m. rows ++ rows_for (body_of (get_or funcs n d)) (slice_get c.funcs n) ∷ rows_from c m (map body_of (drop (n + 1) funcs))) (let e : n + 1 ≡ suc n = omega arith in e)
    ∙ ap (λ fs. rows ++ rows_from c n (map body_of fs)) (sym (drop_more funcs n d less)) ∙ so_far

pub blocks_long : (blocks : List DeclaredBody) → length blocks ≡ length (map plain.block_of blocks)
blocks_long blocks = sym (map_long plain.block_of blocks)

-- ---- asked of the table

from_there : {X : Type 0} (f : ℕ → X) (a n i : ℕ) → i < n → slice_get (map f (range_with_len a n)) i ≡ Some (f (a + i))
from_there f a zero i less = absurd (omega (arith, less))
from_there f a (suc n) zero less = ap (λ k. Some (f k)) (let e : a ≡ a + 0 = omega arith in e)
from_there f a (suc n) (suc i) less = from_there f (a + 1) n i (omega (arith, less)) ∙ ap (λ k. Some (f k)) (let e : a + 1 + i ≡ a + suc i = omega arith in e)

rows_get : (c : Cert) (k : ℕ) (fs : List Func) (i : ℕ) → slice_get (rows_from c k fs) i ≡ option_map (λ f. rows_for f (slice_get c.funcs (k + i))) (slice_get fs i)
rows_get c k [] i = refl
rows_get c k (f ∷ fs) zero = ap (λ n. Some (rows_for f (slice_get c.funcs n))) (let e : k ≡ k + 0 = omega arith in e)
rows_get c k (f ∷ fs) (suc i) = rows_get c (suc k) fs i ∙ ap (λ n. option_map (λ f. rows_for f (slice_get c.funcs n)) (slice_get fs i)) (let e : suc k + i ≡ k + suc i = omega arith in e)

-- the rows of a function that has lines
pub rows_are : (l : Licensed) (func : ℕ) (f : Func) (own : FuncCert) → slice_get l.code.funcs func ≡ Some f → slice_get l.cert.funcs func ≡ Some own
    → slice_get (table_of l).funcs func ≡ Some (map (row_for own) (range_with_len 0 (length f.blocks)))
rows_are l func f own at_func at_own =
    rows_get l.cert 0 l.code.funcs func ∙ ap (λ n. option_map (λ f. rows_for f (slice_get l.cert.funcs n)) (slice_get l.code.funcs func)) (let e : 0 + func ≡ func = omega arith in e)
    ∙ ap (option_map (λ f. rows_for f (slice_get l.cert.funcs func))) at_func ∙ ap (λ o. Some (rows_for f o)) at_own

pub row_is : (own : FuncCert) (n block : ℕ) → block < n → slice_get (map (row_for own) (range_with_len 0 n)) block ≡ Some (row_for own block)
row_is own n block less = from_there (row_for own) 0 n block less ∙ ap (λ k. Some (row_for own k)) (let e : 0 + block ≡ block = omega arith in e)
