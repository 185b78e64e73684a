-- The account at a place, by the walk through the lets.
use Rattle.std.proofs.Common.{◌≡◌, ℕ, zero, suc, ◌<◌, Bool, true, false, List, [], ◌∷◌, length, map, take, drop, get_or, Option, Some, None, refl, sym, ap, ◌∙◌, subst, arith}
use Rattle.std.specs.Prelude.{◌==◌, ◌-◌, cond, if◌then◌else◌, slice_get}
use Rattle.std.specs.List.{AllByRecursion, range_with_len}
use Rattle.std.specs.Option.{option_map_or}
use Rattle.std.proofs.lemmas.Bool.Decides.{nat_tests}
use Rattle.std.proofs.lemmas.List.{take-map, take_rest}
use Rattle.std.proofs.lemmas.List.FromFn.{get_or-map-range_with_len}
use Rattle.std.proofs.lemmas.Option.{slice_get_within}
use Rattle.camelot_values.specs.Kinds.{DataType}
use Rattle.grail_code.specs.Code.{Op, Lit, Flag, Copy, Prim, Make, Call, Let, Block, Func}
use Rattle.annotations.specs.Vectors.{Vector, at, is_heap_con}
use Rattle.certificate.specs.Certificates.{BlockCert, FuncCert, Cert}
use Rattle.licence.specs.Books.{Carried, book_of, vector_of, block_of, make_of}
use Rattle.licence.specs.Fitting.{Fits, Right}
use Rattle.licence.specs.Licensed.{Licensed}
use Rattle.licence.specs.Rules.{naturals, Account, account_at, build_cost, carrying, after_op, after_lets}
use Rattle.frame_accounts.specs.Accounts.{block_in, block_at, account_of, AreCarried}
use Rattle.frame_accounts.specs.Tables.{Row, Table, row_for, table_of}
use Rattle.frame_accounts.specs.Walk.{Vectors, listed, Told, putting_from, first_need, first_vars, result_of, left_after, vectors_after, left_behind, vectors_behind, left_at, vectors_at}
use Rattle.frame_accounts.proofs.TableLaws.{rows_are, row_is}
use Rattle.frame_accounts.proofs.VectorLaws.{listed_long}

pub front_of : {X Y : Type 0} (f : X → Y) (n : ℕ) (xs : List X) → take n (map f xs) ≡ map f (take n xs)
front_of f n xs = take-map f n xs

rest_of : {X Y : Type 0} (f : X → Y) (n : ℕ) (xs : List X) → drop n (map f xs) ≡ map f (drop n xs)
rest_of f zero xs = refl
rest_of f (suc n) [] = refl
rest_of f (suc n) (x ∷ xs) = rest_of f n xs

pub rest_there : {X Y : Type 0} (f : X → Y) (n : ℕ) (xs : List X) → map f (take (length xs - n) (drop n xs)) ≡ drop n (map f xs)
rest_there f n xs = ap (map f) (take_rest xs n) ∙ sym (rest_of f n xs)

drop_past : {X Y : Type 0} (f : X → Y) (n : ℕ) (xs : List X) → length xs < n → drop n (map f xs) ≡ []
drop_past f zero xs less = absurd (omega (arith, less))
drop_past f (suc n) [] less = refl
drop_past f (suc n) (x ∷ xs) less = drop_past f n xs (omega (arith, less))

pub rest_past : {X Y : Type 0} (f : X → Y) (n : ℕ) (xs : List X) → length xs < n → [] ≡ drop n (map f xs)
rest_past f n xs less = sym (drop_past f n xs less)

-- ---- let by let

-- the vectors say what locals carry
abbrev Agree : Vectors → Carried ℕ → Type 0
Agree v carried = (y con : ℕ) → at (v y) con ≡ carried y con

module _ (types : List DataType) (c : Cert) (own : FuncCert) (func block : ℕ) (there : slice_get c.funcs func ≡ Some own) where
  made_own : (place con : ℕ) → at (make_of own.makes block place) con ≡ (book_of c).make func block place con
  made_own place con = sym (ap (λ o. at (option_map_or (λ (f : FuncCert). make_of f.makes block place) o []) con) there)

  left_op : (place : ℕ) (a : Account ℕ) (x : ℕ) (op : Op) → left_after types c (make_of own.makes block place) a.left op ≡ (after_op naturals types (book_of c) func block place a x op).left
  left_op place a x (Lit z) = refl
  left_op place a x (Flag b) = refl
  left_op place a x (Copy z) = refl
  left_op place a x (Prim op y z) = refl
  left_op place a x (Call callee args) = refl
  left_op place a x (Make con args into) = by_heap (is_heap_con types con)
    where
      built : Account ℕ
      built = record { left = a.left - build_cost naturals c.unit into ((book_of c).make func block place con); carried = carrying a.carried x ((book_of c).make func block place) }

      by_heap : (heap : Bool) → cond heap (a.left - build_cost naturals c.unit into (at (make_of own.makes block place) con)) a.left ≡ (cond heap built a).left
      by_heap true = ap (λ m. a.left - build_cost naturals c.unit into m) (made_own place con)
      by_heap false = refl

  carried_op : (place : ℕ) (v : Vectors) (a : Account ℕ) (x : ℕ) (op : Op) → Agree v a.carried
      → Agree (vectors_after types c (make_of own.makes block place) v x op) (after_op naturals types (book_of c) func block place a x op).carried
  carried_op place v a x (Lit z) h = h
  carried_op place v a x (Flag b) h = h
  carried_op place v a x (Prim op y z) h = h
  carried_op place v a x (Copy z) h = λ y d. by_test y d (x == y)
    where
      by_test : (y d : ℕ) (t : Bool) → at (if t then v z else v y) d ≡ (if t then a.carried z else a.carried y) d
      by_test y d true = h z d
      by_test y d false = h y d
  carried_op place v a x (Call callee args) h = λ y d. by_test y d (x == y)
    where
      by_test : (y d : ℕ) (t : Bool) → at (if t then result_of c callee else v y) d ≡ (if t then (book_of c).result callee else a.carried y) d
      by_test y d true = refl
      by_test y d false = h y d
  carried_op place v a x (Make con args into) h = λ y d. by_heap y d (is_heap_con types con)
    where
      built : Account ℕ
      built = record { left = a.left - build_cost naturals c.unit into ((book_of c).make func block place con); carried = carrying a.carried x ((book_of c).make func block place) }

      by_test : (y d : ℕ) (t : Bool) → at (if t then make_of own.makes block place else v y) d ≡ (if t then (book_of c).make func block place else a.carried y) d
      by_test y d true = made_own place d
      by_test y d false = h y d

      by_heap : (y d : ℕ) (heap : Bool) → at (putting_from v x (cond heap (Some (Told (make_of own.makes block place))) None) y) d ≡ (cond heap built a).carried y d
      by_heap y d true = by_test y d (x == y)
      by_heap y d false = h y d

  left_lets : (place : ℕ) (a : Account ℕ) (ls : List Let) (n : ℕ) → n ≡ a.left → left_behind types c own block place n ls ≡ (after_lets naturals types (book_of c) func block place a ls).left
  left_lets place a [] n e = e
  left_lets place a (l ∷ ls) n e =
      left_lets (suc place) (after_op naturals types (book_of c) func block place a l.target l.op) ls (left_after types c (make_of own.makes block place) n l.op)
      (ap (λ k. left_after types c (make_of own.makes block place) k l.op) e ∙ left_op place a l.target l.op)

  carried_lets : (place : ℕ) (v : Vectors) (a : Account ℕ) (ls : List Let) → Agree v a.carried
      → Agree (vectors_behind types c own block place v ls) (after_lets naturals types (book_of c) func block place a ls).carried
  carried_lets place v a [] h = h
  carried_lets place v a (l ∷ ls) h =
      carried_lets (suc place) (vectors_after types c (make_of own.makes block place) v l.target l.op) (after_op naturals types (book_of c) func block place a l.target l.op) ls
      (carried_op place v a l.target l.op h)

-- ---- at the beginning of a block

first_left : (c : Cert) (own : FuncCert) (func block : ℕ) → slice_get c.funcs func ≡ Some own → first_need own block ≡ (account_at (book_of c) func block).left
first_left c own func zero there = sym (ap (λ o. option_map_or (λ (f : FuncCert). f.need) o 0) there)
first_left c own func (suc n) there =
    let test : (suc n == 0) ≡ false = grind (arith, nat_tests) in
    ap (λ t. if t then own.need else option_map_or (λ (b : BlockCert). b.need) (block_of own.blocks (suc n)) 0) test
    ∙ sym (ap (λ o. option_map_or (λ (f : FuncCert). option_map_or (λ (b : BlockCert). b.need) (block_of f.blocks (suc n)) 0) o 0) there)

first_carried : (c : Cert) (own : FuncCert) (func block : ℕ) → slice_get c.funcs func ≡ Some own → Agree (vector_of (first_vars own block)) (account_at (book_of c) func block).carried
first_carried c own func zero there = λ y d. sym (ap (λ o. at (option_map_or (λ (f : FuncCert). vector_of f.params y) o []) d) there)
first_carried c own func (suc n) there = λ y d.
    let test : (suc n == 0) ≡ false = grind (arith, nat_tests) in
    ap (λ t. at (vector_of (if t then own.params else option_map_or (λ (b : BlockCert). b.vars) (block_of own.blocks (suc n)) []) y) d) test
    ∙ by_line y d (block_of own.blocks (suc n))
    ∙ sym (ap (λ o. at (option_map_or (λ (f : FuncCert). option_map_or (λ (b : BlockCert). vector_of b.vars y) (block_of f.blocks (suc n)) []) o []) d) there)
  where
    by_line : (y d : ℕ) (o : Option BlockCert) → at (vector_of (option_map_or (λ (b : BlockCert). b.vars) o []) y) d ≡ at (option_map_or (λ (b : BlockCert). vector_of b.vars y) o []) d
    by_line y d None = refl
    by_line y d (Some b) = refl

-- ---- at a place

pub place_left : (l : Licensed) (func block place : ℕ) (own : FuncCert) (b : Block) (ls : List Let) (n : ℕ) → slice_get l.cert.funcs func ≡ Some own → ls ≡ take place b.lets
    → n ≡ left_at l.code.types l.cert own block ls → n ≡ (account_of l func block b place).left
unfolding left_at
place_left l func block place own b ls n there front is =
    is ∙ left_lets l.code.types l.cert own func block there 1 (account_at (book_of l.cert) func block) ls (first_need own block) (first_left l.cert own func block there)
    ∙ ap (λ ks. (after_lets naturals l.code.types (book_of l.cert) func block 1 (account_at (book_of l.cert) func block) ks).left) front

listed_is : (n : ℕ) (v : Vectors) (new : List Vector) (x : ℕ) → new ≡ listed n v → x < length new → get_or new x [] ≡ v x
unfolding listed
listed_is n v new x e less =
    let long : length new ≡ n = ap length e ∙ listed_long n v in
    ap (λ l. get_or l x []) e ∙ get_or-map-range_with_len v 0 n x x [] (omega (arith, less, long)) (omega arith)

vectors_agree : (l : Licensed) (func block : ℕ) (own : FuncCert) (ls : List Let) → slice_get l.cert.funcs func ≡ Some own
    → Agree (vectors_at l.code.types l.cert own block ls) (after_lets naturals l.code.types (book_of l.cert) func block 1 (account_at (book_of l.cert) func block) ls).carried
unfolding vectors_at
vectors_agree l func block own ls there =
    carried_lets l.code.types l.cert own func block there 1 (vector_of (first_vars own block)) (account_at (book_of l.cert) func block) ls (first_carried l.cert own func block there)

pub place_carried : (l : Licensed) (func block place : ℕ) (own : FuncCert) (b : Block) (ls : List Let) (n : ℕ) (new : List Vector) → slice_get l.cert.funcs func ≡ Some own
    → ls ≡ take place b.lets → new ≡ listed n (vectors_at l.code.types l.cert own block ls) → AreCarried (account_of l func block b place).carried new
unfolding AreCarried
place_carried l func block place own b ls n new there front is x less con =
    ap (λ m. at m con) (listed_is n (vectors_at l.code.types l.cert own block ls) new x is less) ∙ vectors_agree l func block own ls there x con
    ∙ ap (λ ks. (after_lets naturals l.code.types (book_of l.cert) func block 1 (account_at (book_of l.cert) func block) ks).carried x con) front

-- ---- what stands there

pub all_at : {A : Type 0} (P : A → Type 0) (xs : List A) (i : ℕ) (x : A) → AllByRecursion P xs → slice_get xs i ≡ Some x → P x
all_at P [] i x h k = let e : None ≡ Some x = k in absurd cc
all_at P (y ∷ ys) zero x h k = let e : y ≡ x = cc in subst P e h.0
all_at P (y ∷ ys) (suc i) x h k = all_at P ys i x h.1 k

record Stands (o : Option Func) (block : ℕ) (b : Block) : Type 0 where
  f : Func
  is : o ≡ Some f
  here : slice_get f.blocks block ≡ Some b

stands : (o : Option Func) (block : ℕ) (b : Block) → block_in o block ≡ Some b → Stands o block b
stands None block b e = absurd cc
stands (Some f) block b e = record { f = f; is = refl; here = e }

-- where there is a block its function has lines, the function has rows, and the block has one
pub no_own : (l : Licensed) (func block : ℕ) (b : Block) → Fits l.code l.cert → block_at l.code func block ≡ Some b → slice_get l.cert.funcs func ≡ None → ⊥
no_own l func block b fits there none =
    let s = stands (slice_get l.code.funcs func) block b there in
    let right : Right l.code 0 (slice_get l.code.funcs func) (slice_get l.cert.funcs func) = fits func 0 in
    let told : Right l.code 0 (Some s.f) None = subst (λ o. Right l.code 0 o None) s.is (subst (Right l.code 0 (slice_get l.code.funcs func)) none right) in
    told refl

rows_told : (l : Licensed) (t : Table) (func block : ℕ) (own : FuncCert) (b : Block) (s : Stands (slice_get l.code.funcs func) block b) → t ≡ table_of l → slice_get l.cert.funcs func ≡ Some own
    → slice_get t.funcs func ≡ Some (map (row_for own) (range_with_len 0 (length s.f.blocks)))
rows_told l t func block own b s table lines = ap (λ (u : Table). slice_get u.funcs func) table ∙ rows_are l func s.f own s.is lines

pub no_rows : (l : Licensed) (t : Table) (func block : ℕ) (own : FuncCert) (b : Block) → t ≡ table_of l → block_at l.code func block ≡ Some b → slice_get l.cert.funcs func ≡ Some own
    → slice_get t.funcs func ≡ None → ⊥
no_rows l t func block own b table there lines none =
    let s = stands (slice_get l.code.funcs func) block b there in
    let both : None ≡ Some (map (row_for own) (range_with_len 0 (length s.f.blocks))) = sym none ∙ rows_told l t func block own b s table lines in
    cc

row_there : (l : Licensed) (t : Table) (func block : ℕ) (own : FuncCert) (b : Block) (rows : List Row) → t ≡ table_of l → block_at l.code func block ≡ Some b → slice_get l.cert.funcs func ≡ Some own
    → slice_get t.funcs func ≡ Some rows → slice_get rows block ≡ Some (row_for own block)
row_there l t func block own b rows table there lines found =
    let s = stands (slice_get l.code.funcs func) block b there in
    let both : Some rows ≡ Some (map (row_for own) (range_with_len 0 (length s.f.blocks))) = sym found ∙ rows_told l t func block own b s table lines in
    let same : rows ≡ map (row_for own) (range_with_len 0 (length s.f.blocks)) = cc in
    ap (λ rs. slice_get rs block) same ∙ row_is own (length s.f.blocks) block (slice_get_within s.f.blocks block b s.here)

pub row_told : (l : Licensed) (t : Table) (func block : ℕ) (own : FuncCert) (b : Block) (rows : List Row) (r : Row) → t ≡ table_of l → block_at l.code func block ≡ Some b
    → slice_get l.cert.funcs func ≡ Some own → slice_get t.funcs func ≡ Some rows → slice_get rows block ≡ Some r → r ≡ row_for own block
row_told l t func block own b rows r table there lines found e =
    let both : Some r ≡ Some (row_for own block) = sym e ∙ row_there l t func block own b rows table there lines found in
    cc

pub no_row : (l : Licensed) (t : Table) (func block : ℕ) (own : FuncCert) (b : Block) (rows : List Row) → t ≡ table_of l → block_at l.code func block ≡ Some b
    → slice_get l.cert.funcs func ≡ Some own → slice_get t.funcs func ≡ Some rows → slice_get rows block ≡ None → ⊥
no_row l t func block own b rows table there lines found e =
    let both : None ≡ Some (row_for own block) = sym e ∙ row_there l t func block own b rows table there lines found in
    cc
