-- What is known of a function of well-formed code and of its lines, where the certificate fits.
use Rattle.std.proofs.Common.{◌≡◌, ℕ, zero, suc, ◌+◌, ◌-◌, ◌<◌, ◌≤◌, Bool, true, false, List, [], ◌∷◌, length, map, Option, Some, None, refl, sym, ap, ◌∙◌, subst, arith, length-append}
use Rattle.std.specs.Prelude.{◌==◌, ◌||◌, ◌&&◌, cond, slice_get, IsTrue, IsSomeAnd}
use Rattle.std.specs.List.{AllByRecursion, range_with_len}
use Rattle.std.specs.Option.{option_map_or}
use Rattle.std.proofs.lemmas.Bool.Decides.{nat_tests}
use Rattle.camelot_values.specs.Kinds.{DataType}
use Rattle.camelot_values.specs.Heap.{is_heap}
use Rattle.camelot_values.specs.Lists.{is_among, Ascend}
use Rattle.camelot_values.specs.declared.kinds.Kind.{Kind}
use Rattle.camelot_values.specs.declared.kinds.Kind.TheVariants as kind
use Rattle.grail_code.specs.Code.{Block, Func, Code}
use Rattle.grail_code.specs.WellFormed.{IsWellFormed, FuncFits, BlockFits, BlocksFit, kind_of, local_kinds, HaveKinds, params_at, is_marked, looked_in, is_read, is_lent}
use Rattle.grail_code.specs.Limits.{IsWithinLimits}
use Rattle.grail_code.specs.Limits as limits
use Rattle.certificate.specs.Certificates.{VarCert, BlockCert, FuncCert, Cert, FuncIsFormed, FuncIsWithin, AreVars, IsCert}
use Rattle.licence.specs.Books.{said, block_of}
use Rattle.licence.specs.Fitting.{IsHeapData, VarFits, OwnFit, IsRightAt, Right, Fits}
use Rattle.grail_verifier.proofs.Lines.{IsLine, counted}
use Rattle.grail_verifier.proofs.Carrying.{AreOf, Aligned, LinesAscend, kept_numbers, kept_args}

-- ---- what holds of all holds of one

pub all_at : {A : Type 0} (P : A → Type 0) (xs : List A) (i : ℕ) (x : A) → AllByRecursion P xs → slice_get xs i ≡ Some x → P x
all_at P [] i x h e = let k : None ≡ Some x = e in absurd cc
all_at P (y ∷ ys) zero x h e = let same : y ≡ x = cc in subst P same h.0
all_at P (y ∷ ys) (suc i) x h e = all_at P ys i x h.1 e

pub some_and : {A : Type 0} (P : A → Type 0) (o : Option A) → IsSomeAnd o P → (x : A) × (o ≡ Some x) × P x
some_and P None h = absurd h
some_and P (Some x) h = (x, refl, h)

pub is_there : {A : Type 0} (xs : List A) (i : ℕ) (x : A) → slice_get xs i ≡ Some x → i < length xs
is_there [] i x e = let k : None ≡ Some x = e in absurd cc
is_there (y ∷ ys) zero x e = omega arith
is_there (y ∷ ys) (suc i) x e = omega (arith, is_there ys i x e)

-- ---- a function and its lines

pub record Ready (p : Code) (c : Cert) (func : ℕ) (f : Func) (own : FuncCert) : Type 0 where
  pub code : slice_get p.funcs func ≡ Some f
  pub lines : slice_get c.funcs func ≡ Some own
  pub right : (number : ℕ) → IsRightAt p f own number
  pub formed : FuncIsFormed own
  pub within : FuncIsWithin own
  pub fits : FuncFits p f
  pub limits : limits.FuncIsWithin f

-- code and a certificate that fits it
pub record Known (p : Code) (c : Cert) : Type 0 where
  pub well : IsWellFormed p
  pub limits : IsWithinLimits p
  pub fits : Fits p c
  pub right : IsCert c

pub ready_at : (p : Code) (c : Cert) → Known p c → (func : ℕ) (f : Func) → slice_get p.funcs func ≡ Some f → (own : FuncCert) × Ready p c func f own
ready_at p c k func f e = by_lines (slice_get c.funcs func) refl
  where
    right : (number : ℕ) → Right p number (Some f) (slice_get c.funcs func)
    right number = subst (λ o. Right p number o (slice_get c.funcs func)) e (k.fits func number)

    by_lines : (o : Option FuncCert) → slice_get c.funcs func ≡ o → (own : FuncCert) × Ready p c func f own
    by_lines None d = absurd (subst (λ o. Right p 0 (Some f) o) d (right 0) refl)
    by_lines (Some own) d = (
      own,
      record {
        code = e;
        lines = d;
        right = λ number. subst (λ o. Right p number (Some f) o) d (right number);
        formed = all_at FuncIsFormed c.funcs func own k.right.formed.funcs d;
        within = all_at FuncIsWithin c.funcs func own k.right.within.funcs d;
        fits = all_at (FuncFits p) p.funcs func f k.well.funcs e;
        limits = all_at limits.FuncIsWithin p.funcs func f k.limits.funcs e;
      },
    )

-- what a function's lines say
pub said_is : {B : Type 0} (c : Cert) (func : ℕ) (own : FuncCert) (say : FuncCert → B) (nothing : B) → slice_get c.funcs func ≡ Some own
    → said c func say nothing ≡ say own
said_is c func own say nothing e = ap (λ o. option_map_or say o nothing) e

-- ---- locals

-- a function has at most 256 locals
pub few_locals : (f : Func) (x : ℕ) (q : Kind) → limits.FuncIsWithin f → kind_of f x ≡ Some q → x < 256
few_locals f x q h e = omega (arith, is_there (local_kinds f) x q e, length-append f.params f.locals, h.few_params, h.few_locals)

-- ---- parameters and their numbers

vars_of : (p : Code) (f : Func) (params : List ℕ) (vars : List VarCert) → AllByRecursion (VarFits p.types f params) vars → AreOf params vars
vars_of p f params [] h = tt
vars_of p f params (v ∷ vs) h = (h.0.there, vars_of p f params vs h.1)

-- ---- arguments that are taken, and the lines of their parameters

-- what a range has
range_has : (a n x : ℕ) → is_among (range_with_len a n) x ≡ true → (a ≤ x) × (x < a + n)
range_has a zero x h = absurd cc
range_has a (suc n) x h = by_test (range_has (a + 1) n x) (a == x) refl h
  where
    by_test : (is_among (range_with_len (a + 1) n) x ≡ true → (a + 1 ≤ x) × (x < a + 1 + n)) → (b : Bool) → (a == x) ≡ b
        → (b || is_among (range_with_len (a + 1) n) x) ≡ true → (a ≤ x) × (x < a + suc n)
    by_test rest true e k = let same : a ≡ x = grind (arith, nat_tests, e) in (omega (arith, same), omega (arith, same))
    by_test rest false e k = let r = rest k in (omega (arith, r.0), omega (arith, r.1))

-- the number of a parameter that isn't marked is among those
kept_has : (marked : ℕ → Bool) (number count : ℕ) (xs : List ℕ) (n : ℕ) → length xs ≡ count → number ≤ n → n < number + count → marked n ≡ false
    → is_among (kept_numbers marked number count xs) n ≡ true
kept_has marked number zero xs n few low high plain = absurd (omega (arith, low, high))
kept_has marked number (suc count) [] n few low high plain = absurd (omega (arith, few))
kept_has marked number (suc count) (x ∷ xs) n few low high plain =
    by_test (λ l. kept_has marked (suc number) count xs n (omega (arith, few)) l (omega (arith, high)) plain) (number == n) refl
  where
    ns : List ℕ
    ns = kept_numbers marked (suc number) count xs

    first : (b : Bool) → (number == n) ≡ true → b ≡ false → is_among (cond b ns (number ∷ ns)) n ≡ true
    first true e k = absurd cc
    first false e k = ap (λ t. t || is_among ns n) e

    later : (b : Bool) → (number == n) ≡ false → is_among ns n ≡ true → is_among (cond b ns (number ∷ ns)) n ≡ true
    later true e k = k
    later false e k = ap (λ t. t || is_among ns n) e ∙ k

    by_test : (suc number ≤ n → is_among ns n ≡ true) → (b : Bool) → (number == n) ≡ b → is_among (cond (marked number) ns (number ∷ ns)) n ≡ true
    by_test rest true e = let same : number ≡ n = grind (arith, nat_tests, e) in first (marked number) e (ap marked same ∙ plain)
    by_test rest false e = later (marked number) e (rest (grind (arith, nat_tests, e, low)))

kept_above : (marked : ℕ → Bool) (low number count : ℕ) (xs : List ℕ) → low < number → AllByRecursion (λ n. low < n) (kept_numbers marked number count xs)
kept_above marked low number zero xs less = tt
kept_above marked low number (suc count) [] less = tt
kept_above marked low number (suc count) (x ∷ xs) less = by_mark (marked number) (kept_above marked low (suc number) count xs (omega (arith, less)))
  where
    by_mark : (b : Bool) → AllByRecursion (λ n. low < n) (kept_numbers marked (suc number) count xs)
        → AllByRecursion (λ n. low < n) (cond b (kept_numbers marked (suc number) count xs) (number ∷ kept_numbers marked (suc number) count xs))
    by_mark true rest = rest
    by_mark false rest = (less, rest)

pub kept_ascend : (marked : ℕ → Bool) (number count : ℕ) (xs : List ℕ) → Ascend (kept_numbers marked number count xs)
kept_ascend marked number zero xs = tt
kept_ascend marked number (suc count) [] = tt
kept_ascend marked number (suc count) (x ∷ xs) = by_mark (marked number) (kept_ascend marked (suc number) count xs)
  where
    in_front : (ns : List ℕ) → AllByRecursion (λ n. number < n) ns → Ascend ns → Ascend (number ∷ ns)
    in_front [] above rest = tt
    in_front (n ∷ ns) above rest = (above.0, rest)

    by_mark : (b : Bool) → Ascend (kept_numbers marked (suc number) count xs)
        → Ascend (cond b (kept_numbers marked (suc number) count xs) (number ∷ kept_numbers marked (suc number) count xs))
    by_mark true rest = rest
    by_mark false rest = in_front (kept_numbers marked (suc number) count xs) (kept_above marked number (suc number) count xs (omega arith)) rest

-- arguments by the numbers of their parameters
pub kept_aligned : (marked : ℕ → Bool) (local : ℕ → Option ℕ) (number count : ℕ) (xs : List ℕ) → ((i : ℕ) → local (number + i) ≡ slice_get xs i)
    → Aligned local (kept_numbers marked number count xs) (kept_args marked number count xs)
kept_aligned marked local number zero xs at = tt
kept_aligned marked local number (suc count) [] at = tt
kept_aligned marked local number (suc count) (x ∷ xs) at =
    by_mark (marked number) (kept_aligned marked local (suc number) count xs (λ (i : ℕ). let z : suc number + i ≡ number + suc i = omega arith in ap local z ∙ at (suc i)))
  where
    ns : List ℕ
    ns = kept_numbers marked (suc number) count xs

    ys : List ℕ
    ys = kept_args marked (suc number) count xs

    by_mark : (b : Bool) → Aligned local ns ys → Aligned local (cond b ns (number ∷ ns)) (cond b ys (x ∷ ys))
    by_mark true rest = rest
    by_mark false rest = ((let z : number ≡ number + 0 = omega arith in ap local z ∙ at 0), rest)

-- A line is of a parameter that isn't marked: a marked one of a heap kind is lent.
line_unmarked : (types : List DataType) (g : Func) (params : List ℕ) (v : VarCert) → VarFits types g params v → is_marked g v.var ≡ false
line_unmarked types g params v fits = by_mark (is_marked g v.var) refl
  where
    of_type : (b : Bool) → IsTrue b → b ≡ true
    of_type true t = refl
    of_type false t = absurd cc

    heap : (o : Option Kind) → IsSomeAnd o (IsHeapData types) → option_map_or (is_heap types) o false ≡ true
    heap None h = absurd h
    heap (Some kind.Int) h = absurd h
    heap (Some kind.Flag) h = absurd h
    heap (Some kind.Dia) h = absurd h
    heap (Some (kind.Of t)) h = of_type (is_heap types (kind.Of t)) h

    by_mark : (b : Bool) → is_marked g v.var ≡ b → b ≡ false
    by_mark false e = refl
    by_mark true e =
        let lent : is_lent types g v.var ≡ true = ap (λ b. b && is_read g v.var) (heap (kind_of g v.var) fits.heap) ∙ ap (λ b. b || is_among (looked_in g) v.var) e in
        let c : true ≡ false = sym lent ∙ fits.owned in absurd cc

as_many : (f : Func) (xs : List ℕ) (qs : List Kind) → HaveKinds f xs qs → length xs ≡ length qs
as_many f [] [] h = refl
as_many f [] (q ∷ qs) h = absurd cc
as_many f (x ∷ xs) [] h = absurd cc
as_many f (x ∷ xs) (q ∷ qs) h = let rest : map (kind_of f) xs ≡ map Some qs = cc in ap suc (as_many f xs qs rest)

-- the lines of a function are of parameters that aren't marked
pub own_kept : (p : Code) (f g : Func) (own : FuncCert) (args : List ℕ) → OwnFit p g own → HaveKinds f args g.params
    → AreOf (kept_numbers (is_marked g) 0 (length g.params) args) own.params
own_kept p f g own args fit kinds = each own.params fit.params
  where
    each : (vars : List VarCert) → AllByRecursion (VarFits p.types g (range_with_len 0 (length g.params))) vars
        → AreOf (kept_numbers (is_marked g) 0 (length g.params) args) vars
    each [] h = tt
    each (v ∷ vs) h =
        let r = range_has 0 (length g.params) v.var h.0.there in
        (kept_has (is_marked g) 0 (length g.params) args v.var (as_many f args g.params kinds) r.0 r.1 (line_unmarked p.types g (range_with_len 0 (length g.params)) v h.0), each vs h.1)

-- locals are their own numbers
pub self_aligned : (xs : List ℕ) → Aligned Some xs xs
self_aligned [] = tt
self_aligned (x ∷ xs) = (refl, self_aligned xs)

-- ---- blocks

block_at : (p : Code) (f : Func) (k : ℕ) (bs : List Block) (i : ℕ) (b : Block) → BlocksFit p f k bs → slice_get bs i ≡ Some b → BlockFits p f (k + i) b
block_at p f k [] i b h e = let d : None ≡ Some b = e in absurd cc
block_at p f k (x ∷ bs) zero b h e = let same : x ≡ b = cc in let z : k ≡ k + 0 = omega arith in subst (λ n. BlockFits p f n b) z (subst (BlockFits p f k) same h.0)
block_at p f k (x ∷ bs) (suc i) b h e = let z : suc k + i ≡ k + suc i = omega arith in subst (λ n. BlockFits p f n b) z (block_at p f (suc k) bs i b h.1 e)

pub block_fits : (p : Code) (f : Func) (number : ℕ) (b : Block) → FuncFits p f → slice_get f.blocks number ≡ Some b → BlockFits p f number b
block_fits p f number b h e = let z : 0 + number ≡ number = omega arith in subst (λ n. BlockFits p f n b) z (block_at p f 0 f.blocks number b h.blocks e)

-- the block of this number, with its line
pub record IsTarget (p : Code) (f : Func) (own : FuncCert) (number : ℕ) : Type 0 where
  pub block : Block
  pub there : slice_get f.blocks number ≡ Some block
  pub fits : BlockFits p f number block
  pub line : BlockCert
  pub found : block_of own.blocks number ≡ Some line
  pub stands : slice_get own.blocks (number - 1) ≡ Some line
  pub ascend : LinesAscend line.vars
  pub of : AreOf block.params line.vars

get_there : {A : Type 0} (xs : List A) (i : ℕ) → i < length xs → (x : A) × (slice_get xs i ≡ Some x)
get_there [] i h = absurd (omega (arith, h))
get_there (x ∷ xs) zero h = (x, refl)
get_there (x ∷ xs) (suc i) h = get_there xs i (omega (arith, h))

pub target_at : (p : Code) (c : Cert) (func : ℕ) (f : Func) (own : FuncCert) (number : ℕ) → Ready p c func f own → 1 ≤ number
    → number < length f.blocks → IsTarget p f own number
target_at p c func f own number r some less = by_both (get_there f.blocks number less) (counted own.blocks 1 (length f.blocks) number r.formed.blocks (λ i. (r.right i).line) some less)
  where
    by_both : ((b : Block) × (slice_get f.blocks number ≡ Some b)) → IsLine own.blocks 1 number → IsTarget p f own number
    by_both b l = record {
      block = b.0;
      there = b.1;
      fits = block_fits p f number b.0 r.fits b.1;
      line = l.line;
      found = l.found;
      stands = l.stands;
      ascend = (all_at (λ x. AreVars x.vars) own.blocks (number - 1) l.line r.formed.vars l.stands).ascending;
      of = subst (λ o. AreOf (option_map_or (λ block. block.params) o []) l.line.vars) b.1 (vars_of p f (params_at f.blocks number) l.line.vars
          (all_at (λ x. x.block ≡ number → AllByRecursion (VarFits p.types f (params_at f.blocks number)) x.vars) own.blocks (number - 1) l.line (r.right number).vars l.stands l.number));
    }
