-- Laws, for the proofs of this crate and of those above it.
-- The certificate of an assignment has the form of certificates: all its lists ascend, and nothing in it is zero.
use Rattle.std.proofs.Common.{◌≡◌, ℕ, zero, suc, ◌+◌, ◌-◌, ◌<◌, ◌≤◌, Bool, true, false, List, [], ◌∷◌, ◌++◌, length, map, Option, Some, None, refl, sym, ap, ◌∙◌, subst, arith}
use Rattle.std.specs.Prelude.{cond}
use Rattle.std.specs.List.{AllByRecursion, range_with_len}
use Rattle.std.specs.Option.{option_map}
use Rattle.camelot_values.specs.Kinds.{DataType, type_of}
use Rattle.camelot_values.specs.Heap.{reached}
use Rattle.camelot_values.specs.Lists.{Ascend}
use Rattle.camelot_values.specs.ReachLaws.{reached_ascends}
use Rattle.camelot_values.specs.Names.{IsLowerName}
use Rattle.camelot_values.specs.declared.kinds.Kind.{Kind}
use Rattle.camelot_values.specs.declared.kinds.Kind.TheVariants as kind
use Rattle.grail_blocks.specs.Events.{params_at}
use Rattle.grail_code.specs.Code.{Op, Lit, Flag, Copy, Prim, Make, Call, Let, Block, Func, Code}
use Rattle.grail_code.specs.Limits.{IsNamed}
use Rattle.grail_code.specs.WellFormed.{BlocksFit, FuncFits, IsWellFormed}
use Rattle.annotations.specs.Vectors.{Vector, IsVector, is_heap_con}
use Rattle.certificate.specs.Certificates.{MakeCert, IsNotZero, AreVars, MakesAscend, FuncIsFormed, IsFormed}
use Rattle.lp_system.specs.Unknowns.{Param, Result, BlockVar, Made, carriers, local_carriers}
use Rattle.lp_system.specs.theory.Lent.{local_ascends}
use Rattle.lp_system.specs.Found.{Assignment, with_units, units_on, line_of, lines_of, block_by, make_line, made_by, lets_by, builds_by, func_by, funcs_by, certificate_by}

-- ---- lists that ascend

above : (x : ℕ) (xs : List ℕ) → Ascend (x ∷ xs) → AllByRecursion (λ y. x < y) xs
above x [] h = tt
above x (y ∷ xs) h = (h.0, lift xs (above y xs h.1))
  where
    lift : (zs : List ℕ) → AllByRecursion (λ z. y < z) zs → AllByRecursion (λ z. x < z) zs
    lift [] k = tt
    lift (z ∷ zs) k = (omega (arith, h.0, k.0), lift zs k.1)

rest_ascends : (x : ℕ) (xs : List ℕ) → Ascend (x ∷ xs) → Ascend xs
rest_ascends x [] h = tt
rest_ascends x (y ∷ xs) h = h.1

in_front : (x : ℕ) (xs : List ℕ) → AllByRecursion (λ y. x < y) xs → Ascend xs → Ascend (x ∷ xs)
in_front x [] h k = tt
in_front x (y ∷ xs) h k = (h.0, k)

range_ascends : (a n : ℕ) → Ascend (range_with_len a n)
range_ascends a zero = tt
range_ascends a (suc n) = in_front a (range_with_len (a + 1) n) (all_above (a + 1) n (omega arith)) (range_ascends (a + 1) n)
  where
    all_above : (b m : ℕ) → a < b → AllByRecursion (λ y. a < y) (range_with_len b m)
    all_above b zero h = tt
    all_above b (suc m) h = (h, all_above (b + 1) m (omega (arith, h)))

-- ---- units

units_above : (low : ℕ) (cs : List ℕ) (units : ℕ → ℕ) → AllByRecursion (λ c. low < c) cs → AllByRecursion (λ c. low < c) (map (λ p. p.0) (units_on cs units))
units_above low [] units h = tt
units_above low (c ∷ cs) units h = by_units (units_above low cs units h.1) (units c)
  where
    by_units : AllByRecursion (λ c. low < c) (map (λ p. p.0) (units_on cs units)) → (n : ℕ)
        → AllByRecursion (λ c. low < c) (map (λ p. p.0) (with_units c n ++ units_on cs units))
    by_units rest zero = rest
    by_units rest (suc n) = (h.0, rest)

pub units_formed : (cs : List ℕ) (units : ℕ → ℕ) → Ascend cs → IsVector (units_on cs units)
units_formed [] units h = record { ascending = tt; some = tt }
units_formed (c ∷ cs) units h = by_units (units_formed cs units (rest_ascends c cs h)) (units c)
  where
    by_units : IsVector (units_on cs units) → (n : ℕ) → IsVector (with_units c n ++ units_on cs units)
    by_units rest zero = rest
    by_units rest (suc n) = record { ascending = in_front c (map (λ p. p.0) (units_on cs units)) (units_above c cs units (above c cs h)) rest.ascending; some = (omega arith, rest.some) }

carried_formed : (types : List DataType) (o : Option Kind) (units : ℕ → ℕ) → IsVector (units_on (carriers types o) units)
carried_formed types None units = record { ascending = tt; some = tt }
carried_formed types (Some q) units = units_formed (reached types q) units (reached_ascends types q)

-- ---- lines

lines_above : (low : ℕ) (vector : ℕ → Vector) (xs : List ℕ) → AllByRecursion (λ x. low < x) xs
    → AllByRecursion (λ x. low < x) (map (λ v. v.var) (lines_of vector xs))
lines_above low vector [] h = tt
lines_above low vector (x ∷ xs) h = by_vector (lines_above low vector xs h.1) (vector x)
  where
    by_vector : AllByRecursion (λ x. low < x) (map (λ v. v.var) (lines_of vector xs)) → (v : Vector)
        → AllByRecursion (λ x. low < x) (map (λ v. v.var) (line_of x v ++ lines_of vector xs))
    by_vector rest [] = rest
    by_vector rest (p ∷ v) = (h.0, rest)

lines_formed : (vector : ℕ → Vector) (xs : List ℕ) → ((x : ℕ) → IsVector (vector x)) → Ascend xs → AreVars (lines_of vector xs)
lines_formed vector [] each h = record { ascending = tt; each = tt }
lines_formed vector (x ∷ xs) each h = by_vector (lines_formed vector xs each (rest_ascends x xs h)) (vector x) (each x)
  where
    by_vector : AreVars (lines_of vector xs) → (v : Vector) → IsVector v → AreVars (line_of x v ++ lines_of vector xs)
    by_vector rest [] form = rest
    by_vector rest (p ∷ v) form = record {
      ascending = in_front x (map (λ v. v.var) (lines_of vector xs)) (lines_above x vector xs (above x xs h)) rest.ascending;
      each = (record { form = form; some = omega arith }, rest.each);
    }

blocks_ascend : (types : List DataType) (f : Func) (func : ℕ) (value : Assignment) (xs : List ℕ)
    → map (λ b. b.block) (map (block_by types f func value) xs) ≡ xs
blocks_ascend types f func value [] = refl
blocks_ascend types f func value (x ∷ xs) = ap (λ r. x ∷ r) (blocks_ascend types f func value xs)

blocks_vars : (types : List DataType) (f : Func) (func : ℕ) (value : Assignment) (xs : List ℕ) → ((b : ℕ) → Ascend (params_at f.blocks b))
    → AllByRecursion (λ b. AreVars b.vars) (map (block_by types f func value) xs)
blocks_vars types f func value [] h = tt
blocks_vars types f func value (x ∷ xs) h =
    (lines_formed (λ y. units_on (local_carriers types f y) (λ c. value (BlockVar func x y c))) (params_at f.blocks x) (λ y. units_formed (local_carriers types f y) (λ c. value (BlockVar func x y c)) (local_ascends types f y)) (h x), blocks_vars types f func value xs h)

-- ---- builds

-- at this place or a later one of the block
abbrev From : (block place : ℕ) → MakeCert → Type 0
From block place m = (m.block ≡ block) × (place ≤ m.place)

-- one line in front of another
abbrev Before : MakeCert → MakeCert → Type 0
Before m n = (m.block ≤ n.block) × (m.block ≡ n.block → m.place < n.place)

makes_front : (m : MakeCert) (ms : List MakeCert) → AllByRecursion (Before m) ms → MakesAscend ms → MakesAscend (m ∷ ms)
makes_front m [] h k = tt
makes_front m (n ∷ ms) h k = (h.0.0, h.0.1, k)

-- one line at most, of this place
record Lines (block place : ℕ) (ms : List MakeCert) : Type 0 where
  from : AllByRecursion (From block place) ms
  ascend : MakesAscend ms
  each : AllByRecursion (λ m. IsNotZero m.vector) ms

no_lines : (block place : ℕ) → Lines block place []
no_lines block place = record { from = tt; ascend = tt; each = tt }

from_less : (block low high : ℕ) (ms : List MakeCert) → low ≤ high → AllByRecursion (From block high) ms → AllByRecursion (From block low) ms
from_less block low high [] h k = tt
from_less block low high (m ∷ ms) h k = ((k.0.0, omega (arith, h, k.0.1)), from_less block low high ms h k.1)

before_all : (block place : ℕ) (v : Vector) (ms : List MakeCert) → AllByRecursion (From block (suc place)) ms → AllByRecursion (Before (record { block = block; place = place; vector = v })) ms
before_all block place v [] h = tt
before_all block place v (m ∷ ms) h = ((omega (arith, h.0.0), λ e. omega (arith, h.0.1)), before_all block place v ms h.1)

with_line : (block place : ℕ) (v : Vector) (rest : List MakeCert) → IsVector v → Lines block (suc place) rest
    → Lines block place (make_line block place v ++ rest)
with_line block place [] rest form l = record { from = from_less block place (suc place) rest (omega arith) l.from; ascend = l.ascend; each = l.each }
with_line block place (p ∷ v) rest form l = record {
  from = ((refl, omega arith), from_less block place (suc place) rest (omega arith) l.from);
  ascend = makes_front (record { block = block; place = place; vector = p ∷ v }) rest (before_all block place (p ∷ v) rest l.from) l.ascend;
  each = (record { form = form; some = omega arith }, l.each);
}

with_build : (types : List DataType) (func block place : ℕ) (value : Assignment) (op : Op) (rest : List MakeCert) → Lines block (suc place) rest
    → Lines block place (made_by types func block place value op ++ rest)
with_build types func block place value (Lit z) rest l = with_line block place [] rest (record { ascending = tt; some = tt }) l
with_build types func block place value (Flag z) rest l = with_line block place [] rest (record { ascending = tt; some = tt }) l
with_build types func block place value (Copy x) rest l = with_line block place [] rest (record { ascending = tt; some = tt }) l
with_build types func block place value (Prim op x y) rest l = with_line block place [] rest (record { ascending = tt; some = tt }) l
with_build types func block place value (Call callee args) rest l = with_line block place [] rest (record { ascending = tt; some = tt }) l
with_build types func block place value (Make con args at) rest l = by_heap (is_heap_con types con)
  where
    v : Vector
    v = units_on (carriers types (option_map kind.Of (type_of types con))) (λ c. value (Made func block place c))

    by_heap : (h : Bool) → Lines block place (cond h (make_line block place v) [] ++ rest)
    by_heap true = with_line block place v rest (carried_formed types (option_map kind.Of (type_of types con)) (λ c. value (Made func block place c))) l
    by_heap false = with_line block place [] rest (record { ascending = tt; some = tt }) l

lets_lines : (types : List DataType) (func block place : ℕ) (value : Assignment) (ls : List Let) → Lines block place (lets_by types func block place value ls)
lets_lines types func block place value [] = no_lines block place
lets_lines types func block place value (l ∷ ls) = with_build types func block place value l.op (lets_by types func block (suc place) value ls) (lets_lines types func block (suc place) value ls)

-- of this block or a later one
record Builds (block : ℕ) (ms : List MakeCert) : Type 0 where
  from : AllByRecursion (λ m. block ≤ m.block) ms
  ascend : MakesAscend ms
  each : AllByRecursion (λ m. IsNotZero m.vector) ms

builds_less : (low high : ℕ) (ms : List MakeCert) → low ≤ high → AllByRecursion (λ m. high ≤ m.block) ms → AllByRecursion (λ m. low ≤ m.block) ms
builds_less low high [] h k = tt
builds_less low high (m ∷ ms) h k = (omega (arith, h, k.0), builds_less low high ms h k.1)

before_later : (m : MakeCert) (block : ℕ) (ms : List MakeCert) → m.block ≡ block → AllByRecursion (λ n. suc block ≤ n.block) ms → AllByRecursion (Before m) ms
before_later m block [] e h = tt
before_later m block (n ∷ ms) e h = ((omega (arith, e, h.0), λ d. absurd (omega (arith, e, h.0, d))), before_later m block ms e h.1)

both_before : (m : MakeCert) (xs ys : List MakeCert) → AllByRecursion (Before m) xs → AllByRecursion (Before m) ys → AllByRecursion (Before m) (xs ++ ys)
both_before m [] ys h k = k
both_before m (x ∷ xs) ys h k = (h.0, both_before m xs ys h.1 k)

first_before : (m : MakeCert) (ms : List MakeCert) (block place : ℕ) → AllByRecursion (From block place) (m ∷ ms) → MakesAscend (m ∷ ms)
    → AllByRecursion (Before m) ms
first_before m [] block place h k = tt
first_before m (n ∷ ms) block place h k = ((k.0, k.1), further ms h.1.1 (first_before n ms block place h.1 k.2))
  where
    further : (zs : List MakeCert) → AllByRecursion (From block place) zs → AllByRecursion (Before n) zs → AllByRecursion (Before m) zs
    further [] f b = tt
    further (z ∷ zs) f b = ((omega (arith, k.0, b.0.0), λ e. let same : m.block ≡ n.block = h.0.0 ∙ sym h.1.0.0 in let next : n.block ≡ z.block = h.1.0.0 ∙ sym f.0.0 in omega (arith, k.1 same, b.0.1 next)), further zs f.1 b.1)

rest_makes : (m : MakeCert) (ms : List MakeCert) → MakesAscend (m ∷ ms) → MakesAscend ms
rest_makes m [] h = tt
rest_makes m (n ∷ ms) h = h.2

-- a block's lines in front of those of later blocks
joined : (block place : ℕ) (xs ys : List MakeCert) → AllByRecursion (From block place) xs → MakesAscend xs
    → AllByRecursion (λ m. IsNotZero m.vector) xs → Builds (suc block) ys → Builds block (xs ++ ys)
joined block place [] ys from ascend each b = record { from = builds_less block (suc block) ys (omega arith) b.from; ascend = b.ascend; each = b.each }
joined block place (x ∷ xs) ys from ascend each b =
    let rest = joined block place xs ys from.1 (rest_makes x xs ascend) each.1 b in
    record {
      from = (omega (arith, from.0.0), rest.from);
      ascend = makes_front x (xs ++ ys) (both_before x xs ys (first_before x xs block place from ascend) (before_later x block ys from.0.0 b.from)) rest.ascend;
      each = (each.0, rest.each);
    }

builds_lines : (types : List DataType) (func block : ℕ) (value : Assignment) (bs : List Block) → Builds block (builds_by types func block value bs)
builds_lines types func block value [] = record { from = tt; ascend = tt; each = tt }
builds_lines types func block value (b ∷ bs) =
    let lines = lets_lines types func block 1 value b.lets in
    joined block 1 (lets_by types func block 1 value b.lets) (builds_by types func (suc block) value bs) lines.from lines.ascend lines.each (builds_lines types func (suc block) value bs)

-- ---- functions

params_ascend : (p : Code) (f : Func) (first : ℕ) (bs : List Block) → BlocksFit p f first bs → (b : ℕ) → Ascend (params_at bs b)
params_ascend p f first [] h b = tt
params_ascend p f first (k ∷ bs) h zero = h.0.ascending
params_ascend p f first (k ∷ bs) h (suc b) = params_ascend p f (suc first) bs h.1 b

func_formed : (p : Code) (value : Assignment) (func : ℕ) (f : Func) → FuncFits p f → IsLowerName f.name → FuncIsFormed (func_by p.types value func f)
func_formed p value func f fits name =
    let builds = builds_lines p.types func 0 value f.blocks in
    record {
      name = name;
      params = lines_formed (λ x. units_on (local_carriers p.types f x) (λ c. value (Param func x c))) (range_with_len 0 (length f.params)) (λ x. units_formed (local_carriers p.types f x) (λ c. value (Param func x c)) (local_ascends p.types f x)) (range_ascends 0 (length f.params));
      result = carried_formed p.types (Some f.result) (λ c. value (Result func c));
      blocks = subst Ascend (sym (blocks_ascend p.types f func value (range_with_len 1 (length f.blocks - 1)))) (range_ascends 1 (length f.blocks - 1));
      vars = blocks_vars p.types f func value (range_with_len 1 (length f.blocks - 1)) (params_ascend p f 0 f.blocks fits.blocks);
      makes = builds.ascend;
      each_make = builds.each;
    }

funcs_formed : (p : Code) (value : Assignment) (func : ℕ) (fs : List Func) → AllByRecursion (FuncFits p) fs
    → AllByRecursion (λ f. IsLowerName f.name) fs → AllByRecursion FuncIsFormed (funcs_by p.types value func fs)
funcs_formed p value func [] fits names = tt
funcs_formed p value func (f ∷ fs) fits names = (func_formed p value func f fits.0 names.0, funcs_formed p value (suc func) fs fits.1 names.1)

-- The certificate of an assignment is formed.
pub certificate_formed : (p : Code) (unit : ℕ) (value : Assignment) → IsWellFormed p → IsNamed p → 1 ≤ unit → IsFormed (certificate_by p unit value)
unfolding certificate_by
certificate_formed p unit value well named some = record { some_units = some; funcs = funcs_formed p value 0 p.funcs well.funcs named.funcs }
