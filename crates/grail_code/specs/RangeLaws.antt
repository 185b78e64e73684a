-- Laws, for the proofs of this crate and of those above it.
-- Well-formed code within the limits whose names have their forms is within the ranges of the spelling. Which code is
-- within those of which format.
use Rattle.std.proofs.Common.{◌≡◌, ℕ, zero, suc, ◌*◌, ◌-◌, ◌<◌, ◌≤◌, Bool, List, [], ◌∷◌, ◌++◌, length, Option, Some, None, refl, sym, ap, ◌∙◌, subst, arith, length-append}
use Rattle.std.specs.Prelude.{slice_get, IsSomeAnd}
use Rattle.std.specs.List.{AllByRecursion}
use Rattle.std.specs.Option.{option_map}
use Rattle.std.proofs.lemmas.List.{length-map}
use Rattle.camelot_values.specs.Kinds.{Constructor, DataType, constructors, constructor, type_of, IsConstructor, IsDataType}
use Rattle.camelot_values.specs.Lists.{Ascend}
use Rattle.camelot_values.specs.Names.{IsLowerName, IsUpperName}
use Rattle.camelot_values.specs.declared.kinds.Kind.{Kind}
use Rattle.camelot_values.specs.declared.kinds.Kind.TheVariants as kind
use Rattle.grail_blocks.specs.declared.blocks.Place.{Place}
use Rattle.grail_blocks.specs.declared.blocks.Place.TheVariants as place
use Rattle.grail_blocks.specs.declared.blocks.CaseCell.{CaseCell}
use Rattle.grail_blocks.specs.declared.blocks.CaseCell.TheVariants as cell
use Rattle.grail_code.specs.Code.{Op, Lit, Flag, Copy, Prim, Make, Call, Let, CaseArm, Term, Ret, Tail, Goto, If, Case, Block, Func, Code}
use Rattle.grail_code.specs.WellFormed.{IsKnownKind, local_kinds, kind_of, HaveKinds, PlaceFits, Gives, LetFits, JumpFits, CellFits, ArmsFit, data_type, TermFits, BlockFits, BlocksFit, FuncFits, IsWellFormed}
use Rattle.grail_code.specs.Limits.{FuncIsWithin, IsWithinLimits, HaveParams, TypeIsNamed, IsNamed}
use Rattle.grail_code.specs.Spelling.{AreCounted, IsLocal, IsBlockNumber, FitsKind, FitsCon, FitsType, FitsPlace, FitsOp, FitsLet, FitsCell, FitsArm, FitsTerm, FitsBlock, FitsFunc, FitsCode, Format, First, Second, OpIsOld, IsNoLook, TermIsOld, BlockIsOld, FuncIsOld, IsOld, MarkIsOfFormat}

-- ---- lists

all_of : {A : Type 0} (P Q : A → Type 0) (xs : List A) → ((x : A) → P x → Q x) → AllByRecursion P xs → AllByRecursion Q xs
all_of P Q [] f h = tt
all_of P Q (x ∷ xs) f h = (f x h.0, all_of P Q xs f h.1)

all_front : {A : Type 0} (P : A → Type 0) (xs ys : List A) → AllByRecursion P (xs ++ ys) → AllByRecursion P xs × AllByRecursion P ys
all_front P [] ys h = (tt, h)
all_front P (x ∷ xs) ys h = let r = all_front P xs ys h.1 in ((h.0, r.0), r.1)

got_below : {A : Type 0} (xs : List A) (n : ℕ) (x : A) → slice_get xs n ≡ Some x → n < length xs
got_below [] n x e = let k : None ≡ Some x = e in absurd cc
got_below (y ∷ xs) zero x e = omega arith
got_below (y ∷ xs) (suc n) x e = let k = got_below xs n x e in omega (arith, k)

all_got : {A : Type 0} (P : A → Type 0) (xs : List A) (n : ℕ) (x : A) → AllByRecursion P xs → slice_get xs n ≡ Some x → P x
all_got P [] n x h e = let k : None ≡ Some x = e in absurd cc
all_got P (y ∷ xs) zero x h e = let same : y ≡ x = cc in subst P same h.0
all_got P (y ∷ xs) (suc n) x h e = all_got P xs n x h.1 e

-- ---- numbers of locals, constructors and kinds

local_below : (f : Func) → FuncIsWithin f → (x : ℕ) (q : Kind) → kind_of f x ≡ Some q → IsLocal x
local_below f w x q e = let k = got_below (local_kinds f) x q e in omega (arith, k, length-append f.params f.locals, w.few_params, w.few_locals)

locals_below : (f : Func) → FuncIsWithin f → (xs : List ℕ) (qs : List Kind) → HaveKinds f xs qs → AllByRecursion IsLocal xs
locals_below f w [] qs h = tt
locals_below f w (x ∷ xs) [] h = absurd cc
locals_below f w (x ∷ xs) (q ∷ qs) h = (local_below f w x q cc, locals_below f w xs qs cc)

as_many : (f : Func) (xs : List ℕ) (qs : List Kind) → HaveKinds f xs qs → length xs ≡ length qs
as_many f xs qs h = sym (length-map xs (kind_of f)) ∙ ap length h ∙ length-map qs Some

counted_locals : (f : Func) → FuncIsWithin f → (most : ℕ) (xs : List ℕ) (qs : List Kind) → HaveKinds f xs qs → length qs ≤ most → AreCounted IsLocal 0 most xs
counted_locals f w most xs qs h few = record { enough = omega arith; few = omega (arith, as_many f xs qs h, few); each = locals_below f w xs qs h }

known_fits : (types : List DataType) (q : Kind) → length types ≤ 64 → IsKnownKind types q → FitsKind q
known_fits types kind.Int few h = omega arith
known_fits types kind.Flag few h = omega arith
known_fits types kind.Dia few h = omega arith
known_fits types (kind.Of t) few h = omega (arith, few, h)

known_all : (types : List DataType) (qs : List Kind) → length types ≤ 64 → AllByRecursion (IsKnownKind types) qs → AllByRecursion FitsKind qs
known_all types qs few h = all_of (IsKnownKind types) FitsKind qs (λ q k. known_fits types q few k) h

-- 64 constructors of each type at most
con_count : (ts : List DataType) → AllByRecursion IsDataType ts → length (constructors ts) ≤ 64 * length ts
con_count [] h = omega arith
con_count (t ∷ ts) h = let k = con_count ts h.1 in omega (arith, k, h.0.few_cons, length-append t.cons (constructors ts))

con_below : (p : Code) → IsWithinLimits p → (con : ℕ) (c : Constructor) → constructor p.types con ≡ Some c → con ≤ 4095
con_below p w con c e = let k = got_below (constructors p.types) con c e in omega (arith, k, con_count p.types w.types.each, w.types.few_types)

con_is : (ts : List DataType) → AllByRecursion IsDataType ts → AllByRecursion IsConstructor (constructors ts)
con_is [] h = tt
con_is (t ∷ ts) h = both t.cons (constructors ts) h.0.each (con_is ts h.1)
  where
    both : (cs ds : List Constructor) → AllByRecursion IsConstructor cs → AllByRecursion IsConstructor ds → AllByRecursion IsConstructor (cs ++ ds)
    both [] ds h g = g
    both (c ∷ cs) ds h g = (h.0, both cs ds h.1 g)

-- ---- lets and ends

place_fits : (f : Func) → FuncIsWithin f → (inline : Bool) (at : Place) → PlaceFits f inline at → FitsPlace at
place_fits f w inline place.Inline h = tt
place_fits f w inline place.New h = tt
place_fits f w inline (place.Reuse d) h = local_below f w d kind.Dia h.1

op_fits : (p : Code) → IsWithinLimits p → (f : Func) → FuncIsWithin f → (op : Op) (q : Kind) → Gives p f op q → FitsOp Second op
op_fits p l f w (Lit z) q g = g.1
op_fits p l f w (Flag b) q g = tt
op_fits p l f w (Copy x) q g = local_below f w x q g
op_fits p l f w (Prim op x y) q g = (tt, local_below f w x kind.Int cc, local_below f w y kind.Int cc)
op_fits p l f w (Make con args at) q g = by_con (constructor p.types con) refl g
  where
    by_con : (o : Option Constructor) → constructor p.types con ≡ o
        → IsSomeAnd o (λ c. HaveKinds f args c.fields × PlaceFits f c.inline at × (option_map kind.Of (type_of p.types con) ≡ Some q))
        → FitsOp Second (Make con args at)
    by_con None e m = absurd m
    by_con (Some c) e m = (con_below p l con c e, counted_locals f w 4 args c.fields m.0 (all_got IsConstructor (constructors p.types) con c (con_is p.types l.types.each) e).few_fields, place_fits f w c.inline at m.1)
op_fits p l f w (Call func args) q g = by_func (slice_get p.funcs func) refl g
  where
    by_func : (o : Option Func) → slice_get p.funcs func ≡ o → IsSomeAnd o (λ callee. HaveKinds f args callee.params × (q ≡ callee.result))
        → FitsOp Second (Call func args)
    by_func None e m = absurd m
    by_func (Some callee) e m = (let k = got_below p.funcs func callee e in omega (arith, k, l.few_funcs), counted_locals f w 16 args callee.params m.0 (all_got FuncIsWithin p.funcs func callee l.funcs e).few_params)

let_fits : (p : Code) → IsWithinLimits p → (f : Func) → FuncIsWithin f → (b : Let) → LetFits p f b → FitsLet Second b
let_fits p l f w b fit = by_target (kind_of f b.target) refl fit
  where
    by_target : (o : Option Kind) → kind_of f b.target ≡ o → IsSomeAnd o (Gives p f b.op) → FitsLet Second b
    by_target None e g = absurd g
    by_target (Some q) e g = record { target = local_below f w b.target q e; op = op_fits p l f w b.op q g }

block_below : (f : Func) → FuncIsWithin f → (number b : ℕ) → JumpFits f number b → IsBlockNumber b
block_below f w number b h = omega (arith, h.1, w.few_blocks)

cell_fits : (f : Func) → FuncIsWithin f → (inline : Bool) (c : CaseCell) → CellFits f inline c → FitsCell Second c
cell_fits f w inline cell.Inline h = tt
cell_fits f w inline cell.Free h = tt
cell_fits f w inline cell.Look h = tt
cell_fits f w inline (cell.Keep d) h = local_below f w d kind.Dia h.1

arms_fit : (f : Func) → FuncIsWithin f → (number : ℕ) (cs : List Constructor) (arms : List CaseArm) → AllByRecursion IsConstructor cs
    → ArmsFit f number cs arms → (length arms ≡ length cs) × AllByRecursion (FitsArm Second) arms
arms_fit f w number [] [] k h = (refl, tt)
arms_fit f w number [] (a ∷ arms) k h = absurd h
arms_fit f w number (c ∷ cs) [] k h = absurd h
arms_fit f w number (c ∷ cs) (a ∷ arms) k h = let r = arms_fit f w number cs arms k.1 h.1 in
    (ap suc r.0, (record { fields = counted_locals f w 4 a.fields c.fields h.0.fields k.0.few_fields; cell = cell_fits f w c.inline a.cell h.0.cell; target = block_below f w number a.target h.0.jump }, r.1))

term_fits : (p : Code) → IsWithinLimits p → (f : Func) → FuncIsWithin f → (number : ℕ) (t : Term) → TermFits p f number t → FitsTerm Second t
term_fits p l f w number (Ret x) h = local_below f w x f.result h
term_fits p l f w number (Tail func args) h = by_func (slice_get p.funcs func) refl h
  where
    by_func : (o : Option Func) → slice_get p.funcs func ≡ o → IsSomeAnd o (λ callee. HaveKinds f args callee.params × (callee.result ≡ f.result))
        → FitsTerm Second (Tail func args)
    by_func None e m = absurd m
    by_func (Some callee) e m = (let k = got_below p.funcs func callee e in omega (arith, k, l.few_funcs), counted_locals f w 16 args callee.params m.0 (all_got FuncIsWithin p.funcs func callee l.funcs e).few_params)
term_fits p l f w number (Goto b) h = block_below f w number b h
term_fits p l f w number (If x first second) h = (local_below f w x kind.Flag h.0, block_below f w number first h.1, block_below f w number second h.2)
term_fits p l f w number (Case x arms) h = by_kind (kind_of f x) refl h
  where
    by_def : (t : ℕ) (o : Option DataType) → slice_get p.types t ≡ o → kind_of f x ≡ Some (kind.Of t)
        → IsSomeAnd o (λ d. ArmsFit f number d.cons arms) → FitsTerm Second (Case x arms)
    by_def t None e k m = absurd m
    by_def t (Some d) e k m =
        let is : IsDataType d = all_got IsDataType p.types t d l.types.each e in
        let r = arms_fit f w number d.cons arms is.each m in
        (local_below f w x (kind.Of t) k, record { enough = omega arith; few = omega (arith, r.0, is.few_cons); each = r.1 })

    by_kind : (o : Option Kind) → kind_of f x ≡ o → IsSomeAnd (data_type p.types o) (λ d. ArmsFit f number d.cons arms) → FitsTerm Second (Case x arms)
    by_kind None e m = absurd m
    by_kind (Some kind.Int) e m = absurd m
    by_kind (Some kind.Flag) e m = absurd m
    by_kind (Some kind.Dia) e m = absurd m
    by_kind (Some (kind.Of t)) e m = by_def t (slice_get p.types t) refl e m

-- ---- blocks, functions, code

-- nothing, or a number from here on and what follows it
abbrev From : ℕ → List ℕ → Type 0
From least [] = Unit {0}
From least (x ∷ xs) = least ≤ x

rest_from : (x : ℕ) (xs : List ℕ) → Ascend (x ∷ xs) → From (suc x) xs
rest_from x [] a = tt
rest_from x (y ∷ xs) a = a.0

rest_ascends : (x : ℕ) (xs : List ℕ) → Ascend (x ∷ xs) → Ascend xs
rest_ascends x [] a = tt
rest_ascends x (y ∷ xs) a = a.1

-- there are no more ascending numbers than places
ascend_count : (least most : ℕ) (xs : List ℕ) → Ascend xs → AllByRecursion (λ x. x < most) xs → From least xs → length xs ≤ most - least
ascend_count least most [] a b h = omega arith
ascend_count least most (x ∷ xs) a b h = let k = ascend_count (suc x) most xs (rest_ascends x xs a) b.1 (rest_from x xs a) in omega (arith, k, b.0, h)

from_none : (xs : List ℕ) → From 0 xs
from_none [] = tt
from_none (x ∷ xs) = omega arith

block_fits : (p : Code) → IsWithinLimits p → (f : Func) → FuncIsWithin f → (number : ℕ) (b : Block) → length b.lets ≤ 256 → BlockFits p f number b → FitsBlock Second b
block_fits p l f w number b few h = record {
  params = record {
    enough = omega arith;
    few = omega (arith, ascend_count 0 (length (local_kinds f)) b.params h.ascending h.params (from_none b.params), length-append f.params f.locals, w.few_params, w.few_locals);
    each = all_of (λ x. x < length (local_kinds f)) IsLocal b.params (λ x k. omega (arith, k, length-append f.params f.locals, w.few_params, w.few_locals)) h.params;
  };
  lets = record { enough = omega arith; few = few; each = all_of (LetFits p f) (FitsLet Second) b.lets (λ x k. let_fits p l f w x k) h.lets };
  term = term_fits p l f w number b.term h.term;
}

blocks_fit : (p : Code) → IsWithinLimits p → (f : Func) → FuncIsWithin f → (number : ℕ) (bs : List Block)
    → AllByRecursion (λ b. length b.lets ≤ 256) bs → BlocksFit p f number bs → AllByRecursion (FitsBlock Second) bs
blocks_fit p l f w number [] few h = tt
blocks_fit p l f w number (b ∷ bs) few h = (block_fits p l f w number b few.0 h.0, blocks_fit p l f w (suc number) bs few.1 h.1)

any_marks : (marks : List Bool) → AllByRecursion (MarkIsOfFormat Second) marks
any_marks [] = tt
any_marks (mark ∷ marks) = (tt, any_marks marks)

func_fits : (p : Code) → IsWithinLimits p → (f : Func) → FuncIsWithin f → FuncFits p f → 1 ≤ length f.params → IsLowerName f.name → FitsFunc Second f
func_fits p l f w h some named = let kinds = all_front (IsKnownKind p.types) f.params f.locals h.kinds in record {
  name = named;
  params = record { enough = some; few = w.few_params; each = known_all p.types f.params l.types.few_types kinds.0 };
  as_many = w.as_many;
  marks = any_marks f.reads;
  result = known_fits p.types f.result l.types.few_types h.result;
  locals = record { enough = omega arith; few = w.few_locals; each = known_all p.types f.locals l.types.few_types kinds.1 };
  blocks = record { enough = w.some_blocks; few = w.few_blocks; each = blocks_fit p l f w 0 f.blocks w.few_lets h.blocks };
}

con_fits : (types : List DataType) → length types ≤ 64 → (c : Constructor) → IsConstructor c → IsUpperName c.name
    → AllByRecursion (IsKnownKind types) c.fields → FitsCon c
con_fits types few c is named known = record {
  name = named;
  fields = record { enough = omega arith; few = is.few_fields; each = known_all types c.fields few known };
  inline_is_bare = is.inline_is_bare;
}

cons_fit : (types : List DataType) → length types ≤ 64 → (cs : List Constructor) → AllByRecursion IsConstructor cs
    → AllByRecursion (λ c. IsUpperName c.name) cs → AllByRecursion (λ c. AllByRecursion (IsKnownKind types) c.fields) cs → AllByRecursion FitsCon cs
cons_fit types few [] is named known = tt
cons_fit types few (c ∷ cs) is named known = (con_fits types few c is.0 named.0 known.0, cons_fit types few cs is.1 named.1 known.1)

types_fit : (types : List DataType) → length types ≤ 64 → (ts : List DataType) → AllByRecursion IsDataType ts → AllByRecursion TypeIsNamed ts
    → AllByRecursion (λ c. AllByRecursion (IsKnownKind types) c.fields) (constructors ts) → AllByRecursion FitsType ts
types_fit types few [] is named known = tt
types_fit types few (t ∷ ts) is named known =
    let both = all_front (λ c. AllByRecursion (IsKnownKind types) c.fields) t.cons (constructors ts) known in
    (record { name = named.0.name; cons = record { enough = is.0.some_cons; few = is.0.few_cons; each = cons_fit types few t.cons is.0.each named.0.cons both.0 } }, types_fit types few ts is.1 named.1 both.1)

funcs_fit : (p : Code) → IsWithinLimits p → (fs : List Func) → AllByRecursion FuncIsWithin fs → AllByRecursion (FuncFits p) fs
    → AllByRecursion (λ f. 1 ≤ length f.params) fs → AllByRecursion (λ f. IsLowerName f.name) fs
    → AllByRecursion (FitsFunc Second) fs
funcs_fit p l [] w h some named = tt
funcs_fit p l (f ∷ fs) w h some named = (func_fits p l f w.0 h.0 some.0 named.0, funcs_fit p l fs w.1 h.1 some.1 named.1)

pub within_ranges : (p : Code) → IsWellFormed p → IsWithinLimits p → HaveParams p → IsNamed p → FitsCode Second p
within_ranges p well l some named = record {
  types = record { enough = omega arith; few = l.types.few_types; each = types_fit p.types l.types.few_types p.types l.types.each named.types well.fields };
  funcs = record { enough = omega arith; few = l.few_funcs; each = funcs_fit p l p.funcs l.funcs well.funcs some named.funcs };
}

-- ---- the ranges of the two formats

fit_all : {A : Type 0} (P Q : A → Type 0) (least most : ℕ) (xs : List A) → ((x : A) → P x → Q x) → AreCounted P least most xs → AreCounted Q least most xs
fit_all P Q least most xs f h = record { enough = h.enough; few = h.few; each = all_of P Q xs f h.each }

op_second : (f : Format) (op : Op) → FitsOp f op → FitsOp Second op
op_second f (Lit z) h = h
op_second f (Flag b) h = tt
op_second f (Copy x) h = h
op_second f (Prim op x y) h = (tt, h.1, h.2)
op_second f (Make c args at) h = h
op_second f (Call func args) h = h

cell_second : (f : Format) (c : CaseCell) → FitsCell f c → FitsCell Second c
cell_second f cell.Inline h = tt
cell_second f cell.Free h = tt
cell_second f (cell.Keep d) h = h
cell_second f cell.Look h = tt

arm_second : (f : Format) (a : CaseArm) → FitsArm f a → FitsArm Second a
arm_second f a h = record { fields = h.fields; cell = cell_second f a.cell h.cell; target = h.target }

term_second : (f : Format) (t : Term) → FitsTerm f t → FitsTerm Second t
term_second f (Ret x) h = h
term_second f (Tail func args) h = h
term_second f (Goto b) h = h
term_second f (If x first second) h = h
term_second f (Case x arms) h = (h.0, fit_all (FitsArm f) (FitsArm Second) 0 64 arms (arm_second f) h.1)

let_second : (f : Format) (l : Let) → FitsLet f l → FitsLet Second l
let_second f l h = record { target = h.target; op = op_second f l.op h.op }

block_second : (f : Format) (b : Block) → FitsBlock f b → FitsBlock Second b
block_second f b h = record { params = h.params; lets = fit_all (FitsLet f) (FitsLet Second) 0 256 b.lets (let_second f) h.lets; term = term_second f b.term h.term }

func_second : (f : Format) (g : Func) → FitsFunc f g → FitsFunc Second g
func_second f g h = record {
  name = h.name;
  params = h.params;
  as_many = h.as_many;
  marks = all_of (MarkIsOfFormat f) (MarkIsOfFormat Second) g.reads (λ mark k. tt) h.marks;
  result = h.result;
  locals = h.locals;
  blocks = fit_all (FitsBlock f) (FitsBlock Second) 1 256 g.blocks (block_second f) h.blocks;
}

-- Code within the ranges of a format is within those of the second.
pub fits_second : (f : Format) (p : Code) → FitsCode f p → FitsCode Second p
fits_second f p h = record { types = h.types; funcs = fit_all (FitsFunc f) (FitsFunc Second) 0 64 p.funcs (func_second f) h.funcs }

-- ---- code with what the first format has is within its ranges

both_all : {A : Type 0} (P Q R : A → Type 0) (xs : List A) → ((x : A) → P x → Q x → R x) → AllByRecursion P xs → AllByRecursion Q xs → AllByRecursion R xs
both_all P Q R [] f h g = tt
both_all P Q R (x ∷ xs) f h g = (f x h.0 g.0, both_all P Q R xs f h.1 g.1)

fit_both : {A : Type 0} (P Q R : A → Type 0) (least most : ℕ) (xs : List A) → ((x : A) → P x → Q x → R x) → AreCounted P least most xs → AllByRecursion Q xs
    → AreCounted R least most xs
fit_both P Q R least most xs f h g = record { enough = h.enough; few = h.few; each = both_all P Q R xs f h.each g }

op_first : (op : Op) → FitsOp Second op → OpIsOld op → FitsOp First op
op_first (Lit z) h u = h
op_first (Flag b) h u = tt
op_first (Copy x) h u = h
op_first (Prim op x y) h u = (u, h.1, h.2)
op_first (Make c args at) h u = h
op_first (Call func args) h u = h

cell_first : (c : CaseCell) → FitsCell Second c → IsNoLook c → FitsCell First c
cell_first cell.Inline h u = tt
cell_first cell.Free h u = tt
cell_first (cell.Keep d) h u = h
cell_first cell.Look h u = u

arm_first : (a : CaseArm) → FitsArm Second a → IsNoLook a.cell → FitsArm First a
arm_first a h u = record { fields = h.fields; cell = cell_first a.cell h.cell u; target = h.target }

term_first : (t : Term) → FitsTerm Second t → TermIsOld t → FitsTerm First t
term_first (Ret x) h u = h
term_first (Tail func args) h u = h
term_first (Goto b) h u = h
term_first (If x first second) h u = h
term_first (Case x arms) h u = (h.0, fit_both (FitsArm Second) (λ a. IsNoLook a.cell) (FitsArm First) 0 64 arms arm_first h.1 u)

let_first : (l : Let) → FitsLet Second l → OpIsOld l.op → FitsLet First l
let_first l h u = record { target = h.target; op = op_first l.op h.op u }

block_first : (b : Block) → FitsBlock Second b → BlockIsOld b → FitsBlock First b
block_first b h u = record { params = h.params; lets = fit_both (FitsLet Second) (λ l. OpIsOld l.op) (FitsLet First) 0 256 b.lets let_first h.lets u.lets; term = term_first b.term h.term u.term }

func_first : (g : Func) → FitsFunc Second g → FuncIsOld g → FitsFunc First g
func_first g h u = record {
  name = h.name;
  params = h.params;
  as_many = h.as_many;
  marks = u.marks;
  result = h.result;
  locals = h.locals;
  blocks = fit_both (FitsBlock Second) BlockIsOld (FitsBlock First) 1 256 g.blocks block_first h.blocks u.blocks;
}

pub fits_first : (p : Code) → FitsCode Second p → IsOld p → FitsCode First p
fits_first p h u = record { types = h.types; funcs = fit_both (FitsFunc Second) FuncIsOld (FitsFunc First) 0 64 p.funcs func_first h.funcs u }

op_old : (op : Op) → FitsOp First op → OpIsOld op
op_old (Lit z) h = tt
op_old (Flag b) h = tt
op_old (Copy x) h = tt
op_old (Prim op x y) h = h.0
op_old (Make c args at) h = tt
op_old (Call func args) h = tt

cell_old : (c : CaseCell) → FitsCell First c → IsNoLook c
cell_old cell.Inline h = tt
cell_old cell.Free h = tt
cell_old (cell.Keep d) h = tt
cell_old cell.Look h = h

term_old : (t : Term) → FitsTerm First t → TermIsOld t
term_old (Ret x) h = tt
term_old (Tail func args) h = tt
term_old (Goto b) h = tt
term_old (If x first second) h = tt
term_old (Case x arms) h = all_of (FitsArm First) (λ a. IsNoLook a.cell) arms (λ a k. cell_old a.cell k.cell) h.1.each

block_old : (b : Block) → FitsBlock First b → BlockIsOld b
block_old b h = record { lets = all_of (FitsLet First) (λ l. OpIsOld l.op) b.lets (λ l k. op_old l.op k.op) h.lets.each; term = term_old b.term h.term }

func_old : (g : Func) → FitsFunc First g → FuncIsOld g
func_old g h = record { marks = h.marks; blocks = all_of (FitsBlock First) BlockIsOld g.blocks block_old h.blocks.each }

-- Code within the ranges of the first has nothing else.
pub first_old : (p : Code) → FitsCode First p → IsOld p
first_old p h = all_of (FitsFunc First) FuncIsOld p.funcs func_old h.funcs.each
