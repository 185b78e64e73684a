-- The limits of code and the ranges of its spelling are propositions.
use Rattle.std.proofs.Common.{◌≡◌, ℕ, true, List, [], length}
use Rattle.std.specs.Prelude.{◌≤◌}
use Rattle.std.specs.Coded.{Coded-set, Unit-prop, coded_ℕ, coded_list, le_prop}
use Rattle.std.specs.List.{AllByRecursion-prop}
use Rattle.std.proofs.Math.Bool.{Bool-set}
use Rattle.std.proofs.Math.Path.{fun_ext}
use Rattle.camelot_values.specs.Kinds.{AreTypes, Constructor, DataType, IsConstructor, IsDataType}
use Rattle.camelot_values.specs.declared.kinds.Kind.{Kind}
use Rattle.camelot_values.specs.contracts.kinds.Kind as kind
use Rattle.grail_blocks.specs.declared.blocks.Place.{Place}
use Rattle.grail_blocks.specs.declared.blocks.Place.TheVariants as place
use Rattle.grail_blocks.specs.declared.blocks.CaseCell.{CaseCell}
use Rattle.grail_blocks.specs.declared.blocks.CaseCell.TheVariants as cell
use Rattle.grail_code.specs.Code.{Op, Lit, Flag, Copy, Prim, Make, Call, Let, CaseArm, Term, Ret, Tail, Goto, If, Case, Block, Func, Code}
use Rattle.grail_code.specs.Limits.{FuncIsWithin, IsWithinLimits}
use Rattle.grail_code.specs.Spelling.{Second, AreCounted, FitsArm, FitsBlock, FitsCell, FitsCode, FitsCon, FitsFunc, FitsKind, FitsLet, FitsOp, FitsPlace, FitsTerm, FitsType, IsLocal, IsOfFormat, MarkIsOfFormat}

pub to_prop : {A B : Type 0} → IsProp B → IsProp (A → B)
to_prop h f g = fun_ext (λ x. h (f x) (g x))

less_prop : (n m : ℕ) → IsProp (n ≤ m)
less_prop n m = le_prop

number_set : IsSet ℕ
number_set = Coded-set coded_ℕ

kinds_set : IsSet (List Kind)
kinds_set = Coded-set (coded_list kind.the_row.coded)

-- ---- limits

constructor_prop : (c : Constructor) → IsProp (IsConstructor c)
constructor_prop c = let bare : IsProp (c.inline ≡ true → c.fields ≡ []) = to_prop (kinds_set c.fields []) in hlevel (bare, less_prop)

type_prop : (t : DataType) → IsProp (IsDataType t)
type_prop t = let each = AllByRecursion-prop IsConstructor constructor_prop t.cons in hlevel (each, less_prop)

types_prop : (types : List DataType) → IsProp (AreTypes types)
types_prop types = let each = AllByRecursion-prop IsDataType type_prop types in hlevel (each, less_prop)

pub function_prop : (f : Func) → IsProp (FuncIsWithin f)
function_prop f = let each = AllByRecursion-prop (λ (b : Block). length b.lets ≤ 256) (λ b. le_prop) f.blocks in hlevel (each, less_prop, number_set)

pub within_prop : (p : Code) → IsProp (IsWithinLimits p)
within_prop p = let types = types_prop p.types in let funcs = AllByRecursion-prop FuncIsWithin function_prop p.funcs in hlevel (types, funcs, less_prop)

-- ---- ranges

counted_prop : {A : Type 0} (P : A → Type 0) (least most : ℕ) → ((x : A) → IsProp (P x)) → (xs : List A) → IsProp (AreCounted P least most xs)
counted_prop P least most h xs = let each = AllByRecursion-prop P h xs in hlevel (each, less_prop)

local_prop : (x : ℕ) → IsProp (IsLocal x)
local_prop x = le_prop

con_prop : (c : Constructor) → IsProp (FitsCon c)
con_prop c =
    let bare : IsProp (c.inline ≡ true → c.fields ≡ []) = to_prop (kinds_set c.fields []) in
    let fields = counted_prop FitsKind 0 4 (λ q. le_prop) c.fields in
    hlevel (bare, fields, less_prop, Bool-set)

type_fits_prop : (t : DataType) → IsProp (FitsType t)
type_fits_prop t = let cons = counted_prop FitsCon 1 64 con_prop t.cons in hlevel (cons, less_prop, Bool-set)

place_prop : (p : Place) → IsProp (FitsPlace p)
place_prop place.Inline = Unit-prop
place_prop place.New = Unit-prop
place_prop (place.Reuse x) = le_prop

op_prop : (op : Op) → IsProp (FitsOp Second op)
op_prop (Lit z) = hlevel less_prop
op_prop (Flag b) = Unit-prop
op_prop (Copy x) = le_prop
op_prop (Prim op x y) = let in_format : IsProp (IsOfFormat Second op) = Unit-prop in hlevel (in_format, less_prop)
op_prop (Make c args p) = let few = counted_prop IsLocal 0 4 local_prop args in let at = place_prop p in hlevel (few, at, less_prop)
op_prop (Call f args) = let few = counted_prop IsLocal 0 16 local_prop args in hlevel (few, less_prop)

let_prop : (l : Let) → IsProp (FitsLet Second l)
let_prop l = let op = op_prop l.op in hlevel (op, less_prop)

cell_prop : (c : CaseCell) → IsProp (FitsCell Second c)
cell_prop cell.Inline = Unit-prop
cell_prop cell.Look = Unit-prop
cell_prop cell.Free = Unit-prop
cell_prop (cell.Keep x) = le_prop

arm_prop : (a : CaseArm) → IsProp (FitsArm Second a)
arm_prop a = let fields = counted_prop IsLocal 0 4 local_prop a.fields in let at = cell_prop a.cell in hlevel (fields, at, less_prop)

term_prop : (t : Term) → IsProp (FitsTerm Second t)
term_prop (Ret x) = le_prop
term_prop (Tail f args) = let few = counted_prop IsLocal 0 16 local_prop args in hlevel (few, less_prop)
term_prop (Goto b) = le_prop
term_prop (If x first second) = hlevel less_prop
term_prop (Case x arms) = let each = counted_prop (FitsArm Second) 0 64 arm_prop arms in hlevel (each, less_prop)

block_prop : (b : Block) → IsProp (FitsBlock Second b)
block_prop b =
    let params = counted_prop IsLocal 0 256 local_prop b.params in
    let lets = counted_prop (FitsLet Second) 0 256 let_prop b.lets in
    let end = term_prop b.term in
    hlevel (params, lets, end, less_prop)

func_prop : (f : Func) → IsProp (FitsFunc Second f)
func_prop f =
    let params = counted_prop FitsKind 1 16 (λ q. le_prop) f.params in
    let locals = counted_prop FitsKind 0 240 (λ q. le_prop) f.locals in
    let marks = AllByRecursion-prop (MarkIsOfFormat Second) (λ mark. Unit-prop) f.reads in
    let blocks = counted_prop (FitsBlock Second) 1 256 block_prop f.blocks in
    hlevel (params, marks, locals, blocks, less_prop, number_set, Bool-set)

pub fits_prop : (p : Code) → IsProp (FitsCode Second p)
fits_prop p = let types = counted_prop FitsType 0 64 type_fits_prop p.types in let funcs = counted_prop (FitsFunc Second) 0 64 func_prop p.funcs in hlevel (types, funcs, less_prop)
