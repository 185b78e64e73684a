-- The code of a typed program is well formed, and means what the program means.
use Rattle.std.proofs.Common.{◌≡◌, ℕ, zero, suc, List, [], ◌∷◌, length, map, Some, None, refl, sym, ap, ◌∙◌, subst}
use Rattle.std.specs.Prelude.{◌==◌, if◌then◌else◌, slice_get, Result, Ok, Err, IfOk}
use Rattle.std.specs.List.{AllByRecursion}
use Rattle.camelot_values.specs.Value.{Value}
use Rattle.camelot_values.specs.Names.{AreDistinct}
use Rattle.camelot_values.specs.Outcome.{Outcome, Stuck}
use Rattle.camelot_values.specs.Runs.{Enter, run_from}
use Rattle.grail_blocks.specs.Blocks.{Block}
use Rattle.grail_blocks.specs.Running.{arguments, narrow, whole, blocks_run}
use Rattle.grail_blocks.specs.States.{UsesReady}
use Rattle.grail_blocks.specs.NarrowLaws.{narrowing_is_free}
use Rattle.camelot_typing.specs.Typed.{Typing}
use Rattle.grail_code.specs.declared.code.Code.{Code as DeclaredCode}
use Rattle.grail_code.specs.Code.{Func, Code, code_of}
use Rattle.grail_code.specs.Meaning as code
use Rattle.grail_code.specs.WellFormed.{is_owned, reads_of, BlocksFit, FuncFits, IsWellFormed}
use Rattle.normal_form.specs.Normal.{NormalBlock, NormalFunction, NormalProgram, normal_form}
use Rattle.normal_form.specs.Running as normal
use Rattle.normal_form.specs.Running.{everything}
use Rattle.normal_form.specs.Coded.{BlockParams, coded_blocks, coded}
use Rattle.normal_form.specs.Facts.{UsesFairly, FitsAsCode, TablesFit}
use Rattle.code_gen.specs.Generated.{live_params, code_of_normal, compiled}
use Rattle.code_gen.proofs.Bodies.{functions_well_formed}

-- ---- well formed

names_coded : (takes : BlockParams) (fs : List NormalFunction) → map (λ f. f.name) (map (coded takes) fs) ≡ map (λ f. f.name) fs
names_coded takes [] = refl
names_coded takes (f ∷ fs) = ap (λ l. f.name ∷ l) (names_coded takes fs)

pub well_formed : (p : NormalProgram) → TablesFit p → AllByRecursion (UsesFairly p) p.functions
    → AllByRecursion (FitsAsCode live_params p) p.functions → IsWellFormed (code_of_normal p)
well_formed p tables fair fit = record {
  type_names = tables.type_names;
  con_names = tables.con_names;
  func_names = subst AreDistinct (sym (names_coded live_params p.functions)) tables.function_names;
  fields = tables.fields;
  funcs = functions_well_formed p p.functions fair fit;
}

-- ---- meaning

wholes_are : (takes : ℕ → List ℕ) (number : ℕ) (bs : List NormalBlock) → map whole (coded_blocks takes number bs) ≡ map everything bs
wholes_are takes number [] = refl
wholes_are takes number (b ∷ bs) = ap (λ l. everything b ∷ l) (wholes_are takes (suc number) bs)

-- each block of well-formed code has its uses ready
block_uses : (p : Code) (f : Func) (first : ℕ) (bs : List Block) (i : ℕ) (b : Block) → BlocksFit p f first bs → slice_get bs i ≡ Some b
    → UsesReady (reads_of p) (is_owned p.types f) f.blocks b
block_uses p f first [] i b fit e = let k : None ≡ Some b = e in absurd cc
block_uses p f first (x ∷ bs) zero b fit e = let same : x ≡ b = cc in subst (UsesReady (reads_of p) (is_owned p.types f) f.blocks) same fit.0.uses
block_uses p f first (x ∷ bs) (suc i) b fit e = block_uses p f (suc first) bs i b fit.1 e

blocks_mean : (p : NormalProgram) (f : NormalFunction) (enter : Enter) (k w : ℕ) (args : List Value) → FuncFits (code_of_normal p) (coded live_params f)
    → blocks_run p.types enter (map narrow (coded_blocks (live_params f) 0 f.blocks)) k w (arguments args) ≡ blocks_run p.types enter (map everything f.blocks) k w (arguments args)
blocks_mean p f enter k w args fit =
    narrowing_is_free (reads_of (code_of_normal p)) (is_owned p.types (coded live_params f)) p.types enter (coded_blocks (live_params f) 0 f.blocks)
    (λ number b e. block_uses (code_of_normal p) (coded live_params f) 0 (coded_blocks (live_params f) 0 f.blocks) number b fit.blocks e) k w (arguments args)
    ∙ ap (λ bodies. blocks_run p.types enter bodies k w (arguments args)) (wholes_are (live_params f) 0 f.blocks)

body_means : (p : NormalProgram) (fs : List NormalFunction) (enter : Enter) (i k w : ℕ) (args : List Value)
    → AllByRecursion (FuncFits (code_of_normal p)) (map (coded live_params) fs)
    → code.body_run p.types enter (slice_get (map (coded live_params) fs) i) k w args ≡ normal.body_run p.types enter (slice_get fs i) k w args
body_means p [] enter i k w args fit = refl
body_means p (f ∷ fs) enter zero k w args fit = ap (λ o. if length args == length f.params then o else Stuck) (blocks_mean p f enter k w args fit.0)
body_means p (f ∷ fs) enter (suc i) k w args fit = body_means p fs enter i k w args fit.1

bodies_mean : (p : NormalProgram) → AllByRecursion (FuncFits (code_of_normal p)) (map (coded live_params) p.functions)
    → code.bodies (code_of_normal p) ≡ normal.bodies p
bodies_mean p fit = λ i enter func k w args. body_means p p.functions enter func k w args fit i

-- Well-formed code of a normal form means what the normal form means.
pub code_means : (p : NormalProgram) (limit func fuel : ℕ) (args : List Value) → IsWellFormed (code_of_normal p)
    → code.run_of (code_of_normal p) limit func fuel args ≡ normal.run_of p limit func fuel args
code_means p limit func fuel args well = ap (λ bodies. run_from bodies limit func fuel args) (bodies_mean p well.funcs)

-- ---- what is generated

pub generated_means : {E : Type 0} (r : Result DeclaredCode E) (p : NormalProgram) (t : Typing) (limit func fuel : ℕ) (args : List Value) (outcome : Outcome Value) → p ≡ normal_form t → IfOk r (λ c. code_of c ≡ code_of_normal p)
    → code.run_of (compiled t) limit func fuel args ≡ outcome → IfOk r (λ c. code.run_of (code_of c) limit func fuel args ≡ outcome)
generated_means (Ok c) p t limit func fuel args outcome is h e = ap (λ q. code.run_of q limit func fuel args) (h ∙ ap code_of_normal is) ∙ e
generated_means (Err fault) p t limit func fuel args outcome is h e = tt
