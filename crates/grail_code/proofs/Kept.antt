-- The limits of code, from what its types keep.
use Rattle.std.proofs.Common.{◌≤◌, List, [], ◌∷◌, length, map, arith}
use Rattle.std.specs.List.{AllByRecursion}
use Rattle.std.proofs.lemmas.List.{length-map}
use Rattle.camelot_values.specs.Kinds.{AreTypes}
use Rattle.grail_code.specs.declared.code.Block.{Block as DeclaredBlock}
use Rattle.grail_code.specs.declared.code.Func.{Func as DeclaredFunc}
use Rattle.grail_code.specs.declared.code.Code.{Code as DeclaredCode}
use Rattle.grail_blocks.specs.Blocks.{let_of}
use Rattle.grail_code.specs.Code.{block_of, func_of, code_of}
use Rattle.grail_code.specs.Limits.{FuncIsWithin, IsWithinLimits}
use Rattle.grail_code.specs.Soundness.{HaveBlocks}

few_lets : (bs : List DeclaredBlock) → AllByRecursion (λ b. length b.lets ≤ 256) (map block_of bs)
few_lets [] = tt
few_lets (b ∷ bs) = (omega (arith, length-map b.lets.items let_of, b.lets.ok.0, b.few_lets), few_lets bs)

func_within : (f : DeclaredFunc) → FuncIsWithin (func_of f)
func_within f = record {
  few_params = omega (arith, f.params.ok.0, f.few_params);
  as_many = omega (arith, f.reads.ok.0, f.params.ok.0, f.marks);
  few_locals = omega (arith, f.locals.ok.0, f.few_locals);
  some_blocks = omega (arith, length-map f.blocks.items block_of, f.blocks.ok.0, f.some_blocks);
  few_blocks = omega (arith, length-map f.blocks.items block_of, f.blocks.ok.0, f.few_blocks);
  few_lets = few_lets f.blocks.items;
}

funcs_within : (fs : List DeclaredFunc) → AllByRecursion FuncIsWithin (map func_of fs)
funcs_within [] = tt
funcs_within (f ∷ fs) = (func_within f, funcs_within fs)

pub within : (c : DeclaredCode) → AreTypes c.types → IsWithinLimits (code_of c)
within c types = record { types = types; few_funcs = omega (arith, length-map c.funcs.items func_of, c.funcs.ok.0, c.few_funcs); funcs = funcs_within c.funcs.items }

funcs_have : (fs : List DeclaredFunc) → AllByRecursion (λ f. 1 ≤ length f.blocks) (map func_of fs)
funcs_have [] = tt
funcs_have (f ∷ fs) = ((func_within f).some_blocks, funcs_have fs)

pub have_blocks : (c : DeclaredCode) → HaveBlocks (code_of c)
have_blocks c = funcs_have c.funcs.items
