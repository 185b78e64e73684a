-- Cited by contracts.
-- Where a rule fails: what a check that doesn't hold shows.
use Rattle.std.specs.Prelude.{◌≡◌, ℕ, suc, length, slice_get, Some}
use Rattle.grail_code.specs.Code.{Let, Block, Func, Code}
use Rattle.licence.specs.Books.{Book}
use Rattle.licence.specs.Rules.{naturals, account_before, LetPays, TermPays}

-- at this place of a block, which counts from 1: the rule of a let, or behind the last of them that of the end
pub data FailsIn (p : Code) (f : Func) (book : Book ℕ) (func number : ℕ) (b : Block) (place : ℕ) : Type 0 where
  let_fails : (n : ℕ) (l : Let) → slice_get b.lets n ≡ Some l → place ≡ suc n
      → (LetPays p f book func number (suc n) (account_before naturals p.types book func number b n) l.op → ⊥) → FailsIn p f book func number b place
  end_fails : place ≡ suc (length b.lets) → (TermPays p f book func (account_before naturals p.types book func number b (length b.lets)) b.term → ⊥)
      → FailsIn p f book func number b place

-- at this place of the code
pub record RuleFails (p : Code) (book : Book ℕ) (func number place : ℕ) : Type 0 where
  pub f : Func
  pub func_there : slice_get p.funcs func ≡ Some f
  pub b : Block
  pub block_there : slice_get f.blocks number ≡ Some b
  pub fails : FailsIn p f book func number b place
