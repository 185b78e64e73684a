-- Cited by contracts.
-- What is told of a place of a block: the units that are left there, and what the value of each local carries.
use Rattle.std.specs.Prelude.{◌≡◌, ℕ, ◌<◌, List, [], length, get_or, slice_get, Option, Some, None}
use Rattle.grail_code.specs.Code.{Block, Func, Code}
use Rattle.annotations.specs.Vectors.{Vector, at}
use Rattle.licence.specs.Books.{Carried, book_of}
use Rattle.licence.specs.Rules.{naturals, Account, account_before}
use Rattle.licence.specs.Licensed.{Licensed}

abbrev pub block_in : Option Func → (block : ℕ) → Option Block
block_in None block = None
block_in (Some f) block = slice_get f.blocks block

-- the block of this number of this function, where there is one
abbrev pub block_at : Code → (func block : ℕ) → Option Block
block_at p func block = block_in (slice_get p.funcs func) block

-- before the let of this number of the block, counted from 0; at the number of lets and beyond, before its end
abbrev pub account_of : Licensed → (func number : ℕ) → Block → (place : ℕ) → Account ℕ
account_of l func number b place = account_before naturals l.code.types (book_of l.cert) func number b place

-- each local, as far as there are vectors, carries what its vector says
unfoldable pub AreCarried : Carried ℕ → List Vector → Type 0
AreCarried carried vectors = (x : ℕ) → x < length vectors → (con : ℕ) → at (get_or vectors x []) con ≡ carried x con
