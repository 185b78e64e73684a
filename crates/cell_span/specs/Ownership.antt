-- Private: words for functions of this crate.
-- What the owner of places of a block owns and lends, and what the right to free the block is. The places are as large
-- as a value of the type R, one after the other from the block's start on, and a block is known by its pointer.
use Rattle.std.specs.Prelude.{ℕ, suc, zero, ◌+◌, ◌*◌, ◌^◌, List, [], ◌∷◌, length}
use Rattle.std.specs.Mem.{type_size}
use base.Fraction.{full_share}
use base.Fml.{Lft, Fml, ftrue, ffalse, fsep, flt, froom}
use mir.Syntax.{Ty, ty_array}
use mir.Raw.{raw}
use denote.RattleType.{RattleType}
use denote.Memory.{lone, part_at, shared_of}
use denote.Sharing.{nothing, said, beside}
use denote.RawPtr.{Ptr, block_ptr, null_ptr}

module _ (R : RattleType) where
  -- where the place of this index begins, in a block whose places begin at the offset o
  abbrev pub offset : ℕ → ℕ → ℕ
  offset o index = index * type_size R + o

  -- these values, each in a place, from the offset o of the block b on
  abbrev pub full : ℕ → ℕ → List R.Denot → Fml
  full b o [] = ftrue
  full b o (x ∷ xs) = fsep (part_at R full_share x b o) (full b (o + type_size R) xs)

  -- so many places, with whatever bytes in them, from the offset o of the block b on
  abbrev pub empty : ℕ → ℕ → ℕ → Fml
  empty b o zero = ftrue
  empty b o (suc n) = fsep (froom (raw (lone R.mir)) b o) (empty b (o + type_size R) n)

  -- the block's places up to this index take fewer than 2 ^ 63 bytes
  abbrev pub fits : ℕ → Fml
  fits end = flt (end * type_size R) (2 ^ 63)

  -- the places from the index `first` on: those of the values, and `spare` empty ones behind them
  abbrev pub owned : Ptr → (first : ℕ) → List R.Denot → (spare : ℕ) → Fml
  owned (block_ptr b o) first xs spare =
      fsep (fits (first + length xs + spare)) (fsep (full b (offset o first) xs) (empty b (offset o (first + length xs)) spare))
  owned null_ptr first xs spare = ffalse

  -- the same values, lent for reading
  abbrev pub full_lent : ℕ → ℕ → List R.Denot → Lft → Fml
  full_lent b o [] = nothing
  full_lent b o (x ∷ xs) = beside (shared_of R x b o) (full_lent b (o + type_size R) xs)

  -- whoever has a `&` to the owner of places may read the values, and nothing else
  abbrev pub lent : Ptr → (first : ℕ) → List R.Denot → (spare : ℕ) → Lft → Fml
  lent (block_ptr b o) first xs spare = beside (said (fits (first + length xs + spare))) (full_lent b (offset o first) xs)
  lent null_ptr first xs spare = said ffalse

  -- the allocator's token for a block of n places
  abbrev pub freed_by : (token : Ty → Ptr → Fml) → Ptr → (n : ℕ) → Fml
  freed_by token p n = token (raw (ty_array (lone R.mir) n)) p
