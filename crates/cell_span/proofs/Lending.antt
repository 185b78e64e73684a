-- A `&` to the owner of places lends the values in them, and the empty places stay shut. Assumes `Logic`.
use Prim.Native.Nat.{ℕ, ◌+◌}
use Rattle.std.specs.Prelude.{List, [], ◌∷◌, length}
use Rattle.std.specs.Mem.{type_size}
use seplogic.Ra.Ura.{Ura}
use base.Fml.{Lft, Incl, ftrue, ffalse, fsep}
use types.Logic.{Logic}
use denote.RattleType.{RattleType, RowLaws}
use denote.Param.Laws.{Laws}
use denote.Memory.{part_at, shared_of}
use denote.RawPtr.{Ptr, block_ptr, null_ptr}
use denote.Sharing.{ShrLaws, said}
use denote.SharingLaws.{beside_shr_laws, nothing_shr_laws, said_shr_laws}
use denote.Shares.{Shares-less}
use denote.Struct.Lending.{Lends, Lends-both, Lends-first, Lends-nothing, Lends-said, Lends-false}
use Rattle.cell_span.specs.Ownership.{offset, fits, full, empty, full_lent, owned, lent}

module _ (R : RattleType) (laws : RowLaws R) where
  values_shr_laws : (b o : ℕ) (xs : List R.Denot) → ShrLaws (full_lent R b o xs)
  values_shr_laws b o [] = nothing_shr_laws
  values_shr_laws b o (x ∷ xs) = beside_shr_laws _ _ (laws x b o) (values_shr_laws b (o + type_size R) xs)

  pub lent_shr_laws : (p : Ptr) (first : ℕ) (xs : List R.Denot) (spare : ℕ) → ShrLaws (lent R p first xs spare)
  lent_shr_laws (block_ptr b o) first xs spare = beside_shr_laws _ _ (said_shr_laws (fits R (first + length xs + spare)) tt) (values_shr_laws b (offset R o first) xs)
  lent_shr_laws null_ptr first xs spare = said_shr_laws ffalse tt

module _ {M : Type 1} {𝓤 : Ura M} (𝓛 : Logic 𝓤) (R : RattleType) (laws : Laws R) (l : Lft) (lives : Incl l R.lives) where
  Lends-values : (b o : ℕ) (xs : List R.Denot) → Lends 𝓛 (full R b o xs) (full_lent R b o xs) l
  Lends-values b o [] = Lends-nothing 𝓛 ftrue l
  Lends-values b o (x ∷ xs) =
      let rest = o + type_size R in
      Lends-both 𝓛 (part_at R base.Fraction.full_share x b o) (full R b rest xs) (shared_of R x b o) (full_lent R b rest xs) l
      (λ κ ts. Shares-less 𝓛 R R.lives l lives (laws.shares 𝓛) x κ ts b o) (Lends-values b rest xs)

  pub Lends-owned : (p : Ptr) (first : ℕ) (xs : List R.Denot) (spare : ℕ) → Lends 𝓛 (owned R p first xs spare) (lent R p first xs spare) l
  Lends-owned (block_ptr b o) first xs spare =
      let at = offset R o first in let end = fits R (first + length xs + spare) in let behind = empty R b (offset R o (first + length xs)) spare in
      Lends-both 𝓛 end (fsep (full R b at xs) behind) (said end) (full_lent R b at xs) l
      (Lends-said 𝓛 end tt l) (Lends-first 𝓛 (full R b at xs) behind (full_lent R b at xs) l (Lends-values b at xs))
  Lends-owned null_ptr first xs spare = Lends-false 𝓛 (said ffalse) l
