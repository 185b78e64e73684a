-- The owner of places may cross threads as the values in them may, and the right to free as the allocator's token may.
use Prim.Native.Nat.{ℕ, zero, suc, ◌+◌}
use Rattle.std.specs.Prelude.{List, [], ◌∷◌, length}
use Rattle.std.specs.Mem.{type_size}
use base.Fraction.{full_share}
use base.Shift.{Keyless}
use denote.Exit.{Exit, unchanged, leaves, hidden, under}
use denote.RattleType.{RattleType}
use denote.RawPtr.{Ptr, block_ptr, null_ptr}
use denote.Struct.Struct.{exits_of}
use denote.Struct.Owning.{shape, fields, to}
use denote.Param.Send.{IsSend, IsSync, Quiet, Frees, Common, AllSend, part_keyless, owning_send, struct_send, struct_sync, sendable}
use Rattle.std.specs.declared.alloc.Allocator.{Ghosts}
use Rattle.cell_span.specs.Ownership.{offset, full, empty, full_lent, owned, lent}
use Rattle.cell_span.specs.contracts.cells.Cells as owner
use Rattle.cell_span.specs.contracts.cells.Deed as right

-- what leaves through the fields of a struct names no key, where it names none there
leaves_quietly : {D X : Type 0} (to : D → X) (e : Exit X) → Quiet e → Quiet (hidden (under to e))
leaves_quietly to unchanged q = λ d w. tt
leaves_quietly to (leaves L l S s r₀) q = λ d. q (to d)

module _ (R : RattleType) where
  full-Keyless : IsSend R → (b o : ℕ) (xs : List R.Denot) → Keyless (full R b o xs)
  full-Keyless send b o [] = tt
  full-Keyless send b o (x ∷ xs) = (part_keyless R send full_share x b o, full-Keyless send b (o + type_size R) xs)

  empty-Keyless : (b o n : ℕ) → Keyless (empty R b o n)
  empty-Keyless b o zero = tt
  empty-Keyless b o (suc n) = (tt, empty-Keyless b (o + type_size R) n)

  owned-Keyless : IsSend R → (p : Ptr) (first : ℕ) (xs : List R.Denot) (spare : ℕ) → Keyless (owned R p first xs spare)
  owned-Keyless send (block_ptr b o) first xs spare = (tt, (full-Keyless send b (offset R o first) xs, empty-Keyless b (offset R o (first + length xs)) spare))
  owned-Keyless send null_ptr first xs spare = tt

  full_lent-Common : IsSync R → (b o : ℕ) (xs : List R.Denot) → Common (full_lent R b o xs)
  full_lent-Common sync b o [] κ = tt
  full_lent-Common sync b o (x ∷ xs) κ = (sync.shared x b o κ, full_lent-Common sync b (o + type_size R) xs κ)

  lent-Common : IsSync R → (p : Ptr) (first : ℕ) (xs : List R.Denot) (spare : ℕ) → Common (lent R p first xs spare)
  lent-Common sync (block_ptr b o) first xs spare κ = (tt, full_lent-Common sync b (offset R o first) xs κ)
  lent-Common sync null_ptr first xs spare κ = tt

  pub Cells-send : IsSend R → IsSend (owner.the_row R)
  Cells-send send =
      let struct = owner.the_type R in let all : AllSend (fields struct) = (search sendable, tt) in
      owning_send struct all (λ c. owned-Keyless send c.at c.first c.items c.spare)
      (λ k. leaves_quietly (to struct) (exits_of k (fields struct)) ((struct_send (shape struct) all).leaving k))

  pub Cells-sync : IsSync R → IsSync (owner.the_row R)
  Cells-sync sync =
      let struct = owner.the_type R in let plain = struct_sync (shape struct) (search sendable, tt) in
      record { shared = λ c b o κ. (plain.shared (to struct c) b o κ, lent-Common sync c.at c.first c.items c.spare κ) }

  module _ (A : RattleType) (ghosts : Ghosts A.Denot) where
    pub Deed-send : Frees ghosts ghosts.dealloc_token → IsSend (right.the_row R A ghosts)
    Deed-send token =
        let struct = right.the_type R A ghosts in let all : AllSend (fields struct) = (search sendable, tt) in
        owning_send struct all (λ d. token.frees d.alloc _ d.at)
        (λ k. leaves_quietly (to struct) (exits_of k (fields struct)) ((struct_send (shape struct) all).leaving k))

    pub Deed-sync : IsSync (right.the_row R A ghosts)
    Deed-sync =
        let struct = right.the_type R A ghosts in let plain = struct_sync (shape struct) (search sendable, tt) in
        record { shared = λ d b o κ. (plain.shared (to struct d) b o κ, tt) }
