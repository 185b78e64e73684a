-- What a `&` to the owner of places holds is made of a borrow of it. Assumes `Logic`.
use mathlib.Core.List.{[], ◌++◌}
use base.Fml.{Incl-trans}
use contract.BorrowLft.{meet_⊑_left}
use denote.RattleType.{RattleType}
use denote.RawPtr.{RawPtr}
use denote.Param.Laws.{Laws}
use denote.Param.Shared.{copy_shared}
use denote.Struct.Laws.{field_copy}
use denote.Struct.Lending.{of_Lends}
use Rattle.std.specs.contracts.marker.PhantomData as marker
use Rattle.cell_span.specs.contracts.cells.Cells as owner
use Rattle.cell_span.proofs.cells.Cells.TheLaw.Statement.{statement}
use Rattle.cell_span.proofs.Lending.{lent_shr_laws, Lends-owned}

pub shares : (R : RattleType) (laws : Laws R) → statement R laws
shares R laws =
    let codes = owner.the_codes R.Denot R.coded (marker.the_row RawPtr).coded in
    of_Lends (owner.struct R) codes (owner.the_heap R) (owner.the_lent R)
    (λ c p. lent_shr_laws R laws.shr_laws c.at c.first c.items c.spare)
    (copy_shared (marker.the_field RawPtr) (field_copy (marker.the_type RawPtr) tt), tt)
    (λ M 𝓤 𝓛 c p. Lends-owned 𝓛 R laws (owner.the_row R).lives (Incl-trans (meet_⊑_left (R.lives ++ []) _) (meet_⊑_left R.lives [])) c.at c.first c.items c.spare)
