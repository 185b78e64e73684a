-- What a `&` to the right to free holds, which is nothing, is made of a borrow of it. Assumes `Logic`.
use denote.RattleType.{RattleType}
use denote.RawPtr.{RawPtr}
use denote.Param.Laws.{Laws}
use denote.Param.Shared.{copy_shared}
use denote.SharingLaws.{nothing_shr_laws}
use denote.Struct.Laws.{field_copy}
use denote.Struct.Lending.{of_Lends, Lends-nothing}
use Rattle.std.specs.declared.alloc.Allocator.{Ghosts}
use Rattle.std.specs.contracts.marker.PhantomData as marker
use Rattle.cell_span.specs.contracts.cells.Deed as right
use Rattle.cell_span.proofs.cells.Deed.TheLaw.Statement.{statement}

pub shares : (R A : RattleType) (ghosts : Ghosts A.Denot) (laws : Laws R) (of : Laws A) → statement R A ghosts laws of
shares R A ghosts laws of =
    let codes = right.the_codes R.Denot A.Denot R.coded A.coded (marker.the_row RawPtr).coded in
    of_Lends (right.struct R A ghosts) codes (right.the_heap R A ghosts) (right.the_lent R A ghosts) (λ d p. nothing_shr_laws)
    (copy_shared (marker.the_field RawPtr) (field_copy (marker.the_type RawPtr) tt), tt)
    (λ M 𝓤 𝓛 d p. Lends-nothing 𝓛 (right.the_heap R A ghosts d) (right.the_row R A ghosts).lives)
