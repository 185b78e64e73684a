use Rattle.std.proofs.Common.{◌∷◌, [], sym, ap, ◌∙◌, arith}
use Rattle.std.specs.Vec.{vec_capacity}
use Rattle.std.specs.Option.{option_to_list}
use Rattle.cell_span.specs.Arenas.{arena_of}
use Rattle.cell_span.specs.Range.{Range}
use Rattle.tenant_desk.proofs.Cutting.{fits_now, few_now, never_none, left_is, cut_within, cut_room, cut_kept, none_kept, given_back, more_pieces, more_rest}
use Rattle.tenant_desk.proofs.desk.TenantDesk.new.Goals as goal

pub unreachable-requires : goal.unreachable-requires
unreachable-requires c =
    let xs = c.deref-budget-items.result.now in
    never_none c.args.span xs c.cuts.budget-index c.cuts.rest (fits_now c.args.span xs c.args.budgets.items c.deref-budget-items.ensures.value c.requires.budgets) c.cuts-test.true
    c.cuts.invariant.rest c.in_default-rest.is

pub cut_piece-requires-clause-within : goal.cut_piece-requires-clause-within
cut_piece-requires-clause-within c =
    let xs = c.deref-budget-items.result.now in
    cut_within c.args.span xs c.cuts.budget-index c.in-Some.left (fits_now c.args.span xs c.args.budgets.items c.deref-budget-items.ensures.value c.requires.budgets) c.cuts-test.true
    (left_is c.args.span xs c.cuts.budget-index c.cuts.rest c.in-Some.left c.cuts.invariant.rest c.in-Some.is)

pub cut_piece-requires-clause-room : goal.cut_piece-requires-clause-room
cut_piece-requires-clause-room c =
    cut_room c.args.span c.deref-budget-items.result.now c.cuts.budget-index c.args.most (vec_capacity c.cuts.pieces) c.cuts.pieces.items c.cuts.invariant.pieces c.cuts-test.true c.cuts.invariant.room

pub invariant_of-desk : goal.invariant_of-desk
invariant_of-desk c =
    let xs = c.deref-budget-items.result.now in
    cut_kept c.args.span xs c.cuts.budget-index c.args.most (arena_of c.arena-arena.result) c.arena-arena.ensures.arena c.requires.whole c.limits.ensures
    (fits_now c.args.span xs c.args.budgets.items c.deref-budget-items.ensures.value c.requires.budgets) (few_now _ xs c.args.budgets.items c.deref-budget-items.ensures.value c.requires.budgets)
    _ (c.in-Err.ensures.pieces ∙ c.cuts.invariant.pieces)
    _ (ap (λ (s : Range). s ∷ []) c.in-Err.ensures.left ∙ ap option_to_list (sym c.in-Some.is) ∙ c.cuts.invariant.rest)

pub finish-requires : goal.finish-requires
finish-requires c = none_kept c.args.span c.deref-budget-items.result.now c.cuts.budget-index c.args.most _ (c.in-Err.ensures.pieces ∙ c.cuts.invariant.pieces)

pub returns-in-Err : goal.returns-in-Err
returns-in-Err c =
    given_back c.args.span c.finish.result c.deref-budget-items.result.now c.cuts.budget-index c.args.most (arena_of c.arena-arena.result) _ _ c.requires.whole c.finish.ensures.whole
    c.finish.ensures.arena c.arena-arena.ensures.arena c.finish.ensures.cells (c.in-Err.ensures.pieces ∙ c.cuts.invariant.pieces)
    (ap (λ (s : Range). s ∷ []) c.in-Err.ensures.left ∙ ap option_to_list (sym c.in-Some.is) ∙ c.cuts.invariant.rest)

pub cuts-preserved : goal.cuts-preserved
cuts-preserved c =
    let xs = c.deref-budget-items.result.now in
    let left = left_is c.args.span xs c.cuts.budget-index c.cuts.rest c.in-Some.left c.cuts.invariant.rest c.in-Some.is in
    record {
      room = omega (arith, c.cuts.invariant.room, c.in-Ok-cut_piece.ensures.room);
      pieces = more_pieces c.args.span xs c.cuts.budget-index c.args.most c.in-Some.left c.cuts.pieces.items c.cut_piece.new.pieces.items c.cuts-test.true left c.cuts.invariant.pieces
          c.in-Ok-cut_piece.ensures.pieces;
      rest = more_rest c.args.span xs c.cuts.budget-index c.in-Some.left _ c.cuts-test.true left c.in-Ok-cut_piece.ensures.left;
    }

pub invariant_of-result : goal.invariant_of-result
invariant_of-result c =
    let xs = c.deref-budget-items.result.now in
    cut_kept c.args.span xs c.cuts.budget-index c.args.most (arena_of c.arena-arena.result) c.arena-arena.ensures.arena c.requires.whole c.limits.ensures
    (fits_now c.args.span xs c.args.budgets.items c.deref-budget-items.ensures.value c.requires.budgets) (few_now _ xs c.args.budgets.items c.deref-budget-items.ensures.value c.requires.budgets)
    c.cuts.pieces.items c.cuts.invariant.pieces (option_to_list c.cuts.rest) c.cuts.invariant.rest
