use Rattle.std.proofs.Common.{◌≡◌, length, sym, ap, ◌∙◌, subst, arith}
use Rattle.std.specs.Prelude.{IfOk}
use Rattle.camelot_typing.specs.Kinds.{numbered, numbers_of}
use Rattle.normal_form.proofs.Naming.{few_here, numbers_here, numbers_later}
use Rattle.normal_form.proofs.order.type_numbers.Goals as goal

pub row-requires : goal.row-requires
row-requires c =
    let few = few_here c.args.types.now c.defs-def-items.result.now c.types.first c.types.def-index c.def-item.result c.limits.ensures c.defs-def-items.ensures c.types-test.true c.def-item.is c.types.invariant.few in
    let within = few.within in
    let same = ap length c.deref.ensures.value in
    omega (arith, within, same)

pub returns-then-left-eq0 : goal.returns-then-left-eq0
returns-then-left-eq0 c =
    subst (λ ns. IfOk c.row.result (λ numbers. numbers.items ≡ ns))
    (ap (numbered c.types.first) c.deref.ensures.value
    ∙ sym (numbers_here c.types.first c.types.left c.types.def-index c.defs-def-items.result.now c.def-item.result c.types-test.true c.def-item.is c.if-left-eq0.true)
    ∙ c.types.invariant.left ∙ ap (λ ts. numbers_of ts c.args.number) c.defs-def-items.ensures) c.row.ensures

pub overflow_cast-first : goal.overflow_cast-first
overflow_cast-first c =
    let few = few_here c.args.types.now c.defs-def-items.result.now c.types.first c.types.def-index c.def-item.result c.limits.ensures c.defs-def-items.ensures c.types-test.true c.def-item.is c.types.invariant.few in
    let least = few.few in
    let count = c.def-item.result.cons.ok.0 in
    omega (arith, least, count, c.len.ensures)

pub overflow_add-first : goal.overflow_add-first
overflow_add-first c =
    let few = few_here c.args.types.now c.defs-def-items.result.now c.types.first c.types.def-index c.def-item.result c.limits.ensures c.defs-def-items.ensures c.types-test.true c.def-item.is c.types.invariant.few in
    let within = few.within in
    let count = c.def-item.result.cons.ok.0 in
    omega (arith, within, count, c.len.ensures)

pub types-preserved : goal.types-preserved
types-preserved c =
    let few = few_here c.args.types.now c.defs-def-items.result.now c.types.first c.types.def-index c.def-item.result c.limits.ensures c.defs-def-items.ensures c.types-test.true c.def-item.is c.types.invariant.few in
    let least = few.few in
    let count = c.def-item.result.cons.ok.0 in
    record {
      left = numbers_later c.types.first c.types.left c.types.def-index c.defs-def-items.result.now c.def-item.result c.len.result c.types-test.true c.def-item.is (omega arith) (c.len.ensures ∙ count) ∙ c.types.invariant.left;
      few = omega (arith, least, count, c.len.ensures, c.types.invariant.few);
    }
