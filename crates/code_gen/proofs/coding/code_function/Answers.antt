use Rattle.std.proofs.Common.{◌≡◌, ◌+◌, map, length, subst, sym, arith}
use Rattle.grail_code.specs.Code.{block_of}
use Rattle.normal_form.specs.Programs as normal
use Rattle.code_gen.specs.Marked.{AreSeen}
use Rattle.code_gen.proofs.BlockCode.{as_many, few_blocks_of, few_lets_of, is_coded, some_blocks_of}
use Rattle.code_gen.proofs.coding.code_function.Goals as goal

pub code_blocks-requires-clause-few : goal.code_blocks-requires-clause-few
code_blocks-requires-clause-few c = few_blocks_of c.args.function c.requires

pub code_blocks-requires-clause-few_lets : goal.code_blocks-requires-clause-few_lets
code_blocks-requires-clause-few_lets c = few_lets_of c.args.function c.requires

pub invariant_of-result-clause-some_blocks : goal.invariant_of-result-clause-some_blocks
invariant_of-result-clause-some_blocks c =
    let count = c.in_ok-blocks.blocks.ok.0 in
    let same = as_many c.in_ok-blocks.blocks.items _ c.args.function.blocks.items c.in_ok-blocks.ensures in
    let some = some_blocks_of c.args.function c.requires in
    omega (arith, count, same, some)

pub invariant_of-result-clause-few_blocks : goal.invariant_of-result-clause-few_blocks
invariant_of-result-clause-few_blocks c =
    let count = c.in_ok-blocks.blocks.ok.0 in
    let same = as_many c.in_ok-blocks.blocks.items _ c.args.function.blocks.items c.in_ok-blocks.ensures in
    let few = few_blocks_of c.args.function c.requires in
    omega (arith, count, same, few)

pub returns : goal.returns
returns c =
    let f = c.args.function in
    let params = f.params.ok.0 in
    let locals = f.locals.ok.0 in
    let own = c.len-own.ensures in
    let further = c.len.ensures in
    let first : c.len-own.result ≡ length f.params.items = omega (arith, own, params) in
    let all : c.len-own.result + c.len.result ≡ length f.params.items + length f.locals.items = omega (arith, own, params, further, locals) in
    is_coded f (map block_of c.in_ok-blocks.blocks.items) c.deref-2.result.now c.len-own.result (c.len-own.result + c.len.result) first all c.requires
    (subst (λ bs. AreSeen (map normal.block_of bs) 0 c.deref-2.result.now) c.deref.ensures.value
    (subst (λ vs. AreSeen (map normal.block_of c.deref.result.now) 0 vs) (sym c.deref-2.ensures.value) c.in_ok-live.ensures))
    c.in_ok-blocks.ensures
