use Rattle.std.proofs.Common.{◌≡◌, ◌≤◌, ◌+◌, ◌++◌, length, map}
use Rattle.std.specs.List.{AllByRecursion}
use Rattle.std.specs.Vec.Iter.{into_iter_items}
use Rattle.grail_code.specs.Code as code
use Rattle.normal_form.specs.Programs.{block_of}
use Rattle.normal_form.specs.Coded.{coded_blocks}
use Rattle.code_gen.specs.Marked.{told_params}
use Rattle.code_gen.proofs.coding.code_blocks.Given as goal

abbrev pub invariant-each_block : goal.invariant-each_block
invariant-each_block l =
    let takes = told_params l.own l.size l.live in
    record {
      blocks : map code.block_of l.all.items
          ++ coded_blocks takes l.number (map block_of (into_iter_items l.block-iterator)) ≡ coded_blocks takes 0 (map block_of l.fn.blocks.items);
      few : l.number + length (into_iter_items l.block-iterator) ≤ 256;
      few_lets : AllByRecursion (λ b. length b.lets ≤ 256) (map block_of (into_iter_items l.block-iterator));
    }
