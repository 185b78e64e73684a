use Rattle.std.proofs.Common.{◌≡◌, ◌+◌, ◌*◌, ◌-◌, ◌<◌, ◌≤◌, true, drop, length, map}
use Rattle.grail_code.specs.Code.{let_of, term_of}
use Rattle.grail_code.specs.Meaning.{lets_run, blocks_run, from_block, jumps_from}
use Rattle.grail_evaluator.specs.Trees.{plain_all}
use Rattle.grail_evaluator.specs.Locals.{env_of}
use Rattle.grail_evaluator.specs.Ends.{onto, calls_in, bodies_of, onward, cells_a_call}
use Rattle.grail_evaluator.proofs.evaluator.Evaluator.+run.Given as goal

-- each call takes fuel, and what a function does besides calls goes down the ranks of its parts

abbrev pub decreases-calls : goal.decreases-calls
decreases-calls l = (l.self.now.fuel - l.counts.calls) * 8

abbrev pub decreases-call : goal.decreases-call
decreases-call l = (l.self.now.fuel - l.counts.calls) * 8 + 1

abbrev pub decreases-operation : goal.decreases-operation
decreases-operation l = (l.self.now.fuel - l.counts.calls) * 8 + 2

abbrev pub decreases-block : goal.decreases-block
decreases-block l = (l.self.now.fuel - l.counts.calls) * 8 + 3

abbrev pub decreases-blocks : goal.decreases-blocks
decreases-blocks l = (l.self.now.fuel - l.counts.calls) * 8 + 4

abbrev pub decreases-function : goal.decreases-function
decreases-function l = (l.self.now.fuel - l.counts.calls) * 8 + 5

abbrev pub decreases-body : goal.decreases-body
decreases-body l = (l.self.now.fuel - l.counts.calls) * 8 + 6

-- in each loop what is left of the run, behind what was used so far, is the whole run

abbrev pub invariant-block-lets : goal.invariant-block-lets
invariant-block-lets l = record {
  same : onto l.counts (lets_run (calls_in l.self.code.now l.self.limit) (map let_of (drop l.binding-index l.block.lets.items)) (l.self.fuel - l.counts.calls) l.waits (env_of l.env.items)
      (onward l.self.code.now.types (calls_in l.self.code.now l.self.limit) (jumps_from l.self.code.now.types (calls_in l.self.code.now l.self.limit) (bodies_of l.blocks) l.number) (term_of l.block.term) l.waits))
      ≡ onto l.initial.counts (lets_run (calls_in l.self.code.now l.self.limit) (map let_of l.block.lets.items) (l.self.fuel - l.initial.counts.calls) l.waits (env_of l.initial.env.items)
      (onward l.self.code.now.types (calls_in l.self.code.now l.self.limit) (jumps_from l.self.code.now.types (calls_in l.self.code.now l.self.limit) (bodies_of l.blocks) l.number) (term_of l.block.term) l.waits));
  more : l.initial.counts.calls ≤ l.counts.calls;
  within : l.counts.calls ≤ l.self.fuel;
  cells : l.counts.peak + l.counts.low + cells_a_call * l.initial.counts.calls ≤ l.initial.counts.peak + l.initial.counts.low + l.binding-index + cells_a_call * l.counts.calls;
}

abbrev pub invariant-blocks-blocks-2 : goal.invariant-blocks-blocks-2
invariant-blocks-blocks-2 l = record {
  same : onto l.counts (from_block l.self.code.now.types (calls_in l.self.code.now l.self.limit) (bodies_of l.blocks) l.number (l.self.fuel - l.counts.calls) l.waits (env_of l.env.items))
      ≡ onto l.initial.counts (blocks_run l.self.code.now.types (calls_in l.self.code.now l.self.limit) (bodies_of l.blocks) (l.self.fuel - l.initial.counts.calls) l.waits (env_of l.initial.env.items));
  there : l.number < length l.blocks;
  more : l.initial.counts.calls ≤ l.counts.calls;
  within : l.counts.calls ≤ l.self.fuel;
  cells : l.counts.peak + l.counts.low + cells_a_call * l.initial.counts.calls ≤ l.initial.counts.peak + l.initial.counts.low + 257 * l.number + cells_a_call * l.counts.calls;
}

abbrev pub decreases-blocks-blocks-2 : goal.decreases-blocks-blocks-2
decreases-blocks-blocks-2 l = length l.blocks - l.number

abbrev pub invariant-calls-calls : goal.invariant-calls-calls
invariant-calls-calls l = record {
  same : onto l.counts (calls_in l.self.code.now l.self.limit (l.self.fuel - l.counts.calls) l.waits true l.func (plain_all l.args.items))
      ≡ onto l.initial.counts (calls_in l.self.code.now l.self.limit (l.self.fuel - l.initial.counts.calls) l.waits true l.initial.func (plain_all l.initial.args.items));
  more : l.initial.counts.calls ≤ l.counts.calls;
  within : l.counts.calls ≤ l.self.fuel;
  cells : l.counts.peak + l.counts.low + cells_a_call * l.initial.counts.calls ≤ l.initial.counts.peak + l.initial.counts.low + cells_a_call * l.counts.calls;
}

abbrev pub decreases-calls-calls : goal.decreases-calls-calls
decreases-calls-calls l = l.self.fuel - l.counts.calls
