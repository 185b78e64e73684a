-- Cited by contracts.
-- Programs in normal form of the code as plain data.
use Rattle.std.specs.Prelude.{map}
use Rattle.grail_blocks.specs.Blocks.{let_of, term_of}
use Rattle.normal_form.specs.Normal as plain
use Rattle.normal_form.specs.declared.program.NormalBlock.{NormalBlock}
use Rattle.normal_form.specs.declared.program.NormalFunction.{NormalFunction}
use Rattle.normal_form.specs.declared.program.Normal.{Normal}

abbrev pub block_of : NormalBlock → plain.NormalBlock
block_of b = record { lets = map let_of b.lets.items; term = term_of b.term }

abbrev pub normal_function_of : NormalFunction → plain.NormalFunction
normal_function_of f = record {
  name = f.name;
  params = f.params.items;
  reads = f.reads.items;
  result = f.result;
  locals = f.locals.items;
  blocks = map block_of f.blocks.items;
}

abbrev pub normal_of : Normal → plain.NormalProgram
normal_of p = record { types = p.types; functions = map normal_function_of p.functions.items }
