use Rattle.std.proofs.Common.{map, sym, ap, ◌∙◌}
use Rattle.std.specs.Option.{option_map}
use Rattle.certificate.specs.Words.{block_of}
use Rattle.frame_accounts.proofs.LineLaws.{line_there, line_of_later, no_line_there}
use Rattle.frame_accounts.proofs.lines.line_at.Goals as goal

pub returns-then-line-block : goal.returns-then-line-block
returns-then-line-block c = line_there c.args.block c.args.place (map block_of c.args.lines.now) (block_of c.in-Some.line.now) c.requires.place c.requires.ascending
    (sym c.line_in.ensures ∙ ap (option_map (λ b. block_of b.now)) c.in-Some.is) c.if-line-block.true

pub returns-else-line-block : goal.returns-else-line-block
returns-else-line-block c = line_of_later c.args.block c.args.place (map block_of c.args.lines.now) (block_of c.in-Some.line.now) c.requires.place c.requires.ascending
    (sym c.line_in.ensures ∙ ap (option_map (λ b. block_of b.now)) c.in-Some.is) c.if-line-block.false

pub returns-in-None : goal.returns-in-None
returns-in-None c = no_line_there c.args.block c.args.place (map block_of c.args.lines.now) c.requires.place c.requires.ascending
    (sym c.line_in.ensures ∙ ap (option_map (λ b. block_of b.now)) c.in-None.is)
