use Rattle.std.proofs.Common.{◌≡◌, true, false, rules}
use Rattle.std.specs.Prelude.{codes}
use Rattle.std.specs.Str.{bytes_eq}
use Rattle.std.proofs.Common.{take, ap}
use Rattle.tenant_script.specs.Reading.{program_by}
use Rattle.tenant_script.proofs.Adding.{text_on, text_ended, items_more}
use Rattle.tenant_script.proofs.reading.TenantReader.read_text.Goals as goal

pub returns-then-ne : goal.returns-then-ne
returns-then-ne c = let other : bytes_eq c.args.line.now (codes ".") ≡ false = search rules in text_on c.args.self.now c.args.line.now c.args.after.now c.args.name c.args.language c.args.block c.args.size c.requires.stage c.requires.before other

pub returns : goal.returns
returns c = let end : bytes_eq c.args.line.now (codes ".") ≡ true = search rules in text_ended c.args.self.now c.push.new.self c.args.line.now c.args.after.now c.args.name c.args.language c.args.block c.args.size c.requires.stage c.requires.before end (items_more c.args.self.now.items.items c.push.new.self.items _ (program_by c.args.name.now c.args.language (take c.args.size c.args.block.now)) c.in-Ok.ensures.items (ap (program_by c.args.name.now c.args.language) c.split_at.ensures.front))
