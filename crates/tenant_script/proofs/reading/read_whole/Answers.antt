use Rattle.std.proofs.Common.{map, refl, subst}
use Rattle.text_lines.specs.Answers.{FaultIs}
use Rattle.text_lines.specs.Formats.{IsFault}
use Rattle.tenant_script.specs.Text.{tenants_format}
use Rattle.tenant_script.specs.Words.{tenant_view, entry_view}
use Rattle.tenant_script.specs.Parts.{kind_of}
use Rattle.tenant_script.proofs.Answering.{whole, found_cause}
use Rattle.tenant_script.proofs.reading.read_whole.Goals as goal

pub read_lines-requires : goal.read_lines-requires
read_lines-requires c κs = ((refl, tt), (c.new-reader.ensures.start, (c.new-reader.ensures.ready c.args.bytes.now, c.requires)))

pub returns-in-Ok : goal.returns-in-Ok
returns-in-Ok c =
    whole c.args.bytes.now c.read_lines.new.reader.stage c.read_lines.new.reader.arena (map tenant_view c.read_lines.new.reader.tenants.items) (map entry_view c.read_lines.new.reader.items.items) c.in-Ok.ensures.found

pub returns-in-Err-Fault : goal.returns-in-Err-Fault
returns-in-Err-Fault c =
    rw c.fault_at.ensures
    (found_cause c.args.bytes.now c.in-Err-Fault.kind c.in-Err-Fault.line (subst (FaultIs (λ kind line. IsFault tenants_format (kind_of kind) c.args.bytes.now line)) c.in-Err-Fault.field-0-is c.in-Err-Fault.ensures.found))
