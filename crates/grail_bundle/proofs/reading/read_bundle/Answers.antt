use Rattle.grail_bundle.proofs.Answering.{found_same, found_no_fault}
use Rattle.grail_bundle.proofs.reading.read_bundle.Goals as goal

pub returns-clause-bundle : goal.returns-clause-bundle
returns-clause-bundle c = found_same c.args.text.now c.in-Ok-read_lines.read.0.items c.in-Ok-read_lines.read.1.now c.in_ok-cert.cert.items c.new.result c.in-Ok-read_lines.ensures c.in_ok-cert.ensures.items c.new.ensures

pub returns-clause-fault : goal.returns-clause-fault
returns-clause-fault c = found_no_fault c.args.text.now c.in-Ok-read_lines.read.0.items c.in-Ok-read_lines.read.1.now c.in_ok-cert.cert.items c.new.result c.in-Ok-read_lines.ensures c.in_ok-cert.ensures.items c.new.ensures
