use Rattle.std.proofs.Common.{rules, ◌≡◌, ◌≤◌, true, false, [], length, map, string_bytes}
use Rattle.camelot_host.specs.Commands.{IsCommand, reads}
use Rattle.std.specs.Io.KnownBytes.{IsAtEnd}
use Rattle.host_io.specs.Source.{Took}
use Rattle.camelot_host.specs.Answers.{input_limit, Quiet, SinkFaults}
use Rattle.camelot_host.specs.Replies.{command_named, Responds}
use Rattle.camelot_host.proofs.Running.{hosted_read, hosted_unread}
use Rattle.camelot_host.proofs.hosting.host_gated.Goals as goal

pub returns-then-not-reads-clause-hosted : goal.returns-then-not-reads-clause-hosted
returns-then-not-reads-clause-hosted g c =
    let named : IsCommand (map string_bytes c.args.words.now) (command_named c.in-Some.command) = search rules in
    let unread : reads (command_named c.in-Some.command) ≡ false = search rules in
    let told : Responds c.respond.result.status (command_named c.in-Some.command) [] (g.K.Sink.told c.args.sink.now) (g.K.Sink.told c.respond.new.sink) = search rules in
    let faults : SinkFaults c.respond.result.status (g.K.Sink.faults c.args.sink.now) (g.K.Sink.faults c.respond.new.sink) = search rules in
    let quiet : Quiet c.respond.result.status c.args.sink.now c.respond.new.sink = search rules in
    hosted_unread (map string_bytes c.args.words.now) c.args.source.now c.args.source.now c.args.sink.now c.respond.new.sink
    (g.S.Source.left c.args.source.now) (g.S.Source.left c.args.source.now) (g.K.Sink.told c.args.sink.now) (g.K.Sink.told c.respond.new.sink)
    (g.S.Source.taken c.args.source.now) (g.S.Source.taken c.args.source.now) (g.S.Source.faults c.args.source.now) (g.S.Source.faults c.args.source.now)
    (g.K.Sink.faults c.args.sink.now) (g.K.Sink.faults c.respond.new.sink)
    c.respond.result.status (command_named c.in-Some.command) named unread told faults quiet

pub returns-clause-hosted : goal.returns-clause-hosted
returns-clause-hosted g c =
    let input = c.in-Ok.input.items in
    let named : IsCommand (map string_bytes c.args.words.now) (command_named c.in-Some.command) = search rules in
    let reading : reads (command_named c.in-Some.command) ≡ true = search rules in
    let told : Responds c.respond-2.result.status (command_named c.in-Some.command) input (g.K.Sink.told c.args.sink.now) (g.K.Sink.told c.respond-2.new.sink) = search rules in
    let faults : SinkFaults c.respond-2.result.status (g.K.Sink.faults c.args.sink.now) (g.K.Sink.faults c.respond-2.new.sink) = search rules in
    let quiet : Quiet c.respond-2.result.status c.args.sink.now c.respond-2.new.sink = search rules in
    let took : Took (g.S.Source.left c.args.source.now) (g.S.Source.left c.read_all.new.source) (g.S.Source.taken c.args.source.now) (g.S.Source.taken c.read_all.new.source) input = search rules in
    let end : IsAtEnd (g.S.Source.left c.read_all.new.source) = search rules in
    let within : length input ≤ input_limit = search rules in
    let steady : g.S.Source.faults c.read_all.new.source ≡ g.S.Source.faults c.args.source.now = search rules in
    hosted_read (map string_bytes c.args.words.now) c.args.source.now c.read_all.new.source c.args.sink.now c.respond-2.new.sink
    (g.S.Source.left c.args.source.now) (g.S.Source.left c.read_all.new.source) (g.K.Sink.told c.args.sink.now) (g.K.Sink.told c.respond-2.new.sink)
    (g.S.Source.taken c.args.source.now) (g.S.Source.taken c.read_all.new.source) (g.S.Source.faults c.args.source.now) (g.S.Source.faults c.read_all.new.source)
    (g.K.Sink.faults c.args.sink.now) (g.K.Sink.faults c.respond-2.new.sink)
    c.respond-2.result.status (command_named c.in-Some.command) input named reading told faults quiet took end within steady
