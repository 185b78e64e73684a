use Rattle.std.proofs.Common.{refl, sym, ◌∙◌, arith, subst}
use Rattle.text_lines.specs.Answers.{KindIs}
use Rattle.text_lines.specs.Formats.{IsFault}
use Rattle.text_lines.specs.Machines.{IsRefused}
use Rattle.text_lines.specs.FrontLaws.{line_shorter}
use Rattle.text_lines.proofs.Loop.{starts, good, short, goes_on, few, refused, some_left, still_open, whole}
use Rattle.text_lines.proofs.reading.read_whole.Goals as goal

pub overflow_add-number : goal.overflow_add-number
overflow_add-number g c = omega (arith, few g.R.LineReader.machine c.args.text.now (g.R.LineReader.state c.lines.reader) c.lines.rest.now c.lines.number c.lines.invariant.reading, c.requires.short)

pub lines-init : goal.lines-init
lines-init g c = record { reading = starts g.R.LineReader.machine g.R.LineReader.shows c.args.text.now (g.R.LineReader.state c.args.reader.now) c.requires.start; ready = c.requires.ready }

pub lines-preserved : goal.lines-preserved
lines-preserved g c = record {
  reading = goes_on g.R.LineReader.machine c.args.text.now (g.R.LineReader.state c.lines.reader) (g.R.LineReader.state c.line.new.self) c.lines.rest.now c.in-Some.line.now c.in-Some.after.now c.lines.number c.lines.invariant.reading c.in-Some.ensures c.in-Ok.ensures.taken;
  ready = c.in-Ok.ensures.on;
}

pub lines-smaller : goal.lines-smaller
lines-smaller g c = line_shorter c.lines.rest.now c.in-Some.line.now c.in-Some.after.now c.in-Some.ensures

pub line-requires : goal.line-requires
line-requires g c κs = (
  (refl, tt),
  (
    c.in-Some.ensures.one,
    (
      subst (g.R.LineReader.ready c.lines.reader) c.in-Some.ensures.parts c.lines.invariant.ready,
      (
        good g.R.LineReader.machine g.R.LineReader.shows c.args.text.now (g.R.LineReader.state c.lines.reader) c.lines.rest.now c.lines.number c.lines.invariant.reading,
        (
          c.lines.invariant.reading.right,
          short g.R.LineReader.machine c.args.text.now (g.R.LineReader.state c.lines.reader) c.lines.rest.now c.in-Some.line.now c.in-Some.after.now c.lines.number c.lines.invariant.reading c.in-Some.ensures c.requires.short,
        ),
      ),
    ),
  ),
)

pub returns-in-Err-Kind : goal.returns-in-Err-Kind
returns-in-Err-Kind g c = subst (λ kind. IsFault g.R.LineReader.format (g.R.LineReader.kind_of kind) c.args.text.now c.lines.number) (sym c.in-Err-Kind.kind-is) (refused g.R.LineReader.machine g.R.LineReader.shows (g.R.LineReader.kind_of c.in-Err-Kind.kind) c.args.text.now (g.R.LineReader.state c.lines.reader) c.lines.rest.now c.in-Some.line.now c.in-Some.after.now c.lines.number c.lines.invariant.reading c.in-Some.ensures (subst (KindIs (λ kind. IsRefused g.R.LineReader.machine (g.R.LineReader.state c.lines.reader) c.in-Some.line.now (g.R.LineReader.kind_of kind))) c.in-Err-Kind.field-0-is c.in-Err-Kind.ensures.taken))

pub returns-then-not-is_empty : goal.returns-then-not-is_empty
returns-then-not-is_empty g c = some_left g.R.LineReader.machine g.R.LineReader.shows c.args.text.now (g.R.LineReader.state c.lines.reader) c.lines.rest.now c.lines.number (g.R.LineReader.kind_of c.no_form.result) c.lines.invariant.reading c.in_default.ensures (sym c.is_empty.ensures ∙ c.if-not-is_empty.true) c.no_form.ensures

pub returns-then-not-may_end : goal.returns-then-not-may_end
returns-then-not-may_end g c = still_open g.R.LineReader.machine g.R.LineReader.shows c.args.text.now (g.R.LineReader.state c.lines.reader) c.lines.rest.now c.lines.number (g.R.LineReader.kind_of c.no_form-then-not-may_end.result) c.lines.invariant.reading c.in_default.ensures (sym c.may_end.ensures ∙ c.if-not-may_end.true) c.no_form-then-not-may_end.ensures

pub returns : goal.returns
returns g c = whole g.R.LineReader.machine g.R.LineReader.shows c.args.text.now (g.R.LineReader.state c.lines.reader) c.lines.rest.now c.lines.number c.lines.invariant.reading (sym c.is_empty.ensures ∙ c.if-not-is_empty.false) (sym c.may_end.ensures ∙ c.if-not-may_end.false)
