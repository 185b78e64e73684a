use Rattle.std.proofs.Common.{sym, ap, ◌∙◌, arith}
use Rattle.camelot_values.specs.Names.{place_among}
use Rattle.normal_form.specs.Tables.{source_in}
use Rattle.normal_form.proofs.NamedKinds.{unnamed, named, named_beyond}
use Rattle.normal_form.proofs.known_kinds.call_kind.Goals as goal

pub returns-in_default : goal.returns-in_default
returns-in_default c =
    let t = c.args.known.now.typed.now in
    let w = c.args.name.now.word in
    sym (unnamed (source_in t).funs t.funs.items w
    (ap (λ l. place_among l w) (sym c.args.known.now.fun_names) ∙ ap (place_among c.args.known.now.funs) (sym c.bytes.ensures) ∙ sym c.in_default.ensures.number))

pub returns-then-number-len : goal.returns-then-number-len
returns-then-number-len c =
    let t = c.args.known.now.typed.now in
    let w = c.args.name.now.word in
    let count = t.funs.ok.0 in
    sym (named (source_in t).funs t.funs.items w c.in-Some.number c.index.result.now
    (ap (λ l. place_among l w) (sym c.args.known.now.fun_names) ∙ ap (place_among c.args.known.now.funs) (sym c.bytes.ensures) ∙ sym c.in-Some.ensures.number)
    (omega (arith, count, c.len.ensures, c.if-number-len.true)) c.index.ensures)

pub returns-else-number-len : goal.returns-else-number-len
returns-else-number-len c =
    let t = c.args.known.now.typed.now in
    let w = c.args.name.now.word in
    let count = t.funs.ok.0 in
    sym (named_beyond (source_in t).funs t.funs.items w c.in-Some.number
    (ap (λ l. place_among l w) (sym c.args.known.now.fun_names) ∙ ap (place_among c.args.known.now.funs) (sym c.bytes.ensures) ∙ sym c.in-Some.ensures.number)
    (omega (arith, count, c.len.ensures, c.if-number-len.false)))
