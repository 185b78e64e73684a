use Rattle.std.proofs.Common.{◌≡◌, ℕ, List, [], ◌∷◌, length, true, false, map, rules, arith, sym, ◌∙◌, refl}
use Rattle.std.specs.Prelude.{codes, ◌==◌}
use Rattle.std.proofs.lemmas.Bool.Decides.{nat_tests}
use Rattle.certificate.specs.Words.{func_of}
use Rattle.certificate.proofs.Stopping.{line_early, line_more, end_read, end_more}
use Rattle.certificate.proofs.Answering.{stop_fault}
use Rattle.certificate.proofs.reading.read_functions.Goals as goal

some_left : (after : List ℕ) → (length after == 0) ≡ false → after ≡ [] → ⊥
some_left [] h e = absurd cc
some_left (b ∷ after) h e = cc

none_left : (after : List ℕ) → (length after == 0) ≡ true → after ≡ []
none_left [] h = refl
none_left (b ∷ after) h = absurd (let t : (length (b ∷ after) == 0) ≡ false = grind (arith, nat_tests) in let e : true ≡ false = sym h ∙ t in cc)

pub returns-then-not-is_empty : goal.returns-then-not-is_empty
returns-then-not-is_empty c =
    let end : c.in-Some.line.now ≡ codes "end" = search rules in
    end_more c.args.text.now c.args.unit (map func_of c.lines.funcs.items) c.lines.rest.now c.in-Some.line.now c.in-Some.after.now c.lines.number c.lines.invariant.reading c.in-Some.ensures end (some_left c.in-Some.after.now (sym c.is_empty.ensures ∙ c.if-not-is_empty.true))

pub returns-then-eq : goal.returns-then-eq
returns-then-eq c =
    let end : c.in-Some.line.now ≡ codes "end" = search rules in
    end_read c.args.text.now c.args.unit (map func_of c.lines.funcs.items) c.lines.rest.now c.in-Some.line.now c.in-Some.after.now c.lines.number c.lines.invariant.reading c.in-Some.ensures end (none_left c.in-Some.after.now (sym c.is_empty.ensures ∙ c.if-not-is_empty.false))

pub returns-in-Err : goal.returns-in-Err
returns-in-Err c =
    let other : c.in-Some.line.now ≡ codes "end" → ⊥ = search rules in
    rw c.fault_at.ensures (stop_fault c.in-Err.stop c.args.text.now c.args.unit (map func_of c.lines.funcs.items) c.lines.rest.now c.in-Some.line.now c.in-Some.after.now c.lines.number c.lines.invariant.reading c.in-Some.ensures other c.in-Err.ensures)

pub lines-preserved : goal.lines-preserved
lines-preserved c = record { reading = line_more c.args.text.now c.args.unit (map func_of c.lines.funcs.items) (map func_of c.in-Ok.longer.items) c.lines.rest.now c.in-Some.line.now c.in-Some.after.now c.lines.number c.lines.invariant.reading c.in-Some.ensures c.in-Ok.ensures }

pub returns : goal.returns
returns c = line_early c.args.text.now c.args.unit (map func_of c.lines.funcs.items) c.lines.rest.now c.lines.number c.lines.invariant.reading c.in_default.ensures
