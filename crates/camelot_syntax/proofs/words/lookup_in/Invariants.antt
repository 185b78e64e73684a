use Rattle.std.proofs.Common.{◌≡◌, drop, map}
use Rattle.camelot_grammar.specs.Lexemes.{mark_in}
use Rattle.camelot_syntax.proofs.words.lookup_in.Given as goal

abbrev pub invariant-marks : goal.invariant-marks
invariant-marks l =
    mark_in (map (λ e. record { text = e.0.now; mark = e.1 }) (drop l.written-index l.marks)) l.text
    ≡ mark_in (map (λ e. record { text = e.0.now; mark = e.1 }) l.marks) l.text
