use Rattle.std.proofs.Common.{◌≡◌, rules, sym, subst, map}
use Rattle.certificate.specs.Words.{func_of}
use Rattle.certificate.specs.Reading.{IsRead, IsStopped}
use Rattle.text_lines.specs.Cuts.{further}
use Rattle.std.proofs.Common.{true, false}
use Rattle.std.specs.Prelude.{codes, MatchResult}
use Rattle.std.specs.Str.{bytes_eq}
use Rattle.certificate.specs.Steps.{AreWithin}
use Rattle.certificate.proofs.FuncSteps.{line_function, line_own}
use Rattle.certificate.proofs.functions.add_line.Goals as goal

pub returns-then-eq : goal.returns-then-eq
returns-then-eq c =
    let is : bytes_eq c.first_word.result.0.now (codes "function") ≡ true = search rules in
    subst (λ o. MatchResult c.add_function.result (λ gs. IsRead o AreWithin (map func_of gs.items)) (λ stop. IsStopped o AreWithin stop))
    (sym (line_function c.args.line.now c.first_word.result.0.now (further c.first_word.result.1.now) (map func_of c.args.funcs.items) c.first_word.ensures is)) c.add_function.ensures

pub returns : goal.returns
returns c =
    let not : bytes_eq c.first_word.result.0.now (codes "function") ≡ false = search rules in
    subst (λ o. MatchResult c.extend_last.result (λ gs. IsRead o AreWithin (map func_of gs.items)) (λ stop. IsStopped o AreWithin stop))
    (sym (line_own c.args.line.now c.first_word.result.0.now (further c.first_word.result.1.now) (map func_of c.args.funcs.items) c.first_word.ensures not)) c.extend_last.ensures
