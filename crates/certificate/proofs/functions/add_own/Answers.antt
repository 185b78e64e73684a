use Rattle.std.proofs.Common.{◌≡◌, rules, sym, subst}
use Rattle.certificate.specs.Certificates.{FuncIsWithin}
use Rattle.certificate.specs.Words.{func_of}
use Rattle.certificate.specs.Reading.{IsRead, IsStopped}
use Rattle.text_lines.specs.Cuts.{further}
use Rattle.std.proofs.Common.{true, false}
use Rattle.std.specs.Prelude.{codes, MatchResult}
use Rattle.std.specs.Str.{bytes_eq}
use Rattle.certificate.proofs.FuncSteps.{own_param, own_result, own_block, own_var, own_make}
use Rattle.certificate.proofs.functions.add_own.Goals as goal

pub returns-then-eq : goal.returns-then-eq
returns-then-eq c =
    let is_param : bytes_eq c.args.tag.now (codes "param") ≡ true = search rules in
    subst (λ o. MatchResult c.add_param.result (λ g. IsRead o FuncIsWithin (func_of g)) (λ stop. IsStopped o FuncIsWithin stop)) (sym (own_param c.args.tag.now (further c.args.rest.now) (func_of c.args.f) is_param)) c.add_param.ensures

pub returns-then-eq-2 : goal.returns-then-eq-2
returns-then-eq-2 c =
    let no_param : bytes_eq c.args.tag.now (codes "param") ≡ false = search rules in
    let is_result : bytes_eq c.args.tag.now (codes "result") ≡ true = search rules in
    subst (λ o. MatchResult c.add_result.result (λ g. IsRead o FuncIsWithin (func_of g)) (λ stop. IsStopped o FuncIsWithin stop)) (sym (own_result c.args.tag.now (further c.args.rest.now) (func_of c.args.f) no_param is_result)) c.add_result.ensures

pub returns-then-eq-3 : goal.returns-then-eq-3
returns-then-eq-3 c =
    let no_param : bytes_eq c.args.tag.now (codes "param") ≡ false = search rules in
    let no_result : bytes_eq c.args.tag.now (codes "result") ≡ false = search rules in
    let is_block : bytes_eq c.args.tag.now (codes "block") ≡ true = search rules in
    subst (λ o. MatchResult c.add_block.result (λ g. IsRead o FuncIsWithin (func_of g)) (λ stop. IsStopped o FuncIsWithin stop)) (sym (own_block c.args.tag.now (further c.args.rest.now) (func_of c.args.f) no_param no_result is_block)) c.add_block.ensures

pub returns-then-eq-4 : goal.returns-then-eq-4
returns-then-eq-4 c =
    let no_param : bytes_eq c.args.tag.now (codes "param") ≡ false = search rules in
    let no_result : bytes_eq c.args.tag.now (codes "result") ≡ false = search rules in
    let no_block : bytes_eq c.args.tag.now (codes "block") ≡ false = search rules in
    let is_var : bytes_eq c.args.tag.now (codes "var") ≡ true = search rules in
    subst (λ o. MatchResult c.add_var.result (λ g. IsRead o FuncIsWithin (func_of g)) (λ stop. IsStopped o FuncIsWithin stop)) (sym (own_var c.args.tag.now (further c.args.rest.now) (func_of c.args.f) no_param no_result no_block is_var)) c.add_var.ensures

pub returns-then-eq-5 : goal.returns-then-eq-5
returns-then-eq-5 c =
    let no_param : bytes_eq c.args.tag.now (codes "param") ≡ false = search rules in
    let no_result : bytes_eq c.args.tag.now (codes "result") ≡ false = search rules in
    let no_block : bytes_eq c.args.tag.now (codes "block") ≡ false = search rules in
    let no_var : bytes_eq c.args.tag.now (codes "var") ≡ false = search rules in
    let is_make : bytes_eq c.args.tag.now (codes "make") ≡ true = search rules in
    subst (λ o. MatchResult c.add_make.result (λ g. IsRead o FuncIsWithin (func_of g)) (λ stop. IsStopped o FuncIsWithin stop)) (sym (own_make c.args.tag.now (further c.args.rest.now) (func_of c.args.f) no_param no_result no_block no_var is_make)) c.add_make.ensures
