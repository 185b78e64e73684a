use Rattle.std.proofs.Common.{◌≡◌, arith, rules, sym, ◌∙◌}
use Rattle.certificate.specs.Certificates.{FuncIsWithin}
use Rattle.certificate.specs.Words.{func_of}
use Rattle.certificate.specs.Reading.{IsRead, IsStopped}
use Rattle.text_lines.specs.Cuts.{further}
use Rattle.std.proofs.Common.{true, false, ℕ, List, Option, Result, Ok, Err}
use Rattle.certificate.specs.Certificates.{FuncCert}
use Rattle.std.specs.Prelude.{codes, MatchResult}
use Rattle.std.specs.Str.{bytes_eq}
use Rattle.certificate.specs.Reading.{bare_func, function_of_words, IsNoMemory}
use Rattle.certificate.specs.declared.types.FuncCert.{FuncCert as DeclaredFunc}
use Rattle.certificate.specs.declared.stop.LineStop.{LineStop}
use Rattle.certificate.proofs.FuncSteps.{function_no_need, function_no_back, function_there, function_no_name, function_no_first, function_no_second, function_much, function_more, function_read, no_memory}
use Rattle.certificate.proofs.functions.read_function.Goals as goal

pub returns-in_default-number : goal.returns-in_default-number
returns-in_default-number c = function_no_need (further c.args.rest.now) c.in-Some.name.now c.in-Some.need_tag.now c.in-Some.need_word.now c.in-Some.back_tag.now c.in-Some.back_word.now c.in-Some.ensures c.in_default-number.ensures

pub returns-in_default-number-2 : goal.returns-in_default-number-2
returns-in_default-number-2 c = function_no_back (further c.args.rest.now) c.in-Some.name.now c.in-Some.need_tag.now c.in-Some.need_word.now c.in-Some.back_tag.now c.in-Some.back_word.now c.in-Some-number.need c.in-Some.ensures c.in-Some-number.ensures c.in_default-number-2.ensures

pub returns-then-not-is_lower_name : goal.returns-then-not-is_lower_name
returns-then-not-is_lower_name c =
    let there = function_there (further c.args.rest.now) c.in-Some.name.now c.in-Some.need_tag.now c.in-Some.need_word.now c.in-Some.back_tag.now c.in-Some.back_word.now c.in-Some-number.need c.in-Some-number-2.back c.in-Some.ensures c.in-Some-number.ensures c.in-Some-number-2.ensures in
    function_no_name (further c.args.rest.now) c.in-Some.name.now c.in-Some.need_tag.now c.in-Some.back_tag.now c.in-Some-number.need c.in-Some-number-2.back there (sym c.is_lower_name.ensures ∙ c.if-not-is_lower_name.true)

pub returns-then-ne : goal.returns-then-ne
returns-then-ne c =
    let first : bytes_eq c.in-Some.need_tag.now (codes "need") ≡ false = search rules in
    let there = function_there (further c.args.rest.now) c.in-Some.name.now c.in-Some.need_tag.now c.in-Some.need_word.now c.in-Some.back_tag.now c.in-Some.back_word.now c.in-Some-number.need c.in-Some-number-2.back c.in-Some.ensures c.in-Some-number.ensures c.in-Some-number-2.ensures in
    function_no_first (further c.args.rest.now) c.in-Some.name.now c.in-Some.need_tag.now c.in-Some.back_tag.now c.in-Some-number.need c.in-Some-number-2.back there first

pub returns-then-ne-2 : goal.returns-then-ne-2
returns-then-ne-2 c =
    let second : bytes_eq c.in-Some.back_tag.now (codes "back") ≡ false = search rules in
    let there = function_there (further c.args.rest.now) c.in-Some.name.now c.in-Some.need_tag.now c.in-Some.need_word.now c.in-Some.back_tag.now c.in-Some.back_word.now c.in-Some-number.need c.in-Some-number-2.back c.in-Some.ensures c.in-Some-number.ensures c.in-Some-number-2.ensures in
    function_no_second (further c.args.rest.now) c.in-Some.name.now c.in-Some.need_tag.now c.in-Some.back_tag.now c.in-Some-number.need c.in-Some-number-2.back there second

pub returns-then-need-gt-MOST_NEED : goal.returns-then-need-gt-MOST_NEED
returns-then-need-gt-MOST_NEED c =
    let first : bytes_eq c.in-Some.need_tag.now (codes "need") ≡ true = search rules in
    let second : bytes_eq c.in-Some.back_tag.now (codes "back") ≡ true = search rules in
    let there = function_there (further c.args.rest.now) c.in-Some.name.now c.in-Some.need_tag.now c.in-Some.need_word.now c.in-Some.back_tag.now c.in-Some.back_word.now c.in-Some-number.need c.in-Some-number-2.back c.in-Some.ensures c.in-Some-number.ensures c.in-Some-number-2.ensures in
    function_much (further c.args.rest.now) c.in-Some.name.now c.in-Some.need_tag.now c.in-Some.back_tag.now c.in-Some-number.need c.in-Some-number-2.back there (sym c.is_lower_name.ensures ∙ c.if-not-is_lower_name.false) first second (omega arith)

pub returns-then-back-gt-MOST_NEED : goal.returns-then-back-gt-MOST_NEED
returns-then-back-gt-MOST_NEED c =
    let first : bytes_eq c.in-Some.need_tag.now (codes "need") ≡ true = search rules in
    let second : bytes_eq c.in-Some.back_tag.now (codes "back") ≡ true = search rules in
    let there = function_there (further c.args.rest.now) c.in-Some.name.now c.in-Some.need_tag.now c.in-Some.need_word.now c.in-Some.back_tag.now c.in-Some.back_word.now c.in-Some-number.need c.in-Some-number-2.back c.in-Some.ensures c.in-Some-number.ensures c.in-Some-number-2.ensures in
    function_more (further c.args.rest.now) c.in-Some.name.now c.in-Some.need_tag.now c.in-Some.back_tag.now c.in-Some-number.need c.in-Some-number-2.back there (sym c.is_lower_name.ensures ∙ c.if-not-is_lower_name.false) first second (omega arith)

-- what the last call makes
made : (r : Result DeclaredFunc LineStop) (o : Option FuncCert) (name : List ℕ) (need back : ℕ)
    → MatchResult r (λ f. func_of f ≡ bare_func name need back) (λ stop. IsNoMemory stop)
    → ((f : DeclaredFunc) → func_of f ≡ bare_func name need back → IsRead o FuncIsWithin (func_of f))
    → MatchResult r (λ f. IsRead o FuncIsWithin (func_of f)) (λ stop. IsStopped o FuncIsWithin stop)
made (Ok f) o name need back h g = g f h
made (Err s) o name need back h g = no_memory s o h

pub returns : goal.returns
returns c =
    let first : bytes_eq c.in-Some.need_tag.now (codes "need") ≡ true = search rules in
    let second : bytes_eq c.in-Some.back_tag.now (codes "back") ≡ true = search rules in
    let there = function_there (further c.args.rest.now) c.in-Some.name.now c.in-Some.need_tag.now c.in-Some.need_word.now c.in-Some.back_tag.now c.in-Some.back_word.now c.in-Some-number.need c.in-Some-number-2.back c.in-Some.ensures c.in-Some-number.ensures c.in-Some-number-2.ensures in
    made c.bare_function.result (function_of_words (further c.args.rest.now)) c.in-Some.name.now c.in-Some-number.need c.in-Some-number-2.back c.bare_function.ensures
    (λ f e. function_read (further c.args.rest.now) c.in-Some.name.now c.in-Some.need_tag.now c.in-Some.back_tag.now c.in-Some-number.need c.in-Some-number-2.back (func_of f) there (sym c.is_lower_name.ensures ∙ c.if-not-is_lower_name.false) first second (omega arith) (omega arith) e)
