-- The functions of a normal form fit as code, whatever the parameters of blocks.
use Rattle.std.proofs.Common.{◌≡◌, ℕ, zero, suc, ◌+◌, true, List, [], ◌∷◌, ◌++◌, length, map, Some, None, refl, ap, ◌∙◌, subst, arith}
use Rattle.std.specs.Prelude.{slice_get, IsSomeAnd}
use Rattle.std.specs.List.{AllByRecursion, list_all}
use Rattle.camelot_tree.specs.Tree.{Function, Source}
use Rattle.camelot_tree.specs.Tokens.{expression_has_ints}
use Rattle.camelot_typing.specs.Kinds.{types_of, numbered}
use Rattle.camelot_typing.specs.Typing.{Signature, params_scope, globals_of, FunctionFits, FunctionsFit}
use Rattle.camelot_typing.specs.TypingLaws.{params_full, both_hold}
use Rattle.camelot_typing.specs.Typed.{Typing, IsTyping}
use Rattle.linear_use.specs.Uses.{FunctionIsLinear, FunctionsAreLinear, lent_params, loans_of}
use Rattle.linear_use.specs.Answers.{KeepsRule}
use Rattle.normal_form.specs.Normal.{cut, tail, tail_made, tail_kinds, normal_function, normal_functions, normal_form}
use Rattle.normal_form.specs.Coded.{BlockParams, coded, code_with}
use Rattle.normal_form.specs.Facts.{FitsAsCode}
use Rattle.normal_form.proofs.Ends.{closes_tail}
use Rattle.normal_form.proofs.KindsAt.{at_front, at_back, Named}
use Rattle.normal_form.proofs.Frames.{Computed, frame, whole_at, named_params}
use Rattle.normal_form.proofs.FitParts.{Coding, cut_fits}
use Rattle.normal_form.proofs.FitTails.{length_cut, length_coded, tail_fits}
use Rattle.normal_form.proofs.Looked.{tail_inside}
use Rattle.normal_form.proofs.LendParts.{cut_lends}
use Rattle.normal_form.proofs.LendTails.{tail_lends}
use Rattle.normal_form.proofs.FactsLend.{Lines, further_read, param_marked, param_some, params_flagged, callees_lend}
use Rattle.normal_form.proofs.KnownKinds.{all_append, params_known, stands_known, params_scope_known, tail_kinds_known}

-- a function's code has its signature
callees_are : (takes : BlockParams) (p : Source) (sigs : List Signature) (fs : List Function) (ss : List Signature) (i : ℕ) (s : Signature)
    → FunctionsFit p (globals_of p sigs) fs ss → slice_get ss i ≡ Some s
    → IsSomeAnd (slice_get (map (coded takes) (normal_functions p sigs fs ss)) i) (λ callee. (callee.params ≡ s.params) × (callee.result ≡ s.result))
callees_are takes p sigs [] [] i s fit e = let k : None ≡ Some s = e in absurd cc
callees_are takes p sigs [] (t ∷ ss) i s fit e = absurd fit
callees_are takes p sigs (f ∷ fs) [] i s fit e = absurd fit
callees_are takes p sigs (f ∷ fs) (t ∷ ss) zero s fit e = let same : t ≡ s = cc in (ap (λ u. u.params) same, ap (λ u. u.result) same)
callees_are takes p sigs (f ∷ fs) (t ∷ ss) (suc i) s fit e = callees_are takes p sigs fs ss i s fit.1 e

function_fits : (takes : BlockParams) (t : Typing) (f : Function) (s : Signature)
    → FunctionsFit t.source (globals_of t.source t.signatures) t.source.funs t.signatures → Computed
    → FunctionFits t.source (globals_of t.source t.signatures) f s
    → FunctionIsLinear (loans_of t.source t.signatures) (globals_of t.source t.signatures) f s → expression_has_ints f.body ≡ true
    → FitsAsCode takes (normal_form t) (normal_function t.source t.signatures f s)
function_fits takes t f s fit computed own lin ints =
    let p = t.source in
    let sigs = t.signatures in
    let F = frame p sigs f s fit computed in
    let nf = normal_function p sigs f s in
    let C : Coding F = record {
      program = code_with takes (normal_form t);
      func = coded takes nf;
      types_are = refl;
      kinds_are = refl;
      callees = λ i s e. callees_are takes p sigs p.funs sigs i s fit e;
    } in
    let n = length f.params in
    let l = params_scope f.params (numbered 0 f.params) in
    let sk = params_scope f.params s.params in
    let marks = lent_params (types_of p) f.params s.params in
    let further = tail_kinds p sigs sk f.body in
    let lines = tail p f.body l n 0 in
    let top = n + tail_made p f.body in
    let full = params_full p f.params s.params own.params in
    let at = whole_at (s.params ++ further) in
    let at_params = at_front F.kinds 0 s.params further at in
    let at_body = at_back F.kinds 0 n s.params further (omega (arith, full)) at in
    let start : 0 + n ≡ n = omega arith in
    let st = subst (Named F sk l) start (named_params F f.params s.params 0 full at_params) in
    let blocks = length_coded (takes nf) 0 (cut lines) in
    let count = length_cut lines in
    let ended = closes_tail p f.body l n 0 in
    let known = params_known p f.params s.params own.params in
    let L : Lines F C takes nf f.params s.params n top lines = record {
      is = refl;
      blocks = refl;
      reads = refl;
      full = full;
      count = refl;
      kinds = λ i k e. (let zero_i : i ≡ 0 + i = omega arith in ap (slice_get F.kinds) zero_i ∙ at_params i k e);
      inside = tail_inside p f.body l n 0;
    } in
    record {
      marked = λ x less lent. param_marked F C takes nf f.params s.params n top lines L x (omega (arith, less, full)) lent;
      keeps = λ x less lent. lin.0 (param_some F C takes nf f.params s.params n top lines L x (omega (arith, less, full)) lent);
      lends = cut_lends C.program C.func lines
          (tail_lends F C (loans_of p sigs) (callees_lend takes t fit) f.body sk l (params_scope f.params marks) n 0 s.result st (params_flagged F C takes nf f.params s.params n top lines L)
          own.body lin.2 at_body (further_read F C takes nf f.params s.params n top top lines L));
      kinds = all_append (types_of p) s.params further known (tail_kinds_known F f.body sk s.result (params_scope_known (types_of p) f.params s.params known) own.body);
      result = stands_known p f.result s.result own.result;
      body = cut_fits C.program C.func 0 lines (tail_fits F C f.body sk l n 0 s.result st own.body ints at_body refl (omega (arith, blocks, count, ended)));
    }

functions_fit : (takes : BlockParams) (t : Typing) (fs : List Function) (ss : List Signature)
    → FunctionsFit t.source (globals_of t.source t.signatures) t.source.funs t.signatures → Computed
    → FunctionsFit t.source (globals_of t.source t.signatures) fs ss → FunctionsAreLinear (loans_of t.source t.signatures) (globals_of t.source t.signatures) fs ss
    → list_all (λ f. expression_has_ints f.body) fs ≡ true
    → AllByRecursion (FitsAsCode takes (normal_form t)) (normal_functions t.source t.signatures fs ss)
functions_fit takes t [] [] fit computed own lin ints = tt
functions_fit takes t [] (s ∷ ss) fit computed own lin ints = tt
functions_fit takes t (f ∷ fs) [] fit computed own lin ints = tt
functions_fit takes t (f ∷ fs) (s ∷ ss) fit computed own lin ints =
    let both = both_hold (expression_has_ints f.body) (list_all (λ f. expression_has_ints f.body) fs) ints in
    (function_fits takes t f s fit computed own.0 lin.0 both.0, functions_fit takes t fs ss fit computed own.1 lin.1 both.1)

pub program_fits : Computed → (takes : BlockParams) (t : Typing) → IsTyping t → KeepsRule t
    → AllByRecursion (FitsAsCode takes (normal_form t)) (normal_form t).functions
program_fits computed takes t typing rule = functions_fit takes t t.source.funs t.signatures typing.typed.functions computed typing.typed.functions rule typing.typed.literals
