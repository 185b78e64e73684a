-- The functions of a normal form use their locals fairly.
use Rattle.std.proofs.Common.{◌≡◌, ℕ, ◌+◌, ◌≤◌, ◌<◌, Bool, true, false, List, [], ◌∷◌, ◌++◌, length, Some, refl, sym, ap, ◌∙◌, subst, arith, append-nil}
use Rattle.std.specs.Prelude.{nat_lt, slice_get, ◌&&◌, ◌||◌, not}
use Rattle.std.specs.List.{AllByRecursion}
use Rattle.std.specs.Option.{option_map_or}
use Rattle.camelot_values.specs.Lists.{is_among}
use Rattle.std.proofs.lemmas.Bool.Decides.{nat_tests}
use Rattle.camelot_tree.specs.Tree.{Function}
use Rattle.camelot_typing.specs.Kinds.{types_of, numbered}
use Rattle.camelot_typing.specs.Typing.{Signature, params_scope, globals_of, FunctionFits, FunctionsFit}
use Rattle.camelot_typing.specs.TypingLaws.{params_full}
use Rattle.camelot_typing.specs.Typed.{Typing, IsTyping}
use Rattle.linear_use.specs.Uses.{lent_params, loans_of, FunctionIsLinear, FunctionsAreLinear}
use Rattle.linear_use.specs.Answers.{KeepsRule}
use Rattle.normal_form.specs.Normal.{NormalBlock, NormalFunction, cut, tail, tail_kinds, normal_function, normal_functions, normal_form}
use Rattle.normal_form.specs.Live.{bit, live_from}
use Rattle.normal_form.specs.Facts.{is_heap_in, looked_in, is_read_in, is_owned_in, reads_in, UsesFairly}
use Rattle.normal_form.proofs.Lines.{ends_is_closed}
use Rattle.normal_form.proofs.Ends.{tail_closed}
use Rattle.normal_form.proofs.UsedNames.{seen, seen_most, fair_taken}
use Rattle.normal_form.proofs.KindsAt.{at_front, at_back, Named}
use Rattle.normal_form.proofs.Frames.{Computed, frame, whole_at, named_params}
use Rattle.normal_form.proofs.NamedUses.{named, above_seen}
use Rattle.normal_form.proofs.LiveLines.{live_here, first_live, cut_live, cut_once, or_second, Looks}
use Rattle.normal_form.proofs.LiveParts.{Ruled, Lives}
use Rattle.normal_form.proofs.LiveTails.{tail_lives, params_fair}
use Rattle.normal_form.proofs.Loans.{loans_are}
use Rattle.normal_form.proofs.FactsLend.{cut_looks}

first_block : (bs : List NormalBlock) (x : ℕ) → live_from 0 bs 0 x ≡ first_live 0 bs x
first_block [] x = refl
first_block (b ∷ bs) x = refl

bound_below : (b : Bool) (u n x : ℕ) → b ≡ true → bit b ≤ u → (n ≤ x → u ≡ 0) → x < n
bound_below false u n x e most none = absurd cc
bound_below true u n x e most none = by_order (nat_lt x n) refl
  where
    by_order : (t : Bool) → nat_lt x n ≡ t → x < n
    by_order true t = grind (arith, nat_tests, t)
    by_order false t = let more : n ≤ x = grind (arith, nat_tests, t) in let k = none more in absurd (omega (arith, k, most))

-- ---- what is owned

pub both_true : (a b : Bool) → (a && b) ≡ true → (a ≡ true) × (b ≡ true)
both_true true b h = (refl, h)
both_true false b h = absurd cc

neither : (a b : Bool) → not (a || b) ≡ true → a ≡ false
neither true b h = absurd cc
neither false b h = refl

not_owned : (a b c : Bool) → c ≡ true → (a && not (b || c)) ≡ false
not_owned true b c h = ap not (or_second b c h)
not_owned false b c h = refl

mark_is : (f : NormalFunction) (heap mark : Bool) (x : ℕ) → slice_get f.reads x ≡ Some mark → (heap && not (is_read_in f x)) ≡ true → mark ≡ false
mark_is f heap mark x is own =
    neither mark (is_among (looked_in f) x)
    (ap (λ o. not (option_map_or (λ mark. mark) o false || is_among (looked_in f) x)) (sym is) ∙ (both_true heap (not (is_read_in f x)) own).1)

-- a function of a program, with its owned locals and the loans of the program
abbrev pub ruled : (t : Typing) (f : Function) (s : Signature) (fit : FunctionsFit t.source (globals_of t.source t.signatures) t.source.funs t.signatures) (computed : Computed)
    → Ruled (frame t.source t.signatures f s fit computed)
ruled t f s fit computed = record {
  loans = loans_of t.source t.signatures;
  own = record { reads = reads_in (normal_form t); owned = is_owned_in (types_of t.source) (normal_function t.source t.signatures f s) };
  heap = λ y own. (both_true (is_heap_in (types_of t.source) (normal_function t.source t.signatures f s) y) (not (is_read_in (normal_function t.source t.signatures f s) y)) own).0;
  marks = λ callee h e. loans_are t callee h fit e;
}

pub function_fairly : (t : Typing) (f : Function) (s : Signature) → FunctionsFit t.source (globals_of t.source t.signatures) t.source.funs t.signatures → Computed
    → FunctionFits t.source (globals_of t.source t.signatures) f s → FunctionIsLinear (loans_of t.source t.signatures) (globals_of t.source t.signatures) f s
    → UsesFairly (normal_form t) (normal_function t.source t.signatures f s)
function_fairly t f s fit computed own lin =
    let p = t.source in
    let sigs = t.signatures in
    let F = frame p sigs f s fit computed in
    let R = ruled t f s fit computed in
    let nf = normal_function p sigs f s in
    let n = length f.params in
    let l = params_scope f.params (numbered 0 f.params) in
    let sk = params_scope f.params s.params in
    let flags = params_scope f.params (lent_params (types_of p) f.params s.params) in
    let further = tail_kinds p sigs sk f.body in
    let lines = tail p f.body l n 0 in
    let full = params_full p f.params s.params own.params in
    let at = whole_at (s.params ++ further) in
    let at_params = at_front F.kinds 0 s.params further at in
    let start : 0 + n ≡ n = omega arith in
    let st = subst (Named F sk l) start (named_params F f.params s.params 0 full at_params) in
    let looks : Looks R.own lines = λ x e. not_owned (is_heap_in (types_of p) nf x) (option_map_or (λ mark. mark) (slice_get nf.reads x) false) (is_among (looked_in nf) x) (cut_looks lines x ∙ e) in
    let lives = tail_lives F R f.body sk flags l n 0 s.result [] st own.body (λ o. lin.2) (at_back F.kinds 0 n s.params further (omega (arith, full)) at) looks
    (λ y o. (let k = params_fair F R f.params s.params 0 f.body y full at_params lin.1
    (λ i mark is same. mark_is nf (is_heap_in (types_of p) nf y) mark y (let at_i : y ≡ i = omega (arith, same) in ap (slice_get nf.reads) at_i ∙ is) o) o in
    let few = fair_taken R.loans (named l y) f.body k in
    let most = seen_most R.loans (named l y) f.body in
    (k, omega (arith, few, most)))) tt in
    let plain = subst (λ ls. Lives R.own 0 ls (λ y. seen R.loans (named l y) f.body)) (append-nil lines) lives in
    let closed = ends_is_closed lines (tail_closed p f.body l n 0) in
    record {
      bound = λ x h. bound_below (live_here 0 lines x) (seen R.loans (named l x) f.body) (length s.params) x (sym (cut_live 0 lines closed x) ∙ sym (first_block (cut lines) x) ∙ h) (plain.live x) (λ more. above_seen F R.loans sk l n x f.body st (omega (arith, more, full)));
      once = cut_once R.own 0 lines closed plain.once;
    }

functions_fairly : (t : Typing) (fs : List Function) (ss : List Signature) → FunctionsFit t.source (globals_of t.source t.signatures) t.source.funs t.signatures
    → Computed → FunctionsFit t.source (globals_of t.source t.signatures) fs ss
    → FunctionsAreLinear (loans_of t.source t.signatures) (globals_of t.source t.signatures) fs ss → AllByRecursion (UsesFairly (normal_form t)) (normal_functions t.source t.signatures fs ss)
functions_fairly t [] [] fit computed own lin = tt
functions_fairly t [] (s ∷ ss) fit computed own lin = tt
functions_fairly t (f ∷ fs) [] fit computed own lin = tt
functions_fairly t (f ∷ fs) (s ∷ ss) fit computed own lin = (function_fairly t f s fit computed own.0 lin.0, functions_fairly t fs ss fit computed own.1 lin.1)

pub program_fairly : Computed → (t : Typing) → IsTyping t → KeepsRule t → AllByRecursion (UsesFairly (normal_form t)) (normal_form t).functions
program_fairly computed t typing rule = functions_fairly t t.source.funs t.signatures typing.typed.functions computed typing.typed.functions rule
