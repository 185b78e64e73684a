use Rattle.std.proofs.Common.{◌≡◌, None, Some, subst}
use Rattle.grail_code.specs.Code.{code_of}
use Rattle.grail_verifier.specs.Finding.{short_of}
use Rattle.grail_verifier.specs.Numbered.{held}
use Rattle.grail_verifier.specs.Walk.{funcs_short}
use Rattle.grail_verifier.proofs.Judging.{all_found, one_found}
use Rattle.grail_verifier.proofs.judgement.walk_all.Goals as goal

pub returns-in-Ok : goal.returns-in-Ok
returns-in-Ok c = all_found (code_of c.args.code.now) c.args.cert.now c.requires.well c.requires.fits c.limits.ensures.limits c.limits-2.ensures (held c.args.lines.now.held 0) c.requires.none
    (subst (λ x. funcs_short (code_of c.args.code.now) x (held c.args.lines.now.held 0) 0 (code_of c.args.code.now).funcs ≡ None) c.requires.lines c.in-Ok.ensures.found)

pub returns : goal.returns
returns c = one_found (code_of c.args.code.now) c.args.cert.now c.requires.well c.requires.fits c.limits.ensures.limits c.limits-2.ensures (held c.args.lines.now.held 0) (short_of c.in-Err.short) c.refusal_of.result c.requires.none
    (subst (λ x. funcs_short (code_of c.args.code.now) x (held c.args.lines.now.held 0) 0 (code_of c.args.code.now).funcs ≡ Some (short_of c.in-Err.short)) c.requires.lines c.in-Err.ensures.found) c.refusal_of.ensures
