use Rattle.std.proofs.Common.{◌≡◌, length, map, ap, ◌∙◌, rules}
use Rattle.grail_code.specs.Code.{code_of}
use Rattle.lp_system.specs.Forms.{cost_of}
use Rattle.lp_rows.specs.Plain.{plain}
use Rattle.lp_rows.specs.Walk.{funcs_rows}
use Rattle.lp_rows.proofs.Made.{system_is}
use Rattle.lp_rows.proofs.entry.system.Goals as goal

pub returns : goal.returns
returns c =
    let count : c.len.result ≡ length c.in_ok-list.list.items = search rules in
    system_is (code_of c.args.code.now) c.in_ok-list.list.items (record { unknowns = c.len.result; costs = c.in_ok-costs.costs; rows = c.in_ok-rows.rows }) c.limits.ensures.limits c.in_ok-list.ensures count
    (c.in_ok-costs.ensures ∙ ap (λ l. map cost_of (map plain l)) c.deref-2.ensures.value)
    (c.in_ok-rows.ensures ∙ ap (λ l. funcs_rows (code_of c.args.code.now) (map plain l) 0 (code_of c.args.code.now).funcs) c.deref.ensures.value)
