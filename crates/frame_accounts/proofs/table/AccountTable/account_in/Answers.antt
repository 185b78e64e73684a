use Rattle.std.proofs.Common.{[], length, map, sym, ap, ◌∙◌}
use Rattle.std.specs.Option.{option_map, option_map_or}
use Rattle.grail_code.specs.Code.{block_of, let_of}
use Rattle.certificate.specs.Certificates.{FuncIsFormed, FuncIsWithin}
use Rattle.certificate.specs.Words.{func_of}
use Rattle.frame_accounts.specs.Tables.{row_of, rows_of}
use Rattle.frame_accounts.proofs.PlaceLaws.{all_at, place_left, place_carried, row_told, no_row, no_rows, no_own}
use Rattle.frame_accounts.proofs.table.AccountTable.account_in.Goals as goal

pub account_behind-requires-clause-formed : goal.account_behind-requires-clause-formed
account_behind-requires-clause-formed c = all_at FuncIsFormed c.args.licence.now.cert.funcs c.args.func (func_of c.in-Some.own.now) c.kept.ensures.form.formed.funcs
    (sym c.own_at.ensures ∙ ap (option_map (λ f. func_of f.now)) c.in-Some.is)

pub account_behind-requires-clause-within : goal.account_behind-requires-clause-within
account_behind-requires-clause-within c = all_at FuncIsWithin c.args.licence.now.cert.funcs c.args.func (func_of c.in-Some.own.now) c.kept.ensures.form.within.funcs
    (sym c.own_at.ensures ∙ ap (option_map (λ f. func_of f.now)) c.in-Some.is)

pub account_behind-requires-clause-row : goal.account_behind-requires-clause-row
account_behind-requires-clause-row c =
    row_told c.args.licence.now c.args.self.now c.args.func c.args.block (func_of c.in-Some.own.now) (block_of c.args.at.now) (rows_of c.in-Some-rows_at.rows.now) (row_of c.in-Some-row_in.row.now) c.requires.table c.requires.there
    (sym c.own_at.ensures ∙ ap (option_map (λ f. func_of f.now)) c.in-Some.is)
    (sym c.rows_at.ensures ∙ ap (option_map (λ r. rows_of r.now)) c.in-Some-rows_at.is)
    (sym c.row_in.ensures ∙ ap (option_map (λ r. row_of r.now)) c.in-Some-row_in.is)

pub returns-in-Some-row_in-clause-left : goal.returns-in-Some-row_in-clause-left
returns-in-Some-row_in-clause-left c =
    place_left c.args.licence.now c.args.func c.args.block c.args.place (func_of c.in-Some.own.now) (block_of c.args.at.now) (map let_of c.lets_before.result.now) c.account_behind.result
    (sym c.own_at.ensures ∙ ap (option_map (λ f. func_of f.now)) c.in-Some.is) c.lets_before.ensures c.account_behind.ensures.left

pub returns-in-Some-row_in-clause-carried : goal.returns-in-Some-row_in-clause-carried
returns-in-Some-row_in-clause-carried c =
    place_carried c.args.licence.now c.args.func c.args.block c.args.place (func_of c.in-Some.own.now) (block_of c.args.at.now) (map let_of c.lets_before.result.now) (length c.args.vectors.now)
    (map (λ o. option_map_or (λ v. v.now) o []) c.account_behind.new.vectors)
    (sym c.own_at.ensures ∙ ap (option_map (λ f. func_of f.now)) c.in-Some.is) c.lets_before.ensures c.account_behind.ensures.told

pub returns-in-None-row_in-clause-left : goal.returns-in-None-row_in-clause-left
returns-in-None-row_in-clause-left c = absurd
    (no_row c.args.licence.now c.args.self.now c.args.func c.args.block (func_of c.in-Some.own.now) (block_of c.args.at.now) (rows_of c.in-Some-rows_at.rows.now) c.requires.table c.requires.there
    (sym c.own_at.ensures ∙ ap (option_map (λ f. func_of f.now)) c.in-Some.is)
    (sym c.rows_at.ensures ∙ ap (option_map (λ r. rows_of r.now)) c.in-Some-rows_at.is)
    (sym c.row_in.ensures ∙ ap (option_map (λ r. row_of r.now)) c.in-None-row_in.is))

pub returns-in-None-row_in-clause-carried : goal.returns-in-None-row_in-clause-carried
returns-in-None-row_in-clause-carried c = absurd
    (no_row c.args.licence.now c.args.self.now c.args.func c.args.block (func_of c.in-Some.own.now) (block_of c.args.at.now) (rows_of c.in-Some-rows_at.rows.now) c.requires.table c.requires.there
    (sym c.own_at.ensures ∙ ap (option_map (λ f. func_of f.now)) c.in-Some.is)
    (sym c.rows_at.ensures ∙ ap (option_map (λ r. rows_of r.now)) c.in-Some-rows_at.is)
    (sym c.row_in.ensures ∙ ap (option_map (λ r. row_of r.now)) c.in-None-row_in.is))

pub returns-in-None-rows_at-clause-left : goal.returns-in-None-rows_at-clause-left
returns-in-None-rows_at-clause-left c = absurd
    (no_rows c.args.licence.now c.args.self.now c.args.func c.args.block (func_of c.in-Some.own.now) (block_of c.args.at.now) c.requires.table c.requires.there
    (sym c.own_at.ensures ∙ ap (option_map (λ f. func_of f.now)) c.in-Some.is)
    (sym c.rows_at.ensures ∙ ap (option_map (λ r. rows_of r.now)) c.in-None-rows_at.is))

pub returns-in-None-rows_at-clause-carried : goal.returns-in-None-rows_at-clause-carried
returns-in-None-rows_at-clause-carried c = absurd
    (no_rows c.args.licence.now c.args.self.now c.args.func c.args.block (func_of c.in-Some.own.now) (block_of c.args.at.now) c.requires.table c.requires.there
    (sym c.own_at.ensures ∙ ap (option_map (λ f. func_of f.now)) c.in-Some.is)
    (sym c.rows_at.ensures ∙ ap (option_map (λ r. rows_of r.now)) c.in-None-rows_at.is))

pub returns-in-None-clause-left : goal.returns-in-None-clause-left
returns-in-None-clause-left c = absurd
    (no_own c.args.licence.now c.args.func c.args.block (block_of c.args.at.now) c.kept.ensures.grants.fits c.requires.there (sym c.own_at.ensures ∙ ap (option_map (λ f. func_of f.now)) c.in-None.is))

pub returns-in-None-clause-carried : goal.returns-in-None-clause-carried
returns-in-None-clause-carried c = absurd
    (no_own c.args.licence.now c.args.func c.args.block (block_of c.args.at.now) c.kept.ensures.grants.fits c.requires.there (sym c.own_at.ensures ∙ ap (option_map (λ f. func_of f.now)) c.in-None.is))
