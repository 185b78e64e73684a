use Rattle.std.proofs.Common.{◌≡◌, map, ap, ◌∙◌, arith}
use Rattle.certificate.specs.Words.{block_of, make_of, func_of}
use Rattle.frame_accounts.specs.Tables.{lines_before, makes_before}
use Rattle.frame_accounts.proofs.TableLaws.{lines_grow, makes_grow, one_row}
use Rattle.frame_accounts.proofs.table.rows_of.Goals as goal

pub each-preserved : goal.each-preserved
each-preserved c =
    let line : c.lines_before-line.result ≡ lines_before (map block_of c.args.own.now.blocks.items) c.each.block =
    c.lines_before-line.ensures ∙ ap (λ l. lines_before (map block_of l) c.each.block) c.deref.ensures.value in
    let make : c.makes_before-make.result ≡ makes_before (map make_of c.args.own.now.makes.items) c.each.block =
    c.makes_before-make.ensures ∙ ap (λ l. makes_before (map make_of l) c.each.block) c.deref-in-each.ensures.value in
    record {
      line = omega (arith, line, lines_grow c.args.own.now.blocks.items c.each.block);
      make = omega (arith, make, makes_grow c.args.own.now.makes.items c.each.block);
      rows = one_row (func_of c.args.own.now) c.each.rows.items c.push.new.self.items c.in_ok-row.row c.each.block c.lines_before-line.result c.makes_before-make.result
          c.each.invariant.rows c.in_ok-push.ensures.items c.in_ok-row.ensures line make;
    }
