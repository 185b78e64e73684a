use Rattle.std.proofs.Common.{ap, ◌∙◌, sym, arith, get_or}
use Rattle.std.specs.Prelude.{vec_len}
use Rattle.camelot_values.specs.declared.kinds.TypeDef.{TypeDef}
use Rattle.cell_machine.proofs.HomeLaws.{home_index, found_in}
use Rattle.cell_machine.proofs.homes.Homes.con.Goals as goal

pub index-home-requires : goal.index-home-requires
index-home-requires c = omega (arith, home_index c.args.self.now c.args.types.now c.args.con c.requires.homes c.requires.there, c.args.self.now.homes.ok.0)

pub bounds-defs-home : goal.bounds-defs-home
bounds-defs-home c = (found_in c.args.self.now c.args.types.now c.defs.result.now c.args.con c.index-home.result.now c.requires.homes c.defs.ensures c.requires.there c.index-home.ensures).number

pub index-requires : goal.index-requires
index-requires c =
    let f = found_in c.args.self.now c.args.types.now c.defs.result.now c.args.con c.index-home.result.now c.requires.homes c.defs.ensures c.requires.there c.index-home.ensures in
    omega (arith, f.place c.index-defs-home.result c.index-defs-home.is, c.index-defs-home.result.cons.ok.0, ap (λ (d : TypeDef). vec_len d.cons) c.index-defs-home.is)

pub returns : goal.returns
returns c =
    let f = found_in c.args.self.now c.args.types.now c.defs.result.now c.args.con c.index-home.result.now c.requires.homes c.defs.ensures c.requires.there c.index-home.ensures in
    f.con_is c.index-defs-home.result c.index.result.now c.index-defs-home.is (c.index.ensures ∙ ap (λ (d : TypeDef). get_or d.cons.items c.index-home.result.now.place c.index.result.now) (sym c.index-defs-home.is))
