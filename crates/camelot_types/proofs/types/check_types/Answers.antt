use Rattle.std.proofs.Common.{rules, ◌≡◌, ◌<◌, map, length, get_or, take, arith}
use Rattle.camelot_tree.specs.Tree.{data_type_of}
use Rattle.camelot_tree.specs.Programs.{program_of}
use Rattle.camelot_types.specs.Solving.{Goes}
use Rattle.camelot_types.specs.Declaring.{type_checked}
use Rattle.camelot_types.proofs.Passing.{types_more, con_names_more}
use Rattle.camelot_types.proofs.types.check_types.Goals as goal

pub types-preserved : goal.types-preserved
types-preserved c =
    let here : c.types.index < length c.args.program.now.types.items = omega arith in
    let item : c.decl-item.result ≡ get_or c.args.program.now.types.items c.types.index c.decl-item.result = search rules in
    let behind : type_checked (program_of c.args.program.now) (map (λ t. t.name.word) (map data_type_of (take c.types.index c.args.program.now.types.items))) c.types.names (data_type_of c.decl-item.result) ≡ Goes tt = search rules in
    record {
      checked = types_more (program_of c.args.program.now) c.args.program.now.types.items c.types.index c.decl-item.result c.types.names c.check_type.new.names _ here item behind c.in_ok-check_type.ensures.names c.types.invariant.checked;
      names = con_names_more c.args.program.now.types.items c.types.index c.decl-item.result c.types.names c.check_type.new.names _ here item c.in_ok-check_type.ensures.names c.types.invariant.names;
    }
