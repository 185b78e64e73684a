-- Cited by contracts.
-- The plain data of the code's types.
use Rattle.std.specs.Prelude.{ℕ, List, map}
use Rattle.certificate.specs.Certificates.{VarCert, BlockCert, MakeCert, FuncCert, Cert}
use Rattle.certificate.specs.declared.types.VarCert.{VarCert as DeclaredVar}
use Rattle.certificate.specs.declared.types.BlockCert.{BlockCert as DeclaredBlock}
use Rattle.certificate.specs.declared.types.MakeCert.{MakeCert as DeclaredMake}
use Rattle.certificate.specs.declared.types.FuncCert.{FuncCert as DeclaredFunc}

abbrev pub var_of : DeclaredVar → VarCert
var_of v = record { var = v.var; vector = v.vector }

abbrev pub block_of : DeclaredBlock → BlockCert
block_of b = record { block = b.block; need = b.need; vars = map var_of b.vars.items }

abbrev pub make_of : DeclaredMake → MakeCert
make_of m = record { block = m.block; place = m.place; vector = m.vector }

abbrev pub func_of : DeclaredFunc → FuncCert
func_of f = record {
  name = f.name;
  need = f.need;
  back = f.back;
  params = map var_of f.params.items;
  result = f.result;
  blocks = map block_of f.blocks.items;
  makes = map make_of f.makes.items;
}

abbrev pub cert_of : ℕ → List DeclaredFunc → Cert
cert_of unit funcs = record { unit = unit; funcs = map func_of funcs }
