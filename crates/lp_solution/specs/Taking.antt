-- Private: words for functions of this crate.
-- A certificate from the values of the unknowns, taken one by one from the front: they come in the order of the
-- certificate's lines.
use Rattle.std.specs.Prelude.{ℕ, suc, ◌-◌, List, [], ◌∷◌, ◌++◌, length, Some, cond}
use Rattle.std.specs.List.{range_with_len}
use Rattle.std.specs.Option.{option_map}
use Rattle.camelot_values.specs.Kinds.{DataType, type_of}
use Rattle.camelot_values.specs.declared.kinds.Kind.TheVariants as kind
use Rattle.grail_blocks.specs.Events.{params_at}
use Rattle.grail_code.specs.Code.{Op, Prim, Make, Let, Block, Func, Code}
use Rattle.annotations.specs.Vectors.{Vector, is_heap_con}
use Rattle.certificate.specs.Certificates.{VarCert, BlockCert, MakeCert, FuncCert, Cert}
use Rattle.lp_system.specs.Unknowns.{carriers, local_carriers}
use Rattle.lp_system.specs.Found.{with_units, line_of, make_line}

-- the value in front, where there is one, and the others
abbrev pub value_of : List ℕ → ℕ
value_of [] = 0
value_of (v ∷ vs) = v

abbrev pub others_of : List ℕ → List ℕ
others_of [] = []
others_of (v ∷ vs) = vs

-- the units of these constructors
abbrev pub vector_from : List ℕ → List ℕ → Vector
vector_from [] vs = []
vector_from (c ∷ cs) vs = with_units c (value_of vs) ++ vector_from cs (others_of vs)

-- behind a value for each of these
abbrev pub behind : List ℕ → List ℕ → List ℕ
behind [] vs = vs
behind (c ∷ cs) vs = behind cs (others_of vs)

-- the lines of locals, of which those that are lent carry nothing
abbrev pub lines_from : List DataType → Func → List ℕ → List ℕ → List VarCert
lines_from types f [] vs = []
lines_from types f (x ∷ xs) vs = line_of x (vector_from (local_carriers types f x) vs) ++ lines_from types f xs (behind (local_carriers types f x) vs)

abbrev pub behind_lines : List DataType → Func → List ℕ → List ℕ → List ℕ
behind_lines types f [] vs = vs
behind_lines types f (x ∷ xs) vs = behind_lines types f xs (behind (local_carriers types f x) vs)

-- a block after the first
abbrev pub block_from : List DataType → Func → ℕ → List ℕ → BlockCert
block_from types f block vs = record { block = block; need = value_of vs; vars = lines_from types f (params_at f.blocks block) (others_of vs) }

abbrev pub behind_block : List DataType → Func → ℕ → List ℕ → List ℕ
behind_block types f block vs = behind_lines types f (params_at f.blocks block) (others_of vs)

-- blocks of these numbers
abbrev pub blocks_from : List DataType → Func → List ℕ → List ℕ → List BlockCert
blocks_from types f [] vs = []
blocks_from types f (b ∷ bs) vs = block_from types f b vs ∷ blocks_from types f bs (behind_block types f b vs)

abbrev pub behind_blocks : List DataType → Func → List ℕ → List ℕ → List ℕ
behind_blocks types f [] vs = vs
behind_blocks types f (b ∷ bs) vs = behind_blocks types f bs (behind_block types f b vs)

-- the constructors of a build that carry units
abbrev pub made_cons : List DataType → Op → List ℕ
made_cons types (Make con args at) = cond (is_heap_con types con) (carriers types (option_map kind.Of (type_of types con))) []
made_cons types op = []

-- builds among lets, the first of which is at this place
abbrev pub lets_from : List DataType → (block place : ℕ) → List Let → List ℕ → List MakeCert
lets_from types block place [] vs = []
lets_from types block place (l ∷ ls) vs = make_line block place (vector_from (made_cons types l.op) vs) ++ lets_from types block (suc place) ls (behind (made_cons types l.op) vs)

abbrev pub behind_lets : List DataType → List Let → List ℕ → List ℕ
behind_lets types [] vs = vs
behind_lets types (l ∷ ls) vs = behind_lets types ls (behind (made_cons types l.op) vs)

-- builds of blocks, the first of which has this number
abbrev pub builds_from : List DataType → (block : ℕ) → List Block → List ℕ → List MakeCert
builds_from types block [] vs = []
builds_from types block (b ∷ bs) vs = lets_from types block 1 b.lets vs ++ builds_from types (suc block) bs (behind_lets types b.lets vs)

abbrev pub behind_builds : List DataType → List Block → List ℕ → List ℕ
behind_builds types [] vs = vs
behind_builds types (b ∷ bs) vs = behind_builds types bs (behind_lets types b.lets vs)

-- ---- a function, in its parts

abbrev pub own_params : Func → List ℕ
own_params f = range_with_len 0 (length f.params)

abbrev pub own_blocks : Func → List ℕ
own_blocks f = range_with_len 1 (length f.blocks - 1)

abbrev pub at_params : List ℕ → List ℕ
at_params vs = others_of (others_of vs)

abbrev pub at_result : List DataType → Func → List ℕ → List ℕ
at_result types f vs = behind_lines types f (own_params f) (at_params vs)

abbrev pub at_blocks : List DataType → Func → List ℕ → List ℕ
at_blocks types f vs = behind (carriers types (Some f.result)) (at_result types f vs)

abbrev pub at_builds : List DataType → Func → List ℕ → List ℕ
at_builds types f vs = behind_blocks types f (own_blocks f) (at_blocks types f vs)

abbrev pub func_from : List DataType → Func → List ℕ → FuncCert
func_from types f vs = record {
  name = f.name;
  need = value_of vs;
  back = value_of (others_of vs);
  params = lines_from types f (own_params f) (at_params vs);
  result = vector_from (carriers types (Some f.result)) (at_result types f vs);
  blocks = blocks_from types f (own_blocks f) (at_blocks types f vs);
  makes = builds_from types 0 f.blocks (at_builds types f vs);
}

abbrev pub behind_func : List DataType → Func → List ℕ → List ℕ
behind_func types f vs = behind_builds types f.blocks (at_builds types f vs)

abbrev pub funcs_from : List DataType → List Func → List ℕ → List FuncCert
funcs_from types [] vs = []
funcs_from types (f ∷ fs) vs = func_from types f vs ∷ funcs_from types fs (behind_func types f vs)

abbrev pub certificate_from : Code → ℕ → List ℕ → Cert
certificate_from p unit vs = record { unit = unit; funcs = funcs_from p.types p.funcs vs }
