-- Private: words for functions of this crate.
-- The walk to a place, by the lines of the function: what is left, and what each local carries as a vector. Lines of
-- builds are taken from the front of what is left of them.
use Rattle.std.specs.Prelude.{◌≡◌, ℕ, suc, ◌-◌, ◌+◌, ◌≤◌, nat_lt, ◌==◌, ◌&&◌, ◌||◌, if◌then◌else◌, cond, List, [], ◌∷◌, map, Option, Some, None}
use Rattle.std.specs.List.{range_with_len}
use Rattle.std.specs.Option.{option_map_or}
use Rattle.camelot_values.specs.Kinds.{DataType}
use Rattle.grail_code.specs.Code.{Op, Lit, Flag, Copy, Prim, Make, Call, Let}
use Rattle.annotations.specs.Vectors.{Vector, at, is_heap_con}
use Rattle.certificate.specs.Certificates.{VarCert, MakeCert, FuncCert, Cert, MakesAscend}
use Rattle.licence.specs.Books.{vector_of, block_of, make_of, said}
use Rattle.licence.specs.Rules.{naturals, build_cost}
use Rattle.frame_accounts.specs.declared.vectors.Source.{Source as DeclaredSource}
use Rattle.frame_accounts.specs.declared.vectors.Source.TheVariants as source

-- ---- what locals carry

-- the vector of each local
abbrev pub Vectors : Type 0
Vectors = ℕ → Vector

-- those of so many locals, in order
unfoldable pub listed : ℕ → Vectors → List Vector
listed count vectors = map vectors (range_with_len 0 count)

abbrev pub putting : Vectors → ℕ → Vector → Vectors
putting vectors x vector = λ y. if x == y then vector else vectors y

-- ---- where a block begins

-- what it needs; the first block needs what the function does
abbrev pub first_need : FuncCert → (block : ℕ) → ℕ
first_need own block = if block == 0 then own.need else option_map_or (λ b. b.need) (block_of own.blocks block) 0

-- the lines of its parameters
abbrev pub first_vars : FuncCert → (block : ℕ) → List VarCert
first_vars own block = if block == 0 then own.params else option_map_or (λ b. b.vars) (block_of own.blocks block) []

-- ---- behind lets

-- what a function's result carries
abbrev pub result_of : Cert → (func : ℕ) → Vector
result_of c func = said c func (λ f. f.result) []

-- what is left behind a let whose build carries this
abbrev pub left_after : List DataType → Cert → (made : Vector) → (left : ℕ) → Op → ℕ
left_after types c made left (Make con args into) = cond (is_heap_con types con) (left - build_cost naturals c.unit into (at made con)) left
left_after types c made left (Call callee args) = (left - said c callee (λ f. f.need) 0) + said c callee (λ f. f.back) 0
left_after types c made left (Lit z) = left
left_after types c made left (Flag b) = left
left_after types c made left (Copy x) = left
left_after types c made left (Prim op x y) = left

-- where what its value carries comes from: another local, or a line
pub data Source : Type 0 where
  Local : ℕ → Source
  Told : Vector → Source

abbrev pub source_of : DeclaredSource → Source
source_of (source.Local x) = Local x
source_of (source.Told o) = Told (option_map_or (λ v. v.now) o [])

-- nothing is told of ints, truth values and values of types that need no cell
abbrev pub source_in : List DataType → Cert → (made : Vector) → Op → Option Source
source_in types c made (Copy y) = Some (Local y)
source_in types c made (Make con args into) = cond (is_heap_con types con) (Some (Told made)) None
source_in types c made (Call callee args) = Some (Told (result_of c callee))
source_in types c made (Lit z) = None
source_in types c made (Flag b) = None
source_in types c made (Prim op y z) = None

abbrev pub carried_from : Vectors → Source → Vector
carried_from vectors (Local y) = vectors y
carried_from vectors (Told vector) = vector

abbrev pub putting_from : Vectors → ℕ → Option Source → Vectors
putting_from vectors x None = vectors
putting_from vectors x (Some s) = putting vectors x (carried_from vectors s)

-- what locals carry behind it
abbrev pub vectors_after : List DataType → Cert → (made : Vector) → Vectors → (target : ℕ) → Op → Vectors
vectors_after types c made vectors x op = putting_from vectors x (source_in types c made op)

-- behind lets, the first of which is at this place
abbrev pub left_behind : List DataType → Cert → FuncCert → (block place : ℕ) → (left : ℕ) → List Let → ℕ
left_behind types c own block place left [] = left
left_behind types c own block place left (l ∷ ls) =
    left_behind types c own block (suc place) (left_after types c (make_of own.makes block place) left l.op) ls

abbrev pub vectors_behind : List DataType → Cert → FuncCert → (block place : ℕ) → Vectors → List Let → Vectors
vectors_behind types c own block place vectors [] = vectors
vectors_behind types c own block place vectors (l ∷ ls) =
    vectors_behind types c own block (suc place) (vectors_after types c (make_of own.makes block place) vectors l.target l.op) ls

-- the same from the beginning of a block
unfoldable pub left_at : List DataType → Cert → FuncCert → (block : ℕ) → List Let → ℕ
left_at types c own block ls = left_behind types c own block 1 (first_need own block) ls

unfoldable pub vectors_at : List DataType → Cert → FuncCert → (block : ℕ) → List Let → Vectors
vectors_at types c own block ls = vectors_behind types c own block 1 (vector_of (first_vars own block)) ls

-- ---- lines of builds

-- what is left of the builds' lines from this place on
abbrev pub makes_from : (block place : ℕ) → List MakeCert → List MakeCert
makes_from block place [] = []
makes_from block place (m ∷ ms) = if nat_lt m.block block || ((m.block == block) && nat_lt m.place place) then makes_from block place ms else m ∷ ms

-- the line of this place, where it stands in front
abbrev pub in_front : (block place : ℕ) → List MakeCert → Vector
in_front block place [] = []
in_front block place (m ∷ ms) = if (m.block == block) && (m.place == place) then m.vector else []

-- from this place on, these lines say what all of the function's do
pub record AreLeft (own : FuncCert) (block place : ℕ) (makes : List MakeCert) : Type 0 where
  pub ascending : MakesAscend makes
  pub same : (further : ℕ) → place ≤ further → make_of makes block further ≡ make_of own.makes block further
