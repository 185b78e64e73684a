-- Cited by contracts.
-- What is unknown of code before its certificate is found: each number that a fitting certificate may say of it, in the
-- order of a certificate's lines (Hofmann and Jost 2003). The unit isn't among them: amounts are counted in cells, and
-- may be fractions. What is lent carries nothing, so that nothing is unknown of it.
use Rattle.std.specs.Prelude.{◌≡◌, ℕ, suc, ◌-◌, Bool, false, List, [], ◌∷◌, ◌++◌, map, flat_map, length, Option, Some, cond}
use Rattle.std.specs.List.{range_with_len, list_any}
use Rattle.std.specs.Option.{option_map, option_map_or}
use Rattle.std.specs.Str.{bytes_eq}
use Rattle.camelot_values.specs.Kinds.{DataType, type_of}
use Rattle.camelot_values.specs.Heap.{reached}
use Rattle.camelot_values.specs.declared.kinds.Kind.{Kind}
use Rattle.camelot_values.specs.declared.kinds.Kind.TheVariants as kind
use Rattle.grail_blocks.specs.Events.{params_at}
use Rattle.grail_code.specs.Code.{Op, Prim, Make, Let, Block, Func, Code}
use Rattle.grail_code.specs.WellFormed.{kind_of, is_lent}
use Rattle.annotations.specs.Vectors.{is_heap_con}

-- functions, blocks, locals, places of lets and constructors by their numbers
pub data Unknown : Type 0 where
  -- what a function needs besides what its arguments carry, and gives back besides what its result carries
  Need : (func : ℕ) → Unknown
  Back : (func : ℕ) → Unknown
  -- the units of a constructor, in a parameter and in a result
  Param : (func param con : ℕ) → Unknown
  Result : (func con : ℕ) → Unknown
  -- what a block after the first needs besides what its parameters carry, and the units of a constructor in one of
  -- these
  BlockNeed : (func block : ℕ) → Unknown
  BlockVar : (func block var con : ℕ) → Unknown
  -- the units of a constructor in what the build at a place makes
  Made : (func block place con : ℕ) → Unknown

-- which sort an unknown is of, and its numbers, by which two are told apart
abbrev pub numbers_of : Unknown → List ℕ
numbers_of (Need f) = 0 ∷ f ∷ []
numbers_of (Back f) = 1 ∷ f ∷ []
numbers_of (Param f x c) = 2 ∷ f ∷ x ∷ c ∷ []
numbers_of (Result f c) = 3 ∷ f ∷ c ∷ []
numbers_of (BlockNeed f b) = 4 ∷ f ∷ b ∷ []
numbers_of (BlockVar f b x c) = 5 ∷ f ∷ b ∷ x ∷ c ∷ []
numbers_of (Made f b n c) = 6 ∷ f ∷ b ∷ n ∷ c ∷ []

abbrev pub same : Unknown → Unknown → Bool
same u v = bytes_eq (numbers_of u) (numbers_of v)

abbrev pub is_listed : List Unknown → Unknown → Bool
is_listed us u = list_any (same u) us

-- no unknown stands twice
abbrev pub NoRepeats : List Unknown → Type 0
NoRepeats [] = Unit {0}
NoRepeats (u ∷ us) = (is_listed us u ≡ false) × NoRepeats us

-- ---- in order

-- the constructors that values of the kind carry units on, ascending
abbrev pub carriers : List DataType → Option Kind → List ℕ
carriers types q = option_map_or (reached types) q []

-- the same of a local's value: on none where the local is lent
unfoldable pub local_carriers : List DataType → Func → ℕ → List ℕ
local_carriers types f x = cond (is_lent types f x) [] (carriers types (kind_of f x))

-- of parameters that aren't lent: one for each constructor that the parameter's kind reaches
abbrev pub params_unknowns : List DataType → Func → ℕ → List ℕ → List Unknown
params_unknowns types f func xs = flat_map (λ x. map (Param func x) (local_carriers types f x)) xs

abbrev pub vars_unknowns : List DataType → Func → (func block : ℕ) → List ℕ → List Unknown
vars_unknowns types f func block xs = flat_map (λ x. map (BlockVar func block x) (local_carriers types f x)) xs

-- of a block after the first: its need, and its parameters that aren't lent
abbrev pub block_unknowns : List DataType → Func → (func block : ℕ) → List Unknown
block_unknowns types f func block = BlockNeed func block ∷ vars_unknowns types f func block (params_at f.blocks block)

abbrev pub blocks_unknowns : List DataType → Func → ℕ → List Unknown
blocks_unknowns types f func = flat_map (block_unknowns types f func) (range_with_len 1 (length f.blocks - 1))

-- of a build of a constructor of a heap type: one for each constructor that this type reaches
abbrev pub made_unknowns : List DataType → (func block place : ℕ) → Op → List Unknown
made_unknowns types func block place (Make con args at) = cond (is_heap_con types con) (map (Made func block place) (carriers types (option_map kind.Of (type_of types con)))) []
made_unknowns types func block place op = []

-- the builds among lets, the first of which is at this place; places count from 1
abbrev pub lets_unknowns : List DataType → (func block place : ℕ) → List Let → List Unknown
lets_unknowns types func block place [] = []
lets_unknowns types func block place (l ∷ ls) = made_unknowns types func block place l.op ++ lets_unknowns types func block (suc place) ls

-- the builds of blocks, the first of which has this number
abbrev pub builds_unknowns : List DataType → (func block : ℕ) → List Block → List Unknown
builds_unknowns types func block [] = []
builds_unknowns types func block (b ∷ bs) = lets_unknowns types func block 1 b.lets ++ builds_unknowns types func (suc block) bs

-- of a function: its need, what it gives back, its parameters, its result, its blocks, and its builds
abbrev pub func_unknowns : List DataType → ℕ → Func → List Unknown
func_unknowns types func f = Need func ∷ Back func
    ∷ (params_unknowns types f func (range_with_len 0 (length f.params))
    ++ (map (Result func) (carriers types (Some f.result))
    ++ (blocks_unknowns types f func ++ builds_unknowns types func 0 f.blocks)))

-- the functions from this number on
abbrev pub funcs_unknowns : List DataType → ℕ → List Func → List Unknown
funcs_unknowns types func [] = []
funcs_unknowns types func (f ∷ fs) = func_unknowns types func f ++ funcs_unknowns types (suc func) fs

unfoldable pub unknowns_of : Code → List Unknown
unknowns_of p = funcs_unknowns p.types 0 p.funcs
