-- Cited by contracts.
-- What is known of the normal form of a typed program that keeps the rule of use.
use Rattle.std.specs.Prelude.{◌≡◌, ℕ, suc, ◌<◌, ◌≤◌, ◌||◌, ◌&&◌, not, Bool, true, false, List, [], ◌∷◌, ◌++◌, length, map, flat_map, slice_get}
use Rattle.std.specs.List.{AllByRecursion}
use Rattle.std.specs.Option.{option_map_or}
use Rattle.camelot_values.specs.Kinds.{DataType, constructors}
use Rattle.camelot_values.specs.Names.{AreDistinct}
use Rattle.camelot_values.specs.Heap.{is_heap}
use Rattle.camelot_values.specs.Lists.{is_among}
use Rattle.grail_blocks.specs.Events.{Reads}
use Rattle.grail_code.specs.Code.{Func, Code}
use Rattle.grail_code.specs.WellFormed.{IsKnownKind, LetFits, TermFits, LetLends, TermLends, is_lent, is_marked, looked_at}
use Rattle.camelot_tree.specs.Tree.{Function, Source}
use Rattle.normal_form.specs.Normal.{NormalBlock, NormalFunction, NormalProgram, tail_made, tail_ends}
use Rattle.normal_form.specs.Coded.{BlockParams, coded, code_with}
use Rattle.normal_form.specs.Live.{live_from, BlocksOnce}

-- the local is of a heap kind
abbrev pub is_heap_in : List DataType → NormalFunction → ℕ → Bool
is_heap_in types f x = option_map_or (is_heap types) (slice_get (f.params ++ f.locals) x) false

-- the fields of arms that leave their cell as it is
abbrev pub looked_in : NormalFunction → List ℕ
looked_in f = flat_map (λ b. looked_at b.term) f.blocks

-- the local is only read: a parameter with a mark, or such a field
abbrev pub is_read_in : NormalFunction → ℕ → Bool
is_read_in f x = option_map_or (λ mark. mark) (slice_get f.reads x) false || is_among (looked_in f) x

-- the local is of a heap kind, and not lent
abbrev pub is_owned_in : List DataType → NormalFunction → ℕ → Bool
is_owned_in types f x = is_heap_in types f x && not (is_read_in f x)

-- the marks of the program's functions, by number
abbrev pub reads_in : NormalProgram → Reads
reads_in p = λ func. option_map_or (λ f. f.reads) (slice_get p.functions func) []

-- A function reads no local that isn't bound, and takes no owned local twice: at its beginning its parameters alone are
-- live, and no block takes an owned local that is read or taken again, here or on some way on.
pub record UsesFairly (p : NormalProgram) (f : NormalFunction) : Type 0 where
  pub bound : (x : ℕ) → live_from 0 f.blocks 0 x ≡ true → x < length f.params
  pub once : BlocksOnce (reads_in p) (is_owned_in p.types f) 0 f.blocks

-- ---- fitting

-- the lets and ends of these blocks, of which the first has this number, fit in this function of this code
abbrev pub BodyFits : Code → Func → ℕ → List NormalBlock → Type 0
BodyFits p f number [] = Unit {0}
BodyFits p f number (b ∷ bs) = AllByRecursion (LetFits p f) b.lets × TermFits p f number b.term × BodyFits p f (suc number) bs

-- what is lent is only read by them
abbrev pub BodyLends : Code → Func → List NormalBlock → Type 0
BodyLends p f [] = Unit {0}
BodyLends p f (b ∷ bs) = AllByRecursion (LetLends p f) b.lets × TermLends p f b.term × BodyLends p f bs

-- As code, whatever the parameters of blocks: each kind's type is there, each let and each end of a block has operands
-- that are there and of their kinds, constructors are built and matched in place exactly where they are inline, and
-- jumps go forward to blocks that are there. What is lent is only read, a parameter that is lent is marked, and beside
-- one the result isn't of a heap kind.
pub record FitsAsCode (takes : BlockParams) (p : NormalProgram) (f : NormalFunction) : Type 0 where
  pub marked : (x : ℕ) → x < length f.params → is_lent p.types (coded takes f) x ≡ true → is_marked (coded takes f) x ≡ true
  pub keeps : (x : ℕ) → x < length f.params → is_lent p.types (coded takes f) x ≡ true → is_heap p.types f.result ≡ false
  pub lends : BodyLends (code_with takes p) (coded takes f) f.blocks
  pub kinds : AllByRecursion (IsKnownKind p.types) (f.params ++ f.locals)
  pub result : IsKnownKind p.types f.result
  pub body : BodyFits (code_with takes p) (coded takes f) 0 f.blocks

-- ---- tables

-- no two types, no two constructors and no two functions have one name, and the kinds of fields are of types that are
-- there
pub record TablesFit (p : NormalProgram) : Type 0 where
  pub type_names : AreDistinct (map (λ t. t.name) p.types)
  pub con_names : AreDistinct (map (λ c. c.name) (constructors p.types))
  pub function_names : AreDistinct (map (λ f. f.name) p.functions)
  pub fields : AllByRecursion (λ c. AllByRecursion (IsKnownKind p.types) c.fields) (constructors p.types)

-- ---- counts

-- A mark for each parameter, and as many further locals and blocks as its body counts, with a block at least; in each
-- block at most one let more than there are such locals.
pub record IsCounted (p : Source) (f : Function) (n : NormalFunction) : Type 0 where
  pub name : n.name ≡ f.name.word
  pub params : length n.params ≡ length f.params
  pub reads : length n.reads ≡ length f.params
  pub locals : length n.locals ≡ tail_made p f.body
  pub blocks : length n.blocks ≡ tail_ends p f.body
  pub some_blocks : 1 ≤ length n.blocks
  pub few_lets : AllByRecursion (λ b. length b.lets ≤ suc (length n.locals)) n.blocks

-- function by function
abbrev pub AreCounted : Source → List Function → List NormalFunction → Type 0
AreCounted p [] [] = Unit {0}
AreCounted p (f ∷ fs) (n ∷ ns) = IsCounted p f n × AreCounted p fs ns
AreCounted p fs ns = ⊥
