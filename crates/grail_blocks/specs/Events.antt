-- Cited by contracts.
-- What happens to locals along the ways through a block: uses, looks and bindings, in order.
use Rattle.std.specs.Prelude.{◌≡◌, ◌⊎◌, ℕ, Bool, true, false, List, [], ◌∷◌, ◌++◌, map, flat_map, slice_get}
use Rattle.std.specs.Option.{option_map_or}
use Rattle.grail_blocks.specs.declared.blocks.Place.{Place}
use Rattle.grail_blocks.specs.declared.blocks.Place.TheVariants as place
use Rattle.grail_blocks.specs.declared.blocks.CaseCell.{CaseCell}
use Rattle.grail_blocks.specs.declared.blocks.CaseCell.TheVariants as cell
use Rattle.grail_blocks.specs.Blocks.{Op, Lit, Flag, Copy, Prim, Make, Call, Let, CaseArm, Term, Ret, Tail, Goto, If, Case, Block}

-- a local is taken; or it's only looked at, which wants it ready and doesn't spend it; or it's bound anew
pub data Event : Type 0 where
  Use : ℕ → Event
  Look : ℕ → Event
  Bind : ℕ → Event

-- the event wants the local ready: it uses it, or looks at it
abbrev pub Wants : ℕ → Event → Type 0
Wants x event = (event ≡ Use x) ⊎ (event ≡ Look x)

-- the local is bound in these events
abbrev pub Binds : ℕ → List Event → Type 0
Binds x events = (before after : List Event) × (events ≡ before ++ Bind x ∷ after)

-- ---- calls

-- Which parameters of each function are only looked at: a mark for each, in order. Where the marks end, all further
-- ones are taken.
abbrev pub Reads : Type 0
Reads = ℕ → List Bool

-- all arguments are taken
abbrev pub no_reads : Reads
no_reads = λ func. []

-- the arguments that a call takes, by the marks of the callee's parameters
abbrev pub taken_by : List Bool → List ℕ → List ℕ
taken_by [] xs = xs
taken_by (mark ∷ marks) [] = []
taken_by (true ∷ marks) (x ∷ xs) = taken_by marks xs
taken_by (false ∷ marks) (x ∷ xs) = x ∷ taken_by marks xs

-- and those that it only looks at
abbrev pub read_by : List Bool → List ℕ → List ℕ
read_by [] xs = []
read_by (mark ∷ marks) [] = []
read_by (true ∷ marks) (x ∷ xs) = x ∷ read_by marks xs
read_by (false ∷ marks) (x ∷ xs) = read_by marks xs

-- a call uses what it takes, in order, and behind that looks at the others
abbrev pub argument_events : List Bool → List ℕ → List Event
argument_events [] xs = map Use xs
argument_events (mark ∷ marks) xs = map Use (taken_by (mark ∷ marks) xs) ++ map Look (read_by (mark ∷ marks) xs)

-- ---- lets and ends of blocks

-- the diamond that a build takes
abbrev pub taken : Place → List ℕ
taken (place.Reuse d) = d ∷ []
taken p = []

-- the operands of a let, in order
abbrev pub operands_of : Op → List ℕ
operands_of (Lit z) = []
operands_of (Flag b) = []
operands_of (Copy x) = x ∷ []
operands_of (Prim op x y) = x ∷ y ∷ []
operands_of (Make con args at) = args ++ taken at
operands_of (Call func args) = args

-- a let uses its operands; a call goes by its callee's marks
abbrev pub uses_of : Reads → Op → List Event
uses_of reads (Call func args) = argument_events (reads func) args
uses_of reads op = map Use (operands_of op)

-- behind that it binds its local anew
abbrev pub let_events : Reads → Let → List Event
let_events reads l = uses_of reads l.op ++ Bind l.target ∷ []

-- the operands of the end of a block
abbrev pub term_uses : Term → List ℕ
term_uses (Ret x) = x ∷ []
term_uses (Tail func args) = args
term_uses (Goto b) = []
term_uses (If x first second) = x ∷ []
term_uses (Case x arms) = x ∷ []

-- what the end of a block does to them itself
abbrev pub term_events : Reads → Term → List Event
term_events reads (Tail func args) = argument_events (reads func) args
term_events reads t = map Use (term_uses t)

-- the local that a kept cell's diamond is bound to
abbrev pub kept_diamond : CaseCell → List ℕ
kept_diamond (cell.Keep d) = d ∷ []
kept_diamond c = []

-- all that an arm binds
abbrev pub bound_by : CaseArm → List ℕ
bound_by a = a.fields ++ kept_diamond a.cell

-- the parameters of the block of this number
abbrev pub params_at : List Block → ℕ → List ℕ
params_at blocks b = option_map_or (λ block. block.params) (slice_get blocks b) []

-- A jump uses the parameters of its target. One that isn't owned isn't spent by that.
abbrev pub jump_events : List Block → ℕ → List Event
jump_events blocks b = map Use (params_at blocks b)

-- each way on from the end of a block: an arm binds its locals first
abbrev pub ways : List Block → Term → List (List Event)
ways blocks (Ret x) = []
ways blocks (Tail func args) = []
ways blocks (Goto b) = jump_events blocks b ∷ []
ways blocks (If x first second) = jump_events blocks first ∷ jump_events blocks second ∷ []
ways blocks (Case x arms) = map (λ a. map Bind (bound_by a) ++ jump_events blocks a.target) arms

-- from a block's beginning, where its parameters are bound, to its end
abbrev pub block_events : Reads → Block → List Event
block_events reads b = map Bind b.params ++ flat_map (let_events reads) b.lets ++ term_events reads b.term
