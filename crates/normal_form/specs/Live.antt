-- Cited by contracts.
-- Liveness in a normal form: a local is live where some way on reads it before binding it anew (Aho, Lam, Sethi and
-- Ullman 2006, section 9.2.5). Blocks jump forward alone, so that this is a recursion over the blocks, and no least
-- solution of equations.
use Rattle.std.specs.Prelude.{◌≡◌, ℕ, suc, ◌+◌, ◌≤◌, ◌==◌, ◌&&◌, ◌||◌, not, if◌then◌else◌, Bool, true, false, List, [], ◌∷◌}
use Rattle.std.specs.List.{list_any}
use Rattle.camelot_values.specs.Lists.{is_among}
use Rattle.grail_blocks.specs.Blocks.{Op, Call, Let, Term, Ret, Tail, Goto, If, Case}
use Rattle.grail_blocks.specs.Events.{Reads, taken_by, read_by, operands_of, term_uses, bound_by}
use Rattle.normal_form.specs.Normal.{NormalBlock}

-- the locals that are live at a place
abbrev pub Marks : Type 0
Marks = ℕ → Bool

-- those that are live at the beginning of a later block
abbrev pub LaterMarks : Type 0
LaterMarks = ℕ → Marks

-- behind the operands of a let, where `after` is live behind the let
abbrev pub unless_bound : ℕ → Marks → Marks
unless_bound target after x = not (target == x) && after x

-- in front of these lets
abbrev pub lets_live : List Let → Marks → Marks
lets_live [] after x = after x
lets_live (l ∷ ls) after x = is_among (operands_of l.op) x || unless_bound l.target (lets_live ls after) x

-- on some way on from the end of a block; an arm binds its locals first
abbrev pub onward_live : LaterMarks → Term → Marks
onward_live later (Ret y) x = false
onward_live later (Tail func args) x = false
onward_live later (Goto b) x = later b x
onward_live later (If y first second) x = later first x || later second x
onward_live later (Case y arms) x = list_any (λ a. not (is_among (bound_by a) x) && later a.target x) arms

-- in front of the end of a block
abbrev pub term_live : LaterMarks → Term → Marks
term_live later t x = is_among (term_uses t) x || onward_live later t x

abbrev pub block_live : LaterMarks → NormalBlock → Marks
block_live later b x = lets_live b.lets (term_live later b.term) x

-- at the beginning of the block of this number, among the blocks from `first` on
abbrev pub live_from : ℕ → List NormalBlock → LaterMarks
live_from first [] b x = false
live_from first (body ∷ bodies) b x = if b == first then block_live (live_from (suc first) bodies) body x else live_from (suc first) bodies b x

-- ---- uses of a heap

-- how often this one stands among those
abbrev pub times : ℕ → List ℕ → ℕ
times x [] = 0
times x (y ∷ ys) = (if y == x then 1 else 0) + times x ys

abbrev pub bit : Bool → ℕ
bit true = 1
bit false = 0

-- the operands that a let takes: all but those that a call only reads
abbrev pub op_taken : Reads → Op → List ℕ
op_taken reads (Call func args) = taken_by (reads func) args
op_taken reads op = operands_of op

abbrev pub op_read : Reads → Op → List ℕ
op_read reads (Call func args) = read_by (reads func) args
op_read reads op = []

-- and those of the end of a block
abbrev pub term_taken : Reads → Term → List ℕ
term_taken reads (Tail func args) = taken_by (reads func) args
term_taken reads t = term_uses t

abbrev pub term_read : Reads → Term → List ℕ
term_read reads (Tail func args) = read_by (reads func) args
term_read reads t = []

-- Of these locals, which are taken in front of where those are read and `after` is live, none that is owned is taken
-- twice, or is read or live behind that.
abbrev pub Once : (ℕ → Bool) → (taken read : List ℕ) → Marks → Type 0
Once is_owned taken read after = (x : ℕ) → is_owned x ≡ true → times x taken + bit (is_among read x || after x) ≤ 1

abbrev pub LetsOnce : Reads → (ℕ → Bool) → List Let → Marks → Type 0
LetsOnce reads is_owned [] after = Unit {0}
LetsOnce reads is_owned (l ∷ ls) after =
    Once is_owned (op_taken reads l.op) (op_read reads l.op) (unless_bound l.target (lets_live ls after)) × LetsOnce reads is_owned ls after

pub record BlockOnce (reads : Reads) (is_owned : ℕ → Bool) (later : LaterMarks) (b : NormalBlock) : Type 0 where
  pub lets : LetsOnce reads is_owned b.lets (term_live later b.term)
  pub term : Once is_owned (term_taken reads b.term) (term_read reads b.term) (onward_live later b.term)

-- no block of these, from block `first` on, takes an owned local that is read or taken again before it is bound anew
abbrev pub BlocksOnce : Reads → (ℕ → Bool) → ℕ → List NormalBlock → Type 0
BlocksOnce reads is_owned first [] = Unit {0}
BlocksOnce reads is_owned first (b ∷ bs) = BlockOnce reads is_owned (live_from (suc first) bs) b × BlocksOnce reads is_owned (suc first) bs
