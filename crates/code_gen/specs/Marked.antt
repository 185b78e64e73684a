-- Private: words for functions of this crate.
-- What is live at a place, as a set of locals.
use Rattle.std.specs.Prelude.{◌≡◌, ℕ, zero, suc, ◌+◌, ◌-◌, ◌<◌, ◌≤◌, nat_lt, ◌==◌, ◌||◌, ◌&&◌, not, if◌then◌else◌, Bool, true, false, List, length, get_or, drop, None}
use Rattle.std.specs.Int.{bit_at}
use Rattle.camelot_values.specs.Lists.{is_among}
use Rattle.std.specs.List.{filter, list_any, range_with_len}
use Rattle.grail_blocks.specs.Blocks.{CaseArm, Let}
use Rattle.grail_blocks.specs.Events.{bound_by, operands_of}
use Rattle.camelot_tree.specs.Tree.{Function, Source}
use Rattle.camelot_typing.specs.Typing.{Signature}
use Rattle.grail_code.specs.Limits.{FuncIsWithin}
use Rattle.normal_form.specs.Answers.{fault_of}
use Rattle.normal_form.specs.Coded.{coded}
use Rattle.normal_form.specs.Normal.{NormalBlock, normal_function}
use Rattle.normal_form.specs.Live.{LaterMarks, Marks, live_from, unless_bound}
use Rattle.code_gen.specs.Generated.{live_params}
use Rattle.code_gen.specs.declared.local_set.LocalSet.{LocalSet}

-- whether this bit of a word is set
abbrev pub is_set : ℕ → ℕ → Bool
is_set word y = bit_at word y == 1

-- whether a set has this local
abbrev pub has : LocalSet → Marks
has s y = if nat_lt y 128 then is_set s.low y else is_set s.high (y - 128)

-- the set tells what is live of the locals below 256
pub record IsMarked (marks : LocalSet) (live : Marks) : Type 0 where
  pub each : (y : ℕ) → y < 256 → has marks y ≡ live y

-- the first number from `first` on that passes, or `end` if none below it does
pub record IsNext (passes : ℕ → Bool) (first end found : ℕ) : Type 0 where
  pub since : first ≤ found
  pub until : found ≤ end
  pub none : (y : ℕ) → first ≤ y → y < found → passes y ≡ false
  pub passing : found < end → passes found ≡ true

-- with one local, or with these
abbrev pub with_one : ℕ → Marks → Marks
with_one x live y = (x == y) || live y

abbrev pub with_these : List ℕ → Marks → Marks
with_these xs live y = is_among xs y || live y

-- in front of a let, where `live` is live behind it
abbrev pub before_let : Let → Marks → Marks
before_let l live = with_these (operands_of l.op) (unless_bound l.target live)

-- on one of two ways
abbrev pub either_live : Marks → Marks → Marks
either_live first second y = first y || second y

-- what is live behind an arm that binds these
abbrev pub unless_among : List ℕ → Marks → Marks
unless_among bound live y = not (is_among bound y) && live y

-- no local
abbrev pub no_locals : LocalSet
no_locals = record { low = 0; high = 0 }

-- The sets of later blocks, the last one's first: that of this block, where a function has `count` blocks. Of a block
-- that isn't later there is none.
abbrev pub marks_at : List LocalSet → ℕ → ℕ → LocalSet
marks_at seen count b = if nat_lt b count then get_or seen (count - 1 - b) no_locals else no_locals

abbrev pub told : List LocalSet → ℕ → LaterMarks
told seen count b = has (marks_at seen count b)

-- on some way on through these arms
abbrev pub arms_live : LaterMarks → List CaseArm → Marks
arms_live later arms y = list_any (λ a. not (is_among (bound_by a) y) && later a.target y) arms

-- ---- blocks

abbrev pub none_live : Marks
none_live y = false

-- Of the blocks from this number on, there is one set each, the last block's first. It tells of each local below 256
-- whether it is live at the block's beginning.
pub record AreSeen (blocks : List NormalBlock) (number : ℕ) (seen : List LocalSet) : Type 0 where
  pub count : length seen + number ≡ length blocks
  pub tells : (b y : ℕ) → y < 256 → told seen (length blocks) b y ≡ live_from number (drop number blocks) b y

-- the parameters of a function's block of this number, where the function has so many, so many locals, and these sets
-- for all its blocks
abbrev pub told_params : ℕ → ℕ → List LocalSet → ℕ → List ℕ
told_params own size seen zero = range_with_len 0 own
told_params own size seen (suc n) = filter (has (marks_at seen (length seen) (suc n))) (range_with_len 0 size)

-- ---- functions one by one

-- where a function isn't too large, its code is within the limits
abbrev pub IsWithinUnless : Source → List Signature → Function → Signature → Type 0
IsWithinUnless p sigs f s = fault_of p f ≡ None → FuncIsWithin (coded live_params (normal_function p sigs f s))
