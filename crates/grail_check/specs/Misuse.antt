-- Cited by contracts.
-- What the three faults of use say of the code. Unbound: on some way through a block, a local is used or looked at that
-- isn't bound before. Spent: a local that is owned is used or looked at again before it is bound anew. Lent: a local
-- that is lent is taken or bound, or its cell isn't left as it is. Or an arm looks at a cell that isn't lent, or a
-- header lends what its function can't lend. This speaks of the events on the way alone, and of no state.
use Rattle.std.specs.Prelude.{◌≡◌, ℕ, suc, ◌<◌, Bool, false, List, ◌∷◌, ◌++◌, length, map, flat_map, slice_get, Some, IsTrue}
use Rattle.camelot_values.specs.Heap.{is_heap}
use Rattle.camelot_values.specs.Kinds.{Constructor, DataType}
use Rattle.camelot_values.specs.Operator.{Operator}
use Rattle.grail_blocks.specs.declared.blocks.Place.{Place}
use Rattle.grail_blocks.specs.declared.blocks.Place.TheVariants as place
use Rattle.grail_blocks.specs.declared.blocks.CaseCell.TheVariants as cell
use Rattle.grail_blocks.specs.Events.{Wants}
use Rattle.grail_code.specs.Code.{Op, Copy, Prim, Make, Call, Let, CaseArm, Term, Ret, Tail, If, Case, Block, Func, Code}
use Rattle.grail_code.specs.WellFormed.{kind_of, is_lent, is_marked, data_type, bound_by, Event, Use, Bind, Binds, Reads, reads_of, uses_of, let_events, term_events, ways}
use Rattle.grail_check.specs.Marked.{is_look}

-- a block's parameters are bound, and then these lets are made
abbrev pub events_of : Reads → Block → List Let → List Event
events_of reads b lets = map Bind b.params ++ flat_map (let_events reads) lets

-- A way through a block comes to a place after the events `before`, and these are the events there: what a let does to
-- its operands, or what the end does to its own, or that and a way on.
pub data Comes (reads : Reads) (f : Func) (b : Block) (before here : List Event) : ℕ → Type 0 where
  ToLet : (earlier rest : List Let) (l : Let) → b.lets ≡ earlier ++ l ∷ rest → before ≡ events_of reads b earlier → here ≡ uses_of reads l.op
      → Comes reads f b before here (suc (length earlier))
  ToEnd : before ≡ events_of reads b b.lets → here ≡ term_events reads b.term → Comes reads f b before here (suc (length b.lets))
  Onward : (i : ℕ) (way : List Event) → slice_get (ways f.blocks b.term) i ≡ Some way → before ≡ events_of reads b b.lets
      → here ≡ term_events reads b.term ++ way → Comes reads f b before here (suc (length b.lets))

-- a local is used or looked at here that isn't bound before
pub record UsesUnbound (before here : List Event) : Type 0 where
  pub local : ℕ
  pub want : Event
  pub wants : Wants local want
  pub front : List Event
  pub rest : List Event
  pub is : here ≡ front ++ want ∷ rest
  pub unbound : Binds local (before ++ front) → ⊥

-- a local that is owned is used or looked at here that was used before and not bound since
pub record UsesAgain (is_owned : ℕ → Bool) (before here : List Event) : Type 0 where
  pub local : ℕ
  pub want : Event
  pub wants : Wants local want
  pub owned : IsTrue (is_owned local)
  pub front : List Event
  pub rest : List Event
  pub is : here ≡ front ++ want ∷ rest
  pub first : List Event
  pub between : List Event
  pub used : before ++ front ≡ first ++ Use local ∷ between
  pub kept : Binds local between → ⊥

-- this place is there, and what happens there is bad
pub record Happens (p : Code) (func block place : ℕ) (Bad : Func → List Event → List Event → Type 0) : Type 0 where
  pub f : Func
  pub function : slice_get p.funcs func ≡ Some f
  pub b : Block
  pub in_block : slice_get f.blocks block ≡ Some b
  pub before : List Event
  pub here : List Event
  pub comes : Comes (reads_of p) f b before here place
  pub bad : Bad f before here

-- ---- what is lent

-- The local is handed to a parameter that isn't marked: it is the argument of this number, and the function that is
-- called has a parameter of this number, without the mark.
pub record HandsOver (p : Code) (func : ℕ) (args : List ℕ) (local : ℕ) : Type 0 where
  pub callee : Func
  pub function : slice_get p.funcs func ≡ Some callee
  pub number : ℕ
  pub argument : slice_get args number ≡ Some local
  pub parameter : number < length callee.params
  pub unmarked : is_marked callee number ≡ false

-- a let takes this local
pub data LetTakes (p : Code) (local : ℕ) : Op → Type 0 where
  -- it is copied
  Copied : LetTakes p local (Copy local)
  -- it is the left operand of an operator, or the right one
  OnLeft : (op : Operator) (right : ℕ) → LetTakes p local (Prim op local right)
  OnRight : (op : Operator) (left : ℕ) → LetTakes p local (Prim op left local)
  -- it is put into a build
  PutIn : (con : ℕ) (args : List ℕ) (at : Place) (number : ℕ) → slice_get args number ≡ Some local → LetTakes p local (Make con args at)
  -- it is the diamond in whose cell a constructor is built
  BuiltIn : (con : ℕ) (args : List ℕ) → LetTakes p local (Make con args (place.Reuse local))
  -- it is handed to a parameter that isn't marked
  Handed : (func : ℕ) (args : List ℕ) → HandsOver p func args local → LetTakes p local (Call func args)

-- the end of a block takes this local
pub data EndTakes (p : Code) (local : ℕ) : Term → Type 0 where
  -- it is the result
  Returned : EndTakes p local (Ret local)
  -- it is handed to a parameter that isn't marked
  HandedOn : (func : ℕ) (args : List ℕ) → HandsOver p func args local → EndTakes p local (Tail func args)
  -- it is asked for a truth value
  Asked : (first second : ℕ) → EndTakes p local (If local first second)

-- what a let does with a local that is lent
pub data LetMisuses (p : Code) (f : Func) (before : List Event) (l : Let) : Type 0 where
  -- it takes one that is bound before
  TakesLent : (local : ℕ) → IsTrue (is_lent p.types f local) → Binds local before → LetTakes p local l.op → LetMisuses p f before l
  -- it binds one
  BindsLent : IsTrue (is_lent p.types f l.target) → LetMisuses p f before l

-- what the end of a block does with a local that is lent, or as if a local were lent
pub data EndMisuses (p : Code) (f : Func) (before : List Event) (t : Term) : Type 0 where
  -- it takes a lent local that is bound before
  EndsLent : (local : ℕ) → IsTrue (is_lent p.types f local) → Binds local before → EndTakes p local t → EndMisuses p f before t
  -- it is a case on a lent local that is bound before, and the arm of a constructor that has a cell doesn't leave it as
  -- it is
  OpensLent : (local : ℕ) (arms : List CaseArm) (matched : DataType) (number : ℕ) (a : CaseArm) (c : Constructor) → t ≡ Case local arms → IsTrue (is_lent p.types f local)
      → Binds local before → data_type p.types (kind_of f local) ≡ Some matched → slice_get arms number ≡ Some a → slice_get matched.cons number ≡ Some c
      → c.inline ≡ false → is_look a.cell ≡ false → EndMisuses p f before t
  -- it is a case on a local that is bound before and isn't lent, and an arm looks at its cell
  LooksAtOwned : (local : ℕ) (arms : List CaseArm) (number : ℕ) (a : CaseArm) → t ≡ Case local arms → is_lent p.types f local ≡ false → Binds local before
      → slice_get arms number ≡ Some a → a.cell ≡ cell.Look → EndMisuses p f before t
  -- an arm of a case binds a lent local, and doesn't look at the cell that it matched
  ArmBindsLent : (local : ℕ) (arms : List CaseArm) (number : ℕ) (a : CaseArm) (bound index : ℕ) → t ≡ Case local arms → slice_get arms number ≡ Some a
      → is_look a.cell ≡ false → slice_get (bound_by a) index ≡ Some bound → IsTrue (is_lent p.types f bound) → EndMisuses p f before t

-- what a function's header says of a parameter that is lent
pub data HeaderMisuses (types : List DataType) (f : Func) : Type 0 where
  -- the result is of a heap kind
  GivesCells : (local : ℕ) → local < length f.params → IsTrue (is_lent types f local) → IsTrue (is_heap types f.result) → HeaderMisuses types f
  -- it isn't marked, so that it is a field of an arm that looks at its cell
  Unmarked : (local : ℕ) → local < length f.params → IsTrue (is_lent types f local) → is_marked f local ≡ false → HeaderMisuses types f

-- in this function: at place 0 of block 0 by its header, at a let, or at the end of a block
pub data MisusesAt (p : Code) (f : Func) (block : ℕ) : ℕ → Type 0 where
  AtHeader : block ≡ 0 → HeaderMisuses p.types f → MisusesAt p f block 0
  AtLet : (b : Block) (earlier rest : List Let) (l : Let) → slice_get f.blocks block ≡ Some b → b.lets ≡ earlier ++ l ∷ rest
      → LetMisuses p f (events_of (reads_of p) b earlier) l → MisusesAt p f block (suc (length earlier))
  AtEnd : (b : Block) → slice_get f.blocks block ≡ Some b → EndMisuses p f (events_of (reads_of p) b b.lets) b.term → MisusesAt p f block (suc (length b.lets))

-- this function is there, and something that is lent is misused at this place of it
pub record MisusesLent (p : Code) (func block place : ℕ) : Type 0 where
  pub f : Func
  pub function : slice_get p.funcs func ≡ Some f
  pub misused : MisusesAt p f block place
