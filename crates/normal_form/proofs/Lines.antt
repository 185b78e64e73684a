-- What lines mean, and that the blocks into which they are cut mean the same. A jump to a block is what begins behind
-- as many ends.
use Rattle.std.proofs.Common.{◌≡◌, ℕ, suc, ◌+◌, ◌≤◌, Bool, true, false, List, [], ◌∷◌, ◌++◌, map, refl, sym, ap, ◌∙◌, arith}
use Rattle.std.specs.Prelude.{◌==◌, if◌then◌else◌}
use Rattle.std.proofs.lemmas.Bool.Decides.{nat_tests}
use Rattle.camelot_values.specs.Value.{Value}
use Rattle.camelot_values.specs.Kinds.{DataType}
use Rattle.camelot_values.specs.Outcome.{Outcome, Stuck, first_then}
use Rattle.camelot_values.specs.OutcomeLaws.{then_same}
use Rattle.camelot_values.specs.Runs.{Enter}
use Rattle.grail_blocks.specs.Blocks as block
use Rattle.grail_blocks.specs.Blocks.{Term}
use Rattle.grail_blocks.specs.Running.{Locals, put, op_run, term_run, block_run, jump_run, blocks_run}
use Rattle.normal_form.specs.Normal.{NormalBlock, Line, Bind, Close, in_first, cut}
use Rattle.normal_form.specs.Running.{everything}

-- Lines from a place in the block of this number on; and a jump from that block to a later one.
abbrev mutual
  pub here : List DataType → Enter → ℕ → List Line → ℕ → ℕ → Locals → Outcome Value
  here types enter number [] k w env = Stuck
  here types enter number (Bind l ∷ lines) k w env = first_then k (op_run enter k w env l.op) (λ left v. here types enter number lines left w (put env l.target v))
  here types enter number (Close t ∷ lines) k w env =
      term_run types enter (λ b j u e. if b == suc number then here types enter (suc number) lines j u e else behind types enter (suc number) lines b j u e) t k w env

  pub behind : List DataType → Enter → ℕ → List Line → ℕ → ℕ → ℕ → Locals → Outcome Value
  behind types enter number [] b j u e = Stuck
  behind types enter number (Bind l ∷ lines) b j u e = behind types enter number lines b j u e
  behind types enter number (Close t ∷ lines) b j u e = if b == suc number then here types enter (suc number) lines j u e else behind types enter (suc number) lines b j u e

-- how many blocks are ended
abbrev pub closes : List Line → ℕ
closes [] = 0
closes (Bind l ∷ lines) = closes lines
closes (Close t ∷ lines) = suc (closes lines)

-- the last line ends a block, where there is one; and there is one
abbrev mutual
  pub IsClosed : List Line → Type 0
  IsClosed [] = Unit {0}
  IsClosed (Bind l ∷ lines) = EndsClosed lines
  IsClosed (Close t ∷ lines) = IsClosed lines

  pub EndsClosed : List Line → Type 0
  EndsClosed [] = ⊥
  EndsClosed (Bind l ∷ lines) = EndsClosed lines
  EndsClosed (Close t ∷ lines) = IsClosed lines

pub closes_append : (xs ys : List Line) → closes (xs ++ ys) ≡ closes xs + closes ys
closes_append [] ys = omega arith
closes_append (Bind l ∷ xs) ys = closes_append xs ys
closes_append (Close t ∷ xs) ys = let h = closes_append xs ys in omega (arith, h)

pub ends_is_closed : (xs : List Line) → EndsClosed xs → IsClosed xs
ends_is_closed [] h = absurd h
ends_is_closed (Bind l ∷ xs) h = h
ends_is_closed (Close t ∷ xs) h = h

closed_ends : (x : Line) (xs : List Line) → IsClosed (x ∷ xs) → EndsClosed (x ∷ xs)
closed_ends (Bind l) xs h = h
closed_ends (Close t) xs h = h

ends_some : (xs : List Line) → EndsClosed xs → 1 ≤ closes xs
ends_some [] h = absurd h
ends_some (Bind l ∷ xs) h = ends_some xs h
ends_some (Close t ∷ xs) h = omega arith

pub ends_append : (xs ys : List Line) → EndsClosed ys → EndsClosed (xs ++ ys)
ends_append [] ys h = h
ends_append (Bind l ∷ xs) ys h = ends_append xs ys h
ends_append (Close t ∷ xs) ys h = ends_is_closed (xs ++ ys) (ends_append xs ys h)

mutual
  pub closed_append : (xs ys : List Line) → IsClosed xs → IsClosed ys → IsClosed (xs ++ ys)
  closed_append [] ys h k = k
  closed_append (Bind l ∷ xs) ys h k = ends_then xs ys h k
  closed_append (Close t ∷ xs) ys h k = closed_append xs ys h k

  pub ends_then : (xs ys : List Line) → EndsClosed xs → IsClosed ys → EndsClosed (xs ++ ys)
  ends_then [] ys h k = absurd h
  ends_then (Bind l ∷ xs) ys h k = ends_then xs ys h k
  ends_then (Close t ∷ xs) ys h k = closed_append xs ys h k

-- ---- jumps

-- a jump to the block that begins behind so many ends
pub jump_in : (types : List DataType) (enter : Enter) (n : ℕ) (xs ys : List Line) (b j u : ℕ) (e : Locals) → EndsClosed xs → b ≡ n + closes xs
    → behind types enter n (xs ++ ys) b j u e ≡ here types enter b ys j u e
jump_in types enter n [] ys b j u e h is = absurd h
jump_in types enter n (Bind l ∷ xs) ys b j u e h is = jump_in types enter n xs ys b j u e h is
jump_in types enter n (Close t ∷ []) ys b j u e h is =
    let test : (b == suc n) ≡ true = grind (arith, nat_tests, is) in
    ap (λ x. if x then here types enter (suc n) ys j u e else behind types enter (suc n) ys b j u e) test
    ∙ (let same : suc n ≡ b = omega (arith, is) in ap (λ m. here types enter m ys j u e) same)
jump_in types enter n (Close t ∷ x ∷ xs) ys b j u e h is =
    let some : 1 ≤ closes (x ∷ xs) = ends_some (x ∷ xs) (closed_ends x xs h) in
    let far : n + suc (closes (x ∷ xs)) ≡ b = sym is in
    let test : (b == suc n) ≡ false = grind (arith, nat_tests, far, some) in
    ap (λ y. if y then here types enter (suc n) ((x ∷ xs) ++ ys) j u e else behind types enter (suc n) ((x ∷ xs) ++ ys) b j u e) test
    ∙ jump_in types enter (suc n) (x ∷ xs) ys b j u e (closed_ends x xs h) (omega (arith, far))

-- ---- blocks

abbrev behind_first : List NormalBlock → List NormalBlock
behind_first [] = []
behind_first (b ∷ bs) = bs

behind_cut : (l : block.Let) (bs : List NormalBlock) → behind_first (in_first l bs) ≡ behind_first bs
behind_cut l [] = refl
behind_cut l (b ∷ bs) = refl

-- from the first of these blocks on
abbrev from_first : List DataType → Enter → ℕ → List NormalBlock → ℕ → ℕ → Locals → Outcome Value
from_first types enter number [] k w env = Stuck
from_first types enter number (b ∷ bs) k w env = block_run types enter (jump_run types enter (suc number) (map everything bs)) (everything b) k w env

from_first_let : (types : List DataType) (enter : Enter) (number : ℕ) (l : block.Let) (b : NormalBlock) (bs : List NormalBlock) (k w : ℕ) (env : Locals)
    → from_first types enter number (in_first l (b ∷ bs)) k w env ≡ first_then k (op_run enter k w env l.op) (λ left v. from_first types enter number (b ∷ bs) left w (put env l.target v))
from_first_let types enter number l b bs k w env = refl

abbrev stuck : Outcome Value
stuck = Stuck

either_stuck : (t : Bool) → (if t then stuck else stuck) ≡ stuck
either_stuck true = refl
either_stuck false = refl

-- the first of these blocks, or one behind it
jump_split : (types : List DataType) (enter : Enter) (first : ℕ) (bs : List NormalBlock) (b k w : ℕ) (env : Locals)
    → jump_run types enter first (map everything bs) b k w env ≡ (if b == first then from_first types enter first bs k w env else jump_run types enter (suc first) (map everything (behind_first bs)) b k w env)
jump_split types enter first [] b k w env = sym (either_stuck (b == first))
jump_split types enter first (x ∷ bs) b k w env = refl

abbrev some_block : List Line → Type 0
some_block lines = (b : NormalBlock) × (bs : List NormalBlock) × (cut lines ≡ b ∷ bs)

ends_block : (lines : List Line) → EndsClosed lines → some_block lines
ends_block [] h = absurd h
ends_block (Bind l ∷ lines) h = let r = ends_block lines h in (record { lets = l ∷ r.0.lets; term = r.0.term }, r.1, ap (in_first l) r.2)
ends_block (Close t ∷ lines) h = (record { lets = []; term = t }, cut lines, refl)

-- behind an end, where the lines that follow are known to be these blocks
close_behind : (types : List DataType) (enter : Enter) (number : ℕ) (t : Term) (lines : List Line)
    → ((k w : ℕ) (env : Locals) → from_first types enter (suc number) (cut lines) k w env ≡ here types enter (suc number) lines k w env)
    → ((b j u : ℕ) (e : Locals) → jump_run types enter (suc (suc number)) (map everything (behind_first (cut lines))) b j u e ≡ behind types enter (suc number) lines b j u e)
    → (b j u : ℕ) (e : Locals) → jump_run types enter (suc number) (map everything (cut lines)) b j u e ≡ behind types enter number (Close t ∷ lines) b j u e
close_behind types enter number t lines first later b j u e =
    jump_split types enter (suc number) (cut lines) b j u e
    ∙ ap (λ o. if b == suc number then o else jump_run types enter (suc (suc number)) (map everything (behind_first (cut lines))) b j u e) (first j u e)
    ∙ ap (λ o. if b == suc number then here types enter (suc number) lines j u e else o) (later b j u e)

mutual
  cut_here : (types : List DataType) (enter : Enter) (number : ℕ) (lines : List Line) → IsClosed lines → (k w : ℕ) (env : Locals)
      → from_first types enter number (cut lines) k w env ≡ here types enter number lines k w env
  cut_here types enter number [] h k w env = refl
  cut_here types enter number (Bind l ∷ lines) h k w env =
      let r = ends_block lines h in
      ap (λ bs. from_first types enter number (in_first l bs) k w env) r.2
      ∙ then_same k (op_run enter k w env l.op) (λ left v. from_first types enter number (r.0 ∷ r.1) left w (put env l.target v)) (λ left v. here types enter number lines left w (put env l.target v))
      (λ j v. ap (λ bs. from_first types enter number bs j w (put env l.target v)) (sym r.2) ∙ cut_here types enter number lines (ends_is_closed lines h) j w (put env l.target v))
  cut_here types enter number (Close t ∷ lines) h k w env =
      ap (λ later. term_run types enter later t k w env)
      (λ i b j u e. close_behind types enter number t lines (cut_here types enter (suc number) lines h) (cut_behind types enter (suc number) lines h) b j u e i)

  cut_behind : (types : List DataType) (enter : Enter) (number : ℕ) (lines : List Line) → IsClosed lines → (b j u : ℕ) (e : Locals)
      → jump_run types enter (suc number) (map everything (behind_first (cut lines))) b j u e ≡ behind types enter number lines b j u e
  cut_behind types enter number [] h b j u e = refl
  cut_behind types enter number (Bind l ∷ lines) h b j u e =
      ap (λ bs. jump_run types enter (suc number) (map everything bs) b j u e) (behind_cut l (cut lines)) ∙ cut_behind types enter number lines (ends_is_closed lines h) b j u e
  cut_behind types enter number (Close t ∷ lines) h b j u e =
      close_behind types enter number t lines (cut_here types enter (suc number) lines h) (cut_behind types enter (suc number) lines h) b j u e

-- The blocks mean what the lines mean.
pub blocks_are_lines : (types : List DataType) (enter : Enter) (lines : List Line) → IsClosed lines → (k w : ℕ) (env : Locals)
    → blocks_run types enter (map everything (cut lines)) k w env ≡ here types enter 0 lines k w env
blocks_are_lines types enter lines h k w env = whole (cut lines) ∙ cut_here types enter 0 lines h k w env
  where
    whole : (bs : List NormalBlock) → blocks_run types enter (map everything bs) k w env ≡ from_first types enter 0 bs k w env
    whole [] = refl
    whole (b ∷ bs) = refl
