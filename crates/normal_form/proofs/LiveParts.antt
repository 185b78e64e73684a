-- Bounds of what is live in front of lines, by the occurrences that the source counts; the parts of the proof that hold
-- for any lines.
use Rattle.std.proofs.Common.{◌≡◌, ℕ, suc, ◌+◌, ◌≤◌, Bool, true, false, List, [], ◌∷◌, ◌++◌, Some, refl, sym, ap, subst, arith, append_assoc}
use Rattle.std.specs.Prelude.{◌==◌, ◌||◌, ◌&&◌, not, max, if◌then◌else◌}
use Rattle.camelot_values.specs.Lists.{is_among}
use Rattle.camelot_tree.specs.declared.tree.Name.{Name}
use Rattle.camelot_typing.specs.Kinds.{head_of}
use Rattle.camelot_typing.specs.Typing.{Signature}
use Rattle.linear_use.specs.Uses.{Loans}
use Rattle.grail_blocks.specs.Blocks as block
use Rattle.grail_blocks.specs.Blocks.{Op, Term}
use Rattle.grail_blocks.specs.Events.{taken_by, read_by, operands_of, term_uses}
use Rattle.normal_form.specs.Normal.{Line, Close, new, joining, fun_of}
use Rattle.normal_form.specs.Live.{Marks, unless_bound, onward_live, times, bit, op_taken, op_read, term_taken, term_read}
use Rattle.normal_form.proofs.KindsAt.{Frame, heap_in}
use Rattle.normal_form.proofs.LiveLines.{Ownership, live_here, later_lines, AllOnce}
use Rattle.normal_form.proofs.NamedUses.{one}

-- a function whose owned locals are of heap kinds, with the loans of those that it calls
pub record Ruled (F : Frame) : Type 0 where
  pub loans : Loans
  pub own : Ownership
  pub heap : (y : ℕ) → own.owned y ≡ true → heap_in F y ≡ true
  pub marks : (f : Name) (h : Signature) → head_of F.sigs f.word ≡ Some h → own.reads (fun_of F.source f) ≡ loans f.word

-- ---- bits

pub bit_most : (b : Bool) → bit b ≤ 1
bit_most true = omega arith
bit_most false = omega arith

pub bit_or : (a b : Bool) → bit (a || b) ≤ bit a + bit b
bit_or true b = omega arith
bit_or false b = omega arith

pub bit_max : (a b : Bool) → bit (a || b) ≤ max (bit a) (bit b)
bit_max true true = omega arith
bit_max true false = omega arith
bit_max false true = omega arith
bit_max false false = omega arith

pub bit_one : (x y : ℕ) → bit (x == y) ≡ one x y
bit_one x y = by_test (x == y)
  where
    by_test : (b : Bool) → bit b ≡ (if b then 1 else 0)
    by_test true = refl
    by_test false = refl

pub among_times : (xs : List ℕ) (y : ℕ) → bit (is_among xs y) ≤ times y xs
among_times [] y = omega arith
among_times (x ∷ xs) y = let a = bit_or (x == y) (is_among xs y) in let b = bit_one x y in let c = among_times xs y in omega (arith, a, b, c)

-- an argument is taken or read
pub among_parted : (marks : List Bool) (xs : List ℕ) (y : ℕ) → bit (is_among xs y) ≤ times y (taken_by marks xs) + bit (is_among (read_by marks xs) y)
among_parted [] xs y = let a = among_times xs y in omega (arith, a)
among_parted (mark ∷ marks) [] y = omega arith
among_parted (true ∷ marks) (x ∷ xs) y =
    let a = bit_max (x == y) (is_among xs y) in
    let b = among_parted marks xs y in
    let c = by_test (x == y) (is_among (read_by marks xs) y) in
    omega (arith, a, b, c)
  where
    by_test : (a b : Bool) → max (bit a) (bit b) ≤ bit (a || b)
    by_test true true = omega arith
    by_test true false = omega arith
    by_test false true = omega arith
    by_test false false = omega arith
among_parted (false ∷ marks) (x ∷ xs) y =
    let a = bit_or (x == y) (is_among xs y) in
    let b = bit_one x y in
    let c = among_parted marks xs y in
    omega (arith, a, b, c)

-- what isn't bound here
pub unless_most : (x y : ℕ) (after : Marks) (n : ℕ) → bit (after y) ≤ one x y + n → bit (unless_bound x after y) ≤ n
unless_most x y after n h = by_test (x == y) refl
  where
    by_test : (b : Bool) → (x == y) ≡ b → bit (not b && after y) ≤ n
    by_test true t = omega arith
    by_test false t = let k = ap (λ b. ◌+◌ (if b then 1 else 0) 0) t in omega (arith, h, k)

-- ---- lines

-- of each local at most so much is live, and none of these lines takes one that is read or taken again
pub record Lives (o : Ownership) (number : ℕ) (lines : List Line) (most : ℕ → ℕ) : Type 0 where
  pub live : (y : ℕ) → bit (live_here number lines y) ≤ most y
  pub once : AllOnce o number lines

pub lives_more : (o : Ownership) (number : ℕ) (lines : List Line) (most more : ℕ → ℕ) → ((y : ℕ) → most y ≤ more y) → Lives o number lines most
    → Lives o number lines more
lives_more o number lines most more up r = record { live = λ y. (let a = r.live y in let b = up y in omega (arith, a, b)); once = r.once }

-- the same where one is known to be at most 1
pub lives_most : (o : Ownership) (number : ℕ) (lines : List Line) (most more : ℕ → ℕ) → ((y n : ℕ) → n ≤ 1 → n ≤ most y → n ≤ more y)
    → Lives o number lines most
    → Lives o number lines more
lives_most o number lines most more up r = record { live = λ y. up y (bit (live_here number lines y)) (bit_most (live_here number lines y)) (r.live y); once = r.once }

-- what is taken, in front of what is read or comes behind
pub once_parts : (n : ℕ) (read after : Bool) (out : ℕ) → bit after ≤ out → n + max (bit read) out ≤ 1 → n + bit (read || after) ≤ 1
once_parts n read after out h k = let a = bit_max read after in omega (arith, a, h, k)

-- a new local in front of lines
pub new_lives : (o : Ownership) (number x : ℕ) (op : Op) (rest : List Line) (out : ℕ → ℕ)
    → ((y : ℕ) → o.owned y ≡ true → times y (op_taken o.reads op) + max (bit (is_among (op_read o.reads op) y)) (out y) ≤ 1)
    → Lives o number rest (λ y. one x y + out y)
    → Lives o number (new x op ∷ rest) (λ y. max (bit (is_among (operands_of op) y)) (out y))
new_lives o number x op rest out once r = record {
  live = λ y.
      (let a = bit_max (is_among (operands_of op) y) (unless_bound x (live_here number rest) y) in
      let c = unless_most x y (live_here number rest) (out y) (r.live y) in
      omega (arith, a, c));
  once = (λ y own. once_parts (times y (op_taken o.reads op)) (is_among (op_read o.reads op) y) (unless_bound x (live_here number rest) y) (out y) (unless_most x y (live_here number rest) (out y) (r.live y)) (once y own), r.once);
}

-- the end of a block in front of lines
pub close_lives : (o : Ownership) (number : ℕ) (t : Term) (rest : List Line) (onward : ℕ → ℕ)
    → ((y : ℕ) → bit (onward_live (later_lines number rest) t y) ≤ onward y)
    → ((y : ℕ) → o.owned y ≡ true → times y (term_taken o.reads t) + max (bit (is_among (term_read o.reads t) y)) (onward y) ≤ 1)
    → AllOnce o (suc number) rest
    → Lives o number (Close t ∷ rest) (λ y. max (bit (is_among (term_uses t) y)) (onward y))
close_lives o number t rest onward most once all = record {
  live = λ y.
      (let a = bit_max (is_among (term_uses t) y) (onward_live (later_lines number rest) t y) in
      let c = most y in
      omega (arith, a, c));
  once = (λ y own. once_parts (times y (term_taken o.reads t)) (is_among (term_read o.reads t) y) (onward_live (later_lines number rest) t y) (onward y) (most y) (once y own), all);
}

-- a single operand
pub among_one : (x y : ℕ) → bit (is_among (x ∷ []) y) ≤ one x y
among_one x y = let a = among_times (x ∷ []) y in omega (arith, a)

-- A branch that joins: its value is copied to `result`, and the joining block is at `rest`.
pub joining_lives : (o : Ownership) (number mid : ℕ) (lines : List Line) (x result join m : ℕ) (follow rest : List Line) (out : ℕ → ℕ) (most : ℕ → ℕ)
    → (Lives o mid (new result (block.Copy x) ∷ Close (block.Goto join) ∷ follow) (λ y. one x y + out y) → Lives o number (lines ++ (new result (block.Copy x) ∷ Close (block.Goto join) ∷ follow)) most)
    → ((y : ℕ) → o.owned y ≡ true → one x y + out y ≤ 1) → ((y : ℕ) → later_lines mid follow join y ≡ live_here m rest y) → AllOnce o (suc mid) follow
    → ((y : ℕ) → bit (live_here m rest y) ≤ one result y + out y)
    → Lives o number (joining lines x result join ++ follow) most
joining_lives o number mid lines x result join m follow rest out most run once jump all goes =
    subst (λ l. Lives o number l most) (sym (append_assoc lines (new result (block.Copy x) ∷ Close (block.Goto join) ∷ []) follow))
    (run (lives_more o mid (new result (block.Copy x) ∷ Close (block.Goto join) ∷ follow) (λ y. max (bit (is_among (x ∷ []) y)) (out y)) (λ y. one x y + out y)
    (λ y. (let a = among_one x y in omega (arith, a)))
    (new_lives o mid result (block.Copy x) (Close (block.Goto join) ∷ follow) out (λ y own. (let a = once y own in omega (arith, a))) (ends all))))
  where
    most_one : (y : ℕ) → bit (later_lines mid follow join y) ≤ one result y + out y
    most_one y = let a = goes y in let b = ap bit (jump y) in omega (arith, a, b)

    ends : AllOnce o (suc mid) follow → Lives o mid (Close (block.Goto join) ∷ follow) (λ y. one result y + out y)
    ends all = record { live = most_one; once = (λ y own. (let a = bit_most (later_lines mid follow join y) in omega (arith, a)), all) }
