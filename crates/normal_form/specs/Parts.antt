-- Private: words for functions of this crate.
-- Parts of a function's normal form: lines, where they end, and the local or the locals that have the values.
use Rattle.std.specs.Prelude.{ℕ, ◌+◌, List, [], ◌∷◌, ◌++◌, map, Option, Some, None}
use Rattle.camelot_values.specs.Operator.{Operator}
use Rattle.camelot_tree.specs.Tree as tree
use Rattle.camelot_tree.specs.Tree.{Expression, Prim, If, Expressions, Branch, Source}
use Rattle.camelot_typing.specs.Kinds.{Scope}
use Rattle.grail_blocks.specs.Blocks as block
use Rattle.grail_blocks.specs.Blocks.{Op, CaseArm, Term, let_of, arm_of, term_of}
use Rattle.normal_form.specs.Normal.{Line, Bind, Close, new, arm_for, bound_count, case_arm, cons_of, in_arm, joining, made, all_made, ends, all_ends, local_of, locals_of, value, values, tail, tail_made, tail_ends}
use Rattle.normal_form.specs.declared.part.Line.{Line as DeclaredLine}
use Rattle.normal_form.specs.declared.part.Line.TheVariants as line
use Rattle.normal_form.specs.declared.part.Part.{Part}
use Rattle.normal_form.specs.declared.part.Args.{Args}
use Rattle.normal_form.specs.declared.part.Body.{Body}
use Rattle.normal_form.specs.declared.part.Arms.{Arms}
use Rattle.normal_form.specs.declared.part.Tail.{Tail}
use Rattle.normal_form.specs.declared.part.TailArms.{TailArms}

pub record Piece : Type 0 where
  pub lines : List Line
  pub next : ℕ
  pub number : ℕ
  pub local : ℕ

pub record Pieces : Type 0 where
  pub lines : List Line
  pub next : ℕ
  pub number : ℕ
  pub locals : List ℕ

abbrev pub line_of : DeclaredLine → Line
line_of (line.Bind l) = Bind (let_of l)
line_of (line.Close t) = Close (term_of t)

abbrev pub piece_of : Part → Piece
piece_of p = record { lines = map line_of p.lines.items; next = p.end.next; number = p.end.number; local = p.local }

abbrev pub pieces_of : Args → Pieces
pieces_of a = record { lines = map line_of a.lines.items; next = a.end.next; number = a.end.number; locals = a.locals.items }

-- ---- putting together

abbrev pub no_args : ℕ → ℕ → Pieces
no_args next number = record { lines = []; next = next; number = number; locals = [] }

abbrev pub args_and : Pieces → Piece → Pieces
args_and a p = record { lines = a.lines ++ p.lines; next = p.next; number = p.number; locals = a.locals ++ p.local ∷ [] }

abbrev pub bound_piece : List Line → ℕ → ℕ → Op → Piece
bound_piece lines next number op = record { lines = lines ++ new next op ∷ []; next = next + 1; number = number; local = next }

-- a part behind these lines
abbrev pub behind : List Line → Piece → Piece
behind lines b = record { lines = lines ++ b.lines; next = b.next; number = b.number; local = b.local }

-- an operator on a local and the value of a part
abbrev pub operated : Operator → ℕ → Piece → Piece
operated op a b = bound_piece b.lines b.next b.number (block.Prim op a b.local)

abbrev pub sequenced : Piece → Piece → Piece
sequenced a b = record { lines = a.lines ++ b.lines; next = b.next; number = b.number; local = b.local }

-- two branches, of which the second begins in the block behind the first one's last
abbrev pub conditional : Piece → Piece → Piece → Piece
conditional c a b = record {
  lines = c.lines ++ Close (block.If c.local (c.number + 1) (a.number + 1)) ∷ (joining a.lines a.local c.next (b.number + 1) ++ joining b.lines b.local c.next (b.number + 1));
  next = b.next;
  number = b.number + 1;
  local = c.next;
}

-- ---- expressions

abbrev pub value_piece : Source → Scope ℕ → ℕ → ℕ → Expression → Piece
value_piece p s next number e = record { lines = value p e s next number; next = next + made p e; number = number + ends p e; local = local_of p e s next }

abbrev pub values_piece : Source → Scope ℕ → ℕ → ℕ → Expressions → Pieces
values_piece p s next number es = record { lines = values p es s next number; next = next + all_made p es; number = number + all_ends p es; locals = locals_of p es s next }

-- ---- arms

pub record PlainBody : Type 0 where
  pub lines : List Line
  pub local : ℕ

pub record PlainArms : Type 0 where
  pub cases : List CaseArm
  pub bodies : List PlainBody
  pub next : ℕ
  pub number : ℕ

abbrev pub body_of : Body → PlainBody
body_of b = record { lines = map line_of b.lines.items; local = b.local }

abbrev pub arms_of : Arms → PlainArms
arms_of a = record { cases = map arm_of a.cases.items; bodies = map body_of a.bodies.items; next = a.end.next; number = a.end.number }

abbrev pub joined_bodies : ℕ → ℕ → List PlainBody → List Line
joined_bodies to target [] = []
joined_bodies to target (b ∷ bs) = joining b.lines b.local to target ++ joined_bodies to target bs

abbrev pub matched : Piece → PlainArms → Piece
matched on a = record {
  lines = (on.lines ++ Close (block.Case on.local a.cases) ∷ []) ++ joined_bodies on.next a.number a.bodies;
  next = a.next;
  number = a.number;
  local = on.next;
}

abbrev pub no_arms : ℕ → ℕ → PlainArms
no_arms next number = record { cases = []; bodies = []; next = next; number = number }

abbrev pub body_and : PlainArms → Piece → PlainArms
body_and a b = record { cases = a.cases; bodies = a.bodies ++ record { lines = b.lines; local = b.local } ∷ []; next = b.next; number = b.number + 1 }

-- the arm of one constructor, where there is one
abbrev pub arm_and : Source → Scope ℕ → PlainArms → Option Branch → PlainArms
arm_and p s a None = record { cases = a.cases ++ case_arm p None 0 a.number ∷ []; bodies = a.bodies; next = a.next; number = a.number }
arm_and p s a (Some b) = body_and (record { cases = a.cases ++ case_arm p (Some b) a.next a.number ∷ []; bodies = a.bodies; next = a.next; number = a.number })
    (value_piece p (in_arm b.fields b.cell a.next s) (a.next + bound_count b.fields b.cell) a.number b.body)

abbrev pub arms_and : Source → Scope ℕ → PlainArms → List (Option Branch) → PlainArms
arms_and p s a [] = a
arms_and p s a (o ∷ os) = arms_and p s (arm_and p s a o) os

abbrev pub arms_piece : Source → Scope ℕ → ℕ → ℕ → tree.Arms → PlainArms
arms_piece p s next number as' = arms_and p s (no_arms next number) (map (arm_for p as') (cons_of p as'))

-- ---- conditionals

abbrev pub first_part : Expression → Expression
first_part (Prim op a b l) = a
first_part (If c a b l) = c
first_part e = e

abbrev pub branches_piece : Source → Scope ℕ → Piece → Expression → Expression → Piece
branches_piece p s c a b =
    let first = value_piece p s (c.next + 1) (c.number + 1) a in
    conditional c first (value_piece p s first.next (first.number + 1) b)

-- ---- tails

pub record TailPiece : Type 0 where
  pub lines : List Line
  pub next : ℕ
  pub number : ℕ

pub record PlainTails : Type 0 where
  pub cases : List CaseArm
  pub lines : List Line
  pub next : ℕ
  pub number : ℕ

abbrev pub tail_of : Tail → TailPiece
tail_of t = record { lines = map line_of t.lines.items; next = t.end.next; number = t.end.number }

abbrev pub tails_of : TailArms → PlainTails
tails_of a = record { cases = map arm_of a.cases.items; lines = map line_of a.lines.items; next = a.end.next; number = a.end.number }

abbrev pub closed_piece : List Line → ℕ → ℕ → Term → TailPiece
closed_piece lines next number t = record { lines = lines ++ Close t ∷ []; next = next; number = number + 1 }

abbrev pub before_tail : Piece → TailPiece → TailPiece
before_tail a t = record { lines = a.lines ++ t.lines; next = t.next; number = t.number }

abbrev pub divided : Piece → TailPiece → TailPiece → TailPiece
divided c a b = record { lines = c.lines ++ Close (block.If c.local (c.number + 1) a.number) ∷ (a.lines ++ b.lines); next = b.next; number = b.number }

abbrev pub no_tails : ℕ → ℕ → PlainTails
no_tails next number = record { cases = []; lines = []; next = next; number = number }

abbrev pub tail_and : PlainTails → TailPiece → PlainTails
tail_and a t = record { cases = a.cases; lines = a.lines ++ t.lines; next = t.next; number = t.number }

abbrev pub parted : Piece → PlainTails → TailPiece
parted on a = record { lines = on.lines ++ Close (block.Case on.local a.cases) ∷ a.lines; next = a.next; number = a.number }

abbrev pub tail_piece : Source → Scope ℕ → ℕ → ℕ → Expression → TailPiece
tail_piece p s next number e = record { lines = tail p e s next number; next = next + tail_made p e; number = number + tail_ends p e }

abbrev pub divided_piece : Source → Scope ℕ → Piece → Expression → Expression → TailPiece
divided_piece p s c a b =
    let first = tail_piece p s c.next (c.number + 1) a in
    divided c first (tail_piece p s first.next first.number b)

abbrev pub tail_arm_and : Source → Scope ℕ → PlainTails → Option Branch → PlainTails
tail_arm_and p s a None = record { cases = a.cases ++ case_arm p None 0 a.number ∷ []; lines = a.lines; next = a.next; number = a.number }
tail_arm_and p s a (Some b) = tail_and (record { cases = a.cases ++ case_arm p (Some b) a.next a.number ∷ []; lines = a.lines; next = a.next; number = a.number })
    (tail_piece p (in_arm b.fields b.cell a.next s) (a.next + bound_count b.fields b.cell) a.number b.body)

abbrev pub tail_arms_and : Source → Scope ℕ → PlainTails → List (Option Branch) → PlainTails
tail_arms_and p s a [] = a
tail_arms_and p s a (o ∷ os) = tail_arms_and p s (tail_arm_and p s a o) os

abbrev pub tails_piece : Source → Scope ℕ → ℕ → ℕ → tree.Arms → PlainTails
tails_piece p s next number as' = tail_arms_and p s (no_tails next number) (map (arm_for p as') (cons_of p as'))

abbrev pub returned_piece : Source → Scope ℕ → ℕ → ℕ → Expression → TailPiece
returned_piece p s next number e = closed_piece (value p e s next number) (next + made p e) (number + ends p e) (block.Ret (local_of p e s next))
