-- Pieces that are joined again, from the last one on.
use Rattle.std.proofs.Common.{◌≡◌, ℕ, ◌+◌, ◌≤◌, List, [], ◌∷◌, ◌++◌, length, refl, sym, ap, ◌∙◌, subst, arith, append_assoc, length-append}
use Rattle.std.proofs.lemmas.List.{append-nil}
use Rattle.cell_span.specs.declared.cell.Cell.{Cell}
use Rattle.cell_span.specs.Arenas.{Arena}
use Rattle.cell_span.specs.Range.{Range, joined, IsWhole}
use Rattle.hole_list.specs.declared.run.Run.{Run}
use Rattle.hole_list.specs.Placing.{end_of}
use Rattle.hole_list.specs.Holes.{Holed, run_of}
use Rattle.tenant_desk.specs.Desk.{NoneOut, cells_of, cells_in}
use Rattle.tenant_desk.specs.Kept.{IsRest, AreInLine}
use Rattle.tenant_desk.specs.Joining.{with_rest, MeetsRest}

-- all cells of the two
pub rest_cells : (f : Range) (rest : List Range) → (with_rest f rest).cells ≡ f.cells ++ cells_of rest
rest_cells f [] = sym (append-nil f.cells)
rest_cells f (r ∷ rest) = rest_cells (joined f r) rest ∙ append_assoc (f.cells) (r.cells) (cells_of rest)

rest_first : (f : Range) (rest : List Range) → (with_rest f rest).first ≡ f.first
rest_first f [] = refl
rest_first f (r ∷ rest) = rest_first (joined f r) rest

rest_arena : (f : Range) (rest : List Range) → (with_rest f rest).arena ≡ f.arena
rest_arena f [] = refl
rest_arena f (r ∷ rest) = rest_arena (joined f r) rest

-- ---- one run and the rest

meets_end : (a : Arena) (f : Range) (rest : List Range) → f.arena ≡ a → IsRest a (f.first + length f.cells) rest → MeetsRest f rest
meets_end a f [] e k = tt
meets_end a f (r ∷ []) e k = record { arena = e ∙ sym k.0; end = sym k.1 }
meets_end a f (r ∷ s ∷ rest) e k = absurd k

rest_end : (a : Arena) (f : Range) (rest : List Range) → f.arena ≡ a → IsRest a (f.first + length f.cells) rest → IsRest a f.first (with_rest f rest ∷ [])
rest_end a f [] e k = (e, refl, k)
rest_end a f (r ∷ []) e k = (e, refl, omega (arith, length-append f.cells r.cells, k.1, k.2))
rest_end a f (r ∷ s ∷ rest) e k = absurd k

-- ---- the last piece, whose holes are one

pub last_meets : (a : Arena) (most from : ℕ) (hs : List Holed) (h : Holed) (rest : List Range) (f : Range) → AreInLine a most from (hs ++ h ∷ []) rest → run_of f ≡ h.base → f.arena ≡ h.arena
    → MeetsRest f rest
last_meets a most from [] h rest f k base arena = meets_end a f rest (arena ∙ k.0.arena) (subst (λ (r : Run). IsRest a (end_of r) rest) (sym base) k.1)
last_meets a most from (g ∷ hs) h rest f k base arena = last_meets a most (end_of g.base) hs h rest f k.1 base arena

pub last_line : (a : Arena) (most from : ℕ) (hs : List Holed) (h : Holed) (rest : List Range) (f : Range) → AreInLine a most from (hs ++ h ∷ []) rest → run_of f ≡ h.base → f.arena ≡ h.arena
    → AreInLine a most from hs (with_rest f rest ∷ [])
last_line a most from [] h rest f k base arena =
    subst (λ n. IsRest a n (with_rest f rest ∷ [])) (ap (λ (r : Run). r.first) base ∙ k.0.first)
    (rest_end a f rest (arena ∙ k.0.arena) (subst (λ (r : Run). IsRest a (end_of r) rest) (sym base) k.1))
last_line a most from (g ∷ hs) h rest f k base arena = (k.0, last_line a most (end_of g.base) hs h rest f k.1 base arena)

pub last_cells : (hs : List Holed) (h : Holed) (rest : List Range) (f : Range) → h.holes ≡ f ∷ [] → cells_in (hs ++ h ∷ []) ++ cells_of rest ≡ cells_in hs ++ cells_of (with_rest f rest ∷ [])
last_cells [] h rest f e =
    ap (λ (l : List Cell). l ++ cells_of rest) (append-nil (cells_of h.holes) ∙ ap cells_of e ∙ append-nil f.cells)
    ∙ sym (rest_cells f rest) ∙ sym (append-nil (with_rest f rest).cells)
last_cells (g ∷ hs) h rest f e =
    append_assoc (cells_of g.holes) (cells_in (hs ++ h ∷ [])) (cells_of rest)
    ∙ ap (λ (l : List Cell). cells_of g.holes ++ l) (last_cells hs h rest f e)
    ∙ sym (append_assoc (cells_of g.holes) (cells_in hs) (cells_of (with_rest f rest ∷ [])))

pub last_none : (hs : List Holed) (h : Holed) → NoneOut (hs ++ h ∷ []) → (h.out ≡ []) × NoneOut hs
last_none [] h k = (k.0, tt)
last_none (g ∷ hs) h k = let q = last_none hs h k.1 in (q.0, (k.0, q.1))

-- ---- at the end

pub all_whole : (a : Arena) (r : Range) → IsRest a 0 (r ∷ []) → IsWhole r
all_whole a r k = record { from = k.1; all = omega (arith, k.1, k.2, ap (λ (x : Arena). x.cells) k.0) }

pub one_left : (a : Arena) → 1 ≤ a.cells → IsRest a 0 [] → ⊥
one_left a some k = omega (arith, some, k)

-- ---- one turn: the last of these pieces is joined with the rest

pub turn_none : (xs hs : List Holed) (h : Holed) → xs ≡ hs ++ h ∷ [] → NoneOut xs → h.out ≡ []
turn_none xs hs h e k = (last_none hs h (subst NoneOut e k)).0

pub turn_meets : (a : Arena) (most : ℕ) (xs hs : List Holed) (h : Holed) (rest : List Range) (f : Range) → xs ≡ hs ++ h ∷ [] → AreInLine a most 0 xs rest → run_of f ≡ h.base
    → f.arena ≡ h.arena → MeetsRest f rest
turn_meets a most xs hs h rest f e k base arena = last_meets a most 0 hs h rest f (subst (λ (l : List Holed). AreInLine a most 0 l rest) e k) base arena

pub turn_line : (a : Arena) (most : ℕ) (xs hs : List Holed) (h : Holed) (rest : List Range) (f r : Range) → xs ≡ hs ++ h ∷ [] → AreInLine a most 0 xs rest → run_of f ≡ h.base
    → f.arena ≡ h.arena → r ≡ with_rest f rest → AreInLine a most 0 hs (r ∷ [])
turn_line a most xs hs h rest f r e k base arena is =
    subst (λ (x : Range). AreInLine a most 0 hs (x ∷ [])) (sym is)
    (last_line a most 0 hs h rest f (subst (λ (l : List Holed). AreInLine a most 0 l rest) e k) base arena)

pub turn_cells : (all : List Cell) (xs hs : List Holed) (h : Holed) (rest : List Range) (f r : Range) → xs ≡ hs ++ h ∷ [] → cells_in xs ++ cells_of rest ≡ all → h.holes ≡ f ∷ []
    → r ≡ with_rest f rest → cells_in hs ++ cells_of (r ∷ []) ≡ all
turn_cells all xs hs h rest f r e k one is =
    ap (λ (x : Range). cells_in hs ++ cells_of (x ∷ [])) is ∙ sym (last_cells hs h rest f one) ∙ ap (λ (l : List Holed). cells_in l ++ cells_of rest) (sym e) ∙ k

pub turn_rest : (xs hs : List Holed) (h : Holed) → xs ≡ hs ++ h ∷ [] → NoneOut xs → NoneOut hs
turn_rest xs hs h e k = (last_none hs h (subst NoneOut e k)).1
