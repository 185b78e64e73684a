-- Laws, for the proofs of this crate and of those above it.
-- What a step does to the frames that wait: they stay, or the frame that ran waits too, or the last one to wait runs.
use Rattle.std.proofs.Common.{◌≡◌, ℕ, Bool, true, false, List, [], ◌∷◌, Option, Some, None, refl, inl, inr, length}
use Rattle.std.specs.Prelude.{◌==◌, ◌-◌, ◌⊎◌, cond, if◌then◌else◌, slice_get, slice_set}
use Rattle.camelot_values.specs.Value.{Value, Int}
use Rattle.camelot_values.specs.Kinds.{place_of}
use Rattle.camelot_values.specs.Operator.{operate}
use Rattle.camelot_values.specs.Outcome.{Outcome, Done, Fuel, Deep, Trap, Stuck}
use Rattle.camelot_values.specs.Runs.{is_too_deep}
use Rattle.camelot_values.specs.declared.kinds.Kind.{Kind}
use Rattle.grail_blocks.specs.declared.blocks.CaseCell.{CaseCell}
use Rattle.grail_blocks.specs.declared.blocks.CaseCell.TheVariants as cell
use Rattle.grail_blocks.specs.declared.blocks.Place.{Place}
use Rattle.grail_blocks.specs.declared.blocks.Place.TheVariants as place
use Rattle.grail_blocks.specs.Running.{arm_at}
use Rattle.grail_code.specs.Code.{Op, Lit, Flag, Copy, Prim, Make, Call, Let, CaseArm, Term, Ret, Tail, Goto, If, Case, Block, Func, Code}
use Rattle.cell_machine.specs.Cells.{word_int, is_inline_word, inline_base, built_cell, first_word}
use Rattle.cell_machine.specs.State.{Activation, Configuration, OutOfFuel, TooDeep, Machine, Running, Over}
use Rattle.cell_machine.specs.Steps.{if_there, words_of, with_cells, raised, next_let, jumped, over, entry_frame, entered, called, operated, made, let_step, let_at, advanced, returned, put_words, matched, cased, branched, term_step, place_step, step}

-- the frame that ran waits now
abbrev pub Pushed : (s t : Configuration) → Type 0
Pushed s t = t.waiting ≡ s.frame ∷ s.waiting

-- the last frame to wait runs again, in its block
pub record Popped (s t : Configuration) : Type 0 where
  pub fr : Activation
  pub was : s.waiting ≡ fr ∷ t.waiting
  pub func : t.frame.func ≡ fr.func
  pub block : t.frame.block ≡ fr.block

abbrev pub Moves : Configuration → Option Machine → Type 0
Moves s None = Unit {0}
Moves s (Some (Over f)) = Unit {0}
Moves s (Some (Running t)) = (t.waiting ≡ s.waiting) ⊎ (Pushed s t ⊎ Popped s t)

there_moves : {A : Type 0} (s : Configuration) (o : Option A) (next : A → Option Machine) → ((x : A) → Moves s (next x)) → Moves s (if_there o next)
there_moves s None next h = tt
there_moves s (Some x) next h = h x

call_moves : (p : Code) (limit : ℕ) (s : Configuration) (tail : Bool) (func : ℕ) (ws : List ℕ) → Moves s (called p limit s tail func ws)
call_moves p limit s tail func ws = by_fuel (s.fuel == 0)
  where
    by_func : (tail : Bool) → Moves s (if_there (slice_get p.funcs func) (λ f. Some (Running (entered s (entry_frame func f ws) (cond tail s.waiting (s.frame ∷ s.waiting))))))
    by_func true = there_moves s (slice_get p.funcs func) (λ f. Some (Running (entered s (entry_frame func f ws) s.waiting))) (λ f. inl refl)
    by_func false = there_moves s (slice_get p.funcs func) (λ f. Some (Running (entered s (entry_frame func f ws) (s.frame ∷ s.waiting)))) (λ f. inr (inl refl))

    by_depth : (d : Bool) → Moves s (if d then over s TooDeep else if_there (slice_get p.funcs func) (λ f. Some (Running (entered s (entry_frame func f ws) (cond tail s.waiting (s.frame ∷ s.waiting))))))
    by_depth true = tt
    by_depth false = by_func tail

    by_fuel : (b : Bool) → Moves s (if b then over s OutOfFuel else (if is_too_deep limit (length s.waiting) tail then over s TooDeep else if_there (slice_get p.funcs func) (λ f. Some (Running (entered s (entry_frame func f ws) (cond tail s.waiting (s.frame ∷ s.waiting)))))))
    by_fuel true = tt
    by_fuel false = by_depth (is_too_deep limit (length s.waiting) tail)

operator_moves : (s : Configuration) (x : ℕ) (o : Outcome Value) → Moves s (operated s x o)
operator_moves s x (Done v calls peak low) = inl refl
operator_moves s x (Fuel calls peak) = tt
operator_moves s x (Deep peak) = tt
operator_moves s x (Trap peak) = tt
operator_moves s x Stuck = tt

made_moves : (s : Configuration) (x con : ℕ) (ws : List ℕ) (at : Place) → Moves s (made s x con ws at)
made_moves s x con ws place.Inline = inl refl
made_moves s x con ws place.New = there_moves s (slice_get s.cells s.head) (λ free. next_let (raised (with_cells s (slice_set s.cells s.head (built_cell con ws)) (first_word free))) x s.head) (λ free. inl refl)
made_moves s x con ws (place.Reuse d) =
    there_moves s (slice_get s.frame.words d) (λ at. if_there (slice_get s.cells at) (λ old. next_let (with_cells s (slice_set s.cells at (built_cell con ws)) s.head) x at))
    (λ at. there_moves s (slice_get s.cells at) (λ old. next_let (with_cells s (slice_set s.cells at (built_cell con ws)) s.head) x at) (λ old. inl refl))

let_moves : (p : Code) (limit : ℕ) (s : Configuration) (x : ℕ) (op : Op) → Moves s (let_step p limit s x op)
let_moves p limit s x (Lit z) = inl refl
let_moves p limit s x (Flag b) = inl refl
let_moves p limit s x (Copy y) = there_moves s (slice_get s.frame.words y) (λ w. next_let s x w) (λ w. inl refl)
let_moves p limit s x (Prim op y z) =
    there_moves s (slice_get s.frame.words y) (λ u. if_there (slice_get s.frame.words z) (λ v. operated s x (operate op (Int (word_int u)) (Int (word_int v)))))
    (λ u. there_moves s (slice_get s.frame.words z) (λ v. operated s x (operate op (Int (word_int u)) (Int (word_int v)))) (λ v. operator_moves s x (operate op (Int (word_int u)) (Int (word_int v)))))
let_moves p limit s x (Make con args at) = there_moves s (words_of s.frame.words args) (λ ws. made s x con ws at) (λ ws. made_moves s x con ws at)
let_moves p limit s x (Call func args) = there_moves s (words_of s.frame.words args) (λ ws. called p limit s false func ws) (λ ws. call_moves p limit s false func ws)

return_moves : (p : Code) (s : Configuration) (kind : Kind) (w : ℕ) (frs : List Activation) → s.waiting ≡ frs → Moves s (returned p s kind w frs)
return_moves p s kind w [] e = tt
return_moves p s kind w (fr ∷ frs) e =
    there_moves s (let_at p fr) (λ l. Some (Running (record { cells = s.cells; head = s.head; frame = advanced fr l.target w; waiting = frs; fuel = s.fuel; calls = s.calls; peak = s.peak; low = s.low })))
    (λ l. inr (inr (record { fr = fr; was = e; func = refl; block = refl })))

match_moves : (s : Configuration) (at : ℕ) (c : CaseCell) (b : ℕ) (ws : List ℕ) → Moves s (matched s at c b ws)
match_moves s at cell.Inline b ws = inl refl
match_moves s at cell.Look b ws = inl refl
match_moves s at cell.Free b ws = inl refl
match_moves s at (cell.Keep d) b ws = inl refl

case_moves : (p : Code) (s : Configuration) (arms : List CaseArm) (w : ℕ) → Moves s (cased p s arms w)
case_moves p s arms w = by_word (is_inline_word w)
  where
    by_word : (b : Bool) → Moves s (if b
        then if_there (arm_at arms (place_of p.types (w - inline_base))) (λ a. jumped s a.target s.frame.words)
        else if_there (slice_get s.cells w) (λ c. if_there (arm_at arms (place_of p.types c.tag)) (λ a. matched s w a.cell a.target (put_words s.frame.words a.fields c.words))))
    by_word true = there_moves s (arm_at arms (place_of p.types (w - inline_base))) (λ a. jumped s a.target s.frame.words) (λ a. inl refl)
    by_word false =
        there_moves s (slice_get s.cells w) (λ c. if_there (arm_at arms (place_of p.types c.tag)) (λ a. matched s w a.cell a.target (put_words s.frame.words a.fields c.words)))
        (λ c. there_moves s (arm_at arms (place_of p.types c.tag)) (λ a. matched s w a.cell a.target (put_words s.frame.words a.fields c.words))
        (λ a. match_moves s w a.cell a.target (put_words s.frame.words a.fields c.words)))

branch_moves : (s : Configuration) (w first second : ℕ) → Moves s (branched s w first second)
branch_moves s w first second = by_one (w == 1) (w == 0)
  where
    by_one : (a b : Bool) → Moves s (if a then jumped s first s.frame.words else (if b then jumped s second s.frame.words else None))
    by_one true b = inl refl
    by_one false true = inl refl
    by_one false false = tt

end_moves : (p : Code) (limit : ℕ) (s : Configuration) (f : Func) (t : Term) → Moves s (term_step p limit s f t)
end_moves p limit s f (Ret x) = there_moves s (slice_get s.frame.words x) (λ w. returned p s f.result w s.waiting) (λ w. return_moves p s f.result w s.waiting refl)
end_moves p limit s f (Tail func args) = there_moves s (words_of s.frame.words args) (λ ws. called p limit s true func ws) (λ ws. call_moves p limit s true func ws)
end_moves p limit s f (Goto b) = inl refl
end_moves p limit s f (If x first second) = there_moves s (slice_get s.frame.words x) (λ w. branched s w first second) (λ w. branch_moves s w first second)
end_moves p limit s f (Case x arms) = there_moves s (slice_get s.frame.words x) (λ w. cased p s arms w) (λ w. case_moves p s arms w)

pub step_moves : (p : Code) (limit : ℕ) (s : Configuration) → Moves s (step p limit s)
step_moves p limit s =
    there_moves s (slice_get p.funcs s.frame.func) (λ f. if_there (slice_get f.blocks s.frame.block) (λ b. place_step p limit s f b (slice_get b.lets s.frame.place)))
    (λ f. there_moves s (slice_get f.blocks s.frame.block) (λ b. place_step p limit s f b (slice_get b.lets s.frame.place)) (λ b. by_let f b (slice_get b.lets s.frame.place)))
  where
    by_let : (f : Func) (b : Block) (o : Option Let) → Moves s (place_step p limit s f b o)
    by_let f b None = end_moves p limit s f b.term
    by_let f b (Some l) = let_moves p limit s l.target l.op
