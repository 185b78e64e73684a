-- An operand that is too deep sinks at its first token.
use Rattle.std.proofs.Common.{◌≡◌, ℕ, suc, ◌<◌, nat_le, true, false, if◌then◌else◌, List, [], None, ap, ◌∙◌, arith}
use Rattle.camelot_grammar.specs.declared.lexeme.Mark.TheVariants as mark
use Rattle.camelot_grammar.specs.declared.lexeme.Lexeme.{Lexeme}
use Rattle.camelot_grammar.specs.declared.lexeme.Lexeme.TheVariants.{Lower, Upper, Number, Mark}
use Rattle.camelot_grammar.specs.Machine as mc
use Rattle.camelot_grammar.specs.Machine.{State, Frame, Step, Stuck, Goes, limited, Sinks, Lefts, Slot}

sinks : (k : ℕ) (s : State) (st : List Frame) → 200 < k → limited (Goes k s st) ≡ Sinks
sinks k s st h = let e : nat_le k 200 ≡ false = grind (arith, h) in ap (λ b. if b then mc.Moves s st else Sinks) e

slot_too_deep : (s : Slot) (t : Lexeme) (st : List Frame) → mc.begins_pre t ≡ true → 200 < s.level → limited (mc.slot_step s t st) ≡ Sinks
unfolding mc.slot_step mc.unit_step
slot_too_deep s (Mark mark.Not l) st h i = sinks _ _ _ i
slot_too_deep s (Mark mark.Minus l) st h i = sinks _ _ _ i
slot_too_deep s (Lower n) st h i = sinks _ _ _ i
slot_too_deep s (Upper n) st h i = sinks _ _ _ i
slot_too_deep s (Number n l) st h i = sinks _ _ _ i
slot_too_deep s (Mark mark.True l) st h i = sinks _ _ _ i
slot_too_deep s (Mark mark.False l) st h i = sinks _ _ _ i
slot_too_deep s (Mark mark.Open l) st h i = sinks _ _ _ i
slot_too_deep s t st h i = absurd cc

pub pre_too_deep : (c : Lefts) (nots : List ℕ) (k : ℕ) (t : Lexeme) (st : List Frame) → mc.begins_pre t ≡ true → 200 < suc k
    → limited (mc.pre_step c nots k t st) ≡ Sinks
unfolding mc.pre_step
pre_too_deep c nots k t st h i =
    ap (λ b. limited (if b then mc.slot_step (record { lefts = c; nots = nots; level = suc k }) t st else Stuck)) h
    ∙ slot_too_deep (record { lefts = c; nots = nots; level = suc k }) t st h i

pub begin_too_deep : (k : ℕ) (t : Lexeme) (st : List Frame) → mc.begins_pre t ≡ true → 200 < suc k
    → limited (mc.pre_step (mc.lefts (suc k) None None None None None) [] (suc k) t st) ≡ Sinks
begin_too_deep k t st h i = pre_too_deep (mc.lefts (suc k) None None None None None) [] (suc k) t st h (omega arith)
