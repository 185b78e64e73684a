-- Laws, for the proofs of this crate and of those above it.
-- One run after another: what holds of both parts holds of the whole.
use Rattle.std.proofs.Common.{◌≡◌, ℕ, ◌+◌, ◌-◌, ◌*◌, ◌≤◌, refl, arith}
use Rattle.camelot_values.specs.Outcome.{Outcome, Done, Fuel, Deep, Trap, Stuck, after, first_then}
use Rattle.std.specs.Prelude.{List}
use Rattle.camelot_values.specs.Value.{Value}
use Rattle.camelot_values.specs.Kinds.{DataType}
use Rattle.camelot_values.specs.Typing.{Fits, IsSafe}
use Rattle.camelot_values.specs.declared.kinds.Kind.{Kind}
use Rattle.camelot_values.specs.Bounds.{Yields, IsPaidBy, IsStop, same_stop}

pub yields_after : {A : Type 0} (P : A → Type 0) (c p l : ℕ) (o : Outcome A) → Yields P o → Yields P (after c p l o)
yields_after P c p l (Done v d q m) h = h
yields_after P c p l (Fuel d q) h = tt
yields_after P c p l (Deep q) h = tt
yields_after P c p l (Trap q) h = tt
yields_after P c p l Stuck h = absurd h

pub yields_then : {A B : Type 0} (P : A → Type 0) (Q : B → Type 0) (k : ℕ) (o : Outcome A) (next : ℕ → A → Outcome B)
    → Yields P o → ((j : ℕ) (v : A) → P v → Yields Q (next j v)) → Yields Q (first_then k o next)
yields_then P Q k (Done v c p l) next h go = yields_after Q c p l (next (k - c) v) (go (k - c) v h)
yields_then P Q k (Fuel c p) next h go = tt
yields_then P Q k (Deep p) next h go = tt
yields_then P Q k (Trap p) next h go = tt
yields_then P Q k Stuck next h go = absurd h

pub sound_then : (types : List DataType) (q r : Kind) (k : ℕ) (o : Outcome Value) (next : ℕ → Value → Outcome Value)
    → IsSafe types q o → ((j : ℕ) (v : Value) → Fits types q v → IsSafe types r (next j v)) → IsSafe types r (first_then k o next)
sound_then types q r k o next h go = yields_then (Fits types q) (Fits types r) k o next h go

peaks : (u top mid p l q : ℕ) → u * p ≤ top → u * p + mid ≤ top + u * l → u * q ≤ mid → u * (p + (q - l)) ≤ top
peaks u top mid p l q a b c = grind (arith, a, b, c)

nets : (u top mid p l q m rest : ℕ) → u * p + mid ≤ top + u * l → u * q + rest ≤ mid + u * m → u * (p + (q - l)) + rest ≤ top + u * (m + (l - q))
nets u top mid p l q m rest b c = grind (arith, b, c)

pub paid_after : {A : Type 0} (u top mid : ℕ) (left : A → ℕ) (c p l : ℕ) (o : Outcome A) → u * p ≤ top → u * p + mid ≤ top + u * l
    → IsPaidBy u mid left o → IsPaidBy u top left (after c p l o)
paid_after u top mid left c p l (Done v d q m) a b h = (peaks u top mid p l q a b h.0, nets u top mid p l q m (left v) b h.1)
paid_after u top mid left c p l (Fuel d q) a b h = peaks u top mid p l q a b h
paid_after u top mid left c p l (Deep q) a b h = peaks u top mid p l q a b h
paid_after u top mid left c p l (Trap q) a b h = peaks u top mid p l q a b h
paid_after u top mid left c p l Stuck a b h = tt

pub paid_then : {A B : Type 0} (u top : ℕ) (between : A → ℕ) (left : B → ℕ) (k : ℕ) (o : Outcome A) (next : ℕ → A → Outcome B)
    → IsPaidBy u top between o → ((j : ℕ) (v : A) → IsPaidBy u (between v) left (next j v)) → IsPaidBy u top left (first_then k o next)
paid_then u top between left k (Done v c p l) next h go = paid_after u top (between v) left c p l (next (k - c) v) h.0 h.1 (go (k - c) v)
paid_then u top between left k (Fuel c p) next h go = h
paid_then u top between left k (Deep p) next h go = h
paid_then u top between left k (Trap p) next h go = h
paid_then u top between left k Stuck next h go = tt

-- A stop stays the same stop, whatever was to follow.
pub stop_then : {A B : Type 0} (k : ℕ) (o : Outcome A) (next : ℕ → A → Outcome B) → IsStop o → first_then k o next ≡ same_stop o
stop_then k (Done v c p l) next h = absurd h
stop_then k (Fuel c p) next h = refl
stop_then k (Deep p) next h = refl
stop_then k (Trap p) next h = refl
stop_then k Stuck next h = refl
