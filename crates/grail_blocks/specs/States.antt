-- Cited by contracts.
-- The state of locals at each place of a block: a local isn't bound, is ready, or is spent, by the events before the
-- place. A use spends a local that is owned, a look spends none, and a binding makes a local ready, whatever it was
-- before. That is the bookkeeping of the affine rule of LFPL (Hofmann 2000): well-formed code, its check, and what is
-- known of a running machine all speak of these states.
use Rattle.std.specs.Prelude.{◌≡◌, ℕ, Bool, ◌&&◌, ◌==◌, if◌then◌else◌, List, [], ◌∷◌, ◌++◌, map, take, IsTrue}
use Rattle.std.specs.List.{AllByRecursion}
use Rattle.grail_blocks.specs.Blocks.{Let, Block}
use Rattle.grail_blocks.specs.Events.{Event, Use, Look, Bind, Wants, Binds, Reads, let_events, term_events, ways, block_events}

pub data Status : Type 0 where
  Unbound : Status
  Ready : Status
  Spent : Status

abbrev pub State : Type 0
State = ℕ → Status

abbrev pub nothing_bound : State
nothing_bound = λ x. Unbound

-- the local has a new value, which wasn't used
abbrev pub bind : State → ℕ → State
bind s x = λ y. if x == y then Ready else s y

-- a use of this local; `is_owned` says which locals are owned: those of a heap kind that aren't lent
abbrev pub use_of : (ℕ → Bool) → State → ℕ → State
use_of is_owned s x = λ y. if (x == y) && is_owned x then Spent else s y

abbrev pub after : (ℕ → Bool) → State → List Event → State
after is_owned s [] = s
after is_owned s (Bind x ∷ events) = after is_owned (bind s x) events
after is_owned s (Use x ∷ events) = after is_owned (use_of is_owned s x) events
after is_owned s (Look x ∷ events) = after is_owned s events

-- each use and each look finds its local ready
abbrev pub AreReady : (ℕ → Bool) → State → List Event → Type 0
AreReady is_owned s [] = Unit {0}
AreReady is_owned s (Bind x ∷ events) = AreReady is_owned (bind s x) events
AreReady is_owned s (Use x ∷ events) = (s x ≡ Ready) × AreReady is_owned (use_of is_owned s x) events
AreReady is_owned s (Look x ∷ events) = (s x ≡ Ready) × AreReady is_owned s events

-- ---- the places of a block; `reads` says which arguments of calls are only looked at

-- at the beginning, where the parameters are bound
abbrev pub at_start : (ℕ → Bool) → Block → State
at_start is_owned b = after is_owned nothing_bound (map Bind b.params)

-- behind a let
abbrev pub after_let : Reads → (ℕ → Bool) → State → Let → State
after_let reads is_owned s l = after is_owned s (let_events reads l)

abbrev pub after_lets : Reads → (ℕ → Bool) → State → List Let → State
after_lets reads is_owned s [] = s
after_lets reads is_owned s (l ∷ ls) = after_lets reads is_owned (after_let reads is_owned s l) ls

-- before the let of this number, counted from 0; at the number of lets, before the end of the block
abbrev pub state_at : Reads → (ℕ → Bool) → Block → ℕ → State
state_at reads is_owned b n = after_lets reads is_owned (at_start is_owned b) (take n b.lets)

-- behind all lets, before the end of the block
abbrev pub at_term : Reads → (ℕ → Bool) → Block → State
at_term reads is_owned b = after_lets reads is_owned (at_start is_owned b) b.lets

-- behind the end's own uses, where the ways on begin
abbrev pub behind_term : Reads → (ℕ → Bool) → Block → State
behind_term reads is_owned b = after is_owned (at_term reads is_owned b) (term_events reads b.term)

-- the uses of the lets from a state on
abbrev pub LetsReady : Reads → (ℕ → Bool) → State → List Let → Type 0
LetsReady reads is_owned s [] = Unit {0}
LetsReady reads is_owned s (l ∷ ls) = AreReady is_owned s (let_events reads l) × LetsReady reads is_owned (after_let reads is_owned s l) ls

-- up to the block's end, and on each way on
pub record UsesReady (reads : Reads) (is_owned : ℕ → Bool) (blocks : List Block) (b : Block) : Type 0 where
  pub lets : LetsReady reads is_owned (at_start is_owned b) b.lets
  pub term : AreReady is_owned (at_term reads is_owned b) (term_events reads b.term)
  pub onward : AllByRecursion (AreReady is_owned (behind_term reads is_owned b)) (ways blocks b.term)

-- ---- the same in words without states

-- What is used or looked at was bound before, and what is owned is bound anew between a use and a further use or look.
pub record IsAffine (is_owned : ℕ → Bool) (events : List Event) : Type 0 where
  pub bound : (x : ℕ) (want : Event) (before rest : List Event) → Wants x want → events ≡ before ++ want ∷ rest → Binds x before
  pub once : (x : ℕ) (want : Event) (before between rest : List Event) → IsTrue (is_owned x) → Wants x want
      → events ≡ before ++ Use x ∷ (between ++ want ∷ rest) → Binds x between

-- up to the block's end, and on each way on
pub record UsesAffinely (reads : Reads) (is_owned : ℕ → Bool) (blocks : List Block) (b : Block) : Type 0 where
  pub inside : IsAffine is_owned (block_events reads b)
  pub onward : AllByRecursion (λ way. IsAffine is_owned (block_events reads b ++ way)) (ways blocks b.term)
