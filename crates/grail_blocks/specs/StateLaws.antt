-- Laws, for the proofs of this crate and of those above it.
-- Laws of the states of locals: what they say in words, and what depends on ready locals alone.
use Rattle.std.proofs.Common.{◌≡◌, ℕ, zero, suc, Bool, true, false, List, [], ◌∷◌, ◌++◌, length, map, refl, sym, ap, ◌∙◌, subst, arith, append_assoc, length-append, inl, inr}
use Rattle.std.specs.Prelude.{◌==◌, ◌&&◌, if◌then◌else◌, flat_map, take, slice_get, Some, None, ◌⊎◌}
use Rattle.std.specs.List.{AllByRecursion}
use Rattle.std.proofs.lemmas.Bool.Decides.{nat_tests}
use Rattle.grail_blocks.specs.Blocks.{Op, Lit, Flag, Copy, Prim, Make, Call, Let, Term, Ret, Tail, Goto, If, Case, Block}
use Rattle.grail_blocks.specs.Events.{Event, Use, Look, Bind, Wants, Binds, Reads, no_reads, taken_by, read_by, argument_events, operands_of, uses_of, let_events, term_uses, term_events, ways, block_events}
use Rattle.grail_blocks.specs.States.{Status, Unbound, Ready, Spent, State, nothing_bound, bind, use_of, after, AreReady, at_start, after_let, after_lets, at_term, behind_term, state_at, LetsReady, UsesReady, IsAffine, UsesAffinely}

-- ---- one list of events behind another

pub after_append : (h : ℕ → Bool) (s : State) (es ds : List Event) → after h s (es ++ ds) ≡ after h (after h s es) ds
after_append h s [] ds = refl
after_append h s (Bind x ∷ es) ds = after_append h (bind s x) es ds
after_append h s (Use x ∷ es) ds = after_append h (use_of h s x) es ds
after_append h s (Look x ∷ es) ds = after_append h s es ds

pub ready_first : (h : ℕ → Bool) (s : State) (es ds : List Event) → AreReady h s (es ++ ds) → AreReady h s es
ready_first h s [] ds r = tt
ready_first h s (Bind x ∷ es) ds r = ready_first h (bind s x) es ds r
ready_first h s (Use x ∷ es) ds r = (r.0, ready_first h (use_of h s x) es ds r.1)
ready_first h s (Look x ∷ es) ds r = (r.0, ready_first h s es ds r.1)

pub ready_second : (h : ℕ → Bool) (s : State) (es ds : List Event) → AreReady h s (es ++ ds) → AreReady h (after h s es) ds
ready_second h s [] ds r = r
ready_second h s (Bind x ∷ es) ds r = ready_second h (bind s x) es ds r
ready_second h s (Use x ∷ es) ds r = ready_second h (use_of h s x) es ds r.1
ready_second h s (Look x ∷ es) ds r = ready_second h s es ds r.1

pub ready_both : (h : ℕ → Bool) (s : State) (es ds : List Event) → AreReady h s es → AreReady h (after h s es) ds → AreReady h s (es ++ ds)
ready_both h s [] ds r q = q
ready_both h s (Bind x ∷ es) ds r q = ready_both h (bind s x) es ds r q
ready_both h s (Use x ∷ es) ds r q = (r.0, ready_both h (use_of h s x) es ds r.1 q)
ready_both h s (Look x ∷ es) ds r q = (r.0, ready_both h s es ds r.1 q)

pub ready_binds : (h : ℕ → Bool) (s : State) (xs : List ℕ) → AreReady h s (map Bind xs)
ready_binds h s [] = tt
ready_binds h s (x ∷ xs) = ready_binds h (bind s x) xs

-- ---- what a status says

bound_at : (s : State) (x y : ℕ) → bind s x y ≡ Ready → (x ≡ y) ⊎ (s y ≡ Ready)
bound_at s x y e = by_test (x == y) refl e
  where
    by_test : (b : Bool) → (x == y) ≡ b → (if b then Ready else s y) ≡ Ready → (x ≡ y) ⊎ (s y ≡ Ready)
    by_test true t e = inl (grind (arith, nat_tests, t))
    by_test false t e = inr e

pub used_ready : (h : ℕ → Bool) (s : State) (x y : ℕ) → use_of h s x y ≡ Ready → s y ≡ Ready
used_ready h s x y e = by_test ((x == y) && h x) e
  where
    by_test : (b : Bool) → (if b then Spent else s y) ≡ Ready → s y ≡ Ready
    by_test true e = absurd cc
    by_test false e = e

pub uses_ready : (h : ℕ → Bool) (s : State) (xs : List ℕ) (y : ℕ) → after h s (map Use xs) y ≡ Ready → s y ≡ Ready
uses_ready h s [] y e = e
uses_ready h s (x ∷ xs) y e = used_ready h s x y (uses_ready h (use_of h s x) xs y e)

looks_ready : (h : ℕ → Bool) (s : State) (xs : List ℕ) (y : ℕ) → after h s (map Look xs) y ≡ Ready → s y ≡ Ready
looks_ready h s [] y e = e
looks_ready h s (x ∷ xs) y e = looks_ready h s xs y e

-- a local is ready behind a binding where it is what was bound, or was ready
pub bind_ready : (s : State) (x y : ℕ) → bind s x y ≡ Ready → (x ≡ y) ⊎ (s y ≡ Ready)
bind_ready = bound_at

bind_here : (s : State) (x : ℕ) → bind s x x ≡ Ready
bind_here s x = let t : (x == x) ≡ true = grind (arith, nat_tests) in ap (λ b. if b then Ready else s x) t

bind_else : (s : State) (x y : ℕ) → (x ≡ y → ⊥) → bind s x y ≡ s y
bind_else s x y n = by_test (x == y) refl
  where
    by_test : (b : Bool) → (x == y) ≡ b → (if b then Ready else s y) ≡ s y
    by_test true t = absurd (n (grind (arith, nat_tests, t)))
    by_test false t = refl

-- what is in front of a list of events in which the local is bound
in_front : (d : Event) (x : ℕ) (es : List Event) → Binds x es → Binds x (d ∷ es)
in_front d x es b = (d ∷ b.0, b.1, ap (λ l. d ∷ l) b.2)

bound_first : (x : ℕ) (es : List Event) → Binds x (Bind x ∷ es)
bound_first x es = ([], es, refl)

ready_was : (h : ℕ → Bool) (s : State) (es : List Event) (x : ℕ) → after h s es x ≡ Ready → (s x ≡ Ready) ⊎ Binds x es
ready_was h s [] x e = inl e
ready_was h s (Use y ∷ es) x e = either (ready_was h (use_of h s y) es x e)
  where
    either : (use_of h s y x ≡ Ready) ⊎ Binds x es → (s x ≡ Ready) ⊎ Binds x (Use y ∷ es)
    either (inl k) = inl (used_ready h s y x k)
    either (inr b) = inr (in_front (Use y) x es b)
ready_was h s (Look y ∷ es) x e = either (ready_was h s es x e)
  where
    either : (s x ≡ Ready) ⊎ Binds x es → (s x ≡ Ready) ⊎ Binds x (Look y ∷ es)
    either (inl k) = inl k
    either (inr b) = inr (in_front (Look y) x es b)
ready_was h s (Bind y ∷ es) x e = either (ready_was h (bind s y) es x e)
  where
    here : (y ≡ x) ⊎ (s x ≡ Ready) → (s x ≡ Ready) ⊎ Binds x (Bind y ∷ es)
    here (inl k) = inr (subst (λ z. Binds z (Bind y ∷ es)) k (bound_first y es))
    here (inr k) = inl k

    either : (bind s y x ≡ Ready) ⊎ Binds x es → (s x ≡ Ready) ⊎ Binds x (Bind y ∷ es)
    either (inl k) = here (bound_at s y x k)
    either (inr b) = inr (in_front (Bind y) x es b)

-- a local that isn't bound wasn't, and no event binds it
pub record StillUnbound (s : State) (es : List Event) (x : ℕ) : Type 0 where
  pub was : s x ≡ Unbound
  pub never : Binds x es → ⊥

not_in_nothing : (x : ℕ) → Binds x [] → ⊥
not_in_nothing x (before, rest, e) = absurd (omega (arith, ap length e, length-append before (Bind x ∷ rest)))

binds_use : (x y : ℕ) (es : List Event) → Binds x (Use y ∷ es) → Binds x es
binds_use x y es ([], rest, e) = absurd cc
binds_use x y es (d ∷ before, rest, e) = (before, rest, cc)

binds_look : (x y : ℕ) (es : List Event) → Binds x (Look y ∷ es) → Binds x es
binds_look x y es ([], rest, e) = absurd cc
binds_look x y es (d ∷ before, rest, e) = (before, rest, cc)

binds_bind : (x y : ℕ) (es : List Event) → Binds x (Bind y ∷ es) → (y ≡ x) ⊎ Binds x es
binds_bind x y es ([], rest, e) = inl cc
binds_bind x y es (d ∷ before, rest, e) = inr (before, rest, cc)

pub unbound_was : (h : ℕ → Bool) (s : State) (es : List Event) (x : ℕ) → after h s es x ≡ Unbound → StillUnbound s es x
unbound_was h s [] x e = record { was = e; never = not_in_nothing x }
unbound_was h s (Use y ∷ es) x e = let q = unbound_was h (use_of h s y) es x e in record { was = by_test ((y == x) && h y) q.was; never = λ b. q.never (binds_use x y es b) }
  where
    by_test : (b : Bool) → (if b then Spent else s x) ≡ Unbound → s x ≡ Unbound
    by_test true e = absurd cc
    by_test false e = e
unbound_was h s (Look y ∷ es) x e = let q = unbound_was h s es x e in record { was = q.was; never = λ b. q.never (binds_look x y es b) }
unbound_was h s (Bind y ∷ es) x e = let q = unbound_was h (bind s y) es x e in record { was = (by_test (y == x) refl q.was).0; never = λ b. q.never (either (by_test (y == x) refl q.was).1 (binds_bind x y es b)) }
  where
    by_test : (b : Bool) → (y == x) ≡ b → (if b then Ready else s x) ≡ Unbound → (s x ≡ Unbound) × (y ≡ x → ⊥)
    by_test true t e = absurd cc
    by_test false t e = (e, λ same. let c : (y == x) ≡ true = grind (arith, nat_tests, same) in let k : false ≡ true = sym t ∙ c in absurd cc)

    either : (y ≡ x → ⊥) → (y ≡ x) ⊎ Binds x es → Binds x es
    either n (inl k) = absurd (n k)
    either n (inr b) = b

-- a spent local was used, and not bound since
pub record WasUsed (h : ℕ → Bool) (es : List Event) (x : ℕ) : Type 0 where
  pub before : List Event
  pub between : List Event
  pub is : es ≡ before ++ Use x ∷ between
  pub owned : h x ≡ true
  pub never : Binds x between → ⊥

used_later : (h : ℕ → Bool) (d : Event) (es : List Event) (x : ℕ) → WasUsed h es x → WasUsed h (d ∷ es) x
used_later h d es x u = record { before = d ∷ u.before; between = u.between; is = ap (λ l. d ∷ l) u.is; owned = u.owned; never = u.never }

pub spent_was : (h : ℕ → Bool) (s : State) (es : List Event) (x : ℕ) → after h s es x ≡ Spent → ((s x ≡ Spent) × (Binds x es → ⊥)) ⊎ WasUsed h es x
spent_was h s [] x e = inl (e, not_in_nothing x)
spent_was h s (Use y ∷ es) x e = either (spent_was h (use_of h s y) es x e)
  where
    split : (a b : Bool) → (a && b) ≡ true → (a ≡ true) × (b ≡ true)
    split true b h = (refl, h)
    split false b h = absurd cc

    by_test : (Binds x es → ⊥) → (b : Bool) → ((y == x) && h y) ≡ b → (if b then Spent else s x) ≡ Spent
        → ((s x ≡ Spent) × (Binds x (Use y ∷ es) → ⊥)) ⊎ WasUsed h (Use y ∷ es) x
    by_test n true t e = let p = split (y == x) (h y) t in let same : y ≡ x = grind (arith, nat_tests, p.0) in
        inr (record { before = []; between = es; is = ap (λ z. Use z ∷ es) same; owned = ap h (sym same) ∙ p.1; never = n })
    by_test n false t e = inl (e, λ b. n (binds_use x y es b))

    either : ((use_of h s y x ≡ Spent) × (Binds x es → ⊥)) ⊎ WasUsed h es x → ((s x ≡ Spent) × (Binds x (Use y ∷ es) → ⊥)) ⊎ WasUsed h (Use y ∷ es) x
    either (inl p) = by_test p.1 ((y == x) && h y) refl p.0
    either (inr u) = inr (used_later h (Use y) es x u)
spent_was h s (Look y ∷ es) x e = either (spent_was h s es x e)
  where
    either : ((s x ≡ Spent) × (Binds x es → ⊥)) ⊎ WasUsed h es x → ((s x ≡ Spent) × (Binds x (Look y ∷ es) → ⊥)) ⊎ WasUsed h (Look y ∷ es) x
    either (inl p) = inl (p.0, λ b. p.1 (binds_look x y es b))
    either (inr u) = inr (used_later h (Look y) es x u)
spent_was h s (Bind y ∷ es) x e = either (spent_was h (bind s y) es x e)
  where
    by_test : (Binds x es → ⊥) → (b : Bool) → (y == x) ≡ b → (if b then Ready else s x) ≡ Spent → (s x ≡ Spent) × (Binds x (Bind y ∷ es) → ⊥)
    by_test n true t e = absurd cc
    by_test n false t e = (e, λ b. cases (binds_bind x y es b))
      where
        cases : (y ≡ x) ⊎ Binds x es → ⊥
        cases (inl same) = let c : (y == x) ≡ true = grind (arith, nat_tests, same) in let k : false ≡ true = sym t ∙ c in absurd cc
        cases (inr b) = n b

    either : ((bind s y x ≡ Spent) × (Binds x es → ⊥)) ⊎ WasUsed h es x → ((s x ≡ Spent) × (Binds x (Bind y ∷ es) → ⊥)) ⊎ WasUsed h (Bind y ∷ es) x
    either (inl p) = inl (by_test p.1 (y == x) refl p.0)
    either (inr u) = inr (used_later h (Bind y) es x u)

-- ---- ready uses are affine uses

-- what an event wants is ready in front of it
wanted_ready : (h : ℕ → Bool) (s : State) (x : ℕ) (want : Event) (rest : List Event) → Wants x want → AreReady h s (want ∷ rest) → s x ≡ Ready
wanted_ready h s x (Use y) rest (inl k) r = let same : y ≡ x = cc in subst (λ z. s z ≡ Ready) same r.0
wanted_ready h s x (Use y) rest (inr k) r = absurd cc
wanted_ready h s x (Look y) rest (inl k) r = absurd cc
wanted_ready h s x (Look y) rest (inr k) r = let same : y ≡ x = cc in subst (λ z. s z ≡ Ready) same r.0
wanted_ready h s x (Bind y) rest (inl k) r = absurd cc
wanted_ready h s x (Bind y) rest (inr k) r = absurd cc

pub ready_is_affine : (h : ℕ → Bool) (events : List Event) → AreReady h nothing_bound events → IsAffine h events
ready_is_affine h events r = record { bound = bound; once = once }
  where
    bound : (x : ℕ) (want : Event) (before rest : List Event) → Wants x want → events ≡ before ++ want ∷ rest → Binds x before
    bound x want before rest n e = either (ready_was h nothing_bound before x
        (wanted_ready h (after h nothing_bound before) x want rest n (ready_second h nothing_bound before (want ∷ rest) (subst (λ l. AreReady h nothing_bound l) e r))))
      where
        either : (Unbound ≡ Ready) ⊎ Binds x before → Binds x before
        either (inl k) = absurd cc
        either (inr b) = b

    spent_here : (s : State) (x : ℕ) → h x ≡ true → use_of h s x x ≡ Spent
    spent_here s x k = let t : (x == x) ≡ true = grind (arith, nat_tests) in ap (λ b. if b && h x then Spent else s x) t ∙ ap (λ b. if b then Spent else s x) k

    once : (x : ℕ) (want : Event) (before between rest : List Event) → h x ≡ true → Wants x want
        → events ≡ before ++ Use x ∷ (between ++ want ∷ rest) → Binds x between
    once x want before between rest k n e = either (ready_was h (use_of h (after h nothing_bound before) x) between x
        (wanted_ready h (after h (use_of h (after h nothing_bound before) x) between) x want rest n
        (ready_second h (use_of h (after h nothing_bound before) x) between (want ∷ rest) (ready_second h nothing_bound before (Use x ∷ (between ++ want ∷ rest)) (subst (λ l. AreReady h nothing_bound l) e r)).1)))
      where
        either : (use_of h (after h nothing_bound before) x x ≡ Ready) ⊎ Binds x between → Binds x between
        either (inl q) = let c : Spent ≡ Ready = sym (spent_here (after h nothing_bound before) x k) ∙ q in absurd cc
        either (inr b) = b

-- what is wanted at a place is ready there
ready_here : (h : ℕ → Bool) (events before es : List Event) (x : ℕ) (want : Event) → IsAffine h events → Wants x want → events ≡ before ++ want ∷ es
    → after h nothing_bound before x ≡ Ready
ready_here h events before es x want w n e = ready (after h nothing_bound before x) refl
  where
    used : WasUsed h before x → ⊥
    used u = u.never (w.once x want u.before u.between es u.owned n (e ∙ ap (λ l. l ++ want ∷ es) u.is ∙ append_assoc u.before (Use x ∷ u.between) (want ∷ es)))

    spent : ((Unbound ≡ Spent) × (Binds x before → ⊥)) ⊎ WasUsed h before x → ⊥
    spent (inl p) = let k : Unbound ≡ Spent = p.0 in absurd cc
    spent (inr u) = used u

    ready : (t : Status) → after h nothing_bound before x ≡ t → after h nothing_bound before x ≡ Ready
    ready Ready q = q
    ready Unbound q = absurd ((unbound_was h nothing_bound before x q).never (w.bound x want before es n e))
    ready Spent q = absurd (spent (spent_was h nothing_bound before x q))

-- the events from a place on
affine_from : (h : ℕ → Bool) (events before es : List Event) → IsAffine h events → events ≡ before ++ es → AreReady h (after h nothing_bound before) es
affine_from h events before [] w e = tt
affine_from h events before (Bind x ∷ es) w e = subst (λ s. AreReady h s es) (after_append h nothing_bound before (Bind x ∷ [])) (affine_from h events (before ++ (Bind x ∷ [])) es w (e ∙ sym (append_assoc before (Bind x ∷ []) es)))
affine_from h events before (Use x ∷ es) w e =
    (ready_here h events before es x (Use x) w (inl refl) e, subst (λ s. AreReady h s es) (after_append h nothing_bound before (Use x ∷ [])) (affine_from h events (before ++ (Use x ∷ [])) es w (e ∙ sym (append_assoc before (Use x ∷ []) es))))
affine_from h events before (Look x ∷ es) w e =
    (ready_here h events before es x (Look x) w (inr refl) e, subst (λ s. AreReady h s es) (after_append h nothing_bound before (Look x ∷ [])) (affine_from h events (before ++ (Look x ∷ [])) es w (e ∙ sym (append_assoc before (Look x ∷ []) es))))

pub affine_is_ready : (h : ℕ → Bool) (events : List Event) → IsAffine h events → AreReady h nothing_bound events
affine_is_ready h events w = affine_from h events [] events w refl

-- ---- operands

-- where nothing is read, a let and the end of a block use their operands
pub uses_none : (op : Op) → uses_of no_reads op ≡ map Use (operands_of op)
uses_none (Lit z) = refl
uses_none (Flag b) = refl
uses_none (Copy x) = refl
uses_none (Prim op x y) = refl
uses_none (Make con args at) = refl
uses_none (Call func args) = refl

pub term_uses_none : (t : Term) → term_events no_reads t ≡ map Use (term_uses t)
term_uses_none (Ret x) = refl
term_uses_none (Tail func args) = refl
term_uses_none (Goto b) = refl
term_uses_none (If x first second) = refl
term_uses_none (Case x arms) = refl

-- what holds of all of two lists holds of all of each
pub all_first : {A : Type 0} (P : A → Type 0) (xs ys : List A) → AllByRecursion P (xs ++ ys) → AllByRecursion P xs
all_first P [] ys h = tt
all_first P (x ∷ xs) ys h = (h.0, all_first P xs ys h.1)

pub all_second : {A : Type 0} (P : A → Type 0) (xs ys : List A) → AllByRecursion P (xs ++ ys) → AllByRecursion P ys
all_second P [] ys h = h
all_second P (x ∷ xs) ys h = all_second P xs ys h.1

-- these locals are ready
abbrev pub AllReady : State → List ℕ → Type 0
AllReady s xs = AllByRecursion (λ x. s x ≡ Ready) xs

-- what was ready behind some events was so in front of them
earlier_ready : (s t : State) (xs : List ℕ) → ((y : ℕ) → t y ≡ Ready → s y ≡ Ready) → AllReady t xs → AllReady s xs
earlier_ready s t [] f r = tt
earlier_ready s t (x ∷ xs) f r = (f x r.0, earlier_ready s t xs f r.1)

-- what is used in turn is all ready before
pub all_used_ready : (h : ℕ → Bool) (s : State) (xs : List ℕ) → AreReady h s (map Use xs) → AllReady s xs
all_used_ready h s [] r = tt
all_used_ready h s (x ∷ xs) r = (r.0, earlier_ready s (use_of h s x) xs (used_ready h s x) (all_used_ready h (use_of h s x) xs r.1))

all_looks_ready : (h : ℕ → Bool) (s : State) (xs : List ℕ) → AreReady h s (map Look xs) → AllReady s xs
all_looks_ready h s [] r = tt
all_looks_ready h s (x ∷ xs) r = (r.0, all_looks_ready h s xs r.1)

-- the arguments that a call takes and those that it looks at are all of them
all_arguments : (P : ℕ → Type 0) (marks : List Bool) (xs : List ℕ) → AllByRecursion P (taken_by marks xs) → AllByRecursion P (read_by marks xs)
    → AllByRecursion P xs
all_arguments P [] xs r q = r
all_arguments P (mark ∷ marks) [] r q = tt
all_arguments P (true ∷ marks) (x ∷ xs) r q = (q.0, all_arguments P marks xs r q.1)
all_arguments P (false ∷ marks) (x ∷ xs) r q = (r.0, all_arguments P marks xs r.1 q)

-- The arguments of a call are all ready before it, whichever are only looked at.
pub arguments_ready : (h : ℕ → Bool) (s : State) (marks : List Bool) (xs : List ℕ) → AreReady h s (argument_events marks xs) → AllReady s xs
arguments_ready h s [] xs r = all_used_ready h s xs r
arguments_ready h s (mark ∷ marks) xs r =
    let uses = taken_by (mark ∷ marks) xs in
    let looks = read_by (mark ∷ marks) xs in
    all_arguments (λ x. s x ≡ Ready) (mark ∷ marks) xs (all_used_ready h s uses (ready_first h s (map Use uses) (map Look looks) r))
    (earlier_ready s (after h s (map Use uses)) looks (uses_ready h s uses) (all_looks_ready h (after h s (map Use uses)) looks (ready_second h s (map Use uses) (map Look looks) r)))

-- What is ready behind a call's arguments was ready before.
pub arguments_were_ready : (h : ℕ → Bool) (s : State) (marks : List Bool) (xs : List ℕ) (y : ℕ) → after h s (argument_events marks xs) y ≡ Ready → s y ≡ Ready
arguments_were_ready h s [] xs y e = uses_ready h s xs y e
arguments_were_ready h s (mark ∷ marks) xs y e =
    let uses = taken_by (mark ∷ marks) xs in
    let looks = read_by (mark ∷ marks) xs in
    uses_ready h s uses y (looks_ready h (after h s (map Use uses)) looks y (sym (ap (λ t. t y) (after_append h s (map Use uses) (map Look looks))) ∙ e))

-- The operands of a let are ready before it, and what is ready behind its uses was so before.
pub operands_ready : (reads : Reads) (h : ℕ → Bool) (s : State) (op : Op) → AreReady h s (uses_of reads op) → AllReady s (operands_of op)
operands_ready reads h s (Lit z) r = r
operands_ready reads h s (Flag b) r = r
operands_ready reads h s (Copy x) r = all_used_ready h s (x ∷ []) r
operands_ready reads h s (Prim op x y) r = all_used_ready h s (x ∷ y ∷ []) r
operands_ready reads h s (Make con args at) r = all_used_ready h s (operands_of (Make con args at)) r
operands_ready reads h s (Call func args) r = arguments_ready h s (reads func) args r

pub operands_were_ready : (reads : Reads) (h : ℕ → Bool) (s : State) (op : Op) (y : ℕ) → after h s (uses_of reads op) y ≡ Ready → s y ≡ Ready
operands_were_ready reads h s (Lit z) y e = e
operands_were_ready reads h s (Flag b) y e = e
operands_were_ready reads h s (Copy x) y e = uses_ready h s (x ∷ []) y e
operands_were_ready reads h s (Prim op x z) y e = uses_ready h s (x ∷ z ∷ []) y e
operands_were_ready reads h s (Make con args at) y e = uses_ready h s (operands_of (Make con args at)) y e
operands_were_ready reads h s (Call func args) y e = arguments_were_ready h s (reads func) args y e

-- The same of the end of a block.
pub term_operands_ready : (reads : Reads) (h : ℕ → Bool) (s : State) (t : Term) → AreReady h s (term_events reads t) → AllReady s (term_uses t)
term_operands_ready reads h s (Ret x) r = all_used_ready h s (x ∷ []) r
term_operands_ready reads h s (Tail func args) r = arguments_ready h s (reads func) args r
term_operands_ready reads h s (Goto b) r = r
term_operands_ready reads h s (If x first second) r = all_used_ready h s (x ∷ []) r
term_operands_ready reads h s (Case x arms) r = all_used_ready h s (x ∷ []) r

pub term_operands_were_ready : (reads : Reads) (h : ℕ → Bool) (s : State) (t : Term) (y : ℕ) → after h s (term_events reads t) y ≡ Ready → s y ≡ Ready
term_operands_were_ready reads h s (Ret x) y e = uses_ready h s (x ∷ []) y e
term_operands_were_ready reads h s (Tail func args) y e = arguments_were_ready h s (reads func) args y e
term_operands_were_ready reads h s (Goto b) y e = e
term_operands_were_ready reads h s (If x first second) y e = uses_ready h s (x ∷ []) y e
term_operands_were_ready reads h s (Case x arms) y e = uses_ready h s (x ∷ []) y e

-- ---- along a block

pub lets_after : (reads : Reads) (h : ℕ → Bool) (s : State) (ls : List Let) → after h s (flat_map (let_events reads) ls) ≡ after_lets reads h s ls
lets_after reads h s [] = refl
lets_after reads h s (l ∷ ls) = after_append h s (let_events reads l) (flat_map (let_events reads) ls) ∙ lets_after reads h (after_let reads h s l) ls

pub lets_ready : (reads : Reads) (h : ℕ → Bool) (s : State) (ls : List Let) → AreReady h s (flat_map (let_events reads) ls) → LetsReady reads h s ls
lets_ready reads h s [] r = tt
lets_ready reads h s (l ∷ ls) r = (ready_first h s (let_events reads l) (flat_map (let_events reads) ls) r, lets_ready reads h (after_let reads h s l) ls (ready_second h s (let_events reads l) (flat_map (let_events reads) ls) r))

pub ready_lets : (reads : Reads) (h : ℕ → Bool) (s : State) (ls : List Let) → LetsReady reads h s ls → AreReady h s (flat_map (let_events reads) ls)
ready_lets reads h s [] r = tt
ready_lets reads h s (l ∷ ls) r = ready_both h s (let_events reads l) (flat_map (let_events reads) ls) r.0 (ready_lets reads h (after_let reads h s l) ls r.1)

events_grouped : (reads : Reads) (b : Block) → block_events reads b ≡ map Bind b.params ++ (flat_map (let_events reads) b.lets ++ term_events reads b.term)
events_grouped reads b = append_assoc (map Bind b.params) (flat_map (let_events reads) b.lets) (term_events reads b.term)

pub block_after : (reads : Reads) (h : ℕ → Bool) (b : Block) → after h nothing_bound (block_events reads b) ≡ behind_term reads h b
block_after reads h b =
    ap (after h nothing_bound) (events_grouped reads b)
    ∙ after_append h nothing_bound (map Bind b.params) (flat_map (let_events reads) b.lets ++ term_events reads b.term)
    ∙ after_append h (at_start h b) (flat_map (let_events reads) b.lets) (term_events reads b.term)
    ∙ ap (λ s. after h s (term_events reads b.term)) (lets_after reads h (at_start h b) b.lets)

lets_append : (reads : Reads) (h : ℕ → Bool) (s : State) (ls ms : List Let) → after_lets reads h s (ls ++ ms) ≡ after_lets reads h (after_lets reads h s ls) ms
lets_append reads h s [] ms = refl
lets_append reads h s (l ∷ ls) ms = lets_append reads h (after_let reads h s l) ls ms

take_next : {A : Type 0} (xs : List A) (n : ℕ) (x : A) → slice_get xs n ≡ Some x → take (suc n) xs ≡ take n xs ++ (x ∷ [])
take_next [] n x e = let k : None ≡ Some x = e in absurd cc
take_next (y ∷ xs) zero x e = let k : y ≡ x = cc in ap (λ z. z ∷ []) k
take_next (y ∷ xs) (suc n) x e = ap (λ l. y ∷ l) (take_next xs n x e)

-- The state behind a let is that before the next.
pub state_next : (reads : Reads) (h : ℕ → Bool) (b : Block) (n : ℕ) (l : Let) → slice_get b.lets n ≡ Some l
    → state_at reads h b (suc n) ≡ after_let reads h (state_at reads h b n) l
state_next reads h b n l e = ap (after_lets reads h (at_start h b)) (take_next b.lets n l e) ∙ lets_append reads h (at_start h b) (take n b.lets) (l ∷ [])

take_whole : {A : Type 0} (xs : List A) → take (length xs) xs ≡ xs
take_whole [] = refl
take_whole (x ∷ xs) = ap (λ l. x ∷ l) (take_whole xs)

-- The state behind all lets is that before the end.
pub state_last : (reads : Reads) (h : ℕ → Bool) (b : Block) → state_at reads h b (length b.lets) ≡ at_term reads h b
state_last reads h b = ap (after_lets reads h (at_start h b)) (take_whole b.lets)

ready_there : (reads : Reads) (h : ℕ → Bool) (s : State) (ls : List Let) (n : ℕ) (l : Let) → LetsReady reads h s ls → slice_get ls n ≡ Some l
    → AreReady h (after_lets reads h s (take n ls)) (let_events reads l)
ready_there reads h s [] n l r e = let k : None ≡ Some l = e in absurd cc
ready_there reads h s (m ∷ ls) zero l r e = let k : m ≡ l = cc in subst (λ x. AreReady h s (let_events reads x)) k r.0
ready_there reads h s (m ∷ ls) (suc n) l r e = ready_there reads h (after_let reads h s m) ls n l r.1 e

-- What a let uses is ready before it.
pub ready_at : (reads : Reads) (h : ℕ → Bool) (blocks : List Block) (b : Block) (n : ℕ) (l : Let) → UsesReady reads h blocks b
    → slice_get b.lets n ≡ Some l → AreReady h (state_at reads h b n) (let_events reads l)
ready_at reads h blocks b n l u e = ready_there reads h (at_start h b) b.lets n l u.lets e

-- The states of a block say the same as its uses in words.
pub uses_affinely : (reads : Reads) (h : ℕ → Bool) (blocks : List Block) (b : Block) → UsesReady reads h blocks b → UsesAffinely reads h blocks b
uses_affinely reads h blocks b u = record { inside = ready_is_affine h (block_events reads b) whole; onward = each (ways blocks b.term) u.onward }
  where
    whole : AreReady h nothing_bound (block_events reads b)
    whole = subst (AreReady h nothing_bound) (sym (events_grouped reads b)) (ready_both h nothing_bound (map Bind b.params) (flat_map (let_events reads) b.lets ++ term_events reads b.term) (ready_binds h nothing_bound b.params)
        (ready_both h (at_start h b) (flat_map (let_events reads) b.lets) (term_events reads b.term) (ready_lets reads h (at_start h b) b.lets u.lets)
        (subst (λ s. AreReady h s (term_events reads b.term)) (sym (lets_after reads h (at_start h b) b.lets)) u.term)))

    each : (ws : List (List Event)) → AllByRecursion (AreReady h (behind_term reads h b)) ws
        → AllByRecursion (λ way. IsAffine h (block_events reads b ++ way)) ws
    each [] k = tt
    each (way ∷ ws) k = (ready_is_affine h (block_events reads b ++ way) (ready_both h nothing_bound (block_events reads b) way whole (subst (λ s. AreReady h s way) (sym (block_after reads h b)) k.0)), each ws k.1)

pub affinely_used : (reads : Reads) (h : ℕ → Bool) (blocks : List Block) (b : Block) → UsesAffinely reads h blocks b → UsesReady reads h blocks b
affinely_used reads h blocks b u = record {
  lets = lets_ready reads h (at_start h b) b.lets (ready_first h (at_start h b) (flat_map (let_events reads) b.lets) (term_events reads b.term) behind);
  term = subst (λ s. AreReady h s (term_events reads b.term)) (lets_after reads h (at_start h b) b.lets) (ready_second h (at_start h b) (flat_map (let_events reads) b.lets) (term_events reads b.term) behind);
  onward = each (ways blocks b.term) u.onward;
}
  where
    behind : AreReady h (at_start h b) (flat_map (let_events reads) b.lets ++ term_events reads b.term)
    behind = ready_second h nothing_bound (map Bind b.params) (flat_map (let_events reads) b.lets ++ term_events reads b.term) (subst (AreReady h nothing_bound) (events_grouped reads b) (affine_is_ready h (block_events reads b) u.inside))

    each : (ws : List (List Event)) → AllByRecursion (λ way. IsAffine h (block_events reads b ++ way)) ws
        → AllByRecursion (AreReady h (behind_term reads h b)) ws
    each [] k = tt
    each (way ∷ ws) k = (subst (λ s. AreReady h s way) (block_after reads h b) (ready_second h nothing_bound (block_events reads b) way (affine_is_ready h (block_events reads b ++ way) k.0)), each ws k.1)
