-- Marks in a list track the states of locals, and a row of faults agrees with a row of checks.
use Rattle.std.proofs.Common.{◌≡◌, ℕ, zero, suc, ◌<◌, Bool, true, false, List, [], ◌∷◌, length, map, Option, Some, None, refl, sym, ap, ◌∙◌, subst, arith, inl, inr}
use Rattle.std.specs.Prelude.{◌==◌, ◌&&◌, ◌||◌, not, slice_get, slice_set, replicate, if◌then◌else◌, ⊤}
use Rattle.std.specs.List.{AllByRecursion}
use Rattle.std.specs.Option.{option_or, option_map_or}
use Rattle.camelot_values.specs.Heap.{is_heap}
use Rattle.camelot_values.specs.declared.kinds.Kind.{Kind}
use Rattle.std.proofs.lemmas.Bool.Decides.{nat_tests}
use Rattle.std.proofs.lemmas.List.{length-set, length-replicate}
use Rattle.camelot_values.specs.Kinds.{DataType}
use Rattle.camelot_values.specs.Lists.{is_among}
use Rattle.grail_blocks.specs.States.{Status, Unbound, Ready, Spent, State, nothing_bound, bind as state_bind, use_of, after as state_after}
use Rattle.grail_code.specs.Code.{Func}
use Rattle.grail_code.specs.WellFormed.{is_owned, is_read, local_kinds, kind_of, Use, Bind}
use Rattle.grail_check.specs.declared.fault.CodeKind.{CodeKind}
use Rattle.grail_check.specs.declared.fault.CodeKind.TheVariants as fault
use Rattle.grail_check.specs.declared.locals.Mark.{Mark}
use Rattle.grail_check.specs.declared.locals.Mark.TheVariants as mark
use Rattle.grail_check.specs.Faulting.{unless, locals_of, unbound, bind, bind_all, spend, spend_all, mark_fault, use_fault}
use Rattle.grail_check.specs.Walk.{Checks, NoMore, Must, Pass, Fails, use_checks}
use Rattle.grail_check.proofs.Playing.{set_same}
use Rattle.grail_check.proofs.LetLaws.{owned_is, count_is}

-- ---- marks and states

abbrev pub status_of : Option Mark → Status
status_of None = Unbound
status_of (Some mark.Unbound) = Unbound
status_of (Some mark.Ready) = Ready
status_of (Some mark.Spent) = Spent

pub record Tracks (types : List DataType) (f : Func) (marks : List Mark) (s : State) : Type 0 where
  pub size : length marks ≡ length (local_kinds f)
  pub same : (x : ℕ) → status_of (slice_get marks x) ≡ s x

set_other : (marks : List Mark) (x y : ℕ) (m : Mark) → (x ≡ y → ⊥) → slice_get (slice_set marks x m) y ≡ slice_get marks y
set_other [] x y m h = refl
set_other (n ∷ marks) zero zero m h = absurd (h refl)
set_other (n ∷ marks) zero (suc y) m h = refl
set_other (n ∷ marks) (suc x) zero m h = refl
set_other (n ∷ marks) (suc x) (suc y) m h = set_other marks x y m (λ e. h (ap suc e))

pub track_bind : (types : List DataType) (f : Func) (marks : List Mark) (s : State) (x : ℕ) → Tracks types f marks s → x < length (local_kinds f)
    → Tracks types f (bind marks x) (state_bind s x)
track_bind types f marks s x t less = record { size = length-set marks x mark.Ready ∙ t.size; same = λ y. by_test y (x == y) refl }
  where
    by_test : (y : ℕ) (b : Bool) → (x == y) ≡ b → status_of (slice_get (slice_set marks x mark.Ready) y) ≡ (if b then Ready else s y)
    by_test y true e = let same : x ≡ y = grind (arith, nat_tests, e) in
        subst (λ z. status_of (slice_get (slice_set marks x mark.Ready) z) ≡ Ready) same (ap status_of (set_same marks x mark.Ready (omega (arith, less, t.size))))
    by_test y false e =
        ap status_of (set_other marks x y mark.Ready (λ same. let c : (x == y) ≡ true = grind (arith, nat_tests, same) in let k : false ≡ true = sym e ∙ c in absurd cc)) ∙ t.same y

-- a local that is owned is there
heap_there : (types : List DataType) (f : Func) (x : ℕ) → is_owned types f x ≡ true → x < length (local_kinds f)
heap_there types f x h = there (local_kinds f) x (some (kind_of f x) refl h)
  where
    there : {A : Type 0} (xs : List A) (x : ℕ) → (slice_get xs x ≡ None → ⊥) → x < length xs
    there [] x n = absurd (n refl)
    there (y ∷ xs) zero n = omega arith
    there (y ∷ xs) (suc x) n = let k = there xs x n in omega (arith, k)

    some : (o : Option Kind) → kind_of f x ≡ o → (option_map_or (is_heap types) (kind_of f x) false && not (is_read f x)) ≡ true → kind_of f x ≡ None → ⊥
    some None e h n = let k : false ≡ true = sym (ap (λ q. option_map_or (is_heap types) q false && not (is_read f x)) n) ∙ h in absurd cc
    some (Some q) e h n = let k : Some q ≡ None = sym e ∙ n in absurd cc

pub track_spend : (types : List DataType) (f : Func) (marks : List Mark) (s : State) (x : ℕ) → Tracks types f marks s
    → Tracks types f (spend (locals_of types f) marks x) (use_of (is_owned types f) s x)
track_spend types f marks s x t = by_heap (is_owned types f x) refl
  where
    spent : (y : ℕ) → is_owned types f x ≡ true → (b : Bool) → (x == y) ≡ b
        → status_of (slice_get (slice_set marks x mark.Spent) y) ≡ (if b && true then Spent else s y)
    spent y h true e = let same : x ≡ y = grind (arith, nat_tests, e) in
        subst (λ z. status_of (slice_get (slice_set marks x mark.Spent) z) ≡ Spent) same (ap status_of (set_same marks x mark.Spent (omega (arith, heap_there types f x h, t.size))))
    spent y h false e =
        ap status_of (set_other marks x y mark.Spent (λ same. let c : (x == y) ≡ true = grind (arith, nat_tests, same) in let k : false ≡ true = sym e ∙ c in absurd cc)) ∙ t.same y

    kept : (y : ℕ) (b : Bool) → s y ≡ (if b && false then Spent else s y)
    kept y true = refl
    kept y false = refl

    by_heap : (h : Bool) → is_owned types f x ≡ h → Tracks types f (spend (locals_of types f) marks x) (use_of (is_owned types f) s x)
    by_heap true h = record {
      size = ap (λ b. length (if b then slice_set marks x mark.Spent else marks)) (owned_is types f x ∙ h) ∙ length-set marks x mark.Spent ∙ t.size;
      same = λ y. ap (λ b. status_of (slice_get (if b then slice_set marks x mark.Spent else marks) y)) (owned_is types f x ∙ h) ∙ spent y h (x == y) refl ∙ ap (λ b. if (x == y) && b then Spent else s y) (sym h);
    }
    by_heap false h = record {
      size = ap (λ b. length (if b then slice_set marks x mark.Spent else marks)) (owned_is types f x ∙ h) ∙ t.size;
      same = λ y. ap (λ b. status_of (slice_get (if b then slice_set marks x mark.Spent else marks) y)) (owned_is types f x ∙ h) ∙ t.same y ∙ kept y (x == y) ∙ ap (λ b. if (x == y) && b then Spent else s y) (sym h);
    }

pub track_uses : (types : List DataType) (f : Func) (marks : List Mark) (s : State) (xs : List ℕ) → Tracks types f marks s
    → Tracks types f (spend_all (locals_of types f) marks xs) (state_after (is_owned types f) s (map Use xs))
track_uses types f marks s [] t = t
track_uses types f marks s (x ∷ xs) t = track_uses types f (spend (locals_of types f) marks x) (use_of (is_owned types f) s x) xs (track_spend types f marks s x t)

pub track_binds : (types : List DataType) (f : Func) (h : ℕ → Bool) (marks : List Mark) (s : State) (xs : List ℕ) → Tracks types f marks s
    → AllByRecursion (λ x. x < length (local_kinds f)) xs
    → Tracks types f (bind_all marks xs) (state_after h s (map Bind xs))
track_binds types f h marks s [] t below = t
track_binds types f h marks s (x ∷ xs) t below = track_binds types f h (bind marks x) (state_bind s x) xs (track_bind types f marks s x t below.0) below.1

pub track_nothing : (types : List DataType) (f : Func) → Tracks types f (unbound (locals_of types f)) nothing_bound
track_nothing types f = record { size = length-replicate (length (locals_of types f)) mark.Unbound ∙ count_is types f; same = λ x. none (length (locals_of types f)) x }
  where
    none : (n x : ℕ) → status_of (slice_get (replicate n mark.Unbound) x) ≡ Unbound
    none zero x = refl
    none (suc n) zero = refl
    none (suc n) (suc x) = none n x

-- ---- faults and checks

-- the fault is that of the first check that fails
abbrev pub Agrees : Option CodeKind → Checks → Type 0
Agrees None checks = Pass checks
Agrees (Some k) checks = Fails checks k

-- in front of any other faults and checks, which agree where this is passed
abbrev pub Front : Type 0 → Option CodeKind → (Checks → Checks) → Type 1
Front passed found checks = (o : Option CodeKind) (rest : Checks) → (passed → Agrees o rest) → Agrees (option_or found o) (checks rest)

pub front_must : (t : Bool) (k : CodeKind) (P : Type 0) → (t ≡ true → P) → (P → t ≡ true) → Front P (unless t k) (Must P k)
front_must true k P to from = λ o rest go. passed (to refl) o rest (go (to refl))
  where
    passed : P → (o : Option CodeKind) (rest : Checks) → Agrees o rest → Agrees o (Must P k rest)
    passed p None rest a = (p, a)
    passed p (Some j) rest a = inr (p, a)
front_must false k P to from = λ o rest go. inl ((λ p. let e : false ≡ true = from p in absurd cc), refl)

pub must_pass : (P : Type 0) (k : CodeKind) (o : Option CodeKind) (rest : Checks) → P → Agrees o rest → Agrees o (Must P k rest)
must_pass P k None rest p a = (p, a)
must_pass P k (Some j) rest p a = inr (p, a)

pub front_mark : (m : Option Mark) (s : State) (x : ℕ) → status_of m ≡ s x → Front ⊤ (mark_fault m) (use_checks s x)
front_mark None s x e = λ o rest go. inl ((λ n. n (sym e)), refl)
front_mark (Some mark.Unbound) s x e = λ o rest go. inl ((λ n. n (sym e)), refl)
front_mark (Some mark.Spent) s x e = λ o rest go. inr ((λ u. let k : Spent ≡ Unbound = e ∙ u in absurd cc), inl ((λ n. n (sym e)), refl))
front_mark (Some mark.Ready) s x e = λ o rest go.
    must_pass (s x ≡ Unbound → ⊥) fault.Unbound o (Must (s x ≡ Spent → ⊥) fault.Spent rest) (λ u. let k : Ready ≡ Unbound = e ∙ u in absurd cc)
    (must_pass (s x ≡ Spent → ⊥) fault.Spent o rest (λ u. let k : Ready ≡ Spent = e ∙ u in absurd cc) (go tt))

or_grouped : (a b o : Option CodeKind) → option_or (option_or a b) o ≡ option_or a (option_or b o)
or_grouped None b o = refl
or_grouped (Some k) b o = refl

or_nothing : (a : Option CodeKind) → option_or a None ≡ a
or_nothing None = refl
or_nothing (Some k) = refl

-- one in front of another
pub front_then : (P Q : Type 0) (a b : Option CodeKind) (f g : Checks → Checks) → Front P a f → (P → Front Q b g)
    → Front (P × Q) (option_or a b) (λ rest. f (g rest))
front_then P Q a b f g fa fb = λ o rest go. subst (λ c. Agrees c (f (g rest))) (sym (or_grouped a b o)) (fa (option_or b o) (g rest) (λ p. fb p o rest (λ q. go (p, q))))

pub front_last : (P : Type 0) (a : Option CodeKind) (f : Checks → Checks) → Front P a f → Front P (option_or a None) f
front_last P a f fa = λ o rest go. subst (λ c. Agrees (option_or c o) (f rest)) (sym (or_nothing a)) (fa o rest go)

-- with nothing behind it
pub front_alone : (P : Type 0) (a : Option CodeKind) (f : Checks → Checks) → Front P a f → Agrees a (f NoMore)
front_alone P a f fa = subst (λ c. Agrees c (f NoMore)) (or_nothing a) (fa None NoMore (λ p. tt))

pub front_weak : (P Q : Type 0) (a : Option CodeKind) (f : Checks → Checks) → (P → Q) → Front P a f → Front Q a f
front_weak P Q a f w fa = λ o rest go. fa o rest (λ p. go (w p))

pub agrees_last : (a : Option CodeKind) (checks : Checks) → Agrees a checks → Agrees (option_or a None) checks
agrees_last a checks h = subst (λ c. Agrees c checks) (sym (or_nothing a)) h

-- ---- jumps behind bindings

-- a ready local stays ready where others are bound
still_ready : (h : ℕ → Bool) (s : State) (xs : List ℕ) (x : ℕ) → s x ≡ Ready → state_after h s (map Bind xs) x ≡ Ready
still_ready h s [] x r = r
still_ready h s (y ∷ xs) x r = still_ready h (state_bind s y) xs x (by_test (y == x))
  where
    by_test : (b : Bool) → (if b then Ready else s x) ≡ Ready
    by_test true = refl
    by_test false = r

bound_status : (h : ℕ → Bool) (s : State) (xs : List ℕ) (x : ℕ) → is_among xs x ≡ true → state_after h s (map Bind xs) x ≡ Ready
bound_status h s [] x m = absurd cc
bound_status h s (y ∷ xs) x m = by_test (λ k. bound_status h (state_bind s y) xs x k) (y == x) refl m
  where
    by_test : (is_among xs x ≡ true → state_after h (state_bind s y) (map Bind xs) x ≡ Ready) → (b : Bool) → (y == x) ≡ b
        → (b || is_among xs x) ≡ true → state_after h (state_bind s y) (map Bind xs) x ≡ Ready
    by_test go true t k = still_ready h (state_bind s y) xs x (ap (λ b. if b then Ready else s x) t)
    by_test go false t k = go k

unbound_status : (h : ℕ → Bool) (s : State) (xs : List ℕ) (x : ℕ) → is_among xs x ≡ false → state_after h s (map Bind xs) x ≡ s x
unbound_status h s [] x m = refl
unbound_status h s (y ∷ xs) x m = by_test (λ k. unbound_status h (state_bind s y) xs x k) (y == x) refl m
  where
    by_test : (is_among xs x ≡ false → state_after h (state_bind s y) (map Bind xs) x ≡ state_bind s y x) → (b : Bool) → (y == x) ≡ b
        → (b || is_among xs x) ≡ false → state_after h (state_bind s y) (map Bind xs) x ≡ s x
    by_test go true t k = absurd cc
    by_test go false t k = go k ∙ ap (λ b. if b then Ready else s x) t

-- what an arm binds counts as bound and unused
pub front_use : (types : List DataType) (f : Func) (h : ℕ → Bool) (marks : List Mark) (s : State) (bound : List ℕ) (x : ℕ) → Tracks types f marks s
    → Front ⊤ (use_fault marks bound x) (use_checks (state_after h s (map Bind bound)) x)
front_use types f h marks s bound x t = by_test (is_among bound x) refl
  where
    by_test : (b : Bool) → is_among bound x ≡ b → Front ⊤ (if b then None else mark_fault (slice_get marks x)) (use_checks (state_after h s (map Bind bound)) x)
    by_test true e = front_mark (Some mark.Ready) (state_after h s (map Bind bound)) x (sym (bound_status h s bound x e))
    by_test false e = front_mark (slice_get marks x) (state_after h s (map Bind bound)) x (t.same x ∙ sym (unbound_status h s bound x e))
