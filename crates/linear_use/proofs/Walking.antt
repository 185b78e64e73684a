-- Laws of the walk's steps.
use Rattle.std.proofs.Common.{◌≡◌, ℕ, zero, suc, ◌+◌, ◌-◌, ◌<◌, List, [], ◌∷◌, ◌++◌, length, Option, Some, None, refl, sym, ap, ◌∙◌, subst, arith, slice_get, append_assoc, append-nil, length-append}
use Rattle.std.specs.Option.{option_or}
use Rattle.camelot_values.specs.declared.kinds.Kind.{Kind}
use Rattle.camelot_values.specs.declared.kinds.Kind.TheVariants as kind
use Rattle.camelot_tree.specs.Tree.{Expression, Num, Truth, Var, Prim, If, Let, Match, Build, Call}
use Rattle.camelot_typing.specs.Kinds.{Globals, Scope, bind, or_else, atom_of, atoms_of, arms_atoms}
use Rattle.camelot_typing.specs.Typing.{known_kind}
use Rattle.linear_use.specs.declared.variable.Variable.{Variable}
use Rattle.linear_use.specs.declared.state.State.{State}
use Rattle.linear_use.specs.Flow.{Flow, Nothing, After, used}
use Rattle.linear_use.specs.Walk.{first_of, AreAt, Walked, parts_kinds}

-- ---- kinds in the list

pub at_front : (ex : List Kind) (p : ℕ) (xs ys : List Kind) → AreAt ex p (xs ++ ys) → AreAt ex p xs
at_front ex p [] ys h = tt
at_front ex p (x ∷ xs) ys h = (h.0, at_front ex (suc p) xs ys h.1)

pub at_back : (ex : List Kind) (p q : ℕ) (xs ys : List Kind) → q ≡ p + length xs → AreAt ex p (xs ++ ys) → AreAt ex q ys
at_back ex p q [] ys e h = subst (λ r. AreAt ex r ys) (let k : p ≡ q = omega (arith, e) in k) h
at_back ex p q (x ∷ xs) ys e h = at_back ex (suc p) q xs ys (omega (arith, e)) h.1

last_at : (ex : List Kind) (p q : ℕ) (xs : List Kind) (k : Kind) → q ≡ p + length xs → AreAt ex p (xs ++ k ∷ []) → slice_get ex q ≡ Some k
last_at ex p q [] k e h = let r : q ≡ p = omega (arith, e) in ap (slice_get ex) r ∙ h.0
last_at ex p q (x ∷ xs) k e h = last_at ex (suc p) q xs k (omega (arith, e)) h.1

-- what stands in the list stands within it
within_list : {A : Type 0} (xs : List A) (i : ℕ) (x : A) → slice_get xs i ≡ Some x → i < length xs
within_list [] i x h = absurd cc
within_list (y ∷ xs) zero x h = omega arith
within_list (y ∷ xs) (suc i) x h = let l = within_list xs i x h in omega (arith, l)

-- the place of the kind behind these
pub end_within : (ex : List Kind) (p q : ℕ) (xs : List Kind) (k : Kind) → q ≡ p + length xs → AreAt ex p (xs ++ k ∷ []) → q < length ex
end_within ex p q xs k e h = within_list ex q k (last_at ex p q xs k e h)

-- the kinds of an expression are those of its parts, and its own
pub kinds_split : (g : Globals Kind) (s : Scope Kind) (e : Expression) → atoms_of known_kind g s e ≡ parts_kinds g s e ++ atom_of known_kind g s e ∷ []
kinds_split g s (Num z l) = refl
kinds_split g s (Truth b l) = refl
kinds_split g s (Var n) = refl
kinds_split g s (Prim op a b l) = sym (append_assoc (atoms_of known_kind g s a) (atoms_of known_kind g s b) (atom_of known_kind g s (Prim op a b l) ∷ []))
kinds_split g s (If c a b l) =
    let k = atom_of known_kind g s (If c a b l) ∷ [] in
    sym (append_assoc (atoms_of known_kind g s c) (atoms_of known_kind g s a ++ atoms_of known_kind g s b) k
    ∙ ap (λ l. atoms_of known_kind g s c ++ l) (append_assoc (atoms_of known_kind g s a) (atoms_of known_kind g s b) k))
kinds_split g s (Let n e b) =
    sym (append_assoc (atoms_of known_kind g s e) (atoms_of known_kind g (bind n.word (atom_of known_kind g s e) s) b) (atom_of known_kind g s (Let n e b) ∷ []))
kinds_split g s (Match e as' l) = sym (append_assoc (atoms_of known_kind g s e) (arms_atoms known_kind g s as') (atom_of known_kind g s (Match e as' l) ∷ []))
kinds_split g s (Build c es place) = refl
kinds_split g s (Call f es) = refl

-- the kind of the expression that ended last
pub last_kind : (g : Globals Kind) (ex : List Kind) (s : Scope Kind) (e : Expression) (p q : ℕ) (ys : List Kind) → q ≡ p + length (atoms_of known_kind g s e)
    → AreAt ex p (atoms_of known_kind g s e ++ ys) → or_else (slice_get ex (q - 1)) kind.Int ≡ atom_of known_kind g s e
last_kind g ex s e p q ys h a =
    let own : AreAt ex p (parts_kinds g s e ++ atom_of known_kind g s e ∷ []) = subst (AreAt ex p) (kinds_split g s e) (at_front ex p (atoms_of known_kind g s e) ys a) in
    let count = ap length (kinds_split g s e) in
    let more = length-append (parts_kinds g s e) (atom_of known_kind g s e ∷ []) in
    let place : q - 1 ≡ p + length (parts_kinds g s e) = omega (arith, h, count, more) in
    ap (λ o. or_else o kind.Int) (last_at ex p (q - 1) (parts_kinds g s e) (atom_of known_kind g s e) place own)

-- ---- one step after another

pub or_none : {A : Type 0} (a b : Option A) → a ≡ None → option_or a b ≡ b
or_none None b h = refl
or_none (Some x) b h = cc

pub or_some : {A : Type 0} (a b : Option A) (x : A) → a ≡ Some x → option_or a b ≡ Some x
or_some None b x h = cc
or_some (Some y) b x h = h

pub or_nothing : {A : Type 0} (a : Option A) → option_or a None ≡ a
or_nothing None = refl
or_nothing (Some x) = refl

pub or_assoc : {A : Type 0} (a b c : Option A) → option_or (option_or a b) c ≡ option_or a (option_or b c)
or_assoc None b c = refl
or_assoc (Some x) b c = refl

-- A step behind another is known by what stands after the first: F, N and K give its flow, the number behind it and its
-- kinds.
pub seq_at : (ex : List Kind) (K : Scope Variable → List Kind) (f : Flow) (free count : ℕ) (xs : List Kind) (s0 s1 : State)
    → Walked f free count s0 s1 → count ≡ length xs
    → AreAt ex s0.position (xs ++ K s0.scope) → AreAt ex s1.position (K s1.scope)
seq_at ex K f free count xs s0 s1 w e h =
    subst (λ s. AreAt ex s1.position (K s)) (sym w.scope) (at_back ex s0.position s1.position xs (K s0.scope) (w.position ∙ ap (λ n. s0.position + n) e) h)

pub seq_walked : (F : ℕ → Scope Variable → Flow) (N : ℕ → ℕ) (K : Scope Variable → List Kind) (f : Flow) (free count : ℕ) (s0 s1 s2 : State)
    → Walked f free count s0 s1
    → Walked (F s1.next s1.scope) (N s1.next) (length (K s1.scope)) s1 s2 → Walked (After f (F free s0.scope)) (N free) (count + length (K s0.scope)) s0 s2
seq_walked F N K f free count s0 s1 s2 w v =
    let same : F s1.next s1.scope ≡ F free s0.scope = ap (λ n. F n s1.scope) w.next ∙ ap (F free) w.scope in
    record {
      fault =
          λ called. v.fault called ∙ ap (λ x. option_or s1.fault (first_of s1.spent called x)) same
          ∙ ap (λ l. option_or s1.fault (first_of l called (F free s0.scope))) w.spent
          ∙ ap (λ o. option_or o (first_of (s0.spent ++ used f) called (F free s0.scope))) (w.fault called)
          ∙ or_assoc s0.fault (first_of s0.spent called f) (first_of (s0.spent ++ used f) called (F free s0.scope));
      spent =
          v.spent ∙ ap (λ l. l ++ used (F s1.next s1.scope)) w.spent ∙ ap (λ x. (s0.spent ++ used f) ++ used x) same
          ∙ append_assoc s0.spent (used f) (used (F free s0.scope));
      next = v.next ∙ ap N w.next;
      scope = v.scope ∙ w.scope;
      position =
          let a = v.position in let b = w.position in let c : length (K s1.scope) ≡ length (K s0.scope) = ap (λ s. length (K s)) w.scope in omega (arith, a, b, c);
    }

pub walked_count : (f : Flow) (free m n : ℕ) (s0 s1 : State) → m ≡ n → Walked f free m s0 s1 → Walked f free n s0 s1
walked_count f free m n s0 s1 e w = subst (λ k. Walked f free k s0 s1) e w

-- the end of an expression
pub finished : (f : Flow) (free m n : ℕ) (s0 s1 s2 : State) → Walked f free m s0 s1 → s2 ≡ record s1 { position = s1.position + 1 } → n ≡ m + 1 → Walked f free n s0 s2
finished f free m n s0 s1 s2 w e q = record {
  fault = λ called. ap (λ s. s.fault) e ∙ w.fault called;
  spent = ap (λ s. s.spent) e ∙ w.spent;
  next = ap (λ s. s.next) e ∙ w.next;
  scope = ap (λ s. s.scope) e ∙ w.scope;
  position = let a : s2.position ≡ s1.position + 1 = ap (λ s. s.position) e in let b = w.position in omega (arith, a, b, q);
}

-- where nothing is used
pub nothing_walked : (free count : ℕ) (s0 s1 : State) → s1.fault ≡ s0.fault → s1.spent ≡ s0.spent → s1.next ≡ free → s1.scope ≡ s0.scope
    → s1.position ≡ s0.position + count → Walked Nothing free count s0 s1
nothing_walked free count s0 s1 f sp ne sc po = record {
  fault = λ called. f ∙ sym (or_nothing s0.fault);
  spent = sp ∙ sym (append-nil s0.spent);
  next = ne;
  scope = sc;
  position = po;
}

-- ---- answers of the code

pub with_scope : (s : State) (a b : Scope Variable) → a ≡ b → let x : State = record s { scope = a } in let y : State = record s { scope = b } in x ≡ y
with_scope s a b e = ap (λ c. record s { scope = c }) e

pub with_spent : (s : State) (a b : List ℕ) → a ≡ b → let x : State = record s { spent = a } in let y : State = record s { spent = b } in x ≡ y
with_spent s a b e = ap (λ c. record s { spent = c }) e

pub with_end : (s t : State) → s ≡ t → let x : State = record s { position = s.position + 1 } in let y : State = record t { position = t.position + 1 } in x ≡ y
with_end s t e = let f : State → State = λ u. record u { position = u.position + 1 } in ap f e
