-- The first check that fails, in lists of checks one behind the other.
use Rattle.std.proofs.Common.{◌≡◌, ℕ, ◌<◌, ◌≤◌, Bool, true, false, List, [], ◌∷◌, ◌++◌, map, Option, Some, None, refl, sym, ap, ◌∙◌, subst, arith, append_assoc}
use Rattle.std.specs.Prelude.{if◌then◌else◌, nat_lt, ℤ, pos, ◌≤ℤ◌}
use Rattle.std.specs.Option.{option_or}
use Rattle.std.proofs.lemmas.Bool.Decides.{nat_tests}
use Rattle.std.proofs.lemmas.Int.{ints}
use Rattle.camelot_values.specs.Kinds.{DataType}
use Rattle.camelot_values.specs.Heap.{reached}
use Rattle.camelot_values.specs.declared.kinds.Kind.{Kind}
use Rattle.annotations.specs.Vectors.{Vector, at}
use Rattle.licence.specs.Books.{Units}
use Rattle.licence.specs.Checks.{Check, Site, left_check, value_checks, AllHold}
use Rattle.grail_verifier.specs.Finding.{Found, in_numbers}
use Rattle.grail_verifier.specs.Walk.{left_short, first_short, value_short}
use Rattle.grail_verifier.proofs.Reached.{check_on}

down : (m n : ℕ) → pos m ≤ℤ pos n → m ≤ n
down m n h = omega (arith, ints, h)

up : (m n : ℕ) → m ≤ n → pos m ≤ℤ pos n
up m n h = omega (arith, ints, h)

all_both : (xs ys : List (Check ℤ)) → AllHold xs → AllHold ys → AllHold (xs ++ ys)
all_both [] ys h k = k
all_both (x ∷ xs) ys h k = (h.0, all_both xs ys h.1 k)

-- ---- pieces of a list

pub nothing : Found [] None
unfolding Found
nothing = tt

pub all_hold : (xs : List (Check ℤ)) → AllHold xs → Found xs None
unfolding Found
all_hold xs h = h

behind : (xs ys : List (Check ℤ)) (o : Option (Check ℕ)) → AllHold xs → Found ys o → Found (xs ++ ys) o
unfolding Found
behind xs ys None h k = all_both xs ys h k
behind xs ys (Some c) h k = record {
  before = xs ++ k.before;
  after = k.after;
  parts = ap (λ zs. xs ++ zs) k.parts ∙ sym (append_assoc xs k.before (in_numbers c ∷ k.after));
  good = all_both xs k.before h k.good;
  wrong = k.wrong;
}

in_front : (xs ys : List (Check ℤ)) (c : Check ℕ) → Found xs (Some c) → Found (xs ++ ys) (Some c)
unfolding Found
in_front xs ys c h = record {
  before = h.before;
  after = h.after ++ ys;
  parts = ap (λ zs. zs ++ ys) h.parts ∙ append_assoc h.before (in_numbers c ∷ h.after) ys;
  good = h.good;
  wrong = h.wrong;
}

none_holds : (xs : List (Check ℤ)) → Found xs None → AllHold xs
unfolding Found
none_holds xs h = h

-- The second list is only looked at where every check of the first holds.
pub both : (xs ys : List (Check ℤ)) (o q : Option (Check ℕ)) → Found xs o → (o ≡ None → Found ys q) → Found (xs ++ ys) (option_or o q)
both xs ys None q h k = behind xs ys q (none_holds xs h) (k refl)
both xs ys (Some c) q h k = in_front xs ys c h

-- checks that all hold come in front of others
pub past : (xs ys : List (Check ℤ)) (o : Option (Check ℕ)) → AllHold xs → Found ys o → Found (xs ++ ys) o
past xs ys o h k = behind xs ys o h k

-- nothing of two pieces
pub first_none : (o q : Option (Check ℕ)) → option_or o q ≡ None → o ≡ None
first_none None q e = refl
first_none (Some c) q e = let h : Some c ≡ None = e in absurd cc

pub second_none : (o q : Option (Check ℕ)) → option_or o q ≡ None → q ≡ None
second_none None q e = e
second_none (Some c) q e = let h : Some c ≡ None = e in absurd cc

-- ---- single checks

-- a check that fails in front
fails_first : (c : Check ℕ) (cs : List (Check ℤ)) → c.have < c.need → Found (in_numbers c ∷ cs) (Some c)
unfolding Found
fails_first c cs h = record { before = []; after = cs; parts = refl; good = tt; wrong = λ k. let l : c.need ≤ c.have = down c.need c.have k in absurd (omega (arith, h, l)) }

holds_first : (c : Check ℕ) (cs : List (Check ℤ)) (o : Option (Check ℕ)) → c.need ≤ c.have → Found cs o → Found (in_numbers c ∷ cs) o
holds_first c cs o h k = behind (in_numbers c ∷ []) cs o (up c.need c.have h, tt) k

single : (c : Check ℕ) (cs : List (Check ℤ)) (o : Option (Check ℕ)) → Found cs o → Found (in_numbers c ∷ cs) (if nat_lt c.have c.need then Some c else o)
single c cs o h = by_test (nat_lt c.have c.need) refl
  where
    by_test : (b : Bool) → nat_lt c.have c.need ≡ b → Found (in_numbers c ∷ cs) (if b then Some c else o)
    by_test true e = fails_first c cs (grind (arith, nat_tests, e))
    by_test false e = holds_first c cs o (grind (arith, nat_tests, e)) h

-- of what is left
pub one : (s : Site) (have need : ℕ) (have' need' : ℤ) → have' ≡ pos have → need' ≡ pos need → Found (left_check s have' need' ∷ []) (left_short s have need)
one s have need have' need' e d =
    subst (λ h. Found (left_check s h need' ∷ []) (left_short s have need)) (sym e) (subst (λ n. Found (left_check s (pos have) n ∷ []) (left_short s have need)) (sym d) (single (left_check s have need) [] None nothing))

-- where nothing is short, as much is there as is needed
pub is_enough : (s : Site) (have need : ℕ) → left_short s have need ≡ None → need ≤ have
is_enough s have need e = by_test (nat_lt have need) refl e
  where
    by_test : (b : Bool) → nat_lt have need ≡ b → (if b then Some (left_check s have need) else None) ≡ None → need ≤ have
    by_test true d k = let h : Some (left_check s have need) ≡ None = k in absurd cc
    by_test false d k = grind (arith, nat_tests, d)

-- ---- values

-- the same units, as whole numbers
abbrev pub AreUnits : Vector → Units ℤ → Type 0
AreUnits v units = (c : ℕ) → units c ≡ pos (at v c)

on_each : (s : Site) (have need : Vector) (have' need' : Units ℤ) (cs : List ℕ) → AreUnits have have' → AreUnits need need'
    → Found (map (λ c. check_on s have' need' c) cs) (first_short (map (λ c. check_on s (at have) (at need) c) cs))
on_each s have need have' need' [] e d = nothing
on_each s have need have' need' (c ∷ cs) e d =
    subst (λ x. Found (x ∷ map (λ c. check_on s have' need' c) cs) (first_short (map (λ c. check_on s (at have) (at need) c) (c ∷ cs)))) (sym same)
    (single (check_on s (at have) (at need) c) (map (λ c. check_on s have' need' c) cs) (first_short (map (λ c. check_on s (at have) (at need) c) cs)) (on_each s have need have' need' cs e d))
  where
    same : check_on s have' need' c ≡ in_numbers (check_on s (at have) (at need) c)
    same = λ i. record { func = s.func; block = s.block; place = s.place; con = Some c; have = e c i; need = d c i }

pub value_found : (types : List DataType) (s : Site) (q : Kind) (have need : Vector) (have' need' : Units ℤ) → AreUnits have have' → AreUnits need need'
    → Found (value_checks types s (Some q) have' need') (value_short types s q have need)
unfolding value_short
value_found types s q have need have' need' e d = on_each s have need have' need' (reached types q) e d

-- what asks nothing
pub nothing_asked : (types : List DataType) (s : Site) (q : Kind) (have : Vector) (have' need' : Units ℤ) → AreUnits have have' → AreUnits [] need'
    → AllHold (value_checks types s (Some q) have' need')
nothing_asked types s q have have' need' e d = go (reached types q)
  where
    go : (cs : List ℕ) → AllHold (map (λ c. check_on s have' need' c) cs)
    go [] = tt
    go (c ∷ cs) = (subst (λ n. n ≤ℤ have' c) (sym (d c)) (subst (λ m. pos 0 ≤ℤ m) (sym (e c)) (up 0 (at have c) (omega arith))), go cs)
