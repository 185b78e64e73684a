-- Lines of a certificate against the locals that carry them.
use Rattle.std.proofs.Common.{◌≡◌, ℕ, zero, suc, ◌<◌, ◌≤◌, Bool, true, false, List, [], ◌∷◌, ◌++◌, map, Option, Some, None, refl, sym, ap, ◌∙◌, subst, arith}
use Rattle.std.specs.Prelude.{◌==◌, ◌||◌, if◌then◌else◌, cond, ℤ}
use Rattle.std.specs.List.{AllByRecursion}
use Rattle.std.specs.Option.{option_or}
use Rattle.std.proofs.lemmas.Bool.Decides.{nat_tests}
use Rattle.camelot_values.specs.Kinds.{DataType}
use Rattle.camelot_values.specs.Lists.{is_among, Ascend}
use Rattle.camelot_values.specs.declared.kinds.Kind.{Kind}
use Rattle.grail_code.specs.Code.{Func}
use Rattle.grail_code.specs.WellFormed.{kind_of}
use Rattle.annotations.specs.Vectors.{Vector, at}
use Rattle.certificate.specs.Certificates.{VarCert}
use Rattle.licence.specs.Books.{Units, Carried, vector_of}
use Rattle.licence.specs.Rules.{Asks, arguments_asks}
use Rattle.licence.specs.Checks.{Site, value_checks, local_checks, AllHold}
use Rattle.grail_verifier.specs.Finding.{Found}
use Rattle.grail_verifier.specs.Walk.{held_short, local_short, asked_short, all_short}
use Rattle.grail_verifier.proofs.Reached.{above}
use Rattle.grail_verifier.proofs.Composing.{nothing, both, past, AreUnits, value_found, nothing_asked}

-- ---- what locals carry

-- this vector has just these units, each within the limit of certificates
pub record IsHeld (v : Vector) (units : Units ℤ) : Type 0 where
  pub same : AreUnits v units
  pub few : (c : ℕ) → at v c ≤ 2147483648

abbrev pub IsHeldIn : Option Vector → Units ℤ → Type 0
IsHeldIn None units = ⊥
IsHeldIn (Some v) units = IsHeld v units

-- of every local of the function
abbrev pub AreHeld : Func → (ℕ → Option Vector) → Carried ℤ → Type 0
AreHeld f have carried = (x : ℕ) (q : Kind) → kind_of f x ≡ Some q → IsHeldIn (have x) (carried x)

held_found : (types : List DataType) (s : Site) (o : Option Kind) (have : Option Vector) (need : Vector) (have' need' : Units ℤ)
    → ((q : Kind) → o ≡ Some q → IsHeldIn have have') → AreUnits need need'
    → Found (value_checks types s o have' need') (held_short types s o have need)
held_found types s None have need have' need' h d = nothing
held_found types s (Some q) None need have' need' h d = absurd (h q refl)
held_found types s (Some q) (Some have) need have' need' h d = let k : IsHeld have have' = h q refl in value_found types s q have need have' need' k.same d

pub local_found : (types : List DataType) (f : Func) (s : Site) (have : ℕ → Option Vector) (carried : Carried ℤ) (x : ℕ) (need : Vector) (need' : Units ℤ) → AreHeld f have carried → AreUnits need need'
    → Found (value_checks types s (kind_of f x) (carried x) need') (local_short types f s have (Some x) need)
local_found types f s have carried x need need' h d = held_found types s (kind_of f x) (have x) need (carried x) need' (h x) d

asks_nothing : (types : List DataType) (s : Site) (o : Option Kind) (have : Option Vector) (have' need' : Units ℤ)
    → ((q : Kind) → o ≡ Some q → IsHeldIn have have') → AreUnits [] need' → AllHold (value_checks types s o have' need')
asks_nothing types s None have have' need' h d = tt
asks_nothing types s (Some q) None have' need' h d = absurd (h q refl)
asks_nothing types s (Some q) (Some have) have' need' h d = let k : IsHeld have have' = h q refl in nothing_asked types s q have have' need' k.same d

-- ---- all against the same

pub all_found : (types : List DataType) (f : Func) (s : Site) (have : ℕ → Option Vector) (carried : Carried ℤ) (xs : List ℕ) (need : Vector) (need' : Units ℤ) → AreHeld f have carried → AreUnits need need'
    → Found (local_checks types f s carried (map (λ x. (x, need')) xs)) (all_short types f s have xs need)
all_found types f s have carried [] need need' h d = nothing
all_found types f s have carried (x ∷ xs) need need' h d =
    both (value_checks types s (kind_of f x) (carried x) need') (local_checks types f s carried (map (λ x. (x, need')) xs)) (local_short types f s have (Some x) need) (all_short types f s have xs need)
    (local_found types f s have carried x need need' h d) (λ e. all_found types f s have carried xs need need' h d)

-- ---- each against its line

-- locals, each asked for what is said of the number at its place
abbrev pub along : (ℕ → Units ℤ) → List ℕ → List ℕ → Asks ℤ
along units (n ∷ ns) (x ∷ xs) = (x, units n) ∷ along units ns xs
along units ns xs = []

-- locals are their own numbers
pub along_own : (units : ℕ → Units ℤ) (xs : List ℕ) → along units xs xs ≡ map (λ x. (x, units x)) xs
along_own units [] = refl
along_own units (x ∷ xs) = ap (λ asks. (x, units x) ∷ asks) (along_own units xs)

-- the numbers of parameters that aren't marked, from this one on
abbrev pub kept_numbers : (ℕ → Bool) → (number count : ℕ) → (args : List ℕ) → List ℕ
kept_numbers marked number (suc count) (x ∷ xs) = cond (marked number) (kept_numbers marked (suc number) count xs) (number ∷ kept_numbers marked (suc number) count xs)
kept_numbers marked number count xs = []

-- and their arguments
abbrev pub kept_args : (ℕ → Bool) → (number count : ℕ) → (args : List ℕ) → List ℕ
kept_args marked number (suc count) (x ∷ xs) = cond (marked number) (kept_args marked (suc number) count xs) (x ∷ kept_args marked (suc number) count xs)
kept_args marked number count xs = []

-- those that are taken go by the numbers of parameters
pub along_kept : (units : ℕ → Units ℤ) (marked : ℕ → Bool) (number count : ℕ) (args : List ℕ)
    → along units (kept_numbers marked number count args) (kept_args marked number count args) ≡ arguments_asks units marked number count args
along_kept units marked number zero args = refl
along_kept units marked number (suc count) [] = refl
along_kept units marked number (suc count) (x ∷ xs) = by_mark (marked number) (along_kept units marked (suc number) count xs)
  where
    ns : List ℕ
    ns = kept_numbers marked (suc number) count xs

    ys : List ℕ
    ys = kept_args marked (suc number) count xs

    rest : Asks ℤ
    rest = arguments_asks units marked (suc number) count xs

    by_mark : (b : Bool) → along units ns ys ≡ rest → along units (cond b ns (number ∷ ns)) (cond b ys (x ∷ ys)) ≡ cond b rest ((x, units number) ∷ rest)
    by_mark true e = e
    by_mark false e = ap (λ asks. (x, units number) ∷ asks) e

-- locals by their numbers among what is asked
abbrev pub Aligned : (ℕ → Option ℕ) → List ℕ → List ℕ → Type 0
Aligned local [] [] = Unit {0}
Aligned local (n ∷ ns) (x ∷ xs) = (local n ≡ Some x) × Aligned local ns xs
Aligned local ns xs = ⊥

-- lines ascend
abbrev pub LinesAscend : List VarCert → Type 0
LinesAscend vars = Ascend (map (λ v. v.var) vars)

-- each line is of one of these
abbrev pub AreOf : List ℕ → List VarCert → Type 0
AreOf ns vars = AllByRecursion (λ v. is_among ns v.var ≡ true) vars

others : (v : VarCert) (vs : List VarCert) → LinesAscend (v ∷ vs) → LinesAscend vs
others v [] h = tt
others v (w ∷ vs) h = h.1

ns_others : (n : ℕ) (ns : List ℕ) → Ascend (n ∷ ns) → Ascend ns
ns_others n [] h = tt
ns_others n (m ∷ ns) h = h.1

-- a smaller number has no line
none_below : (vars : List VarCert) (n : ℕ) → LinesAscend vars → AllByRecursion (λ v. n < v.var) vars → vector_of vars n ≡ []
none_below [] n a h = refl
none_below (v ∷ vs) n a h = by_test (none_below vs n (others v vs a) h.1) (v.var == n) refl
  where
    by_test : vector_of vs n ≡ [] → (b : Bool) → (v.var == n) ≡ b → (if b then v.vector else vector_of vs n) ≡ []
    by_test rec true e = let k : n < v.var = h.0 in absurd (grind (arith, nat_tests, e, k))
    by_test rec false e = rec

lines_above : (n : ℕ) (v : VarCert) (vs : List VarCert) → n ≤ v.var → LinesAscend (v ∷ vs) → AllByRecursion (λ w. n < w.var) vs
lines_above n v [] h a = tt
lines_above n v (w ∷ vs) h a = (omega (arith, h, a.0), lines_above n w vs (omega (arith, h, a.0)) a.1)

-- lines of larger numbers stand among the others
among_others : (n : ℕ) (ns : List ℕ) (vars : List VarCert) → AllByRecursion (λ v. n < v.var) vars → AreOf (n ∷ ns) vars → AreOf ns vars
among_others n ns [] l h = tt
among_others n ns (v ∷ vs) l h = (by_test (n == v.var) refl h.0, among_others n ns vs l.1 h.1)
  where
    by_test : (b : Bool) → (n == v.var) ≡ b → (b || is_among ns v.var) ≡ true → is_among ns v.var ≡ true
    by_test true e k = let m : n < v.var = l.0 in absurd (grind (arith, nat_tests, e, m))
    by_test false e k = k

-- what is asked of these numbers
abbrev pub AreAsked : (ℕ → Units ℤ) → List VarCert → List ℕ → Type 0
AreAsked units vars ns = AllByRecursion (λ n. AreUnits (vector_of vars n) (units n)) ns

-- the first line isn't of a larger number
asked_others : (units : ℕ → Units ℤ) (v : VarCert) (vs : List VarCert) (ns : List ℕ) → ((m : ℕ) → is_among ns m ≡ true → v.var < m)
    → AreAsked units (v ∷ vs) ns → AreAsked units vs ns
asked_others units v vs [] l h = tt
asked_others units v vs (n ∷ ns) l h = (by_test (v.var == n) refl h.0, asked_others units v vs ns (λ m k. l m (later n m ns k)) h.1)
  where
    here : (n : ℕ) (ns : List ℕ) → is_among (n ∷ ns) n ≡ true
    here n ns = let t : (n == n) ≡ true = grind (arith, nat_tests) in ap (λ b. b || is_among ns n) t

    later : (d c : ℕ) (cs : List ℕ) → is_among cs c ≡ true → is_among (d ∷ cs) c ≡ true
    later d c cs m = by_case (d == c)
      where
        by_case : (b : Bool) → (b || is_among cs c) ≡ true
        by_case true = refl
        by_case false = m

    by_test : (b : Bool) → (v.var == n) ≡ b → AreUnits (if b then v.vector else vector_of vs n) (units n) → AreUnits (vector_of vs n) (units n)
    by_test true e k = let m : v.var < n = l n (here n ns) in absurd (grind (arith, nat_tests, e, m))
    by_test false e k = k

module _ (types : List DataType) (f : Func) (s : Site) (have : ℕ → Option Vector) (carried : Carried ℤ) (local : ℕ → Option ℕ) (units : ℕ → Units ℤ) (held : AreHeld f have carried) where
  pub asked_found : (ns xs : List ℕ) (vars : List VarCert) → Aligned local ns xs → Ascend ns → LinesAscend vars → AreOf ns vars → AreAsked units vars ns
      → Found (local_checks types f s carried (along units ns xs)) (asked_short types f s have local vars)
  asked_found [] [] [] al a la among asked = nothing
  asked_found [] [] (v ∷ vs) al a la among asked = let k : false ≡ true = among.0 in absurd cc
  asked_found [] (x ∷ xs) vars al a la among asked = absurd al
  asked_found (n ∷ ns) [] vars al a la among asked = absurd al
  asked_found (n ∷ ns) (x ∷ xs) [] al a la among asked =
      past (value_checks types s (kind_of f x) (carried x) (units n)) (local_checks types f s carried (along units ns xs)) None
      (asks_nothing types s (kind_of f x) (have x) (carried x) (units n) (held x) asked.0) (asked_found ns xs [] al.1 (ns_others n ns a) tt tt asked.1)
  asked_found (n ∷ ns) (x ∷ xs) (v ∷ vs) al a la among asked =
      by_test (λ h k l. asked_found ns xs vs al.1 (ns_others n ns a) h k l) (λ k. asked_found ns xs (v ∷ vs) al.1 (ns_others n ns a) la k asked.1) (v.var == n) refl
    where
      by_test : (LinesAscend vs → AreOf ns vs → AreAsked units vs ns → Found (local_checks types f s carried (along units ns xs)) (asked_short types f s have local vs))
          → (AreOf ns (v ∷ vs) → Found (local_checks types f s carried (along units ns xs)) (asked_short types f s have local (v ∷ vs)))
          → (b : Bool) → (v.var == n) ≡ b
          → Found (value_checks types s (kind_of f x) (carried x) (units n) ++ local_checks types f s carried (along units ns xs)) (asked_short types f s have local (v ∷ vs))
      by_test here there true e =
          let same : v.var ≡ n = grind (arith, nat_tests, e) in
          let mine : AreUnits v.vector (units n) = subst (λ b. AreUnits (if b then v.vector else vector_of vs n) (units n)) e asked.0 in
          let lines : AllByRecursion (λ w. n < w.var) vs = lines_above n v vs (omega (arith, same)) la in
          let found : local v.var ≡ Some x = ap local same ∙ al.0 in
          subst (λ o. Found (value_checks types s (kind_of f x) (carried x) (units n) ++ local_checks types f s carried (along units ns xs)) (option_or (local_short types f s have o v.vector) (asked_short types f s have local vs))) (sym found)
          (both (value_checks types s (kind_of f x) (carried x) (units n)) (local_checks types f s carried (along units ns xs)) (local_short types f s have (Some x) v.vector) (asked_short types f s have local vs)
          (local_found types f s have carried x v.vector (units n) held mine)
          (λ k. here (others v vs la) (among_others n ns vs lines among.1) (asked_others units v vs ns (λ m l. subst (λ i. i < m) (sym same) (above n m ns a l)) asked.1)))
      by_test here there false e =
          let mine : is_among ns v.var ≡ true = by_case (n == v.var) refl among.0 in
          let less : n < v.var = above n v.var ns a mine in
          let lines : AllByRecursion (λ w. n < w.var) (v ∷ vs) = (less, lines_above n v vs (omega (arith, less)) la) in
          let zero : AreUnits [] (units n) = subst (λ w. AreUnits w (units n)) (none_below (v ∷ vs) n la lines) asked.0 in
          past (value_checks types s (kind_of f x) (carried x) (units n)) (local_checks types f s carried (along units ns xs)) (asked_short types f s have local (v ∷ vs))
          (asks_nothing types s (kind_of f x) (have x) (carried x) (units n) (held x) zero) (there (among_others n ns (v ∷ vs) lines among))
        where
          by_case : (b : Bool) → (n == v.var) ≡ b → (b || is_among ns v.var) ≡ true → is_among ns v.var ≡ true
          by_case true d k = absurd (grind (arith, nat_tests, d, e))
          by_case false d k = k
