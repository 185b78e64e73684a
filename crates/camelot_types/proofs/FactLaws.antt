-- Constructors by their numbers, as the code keeps them.
use Rattle.std.proofs.Common.{◌≡◌, ℕ, zero, suc, ◌-◌, ◌<◌, ◌≤◌, Bool, true, false, List, [], ◌∷◌, ◌++◌, map, length, get_or, Option, Some, None, IfSome, refl, sym, ap, ◌∙◌, Bor, arith}
use Rattle.std.specs.Prelude.{nat_lt, is_some, slice_get, if◌then◌else◌}
use Rattle.std.specs.Option.{option_map}
use Rattle.std.proofs.lemmas.Bool.Decides.{nat_tests}
use Rattle.std.proofs.lemmas.List.{map-append}
use Rattle.std.proofs.lemmas.Option.{slice_get-map}
use Rattle.camelot_values.specs.Kinds.{Constructor, DataType, constructor, constructors, constructor_of, type_from, type_of}
use Rattle.camelot_values.specs.KindLaws.{slice_get_front, slice_get_behind}
use Rattle.camelot_types.specs.declared.facts.ConFact.{ConFact}
use Rattle.camelot_types.specs.Facts.{Fact, fact_of, fact_at, facts_from}

-- ---- an item by its place

got : {A : Type 0} (xs : List A) (i : ℕ) (o : Option (Bor A)) → is_some o ≡ nat_lt i (length xs) → IfSome o (λ x. x.now ≡ get_or xs i x.now)
    → option_map (λ x. x.now) o ≡ slice_get xs i
got [] i None h e = refl
got [] i (Some x) h e = let less : nat_lt i 0 ≡ false = grind (arith, nat_tests) in absurd (let k : true ≡ false = h ∙ less in cc)
got (y ∷ xs) zero None h e = let less : nat_lt 0 (suc (length xs)) ≡ true = grind (arith, nat_tests) in absurd (let k : false ≡ true = h ∙ less in cc)
got (y ∷ xs) zero (Some x) h e = ap Some e
got (y ∷ xs) (suc i) None h e = let same : nat_lt (suc i) (suc (length xs)) ≡ nat_lt i (length xs) = grind (arith, nat_tests) in got xs i None (h ∙ same) e
got (y ∷ xs) (suc i) (Some x) h e = let same : nat_lt (suc i) (suc (length xs)) ≡ nat_lt i (length xs) = grind (arith, nat_tests) in got xs i (Some x) (h ∙ same) e

-- ---- the facts of all types

cons_same : (owner : ℕ) (cs : List Constructor) → map (λ f. f.con) (map (fact_at owner) cs) ≡ cs
cons_same owner [] = refl
cons_same owner (c ∷ cs) = ap (λ l. c ∷ l) (cons_same owner cs)

facts_cons : (owner : ℕ) (types : List DataType) → map (λ f. f.con) (facts_from owner types) ≡ constructors types
facts_cons owner [] = refl
facts_cons owner (d ∷ ds) =
    map-append (λ f. f.con) (map (fact_at owner) d.cons) (facts_from (suc owner) ds) ∙ ap (λ l. l ++ map (λ f. f.con) (facts_from (suc owner) ds)) (cons_same owner d.cons) ∙ ap (λ l. d.cons ++ l) (facts_cons (suc owner) ds)

length_map : {A B : Type 0} (f : A → B) (xs : List A) → length (map f xs) ≡ length xs
length_map f [] = refl
length_map f (x ∷ xs) = ap suc (length_map f xs)

own_owner : (owner : ℕ) (cs : List Constructor) (c : ℕ) → c < length cs → option_map (λ f. f.owner) (slice_get (map (fact_at owner) cs) c) ≡ Some owner
own_owner owner [] c h = absurd (omega (arith, h))
own_owner owner (x ∷ cs) zero h = refl
own_owner owner (x ∷ cs) (suc c) h = own_owner owner cs c (omega (arith, h))

facts_owner : (owner : ℕ) (types : List DataType) (c : ℕ) → option_map (λ f. f.owner) (slice_get (facts_from owner types) c) ≡ type_from owner types c
facts_owner owner [] c = refl
facts_owner owner (d ∷ ds) c = by_test (facts_owner (suc owner) ds (c - length d.cons)) (nat_lt c (length d.cons)) refl
  where
    own : List Fact
    own = map (fact_at owner) d.cons

    rest : List Fact
    rest = facts_from (suc owner) ds

    long : length own ≡ length d.cons
    long = length_map (fact_at owner) d.cons

    by_test : option_map (λ f. f.owner) (slice_get rest (c - length d.cons)) ≡ type_from (suc owner) ds (c - length d.cons) → (b : Bool)
        → nat_lt c (length d.cons) ≡ b
        → option_map (λ f. f.owner) (slice_get (own ++ rest) c) ≡ (if b then Some owner else type_from (suc owner) ds (c - length d.cons))
    by_test later true b =
        let less : c < length d.cons = grind (arith, nat_tests, b) in
        ap (option_map (λ f. f.owner)) (slice_get_front own rest c (omega (arith, less, long))) ∙ own_owner owner d.cons c less
    by_test later false b =
        let more : length d.cons ≤ c = grind (arith, nat_tests, b) in
        ap (option_map (λ f. f.owner)) (slice_get_behind own rest c (omega (arith, more, long))) ∙ ap (λ n. option_map (λ f. f.owner) (slice_get rest (c - n))) long ∙ later

-- ---- a fact by its number

found : (facts : List ConFact) (types : List DataType) (con : ℕ) (o : Option (Bor ConFact)) → map fact_of facts ≡ facts_from 0 types
    → is_some o ≡ nat_lt con (length facts) → IfSome o (λ x. x.now ≡ get_or facts con x.now)
    → option_map (λ x. fact_of x.now) o ≡ slice_get (facts_from 0 types) con
found facts types con o h k e =
    through o ∙ ap (option_map fact_of) (got facts con o k e) ∙ sym (slice_get-map fact_of facts con) ∙ ap (λ l. slice_get l con) h
  where
    through : (o : Option (Bor ConFact)) → option_map (λ x. fact_of x.now) o ≡ option_map fact_of (option_map (λ x. x.now) o)
    through None = refl
    through (Some x) = refl

pub fact_con : (facts : List ConFact) (types : List DataType) (con : ℕ) (o : Option (Bor ConFact)) → map fact_of facts ≡ facts_from 0 types
    → is_some o ≡ nat_lt con (length facts) → IfSome o (λ x. x.now ≡ get_or facts con x.now)
    → option_map (λ x. constructor_of x.now.con.now) o ≡ constructor types con
fact_con facts types con o h k e =
    through o ∙ ap (option_map (λ f. f.con)) (found facts types con o h k e) ∙ sym (slice_get-map (λ f. f.con) (facts_from 0 types) con) ∙ ap (λ l. slice_get l con) (facts_cons 0 types)
  where
    through : (o : Option (Bor ConFact)) → option_map (λ x. constructor_of x.now.con.now) o ≡ option_map (λ f. f.con) (option_map (λ x. fact_of x.now) o)
    through None = refl
    through (Some x) = refl

pub fact_owner : (facts : List ConFact) (types : List DataType) (con : ℕ) (o : Option (Bor ConFact)) → map fact_of facts ≡ facts_from 0 types
    → is_some o ≡ nat_lt con (length facts) → IfSome o (λ x. x.now ≡ get_or facts con x.now)
    → option_map (λ x. x.now.owner) o ≡ type_of types con
fact_owner facts types con o h k e = through o ∙ ap (option_map (λ f. f.owner)) (found facts types con o h k e) ∙ facts_owner 0 types con
  where
    through : (o : Option (Bor ConFact)) → option_map (λ x. x.now.owner) o ≡ option_map (λ f. f.owner) (option_map (λ x. fact_of x.now) o)
    through None = refl
    through (Some x) = refl
