-- The arms of a case, and their lines, fit as code.
use Rattle.std.proofs.Common.{◌≡◌, ℕ, zero, suc, ◌+◌, ◌-◌, ◌≤◌, ◌<◌, Bool, true, false, List, [], ◌∷◌, ◌++◌, length, Option, Some, None, refl, sym, ap, ◌∙◌, subst, arith}
use Rattle.std.specs.Prelude.{if◌then◌else◌, nat_lt, slice_get, IsSomeAnd}
use Rattle.std.specs.List.{AllByRecursion}
use Rattle.camelot_values.specs.Kinds.{Constructor, DataType, constructors, constructor, type_from, type_of}
use Rattle.camelot_values.specs.declared.kinds.Kind.{Kind}
use Rattle.camelot_values.specs.declared.kinds.Kind.TheVariants as kind
use Rattle.camelot_tree.specs.Tree.{Branch, Source}
use Rattle.camelot_typing.specs.Kinds.{types_of, numbered, numbers_from, numbers_of}
use Rattle.grail_blocks.specs.Blocks as block
use Rattle.grail_blocks.specs.Blocks.{CaseArm}
use Rattle.grail_code.specs.Code.{Func, Code}
use Rattle.grail_code.specs.WellFormed.{ArmFits, ArmsFit, TermFits, data_type}
use Rattle.normal_form.specs.Normal.{Line, case_arm, total, in_turn, all_of}
use Rattle.normal_form.proofs.Lines.{closes}
use Rattle.normal_form.proofs.KindsAt.{Frame, At, at_front, at_back}
use Rattle.normal_form.proofs.FitParts.{Coding, LinesFit, fit_append, kind_at}

-- ---- the constructors of a type

type_least : (number : ℕ) (types : List DataType) (c t : ℕ) → type_from number types c ≡ Some t → (number ≤ t) × (t < number + length types)
type_least number [] c t e = absurd cc
type_least number (d ∷ ds) c t e = by_test (nat_lt c (length d.cons)) (λ k. type_least (suc number) ds (c - length d.cons) t k) e
  where
    by_test : (b : Bool) → (type_from (suc number) ds (c - length d.cons) ≡ Some t → (suc number ≤ t) × (t < suc number + length ds))
        → (if b then Some number else type_from (suc number) ds (c - length d.cons)) ≡ Some t
        → (number ≤ t) × (t < number + suc (length ds))
    by_test true rec e = let same : number ≡ t = cc in (omega (arith, same), omega (arith, same))
    by_test false rec e = let k = rec e in (omega (arith, k), omega (arith, k))

-- a type that a constructor belongs to is there
pub type_there : (types : List DataType) (c t : ℕ) → type_of types c ≡ Some t → t < length types
type_there types c t e = let k = type_least 0 types c t e in omega (arith, k)

-- a type among those from `first` on, and the numbers of its constructors
pub record TypeAt (types : List DataType) (first t : ℕ) : Type 0 where
  pub d : DataType
  pub is : slice_get types t ≡ Some d
  pub k : ℕ
  pub numbers : numbers_from first types t ≡ numbered (first + k) d.cons
  pub at : (i : ℕ) (c : Constructor) → slice_get d.cons i ≡ Some c → constructor types (k + i) ≡ Some c

front_item : {A : Type 0} (xs ys : List A) (i : ℕ) (x : A) → slice_get xs i ≡ Some x → slice_get (xs ++ ys) i ≡ Some x
front_item [] ys i x e = let k : None ≡ Some x = e in absurd cc
front_item (y ∷ xs) ys zero x e = e
front_item (y ∷ xs) ys (suc i) x e = front_item xs ys i x e

back_item : {A : Type 0} (xs ys : List A) (i : ℕ) → slice_get (xs ++ ys) (length xs + i) ≡ slice_get ys i
back_item [] ys i = let e : 0 + i ≡ i = omega arith in ap (slice_get ys) e
back_item (x ∷ xs) ys i = let e : suc (length xs) + i ≡ suc (length xs + i) = omega arith in ap (slice_get (x ∷ (xs ++ ys))) e ∙ back_item xs ys i

pub type_at : (types : List DataType) (first t : ℕ) → t < length types → TypeAt types first t
type_at [] first t h = absurd (omega (arith, h))
type_at (d ∷ ds) first zero h = let same : first ≡ first + 0 = omega arith in record {
  d = d;
  is = refl;
  k = 0;
  numbers = ap (λ n. numbered n d.cons) same;
  at = λ i c e. (let same : 0 + i ≡ i = omega arith in ap (slice_get (d.cons ++ constructors ds)) same ∙ front_item d.cons (constructors ds) i c e);
}
type_at (d ∷ ds) first (suc t) h =
    let r = type_at ds (first + length d.cons) t (omega (arith, h)) in
    let same : (first + length d.cons) + r.k ≡ first + (length d.cons + r.k) = omega arith in
    record {
      d = r.d;
      is = r.is;
      k = length d.cons + r.k;
      numbers = r.numbers ∙ ap (λ n. numbered n r.d.cons) same;
      at = λ i c e. (let same : (length d.cons + r.k) + i ≡ length d.cons + (r.k + i) = omega arith in ap (slice_get (d.cons ++ constructors ds)) same ∙ back_item d.cons (constructors ds) (r.k + i) ∙ r.at i c e);
    }

-- ---- arms in turn

pub record ArmGoes (p : Code) (f : Func) (number : ℕ) (c : Constructor) (a : CaseArm) (i : ℕ) (lines : List Line) : Type 0 where
  pub arm : ArmFits f number c a
  pub fit : LinesFit p f i lines

-- one of two arms, by the test on its constructor
pub goes_split : (src : Source) (p : Code) (f : Func) (number : ℕ) (c : Constructor) (t : Bool) (first : Branch) (other : Option Branch) (n i : ℕ) (xs ys : List Line) → (t ≡ true → ArmGoes p f number c (case_arm src (Some first) n i) i xs)
    → (t ≡ false → ArmGoes p f number c (case_arm src other n i) i ys) → ArmGoes p f number c (case_arm src (if t then Some first else other) n i) i (if t then xs else ys)
goes_split src p f number c true first other n i xs ys one rest = one refl
goes_split src p f number c false first other n i xs ys one rest = rest refl

pub record TurnsFit (p : Code) (f : Func) (number : ℕ) (cs : List Constructor) (arms : List CaseArm) (i : ℕ) (lines : List Line) : Type 0 where
  pub each : ArmsFit f number cs arms
  pub fit : LinesFit p f i lines

pub turns_fit : (src : Source) (p : Code) (f : Func) (types : List DataType) (all : List Kind) (number low end : ℕ) (arms_of : ℕ → Option Branch) (locals blocks : ℕ → ℕ) (part : ℕ → ℕ → ℕ → List Line) (kinds : ℕ → List Kind) (Covered : ℕ → Type 0)
    → ((con n i : ℕ) → closes (part con n i) ≡ blocks con) → ((con : ℕ) → length (kinds con) ≡ locals con)
    → ((con n i : ℕ) (c : Constructor) → Covered con → constructor types con ≡ Some c → At all n (kinds con) → low ≤ n → number < i → i + blocks con ≤ end → ArmGoes p f number c (case_arm src (arms_of con) n i) i (part con n i))
    → (cs : List Constructor) (k n i : ℕ) → ((j : ℕ) (c : Constructor) → slice_get cs j ≡ Some c → constructor types (k + j) ≡ Some c)
    → AllByRecursion Covered (numbered k cs) → At all n (all_of kinds (numbered k cs)) → low ≤ n → number < i
    → i + total blocks (numbered k cs) ≤ end
    → TurnsFit p f number cs (in_turn locals blocks (λ con n b. case_arm src (arms_of con) n b ∷ []) (numbered k cs) n i) i (in_turn locals blocks part (numbered k cs) n i)
turns_fit src p f types all number low end arms_of locals blocks part kinds Covered count lengths each [] k n i is covered at least more room = record { each = tt; fit = tt }
turns_fit src p f types all number low end arms_of locals blocks part kinds Covered count lengths each (c ∷ cs) k n i is covered at least more room =
    let size = lengths k in
    let counted = count k n i in
    let same : k + 0 ≡ k = omega arith in
    let first = each k n i c covered.0 (ap (constructor types) (sym same) ∙ is 0 c refl) (at_front all n (kinds k) (all_of kinds (numbered (suc k) cs)) at) least more (omega (arith, room)) in
    let rest = turns_fit src p f types all number low end arms_of locals blocks part kinds Covered count lengths each cs (suc k) (n + locals k) (i + blocks k)
    (λ j c e. (let next : suc k + j ≡ k + suc j = omega arith in ap (constructor types) next ∙ is (suc j) c e)) covered.1 (at_back all n (n + locals k) (kinds k) (all_of kinds (numbered (suc k) cs)) (omega (arith, size)) at)
    (omega (arith, least)) (omega (arith, more)) (omega (arith, room)) in
    record { each = (first.arm, rest.each); fit = fit_append p f i (i + blocks k) (part k n i) (in_turn locals blocks part (numbered (suc k) cs) (n + locals k) (i + blocks k)) (omega (arith, counted)) first.fit rest.fit }

-- a case on a value of type t, whose arms are these
pub record CaseGoes (p : Code) (f : Func) (number : ℕ) (x : ℕ) (arms : List CaseArm) (i : ℕ) (lines : List Line) : Type 0 where
  pub term : TermFits p f number (block.Case x arms)
  pub fit : LinesFit p f i lines

pub case_goes : (F : Frame) (C : Coding F) (number low end x t : ℕ) (arms_of : ℕ → Option Branch) (locals blocks : ℕ → ℕ) (part : ℕ → ℕ → ℕ → List Line) (kinds : ℕ → List Kind) (Covered : ℕ → Type 0)
    → ((con n i : ℕ) → closes (part con n i) ≡ blocks con) → ((con : ℕ) → length (kinds con) ≡ locals con)
    → ((con n i : ℕ) (c : Constructor) → Covered con → constructor (types_of F.source) con ≡ Some c → At F.kinds n (kinds con) → low ≤ n → number < i → i + blocks con ≤ end
    → ArmGoes C.program C.func number c (case_arm F.source (arms_of con) n i) i (part con n i))
    → (cons : List ℕ) (n i : ℕ) → cons ≡ numbers_of (types_of F.source) t → slice_get F.kinds x ≡ Some (kind.Of t) → t < length (types_of F.source)
    → AllByRecursion Covered cons → At F.kinds n (all_of kinds cons) → low ≤ n → number < i
    → i + total blocks cons ≤ end → CaseGoes C.program C.func number x (in_turn locals blocks (λ con n b. case_arm F.source (arms_of con) n b ∷ []) cons n i) i (in_turn locals blocks part cons n i)
case_goes F C number low end x t arms_of locals blocks part kinds Covered count lengths each cons n i are of_type there covered at least more room =
    let types = types_of F.source in
    let T = type_at types 0 t there in
    let same : 0 + T.k ≡ T.k = omega arith in
    let numbers : cons ≡ numbered T.k T.d.cons = are ∙ T.numbers ∙ ap (λ n. numbered n T.d.cons) same in
    let r = turns_fit F.source C.program C.func types F.kinds number low end arms_of locals blocks part kinds Covered count lengths each T.d.cons T.k n i T.at (subst (AllByRecursion Covered) numbers covered)
    (subst (λ cs. At F.kinds n (all_of kinds cs)) numbers at) least more (subst (λ cs. i + total blocks cs ≤ end) numbers room) in
    let back = sym numbers in
    let arms = subst (λ cs. ArmsFit C.func number T.d.cons (in_turn locals blocks (λ con n b. case_arm F.source (arms_of con) n b ∷ []) cs n i)) back r.each in
    record {
      term = subst (λ o. IsSomeAnd o (λ t. ArmsFit C.func number t.cons (in_turn locals blocks (λ con n b. case_arm F.source (arms_of con) n b ∷ []) cons n i)))
          (sym (ap (λ o. data_type C.program.types o) (kind_at F C x (kind.Of t) of_type) ∙ ap (λ ts. slice_get ts t) C.types_are ∙ T.is)) arms;
      fit = subst (λ cs. LinesFit C.program C.func i (in_turn locals blocks part cs n i)) back r.fit;
    }
