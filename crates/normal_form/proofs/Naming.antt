-- Names by their numbers, and arms by their constructors.
use Rattle.std.proofs.Common.{◌≡◌, ℕ, zero, suc, ◌+◌, ◌-◌, ◌*◌, ◌<◌, ◌≤◌, Bool, true, false, if◌then◌else◌, List, [], ◌∷◌, ◌++◌, map, length, drop, get_or, Option, Some, None, refl, sym, ap, ◌∙◌, subst, arith, append-nil}
use Rattle.std.specs.List.{AllByRecursion}
use Rattle.std.proofs.lemmas.List.{length-map}
use Rattle.camelot_values.specs.Names.{place_among}
use Rattle.camelot_values.specs.Kinds.{DataType, constructors, data_type_of, constructor_of, type_of, IsDataType, AreTypes}
use Rattle.camelot_values.specs.declared.kinds.TypeDef.{TypeDef}
use Rattle.camelot_tree.specs.declared.tree.Name.{Name}
use Rattle.camelot_tree.specs.declared.tree.Arm.{Arm}
use Rattle.camelot_tree.specs.Tree.{Source, Arms, NoArms, AndArm, Branch, arms, branch_of}
use Rattle.camelot_tree.specs.Spine.{size, arms_size}
use Rattle.camelot_tree.specs.Meaning.{constructor_number, is_that}
use Rattle.camelot_typing.specs.Kinds.{types_of, numbered, numbers_from, numbers_of, or_else}
use Rattle.camelot_typing.specs.NumberLaws.{number_same}
use Rattle.normal_form.specs.Normal.{cons_of, arm_for}
use Rattle.normal_form.specs.Tables.{cons_by}
use Rattle.linear_use.specs.TableLaws.{left_item}

pub constructor_named : (p : Source) (types : List DataType) (names : List (List ℕ)) (n : Name) (o : Option ℕ) → types ≡ types_of p
    → names ≡ map (λ c. c.name) (constructors types) → o ≡ place_among names n.word
    → o ≡ constructor_number p n
constructor_named p types names n o t h k = k ∙ ap (λ l. place_among l n.word) h ∙ ap (λ ts. place_among (map (λ c. c.name) (constructors ts)) n.word) t ∙ number_same p n

-- ---- the constructors of a type

-- the next type, and those behind it
pub next_type : (defs : List TypeDef) (i : ℕ) (d : TypeDef) → suc i ≤ length defs → d ≡ get_or defs i d
    → map data_type_of (drop i defs) ≡ data_type_of d ∷ map data_type_of (drop (i + 1) defs)
next_type defs i d h e = left_item data_type_of defs i (i + 1) d refl h e

pub type_is_few : (defs : List TypeDef) (i : ℕ) (d : TypeDef) → AllByRecursion IsDataType (map data_type_of defs) → suc i ≤ length defs
    → d ≡ get_or defs i d → length d.cons.items ≤ 64
type_is_few [] i d each h e = absurd (omega (arith, h))
type_is_few (x ∷ defs) zero d each h e = let few = each.0.few_cons in let count = length-map x.cons.items constructor_of in subst (λ y. length y.cons.items ≤ 64) (sym e) (omega (arith, few, count))
type_is_few (x ∷ defs) (suc i) d each h e = type_is_few defs i d each.1 (omega (arith, h)) e

numbered_map : {A B : Type 0} (f : A → B) (first : ℕ) (xs : List A) → numbered first (map f xs) ≡ numbered first xs
numbered_map f first [] = refl
numbered_map f first (x ∷ xs) = ap (λ l. first ∷ l) (numbered_map f (suc first) xs)

-- the type is the next one, or one behind it
pub numbers_here : (first left i : ℕ) (defs : List TypeDef) (d : TypeDef) → suc i ≤ length defs → d ≡ get_or defs i d → left ≡ 0
    → numbers_from first (map data_type_of (drop i defs)) left ≡ numbered first d.cons.items
numbers_here first left i defs d h e z =
    ap (λ ts. numbers_from first ts left) (next_type defs i d h e) ∙ ap (λ n. numbers_from first (data_type_of d ∷ map data_type_of (drop (i + 1) defs)) n) z
    ∙ numbered_map constructor_of first d.cons.items

pub numbers_later : (first left i : ℕ) (defs : List TypeDef) (d : TypeDef) (n : ℕ) → suc i ≤ length defs → d ≡ get_or defs i d → 0 < left
    → n ≡ length d.cons.items
    → numbers_from (first + n) (map data_type_of (drop (i + 1) defs)) (left - 1) ≡ numbers_from first (map data_type_of (drop i defs)) left
numbers_later first zero i defs d n h e some k = absurd (omega (arith, some))
numbers_later first (suc left) i defs d n h e some k =
    let count = length-map d.cons.items constructor_of in
    let same : first + n ≡ first + length (map constructor_of d.cons.items) = omega (arith, k, count) in
    let less : suc left - 1 ≡ left = omega arith in
    ap (λ m. numbers_from m (map data_type_of (drop (i + 1) defs)) (suc left - 1)) same
    ∙ ap (λ m. numbers_from (first + length (map constructor_of d.cons.items)) (map data_type_of (drop (i + 1) defs)) m) less
    ∙ ap (λ ts. numbers_from first ts (suc left)) (sym (next_type defs i d h e))

pub record FewHere (first : ℕ) (d : TypeDef) : Type 0 where
  pub few : length d.cons.items ≤ 64
  pub within : first + length d.cons.items ≤ 4096

pub few_here : (types : List DataType) (defs : List TypeDef) (first i : ℕ) (d : TypeDef) → AreTypes types → map data_type_of defs ≡ types
    → suc i ≤ length defs → d ≡ get_or defs i d → first ≤ 64 * i → FewHere first d
few_here types defs first i d h same less e below =
    let few = type_is_few defs i d (subst (AllByRecursion IsDataType) (sym same) h.each) less e in
    let count = length-map defs data_type_of in
    let all = h.few_types in
    let whole = ap length same in
    record { few = few; within = omega (arith, few, count, all, whole, less, below) }

-- the constructors of a match, by its arms' numbers
pub cons_same : (p : Source) (types : List DataType) (arms_of : List Arm) → types ≡ types_of p
    → cons_by types (map (λ a. constructor_number p (branch_of a).con) arms_of) ≡ cons_of p (arms (map branch_of arms_of))
cons_same p types [] t = refl
cons_same p types (a ∷ as') t = ap (λ ts. numbers_of ts (or_else (type_of ts (or_else (constructor_number p (branch_of a).con) 0)) 0)) t

-- nothing is left behind the last one
pub dropped_all : {A : Type 0} (xs : List A) (i : ℕ) → length xs ≤ i → drop i xs ≡ []
dropped_all [] zero h = refl
dropped_all [] (suc i) h = refl
dropped_all (x ∷ xs) zero h = absurd (omega (arith, h))
dropped_all (x ∷ xs) (suc i) h = dropped_all xs i (omega (arith, h))

pub all_placed : {A B : Type 0} (f : A → B) (done : List B) (xs whole : List A) (i : ℕ) → done ++ map f (drop i xs) ≡ map f xs → length xs ≤ i
    → xs ≡ whole → done ≡ map f whole
all_placed f done xs whole i h over e = sym (append-nil done) ∙ ap (λ l. done ++ map f l) (sym (dropped_all xs i over)) ∙ h ∙ ap (map f) e

-- ---- sizes

abbrev pub body_size : Option Branch → ℕ
body_size None = 0
body_size (Some a) = size a.body

arm_smaller_for : (p : Source) (as' : Arms) (con : ℕ) → body_size (arm_for p as' con) ≤ arms_size as'
arm_smaller_for p NoArms con = omega arith
arm_smaller_for p (AndArm c fs x b as') con = by_test (is_that (constructor_number p c) con) (arm_smaller_for p as' con)
  where
    by_test : (t : Bool) → body_size (arm_for p as' con) ≤ arms_size as' → body_size (if t then Some (record { con = c; fields = fs; cell = x; body = b }) else arm_for p as' con) ≤ size b + arms_size as'
    by_test true h = omega arith
    by_test false h = omega (arith, h)

pub ordered_smaller : {A : Type 0} (f : A → Option Branch) (p : Source) (as' : Arms) (order : List A) (cons : List ℕ) (i : ℕ) (x : A)
    → map f order ≡ map (arm_for p as') cons → i < length order → x ≡ get_or order i x
    → body_size (f x) ≤ arms_size as'
ordered_smaller f p as' [] cons i x h less e = absurd (omega (arith, less))
ordered_smaller f p as' (y ∷ order) [] i x h less e = absurd cc
ordered_smaller f p as' (y ∷ order) (con ∷ cons) zero x h less e = let same : f y ≡ arm_for p as' con = cc in subst (λ o. body_size o ≤ arms_size as') (sym (ap f e ∙ same)) (arm_smaller_for p as' con)
ordered_smaller f p as' (y ∷ order) (con ∷ cons) (suc i) x h less e = let same : map f order ≡ map (arm_for p as') cons = cc in ordered_smaller f p as' order cons i x same (omega (arith, less)) e
