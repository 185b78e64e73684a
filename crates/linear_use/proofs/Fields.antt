-- The variables of an arm: each number that its names get counts the uses of that name, and has the kind of its field.
use Rattle.std.proofs.Common.{◌≡◌, ℕ, suc, ◌+◌, ◌≤◌, Bool, true, false, if◌then◌else◌, List, [], ◌∷◌, ◌++◌, length, Option, Some, None, refl, ap, ◌∙◌, subst, arith, ◌⊎◌, inl, inr}
use Rattle.std.specs.Prelude.{◌||◌, ◌&&◌, not}
use Rattle.std.specs.Str.{bytes_eq}
use Rattle.camelot_values.specs.Kinds.{DataType}
use Rattle.camelot_values.specs.Heap.{is_heap}
use Rattle.camelot_values.specs.Names.{find}
use Rattle.camelot_values.specs.declared.kinds.Kind.{Kind}
use Rattle.camelot_values.specs.declared.kinds.Kind.TheVariants as kind
use Rattle.camelot_values.specs.NameLaws.{name_itself}
use Rattle.camelot_tree.specs.declared.tree.Name.{Name}
use Rattle.camelot_tree.specs.declared.tree.ArmCell.{ArmCell}
use Rattle.camelot_tree.specs.declared.tree.ArmCell.TheVariants as cell
use Rattle.camelot_typing.specs.Kinds.{Scope, bind, field_names, cell_names, bind_fields, bind_cell}
use Rattle.camelot_typing.specs.Typing.{known_kind}
use Rattle.linear_use.specs.declared.variable.Variable.{Variable}
use Rattle.linear_use.specs.Uses.{is_bound}
use Rattle.linear_use.specs.Flow.{kinds_in, fields_count, cell_count, number_fields, number_cell}
use Rattle.linear_use.proofs.Shapes.{AreApart}
use Rattle.linear_use.proofs.Binders.{and_true, Means, bind_here, bind_other, unequal, inner, inner_other}

-- ---- kinds

cell_kinds : (lends : Kind → Bool) (last : ℕ) (x : ArmCell) (s : Scope Variable) → kinds_in (number_cell lends last x s) ≡ bind_cell known_kind x (kinds_in s)
cell_kinds lends last cell.Plain s = refl
cell_kinds lends last cell.Free s = refl
cell_kinds lends last (cell.Keep n) s = refl

pub inner_kinds : (lends : Kind → Bool) (next last : ℕ) (fs : List (Option Name)) (ks : List Kind) (x : ArmCell) (s : Scope Variable)
    → kinds_in (inner lends next last fs ks x s) ≡ bind_cell known_kind x (bind_fields known_kind fs ks (kinds_in s))
inner_kinds lends next last [] ks x s = cell_kinds lends last x s
inner_kinds lends next last (None ∷ fs) [] x s = cell_kinds lends last x s
inner_kinds lends next last (Some n ∷ fs) [] x s = cell_kinds lends last x s
inner_kinds lends next last (None ∷ fs) (k ∷ ks) x s = inner_kinds lends next last fs ks x s
inner_kinds lends next last (Some n ∷ fs) (k ∷ ks) x s = inner_kinds lends (suc next) last fs ks x (bind n.word (record { number = next; kind = k; lent = lends k }) s)

-- ---- what is lent

abbrev pub lents_in : Scope Variable → Scope Bool
lents_in [] = []
lents_in (b ∷ bs) = record { name = b.name; is = b.is.lent } ∷ lents_in bs

cell_lents : (lends : Kind → Bool) (last : ℕ) (x : ArmCell) (s : Scope Variable) → lents_in (number_cell lends last x s) ≡ bind_cell lends x (lents_in s)
cell_lents lends last cell.Plain s = refl
cell_lents lends last cell.Free s = refl
cell_lents lends last (cell.Keep n) s = refl

pub inner_lents : (lends : Kind → Bool) (next last : ℕ) (fs : List (Option Name)) (ks : List Kind) (x : ArmCell) (s : Scope Variable)
    → lents_in (inner lends next last fs ks x s) ≡ bind_cell lends x (bind_fields lends fs ks (lents_in s))
inner_lents lends next last [] ks x s = cell_lents lends last x s
inner_lents lends next last (None ∷ fs) [] x s = cell_lents lends last x s
inner_lents lends next last (Some n ∷ fs) [] x s = cell_lents lends last x s
inner_lents lends next last (None ∷ fs) (k ∷ ks) x s = inner_lents lends next last fs ks x s
inner_lents lends next last (Some n ∷ fs) (k ∷ ks) x s = inner_lents lends (suc next) last fs ks x (bind n.word (record { number = next; kind = k; lent = lends k }) s)

-- what a name means stays, where no binder has it
cell_find : (lends : Kind → Bool) (last : ℕ) (x : ArmCell) (s : Scope Variable) (y : List ℕ) → is_bound y (cell_names x) ≡ false
    → find (kinds_in (number_cell lends last x s)) y ≡ find (kinds_in s) y
cell_find lends last cell.Plain s y h = refl
cell_find lends last cell.Free s y h = refl
cell_find lends last (cell.Keep n) s y h = at_test (bytes_eq n.word y) h
  where
    at_test : (b : Bool) → (b || false) ≡ false → (if b then Some kind.Dia else find (kinds_in s) y) ≡ find (kinds_in s) y
    at_test true e = cc
    at_test false e = refl

inner_find : (lends : Kind → Bool) (next last : ℕ) (fs : List (Option Name)) (ks : List Kind) (x : ArmCell) (s : Scope Variable) (y : List ℕ) → length fs ≡ length ks
    → is_bound y (field_names fs ++ cell_names x) ≡ false → find (kinds_in (inner lends next last fs ks x s)) y ≡ find (kinds_in s) y
inner_find lends next last [] ks x s y l h = cell_find lends last x s y h
inner_find lends next last (f ∷ fs) [] x s y l h = absurd (omega (arith, l))
inner_find lends next last (None ∷ fs) (k ∷ ks) x s y l h = inner_find lends next last fs ks x s y (omega (arith, l)) h
inner_find lends next last (Some n ∷ fs) (k ∷ ks) x s y l h =
    let s2 : Scope Variable = bind n.word (record { number = next; kind = k; lent = lends k }) s in
    inner_find lends (suc next) last fs ks x s2 y (omega (arith, l)) (second (bytes_eq n.word y) h) ∙ at_test (bytes_eq n.word y) h
  where
    second : (b : Bool) → (b || is_bound y (field_names fs ++ cell_names x)) ≡ false → is_bound y (field_names fs ++ cell_names x) ≡ false
    second true e = cc
    second false e = e

    at_test : (b : Bool) → (b || is_bound y (field_names fs ++ cell_names x)) ≡ false → (if b then Some k else find (kinds_in s) y) ≡ find (kinds_in s) y
    at_test true e = cc
    at_test false e = refl

cell_found : (lends : Kind → Bool) (last : ℕ) (x : ArmCell) (s : Scope Variable) (y : List ℕ) → is_bound y (cell_names x) ≡ false
    → find (lents_in (number_cell lends last x s)) y ≡ find (lents_in s) y
cell_found lends last cell.Plain s y h = refl
cell_found lends last cell.Free s y h = refl
cell_found lends last (cell.Keep n) s y h = at_test (bytes_eq n.word y) h
  where
    at_test : (b : Bool) → (b || false) ≡ false → (if b then Some (lends kind.Dia) else find (lents_in s) y) ≡ find (lents_in s) y
    at_test true e = cc
    at_test false e = refl

inner_found : (lends : Kind → Bool) (next last : ℕ) (fs : List (Option Name)) (ks : List Kind) (x : ArmCell) (s : Scope Variable) (y : List ℕ) → length fs ≡ length ks
    → is_bound y (field_names fs ++ cell_names x) ≡ false → find (lents_in (inner lends next last fs ks x s)) y ≡ find (lents_in s) y
inner_found lends next last [] ks x s y l h = cell_found lends last x s y h
inner_found lends next last (f ∷ fs) [] x s y l h = absurd (omega (arith, l))
inner_found lends next last (None ∷ fs) (k ∷ ks) x s y l h = inner_found lends next last fs ks x s y (omega (arith, l)) h
inner_found lends next last (Some n ∷ fs) (k ∷ ks) x s y l h =
    let s2 : Scope Variable = bind n.word (record { number = next; kind = k; lent = lends k }) s in
    inner_found lends (suc next) last fs ks x s2 y (omega (arith, l)) (second (bytes_eq n.word y) h) ∙ at_test (bytes_eq n.word y) h
  where
    second : (b : Bool) → (b || is_bound y (field_names fs ++ cell_names x)) ≡ false → is_bound y (field_names fs ++ cell_names x) ≡ false
    second true e = cc
    second false e = e

    at_test : (b : Bool) → (b || is_bound y (field_names fs ++ cell_names x)) ≡ false → (if b then Some (lends k) else find (lents_in s) y) ≡ find (lents_in s) y
    at_test true e = cc
    at_test false e = refl

-- ---- the variables

-- in this scope number i is the variable of this name
pub record Stands (types : List DataType) (s : Scope Variable) (i : ℕ) (n : Name) (k : Kind) (l : Bool) : Type 0 where
  pub means : Means types s i n.word (is_heap types k && not l)
  pub kind : find (kinds_in s) n.word ≡ Some k
  pub lent : find (lents_in s) n.word ≡ Some l

abbrev pub CellStands : List DataType → (Kind → Bool) → Scope Variable → ℕ → ArmCell → Type 0
CellStands types lends s last (cell.Keep n) = Stands types s last n kind.Dia (lends kind.Dia)
CellStands types lends s last x = Unit {0}

abbrev pub AllStand : List DataType → (Kind → Bool) → Scope Variable → ℕ → ℕ → List (Option Name) → List Kind → ArmCell → Type 0
AllStand types lends s next last [] ks x = CellStands types lends s last x
AllStand types lends s next last (f ∷ fs) [] x = Unit {0}
AllStand types lends s next last (None ∷ fs) (k ∷ ks) x = AllStand types lends s next last fs ks x
AllStand types lends s next last (Some n ∷ fs) (k ∷ ks) x = Stands types s next n k (lends k) × AllStand types lends s (suc next) last fs ks x

-- no number from `next` on stands for a name
abbrev pub Below : List DataType → ℕ → Scope Variable → Type 0
Below types next s = (i : ℕ) → next ≤ i → Means types s i [] false

pub below_bind : (types : List DataType) (next : ℕ) (s : Scope Variable) (w : List ℕ) (v : Variable) → next ≤ v.number → Below types next s
    → Below types (suc v.number) (bind w v s)
below_bind types next s w v h below i p =
    bind_other types s w v i [] false (unequal v.number i (λ q. omega (arith, q, p))) (below i (omega (arith, h, p)))

pub below_more : (types : List DataType) (m n : ℕ) (s : Scope Variable) → m ≤ n → Below types m s → Below types n s
below_more types m n s h below i p = below i (omega (arith, h, p))

pub below_inner : (types : List DataType) (lends : Kind → Bool) (next last : ℕ) (fs : List (Option Name)) (ks : List Kind) (x : ArmCell) (s : Scope Variable) → length fs ≡ length ks
    → last ≡ next + fields_count fs ks → Below types next s → Below types (last + cell_count x) (inner lends next last fs ks x s)
below_inner types lends next last fs ks x s l e below i p =
    inner_other types lends fs ks x next last s i [] false l e (λ q. p) (below i (omega (arith, e, p)))

here : (types : List DataType) (s : Scope Variable) (i : ℕ) (y : List ℕ) (h b : Bool) → b ≡ false → Means types s i y (h && not b) → Means types s i y h
here types s i y h b e m = subst (λ k. Means types s i y k) (ap (λ c. h && not c) e ∙ and_true h) m

cell_stands : (types : List DataType) (lends : Kind → Bool) (last : ℕ) (x : ArmCell) (s : Scope Variable) → Below types last s → CellStands types lends (number_cell lends last x s) last x
cell_stands types lends last cell.Plain s below = tt
cell_stands types lends last cell.Free s below = tt
cell_stands types lends last (cell.Keep n) s below = record {
  means = bind_here types s n.word (record { number = last; kind = kind.Dia; lent = lends kind.Dia }) (below last (omega arith));
  kind = ap (λ b. if b then Some kind.Dia else find (kinds_in s) n.word) (name_itself n.word);
  lent = ap (λ b. if b then Some (lends kind.Dia) else find (lents_in s) n.word) (name_itself n.word);
}

pub all_stand : (types : List DataType) (lends : Kind → Bool) (next last : ℕ) (fs : List (Option Name)) (ks : List Kind) (x : ArmCell) (s : Scope Variable) → length fs ≡ length ks
    → last ≡ next + fields_count fs ks → AreApart (field_names fs ++ cell_names x) → Below types next s → AllStand types lends (inner lends next last fs ks x s) next last fs ks x
all_stand types lends next last [] [] x s l e apart below = cell_stands types lends last x s (below_more types next last s (omega (arith, e)) below)
all_stand types lends next last [] (k ∷ ks) x s l e apart below = absurd (omega (arith, l))
all_stand types lends next last (f ∷ fs) [] x s l e apart below = tt
all_stand types lends next last (None ∷ fs) (k ∷ ks) x s l e apart below = all_stand types lends next last fs ks x s (omega (arith, l)) e apart below
all_stand types lends next last (Some n ∷ fs) (k ∷ ks) x s l e apart below =
    let v : Variable = record { number = next; kind = k; lent = lends k } in
    let s2 : Scope Variable = bind n.word v s in
    let own : Means types s2 next n.word (is_heap types k && not (lends k)) = bind_here types s n.word v (below next (omega arith)) in
    let kept = inner_other types lends fs ks x (suc next) last s2 next n.word (is_heap types k && not (lends k)) (omega (arith, l)) (omega (arith, e)) (λ q. absurd (omega (arith, q))) own in
    let found : find (kinds_in s2) n.word ≡ Some k = ap (λ b. if b then Some k else find (kinds_in s) n.word) (name_itself n.word) in
    let known : find (lents_in s2) n.word ≡ Some (lends k) = ap (λ b. if b then Some (lends k) else find (lents_in s) n.word) (name_itself n.word) in (
      record {
        means = here types (inner lends (suc next) last fs ks x s2) next n.word (is_heap types k && not (lends k)) (is_bound n.word (field_names fs ++ cell_names x)) apart.0 kept;
        kind = inner_find lends (suc next) last fs ks x s2 n.word (omega (arith, l)) apart.0 ∙ found;
        lent = inner_found lends (suc next) last fs ks x s2 n.word (omega (arith, l)) apart.0 ∙ known;
      },
      all_stand types lends (suc next) last fs ks x s2 (omega (arith, l)) (omega (arith, e)) apart.1 (below_bind types next s n.word v (omega arith) below),
    )

-- ---- a loop over the fields

pub ended_scope : (lends : Kind → Bool) (next : ℕ) (fs : List (Option Name)) (ks : List Kind) (s : Scope Variable) → (length fs ≡ 0) ⊎ (length ks ≡ 0)
    → number_fields lends next fs ks s ≡ s
ended_scope lends next [] ks s h = refl
ended_scope lends next (None ∷ fs) [] s h = refl
ended_scope lends next (Some n ∷ fs) [] s h = refl
ended_scope lends next (f ∷ fs) (k ∷ ks) s (inl h) = absurd (omega (arith, h))
ended_scope lends next (f ∷ fs) (k ∷ ks) s (inr h) = absurd (omega (arith, h))

pub ended_count : (fs : List (Option Name)) (ks : List Kind) → (length fs ≡ 0) ⊎ (length ks ≡ 0) → fields_count fs ks ≡ 0
ended_count [] ks h = refl
ended_count (None ∷ fs) [] h = refl
ended_count (Some n ∷ fs) [] h = refl
ended_count (f ∷ fs) (k ∷ ks) (inl h) = absurd (omega (arith, h))
ended_count (f ∷ fs) (k ∷ ks) (inr h) = absurd (omega (arith, h))
