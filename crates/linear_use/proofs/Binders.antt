-- What a number counts in a scope, and how binders change that.
use Rattle.std.proofs.Common.{◌≡◌, ℕ, suc, ◌+◌, ◌≤◌, Bool, true, false, if◌then◌else◌, List, [], ◌∷◌, ◌++◌, length, Option, Some, None, refl, sym, ap, ◌∙◌, subst, arith}
use Rattle.std.specs.Prelude.{◌==◌, ◌||◌, ◌&&◌, not}
use Rattle.std.specs.Str.{bytes_eq}
use Rattle.std.proofs.lemmas.Bool.Decides.{nat_tests}
use Rattle.camelot_values.specs.Kinds.{DataType}
use Rattle.camelot_values.specs.Heap.{is_heap}
use Rattle.camelot_values.specs.Names.{find}
use Rattle.camelot_values.specs.declared.kinds.Kind.{Kind}
use Rattle.camelot_values.specs.declared.kinds.Kind.TheVariants as kind
use Rattle.camelot_values.specs.NameLaws.{same_name, name_itself}
use Rattle.camelot_tree.specs.declared.tree.Name.{Name}
use Rattle.camelot_tree.specs.declared.tree.ArmCell.{ArmCell}
use Rattle.camelot_tree.specs.declared.tree.ArmCell.TheVariants as cell
use Rattle.camelot_typing.specs.Kinds.{Scope, bind, field_names, cell_names}
use Rattle.linear_use.specs.declared.fault.UseFault.TheVariants.{Lent}
use Rattle.linear_use.specs.declared.variable.Variable.{Variable}
use Rattle.linear_use.specs.Uses.{is_bound}
use Rattle.linear_use.specs.Fairness.{one_name}
use Rattle.linear_use.specs.Flow.{Flow, Nothing, Use, Read, Fault, use_flow, read_flow, fields_count, cell_count, number_fields, number_cell}
use Rattle.linear_use.proofs.Flows.{flow_uses, flow_reads, flow_seen, IsFairIn, bit}

abbrev pub only : Bool → ℕ → ℕ
only true n = n
only false n = 0

-- 1 where the variable is owned, of a heap kind, and has this number
abbrev pub counts_as : List DataType → Option Variable → ℕ → ℕ
counts_as types None i = 0
counts_as types (Some v) i = if v.lent then 0 else if is_heap types v.kind then bit (v.number == i) else 0

-- the variable is owned and of a heap kind
abbrev pub is_owned : List DataType → Variable → Bool
is_owned types v = is_heap types v.kind && not v.lent

-- where this holds, the number is that of the name, and else of nothing that is watched
abbrev pub Means : List DataType → Scope Variable → ℕ → List ℕ → Bool → Type 0
Means types s i x h = (n : Name) → counts_as types (find s n.word) i ≡ only h (one_name x n)

pub only_none : (h : Bool) → only h 0 ≡ 0
only_none true = refl
only_none false = refl

pub and_false : (h : Bool) → (h && false) ≡ false
and_false true = refl
and_false false = refl

pub and_true : (h : Bool) → (h && true) ≡ h
and_true true = refl
and_true false = refl

-- ---- one binder

pub variable_counts : (types : List DataType) (v : Variable) (i : ℕ) → counts_as types (Some v) i ≡ only (is_owned types v) (bit (v.number == i))
variable_counts types v i = at_kind (is_heap types v.kind) v.lent
  where
    at_kind : (h l : Bool) → (if l then 0 else if h then bit (v.number == i) else 0) ≡ only (h && not l) (bit (v.number == i))
    at_kind true true = refl
    at_kind true false = refl
    at_kind false true = refl
    at_kind false false = refl

-- an occurrence of a variable, by what it counts
pub record Occurs (i : ℕ) (f : Flow) (uses reads : ℕ) : Type 0 where
  pub uses_is : flow_uses i f ≡ uses
  pub seen_is : flow_seen i f ≡ uses
  pub reads_is : flow_reads i f ≡ reads
  pub fair : IsFairIn i f

pub use_occurs : (types : List DataType) (o : Option Variable) (n : Name) (i : ℕ) → Occurs i (use_flow types o n) (counts_as types o i) 0
use_occurs types None n i = record { uses_is = refl; seen_is = refl; reads_is = refl; fair = tt }
use_occurs types (Some v) n i = at_kind (is_heap types v.kind) v.lent
  where
    at_kind : (h l : Bool) → Occurs i (if l then Fault (Lent n.word n.line) else if h then Use v.number n.word n.line else Nothing) (if l then 0 else if h then bit (v.number == i) else 0) 0
    at_kind h true = record { uses_is = refl; seen_is = refl; reads_is = refl; fair = tt }
    at_kind true false = record { uses_is = refl; seen_is = refl; reads_is = refl; fair = tt }
    at_kind false false = record { uses_is = refl; seen_is = refl; reads_is = refl; fair = tt }

pub read_occurs : (types : List DataType) (o : Option Variable) (n : Name) (i : ℕ) → Occurs i (read_flow types o n) 0 (counts_as types o i)
read_occurs types None n i = record { uses_is = refl; seen_is = refl; reads_is = refl; fair = tt }
read_occurs types (Some v) n i = at_kind (is_heap types v.kind) v.lent
  where
    at_kind : (h l : Bool) → Occurs i (if l then Nothing else if h then Read v.number n.word n.line else Nothing) 0 (if l then 0 else if h then bit (v.number == i) else 0)
    at_kind h true = record { uses_is = refl; seen_is = refl; reads_is = refl; fair = tt }
    at_kind true false = record { uses_is = refl; seen_is = refl; reads_is = refl; fair = tt }
    at_kind false false = record { uses_is = refl; seen_is = refl; reads_is = refl; fair = tt }

not_same : (x y w : List ℕ) → bytes_eq w y ≡ false → bytes_eq w x ≡ true → bytes_eq y x ≡ false
not_same x y w e f = at_test (bytes_eq y x) refl
  where
    at_test : (b : Bool) → bytes_eq y x ≡ b → b ≡ false
    at_test true k =
        let p : w ≡ x = same_name w x f in
        let q : y ≡ x = same_name y x k in
        let r : bytes_eq w y ≡ true = subst (λ z. bytes_eq w z ≡ true) (p ∙ sym q) (name_itself w) in
        cc
    at_test false k = refl

-- another variable's binder hides the name, where it is that
pub bind_other : (types : List DataType) (s : Scope Variable) (w : List ℕ) (v : Variable) (i : ℕ) (x : List ℕ) (h : Bool) → (v.number == i) ≡ false
    → Means types s i x h → Means types (bind w v s) i x (h && not (bytes_eq w x))
bind_other types s w v i x h e m y = at_test (bytes_eq w y.word) refl
  where
    hidden : (c : Bool) → only (is_owned types v) (bit (v.number == i)) ≡ only (h && not c) (if c then 1 else 0)
    hidden true = ap (λ b. only (is_owned types v) (bit b)) e ∙ only_none (is_owned types v) ∙ sym (ap (λ b. only b 1) (and_false h))
    hidden false = ap (λ b. only (is_owned types v) (bit b)) e ∙ only_none (is_owned types v) ∙ sym (only_none (h && true))

    kept : (c : Bool) → bytes_eq w y.word ≡ false → bytes_eq w x ≡ c → only h (one_name x y) ≡ only (h && not c) (one_name x y)
    kept true f k =
        let z : one_name x y ≡ 0 = ap (λ b. if b then 1 else 0) (not_same x y.word w f k) in
        ap (only h) z ∙ only_none h ∙ sym (ap (only (h && false)) z ∙ only_none (h && false))
    kept false f k = ap (λ b. only b (one_name x y)) (sym (and_true h))

    at_test : (b : Bool) → bytes_eq w y.word ≡ b
        → counts_as types (if b then Some v else find s y.word) i ≡ only (h && not (bytes_eq w x)) (one_name x y)
    at_test true f =
        let p : w ≡ y.word = same_name w y.word f in
        variable_counts types v i ∙ hidden (bytes_eq y.word x) ∙ ap (λ z. only (h && not (bytes_eq z x)) (one_name x y)) (sym p)
    at_test false f = m y ∙ kept (bytes_eq w x) f refl

-- a variable's own binder
pub bind_here : (types : List DataType) (s : Scope Variable) (w : List ℕ) (v : Variable) → Means types s v.number [] false
    → Means types (bind w v s) v.number w (is_owned types v)
bind_here types s w v m y = at_test (bytes_eq w y.word) refl
  where
    itself : (v.number == v.number) ≡ true
    itself = grind (arith, nat_tests)

    other : (b : Bool) → bytes_eq w y.word ≡ false → bytes_eq y.word w ≡ b → b ≡ false
    other true f k = let q : w ≡ y.word = sym (same_name y.word w k) in let r : bytes_eq w y.word ≡ true = subst (λ z. bytes_eq w z ≡ true) q (name_itself w) in cc
    other false f k = refl

    at_test : (b : Bool) → bytes_eq w y.word ≡ b
        → counts_as types (if b then Some v else find s y.word) v.number ≡ only (is_owned types v) (one_name w y)
    at_test true f =
        let p : w ≡ y.word = same_name w y.word f in
        let q : bytes_eq y.word w ≡ true = subst (λ z. bytes_eq z w ≡ true) p (name_itself w) in
        variable_counts types v v.number ∙ ap (λ b. only (is_owned types v) (bit b)) (itself ∙ sym q)
    at_test false f =
        let z : one_name w y ≡ 0 = ap (λ b. if b then 1 else 0) (other (bytes_eq y.word w) f refl) in
        m y ∙ sym (ap (only (is_owned types v)) z ∙ only_none (is_owned types v))

-- ---- the binders of an arm, where its diamond has number `last`

abbrev pub inner : (Kind → Bool) → ℕ → ℕ → List (Option Name) → List Kind → ArmCell → Scope Variable → Scope Variable
inner lends next last fs ks x s = number_cell lends last x (number_fields lends next fs ks s)

-- a number that isn't given from one to the other
abbrev pub Outside : ℕ → ℕ → ℕ → Type 0
Outside i from to = from ≤ i → to ≤ i

pub unequal : (m i : ℕ) → (m ≡ i → ⊥) → (m == i) ≡ false
unequal m i h = at_test (m == i) refl
  where
    at_test : (b : Bool) → (m == i) ≡ b → b ≡ false
    at_test true e = absurd (h (grind (arith, nat_tests)))
    at_test false e = refl

apart_or : (h a b : Bool) → ((h && not a) && not b) ≡ (h && not (a || b))
apart_or true true b = refl
apart_or true false b = refl
apart_or false a b = refl

pub means_by : (types : List DataType) (s : Scope Variable) (i : ℕ) (x : List ℕ) (h k : Bool) → h ≡ k → Means types s i x h → Means types s i x k
means_by types s i x h k e m = subst (λ b. Means types s i x b) e m

cell_other : (types : List DataType) (lends : Kind → Bool) (last : ℕ) (x : ArmCell) (s : Scope Variable) (i : ℕ) (y : List ℕ) (h : Bool) → Outside i last (last + cell_count x)
    → Means types s i y h → Means types (number_cell lends last x s) i y (h && not (is_bound y (cell_names x)))
cell_other types lends last cell.Plain s i y h o m = means_by types s i y h (h && true) (sym (and_true h)) m
cell_other types lends last cell.Free s i y h o m = means_by types s i y h (h && true) (sym (and_true h)) m
cell_other types lends last (cell.Keep n) s i y h o m =
    let v : Variable = record { number = last; kind = kind.Dia; lent = lends kind.Dia } in
    let e : (last == i) ≡ false = unequal last i (λ q. omega (arith, q, o)) in
    means_by types (bind n.word v s) i y (h && not (bytes_eq n.word y)) (h && not (bytes_eq n.word y || false)) (or_false (bytes_eq n.word y)) (bind_other types s n.word v i y h e m)
  where
    or_false : (b : Bool) → (h && not b) ≡ (h && not (b || false))
    or_false true = refl
    or_false false = refl

pub inner_other : (types : List DataType) (lends : Kind → Bool) (fs : List (Option Name)) (ks : List Kind) (x : ArmCell) (next last : ℕ) (s : Scope Variable) (i : ℕ) (y : List ℕ) (h : Bool)
    → length fs ≡ length ks → last ≡ next + fields_count fs ks → Outside i next (last + cell_count x)
    → Means types s i y h → Means types (inner lends next last fs ks x s) i y (h && not (is_bound y (field_names fs ++ cell_names x)))
inner_other types lends [] [] x next last s i y h l e o m = cell_other types lends last x s i y h (λ q. omega (arith, q, o, e)) m
inner_other types lends [] (k ∷ ks) x next last s i y h l e o m = absurd (omega (arith, l))
inner_other types lends (f ∷ fs) [] x next last s i y h l e o m = absurd (omega (arith, l))
inner_other types lends (None ∷ fs) (k ∷ ks) x next last s i y h l e o m = inner_other types lends fs ks x next last s i y h (omega (arith, l)) e o m
inner_other types lends (Some n ∷ fs) (k ∷ ks) x next last s i y h l e o m =
    let v : Variable = record { number = next; kind = k; lent = lends k } in
    let d : (next == i) ≡ false = unequal next i (λ q. omega (arith, q, o, e)) in
    means_by types (inner lends (suc next) last fs ks x (bind n.word v s)) i y ((h && not (bytes_eq n.word y)) && not (is_bound y (field_names fs ++ cell_names x))) (h && not (bytes_eq n.word y || is_bound y (field_names fs ++ cell_names x)))
    (apart_or h (bytes_eq n.word y) (is_bound y (field_names fs ++ cell_names x)))
    (inner_other types lends fs ks x (suc next) last (bind n.word v s) i y (h && not (bytes_eq n.word y)) (omega (arith, l)) (omega (arith, e)) (λ q. omega (arith, q, o, e)) (bind_other types s n.word v i y h d m))
