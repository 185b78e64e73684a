-- Laws of the walk's steps that aren't expressions.
use Rattle.std.proofs.Common.{◌≡◌, ℕ, suc, ◌+◌, Bool, true, false, if◌then◌else◌, List, [], ◌∷◌, ◌++◌, Option, Some, None, refl, sym, ap, ◌∙◌, subst, arith, append-nil}
use Rattle.std.specs.Prelude.{◌||◌, ◌&&◌, not}
use Rattle.std.specs.Option.{option_or}
use Rattle.camelot_values.specs.Kinds.{DataType}
use Rattle.camelot_values.specs.Heap.{is_heap}
use Rattle.camelot_values.specs.Names.{find}
use Rattle.camelot_values.specs.declared.kinds.Kind.{Kind}
use Rattle.camelot_values.specs.declared.kinds.Kind.TheVariants as kind
use Rattle.camelot_tree.specs.declared.tree.Name.{Name}
use Rattle.camelot_tree.specs.declared.tree.ArmCell.{ArmCell}
use Rattle.camelot_tree.specs.declared.tree.ArmCell.TheVariants as cell
use Rattle.camelot_tree.specs.Cells.{has_cell}
use Rattle.camelot_tree.specs.Tree.{Prim, Arms, AndArm, Branch}
use Rattle.camelot_typing.specs.Kinds.{Scope, or_else, constructor_number, is_inline}
use Rattle.linear_use.specs.declared.fault.UseFault.{UseFault}
use Rattle.linear_use.specs.declared.fault.UseFault.TheVariants.{Twice, ReadMatch, Lent}
use Rattle.linear_use.specs.declared.variable.Variable.{Variable}
use Rattle.linear_use.specs.declared.state.State.{State}
use Rattle.linear_use.specs.Uses.{lends_field}
use Rattle.linear_use.specs.Flow.{Nothing, Use, Fault, is_spent, use_flow, name_flow, cell_flow, some_cell, con_fields, fields_count, number_fields, number_cell, arm_variables}
use Rattle.linear_use.specs.Walk.{Walked}
use Rattle.linear_use.proofs.Walking.{or_nothing, nothing_walked}

-- ---- occurrences of names

pub unbound_walked : (types : List DataType) (s : State) (n : Name) → find s.scope n.word ≡ None → Walked (name_flow types s.scope n) s.next 0 s s
unbound_walked types s n h =
    subst (λ o. Walked (use_flow types o n) s.next 0 s s) (sym h) (nothing_walked s.next 0 s s refl refl refl refl (omega arith))

fault_walked : (fault : UseFault) (s0 s1 : State) → s1 ≡ record s0 { fault = option_or s0.fault (Some fault) } → Walked (Fault fault) s0.next 0 s0 s1
fault_walked fault s0 s1 e = record {
  fault = λ called. ap (λ s. s.fault) e;
  spent = ap (λ s. s.spent) e ∙ sym (append-nil s0.spent);
  next = ap (λ s. s.next) e;
  scope = ap (λ s. s.scope) e;
  position = let p : s1.position ≡ s0.position = ap (λ s. s.position) e in omega (arith, p);
}

pub lent_walked : (types : List DataType) (s0 s1 : State) (n : Name) (v : Variable) → find s0.scope n.word ≡ Some v → v.lent ≡ true
    → s1 ≡ record s0 { fault = option_or s0.fault (Some (Lent n.word n.line)) } → Walked (name_flow types s0.scope n) s0.next 0 s0 s1
lent_walked types s0 s1 n v h l e =
    subst (λ o. Walked (use_flow types o n) s0.next 0 s0 s1) (sym h)
    (subst (λ b. Walked (if b then Fault (Lent n.word n.line) else if is_heap types v.kind then Use v.number n.word n.line else Nothing) s0.next 0 s0 s1) (sym l)
    (fault_walked (Lent n.word n.line) s0 s1 e))

pub unwatched_walked : (types : List DataType) (s : State) (n : Name) (v : Variable) → find s.scope n.word ≡ Some v → v.lent ≡ false
    → is_heap types v.kind ≡ false → Walked (name_flow types s.scope n) s.next 0 s s
unwatched_walked types s n v h l k =
    subst (λ o. Walked (use_flow types o n) s.next 0 s s) (sym h)
    (subst (λ b. Walked (if b then Fault (Lent n.word n.line) else if is_heap types v.kind then Use v.number n.word n.line else Nothing) s.next 0 s s) (sym l)
    (subst (λ b. Walked (if b then Use v.number n.word n.line else Nothing) s.next 0 s s) (sym k) (nothing_walked s.next 0 s s refl refl refl refl (omega arith))))

watched : (types : List DataType) (s0 s1 : State) (n : Name) (v : Variable) → find s0.scope n.word ≡ Some v → v.lent ≡ false
    → is_heap types v.kind ≡ true → Walked (Use v.number n.word n.line) s0.next 0 s0 s1 → Walked (name_flow types s0.scope n) s0.next 0 s0 s1
watched types s0 s1 n v h l k w =
    subst (λ o. Walked (use_flow types o n) s0.next 0 s0 s1) (sym h)
    (subst (λ b. Walked (if b then Fault (Lent n.word n.line) else if is_heap types v.kind then Use v.number n.word n.line else Nothing) s0.next 0 s0 s1) (sym l)
    (subst (λ b. Walked (if b then Use v.number n.word n.line else Nothing) s0.next 0 s0 s1) (sym k) w))

pub again_walked : (types : List DataType) (s0 s1 s2 : State) (n : Name) (v : Variable) → find s0.scope n.word ≡ Some v → v.lent ≡ false
    → is_heap types v.kind ≡ true → is_spent v.number s0.spent ≡ true → s1 ≡ record s0 { fault = option_or s0.fault (Some (Twice n.word n.line)) }
    → s2.spent ≡ s1.spent ++ v.number ∷ [] → s2.fault ≡ s1.fault → s2.next ≡ s1.next → s2.scope ≡ s1.scope → s2.position ≡ s1.position
    → Walked (name_flow types s0.scope n) s0.next 0 s0 s2
again_walked types s0 s1 s2 n v h l k u e sp f ne sc po = watched types s0 s2 n v h l k (record {
  fault = λ called. f ∙ ap (λ s. s.fault) e ∙ sym (ap (λ b. option_or s0.fault (if b then Some (Twice n.word n.line) else None)) u);
  spent = sp ∙ ap (λ s. s.spent ++ v.number ∷ []) e;
  next = ne ∙ ap (λ s. s.next) e;
  scope = sc ∙ ap (λ s. s.scope) e;
  position = let p : s1.position ≡ s0.position = ap (λ s. s.position) e in omega (arith, p, po);
})

pub spent_walked : (types : List DataType) (s0 s2 : State) (n : Name) (v : Variable) → find s0.scope n.word ≡ Some v → v.lent ≡ false
    → is_heap types v.kind ≡ true → is_spent v.number s0.spent ≡ false
    → s2.spent ≡ s0.spent ++ v.number ∷ [] → s2.fault ≡ s0.fault → s2.next ≡ s0.next → s2.scope ≡ s0.scope → s2.position ≡ s0.position
    → Walked (name_flow types s0.scope n) s0.next 0 s0 s2
spent_walked types s0 s2 n v h l k u sp f ne sc po = watched types s0 s2 n v h l k (record {
  fault = λ called. f ∙ sym (or_nothing s0.fault) ∙ sym (ap (λ b. option_or s0.fault (if b then Some (Twice n.word n.line) else None)) u);
  spent = sp;
  next = ne;
  scope = sc;
  position = omega (arith, po);
})

-- ---- cells

cell_test : (types : List DataType) (c : Name) (x : ArmCell) (s0 s1 : State) (a b : Bool) → is_inline types (or_else (constructor_number types c.word) 0) ≡ a → has_cell x ≡ b
    → Walked (if a || b then Nothing else Fault (ReadMatch c.word c.line)) s0.next 0 s0 s1 → Walked (cell_flow types false c x) s0.next 0 s0 s1
cell_test types c x s0 s1 a b p q w =
    subst (λ y. Walked (if y || has_cell x then Nothing else Fault (ReadMatch c.word c.line)) s0.next 0 s0 s1) (sym p)
    (subst (λ y. Walked (if a || y then Nothing else Fault (ReadMatch c.word c.line)) s0.next 0 s0 s1) (sym q) w)

pub cell_lent : (types : List DataType) (lent : Bool) (c : Name) (x : ArmCell) (s : State) → lent ≡ true → Walked (cell_flow types lent c x) s.next 0 s s
cell_lent types true c x s h = nothing_walked s.next 0 s s refl refl refl refl (omega arith)
cell_lent types false c x s h = cc

pub cell_inline : (types : List DataType) (lent : Bool) (c : Name) (x : ArmCell) (s : State) → lent ≡ false
    → is_inline types (or_else (constructor_number types c.word) 0) ≡ true → Walked (cell_flow types lent c x) s.next 0 s s
cell_inline types true c x s h p = cc
cell_inline types false c x s h p = cell_test types c x s s true (has_cell x) p refl (nothing_walked s.next 0 s s refl refl refl refl (omega arith))

or_true : (a : Bool) → (a || true) ≡ true
or_true true = refl
or_true false = refl

pub cell_there : (types : List DataType) (lent : Bool) (c : Name) (x : ArmCell) (s : State) → lent ≡ false
    → has_cell x ≡ true → Walked (cell_flow types lent c x) s.next 0 s s
cell_there types true c x s h p = cc
cell_there types false c x s h p =
    let a = is_inline types (or_else (constructor_number types c.word) 0) in
    cell_test types c x s s a true refl p
    (subst (λ b. Walked (if b then Nothing else Fault (ReadMatch c.word c.line)) s.next 0 s s) (sym (or_true a)) (nothing_walked s.next 0 s s refl refl refl refl (omega arith)))

pub cell_missing : (types : List DataType) (lent : Bool) (c : Name) (x : ArmCell) (s0 s1 : State) → lent ≡ false
    → is_inline types (or_else (constructor_number types c.word) 0) ≡ false → has_cell x ≡ false
    → s1 ≡ record s0 { fault = option_or s0.fault (Some (ReadMatch c.word c.line)) } → Walked (cell_flow types lent c x) s0.next 0 s0 s1
cell_missing types true c x s0 s1 h p q e = cc
cell_missing types false c x s0 s1 h p q e = cell_test types c x s0 s1 false false p q (fault_walked (ReadMatch c.word c.line) s0 s1 e)

-- ---- variables of an arm

pub lends_is : (types : List DataType) (lent lends : Bool) (c : Name) → lends ≡ (lent && not (is_inline types (or_else (constructor_number types c.word) 0)))
    → (k : Kind) → (lends && is_heap types k) ≡ lends_field types lent c k
lends_is types lent lends c h k = at_test lends lent (not (is_inline types (or_else (constructor_number types c.word) 0))) h
  where
    at_test : (x a b : Bool) → x ≡ (a && b) → (x && is_heap types k) ≡ (a && (b && is_heap types k))
    at_test true true true e = refl
    at_test true true false e = cc
    at_test true false b e = cc
    at_test false true true e = cc
    at_test false true false e = refl
    at_test false false b e = refl

pub fields_same : (f h : Kind → Bool) (next : ℕ) (fs : List (Option Name)) (ks : List Kind) (s : Scope Variable) → ((k : Kind) → f k ≡ h k)
    → number_fields f next fs ks s ≡ number_fields h next fs ks s
fields_same f h next [] ks s e = refl
fields_same f h next (None ∷ fs) [] s e = refl
fields_same f h next (Some n ∷ fs) [] s e = refl
fields_same f h next (None ∷ fs) (k ∷ ks) s e = fields_same f h next fs ks s e
fields_same f h next (Some n ∷ fs) (k ∷ ks) s e =
    let A : Bool → Scope Variable = λ b. number_fields f (suc next) fs ks (record { name = n.word; is = record { number = next; kind = k; lent = b } } ∷ s) in
    ap A (e k) ∙ fields_same f h (suc next) fs ks (record { name = n.word; is = record { number = next; kind = k; lent = h k } } ∷ s) e

cell_same : (f h : Kind → Bool) (last : ℕ) (x : ArmCell) (s : Scope Variable) → ((k : Kind) → f k ≡ h k) → number_cell f last x s ≡ number_cell h last x s
cell_same f h last cell.Plain s e = refl
cell_same f h last cell.Free s e = refl
cell_same f h last (cell.Keep n) s e = ap (λ b. record { name = n.word; is = record { number = last; kind = kind.Dia; lent = b } } ∷ s) (e kind.Dia)

pub arm_scope_is : (types : List DataType) (lent lends : Bool) (c : Name) (fs : List (Option Name)) (x : ArmCell) (ks : List Kind) (next mid : ℕ) (s0 s1 s2 : Scope Variable)
    → lends ≡ (lent && not (is_inline types (or_else (constructor_number types c.word) 0))) → ks ≡ con_fields types c
    → s1 ≡ number_fields (λ k. lends && is_heap types k) next fs ks s0 → mid ≡ next + fields_count fs ks
    → s2 ≡ number_cell (λ k. lends && is_heap types k) mid x s1 → s2 ≡ arm_variables types lent next c fs x s0
arm_scope_is types lent lends c fs x ks next mid s0 s1 s2 l k f m e =
    let f1 : Kind → Bool = λ t. lends && is_heap types t in
    let f2 : Kind → Bool = lends_field types lent c in
    let same = lends_is types lent lends c l in
    let inner : s1 ≡ number_fields f2 next fs (con_fields types c) s0 = f ∙ ap (λ t. number_fields f1 next fs t s0) k ∙ fields_same f1 f2 next fs (con_fields types c) s0 same in
    let last : mid ≡ next + fields_count fs (con_fields types c) = m ∙ ap (λ t. next + fields_count fs t) k in
    e ∙ ap (λ i. number_cell f1 i x s1) last ∙ ap (λ t. number_cell f1 (next + fields_count fs (con_fields types c)) x t) inner
    ∙ cell_same f1 f2 (next + fields_count fs (con_fields types c)) x (number_fields f2 next fs (con_fields types c) s0) same

-- ---- arms with an `@`

pub cell_found : (all left rest : Arms) (a : Branch) → left ≡ AndArm a.con a.fields a.cell a.body rest → has_cell a.cell ≡ true → some_cell left ≡ some_cell all
    → true ≡ some_cell all
cell_found all left rest a q h e = sym (ap (λ b. b || some_cell rest) h) ∙ ap some_cell (sym q) ∙ e
