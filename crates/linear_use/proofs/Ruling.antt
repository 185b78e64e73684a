-- An expression keeps the rule exactly where its flow is clean and fair to each number that it gives out.
use Rattle.std.proofs.Common.{◌≡◌, ℕ, zero, suc, ◌+◌, ◌≤◌, ◌<◌, Bool, true, false, if◌then◌else◌, List, [], ◌∷◌, ◌++◌, length, Option, Some, None, refl, sym, ap, ◌∙◌, subst, arith, ◌⊎◌, inl, inr}
use Rattle.std.specs.Prelude.{◌||◌, ◌&&◌, not}
use Rattle.std.specs.Option.{option_map_or}
use Rattle.std.specs.Str.{bytes_eq}
use Rattle.camelot_values.specs.Kinds.{DataType}
use Rattle.camelot_values.specs.Heap.{is_heap}
use Rattle.camelot_values.specs.Names.{find}
use Rattle.camelot_values.specs.declared.kinds.Kind.{Kind}
use Rattle.camelot_values.specs.declared.kinds.Kind.TheVariants as kind
use Rattle.camelot_tree.specs.declared.tree.Name.{Name}
use Rattle.camelot_tree.specs.declared.tree.ArmCell.{ArmCell}
use Rattle.camelot_tree.specs.declared.tree.ArmCell.TheVariants as cell
use Rattle.camelot_tree.specs.Tree.{Expression, Num, Truth, Var, Prim, If, Let, Match, Build, Call, Expressions, NoExpressions, AndExpression, Arms, NoArms, AndArm}
use Rattle.camelot_typing.specs.Kinds.{Globals, Scope, bind, or_else, constructor_number, is_inline, atom_of, field_names, cell_names, bound_names, arm_scope}
use Rattle.camelot_typing.specs.Typing.{known_kind}
use Rattle.linear_use.specs.declared.variable.Variable.{Variable}
use Rattle.linear_use.specs.declared.fault.UseFault.TheVariants.{ReadMatch, Lent}
use Rattle.linear_use.specs.Uses.{Loans, is_lent, looks_at, lends_field, arm_flags, is_read_here, reads_behind, IsFair, EachIsFair, CellTaken, PlaceIsOwned, IsLinear, AllAreLinear, ArmsAreLinear}
use Rattle.linear_use.specs.Fairness.{taken, seen, Fair}
use Rattle.linear_use.specs.FairLaws.{fair_by_paths, paths_by_fair}
use Rattle.camelot_tree.specs.Cells.{has_cell}
use Rattle.linear_use.specs.Flow.{Flow, Nothing, Use, Read, Fault, After, Either, Calling, use_flow, read_flow, name_flow, place_flow, argument_flow, kinds_in, con_fields, fields_count, cell_count, arm_variables, arm_count, cell_flow, some_cell, looks_on, scrutinee_flow, next_of, all_next, arms_next, flow, all_flow, arms_flow}
use Rattle.linear_use.specs.Walk.{is_read}
use Rattle.linear_use.proofs.Flows.{flow_uses, flow_reads, flow_seen, IsClean, IsFairIn, fair_uses, seen_one}
use Rattle.linear_use.proofs.Shapes.{IsFull, AllAreFull, ArmsAreFull, HeadIsFull}
use Rattle.linear_use.proofs.Binders.{counts_as, Means, use_occurs, read_occurs, bind_here, bind_other, unequal, Outside}
use Rattle.linear_use.proofs.Counting.{Counts, next_grows, all_grow, counted, all_counted, arms_counted, cell_occurs, look_occurs, scrutinee_counted, place_counted, argument_plain, reading_same}
use Rattle.linear_use.proofs.Fields.{lents_in, Stands, AllStand, Below, below_bind, below_more, below_inner, all_stand, inner_kinds, inner_lents}

-- the flow is clean, and fair to each number from `next` on
pub record IsQuiet (next : ℕ) (f : Flow) : Type 0 where
  pub clean : IsClean f
  pub fair : (i : ℕ) → next ≤ i → IsFairIn i f

-- the number doesn't occur
pub record Unused (i : ℕ) (f : Flow) : Type 0 where
  pub uses_is : flow_uses i f ≡ 0
  pub seen_is : flow_seen i f ≡ 0
  pub fair : IsFairIn i f

unused_of : (i : ℕ) (f : Flow) (t s r : ℕ) (P : Type 0) → Counts i false f t s r P → Unused i f
unused_of i f t s r P c = record { uses_is = c.uses_is; seen_is = c.seen_is; fair = c.fair (λ e. cc) }

quiet_more : (m n : ℕ) (f : Flow) → m ≤ n → IsQuiet m f → IsQuiet n f
quiet_more m n f h q = record { clean = q.clean; fair = λ i p. q.fair i (omega (arith, h, p)) }

quiet_none : (next : ℕ) → IsQuiet next Nothing
quiet_none next = record { clean = tt; fair = λ i p. tt }

after_left : (next : ℕ) (a b : Flow) → IsQuiet next (After a b) → IsQuiet next a
after_left next a b q = record { clean = q.clean.0; fair = λ i p. (q.fair i p).0 }

after_right : (next : ℕ) (a b : Flow) → IsQuiet next (After a b) → IsQuiet next b
after_right next a b q = record { clean = q.clean.1; fair = λ i p. (q.fair i p).1 }

either_left : (next : ℕ) (a b : Flow) → IsQuiet next (Either a b) → IsQuiet next a
either_left next a b q = record { clean = q.clean.0; fair = λ i p. (q.fair i p).0 }

either_right : (next : ℕ) (a b : Flow) → IsQuiet next (Either a b) → IsQuiet next b
either_right next a b q = record { clean = q.clean.1; fair = λ i p. (q.fair i p).1 }

calling_inner : (next : ℕ) (a : Flow) → IsQuiet next (Calling a) → IsQuiet next a
calling_inner next a q = record { clean = q.clean; fair = λ i p. (q.fair i p).0 }

pub sides : (i mid : ℕ) → (i < mid) ⊎ (mid ≤ i)
sides zero zero = inr (omega arith)
sides zero (suc m) = inl (omega arith)
sides (suc i) zero = inr (omega arith)
sides (suc i) (suc m) = more (sides i m)
  where
    more : (i < m) ⊎ (m ≤ i) → (suc i < suc m) ⊎ (suc m ≤ suc i)
    more (inl h) = inl (omega (arith, h))
    more (inr h) = inr (omega (arith, h))

quiet_after : (next mid : ℕ) (a b : Flow) → IsQuiet next a → IsQuiet mid b → ((i : ℕ) → next ≤ i → i < mid → Unused i b)
    → ((i : ℕ) → next ≤ i → mid ≤ i → Unused i a) → IsQuiet next (After a b)
quiet_after next mid a b p q before behind = record { clean = (p.clean, q.clean); fair = λ i h. at_side i h (sides i mid) }
  where
    at_side : (i : ℕ) → next ≤ i → (i < mid) ⊎ (mid ≤ i) → IsFairIn i a × IsFairIn i b × (flow_uses i a + flow_seen i b ≤ 1)
    at_side i h (inl k) =
        let v = before i h k in
        let s = v.seen_is in
        let u = fair_uses i a (p.fair i h) in
        let l = seen_one i a in
        (p.fair i h, v.fair, omega (arith, s, u, l))
    at_side i h (inr k) =
        let v = behind i h k in
        let u = v.uses_is in
        let l = seen_one i b in
        (v.fair, q.fair i k, omega (arith, u, l))

quiet_either : (next mid : ℕ) (a b : Flow) → IsQuiet next a → IsQuiet mid b → ((i : ℕ) → next ≤ i → i < mid → Unused i b) → IsQuiet next (Either a b)
quiet_either next mid a b p q before = record { clean = (p.clean, q.clean); fair = λ i h. at_side i h (sides i mid) }
  where
    at_side : (i : ℕ) → next ≤ i → (i < mid) ⊎ (mid ≤ i) → IsFairIn i a × IsFairIn i b
    at_side i h (inl k) = (p.fair i h, (before i h k).fair)
    at_side i h (inr k) = (p.fair i h, q.fair i k)

quiet_calling : (next : ℕ) (a : Flow) → IsQuiet next a → ((i : ℕ) → next ≤ i → flow_reads i a ≡ 0) → IsQuiet next (Calling a)
quiet_calling next a q r = record {
  clean = q.clean;
  fair =
      λ i h. let u = fair_uses i a (q.fair i h) in let s = seen_one i a in let z = r i h in (q.fair i h, omega (arith, u, s, z));
}

quiet_from : (mid : ℕ) (b : Flow) → IsQuiet (suc mid) b → IsFairIn mid b → IsQuiet mid b
quiet_from mid b q h = record { clean = q.clean; fair = λ i p. at_side i (sides i (suc mid)) p }
  where
    at_side : (i : ℕ) → (i < suc mid) ⊎ (suc mid ≤ i) → mid ≤ i → IsFairIn i b
    at_side i (inl k) p = let e : mid ≡ i = omega (arith, k, p) in subst (λ j. IsFairIn j b) e h
    at_side i (inr k) p = q.fair i k

-- ---- readings stay within their call

argument_reads : (types : List DataType) (s : Scope Variable) (m : Bool) (e : Expression) (i : ℕ) (f : Flow) → ((n : Name) → counts_as types (find s n.word) i ≡ 0)
    → flow_reads i f ≡ 0 → flow_reads i (argument_flow types s m e f) ≡ 0
argument_reads types s false e i f none h = h
argument_reads types s true (Num z l) i f none h = h
argument_reads types s true (Truth b l) i f none h = h
argument_reads types s true (Var n) i f none h = (read_occurs types (find s n.word) n i).reads_is ∙ none n
argument_reads types s true (Prim op a b l) i f none h = h
argument_reads types s true (If c a b l) i f none h = h
argument_reads types s true (Let n e b) i f none h = h
argument_reads types s true (Match e as' l) i f none h = h
argument_reads types s true (Build c es place) i f none h = h
argument_reads types s true (Call g es) i f none h = h

scrutinee_reads : (s : Scope Variable) (e : Expression) (as' : Arms) (i : ℕ) (f : Flow) (b : Bool) → looks_on s e ≡ b → flow_reads i f ≡ 0
    → flow_reads i (scrutinee_flow b e as' f) ≡ 0
scrutinee_reads s e as' i f false q h = h
scrutinee_reads s (Num z l) as' i f true q h = cc
scrutinee_reads s (Truth b l) as' i f true q h = cc
scrutinee_reads s (Var n) as' i f true q h = (look_occurs n as' i).reads_is
scrutinee_reads s (Prim op a b l) as' i f true q h = cc
scrutinee_reads s (If c a b l) as' i f true q h = cc
scrutinee_reads s (Let n e b) as' i f true q h = cc
scrutinee_reads s (Match e bs l) as' i f true q h = cc
scrutinee_reads s (Build c es place) as' i f true q h = cc
scrutinee_reads s (Call g es) as' i f true q h = cc

place_reads : (types : List DataType) (s : Scope Variable) (place : Option Name) (i : ℕ) → flow_reads i (place_flow types s place) ≡ 0
place_reads types s None i = refl
place_reads types s (Some d) i = (use_occurs types (find s d.word) d i).reads_is

mutual
  no_reads : (loans : Loans) (g : Globals Kind) (e : Expression) (next : ℕ) (s : Scope Variable) (i : ℕ) → flow_reads i (flow loans g next s e) ≡ 0
  no_reads loans g (Num z l) next s i = refl
  no_reads loans g (Truth b l) next s i = refl
  no_reads loans g (Var n) next s i = (use_occurs g.types (find s n.word) n i).reads_is
  no_reads loans g (Prim op a b l) next s i =
      let p = no_reads loans g a next s i in let q = no_reads loans g b (next_of g.types next a) s i in omega (arith, p, q)
  no_reads loans g (If c a b l) next s i =
      let first = next_of g.types next c in
      let p = no_reads loans g c next s i in
      let q = no_reads loans g a first s i in
      let r = no_reads loans g b (next_of g.types first a) s i in
      omega (arith, p, q, r)
  no_reads loans g (Let n e b) next s i =
      let number = next_of g.types next e in
      let v : Variable = record { number = number; kind = atom_of known_kind g (kinds_in s) e; lent = false } in
      let p = no_reads loans g e next s i in
      let q = no_reads loans g b (suc number) (bind n.word v s) i in
      omega (arith, p, q)
  no_reads loans g (Match e as' l) next s i =
      let p = scrutinee_reads s e as' i (flow loans g next s e) (looks_on s e) refl (no_reads loans g e next s i) in
      let q = arms_no_reads loans g (looks_on s e) as' (next_of g.types next e) s i in
      omega (arith, p, q)
  no_reads loans g (Build c es place) next s i =
      let p = all_no_reads loans g es next s i in let q = place_reads g.types s place i in omega (arith, p, q)
  no_reads loans g (Call f es) next s i = refl

  all_no_reads : (loans : Loans) (g : Globals Kind) (es : Expressions) (next : ℕ) (s : Scope Variable) (i : ℕ) → flow_reads i (all_flow loans g [] next s es) ≡ 0
  all_no_reads loans g NoExpressions next s i = refl
  all_no_reads loans g (AndExpression e es) next s i =
      let p = no_reads loans g e next s i in let q = all_no_reads loans g es (next_of g.types next e) s i in omega (arith, p, q)

  arms_no_reads : (loans : Loans) (g : Globals Kind) (lent : Bool) (as' : Arms) (next : ℕ) (s : Scope Variable) (i : ℕ)
      → flow_reads i (arms_flow loans g lent next s as') ≡ 0
  arms_no_reads loans g lent NoArms next s i = refl
  arms_no_reads loans g lent (AndArm c fs x b as') next s i =
      let body = next + arm_count g.types c fs x in
      let o = (cell_occurs g.types lent c x i).reads_is in
      let p = no_reads loans g b body (arm_variables g.types lent next c fs x s) i in
      let q = arms_no_reads loans g lent as' (next_of g.types body b) s i in
      omega (arith, o, p, q)

-- a call reads nothing that isn't in scope
call_reads_none : (loans : Loans) (g : Globals Kind) (ms : List Bool) (es : Expressions) (next : ℕ) (s : Scope Variable) (i : ℕ)
    → ((n : Name) → counts_as g.types (find s n.word) i ≡ 0) → flow_reads i (all_flow loans g ms next s es) ≡ 0
call_reads_none loans g ms NoExpressions next s i none = refl
call_reads_none loans g ms (AndExpression e es) next s i none =
    let p = argument_reads g.types s (is_read_here ms) e i (flow loans g next s e) none (no_reads loans g e next s i) in
    let q = call_reads_none loans g (reads_behind ms) es (next_of g.types next e) s i none in
    omega (arith, p, q)

-- ---- what is lent

lent_same : (s : Scope Variable) (w : List ℕ) → or_else (find (lents_in s) w) false ≡ option_map_or (λ v. v.lent) (find s w) false
lent_same [] w = refl
lent_same (b ∷ s) w = at_test (lent_same s w) (bytes_eq b.name w)
  where
    at_test : or_else (find (lents_in s) w) false ≡ option_map_or (λ (v : Variable). v.lent) (find s w) false → (c : Bool)
        → or_else (if c then Some b.is.lent else find (lents_in s) w) false ≡ option_map_or (λ (v : Variable). v.lent) (if c then Some b.is else find s w) false
    at_test h true = refl
    at_test h false = h

looks_same : (s : Scope Variable) (e : Expression) → looks_at (lents_in s) e ≡ looks_on s e
looks_same s (Num z l) = refl
looks_same s (Truth b l) = refl
looks_same s (Var n) = lent_same s n.word
looks_same s (Prim op a b l) = refl
looks_same s (If c a b l) = refl
looks_same s (Let n e b) = refl
looks_same s (Match e as' l) = refl
looks_same s (Build c es place) = refl
looks_same s (Call f es) = refl

clean_owned : (types : List DataType) (o : Option Variable) (n : Name) → IsClean (use_flow types o n) → option_map_or (λ v. v.lent) o false ≡ false
clean_owned types None n h = refl
clean_owned types (Some v) n h = at_test v.lent h
  where
    at_test : (b : Bool) → IsClean (if b then Fault (Lent n.word n.line) else if is_heap types v.kind then Use v.number n.word n.line else Nothing) → b ≡ false
    at_test true h = absurd h
    at_test false h = refl

owned_clean : (types : List DataType) (o : Option Variable) (n : Name) → option_map_or (λ v. v.lent) o false ≡ false → IsClean (use_flow types o n)
owned_clean types None n h = tt
owned_clean types (Some v) n h = at_test v.lent (is_heap types v.kind) h
  where
    at_test : (b c : Bool) → b ≡ false → IsClean (if b then Fault (Lent n.word n.line) else if c then Use v.number n.word n.line else Nothing)
    at_test true c h = cc
    at_test false true h = tt
    at_test false false h = tt

name_owned : (types : List DataType) (s : Scope Variable) (n : Name) → IsClean (name_flow types s n) → is_lent (lents_in s) n ≡ false
name_owned types s n h = lent_same s n.word ∙ clean_owned types (find s n.word) n h

name_quiet : (types : List DataType) (next : ℕ) (s : Scope Variable) (n : Name) → is_lent (lents_in s) n ≡ false → IsQuiet next (name_flow types s n)
name_quiet types next s n h = record {
  clean = owned_clean types (find s n.word) n (sym (lent_same s n.word) ∙ h);
  fair = λ i p. (use_occurs types (find s n.word) n i).fair;
}

-- ---- scrutinees

look_clean : (s : Scope Variable) (e : Expression) (as' : Arms) (f : Flow) (b : Bool) → looks_on s e ≡ b → IsClean (scrutinee_flow b e as' f)
    → b ≡ true → some_cell as' ≡ false
look_clean s e as' f false q h k = cc
look_clean s (Num z l) as' f true q h k = cc
look_clean s (Truth b l) as' f true q h k = cc
look_clean s (Var n) as' f true q h k = at_test (some_cell as') h
  where
    at_test : (b : Bool) → IsClean (if b then Fault (Lent n.word n.line) else Nothing) → b ≡ false
    at_test true h = absurd h
    at_test false h = refl
look_clean s (Prim op a b l) as' f true q h k = cc
look_clean s (If c a b l) as' f true q h k = cc
look_clean s (Let n e b) as' f true q h k = cc
look_clean s (Match e bs l) as' f true q h k = cc
look_clean s (Build c es place) as' f true q h k = cc
look_clean s (Call g es) as' f true q h k = cc

quiet_scrutinee : (next : ℕ) (s : Scope Variable) (e : Expression) (as' : Arms) (f : Flow) (b : Bool) → looks_on s e ≡ b → (b ≡ false → IsQuiet next f)
    → (b ≡ true → some_cell as' ≡ false) → IsQuiet next (scrutinee_flow b e as' f)
quiet_scrutinee next s e as' f false q h k = h refl
quiet_scrutinee next s (Num z l) as' f true q h k = cc
quiet_scrutinee next s (Truth b l) as' f true q h k = cc
quiet_scrutinee next s (Var n) as' f true q h k = record { clean = at_test (some_cell as') (k refl); fair = λ i p. (look_occurs n as' i).fair }
  where
    at_test : (b : Bool) → b ≡ false → IsClean (if b then Fault (Lent n.word n.line) else Nothing)
    at_test true h = cc
    at_test false h = tt
quiet_scrutinee next s (Prim op a b l) as' f true q h k = cc
quiet_scrutinee next s (If c a b l) as' f true q h k = cc
quiet_scrutinee next s (Let n e b) as' f true q h k = cc
quiet_scrutinee next s (Match e bs l) as' f true q h k = cc
quiet_scrutinee next s (Build c es place) as' f true q h k = cc
quiet_scrutinee next s (Call g es) as' f true q h k = cc

-- ---- arguments

quiet_argument : (types : List DataType) (next : ℕ) (s : Scope Variable) (m : Bool) (e : Expression) (f : Flow) → (is_read m e ≡ false → IsQuiet next f)
    → IsQuiet next (argument_flow types s m e f)
quiet_argument types next s false e f h = h (never_read e)
  where
    never_read : (e : Expression) → is_read false e ≡ false
    never_read (Num z l) = refl
    never_read (Truth b l) = refl
    never_read (Var n) = refl
    never_read (Prim op a b l) = refl
    never_read (If c a b l) = refl
    never_read (Let n e b) = refl
    never_read (Match e as' l) = refl
    never_read (Build c es place) = refl
    never_read (Call f es) = refl
quiet_argument types next s true (Num z l) f h = h refl
quiet_argument types next s true (Truth b l) f h = h refl
quiet_argument types next s true (Var n) f h = record { clean = clean (find s n.word); fair = λ i p. (read_occurs types (find s n.word) n i).fair }
  where
    at_kind : (v : Variable) (b c : Bool) → IsClean (if b then Nothing else if c then Read v.number n.word n.line else Nothing)
    at_kind v true c = tt
    at_kind v false true = tt
    at_kind v false false = tt

    clean : (o : Option Variable) → IsClean (read_flow types o n)
    clean None = tt
    clean (Some v) = at_kind v v.lent (is_heap types v.kind)
quiet_argument types next s true (Prim op a b l) f h = h refl
quiet_argument types next s true (If c a b l) f h = h refl
quiet_argument types next s true (Let n e b) f h = h refl
quiet_argument types next s true (Match e as' l) f h = h refl
quiet_argument types next s true (Build c es place) f h = h refl
quiet_argument types next s true (Call g es) f h = h refl

-- ---- cells

not_first : (a b : Bool) → (a || b) ≡ false → a ≡ false
not_first true b h = cc
not_first false b h = refl

not_second : (a b : Bool) → (a || b) ≡ false → b ≡ false
not_second true b h = cc
not_second false b h = h

neither : (a b : Bool) → a ≡ false → b ≡ false → (a || b) ≡ false
neither true b h k = cc
neither false b h k = k

cell_taken : (types : List DataType) (lent : Bool) (c : Name) (x : ArmCell) → (lent ≡ true → has_cell x ≡ false) → IsClean (cell_flow types lent c x) → CellTaken types lent c x
cell_taken types true c x k h = k refl
cell_taken types false c x k h = λ e. at_test (is_inline types (or_else (constructor_number types c.word) 0)) (has_cell x) e h
  where
    at_test : (a b : Bool) → a ≡ false → IsClean (if a || b then Nothing else Fault (ReadMatch c.word c.line)) → b ≡ true
    at_test true b e h = cc
    at_test false true e h = refl
    at_test false false e h = absurd h

cell_clean : (types : List DataType) (lent : Bool) (c : Name) (x : ArmCell) → CellTaken types lent c x → IsClean (cell_flow types lent c x)
cell_clean types true c x h = tt
cell_clean types false c x h = at_test (is_inline types (or_else (constructor_number types c.word) 0)) (has_cell x) h
  where
    at_test : (a b : Bool) → (a ≡ false → b ≡ true) → IsClean (if a || b then Nothing else Fault (ReadMatch c.word c.line))
    at_test true b h = tt
    at_test false true h = tt
    at_test false false h = let e = h refl in cc

arms_no_cell : (loans : Loans) (g : Globals Kind) (s : Scope Kind) (flags : Scope Bool) (lent : Bool) (as' : Arms) → ArmsAreLinear loans g s flags lent as'
    → lent ≡ true → some_cell as' ≡ false
arms_no_cell loans g s flags lent NoArms q e = refl
arms_no_cell loans g s flags true (AndArm c fs x b as') q e = neither (has_cell x) (some_cell as') q.0 (arms_no_cell loans g s flags true as' q.3 refl)
arms_no_cell loans g s flags false (AndArm c fs x b as') q e = cc

-- ---- the variables of an arm

owned_same : (types : List DataType) (s : Scope Variable) (i : ℕ) (n : Name) (k : Kind) (l : Bool) → Stands types s i n k l
    → (is_heap types (or_else (find (kinds_in s) n.word) kind.Int) && not (is_lent (lents_in s) n)) ≡ (is_heap types k && not l)
owned_same types s i n k l h =
    ap (λ o. is_heap types (or_else o kind.Int) && not (is_lent (lents_in s) n)) h.kind ∙ ap (λ o. is_heap types k && not (or_else o false)) h.lent

stands_fair : (loans : Loans) (types : List DataType) (s : Scope Variable) (f : Flow) (e : Expression) (i : ℕ) (n : Name) (k : Kind) (l : Bool) → Stands types s i n k l
    → Counts i (is_heap types k && not l) f (taken loans n.word e) (seen loans n.word e) 0 (Fair loans n.word e)
    → IsFair loans types (or_else (find (kinds_in s) n.word) kind.Int) (is_lent (lents_in s) n) n.word e → IsFairIn i f
stands_fair loans types s f e i n k l h c u = c.fair (λ t. fair_by_paths loans n.word e (u (owned_same types s i n k l h ∙ t)))

fair_stands : (loans : Loans) (types : List DataType) (s : Scope Variable) (f : Flow) (e : Expression) (i : ℕ) (n : Name) (k : Kind) (l : Bool) → Stands types s i n k l
    → Counts i (is_heap types k && not l) f (taken loans n.word e) (seen loans n.word e) 0 (Fair loans n.word e)
    → IsFairIn i f → IsFair loans types (or_else (find (kinds_in s) n.word) kind.Int) (is_lent (lents_in s) n) n.word e
fair_stands loans types s f e i n k l h c u = λ t. paths_by_fair loans n.word e (c.back u (sym (owned_same types s i n k l h) ∙ t))

-- from `first` on, each number below the end is one of the arm's names
fields_fair : (loans : Loans) (types : List DataType) (lends : Kind → Bool) (s : Scope Variable) (f : Flow) (e : Expression) (next last end : ℕ) (fs : List (Option Name)) (ks : List Kind) (x : ArmCell)
    → ((i : ℕ) (y : List ℕ) (h : Bool) → i < end → Means types s i y h → Counts i h f (taken loans y e) (seen loans y e) 0 (Fair loans y e))
    → length fs ≡ length ks → last ≡ next + fields_count fs ks → end ≡ last + cell_count x → AllStand types lends s next last fs ks x
    → EachIsFair loans types (kinds_in s) (lents_in s) (field_names fs ++ cell_names x) e → (i : ℕ) → next ≤ i → i < end → IsFairIn i f
fields_fair loans types lends s f e next last end [] [] cell.Plain count l p q a u i h k = absurd (omega (arith, p, q, h, k))
fields_fair loans types lends s f e next last end [] [] cell.Free count l p q a u i h k = absurd (omega (arith, p, q, h, k))
fields_fair loans types lends s f e next last end [] [] (cell.Keep n) count l p q a u i h k =
    let same : last ≡ i = omega (arith, p, q, h, k) in
    let own : IsFairIn last f =
    stands_fair loans types s f e last n kind.Dia (lends kind.Dia) a (count last n.word (is_heap types kind.Dia && not (lends kind.Dia)) (omega (arith, q)) a.means) u.0 in
    subst (λ j. IsFairIn j f) same own
fields_fair loans types lends s f e next last end [] (t ∷ ks) x count l p q a u i h k = absurd (omega (arith, l))
fields_fair loans types lends s f e next last end (o ∷ fs) [] x count l p q a u i h k = absurd (omega (arith, l))
fields_fair loans types lends s f e next last end (None ∷ fs) (t ∷ ks) x count l p q a u i h k = fields_fair loans types lends s f e next last end fs ks x count (omega (arith, l)) p q a u i h k
fields_fair loans types lends s f e next last end (Some n ∷ fs) (t ∷ ks) x count l p q a u i h k = at_side (λ j. fields_fair loans types lends s f e (suc next) last end fs ks x count (omega (arith, l)) (omega (arith, p)) q a.1 u.1 i j k) (sides i (suc next))
  where
    at_side : (suc next ≤ i → IsFairIn i f) → (i < suc next) ⊎ (suc next ≤ i) → IsFairIn i f
    at_side rest (inl j) =
        let same : next ≡ i = omega (arith, h, j) in
        let own : IsFairIn next f = stands_fair loans types s f e next n t (lends t) a.0 (count next n.word (is_heap types t && not (lends t)) (omega (arith, p, q)) a.0.means) u.0 in
        subst (λ m. IsFairIn m f) same own
    at_side rest (inr j) = rest j

fair_fields : (loans : Loans) (types : List DataType) (lends : Kind → Bool) (s : Scope Variable) (f : Flow) (e : Expression) (next last end : ℕ) (fs : List (Option Name)) (ks : List Kind) (x : ArmCell)
    → ((i : ℕ) (y : List ℕ) (h : Bool) → i < end → Means types s i y h → Counts i h f (taken loans y e) (seen loans y e) 0 (Fair loans y e))
    → length fs ≡ length ks → last ≡ next + fields_count fs ks → end ≡ last + cell_count x → AllStand types lends s next last fs ks x
    → ((i : ℕ) → next ≤ i → IsFairIn i f) → EachIsFair loans types (kinds_in s) (lents_in s) (field_names fs ++ cell_names x) e
fair_fields loans types lends s f e next last end [] [] cell.Plain count l p q a u = tt
fair_fields loans types lends s f e next last end [] [] cell.Free count l p q a u = tt
fair_fields loans types lends s f e next last end [] [] (cell.Keep n) count l p q a u = (
  fair_stands loans types s f e last n kind.Dia (lends kind.Dia) a (count last n.word (is_heap types kind.Dia && not (lends kind.Dia)) (omega (arith, q)) a.means) (u last (omega (arith, p))),
  tt,
)
fair_fields loans types lends s f e next last end [] (t ∷ ks) x count l p q a u = absurd (omega (arith, l))
fair_fields loans types lends s f e next last end (o ∷ fs) [] x count l p q a u = absurd (omega (arith, l))
fair_fields loans types lends s f e next last end (None ∷ fs) (t ∷ ks) x count l p q a u = fair_fields loans types lends s f e next last end fs ks x count (omega (arith, l)) p q a u
fair_fields loans types lends s f e next last end (Some n ∷ fs) (t ∷ ks) x count l p q a u = (
  fair_stands loans types s f e next n t (lends t) a.0 (count next n.word (is_heap types t && not (lends t)) (omega (arith, p, q)) a.0.means) (u next (omega arith)),
  fair_fields loans types lends s f e (suc next) last end fs ks x count (omega (arith, l)) (omega (arith, p)) q a.1 (λ i h. u i (omega (arith, h))),
)

quiet_arm : (next body : ℕ) (lent : Bool) (c : Name) (x : ArmCell) (f : Flow) (types : List DataType) → CellTaken types lent c x → IsQuiet body f
    → ((i : ℕ) → next ≤ i → i < body → IsFairIn i f)
    → IsQuiet next (After (cell_flow types lent c x) f)
quiet_arm next body lent c x f types owned q fields = record {
  clean = (cell_clean types lent c x owned, q.clean);
  fair =
      λ i h. let o = cell_occurs types lent c x i in let u = o.uses_is in let m = seen_one i f in (o.fair, at_side i h (sides i body), omega (arith, u, m));
}
  where
    at_side : (i : ℕ) → next ≤ i → (i < body) ⊎ (body ≤ i) → IsFairIn i f
    at_side i h (inl k) = fields i h k
    at_side i h (inr k) = q.fair i k

-- a number that isn't in scope and isn't given out isn't used
abbrev none : List ℕ
none = []

unused : (loans : Loans) (g : Globals Kind) (e : Expression) (next : ℕ) (s : Scope Variable) (i : ℕ) → IsFull g.types e → Outside i next (next_of g.types next e)
    → Means g.types s i none false → Unused i (flow loans g next s e)
unused loans g e next s i full o m = unused_of i _ _ _ _ _ (counted loans g e next s i none false full o m)

scrutinee_unused : (loans : Loans) (g : Globals Kind) (e : Expression) (as' : Arms) (next : ℕ) (s : Scope Variable) (i : ℕ) → IsFull g.types e
    → Outside i next (next_of g.types next e)
    → Means g.types s i none false → Unused i (scrutinee_flow (looks_on s e) e as' (flow loans g next s e))
scrutinee_unused loans g e as' next s i full o m =
    unused_of i _ _ _ _ _ (scrutinee_counted loans g next s i none false e as' m (counted loans g e next s i none false full o m))

all_unused : (loans : Loans) (g : Globals Kind) (ms : List Bool) (es : Expressions) (next : ℕ) (s : Scope Variable) (i : ℕ) → AllAreFull g.types es
    → Outside i next (all_next g.types next es) → Means g.types s i none false → Unused i (all_flow loans g ms next s es)
all_unused loans g ms es next s i full o m = unused_of i _ _ _ _ _ (all_counted loans g ms es next s i none false full o m)

arms_unused : (loans : Loans) (g : Globals Kind) (lent : Bool) (as' : Arms) (next : ℕ) (s : Scope Variable) (i : ℕ) → ArmsAreFull g.types as'
    → Outside i next (arms_next g.types next as') → Means g.types s i none false → Unused i (arms_flow loans g lent next s as')
arms_unused loans g lent as' next s i full o m = unused_of i _ _ _ _ _ (arms_counted loans g lent as' next s i none false full o m)

argument_unused : (loans : Loans) (g : Globals Kind) (m : Bool) (e : Expression) (next : ℕ) (s : Scope Variable) (i : ℕ) → IsFull g.types e
    → Outside i next (next_of g.types next e)
    → Means g.types s i none false → Unused i (argument_flow g.types s m e (flow loans g next s e))
argument_unused loans g false e next s i full o m = unused loans g e next s i full o m
argument_unused loans g true (Num z l) next s i full o m = unused loans g (Num z l) next s i full o m
argument_unused loans g true (Truth b l) next s i full o m = unused loans g (Truth b l) next s i full o m
argument_unused loans g true (Var n) next s i full o m =
    let r = read_occurs g.types (find s n.word) n i in record { uses_is = r.uses_is; seen_is = r.seen_is; fair = r.fair }
argument_unused loans g true (Prim op a b l) next s i full o m = unused loans g (Prim op a b l) next s i full o m
argument_unused loans g true (If c a b l) next s i full o m = unused loans g (If c a b l) next s i full o m
argument_unused loans g true (Let n e b) next s i full o m = unused loans g (Let n e b) next s i full o m
argument_unused loans g true (Match e as' l) next s i full o m = unused loans g (Match e as' l) next s i full o m
argument_unused loans g true (Build c es place) next s i full o m = unused loans g (Build c es place) next s i full o m
argument_unused loans g true (Call f es) next s i full o m = unused loans g (Call f es) next s i full o m

place_owned : (types : List DataType) (s : Scope Variable) (place : Option Name) → IsClean (place_flow types s place) → PlaceIsOwned (lents_in s) place
place_owned types s None h = tt
place_owned types s (Some d) h = name_owned types s d h

place_quiet : (types : List DataType) (next : ℕ) (s : Scope Variable) (place : Option Name) → PlaceIsOwned (lents_in s) place → IsQuiet next (place_flow types s place)
place_quiet types next s None h = quiet_none next
place_quiet types next s (Some d) h = name_quiet types next s d h

place_unused : (types : List DataType) (s : Scope Variable) (place : Option Name) (i : ℕ) → Means types s i none false → Unused i (place_flow types s place)
place_unused types s place i m = unused_of i _ _ _ _ _ (place_counted types s i none false place m)

arm_stand : (types : List DataType) (lent : Bool) (next : ℕ) (c : Name) (fs : List (Option Name)) (x : ArmCell) (s : Scope Variable) → HeadIsFull types c fs x
    → Below types next s
    → AllStand types (lends_field types lent c) (arm_variables types lent next c fs x s) next (next + fields_count fs (con_fields types c)) fs (con_fields types c) x
arm_stand types lent next c fs x s full below =
    all_stand types (lends_field types lent c) next (next + fields_count fs (con_fields types c)) fs (con_fields types c) x s full.full refl full.apart below

arm_below : (types : List DataType) (lent : Bool) (next : ℕ) (c : Name) (fs : List (Option Name)) (x : ArmCell) (s : Scope Variable) → HeadIsFull types c fs x
    → Below types next s
    → Below types (next + arm_count types c fs x) (arm_variables types lent next c fs x s)
arm_below types lent next c fs x s full below =
    let last = next + fields_count fs (con_fields types c) in
    below_more types (last + cell_count x) (next + arm_count types c fs x) (arm_variables types lent next c fs x s) (omega arith)
    (below_inner types (lends_field types lent c) next last fs (con_fields types c) x s full.full refl below)

arm_kinds : (types : List DataType) (lent : Bool) (next : ℕ) (c : Name) (fs : List (Option Name)) (x : ArmCell) (s : Scope Variable)
    → kinds_in (arm_variables types lent next c fs x s) ≡ arm_scope known_kind types c fs x (kinds_in s)
arm_kinds types lent next c fs x s = inner_kinds (lends_field types lent c) next (next + fields_count fs (con_fields types c)) fs (con_fields types c) x s

arm_lents : (types : List DataType) (lent : Bool) (next : ℕ) (c : Name) (fs : List (Option Name)) (x : ArmCell) (s : Scope Variable)
    → lents_in (arm_variables types lent next c fs x s) ≡ arm_flags types lent c fs x (lents_in s)
arm_lents types lent next c fs x s = inner_lents (lends_field types lent c) next (next + fields_count fs (con_fields types c)) fs (con_fields types c) x s

-- ---- a quiet flow keeps the rule

mutual
  pub quiet_linear : (loans : Loans) (g : Globals Kind) (e : Expression) (next : ℕ) (s : Scope Variable) → IsFull g.types e → Below g.types next s
      → IsQuiet next (flow loans g next s e) → IsLinear loans g (kinds_in s) (lents_in s) e
  quiet_linear loans g (Num z l) next s full below q = tt
  quiet_linear loans g (Truth b l) next s full below q = tt
  quiet_linear loans g (Var n) next s full below q = name_owned g.types s n q.clean
  quiet_linear loans g (Prim op a b l) next s full below q =
      let mid = next_of g.types next a in
      let p = next_grows g.types next a in (
        quiet_linear loans g a next s full.0 below (after_left next (flow loans g next s a) (flow loans g mid s b) q),
        quiet_linear loans g b mid s full.1 (below_more g.types next mid s p below) (quiet_more next mid _ p (after_right next (flow loans g next s a) (flow loans g mid s b) q)),
      )
  quiet_linear loans g (If c a b l) next s full below q =
      let first = next_of g.types next c in
      let second = next_of g.types first a in
      let p = next_grows g.types next c in
      let r = next_grows g.types first a in
      let both = after_right next (flow loans g next s c) (Either (flow loans g first s a) (flow loans g second s b)) q in (
        quiet_linear loans g c next s full.0 below (after_left next (flow loans g next s c) (Either (flow loans g first s a) (flow loans g second s b)) q),
        quiet_linear loans g a first s full.1 (below_more g.types next first s p below) (quiet_more next first _ p (either_left next (flow loans g first s a) (flow loans g second s b) both)),
        quiet_linear loans g b second s full.2 (below_more g.types next second s (omega (arith, p, r)) below) (quiet_more next second _ (omega (arith, p, r)) (either_right next (flow loans g first s a) (flow loans g second s b) both)),
      )
  quiet_linear loans g (Let n e b) next s full below q =
      let number = next_of g.types next e in
      let v : Variable = record { number = number; kind = atom_of known_kind g (kinds_in s) e; lent = false } in
      let p = next_grows g.types next e in
      let fb = flow loans g (suc number) (bind n.word v s) b in
      let right = after_right next (flow loans g next s e) fb q in
      let count = counted loans g b (suc number) (bind n.word v s) number n.word (is_heap g.types v.kind && not false) full.1 (λ t. absurd (omega (arith, t))) (bind_here g.types s n.word v (below number p)) in (
        quiet_linear loans g e next s full.0 below (after_left next (flow loans g next s e) fb q),
        λ t. paths_by_fair loans n.word b (count.back (right.fair number p) t),
        quiet_linear loans g b (suc number) (bind n.word v s) full.1 (below_bind g.types next s n.word v p below) (quiet_more next (suc number) _ (omega (arith, p)) right),
      )
  quiet_linear loans g (Match e as' l) next s full below q =
      let mid = next_of g.types next e in
      let p = next_grows g.types next e in
      let b = looks_on s e in
      let on = flow loans g next s e in
      let left = after_left next (scrutinee_flow b e as' on) (arms_flow loans g b mid s as') q in
      let right = quiet_more next mid _ p (after_right next (scrutinee_flow b e as' on) (arms_flow loans g b mid s as') q) in (
        λ h. quiet_linear loans g e next s full.0 below (subst (λ c. IsQuiet next (scrutinee_flow c e as' on)) (sym (looks_same s e) ∙ h) left),
        subst (λ c. ArmsAreLinear loans g (kinds_in s) (lents_in s) c as') (sym (looks_same s e))
            (quiet_arms loans g b as' mid s full.1 (below_more g.types next mid s p below) (look_clean s e as' on b refl left.clean) right),
      )
  quiet_linear loans g (Build c es place) next s full below q = (
    quiet_all loans g [] es next s full below (after_left next (all_flow loans g [] next s es) (place_flow g.types s place) q),
    place_owned g.types s place q.clean.1,
  )
  quiet_linear loans g (Call f es) next s full below q = quiet_all loans g (loans f.word) es next s full below (calling_inner next (all_flow loans g (loans f.word) next s es) q)

  pub quiet_all : (loans : Loans) (g : Globals Kind) (ms : List Bool) (es : Expressions) (next : ℕ) (s : Scope Variable) → AllAreFull g.types es → Below g.types next s
      → IsQuiet next (all_flow loans g ms next s es) → AllAreLinear loans g (kinds_in s) (lents_in s) ms es
  quiet_all loans g ms NoExpressions next s full below q = tt
  quiet_all loans g ms (AndExpression e es) next s full below q =
      let mid = next_of g.types next e in
      let p = next_grows g.types next e in
      let own = flow loans g next s e in
      let arg = argument_flow g.types s (is_read_here ms) e own in
      let left = after_left next arg (all_flow loans g (reads_behind ms) mid s es) q in (
        λ h. quiet_linear loans g e next s full.0 below (subst (IsQuiet next) (argument_plain g.types s (is_read_here ms) e own (reading_same ms e ∙ h)) left),
        quiet_all loans g (reads_behind ms) es mid s full.1 (below_more g.types next mid s p below) (quiet_more next mid _ p (after_right next arg (all_flow loans g (reads_behind ms) mid s es) q)),
      )

  pub quiet_arms : (loans : Loans) (g : Globals Kind) (lent : Bool) (as' : Arms) (next : ℕ) (s : Scope Variable) → ArmsAreFull g.types as' → Below g.types next s
      → (lent ≡ true → some_cell as' ≡ false)
      → IsQuiet next (arms_flow loans g lent next s as') → ArmsAreLinear loans g (kinds_in s) (lents_in s) lent as'
  quiet_arms loans g lent NoArms next s full below k q = tt
  quiet_arms loans g lent (AndArm c fs x b as') next s full below k q =
      let body = next + arm_count g.types c fs x in
      let rest = next_of g.types body b in
      let s2 = arm_variables g.types lent next c fs x s in
      let p = next_grows g.types body b in
      let fb = flow loans g body s2 b in
      let arm = either_left next (After (cell_flow g.types lent c x) fb) (arms_flow loans g lent rest s as') q in
      let own = after_right next (cell_flow g.types lent c x) fb arm in
      let each : EachIsFair loans g.types (kinds_in s2) (lents_in s2) (bound_names fs x) b =
      fair_fields loans g.types (lends_field g.types lent c) s2 fb b next (next + fields_count fs (con_fields g.types c)) body fs (con_fields g.types c) x
      (λ i y h k m. counted loans g b body s2 i y h full.1 (λ t. absurd (omega (arith, k, t))) m) full.0.full refl (omega arith) (arm_stand g.types lent next c fs x s full.0 below) own.fair in
      let inside : IsLinear loans g (kinds_in s2) (lents_in s2) b = quiet_linear loans g b body s2 full.1 (arm_below g.types lent next c fs x s full.0 below) (quiet_more next body _ (omega arith) own) in
      let e = arm_kinds g.types lent next c fs x s in
      let d = arm_lents g.types lent next c fs x s in (
        cell_taken g.types lent c x (λ h. not_first (has_cell x) (some_cell as') (k h)) arm.clean.0,
        subst (λ z. EachIsFair loans g.types z (arm_flags g.types lent c fs x (lents_in s)) (bound_names fs x) b) e (subst (λ z. EachIsFair loans g.types (kinds_in s2) z (bound_names fs x) b) d each),
        subst (λ z. IsLinear loans g z (arm_flags g.types lent c fs x (lents_in s)) b) e (subst (λ z. IsLinear loans g (kinds_in s2) z b) d inside),
        quiet_arms loans g lent as' rest s full.2 (below_more g.types next rest s (omega (arith, p)) below) (λ h. not_second (has_cell x) (some_cell as') (k h)) (quiet_more next rest _ (omega (arith, p)) (either_right next (After (cell_flow g.types lent c x) fb) (arms_flow loans g lent rest s as') q)),
      )

-- ---- the rule keeps a flow quiet

mutual
  pub linear_quiet : (loans : Loans) (g : Globals Kind) (e : Expression) (next : ℕ) (s : Scope Variable) → IsFull g.types e → Below g.types next s
      → IsLinear loans g (kinds_in s) (lents_in s) e → IsQuiet next (flow loans g next s e)
  linear_quiet loans g (Num z l) next s full below q = quiet_none next
  linear_quiet loans g (Truth b l) next s full below q = quiet_none next
  linear_quiet loans g (Var n) next s full below q = name_quiet g.types next s n q
  linear_quiet loans g (Prim op a b l) next s full below q =
      let mid = next_of g.types next a in
      let p = next_grows g.types next a in
      quiet_after next mid (flow loans g next s a) (flow loans g mid s b)
      (linear_quiet loans g a next s full.0 below q.0)
      (linear_quiet loans g b mid s full.1 (below_more g.types next mid s p below) q.1)
      (λ i h k. unused loans g b mid s i full.1 (λ t. absurd (omega (arith, k, t))) (below i h))
      (λ i h k. unused loans g a next s i full.0 (λ t. k) (below i h))
  linear_quiet loans g (If c a b l) next s full below q =
      let first = next_of g.types next c in
      let second = next_of g.types first a in
      let p = next_grows g.types next c in
      let r = next_grows g.types first a in
      quiet_after next first (flow loans g next s c) (Either (flow loans g first s a) (flow loans g second s b))
      (linear_quiet loans g c next s full.0 below q.0)
      (quiet_either first second (flow loans g first s a) (flow loans g second s b)
      (linear_quiet loans g a first s full.1 (below_more g.types next first s p below) q.1)
      (linear_quiet loans g b second s full.2 (below_more g.types next second s (omega (arith, p, r)) below) q.2)
      (λ i h k. unused loans g b second s i full.2 (λ t. absurd (omega (arith, k, t))) (below i (omega (arith, h, p)))))
      (λ i h k.
      let u = unused loans g a first s i full.1 (λ t. absurd (omega (arith, k, t))) (below i h) in
      let v = unused loans g b second s i full.2 (λ t. absurd (omega (arith, k, t, r))) (below i h) in
      let uu = u.uses_is in
      let us = u.seen_is in
      let vu = v.uses_is in
      let vs = v.seen_is in
      record { uses_is = omega (arith, uu, vu); seen_is = omega (arith, us, vs); fair = (u.fair, v.fair) })
      (λ i h k. unused loans g c next s i full.0 (λ t. k) (below i h))
  linear_quiet loans g (Let n e b) next s full below q =
      let number = next_of g.types next e in
      let v : Variable = record { number = number; kind = atom_of known_kind g (kinds_in s) e; lent = false } in
      let p = next_grows g.types next e in
      let s2 : Scope Variable = bind n.word v s in
      let fb = flow loans g (suc number) s2 b in
      let below2 = below_bind g.types next s n.word v p below in
      let count = counted loans g b (suc number) s2 number n.word (is_heap g.types v.kind && not false) full.1 (λ t. absurd (omega (arith, t))) (bind_here g.types s n.word v (below number p)) in
      quiet_after next number (flow loans g next s e) fb
      (linear_quiet loans g e next s full.0 below q.0)
      (quiet_from number fb (linear_quiet loans g b (suc number) s2 full.1 below2 q.2) (count.fair (λ t. fair_by_paths loans n.word b (q.1 t))))
      (λ i h k. unused loans g b (suc number) s2 i full.1 (λ t. absurd (omega (arith, k, t))) (bind_other g.types s n.word v i none false (unequal number i (λ t. omega (arith, t, k))) (below i h)))
      (λ i h k. unused loans g e next s i full.0 (λ t. k) (below i h))
  linear_quiet loans g (Match e as' l) next s full below q =
      let mid = next_of g.types next e in
      let p = next_grows g.types next e in
      let b = looks_on s e in
      let on = flow loans g next s e in
      let arms : ArmsAreLinear loans g (kinds_in s) (lents_in s) b as' = subst (λ c. ArmsAreLinear loans g (kinds_in s) (lents_in s) c as') (looks_same s e) q.1 in
      quiet_after next mid (scrutinee_flow b e as' on) (arms_flow loans g b mid s as')
      (quiet_scrutinee next s e as' on b refl (λ h. linear_quiet loans g e next s full.0 below (q.0 (looks_same s e ∙ h))) (arms_no_cell loans g (kinds_in s) (lents_in s) b as' arms))
      (arms_quiet loans g b as' mid s full.1 (below_more g.types next mid s p below) arms)
      (λ i h k. arms_unused loans g b as' mid s i full.1 (λ t. absurd (omega (arith, k, t))) (below i h))
      (λ i h k. scrutinee_unused loans g e as' next s i full.0 (λ t. k) (below i h))
  linear_quiet loans g (Build c es place) next s full below q =
      let mid = all_next g.types next es in
      let p = all_grow g.types next es in
      quiet_after next mid (all_flow loans g [] next s es) (place_flow g.types s place)
      (all_quiet loans g [] es next s full below q.0)
      (place_quiet g.types mid s place q.1)
      (λ i h k. place_unused g.types s place i (below i h))
      (λ i h k. all_unused loans g [] es next s i full (λ t. k) (below i h))
  linear_quiet loans g (Call f es) next s full below q =
      quiet_calling next (all_flow loans g (loans f.word) next s es) (all_quiet loans g (loans f.word) es next s full below q)
      (λ i h. call_reads_none loans g (loans f.word) es next s i (below i h))

  pub all_quiet : (loans : Loans) (g : Globals Kind) (ms : List Bool) (es : Expressions) (next : ℕ) (s : Scope Variable) → AllAreFull g.types es → Below g.types next s
      → AllAreLinear loans g (kinds_in s) (lents_in s) ms es → IsQuiet next (all_flow loans g ms next s es)
  all_quiet loans g ms NoExpressions next s full below q = quiet_none next
  all_quiet loans g ms (AndExpression e es) next s full below q =
      let mid = next_of g.types next e in
      let p = next_grows g.types next e in
      quiet_after next mid (argument_flow g.types s (is_read_here ms) e (flow loans g next s e)) (all_flow loans g (reads_behind ms) mid s es)
      (quiet_argument g.types next s (is_read_here ms) e (flow loans g next s e) (λ h. linear_quiet loans g e next s full.0 below (q.0 (sym (reading_same ms e) ∙ h))))
      (all_quiet loans g (reads_behind ms) es mid s full.1 (below_more g.types next mid s p below) q.1)
      (λ i h k. all_unused loans g (reads_behind ms) es mid s i full.1 (λ t. absurd (omega (arith, k, t))) (below i h))
      (λ i h k. argument_unused loans g (is_read_here ms) e next s i full.0 (λ t. k) (below i h))

  pub arms_quiet : (loans : Loans) (g : Globals Kind) (lent : Bool) (as' : Arms) (next : ℕ) (s : Scope Variable) → ArmsAreFull g.types as' → Below g.types next s
      → ArmsAreLinear loans g (kinds_in s) (lents_in s) lent as' → IsQuiet next (arms_flow loans g lent next s as')
  arms_quiet loans g lent NoArms next s full below q = quiet_none next
  arms_quiet loans g lent (AndArm c fs x b as') next s full below q =
      let body = next + arm_count g.types c fs x in
      let rest = next_of g.types body b in
      let s2 = arm_variables g.types lent next c fs x s in
      let p = next_grows g.types body b in
      let fb = flow loans g body s2 b in
      let e = sym (arm_kinds g.types lent next c fs x s) in
      let d = sym (arm_lents g.types lent next c fs x s) in
      let each : EachIsFair loans g.types (kinds_in s2) (lents_in s2) (bound_names fs x) b =
      subst (λ z. EachIsFair loans g.types (kinds_in s2) z (bound_names fs x) b) d (subst (λ z. EachIsFair loans g.types z (arm_flags g.types lent c fs x (lents_in s)) (bound_names fs x) b) e q.1) in
      let inside : IsLinear loans g (kinds_in s2) (lents_in s2) b =
      subst (λ z. IsLinear loans g (kinds_in s2) z b) d (subst (λ z. IsLinear loans g z (arm_flags g.types lent c fs x (lents_in s)) b) e q.2) in
      let own : IsQuiet body fb = linear_quiet loans g b body s2 full.1 (arm_below g.types lent next c fs x s full.0 below) inside in
      let fields : (i : ℕ) → next ≤ i → i < body → IsFairIn i fb =
      fields_fair loans g.types (lends_field g.types lent c) s2 fb b next (next + fields_count fs (con_fields g.types c)) body fs (con_fields g.types c) x
      (λ i y h k m. counted loans g b body s2 i y h full.1 (λ t. absurd (omega (arith, k, t))) m) full.0.full refl (omega arith) (arm_stand g.types lent next c fs x s full.0 below) each in
      quiet_either next rest (After (cell_flow g.types lent c x) fb) (arms_flow loans g lent rest s as')
      (quiet_arm next body lent c x fb g.types q.0 own fields)
      (arms_quiet loans g lent as' rest s full.2 (below_more g.types next rest s (omega (arith, p)) below) q.3)
      (λ i h k. arms_unused loans g lent as' rest s i full.2 (λ t. absurd (omega (arith, k, t))) (below i h))
