-- What a number counts in the flow of an expression is what the rule counts of its name, and the flow is fair to the
-- number exactly where the expression is fair to the name.
use Rattle.std.proofs.Common.{◌≡◌, ℕ, suc, ◌+◌, ◌≤◌, max, Bool, true, false, if◌then◌else◌, List, [], Option, Some, None, refl, sym, ap, ◌∙◌, subst, arith}
use Rattle.std.specs.Prelude.{◌==◌, ◌||◌, ◌&&◌, not}
use Rattle.std.specs.Str.{bytes_eq}
use Rattle.std.specs.Option.{option_map_or}
use Rattle.camelot_values.specs.Kinds.{DataType}
use Rattle.camelot_values.specs.Heap.{is_heap}
use Rattle.camelot_values.specs.Names.{find}
use Rattle.camelot_values.specs.declared.kinds.Kind.{Kind}
use Rattle.camelot_tree.specs.declared.tree.Name.{Name}
use Rattle.camelot_tree.specs.declared.tree.ArmCell.{ArmCell}
use Rattle.camelot_tree.specs.Tree.{Expression, Num, Truth, Var, Prim, If, Let, Match, Build, Call, Expressions, NoExpressions, AndExpression, Arms, NoArms, AndArm}
use Rattle.camelot_typing.specs.Kinds.{Globals, Scope, bind, or_else, constructor_number, is_inline, atom_of, bound_names}
use Rattle.camelot_typing.specs.Typing.{known_kind}
use Rattle.linear_use.specs.declared.variable.Variable.{Variable}
use Rattle.linear_use.specs.declared.fault.UseFault.TheVariants.{ReadMatch, Lent}
use Rattle.linear_use.specs.Uses.{Loans, is_bound, is_read_here, reads_behind, is_reading, is_variable, lends_field}
use Rattle.linear_use.specs.Fairness.{one_name, place_taken, call_reads, taken, all_taken, arms_taken, seen, all_seen, arms_seen, Fair, AllFair, ArmsFair}
use Rattle.camelot_tree.specs.Cells.{has_cell}
use Rattle.linear_use.specs.Flow.{Flow, Nothing, Fault, After, Either, Calling, use_flow, read_flow, argument_flow, place_flow, kinds_in, con_fields, fields_count, arm_variables, arm_count, cell_flow, some_cell, is_lent_in, looks_on, look_flow, scrutinee_flow, next_of, all_next, arms_next, flow, all_flow, arms_flow}
use Rattle.linear_use.specs.Walk.{is_read}
use Rattle.linear_use.proofs.Flows.{flow_uses, flow_reads, flow_seen, IsFairIn, bit, seen_one}
use Rattle.linear_use.proofs.Shapes.{IsFull, AllAreFull, ArmsAreFull, HeadIsFull}
use Rattle.linear_use.proofs.Binders.{only, only_none, counts_as, Means, Occurs, use_occurs, read_occurs, bind_other, unequal, inner_other, Outside}

-- ---- numbers grow

mutual
  pub next_grows : (types : List DataType) (next : ℕ) (e : Expression) → next ≤ next_of types next e
  next_grows types next (Num z l) = omega arith
  next_grows types next (Truth b l) = omega arith
  next_grows types next (Var n) = omega arith
  next_grows types next (Prim op a b l) = let p = next_grows types next a in let q = next_grows types (next_of types next a) b in omega (arith, p, q)
  next_grows types next (If c a b l) =
      let m = next_of types next c in
      let p = next_grows types next c in
      let q = next_grows types m a in
      let r = next_grows types (next_of types m a) b in
      omega (arith, p, q, r)
  next_grows types next (Let n e b) = let p = next_grows types next e in let q = next_grows types (suc (next_of types next e)) b in omega (arith, p, q)
  next_grows types next (Match e as' l) = let p = next_grows types next e in let q = arms_grow types (next_of types next e) as' in omega (arith, p, q)
  next_grows types next (Build c es place) = all_grow types next es
  next_grows types next (Call f es) = all_grow types next es

  pub all_grow : (types : List DataType) (next : ℕ) (es : Expressions) → next ≤ all_next types next es
  all_grow types next NoExpressions = omega arith
  all_grow types next (AndExpression e es) = let p = next_grows types next e in let q = all_grow types (next_of types next e) es in omega (arith, p, q)

  pub arms_grow : (types : List DataType) (next : ℕ) (as' : Arms) → next ≤ arms_next types next as'
  arms_grow types next NoArms = omega arith
  arms_grow types next (AndArm c fs x b as') =
      let m = next + arm_count types c fs x in
      let p = next_grows types m b in
      let q = arms_grow types (next_of types m b) as' in
      omega (arith, p, q)

-- ---- counting

-- Where h holds, the number counts this much in the flow, and the flow is fair to it exactly where P stands.
pub record Counts (i : ℕ) (h : Bool) (f : Flow) (t s r : ℕ) (P : Type 0) : Type 0 where
  pub uses_is : flow_uses i f ≡ only h t
  pub seen_is : flow_seen i f ≡ only h s
  pub reads_is : flow_reads i f ≡ only h r
  pub fair : (h ≡ true → P) → IsFairIn i f
  pub back : IsFairIn i f → h ≡ true → P

only_sum : (h : Bool) (a b u v : ℕ) → u ≡ only h a → v ≡ only h b → u + v ≡ only h (a + b)
only_sum true a b u v p q = omega arith
only_sum false a b u v p q = omega arith

only_max : (h : Bool) (a b u v : ℕ) → u ≡ only h a → v ≡ only h b → max u v ≡ only h (max a b)
only_max true a b u v p q = omega arith
only_max false a b u v p q = omega arith

only_hidden : (h c : Bool) (n u : ℕ) → u ≡ only (h && not c) n → u ≡ only h (if c then 0 else n)
only_hidden true true n u p = p
only_hidden true false n u p = p
only_hidden false c n u p = p ∙ sym (only_none false)

pub counts_same : (i : ℕ) (h : Bool) (f : Flow) (t s r t2 s2 r2 : ℕ) (P Q : Type 0) → t ≡ t2 → s ≡ s2 → r ≡ r2 → (P → Q) → (Q → P)
    → Counts i h f t s r P → Counts i h f t2 s2 r2 Q
counts_same i h f t s r t2 s2 r2 P Q a b d p q c = record {
  uses_is = c.uses_is ∙ ap (only h) a;
  seen_is = c.seen_is ∙ ap (only h) b;
  reads_is = c.reads_is ∙ ap (only h) d;
  fair = λ k. c.fair (λ e. q (k e));
  back = λ k e. p (c.back k e);
}

counts_none : (i : ℕ) (h : Bool) (f : Flow) (P : Type 0) → Occurs i f 0 0 → P → Counts i h f 0 0 0 P
counts_none i h f P o p = record {
  uses_is = o.uses_is ∙ sym (only_none h);
  seen_is = o.seen_is ∙ sym (only_none h);
  reads_is = o.reads_is ∙ sym (only_none h);
  fair = λ k. o.fair;
  back = λ k e. p;
}

nothing_occurs : (i : ℕ) → Occurs i Nothing 0 0
nothing_occurs i = record { uses_is = refl; seen_is = refl; reads_is = refl; fair = tt }

bounded : (h : Bool) (t s u v : ℕ) → u ≡ only h t → v ≡ only h s → (h ≡ true → t + s ≤ 1) → u + v ≤ 1
bounded true t s u v a b k = let l = k refl in omega (arith, a, b, l)
bounded false t s u v a b k = omega (arith, a, b)

unbounded : (h : Bool) (t s u v : ℕ) → u ≡ only h t → v ≡ only h s → u + v ≤ 1 → h ≡ true → t + s ≤ 1
unbounded true t s u v a b k e = omega (arith, a, b, k)
unbounded false t s u v a b k e = cc

counts_after : (i : ℕ) (h : Bool) (a b : Flow) (t s r t2 s2 r2 : ℕ) (P Q : Type 0) → Counts i h a t s r P → Counts i h b t2 s2 r2 Q
    → Counts i h (After a b) (t + t2) (max s s2) (max r r2) (P × Q × (t + s2 ≤ 1))
counts_after i h a b t s r t2 s2 r2 P Q p q = record {
  uses_is = only_sum h t t2 (flow_uses i a) (flow_uses i b) p.uses_is q.uses_is;
  seen_is = only_max h s s2 (flow_seen i a) (flow_seen i b) p.seen_is q.seen_is;
  reads_is = only_max h r r2 (flow_reads i a) (flow_reads i b) p.reads_is q.reads_is;
  fair = λ k. (p.fair (λ e. (k e).0), q.fair (λ e. (k e).1), bounded h t s2 (flow_uses i a) (flow_seen i b) p.uses_is q.seen_is (λ e. (k e).2));
  back = λ k e. (p.back k.0 e, q.back k.1 e, unbounded h t s2 (flow_uses i a) (flow_seen i b) p.uses_is q.seen_is k.2 e);
}

counts_either : (i : ℕ) (h : Bool) (a b : Flow) (t s r t2 s2 r2 : ℕ) (P Q : Type 0) → Counts i h a t s r P → Counts i h b t2 s2 r2 Q
    → Counts i h (Either a b) (max t t2) (max s s2) (max r r2) (P × Q)
counts_either i h a b t s r t2 s2 r2 P Q p q = record {
  uses_is = only_max h t t2 (flow_uses i a) (flow_uses i b) p.uses_is q.uses_is;
  seen_is = only_max h s s2 (flow_seen i a) (flow_seen i b) p.seen_is q.seen_is;
  reads_is = only_max h r r2 (flow_reads i a) (flow_reads i b) p.reads_is q.reads_is;
  fair = λ k. (p.fair (λ e. (k e).0), q.fair (λ e. (k e).1));
  back = λ k e. (p.back k.0 e, q.back k.1 e);
}

counts_calling : (i : ℕ) (h : Bool) (a : Flow) (t s r : ℕ) (P : Type 0) → Counts i h a t s r P → Counts i h (Calling a) t (max s r) 0 (P × (t + r ≤ 1))
counts_calling i h a t s r P p = record {
  uses_is = p.uses_is;
  seen_is = only_max h s r (flow_seen i a) (flow_reads i a) p.seen_is p.reads_is;
  reads_is = sym (only_none h);
  fair = λ k. (p.fair (λ e. (k e).0), bounded h t r (flow_uses i a) (flow_reads i a) p.uses_is p.reads_is (λ e. (k e).1));
  back = λ k e. (p.back k.0 e, unbounded h t r (flow_uses i a) (flow_reads i a) p.uses_is p.reads_is k.1 e);
}

-- behind something that doesn't count
counts_behind : (i : ℕ) (h : Bool) (a b : Flow) (t s r : ℕ) (P : Type 0) → Occurs i a 0 0 → Counts i h b t s r P → Counts i h (After a b) t s r P
counts_behind i h a b t s r P o p =
    let ua = o.uses_is in
    let sa = o.seen_is in
    let ra = o.reads_is in
    let ub = p.uses_is in
    let sb = p.seen_is in
    let rb = p.reads_is in
    let m = seen_one i b in
    record {
      uses_is = omega (arith, ua, ub);
      seen_is = omega (arith, sa, sb);
      reads_is = omega (arith, ra, rb);
      fair = λ k. (o.fair, p.fair k, omega (arith, ua, m));
      back = λ k. p.back k.1;
    }

-- behind a binder
counts_hidden : (i : ℕ) (h c : Bool) (f : Flow) (t s : ℕ) (P : Type 0) → Counts i (h && not c) f t s 0 P
    → Counts i h f (if c then 0 else t) (if c then 0 else s) 0 (c ≡ false → P)
counts_hidden i h c f t s P p = record {
  uses_is = only_hidden h c t (flow_uses i f) p.uses_is;
  seen_is = only_hidden h c s (flow_seen i f) p.seen_is;
  reads_is = p.reads_is ∙ only_none (h && not c) ∙ sym (only_none h);
  fair = λ k. p.fair (λ e. shown h c e k);
  back = λ k e g. p.back k (both h c e g);
}
  where
    shown : (h c : Bool) → (h && not c) ≡ true → (h ≡ true → c ≡ false → P) → P
    shown true true e k = cc
    shown true false e k = k refl refl
    shown false c e k = cc

    both : (h c : Bool) → h ≡ true → c ≡ false → (h && not c) ≡ true
    both true true e g = cc
    both true false e g = refl
    both false c e g = cc

-- ---- parts

pub cell_occurs : (types : List DataType) (lent : Bool) (c : Name) (x : ArmCell) (i : ℕ) → Occurs i (cell_flow types lent c x) 0 0
cell_occurs types true c x i = nothing_occurs i
cell_occurs types false c x i = at_test (is_inline types (or_else (constructor_number types c.word) 0) || has_cell x)
  where
    at_test : (b : Bool) → Occurs i (if b then Nothing else Fault (ReadMatch c.word c.line)) 0 0
    at_test true = record { uses_is = refl; seen_is = refl; reads_is = refl; fair = tt }
    at_test false = record { uses_is = refl; seen_is = refl; reads_is = refl; fair = tt }

pub look_occurs : (n : Name) (as' : Arms) (i : ℕ) → Occurs i (look_flow (Var n) as') 0 0
look_occurs n as' i = at_test (some_cell as')
  where
    at_test : (b : Bool) → Occurs i (if b then Fault (Lent n.word n.line) else Nothing) 0 0
    at_test true = record { uses_is = refl; seen_is = refl; reads_is = refl; fair = tt }
    at_test false = record { uses_is = refl; seen_is = refl; reads_is = refl; fair = tt }

-- a variable that is lent isn't watched
lent_counts : (types : List DataType) (o : Option Variable) (i : ℕ) → option_map_or (λ v. v.lent) o false ≡ true → counts_as types o i ≡ 0
lent_counts types None i e = cc
lent_counts types (Some v) i e = ap (λ b. if b then 0 else if is_heap types v.kind then bit (v.number == i) else 0) e

name_counts : (types : List DataType) (s : Scope Variable) (n : Name) (i : ℕ) (x : List ℕ) (h : Bool) (P : Type 0) → Means types s i x h → P
    → Counts i h (use_flow types (find s n.word) n) (one_name x n) (one_name x n) 0 P
name_counts types s n i x h P m p =
    let o = use_occurs types (find s n.word) n i in
    record {
      uses_is = o.uses_is ∙ m n;
      seen_is = o.seen_is ∙ m n;
      reads_is = o.reads_is ∙ sym (only_none h);
      fair = λ k. o.fair;
      back = λ k e. p;
    }

reading_counts : (types : List DataType) (s : Scope Variable) (n : Name) (i : ℕ) (x : List ℕ) (h : Bool) (P : Type 0) → Means types s i x h
    → Counts i h (read_flow types (find s n.word) n) 0 0 (one_name x n) (true ≡ false → P)
reading_counts types s n i x h P m =
    let o = read_occurs types (find s n.word) n i in
    record {
      uses_is = o.uses_is ∙ sym (only_none h);
      seen_is = o.seen_is ∙ sym (only_none h);
      reads_is = o.reads_is ∙ m n;
      fair = λ k. o.fair;
      back = λ k e g. cc;
    }

pub argument_plain : (types : List DataType) (s : Scope Variable) (m : Bool) (e : Expression) (f : Flow) → is_read m e ≡ false → argument_flow types s m e f ≡ f
argument_plain types s false e f q = refl
argument_plain types s true (Num z l) f q = refl
argument_plain types s true (Truth b l) f q = refl
argument_plain types s true (Var n) f q = cc
argument_plain types s true (Prim op a b l) f q = refl
argument_plain types s true (If c a b l) f q = refl
argument_plain types s true (Let n e b) f q = refl
argument_plain types s true (Match e as' l) f q = refl
argument_plain types s true (Build c es place) f q = refl
argument_plain types s true (Call g es) f q = refl

-- what the rule asks of an argument, where it is read or not
abbrev ArgumentCounts : ℕ → Bool → Flow → ℕ → ℕ → (read named : Bool) → Type 0 → Type 0
ArgumentCounts i h f t s read named P = Counts i h f (if read then 0 else t) (if read then 0 else s) (if read && named then 1 else 0) (read ≡ false → P)

plain_counts : (types : List DataType) (s : Scope Variable) (m : Bool) (e : Expression) (i : ℕ) (x : List ℕ) (h : Bool) (f : Flow) (t u : ℕ) (P : Type 0) (r : Bool) → is_read m e ≡ r → r ≡ false
    → Counts i h f t u 0 P → ArgumentCounts i h (argument_flow types s m e f) t u r (is_variable x e) P
plain_counts types s m e i x h f t u P true q z c = cc
plain_counts types s m e i x h f t u P false q z c =
    subst (λ y. Counts i h y t u 0 (false ≡ false → P)) (sym (argument_plain types s m e f q))
    (counts_same i h f t u 0 t u 0 P (false ≡ false → P) refl refl refl (λ p e. p) (λ k. k refl) c)

argument_counts : (types : List DataType) (s : Scope Variable) (m : Bool) (e : Expression) (i : ℕ) (x : List ℕ) (h : Bool) (f : Flow) (t u : ℕ) (P : Type 0) → Means types s i x h
    → Counts i h f t u 0 P → ArgumentCounts i h (argument_flow types s m e f) t u (is_read m e) (is_variable x e) P
argument_counts types s true (Var n) i x h f t u P means c = reading_counts types s n i x h P means
argument_counts types s false (Var n) i x h f t u P means c = plain_counts types s false (Var n) i x h f t u P false refl refl c
argument_counts types s m (Num z l) i x h f t u P means c = plain_counts types s m (Num z l) i x h f t u P false refl refl c
argument_counts types s m (Truth b l) i x h f t u P means c = plain_counts types s m (Truth b l) i x h f t u P false refl refl c
argument_counts types s m (Prim op a b l) i x h f t u P means c = plain_counts types s m (Prim op a b l) i x h f t u P false refl refl c
argument_counts types s m (If d a b l) i x h f t u P means c = plain_counts types s m (If d a b l) i x h f t u P false refl refl c
argument_counts types s m (Let n e b) i x h f t u P means c = plain_counts types s m (Let n e b) i x h f t u P false refl refl c
argument_counts types s m (Match e as' l) i x h f t u P means c = plain_counts types s m (Match e as' l) i x h f t u P false refl refl c
argument_counts types s m (Build d es place) i x h f t u P means c = plain_counts types s m (Build d es place) i x h f t u P false refl refl c
argument_counts types s m (Call g es) i x h f t u P means c = plain_counts types s m (Call g es) i x h f t u P false refl refl c

pub reading_same : (ms : List Bool) (e : Expression) → is_read (is_read_here ms) e ≡ is_reading ms e
reading_same ms (Num z l) = refl
reading_same ms (Truth b l) = refl
reading_same ms (Var n) = refl
reading_same ms (Prim op a b l) = refl
reading_same ms (If c a b l) = refl
reading_same ms (Let n e b) = refl
reading_same ms (Match e as' l) = refl
reading_same ms (Build c es place) = refl
reading_same ms (Call f es) = refl

-- no argument of a build is read
pub none_read : (e : Expression) → is_reading [] e ≡ false
none_read (Num z l) = refl
none_read (Truth b l) = refl
none_read (Var n) = refl
none_read (Prim op a b l) = refl
none_read (If c a b l) = refl
none_read (Let n e b) = refl
none_read (Match e as' l) = refl
none_read (Build c es place) = refl
none_read (Call f es) = refl

no_reads : (x : List ℕ) (es : Expressions) → call_reads x [] es ≡ 0
no_reads x NoExpressions = refl
no_reads x (AndExpression e es) =
    let h : bit (is_reading [] e && is_variable x e) ≡ 0 = ap (λ b. bit (b && is_variable x e)) (none_read e) in
    let k = no_reads x es in
    omega (arith, h, k)

look_counts : (types : List DataType) (s : Scope Variable) (n : Name) (as' : Arms) (i : ℕ) (x : List ℕ) (h : Bool) (f : Flow) (t u : ℕ) (P : Type 0) (b : Bool) → is_lent_in s n ≡ b
    → Means types s i x h → P → t ≡ one_name x n → u ≡ one_name x n → Counts i h f t u 0 P → Counts i h (scrutinee_flow b (Var n) as' f) t u 0 P
look_counts types s n as' i x h f t u P false e m p j k c = c
look_counts types s n as' i x h f t u P true e m p j k c =
    let o = look_occurs n as' i in
    let z : only h (one_name x n) ≡ 0 = sym (m n) ∙ lent_counts types (find s n.word) i e in
    record {
      uses_is = o.uses_is ∙ sym z ∙ ap (only h) (sym j);
      seen_is = o.seen_is ∙ sym z ∙ ap (only h) (sym k);
      reads_is = o.reads_is ∙ sym (only_none h);
      fair = λ g. o.fair;
      back = λ g e. p;
    }

-- the variables of an arm
pub arm_other : (types : List DataType) (lent : Bool) (c : Name) (fs : List (Option Name)) (x : ArmCell) (next : ℕ) (s : Scope Variable) (i : ℕ) (y : List ℕ) (h : Bool)
    → HeadIsFull types c fs x → Outside i next (next + arm_count types c fs x)
    → Means types s i y h → Means types (arm_variables types lent next c fs x s) i y (h && not (is_bound y (bound_names fs x)))
arm_other types lent c fs x next s i y h full o m =
    inner_other types (lends_field types lent c) fs (con_fields types c) x next (next + fields_count fs (con_fields types c)) s i y h full.full refl (λ q. let r = o q in omega (arith, r)) m

abbrev pub Counted : Loans → Globals Kind → ℕ → Scope Variable → ℕ → List ℕ → Bool → Expression → Type 0
Counted loans g next s i x h e = Counts i h (flow loans g next s e) (taken loans x e) (seen loans x e) 0 (Fair loans x e)

pub scrutinee_counted : (loans : Loans) (g : Globals Kind) (next : ℕ) (s : Scope Variable) (i : ℕ) (x : List ℕ) (h : Bool) (e : Expression) (as' : Arms) → Means g.types s i x h
    → Counted loans g next s i x h e
    → Counts i h (scrutinee_flow (looks_on s e) e as' (flow loans g next s e)) (taken loans x e) (seen loans x e) 0 (Fair loans x e)
scrutinee_counted loans g next s i x h (Num z l) as' m c = c
scrutinee_counted loans g next s i x h (Truth b l) as' m c = c
scrutinee_counted loans g next s i x h (Var n) as' m c =
    look_counts g.types s n as' i x h (flow loans g next s (Var n)) (one_name x n) (one_name x n) (Fair loans x (Var n)) (is_lent_in s n) refl m tt refl refl c
scrutinee_counted loans g next s i x h (Prim op a b l) as' m c = c
scrutinee_counted loans g next s i x h (If d a b l) as' m c = c
scrutinee_counted loans g next s i x h (Let n e b) as' m c = c
scrutinee_counted loans g next s i x h (Match e bs l) as' m c = c
scrutinee_counted loans g next s i x h (Build d es place) as' m c = c
scrutinee_counted loans g next s i x h (Call f es) as' m c = c

pub place_counted : (types : List DataType) (s : Scope Variable) (i : ℕ) (x : List ℕ) (h : Bool) (place : Option Name) → Means types s i x h
    → Counts i h (place_flow types s place) (place_taken x place) (place_taken x place) 0 (Unit {0})
place_counted types s i x h None m = counts_none i h Nothing (Unit {0}) (nothing_occurs i) tt
place_counted types s i x h (Some d) m = name_counts types s d i x h (Unit {0}) m tt

mutual
  pub counted : (loans : Loans) (g : Globals Kind) (e : Expression) (next : ℕ) (s : Scope Variable) (i : ℕ) (x : List ℕ) (h : Bool) → IsFull g.types e
      → Outside i next (next_of g.types next e)
      → Means g.types s i x h → Counted loans g next s i x h e
  counted loans g (Num z l) next s i x h full o m = counts_none i h Nothing (Unit {0}) (nothing_occurs i) tt
  counted loans g (Truth b l) next s i x h full o m = counts_none i h Nothing (Unit {0}) (nothing_occurs i) tt
  counted loans g (Var n) next s i x h full o m = name_counts g.types s n i x h (Unit {0}) m tt
  counted loans g (Prim op a b l) next s i x h full o m =
      let mid = next_of g.types next a in
      let p = next_grows g.types next a in
      let q = next_grows g.types mid b in
      counts_after i h (flow loans g next s a) (flow loans g mid s b) (taken loans x a) (seen loans x a) 0 (taken loans x b) (seen loans x b) 0 (Fair loans x a) (Fair loans x b)
      (counted loans g a next s i x h full.0 (λ r. let k = o r in omega (arith, k, p, q)) m)
      (counted loans g b mid s i x h full.1 (λ r. let k = o (omega (arith, r, p)) in k) m)
  counted loans g (If c a b l) next s i x h full o m =
      let first = next_of g.types next c in
      let second = next_of g.types first a in
      let p = next_grows g.types next c in
      let q = next_grows g.types first a in
      let r = next_grows g.types second b in
      let fa = flow loans g first s a in
      let fb = flow loans g second s b in
      counts_same i h (After (flow loans g next s c) (Either fa fb)) (taken loans x (If c a b l)) (seen loans x (If c a b l)) 0 (taken loans x (If c a b l)) (seen loans x (If c a b l)) 0
      (Fair loans x c × (Fair loans x a × Fair loans x b) × (taken loans x c + max (seen loans x a) (seen loans x b) ≤ 1)) (Fair loans x (If c a b l)) refl refl refl
      (λ f. (f.0, f.1.0, f.1.1, f.2)) (λ f. (f.0, (f.1, f.2), f.3))
      (counts_after i h (flow loans g next s c) (Either fa fb) (taken loans x c) (seen loans x c) 0 (max (taken loans x a) (taken loans x b)) (max (seen loans x a) (seen loans x b)) 0 (Fair loans x c) (Fair loans x a × Fair loans x b)
      (counted loans g c next s i x h full.0 (λ t. let k = o t in omega (arith, k, p, q, r)) m)
      (counts_either i h fa fb (taken loans x a) (seen loans x a) 0 (taken loans x b) (seen loans x b) 0 (Fair loans x a) (Fair loans x b)
      (counted loans g a first s i x h full.1 (λ t. let k = o (omega (arith, t, p)) in omega (arith, k, q, r)) m)
      (counted loans g b second s i x h full.2 (λ t. o (omega (arith, t, p, q))) m)))
  counted loans g (Let n e b) next s i x h full o m =
      let number = next_of g.types next e in
      let v : Variable = record { number = number; kind = atom_of known_kind g (kinds_in s) e; lent = false } in
      let p = next_grows g.types next e in
      let q = next_grows g.types (suc number) b in
      let d : (number == i) ≡ false = unequal number i (λ t. let k = o (omega (arith, t, p)) in omega (arith, k, q, t)) in
      let c = bytes_eq n.word x in
      let fb = flow loans g (suc number) (bind n.word v s) b in
      counts_after i h (flow loans g next s e) fb (taken loans x e) (seen loans x e) 0 (if c then 0 else taken loans x b) (if c then 0 else seen loans x b) 0 (Fair loans x e) (c ≡ false → Fair loans x b)
      (counted loans g e next s i x h full.0 (λ t. let k = o t in omega (arith, k, p, q)) m)
      (counts_hidden i h c fb (taken loans x b) (seen loans x b) (Fair loans x b)
      (counted loans g b (suc number) (bind n.word v s) i x (h && not c) full.1 (λ t. o (omega (arith, t, p))) (bind_other g.types s n.word v i x h d m)))
  counted loans g (Match e as' l) next s i x h full o m =
      let mid = next_of g.types next e in
      let p = next_grows g.types next e in
      let q = arms_grow g.types mid as' in
      counts_after i h (scrutinee_flow (looks_on s e) e as' (flow loans g next s e)) (arms_flow loans g (looks_on s e) mid s as') (taken loans x e) (seen loans x e) 0 (arms_taken loans x as') (arms_seen loans x as') 0 (Fair loans x e) (ArmsFair loans x as')
      (scrutinee_counted loans g next s i x h e as' m (counted loans g e next s i x h full.0 (λ t. let k = o t in omega (arith, k, p, q)) m))
      (arms_counted loans g (looks_on s e) as' mid s i x h full.1 (λ t. o (omega (arith, t, p))) m)
  counted loans g (Build c es place) next s i x h full o m =
      let fs = all_flow loans g [] next s es in
      let fp = place_flow g.types s place in
      counts_same i h (After fs fp) (taken loans x (Build c es place)) (seen loans x (Build c es place)) (max (call_reads x [] es) 0) (taken loans x (Build c es place)) (seen loans x (Build c es place)) 0
      (AllFair loans x [] es × Unit {0} × (all_taken loans x [] es + place_taken x place ≤ 1)) (Fair loans x (Build c es place)) refl refl (let k = no_reads x es in omega (arith, k))
      (λ f. (f.0, f.2)) (λ f. (f.0, tt, f.1))
      (counts_after i h fs fp (all_taken loans x [] es) (all_seen loans x [] es) (call_reads x [] es) (place_taken x place) (place_taken x place) 0 (AllFair loans x [] es) (Unit {0})
      (all_counted loans g [] es next s i x h full o m)
      (place_counted g.types s i x h place m))
  counted loans g (Call f es) next s i x h full o m =
      counts_calling i h (all_flow loans g (loans f.word) next s es) (all_taken loans x (loans f.word) es) (all_seen loans x (loans f.word) es) (call_reads x (loans f.word) es) (AllFair loans x (loans f.word) es)
      (all_counted loans g (loans f.word) es next s i x h full o m)

  pub all_counted : (loans : Loans) (g : Globals Kind) (ms : List Bool) (es : Expressions) (next : ℕ) (s : Scope Variable) (i : ℕ) (x : List ℕ) (h : Bool) → AllAreFull g.types es
      → Outside i next (all_next g.types next es)
      → Means g.types s i x h → Counts i h (all_flow loans g ms next s es) (all_taken loans x ms es) (all_seen loans x ms es) (call_reads x ms es) (AllFair loans x ms es)
  all_counted loans g ms NoExpressions next s i x h full o m = counts_none i h Nothing (Unit {0}) (nothing_occurs i) tt
  all_counted loans g ms (AndExpression e es) next s i x h full o m =
      let mid = next_of g.types next e in
      let p = next_grows g.types next e in
      let q = all_grow g.types mid es in
      let own = flow loans g next s e in
      let arg = argument_flow g.types s (is_read_here ms) e own in
      let first = subst (λ r. ArgumentCounts i h arg (taken loans x e) (seen loans x e) r (is_variable x e) (Fair loans x e)) (reading_same ms e)
      (argument_counts g.types s (is_read_here ms) e i x h own (taken loans x e) (seen loans x e) (Fair loans x e) m (counted loans g e next s i x h full.0 (λ r. let k = o r in omega (arith, k, p, q)) m)) in
      counts_after i h arg (all_flow loans g (reads_behind ms) mid s es)
      (if is_reading ms e then 0 else taken loans x e) (if is_reading ms e then 0 else seen loans x e) (if is_reading ms e && is_variable x e then 1 else 0)
      (all_taken loans x (reads_behind ms) es) (all_seen loans x (reads_behind ms) es) (call_reads x (reads_behind ms) es) (is_reading ms e ≡ false → Fair loans x e) (AllFair loans x (reads_behind ms) es)
      first
      (all_counted loans g (reads_behind ms) es mid s i x h full.1 (λ r. o (omega (arith, r, p))) m)

  pub arms_counted : (loans : Loans) (g : Globals Kind) (lent : Bool) (as' : Arms) (next : ℕ) (s : Scope Variable) (i : ℕ) (x : List ℕ) (h : Bool) → ArmsAreFull g.types as'
      → Outside i next (arms_next g.types next as')
      → Means g.types s i x h → Counts i h (arms_flow loans g lent next s as') (arms_taken loans x as') (arms_seen loans x as') 0 (ArmsFair loans x as')
  arms_counted loans g lent NoArms next s i x h full o m = counts_none i h Nothing (Unit {0}) (nothing_occurs i) tt
  arms_counted loans g lent (AndArm c fs cell b as') next s i x h full o m =
      let body = next + arm_count g.types c fs cell in
      let rest = next_of g.types body b in
      let p = next_grows g.types body b in
      let q = arms_grow g.types rest as' in
      let d = is_bound x (bound_names fs cell) in
      let s2 = arm_variables g.types lent next c fs cell s in
      let fb = flow loans g body s2 b in
      let inside = arm_other g.types lent c fs cell next s i x h full.0 (λ t. let k = o t in omega (arith, k, p, q)) m in
      counts_either i h (After (cell_flow g.types lent c cell) fb) (arms_flow loans g lent rest s as') (if d then 0 else taken loans x b) (if d then 0 else seen loans x b) 0 (arms_taken loans x as') (arms_seen loans x as') 0
      (d ≡ false → Fair loans x b) (ArmsFair loans x as')
      (counts_behind i h (cell_flow g.types lent c cell) fb (if d then 0 else taken loans x b) (if d then 0 else seen loans x b) 0 (d ≡ false → Fair loans x b) (cell_occurs g.types lent c cell i)
      (counts_hidden i h d fb (taken loans x b) (seen loans x b) (Fair loans x b)
      (counted loans g b body s2 i x (h && not d) full.1 (λ t. let k = o (omega (arith, t)) in omega (arith, k, p, q)) inside)))
      (arms_counted loans g lent as' rest s i x h full.2 (λ t. o (omega (arith, t, p))) m)
