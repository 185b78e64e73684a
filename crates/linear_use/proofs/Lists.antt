-- Laws of the walk through arguments and arms.
use Rattle.std.proofs.Common.{◌≡◌, ℕ, zero, suc, ◌+◌, ◌≤◌, ◌<◌, Bool, true, false, if◌then◌else◌, List, [], ◌∷◌, ◌++◌, map, length, drop, take, get_or, Option, Some, None, refl, sym, ap, ◌∙◌, subst, arith, append_assoc, append-nil, length-append}
use Rattle.std.specs.Prelude.{◌&&◌}
use Rattle.std.specs.Option.{option_or}
use Rattle.camelot_values.specs.Kinds.{DataType}
use Rattle.camelot_values.specs.declared.kinds.Kind.{Kind}
use Rattle.camelot_values.specs.Heap.{is_heap}
use Rattle.camelot_values.specs.Names.{find}
use Rattle.camelot_tree.specs.Tree.{Expression, Num, Truth, Var, Prim, If, Let, Match, Build, Call, Expressions, NoExpressions, AndExpression, Arms, NoArms, AndArm, Branch, expressions, arms}
use Rattle.camelot_tree.specs.declared.tree.Name.{Name}
use Rattle.camelot_typing.specs.Kinds.{Globals, Scope, atom_of, all_atoms, arms_atoms}
use Rattle.camelot_typing.specs.Typing.{known_kind}
use Rattle.linear_use.specs.declared.fault.UseFault.{UseFault}
use Rattle.linear_use.specs.declared.variable.Variable.{Variable}
use Rattle.linear_use.specs.declared.state.State.{State}
use Rattle.linear_use.specs.Uses.{Loans, is_read_here, reads_behind}
use Rattle.linear_use.specs.Flow.{Flow, Nothing, Read, Calling, used, read_flow, argument_flow, kinds_in, next_of, all_next, arms_next, flow, all_flow, arms_flow}
use Rattle.linear_use.specs.Walk.{first_of, AreAt, Walked, kinds_at, all_kinds_at, arm_flow, arm_next, arm_kinds_at, arms_kinds_at, is_none, is_read, own_flow, reads_first, ArgumentWalked, AllWalked}
use Rattle.linear_use.proofs.Walking.{at_front, end_within, seq_at, or_nothing, or_assoc}
use Rattle.linear_use.proofs.Climbing.{WalkedTerm}
use Rattle.linear_use.proofs.Counting.{argument_plain}

-- ---- readings

reads_zero : (called : List ℕ) (types : List DataType) (s : Scope Variable) (ms : List Bool) (es : Expressions) → reads_first called types s ms es 0 ≡ None
reads_zero called types s ms NoExpressions = refl
reads_zero called types s ms (AndExpression e es) = refl

reads_nothing : (called : List ℕ) (types : List DataType) (s : Scope Variable) (es : Expressions) (n : ℕ) → reads_first called types s [] es n ≡ None
reads_nothing called types s NoExpressions n = refl
reads_nothing called types s (AndExpression e es) zero = refl
reads_nothing called types s (AndExpression e es) (suc n) = reads_nothing called types s es n

-- what a reading says doesn't depend on what is spent, and it spends nothing
record Reads (types : List DataType) (s : Scope Variable) (m : Bool) (e : Expression) (f : Flow) : Type 0 where
  first : (spent called : List ℕ) → first_of spent called (argument_flow types s m e f) ≡ first_of [] called (argument_flow types s m e Nothing)
  nothing : used (argument_flow types s m e f) ≡ []

read_alike : (types : List DataType) (o : Option Variable) (n : Name) (spent called : List ℕ) → first_of spent called (read_flow types o n) ≡ first_of [] called (read_flow types o n)
read_alike types None n spent called = refl
read_alike types (Some v) n spent called = at_kind v.lent (is_heap types v.kind)
  where
    at_kind : (b c : Bool) → first_of spent called (if b then Nothing else if c then Read v.number n.word n.line else Nothing)
        ≡ first_of [] called (if b then Nothing else if c then Read v.number n.word n.line else Nothing)
    at_kind true c = refl
    at_kind false true = refl
    at_kind false false = refl

read_used : (types : List DataType) (o : Option Variable) (n : Name) → used (read_flow types o n) ≡ []
read_used types None n = refl
read_used types (Some v) n = at_kind v.lent (is_heap types v.kind)
  where
    at_kind : (b c : Bool) → used (if b then Nothing else if c then Read v.number n.word n.line else Nothing) ≡ []
    at_kind true c = refl
    at_kind false true = refl
    at_kind false false = refl

reads_of : (types : List DataType) (s : Scope Variable) (m : Bool) (e : Expression) (f : Flow) → is_read m e ≡ true → Reads types s m e f
reads_of types s true (Var n) f h = record { first = λ spent called. read_alike types (find s n.word) n spent called; nothing = read_used types (find s n.word) n }
reads_of types s false (Var n) f h = cc
reads_of types s m (Num z l) f h = cc
reads_of types s m (Truth b l) f h = cc
reads_of types s m (Prim op a b l) f h = cc
reads_of types s m (If c a b l) f h = cc
reads_of types s m (Let n e b) f h = cc
reads_of types s m (Match e as' l) f h = cc
reads_of types s m (Build c es place) f h = cc
reads_of types s m (Call g es) f h = cc

-- ---- arguments

-- What is left of these arguments, and of the marks of their parameters. The readings of the first `index` arguments
-- that stand before a fault are among the first `clear` ones.
pub record AllLeft (loans : Loans) (g : Globals Kind) (ex : List Kind) (ms marks : List Bool) (all left : Expressions) (clear index : ℕ) (s0 s1 : State) : Type 0 where
  pub fault : (called : List ℕ) → option_or s0.fault (first_of s0.spent called (all_flow loans g ms s0.next s0.scope all))
      ≡ option_or (option_or (reads_first called g.types s0.scope ms all clear) s1.fault) (first_of s1.spent called (all_flow loans g marks s1.next s1.scope left))
  pub reads : (called : List ℕ) (n : ℕ) → reads_first called g.types s0.scope ms all (index + n)
      ≡ option_or (reads_first called g.types s0.scope ms all index) (reads_first called g.types s0.scope marks left n)
  pub cleared : s1.fault ≡ None → (called : List ℕ) → reads_first called g.types s0.scope ms all clear ≡ reads_first called g.types s0.scope ms all index
  pub spent : s1.spent ++ used (all_flow loans g marks s1.next s1.scope left) ≡ s0.spent ++ used (all_flow loans g ms s0.next s0.scope all)
  pub next : all_next g.types s1.next left ≡ all_next g.types s0.next all
  pub scope : s1.scope ≡ s0.scope
  pub position : s1.position + length (all_kinds_at g s1 left) ≡ s0.position + length (all_kinds_at g s0 all)
  pub kinds : AreAt ex s1.position (all_kinds_at g s1 left)

pub all_begun : (loans : Loans) (g : Globals Kind) (ex : List Kind) (ms : List Bool) (all : Expressions) (s : State) → AreAt ex s.position (all_kinds_at g s all)
    → AllLeft loans g ex ms ms all all 0 0 s s
all_begun loans g ex ms all s h = record {
  fault = λ called. ap (λ r. option_or (option_or r s.fault) (first_of s.spent called (all_flow loans g ms s.next s.scope all))) (sym (reads_zero called g.types s.scope ms all));
  reads = λ called n. let q : 0 + n ≡ n = omega arith in ap (reads_first called g.types s.scope ms all) q ∙ ap (λ r. option_or r (reads_first called g.types s.scope ms all n)) (sym (reads_zero called g.types s.scope ms all));
  cleared = λ e called. refl;
  spent = refl;
  next = refl;
  scope = refl;
  position = refl;
  kinds = h;
}

pub all_at : (loans : Loans) (g : Globals Kind) (ex : List Kind) (ms marks : List Bool) (all left rest : Expressions) (e : Expression) (clear index : ℕ) (s0 s1 : State) → left ≡ AndExpression e rest
    → AllLeft loans g ex ms marks all left clear index s0 s1 → AreAt ex s1.position (kinds_at g s1 e)
all_at loans g ex ms marks all left rest e clear index s0 s1 q h =
    at_front ex s1.position (kinds_at g s1 e) (all_kinds_at g s1 rest) (subst (λ x. AreAt ex s1.position (all_kinds_at g s1 x)) q h.kinds)

pub argument_own : (loans : Loans) (g : Globals Kind) (m : Bool) (e : Expression) (clear index : ℕ) (s0 s1 : State) → is_read m e ≡ false → WalkedTerm loans g e s0 s1
    → ArgumentWalked loans g m e clear index s0 s1 clear
argument_own loans g m e clear index s0 s1 h w = record {
  walked = subst (λ b. Walked (if b then Nothing else flow loans g s0.next s0.scope e) (next_of g.types s0.next e) (length (kinds_at g s0 e)) s0 s1) (sym h) w;
  cleared = sym (ap (λ b. if b && is_none s0.fault then index else clear) h);
}

-- the place of the kind of a variable that is read
pub argument_end : (g : Globals Kind) (ex : List Kind) (m : Bool) (e : Expression) (s : State) → is_read m e ≡ true → AreAt ex s.position (kinds_at g s e)
    → s.position < length ex
argument_end g ex m (Num z l) s h a = cc
argument_end g ex m (Truth b l) s h a = cc
argument_end g ex m (Var n) s h a = end_within ex s.position s.position [] (atom_of known_kind g (kinds_in s.scope) (Var n)) (omega arith) a
argument_end g ex m (Prim op a2 b l) s h a = cc
argument_end g ex m (If c a2 b l) s h a = cc
argument_end g ex m (Let n e b) s h a = cc
argument_end g ex m (Match e as' l) s h a = cc
argument_end g ex m (Build c es place) s h a = cc
argument_end g ex m (Call f es) s h a = cc

-- one argument further
record ArgumentStep (loans : Loans) (g : Globals Kind) (ms marks : List Bool) (all rest : Expressions) (e : Expression) (clear index now : ℕ) (s0 s1 s2 : State) : Type 0 where
  fault : (called : List ℕ) (found : Option UseFault) → option_or (option_or (reads_first called g.types s0.scope ms all clear) s1.fault)
      (option_or (first_of s1.spent called (argument_flow g.types s1.scope (is_read_here marks) e (flow loans g s1.next s1.scope e))) found)
      ≡ option_or (option_or (reads_first called g.types s0.scope ms all now) s2.fault) found
  cleared : s2.fault ≡ None → (called : List ℕ) → reads_first called g.types s0.scope ms all now ≡ reads_first called g.types s0.scope ms all (index + 1)
  spent : s2.spent ≡ s1.spent ++ used (argument_flow g.types s1.scope (is_read_here marks) e (flow loans g s1.next s1.scope e))

or_left : (a b : Option UseFault) → option_or a b ≡ None → a ≡ None
or_left None b h = refl
or_left (Some x) b h = cc

some_first : (a : Option UseFault) (x : UseFault) (r m : Option UseFault) → option_or (option_or a (Some x)) (option_or r m) ≡ option_or (option_or a (Some x)) m
some_first None x r m = refl
some_first (Some y) x r m = refl

step_plain : (loans : Loans) (g : Globals Kind) (ex : List Kind) (ms marks : List Bool) (all left rest : Expressions) (e : Expression) (clear index now : ℕ) (s0 s1 s2 : State) → left ≡ AndExpression e rest
    → AllLeft loans g ex ms marks all left clear index s0 s1 → is_read (is_read_here marks) e ≡ false
    → (free count : ℕ) → Walked (flow loans g s1.next s1.scope e) free count s1 s2 → now ≡ clear
    → ArgumentStep loans g ms marks all rest e clear index now s0 s1 s2
step_plain loans g ex ms marks all left rest e clear index now s0 s1 s2 q h no_read free count w c =
    let m = is_read_here marks in
    let own = flow loans g s1.next s1.scope e in
    let same : argument_flow g.types s1.scope m e own ≡ own = argument_plain g.types s1.scope m e own no_read in
    let R : List ℕ → ℕ → Option UseFault = λ called n. reads_first called g.types s0.scope ms all n in
    record {
      fault =
          λ called found. ap (λ x. option_or (option_or (R called clear) s1.fault) (option_or (first_of s1.spent called x) found)) same
          ∙ sym (or_assoc (option_or (R called clear) s1.fault) (first_of s1.spent called own) found)
          ∙ ap (λ o. option_or o found) (or_assoc (R called clear) s1.fault (first_of s1.spent called own))
          ∙ ap (λ o. option_or (option_or (R called clear) o) found) (sym (w.fault called)) ∙ ap (λ n. option_or (option_or (R called n) s2.fault) found) (sym c);
      cleared =
          λ k called. let before : s1.fault ≡ None = or_left s1.fault (first_of s1.spent [] own) (sym (w.fault []) ∙ k) in
          ap (R called) c ∙ h.cleared before called ∙ sym (or_nothing (R called index))
          ∙ ap (option_or (R called index)) (sym (ap (λ x. option_or (first_of [] called x) (reads_first called g.types s0.scope (reads_behind marks) rest 0)) (argument_plain g.types s0.scope m e Nothing no_read) ∙ reads_zero called g.types s0.scope (reads_behind marks) rest))
          ∙ ap (λ x. option_or (R called index) (reads_first called g.types s0.scope marks x 1)) (sym q) ∙ sym (h.reads called 1);
      spent = w.spent ∙ ap (λ x. s1.spent ++ used x) (sym same);
    }

step_read : (loans : Loans) (g : Globals Kind) (ex : List Kind) (ms marks : List Bool) (all left rest : Expressions) (e : Expression) (clear index now : ℕ) (s0 s1 s2 : State) → left ≡ AndExpression e rest
    → AllLeft loans g ex ms marks all left clear index s0 s1 → is_read (is_read_here marks) e ≡ true
    → (free count : ℕ) → Walked Nothing free count s1 s2 → now ≡ (if is_none s1.fault then index + 1 else clear)
    → ArgumentStep loans g ms marks all rest e clear index now s0 s1 s2
step_read loans g ex ms marks all left rest e clear index now s0 s1 s2 q h is free count w c = at_fault s1.fault refl
  where
    m : Bool
    m = is_read_here marks

    own : Flow
    own = flow loans g s1.next s1.scope e

    R : List ℕ → ℕ → Option UseFault
    R called n = reads_first called g.types s0.scope ms all n

    rd : List ℕ → Option UseFault
    rd called = first_of [] called (argument_flow g.types s0.scope m e Nothing)

    first : (called : List ℕ) → first_of s1.spent called (argument_flow g.types s1.scope m e own) ≡ rd called
    first called = (reads_of g.types s1.scope m e own is).first s1.spent called ∙ ap (λ s. first_of [] called (argument_flow g.types s m e Nothing)) h.scope

    spent_is : s2.spent ≡ s1.spent ++ used (argument_flow g.types s1.scope m e own)
    spent_is = w.spent ∙ ap (λ l. s1.spent ++ l) (sym (reads_of g.types s1.scope m e own is).nothing)

    still : s2.fault ≡ s1.fault
    still = w.fault [] ∙ or_nothing s1.fault

    one_more : (called : List ℕ) → R called (index + 1) ≡ option_or (R called index) (rd called)
    one_more called =
        h.reads called 1 ∙ ap (λ x. option_or (R called index) (reads_first called g.types s0.scope marks x 1)) q
        ∙ ap (λ o. option_or (R called index) (option_or (rd called) o)) (reads_zero called g.types s0.scope (reads_behind marks) rest) ∙ ap (option_or (R called index)) (or_nothing (rd called))

    at_fault : (o : Option UseFault) → s1.fault ≡ o → ArgumentStep loans g ms marks all rest e clear index now s0 s1 s2
    at_fault None z =
        let last : now ≡ index + 1 = c ∙ ap (λ o. if is_none o then index + 1 else clear) z in
        record {
          fault =
              λ called found. ap (λ o. option_or (option_or (R called clear) o) (option_or (first_of s1.spent called (argument_flow g.types s1.scope m e own)) found)) z
              ∙ ap (λ o. option_or o (option_or (first_of s1.spent called (argument_flow g.types s1.scope m e own)) found)) (or_nothing (R called clear))
              ∙ ap (λ o. option_or (R called clear) (option_or o found)) (first called) ∙ sym (or_assoc (R called clear) (rd called) found)
              ∙ ap (λ o. option_or (option_or o (rd called)) found) (h.cleared z called) ∙ ap (λ o. option_or o found) (sym (one_more called))
              ∙ ap (λ n. option_or (R called n) found) (sym last) ∙ ap (λ o. option_or o found) (sym (or_nothing (R called now))) ∙ ap (λ o. option_or (option_or (R called now) o) found) (sym (still ∙ z));
          cleared = λ k called. ap (R called) last;
          spent = spent_is;
        }
    at_fault (Some x) z =
        let last : now ≡ clear = c ∙ ap (λ o. if is_none o then index + 1 else clear) z in
        record {
          fault =
              λ called found. ap (λ o. option_or (option_or (R called clear) o) (option_or (first_of s1.spent called (argument_flow g.types s1.scope m e own)) found)) z
              ∙ some_first (R called clear) x (first_of s1.spent called (argument_flow g.types s1.scope m e own)) found
              ∙ ap (λ n. option_or (option_or (R called n) (Some x)) found) (sym last) ∙ ap (λ o. option_or (option_or (R called now) o) found) (sym (still ∙ z));
          cleared = λ k called. let clash : Some x ≡ None = sym z ∙ sym still ∙ k in cc;
          spent = spent_is;
        }

argument_step : (loans : Loans) (g : Globals Kind) (ex : List Kind) (ms marks : List Bool) (all left rest : Expressions) (e : Expression) (clear index now : ℕ) (s0 s1 s2 : State) → left ≡ AndExpression e rest
    → AllLeft loans g ex ms marks all left clear index s0 s1 → ArgumentWalked loans g (is_read_here marks) e clear (index + 1) s1 s2 now
    → ArgumentStep loans g ms marks all rest e clear index now s0 s1 s2
argument_step loans g ex ms marks all left rest e clear index now s0 s1 s2 q h w = at_test (is_read (is_read_here marks) e) refl
  where
    free : ℕ
    free = next_of g.types s1.next e

    count : ℕ
    count = length (kinds_at g s1 e)

    own : Flow
    own = flow loans g s1.next s1.scope e

    at_test : (b : Bool) → is_read (is_read_here marks) e ≡ b → ArgumentStep loans g ms marks all rest e clear index now s0 s1 s2
    at_test true z =
        step_read loans g ex ms marks all left rest e clear index now s0 s1 s2 q h z free count (subst (λ b. Walked (if b then Nothing else own) free count s1 s2) z w.walked)
        (w.cleared ∙ ap (λ b. if b && is_none s1.fault then index + 1 else clear) z)
    at_test false z =
        step_plain loans g ex ms marks all left rest e clear index now s0 s1 s2 q h z free count (subst (λ b. Walked (if b then Nothing else own) free count s1 s2) z w.walked)
        (w.cleared ∙ ap (λ b. if b && is_none s1.fault then index + 1 else clear) z)

-- the state behind an argument, where it has no part of the flow
record Moved (g : Globals Kind) (e : Expression) (s1 s2 : State) : Type 0 where
  next : s2.next ≡ next_of g.types s1.next e
  scope : s2.scope ≡ s1.scope
  position : s2.position ≡ s1.position + length (kinds_at g s1 e)

pub all_step : (loans : Loans) (g : Globals Kind) (ex : List Kind) (ms marks behind : List Bool) (all left rest : Expressions) (e : Expression) (m : Bool) (clear index now on : ℕ) (s0 s1 s2 : State)
    → left ≡ AndExpression e rest → m ≡ is_read_here marks → behind ≡ reads_behind marks → on ≡ index + 1
    → AllLeft loans g ex ms marks all left clear index s0 s1 → ArgumentWalked loans g m e clear on s1 s2 now
    → AllLeft loans g ex ms behind all rest now on s0 s2
all_step loans g ex ms marks behind all left rest e m clear index now on s0 s1 s2 q mm bb oo h w0 =
    let w : ArgumentWalked loans g (is_read_here marks) e clear (index + 1) s1 s2 now =
    subst (λ x. ArgumentWalked loans g x e clear (index + 1) s1 s2 now) mm (subst (λ i. ArgumentWalked loans g m e clear i s1 s2 now) oo w0) in
    let step = argument_step loans g ex ms marks all left rest e clear index now s0 s1 s2 q h w in
    let arg = argument_flow g.types s1.scope (is_read_here marks) e (flow loans g s1.next s1.scope e) in
    let more : Flow = all_flow loans g (reads_behind marks) (next_of g.types s1.next e) s1.scope rest in
    let own = own_flow (is_read_here marks) e (flow loans g s1.next s1.scope e) in
    let same : all_flow loans g behind s2.next s2.scope rest ≡ more =
    ap (λ b. all_flow loans g b s2.next s2.scope rest) bb ∙ ap (λ n. all_flow loans g (reads_behind marks) n s2.scope rest) w.walked.next ∙ ap (λ s. all_flow loans g (reads_behind marks) (next_of g.types s1.next e) s rest) w.walked.scope in
    let kinds : all_kinds_at g s2 rest ≡ all_kinds_at g s1 rest = ap (λ s. all_atoms known_kind g (kinds_in s) rest) w.walked.scope in
    let R : List ℕ → ℕ → Option UseFault = λ called n. reads_first called g.types s0.scope ms all n in
    let rest_reads : List ℕ → ℕ → Option UseFault = λ called n. reads_first called g.types s0.scope (reads_behind marks) rest n in
    let rd : List ℕ → Option UseFault = λ called. first_of [] called (argument_flow g.types s0.scope (is_read_here marks) e Nothing) in
    record {
      fault =
          λ called. h.fault called ∙ ap (λ x. option_or (option_or (R called clear) s1.fault) (first_of s1.spent called (all_flow loans g marks s1.next s1.scope x))) q
          ∙ step.fault called (first_of (s1.spent ++ used arg) called more)
          ∙ ap (λ l. option_or (option_or (R called now) s2.fault) (first_of l called more)) (sym step.spent)
          ∙ ap (λ x. option_or (option_or (R called now) s2.fault) (first_of s2.spent called x)) (sym same);
      reads =
          λ called n. let r : on + n ≡ index + suc n = omega (arith, oo) in
          ap (R called) r ∙ h.reads called (suc n) ∙ ap (λ x. option_or (R called index) (reads_first called g.types s0.scope marks x (suc n))) q
          ∙ sym (or_assoc (R called index) (rd called) (rest_reads called n))
          ∙ ap (λ o. option_or o (rest_reads called n))
          (sym (ap (R called) oo ∙ h.reads called 1 ∙ ap (λ x. option_or (R called index) (reads_first called g.types s0.scope marks x 1)) q
          ∙ ap (λ o. option_or (R called index) (option_or (rd called) o)) (reads_zero called g.types s0.scope (reads_behind marks) rest) ∙ ap (option_or (R called index)) (or_nothing (rd called))))
          ∙ ap (λ b. option_or (R called on) (reads_first called g.types s0.scope b rest n)) (sym bb);
      cleared = λ k called. step.cleared k called ∙ ap (R called) (sym oo);
      spent =
          ap (λ x. s2.spent ++ used x) same ∙ ap (λ l. l ++ used more) step.spent ∙ append_assoc s1.spent (used arg) (used more)
          ∙ ap (λ x. s1.spent ++ used (all_flow loans g marks s1.next s1.scope x)) (sym q) ∙ h.spent;
      next = ap (λ n. all_next g.types n rest) w.walked.next ∙ ap (all_next g.types s1.next) (sym q) ∙ h.next;
      scope = w.walked.scope ∙ h.scope;
      position =
          let a = w.walked.position in
          let b = h.position in
          let c : length (all_kinds_at g s1 left) ≡ length (kinds_at g s1 e ++ all_kinds_at g s1 rest) = ap (λ x. length (all_kinds_at g s1 x)) q in
          let d = length-append (kinds_at g s1 e) (all_kinds_at g s1 rest) in
          let f = ap length kinds in
          omega (arith, a, b, c, d, f);
      kinds =
          seq_at ex (λ s. all_atoms known_kind g (kinds_in s) rest) own (next_of g.types s1.next e) (length (kinds_at g s1 e)) (kinds_at g s1 e) s1 s2 w.walked refl (subst (λ x. AreAt ex s1.position (all_kinds_at g s1 x)) q h.kinds);
    }

pub all_ended : (loans : Loans) (g : Globals Kind) (ex : List Kind) (ms marks : List Bool) (all left : Expressions) (clear index : ℕ) (s0 s1 : State) → left ≡ NoExpressions
    → AllLeft loans g ex ms marks all left clear index s0 s1 → AllWalked loans g ms all s0 s1 clear
all_ended loans g ex ms marks all left clear index s0 s1 q h = record {
  fault =
      λ called. h.fault called ∙ ap (λ x. option_or (option_or (reads_first called g.types s0.scope ms all clear) s1.fault) (first_of s1.spent called (all_flow loans g marks s1.next s1.scope x))) q
      ∙ or_nothing (option_or (reads_first called g.types s0.scope ms all clear) s1.fault);
  spent = sym (append-nil s1.spent) ∙ ap (λ x. s1.spent ++ used (all_flow loans g marks s1.next s1.scope x)) (sym q) ∙ h.spent;
  next = ap (all_next g.types s1.next) (sym q) ∙ h.next;
  scope = h.scope;
  position = let a = h.position in let b : length (all_kinds_at g s1 left) ≡ 0 = ap (λ x. length (all_kinds_at g s1 x)) q in omega (arith, a, b);
}

-- a call, behind its readings
pub call_walked : (loans : Loans) (g : Globals Kind) (ms : List Bool) (es : Expressions) (clear : ℕ) (s0 s1 s2 : State) → AllWalked loans g ms es s0 s1 clear
    → s2 ≡ record s1 { fault = option_or (reads_first s1.spent g.types s1.scope ms es clear) s1.fault }
    → Walked (Calling (all_flow loans g ms s0.next s0.scope es)) (all_next g.types s0.next es) (length (all_kinds_at g s0 es)) s0 s2
call_walked loans g ms es clear s0 s1 s2 w q = record {
  fault =
      λ called. ap (λ s. s.fault) q ∙ ap (λ l. option_or (reads_first l g.types s1.scope ms es clear) s1.fault) w.spent
      ∙ ap (λ s. option_or (reads_first (s0.spent ++ used (all_flow loans g ms s0.next s0.scope es)) g.types s ms es clear) s1.fault) w.scope
      ∙ sym (w.fault (s0.spent ++ used (all_flow loans g ms s0.next s0.scope es)));
  spent = ap (λ s. s.spent) q ∙ w.spent;
  next = ap (λ s. s.next) q ∙ w.next;
  scope = ap (λ s. s.scope) q ∙ w.scope;
  position = ap (λ s. s.position) q ∙ w.position;
}

-- the arguments of a build
pub plain_walked : (loans : Loans) (g : Globals Kind) (ms : List Bool) (es : Expressions) (clear : ℕ) (s0 s1 : State) → ms ≡ [] → AllWalked loans g ms es s0 s1 clear
    → Walked (all_flow loans g [] s0.next s0.scope es) (all_next g.types s0.next es) (length (all_kinds_at g s0 es)) s0 s1
plain_walked loans g ms es clear s0 s1 none w0 =
    let w : AllWalked loans g [] es s0 s1 clear = subst (λ l. AllWalked loans g l es s0 s1 clear) none w0 in
    record {
      fault = λ called. sym (w.fault called ∙ ap (λ o. option_or o s1.fault) (reads_nothing called g.types s0.scope es clear));
      spent = w.spent;
      next = w.next;
      scope = w.scope;
      position = w.position;
    }

-- ---- a loop over a list

pub left_expressions : {A : Type 0} (f : A → Expression) (xs : List A) (i j : ℕ) (x : A) → j ≡ i + 1 → i < length xs → x ≡ get_or xs i x
    → expressions (map f (drop i xs)) ≡ AndExpression (f x) (expressions (map f (drop j xs)))
left_expressions f [] i j x e h r = absurd (omega (arith, h))
left_expressions f (y ∷ xs) zero j x e h r = let q : j ≡ 1 = omega (arith, e) in ap (λ z. AndExpression (f z) (expressions (map f xs))) (sym r) ∙ ap (λ k. AndExpression (f x) (expressions (map f (drop k (y ∷ xs))))) (sym q)
left_expressions f (y ∷ xs) (suc i) zero x e h r = absurd (omega (arith, e))
left_expressions f (y ∷ xs) (suc i) (suc j) x e h r = left_expressions f xs i j x (omega (arith, e)) (omega (arith, h)) r

pub over_expressions : {A : Type 0} (f : A → Expression) (xs : List A) (i : ℕ) → length xs ≤ i → expressions (map f (drop i xs)) ≡ NoExpressions
over_expressions f [] zero h = refl
over_expressions f [] (suc i) h = refl
over_expressions f (x ∷ xs) zero h = absurd (omega (arith, h))
over_expressions f (x ∷ xs) (suc i) h = over_expressions f xs i (omega (arith, h))

pub left_arms : {A : Type 0} (f : A → Branch) (xs : List A) (i j : ℕ) (x : A) → j ≡ i + 1 → i < length xs → x ≡ get_or xs i x
    → arms (map f (drop i xs)) ≡ AndArm (f x).con (f x).fields (f x).cell (f x).body (arms (map f (drop j xs)))
left_arms f [] i j x e h r = absurd (omega (arith, h))
left_arms f (y ∷ xs) zero j x e h r =
    let q : j ≡ 1 = omega (arith, e) in
    ap (λ z. AndArm (f z).con (f z).fields (f z).cell (f z).body (arms (map f xs))) (sym r) ∙ ap (λ k. AndArm (f x).con (f x).fields (f x).cell (f x).body (arms (map f (drop k (y ∷ xs))))) (sym q)
left_arms f (y ∷ xs) (suc i) zero x e h r = absurd (omega (arith, e))
left_arms f (y ∷ xs) (suc i) (suc j) x e h r = left_arms f xs i j x (omega (arith, e)) (omega (arith, h)) r

pub over_arms : {A : Type 0} (f : A → Branch) (xs : List A) (i : ℕ) → length xs ≤ i → arms (map f (drop i xs)) ≡ NoArms
over_arms f [] zero h = refl
over_arms f [] (suc i) h = refl
over_arms f (x ∷ xs) zero h = absurd (omega (arith, h))
over_arms f (x ∷ xs) (suc i) h = over_arms f xs i (omega (arith, h))

-- ---- arms

pub front_of : (xs ys : List ℕ) (n : ℕ) → n ≡ length xs → take n (xs ++ ys) ≡ xs
front_of [] [] zero e = refl
front_of [] (y ∷ ys) zero e = refl
front_of [] ys (suc n) e = absurd (omega (arith, e))
front_of (x ∷ xs) ys zero e = absurd (omega (arith, e))
front_of (x ∷ xs) ys (suc n) e = ap (λ l. x ∷ l) (front_of xs ys n (omega (arith, e)))

pub back_of : {A : Type 0} (xs ys : List A) (n : ℕ) → n ≡ length xs → drop n (xs ++ ys) ≡ ys
back_of [] ys zero e = refl
back_of [] ys (suc n) e = absurd (omega (arith, e))
back_of (x ∷ xs) ys zero e = absurd (omega (arith, e))
back_of (x ∷ xs) ys (suc n) e = back_of xs ys n (omega (arith, e))

abbrev pub WalkedArm : Loans → Globals Kind → (lent : Bool) → Branch → State → State → Type 0
WalkedArm loans g lent a s0 s1 = Walked (arm_flow loans g lent s0.next s0.scope a) (arm_next g.types s0.next a) (length (arm_kinds_at g s0 a)) s0 s1

-- what is left of these arms, where the uses of the others are held
pub record ArmsLeft (loans : Loans) (g : Globals Kind) (lent : Bool) (ex : List Kind) (all left : Arms) (held : List ℕ) (s0 s1 : State) : Type 0 where
  pub fault : (called : List ℕ) → option_or s0.fault (first_of s0.spent called (arms_flow loans g lent s0.next s0.scope all))
      ≡ option_or s1.fault (first_of s1.spent called (arms_flow loans g lent s1.next s1.scope left))
  pub held_uses : used (arms_flow loans g lent s1.next s1.scope left) ++ held ≡ used (arms_flow loans g lent s0.next s0.scope all)
  pub spent : s1.spent ≡ s0.spent
  pub next : arms_next g.types s1.next left ≡ arms_next g.types s0.next all
  pub scope : s1.scope ≡ s0.scope
  pub position : s1.position + length (arms_kinds_at g s1 left) ≡ s0.position + length (arms_kinds_at g s0 all)
  pub kinds : AreAt ex s1.position (arms_kinds_at g s1 left)

pub arms_at : (loans : Loans) (g : Globals Kind) (lent : Bool) (ex : List Kind) (all left rest : Arms) (a : Branch) (held : List ℕ) (s0 s1 : State)
    → left ≡ AndArm a.con a.fields a.cell a.body rest
    → ArmsLeft loans g lent ex all left held s0 s1 → AreAt ex s1.position (arm_kinds_at g s1 a)
arms_at loans g lent ex all left rest a held s0 s1 q h =
    at_front ex s1.position (arm_kinds_at g s1 a) (arms_kinds_at g s1 rest) (subst (λ x. AreAt ex s1.position (arms_kinds_at g s1 x)) q h.kinds)

pub arms_step : (loans : Loans) (g : Globals Kind) (lent : Bool) (ex : List Kind) (all left rest : Arms) (a : Branch) (held held2 : List ℕ) (start : ℕ) (s0 s1 s2 s3 : State)
    → left ≡ AndArm a.con a.fields a.cell a.body rest
    → ArmsLeft loans g lent ex all left held s0 s1 → WalkedArm loans g lent a s1 s2 → start ≡ length s0.spent → s3 ≡ record s2 { spent = take start s2.spent } → held2 ≡ drop start s2.spent ++ held
    → ArmsLeft loans g lent ex all rest held2 s0 s3
arms_step loans g lent ex all left rest a held held2 start s0 s1 s2 s3 q h w st r d =
    let own = arm_flow loans g lent s1.next s1.scope a in
    let free = arm_next g.types s1.next a in
    let more : Flow = arms_flow loans g lent free s1.scope rest in
    let next : s3.next ≡ free = ap (λ s. s.next) r ∙ w.next in
    let scope : s3.scope ≡ s1.scope = ap (λ s. s.scope) r ∙ w.scope in
    let here : start ≡ length s1.spent = st ∙ ap length (sym h.spent) in
    let spent : s3.spent ≡ s1.spent = ap (λ s. s.spent) r ∙ ap (take start) w.spent ∙ front_of s1.spent (used own) start here in
    let off : drop start s2.spent ≡ used own = ap (drop start) w.spent ∙ back_of s1.spent (used own) start here in
    let same : arms_flow loans g lent s3.next s3.scope rest ≡ more = ap (λ n. arms_flow loans g lent n s3.scope rest) next ∙ ap (λ s. arms_flow loans g lent free s rest) scope in
    let kinds : arms_kinds_at g s3 rest ≡ arms_kinds_at g s1 rest = ap (λ s. arms_atoms known_kind g (kinds_in s) rest) scope in
    record {
      fault =
          λ called. h.fault called ∙ ap (λ x. option_or s1.fault (first_of s1.spent called (arms_flow loans g lent s1.next s1.scope x))) q
          ∙ sym (or_assoc s1.fault (first_of s1.spent called own) (first_of s1.spent called more)) ∙ ap (λ o. option_or o (first_of s1.spent called more)) (sym (ap (λ s. s.fault) r ∙ w.fault called))
          ∙ ap (λ l. option_or s3.fault (first_of l called more)) (sym spent) ∙ ap (λ x. option_or s3.fault (first_of s3.spent called x)) (sym same);
      held_uses =
          ap (λ x. used x ++ held2) same ∙ ap (λ l. used more ++ l) d ∙ ap (λ l. used more ++ (l ++ held)) off ∙ sym (append_assoc (used more) (used own) held)
          ∙ ap (λ x. used (arms_flow loans g lent s1.next s1.scope x) ++ held) (sym q) ∙ h.held_uses;
      spent = spent ∙ h.spent;
      next = ap (λ n. arms_next g.types n rest) next ∙ ap (arms_next g.types s1.next) (sym q) ∙ h.next;
      scope = scope ∙ h.scope;
      position =
          let e : s3.position ≡ s2.position = ap (λ s. s.position) r in
          let b = w.position in
          let c = h.position in
          let f : length (arms_kinds_at g s1 left) ≡ length (arm_kinds_at g s1 a ++ arms_kinds_at g s1 rest) = ap (λ x. length (arms_kinds_at g s1 x)) q in
          let k = length-append (arm_kinds_at g s1 a) (arms_kinds_at g s1 rest) in
          let l = ap length kinds in
          omega (arith, e, b, c, f, k, l);
      kinds =
          let moved : AreAt ex s2.position (arms_atoms known_kind g (kinds_in s2.scope) rest) =
          seq_at ex (λ s. arms_atoms known_kind g (kinds_in s) rest) own free (length (arm_kinds_at g s1 a)) (arm_kinds_at g s1 a) s1 s2 w refl (subst (λ x. AreAt ex s1.position (arms_kinds_at g s1 x)) q h.kinds) in
          subst (λ s. AreAt ex s.position (arms_atoms known_kind g (kinds_in s.scope) rest)) (sym r) moved;
    }
