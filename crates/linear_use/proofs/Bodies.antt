-- Laws of the walk through lets, branches and bodies of arms.
use Rattle.std.proofs.Common.{◌≡◌, ℕ, suc, ◌+◌, ◌-◌, Bool, false, List, [], ◌∷◌, ◌++◌, length, drop, take, Option, Some, None, refl, sym, ap, ◌∙◌, subst, arith, append_assoc, length-append, slice_get}
use Rattle.std.specs.Option.{option_or}
use Rattle.camelot_values.specs.Kinds.{DataType}
use Rattle.camelot_values.specs.declared.kinds.Kind.{Kind}
use Rattle.camelot_values.specs.declared.kinds.Kind.TheVariants as kind
use Rattle.camelot_tree.specs.declared.tree.Name.{Name}
use Rattle.camelot_tree.specs.declared.tree.ArmCell.{ArmCell}
use Rattle.camelot_tree.specs.declared.tree.ArmCell.TheVariants as cell
use Rattle.camelot_tree.specs.Tree.{Expression, Let, Branch}
use Rattle.camelot_typing.specs.Kinds.{Globals, Scope, bind, or_else, arm_scope, atom_of, atoms_of}
use Rattle.camelot_typing.specs.Typing.{known_kind}
use Rattle.linear_use.specs.Uses.{Loans, lends_field}
use Rattle.linear_use.specs.declared.variable.Variable.{Variable}
use Rattle.linear_use.specs.declared.state.State.{State}
use Rattle.linear_use.specs.Flow.{Flow, Either, used, kinds_in, con_fields, fields_count, number_fields, number_cell, cell_flow, arm_variables, arm_count, next_of, flow}
use Rattle.linear_use.specs.Walk.{first_of, AreAt, Walked, kinds_at, parts_kinds, arm_kinds_at}
use Rattle.linear_use.proofs.Flows.{nothing_behind}
use Rattle.linear_use.proofs.Fields.{inner_kinds}
use Rattle.linear_use.proofs.Walking.{last_kind, seq_at, seq_walked, walked_count, or_assoc}
use Rattle.linear_use.proofs.Climbing.{WalkedTerm, WalkedParts}
use Rattle.linear_use.proofs.Lists.{front_of, back_of, WalkedArm}

-- ---- a scope that is left

left_scope : (bs s t : Scope Variable) (n : ℕ) → n ≡ length s → t ≡ bs ++ s → drop (length t - n) t ≡ s
left_scope bs s t n e q =
    let k = length-append bs s in
    let l = ap length q in
    let m : length t - n ≡ length bs = omega (arith, e, k, l) in
    ap (λ i. drop i t) m ∙ ap (drop (length bs)) q ∙ back_of bs s (length bs) refl

pub scoped_walked : (f : Flow) (free count n : ℕ) (bs : Scope Variable) (s1 s2 s3 s4 : State) → s2.scope ≡ bs ++ s1.scope → s2.spent ≡ s1.spent → s2.fault ≡ s1.fault
    → s2.position ≡ s1.position → n ≡ length s1.scope
    → Walked f free count s2 s3 → s4 ≡ record s3 { scope = drop (length s3.scope - n) s3.scope } → Walked f free count s1 s4
scoped_walked f free count n bs s1 s2 s3 s4 sc sp fa po e w q = record {
  fault =
      λ called. ap (λ s. s.fault) q ∙ w.fault called ∙ ap (λ l. option_or s2.fault (first_of l called f)) sp ∙ ap (λ o. option_or o (first_of s1.spent called f)) fa;
  spent = ap (λ s. s.spent) q ∙ w.spent ∙ ap (λ l. l ++ used f) sp;
  next = ap (λ s. s.next) q ∙ w.next;
  scope = ap (λ s. s.scope) q ∙ left_scope bs s1.scope s3.scope n e (w.scope ∙ sc);
  position = let a : s4.position ≡ s3.position = ap (λ s. s.position) q in let b = w.position in omega (arith, a, b, po);
}

-- ---- lets

abbrev let_variable : Globals Kind → State → Expression → ℕ → Variable
let_variable g s0 e n = record { number = n; kind = atom_of known_kind g (kinds_in s0.scope) e; lent = false }

abbrev let_flow : Loans → Globals Kind → State → Name → Expression → Expression → ℕ → Scope Variable → Flow
let_flow loans g s0 n e b i s = flow loans g (suc i) (bind n.word (let_variable g s0 e i) s) b

-- the state after a local was bound
pub record Bound (g : Globals Kind) (n : Name) (e : Expression) (s0 s1 s2 : State) : Type 0 where
  pub scope : s2.scope ≡ bind n.word (let_variable g s0 e s1.next) s1.scope
  pub next : s2.next ≡ suc s1.next
  pub spent : s2.spent ≡ s1.spent
  pub position : s2.position ≡ s1.position
  pub fault : s2.fault ≡ s1.fault

pub let_bound : (loans : Loans) (g : Globals Kind) (ex : List Kind) (n : Name) (e b : Expression) (k : Kind) (s0 s1 s2 : State)
    → AreAt ex s0.position (parts_kinds g (kinds_in s0.scope) (Let n e b)) → WalkedTerm loans g e s0 s1
    → k ≡ or_else (slice_get ex (s1.position - 1)) kind.Int → s2.scope ≡ bind n.word (record { number = s1.next; kind = k; lent = false }) s1.scope → s2.next ≡ suc s1.next → s2.spent ≡ s1.spent → s2.position ≡ s1.position → s2.fault ≡ s1.fault
    → Bound g n e s0 s1 s2
let_bound loans g ex n e b k s0 s1 s2 a w kind sc ne sp po fa =
    let is : k ≡ atom_of known_kind g (kinds_in s0.scope) e =
    kind ∙ last_kind g ex (kinds_in s0.scope) e s0.position s1.position (atoms_of known_kind g (bind n.word (atom_of known_kind g (kinds_in s0.scope) e) (kinds_in s0.scope)) b) w.position a in
    record { scope = sc ∙ ap (λ q. bind n.word (record { number = s1.next; kind = q; lent = false }) s1.scope) is; next = ne; spent = sp; position = po; fault = fa }

pub let_at : (loans : Loans) (g : Globals Kind) (ex : List Kind) (n : Name) (e b : Expression) (s0 s1 s2 : State)
    → AreAt ex s0.position (parts_kinds g (kinds_in s0.scope) (Let n e b)) → WalkedTerm loans g e s0 s1 → Bound g n e s0 s1 s2
    → AreAt ex s2.position (kinds_at g s2 b)
let_at loans g ex n e b s0 s1 s2 a w h =
    let q = atom_of known_kind g (kinds_in s0.scope) e in
    let K : Scope Variable → List Kind = λ s. atoms_of known_kind g (bind n.word q (kinds_in s)) b in
    let there : AreAt ex s1.position (K s1.scope) = seq_at ex K (flow loans g s0.next s0.scope e) (next_of g.types s0.next e) (length (kinds_at g s0 e)) (kinds_at g s0 e) s0 s1 w refl a in
    subst (λ i. AreAt ex i (kinds_at g s2 b)) (sym h.position) (subst (λ s. AreAt ex s1.position (atoms_of known_kind g (kinds_in s) b)) (sym h.scope) there)

pub let_walked : (loans : Loans) (g : Globals Kind) (n : Name) (e b : Expression) (len : ℕ) (s0 s1 s2 s3 s4 : State) → WalkedTerm loans g e s0 s1 → len ≡ length s1.scope
    → Bound g n e s0 s1 s2 → WalkedTerm loans g b s2 s3
    → s4 ≡ record s3 { scope = drop (length s3.scope - len) s3.scope } → WalkedParts loans g (Let n e b) s0 s4
let_walked loans g n e b len s0 s1 s2 s3 s4 w l h v q =
    let k = atom_of known_kind g (kinds_in s0.scope) e in
    let K : Scope Variable → List Kind = λ s. atoms_of known_kind g (bind n.word k (kinds_in s)) b in
    let N : ℕ → ℕ = λ i. next_of g.types (suc i) b in
    let by_scope : Walked (flow loans g s2.next (bind n.word (let_variable g s0 e s1.next) s1.scope) b) (next_of g.types s2.next b) (length (K s1.scope)) s2 s3 =
    subst (λ s. Walked (flow loans g s2.next s b) (next_of g.types s2.next b) (length (atoms_of known_kind g (kinds_in s) b)) s2 s3) h.scope v in
    let inside : Walked (let_flow loans g s0 n e b s1.next s1.scope) (N s1.next) (length (K s1.scope)) s2 s3 =
    subst (λ i. Walked (flow loans g i (bind n.word (let_variable g s0 e s1.next) s1.scope) b) (next_of g.types i b) (length (K s1.scope)) s2 s3) h.next by_scope in
    let out = scoped_walked (let_flow loans g s0 n e b s1.next s1.scope) (N s1.next) (length (K s1.scope)) len (bind n.word (let_variable g s0 e s1.next) []) s1 s2 s3 s4 h.scope h.spent h.fault h.position l inside q in
    let both = seq_walked (let_flow loans g s0 n e b) N K (flow loans g s0.next s0.scope e) (next_of g.types s0.next e) (length (kinds_at g s0 e)) s0 s1 s4 w out in
    walked_count _ _ _ _ s0 s4 (sym (length-append (kinds_at g s0 e) (K s0.scope))) both

-- ---- branches

pub branches_at : (loans : Loans) (g : Globals Kind) (ex : List Kind) (a b : Expression) (s0 s1 : State) → AreAt ex s0.position (kinds_at g s0 a ++ kinds_at g s0 b)
    → WalkedTerm loans g a s0 s1
    → AreAt ex s1.position (kinds_at g s1 b)
branches_at loans g ex a b s0 s1 h w =
    seq_at ex (λ s. atoms_of known_kind g (kinds_in s) b) (flow loans g s0.next s0.scope a) (next_of g.types s0.next a) (length (kinds_at g s0 a)) (kinds_at g s0 a) s0 s1 w refl h

-- The state between two branches: what the first one spent is held.
pub branches_walked : (loans : Loans) (g : Globals Kind) (a b : Expression) (start : ℕ) (none held : List ℕ) (s0 s1 s2 s3 s4 : State) → WalkedTerm loans g a s0 s1
    → WalkedTerm loans g b s2 s3 → start ≡ length s0.spent
    → s2.spent ≡ take start s1.spent → held ≡ drop start s1.spent ++ none → none ≡ [] → s2.next ≡ s1.next → s2.scope ≡ s1.scope → s2.position ≡ s1.position → s2.fault ≡ s1.fault
    → s4.spent ≡ s3.spent ++ held → s4.next ≡ s3.next → s4.scope ≡ s3.scope → s4.position ≡ s3.position → s4.fault ≡ s3.fault
    → Walked (Either (flow loans g s0.next s0.scope a) (flow loans g (next_of g.types s0.next a) s0.scope b)) (next_of g.types (next_of g.types s0.next a) b) (length (kinds_at g s0 a ++ kinds_at g s0 b)) s0 s4
branches_walked loans g a b start nothing held s0 s1 s2 s3 s4 w v st sp d z ne sc po fa0 fs fn fc fp ff =
    let fa = flow loans g s0.next s0.scope a in
    let free = next_of g.types s0.next a in
    let fb : Flow = flow loans g free s0.scope b in
    let spent : s2.spent ≡ s0.spent = sp ∙ ap (take start) w.spent ∙ front_of s0.spent (used fa) start st in
    let next : s2.next ≡ free = ne ∙ w.next in
    let scope : s2.scope ≡ s0.scope = sc ∙ w.scope in
    let same : flow loans g s2.next s2.scope b ≡ fb = ap (λ i. flow loans g i s2.scope b) next ∙ ap (λ s. flow loans g free s b) scope in
    let off : held ≡ used fa = d ∙ ap (λ l. drop start s1.spent ++ l) z ∙ nothing_behind (drop start s1.spent) ∙ ap (drop start) w.spent ∙ back_of s0.spent (used fa) start st in
    record {
      fault =
          λ called. ff ∙ v.fault called ∙ ap (λ x. option_or s2.fault (first_of s2.spent called x)) same ∙ ap (λ l. option_or s2.fault (first_of l called fb)) spent
          ∙ ap (λ o. option_or o (first_of s0.spent called fb)) (fa0 ∙ w.fault called) ∙ or_assoc s0.fault (first_of s0.spent called fa) (first_of s0.spent called fb);
      spent =
          fs ∙ ap (λ l. l ++ held) v.spent ∙ ap (λ l. (l ++ used (flow loans g s2.next s2.scope b)) ++ held) spent ∙ ap (λ f. (s0.spent ++ used f) ++ held) same
          ∙ ap (λ l. (s0.spent ++ used fb) ++ l) off ∙ append_assoc s0.spent (used fb) (used fa);
      next = fn ∙ v.next ∙ ap (λ i. next_of g.types i b) next;
      scope = fc ∙ v.scope ∙ scope;
      position =
          let i = w.position in
          let j = v.position in
          let k : length (kinds_at g s2 b) ≡ length (kinds_at g s0 b) = ap (λ s. length (atoms_of known_kind g (kinds_in s) b)) scope in
          let l = length-append (kinds_at g s0 a) (kinds_at g s0 b) in
          omega (arith, fp, po, i, j, k, l);
    }

-- ---- arms

fields_in_front : (lends : Kind → Bool) (next : ℕ) (fs : List (Option Name)) (ks : List Kind) (s : Scope Variable) → (bs : Scope Variable) × (number_fields lends next fs ks s ≡ bs ++ s)
fields_in_front lends next [] ks s = ([], refl)
fields_in_front lends next (None ∷ fs) [] s = ([], refl)
fields_in_front lends next (Some n ∷ fs) [] s = ([], refl)
fields_in_front lends next (None ∷ fs) (k ∷ ks) s = fields_in_front lends next fs ks s
fields_in_front lends next (Some n ∷ fs) (k ∷ ks) s =
    let v : Variable = record { number = next; kind = k; lent = lends k } in
    let r = fields_in_front lends (suc next) fs ks (bind n.word v s) in
    (r.0 ++ bind n.word v [], r.1 ∙ sym (append_assoc r.0 (bind n.word v []) s))

cell_in_front : (lends : Kind → Bool) (last : ℕ) (x : ArmCell) (s : Scope Variable) → (bs : Scope Variable) × (number_cell lends last x s ≡ bs ++ s)
cell_in_front lends last cell.Plain s = ([], refl)
cell_in_front lends last cell.Free s = ([], refl)
cell_in_front lends last (cell.Keep n) s = (bind n.word (record { number = last; kind = kind.Dia; lent = lends kind.Dia }) [], refl)

arm_in_front : (types : List DataType) (lent : Bool) (next : ℕ) (a : Branch) (s : Scope Variable)
    → (bs : Scope Variable) × (arm_variables types lent next a.con a.fields a.cell s ≡ bs ++ s)
arm_in_front types lent next a s =
    let lends = lends_field types lent a.con in
    let f = fields_in_front lends next a.fields (con_fields types a.con) s in
    let c = cell_in_front lends (next + fields_count a.fields (con_fields types a.con)) a.cell (number_fields lends next a.fields (con_fields types a.con) s) in
    (c.0 ++ f.0, c.1 ∙ ap (λ l. c.0 ++ l) f.1 ∙ sym (append_assoc c.0 f.0 s))

-- the state after an arm's variables were bound
pub record ArmBound (g : Globals Kind) (lent : Bool) (a : Branch) (s0 s1 : State) : Type 0 where
  pub scope : s1.scope ≡ arm_variables g.types lent s0.next a.con a.fields a.cell s0.scope
  pub next : s1.next ≡ s0.next + arm_count g.types a.con a.fields a.cell
  pub spent : s1.spent ≡ s0.spent
  pub position : s1.position ≡ s0.position
  pub fault : s1.fault ≡ s0.fault

arm_kinds : (g : Globals Kind) (lent : Bool) (a : Branch) (s0 s1 : State) → ArmBound g lent a s0 s1
    → kinds_in s1.scope ≡ arm_scope known_kind g.types a.con a.fields a.cell (kinds_in s0.scope)
arm_kinds g lent a s0 s1 h =
    ap kinds_in h.scope ∙ inner_kinds (lends_field g.types lent a.con) s0.next (s0.next + fields_count a.fields (con_fields g.types a.con)) a.fields (con_fields g.types a.con) a.cell s0.scope

abbrev body_kinds : Globals Kind → Branch → Scope Variable → List Kind
body_kinds g a s = atoms_of known_kind g (arm_scope known_kind g.types a.con a.fields a.cell (kinds_in s)) a.body

abbrev body_flow : Loans → Globals Kind → (lent : Bool) → Branch → ℕ → Scope Variable → Flow
body_flow loans g lent a n s = flow loans g (n + arm_count g.types a.con a.fields a.cell) (arm_variables g.types lent n a.con a.fields a.cell s) a.body

abbrev body_next : Globals Kind → Branch → ℕ → ℕ
body_next g a n = next_of g.types (n + arm_count g.types a.con a.fields a.cell) a.body

pub arm_at : (g : Globals Kind) (ex : List Kind) (lent : Bool) (a : Branch) (s0 s1 s2 : State) → AreAt ex s0.position (arm_kinds_at g s0 a)
    → Walked (cell_flow g.types lent a.con a.cell) s0.next 0 s0 s1 → ArmBound g lent a s1 s2
    → AreAt ex s2.position (kinds_at g s2 a.body)
arm_at g ex lent a s0 s1 s2 h w b =
    let there : AreAt ex s1.position (body_kinds g a s1.scope) = seq_at ex (body_kinds g a) (cell_flow g.types lent a.con a.cell) s0.next 0 [] s0 s1 w refl h in
    subst (λ i. AreAt ex i (kinds_at g s2 a.body)) (sym b.position) (subst (λ k. AreAt ex s1.position (atoms_of known_kind g k a.body)) (sym (arm_kinds g lent a s1 s2 b)) there)

pub arm_walked : (loans : Loans) (g : Globals Kind) (lent : Bool) (a : Branch) (len : ℕ) (s0 s1 s2 s3 s4 : State) → Walked (cell_flow g.types lent a.con a.cell) s0.next 0 s0 s1
    → len ≡ length s1.scope → ArmBound g lent a s1 s2 → WalkedTerm loans g a.body s2 s3
    → s4 ≡ record s3 { scope = drop (length s3.scope - len) s3.scope } → WalkedArm loans g lent a s0 s4
arm_walked loans g lent a len s0 s1 s2 s3 s4 n l h w q =
    let front = arm_in_front g.types lent s1.next a s1.scope in
    let cell = cell_flow g.types lent a.con a.cell in
    let same : flow loans g s2.next s2.scope a.body ≡ body_flow loans g lent a s1.next s1.scope =
    ap (λ i. flow loans g i s2.scope a.body) h.next ∙ ap (λ s. flow loans g (s1.next + arm_count g.types a.con a.fields a.cell) s a.body) h.scope in
    let count : length (kinds_at g s2 a.body) ≡ length (body_kinds g a s1.scope) = ap (λ k. length (atoms_of known_kind g k a.body)) (arm_kinds g lent a s1 s2 h) in
    let inside : Walked (body_flow loans g lent a s1.next s1.scope) (body_next g a s1.next) (length (body_kinds g a s1.scope)) s2 s3 =
    walked_count _ _ _ _ s2 s3 count
    (subst (λ n. Walked (body_flow loans g lent a s1.next s1.scope) (next_of g.types n a.body) (length (kinds_at g s2 a.body)) s2 s3) h.next
    (subst (λ f. Walked f (next_of g.types s2.next a.body) (length (kinds_at g s2 a.body)) s2 s3) same w)) in
    let out = scoped_walked (body_flow loans g lent a s1.next s1.scope) (body_next g a s1.next) (length (body_kinds g a s1.scope)) len front.0 s1 s2 s3 s4 (h.scope ∙ front.1) h.spent h.fault h.position l inside q in
    walked_count _ _ _ _ s0 s4 (let k : 0 + length (body_kinds g a s0.scope) ≡ length (body_kinds g a s0.scope) = omega arith in k)
    (seq_walked (body_flow loans g lent a) (body_next g a) (body_kinds g a) cell s0.next 0 s0 s1 s4 n out)
