-- Laws of the walk along a left end.
use Rattle.std.proofs.Common.{◌≡◌, ℕ, ◌+◌, ◌≤◌, ◌<◌, List, [], ◌∷◌, ◌++◌, map, length, refl, sym, ap, ◌∙◌, subst, arith, length-append}
use Rattle.camelot_values.specs.declared.kinds.Kind.{Kind}
use Rattle.camelot_tree.specs.Tree.{Expression, Num, Truth, Var, Prim, If, Let, Match, Build, Call}
use Rattle.camelot_tree.specs.Spine.{spine_of, leaf_of, size}
use Rattle.camelot_tree.specs.SpineLaws.{NoLarger, spine_no_larger, no_larger_front, no_larger_last}
use Rattle.camelot_typing.specs.Kinds.{Globals, Scope, atom_of, atoms_of}
use Rattle.camelot_typing.specs.Typing.{known_kind}
use Rattle.linear_use.specs.Uses.{Loans}
use Rattle.linear_use.specs.declared.variable.Variable.{Variable}
use Rattle.linear_use.specs.declared.state.State.{State}
use Rattle.linear_use.specs.Flow.{After, kinds_in, next_of, flow}
use Rattle.linear_use.specs.Walk.{AreAt, Walked, kinds_at, parts_kinds, first_part, rest_flow, rest_next, rest_kinds}
use Rattle.linear_use.proofs.Walking.{at_front, end_within, kinds_split, seq_at, seq_walked, walked_count, finished}

-- an operator or a conditional
abbrev pub IsParent : Expression → Type 0
IsParent (Prim op a b l) = Unit {0}
IsParent (If c a b l) = Unit {0}
IsParent e = ⊥

-- from an expression along first parts: these parents, and then this part
abbrev pub IsChain : List Expression → Expression → Expression → Type 0
IsChain [] d e = d ≡ e
IsChain (p ∷ ps) d e = (p ≡ e) × IsParent p × IsChain ps d (first_part p)

chain_spine : (e : Expression) → IsChain (spine_of e) (leaf_of e) e
chain_spine (Num z l) = refl
chain_spine (Truth b l) = refl
chain_spine (Var n) = refl
chain_spine (Prim op a b l) = (refl, tt, chain_spine a)
chain_spine (If c a b l) = (refl, tt, chain_spine c)
chain_spine (Let n e b) = refl
chain_spine (Match e as' l) = refl
chain_spine (Build c es d) = refl
chain_spine (Call f es) = refl

pub record Popped (ps : List Expression) (p d e : Expression) : Type 0 where
  pub chain : IsChain ps p e
  pub parent : IsParent p
  pub part : first_part p ≡ d

chain_popped : (ps : List Expression) (p d e : Expression) → IsChain (ps ++ p ∷ []) d e → Popped ps p d e
chain_popped [] p d e h = record { chain = h.0; parent = h.1; part = sym h.2 }
chain_popped (q ∷ ps) p d e h = let r = chain_popped ps p d (first_part q) h.2 in record { chain = (h.0, h.1, r.chain); parent = r.parent; part = r.part }

parent_kinds : (g : Globals Kind) (s : Scope Kind) (p : Expression) → IsParent p
    → atoms_of known_kind g s p ≡ atoms_of known_kind g s (first_part p) ++ rest_kinds g s p
parent_kinds g s (Num z l) h = absurd h
parent_kinds g s (Truth b l) h = absurd h
parent_kinds g s (Var n) h = absurd h
parent_kinds g s (Prim op a b l) h = refl
parent_kinds g s (If c a b l) h = refl
parent_kinds g s (Let n e b) h = absurd h
parent_kinds g s (Match e as' l) h = absurd h
parent_kinds g s (Build c es d) h = absurd h
parent_kinds g s (Call f es) h = absurd h

parent_flow : (loans : Loans) (g : Globals Kind) (next : ℕ) (s : Scope Variable) (p : Expression) → IsParent p
    → flow loans g next s p ≡ After (flow loans g next s (first_part p)) (rest_flow loans g (next_of g.types next (first_part p)) s p)
parent_flow loans g next s (Num z l) h = absurd h
parent_flow loans g next s (Truth b l) h = absurd h
parent_flow loans g next s (Var n) h = absurd h
parent_flow loans g next s (Prim op a b l) h = refl
parent_flow loans g next s (If c a b l) h = refl
parent_flow loans g next s (Let n e b) h = absurd h
parent_flow loans g next s (Match e as' l) h = absurd h
parent_flow loans g next s (Build c es d) h = absurd h
parent_flow loans g next s (Call f es) h = absurd h

parent_next : (g : Globals Kind) (next : ℕ) (p : Expression) → IsParent p → next_of g.types next p ≡ rest_next g.types (next_of g.types next (first_part p)) p
parent_next g next (Num z l) h = absurd h
parent_next g next (Truth b l) h = absurd h
parent_next g next (Var n) h = absurd h
parent_next g next (Prim op a b l) h = refl
parent_next g next (If c a b l) h = refl
parent_next g next (Let n e b) h = absurd h
parent_next g next (Match e as' l) h = absurd h
parent_next g next (Build c es d) h = absurd h
parent_next g next (Call f es) h = absurd h

chain_at : (g : Globals Kind) (s : Scope Kind) (ex : List Kind) (place : ℕ) (ps : List Expression) (d e : Expression) → IsChain ps d e
    → AreAt ex place (atoms_of known_kind g s e)
    → AreAt ex place (atoms_of known_kind g s d)
chain_at g s ex place [] d e h a = subst (λ x. AreAt ex place (atoms_of known_kind g s x)) (sym h) a
chain_at g s ex place (p ∷ ps) d e h a =
    let own : AreAt ex place (atoms_of known_kind g s p) = subst (λ x. AreAt ex place (atoms_of known_kind g s x)) (sym h.0) a in
    chain_at g s ex place ps d (first_part p) h.2 (at_front ex place (atoms_of known_kind g s (first_part p)) (rest_kinds g s p) (subst (AreAt ex place) (parent_kinds g s p h.1) own))

-- ---- the loop

abbrev pub WalkedTerm : Loans → Globals Kind → Expression → State → State → Type 0
WalkedTerm loans g e s0 s1 = Walked (flow loans g s0.next s0.scope e) (next_of g.types s0.next e) (length (kinds_at g s0 e)) s0 s1

abbrev pub WalkedParts : Loans → Globals Kind → Expression → State → State → Type 0
WalkedParts loans g e s0 s1 = Walked (flow loans g s0.next s0.scope e) (next_of g.types s0.next e) (length (parts_kinds g (kinds_in s0.scope) e)) s0 s1

abbrev pub WalkedRest : Loans → Globals Kind → Expression → State → State → Type 0
WalkedRest loans g p s0 s1 = Walked (rest_flow loans g s0.next s0.scope p) (rest_next g.types s0.next p) (length (rest_kinds g (kinds_in s0.scope) p)) s0 s1

-- the walk has come up to a part of the expression, and these parents are left
pub record Climbed (loans : Loans) (g : Globals Kind) (e : Expression) (ps : List Expression) (s0 s1 : State) : Type 0 where
  pub done : Expression
  pub chain : IsChain ps done e
  pub walked : WalkedTerm loans g done s0 s1
  pub few : NoLarger (size e) ps

pub expression_finished : (loans : Loans) (g : Globals Kind) (e : Expression) (s0 s1 s2 : State) → WalkedParts loans g e s0 s1 → s2 ≡ record s1 { position = s1.position + 1 } → WalkedTerm loans g e s0 s2
expression_finished loans g e s0 s1 s2 w q =
    let k = ap length (kinds_split g (kinds_in s0.scope) e) in
    let l = length-append (parts_kinds g (kinds_in s0.scope) e) (atom_of known_kind g (kinds_in s0.scope) e ∷ []) in
    finished (flow loans g s0.next s0.scope e) (next_of g.types s0.next e) (length (parts_kinds g (kinds_in s0.scope) e)) (length (kinds_at g s0 e)) s0 s1 s2 w q (omega (arith, k, l))

pub climb_begun : (loans : Loans) (g : Globals Kind) (e leaf : Expression) (ps : List Expression) (s0 s1 s2 : State) → ps ≡ spine_of e → leaf ≡ leaf_of e
    → WalkedParts loans g leaf s0 s1
    → s2 ≡ record s1 { position = s1.position + 1 } → Climbed loans g e ps s0 s2
climb_begun loans g e leaf ps s0 s1 s2 h k w q = record {
  done = leaf;
  chain = subst (λ x. IsChain x leaf e) (sym h) (subst (λ x. IsChain (spine_of e) x e) (sym k) (chain_spine e));
  walked = expression_finished loans g leaf s0 s1 s2 w q;
  few = subst (NoLarger (size e)) (sym h) (spine_no_larger e);
}

pub leaf_at : (g : Globals Kind) (s : Scope Kind) (ex : List Kind) (place : ℕ) (e leaf : Expression) → leaf ≡ leaf_of e
    → AreAt ex place (atoms_of known_kind g s e) → AreAt ex place (parts_kinds g s leaf)
leaf_at g s ex place e leaf h a =
    let own : AreAt ex place (atoms_of known_kind g s (leaf_of e)) = chain_at g s ex place (spine_of e) (leaf_of e) e (chain_spine e) a in
    let is : AreAt ex place (atoms_of known_kind g s leaf) = subst (λ x. AreAt ex place (atoms_of known_kind g s x)) (sym h) own in
    at_front ex place (parts_kinds g s leaf) (atom_of known_kind g s leaf ∷ []) (subst (AreAt ex place) (kinds_split g s leaf) is)

-- the place of the leaf's own kind
pub leaf_end : (loans : Loans) (g : Globals Kind) (ex : List Kind) (e leaf : Expression) (s0 s1 : State) → leaf ≡ leaf_of e → AreAt ex s0.position (kinds_at g s0 e)
    → WalkedParts loans g leaf s0 s1 → s1.position < length ex
leaf_end loans g ex e leaf s0 s1 h a w =
    let s = kinds_in s0.scope in
    let own : AreAt ex s0.position (atoms_of known_kind g s (leaf_of e)) = chain_at g s ex s0.position (spine_of e) (leaf_of e) e (chain_spine e) a in
    let is : AreAt ex s0.position (atoms_of known_kind g s leaf) = subst (λ x. AreAt ex s0.position (atoms_of known_kind g s x)) (sym h) own in
    end_within ex s0.position s1.position (parts_kinds g s leaf) (atom_of known_kind g s leaf) w.position (subst (AreAt ex s0.position) (kinds_split g s leaf) is)

map_last : {A : Type 0} (f : A → Expression) (xs : List A) (x : A) → map f (xs ++ x ∷ []) ≡ map f xs ++ f x ∷ []
map_last f [] x = refl
map_last f (y ∷ xs) x = ap (λ l. f y ∷ l) (map_last f xs x)

climb_popped : {A : Type 0} (f : A → Expression) (loans : Loans) (g : Globals Kind) (e : Expression) (before after : List A) (p : A) (s0 s1 : State)
    → before ≡ after ++ p ∷ [] → (c : Climbed loans g e (map f before) s0 s1)
    → Popped (map f after) (f p) c.done e
climb_popped f loans g e before after p s0 s1 h c = chain_popped (map f after) (f p) c.done e (subst (λ l. IsChain l c.done e) (ap (map f) h ∙ map_last f after p) c.chain)

pub climb_smaller : {A : Type 0} (f : A → Expression) (loans : Loans) (g : Globals Kind) (e : Expression) (before after : List A) (p : A) (s0 s1 : State)
    → before ≡ after ++ p ∷ [] → Climbed loans g e (map f before) s0 s1
    → size (f p) ≤ size e
climb_smaller f loans g e before after p s0 s1 h c = no_larger_last (size e) (map f after) (f p) (subst (NoLarger (size e)) (ap (map f) h ∙ map_last f after p) c.few)

pub climb_at : {A : Type 0} (f : A → Expression) (loans : Loans) (g : Globals Kind) (e : Expression) (before after : List A) (p : A) (s0 s1 : State) (ex : List Kind)
    → before ≡ after ++ p ∷ []
    → Climbed loans g e (map f before) s0 s1 → AreAt ex s0.position (kinds_at g s0 e) → AreAt ex s1.position (rest_kinds g (kinds_in s1.scope) (f p))
climb_at f loans g e before after p s0 s1 ex h c a =
    let q = climb_popped f loans g e before after p s0 s1 h c in
    let own : AreAt ex s0.position (kinds_at g s0 (f p)) = chain_at g (kinds_in s0.scope) ex s0.position (map f after) (f p) e q.chain a in
    let split : AreAt ex s0.position (kinds_at g s0 (first_part (f p)) ++ rest_kinds g (kinds_in s0.scope) (f p)) = subst (AreAt ex s0.position) (parent_kinds g (kinds_in s0.scope) (f p) q.parent) own in
    seq_at ex (λ s. rest_kinds g (kinds_in s) (f p)) (flow loans g s0.next s0.scope c.done) (next_of g.types s0.next c.done) (length (kinds_at g s0 c.done)) (kinds_at g s0 (first_part (f p))) s0 s1 c.walked
    (ap (λ x. length (kinds_at g s0 x)) (sym q.part)) split

pub climbed_on : {A : Type 0} (f : A → Expression) (loans : Loans) (g : Globals Kind) (e : Expression) (before after : List A) (p : A) (s0 s1 s2 : State)
    → before ≡ after ++ p ∷ [] → Climbed loans g e (map f before) s0 s1
    → WalkedRest loans g (f p) s1 s2 → Climbed loans g e (map f after) s0 s2
climbed_on f loans g e before after p s0 s1 s2 h c w =
    let q = climb_popped f loans g e before after p s0 s1 h c in
    let part = first_part (f p) in
    let walked : WalkedTerm loans g part s0 s1 = subst (λ x. WalkedTerm loans g x s0 s1) (sym q.part) c.walked in
    let both =
    seq_walked (λ n s. rest_flow loans g n s (f p)) (λ n. rest_next g.types n (f p)) (λ s. rest_kinds g (kinds_in s) (f p)) (flow loans g s0.next s0.scope part) (next_of g.types s0.next part) (length (kinds_at g s0 part)) s0 s1 s2 walked w in
    let count : length (kinds_at g s0 part) + length (rest_kinds g (kinds_in s0.scope) (f p)) ≡ length (kinds_at g s0 (f p)) =
    sym (ap length (parent_kinds g (kinds_in s0.scope) (f p) q.parent) ∙ length-append (kinds_at g s0 part) (rest_kinds g (kinds_in s0.scope) (f p))) in
    record {
      done = f p;
      chain = q.chain;
      walked =
          subst (λ x. Walked x (next_of g.types s0.next (f p)) (length (kinds_at g s0 (f p))) s0 s2) (sym (parent_flow loans g s0.next s0.scope (f p) q.parent))
          (subst (λ x. Walked (After (flow loans g s0.next s0.scope part) (rest_flow loans g (next_of g.types s0.next part) s0.scope (f p))) x (length (kinds_at g s0 (f p))) s0 s2) (sym (parent_next g s0.next (f p) q.parent))
          (walked_count (After (flow loans g s0.next s0.scope part) (rest_flow loans g (next_of g.types s0.next part) s0.scope (f p))) (rest_next g.types (next_of g.types s0.next part) (f p)) _ _ s0 s2 count both));
      few = no_larger_front (size e) (map f after) (f p) (subst (NoLarger (size e)) (ap (map f) h ∙ map_last f after p) c.few);
    }
