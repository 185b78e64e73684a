-- Along the left end of an expression: its parents, from the innermost outwards.
use Rattle.std.proofs.Common.{◌≡◌, ℕ, ◌≤◌, List, [], ◌∷◌, ◌++◌, map, length, refl, sym, ap, ◌∙◌, subst, arith}
use Rattle.camelot_tree.specs.Tree.{Expression, Num, Truth, Var, Prim, If, Let, Match, Build, Call, Source}
use Rattle.camelot_tree.specs.Spine.{spine_of, leaf_of}
use Rattle.camelot_typing.specs.Kinds.{Scope}
use Rattle.normal_form.specs.Normal.{made, ends}
use Rattle.normal_form.specs.Parts.{Piece, value_piece, first_part}

-- an operator or a conditional
abbrev pub IsParent : Expression → Type 0
IsParent (Prim op a b l) = Unit {0}
IsParent (If c a b l) = Unit {0}
IsParent e = ⊥

-- from an expression along first parts: these parents, and then this part
abbrev pub IsChain : List Expression → Expression → Expression → Type 0
IsChain [] d e = d ≡ e
IsChain (p ∷ ps) d e = (p ≡ e) × IsParent p × IsChain ps d (first_part p)

pub chain_spine : (e : Expression) → IsChain (spine_of e) (leaf_of e) e
chain_spine (Num z l) = refl
chain_spine (Truth b l) = refl
chain_spine (Var n) = refl
chain_spine (Prim op a b l) = (refl, tt, chain_spine a)
chain_spine (If c a b l) = (refl, tt, chain_spine c)
chain_spine (Let n e b) = refl
chain_spine (Match e as' l) = refl
chain_spine (Build c es d) = refl
chain_spine (Call f es) = refl

pub record Popped (ps : List Expression) (p d e : Expression) : Type 0 where
  pub chain : IsChain ps p e
  pub part : first_part p ≡ d

pub chain_popped : (ps : List Expression) (p d e : Expression) → IsChain (ps ++ p ∷ []) d e → Popped ps p d e
chain_popped [] p d e h = record { chain = h.0; part = sym h.2 }
chain_popped (q ∷ ps) p d e h = let r = chain_popped ps p d (first_part q) h.2 in record { chain = (h.0, h.1, r.chain); part = r.part }

first_made : (p : Source) (e : Expression) → IsParent e → made p (first_part e) ≤ made p e
first_made p (Num z l) h = absurd h
first_made p (Truth b l) h = absurd h
first_made p (Var n) h = absurd h
first_made p (Prim op a b l) h = omega arith
first_made p (If c a b l) h = omega arith
first_made p (Let n e b) h = absurd h
first_made p (Match e as' l) h = absurd h
first_made p (Build c es d) h = absurd h
first_made p (Call f es) h = absurd h

first_ends : (p : Source) (e : Expression) → IsParent e → ends p (first_part e) ≤ ends p e
first_ends p (Num z l) h = absurd h
first_ends p (Truth b l) h = absurd h
first_ends p (Var n) h = absurd h
first_ends p (Prim op a b l) h = omega arith
first_ends p (If c a b l) h = omega arith
first_ends p (Let n e b) h = absurd h
first_ends p (Match e as' l) h = absurd h
first_ends p (Build c es d) h = absurd h
first_ends p (Call f es) h = absurd h

-- a part needs no more than the whole
pub chain_made : (p : Source) (ps : List Expression) (d e : Expression) → IsChain ps d e → made p d ≤ made p e
chain_made p [] d e h = let same = ap (made p) h in omega (arith, same)
chain_made p (q ∷ ps) d e h =
    let rest = chain_made p ps d (first_part q) h.2 in
    let own = first_made p q h.1 in
    let same = ap (made p) h.0 in
    omega (arith, rest, own, same)

pub chain_ends : (p : Source) (ps : List Expression) (d e : Expression) → IsChain ps d e → ends p d ≤ ends p e
chain_ends p [] d e h = let same = ap (ends p) h in omega (arith, same)
chain_ends p (q ∷ ps) d e h =
    let rest = chain_ends p ps d (first_part q) h.2 in
    let own = first_ends p q h.1 in
    let same = ap (ends p) h.0 in
    omega (arith, rest, own, same)

-- ---- the loop

-- the part stands for one along the left end, and these parents are left
pub record Climbed (p : Source) (s : Scope ℕ) (next number : ℕ) (e : Expression) (ps : List Expression) (part : Piece) : Type 0 where
  pub done : Expression
  pub chain : IsChain ps done e
  pub is : part ≡ value_piece p s next number done

pub climb_begun : (p : Source) (s : Scope ℕ) (next number : ℕ) (e leaf : Expression) (ps : List Expression) (part : Piece) → ps ≡ spine_of e
    → leaf ≡ leaf_of e → part ≡ value_piece p s next number leaf → Climbed p s next number e ps part
climb_begun p s next number e leaf ps part h k is = record {
  done = leaf;
  chain = subst (λ x. IsChain x leaf e) (sym h) (subst (λ x. IsChain (spine_of e) x e) (sym k) (chain_spine e));
  is = is;
}

pub map_last : {A : Type 0} (f : A → Expression) (xs : List A) (x : A) → map f (xs ++ x ∷ []) ≡ map f xs ++ f x ∷ []
map_last f [] x = refl
map_last f (y ∷ xs) x = ap (λ l. f y ∷ l) (map_last f xs x)

-- the next parent: what was done is its first part, and it needs no more than the whole
pub record Parent (p : Source) (s : Scope ℕ) (next number : ℕ) (e : Expression) (ps : List Expression) (parent : Expression) (part : Piece) : Type 0 where
  pub chain : IsChain ps parent e
  pub first : part ≡ value_piece p s next number (first_part parent)
  pub locals : made p parent ≤ made p e
  pub ended : ends p parent ≤ ends p e

pub next_parent : {A : Type 0} (f : A → Expression) (p : Source) (s : Scope ℕ) (next number : ℕ) (e : Expression) (before after : List A) (x : A) (part : Piece) → before ≡ after ++ x ∷ [] → Climbed p s next number e (map f before) part
    → Parent p s next number e (map f after) (f x) part
next_parent f p s next number e before after x part h c =
    let r = chain_popped (map f after) (f x) c.done e (subst (λ l. IsChain l c.done e) (ap (map f) h ∙ map_last f after x) c.chain) in
    record {
      chain = r.chain;
      first = c.is ∙ ap (value_piece p s next number) (sym r.part);
      locals = chain_made p (map f after) (f x) e r.chain;
      ended = chain_ends p (map f after) (f x) e r.chain;
    }

pub climbed_on : (p : Source) (s : Scope ℕ) (next number : ℕ) (e parent : Expression) (ps : List Expression) (part last : Piece)
    → Parent p s next number e ps parent part → last ≡ value_piece p s next number parent → Climbed p s next number e ps last
climbed_on p s next number e parent ps part last h is = record { done = parent; chain = h.chain; is = is }

pub climbed_up : {A : Type 0} (f : A → Expression) (p : Source) (s : Scope ℕ) (next number : ℕ) (e : Expression) (items : List A) (part : Piece)
    → length items ≡ 0 → Climbed p s next number e (map f items) part → part ≡ value_piece p s next number e
climbed_up f p s next number e [] part none c = c.is ∙ ap (value_piece p s next number) c.chain
climbed_up f p s next number e (x ∷ items) part none c = absurd (omega (arith, none))

-- the leaf needs no more than the whole
pub record LeafFits (p : Source) (leaf e : Expression) : Type 0 where
  pub locals : made p leaf ≤ made p e
  pub ended : ends p leaf ≤ ends p e

pub leaf_fits : (p : Source) (leaf e : Expression) → leaf ≡ leaf_of e → LeafFits p leaf e
leaf_fits p leaf e h =
    let locals = chain_made p (spine_of e) (leaf_of e) e (chain_spine e) in
    let ended = chain_ends p (spine_of e) (leaf_of e) e (chain_spine e) in
    let a = ap (made p) h in
    let b = ap (ends p) h in
    record { locals = omega (arith, locals, a); ended = omega (arith, ended, b) }
