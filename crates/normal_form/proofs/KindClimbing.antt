-- The kinds of locals along the left end of an expression, and those of arms.
use Rattle.std.proofs.Common.{◌≡◌, ℕ, ◌-◌, Bool, true, false, if◌then◌else◌, List, [], ◌∷◌, ◌++◌, map, length, drop, Option, Some, None, refl, sym, ap, ◌∙◌, subst, arith, append-nil, length-append}
use Rattle.std.specs.Option.{unwrap_or}
use Rattle.camelot_values.specs.declared.kinds.Kind.{Kind}
use Rattle.camelot_values.specs.declared.kinds.Kind.TheVariants as kind
use Rattle.camelot_tree.specs.declared.tree.Name.{Name}
use Rattle.camelot_tree.specs.declared.tree.ArmCell.{ArmCell}
use Rattle.camelot_tree.specs.declared.tree.ArmCell.TheVariants as cell
use Rattle.camelot_tree.specs.Tree.{Expression, Build, Expressions, Arms, NoArms, AndArm, Branch, Source}
use Rattle.camelot_tree.specs.Spine.{spine_of, leaf_of}
use Rattle.camelot_tree.specs.Meaning.{constructor_number, is_that}
use Rattle.camelot_typing.specs.Kinds.{Scope, bind, bind_fields, bind_cell, arm_scope, types_of, or_else, built_kind}
use Rattle.camelot_typing.specs.NumberLaws.{number_same}
use Rattle.camelot_typing.specs.Typing.{Signature, known_kind}
use Rattle.normal_form.specs.Normal.{arm_for, cons_of, all_of, of_first, bound_kinds, kind_in, arm_kind, kinds, arm_kinds, tail_kinds, arm_tail_kinds}
use Rattle.normal_form.specs.KindParts.{PlainKinds, kind_of_build, kinds_piece, branch_kinds, arms_kinds, all_branches, first_kind, branch_tail_kinds, all_tail_branches}
use Rattle.normal_form.specs.Parts.{first_part}
use Rattle.normal_form.proofs.Climbing.{IsChain, chain_spine, chain_popped, map_last}

-- the part stands for one along the left end, and these parents are left
pub record KindsClimbed (p : Source) (sigs : List Signature) (s : Scope Kind) (e : Expression) (ps : List Expression) (part : PlainKinds) : Type 0 where
  pub done : Expression
  pub chain : IsChain ps done e
  pub is : part ≡ kinds_piece p sigs s done

pub kinds_begun : (p : Source) (sigs : List Signature) (s : Scope Kind) (e leaf : Expression) (ps : List Expression) (part : PlainKinds)
    → ps ≡ spine_of e → leaf ≡ leaf_of e → part ≡ kinds_piece p sigs s leaf → KindsClimbed p sigs s e ps part
kinds_begun p sigs s e leaf ps part h k is = record {
  done = leaf;
  chain = subst (λ x. IsChain x leaf e) (sym h) (subst (λ x. IsChain (spine_of e) x e) (sym k) (chain_spine e));
  is = is;
}

-- the next parent, whose first part was done
pub record KindsParent (p : Source) (sigs : List Signature) (s : Scope Kind) (e : Expression) (ps : List Expression) (parent : Expression) (part : PlainKinds) : Type 0 where
  pub chain : IsChain ps parent e
  pub first : part ≡ kinds_piece p sigs s (first_part parent)

pub kinds_parent : {A : Type 0} (f : A → Expression) (p : Source) (sigs : List Signature) (s : Scope Kind) (e : Expression) (before after : List A) (x : A) (part : PlainKinds) → before ≡ after ++ x ∷ [] → KindsClimbed p sigs s e (map f before) part
    → KindsParent p sigs s e (map f after) (f x) part
kinds_parent f p sigs s e before after x part h c =
    let r = chain_popped (map f after) (f x) c.done e (subst (λ l. IsChain l c.done e) (ap (map f) h ∙ map_last f after x) c.chain) in
    record { chain = r.chain; first = c.is ∙ ap (kinds_piece p sigs s) (sym r.part) }

pub kinds_on : (p : Source) (sigs : List Signature) (s : Scope Kind) (e parent : Expression) (ps : List Expression) (part last : PlainKinds)
    → KindsParent p sigs s e ps parent part → last ≡ kinds_piece p sigs s parent → KindsClimbed p sigs s e ps last
kinds_on p sigs s e parent ps part last h is = record { done = parent; chain = h.chain; is = is }

pub kinds_up : {A : Type 0} (f : A → Expression) (p : Source) (sigs : List Signature) (s : Scope Kind) (e : Expression) (items : List A) (part : PlainKinds) → length items ≡ 0 → KindsClimbed p sigs s e (map f items) part → part ≡ kinds_piece p sigs s e
kinds_up f p sigs s e [] part none c = c.is ∙ ap (kinds_piece p sigs s) c.chain
kinds_up f p sigs s e (x ∷ items) part none c = absurd (omega (arith, none))

-- ---- arms

kinds_for : (p : Source) (sigs : List Signature) (s : Scope Kind) (as' : Arms) (con : ℕ)
    → (branch_kinds p sigs s (arm_for p as' con)).kinds ≡ arm_kinds p sigs s as' con
kinds_for p sigs s NoArms con = refl
kinds_for p sigs s (AndArm c fs x b as') con = by_test (is_that (constructor_number p c) con) (kinds_for p sigs s as' con)
  where
    by_test : (t : Bool) → (branch_kinds p sigs s (arm_for p as' con)).kinds ≡ arm_kinds p sigs s as' con
        → (branch_kinds p sigs s (if t then Some (record { con = c; fields = fs; cell = x; body = b }) else arm_for p as' con)).kinds
        ≡ (if t then bound_kinds p c x ++ kinds p sigs (arm_scope known_kind (types_of p) c fs x s) b else arm_kinds p sigs s as' con)
    by_test true h = refl
    by_test false h = h

kind_for : (p : Source) (sigs : List Signature) (s : Scope Kind) (as' : Arms) (con : ℕ)
    → (branch_kinds p sigs s (arm_for p as' con)).kind ≡ arm_kind p sigs s as' con
kind_for p sigs s NoArms con = refl
kind_for p sigs s (AndArm c fs x b as') con = by_test (is_that (constructor_number p c) con) (kind_for p sigs s as' con)
  where
    by_test : (t : Bool) → (branch_kinds p sigs s (arm_for p as' con)).kind ≡ arm_kind p sigs s as' con
        → (branch_kinds p sigs s (if t then Some (record { con = c; fields = fs; cell = x; body = b }) else arm_for p as' con)).kind
        ≡ (if t then kind_in p sigs (arm_scope known_kind (types_of p) c fs x s) b else arm_kind p sigs s as' con)
    by_test true h = refl
    by_test false h = h

tail_kinds_for : (p : Source) (sigs : List Signature) (s : Scope Kind) (as' : Arms) (con : ℕ)
    → branch_tail_kinds p sigs s (arm_for p as' con) ≡ arm_tail_kinds p sigs s as' con
tail_kinds_for p sigs s NoArms con = refl
tail_kinds_for p sigs s (AndArm c fs x b as') con = by_test (is_that (constructor_number p c) con) (tail_kinds_for p sigs s as' con)
  where
    by_test : (t : Bool) → branch_tail_kinds p sigs s (arm_for p as' con) ≡ arm_tail_kinds p sigs s as' con
        → branch_tail_kinds p sigs s (if t then Some (record { con = c; fields = fs; cell = x; body = b }) else arm_for p as' con)
        ≡ (if t then bound_kinds p c x ++ tail_kinds p sigs (arm_scope known_kind (types_of p) c fs x s) b else arm_tail_kinds p sigs s as' con)
    by_test true h = refl
    by_test false h = h

all_for : (p : Source) (sigs : List Signature) (s : Scope Kind) (as' : Arms) (cons : List ℕ)
    → all_branches p sigs s (map (arm_for p as') cons) ≡ all_of (arm_kinds p sigs s as') cons
all_for p sigs s as' [] = refl
all_for p sigs s as' (con ∷ cons) =
    ap (λ l. l ++ all_branches p sigs s (map (arm_for p as') cons)) (kinds_for p sigs s as' con) ∙ ap (λ l. arm_kinds p sigs s as' con ++ l) (all_for p sigs s as' cons)

first_for : (p : Source) (sigs : List Signature) (s : Scope Kind) (as' : Arms) (cons : List ℕ)
    → first_kind p sigs s None (map (arm_for p as') cons) ≡ of_first (arm_kind p sigs s as') cons
first_for p sigs s as' [] = refl
first_for p sigs s as' (con ∷ cons) = kind_for p sigs s as' con

pub all_tail_for : (p : Source) (sigs : List Signature) (s : Scope Kind) (as' : Arms) (cons : List ℕ)
    → all_tail_branches p sigs s (map (arm_for p as') cons) ≡ all_of (arm_tail_kinds p sigs s as') cons
all_tail_for p sigs s as' [] = refl
all_tail_for p sigs s as' (con ∷ cons) =
    ap (λ l. l ++ all_tail_branches p sigs s (map (arm_for p as') cons)) (tail_kinds_for p sigs s as' con) ∙ ap (λ l. arm_tail_kinds p sigs s as' con ++ l) (all_tail_for p sigs s as' cons)

pub arms_told : (p : Source) (sigs : List Signature) (s : Scope Kind) (as' : Arms) (order : List (Option Branch)) → order ≡ map (arm_for p as') (cons_of p as')
    → (let q : PlainKinds = record { kinds = all_branches p sigs s order; kind = first_kind p sigs s None order } in q) ≡ arms_kinds p sigs s as'
arms_told p sigs s as' order h =
    ap (λ l. let q : PlainKinds = record { kinds = all_branches p sigs s l; kind = first_kind p sigs s None l } in q) h
    ∙ ap (λ x. let q : PlainKinds = record { kinds = x; kind = first_kind p sigs s None (map (arm_for p as') (cons_of p as')) } in q) (all_for p sigs s as' (cons_of p as'))
    ∙ ap (λ x. let q : PlainKinds = record { kinds = all_of (arm_kinds p sigs s as') (cons_of p as'); kind = x } in q) (first_for p sigs s as' (cons_of p as'))

-- ---- names of an arm

record InFront (s inner : Scope Kind) : Type 0 where
  own : Scope Kind
  is : inner ≡ own ++ s

front_more : (s inner : Scope Kind) (n : List ℕ) (k : Kind) → InFront s inner → InFront s (bind n k inner)
front_more s inner n k h = record { own = bind n k h.own; is = ap (bind n k) h.is }

fields_front : (s : Scope Kind) (fs : List (Option Name)) (ks : List Kind) (inner : Scope Kind) → InFront s inner
    → InFront s (bind_fields known_kind fs ks inner)
fields_front s [] ks inner h = h
fields_front s (None ∷ fs) [] inner h = h
fields_front s (Some x ∷ fs) [] inner h = h
fields_front s (None ∷ fs) (k ∷ ks) inner h = fields_front s fs ks inner h
fields_front s (Some x ∷ fs) (k ∷ ks) inner h = fields_front s fs ks (bind x.word k inner) (front_more s inner x.word k h)

cell_front : (s : Scope Kind) (x : ArmCell) (inner : Scope Kind) → InFront s inner → InFront s (bind_cell known_kind x inner)
cell_front s cell.Plain inner h = h
cell_front s cell.Free inner h = h
cell_front s (cell.Keep d) inner h = front_more s inner d.word kind.Dia h

drop_front : {A : Type 0} (xs ys : List A) → drop (length xs) (xs ++ ys) ≡ ys
drop_front [] ys = refl
drop_front (x ∷ xs) ys = drop_front xs ys

pub arm_kinds_left : (p : Source) (a : Branch) (s : Scope Kind) (len : ℕ) (bound inner last : Scope Kind) → len ≡ length s
    → bound ≡ arm_scope known_kind (types_of p) a.con a.fields a.cell s → inner ≡ bound
    → last ≡ drop (length inner - len) inner → last ≡ s
arm_kinds_left p a s len bound inner last h b i l =
    let r = cell_front s a.cell _ (fields_front s a.fields _ s (record { own = []; is = refl })) in
    let is : inner ≡ r.own ++ s = i ∙ b ∙ r.is in
    let count = length-append r.own s in
    let size = ap length is in
    let k : length inner - len ≡ length r.own = omega (arith, h, count, size) in
    l ∙ ap (λ m. drop m inner) k ∙ ap (drop (length r.own)) is ∙ drop_front r.own s

pub build_kind_same : (p : Source) (sigs : List Signature) (s : Scope Kind) (c : Name) (es : Expressions) (place : Option Name)
    → kind_of_build p c ≡ kind_in p sigs s (Build c es place)
build_kind_same p sigs s c es place = ap (λ o. or_else (built_kind (types_of p) (or_else o 0)) kind.Int) (sym (number_same p c))

pub kinds_are : (ks ks' : List Kind) (k k' : Kind) → ks ≡ ks' → k ≡ k' → (let q : PlainKinds = record { kinds = ks; kind = k } in q) ≡ record { kinds = ks'; kind = k' }
kinds_are ks ks' k k' a b = ap (λ x. let q : PlainKinds = record { kinds = x; kind = k } in q) a ∙ ap (λ x. let q : PlainKinds = record { kinds = ks'; kind = x } in q) b

pub all_ended : (p : Source) (sigs : List Signature) (s : Scope Kind) (done : List Kind) (rest all : List (Option Branch)) → rest ≡ []
    → done ++ all_branches p sigs s rest ≡ all_branches p sigs s all → done ≡ all_branches p sigs s all
all_ended p sigs s done rest all none h = sym (append-nil done) ∙ ap (λ l. done ++ all_branches p sigs s l) (sym none) ∙ h

pub first_ended : (p : Source) (sigs : List Signature) (s : Scope Kind) (o : Option Kind) (rest all : List (Option Branch)) → rest ≡ []
    → first_kind p sigs s o rest ≡ first_kind p sigs s None all → unwrap_or o kind.Int ≡ first_kind p sigs s None all
first_ended p sigs s None rest all none h = ap (first_kind p sigs s None) (sym none) ∙ h
first_ended p sigs s (Some k) rest all none h = h

pub all_tails_ended : (p : Source) (sigs : List Signature) (s : Scope Kind) (as' : Arms) (done : List Kind) (rest all : List (Option Branch))
    → rest ≡ [] → done ++ all_tail_branches p sigs s rest ≡ all_tail_branches p sigs s all
    → all ≡ map (arm_for p as') (cons_of p as') → done ≡ all_of (arm_tail_kinds p sigs s as') (cons_of p as')
all_tails_ended p sigs s as' done rest all none h order =
    sym (append-nil done) ∙ ap (λ l. done ++ all_tail_branches p sigs s l) (sym none) ∙ h ∙ ap (all_tail_branches p sigs s) order ∙ all_tail_for p sigs s as' (cons_of p as')
