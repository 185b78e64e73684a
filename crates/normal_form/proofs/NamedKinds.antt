-- The kinds of names, of functions by their numbers, and of an arm's names.
use Rattle.std.proofs.Common.{◌≡◌, ℕ, suc, ◌<◌, ◌≤◌, Bool, true, false, if◌then◌else◌, List, [], ◌∷◌, map, length, get_or, Option, Some, None, refl, sym, ap, ◌∙◌, arith, ◌⊎◌, inl, inr}
use Rattle.std.specs.Option.{option_map, option_map_or}
use Rattle.std.specs.Str.{bytes_eq}
use Rattle.camelot_values.specs.Names.{place_among}
use Rattle.camelot_values.specs.declared.kinds.Kind.{Kind}
use Rattle.camelot_values.specs.declared.kinds.Kind.TheVariants as kind
use Rattle.camelot_tree.specs.declared.tree.Name.{Name}
use Rattle.camelot_tree.specs.declared.tree.ArmCell.{ArmCell}
use Rattle.camelot_tree.specs.declared.tree.ArmCell.TheVariants as cell
use Rattle.camelot_tree.specs.Tree.{Function, Source}
use Rattle.camelot_typing.specs.declared.kinds.FunKinds.{FunKinds}
use Rattle.camelot_typing.specs.Kinds.{Scope, bind_fields, bind_cell, arm_scope, types_of, fields_of, or_else, head_of}
use Rattle.camelot_typing.specs.Typing.{Signature, known_kind}
use Rattle.camelot_typing.specs.Typed.{kinds_of, signatures_of}
use Rattle.camelot_typing.specs.NumberLaws.{number_same}
use Rattle.normal_form.specs.Normal.{con_of}

-- ---- functions

abbrev words : List Function → List (List ℕ)
words fs = map (λ f. f.name.word) fs

abbrev result_in : List Function → List FunKinds → List ℕ → Kind
result_in fs ks name = option_map_or (λ h. h.result) (head_of (signatures_of fs (map kinds_of ks)) name) kind.Int

some_same : (a b : ℕ) → ◌≡◌ {A = Option ℕ} (Some a) (Some b) → a ≡ b
some_same a b e = cc

-- where the name's place among functions is known, one further on
behind : (o : Option ℕ) (i : ℕ) → option_map suc o ≡ Some i → (j : ℕ) × (o ≡ Some j) × (i ≡ suc j)
behind None i e = absurd cc
behind (Some j) i e = (j, refl, sym (some_same (suc j) i e))

never : (o : Option ℕ) → option_map suc o ≡ None → o ≡ None
never None e = refl
never (Some j) e = absurd cc

pub unnamed : (fs : List Function) (ks : List FunKinds) (name : List ℕ) → place_among (words fs) name ≡ None → result_in fs ks name ≡ kind.Int
unnamed [] ks name e = refl
unnamed (f ∷ fs) [] name e = refl
unnamed (f ∷ fs) (k ∷ ks) name e = by_test (bytes_eq f.name.word name) (λ h. unnamed fs ks name h) e
  where
    by_test : (b : Bool) → (place_among (words fs) name ≡ None → result_in fs ks name ≡ kind.Int)
        → (if b then Some 0 else option_map suc (place_among (words fs) name)) ≡ None
        → option_map_or (λ h. h.result) (if b then Some (let s : Signature = record { name = f.name.word; params = k.params.items; result = k.result } in s) else head_of (signatures_of fs (map kinds_of ks)) name) kind.Int ≡ kind.Int
    by_test true rec e = absurd cc
    by_test false rec e = rec (never (place_among (words fs) name) e)

pub named : (fs : List Function) (ks : List FunKinds) (name : List ℕ) (i : ℕ) (k : FunKinds) → place_among (words fs) name ≡ Some i → i < length ks
    → k ≡ get_or ks i k → result_in fs ks name ≡ k.result
named [] ks name i k e less at = absurd cc
named (f ∷ fs) [] name i k e less at = absurd (omega (arith, less))
named (f ∷ fs) (q ∷ ks) name i k e less at = by_test (bytes_eq f.name.word name) (λ j h l a. named fs ks name j k h l a) e
  where
    by_test : (b : Bool) → ((j : ℕ) → place_among (words fs) name ≡ Some j → j < length ks → k ≡ get_or ks j k → result_in fs ks name ≡ k.result)
        → (if b then Some 0 else option_map suc (place_among (words fs) name)) ≡ Some i
        → option_map_or (λ h. h.result) (if b then Some (let s : Signature = record { name = f.name.word; params = q.params.items; result = q.result } in s) else head_of (signatures_of fs (map kinds_of ks)) name) kind.Int ≡ k.result
    by_test true rec e =
        let first : 0 ≡ i = some_same 0 i e in
        let is : k ≡ q = at ∙ ap (λ j. get_or (q ∷ ks) j k) (sym first) in
        ap (λ x. x.result) (sym is)
    by_test false rec e =
        let r = behind (place_among (words fs) name) i e in
        let next : i ≡ suc r.0 = r.2 in
        rec r.0 r.1 (omega (arith, less, next)) (at ∙ ap (λ j. get_or (q ∷ ks) j k) next)

pub named_beyond : (fs : List Function) (ks : List FunKinds) (name : List ℕ) (i : ℕ) → place_among (words fs) name ≡ Some i → length ks ≤ i
    → result_in fs ks name ≡ kind.Int
named_beyond [] ks name i e more = absurd cc
named_beyond (f ∷ fs) [] name i e more = refl
named_beyond (f ∷ fs) (q ∷ ks) name i e more = by_test (bytes_eq f.name.word name) (λ j h l. named_beyond fs ks name j h l) e
  where
    by_test : (b : Bool) → ((j : ℕ) → place_among (words fs) name ≡ Some j → length ks ≤ j → result_in fs ks name ≡ kind.Int)
        → (if b then Some 0 else option_map suc (place_among (words fs) name)) ≡ Some i
        → option_map_or (λ h. h.result) (if b then Some (let s : Signature = record { name = f.name.word; params = q.params.items; result = q.result } in s) else head_of (signatures_of fs (map kinds_of ks)) name) kind.Int ≡ kind.Int
    by_test true rec e = let first : 0 ≡ i = some_same 0 i e in absurd (omega (arith, more, first))
    by_test false rec e =
        let r = behind (place_among (words fs) name) i e in
        let next : i ≡ suc r.0 = r.2 in
        rec r.0 r.1 (omega (arith, more, next))

-- ---- arms

pub arm_scope_named : (p : Source) (c : Name) (fs : List (Option Name)) (x : ArmCell) (s : Scope Kind)
    → bind_cell known_kind x (bind_fields known_kind fs (fields_of (types_of p) (con_of p c)) s) ≡ arm_scope known_kind (types_of p) c fs x s
arm_scope_named p c fs x s = ap (λ o. bind_cell known_kind x (bind_fields known_kind fs (fields_of (types_of p) (or_else o 0)) s)) (sym (number_same p c))

pub fields_ended : (fs : List (Option Name)) (ks : List Kind) (s : Scope Kind) → (length fs ≡ 0) ⊎ (length ks ≡ 0) → bind_fields known_kind fs ks s ≡ s
fields_ended [] ks s over = refl
fields_ended (None ∷ fs) [] s over = refl
fields_ended (Some n ∷ fs) [] s over = refl
fields_ended (f ∷ fs) (k ∷ ks) s (inl h) = absurd (omega (arith, h))
fields_ended (f ∷ fs) (k ∷ ks) s (inr h) = absurd (omega (arith, h))

pub cell_unbound : (x : ArmCell) (s : Scope Kind) → (x ≡ cell.Plain) ⊎ (x ≡ cell.Free) → bind_cell known_kind x s ≡ s
cell_unbound x s (inl h) = ap (λ y. bind_cell known_kind y s) h
cell_unbound x s (inr h) = ap (λ y. bind_cell known_kind y s) h
