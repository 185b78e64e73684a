-- The marks of a program's functions, by number, are their loans by name.
use Rattle.std.proofs.Common.{◌≡◌, ℕ, suc, Bool, true, false, List, [], ◌∷◌, map, Option, Some, None, refl, ap, ◌∙◌}
use Rattle.std.specs.Prelude.{slice_get, if◌then◌else◌}
use Rattle.std.specs.Option.{option_map, option_map_or}
use Rattle.std.specs.Str.{bytes_eq}
use Rattle.camelot_values.specs.Names.{place_among}
use Rattle.camelot_tree.specs.declared.tree.Name.{Name}
use Rattle.camelot_tree.specs.Tree.{Function, Source}
use Rattle.camelot_typing.specs.Kinds.{or_else, types_of, head_of}
use Rattle.camelot_typing.specs.Typing.{Signature, globals_of, FunctionsFit}
use Rattle.camelot_typing.specs.Typed.{Typing}
use Rattle.camelot_typing.specs.NumberLaws.{head_number}
use Rattle.linear_use.specs.Uses.{lent_params, lent_by, loans_of}
use Rattle.normal_form.specs.Normal.{fun_of, normal_functions, normal_form}
use Rattle.normal_form.specs.Facts.{reads_in}

marks_are : (p : Source) (sigs : List Signature) (fs : List Function) (ss : List Signature) (name : List ℕ) (i : ℕ)
    → FunctionsFit p (globals_of p sigs) fs ss → place_among (map (λ f. f.name.word) fs) name ≡ Some i
    → option_map_or (λ f. f.reads) (slice_get (normal_functions p sigs fs ss) i) [] ≡ lent_by (types_of p) fs ss name
marks_are p sigs [] ss name i fit e = absurd cc
marks_are p sigs (f ∷ fs) [] name i fit e = absurd fit
marks_are p sigs (f ∷ fs) (s ∷ ss) name i fit e = by_test (bytes_eq f.name.word name) (λ j k. marks_are p sigs fs ss name j fit.1 k) e
  where
    behind : (o : Option ℕ) → ((j : ℕ) → o ≡ Some j → option_map_or (λ f. f.reads) (slice_get (normal_functions p sigs fs ss) j) [] ≡ lent_by (types_of p) fs ss name)
        → option_map suc o ≡ Some i → option_map_or (λ f. f.reads) (slice_get (normal_functions p sigs (f ∷ fs) (s ∷ ss)) i) [] ≡ lent_by (types_of p) fs ss name
    behind None rest k = absurd cc
    behind (Some j) rest k =
        let same : i ≡ suc j = cc in
        ap (λ n. option_map_or (λ f. f.reads) (slice_get (normal_functions p sigs (f ∷ fs) (s ∷ ss)) n) []) same ∙ rest j refl

    by_test : (b : Bool) → ((j : ℕ) → place_among (map (λ f. f.name.word) fs) name ≡ Some j
        → option_map_or (λ f. f.reads) (slice_get (normal_functions p sigs fs ss) j) [] ≡ lent_by (types_of p) fs ss name)
        → (if b then Some 0 else option_map suc (place_among (map (λ f. f.name.word) fs) name)) ≡ Some i
        → option_map_or (λ f. f.reads) (slice_get (normal_functions p sigs (f ∷ fs) (s ∷ ss)) i) []
        ≡ (if b then lent_params (types_of p) f.params s.params else lent_by (types_of p) fs ss name)
    by_test true rest k =
        let same : i ≡ 0 = cc in
        ap (λ n. option_map_or (λ f. f.reads) (slice_get (normal_functions p sigs (f ∷ fs) (s ∷ ss)) n) []) same
    by_test false rest k = behind (place_among (map (λ f. f.name.word) fs) name) rest k

-- for a function that is there
pub loans_are : (t : Typing) (f : Name) (h : Signature) → FunctionsFit t.source (globals_of t.source t.signatures) t.source.funs t.signatures
    → head_of t.signatures f.word ≡ Some h
    → reads_in (normal_form t) (fun_of t.source f) ≡ loans_of t.source t.signatures f.word
loans_are t f h fit e =
    let p = t.source in
    let r = head_number p (globals_of p t.signatures) p.funs t.signatures f.word h fit e in
    ap (λ o. reads_in (normal_form t) (or_else o 0)) r.is ∙ marks_are p t.signatures p.funs t.signatures f.word r.number fit r.is
