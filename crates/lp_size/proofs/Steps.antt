-- The rows of lets and ends of blocks are counted.
use Rattle.std.proofs.Common.{◌≡◌, ◌⊎◌, ℕ, suc, ◌+◌, ◌-◌, ◌<◌, Bool, true, false, List, [], ◌∷◌, ◌++◌, length, map, Option, Some, None, IsTrue, refl, sym, ap, ◌∙◌, subst, arith, inl, inr}
use Rattle.std.specs.Prelude.{cond, slice_get, IsSomeAnd}
use Rattle.std.specs.List.{AllByRecursion}
use Rattle.std.specs.Option.{option_map, option_map_or}
use Rattle.std.proofs.lemmas.Option.{slice_get_within}
use Rattle.camelot_values.specs.KindLaws.{slice_get_front}
use Rattle.camelot_values.specs.Kinds.{constructor, type_of}
use Rattle.camelot_values.specs.Lists.{is_among}
use Rattle.camelot_values.specs.declared.kinds.Kind.{Kind}
use Rattle.camelot_values.specs.declared.kinds.Kind.TheVariants as kind
use Rattle.grail_blocks.specs.declared.blocks.Place.{Place}
use Rattle.grail_code.specs.PlaceLaws.{all_at}
use Rattle.grail_code.specs.Code.{Op, Lit, Flag, Copy, Prim, Make, Call, Let, Block, Func, Code}
use Rattle.grail_code.specs.WellFormed.{kind_of, is_marked, is_lent, HaveKinds, PlaceFits, Gives, FuncFits}
use Rattle.annotations.specs.Vectors.{is_heap_con}
use Rattle.licence.specs.Books.{Carried}
use Rattle.licence.specs.Rules.{Account, build_cost, Asks, arguments_asks, call_asks, build_asks}
use Rattle.licence.specs.Checks.{Check, Site, left_check, value_checks, local_checks, arguments_checks, op_checks}
use Rattle.lp_system.specs.Unknowns.{Unknown, Need, Back, Param, Made, is_listed, carriers, unknowns_of}
use Rattle.lp_system.specs.Forms.{Form, forms, once, one_cell, unknown_book}
use Rattle.lp_system.specs.theory.Lent.{as_owned}
use Rattle.lp_system.specs.theory.Listing.{MadeHere, among_here, among_later, among_split, stands_listed}
use Rattle.lp_size.specs.declared.origins.Origin.{Origin}
use Rattle.lp_size.specs.declared.origins.Origin.TheVariants as origin
use Rattle.lp_size.specs.declared.origins.Slot.{Slot}
use Rattle.lp_size.specs.declared.taken.Taken.{Taken}
use Rattle.lp_size.specs.Counting.{more, origin_at, local_rows, need_rows, args_onto, called_rows, fields_onto, call_rows, op_rows}
use Rattle.lp_size.proofs.Caps.{cap, more_left, none}
use Rattle.lp_size.proofs.Asking.{kept, kept_append, unknown_at, units_of, value_kept}
use Rattle.lp_size.proofs.Left.{IsLeft, IsTaken, build_kept, need_kept}
use Rattle.lp_size.proofs.Reach.{itself_carries, field_carries}
use Rattle.lp_size.proofs.Slots.{AreCarried}

-- ---- what is there

pub held : {A : Type 0} (P : A → Type 0) (o : Option A) → IsSomeAnd o P → (x : A) × (o ≡ Some x) × P x
held P None h = absurd h
held P (Some x) h = (x, refl, h)

-- a local among these has the kind at its place
kind_at : (f : Func) (xs : List ℕ) (kinds : List Kind) → HaveKinds f xs kinds → (x : ℕ) → IsTrue (is_among xs x)
    → (i : ℕ) × (q : Kind) × (slice_get kinds i ≡ Some q) × (kind_of f x ≡ Some q)
kind_at f [] kinds h x m = absurd cc
kind_at f (y ∷ xs) [] h x m = absurd cc
kind_at f (y ∷ xs) (q ∷ kinds) h x m = let rest : map (kind_of f) xs ≡ map Some kinds = cc in by_part (kind_at f xs kinds rest x) (among_split x y xs m)
  where
    by_part : (IsTrue (is_among xs x) → (i : ℕ) × (k : Kind) × (slice_get kinds i ≡ Some k) × (kind_of f x ≡ Some k)) → (y ≡ x) ⊎ IsTrue (is_among xs x)
        → (i : ℕ) × (k : Kind) × (slice_get (q ∷ kinds) i ≡ Some k) × (kind_of f x ≡ Some k)
    by_part later (inl e) = let first : kind_of f y ≡ Some q = cc in (0, q, refl, ap (kind_of f) (sym e) ∙ first)
    by_part later (inr k) = let r = later k in (suc r.0, r.1, r.2, r.3)

pub same_length : (f : Func) (xs : List ℕ) (kinds : List Kind) → HaveKinds f xs kinds → length xs ≡ length kinds
same_length f [] [] h = refl
same_length f [] (q ∷ kinds) h = absurd cc
same_length f (x ∷ xs) [] h = absurd cc
same_length f (x ∷ xs) (q ∷ kinds) h = let rest : map (kind_of f) xs ≡ map Some kinds = cc in ap suc (same_length f xs kinds rest)

-- a parameter's kind is that of its local
pub param_kind : (g : Func) (i : ℕ) (q : Kind) → slice_get g.params i ≡ Some q → (i < length g.params) × (kind_of g i ≡ Some q)
param_kind g i q e = let few = slice_get_within g.params i q e in (few, slice_get_front g.params g.locals i few ∙ e)

-- a parameter that isn't marked isn't lent
owned_param : (p : Code) (g : Func) → FuncFits p g → (n : ℕ) → n < length g.params → is_marked g n ≡ false → is_lent p.types g n ≡ false
owned_param p g fits n few plain = by_test (is_lent p.types g n) refl
  where
    by_test : (b : Bool) → is_lent p.types g n ≡ b → b ≡ false
    by_test true e = let c : true ≡ false = sym (fits.marked n few e) ∙ plain in absurd cc
    by_test false e = refl

-- sums of two parts
pub counted : (us : List Unknown) (total m : ℕ) (part rest : List (Check Form)) → kept us part ≡ m → total + m + kept us rest ≡ total + kept us (part ++ rest)
counted us total m part rest e = let d = kept_append us part rest in omega (arith, e, d)

module _ (p : Code) (func : ℕ) (f : Func) (there : slice_get p.funcs func ≡ Some f) where
  -- ---- locals

  module _ (s : Site) (block : ℕ) (slots : List Slot) (carried : Carried Form) (h : AreCarried func block slots carried) where
    pub local_kept : (x : ℕ) (need : Origin)
        → ((c : ℕ) → IsTrue (is_among (carriers p.types (kind_of f x)) c) → IsTrue (is_listed (unknowns_of p) (unknown_at need c)))
        → kept (unknowns_of p) (value_checks p.types s (kind_of f x) (carried x) (units_of need)) ≡ local_rows p.types f func block slots x need
    local_kept x need listed = ap (λ u. kept (unknowns_of p) (value_checks p.types s (kind_of f x) u (units_of need))) (h.same x) ∙ value_kept (unknowns_of p) s p.types (kind_of f x) (origin_at func block slots x) need listed

    args_kept : (callee : ℕ) (g : Func) → slice_get p.funcs callee ≡ Some g → FuncFits p g → (number total : ℕ) (xs : List ℕ) (kinds : List Kind) → HaveKinds f xs kinds
        → ((i : ℕ) (q : Kind) → slice_get kinds i ≡ Some q → (number + i < length g.params) × (kind_of g (number + i) ≡ Some q))
        → args_onto p.types f func block slots callee g number (cap total) xs ≡ cap (total + kept (unknowns_of p) (local_checks p.types f s carried (arguments_asks (unknown_book.param callee) (is_marked g) number (length kinds) xs)))
    args_kept callee g e fits number total [] [] k at = let z : total ≡ total + 0 = omega arith in ap cap z
    args_kept callee g e fits number total [] (q ∷ kinds) k at = absurd cc
    args_kept callee g e fits number total (x ∷ xs) [] k at = absurd cc
    args_kept callee g e fits number total (x ∷ xs) (q ∷ kinds) k at =
        by_mark (λ t. args_kept callee g e fits (suc number) t xs kinds others
        (λ i r q. (let later = at (suc i) r q in let j : number + suc i ≡ suc number + i = omega arith in (omega (arith, later.0), ap (kind_of g) (sym j) ∙ later.1)))) (is_marked g number) refl
      where
        others : map (kind_of f) xs ≡ map Some kinds
        others = cc

        few : number < length g.params
        few = let here = at 0 q refl in omega (arith, here.0)

        kinds_same : kind_of f x ≡ kind_of g number
        kinds_same = let first : kind_of f x ≡ Some q = cc in let n : number + 0 ≡ number = omega arith in let here = at 0 q refl in first ∙ sym here.1 ∙ ap (kind_of g) n

        rows : ℕ
        rows = local_rows p.types f func block slots x (origin.Param callee number)

        asks : Asks Form
        asks = arguments_asks (unknown_book.param callee) (is_marked g) (suc number) (length kinds) xs

        by_mark : ((t : ℕ) → args_onto p.types f func block slots callee g (suc number) (cap t) xs ≡ cap (t + kept (unknowns_of p) (local_checks p.types f s carried asks)))
            → (b : Bool) → is_marked g number ≡ b
            → args_onto p.types f func block slots callee g (suc number) (more (cap total) (cond b 0 rows)) xs
            ≡ cap (total + kept (unknowns_of p) (local_checks p.types f s carried (cond b asks ((x, unknown_book.param callee number) ∷ asks))))
        by_mark rec true m =
            let z : total + 0 ≡ total = omega arith in
            ap (λ t. args_onto p.types f func block slots callee g (suc number) t xs) (more_left total 0 ∙ ap cap z) ∙ rec total
        by_mark rec false m =
            let part = local_kept x (origin.Param callee number)
            (λ c i. stands_listed p (Param callee number c) (g, e, (few, as_owned p.types g number c (owned_param p g fits number few m) (subst (λ o. IsTrue (is_among (carriers p.types o) c)) kinds_same i)))) in
            ap (λ t. args_onto p.types f func block slots callee g (suc number) t xs) (more_left total rows)
            ∙ rec (total + rows)
            ∙ ap cap (counted (unknowns_of p) total rows (value_checks p.types s (kind_of f x) (carried x) (unknown_book.param callee number)) (local_checks p.types f s carried asks) part)

    fields_kept : (need : Origin) (total : ℕ) (xs : List ℕ)
        → ((x c : ℕ) → IsTrue (is_among xs x) → IsTrue (is_among (carriers p.types (kind_of f x)) c) → IsTrue (is_listed (unknowns_of p) (unknown_at need c)))
        → fields_onto p.types f func block slots need (cap total) xs ≡ cap (total + kept (unknowns_of p) (local_checks p.types f s carried (map (λ x. (x, units_of need)) xs)))
    fields_kept need total [] listed = let z : total ≡ total + 0 = omega arith in ap cap z
    fields_kept need total (x ∷ xs) listed =
        ap (λ t. fields_onto p.types f func block slots need t xs) (more_left total (local_rows p.types f func block slots x need))
        ∙ fields_kept need (total + local_rows p.types f func block slots x need) xs (λ y c m. listed y c (among_later y x xs m))
        ∙ ap cap (counted (unknowns_of p) total (local_rows p.types f func block slots x need) (value_checks p.types s (kind_of f x) (carried x) (units_of need))
        (local_checks p.types f s carried (map (λ y. (y, units_of need)) xs)) (local_kept x need (λ c m. listed x c (among_here x xs) m)))

  -- ---- lets

  module _ (block at : ℕ) (slots : List Slot) (t : Taken) (account : Account Form) (h : AreCarried func block slots account.carried) (k : IsTaken (unknowns_of p) func t account.left) where
    abbrev site : Site
    site = record { func = func; block = block; place = at }

    pub need_listed : (callee : ℕ) (g : Func) → slice_get p.funcs callee ≡ Some g → IsTrue (is_listed (unknowns_of p) (Need callee))
    need_listed callee g e = stands_listed p (Need callee) (g, e, tt)

    pub back_listed : (callee : ℕ) (g : Func) → slice_get p.funcs callee ≡ Some g → IsTrue (is_listed (unknowns_of p) (Back callee))
    back_listed callee g e = stands_listed p (Back callee) (g, e, tt)

    arguments_kept : (callee : ℕ) (g : Func) → slice_get p.funcs callee ≡ Some g → FuncFits p g → (args : List ℕ) → HaveKinds f args g.params
        → called_rows p.types f func block slots callee args (slice_get p.funcs callee) ≡ cap (kept (unknowns_of p) (arguments_checks p f unknown_book site account callee args))
    arguments_kept callee g e fits args q =
        ap (called_rows p.types f func block slots callee args) e
        ∙ ap (λ n. args_onto p.types f func block slots callee g 0 n args) none
        ∙ args_kept site block slots account.carried h callee g e fits 0 0 args g.params q (λ i r d. (let o = param_kind g i r d in let z : 0 + i ≡ i = omega arith in (omega (arith, o.0), ap (kind_of g) z ∙ o.1)))
        ∙ ap cap (let z : 0 + kept (unknowns_of p) (local_checks p.types f site account.carried (call_asks unknown_book callee g args)) ≡ kept (unknowns_of p) (local_checks p.types f site account.carried (call_asks unknown_book callee g args)) = omega arith in z)
        ∙ ap (λ o. cap (kept (unknowns_of p) (option_map_or (λ b. local_checks p.types f site account.carried (call_asks unknown_book callee b args)) o []))) (sym e)

    pub call_kept : (callee : ℕ) (g : Func) → slice_get p.funcs callee ≡ Some g → FuncFits p g → (args : List ℕ) → HaveKinds f args g.params
        → call_rows p f func block slots t callee args ≡ cap (kept (unknowns_of p) (arguments_checks p f unknown_book site account callee args ++ left_check site account.left (once (Need callee)) ∷ []))
    call_kept callee g e fits args q =
        let a = kept_append (unknowns_of p) (arguments_checks p f unknown_book site account callee args) (left_check site account.left (once (Need callee)) ∷ []) in
        let n = need_kept (unknowns_of p) site func callee t account.left (need_listed callee g e) k in
        let whole : kept (unknowns_of p) (arguments_checks p f unknown_book site account callee args) + need_rows func t callee
        ≡ kept (unknowns_of p) (arguments_checks p f unknown_book site account callee args ++ left_check site account.left (once (Need callee)) ∷ []) = omega (arith, a, n) in
        ap (λ x. more x (need_rows func t callee)) (arguments_kept callee g e fits args q)
        ∙ more_left (kept (unknowns_of p) (arguments_checks p f unknown_book site account callee args)) (need_rows func t callee)
        ∙ ap cap whole

    -- a build at its place
    module _ (b : Block) (i : ℕ) (block_is : slice_get f.blocks block ≡ Some b) (at_is : at ≡ suc i) (l : IsLeft func block at account.left) where
      pub made_listed : (con : ℕ) (args : List ℕ) (into : Place) (x : Let) → slice_get b.lets i ≡ Some x → x.op ≡ Make con args into
          → is_heap_con p.types con ≡ true
          → (c : ℕ) → IsTrue (is_among (carriers p.types (option_map kind.Of (type_of p.types con))) c)
          → IsTrue (is_listed (unknowns_of p) (Made func block at c))
      made_listed con args into x e is heap c m =
          let back : at - 1 ≡ i = omega (arith, at_is) in
          stands_listed p (Made func block at c) (f, there, (b, block_is, (omega (arith, at_is), (x, ap (slice_get b.lets) back ∙ e, subst (λ o. here o c) (sym is) (heap, m)))))
        where
          here : Op → ℕ → Type 0
          here = MadeHere p.types

      make_kept : (con : ℕ) (args : List ℕ) (into : Place) (x : Let) (q : Kind) → slice_get b.lets i ≡ Some x → x.op ≡ Make con args into
          → Gives p f (Make con args into) q
          → op_rows p f func block slots t at (Make con args into) ≡ cap (kept (unknowns_of p) (op_checks forms p f unknown_book site account (Make con args into)))
      make_kept con args into x q e is fits = by_heap (is_heap_con p.types con) refl
        where
          made : Origin
          made = origin.Made func block at

          values : List (Check Form)
          values = local_checks p.types f site account.carried (build_asks unknown_book func block at args)

          left : List (Check Form)
          left = left_check site account.left (build_cost forms one_cell into (once (Made func block at con))) ∷ []

          by_heap : (o : Bool) → is_heap_con p.types con ≡ o
              → cond o (more (fields_onto p.types f func block slots (origin.Made func block at) 0 args) 1) 0 ≡ cap (kept (unknowns_of p) (cond o (values ++ left) []))
          by_heap false d = none
          by_heap true d =
              let c = held (λ c. HaveKinds f args c.fields × PlaceFits f c.inline into × (option_map kind.Of (type_of p.types con) ≡ Some q)) (constructor p.types con) fits in
              let listed = made_listed con args into x e is d in
              let n = build_kept (unknowns_of p) site func block at con into account.left (listed con (itself_carries p.types con d)) l in
              let a = kept_append (unknowns_of p) values left in
              let whole : 0 + kept (unknowns_of p) values + 1 ≡ kept (unknowns_of p) (values ++ left) = omega (arith, a, n) in
              ap (λ z. more (fields_onto p.types f func block slots (origin.Made func block at) z args) 1) none
              ∙ ap (λ z. more z 1) (fields_kept site block slots account.carried h (origin.Made func block at) 0 args
              (λ y r m g. (let o = kind_at f args c.0.fields c.2.0 y m in listed r (field_carries p.types con o.0 r c.0 o.1 c.1 o.2 d (subst (λ z. IsTrue (is_among (carriers p.types z) r)) o.3 g)))))
              ∙ more_left (0 + kept (unknowns_of p) values) 1
              ∙ ap cap whole

      -- A let.
      pub op_kept : AllByRecursion (FuncFits p) p.funcs → (x : Let) (q : Kind) → slice_get b.lets i ≡ Some x → Gives p f x.op q
          → op_rows p f func block slots t at x.op ≡ cap (kept (unknowns_of p) (op_checks forms p f unknown_book site account x.op))
      op_kept well x q e fits = by_op x.op refl fits
        where
          by_op : (op : Op) → x.op ≡ op → Gives p f op q
              → op_rows p f func block slots t at op ≡ cap (kept (unknowns_of p) (op_checks forms p f unknown_book site account op))
          by_op (Make con args into) d g = make_kept con args into x q e d g
          by_op (Call callee args) d g = let c = held (λ c. HaveKinds f args c.params × (q ≡ c.result)) (slice_get p.funcs callee) g in call_kept callee c.0 c.1 (all_at (FuncFits p) p.funcs callee c.0 well c.1) args c.2.0
          by_op (Lit z) d g = none
          by_op (Flag z) d g = none
          by_op (Copy y) d g = none
          by_op (Prim o y z) d g = none
