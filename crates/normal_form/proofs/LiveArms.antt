-- The names and locals that an arm binds, and what is live in front of its lines.
use Rattle.std.proofs.Common.{◌≡◌, ℕ, suc, ◌+◌, ◌≤◌, ◌<◌, Bool, true, false, List, [], ◌∷◌, ◌++◌, length, Option, Some, None, refl, sym, ap, ◌∙◌, subst, arith, inl, inr}
use Rattle.std.specs.Prelude.{◌==◌, ◌||◌, ◌&&◌, not, nat_lt, max, if◌then◌else◌, ◌⊎◌}
use Rattle.std.specs.List.{AllByRecursion}
use Rattle.std.specs.Option.{option_map_or}
use Rattle.std.specs.Str.{bytes_eq}
use Rattle.std.proofs.lemmas.Bool.Decides.{nat_tests}
use Rattle.camelot_values.specs.Kinds.{DataType}
use Rattle.camelot_values.specs.Heap.{is_heap}
use Rattle.camelot_values.specs.Lists.{is_among}
use Rattle.camelot_values.specs.Names.{find}
use Rattle.camelot_values.specs.NameLaws.{same_name, name_itself}
use Rattle.camelot_values.specs.declared.kinds.Kind.{Kind}
use Rattle.camelot_values.specs.declared.kinds.Kind.TheVariants as kind
use Rattle.camelot_tree.specs.declared.tree.Name.{Name}
use Rattle.camelot_tree.specs.declared.tree.ArmCell.{ArmCell}
use Rattle.camelot_tree.specs.declared.tree.ArmCell.TheVariants as cell
use Rattle.camelot_tree.specs.Tree.{Expression, Arms, AndArm, Branch, Source}
use Rattle.camelot_tree.specs.Cells.{has_cell}
use Rattle.camelot_tree.specs.Meaning.{is_that}
use Rattle.camelot_typing.specs.Kinds as typed
use Rattle.camelot_typing.specs.Kinds.{Scope, bind, bind_fields, bind_cell, arm_scope, or_else, types_of, fields_of, field_names, bound_names, numbered, is_inline}
use Rattle.camelot_typing.specs.NumberLaws.{number_same}
use Rattle.camelot_typing.specs.Typing.{known_kind}
use Rattle.linear_use.specs.Uses.{is_bound, is_lent, lends_field, arm_flags, IsFair, EachIsFair, CellTaken}
use Rattle.linear_use.specs.FairLaws.{fair_by_paths}
use Rattle.grail_blocks.specs.Blocks.{CaseArm}
use Rattle.grail_blocks.specs.Events.{kept_diamond, bound_by}
use Rattle.grail_code.specs.WellFormed.{looked_by}
use Rattle.normal_form.specs.Normal.{Line, con_of, bound_count, with_fields, with_cell, in_arm, cell_in, case_arm}
use Rattle.normal_form.specs.Live.{bit}
use Rattle.normal_form.proofs.Looked.{among_append}
use Rattle.normal_form.proofs.Values.{number_found}
use Rattle.normal_form.proofs.UsedNames.{Names, without_all, taken, arms_taken, seen, arms_seen, Fair, ArmsFair, seen_most, fair_taken, unseen_fair, AreNone, AreOne, AreSome, none_seen, fewer_seen, fewer_taken, fewer_fair, one_fair}
use Rattle.normal_form.proofs.KindsAt.{Frame, At, at_front, Named, named_fields, named_name, ArmFor, bound_of, named_arm}
use Rattle.normal_form.proofs.NamedUses.{named, above_none, same_or_not}
use Rattle.normal_form.proofs.LiveLines.{Ownership, live_here, AllOnce, AreLent, or_second}
use Rattle.normal_form.proofs.LiveParts.{Ruled, Lives}

-- ---- names from before

pub bound_append : (v : List ℕ) (xs ys : List Name) → is_bound v (xs ++ ys) ≡ (is_bound v xs || is_bound v ys)
bound_append v [] ys = refl
bound_append v (x ∷ xs) ys = ap (λ b. bytes_eq x.word v || b) (bound_append v xs ys) ∙ grouped (bytes_eq x.word v) (is_bound v xs) (is_bound v ys)
  where
    grouped : (a b c : Bool) → (a || (b || c)) ≡ ((a || b) || c)
    grouped true b c = refl
    grouped false b c = refl

differ_test : (n y : ℕ) → y < n → (n == y) ≡ true → ⊥
differ_test n y less e = let same : n ≡ y = grind (arith, nat_tests, e) in omega (arith, same, less)

fields_old : (fs : List (Option Name)) (n : ℕ) (l : Scope ℕ) (y : ℕ) (v : List ℕ) → y < n → named (with_fields fs n l) y v ≡ true
    → (named l y v ≡ true) × (is_bound v (field_names fs) ≡ false)
fields_old [] n l y v less e = (e, refl)
fields_old (None ∷ fs) n l y v less e = fields_old fs (suc n) l y v (omega (arith, less)) e
fields_old (Some f ∷ fs) n l y v less e =
    let r = fields_old fs (suc n) (bind f.word n l) y v (omega (arith, less)) e in
    by_test (bytes_eq f.word v) r.0 r.1
  where
    by_test : (b : Bool) → is_that (if b then Some n else find l v) y ≡ true → is_bound v (field_names fs) ≡ false
        → (is_that (find l v) y ≡ true) × ((b || is_bound v (field_names fs)) ≡ false)
    by_test true q k = absurd (differ_test n y less q)
    by_test false q k = (q, k)

arm_old : (fs : List (Option Name)) (x : ArmCell) (n : ℕ) (l : Scope ℕ) (y : ℕ) (v : List ℕ) → y < n → named (in_arm fs x n l) y v ≡ true
    → (named l y v ≡ true) × (is_bound v (bound_names fs x) ≡ false)
arm_old fs cell.Plain n l y v less e = let r = fields_old fs n l y v less e in (r.0, bound_append v (field_names fs) [] ∙ ap (λ b. b || false) r.1)
arm_old fs cell.Free n l y v less e = let r = fields_old fs n l y v less e in (r.0, bound_append v (field_names fs) [] ∙ ap (λ b. b || false) r.1)
arm_old fs (cell.Keep d) n l y v less e = by_test (bytes_eq d.word v) refl e
  where
    by_test : (b : Bool) → bytes_eq d.word v ≡ b → is_that (if b then Some (n + length fs) else find (with_fields fs n l) v) y ≡ true
        → (named l y v ≡ true) × (is_bound v (field_names fs ++ (d ∷ [])) ≡ false)
    by_test true t q = absurd (differ_test (n + length fs) y (omega (arith, less)) q)
    by_test false t q =
        let r = fields_old fs n l y v less q in
        (r.0, bound_append v (field_names fs) (d ∷ []) ∙ ap (λ b. b || (bytes_eq d.word v || false)) r.1 ∙ ap (λ b. b || false) t)

-- names of a local from before aren't those that the arm binds
pub old_names : (fs : List (Option Name)) (x : ArmCell) (n : ℕ) (l : Scope ℕ) (y : ℕ) → y < n
    → AreSome (named (in_arm fs x n l) y) (without_all (bound_names fs x) (named l y))
old_names fs x n l y less v e = let r = arm_old fs x n l y v less e in ap (λ b. if b then false else named l y v) r.1 ∙ r.0

-- ---- names of the arm

-- a local has no name, or one
pub data Owner (P : Name → Type 0) (names : Names) : Type 0 where
  NoOwner : AreNone names → Owner P names
  OneOwner : (f : Name) → P f → AreOne f.word names → names f.word ≡ true → Owner P names

owner_test : (P : Name → Type 0) (names : Names) (f : Name) → P f → AreOne f.word names → Owner P names
owner_test P names f h one = by_test (names f.word) refl
  where
    none : names f.word ≡ false → AreNone names
    none e v = by_value (names v) refl
      where
        by_value : (b : Bool) → names v ≡ b → b ≡ false
        by_value false q = refl
        by_value true q =
            let same : v ≡ f.word = same_name v f.word (one v q) in
            let own : names f.word ≡ true = ap names (sym same) ∙ q in
            let clash : false ≡ true = sym e ∙ own in
            absurd cc

    by_test : (b : Bool) → names f.word ≡ b → Owner P names
    by_test true e = OneOwner f h one e
    by_test false e = NoOwner (none e)

owner_fewer : (P : Name → Type 0) (names more : Names) → AreSome names more → Owner P more → Owner P names
owner_fewer P names more some (NoOwner none) = NoOwner (λ v. by_value v (names v) refl)
  where
    by_value : (v : List ℕ) (b : Bool) → names v ≡ b → b ≡ false
    by_value v false q = refl
    by_value v true q = let clash : true ≡ false = sym (some v q) ∙ none v in absurd cc
owner_fewer P names more some (OneOwner f h one is) = owner_test P names f h (λ v e. one v (some v e))

-- the name that was bound to this local, where no other had it
bound_one : (l : Scope ℕ) (f : Name) (n : ℕ) → AreNone (named l n) → AreOne f.word (named (bind f.word n l) n)
bound_one l f n none v e = by_test (bytes_eq f.word v) refl e
  where
    by_test : (b : Bool) → bytes_eq f.word v ≡ b → is_that (if b then Some n else find l v) n ≡ true → bytes_eq v f.word ≡ true
    by_test true t q = let same : f.word ≡ v = same_name f.word v t in ap (λ w. bytes_eq w f.word) (sym same) ∙ name_itself f.word
    by_test false t q = let clash : true ≡ false = sym q ∙ none v in absurd cc

bound_above : (l : Scope ℕ) (f : Name) (n z : ℕ) → n < z → AreNone (named l z) → AreNone (named (bind f.word n l) z)
bound_above l f n z less none v = by_test (bytes_eq f.word v)
  where
    unequal : (b : Bool) → (n == z) ≡ b → b ≡ false
    unequal false t = refl
    unequal true t = let same : n ≡ z = grind (arith, nat_tests, t) in absurd (omega (arith, same, less))

    by_test : (b : Bool) → is_that (if b then Some n else find l v) z ≡ false
    by_test true = unequal (n == z) refl
    by_test false = none v

fields_owner : (P : Name → Type 0) (fs : List (Option Name)) (n : ℕ) (l : Scope ℕ) (y : ℕ) → n ≤ y → ((z : ℕ) → n ≤ z → AreNone (named l z))
    → AllByRecursion P (field_names fs) → Owner P (named (with_fields fs n l) y)
fields_owner P [] n l y h none all = NoOwner (none y h)
fields_owner P (None ∷ fs) n l y h none all = either (λ k. fields_owner P fs (suc n) l y k (λ z j. none z (omega (arith, j))) all) (same_or_not n y)
  where
    either : (suc n ≤ y → Owner P (named (with_fields fs (suc n) l) y)) → (n ≡ y) ⊎ (n ≡ y → ⊥) → Owner P (named (with_fields fs (suc n) l) y)
    either later (inl same) = owner_fewer P (named (with_fields fs (suc n) l) y) (named l y) (λ v e. (fields_old fs (suc n) l y v (omega (arith, same)) e).0) (NoOwner (none y h))
    either later (inr differ) = later (omega (arith, h, differ))
fields_owner P (Some f ∷ fs) n l y h none all =
    either (λ k. fields_owner P fs (suc n) (bind f.word n l) y k (λ z j. bound_above l f n z (omega (arith, j)) (none z (omega (arith, j)))) all.1) (same_or_not n y)
  where
    either : (suc n ≤ y → Owner P (named (with_fields fs (suc n) (bind f.word n l)) y)) → (n ≡ y) ⊎ (n ≡ y → ⊥)
        → Owner P (named (with_fields fs (suc n) (bind f.word n l)) y)
    either later (inl same) =
        subst (λ z. Owner P (named (with_fields fs (suc n) (bind f.word n l)) z)) same
        (owner_fewer P (named (with_fields fs (suc n) (bind f.word n l)) n) (named (bind f.word n l) n) (λ v e. (fields_old fs (suc n) (bind f.word n l) n v (omega arith) e).0)
        (owner_test P (named (bind f.word n l) n) f all.0 (bound_one l f n (none n (omega arith)))))
    either later (inr differ) = later (omega (arith, h, differ))

all_front : (P : Name → Type 0) (xs ys : List Name) → AllByRecursion P (xs ++ ys) → AllByRecursion P xs
all_front P [] ys h = tt
all_front P (x ∷ xs) ys h = (h.0, all_front P xs ys h.1)

all_back : (P : Name → Type 0) (xs ys : List Name) → AllByRecursion P (xs ++ ys) → AllByRecursion P ys
all_back P [] ys h = h
all_back P (x ∷ xs) ys h = all_back P xs ys h.1

arm_owner : (P : Name → Type 0) (fs : List (Option Name)) (x : ArmCell) (n : ℕ) (l : Scope ℕ) (y : ℕ) → n ≤ y
    → ((z : ℕ) → n ≤ z → AreNone (named l z)) → ((z : ℕ) → n + length fs ≤ z → AreNone (named (with_fields fs n l) z))
    → AllByRecursion P (bound_names fs x) → Owner P (named (in_arm fs x n l) y)
arm_owner P fs cell.Plain n l y h none above all = fields_owner P fs n l y h none (all_front P (field_names fs) [] all)
arm_owner P fs cell.Free n l y h none above all = fields_owner P fs n l y h none (all_front P (field_names fs) [] all)
arm_owner P fs (cell.Keep d) n l y h none above all = either (same_or_not (n + length fs) y)
  where
    other : (n + length fs ≡ y → ⊥) → AreSome (named (bind d.word (n + length fs) (with_fields fs n l)) y) (named (with_fields fs n l) y)
    other differ v = by_test (bytes_eq d.word v)
      where
        by_test : (b : Bool) → is_that (if b then Some (n + length fs) else find (with_fields fs n l) v) y ≡ true
            → is_that (find (with_fields fs n l) v) y ≡ true
        by_test true q = absurd (differ (grind (arith, nat_tests, q)))
        by_test false q = q

    either : (n + length fs ≡ y) ⊎ (n + length fs ≡ y → ⊥) → Owner P (named (bind d.word (n + length fs) (with_fields fs n l)) y)
    either (inl same) =
        subst (λ z. Owner P (named (bind d.word (n + length fs) (with_fields fs n l)) z)) same
        (owner_test P (named (bind d.word (n + length fs) (with_fields fs n l)) (n + length fs)) d (all_back P (field_names fs) (d ∷ []) all).0
        (bound_one (with_fields fs n l) d (n + length fs) (above (n + length fs) (omega arith))))
    either (inr differ) =
        owner_fewer P (named (bind d.word (n + length fs) (with_fields fs n l)) y) (named (with_fields fs n l) y) (other differ)
        (fields_owner P fs n l y h none (all_front P (field_names fs) (d ∷ []) all))

-- ---- the locals that an arm binds

among_numbered : {A : Type 0} (n : ℕ) (xs : List A) (y : ℕ) → n ≤ y → y < n + length xs → is_among (numbered n xs) y ≡ true
among_numbered n [] y h k = absurd (omega (arith, h, k))
among_numbered n (x ∷ xs) y h k = either (λ j. among_numbered (suc n) xs y j (omega (arith, k))) (same_or_not n y)
  where
    either : (suc n ≤ y → is_among (numbered (suc n) xs) y ≡ true) → (n ≡ y) ⊎ (n ≡ y → ⊥) → ((n == y) || is_among (numbered (suc n) xs) y) ≡ true
    either later (inl same) = let t : (n == y) ≡ true = grind (arith, nat_tests, same) in ap (λ b. b || is_among (numbered (suc n) xs) y) t
    either later (inr differ) = or_second (n == y) (is_among (numbered (suc n) xs) y) (later (omega (arith, h, differ)))

among_bound : (p : Source) (con : Name) (fs : List (Option Name)) (x : ArmCell) (b : Expression) (n target y : ℕ) → n ≤ y → y < n + bound_count fs x
    → is_among (bound_by (case_arm p (Some (record { con = con; fields = fs; cell = x; body = b })) n target)) y ≡ true
among_bound p con fs cell.Plain b n target y h k = first_among (is_inline (types_of p) (con_of p con)) (among_numbered n fs y h (omega (arith, k)))
  where
    first_among : (inline : Bool) → is_among (numbered n fs) y ≡ true → is_among (numbered n fs ++ kept_diamond (cell_in inline cell.Plain (n + length fs))) y ≡ true
    first_among inline e = among_append (numbered n fs) (kept_diamond (cell_in inline cell.Plain (n + length fs))) y ∙ ap (λ t. t || is_among (kept_diamond (cell_in inline cell.Plain (n + length fs))) y) e
among_bound p con fs cell.Free b n target y h k = among_append (numbered n fs) [] y ∙ ap (λ t. t || false) (among_numbered n fs y h (omega (arith, k)))
among_bound p con fs (cell.Keep d) b n target y h k = among_append (numbered n fs) ((n + length fs) ∷ []) y ∙ by_order (nat_lt y (n + length fs)) refl
  where
    by_order : (t : Bool) → nat_lt y (n + length fs) ≡ t → (is_among (numbered n fs) y || ((n + length fs == y) || false)) ≡ true
    by_order true t = let less : y < n + length fs = grind (arith, nat_tests, t) in ap (λ b. b || ((n + length fs == y) || false)) (among_numbered n fs y h less)
    by_order false t =
        let more : n + length fs ≤ y = grind (arith, nat_tests, t) in
        let same : n + length fs ≡ y = omega (arith, more, k) in
        let test : (n + length fs == y) ≡ true = grind (arith, nat_tests, same) in
        or_second (is_among (numbered n fs) y) ((n + length fs == y) || false) (ap (λ b. b || false) test)

-- ---- what an arm binds is owned, or in an arm that leaves its cell

-- where no field is lent, a name of a local that the arm makes isn't
fields_flag : (g : Kind → Bool) (fs : List (Option Name)) (ks : List Kind) (n : ℕ) (l : Scope ℕ) (flags : Scope Bool) (v : List ℕ) (y : ℕ) → ((k : Kind) → g k ≡ false)
    → length fs ≡ length ks → (find l v ≡ Some y → or_else (find flags v) false ≡ false) → find (with_fields fs n l) v ≡ Some y
    → or_else (find (bind_fields g fs ks flags) v) false ≡ false
fields_flag g [] [] n l flags v y none full old e = old e
fields_flag g [] (k ∷ ks) n l flags v y none full old e = absurd (omega (arith, full))
fields_flag g (f ∷ fs) [] n l flags v y none full old e = absurd (omega (arith, full))
fields_flag g (None ∷ fs) (k ∷ ks) n l flags v y none full old e = fields_flag g fs ks (suc n) l flags v y none (omega (arith, full)) old e
fields_flag g (Some f ∷ fs) (k ∷ ks) n l flags v y none full old e =
    fields_flag g fs ks (suc n) (bind f.word n l) (bind f.word (g k) flags) v y none (omega (arith, full)) (by_test (bytes_eq f.word v)) e
  where
    by_test : (b : Bool) → (if b then Some n else find l v) ≡ Some y → or_else (if b then Some (g k) else find flags v) false ≡ false
    by_test true q = none k
    by_test false q = old q

cell_flag : (g : Kind → Bool) (x : ArmCell) (n : ℕ) (l : Scope ℕ) (flags : Scope Bool) (v : List ℕ) (y : ℕ) → ((k : Kind) → g k ≡ false)
    → (find l v ≡ Some y → or_else (find flags v) false ≡ false) → find (with_cell x n l) v ≡ Some y
    → or_else (find (bind_cell g x flags) v) false ≡ false
cell_flag g cell.Plain n l flags v y none old e = old e
cell_flag g cell.Free n l flags v y none old e = old e
cell_flag g (cell.Keep d) n l flags v y none old e = by_test (bytes_eq d.word v) e
  where
    by_test : (b : Bool) → (if b then Some n else find l v) ≡ Some y → or_else (if b then Some (g kind.Dia) else find flags v) false ≡ false
    by_test true q = none kind.Dia
    by_test false q = old q

arm_flag : (F : Frame) (g : Kind → Bool) (s : Scope Kind) (l : Scope ℕ) (n con : ℕ) (c : Name) (fs : List (Option Name)) (x : ArmCell) (flags : Scope Bool) (v : List ℕ) (y : ℕ)
    → Named F s l n → ArmFor F.source c fs con → ((k : Kind) → g k ≡ false) → n ≤ y → find (in_arm fs x n l) v ≡ Some y
    → or_else (find (arm_scope g (types_of F.source) c fs x flags) v) false ≡ false
arm_flag F g s l n con c fs x flags v y st a none h e =
    ap (λ cs. or_else (find (bind_cell g x (bind_fields g fs (fields_of (types_of F.source) (or_else cs 0)) flags)) v) false) a.is
    ∙ cell_flag g x (n + length fs) (with_fields fs n l) (bind_fields g fs (fields_of (types_of F.source) con) flags) v y none
    (fields_flag g fs (fields_of (types_of F.source) con) n l flags v y none a.full (λ q. (let own = named_name F s l n v y st q in let less = own.below in absurd (omega (arith, less, h))))) e

-- a constructor is inline by its number in both
inline_same : (p : Source) (c : Name) → is_inline (types_of p) (or_else (typed.constructor_number (types_of p) c.word) 0) ≡ is_inline (types_of p) (con_of p c)
inline_same p c = ap (λ o. is_inline (types_of p) (or_else o 0)) (number_same p c)

lends_none : (types : List DataType) (c : Name) (k : Kind) → is_inline types (or_else (typed.constructor_number types c.word) 0) ≡ true → lends_field types true c k ≡ false
lends_none types c k e = ap (λ b. not b && is_heap types k) e

-- what an arm that leaves its cell binds is among its fields
looked_field : (inline : Bool) (x : ArmCell) (fs : List (Option Name)) (n y : ℕ) → inline ≡ false → has_cell x ≡ false → n ≤ y → y < n + bound_count fs x
    → is_among (looked_by (cell_in inline x (n + length fs)) (numbered n fs)) y ≡ true
looked_field true x fs n y e plain h k = absurd cc
looked_field false cell.Plain fs n y e plain h k = among_numbered n fs y h (omega (arith, k))
looked_field false cell.Free fs n y e plain h k = absurd cc
looked_field false (cell.Keep d) fs n y e plain h k = absurd cc

-- An owned local that an arm makes has no flag.
pub owned_flag : (F : Frame) (R : Ruled F) (s : Scope Kind) (l : Scope ℕ) (n number con : ℕ) (c : Name) (fs : List (Option Name)) (x : ArmCell) (b : Expression) (lent : Bool) (flags : Scope Bool) (v : List ℕ) (y : ℕ)
    → Named F s l n → ArmFor F.source c fs con → At F.kinds n (bound_of F.source con x) → CellTaken (types_of F.source) lent c x
    → AreLent R.own (looked_by (case_arm F.source (Some (record { con = c; fields = fs; cell = x; body = b })) n number).cell (numbered n fs))
    → n ≤ y → R.own.owned y ≡ true → find (in_arm fs x n l) v ≡ Some y
    → or_else (find (arm_flags (types_of F.source) lent c fs x flags) v) false ≡ false
owned_flag F R s l n number con c fs x b false flags v y st a at taken looks h own e = arm_flag F (lends_field (types_of F.source) false c) s l n con c fs x flags v y st a (λ k. refl) h e
owned_flag F R s l n number con c fs x b true flags v y st a at taken looks h own e = by_test (is_inline (types_of F.source) (or_else (typed.constructor_number (types_of F.source) c.word) 0)) refl
  where
    by_test : (t : Bool) → is_inline (types_of F.source) (or_else (typed.constructor_number (types_of F.source) c.word) 0) ≡ t
        → or_else (find (arm_flags (types_of F.source) true c fs x flags) v) false ≡ false
    by_test true t = arm_flag F (lends_field (types_of F.source) true c) s l n con c fs x flags v y st a (λ k. lends_none (types_of F.source) c k t) h e
    by_test false t =
        let inner = named_name F (arm_scope known_kind (types_of F.source) c fs x s) (in_arm fs x n l) (n + bound_count fs x) v y (named_arm F s l n con c fs x st a at) e in
        let less = inner.below in
        let other = looks y (looked_field (is_inline (types_of F.source) (con_of F.source c)) x fs n y (sym (inline_same F.source c) ∙ t) taken h less) in
        let clash : true ≡ false = sym own ∙ other in
        absurd cc

-- ---- an arm that keeps the rule

-- Nothing comes behind the taking of a local that an arm makes, where it is owned.
pub arm_new_fair : (F : Frame) (R : Ruled F) (s : Scope Kind) (l : Scope ℕ) (n number con : ℕ) (c : Name) (fs : List (Option Name)) (x : ArmCell) (b : Expression) (lent : Bool) (flags : Scope Bool) (y : ℕ)
    → Named F s l n → ArmFor F.source c fs con → At F.kinds n (bound_of F.source con x) → CellTaken (types_of F.source) lent c x
    → AreLent R.own (looked_by (case_arm F.source (Some (record { con = c; fields = fs; cell = x; body = b })) n number).cell (numbered n fs))
    → EachIsFair R.loans (types_of F.source) (arm_scope known_kind (types_of F.source) c fs x s) (arm_flags (types_of F.source) lent c fs x flags) (bound_names fs x) b
    → n ≤ y → R.own.owned y ≡ true → Fair R.loans (named (in_arm fs x n l) y) b
arm_new_fair F R s l n number con c fs x b lent flags y st a at taken looks each h own =
    by_owner (arm_owner (λ f. IsFair R.loans (types_of F.source) (or_else (find (arm_scope known_kind (types_of F.source) c fs x s) f.word) kind.Int) (is_lent (arm_flags (types_of F.source) lent c fs x flags) f) f.word b)
    fs x n l y h (λ z k. above_none F s l n z st k)
    (λ z k. above_none F (bind_fields known_kind fs (fields_of (types_of F.source) con) s) (with_fields fs n l) (n + length fs) z
    (named_fields F s l n fs (fields_of (types_of F.source) con) st a.full (at_front F.kinds n (fields_of (types_of F.source) con) _ at)) k) each)
  where
    by_owner : Owner (λ f. IsFair R.loans (types_of F.source) (or_else (find (arm_scope known_kind (types_of F.source) c fs x s) f.word) kind.Int) (is_lent (arm_flags (types_of F.source) lent c fs x flags) f) f.word b) (named (in_arm fs x n l) y)
        → Fair R.loans (named (in_arm fs x n l) y) b
    by_owner (NoOwner none) = unseen_fair R.loans (named (in_arm fs x n l) y) b (none_seen R.loans (named (in_arm fs x n l) y) b none)
    by_owner (OneOwner f fair one is) =
        let found = number_found (find (in_arm fs x n l) f.word) y is in
        let has = named_name F (arm_scope known_kind (types_of F.source) c fs x s) (in_arm fs x n l) (n + bound_count fs x) f.word y (named_arm F s l n con c fs x st a at) found in
        let of_kind : is_heap (types_of F.source) (or_else (find (arm_scope known_kind (types_of F.source) c fs x s) f.word) kind.Int) ≡ true =
        ap (λ o. is_heap (types_of F.source) (or_else o kind.Int)) has.found ∙ sym (ap (λ o. option_map_or (is_heap (types_of F.source)) o false) has.kind) ∙ R.heap y own in
        let flag : is_lent (arm_flags (types_of F.source) lent c fs x flags) f ≡ false = owned_flag F R s l n number con c fs x b lent flags f.word y st a at taken looks h own found in
        one_fair R.loans f.word (named (in_arm fs x n l) y) b one
        (fair_by_paths R.loans f.word b (fair (ap (λ t. t && not (is_lent (arm_flags (types_of F.source) lent c fs x flags) f)) of_kind ∙ ap not flag)))

-- ---- in front of an arm

-- at most so much is live of what the arm doesn't bind
pub record ArmLives (o : Ownership) (a : CaseArm) (number : ℕ) (lines : List Line) (most : ℕ → ℕ) : Type 0 where
  pub live : (y : ℕ) → bit (not (is_among (bound_by a) y) && live_here number lines y) ≤ most y
  pub once : AllOnce o number lines

masked : (a b : Bool) → bit (not a && b) ≤ bit b
masked true b = omega arith
masked false b = omega arith

hidden : (a b : Bool) → a ≡ true → bit (not a && b) ≡ 0
hidden true b e = refl
hidden false b e = absurd cc

-- the arm's body with what it binds
pub arm_lives : (F : Frame) (R : Ruled F) (s : Scope Kind) (l : Scope ℕ) (n con next number : ℕ) (c : Name) (fs : List (Option Name)) (x : ArmCell) (b : Expression) (as' : Arms) (br : Name) (lines : List Line) (out : ℕ → ℕ)
    → Named F s l n → ArmFor F.source c fs con → At F.kinds n (bound_of F.source con x) → next ≤ n → ((y : ℕ) → next ≤ y → out y ≡ 0)
    → Lives R.own number lines (λ y. max (seen R.loans (named (in_arm fs x n l) y) b) (out y))
    → ArmLives R.own (case_arm F.source (Some (record { con = br; fields = fs; cell = x; body = b })) n number) number lines (λ y. max (arms_seen R.loans (named l y) (AndArm c fs x b as')) (out y))
arm_lives F R s l n con next number c fs x b as' br lines out st a at least zero r = record { live = λ y. by_order y (nat_lt y n) refl (nat_lt y (n + bound_count fs x)) refl; once = r.once }
  where
    inner : Named F (arm_scope known_kind (types_of F.source) c fs x s) (in_arm fs x n l) (n + bound_count fs x)
    inner = named_arm F s l n con c fs x st a at

    by_order : (y : ℕ) (t : Bool) → nat_lt y n ≡ t → (q : Bool) → nat_lt y (n + bound_count fs x) ≡ q
        → bit (not (is_among (bound_by (case_arm F.source (Some (record { con = br; fields = fs; cell = x; body = b })) n number)) y) && live_here number lines y)
        ≤ max (max (seen R.loans (without_all (bound_names fs x) (named l y)) b) (arms_seen R.loans (named l y) as')) (out y)
    by_order y true t q k =
        let less : y < n = grind (arith, nat_tests, t) in
        let all = r.live y in
        let old = fewer_seen R.loans (named (in_arm fs x n l) y) (without_all (bound_names fs x) (named l y)) b (old_names fs x n l y less) in
        let some = masked (is_among (bound_by (case_arm F.source (Some (record { con = br; fields = fs; cell = x; body = b })) n number)) y) (live_here number lines y) in
        omega (arith, all, old, some)
    by_order y false t true k =
        let more : n ≤ y = grind (arith, nat_tests, t) in
        let less : y < n + bound_count fs x = grind (arith, nat_tests, k) in
        let none = hidden (is_among (bound_by (case_arm F.source (Some (record { con = br; fields = fs; cell = x; body = b })) n number)) y) (live_here number lines y) (among_bound F.source br fs x b n number y more less) in
        omega (arith, none)
    by_order y false t false k =
        let more : n + bound_count fs x ≤ y = grind (arith, nat_tests, k) in
        let all = r.live y in
        let none = none_seen R.loans (named (in_arm fs x n l) y) b (above_none F (arm_scope known_kind (types_of F.source) c fs x s) (in_arm fs x n l) (n + bound_count fs x) y inner more) in
        let some = masked (is_among (bound_by (case_arm F.source (Some (record { con = br; fields = fs; cell = x; body = b })) n number)) y) (live_here number lines y) in
        omega (arith, all, none, some)

-- what the body does to an owned local, and what comes behind it
pub arm_once : (F : Frame) (R : Ruled F) (s : Scope Kind) (l : Scope ℕ) (n number con next : ℕ) (c : Name) (fs : List (Option Name)) (x : ArmCell) (b : Expression) (as' : Arms) (lent : Bool) (flags : Scope Bool) (out : ℕ → ℕ) (y : ℕ)
    → Named F s l n → ArmFor F.source c fs con → At F.kinds n (bound_of F.source con x) → next ≤ n → ((y : ℕ) → next ≤ y → out y ≡ 0)
    → CellTaken (types_of F.source) lent c x
    → AreLent R.own (looked_by (case_arm F.source (Some (record { con = c; fields = fs; cell = x; body = b })) n number).cell (numbered n fs))
    → EachIsFair R.loans (types_of F.source) (arm_scope known_kind (types_of F.source) c fs x s) (arm_flags (types_of F.source) lent c fs x flags) (bound_names fs x) b
    → (R.own.owned y ≡ true → ArmsFair R.loans (named l y) (AndArm c fs x b as') × (arms_taken R.loans (named l y) (AndArm c fs x b as') + out y ≤ 1)) → R.own.owned y ≡ true
    → Fair R.loans (named (in_arm fs x n l) y) b × (taken R.loans (named (in_arm fs x n l) y) b + out y ≤ 1)
arm_once F R s l n number con next c fs x b as' lent flags out y st a at least zero cut looks each once own = by_order (nat_lt y n) refl
  where
    by_order : (t : Bool) → nat_lt y n ≡ t → Fair R.loans (named (in_arm fs x n l) y) b × (taken R.loans (named (in_arm fs x n l) y) b + out y ≤ 1)
    by_order true t =
        let less : y < n = grind (arith, nat_tests, t) in
        let old = fewer_taken R.loans (named (in_arm fs x n l) y) (without_all (bound_names fs x) (named l y)) b (old_names fs x n l y less) in
        let all = once own in
        let few = all.1 in
        (fewer_fair R.loans (named (in_arm fs x n l) y) (without_all (bound_names fs x) (named l y)) b (old_names fs x n l y less) all.0.0, omega (arith, old, few))
    by_order false t =
        let more : n ≤ y = grind (arith, nat_tests, t) in
        let fair = arm_new_fair F R s l n number con c fs x b lent flags y st a at cut looks each more own in
        let few = fair_taken R.loans (named (in_arm fs x n l) y) b fair in
        let most = seen_most R.loans (named (in_arm fs x n l) y) b in
        let none = zero y (omega (arith, more, least)) in
        (fair, omega (arith, few, most, none))

-- one of two arms, by the test on its constructor
pub arm_split : (p : Source) (o : Ownership) (t : Bool) (first : Branch) (other : Option Branch) (n number : ℕ) (xs ys follow : List Line) (most : ℕ → ℕ)
    → (t ≡ true → ArmLives o (case_arm p (Some first) n number) number (xs ++ follow) most) → (t ≡ false → ArmLives o (case_arm p other n number) number (ys ++ follow) most)
    → ArmLives o (case_arm p (if t then Some first else other) n number) number ((if t then xs else ys) ++ follow) most
arm_split p o true first other n number xs ys follow most one rest = one refl
arm_split p o false first other n number xs ys follow most one rest = rest refl

pub arm_more : (o : Ownership) (a : CaseArm) (number : ℕ) (lines : List Line) (most more : ℕ → ℕ) → ((y : ℕ) → most y ≤ more y)
    → ArmLives o a number lines most → ArmLives o a number lines more
arm_more o a number lines most more up r = record { live = λ y. (let a = r.live y in let b = up y in omega (arith, a, b)); once = r.once }
