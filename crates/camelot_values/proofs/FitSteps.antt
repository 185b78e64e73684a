-- Whether nodes are those of values of these kinds, node by node, is whether the values are of the kinds.
use Rattle.std.proofs.Common.{◌≡◌, ℕ, suc, ◌+◌, ◌-◌, ◌<◌, ◌≤◌, Bool, true, false, List, [], ◌∷◌, ◌++◌, length, get_or, take, drop, reverse, Option, Some, None, refl, sym, ap, ◌∙◌, subst, arith, drop-cons, drop_of_length-le, add-one, append_assoc}
use Rattle.std.specs.Prelude.{◌↔◌, IsTrue, IsSomeAnd, ◌==◌, ◌&&◌, cond}
use Rattle.std.specs.Option.{option_map, option_map_or}
use Rattle.std.proofs.lemmas.Bool.Decides.{nat_tests}
use Rattle.std.proofs.Math.Seq.{take-suc}
use Rattle.std.proofs.lemmas.List.{reverse-append, reverse-reverse, length-reverse}
use Rattle.camelot_values.specs.Value as value
use Rattle.camelot_values.specs.Value.{Value, Values, part_count, is_int32, IsInt32}
use Rattle.camelot_values.specs.IntLaws.{passing_int, int_passes}
use Rattle.camelot_values.specs.Kinds.{DataType, Constructor, constructor, type_of, same_kind}
use Rattle.camelot_values.specs.Items.{nodes, nodes_all, items_of}
use Rattle.camelot_values.specs.Typing.{Fits, FitAll}
use Rattle.camelot_values.specs.Nodes.{fields_where, is_kind_of, parts_due, fits_nodes}
use Rattle.camelot_values.specs.declared.kinds.Kind.{Kind}
use Rattle.camelot_values.specs.declared.kinds.Kind.TheVariants as kind
use Rattle.camelot_values.specs.declared.value.Item.{Item}

same_true : (q k : Kind) → same_kind q k ≡ true → q ≡ k
same_true kind.Int kind.Int h = refl
same_true kind.Flag kind.Flag h = refl
same_true kind.Dia kind.Dia h = refl
same_true (kind.Of t) (kind.Of u) h = ap kind.Of (grind (arith, nat_tests, h))
same_true q k h = absurd cc

same_self : (q : Kind) → same_kind q q ≡ true
same_self kind.Int = refl
same_self kind.Flag = refl
same_self kind.Dia = refl
same_self (kind.Of t) = grind (arith, nat_tests)

-- what stands behind a test is nothing that holds, unless the test does
behind_test : {A : Type 0} (b : Bool) (o : Option A) (f : A → Bool) → option_map_or f (cond b o None) false ≡ true
    → (b ≡ true) × (option_map_or f o false ≡ true)
behind_test true o f h = (refl, h)
behind_test false o f h = absurd cc

past_test : {A : Type 0} (b : Bool) (o : Option A) (f : A → Bool) → b ≡ true → option_map_or f (cond b o None) false ≡ option_map_or f o false
past_test true o f h = refl
past_test false o f h = absurd cc

both_true : (a b : Bool) → (a && b) ≡ true → (a ≡ true) × (b ≡ true)
both_true true b h = (refl, h)
both_true false b h = absurd cc

true_both : (a b : Bool) → a ≡ true → b ≡ true → (a && b) ≡ true
true_both true b h k = k
true_both false b h k = absurd cc

kind_true : (q : Kind) (o : Option ℕ) → is_kind_of q o ≡ true → option_map kind.Of o ≡ Some q
kind_true q None h = absurd cc
kind_true q (Some t) h = ap Some (sym (same_true q (kind.Of t) h))

true_kind : (q : Kind) (o : Option ℕ) → option_map kind.Of o ≡ Some q → is_kind_of q o ≡ true
true_kind q None h = absurd cc
true_kind q (Some t) h = let e : kind.Of t ≡ q = cc in subst (λ k. same_kind q k ≡ true) (sym e) (same_self q)

fit_length : (types : List DataType) (qs : List Kind) (vs : Values) → FitAll types qs vs → length qs ≡ part_count vs
fit_length types [] value.End h = refl
fit_length types (q ∷ qs) (value.And v vs) h = ap suc (fit_length types qs vs h.1)
fit_length types [] (value.And v vs) h = absurd h
fit_length types (q ∷ qs) value.End h = absurd h

-- the fields of a constructor that has just n of them
has_fields : (n : ℕ) (o : Option Constructor) (f : List Kind → Bool) → option_map_or f (fields_where n o) false ≡ true
    → IsSomeAnd o (λ con. (length con.fields ≡ n) × (f con.fields ≡ true))
has_fields n None f h = absurd cc
has_fields n (Some con) f h = let p = behind_test (length con.fields == n) (Some con.fields) f h in (grind (arith, nat_tests, p.0), p.1)

fields_are : (n : ℕ) (o : Option Constructor) (f : List Kind → Bool) (b : Bool) → IsSomeAnd o (λ con. (length con.fields ≡ n) × (f con.fields ≡ b))
    → option_map_or f (fields_where n o) false ≡ b
fields_are n None f b h = absurd h
fields_are n (Some con) f b h = past_test (length con.fields == n) (Some con.fields) f (grind (arith, nat_tests, h.0)) ∙ h.1

some_and : {A : Type 0} (o : Option A) (P Q : A → Type 0) → ((x : A) → P x → Q x) → IsSomeAnd o P → IsSomeAnd o Q
some_and None P Q f h = absurd h
some_and (Some x) P Q f h = f x h

some_pick : {A B : Type 0} (o : Option A) (P : A → Type 0) → ((x : A) → P x → B) → IsSomeAnd o P → B
some_pick None P f h = absurd h
some_pick (Some x) P f h = f x h

mutual
  fits_sound : (types : List DataType) (q : Kind) (v : Value) (qs : List Kind) (rest : List Item) → fits_nodes types (q ∷ qs) (nodes v rest) ≡ true
      → Fits types q v × (fits_nodes types qs rest ≡ true)
  fits_sound types q (value.Int z) qs rest h =
      let p = behind_test (same_kind q kind.Int && is_int32 z) (Some []) (λ fields. fits_nodes types (fields ++ qs) rest) h in
      let b = both_true (same_kind q kind.Int) (is_int32 z) p.0 in ((same_true q kind.Int b.0, passing_int z b.1), p.1)
  fits_sound types q (value.Flag b) qs rest h = let p = behind_test (same_kind q kind.Flag) (Some []) (λ fields. fits_nodes types (fields ++ qs) rest) h in (same_true q kind.Flag p.0, p.1)
  fits_sound types q value.Dia qs rest h = let p = behind_test (same_kind q kind.Dia) (Some []) (λ fields. fits_nodes types (fields ++ qs) rest) h in (same_true q kind.Dia p.0, p.1)
  fits_sound types q (value.Con c vs) qs rest h =
      let f = λ (fields : List Kind). fits_nodes types (fields ++ qs) (nodes_all vs rest) in
      let p = behind_test (is_kind_of q (type_of types c)) (fields_where (part_count vs) (constructor types c)) f h in
      let k = has_fields (part_count vs) (constructor types c) f p.1 in (
        (kind_true q (type_of types c) p.0, some_and (constructor types c) _ (λ con. FitAll types con.fields vs) (λ con g. (all_sound types vs con.fields qs rest g.0 g.1).0) k),
        some_pick (constructor types c) _ (λ con g. (all_sound types vs con.fields qs rest g.0 g.1).1) k,
      )

  all_sound : (types : List DataType) (vs : Values) (ps qs : List Kind) (rest : List Item) → length ps ≡ part_count vs
      → fits_nodes types (ps ++ qs) (nodes_all vs rest) ≡ true → FitAll types ps vs × (fits_nodes types qs rest ≡ true)
  all_sound types value.End [] qs rest n h = (tt, h)
  all_sound types value.End (p ∷ ps) qs rest n h = absurd (omega (arith, n))
  all_sound types (value.And v vs) [] qs rest n h = absurd (omega (arith, n))
  all_sound types (value.And v vs) (p ∷ ps) qs rest n h =
      let a = fits_sound types p v (ps ++ qs) (nodes_all vs rest) h in
      let b = all_sound types vs ps qs rest (omega (arith, n)) a.1 in ((a.0, b.0), b.1)

mutual
  fits_complete : (types : List DataType) (q : Kind) (v : Value) (qs : List Kind) (rest : List Item) → Fits types q v
      → fits_nodes types (q ∷ qs) (nodes v rest) ≡ fits_nodes types qs rest
  fits_complete types q (value.Int z) qs rest h = past_test (same_kind q kind.Int && is_int32 z) (Some []) (λ fields. fits_nodes types (fields ++ qs) rest) (true_both (same_kind q kind.Int) (is_int32 z) (subst (λ k. same_kind k kind.Int ≡ true) (sym h.0) refl) (int_passes z h.1))
  fits_complete types q (value.Flag b) qs rest h = past_test (same_kind q kind.Flag) (Some []) (λ fields. fits_nodes types (fields ++ qs) rest) (subst (λ k. same_kind k kind.Flag ≡ true) (sym h) refl)
  fits_complete types q value.Dia qs rest h = past_test (same_kind q kind.Dia) (Some []) (λ fields. fits_nodes types (fields ++ qs) rest) (subst (λ k. same_kind k kind.Dia ≡ true) (sym h) refl)
  fits_complete types q (value.Con c vs) qs rest h =
      let f = λ (fields : List Kind). fits_nodes types (fields ++ qs) (nodes_all vs rest) in
      past_test (is_kind_of q (type_of types c)) (fields_where (part_count vs) (constructor types c)) f (true_kind q (type_of types c) h.0)
      ∙ fields_are (part_count vs) (constructor types c) f (fits_nodes types qs rest)
      (some_and (constructor types c) (λ con. FitAll types con.fields vs) _ (λ con g. (fit_length types con.fields vs g, all_complete types vs con.fields qs rest g)) h.1)

  all_complete : (types : List DataType) (vs : Values) (ps qs : List Kind) (rest : List Item) → FitAll types ps vs
      → fits_nodes types (ps ++ qs) (nodes_all vs rest) ≡ fits_nodes types qs rest
  all_complete types value.End [] qs rest h = refl
  all_complete types value.End (p ∷ ps) qs rest h = absurd h
  all_complete types (value.And v vs) [] qs rest h = absurd h
  all_complete types (value.And v vs) (p ∷ ps) qs rest h = fits_complete types p v (ps ++ qs) (nodes_all vs rest) h.0 ∙ all_complete types vs ps qs rest h.1

pub fits_read : (types : List DataType) (q : Kind) (xs : List Item) (v : Value) (b : Bool) → xs ≡ items_of v → b ≡ fits_nodes types (q ∷ []) xs
    → IsTrue b ↔ Fits types q v
fits_read types q xs v b e h =
    let s = ap (fits_nodes types (q ∷ [])) e in
    (λ t. (fits_sound types q v [] [] (sym s ∙ sym h ∙ t)).0, λ f. h ∙ s ∙ fits_complete types q v [] [] f)

-- ---- steps of the loop

-- the last of the stack is the next kind that is due
last_first : (qs rs : List Kind) (q : Kind) → qs ≡ rs ++ q ∷ [] → reverse qs ≡ q ∷ reverse rs
last_first qs rs q e = ap reverse e ∙ reverse-append rs (q ∷ [])

pub fits_on : (types : List DataType) (xs : List Item) (i : ℕ) (x : Item) (old rest new fields : List Kind) (q : Kind) (b : Bool) → i < length xs
    → x ≡ get_or xs i x
    → b ≡ fits_nodes types (reverse old) (drop i xs) → old ≡ rest ++ q ∷ [] → Some fields ≡ parts_due types q x → new ≡ rest ++ reverse fields
    → b ≡ fits_nodes types (reverse new) (drop (i + 1) xs)
fits_on types xs i x old rest new fields q b h is e last due push =
    e ∙ ap (λ qs. fits_nodes types qs (drop i xs)) (last_first old rest q last)
    ∙ ap (fits_nodes types (q ∷ reverse rest)) (drop-cons xs i x h ∙ ap (λ y. y ∷ drop (suc i) xs) (sym is))
    ∙ ap (λ o. option_map_or (λ fields. fits_nodes types (fields ++ reverse rest) (drop (suc i) xs)) o false) (sym due)
    ∙ ap (λ qs. fits_nodes types qs (drop (suc i) xs)) (sym (ap reverse push ∙ reverse-append rest (reverse fields) ∙ ap (λ l. l ++ reverse rest) (reverse-reverse fields)))
    ∙ ap (λ n. fits_nodes types (reverse new) (drop n xs)) (sym (add-one i))

pub fits_not : (types : List DataType) (first : Kind) (v : Value) (xs : List Item) (i : ℕ) (d : Item) (old rest : List Kind) (q : Kind)
    → xs ≡ items_of v → i < length xs
    → fits_nodes types (first ∷ []) xs ≡ fits_nodes types (reverse old) (drop i xs) → old ≡ rest ++ q ∷ [] → None ≡ parts_due types q (get_or xs i d) → IsTrue false ↔ Fits types first v
fits_not types first v xs i d old rest q all h e last due =
    let no = e ∙ ap (λ qs. fits_nodes types qs (drop i xs)) (last_first old rest q last) ∙ ap (fits_nodes types (q ∷ reverse rest)) (drop-cons xs i d h)
    ∙ ap (λ o. option_map_or (λ fields. fits_nodes types (fields ++ reverse rest) (drop (suc i) xs)) o false) (sym due) in
    fits_read types first xs v false all (sym no)

nothing : {A : Type 0} (xs : List A) → length xs ≡ 0 → xs ≡ []
nothing [] h = refl
nothing (x ∷ xs) h = absurd (omega (arith, h))

pub fits_past : (types : List DataType) (first : Kind) (v : Value) (xs : List Item) (i : ℕ) (d : Item) (old : List Kind) → xs ≡ items_of v → i < length xs
    → fits_nodes types (first ∷ []) xs ≡ fits_nodes types (reverse old) (drop i xs) → length old ≡ 0 → IsTrue false ↔ Fits types first v
fits_past types first v xs i d old all h e none =
    let no = e ∙ ap (λ qs. fits_nodes types (reverse qs) (drop i xs)) (nothing old none) ∙ ap (fits_nodes types []) (drop-cons xs i d h) in
    fits_read types first xs v false all (sym no)

none_left : (types : List DataType) (qs : List Kind) → fits_nodes types qs [] ≡ (length qs == 0)
none_left types [] = refl
none_left types (q ∷ qs) = grind (arith, nat_tests)

pub fits_end : (types : List DataType) (first : Kind) (v : Value) (xs : List Item) (i n : ℕ) (due : List Kind) → xs ≡ items_of v → length xs ≤ i
    → n ≡ length due
    → fits_nodes types (first ∷ []) xs ≡ fits_nodes types (reverse due) (drop i xs) → IsTrue (n == 0) ↔ Fits types first v
fits_end types first v xs i n due all h k e =
    let s = e ∙ ap (fits_nodes types (reverse due)) (drop_of_length-le xs {i = i} h) ∙ none_left types (reverse due) ∙ ap (λ m. m == 0) (length-reverse due ∙ sym k) in
    fits_read types first xs v (n == 0) all (sym s)

-- the kind before the ones that are on the stack
pub one_more_due : (kinds old new all : List Kind) (left : ℕ) (q : Kind) → 0 < left → left ≤ length kinds → q ≡ get_or kinds (left - 1) q → new ≡ old ++ q ∷ []
    → old ++ reverse (take left kinds) ≡ all → new ++ reverse (take (left - 1) kinds) ≡ all
one_more_due kinds old new all left q pos within is push e =
    ap (λ l. l ++ reverse (take (left - 1) kinds)) push ∙ append_assoc old (q ∷ []) (reverse (take (left - 1) kinds))
    ∙ ap (λ l. old ++ l) (sym (last_first (take left kinds) (take (left - 1) kinds) q ((let n : left ≡ suc (left - 1) = omega (arith, pos) in ap (λ m. take m kinds) n) ∙ take-suc kinds (left - 1) q (omega arith) ∙ ap (λ x. take (left - 1) kinds ++ x ∷ []) (sym is)))) ∙ e
