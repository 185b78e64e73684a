-- The types that have a value are those that the marks say.
use Rattle.std.proofs.Common.{◌≡◌, ℕ, zero, suc, ◌+◌, ◌-◌, ◌<◌, Bool, true, false, List, [], ◌∷◌, length, Option, Some, None, refl, sym, ap, ◌∙◌, subst, arith, inl, inr, pos}
use Rattle.std.specs.Prelude.{◌⊎◌, slice_get, slice_set, nat_lt, if◌then◌else◌, ◌||◌}
use Rattle.std.specs.List.{list_all, list_any}
use Rattle.std.specs.Option.{option_map}
use Rattle.std.proofs.lemmas.Bool.Decides.{nat_tests}
use Rattle.camelot_values.specs.Value as value
use Rattle.camelot_values.specs.Value.{Value, Values, parts, part_count}
use Rattle.camelot_values.specs.Kinds.{DataType, Constructor, constructors, constructor, type_from, type_of}
use Rattle.camelot_values.specs.KindLaws.{located, slice_get_front, slice_get_behind}
use Rattle.camelot_values.specs.Typing.{Fits, FitAll}
use Rattle.camelot_values.specs.declared.kinds.Kind.{Kind}
use Rattle.camelot_values.specs.declared.kinds.Kind.TheVariants.{Int, Flag, Dia, Of}
use Rattle.value_text.specs.Due.{HaveValues}
use Rattle.value_text.specs.Finite.{is_marked, has_value, is_ready, HasValue, Sound, NoneReady, Exact}
use Rattle.value_text.specs.Inhabited.{first_con}
use Rattle.value_text.proofs.Words.{and_parts, and_both}
use Rattle.value_text.proofs.Comings.{some_is, is_some}

-- ---- numbers of constructors

within_cons : (cs : List Constructor) (j : ℕ) (con : Constructor) → slice_get cs j ≡ Some con → j < length cs
within_cons [] j con e = absurd cc
within_cons (c ∷ cs) zero con e = omega arith
within_cons (c ∷ cs) (suc j) con e = omega (arith, within_cons cs j con e)

pub con_at : (types : List DataType) (t j : ℕ) (d : DataType) (con : Constructor) → slice_get types t ≡ Some d → slice_get d.cons j ≡ Some con
    → constructor types (first_con types t + j) ≡ Some con
con_at [] t j d con e h = absurd cc
con_at (x ∷ types) zero j d con e h =
    let s : x ≡ d = cc in
    ap (constructor (x ∷ types)) (let n : 0 + j ≡ j = omega arith in n) ∙ slice_get_front x.cons (constructors types) j (within_cons x.cons j con (ap (λ y. slice_get y.cons j) s ∙ h)) ∙ ap (λ y. slice_get y.cons j) s ∙ h
con_at (x ∷ types) (suc t) j d con e h =
    slice_get_behind x.cons (constructors types) (length x.cons + first_con types t + j) (omega arith)
    ∙ ap (slice_get (constructors types)) (let n : length x.cons + first_con types t + j - length x.cons ≡ first_con types t + j = omega arith in n) ∙ con_at types t j d con e h

type_at_from : (number : ℕ) (types : List DataType) (t j : ℕ) (d : DataType) (con : Constructor) → slice_get types t ≡ Some d
    → slice_get d.cons j ≡ Some con → type_from number types (first_con types t + j) ≡ Some (number + t)
type_at_from number [] t j d con e h = absurd cc
type_at_from number (x ∷ types) zero j d con e h =
    let s : x ≡ d = cc in
    let k : j < length x.cons = within_cons x.cons j con (ap (λ y. slice_get y.cons j) s ∙ h) in
    let b : nat_lt (0 + j) (length x.cons) ≡ true = grind (arith, nat_tests, k) in
    ap (λ u. if u then Some number else type_from (suc number) types (0 + j - length x.cons)) b ∙ ap Some (omega arith)
type_at_from number (x ∷ types) (suc t) j d con e h =
    let c = length x.cons + first_con types t + j in
    let b : nat_lt c (length x.cons) ≡ false = grind (arith, nat_tests) in
    ap (λ u. if u then Some number else type_from (suc number) types (c - length x.cons)) b
    ∙ ap (type_from (suc number) types) (let n : length x.cons + first_con types t + j - length x.cons ≡ first_con types t + j = omega arith in n)
    ∙ type_at_from (suc number) types t j d con e h ∙ ap Some (omega arith)

pub type_at : (types : List DataType) (t j : ℕ) (d : DataType) (con : Constructor) → slice_get types t ≡ Some d → slice_get d.cons j ≡ Some con
    → type_of types (first_con types t + j) ≡ Some t
type_at types t j d con e h = type_at_from 0 types t j d con e h ∙ ap Some (omega arith)

-- ---- marks are sound

value_of_kind : (types : List DataType) (marks : List Bool) → Sound types marks → (q : Kind) → has_value marks q ≡ true → HasValue types q
value_of_kind types marks s Int h = record { value = value.Int (pos 0); fits = (refl, omega arith) }
value_of_kind types marks s Flag h = record { value = value.Flag true; fits = refl }
value_of_kind types marks s Dia h = record { value = value.Dia; fits = refl }
value_of_kind types marks s (Of t) h = s t h

pub values_of_kinds : (types : List DataType) (marks : List Bool) → ((q : Kind) → has_value marks q ≡ true → HasValue types q) → (qs : List Kind)
    → list_all (has_value marks) qs ≡ true → HaveValues types qs
values_of_kinds types marks s [] h = record { values = value.End; fit = tt }
values_of_kinds types marks s (q ∷ qs) h =
    let p = and_parts (has_value marks q) _ h in
    let v = s q p.0 in
    let r = values_of_kinds types marks s qs p.1 in record { values = value.And v.value r.values; fit = (v.fits, r.fit) }

pub kinds_of_values : (types : List DataType) (marks : List Bool) → ((q : Kind) → HasValue types q → has_value marks q ≡ true) → (qs : List Kind)
    → HaveValues types qs → list_all (has_value marks) qs ≡ true
kinds_of_values types marks f [] h = refl
kinds_of_values types marks f (q ∷ qs) h = by_values (λ r. kinds_of_values types marks f qs r) h.values h.fit
  where
    by_values : (HaveValues types qs → list_all (has_value marks) qs ≡ true) → (vs : Values) → FitAll types (q ∷ qs) vs
        → list_all (has_value marks) (q ∷ qs) ≡ true
    by_values g value.End k = absurd k
    by_values g (value.And v vs) k = and_both (has_value marks q) _ (f q (record { value = v; fits = k.0 })) (g (record { values = vs; fit = k.1 }))

-- one of these constructors is ready
some_ready : (p : Constructor → Bool) (cs : List Constructor) → list_any p cs ≡ true
    → (j : ℕ) × (con : Constructor) × (slice_get cs j ≡ Some con) × (p con ≡ true)
some_ready p [] h = absurd cc
some_ready p (c ∷ cs) h = by_first (λ k. some_ready p cs k) (p c) refl h
  where
    by_first : (list_any p cs ≡ true → (j : ℕ) × (con : Constructor) × (slice_get cs j ≡ Some con) × (p con ≡ true)) → (b : Bool) → p c ≡ b
        → (b || list_any p cs) ≡ true → (j : ℕ) × (con : Constructor) × (slice_get (c ∷ cs) j ≡ Some con) × (p con ≡ true)
    by_first f true e k = (0, c, refl, e)
    by_first f false e k = let (j, con, is, r) = f k in (suc j, con, is, r)

ready_some : (p : Constructor → Bool) (cs : List Constructor) (j : ℕ) (con : Constructor) → slice_get cs j ≡ Some con → p con ≡ true → list_any p cs ≡ true
ready_some p [] j con e h = absurd cc
ready_some p (c ∷ cs) zero con e h = let s : c ≡ con = cc in first (p c) (ap p s ∙ h)
  where
    first : (b : Bool) → b ≡ true → (b || list_any p cs) ≡ true
    first true k = refl
    first false k = absurd cc
ready_some p (c ∷ cs) (suc j) con e h = second (p c) (ready_some p cs j con e h)
  where
    second : (b : Bool) → list_any p cs ≡ true → (b || list_any p cs) ≡ true
    second true k = refl
    second false k = k

value_of_type : (types : List DataType) (marks : List Bool) (t : ℕ) (d : DataType) → Sound types marks → slice_get types t ≡ Some d
    → list_any (is_ready marks) d.cons ≡ true → HasValue types (Of t)
value_of_type types marks t d s e h =
    let (j, con, is, ready) = some_ready (is_ready marks) d.cons h in
    let vs = values_of_kinds types marks (value_of_kind types marks s) con.fields ready in
    record {
      value = value.Con (first_con types t + j) vs.values;
      fits = (ap (option_map Of) (type_at types t j d con e is), is_some (constructor types (first_con types t + j)) (λ con. FitAll types con.fields vs.values) con (con_at types t j d con e is) vs.fit);
    }

-- ---- one more mark

marked_set : (marks : List Bool) (t u : ℕ) → is_marked (slice_set marks t true) u ≡ true → (u ≡ t) ⊎ (is_marked marks u ≡ true)
marked_set [] t u h = inr h
marked_set (b ∷ marks) zero zero h = inl refl
marked_set (b ∷ marks) zero (suc u) h = inr h
marked_set (b ∷ marks) (suc t) zero h = inr h
marked_set (b ∷ marks) (suc t) (suc u) h = lift (marked_set marks t u h)
  where
    lift : (u ≡ t) ⊎ (is_marked marks u ≡ true) → (suc u ≡ suc t) ⊎ (is_marked marks u ≡ true)
    lift (inl e) = inl (ap suc e)
    lift (inr k) = inr k

pub one_more_mark : (types : List DataType) (marks : List Bool) (t : ℕ) (d : DataType) → Sound types marks → slice_get types t ≡ Some d
    → list_any (is_ready marks) d.cons ≡ true → Sound types (slice_set marks t true)
one_more_mark types marks t d s e h u m = either (marked_set marks t u m)
  where
    either : (u ≡ t) ⊎ (is_marked marks u ≡ true) → HasValue types (Of u)
    either (inl k) = subst (λ x. HasValue types (Of x)) (sym k) (value_of_type types marks t d s e h)
    either (inr k) = s u k

-- how many types are left
abbrev pub left_of : List Bool → ℕ
left_of [] = 0
left_of (true ∷ marks) = left_of marks
left_of (false ∷ marks) = suc (left_of marks)

-- ---- marks are complete

complete_step : (types : List DataType) (marks : List Bool) (c t : ℕ) (con : Constructor) → NoneReady types marks → constructor types c ≡ Some con
    → type_of types c ≡ Some t → is_ready marks con ≡ true → is_marked marks t ≡ true
complete_step types marks c t con n e k r =
    let l = located 0 types c t con e k in
    let here : slice_get types t ≡ Some l.def = ap (slice_get types) (l.number ∙ omega arith) ∙ l.is in
    by_mark (is_marked marks t) refl (λ f. n t l.def here f (ready_some (is_ready marks) l.def.cons l.place con l.con_is r))
  where
    by_mark : (b : Bool) → is_marked marks t ≡ b → (is_marked marks t ≡ false → ⊥) → is_marked marks t ≡ true
    by_mark true e f = e
    by_mark false e f = absurd (f e)

of_type : (types : List DataType) (marks : List Bool) (q : Kind) (c : ℕ) (o : Option ℕ) → type_of types c ≡ o
    → option_map Of (type_of types c) ≡ Some q → ((t : ℕ) → type_of types c ≡ Some t → is_marked marks t ≡ true) → has_value marks q ≡ true
of_type types marks q c None e k f = let bad : None ≡ Some q = sym (ap (option_map Of) e) ∙ k in absurd cc
of_type types marks q c (Some t) e k f = let s : Some (Of t) ≡ Some q = sym (ap (option_map Of) e) ∙ k in let same : Of t ≡ q = cc in subst (λ x. has_value marks x ≡ true) same (f t e)

mutual
  complete_value : (types : List DataType) (marks : List Bool) → NoneReady types marks → (v : Value) (q : Kind) → Fits types q v → has_value marks q ≡ true
  complete_value types marks n (value.Int z) q f = subst (λ k. has_value marks k ≡ true) (sym f.0) refl
  complete_value types marks n (value.Flag b) q f = subst (λ k. has_value marks k ≡ true) (sym f) refl
  complete_value types marks n value.Dia q f = subst (λ k. has_value marks k ≡ true) (sym f) refl
  complete_value types marks n (value.Con c vs) q f =
      let (con, is, fit) = some_is (constructor types c) (λ con. FitAll types con.fields vs) f.1 in
      let r = complete_all types marks n vs con.fields fit in
      of_type types marks q c (type_of types c) refl f.0 (λ t e. complete_step types marks c t con n is e r)

  complete_all : (types : List DataType) (marks : List Bool) → NoneReady types marks → (vs : Values) (qs : List Kind) → FitAll types qs vs
      → list_all (has_value marks) qs ≡ true
  complete_all types marks n value.End [] f = refl
  complete_all types marks n value.End (q ∷ qs) f = absurd f
  complete_all types marks n (value.And v vs) [] f = absurd f
  complete_all types marks n (value.And v vs) (q ∷ qs) f = and_both (has_value marks q) _ (complete_value types marks n v q f.0) (complete_all types marks n vs qs f.1)

pub exact_marks : (types : List DataType) (marks : List Bool) → Sound types marks → NoneReady types marks → Exact types marks
exact_marks types marks s n = record { sound = value_of_kind types marks s; complete = λ q v. complete_value types marks n v.value q v.fits }
