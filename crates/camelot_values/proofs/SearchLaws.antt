-- The search for the types in a type finds all of them, and no others.
use Rattle.std.proofs.Common.{◌≡◌, ℕ, zero, suc, ◌+◌, ◌-◌, ◌<◌, ◌≤◌, Bool, true, false, List, [], ◌∷◌, ◌++◌, length, get_or, drop, map, Option, Some, None, refl, sym, ap, ◌∙◌, subst, arith, drop-cons, add-one}
use Rattle.std.specs.Prelude.{slice_get, slice_set, flat_map, IsTrue, ◌⊎◌, ◌↔◌, nat_lt, if◌then◌else◌, ◌==◌, ◌||◌, replicate}
use Rattle.std.specs.Option.{option_map_or}
use Rattle.std.proofs.Common.{inl, inr}
use Rattle.std.proofs.lemmas.Option.{slice_get_within, slice_get_past}
use Rattle.std.proofs.lemmas.List.{length-map}
use Rattle.std.proofs.lemmas.Bool.Decides.{nat_tests}
use Rattle.camelot_values.specs.declared.kinds.Con.{Con}
use Rattle.camelot_values.specs.declared.kinds.TypeDef.{TypeDef}
use Rattle.camelot_values.specs.declared.kinds.Kind.{Kind}
use Rattle.camelot_values.specs.declared.kinds.Kind.TheVariants.{Int, Flag, Dia, Of}
use Rattle.camelot_values.specs.declared.reach.Mark.{Mark}
use Rattle.camelot_values.specs.declared.reach.Mark.TheVariants.{New, Waiting, Seen}
use Rattle.std.specs.List.{list_any}
use Rattle.camelot_values.specs.Kinds.{DataType, data_type_of, constructor_of, type_from, type_of}
use Rattle.camelot_values.specs.Heap.{fields_of, fields_at, is_of, HoldsType, LeadsTo, IsLedTo, Reaches, is_heap, is_heap_type}
use Rattle.camelot_values.specs.Search.{met, wait, spread, NoneWaits, Searched}

spread-append : (xs ys : List Kind) (marks : List Mark) → spread (xs ++ ys) marks ≡ spread ys (spread xs marks)
spread-append [] ys marks = refl
spread-append (x ∷ xs) ys marks = spread-append xs ys (wait x marks)

pub one_con_more : (cons : List Con) (i : ℕ) (c : Con) (marks new first : List Mark) → i < length cons → c ≡ get_or cons i c
    → spread (flat_map (λ c. c.fields) (map constructor_of (drop i cons))) marks ≡ first → new ≡ spread (constructor_of c).fields marks
    → spread (flat_map (λ c. c.fields) (map constructor_of (drop (i + 1) cons))) new ≡ first
one_con_more cons i c marks new first h is e n =
    ap (λ m. spread (flat_map (λ c. c.fields) (map constructor_of (drop (i + 1) cons))) m) n
    ∙ sym (spread-append (constructor_of c).fields (flat_map (λ c. c.fields) (map constructor_of (drop (i + 1) cons))) marks)
    ∙ ap (λ x. spread ((constructor_of x).fields ++ flat_map (λ c. c.fields) (map constructor_of (drop (i + 1) cons))) marks) is
    ∙ ap (λ k. spread ((constructor_of (get_or cons i c)).fields ++ flat_map (λ c. c.fields) (map constructor_of (drop k cons))) marks) (add-one i)
    ∙ ap (λ ds. spread (flat_map (λ c. c.fields) (map constructor_of ds)) marks) (sym (drop-cons cons i c h)) ∙ e

-- ---- marks

get_set_same : (ms : List Mark) (u : ℕ) (x : Mark) → u < length ms → slice_get (slice_set ms u x) u ≡ Some x
get_set_same [] u x h = absurd (omega arith)
get_set_same (m ∷ ms) zero x h = refl
get_set_same (m ∷ ms) (suc u) x h = get_set_same ms u x (omega arith)

get_set_other : (ms : List Mark) (u y : ℕ) (x : Mark) → (u ≡ y → ⊥) → slice_get (slice_set ms u x) y ≡ slice_get ms y
get_set_other [] u y x h = refl
get_set_other (m ∷ ms) zero zero x h = absurd (h refl)
get_set_other (m ∷ ms) zero (suc y) x h = refl
get_set_other (m ∷ ms) (suc u) zero x h = refl
get_set_other (m ∷ ms) (suc u) (suc y) x h = get_set_other ms u y x (λ e. h (ap suc e))

length_set : (ms : List Mark) (u : ℕ) (x : Mark) → length (slice_set ms u x) ≡ length ms
length_set [] u x = refl
length_set (m ∷ ms) zero x = refl
length_set (m ∷ ms) (suc u) x = ap suc (length_set ms u x)

same_place : (u y : ℕ) → (u ≡ y) ⊎ (u ≡ y → ⊥)
same_place zero zero = inl refl
same_place zero (suc y) = inr (λ e. absurd (omega arith))
same_place (suc u) zero = inr (λ e. absurd (omega arith))
same_place (suc u) (suc y) = lift (same_place u y)
  where
    lift : (u ≡ y) ⊎ (u ≡ y → ⊥) → (suc u ≡ suc y) ⊎ (suc u ≡ suc y → ⊥)
    lift (inl e) = inl (ap suc e)
    lift (inr n) = inr (λ e. n (omega arith))

-- ---- one type more

-- while the fields of the type at `place` are looked at, these of them are left
record Between (types : List DataType) (first place : ℕ) (left : List Kind) (marks : List Mark) : Type 0 where
  size : length marks ≡ 64
  begun : slice_get marks first ≡ Some New → ⊥
  sound : (u : ℕ) (m : Mark) → slice_get marks u ≡ Some m → (m ≡ New → ⊥) → IsLedTo types first u
  closed : (t u : ℕ) → slice_get marks t ≡ Some Seen → HoldsType types t u → slice_get marks u ≡ Some New → (t ≡ place) × IsTrue (list_any (is_of u) left)
  here : IsLedTo types first place
  fields : (u : ℕ) → IsTrue (list_any (is_of u) left) → HoldsType types place u

one_more : (types : List DataType) (t : ℕ) (path : List ℕ) (u v : ℕ) → LeadsTo types t path u → HoldsType types u v → LeadsTo types t (path ++ (v ∷ [])) v
one_more types t [] u v h g = (subst (λ x. HoldsType types x v) (sym h) g, refl)
one_more types t (w ∷ path) u v h g = (h.0, one_more types w path u v h.1 g)

not_new : (m : Mark) → (m ≡ New → ⊥) → (o : Option Mark) → o ≡ Some m → o ≡ Some New → ⊥
not_new m n o e f = n (some_same m New (sym e ∙ f))
  where
    some_same : (a b : Mark) → Some a ≡ Some b → a ≡ b
    some_same a b g = cc

begin_fields : (types : List DataType) (first place : ℕ) (marks : List Mark) → Searched types first marks → slice_get marks place ≡ Some Waiting
    → Between types first place (fields_at types place) (slice_set marks place Seen)
begin_fields types first place marks s w = record {
  size = length_set marks place Seen ∙ s.size;
  begun = λ e. s.begun (old first e);
  sound = λ u m e n. sound u m e n (same_place place u);
  closed = λ t u d h e. closed t u d h (old u e) (same_place place t);
  here = s.sound place Waiting w (λ e. absurd cc);
  fields = λ u h. h;
}
  where
    within : place < length marks
    within = slice_get_within marks place Waiting w

    old : (u : ℕ) → slice_get (slice_set marks place Seen) u ≡ Some New → slice_get marks u ≡ Some New
    old u e = by_place u e (same_place place u)
      where
        by_place : (u : ℕ) → slice_get (slice_set marks place Seen) u ≡ Some New → (place ≡ u) ⊎ (place ≡ u → ⊥) → slice_get marks u ≡ Some New
        by_place u e (inl p) = let f : Some Seen ≡ Some New = sym (get_set_same marks place Seen (slice_get_within marks place Waiting w)) ∙ ap (slice_get (slice_set marks place Seen)) p ∙ e in absurd cc
        by_place u e (inr n) = sym (get_set_other marks place u Seen n) ∙ e

    sound : (u : ℕ) (m : Mark) → slice_get (slice_set marks place Seen) u ≡ Some m → (m ≡ New → ⊥) → (place ≡ u) ⊎ (place ≡ u → ⊥) → IsLedTo types first u
    sound u m e n (inl p) = subst (IsLedTo types first) p (s.sound place Waiting w (λ x. absurd cc))
    sound u m e n (inr p) = s.sound u m (sym (get_set_other marks place u Seen p) ∙ e) n

    closed : (t u : ℕ) → slice_get (slice_set marks place Seen) t ≡ Some Seen → HoldsType types t u → slice_get marks u ≡ Some New
        → (place ≡ t) ⊎ (place ≡ t → ⊥) → (t ≡ place) × IsTrue (list_any (is_of u) (fields_at types place))
    closed t u d h e (inl p) = (sym p, subst (λ x. HoldsType types x u) (sym p) h)
    closed t u d h e (inr n) = absurd (s.closed t u (sym (get_set_other marks place t Seen n) ∙ d) h e)

-- ---- one field more

-- the mark of the type at u becomes Waiting, where it was New and u is the type of the field
wait_met : (types : List DataType) (first place u : ℕ) (left : List Kind) (marks : List Mark) → Between types first place (Of u ∷ left) marks
    → slice_get marks u ≡ Some New
    → Between types first place left (slice_set marks u Waiting)
wait_met types first place u left marks b new = record {
  size = length_set marks u Waiting ∙ b.size;
  begun = λ e. b.begun (old first e (same_place u first)).0;
  sound = λ y m e n. sound y m e n (same_place u y);
  closed = λ t y d h e. closed t y d h e (same_place u t) (same_place u y);
  here = b.here;
  fields = λ y h. b.fields y (later y h);
}
  where
    later : (y : ℕ) → IsTrue (list_any (is_of y) left) → IsTrue (list_any (is_of y) (Of u ∷ left))
    later y h = either (u == y) h
      where
        either : (c : Bool) → IsTrue (list_any (is_of y) left) → IsTrue (c || list_any (is_of y) left)
        either true h = refl
        either false h = h

    old : (y : ℕ) → slice_get (slice_set marks u Waiting) y ≡ Some New → (u ≡ y) ⊎ (u ≡ y → ⊥) → (slice_get marks y ≡ Some New) × (u ≡ y → ⊥)
    old y e (inl p) = let f : Some Waiting ≡ Some New = sym (get_set_same marks u Waiting (slice_get_within marks u New new)) ∙ ap (slice_get (slice_set marks u Waiting)) p ∙ e in absurd cc
    old y e (inr n) = (sym (get_set_other marks u y Waiting n) ∙ e, n)

    sound : (y : ℕ) (m : Mark) → slice_get (slice_set marks u Waiting) y ≡ Some m → (m ≡ New → ⊥) → (u ≡ y) ⊎ (u ≡ y → ⊥) → IsLedTo types first y
    sound y m e n (inl p) =
        let self : (u == u) ≡ true = grind (arith, nat_tests) in
        let held : HoldsType types place u = b.fields u (ap (λ c. c || list_any (is_of u) left) self) in
        let l = b.here in
        subst (IsLedTo types first) p (l.0 ++ (u ∷ []), one_more types first l.0 place u l.1 held)
    sound y m e n (inr p) = b.sound y m (sym (get_set_other marks u y Waiting p) ∙ e) n

    closed : (t y : ℕ) → slice_get (slice_set marks u Waiting) t ≡ Some Seen → HoldsType types t y
        → slice_get (slice_set marks u Waiting) y ≡ Some New → (u ≡ t) ⊎ (u ≡ t → ⊥) → (u ≡ y) ⊎ (u ≡ y → ⊥)
        → (t ≡ place) × IsTrue (list_any (is_of y) left)
    closed t y d h e (inl p) q = let f : Some Waiting ≡ Some Seen = sym (get_set_same marks u Waiting (slice_get_within marks u New new)) ∙ ap (slice_get (slice_set marks u Waiting)) p ∙ d in absurd cc
    closed t y d h e (inr p) q =
        let o = old y e q in
        let c = b.closed t y (sym (get_set_other marks u t Waiting p) ∙ d) h o.0 in
        (c.0, other c.1 (u == y) (grind (arith, nat_tests, o.1)))
      where
        other : IsTrue (list_any (is_of y) (Of u ∷ left)) → (c : Bool) → (u == y) ≡ false → IsTrue (list_any (is_of y) left)
        other h c f = ap (λ d. d || list_any (is_of y) left) (sym f) ∙ h

-- a field of no type, or of one that was met before
wait_old : (types : List DataType) (first place : ℕ) (q : Kind) (left : List Kind) (marks : List Mark) → Between types first place (q ∷ left) marks
    → ((y : ℕ) → IsTrue (is_of y q) → slice_get marks y ≡ Some New → ⊥) → Between types first place left marks
wait_old types first place q left marks b met_before = record {
  size = b.size;
  begun = b.begun;
  sound = b.sound;
  closed = λ t y d h e. let c = b.closed t y d h e in (c.0, other y e (is_of y q) refl c.1);
  here = b.here;
  fields = λ y h. b.fields y (later y (is_of y q) h);
}
  where
    later : (y : ℕ) (c : Bool) → IsTrue (list_any (is_of y) left) → IsTrue (c || list_any (is_of y) left)
    later y true h = refl
    later y false h = h

    other : (y : ℕ) → slice_get marks y ≡ Some New → (c : Bool) → is_of y q ≡ c → IsTrue (c || list_any (is_of y) left) → IsTrue (list_any (is_of y) left)
    other y e true is h = absurd (met_before y is e)
    other y e false is h = h

wait_one : (types : List DataType) (first place : ℕ) (q : Kind) (left : List Kind) (marks : List Mark) → Between types first place (q ∷ left) marks
    → Between types first place left (wait q marks)
wait_one types first place Int left marks b = wait_old types first place Int left marks b (λ y h e. absurd cc)
wait_one types first place Flag left marks b = wait_old types first place Flag left marks b (λ y h e. absurd cc)
wait_one types first place Dia left marks b = wait_old types first place Dia left marks b (λ y h e. absurd cc)
wait_one types first place (Of u) left marks b = by_mark (slice_get marks u) refl
  where
    seen : (o : Option Mark) → slice_get marks u ≡ o → (o ≡ Some New → ⊥) → (y : ℕ) → IsTrue (is_of y (Of u)) → slice_get marks y ≡ Some New → ⊥
    seen o e n y h f = let p : u ≡ y = grind (arith, nat_tests, h) in n (sym e ∙ ap (slice_get marks) p ∙ f)

    by_mark : (o : Option Mark) → slice_get marks u ≡ o → Between types first place left (met o u marks)
    by_mark None e = wait_old types first place (Of u) left marks b (seen None e (λ x. absurd cc))
    by_mark (Some New) e = wait_met types first place u left marks b e
    by_mark (Some Waiting) e = wait_old types first place (Of u) left marks b (seen (Some Waiting) e (λ x. absurd cc))
    by_mark (Some Seen) e = wait_old types first place (Of u) left marks b (seen (Some Seen) e (λ x. absurd cc))

wait_all : (types : List DataType) (first place : ℕ) (left : List Kind) (marks : List Mark) → Between types first place left marks
    → Between types first place [] (spread left marks)
wait_all types first place [] marks b = b
wait_all types first place (q ∷ left) marks b = wait_all types first place left (wait q marks) (wait_one types first place q left marks b)

pub one_type_more : (types : List DataType) (first place : ℕ) (marks : List Mark) → Searched types first marks → slice_get marks place ≡ Some Waiting
    → Searched types first (spread (fields_at types place) (slice_set marks place Seen))
one_type_more types first place marks s w =
    let b = wait_all types first place (fields_at types place) (slice_set marks place Seen) (begin_fields types first place marks s w) in
    record { size = b.size; begun = b.begun; sound = b.sound; closed = λ t u d h e. let c = b.closed t u d h e in absurd cc }

-- ---- the measure: what is still to be done

abbrev pub weight_of : Mark → ℕ
weight_of New = 2
weight_of Waiting = 1
weight_of Seen = 0

abbrev pub weight : List Mark → ℕ
weight [] = 0
weight (m ∷ ms) = weight_of m + weight ms

weight_set : (ms : List Mark) (u : ℕ) (m x : Mark) → slice_get ms u ≡ Some m → weight (slice_set ms u x) + weight_of m ≡ weight ms + weight_of x
weight_set [] u m x e = let f : None ≡ Some m = e in absurd cc
weight_set (n ∷ ms) zero m x e = let f : n ≡ m = cc in subst (λ k. (weight_of x + weight ms) + weight_of k ≡ (weight_of n + weight ms) + weight_of x) f (omega arith)
weight_set (n ∷ ms) (suc u) m x e = omega (arith, weight_set ms u m x e)

weight_wait : (q : Kind) (ms : List Mark) → weight (wait q ms) ≤ weight ms
weight_wait Int ms = omega arith
weight_wait Flag ms = omega arith
weight_wait Dia ms = omega arith
weight_wait (Of u) ms = by_mark (slice_get ms u) refl
  where
    by_mark : (o : Option Mark) → slice_get ms u ≡ o → weight (met o u ms) ≤ weight ms
    by_mark None e = omega arith
    by_mark (Some New) e = let w : weight (slice_set ms u Waiting) + 2 ≡ weight ms + 1 = weight_set ms u New Waiting e in omega arith
    by_mark (Some Waiting) e = omega arith
    by_mark (Some Seen) e = omega arith

weight_spread : (qs : List Kind) (ms : List Mark) → weight (spread qs ms) ≤ weight ms
weight_spread [] ms = omega arith
weight_spread (q ∷ qs) ms = omega (arith, weight_spread qs (wait q ms), weight_wait q ms)

pub less_left : (qs : List Kind) (ms : List Mark) (place : ℕ) → slice_get ms place ≡ Some Waiting → weight (spread qs (slice_set ms place Seen)) < weight ms
less_left qs ms place e =
    let w : weight (slice_set ms place Seen) + 1 ≡ weight ms + 0 = weight_set ms place Waiting Seen e in
    omega (arith, weight_spread qs (slice_set ms place Seen))

-- ---- the beginning and the end

pub is_within : (ms : List Mark) (place : ℕ) → slice_get ms place ≡ Some Waiting → place < length ms
is_within ms place e = slice_get_within ms place Waiting e

all_new : (n u : ℕ) (m : Mark) → slice_get (replicate n New) u ≡ Some m → m ≡ New
all_new zero u m e = let f : None ≡ Some m = e in absurd cc
all_new (suc n) zero m e = let f : Some New ≡ Some m = e in cc
all_new (suc n) (suc u) m e = all_new n u m e

length_new : (n : ℕ) → length (replicate n New) ≡ n
length_new zero = refl
length_new (suc n) = ap suc (length_new n)

starts_new : (types : List DataType) (n first : ℕ) → n ≡ 64 → first < n → Searched types first (slice_set (replicate n New) first Waiting)
starts_new types n first size h = record {
  size = length_set (replicate n New) first Waiting ∙ length_new n ∙ size;
  begun = λ e. let f : Some Waiting ≡ Some New = sym here ∙ e in absurd cc;
  sound = λ u m e o. sound u m e o (same_place first u);
  closed = λ t u d g e. none t d (same_place first t);
}
  where
    here : slice_get (slice_set (replicate n New) first Waiting) first ≡ Some Waiting
    here = get_set_same (replicate n New) first Waiting (omega (arith, length_new n))

    sound : (u : ℕ) (m : Mark) → slice_get (slice_set (replicate n New) first Waiting) u ≡ Some m → (m ≡ New → ⊥) → (first ≡ u) ⊎ (first ≡ u → ⊥)
        → IsLedTo types first u
    sound u m e o (inl p) = ([], p)
    sound u m e o (inr p) = absurd (o (all_new n u m (sym (get_set_other (replicate n New) first u Waiting p) ∙ e)))

    none : (t : ℕ) → slice_get (slice_set (replicate n New) first Waiting) t ≡ Some Seen → (first ≡ t) ⊎ (first ≡ t → ⊥) → ⊥
    none t d (inl p) = let f : Some Waiting ≡ Some Seen = sym (get_set_same (replicate n New) first Waiting (omega (arith, length_new n))) ∙ ap (slice_get (slice_set (replicate n New) first Waiting)) p ∙ d in absurd cc
    none t d (inr p) = let f : Seen ≡ New = all_new n t Seen (sym (get_set_other (replicate n New) first t Waiting p) ∙ d) in absurd cc

pub first_search : (types : List DataType) (first : ℕ) → first < 64 → Searched types first (slice_set (replicate 64 New) first Waiting)
first_search types first h = starts_new types 64 first refl h

-- a type that isn't there holds none
holds_none : (types : List DataType) (t v : ℕ) → length types ≤ t → HoldsType types t v → ⊥
holds_none types t v h held = let f : false ≡ true = ap (λ o. list_any (is_of v) (option_map_or fields_of o [])) (sym (slice_get_past types t h)) ∙ held in absurd cc

beyond : (marks : List Mark) (t : ℕ) → slice_get marks t ≡ None → length marks ≤ t
beyond [] t e = omega arith
beyond (m ∷ ms) zero e = let f : Some m ≡ None = e in absurd cc
beyond (m ∷ ms) (suc t) e = omega (arith, beyond ms t e)

-- once none waits, what is led to was met
met_all : (types : List DataType) (first : ℕ) (marks : List Mark) → length types ≤ 64 → Searched types first marks → NoneWaits marks
    → (t : ℕ) (path : List ℕ) (u : ℕ)
    → LeadsTo types t path u → (slice_get marks t ≡ Some New → ⊥) → slice_get marks u ≡ Some New → ⊥
met_all types first marks few s done t [] u l n e = n (ap (slice_get marks) l ∙ e)
met_all types first marks few s done t (v ∷ path) u l n e =
    met_all types first marks few s done v path u l.1 (λ f. by_mark (slice_get marks t) refl f) e
  where
    by_mark : (o : Option Mark) → slice_get marks t ≡ o → slice_get marks v ≡ Some New → ⊥
    by_mark None is f = holds_none types t v (omega (arith, beyond marks t is, s.size)) l.0
    by_mark (Some New) is f = n is
    by_mark (Some Waiting) is f = done t is
    by_mark (Some Seen) is f = s.closed t v is l.0 f

-- the answer by the mark of the type that was looked for
pub found_is : (types : List DataType) (first last : ℕ) (marks : List Mark) (met : Bool) → length types ≤ 64 → last < 64 → Searched types first marks
    → NoneWaits marks
    → (IsTrue met ↔ (slice_get marks last ≡ Some New → ⊥)) → IsTrue met ↔ IsLedTo types first last
found_is types first last marks met few h s done answer = (λ t. by_mark (slice_get marks last) refl t, λ l. answer.1 (met_all types first marks few s done first l.0 last l.1 s.begun))
  where
    by_mark : (o : Option Mark) → slice_get marks last ≡ o → IsTrue met → IsLedTo types first last
    by_mark None e t = absurd (omega (arith, beyond marks last e, s.size))
    by_mark (Some New) e t = absurd (answer.0 t e)
    by_mark (Some Waiting) e t = s.sound last Waiting e (λ f. absurd cc)
    by_mark (Some Seen) e t = s.sound last Seen e (λ f. absurd cc)

-- ---- what a kind reaches

type_within : (n : ℕ) (types : List DataType) (c u : ℕ) → type_from n types c ≡ Some u → u < n + length types
type_within n [] c u e = let f : None ≡ Some u = e in absurd cc
type_within n (t ∷ ts) c u e = by_test (nat_lt c (length t.cons)) (type_within (suc n) ts (c - length t.cons) u) e
  where
    by_test : (b : Bool) → (type_from (suc n) ts (c - length t.cons) ≡ Some u → u < suc n + length ts)
        → (if b then Some n else type_from (suc n) ts (c - length t.cons)) ≡ Some u → u < n + suc (length ts)
    by_test true later f = let g : n ≡ u = cc in omega arith
    by_test false later f = omega (arith, later f)

pub is_within_types : (types : List DataType) (c u : ℕ) → length types ≤ 64 → type_of types c ≡ Some u → u < 64
is_within_types types c u few e = omega (arith, type_within 0 types c u e)

led_beyond : (types : List DataType) (t : ℕ) (path : List ℕ) (u : ℕ) → length types ≤ t → LeadsTo types t path u → t ≡ u
led_beyond types t [] u h l = l
led_beyond types t (v ∷ path) u h l = absurd (holds_none types t v h l.0)

pub reaches_none : (types : List DataType) (t c : ℕ) → type_of types c ≡ None → Reaches types (Of t) c → ⊥
reaches_none types t c e r = let f : None ≡ Some r.last = sym e ∙ r.owned in absurd cc

pub reaches_nowhere : (types : List DataType) (t c : ℕ) → length types ≤ 64 → 64 ≤ t → Reaches types (Of t) c → ⊥
reaches_nowhere types t c few h r = absurd (omega (arith, type_within 0 types c r.last r.owned, led_beyond types t r.leads.0 r.last (omega arith) r.leads.1))

pub reaches_inline : (types : List DataType) (t c u : ℕ) → type_of types c ≡ Some u → is_heap types (Of u) ≡ false → Reaches types (Of t) c → ⊥
reaches_inline types t c u e inline r =
    let g : Some u ≡ Some r.last = sym e ∙ r.owned in
    let same : u ≡ r.last = cc in
    let f : false ≡ true = sym inline ∙ ap (is_heap_type types) same ∙ r.heap in absurd cc

pub reaches_by : (types : List DataType) (t c u : ℕ) (met : Bool) → type_of types c ≡ Some u → is_heap types (Of u) ≡ true
    → (IsTrue met ↔ IsLedTo types t u) → IsTrue met ↔ Reaches types (Of t) c
reaches_by types t c u met e heap led = (λ m. record { last = u; leads = led.0 m; heap = heap; owned = e }, λ r. led.1 (back r))
  where
    back : Reaches types (Of t) c → IsLedTo types t u
    back r = let g : Some u ≡ Some r.last = sym e ∙ r.owned in let same : r.last ≡ u = cc in subst (IsLedTo types t) same r.leads

pub length_types : (defs : List TypeDef) → length (map data_type_of defs) ≡ length defs
length_types defs = length-map defs data_type_of
