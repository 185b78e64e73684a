-- Steps of the loops that look for types with a value.
use Rattle.std.proofs.Common.{◌≡◌, ℕ, zero, suc, ◌+◌, ◌<◌, ◌≤◌, Bool, true, false, List, [], ◌∷◌, length, drop, get_or, map, Some, refl, sym, ap, ◌∙◌, subst, arith, drop-cons, add-one, inl, inr}
use Rattle.std.specs.Prelude.{◌⊎◌, slice_get, slice_set, not, ◌&&◌, ◌||◌, replicate}
use Rattle.std.specs.List.{list_all, list_any}
use Rattle.std.proofs.lemmas.List.{length-map}
use Rattle.std.proofs.lemmas.Bool.{cases_lt}
use Rattle.camelot_values.specs.Kinds.{DataType, data_type_of, constructor_of, AreTypes}
use Rattle.camelot_values.specs.declared.kinds.Kind.{Kind}
use Rattle.camelot_values.specs.declared.kinds.Con.{Con}
use Rattle.camelot_values.specs.declared.kinds.TypeDef.{TypeDef}
use Rattle.value_text.specs.Finite.{is_marked, has_value, is_ready, all_ready, Sound, NoneReady, ReadyAt, is_next}
use Rattle.value_text.proofs.Words.{and_parts, and_both, true_false}
use Rattle.value_text.proofs.Finiteness.{one_more_mark, left_of}

pub all_here : (marks : List Bool) (qs : List Kind) (i : ℕ) (d : Kind) (b : Bool) → i < length qs → has_value marks (get_or qs i d) ≡ true
    → list_all (has_value marks) (drop i qs) ≡ b → list_all (has_value marks) (drop (i + 1) qs) ≡ b
all_here marks qs i d b h t e =
    ap (λ n. list_all (has_value marks) (drop n qs)) (add-one i) ∙ ap (λ c. c && list_all (has_value marks) (drop (suc i) qs)) (sym t) ∙ ap (list_all (has_value marks)) (sym (drop-cons qs i d h)) ∙ e

pub all_not : (marks : List Bool) (qs : List Kind) (i : ℕ) (d : Kind) (b : Bool) → i < length qs → has_value marks (get_or qs i d) ≡ false
    → list_all (has_value marks) (drop i qs) ≡ b → false ≡ b
all_not marks qs i d b h t e = ap (λ c. c && list_all (has_value marks) (drop (suc i) qs)) (sym t) ∙ ap (list_all (has_value marks)) (sym (drop-cons qs i d h)) ∙ e

cons_at : (cs : List Con) (i : ℕ) (c : Con) → i < length cs → c ≡ get_or cs i c
    → map constructor_of (drop i cs) ≡ constructor_of c ∷ map constructor_of (drop (i + 1) cs)
cons_at cs i c h is =
    ap (map constructor_of) (drop-cons cs i c h) ∙ ap (λ x. constructor_of x ∷ map constructor_of (drop (suc i) cs)) (sym is) ∙ ap (λ n. constructor_of c ∷ map constructor_of (drop n cs)) (sym (add-one i))

pub any_here : (marks : List Bool) (cs : List Con) (i : ℕ) (c : Con) (b : Bool) → i < length cs → c ≡ get_or cs i c
    → is_ready marks (constructor_of c) ≡ true → list_any (is_ready marks) (map constructor_of (drop i cs)) ≡ b → true ≡ b
any_here marks cs i c b h is t e = ap (λ x. x || list_any (is_ready marks) (map constructor_of (drop (i + 1) cs))) (sym t) ∙ ap (list_any (is_ready marks)) (sym (cons_at cs i c h is)) ∙ e

pub any_later : (marks : List Bool) (cs : List Con) (i : ℕ) (c : Con) (b : Bool) → i < length cs → c ≡ get_or cs i c
    → is_ready marks (constructor_of c) ≡ false → list_any (is_ready marks) (map constructor_of (drop i cs)) ≡ b
    → list_any (is_ready marks) (map constructor_of (drop (i + 1) cs)) ≡ b
any_later marks cs i c b h is t e = ap (λ x. x || list_any (is_ready marks) (map constructor_of (drop (i + 1) cs))) (sym t) ∙ ap (list_any (is_ready marks)) (sym (cons_at cs i c h is)) ∙ e

-- ---- whether all fields have values

pub con_ready : (marks : List Bool) (cs : List Con) (i : ℕ) (c : Con) (b : Bool) → i < length cs → c ≡ get_or cs i c
    → is_ready marks (constructor_of c) ≡ true → list_all (is_ready marks) (map constructor_of (drop i cs)) ≡ b
    → list_all (is_ready marks) (map constructor_of (drop (i + 1) cs)) ≡ b
con_ready marks cs i c b h is t e = ap (λ x. x && list_all (is_ready marks) (map constructor_of (drop (i + 1) cs))) (sym t) ∙ ap (list_all (is_ready marks)) (sym (cons_at cs i c h is)) ∙ e

pub con_unready : (marks : List Bool) (cs : List Con) (i : ℕ) (c : Con) (b : Bool) → i < length cs → c ≡ get_or cs i c
    → is_ready marks (constructor_of c) ≡ false → list_all (is_ready marks) (map constructor_of (drop i cs)) ≡ b → false ≡ b
con_unready marks cs i c b h is t e = ap (λ x. x && list_all (is_ready marks) (map constructor_of (drop (i + 1) cs))) (sym t) ∙ ap (list_all (is_ready marks)) (sym (cons_at cs i c h is)) ∙ e

types_at : (ds : List TypeDef) (i : ℕ) (d : TypeDef) → i < length ds → d ≡ get_or ds i d
    → map data_type_of (drop i ds) ≡ data_type_of d ∷ map data_type_of (drop (i + 1) ds)
types_at ds i d h is =
    ap (map data_type_of) (drop-cons ds i d h) ∙ ap (λ x. data_type_of x ∷ map data_type_of (drop (suc i) ds)) (sym is) ∙ ap (λ n. data_type_of d ∷ map data_type_of (drop n ds)) (sym (add-one i))

pub type_ready : (marks : List Bool) (ds : List TypeDef) (i : ℕ) (d : TypeDef) (b : Bool) → i < length ds → d ≡ get_or ds i d
    → list_all (is_ready marks) (data_type_of d).cons ≡ true → all_ready marks (map data_type_of (drop i ds)) ≡ b
    → all_ready marks (map data_type_of (drop (i + 1) ds)) ≡ b
type_ready marks ds i d b h is t e = ap (λ x. x && all_ready marks (map data_type_of (drop (i + 1) ds))) (sym t) ∙ ap (all_ready marks) (sym (types_at ds i d h is)) ∙ e

pub type_unready : (marks : List Bool) (ds : List TypeDef) (i : ℕ) (d : TypeDef) (b : Bool) → i < length ds → d ≡ get_or ds i d
    → list_all (is_ready marks) (data_type_of d).cons ≡ false → all_ready marks (map data_type_of (drop i ds)) ≡ b → false ≡ b
type_unready marks ds i d b h is t e = ap (λ x. x && all_ready marks (map data_type_of (drop (i + 1) ds))) (sym t) ∙ ap (all_ready marks) (sym (types_at ds i d h is)) ∙ e

-- ---- types to be marked

def_at : (ds : List TypeDef) (i : ℕ) (d : TypeDef) → i < length ds → d ≡ get_or ds i d → slice_get (map data_type_of ds) i ≡ Some (data_type_of d)
def_at [] i d h is = absurd (omega (arith, h))
def_at (x ∷ ds) zero d h is = ap (λ y. Some (data_type_of y)) (sym is)
def_at (x ∷ ds) (suc i) d h is = def_at ds i d (omega (arith, h)) is

not_true : (b : Bool) → not b ≡ true → b ≡ false
not_true true h = absurd cc
not_true false h = refl

pub ready_at : (ds : List TypeDef) (marks : List Bool) (i : ℕ) (d : TypeDef) → i < length ds → d ≡ get_or ds i d
    → is_next marks i (data_type_of d) ≡ true → ReadyAt (map data_type_of ds) marks i
ready_at ds marks i d h is t =
    let p = and_parts (not (is_marked marks i)) _ t in record { def = data_type_of d; is = def_at ds i d h is; unmarked = not_true (is_marked marks i) p.0; ready = p.1 }

-- none of the types before place i is to be marked
abbrev pub NoneBefore : List DataType → List Bool → ℕ → Type 0
NoneBefore types marks i = (t : ℕ) (def : DataType) → t < i → slice_get types t ≡ Some def → is_marked marks t ≡ false → list_any (is_ready marks) def.cons ≡ true → ⊥

pub one_passed : (ds : List TypeDef) (marks : List Bool) (i : ℕ) (d : TypeDef) → i < length ds → d ≡ get_or ds i d
    → is_next marks i (data_type_of d) ≡ false → NoneBefore (map data_type_of ds) marks i → NoneBefore (map data_type_of ds) marks (i + 1)
one_passed ds marks i d h is f n t def less e m r = by_place (cases_lt t i)
  where
    here : t ≡ i → ⊥
    here k =
        let a : Some (data_type_of d) ≡ Some def = sym (def_at ds i d h is) ∙ ap (slice_get (map data_type_of ds)) (sym k) ∙ e in
        let s : data_type_of d ≡ def = cc in
        true_false (is_next marks i (data_type_of d)) (and_both (not (is_marked marks i)) _ (ap not (ap (is_marked marks) (sym k) ∙ m)) (subst (λ x. list_any (is_ready marks) x.cons ≡ true) (sym s) r)) f

    by_place : (t < i) ⊎ (i ≤ t) → ⊥
    by_place (inl k) = n t def k e m r
    by_place (inr k) = here (omega (arith, less, k))

within_list : (types : List DataType) (t : ℕ) (def : DataType) → slice_get types t ≡ Some def → t < length types
within_list [] t def e = absurd cc
within_list (x ∷ types) zero def e = omega arith
within_list (x ∷ types) (suc t) def e = omega (arith, within_list types t def e)

pub none_ready : (ds : List TypeDef) (marks : List Bool) (i : ℕ) → length ds ≤ i → NoneBefore (map data_type_of ds) marks i
    → NoneReady (map data_type_of ds) marks
none_ready ds marks i h n = λ t def e m r. n t def (omega (arith, within_list (map data_type_of ds) t def e, length-map ds data_type_of, h)) e m r

pub within_types : (ds : List TypeDef) (marks : List Bool) (t : ℕ) → ReadyAt (map data_type_of ds) marks t → t < length ds
within_types ds marks t r = omega (arith, within_list (map data_type_of ds) t r.def r.is, length-map ds data_type_of)

pub sound_more : (types : List DataType) (marks : List Bool) (t : ℕ) → Sound types marks → ReadyAt types marks t → Sound types (slice_set marks t true)
sound_more types marks t s r = one_more_mark types marks t r.def s r.is r.ready

left_set : (marks : List Bool) (t : ℕ) → t < length marks → is_marked marks t ≡ false → left_of (slice_set marks t true) < left_of marks
left_set [] t h m = absurd (omega (arith, h))
left_set (true ∷ marks) zero h m = absurd cc
left_set (false ∷ marks) zero h m = omega arith
left_set (true ∷ marks) (suc t) h m = left_set marks t (omega (arith, h)) m
left_set (false ∷ marks) (suc t) h m = omega (arith, left_set marks t (omega (arith, h)) m)

pub less_left : (types : List DataType) (marks : List Bool) (t : ℕ) → t < length marks → ReadyAt types marks t
    → left_of (slice_set marks t true) < left_of marks
less_left types marks t h r = left_set marks t h r.unmarked

pub length_marks : (marks : List Bool) (t : ℕ) (b : Bool) → length (slice_set marks t b) ≡ length marks
length_marks [] t b = refl
length_marks (m ∷ marks) zero b = refl
length_marks (m ∷ marks) (suc t) b = ap suc (length_marks marks t b)

pub no_marks : (types : List DataType) (n : ℕ) → Sound types (replicate n false)
no_marks types n t m = absurd (true_false (is_marked (replicate n false) t) m (none n t))
  where
    none : (n t : ℕ) → is_marked (replicate n false) t ≡ false
    none zero t = refl
    none (suc n) zero = refl
    none (suc n) (suc t) = none n t

pub few_defs : (ts : List TypeDef) (types : List DataType) → map data_type_of ts ≡ types → AreTypes types → length ts ≤ 64
few_defs ts types e a = let k : length (map data_type_of ts) ≡ length types = ap length e in let n : length (map data_type_of ts) ≡ length ts = length-map ts data_type_of in omega (arith, a.few_types, k, n)
