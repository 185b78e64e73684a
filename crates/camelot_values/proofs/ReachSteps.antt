-- The numbers of the constructors that a kind reaches, type by type.
use Rattle.std.proofs.Common.{◌≡◌, ℕ, zero, suc, ◌+◌, ◌-◌, ◌<◌, ◌≤◌, Bool, true, false, List, [], ◌∷◌, ◌++◌, length, get_or, drop, map, Option, Some, None, refl, sym, ap, ◌∙◌, subst, arith, drop-cons, drop_of_length-le, add-one, append_assoc, append-nil, length-append, inl, inr}
use Rattle.std.specs.Prelude.{◌⊎◌, ◌↔◌, IsTrue, cond, nat_lt, if◌then◌else◌, ◌&&◌, ◌||◌, ◌==◌, vec_len}
use Rattle.std.specs.List.{filter, range_with_len, AllByRecursion}
use Rattle.std.proofs.lemmas.Bool.Decides.{nat_tests}
use Rattle.std.proofs.lemmas.List.{length-map}
use Rattle.std.proofs.lemmas.List.Elements.{filter-append}
use Rattle.camelot_values.specs.declared.kinds.Kind.{Kind}
use Rattle.camelot_values.specs.declared.kinds.Kind.TheVariants.{Int, Flag, Dia, Of}
use Rattle.camelot_values.specs.declared.kinds.TypeDef.{TypeDef}
use Rattle.camelot_values.specs.Kinds.{DataType, IsDataType, AreTypes, data_type_of, constructors, type_from, type_of}
use Rattle.camelot_values.specs.Lists.{is_among}
use Rattle.camelot_values.specs.Heap.{is_heap_type, leads_by, IsLedTo, Reaches, is_reached_in, is_reached, reached}
use Rattle.camelot_values.specs.Search.{passes, numbers_where}
use Rattle.camelot_values.specs.ReachLaws.{leads_by_sound, leads_by_complete, reached_is}
use Rattle.camelot_values.proofs.SearchLaws.{reaches_nowhere}

-- a list that has no number is empty
none_among : (xs : List ℕ) → ((x : ℕ) → IsTrue (is_among xs x) → ⊥) → xs ≡ []
none_among [] f = refl
none_among (x ∷ xs) f = absurd (f x (self (x == x) (grind (arith, nat_tests))))
  where
    self : (b : Bool) → b ≡ true → (b || is_among xs x) ≡ true
    self true e = refl
    self false e = absurd cc

pub reached_nothing : (types : List DataType) (kind : Kind) → ((c : ℕ) → Reaches types kind c → ⊥) → reached types kind ≡ []
reached_nothing types kind f = none_among (reached types kind) (λ x h. f x ((reached_is types kind x).0 h))

-- ---- type by type

abbrev in_type : (ℕ → Bool) → Option ℕ → Bool
in_type q None = false
in_type q (Some t) = q t

range_add : (a m n : ℕ) → range_with_len a (m + n) ≡ range_with_len a m ++ range_with_len (a + m) n
range_add a zero n = ap (λ k. range_with_len a k) (let e : 0 + n ≡ n = omega arith in e) ∙ ap (λ k. range_with_len k n) (let e : a ≡ a + 0 = omega arith in e)
range_add a (suc m) n =
    ap (range_with_len a) (let e : suc m + n ≡ suc (m + n) = omega arith in e)
    ∙ ap (λ k. a ∷ k) (range_add (a + 1) m n ∙ ap (λ k. range_with_len (a + 1) m ++ range_with_len k n) (let e : a + 1 + m ≡ a + suc m = omega arith in e))

-- two tests that agree on these numbers
filter_same : (p r : ℕ → Bool) (a n : ℕ) → ((c : ℕ) → a ≤ c → c < a + n → p c ≡ r c) → filter p (range_with_len a n) ≡ filter r (range_with_len a n)
filter_same p r a zero f = refl
filter_same p r a (suc n) f =
    ap (λ b. cond b (a ∷ filter p (range_with_len (a + 1) n)) (filter p (range_with_len (a + 1) n))) (f a (omega arith) (omega arith))
    ∙ ap (λ l. cond (r a) (a ∷ l) l) (filter_same p r (a + 1) n (λ c h k. f c (omega (arith, h)) (omega (arith, k))))

filter_all : (b : Bool) (a n : ℕ) → filter (λ c. b) (range_with_len a n) ≡ cond b (range_with_len a n) []
filter_all true a zero = refl
filter_all false a zero = refl
filter_all true a (suc n) = ap (λ l. a ∷ l) (filter_all true (a + 1) n)
filter_all false a (suc n) = filter_all false (a + 1) n

first_type : (number c m : ℕ) (o : Option ℕ) → c < m → (if nat_lt c m then Some number else o) ≡ Some number
first_type number c m o h = ap (λ b. if b then Some number else o) (let e : nat_lt c m ≡ true = grind (arith, nat_tests, h) in e)

later_type : (number c m : ℕ) (o : Option ℕ) → m ≤ c → (if nat_lt c m then Some number else o) ≡ o
later_type number c m o h = ap (λ b. if b then Some number else o) (let e : nat_lt c m ≡ false = grind (arith, nat_tests, h) in e)

walked : (q : ℕ → Bool) (number next : ℕ) (ds : List DataType)
    → filter (λ c. in_type q (type_from number ds (c - next))) (range_with_len next (length (constructors ds))) ≡ numbers_where q number next ds
walked q number next [] = refl
walked q number next (d ∷ ds) =
    let p = λ (c : ℕ). in_type q (type_from number (d ∷ ds) (c - next)) in
    let m = length d.cons in
    let n = length (constructors ds) in
    ap (λ k. filter p (range_with_len next k)) (length-append d.cons (constructors ds))
    ∙ ap (filter p) (range_add next m n) ∙ filter-append p (range_with_len next m) (range_with_len (next + m) n)
    ∙ ap (λ l. l ++ filter p (range_with_len (next + m) n)) (filter_same p (λ c. q number) next m (λ c h k. ap (in_type q) (first_type number (c - next) m _ (omega (arith, h, k)))) ∙ filter_all (q number) next m)
    ∙ ap (λ l. cond (q number) (range_with_len next m) [] ++ l)
    (filter_same p (λ c. in_type q (type_from (suc number) ds (c - (next + m)))) (next + m) n
    (λ c h k. ap (in_type q) (later_type number (c - next) m _ (omega (arith, h)) ∙ ap (type_from (suc number) ds) (omega (arith, h))))
    ∙ walked q (suc number) (next + m) ds)

same_test : (types : List DataType) (t : ℕ) (o : Option ℕ) → is_reached_in types t o ≡ in_type (passes types t) o
same_test types t None = refl
same_test types t (Some u) = refl

pub reached_numbers : (types : List DataType) (t : ℕ) → reached types (Of t) ≡ numbers_where (passes types t) 0 0 types
reached_numbers types t =
    filter_same (is_reached types (Of t)) (λ c. in_type (passes types t) (type_from 0 types (c - 0))) 0 (length (constructors types))
    (λ c h k. same_test types t (type_of types c) ∙ ap (λ n. in_type (passes types t) (type_from 0 types n)) (omega arith))
    ∙ walked (passes types t) 0 0 types

-- ---- steps of the loop

pub one_type_on : (q : ℕ → Bool) (defs : List TypeDef) (i next : ℕ) (d : TypeDef) → i < length defs
    → numbers_where q i next (map data_type_of (drop i defs)) ≡ cond (q i) (range_with_len next (vec_len (get_or defs i d).cons)) [] ++ numbers_where q (i + 1) (next + vec_len (get_or defs i d).cons) (map data_type_of (drop (i + 1) defs))
one_type_on q defs i next d h =
    let t = get_or defs i d in
    let n : length (data_type_of t).cons ≡ vec_len t.cons = length-map t.cons.items _ ∙ sym t.cons.ok.0 in
    ap (λ ts. numbers_where q i next (map data_type_of ts)) (drop-cons defs i d h)
    ∙ ap (λ k. cond (q i) (range_with_len next k) [] ++ numbers_where q (suc i) (next + k) (map data_type_of (drop (suc i) defs))) n
    ∙ ap (λ k. cond (q i) (range_with_len next (vec_len t.cons)) [] ++ numbers_where q k (next + vec_len t.cons) (map data_type_of (drop k defs))) (sym (add-one i))

each_at : (ts : List TypeDef) (i : ℕ) (d : TypeDef) → i < length ts → AllByRecursion IsDataType (map data_type_of ts)
    → IsDataType (data_type_of (get_or ts i d))
each_at [] i d h a = absurd (omega (arith, h))
each_at (t ∷ ts) zero d h a = a.0
each_at (t ∷ ts) (suc i) d h a = each_at ts i d (omega (arith, h)) a.1

pub few_at : (ts : List TypeDef) (i : ℕ) (d : TypeDef) → i < length ts → AllByRecursion IsDataType (map data_type_of ts) → vec_len (get_or ts i d).cons ≤ 64
few_at ts i d h a = let k = each_at ts i d h a in let e : length (data_type_of (get_or ts i d)).cons ≡ vec_len (get_or ts i d).cons = length-map (get_or ts i d).cons.items _ ∙ sym (get_or ts i d).cons.ok.0 in omega (arith, k.few_cons, e)

-- the test of the search is that of the closure
pub led_test : (types : List DataType) (t u : ℕ) (b : Bool) → IsTrue b ↔ IsLedTo types t u → b ≡ leads_by types (length types) t u
led_test types t u true h = sym (leads_by_complete types t u (h.0 refl))
led_test types t u false h = no (leads_by types (length types) t u) (λ e. h.1 (leads_by_sound types (length types) t u e))
  where
    no : (c : Bool) → (c ≡ true → IsTrue false) → false ≡ c
    no true f = f refl
    no false f = refl

pub passes_test : (types : List DataType) (t u : ℕ) (b : Bool) → is_heap_type types u ≡ true → IsTrue b ↔ IsLedTo types t u → b ≡ passes types t u
passes_test types t u b h k = led_test types t u b k ∙ ap (λ c. c && leads_by types (length types) t u) (sym h)

pub passes_not : (types : List DataType) (t u : ℕ) → is_heap_type types u ≡ false → false ≡ passes types t u
passes_not types t u h = ap (λ c. c && leads_by types (length types) t u) (sym h)

pub one_number_on : (new old all : List ℕ) (number end : ℕ) → number < end → new ≡ old ++ number ∷ []
    → old ++ range_with_len number (end - number) ≡ all → new ++ range_with_len (number + 1) (end - (number + 1)) ≡ all
one_number_on new old all number end h push e =
    ap (λ l. l ++ range_with_len (number + 1) (end - (number + 1))) push ∙ append_assoc old (number ∷ []) (range_with_len (number + 1) (end - (number + 1)))
    ∙ ap (λ k. old ++ range_with_len number k) (let n : suc (end - (number + 1)) ≡ end - number = omega (arith, h) in n) ∙ e

pub one_type_more : (q : ℕ → Bool) (defs : List TypeDef) (i next m : ℕ) (t : TypeDef) (b : Bool) (old new all : List ℕ) → i < length defs
    → t ≡ get_or defs i t → m ≡ vec_len t.cons → b ≡ q i
    → new ≡ old ++ cond b (range_with_len next m) [] → old ++ numbers_where q i next (map data_type_of (drop i defs)) ≡ all
    → new ++ numbers_where q (i + 1) (next + m) (map data_type_of (drop (i + 1) defs)) ≡ all
one_type_more q defs i next m t b old new all h is n test push e =
    let k : m ≡ vec_len (get_or defs i t).cons = n ∙ ap (λ u. vec_len u.cons) is in
    let rest = numbers_where q (i + 1) (next + m) (map data_type_of (drop (i + 1) defs)) in
    ap (λ l. l ++ rest) push ∙ append_assoc old (cond b (range_with_len next m) []) rest
    ∙ ap (λ c. old ++ (cond c (range_with_len next m) [] ++ rest)) test
    ∙ ap (λ w. old ++ (cond (q i) (range_with_len next w) [] ++ numbers_where q (i + 1) (next + w) (map data_type_of (drop (i + 1) defs)))) k
    ∙ ap (λ l. old ++ l) (sym (one_type_on q defs i next t h)) ∙ e

pub all_types : (q : ℕ → Bool) (defs : List TypeDef) (i next : ℕ) (found all : List ℕ) → length defs ≤ i
    → found ++ numbers_where q i next (map data_type_of (drop i defs)) ≡ all → found ≡ all
all_types q defs i next found all h e = sym (append-nil found) ∙ ap (λ ts. found ++ numbers_where q i next (map data_type_of ts)) (sym (drop_of_length-le defs {i = i} h)) ∙ e

pub few_defs : (ts : List TypeDef) (types : List DataType) → map data_type_of ts ≡ types → AreTypes types → length ts ≤ 64
few_defs ts types e a = let k : length (map data_type_of ts) ≡ length types = ap length e in let n : length (map data_type_of ts) ≡ length ts = length-map ts data_type_of in omega (arith, a.few_types, k, n)

pub few_cons : (ts : List TypeDef) (types : List DataType) (i : ℕ) (d : TypeDef) → i < length ts → map data_type_of ts ≡ types → AreTypes types
    → vec_len (get_or ts i d).cons ≤ 64
few_cons ts types i d h e a = few_at ts i d h (subst (AllByRecursion IsDataType) (sym e) a.each)

pub reached_bare : (types : List DataType) (q : Kind) → (q ≡ Int) ⊎ ((q ≡ Flag) ⊎ (q ≡ Dia)) → reached types q ≡ []
reached_bare types q (inl e) = ap (reached types) e ∙ reached_nothing types Int (λ c h. h)
reached_bare types q (inr (inl e)) = ap (reached types) e ∙ reached_nothing types Flag (λ c h. h)
reached_bare types q (inr (inr e)) = ap (reached types) e ∙ reached_nothing types Dia (λ c h. h)

pub reached_beyond : (types : List DataType) (q : Kind) (t : ℕ) → q ≡ Of t → length types ≤ 64 → 64 ≤ t → reached types q ≡ []
reached_beyond types q t e h k = ap (reached types) e ∙ reached_nothing types (Of t) (λ c r. reaches_nowhere types t c h k r)

pub reached_here : (types : List DataType) (q : Kind) (t : ℕ) (list : List ℕ) → q ≡ Of t → list ≡ numbers_where (passes types t) 0 0 types
    → list ≡ reached types q
reached_here types q t list e h = h ∙ sym (ap (reached types) e ∙ reached_numbers types t)
