-- Steps of the loops over the constructors of a type.
use Rattle.std.proofs.Common.{◌≡◌, ℕ, zero, suc, ◌+◌, ◌<◌, ◌≤◌, Bool, true, false, List, [], ◌∷◌, length, drop, get_or, map, Option, Some, None, refl, sym, ap, ◌∙◌, arith, drop-cons, drop_of_length-le, add-one, inl, inr}
use Rattle.std.specs.Prelude.{◌&&◌, if◌then◌else◌, max, vec_len, slice_get, slice_set, ◌⊎◌}
use Rattle.std.specs.List.{AllByRecursion, list_all}
use Rattle.std.specs.Option.{option_map}
use Rattle.std.specs.Str.{bytes_eq}
use Rattle.std.proofs.lemmas.List.{length-map, length-set, get_or-set_same, get_or-set_other}
use Rattle.std.proofs.lemmas.Bool.{cases_lt}
use Rattle.camelot_values.specs.NameLaws.{same_name}
use Rattle.camelot_values.specs.Kinds.{DataType, Constructor, IsDataType, AreTypes, data_type_of, constructor_of}
use Rattle.camelot_values.specs.declared.kinds.Con.{Con}
use Rattle.camelot_values.specs.declared.kinds.TypeDef.{TypeDef}
use Rattle.value_text.specs.Finite.{is_ready}
use Rattle.value_text.specs.Choosing.{common, choose, best, Looked}
use Rattle.value_text.specs.Inhabited.{first_con, AreFirst}
use Rattle.value_text.specs.Splitting.{IsBehind, FrontCon}
use Rattle.value_text.specs.declared.names.Look.TheVariants as look
use Rattle.value_text.proofs.Words.{and_both, and_parts}

not_same : (v w : List ℕ) → (v ≡ w → ⊥) → bytes_eq v w ≡ false
not_same v w n = by_test (bytes_eq v w) refl
  where
    by_test : (b : Bool) → bytes_eq v w ≡ b → bytes_eq v w ≡ false
    by_test true e = absurd (n (same_name v w e))
    by_test false e = e

pub look_unready : (marks : List Bool) (w : List ℕ) (c : Constructor) → is_ready marks c ≡ false → Looked marks w c (look.Common 0)
look_unready marks w c h = (ap (λ b. b && bytes_eq c.name w) h, sym (ap (λ b. if b then common c.name w else 0) h))

pub look_same : (marks : List Bool) (w : List ℕ) (c : Constructor) → is_ready marks c ≡ true → bytes_eq c.name w ≡ true → Looked marks w c look.Found
look_same marks w c h e = and_both (is_ready marks c) (bytes_eq c.name w) h e

pub look_other : (marks : List Bool) (w : List ℕ) (c : Constructor) (n : ℕ) → is_ready marks c ≡ true → bytes_eq c.name w ≡ false
    → n ≡ common c.name w → Looked marks w c (look.Common n)
look_other marks w c n h e k = (ap (λ b. b && bytes_eq c.name w) h ∙ e, k ∙ sym (ap (λ b. if b then common c.name w else 0) h))

-- further on by so many
abbrev pub moved : ℕ → Option ℕ → Option ℕ
moved i o = option_map (λ n. i + n) o

cons_at : (cs : List Con) (i : ℕ) (c : Con) → i < length cs → c ≡ get_or cs i c
    → map constructor_of (drop i cs) ≡ constructor_of c ∷ map constructor_of (drop (i + 1) cs)
cons_at cs i c h is =
    ap (map constructor_of) (drop-cons cs i c h) ∙ ap (λ x. constructor_of x ∷ map constructor_of (drop (suc i) cs)) (sym is) ∙ ap (λ n. constructor_of c ∷ map constructor_of (drop n cs)) (sym (add-one i))

pub chosen_here : (marks : List Bool) (w : List ℕ) (cs : List Con) (i : ℕ) (c : Con) (o : Option ℕ) → i < length cs → c ≡ get_or cs i c
    → Looked marks w (constructor_of c) look.Found
    → moved i (choose marks w (map constructor_of (drop i cs))) ≡ o → o ≡ Some i
chosen_here marks w cs i c o h is l e =
    sym e ∙ ap (λ l. moved i (choose marks w l)) (cons_at cs i c h is)
    ∙ ap (λ b. moved i (if b then Some 0 else option_map suc (choose marks w (map constructor_of (drop (i + 1) cs))))) l ∙ ap Some (omega arith)

moved_suc : (i : ℕ) (o : Option ℕ) → moved i (option_map suc o) ≡ moved (i + 1) o
moved_suc i None = refl
moved_suc i (Some n) = ap Some (omega arith)

pub chosen_later : (marks : List Bool) (w : List ℕ) (cs : List Con) (i n : ℕ) (c : Con) (o : Option ℕ) → i < length cs → c ≡ get_or cs i c
    → Looked marks w (constructor_of c) (look.Common n)
    → moved i (choose marks w (map constructor_of (drop i cs))) ≡ o → moved (i + 1) (choose marks w (map constructor_of (drop (i + 1) cs))) ≡ o
chosen_later marks w cs i n c o h is l e =
    sym (moved_suc i (choose marks w (map constructor_of (drop (i + 1) cs))))
    ∙ ap (λ b. moved i (if b then Some 0 else option_map suc (choose marks w (map constructor_of (drop (i + 1) cs))))) (sym l.0)
    ∙ ap (λ l. moved i (choose marks w l)) (sym (cons_at cs i c h is)) ∙ e

pub best_later : (marks : List Bool) (w : List ℕ) (cs : List Con) (i n good all : ℕ) (c : Con) → i < length cs → c ≡ get_or cs i c
    → Looked marks w (constructor_of c) (look.Common n)
    → max good (best marks w (map constructor_of (drop i cs))) ≡ all → max (max good n) (best marks w (map constructor_of (drop (i + 1) cs))) ≡ all
best_later marks w cs i n good all c h is l e =
    let rest = best marks w (map constructor_of (drop (i + 1) cs)) in
    let b : best marks w (map constructor_of (drop i cs)) ≡ max n rest = ap (best marks w) (cons_at cs i c h is) ∙ by_ready (is_ready marks (constructor_of c)) l.1 in
    omega (arith, b, e)
  where
    by_ready : (r : Bool) → n ≡ (if r then common (constructor_of c).name w else 0)
        → (if r then max (common (constructor_of c).name w) (best marks w (map constructor_of (drop (i + 1) cs))) else best marks w (map constructor_of (drop (i + 1) cs))) ≡ max n (best marks w (map constructor_of (drop (i + 1) cs)))
    by_ready true k = ap (λ x. max x (best marks w (map constructor_of (drop (i + 1) cs)))) (sym k)
    by_ready false k = omega (arith, k)

pub chosen_none : (marks : List Bool) (w : List ℕ) (cs : List Con) (i : ℕ) (o : Option ℕ) → length cs ≤ i
    → moved i (choose marks w (map constructor_of (drop i cs))) ≡ o → o ≡ None
chosen_none marks w cs i o h e = sym e ∙ ap (λ l. moved i (choose marks w (map constructor_of l))) (drop_of_length-le cs {i = i} h)

pub best_end : (marks : List Bool) (w : List ℕ) (cs : List Con) (i good all : ℕ) → length cs ≤ i
    → max good (best marks w (map constructor_of (drop i cs))) ≡ all → good ≡ all
best_end marks w cs i good all h e = let k : best marks w (map constructor_of (drop i cs)) ≡ 0 = ap (λ l. best marks w (map constructor_of l)) (drop_of_length-le cs {i = i} h) in omega (arith, e, k)

-- ---- the number of a type's first constructor

first_next : (ts : List TypeDef) (i : ℕ) (d : TypeDef) → i < length ts
    → first_con (map data_type_of ts) (suc i) ≡ first_con (map data_type_of ts) i + vec_len (get_or ts i d).cons
first_next [] i d h = absurd (omega (arith, h))
first_next (t ∷ ts) zero d h = let n : length (data_type_of t).cons ≡ vec_len t.cons = length-map t.cons.items constructor_of ∙ sym t.cons.ok.0 in by_rest (map data_type_of ts) n
  where
    by_rest : (us : List DataType) → length (data_type_of t).cons ≡ vec_len t.cons → length (data_type_of t).cons + first_con us 0 ≡ 0 + vec_len t.cons
    by_rest [] n = omega (arith, n)
    by_rest (u ∷ us) n = omega (arith, n)
first_next (t ∷ ts) (suc i) d h = omega (arith, first_next ts i d (omega (arith, h)))

pub first_later : (ts : List TypeDef) (i first : ℕ) (d : TypeDef) → i < length ts → first ≡ first_con (map data_type_of ts) i
    → first + vec_len (get_or ts i d).cons ≡ first_con (map data_type_of ts) (i + 1)
first_later ts i first d h e = omega (arith, e, first_next ts i d h, ap (first_con (map data_type_of ts)) (add-one i))

each_at : (ts : List TypeDef) (i : ℕ) (d : TypeDef) → i < length ts → AllByRecursion IsDataType (map data_type_of ts)
    → IsDataType (data_type_of (get_or ts i d))
each_at [] i d h a = absurd (omega (arith, h))
each_at (t ∷ ts) zero d h a = a.0
each_at (t ∷ ts) (suc i) d h a = each_at ts i d (omega (arith, h)) a.1

pub few_cons : (ts : List TypeDef) (i : ℕ) (d : TypeDef) → AreTypes (map data_type_of ts) → i < length ts → vec_len (get_or ts i d).cons ≤ 64
few_cons ts i d a h =
    let k = each_at ts i d h a.each in
    let e : length (data_type_of (get_or ts i d)).cons ≡ vec_len (get_or ts i d).cons = length-map (get_or ts i d).cons.items constructor_of ∙ sym (get_or ts i d).cons.ok.0 in omega (arith, k.few_cons, e)

pub first_zero : (ts : List DataType) → first_con ts 0 ≡ 0
first_zero [] = refl
first_zero (t ∷ ts) = refl

pub few_list : (ts : List TypeDef) → AreTypes (map data_type_of ts) → length ts ≤ 64
few_list ts a = let n : length (map data_type_of ts) ≡ length ts = length-map ts data_type_of in omega (arith, a.few_types, n)

-- the numbers of the first constructors of so many types
pub record FirstsTo (types : List DataType) (firsts : List ℕ) (n : ℕ) : Type 0 where
  pub at : (t : ℕ) → t < n → get_or firsts t 0 ≡ first_con types t

pub firsts_size : (firsts : List ℕ) (i first : ℕ) → length firsts ≡ 64 → length (slice_set firsts i first) ≡ 64
firsts_size firsts i first e = length-set firsts i first ∙ e

pub firsts_more : (types : List DataType) (firsts : List ℕ) (i first : ℕ) → i < length firsts → first ≡ first_con types i → FirstsTo types firsts i
    → FirstsTo types (slice_set firsts i first) (i + 1)
firsts_more types firsts i first h e f = record { at = λ t k. by_place t (cases_lt t i) k }
  where
    by_place : (t : ℕ) → (t < i) ⊎ (i ≤ t) → t < i + 1 → get_or (slice_set firsts i first) t 0 ≡ first_con types t
    by_place t (inl l) k = get_or-set_other firsts i t first 0 (λ s. omega (arith, s, l)) ∙ f.at t l
    by_place t (inr l) k =
        let s : t ≡ i = omega (arith, l, k) in
        ap (λ n. get_or (slice_set firsts i first) n 0) s ∙ get_or-set_same firsts i first 0 h ∙ e ∙ ap (first_con types) (sym s)

pub firsts_all : (ts : List TypeDef) (firsts : List ℕ) (i : ℕ) → length ts ≤ i → FirstsTo (map data_type_of ts) firsts i → AreFirst (map data_type_of ts) firsts
firsts_all ts firsts i h f = record { at = λ t k. f.at t (omega (arith, k, h, length-map ts data_type_of)) }

pub first_there : (ts : List TypeDef) (firsts : List ℕ) (t : ℕ) → AreFirst (map data_type_of ts) firsts → t < length ts
    → get_or firsts t 0 ≡ first_con (map data_type_of ts) t
first_there ts firsts t f h = f.at t (omega (arith, h, length-map ts data_type_of))

con_there : (cs : List Con) (i : ℕ) (c : Con) → i < length cs → slice_get (map constructor_of cs) i ≡ Some (constructor_of (get_or cs i c))
con_there [] i c h = absurd (omega (arith, h))
con_there (x ∷ cs) zero c h = refl
con_there (x ∷ cs) (suc i) c h = con_there cs i c (omega (arith, h))

-- the constructor at this place has its name in front
pub front_there : (marks : List Bool) (text rest : List ℕ) (cs : List Con) (i : ℕ) (c : Con) → i < length cs → c ≡ get_or cs i c
    → is_ready marks (constructor_of c) ≡ true → IsBehind (constructor_of c).name text rest → FrontCon marks (map constructor_of cs) text i rest
front_there marks text rest cs i c h is ready front =
    record { con = constructor_of c; is = con_there cs i c h ∙ ap (λ x. Some (constructor_of x)) (sym is); ready = ready; front = front }

-- where all fields of all constructors have values, those of the one at this place have
pub ready_there : (marks : List Bool) (cs : List Con) (i : ℕ) (c : Con) → i < length cs → c ≡ get_or cs i c
    → list_all (is_ready marks) (map constructor_of cs) ≡ true → is_ready marks (constructor_of c) ≡ true
ready_there marks [] i c h is all = absurd (omega (arith, h))
ready_there marks (x ∷ cs) zero c h is all = ap (λ y. is_ready marks (constructor_of y)) is ∙ (and_parts (is_ready marks (constructor_of x)) _ all).0
ready_there marks (x ∷ cs) (suc i) c h is all = ready_there marks cs i c (omega (arith, h)) is (and_parts (is_ready marks (constructor_of x)) _ all).1
