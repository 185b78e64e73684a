-- From constructors in the code's lists to nodes and their words.
use Rattle.std.proofs.Common.{◌≡◌, ℕ, zero, suc, ◌+◌, ◌-◌, ◌*◌, ◌<◌, ◌≤◌, Bool, List, [], ◌∷◌, length, take, drop, get_or, map, Some, None, refl, sym, ap, ◌∙◌, subst, arith, inl, inr, length-append, to_z, of_z, w32}
use Rattle.std.proofs.lemmas.Int.{to_z-of_z}
use Rattle.std.specs.Prelude.{◌⊎◌, IsTrue, true, false, ◌==◌, if◌then◌else◌, slice_get, vec_len, ℤ, pos, neg_ℤ, decimal, codes}
use Rattle.std.specs.List.{AllByRecursion, list_all}
use Rattle.std.proofs.lemmas.List.{length-map, take_all}
use Rattle.camelot_values.specs.Kinds.{DataType, constructor, IsConstructor, IsDataType, AreTypes, data_type_of, constructor_of, type_of}
use Rattle.camelot_values.specs.KindLaws.{located}
use Rattle.camelot_values.specs.Value as value
use Rattle.camelot_values.specs.Value.{Value, IsInt32}
use Rattle.camelot_values.specs.Typing.{Fits, FitAll}
use Rattle.camelot_values.specs.declared.kinds.Kind.{Kind}
use Rattle.camelot_values.specs.declared.kinds.Kind.TheVariants as kind
use Rattle.camelot_values.specs.declared.kinds.Con.{Con}
use Rattle.camelot_values.specs.declared.kinds.TypeDef.{TypeDef}
use Rattle.camelot_values.specs.declared.value.Item.{Item}
use Rattle.camelot_values.specs.declared.value.Item.TheVariants as item
use Rattle.value_text.specs.Due.{Named, Unnamed}
use Rattle.value_text.specs.Grammar.{AreNamed, DistinctNames, is_word}
use Rattle.value_text.specs.Finite.{is_ready, all_ready, Exact, HasValue}
use Rattle.value_text.specs.Choosing.{choose, best, HasPlace, IsConNode, IntRead, IntRefused, DigitsRead, IsPlain, common, IsFlag, NoFlag}
use Rattle.value_text.specs.Inhabited.{first_con}
use Rattle.value_text.specs.Splitting.{skip, before_mark, IsSplit, FrontCon, FrontInt, FrontRead, NodeRead, NodeRefused, NotFirst}
use Rattle.value_text.proofs.Comings.{some_is}
use Rattle.value_text.proofs.Naming.{name_named, con_named, con_unnamed, of_type}
use Rattle.value_text.proofs.Finiteness.{con_at as con_there}
use Rattle.value_text.proofs.Words.{word_all, and_parts}
use Rattle.value_text.proofs.Lives.{con_fine, named_con}
use Rattle.value_text.proofs.Atoms.{small_pos, small_neg, plus_named, minus_named, plus_unnamed, minus_unnamed, flag_named, flag_unnamed, dia_named, dia_unnamed}

def_at : (ds : List TypeDef) (i : ℕ) (d : TypeDef) → i < length ds → slice_get (map data_type_of ds) i ≡ Some (data_type_of (get_or ds i d))
def_at [] i d h = absurd (omega (arith, h))
def_at (x ∷ ds) zero d h = refl
def_at (x ∷ ds) (suc i) d h = def_at ds i d (omega (arith, h))

con_at : (cs : List Con) (i : ℕ) (c : Con) → i < length cs → slice_get (map constructor_of cs) i ≡ Some (constructor_of (get_or cs i c))
con_at [] i d h = absurd (omega (arith, h))
con_at (x ∷ cs) zero d h = refl
con_at (x ∷ cs) (suc i) d h = con_at cs i d (omega (arith, h))

within_list : {A : Type 0} (xs : List A) (t : ℕ) (x : A) → slice_get xs t ≡ Some x → t < length xs
within_list [] t x e = absurd cc
within_list (y ∷ xs) zero x e = omega arith
within_list (y ∷ xs) (suc t) x e = omega (arith, within_list xs t x e)

pub number_within : (ds : List TypeDef) (i place : ℕ) → HasPlace (map data_type_of ds) i place → i < length ds
number_within ds i place h = omega (arith, within_list (map data_type_of ds) i h.def h.is, length-map ds data_type_of)

cons_length : (d : TypeDef) → length (data_type_of d).cons ≡ vec_len d.cons
cons_length d = length-map d.cons.items constructor_of ∙ sym d.cons.ok.0

pub place_within : (ds : List TypeDef) (i place : ℕ) (d : TypeDef) → HasPlace (map data_type_of ds) i place → place < vec_len (get_or ds i d).cons
place_within ds i place d h =
    let a : Some (data_type_of (get_or ds i d)) ≡ Some h.def = sym (def_at ds i d (number_within ds i place h)) ∙ h.is in
    let s : data_type_of (get_or ds i d) ≡ h.def = cc in
    omega (arith, h.within, ap (λ (x : DataType). length x.cons) s, cons_length (get_or ds i d))

pub has_place : (ds : List TypeDef) (i place : ℕ) (d : TypeDef) → i < length ds → place < vec_len (get_or ds i d).cons → HasPlace (map data_type_of ds) i place
has_place ds i place d h k = record { def = data_type_of (get_or ds i d); is = def_at ds i d h; within = omega (arith, k, cons_length (get_or ds i d)) }

each_at : {A : Type 0} (P : A → Type 0) (xs : List A) (i : ℕ) (x : A) → slice_get xs i ≡ Some x → AllByRecursion P xs → P x
each_at P [] i x e a = absurd cc
each_at P (y ∷ xs) zero x e a = let s : y ≡ x = cc in subst P s a.0
each_at P (y ∷ xs) (suc i) x e a = each_at P xs i x e a.1

pub few_places : (ds : List TypeDef) (i place : ℕ) → AreTypes (map data_type_of ds) → HasPlace (map data_type_of ds) i place → place < 64
few_places ds i place a h = let k = each_at IsDataType (map data_type_of ds) i h.def h.is a.each in omega (arith, k.few_cons, h.within)

pub few_firsts : (types : List DataType) (t place : ℕ) → AreTypes types → HasPlace types t place → first_con types t ≤ 4096
few_firsts types t place a h = omega (arith, each types t a.each, within_list types t h.def h.is, a.few_types)
  where
    each : (types : List DataType) (t : ℕ) → AllByRecursion IsDataType types → first_con types t ≤ 64 * t
    each [] t a = omega arith
    each (x ∷ types) zero a = omega arith
    each (x ∷ types) (suc t) a = omega (arith, a.0.few_cons, each types t a.1)

pub few_fields : (ds : List TypeDef) (i place : ℕ) (d : TypeDef) (c : Con) → AreTypes (map data_type_of ds) → HasPlace (map data_type_of ds) i place
    → c ≡ get_or (get_or ds i d).cons.items place c → vec_len c.fields ≤ 4
few_fields ds i place d c a h is =
    let k = each_at IsDataType (map data_type_of ds) i (data_type_of (get_or ds i d)) (def_at ds i d (number_within ds i place h)) a.each in
    let w : place < length (get_or ds i d).cons.items = omega (arith, place_within ds i place d h, (get_or ds i d).cons.ok.0) in
    let e = each_at IsConstructor (data_type_of (get_or ds i d)).cons place (constructor_of c) (con_at (get_or ds i d).cons.items place c w ∙ ap (λ x. Some (constructor_of x)) (sym is)) k.each in
    omega (arith, e.few_fields, c.fields.ok.0)

pub node_here : (ds : List TypeDef) (i place first n m : ℕ) (d : TypeDef) (c : Con) (x : Item) (fields : List Kind)
    → HasPlace (map data_type_of ds) i place → c ≡ get_or (get_or ds i d).cons.items place c
    → first ≡ first_con (map data_type_of ds) i → n ≡ first + place → m ≡ vec_len c.fields → x ≡ item.Con m n → fields ≡ c.fields.items → IsConNode (map data_type_of ds) i place x fields
node_here ds i place first n m d c x fields h is f n_is m_is x_is fields_is =
    let w : place < length (get_or ds i d).cons.items = omega (arith, place_within ds i place d h, (get_or ds i d).cons.ok.0) in
    let e : m ≡ length c.fields.items = m_is ∙ c.fields.ok.0 in
    record {
      def = data_type_of (get_or ds i d);
      con = constructor_of c;
      is = def_at ds i d (number_within ds i place h);
      at = con_at (get_or ds i d).cons.items place c w ∙ ap (λ x. Some (constructor_of x)) (sym is);
      x_is = x_is ∙ ap (λ k. item.Con m k) (n_is ∙ ap (λ k. k + place) f) ∙ ap (λ l. item.Con l (first_con (map data_type_of ds) i + place)) e;
      fields_is = fields_is;
    }

same_def : (ds : List TypeDef) (types : List DataType) (i : ℕ) (d : TypeDef) → i < length ds → map data_type_of ds ≡ types
    → slice_get types i ≡ Some (data_type_of (get_or ds i d))
same_def ds types i d h e = ap (λ l. slice_get l i) (sym e) ∙ def_at ds i d h

pub named_node : (types : List DataType) (ds : List TypeDef) (marks : List Bool) (t place : ℕ) (d : TypeDef) (w : List ℕ) (x : Item) (fields : List Kind) → DistinctNames types → Exact types marks → map data_type_of ds ≡ types → t < length ds
    → choose marks w (data_type_of (get_or ds t d)).cons ≡ Some place → IsConNode (map data_type_of ds) t place x fields → Named types (kind.Of t) w x fields
named_node types ds marks t place d w x fields distinct exact e h c n =
    let m : IsConNode types t place x fields = subst (λ l. IsConNode l t place x fields) e n in
    let a : Some (data_type_of (get_or ds t d)) ≡ Some m.def = sym (same_def ds types t d h e) ∙ m.is in
    let s : data_type_of (get_or ds t d) ≡ m.def = cc in
    let k = con_named types marks t m.def w place m.con distinct exact m.is (ap (λ (y : DataType). choose marks w y.cons) (sym s) ∙ c) m.at in
    subst (λ f. Named types (kind.Of t) w x f) (sym m.fields_is) (subst (λ y. Named types (kind.Of t) w y m.con.fields) (sym m.x_is) k)

pub unnamed_node : (types : List DataType) (ds : List TypeDef) (marks : List Bool) (t good : ℕ) (d : TypeDef) (w : List ℕ) → AreNamed types
    → Exact types marks → HasValue types (kind.Of t) → map data_type_of ds ≡ types → t < length ds
    → choose marks w (data_type_of (get_or ds t d)).cons ≡ None → good ≡ best marks w (data_type_of (get_or ds t d)).cons → Unnamed types (kind.Of t) w good
unnamed_node types ds marks t good d w names exact have e h c b = con_unnamed types marks t (data_type_of (get_or ds t d)) w good names exact have (same_def ds types t d h e) c b

-- a type that isn't there has no value
value_there : (types : List DataType) (t : ℕ) (v : Value) → Fits types (kind.Of t) v → t < length types
value_there types t (value.Int z) f = absurd (let e : kind.Of t ≡ kind.Int = f.0 in cc)
value_there types t (value.Flag b) f = absurd (let e : kind.Of t ≡ kind.Flag = f in cc)
value_there types t value.Dia f = absurd (let e : kind.Of t ≡ kind.Dia = f in cc)
value_there types t (value.Con c vs) f =
    let (con, is, fit) = some_is _ (λ con. FitAll types con.fields vs) f.1 in
    let l = located 0 types c t con is (of_type (type_of types c) t f.0) in
    omega (arith, within_list types l.index l.def l.is, l.number)

pub absent_node : (types : List DataType) (ds : List TypeDef) (t : ℕ) (w : List ℕ) → HasValue types (kind.Of t) → map data_type_of ds ≡ types
    → length ds ≤ t → Unnamed types (kind.Of t) w 0
absent_node types ds t w have e h = absurd (omega (arith, value_there types t have.value have.fits, h, ap length e, length-map ds data_type_of))

-- ---- ints

pub int_named : (types : List DataType) (w : List ℕ) (z : ℤ) → IntRead w z → Named types kind.Int w (item.Int z) []
int_named types w z r = by_sign r.is
  where
    by_sign : ((r.size ≤ 2147483647) × (w ≡ decimal r.size) × (z ≡ pos r.size))
        ⊎ ((r.size ≤ 2147483648) × (w ≡ 45 ∷ decimal r.size) × (z ≡ neg_ℤ (pos r.size))) → Named types kind.Int w (item.Int z) []
    by_sign (inl p) = subst (λ y. Named types kind.Int w (item.Int y) []) (sym p.2) (plus_named types w r.size p.1 p.0)
    by_sign (inr p) = subst (λ y. Named types kind.Int w (item.Int y) []) (sym p.2) (minus_named types w r.size p.1 p.0)

pub int_unnamed : (types : List DataType) (w : List ℕ) (good : ℕ) → AreNamed types → HasValue types kind.Int → IntRefused w good → Unnamed types kind.Int w good
int_unnamed types w good names have r = by_sign r.is
  where
    by_sign : ((w ≡ r.digits) × (good ≡ r.count) × DigitsRead 2147483647 r.digits r.value r.count × IsPlain w)
        ⊎ ((w ≡ 45 ∷ r.digits) × (good ≡ r.count + 1) × DigitsRead 2147483648 r.digits r.value r.count) → Unnamed types kind.Int w good
    by_sign (inl p) =
        subst (Unnamed types kind.Int w) (sym p.1) (plus_unnamed types w r.value r.count names have p.3.head (subst (λ l. DigitsRead 2147483647 l r.value r.count) (sym p.0) p.2) (λ e. r.part (e ∙ ap length p.0)))
    by_sign (inr p) = subst (Unnamed types kind.Int w) (sym p.1) (minus_unnamed types w r.digits r.value r.count p.0 p.2 r.part)

-- ---- truth values and diamonds

pub flag_is : (types : List DataType) (w : List ℕ) (b : Bool) → IsFlag w b → Named types kind.Flag w (item.Flag b) []
flag_is types w b h = flag_named types w b h.is

pub flag_not : (types : List DataType) (w : List ℕ) (good : ℕ) → AreNamed types → HasValue types kind.Flag → NoFlag w good → Unnamed types kind.Flag w good
flag_not types w good names have n = flag_unnamed types w good names have n.not_true n.not_false n.good_is

pub dia_is : (types : List DataType) (w : List ℕ) → w ≡ codes "<>" → Named types kind.Dia w item.Dia []
dia_is types w e = dia_named types w e

pub dia_not : (types : List DataType) (w : List ℕ) (good : ℕ) → AreNamed types → HasValue types kind.Dia → (w ≡ codes "<>" → ⊥)
    → good ≡ common (codes "<>") w → Unnamed types kind.Dia w good
dia_not types w good names have n e = dia_unnamed types w good names have n e

-- ---- what was read

pub node_read : (types : List DataType) (q : Kind) (text word rest : List ℕ) (x : Item) (fields : List Kind) → IsSplit (skip text) word rest
    → Named types q word x fields → NodeRead types q text x fields rest
node_read types q text word rest x fields s n = record { word = word; split = s; named = n }

pub good_within : (types : List DataType) (q : Kind) (text word rest : List ℕ) (good : ℕ) → IsSplit text word rest → Unnamed types q word good
    → good ≤ length text
good_within types q text word rest good s u = omega (arith, u.good_is, ap length u.is, length-append u.front u.more, ap length s.parts, length-append word rest)

pub node_refused : (types : List DataType) (q : Kind) (text word rest : List ℕ) (good : ℕ) → IsSplit (skip text) word rest
    → Unnamed types q word good → NodeRefused types q text (length (skip text) - good)
node_refused types q text word rest good s u = record { word = word; rest = rest; good = good; split = s; unnamed = u; left_is = omega (arith, good_within types q (skip text) word rest good s u) }

pub mark_here : (text rest : List ℕ) (mark first : ℕ) → 1 ≤ length text → first ≡ get_or text 0 0 → first ≡ mark
    → rest ≡ take (length text - 1) (drop 1 text) → text ≡ mark ∷ rest
mark_here [] rest mark first h f e r = absurd (omega (arith, h))
mark_here (x ∷ text) rest mark first h f e r = ap (λ y. y ∷ text) (sym f ∙ e) ∙ ap (λ l. mark ∷ l) (sym (r ∙ take_all (length (x ∷ text) - 1) text (omega arith)))

pub mark_first : (text rest : List ℕ) (mark first : ℕ) → 1 ≤ length text → first ≡ get_or text 0 0 → first ≡ mark
    → rest ≡ take (length text - 1) (drop 1 text) → before_mark mark text ≡ mark ∷ rest
mark_first text rest mark first h f e r = ap (before_mark mark) (mark_here text rest mark first h f e r) ∙ by_test (mark == 32)
  where
    by_test : (b : Bool) → (if b then mark ∷ rest else (if b then skip rest else mark ∷ rest)) ≡ mark ∷ rest
    by_test true = refl
    by_test false = refl

pub mark_other : (text : List ℕ) (mark first : ℕ) → 1 ≤ length text → first ≡ get_or text 0 0 → (first ≡ mark → ⊥) → NotFirst mark text
mark_other [] mark first h f n = tt
mark_other (x ∷ text) mark first h f n = λ e. n (f ∙ e)

pub mark_none : (text : List ℕ) (mark : ℕ) → length text < 1 → (0 ≡ length text) × NotFirst mark text
mark_none [] mark h = (refl, tt)
mark_none (x ∷ text) mark h = absurd (omega (arith, h))

pub int_kept : (types : List DataType) (w : List ℕ) (z : ℤ) → IntRead w z → Named types kind.Int w (item.Int (to_z w32 (of_z w32 z))) []
int_kept types w z r = subst (λ y. Named types kind.Int w (item.Int y) []) (sym (to_z-of_z w32 z (small r.is))) (int_named types w z r)
  where
    small : ((r.size ≤ 2147483647) × (w ≡ decimal r.size) × (z ≡ pos r.size))
        ⊎ ((r.size ≤ 2147483648) × (w ≡ 45 ∷ decimal r.size) × (z ≡ neg_ℤ (pos r.size))) → IsInt32 z
    small (inl p) = subst IsInt32 (sym p.2) (small_pos r.size p.0)
    small (inr p) = subst IsInt32 (sym p.2) (small_neg r.size p.0)

pub int_of_kind : (types : List DataType) (q : Kind) (w : List ℕ) (z : ℤ) → q ≡ kind.Int → IntRead w z → Named types q w (item.Int (to_z w32 (of_z w32 z))) []
int_of_kind types q w z e r = subst (λ k. Named types k w (item.Int (to_z w32 (of_z w32 z))) []) (sym e) (int_kept types w z r)

pub dia_of_kind : (types : List DataType) (q : Kind) (w : List ℕ) → q ≡ kind.Dia → w ≡ codes "<>" → Named types q w item.Dia []
dia_of_kind types q w e h = subst (λ k. Named types k w item.Dia []) (sym e) (dia_is types w h)

-- ---- nodes whose words stand in front

pub front_named : (types : List DataType) (ds : List TypeDef) (marks : List Bool) (t place : ℕ) (d : TypeDef) (text rest : List ℕ) (x : Item) (fields : List Kind) → AreNamed types
    → DistinctNames types → Exact types marks → map data_type_of ds ≡ types → t < length ds
    → FrontCon marks (data_type_of (get_or ds t d)).cons text place rest → IsConNode (map data_type_of ds) t place x fields → FrontRead types (kind.Of t) text x fields rest
front_named types ds marks t place d text rest x fields names distinct exact e h f n =
    let m : IsConNode types t place x fields = subst (λ l. IsConNode l t place x fields) e n in
    let a : Some (data_type_of (get_or ds t d)) ≡ Some m.def = sym (same_def ds types t d h e) ∙ m.is in
    let s : data_type_of (get_or ds t d) ≡ m.def = cc in
    let at : slice_get m.def.cons place ≡ Some f.con = ap (λ (y : DataType). slice_get y.cons place) (sym s) ∙ f.is in
    let b : Some m.con ≡ Some f.con = sym m.at ∙ at in
    let same : m.con ≡ f.con = cc in
    let named = name_named types marks t m.def f.con.name place m.con distinct exact m.is (subst (λ y. is_ready marks y ≡ true) (sym same) f.ready, ap (λ y. y.name) same) m.at in
    let c = first_con types t + place in
    let is : constructor types c ≡ Some m.con = con_there types t place m.def m.con m.is m.at in
    let fine : IsTrue (is_word f.con.name) = subst (λ w. IsTrue (is_word w)) (named_con types c m.con is ∙ ap (λ y. y.name) same) (con_fine types c m.con names is) in
    record {
      word = f.con.name;
      split = record { parts = f.front.parts; all = word_all f.con.name fine; ends = f.front.ends };
      named = subst (λ g. Named types (kind.Of t) f.con.name x g) (sym m.fields_is) (subst (λ y. Named types (kind.Of t) f.con.name y m.con.fields) (sym m.x_is) named);
    }

-- where all fields of all types have values, those of this type have
pub ready_type : (types : List DataType) (ds : List TypeDef) (marks : List Bool) (t : ℕ) (d : TypeDef) (full : Bool) → full ≡ all_ready marks types
    → map data_type_of ds ≡ types → t < length ds → full ≡ true → list_all (is_ready marks) (data_type_of (get_or ds t d)).cons ≡ true
ready_type types ds marks t d full f e h is = at_type ds t d h (ap (all_ready marks) e ∙ sym f ∙ is)
  where
    at_type : (ds : List TypeDef) (t : ℕ) (d : TypeDef) → t < length ds → all_ready marks (map data_type_of ds) ≡ true
        → list_all (is_ready marks) (data_type_of (get_or ds t d)).cons ≡ true
    at_type [] t d h all = absurd (omega (arith, h))
    at_type (x ∷ ds) zero d h all = (and_parts (list_all (is_ready marks) (data_type_of x).cons) _ all).0
    at_type (x ∷ ds) (suc t) d h all = at_type ds t d (omega (arith, h)) (and_parts (list_all (is_ready marks) (data_type_of x).cons) _ all).1

pub front_int_named : (types : List DataType) (q : Kind) (text rest : List ℕ) (z : ℤ) → q ≡ kind.Int → FrontInt text z rest
    → FrontRead types q text (item.Int (to_z w32 (of_z w32 z))) [] rest
front_int_named types q text rest z e f = record { word = f.word; split = f.split; named = int_of_kind types q f.word z e f.read }

pub front_is_read : (types : List DataType) (q : Kind) (text behind rest : List ℕ) (x : Item) (fields : List Kind) → behind ≡ skip text
    → FrontRead types q behind x fields rest → NodeRead types q text x fields rest
front_is_read types q text behind rest x fields e f = record { word = f.word; split = subst (λ t. IsSplit t f.word rest) e f.split; named = f.named }
