-- Which node a word of a kind is that of.
use Rattle.std.proofs.Common.{◌≡◌, ℕ, zero, suc, ◌+◌, ◌<◌, ◌≤◌, Bool, true, false, List, [], ◌∷◌, ◌++◌, length, map, Option, Some, None, refl, sym, ap, ◌∙◌, subst, arith, inl, inr}
use Rattle.std.specs.Prelude.{◌⊎◌, IsTrue, slice_get, max, if◌then◌else◌, ◌==◌, ◌&&◌}
use Rattle.std.specs.Option.{option_map}
use Rattle.std.specs.Str.{bytes_eq}
use Rattle.std.proofs.lemmas.Bool.{cases_lt}
use Rattle.std.proofs.lemmas.Bool.Decides.{nat_tests}
use Rattle.camelot_values.specs.Names.{AreDistinct, IsUpperName}
use Rattle.camelot_values.specs.NameLaws.{same_name, name_itself}
use Rattle.camelot_values.specs.Items.{nodes}
use Rattle.camelot_values.specs.KindLaws.{located}
use Rattle.camelot_values.specs.Kinds.{DataType, Constructor, constructors, constructor, type_of, constructor_name}
use Rattle.camelot_values.specs.declared.kinds.Kind.{Kind}
use Rattle.camelot_values.specs.declared.kinds.Kind.TheVariants as kind
use Rattle.camelot_values.specs.declared.value.Item.{Item}
use Rattle.camelot_values.specs.declared.value.Item.TheVariants as item
use Rattle.value_text.specs.Grammar as g
use Rattle.value_text.specs.Dues as due
use Rattle.value_text.specs.Grammar.{pieces, IsNodeText, IsIntText, is_word, is_word_byte}
use Rattle.value_text.specs.Printing.{node_text}
use Rattle.value_text.specs.Due.{Comes, IsNode, HaveValues, IsWordFront, Named, Unnamed}
use Rattle.value_text.specs.Grammar.{AreNamed, DistinctNames}
use Rattle.value_text.specs.Finite.{is_ready, HasValue, Exact}
use Rattle.value_text.specs.Choosing.{common, choose, best}
use Rattle.value_text.specs.Inhabited.{first_con}
use Rattle.value_text.proofs.Words.{and_parts, and_both, true_false}
use Rattle.value_text.proofs.Lives.{AllFine, fine_comes, named_con, at_place, name_fine}
use Rattle.value_text.proofs.Finiteness.{con_at, type_at, values_of_kinds, kinds_of_values}
use Rattle.value_text.proofs.Comings.{unfold_node, parts_have}

-- ---- names that are one

distinct_tail : (w : List ℕ) (ws : List (List ℕ)) → AreDistinct (w ∷ ws) → AreDistinct ws
distinct_tail w ws d = λ x before between rest e. d x (w ∷ before) between rest (ap (λ l. w ∷ l) e)

split_at : (ws : List (List ℕ)) (d : ℕ) (w : List ℕ) → slice_get ws d ≡ Some w → (before : List (List ℕ)) × (rest : List (List ℕ)) × (ws ≡ before ++ w ∷ rest)
split_at [] d w e = absurd cc
split_at (x ∷ ws) zero w e = let s : x ≡ w = cc in ([], ws, ap (λ y. y ∷ ws) s)
split_at (x ∷ ws) (suc d) w e = let (before, rest, s) = split_at ws d w e in (x ∷ before, rest, ap (λ l. x ∷ l) s)

distinct_place : (ws : List (List ℕ)) (c d : ℕ) (w : List ℕ) → AreDistinct ws → slice_get ws c ≡ Some w → slice_get ws d ≡ Some w → c ≡ d
distinct_place [] c d w a e f = absurd cc
distinct_place (x ∷ ws) zero zero w a e f = refl
distinct_place (x ∷ ws) zero (suc d) w a e f =
    let s : x ≡ w = cc in
    let (before, rest, p) = split_at ws d w f in absurd (a w [] before rest (ap (λ y. y ∷ ws) s ∙ ap (λ l. w ∷ l) p))
distinct_place (x ∷ ws) (suc c) zero w a e f =
    let s : x ≡ w = cc in
    let (before, rest, p) = split_at ws c w e in absurd (a w [] before rest (ap (λ y. y ∷ ws) s ∙ ap (λ l. w ∷ l) p))
distinct_place (x ∷ ws) (suc c) (suc d) w a e f = ap suc (distinct_place ws c d w (distinct_tail x ws a) e f)

name_at : (cs : List Constructor) (c : ℕ) (con : Constructor) → slice_get cs c ≡ Some con → slice_get (map (λ c. c.name) cs) c ≡ Some con.name
name_at [] c con e = absurd cc
name_at (x ∷ cs) zero con e = let s : x ≡ con = cc in ap (λ y. Some y.name) s
name_at (x ∷ cs) (suc c) con e = name_at cs c con e

pub same_con : (types : List DataType) (c d : ℕ) (con other : Constructor) → DistinctNames types → constructor types c ≡ Some con
    → constructor types d ≡ Some other → con.name ≡ other.name → c ≡ d
same_con types c d con other n e f s =
    distinct_place (map (λ c. c.name) (constructors types)) c d con.name n (name_at (constructors types) c con e) (name_at (constructors types) d other f ∙ ap Some (sym s))

-- ---- common fronts

pub record Common (xs ys : List ℕ) (n : ℕ) : Type 0 where
  pub front : List ℕ
  pub more : List ℕ
  pub last : List ℕ
  pub first_is : xs ≡ front ++ more
  pub second_is : ys ≡ front ++ last
  pub length_is : length front ≡ n

common_front : (xs ys : List ℕ) → Common xs ys (common xs ys)
common_front [] ys = record { front = []; more = []; last = ys; first_is = refl; second_is = refl; length_is = refl }
common_front (x ∷ xs) [] = record { front = []; more = x ∷ xs; last = []; first_is = refl; second_is = refl; length_is = refl }
common_front (x ∷ xs) (y ∷ ys) = by_test (x == y) refl (common_front xs ys)
  where
    by_test : (b : Bool) → (x == y) ≡ b → Common xs ys (common xs ys) → Common (x ∷ xs) (y ∷ ys) (if b then suc (common xs ys) else 0)
    by_test true e c =
        let s : x ≡ y = grind (arith, nat_tests, e) in
        record { front = x ∷ c.front; more = c.more; last = c.last; first_is = ap (λ l. x ∷ l) c.first_is; second_is = ap (λ l. y ∷ l) c.second_is ∙ ap (λ z. z ∷ (c.front ++ c.last)) (sym s); length_is = ap suc c.length_is }
    by_test false e c = record { front = []; more = x ∷ xs; last = y ∷ ys; first_is = refl; second_is = refl; length_is = refl }

common_most : (f m l : List ℕ) → length f ≤ common (f ++ m) (f ++ l)
common_most [] m l = omega arith
common_most (x ∷ f) m l = by_test (x == x) (let e : (x == x) ≡ true = grind (arith, nat_tests) in e) (common_most f m l)
  where
    by_test : (b : Bool) → b ≡ true → length f ≤ common (f ++ m) (f ++ l) → suc (length f) ≤ (if b then suc (common (f ++ m) (f ++ l)) else 0)
    by_test true e h = omega (arith, h)
    by_test false e h = absurd cc

-- ---- some word of the kind

pub word_front_of : (types : List DataType) (q : Kind) → AreNamed types → HasValue types q → IsWordFront types q []
word_front_of types q names h =
    let c : Comes types (due.Value q ∷ []) (pieces h.value []) (nodes h.value []) = (h.value, [], [], h.fits, refl, refl, (refl, refl)) in
    let b = unfold_node types [] q (pieces h.value []) (nodes h.value []) c in
    let f : AllFine (constructor_name types) (g.Node b.x ∷ b.more) = subst (AllFine (constructor_name types)) b.ps_is (fine_comes types names (due.Value q ∷ []) (pieces h.value []) (nodes h.value []) c) in
    record { x = b.x; fields = b.fields; more = node_text (constructor_name types) b.x; node = b.node; have = parts_have types [] b.fields b.more b.ys b.comes; text = f.1; form = f.0 }

-- the word of a node that has so many bytes in common with the word that was read
pub record Reached (types : List DataType) (q : Kind) (w : List ℕ) (good : ℕ) : Type 0 where
  pub x : Item
  pub fields : List Kind
  pub word : List ℕ
  pub node : IsNode types q x fields
  pub have : HaveValues types fields
  pub text : IsNodeText (constructor_name types) x word
  pub form : IsTrue (is_word word)
  pub common_is : common word w ≡ good

pub unnamed_by : (types : List DataType) (q : Kind) (w : List ℕ) (good : ℕ) → IsWordFront types q [] → (good ≡ 0) ⊎ Reached types q w good
    → ((x : Item) (fields : List Kind) (word : List ℕ) → IsNode types q x fields → HaveValues types fields → IsNodeText (constructor_name types) x word → common word w ≤ good)
    → ((x : Item) (fields : List Kind) → IsNode types q x fields → HaveValues types fields → IsNodeText (constructor_name types) x w → ⊥)
    → Unnamed types q w good
unnamed_by types q w good some reach most none = by_reach reach
  where
    longest : (longer last : List ℕ) → w ≡ longer ++ last → IsWordFront types q longer → length longer ≤ good
    longest longer last e b =
        let a = most b.x b.fields (longer ++ b.more) b.node b.have b.text in
        omega (arith, a, common_most longer b.more last, ap (common (longer ++ b.more)) e)

    by_common : (r : Reached types q w good) → Common r.word w good → Unnamed types q w good
    by_common r c = record {
      front = c.front;
      more = c.last;
      is = c.second_is;
      good_is = sym c.length_is;
      begun = record { x = r.x; fields = r.fields; more = c.more; node = r.node; have = r.have; text = subst (IsNodeText (constructor_name types) r.x) c.first_is r.text; form = subst (λ v. IsTrue (is_word v)) c.first_is r.form };
      longest = longest;
      none = none;
    }

    by_reach : (good ≡ 0) ⊎ Reached types q w good → Unnamed types q w good
    by_reach (inl e) = record { front = []; more = w; is = refl; good_is = e; begun = some; longest = longest; none = none }
    by_reach (inr r) = by_common r (subst (Common r.word w) r.common_is (common_front r.word w))

-- ---- names of constructors

choose_some : (marks : List Bool) (w : List ℕ) (cs : List Constructor) (j : ℕ) (con : Constructor) → choose marks w cs ≡ Some j
    → slice_get cs j ≡ Some con → (is_ready marks con ≡ true) × (con.name ≡ w)
choose_some marks w [] j con e h = absurd cc
choose_some marks w (c ∷ cs) j con e h = by_test (is_ready marks c && bytes_eq c.name w) refl e h (λ i k. choose_some marks w cs i con k)
  where
    by_rest : (o : Option ℕ) (j : ℕ) → option_map suc o ≡ Some j → slice_get (c ∷ cs) j ≡ Some con
        → ((i : ℕ) → o ≡ Some i → slice_get cs i ≡ Some con → (is_ready marks con ≡ true) × (con.name ≡ w))
        → (is_ready marks con ≡ true) × (con.name ≡ w)
    by_rest None j e h f = absurd cc
    by_rest (Some i) j e h f = let k : suc i ≡ j = cc in f i refl (subst (λ n. slice_get (c ∷ cs) n ≡ Some con) (sym k) h)

    by_test : (b : Bool) → (is_ready marks c && bytes_eq c.name w) ≡ b → (if b then Some 0 else option_map suc (choose marks w cs)) ≡ Some j
        → slice_get (c ∷ cs) j ≡ Some con
        → ((i : ℕ) → choose marks w cs ≡ Some i → slice_get cs i ≡ Some con → (is_ready marks con ≡ true) × (con.name ≡ w))
        → (is_ready marks con ≡ true) × (con.name ≡ w)
    by_test true t e h f =
        let z : 0 ≡ j = cc in
        let k : Some c ≡ Some con = subst (λ n. slice_get (c ∷ cs) n ≡ Some con) (sym z) h in
        let s : c ≡ con = cc in
        let p = and_parts (is_ready marks c) (bytes_eq c.name w) t in
        (subst (λ x. is_ready marks x ≡ true) s p.0, subst (λ x. x.name ≡ w) s (same_name c.name w p.1))
    by_test false t e h f = by_rest (choose marks w cs) j e h f

choose_none : (marks : List Bool) (w : List ℕ) (cs : List Constructor) (j : ℕ) (con : Constructor) → choose marks w cs ≡ None
    → slice_get cs j ≡ Some con → is_ready marks con ≡ true → con.name ≡ w → ⊥
choose_none marks w [] j con e h r n = absurd cc
choose_none marks w (c ∷ cs) j con e h r n = by_test (is_ready marks c && bytes_eq c.name w) refl e j h (λ i k g. choose_none marks w cs i con k g r n)
  where
    rest : (o : Option ℕ) → option_map suc o ≡ None → o ≡ None
    rest None e = refl
    rest (Some i) e = absurd cc

    by_place : (is_ready marks c && bytes_eq c.name w) ≡ false → choose marks w cs ≡ None → (j : ℕ) → slice_get (c ∷ cs) j ≡ Some con
        → ((i : ℕ) → choose marks w cs ≡ None → slice_get cs i ≡ Some con → ⊥) → ⊥
    by_place t k zero h f =
        let s : c ≡ con = cc in
        true_false (is_ready marks c && bytes_eq c.name w) (and_both (is_ready marks c) (bytes_eq c.name w) (subst (λ x. is_ready marks x ≡ true) (sym s) r) (subst (λ x. bytes_eq x w ≡ true) (sym (ap (λ x. x.name) s ∙ n)) (name_itself w))) t
    by_place t k (suc i) h f = f i k h

    by_test : (b : Bool) → (is_ready marks c && bytes_eq c.name w) ≡ b → (if b then Some 0 else option_map suc (choose marks w cs)) ≡ None → (j : ℕ)
        → slice_get (c ∷ cs) j ≡ Some con
        → ((i : ℕ) → choose marks w cs ≡ None → slice_get cs i ≡ Some con → ⊥) → ⊥
    by_test true t e j h f = absurd cc
    by_test false t e j h f = by_place t (rest (choose marks w cs) e) j h f

best_most : (marks : List Bool) (w : List ℕ) (cs : List Constructor) (j : ℕ) (con : Constructor) → slice_get cs j ≡ Some con
    → is_ready marks con ≡ true → common con.name w ≤ best marks w cs
best_most marks w [] j con h r = absurd cc
best_most marks w (c ∷ cs) zero con h r = let s : c ≡ con = cc in by_test (is_ready marks c) (subst (λ x. is_ready marks x ≡ true) (sym s) r) (ap (λ x. common x.name w) s)
  where
    by_test : (b : Bool) → b ≡ true → common c.name w ≡ common con.name w
        → common con.name w ≤ (if b then max (common c.name w) (best marks w cs) else best marks w cs)
    by_test true e k = omega (arith, k)
    by_test false e k = absurd cc
best_most marks w (c ∷ cs) (suc j) con h r = by_test (is_ready marks c) (best_most marks w cs j con h r)
  where
    by_test : (b : Bool) → common con.name w ≤ best marks w cs → common con.name w ≤ (if b then max (common c.name w) (best marks w cs) else best marks w cs)
    by_test true k = omega (arith, k)
    by_test false k = k

-- a constructor that has the most in common
abbrev Best : List Bool → List ℕ → List Constructor → ℕ → Type 0
Best marks w cs n = (n ≡ 0) ⊎ ((j : ℕ) × (con : Constructor) × (slice_get cs j ≡ Some con) × (is_ready marks con ≡ true) × (common con.name w ≡ n))

best_is : (marks : List Bool) (w : List ℕ) (cs : List Constructor) → Best marks w cs (best marks w cs)
best_is marks w [] = inl refl
best_is marks w (c ∷ cs) = by_test (is_ready marks c) refl (best_is marks w cs)
  where
    later : Best marks w cs (best marks w cs) → (n : ℕ) → best marks w cs ≡ n → Best marks w (c ∷ cs) n
    later (inl e) n k = inl (sym k ∙ e)
    later (inr (j, con, is, r, e)) n k = inr (suc j, con, is, r, e ∙ k)

    by_max : is_ready marks c ≡ true → Best marks w cs (best marks w cs) → (best marks w cs < common c.name w) ⊎ (common c.name w ≤ best marks w cs)
        → Best marks w (c ∷ cs) (max (common c.name w) (best marks w cs))
    by_max r b (inl h) = inr (0, c, refl, r, omega (arith, h))
    by_max r b (inr h) = later b (max (common c.name w) (best marks w cs)) (omega (arith, h))

    by_test : (b : Bool) → is_ready marks c ≡ b → Best marks w cs (best marks w cs)
        → Best marks w (c ∷ cs) (if b then max (common c.name w) (best marks w cs) else best marks w cs)
    by_test true e b = by_max e b (cases_lt (best marks w cs) (common c.name w))
    by_test false e b = later b (best marks w cs) refl

-- a node of a type's kind is one of its constructors
pub record ConNode (types : List DataType) (t : ℕ) (x : Item) (fields : List Kind) : Type 0 where
  pub c : ℕ
  pub con : Constructor
  pub is : constructor types c ≡ Some con
  pub of : type_of types c ≡ Some t
  pub fields_is : fields ≡ con.fields
  pub x_is : x ≡ item.Con (length fields) c

pub of_type : (o : Option ℕ) (t : ℕ) → option_map kind.Of o ≡ Some (kind.Of t) → o ≡ Some t
of_type None t e = absurd cc
of_type (Some u) t e = let k : kind.Of u ≡ kind.Of t = cc in let s : u ≡ t = cc in ap Some s

pub con_node : (types : List DataType) (t : ℕ) (x : Item) (fields : List Kind) → IsNode types (kind.Of t) x fields → ConNode types t x fields
con_node types t (item.Int z) fields n = absurd (let e : kind.Of t ≡ kind.Int = n.0 in cc)
con_node types t (item.Flag b) fields n = absurd (let e : kind.Of t ≡ kind.Flag = n.0 in cc)
con_node types t item.Dia fields n = absurd (let e : kind.Of t ≡ kind.Dia = n.0 in cc)
con_node types t (item.Con k c) fields n =
    let (con, is, of, f, count) = n in record { c = c; con = con; is = is; of = of_type (type_of types c) t of; fields_is = f; x_is = ap (λ m. item.Con m c) count }

pub con_text : (types : List DataType) (t : ℕ) (x : Item) (fields : List Kind) (w : List ℕ) (n : ConNode types t x fields)
    → IsNodeText (constructor_name types) x w → w ≡ n.con.name
con_text types t x fields w n h =
    let k : w ≡ constructor_name types n.c = subst (λ y. IsNodeText (constructor_name types) y w) n.x_is h in k ∙ named_con types n.c n.con n.is

con_place : (types : List DataType) (t : ℕ) (d : DataType) (x : Item) (fields : List Kind) (n : ConNode types t x fields)
    → slice_get types t ≡ Some d → (j : ℕ) × (slice_get d.cons j ≡ Some n.con)
con_place types t d x fields n e =
    let l = located 0 types n.c t n.con n.is n.of in
    let s : Some l.def ≡ Some d = sym l.is ∙ ap (slice_get types) (sym (l.number ∙ omega arith)) ∙ e in
    let k : l.def ≡ d = cc in (l.place, subst (λ y. slice_get y.cons l.place ≡ Some n.con) k l.con_is)

con_ready : (types : List DataType) (marks : List Bool) (con : Constructor) (fields : List Kind) → Exact types marks → fields ≡ con.fields
    → HaveValues types fields → is_ready marks con ≡ true
con_ready types marks con fields exact e h = kinds_of_values types marks exact.complete con.fields (subst (HaveValues types) e h)

pub name_named : (types : List DataType) (marks : List Bool) (t : ℕ) (d : DataType) (w : List ℕ) (j : ℕ) (con : Constructor) → DistinctNames types
    → Exact types marks → slice_get types t ≡ Some d
    → (is_ready marks con ≡ true) × (con.name ≡ w) → slice_get d.cons j ≡ Some con → Named types (kind.Of t) w (item.Con (length con.fields) (first_con types t + j)) con.fields
name_named types marks t d w j con distinct exact e r at =
    let c = first_con types t + j in
    let is = con_at types t j d con e at in
    record {
      node = (con, is, ap (option_map kind.Of) (type_at types t j d con e at), refl, refl);
      have = values_of_kinds types marks exact.sound con.fields r.0;
      text = sym (named_con types c con is ∙ r.1);
      only = λ y others n k. other con c is r.1 y others (con_node types t y others n) k;
    }
  where
    other : (con : Constructor) (c : ℕ) → constructor types c ≡ Some con → con.name ≡ w
        → (y : Item) (others : List Kind) (n : ConNode types t y others) → IsNodeText (constructor_name types) y w
        → (y ≡ item.Con (length con.fields) c) × (others ≡ con.fields)
    other con c is name y others n k =
        let same : c ≡ n.c = same_con types c n.c con n.con distinct is n.is (name ∙ con_text types t y others w n k) in
        let u : Some con ≡ Some n.con = sym is ∙ ap (constructor types) same ∙ n.is in
        let v : con ≡ n.con = cc in
        let f : others ≡ con.fields = n.fields_is ∙ ap (λ x. x.fields) (sym v) in
        (n.x_is ∙ ap (λ m. item.Con (length others) m) (sym same) ∙ ap (λ l. item.Con (length l) c) f, f)

pub con_named : (types : List DataType) (marks : List Bool) (t : ℕ) (d : DataType) (w : List ℕ) (j : ℕ) (con : Constructor) → DistinctNames types
    → Exact types marks → slice_get types t ≡ Some d
    → choose marks w d.cons ≡ Some j → slice_get d.cons j ≡ Some con → Named types (kind.Of t) w (item.Con (length con.fields) (first_con types t + j)) con.fields
con_named types marks t d w j con distinct exact e h at = name_named types marks t d w j con distinct exact e (choose_some marks w d.cons j con h at) at

pub con_unnamed : (types : List DataType) (marks : List Bool) (t : ℕ) (d : DataType) (w : List ℕ) (good : ℕ) → AreNamed types → Exact types marks
    → HasValue types (kind.Of t) → slice_get types t ≡ Some d
    → choose marks w d.cons ≡ None → good ≡ best marks w d.cons → Unnamed types (kind.Of t) w good
con_unnamed types marks t d w good names exact have e h good_is =
    unnamed_by types (kind.Of t) w good (word_front_of types (kind.Of t) names have) (reach (best_is marks w d.cons)) most none
  where
    reach : Best marks w d.cons (best marks w d.cons) → (good ≡ 0) ⊎ Reached types (kind.Of t) w good
    reach (inl z) = inl (good_is ∙ z)
    reach (inr (j, con, at, r, k)) =
        let c = first_con types t + j in
        let is = con_at types t j d con e at in
        inr (record {
          x = item.Con (length con.fields) c;
          fields = con.fields;
          word = con.name;
          node = (con, is, ap (option_map kind.Of) (type_at types t j d con e at), refl, refl);
          have = values_of_kinds types marks exact.sound con.fields r;
          text = sym (named_con types c con is);
          form = name_fine con.name (at_place (λ c. IsUpperName c.name) (constructors types) c con names is);
          common_is = k ∙ sym good_is;
        })

    most : (x : Item) (fields : List Kind) (word : List ℕ) → IsNode types (kind.Of t) x fields → HaveValues types fields
        → IsNodeText (constructor_name types) x word → common word w ≤ good
    most x fields word node values text =
        let n = con_node types t x fields node in
        let (j, at) = con_place types t d x fields n e in
        let k = best_most marks w d.cons j n.con at (con_ready types marks n.con fields exact n.fields_is values) in
        omega (arith, k, good_is, ap (λ v. common v w) (con_text types t x fields word n text))

    none : (x : Item) (fields : List Kind) → IsNode types (kind.Of t) x fields → HaveValues types fields → IsNodeText (constructor_name types) x w → ⊥
    none x fields node values text =
        let n = con_node types t x fields node in
        let (j, at) = con_place types t d x fields n e in
        choose_none marks w d.cons j n.con h at (con_ready types marks n.con fields exact n.fields_is values) (sym (con_text types t x fields w n text))
