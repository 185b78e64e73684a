-- A text of values has one reading: what is due leads through it in one way.
use Rattle.std.proofs.Common.{◌≡◌, ℕ, zero, suc, ◌<◌, Bool, true, false, List, [], ◌∷◌, ◌++◌, length, Option, Some, None, refl, sym, ap, ◌∙◌, subst, arith, inl, inr, pos}
use Rattle.std.specs.Prelude.{◌⊎◌, IsTrue, if◌then◌else◌, ◌==◌, decimal, neg_ℤ}
use Rattle.std.specs.Option.{option_map}
use Rattle.std.proofs.lemmas.Bool.Decides.{nat_tests}
use Rattle.camelot_values.specs.Value.{Value, IsInt32, parts}
use Rattle.camelot_values.specs.Counts.{size_all}
use Rattle.camelot_values.specs.Kinds.{DataType, constructor, type_of, constructor_name}
use Rattle.camelot_values.specs.declared.kinds.Kind.{Kind}
use Rattle.camelot_values.specs.declared.kinds.Kind.TheVariants as kind
use Rattle.camelot_values.specs.declared.value.Item.{Item}
use Rattle.camelot_values.specs.declared.value.Item.TheVariants as item
use Rattle.value_text.specs.Grammar.{AreNamed, DistinctNames, AfterSpaces, WordThen, IsNodeText, IsTextOf, IsRead, IsTooLong, IsBadShape, Spelled, is_word, is_word_byte}
use Rattle.value_text.specs.Dues.{Due}
use Rattle.value_text.specs.Dues as due
use Rattle.value_text.specs.Due.{Accepts, Rest, Reading, Whole, IsNode, HaveValues, Named, first_due, parts_due}
use Rattle.value_text.specs.Splitting.{skip, before_mark, NotFirst, NodeRead}
use Rattle.value_text.proofs.Words.{and_parts, word_all, same_tail}
use Rattle.value_text.proofs.Comings.{unfold_node, parts_have}
use Rattle.value_text.proofs.Atoms.{flag_named, dia_named, plus_named, minus_named, pos_small, neg_small}
use Rattle.value_text.proofs.Naming.{ConNode, con_node, con_text, same_con}
use Rattle.value_text.proofs.Following.{mark_step, mark_stop, node_step, end_step, end_stop, mark_shorter, node_shorter}
use Rattle.value_text.proofs.Answering.{below}
use Rattle.value_text.proofs.Texts.{accepts_text, one_text, possible_first, reading_starts}

-- ---- the word of a node is that of no other one

same_node : (types : List DataType) (t : ℕ) (w : List ℕ) (x y : Item) (fields others : List Kind) → DistinctNames types
    → (a : ConNode types t x fields) → IsNodeText (constructor_name types) x w
    → (b : ConNode types t y others) → IsNodeText (constructor_name types) y w → (y ≡ x) × (others ≡ fields)
same_node types t w x y fields others d a k b l =
    let same : a.c ≡ b.c = same_con types a.c b.c a.con b.con d a.is b.is (sym (con_text types t x fields w a k) ∙ con_text types t y others w b l) in
    let u : Some a.con ≡ Some b.con = sym a.is ∙ ap (constructor types) same ∙ b.is in
    let v : a.con ≡ b.con = cc in
    let f : others ≡ fields = b.fields_is ∙ ap (λ c. c.fields) (sym v) ∙ sym a.fields_is in
    (b.x_is ∙ ap (λ m. item.Con (length others) m) (sym same) ∙ ap (λ l. item.Con (length l) a.c) f ∙ sym a.x_is, f)

named_con : (types : List DataType) (q : Kind) (w : List ℕ) (x : Item) (fields : List Kind) (o : Option ℕ) → DistinctNames types
    → HaveValues types fields → IsNode types q x fields
    → IsNodeText (constructor_name types) x w → option_map kind.Of o ≡ Some q → Named types q w x fields
named_con types q w x fields None d h n k e = absurd cc
named_con types q w x fields (Some t) d h n k e =
    let s : kind.Of t ≡ q = cc in
    let a = con_node types t x fields (subst (λ p. IsNode types p x fields) (sym s) n) in
    record {
      node = n;
      have = h;
      text = k;
      only = λ y others m l. same_node types t w x y fields others d a k (con_node types t y others (subst (λ p. IsNode types p y others) (sym s) m)) l;
    }

pub named_node : (types : List DataType) (q : Kind) (w : List ℕ) (x : Item) (fields : List Kind) → DistinctNames types → HaveValues types fields
    → IsNode types q x fields
    → IsNodeText (constructor_name types) x w → Named types q w x fields
named_node types q w (item.Int z) fields d h n k =
    subst (λ p. Named types p w (item.Int z) fields) (sym n.0) (subst (λ f. Named types kind.Int w (item.Int z) f) (sym n.2) (by_sign k.is))
  where
    by_sign : ((w ≡ decimal k.size) × (z ≡ pos k.size)) ⊎ ((w ≡ 45 ∷ decimal k.size) × (z ≡ neg_ℤ (pos k.size))) → Named types kind.Int w (item.Int z) []
    by_sign (inl p) = subst (λ y. Named types kind.Int w (item.Int y) []) (sym p.1) (plus_named types w k.size p.0 (pos_small k.size (subst IsInt32 p.1 n.1)))
    by_sign (inr p) = subst (λ y. Named types kind.Int w (item.Int y) []) (sym p.1) (minus_named types w k.size p.0 (neg_small k.size (subst IsInt32 p.1 n.1)))
named_node types q w (item.Flag b) fields d h n k =
    subst (λ p. Named types p w (item.Flag b) fields) (sym n.0) (subst (λ f. Named types kind.Flag w (item.Flag b) f) (sym n.1) (flag_named types w b k))
named_node types q w item.Dia fields d h n k =
    subst (λ p. Named types p w item.Dia fields) (sym n.0) (subst (λ f. Named types kind.Dia w item.Dia f) (sym n.1) (dia_named types w k))
named_node types q w (item.Con m c) fields d h n k = let (con, is, of, f, count) = n in named_con types q w (item.Con m c) fields (type_of types c) d h n k of

-- ---- the word that stands behind spaces

word_here : (IsText Then : List ℕ → Type 0) (text : List ℕ) → AfterSpaces (WordThen IsText Then) text → WordThen IsText Then (skip text)
word_here IsText Then [] h = h
word_here IsText Then (b ∷ text) h = by_test (b == 32) refl h (λ k. word_here IsText Then text k)
  where
    no_space : (w rest : List ℕ) → b ∷ text ≡ w ++ rest → IsTrue (is_word w) → b ≡ 32 → ⊥
    no_space [] rest e f s = absurd cc
    no_space (c ∷ w) rest e f s =
        let k : 32 ≡ c = sym s ∙ (same_tail b c text (w ++ rest) e).0 in
        let t : is_word_byte 32 ≡ true = subst (λ y. is_word_byte y ≡ true) (sym k) (and_parts (is_word_byte c) _ f).0 in absurd cc

    by_test : (t : Bool) → (b == 32) ≡ t → AfterSpaces (WordThen IsText Then) (b ∷ text)
        → (AfterSpaces (WordThen IsText Then) text → WordThen IsText Then (skip text)) → WordThen IsText Then (if t then skip text else b ∷ text)
    by_test true e (inl w) f = let s : b ≡ 32 = grind (arith, nat_tests, e) in absurd (no_space w.word w.rest w.parts w.form s)
    by_test true e (inr p) f = f p.1
    by_test false e (inl w) f = w
    by_test false e (inr p) f = let k : (b == 32) ≡ true = grind (arith, nat_tests, p.0) in let c : true ≡ false = sym k ∙ e in absurd cc

-- ---- a text that is of what is due is read to its end

pub record Found (types : List DataType) (first : List Due) (text : List ℕ) : Type 0 where
  pub xs : List Item
  pub whole : Whole types first text xs

read_through : (room : ℕ) (types : List DataType) (first : List Due) (text : List ℕ) (xs : List Item) (ds : List Due) (rest : List ℕ) (zs : List Item) → AreNamed types → DistinctNames types → length rest < room
    → Reading types first text xs ds rest → Accepts types first text zs → Found types first text
read_through zero types first text xs ds rest zs names d h r a = absurd (omega (arith, h))
read_through (suc room) types first text xs [] rest zs names d h r a = by_text (skip rest) refl
  where
    by_text : (t : List ℕ) → skip rest ≡ t → Found types first text
    by_text [] e = record { xs = xs; whole = end_step types first text xs rest r (ap length e) }
    by_text (b ∷ t) e = absurd ((end_stop types first text xs rest names r (λ z. let k : length (b ∷ t) ≡ 0 = sym (ap length e) ∙ z in absurd (omega (arith, k)))).none zs a)
read_through (suc room) types first text xs (due.Mark m ∷ ds) rest zs names d h r a = by_text (before_mark m rest) refl (λ after e. read_through room types first text xs ds after zs names d (let s = mark_shorter m rest after e in omega (arith, h, s)) (mark_step types first text xs m ds rest after r e) a)
  where
    stopped : NotFirst m (before_mark m rest) → Found types first text
    stopped n = absurd ((mark_stop types first text xs m ds rest (length (before_mark m rest)) names r refl n).none zs a)

    by_byte : (t : Bool) (b : ℕ) (after : List ℕ) → (b == m) ≡ t → before_mark m rest ≡ b ∷ after
        → ((after : List ℕ) → before_mark m rest ≡ m ∷ after → Found types first text) → Found types first text
    by_byte true b after e is f = let s : b ≡ m = grind (arith, nat_tests, e) in f after (is ∙ ap (λ c. c ∷ after) s)
    by_byte false b after e is f = stopped (subst (NotFirst m) (sym is) (λ s. let k : (b == m) ≡ true = grind (arith, nat_tests, s) in let c : true ≡ false = sym k ∙ e in absurd cc))

    by_text : (t : List ℕ) → before_mark m rest ≡ t → ((after : List ℕ) → before_mark m rest ≡ m ∷ after → Found types first text) → Found types first text
    by_text [] e f = stopped (subst (NotFirst m) (sym e) tt)
    by_text (b ∷ after) e f = by_byte (b == m) b after refl e f
read_through (suc room) types first text xs (due.Value q ∷ ds) rest zs names d h r a =
    let k : Rest types (due.Value q ∷ ds) rest xs zs = r.leads.from rest zs r.after (subst (λ t. Accepts types first t zs) r.is a) in
    let b = unfold_node types ds q k.accepts.ps k.ys k.accepts.comes in
    let w = word_here (IsNodeText (constructor_name types) b.x) (Spelled (constructor_name types) b.more) rest (subst (λ l. Spelled (constructor_name types) l rest) b.ps_is k.accepts.spelled) in
    let n : NodeRead types q rest b.x b.fields w.rest = record {
      word = w.word;
      split = record { parts = w.parts; all = word_all w.word w.form; ends = w.ends };
      named = named_node types q w.word b.x b.fields d (parts_have types ds b.fields b.more b.ys b.comes) b.node w.is;
    } in
    let s = node_shorter types q rest w.rest b.x b.fields names n in
    read_through room types first text (xs ++ b.x ∷ []) (parts_due b.fields ++ ds) w.rest zs names d (omega (arith, h, s)) (node_step types first text xs (xs ++ b.x ∷ []) q ds (parts_due b.fields ++ ds) rest w.rest b.x b.fields names r n refl refl) a

-- ---- one reading, and one answer

pub one_reading : (types : List DataType) (kinds : List Kind) (text : List ℕ) (vs ws : List Value) → AreNamed types → DistinctNames types
    → IsTextOf types kinds text vs → IsTextOf types kinds text ws → vs ≡ ws
one_reading types kinds text vs ws names d a b =
    let start = reading_starts types (first_due kinds) text (possible_first types kinds (record { values = parts vs; fit = a.fit })) in
    let f = read_through (suc (length text)) types (first_due kinds) text [] (first_due kinds) text _ names d (omega arith) start (accepts_text types kinds text vs a) in
    one_text types kinds text f.xs vs ws f.whole a b

pub one_size : (types : List DataType) (kinds : List Kind) (text : List ℕ) (m n : ℕ) → AreNamed types → DistinctNames types
    → IsTooLong types kinds text m → IsTooLong types kinds text n → m ≡ n
one_size types kinds text m n names d a b = a.items_is ∙ ap (λ v. size_all (parts v)) (one_reading types kinds text a.values b.values names d a.text_of b.text_of) ∙ sym b.items_is

pub never_both : (types : List DataType) (kinds : List Kind) (text : List ℕ) (vs : List Value) (n : ℕ) → AreNamed types → DistinctNames types
    → IsRead types kinds text vs → IsTooLong types kinds text n → ⊥
never_both types kinds text vs n names d a b =
    let s = one_reading types kinds text vs b.values names d a.text_of b.text_of in absurd (omega (arith, a.few, b.many, b.items_is, ap (λ v. size_all (parts v)) s))

pub one_place : (types : List DataType) (kinds : List Kind) (text : List ℕ) (m n : ℕ) → IsBadShape types kinds text m → IsBadShape types kinds text n → m ≡ n
one_place types kinds text m n a b = omega (arith, below types kinds text m n a b, below types kinds text n m b a)
