-- Which words are those of ints, truth values and diamonds.
use Rattle.std.proofs.Common.{◌≡◌, ℕ, zero, suc, ◌+◌, ◌^◌, ◌<◌, ◌≤◌, Bool, true, false, List, [], ◌∷◌, ◌++◌, length, take, drop, Option, Some, None, refl, sym, ap, ◌∙◌, subst, arith, append-nil, inl, inr, pos}
use Rattle.std.specs.Prelude.{◌⊎◌, IsTrue, decimal, max, cond, codes, ℤ, neg_ℤ}
use Rattle.std.specs.Option.{option_map}
use Rattle.std.specs.List.{list_all}
use Rattle.std.proofs.lemmas.Bool.{cases_lt}
use Rattle.std.proofs.lemmas.List.{take-append-drop, length-take-le}
use Rattle.camelot_values.specs.Value as value
use Rattle.camelot_values.specs.Value.{IsInt32}
use Rattle.camelot_values.specs.Names.{is_digit}
use Rattle.camelot_values.specs.Kinds.{DataType, constructor_name, type_of}
use Rattle.camelot_values.specs.declared.kinds.Kind.{Kind}
use Rattle.camelot_values.specs.declared.kinds.Kind.TheVariants as kind
use Rattle.camelot_values.specs.declared.value.Item.{Item}
use Rattle.camelot_values.specs.declared.value.Item.TheVariants as item
use Rattle.value_text.specs.Grammar.{IsNodeText, IsIntText, is_word}
use Rattle.value_text.specs.Due.{IsNode, HaveValues, IsWordFront, Named, Unnamed}
use Rattle.value_text.specs.Grammar.{AreNamed}
use Rattle.value_text.specs.Finite.{HasValue}
use Rattle.value_text.specs.Choosing.{common, DigitsRead}
use Rattle.value_text.proofs.Words.{and_parts, word_all, same_tail}
use Rattle.value_text.proofs.Lives.{decimal_fine}
use Rattle.value_text.proofs.Naming.{unnamed_by, Reached, word_front_of}
use Rattle.value_text.proofs.Digits.{decimal_one, decimal_digits}

-- ---- nodes of the simple kinds

pub record IntNode (types : List DataType) (x : Item) (fields : List Kind) : Type 0 where
  pub z : ℤ
  pub is : x ≡ item.Int z
  pub small : IsInt32 z
  pub none : fields ≡ []

no_con : (o : Option ℕ) (q : Kind) → ((t : ℕ) → kind.Of t ≡ q → ⊥) → option_map kind.Of o ≡ Some q → ⊥
no_con None q f e = absurd cc
no_con (Some t) q f e = f t cc

int_node : (types : List DataType) (x : Item) (fields : List Kind) → IsNode types kind.Int x fields → IntNode types x fields
int_node types (item.Int z) fields n = record { z = z; is = refl; small = n.1; none = n.2 }
int_node types (item.Flag b) fields n = absurd (let e : kind.Int ≡ kind.Flag = n.0 in cc)
int_node types item.Dia fields n = absurd (let e : kind.Int ≡ kind.Dia = n.0 in cc)
int_node types (item.Con k c) fields n = let (con, is, of, f, count) = n in absurd (no_con (type_of types c) kind.Int (λ t e. absurd cc) of)

flag_node : (types : List DataType) (x : Item) (fields : List Kind) → IsNode types kind.Flag x fields → (b : Bool) × (x ≡ item.Flag b) × (fields ≡ [])
flag_node types (item.Int z) fields n = absurd (let e : kind.Flag ≡ kind.Int = n.0 in cc)
flag_node types (item.Flag b) fields n = (b, refl, n.1)
flag_node types item.Dia fields n = absurd (let e : kind.Flag ≡ kind.Dia = n.0 in cc)
flag_node types (item.Con k c) fields n = let (con, is, of, f, count) = n in absurd (no_con (type_of types c) kind.Flag (λ t e. absurd cc) of)

dia_node : (types : List DataType) (x : Item) (fields : List Kind) → IsNode types kind.Dia x fields → (x ≡ item.Dia) × (fields ≡ [])
dia_node types (item.Int z) fields n = absurd (let e : kind.Dia ≡ kind.Int = n.0 in cc)
dia_node types (item.Flag b) fields n = absurd (let e : kind.Dia ≡ kind.Flag = n.0 in cc)
dia_node types item.Dia fields n = (refl, n.1)
dia_node types (item.Con k c) fields n = let (con, is, of, f, count) = n in absurd (no_con (type_of types c) kind.Dia (λ t e. absurd cc) of)

nothing_has : (types : List DataType) → HaveValues types []
nothing_has types = record { values = value.End; fit = tt }

-- ---- truth values and diamonds

abbrev flag_word : Bool → List ℕ
flag_word b = cond b (codes "true") (codes "false")

pub flag_named : (types : List DataType) (w : List ℕ) (b : Bool) → w ≡ flag_word b → Named types kind.Flag w (item.Flag b) []
flag_named types w b e = record {
  node = (refl, refl);
  have = nothing_has types;
  text = e;
  only = λ y others n k. let (c, is, none) = flag_node types y others n in (is ∙ ap item.Flag (same c (subst (λ x. IsNodeText (constructor_name types) x w) is k)), none);
}
  where
    words : (b c : Bool) → flag_word b ≡ flag_word c → c ≡ b
    words true true e = refl
    words true false e = absurd cc
    words false true e = absurd cc
    words false false e = refl

    same : (c : Bool) → w ≡ flag_word c → c ≡ b
    same c k = words b c (sym e ∙ k)

pub flag_unnamed : (types : List DataType) (w : List ℕ) (good : ℕ) → AreNamed types → HasValue types kind.Flag → (w ≡ codes "true" → ⊥)
    → (w ≡ codes "false" → ⊥)
    → good ≡ max (common (codes "true") w) (common (codes "false") w) → Unnamed types kind.Flag w good
flag_unnamed types w good names have not_true not_false e =
    unnamed_by types kind.Flag w good (word_front_of types kind.Flag names have) (inr (reach (cases_lt (common (codes "false") w) (common (codes "true") w)))) most none
  where
    by : (b : Bool) → IsTrue (is_word (flag_word b)) → common (flag_word b) w ≡ good → Reached types kind.Flag w good
    by b f k = record { x = item.Flag b; fields = []; word = flag_word b; node = (refl, refl); have = nothing_has types; text = refl; form = f; common_is = k }

    reach : (common (codes "false") w < common (codes "true") w) ⊎ (common (codes "true") w ≤ common (codes "false") w) → Reached types kind.Flag w good
    reach (inl h) = by true refl (let m : max (common (codes "true") w) (common (codes "false") w) ≡ common (codes "true") w = omega (arith, h) in sym (e ∙ m))
    reach (inr h) = by false refl (let m : max (common (codes "true") w) (common (codes "false") w) ≡ common (codes "false") w = omega (arith, h) in sym (e ∙ m))

    below : (b : Bool) (word : List ℕ) → word ≡ flag_word b → common word w ≤ good
    below true word k = let c : common word w ≡ common (codes "true") w = ap (λ v. common v w) k in omega (arith, e, c)
    below false word k = let c : common word w ≡ common (codes "false") w = ap (λ v. common v w) k in omega (arith, e, c)

    most : (x : Item) (fields : List Kind) (word : List ℕ) → IsNode types kind.Flag x fields → HaveValues types fields
        → IsNodeText (constructor_name types) x word → common word w ≤ good
    most x fields word n h k = let (b, is, empty) = flag_node types x fields n in below b word (subst (λ y. IsNodeText (constructor_name types) y word) is k)

    by_flag : (b : Bool) → w ≡ flag_word b → ⊥
    by_flag true k = not_true k
    by_flag false k = not_false k

    none : (x : Item) (fields : List Kind) → IsNode types kind.Flag x fields → HaveValues types fields → IsNodeText (constructor_name types) x w → ⊥
    none x fields n h k = let (b, is, empty) = flag_node types x fields n in by_flag b (subst (λ y. IsNodeText (constructor_name types) y w) is k)

pub dia_named : (types : List DataType) (w : List ℕ) → w ≡ codes "<>" → Named types kind.Dia w item.Dia []
dia_named types w e = record { node = (refl, refl); have = nothing_has types; text = e; only = λ y others n k. dia_node types y others n }

pub dia_unnamed : (types : List DataType) (w : List ℕ) (good : ℕ) → AreNamed types → HasValue types kind.Dia → (w ≡ codes "<>" → ⊥)
    → good ≡ common (codes "<>") w → Unnamed types kind.Dia w good
dia_unnamed types w good names have not_dia e =
    unnamed_by types kind.Dia w good (word_front_of types kind.Dia names have)
    (inr (record { x = item.Dia; fields = []; word = codes "<>"; node = (refl, refl); have = nothing_has types; text = refl; form = refl; common_is = sym e }))
    (λ x fields word n h k. let c : common word w ≡ common (codes "<>") w = ap (λ v. common v w) (subst (λ y. IsNodeText (constructor_name types) y word) (dia_node types x fields n).0 k) in omega (arith, e, c))
    (λ x fields n h k. not_dia (subst (λ y. IsNodeText (constructor_name types) y w) (dia_node types x fields n).0 k))

-- ---- ints

pub small_pos : (n : ℕ) → n ≤ 2147483647 → IsInt32 (pos n)
small_pos n h = omega (arith, h)

pub pos_small : (n : ℕ) → IsInt32 (pos n) → n ≤ 2147483647
pos_small n h = omega (arith, h)

pub small_neg : (n : ℕ) → n ≤ 2147483648 → IsInt32 (neg_ℤ (pos n))
small_neg zero h = omega arith
small_neg (suc n) h = omega (arith, h)

pub neg_small : (n : ℕ) → IsInt32 (neg_ℤ (pos n)) → n ≤ 2147483648
neg_small zero h = omega arith
neg_small (suc n) h = omega (arith, h)

-- a number in decimal has a byte, and begins with no `-`
no_minus : (n : ℕ) (t : List ℕ) → n < 2 ^ 64 → decimal n ≡ 45 ∷ t → ⊥
no_minus n t h e = let d : is_digit 45 ≡ true = (and_parts (is_digit 45) (list_all is_digit t) (subst (λ l. list_all is_digit l ≡ true) e (decimal_digits n h))).0 in absurd cc

not_empty : (n : ℕ) → n < 2 ^ 64 → decimal n ≡ [] → ⊥
not_empty n h e = let d : is_word [] ≡ true = subst (λ l. is_word l ≡ true) e (decimal_fine n h) in absurd cc

-- what an int's text begins with
data Sign (front rest : List ℕ) (z : ℤ) : Type 0 where
  Nothing : front ≡ [] → Sign front rest z
  Plus : (n : ℕ) → decimal n ≡ front ++ rest → n ≤ 2147483647 → z ≡ pos n → Sign front rest z
  Minus : (n : ℕ) (more : List ℕ) → front ≡ 45 ∷ more → decimal n ≡ more ++ rest → n ≤ 2147483648 → z ≡ neg_ℤ (pos n) → Sign front rest z

sign_of : (front rest : List ℕ) (z : ℤ) → IsInt32 z → IsIntText (front ++ rest) z → Sign front rest z
sign_of [] rest z h t = Nothing refl
sign_of (x ∷ front) rest z h t = by_sign t.is
  where
    by_sign : ((x ∷ (front ++ rest) ≡ decimal t.size) × (z ≡ pos t.size)) ⊎ ((x ∷ (front ++ rest) ≡ 45 ∷ decimal t.size) × (z ≡ neg_ℤ (pos t.size)))
        → Sign (x ∷ front) rest z
    by_sign (inl p) = Plus t.size (sym p.0) (pos_small t.size (subst IsInt32 p.1 h)) p.1
    by_sign (inr p) =
        let s = same_tail x 45 (front ++ rest) (decimal t.size) p.0 in
        Minus t.size front (ap (λ y. y ∷ front) s.0) (sym s.1) (neg_small t.size (subst IsInt32 p.1 h)) p.1

int_only : (types : List DataType) (w : List ℕ) (z : ℤ) → ((y : ℤ) → IsInt32 y → IsIntText w y → y ≡ z) → (x : Item) (others : List Kind)
    → IsNode types kind.Int x others → IsNodeText (constructor_name types) x w → (x ≡ item.Int z) × (others ≡ [])
int_only types w z f x others n k =
    let i = int_node types x others n in (i.is ∙ ap item.Int (f i.z i.small (subst (λ y. IsNodeText (constructor_name types) y w) i.is k)), i.none)

pub plus_named : (types : List DataType) (w : List ℕ) (value : ℕ) → w ≡ decimal value → value ≤ 2147483647 → Named types kind.Int w (item.Int (pos value)) []
plus_named types w value e h = record {
  node = (refl, small_pos value h, refl);
  have = nothing_has types;
  text = record { size = value; is = inl (e, refl) };
  only = int_only types w (pos value) (λ y small t. by_sign y small t.size t.is);
}
  where
    by_sign : (y : ℤ) → IsInt32 y → (n : ℕ) → ((w ≡ decimal n) × (y ≡ pos n)) ⊎ ((w ≡ 45 ∷ decimal n) × (y ≡ neg_ℤ (pos n))) → y ≡ pos value
    by_sign y small n (inl p) =
        let k = pos_small n (subst IsInt32 p.1 small) in p.1 ∙ ap pos (decimal_one n value (omega (arith, k)) (omega (arith, h)) (sym p.0 ∙ e))
    by_sign y small n (inr p) = absurd (no_minus value (decimal n) (omega (arith, h)) (sym e ∙ p.0))

pub minus_named : (types : List DataType) (w : List ℕ) (value : ℕ) → w ≡ 45 ∷ decimal value → value ≤ 2147483648
    → Named types kind.Int w (item.Int (neg_ℤ (pos value))) []
minus_named types w value e h = record {
  node = (refl, small_neg value h, refl);
  have = nothing_has types;
  text = record { size = value; is = inr (e, refl) };
  only = int_only types w (neg_ℤ (pos value)) (λ y small t. by_sign y small t.size t.is);
}
  where
    by_sign : (y : ℤ) → IsInt32 y → (n : ℕ) → ((w ≡ decimal n) × (y ≡ pos n)) ⊎ ((w ≡ 45 ∷ decimal n) × (y ≡ neg_ℤ (pos n))) → y ≡ neg_ℤ (pos value)
    by_sign y small n (inl p) =
        let k = pos_small n (subst IsInt32 p.1 small) in absurd (no_minus n (decimal value) (omega (arith, k)) (sym p.0 ∙ e))
    by_sign y small n (inr p) =
        let k = neg_small n (subst IsInt32 p.1 small) in
        p.1 ∙ ap (λ m. neg_ℤ (pos m)) (decimal_one n value (omega (arith, k)) (omega (arith, h)) (same_tail 45 45 (decimal n) (decimal value) (sym p.0 ∙ e)).1)

-- the first byte isn't `-`
abbrev pub NoMinus : List ℕ → Type 0
NoMinus w = (t : List ℕ) → w ≡ 45 ∷ t → ⊥

pub plus_unnamed : (types : List DataType) (w : List ℕ) (value good : ℕ) → AreNamed types → HasValue types kind.Int → NoMinus w
    → DigitsRead 2147483647 w value good → (good ≡ length w → good ≡ 0) → Unnamed types kind.Int w good
plus_unnamed types w value good names have plain d part = record {
  front = take good w;
  more = drop good w;
  is = sym (take-append-drop good w);
  good_is = sym (length-take-le good w d.within);
  begun = begun d.text;
  longest = λ longer last e b. by_node longer last e b (int_node types b.x b.fields b.node);
  none = λ x fields n h k. whole x fields k (int_node types x fields n);
}
  where
    begun : (good ≡ 0) ⊎ (take good w ≡ decimal value) → IsWordFront types kind.Int (take good w)
    begun (inl e) = subst (λ n. IsWordFront types kind.Int (take n w)) (sym e) (word_front_of types kind.Int names have)
    begun (inr e) = record {
      x = item.Int (pos value);
      fields = [];
      more = [];
      node = (refl, small_pos value d.small, refl);
      have = nothing_has types;
      text = record { size = value; is = inl (append-nil (take good w) ∙ e, refl) };
      form = subst (λ l. IsTrue (is_word l)) (sym (append-nil (take good w) ∙ e)) (decimal_fine value (omega (arith, d.small)));
    }

    by_sign : (longer last more : List ℕ) (z : ℤ) → w ≡ longer ++ last → Sign longer more z → length longer ≤ good
    by_sign longer last more z e (Nothing n) = omega (arith, ap length n)
    by_sign longer last more z e (Plus n text small is) = d.longest n longer last more small e text
    by_sign longer last more z e (Minus n rest is text small z_is) = absurd (plain (rest ++ last) (e ∙ ap (λ l. l ++ last) is))

    by_node : (longer last : List ℕ) → w ≡ longer ++ last → (b : IsWordFront types kind.Int longer) → IntNode types b.x b.fields → length longer ≤ good
    by_node longer last e b i = by_sign longer last b.more i.z e (sign_of longer b.more i.z i.small (subst (λ y. IsNodeText (constructor_name types) y (longer ++ b.more)) i.is b.text))

    by_text : (z : ℤ) → IsInt32 z → (n : ℕ) → ((w ≡ decimal n) × (z ≡ pos n)) ⊎ ((w ≡ 45 ∷ decimal n) × (z ≡ neg_ℤ (pos n))) → ⊥
    by_text z small n (inl p) =
        let k = pos_small n (subst IsInt32 p.1 small) in
        let l = d.longest n w [] [] k (sym (append-nil w)) (sym p.0 ∙ sym (append-nil w)) in
        let all : good ≡ length w = omega (arith, l, d.within) in
        let zero_is : good ≡ 0 = part all in
        not_empty n (omega (arith, k)) (sym p.0 ∙ no_bytes w (omega (arith, all, zero_is)))
      where
        no_bytes : (xs : List ℕ) → length xs ≡ 0 → xs ≡ []
        no_bytes [] h = refl
        no_bytes (x ∷ xs) h = absurd (omega (arith, h))
    by_text z small n (inr p) = plain (decimal n) p.0

    whole : (x : Item) (fields : List Kind) → IsNodeText (constructor_name types) x w → IntNode types x fields → ⊥
    whole x fields k i = let t : IsIntText w i.z = subst (λ y. IsNodeText (constructor_name types) y w) i.is k in by_text i.z i.small t.size t.is

pub minus_unnamed : (types : List DataType) (w ds : List ℕ) (value good : ℕ) → w ≡ 45 ∷ ds → DigitsRead 2147483648 ds value good
    → (good ≡ length ds → good ≡ 0) → Unnamed types kind.Int w (good + 1)
minus_unnamed types w ds value good w_is d part = record {
  front = 45 ∷ take good ds;
  more = drop good ds;
  is = w_is ∙ ap (λ l. 45 ∷ l) (sym (take-append-drop good ds));
  good_is = omega (arith, length-take-le good ds d.within);
  begun = begun d.text;
  longest = λ longer last e b. by_node longer last e b (int_node types b.x b.fields b.node);
  none = λ x fields n h k. whole x fields k (int_node types x fields n);
}
  where
    minus_word : (n : ℕ) → n < 2 ^ 64 → IsTrue (is_word (45 ∷ decimal n))
    minus_word n h = word_all (decimal n) (decimal_fine n h)

    front : (n : ℕ) (f more : List ℕ) → n ≤ 2147483648 → f ++ more ≡ decimal n → IsWordFront types kind.Int (45 ∷ f)
    front n f more h e = record {
      x = item.Int (neg_ℤ (pos n));
      fields = [];
      more = more;
      node = (refl, small_neg n h, refl);
      have = nothing_has types;
      text = record { size = n; is = inr (ap (λ l. 45 ∷ l) e, refl) };
      form = subst (λ l. IsTrue (is_word (45 ∷ l))) (sym e) (minus_word n (omega (arith, h)));
    }

    begun : (good ≡ 0) ⊎ (take good ds ≡ decimal value) → IsWordFront types kind.Int (45 ∷ take good ds)
    begun (inl e) = subst (λ n. IsWordFront types kind.Int (45 ∷ take n ds)) (sym e) (front 0 [] (decimal 0) (omega arith) refl)
    begun (inr e) = front value (take good ds) [] d.small (append-nil (take good ds) ∙ e)

    by_sign : (longer last more : List ℕ) (z : ℤ) → w ≡ longer ++ last → Sign longer more z → length longer ≤ good + 1
    by_sign longer last more z e (Nothing n) = omega (arith, ap length n)
    by_sign [] last more z e (Plus n text small is) = omega arith
    by_sign (x ∷ longer) last more z e (Plus n text small is) =
        let s : x ≡ 45 = sym (same_tail 45 x ds (longer ++ last) (sym w_is ∙ e)).0 in
        absurd (no_minus n (longer ++ more) (omega (arith, small)) (text ∙ ap (λ y. y ∷ (longer ++ more)) s))
    by_sign longer last more z e (Minus n rest is text small z_is) =
        let t = same_tail 45 45 ds (rest ++ last) (sym w_is ∙ e ∙ ap (λ l. l ++ last) is) in
        let k = d.longest n rest last more small t.1 text in omega (arith, k, ap length is)

    by_node : (longer last : List ℕ) → w ≡ longer ++ last → (b : IsWordFront types kind.Int longer) → IntNode types b.x b.fields → length longer ≤ good + 1
    by_node longer last e b i = by_sign longer last b.more i.z e (sign_of longer b.more i.z i.small (subst (λ y. IsNodeText (constructor_name types) y (longer ++ b.more)) i.is b.text))

    no_bytes : (xs : List ℕ) → length xs ≡ 0 → xs ≡ []
    no_bytes [] h = refl
    no_bytes (x ∷ xs) h = absurd (omega (arith, h))

    by_text : (z : ℤ) → IsInt32 z → (n : ℕ) → ((w ≡ decimal n) × (z ≡ pos n)) ⊎ ((w ≡ 45 ∷ decimal n) × (z ≡ neg_ℤ (pos n))) → ⊥
    by_text z small n (inl p) = let k = pos_small n (subst IsInt32 p.1 small) in no_minus n ds (omega (arith, k)) (sym p.0 ∙ w_is)
    by_text z small n (inr p) =
        let k = neg_small n (subst IsInt32 p.1 small) in
        let t = (same_tail 45 45 ds (decimal n) (sym w_is ∙ p.0)).1 in
        let l = d.longest n ds [] [] k (sym (append-nil ds)) (sym t ∙ sym (append-nil ds)) in
        let all : good ≡ length ds = omega (arith, l, d.within) in
        let zero_is : good ≡ 0 = part all in
        not_empty n (omega (arith, k)) (sym t ∙ no_bytes ds (omega (arith, all, zero_is)))

    whole : (x : Item) (fields : List Kind) → IsNodeText (constructor_name types) x w → IntNode types x fields → ⊥
    whole x fields k i = let t : IsIntText w i.z = subst (λ y. IsNodeText (constructor_name types) y w) i.is k in by_text i.z i.small t.size t.is
