-- Cutting nodes into values.
use Rattle.std.proofs.Common.{◌≡◌, ℕ, zero, suc, ◌+◌, ◌-◌, ◌<◌, ◌≤◌, List, [], ◌∷◌, ◌++◌, length, take, drop, get_or, refl, sym, ap, ◌∙◌, subst, arith, append_assoc, append-nil, drop-cons, drop_of_length-le, add-one, length-append, inl, inr}
use Rattle.std.specs.Prelude.{◌⊎◌}
use Rattle.std.proofs.lemmas.List.{take-append-drop, take_all, length-drop}
use Rattle.camelot_values.specs.Value as value
use Rattle.camelot_values.specs.Value.{Value, Values, parts, part_count}
use Rattle.camelot_values.specs.Items.{nodes, nodes_all, items_of, IsOneValue, IsOneValue-items_of}
use Rattle.camelot_values.specs.declared.value.Item.{Item}
use Rattle.camelot_values.specs.declared.value.Item.TheVariants as item
use Rattle.value_text.specs.Printing.{parts_of}
use Rattle.value_text.specs.Values.{left_over, BeginsValue, OfValues, ValueLength, Cuts}
use Rattle.value_text.proofs.Texts.{nodes_same}

mutual
  past_value : (v : Value) (n : ℕ) (rest : List Item) → left_over (suc n) (nodes v rest) ≡ left_over n rest
  past_value (value.Int z) n rest = ap (λ k. left_over k rest) (let e : n + 0 ≡ n = omega arith in e)
  past_value (value.Flag b) n rest = ap (λ k. left_over k rest) (let e : n + 0 ≡ n = omega arith in e)
  past_value value.Dia n rest = ap (λ k. left_over k rest) (let e : n + 0 ≡ n = omega arith in e)
  past_value (value.Con c vs) n rest = past_values vs n rest

  past_values : (vs : Values) (n : ℕ) (rest : List Item) → left_over (n + part_count vs) (nodes_all vs rest) ≡ left_over n rest
  past_values value.End n rest = ap (λ k. left_over k rest) (let e : n + 0 ≡ n = omega arith in e)
  past_values (value.And v vs) n rest =
      ap (λ k. left_over k (nodes v (nodes_all vs rest))) (let e : n + suc (part_count vs) ≡ suc (n + part_count vs) = omega arith in e) ∙ past_value v (n + part_count vs) (nodes_all vs rest) ∙ past_values vs n rest

mutual
  nodes_front : (v : Value) (rest : List Item) → nodes v rest ≡ nodes v [] ++ rest
  nodes_front (value.Int z) rest = refl
  nodes_front (value.Flag b) rest = refl
  nodes_front value.Dia rest = refl
  nodes_front (value.Con c vs) rest = ap (λ l. item.Con (part_count vs) c ∷ l) (nodes_all_front vs rest)

  nodes_all_front : (vs : Values) (rest : List Item) → nodes_all vs rest ≡ nodes_all vs [] ++ rest
  nodes_all_front value.End rest = refl
  nodes_all_front (value.And v vs) rest =
      nodes_front v (nodes_all vs rest) ∙ ap (λ l. nodes v [] ++ l) (nodes_all_front vs rest) ∙ sym (append_assoc (nodes v []) (nodes_all vs []) rest) ∙ ap (λ l. l ++ rest) (sym (nodes_front v (nodes_all vs [])))

same_front : (xs ys rest : List Item) → xs ++ rest ≡ ys ++ rest → xs ≡ ys
same_front [] [] rest e = refl
same_front [] (y ∷ ys) rest e = absurd (omega (arith, ap length e, length-append ys rest))
same_front (x ∷ xs) [] rest e = absurd (omega (arith, ap length e, length-append xs rest))
same_front (x ∷ xs) (y ∷ ys) rest e = let a : x ≡ y = cc in let b : xs ++ rest ≡ ys ++ rest = cc in ap (λ z. z ∷ xs) a ∙ ap (λ l. y ∷ l) (same_front xs ys rest b)

pub length_start : (xs : List Item) → BeginsValue xs → left_over 1 (drop 0 xs) ≡ left_over 1 xs
length_start xs b = refl

pub length_more : (xs ys : List Item) (due at n : ℕ) (d : Item) → 0 < due → at < length xs → n ≡ parts_of (get_or xs at d)
    → left_over due (drop at xs) ≡ ys → left_over (due - 1 + n) (drop (at + 1) xs) ≡ ys
length_more xs ys due at n d some h e k =
    ap (λ m. left_over (due - 1 + m) (drop (at + 1) xs)) e ∙ ap (λ m. left_over (due - 1 + parts_of (get_or xs at d)) (drop m xs)) (add-one at)
    ∙ ap (λ l. left_over (suc (due - 1)) l) (sym (drop-cons xs at d h)) ∙ ap (λ m. left_over m (drop at xs)) (let s : suc (due - 1) ≡ due = omega (arith, some) in s) ∙ k

none_over : (n : ℕ) → left_over n [] ≡ []
none_over zero = refl
none_over (suc n) = refl

pub length_done : (xs : List Item) (due at : ℕ) → BeginsValue xs → at ≤ length xs → (due ≤ 0) ⊎ (length xs ≤ at)
    → left_over due (drop at xs) ≡ left_over 1 xs → ValueLength xs at
length_done xs due at b within stop e = record {
  within = within;
  value = b.value;
  rest = b.rest;
  is = b.is;
  first = same_front (take at xs) (nodes b.value []) b.rest (ap (λ l. take at xs ++ l) (sym others) ∙ take-append-drop at xs ∙ b.is ∙ nodes_front b.value b.rest);
  others = others;
}
  where
    by_stop : (due ≤ 0) ⊎ (length xs ≤ at) → left_over due (drop at xs) ≡ drop at xs
    by_stop (inl z) = ap (λ n. left_over n (drop at xs)) (let k : due ≡ 0 = omega (arith, z) in k)
    by_stop (inr h) = ap (left_over due) (drop_of_length-le xs {i = at} h) ∙ none_over due ∙ sym (drop_of_length-le xs {i = at} h)

    others : drop at xs ≡ b.rest
    others = sym (by_stop stop) ∙ e ∙ ap (left_over 1) b.is ∙ past_value b.value 0 b.rest

pub one_value : (xs items : List Item) (n : ℕ) → ValueLength xs n → items ≡ take n xs → IsOneValue items
one_value xs items n l e = subst IsOneValue (sym (e ∙ l.first)) (IsOneValue-items_of l.value)

pub cut_there : (xs items rest : List Item) (n : ℕ) (v : Value) → ValueLength xs n → items ≡ take n xs → items_of v ≡ items
    → rest ≡ take (length xs - n) (drop n xs) → xs ≡ nodes v rest
cut_there xs items rest n v l e o r =
    let s : v ≡ l.value = (nodes_same v l.value [] [] (o ∙ e ∙ l.first)).0 in
    let k : rest ≡ l.rest = r ∙ take_all (length xs - n) (drop n xs) (omega (arith, length-drop n xs)) ∙ l.others in
    l.is ∙ ap (λ u. nodes u l.rest) (sym s) ∙ ap (nodes v) (sym k)

pub cuts_first : (all : List Item) (count : ℕ) (none : List Value) → OfValues all count → none ≡ [] → Cuts all count none all
cuts_first all count none o e = record { values = o.values; rest_is = o.is; all_is = o.is ∙ ap (λ l. nodes_all (parts (l ++ o.values)) []) (sym e); count_is = o.count_is ∙ ap (λ l. length (l ++ o.values)) (sym e) }

some_left : (all rest : List Item) (count : ℕ) (done : List Value) → Cuts all count done rest → length done < count
    → (v : Value) × (vs : List Value) × (rest ≡ nodes v (nodes_all (parts vs) [])) × (all ≡ nodes_all (parts (done ++ v ∷ vs)) [])
    × (count ≡ length (done ++ v ∷ vs))
some_left all rest count done c h = by_values c.values c.rest_is c.all_is c.count_is
  where
    by_values : (vs : List Value) → rest ≡ nodes_all (parts vs) [] → all ≡ nodes_all (parts (done ++ vs)) [] → count ≡ length (done ++ vs)
        → (v : Value) × (vs : List Value) × (rest ≡ nodes v (nodes_all (parts vs) [])) × (all ≡ nodes_all (parts (done ++ v ∷ vs)) [])
        × (count ≡ length (done ++ v ∷ vs))
    by_values [] r a n = absurd (omega (arith, h, n, length-append done []))
    by_values (v ∷ vs) r a n = (v, vs, r, a, n)

pub cuts_begin : (all rest : List Item) (count : ℕ) (done : List Value) → Cuts all count done rest → length done < count → BeginsValue rest
cuts_begin all rest count done c h = let (v, vs, r, a, n) = some_left all rest count done c h in record { value = v; rest = nodes_all (parts vs) []; is = r }

pub cuts_more : (all rest after : List Item) (count : ℕ) (done new : List Value) (w : Value) → Cuts all count done rest → length done < count
    → rest ≡ nodes w after → new ≡ done ++ w ∷ [] → Cuts all count new after
cuts_more all rest after count done new w c h e push =
    let (v, vs, r, a, n) = some_left all rest count done c h in
    let s = nodes_same w v after (nodes_all (parts vs) []) (sym e ∙ r) in
    let k : done ++ v ∷ vs ≡ new ++ vs = ap (λ x. done ++ x ∷ vs) (sym s.0) ∙ sym (append_assoc done (w ∷ []) vs) ∙ ap (λ l. l ++ vs) (sym push) in
    record { values = vs; rest_is = s.1; all_is = a ∙ ap (λ l. nodes_all (parts l) []) k; count_is = n ∙ ap length k }

pub cuts_few : (all rest after : List Item) (count : ℕ) (done : List Value) (w : Value) → rest ≡ nodes w after → length rest ≤ 65536 → length after ≤ 65536
cuts_few all rest after count done w e h = omega (arith, h, ap length e, ap length (nodes_front w after), length-append (nodes w []) after)

pub cuts_done : (all rest : List Item) (count : ℕ) (done : List Value) → Cuts all count done rest → count ≤ length done
    → (all ≡ nodes_all (parts done) []) × (length done ≡ count)
cuts_done all rest count done c h = by_values c.values c.all_is c.count_is
  where
    by_values : (vs : List Value) → all ≡ nodes_all (parts (done ++ vs)) [] → count ≡ length (done ++ vs)
        → (all ≡ nodes_all (parts done) []) × (length done ≡ count)
    by_values [] a n = (a ∙ ap (λ l. nodes_all (parts l) []) (append-nil done), omega (arith, n, length-append done []))
    by_values (v ∷ vs) a n = absurd (omega (arith, h, n, length-append done (v ∷ vs)))

-- ---- one value alone

sole : (xs : List Item) → OfValues xs 1 → (v : Value) × (xs ≡ items_of v)
sole xs o = by_values o.values o.is o.count_is
  where
    by_values : (vs : List Value) → xs ≡ nodes_all (parts vs) [] → 1 ≡ length vs → (v : Value) × (xs ≡ items_of v)
    by_values [] e n = absurd (omega (arith, n))
    by_values (v ∷ []) e n = (v, e)
    by_values (v ∷ w ∷ vs) e n = absurd (omega (arith, n))

pub only_value : (xs : List Item) → OfValues xs 1 → IsOneValue xs
only_value xs o = let (v, e) = sole xs o in subst IsOneValue (sym e) (IsOneValue-items_of v)

pub only_cut : (xs : List Item) (vs none : List Value) (v : Value) → none ≡ [] → vs ≡ none ++ v ∷ [] → items_of v ≡ xs
    → (xs ≡ nodes_all (parts vs) []) × (length vs ≡ 1)
only_cut xs vs none v z e i =
    let s : vs ≡ v ∷ [] = e ∙ ap (λ l. l ++ v ∷ []) z in (sym i ∙ ap (λ l. nodes_all (parts l) []) (sym s), ap length s)
