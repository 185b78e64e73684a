-- Texts of lists of values are texts of what is due at first.
use Rattle.std.proofs.Common.{◌≡◌, ℕ, suc, false, List, [], ◌∷◌, ◌++◌, length, take, refl, sym, ap, ◌∙◌, subst, arith, append-nil, length-append, inl, inr}
use Rattle.std.proofs.Math.Seq.{take-append_seam}
use Rattle.camelot_values.specs.Value as value
use Rattle.camelot_values.specs.Value.{Value, Values, parts, part_count}
use Rattle.camelot_values.specs.Items.{nodes, nodes_all}
use Rattle.camelot_values.specs.Counts.{size_all}
use Rattle.camelot_values.specs.CountLaws.{length_nodes_all}
use Rattle.camelot_values.specs.Kinds.{DataType, constructor_name}
use Rattle.camelot_values.specs.Typing.{FitAll}
use Rattle.camelot_values.specs.declared.kinds.Kind.{Kind}
use Rattle.camelot_values.specs.declared.value.Item.{Item}
use Rattle.camelot_values.specs.declared.value.Item.TheVariants as item
use Rattle.value_text.specs.Grammar as g
use Rattle.value_text.specs.Grammar.{Piece, pieces, other_pieces, list_pieces, Spelled, IsTextOf, Begins, IsRead, IsTooLong, IsBadShape}
use Rattle.value_text.specs.Dues.{Due}
use Rattle.value_text.specs.Due.{Comes, Accepts, Rest, Possible, Reading, Stops, Whole, HaveValues, first_due, others_due}

-- ---- nodes give their values back

con_parts : (c d m n : ℕ) (xs ys : List Item) → item.Con m c ∷ xs ≡ item.Con n d ∷ ys → (c ≡ d) × (m ≡ n) × (xs ≡ ys)
con_parts c d m n xs ys e = (cc, cc, cc)

mutual
  pub nodes_same : (v w : Value) (r s : List Item) → nodes v r ≡ nodes w s → (v ≡ w) × (r ≡ s)
  nodes_same (value.Int z) (value.Int y) r s e = let a : z ≡ y = cc in (ap value.Int a, cc)
  nodes_same (value.Flag b) (value.Flag c) r s e = let a : b ≡ c = cc in (ap value.Flag a, cc)
  nodes_same value.Dia value.Dia r s e = (refl, cc)
  nodes_same (value.Con c vs) (value.Con d ws) r s e =
      let p = con_parts c d (part_count vs) (part_count ws) (nodes_all vs r) (nodes_all ws s) e in
      let k = nodes_all_same vs ws r s p.1 p.2 in (ap (λ x. value.Con x vs) p.0 ∙ ap (value.Con d) k.0, k.1)
  nodes_same v w r s e = absurd cc

  pub nodes_all_same : (vs ws : Values) (r s : List Item) → part_count vs ≡ part_count ws → nodes_all vs r ≡ nodes_all ws s → (vs ≡ ws) × (r ≡ s)
  nodes_all_same value.End value.End r s n e = (refl, e)
  nodes_all_same value.End (value.And w ws) r s n e = absurd (omega (arith, n))
  nodes_all_same (value.And v vs) value.End r s n e = absurd (omega (arith, n))
  nodes_all_same (value.And v vs) (value.And w ws) r s n e =
      let a = nodes_same v w (nodes_all vs r) (nodes_all ws s) e in
      let b = nodes_all_same vs ws r s (omega (arith, n)) a.1 in
      (ap (λ x. value.And x vs) a.0 ∙ ap (value.And w) b.0, b.1)

pub parts_same : (vs ws : List Value) → parts vs ≡ parts ws → vs ≡ ws
parts_same [] [] e = refl
parts_same [] (w ∷ ws) e = absurd cc
parts_same (v ∷ vs) [] e = absurd cc
parts_same (v ∷ vs) (w ∷ ws) e = let a : v ≡ w = cc in let b : parts vs ≡ parts ws = cc in ap (λ x. x ∷ vs) a ∙ ap (λ l. w ∷ l) (parts_same vs ws b)

pub fit_count : (types : List DataType) (qs : List Kind) (vs : List Value) → FitAll types qs (parts vs) → length qs ≡ part_count (parts vs)
fit_count types [] [] h = refl
fit_count types (q ∷ qs) (v ∷ vs) h = ap suc (fit_count types qs vs h.1)
fit_count types [] (v ∷ vs) h = absurd h
fit_count types (q ∷ qs) [] h = absurd h

-- ---- lists of values and what is due

comes_others : (types : List DataType) (qs : List Kind) (vs : List Value) → FitAll types qs (parts vs)
    → Comes types (others_due qs) (other_pieces vs) (nodes_all (parts vs) [])
comes_others types [] [] h = (refl, refl)
comes_others types (q ∷ qs) (v ∷ vs) h = (pieces v (other_pieces vs), refl, (v, other_pieces vs, nodes_all (parts vs) [], h.0, refl, refl, comes_others types qs vs h.1))
comes_others types [] (v ∷ vs) h = absurd h
comes_others types (q ∷ qs) [] h = absurd h

comes_list : (types : List DataType) (qs : List Kind) (vs : List Value) → FitAll types qs (parts vs)
    → Comes types (first_due qs) (list_pieces vs) (nodes_all (parts vs) [])
comes_list types [] [] h = (refl, refl)
comes_list types (q ∷ qs) (v ∷ vs) h = (v, other_pieces vs, nodes_all (parts vs) [], h.0, refl, refl, comes_others types qs vs h.1)
comes_list types [] (v ∷ vs) h = absurd h
comes_list types (q ∷ qs) [] h = absurd h

record OfValues (types : List DataType) (qs : List Kind) (way : List Value → List Piece) (ps : List Piece) (xs : List Item) : Type 0 where
  vs : List Value
  fit : FitAll types qs (parts vs)
  ps_is : ps ≡ way vs
  xs_is : xs ≡ nodes_all (parts vs) []

others_come : (types : List DataType) (qs : List Kind) (ps : List Piece) (xs : List Item) → Comes types (others_due qs) ps xs
    → OfValues types qs other_pieces ps xs
others_come types [] ps xs c = record { vs = []; fit = tt; ps_is = c.0; xs_is = c.1 }
others_come types (q ∷ qs) ps xs c =
    let (a, e, b) = c in
    let (v, more, ys, f, p, x, k) = b in
    let r = others_come types qs more ys k in
    record { vs = v ∷ r.vs; fit = (f, r.fit); ps_is = e ∙ ap (λ l. g.Mark 32 ∷ l) (p ∙ ap (pieces v) r.ps_is); xs_is = x ∙ ap (nodes v) r.xs_is }

list_comes : (types : List DataType) (qs : List Kind) (ps : List Piece) (xs : List Item) → Comes types (first_due qs) ps xs
    → OfValues types qs list_pieces ps xs
list_comes types [] ps xs c = record { vs = []; fit = tt; ps_is = c.0; xs_is = c.1 }
list_comes types (q ∷ qs) ps xs c =
    let (v, more, ys, f, p, x, k) = c in
    let r = others_come types qs more ys k in
    record { vs = v ∷ r.vs; fit = (f, r.fit); ps_is = p ∙ ap (pieces v) r.ps_is; xs_is = x ∙ ap (nodes v) r.xs_is }

pub accepts_text : (types : List DataType) (kinds : List Kind) (text : List ℕ) (vs : List Value) → IsTextOf types kinds text vs
    → Accepts types (first_due kinds) text (nodes_all (parts vs) [])
accepts_text types kinds text vs t = record { ps = list_pieces vs; comes = comes_list types kinds vs t.fit; spelled = t.spelled }

pub record TextOf (types : List DataType) (kinds : List Kind) (text : List ℕ) (xs : List Item) : Type 0 where
  pub values : List Value
  pub is : IsTextOf types kinds text values
  pub items : xs ≡ nodes_all (parts values) []

pub text_accepted : (types : List DataType) (kinds : List Kind) (text : List ℕ) (xs : List Item) → Accepts types (first_due kinds) text xs
    → TextOf types kinds text xs
text_accepted types kinds text xs a =
    let r = list_comes types kinds a.ps xs a.comes in
    record { values = r.vs; is = record { fit = r.fit; spelled = subst (λ l. Spelled (constructor_name types) l text) r.ps_is a.spelled }; items = r.xs_is }

-- ---- begin and end of reading

pub reading_starts : (types : List DataType) (first : List Due) (text : List ℕ) → Possible types first → Reading types first text [] first text
reading_starts types first text p = record {
  front = [];
  word = false;
  is = refl;
  leads = record { to = λ t ys k a. a; from = λ t zs k a. record { ys = zs; is = refl; accepts = a } };
  after = tt;
  possible = p;
}

pub reading_ends : (types : List DataType) (first : List Due) (text : List ℕ) (xs : List Item) → Reading types first text xs [] [] → Whole types first text xs
reading_ends types first text xs r = record {
  accepts = subst (λ t. Accepts types first t xs) (sym r.is) (subst (Accepts types first (r.front ++ [])) (append-nil xs) (r.leads.to [] [] r.after (record { ps = []; comes = (refl, refl); spelled = refl })));
  only = λ zs a. by_rest zs (r.leads.from [] zs r.after (subst (λ t. Accepts types first t zs) r.is a));
}
  where
    by_rest : (zs : List Item) → Rest types [] [] xs zs → zs ≡ xs
    by_rest zs k = k.is ∙ ap (λ l. xs ++ l) k.accepts.comes.1 ∙ append-nil xs

-- ---- what is answered

-- the values of the nodes that were read, which are the only ones
pub one_text : (types : List DataType) (kinds : List Kind) (text : List ℕ) (xs : List Item) (vs ws : List Value)
    → Whole types (first_due kinds) text xs → IsTextOf types kinds text vs → IsTextOf types kinds text ws → vs ≡ ws
one_text types kinds text xs vs ws w a b =
    let e : nodes_all (parts vs) [] ≡ nodes_all (parts ws) [] = w.only _ (accepts_text types kinds text vs a) ∙ sym (w.only _ (accepts_text types kinds text ws b)) in
    parts_same vs ws (nodes_all_same (parts vs) (parts ws) [] [] (sym (fit_count types kinds vs a.fit) ∙ fit_count types kinds ws b.fit) e).0

pub size_of : (vs : List Value) (xs : List Item) → xs ≡ nodes_all (parts vs) [] → length xs ≡ size_all (parts vs)
size_of vs xs e = omega (arith, ap length e, length_nodes_all (parts vs) [])

pub bad_shape : (types : List DataType) (kinds : List Kind) (text : List ℕ) (at : ℕ) → Stops types (first_due kinds) text at → IsBadShape types kinds text at
bad_shape types kinds text at s = record {
  none = λ vs t. s.none _ (accepts_text types kinds text vs t);
  within = omega (arith, s.at_is, ap length s.parts, length-append s.good s.bad);
  begins = inl (begun (text_accepted types kinds (s.good ++ s.more) s.items s.begins));
  longest = λ n k b. s.longest n k b.rest _ (accepts_text types kinds (take n text ++ b.rest) b.values b.whole);
}
  where
    front_is : take at text ≡ s.good
    front_is = ap (λ n. take n text) s.at_is ∙ ap (take (length s.good)) s.parts ∙ take-append_seam s.good s.bad

    begun : TextOf types kinds (s.good ++ s.more) s.items → Begins types kinds (take at text)
    begun t = record { rest = s.more; values = t.values; whole = subst (λ l. IsTextOf types kinds (l ++ s.more) t.values) (sym front_is) t.is }

-- where some kind has no value
pub no_values : (types : List DataType) (kinds : List Kind) (text : List ℕ) → (HaveValues types kinds → ⊥) → IsBadShape types kinds text 0
no_values types kinds text n = record {
  none = λ vs t. n (record { values = parts vs; fit = t.fit });
  within = omega arith;
  begins = inr (refl, λ b. n (record { values = parts b.values; fit = b.whole.fit }));
  longest = λ k h b. absurd (n (record { values = parts b.values; fit = b.whole.fit }));
}

listed : (vs : Values) → (ws : List Value) × (vs ≡ parts ws)
listed value.End = ([], refl)
listed (value.And v vs) = let (ws, e) = listed vs in (v ∷ ws, ap (value.And v) e)

pub possible_first : (types : List DataType) (kinds : List Kind) → HaveValues types kinds → Possible types (first_due kinds)
possible_first types kinds h =
    let (vs, e) = listed h.values in record { ps = list_pieces vs; xs = nodes_all (parts vs) []; comes = comes_list types kinds vs (subst (FitAll types kinds) e h.fit) }
