-- What is due and what comes of it: values by their first nodes.
use Rattle.std.proofs.Common.{◌≡◌, ℕ, suc, List, [], ◌∷◌, ◌++◌, length, Option, Some, None, refl, sym, ap, ◌∙◌, subst}
use Rattle.std.specs.Prelude.{IsSomeAnd}
use Rattle.camelot_values.specs.Value as value
use Rattle.camelot_values.specs.Value.{Value, Values, part_count, IsInt32}
use Rattle.camelot_values.specs.Items.{nodes, nodes_all}
use Rattle.camelot_values.specs.Kinds.{DataType, constructor}
use Rattle.camelot_values.specs.Typing.{Fits, FitAll}
use Rattle.camelot_values.specs.declared.kinds.Kind.{Kind}
use Rattle.camelot_values.specs.declared.value.Item.{Item}
use Rattle.camelot_values.specs.declared.value.Item.TheVariants as item
use Rattle.value_text.specs.Grammar as g
use Rattle.value_text.specs.Grammar.{Piece, pieces, further_pieces, Spelled, Ends, IsNodeText, is_word}
use Rattle.value_text.specs.Dues.{Due}
use Rattle.value_text.specs.Dues as due
use Rattle.value_text.specs.Due.{Comes, Possible, IsNode, HaveValues, further_due, parts_due}

pub fit_length : (types : List DataType) (qs : List Kind) (vs : Values) → FitAll types qs vs → length qs ≡ part_count vs
fit_length types [] value.End h = refl
fit_length types (q ∷ qs) (value.And v vs) h = ap suc (fit_length types qs vs h.1)
fit_length types [] (value.And v vs) h = absurd h
fit_length types (q ∷ qs) value.End h = absurd h

pub some_is : {A : Type 0} (o : Option A) (P : A → Type 0) → IsSomeAnd o P → (x : A) × (o ≡ Some x) × P x
some_is None P h = absurd h
some_is (Some x) P h = (x, refl, h)

pub is_some : {A : Type 0} (o : Option A) (P : A → Type 0) (x : A) → o ≡ Some x → P x → IsSomeAnd o P
is_some o P x e h = subst (λ u. IsSomeAnd u P) (sym e) h

-- ---- parts

comes_further : (types : List DataType) (ds : List Due) (qs : List Kind) (vs : Values) (ps : List Piece) (xs : List Item) → FitAll types qs vs
    → Comes types ds ps xs
    → Comes types (further_due qs ++ ds) (further_pieces vs ps) (nodes_all vs xs)
comes_further types ds [] value.End ps xs f h = (ps, refl, h)
comes_further types ds (q ∷ qs) (value.And v vs) ps xs f h =
    (pieces v (further_pieces vs ps), refl, (v, further_pieces vs ps, nodes_all vs xs, f.0, refl, refl, comes_further types ds qs vs ps xs f.1 h))
comes_further types ds [] (value.And v vs) ps xs f h = absurd f
comes_further types ds (q ∷ qs) value.End ps xs f h = absurd f

-- what stands behind the word of a constructor with these parts
abbrev pub part_pieces : Values → List Piece → List Piece
part_pieces value.End ps = ps
part_pieces (value.And v vs) ps = g.Mark 40 ∷ pieces v (further_pieces vs ps)

pub comes_parts : (types : List DataType) (ds : List Due) (qs : List Kind) (vs : Values) (ps : List Piece) (xs : List Item) → FitAll types qs vs
    → Comes types ds ps xs
    → Comes types (parts_due qs ++ ds) (part_pieces vs ps) (nodes_all vs xs)
comes_parts types ds [] value.End ps xs f h = h
comes_parts types ds (q ∷ qs) (value.And v vs) ps xs f h =
    (pieces v (further_pieces vs ps), refl, (v, further_pieces vs ps, nodes_all vs xs, f.0, refl, refl, comes_further types ds qs vs ps xs f.1 h))
comes_parts types ds [] (value.And v vs) ps xs f h = absurd f
comes_parts types ds (q ∷ qs) value.End ps xs f h = absurd f

-- values of these kinds, and what comes of the rest
record Parts (types : List DataType) (ds : List Due) (qs : List Kind) (way : Values → List Piece → List Piece) (ps : List Piece) (xs : List Item) : Type 0 where
  vs : Values
  more : List Piece
  ys : List Item
  fit : FitAll types qs vs
  ps_is : ps ≡ way vs more
  xs_is : xs ≡ nodes_all vs ys
  comes : Comes types ds more ys

further_comes : (types : List DataType) (ds : List Due) (qs : List Kind) (ps : List Piece) (xs : List Item)
    → Comes types (further_due qs ++ ds) ps xs → Parts types ds qs further_pieces ps xs
further_comes types ds [] ps xs h = let (more, e, c) = h in record { vs = value.End; more = more; ys = xs; fit = tt; ps_is = e; xs_is = refl; comes = c }
further_comes types ds (q ∷ qs) ps xs h =
    let (a, e, b) = h in
    let (v, more, ys, f, p, x, c) = b in
    let r = further_comes types ds qs more ys c in
    record {
      vs = value.And v r.vs;
      more = r.more;
      ys = r.ys;
      fit = (f, r.fit);
      ps_is = e ∙ ap (λ l. g.Mark 44 ∷ l) (p ∙ ap (pieces v) r.ps_is);
      xs_is = x ∙ ap (nodes v) r.xs_is;
      comes = r.comes;
    }

parts_come : (types : List DataType) (ds : List Due) (qs : List Kind) (ps : List Piece) (xs : List Item) → Comes types (parts_due qs ++ ds) ps xs
    → Parts types ds qs part_pieces ps xs
parts_come types ds [] ps xs h = record { vs = value.End; more = ps; ys = xs; fit = tt; ps_is = refl; xs_is = refl; comes = h }
parts_come types ds (q ∷ qs) ps xs h =
    let (a, e, b) = h in
    let (v, more, ys, f, p, x, c) = b in
    let r = further_comes types ds qs more ys c in
    record {
      vs = value.And v r.vs;
      more = r.more;
      ys = r.ys;
      fit = (f, r.fit);
      ps_is = e ∙ ap (λ l. g.Mark 40 ∷ l) (p ∙ ap (pieces v) r.ps_is);
      xs_is = x ∙ ap (nodes v) r.xs_is;
      comes = r.comes;
    }

-- ---- a value by its first node

pub fold_node : (types : List DataType) (ds : List Due) (q : Kind) (x : Item) (fields : List Kind) (ps : List Piece) (xs : List Item) → IsNode types q x fields
    → Comes types (parts_due fields ++ ds) ps xs → Comes types (due.Value q ∷ ds) (g.Node x ∷ ps) (x ∷ xs)
fold_node types ds q (item.Int z) fields ps xs n h =
    (value.Int z, ps, xs, (n.0, n.1), refl, refl, subst (λ f. Comes types (parts_due f ++ ds) ps xs) n.2 h)
fold_node types ds q (item.Flag b) fields ps xs n h = (value.Flag b, ps, xs, n.0, refl, refl, subst (λ f. Comes types (parts_due f ++ ds) ps xs) n.1 h)
fold_node types ds q item.Dia fields ps xs n h = (value.Dia, ps, xs, n.0, refl, refl, subst (λ f. Comes types (parts_due f ++ ds) ps xs) n.1 h)
fold_node types ds q (item.Con k c) fields ps xs n h =
    let (con, is, kind_is, fields_is, count) = n in
    let r = parts_come types ds fields ps xs h in
    let e : k ≡ part_count r.vs = count ∙ fit_length types fields r.vs r.fit in (
      value.Con c r.vs,
      r.more,
      r.ys,
      (kind_is, is_some (constructor types c) (λ con. FitAll types con.fields r.vs) con is (subst (λ f. FitAll types f r.vs) fields_is r.fit)),
      pieces_are c k r.vs ps r.more e r.ps_is,
      ap (λ m. item.Con m c ∷ xs) e ∙ ap (λ l. item.Con (part_count r.vs) c ∷ l) r.xs_is,
      r.comes,
    )
  where
    pieces_are : (c k : ℕ) (vs : Values) (ps more : List Piece) → k ≡ part_count vs → ps ≡ part_pieces vs more
        → g.Node (item.Con k c) ∷ ps ≡ pieces (value.Con c vs) more
    pieces_are c k value.End ps more e p = ap (λ m. g.Node (item.Con m c) ∷ ps) e ∙ ap (λ l. g.Node (item.Con 0 c) ∷ l) p
    pieces_are c k (value.And v vs) ps more e p = ap (λ m. g.Node (item.Con m c) ∷ ps) e ∙ ap (λ l. g.Node (item.Con (suc (part_count vs)) c) ∷ l) p

pub record ByNode (types : List DataType) (ds : List Due) (q : Kind) (ps : List Piece) (xs : List Item) : Type 0 where
  pub x : Item
  pub fields : List Kind
  pub node : IsNode types q x fields
  pub more : List Piece
  pub ys : List Item
  pub ps_is : ps ≡ g.Node x ∷ more
  pub xs_is : xs ≡ x ∷ ys
  pub comes : Comes types (parts_due fields ++ ds) more ys

pub unfold_node : (types : List DataType) (ds : List Due) (q : Kind) (ps : List Piece) (xs : List Item) → Comes types (due.Value q ∷ ds) ps xs
    → ByNode types ds q ps xs
unfold_node types ds q ps xs h = let (v, more, ys, f, p, x, c) = h in by_value v more ys f p x c
  where
    by_value : (v : Value) (more : List Piece) (ys : List Item) → Fits types q v → ps ≡ pieces v more → xs ≡ nodes v ys → Comes types ds more ys
        → ByNode types ds q ps xs
    by_value (value.Int z) more ys f p x c = record { x = item.Int z; fields = []; node = (f.0, f.1, refl); more = more; ys = ys; ps_is = p; xs_is = x; comes = c }
    by_value (value.Flag b) more ys f p x c = record { x = item.Flag b; fields = []; node = (f, refl); more = more; ys = ys; ps_is = p; xs_is = x; comes = c }
    by_value value.Dia more ys f p x c = record { x = item.Dia; fields = []; node = (f, refl); more = more; ys = ys; ps_is = p; xs_is = x; comes = c }
    by_value (value.Con c vs) more ys f p x k =
        let (con, is, fit) = some_is (constructor types c) (λ con. FitAll types con.fields vs) f.1 in
        record {
          x = item.Con (part_count vs) c;
          fields = con.fields;
          node = (con, is, f.0, refl, sym (fit_length types con.fields vs fit));
          more = part_pieces vs more;
          ys = nodes_all vs ys;
          ps_is = p ∙ pieces_by c vs more;
          xs_is = x;
          comes = comes_parts types ds con.fields vs more ys fit k;
        }
      where
        pieces_by : (c : ℕ) (vs : Values) (more : List Piece) → pieces (value.Con c vs) more ≡ g.Node (item.Con (part_count vs) c) ∷ part_pieces vs more
        pieces_by c value.End more = refl
        pieces_by c (value.And v vs) more = refl

pub possible_parts : (types : List DataType) (ds : List Due) (fields : List Kind) (ps : List Piece) (xs : List Item) → HaveValues types fields
    → Comes types ds ps xs → Possible types (parts_due fields ++ ds)
possible_parts types ds fields ps xs h c = record { ps = part_pieces h.values ps; xs = nodes_all h.values xs; comes = comes_parts types ds fields h.values ps xs h.fit c }

pub parts_have : (types : List DataType) (ds : List Due) (qs : List Kind) (ps : List Piece) (xs : List Item) → Comes types (parts_due qs ++ ds) ps xs
    → HaveValues types qs
parts_have types ds qs ps xs c = let p = parts_come types ds qs ps xs c in record { values = p.vs; fit = p.fit }
