-- One step of reading: a space, a mark, or the word of a node.
use Rattle.std.proofs.Common.{◌≡◌, ℕ, Bool, true, false, List, [], ◌∷◌, ◌++◌, refl, sym, ap, ◌∙◌, subst, append_assoc, append-nil, inl, inr}
use Rattle.std.specs.Prelude.{IsTrue}
use Rattle.camelot_values.specs.Kinds.{DataType, constructor_name}
use Rattle.camelot_values.specs.declared.kinds.Kind.{Kind}
use Rattle.camelot_values.specs.declared.value.Item.{Item}
use Rattle.value_text.specs.Grammar as g
use Rattle.value_text.specs.Grammar.{Piece, Spelled, AfterSpaces, MarkThen, WordThen, Ends, IsNodeText, is_word, is_word_byte}
use Rattle.value_text.specs.Dues.{Due}
use Rattle.value_text.specs.Dues as due
use Rattle.value_text.specs.Due.{Comes, Accepts, Rest, After, Leads, Possible, Reading, IsNode, Named, parts_due}
use Rattle.value_text.proofs.Words.{and_parts, word_all, same_tail, word_split}
use Rattle.value_text.proofs.Comings.{fold_node, unfold_node, possible_parts}

-- ---- spaces

-- a space may stand before any pieces
pub add_space : (names : ℕ → List ℕ) (ps : List Piece) (t : List ℕ) → Spelled names ps t → Spelled names ps (32 ∷ t)
add_space names [] t h = inr (refl, h)
add_space names (g.Node x ∷ ps) t h = inr (refl, h)
add_space names (g.Mark b ∷ ps) t h = inr (refl, h)

-- no space of its own is due first
abbrev pub NoSpace : List Due → Type 0
NoSpace [] = Unit {0}
NoSpace (due.Value q ∷ ds) = Unit {0}
NoSpace (due.Mark b ∷ ds) = b ≡ 32 → ⊥

no_word_space : (w r t : List ℕ) → 32 ∷ t ≡ w ++ r → IsTrue (is_word w) → ⊥
no_word_space [] r t e h = absurd cc
no_word_space (b ∷ w) r t e h =
    let s : 32 ≡ b = (same_tail 32 b t (w ++ r) e).0 in
    let k : is_word_byte 32 ≡ true = subst (λ c. is_word_byte c ≡ true) (sym s) (and_parts (is_word_byte b) _ h).0 in absurd cc

-- a space that was read changes nothing of what is due, where none is due
drop_space : (types : List DataType) (ds : List Due) (ps : List Piece) (xs : List Item) (t : List ℕ) → NoSpace ds → Comes types ds ps xs
    → Spelled (constructor_name types) ps (32 ∷ t) → Spelled (constructor_name types) ps t
drop_space types [] ps xs t n c h = subst (λ l. Spelled (constructor_name types) l t) (sym c.0) (bare (subst (λ l. Spelled (constructor_name types) l (32 ∷ t)) c.0 h))
  where
    bare : Spelled (constructor_name types) [] (32 ∷ t) → Spelled (constructor_name types) [] t
    bare (inl e) = absurd cc
    bare (inr p) = p.1
drop_space types (due.Mark b ∷ ds) ps xs t n (more, e, c) h = subst (λ l. Spelled (constructor_name types) l t) (sym e) (mark (subst (λ l. Spelled (constructor_name types) l (32 ∷ t)) e h))
  where
    mark : Spelled (constructor_name types) (g.Mark b ∷ more) (32 ∷ t) → Spelled (constructor_name types) (g.Mark b ∷ more) t
    mark (inl m) = absurd (n (sym (same_tail 32 b t m.rest m.parts).0))
    mark (inr p) = p.1
drop_space types (due.Value q ∷ ds) ps xs t n c h =
    let b = unfold_node types ds q ps xs c in
    subst (λ l. Spelled (constructor_name types) l t) (sym b.ps_is) (word b.x b.more (subst (λ l. Spelled (constructor_name types) l (32 ∷ t)) b.ps_is h))
  where
    word : (x : Item) (more : List Piece) → Spelled (constructor_name types) (g.Node x ∷ more) (32 ∷ t) → Spelled (constructor_name types) (g.Node x ∷ more) t
    word x more (inl w) = absurd (no_word_space w.word w.rest t w.parts w.form)
    word x more (inr p) = p.1

pub leads_space : (types : List DataType) (ds : List Due) → NoSpace ds → Leads types ds (32 ∷ []) [] false ds
leads_space types ds n = record {
  to = λ t ys a acc. record { ps = acc.ps; comes = acc.comes; spelled = add_space (constructor_name types) acc.ps t acc.spelled };
  from = λ t zs a acc. record { ys = zs; is = refl; accepts = record { ps = acc.ps; comes = acc.comes; spelled = drop_space types ds acc.ps zs t n acc.comes acc.spelled } };
}

-- ---- marks

-- a space that is due, after other spaces
spaces_then : (names : ℕ → List ℕ) (ps : List Piece) (m : ℕ) (t : List ℕ) → m ≡ 32 → AfterSpaces (MarkThen m (Spelled names ps)) t → Spelled names ps t
spaces_then names ps m [] e h = let bad : [] ≡ m ∷ h.rest = h.parts in absurd cc
spaces_then names ps m (b ∷ t) e (inl h) =
    let p = same_tail b m t h.rest h.parts in
    let s : 32 ≡ b = sym (p.0 ∙ e) in
    subst (λ c. Spelled names ps (c ∷ t)) s (add_space names ps t (subst (Spelled names ps) (sym p.1) h.next))
spaces_then names ps m (b ∷ t) e (inr p) = subst (λ c. Spelled names ps (c ∷ t)) (sym p.0) (add_space names ps t (spaces_then names ps m t e p.1))

pub leads_mark : (types : List DataType) (ds : List Due) (m : ℕ) → Leads types (due.Mark m ∷ ds) (m ∷ []) [] false ds
leads_mark types ds m = record {
  to = λ t ys a acc. record { ps = g.Mark m ∷ acc.ps; comes = (acc.ps, refl, acc.comes); spelled = inl (record { rest = t; parts = refl; next = acc.spelled }) };
  from = λ t zs a acc. back t zs acc.ps acc.comes acc.spelled;
}
  where
    names : ℕ → List ℕ
    names = constructor_name types

    marked : (more : List Piece) (t : List ℕ) → Spelled (constructor_name types) (g.Mark m ∷ more) (m ∷ t) → Spelled (constructor_name types) more t
    marked more t (inl h) = subst (Spelled (constructor_name types) more) (sym (same_tail m m t h.rest h.parts).1) h.next
    marked more t (inr p) = spaces_then (constructor_name types) more m t p.0 p.1

    back : (t : List ℕ) (zs : List Item) (ps : List Piece) → Comes types (due.Mark m ∷ ds) ps zs → Spelled (constructor_name types) ps (m ∷ t)
        → Rest types ds t [] zs
    back t zs ps (more, e, c) h = record { ys = zs; is = refl; accepts = record { ps = more; comes = c; spelled = marked more t (subst (λ l. Spelled (constructor_name types) l (m ∷ t)) e h) } }

-- ---- words

pub put_word : (IsText Then : List ℕ → Type 0) (w t : List ℕ) → WordThen IsText Then (w ++ t) → AfterSpaces (WordThen IsText Then) (w ++ t)
put_word IsText Then [] [] h = h
put_word IsText Then [] (b ∷ t) h = inl h
put_word IsText Then (b ∷ w) t h = inl h

-- the word in front
pub first_word : (IsText Then : List ℕ → Type 0) (w t : List ℕ) → IsTrue (is_word w) → AfterSpaces (WordThen IsText Then) (w ++ t)
    → WordThen IsText Then (w ++ t)
first_word IsText Then [] t f h = absurd cc
first_word IsText Then (b ∷ w) t f (inl h) = h
first_word IsText Then (b ∷ w) t f (inr p) =
    let k : is_word_byte 32 ≡ true = subst (λ c. is_word_byte c ≡ true) p.0 (and_parts (is_word_byte b) _ f).0 in absurd cc

pub leads_word : (types : List DataType) (ds : List Due) (q : Kind) (w : List ℕ) (x : Item) (fields : List Kind) → IsTrue (is_word w) → Named types q w x fields
    → Leads types (due.Value q ∷ ds) w (x ∷ []) true (parts_due fields ++ ds)
leads_word types ds q w x fields form n = record {
  to = λ t ys a acc. record {
    ps = g.Node x ∷ acc.ps;
    comes = fold_node types ds q x fields acc.ps ys n.node acc.comes;
    spelled = put_word (IsNodeText (constructor_name types) x) (Spelled (constructor_name types) acc.ps) w t (record { word = w; rest = t; parts = refl; form = form; ends = a; is = n.text; next = acc.spelled });
  };
  from = λ t zs a acc. back t zs a acc.ps acc.comes acc.spelled;
}
  where
    same : (t : List ℕ) (y : Item) (others : List Kind) (more : List Piece) (ys zs : List Item) → Ends t → IsNode types q y others → zs ≡ y ∷ ys
        → Comes types (parts_due others ++ ds) more ys
        → WordThen (IsNodeText (constructor_name types) y) (Spelled (constructor_name types) more) (w ++ t) → Rest types (parts_due fields ++ ds) t (x ∷ []) zs
    same t y others more ys zs a node e c h =
        let s = word_split w h.word t h.rest (word_all w form) (word_all h.word h.form) a h.ends h.parts in
        let o = n.only y others node (subst (IsNodeText (constructor_name types) y) (sym s.0) h.is) in
        record {
          ys = ys;
          is = e ∙ ap (λ z. z ∷ ys) o.0;
          accepts = record { ps = more; comes = subst (λ f. Comes types (parts_due f ++ ds) more ys) o.1 c; spelled = subst (Spelled (constructor_name types) more) (sym s.1) h.next };
        }

    back : (t : List ℕ) (zs : List Item) → Ends t → (ps : List Piece) → Comes types (due.Value q ∷ ds) ps zs
        → Spelled (constructor_name types) ps (w ++ t) → Rest types (parts_due fields ++ ds) t (x ∷ []) zs
    back t zs a ps c h =
        let b = unfold_node types ds q ps zs c in
        same t b.x b.fields b.more b.ys zs a b.node b.xs_is b.comes
        (first_word (IsNodeText (constructor_name types) b.x) (Spelled (constructor_name types) b.more) w t form (subst (λ l. Spelled (constructor_name types) l (w ++ t)) b.ps_is h))

-- ---- one step more

-- what may stand behind a word depends on the first byte alone
pub same_after : (word : Bool) (b : ℕ) (s t : List ℕ) → After word (b ∷ s) → After word (b ∷ t)
same_after true b s t h = h
same_after false b s t h = tt

pub read_on : (types : List DataType) (first : List Due) (text : List ℕ) (xs : List Item) (ds : List Due) (b : ℕ) (u : List ℕ) (ys : List Item) (word : Bool) (es : List Due) (rest : List ℕ)
    → Reading types first text xs ds ((b ∷ u) ++ rest) → Leads types ds (b ∷ u) ys word es → After word rest → Possible types es → Reading types first text (xs ++ ys) es rest
read_on types first text xs ds b u ys word es rest r l a p = record {
  front = r.front ++ (b ∷ u);
  word = word;
  is = r.is ∙ sym (append_assoc r.front (b ∷ u) rest);
  leads = record {
    to = λ t zs k acc. subst (λ y. Accepts types first ((r.front ++ (b ∷ u)) ++ t) y) (sym (append_assoc xs ys zs))
        (subst (λ y. Accepts types first y (xs ++ (ys ++ zs))) (sym (append_assoc r.front (b ∷ u) t)) (r.leads.to ((b ∷ u) ++ t) (ys ++ zs) (same_after r.word b (u ++ rest) (u ++ t) r.after) (l.to t zs k acc)));
    from = λ t zs k acc. back t zs k (r.leads.from ((b ∷ u) ++ t) zs (same_after r.word b (u ++ rest) (u ++ t) r.after) (subst (λ y. Accepts types first y zs) (append_assoc r.front (b ∷ u) t) acc));
  };
  after = a;
  possible = p;
}
  where
    back : (t : List ℕ) (zs : List Item) → After word t → Rest types ds ((b ∷ u) ++ t) xs zs → Rest types es t (xs ++ ys) zs
    back t zs k h = let m = l.from t h.ys k h.accepts in record { ys = m.ys; is = h.is ∙ ap (λ y. xs ++ y) m.is ∙ sym (append_assoc xs ys m.ys); accepts = m.accepts }

pub read_space : (types : List DataType) (first : List Due) (text : List ℕ) (xs : List Item) (ds : List Due) (rest : List ℕ) → NoSpace ds
    → Reading types first text xs ds (32 ∷ rest) → Reading types first text xs ds rest
read_space types first text xs ds rest n r = subst (λ y. Reading types first text y ds rest) (append-nil xs) (read_on types first text xs ds 32 [] [] false ds rest r (leads_space types ds n) tt r.possible)

after_mark : (types : List DataType) (m : ℕ) (ds : List Due) → Possible types (due.Mark m ∷ ds) → Possible types ds
after_mark types m ds p = let (more, e, c) = p.comes in record { ps = more; xs = p.xs; comes = c }

pub read_mark : (types : List DataType) (first : List Due) (text : List ℕ) (xs : List Item) (m : ℕ) (ds : List Due) (rest : List ℕ)
    → Reading types first text xs (due.Mark m ∷ ds) (m ∷ rest) → Reading types first text xs ds rest
read_mark types first text xs m ds rest r =
    subst (λ y. Reading types first text y ds rest) (append-nil xs) (read_on types first text xs (due.Mark m ∷ ds) m [] [] false ds rest r (leads_mark types ds m) tt (after_mark types m ds r.possible))

pub read_word : (types : List DataType) (first : List Due) (text : List ℕ) (xs : List Item) (ds : List Due) (q : Kind) (w rest : List ℕ) (x : Item) (fields : List Kind)
    → Reading types first text xs (due.Value q ∷ ds) (w ++ rest) → IsTrue (is_word w) → Ends rest → Named types q w x fields → Reading types first text (xs ++ x ∷ []) (parts_due fields ++ ds) rest
read_word types first text xs ds q [] rest x fields r form ends n = absurd cc
read_word types first text xs ds q (b ∷ w) rest x fields r form ends n =
    let (v, more, ys, f, p, e, c) = r.possible.comes in
    read_on types first text xs (due.Value q ∷ ds) b w (x ∷ []) true (parts_due fields ++ ds) rest r (leads_word types ds q (b ∷ w) x fields form n) ends
    (possible_parts types ds fields more ys n.have c)
