-- Where reading stops: the front that was read, with what is good of the next word, is the longest that begins a text.
use Rattle.std.proofs.Common.{◌≡◌, ℕ, ◌+◌, ◌-◌, ◌<◌, ◌≤◌, Bool, true, false, List, [], ◌∷◌, ◌++◌, length, take, drop, refl, sym, ap, ◌∙◌, subst, arith, append_assoc, length-append, inl, inr}
use Rattle.std.specs.Prelude.{◌⊎◌, IsTrue}
use Rattle.std.specs.List.{list_all}
use Rattle.std.proofs.Math.Seq.{take-append-add}
use Rattle.std.proofs.lemmas.List.{take-append-drop, length-take-le}
use Rattle.std.proofs.lemmas.Bool.{cases_lt}
use Rattle.camelot_values.specs.Kinds.{DataType, constructor_name}
use Rattle.camelot_values.specs.Items.{nodes_all}
use Rattle.camelot_values.specs.declared.kinds.Kind.{Kind}
use Rattle.camelot_values.specs.declared.value.Item.{Item}
use Rattle.value_text.specs.Grammar as g
use Rattle.value_text.specs.Grammar.{Piece, Spelled, AfterSpaces, MarkThen, WordThen, Ends, IsNodeText, is_word, is_word_byte}
use Rattle.value_text.specs.Dues.{Due}
use Rattle.value_text.specs.Dues as due
use Rattle.value_text.specs.Due.{Accepts, Rest, After, Possible, Reading, IsNode, HaveValues, Unnamed, IsWordFront, Stops, parts_due}
use Rattle.value_text.specs.Grammar.{AreNamed}
use Rattle.value_text.proofs.Words.{word_all, all_front, same_tail, word_split, word_front, front_cases, Longer, Beyond}
use Rattle.value_text.proofs.Comings.{fold_node, unfold_node, parts_have, comes_parts, part_pieces}
use Rattle.value_text.proofs.Steps.{put_word, same_after}
use Rattle.value_text.proofs.Lives.{fine_comes, spaced, spaced_ends, spelled_spaced}

-- some text with this front is of what is due
pub record Live (types : List DataType) (ds : List Due) (g : List ℕ) : Type 0 where
  pub more : List ℕ
  pub xs : List Item
  pub accepts : Accepts types ds (g ++ more) xs
  pub ends : g ≡ [] → Ends more

lives : (types : List DataType) (ds : List Due) → AreNamed types → Possible types ds → Live types ds []
lives types ds names p = record {
  more = spaced (constructor_name types) p.ps;
  xs = p.xs;
  accepts = record { ps = p.ps; comes = p.comes; spelled = spelled_spaced (constructor_name types) p.ps (fine_comes types names ds p.ps p.xs p.comes) };
  ends = λ e. spaced_ends (constructor_name types) p.ps;
}

ends_after : (word : Bool) (t : List ℕ) → Ends t → After word t
ends_after true t h = h
ends_after false t h = tt

-- what may stand behind a word, for other texts with the same front
front_after : (word : Bool) (g s t : List ℕ) → (g ≡ [] → Ends t) → After word (g ++ s) → After word (g ++ t)
front_after word [] s t e h = ends_after word t (e refl)
front_after word (b ∷ g) s t e h = same_after word b (g ++ s) (g ++ t) h

some_front : (f : List ℕ) (n : ℕ) → n < length f → f ≡ [] → ⊥
some_front [] n h e = absurd (omega (arith, h))
some_front (x ∷ f) n h e = absurd cc

pub stops : (types : List DataType) (first : List Due) (text : List ℕ) (xs : List Item) (ds : List Due) (rest good bad : List ℕ)
    → Reading types first text xs ds rest → rest ≡ good ++ bad
    → Live types ds good → ((ys : List Item) → Accepts types ds rest ys → ⊥)
    → ((front last : List ℕ) → rest ≡ front ++ last → length good < length front → (s : List ℕ) (ys : List Item) → Accepts types ds (front ++ s) ys → ⊥)
    → Stops types first text (length text - length bad)
stops types first text xs ds rest good bad r parts live whole dead = record {
  none = λ zs acc. whole_dead zs (r.leads.from rest zs r.after (subst (λ t. Accepts types first t zs) r.is acc));
  good = r.front ++ good;
  bad = bad;
  parts = r.is ∙ ap (λ l. r.front ++ l) parts ∙ sym (append_assoc r.front good bad);
  at_is = omega (arith, ap length r.is, ap length parts, length-append r.front rest, length-append good bad, length-append r.front good);
  more = live.more;
  items = xs ++ live.xs;
  begins = subst (λ t. Accepts types first t (xs ++ live.xs)) (sym (append_assoc r.front good live.more))
      (r.leads.to (good ++ live.more) live.xs (front_after r.word good bad live.more live.ends (subst (After r.word) parts r.after)) live.accepts);
  longest = λ n within s ys acc. by_length n s ys within acc (cases_lt (length text - length bad) n);
}
  where
    whole_dead : (zs : List Item) → Rest types ds rest xs zs → ⊥
    whole_dead zs k = whole k.ys k.accepts

    text_length : length text ≡ length r.front + length rest
    text_length = ap length r.is ∙ length-append r.front rest

    rest_length : length rest ≡ length good + length bad
    rest_length = ap length parts ∙ length-append good bad

    beyond : (n m : ℕ) (s : List ℕ) (ys : List Item) → n ≡ length r.front + m → length good < m → m ≤ length rest
        → Accepts types first (take n text ++ s) ys → ⊥
    beyond n m s ys e more within acc =
        let f = take m rest in
        let split : f ++ drop m rest ≡ rest = take-append-drop m rest in
        let size : length f ≡ m = length-take-le m rest within in
        let t : take n text ≡ r.front ++ f = ap (λ k. take k text) e ∙ ap (take (length r.front + m)) r.is ∙ take-append-add r.front rest m in
        let a : Accepts types first (r.front ++ (f ++ s)) ys = subst (λ u. Accepts types first u ys) (ap (λ u. u ++ s) t ∙ append_assoc r.front f s) acc in
        let long : length good < length f = omega (arith, more, size) in
        let k = r.leads.from (f ++ s) ys (front_after r.word f (drop m rest) s (λ none. absurd (some_front f (length good) long none)) (subst (After r.word) (sym split) r.after)) a in
        dead f (drop m rest) (sym split) long s k.ys k.accepts

    by_length : (n : ℕ) (s : List ℕ) (ys : List Item) → n ≤ length text → Accepts types first (take n text ++ s) ys
        → (length text - length bad < n) ⊎ (n ≤ length text - length bad) → n ≤ length text - length bad
    by_length n s ys within acc (inr h) = h
    by_length n s ys within acc (inl h) =
        absurd (beyond n (n - length r.front) s ys (omega (arith, h, text_length, rest_length)) (omega (arith, h, text_length, rest_length)) (omega (arith, within, text_length)) acc)

-- ---- nothing of what is due begins with the next byte

abbrev pub NotSpace : List ℕ → Type 0
NotSpace [] = Unit {0}
NotSpace (b ∷ t) = b ≡ 32 → ⊥

-- what is due begins with no such byte
abbrev pub Refuses : List Due → ℕ → Type 0
Refuses [] c = c ≡ 32 → ⊥
Refuses (due.Mark m ∷ ds) c = (c ≡ 32 → ⊥) × (c ≡ m → ⊥)
Refuses (due.Value q ∷ ds) c = ⊥

refuses : (types : List DataType) (ds : List Due) (c : ℕ) (t : List ℕ) (ys : List Item) → Refuses ds c → Accepts types ds (c ∷ t) ys → ⊥
refuses types [] c t ys n a = bare (subst (λ l. Spelled (constructor_name types) l (c ∷ t)) a.comes.0 a.spelled)
  where
    bare : Spelled (constructor_name types) [] (c ∷ t) → ⊥
    bare (inl e) = absurd cc
    bare (inr p) = n p.0
refuses types (due.Mark m ∷ ds) c t ys n a = let (more, e, k) = a.comes in mark more (subst (λ l. Spelled (constructor_name types) l (c ∷ t)) e a.spelled)
  where
    mark : (more : List Piece) → Spelled (constructor_name types) (g.Mark m ∷ more) (c ∷ t) → ⊥
    mark more (inl h) = n.1 (same_tail c m t h.rest h.parts).0
    mark more (inr p) = n.0 p.0
refuses types (due.Value q ∷ ds) c t ys n a = n

pub stops_at_byte : (types : List DataType) (first : List Due) (text : List ℕ) (xs : List Item) (ds : List Due) (c : ℕ) (rest : List ℕ)
    → AreNamed types → Reading types first text xs ds (c ∷ rest) → Refuses ds c
    → Stops types first text (length text - length (c ∷ rest))
stops_at_byte types first text xs ds c rest names r n =
    stops types first text xs ds (c ∷ rest) [] (c ∷ rest) r refl (lives types ds names r.possible) (λ ys a. refuses types ds c rest ys n a) dead
  where
    dead : (front last : List ℕ) → c ∷ rest ≡ front ++ last → 0 < length front → (s : List ℕ) (ys : List Item) → Accepts types ds (front ++ s) ys → ⊥
    dead [] last e h s ys a = absurd (omega (arith, h))
    dead (b ∷ front) last e h s ys a =
        let k : c ≡ b = (same_tail c b rest (front ++ last) e).0 in refuses types ds c (front ++ s) ys n (subst (λ x. Accepts types ds (x ∷ (front ++ s)) ys) (sym k) a)

-- ---- the text ends too early

wants : (types : List DataType) (d : Due) (ds : List Due) (ys : List Item) → Accepts types (d ∷ ds) [] ys → ⊥
wants types (due.Mark m) ds ys a = let (more, e, k) = a.comes in mark more (subst (λ l. Spelled (constructor_name types) l []) e a.spelled)
  where
    mark : (more : List Piece) → Spelled (constructor_name types) (g.Mark m ∷ more) [] → ⊥
    mark more h = let e : [] ≡ m ∷ h.rest = h.parts in absurd cc
wants types (due.Value q) ds ys a = let b = unfold_node types ds q a.ps ys a.comes in word b.x b.more (subst (λ l. Spelled (constructor_name types) l []) b.ps_is a.spelled)
  where
    no_word : (w r : List ℕ) → [] ≡ w ++ r → IsTrue (is_word w) → ⊥
    no_word [] r e h = absurd cc
    no_word (x ∷ w) r e h = absurd cc

    word : (x : Item) (more : List Piece) → Spelled (constructor_name types) (g.Node x ∷ more) [] → ⊥
    word x more h = no_word h.word h.rest h.parts h.form

pub stops_at_end : (types : List DataType) (first : List Due) (text : List ℕ) (xs : List Item) (d : Due) (ds : List Due) → AreNamed types
    → Reading types first text xs (d ∷ ds) [] → Stops types first text (length text)
stops_at_end types first text xs d ds names r =
    subst (Stops types first text) (omega arith) (stops types first text xs (d ∷ ds) [] [] [] r refl (lives types (d ∷ ds) names r.possible) (λ ys a. wants types d ds ys a) dead)
  where
    dead : (front last : List ℕ) → [] ≡ front ++ last → 0 < length front → (s : List ℕ) (ys : List Item) → Accepts types (d ∷ ds) (front ++ s) ys → ⊥
    dead [] last e h s ys a = absurd (omega (arith, h))
    dead (b ∷ front) last e h s ys a = absurd cc

-- ---- the word is no node's

word_at : (IsText Then : List ℕ → Type 0) (t : List ℕ) → NotSpace t → AfterSpaces (WordThen IsText Then) t → WordThen IsText Then t
word_at IsText Then [] n h = h
word_at IsText Then (b ∷ t) n (inl h) = h
word_at IsText Then (b ∷ t) n (inr p) = absurd (n p.0)

live_word : (types : List DataType) (ds : List Due) (q : Kind) (front : List ℕ) (possible : Possible types (due.Value q ∷ ds)) → AreNamed types
    → IsWordFront types q front → Live types (due.Value q ∷ ds) front
live_word types ds q [] possible names b = lives types (due.Value q ∷ ds) names possible
live_word types ds q (c ∷ front) possible names b =
    let (v, ps, xs, f, p, x, come) = possible.comes in
    let word = (c ∷ front) ++ b.more in
    let next = part_pieces b.have.values ps in
    let k = comes_parts types ds b.fields b.have.values ps xs b.have.fit come in
    let after = spaced (constructor_name types) next in
    let fine = fine_comes types names (parts_due b.fields ++ ds) next (nodes_all b.have.values xs) k in
    let items = b.x ∷ nodes_all b.have.values xs in
    let t : Accepts types (due.Value q ∷ ds) (word ++ after) items = record {
      ps = g.Node b.x ∷ next;
      comes = fold_node types ds q b.x b.fields next (nodes_all b.have.values xs) b.node k;
      spelled = put_word (IsNodeText (constructor_name types) b.x) (Spelled (constructor_name types) next) word after
          (record { word = word; rest = after; parts = refl; form = b.form; ends = spaced_ends (constructor_name types) next; is = b.text; next = spelled_spaced (constructor_name types) next fine });
    } in
    record {
      more = b.more ++ after;
      xs = items;
      accepts = subst (λ l. Accepts types (due.Value q ∷ ds) l items) (append_assoc (c ∷ front) b.more after) t;
      ends = λ e. absurd cc;
    }

front_not_space : (front last s : List ℕ) (n : ℕ) → n < length front → NotSpace (front ++ last) → NotSpace (front ++ s)
front_not_space [] last s n h k = absurd (omega (arith, h))
front_not_space (b ∷ front) last s n h k = k

-- the first word of what is due, with what it is
record Headed (types : List DataType) (q : Kind) (text : List ℕ) : Type 0 where
  x : Item
  fields : List Kind
  node : IsNode types q x fields
  have : HaveValues types fields
  word : List ℕ
  rest : List ℕ
  parts : text ≡ word ++ rest
  form : IsTrue (is_word word)
  ends : Ends rest
  is : IsNodeText (constructor_name types) x word

headed : (types : List DataType) (ds : List Due) (q : Kind) (t : List ℕ) (ys : List Item) → NotSpace t → Accepts types (due.Value q ∷ ds) t ys
    → Headed types q t
headed types ds q t ys n a =
    let b = unfold_node types ds q a.ps ys a.comes in
    let h = word_at (IsNodeText (constructor_name types) b.x) (Spelled (constructor_name types) b.more) t n (subst (λ l. Spelled (constructor_name types) l t) b.ps_is a.spelled) in
    record { x = b.x; fields = b.fields; node = b.node; have = parts_have types ds b.fields b.more b.ys b.comes; word = h.word; rest = h.rest; parts = h.parts; form = h.form; ends = h.ends; is = h.is }

-- the whole word was read, and is no node's
none_whole : (types : List DataType) (q : Kind) (w t rest : List ℕ) (good : ℕ) → IsTrue (list_all is_word_byte w) → Ends rest → t ≡ w ++ rest
    → Unnamed types q w good → Headed types q t → ⊥
none_whole types q w t rest good all ends e u h =
    let s = word_split w h.word rest h.rest all (word_all h.word h.form) ends h.ends (sym e ∙ h.parts) in
    u.none h.x h.fields h.node h.have (subst (IsNodeText (constructor_name types) h.x) (sym s.0) h.is)

none_front : (types : List DataType) (q : Kind) (w rest front last s : List ℕ) (good : ℕ) → IsTrue (list_all is_word_byte w) → Ends rest
    → w ++ rest ≡ front ++ last → good < length front → Unnamed types q w good → Headed types q (front ++ s) → ⊥
none_front types q w rest front last s good all ends e long u h = by_front (front_cases w rest front last e)
  where
    within : (l : Longer front w) → Longer front h.word → ⊥
    within l k =
        let b : IsWordFront types q front = record {
          x = h.x;
          fields = h.fields;
          more = k.more;
          node = h.node;
          have = h.have;
          text = subst (IsNodeText (constructor_name types) h.x) k.is h.is;
          form = subst (λ v. IsTrue (is_word v)) k.is h.form;
        } in
        absurd (omega (arith, long, u.longest front l.more l.is b))

    by_front : Longer front w ⊎ Beyond w rest front → ⊥
    by_front (inl l) = within l (word_front front h.word s h.rest (all_front front l.more (subst (λ v. IsTrue (list_all is_word_byte v)) l.is all)) h.ends h.parts)
    by_front (inr b) =
        none_whole types q w (front ++ s) (b.byte ∷ (b.more ++ s)) good all (subst Ends b.rest_is ends) (ap (λ f. f ++ s) b.front_is ∙ append_assoc w (b.byte ∷ b.more) s) u h

pub stops_at_word : (types : List DataType) (first : List Due) (text : List ℕ) (xs : List Item) (ds : List Due) (q : Kind) (w rest : List ℕ) (good : ℕ) → AreNamed types → Reading types first text xs (due.Value q ∷ ds) (w ++ rest)
    → IsTrue (list_all is_word_byte w) → Ends rest → NotSpace (w ++ rest) → Unnamed types q w good → Stops types first text (length text - length (w ++ rest) + good)
stops_at_word types first text xs ds q w rest good names r all ends space u =
    let parts : w ++ rest ≡ u.front ++ (u.more ++ rest) = ap (λ l. l ++ rest) u.is ∙ append_assoc u.front u.more rest in
    let at : length text - length (u.more ++ rest) ≡ length text - length (w ++ rest) + good =
    omega (arith, ap length r.is, length-append r.front (w ++ rest), ap length parts, length-append u.front (u.more ++ rest), u.good_is) in
    subst (Stops types first text) at
    (stops types first text xs (due.Value q ∷ ds) (w ++ rest) u.front (u.more ++ rest) r parts (live_word types ds q u.front r.possible names u.begun)
    (λ ys a. none_whole types q w (w ++ rest) rest good all ends refl u (headed types ds q (w ++ rest) ys space a))
    (λ front last e long s ys a. none_front types q w rest front last s good all ends e (omega (arith, long, u.good_is)) u
    (headed types ds q (front ++ s) ys (front_not_space front last s (length u.front) long (subst NotSpace e space)) a)))
