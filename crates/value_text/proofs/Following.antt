-- What the code has read of a text, step by step.
use Rattle.std.proofs.Common.{◌≡◌, ℕ, suc, ◌+◌, ◌-◌, ◌<◌, ◌≤◌, Bool, true, false, List, [], ◌∷◌, ◌++◌, length, refl, sym, ap, ◌∙◌, subst, arith, length-append, inl, inr}
use Rattle.std.specs.Prelude.{◌⊎◌, IsTrue, ◌==◌, if◌then◌else◌, decimal, ℤ, pos, neg_ℤ}
use Rattle.std.proofs.lemmas.Bool.Decides.{nat_tests}
use Rattle.camelot_values.specs.Kinds.{DataType}
use Rattle.camelot_values.specs.Value.{IsInt32}
use Rattle.value_text.proofs.Atoms.{pos_small, neg_small}
use Rattle.camelot_values.specs.declared.kinds.Kind.{Kind}
use Rattle.camelot_values.specs.declared.value.Item.{Item}
use Rattle.camelot_values.specs.declared.value.Item.TheVariants as item
use Rattle.value_text.specs.Grammar.{AreNamed, is_word}
use Rattle.value_text.specs.Dues.{Due}
use Rattle.value_text.specs.Dues as due
use Rattle.value_text.specs.Due.{Reading, Named, Stops, Whole, Possible, first_due, parts_due}
use Rattle.value_text.specs.Finite.{HasValue}
use Rattle.value_text.specs.Splitting.{skip, before_mark, NotFirst, NodeRead, NodeRefused}
use Rattle.value_text.proofs.Words.{word_all}
use Rattle.value_text.proofs.Lives.{con_fine, decimal_fine}
use Rattle.value_text.proofs.Steps.{NoSpace, read_space, read_mark, read_word}
use Rattle.value_text.proofs.Stopping.{NotSpace, stops_at_byte, stops_at_end, stops_at_word}
use Rattle.value_text.proofs.Texts.{reading_starts, reading_ends}

-- ---- spaces

pub read_spaces : (types : List DataType) (first : List Due) (text : List ℕ) (xs : List Item) (ds : List Due) (rest : List ℕ) → NoSpace ds
    → Reading types first text xs ds rest → Reading types first text xs ds (skip rest)
read_spaces types first text xs ds [] n r = r
read_spaces types first text xs ds (b ∷ rest) n r = by_test (b == 32) refl (λ s. read_spaces types first text xs ds rest n s)
  where
    by_test : (t : Bool) → (b == 32) ≡ t → (Reading types first text xs ds rest → Reading types first text xs ds (skip rest))
        → Reading types first text xs ds (if t then skip rest else b ∷ rest)
    by_test true e f = let s : b ≡ 32 = grind (arith, nat_tests, e) in f (read_space types first text xs ds rest n (subst (λ c. Reading types first text xs ds (c ∷ rest)) s r))
    by_test false e f = r

pub skipped : (text : List ℕ) → NotSpace (skip text)
skipped [] = tt
skipped (b ∷ text) = by_test (b == 32) refl (skipped text)
  where
    by_test : (t : Bool) → (b == 32) ≡ t → NotSpace (skip text) → NotSpace (if t then skip text else b ∷ text)
    by_test true e h = h
    by_test false e h = λ s. let k : (b == 32) ≡ true = grind (arith, nat_tests, s) in let c : true ≡ false = sym k ∙ e in absurd cc

-- ---- marks

mark_reached : (types : List DataType) (first : List Due) (text : List ℕ) (xs : List Item) (m : ℕ) (ds : List Due) (rest : List ℕ)
    → Reading types first text xs (due.Mark m ∷ ds) rest
    → Reading types first text xs (due.Mark m ∷ ds) (before_mark m rest)
mark_reached types first text xs m ds rest r = by_test (m == 32) refl
  where
    by_test : (t : Bool) → (m == 32) ≡ t → Reading types first text xs (due.Mark m ∷ ds) (if t then rest else skip rest)
    by_test true e = r
    by_test false e = read_spaces types first text xs (due.Mark m ∷ ds) rest (λ s. let k : (m == 32) ≡ true = grind (arith, nat_tests, s) in let c : true ≡ false = sym k ∙ e in absurd cc) r

pub mark_step : (types : List DataType) (first : List Due) (text : List ℕ) (xs : List Item) (m : ℕ) (ds : List Due) (rest after : List ℕ)
    → Reading types first text xs (due.Mark m ∷ ds) rest → before_mark m rest ≡ m ∷ after
    → Reading types first text xs ds after
mark_step types first text xs m ds rest after r e = read_mark types first text xs m ds after (subst (Reading types first text xs (due.Mark m ∷ ds)) e (mark_reached types first text xs m ds rest r))

not_space_there : (m : ℕ) (rest : List ℕ) → NotFirst m (before_mark m rest) → NotSpace (before_mark m rest)
not_space_there m rest n = by_test (m == 32) refl n
  where
    same : (t : List ℕ) → m ≡ 32 → NotFirst m t → NotSpace t
    same [] e h = tt
    same (b ∷ t) e h = λ s. h (s ∙ sym e)

    by_test : (t : Bool) → (m == 32) ≡ t → NotFirst m (if t then rest else skip rest) → NotSpace (if t then rest else skip rest)
    by_test true e h = same rest (grind (arith, nat_tests, e)) h
    by_test false e h = skipped rest

pub mark_stop : (types : List DataType) (first : List Due) (text : List ℕ) (xs : List Item) (m : ℕ) (ds : List Due) (rest : List ℕ) (left : ℕ)
    → AreNamed types → Reading types first text xs (due.Mark m ∷ ds) rest
    → left ≡ length (before_mark m rest) → NotFirst m (before_mark m rest) → Stops types first text (length text - left)
mark_stop types first text xs m ds rest left names r e n = by_text (before_mark m rest) refl (mark_reached types first text xs m ds rest r) n (not_space_there m rest n)
  where
    by_text : (t : List ℕ) → before_mark m rest ≡ t → Reading types first text xs (due.Mark m ∷ ds) t → NotFirst m t → NotSpace t
        → Stops types first text (length text - left)
    by_text [] s k h w = subst (Stops types first text) (let z : length text ≡ length text - left = omega (arith, e, ap length s) in z) (stops_at_end types first text xs (due.Mark m) ds names k)
    by_text (b ∷ t) s k h w =
        subst (λ n. Stops types first text (length text - n)) (let z : length (b ∷ t) ≡ left = omega (arith, e, ap length s) in z) (stops_at_byte types first text xs (due.Mark m ∷ ds) b t names k (w, h))

-- ---- nodes

decimal_word : (n : ℕ) → n < 4294967296 → IsTrue (is_word (decimal n))
decimal_word n h = decimal_fine n (omega (arith, h))

pub named_form : (types : List DataType) (q : Kind) (w : List ℕ) (x : Item) (fields : List Kind) → AreNamed types → Named types q w x fields
    → IsTrue (is_word w)
named_form types q w (item.Int z) fields names n = by_sign z n.node.1 n.text.size n.text.is
  where
    by_sign : (z : ℤ) → IsInt32 z → (k : ℕ) → ((w ≡ decimal k) × (z ≡ pos k)) ⊎ ((w ≡ 45 ∷ decimal k) × (z ≡ neg_ℤ (pos k))) → IsTrue (is_word w)
    by_sign z small k (inl p) = subst (λ v. IsTrue (is_word v)) (sym p.0) (decimal_word k (let s = pos_small k (subst IsInt32 p.1 small) in omega (arith, s)))
    by_sign z small k (inr p) = subst (λ v. IsTrue (is_word v)) (sym p.0) (word_all (decimal k) (decimal_word k (let s = neg_small k (subst IsInt32 p.1 small) in omega (arith, s))))
named_form types q w (item.Flag true) fields names n = subst (λ v. IsTrue (is_word v)) (sym n.text) refl
named_form types q w (item.Flag false) fields names n = subst (λ v. IsTrue (is_word v)) (sym n.text) refl
named_form types q w item.Dia fields names n = subst (λ v. IsTrue (is_word v)) (sym n.text) refl
named_form types q w (item.Con k c) fields names n = let (con, is, of, f, count) = n.node in subst (λ v. IsTrue (is_word v)) (sym n.text) (con_fine types c con names is)

pub node_step : (types : List DataType) (first : List Due) (text : List ℕ) (xs new : List Item) (q : Kind) (ds es : List Due) (rest after : List ℕ) (x : Item) (fields : List Kind) → AreNamed types
    → Reading types first text xs (due.Value q ∷ ds) rest → NodeRead types q rest x fields after → new ≡ xs ++ x ∷ [] → es ≡ parts_due fields ++ ds → Reading types first text new es after
node_step types first text xs new q ds es rest after x fields names r n push dues =
    let s = subst (Reading types first text xs (due.Value q ∷ ds)) n.split.parts (read_spaces types first text xs (due.Value q ∷ ds) rest tt r) in
    let k = read_word types first text xs ds q n.word after x fields s (named_form types q n.word x fields names n.named) n.split.ends n.named in
    subst (λ l. Reading types first text l es after) (sym push) (subst (λ l. Reading types first text (xs ++ x ∷ []) l after) (sym dues) k)

pub node_stop : (types : List DataType) (first : List Due) (text : List ℕ) (xs : List Item) (q : Kind) (ds : List Due) (rest : List ℕ) (left : ℕ)
    → AreNamed types → Reading types first text xs (due.Value q ∷ ds) rest
    → NodeRefused types q rest left → Stops types first text (length text - left)
node_stop types first text xs q ds rest left names r n =
    let k = read_spaces types first text xs (due.Value q ∷ ds) rest tt r in
    let s = subst (Reading types first text xs (due.Value q ∷ ds)) n.split.parts k in
    let at : length text - length (n.word ++ n.rest) + n.good ≡ length text - left = omega (arith, n.left_is, ap length n.split.parts, ap length k.is, length-append k.front (skip rest)) in
    subst (Stops types first text) at (stops_at_word types first text xs ds q n.word n.rest n.good names s n.split.all n.split.ends (subst NotSpace n.split.parts (skipped rest)) n.unnamed)

pub value_due : (types : List DataType) (first : List Due) (text : List ℕ) (xs : List Item) (q : Kind) (ds : List Due) (rest : List ℕ)
    → Reading types first text xs (due.Value q ∷ ds) rest → HasValue types q
value_due types first text xs q ds rest r = let (v, more, ys, f, p, x, c) = r.possible.comes in record { value = v; fits = f }

-- ---- the end

pub end_step : (types : List DataType) (first : List Due) (text : List ℕ) (xs : List Item) (rest : List ℕ) → Reading types first text xs [] rest
    → length (skip rest) ≡ 0 → Whole types first text xs
end_step types first text xs rest r e = reading_ends types first text xs (subst (Reading types first text xs []) (nothing (skip rest) e) (read_spaces types first text xs [] rest tt r))
  where
    nothing : (t : List ℕ) → length t ≡ 0 → t ≡ []
    nothing [] h = refl
    nothing (b ∷ t) h = absurd (omega (arith, h))

pub end_stop : (types : List DataType) (first : List Due) (text : List ℕ) (xs : List Item) (rest : List ℕ) → AreNamed types
    → Reading types first text xs [] rest → (length (skip rest) ≡ 0 → ⊥) → Stops types first text (length text - length (skip rest))
end_stop types first text xs rest names r n = by_text (skip rest) n (read_spaces types first text xs [] rest tt r) (skipped rest)
  where
    by_text : (t : List ℕ) → (length t ≡ 0 → ⊥) → Reading types first text xs [] t → NotSpace t → Stops types first text (length text - length t)
    by_text [] n k w = absurd (n refl)
    by_text (b ∷ t) n k w = stops_at_byte types first text xs [] b t names k w

pub reading_first : (types : List DataType) (kinds : List Kind) (text : List ℕ) (dues : List Due) → Possible types (first_due kinds)
    → dues ≡ first_due kinds → Reading types (first_due kinds) text [] dues text
reading_first types kinds text dues p e = subst (λ d. Reading types (first_due kinds) text [] d text) (sym e) (reading_starts types (first_due kinds) text p)

skip_shorter : (t : List ℕ) → length (skip t) ≤ length t
skip_shorter [] = omega arith
skip_shorter (b ∷ t) = by_test (b == 32) (skip_shorter t)
  where
    by_test : (c : Bool) → length (skip t) ≤ length t → length (if c then skip t else b ∷ t) ≤ suc (length t)
    by_test true h = omega (arith, h)
    by_test false h = omega arith

before_shorter : (m : ℕ) (t : List ℕ) → length (before_mark m t) ≤ length t
before_shorter m t = by_test (m == 32)
  where
    by_test : (c : Bool) → length (if c then t else skip t) ≤ length t
    by_test true = omega arith
    by_test false = skip_shorter t

pub mark_shorter : (m : ℕ) (rest after : List ℕ) → before_mark m rest ≡ m ∷ after → length after < length rest
mark_shorter m rest after e = omega (arith, before_shorter m rest, ap length e)

some_bytes : (w : List ℕ) → IsTrue (is_word w) → 1 ≤ length w
some_bytes [] h = absurd cc
some_bytes (b ∷ w) h = omega arith

pub node_shorter : (types : List DataType) (q : Kind) (rest after : List ℕ) (x : Item) (fields : List Kind) → AreNamed types
    → NodeRead types q rest x fields after → length after < length rest
node_shorter types q rest after x fields names n =
    omega (arith, skip_shorter rest, ap length n.split.parts, length-append n.word after, some_bytes n.word (named_form types q n.word x fields names n.named))

pub end_here : (types : List DataType) (first : List Due) (text : List ℕ) (xs : List Item) (rest t : List ℕ) → Reading types first text xs [] rest
    → t ≡ skip rest → (length t == 0) ≡ true → Whole types first text xs
end_here types first text xs rest t r s e = end_step types first text xs rest r (let k : length t ≡ 0 = grind (arith, nat_tests, e) in ap length (sym s) ∙ k)

pub end_there : (types : List DataType) (first : List Due) (text : List ℕ) (xs : List Item) (rest t : List ℕ) (at : ℕ) → AreNamed types
    → Reading types first text xs [] rest → t ≡ skip rest → (length t == 0) ≡ false → at ≡ length text - length t
    → Stops types first text at
end_there types first text xs rest t at names r s e k =
    subst (Stops types first text) (ap (λ l. length text - length l) (sym s) ∙ sym k)
    (end_stop types first text xs rest names r (λ z. let m : (length t == 0) ≡ true = grind (arith, nat_tests, z, ap length s) in let c : true ≡ false = sym m ∙ e in absurd cc))
