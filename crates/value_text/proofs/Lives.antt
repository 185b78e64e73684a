-- What is due has a text: its pieces, each after a space.
use Rattle.std.proofs.Common.{◌≡◌, ℕ, zero, suc, ◌+◌, ◌%◌, ◌^◌, ◌<◌, ◌≤◌, true, false, List, [], ◌∷◌, ◌++◌, Some, refl, sym, subst, arith, inl, inr}
use Rattle.std.specs.Prelude.{IsTrue, slice_get, ℤ, pos, negsuc, decimal}
use Rattle.std.proofs.lemmas.Bool.Decides.{nat_tests}
use Rattle.std.proofs.lemmas.Fmt.{decimal_by_steps}
use Rattle.std.specs.Fmt.{signed_decimal}
use Rattle.std.specs.List.{list_all, AllByRecursion}
use Rattle.camelot_values.specs.Value as value
use Rattle.camelot_values.specs.Value.{Value, Values, part_count, IsInt32}
use Rattle.camelot_values.specs.Kinds.{DataType, Constructor, constructor, constructors, constructor_name}
use Rattle.camelot_values.specs.Names.{is_upper, is_tail, IsUpperName}
use Rattle.camelot_values.specs.Typing.{Fits, FitAll}
use Rattle.camelot_values.specs.declared.kinds.Kind.{Kind}
use Rattle.camelot_values.specs.declared.value.Item.{Item}
use Rattle.value_text.specs.Grammar as g
use Rattle.value_text.specs.Grammar.{Piece, pieces, further_pieces, Spelled, Ends, IsNodeText, IsIntText, is_word, is_word_byte}
use Rattle.value_text.specs.Printing.{node_text}
use Rattle.value_text.specs.Dues.{Due}
use Rattle.value_text.specs.Dues as due
use Rattle.value_text.specs.Due.{Comes}
use Rattle.value_text.specs.Grammar.{AreNamed}
use Rattle.value_text.proofs.Words.{and_parts, and_both, word_all}
use Rattle.value_text.proofs.Steps.{put_word}
use Rattle.value_text.proofs.Comings.{some_is}

-- the words of all pieces are words
abbrev pub AllFine : (ℕ → List ℕ) → List Piece → Type 0
AllFine names [] = Unit {0}
AllFine names (g.Mark b ∷ ps) = AllFine names ps
AllFine names (g.Node x ∷ ps) = IsTrue (is_word (node_text names x)) × IsNodeText names x (node_text names x) × AllFine names ps

tail_fine : (b : ℕ) → is_tail b ≡ true → is_word_byte b ≡ true
tail_fine b h = grind (arith, nat_tests, h)

tails_fine : (bs : List ℕ) → list_all is_tail bs ≡ true → list_all is_word_byte bs ≡ true
tails_fine [] h = refl
tails_fine (b ∷ bs) h = let p = and_parts (is_tail b) _ h in and_both (is_word_byte b) _ (tail_fine b p.0) (tails_fine bs p.1)

upper_tail : (b : ℕ) → is_upper b ≡ true → is_tail b ≡ true
upper_tail b h = grind (arith, nat_tests, h)

pub name_fine : (w : List ℕ) → IsUpperName w → IsTrue (is_word w)
name_fine [] n = absurd (let e : false ≡ true = n.form in absurd cc)
name_fine (b ∷ w) n = let p = and_parts (is_upper b) _ n.form in and_both (is_word_byte b) _ (tail_fine b (upper_tail b p.0)) (tails_fine w p.1)

pub at_place : (P : Constructor → Type 0) (cs : List Constructor) (c : ℕ) (con : Constructor) → AllByRecursion P cs → slice_get cs c ≡ Some con → P con
at_place P [] c con a e = absurd cc
at_place P (x ∷ cs) zero con a e = let s : x ≡ con = cc in subst P s a.0
at_place P (x ∷ cs) (suc c) con a e = at_place P cs c con a.1 e

pub named_con : (types : List DataType) (c : ℕ) (con : Constructor) → constructor types c ≡ Some con → constructor_name types c ≡ con.name
named_con types c con e = rw e refl

digit_fine : (n : ℕ) → n < 10 → is_word_byte (48 + n) ≡ true
digit_fine n h = grind (arith, nat_tests, h)

one_more_fine : (ds : List ℕ) (c : ℕ) → list_all is_word_byte ds ≡ true → is_word_byte c ≡ true → list_all is_word_byte (ds ++ c ∷ []) ≡ true
one_more_fine [] c h k = and_both (is_word_byte c) true k refl
one_more_fine (d ∷ ds) c h k = let p = and_parts (is_word_byte d) _ h in and_both (is_word_byte d) _ p.0 (one_more_fine ds c p.1 k)

word_more : (ds : List ℕ) (c : ℕ) → is_word ds ≡ true → is_word_byte c ≡ true → is_word (ds ++ c ∷ []) ≡ true
word_more [] c h k = absurd cc
word_more (d ∷ ds) c h k = one_more_fine (d ∷ ds) c h k

pub decimal_fine : (n : ℕ) → n < 2 ^ 64 → is_word (decimal n) ≡ true
decimal_fine n h =
    decimal_by_steps (λ n ds. is_word ds ≡ true) (λ n k. and_both (is_word_byte (48 + n)) true (digit_fine n k) refl)
    (λ n ds k w. word_more ds (48 + n % 10) w (digit_fine (n % 10) (omega arith))) n h

pub int_fine : (z : ℤ) → IsInt32 z → IsTrue (is_word (signed_decimal z))
int_fine (pos n) h = decimal_fine n (let k : n < 2147483648 = omega (arith, h) in omega (arith, k))
int_fine (negsuc n) h =
    let k : suc n ≤ 2147483648 = omega (arith, h) in
    word_all (decimal (suc n)) (decimal_fine (suc n) (omega (arith, k)))

pub int_text : (z : ℤ) → IsIntText (signed_decimal z) z
int_text (pos n) = record { size = n; is = inl (refl, refl) }
int_text (negsuc n) = record { size = suc n; is = inr (refl, refl) }

pub con_fine : (types : List DataType) (c : ℕ) (con : Constructor) → AreNamed types → constructor types c ≡ Some con
    → IsTrue (is_word (constructor_name types c))
con_fine types c con names e = subst (λ w. IsTrue (is_word w)) (sym (named_con types c con e)) (name_fine con.name (at_place (λ c. IsUpperName c.name) (constructors types) c con names e))

pub first_part : (types : List DataType) (qs : List Kind) (v : Value) (vs : Values) → FitAll types qs (value.And v vs)
    → (q : Kind) × (rest : List Kind) × Fits types q v × FitAll types rest vs
first_part types [] v vs f = absurd f
first_part types (q ∷ qs) v vs f = (q, qs, f.0, f.1)

mutual
  fine_value : (types : List DataType) → AreNamed types → (v : Value) (q : Kind) (ps : List Piece) → Fits types q v
      → AllFine (constructor_name types) ps → AllFine (constructor_name types) (pieces v ps)
  fine_value types names (value.Int z) q ps f h = (int_fine z f.1, int_text z, h)
  fine_value types names (value.Flag true) q ps f h = (refl, refl, h)
  fine_value types names (value.Flag false) q ps f h = (refl, refl, h)
  fine_value types names value.Dia q ps f h = (refl, refl, h)
  fine_value types names (value.Con c value.End) q ps f h =
      let (con, is, fit) = some_is (constructor types c) (λ con. FitAll types con.fields value.End) f.1 in (con_fine types c con names is, refl, h)
  fine_value types names (value.Con c (value.And v vs)) q ps f h =
      let (con, is, fit) = some_is (constructor types c) (λ con. FitAll types con.fields (value.And v vs)) f.1 in
      let (p, rest, first, others) = first_part types con.fields v vs fit in
      (con_fine types c con names is, refl, fine_value types names v p (further_pieces vs ps) first (fine_further types names vs rest ps others h))

  fine_further : (types : List DataType) → AreNamed types → (vs : Values) (qs : List Kind) (ps : List Piece) → FitAll types qs vs
      → AllFine (constructor_name types) ps → AllFine (constructor_name types) (further_pieces vs ps)
  fine_further types names value.End qs ps f h = h
  fine_further types names (value.And v vs) qs ps f h =
      let (p, rest, first, others) = first_part types qs v vs f in fine_value types names v p (further_pieces vs ps) first (fine_further types names vs rest ps others h)

pub fine_comes : (types : List DataType) → AreNamed types → (ds : List Due) (ps : List Piece) (xs : List Item) → Comes types ds ps xs
    → AllFine (constructor_name types) ps
fine_comes types names [] ps xs c = subst (AllFine (constructor_name types)) (sym c.0) tt
fine_comes types names (due.Mark b ∷ ds) ps xs (more, e, c) = subst (AllFine (constructor_name types)) (sym e) (fine_comes types names ds more xs c)
fine_comes types names (due.Value q ∷ ds) ps xs (v, more, ys, f, p, x, c) = subst (AllFine (constructor_name types)) (sym p) (fine_value types names v q more f (fine_comes types names ds more ys c))

-- the pieces, each after a space
abbrev pub spaced : (ℕ → List ℕ) → List Piece → List ℕ
spaced names [] = []
spaced names (g.Mark b ∷ ps) = 32 ∷ b ∷ spaced names ps
spaced names (g.Node x ∷ ps) = 32 ∷ (node_text names x ++ spaced names ps)

pub spaced_ends : (names : ℕ → List ℕ) (ps : List Piece) → Ends (spaced names ps)
spaced_ends names [] = tt
spaced_ends names (g.Mark b ∷ ps) = refl
spaced_ends names (g.Node x ∷ ps) = refl

pub spelled_spaced : (names : ℕ → List ℕ) (ps : List Piece) → AllFine names ps → Spelled names ps (spaced names ps)
spelled_spaced names [] a = refl
spelled_spaced names (g.Mark b ∷ ps) a = inr (refl, inl (record { rest = spaced names ps; parts = refl; next = spelled_spaced names ps a }))
spelled_spaced names (g.Node x ∷ ps) a =
    inr (
      refl,
      put_word (IsNodeText names x) (Spelled names ps) (node_text names x) (spaced names ps)
          (record { word = node_text names x; rest = spaced names ps; parts = refl; form = a.0; ends = spaced_ends names ps; is = a.1; next = spelled_spaced names ps a.2 }),
    )
