-- A token of a text is one that the grammar may have.
use Rattle.std.proofs.Common.{◌≡◌, ℕ, ◌≤◌, ◌==◌, Bool, true, false, ◌||◌, if◌then◌else◌, IsTrue, List, [], ◌∷◌, ◌++◌, slice_range, refl, sym, ap, subst, arith}
use Rattle.std.specs.List.{list_any}
use Rattle.std.specs.Str.{bytes_eq}
use Rattle.text_scan.specs.Forms.{is_word, is_symbol, words, symbols, number_value, is_long_number, is_long_name, HasForm}
use Rattle.text_scan.specs.Reading.{IsSliceOf}
use Rattle.text_scan.specs.declared.tokens.TokenKind.{TokenKind}
use Rattle.text_scan.specs.declared.tokens.TokenKind.TheVariants as kind
use Rattle.text_scan.specs.declared.tokens.Token.{Token}
use Rattle.camelot_grammar.specs.declared.lexeme.Mark.{Mark}
use Rattle.camelot_grammar.specs.declared.lexeme.Lexeme.TheVariants as lexeme
use Rattle.camelot_grammar.specs.Lexemes.{Written, word_marks, sign_marks, marks, mark_in, mark_of, lexeme_of, lexeme_at, IsReal}

texts : List Written → List (List ℕ)
texts [] = []
texts (w ∷ ws) = w.text ∷ texts ws

-- none of these is the end of the text
AreMarks : List Written → Type 0
AreMarks [] = Unit {0}
AreMarks (w ∷ ws) = ((l : ℕ) → IsReal (lexeme.Mark w.mark l)) × AreMarks ws

choose : (b : Bool) (m n : Mark) (l : ℕ) → IsReal (lexeme.Mark m l) → (b ≡ false → IsReal (lexeme.Mark n l)) → IsReal (lexeme.Mark (if b then m else n) l)
choose true m n l h k = h
choose false m n l h k = k refl

any_past : (b c : Bool) → (b || c) ≡ true → b ≡ false → c ≡ true
any_past true c h e = absurd cc
any_past false c h e = h

found : (ws : List Written) (text : List ℕ) (l : ℕ) → AreMarks ws → list_any (λ w. bytes_eq w text) (texts ws) ≡ true → IsReal (lexeme.Mark (mark_in ws text) l)
unfolding AreMarks texts
found [] text l h e = absurd cc
found (w ∷ ws) text l h e = choose (bytes_eq w.text text) w.mark (mark_in ws text) l (h.0 l) (λ q. found ws text l h.1 (any_past _ _ e q))

or_second : (b c : Bool) → c ≡ true → (b || c) ≡ true
or_second true c h = refl
or_second false c h = h

any_second : (xs ys : List (List ℕ)) (text : List ℕ) → list_any (λ w. bytes_eq w text) ys ≡ true → list_any (λ w. bytes_eq w text) (xs ++ ys) ≡ true
any_second [] ys text h = h
any_second (x ∷ xs) ys text h = or_second (bytes_eq x text) _ (any_second xs ys text h)

any_first : (xs ys : List (List ℕ)) (text : List ℕ) → list_any (λ w. bytes_eq w text) xs ≡ true → list_any (λ w. bytes_eq w text) (xs ++ ys) ≡ true
any_first [] ys text h = absurd cc
any_first (x ∷ xs) ys text h = first_or (bytes_eq x text) _ _ h (any_first xs ys text)
  where
    first_or : (b c d : Bool) → (b || c) ≡ true → (c ≡ true → d ≡ true) → (b || d) ≡ true
    first_or true c d h k = refl
    first_or false c d h k = k h

texts_append : (xs ys : List Written) → texts (xs ++ ys) ≡ texts xs ++ texts ys
unfolding texts
texts_append [] ys = refl
texts_append (x ∷ xs) ys = ap (λ zs. x.text ∷ zs) (texts_append xs ys)

marks_real : AreMarks (word_marks ++ sign_marks)
unfolding AreMarks
marks_real = search (tt)

word_real : (bytes : List ℕ) (l : ℕ) → IsTrue (is_word bytes) → IsReal (lexeme.Mark (mark_of bytes) l)
unfolding is_word words mark_of marks texts
word_real bytes l h = found (word_marks ++ sign_marks) bytes l marks_real
    (subst (λ ts. list_any (λ w. bytes_eq w bytes) ts ≡ true) (sym (texts_append word_marks sign_marks)) (any_first (texts word_marks) (texts sign_marks) bytes h))

sign_real : (bytes : List ℕ) (l : ℕ) → IsTrue (is_symbol bytes) → IsReal (lexeme.Mark (mark_of bytes) l)
unfolding is_symbol symbols mark_of marks texts
sign_real bytes l h = found (word_marks ++ sign_marks) bytes l marks_real
    (subst (λ ts. list_any (λ w. bytes_eq w bytes) ts ≡ true) (sym (texts_append word_marks sign_marks)) (any_second (texts word_marks) (texts sign_marks) bytes h))

number_real : (n l : ℕ) (b : Bool) → (n == 2147483648) ≡ b → n ≤ 2147483648 → IsReal (if b then lexeme.Greatest l else lexeme.Number n l)
number_real n l true e h = tt
number_real n l false e h = grind (arith, e, h)

real_of : (k : TokenKind) (bytes : List ℕ) (l : ℕ) → HasForm k bytes → is_long_number k bytes ≡ false → is_long_name k bytes ≡ false
    → IsReal (lexeme_of k bytes l)
unfolding lexeme_of is_long_number is_long_name
real_of kind.Lower bytes l h i j = (h, grind (arith, j))
real_of kind.Upper bytes l h i j = (h, grind (arith, j))
real_of kind.TypeVar bytes l h i j = tt
real_of kind.Number bytes l h i j = number_real (number_value bytes) l (number_value bytes == 2147483648) refl (grind (arith, i))
real_of kind.Keyword bytes l h i j = word_real bytes l h
real_of kind.Symbol bytes l h i j = sign_real bytes l h

pub slice_real : (text : List ℕ) (token : Token) → IsSliceOf text token → IsReal (lexeme_at text token)
slice_real text token s = real_of token.kind (slice_range text token.start token.end) token.line s.form s.no_long_number s.no_long_name
