-- Words as far as they go.
use Rattle.std.proofs.Common.{◌≡◌, ℕ, Bool, true, false, List, [], ◌∷◌, ◌++◌, refl, sym, ap, ◌∙◌, subst, inl, inr}
use Rattle.std.specs.Prelude.{◌⊎◌, IsTrue, ◌&&◌}
use Rattle.std.specs.List.{list_all}
use Rattle.value_text.specs.Grammar.{is_word_byte, is_word, Ends}

pub and_parts : (a b : Bool) → (a && b) ≡ true → (a ≡ true) × (b ≡ true)
and_parts true b h = (refl, h)
and_parts false b h = absurd cc

pub and_both : (a b : Bool) → a ≡ true → b ≡ true → (a && b) ≡ true
and_both true b h k = k
and_both false b h k = absurd cc

pub true_false : (b : Bool) → b ≡ true → b ≡ false → ⊥
true_false b h k = let e : true ≡ false = sym h ∙ k in absurd cc

pub word_all : (w : List ℕ) → IsTrue (is_word w) → IsTrue (list_all is_word_byte w)
word_all [] h = absurd cc
word_all (b ∷ w) h = h

-- the rest of two equal lists
pub same_tail : (a b : ℕ) (xs ys : List ℕ) → a ∷ xs ≡ b ∷ ys → (a ≡ b) × (xs ≡ ys)
same_tail a b xs ys e = (cc, cc)

-- two words as far as they go, in front of rests
pub word_split : (w v r s : List ℕ) → IsTrue (list_all is_word_byte w) → IsTrue (list_all is_word_byte v) → Ends r → Ends s → w ++ r ≡ v ++ s
    → (w ≡ v) × (r ≡ s)
word_split [] [] r s a b c d e = (refl, e)
word_split [] (y ∷ v) r s a b c d e =
    let k : Ends (y ∷ (v ++ s)) = subst Ends e c in absurd (true_false (is_word_byte y) (and_parts (is_word_byte y) _ b).0 k)
word_split (x ∷ w) [] r s a b c d e =
    let k : Ends (x ∷ (w ++ r)) = subst Ends (sym e) d in absurd (true_false (is_word_byte x) (and_parts (is_word_byte x) _ a).0 k)
word_split (x ∷ w) (y ∷ v) r s a b c d e =
    let t = same_tail x y (w ++ r) (v ++ s) e in
    let p = word_split w v r s (and_parts (is_word_byte x) _ a).1 (and_parts (is_word_byte y) _ b).1 c d t.1 in
    (ap (λ l. x ∷ l) p.0 ∙ ap (λ b. b ∷ v) t.0, p.1)

-- word bytes in front are bytes of the word
pub record Longer (front word : List ℕ) : Type 0 where
  pub more : List ℕ
  pub is : word ≡ front ++ more

pub word_front : (f v q s : List ℕ) → IsTrue (list_all is_word_byte f) → Ends s → f ++ q ≡ v ++ s → Longer f v
word_front [] v q s a d e = record { more = v; is = refl }
word_front (x ∷ f) [] q s a d e =
    let k : Ends (x ∷ (f ++ q)) = subst Ends (sym e) d in absurd (true_false (is_word_byte x) (and_parts (is_word_byte x) _ a).0 k)
word_front (x ∷ f) (y ∷ v) q s a d e =
    let t = same_tail x y (f ++ q) (v ++ s) e in
    let l = word_front f v q s (and_parts (is_word_byte x) _ a).1 d t.1 in
    record { more = l.more; is = ap (λ l. y ∷ l) l.is ∙ ap (λ b. b ∷ (f ++ l.more)) (sym t.0) }

-- a front of a word and a rest is a front of the word, or goes beyond it
pub record Beyond (w r front : List ℕ) : Type 0 where
  pub byte : ℕ
  pub more : List ℕ
  pub last : List ℕ
  pub front_is : front ≡ w ++ byte ∷ more
  pub rest_is : r ≡ byte ∷ (more ++ last)

pub front_cases : (w r front q : List ℕ) → w ++ r ≡ front ++ q → Longer front w ⊎ Beyond w r front
front_cases w r [] q e = inl (record { more = w; is = refl })
front_cases [] r (c ∷ front) q e = inr (record { byte = c; more = front; last = q; front_is = refl; rest_is = e })
front_cases (x ∷ w) r (c ∷ front) q e = behind x c (same_tail x c (w ++ r) (front ++ q) e).0 (front_cases w r front q (same_tail x c (w ++ r) (front ++ q) e).1)
  where
    behind : (x c : ℕ) → x ≡ c → Longer front w ⊎ Beyond w r front → Longer (c ∷ front) (x ∷ w) ⊎ Beyond (x ∷ w) r (c ∷ front)
    behind x c s (inl l) = inl (record { more = l.more; is = ap (λ l. x ∷ l) l.is ∙ ap (λ b. b ∷ (front ++ l.more)) s })
    behind x c s (inr b) = inr (record { byte = b.byte; more = b.more; last = b.last; front_is = ap (λ l. c ∷ l) b.front_is ∙ ap (λ y. y ∷ (w ++ b.byte ∷ b.more)) (sym s); rest_is = b.rest_is })

pub all_front : (f m : List ℕ) → IsTrue (list_all is_word_byte (f ++ m)) → IsTrue (list_all is_word_byte f)
all_front [] m h = refl
all_front (x ∷ f) m h = let p = and_parts (is_word_byte x) _ h in and_both (is_word_byte x) _ p.0 (all_front f m p.1)
