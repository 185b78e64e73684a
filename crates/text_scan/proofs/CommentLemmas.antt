-- A comment is found by counting how many are open; a text begins with one comment at most.
use Rattle.std.proofs.Common.{◌≡◌, ℕ, suc, zero, ◌+◌, ◌-◌, ◌<◌, ◌≤◌, Bool, true, false, cond, List, [], ◌∷◌, ◌++◌, length, get_or, take, drop, sym, refl, ap, ◌∙◌, subst, ⊎_elim, arith}
use Rattle.std.specs.Prelude.{◌&&◌}
use Rattle.std.proofs.lemmas.Bool.{false≢true, cases_lt, and_parts}
use Rattle.std.proofs.lemmas.List.{drop_more, drop-drop, length-drop}
use Rattle.text_scan.specs.Comments.{is_opening, is_closing, opens_comment, closes, is_comment}
use Rattle.text_scan.specs.Reading.{IsNextComment, BeginsNoComment}

-- The first `at` bytes are read, and `depth` comments are open: what closes them closes the comment, and nothing before
-- does.
pub record CommentRead (bytes : List ℕ) (at depth : ℕ) : Type 0 where
  pub within : at ≤ length bytes
  pub deep : depth ≤ at
  pub before : (n : ℕ) → n < at → is_comment (take n bytes) ≡ false
  pub after : (m : ℕ) → is_comment (take (at + m) bytes) ≡ closes depth (take m (drop at bytes))

-- the same as one word, which tactics don't look into
unfoldable pub CommentSoFar : List ℕ → ℕ → ℕ → Type 0
CommentSoFar bytes at depth = CommentRead bytes at depth

comment_begins_by : (a b : ℕ) (bytes : List ℕ) (m : ℕ) → is_opening a b ≡ true → is_comment (take (2 + m) (a ∷ b ∷ bytes)) ≡ closes 1 (take m bytes)
comment_begins_by a b bytes m opens =
    let two : 2 + m ≡ suc (suc m) = omega arith in
    subst (λ n. is_comment (take n (a ∷ b ∷ bytes)) ≡ closes 1 (take m bytes)) (sym two) (ap (λ t. t && closes 1 (take m bytes)) opens)

no_comment_yet : (bytes : List ℕ) (n : ℕ) → n < 2 → is_comment (take n bytes) ≡ false
no_comment_yet bytes zero small = refl
no_comment_yet [] (suc zero) small = refl
no_comment_yet (a ∷ bytes) (suc zero) small = refl
no_comment_yet bytes (suc (suc n)) small = absurd (omega arith)

pub comment_begins : (bytes : List ℕ) → opens_comment bytes ≡ true → CommentSoFar bytes 2 1
unfolding CommentSoFar
comment_begins [] opens = absurd (false≢true opens)
comment_begins (a ∷ []) opens = absurd (false≢true opens)
comment_begins (a ∷ b ∷ bytes) opens = record {
  within = omega arith;
  deep = omega arith;
  before = λ n small. no_comment_yet (a ∷ b ∷ bytes) n small;
  after = λ m. comment_begins_by a b bytes m opens;
}

-- reading on by `j` bytes, which close nothing
advance : (bytes : List ℕ) (at depth j deeper : ℕ) → CommentRead bytes at depth → at + j ≤ length bytes → deeper ≤ at + j
    → ((n : ℕ) → n < j → closes depth (take n (drop at bytes)) ≡ false)
    → ((m : ℕ) → closes depth (take (j + m) (drop at bytes)) ≡ closes deeper (take m (drop j (drop at bytes)))) → CommentRead bytes (at + j) deeper
advance bytes at depth j deeper far within deep none on = record {
  within = within;
  deep = deep;
  before = λ n small.
      ⊎_elim (λ early. far.before n early)
      (λ late.
      let rest : ℕ = n - at in
      let total : n ≡ at + rest = omega arith in
      let inside : rest < j = omega arith in
      ap (λ k. is_comment (take k bytes)) total ∙ far.after rest ∙ none rest inside)
      (cases_lt n at);
  after = λ m.
      let total : (at + j) + m ≡ at + (j + m) = omega arith in
      ap (λ k. is_comment (take k bytes)) total ∙ far.after (j + m) ∙ on m ∙ ap (λ xs. closes deeper (take m xs)) (drop-drop j at bytes);
}

two_left : (bytes : List ℕ) (at : ℕ) → at + 1 < length bytes → drop at bytes ≡ get_or bytes at 0 ∷ get_or bytes (at + 1) 0 ∷ drop (at + 1 + 1) bytes
two_left bytes at left =
    let here : at < length bytes = omega arith in
    drop_more bytes at 0 here ∙ ap (λ xs. get_or bytes at 0 ∷ xs) (drop_more bytes (at + 1) 0 left)

early_none : (d a b : ℕ) (xs : List ℕ) (n : ℕ) → n < 2 → closes (suc d) (take n (a ∷ b ∷ xs)) ≡ false
unfolding closes
early_none d a b xs zero small = refl
early_none d a b xs (suc zero) small = refl
early_none d a b xs (suc (suc n)) small = absurd (omega arith)

opening_on : (d a b : ℕ) (xs : List ℕ) (m : ℕ) → is_opening a b ≡ true → closes (suc d) (take (2 + m) (a ∷ b ∷ xs)) ≡ closes (suc (suc d)) (take m xs)
unfolding closes
opening_on d a b xs m opens =
    let two : 2 + m ≡ suc (suc m) = omega arith in
    subst (λ n. closes (suc d) (take n (a ∷ b ∷ xs)) ≡ closes (suc (suc d)) (take m xs)) (sym two)
    (ap (λ t. cond t (closes (suc (suc d)) (take m xs)) (cond (is_closing a b) (closes d (take m xs)) (closes (suc d) (b ∷ take m xs)))) opens)

closing_on : (d a b : ℕ) (xs : List ℕ) (m : ℕ) → is_opening a b ≡ false → is_closing a b ≡ true
    → closes (suc d) (take (2 + m) (a ∷ b ∷ xs)) ≡ closes d (take m xs)
unfolding closes
closing_on d a b xs m no_open is_close =
    let two : 2 + m ≡ suc (suc m) = omega arith in
    subst (λ n. closes (suc d) (take n (a ∷ b ∷ xs)) ≡ closes d (take m xs)) (sym two)
    (λ i. cond (no_open i) (closes (suc (suc d)) (take m xs)) (cond (is_close i) (closes d (take m xs)) (closes (suc d) (b ∷ take m xs))))

passing_on : (d a b : ℕ) (xs : List ℕ) (m : ℕ) → is_opening a b ≡ false → is_closing a b ≡ false
    → closes (suc d) (take (suc m) (a ∷ b ∷ xs)) ≡ closes (suc d) (take m (b ∷ xs))
unfolding closes
passing_on d a b xs zero no_open is_close = refl
passing_on d a b xs (suc m) no_open is_close =
    λ i. cond (no_open i) (closes (suc (suc d)) (take m xs)) (cond (is_close i) (closes d (take m xs)) (closes (suc d) (b ∷ take m xs)))

module _ (bytes : List ℕ) (at d : ℕ) (far : CommentRead bytes at (suc d)) (left : at + 1 < length bytes) where
  abbrev first : ℕ
  first = get_or bytes at 0

  abbrev second : ℕ
  second = get_or bytes (at + 1) 0

  abbrev rest : List ℕ
  rest = drop (at + 1 + 1) bytes

  none_early : (n : ℕ) → n < 2 → closes (suc d) (take n (drop at bytes)) ≡ false
  none_early n small = ap (λ xs. closes (suc d) (take n xs)) (two_left bytes at left) ∙ early_none d first second rest n small

  rest_is : drop 2 (drop at bytes) ≡ rest
  rest_is = ap (drop 2) (two_left bytes at left)

  opens_at : is_opening first second ≡ true → CommentRead bytes (at + 2) (suc (suc d))
  opens_at opens = advance bytes at (suc d) 2 (suc (suc d)) far (omega arith) (omega (arith, far.deep)) none_early
      (λ m. ap (λ xs. closes (suc d) (take (2 + m) xs)) (two_left bytes at left) ∙ opening_on d first second rest m opens ∙ ap (λ xs. closes (suc (suc d)) (take m xs)) (sym rest_is))

  closes_at : is_opening first second ≡ false → is_closing first second ≡ true → CommentRead bytes (at + 2) d
  closes_at no_open is_close = advance bytes at (suc d) 2 d far (omega arith) (omega (arith, far.deep)) none_early
      (λ m. ap (λ xs. closes (suc d) (take (2 + m) xs)) (two_left bytes at left) ∙ closing_on d first second rest m no_open is_close ∙ ap (λ xs. closes d (take m xs)) (sym rest_is))

  passes_at : is_opening first second ≡ false → is_closing first second ≡ false → CommentRead bytes (at + 1) (suc d)
  passes_at no_open no_close = advance bytes at (suc d) 1 (suc d) far (omega arith) (omega (arith, far.deep)) (λ n small. none_early n (omega arith))
      (λ m.
      let one : 1 + m ≡ suc m = omega arith in
      ap (λ n. closes (suc d) (take n (drop at bytes))) one
      ∙ ap (λ xs. closes (suc d) (take (suc m) xs)) (two_left bytes at left)
      ∙ passing_on d first second rest m no_open no_close
      ∙ ap (λ xs. closes (suc d) (take m xs)) (sym (ap (drop 1) (two_left bytes at left))))

-- ---- what the loop does

pub comment_opens : (bytes : List ℕ) (at depth : ℕ) → CommentSoFar bytes at depth → 0 < depth → 2 ≤ length bytes - at
    → (opens : Bool) → opens ≡ is_opening (get_or bytes at 0) (get_or bytes (at + 1) 0) → opens ≡ true → CommentSoFar bytes (at + 2) (depth + 1)
unfolding CommentSoFar
comment_opens bytes at zero far inside left opens is so = absurd (omega arith)
comment_opens bytes at (suc d) far inside left opens is so =
    let more : suc d + 1 ≡ suc (suc d) = omega arith in
    subst (CommentRead bytes (at + 2)) (sym more) (opens_at bytes at d far (omega arith) (sym is ∙ so))

pub comment_closes : (bytes : List ℕ) (at depth : ℕ) → CommentSoFar bytes at depth → 0 < depth → 2 ≤ length bytes - at
    → (opens : Bool) → opens ≡ is_opening (get_or bytes at 0) (get_or bytes (at + 1) 0) → opens ≡ false
    → (shuts : Bool) → shuts ≡ is_closing (get_or bytes at 0) (get_or bytes (at + 1) 0) → shuts ≡ true → CommentSoFar bytes (at + 2) (depth - 1)
unfolding CommentSoFar
comment_closes bytes at zero far inside left opens is so shuts is_shut so_shut = absurd (omega arith)
comment_closes bytes at (suc d) far inside left opens is so shuts is_shut so_shut =
    let less : suc d - 1 ≡ d = omega arith in
    subst (CommentRead bytes (at + 2)) (sym less) (closes_at bytes at d far (omega arith) (sym is ∙ so) (sym is_shut ∙ so_shut))

pub comment_passes : (bytes : List ℕ) (at depth : ℕ) → CommentSoFar bytes at depth → 0 < depth → 2 ≤ length bytes - at
    → (opens : Bool) → opens ≡ is_opening (get_or bytes at 0) (get_or bytes (at + 1) 0) → opens ≡ false
    → (shuts : Bool) → shuts ≡ is_closing (get_or bytes at 0) (get_or bytes (at + 1) 0) → shuts ≡ false → CommentSoFar bytes (at + 1) depth
unfolding CommentSoFar
comment_passes bytes at zero far inside left opens is so shuts is_shut so_shut = absurd (omega arith)
comment_passes bytes at (suc d) far inside left opens is so shuts is_shut so_shut = passes_at bytes at d far (omega arith) (sym is ∙ so) (sym is_shut ∙ so_shut)

pub comment_ends : (bytes : List ℕ) (at depth : ℕ) → CommentSoFar bytes at depth → depth ≤ 0 → IsNextComment bytes at
unfolding closes CommentSoFar
comment_ends bytes at depth far none =
    let ended : depth ≡ 0 = omega arith in
    let all : at + 0 ≡ at = omega arith in
    record {
      within = far.within;
      comment = ap (λ n. is_comment (take n bytes)) (sym all) ∙ far.after 0 ∙ ap (λ d. closes d []) ended;
    }

short_none : (d : ℕ) (xs : List ℕ) (n : ℕ) → length xs < 2 → closes (suc d) (take n xs) ≡ false
unfolding closes
short_none d [] zero short = refl
short_none d [] (suc n) short = refl
short_none d (a ∷ []) zero short = refl
short_none d (a ∷ []) (suc zero) short = refl
short_none d (a ∷ []) (suc (suc n)) short = refl
short_none d (a ∷ b ∷ xs) n short = absurd (omega arith)

pub comment_open : (bytes : List ℕ) (at depth : ℕ) → CommentSoFar bytes at depth → 0 < depth → length bytes - at < 2 → BeginsNoComment bytes
unfolding CommentSoFar
comment_open bytes at zero far inside short = absurd (omega arith)
comment_open bytes at (suc d) far inside short = record {
  none = λ n.
      ⊎_elim (λ early. far.before n early)
      (λ late.
      let m : ℕ = n - at in
      let total : n ≡ at + m = omega arith in
      ap (λ k. is_comment (take k bytes)) total ∙ far.after m ∙ short_none d (drop at bytes) m (omega (arith, length-drop at bytes)))
      (cases_lt n at);
}

-- ---- one comment at most

-- two fronts of one text that take the same way
same_way : (opens shuts o1 s1 p1 o2 s2 p2 : Bool) (P : Type 0) → cond opens o1 (cond shuts s1 p1) ≡ true → cond opens o2 (cond shuts s2 p2) ≡ true
    → (o1 ≡ true → o2 ≡ true → P) → (s1 ≡ true → s2 ≡ true → P) → (p1 ≡ true → p2 ≡ true → P) → P
same_way true shuts o1 s1 p1 o2 s2 p2 P first second by_opening by_closing by_passing = by_opening first second
same_way false true o1 s1 p1 o2 s2 p2 P first second by_opening by_closing by_passing = by_closing first second
same_way false false o1 s1 p1 o2 s2 p2 P first second by_opening by_closing by_passing = by_passing first second

closed_at_once : (bytes : List ℕ) (n : ℕ) → closes 0 (take n bytes) ≡ true → n ≤ length bytes → n ≡ 0
unfolding closes
closed_at_once bytes zero closed within = refl
closed_at_once [] (suc n) closed within = absurd (omega arith)
closed_at_once (a ∷ bytes) (suc n) closed within = absurd (false≢true closed)

-- an end that closes all comments is the only one
pub one_end : (d : ℕ) (bytes : List ℕ) (n m : ℕ) → closes d (take n bytes) ≡ true → closes d (take m bytes) ≡ true → n ≤ length bytes → m ≤ length bytes → n ≡ m
unfolding closes
one_end zero bytes n m first second n_within m_within = closed_at_once bytes n first n_within ∙ sym (closed_at_once bytes m second m_within)
one_end (suc d) [] zero m first second n_within m_within = absurd (false≢true first)
one_end (suc d) [] (suc n) m first second n_within m_within = absurd (omega arith)
one_end (suc d) (a ∷ []) n m first second n_within m_within = absurd (false≢true (sym (short_none d (a ∷ []) n (omega arith)) ∙ first))
one_end (suc d) (a ∷ b ∷ bytes) zero m first second n_within m_within = absurd (false≢true first)
one_end (suc d) (a ∷ b ∷ bytes) (suc zero) m first second n_within m_within = absurd (false≢true first)
one_end (suc d) (a ∷ b ∷ bytes) (suc (suc n)) zero first second n_within m_within = absurd (false≢true second)
one_end (suc d) (a ∷ b ∷ bytes) (suc (suc n)) (suc zero) first second n_within m_within = absurd (false≢true second)
one_end (suc d) (a ∷ b ∷ bytes) (suc (suc n)) (suc (suc m)) first second n_within m_within =
    same_way (is_opening a b) (is_closing a b)
    (closes (suc (suc d)) (take n bytes)) (closes d (take n bytes)) (closes (suc d) (take (suc n) (b ∷ bytes)))
    (closes (suc (suc d)) (take m bytes)) (closes d (take m bytes)) (closes (suc d) (take (suc m) (b ∷ bytes)))
    (suc (suc n) ≡ suc (suc m)) first second
    (λ x y. ap (λ k. suc (suc k)) (one_end (suc (suc d)) bytes n m x y (omega arith) (omega arith)))
    (λ x y. ap (λ k. suc (suc k)) (one_end d bytes n m x y (omega arith) (omega arith)))
    (λ x y. ap suc (one_end (suc d) (b ∷ bytes) (suc n) (suc m) x y (omega arith) (omega arith)))

one_comment_by : (bytes : List ℕ) (n m : ℕ) → is_comment (take n bytes) ≡ true → is_comment (take m bytes) ≡ true → n ≤ length bytes → m ≤ length bytes → n ≡ m
one_comment_by bytes zero m first second n_within m_within = absurd (false≢true first)
one_comment_by bytes n zero first second n_within m_within = absurd (false≢true second)
one_comment_by [] (suc n) (suc m) first second n_within m_within = absurd (omega arith)
one_comment_by (a ∷ bytes) (suc zero) (suc m) first second n_within m_within = absurd (false≢true first)
one_comment_by (a ∷ bytes) (suc n) (suc zero) first second n_within m_within = absurd (false≢true second)
one_comment_by (a ∷ []) (suc (suc n)) (suc (suc m)) first second n_within m_within = absurd (omega arith)
one_comment_by (a ∷ b ∷ bytes) (suc (suc n)) (suc (suc m)) first second n_within m_within =
    ap (λ k. suc (suc k)) (one_end 1 bytes n m (and_parts (is_opening a b) _ first).1 (and_parts (is_opening a b) _ second).1 (omega arith) (omega arith))

pub one_comment : (bytes : List ℕ) (n m : ℕ) → IsNextComment bytes n → IsNextComment bytes m → n ≡ m
one_comment bytes n m first second = one_comment_by bytes n m first.comment second.comment first.within second.within

-- ---- comments nest

-- `k` open comments more than `suc d`
abbrev deepened : ℕ → ℕ → ℕ
deepened zero d = suc d
deepened (suc k) d = suc (deepened k d)

either_way : (opens shuts x1 x2 x3 y1 y2 y3 answer : Bool) → cond opens x1 (cond shuts x2 x3) ≡ true
    → (x1 ≡ true → y1 ≡ answer) → (x2 ≡ true → y2 ≡ answer) → (x3 ≡ true → y3 ≡ answer) → cond opens y1 (cond shuts y2 y3) ≡ answer
either_way true shuts x1 x2 x3 y1 y2 y3 answer closed by_opening by_closing by_passing = by_opening closed
either_way false true x1 x2 x3 y1 y2 y3 answer closed by_opening by_closing by_passing = by_closing closed
either_way false false x1 x2 x3 y1 y2 y3 answer closed by_opening by_closing by_passing = by_passing closed

-- bytes that close `k` comments leave the others open
leaves_others : (k d : ℕ) (inner rest : List ℕ) → closes k inner ≡ true → closes (deepened k d) (inner ++ rest) ≡ closes (suc d) rest
unfolding closes
leaves_others zero d [] rest closed = refl
leaves_others zero d (a ∷ inner) rest closed = absurd (false≢true closed)
leaves_others (suc k) d [] rest closed = absurd (false≢true closed)
leaves_others (suc k) d (a ∷ []) rest closed = absurd (false≢true closed)
leaves_others (suc k) d (a ∷ b ∷ inner) rest closed =
    either_way (is_opening a b) (is_closing a b)
    (closes (suc (suc k)) inner) (closes k inner) (closes (suc k) (b ∷ inner))
    (closes (suc (suc (deepened k d))) (inner ++ rest)) (closes (deepened k d) (inner ++ rest)) (closes (suc (deepened k d)) (b ∷ inner ++ rest))
    (closes (suc d) rest) closed
    (λ e. leaves_others (suc (suc k)) d inner rest e)
    (λ e. leaves_others k d inner rest e)
    (λ e. leaves_others (suc k) d (b ∷ inner) rest e)

pub comment_inside : (depth : ℕ) (comment rest : List ℕ) → is_comment comment ≡ true → closes (suc depth) (comment ++ rest) ≡ closes (suc depth) rest
unfolding closes
comment_inside depth [] rest whole = absurd (false≢true whole)
comment_inside depth (a ∷ []) rest whole = absurd (false≢true whole)
comment_inside depth (a ∷ b ∷ inner) rest whole =
    let parts = and_parts (is_opening a b) (closes 1 inner) whole in
    ap (λ t. cond t (closes (suc (suc depth)) (inner ++ rest)) (cond (is_closing a b) (closes depth (inner ++ rest)) (closes (suc depth) (b ∷ (inner ++ rest))))) parts.0
    ∙ leaves_others 1 depth inner rest parts.1

-- for the loop over a comment
pub ruleset comment_turns = (comment_begins, comment_opens, comment_closes, comment_passes, comment_ends, comment_open)
