-- Names that are known by their keys.
use Rattle.std.proofs.Common.{◌≡◌, ◌≤◌, ◌<◌, ◌+◌, ℕ, suc, Bool, true, false, cond, List, [], ◌∷◌, ◌++◌, length, take, map, get_or, IsTrue, refl, sym, ap, subst, ◌∙◌, arith, Bor}
use Rattle.std.specs.Prelude.{◌||◌, ◌&&◌, not}
use Rattle.std.specs.List.{list_any, slice_index}
use Rattle.std.specs.BTreeSet.{BTreeSet, UpdatesBy}
use Rattle.std.specs.Map.{IsKeyTest, AreApart}
use Rattle.std.specs.Set.{KeepsOthers}
use Rattle.std.specs.Str.{bytes_eq}
use Rattle.std.specs.declared.cmp.Ordering.{Ordering}
use Rattle.std.specs.Int.{from_be_bytes, w64}
use Rattle.std.specs.Ordering.{is_eq, ordering_then, eq_by_cmp, nat_cmp}
use Rattle.std.specs.Cmp.{IsTotalOrder, eq_by_cmp_equiv, then_total, on_total, nat_cmp_total, tied_then, second_so}
use Rattle.std.specs.Cmp.Lexicographic.{slice_cmp, nat_list_cmp_total, nat_list_eq_equiv, bytes_decides, texts_ties}
use Rattle.std.proofs.lemmas.List.{map-append, length-map, length-append, get_or-map, take-append-le}
use Rattle.std.proofs.Math.Seq.{take-suc, take-length}
use Rattle.std.proofs.lemmas.Bool.Decides.{nat_tests}
use Rattle.camelot_values.specs.Names.{stands}
use Rattle.job_script.specs.Known.{number_of, back, against, has_key, AreKeys, AreFiled, is_past, AreUpTo, AreKept}

-- the eight bytes that are read
pub number_of_bytes : (name : List ℕ) (n a b c d e f g h : ℕ) → n ≡ from_be_bytes w64 (a ∷ b ∷ c ∷ d ∷ e ∷ f ∷ g ∷ h ∷ [])
    → a ≡ slice_index name 0 → b ≡ slice_index name 1 → c ≡ slice_index name 2 → d ≡ slice_index name 3 → e ≡ slice_index name 4 → f ≡ slice_index name 5
    → g ≡ slice_index name 6 → h ≡ slice_index name 7 → n ≡ number_of name
unfolding number_of
number_of_bytes name n a b c d e f g h is p0 p1 p2 p3 p4 p5 p6 p7 = is ∙ (λ i. from_be_bytes w64 (p0 i ∷ p1 i ∷ p2 i ∷ p3 i ∷ p4 i ∷ p5 i ∷ p6 i ∷ p7 i ∷ []))

-- ---- keys

-- how two keys compare
abbrev key_cmp : ℕ × Bor (List ℕ) → ℕ × Bor (List ℕ) → Ordering
key_cmp x y = ordering_then (nat_cmp x.0 y.0) (slice_cmp nat_cmp x.1.now y.1.now)

abbrev plain_cmp : ℕ × List ℕ → ℕ × List ℕ → Ordering
plain_cmp x y = ordering_then (nat_cmp x.0 y.0) (slice_cmp nat_cmp x.1 y.1)

plain_total : IsTotalOrder plain_cmp
plain_total = then_total (on_total (λ x. x.0) nat_cmp_total) (on_total (λ x. x.1) nat_list_cmp_total)

is_test : (n : ℕ) (name : List ℕ) → IsKeyTest (eq_by_cmp key_cmp) (λ key. is_eq (against n name key))
is_test n name x y = (eq_by_cmp_equiv plain_total).congr (n, name) (x.0, x.1.now) (y.0, y.1.now)

is_name : (name word : List ℕ) → is_eq (slice_cmp nat_cmp name word) ≡ bytes_eq name word
is_name name word = sym (texts_ties name word)

other_name : (w name word : List ℕ) → bytes_eq w name ≡ false → bytes_eq w word ≡ true → bytes_eq name word ≡ false
other_name w name word n y = nat_list_eq_equiv.symm name word ∙ sym (nat_list_eq_equiv.congr w word name y) ∙ n

and_false : (a : Bool) → (a && false) ≡ false
and_false true = refl
and_false false = refl

are_apart : (n m : ℕ) (w name : List ℕ) → bytes_eq w name ≡ false → AreApart (λ key. is_eq (against n w key)) (λ key. is_eq (against m name key))
are_apart n m w name apart key h =
    let same : bytes_eq w key.1.now ≡ true = sym (is_name w key.1.now) ∙ second_so (is_eq (nat_cmp n key.0)) _ (tied_then (nat_cmp n key.0) (slice_cmp nat_cmp w key.1.now) ∙ h) in
    let other : is_eq (slice_cmp nat_cmp name key.1.now) ≡ false = is_name name key.1.now ∙ other_name w name key.1.now apart same in
    sym (tied_then (nat_cmp m key.0) (slice_cmp nat_cmp name key.1.now)) ∙ ap (λ b. is_eq (nat_cmp m key.0) && b) other ∙ and_false (is_eq (nat_cmp m key.0))

others_stay : {K : Type 0} (eq : K → K → Bool) (test : K → Bool) (old new : List K) → KeepsOthers eq test old new
    → (other : K → Bool) → IsKeyTest eq other → AreApart test other → list_any other new ≡ list_any other old
unfolding KeepsOthers
others_stay eq test old new h = h

stands_added : (ws : List (List ℕ)) (w name : List ℕ) → stands (ws ++ w ∷ []) name ≡ cond (bytes_eq w name) true (stands ws name)
stands_added [] w name = by (bytes_eq name w) (bytes_eq w name) (nat_list_eq_equiv.symm name w)
  where
    by : (a b : Bool) → a ≡ b → (a || false) ≡ cond b true false
    by true true e = refl
    by true false e = absurd cc
    by false true e = absurd cc
    by false false e = refl
stands_added (v ∷ ws) w name = ap (λ b. bytes_eq name v || b) (stands_added ws w name) ∙ by (bytes_eq name v) (bytes_eq w name) (stands ws name)
  where
    by : (a b c : Bool) → (a || cond b true c) ≡ cond b true (a || c)
    by true true c = refl
    by true false c = refl
    by false true c = refl
    by false false c = refl

-- one more name, with its key
key_added : (old new : BTreeSet (ℕ × Bor (List ℕ))) (ws : List (List ℕ)) (w : Bor (List ℕ)) (n : ℕ) → AreKeys old.keys ws → n ≡ number_of (back w.now)
    → UpdatesBy key_cmp (λ key. against n w.now key) old new true → AreKeys new.keys (ws ++ w.now ∷ [])
key_added old new ws w n kept e updates name = by (bytes_eq w.now name) refl ∙ sym (stands_added ws w.now name)
  where
    by : (b : Bool) → bytes_eq w.now name ≡ b → has_key new.keys name ≡ cond b true (stands ws name)
    by true same =
        subst (λ l. has_key new.keys l ≡ true) ((bytes_decides w.now name).0 same)
        (sym (ap (λ m. list_any (λ key. is_eq (against m w.now key)) new.keys) e) ∙ updates.1)
    by false apart =
        others_stay _ _ old.keys new.keys updates.3 (λ key. is_eq (against (number_of (back name)) name key)) (is_test (number_of (back name)) name) (are_apart n (number_of (back name)) w.now name apart)
        ∙ kept name

-- ---- names whose keys are filed later

-- the next word's key
pub key_filed : (old new : BTreeSet (ℕ × Bor (List ℕ))) (ws : List (Bor (List ℕ))) (d : Bor (List ℕ)) (n filed : ℕ)
    → AreFiled old.keys (map (λ word. word.now) ws) filed → filed < length ws → n ≡ number_of (back (get_or ws filed d).now)
    → UpdatesBy key_cmp (λ key. against n (get_or ws filed d).now key) old new true → AreFiled new.keys (map (λ word. word.now) ws) (filed + 1)
key_filed old new ws d n filed kept few e updates =
    let names : List (List ℕ) = map (λ word. word.now) ws in
    let w : Bor (List ℕ) = get_or ws filed d in
    let long : length names ≡ length ws = length-map ws (λ word. word.now) in
    let below : filed < length names = omega (arith, few, long) in
    let next : get_or names filed d.now ≡ w.now = get_or-map (λ word. word.now) ws filed d d.now few in
    let more : take (suc filed) names ≡ take filed names ++ w.now ∷ [] = take-suc names filed d.now below ∙ ap (λ word. take filed names ++ word ∷ []) next in
    let longer : filed + 1 ≡ suc filed = omega arith in
    record {
      are = subst (AreKeys new.keys) (sym (ap (λ m. take m names) longer ∙ more)) (key_added old new (take filed names) w n kept.are e updates);
      within = omega (arith, below);
    }

-- all are filed
all_filed : (keys : List (ℕ × Bor (List ℕ))) (ws : List (List ℕ)) (filed : ℕ) → AreFiled keys ws filed → length ws ≤ filed → AreKeys keys ws
all_filed keys ws filed kept all =
    let same : filed ≡ length ws = omega (arith, kept.within, all) in
    subst (AreKeys keys) (ap (λ m. take m ws) same ∙ take-length ws) kept.are

-- a further word whose key waits
waiting_added : (keys : List (ℕ × Bor (List ℕ))) (ws : List (List ℕ)) (w : List ℕ) (filed : ℕ) → AreFiled keys ws filed → AreFiled keys (ws ++ w ∷ []) filed
waiting_added keys ws w filed kept =
    let long : length (ws ++ w ∷ []) ≡ length ws + 1 = length-append ws (w ∷ []) in
    record {
      are = subst (AreKeys keys) (sym (take-append-le filed ws (w ∷ []) kept.within)) kept.are;
      within = omega (arith, long, kept.within);
    }

-- a further word whose key is filed at once
filed_added : (old new : BTreeSet (ℕ × Bor (List ℕ))) (ws : List (List ℕ)) (w : Bor (List ℕ)) (n filed : ℕ) → AreKeys old.keys ws → filed ≡ length ws
    → n ≡ number_of (back w.now) → UpdatesBy key_cmp (λ key. against n w.now key) old new true → AreFiled new.keys (ws ++ w.now ∷ []) (filed + 1)
filed_added old new ws w n filed kept all e updates =
    let long : length (ws ++ w.now ∷ []) ≡ length ws + 1 = length-append ws (w.now ∷ []) in
    let whole : filed + 1 ≡ length (ws ++ w.now ∷ []) = omega (arith, long, all) in
    record {
      are = subst (AreKeys new.keys) (sym (ap (λ m. take m (ws ++ w.now ∷ [])) whole ∙ take-length (ws ++ w.now ∷ []))) (key_added old new ws w n kept e updates);
      within = omega (arith, whole);
    }

-- ---- names past all others

-- no name is past itself
not_past_itself : (size number : ℕ) → is_past size number size number ≡ false
unfolding is_past
not_past_itself size number = grind (arith, nat_tests)

-- past a name that is past all others there is none of those
past_all : (size number longest greatest further more : ℕ) → is_past size number longest greatest ≡ false → is_past further more longest greatest ≡ true
    → is_past size number further more ≡ false
unfolding is_past
past_all size number longest greatest further more here past = grind (arith, nat_tests, here, past)

-- a name that is past all words doesn't stand
pub past_is_new : (ws : List (List ℕ)) (name : List ℕ) (size n longest greatest : ℕ) → AreUpTo longest greatest ws → size ≡ length name → n ≡ number_of (back name)
    → is_past size n longest greatest ≡ true → stands ws name ≡ false
past_is_new ws name size n longest greatest most long e past = by (stands ws name) refl
  where
    none : true ≡ false → stands ws name ≡ false
    none h = absurd cc

    by : (b : Bool) → stands ws name ≡ b → stands ws name ≡ false
    by true stood = none (sym past ∙ (λ i. is_past (long i) (e i) longest greatest) ∙ most name stood)
    by false new = new

up_to_added : (ws : List (List ℕ)) (w : List ℕ) (longest greatest : ℕ) → ((word : List ℕ) → IsTrue (stands ws word) → is_past (length word) (number_of (back word)) longest greatest ≡ false)
    → is_past (length w) (number_of (back w)) longest greatest ≡ false → AreUpTo longest greatest (ws ++ w ∷ [])
up_to_added ws w longest greatest most last word stood = by (bytes_eq w word) refl
  where
    by : (b : Bool) → bytes_eq w word ≡ b → is_past (length word) (number_of (back word)) longest greatest ≡ false
    by true same = subst (λ v. is_past (length v) (number_of (back v)) longest greatest ≡ false) ((bytes_decides w word).0 same) last
    by false apart = most word (sym (stands_added ws w word ∙ ap (λ b. cond b true (stands ws word)) apart) ∙ stood)

-- ---- the same, as the code does it

names_longer : (ws more : List (Bor (List ℕ))) (w : Bor (List ℕ)) → more ≡ ws ++ w ∷ [] → map (λ word. word.now) more ≡ map (λ word. word.now) ws ++ w.now ∷ []
names_longer ws more w longer = ap (map (λ word. word.now)) longer ∙ map-append (λ word. word.now) ws (w ∷ [])

-- what is said of the slice is so of the words
pub of_slice : (keys : List (ℕ × Bor (List ℕ))) (slice ws : List (Bor (List ℕ))) (filed : ℕ) → slice ≡ ws → AreFiled keys (map (λ word. word.now) slice) filed
    → AreFiled keys (map (λ word. word.now) ws) filed
of_slice keys slice ws filed same kept = subst (λ l. AreFiled keys (map (λ word. word.now) l) filed) same kept

-- a name that is past all others
pub past_pushed : (keys : List (ℕ × Bor (List ℕ))) (ws more : List (Bor (List ℕ))) (w : Bor (List ℕ)) (filed longest greatest size n : ℕ)
    → AreFiled keys (map (λ word. word.now) ws) filed → AreUpTo longest greatest (map (λ word. word.now) ws) → more ≡ ws ++ w ∷ [] → size ≡ length w.now
    → n ≡ number_of (back w.now) → is_past size n longest greatest ≡ true → AreKept keys (map (λ word. word.now) more) filed size n
past_pushed keys ws more w filed longest greatest size n kept most longer long e past =
    let names : List (List ℕ) = map (λ word. word.now) ws in
    let last : is_past (length w.now) (number_of (back w.now)) size n ≡ false = sym (λ i. is_past (long i) (e i) size n) ∙ not_past_itself size n in
    subst (λ l. AreKept keys l filed size n) (sym (names_longer ws more w longer)) (
      waiting_added keys names w.now filed kept,
      up_to_added names w.now size n (λ word stood. past_all (length word) (number_of (back word)) longest greatest size n (most word stood) past) last,
    )

-- a name that is found by its key
pub key_pushed : (old new : BTreeSet (ℕ × Bor (List ℕ))) (ws more : List (Bor (List ℕ))) (w : Bor (List ℕ)) (size n filed longest greatest : ℕ)
    → AreFiled old.keys (map (λ word. word.now) ws) filed → AreUpTo longest greatest (map (λ word. word.now) ws) → length ws ≤ filed → more ≡ ws ++ w ∷ []
    → size ≡ length w.now → n ≡ number_of (back w.now) → is_past size n longest greatest ≡ false → UpdatesBy key_cmp (λ key. against n w.now key) old new true
    → AreKept new.keys (map (λ word. word.now) more) (filed + 1) longest greatest
key_pushed old new ws more w size n filed longest greatest kept most all fresh span e below updates =
    let names : List (List ℕ) = map (λ word. word.now) ws in
    let long : length names ≡ length ws = length-map ws (λ word. word.now) in
    let whole : length names ≤ filed = omega (arith, long, all) in
    let same : filed ≡ length names = omega (arith, kept.within, whole) in
    let last : is_past (length w.now) (number_of (back w.now)) longest greatest ≡ false = sym (λ i. is_past (span i) (e i) longest greatest) ∙ below in
    subst (λ l. AreKept new.keys l (filed + 1) longest greatest) (sym (names_longer ws more w fresh))
    (filed_added old new names w n filed (all_filed old.keys names filed kept whole) same e updates, up_to_added names w.now longest greatest most last)

-- a name is new exactly where its key is
pub new_by_key : (keys : List (ℕ × Bor (List ℕ))) (ws : List (Bor (List ℕ))) (name : List ℕ) (n filed : ℕ) (new : Bool) → AreFiled keys (map (λ word. word.now) ws) filed
    → length ws ≤ filed → n ≡ number_of (back name) → new ≡ not (list_any (λ key. is_eq (against n name key)) keys) → new ≡ not (stands (map (λ word. word.now) ws) name)
new_by_key keys ws name n filed new kept all e is =
    let names : List (List ℕ) = map (λ word. word.now) ws in
    let long : length names ≡ length ws = length-map ws (λ word. word.now) in
    is ∙ ap not (ap (λ m. list_any (λ key. is_eq (against m name key)) keys) e ∙ all_filed keys names filed kept (omega (arith, long, all)) name)

-- a name among words
pub among : (ws : List (Bor (List ℕ))) (name : List ℕ) → list_any (λ word. bytes_eq word.now name) ws ≡ stands (map (λ word. word.now) ws) name
among [] name = refl
among (w ∷ ws) name = λ i. nat_list_eq_equiv.symm w.now name i || among ws name i
