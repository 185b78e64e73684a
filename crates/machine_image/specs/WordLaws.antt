-- Laws, for the proofs of this crate and of those above it.
-- The words of an image's lines, and back.
use Rattle.std.proofs.Common.{◌≡◌, ℕ, zero, suc, ◌+◌, ◌≤◌, Bool, true, false, List, [], ◌∷◌, Some, None, refl, sym, ap, ◌∙◌, subst, arith}
use Rattle.std.specs.Prelude.{ℤ, pos, negsuc, map, codes, nat_le, ◌==◌, if◌then◌else◌}
use Rattle.std.specs.Option.{option_map}
use Rattle.std.specs.Str.{bytes_eq}
use Rattle.std.specs.List.{AllByRecursion}
use Rattle.std.proofs.lemmas.Bool.Decides.{nat_tests}
use Rattle.text_lines.specs.Numbers.{number}
use Rattle.text_lines.specs.NumberLaws.{number_read, number_found, number_free}
use Rattle.text_lines.specs.Lines.{Free}
use Rattle.text_lines.specs.CutLaws.{free_cons, free_parts, byte_is}
use Rattle.text_lines.specs.Cuts.{and_then, only_if, number_of}
use Rattle.text_lines.specs.OptionLaws.{and_parts, some_same, then_some, then_is, only_some, only_is, map_some, map_is, same_bytes}
use Rattle.text_lines.specs.Spellings.{IsWord, IsWordLine}
use Rattle.machine_image.specs.Images.{Counts, Is32, IsNet, CountsAreFormed, net_word, first_words, counts_words}
use Rattle.machine_image.specs.Reading.{Line, LFrame, LLocal, LCell, LEnd, within, word_number, numbers_of, frame_by, local_by, cell_by, end_by, line_by, line_of, line_words, keyed, count_keys, below_zero, net_of, long_number, counts_by, counts_from, counts_of, same_words}

-- ---- numbers

within_is : (most n : ℕ) → n ≤ most → within most n ≡ Some n
within_is most n h = only_is (nat_le n most) (Some n) (Some n) (grind (arith, nat_tests, h)) refl

within_some : (most n m : ℕ) → within most n ≡ Some m → (n ≡ m) × (n ≤ most)
within_some most n m e = let p = only_some (nat_le n most) (Some n) m e in (some_same n m p.1, grind (arith, nat_tests, p.0))

bounded_read : (most n : ℕ) → n ≤ most → and_then (number_of (number n)) (within most) ≡ Some n
bounded_read most n h = then_is (number_of (number n)) (within most) n (Some n) (number_read n) (within_is most n h)

bounded_found : (most n : ℕ) (w : List ℕ) → and_then (number_of w) (within most) ≡ Some n → (w ≡ number n) × (n ≤ most)
bounded_found most n w e =
    let (m, m_is, n_is) = then_some (number_of w) (within most) n e in
    let p = within_some most m n n_is in
    (number_found w m m_is ∙ ap number p.0, subst (λ n. n ≤ most) p.0 p.1)

pub word_read : (n : ℕ) → Is32 n → word_number (number n) ≡ Some n
unfolding word_number
word_read n h = bounded_read 4294967295 n h

pub word_found : (w : List ℕ) (n : ℕ) → word_number w ≡ Some n → (w ≡ number n) × Is32 n
unfolding word_number
word_found w n e = bounded_found 4294967295 n w e

pub long_read : (n : ℕ) → n ≤ 1099511627776 → long_number (number n) ≡ Some n
unfolding long_number
long_read n h = bounded_read 1099511627776 n h

pub long_found : (w : List ℕ) (n : ℕ) → long_number w ≡ Some n → (w ≡ number n) × (n ≤ 1099511627776)
unfolding long_number
long_found w n e = bounded_found 1099511627776 n w e

pub numbers_read : (ns : List ℕ) → AllByRecursion Is32 ns → numbers_of (map number ns) ≡ Some ns
unfolding numbers_of
numbers_read [] h = refl
numbers_read (n ∷ ns) h =
    then_is (word_number (number n)) (λ n. option_map (λ ns. n ∷ ns) (numbers_of (map number ns))) n (Some (n ∷ ns)) (word_read n h.0)
    (map_is (λ ns. n ∷ ns) (numbers_of (map number ns)) ns (numbers_read ns h.1))

pub numbers_found : (ws : List (List ℕ)) (ns : List ℕ) → numbers_of ws ≡ Some ns → (ws ≡ map number ns) × AllByRecursion Is32 ns
unfolding numbers_of
numbers_found [] ns e = let q : [] ≡ ns = some_same [] ns e in (ap (map number) q, subst (AllByRecursion Is32) q tt)
numbers_found (w ∷ ws) ns e =
    let (n, n_is, rest) = then_some (word_number w) (λ n. option_map (λ ns. n ∷ ns) (numbers_of ws)) ns e in
    let (ms, ms_is, ns_is) = map_some (λ ns. n ∷ ns) (numbers_of ws) ns rest in
    let p = word_found w n n_is in
    let q = numbers_found ws ms ms_is in
    (ap (λ v. v ∷ ws) p.0 ∙ ap (λ vs. number n ∷ vs) q.0 ∙ ap (map number) (sym ns_is), subst (AllByRecursion Is32) (sym ns_is) (p.1, q.1))

-- ---- lines

abbrev pub line_tag : Line → List ℕ
line_tag (LFrame f b p) = codes "frame"
line_tag (LLocal b) = codes "local"
line_tag (LCell c) = codes "cell"
line_tag LEnd = codes "end"

abbrev pub line_numbers : Line → List ℕ
line_numbers (LFrame f b p) = f ∷ b ∷ p ∷ []
line_numbers (LLocal b) = b.local ∷ b.word ∷ []
line_numbers (LCell c) = c.tag ∷ c.w0 ∷ c.w1 ∷ c.w2 ∷ c.w3 ∷ []
line_numbers LEnd = []

abbrev pub LineIsFormed : Line → Type 0
LineIsFormed l = AllByRecursion Is32 (line_numbers l)

words_are : (l : Line) → line_words l ≡ line_tag l ∷ map number (line_numbers l)
words_are (LFrame f b p) = refl
words_are (LLocal b) = refl
words_are (LCell c) = refl
words_are LEnd = refl

by_is : (l : Line) → line_by (line_tag l) (line_numbers l) ≡ Some l
by_is (LFrame f b p) = refl
by_is (LLocal b) = refl
by_is (LCell c) = refl
by_is LEnd = refl

pub line_read : (l : Line) → LineIsFormed l → line_of (line_words l) ≡ Some l
unfolding line_of
line_read l h = ap line_of (words_are l) ∙ then_is (numbers_of (map number (line_numbers l))) (line_by (line_tag l)) (line_numbers l) (Some l) (numbers_read (line_numbers l) h) (by_is l)

record By (tag : List ℕ) (ns : List ℕ) (l : Line) : Type 0 where
  tag_is : tag ≡ line_tag l
  numbers : ns ≡ line_numbers l

by_frame : (tag ns : List ℕ) (l : Line) → tag ≡ codes "frame" → frame_by ns ≡ Some l → By tag ns l
by_frame tag [] l q e = absurd cc
by_frame tag (f ∷ []) l q e = absurd cc
by_frame tag (f ∷ b ∷ []) l q e = absurd cc
by_frame tag (f ∷ b ∷ p ∷ []) l q e = subst (By tag (f ∷ b ∷ p ∷ [])) (some_same (LFrame f b p) l e) (record { tag_is = q; numbers = refl })
by_frame tag (f ∷ b ∷ p ∷ n ∷ ns) l q e = absurd cc

by_local : (tag ns : List ℕ) (l : Line) → tag ≡ codes "local" → local_by ns ≡ Some l → By tag ns l
by_local tag [] l q e = absurd cc
by_local tag (x ∷ []) l q e = absurd cc
by_local tag (x ∷ w ∷ []) l q e = subst (By tag (x ∷ w ∷ [])) (some_same (LLocal (record { local = x; word = w })) l e) (record { tag_is = q; numbers = refl })
by_local tag (x ∷ w ∷ n ∷ ns) l q e = absurd cc

by_cell : (tag ns : List ℕ) (l : Line) → tag ≡ codes "cell" → cell_by ns ≡ Some l → By tag ns l
by_cell tag [] l q e = absurd cc
by_cell tag (t ∷ []) l q e = absurd cc
by_cell tag (t ∷ a ∷ []) l q e = absurd cc
by_cell tag (t ∷ a ∷ b ∷ []) l q e = absurd cc
by_cell tag (t ∷ a ∷ b ∷ c ∷ []) l q e = absurd cc
by_cell tag (t ∷ a ∷ b ∷ c ∷ d ∷ []) l q e = subst (By tag (t ∷ a ∷ b ∷ c ∷ d ∷ [])) (some_same (LCell (record { tag = t; w0 = a; w1 = b; w2 = c; w3 = d })) l e) (record { tag_is = q; numbers = refl })
by_cell tag (t ∷ a ∷ b ∷ c ∷ d ∷ n ∷ ns) l q e = absurd cc

by_end : (tag ns : List ℕ) (l : Line) → tag ≡ codes "end" → end_by ns ≡ Some l → By tag ns l
by_end tag [] l q e = subst (By tag []) (some_same LEnd l e) (record { tag_is = q; numbers = refl })
by_end tag (n ∷ ns) l q e = absurd cc

by_some : (tag ns : List ℕ) (l : Line) → line_by tag ns ≡ Some l → By tag ns l
by_some tag ns l e = first (bytes_eq tag (codes "frame")) refl e
  where
    fourth : (b : Bool) → bytes_eq tag (codes "end") ≡ b → (if b then end_by ns else None) ≡ Some l → By tag ns l
    fourth true q e = by_end tag ns l (same_bytes tag (codes "end") q) e
    fourth false q e = absurd cc

    third : (b : Bool) → bytes_eq tag (codes "cell") ≡ b → (if b then cell_by ns else if bytes_eq tag (codes "end") then end_by ns else None) ≡ Some l → By tag ns l
    third true q e = by_cell tag ns l (same_bytes tag (codes "cell") q) e
    third false q e = fourth (bytes_eq tag (codes "end")) refl e

    second : (b : Bool) → bytes_eq tag (codes "local") ≡ b
        → (if b then local_by ns else if bytes_eq tag (codes "cell") then cell_by ns else if bytes_eq tag (codes "end") then end_by ns else None) ≡ Some l → By tag ns l
    second true q e = by_local tag ns l (same_bytes tag (codes "local") q) e
    second false q e = third (bytes_eq tag (codes "cell")) refl e

    first : (b : Bool) → bytes_eq tag (codes "frame") ≡ b
        → (if b then frame_by ns else if bytes_eq tag (codes "local") then local_by ns else if bytes_eq tag (codes "cell") then cell_by ns else if bytes_eq tag (codes "end") then end_by ns else None) ≡ Some l → By tag ns l
    first true q e = by_frame tag ns l (same_bytes tag (codes "frame") q) e
    first false q e = second (bytes_eq tag (codes "local")) refl e

pub line_found : (ws : List (List ℕ)) (l : Line) → line_of ws ≡ Some l → (ws ≡ line_words l) × LineIsFormed l
unfolding line_of
line_found [] l e = absurd cc
line_found (tag ∷ ws) l e =
    let (ns, ns_is, by) = then_some (numbers_of ws) (line_by tag) l e in
    let p = numbers_found ws ns ns_is in
    let q = by_some tag ns l by in
    (ap (λ vs. tag ∷ vs) p.0 ∙ ap (λ t. t ∷ map number ns) q.tag_is ∙ ap (λ ns. line_tag l ∷ map number ns) q.numbers ∙ sym (words_are l), subst (AllByRecursion Is32) q.numbers p.1)

-- ---- the line of six numbers

weave : List (List ℕ) → List (List ℕ) → List (List ℕ)
weave [] vs = []
weave (k ∷ ks) [] = []
weave (k ∷ ks) (v ∷ vs) = k ∷ v ∷ weave ks vs

keyed_found : (ks ws vs : List (List ℕ)) → keyed ks ws ≡ Some vs → ws ≡ weave ks vs
unfolding keyed weave
keyed_found [] [] vs e = refl
keyed_found [] (w ∷ ws) vs e = absurd cc
keyed_found (k ∷ ks) [] vs e = absurd cc
keyed_found (k ∷ ks) (t ∷ []) vs e = absurd cc
keyed_found (k ∷ ks) (t ∷ w ∷ ws) vs e =
    let p = only_some (bytes_eq t k) (option_map (λ vs. w ∷ vs) (keyed ks ws)) vs e in
    let (us, us_is, vs_is) = map_some (λ vs. w ∷ vs) (keyed ks ws) vs p.1 in
    ap (λ t. t ∷ w ∷ ws) (same_bytes t k p.0) ∙ ap (λ r. k ∷ w ∷ r) (keyed_found ks ws us us_is) ∙ ap (weave (k ∷ ks)) (sym vs_is)

six : (c n p f h s : List ℕ) → keyed count_keys (weave count_keys (c ∷ n ∷ p ∷ f ∷ h ∷ s ∷ [])) ≡ Some (c ∷ n ∷ p ∷ f ∷ h ∷ s ∷ [])
unfolding keyed weave
six c n p f h s = refl

-- a number begins with no minus
first_digit : (w : List ℕ) → Free 45 w → (n : ℕ) → word_number w ≡ Some n → net_of w ≡ Some (pos n)
unfolding net_of word_number number_of
first_digit [] f n e = absurd cc
first_digit (b ∷ bs) f n e = ap (λ t. if t then and_then (word_number bs) below_zero else option_map pos (word_number (b ∷ bs))) (free_parts 45 b bs f).0 ∙ map_is pos (word_number (b ∷ bs)) n e

net_read : (n : ℤ) → IsNet n → net_of (net_word n) ≡ Some n
unfolding net_of
net_read (pos n) h = first_digit (number n) (number_free 45 n refl) n (word_read n h)
net_read (negsuc n) h = down n h
  where
    down : (n : ℕ) → suc n ≤ 4294967295 → net_of (45 ∷ number (suc n)) ≡ Some (negsuc n)
    down n h = then_is (word_number (number (suc n))) below_zero (suc n) (Some (negsuc n)) (word_read (suc n) h) refl

net_found : (w : List ℕ) (n : ℤ) → net_of w ≡ Some n → (w ≡ net_word n) × IsNet n
unfolding net_of
net_found [] n e = absurd cc
net_found (b ∷ bs) n e = by_test (b == 45) refl e
  where
    below : (m : ℕ) → bs ≡ number m → Is32 m → below_zero m ≡ Some n → b ≡ 45 → (b ∷ bs ≡ net_word n) × IsNet n
    below zero q h e r = absurd cc
    below (suc m) q h e r =
        let s : negsuc m ≡ n = some_same (negsuc m) n e in
        (ap (λ b. b ∷ bs) r ∙ ap (λ l. 45 ∷ l) q ∙ ap net_word s, subst IsNet s h)

    by_test : (t : Bool) → (b == 45) ≡ t → (if t then and_then (word_number bs) below_zero else option_map pos (word_number (b ∷ bs))) ≡ Some n → (b ∷ bs ≡ net_word n) × IsNet n
    by_test true q e =
        let (m, m_is, n_is) = then_some (word_number bs) below_zero n e in
        let p = word_found bs m m_is in
        below m p.0 p.1 n_is (byte_is b 45 q)
    by_test false q e =
        let (m, m_is, n_is) = map_some pos (word_number (b ∷ bs)) n e in
        let p = word_found (b ∷ bs) m m_is in
        (p.0 ∙ ap net_word (sym n_is), subst IsNet (sym n_is) p.1)

pub counts_read : (c : Counts) → CountsAreFormed c → counts_of (counts_words c) ≡ Some c
unfolding keyed counts_from
counts_read c h =
    let calls = long_read c.calls (omega (arith, h.steps)) in
    let fuel = long_read c.fuel (omega (arith, h.steps)) in
    let fits : nat_le (c.calls + c.fuel) 1099511627776 ≡ true = grind (arith, nat_tests, h.steps) in
    ap (λ o. and_then o (λ calls. and_then (net_of (net_word c.net)) (λ net. and_then (long_number (number c.peak)) (λ peak. and_then (long_number (number c.fuel)) (λ fuel. and_then (word_number (number c.free)) (λ free. and_then (word_number (number c.cells)) (λ cells. only_if (nat_le (calls + fuel) 1099511627776) (Some (counts_by calls net peak fuel free cells))))))))) calls
    ∙ ap (λ o. and_then o (λ net. and_then (long_number (number c.peak)) (λ peak. and_then (long_number (number c.fuel)) (λ fuel. and_then (word_number (number c.free)) (λ free. and_then (word_number (number c.cells)) (λ cells. only_if (nat_le (c.calls + fuel) 1099511627776) (Some (counts_by c.calls net peak fuel free cells)))))))) (net_read c.net h.net)
    ∙ ap (λ o. and_then o (λ peak. and_then (long_number (number c.fuel)) (λ fuel. and_then (word_number (number c.free)) (λ free. and_then (word_number (number c.cells)) (λ cells. only_if (nat_le (c.calls + fuel) 1099511627776) (Some (counts_by c.calls c.net peak fuel free cells))))))) (long_read c.peak h.peak)
    ∙ ap (λ o. and_then o (λ fuel. and_then (word_number (number c.free)) (λ free. and_then (word_number (number c.cells)) (λ cells. only_if (nat_le (c.calls + fuel) 1099511627776) (Some (counts_by c.calls c.net c.peak fuel free cells)))))) fuel
    ∙ ap (λ o. and_then o (λ free. and_then (word_number (number c.cells)) (λ cells. only_if (nat_le (c.calls + c.fuel) 1099511627776) (Some (counts_by c.calls c.net c.peak c.fuel free cells))))) (word_read c.free h.free)
    ∙ ap (λ o. and_then o (λ cells. only_if (nat_le (c.calls + c.fuel) 1099511627776) (Some (counts_by c.calls c.net c.peak c.fuel c.free cells)))) (word_read c.cells h.cells)
    ∙ ap (λ t. only_if t (Some c)) fits

-- six words that are read as these numbers
six_found : (a n p f h s : List ℕ) (calls : ℕ) (net : ℤ) (peak fuel free cells : ℕ) (c : Counts) → long_number a ≡ Some calls → net_of n ≡ Some net → long_number p ≡ Some peak → long_number f ≡ Some fuel
    → word_number h ≡ Some free → word_number s ≡ Some cells → only_if (nat_le (calls + fuel) 1099511627776) (Some (counts_by calls net peak fuel free cells)) ≡ Some c
    → (weave count_keys (a ∷ n ∷ p ∷ f ∷ h ∷ s ∷ []) ≡ counts_words c) × CountsAreFormed c
unfolding weave
six_found a n p f h s calls net peak fuel free cells c calls_is net_is peak_is fuel_is free_is cells_is e6 =
    let d = only_some (nat_le (calls + fuel) 1099511627776) (Some (counts_by calls net peak fuel free cells)) c e6 in
    let c_is : counts_by calls net peak fuel free cells ≡ c = some_same (counts_by calls net peak fuel free cells) c d.1 in
    let steps : calls + fuel ≤ 1099511627776 = grind (arith, nat_tests, d.0) in
    let x0 = long_found a calls calls_is in
    let x1 = net_found n net net_is in
    let x2 = long_found p peak peak_is in
    let x3 = long_found f fuel fuel_is in
    let x4 = word_found h free free_is in
    let x5 = word_found s cells cells_is in (
      ap (λ a. weave count_keys (a ∷ n ∷ p ∷ f ∷ h ∷ s ∷ [])) x0.0 ∙ ap (λ n. weave count_keys (number calls ∷ n ∷ p ∷ f ∷ h ∷ s ∷ [])) x1.0
          ∙ ap (λ p. weave count_keys (number calls ∷ net_word net ∷ p ∷ f ∷ h ∷ s ∷ [])) x2.0 ∙ ap (λ f. weave count_keys (number calls ∷ net_word net ∷ number peak ∷ f ∷ h ∷ s ∷ [])) x3.0
          ∙ ap (λ h. weave count_keys (number calls ∷ net_word net ∷ number peak ∷ number fuel ∷ h ∷ s ∷ [])) x4.0 ∙ ap (λ s. weave count_keys (number calls ∷ net_word net ∷ number peak ∷ number fuel ∷ number free ∷ s ∷ [])) x5.0
          ∙ ap counts_words c_is,
      subst CountsAreFormed c_is (record { steps = steps; net = x1.1; peak = x2.1; free = x4.1; cells = x5.1 }),
    )

from_found : (vs : List (List ℕ)) (c : Counts) → counts_from vs ≡ Some c → (weave count_keys vs ≡ counts_words c) × CountsAreFormed c
unfolding counts_from weave
from_found [] c e = absurd cc
from_found (a ∷ []) c e = absurd cc
from_found (a ∷ n ∷ []) c e = absurd cc
from_found (a ∷ n ∷ p ∷ []) c e = absurd cc
from_found (a ∷ n ∷ p ∷ f ∷ []) c e = absurd cc
from_found (a ∷ n ∷ p ∷ f ∷ h ∷ []) c e = absurd cc
from_found (a ∷ n ∷ p ∷ f ∷ h ∷ s ∷ w ∷ ws) c e = absurd cc
from_found (a ∷ n ∷ p ∷ f ∷ h ∷ s ∷ []) c e =
    let (calls, calls_is, e1) = then_some (long_number a) (λ calls. and_then (net_of n) (λ net. and_then (long_number p) (λ peak. and_then (long_number f) (λ fuel. and_then (word_number h) (λ free. and_then (word_number s) (λ cells. only_if (nat_le (calls + fuel) 1099511627776) (Some (counts_by calls net peak fuel free cells)))))))) c e in
    let (net, net_is, e2) = then_some (net_of n) (λ net. and_then (long_number p) (λ peak. and_then (long_number f) (λ fuel. and_then (word_number h) (λ free. and_then (word_number s) (λ cells. only_if (nat_le (calls + fuel) 1099511627776) (Some (counts_by calls net peak fuel free cells))))))) c e1 in
    let (peak, peak_is, e3) = then_some (long_number p) (λ peak. and_then (long_number f) (λ fuel. and_then (word_number h) (λ free. and_then (word_number s) (λ cells. only_if (nat_le (calls + fuel) 1099511627776) (Some (counts_by calls net peak fuel free cells)))))) c e2 in
    let (fuel, fuel_is, e4) = then_some (long_number f) (λ fuel. and_then (word_number h) (λ free. and_then (word_number s) (λ cells. only_if (nat_le (calls + fuel) 1099511627776) (Some (counts_by calls net peak fuel free cells))))) c e3 in
    let (free, free_is, e5) = then_some (word_number h) (λ free. and_then (word_number s) (λ cells. only_if (nat_le (calls + fuel) 1099511627776) (Some (counts_by calls net peak fuel free cells)))) c e4 in
    let (cells, cells_is, e6) = then_some (word_number s) (λ cells. only_if (nat_le (calls + fuel) 1099511627776) (Some (counts_by calls net peak fuel free cells))) c e5 in
    six_found a n p f h s calls net peak fuel free cells c calls_is net_is peak_is fuel_is free_is cells_is e6

pub counts_found : (ws : List (List ℕ)) (c : Counts) → counts_of ws ≡ Some c → (ws ≡ counts_words c) × CountsAreFormed c
counts_found ws c e =
    let (vs, vs_is, c_is) = then_some (keyed count_keys ws) counts_from c e in
    let p = from_found vs c c_is in
    (keyed_found count_keys ws vs vs_is ∙ p.0, p.1)

-- ---- the first line

pub first_found : (vs ws : List (List ℕ)) → same_words vs ws ≡ true → vs ≡ ws
first_found [] [] e = refl
first_found [] (w ∷ ws) e = absurd cc
first_found (v ∷ vs) [] e = absurd cc
first_found (v ∷ vs) (w ∷ ws) e = let p = and_parts (bytes_eq v w) (same_words vs ws) e in ap (λ u. u ∷ vs) (same_bytes v w p.0) ∙ ap (λ us. w ∷ us) (first_found vs ws p.1)

-- ---- words

number_word : (n : ℕ) → IsWord (number n)
number_word n = record { space = number_free 32 n refl; feed = number_free 10 n refl }

numbers_words : (ns : List ℕ) → AllByRecursion IsWord (map number ns)
numbers_words [] = tt
numbers_words (n ∷ ns) = (number_word n, numbers_words ns)

net_is_word : (n : ℤ) → IsWord (net_word n)
net_is_word (pos n) = number_word n
net_is_word (negsuc n) = record { space = free_cons 32 45 (number (suc n)) refl (number_free 32 (suc n) refl); feed = free_cons 10 45 (number (suc n)) refl (number_free 10 (suc n) refl) }

pub plain : (w : List ℕ) → Free 32 w → Free 10 w → IsWord w
plain w h k = record { space = h; feed = k }

pub line_is_words : (l : Line) → IsWordLine (line_words l)
line_is_words (LFrame f b p) = (plain (codes "frame") refl refl, numbers_words (f ∷ b ∷ p ∷ []))
line_is_words (LLocal b) = (plain (codes "local") refl refl, numbers_words (b.local ∷ b.word ∷ []))
line_is_words (LCell c) = (plain (codes "cell") refl refl, numbers_words (c.tag ∷ c.w0 ∷ c.w1 ∷ c.w2 ∷ c.w3 ∷ []))
line_is_words LEnd = (plain (codes "end") refl refl, tt)

pub counts_are_words : (c : Counts) → IsWordLine (counts_words c)
counts_are_words c = (
  plain (codes "calls") refl refl,
  (
    number_word c.calls,
    (
      plain (codes "net") refl refl,
      (
        net_is_word c.net,
        (
          plain (codes "peak") refl refl,
          (
            number_word c.peak,
            (plain (codes "fuel") refl refl, (number_word c.fuel, (plain (codes "free") refl refl, (number_word c.free, (plain (codes "cells") refl refl, (number_word c.cells, tt)))))),
          ),
        ),
      ),
    ),
  ),
)

pub first_is_words : IsWordLine first_words
first_is_words = (plain (codes "grail") refl refl, (plain (codes "image") refl refl, (plain (codes "1") refl refl, tt)))
