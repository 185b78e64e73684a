-- The words of a line as the code reads them, one after the other.
use Rattle.std.proofs.Common.{◌≡◌, ℕ, zero, suc, ◌-◌, ◌<◌, ◌≤◌, Bool, true, false, List, [], ◌∷◌, length, map, Option, Some, None, refl, sym, ap, ◌∙◌, arith}
use Rattle.std.specs.Prelude.{codes, nat_lt, slice_index_or, if◌then◌else◌}
use Rattle.std.specs.Option.{option_map}
use Rattle.std.specs.Str.{bytes_eq}
use Rattle.text_lines.specs.Cuts.{and_then, only_if, words, further, spaced}
use Rattle.text_lines.specs.CutLaws.{words_cut, spaced_words}
use Rattle.text_lines.specs.OptionLaws.{true_false, same_bytes}
use Rattle.machine_image.specs.Images.{Counts, first_words}
use Rattle.machine_image.specs.Reading.{Line, word_number, numbers_of, frame_by, local_by, cell_by, end_by, line_by, line_of, keyed, counts_from, counts_of, same_words, is_above, is_empty}
use Rattle.machine_image.specs.WordLaws.{first_found}
use Rattle.machine_image.specs.Words.{bound_of}
use Rattle.machine_image.specs.Parts.{taken, keyed_word, counts_at, frame_at, local_at, cell_at, end_at, line_at}
use Rattle.machine_image.specs.declared.state.Bound.{Bound as DeclaredBound}

pub none_left : (rest : List ℕ) → length rest < 1 → true ≡ is_empty (further rest)
none_left [] h = refl
none_left (b ∷ rest) h = absurd (omega (arith, h))

pub some_left : (rest : List ℕ) → 1 ≤ length rest → false ≡ is_empty (further rest)
some_left [] h = absurd (omega (arith, h))
some_left (b ∷ rest) h = ap is_empty (sym (words_cut rest))

-- ---- numbers

-- one number, and then the others
peel : {B : Type 0} (ws : List (List ℕ)) (go : List ℕ → Option B) → go [] ≡ None
    → and_then (taken ws) (λ p. and_then (numbers_of p.1) (λ ns. go (p.0 ∷ ns))) ≡ and_then (numbers_of ws) go
unfolding numbers_of
peel [] go e = sym e
peel {B} (w ∷ ws) go e = by_number (word_number w)
  where
    by_rest : (n : ℕ) (o : Option (List ℕ)) → and_then o (λ ns. go (n ∷ ns)) ≡ and_then (option_map (λ ns. n ∷ ns) o) go
    by_rest n None = refl
    by_rest n (Some ns) = refl

    by_number : (o : Option ℕ)
        → and_then {A = ℕ × List (List ℕ)} (option_map (λ n. (n, ws)) o) (λ p. and_then (numbers_of p.1) (λ ns. go (p.0 ∷ ns))) ≡ and_then (and_then o (λ n. option_map (λ ns. n ∷ ns) (numbers_of ws))) go
    by_number None = refl
    by_number (Some n) = by_rest n (numbers_of ws)

-- no further number
ends : {B : Type 0} (ws : List (List ℕ)) (go : List ℕ → Option B) → ((n : ℕ) (ns : List ℕ) → go (n ∷ ns) ≡ None) → only_if (is_empty ws) (go []) ≡ and_then (numbers_of ws) go
unfolding numbers_of
ends [] go f = refl
ends {B} (w ∷ ws) go f = by_number (word_number w)
  where
    by_rest : (n : ℕ) (o : Option (List ℕ)) → None ≡ and_then (option_map (λ ns. n ∷ ns) o) go
    by_rest n None = refl
    by_rest n (Some ns) = sym (f n ns)

    by_number : (o : Option ℕ) → None ≡ and_then (and_then o (λ n. option_map (λ ns. n ∷ ns) (numbers_of ws))) go
    by_number None = refl
    by_number (Some n) = by_rest n (numbers_of ws)

frame_same : (ws : List (List ℕ)) → frame_at ws ≡ and_then (numbers_of ws) frame_by
unfolding frame_at
frame_same ws =
    (λ i. and_then (taken ws) (λ f. and_then (taken f.1) (λ b. and_then (taken b.1) (λ p. ends p.1 (λ ns. frame_by (f.0 ∷ b.0 ∷ p.0 ∷ ns)) (λ n ns. refl) i))))
    ∙ (λ i. and_then (taken ws) (λ f. and_then (taken f.1) (λ b. peel b.1 (λ ns. frame_by (f.0 ∷ b.0 ∷ ns)) refl i)))
    ∙ (λ i. and_then (taken ws) (λ f. peel f.1 (λ ns. frame_by (f.0 ∷ ns)) refl i)) ∙ peel ws frame_by refl

local_same : (ws : List (List ℕ)) → local_at ws ≡ and_then (numbers_of ws) local_by
unfolding local_at
local_same ws =
    (λ i. and_then (taken ws) (λ l. and_then (taken l.1) (λ w. ends w.1 (λ ns. local_by (l.0 ∷ w.0 ∷ ns)) (λ n ns. refl) i)))
    ∙ (λ i. and_then (taken ws) (λ l. peel l.1 (λ ns. local_by (l.0 ∷ ns)) refl i)) ∙ peel ws local_by refl

cell_same : (ws : List (List ℕ)) → cell_at ws ≡ and_then (numbers_of ws) cell_by
unfolding cell_at
cell_same ws =
    (λ i. and_then (taken ws) (λ t. and_then (taken t.1) (λ a. and_then (taken a.1) (λ b. and_then (taken b.1) (λ c. and_then (taken c.1) (λ d. ends d.1 (λ ns. cell_by (t.0 ∷ a.0 ∷ b.0 ∷ c.0 ∷ d.0 ∷ ns)) (λ n ns. refl) i))))))
    ∙ (λ i. and_then (taken ws) (λ t. and_then (taken t.1) (λ a. and_then (taken a.1) (λ b. and_then (taken b.1) (λ c. peel c.1 (λ ns. cell_by (t.0 ∷ a.0 ∷ b.0 ∷ c.0 ∷ ns)) refl i)))))
    ∙ (λ i. and_then (taken ws) (λ t. and_then (taken t.1) (λ a. and_then (taken a.1) (λ b. peel b.1 (λ ns. cell_by (t.0 ∷ a.0 ∷ b.0 ∷ ns)) refl i))))
    ∙ (λ i. and_then (taken ws) (λ t. and_then (taken t.1) (λ a. peel a.1 (λ ns. cell_by (t.0 ∷ a.0 ∷ ns)) refl i)))
    ∙ (λ i. and_then (taken ws) (λ t. peel t.1 (λ ns. cell_by (t.0 ∷ ns)) refl i)) ∙ peel ws cell_by refl

end_same : (ws : List (List ℕ)) → end_at ws ≡ and_then (numbers_of ws) end_by
unfolding end_at
end_same ws = ends ws end_by (λ n ns. refl)

-- ---- lines

with_tag : (tag key : List ℕ) (ws : List (List ℕ)) → bytes_eq tag key ≡ true → line_of (key ∷ ws) ≡ line_of (tag ∷ ws)
with_tag tag key ws e = ap (λ t. line_of (t ∷ ws)) (sym (same_bytes tag key e))

tagged : (tag : List ℕ) (ws : List (List ℕ)) (go : List ℕ → Option Line) → ((ns : List ℕ) → go ns ≡ line_by tag ns) → and_then (numbers_of ws) go ≡ line_of (tag ∷ ws)
unfolding line_of
tagged tag ws go f = λ i. and_then (numbers_of ws) (λ ns. f ns i)

abbrev none_by : List ℕ → Option Line
none_by ns = None

no_tag : (o : Option (List ℕ)) → None ≡ and_then o none_by
no_tag None = refl
no_tag (Some ns) = refl

pub line_same : (ws : List (List ℕ)) → line_at ws ≡ line_of ws
unfolding line_at line_of
line_same [] = refl
line_same (tag ∷ ws) = first (bytes_eq tag (codes "cell")) refl
  where
    none : bytes_eq tag (codes "cell") ≡ false → bytes_eq tag (codes "local") ≡ false → bytes_eq tag (codes "frame") ≡ false → bytes_eq tag (codes "end") ≡ false
        → (ns : List ℕ) → None ≡ line_by tag ns
    none c l f e ns = λ i. if sym f i then frame_by ns else if sym l i then local_by ns else if sym c i then cell_by ns else if sym e i then end_by ns else None

    fourth : (b : Bool) → bytes_eq tag (codes "end") ≡ b → bytes_eq tag (codes "cell") ≡ false → bytes_eq tag (codes "local") ≡ false → bytes_eq tag (codes "frame") ≡ false
        → (if b then end_at ws else None) ≡ line_of (tag ∷ ws)
    fourth true q c l f = end_same ws ∙ tagged (codes "end") ws end_by (λ ns. refl) ∙ with_tag tag (codes "end") ws q
    fourth false q c l f = no_tag (numbers_of ws) ∙ tagged tag ws none_by (none c l f q)

    third : (b : Bool) → bytes_eq tag (codes "frame") ≡ b → bytes_eq tag (codes "cell") ≡ false → bytes_eq tag (codes "local") ≡ false
        → (if b then frame_at ws else if bytes_eq tag (codes "end") then end_at ws else None) ≡ line_of (tag ∷ ws)
    third true q c l = frame_same ws ∙ tagged (codes "frame") ws frame_by (λ ns. refl) ∙ with_tag tag (codes "frame") ws q
    third false q c l = fourth (bytes_eq tag (codes "end")) refl c l q

    second : (b : Bool) → bytes_eq tag (codes "local") ≡ b → bytes_eq tag (codes "cell") ≡ false
        → (if b then local_at ws else if bytes_eq tag (codes "frame") then frame_at ws else if bytes_eq tag (codes "end") then end_at ws else None) ≡ line_of (tag ∷ ws)
    second true q c = local_same ws ∙ tagged (codes "local") ws local_by (λ ns. refl) ∙ with_tag tag (codes "local") ws q
    second false q c = third (bytes_eq tag (codes "frame")) refl c q

    first : (b : Bool) → bytes_eq tag (codes "cell") ≡ b
        → (if b then cell_at ws else if bytes_eq tag (codes "local") then local_at ws else if bytes_eq tag (codes "frame") then frame_at ws else if bytes_eq tag (codes "end") then end_at ws else None) ≡ line_of (tag ∷ ws)
    first true q = cell_same ws ∙ tagged (codes "cell") ws cell_by (λ ns. refl) ∙ with_tag tag (codes "cell") ws q
    first false q = second (bytes_eq tag (codes "local")) refl q

-- ---- the six numbers

peel_key : (key : List ℕ) (keys ws : List (List ℕ)) (go : List (List ℕ) → Option Counts)
    → and_then (keyed_word key ws) (λ p. and_then (keyed keys p.1) (λ vs. go (p.0 ∷ vs))) ≡ and_then (keyed (key ∷ keys) ws) go
unfolding keyed
peel_key key keys [] go = refl
peel_key key keys (t ∷ []) go = refl
peel_key key keys (t ∷ w ∷ ws) go = by_test (bytes_eq t key)
  where
    by_rest : (o : Option (List (List ℕ))) → and_then o (λ vs. go (w ∷ vs)) ≡ and_then (option_map (λ vs. w ∷ vs) o) go
    by_rest None = refl
    by_rest (Some vs) = refl

    by_test : (b : Bool)
        → and_then {A = List ℕ × List (List ℕ)} (only_if b (Some (w, ws))) (λ p. and_then (keyed keys p.1) (λ vs. go (p.0 ∷ vs))) ≡ and_then (only_if b (option_map (λ vs. w ∷ vs) (keyed keys ws))) go
    by_test true = by_rest (keyed keys ws)
    by_test false = refl

ends_key : (ws : List (List ℕ)) (go : List (List ℕ) → Option Counts) → only_if (is_empty ws) (go []) ≡ and_then (keyed [] ws) go
unfolding keyed
ends_key [] go = refl
ends_key (w ∷ ws) go = refl

pub counts_same : (ws : List (List ℕ)) → counts_at ws ≡ counts_of ws
unfolding counts_at
counts_same ws =
    (λ i. and_then (keyed_word (codes "calls") ws) (λ c. and_then (keyed_word (codes "net") c.1) (λ n. and_then (keyed_word (codes "peak") n.1) (λ p. and_then (keyed_word (codes "fuel") p.1) (λ f. and_then (keyed_word (codes "free") f.1) (λ h. and_then (keyed_word (codes "cells") h.1)
    (λ s. ends_key s.1 (λ vs. counts_from (c.0 ∷ n.0 ∷ p.0 ∷ f.0 ∷ h.0 ∷ s.0 ∷ vs)) i)))))))
    ∙ (λ i. and_then (keyed_word (codes "calls") ws) (λ c. and_then (keyed_word (codes "net") c.1) (λ n. and_then (keyed_word (codes "peak") n.1) (λ p. and_then (keyed_word (codes "fuel") p.1) (λ f. and_then (keyed_word (codes "free") f.1)
    (λ h. peel_key (codes "cells") [] h.1 (λ vs. counts_from (c.0 ∷ n.0 ∷ p.0 ∷ f.0 ∷ h.0 ∷ vs)) i))))))
    ∙ (λ i. and_then (keyed_word (codes "calls") ws) (λ c. and_then (keyed_word (codes "net") c.1) (λ n. and_then (keyed_word (codes "peak") n.1) (λ p. and_then (keyed_word (codes "fuel") p.1)
    (λ f. peel_key (codes "free") (codes "cells" ∷ []) f.1 (λ vs. counts_from (c.0 ∷ n.0 ∷ p.0 ∷ f.0 ∷ vs)) i)))))
    ∙ (λ i. and_then (keyed_word (codes "calls") ws) (λ c. and_then (keyed_word (codes "net") c.1) (λ n. and_then (keyed_word (codes "peak") n.1)
    (λ p. peel_key (codes "fuel") (codes "free" ∷ codes "cells" ∷ []) p.1 (λ vs. counts_from (c.0 ∷ n.0 ∷ p.0 ∷ vs)) i))))
    ∙ (λ i. and_then (keyed_word (codes "calls") ws) (λ c. and_then (keyed_word (codes "net") c.1)
    (λ n. peel_key (codes "peak") (codes "fuel" ∷ codes "free" ∷ codes "cells" ∷ []) n.1 (λ vs. counts_from (c.0 ∷ n.0 ∷ vs)) i)))
    ∙ (λ i. and_then (keyed_word (codes "calls") ws) (λ c. peel_key (codes "net") (codes "peak" ∷ codes "fuel" ∷ codes "free" ∷ codes "cells" ∷ []) c.1 (λ vs. counts_from (c.0 ∷ vs)) i))
    ∙ peel_key (codes "calls") (codes "net" ∷ codes "peak" ∷ codes "fuel" ∷ codes "free" ∷ codes "cells" ∷ []) ws counts_from

-- ---- the first line

pub first_is : (line : List ℕ) → bytes_eq line (codes "grail image 1") ≡ true → same_words (words line) first_words ≡ true
first_is line e = ap (λ l. same_words (words l) first_words) (same_bytes line (codes "grail image 1") e)

pub first_not : (line : List ℕ) → bytes_eq line (codes "grail image 1") ≡ false → same_words (words line) first_words ≡ false
first_not line e = by_test (same_words (words line) first_words) refl
  where
    by_test : (b : Bool) → same_words (words line) first_words ≡ b → b ≡ false
    by_test true h =
        let is : line ≡ codes "grail image 1" = sym (spaced_words line) ∙ ap spaced (first_found (words line) first_words h) in
        absurd (true_false (bytes_eq line (codes "grail image 1")) (ap (λ l. bytes_eq l (codes "grail image 1")) is) e)
    by_test false h = refl

-- ---- locals

above_at : (bs : List DeclaredBound) (d : DeclaredBound) (k n : ℕ) → length bs ≡ suc k → nat_lt (slice_index_or bs k d).local n ≡ is_above (map bound_of bs) n
above_at [] d k n h = absurd (omega (arith, h))
above_at (b ∷ []) d zero n h = refl
above_at (b ∷ []) d (suc k) n h = absurd (omega (arith, h))
above_at (b ∷ c ∷ bs) d zero n h = absurd (omega (arith, h))
above_at (b ∷ c ∷ bs) d (suc k) n h = above_at (c ∷ bs) d k n (omega (arith, h))

pub above_last : (bs : List DeclaredBound) (d : DeclaredBound) (n : ℕ) → 1 ≤ length bs → nat_lt (slice_index_or bs (length bs - 1) d).local n ≡ is_above (map bound_of bs) n
above_last bs d n h = above_at bs d (length bs - 1) n (omega (arith, h))
