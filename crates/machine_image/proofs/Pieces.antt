-- Pieces of an image's text that are written one after the other.
use Rattle.std.proofs.Common.{◌≡◌, ℕ, suc, ◌+◌, ◌<◌, ◌≤◌, List, [], ◌∷◌, ◌++◌, length, map, drop, get_or, refl, sym, ap, ◌∙◌, arith, append_assoc, append-nil, drop-cons, drop_of_length-le, add-one}
use Rattle.std.specs.Prelude.{ℤ, pos, negsuc, ◌<ℤ◌, ◌≤ℤ◌, unsigned_abs, flat_map, codes}
use Rattle.std.proofs.lemmas.Int.{ints}
use Rattle.text_lines.specs.Numbers.{number}
use Rattle.text_lines.specs.Cuts.{spaced}
use Rattle.text_lines.specs.Spellings.{text_of_words}
use Rattle.text_lines.specs.SpellingLaws.{words_append}
use Rattle.machine_image.specs.Images.{Counts, Frame, Image, net_word, counts_words, frame_words, bound_words, cell_words, end_words, frame_lines, image_text}
use Rattle.machine_image.specs.Writing.{line_text, number_text, bound_text, cell_text, frame_text}

-- a piece, and what follows it
on : (a p q rest : List ℕ) → q ≡ a ++ p → q ++ rest ≡ a ++ (p ++ rest)
on a p q rest e = ap (λ l. l ++ rest) e ∙ append_assoc a p rest

-- ---- items one by one

pub one_mapped : {A B : Type 0} (t : B → List ℕ) (m : A → B) (xs : List A) (i : ℕ) (x : A) (out new all : List ℕ) → i < length xs → x ≡ get_or xs i x
    → out ++ flat_map t (map m (drop i xs)) ≡ all → new ≡ out ++ t (m x)
    → new ++ flat_map t (map m (drop (i + 1) xs)) ≡ all
one_mapped t m xs i x out new all h is e f =
    on out (t (m x)) new (flat_map t (map m (drop (i + 1) xs))) f ∙ ap (λ n. out ++ (t (m x) ++ flat_map t (map m (drop n xs)))) (add-one i)
    ∙ ap (λ l. out ++ flat_map t (map m l)) (sym (drop-cons xs i x h ∙ ap (λ y. y ∷ drop (suc i) xs) (sym is))) ∙ e

pub all_mapped : {A B : Type 0} (t : B → List ℕ) (m : A → B) (xs : List A) (i : ℕ) (out all : List ℕ) → length xs ≤ i
    → out ++ flat_map t (map m (drop i xs)) ≡ all → out ≡ all
all_mapped t m xs i out all h e = sym (append-nil out) ∙ ap (λ l. out ++ flat_map t (map m l)) (sym (drop_of_length-le xs {i = i} h)) ∙ e

pub one_of : (t : ℕ → List ℕ) (xs : List ℕ) (i x : ℕ) (out new all : List ℕ) → i < length xs → x ≡ get_or xs i x
    → out ++ flat_map t (drop i xs) ≡ all → new ≡ out ++ t x → new ++ flat_map t (drop (i + 1) xs) ≡ all
one_of t xs i x out new all h is e f =
    on out (t x) new (flat_map t (drop (i + 1) xs)) f ∙ ap (λ n. out ++ (t x ++ flat_map t (drop n xs))) (add-one i)
    ∙ ap (λ l. out ++ flat_map t l) (sym (drop-cons xs i x h ∙ ap (λ y. y ∷ drop (suc i) xs) (sym is))) ∙ e

pub all_of : (t : ℕ → List ℕ) (xs : List ℕ) (i : ℕ) (out all : List ℕ) → length xs ≤ i → out ++ flat_map t (drop i xs) ≡ all → out ≡ all
all_of t xs i out all h e = sym (append-nil out) ∙ ap (λ l. out ++ flat_map t l) (sym (drop_of_length-le xs {i = i} h)) ∙ e

-- ---- a line of numbers

spaced_numbers : (tag : List ℕ) (ns : List ℕ) → spaced (tag ∷ map number ns) ≡ tag ++ flat_map number_text ns
spaced_numbers tag [] = sym (append-nil tag)
spaced_numbers tag (n ∷ ns) = ap (λ l. tag ++ 32 ∷ l) (spaced_numbers (number n) ns)

pub line_written : (tag : List ℕ) (ns : List ℕ) (a o p q : List ℕ) → o ≡ a ++ tag → p ≡ o ++ flat_map number_text ns → q ≡ p ++ 10 ∷ []
    → q ≡ a ++ line_text (tag ∷ map number ns)
line_written tag ns a o p q e f g =
    g ∙ on o (flat_map number_text ns) p (10 ∷ []) f ∙ on a tag o (flat_map number_text ns ++ 10 ∷ []) e
    ∙ ap (λ l. a ++ l) (sym (append_assoc tag (flat_map number_text ns) (10 ∷ [])) ∙ ap (λ l. l ++ 10 ∷ []) (sym (spaced_numbers tag ns)))

-- ---- lists of lines

all_lines : {A : Type 0} (f : A → List (List ℕ)) (xs : List A) → flat_map (λ x. line_text (f x)) xs ≡ text_of_words (map f xs)
all_lines f [] = refl
all_lines f (x ∷ xs) = ap (λ l. line_text (f x) ++ l) (all_lines f xs)

all_frames : (fs : List Frame) → flat_map frame_text fs ≡ text_of_words (flat_map frame_lines fs)
all_frames [] = refl
all_frames (f ∷ fs) = ap (λ l. frame_text f ++ l) (all_frames fs) ∙ sym (words_append (frame_lines f) (flat_map frame_lines fs))

pub frame_written : (f : Frame) (a o p : List ℕ) → o ≡ a ++ line_text (frame_words f.func f.block f.place) → p ≡ o ++ flat_map bound_text f.live → p ≡ a ++ frame_text f
frame_written f a o p e g =
    g ∙ on a (line_text (frame_words f.func f.block f.place)) o (flat_map bound_text f.live) e
    ∙ ap (λ l. a ++ (line_text (frame_words f.func f.block f.place) ++ l)) (all_lines bound_words f.live)

-- ---- the six numbers

pub below_written : (z : ℤ) (n : ℕ) (a o : List ℕ) → z <ℤ pos 0 → n ≡ unsigned_abs z → o ≡ a ++ (codes " net -" ++ number n) → o ≡ a ++ (codes " net " ++ net_word z)
below_written (pos n) m a o h q e = absurd (omega (arith, ints, h))
below_written (negsuc n) m a o h q e = e ∙ ap (λ n. a ++ (codes " net -" ++ number n)) q

pub above_written : (z : ℤ) (n : ℕ) (a o : List ℕ) → pos 0 ≤ℤ z → n ≡ unsigned_abs z → o ≡ a ++ (codes " net " ++ number n) → o ≡ a ++ (codes " net " ++ net_word z)
above_written (pos n) m a o h q e = e ∙ ap (λ n. a ++ (codes " net " ++ number n)) q
above_written (negsuc n) m a o h q e = absurd (h.le)

pub counts_written : (c : Counts) (a o p q r s t u : List ℕ) → o ≡ a ++ (codes "calls " ++ number c.calls) → p ≡ o ++ (codes " net " ++ net_word c.net)
    → q ≡ p ++ (codes " peak " ++ number c.peak) → r ≡ q ++ (codes " fuel " ++ number c.fuel) → s ≡ r ++ (codes " free " ++ number c.free)
    → t ≡ s ++ (codes " cells " ++ number c.cells) → u ≡ t ++ 10 ∷ []
    → u ≡ a ++ line_text (counts_words c)
counts_written c a o p q r s t u e0 e1 e2 e3 e4 e5 e6 =
    let t6 : List ℕ = 10 ∷ [] in
    let t5 : List ℕ = (codes " cells " ++ number c.cells) ++ t6 in
    let t4 : List ℕ = (codes " free " ++ number c.free) ++ t5 in
    let t3 : List ℕ = (codes " fuel " ++ number c.fuel) ++ t4 in
    let t2 : List ℕ = (codes " peak " ++ number c.peak) ++ t3 in
    let t1 : List ℕ = (codes " net " ++ net_word c.net) ++ t2 in
    let s5 : List ℕ = codes " cells " ++ number c.cells in
    let s4 : List ℕ = codes " free " ++ (number c.free ++ s5) in
    let s3 : List ℕ = codes " fuel " ++ (number c.fuel ++ s4) in
    let s2 : List ℕ = codes " peak " ++ (number c.peak ++ s3) in
    let s1 : List ℕ = codes " net " ++ (net_word c.net ++ s2) in
    let f4 : s4 ++ t6 ≡ t4 = ap (λ l. codes " free " ++ l) (append_assoc (number c.free) s5 t6) in
    let f3 : s3 ++ t6 ≡ t3 = ap (λ l. codes " fuel " ++ l) (append_assoc (number c.fuel) s4 t6 ∙ ap (λ l. number c.fuel ++ l) f4) in
    let f2 : s2 ++ t6 ≡ t2 = ap (λ l. codes " peak " ++ l) (append_assoc (number c.peak) s3 t6 ∙ ap (λ l. number c.peak ++ l) f3) in
    let f1 : s1 ++ t6 ≡ t1 = ap (λ l. codes " net " ++ l) (append_assoc (net_word c.net) s2 t6 ∙ ap (λ l. net_word c.net ++ l) f2) in
    let f0 : line_text (counts_words c) ≡ (codes "calls " ++ number c.calls) ++ t1 = ap (λ l. codes "calls " ++ l) (append_assoc (number c.calls) s1 t6 ∙ ap (λ l. number c.calls ++ l) f1) in
    e6 ∙ on s (codes " cells " ++ number c.cells) t t6 e5 ∙ on r (codes " free " ++ number c.free) s t5 e4 ∙ on q (codes " fuel " ++ number c.fuel) r t4 e3
    ∙ on p (codes " peak " ++ number c.peak) q t3 e2 ∙ on o (codes " net " ++ net_word c.net) p t2 e1 ∙ on a (codes "calls " ++ number c.calls) o t1 e0 ∙ ap (λ l. a ++ l) (sym f0)

-- ---- the text

pub image_written : (i : Image) (n o p q r s : List ℕ) → n ≡ [] → o ≡ n ++ codes "grail image 1\n" → p ≡ o ++ line_text (counts_words i.counts)
    → q ≡ p ++ flat_map frame_text i.frames → r ≡ q ++ flat_map cell_text i.cells → s ≡ r ++ codes "end\n" → s ≡ image_text i
unfolding image_text
image_written i n o p q r s e0 e1 e2 e3 e4 e5 =
    let t4 : List ℕ = codes "end\n" in
    let t3 : List ℕ = flat_map cell_text i.cells ++ t4 in
    let t2 : List ℕ = flat_map frame_text i.frames ++ t3 in
    let t1 : List ℕ = line_text (counts_words i.counts) ++ t2 in
    let cells : t3 ≡ text_of_words (map cell_words i.cells ++ end_words ∷ []) =
    ap (λ l. l ++ t4) (all_lines cell_words i.cells) ∙ sym (words_append (map cell_words i.cells) (end_words ∷ [])) in
    let frames : t2 ≡ text_of_words (flat_map frame_lines i.frames ++ (map cell_words i.cells ++ end_words ∷ [])) =
    ap (λ l. l ++ t3) (all_frames i.frames) ∙ ap (λ l. text_of_words (flat_map frame_lines i.frames) ++ l) cells ∙ sym (words_append (flat_map frame_lines i.frames) (map cell_words i.cells ++ end_words ∷ [])) in
    e5 ∙ on q (flat_map cell_text i.cells) r t4 e4 ∙ on p (flat_map frame_text i.frames) q t3 e3 ∙ on o (line_text (counts_words i.counts)) p t2 e2 ∙ on n (codes "grail image 1\n") o t1 e1
    ∙ ap (λ l. l ++ (codes "grail image 1\n" ++ t1)) e0 ∙ ap (λ l. codes "grail image 1\n" ++ (line_text (counts_words i.counts) ++ l)) frames
