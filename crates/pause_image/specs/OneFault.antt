-- Laws, for the proofs of this crate and of those above it.
-- A text has one fault at most, and none where it is right.
use Rattle.std.proofs.Common.{◌≡◌, ℕ, zero, suc, ◌+◌, ◌≤◌, ◌<◌, List, [], ◌∷◌, ◌++◌, map, length, Option, Some, None, refl, sym, ap, ◌∙◌, subst, arith, inl, inr, append_assoc, append-nil}
use Rattle.std.specs.Prelude.{ℤ, ◌/◌, ◌⊎◌, IsSomeAnd, get_or, slice_get}
use Rattle.std.specs.List.{AllByRecursion}
use Rattle.std.proofs.lemmas.Bool.{cases_lt}
use Rattle.std.proofs.lemmas.Option.{slice_get_within}
use Rattle.cell_span.specs.declared.cell.Cell.{Cell}
use Rattle.camelot_values.specs.Value.{Value}
use Rattle.camelot_values.specs.Kinds.{DataType, IsDataType}
use Rattle.camelot_values.specs.declared.kinds.Kind.{Kind}
use Rattle.grail_code.specs.Code.{Code}
use Rattle.licence.specs.Books.{book_of}
use Rattle.licence.specs.Licensed.{Licensed, IsLicensed}
use Rattle.text_lines.specs.Formats.{IsWrongLine, EndsEarly, IsFault}
use Rattle.text_lines.specs.FrontLaws.{lines_append, first_line}
use Rattle.text_lines.specs.Lines.{text_of_lines}
use Rattle.machine_image.specs.Images.{Bound, Frame, image_format}
use Rattle.machine_image.specs.ImageLaws.{images_one, image_faults_one}
use Rattle.machine_image.specs.Words.{cell_of}
use Rattle.cell_machine.specs.Cells.{inline_base, free_cell}
use Rattle.cell_machine.specs.Saved.{Saved}
use Rattle.cell_machine.specs.Stands.{footprint, IsFreeList, times}
use Rattle.cell_machine.specs.theory.Counting.{times_append, times_here}
use Rattle.cell_machine.specs.theory.Reading.{one_value}
use Rattle.cell_owners.specs.FreeLists.{LeadsTo}
use Rattle.pause_image.specs.declared.fault.ImageFault.{ImageFault}
use Rattle.pause_image.specs.declared.fault.ImageFault.TheVariants as fault
use Rattle.pause_image.specs.Faults.{IsImageOf, IsSized, IsFreeFault, AreOwned, IsOwned, cells_asked, IsWithin, IsSizeFault, HasShapeFault, HasValueFault, HasFreeFault, IsShort, HasNetFault, IsFaultOf, IsRight}
use Rattle.pause_image.specs.Owning.{kind_in, IsOwn, IsOwnWord, words_cells, AreOwnWords, frames_cells, AreOwnFrames, IsValueFault, frames_ask}
use Rattle.pause_image.specs.Pausing.{image_of}
use Rattle.pause_image.specs.Shapes.{IsShapedAt, AreShaped, IsShapeFault}

-- ---- a text is that of one state

same_words : (n : ℕ) (ws us : List ℕ) → length ws ≡ n → length us ≡ n → ((i : ℕ) → i < n → get_or ws i 0 ≡ get_or us i 0) → ws ≡ us
same_words n [] [] h k e = refl
same_words n [] (u ∷ us) h k e = absurd (omega (arith, h, k))
same_words n (w ∷ ws) [] h k e = absurd (omega (arith, h, k))
same_words zero (w ∷ ws) (u ∷ us) h k e = absurd (omega (arith, h))
same_words (suc n) (w ∷ ws) (u ∷ us) h k e =
    ap (λ x. x ∷ ws) (e 0 (omega arith)) ∙ ap (λ l. u ∷ l) (same_words n ws us (omega (arith, h)) (omega (arith, k)) (λ i less. e (suc i) (omega (arith, less))))

same_cell : (c d : Cell) → length c.words ≡ 4 → length d.words ≡ 4 → cell_of c ≡ cell_of d → c ≡ d
same_cell c d h k e = λ i. record { tag = tags i; words = words i }
  where
    tags : c.tag ≡ d.tag
    tags = λ i. (e i).tag

    each : (i : ℕ) → i < 4 → get_or c.words i 0 ≡ get_or d.words i 0
    each zero less = λ i. (e i).w0
    each (suc zero) less = λ i. (e i).w1
    each (suc (suc zero)) less = λ i. (e i).w2
    each (suc (suc (suc zero))) less = λ i. (e i).w3
    each (suc (suc (suc (suc n)))) less = absurd (omega (arith, less))

    words : c.words ≡ d.words
    words = same_words 4 c.words d.words h k each

heads : {A : Type 0} (x y : A) (xs ys : List A) → x ∷ xs ≡ y ∷ ys → x ≡ y
heads x y xs ys e = cc

tails : {A : Type 0} (x y : A) (xs ys : List A) → x ∷ xs ≡ y ∷ ys → xs ≡ ys
tails x y xs ys e = cc

same_cells : (cs ds : List Cell) → AllByRecursion (λ (c : Cell). length c.words ≡ 4) cs → AllByRecursion (λ (c : Cell). length c.words ≡ 4) ds → map cell_of cs ≡ map cell_of ds → cs ≡ ds
same_cells [] [] h k e = refl
same_cells [] (d ∷ ds) h k e = absurd cc
same_cells (c ∷ cs) [] h k e = absurd cc
same_cells (c ∷ cs) (d ∷ ds) h k e =
    ap (λ x. x ∷ cs) (same_cell c d h.0 k.0 (heads (cell_of c) (cell_of d) (map cell_of cs) (map cell_of ds) e))
    ∙ ap (λ l. d ∷ l) (same_cells cs ds h.1 k.1 (tails (cell_of c) (cell_of d) (map cell_of cs) (map cell_of ds) e))

pub saved_one : (text : List ℕ) (s t : Saved) → IsImageOf text s → IsImageOf text t → s ≡ t
saved_one text s t h k = λ i. record {
  calls = (images i).counts.calls;
  net = (images i).counts.net;
  peak = (images i).counts.peak;
  fuel = (images i).counts.fuel;
  free = (images i).counts.free;
  frames = (images i).frames;
  cells = cells i;
}
  where
    images : image_of s ≡ image_of t
    images = images_one (image_of s) (image_of t) h.text.right k.text.right (h.text.is ∙ sym k.text.is)

    cells : s.cells ≡ t.cells
    cells = same_cells s.cells t.cells h.four k.four (λ i. (images i).cells)

-- ---- the first place that fails is one

first_one : (P : ℕ → Type 0) (m n : ℕ) → ((k : ℕ) → k < m → P k) → (P m → ⊥) → ((k : ℕ) → k < n → P k) → (P n → ⊥) → m ≡ n
first_one P m n before wrong before' wrong' = by_order (cases_lt m n) (cases_lt n m)
  where
    by_order : (m < n) ⊎ (n ≤ m) → (n < m) ⊎ (m ≤ n) → m ≡ n
    by_order (inl h) d = absurd (wrong (before' m h))
    by_order (inr h) (inl g) = absurd (wrong' (before n g))
    by_order (inr h) (inr g) = omega (arith, h, g)

-- two places in one list: the first is in front of the second
record InFront {A : Type 0} (xs : List A) (x : A) (ys : List A) : Type 0 where
  more : List A
  is : ys ≡ xs ++ x ∷ more

record SamePlace {A : Type 0} (xs : List A) (x : A) (ys : List A) (y : A) : Type 0 where
  before : xs ≡ ys
  here : x ≡ y

two_places : {A : Type 0} (xs : List A) (x : A) (us ys : List A) (y : A) (vs : List A) → xs ++ x ∷ us ≡ ys ++ y ∷ vs → InFront xs x ys ⊎ (InFront ys y xs ⊎ SamePlace xs x ys y)
two_places [] x us [] y vs e = inr (inr (record { before = refl; here = heads x y us vs e }))
two_places [] x us (z ∷ ys) y vs e = inl (record { more = ys; is = ap (λ a. a ∷ ys) (sym (heads x z us (ys ++ y ∷ vs) e)) })
two_places (z ∷ xs) x us [] y vs e = inr (inl (record { more = xs; is = ap (λ a. a ∷ xs) (heads z y (xs ++ x ∷ us) vs e) }))
two_places (a ∷ xs) x us (b ∷ ys) y vs e = one_more (heads a b (xs ++ x ∷ us) (ys ++ y ∷ vs) e) (two_places xs x us ys y vs (tails a b (xs ++ x ∷ us) (ys ++ y ∷ vs) e))
  where
    one_more : a ≡ b → InFront xs x ys ⊎ (InFront ys y xs ⊎ SamePlace xs x ys y) → InFront (a ∷ xs) x (b ∷ ys) ⊎ (InFront (b ∷ ys) y (a ∷ xs) ⊎ SamePlace (a ∷ xs) x (b ∷ ys) y)
    one_more same (inl p) = inl (record { more = p.more; is = ap (λ z. z ∷ ys) (sym same) ∙ ap (λ l. a ∷ l) p.is })
    one_more same (inr (inl p)) = inr (inl (record { more = p.more; is = ap (λ z. z ∷ xs) same ∙ ap (λ l. b ∷ l) p.is }))
    one_more same (inr (inr p)) = inr (inr (record { before = ap (λ z. z ∷ xs) same ∙ ap (λ l. b ∷ l) p.before; here = p.here }))

-- ---- values of words are one

one_own : (types : List DataType) (cells : List Cell) (few : length cells ≤ inline_base) (each : AllByRecursion IsDataType types) (before before' : List ℕ) (o : Option Kind) (w : ℕ) (v u : Value)
    → IsSomeAnd o (λ q. IsOwn types cells before q w v) → IsSomeAnd o (λ q. IsOwn types cells before' q w u) → v ≡ u
one_own types cells few each before before' None w v u h k = absurd h
one_own types cells few each before before' (Some q) w v u h k = one_value types cells few each q v u w h.fits k.fits h.stands k.stands

words_one : (p : Code) (cells : List Cell) → length cells ≤ inline_base → AllByRecursion IsDataType p.types → (before before' : List ℕ) (f : Frame) (bs : List Bound) (vs us : List Value)
    → AreOwnWords p cells before f bs vs → AreOwnWords p cells before' f bs us → vs ≡ us
words_one p cells few each before before' f [] [] [] h k = refl
words_one p cells few each before before' f [] [] (u ∷ us) h k = absurd k
words_one p cells few each before before' f [] (v ∷ vs) us h k = absurd h
words_one p cells few each before before' f (b ∷ bs) [] us h k = absurd h
words_one p cells few each before before' f (b ∷ bs) (v ∷ vs) [] h k = absurd k
words_one p cells few each before before' f (b ∷ bs) (v ∷ vs) (u ∷ us) h k =
    ap (λ x. x ∷ vs) (one_own p.types cells few each before before' (kind_in (slice_get p.funcs f.func) b.local) b.word v u h.0 k.0)
    ∙ ap (λ l. u ∷ l) (words_one p cells few each (before ++ footprint p.types cells v b.word) (before' ++ footprint p.types cells u b.word) f bs vs us h.1 k.1)

frames_one : (p : Code) (cells : List Cell) → length cells ≤ inline_base → AllByRecursion IsDataType p.types → (before before' : List ℕ) (fs : List Frame) (vss uss : List (List Value))
    → AreOwnFrames p cells before fs vss → AreOwnFrames p cells before' fs uss → vss ≡ uss
frames_one p cells few each before before' [] [] [] h k = refl
frames_one p cells few each before before' [] [] (us ∷ uss) h k = absurd k
frames_one p cells few each before before' [] (vs ∷ vss) uss h k = absurd h
frames_one p cells few each before before' (f ∷ fs) [] uss h k = absurd h
frames_one p cells few each before before' (f ∷ fs) (vs ∷ vss) [] h k = absurd k
frames_one p cells few each before before' (f ∷ fs) (vs ∷ vss) (us ∷ uss) h k =
    ap (λ x. x ∷ vss) (words_one p cells few each before before' f f.live vs us h.0 k.0)
    ∙ ap (λ l. us ∷ l) (frames_one p cells few each (before ++ words_cells p cells f.live vs) (before' ++ words_cells p cells f.live us) fs vss uss h.1 k.1)

-- where all words have values, the next one has a value behind those before it
word_own : (p : Code) (cells : List Cell) → length cells ≤ inline_base → AllByRecursion IsDataType p.types → (before : List ℕ) (f : Frame) (lower : List Bound) (b : Bound) (higher : List Bound) (vs us : List Value)
    → AreOwnWords p cells before f (lower ++ b ∷ higher) vs → AreOwnWords p cells before f lower us → (v : Value) × IsOwnWord p cells (before ++ words_cells p cells lower us) f b v
word_own p cells few each before f [] b higher [] us h k = absurd h
word_own p cells few each before f [] b higher (v ∷ vs) us h k = (v, subst (λ l. IsOwnWord p cells l f b v) (sym (append-nil before)) h.0)
word_own p cells few each before f (c ∷ lower) b higher [] us h k = absurd h
word_own p cells few each before f (c ∷ lower) b higher (v ∷ vs) [] h k = absurd k
word_own p cells few each before f (c ∷ lower) b higher (v ∷ vs) (u ∷ us) h k =
    let same : v ≡ u = one_own p.types cells few each before before (kind_in (slice_get p.funcs f.func) c.local) c.word v u h.0 k.0 in
    let rest = word_own p cells few each (before ++ footprint p.types cells u c.word) f lower b higher vs us (subst (λ x. AreOwnWords p cells (before ++ footprint p.types cells x c.word) f (lower ++ b ∷ higher) vs) same h.1) k.1 in
    (rest.0, subst (λ l. IsOwnWord p cells l f b rest.0) (append_assoc before (footprint p.types cells u c.word) (words_cells p cells lower us)) rest.1)

-- and the words of the next frame have values behind those of the frames before it
frame_own : (p : Code) (cells : List Cell) → length cells ≤ inline_base → AllByRecursion IsDataType p.types → (before : List ℕ) (older : List Frame) (f : Frame) (younger : List Frame) (vss uss : List (List Value))
    → AreOwnFrames p cells before (older ++ f ∷ younger) vss → AreOwnFrames p cells before older uss → (vs : List Value) × AreOwnWords p cells (before ++ frames_cells p cells older uss) f f.live vs
frame_own p cells few each before [] f younger [] uss h k = absurd h
frame_own p cells few each before [] f younger (vs ∷ vss) [] h k = (vs, subst (λ l. AreOwnWords p cells l f f.live vs) (sym (append-nil before)) h.0)
frame_own p cells few each before [] f younger (vs ∷ vss) (us ∷ uss) h k = absurd k
frame_own p cells few each before (g ∷ older) f younger [] uss h k = absurd h
frame_own p cells few each before (g ∷ older) f younger (vs ∷ vss) [] h k = absurd k
frame_own p cells few each before (g ∷ older) f younger (vs ∷ vss) (us ∷ uss) h k =
    let same : vs ≡ us = words_one p cells few each before before g g.live vs us h.0 k.0 in
    let rest = frame_own p cells few each (before ++ words_cells p cells g.live us) older f younger vss uss (subst (λ x. AreOwnFrames p cells (before ++ words_cells p cells g.live x) (older ++ f ∷ younger) vss) same h.1) k.1 in
    (rest.0, subst (λ l. AreOwnWords p cells l f f.live rest.0) (append_assoc before (words_cells p cells g.live us) (frames_cells p cells older uss)) rest.1)

-- ---- free lists are one

-- where a free cell says that the list goes on
abbrev next_word : Option Cell → ℕ
next_word None = 0
next_word (Some c) = get_or c.words 0 0

next_one : (o : Option Cell) (n m : ℕ) → o ≡ Some (free_cell n) → o ≡ Some (free_cell m) → n ≡ m
next_one o n m e k = ap next_word (sym e ∙ k)

-- head and cells determine the free list
list_one : (cells : List Cell) → length cells ≤ inline_base → (head : ℕ) (xs ys : List ℕ) → IsFreeList cells head xs → IsFreeList cells head ys → xs ≡ ys
list_one cells few head [] [] h k = refl
list_one cells few head [] (y ∷ ys) h k = absurd (omega (arith, h, k.0, few, slice_get_within cells y (free_cell k.1.0) k.1.1))
list_one cells few head (x ∷ xs) [] h k = absurd (omega (arith, k, h.0, few, slice_get_within cells x (free_cell h.1.0) h.1.1))
list_one cells few head (x ∷ xs) (y ∷ ys) h k =
    let same : x ≡ y = sym h.0 ∙ k.0 in
    let next : h.1.0 ≡ k.1.0 = next_one (slice_get cells x) h.1.0 k.1.0 h.1.1 (ap (slice_get cells) same ∙ k.1.1) in
    ap (λ z. z ∷ xs) same ∙ ap (λ l. y ∷ l) (list_one cells few k.1.0 xs ys (subst (λ n. IsFreeList cells n xs) next h.1.2) k.1.2)

-- a list that leads somewhere goes on there
goes_on : (cells : List Cell) → length cells ≤ inline_base → (head : ℕ) (met : List ℕ) (at : ℕ) (free : List ℕ) → LeadsTo cells head met at → IsFreeList cells head free
    → (rest : List ℕ) × ((free ≡ met ++ rest) × IsFreeList cells at rest)
goes_on cells few head [] at free h k = (free, (refl, subst (λ n. IsFreeList cells n free) h k))
goes_on cells few head (x ∷ met) at [] h k = absurd (omega (arith, k, h.0, few, slice_get_within cells x (free_cell h.1.0) h.1.1))
goes_on cells few head (x ∷ met) at (y ∷ free) h k =
    let same : x ≡ y = sym h.0 ∙ k.0 in
    let next : h.1.0 ≡ k.1.0 = next_one (slice_get cells x) h.1.0 k.1.0 h.1.1 (ap (slice_get cells) same ∙ k.1.1) in
    let rest = goes_on cells few k.1.0 met at free (subst (λ n. LeadsTo cells n met at) next h.1.2) k.1.2 in
    (rest.0, (ap (λ z. z ∷ free) (sym same) ∙ ap (λ l. x ∷ l) rest.1.0, rest.1.1))

-- a list that leads to a free cell, and from there further on
record Further (cells : List Cell) (xs : List ℕ) (a : ℕ) (ys : List ℕ) : Type 0 where
  more : List ℕ
  next : ℕ
  is : ys ≡ xs ++ a ∷ more
  free : slice_get cells a ≡ Some (free_cell next)

further_on : (cells : List Cell) (z w : ℕ) (xs : List ℕ) (a : ℕ) (ys : List ℕ) → z ≡ w → Further cells xs a ys → Further cells (z ∷ xs) a (w ∷ ys)
further_on cells z w xs a ys e f = record { more = f.more; next = f.next; is = ap (λ l. w ∷ l) f.is ∙ ap (λ z. z ∷ xs ++ a ∷ f.more) (sym e); free = f.free }

leads_two : (cells : List Cell) (head : ℕ) (xs : List ℕ) (a : ℕ) (ys : List ℕ) (b : ℕ) → LeadsTo cells head xs a → LeadsTo cells head ys b
    → Further cells xs a ys ⊎ (Further cells ys b xs ⊎ (a ≡ b))
leads_two cells head [] a [] b h k = inr (inr (sym h ∙ k))
leads_two cells head [] a (y ∷ ys) b h k =
    let same : y ≡ a = sym k.0 ∙ h in
    inl (record { more = ys; next = k.1.0; is = ap (λ z. z ∷ ys) same; free = ap (slice_get cells) (sym same) ∙ k.1.1 })
leads_two cells head (x ∷ xs) a [] b h k =
    let same : x ≡ b = sym h.0 ∙ k in
    inr (inl (record { more = xs; next = h.1.0; is = ap (λ z. z ∷ xs) same; free = ap (slice_get cells) (sym same) ∙ h.1.1 }))
leads_two cells head (x ∷ xs) a (y ∷ ys) b h k = one_more (leads_two cells k.1.0 xs a ys b (subst (λ n. LeadsTo cells n xs a) next h.1.2) k.1.2)
  where
    same : x ≡ y
    same = sym h.0 ∙ k.0

    next : h.1.0 ≡ k.1.0
    next = next_one (slice_get cells x) h.1.0 k.1.0 h.1.1 (ap (slice_get cells) same ∙ k.1.1)

    one_more : Further cells xs a ys ⊎ (Further cells ys b xs ⊎ (a ≡ b)) → Further cells (x ∷ xs) a (y ∷ ys) ⊎ (Further cells (y ∷ ys) b (x ∷ xs) ⊎ (a ≡ b))
    one_more (inl f) = inl (further_on cells x y xs a ys same f)
    one_more (inr (inl f)) = inr (inl (further_on cells y x ys b xs (sym same) f))
    one_more (inr (inr e)) = inr (inr e)

-- ---- faults of one state

-- the first frame without its shape is one
shape_one : (l : Licensed) (fs : List Frame) (m n : ℕ) → IsShapeFault l fs m → IsShapeFault l fs n → m ≡ n
shape_one l fs m n x y = first_one (IsShapedAt l fs) m n x.before x.wrong y.before y.wrong

-- no word is without a value where all have one
value_none : (p : Code) (cells : List Cell) → length cells ≤ inline_base → AllByRecursion IsDataType p.types → (fs : List Frame) (vss : List (List Value)) (n x : ℕ)
    → AreOwnFrames p cells [] fs vss → IsValueFault p cells fs n x → ⊥
value_none p cells few each fs vss n x h f =
    let frame = frame_own p cells few each [] f.older f.frame f.younger vss f.values (subst (λ fs. AreOwnFrames p cells [] fs vss) f.frames h) f.own in
    let word = word_own p cells few each (frames_cells p cells f.older f.values) f.frame f.lower f.bound f.higher frame.0 f.lower_values
    (subst (λ bs. AreOwnWords p cells (frames_cells p cells f.older f.values) f.frame bs frame.0) f.bounds frame.1) f.lower_own in
    f.none word.0 word.1

-- of two first words without a value, neither is in an older frame
value_older : (p : Code) (cells : List Cell) → length cells ≤ inline_base → AllByRecursion IsDataType p.types → (fs : List Frame) (m x n y : ℕ)
    → (f : IsValueFault p cells fs m x) (g : IsValueFault p cells fs n y) → InFront f.older f.frame g.older → ⊥
value_older p cells few each fs m x n y f g i =
    let frame = frame_own p cells few each [] f.older f.frame i.more g.values f.values (subst (λ fs. AreOwnFrames p cells [] fs g.values) i.is g.own) f.own in
    let word = word_own p cells few each (frames_cells p cells f.older f.values) f.frame f.lower f.bound f.higher frame.0 f.lower_values
    (subst (λ bs. AreOwnWords p cells (frames_cells p cells f.older f.values) f.frame bs frame.0) f.bounds frame.1) f.lower_own in
    f.none word.0 word.1

-- nor in front in the same frame
value_lower : (p : Code) (cells : List Cell) → length cells ≤ inline_base → AllByRecursion IsDataType p.types → (fs : List Frame) (m x n y : ℕ)
    → (f : IsValueFault p cells fs m x) (g : IsValueFault p cells fs n y) → SamePlace f.older f.frame g.older g.frame → InFront f.lower f.bound g.lower → ⊥
value_lower p cells few each fs m x n y f g same i =
    let values : g.values ≡ f.values = frames_one p cells few each [] [] f.older g.values f.values (subst (λ fs. AreOwnFrames p cells [] fs g.values) (sym same.before) g.own) f.own in
    let before : frames_cells p cells g.older g.values ≡ frames_cells p cells f.older f.values = ap (λ fs. frames_cells p cells fs g.values) (sym same.before) ∙ ap (frames_cells p cells f.older) values in
    let lower : AreOwnWords p cells (frames_cells p cells f.older f.values) f.frame (f.lower ++ f.bound ∷ i.more) g.lower_values =
    subst (λ bs. AreOwnWords p cells (frames_cells p cells f.older f.values) f.frame bs g.lower_values) i.is
    (subst (λ fr. AreOwnWords p cells (frames_cells p cells f.older f.values) fr g.lower g.lower_values) (sym same.here)
    (subst (λ l. AreOwnWords p cells l g.frame g.lower g.lower_values) before g.lower_own)) in
    let word = word_own p cells few each (frames_cells p cells f.older f.values) f.frame f.lower f.bound i.more g.lower_values f.lower_values lower f.lower_own in
    f.none word.0 word.1

-- so the first word without a value is one
value_one : (p : Code) (cells : List Cell) → length cells ≤ inline_base → AllByRecursion IsDataType p.types → (fs : List Frame) (m x n y : ℕ)
    → IsValueFault p cells fs m x → IsValueFault p cells fs n y → (m ≡ n) × (x ≡ y)
value_one p cells few each fs m x n y f g = by_frame (two_places f.older f.frame f.younger g.older g.frame g.younger (sym f.frames ∙ g.frames))
  where
    by_word : SamePlace f.older f.frame g.older g.frame → InFront f.lower f.bound g.lower ⊎ (InFront g.lower g.bound f.lower ⊎ SamePlace f.lower f.bound g.lower g.bound) → (m ≡ n) × (x ≡ y)
    by_word same (inl i) = absurd (value_lower p cells few each fs m x n y f g same i)
    by_word same (inr (inl i)) = absurd (value_lower p cells few each fs n y m x g f (record { before = sym same.before; here = sym same.here }) i)
    by_word same (inr (inr e)) = (f.count ∙ ap length same.before ∙ sym g.count, f.is ∙ ap (λ (b : Bound). b.local) e.here ∙ sym g.is)

    by_frame : InFront f.older f.frame g.older ⊎ (InFront g.older g.frame f.older ⊎ SamePlace f.older f.frame g.older g.frame) → (m ≡ n) × (x ≡ y)
    by_frame (inl i) = absurd (value_older p cells few each fs m x n y f g i)
    by_frame (inr (inl i)) = absurd (value_older p cells few each fs n y m x g f i)
    by_frame (inr (inr same)) = by_word same (two_places f.lower f.bound f.higher g.lower g.bound g.higher (sym f.bounds ∙ ap (λ (fr : Frame). fr.live) same.here ∙ g.bounds))

-- no offset fails in a free list without repeats, none of whose cells was taken before
free_none : (cells : List Cell) → length cells ≤ inline_base → (before : List ℕ) (head at : ℕ) (free : List ℕ) → IsFreeList cells head free
    → ((x : ℕ) → times x before + times x free ≤ 1) → IsFreeFault cells before head at → ⊥
free_none cells few before head at free runs once f =
    let rest = goes_on cells few head f.met at free f.leads runs in
    by_rest rest.0 rest.1.0 rest.1.1
  where
    by_rest : (rest : List ℕ) → free ≡ f.met ++ rest → IsFreeList cells at rest → ⊥
    by_rest [] e h = f.goes_on h
    by_rest (y ∷ more) e h =
        let fails = f.fails h.1.0 (ap (slice_get cells) h.0 ∙ h.1.1) in
        let there : times at (y ∷ more) ≡ times at (at ∷ more) = ap (λ z. times at (z ∷ more)) (sym h.0) in
        absurd (omega (arith, fails, there, times_here at, once at, ap (times at) e, times_append at f.met (y ∷ more)))

-- the first offset that fails is one
free_further : (cells : List Cell) (before : List ℕ) (head a b : ℕ) → (f : IsFreeFault cells before head a) (g : IsFreeFault cells before head b) → Further cells f.met a g.met → ⊥
free_further cells before head a b f g i =
    let fails = f.fails i.next i.free in
    absurd (omega (arith, fails, g.once a, ap (times a) i.is, times_append a f.met (a ∷ i.more), times_here a))

free_one : (cells : List Cell) (before : List ℕ) (head a b : ℕ) → IsFreeFault cells before head a → IsFreeFault cells before head b → a ≡ b
free_one cells before head a b f g = by_way (leads_two cells head f.met a g.met b f.leads g.leads)
  where
    by_way : Further cells f.met a g.met ⊎ (Further cells g.met b f.met ⊎ (a ≡ b)) → a ≡ b
    by_way (inl i) = absurd (free_further cells before head a b f g i)
    by_way (inr (inl i)) = absurd (free_further cells before head b a g f i)
    by_way (inr (inr e)) = e

-- ---- what stands against a fault

-- no line of an image is wrong
line_none : (text : List ℕ) (line : ℕ) (s : Saved) → IsFault image_format 0 text line → IsImageOf text s → ⊥
line_none text line s f h = by_case f
  where
    by_case : IsWrongLine image_format 0 text line ⊎ EndsEarly image_format text line → ⊥
    by_case (inl f) = f.wrong (record {
      value = image_of s;
      rest = f.rest;
      is = h.text.is ∙ f.parts ∙ ap (λ l. text_of_lines f.before ++ l) (sym (first_line f.line [] f.rest)) ∙ sym (append_assoc (text_of_lines f.before) (text_of_lines (f.line ∷ [])) f.rest)
          ∙ ap (λ l. l ++ f.rest) (sym (lines_append f.before (f.line ∷ [])));
      meets = h.text.right;
    })
    by_case (inr f) = f.unfinished (image_of s) h.text

size_none : (text : List ℕ) (size cells len : ℕ) (s : Saved) → IsSizeFault text size cells len → IsSized text size s → ⊥
size_none text size cells len s f h = f.differ (f.cells ∙ ap (λ (s : Saved). length s.cells) (saved_one text f.s s f.image h.image) ∙ h.size ∙ sym f.len)

shape_none : (l : Licensed) (text : List ℕ) (size n : ℕ) (s : Saved) → HasShapeFault l text size n → IsImageOf text s → AreShaped l s.frames → ⊥
shape_none l text size n s f h shaped =
    let there : AreShaped l f.s.frames = subst (λ (s : Saved). AreShaped l s.frames) (saved_one text s f.s h f.sized.image) shaped in
    f.fault.wrong (there n f.fault.there)

few_cells : (text : List ℕ) (size : ℕ) (s : Saved) → size ≤ 2147483648 → IsSized text size s → length s.cells ≤ inline_base
few_cells text size s few h = omega (arith, few, h.size)

values_none : (l : Licensed) (text : List ℕ) (size n x : ℕ) (s : Saved) → IsLicensed l → size ≤ 2147483648 → HasValueFault l text size n x → IsImageOf text s → AreOwned l s → ⊥
values_none l text size n x s lic few f h owned =
    let there : AreOwned l f.s = subst (AreOwned l) (saved_one text s f.s h f.sized.image) owned in
    value_none l.code f.s.cells (few_cells text size f.s few f.sized) lic.limits.types.each f.s.frames there.values n x there.own f.fault

frees_none : (l : Licensed) (text : List ℕ) (size at : ℕ) (s : Saved) → IsLicensed l → size ≤ 2147483648 → HasFreeFault l text size at → IsImageOf text s → IsOwned l s → ⊥
frees_none l text size at s lic few f h owned =
    let there : IsOwned l f.s = subst (IsOwned l) (saved_one text s f.s h f.sized.image) owned in
    let cells = few_cells text size f.s few f.sized in
    let values : there.frames.values ≡ f.frames.values = frames_one l.code f.s.cells cells lic.limits.types.each [] [] f.s.frames there.frames.values f.frames.values there.frames.own f.frames.own in
    free_none f.s.cells cells (frames_cells l.code f.s.cells f.s.frames f.frames.values) f.s.free at there.free there.runs
    (λ x. subst (λ vss. times x (frames_cells l.code f.s.cells f.s.frames vss) + times x there.free ≤ 1) values (there.once x)) f.fault

-- who owns the cells is one
record SameOwned (l : Licensed) (s t : Saved) (o : IsOwned l s) (k : IsOwned l t) : Type 0 where
  free : length o.free ≡ length k.free
  asked : cells_asked l s o ≡ cells_asked l t k

owned_here : (l : Licensed) (s : Saved) → IsLicensed l → length s.cells ≤ inline_base → (o k : IsOwned l s) → SameOwned l s s o k
owned_here l s lic few o k = record {
  free = ap length (list_one s.cells few s.free o.free k.free o.runs k.runs);
  asked = ap (λ vss. frames_ask l s.frames vss / (book_of l.cert).unit) (frames_one l.code s.cells few lic.limits.types.each [] [] s.frames o.frames.values k.frames.values o.frames.own k.frames.own);
}

owned_one : (l : Licensed) (text : List ℕ) (size : ℕ) (s t : Saved) → IsLicensed l → size ≤ 2147483648 → IsSized text size s → IsImageOf text t → (o : IsOwned l s) (k : IsOwned l t) → SameOwned l s t o k
owned_one l text size s t lic few h g o k =
    subst (λ (t : Saved). (k : IsOwned l t) → SameOwned l s t o k) (saved_one text s t h.image g) (λ k. owned_here l s lic (few_cells text size s few h) o k) k

shorts_none : (l : Licensed) (text : List ℕ) (size free need : ℕ) (s : Saved) → IsLicensed l → size ≤ 2147483648 → IsShort l text size free need → IsImageOf text s
    → (o : IsOwned l s) → cells_asked l s o ≤ length o.free → ⊥
shorts_none l text size free need s lic few f h o enough =
    let same = owned_one l text size f.s s lic few f.sized h f.owned o in
    absurd (omega (arith, same.free, same.asked, f.free, f.need, f.short, enough))

nets_none : (l : Licensed) (text : List ℕ) (size : ℕ) (net : ℤ) (free : ℕ) (s : Saved) → IsLicensed l → size ≤ 2147483648 → HasNetFault l text size net free → IsImageOf text s
    → (o : IsOwned l s) → IsWithin s.net (length o.free) size → ⊥
nets_none l text size net free s lic few f h o within =
    let same = owned_one l text size f.s s lic few f.sized h f.owned o in
    let net_is : s.net ≡ net = ap (λ (s : Saved). s.net) (sym (saved_one text f.s s f.sized.image h)) ∙ sym f.net in
    f.outside (subst (λ n. IsWithin net n size) (sym same.free ∙ sym f.free) (subst (λ z. IsWithin z (length o.free) size) net_is within))

-- ---- the laws

-- A text that is right has no fault.
pub no_fault : (l : Licensed) (text : List ℕ) (size : ℕ) (s : Saved) (fault : ImageFault) → IsLicensed l → size ≤ 2147483648 → IsRight l text size s → IsFaultOf l text size fault → ⊥
no_fault l text size s (fault.Line line) lic few r f = line_none text line s f r.sized.image
no_fault l text size s (fault.Size cells len) lic few r f = size_none text size cells len s f r.sized
no_fault l text size s (fault.Shape frame) lic few r f = shape_none l text size frame s f r.sized.image r.owned.frames.shaped
no_fault l text size s (fault.Value frame local) lic few r f = values_none l text size frame local s lic few f r.sized.image r.owned.frames
no_fault l text size s (fault.Free at) lic few r f = frees_none l text size at s lic few f r.sized.image r.owned
no_fault l text size s (fault.Short free need) lic few r f = shorts_none l text size free need s lic few f r.sized.image r.owned r.enough
no_fault l text size s (fault.Net net free) lic few r f = nets_none l text size net free s lic few f r.sized.image r.owned r.within

size_one : (text : List ℕ) (size c n d m : ℕ) → IsSizeFault text size c n → IsSizeFault text size d m → fault.Size c n ≡ fault.Size d m
size_one text size c n d m f g =
    let cells : c ≡ d = f.cells ∙ ap (λ (s : Saved). length s.cells) (saved_one text f.s g.s f.image g.image) ∙ sym g.cells in
    let len : n ≡ m = f.len ∙ sym g.len in
    ap (λ k. fault.Size k n) cells ∙ ap (fault.Size d) len

shapes_one : (l : Licensed) (text : List ℕ) (size m n : ℕ) → HasShapeFault l text size m → HasShapeFault l text size n → fault.Shape m ≡ fault.Shape n
shapes_one l text size m n f g =
    ap fault.Shape (shape_one l g.s.frames m n (subst (λ (s : Saved). IsShapeFault l s.frames m) (saved_one text f.s g.s f.sized.image g.sized.image) f.fault) g.fault)

values_one : (l : Licensed) (text : List ℕ) (size m x n y : ℕ) → IsLicensed l → size ≤ 2147483648 → HasValueFault l text size m x → HasValueFault l text size n y → fault.Value m x ≡ fault.Value n y
values_one l text size m x n y lic few f g =
    let same = value_one l.code g.s.cells (few_cells text size g.s few g.sized) lic.limits.types.each g.s.frames m x n y
    (subst (λ (s : Saved). IsValueFault l.code s.cells s.frames m x) (saved_one text f.s g.s f.sized.image g.sized.image) f.fault) g.fault in
    ap (λ k. fault.Value k x) same.0 ∙ ap (fault.Value n) same.1

frees_one : (l : Licensed) (text : List ℕ) (size a b : ℕ) → IsLicensed l → size ≤ 2147483648 → HasFreeFault l text size a → HasFreeFault l text size b → fault.Free a ≡ fault.Free b
frees_one l text size a b lic few f g = ap fault.Free (free_one g.s.cells (frames_cells l.code g.s.cells g.s.frames g.frames.values) g.s.free a b (moved g.s (saved_one text f.s g.s f.sized.image g.sized.image) (few_cells text size g.s few g.sized) g.frames) g.fault)
  where
    here : length f.s.cells ≤ inline_base → (k : AreOwned l f.s) → IsFreeFault f.s.cells (frames_cells l.code f.s.cells f.s.frames k.values) f.s.free a
    here cells k = subst (λ vss. IsFreeFault f.s.cells (frames_cells l.code f.s.cells f.s.frames vss) f.s.free a)
        (frames_one l.code f.s.cells cells lic.limits.types.each [] [] f.s.frames f.frames.values k.values f.frames.own k.own) f.fault

    moved : (t : Saved) → f.s ≡ t → length t.cells ≤ inline_base → (k : AreOwned l t) → IsFreeFault t.cells (frames_cells l.code t.cells t.frames k.values) t.free a
    moved t e = subst (λ (t : Saved). length t.cells ≤ inline_base → (k : AreOwned l t) → IsFreeFault t.cells (frames_cells l.code t.cells t.frames k.values) t.free a) e here

shorts_one : (l : Licensed) (text : List ℕ) (size a b c d : ℕ) → IsLicensed l → size ≤ 2147483648 → IsShort l text size a b → IsShort l text size c d → fault.Short a b ≡ fault.Short c d
shorts_one l text size a b c d lic few f g =
    let same = owned_one l text size f.s g.s lic few f.sized g.sized.image f.owned g.owned in
    let free : a ≡ c = f.free ∙ same.free ∙ sym g.free in
    let need : b ≡ d = f.need ∙ same.asked ∙ sym g.need in
    ap (λ k. fault.Short k b) free ∙ ap (fault.Short c) need

nets_one : (l : Licensed) (text : List ℕ) (size : ℕ) (a : ℤ) (b : ℕ) (c : ℤ) (d : ℕ) → IsLicensed l → size ≤ 2147483648 → HasNetFault l text size a b → HasNetFault l text size c d → fault.Net a b ≡ fault.Net c d
nets_one l text size a b c d lic few f g =
    let same = owned_one l text size f.s g.s lic few f.sized g.sized.image f.owned g.owned in
    let net : a ≡ c = f.net ∙ ap (λ (s : Saved). s.net) (saved_one text f.s g.s f.sized.image g.sized.image) ∙ sym g.net in
    let free : b ≡ d = f.free ∙ same.free ∙ sym g.free in
    ap (λ k. fault.Net k b) net ∙ ap (fault.Net c) free

-- A text has one fault at most.
pub one_fault : (l : Licensed) (text : List ℕ) (size : ℕ) (f g : ImageFault) → IsLicensed l → size ≤ 2147483648 → IsFaultOf l text size f → IsFaultOf l text size g → f ≡ g
one_fault l text size (fault.Line a) (fault.Line c) lic few f g = ap fault.Line (image_faults_one text a c f g).line
one_fault l text size (fault.Line a) (fault.Size c d) lic few f g = absurd (line_none text a g.s f g.image)
one_fault l text size (fault.Line a) (fault.Shape c) lic few f g = absurd (line_none text a g.s f g.sized.image)
one_fault l text size (fault.Line a) (fault.Value c d) lic few f g = absurd (line_none text a g.s f g.sized.image)
one_fault l text size (fault.Line a) (fault.Free c) lic few f g = absurd (line_none text a g.s f g.sized.image)
one_fault l text size (fault.Line a) (fault.Short c d) lic few f g = absurd (line_none text a g.s f g.sized.image)
one_fault l text size (fault.Line a) (fault.Net c d) lic few f g = absurd (line_none text a g.s f g.sized.image)
one_fault l text size (fault.Size a b) (fault.Line c) lic few f g = absurd (line_none text c f.s g f.image)
one_fault l text size (fault.Size a b) (fault.Size c d) lic few f g = size_one text size a b c d f g
one_fault l text size (fault.Size a b) (fault.Shape c) lic few f g = absurd (size_none text size a b g.s f g.sized)
one_fault l text size (fault.Size a b) (fault.Value c d) lic few f g = absurd (size_none text size a b g.s f g.sized)
one_fault l text size (fault.Size a b) (fault.Free c) lic few f g = absurd (size_none text size a b g.s f g.sized)
one_fault l text size (fault.Size a b) (fault.Short c d) lic few f g = absurd (size_none text size a b g.s f g.sized)
one_fault l text size (fault.Size a b) (fault.Net c d) lic few f g = absurd (size_none text size a b g.s f g.sized)
one_fault l text size (fault.Shape a) (fault.Line c) lic few f g = absurd (line_none text c f.s g f.sized.image)
one_fault l text size (fault.Shape a) (fault.Size c d) lic few f g = absurd (size_none text size c d f.s g f.sized)
one_fault l text size (fault.Shape a) (fault.Shape c) lic few f g = shapes_one l text size a c f g
one_fault l text size (fault.Shape a) (fault.Value c d) lic few f g = absurd (shape_none l text size a g.s f g.sized.image g.shaped)
one_fault l text size (fault.Shape a) (fault.Free c) lic few f g = absurd (shape_none l text size a g.s f g.sized.image g.frames.shaped)
one_fault l text size (fault.Shape a) (fault.Short c d) lic few f g = absurd (shape_none l text size a g.s f g.sized.image g.owned.frames.shaped)
one_fault l text size (fault.Shape a) (fault.Net c d) lic few f g = absurd (shape_none l text size a g.s f g.sized.image g.owned.frames.shaped)
one_fault l text size (fault.Value a b) (fault.Line c) lic few f g = absurd (line_none text c f.s g f.sized.image)
one_fault l text size (fault.Value a b) (fault.Size c d) lic few f g = absurd (size_none text size c d f.s g f.sized)
one_fault l text size (fault.Value a b) (fault.Shape c) lic few f g = absurd (shape_none l text size c f.s g f.sized.image f.shaped)
one_fault l text size (fault.Value a b) (fault.Value c d) lic few f g = values_one l text size a b c d lic few f g
one_fault l text size (fault.Value a b) (fault.Free c) lic few f g = absurd (values_none l text size a b g.s lic few f g.sized.image g.frames)
one_fault l text size (fault.Value a b) (fault.Short c d) lic few f g = absurd (values_none l text size a b g.s lic few f g.sized.image g.owned.frames)
one_fault l text size (fault.Value a b) (fault.Net c d) lic few f g = absurd (values_none l text size a b g.s lic few f g.sized.image g.owned.frames)
one_fault l text size (fault.Free a) (fault.Line c) lic few f g = absurd (line_none text c f.s g f.sized.image)
one_fault l text size (fault.Free a) (fault.Size c d) lic few f g = absurd (size_none text size c d f.s g f.sized)
one_fault l text size (fault.Free a) (fault.Shape c) lic few f g = absurd (shape_none l text size c f.s g f.sized.image f.frames.shaped)
one_fault l text size (fault.Free a) (fault.Value c d) lic few f g = absurd (values_none l text size c d f.s lic few g f.sized.image f.frames)
one_fault l text size (fault.Free a) (fault.Free c) lic few f g = frees_one l text size a c lic few f g
one_fault l text size (fault.Free a) (fault.Short c d) lic few f g = absurd (frees_none l text size a g.s lic few f g.sized.image g.owned)
one_fault l text size (fault.Free a) (fault.Net c d) lic few f g = absurd (frees_none l text size a g.s lic few f g.sized.image g.owned)
one_fault l text size (fault.Short a b) (fault.Line c) lic few f g = absurd (line_none text c f.s g f.sized.image)
one_fault l text size (fault.Short a b) (fault.Size c d) lic few f g = absurd (size_none text size c d f.s g f.sized)
one_fault l text size (fault.Short a b) (fault.Shape c) lic few f g = absurd (shape_none l text size c f.s g f.sized.image f.owned.frames.shaped)
one_fault l text size (fault.Short a b) (fault.Value c d) lic few f g = absurd (values_none l text size c d f.s lic few g f.sized.image f.owned.frames)
one_fault l text size (fault.Short a b) (fault.Free c) lic few f g = absurd (frees_none l text size c f.s lic few g f.sized.image f.owned)
one_fault l text size (fault.Short a b) (fault.Short c d) lic few f g = shorts_one l text size a b c d lic few f g
one_fault l text size (fault.Short a b) (fault.Net c d) lic few f g = absurd (shorts_none l text size a b g.s lic few f g.sized.image g.owned (omega (arith, g.enough, g.free)))
one_fault l text size (fault.Net a b) (fault.Line c) lic few f g = absurd (line_none text c f.s g f.sized.image)
one_fault l text size (fault.Net a b) (fault.Size c d) lic few f g = absurd (size_none text size c d f.s g f.sized)
one_fault l text size (fault.Net a b) (fault.Shape c) lic few f g = absurd (shape_none l text size c f.s g f.sized.image f.owned.frames.shaped)
one_fault l text size (fault.Net a b) (fault.Value c d) lic few f g = absurd (values_none l text size c d f.s lic few g f.sized.image f.owned.frames)
one_fault l text size (fault.Net a b) (fault.Free c) lic few f g = absurd (frees_none l text size c f.s lic few g f.sized.image f.owned)
one_fault l text size (fault.Net a b) (fault.Short c d) lic few f g = absurd (shorts_none l text size c d f.s lic few g f.sized.image f.owned (omega (arith, f.enough, f.free)))
one_fault l text size (fault.Net a b) (fault.Net c d) lic few f g = nets_one l text size a b c d lic few f g
