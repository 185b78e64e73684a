-- Laws, for the proofs of this crate and of those above it.
-- What the format of images shows of its machine; so each text is an image's or has one first wrong line.
use Rattle.std.proofs.Common.{◌≡◌, ℕ, zero, suc, ◌+◌, ◌-◌, ◌<◌, ◌≤◌, true, List, [], ◌∷◌, ◌++◌, length, Option, Some, refl, sym, ap, ◌∙◌, subst, arith, append_assoc, append-nil, length-append}
use Rattle.std.specs.Prelude.{map, flat_map, nat_lt, ◌==◌, ◌&&◌}
use Rattle.std.specs.List.{AllByRecursion}
use Rattle.std.proofs.lemmas.Bool.Decides.{nat_tests}
use Rattle.text_lines.specs.Cuts.{and_then}
use Rattle.text_lines.specs.OptionLaws.{and_parts, some_same, then_some, then_is, only_some, only_is, map_some, map_is}
use Rattle.text_lines.specs.FrontLaws.{all_append, all_left, all_last, flat_append}
use Rattle.text_lines.specs.Formats.{IsFault, IsJudged, IsSame}
use Rattle.text_lines.specs.FormatLaws.{faults_one}
use Rattle.text_lines.specs.Machines.{Shows}
use Rattle.text_lines.specs.ReadingLaws.{values_one, each_judged}
use Rattle.text_lines.specs.Spellings.{text_of_words, IsWordLine, run_words, IsSpelledOn, SpellingShows}
use Rattle.text_lines.specs.SpellingLaws.{run_words_append, shows_of}
use Rattle.machine_image.specs.Images.{Counts, Bound, Frame, Cell, Image, Is32, CountsAreFormed, BoundIsFormed, IsRising, FrameIsFormed, CellIsFormed, IsFilled, IsImage, first_words, counts_words, frame_words, bound_words, cell_words, end_words, frame_lines, front_lines, image_lines, image_text, image_format}
use Rattle.machine_image.specs.Reading.{Line, LFrame, LLocal, LCell, LEnd, line_of, line_words, counts_of, same_words, Front, Start, Named, Counted, Framed, Done, frame_by_three, with_local, is_above, is_empty, image_by, first_frame, take_line, step, may_end, no_counts, no_cells, closed, told, image_spelling, image_machine}
use Rattle.machine_image.specs.WordLaws.{line_found, line_read, LineIsFormed, counts_found, counts_read, first_found, line_is_words, counts_are_words, first_is_words}

map_append : {A B : Type 0} (f : A → B) (xs ys : List A) → map f (xs ++ ys) ≡ map f xs ++ map f ys
map_append f [] ys = refl
map_append f (x ∷ xs) ys = ap (λ l. f x ∷ l) (map_append f xs ys)

none_is : {A : Type 0} (xs : List A) → is_empty xs ≡ true → xs ≡ []
none_is [] e = refl
none_is (x ∷ xs) e = absurd cc

-- ---- what was read

told_frame : (c : Counts) (fs : List Frame) (f : Frame) (cs : List Cell) (a b p : ℕ) (ws : List (List ℕ)) → cs ≡ [] → ws ≡ frame_words a b p
    → told (Framed c (fs ++ f ∷ []) (frame_by_three a b p) cs) ≡ told (Framed c fs f cs) ++ ws ∷ []
told_frame c fs f cs a b p ws n e =
    let A : List (List (List ℕ)) = flat_map frame_lines (fs ++ f ∷ []) in
    ap (λ cs. front_lines c ++ (flat_map frame_lines ((fs ++ f ∷ []) ++ frame_by_three a b p ∷ []) ++ map cell_words cs)) n
    ∙ ap (λ l. front_lines c ++ l) (append-nil (flat_map frame_lines ((fs ++ f ∷ []) ++ frame_by_three a b p ∷ [])) ∙ flat_append frame_lines (fs ++ f ∷ []) (frame_by_three a b p ∷ []) ∙ ap (λ w. A ++ w ∷ []) (sym e) ∙ ap (λ l. l ++ ws ∷ []) (sym (append-nil A)))
    ∙ ap (λ cs. front_lines c ++ ((A ++ map cell_words cs) ++ ws ∷ [])) (sym n)

told_local : (c : Counts) (fs : List Frame) (f : Frame) (cs : List Cell) (b : Bound) (ws : List (List ℕ)) → cs ≡ [] → ws ≡ bound_words b
    → told (Framed c fs (with_local f b) cs) ≡ told (Framed c fs f cs) ++ ws ∷ []
told_local c fs f cs b ws n e =
    let A : List (List (List ℕ)) = flat_map frame_lines (fs ++ f ∷ []) in
    let B : List (List (List ℕ)) = flat_map frame_lines fs in
    let lines : frame_lines (with_local f b) ≡ frame_lines f ++ ws ∷ [] = ap (λ l. frame_words f.func f.block f.place ∷ l) (map_append bound_words f.live (b ∷ [])) ∙ ap (λ w. frame_lines f ++ w ∷ []) (sym e) in
    let all : flat_map frame_lines (fs ++ with_local f b ∷ []) ≡ A ++ ws ∷ [] =
    flat_append frame_lines fs (with_local f b ∷ []) ∙ ap (λ l. B ++ l) (append-nil (frame_lines (with_local f b)) ∙ lines) ∙ sym (append_assoc B (frame_lines f) (ws ∷ []))
    ∙ ap (λ l. (B ++ l) ++ ws ∷ []) (sym (append-nil (frame_lines f))) ∙ ap (λ l. l ++ ws ∷ []) (sym (flat_append frame_lines fs (f ∷ []))) in
    ap (λ cs. front_lines c ++ (flat_map frame_lines (fs ++ with_local f b ∷ []) ++ map cell_words cs)) n
    ∙ ap (λ l. front_lines c ++ l) (append-nil (flat_map frame_lines (fs ++ with_local f b ∷ [])) ∙ all ∙ ap (λ l. l ++ ws ∷ []) (sym (append-nil A)))
    ∙ ap (λ cs. front_lines c ++ ((A ++ map cell_words cs) ++ ws ∷ [])) (sym n)

told_cell : (c : Counts) (fs : List Frame) (f : Frame) (cs : List Cell) (d : Cell) (ws : List (List ℕ)) → ws ≡ cell_words d
    → told (Framed c fs f (cs ++ d ∷ [])) ≡ told (Framed c fs f cs) ++ ws ∷ []
told_cell c fs f cs d ws e =
    let A : List (List (List ℕ)) = flat_map frame_lines (fs ++ f ∷ []) in
    ap (λ l. front_lines c ++ l) (ap (λ l. A ++ l) (map_append cell_words cs (d ∷ []) ∙ ap (λ w. map cell_words cs ++ w ∷ []) (sym e)) ∙ sym (append_assoc A (map cell_words cs) (ws ∷ [])))

told_end : (c : Counts) (fs : List Frame) (f : Frame) (cs : List Cell) (ws : List (List ℕ)) → ws ≡ end_words
    → told (Done (image_by c (fs ++ f ∷ []) cs)) ≡ told (Framed c fs f cs) ++ ws ∷ []
told_end c fs f cs ws e =
    let A : List (List (List ℕ)) = flat_map frame_lines (fs ++ f ∷ []) in
    ap (λ l. front_lines c ++ l) (ap (λ w. A ++ (map cell_words cs ++ w ∷ [])) (sym e) ∙ sym (append_assoc A (map cell_words cs) (ws ∷ [])))

step_told : (s t : Front) (ws : List (List ℕ)) → step s ws ≡ Some t → told t ≡ told s ++ ws ∷ []
step_told Start t ws e =
    let p = only_some (same_words ws first_words) (Some Named) t e in
    ap told (sym (some_same Named t p.1)) ∙ ap (λ w. w ∷ []) (sym (first_found ws first_words p.0))
step_told Named t ws e =
    let (c, c_is, t_is) = map_some Counted (counts_of ws) t e in
    ap told t_is ∙ ap (λ w. first_words ∷ w ∷ []) (sym (counts_found ws c c_is).0)
step_told (Counted c) t ws e =
    let (l, l_is, t_is) = then_some (line_of ws) (first_frame c) t e in by_line l (line_found ws l l_is).0 t_is
  where
    by_line : (l : Line) → ws ≡ line_words l → first_frame c l ≡ Some t → told t ≡ told (Counted c) ++ ws ∷ []
    by_line (LFrame a b p) q e = ap told (sym (some_same (Framed c [] (frame_by_three a b p) []) t e)) ∙ ap (λ w. front_lines c ++ w ∷ []) (sym q)
    by_line (LLocal b) q e = absurd cc
    by_line (LCell d) q e = absurd cc
    by_line LEnd q e = absurd cc
step_told (Framed c fs f cs) t ws e =
    let (l, l_is, t_is) = then_some (line_of ws) (take_line c fs f cs) t e in by_line l (line_found ws l l_is).0 t_is
  where
    by_line : (l : Line) → ws ≡ line_words l → take_line c fs f cs l ≡ Some t → told t ≡ told (Framed c fs f cs) ++ ws ∷ []
    by_line (LFrame a b p) q e =
        let d = only_some (is_empty cs) (Some (Framed c (fs ++ f ∷ []) (frame_by_three a b p) cs)) t e in
        ap told (sym (some_same (Framed c (fs ++ f ∷ []) (frame_by_three a b p) cs) t d.1)) ∙ told_frame c fs f cs a b p ws (none_is cs d.0) q
    by_line (LLocal b) q e =
        let d = only_some (is_empty cs && is_above f.live b.local) (Some (Framed c fs (with_local f b) cs)) t e in
        ap told (sym (some_same (Framed c fs (with_local f b) cs) t d.1)) ∙ told_local c fs f cs b ws (none_is cs (and_parts (is_empty cs) (is_above f.live b.local) d.0).0) q
    by_line (LCell k) q e =
        let d = only_some (nat_lt (length cs) c.cells) (Some (Framed c fs f (cs ++ k ∷ []))) t e in
        ap told (sym (some_same (Framed c fs f (cs ++ k ∷ [])) t d.1)) ∙ told_cell c fs f cs k ws q
    by_line LEnd q e =
        let d = only_some (length cs == c.cells) (Some (Done (image_by c (fs ++ f ∷ []) cs))) t e in
        ap told (sym (some_same (Done (image_by c (fs ++ f ∷ []) cs)) t d.1)) ∙ told_end c fs f cs ws q
step_told (Done i) t ws e = absurd cc

-- ---- form

no_cells_long : (n : ℕ) → length (no_cells n) ≡ n
no_cells_long zero = refl
no_cells_long (suc n) = ap suc (no_cells_long n)

no_cells_formed : (n : ℕ) → AllByRecursion CellIsFormed (no_cells n)
no_cells_formed zero = tt
no_cells_formed (suc n) = (record { tag = omega arith; w0 = omega arith; w1 = omega arith; w2 = omega arith; w3 = omega arith }, no_cells_formed n)

bare_formed : (a b p : ℕ) → Is32 a → Is32 b → Is32 p → FrameIsFormed (frame_by_three a b p)
bare_formed a b p h k l = record { func = h; block = k; place = l; live = tt; rising = tt }

-- in the frames or cells
record Inside (c : Counts) (fs : List Frame) (f : Frame) (cs : List Cell) : Type 0 where
  counts : CountsAreFormed c
  frames : AllByRecursion FrameIsFormed fs
  last : FrameIsFormed f
  cells : AllByRecursion CellIsFormed cs
  few : length cs ≤ c.cells

inside : (c : Counts) (fs : List Frame) (f : Frame) (cs : List Cell) → IsImage (closed (Framed c fs f cs)) → Inside c fs f cs
inside c fs f cs g = record {
  counts = g.counts;
  frames = all_left FrameIsFormed fs (f ∷ []) g.frames;
  last = all_last FrameIsFormed fs f g.frames;
  cells = all_left CellIsFormed cs (no_cells (c.cells - length cs)) g.cells;
  few = omega (arith, g.size, length-append cs (no_cells (c.cells - length cs)));
}

some_last : {A : Type 0} (xs : List A) (x : A) → IsFilled (xs ++ x ∷ [])
some_last [] x = tt
some_last (y ∷ xs) x = tt

outside : (c : Counts) (fs : List Frame) (f : Frame) (cs : List Cell) → Inside c fs f cs → IsImage (closed (Framed c fs f cs))
outside c fs f cs d = record {
  counts = d.counts;
  some = some_last fs f;
  frames = all_append FrameIsFormed fs (f ∷ []) d.frames (d.last, tt);
  cells = all_append CellIsFormed cs (no_cells (c.cells - length cs)) d.cells (no_cells_formed (c.cells - length cs));
  size = omega (arith, d.few, length-append cs (no_cells (c.cells - length cs)), no_cells_long (c.cells - length cs));
}

rising_more : (bs : List Bound) (b : Bound) → IsRising bs → is_above bs b.local ≡ true → IsRising (bs ++ b ∷ [])
rising_more [] b h e = tt
rising_more (a ∷ []) b h e = (grind (arith, nat_tests, e), tt)
rising_more (a ∷ d ∷ bs) b h e = (h.0, rising_more (d ∷ bs) b h.1 e)

local_formed : (f : Frame) (b : Bound) → FrameIsFormed f → BoundIsFormed b → is_above f.live b.local ≡ true → FrameIsFormed (with_local f b)
local_formed f b h k e = record { func = h.func; block = h.block; place = h.place; live = all_append BoundIsFormed f.live (b ∷ []) h.live (k, tt); rising = rising_more f.live b h.rising e }

none_formed : IsImage (closed Start)
none_formed = record {
  counts = record { steps = omega arith; net = omega arith; peak = omega arith; free = omega arith; cells = omega arith };
  some = tt;
  frames = (bare_formed 0 0 0 (omega arith) (omega arith) (omega arith), tt);
  cells = tt;
  size = refl;
}

pub step_good : (s t : Front) (ws : List (List ℕ)) → IsImage (closed s) → step s ws ≡ Some t → IsImage (closed t)
step_good Start t ws g e = subst (λ t. IsImage (closed t)) (some_same Named t (only_some (same_words ws first_words) (Some Named) t e).1) g
step_good Named t ws g e =
    let (c, c_is, t_is) = map_some Counted (counts_of ws) t e in
    subst (λ t. IsImage (closed t)) (sym t_is) (record { counts = (counts_found ws c c_is).1; some = tt; frames = g.frames; cells = no_cells_formed c.cells; size = no_cells_long c.cells })
step_good (Counted c) t ws g e =
    let (l, l_is, t_is) = then_some (line_of ws) (first_frame c) t e in by_line l (line_found ws l l_is).1 t_is
  where
    by_line : (l : Line) → LineIsFormed l → first_frame c l ≡ Some t → IsImage (closed t)
    by_line (LFrame a b p) h e =
        subst (λ t. IsImage (closed t)) (some_same (Framed c [] (frame_by_three a b p) []) t e)
        (outside c [] (frame_by_three a b p) [] (record { counts = g.counts; frames = tt; last = bare_formed a b p h.0 h.1.0 h.1.1.0; cells = tt; few = omega arith }))
    by_line (LLocal b) h e = absurd cc
    by_line (LCell d) h e = absurd cc
    by_line LEnd h e = absurd cc
step_good (Framed c fs f cs) t ws g e =
    let (l, l_is, t_is) = then_some (line_of ws) (take_line c fs f cs) t e in by_line l (inside c fs f cs g) (line_found ws l l_is).1 t_is
  where
    by_line : (l : Line) → Inside c fs f cs → LineIsFormed l → take_line c fs f cs l ≡ Some t → IsImage (closed t)
    by_line (LFrame a b p) i h e =
        let d = only_some (is_empty cs) (Some (Framed c (fs ++ f ∷ []) (frame_by_three a b p) cs)) t e in
        subst (λ t. IsImage (closed t)) (some_same (Framed c (fs ++ f ∷ []) (frame_by_three a b p) cs) t d.1)
        (outside c (fs ++ f ∷ []) (frame_by_three a b p) cs (record { counts = i.counts; frames = all_append FrameIsFormed fs (f ∷ []) i.frames (i.last, tt); last = bare_formed a b p h.0 h.1.0 h.1.1.0; cells = i.cells; few = i.few }))
    by_line (LLocal b) i h e =
        let d = only_some (is_empty cs && is_above f.live b.local) (Some (Framed c fs (with_local f b) cs)) t e in
        let above = (and_parts (is_empty cs) (is_above f.live b.local) d.0).1 in
        subst (λ t. IsImage (closed t)) (some_same (Framed c fs (with_local f b) cs) t d.1)
        (outside c fs (with_local f b) cs (record { counts = i.counts; frames = i.frames; last = local_formed f b i.last (record { local = h.0; word = h.1.0 }) above; cells = i.cells; few = i.few }))
    by_line (LCell k) i h e =
        let d = only_some (nat_lt (length cs) c.cells) (Some (Framed c fs f (cs ++ k ∷ []))) t e in
        let room : length cs < c.cells = grind (arith, nat_tests, d.0) in
        subst (λ t. IsImage (closed t)) (some_same (Framed c fs f (cs ++ k ∷ [])) t d.1)
        (outside c fs f (cs ++ k ∷ []) (record {
          counts = i.counts;
          frames = i.frames;
          last = i.last;
          cells = all_append CellIsFormed cs (k ∷ []) i.cells (record { tag = h.0; w0 = h.1.0; w1 = h.1.1.0; w2 = h.1.1.1.0; w3 = h.1.1.1.1.0 }, tt);
          few = omega (arith, room, length-append cs (k ∷ []));
        }))
    by_line LEnd i h e =
        let d = only_some (length cs == c.cells) (Some (Done (image_by c (fs ++ f ∷ []) cs))) t e in
        subst (λ t. IsImage (closed t)) (some_same (Done (image_by c (fs ++ f ∷ []) cs)) t d.1)
        (record { counts = i.counts; some = some_last fs f; frames = all_append FrameIsFormed fs (f ∷ []) i.frames (i.last, tt); cells = i.cells; size = grind (arith, nat_tests, d.0) })
step_good (Done i) t ws g e = absurd cc

-- ---- the ends

end_told : (s : Front) → may_end s ≡ true → image_lines (closed s) ≡ told s
end_told Start e = absurd cc
end_told Named e = absurd cc
end_told (Counted c) e = absurd cc
end_told (Framed c fs f cs) e = absurd cc
end_told (Done i) e = refl

closing : (s : Front) → IsSpelledOn image_spelling s
closing Start = record { rest = image_lines (closed Start); is = refl }
closing Named = record { rest = counts_words no_counts ∷ (flat_map frame_lines (frame_by_three 0 0 0 ∷ []) ++ end_words ∷ []); is = refl }
closing (Counted c) = record { rest = flat_map frame_lines (frame_by_three 0 0 0 ∷ []) ++ (map cell_words (no_cells c.cells) ++ end_words ∷ []); is = refl }
closing (Framed c fs f cs) =
    let A : List (List (List ℕ)) = flat_map frame_lines (fs ++ f ∷ []) in
    let no : List Cell = no_cells (c.cells - length cs) in
    record {
      rest = map cell_words no ++ end_words ∷ [];
      is = ap (λ l. front_lines c ++ (A ++ (l ++ end_words ∷ []))) (map_append cell_words cs no) ∙ ap (λ l. front_lines c ++ (A ++ l)) (append_assoc (map cell_words cs) (map cell_words no) (end_words ∷ []))
          ∙ ap (λ l. front_lines c ++ l) (sym (append_assoc A (map cell_words cs) (map cell_words no ++ end_words ∷ [])));
    }
closing (Done i) = record { rest = []; is = sym (append-nil (image_lines i)) }

-- ---- an image's lines lead to it

abbrev run_on : Front → List (List (List ℕ)) → Option Front
run_on s lines = run_words image_spelling s lines

joined : (s t : Front) (xs ys : List (List (List ℕ))) (o : Option Front) → run_on s xs ≡ Some t → run_on t ys ≡ o → run_on s (xs ++ ys) ≡ o
joined s t xs ys o e f = run_words_append image_spelling s t xs ys e ∙ f

one : (s t : Front) (ws : List (List ℕ)) → step s ws ≡ Some t → run_on s (ws ∷ []) ≡ Some t
one s t ws e = ap (λ o. and_then o (λ t. Some t)) e

more : (s t : Front) (ws : List (List ℕ)) (rest : List (List (List ℕ))) (o : Option Front) → step s ws ≡ Some t → run_on t rest ≡ o → run_on s (ws ∷ rest) ≡ o
more s t ws rest o e f = ap (λ o. and_then o (λ t. run_on t rest)) e ∙ f

line_step : (c : Counts) (fs : List Frame) (f : Frame) (cs : List Cell) (l : Line) (t : Front) → LineIsFormed l → take_line c fs f cs l ≡ Some t
    → step (Framed c fs f cs) (line_words l) ≡ Some t
line_step c fs f cs l t h e = then_is (line_of (line_words l)) (take_line c fs f cs) l (Some t) (line_read l h) e

above_rising : (bs : List Bound) (b : Bound) (ds : List Bound) → IsRising (bs ++ b ∷ ds) → is_above bs b.local ≡ true
above_rising [] b ds h = refl
above_rising (a ∷ []) b ds h = grind (arith, nat_tests, h.0)
above_rising (a ∷ e ∷ bs) b ds h = above_rising (e ∷ bs) b ds h.1

with_locals : Frame → List Bound → Frame
with_locals f bs = record { func = f.func; block = f.block; place = f.place; live = f.live ++ bs }

locals_run : (c : Counts) (fs : List Frame) (f : Frame) (bs : List Bound) → AllByRecursion BoundIsFormed bs → IsRising (f.live ++ bs)
    → run_on (Framed c fs f []) (map bound_words bs) ≡ Some (Framed c fs (with_locals f bs) [])
unfolding with_locals
locals_run c fs f [] h r = ap (λ l. Some (Framed c fs (record { func = f.func; block = f.block; place = f.place; live = l }) [])) (sym (append-nil f.live))
locals_run c fs f (b ∷ bs) h r =
    let above : is_above f.live b.local ≡ true = above_rising f.live b bs r in
    let assoc : (f.live ++ b ∷ []) ++ bs ≡ f.live ++ b ∷ bs = append_assoc f.live (b ∷ []) bs in
    more (Framed c fs f []) (Framed c fs (with_local f b) []) (bound_words b) (map bound_words bs) (Some (Framed c fs (with_locals f (b ∷ bs)) []))
    (line_step c fs f [] (LLocal b) (Framed c fs (with_local f b) []) (h.0.local, (h.0.word, tt)) (only_is (is_above f.live b.local) (Some (Framed c fs (with_local f b) [])) (Some (Framed c fs (with_local f b) [])) above refl))
    (locals_run c fs (with_local f b) bs h.1 (subst IsRising (sym assoc) r) ∙ ap (λ l. Some (Framed c fs (record { func = f.func; block = f.block; place = f.place; live = l }) [])) assoc)

frame_run : (c : Counts) (s : Front) (fs : List Frame) (f : Frame) → FrameIsFormed f → step s (frame_words f.func f.block f.place) ≡ Some (Framed c fs (frame_by_three f.func f.block f.place) [])
    → run_on s (frame_lines f) ≡ Some (Framed c fs f [])
unfolding with_locals
frame_run c s fs f h e =
    more s (Framed c fs (frame_by_three f.func f.block f.place) []) (frame_words f.func f.block f.place) (map bound_words f.live) (Some (Framed c fs f []))
    e (locals_run c fs (frame_by_three f.func f.block f.place) f.live h.live h.rising)

record Ran (c : Counts) (s : Front) (lines : List (List (List ℕ))) (all : List Frame) : Type 0 where
  before : List Frame
  last : Frame
  is : before ++ last ∷ [] ≡ all
  run : run_on s lines ≡ Some (Framed c before last [])

frames_run : (c : Counts) (fs : List Frame) (f : Frame) (gs : List Frame) → AllByRecursion FrameIsFormed gs → Ran c (Framed c fs f []) (flat_map frame_lines gs) ((fs ++ f ∷ []) ++ gs)
frames_run c fs f [] h = record { before = fs; last = f; is = sym (append-nil (fs ++ f ∷ [])); run = refl }
frames_run c fs f (g ∷ gs) h =
    let d = frames_run c (fs ++ f ∷ []) g gs h.1 in
    let s : step (Framed c fs f []) (frame_words g.func g.block g.place) ≡ Some (Framed c (fs ++ f ∷ []) (frame_by_three g.func g.block g.place) []) =
    line_step c fs f [] (LFrame g.func g.block g.place) (Framed c (fs ++ f ∷ []) (frame_by_three g.func g.block g.place) []) (h.0.func, (h.0.block, (h.0.place, tt))) refl in
    record {
      before = d.before;
      last = d.last;
      is = d.is ∙ append_assoc (fs ++ f ∷ []) (g ∷ []) gs;
      run = joined (Framed c fs f []) (Framed c (fs ++ f ∷ []) g []) (frame_lines g) (flat_map frame_lines gs) (Some (Framed c d.before d.last [])) (frame_run c (Framed c fs f []) (fs ++ f ∷ []) g h.0 s) d.run;
    }

cells_run : (c : Counts) (fs : List Frame) (f : Frame) (cs ds : List Cell) → AllByRecursion CellIsFormed ds → length cs + length ds ≤ c.cells
    → run_on (Framed c fs f cs) (map cell_words ds) ≡ Some (Framed c fs f (cs ++ ds))
cells_run c fs f cs [] h k = ap (λ l. Some (Framed c fs f l)) (sym (append-nil cs))
cells_run c fs f cs (d ∷ ds) h k =
    let room : nat_lt (length cs) c.cells ≡ true = let g : length cs < c.cells = omega (arith, k) in grind (arith, nat_tests, g) in
    let t : Front = Framed c fs f (cs ++ d ∷ []) in
    more (Framed c fs f cs) t (cell_words d) (map cell_words ds) (Some (Framed c fs f (cs ++ d ∷ ds)))
    (line_step c fs f cs (LCell d) t (h.0.tag, (h.0.w0, (h.0.w1, (h.0.w2, (h.0.w3, tt))))) (only_is (nat_lt (length cs) c.cells) (Some t) (Some t) room refl))
    (cells_run c fs f (cs ++ d ∷ []) ds h.1 (omega (arith, k, length-append cs (d ∷ []))) ∙ ap (λ l. Some (Framed c fs f l)) (append_assoc cs (d ∷ []) ds))

end_run : (c : Counts) (fs : List Frame) (f : Frame) (cs : List Cell) → length cs ≡ c.cells → run_on (Framed c fs f cs) (end_words ∷ []) ≡ Some (Done (image_by c (fs ++ f ∷ []) cs))
end_run c fs f cs h =
    let t : Front = Done (image_by c (fs ++ f ∷ []) cs) in
    let q : (length cs == c.cells) ≡ true = grind (arith, nat_tests, h) in
    one (Framed c fs f cs) t end_words (line_step c fs f cs LEnd t tt (only_is (length cs == c.cells) (Some t) (Some t) q refl))

image_run : (c : Counts) (fs : List Frame) (cs : List Cell) → IsImage (image_by c fs cs) → run_on Start (image_lines (image_by c fs cs)) ≡ Some (Done (image_by c fs cs))
image_run c [] cs h = absurd h.some
image_run c (f ∷ fs) cs h =
    let d = frames_run c [] f fs h.frames.1 in
    let C : Front = Counted c in
    let bare : Front = Framed c [] (frame_by_three f.func f.block f.place) [] in
    let first : step C (frame_words f.func f.block f.place) ≡ Some bare =
    then_is (line_of (line_words (LFrame f.func f.block f.place))) (first_frame c) (LFrame f.func f.block f.place) (Some bare) (line_read (LFrame f.func f.block f.place) (h.frames.0.func, (h.frames.0.block, (h.frames.0.place, tt)))) refl in
    let frames : run_on C (flat_map frame_lines (f ∷ fs)) ≡ Some (Framed c d.before d.last []) =
    joined C (Framed c [] f []) (frame_lines f) (flat_map frame_lines fs) (Some (Framed c d.before d.last [])) (frame_run c C [] f h.frames.0 first) d.run in
    let F : Front = Framed c d.before d.last cs in
    let done : Front = Done (image_by c (f ∷ fs) cs) in
    let end : run_on F (end_words ∷ []) ≡ Some done = end_run c d.before d.last cs h.size ∙ ap (λ fs. Some (Done (image_by c fs cs))) d.is in
    let tail : run_on (Framed c d.before d.last []) (map cell_words cs ++ end_words ∷ []) ≡ Some done =
    joined (Framed c d.before d.last []) F (map cell_words cs) (end_words ∷ []) (Some done) (cells_run c d.before d.last [] cs h.cells (omega (arith, h.size))) end in
    more Start Named first_words (counts_words c ∷ (flat_map frame_lines (f ∷ fs) ++ (map cell_words cs ++ end_words ∷ []))) (Some done) refl
    (more Named C (counts_words c) (flat_map frame_lines (f ∷ fs) ++ (map cell_words cs ++ end_words ∷ [])) (Some done) (map_is Counted (counts_of (counts_words c)) c (counts_read c h.counts))
    (joined C (Framed c d.before d.last []) (flat_map frame_lines (f ∷ fs)) (map cell_words cs ++ end_words ∷ []) (Some done) frames tail))

-- ---- words

all_map : {A : Type 0} (f : A → List (List ℕ)) → ((x : A) → IsWordLine (f x)) → (xs : List A) → AllByRecursion IsWordLine (map f xs)
all_map f h [] = tt
all_map f h (x ∷ xs) = (h x, all_map f h xs)

frames_words : (fs : List Frame) → AllByRecursion IsWordLine (flat_map frame_lines fs)
frames_words [] = tt
frames_words (f ∷ fs) = all_append IsWordLine (frame_lines f) (flat_map frame_lines fs) (line_is_words (LFrame f.func f.block f.place), all_map bound_words (λ b. line_is_words (LLocal b)) f.live) (frames_words fs)

lines_words : (i : Image) → AllByRecursion IsWordLine (image_lines i)
lines_words i = (
  first_is_words,
  (
    counts_are_words i.counts,
    all_append IsWordLine (flat_map frame_lines i.frames) (map cell_words i.cells ++ end_words ∷ []) (frames_words i.frames)
        (all_append IsWordLine (map cell_words i.cells) (end_words ∷ []) (all_map cell_words (λ c. line_is_words (LCell c)) i.cells) (line_is_words LEnd, tt)),
  ),
)

-- ---- the laws

text_is : (i : Image) → image_text i ≡ text_of_words (image_lines i)
unfolding image_text
text_is i = refl

pub image_spelled : SpellingShows image_spelling
image_spelled = record {
  text = text_is;
  start_told = refl;
  start_good = none_formed;
  start_right = none_formed;
  good_formed = λ s g. g;
  step_told = λ s t ws g e. step_told s t ws e;
  step_good = step_good;
  step_asks = λ k s t ws g e a. tt;
  end_told = λ s g e. end_told s e;
  closing = λ s g. closing s;
  written = λ i h. record { state = Done i; each = lines_words i; run = image_run i.counts i.frames i.cells h; ends = refl; is = refl };
}

pub image_shows : Shows image_machine
image_shows = shows_of image_spelling image_spelled

-- each text is an image's or has a first wrong line
pub images_judged : (text : List ℕ) → IsJudged image_format text
images_judged text = each_judged image_machine image_shows (record { asks = λ k s h. absurd (omega (arith, h)) }) text

-- and it has one wrong line at most
pub image_faults_one : (text : List ℕ) (m n : ℕ) → IsFault image_format 0 text m → IsFault image_format 0 text n → IsSame 0 0 m n
image_faults_one text m n f g = faults_one image_format text 0 0 m n (omega arith) (omega arith) f g

pub images_one : (i j : Image) → IsImage i → IsImage j → image_text i ≡ image_text j → i ≡ j
images_one i j h k e = values_one image_machine image_shows i j h k e
