-- What is kept of frames: the words of their ready locals, gathered from one vector of words.
use Rattle.std.proofs.Common.{◌≡◌, ℕ, zero, suc, ◌+◌, ◌≤◌, ◌<◌, Bool, true, false, List, [], ◌∷◌, ◌++◌, map, length, take, drop, Option, Some, None, refl, sym, ap, ◌∙◌, arith, append_assoc, append-nil, length-drop, ◌-◌}
use Rattle.std.specs.Prelude.{pos, ◌-ℤ◌, reverse, slice_get, get_or, if◌then◌else◌}
use Rattle.std.specs.Option.{option_map_or}
use Rattle.std.specs.List.{AllByRecursion}
use Rattle.std.proofs.lemmas.List.{reverse-append, take_all}
use Rattle.std.proofs.lemmas.Option.{slice_get_within}
use Rattle.camelot_values.specs.declared.kinds.Kind.{Kind}
use Rattle.grail_blocks.specs.States as states
use Rattle.grail_blocks.specs.States.{Status, Unbound, Ready, Spent}
use Rattle.grail_code.specs.Code.{Code}
use Rattle.grail_code.specs.Limits.{IsWithinLimits}
use Rattle.grail_code.specs.WellFormed.{IsWellFormed}
use Rattle.frame_locals.specs.Lending.{lends_at}
use Rattle.frame_locals.specs.Marking.{AreMarks, is_set}
use Rattle.frame_locals.specs.Places.{is_ready}
use Rattle.machine_image.specs.Images.{Bound, Frame}
use Rattle.machine_image.specs.Words as words
use Rattle.machine_image.specs.declared.state.Bound.{Bound as DeclaredBound}
use Rattle.machine_image.specs.declared.state.Frame.{Frame as DeclaredFrame}
use Rattle.cell_machine.specs.Bounds.{bound_if, bounds}
use Rattle.cell_machine.specs.FrameWords.{position_in, stacked, frame_of, waiting_of}
use Rattle.cell_span.specs.declared.cell.Cell.{Cell}
use Rattle.machine_image.specs.declared.state.State.{State}
use Rattle.cell_machine.specs.Going.{IsGoing}
use Rattle.cell_machine.specs.Kept.{state_of}
use Rattle.cell_machine.specs.Saved.{Saved, saved_of, kept, waiting_kept, running_kept}
use Rattle.cell_machine.specs.declared.packed.Packed.{Packed}
use Rattle.cell_machine.specs.declared.state.RunState.{RunState}
use Rattle.cell_machine.specs.Saving.{bound_marked, bounds_marked, in_order, lender_at, lender_from, or_last, plain_frames, StandNear}
use Rattle.cell_machine.specs.Sound.{WaitingFrames}
use Rattle.cell_machine.specs.State.{Activation}
use Rattle.cell_machine.specs.theory.Course.{here}
use Rattle.cell_machine.specs.declared.frames.Caller.{Caller}
use Rattle.cell_machine.specs.declared.packed.Position.{Position}

-- ---- words of ready locals

bound_here : (w : ℕ) (s : Status) (x : ℕ) (bs : List Bound) → (if is_ready s then record { local = x; word = w } ∷ [] else []) ++ bs ≡ bound_if s x w bs
bound_here w Ready x bs = refl
bound_here w Unbound x bs = refl
bound_here w Spent x bs = refl

marked_from : (s : states.State) (marks : List Bool) (x : ℕ) (ws : List ℕ) → AreMarks s marks → x + length ws ≤ length marks → bounds_marked marks x ws ≡ bounds s x ws
unfolding AreMarks
marked_from s marks x [] h few = refl
marked_from s marks x (w ∷ ws) h few =
    let set : is_set marks x ≡ is_ready (s x) = ap (λ o. option_map_or (λ mark. mark) o false) (h x (omega (arith, few))) in
    ap (λ b. (if b then record { local = x; word = w } ∷ [] else []) ++ bounds_marked marks (suc x) ws) set
    ∙ bound_here w (s x) x (bounds_marked marks (suc x) ws) ∙ ap (bound_if (s x) x w) (marked_from s marks (suc x) ws h (omega (arith, few)))

-- with marks for all locals, what has a mark is what is ready
pub marked_ready : (s : states.State) (marks : List Bool) (ws : List ℕ) → AreMarks s marks → length marks ≡ 256 → length ws ≤ 256 → bounds_marked marks 0 ws ≡ bounds s 0 ws
marked_ready s marks ws h n few = marked_from s marks 0 ws h (omega (arith, n, few))

-- one word more
from_here : {A : Type 0} (xs : List A) (i : ℕ) (x : A) → i < length xs → x ≡ get_or xs i x → drop i xs ≡ x ∷ drop (suc i) xs
from_here [] i x h e = absurd (omega (arith, h))
from_here (y ∷ xs) zero x h e = ap (λ y. y ∷ xs) (sym e)
from_here (y ∷ xs) (suc i) x h e = from_here xs i x (omega (arith, h)) e

drop_here : {A : Type 0} (xs : List A) (i : ℕ) (x : A) → i < length xs → x ≡ get_or xs i x → drop i xs ≡ x ∷ drop (i + 1) xs
drop_here xs i x h e = let next : suc i ≡ i + 1 = omega arith in from_here xs i x h e ∙ ap (λ n. x ∷ drop n xs) next

map_last : {A B : Type 0} (g : A → B) (xs : List A) (x : A) → map g (xs ++ x ∷ []) ≡ map g xs ++ g x ∷ []
map_last g [] x = refl
map_last g (y ∷ xs) x = ap (λ l. g y ∷ l) (map_last g xs x)

pub bound_pushed : (live : List DeclaredBound) (b : DeclaredBound) (now : List DeclaredBound) (marks : List Bool) (x w : ℕ) → now ≡ live ++ b ∷ [] → words.bound_of b ≡ record { local = x; word = w }
    → is_set marks x ≡ true → map words.bound_of now ≡ map words.bound_of live ++ bound_marked marks x w
bound_pushed live b now marks x w more is set =
    ap (map words.bound_of) more ∙ map_last words.bound_of live b ∙ ap (λ b. map words.bound_of live ++ b ∷ []) is
    ∙ sym (ap (λ t. map words.bound_of live ++ (if t then record { local = x; word = w } ∷ [] else [])) set)

pub bound_kept : (live : List DeclaredBound) (marks : List Bool) (x w : ℕ) → is_set marks x ≡ false → map words.bound_of live ≡ map words.bound_of live ++ bound_marked marks x w
bound_kept live marks x w set =
    sym (append-nil (map words.bound_of live)) ∙ sym (ap (λ t. map words.bound_of live ++ (if t then record { local = x; word = w } ∷ [] else [])) set)

pub bound_turn : (marks : List Bool) (ws : List ℕ) (i x w : ℕ) (live now : List DeclaredBound) (whole : List Bound) → i < length ws → w ≡ get_or ws i w
    → map words.bound_of now ≡ map words.bound_of live ++ bound_marked marks x w
    → map words.bound_of live ++ bounds_marked marks x (drop i ws) ≡ whole → map words.bound_of now ++ bounds_marked marks (x + 1) (drop (i + 1) ws) ≡ whole
bound_turn marks ws i x w live now whole h e more so =
    let next : x + 1 ≡ suc x = omega arith in
    ap (λ n. map words.bound_of now ++ bounds_marked marks n (drop (i + 1) ws)) next
    ∙ ap (λ l. l ++ bounds_marked marks (suc x) (drop (i + 1) ws)) more
    ∙ append_assoc (map words.bound_of live) (bound_marked marks x w) (bounds_marked marks (suc x) (drop (i + 1) ws))
    ∙ sym (ap (λ l. map words.bound_of live ++ bounds_marked marks x l) (drop_here ws i w h e))
    ∙ so

none_left : (ws : List ℕ) (i : ℕ) → length ws ≤ i → drop i ws ≡ []
none_left [] zero h = refl
none_left [] (suc i) h = refl
none_left (w ∷ ws) zero h = absurd (omega (arith, h))
none_left (w ∷ ws) (suc i) h = none_left ws i (omega (arith, h))

pub bound_all : (marks : List Bool) (ws : List ℕ) (i x : ℕ) (live : List DeclaredBound) (whole : List Bound) → length ws ≤ i
    → map words.bound_of live ++ bounds_marked marks x (drop i ws) ≡ whole → map words.bound_of live ≡ whole
bound_all marks ws i x live whole h so = sym (append-nil (map words.bound_of live)) ∙ sym (ap (λ l. map words.bound_of live ++ bounds_marked marks x l) (none_left ws i h)) ∙ so

-- ---- frames of callers

-- the frames that wait, turned: in order, in front of the others
in_turn : (ps : List Position) (cs : List Caller) (ws : List ℕ) (frs : List Activation) → reverse (stacked ps cs ws frs) ≡ reverse frs ++ in_order ps cs ws
in_turn ps [] ws frs = sym (append-nil (reverse frs))
in_turn ps (c ∷ cs) ws frs =
    in_turn ps cs (drop c.width ws) (frame_of ps c (take c.width ws) ∷ frs)
    ∙ ap (λ l. l ++ in_order ps cs (drop c.width ws)) (reverse-append (frame_of ps c (take c.width ws) ∷ []) frs)
    ∙ append_assoc (reverse frs) (frame_of ps c (take c.width ws) ∷ []) (in_order ps cs (drop c.width ws))

pub turned_order : (ps : List Position) (cs : List Caller) (ws : List ℕ) → reverse (stacked ps cs ws []) ≡ in_order ps cs ws
turned_order ps cs ws = in_turn ps cs ws []

map_turned : {A B : Type 0} (g : A → B) (xs : List A) → map g (reverse xs) ≡ reverse (map g xs)
map_turned g [] = refl
map_turned g (x ∷ xs) =
    ap (map g) (reverse-append (x ∷ []) xs) ∙ map_last g (reverse xs) x ∙ ap (λ l. l ++ g x ∷ []) (map_turned g xs) ∙ sym (reverse-append (g x ∷ []) (map g xs))

pub kept_turned : (g : Activation → Frame) (ps : List Position) (cs : List Caller) (ws : List ℕ) → map g (in_order ps cs ws) ≡ reverse (map g (stacked ps cs ws []))
kept_turned g ps cs ws = ap (map g) (sym (turned_order ps cs ws)) ∙ map_turned g (stacked ps cs ws [])

-- one more caller
pub one_kept : (g : Activation → Frame) (ps : List Position) (c : Caller) (cs : List Caller) (ws : List ℕ) (out now : List DeclaredFrame) (f : DeclaredFrame) (whole : List Frame)
    → now ≡ out ++ f ∷ [] → words.frame_of f ≡ g (frame_of ps c (take c.width ws)) → plain_frames out ++ map g (in_order ps (c ∷ cs) ws) ≡ whole
    → plain_frames now ++ map g (in_order ps cs (drop c.width ws)) ≡ whole
one_kept g ps c cs ws out now f whole more is so =
    ap (λ l. plain_frames l ++ map g (in_order ps cs (drop c.width ws))) more
    ∙ ap (λ l. l ++ map g (in_order ps cs (drop c.width ws))) (map_last words.frame_of out f)
    ∙ append_assoc (plain_frames out) (words.frame_of f ∷ []) (map g (in_order ps cs (drop c.width ws)))
    ∙ ap (λ f. plain_frames out ++ f ∷ map g (in_order ps cs (drop c.width ws))) is
    ∙ so

pub no_more_kept : (g : Activation → Frame) (ps : List Position) (cs : List Caller) (ws : List ℕ) (out : List DeclaredFrame) (whole : List Frame) → length cs < 1
    → plain_frames out ++ map g (in_order ps cs ws) ≡ whole → plain_frames out ≡ whole
no_more_kept g ps [] ws out whole h so = sym (append-nil (plain_frames out)) ∙ so
no_more_kept g ps (c ∷ cs) ws out whole h so = absurd (omega (arith, h))

-- ---- cells

pub cell_more : (cs out now : List Cell) (i : ℕ) (c : Cell) → slice_get cs i ≡ Some c → now ≡ out ++ c ∷ [] → out ≡ take i cs → now ≡ take (i + 1) cs
cell_more cs out now i c is more so = more ∙ ap (λ l. l ++ c ∷ []) so ∙ sym (one_more cs i c is)
  where
    one : (cs : List Cell) (i : ℕ) (c : Cell) → slice_get cs i ≡ Some c → take (suc i) cs ≡ take i cs ++ c ∷ []
    one [] i c e = absurd cc
    one (d ∷ cs) zero c e = let same : d ≡ c = cc in ap (λ d. d ∷ []) same
    one (d ∷ cs) (suc i) c e = ap (λ l. d ∷ l) (one cs i c e)

    one_more : (cs : List Cell) (i : ℕ) (c : Cell) → slice_get cs i ≡ Some c → take (i + 1) cs ≡ take i cs ++ c ∷ []
    one_more cs i c e = let next : i + 1 ≡ suc i = omega arith in ap (λ n. take n cs) next ∙ one cs i c e

pub cells_all : (cs out : List Cell) (i : ℕ) → length cs ≤ i → out ≡ take i cs → out ≡ cs
cells_all cs out i h so = so ∙ take_all i cs h

-- ---- frames that lend

no_caller : (cs : List Caller) (i : ℕ) → length cs ≤ i → drop i cs ≡ []
no_caller [] zero h = refl
no_caller [] (suc i) h = refl
no_caller (c ∷ cs) zero h = absurd (omega (arith, h))
no_caller (c ∷ cs) (suc i) h = no_caller cs i (omega (arith, h))

-- whether the frame of this caller lends
abbrev pub caller_lends : Code → List Position → Caller → Bool
caller_lends p ps c = lends_at p (position_in ps c.at).func (position_in ps c.at).block

pub lender_next : (p : Code) (ps : List Position) (n i : ℕ) (cs : List Caller) (c : Caller) (whole : Option ℕ) → i < length cs → c ≡ get_or cs i c → caller_lends p ps c ≡ false
    → lender_at p ps n (drop i cs) ≡ whole → lender_at p ps (n + 1) (drop (i + 1) cs) ≡ whole
lender_next p ps n i cs c whole h e none so =
    let next : n + 1 ≡ suc n = omega arith in
    ap (λ m. lender_at p ps m (drop (i + 1) cs)) next
    ∙ sym (ap (λ b. if b then Some n else lender_at p ps (suc n) (drop (i + 1) cs)) none)
    ∙ sym (ap (lender_at p ps n) (drop_here cs i c h e)) ∙ so

pub lender_here : (p : Code) (ps : List Position) (n i : ℕ) (cs : List Caller) (c : Caller) (whole : Option ℕ) → i < length cs → c ≡ get_or cs i c → caller_lends p ps c ≡ true
    → lender_at p ps n (drop i cs) ≡ whole → Some n ≡ whole
lender_here p ps n i cs c whole h e yes_so so =
    sym (ap (λ b. if b then Some n else lender_at p ps (suc n) (drop (i + 1) cs)) yes_so) ∙ sym (ap (lender_at p ps n) (drop_here cs i c h e)) ∙ so

pub lender_none : (p : Code) (ps : List Position) (n i : ℕ) (cs : List Caller) (whole : Option ℕ) → length cs ≤ i → lender_at p ps n (drop i cs) ≡ whole → None ≡ whole
lender_none p ps n i cs whole h so = sym (ap (lender_at p ps n) (no_caller cs i h)) ∙ so

lender_behind : (p : Code) (ps : List Position) (n : ℕ) (cs : List Caller) (ws : List ℕ) (fr : Activation)
    → lender_from p n (in_order ps cs ws ++ fr ∷ []) ≡ or_last (lender_at p ps n cs) (lends_at p fr.func fr.block) (n + length cs)
lender_behind p ps n [] ws fr = let same : n ≡ n + 0 = omega arith in ap (λ m. if lends_at p fr.func fr.block then Some m else None) same
lender_behind p ps n (c ∷ cs) ws fr = by_test (lender_behind p ps (suc n) cs (drop c.width ws) fr) (caller_lends p ps c)
  where
    by_test : lender_from p (suc n) (in_order ps cs (drop c.width ws) ++ fr ∷ []) ≡ or_last (lender_at p ps (suc n) cs) (lends_at p fr.func fr.block) (suc n + length cs) → (b : Bool) → (if b then Some n else lender_from p (suc n) (in_order ps cs (drop c.width ws) ++ fr ∷ [])) ≡ or_last (if b then Some n else lender_at p ps (suc n) cs) (lends_at p fr.func fr.block) (n + length (c ∷ cs))
    by_test so true = refl
    by_test so false =
        let same : suc n + length cs ≡ n + length (c ∷ cs) = omega arith in
        so ∙ ap (or_last (lender_at p ps (suc n) cs) (lends_at p fr.func fr.block)) same

pub lender_of : (p : Code) (ps : List Position) (cs : List Caller) (ws : List ℕ) (fr : Activation) (o : Option ℕ) (b : Bool) → o ≡ lender_at p ps 0 cs → b ≡ lends_at p fr.func fr.block
    → or_last o b (length cs) ≡ lender_from p 0 (reverse (stacked ps cs ws []) ++ fr ∷ [])
lender_of p ps cs ws fr o b e k =
    let none : length cs ≡ 0 + length cs = omega arith in
    ap (λ o. or_last o b (length cs)) e ∙ ap (λ b. or_last (lender_at p ps 0 cs) b (length cs)) k
    ∙ ap (or_last (lender_at p ps 0 cs) (lends_at p fr.func fr.block)) none ∙ sym (lender_behind p ps 0 cs ws fr) ∙ sym (ap (λ l. lender_from p 0 (l ++ fr ∷ [])) (turned_order ps cs ws))

-- all frames, with the one that runs at the end
pub frames_kept : (p : Code) (ps : List Position) (cs : List Caller) (ws : List ℕ) (fr : Activation) (frames now : List DeclaredFrame) (f : DeclaredFrame) → now ≡ frames ++ f ∷ []
    → plain_frames frames ≡ map (waiting_kept p) (in_order ps cs ws) → words.frame_of f ≡ running_kept p fr
    → plain_frames now ≡ reverse (map (waiting_kept p) (stacked ps cs ws [])) ++ running_kept p fr ∷ []
frames_kept p ps cs ws fr frames now f more so is =
    ap plain_frames more ∙ map_last words.frame_of frames f ∙ ap (λ l. l ++ words.frame_of f ∷ []) (so ∙ kept_turned (waiting_kept p) ps cs ws)
    ∙ ap (λ f. reverse (map (waiting_kept p) (stacked ps cs ws [])) ++ f ∷ []) is

same_saved : (a b : Saved) → a.calls ≡ b.calls → a.net ≡ b.net → a.peak ≡ b.peak → a.fuel ≡ b.fuel → a.free ≡ b.free → a.frames ≡ b.frames → a.cells ≡ b.cells → a ≡ b
same_saved a b h k l m n o q = λ i. record { calls = h i; net = k i; peak = l i; fuel = m i; free = n i; frames = o i; cells = q i }

pub state_is : (p : Code) (k : Packed) (r : RunState) (s : State) → s.calls ≡ r.calls → s.net ≡ pos r.peak -ℤ pos r.low → s.peak ≡ r.peak → s.fuel ≡ r.fuel → s.free ≡ r.head
    → plain_frames s.frames.items ≡ reverse (map (waiting_kept p) (waiting_of k r.frames)) ++ running_kept p (state_of k r).frame ∷ [] → s.cells.items ≡ r.span.cells
    → saved_of s ≡ kept p (state_of k r)
state_is p k r s calls net peak fuel free frames cells = same_saved (saved_of s) (kept p (state_of k r)) calls net peak fuel free frames cells

-- the words from a place on, all of them
pub top_taken : (ws all : List ℕ) (base : ℕ) → ws ≡ all → take (length ws - base) (drop base ws) ≡ drop base all
top_taken ws all base e = take_all (length ws - base) (drop base ws) (omega (arith, length-drop base ws)) ∙ ap (drop base) e

-- ---- places

-- where all frames stand near the beginnings of their blocks, each caller does
few_callers : (ps : List Position) (cs : List Caller) (ws : List ℕ) (frs : List Activation) → AllByRecursion (λ (fr : Activation). fr.place ≤ 256) (stacked ps cs ws frs)
    → StandNear ps cs × AllByRecursion (λ (fr : Activation). fr.place ≤ 256) frs
few_callers ps [] ws frs h = (tt, h)
few_callers ps (c ∷ cs) ws frs h =
    let r = few_callers ps cs (drop c.width ws) (frame_of ps c (take c.width ws) ∷ frs) h in
    ((r.1.0, r.0), r.1.1)

waits_near : (p : Code) (cells : List Cell) (kind : Kind) (frs : List Activation) → IsWellFormed p → IsWithinLimits p → WaitingFrames p cells kind frs
    → AllByRecursion (λ (fr : Activation). fr.place ≤ 256) frs
waits_near p cells kind [] well limits r = tt
waits_near p cells kind (fr ∷ frs) well limits r =
    let h = here p fr.func r.0.f fr.block r.0.b well limits r.0.func r.0.block in
    (omega (arith, h.few_lets, slice_get_within r.0.b.lets fr.place _ r.0.call), waits_near p cells r.0.f.result frs well limits r.1)

pub callers_near : (p : Code) (k : Packed) (r : RunState) → IsGoing p (state_of k r) → StandNear k.positions.items r.frames.callers.items
callers_near p k r g =
    let sound = g.course.sound in
    (few_callers k.positions.items r.frames.callers.items r.frames.words.items [] (waits_near p r.span.cells sound.running.f.result (waiting_of k r.frames) g.well g.limits sound.waiting)).0

pub running_near : (p : Code) (k : Packed) (r : RunState) → IsGoing p (state_of k r) → r.place ≤ 256
running_near p k r g =
    let sound = g.course.sound in
    let h = here p r.func sound.running.f r.block sound.running.b g.well g.limits sound.running.func sound.running.block in
    omega (arith, h.few_lets, sound.running.place)
