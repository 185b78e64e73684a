-- Steps of what is due behind a part.
use Rattle.std.proofs.Common.{◌≡◌, ℕ, suc, ◌+◌, ◌-◌, ◌<◌, ◌≤◌, List, [], ◌∷◌, ◌++◌, length, drop, take, get_or, reverse, refl, sym, ap, ◌∙◌, arith, add-one}
use Rattle.std.proofs.lemmas.List.{reverse-append, take_all}
use Rattle.std.specs.Prelude.{slice_index_or, Result, Ok, Err, IfOk}
use Rattle.camelot_values.specs.declared.kinds.Kind.{Kind}
use Rattle.camelot_values.specs.declared.kinds.Kind.TheVariants as kind
use Rattle.value_text.specs.Dues as due
use Rattle.value_text.specs.Dues.{Due}
use Rattle.value_text.specs.Due.{further_due, first_due, others_due}
use Rattle.value_text.specs.Later.{closed_due, frames_due, inner_due, later_due}
use Rattle.value_text.specs.declared.behind.Frame.{Frame}

-- no frames and no complete nodes
pub values_first : (frames : List Frame) (others : List Kind) → frames ≡ [] → later_due [] 0 frames others ≡ others_due others
unfolding later_due
values_first frames others e = ap (λ fs. frames_due (reverse fs) (others_due others)) e

-- one node more is complete with the part
pub one_closed : (inner : List Kind) (closed : ℕ) (frames : List Frame) (others kinds : List Kind) (old : List Due) → inner ≡ []
    → later_due inner closed frames others ≡ old → length kinds ≡ 0 → later_due inner (closed + 1) frames others ≡ further_due kinds ++ old
unfolding later_due
one_closed inner closed frames others [] old z e h =
    ap (λ l. inner_due l (closed_due (closed + 1) (frames_due (reverse frames) (others_due others)))) z
    ∙ ap (λ n. closed_due n (frames_due (reverse frames) (others_due others))) (add-one closed)
    ∙ ap (λ l. due.Mark 41 ∷ inner_due l (closed_due closed (frames_due (reverse frames) (others_due others)))) (sym z) ∙ ap (λ d. due.Mark 41 ∷ d) e
one_closed inner closed frames others (q ∷ kinds) old z e h = absurd (omega (arith, h))

-- one node more has parts left
pub one_inner : (inner : List Kind) (closed : ℕ) (frames : List Frame) (others kinds : List Kind) (old : List Due) → inner ≡ []
    → later_due inner closed frames others ≡ old → (length kinds ≡ 0 → ⊥) → later_due kinds closed frames others ≡ further_due kinds ++ old
unfolding later_due
one_inner inner closed frames others [] old z e h = absurd (h refl)
one_inner inner closed frames others (q ∷ kinds) old z e h =
    ap (λ l. further_due (q ∷ kinds) ++ inner_due l (closed_due closed (frames_due (reverse frames) (others_due others)))) (sym z)
    ∙ ap (λ d. further_due (q ∷ kinds) ++ d) e

last_first : (fs gs : List Frame) (f : Frame) → fs ≡ gs ++ f ∷ [] → reverse fs ≡ f ∷ reverse gs
last_first fs gs f e = ap reverse e ∙ reverse-append gs (f ∷ [])

-- parts that are left of one node more
one_frame : (old new : List Frame) (others : List Kind) (f : Frame) → new ≡ old ++ f ∷ []
    → later_due [] 0 new others ≡ further_due (f.first ∷ f.others.now) ++ later_due [] f.closed old others
unfolding later_due
one_frame old new others f e = ap (λ fs. frames_due fs (others_due others)) (last_first new old f e)

-- the innermost node's next part
pub next_frame : (inner : List Kind) (closed : ℕ) (old new : List Frame) (others : List Kind) (f : Frame) → inner ≡ [] → closed ≡ 0
    → old ≡ new ++ f ∷ []
    → later_due inner closed old others ≡ due.Mark 44 ∷ due.Value f.first ∷ (further_due f.others.now ++ later_due inner f.closed new others)
next_frame inner closed old new others f o z e =
    ap (λ n. later_due inner n old others) z ∙ ap (λ l. later_due l 0 old others) o ∙ one_frame new old others f e
    ∙ ap (λ l. further_due (f.first ∷ f.others.now) ++ later_due l f.closed new others) (sym o)

pub no_frames : (inner : List Kind) (closed : ℕ) (frames : List Frame) (others : List Kind) → inner ≡ [] → closed ≡ 0 → frames ≡ []
    → later_due inner closed frames others ≡ others_due others
no_frames inner closed frames others o z e =
    ap (λ n. later_due inner n frames others) z ∙ ap (λ l. later_due l 0 frames others) o ∙ values_first frames others e

-- one complete node less
pub less_closed : (inner : List Kind) (closed : ℕ) (frames : List Frame) (others : List Kind) → inner ≡ [] → 0 < closed
    → later_due inner closed frames others ≡ due.Mark 41 ∷ later_due inner (closed - 1) frames others
unfolding later_due
less_closed inner closed frames others o h =
    ap (λ l. inner_due l (closed_due closed (frames_due (reverse frames) (others_due others)))) o
    ∙ ap (λ n. closed_due n (frames_due (reverse frames) (others_due others))) (let some : closed ≡ suc (closed - 1) = omega (arith, h) in some)
    ∙ ap (λ l. due.Mark 41 ∷ inner_due l (closed_due (closed - 1) (frames_due (reverse frames) (others_due others)))) (sym o)

pub nothing : {A : Type 0} (xs : List A) → length xs ≡ 0 → xs ≡ []
nothing [] h = refl
nothing (x ∷ xs) h = absurd (omega (arith, h))

-- the kinds in front and behind
pub first_and : (kinds others : List Kind) (q d : Kind) → 1 ≤ length kinds → q ≡ get_or kinds 0 d → others ≡ take (length kinds - 1) (drop 1 kinds) → q ∷ others ≡ kinds
first_and [] others q d h e f = absurd (omega (arith, h))
first_and (k ∷ kinds) others q d h e f = ap (λ x. x ∷ others) e ∙ ap (λ l. k ∷ l) (f ∙ take_all (length (k ∷ kinds) - 1) kinds (omega arith))

-- parts of a node that isn't complete
inner_first : (q : Kind) (qs inner : List Kind) (closed : ℕ) (frames : List Frame) (others : List Kind) → q ∷ qs ≡ inner
    → further_due (q ∷ qs) ++ later_due [] closed frames others ≡ later_due inner closed frames others
unfolding later_due
inner_first q qs inner closed frames others e = ap (λ l. inner_due l (closed_due closed (frames_due (reverse frames) (others_due others)))) e

-- they are put into a frame
pub frame_put : (closed : ℕ) (old new : List Frame) (others inner : List Kind) (f : Frame) (d : Kind) → new ≡ old ++ f ∷ [] → f.closed ≡ closed
    → 1 ≤ length inner → f.first ≡ get_or inner 0 d → f.others.now ≡ take (length inner - 1) (drop 1 inner)
    → later_due [] 0 new others ≡ later_due inner closed old others
frame_put closed old new others inner f d e c h q o =
    one_frame old new others f e ∙ inner_first f.first f.others.now inner f.closed old others (first_and inner f.others.now f.first d h q o)
    ∙ ap (λ n. later_due inner n old others) c

-- the next of them
pub next_of_inner : (closed : ℕ) (frames : List Frame) (others inner : List Kind) → 1 ≤ length inner
    → later_due inner closed frames others ≡ due.Mark 44 ∷ due.Value (slice_index_or inner 0 kind.Int) ∷ (further_due (take (length inner - 1) (drop 1 inner)) ++ later_due [] closed frames others)
unfolding later_due
next_of_inner closed frames others [] h = absurd (omega (arith, h))
next_of_inner closed frames others (q ∷ inner) h =
    ap (λ l. due.Mark 44 ∷ due.Value q ∷ (further_due l ++ closed_due closed (frames_due (reverse frames) (others_due others)))) (sym (take_all (length (q ∷ inner) - 1) inner (omega arith)))

-- ---- values

pub none_first : (kinds : List Kind) → length kinds < 1 → [] ≡ first_due kinds
none_first [] h = refl
none_first (q ∷ kinds) h = absurd (omega (arith, h))

pub some_first : (kinds : List Kind) (ds : List Due) → 1 ≤ length kinds → ds ≡ others_due (take (length kinds - 1) (drop 1 kinds))
    → due.Value (slice_index_or kinds 0 kind.Int) ∷ ds ≡ first_due kinds
some_first [] ds h e = absurd (omega (arith, h))
some_first (q ∷ kinds) ds h e = ap (λ l. due.Value q ∷ l) (e ∙ ap others_due (take_all (length (q ∷ kinds) - 1) kinds (omega arith)))

pub some_other : (kinds : List Kind) → 1 ≤ length kinds
    → others_due kinds ≡ due.Mark 32 ∷ due.Value (slice_index_or kinds 0 kind.Int) ∷ others_due (take (length kinds - 1) (drop 1 kinds))
some_other [] h = absurd (omega (arith, h))
some_other (q ∷ kinds) h = ap (λ l. due.Mark 32 ∷ due.Value q ∷ others_due l) (sym (take_all (length (q ∷ kinds) - 1) kinds (omega arith)))

-- what holds of an answer holds of it still
pub ok_still : {A E : Type 0} (P Q : A → Type 0) (r : Result A E) → ((x : A) → P x → Q x) → IfOk r P → IfOk r Q
ok_still P Q (Ok x) f h = f x h
ok_still P Q (Err e) f h = tt
