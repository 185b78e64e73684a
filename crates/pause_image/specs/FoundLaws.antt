-- Laws, for the proofs of this crate and of those above it.
-- A frame stands where the values of its ready locals were found; what it holds and what it carries are theirs.
use Rattle.std.proofs.Common.{◌≡◌, ℕ, zero, suc, ◌+◌, ◌≤◌, ◌<◌, Bool, true, false, List, [], ◌∷◌, ◌++◌, map, length, Option, Some, None, refl, sym, ap, ◌∙◌, subst, arith}
use Rattle.std.specs.Prelude.{IsSomeAnd, nat_lt, slice_get, flat_map, if◌then◌else◌}
use Rattle.std.specs.List.{range_with_len}
use Rattle.std.proofs.lemmas.Bool.Decides.{nat_tests}
use Rattle.cell_span.specs.declared.cell.Cell.{Cell}
use Rattle.camelot_values.specs.Value.{Value}
use Rattle.camelot_values.specs.Kinds.{DataType}
use Rattle.camelot_values.specs.Typing.{Fits}
use Rattle.grail_blocks.specs.States as states
use Rattle.grail_blocks.specs.States.{Status, Unbound, Ready, Spent}
use Rattle.grail_code.specs.Code.{Func}
use Rattle.grail_code.specs.WellFormed.{kind_of, local_kinds, is_lent}
use Rattle.grail_code.specs.Places.{Holds}
use Rattle.licence.specs.Books.{Carried}
use Rattle.licence.specs.Worth.{sum_below, value_units, status_units, local_units, total}
use Rattle.cell_machine.specs.Sound.{LocalStands, held, owning, lending, Holding, holdings_of, owned_by, loans_of, cells_held, FrameStands}
use Rattle.cell_machine.specs.Stands.{times, RepeatsNone}
use Rattle.cell_machine.specs.theory.Counting.{none_all, one_of, same_all}
use Rattle.pause_image.specs.Found.{FoundOne, Found, value_at, taken_one, taken, units_one, units}

-- ---- word by word

found_at : (types : List DataType) (cells : List Cell) (f : Func) (s : states.State) (x : ℕ) (ws : List ℕ) (os : List (Option Value)) (y w : ℕ)
    → Found types cells f s x ws os → slice_get ws y ≡ Some w → FoundOne types cells f (s (x + y)) (x + y) w (value_at os y)
found_at types cells f s x [] os y w h e = absurd cc
found_at types cells f s x (u ∷ ws) [] y w h e = absurd h
found_at types cells f s x (u ∷ ws) (o ∷ os) zero w h e =
    let same : u ≡ w = cc in
    let none : x ≡ x + 0 = omega arith in
    subst (λ n. FoundOne types cells f (s n) n w o) none (subst (λ u. FoundOne types cells f (s x) x u o) same h.0)
found_at types cells f s x (u ∷ ws) (o ∷ os) (suc y) w h e =
    let next : suc x + y ≡ x + suc y = omega arith in
    subst (λ n. FoundOne types cells f (s n) n w (value_at os y)) next (found_at types cells f s (suc x) ws os y w h.1 e)

found_many : (types : List DataType) (cells : List Cell) (f : Func) (s : states.State) (x : ℕ) (ws : List ℕ) (os : List (Option Value)) → Found types cells f s x ws os → length os ≡ length ws
found_many types cells f s x [] [] h = refl
found_many types cells f s x [] (o ∷ os) h = absurd h
found_many types cells f s x (w ∷ ws) [] h = absurd h
found_many types cells f s x (w ∷ ws) (o ∷ os) h = ap suc (found_many types cells f s (suc x) ws os h.1)

word_there : (ws : List ℕ) (y : ℕ) → y < length ws → (w : ℕ) × (slice_get ws y ≡ Some w)
word_there [] y h = absurd (omega (arith, h))
word_there (w ∷ ws) zero h = (w, refl)
word_there (w ∷ ws) (suc y) h = word_there ws y (omega (arith, h))

ready_found : (types : List DataType) (cells : List Cell) (f : Func) (t : Status) (x w : ℕ) (o : Option Value) → t ≡ Ready → FoundOne types cells f t x w o
    → FoundOne types cells f Ready x w o
ready_found types cells f Ready x w o e h = h
ready_found types cells f Unbound x w o e h = absurd cc
ready_found types cells f Spent x w o e h = absurd cc

holds_by : (types : List DataType) (cells : List Cell) (f : Func) (x w : ℕ) (env : ℕ → Option Value) (o : Option Value) → env x ≡ o → FoundOne types cells f Ready x w o → Holds types f env x
holds_by types cells f x w env None e h = absurd h
holds_by types cells f x w env (Some v) e h = subst (λ o. IsSomeAnd o (λ v. IsSomeAnd (kind_of f x) (λ q. Fits types q v))) (sym e) h.0

stands_by : (types : List DataType) (cells : List Cell) (f : Func) (x w : ℕ) (o : Option Value) (u : Option ℕ) → u ≡ Some w → FoundOne types cells f Ready x w o → LocalStands types cells o u
stands_by types cells f x w None u e h = absurd h
stands_by types cells f x w (Some v) u e h = subst (LocalStands types cells (Some v)) (sym e) h.1

-- ---- what is held

held_here : (types : List DataType) (cells : List Cell) (f : Func) (t : Status) (x w : ℕ) (o : Option Value) → FoundOne types cells f t x w o → held types cells t o (Some w) ≡ taken_one types cells w o
held_here types cells f Ready x w None h = absurd h
held_here types cells f Ready x w (Some v) h = refl
held_here types cells f Unbound x w None h = refl
held_here types cells f Unbound x w (Some v) h = absurd cc
held_here types cells f Spent x w None h = refl
held_here types cells f Spent x w (Some v) h = absurd cc

-- local by local, the cells that are held are those of the values found
held_all : (types : List DataType) (cells : List Cell) (f : Func) (s : states.State) (x : ℕ) (ws : List ℕ) (os : List (Option Value)) (env : ℕ → Option Value) (word : ℕ → Option ℕ)
    → Found types cells f s x ws os → ((y : ℕ) → env (x + y) ≡ value_at os y) → ((y : ℕ) → word (x + y) ≡ slice_get ws y)
    → flat_map (λ y. held types cells (s y) (env y) (word y)) (range_with_len x (length ws)) ≡ taken types cells ws os
held_all types cells f s x [] os env word h a b = refl
held_all types cells f s x (w ∷ ws) [] env word h a b = absurd h
held_all types cells f s x (w ∷ ws) (o ∷ os) env word h a b =
    let none : x + 0 ≡ x = omega arith in
    let next : x + 1 ≡ suc x = omega arith in
    let first : held types cells (s x) (env x) (word x) ≡ taken_one types cells w o =
    ap (λ o. held types cells (s x) o (word x)) (sym (ap env none) ∙ a 0) ∙ ap (held types cells (s x) o) (sym (ap word none) ∙ b 0) ∙ held_here types cells f (s x) x w o h.0 in
    ap (λ n. held types cells (s x) (env x) (word x) ++ flat_map (λ y. held types cells (s y) (env y) (word y)) (range_with_len n (length ws))) next
    ∙ ap (λ l. l ++ flat_map (λ y. held types cells (s y) (env y) (word y)) (range_with_len (suc x) (length ws))) first
    ∙ ap (λ l. taken_one types cells w o ++ l)
    (held_all types cells f s (suc x) ws os env word h.1
    (λ y. let n : suc x + y ≡ x + suc y = omega arith in ap env n ∙ a (suc y))
    (λ y. let n : suc x + y ≡ x + suc y = omega arith in ap word n ∙ b (suc y)))

-- no ready local is lent
abbrev pub NoneLent : List DataType → Func → states.State → Type 0
NoneLent types f s = (x : ℕ) → is_lent types f x ≡ true → s x ≡ Ready → ⊥

unready : (types : List DataType) (cells : List Cell) (t : Status) (o : Option Value) (w : Option ℕ) → (t ≡ Ready → ⊥) → held types cells t o w ≡ []
unready types cells Ready o w h = absurd (h refl)
unready types cells Unbound o w h = refl
unready types cells Spent o w h = refl

owned_here : (types : List DataType) (cells : List Cell) (l : Bool) (t : Status) (o : Option Value) (w : Option ℕ) → (l ≡ true → t ≡ Ready → ⊥)
    → held types cells (if l then Spent else t) o w ≡ held types cells t o w
owned_here types cells true t o w h = sym (unready types cells t o w (h refl))
owned_here types cells false t o w h = refl

lent_here : (types : List DataType) (cells : List Cell) (l : Bool) (t : Status) (o : Option Value) (w : Option ℕ) → (l ≡ true → t ≡ Ready → ⊥)
    → held types cells (if l then t else Spent) o w ≡ []
lent_here types cells true t o w h = unready types cells t o w (h refl)
lent_here types cells false t o w h = refl

flat_mapped : {A B C : Type 0} (g : B → List C) (k : A → B) (xs : List A) → flat_map g (map k xs) ≡ flat_map (λ x. g (k x)) xs
flat_mapped g k [] = refl
flat_mapped g k (x ∷ xs) = ap (λ l. g (k x) ++ l) (flat_mapped g k xs)

-- ---- what is carried

units_here : (types : List DataType) (cells : List Cell) (f : Func) (t : Status) (x w : ℕ) (o : Option Value) (carried : Carried ℕ) → FoundOne types cells f t x w o
    → status_units t (value_units types (carried x) o) ≡ units_one types (carried x) o
units_here types cells f Ready x w None carried h = absurd h
units_here types cells f Ready x w (Some v) carried h = refl
units_here types cells f Unbound x w None carried h = refl
units_here types cells f Unbound x w (Some v) carried h = absurd cc
units_here types cells f Spent x w None carried h = refl
units_here types cells f Spent x w (Some v) carried h = absurd cc

units_from : (types : List DataType) (cells : List Cell) (f : Func) (s : states.State) (x : ℕ) (ws : List ℕ) (os : List (Option Value)) (env : ℕ → Option Value) (carried : Carried ℕ)
    → Found types cells f s x ws os → ((y : ℕ) → env (x + y) ≡ value_at os y)
    → sum_below (local_units types s env carried) (x + length ws) ≡ sum_below (local_units types s env carried) x + units types carried x os
units_from types cells f s x [] [] env carried h a =
    let none : x + 0 ≡ x = omega arith in
    let more : sum_below (local_units types s env carried) x ≡ sum_below (local_units types s env carried) x + 0 = omega arith in
    ap (sum_below (local_units types s env carried)) none ∙ more
units_from types cells f s x [] (o ∷ os) env carried h a = absurd h
units_from types cells f s x (w ∷ ws) [] env carried h a = absurd h
units_from types cells f s x (w ∷ ws) (o ∷ os) env carried h a =
    let none : x + 0 ≡ x = omega arith in
    let next : x + suc (length ws) ≡ suc x + length ws = omega arith in
    let one : local_units types s env carried x ≡ units_one types (carried x) o =
    ap (λ o. status_units (s x) (value_units types (carried x) o)) (sym (ap env none) ∙ a 0) ∙ units_here types cells f (s x) x w o carried h.0 in
    let others = units_from types cells f s (suc x) ws os env carried h.1 (λ y. let n : suc x + y ≡ x + suc y = omega arith in ap env n ∙ a (suc y)) in
    ap (sum_below (local_units types s env carried)) next ∙ omega (arith, others, one)

-- ---- the frame

-- the frame stands, and what it holds and carries is that of the values found
pub record IsStood (types : List DataType) (cells : List Cell) (f : Func) (s : states.State) (ws : List ℕ) (os : List (Option Value)) : Type 0 where
  pub stands : FrameStands types cells f s (value_at os) ws
  pub holdings : (frame : ℕ) → cells_held (holdings_of types cells f s (value_at os) ws frame) ≡ taken types cells ws os
  pub owned : owned_by types cells f s (value_at os) ws ≡ taken types cells ws os
  pub loans : (at : ℕ) → times at (loans_of types cells f s (value_at os) ws) ≡ 0
  pub carries : (carried : Carried ℕ) → total types f s (value_at os) carried ≡ units types carried 0 os

past_end : (ws : List ℕ) (x : ℕ) → length ws ≤ x → slice_get ws x ≡ None
past_end [] x h = refl
past_end (w ∷ ws) zero h = absurd (omega (arith, h))
past_end (w ∷ ws) (suc x) h = past_end ws x (omega (arith, h))

no_word : (types : List DataType) (cells : List Cell) (t : Status) (o : Option Value) (u : Option ℕ) → u ≡ None → held types cells t o u ≡ []
no_word types cells Ready None u e = refl
no_word types cells Ready (Some v) None e = refl
no_word types cells Ready (Some v) (Some w) e = absurd cc
no_word types cells Unbound o u e = refl
no_word types cells Spent o u e = refl

pub stood : (types : List DataType) (cells : List Cell) (f : Func) (s : states.State) (ws : List ℕ) (os : List (Option Value)) → length ws ≡ length (local_kinds f)
    → ((x : ℕ) → s x ≡ Ready → x < length ws) → NoneLent types f s → Found types cells f s 0 ws os → RepeatsNone (taken types cells ws os) → IsStood types cells f s ws os
stood types cells f s ws os width inside lent h once = record {
  stands = record {
    fits = record { holds = λ x r. let w = word_there ws x (inside x r) in holds_by types cells f x w.0 (value_at os) (value_at os x) refl (one x w.0 r w.1) };
    width = width;
    stands = λ x r. let w = word_there ws x (inside x r) in stands_by types cells f x w.0 (value_at os x) (slice_get ws x) w.1 (one x w.0 r w.1);
    each = λ x at. each x at;
  };
  holdings = λ frame. flat_mapped (λ (h : Holding). h.cells) (λ x. record { frame = frame; local = x; cells = held types cells (owning types f s x) (value_at os x) (slice_get ws x) }) (range_with_len 0 (length (local_kinds f))) ∙ owned;
  owned = owned;
  loans = λ at. none_all at (λ x. held types cells (lending types f s x) (value_at os x) (slice_get ws x)) 0 (length (local_kinds f))
      (λ x k. ap (times at) (lent_here types cells (is_lent types f x) (s x) (value_at os x) (slice_get ws x) (lent x)));
  carries = λ carried.
      let n : length (local_kinds f) ≡ 0 + length ws = omega (arith, width) in
      let none : 0 + units types carried 0 os ≡ units types carried 0 os = omega arith in
      ap (sum_below (local_units types s (value_at os) carried)) n ∙ units_from types cells f s 0 ws os (value_at os) carried h (λ y. let z : 0 + y ≡ y = omega arith in ap (value_at os) z) ∙ none;
}
  where
    one : (x w : ℕ) → s x ≡ Ready → slice_get ws x ≡ Some w → FoundOne types cells f Ready x w (value_at os x)
    one x w r e =
        let z : 0 + x ≡ x = omega arith in
        ready_found types cells f (s x) x w (value_at os x) r (subst (λ n. FoundOne types cells f (s n) n w (value_at os x)) z (found_at types cells f s 0 ws os x w h e))

    all_held : flat_map (λ x. held types cells (s x) (value_at os x) (slice_get ws x)) (range_with_len 0 (length (local_kinds f))) ≡ taken types cells ws os
    all_held = ap (λ n. flat_map (λ x. held types cells (s x) (value_at os x) (slice_get ws x)) (range_with_len 0 n)) (sym width)
        ∙ held_all types cells f s 0 ws os (value_at os) (slice_get ws) h (λ y. let z : 0 + y ≡ y = omega arith in ap (value_at os) z) (λ y. let z : 0 + y ≡ y = omega arith in ap (slice_get ws) z)

    owned : owned_by types cells f s (value_at os) ws ≡ taken types cells ws os
    owned = same_all (λ x. held types cells (s x) (value_at os x) (slice_get ws x)) (λ x. held types cells (owning types f s x) (value_at os x) (slice_get ws x)) 0 (length (local_kinds f))
        (λ x a b. owned_here types cells (is_lent types f x) (s x) (value_at os x) (slice_get ws x) (lent x)) ∙ all_held

    each : (x at : ℕ) → times at (held types cells (s x) (value_at os x) (slice_get ws x)) ≤ 1
    each x at = by_place (nat_lt x (length ws)) refl
      where
        by_place : (b : Bool) → nat_lt x (length ws) ≡ b → times at (held types cells (s x) (value_at os x) (slice_get ws x)) ≤ 1
        by_place true e =
            let less : x < length ws = grind (arith, nat_tests, e) in
            omega (arith, once at, ap (times at) all_held, one_of at (λ y. held types cells (s y) (value_at os y) (slice_get ws y)) x 0 (length (local_kinds f)) (omega arith) (omega (arith, less, width)))
        by_place false e =
            let more : length ws ≤ x = grind (arith, nat_tests, e) in
            omega (arith, ap (times at) (no_word types cells (s x) (value_at os x) (slice_get ws x) (past_end ws x more)))
