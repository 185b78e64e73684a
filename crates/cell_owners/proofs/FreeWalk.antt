-- The walk along a free list.
use Rattle.std.proofs.Common.{Fits, w32, ◌≡◌, ℕ, ◌+◌, ◌<◌, ◌≤◌, Bool, true, false, List, [], ◌∷◌, ◌++◌, length, Option, Some, None, refl, sym, ap, ◌∙◌, subst, arith, length-append}
use Rattle.std.specs.Prelude.{◌==◌, if◌then◌else◌, slice_get, slice_index_or, slice_set}
use Rattle.std.specs.Option.{option_map_or}
use Rattle.std.proofs.lemmas.Bool.Decides.{nat_tests}
use Rattle.cell_span.specs.declared.cell.Cell.{Cell}
use Rattle.cell_machine.specs.Cells.{free_cell, no_cell}
use Rattle.cell_machine.specs.Stands.{IsFreeList, times}
use Rattle.cell_machine.specs.Steps.{if_there}
use Rattle.cell_machine.specs.theory.Counting.{times_append, times_here}
use Rattle.std.proofs.lemmas.Option.{slice_get_within}
use Rattle.cell_owners.specs.Marks.{is_marked, AreMarkedBy, open_in}
use Rattle.cell_owners.specs.MarkLaws.{fresh_before}
use Rattle.cell_owners.specs.FreeLists.{IsOpenList, HasNone, IsFreeTaken, LeadsTo, FailsAt}
use Rattle.cell_owners.specs.Looks.{next_in, next_of}
use Rattle.cell_owners.proofs.Marking.{one_less, as_many, few_open, one_more, one_at}

-- ---- free cells

words_are : (ws : List ℕ) (next : ℕ) → next_in ws ≡ Some next → ws ≡ next ∷ 0 ∷ 0 ∷ 0 ∷ []
words_are [] next e = absurd cc
words_are (a ∷ []) next e = absurd cc
words_are (a ∷ b ∷ []) next e = absurd cc
words_are (a ∷ b ∷ c ∷ []) next e = absurd cc
words_are (a ∷ b ∷ c ∷ d ∷ x ∷ ws) next e = absurd cc
words_are (a ∷ b ∷ c ∷ d ∷ []) next e = second (b == 0) refl e
  where
    fourth : (t : Bool) → (d == 0) ≡ t → b ≡ 0 → c ≡ 0 → (if t then Some a else None) ≡ Some next → ◌≡◌ {A = List ℕ} (a ∷ b ∷ c ∷ d ∷ []) (next ∷ 0 ∷ 0 ∷ 0 ∷ [])
    fourth true e p q k =
        let r : d ≡ 0 = grind (arith, nat_tests, e) in
        let same : a ≡ next = cc in
        λ i. same i ∷ p i ∷ q i ∷ r i ∷ []
    fourth false e p q k = absurd cc

    third : (t : Bool) → (c == 0) ≡ t → b ≡ 0 → (if t then (if d == 0 then Some a else None) else None) ≡ Some next → ◌≡◌ {A = List ℕ} (a ∷ b ∷ c ∷ d ∷ []) (next ∷ 0 ∷ 0 ∷ 0 ∷ [])
    third true e p k = fourth (d == 0) refl p (grind (arith, nat_tests, e)) k
    third false e p k = absurd cc

    second : (t : Bool) → (b == 0) ≡ t → (if t then (if c == 0 then (if d == 0 then Some a else None) else None) else None) ≡ Some next → ◌≡◌ {A = List ℕ} (a ∷ b ∷ c ∷ d ∷ []) (next ∷ 0 ∷ 0 ∷ 0 ∷ [])
    second true e k = third (c == 0) refl (grind (arith, nat_tests, e)) k
    second false e k = absurd cc

cell_is : (c : Cell) (next : ℕ) → next_of c ≡ Some next → c ≡ free_cell next
cell_is c next e = by_tag (c.tag == 4294967295) refl e
  where
    by_tag : (t : Bool) → (c.tag == 4294967295) ≡ t → (if t then next_in c.words else None) ≡ Some next → c ≡ free_cell next
    by_tag true h k = let p : c.tag ≡ 4294967295 = grind (arith, nat_tests, h) in let q = words_are c.words next k in λ i. record { tag = p i; words = q i }
    by_tag false h k = absurd cc

there : (cells : List Cell) (at next : ℕ) → if_there (slice_get cells at) next_of ≡ Some next → slice_get cells at ≡ Some (free_cell next)
there cells at next e = by_cell (slice_get cells at) e
  where
    by_cell : (o : Option Cell) → if_there o next_of ≡ Some next → o ≡ Some (free_cell next)
    by_cell None e = absurd cc
    by_cell (Some c) e = ap Some (cell_is c next e)

-- ---- the walk

pub record Midway (cells : List Cell) (head : ℕ) (marks : List Bool) (count at : ℕ) (now : List Bool) : Type 0 where
  pub before : List ℕ
  pub leads : LeadsTo cells head before at
  pub behind : AreMarkedBy marks before now
  pub many : count ≡ length before
  pub left : count + open_in now ≡ open_in marks
  pub size : length now ≡ length marks

pub starts : (cells : List Cell) (head : ℕ) (marks : List Bool) → Midway cells head marks 0 head marks
starts cells head marks = record { before = []; leads = refl; behind = λ at. omega arith; many = refl; left = omega arith; size = refl }

leads_on : (cells : List Cell) (head at next : ℕ) (xs : List ℕ) → LeadsTo cells head xs at → slice_get cells at ≡ Some (free_cell next) → LeadsTo cells head (xs ++ at ∷ []) next
leads_on cells head at next [] l e = (l, (next, e, refl))
leads_on cells head at next (x ∷ xs) l e = (l.0, (l.1.0, l.1.1, leads_on cells l.1.0 at next xs l.1.2 e))

pub goes_on : (cells : List Cell) (head : ℕ) (marks : List Bool) (count at next : ℕ) (now : List Bool) → Midway cells head marks count at now
    → if_there (slice_get cells at) next_of ≡ Some next → is_marked now at ≡ false → Midway cells head marks (count + 1) next (slice_set now at true)
goes_on cells head marks count at next now m e open_there = record {
  before = m.before ++ at ∷ [];
  leads = leads_on cells head at next m.before m.leads (there cells at next e);
  behind = λ x. omega (arith, m.behind x, one_more now at open_there x, times_append x m.before (at ∷ []));
  many = omega (arith, m.many, length-append m.before (at ∷ []));
  left = omega (arith, m.left, one_less now at open_there);
  size = as_many now at ∙ m.size;
}

pub counts : (cells : List Cell) (head : ℕ) (marks : List Bool) (count at : ℕ) (now : List Bool) → Midway cells head marks count at now
    → length marks ≡ length cells → length cells ≤ 2147483648 → Fits w32 (count + 1)
counts cells head marks count at now m same few = omega (arith, m.left, few_open marks, same, few)

list_by : (cells : List Cell) (head at : ℕ) (xs : List ℕ) → LeadsTo cells head xs at → at ≡ no_cell → IsFreeList cells head xs
list_by cells head at [] l e = l ∙ e
list_by cells head at (x ∷ xs) l e = (l.0, (l.1.0, l.1.1, list_by cells l.1.0 at xs l.1.2 e))

pub ends : (cells : List Cell) (head : ℕ) (marks : List Bool) (count at : ℕ) (now : List Bool) → Midway cells head marks count at now → at ≡ 4294967295
    → IsFreeTaken cells head marks now count
ends cells head marks count at now m e = record {
  free = m.before;
  open_list = record { runs = list_by cells head at m.before m.leads e; fresh = fresh_before marks now m.before m.behind };
  many = m.many;
  marks = m.behind;
}

pub fails_none : (cells : List Cell) (head : ℕ) (marks : List Bool) (count at : ℕ) (now : List Bool) → Midway cells head marks count at now → (at ≡ 4294967295 → ⊥)
    → if_there (slice_get cells at) next_of ≡ None → FailsAt cells marks head at
fails_none cells head marks count at now m more bad = record {
  before = m.before;
  leads = m.leads;
  fresh = fresh_before marks now m.before m.behind;
  goes_on = more;
  fails = λ next e. let k : if_there (slice_get cells at) next_of ≡ Some next = ap (λ o. if_there o next_of) e in let clash : None ≡ Some next = sym bad ∙ k in absurd cc;
}

pub fails_marked : (cells : List Cell) (head : ℕ) (marks : List Bool) (count at : ℕ) (now : List Bool) → Midway cells head marks count at now → (at ≡ 4294967295 → ⊥)
    → is_marked now at ≡ true → FailsAt cells marks head at
fails_marked cells head marks count at now m more taken = record {
  before = m.before;
  leads = m.leads;
  fresh = fresh_before marks now m.before m.behind;
  goes_on = more;
  fails = λ next e. omega (arith, m.behind at, one_at now at taken);
}

-- ---- a list that fails is none

first_word_of : (next other : ℕ) → ◌≡◌ {A = Option Cell} (Some (free_cell next)) (Some (free_cell other)) → next ≡ other
first_word_of next other e = ap (λ o. option_map_or (λ c. slice_index_or c.words 0 0) o 0) e

-- the free list goes on at each offset to which it leads
pub record Rest (cells : List Cell) (before free : List ℕ) (at : ℕ) : Type 0 where
  pub rest : List ℕ
  pub whole : (x : ℕ) → times x free ≡ times x before + times x rest
  pub runs : IsFreeList cells at rest

rest_of : (cells : List Cell) (head at : ℕ) (before free : List ℕ) → length cells ≤ 2147483648 → LeadsTo cells head before at → IsFreeList cells head free → Rest cells before free at
rest_of cells head at [] free few l r = record { rest = free; whole = λ x. omega arith; runs = subst (λ h. IsFreeList cells h free) l r }
rest_of cells head at (x ∷ before) [] few l r =
    let within : x < length cells = slice_get_within cells x (free_cell l.1.0) l.1.1 in absurd (omega (arith, within, few, l.0, r))
rest_of cells head at (x ∷ before) (y ∷ free) few l r =
    let same : x ≡ y = sym l.0 ∙ r.0 in
    let next : r.1.0 ≡ l.1.0 = first_word_of r.1.0 l.1.0 (sym r.1.1 ∙ ap (slice_get cells) (sym same) ∙ l.1.1) in
    let k = rest_of cells l.1.0 at before free few l.1.2 (subst (λ n. IsFreeList cells n free) next r.1.2) in
    record {
      rest = k.rest;
      whole = λ a. omega (arith, k.whole a, ap (λ x. times a (x ∷ [])) same);
      runs = k.runs;
    }

none_there : (cells : List Cell) (marks : List Bool) (head at : ℕ) → length cells ≤ 2147483648 → FailsAt cells marks head at → (free : List ℕ) → IsOpenList cells marks head free → ⊥
none_there cells marks head at few f free o = by_rest k.rest k.whole k.runs
  where
    k : Rest cells f.before free at
    k = rest_of cells head at f.before free few f.leads o.runs

    by_rest : (rest : List ℕ) → ((x : ℕ) → times x free ≡ times x f.before + times x rest) → IsFreeList cells at rest → ⊥
    by_rest [] whole runs = f.goes_on runs
    by_rest (z ∷ rest) whole runs =
        let here : ◌≡◌ {A = ℕ} (if at == z then 1 else 0) 1 = subst (λ z. ◌≡◌ {A = ℕ} (if at == z then 1 else 0) 1) runs.0 (times_here at) in
        omega (arith, f.fails runs.1.0 (ap (slice_get cells) runs.0 ∙ runs.1.1), o.fresh at, whole at, here)

pub none_at_none : (cells : List Cell) (head : ℕ) (marks : List Bool) (count at : ℕ) (now : List Bool) → Midway cells head marks count at now → (at ≡ 4294967295 → ⊥)
    → length cells ≤ 2147483648 → if_there (slice_get cells at) next_of ≡ None → HasNone cells marks head
none_at_none cells head marks count at now m more few bad = record { none = none_there cells marks head at few (fails_none cells head marks count at now m more bad) }

pub none_at_marked : (cells : List Cell) (head : ℕ) (marks : List Bool) (count at : ℕ) (now : List Bool) → Midway cells head marks count at now → (at ≡ 4294967295 → ⊥)
    → length cells ≤ 2147483648 → is_marked now at ≡ true → HasNone cells marks head
none_at_marked cells head marks count at now m more few taken = record { none = none_there cells marks head at few (fails_marked cells head marks count at now m more taken) }
