-- The walk over the cells of a value.
use Rattle.std.proofs.Common.{Fits as IsInRange, ◌≡◌, ℕ, suc, ◌+◌, ◌*◌, ◌<◌, ◌≤◌, Bool, true, false, List, [], ◌∷◌, ◌++◌, length, Option, Some, None, sym, ap, ◌∙◌, subst, arith}
use mir.Syntax.{w128}
use Rattle.std.specs.Prelude.{slice_set}
use Rattle.std.specs.List.{AllByRecursion}
use Rattle.cell_span.specs.declared.cell.Cell.{Cell}
use Rattle.camelot_values.specs.Value as value
use Rattle.camelot_values.specs.Value.{Value, Values}
use Rattle.camelot_values.specs.Kinds.{DataType, IsDataType}
use Rattle.camelot_values.specs.Typing.{Fits}
use Rattle.camelot_values.specs.declared.kinds.Kind.{Kind}
use Rattle.annotations.specs.Vectors.{Vector, at, potential, potential_all}
use Rattle.cell_machine.specs.Cells.{inline_base}
use Rattle.cell_machine.specs.Stands.{Stands, footprint, times}
use Rattle.cell_machine.specs.theory.Counting.{times_append}
use Rattle.cell_owners.specs.declared.look.Due.{Due}
use Rattle.cell_owners.specs.Marks.{is_marked, owners, open_in}
use Rattle.cell_owners.specs.Values.{IsAtMost, IsOwnable, IsTaken}
use Rattle.cell_owners.specs.Looks.{Pile, PileIs, due_at, open_at, put_all}
use Rattle.cell_owners.proofs.Marking.{inside, one_less, few_open, one_more, one_at}
use Rattle.cell_owners.specs.MarkLaws.{at_most_one}
use Rattle.cell_owners.proofs.Piles.{AreDue, feet, Joins, join, part, Came, put_forth, put_back, Opened, open_forth, open_back}

-- the value of the word at first, and values of what is due
pub record Same (types : List DataType) (cells : List Cell) (vector : Vector) (w : ℕ) (marks now : List Bool) (ds : List Due) (n : ℕ) (v : Value) (rs : Values) : Type 0 where
  pub due : AreDue types cells ds rs
  pub carries : potential types (at vector) v ≡ n + potential_all types (at vector) rs
  pub takes : (a : ℕ) → owners marks a + times a (footprint types cells v w) ≡ owners now a + times a (feet types cells ds rs)

-- Values of what is due give a value of the word, and the other way round. They carry as much, beside so many units, and
-- take the same cells, beside those with a mark.
pub record Way (types : List DataType) (cells : List Cell) (vector : Vector) (q : Kind) (w : ℕ) (marks now : List Bool) (ds : List Due) (n : ℕ) : Type 0 where
  pub forth : (rs : Values) → AreDue types cells ds rs → (v : Value) × Fits types q v × Stands types cells v w × Same types cells vector w marks now ds n v rs
  pub back : (v : Value) → Fits types q v → Stands types cells v w → (rs : Values) × Same types cells vector w marks now ds n v rs

-- ---- the word itself

first_same : (types : List DataType) (cells : List Cell) (vector : Vector) (q : Kind) (w : ℕ) (marks : List Bool) (p : Pile) (v : Value) (rs : Values)
    → Came types cells vector (q ∷ []) (w ∷ []) [] 0 p value.End (value.And v value.End) rs → Same types cells vector w marks marks p.cells p.units v rs
first_same types cells vector q w marks p v rs c = record {
  due = c.new;
  carries = omega (arith, c.carries);
  takes = λ a. omega (arith, c.takes a, times_append a (footprint types cells v w) []);
}

pub starts : (types : List DataType) (cells : List Cell) (vector : Vector) → AllByRecursion IsDataType types → length cells ≤ inline_base → (q : Kind) (w : ℕ) (marks : List Bool) (p : Pile)
    → put_all types vector (q ∷ []) (w ∷ []) [] 0 ≡ Some p → Way types cells vector q w marks marks p.cells p.units
starts types cells vector well few q w marks p e = record {
  forth = λ rs h. let r = put_forth types cells vector well (q ∷ []) (w ∷ []) [] 0 p e rs h in by_values r.0 r.1.0 rs r.1.1;
  back = λ v f s. let r = put_back types cells vector well few (q ∷ []) (w ∷ []) [] 0 value.End (value.And v value.End) tt (f, tt) (s, tt) in
      let same : r.pile ≡ p = some_is (sym r.is ∙ e) in
      subst (λ (p : Pile). (rs : Values) × Same types cells vector w marks marks p.cells p.units v rs) same (r.rest, first_same types cells vector q w marks r.pile v r.rest r.came);
}
  where
    some_is : {x y : Pile} → Some x ≡ Some y → x ≡ y
    some_is e = cc

    by_values : (us fs rs : Values) → Came types cells vector (q ∷ []) (w ∷ []) [] 0 p us fs rs
        → (v : Value) × Fits types q v × Stands types cells v w × Same types cells vector w marks marks p.cells p.units v rs
    by_values (value.And u us) fs rs c = absurd c.old
    by_values value.End value.End rs c = absurd c.fit
    by_values value.End (value.And v (value.And x xs)) rs c = absurd c.fit.1
    by_values value.End (value.And v value.End) rs c = (v, c.fit.0, c.stand.0, first_same types cells vector q w marks p v rs c)

pub starts_not : (types : List DataType) (cells : List Cell) (vector : Vector) → AllByRecursion IsDataType types → length cells ≤ inline_base → (q : Kind) (w : ℕ) (marks : List Bool)
    → put_all types vector (q ∷ []) (w ∷ []) [] 0 ≡ None → (v : Value) → IsOwnable types cells marks q w v → ⊥
starts_not types cells vector well few q w marks e v o =
    let r = put_back types cells vector well few (q ∷ []) (w ∷ []) [] 0 value.End (value.And v value.End) tt (o.fits, tt) (o.stands, tt) in
    let clash : None ≡ Some r.pile = sym e ∙ r.is in absurd cc

-- ---- a cell

pub goes_on : (types : List DataType) (cells : List Cell) (vector : Vector) → AllByRecursion IsDataType types → length cells ≤ inline_base → (q : Kind) (w : ℕ) (marks now : List Bool) (ds : List Due) (d : Due) (n : ℕ) (p : Pile)
    → Way types cells vector q w marks now (ds ++ d ∷ []) n → is_marked now (due_at d) ≡ false → due_at d < length cells → open_at types vector cells ds d ≡ Some p
    → Way types cells vector q w marks (slice_set now (due_at d) true) p.cells (n + p.units)
goes_on types cells vector well few q w marks now ds d n p way fresh within e = record {
  forth = λ rs h.
      let o = open_forth types cells vector well ds d p within e rs h in
      let j = join types cells vector ds d o.0 o.1.0 o.1.1.old o.1.1.one in
      let r = way.forth j.0 j.1.all in
      (r.0, r.1, r.2, same o.0 o.1.0 j.0 rs r.0 j.1 o.1.1 r.3);
  back = λ v f s.
      let r = way.back v f s in
      let j = part types cells vector ds d r.0 r.1.due in
      let o = open_back types cells vector well few ds d j.0 j.1.0 j.1.1.front j.1.1.last in
      let pile_is : o.pile ≡ p = some_is (sym o.is ∙ e) in
      (o.rest, same j.0 j.1.0 r.0 o.rest v j.1.1 (subst (λ (p : Pile). Opened types cells vector ds d p j.0 j.1.0 o.rest) pile_is o.opened) r.1);
}
  where
    some_is : {x y : Pile} → Some x ≡ Some y → x ≡ y
    some_is e = cc

    same : (us : Values) (u : Value) (vs rs : Values) (v : Value) → Joins types cells vector ds d us u vs → Opened types cells vector ds d p us u rs
        → Same types cells vector w marks now (ds ++ d ∷ []) n v vs → Same types cells vector w marks (slice_set now (due_at d) true) p.cells (n + p.units) v rs
    same us u vs rs v j o s = record {
      due = o.new;
      carries = omega (arith, s.carries, j.carries, o.carries);
      takes = λ a. omega (arith, s.takes a, j.takes a, o.takes a, one_more now (due_at d) fresh a);
    }

pub fails : (types : List DataType) (cells : List Cell) (vector : Vector) → AllByRecursion IsDataType types → length cells ≤ inline_base → (q : Kind) (w : ℕ) (marks now : List Bool) (ds : List Due) (d : Due) (n : ℕ)
    → Way types cells vector q w marks now (ds ++ d ∷ []) n → open_at types vector cells ds d ≡ None → (v : Value) → IsOwnable types cells marks q w v → ⊥
fails types cells vector well few q w marks now ds d n way e v own =
    let r = way.back v own.fits own.stands in
    let j = part types cells vector ds d r.0 r.1.due in
    let o = open_back types cells vector well few ds d j.0 j.1.0 j.1.1.front j.1.1.last in
    let clash : None ≡ Some o.pile = sym e ∙ o.is in absurd cc

pub fails_marked : (types : List DataType) (cells : List Cell) (vector : Vector) (q : Kind) (w : ℕ) (marks now : List Bool) (ds : List Due) (d : Due) (n : ℕ)
    → Way types cells vector q w marks now (ds ++ d ∷ []) n → is_marked now (due_at d) ≡ true → (v : Value) → IsOwnable types cells marks q w v → ⊥
fails_marked types cells vector q w marks now ds d n way taken v own =
    let r = way.back v own.fits own.stands in
    let j = part types cells vector ds d r.0 r.1.due in
    absurd (omega (arith, own.fresh (due_at d), r.1.takes (due_at d), j.1.1.takes (due_at d), j.1.1.last.takes, one_at now (due_at d) taken))

-- ---- the end

pub ends : (types : List DataType) (cells : List Cell) (vector : Vector) (q : Kind) (w : ℕ) (marks now : List Bool) (ds : List Due) (n : ℕ)
    → Way types cells vector q w marks now ds n → ds ≡ [] → IsTaken types cells vector q w marks now n
ends types cells vector q w marks now (d ∷ ds) n way e = absurd cc
ends types cells vector q w marks now [] n way e =
    let r = way.forth value.End tt in
    let s : Same types cells vector w marks now [] n r.0 value.End = r.3 in
    record {
      value = r.0;
      ownable = record { fits = r.1; stands = r.2; fresh = λ a. omega (arith, s.takes a, at_most_one now a) };
      carries = omega (arith, s.carries);
      marks = λ a. omega (arith, s.takes a);
    }

-- ---- the loop

-- What one cell adds is at most 92233720368547758080: the units of five nodes.

pub begins : (types : List DataType) (cells : List Cell) (vector : Vector) → AllByRecursion IsDataType types → length cells ≤ inline_base → (q : Kind) (w : ℕ) (marks : List Bool) (none more : List Due) (first : Option ℕ) (n : ℕ)
    → none ≡ [] → PileIs (put_all types vector (q ∷ []) (w ∷ []) none 0) more first → first ≡ Some n → Way types cells vector q w marks marks more n
begins types cells vector well few q w marks none more first n e p is = starts types cells vector well few q w marks (record { cells = more; units = n })
    (subst (λ ds. put_all types vector (q ∷ []) (w ∷ []) ds 0 ≡ Some (record { cells = more; units = n })) e (subst (PileIs (put_all types vector (q ∷ []) (w ∷ []) none 0) more) is p))

pub begins_not : (types : List DataType) (cells : List Cell) (vector : Vector) → AllByRecursion IsDataType types → length cells ≤ inline_base → (q : Kind) (w : ℕ) (marks : List Bool) (none more : List Due) (first : Option ℕ)
    → none ≡ [] → PileIs (put_all types vector (q ∷ []) (w ∷ []) none 0) more first → first ≡ None → (v : Value) → IsOwnable types cells marks q w v → ⊥
begins_not types cells vector well few q w marks none more first e p is = starts_not types cells vector well few q w marks
    (subst (λ ds. put_all types vector (q ∷ []) (w ∷ []) ds 0 ≡ None) e (subst (PileIs (put_all types vector (q ∷ []) (w ∷ []) none 0) more) is p))

pub few_first : (first : Option ℕ) (n x : ℕ) → IsAtMost 92233720368547758080 first → first ≡ Some n → n + 92233720368547758080 * x ≤ 92233720368547758080 + 92233720368547758080 * x
few_first first n x h is = let k : n ≤ 92233720368547758080 = subst (IsAtMost 92233720368547758080) is h in omega (arith, k)

pub turn : (types : List DataType) (cells : List Cell) (vector : Vector) → AllByRecursion IsDataType types → length cells ≤ inline_base → (q : Kind) (w : ℕ) (marks now new : List Bool) (old ds more : List Due) (d : Due) (at n k : ℕ) (answer : Option ℕ)
    → Way types cells vector q w marks now old n → old ≡ ds ++ d ∷ [] → at ≡ due_at d → is_marked now at ≡ false → length now ≡ length marks → length marks ≡ length cells
    → new ≡ slice_set now at true → PileIs (open_at types vector cells ds d) more answer → answer ≡ Some k → Way types cells vector q w marks new more (n + k)
turn types cells vector well few q w marks now new old ds more d at n k answer way is at_is fresh size many new_is p there =
    let fresh_there : is_marked now (due_at d) ≡ false = ap (is_marked now) (sym at_is) ∙ fresh in
    let within : due_at d < length cells = omega (arith, inside now (due_at d) fresh_there, size, many) in
    let pile : open_at types vector cells ds d ≡ Some (record { cells = more; units = k }) = subst (PileIs (open_at types vector cells ds d) more) there p in
    let next = goes_on types cells vector well few q w marks now ds d n (record { cells = more; units = k }) (subst (λ ds. Way types cells vector q w marks now ds n) is way) fresh_there within pile in
    subst (λ m. Way types cells vector q w marks m more (n + k)) (sym (new_is ∙ ap (λ x. slice_set now x true) at_is)) next

pub few_more : (now new : List Bool) (at n k top : ℕ) (answer : Option ℕ) → n + 92233720368547758080 * open_in now ≤ top → is_marked now at ≡ false → new ≡ slice_set now at true
    → IsAtMost 92233720368547758080 answer → answer ≡ Some k → n + k + 92233720368547758080 * open_in new ≤ top
few_more now new at n k top answer few fresh is h there =
    let small : k ≤ 92233720368547758080 = subst (IsAtMost 92233720368547758080) there h in
    let less : suc (open_in new) ≡ open_in now = ap (λ m. suc (open_in m)) is ∙ one_less now at fresh in
    omega (arith, few, small, less)

pub no_overflow : (marks now : List Bool) (size n k : ℕ) (answer : Option ℕ) → n + 92233720368547758080 * open_in now ≤ 92233720368547758080 + 92233720368547758080 * open_in marks
    → length marks ≡ size → size ≤ inline_base → IsAtMost 92233720368547758080 answer → answer ≡ Some k → IsInRange w128 (n + k)
no_overflow marks now size n k answer few many small h there =
    let one : k ≤ 92233720368547758080 = subst (IsAtMost 92233720368547758080) there h in
    omega (arith, few, one, few_open marks, many, small)

pub in_range : (marks now : List Bool) (size n : ℕ) → n + 92233720368547758080 * open_in now ≤ 92233720368547758080 + 92233720368547758080 * open_in marks
    → length marks ≡ size → size ≤ inline_base → n ≤ 316912650057057350374175801344
in_range marks now size n few many small = omega (arith, few, few_open marks, many, small)

pub turn_marked : (types : List DataType) (cells : List Cell) (vector : Vector) (q : Kind) (w : ℕ) (marks now : List Bool) (old ds : List Due) (d : Due) (at n : ℕ)
    → Way types cells vector q w marks now old n → old ≡ ds ++ d ∷ [] → at ≡ due_at d → is_marked now at ≡ true → (v : Value) → IsOwnable types cells marks q w v → ⊥
turn_marked types cells vector q w marks now old ds d at n way is at_is taken =
    fails_marked types cells vector q w marks now ds d n (subst (λ ds. Way types cells vector q w marks now ds n) is way) (ap (is_marked now) (sym at_is) ∙ taken)

pub turn_fails : (types : List DataType) (cells : List Cell) (vector : Vector) → AllByRecursion IsDataType types → length cells ≤ inline_base → (q : Kind) (w : ℕ) (marks now : List Bool) (old ds more : List Due) (d : Due) (n : ℕ) (answer : Option ℕ)
    → Way types cells vector q w marks now old n → old ≡ ds ++ d ∷ [] → PileIs (open_at types vector cells ds d) more answer → answer ≡ None → (v : Value) → IsOwnable types cells marks q w v → ⊥
turn_fails types cells vector well few q w marks now old ds more d n answer way is p there =
    fails types cells vector well few q w marks now ds d n (subst (λ ds. Way types cells vector q w marks now ds n) is way) (subst (PileIs (open_at types vector cells ds d) more) there p)
