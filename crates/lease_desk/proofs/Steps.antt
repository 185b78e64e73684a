-- What each call of a desk needs and leaves, in the words of its callees.
use Rattle.std.proofs.Common.{◌≡◌, ℕ, ◌+◌, ◌*◌, ◌<◌, ◌≤◌, List, [], length, map, replicate, Option, Some, None, refl, sym, ap, ◌∙◌, subst, arith}
use Rattle.std.specs.Prelude.{slice_get, slice_set}
use Rattle.cell_span.specs.Arenas.{Arena}
use Rattle.cell_span.specs.declared.cell.Cell.{Cell}
use Rattle.cell_span.specs.Range.{Range, IsWhole, blank}
use Rattle.hole_list.specs.Placing.{run, largest, with_run, without_run, IsOut, AreParts}
use Rattle.hole_list.specs.Holes.{Holed, run_of, new_holes, with_holes, take_cells, TookFrom, give_cells, with_given}
use Rattle.lease_desk.specs.declared.event.Event.TheVariants as event
use Rattle.lease_desk.specs.Journal.{leased, next_move, left_move, AreSizes}
use Rattle.lease_desk.specs.Progress.{times_at, one_out, IsSound}
use Rattle.lease_desk.specs.BookView.{BookView, new_book, with_lease, with_asked, with_waiting, with_served}
use Rattle.lease_desk.specs.Lease.{LeaseView, lease}
use Rattle.lease_desk.specs.Desk.{DeskView, Takes, Waits, Knows, filed_with, withdrawn_with, HasPayload, AllFiled}
use Rattle.lease_desk.specs.Kept.{state_of, desk_of, IsLeaseOf, IsKept, IsNamed}
use Rattle.lease_desk.proofs.Keeping.{sound, next_ready, next_kept, next_takes, waits_kept, waits_waits, over_is, all_asked, left_ready, left_size, left_never, left_kept, left_takes, none_waits, left_sized, give_ready, filed_kept, withdrawn_kept, given_is, returned_filed, filed_of, kept_first}

-- what the job's size is
pub sized : (xs : List ℕ) (j a : ℕ) (o : Option ℕ) (n : ℕ) → j ≡ a → o ≡ slice_get xs j → o ≡ Some n → slice_get xs a ≡ Some n
sized xs j a o n e f g = ap (slice_get xs) (sym e) ∙ sym f ∙ g

pub unsized : (xs : List ℕ) (j a : ℕ) (o : Option ℕ) → j ≡ a → o ≡ slice_get xs j → o ≡ None → slice_get xs a ≡ None
unsized xs j a o e f g = ap (slice_get xs) (sym e) ∙ sym f ∙ g

taken_book : (b b1 : BookView) (j f n : ℕ) (range : Range) → b1 ≡ with_lease b j (Some (run f n)) (event.Took j f n) → f ≡ range.first → n ≡ length range.cells
    → b1 ≡ with_lease b j (Some (run_of range)) (event.Took j range.first (length range.cells))
taken_book b b1 j f n range e ef en = e ∙ (λ i. with_lease b j (Some (run (ef i) (en i))) (event.Took j (ef i) (en i)))

gave_book : (b b1 : BookView) (j f n : ℕ) (range : Range) → b1 ≡ with_lease b j None (event.Gave j f n) → f ≡ range.first → n ≡ length range.cells
    → b1 ≡ with_lease b j None (event.Gave j range.first (length range.cells))
gave_book b b1 j f n range e ef en = e ∙ (λ i. with_lease b j None (event.Gave j (ef i) (en i)))

pub first_kept : {P : Type 0} (number : P → ℕ) (cells : P → List Cell) (range : Range) (sizes : List ℕ) (n : ℕ) (h : Holed) (b : BookView) (ps : List (Option P)) → IsWhole range → 1 ≤ length range.cells
    → range.cells ≡ replicate range.arena.cells blank → AreSizes range.arena.cells sizes → n ≡ length sizes
    → h ≡ new_holes range n → b ≡ new_book sizes → ps ≡ replicate n None → IsKept number cells h b ps 0
first_kept {P} number cells range sizes n h b ps w some blanks fit m eh eb ep =
    let k = kept_first number cells range sizes w (omega (arith, some, w.all)) range.arena.cells blanks fit in
    subst (λ (x : Holed). IsKept number cells x b ps 0) (sym (eh ∙ ap (new_holes range) m))
    (subst (λ (y : BookView). IsKept number cells (new_holes range (length sizes)) y ps 0) (sym eb)
    (subst (λ (z : List (Option P)). IsKept number cells (new_holes range (length sizes)) (new_book sizes) z 0) (sym (ep ∙ ap (λ m. replicate m None) m)) k))

module _ {P : Type 0} (number : P → ℕ) (cells : P → List Cell) (h : Holed) (b : BookView) (ps : List (Option P)) (w : ℕ) (k : IsKept number cells h b ps w) (d : DeskView P) (v : desk_of h b ps w ≡ d) where
  pub sound_now : IsSound d.arena.cells d.sizes d.journal d.state
  sound_now = subst (λ (x : DeskView P). IsSound x.arena.cells x.sizes x.journal x.state) v (sound number cells h b ps w k)

  pub parts_now : AreParts (run 0 d.arena.cells) d.state.holes (leased d.state.leases)
  parts_now = sound_now.cells

  pub returned_now : d.withdrawn ≡ 0 → (job : ℕ) → job < d.state.asked → times_at job d.state.waiting ≡ 0
      → one_out (slice_get d.state.leases job) ≡ 0 → HasPayload number d.payloads job
  returned_now = subst (λ (x : DeskView P). x.withdrawn ≡ 0 → (job : ℕ) → job < x.state.asked → times_at job x.state.waiting ≡ 0 → one_out (slice_get x.state.leases job) ≡ 0 → HasPayload number x.payloads job) v
      (returned_filed number cells h b ps w k)

  pub filed_now : leased d.state.leases ≡ [] → d.state.asked ≡ length d.sizes → d.state.waiting ≡ [] → d.withdrawn ≡ 0
      → AllFiled number (length d.sizes) d.payloads
  filed_now = subst (λ (x : DeskView P). leased x.state.leases ≡ [] → x.state.asked ≡ length x.sizes → x.state.waiting ≡ [] → x.withdrawn ≡ 0 → AllFiled number (length x.sizes) x.payloads) v
      (filed_of number cells h b ps w k)

  -- ---- the next job

  pub over_now : (j : ℕ) (o : Option ℕ) → j ≡ b.asked → o ≡ slice_get b.sizes j → o ≡ None
      → (next_move d.sizes d.state ≡ None) × (d.state.asked ≡ length d.sizes) × (d ≡ d)
  over_now j o e f g =
      let u = unsized b.sizes j b.asked o e f g in
      subst (λ (x : DeskView P). (next_move x.sizes x.state ≡ None) × (x.state.asked ≡ length x.sizes) × (x ≡ x)) v (over_is number cells h b ps w k u, all_asked number cells h b ps w k u, refl)

  module _ (j : ℕ) (o : Option ℕ) (size : ℕ) (e : j ≡ b.asked) (f : o ≡ slice_get b.sizes j) (g : o ≡ Some size) where
    is : slice_get b.sizes b.asked ≡ Some size
    is = sized b.sizes j b.asked o size e f g

    pub next_now : (1 ≤ size) × (length h.out < h.most_out) × (slice_get b.leases j ≡ Some None) × (length b.journal < 3 * length b.sizes)
        × (b.asked < length b.sizes)
    next_now = let r = next_ready number cells h b ps w k size is in (r.0, r.1, ap (slice_get b.leases) e ∙ r.2, r.3, r.4)

    took : (b1 b2 : BookView) (first n : ℕ) (range : Range) → b1 ≡ with_lease b j (Some (run first n)) (event.Took j first n) → first ≡ range.first
        → n ≡ length range.cells → b2 ≡ with_asked b1
        → b2 ≡ with_asked (with_lease b b.asked (Some (run_of range)) (event.Took b.asked range.first (length range.cells)))
    took b1 b2 first n range e1 ef en e2 =
        e2 ∙ ap with_asked (taken_book b b1 j first n range e1 ef en ∙ (λ i. with_lease b (e i) (Some (run_of range)) (event.Took (e i) range.first (length range.cells))))

    pub next_keeps : (h' : Holed) (b1 b2 : BookView) (first n : ℕ) (range : Range) → TookFrom h h' size range
        → b1 ≡ with_lease b j (Some (run first n)) (event.Took j first n) → first ≡ range.first → n ≡ length range.cells → b2 ≡ with_asked b1 → IsKept number cells h' b2 ps w
    next_keeps h' b1 b2 first n range q e1 ef en e2 =
        subst (λ (x : Holed). IsKept number cells x b2 ps w) (sym q.1)
        (subst (λ (y : BookView). IsKept number cells (with_holes h h'.holes (with_run h.out (run_of range))) y ps w) (sym (took b1 b2 first n range e1 ef en e2))
        (next_kept number cells h b ps w k size range h'.holes is q.0))

    pub next_answers : (h' : Holed) (b1 b2 : BookView) (first n : ℕ) (range : Range) (l : LeaseView) → TookFrom h h' size range
        → b1 ≡ with_lease b j (Some (run first n)) (event.Took j first n) → first ≡ range.first → n ≡ length range.cells → b2 ≡ with_asked b1 → l ≡ lease j range
        → Takes (next_move d.sizes d.state) d (desk_of h' b2 ps w) l
    next_answers h' b1 b2 first n range l q e1 ef en e2 el =
        subst (λ (x : DeskView P). Takes (next_move x.sizes x.state) x (desk_of h' b2 ps w) l) v
        (subst (λ (x : Holed). Takes (next_move b.sizes (state_of h b)) (desk_of h b ps w) (desk_of x b2 ps w) l) (sym q.1)
        (subst (λ (y : BookView). Takes (next_move b.sizes (state_of h b)) (desk_of h b ps w) (desk_of (with_holes h h'.holes (with_run h.out (run_of range))) y ps w) l) (sym (took b1 b2 first n range e1 ef en e2))
        (subst
        (λ (m : LeaseView). Takes (next_move b.sizes (state_of h b)) (desk_of h b ps w)
        (desk_of (with_holes h h'.holes (with_run h.out (run_of range))) (with_asked (with_lease b b.asked (Some (run_of range)) (event.Took b.asked range.first (length range.cells)))) ps w) m)
        (sym (el ∙ ap (λ m. lease m range) e))
        (next_takes number cells h b ps w k size range h'.holes is q.0))))

    pub waits_keeps : (h' : Holed) (b1 : BookView) (most : ℕ) → take_cells h.holes size ≡ None → h' ≡ h → most ≡ largest (map run_of h'.holes)
        → b1 ≡ with_waiting b (event.Full b.asked size most)
        → IsKept number cells h' b1 ps w
    waits_keeps h' b1 most none eh em eb =
        subst (λ (x : Holed). IsKept number cells x b1 ps w) (sym eh)
        (subst (λ (y : BookView). IsKept number cells h y ps w) (sym eb) (waits_kept number cells h b ps w k size most is none (em ∙ ap (λ (x : Holed). largest (map run_of x.holes)) eh)))

    pub waits_answers : (h' : Holed) (b1 : BookView) (most : ℕ) → take_cells h.holes size ≡ None → h' ≡ h → most ≡ largest (map run_of h'.holes)
        → b1 ≡ with_waiting b (event.Full b.asked size most)
        → Waits d (desk_of h' b1 ps w) j size most
    waits_answers h' b1 most none eh em eb =
        subst (λ (x : DeskView P). Waits x (desk_of h' b1 ps w) j size most) v
        (subst (λ n. Waits (desk_of h b ps w) (desk_of h' b1 ps w) n size most) (sym e)
        (subst (λ (x : Holed). Waits (desk_of h b ps w) (desk_of x b1 ps w) b.asked size most) (sym eh)
        (subst (λ (y : BookView). Waits (desk_of h b ps w) (desk_of h y ps w) b.asked size most) (sym eb)
        (waits_waits number cells h b ps w k size most is none (em ∙ ap (λ (x : Holed). largest (map run_of x.holes)) eh)))))

  -- ---- a job that waits

  module _ (all : d.state.asked ≡ length d.sizes) (none : leased d.state.leases ≡ []) where
    all_in : b.asked ≡ length b.sizes
    all_in = subst (λ (x : DeskView P). x.state.asked ≡ length x.sizes) (sym v) all

    none_in : leased b.leases ≡ []
    none_in = subst (λ (x : DeskView P). leased x.state.leases ≡ []) (sym v) none

    pub nobody_waits : (o : Option ℕ) → o ≡ slice_get b.waiting 0 → o ≡ None → (d.state.waiting ≡ []) × (d ≡ d)
    nobody_waits o e f = (subst (λ (x : DeskView P). x.state.waiting ≡ []) v (none_waits number cells h b ps w k (sym e ∙ f)), refl)

    module _ (job : ℕ) (o : Option ℕ) (e : o ≡ slice_get b.waiting 0) (f : o ≡ Some job) where
      pub left_now : (job < length b.sizes) × (1 ≤ length b.waiting) × (length h.out < h.most_out) × (slice_get b.leases job ≡ Some None)
          × (length b.journal < 3 * length b.sizes)
      left_now = left_ready number cells h b ps w k job (sym e ∙ f)

      pub always_sized : (s : Option ℕ) → s ≡ slice_get b.sizes job → s ≡ None → ⊥
      always_sized s es is = let z = left_sized number cells h b ps w k job left_now.0 in let q : None ≡ Some z.0 = sym is ∙ es ∙ z.1 in grind arith

      module _ (s : Option ℕ) (size : ℕ) (es : s ≡ slice_get b.sizes job) (fs : s ≡ Some size) where
        pub some_cells : 1 ≤ size
        some_cells = left_size number cells h b ps w k job size (sym es ∙ fs)

        pub always_fits : take_cells h.holes size ≡ None → ⊥
        always_fits = left_never number cells h b ps w k job size none_in (sym es ∙ fs)

        served : (b1 b2 : BookView) (first n : ℕ) (range : Range) → b1 ≡ with_lease b job (Some (run first n)) (event.Took job first n)
            → first ≡ range.first → n ≡ length range.cells → b2 ≡ with_served b1
            → b2 ≡ with_served (with_lease b job (Some (run_of range)) (event.Took job range.first (length range.cells)))
        served b1 b2 first n range e1 ef en e2 = e2 ∙ ap with_served (taken_book b b1 job first n range e1 ef en)

        pub left_keeps : (h' : Holed) (b1 b2 : BookView) (first n : ℕ) (range : Range) → TookFrom h h' size range
            → b1 ≡ with_lease b job (Some (run first n)) (event.Took job first n) → first ≡ range.first → n ≡ length range.cells → b2 ≡ with_served b1 → IsKept number cells h' b2 ps w
        left_keeps h' b1 b2 first n range q e1 ef en e2 =
            subst (λ (x : Holed). IsKept number cells x b2 ps w) (sym q.1)
            (subst (λ (y : BookView). IsKept number cells (with_holes h h'.holes (with_run h.out (run_of range))) y ps w) (sym (served b1 b2 first n range e1 ef en e2))
            (left_kept number cells h b ps w k job size range h'.holes all_in none_in (sym e ∙ f) (sym es ∙ fs) q.0))

        pub left_answers : (h' : Holed) (b1 b2 : BookView) (first n : ℕ) (range : Range) (l : LeaseView) → TookFrom h h' size range
            → b1 ≡ with_lease b job (Some (run first n)) (event.Took job first n) → first ≡ range.first → n ≡ length range.cells → b2 ≡ with_served b1 → l ≡ lease job range
            → Takes (left_move d.sizes d.state) d (desk_of h' b2 ps w) l
        left_answers h' b1 b2 first n range l q e1 ef en e2 el =
            subst (λ (x : DeskView P). Takes (left_move x.sizes x.state) x (desk_of h' b2 ps w) l) v
            (subst (λ (x : Holed). Takes (left_move b.sizes (state_of h b)) (desk_of h b ps w) (desk_of x b2 ps w) l) (sym q.1)
            (subst (λ (y : BookView). Takes (left_move b.sizes (state_of h b)) (desk_of h b ps w) (desk_of (with_holes h h'.holes (with_run h.out (run_of range))) y ps w) l)
            (sym (served b1 b2 first n range e1 ef en e2))
            (subst
            (λ (m : LeaseView). Takes (left_move b.sizes (state_of h b)) (desk_of h b ps w)
            (desk_of (with_holes h h'.holes (with_run h.out (run_of range))) (with_served (with_lease b job (Some (run_of range)) (event.Took job range.first (length range.cells)))) ps w) m)
            (sym el)
            (left_takes number cells h b ps w k job size range h'.holes all_in none_in (sym e ∙ f) (sym es ∙ fs) q.0))))

  -- ---- a lease that comes back

  module _ (l : LeaseView) (known : IsLeaseOf d l) (j : ℕ) (r : Range) (el : l ≡ lease j r) where
    known_in : IsLeaseOf (desk_of h b ps w) (lease j r)
    known_in = subst (λ (x : DeskView P). IsLeaseOf x (lease j r)) (sym v) (subst (λ (m : LeaseView). IsLeaseOf d m) el known)

    pub give_now : (IsOut h.out (run_of r)) × (length b.journal < 3 * length b.sizes) × (j < length ps) × (r.arena ≡ h.arena)
        × (slice_get b.leases j ≡ Some (Some (run_of r))) × (j < length b.sizes)
    give_now = let n = give_ready number cells h b ps w k (lease j r) known_in in (n.0, n.1, n.2, known_in.0, known_in.1, n.4)

    module _ (h' : Holed) (b1 : BookView) (first n : ℕ) (ef : first ≡ r.first) (en : n ≡ length r.cells)
        (eh : h' ≡ with_given h r) (eb : b1 ≡ with_lease b j None (event.Gave j first n)) where
      pub filed_keeps : (p : P) → number p ≡ l.job → cells p ≡ l.range.cells → IsKept number cells h' b1 (slice_set ps j (Some p)) w
      filed_keeps p en' ec =
          subst (λ (x : Holed). IsKept number cells x b1 (slice_set ps j (Some p)) w) (sym eh)
          (subst (λ (y : BookView). IsKept number cells (with_holes h (give_cells h.holes r) (without_run h.out r.first)) y (slice_set ps j (Some p)) w) (sym (gave_book b b1 j first n r eb ef en))
          (filed_kept number cells h b ps w k (lease j r) p known_in (en' ∙ ap (λ (m : LeaseView). m.job) el) (ec ∙ ap (λ (m : LeaseView). m.range.cells) el)))

      pub withdrawn_keeps : IsKept number cells h' b1 ps (w + 1)
      withdrawn_keeps =
          subst (λ (x : Holed). IsKept number cells x b1 ps (w + 1)) (sym eh)
          (subst (λ (y : BookView). IsKept number cells (with_holes h (give_cells h.holes r) (without_run h.out r.first)) y ps (w + 1)) (sym (gave_book b b1 j first n r eb ef en))
          (withdrawn_kept number cells h b ps w k (lease j r) known_in))

      gives : (qs : List (Option P)) (u : ℕ)
          → desk_of h' b1 qs u ≡ desk_of (with_holes h (give_cells h.holes r) (without_run h.out r.first)) (with_lease b j None (event.Gave j r.first (length r.cells))) qs u
      gives qs u = λ i. desk_of (eh i) (gave_book b b1 j first n r eb ef en i) qs u

      pub filed_answers : (p : P) → desk_of h' b1 (slice_set ps j (Some p)) w ≡ filed_with d l p
      filed_answers p =
          gives (slice_set ps j (Some p)) w ∙ given_is number cells h b ps w k (lease j r) (slice_set ps j (Some p)) w ∙ (λ i. filed_with (v i) (sym el i) p)

      pub withdrawn_answers : desk_of h' b1 ps (w + 1) ≡ withdrawn_with d l
      withdrawn_answers = gives ps (w + 1) ∙ given_is number cells h b ps w k (lease j r) ps (w + 1) ∙ (λ i. withdrawn_with (v i) (sym el i))

-- ---- the name

module _ {arena : Arena} {sizes : List ℕ} (h : Holed) (b : BookView) (k : IsNamed arena sizes h b) where
  -- behind the next job's lease
  pub next_named : (h' : Holed) (size : ℕ) (range : Range) (b1 b2 : BookView) (j first n : ℕ) → TookFrom h h' size range
      → b1 ≡ with_lease b j (Some (run first n)) (event.Took j first n) → b2 ≡ with_asked b1 → IsNamed arena sizes h' b2
  next_named h' size range b1 b2 j first n q e1 e2 = record {
    of_arena = ap (λ (x : Holed). x.arena) q.1 ∙ k.of_arena;
    of_sizes = ap (λ (y : BookView). y.sizes) (e2 ∙ ap with_asked e1) ∙ k.of_sizes;
  }

  -- behind the lease of one that waited
  pub left_named : (h' : Holed) (size : ℕ) (range : Range) (b1 b2 : BookView) (j first n : ℕ) → TookFrom h h' size range
      → b1 ≡ with_lease b j (Some (run first n)) (event.Took j first n) → b2 ≡ with_served b1 → IsNamed arena sizes h' b2
  left_named h' size range b1 b2 j first n q e1 e2 = record {
    of_arena = ap (λ (x : Holed). x.arena) q.1 ∙ k.of_arena;
    of_sizes = ap (λ (y : BookView). y.sizes) (e2 ∙ ap with_served e1) ∙ k.of_sizes;
  }

  -- where the next job waits
  pub waits_named : (h' : Holed) (b1 : BookView) (size most : ℕ) → h' ≡ h → b1 ≡ with_waiting b (event.Full b.asked size most) → IsNamed arena sizes h' b1
  waits_named h' b1 size most eh eb = record {
    of_arena = ap (λ (x : Holed). x.arena) eh ∙ k.of_arena;
    of_sizes = ap (λ (y : BookView). y.sizes) eb ∙ k.of_sizes;
  }

  -- behind a lease that came back
  pub gave_named : (h' : Holed) (r : Range) (b1 : BookView) (j first n : ℕ) → h' ≡ with_given h r → b1 ≡ with_lease b j None (event.Gave j first n)
      → IsNamed arena sizes h' b1
  gave_named h' r b1 j first n eh eb = record {
    of_arena = ap (λ (x : Holed). x.arena) eh ∙ k.of_arena;
    of_sizes = ap (λ (y : BookView). y.sizes) eb ∙ k.of_sizes;
  }

  module _ {P : Type 0} (ps : List (Option P)) (w : ℕ) (d : DeskView P) (v : desk_of h b ps w ≡ d) where
    arena_now : d.arena ≡ arena
    arena_now = ap (λ (x : DeskView P). x.arena) (sym v) ∙ k.of_arena

    -- a lease of the name that the desk knows is of its arena
    pub is_of : (l : LeaseView) → l.range.arena ≡ arena → Knows d l → IsLeaseOf d l
    is_of l e known = (e ∙ sym arena_now, known)

    -- a lease of the desk's arena is of the name's
    pub of_name : (l : LeaseView) → l.range.arena ≡ d.arena → l.range.arena ≡ arena
    of_name l e = e ∙ arena_now
