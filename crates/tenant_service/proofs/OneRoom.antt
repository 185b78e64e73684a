-- The room of one tenant against its piece: what it is given, and what it gives back.
use Rattle.std.proofs.Common.{◌≡◌, ℕ, suc, ◌+◌, ◌<◌, ◌≤◌, Bool, true, false, if◌then◌else◌, ◌⊎◌, inl, inr, List, [], ◌∷◌, ◌++◌, length, map, Option, Some, None, refl, sym, ap, ◌∙◌, subst, arith}
use Rattle.std.specs.Prelude.{slice_index_or, remove, nat_lt}
use Rattle.std.specs.Option.{option_map}
use Rattle.std.specs.List.{AllByRecursion}
use Rattle.std.specs.Str.{bytes_eq}
use Rattle.std.proofs.lemmas.Option.{same_Some}
use Rattle.camelot_values.specs.Names.{place_among}
use Rattle.cell_span.specs.Range.{Range}
use Rattle.licence.specs.Licensed.{Licensed}
use Rattle.hole_list.specs.declared.run.Run.{Run}
use Rattle.hole_list.specs.Placing.{end_of, Taken, taken, take_run, give_run, total, AreOrdered, IsOut, with_run, without_run}
use Rattle.hole_list.specs.Holes.{Holed, AreHoles, run_of as place_of, taken_cells, take_cells, TookFrom, with_given}
use Rattle.hole_list.specs.HolesLaws.{taken_runs, given_runs}
use Rattle.hole_list.specs.KeptLaws.{range_taken}
use Rattle.hole_list.specs.OutLaws.{ordered_front, one_from, AreFrom, with_this, with_others, with_total, with_length, without_others, without_total, without_length}
use Rattle.tenant_desk.specs.Leases.{LeaseView, lease}
use Rattle.tenant_desk.specs.Shifts.{shift, shift_taken}
use Rattle.script_plans.specs.Fates.{Call, lease_of}
use Rattle.tenant_service.specs.declared.holding.Holding.{Holding as DeclaredHolding}
use Rattle.tenant_service.specs.Rooms.{Room, Holding, cells_held, held_named, without_named, with_job, without_job}
use Rattle.tenant_service.specs.Granting.{names_of}
use Rattle.tenant_service.specs.Holding.{IsCallOf, IsHolding, AreHolding, BeginApart, IsRoom}

-- ---- laws of the desk, as they come

abbrev pub ShiftTaken : Type 0
ShiftTaken = (by : ℕ) (hs : List Run) (size : ℕ) → take_run (map (shift by) hs) size ≡ option_map (shift_taken by) (take_run hs size)

abbrev pub ShiftGiven : Type 0
ShiftGiven = (by : ℕ) (hs : List Run) (r : Run) → give_run (map (shift by) hs) (shift by r) ≡ map (shift by) (give_run hs r)

-- ---- the run that is taken

-- the same run is taken of the room's holes, counted in the piece
pub record IsPlaced (room : Room) (base size : ℕ) (r : Range) (rest : List Range) : Type 0 where
  pub taken : Taken
  pub is : take_run room.holes size ≡ Some taken
  pub run : place_of r ≡ shift base taken.run
  pub holes : map place_of rest ≡ map (shift base) taken.holes
  pub sized : taken.run.size ≡ size

pub placed_in : ShiftTaken → (p : Holed) (room : Room) (size : ℕ) (r : Range) (rest : List Range) → map place_of p.holes ≡ map (shift p.base.first) room.holes
    → take_cells p.holes size ≡ Some (taken_cells r rest) → IsPlaced room p.base.first size r rest
placed_in law p room size r rest e t = by_taken (take_run room.holes size) refl
  where
    both : (take_run (map place_of p.holes) size ≡ Some (taken (place_of r) (map place_of rest))) × (length r.cells ≡ size)
    both = taken_runs p.holes size (taken_cells r rest) t

    shifted : option_map (shift_taken p.base.first) (take_run room.holes size) ≡ Some (taken (place_of r) (map place_of rest))
    shifted = sym (law p.base.first room.holes size) ∙ ap (λ hs. take_run hs size) (sym e) ∙ both.0

    by_taken : (o : Option Taken) → take_run room.holes size ≡ o → IsPlaced room p.base.first size r rest
    by_taken None f = absurd (let g : None ≡ Some (taken (place_of r) (map place_of rest)) = ap (option_map (shift_taken p.base.first)) (sym f) ∙ shifted in cc)
    by_taken (Some k) f =
        let same : shift_taken p.base.first k ≡ taken (place_of r) (map place_of rest) =
        same_Some (shift_taken p.base.first k) (taken (place_of r) (map place_of rest)) (ap (option_map (shift_taken p.base.first)) (sym f) ∙ shifted) in
        record {
          taken = k;
          is = f;
          run = sym (ap (λ (x : Taken). x.run) same);
          holes = sym (ap (λ (x : Taken). x.holes) same);
          sized = ap (λ (x : Taken). x.run.size) same ∙ both.1;
        }

-- ---- one more job

-- a run that is out with these in order begins where none of them does
fresh : (ss : List Run) (r q : Run) → AreOrdered (with_run ss r) → IsOut ss q → q.first ≡ r.first → ⊥
fresh [] r q o k e = k
fresh (s ∷ ss) r q o k e = by_test (λ p i. fresh ss r q p i e) (nat_lt r.first s.first) o k
  where
    by_test : (AreOrdered (with_run ss r) → IsOut ss q → ⊥) → (b : Bool) → AreOrdered (if b then r ∷ s ∷ ss else s ∷ with_run ss r) → (s ≡ q) ⊎ IsOut ss q → ⊥
    by_test next true p i =
        let f : (1 ≤ r.size) × AreFrom (end_of r) (s ∷ ss) × AreOrdered (s ∷ ss) = ordered_front r (s ∷ ss) p in
        let from : end_of r ≤ q.first = one_from (end_of r) (s ∷ ss) q f.1 f.2 i in
        omega (arith, from, f.0, e)
    by_test next false p (inl is) =
        let f : (1 ≤ s.size) × AreFrom (end_of s) (with_run ss r) × AreOrdered (with_run ss r) = ordered_front s (with_run ss r) p in
        let from : end_of s ≤ r.first = one_from (end_of s) (with_run ss r) r f.1 f.2 (with_this ss r) in
        let same : s.first ≡ q.first = ap (λ (x : Run). x.first) is in
        omega (arith, from, f.0, e, same)
    by_test next false p (inr i) = next (ordered_front s (with_run ss r) p).2 i

-- the job is held in another piece over the same run of which its run is out
pub still_held : (licences : List Licensed) (tenant : ℕ) (p q : Holed) (d : DeclaredHolding) (h : Holding) → q.base ≡ p.base → q.arena ≡ p.arena
    → IsOut q.out (place_of d.lease.range) → IsHolding licences tenant p d h → IsHolding licences tenant q d h
still_held licences tenant p q d h b a o k = record {
  name = k.name;
  call = k.call;
  owner = k.owner;
  from = k.from ∙ ap (λ (r : Run). r.first) (sym b);
  place = k.place ∙ ap (λ (r : Run). shift r.first h.place) (sym b);
  size = k.size;
  out = o;
  arena = k.arena ∙ sym a;
}

-- the same of all, where each run that was out still is
all_held : (licences : List Licensed) (tenant : ℕ) (p q : Holed) (ds : List DeclaredHolding) (hs : List Holding) → q.base ≡ p.base → q.arena ≡ p.arena
    → ((r : Run) → IsOut p.out r → IsOut q.out r) → AreHolding licences tenant p ds hs → AreHolding licences tenant q ds hs
all_held licences tenant p q [] [] b a o k = tt
all_held licences tenant p q [] (h ∷ hs) b a o k = k
all_held licences tenant p q (d ∷ ds) [] b a o k = k
all_held licences tenant p q (d ∷ ds) (h ∷ hs) b a o k = (still_held licences tenant p q d h b a (o (place_of d.lease.range) k.0.out) k.0, all_held licences tenant p q ds hs b a o k.1)

held_end : (licences : List Licensed) (tenant : ℕ) (q : Holed) (ds : List DeclaredHolding) (hs : List Holding) (d : DeclaredHolding) (h : Holding) → AreHolding licences tenant q ds hs
    → IsHolding licences tenant q d h → AreHolding licences tenant q (ds ++ d ∷ []) (hs ++ h ∷ [])
held_end licences tenant q [] [] d h k i = (i, tt)
held_end licences tenant q [] (x ∷ hs) d h k i = absurd k
held_end licences tenant q (x ∷ ds) [] d h k i = absurd k
held_end licences tenant q (x ∷ ds) (y ∷ hs) d h k i = (k.0, held_end licences tenant q ds hs d h k.1 i)

-- a run that isn't out begins where none of these does
all_others : (licences : List Licensed) (tenant : ℕ) (p : Holed) (ds : List DeclaredHolding) (hs : List Holding) (r : Run) (first : ℕ)
    → AreOrdered (with_run p.out r) → r.first ≡ p.base.first + first → AreHolding licences tenant p ds hs → AllByRecursion (λ (x : Holding). first ≡ x.place.first → ⊥) hs
all_others licences tenant p [] [] r first o e k = tt
all_others licences tenant p [] (h ∷ hs) r first o e k = absurd k
all_others licences tenant p (d ∷ ds) [] r first o e k = absurd k
all_others licences tenant p (d ∷ ds) (h ∷ hs) r first o e k = (
  λ f. let at : d.lease.range.first ≡ p.base.first + h.place.first = ap (λ (x : Run). x.first) k.0.place in
      fresh p.out r (place_of d.lease.range) o k.0.out (omega (arith, at, e, f)),
  all_others licences tenant p ds hs r first o e k.1,
)

all_front : {A : Type 0} (P : A → Type 0) (xs : List A) (x : A) → AllByRecursion P xs → P x → AllByRecursion P (xs ++ x ∷ [])
all_front P [] x a p = (p, tt)
all_front P (y ∷ xs) x a p = (a.0, all_front P xs x a.1 p)

apart_end : (hs : List Holding) (h : Holding) → AllByRecursion (λ (x : Holding). h.place.first ≡ x.place.first → ⊥) hs → BeginApart hs → BeginApart (hs ++ h ∷ [])
apart_end [] h a k = (tt, tt)
apart_end (x ∷ hs) h a k = (all_front (λ (y : Holding). y.place.first ≡ x.place.first → ⊥) hs h k.0 a.0, apart_end hs h a.1 k.1)

sum_end : (hs : List Holding) (h : Holding) → cells_held (hs ++ h ∷ []) ≡ cells_held hs + h.place.size
sum_end [] h = omega arith
sum_end (x ∷ hs) h = omega (arith, sum_end hs h)

count_end : (hs : List Holding) (h : Holding) → length (hs ++ h ∷ []) ≡ suc (length hs)
count_end [] h = refl
count_end (x ∷ hs) h = ap suc (count_end hs h)

-- the tenant that is given cells holds the job in them
pub room_more : (licences : List Licensed) (tenant : ℕ) (p q : Holed) (ds : List DeclaredHolding) (room : Room) (d : DeclaredHolding) (name : List ℕ) (c : Call) (fuel size : ℕ) (r : Range)
    → AreHoles p → AreHoles q → 1 ≤ size → IsRoom licences tenant p ds room → TookFrom p q size r → size ≡ lease_of c → d.lease ≡ lease tenant p.base.first r → d.name.now ≡ name
    → IsCallOf licences fuel d.call c → (k : IsPlaced room p.base.first size r q.holes) → IsRoom licences tenant q (ds ++ d ∷ []) (with_job room name c fuel k.taken)
room_more licences tenant p q ds room d name c fuel size r hp hq some is took sized leased named call k = record {
  holes = k.holes ∙ ap (λ (x : Run). map (shift x.first) k.taken.holes) (sym base);
  held = held_end licences tenant q ds room.held d job (all_held licences tenant p q ds room.held base arena stays is.held) held;
  apart = apart_end room.held job (all_others licences tenant p ds room.held (place_of r) k.taken.run.first order (ap (λ (x : Run). x.first) k.run) is.held) is.apart;
  sum = let was : total p.out ≡ cells_held room.held = is.sum in
      let now : total q.out ≡ total (with_run p.out (place_of r)) = ap total out in
      let few : length r.cells ≡ k.taken.run.size = ap (λ (x : Run). x.size) k.run in
      omega (arith, now, with_total p.out (place_of r), was, few, sum_end room.held job);
  count = ap length out ∙ with_length p.out (place_of r) ∙ ap suc is.count ∙ sym (count_end room.held job);
}
  where
    job : Holding
    job = record { name = name; call = c; fuel = fuel; place = k.taken.run }

    base : q.base ≡ p.base
    base = ap (λ (h : Holed). h.base) took.1

    arena : q.arena ≡ p.arena
    arena = ap (λ (h : Holed). h.arena) took.1

    out : q.out ≡ with_run p.out (place_of r)
    out = ap (λ (h : Holed). h.out) took.1

    order : AreOrdered (with_run p.out (place_of r))
    order = subst AreOrdered out hq.order

    stays : (x : Run) → IsOut p.out x → IsOut q.out x
    stays x o = subst (λ (xs : List Run). IsOut xs x) (sym out) (with_others p.out (place_of r) x o)

    range : d.lease.range ≡ r
    range = ap (λ (l : LeaseView). l.range) leased

    held : IsHolding licences tenant q d job
    held = record {
      name = named;
      call = call;
      owner = ap (λ (l : LeaseView). l.tenant) leased;
      from = ap (λ (l : LeaseView). l.piece) leased ∙ ap (λ (x : Run). x.first) (sym base);
      place = ap place_of range ∙ k.run ∙ ap (λ (x : Run). shift x.first k.taken.run) (sym base);
      size = k.sized ∙ sized;
      out = subst (λ (xs : List Run). IsOut xs (place_of d.lease.range)) (sym out) (subst (λ (x : Range). IsOut (with_run p.out (place_of r)) (place_of x)) (sym range) (with_this p.out (place_of r)));
      arena = ap (λ (x : Range). x.arena) range ∙ (range_taken p size (taken_cells r q.holes) hp some took.0).arena ∙ sym arena;
    }

-- ---- one job less

-- what is held under a name, where it stands at this place, and the others
pub record IsFound (licences : List Licensed) (tenant : ℕ) (p : Holed) (ds : List DeclaredHolding) (hs : List Holding) (at : ℕ) (d : DeclaredHolding) (o : Option Holding)
    (left : List Holding) : Type 0 where
  pub job : Holding
  pub named : o ≡ Some job
  pub within : at < length ds
  pub held : IsHolding licences tenant p d job
  pub others : AreHolding licences tenant p (remove ds at) left
  pub differ : AllByRecursion (λ (x : Holding). x.place.first ≡ job.place.first → ⊥) left
  pub apart : BeginApart left
  pub sum : cells_held left + job.place.size ≡ cells_held hs
  pub count : suc (length left) ≡ length hs

differ_turned : (h j : Holding) → (h.place.first ≡ j.place.first → ⊥) → j.place.first ≡ h.place.first → ⊥
differ_turned h j n e = n (sym e)

-- of those that differ from this one, the one of a name does
named_differs : (P : Holding → Type 0) (hs : List Holding) (name : List ℕ) (j : Holding) → AllByRecursion P hs → held_named hs name ≡ Some j → P j × AllByRecursion P (without_named hs name)
named_differs P [] name j a e = absurd (cc)
named_differs P (h ∷ hs) name j a e = by_test (λ f. named_differs P hs name j a.1 f) (bytes_eq h.name name) e
  where
    by_test : (held_named hs name ≡ Some j → P j × AllByRecursion P (without_named hs name)) → (b : Bool) → (if b then Some h else held_named hs name) ≡ Some j
        → P j × AllByRecursion P (if b then hs else h ∷ without_named hs name)
    by_test next true f = (subst P (same_Some h j f) a.0, a.1)
    by_test next false f = ((next f).0, (a.0, (next f).1))

pub found_named : (licences : List Licensed) (tenant : ℕ) (p : Holed) (ds : List DeclaredHolding) (hs : List Holding) (name : List ℕ) (at : ℕ) (d : DeclaredHolding)
    → AreHolding licences tenant p ds hs → BeginApart hs → place_among (names_of ds) name ≡ Some at → d ≡ slice_index_or ds at d
    → IsFound licences tenant p ds hs at d (held_named hs name) (without_named hs name)
found_named licences tenant p [] [] name at d k a e is = absurd (cc)
found_named licences tenant p [] (h ∷ hs) name at d k a e is = absurd k
found_named licences tenant p (x ∷ ds) [] name at d k a e is = absurd k
found_named licences tenant p (x ∷ ds) (h ∷ hs) name at d k a e is =
    by_test (λ n f s. found_named licences tenant p ds hs name n d k.1 a.1 f s) (λ j f. named_differs (λ (y : Holding). y.place.first ≡ h.place.first → ⊥) hs name j a.0 f)
    (bytes_eq h.name name)
    (subst (λ n. (if bytes_eq n name then Some 0 else option_map suc (place_among (names_of ds) name)) ≡ Some at) k.0.name e)
  where
    by_test : ((n : ℕ) → place_among (names_of ds) name ≡ Some n → d ≡ slice_index_or ds n d → IsFound licences tenant p ds hs n d (held_named hs name) (without_named hs name))
        → ((j : Holding) → held_named hs name ≡ Some j → (j.place.first ≡ h.place.first → ⊥) × AllByRecursion (λ (y : Holding). y.place.first ≡ h.place.first → ⊥) (without_named hs name))
        → (b : Bool) → (if b then Some 0 else option_map suc (place_among (names_of ds) name)) ≡ Some at
        → IsFound licences tenant p (x ∷ ds) (h ∷ hs) at d (if b then Some h else held_named hs name) (if b then hs else h ∷ without_named hs name)
    by_test next from true f =
        let zero_is : 0 ≡ at = same_Some 0 at f in
        let same : x ≡ d = sym (is ∙ ap (λ n. slice_index_or (x ∷ ds) n d) (sym zero_is)) in
        record {
          job = h;
          named = refl;
          within = omega (arith, zero_is);
          held = subst (λ (y : DeclaredHolding). IsHolding licences tenant p y h) same k.0;
          others = subst (λ n. AreHolding licences tenant p (remove (x ∷ ds) n) hs) zero_is k.1;
          differ = a.0;
          apart = a.1;
          sum = omega arith;
          count = refl;
        }
    by_test next from false f = by_place (place_among (names_of ds) name) refl f
      where
        by_place : (o : Option ℕ) → place_among (names_of ds) name ≡ o → option_map suc o ≡ Some at
            → IsFound licences tenant p (x ∷ ds) (h ∷ hs) at d (held_named hs name) (h ∷ without_named hs name)
        by_place None g s = absurd (cc)
        by_place (Some n) g s =
            let behind : suc n ≡ at = same_Some (suc n) at s in
            let rest : IsFound licences tenant p ds hs n d (held_named hs name) (without_named hs name) = next n g (is ∙ ap (λ m. slice_index_or (x ∷ ds) m d) (sym behind)) in
            let differs = from rest.job rest.named in
            record {
              job = rest.job;
              named = rest.named;
              within = omega (arith, behind, rest.within);
              held = rest.held;
              others = subst (λ m. AreHolding licences tenant p (remove (x ∷ ds) m) (h ∷ without_named hs name)) behind (k.0, rest.others);
              differ = (differ_turned rest.job h differs.0, rest.differ);
              apart = (differs.1, rest.apart);
              sum = omega (arith, rest.sum);
              count = ap suc rest.count;
            }

-- where no job of the name stands, none is held
pub none_named : (licences : List Licensed) (tenant : ℕ) (p : Holed) (ds : List DeclaredHolding) (hs : List Holding) (name : List ℕ) → AreHolding licences tenant p ds hs
    → place_among (names_of ds) name ≡ None → held_named hs name ≡ None
none_named licences tenant p [] [] name k e = refl
none_named licences tenant p [] (h ∷ hs) name k e = absurd k
none_named licences tenant p (x ∷ ds) [] name k e = absurd k
none_named licences tenant p (x ∷ ds) (h ∷ hs) name k e =
    by_test (λ f. none_named licences tenant p ds hs name k.1 f) (bytes_eq h.name name)
    (subst (λ n. (if bytes_eq n name then Some 0 else option_map suc (place_among (names_of ds) name)) ≡ None) k.0.name e)
  where
    by_test : (place_among (names_of ds) name ≡ None → held_named hs name ≡ None) → (b : Bool)
        → (if b then Some 0 else option_map suc (place_among (names_of ds) name)) ≡ None → (if b then Some h else held_named hs name) ≡ None
    by_test next true f = absurd (let g : Some 0 ≡ None = f in cc)
    by_test next false f = next (by_place (place_among (names_of ds) name) f)
      where
        by_place : (o : Option ℕ) → option_map suc o ≡ None → o ≡ None
        by_place None g = refl
        by_place (Some n) g = absurd (let s : Some (suc n) ≡ None = g in cc)

-- each run that begins elsewhere is still out
others_held : (licences : List Licensed) (tenant : ℕ) (p q : Holed) (first : ℕ) (ds : List DeclaredHolding) (hs : List Holding) → q.base ≡ p.base → q.arena ≡ p.arena
    → ((x : Run) → IsOut p.out x → (x.first ≡ p.base.first + first → ⊥) → IsOut q.out x) → AllByRecursion (λ (x : Holding). x.place.first ≡ first → ⊥) hs
    → AreHolding licences tenant p ds hs → AreHolding licences tenant q ds hs
others_held licences tenant p q first [] [] b a o n k = tt
others_held licences tenant p q first [] (h ∷ hs) b a o n k = absurd k
others_held licences tenant p q first (d ∷ ds) [] b a o n k = absurd k
others_held licences tenant p q first (d ∷ ds) (h ∷ hs) b a o n k = (
  still_held licences tenant p q d h b a
      (o (place_of d.lease.range) k.0.out
      (λ e. n.0 (let at : d.lease.range.first ≡ p.base.first + h.place.first = ap (λ (x : Run). x.first) k.0.place in omega (arith, at, e))))
      k.0,
  others_held licences tenant p q first ds hs b a o n.1 k.1,
)

-- the tenant that gives a job's cells back holds the others
pub room_less : ShiftGiven → (licences : List Licensed) (tenant : ℕ) (p : Holed) (ds : List DeclaredHolding) (room : Room) (name : List ℕ) (at : ℕ) (d : DeclaredHolding) (r : Range)
    → AreHoles p → IsRoom licences tenant p ds room → (f : IsFound licences tenant p ds room.held at d (held_named room.held name) (without_named room.held name))
    → place_of r ≡ place_of d.lease.range → IsRoom licences tenant (with_given p r) (remove ds at) (without_job room name f.job)
room_less law licences tenant p ds room name at d r hp is f same = record {
  holes = given_runs p.holes r ∙ ap (λ hs. give_run hs (place_of r)) is.holes ∙ ap (give_run (map (shift p.base.first) room.holes)) placed ∙ law p.base.first room.holes f.job.place;
  held = others_held licences tenant p (with_given p r) f.job.place.first (remove ds at) (without_named room.held name) refl refl
      (λ x o n. without_others p.out r.first x o (λ e. n (e ∙ begins))) f.differ f.others;
  apart = f.apart;
  sum = let less : total (without_run p.out r.first) + length r.cells ≡ total p.out = without_total p.out (place_of r) hp.order out in
      let few : length r.cells ≡ f.job.place.size = ap (λ (x : Run). x.size) placed in
      let was : total p.out ≡ cells_held room.held = is.sum in
      omega (arith, less, few, was, f.sum);
  count = let less : suc (length (without_run p.out r.first)) ≡ length p.out = without_length p.out (place_of r) out in
      let was : length p.out ≡ length room.held = is.count in
      omega (arith, less, was, f.count);
}
  where
    placed : place_of r ≡ shift p.base.first f.job.place
    placed = same ∙ f.held.place

    begins : r.first ≡ p.base.first + f.job.place.first
    begins = ap (λ (x : Run). x.first) placed

    out : IsOut p.out (place_of r)
    out = subst (IsOut p.out) (sym same) f.held.out
