-- The leases of a desk that are out: one more, one less, and all of them back.
use Rattle.std.proofs.Common.{◌≡◌, ℕ, zero, suc, ◌<◌, ◌⊎◌, inl, inr, List, [], ◌∷◌, ◌++◌, length, map, replicate, get_or, set, Option, Some, None, refl, sym, ap, ◌∙◌, subst, arith}
use Rattle.std.specs.Prelude.{slice_get, slice_set}
use Rattle.std.specs.Option.{option_map}
use Rattle.std.proofs.lemmas.Bool.{cases_eq}
use Rattle.std.proofs.lemmas.List.{map-set, set-get_or}
use Rattle.std.proofs.lemmas.Option.{slice_get-map, slice_get_within, slice_get_read, get_or_from_slice_get}
use Rattle.cell_span.specs.Range.{Range}
use Rattle.hole_list.specs.declared.run.Run.{Run}
use Rattle.hole_list.specs.Holes.{run_of}
use Rattle.lease_desk.specs.Journal.{Move, leased}
use Rattle.lease_desk.specs.Lease.{LeaseView}
use Rattle.lease_desk.specs.Desk.{DeskView, new_desk, Takes, Waits, given_back}
use Rattle.cases_cells.specs.Held.{run_in, AreOwn, AllHeld, FrontHeld}

-- ---- places of a list

some_same : {A : Type 0} (x y : A) → Some x ≡ Some y → x ≡ y
some_same x y e = grind arith

abbrev Place : Type 0
Place = Option LeaseView

-- what is put into a place is there, and all else stays
put_here : (xs : List Place) (i : ℕ) (x : Place) → i < length xs → slice_get (slice_set xs i x) i ≡ Some x
put_here [] i x m = absurd (omega (arith, m))
put_here (y ∷ xs) zero x m = refl
put_here (y ∷ xs) (suc i) x m = put_here xs i x (omega (arith, m))

put_there : (xs : List Place) (i j : ℕ) (x : Place) → ((i ≡ j) → ⊥) → slice_get (slice_set xs i x) j ≡ slice_get xs j
put_there [] i j x ne = refl
put_there (y ∷ xs) zero zero x ne = absurd (ne refl)
put_there (y ∷ xs) zero (suc j) x ne = refl
put_there (y ∷ xs) (suc i) zero x ne = refl
put_there (y ∷ xs) (suc i) (suc j) x ne = put_there xs i j x (λ e. ne (ap suc e))

put_twice : (xs : List (Option Run)) (i : ℕ) (x y : Option Run) → slice_set (slice_set xs i x) i y ≡ slice_set xs i y
put_twice [] i x y = refl
put_twice (z ∷ xs) zero x y = refl
put_twice (z ∷ xs) (suc i) x y = ap (λ (l : List (Option Run)). z ∷ l) (put_twice xs i x y)

put_same : (xs : List (Option Run)) (i : ℕ) (x : Option Run) → slice_get xs i ≡ Some x → slice_set xs i x ≡ xs
put_same [] i x e = refl
put_same (z ∷ xs) zero x e = ap (λ (y : Option Run). y ∷ xs) (sym (some_same z x e))
put_same (z ∷ xs) (suc i) x e = ap (λ (l : List (Option Run)). z ∷ l) (put_same xs i x e)

-- a place in which nothing is may be emptied
pub place_stays : (held now : List Place) (at : ℕ) (x : Place) → x ≡ get_or held at x → now ≡ set held at None → x ≡ None → now ≡ held
place_stays held now at x e f g = f ∙ ap (set held at) (sym g ∙ e) ∙ set-get_or held at x

pub place_read : (held : List Place) (n at : ℕ) (x : Place) (l : LeaseView) → n ≡ length held → at < n → x ≡ get_or held at x → x ≡ Some l
    → slice_get held at ≡ Some (Some l)
place_read held n at x l many less e f = slice_get_read held n at x many less e ∙ ap (λ (y : Place). Some y) f

-- the place in which nothing is holds no lease
pub place_empty : (held : List Place) (at : ℕ) (x : Place) (l : LeaseView) → slice_get held at ≡ Some None → x ≡ get_or held at x → x ≡ Some l → ⊥
place_empty held at x l e f g = let q : None ≡ Some l = sym (f ∙ get_or_from_slice_get held at None x e) ∙ g in grind arith

-- ---- at first

none_run : (n : ℕ) → map run_in (replicate n None) ≡ replicate n None
none_run zero = refl
none_run (suc n) = ap (λ (l : List (Option Run)). None ∷ l) (none_run n)

none_there : (n at : ℕ) (l : LeaseView) → slice_get (let none : List Place = replicate n None in none) at ≡ Some (Some l) → ⊥
none_there zero at l e = grind arith
none_there (suc n) zero l e = let q : None ≡ Some l = some_same None (Some l) e in grind arith
none_there (suc n) (suc at) l e = none_there n at l e

pub first_held : {P : Type 0} (range : Range) (sizes : List ℕ) (jobs : ℕ) (held : List Place) (d : DeskView P) → held ≡ replicate jobs None
    → jobs ≡ length sizes → d ≡ new_desk range sizes → AllHeld held d
first_held {P} range sizes jobs held d e m f =
    let is : held ≡ replicate (length sizes) None = e ∙ ap (λ n. replicate n None) m in
    subst (λ (x : DeskView P). AllHeld held x) (sym f) (record {
      leases = ap (map run_in) is ∙ none_run (length sizes);
      own = λ at l q. absurd (none_there (length sizes) at l (sym (ap (λ (xs : List Place). slice_get xs at) is) ∙ q));
    })

-- ---- one more

free_here : (held : List Place) (at : ℕ) → slice_get (map run_in held) at ≡ Some None → slice_get held at ≡ Some None
free_here [] at e = grind arith
free_here (None ∷ held) zero e = refl
free_here (Some l ∷ held) zero e = let q : Some (run_of l.range) ≡ None = some_same (Some (run_of l.range)) None e in grind arith
free_here (x ∷ held) (suc at) e = free_here held at e

module _ {P : Type 0} (held : List Place) (old : DeskView P) (k : AllHeld held old) where
  pub is_free : (next : Option Move) (new : DeskView P) (l : LeaseView) → Takes next old new l → slice_get held l.job ≡ Some None
  is_free next new l t = free_here held l.job (ap (λ (ls : List (Option Run)). slice_get ls l.job) k.leases ∙ t.free)

  pub taken_held : (next : Option Move) (new : DeskView P) (l : LeaseView) (now : List Place) → Takes next old new l
      → now ≡ slice_set held l.job (Some l) → AllHeld now new
  taken_held next new l now t e =
      let less : l.job < length held = slice_get_within held l.job None (is_free next new l t) in
      subst (λ (xs : List Place). AllHeld xs new) (sym e) (record {
        leases = map-set run_in held l.job (Some l) ∙ ap (λ (ls : List (Option Run)). slice_set ls l.job (Some (run_of l.range))) k.leases ∙ sym t.leases;
        own = λ at m q. by_place at m (cases_eq l.job at) less q;
      })
    where
      by_place : (at : ℕ) (m : LeaseView) → (l.job ≡ at) ⊎ ((l.job ≡ at) → ⊥) → l.job < length held
          → slice_get (slice_set held l.job (Some l)) at ≡ Some (Some m) → m.job ≡ at
      by_place at m (inl here) less q =
          let same : l ≡ m = some_same l m (some_same (Some l) (Some m) (sym (put_here held l.job (Some l) less) ∙ subst (λ j. slice_get (slice_set held l.job (Some l)) j ≡ Some (Some m)) (sym here) q)) in
          subst (λ (x : LeaseView). x.job ≡ at) same here
      by_place at m (inr there) less q = k.own at m (sym (put_there held l.job at (Some l) there) ∙ q)

  pub waits_held : (new : DeskView P) (job need largest : ℕ) → Waits old new job need largest → AllHeld held new
  waits_held new job need largest t = record {
    leases = k.leases ∙ sym t.leases;
    own = k.own;
  }

  -- ---- one less

  module _ (job : ℕ) (l : LeaseView) (at : slice_get held job ≡ Some (Some l)) where
    pub is_known : slice_get old.state.leases l.job ≡ Some (Some (run_of l.range))
    is_known =
        let there : slice_get (map run_in held) job ≡ Some (Some (run_of l.range)) = slice_get-map run_in held job ∙ ap (option_map run_in) at in
        subst (λ j. slice_get old.state.leases j ≡ Some (Some (run_of l.range))) (sym (k.own job l at)) (ap (λ (ls : List (Option Run)). slice_get ls job) (sym k.leases) ∙ there)

    others_own : AreOwn (slice_set held job None)
    others_own i m q = by_place (cases_eq job i)
      where
        by_place : (job ≡ i) ⊎ ((job ≡ i) → ⊥) → m.job ≡ i
        by_place (inl here) =
            let less : job < length held = slice_get_within held job (Some l) at in
            let none : None ≡ Some m = some_same None (Some m) (sym (put_here held job None less) ∙ subst (λ j. slice_get (slice_set held job None) j ≡ Some (Some m)) (sym here) q) in
            absurd (grind arith)
        by_place (inr there) = k.own i m (sym (put_there held job i None there) ∙ q)

    pub given_held : (payloads : List (Option P)) (withdrawn : ℕ) (now : List Place) (new : DeskView P) → now ≡ slice_set held job None
        → new ≡ given_back old l payloads withdrawn → AllHeld now new
    given_held payloads withdrawn now new e f =
        subst (λ (xs : List Place). AllHeld xs new) (sym e) (subst (λ (d : DeskView P). AllHeld (slice_set held job None) d) (sym f) (record {
          leases = map-set run_in held job None ∙ ap (λ (ls : List (Option Run)). slice_set ls job None) k.leases ∙ ap (λ j. slice_set old.state.leases j None) (sym (k.own job l at));
          own = others_own;
        }))

    -- it comes back into its place, with other cells
    module _ (m : LeaseView) (now : List Place) (j : m.job ≡ l.job) (e : now ≡ slice_set held job None) where
      pub is_back : slice_get now m.job ≡ Some None
      is_back =
          let less : job < length held = slice_get_within held job (Some l) at in
          ap (λ (xs : List Place). slice_get xs m.job) e ∙ subst (λ i. slice_get (slice_set held job None) i ≡ Some None) (sym (j ∙ k.own job l at)) (put_here held job None less)

      pub back_held : run_of m.range ≡ run_of l.range → (last : List Place) → last ≡ slice_set now m.job (Some m) → AllHeld last old
      back_held r last f =
          let place : m.job ≡ job = j ∙ k.own job l at in
          let is : last ≡ slice_set (slice_set held job None) job (Some m) = f ∙ (λ i. slice_set (e i) (place i) (Some m)) in
          let there : slice_get (map run_in held) job ≡ Some (Some (run_of l.range)) = slice_get-map run_in held job ∙ ap (option_map run_in) at in
          subst (λ (xs : List Place). AllHeld xs old) (sym is) (record {
            leases = map-set run_in (slice_set held job None) job (Some m)
                ∙ (λ i. slice_set (map-set run_in held job None i) job (Some (r i)))
                ∙ put_twice (map run_in held) job None (Some (run_of l.range))
                ∙ put_same (map run_in held) job (Some (run_of l.range)) there
                ∙ k.leases;
            own = λ i n q. by_place i n (cases_eq job i) place q;
          })
        where
          by_place : (i : ℕ) (n : LeaseView) → (job ≡ i) ⊎ ((job ≡ i) → ⊥) → m.job ≡ job
              → slice_get (slice_set (slice_set held job None) job (Some m)) i ≡ Some (Some n) → n.job ≡ i
          by_place i n (inl here) place q =
              let less : job < length (slice_set held job None) = slice_get_within (slice_set held job None) job None (put_here held job None (slice_get_within held job (Some l) at)) in
              let same : m ≡ n = some_same m n (some_same (Some m) (Some n) (sym (put_here (slice_set held job None) job (Some m) less)
              ∙ subst (λ x. slice_get (slice_set (slice_set held job None) job (Some m)) x ≡ Some (Some n)) (sym here) q)) in
              subst (λ (x : LeaseView). x.job ≡ i) same (place ∙ here)
          by_place i n (inr there) place q = others_own i n (sym (put_there (slice_set held job None) job i (Some m) there) ∙ q)

-- ---- all of them back, from the last place on

map_more : (xs : List Place) (x : Place) (behind : List (Option Run)) → map run_in (xs ++ x ∷ []) ++ behind ≡ map run_in xs ++ run_in x ∷ behind
map_more [] x behind = refl
map_more (y ∷ xs) x behind = ap (λ (l : List (Option Run)). run_in y ∷ l) (map_more xs x behind)

get_longer : (xs ys : List Place) (i : ℕ) (x : Place) → slice_get xs i ≡ Some x → slice_get (xs ++ ys) i ≡ Some x
get_longer [] ys i x e = grind arith
get_longer (y ∷ xs) ys zero x e = e
get_longer (y ∷ xs) ys (suc i) x e = get_longer xs ys i x e

get_last : (xs : List Place) (x : Place) → slice_get (xs ++ x ∷ []) (length xs) ≡ Some x
get_last [] x = refl
get_last (y ∷ xs) x = get_last xs x

get_seam : (xs : List Place) (x : Option Run) (behind : List (Option Run)) → slice_get (map run_in xs ++ x ∷ behind) (length xs) ≡ Some x
get_seam [] x behind = refl
get_seam (y ∷ xs) x behind = get_seam xs x behind

set_seam : (xs : List Place) (x y : Option Run) (behind : List (Option Run))
    → slice_set (map run_in xs ++ x ∷ behind) (length xs) y ≡ map run_in xs ++ y ∷ behind
set_seam [] x y behind = refl
set_seam (z ∷ xs) x y behind = ap (λ (l : List (Option Run)). run_in z ∷ l) (set_seam xs x y behind)

nothing_behind : (xs : List (Option Run)) → xs ++ [] ≡ xs
nothing_behind [] = refl
nothing_behind (x ∷ xs) = ap (λ (l : List (Option Run)). x ∷ l) (nothing_behind xs)

module _ {P : Type 0} where
  pub all_front : (held : List Place) (d : DeskView P) → AllHeld held d → FrontHeld held d
  all_front held d k = record { behind = []; leases = nothing_behind (map run_in held) ∙ k.leases; none = refl; own = k.own }

  front_own : (held now : List Place) (x : Place) (d : DeskView P) → FrontHeld held d → held ≡ now ++ x ∷ [] → AreOwn now
  front_own held now x d k e at l q = k.own at l (ap (λ (xs : List Place). slice_get xs at) e ∙ get_longer now (x ∷ []) at (Some l) q)

  front_leases : (held now : List Place) (x : Place) (d : DeskView P) → (k : FrontHeld held d) → held ≡ now ++ x ∷ []
      → map run_in now ++ run_in x ∷ k.behind ≡ d.state.leases
  front_leases held now x d k e = sym (map_more now x k.behind) ∙ ap (λ (xs : List Place). map run_in xs ++ k.behind) (sym e) ∙ k.leases

  pub empty_front : (held now : List Place) (d : DeskView P) → FrontHeld held d → held ≡ now ++ None ∷ [] → FrontHeld now d
  empty_front held now d k e = record { behind = None ∷ k.behind; leases = front_leases held now None d k e; none = k.none; own = front_own held now None d k e }

  module _ (held now : List Place) (l : LeaseView) (d : DeskView P) (k : FrontHeld held d) (e : held ≡ now ++ Some l ∷ []) where
    last_own : l.job ≡ length now
    last_own = k.own (length now) l (ap (λ (xs : List Place). slice_get xs (length now)) e ∙ get_last now (Some l))

    pub last_known : slice_get d.state.leases l.job ≡ Some (Some (run_of l.range))
    last_known =
        subst (λ j. slice_get d.state.leases j ≡ Some (Some (run_of l.range))) (sym last_own)
        (ap (λ (ls : List (Option Run)). slice_get ls (length now)) (sym (front_leases held now (Some l) d k e)) ∙ get_seam now (Some (run_of l.range)) k.behind)

    pub last_front : (payloads : List (Option P)) (withdrawn : ℕ) (new : DeskView P) → new ≡ given_back d l payloads withdrawn → FrontHeld now new
    last_front payloads withdrawn new f = subst (λ (x : DeskView P). FrontHeld now x) (sym f) (record {
      behind = None ∷ k.behind;
      leases = sym ((λ i. slice_set (sym (front_leases held now (Some l) d k e) i) (last_own i) None) ∙ set_seam now (Some (run_of l.range)) None k.behind);
      none = k.none;
      own = front_own held now (Some l) d k e;
    })

  pub none_front : (held : List Place) (d : DeskView P) → FrontHeld held d → held ≡ [] → leased d.state.leases ≡ []
  none_front held d k e = ap (λ (ls : List (Option Run)). leased ls) (sym k.leases ∙ ap (λ (xs : List Place). map run_in xs ++ k.behind) e) ∙ k.none
