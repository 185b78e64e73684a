-- The names of the desk's jobs have no space, and no two are the same.
use Rattle.std.proofs.Common.{◌≡◌, ℕ, zero, suc, ◌+◌, ◌<◌, ◌≤◌, nat_lt, if◌then◌else◌, Bool, true, false, List, [], ◌∷◌, ◌++◌, length, Some, None, refl, sym, ap, ◌∙◌, subst, arith, length-append, inl, inr}
use Rattle.std.specs.Prelude.{slice_get, ◌⊎◌}
use Rattle.std.specs.List.{AllByRecursion}
use Rattle.std.proofs.lemmas.Bool.{cases_lt}
use Rattle.camelot_values.specs.Names.{AreDistinct}
use Rattle.text_lines.specs.Lines.{Free}
use Rattle.text_lines.specs.OptionLaws.{some_same}
use Rattle.job_script.specs.Scripts.{Job, Entry, AProgram, AJob, Script, IsWord, EntryIsFormed, IsScript, job_names}
use Rattle.job_script.specs.HeadLaws.{word_free}
use Rattle.run_reports.specs.Report.{name_of, name_at, asked_name}
use Rattle.script_plans.specs.Fates.{Fate, Unfit, Calls, lease_of, leases_of}
use Rattle.script_plans.specs.Lines.{AreFates, sizes_of, places_with, places_of}
use Rattle.run_reports.specs.JobNames.{AreNames}

-- ---- places

-- a job stands at this place, where the first entry stands at the other one
record JobAt (entries : List Entry) (place p : ℕ) : Type 0 where
  at : ℕ
  is : p ≡ at + place
  job : Job
  there : slice_get entries at ≡ Some (AJob job)

further : (e : Entry) (entries : List Entry) (place p : ℕ) → JobAt entries (suc place) p → JobAt (e ∷ entries) place p
further e entries place p j = record { at = suc j.at; is = omega (arith, j.is); job = j.job; there = j.there }

none_there : {A : Type 0} (i : ℕ) (x : A) → slice_get [] i ≡ Some x → ⊥
none_there i x e = let k : None ≡ Some x = e in absurd cc

place_job : (arena place : ℕ) (entries : List Entry) (fates : List Fate) (i p : ℕ) → slice_get (places_of arena place entries fates) i ≡ Some p
    → JobAt entries place p
place_job arena place [] fates i p e = absurd (none_there i p e)
place_job arena place (AProgram q ∷ entries) fates i p e = further (AProgram q) entries place p (place_job arena (suc place) entries fates i p e)
place_job arena place (AJob j ∷ entries) [] i p e = absurd (none_there i p e)
place_job arena place (AJob j ∷ entries) (fate ∷ fates) i p e =
    by_leases (λ k q. further (AJob j) entries place p (place_job arena (suc place) entries fates k p q)) (leases_of arena fate) i e
  where
    by_leases : ((k : ℕ) → slice_get (places_of arena (suc place) entries fates) k ≡ Some p → JobAt (AJob j ∷ entries) place p)
        → (ls : List ℕ) (k : ℕ) → slice_get (places_with ls place ++ places_of arena (suc place) entries fates) k ≡ Some p → JobAt (AJob j ∷ entries) place p
    by_leases go [] k q = go k q
    by_leases go (l ∷ ls) zero q = record { at = 0; is = omega (arith, some_same place p q); job = j; there = refl }
    by_leases go (l ∷ ls) (suc k) q = go k q

-- places ascend
ascends : (arena place : ℕ) (entries : List Entry) (fates : List Fate) (i k p q : ℕ) → i < k → slice_get (places_of arena place entries fates) i ≡ Some p
    → slice_get (places_of arena place entries fates) k ≡ Some q → p < q
ascends arena place [] fates i k p q h e f = absurd (none_there i p e)
ascends arena place (AProgram x ∷ entries) fates i k p q h e f = ascends arena (suc place) entries fates i k p q h e f
ascends arena place (AJob j ∷ entries) [] i k p q h e f = absurd (none_there i p e)
ascends arena place (AJob j ∷ entries) (fate ∷ fates) i k p q h e f =
    by_leases (λ m n. ascends arena (suc place) entries fates m n p q) (leases_of arena fate) i k h e f
  where
    by_leases : ((m n : ℕ) → m < n → slice_get (places_of arena (suc place) entries fates) m ≡ Some p → slice_get (places_of arena (suc place) entries fates) n ≡ Some q → p < q)
        → (ls : List ℕ) (m n : ℕ) → m < n → slice_get (places_with ls place ++ places_of arena (suc place) entries fates) m ≡ Some p
        → slice_get (places_with ls place ++ places_of arena (suc place) entries fates) n ≡ Some q → p < q
    by_leases go [] m n h e f = go m n h e f
    by_leases go (l ∷ ls) zero zero h e f = absurd (omega (arith, h))
    by_leases go (l ∷ ls) (suc m) zero h e f = absurd (omega (arith, h))
    by_leases go (l ∷ ls) zero (suc n) h e f =
        let j = place_job arena (suc place) entries fates n q f in
        omega (arith, some_same place p e, j.is)
    by_leases go (l ∷ ls) (suc m) (suc n) h e f = go m n (omega (arith, h)) e f

-- as many as there are leases
one_lease : (arena place : ℕ) (fate : Fate) → length (places_with (leases_of arena fate) place) ≡ length (leases_of arena fate)
one_lease arena place (Unfit cause) = refl
one_lease arena place (Calls c) = by_test (nat_lt arena (lease_of c))
  where
    by_test : (b : Bool) → length (places_with (if b then [] else lease_of c ∷ []) place) ≡ length (if b then [] else lease_of c ∷ [])
    by_test true = refl
    by_test false = refl

as_many : (arena place : ℕ) (script entries : List Entry) (fates : List Fate) → AreFates script entries fates
    → length (places_of arena place entries fates) ≡ length (sizes_of arena fates)
as_many arena place script [] [] h = refl
as_many arena place script [] (fate ∷ fates) h = absurd h
as_many arena place script (AProgram p ∷ entries) fates h = as_many arena (suc place) script entries fates h
as_many arena place script (AJob j ∷ entries) [] h = absurd h
as_many arena place script (AJob j ∷ entries) (fate ∷ fates) h =
    omega (
      arith,
      length-append (places_with (leases_of arena fate) place) (places_of arena (suc place) entries fates),
      length-append (leases_of arena fate) (sizes_of arena fates),
      one_lease arena place fate,
      as_many arena (suc place) script entries fates h.2,
    )

-- ---- names

-- a name among others
record Among (names : List (List ℕ)) (name : List ℕ) : Type 0 where
  before : List (List ℕ)
  rest : List (List ℕ)
  is : names ≡ before ++ name ∷ rest

among : (entries : List Entry) (at : ℕ) (job : Job) → slice_get entries at ≡ Some (AJob job) → Among (job_names entries) job.name
among [] at job e = absurd (none_there at (AJob job) e)
among (AProgram p ∷ entries) zero job e = let k : AProgram p ≡ AJob job = some_same (AProgram p) (AJob job) e in absurd cc
among (AProgram p ∷ entries) (suc at) job e = among entries at job e
among (AJob j ∷ entries) zero job e =
    let k : AJob j ≡ AJob job = some_same (AJob j) (AJob job) e in
    let same : j ≡ job = cc in
    record { before = []; rest = job_names entries; is = ap (λ (x : Job). x.name ∷ job_names entries) same }
among (AJob j ∷ entries) (suc at) job e =
    let a = among entries at job e in
    record { before = j.name ∷ a.before; rest = a.rest; is = ap (λ l. j.name ∷ l) a.is }

-- no two jobs have one name
twice : (entries : List Entry) (at then_ : ℕ) (a b : Job) → slice_get entries at ≡ Some (AJob a) → slice_get entries then_ ≡ Some (AJob b) → at < then_
    → a.name ≡ b.name → AreDistinct (job_names entries) → ⊥
twice [] at then_ a b e f h same d = none_there at (AJob a) e
twice (x ∷ entries) zero zero a b e f h same d = omega (arith, h)
twice (x ∷ entries) (suc at) zero a b e f h same d = omega (arith, h)
twice (AProgram p ∷ entries) zero (suc then_) a b e f h same d = let k : AProgram p ≡ AJob a = some_same (AProgram p) (AJob a) e in absurd cc
twice (AProgram p ∷ entries) (suc at) (suc then_) a b e f h same d = twice entries at then_ a b e f (omega (arith, h)) same d
twice (AJob j ∷ entries) zero (suc then_) a b e f h same d =
    let k : AJob j ≡ AJob a = some_same (AJob j) (AJob a) e in
    let first : j ≡ a = cc in
    let m = among entries then_ b f in
    d b.name [] m.before m.rest (ap (λ l. l ∷ job_names entries) (ap (λ (x : Job). x.name) first ∙ same) ∙ ap (λ l. b.name ∷ l) m.is)
twice (AJob j ∷ entries) (suc at) (suc then_) a b e f h same d =
    twice entries at then_ a b e f (omega (arith, h)) same (λ word before between rest q. d word (j.name ∷ before) between rest (ap (λ l. j.name ∷ l) q))

formed_at : (entries : List Entry) (at : ℕ) (job : Job) → AllByRecursion EntryIsFormed entries → slice_get entries at ≡ Some (AJob job) → IsWord job.name
formed_at [] at job h e = absurd (none_there at (AJob job) e)
formed_at (x ∷ entries) zero job h e = by_entry x h.0 (some_same x (AJob job) e)
  where
    by_entry : (x : Entry) → EntryIsFormed x → x ≡ AJob job → IsWord job.name
    by_entry x k e = let f : EntryIsFormed (AJob job) = subst EntryIsFormed e k in f.name
formed_at (x ∷ entries) (suc at) job h e = formed_at entries at job h.1 e

there_at : {A : Type 0} (xs : List A) (i : ℕ) → i < length xs → (x : A) × (slice_get xs i ≡ Some x)
there_at [] i h = absurd (omega (arith, h))
there_at (x ∷ xs) zero h = (x, refl)
there_at (x ∷ xs) (suc i) h = there_at xs i (omega (arith, h))

-- the job of the desk's job of this number
record Named (entries : List Entry) (asked : List ℕ) (number : ℕ) : Type 0 where
  place : ℕ
  is : slice_get asked number ≡ Some place
  job : JobAt entries 0 place
  name : asked_name entries asked number ≡ job.job.name

named : (arena : ℕ) (entries : List Entry) (fates : List Fate) (number : ℕ) → number < length (places_of arena 0 entries fates)
    → Named entries (places_of arena 0 entries fates) number
unfolding asked_name
named arena entries fates number h =
    let p = there_at (places_of arena 0 entries fates) number h in
    let j = place_job arena 0 entries fates number p.0 p.1 in
    let at : p.0 ≡ j.at = omega (arith, j.is) in
    record {
      place = p.0;
      is = p.1;
      job = j;
      name = ap (name_at entries) p.1 ∙ ap (λ n. name_of (slice_get entries n)) at ∙ ap name_of j.there;
    }

pub are_names : (arena : ℕ) (s : Script) (fates : List Fate) → IsScript s → AreFates s.items s.items fates
    → AreNames (asked_name s.items (places_of arena 0 s.items fates)) (length (sizes_of arena fates))
are_names arena s fates right are = record { free = free; one = one }
  where
    many : length (places_of arena 0 s.items fates) ≡ length (sizes_of arena fates)
    many = as_many arena 0 s.items s.items fates are

    of : (number : ℕ) → number < length (sizes_of arena fates) → Named s.items (places_of arena 0 s.items fates) number
    of number h = named arena s.items fates number (omega (arith, h, many))

    free : (number : ℕ) → number < length (sizes_of arena fates) → Free 32 (asked_name s.items (places_of arena 0 s.items fates) number)
    free number h =
        let n = of number h in
        subst (Free 32) (sym n.name) (word_free 32 n.job.job.name refl refl (formed_at s.items n.job.at n.job.job right.formed.items n.job.there))

    apart : (i j : ℕ) → i < length (sizes_of arena fates) → j < length (sizes_of arena fates) → i < j
        → asked_name s.items (places_of arena 0 s.items fates) i ≡ asked_name s.items (places_of arena 0 s.items fates) j → ⊥
    apart i j h k less e =
        let m = of i h in
        let n = of j k in
        let q = ascends arena 0 s.items fates i j m.place n.place less m.is n.is in
        twice s.items m.job.at n.job.at m.job.job n.job.job m.job.there n.job.there (omega (arith, q, m.job.is, n.job.is)) (sym m.name ∙ e ∙ n.name) right.once.jobs

    one : (i j : ℕ) → i < length (sizes_of arena fates) → j < length (sizes_of arena fates)
        → asked_name s.items (places_of arena 0 s.items fates) i ≡ asked_name s.items (places_of arena 0 s.items fates) j → i ≡ j
    one i j h k e = by_order (cases_lt i j) (cases_lt j i)
      where
        by_order : (i < j) ⊎ (j ≤ i) → (j < i) ⊎ (i ≤ j) → i ≡ j
        by_order (inl a) b = absurd (apart i j h k a e)
        by_order (inr a) (inl b) = absurd (apart j i k h b (sym e))
        by_order (inr a) (inr b) = omega (arith, a, b)
