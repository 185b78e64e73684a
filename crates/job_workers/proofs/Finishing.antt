-- The last state of a desk that served jobs.
use Rattle.std.proofs.Common.{◌≡◌, ℕ, zero, suc, ◌≤◌, List, [], ◌∷◌, length, map, Option, Some, None, refl, sym, ap, ◌∙◌, subst, arith}
use Rattle.std.specs.Prelude.{slice_get}
use Rattle.std.proofs.lemmas.Option.{slice_get_within, slice_get_past}
use Rattle.cell_span.specs.Arenas.{Arena}
use Rattle.cell_span.specs.Range.{Range}
use Rattle.cell_span.specs.declared.cell.Cell.{Cell}
use Rattle.lease_desk.specs.declared.event.Event.{Event}
use Rattle.lease_desk.specs.Filing.{FiledCells, HoldsFiled}
use Rattle.lease_desk.specs.Journal.{IsLegal}
use Rattle.lease_desk.specs.Desk.{DeskView, cells_in, filed_by, AllFiled}
use Rattle.lease_desk.specs.declared.name.DeskName as desk_name
use Rattle.job_world.specs.declared.name.JobName as job_name
use Rattle.job_world.specs.Plans.{Plan, Planned, leases_of, job_run, job_cells}
use Rattle.job_workers.specs.declared.kept.Kept as kept
use Rattle.job_workers.specs.declared.answer.Answer.{Answer}
use Rattle.job_workers.specs.Served.{cells_for, all_cells}
use Rattle.job_workers.specs.Ended.{AllEnded}
use Rattle.job_workers.specs.Filings.{HasAnswer, AllAnswered, ending_in}
use Rattle.job_workers.proofs.Turns.{leases_many}

-- ---- the sizes

-- the jobs of a desk of the name are those of the plans
pub sizes_now : (ps qs : Planned) (sizes own : List ℕ) → ps ≡ qs → sizes ≡ leases_of qs.plans → own ≡ sizes → own ≡ leases_of ps.plans
sizes_now ps qs sizes own plans named is = is ∙ named ∙ ap (λ (x : Planned). leases_of x.plans) (sym plans)

-- the journal of a desk of the name is legal for the plans
pub legal_now : {P : Type 0} (d : DeskView P) (ps : Planned) (arena : Arena) (journal : List Event) → d.arena ≡ arena → d.sizes ≡ leases_of ps.plans
    → journal ≡ d.journal → IsLegal d.arena.cells d.sizes d.journal
    → IsLegal arena.cells (leases_of ps.plans) journal
legal_now d ps arena journal of sizes is h =
    subst (λ j. IsLegal arena.cells (leases_of ps.plans) j) (sym is) (subst (λ s. IsLegal arena.cells s d.journal) sizes (subst (λ (a : Arena). IsLegal a.cells d.sizes d.journal) of h))

past : (plans : List Plan) (job : ℕ) → slice_get plans job ≡ None → length plans ≤ job
past [] job e = omega arith
past (p ∷ plans) zero e = absurd (grind arith)
past (p ∷ plans) (suc job) e = omega (arith, past plans job e)

-- ---- all answers

module _ {N K : Type 0} {j : job_name.Ghosts N} {n : desk_name.Ghosts N} {k : kept.Ghosts K} where
  answer_of : (ps : Planned) (job : ℕ) (o : Option (Option (Answer N K j n k))) (a : Answer N K j n k) → ps ≡ j.planned → o ≡ Some (Some a) → a.job ≡ job
      → HasAnswer ps job o
  answer_of ps job o a plans is number = record {
    answer = a;
    is = is;
    number = number;
    meant = subst (λ q. k.keeps q a.ending) (ap (λ ps. job_run ps a.job) (sym plans) ∙ ap (job_run ps) number) a.meant;
  }

  pub all_answered : (ps : Planned) (d : DeskView (Answer N K j n k)) (payloads : List (Option (Answer N K j n k))) → ps ≡ j.planned
      → d.sizes ≡ leases_of ps.plans → payloads ≡ d.payloads
      → AllFiled (λ (a : Answer N K j n k). a.job) (length d.sizes) d.payloads → AllAnswered ps payloads
  all_answered ps d payloads plans sizes is filed job less =
      let p = filed job (omega (arith, less, ap length sizes, leases_many ps.plans)) in
      answer_of ps job (slice_get payloads job) p.0 plans (ap (λ l. slice_get l job) is ∙ p.1) p.2

  -- ---- their endings

  ending_of : (payloads : List (Option (Answer N K j n k))) (job : ℕ) (a : Answer N K j n k) → slice_get payloads job ≡ Some (Some a)
      → slice_get (map ending_in payloads) job ≡ Some (Some a.ending)
  ending_of [] job a e = let c : None ≡ Some (Some a) = e in absurd cc
  ending_of (p ∷ payloads) zero a e = let same : p ≡ Some a = cc in ap (λ p. Some (ending_in p)) same
  ending_of (p ∷ payloads) (suc job) a e = ending_of payloads job a e

  pub all_ended : (ps : Planned) (payloads : List (Option (Answer N K j n k))) (endings : List (Option K)) → AllAnswered ps payloads
      → endings ≡ map ending_in payloads → AllEnded k.keeps ps endings
  all_ended ps payloads endings all is job less =
      let h : HasAnswer ps job (slice_get payloads job) = all job less in
      record { ending = h.answer.ending; is = ap (λ l. slice_get l job) is ∙ ending_of payloads job h.answer h.is; meant = h.meant }

  -- ---- all cells

  -- the cells that an answer tells
  abbrev told : Answer N K j n k → List Cell
  told a = job_cells j.planned a.job

  filed_at : (ps : Planned) (payloads : List (Option (Answer N K j n k))) (job : ℕ) → ps ≡ j.planned → AllAnswered ps payloads
      → length payloads ≡ length ps.plans → filed_by told payloads job ≡ all_cells ps job
  filed_at ps payloads job plans all many = by_plan (slice_get ps.plans job) refl
    where
      by_plan : (o : Option Plan) → slice_get ps.plans job ≡ o → cells_in told (slice_get payloads job) ≡ cells_for ps job o
      by_plan None e = ap (cells_in told) (slice_get_past payloads job (omega (arith, many, past ps.plans job e)))
      by_plan (Some p) e =
          let h = all job (slice_get_within ps.plans job p e) in
          ap (cells_in told) h.is ∙ ap Some (ap (λ ps. job_cells ps h.answer.job) (sym plans) ∙ ap (job_cells ps) h.number)

  pub all_held : (ps : Planned) (d : DeskView (Answer N K j n k)) (payloads : List (Option (Answer N K j n k))) (journal : List Event) (span : Range)
      → ps ≡ j.planned → d.sizes ≡ leases_of ps.plans → payloads ≡ d.payloads
      → AllAnswered ps payloads → length d.payloads ≡ length d.sizes → HoldsFiled (filed_by told d.payloads) d.journal span → journal ≡ d.journal → HoldsFiled (all_cells ps) journal span
  all_held ps d payloads journal span plans sizes is all many holds same =
      let count : length payloads ≡ length ps.plans = ap length is ∙ many ∙ ap length sizes ∙ leases_many ps.plans in
      let filed : filed_by told payloads ≡ all_cells ps = λ i job. filed_at ps payloads job plans all count i in
      let known : HoldsFiled (filed_by told payloads) d.journal span = subst (λ p. HoldsFiled (filed_by told p) d.journal span) (sym is) holds in
      let cells : HoldsFiled (all_cells ps) d.journal span = subst (λ (f : FiledCells). HoldsFiled f d.journal span) filed known in
      subst (λ j. HoldsFiled (all_cells ps) j span) (sym same) cells
