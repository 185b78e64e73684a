-- What a slice of a machine's run comes to.
use Rattle.std.proofs.Common.{◌≡◌, ℕ, ◌+◌, ◌≤◌, List, length, Option, Some, None, sym, ap, ◌∙◌, subst}
use Rattle.std.specs.Prelude.{false, slice_get}
use Rattle.camelot_values.specs.Value.{Value}
use Rattle.grail_code.specs.Code.{Func}
use Rattle.licence.specs.Licensed.{Licensed}
use Rattle.text_lines.specs.Formats.{IsText}
use Rattle.cell_machine.specs.Dead.{live_machine}
use Rattle.cell_machine.specs.Running.{IsRunning}
use Rattle.cell_machine.specs.State.{Configuration, Running, most_calls}
use Rattle.cell_machine.specs.Loading.{begun, steps}
use Rattle.cell_machine.specs.Views.{MachineView}
use Rattle.cell_machine.specs.declared.machine.Ending.{Ending}
use Rattle.job_world.specs.Plans.{Plan}
use Rattle.pause_image.specs.BackLaws.{kept_right}
use Rattle.pause_image.specs.Faults.{IsRight}
use Rattle.pause_image.specs.FormLaws.{kept_formed}
use Rattle.pause_image.specs.Keeping.{IsKeepable}
use Rattle.pause_image.specs.KeepingLaws.{steps_keepable}
use Rattle.machine_image.specs.Images.{image_text, image_format}
use Rattle.cell_machine.specs.Saved.{Saved, kept, configuration_of}
use Rattle.pause_image.specs.Pausing.{IsPaused, image_of}
use Rattle.pause_image.specs.Slicing.{state_lends, IsSliced, IsOverIn}
use Rattle.pause_image.specs.declared.pausing.Paused.{Paused}
use Rattle.pause_image.specs.declared.fault.ImageFault.{ImageFault}
use Rattle.stops.specs.declared.stop.Stop.{Stop}
use Rattle.stops.specs.declared.stop.Stop.TheVariants.{Memory, Fault}
use Rattle.sliced_jobs.specs.UnderWay.{IsTextOf}
use Rattle.sliced_jobs.specs.Ready.{HasRun, HasNoFault, IsReady, HasEnded}
use Rattle.sliced_jobs.proofs.Going.{SlicesTo, slices_to, slices_last, ends_with, goes_further, last_slice, goes_again, state_keepable, state_cells}

pub run_over : (asked : ℕ) (l : Licensed) (p : Plan) (made : ℕ) (image : Option (List ℕ)) (old new : MachineView) (ending : Ending) → IsRunning old → IsReady asked l p made image old
    → IsOverIn old new asked ending → HasEnded asked l p (made + 1) ending
run_over asked l p made image old new ending running r k = record {
  f = r.run.f;
  is = r.run.is;
  takes = last_slice asked l r.run.f p made image r.run.way (slices_last l.code old new r.run.way.state asked ending r.code r.goes k);
  meant = ends_with l r.run.f p old new r.run.way.state r.run.way.count asked ending r.run.is r.code running r.run.way.are r.goes k;
}

pub run_paused : (asked : ℕ) (l : Licensed) (p : Plan) (made : ℕ) (image : Option (List ℕ)) (old new : MachineView) (paused : Paused) → 1 ≤ asked → IsReady asked l p made image old
    → new.code ≡ old.code → IsSliced old new asked → IsPaused new paused → HasRun asked l p (made + 1) (Some paused.image.items)
run_paused asked l p made image old new paused some r code k is =
    let to : SlicesTo l.code asked r.run.way.state new.state = slices_to l.code old new r.run.way.state asked r.code r.goes k in
    let same : new.code ≡ l.code = code ∙ r.code in
    let text : IsTextOf l to.t paused.image.items = record {
      told = new.state;
      same = to.same;
      keepable = steps_keepable l k.count old.state new.state r.run.is.licensed r.keepable (subst (λ c. steps c most_calls k.count (Running old.state) ≡ Running new.state) r.code k.are);
      unlent = subst (λ c. state_lends c new.state ≡ false) r.code k.unlent;
      is = is.image ∙ ap (λ c. image_text (image_of (kept c new.state))) same;
      four = is.four;
      formed = is.formed;
    } in
    record { f = r.run.f; is = r.run.is; way = goes_further asked l r.run.f p made image paused.image.items to.t some r.run.way to.next text }

-- ---- the machine before a slice

-- it begins
pub ready_first : (asked : ℕ) (l : Licensed) (p : Plan) (made : ℕ) (m : MachineView) (args : List Value) (size : ℕ) → (r : HasRun asked l p made None) → m.code ≡ l.code → args ≡ p.args
    → size ≡ p.lease → ((f : Func) → slice_get l.code.funcs p.entry ≡ Some f → m.state ≡ begun l.code p.entry f args p.fuel size) → IsReady asked l p made None m
ready_first asked l p made m args size r code of same is =
    let state : m.state ≡ r.way.state = is r.f r.is.func ∙ ap (λ (vs : List Value). begun l.code p.entry r.f vs p.fuel size) of ∙ ap (begun l.code p.entry r.f p.args p.fuel) same ∙ sym r.way.from in
    record {
      run = r;
      code = code;
      keepable = subst (IsKeepable l) (sym state) (state_keepable l r.f p r.way.count r.way.state r.is r.way.are);
      goes = λ n. ap (λ s. live_machine l.code (steps l.code most_calls n (Running s))) state;
    }

text_cells : (asked : ℕ) (l : Licensed) (p : Plan) (made : ℕ) (text : List ℕ) → (r : HasRun asked l p made (Some text)) → length r.way.from.told.cells ≡ p.lease
text_cells asked l p made text r = ap (λ (s : Configuration). length s.cells) r.way.from.same ∙ state_cells l r.f p r.way.count r.way.state r.is r.way.are

right_text : (asked : ℕ) (l : Licensed) (p : Plan) (made : ℕ) (text : List ℕ) (size : ℕ) → (r : HasRun asked l p made (Some text)) → size ≡ p.lease
    → IsRight l text size (kept l.code r.way.from.told)
right_text asked l p made text size r same =
    let t = r.way.from in
    let formed = kept_formed l t.told r.is.licensed t.keepable t.formed in
    let text_is : IsText image_format text (image_of (kept l.code t.told)) = record { is = sym t.is; right = formed } in
    subst (λ n. IsRight l text n (kept l.code t.told)) (text_cells asked l p made text r ∙ sym same)
    (kept_right l text t.told r.is.licensed t.keepable t.unlent t.four text_is)

-- nothing is wrong with the text that it goes on from
pub no_fault_in : (asked : ℕ) (l : Licensed) (p : Plan) (made : ℕ) (text : List ℕ) (size : ℕ) → HasRun asked l p made (Some text) → size ≡ p.lease → HasNoFault l text size
no_fault_in asked l p made text size r same = record { s = kept l.code r.way.from.told; right = right_text asked l p made text size r same }

-- it goes on
pub ready_again : (asked : ℕ) (l : Licensed) (p : Plan) (made : ℕ) (text : List ℕ) (m : MachineView) (size : ℕ) → (r : HasRun asked l p made (Some text)) → m.code ≡ l.code → size ≡ p.lease
    → IsKeepable l m.state → ((s : Saved) → IsRight l text size s → m.state ≡ configuration_of l.code s) → IsReady asked l p made (Some text) m
ready_again asked l p made text m size r code same keepable is =
    let state : m.state ≡ configuration_of l.code (kept l.code r.way.from.told) = is (kept l.code r.way.from.told) (right_text asked l p made text size r same) in
    record {
      run = r;
      code = code;
      keepable = keepable;
      goes = λ n. ap (λ s. live_machine l.code (steps l.code most_calls n (Running s))) state
          ∙ goes_again l r.way.from.told r.way.state r.is.licensed r.way.from.keepable (state_keepable l r.f p r.way.count r.way.state r.is r.way.are) r.way.from.same n;
    }

pub never_faulty : (fault : Stop ImageFault) (told : ImageFault) → fault ≡ Memory → fault ≡ Fault told → ⊥
never_faulty fault told e g = let k : Memory ≡ Fault told = sym e ∙ g in absurd cc

-- ---- with the text of an image

pub image_faultless : (asked : ℕ) (l : Licensed) (p : Plan) (made : ℕ) (image : Option (List ℕ)) (text : List ℕ) (size : ℕ) → HasRun asked l p made image → image ≡ Some text → size ≡ p.lease
    → HasNoFault l text size
image_faultless asked l p made image text size r is same = no_fault_in asked l p made text size (subst (HasRun asked l p made) is r) same
