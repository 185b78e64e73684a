-- The reader of a tenant script: programs, starts and finishes.
use Rattle.std.proofs.Common.{◌≡◌, ℕ, zero, suc, ◌+◌, ◌<◌, ◌≤◌, true, false, List, [], ◌∷◌, ◌++◌, length, map, take, drop, Some, None, Bor, refl, sym, ap, ◌∙◌, subst, arith, append-nil, length-append, length-drop}
use Rattle.std.specs.Prelude.{codes, ◌==◌, vec_len}
use Rattle.std.specs.Global.{Vec}
use Rattle.std.proofs.lemmas.Bool.Decides.{nat_tests}
use Rattle.std.specs.Str.{bytes_eq}
use Rattle.camelot_values.specs.Names.{AreDistinct, stands}
use Rattle.text_lines.specs.Lines.{text_of_lines}
use Rattle.text_lines.specs.Machines.{IsNext}
use Rattle.text_lines.specs.Cuts.{and_then, word_of, IsCut}
use Rattle.text_lines.specs.OptionLaws.{true_false}
use Rattle.text_lines.specs.FrontLaws.{all_append, all_last, no_rest}
use Rattle.text_lines.specs.Answers.{KindIs}
use Rattle.job_script.specs.Scripts.{Job, IsUpTo}
use Rattle.job_script.specs.Reading.{is_word, job_of, program_of, Head as JobHead, HProgram as JHProgram, HJob, HeadFits, IsStopped}
use Rattle.job_script.specs.HeadLaws.{program_found}
use Rattle.job_script.specs.Steps.{IsAdded, IsRefused as NameIsRefused}
use Rattle.job_script.specs.DemandLaws.{distinct_more, distinct_not}
use Rattle.job_script.specs.declared.stop.LineStop.{LineStop}
use Rattle.job_script.specs.declared.stop.LineStop.TheVariants as stop
use Rattle.job_script.specs.declared.types.Language.{Language}
use Rattle.tenant_script.specs.Tenants.{Entry, AStart, AFinish, TenantScript, program_names, start_count, finish_count, EntryIsWithin, IsWithin, tenant_names, HasOnce, IsOf, HasTenants}
use Rattle.tenant_script.specs.Reading.{Head, HProgram, HStart, HFinish, as_program, start_of, head_of, Between, Inside, script_by, add, program_by, is_empty, enter, text_step, step, closed, tenants_machine}
use Rattle.tenant_script.specs.StateLaws.{programs_append, starts_append, finishes_append, within_backward, once_backward, known_backward}
use Rattle.tenant_script.specs.Words.{tenant_view, entry_view}
use Rattle.tenant_script.specs.Parts.{refused_of, state_by, state_of, IsRest, StageIsReady, IsBefore, IsTaken, IsLeft}
use Rattle.tenant_script.specs.declared.fault.Kind.TheVariants as kind
use Rattle.tenant_script.specs.declared.types.Tenant.{Tenant as DeclaredTenant}
use Rattle.tenant_script.specs.declared.types.TenantEntry.{TenantEntry as DeclaredEntry}
use Rattle.tenant_script.specs.declared.reading.Stage.{Stage}
use Rattle.tenant_script.specs.declared.reading.Stage.TheVariants as stage
use Rattle.tenant_script.specs.declared.reading.TenantReader.{TenantReader}
use Rattle.tenant_script.proofs.Taking.{tenants, entries, script, much, repeated, absent, goes_on, step_at, right_at, ready_at, programs_at}
use Rattle.tenant_script.proofs.Heading.{no_call, some_call}
use Rattle.std.proofs.lemmas.List.{map-append}

-- ---- one more entry

-- the limits with one more entry
record MayCome (s : TenantScript) (e : Entry) : Type 0 where
  fuel : EntryIsWithin e
  programs : length (program_names s.items ++ program_names (e ∷ [])) ≤ 64
  starts : start_count s.items + start_count (e ∷ []) ≤ 4096
  finishes : finish_count s.items + finish_count (e ∷ []) ≤ 4096

within_more : (s : TenantScript) (e : Entry) → IsWithin s → MayCome s e → IsWithin (add s e)
within_more s e w m = record {
  arena = w.arena;
  cells = w.cells;
  budgets = w.budgets;
  tenants = w.tenants;
  fuels = all_append EntryIsWithin s.items (e ∷ []) w.fuels (m.fuel, tt);
  programs = subst (λ l. length l ≤ 64) (sym (programs_append s.items (e ∷ []))) m.programs;
  starts = omega (arith, m.starts, starts_append s.items (e ∷ []));
  finishes = omega (arith, m.finishes, finishes_append s.items (e ∷ []));
}

-- without another program
once_more : (s : TenantScript) (e : Entry) → HasOnce s → program_names (e ∷ []) ≡ [] → HasOnce (add s e)
once_more s e o h = record {
  tenants = o.tenants;
  programs = subst AreDistinct (sym (programs_append s.items (e ∷ []) ∙ ap (λ l. program_names s.items ++ l) h ∙ append-nil (program_names s.items))) o.programs;
}

known_more : (s : TenantScript) (e : Entry) → HasTenants s → IsOf (tenant_names s.tenants) e → HasTenants (add s e)
known_more s e k h = all_append (IsOf (tenant_names s.tenants)) s.items (e ∷ []) k (h, tt)

-- a line that goes on between two entries
head_step : (r : TenantReader) (line : List ℕ) (h : Head) → r.stage ≡ stage.Between → head_of line ≡ Some h → step (state_of r) line ≡ enter (script r) h
head_step r line h e f = step_at r stage.Between line e ∙ ap (λ o. and_then o (enter (script r))) f

pub no_step : (r : TenantReader) (line : List ℕ) → r.stage ≡ stage.Between → head_of line ≡ None → step (state_of r) line ≡ None
no_step r line e f = step_at r stage.Between line e ∙ ap (λ o. and_then o (enter (script r))) f

-- ---- a program

abbrev first_byte : List ℕ → ℕ
first_byte [] = 0
first_byte (b ∷ bs) = b

pub program_stopped : (s : LineStop) (r : TenantReader) (line after rest : List ℕ) → r.stage ≡ stage.Between → head_of line ≡ and_then (program_of rest) as_program
    → IsStopped (program_of rest) HeadFits s → KindIs (IsLeft r line) (refused_of s)
program_stopped stop.Line r line after rest e f h = no_step r line e (f ∙ ap (λ o. and_then o as_program) h)
program_stopped stop.Count r line after rest e f h = absurd (by_head h.x h.is h.wide)
  where
    by_head : (x : JobHead) → program_of rest ≡ Some x → (HeadFits x → ⊥) → ⊥
    by_head (JHProgram name language) is wide = wide tt
    by_head (HJob j) is wide = let q : 112 ≡ 106 = ap first_byte (program_found rest (HJob j) is).1 in absurd (omega (arith, q))
program_stopped stop.Repeat r line after rest e f h = absurd h
program_stopped stop.Memory r line after rest e f h = tt

pub other_program : (r : TenantReader) (line rest : List ℕ) (j : Job) → r.stage ≡ stage.Between → head_of line ≡ and_then (program_of rest) as_program
    → program_of rest ≡ Some (HJob j) → step (state_of r) line ≡ None
other_program r line rest j e f h = no_step r line e (f ∙ ap (λ o. and_then o as_program) h)

pub some_program : (line rest name : List ℕ) (language : Language) → head_of line ≡ and_then (program_of rest) as_program
    → program_of rest ≡ Some (JHProgram name language) → head_of line ≡ Some (HProgram name language)
some_program line rest name language f h = f ∙ ap (λ o. and_then o as_program) h

program_within : (r : TenantReader) (line after name : List ℕ) (language : Language) → r.stage ≡ stage.Between → IsBefore r line after → length r.programs < 64
    → IsWithin (add (script r) (program_by name language []))
program_within r line after name language e b few =
    let right = right_at r stage.Between line after e b in
    let names = programs_at r stage.Between line after e b in
    within_more (script r) (program_by name language []) right.0.0.1 (record {
      fuel = tt;
      programs = omega (arith, few, ap length names, length-append (program_names (entries r)) (name ∷ []));
      starts = omega (arith, right.0.0.1.starts);
      finishes = omega (arith, right.0.0.1.finishes);
    })

pub program_named : (s : LineStop) (r : TenantReader) (line after name : List ℕ) (language : Language) → r.stage ≡ stage.Between → IsBefore r line after
    → head_of line ≡ Some (HProgram name language) → NameIsRefused 64 r.programs name s → KindIs (IsLeft r line) (refused_of s)
program_named stop.Line r line after name language e b f n = absurd n
program_named stop.Count r line after name language e b f n =
    let names = programs_at r stage.Between line after e b in
    much r line after (Inside (script r) name language []) b (head_step r line (HProgram name language) e f)
    (λ w. absurd (omega (arith, n, w.programs, ap length names, ap length (programs_append (entries r) (program_by name language [] ∷ [])), length-append (program_names (entries r)) (name ∷ []))))
program_named stop.Repeat r line after name language e b f n =
    let names = programs_at r stage.Between line after e b in
    repeated r line after (Inside (script r) name language []) b (head_step r line (HProgram name language) e f) (program_within r line after name language e b n.few)
    (λ o. distinct_not (program_names (entries r)) name (subst (λ l. stands l name ≡ true) names n.old) (subst AreDistinct (programs_append (entries r) (program_by name language [] ∷ [])) o.programs))
program_named stop.Memory r line after name language e b f n = tt

pub program_opened : (r : TenantReader) (names : List (List ℕ)) (line : List ℕ) (after name : Bor (List ℕ)) (language : Language) → r.stage ≡ stage.Between
    → IsBefore r line after.now → length after.now < 4294967296 → head_of line ≡ Some (HProgram name.now language) → IsAdded 64 r.programs name.now names
    → IsTaken r (record r { stage = stage.Inside name language after 0; programs = names }) line after.now
program_opened r names line after name language e b short f n =
    let right = right_at r stage.Between line after.now e b in
    let old = programs_at r stage.Between line after.now e b in
    let more : program_names (entries r ++ program_by name.now language [] ∷ []) ≡ program_names (entries r) ++ name.now ∷ [] = programs_append (entries r) (program_by name.now language [] ∷ []) in
    record {
      next = goes_on r line after.now (Inside (script r) name.now language []) b (head_step r line (HProgram name.now language) e f) (program_within r line after.now name.now language e b n.few) (record {
        tenants = right.0.1.tenants;
        programs = subst AreDistinct (sym more) (distinct_more (program_names (entries r)) name.now right.0.1.programs (subst (λ l. stands l name.now ≡ false) old n.new));
      }) (known_more (script r) (program_by name.now language []) right.1 tt);
      ready = record {
        stage = record { is = refl; fits = omega arith; short = short };
        kept = record {
          left = b.ready.kept.left;
          names = b.ready.kept.names;
          programs = n.is ∙ ap (λ l. l ++ name.now ∷ []) old ∙ sym more;
          starts = b.ready.kept.starts;
          finishes = b.ready.kept.finishes;
        };
      };
    }

-- ---- a start

start_step : (r : TenantReader) (line tenant : List ℕ) (j : Job) → r.stage ≡ stage.Between → head_of line ≡ Some (HStart tenant j)
    → step (state_of r) line ≡ Some (Between (add (script r) (AStart tenant j)))
start_step r line tenant j e f = head_step r line (HStart tenant j) e f

-- what is behind the tenant is no call
pub start_stopped : (s : LineStop) (r : TenantReader) (line after rest tenant call : List ℕ) → r.stage ≡ stage.Between → IsBefore r line after → head_of line ≡ start_of rest
    → IsCut (word_of rest) tenant call → is_word tenant ≡ true → IsStopped (job_of call) HeadFits s → KindIs (IsLeft r line) (refused_of s)
start_stopped stop.Line r line after rest tenant call e b f p w h = no_step r line e (f ∙ no_call rest tenant call p w h)
start_stopped stop.Count r line after rest tenant call e b f p w h = by_head h.x h.is h.wide
  where
    by_head : (x : JobHead) → job_of call ≡ Some x → (HeadFits x → ⊥) → IsLeft r line kind.Count
    by_head (JHProgram name language) is wide = absurd (wide tt)
    by_head (HJob j) is wide =
        much r line after (Between (add (script r) (AStart tenant j))) b (start_step r line tenant j e (f ∙ some_call rest tenant call j p w is)) (λ k. wide (all_last EntryIsWithin (entries r) (AStart tenant j) k.fuels))
start_stopped stop.Repeat r line after rest tenant call e b f p w h = absurd h
start_stopped stop.Memory r line after rest tenant call e b f p w h = tt

pub start_much : (r : TenantReader) (line after tenant : List ℕ) (j : Job) → r.stage ≡ stage.Between → IsBefore r line after → head_of line ≡ Some (HStart tenant j)
    → 4096 ≤ r.starts → IsLeft r line kind.Count
start_much r line after tenant j e b f h =
    much r line after (Between (add (script r) (AStart tenant j))) b (start_step r line tenant j e f) (λ w. absurd (omega (arith, h, b.ready.kept.starts, w.starts, starts_append (entries r) (AStart tenant j ∷ []))))

start_within : (r : TenantReader) (line after tenant : List ℕ) (j : Job) → r.stage ≡ stage.Between → IsBefore r line after → IsUpTo 1099511627776 j.fuel → r.starts < 4096
    → IsWithin (add (script r) (AStart tenant j))
start_within r line after tenant j e b k few =
    let right = right_at r stage.Between line after e b in
    within_more (script r) (AStart tenant j) right.0.0.1 (record {
      fuel = k;
      programs = subst (λ l. length l ≤ 64) (sym (append-nil (program_names (entries r)))) right.0.0.1.programs;
      starts = omega (arith, few, b.ready.kept.starts);
      finishes = omega (arith, right.0.0.1.finishes);
    })

pub start_absent : (r : TenantReader) (line after tenant : List ℕ) (j : Job) → r.stage ≡ stage.Between → IsBefore r line after → head_of line ≡ Some (HStart tenant j)
    → IsUpTo 1099511627776 j.fuel → r.starts < 4096 → stands (tenant_names (tenants r)) tenant ≡ false → IsLeft r line kind.Tenant
start_absent r line after tenant j e b f k few none =
    let right = right_at r stage.Between line after e b in
    absent r line after (Between (add (script r) (AStart tenant j))) b (start_step r line tenant j e f) (start_within r line after tenant j e b k few) (once_more (script r) (AStart tenant j) right.0.1 refl)
    (λ h. true_false (stands (tenant_names (tenants r)) tenant) (all_last (IsOf (tenant_names (tenants r))) (entries r) (AStart tenant j) h) none)

pub start_taken : (r : TenantReader) (items : Vec DeclaredEntry) (line after tenant : List ℕ) (j : Job) → r.stage ≡ stage.Between → IsBefore r line after
    → head_of line ≡ Some (HStart tenant j) → IsUpTo 1099511627776 j.fuel → r.starts < 4096 → stands (tenant_names (tenants r)) tenant ≡ true
    → map entry_view items.items ≡ entries r ++ AStart tenant j ∷ [] → IsTaken r (record r { items = items; starts = r.starts + 1 }) line after
start_taken r items line after tenant j e b f k few there more =
    let right = right_at r stage.Between line after e b in
    let now : state_of (record r { items = items; starts = r.starts + 1 }) ≡ Between (add (script r) (AStart tenant j)) =
    ap (λ s. state_by s r.arena (tenants r) (map entry_view items.items)) e ∙ ap (λ es. Between (script_by r.arena (tenants r) es)) more in
    record {
      next = subst (IsNext tenants_machine (state_of r) line) (sym now) (goes_on r line after (Between (add (script r) (AStart tenant j))) b (start_step r line tenant j e f) (start_within r line after tenant j e b k few)
          (once_more (script r) (AStart tenant j) right.0.1 refl) (known_more (script r) (AStart tenant j) right.1 there));
      ready = record {
        stage = subst (λ s. StageIsReady s (tenants r) (map entry_view items.items) after) (sym e) tt;
        kept = record {
          left = b.ready.kept.left;
          names = b.ready.kept.names;
          programs = programs_at r stage.Between line after e b ∙ sym (ap (λ s. program_names (closed s).items) now ∙ programs_append (entries r) (AStart tenant j ∷ []) ∙ append-nil (program_names (entries r)));
          starts = omega (arith, b.ready.kept.starts, ap start_count more, starts_append (entries r) (AStart tenant j ∷ []));
          finishes = omega (arith, b.ready.kept.finishes, ap finish_count more, finishes_append (entries r) (AStart tenant j ∷ []));
        };
      };
    }

-- ---- a finish

finish_step : (r : TenantReader) (line tenant name : List ℕ) → r.stage ≡ stage.Between → head_of line ≡ Some (HFinish tenant name)
    → step (state_of r) line ≡ Some (Between (add (script r) (AFinish tenant name)))
finish_step r line tenant name e f = head_step r line (HFinish tenant name) e f

pub finish_much : (r : TenantReader) (line after tenant name : List ℕ) → r.stage ≡ stage.Between → IsBefore r line after → head_of line ≡ Some (HFinish tenant name)
    → 4096 ≤ r.finishes → IsLeft r line kind.Count
finish_much r line after tenant name e b f h =
    much r line after (Between (add (script r) (AFinish tenant name))) b (finish_step r line tenant name e f) (λ w. absurd (omega (arith, h, b.ready.kept.finishes, w.finishes, finishes_append (entries r) (AFinish tenant name ∷ []))))

finish_within : (r : TenantReader) (line after tenant name : List ℕ) → r.stage ≡ stage.Between → IsBefore r line after → r.finishes < 4096
    → IsWithin (add (script r) (AFinish tenant name))
finish_within r line after tenant name e b few =
    let right = right_at r stage.Between line after e b in
    within_more (script r) (AFinish tenant name) right.0.0.1 (record {
      fuel = tt;
      programs = subst (λ l. length l ≤ 64) (sym (append-nil (program_names (entries r)))) right.0.0.1.programs;
      starts = omega (arith, right.0.0.1.starts);
      finishes = omega (arith, few, b.ready.kept.finishes);
    })

pub finish_absent : (r : TenantReader) (line after tenant name : List ℕ) → r.stage ≡ stage.Between → IsBefore r line after → head_of line ≡ Some (HFinish tenant name)
    → r.finishes < 4096 → stands (tenant_names (tenants r)) tenant ≡ false → IsLeft r line kind.Tenant
finish_absent r line after tenant name e b f few none =
    let right = right_at r stage.Between line after e b in
    absent r line after (Between (add (script r) (AFinish tenant name))) b (finish_step r line tenant name e f) (finish_within r line after tenant name e b few) (once_more (script r) (AFinish tenant name) right.0.1 refl)
    (λ h. true_false (stands (tenant_names (tenants r)) tenant) (all_last (IsOf (tenant_names (tenants r))) (entries r) (AFinish tenant name) h) none)

pub finish_taken : (r : TenantReader) (items : Vec DeclaredEntry) (line after tenant name : List ℕ) → r.stage ≡ stage.Between → IsBefore r line after
    → head_of line ≡ Some (HFinish tenant name) → r.finishes < 4096 → stands (tenant_names (tenants r)) tenant ≡ true
    → map entry_view items.items ≡ entries r ++ AFinish tenant name ∷ [] → IsTaken r (record r { items = items; finishes = r.finishes + 1 }) line after
finish_taken r items line after tenant name e b f few there more =
    let right = right_at r stage.Between line after e b in
    let now : state_of (record r { items = items; finishes = r.finishes + 1 }) ≡ Between (add (script r) (AFinish tenant name)) =
    ap (λ s. state_by s r.arena (tenants r) (map entry_view items.items)) e ∙ ap (λ es. Between (script_by r.arena (tenants r) es)) more in
    record {
      next = subst (IsNext tenants_machine (state_of r) line) (sym now) (goes_on r line after (Between (add (script r) (AFinish tenant name))) b (finish_step r line tenant name e f) (finish_within r line after tenant name e b few)
          (once_more (script r) (AFinish tenant name) right.0.1 refl) (known_more (script r) (AFinish tenant name) right.1 there));
      ready = record {
        stage = subst (λ s. StageIsReady s (tenants r) (map entry_view items.items) after) (sym e) tt;
        kept = record {
          left = b.ready.kept.left;
          names = b.ready.kept.names;
          programs = programs_at r stage.Between line after e b ∙ sym (ap (λ s. program_names (closed s).items) now ∙ programs_append (entries r) (AFinish tenant name ∷ []) ∙ append-nil (program_names (entries r)));
          starts = omega (arith, b.ready.kept.starts, ap start_count more, starts_append (entries r) (AFinish tenant name ∷ []));
          finishes = omega (arith, b.ready.kept.finishes, ap finish_count more, finishes_append (entries r) (AFinish tenant name ∷ []));
        };
      };
    }

-- ---- the text of a program

take_on : (k size : ℕ) (block line after : List ℕ) → k ≡ size + length line + 1 → drop size block ≡ line ++ 10 ∷ after
    → (take k block ≡ take size block ++ (line ++ 10 ∷ [])) × (drop k block ≡ after)
take_on zero size block line after h e = absurd (omega (arith, h))
take_on (suc k) zero block [] after h e =
    let z : k ≡ 0 = omega (arith, h) in
    (ap (take (suc k)) e ∙ ap (λ n. 10 ∷ take n after) z, ap (drop (suc k)) e ∙ ap (λ n. drop n after) z)
take_on (suc k) zero block (x ∷ line) after h e =
    let d = take_on k zero (line ++ 10 ∷ after) line after (omega (arith, h)) refl in
    (ap (take (suc k)) e ∙ ap (λ l. x ∷ l) d.0, ap (drop (suc k)) e ∙ d.1)
take_on (suc k) (suc size) [] line after h e = absurd (no_rest line after (sym e))
take_on (suc k) (suc size) (b ∷ block) line after h e =
    let d = take_on k size block line after (omega (arith, h)) e in
    (ap (λ l. b ∷ l) d.0, d.1)

rest_on : (line after block : List ℕ) (size : ℕ) → IsRest block size (line ++ 10 ∷ after) → IsRest block (size + length line + 1) after
rest_on line after block size k = record {
  is = (take_on (size + length line + 1) size block line after refl k.is).1;
  fits = omega (arith, k.fits, length-drop size block, ap length k.is, length-append line (10 ∷ after));
  short = k.short;
}

pub text_on : (r : TenantReader) (line after : List ℕ) (name : Bor (List ℕ)) (language : Language) (block : Bor (List ℕ)) (size : ℕ) → r.stage ≡ stage.Inside name language block size
    → IsBefore r line after → bytes_eq line (codes ".") ≡ false
    → IsTaken r (record r { stage = stage.Inside name language block (size + length line + 1) }) line after
text_on r line after name language block size e b d =
    let on : Stage = stage.Inside name language block size in
    let text : List ℕ = take size block.now in
    let longer : List ℕ = take (size + length line + 1) block.now in
    let right = right_at r on line after e b in
    let rest = ready_at r on line after e b in
    let same : text ++ text_of_lines (line ∷ []) ≡ longer = ap (λ l. text ++ l) (append-nil (line ++ 10 ∷ [])) ∙ sym (take_on (size + length line + 1) size block.now line after refl rest.is).0 in
    let is : step (state_of r) line ≡ Some (Inside (script r) name.now language longer) =
    step_at r on line e ∙ ap (λ b. Some (text_step (script r) name.now language text line b)) d ∙ ap (λ t. Some (Inside (script r) name.now language t)) same in
    record {
      next = goes_on r line after (Inside (script r) name.now language longer) b is (within_backward.text (script r) name.now language longer text right.0.0.1) (once_backward.text (script r) name.now language longer text right.0.1)
          (known_backward.text (script r) name.now language longer text right.1);
      ready = record {
        stage = rest_on line after block.now size rest;
        kept = record {
          left = b.ready.kept.left;
          names = b.ready.kept.names;
          programs = programs_at r on line after e b ∙ programs_append (entries r) (program_by name.now language text ∷ []) ∙ sym (programs_append (entries r) (program_by name.now language longer ∷ []));
          starts = b.ready.kept.starts;
          finishes = b.ready.kept.finishes;
        };
      };
    }

pub text_ended : (r : TenantReader) (items : Vec DeclaredEntry) (line after : List ℕ) (name : Bor (List ℕ)) (language : Language) (block : Bor (List ℕ)) (size : ℕ)
    → r.stage ≡ stage.Inside name language block size → IsBefore r line after → bytes_eq line (codes ".") ≡ true
    → map entry_view items.items ≡ entries r ++ program_by name.now language (take size block.now) ∷ []
    → IsTaken r (record r { stage = stage.Between; items = items }) line after
text_ended r items line after name language block size e b d more =
    let on : Stage = stage.Inside name language block size in
    let text : List ℕ = take size block.now in
    let right = right_at r on line after e b in
    let is : step (state_of r) line ≡ Some (Between (add (script r) (program_by name.now language text))) =
    step_at r on line e ∙ ap (λ b. Some (text_step (script r) name.now language text line b)) d in
    record {
      next = subst (λ es. IsNext tenants_machine (state_of r) line (Between (script_by r.arena (tenants r) es))) (sym more)
          (goes_on r line after (Between (add (script r) (program_by name.now language text))) b is right.0.0.1 right.0.1 right.1);
      ready = record {
        stage = tt;
        kept = record {
          left = b.ready.kept.left;
          names = b.ready.kept.names;
          programs = programs_at r on line after e b ∙ ap program_names (sym more);
          starts = omega (arith, b.ready.kept.starts, ap start_count more, starts_append (entries r) (program_by name.now language text ∷ []));
          finishes = omega (arith, b.ready.kept.finishes, ap finish_count more, finishes_append (entries r) (program_by name.now language text ∷ []));
        };
      };
    }

pub items_more : (old new : List DeclaredEntry) (entry : DeclaredEntry) (e : Entry) → new ≡ old ++ entry ∷ [] → entry_view entry ≡ e
    → map entry_view new ≡ map entry_view old ++ e ∷ []
items_more old new entry e h k = ap (map entry_view) h ∙ map-append entry_view old (entry ∷ []) ∙ ap (λ x. map entry_view old ++ x ∷ []) k

pub tenants_more : (old new : List DeclaredTenant) (t : DeclaredTenant) → new ≡ old ++ t ∷ [] → map tenant_view new ≡ map tenant_view old ++ tenant_view t ∷ []
tenants_more old new t h = ap (map tenant_view) h ∙ map-append tenant_view old (t ∷ [])

-- no entry yet
pub none_yet : (items : Vec DeclaredEntry) → (vec_len items == 0) ≡ true → map entry_view items.items ≡ []
none_yet items h = by_items items.items (ap (λ n. n == 0) (sym items.ok.0) ∙ h)
  where
    by_items : (es : List DeclaredEntry) → (length es == 0) ≡ true → map entry_view es ≡ []
    by_items [] k = refl
    by_items (e ∷ es) k = absurd (true_false (suc (length es) == 0) k (grind (arith, nat_tests)))

pub some_yet : (items : Vec DeclaredEntry) → (vec_len items == 0) ≡ false → is_empty (map entry_view items.items) ≡ false
some_yet items h = by_items items.items (ap (λ n. n == 0) (sym items.ok.0) ∙ h)
  where
    by_items : (es : List DeclaredEntry) → (length es == 0) ≡ false → is_empty (map entry_view es) ≡ false
    by_items [] k = absurd (true_false (0 == 0) refl k)
    by_items (e ∷ es) k = refl
