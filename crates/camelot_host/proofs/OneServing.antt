-- What is answered and what is left behind are of one input with one output.
use Rattle.std.proofs.Common.{◌≡◌, ℕ, List, ◌++◌, Some, sym, ◌∙◌, subst}
use Rattle.std.specs.Io.KnownBytes.{Consumes}
use Rattle.std.proofs.lemmas.List.{append_cancel_left, append_cancel_right}
use Rattle.cell_span.specs.Range.{Range}
use Rattle.host_io.specs.Sink.{Tells}
use Rattle.script_service.specs.Service.{IsReportIn}
use Rattle.camelot_host.specs.Commands.{Command, Serve, Compile, Verify, Migrate, Tenants, Sliced, Drill, reads}
use Rattle.camelot_host.specs.CommandLaws.{one_command}
use Rattle.camelot_host.specs.Due.{Done}
use Rattle.camelot_host.specs.Answers.{Devices, HasRead, Answered}
use Rattle.camelot_host.specs.Served.{Leaves, LeftBehind}
use Rattle.camelot_host.specs.OneServing.{TellBytes}

-- only `serve` leaves an arena
leaves_serve : (c : Command) (input output : List ℕ) (arena : Range) → Leaves c input output (Some arena) → c ≡ Serve
leaves_serve Serve input output arena h = λ i. Serve
leaves_serve Compile input output arena h = absurd cc
leaves_serve Verify input output arena h = absurd cc
leaves_serve Migrate input output arena h = absurd cc
leaves_serve Tenants input output arena h = absurd cc
leaves_serve (Sliced steps) input output arena h = absurd cc
leaves_serve (Drill jobs workers) input output arena h = absurd cc

one_input : (before after : Devices) → TellBytes before after → (first second : List ℕ) → Consumes before.left after.left first → Consumes before.left after.left second → first ≡ second
one_input before after t first second h k =
    let a : t.left ≡ first ++ t.rest = subst (λ o. Consumes (Some t.left) o first) t.rest_is (subst (λ o. Consumes o after.left first) t.left_is h) in
    let b : t.left ≡ second ++ t.rest = subst (λ o. Consumes (Some t.left) o second) t.rest_is (subst (λ o. Consumes o after.left second) t.left_is k) in
    append_cancel_right first second t.rest (sym a ∙ b)

one_output : (before after : Devices) → TellBytes before after → (first second : List ℕ) → Tells before.told after.told first → Tells before.told after.told second → first ≡ second
one_output before after t first second h k =
    let a : t.new ≡ t.old ++ first = subst (λ o. Tells (Some t.old) o first) t.new_is (subst (λ o. Tells o after.told first) t.old_is h) in
    let b : t.new ≡ t.old ++ second = subst (λ o. Tells (Some t.old) o second) t.new_is (subst (λ o. Tells o after.told second) t.old_is k) in
    append_cancel_left t.old first second (sym a ∙ b)

left_in : (before after : Devices) → TellBytes before after → (c : Command) → c ≡ Serve → (input output wanted told : List ℕ) (arena : Range)
    → HasRead (reads c) before after input → HasRead (reads c) before after wanted → Tells before.told after.told output → Tells before.told after.told told
    → Leaves c input output (Some arena) → IsReportIn wanted told arena
left_in before after t c e input output wanted told arena read want whole tell leaves =
    let r = subst (λ (x : Command). HasRead (reads x) before after input) e read in
    let w = subst (λ (x : Command). HasRead (reads x) before after wanted) e want in
    let l = subst (λ (x : Command). Leaves x input output (Some arena)) e leaves in
    subst (λ i. IsReportIn i told arena) (one_input before after t input wanted r.took.gone w.took.gone)
    (subst (λ o. IsReportIn input o arena) (one_output before after t output told whole tell) l)

pub answered_in : (words : List (List ℕ)) (before after : Devices) (arena : Range) → TellBytes before after → (a : Answered words Done before after)
    → LeftBehind words before after (Some arena) → IsReportIn a.input a.told.output arena
answered_in words before after arena t a l =
    let same : l.command ≡ a.command = one_command words l.command a.command l.spelled a.spelled in
    let serve : l.command ≡ Serve = leaves_serve l.command l.input l.output arena l.leaves in
    left_in before after t l.command serve l.input l.output a.input a.told.output arena l.read
    (subst (λ (c : Command). HasRead (reads c) before after a.input) (sym same) a.read) l.whole a.told.whole l.leaves

left_twice : (before after : Devices) → TellBytes before after → (words : List (List ℕ)) (first second : Range) (l : LeftBehind words before after (Some first))
    → LeftBehind words before after (Some second) → IsReportIn l.input l.output second
left_twice before after t words first second l m =
    let same : m.command ≡ l.command = one_command words m.command l.command m.spelled l.spelled in
    left_in before after t m.command (leaves_serve m.command m.input m.output second m.leaves) m.input m.output l.input l.output second m.read
    (subst (λ (c : Command). HasRead (reads c) before after l.input) (sym same) l.read) m.whole l.whole m.leaves

pub one_left : ((input output : List ℕ) (first second : Range) → IsReportIn input output first → IsReportIn input output second → first.cells ≡ second.cells)
    → (words : List (List ℕ)) (before after : Devices) (first second : Range) → TellBytes before after → LeftBehind words before after (Some first)
    → LeftBehind words before after (Some second) → first.cells ≡ second.cells
one_left cells words before after first second t l m =
    cells l.input l.output first second (left_twice before after t words first first l l) (left_twice before after t words first second l m)
