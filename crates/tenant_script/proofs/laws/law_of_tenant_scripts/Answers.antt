use Rattle.std.proofs.Common.{arith}
use Rattle.text_lines.specs.FormatLaws.{faults_one}
use Rattle.text_lines.specs.ReadingLaws.{no_fault, values_one, each_judged}
use Rattle.tenant_script.specs.Text.{tenants_format}
use Rattle.tenant_script.specs.Reading.{tenants_machine}
use Rattle.tenant_script.specs.StateLaws.{tenants_shows, right_script}
use Rattle.tenant_script.proofs.Answering.{faults_apart}
use Rattle.tenant_script.proofs.Deciding.{tenants_decides}
use Rattle.tenant_script.proofs.laws.law_of_tenant_scripts.Goals as goal

pub returns-clause-one : goal.returns-clause-one
returns-clause-one c = values_one tenants_machine tenants_shows

pub returns-clause-right : goal.returns-clause-right
returns-clause-right c = λ text s h. right_script s h.right

pub returns-clause-judged : goal.returns-clause-judged
returns-clause-judged c = each_judged tenants_machine tenants_shows tenants_decides

pub returns-clause-line : goal.returns-clause-line
returns-clause-line c = λ text m n h k. (faults_one tenants_format text 0 0 m n (omega arith) (omega arith) h k).line

pub returns-clause-count : goal.returns-clause-count
returns-clause-count c = λ text m n h k. (faults_one tenants_format text 1 1 m n (omega arith) (omega arith) h k).line

pub returns-clause-repeat : goal.returns-clause-repeat
returns-clause-repeat c = λ text m n h k. (faults_one tenants_format text 2 2 m n (omega arith) (omega arith) h k).line

pub returns-clause-tenant : goal.returns-clause-tenant
returns-clause-tenant c = λ text m n h k. (faults_one tenants_format text 3 3 m n (omega arith) (omega arith) h k).line

pub returns-clause-line_count : goal.returns-clause-line_count
returns-clause-line_count c = λ text m n h k. faults_apart text 0 1 m n (omega arith) (omega arith) h k

pub returns-clause-line_repeat : goal.returns-clause-line_repeat
returns-clause-line_repeat c = λ text m n h k. faults_apart text 0 2 m n (omega arith) (omega arith) h k

pub returns-clause-line_tenant : goal.returns-clause-line_tenant
returns-clause-line_tenant c = λ text m n h k. faults_apart text 0 3 m n (omega arith) (omega arith) h k

pub returns-clause-count_repeat : goal.returns-clause-count_repeat
returns-clause-count_repeat c = λ text m n h k. faults_apart text 1 2 m n (omega arith) (omega arith) h k

pub returns-clause-count_tenant : goal.returns-clause-count_tenant
returns-clause-count_tenant c = λ text m n h k. faults_apart text 1 3 m n (omega arith) (omega arith) h k

pub returns-clause-repeat_tenant : goal.returns-clause-repeat_tenant
returns-clause-repeat_tenant c = λ text m n h k. faults_apart text 2 3 m n (omega arith) (omega arith) h k

pub returns-clause-right_line : goal.returns-clause-right_line
returns-clause-right_line c = λ text s n. no_fault tenants_machine tenants_shows text s 0 n (omega arith)

pub returns-clause-right_count : goal.returns-clause-right_count
returns-clause-right_count c = λ text s n. no_fault tenants_machine tenants_shows text s 1 n (omega arith)

pub returns-clause-right_repeat : goal.returns-clause-right_repeat
returns-clause-right_repeat c = λ text s n. no_fault tenants_machine tenants_shows text s 2 n (omega arith)

pub returns-clause-right_tenant : goal.returns-clause-right_tenant
returns-clause-right_tenant c = λ text s n. no_fault tenants_machine tenants_shows text s 3 n (omega arith)
