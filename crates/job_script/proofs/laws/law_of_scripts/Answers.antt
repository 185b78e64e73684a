use Rattle.std.proofs.Common.{arith}
use Rattle.text_lines.specs.FormatLaws.{faults_one}
use Rattle.text_lines.specs.ReadingLaws.{no_fault, values_one, each_judged}
use Rattle.job_script.specs.Text.{script_format}
use Rattle.job_script.specs.Reading.{script_machine}
use Rattle.job_script.specs.StateLaws.{script_shows}
use Rattle.job_script.proofs.Answering.{faults_apart}
use Rattle.job_script.proofs.Deciding.{script_decides}
use Rattle.job_script.proofs.laws.law_of_scripts.Goals as goal

pub returns-clause-one : goal.returns-clause-one
returns-clause-one c = values_one script_machine script_shows

pub returns-clause-judged : goal.returns-clause-judged
returns-clause-judged c = each_judged script_machine script_shows script_decides

pub returns-clause-line : goal.returns-clause-line
returns-clause-line c = λ text m n h k. (faults_one script_format text 0 0 m n (omega arith) (omega arith) h k).line

pub returns-clause-count : goal.returns-clause-count
returns-clause-count c = λ text m n h k. (faults_one script_format text 1 1 m n (omega arith) (omega arith) h k).line

pub returns-clause-repeat : goal.returns-clause-repeat
returns-clause-repeat c = λ text m n h k. (faults_one script_format text 2 2 m n (omega arith) (omega arith) h k).line

pub returns-clause-line_count : goal.returns-clause-line_count
returns-clause-line_count c = λ text m n h k. faults_apart text 0 1 m n (omega arith) (omega arith) h k

pub returns-clause-line_repeat : goal.returns-clause-line_repeat
returns-clause-line_repeat c = λ text m n h k. faults_apart text 0 2 m n (omega arith) (omega arith) h k

pub returns-clause-count_repeat : goal.returns-clause-count_repeat
returns-clause-count_repeat c = λ text m n h k. faults_apart text 1 2 m n (omega arith) (omega arith) h k

pub returns-clause-right_line : goal.returns-clause-right_line
returns-clause-right_line c = λ text s n. no_fault script_machine script_shows text s 0 n (omega arith)

pub returns-clause-right_count : goal.returns-clause-right_count
returns-clause-right_count c = λ text s n. no_fault script_machine script_shows text s 1 n (omega arith)

pub returns-clause-right_repeat : goal.returns-clause-right_repeat
returns-clause-right_repeat c = λ text s n. no_fault script_machine script_shows text s 2 n (omega arith)
