use Rattle.certificate.specs.TextLaws.{texts_one, line_faults_one, number_faults_one, faults_apart, no_line_fault, no_number_fault}
use Rattle.certificate.proofs.laws.law_of_texts.Goals as goal

pub returns-clause-one : goal.returns-clause-one
returns-clause-one c = texts_one

pub returns-clause-line : goal.returns-clause-line
returns-clause-line c = line_faults_one

pub returns-clause-number : goal.returns-clause-number
returns-clause-number c = number_faults_one

pub returns-clause-apart : goal.returns-clause-apart
returns-clause-apart c = faults_apart

pub returns-clause-right_line : goal.returns-clause-right_line
returns-clause-right_line c = no_line_fault

pub returns-clause-right_number : goal.returns-clause-right_number
returns-clause-right_number c = no_number_fault
