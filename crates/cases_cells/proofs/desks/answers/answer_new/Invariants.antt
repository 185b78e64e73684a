use Rattle.cases_cells.proofs.desks.answers.answer_new.Given as goal

abbrev pub ghosts-answer_on : goal.ghosts-answer_on
ghosts-answer_on a = record { arena = a.span.arena; sizes = a.sizes.items }
