use Rattle.grail_code.proofs.decoder.reader.+number.Given as goal

abbrev pub decreases-number : goal.decreases-number
decreases-number l = l.more
