use Rattle.std.proofs.Common.{sym}
use Rattle.pause_image.specs.BackLaws.{kept_right}
use Rattle.pause_image.specs.FormLaws.{kept_formed}
use Rattle.pause_image.proofs.laws.law_of_resuming.Goals as goal

pub returns-clause-image : goal.returns-clause-image
returns-clause-image c = λ l text s kept can four formed is. record { text = record { is = sym is; right = kept_formed l s kept can formed }; four = four }

pub returns-clause-right : goal.returns-clause-right
returns-clause-right c = λ l text s kept can lends image. kept_right l text s kept can lends image.four image.text
