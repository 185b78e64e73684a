-- What reading, working and writing come to together.
use Rattle.std.proofs.Common.{◌≡◌, ℕ, ◌+◌, ◌<◌, ◌≤◌, Bool, true, false, List, [], length, Option, Some, None, ◌++◌, refl, sym, ap, ◌∙◌, subst, arith}
use Rattle.std.proofs.lemmas.List.{append-nil, length-append}
use Rattle.std.specs.Io.KnownBytes.{Consumes, IsAtEnd}
use Rattle.host_io.specs.Counts.{last_count, Rose}
use Rattle.host_io.specs.Source.{Took, TookExactly}
use Rattle.camelot_host.specs.Commands.{Command, IsCommand, IsInputBy, IsInput, reads}
use Rattle.camelot_host.specs.CommandLaws.{one_command}
use Rattle.camelot_host.specs.Due.{Verdict, Done, Refused, IsDue}
use Rattle.camelot_host.specs.Answers.{input_limit, Devices, ReadWhole, ReadNothing, HasRead, devices, Answers, Quiet, SourceFaults, SinkFaults, Completes}
use Rattle.camelot_host.specs.Replies.{Writes, Responds}
use Rattle.camelot_host.specs.declared.status.Status.{Status}
use Rattle.camelot_host.specs.declared.status.Status.TheVariants as status

some_is : {A : Type 0} (x y : A) → Some x ≡ Some y → x ≡ y
some_is x y h = cc

-- what is due was told by the status of its verdict, or a front of it
pub responds : (s : Status) (v : Verdict) (command : Command) (input output : List ℕ) (t t' : Option (List ℕ)) → IsDue command input v output
    → Writes s v output t t' → Responds s command input t t'
responds status.Ok Done command input output t t' due w = record { output = output; due = due; whole = w }
responds status.Ok Refused command input output t t' due w = absurd w
responds status.Refused Done command input output t t' due w = absurd w
responds status.Refused Refused command input output t t' due w = record { output = output; due = due; whole = w }
responds status.WriteFault v command input output t t' due w = record { verdict = v; output = output; due = due; front = w }
responds status.Memory v command input output t t' due w = absurd w
responds status.ReadFault v command input output t t' due w = absurd w
responds status.Usage v command input output t t' due w = absurd w
responds status.TooLong v command input output t t' due w = absurd w

-- where something was written, nothing is said of the sink
pub written_quiet : {K : Type 0} (s : Status) (v : Verdict) (output : List ℕ) (t t' : Option (List ℕ)) (old new : K) → Writes s v output t t' → Quiet s old new
written_quiet status.Ok v output t t' old new w = tt
written_quiet status.Refused v output t t' old new w = tt
written_quiet status.WriteFault v output t t' old new w = tt
written_quiet status.Memory v output t t' old new w = absurd w
written_quiet status.ReadFault v output t t' old new w = absurd w
written_quiet status.Usage v output t t' old new w = absurd w
written_quiet status.TooLong v output t t' old new w = absurd w

-- what was read whole is the input of a command that reads
pub has_read : (command : Command) (before after : Devices) (input : List ℕ) → reads command ≡ true → ReadWhole before after input
    → HasRead (reads command) before after input
has_read command before after input e h = subst (λ b. HasRead b before after input) (sym e) h

-- and nothing is that of one that doesn't
pub has_not_read : (command : Command) (before after : Devices) (input : List ℕ) → reads command ≡ false → ReadNothing before after input
    → HasRead (reads command) before after input
has_not_read command before after input e h = subst (λ b. HasRead b before after input) (sym e) h

-- the same words spell a command of the same sort
also : (words : List (List ℕ)) (own command : Command) (b : Bool) → IsCommand words own → reads own ≡ b → IsCommand words command → reads command ≡ b
also words own command b spelled e again = subst (λ (c : Command). reads c ≡ b) (one_command words own command spelled again) e

-- where the source tells its input, that is the command's
told_input : (command : Command) (left : Option (List ℕ)) (input : List ℕ) → reads command ≡ true → IsInput command left input → left ≡ Some input
told_input command left input e h = subst (λ b. IsInputBy b left input) e h

no_input : (command : Command) (left : Option (List ℕ)) (input : List ℕ) → reads command ≡ false → IsInput command left input → input ≡ []
no_input command left input e h = subst (λ b. IsInputBy b left input) e h

-- a source of which a command took nothing is as it was: this one reads
pub unread : {S : Type 0} (words : List (List ℕ)) (own command : Command) (old new : S) → IsCommand words own → reads own ≡ true
    → IsCommand words command → reads command ≡ false → new ≡ old
unread words own command old new spelled e again h = let q : true ≡ false = sym (also words own command true spelled e again) ∙ h in absurd cc

pub answers_of : (s : Status) (words : List (List ℕ)) (command : Command) (input : List ℕ) (l l' t t' : Option (List ℕ)) (n n' : ℕ)
    → IsCommand words command → reads command ≡ true → Responds s command input t t'
    → Took l l' n n' input → IsAtEnd l' → length input ≤ input_limit → Answers s words (devices l n t) (devices l' n' t')
answers_of status.Ok words command input l l' t t' n n' c q r k e h = record { command = command; spelled = c; input = input; read = has_read command (devices l n t) (devices l' n' t') input q (record { took = k; at_end = e; within = h }); told = r }
answers_of status.Refused words command input l l' t t' n n' c q r k e h = record { command = command; spelled = c; input = input; read = has_read command (devices l n t) (devices l' n' t') input q (record { took = k; at_end = e; within = h }); told = r }
answers_of status.WriteFault words command input l l' t t' n n' c q r k e h = record { command = command; spelled = c; input = input; read = has_read command (devices l n t) (devices l' n' t') input q (record { took = k; at_end = e; within = h }); told = r }
answers_of status.Memory words command input l l' t t' n n' c q r k e h = record { gone = record { bytes = input; within = h; took = k }; silent = r }
answers_of status.ReadFault words command input l l' t t' n n' c q r k e h = absurd r
answers_of status.Usage words command input l l' t t' n n' c q r k e h = absurd r
answers_of status.TooLong words command input l l' t t' n n' c q r k e h = absurd r

-- a count that has room doesn't rise and stay
pub no_rise : (f f' : ℕ) → Rose f f' → f < last_count → f' ≡ f → ⊥
no_rise f f' r room same = omega (arith, r, room, same)

too_many : (input bytes : List ℕ) (l l' : Option (List ℕ)) (limit : ℕ) → length bytes ≡ limit + 1 → Consumes l l' bytes → l ≡ Some input
    → length input ≤ limit → ⊥
too_many input bytes None l' limit size c h within = absurd cc
too_many input bytes (Some xs) None limit size c h within = absurd c
too_many input bytes (Some xs) (Some ys) limit size c h within =
    let whole : length input ≡ length bytes + length ys = ap length (sym (some_is xs input h) ∙ c) ∙ length-append bytes ys in
    omega (arith, whole, size, within)

-- what was read to the end of a source that told its input is that input
same_input : (l l' : Option (List ℕ)) (input bytes : List ℕ) → l ≡ Some input → Consumes l l' bytes → IsAtEnd l' → bytes ≡ input
same_input None l' input bytes e c h = absurd cc
same_input (Some xs) None input bytes e c h = absurd c
same_input (Some xs) (Some ys) input bytes e c h = sym (append-nil bytes) ∙ ap (λ r. bytes ++ r) (sym h) ∙ sym c ∙ some_is xs input e

-- where no sink failed, what was told for a command is whole
told_whole : (s : Status) (command : Command) (input : List ℕ) (t t' : Option (List ℕ)) (g g' : ℕ) → Responds s command input t t'
    → SinkFaults s g g' → g < last_count → g' ≡ g → Completes s command input t t'
told_whole status.Ok command input t t' g g' r f room same = r
told_whole status.Refused command input t t' g g' r f room same = r
told_whole status.WriteFault command input t t' g g' r f room same = absurd (no_rise g g' f room same)
told_whole status.Memory command input t t' g g' r f room same = r
told_whole status.ReadFault command input t t' g g' r f room same = absurd r
told_whole status.Usage command input t t' g g' r f room same = absurd r
told_whole status.TooLong command input t t' g g' r f room same = absurd r

-- what was told for the command that the words spell, and the bytes that were read
pub completes : (s : Status) (words : List (List ℕ)) (command own : Command) (input bytes : List ℕ) (l l' t t' : Option (List ℕ)) (n n' g g' : ℕ)
    → IsCommand words own → reads own ≡ true → Responds s own bytes t t'
    → Took l l' n n' bytes → IsAtEnd l' → SinkFaults s g g' → IsCommand words command → IsInput command l input → g < last_count → g' ≡ g → Completes s command input t t'
completes s words command own input bytes l l' t t' n n' g g' spelled q r k e f again h room same =
    let r' = subst (λ b. Responds s own b t t') (same_input l l' input bytes (told_input command l input (also words own command true spelled q again) h) k.gone e) r in
    told_whole s command input t t' g g' (subst (λ d. Responds s d input t t') (one_command words own command spelled again) r') f room same

-- more than the whole input can't be taken
pub no_more : (words : List (List ℕ)) (own command : Command) (input : List ℕ) (l l' : Option (List ℕ)) (n n' limit : ℕ) → IsCommand words own
    → reads own ≡ true → TookExactly (limit + 1) l l' n n' → IsCommand words command → IsInput command l input → length input ≤ limit → ⊥
no_more words own command input l l' n n' limit spelled q k again h within =
    too_many input k.bytes l l' limit k.number k.took.gone (told_input command l input (also words own command true spelled q again) h) within

pub no_usage : (s : Status) (command : Command) (input : List ℕ) (t t' : Option (List ℕ)) → Responds s command input t t' → s ≡ status.Usage → ⊥
no_usage s command input t t' r e = subst (λ x. Responds x command input t t') e r

no_long : (s : Status) (command : Command) (input : List ℕ) (t t' : Option (List ℕ)) → Responds s command input t t' → s ≡ status.TooLong → ⊥
no_long s command input t t' r e = subst (λ x. Responds x command input t t') e r

pub not_long : (s : Status) (command : Command) (input : List ℕ) (l l' t t' : Option (List ℕ)) (n n' : ℕ) → Responds s command input t t'
    → Took l l' n n' input → length input ≤ input_limit → n + input_limit < last_count
    → (s ≡ status.TooLong → n' ≡ n + (input_limit + 1)) × (n' ≡ n + (input_limit + 1) → s ≡ status.TooLong)
not_long s command input l l' t t' n n' r k h room = let c = k.counted in (λ e. absurd (no_long s command input t t' r e), λ e. absurd (omega arith))

pub source_steady : (s : Status) (command : Command) (input : List ℕ) (t t' : Option (List ℕ)) (f f' : ℕ) → Responds s command input t t' → f' ≡ f
    → SourceFaults s f f'
source_steady status.Ok command input t t' f f' r e = e
source_steady status.Refused command input t t' f f' r e = e
source_steady status.WriteFault command input t t' f f' r e = e
source_steady status.Memory command input t t' f f' r e = e
source_steady status.ReadFault command input t t' f f' r e = absurd r
source_steady status.Usage command input t t' f f' r e = e
source_steady status.TooLong command input t t' f f' r e = e

-- ---- a command that reads nothing

none_taken : (l : Option (List ℕ)) → Consumes l l []
none_taken None = tt
none_taken (Some xs) = refl

pub answers_unread : (s : Status) (words : List (List ℕ)) (command : Command) (l t t' : Option (List ℕ)) (n : ℕ) → IsCommand words command
    → reads command ≡ false → Responds s command [] t t' → Answers s words (devices l n t) (devices l n t')
answers_unread status.Ok words command l t t' n c q r = record { command = command; spelled = c; input = []; read = has_not_read command (devices l n t) (devices l n t') [] q (record { left = refl; taken = refl; empty = refl }); told = r }
answers_unread status.Refused words command l t t' n c q r = record { command = command; spelled = c; input = []; read = has_not_read command (devices l n t) (devices l n t') [] q (record { left = refl; taken = refl; empty = refl }); told = r }
answers_unread status.WriteFault words command l t t' n c q r = record { command = command; spelled = c; input = []; read = has_not_read command (devices l n t) (devices l n t') [] q (record { left = refl; taken = refl; empty = refl }); told = r }
answers_unread status.Memory words command l t t' n c q r = record { gone = record { bytes = []; within = omega arith; took = record { gone = none_taken l; counted = omega arith } }; silent = r }
answers_unread status.ReadFault words command l t t' n c q r = absurd r
answers_unread status.Usage words command l t t' n c q r = absurd r
answers_unread status.TooLong words command l t t' n c q r = absurd r

pub not_long_unread : (s : Status) (command : Command) (t t' : Option (List ℕ)) (n : ℕ) → Responds s command [] t t' → n + input_limit < last_count
    → (s ≡ status.TooLong → n ≡ n + (input_limit + 1)) × (n ≡ n + (input_limit + 1) → s ≡ status.TooLong)
not_long_unread s command t t' n r room = (λ e. absurd (no_long s command [] t t' r e), λ e. absurd (omega (arith, e)))

pub completes_unread : (s : Status) (words : List (List ℕ)) (command own : Command) (input : List ℕ) (l t t' : Option (List ℕ)) (g g' : ℕ)
    → IsCommand words own → reads own ≡ false → Responds s own [] t t' → SinkFaults s g g'
    → IsCommand words command → IsInput command l input → g < last_count → g' ≡ g → Completes s command input t t'
completes_unread s words command own input l t t' g g' spelled q r f again h room same =
    let empty : input ≡ [] = no_input command l input (also words own command false spelled q again) h in
    let r' = subst (λ (c : Command). Responds s c [] t t') (one_command words own command spelled again) r in
    told_whole s command input t t' g g' (subst (λ b. Responds s command b t t') (sym empty) r') f room same
