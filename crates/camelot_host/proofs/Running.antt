-- What the host promises, wherever a run ends.
use Rattle.std.proofs.Common.{◌≡◌, ℕ, ◌+◌, ◌≤◌, true, false, List, [], length, Option, refl, arith}
use Rattle.std.specs.Io.KnownBytes.{IsAtEnd}
use Rattle.host_io.specs.Counts.{Rose}
use Rattle.host_io.specs.Source.{Took, TookAtMost, TookExactly}
use Rattle.camelot_host.specs.Commands.{Command, IsCommand, IsNoCommand, reads}
use Rattle.camelot_host.specs.Answers.{input_limit, devices, Quiet, SinkFaults}
use Rattle.camelot_host.specs.Hosted.{seen, Hosted}
use Rattle.camelot_host.specs.Replies.{Responds}
use Rattle.camelot_host.specs.declared.status.Status.{Status}
use Rattle.camelot_host.specs.declared.status.Status.TheVariants as status
use Rattle.camelot_host.proofs.Answering.{answers_of, answers_unread, completes, completes_unread, no_more, no_rise, no_usage, not_long, not_long_unread, source_steady, unread}
use Rattle.camelot_host.proofs.Leaving.{untouched, none_told}

module _ {S K : Type 0} (words : List (List ℕ)) (s s' : S) (k k' : K) (l l' t t' : Option (List ℕ)) (n n' f f' g g' : ℕ) where
  -- the words spell no command
  pub not_hosted : IsNoCommand words → Hosted status.Usage words (seen s k (devices l n t) f g) (seen s k (devices l n t) f g)
  not_hosted none = record {
    answers = untouched l t n;
    usage = (λ e. none, λ h. refl);
    untouched = λ e. (refl, refl);
    unread = λ command h q. refl;
    quiet = refl;
    source_faults = refl;
    sink_faults = refl;
    too_long = λ room. (λ e. absurd cc, λ e. absurd (omega (arith, e)));
    complete = λ command input h i few a b c d. absurd (none command h);
  }

  -- a command that reads nothing did its work
  pub hosted_unread : (ended : Status) (command : Command) → IsCommand words command → reads command ≡ false → Responds ended command [] t t'
      → SinkFaults ended g g' → Quiet ended k k' → Hosted ended words (seen s k (devices l n t) f g) (seen s k' (devices l n t') f g')
  hosted_unread ended command h q r sink still = record {
    answers = answers_unread ended words command l t t' n h q r;
    usage = (λ e. absurd (no_usage ended command [] t t' r e), λ none. absurd (none command h));
    untouched = λ e. absurd (no_usage ended command [] t t' r e);
    unread = λ other o p. refl;
    quiet = still;
    source_faults = source_steady ended command [] t t' f f r refl;
    sink_faults = sink;
    too_long = not_long_unread ended command t t' n r;
    complete = λ other input o i few a b c d. completes_unread ended words other command input l t t' g g' h q r sink o i c d;
  }

  -- one that reads did its work on the whole input
  pub hosted_read : (ended : Status) (command : Command) (input : List ℕ) → IsCommand words command → reads command ≡ true
      → Responds ended command input t t' → SinkFaults ended g g' → Quiet ended k k' → Took l l' n n' input → IsAtEnd l' → length input ≤ input_limit → f' ≡ f
      → Hosted ended words (seen s k (devices l n t) f g) (seen s' k' (devices l' n' t') f' g')
  hosted_read ended command input h q r sink still took end within steady = record {
    answers = answers_of ended words command input l l' t t' n n' h q r took end within;
    usage = (λ e. absurd (no_usage ended command input t t' r e), λ none. absurd (none command h));
    untouched = λ e. absurd (no_usage ended command input t t' r e);
    unread = λ other o p. unread words command other s s' h q o p;
    quiet = still;
    source_faults = source_steady ended command input t t' f f' r steady;
    sink_faults = sink;
    too_long = not_long ended command input l l' t t' n n' r took within;
    complete = λ other whole o i few a b c d. completes ended words other command whole input l l' t t' n n' g g' h q r took end sink o i c d;
  }

  -- the source failed
  pub hosted_fault : (command : Command) → IsCommand words command → reads command ≡ true → TookAtMost input_limit l l' n n' → Rose f f'
      → Hosted status.ReadFault words (seen s k (devices l n t) f g) (seen s' k (devices l' n' t) f' g)
  hosted_fault command h q gone rose = record {
    answers = record { gone = gone; silent = none_told t };
    usage = (λ e. absurd cc, λ none. absurd (none command h));
    untouched = λ e. absurd cc;
    unread = λ other o p. unread words command other s s' h q o p;
    quiet = refl;
    source_faults = rose;
    sink_faults = refl;
    too_long = λ room. (λ e. absurd cc, λ e. absurd (omega (arith, e, room, gone.within, gone.took.counted)));
    complete = λ other input o i few a b c d. absurd (no_rise f f' rose a b);
  }

  -- there was no memory for the input
  pub hosted_memory : (command : Command) → IsCommand words command → reads command ≡ true → TookAtMost input_limit l l' n n' → f' ≡ f
      → Hosted status.Memory words (seen s k (devices l n t) f g) (seen s' k (devices l' n' t) f' g)
  hosted_memory command h q gone steady = record {
    answers = record { gone = gone; silent = none_told t };
    usage = (λ e. absurd cc, λ none. absurd (none command h));
    untouched = λ e. absurd cc;
    unread = λ other o p. unread words command other s s' h q o p;
    quiet = refl;
    source_faults = steady;
    sink_faults = refl;
    too_long = λ room. (λ e. absurd cc, λ e. absurd (omega (arith, e, room, gone.within, gone.took.counted)));
    complete = λ other input o i few a b c d. none_told t;
  }

  -- the input was too long
  pub hosted_long : (command : Command) → IsCommand words command → reads command ≡ true → TookExactly (input_limit + 1) l l' n n' → f' ≡ f
      → Hosted status.TooLong words (seen s k (devices l n t) f g) (seen s' k (devices l' n' t) f' g)
  hosted_long command h q gone steady = record {
    answers = record { gone = gone; silent = none_told t };
    usage = (λ e. absurd cc, λ none. absurd (none command h));
    untouched = λ e. absurd cc;
    unread = λ other o p. unread words command other s s' h q o p;
    quiet = refl;
    source_faults = steady;
    sink_faults = refl;
    too_long = λ room. (λ e. omega (arith, room, gone.number, gone.took.counted), λ e. refl);
    complete = λ other input o i few a b c d. absurd (no_more words command other input l l' n n' input_limit h q gone o i few);
  }
