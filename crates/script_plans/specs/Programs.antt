-- Cited by contracts.
-- What a program is, by its language: its text, its licence, and what its calls mean.
use Rattle.std.specs.Prelude.{◌≡◌, ℕ, if◌then◌else◌, List, [], ◌∷◌, map, Option, Some, None}
use Rattle.std.specs.Str.{bytes_eq}
use Rattle.camelot_values.specs.Value.{Value}
use Rattle.camelot_values.specs.Kinds.{DataType}
use Rattle.camelot_values.specs.Outcome.{Outcome}
use Rattle.camelot_values.specs.declared.kinds.Kind.{Kind}
use Rattle.camelot_tree.specs.Meaning as source
use Rattle.camelot_typing.specs.Kinds.{types_of}
use Rattle.camelot_typing.specs.Typed.{Typing}
use Rattle.grail_code.specs.Code.{Code}
use Rattle.grail_code.specs.Meaning as code
use Rattle.licence.specs.Licensed.{Licensed}
use Rattle.cell_machine.specs.State.{most_calls}
use Rattle.cause_texts.specs.declared.cause.Cause.{Cause}
use Rattle.camelot_compiler.specs.Compiled.{IsCompiled, Refused}
use Rattle.camelot_compiler.specs.Licences.{IsLicence}
use Rattle.bundle_licence.specs.Bundled as bundle
use Rattle.job_script.specs.Scripts.{Program, Entry, AProgram, AJob}
use Rattle.job_script.specs.declared.types.Language.{Language}
use Rattle.job_script.specs.declared.types.Language.TheVariants.{Camelot, Grail}

-- ---- texts

-- the text of a program: a source in Camelot, or a bundle of Grail code and its certificate
pub data ProgramText : Type 0 where
  CamelotText : List ℕ → ProgramText
  GrailText : List ℕ → ProgramText

-- the text in its language
abbrev pub text_in : (language : Language) → List ℕ → ProgramText
text_in Camelot text = CamelotText text
text_in Grail text = GrailText text

-- that of a program of a script
abbrev pub program_of : Program → ProgramText
program_of p = text_in p.language p.text

-- that of the first program of this name among these entries
abbrev pub program_named : List Entry → (name : List ℕ) → Option ProgramText
program_named [] name = None
program_named (AProgram p ∷ entries) name = if bytes_eq p.name name then Some (program_of p) else program_named entries name
program_named (AJob j ∷ entries) name = program_named entries name

-- ---- meanings

-- what the calls of a program mean: by its source, typed so, or by its code
pub data Meaning : Type 0 where
  OfSource : Typing → Meaning
  OfCode : Code → Meaning

-- the names of its functions, in order
abbrev pub function_names : Meaning → List (List ℕ)
function_names (OfSource t) = map (λ f. f.name.word) t.source.funs
function_names (OfCode p) = map (λ f. f.name) p.funcs

-- the kinds of their parameters, in the same order
abbrev pub function_params : Meaning → List (List Kind)
function_params (OfSource t) = map (λ s. s.params) t.signatures
function_params (OfCode p) = map (λ f. f.params) p.funcs

-- the types of its values
abbrev pub value_types : Meaning → List DataType
value_types (OfSource t) = types_of t.source
value_types (OfCode p) = p.types

-- what the call of a function on these arguments comes to with so much fuel
abbrev pub run_by : Meaning → (entry fuel : ℕ) → List Value → Outcome Value
run_by (OfSource t) entry fuel args = source.run_of t.source most_calls entry fuel args
run_by (OfCode p) entry fuel args = code.run_of p most_calls entry fuel args

-- ---- licences

-- Of a source: its program is compiled, and the verifier accepts code and certificate from their bytes alone. Its calls
-- mean what the program means, typed as it was for this.
pub record IsSourceLicence (text : List ℕ) (l : Licensed) (m : Meaning) : Type 0 where
  pub is : IsLicence text l
  pub means : m ≡ OfSource is.typing

-- Of a bundle: the verifier accepts the bytes of its code and of its certificate, with this licence. Its calls mean
-- what the licence's code means.
pub record IsBundleLicence (text : List ℕ) (l : Licensed) (m : Meaning) : Type 0 where
  pub has : bundle.HasLicence text l
  pub means : m ≡ OfCode l.code

-- The program has this licence, and its calls mean this. This is the one place that says what the licence of a program
-- is.
abbrev pub IsLicenceOf : ProgramText → Licensed → Meaning → Type 0
IsLicenceOf (CamelotText text) l m = IsSourceLicence text l m
IsLicenceOf (GrailText text) l m = IsBundleLicence text l m

-- The program is refused for this cause, and so has no licence: a source, for the first cause there is; a bundle, for
-- the first wrong line of its text, where it is no bundle's, or for the verifier's refusal.
abbrev pub IsRefusedFor : ProgramText → Cause → Type 0
IsRefusedFor (CamelotText text) cause = IsCompiled text (Refused cause)
IsRefusedFor (GrailText text) cause = bundle.IsRefusedFor text cause
