-- What a bundle that is accepted grants: no run's peak is above its bound.
use Rattle.std.proofs.Common.{◌≡◌, ℕ, ◌≤◌, List, [], ◌∷◌, length, Option, Some, None, refl}
use Rattle.std.specs.Prelude.{slice_get, IsSomeAnd}
use Rattle.std.specs.List.{AllByRecursion}
use Rattle.camelot_values.specs.Value.{Value}
use Rattle.camelot_values.specs.Outcome.{peak_of}
use Rattle.camelot_values.specs.Kinds.{Constructor, DataType, IsConstructor, IsDataType, AreTypes}
use Rattle.camelot_values.specs.Typing.{ArgumentsFit}
use Rattle.grail_code.specs.Code.{Func, Code}
use Rattle.grail_code.specs.Meaning.{run_of}
use Rattle.grail_code.specs.Soundness.{HaveBlocks}
use Rattle.grail_code.specs.Spelling.{Format, FitsCon, FitsType, FitsFunc, FitsCode}
use Rattle.licence.specs.Bound.{bound}
use Rattle.licence.specs.Licensed.{Licensed, FitsEntry}
use Rattle.licence.specs.PotentialLaws.{peak_bound}
use Rattle.grail_verifier.specs.Accepted.{IsAccepted}
use Rattle.camelot_host.specs.Commands.{Verify}
use Rattle.camelot_host.specs.Due.{Done, IsDue}

-- ---- what has a spelling is within the limits of types, and its functions have blocks

are_constructors : (cs : List Constructor) → AllByRecursion FitsCon cs → AllByRecursion IsConstructor cs
are_constructors [] h = tt
are_constructors (c ∷ cs) h = (record { few_fields = h.0.fields.few; inline_is_bare = h.0.inline_is_bare }, are_constructors cs h.1)

are_data_types : (ts : List DataType) → AllByRecursion FitsType ts → AllByRecursion IsDataType ts
are_data_types [] h = tt
are_data_types (t ∷ ts) h = (record { some_cons = h.0.cons.enough; few_cons = h.0.cons.few; each = are_constructors t.cons h.0.cons.each }, are_data_types ts h.1)

are_types : {f : Format} (p : Code) → FitsCode f p → AreTypes p.types
are_types p h = record { few_types = h.types.few; each = are_data_types p.types h.types.each }

have_blocks : {f : Format} (p : Code) → FitsCode f p → HaveBlocks p
have_blocks {f} p h = all p.funcs h.funcs.each
  where
    all : (gs : List Func) → AllByRecursion (FitsFunc f) gs → AllByRecursion (λ g. 1 ≤ length g.blocks) gs
    all [] h = tt
    all (g ∷ gs) h = (h.0.blocks.enough, all gs h.1)

-- ---- bounds

-- this is said of the function of this number, where there is one
abbrev OfFunc : (Func → Type 0) → Option Func → Type 0
OfFunc P o = (f : Func) → o ≡ Some f → P f

of_entry : (P : Type 0) (fits : Func → Type 0) (o : Option Func) → IsSomeAnd o fits → OfFunc (λ f. fits f → P) o → P
of_entry P fits None h each = absurd h
of_entry P fits (Some f) h each = each f refl h

peak_within : (code cert : List ℕ) (l : Licensed) → IsAccepted code cert l → (limit entry fuel : ℕ) (args : List Value) → FitsEntry l entry args
    → peak_of (run_of l.code limit entry fuel args) ≤ bound l.code l.cert entry args
peak_within code cert l h limit entry fuel args fit =
    of_entry (peak_of (run_of l.code limit entry fuel args) ≤ bound l.code l.cert entry args) (λ f. ArgumentsFit l.code.types f.params args) (slice_get l.code.funcs entry) fit
    (λ f is fits. peak_bound l.code l.cert h.well (have_blocks l.code h.spelled.fits) (are_types l.code h.spelled.fits) h.granted.pays limit entry fuel args f is fits)

pub within_bound : (input output : List ℕ) (due : IsDue Verify input Done output) (limit entry fuel : ℕ) (args : List Value) → FitsEntry due.licence entry args
    → peak_of (run_of due.licence.code limit entry fuel args) ≤ bound due.licence.code due.licence.cert entry args
within_bound input output due limit entry fuel args fit = peak_within due.has.bundle.code due.has.bundle.cert due.licence due.has.accepted limit entry fuel args fit
