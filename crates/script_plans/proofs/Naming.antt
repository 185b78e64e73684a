-- The code of a licence does what the calls of its program mean. Of compiled code: its functions are those of the
-- source, the same names in order, with the parameters' kinds. The first one of a name is the same in both, and
-- constructors have upper names.
use Rattle.std.proofs.Common.{◌≡◌, ℕ, zero, suc, ◌<◌, Bool, true, false, List, [], ◌∷◌, ◌++◌, map, Some, None, refl, sym, ap, ◌∙◌, subst, arith}
use Rattle.std.specs.Prelude.{slice_get, if◌then◌else◌, Option}
use Rattle.std.specs.List.{AllByRecursion}
use Rattle.std.specs.Option.{option_map}
use Rattle.std.specs.Str.{bytes_eq}
use Rattle.std.proofs.lemmas.Option.{slice_get-map}
use Rattle.camelot_values.specs.Kinds.{DataType, Constructor}
use Rattle.camelot_values.specs.Names.{IsUpperName, place_among}
use Rattle.camelot_values.specs.NameLaws.{same_name, name_itself}
use Rattle.camelot_values.specs.Value.{Value}
use Rattle.camelot_values.specs.Typing.{ArgumentsFit}
use Rattle.camelot_tree.specs.Meaning as source
use Rattle.camelot_tree.specs.Tree.{Function, Source}
use Rattle.camelot_typing.specs.Kinds.{Globals, types_of}
use Rattle.camelot_values.specs.declared.kinds.Kind.{Kind}
use Rattle.camelot_typing.specs.Typing.{Signature, FunctionsFit, globals_of}
use Rattle.camelot_typing.specs.Typed.{IsTyping, Typing}
use Rattle.linear_use.specs.Answers.{KeepsRule}
use Rattle.grail_code.specs.Code.{Code, Func}
use Rattle.grail_code.specs.Meaning.{run_of}
use Rattle.grail_code.specs.ByName.{HasName, IsFirstNamed}
use Rattle.grail_code.specs.Spelling.{Format, Second, FitsCode, FitsType, FitsCon}
use Rattle.grail_code.specs.RangeLaws.{fits_second}
use Rattle.value_text.specs.Grammar.{AreNamed}
use Rattle.normal_form.specs.Normal.{normal_functions}
use Rattle.normal_form.specs.Coded.{BlockParams, coded}
use Rattle.code_gen.specs.Generated.{compiled, live_params}
use Rattle.licence.specs.Licensed.{Licensed}
use Rattle.camelot_compiler.specs.Licences.{HasLicence}
use Rattle.cell_machine.specs.State.{most_calls}
use Rattle.script_plans.specs.Programs.{ProgramText, CamelotText, GrailText, Meaning, OfSource, OfCode, function_names, function_params, value_types, run_by, IsLicenceOf}
use Rattle.script_plans.specs.Fates.{OfEntry, HasNoEntry}

-- ---- upper names

both : (cs : List Constructor) (ds : List Constructor) → AllByRecursion FitsCon cs → AllByRecursion (λ c. IsUpperName c.name) ds
    → AllByRecursion (λ c. IsUpperName c.name) (cs ++ ds)
both [] ds a b = b
both (c ∷ cs) ds a b = (a.0.name, both cs ds a.1 b)

all_named : (types : List DataType) → AllByRecursion FitsType types → AreNamed types
all_named [] a = tt
all_named (t ∷ types) a = both t.cons _ a.0.cons.each (all_named types a.1)

pub code_named : {f : Format} (p : Code) → FitsCode f p → AreNamed p.types
code_named p f = all_named p.types f.types.each

-- ---- the first of a name

pub first_place : (names : List (List ℕ)) (number : ℕ) (name : List ℕ) → slice_get names number ≡ Some name
    → ((earlier : ℕ) → earlier < number → slice_get names earlier ≡ Some name → ⊥)
    → place_among names name ≡ Some number
first_place [] number name e first = let c : None ≡ Some name = e in absurd cc
first_place (n ∷ names) zero name e first =
    let same : n ≡ name = cc in
    ap (λ b. if b then Some 0 else option_map suc (place_among names name)) (ap (λ m. bytes_eq m name) same ∙ name_itself name)
first_place (n ∷ names) (suc number) name e first = by_test (bytes_eq n name) refl (first_place names number name e (λ earlier less here. first (suc earlier) (omega (arith, less)) here))
  where
    by_test : (b : Bool) → bytes_eq n name ≡ b → place_among names name ≡ Some number
        → (if b then Some 0 else option_map suc (place_among names name)) ≡ Some (suc number)
    by_test true t go = absurd (first 0 (omega arith) (ap Some (same_name n name t)))
    by_test false t go = ap (option_map suc) go

pub no_place : (names : List (List ℕ)) (name : List ℕ) → ((number : ℕ) → slice_get names number ≡ Some name → ⊥) → place_among names name ≡ None
no_place [] name none = refl
no_place (n ∷ names) name none = by_test (bytes_eq n name) refl (no_place names name (λ number here. none (suc number) here))
  where
    by_test : (b : Bool) → bytes_eq n name ≡ b → place_among names name ≡ None → (if b then Some 0 else option_map suc (place_among names name)) ≡ None
    by_test true t go = absurd (none 0 (ap Some (same_name n name t)))
    by_test false t go = ap (option_map suc) go

-- ---- functions

same_names : (takes : BlockParams) (p : Source) (sigs : List Signature) (g : Globals Kind) (fs : List Function) (ss : List Signature) → FunctionsFit p g fs ss
    → map (λ f. f.name) (map (coded takes) (normal_functions p sigs fs ss)) ≡ map (λ f. f.name.word) fs
same_names takes p sigs g [] [] h = refl
same_names takes p sigs g [] (s ∷ ss) h = absurd h
same_names takes p sigs g (f ∷ fs) [] h = absurd h
same_names takes p sigs g (f ∷ fs) (s ∷ ss) h = ap (λ l. f.name.word ∷ l) (same_names takes p sigs g fs ss h.1)

-- the kinds of a function of this number
pub record IsSigned (ss : List Signature) (number : ℕ) (kinds : List Kind) : Type 0 where
  pub signature : Signature
  pub is : slice_get ss number ≡ Some signature
  pub params : kinds ≡ signature.params

signed : (takes : BlockParams) (p : Source) (sigs : List Signature) (fs : List Function) (ss : List Signature) (number : ℕ) (func : Func)
    → slice_get (map (coded takes) (normal_functions p sigs fs ss)) number ≡ Some func → IsSigned ss number func.params
signed takes p sigs [] ss number func e = let c : None ≡ Some func = e in absurd cc
signed takes p sigs (f ∷ fs) [] number func e = let c : None ≡ Some func = e in absurd cc
signed takes p sigs (f ∷ fs) (s ∷ ss) zero func e = record { signature = s; is = refl; params = sym (ap params_at e) }
  where
    params_at : Option Func → List Kind
    params_at None = []
    params_at (Some f) = f.params
signed takes p sigs (f ∷ fs) (s ∷ ss) (suc number) func e = let go = signed takes p sigs fs ss number func e in record { signature = go.signature; is = go.is; params = go.params }

-- the names of a licence's code
licence_names : (text : List ℕ) (t : Typing) (l : Licensed) → HasLicence text t l → map (λ f. f.name) l.code.funcs ≡ map (λ f. f.name.word) t.source.funs
licence_names text t l has =
    ap (λ (p : Code). map (λ (f : Func). f.name) p.funcs) has.code
    ∙ same_names live_params t.source t.signatures (globals_of t.source t.signatures) t.source.funs t.signatures has.typed.typed.functions

name_is : (p : Code) (number : ℕ) (name : List ℕ) → HasName p number name → slice_get (map (λ (f : Func). f.name) p.funcs) number ≡ Some name
name_is p number name h = slice_get-map (λ (f : Func). f.name) p.funcs number ∙ h

has_name : (p : Code) (number : ℕ) (name : List ℕ) → slice_get (map (λ (f : Func). f.name) p.funcs) number ≡ Some name → HasName p number name
has_name p number name e = sym (slice_get-map (λ (f : Func). f.name) p.funcs number) ∙ e

-- ---- what a licence's code has in common with the meaning of calls

-- the code of a typed program that keeps the rule means what the program means
abbrev pub MeansSame : Type 0
MeansSame = (t : Typing) (limit func fuel : ℕ) (args : List Value) (s : Signature) → IsTyping t → KeepsRule t → slice_get t.signatures func ≡ Some s
    → ArgumentsFit (types_of t.source) s.params args → run_of (compiled t) limit func fuel args ≡ source.run_of t.source limit func fuel args

-- The same functions in order, with parameters of the same kinds, over the same types; and each call on fitting
-- arguments comes to the same.
pub record Agrees (l : Licensed) (m : Meaning) : Type 0 where
  pub names : map (λ f. f.name) l.code.funcs ≡ function_names m
  pub params : (number : ℕ) (func : Func) → slice_get l.code.funcs number ≡ Some func → slice_get (function_params m) number ≡ Some func.params
  pub types : l.code.types ≡ value_types m
  pub same : (number fuel : ℕ) (func : Func) (args : List Value) → slice_get l.code.funcs number ≡ Some func → ArgumentsFit l.code.types func.params args
      → run_of l.code most_calls number fuel args ≡ run_by m number fuel args

source_signed : (text : List ℕ) (t : Typing) (l : Licensed) → HasLicence text t l → (number : ℕ) (func : Func)
    → slice_get l.code.funcs number ≡ Some func → IsSigned t.signatures number func.params
source_signed text t l has number func is = signed live_params t.source t.signatures t.source.funs t.signatures number func (subst (λ (p : Code). slice_get p.funcs number ≡ Some func) has.code is)

source_agrees : (text : List ℕ) (t : Typing) (l : Licensed) → MeansSame → HasLicence text t l → Agrees l (OfSource t)
source_agrees text t l means has = record {
  names = licence_names text t l has;
  params = λ number func is.
      let s = source_signed text t l has number func is in
      slice_get-map (λ (s : Signature). s.params) t.signatures number ∙ ap (option_map (λ (s : Signature). s.params)) s.is ∙ ap Some (sym s.params);
  types = ap (λ (p : Code). p.types) has.code;
  same = λ number fuel func args is fit.
      let s = source_signed text t l has number func is in
      let there : ArgumentsFit (types_of t.source) func.params args = subst (λ (ts : List DataType). ArgumentsFit ts func.params args) (ap (λ (p : Code). p.types) has.code) fit in
      ap (λ (p : Code). run_of p most_calls number fuel args) has.code
      ∙ means t most_calls number fuel args s.signature has.typed has.rule s.is (subst (λ (ks : List Kind). ArgumentsFit (types_of t.source) ks args) s.params there);
}

code_agrees : (l : Licensed) → Agrees l (OfCode l.code)
code_agrees l = record {
  names = refl;
  params = λ number func is. slice_get-map (λ (f : Func). f.params) l.code.funcs number ∙ ap (option_map (λ (f : Func). f.params)) is;
  types = refl;
  same = λ number fuel func args is fit. refl;
}

pub agrees : (p : ProgramText) (l : Licensed) (m : Meaning) → MeansSame → IsLicenceOf p l m → Agrees l m
agrees (CamelotText text) l m means h = subst (Agrees l) (sym h.means) (source_agrees text h.is.typing l means h.is.has)
agrees (GrailText text) l m means h = subst (Agrees l) (sym h.means) (code_agrees l)

-- the code of a licence has a spelling
pub spelled : (p : ProgramText) (l : Licensed) (m : Meaning) → IsLicenceOf p l m → FitsCode Second l.code
spelled (CamelotText text) l m h = h.is.has.spelled
spelled (GrailText text) l m h = fits_second h.has.accepted.spelled.format l.code h.has.accepted.spelled.fits

-- ---- entries

-- the first function of a name, of which this is said
pub entry_found : (p : ProgramText) (name : List ℕ) (m : Meaning) (l : Licensed) (number : ℕ) (func : Func) (Says : Meaning → Licensed → (entry : ℕ) → List Kind → Type 0) → IsLicenceOf p l m → Agrees l m
    → IsFirstNamed l.code number name → slice_get l.code.funcs number ≡ Some func → Says m l number func.params → OfEntry p name Says
entry_found p name m l number func Says has agree first is says = record {
  meaning = m;
  licence = l;
  has = has;
  entry = number;
  named = subst (λ (ns : List (List ℕ)). place_among ns name ≡ Some number) agree.names
      (first_place (map (λ (f : Func). f.name) l.code.funcs) number name (name_is l.code number name first.named) (λ earlier less here. first.first earlier less (has_name l.code earlier name here)));
  params = func.params;
  is = agree.params number func is;
  says = says;
}

pub no_entry : (p : ProgramText) (name : List ℕ) (m : Meaning) (l : Licensed) → IsLicenceOf p l m → Agrees l m
    → ((number : ℕ) → HasName l.code number name → ⊥) → HasNoEntry p name
no_entry p name m l has agree none = record {
  meaning = m;
  licence = l;
  has = has;
  none = subst (λ (ns : List (List ℕ)). place_among ns name ≡ None) agree.names (no_place (map (λ (f : Func). f.name) l.code.funcs) name (λ number here. none number (has_name l.code number name here)));
}
