-- The tables of a normal form.
use Rattle.std.proofs.Common.{◌≡◌, List, [], ◌∷◌, map, refl, sym, ap, ◌∙◌, subst}
use Rattle.std.specs.Prelude.{flat_map}
use Rattle.camelot_values.specs.Names.{AreDistinct}
use Rattle.camelot_tree.specs.Tree as tree
use Rattle.camelot_tree.specs.Tree.{Function, Source}
use Rattle.camelot_typing.specs.Kinds.{constructor_kinds, data_kinds}
use Rattle.camelot_typing.specs.Typing.{Signature, globals_of, FunctionsFit}
use Rattle.camelot_typing.specs.Typed.{Typing, IsTyping}
use Rattle.camelot_typing.specs.NumberLaws.{constructors_same}
use Rattle.normal_form.specs.Normal.{normal_functions, normal_form}
use Rattle.normal_form.specs.Facts.{TablesFit}
use Rattle.normal_form.proofs.KnownKinds.{constructors_known}

type_names_are : (p : Source) (ts : List tree.DataType) → map (λ t. t.name) (map (data_kinds p) ts) ≡ map (λ t. t.name.word) ts
type_names_are p [] = refl
type_names_are p (t ∷ ts) = ap (λ l. t.name.word ∷ l) (type_names_are p ts)

con_names_are : (p : Source) (cs : List tree.Constructor) → map (λ c. c.name) (map (constructor_kinds p) cs) ≡ map (λ c. c.name.word) cs
con_names_are p [] = refl
con_names_are p (c ∷ cs) = ap (λ l. c.name.word ∷ l) (con_names_are p cs)

function_names_are : (p : Source) (sigs : List Signature) (fs : List Function) (ss : List Signature) → FunctionsFit p (globals_of p sigs) fs ss
    → map (λ f. f.name) (normal_functions p sigs fs ss) ≡ map (λ f. f.name.word) fs
function_names_are p sigs [] [] fit = refl
function_names_are p sigs [] (s ∷ ss) fit = absurd fit
function_names_are p sigs (f ∷ fs) [] fit = absurd fit
function_names_are p sigs (f ∷ fs) (s ∷ ss) fit = ap (λ l. f.name.word ∷ l) (function_names_are p sigs fs ss fit.1)

pub tables_fit : (t : Typing) → IsTyping t → TablesFit (normal_form t)
tables_fit t typing = record {
  type_names = subst AreDistinct (sym (type_names_are t.source t.source.types)) typing.typed.type_names;
  con_names = subst AreDistinct (sym (ap (map (λ c. c.name)) (constructors_same t.source t.source.types) ∙ con_names_are t.source (flat_map (λ d. d.cons) t.source.types))) typing.typed.con_names;
  function_names = subst AreDistinct (sym (function_names_are t.source t.signatures t.source.funs t.signatures typing.typed.functions)) typing.typed.fun_names;
  fields = constructors_known t.source;
}
