-- Private: words for functions of this crate.
-- What private functions do with declarations: the tests of types and of headers, done one by one.
use Rattle.std.specs.Prelude.{ℕ, nat_le, if◌then◌else◌, List, [], ◌∷◌, ◌++◌, map, length, Option, Some, None, codes}
use Rattle.camelot_tree.specs.declared.tree.Atom.{Atom}
use Rattle.camelot_tree.specs.declared.tree.Atom.TheVariants as atom
use Rattle.camelot_tree.specs.declared.tree.Name.{Name}
use Rattle.camelot_tree.specs.declared.tree.Param.{Param}
use Rattle.camelot_tree.specs.Tree as tree
use Rattle.camelot_tree.specs.Tree.{Constructor, Function, Source}
use Rattle.camelot_values.specs.declared.kinds.Kind.{Kind}
use Rattle.camelot_typing.specs.Kinds.{kind_of_atom}
use Rattle.camelot_types.specs.declared.fault.TypeFault.TheVariants.{UnknownType, TooManyFields, TooMany}
use Rattle.camelot_types.specs.Walk.{line_above, words, con_names, param_names}
use Rattle.camelot_types.specs.Solving.{Walked, Goes, Stops, and_then, names_checked}

-- at most so many of these
unfoldable pub few_checked : List ℕ → ℕ → List Name → Walked (Unit {0})
few_checked what most names = if nat_le (length names) most then Goes tt else Stops (TooMany what (length names) (line_above most names))

-- a written atom's type is declared
unfoldable pub kind_checked : Name → Option Kind → Walked (Unit {0})
kind_checked n None = Stops (UnknownType n.word n.line)
kind_checked n (Some k) = Goes tt

unfoldable pub atom_checked : Source → Atom → Walked (Unit {0})
atom_checked p (atom.Named n) = kind_checked n (kind_of_atom p (atom.Named n))
atom_checked p a = Goes tt

unfoldable pub atoms_checked : Source → List Atom → Walked (Unit {0})
atoms_checked p [] = Goes tt
atoms_checked p (a ∷ as') = and_then (atom_checked p a) (λ u. atoms_checked p as')

-- ---- types

unfoldable pub fields_checked : List Constructor → Walked (Unit {0})
fields_checked [] = Goes tt
fields_checked (c ∷ cs) = if nat_le (length c.fields) 4 then fields_checked cs else Stops (TooManyFields c.name.word (length c.fields) c.name.line)

unfoldable pub cons_checked : Source → List Constructor → Walked (Unit {0})
cons_checked p [] = Goes tt
cons_checked p (c ∷ cs) = and_then (atoms_checked p c.fields) (λ u. cons_checked p cs)

unfoldable pub type_checked : Source → (types cons : List (List ℕ)) → tree.DataType → Walked (Unit {0})
type_checked p types cons t =
    and_then (names_checked types (t.name ∷ [])) (λ u.
    and_then (names_checked cons (con_names t)) (λ v.
    and_then (few_checked (codes "constructors") 64 (con_names t)) (λ w.
    and_then (fields_checked t.cons) (λ x.
    cons_checked p t.cons))))

unfoldable pub each_type_checked : Source → (types cons : List (List ℕ)) → List tree.DataType → Walked (Unit {0})
each_type_checked p types cons [] = Goes tt
each_type_checked p types cons (t ∷ ts) = and_then (type_checked p types cons t) (λ u. each_type_checked p (types ++ t.name.word ∷ []) (cons ++ words (con_names t)) ts)

unfoldable pub types_checked : Source → Walked (Unit {0})
types_checked p = and_then (few_checked (codes "types") 64 (map (λ t. t.name) p.types)) (λ u. each_type_checked p [] [] p.types)

-- ---- headers of functions

unfoldable pub kind_written : Source → Option Atom → Walked (Unit {0})
kind_written p None = Goes tt
kind_written p (Some a) = atom_checked p a

unfoldable pub params_checked : Source → List Param → Walked (Unit {0})
params_checked p [] = Goes tt
params_checked p (x ∷ xs) = and_then (kind_written p x.kind) (λ u. params_checked p xs)

unfoldable pub header_checked : Source → List (List ℕ) → Function → Walked (Unit {0})
header_checked p earlier f =
    and_then (names_checked earlier (f.name ∷ [])) (λ u.
    and_then (few_checked (codes "parameters") 16 (param_names f)) (λ v.
    and_then (names_checked [] (param_names f)) (λ w.
    and_then (params_checked p f.params) (λ x.
    kind_written p f.result))))

unfoldable pub each_header_checked : Source → List (List ℕ) → List Function → Walked (Unit {0})
each_header_checked p earlier [] = Goes tt
each_header_checked p earlier (f ∷ fs) = and_then (header_checked p earlier f) (λ u. each_header_checked p (earlier ++ f.name.word ∷ []) fs)

unfoldable pub headers_checked : Source → Walked (Unit {0})
headers_checked p = and_then (few_checked (codes "functions") 64 (map (λ f. f.name) p.funs)) (λ u. each_header_checked p [] p.funs)
