-- The constructors' names are distinct, and few.
use Rattle.std.proofs.Common.{◌≡◌, ℕ, zero, suc, ◌+◌, ◌≤◌, Bool, true, false, if◌then◌else◌, Option, Some, None, slice_get, List, [], ◌∷◌, ◌++◌, map, length, drop, get_or, refl, sym, ap, ◌∙◌, subst, arith, ◌⊎◌, inl, inr}
use Rattle.std.specs.Prelude.{flat_map}
use Rattle.std.proofs.Math.Logic.{∥∥₁_elim}
use Rattle.camelot_values.specs.Kinds.{DataType, constructors, constructor_of, data_type_of}
use Rattle.camelot_values.specs.declared.kinds.Con.{Con}
use Rattle.camelot_values.specs.declared.kinds.TypeDef.{TypeDef}
use Rattle.camelot_values.specs.NameLaws.{AreNew, distinct_new}
use Rattle.camelot_tree.specs.Tree as tree
use Rattle.camelot_tree.specs.Tree.{Source}
use Rattle.std.specs.Option.{option_map}
use Rattle.std.specs.Str.{bytes_eq}
use Rattle.camelot_values.specs.Names.{place_among}
use Rattle.camelot_tree.specs.declared.tree.FunDecl.{FunDecl}
use Rattle.camelot_tree.specs.declared.tree.Param.{Param}
use Rattle.camelot_values.specs.declared.kinds.Kind.{Kind}
use Rattle.camelot_tree.specs.Tree.{function_of}
use Rattle.camelot_tree.specs.Programs.{program_of}
use Rattle.camelot_typing.specs.declared.kinds.FunKinds.{FunKinds}
use Rattle.camelot_typing.specs.declared.typed.Typed.{Typed}
use Rattle.linear_use.specs.Uses.{lent_params, lent_by}
use Rattle.linear_use.specs.Tables.{with_names}
use Rattle.linear_use.specs.TableLaws.{new_prop, left_item, with_new}
use Rattle.camelot_typing.specs.Kinds.{types_of, data_kinds, constructor_kinds}
use Rattle.camelot_tree.specs.Meaning.{declared_constructors}
use Rattle.camelot_typing.specs.Typed.{Typing, IsTyping, kinds_of, signatures_of}

abbrev pub con_words : List DataType → List (List ℕ)
con_words types = map (λ c. c.name) (constructors types)

map_append : {A B : Type 0} (f : A → B) (xs ys : List A) → map f (xs ++ ys) ≡ map f xs ++ map f ys
map_append f [] ys = refl
map_append f (x ∷ xs) ys = ap (λ l. f x ∷ l) (map_append f xs ys)

same_words : (p : Source) (cs : List tree.Constructor) → map (λ c. c.name) (map (constructor_kinds p) cs) ≡ map (λ c. c.name.word) cs
same_words p [] = refl
same_words p (c ∷ cs) = ap (λ l. c.name.word ∷ l) (same_words p cs)

words_of : (p : Source) (ts : List tree.DataType) → con_words (map (data_kinds p) ts) ≡ map (λ c. c.name.word) (flat_map (λ t. t.cons) ts)
words_of p [] = refl
words_of p (t ∷ ts) =
    map_append (λ c. c.name) (map (constructor_kinds p) t.cons) (constructors (map (data_kinds p) ts))
    ∙ ap (λ l. l ++ con_words (map (data_kinds p) ts)) (same_words p t.cons) ∙ ap (λ l. map (λ c. c.name.word) t.cons ++ l) (words_of p ts)
    ∙ sym (map_append (λ c. c.name.word) t.cons (flat_map (λ t. t.cons) ts))

words_new : (t : Typing) → IsTyping t → AreNew [] (con_words (types_of t.source))
words_new t h = subst (AreNew []) (sym (words_of t.source t.source.types)) (distinct_new (map (λ c. c.name.word) (declared_constructors t.source)) h.typed.con_names)

pub names_new : (t : Typing) (types : List DataType) → ∥ IsTyping t ∥₁ → types ≡ types_of t.source → AreNew [] (con_words types)
names_new t types h e = subst (λ l. AreNew [] (con_words l)) (sym e) (∥∥₁_elim h (new_prop [] (con_words (types_of t.source))) (words_new t))

-- ---- types one by one

con_names : (cs : List Con) → map (λ c. c.name) (map constructor_of cs) ≡ map (λ c. c.name) cs
con_names [] = refl
con_names (c ∷ cs) = ap (λ l. c.name ∷ l) (con_names cs)

-- the names of the next type, and those of the types behind it
pub left_words : (defs : List TypeDef) (i j : ℕ) (def : TypeDef) → j ≡ i + 1 → suc i ≤ length defs → def ≡ get_or defs i def
    → con_words (map data_type_of (drop i defs)) ≡ map (λ c. c.name) def.cons.items ++ con_words (map data_type_of (drop j defs))
left_words defs i j def e h r =
    ap con_words (left_item data_type_of defs i j def e h r) ∙ map_append (λ c. c.name) (map constructor_of def.cons.items) (constructors (map data_type_of (drop j defs)))
    ∙ ap (λ l. l ++ con_words (map data_type_of (drop j defs))) (con_names def.cons.items)

pub words_over : (defs : List TypeDef) (i : ℕ) → length defs ≤ i → con_words (map data_type_of (drop i defs)) ≡ []
words_over [] zero h = refl
words_over [] (suc i) h = refl
words_over (d ∷ defs) zero h = absurd (omega (arith, h))
words_over (d ∷ defs) (suc i) h = words_over defs i (omega (arith, h))

-- ---- functions

fun_words : (fs : List FunDecl) → map (λ f. f.name.word) (map function_of fs) ≡ map (λ f. f.name.word) fs
fun_words [] = refl
fun_words (f ∷ fs) = ap (λ l. f.name.word ∷ l) (fun_words fs)

-- the names of a typed program's functions are all new
pub functions_named : (t : Typed) (names : List (List ℕ)) → names ≡ with_names [] (map (λ f. f.name.word) t.program.funs.items)
    → names ≡ map (λ f. f.name.word) (program_of t.program).funs
functions_named t names e =
    let words = map (λ f. f.name.word) (program_of t.program).funs in
    let new : AreNew [] words = ∥∥₁_elim t.typed (new_prop [] words) (λ h. distinct_new words h.typed.fun_names) in
    e ∙ ap (with_names []) (sym (fun_words t.program.funs.items)) ∙ with_new [] words new

some_same : (m n : ℕ) → Some m ≡ Some n → m ≡ n
some_same m n e = cc

nat_clash : (n : ℕ) → 0 ≡ suc n → ⊥
nat_clash n e = absurd (omega (arith, e))

-- the marks of a function, by its number
pub loans_found : (types : List DataType) (fs : List FunDecl) (ks : List FunKinds) (name : List ℕ) (i : ℕ) (f : FunDecl) (k : FunKinds)
    → place_among (map (λ f. f.name.word) (map function_of fs)) name ≡ Some i → slice_get fs i ≡ Some f → slice_get ks i ≡ Some k
    → lent_by types (map function_of fs) (signatures_of (map function_of fs) (map kinds_of ks)) name ≡ lent_params types f.params.items k.params.items
loans_found types [] ks name i f k p q r = cc
loans_found types (g ∷ fs) [] name i f k p q r = cc
loans_found types (g ∷ fs) (l ∷ ks) name i f k p q r = at_name (λ j p2 q2 r2. loans_found types fs ks name j f k p2 q2 r2) (bytes_eq g.name.word name) (place_among (map (λ f. f.name.word) (map function_of fs)) name) refl i p q r
  where
    at_name : ((j : ℕ) → place_among (map (λ f. f.name.word) (map function_of fs)) name ≡ Some j → slice_get fs j ≡ Some f → slice_get ks j ≡ Some k
        → lent_by types (map function_of fs) (signatures_of (map function_of fs) (map kinds_of ks)) name ≡ lent_params types f.params.items k.params.items)
        → (b : Bool) (o : Option ℕ) → place_among (map (λ f. f.name.word) (map function_of fs)) name ≡ o → (i : ℕ) → (if b then Some 0 else option_map suc o) ≡ Some i → slice_get (g ∷ fs) i ≡ Some f → slice_get (l ∷ ks) i ≡ Some k
        → (if b then lent_params types g.params.items l.params.items else lent_by types (map function_of fs) (signatures_of (map function_of fs) (map kinds_of ks)) name) ≡ lent_params types f.params.items k.params.items
    at_name rest true o e zero p q r =
        let same : g ≡ f = cc in
        let kind : l ≡ k = cc in
        ap (λ x. lent_params types x.params.items l.params.items) same ∙ ap (λ x. lent_params types f.params.items x.params.items) kind
    at_name rest true o e (suc i) p q r = absurd (nat_clash i (some_same 0 (suc i) p))
    at_name rest false None e i p q r = cc
    at_name rest false (Some j) e zero p q r = absurd (nat_clash j (sym (some_same (suc j) 0 p)))
    at_name rest false (Some j) e (suc i) p q r = let n : j ≡ i = let m = some_same (suc j) (suc i) p in omega (arith, m) in rest i (e ∙ ap Some n) q r

pub loans_absent : (types : List DataType) (fs : List FunDecl) (ks : List FunKinds) (name : List ℕ)
    → place_among (map (λ f. f.name.word) (map function_of fs)) name ≡ None
    → lent_by types (map function_of fs) (signatures_of (map function_of fs) (map kinds_of ks)) name ≡ []
loans_absent types [] ks name p = refl
loans_absent types (g ∷ fs) [] name p = refl
loans_absent types (g ∷ fs) (l ∷ ks) name p = at_name (loans_absent types fs ks name) (bytes_eq g.name.word name) (place_among (map (λ f. f.name.word) (map function_of fs)) name) refl p
  where
    at_name : (place_among (map (λ f. f.name.word) (map function_of fs)) name ≡ None → lent_by types (map function_of fs) (signatures_of (map function_of fs) (map kinds_of ks)) name ≡ [])
        → (b : Bool) (o : Option ℕ) → place_among (map (λ f. f.name.word) (map function_of fs)) name ≡ o → (if b then Some 0 else option_map suc o) ≡ None
        → (if b then lent_params types g.params.items l.params.items else lent_by types (map function_of fs) (signatures_of (map function_of fs) (map kinds_of ks)) name) ≡ []
    at_name rest true o e p = cc
    at_name rest false None e p = rest e
    at_name rest false (Some j) e p = cc

pub loans_short : (types : List DataType) (fs : List FunDecl) (ks : List FunKinds) (name : List ℕ) (i : ℕ)
    → place_among (map (λ f. f.name.word) (map function_of fs)) name ≡ Some i → slice_get ks i ≡ None
    → lent_by types (map function_of fs) (signatures_of (map function_of fs) (map kinds_of ks)) name ≡ []
loans_short types [] ks name i p r = refl
loans_short types (g ∷ fs) [] name i p r = refl
loans_short types (g ∷ fs) (l ∷ ks) name i p r = at_name (λ j p2 r2. loans_short types fs ks name j p2 r2) (bytes_eq g.name.word name) (place_among (map (λ f. f.name.word) (map function_of fs)) name) refl i p r
  where
    at_name : ((j : ℕ) → place_among (map (λ f. f.name.word) (map function_of fs)) name ≡ Some j → slice_get ks j ≡ None
        → lent_by types (map function_of fs) (signatures_of (map function_of fs) (map kinds_of ks)) name ≡ [])
        → (b : Bool) (o : Option ℕ) → place_among (map (λ f. f.name.word) (map function_of fs)) name ≡ o → (i : ℕ) → (if b then Some 0 else option_map suc o) ≡ Some i → slice_get (l ∷ ks) i ≡ None
        → (if b then lent_params types g.params.items l.params.items else lent_by types (map function_of fs) (signatures_of (map function_of fs) (map kinds_of ks)) name) ≡ []
    at_name rest true o e zero p r = cc
    at_name rest true o e (suc i) p r = absurd (nat_clash i (some_same 0 (suc i) p))
    at_name rest false None e i p r = cc
    at_name rest false (Some j) e zero p r = absurd (nat_clash j (sym (some_same (suc j) 0 p)))
    at_name rest false (Some j) e (suc i) p r = let n : j ≡ i = let m = some_same (suc j) (suc i) p in omega (arith, m) in rest i (e ∙ ap Some n) r

pub lent_over : (types : List DataType) (xs : List Param) (ks : List Kind) → (length xs ≡ 0) ⊎ (length ks ≡ 0) → lent_params types xs ks ≡ []
lent_over types [] ks h = refl
lent_over types (x ∷ xs) [] h = refl
lent_over types (x ∷ xs) (k ∷ ks) (inl h) = absurd (omega (arith, h))
lent_over types (x ∷ xs) (k ∷ ks) (inr h) = absurd (omega (arith, h))
