-- Where an expression stands: each name in scope has a value of its kind, and its local has the same value.
use Rattle.std.proofs.Common.{◌≡◌, ℕ, suc, ◌+◌, ◌-◌, ◌<◌, ◌≤◌, Bool, true, false, List, [], ◌∷◌, length, Option, Some, None, refl, sym, ap, ◌∙◌, subst, arith}
use Rattle.std.specs.Prelude.{◌==◌, if◌then◌else◌, slice_get, IsSomeAnd}
use Rattle.std.specs.Option.{option_map, option_map_or}
use Rattle.std.specs.Str.{bytes_eq}
use Rattle.std.proofs.lemmas.Bool.Decides.{nat_tests}
use Rattle.camelot_values.specs.Value as value
use Rattle.camelot_values.specs.Value.{Value, Values}
use Rattle.camelot_values.specs.Names.{find}
use Rattle.camelot_values.specs.Kinds as values
use Rattle.camelot_values.specs.Kinds.{DataType, constructor, type_of}
use Rattle.camelot_values.specs.Typing.{Fits, FitAll, ArgumentsFit}
use Rattle.camelot_values.specs.Bounds.{Yields}
use Rattle.camelot_values.specs.Outcome.{Outcome, Done, Fuel, Deep, Trap, Stuck, after, first_then, given}
use Rattle.camelot_values.specs.OutcomeLaws.{after_first}
use Rattle.camelot_values.specs.Runs.{Enter, chosen}
use Rattle.camelot_values.specs.declared.kinds.Kind.{Kind}
use Rattle.camelot_values.specs.declared.kinds.Kind.TheVariants as kind
use Rattle.camelot_tree.specs.declared.tree.Name.{Name}
use Rattle.camelot_tree.specs.declared.tree.ArmCell.{ArmCell}
use Rattle.camelot_tree.specs.declared.tree.ArmCell.TheVariants as cell
use Rattle.camelot_tree.specs.Tree.{Source}
use Rattle.camelot_tree.specs.Meaning as meaning
use Rattle.camelot_tree.specs.Meaning.{Environment, put_fields}
use Rattle.camelot_typing.specs.Kinds.{Scope, bind, bind_fields, bind_cell, arm_scope, or_else, types_of, constructor_number, fields_of, numbered}
use Rattle.camelot_typing.specs.Typing.{Signature, known_kind, FunctionsFit, HeadFits, globals_of}
use Rattle.camelot_typing.specs.Fitting.{Scoped, CallsFit}
use Rattle.camelot_typing.specs.TypingLaws.{scoped_bind}
use Rattle.grail_blocks.specs.Running.{Locals, put, put_all, cell_run}
use Rattle.normal_form.specs.Normal.{with_fields, with_cell, in_arm, bound_count, diamonds, cell_in}

-- ---- what is common to a whole program

-- on fitting arguments the calls of the normal form come to what the calls of the source come to
abbrev pub CallsAgree : Source → List Signature → Enter → Enter → Type 0
CallsAgree p sigs code enter = (k w : ℕ) (t : Bool) (i : ℕ) (args : List Value) (s : Signature) → slice_get sigs i ≡ Some s → ArgumentsFit (types_of p) s.params args → code k w t i args ≡ enter k w t i args

pub record Setting : Type 0 where
  pub source : Source
  pub sigs : List Signature
  pub code : Enter
  pub enter : Enter
  pub typed : FunctionsFit source (globals_of source sigs) source.funs sigs
  pub fits : CallsFit source sigs enter
  pub agree : CallsAgree source sigs code enter

-- ---- locals

pub put_other : (env : Locals) (x : ℕ) (v : Value) (y : ℕ) → y < x → put env x v y ≡ env y
put_other env x v y h = let test : (x == y) ≡ false = grind (arith, nat_tests, h) in ap (λ b. if b then Some v else env y) test

pub put_own : (env : Locals) (x : ℕ) (v : Value) → put env x v x ≡ Some v
put_own env x v = let test : (x == x) ≡ true = grind (arith, nat_tests) in ap (λ b. if b then Some v else env x) test

-- the value of a local, where a name has one
abbrev pub seen : Locals → Option ℕ → Option Value
seen env None = None
seen env (Some x) = env x

-- the names of a scope have values of their kinds, and locals below `next` with these values
pub record Stands (types : List DataType) (s : Scope Kind) (l : Scope ℕ) (env : Environment) (locals : Locals) (next : ℕ) : Type 0 where
  pub scoped : Scoped types s env
  pub matches : (name : List ℕ) → env name ≡ seen locals (find l name)
  pub below : (name : List ℕ) (x : ℕ) → find l name ≡ Some x → x < next

pub stands_kept : (types : List DataType) (s : Scope Kind) (l : Scope ℕ) (env : Environment) (locals last : Locals) (next more : ℕ)
    → Stands types s l env locals next
    → ((y : ℕ) → y < next → last y ≡ locals y) → next ≤ more → Stands types s l env last more
stands_kept types s l env locals last next more st kept up = record {
  scoped = st.scoped;
  matches = λ name. st.matches name ∙ same (find l name) (λ x e. st.below name x e);
  below = λ name x e. let h = st.below name x e in omega (arith, h, up);
}
  where
    same : (o : Option ℕ) → ((x : ℕ) → o ≡ Some x → x < next) → seen locals o ≡ seen last o
    same None h = refl
    same (Some x) h = sym (kept x (h x refl))

pub stands_bind : (types : List DataType) (s : Scope Kind) (l : Scope ℕ) (env : Environment) (locals : Locals) (next : ℕ) (n : List ℕ) (k : Kind) (v : Value) (x : ℕ) → Stands types s l env locals next
    → Fits types k v → locals x ≡ Some v → x < next → Stands types (bind n k s) (bind n x l) (meaning.put env n v) locals next
stands_bind types s l env locals next n k v x st fit holds less = record {
  scoped = scoped_bind types s env n k v st.scoped fit;
  matches = λ name. same name (bytes_eq n name);
  below = λ name y e. under name y (bytes_eq n name) e;
}
  where
    same : (name : List ℕ) (b : Bool) → (if b then Some v else env name) ≡ seen locals (if b then Some x else find l name)
    same name true = sym holds
    same name false = st.matches name

    under : (name : List ℕ) (y : ℕ) (b : Bool) → (if b then Some x else find l name) ≡ Some y → y < next
    under name y true e = let e2 : x ≡ y = cc in omega (arith, less, e2)
    under name y false e = st.below name y e

-- a name in scope
pub record Known (types : List DataType) (l : Scope ℕ) (env : Environment) (locals : Locals) (next : ℕ) (name : List ℕ) (q : Kind) : Type 0 where
  pub x : ℕ
  pub v : Value
  pub found : find l name ≡ Some x
  pub local_is : locals x ≡ Some v
  pub env_is : env name ≡ Some v
  pub fits : Fits types q v
  pub below : x < next

pub known_name : (types : List DataType) (s : Scope Kind) (l : Scope ℕ) (env : Environment) (locals : Locals) (next : ℕ) (name : List ℕ) (q : Kind)
    → Stands types s l env locals next → find s name ≡ Some q
    → Known types l env locals next name q
known_name types s l env locals next name q st e = by_local (find l name) refl (st.matches name) (st.scoped.holds name q e)
  where
    some : (o : Option Value) → IsSomeAnd o (Fits types q) → (v : Value) × (o ≡ Some v) × Fits types q v
    some None h = absurd h
    some (Some v) h = (v, refl, h)

    by_local : (o : Option ℕ) → find l name ≡ o → env name ≡ seen locals o → IsSomeAnd (env name) (Fits types q) → Known types l env locals next name q
    by_local None f m h = absurd (subst (λ w. IsSomeAnd w (Fits types q)) m h)
    by_local (Some x) f m h =
        let r = some (env name) h in
        record { x = x; v = r.0; found = f; local_is = sym m ∙ r.1; env_is = r.1; fits = r.2; below = st.below name x f }

-- ---- what an expression comes to

-- the value is of the kind and in local x, which is below `top`, and locals below `next` are as they were
pub record Came (types : List DataType) (q : Kind) (next top x : ℕ) (v : Value) (locals last : Locals) : Type 0 where
  pub fits : Fits types q v
  pub kept : (y : ℕ) → y < next → last y ≡ locals y
  pub below : x < top
  pub holds : last x ≡ Some v

pub then_where : {A B : Type 0} (P : A → Type 0) (k : ℕ) (o : Outcome A) (next last : ℕ → A → Outcome B) → Yields P o
    → ((j : ℕ) (v : A) → P v → next j v ≡ last j v) → first_then k o next ≡ first_then k o last
then_where P k (Done v c p g) next last h e = ap (after c p g) (e (k - c) v h)
then_where P k (Fuel c p) next last h e = refl
then_where P k (Deep p) next last h e = refl
then_where P k (Trap p) next last h e = refl
then_where P k Stuck next last h e = refl

pub chosen_then : (v : Value) (j : ℕ) (a b : Outcome Value) (go : ℕ → Value → Outcome Value)
    → chosen v (first_then j a go) (first_then j b go) ≡ first_then j (chosen v a b) go
chosen_then (value.Flag true) j a b go = refl
chosen_then (value.Flag false) j a b go = refl
chosen_then (value.Int z) j a b go = refl
chosen_then value.Dia j a b go = refl
chosen_then (value.Con c vs) j a b go = refl

-- a value of a data type is a constructor of it
pub record IsBuilt (types : List DataType) (t : ℕ) (v : Value) : Type 0 where
  pub con : ℕ
  pub vs : Values
  pub def : values.Constructor
  pub is : v ≡ value.Con con vs
  pub owned : type_of types con ≡ Some t
  pub declared : constructor types con ≡ Some def
  pub fits : FitAll types def.fields vs

pub is_built : (types : List DataType) (t : ℕ) (v : Value) → Fits types (kind.Of t) v → IsBuilt types t v
is_built types t (value.Int z) h = absurd cc
is_built types t (value.Flag b) h = absurd cc
is_built types t value.Dia h = absurd cc
is_built types t (value.Con c vs) h = by_con (constructor types c) refl h.1
  where
    owner : (o : Option ℕ) → option_map kind.Of o ≡ Some (kind.Of t) → o ≡ Some t
    owner None e = absurd cc
    owner (Some u) e = let same : u ≡ t = cc in ap Some same

    by_con : (o : Option values.Constructor) → constructor types c ≡ o → IsSomeAnd o (λ con. FitAll types con.fields vs) → IsBuilt types t (value.Con c vs)
    by_con None e g = absurd g
    by_con (Some def) e g = record { con = c; vs = vs; def = def; is = refl; owned = owner (type_of types c) h.0; declared = e; fits = g }

-- ---- arms

-- the fields of an arm are bound to the parts of a value, as names and as locals from n on
pub record FieldsStand (types : List DataType) (s : Scope Kind) (l : Scope ℕ) (fs : List (Option Name)) (vs : Values) (env : Environment) (locals : Locals) (n : ℕ) : Type 0 where
  pub bound : Environment
  pub last : Locals
  pub names_are : put_fields env fs vs ≡ Some bound
  pub locals_are : put_all locals (numbered n fs) vs ≡ Some last
  pub stands : Stands types s l bound last (n + length fs)
  pub kept : (y : ℕ) → y < n → last y ≡ locals y

pub fields_stand : (types : List DataType) (s : Scope Kind) (l : Scope ℕ) (env : Environment) (locals : Locals) (n : ℕ) (fs : List (Option Name)) (ks : List Kind) (vs : Values) → Stands types s l env locals n
    → length fs ≡ length ks → FitAll types ks vs → FieldsStand types (bind_fields known_kind fs ks s) (with_fields fs n l) fs vs env locals n
fields_stand types s l env locals n [] [] value.End st full fit = record {
  bound = env;
  last = locals;
  names_are = refl;
  locals_are = refl;
  stands = stands_kept types s l env locals locals n (n + 0) st (λ y h. refl) (omega arith);
  kept = λ y h. refl;
}
fields_stand types s l env locals n [] [] (value.And v vs) st full fit = absurd fit
fields_stand types s l env locals n [] (k ∷ ks) vs st full fit = absurd (omega (arith, full))
fields_stand types s l env locals n (f ∷ fs) [] vs st full fit = absurd (omega (arith, full))
fields_stand types s l env locals n (f ∷ fs) (k ∷ ks) value.End st full fit = absurd fit
fields_stand types s l env locals n (None ∷ fs) (k ∷ ks) (value.And v vs) st full fit =
    let one = stands_kept types s l env locals (put locals n v) n (suc n) st (λ y h. put_other locals n v y h) (omega arith) in
    let r = fields_stand types s l env (put locals n v) (suc n) fs ks vs one (omega (arith, full)) fit.1 in
    let same : suc n + length fs ≡ n + suc (length fs) = omega arith in
    record {
      bound = r.bound;
      last = r.last;
      names_are = r.names_are;
      locals_are = r.locals_are;
      stands = subst (Stands types (bind_fields known_kind fs ks s) (with_fields fs (suc n) l) r.bound r.last) same r.stands;
      kept = λ y h. r.kept y (omega (arith, h)) ∙ put_other locals n v y h;
    }
fields_stand types s l env locals n (Some name ∷ fs) (k ∷ ks) (value.And v vs) st full fit =
    let one = stands_kept types s l env locals (put locals n v) n (suc n) st (λ y h. put_other locals n v y h) (omega arith) in
    let two = stands_bind types s l env (put locals n v) (suc n) name.word k v n one fit.0 (put_own locals n v) (omega arith) in
    let r = fields_stand types (bind name.word k s) (bind name.word n l) (meaning.put env name.word v) (put locals n v) (suc n) fs ks vs two (omega (arith, full)) fit.1 in
    let same : suc n + length fs ≡ n + suc (length fs) = omega arith in
    record {
      bound = r.bound;
      last = r.last;
      names_are = r.names_are;
      locals_are = r.locals_are;
      stands = subst (Stands types (bind_fields known_kind fs ks (bind name.word k s)) (with_fields fs (suc n) (bind name.word n l)) r.bound r.last) same r.stands;
      kept = λ y h. r.kept y (omega (arith, h)) ∙ put_other locals n v y h;
    }

-- what becomes of the cell, before what follows
pub cell_agrees : (types : List DataType) (s : Scope Kind) (l : Scope ℕ) (x : ArmCell) (inline : Bool) (env : Environment) (locals : Locals) (d : ℕ) (code : Locals → Outcome Value) (source : Environment → Outcome Value)
    → Stands types s l env locals d
    → ((bound : Environment) (last : Locals) → Stands types (bind_cell known_kind x s) (with_cell x d l) bound last (d + diamonds x) → ((y : ℕ) → y < d → last y ≡ locals y) → code last ≡ source bound)
    → cell_run (cell_in inline x d) locals code ≡ meaning.cell_run x env source
cell_agrees types s l cell.Plain true env locals d code source st go = go env locals (stands_kept types s l env locals locals d (d + 0) st (λ y h. refl) (omega arith)) (λ y h. refl)
cell_agrees types s l cell.Plain false env locals d code source st go = go env locals (stands_kept types s l env locals locals d (d + 0) st (λ y h. refl) (omega arith)) (λ y h. refl)
cell_agrees types s l cell.Free inline env locals d code source st go =
    ap (λ o. after 0 0 1 o) (go env locals (stands_kept types s l env locals locals d (d + 0) st (λ y h. refl) (omega arith)) (λ y h. refl))
cell_agrees types s l (cell.Keep n) inline env locals d code source st go =
    let one = stands_kept types s l env locals (put locals d value.Dia) d (d + 1) st (λ y h. put_other locals d value.Dia y h) (omega arith) in
    go (meaning.put env n.word value.Dia) (put locals d value.Dia) (stands_bind types s l env (put locals d value.Dia) (d + 1) n.word kind.Dia value.Dia d one refl (put_own locals d value.Dia) (omega arith))
    (λ y h. put_other locals d value.Dia y h)

-- The arm of the value's constructor: code and source go on with the same names.
pub arm_agrees : (types : List DataType) (s : Scope Kind) (l : Scope ℕ) (c : Name) (fs : List (Option Name)) (x : ArmCell) (inline : Bool) (t con : ℕ) (def : values.Constructor) (vs : Values) (env : Environment) (locals : Locals) (n : ℕ)
    (code : Locals → Outcome Value) (source : Environment → Outcome Value) → HeadFits types t c fs x → constructor_number types c.word ≡ Some con
    → constructor types con ≡ Some def → FitAll types def.fields vs
    → Stands types s l env locals n
    → ((bound : Environment) (last : Locals) → Stands types (arm_scope known_kind types c fs x s) (in_arm fs x n l) bound last (n + bound_count fs x) → ((y : ℕ) → y < n → last y ≡ locals y) → code last ≡ source bound)
    → given (put_all locals (numbered n fs) vs) (λ last. cell_run (cell_in inline x (n + length fs)) last code) ≡ given (put_fields env fs vs) (λ bound. meaning.cell_run x bound source)
arm_agrees types s l c fs x inline t con def vs env locals n code source head number is fit st go =
    let same : head.con ≡ con = number_one head.con con (sym head.is ∙ number) in
    let fields : fields_of types con ≡ def.fields = ap (λ o. option_map_or (λ c. c.fields) o []) is in
    let full : length fs ≡ length def.fields = head.full ∙ ap (λ n. length (fields_of types n)) same ∙ ap length fields in
    let kinds : def.fields ≡ fields_of types (or_else (constructor_number types c.word) 0) = sym (ap (λ o. fields_of types (or_else o 0)) number ∙ fields) in
    let r = fields_stand types s l env locals n fs def.fields vs st full fit in
    let count : (n + length fs) + diamonds x ≡ n + bound_count fs x = omega arith in
    ap (λ o. given o (λ last. cell_run (cell_in inline x (n + length fs)) last code)) r.locals_are
    ∙ cell_agrees types (bind_fields known_kind fs def.fields s) (with_fields fs n l) x inline r.bound r.last (n + length fs) code source r.stands
    (λ bound last stands kept. go bound last
    (subst (λ ks. Stands types (bind_cell known_kind x (bind_fields known_kind fs ks s)) (in_arm fs x n l) bound last (n + bound_count fs x)) kinds
    (subst (Stands types (bind_cell known_kind x (bind_fields known_kind fs def.fields s)) (in_arm fs x n l) bound last) count stands))
    (λ y h. kept y (omega (arith, h)) ∙ r.kept y h))
    ∙ sym (ap (λ o. given o (λ bound. meaning.cell_run x bound source)) r.names_are)
  where
    number_one : (a b : ℕ) → ◌≡◌ {A = Option ℕ} (Some a) (Some b) → a ≡ b
    number_one a b e = cc

-- what follows an arm's cell comes out of it
pub arm_then : (o : Option Environment) (x : ArmCell) (j : ℕ) (source : Environment → Outcome Value) (go : ℕ → Value → Outcome Value)
    → given o (λ bound. meaning.cell_run x bound (λ last. first_then j (source last) go)) ≡ first_then j (given o (λ bound. meaning.cell_run x bound source)) go
arm_then None x j source go = refl
arm_then (Some bound) cell.Plain j source go = refl
arm_then (Some bound) cell.Free j source go = sym (after_first 0 0 1 j j (source bound) go (omega arith))
arm_then (Some bound) (cell.Keep d) j source go = refl
