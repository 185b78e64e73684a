-- That code is well formed is a proposition.
use Rattle.std.proofs.Common.{◌≡◌, ℕ, suc, ◌<◌, Bool, true, false, List, [], ◌∷◌, length, map, Option, Some, None, refl}
use Rattle.std.specs.Prelude.{◌≤◌, slice_get}
use Rattle.std.specs.Coded.{Coded-set, Unit-prop, ×_prop, coded_ℕ, coded_bool, coded_list, coded_option, code_by, le_prop}
use Rattle.std.specs.List.{AllByRecursion, AllByRecursion-prop, range_with_len}
use Rattle.std.specs.Option.{IsSomeAnd-prop}
use Rattle.std.proofs.Math.Bool.{Bool-set}
use Rattle.std.proofs.Math.Path.{fun_ext}
use Rattle.camelot_values.specs.Heap.{is_heap}
use Rattle.camelot_values.specs.Kinds.{Constructor, DataType, constructor, constructors}
use Rattle.camelot_values.specs.declared.kinds.Kind.{Kind}
use Rattle.camelot_values.specs.declared.kinds.Kind.TheVariants as kind
use Rattle.camelot_values.specs.contracts.kinds.Kind as kind_row
use Rattle.grail_blocks.specs.declared.blocks.Place.{Place}
use Rattle.grail_blocks.specs.declared.blocks.Place.TheVariants as place
use Rattle.grail_blocks.specs.declared.blocks.CaseCell.{CaseCell}
use Rattle.grail_blocks.specs.declared.blocks.CaseCell.TheVariants as cell
use Rattle.grail_blocks.specs.Events.{Event, Use, Look, Bind, Reads, let_events, term_events, ways}
use Rattle.grail_blocks.specs.States.{Status, Unbound, Ready, Spent, State, bind, use_of, AreReady, at_start, after_let, at_term, behind_term, LetsReady, UsesReady}
use Rattle.grail_code.specs.Code.{Op, Lit, Flag, Copy, Prim, Make, Call, Let, CaseArm, Term, Ret, Tail, Goto, If, Case, Block, Func, Code}
use Rattle.grail_code.specs.WellFormed.{IsKnownKind, local_kinds, kind_of, HaveKinds, is_owned, is_lent, is_marked, reads_of, AreNotLent, PlaceFits, Gives, LetFits, CellFits, ArmFits, ArmsFit, data_type, TermFits, takes, LetLends, CellLends, bound_anew, bound_by, ArmLends, taken_by, TermLends, Ascend, AreDistinct, BlockFits, BlocksFit, FuncFits, IsWellFormed}
use Rattle.code_gen.proofs.Props.{to_prop}

kind_set : IsSet Kind
kind_set = Coded-set kind_row.the_row.coded

some_kind_set : IsSet (Option Kind)
some_kind_set = Coded-set (coded_option kind_row.the_row.coded)

some_kinds_set : IsSet (List (Option Kind))
some_kinds_set = Coded-set (coded_list (coded_option kind_row.the_row.coded))

numbers_set : IsSet (List ℕ)
numbers_set = Coded-set (coded_list coded_ℕ)

less_prop : (n m : ℕ) → IsProp (n ≤ m)
less_prop n m = le_prop

distinct_prop : {A : Type 0} (xs : List A) → IsProp (AreDistinct xs)
distinct_prop xs f g = fun_ext (λ word. fun_ext (λ before. fun_ext (λ between. fun_ext (λ rest. fun_ext (λ e. absurd (f word before between rest e))))))

-- ---- what is ready

abbrev status_code : Status → Option Bool
status_code Unbound = None
status_code Ready = Some true
status_code Spent = Some false

abbrev code_status : Option Bool → Status
code_status None = Unbound
code_status (Some true) = Ready
code_status (Some false) = Spent

same_status : (s : Status) → code_status (status_code s) ≡ s
same_status Unbound = refl
same_status Ready = refl
same_status Spent = refl

status_set : IsSet Status
status_set = Coded-set (code_by (Option Bool) (coded_option coded_bool) status_code code_status same_status)

ready_prop : (h : ℕ → Bool) (s : State) (es : List Event) → IsProp (AreReady h s es)
ready_prop h s [] = Unit-prop
ready_prop h s (Bind x ∷ es) = ready_prop h (bind s x) es
ready_prop h s (Use x ∷ es) = ×_prop (status_set (s x) Ready) (ready_prop h (use_of h s x) es)
ready_prop h s (Look x ∷ es) = ×_prop (status_set (s x) Ready) (ready_prop h s es)

lets_ready_prop : (reads : Reads) (h : ℕ → Bool) (s : State) (ls : List Let) → IsProp (LetsReady reads h s ls)
lets_ready_prop reads h s [] = Unit-prop
lets_ready_prop reads h s (l ∷ ls) = ×_prop (ready_prop h s (let_events reads l)) (lets_ready_prop reads h (after_let reads h s l) ls)

uses_ready_prop : (reads : Reads) (h : ℕ → Bool) (blocks : List Block) (b : Block) → IsProp (UsesReady reads h blocks b)
uses_ready_prop reads h blocks b =
    let lets = lets_ready_prop reads h (at_start h b) b.lets in
    let term = ready_prop h (at_term reads h b) (term_events reads b.term) in
    let onward = AllByRecursion-prop (AreReady h (behind_term reads h b)) (λ way. ready_prop h (behind_term reads h b) way) (ways blocks b.term) in
    hlevel (lets, term, onward)

-- ---- kinds

known_prop : (types : List DataType) (q : Kind) → IsProp (IsKnownKind types q)
known_prop types (kind.Of t) = le_prop
known_prop types kind.Int = Unit-prop
known_prop types kind.Flag = Unit-prop
known_prop types kind.Dia = Unit-prop

have_prop : (f : Func) (xs : List ℕ) (ks : List Kind) → IsProp (HaveKinds f xs ks)
have_prop f xs ks = some_kinds_set (map (kind_of f) xs) (map Some ks)

place_prop : (f : Func) (inline : Bool) (p : Place) → IsProp (PlaceFits f inline p)
place_prop f inline place.Inline = Bool-set inline true
place_prop f inline place.New = Bool-set inline false
place_prop f inline (place.Reuse d) = ×_prop (Bool-set inline false) (some_kind_set (kind_of f d) (Some kind.Dia))

gives_prop : (p : Code) (f : Func) (op : Op) (q : Kind) → IsProp (Gives p f op q)
gives_prop p f (Lit z) q = let same = kind_set q kind.Int in hlevel (same, less_prop)
gives_prop p f (Flag b) q = kind_set q kind.Flag
gives_prop p f (Copy x) q = some_kind_set (kind_of f x) (Some q)
gives_prop p f (Prim op x y) q = hlevel (some_kinds_set, kind_set)
gives_prop p f (Make con args at) q = IsSomeAnd-prop (constructor p.types con) _ (λ c. let at_place = place_prop f c.inline at in hlevel (at_place, some_kinds_set, some_kind_set))
gives_prop p f (Call func args) q = IsSomeAnd-prop (slice_get p.funcs func) _ (λ callee. hlevel (some_kinds_set, kind_set))

let_prop : (p : Code) (f : Func) (l : Let) → IsProp (LetFits p f l)
let_prop p f l = IsSomeAnd-prop (kind_of f l.target) (Gives p f l.op) (λ q. gives_prop p f l.op q)

-- ---- ends of blocks

cell_prop : (f : Func) (inline : Bool) (c : CaseCell) → IsProp (CellFits f inline c)
cell_prop f inline cell.Inline = Bool-set inline true
cell_prop f inline cell.Free = Bool-set inline false
cell_prop f inline cell.Look = Bool-set inline false
cell_prop f inline (cell.Keep d) = ×_prop (Bool-set inline false) (some_kind_set (kind_of f d) (Some kind.Dia))

arm_prop : (f : Func) (number : ℕ) (c : Constructor) (a : CaseArm) → IsProp (ArmFits f number c a)
arm_prop f number c a =
    let fields = have_prop f a.fields c.fields in
    let at_cell = cell_prop f c.inline a.cell in
    let distinct = distinct_prop (bound_by a) in
    hlevel (fields, at_cell, distinct, less_prop)

arms_prop : (f : Func) (number : ℕ) (cs : List Constructor) (arms : List CaseArm) → IsProp (ArmsFit f number cs arms)
arms_prop f number [] [] = Unit-prop
arms_prop f number (c ∷ cs) (a ∷ arms) = ×_prop (arm_prop f number c a) (arms_prop f number cs arms)
arms_prop f number [] (a ∷ arms) = λ h. absurd h
arms_prop f number (c ∷ cs) [] = λ h. absurd h

term_prop : (p : Code) (f : Func) (number : ℕ) (t : Term) → IsProp (TermFits p f number t)
term_prop p f number (Ret x) = some_kind_set (kind_of f x) (Some f.result)
term_prop p f number (Tail func args) = IsSomeAnd-prop (slice_get p.funcs func) _ (λ callee. hlevel (some_kinds_set, kind_set))
term_prop p f number (Goto b) = hlevel less_prop
term_prop p f number (If x first second) = hlevel (some_kind_set, less_prop)
term_prop p f number (Case x arms) = IsSomeAnd-prop (data_type p.types (kind_of f x)) _ (λ t. arms_prop f number t.cons arms)

-- ---- what is lent

not_lent_prop : (types : List DataType) (f : Func) (xs : List ℕ) → IsProp (AreNotLent types f xs)
not_lent_prop types f xs = AllByRecursion-prop (λ x. is_lent types f x ≡ false) (λ x. Bool-set (is_lent types f x) false) xs

let_lends_prop : (p : Code) (f : Func) (l : Let) → IsProp (LetLends p f l)
let_lends_prop p f l = let taken = not_lent_prop p.types f (takes p l.op) in hlevel (taken, Bool-set)

cell_lends_prop : (lent : Bool) (c : CaseCell) → IsProp (CellLends lent c)
cell_lends_prop lent cell.Inline = Unit-prop
cell_lends_prop lent cell.Free = Bool-set lent false
cell_lends_prop lent cell.Look = Bool-set lent true
cell_lends_prop lent (cell.Keep d) = Bool-set lent false

arm_lends_prop : (types : List DataType) (f : Func) (lent : Bool) (a : CaseArm) → IsProp (ArmLends types f lent a)
arm_lends_prop types f lent a = let at_cell = cell_lends_prop lent a.cell in let bound = not_lent_prop types f (bound_anew a.cell (bound_by a)) in hlevel (at_cell, bound)

term_lends_prop : (p : Code) (f : Func) (t : Term) → IsProp (TermLends p f t)
term_lends_prop p f (Ret x) = not_lent_prop p.types f (x ∷ [])
term_lends_prop p f (Tail func args) = not_lent_prop p.types f (taken_by (reads_of p func) args)
term_lends_prop p f (Goto b) = Unit-prop
term_lends_prop p f (If x first second) = not_lent_prop p.types f (x ∷ [])
term_lends_prop p f (Case x arms) = AllByRecursion-prop (ArmLends p.types f (is_lent p.types f x)) (λ a. arm_lends_prop p.types f (is_lent p.types f x) a) arms

-- ---- blocks, functions and codes

ascend_prop : (xs : List ℕ) → IsProp (Ascend xs)
ascend_prop [] = Unit-prop
ascend_prop (x ∷ []) = Unit-prop
ascend_prop (x ∷ y ∷ xs) = ×_prop le_prop (ascend_prop (y ∷ xs))

block_prop : (p : Code) (f : Func) (number : ℕ) (b : Block) → IsProp (BlockFits p f number b)
block_prop p f number b =
    let params = AllByRecursion-prop (λ x. x < length (local_kinds f)) (λ x. le_prop) b.params in
    let ascending = ascend_prop b.params in
    let entry : IsProp (number ≡ 0 → b.params ≡ range_with_len 0 (length f.params)) = to_prop (numbers_set b.params (range_with_len 0 (length f.params))) in
    let lets = AllByRecursion-prop (LetFits p f) (let_prop p f) b.lets in
    let term = term_prop p f number b.term in
    let lets_lend = AllByRecursion-prop (LetLends p f) (let_lends_prop p f) b.lets in
    let term_lends = term_lends_prop p f b.term in
    let uses = uses_ready_prop (reads_of p) (is_owned p.types f) f.blocks b in
    hlevel (params, ascending, entry, lets, term, lets_lend, term_lends, uses)

blocks_prop : (p : Code) (f : Func) (number : ℕ) (bs : List Block) → IsProp (BlocksFit p f number bs)
blocks_prop p f number [] = Unit-prop
blocks_prop p f number (b ∷ bs) = ×_prop (block_prop p f number b) (blocks_prop p f (suc number) bs)

marked_prop : (types : List DataType) (f : Func) → IsProp ((x : ℕ) → x < length f.params → is_lent types f x ≡ true → is_marked f x ≡ true)
marked_prop types f g h = fun_ext (λ x. to_prop (to_prop (Bool-set (is_marked f x) true)) (g x) (h x))

keeps_prop : (types : List DataType) (f : Func) → IsProp ((x : ℕ) → x < length f.params → is_lent types f x ≡ true → is_heap types f.result ≡ false)
keeps_prop types f g h = fun_ext (λ x. to_prop (to_prop (Bool-set (is_heap types f.result) false)) (g x) (h x))

func_prop : (p : Code) (f : Func) → IsProp (FuncFits p f)
func_prop p f =
    let marked = marked_prop p.types f in
    let keeps = keeps_prop p.types f in
    let kinds = AllByRecursion-prop (IsKnownKind p.types) (known_prop p.types) (local_kinds f) in
    let result = known_prop p.types f.result in
    let blocks = blocks_prop p f 0 f.blocks in
    hlevel (marked, keeps, kinds, result, blocks)

pub well_prop : (p : Code) → IsProp (IsWellFormed p)
well_prop p =
    let type_names = distinct_prop (map (λ t. t.name) p.types) in
    let con_names = distinct_prop (map (λ c. c.name) (constructors p.types)) in
    let func_names = distinct_prop (map (λ f. f.name) p.funcs) in
    let fields = AllByRecursion-prop (λ c. AllByRecursion (IsKnownKind p.types) c.fields) (λ c. AllByRecursion-prop (IsKnownKind p.types) (known_prop p.types) c.fields) (constructors p.types) in
    let funcs = AllByRecursion-prop (FuncFits p) (func_prop p) p.funcs in
    hlevel (type_names, con_names, func_names, fields, funcs)
