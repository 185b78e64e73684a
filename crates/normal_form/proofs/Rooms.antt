-- What parts need fits where the whole fits, and an arm's names are left behind it.
use Rattle.std.proofs.Common.{◌≡◌, ℕ, suc, ◌+◌, ◌-◌, ◌≤◌, List, [], ◌∷◌, ◌++◌, map, length, drop, get_or, Option, Some, None, refl, ap, ◌∙◌, arith, length-append}
use Rattle.std.specs.Prelude.{Result, Ok, Err, OnOk}
use Rattle.camelot_tree.specs.declared.tree.Name.{Name}
use Rattle.camelot_tree.specs.declared.tree.ArmCell.{ArmCell}
use Rattle.camelot_tree.specs.declared.tree.ArmCell.TheVariants as cell
use Rattle.camelot_tree.specs.declared.tree.Expr.{Expr}
use Rattle.camelot_tree.specs.Tree.{Arms, Branch, Source, expression_of, expressions}
use Rattle.camelot_typing.specs.Kinds.{Scope, bind}
use Rattle.normal_form.specs.Normal.{arm_for, cons_of, total, made, all_made, arm_made, ends, all_ends, arm_ends, with_fields, with_cell, in_arm}
use Rattle.normal_form.specs.Counts.{branch_made, branch_ends, over}
use Rattle.normal_form.proofs.Counting.{over_total, branch_made_for, branch_ends_for}
use Rattle.linear_use.specs.TableLaws.{left_item}

pub on_ok : {A E : Type 0} (r : Result A E) (P : Type 0) → P → OnOk r P
on_ok (Ok x) P h = h
on_ok (Err e) P h = tt

-- ---- arguments

pub arg_made : (p : Source) (args : List Expr) (i : ℕ) (x : Expr) → suc i ≤ length args → x ≡ get_or args i x
    → made p (expression_of x) ≤ all_made p (expressions (map expression_of (drop i args)))
arg_made p args i x h e = let k = ap (λ l. all_made p (expressions l)) (left_item expression_of args i (i + 1) x refl h e) in omega (arith, k)

pub arg_ends : (p : Source) (args : List Expr) (i : ℕ) (x : Expr) → suc i ≤ length args → x ≡ get_or args i x
    → ends p (expression_of x) ≤ all_ends p (expressions (map expression_of (drop i args)))
arg_ends p args i x h e = let k = ap (λ l. all_ends p (expressions l)) (left_item expression_of args i (i + 1) x refl h e) in omega (arith, k)

-- ---- arms

pub next_over : {A : Type 0} (count : Option Branch → ℕ) (f : A → Option Branch) (order : List A) (i : ℕ) (x : A) → suc i ≤ length order
    → x ≡ get_or order i x → count (f x) ≤ over count (map f (drop i order))
next_over count f order i x h e = let k = ap (over count) (left_item f order i (i + 1) x refl h e) in omega (arith, k)

pub over_made : (p : Source) (as' : Arms) (order : List (Option Branch)) → order ≡ map (arm_for p as') (cons_of p as')
    → over (branch_made p) order ≡ total (arm_made p as') (cons_of p as')
over_made p as' order h = ap (over (branch_made p)) h ∙ over_total (branch_made p) (arm_made p as') p as' (branch_made_for p as') (cons_of p as')

pub over_ends : (p : Source) (as' : Arms) (order : List (Option Branch)) → order ≡ map (arm_for p as') (cons_of p as')
    → over (branch_ends p) order ≡ total (arm_ends p as') (cons_of p as')
over_ends p as' order h = ap (over (branch_ends p)) h ∙ over_total (branch_ends p) (arm_ends p as') p as' (branch_ends_for p as') (cons_of p as')

-- ---- names of an arm

-- some bindings in front of a scope
record InFront (s inner : Scope ℕ) : Type 0 where
  own : Scope ℕ
  is : inner ≡ own ++ s

front_more : (s inner : Scope ℕ) (n : List ℕ) (x : ℕ) → InFront s inner → InFront s (bind n x inner)
front_more s inner n x h = record { own = bind n x h.own; is = ap (bind n x) h.is }

fields_front : (s : Scope ℕ) (fs : List (Option Name)) (n : ℕ) (inner : Scope ℕ) → InFront s inner → InFront s (with_fields fs n inner)
fields_front s [] n inner h = h
fields_front s (None ∷ fs) n inner h = fields_front s fs (suc n) inner h
fields_front s (Some x ∷ fs) n inner h = fields_front s fs (suc n) (bind x.word n inner) (front_more s inner x.word n h)

cell_front : (s : Scope ℕ) (x : ArmCell) (n : ℕ) (inner : Scope ℕ) → InFront s inner → InFront s (with_cell x n inner)
cell_front s cell.Plain n inner h = h
cell_front s cell.Free n inner h = h
cell_front s (cell.Keep d) n inner h = front_more s inner d.word n h

drop_front : {A : Type 0} (xs ys : List A) → drop (length xs) (xs ++ ys) ≡ ys
drop_front [] ys = refl
drop_front (x ∷ xs) ys = drop_front xs ys

pub arm_left : (a : Branch) (n : ℕ) (s : Scope ℕ) (len : ℕ) (bound inner last : Scope ℕ) → len ≡ length s → bound ≡ in_arm a.fields a.cell n s
    → inner ≡ bound → last ≡ drop (length inner - len) inner → last ≡ s
arm_left a n s len bound inner last h b i l =
    let r = cell_front s a.cell (n + length a.fields) (with_fields a.fields n s) (fields_front s a.fields n s (record { own = []; is = refl })) in
    let is : inner ≡ r.own ++ s = i ∙ b ∙ r.is in
    let count = length-append r.own s in
    let size = ap length is in
    let k : length inner - len ≡ length r.own = omega (arith, h, count, size) in
    l ∙ ap (λ m. drop m inner) k ∙ ap (drop (length r.own)) is ∙ drop_front r.own s
