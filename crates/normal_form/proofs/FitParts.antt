-- Lines that fit as code: what holds of any lines, and the parts of expressions.
use Rattle.std.proofs.Common.{◌≡◌, ℕ, zero, suc, ◌+◌, Bool, true, false, List, [], ◌∷◌, ◌++◌, length, map, Option, Some, None, refl, sym, ap, ◌∙◌, subst, arith, length-append}
use Rattle.std.specs.Prelude.{if◌then◌else◌, slice_get, IsSomeAnd}
use Rattle.std.specs.Option.{option_map, option_map_or}
use Rattle.camelot_values.specs.Kinds.{Constructor, DataType, constructors, constructor, type_of}
use Rattle.camelot_values.specs.Names.{AreDistinct}
use Rattle.camelot_values.specs.declared.kinds.Kind.{Kind}
use Rattle.camelot_values.specs.declared.kinds.Kind.TheVariants as kind
use Rattle.camelot_tree.specs.declared.tree.Name.{Name}
use Rattle.camelot_tree.specs.declared.tree.ArmCell.{ArmCell}
use Rattle.camelot_tree.specs.declared.tree.ArmCell.TheVariants as cell
use Rattle.camelot_tree.specs.Tree.{Expression, Expressions, NoExpressions, AndExpression}
use Rattle.camelot_typing.specs.Kinds.{Scope, or_else, types_of, fields_of, is_inline, built_kind, numbered}
use Rattle.camelot_typing.specs.Typing as typing
use Rattle.camelot_typing.specs.Typing.{Signature, globals_of, HaveKinds}
use Rattle.camelot_typing.specs.NumberLaws.{At as HasItem}
use Rattle.grail_blocks.specs.declared.blocks.Place.TheVariants as place
use Rattle.grail_blocks.specs.Blocks as block
use Rattle.grail_blocks.specs.Blocks.{Op}
use Rattle.grail_blocks.specs.Events.{bound_by}
use Rattle.grail_code.specs.Code.{Func, Code}
use Rattle.grail_code.specs.WellFormed as code
use Rattle.grail_code.specs.WellFormed.{local_kinds, kind_of, LetFits, Gives, JumpFits, ArmFits, TermFits}
use Rattle.normal_form.specs.Normal.{NormalBlock, Line, Bind, Close, in_first, cut, con_of, place_in, cell_in, case_arm, made, local_of, locals_of, diamond_kinds, kinds, all_kinds}
use Rattle.normal_form.specs.Facts.{BodyFits}
use Rattle.normal_form.proofs.Lines.{closes}
use Rattle.normal_form.proofs.KindsAt.{Frame, At, at_front, at_back, at_head, at_rest, Named, named_kept, named_local, kinds_made, local_is, ArmFor, bound_of}

-- ---- what is common

-- the code of a function
pub record Coding (F : Frame) : Type 0 where
  pub program : Code
  pub func : Func
  pub types_are : program.types ≡ types_of F.source
  pub kinds_are : local_kinds func ≡ F.kinds
  pub callees : (i : ℕ) (s : Signature) → slice_get F.sigs i ≡ Some s
      → IsSomeAnd (slice_get program.funcs i) (λ callee. (callee.params ≡ s.params) × (callee.result ≡ s.result))

abbrev pub LinesFit : Code → Func → ℕ → List Line → Type 0
LinesFit p f number [] = Unit {0}
LinesFit p f number (Bind l ∷ lines) = LetFits p f l × LinesFit p f number lines
LinesFit p f number (Close t ∷ lines) = TermFits p f number t × LinesFit p f (suc number) lines

pub fit_append : (p : Code) (f : Func) (number m : ℕ) (xs ys : List Line) → m ≡ number + closes xs → LinesFit p f number xs → LinesFit p f m ys
    → LinesFit p f number (xs ++ ys)
fit_append p f number m [] ys is h k = let same : m ≡ number = omega (arith, is) in subst (λ n. LinesFit p f n ys) same k
fit_append p f number m (Bind l ∷ xs) ys is h k = (h.0, fit_append p f number m xs ys is h.1 k)
fit_append p f number m (Close t ∷ xs) ys is h k = (h.0, fit_append p f (suc number) m xs ys (omega (arith, is)) h.1 k)

first_fits : (p : Code) (f : Func) (number : ℕ) (l : block.Let) (bs : List NormalBlock) → LetFits p f l → BodyFits p f number bs
    → BodyFits p f number (in_first l bs)
first_fits p f number l [] h k = tt
first_fits p f number l (b ∷ bs) h k = ((h, k.0), k.1, k.2)

pub cut_fits : (p : Code) (f : Func) (number : ℕ) (lines : List Line) → LinesFit p f number lines → BodyFits p f number (cut lines)
cut_fits p f number [] h = tt
cut_fits p f number (Bind l ∷ lines) h = first_fits p f number l (cut lines) h.0 (cut_fits p f number lines h.1)
cut_fits p f number (Close t ∷ lines) h = (tt, h.0, cut_fits p f (suc number) lines h.1)

pub let_fits : (p : Code) (f : Func) (x : ℕ) (op : Op) (q : Kind) → kind_of f x ≡ Some q → Gives p f op q → LetFits p f (record { target = x; op = op })
let_fits p f x op q is gives = subst (λ o. IsSomeAnd o (Gives p f op)) (sym is) gives

-- the kind of a local
pub kind_at : (F : Frame) (C : Coding F) (x : ℕ) (q : Kind) → slice_get F.kinds x ≡ Some q → kind_of C.func x ≡ Some q
kind_at F C x q is = ap (λ ks. slice_get ks x) C.kinds_are ∙ is

pub values_kinds : (F : Frame) (C : Coding F) (es : Expressions) (s : Scope Kind) (l : Scope ℕ) (next : ℕ) (ks : List Kind) → Named F s l next
    → HaveKinds (globals_of F.source F.sigs) s es ks → At F.kinds next (all_kinds F.source F.sigs s es)
    → code.HaveKinds C.func (locals_of F.source es l next) ks
values_kinds F C NoExpressions s l next [] st has at = refl
values_kinds F C NoExpressions s l next (k ∷ ks) st has at = absurd has
values_kinds F C (AndExpression e es) s l next [] st has at = absurd has
values_kinds F C (AndExpression e es) s l next (k ∷ ks) st has at =
    let p = F.source in
    let nb = next + made p e in
    let size = kinds_made F e s k has.0 in
    let x = local_is F e s l next k st has.0 (at_front F.kinds next (kinds p F.sigs s e) (all_kinds p F.sigs s es) at) in
    ap (λ o. o ∷ map (kind_of C.func) (locals_of p es l nb)) (kind_at F C (local_of p e l next) k x.kind)
    ∙ ap (λ l. Some k ∷ l) (values_kinds F C es s l nb ks (named_kept F s l next nb st (omega arith)) has.1 (at_back F.kinds next nb (kinds p F.sigs s e) (all_kinds p F.sigs s es) (omega (arith, size)) at))

-- ---- builds

-- the constructor of this number
pub inline_is : (types : List DataType) (con : ℕ) (c : Constructor) → constructor types con ≡ Some c → is_inline types con ≡ c.inline
inline_is types con c e = ap (λ o. option_map_or (λ d. d.inline) o false) e

pub fields_are : (types : List DataType) (con : ℕ) (c : Constructor) → constructor types con ≡ Some c → fields_of types con ≡ c.fields
fields_are types con c e = ap (λ o. option_map_or (λ d. d.fields) o []) e

place_fits : (F : Frame) (C : Coding F) (s : Scope Kind) (l : Scope ℕ) (next con : ℕ) (place : Option Name) (inline : Bool) → Named F s l next
    → is_inline (types_of F.source) con ≡ inline
    → typing.PlaceFits s (is_inline (types_of F.source) con) place → code.PlaceFits C.func inline (place_in F.source con place l)
place_fits F C s l next con None inline st is fit = by_test (is_inline (types_of F.source) con) is
  where
    by_test : (b : Bool) → b ≡ inline → code.PlaceFits C.func inline (if b then place.Inline else place.New)
    by_test true e = sym e
    by_test false e = sym e
place_fits F C s l next con (Some d) inline st is fit =
    let r = named_local F s l next d.word kind.Dia st fit.1 in
    (sym is ∙ fit.0, ap (λ o. kind_of C.func (or_else o 0)) r.found ∙ kind_at F C r.x kind.Dia r.kind)

pub build_fits : (F : Frame) (C : Coding F) (s : Scope Kind) (l : Scope ℕ) (next con : ℕ) (c : Name) (place : Option Name) (args : List ℕ) (q : Kind)
    → Named F s l next → built_kind (types_of F.source) con ≡ Some q
    → HasItem (constructors (types_of F.source)) con → code.HaveKinds C.func args (fields_of (types_of F.source) con) → typing.PlaceFits s (is_inline (types_of F.source) con) place
    → Gives C.program C.func (block.Make con args (place_in F.source con place l)) q
build_fits F C s l next con c place args q st built item args_fit fit =
    let types = types_of F.source in
    subst (λ ts. IsSomeAnd (constructor ts con) (λ c. code.HaveKinds C.func args c.fields × code.PlaceFits C.func c.inline (place_in F.source con place l) × (option_map kind.Of (type_of ts con) ≡ Some q))) (sym C.types_are)
    (subst (λ o. IsSomeAnd o (λ c. code.HaveKinds C.func args c.fields × code.PlaceFits C.func c.inline (place_in F.source con place l) × (option_map kind.Of (type_of types con) ≡ Some q))) (sym item.is)
    (subst (code.HaveKinds C.func args) (fields_are types con item.item item.is) args_fit, place_fits F C s l next con place item.item.inline st (inline_is types con item.item item.is) fit, built))

-- ---- arms

-- numbers one behind the other are distinct
abbrev Counts : ℕ → List ℕ → Type 0
Counts n xs = (i x : ℕ) → slice_get xs i ≡ Some x → x ≡ n + i

counted_numbers : {A : Type 0} (n : ℕ) (xs : List A) (i x : ℕ) → slice_get (numbered n xs) i ≡ Some x → x ≡ n + i
counted_numbers n [] i x e = let k : None ≡ Some x = e in absurd cc
counted_numbers n (y ∷ xs) zero x e = let same : n ≡ x = cc in omega (arith, same)
counted_numbers n (y ∷ xs) (suc i) x e = let k = counted_numbers (suc n) xs i x e in omega (arith, k)

item_behind : (xs : List ℕ) (x : ℕ) (ys : List ℕ) → slice_get (xs ++ x ∷ ys) (length xs) ≡ Some x
item_behind [] x ys = refl
item_behind (y ∷ xs) x ys = item_behind xs x ys

counted_distinct : (n : ℕ) (xs : List ℕ) → Counts n xs → AreDistinct xs
counted_distinct n xs count x before between rest e =
    let first = count (length before) x (ap (λ l. slice_get l (length before)) e ∙ item_behind before x (between ++ x ∷ rest)) in
    let grouped = append_step before x between rest in
    let second = count (length (before ++ x ∷ between)) x (ap (λ l. slice_get l (length (before ++ x ∷ between))) (e ∙ grouped) ∙ item_behind (before ++ x ∷ between) x rest) in
    let size = length-append before (x ∷ between) in
    omega (arith, first, second, size)
  where
    append_step : (xs : List ℕ) (x : ℕ) (ys zs : List ℕ) → xs ++ x ∷ (ys ++ x ∷ zs) ≡ (xs ++ x ∷ ys) ++ x ∷ zs
    append_step [] x ys zs = refl
    append_step (u ∷ xs) x ys zs = ap (λ l. u ∷ l) (append_step xs x ys zs)

numbered_more : {A : Type 0} (n : ℕ) (xs : List A) (m i x : ℕ) → m ≡ n + length xs → slice_get (numbered n xs ++ m ∷ []) i ≡ Some x → x ≡ n + i
numbered_more n [] m zero x is e = let same : m ≡ x = cc in omega (arith, is, same)
numbered_more n [] m (suc i) x is e = let k : None ≡ Some x = e in absurd cc
numbered_more n (y ∷ xs) m zero x is e = let same : n ≡ x = cc in omega (arith, same)
numbered_more n (y ∷ xs) m (suc i) x is e = let k = numbered_more (suc n) xs m i x (omega (arith, is)) e in omega (arith, k)

nothing_more : (xs : List ℕ) → xs ++ [] ≡ xs
nothing_more [] = refl
nothing_more (x ∷ xs) = ap (λ l. x ∷ l) (nothing_more xs)

bound_distinct : (inline : Bool) (fs : List (Option Name)) (x : ArmCell) (n target : ℕ) → AreDistinct (bound_by (record { fields = numbered n fs; cell = cell_in inline x (n + length fs); target = target }))
bound_distinct true fs cell.Plain n target = subst AreDistinct (sym (nothing_more (numbered n fs))) (counted_distinct n (numbered n fs) (counted_numbers n fs))
bound_distinct false fs cell.Plain n target = subst AreDistinct (sym (nothing_more (numbered n fs))) (counted_distinct n (numbered n fs) (counted_numbers n fs))
bound_distinct inline fs cell.Free n target = subst AreDistinct (sym (nothing_more (numbered n fs))) (counted_distinct n (numbered n fs) (counted_numbers n fs))
bound_distinct inline fs (cell.Keep d) n target = counted_distinct n (numbered n fs ++ ((n + length fs) ∷ [])) (λ i x e. numbered_more n fs (n + length fs) i x refl e)

numbered_kinds : (F : Frame) (C : Coding F) (n : ℕ) (fs : List (Option Name)) (ks : List Kind) → length fs ≡ length ks → At F.kinds n ks
    → code.HaveKinds C.func (numbered n fs) ks
numbered_kinds F C n [] [] full at = refl
numbered_kinds F C n [] (k ∷ ks) full at = absurd (omega (arith, full))
numbered_kinds F C n (f ∷ fs) [] full at = absurd (omega (arith, full))
numbered_kinds F C n (f ∷ fs) (k ∷ ks) full at =
    ap (λ o. o ∷ map (kind_of C.func) (numbered (suc n) fs)) (kind_at F C n k (at_head F.kinds n k ks at)) ∙ ap (λ l. Some k ∷ l) (numbered_kinds F C (suc n) fs ks (omega (arith, full)) (at_rest F.kinds n k ks at))

cell_fits : (F : Frame) (C : Coding F) (x : ArmCell) (m : ℕ) (inline : Bool) → typing.CellFits inline x → At F.kinds m (diamond_kinds x)
    → code.CellFits C.func inline (cell_in inline x m)
cell_fits F C cell.Plain m true fit at = refl
cell_fits F C cell.Plain m false fit at = refl
cell_fits F C cell.Free m inline fit at = fit
cell_fits F C (cell.Keep d) m inline fit at = (fit, kind_at F C m kind.Dia (at_head F.kinds m kind.Dia [] at))

-- an arm for its constructor
pub arm_fits : (F : Frame) (C : Coding F) (number con : ℕ) (c : Constructor) (name : Name) (fs : List (Option Name)) (x : ArmCell) (b : Expression) (n target : ℕ) → ArmFor F.source name fs con → constructor (types_of F.source) con ≡ Some c
    → typing.CellFits (is_inline (types_of F.source) con) x → At F.kinds n (bound_of F.source con x) → JumpFits C.func number target
    → ArmFits C.func number c (case_arm F.source (Some (record { con = name; fields = fs; cell = x; body = b })) n target)
arm_fits F C number con c name fs x b n target a is fit at jump =
    let types = types_of F.source in
    let full = a.full in
    let m = n + length fs in
    let fields = fields_are types con c is in
    let inline = inline_is types con c is in
    record {
      fields = subst (code.HaveKinds C.func (numbered n fs)) fields (numbered_kinds F C n fs (fields_of types con) full (at_front F.kinds n (fields_of types con) (diamond_kinds x) at));
      cell = subst (λ i. code.CellFits C.func i (cell_in (is_inline types (con_of F.source name)) x m)) inline
          (subst (λ k. code.CellFits C.func (is_inline types con) (cell_in (is_inline types k) x m)) (sym a.con_is)
          (cell_fits F C x m (is_inline types con) fit (at_back F.kinds n m (fields_of types con) (diamond_kinds x) (omega (arith, full)) at)));
      distinct = bound_distinct (is_inline types (con_of F.source name)) fs x n target;
      jump = jump;
    }
