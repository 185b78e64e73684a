-- What is lent in a function of a normal form: parameters that are marked, and fields of arms that only look.
use Rattle.std.proofs.Common.{◌≡◌, ℕ, zero, suc, ◌+◌, ◌≤◌, ◌<◌, Bool, true, false, List, [], ◌∷◌, ◌++◌, length, map, Some, None, refl, sym, ap, ◌∙◌, arith}
use Rattle.std.specs.Prelude.{◌&&◌, ◌||◌, flat_map, slice_get}
use Rattle.std.specs.List.{list_any}
use Rattle.std.specs.Option.{option_map_or}
use Rattle.camelot_values.specs.Kinds.{DataType}
use Rattle.camelot_values.specs.Heap.{is_heap}
use Rattle.camelot_values.specs.Lists.{is_among}
use Rattle.camelot_values.specs.declared.kinds.Kind.{Kind}
use Rattle.camelot_tree.specs.declared.tree.Name.{Name}
use Rattle.camelot_tree.specs.declared.tree.Param.{Param}
use Rattle.camelot_typing.specs.Kinds.{types_of, head_of, numbered}
use Rattle.camelot_typing.specs.Typing.{Signature, params_scope, globals_of, FunctionsFit}
use Rattle.camelot_typing.specs.Typed.{Typing}
use Rattle.linear_use.specs.Uses.{lent_params, some_lent, loans_of}
use Rattle.grail_blocks.specs.Blocks as block
use Rattle.grail_code.specs.WellFormed.{looked_at, is_marked, is_of_heap, is_read, reads_of}
use Rattle.normal_form.specs.Normal.{NormalBlock, NormalFunction, Line, Bind, Close, in_first, cut, fun_of, normal_form}
use Rattle.normal_form.specs.Coded.{BlockParams, coded_blocks, coded, code_with}
use Rattle.normal_form.proofs.KindsAt.{Frame}
use Rattle.normal_form.proofs.FitParts.{Coding}
use Rattle.normal_form.proofs.Loans.{loans_are}
use Rattle.normal_form.proofs.Looked.{or_true, among_append, looks, Inside, below_none}
use Rattle.normal_form.proofs.LendParts.{ReadAs, item_less, Flagged, flagged_bind, lent_in, heap_at, or_none}

-- ---- fields of arms that only look

coded_looks : (takes : ℕ → List ℕ) (number : ℕ) (bs : List NormalBlock) → flat_map (λ b. looked_at b.term) (coded_blocks takes number bs) ≡ flat_map (λ b. looked_at b.term) bs
coded_looks takes number [] = refl
coded_looks takes number (b ∷ bs) = ap (λ l. looked_at b.term ++ l) (coded_looks takes (suc number) bs)

first_looks : (l : block.Let) (bs : List NormalBlock) → flat_map (λ b. looked_at b.term) (in_first l bs) ≡ flat_map (λ b. looked_at b.term) bs
first_looks l [] = refl
first_looks l (b ∷ bs) = refl

pub cut_looks : (lines : List Line) (x : ℕ) → is_among (flat_map (λ b. looked_at b.term) (cut lines)) x ≡ looks lines x
cut_looks [] x = refl
cut_looks (Bind l ∷ lines) x = ap (λ ys. is_among ys x) (first_looks l (cut lines)) ∙ cut_looks lines x
cut_looks (Close t ∷ lines) x =
    among_append (looked_at t) (flat_map (λ b. looked_at b.term) (cut lines)) x ∙ ap (λ b. is_among (looked_at t) x || b) (cut_looks lines x)

-- what is read in a function whose blocks are these lines
pub read_is : (takes : BlockParams) (f : NormalFunction) (lines : List Line) (x : ℕ) → f.blocks ≡ cut lines → is_read (coded takes f) x ≡ (is_marked (coded takes f) x || looks lines x)
read_is takes f lines x e =
    ap (λ ys. is_marked (coded takes f) x || is_among ys x) (coded_looks (takes f) 0 f.blocks) ∙ ap (λ bs. is_marked (coded takes f) x || is_among (flat_map (λ b. looked_at b.term) bs) x) e
    ∙ ap (λ b. is_marked (coded takes f) x || b) (cut_looks lines x)

-- ---- marks

marks_beyond : (types : List DataType) (xs : List Param) (ks : List Kind) (i : ℕ) → length xs ≤ i → slice_get (lent_params types xs ks) i ≡ None
marks_beyond types [] ks i h = refl
marks_beyond types (x ∷ xs) [] i h = refl
marks_beyond types (x ∷ xs) (k ∷ ks) zero h = absurd (omega (arith, h))
marks_beyond types (x ∷ xs) (k ∷ ks) (suc i) h = marks_beyond types xs ks i (omega (arith, h))

-- a parameter that is marked is of a heap kind
record MarkAt (types : List DataType) (ks : List Kind) (i : ℕ) (m : Bool) : Type 0 where
  pub k : Kind
  pub is : slice_get ks i ≡ Some k
  pub heap : m ≡ (is_heap types k && m)

both_heap : (r h : Bool) → (r && h) ≡ (h && (r && h))
both_heap true true = refl
both_heap true false = refl
both_heap false true = refl
both_heap false false = refl

mark_at : (types : List DataType) (xs : List Param) (ks : List Kind) (i : ℕ) (m : Bool) → slice_get (lent_params types xs ks) i ≡ Some m → MarkAt types ks i m
mark_at types [] ks i m e = let q : None ≡ Some m = e in absurd cc
mark_at types (x ∷ xs) [] i m e = let q : None ≡ Some m = e in absurd cc
mark_at types (x ∷ xs) (k ∷ ks) zero m e =
    let same : (x.read && is_heap types k) ≡ m = cc in
    record { k = k; is = refl; heap = sym same ∙ both_heap x.read (is_heap types k) ∙ ap (λ b. is_heap types k && b) same }
mark_at types (x ∷ xs) (k ∷ ks) (suc i) m e = let r = mark_at types xs ks i m e in record { k = r.k; is = r.is; heap = r.heap }

flagged_params : (lent : ℕ → Bool) (types : List DataType) (xs : List Param) (ks : List Kind) (first : ℕ) → length xs ≡ length ks
    → ((i : ℕ) (m : Bool) → slice_get (lent_params types xs ks) i ≡ Some m → m ≡ lent (first + i))
    → Flagged lent (params_scope xs (numbered first xs)) (params_scope xs (lent_params types xs ks))
flagged_params lent types [] ks first full each = record { at = λ name x e. (let q : None ≡ Some x = e in absurd cc) }
flagged_params lent types (x ∷ xs) [] first full each = absurd (omega (arith, full))
flagged_params lent types (x ∷ xs) (k ∷ ks) first full each =
    let start : first + 0 ≡ first = omega arith in
    flagged_bind lent (params_scope xs (numbered (suc first) xs)) (params_scope xs (lent_params types xs ks)) x.name.word first (x.read && is_heap types k)
    (flagged_params lent types xs ks (suc first) (omega (arith, full)) (λ i m e. each (suc i) m e ∙ (let same : first + suc i ≡ suc first + i = omega arith in ap lent same)))
    (each 0 (x.read && is_heap types k) refl ∙ ap lent start)

some_marked : (ms : List Bool) (x : ℕ) → option_map_or (λ mark. mark) (slice_get ms x) false ≡ true → some_lent ms ≡ true
some_marked [] x e = let q : false ≡ true = e in absurd cc
some_marked (m ∷ ms) zero e = ap (λ b. b || list_any (λ m. m) ms) e
some_marked (m ∷ ms) (suc x) e = ap (λ b. m || b) (some_marked ms x e) ∙ or_true m

-- ---- functions

second_holds : (a b : Bool) → (a && b) ≡ true → b ≡ true
second_holds true b e = e
second_holds false b e = absurd cc

-- A function with these parameters, whose lines make further locals from `n` on, of which they only look at some.
pub record Lines (F : Frame) (C : Coding F) (takes : BlockParams) (f : NormalFunction) (xs : List Param) (ks : List Kind) (n top : ℕ) (lines : List Line) : Type 0 where
  pub is : C.func ≡ coded takes f
  pub blocks : f.blocks ≡ cut lines
  pub reads : f.reads ≡ lent_params (types_of F.source) xs ks
  pub full : length xs ≡ length ks
  pub count : n ≡ length xs
  pub kinds : (i : ℕ) (k : Kind) → slice_get ks i ≡ Some k → slice_get F.kinds i ≡ Some k
  pub inside : Inside n top (looks lines)

read_in : (F : Frame) (C : Coding F) (takes : BlockParams) (f : NormalFunction) (xs : List Param) (ks : List Kind) (n top : ℕ) (lines : List Line) → Lines F C takes f xs ks n top lines → (x : ℕ)
    → is_read C.func x ≡ (is_marked C.func x || looks lines x)
read_in F C takes f xs ks n top lines L x = ap (λ g. is_read g x) L.is ∙ read_is takes f lines x L.blocks ∙ ap (λ g. is_marked g x || looks lines x) (sym L.is)

marked_in : (F : Frame) (C : Coding F) (takes : BlockParams) (f : NormalFunction) (xs : List Param) (ks : List Kind) (n top : ℕ) (lines : List Line) → Lines F C takes f xs ks n top lines → (x : ℕ)
    → is_marked C.func x ≡ option_map_or (λ mark. mark) (slice_get (lent_params (types_of F.source) xs ks) x) false
marked_in F C takes f xs ks n top lines L x = ap (λ g. is_marked g x) L.is ∙ ap (λ ms. option_map_or (λ mark. mark) (slice_get ms x) false) L.reads

-- of the further locals the lines tell which are read
pub further_read : (F : Frame) (C : Coding F) (takes : BlockParams) (f : NormalFunction) (xs : List Param) (ks : List Kind) (n top high : ℕ) (lines : List Line) → Lines F C takes f xs ks n top lines
    → ReadAs C.func n high (looks lines)
further_read F C takes f xs ks n top high lines L x least below =
    let count = L.count in
    read_in F C takes f xs ks n top lines L x
    ∙ ap (λ b. b || looks lines x) (marked_in F C takes f xs ks n top lines L x ∙ ap (λ o. option_map_or (λ mark. mark) o false) (marks_beyond (types_of F.source) xs ks x (omega (arith, least, count))))

-- and of the parameters the marks
param_read : (F : Frame) (C : Coding F) (takes : BlockParams) (f : NormalFunction) (xs : List Param) (ks : List Kind) (n top : ℕ) (lines : List Line) → Lines F C takes f xs ks n top lines → (x : ℕ) → x < n
    → is_read C.func x ≡ is_marked C.func x
param_read F C takes f xs ks n top lines L x less =
    read_in F C takes f xs ks n top lines L x ∙ or_none (is_marked C.func x) (looks lines x) (below_none n top (looks lines) x L.inside less)

pub param_marked : (F : Frame) (C : Coding F) (takes : BlockParams) (f : NormalFunction) (xs : List Param) (ks : List Kind) (n top : ℕ) (lines : List Line) → Lines F C takes f xs ks n top lines → (x : ℕ) → x < n
    → lent_in F C x ≡ true → is_marked C.func x ≡ true
param_marked F C takes f xs ks n top lines L x less lent =
    sym (param_read F C takes f xs ks n top lines L x less) ∙ second_holds (is_of_heap C.program.types C.func x) (is_read C.func x) lent

pub param_some : (F : Frame) (C : Coding F) (takes : BlockParams) (f : NormalFunction) (xs : List Param) (ks : List Kind) (n top : ℕ) (lines : List Line) → Lines F C takes f xs ks n top lines → (x : ℕ) → x < n
    → lent_in F C x ≡ true → some_lent (lent_params (types_of F.source) xs ks) ≡ true
param_some F C takes f xs ks n top lines L x less lent =
    some_marked (lent_params (types_of F.source) xs ks) x (sym (marked_in F C takes f xs ks n top lines L x) ∙ param_marked F C takes f xs ks n top lines L x less lent)

pub params_flagged : (F : Frame) (C : Coding F) (takes : BlockParams) (f : NormalFunction) (xs : List Param) (ks : List Kind) (n top : ℕ) (lines : List Line) → Lines F C takes f xs ks n top lines
    → Flagged (lent_in F C) (params_scope xs (numbered 0 xs)) (params_scope xs (lent_params (types_of F.source) xs ks))
params_flagged F C takes f xs ks n top lines L = flagged_params (lent_in F C) (types_of F.source) xs ks 0 L.full (λ i m e.
    let r = mark_at (types_of F.source) xs ks i m e in
    let less = item_less ks i r.k r.is in
    let full = L.full in
    let count = L.count in
    let start : i ≡ 0 + i = omega arith in
    let own = param_read F C takes f xs ks n top lines L i (omega (arith, less, full, count)) ∙ marked_in F C takes f xs ks n top lines L i ∙ ap (λ o. option_map_or (λ mark. mark) o false) e in
    r.heap ∙ sym (ap (λ h. h && is_read C.func i) (heap_at F C i r.k (L.kinds i r.k r.is)) ∙ ap (λ b. is_heap (types_of F.source) r.k && b) own) ∙ ap (lent_in F C) start)

-- ---- calls

coded_reads : (takes : BlockParams) (fs : List NormalFunction) (i : ℕ)
    → option_map_or (λ f. f.reads) (slice_get (map (coded takes) fs) i) [] ≡ option_map_or (λ f. f.reads) (slice_get fs i) []
coded_reads takes [] i = refl
coded_reads takes (f ∷ fs) zero = refl
coded_reads takes (f ∷ fs) (suc i) = coded_reads takes fs i

pub callees_lend : (takes : BlockParams) (t : Typing) → FunctionsFit t.source (globals_of t.source t.signatures) t.source.funs t.signatures → (f : Name) (h : Signature)
    → head_of t.signatures f.word ≡ Some h → reads_of (code_with takes (normal_form t)) (fun_of t.source f) ≡ loans_of t.source t.signatures f.word
callees_lend takes t fit f h e = coded_reads takes (normal_form t).functions (fun_of t.source f) ∙ loans_are t f h fit e
