-- The lines of expressions only look at what is lent, and the local that has a value that is taken isn't lent.
use Rattle.std.proofs.Common.{◌≡◌, ℕ, suc, ◌+◌, ◌≤◌, Bool, true, false, List, [], ◌∷◌, ◌++◌, Option, Some, None, refl, sym, ap, ◌∙◌, subst, arith}
use Rattle.std.specs.Prelude.{◌||◌, if◌then◌else◌}
use Rattle.std.specs.List.{AllByRecursion}
use Rattle.camelot_values.specs.Kinds.{DataType}
use Rattle.camelot_values.specs.declared.kinds.Kind.{Kind}
use Rattle.camelot_values.specs.declared.kinds.Kind.TheVariants as kind
use Rattle.camelot_tree.specs.declared.tree.Name.{Name}
use Rattle.camelot_tree.specs.declared.tree.ArmCell.{ArmCell}
use Rattle.camelot_tree.specs.Tree.{Expression, Num, Truth, Var, Prim, If, Let, Match, Build, Call, Expressions, NoExpressions, AndExpression, Arms, NoArms, AndArm}
use Rattle.camelot_tree.specs.Meaning.{constructor_number, is_that}
use Rattle.camelot_typing.specs.Kinds as typed
use Rattle.camelot_typing.specs.Kinds.{Scope, bind, arm_scope, types_of, is_inline}
use Rattle.camelot_typing.specs.Typing as typing
use Rattle.camelot_typing.specs.Typing.{Signature, known_kind, globals_of, HaveKinds, ArmsHaveKind}
use Rattle.linear_use.specs.Uses.{Loans, IsLinear, AllAreLinear, ArmsAreLinear, PlaceIsOwned, looks_at, arm_flags, is_read_here, reads_behind, is_reading}
use Rattle.grail_blocks.specs.declared.blocks.Place.TheVariants as place
use Rattle.grail_blocks.specs.Blocks as block
use Rattle.grail_blocks.specs.Blocks.{Op}
use Rattle.grail_blocks.specs.Events.{taken_by, taken}
use Rattle.grail_code.specs.Code.{Func, Code}
use Rattle.grail_code.specs.WellFormed.{is_lent, reads_of, takes, AreNotLent, ArmLends}
use Rattle.normal_form.specs.Normal.{Line, Close, new, con_of, fun_of, place_in, cons_of, arm_for, bound_count, in_arm, case_arm, case_arms, total, in_turn, made, all_made, arm_made, ends, arm_ends, local_of, locals_of, joining, value, values, arm_value, bound_kinds, kind_in, all_of, kinds, all_kinds, arm_kinds}
use Rattle.normal_form.proofs.KindsAt.{Frame, At, at_front, at_back, at_rest, Named, named_kept, named_bind, named_local, kind_is, kind_same, in_let, kinds_made, arm_kinds_made, local_is, arm_for_con, bound_of, bound_same, bound_are, named_arm}
use Rattle.normal_form.proofs.Frames.{Typed}
use Rattle.normal_form.proofs.FitParts.{Coding}
use Rattle.normal_form.proofs.Looked.{looks, arm_looks, Inside, below_none, above_none, nothing, inside_then, turns_inside, value_inside, values_inside, arm_value_inside, fields_inside}
use Rattle.normal_form.proofs.LendParts.{LinesLend, lend_append, ReadAs, read_within, read_front, read_back, not_lent, Flagged, flagged_bind, flag_is, lent_in, ArmGoes, lends_split, turns_lend, arm_stands}

-- the marks of a function that is called are those that the rule goes by
abbrev pub CalleesLend : (F : Frame) → Coding F → Loans → Type 0
CalleesLend F C loans = (f : Name) (h : Signature) → typed.head_of F.sigs f.word ≡ Some h → reads_of C.program (fun_of F.source f) ≡ loans f.word

abbrev pub Linear : Frame → Loans → Scope Kind → Scope Bool → Expression → Type 0
Linear F loans s flags e = IsLinear loans (globals_of F.source F.sigs) s flags e

-- ---- parts

pub record ValueLends (p : Code) (f : Func) (lines : List Line) (x : ℕ) : Type 0 where
  pub lines_lend : LinesLend p f lines
  pub own : is_lent p.types f x ≡ false

-- what stands as a scrutinee
pub record OnLends (p : Code) (f : Func) (lines : List Line) (x : ℕ) (lent : Bool) : Type 0 where
  pub lines_lend : LinesLend p f lines
  pub own : is_lent p.types f x ≡ lent

name_lent : (F : Frame) (C : Coding F) (n : Name) (s : Scope Kind) (l : Scope ℕ) (flags : Scope Bool) (next : ℕ) (q : Kind) → Named F s l next → Flagged (lent_in F C) l flags
    → Typed F s (Var n) q → lent_in F C (local_of F.source (Var n) l next) ≡ looks_at flags (Var n)
name_lent F C n s l flags next q st fl has = sym (flag_is F.kinds (lent_in F C) l flags next n q fl (named_local F s l next n.word q st has))

looked_lends : (F : Frame) (C : Coding F) (e : Expression) (s : Scope Kind) (l : Scope ℕ) (flags : Scope Bool) (next number : ℕ) (q : Kind) → Named F s l next → Flagged (lent_in F C) l flags
    → Typed F s e q → looks_at flags e ≡ true → OnLends C.program C.func (value F.source e l next number) (local_of F.source e l next) (looks_at flags e)
looked_lends F C (Var n) s l flags next number q st fl has e = record { lines_lend = tt; own = name_lent F C n s l flags next q st fl has }
looked_lends F C (Num z l0) s l flags next number q st fl has e = absurd cc
looked_lends F C (Truth b l0) s l flags next number q st fl has e = absurd cc
looked_lends F C (Prim op a b l0) s l flags next number q st fl has e = absurd cc
looked_lends F C (If c a b l0) s l flags next number q st fl has e = absurd cc
looked_lends F C (Let n a b) s l flags next number q st fl has e = absurd cc
looked_lends F C (Match a as' l0) s l flags next number q st fl has e = absurd cc
looked_lends F C (Build c es place) s l flags next number q st fl has e = absurd cc
looked_lends F C (Call f es) s l flags next number q st fl has e = absurd cc

pub on_lends : (F : Frame) (C : Coding F) (e : Expression) (s : Scope Kind) (l : Scope ℕ) (flags : Scope Bool) (next number : ℕ) (q : Kind) → Named F s l next → Flagged (lent_in F C) l flags
    → Typed F s e q → (looks_at flags e ≡ false → ValueLends C.program C.func (value F.source e l next number) (local_of F.source e l next))
    → OnLends C.program C.func (value F.source e l next number) (local_of F.source e l next) (looks_at flags e)
on_lends F C e s l flags next number q st fl has rec = by_test (looks_at flags e) refl
  where
    by_test : (b : Bool) → looks_at flags e ≡ b → OnLends C.program C.func (value F.source e l next number) (local_of F.source e l next) (looks_at flags e)
    by_test true is = looked_lends F C e s l flags next number q st fl has is
    by_test false is = let v = rec is in record { lines_lend = v.lines_lend; own = v.own ∙ sym is }

-- ---- arguments

pub record ArgsLend (p : Code) (f : Func) (marks : List Bool) (lines : List Line) (xs : List ℕ) : Type 0 where
  pub lines_lend : LinesLend p f lines
  pub taken : AreNotLent p.types f (taken_by marks xs)

-- an argument that is only read has no lines
reading_lends : (F : Frame) (C : Coding F) (marks : List Bool) (e : Expression) (l : Scope ℕ) (next number : ℕ) → is_reading marks e ≡ true → LinesLend C.program C.func (value F.source e l next number)
reading_lends F C marks (Var n) l next number h = tt
reading_lends F C marks (Num z l0) l next number h = absurd cc
reading_lends F C marks (Truth b l0) l next number h = absurd cc
reading_lends F C marks (Prim op a b l0) l next number h = absurd cc
reading_lends F C marks (If c a b l0) l next number h = absurd cc
reading_lends F C marks (Let n a b) l next number h = absurd cc
reading_lends F C marks (Match a as' l0) l next number h = absurd cc
reading_lends F C marks (Build c es place) l next number h = absurd cc
reading_lends F C marks (Call f es) l next number h = absurd cc

not_reading : (marks : List Bool) (e : Expression) → is_read_here marks ≡ false → is_reading marks e ≡ false
not_reading marks (Var n) h = h
not_reading marks (Num z l0) h = refl
not_reading marks (Truth b l0) h = refl
not_reading marks (Prim op a b l0) h = refl
not_reading marks (If c a b l0) h = refl
not_reading marks (Let n a b) h = refl
not_reading marks (Match a as' l0) h = refl
not_reading marks (Build c es place) h = refl
not_reading marks (Call f es) h = refl

taken_more : (types : List DataType) (f : Func) (marks : List Bool) (x : ℕ) (xs : List ℕ) → (is_read_here marks ≡ false → is_lent types f x ≡ false) → AreNotLent types f (taken_by (reads_behind marks) xs)
    → AreNotLent types f (taken_by marks (x ∷ xs))
taken_more types f [] x xs h k = (h refl, k)
taken_more types f (true ∷ marks) x xs h k = k
taken_more types f (false ∷ marks) x xs h k = (h refl, k)

argument_lends : (F : Frame) (C : Coding F) (marks : List Bool) (e : Expression) (l : Scope ℕ) (next number : ℕ)
    → (is_reading marks e ≡ false → ValueLends C.program C.func (value F.source e l next number) (local_of F.source e l next)) → LinesLend C.program C.func (value F.source e l next number)
argument_lends F C marks e l next number rec = by_test (is_reading marks e) refl
  where
    by_test : (b : Bool) → is_reading marks e ≡ b → LinesLend C.program C.func (value F.source e l next number)
    by_test true is = reading_lends F C marks e l next number is
    by_test false is = (rec is).lines_lend

not_lent_append : (types : List DataType) (f : Func) (xs ys : List ℕ) → AreNotLent types f xs → AreNotLent types f ys → AreNotLent types f (xs ++ ys)
not_lent_append types f [] ys h k = k
not_lent_append types f (x ∷ xs) ys h k = (h.0, not_lent_append types f xs ys h.1 k)

-- the diamond of a build
place_lends : (F : Frame) (C : Coding F) (s : Scope Kind) (l : Scope ℕ) (flags : Scope Bool) (next con : ℕ) (inline : Bool) (place : Option Name) → Named F s l next → Flagged (lent_in F C) l flags
    → typing.PlaceFits s inline place → PlaceIsOwned flags place → AreNotLent C.program.types C.func (taken (place_in F.source con place l))
place_lends F C s l flags next con inline None st fl fit own = by_test (is_inline (types_of F.source) con)
  where
    by_test : (b : Bool) → AreNotLent C.program.types C.func (taken (if b then place.Inline else place.New))
    by_test true = tt
    by_test false = tt
place_lends F C s l flags next con inline (Some d) st fl fit own = (sym (flag_is F.kinds (lent_in F C) l flags next d kind.Dia fl (named_local F s l next d.word kind.Dia st fit.1)) ∙ own, tt)

-- ---- a new local

-- a let behind these lines
bound_lends : (F : Frame) (C : Coding F) (lines : List Line) (next x : ℕ) (op : Op) → LinesLend C.program C.func lines → AreNotLent C.program.types C.func (takes C.program op)
    → Inside next x (looks lines) → next ≤ x → ReadAs C.func next (suc x) (looks (lines ++ (new x op ∷ []))) → ValueLends C.program C.func (lines ++ (new x op ∷ [])) x
bound_lends F C lines next x op h own inside least reads =
    let rest = read_back C.func next (suc x) x next lines (new x op ∷ []) reads least inside in
    let target = not_lent C.program.types C.func x (rest x (omega arith) (omega arith)) in
    record { lines_lend = lend_append C.program C.func lines (new x op ∷ []) h (record { taken = own; target = target }, tt); own = target }

joined_lends : (F : Frame) (C : Coding F) (lines : List Line) (x result join : ℕ) → ValueLends C.program C.func lines x → is_lent C.program.types C.func result ≡ false
    → LinesLend C.program C.func (joining lines x result join)
joined_lends F C lines x result join v to =
    lend_append C.program C.func lines (new result (block.Copy x) ∷ Close (block.Goto join) ∷ []) v.lines_lend (record { taken = (v.own, tt); target = to }, (tt, tt))

-- the locals of a branch that joins
joined_reads : (f : Func) (low high : ℕ) (lines : List Line) (x result join : ℕ) → ReadAs f low high (looks (joining lines x result join)) → ReadAs f low high (looks lines)
joined_reads f low high lines x result join reads = read_front f low high high high lines (new result (block.Copy x) ∷ Close (block.Goto join) ∷ []) reads (omega arith) (nothing high high)

-- the body's locals of an arm
pub body_reads : (F : Frame) (C : Coding F) (c : Name) (fs : List (Option Name)) (b : Expression) (n i more : ℕ) (x : ArmCell) (lines : List Line)
    → ReadAs C.func n (n + (bound_count fs x + more)) (arm_looks (case_arm F.source (Some (record { con = c; fields = fs; cell = x; body = b })) n i) lines)
    → ReadAs C.func (n + bound_count fs x) ((n + bound_count fs x) + more) (looks lines)
body_reads F C c fs b n i more x lines reads y least below =
    let a = case_arm F.source (Some (record { con = c; fields = fs; cell = x; body = b })) n i in
    reads y (omega (arith, least)) (omega (arith, below))
    ∙ ap (λ b. b || looks lines y) (above_none n (n + bound_count fs x) _ y (fields_inside a.cell n fs (n + bound_count fs x) (omega arith)) least)

-- ---- expressions

mutual
  pub value_lends : (F : Frame) (C : Coding F) (loans : Loans) (calls : CalleesLend F C loans) (e : Expression) (s : Scope Kind) (l : Scope ℕ) (flags : Scope Bool) (next number : ℕ) (q : Kind) → Named F s l next
      → Flagged (lent_in F C) l flags → Typed F s e q → Linear F loans s flags e → At F.kinds next (kinds F.source F.sigs s e)
      → ReadAs C.func next (next + made F.source e) (looks (value F.source e l next number)) → ValueLends C.program C.func (value F.source e l next number) (local_of F.source e l next)
  value_lends F C loans calls (Var n) s l flags next number q st fl has lin at reads = record { lines_lend = tt; own = name_lent F C n s l flags next q st fl has ∙ lin }
  value_lends F C loans calls (Num z l0) s l flags next number q st fl has lin at reads =
      bound_lends F C [] next next (block.Lit z) tt tt (nothing next next) (omega arith) (read_within C.func next (next + 1) next (suc next) (λ x. false) reads (omega arith) (omega arith))
  value_lends F C loans calls (Truth b l0) s l flags next number q st fl has lin at reads =
      bound_lends F C [] next next (block.Flag b) tt tt (nothing next next) (omega arith) (read_within C.func next (next + 1) next (suc next) (λ x. false) reads (omega arith) (omega arith))
  value_lends F C loans calls (Prim op a b l0) s l flags next number q st fl has lin at reads =
      let p = F.source in
      let nb = next + made p a in
      let mb = number + ends p a in
      let xa = local_of p a l next in
      let xb = local_of p b l nb in
      let x = next + (made p a + made p b) in
      let top = next + suc (made p a + made p b) in
      let first = value p a l next number in
      let second = value p b l nb mb in
      let last = new x (block.Prim op xa xb) ∷ [] in
      let size = kinds_made F a s kind.Int has.0 in
      let at_a = at_front F.kinds next (kinds p F.sigs s a) (kinds p F.sigs s b ++ (_ ∷ [])) at in
      let at_b = at_front F.kinds nb (kinds p F.sigs s b) (_ ∷ []) (at_back F.kinds next nb (kinds p F.sigs s a) (kinds p F.sigs s b ++ (_ ∷ [])) (omega (arith, size)) at) in
      let st_b = named_kept F s l next nb st (omega arith) in
      let inside_b = value_inside p b l nb mb in
      let behind_a = inside_then nb (nb + made p b) nb top second last inside_b (omega arith) (omega arith) (nothing nb top) in
      let va = value_lends F C loans calls a s l flags next number kind.Int st fl has.0 lin.0 at_a (read_front C.func next top nb top first (second ++ last) reads (omega arith) behind_a) in
      let rest = read_back C.func next top nb next first (second ++ last) reads (omega arith) (value_inside p a l next number) in
      let vb = value_lends F C loans calls b s l flags nb mb kind.Int st_b fl has.1 lin.1 at_b (read_front C.func nb top (nb + made p b) top second last rest (omega arith) (nothing (nb + made p b) top)) in
      let inner = bound_lends F C second nb x (block.Prim op xa xb) vb.lines_lend (va.own, (vb.own, tt)) (λ y e. (let k = inside_b y e in (k.0, omega (arith, k)))) (omega arith)
      (read_within C.func nb top nb (suc x) (looks (second ++ last)) rest (omega arith) (omega arith)) in
      record { lines_lend = lend_append C.program C.func first (second ++ last) va.lines_lend inner.lines_lend; own = inner.own }
  value_lends F C loans calls (Build c es place) s l flags next number q st fl has lin at reads =
      let p = F.source in
      let xs = locals_of p es l next in
      let x = next + all_made p es in
      let op = block.Make (con_of p c) xs (place_in p (con_of p c) place l) in
      let lines = values p es l next number in
      let at_es = at_front F.kinds next (all_kinds p F.sigs s es) (_ ∷ []) at in
      let top = next + suc (all_made p es) in
      let args = values_lends F C loans calls es s l flags [] next number _ st fl has.3 lin.0 at_es (read_front C.func next top x top lines (new x op ∷ []) reads (omega arith) (nothing x top)) in
      bound_lends F C lines next x op args.lines_lend (not_lent_append C.program.types C.func xs (taken (place_in p (con_of p c) place l)) args.taken (place_lends F C s l flags next (con_of p c) _ place st fl has.4 lin.1)) (values_inside p es l next number) (omega arith)
      (read_within C.func next top next (suc x) (looks (lines ++ (new x op ∷ []))) reads (omega arith) (omega arith))
  value_lends F C loans calls (Call f es) s l flags next number q st fl has lin at reads =
      let p = F.source in
      let xs = locals_of p es l next in
      let x = next + all_made p es in
      let op = block.Call (fun_of p f) xs in
      let lines = values p es l next number in
      let at_es = at_front F.kinds next (all_kinds p F.sigs s es) (_ ∷ []) at in
      let top = next + suc (all_made p es) in
      let args = values_lends F C loans calls es s l flags (loans f.word) next number has.0.params st fl has.3 lin at_es (read_front C.func next top x top lines (new x op ∷ []) reads (omega arith) (nothing x top)) in
      bound_lends F C lines next x op args.lines_lend (subst (λ marks. AreNotLent C.program.types C.func (taken_by marks xs)) (sym (calls f has.0 has.1)) args.taken) (values_inside p es l next number) (omega arith)
      (read_within C.func next top next (suc x) (looks (lines ++ (new x op ∷ []))) reads (omega arith) (omega arith))
  value_lends F C loans calls (Let n a b) s l flags next number q st fl has lin at reads =
      let p = F.source in
      let k = kind_in p F.sigs s a in
      let nb = next + made p a in
      let mb = number + ends p a in
      let xa = local_of p a l next in
      let l1 = bind n.word xa l in
      let top = next + (made p a + made p b) in
      let first = value p a l next number in
      let second = value p b l1 nb mb in
      let size = kinds_made F a s has.0 has.1 in
      let has_a = subst (Typed F s a) (kind_is F a s has.0 has.1) has.1 in
      let at_a = at_front F.kinds next (kinds p F.sigs s a) (kinds p F.sigs (bind n.word k s) b) at in
      let x = local_is F a s l next k st has_a at_a in
      let lin_b = subst (λ o. Linear F loans (bind n.word o s) (bind n.word false flags) b) (kind_same F a s has.0 has.1) lin.2 in
      let va = value_lends F C loans calls a s l flags next number k st fl has_a lin.0 at_a (read_front C.func next top nb (nb + made p b) first second reads (omega arith) (value_inside p b l1 nb mb)) in
      let vb = value_lends F C loans calls b (bind n.word k s) l1 (bind n.word false flags) nb mb q (named_bind F s l nb n.word k xa (named_kept F s l next nb st (omega arith)) x.kind x.below) (flagged_bind (lent_in F C) l flags n.word xa false fl (sym va.own))
      (in_let F s n a b has.0 q has.1 has.2) lin_b (at_back F.kinds next nb (kinds p F.sigs s a) (kinds p F.sigs (bind n.word k s) b) (omega (arith, size)) at)
      (read_within C.func nb top nb (nb + made p b) (looks second) (read_back C.func next top nb next first second reads (omega arith) (value_inside p a l next number)) (omega arith) (omega arith)) in
      record { lines_lend = lend_append C.program C.func first second va.lines_lend vb.lines_lend; own = vb.own }
  value_lends F C loans calls (If c a b l0) s l flags next number q st fl has lin at reads =
      let p = F.source in
      let result = next + made p c in
      let b0 = number + ends p c in
      let yes = suc b0 in
      let no = yes + suc (ends p a) in
      let join = no + suc (ends p b) in
      let n1 = suc result in
      let n2 = n1 + made p a in
      let n3 = n2 + made p b in
      let top = next + suc (made p c + (made p a + made p b)) in
      let xc = local_of p c l next in
      let xa = local_of p a l n1 in
      let xb = local_of p b l n2 in
      let lc = value p c l next number in
      let la = value p a l n1 yes in
      let lb = value p b l n2 no in
      let first = joining la xa result join in
      let second = joining lb xb result join in
      let end = Close (block.If xc yes no) in
      let size = kinds_made F c s kind.Flag has.0 in
      let size_a = kinds_made F a s q has.1 in
      let at_c = at_front F.kinds next (kinds p F.sigs s c) (_ ∷ (kinds p F.sigs s a ++ kinds p F.sigs s b)) at in
      let at_both = at_rest F.kinds result _ (kinds p F.sigs s a ++ kinds p F.sigs s b) (at_back F.kinds next result (kinds p F.sigs s c) (_ ∷ (kinds p F.sigs s a ++ kinds p F.sigs s b)) (omega (arith, size)) at) in
      let at_a = at_front F.kinds n1 (kinds p F.sigs s a) (kinds p F.sigs s b) at_both in
      let at_b = at_back F.kinds n1 n2 (kinds p F.sigs s a) (kinds p F.sigs s b) (omega (arith, size_a)) at_both in
      let inside_a = inside_then n1 n2 n1 n2 la (new result (block.Copy xa) ∷ Close (block.Goto join) ∷ []) (value_inside p a l n1 yes) (omega arith) (omega arith) (nothing n1 n2) in
      let inside_b = inside_then n2 n3 n2 n3 lb (new result (block.Copy xb) ∷ Close (block.Goto join) ∷ []) (value_inside p b l n2 no) (omega arith) (omega arith) (nothing n2 n3) in
      let wide_b : Inside n1 n3 (looks second) = (λ y e. (let k = inside_b y e in (omega (arith, k), omega (arith, k)))) in
      let inside_both = inside_then n1 n2 n1 n3 first second inside_a (omega arith) (omega arith) wide_b in
      let wide : Inside result n3 (looks (end ∷ (first ++ second))) = (λ y e. (let k = inside_both y e in (omega (arith, k), omega (arith, k)))) in
      let vc = value_lends F C loans calls c s l flags next number kind.Flag st fl has.0 lin.0 at_c (read_front C.func next top result n3 lc (end ∷ (first ++ second)) reads (omega arith) wide) in
      let rest = read_back C.func next top result next lc (end ∷ (first ++ second)) reads (omega arith) (value_inside p c l next number) in
      let to = not_lent C.program.types C.func result (rest result (omega arith) (omega arith) ∙ below_none n1 n3 (looks (first ++ second)) result inside_both (omega arith)) in
      let both = read_within C.func result top n1 n3 (looks (first ++ second)) rest (omega arith) (omega arith) in
      let va = value_lends F C loans calls a s l flags n1 yes q (named_kept F s l next n1 st (omega arith)) fl has.1 lin.1 at_a
      (joined_reads C.func n1 n2 la xa result join (read_front C.func n1 n3 n2 n3 first second both (omega arith) inside_b)) in
      let vb = value_lends F C loans calls b s l flags n2 no q (named_kept F s l next n2 st (omega arith)) fl has.2 lin.2 at_b
      (joined_reads C.func n2 n3 lb xb result join (read_back C.func n1 n3 n2 n1 first second both (omega arith) inside_a)) in
      record {
        lines_lend = lend_append C.program C.func lc (end ∷ (first ++ second)) vc.lines_lend
            ((vc.own, tt), lend_append C.program C.func first second (joined_lends F C la xa result join va to) (joined_lends F C lb xb result join vb to));
        own = to;
      }
  value_lends F C loans calls (Match e NoArms l0) s l flags next number q st fl has lin at reads = absurd has
  value_lends F C loans calls (Match e (AndArm c fs x b as') l0) s l flags next number q st fl has lin at reads =
      let p = F.source in
      let all = AndArm c fs x b as' in
      let result = next + made p e in
      let n1 = suc result in
      let b0 = number + ends p e in
      let first = suc b0 in
      let join = first + total (arm_ends p all) (cons_of p all) in
      let n2 = n1 + total (arm_made p all) (cons_of p all) in
      let top = next + suc (made p e + total (arm_made p all) (cons_of p all)) in
      let xe = local_of p e l next in
      let part = λ (con n i : ℕ). arm_value p all con l n i result join in
      let arm = λ (con n i : ℕ). case_arm p (arm_for p all con) n i in
      let arms = case_arms p all (arm_made p all) (arm_ends p all) n1 first in
      let lines = in_turn (arm_made p all) (arm_ends p all) part (cons_of p all) n1 first in
      let le = value p e l next number in
      let end = Close (block.Case xe arms) in
      let size = kinds_made F e s (kind.Of has.0) has.1 in
      let at_e = at_front F.kinds next (kinds p F.sigs s e) (_ ∷ all_of (arm_kinds p F.sigs s all) (cons_of p all)) at in
      let at_arms = at_rest F.kinds result _ (all_of (arm_kinds p F.sigs s all) (cons_of p all)) (at_back F.kinds next result (kinds p F.sigs s e) (_ ∷ all_of (arm_kinds p F.sigs s all) (cons_of p all)) (omega (arith, size)) at) in
      let st_arms = named_kept F s l next n1 st (omega arith) in
      let each_inside = λ (con n i : ℕ). arm_value_inside p all con l n i result join in
      let insides = turns_inside (arm_made p all) (arm_ends p all) arm part each_inside in
      let inside = insides (cons_of p all) n1 first in
      let wide : Inside result n2 (looks (end ∷ lines)) = (λ y e. (let k = inside y e in (omega (arith, k), omega (arith, k)))) in
      let reads_e = read_front C.func next top result n2 le (end ∷ lines) reads (omega arith) wide in
      let on = on_lends F C e s l flags next number (kind.Of has.0) st fl has.1 (λ test. value_lends F C loans calls e s l flags next number (kind.Of has.0) st fl has.1 (lin.0 test) at_e reads_e) in
      let rest = read_back C.func next top result next le (end ∷ lines) reads (omega arith) (value_inside p e l next number) in
      let to = not_lent C.program.types C.func result (rest result (omega arith) (omega arith) ∙ below_none n1 n2 (looks (end ∷ lines)) result inside (omega arith)) in
      let turns = turns_lend C.program C.func F.kinds (looks_at flags e) n1 (arm_made p all) (arm_ends p all) arm part (arm_kinds p F.sigs s all) (λ con. arm_kinds_made F (AndArm c fs x b as') s has.0 con q has.3) each_inside insides
      (λ con n i at_arm least reads_arm. arm_value_lends F C loans calls (AndArm c fs x b as') s l flags (looks_at flags e) n i result join con has.0 q (named_kept F s l n1 n st_arms least) fl has.3 lin.1 at_arm to reads_arm)
      (cons_of p all) n1 first at_arms (omega arith) (read_within C.func result top n1 n2 (looks (end ∷ lines)) rest (omega arith) (omega arith)) in
      record {
        lines_lend = lend_append C.program C.func le (end ∷ lines) on.lines_lend (subst (λ lent. AllByRecursion (ArmLends C.program.types C.func lent) arms) (sym on.own) turns.each, turns.lines_lend);
        own = to;
      }

  pub values_lends : (F : Frame) (C : Coding F) (loans : Loans) (calls : CalleesLend F C loans) (es : Expressions) (s : Scope Kind) (l : Scope ℕ) (flags : Scope Bool) (marks : List Bool) (next number : ℕ) (ks : List Kind) → Named F s l next
      → Flagged (lent_in F C) l flags → HaveKinds (globals_of F.source F.sigs) s es ks → AllAreLinear loans (globals_of F.source F.sigs) s flags marks es
      → At F.kinds next (all_kinds F.source F.sigs s es) → ReadAs C.func next (next + all_made F.source es) (looks (values F.source es l next number))
      → ArgsLend C.program C.func marks (values F.source es l next number) (locals_of F.source es l next)
  values_lends F C loans calls NoExpressions s l flags [] next number ks st fl has lin at reads = record { lines_lend = tt; taken = tt }
  values_lends F C loans calls NoExpressions s l flags (m ∷ marks) next number ks st fl has lin at reads = record { lines_lend = tt; taken = tt }
  values_lends F C loans calls (AndExpression e es) s l flags marks next number [] st fl has lin at reads = absurd has
  values_lends F C loans calls (AndExpression e es) s l flags marks next number (k ∷ ks) st fl has lin at reads =
      let p = F.source in
      let nb = next + made p e in
      let mb = number + ends p e in
      let top = next + (made p e + all_made p es) in
      let first = value p e l next number in
      let second = values p es l nb mb in
      let size = kinds_made F e s k has.0 in
      let at_e = at_front F.kinds next (kinds p F.sigs s e) (all_kinds p F.sigs s es) at in
      let at_es = at_back F.kinds next nb (kinds p F.sigs s e) (all_kinds p F.sigs s es) (omega (arith, size)) at in
      let reads_e = read_front C.func next top nb (nb + all_made p es) first second reads (omega arith) (values_inside p es l nb mb) in
      let reads_es = read_within C.func nb top nb (nb + all_made p es) (looks second) (read_back C.func next top nb next first second reads (omega arith) (value_inside p e l next number)) (omega arith) (omega arith) in
      let one : is_reading marks e ≡ false → ValueLends C.program C.func first (local_of p e l next) = (λ test. value_lends F C loans calls e s l flags next number k st fl has.0 (lin.0 test) at_e reads_e) in
      let rest = values_lends F C loans calls es s l flags (reads_behind marks) nb mb ks (named_kept F s l next nb st (omega arith)) fl has.1 lin.1 at_es reads_es in
      record {
        lines_lend = lend_append C.program C.func first second (argument_lends F C marks e l next number one) rest.lines_lend;
        taken = taken_more C.program.types C.func marks (local_of p e l next) (locals_of p es l nb) (λ test. (one (not_reading marks e test)).own) rest.taken;
      }

  pub arm_value_lends : (F : Frame) (C : Coding F) (loans : Loans) (calls : CalleesLend F C loans) (as' : Arms) (s : Scope Kind) (l : Scope ℕ) (flags : Scope Bool) (lent : Bool) (n i result join con t : ℕ) (q : Kind) → Named F s l n
      → Flagged (lent_in F C) l flags → ArmsHaveKind (globals_of F.source F.sigs) s t as' q → ArmsAreLinear loans (globals_of F.source F.sigs) s flags lent as'
      → At F.kinds n (arm_kinds F.source F.sigs s as' con) → is_lent C.program.types C.func result ≡ false
      → ReadAs C.func n (n + arm_made F.source as' con) (arm_looks (case_arm F.source (arm_for F.source as' con) n i) (arm_value F.source as' con l n i result join))
      → ArmGoes C.program C.func lent (case_arm F.source (arm_for F.source as' con) n i) (arm_value F.source as' con l n i result join)
  arm_value_lends F C loans calls NoArms s l flags lent n i result join con t q st fl has lin at to reads = record { arm = record { cell = tt; bound = tt }; lines_lend = tt }
  arm_value_lends F C loans calls (AndArm c fs x b as') s l flags lent n i result join con t q st fl has lin at to reads =
      let p = F.source in
      let types = types_of p in
      let inner = arm_scope known_kind types c fs x s in
      let n1 = n + bound_count fs x in
      let l1 = in_arm fs x n l in
      let lb = value p b l1 n1 i in
      let xb = local_of p b l1 n1 in
      let lines = joining lb xb result join in
      lends_split p C.program C.func lent (is_that (constructor_number p c) con) (record { con = c; fields = fs; cell = x; body = b }) (arm_for p as' con) n i (bound_count fs x + made p b) (arm_made p as' con) lines (arm_value p as' con l n i result join)
      (λ test reads_arm.
      let a = arm_for_con p t con c fs x has.0 test in
      let at_arm = subst (λ bs. At F.kinds n (bs ++ kinds p F.sigs inner b)) (bound_same p con c fs x a) (subst (λ t. At F.kinds n (if t then bound_kinds p c x ++ kinds p F.sigs inner b else arm_kinds p F.sigs s as' con)) test at) in
      let at_bound = at_front F.kinds n (bound_of p con x) (kinds p F.sigs inner b) at_arm in
      let size = bound_are p con c fs x a in
      let at_b = at_back F.kinds n n1 (bound_of p con x) (kinds p F.sigs inner b) (omega (arith, size)) at_arm in
      let inside = inside_then n1 (n1 + made p b) n1 (n1 + made p b) lb (new result (block.Copy xb) ∷ Close (block.Goto join) ∷ []) (value_inside p b l1 n1 i) (omega arith) (omega arith) (nothing n1 (n1 + made p b)) in
      let stands = arm_stands F C lent c fs x b l flags n i con lines (n1 + made p b) a lin.0 at_bound fl inside
      (read_within C.func n (n + (bound_count fs x + made p b)) n n1 (arm_looks (case_arm p (Some (record { con = c; fields = fs; cell = x; body = b })) n i) lines) reads_arm (omega arith) (omega arith)) in
      let v = value_lends F C loans calls b inner l1 (arm_flags types lent c fs x flags) n1 i q (named_arm F s l n con c fs x st a at_bound) stands.flags_are has.1 lin.2 at_b
      (joined_reads C.func n1 (n1 + made p b) lb xb result join (body_reads F C c fs b n i (made p b) x lines reads_arm)) in
      record { arm = stands.arm; lines_lend = joined_lends F C lb xb result join v to })
      (λ test reads_arm. arm_value_lends F C loans calls as' s l flags lent n i result join con t q st fl has.2 lin.3
      (subst (λ t. At F.kinds n (if t then bound_kinds p c x ++ kinds p F.sigs inner b else arm_kinds p F.sigs s as' con)) test at) to reads_arm) reads
