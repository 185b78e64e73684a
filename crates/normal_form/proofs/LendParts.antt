-- Lines that only look at what is lent: what holds of any lines, of names in scope, and of the arms of a case.
use Rattle.std.proofs.Common.{◌≡◌, ℕ, zero, suc, ◌+◌, ◌≤◌, ◌<◌, Bool, true, false, List, [], ◌∷◌, ◌++◌, length, Option, Some, None, refl, sym, ap, ◌∙◌, subst, arith}
use Rattle.std.specs.Prelude.{◌&&◌, ◌||◌, ◌==◌, not, if◌then◌else◌, slice_get}
use Rattle.std.specs.List.{AllByRecursion}
use Rattle.std.specs.Option.{option_map_or}
use Rattle.std.specs.Str.{bytes_eq}
use Rattle.std.proofs.lemmas.Bool.Decides.{nat_tests}
use Rattle.camelot_values.specs.Kinds.{DataType}
use Rattle.camelot_values.specs.Heap.{is_heap}
use Rattle.camelot_values.specs.Lists.{is_among}
use Rattle.camelot_values.specs.Names.{find}
use Rattle.camelot_values.specs.declared.kinds.Kind.{Kind}
use Rattle.camelot_values.specs.declared.kinds.Kind.TheVariants as kind
use Rattle.camelot_tree.specs.declared.tree.Name.{Name}
use Rattle.camelot_tree.specs.declared.tree.ArmCell.{ArmCell}
use Rattle.camelot_tree.specs.declared.tree.ArmCell.TheVariants as cell
use Rattle.camelot_tree.specs.Tree.{Expression, Branch, Source}
use Rattle.camelot_tree.specs.Cells.{has_cell}
use Rattle.camelot_typing.specs.Kinds.{Scope, bind, bind_fields, bind_cell, or_else, types_of, fields_of, is_inline, constructor_number, numbered}
use Rattle.linear_use.specs.Uses.{CellTaken, lends_field, arm_flags, is_lent as is_flagged}
use Rattle.grail_blocks.specs.declared.blocks.CaseCell.{CaseCell}
use Rattle.grail_blocks.specs.declared.blocks.CaseCell.TheVariants as case_cell
use Rattle.grail_blocks.specs.Blocks as block
use Rattle.grail_blocks.specs.Blocks.{CaseArm}
use Rattle.grail_blocks.specs.Events.{kept_diamond}
use Rattle.grail_code.specs.Code.{Func, Code}
use Rattle.grail_code.specs.WellFormed.{is_of_heap, looked_by, is_read, is_lent, AreNotLent, LetLends, CellLends, bound_anew, ArmLends, TermLends}
use Rattle.normal_form.specs.Normal.{NormalBlock, Line, Bind, Close, in_first, cut, con_of, local, bound_count, diamonds, with_fields, with_cell, in_arm, cell_in, case_arm, total, in_turn, diamond_kinds, all_of}
use Rattle.normal_form.specs.Facts.{BodyLends}
use Rattle.normal_form.proofs.KindsAt.{Frame, At, at_front, at_back, HasLocal, ArmFor, bound_of}
use Rattle.normal_form.proofs.FitParts.{Coding, kind_at}
use Rattle.normal_form.proofs.Looked.{or_false, or_true, looks, looks_append, arm_looks, turn_looks, turn_split, Inside, below_none, above_none}

-- ---- lines

abbrev pub LinesLend : Code → Func → List Line → Type 0
LinesLend p f [] = Unit {0}
LinesLend p f (Bind l ∷ lines) = LetLends p f l × LinesLend p f lines
LinesLend p f (Close t ∷ lines) = TermLends p f t × LinesLend p f lines

pub lend_append : (p : Code) (f : Func) (xs ys : List Line) → LinesLend p f xs → LinesLend p f ys → LinesLend p f (xs ++ ys)
lend_append p f [] ys h k = k
lend_append p f (Bind l ∷ xs) ys h k = (h.0, lend_append p f xs ys h.1 k)
lend_append p f (Close t ∷ xs) ys h k = (h.0, lend_append p f xs ys h.1 k)

first_lends : (p : Code) (f : Func) (l : block.Let) (bs : List NormalBlock) → LetLends p f l → BodyLends p f bs → BodyLends p f (in_first l bs)
first_lends p f l [] h k = tt
first_lends p f l (b ∷ bs) h k = ((h, k.0), k.1, k.2)

pub cut_lends : (p : Code) (f : Func) (lines : List Line) → LinesLend p f lines → BodyLends p f (cut lines)
cut_lends p f [] h = tt
cut_lends p f (Bind l ∷ lines) h = first_lends p f l (cut lines) h.0 (cut_lends p f lines h.1)
cut_lends p f (Close t ∷ lines) h = (tt, h.0, cut_lends p f lines h.1)

-- ---- which locals are read

and_false : (a : Bool) → (a && false) ≡ false
and_false true = refl
and_false false = refl

pub not_lent : (types : List DataType) (f : Func) (x : ℕ) → is_read f x ≡ false → is_lent types f x ≡ false
not_lent types f x e = ap (λ b. is_of_heap types f x && b) e ∙ and_false (is_of_heap types f x)

-- among these locals, those that are read are told by this
abbrev pub ReadAs : Func → ℕ → ℕ → (ℕ → Bool) → Type 0
ReadAs f low high q = (x : ℕ) → low ≤ x → x < high → is_read f x ≡ q x

pub read_within : (f : Func) (low high less more : ℕ) (q : ℕ → Bool) → ReadAs f low high q → low ≤ less → more ≤ high → ReadAs f less more q
read_within f low high less more q h down up x least below = h x (omega (arith, down, least)) (omega (arith, up, below))

-- the first of two parts, and the second
pub read_front : (f : Func) (low high mid top : ℕ) (xs ys : List Line) → ReadAs f low high (looks (xs ++ ys)) → mid ≤ high → Inside mid top (looks ys) → ReadAs f low mid (looks xs)
read_front f low high mid top xs ys h up inside x least below =
    h x least (omega (arith, up, below)) ∙ looks_append xs ys x ∙ ap (λ b. looks xs x || b) (below_none mid top (looks ys) x inside below) ∙ or_false (looks xs x)

pub read_back : (f : Func) (low high mid bottom : ℕ) (xs ys : List Line) → ReadAs f low high (looks (xs ++ ys)) → low ≤ mid → Inside bottom mid (looks xs) → ReadAs f mid high (looks ys)
read_back f low high mid bottom xs ys h down inside x least below =
    h x (omega (arith, down, least)) below ∙ looks_append xs ys x ∙ ap (λ b. b || looks ys x) (above_none bottom mid (looks xs) x inside least)

-- ---- names

-- the flag of each name in scope is that of its local
pub record Flagged (lent : ℕ → Bool) (l : Scope ℕ) (flags : Scope Bool) : Type 0 where
  pub at : (name : List ℕ) (x : ℕ) → find l name ≡ Some x → or_else (find flags name) false ≡ lent x

pub flagged_bind : (lent : ℕ → Bool) (l : Scope ℕ) (flags : Scope Bool) (n : List ℕ) (x : ℕ) (flag : Bool) → Flagged lent l flags → flag ≡ lent x
    → Flagged lent (bind n x l) (bind n flag flags)
flagged_bind lent l flags n x flag h is = record { at = λ name y e. by_test name y (bytes_eq n name) e }
  where
    by_test : (name : List ℕ) (y : ℕ) (b : Bool) → (if b then Some x else find l name) ≡ Some y → or_else (if b then Some flag else find flags name) false ≡ lent y
    by_test name y true e = let same : x ≡ y = cc in is ∙ ap lent same
    by_test name y false e = h.at name y e

pub flag_is : (all : List Kind) (lent : ℕ → Bool) (l : Scope ℕ) (flags : Scope Bool) (next : ℕ) (n : Name) (k : Kind) → Flagged lent l flags → HasLocal all l next n.word k
    → is_flagged flags n ≡ lent (local l n)
flag_is all lent l flags next n k h r = h.at n.word r.x r.found ∙ ap lent (sym (ap (λ o. or_else o 0) r.found))

-- the fields of an arm
pub flagged_fields : (lent : ℕ → Bool) (is : Kind → Bool) (fs : List (Option Name)) (ks : List Kind) (l : Scope ℕ) (flags : Scope Bool) (n : ℕ) → Flagged lent l flags → length fs ≡ length ks
    → ((i : ℕ) (k : Kind) → slice_get ks i ≡ Some k → is k ≡ lent (n + i)) → Flagged lent (with_fields fs n l) (bind_fields is fs ks flags)
flagged_fields lent is [] [] l flags n h full each = h
flagged_fields lent is [] (k ∷ ks) l flags n h full each = absurd (omega (arith, full))
flagged_fields lent is (f ∷ fs) [] l flags n h full each = absurd (omega (arith, full))
flagged_fields lent is (None ∷ fs) (k ∷ ks) l flags n h full each =
    flagged_fields lent is fs ks l flags (suc n) h (omega (arith, full)) (λ i k e. each (suc i) k e ∙ (let same : n + suc i ≡ suc n + i = omega arith in ap lent same))
flagged_fields lent is (Some f ∷ fs) (k ∷ ks) l flags n h full each =
    let start : n + 0 ≡ n = omega arith in
    flagged_fields lent is fs ks (bind f.word n l) (bind f.word (is k) flags) (suc n) (flagged_bind lent l flags f.word n (is k) h (each 0 k refl ∙ ap lent start)) (omega (arith, full))
    (λ i k e. each (suc i) k e ∙ (let same : n + suc i ≡ suc n + i = omega arith in ap lent same))

-- ---- cells

-- what the rule says of an arm's cell, by whether the constructor is inline
abbrev Taken : Bool → Bool → ArmCell → Type 0
Taken true inline x = has_cell x ≡ false
Taken false inline x = inline ≡ false → has_cell x ≡ true

taken_is : (types : List DataType) (lent : Bool) (c : Name) (x : ArmCell) (con : ℕ) → constructor_number types c.word ≡ Some con → CellTaken types lent c x → Taken lent (is_inline types con) x
taken_is types true c x con is h = h
taken_is types false c x con is h = λ e. h (ap (λ o. is_inline types (or_else o 0)) is ∙ e)

cell_lends : (lent inline : Bool) (x : ArmCell) (m : ℕ) → Taken lent inline x → CellLends lent (cell_in inline x m)
cell_lends lent true cell.Plain m h = tt
cell_lends true false cell.Plain m h = refl
cell_lends false false cell.Plain m h = let e : false ≡ true = h refl in absurd cc
cell_lends true inline cell.Free m h = let e : true ≡ false = h in absurd cc
cell_lends false inline cell.Free m h = refl
cell_lends true inline (cell.Keep d) m h = let e : true ≡ false = h in absurd cc
cell_lends false inline (cell.Keep d) m h = refl

-- its fields are read where the value is lent and has a cell
looked_is : (lent inline : Bool) (x : ArmCell) (m : ℕ) (fields : List ℕ) → Taken lent inline x → looked_by (cell_in inline x m) fields ≡ (if lent && not inline then fields else [])
looked_is true true cell.Plain m fields h = refl
looked_is false true cell.Plain m fields h = refl
looked_is true false cell.Plain m fields h = refl
looked_is false false cell.Plain m fields h = let e : false ≡ true = h refl in absurd cc
looked_is true inline cell.Free m fields h = let e : true ≡ false = h in absurd cc
looked_is false inline cell.Free m fields h = refl
looked_is true inline (cell.Keep d) m fields h = let e : true ≡ false = h in absurd cc
looked_is false inline (cell.Keep d) m fields h = refl

-- ---- what an arm binds

all_among : (types : List DataType) (f : Func) (xs : List ℕ) → ((x : ℕ) → is_among xs x ≡ true → is_lent types f x ≡ false) → AreNotLent types f xs
all_among types f [] h = tt
all_among types f (x ∷ xs) h = (
  h x (let test : (x == x) ≡ true = grind (arith, nat_tests) in ap (λ b. b || is_among xs x) test),
  all_among types f xs (λ y e. h y (ap (λ b. (x == y) || b) e ∙ or_true (x == y))),
)

bound_not : (types : List DataType) (f : Func) (c : CaseCell) (fields : List ℕ)
    → ((x : ℕ) → is_among (fields ++ kept_diamond c) x ≡ true → is_read f x ≡ is_among (looked_by c fields) x) → AreNotLent types f (bound_anew c (fields ++ kept_diamond c))
bound_not types f case_cell.Look fields h = tt
bound_not types f case_cell.Inline fields h = all_among types f (fields ++ []) (λ x e. not_lent types f x (h x e))
bound_not types f case_cell.Free fields h = all_among types f (fields ++ []) (λ x e. not_lent types f x (h x e))
bound_not types f (case_cell.Keep d) fields h = all_among types f (fields ++ d ∷ []) (λ x e. not_lent types f x (h x e))

numbered_behind : (n : ℕ) (fs : List (Option Name)) (m : ℕ) → m ≡ n + length fs → (more : List ℕ) → (high : ℕ) → n + length fs ≤ high → Inside m high (is_among more)
    → Inside n high (is_among (numbered n fs ++ more))
numbered_behind n [] m is more high up h x e = let k = h x e in (omega (arith, is, k), omega (arith, k))
numbered_behind n (f ∷ fs) m is more high up h x e = by_test (n == x) refl (numbered_behind (suc n) fs m (omega (arith, is)) more high (omega (arith, up)) h x) e
  where
    by_test : (b : Bool) → (n == x) ≡ b → (is_among (numbered (suc n) fs ++ more) x ≡ true → (suc n ≤ x) × (x < high)) → (b || is_among (numbered (suc n) fs ++ more) x) ≡ true
        → (n ≤ x) × (x < high)
    by_test true is rec e = let same : n ≡ x = grind (arith, nat_tests, is) in (omega (arith, same), omega (arith, same, up))
    by_test false is rec e = let k = rec e in (omega (arith, k), omega (arith, k))

one_among : (d high : ℕ) → d < high → Inside d high (is_among (d ∷ []))
one_among d high less x e = by_test (d == x) refl e
  where
    by_test : (b : Bool) → (d == x) ≡ b → (b || false) ≡ true → (d ≤ x) × (x < high)
    by_test true is e = let same : d ≡ x = grind (arith, nat_tests, is) in (omega (arith, same), omega (arith, same, less))
    by_test false is e = absurd cc

bound_inside : (inline : Bool) (x : ArmCell) (n : ℕ) (fs : List (Option Name)) → Inside n (n + bound_count fs x) (is_among (numbered n fs ++ kept_diamond (cell_in inline x (n + length fs))))
bound_inside true cell.Plain n fs = numbered_behind n fs (n + length fs) refl [] (n + (length fs + 0)) (omega arith) (λ x e. absurd cc)
bound_inside false cell.Plain n fs = numbered_behind n fs (n + length fs) refl [] (n + (length fs + 0)) (omega arith) (λ x e. absurd cc)
bound_inside inline cell.Free n fs = numbered_behind n fs (n + length fs) refl [] (n + (length fs + 0)) (omega arith) (λ x e. absurd cc)
bound_inside inline (cell.Keep d) n fs = numbered_behind n fs (n + length fs) refl ((n + length fs) ∷ []) (n + (length fs + 1)) (omega arith) (one_among (n + length fs) (n + (length fs + 1)) (omega arith))

numbered_has : (n : ℕ) (fs : List (Option Name)) (i : ℕ) → i < length fs → is_among (numbered n fs) (n + i) ≡ true
numbered_has n [] i less = absurd (omega (arith, less))
numbered_has n (f ∷ fs) zero less = let test : (n == n + 0) ≡ true = grind (arith, nat_tests) in ap (λ b. b || is_among (numbered (suc n) fs) (n + 0)) test
numbered_has n (f ∷ fs) (suc i) less =
    let same : n + suc i ≡ suc n + i = omega arith in
    let test : (n == n + suc i) ≡ false = grind (arith, nat_tests) in
    ap (λ b. b || is_among (numbered (suc n) fs) (n + suc i)) test ∙ ap (is_among (numbered (suc n) fs)) same ∙ numbered_has (suc n) fs i (omega (arith, less))

pub item_less : (ks : List Kind) (i : ℕ) (k : Kind) → slice_get ks i ≡ Some k → i < length ks
item_less [] i k e = let q : None ≡ Some k = e in absurd cc
item_less (x ∷ ks) zero k e = omega arith
item_less (x ∷ ks) (suc i) k e = let less = item_less ks i k e in omega (arith, less)

chosen_among : (b : Bool) (fields : List ℕ) (x : ℕ) → is_among fields x ≡ true → is_among (if b then fields else []) x ≡ b
chosen_among true fields x e = e
chosen_among false fields x e = refl

shuffled : (lent inline heap : Bool) → (lent && (not inline && heap)) ≡ (heap && (lent && not inline))
shuffled true true true = refl
shuffled true true false = refl
shuffled true false true = refl
shuffled true false false = refl
shuffled false true true = refl
shuffled false true false = refl
shuffled false false true = refl
shuffled false false false = refl

-- whether the local is of a heap kind
pub heap_at : (F : Frame) (C : Coding F) (x : ℕ) (k : Kind) → slice_get F.kinds x ≡ Some k → is_of_heap C.program.types C.func x ≡ is_heap (types_of F.source) k
heap_at F C x k e = ap (λ o. option_map_or (is_heap C.program.types) o false) (kind_at F C x k e) ∙ ap (λ types. is_heap types k) C.types_are

-- the local is lent, in this code
abbrev pub lent_in : (F : Frame) → Coding F → ℕ → Bool
lent_in F C x = is_lent C.program.types C.func x

-- An arm of a case on a local that is lent or isn't, where this tells which of its locals are read: its end of the
-- case, and the flags in its body.
pub record ArmStands (F : Frame) (C : Coding F) (lent : Bool) (c : Name) (fs : List (Option Name)) (x : ArmCell) (b : Expression) (l : Scope ℕ) (flags : Scope Bool) (n i : ℕ) : Type 0 where
  pub arm : ArmLends C.program.types C.func lent (case_arm F.source (Some (record { con = c; fields = fs; cell = x; body = b })) n i)
  pub flags_are : Flagged (lent_in F C) (in_arm fs x n l) (arm_flags (types_of F.source) lent c fs x flags)

flagged_cell : (lent : ℕ → Bool) (is : Kind → Bool) (x : ArmCell) (l : Scope ℕ) (flags : Scope Bool) (m : ℕ) → Flagged lent l flags → ((d : Name) → x ≡ cell.Keep d → is kind.Dia ≡ lent m)
    → Flagged lent (with_cell x m l) (bind_cell is x flags)
flagged_cell lent is cell.Plain l flags m h own = h
flagged_cell lent is cell.Free l flags m h own = h
flagged_cell lent is (cell.Keep d) l flags m h own = flagged_bind lent l flags d.word m (is kind.Dia) h (own d refl)

-- a diamond that an arm keeps
kept_owned : (types : List DataType) (lent inline : Bool) (c : Name) (x : ArmCell) (d : Name) → Taken lent inline x → x ≡ cell.Keep d → lends_field types lent c kind.Dia ≡ false
kept_owned types true inline c x d h is = let e : true ≡ false = sym (ap has_cell is) ∙ h in absurd cc
kept_owned types false inline c x d h is = refl

kept_looks : (inline : Bool) (x : ArmCell) (d : Name) (m : ℕ) (fields : List ℕ) → x ≡ cell.Keep d → looked_by (cell_in inline x m) fields ≡ []
kept_looks inline x d m fields is = ap (λ y. looked_by (cell_in inline y m) fields) is

pub arm_stands : (F : Frame) (C : Coding F) (lent : Bool) (c : Name) (fs : List (Option Name)) (x : ArmCell) (b : Expression) (l : Scope ℕ) (flags : Scope Bool) (n i con : ℕ) (lines : List Line) (top : ℕ)
    → ArmFor F.source c fs con → CellTaken (types_of F.source) lent c x → At F.kinds n (bound_of F.source con x) → Flagged (lent_in F C) l flags
    → Inside (n + bound_count fs x) top (looks lines)
    → ReadAs C.func n (n + bound_count fs x) (arm_looks (case_arm F.source (Some (record { con = c; fields = fs; cell = x; body = b })) n i) lines)
    → ArmStands F C lent c fs x b l flags n i
arm_stands F C lent c fs x b l flags n i con lines top a rule at fl inside reads =
    let types = types_of F.source in
    let inl = is_inline types (con_of F.source c) in
    let m = n + length fs in
    let ks = fields_of types con in
    let con_is : is_inline types con ≡ inl = ap (is_inline types) (sym a.con_is) in
    let taken = subst (λ i. Taken lent i x) con_is (taken_is types lent c x con a.is rule) in
    let full = a.full in
    let read : (y : ℕ) → n ≤ y → y < n + bound_count fs x → is_read C.func y ≡ is_among (looked_by (cell_in inl x m) (numbered n fs)) y =
    (λ y least below. reads y least below ∙ ap (λ b. is_among (looked_by (cell_in inl x m) (numbered n fs)) y || b) (below_none (n + bound_count fs x) top (looks lines) y inside below)
    ∙ or_false (is_among (looked_by (cell_in inl x m) (numbered n fs)) y)) in
    let field : (i : ℕ) (k : Kind) → slice_get ks i ≡ Some k → lends_field types lent c k ≡ lent_in F C (n + i) =
    (λ i k e.
    let less = item_less ks i k e in
    let kind_is = at_front F.kinds n ks (diamond_kinds x) at i k e in
    let own = read (n + i) (omega arith) (omega (arith, less, full)) ∙ ap (λ zs. is_among zs (n + i)) (looked_is lent inl x m (numbered n fs) taken)
    ∙ chosen_among (lent && not inl) (numbered n fs) (n + i) (numbered_has n fs i (omega (arith, less, full))) in
    ap (λ o. lent && (not (is_inline types (or_else o 0)) && is_heap types k)) a.is ∙ ap (λ i. lent && (not i && is_heap types k)) con_is ∙ shuffled lent inl (is_heap types k)
    ∙ sym (ap (λ h. h && is_read C.func (n + i)) (heap_at F C (n + i) k kind_is) ∙ ap (λ r. is_heap types k && r) own)) in
    let inner = flagged_fields (lent_in F C) (lends_field types lent c) fs ks l flags n fl full field in
    let dia : (d : Name) → x ≡ cell.Keep d → lends_field types lent c kind.Dia ≡ lent_in F C m =
    (λ d is.
    let counted : diamonds x ≡ 1 = ap diamonds is in
    kept_owned types lent inl c x d taken is
    ∙ sym (not_lent C.program.types C.func m (read m (omega arith) (omega (arith, counted)) ∙ ap (λ zs. is_among zs m) (kept_looks inl x d m (numbered n fs) is)))) in
    record {
      arm = record {
        cell = cell_lends lent inl x m taken;
        bound = bound_not C.program.types C.func (cell_in inl x m) (numbered n fs) (λ y e. (let k = bound_inside inl x n fs y e in read y k.0 k.1));
      };
      flags_are = subst (λ cs. Flagged (lent_in F C) (in_arm fs x n l) (bind_cell (lends_field types lent c) x (bind_fields (lends_field types lent c) fs (fields_of types (or_else cs 0)) flags))) (sym a.is)
          (flagged_cell (lent_in F C) (lends_field types lent c) x (with_fields fs n l) (bind_fields (lends_field types lent c) fs ks flags) m inner dia);
    }

-- ---- arms in turn

pub record ArmGoes (p : Code) (f : Func) (lent : Bool) (a : CaseArm) (lines : List Line) : Type 0 where
  pub arm : ArmLends p.types f lent a
  pub lines_lend : LinesLend p f lines

-- one of two arms, by the test on its constructor
pub lends_split : (src : Source) (p : Code) (f : Func) (lent : Bool) (t : Bool) (first : Branch) (other : Option Branch) (n i m k : ℕ) (xs ys : List Line)
    → (t ≡ true → ReadAs f n (n + m) (arm_looks (case_arm src (Some first) n i) xs) → ArmGoes p f lent (case_arm src (Some first) n i) xs)
    → (t ≡ false → ReadAs f n (n + k) (arm_looks (case_arm src other n i) ys) → ArmGoes p f lent (case_arm src other n i) ys)
    → ReadAs f n (n + (if t then m else k)) (arm_looks (case_arm src (if t then Some first else other) n i) (if t then xs else ys))
    → ArmGoes p f lent (case_arm src (if t then Some first else other) n i) (if t then xs else ys)
lends_split src p f lent true first other n i m k xs ys one rest reads = one refl reads
lends_split src p f lent false first other n i m k xs ys one rest reads = rest refl reads

pub record TurnsLend (p : Code) (f : Func) (lent : Bool) (arms : List CaseArm) (lines : List Line) : Type 0 where
  pub each : AllByRecursion (ArmLends p.types f lent) arms
  pub lines_lend : LinesLend p f lines

pub or_none : (a b : Bool) → b ≡ false → (a || b) ≡ a
or_none a b e = ap (λ c. a || c) e ∙ or_false a

pub turns_lend : (p : Code) (f : Func) (all : List Kind) (lent : Bool) (low : ℕ) (locals blocks : ℕ → ℕ) (arm : ℕ → ℕ → ℕ → CaseArm) (part : ℕ → ℕ → ℕ → List Line) (kinds : ℕ → List Kind)
    → ((con : ℕ) → length (kinds con) ≡ locals con) → ((con n i : ℕ) → Inside n (n + locals con) (arm_looks (arm con n i) (part con n i)))
    → ((cons : List ℕ) (n i : ℕ) → Inside n (n + total locals cons) (turn_looks (in_turn locals blocks (λ con n i. arm con n i ∷ []) cons n i) (in_turn locals blocks part cons n i)))
    → ((con n i : ℕ) → At all n (kinds con) → low ≤ n → ReadAs f n (n + locals con) (arm_looks (arm con n i) (part con n i)) → ArmGoes p f lent (arm con n i) (part con n i))
    → (cons : List ℕ) (n i : ℕ) → At all n (all_of kinds cons) → low ≤ n
    → ReadAs f n (n + total locals cons) (turn_looks (in_turn locals blocks (λ con n i. arm con n i ∷ []) cons n i) (in_turn locals blocks part cons n i))
    → TurnsLend p f lent (in_turn locals blocks (λ con n i. arm con n i ∷ []) cons n i) (in_turn locals blocks part cons n i)
turns_lend p f all lent low locals blocks arm part kinds lengths inside insides each [] n i at least reads = record { each = tt; lines_lend = tt }
turns_lend p f all lent low locals blocks arm part kinds lengths inside insides each (con ∷ cons) n i at least reads =
    let n1 = n + locals con in
    let i1 = i + blocks con in
    let arms = in_turn locals blocks (λ con n i. arm con n i ∷ []) cons n1 i1 in
    let lines = in_turn locals blocks part cons n1 i1 in
    let size = lengths con in
    let first = each con n i (at_front all n (kinds con) (all_of kinds cons) at) least
    (λ x lower below. reads x lower (omega (arith, below)) ∙ turn_split (arm con n i) arms (part con n i) lines x
    ∙ or_none (arm_looks (arm con n i) (part con n i) x) (turn_looks arms lines x) (below_none n1 (n1 + total locals cons) (turn_looks arms lines) x (insides cons n1 i1) below)) in
    let rest = turns_lend p f all lent low locals blocks arm part kinds lengths inside insides each cons n1 i1 (at_back all n n1 (kinds con) (all_of kinds cons) (omega (arith, size)) at) (omega (arith, least))
    (λ x lower below. reads x (omega (arith, lower)) (omega (arith, below)) ∙ turn_split (arm con n i) arms (part con n i) lines x
    ∙ ap (λ b. b || turn_looks arms lines x) (above_none n (n + locals con) (arm_looks (arm con n i) (part con n i)) x (inside con n i) lower)) in
    record { each = (first.arm, rest.each); lines_lend = lend_append p f (part con n i) lines first.lines_lend rest.lines_lend }
