-- The readers of blocks' ends, blocks, functions and code read their spellings.
use Rattle.std.proofs.Common.{◌≡◌, ℕ, zero, suc, ◌<◌, Bool, true, false, List, [], ◌∷◌, ◌++◌, refl, sym, ap, append_assoc, ◌∙◌, lit<, lit≤, arith}
use Rattle.std.specs.Prelude.{◌==◌, ◌||◌, if◌then◌else◌}
use Rattle.std.proofs.lemmas.Bool.{eqb-true}
use Rattle.camelot_values.specs.Names.{is_lower, IsName}
use Rattle.camelot_values.specs.Kinds.{DataType}
use Rattle.camelot_values.specs.declared.kinds.Kind.{Kind}
use Rattle.grail_blocks.specs.declared.blocks.CaseCell.{CaseCell}
use Rattle.grail_blocks.specs.declared.blocks.CaseCell.TheVariants as cell
use Rattle.grail_code.specs.Code.{Prim, Let, CaseArm, Term, Ret, Tail, Goto, If, Case, Block, Func, Code}
use Rattle.grail_code.specs.Spelling as s
use Rattle.grail_code.specs.Spelling.{Format, First, Second, number, counted, name, AreCounted, IsLocal, FitsKind, FitsCon, FitsType, FitsPlace, FitsOp, FitsLet, HasLooks, FitsCell, FitsArm, FitsTerm, FitsBlock, FitsFunc, FitsCode}
use Rattle.grail_code.specs.Reader.{Read, map_read, pair_at, byte_at, leb_at, counted_at}
use Rattle.grail_code.specs.CodeReader.{is_digit, numbered_format, digit_at, format_at, name_at, kind_at, type_at, local_at, let_at, cells, cell_rest, cell_at, arm_at, ret_at, tail_call_at, goto_at, if_at, case_at, exit_rest, exit_at, block_at, kinds_of, marks_of, param_at, header_at, func_at, headed_at, tables_at, code_at}
use Rattle.grail_code.proofs.SpellingParts.{Lawful, Made, retold, made, bind, byte_law, pair, constant, headed, tagged, tagged_within, counted_law}
use Rattle.grail_code.proofs.SpellingTypes.{lower_law, kind_law, kinds_law, type_law}
use Rattle.grail_code.proofs.SpellingParams.{FitsParam, params_law, params_fit, Lists, marked_apart, marked_again, fits_kinds, fits_marks, as_many_marks}
use Rattle.grail_code.proofs.SpellingLets.{local_law, locals_law, CallFits, call_parts, two_locals, let_law}

-- ---- the ends of blocks

abbrev cell_tag : CaseCell → ℕ
cell_tag cell.Inline = 0
cell_tag cell.Free = 1
cell_tag (cell.Keep x) = 2
cell_tag cell.Look = 3

abbrev cell_tail : CaseCell → List ℕ
cell_tail (cell.Keep x) = number x
cell_tail c = []

cell_small : (f : Format) (c : CaseCell) → FitsCell f c → cell_tag c < cells f
cell_small First cell.Inline h = lit< tt
cell_small First cell.Free h = lit< tt
cell_small First (cell.Keep x) h = lit< tt
cell_small First cell.Look h = absurd h
cell_small Second cell.Inline h = lit< tt
cell_small Second cell.Free h = lit< tt
cell_small Second (cell.Keep x) h = lit< tt
cell_small Second cell.Look h = lit< tt

cell_tagged : (c : CaseCell) → s.cell_bytes c ≡ cell_tag c ∷ cell_tail c
cell_tagged cell.Inline = refl
cell_tagged cell.Free = refl
cell_tagged (cell.Keep x) = refl
cell_tagged cell.Look = refl

bare_only : (f : Format) (c : CaseCell) → FitsCell f c × (cell_tag c ≡ 0) → cell.Inline ≡ c
bare_only f cell.Inline h = refl
bare_only f c h = absurd (omega (arith, h.1))

free_only : (f : Format) (c : CaseCell) → FitsCell f c × (cell_tag c ≡ 1) → cell.Free ≡ c
free_only f cell.Free h = refl
free_only f c h = absurd (omega (arith, h.1))

keep_only : (f : Format) (c : CaseCell) → FitsCell f c × (cell_tag c ≡ 2) → Made IsLocal cell.Keep c
keep_only f (cell.Keep x) h = record { value = x; fits = h.0; is = refl }
keep_only f c h = absurd (omega (arith, h.1))

look_only : (f : Format) (c : CaseCell) → FitsCell f c × (cell_tag c ≡ 3) → cell.Look ≡ c
look_only f cell.Look h = refl
look_only f c h = absurd (omega (arith, h.1))

looks_here : (f : Format) (n : ℕ) → suc (suc (suc n)) < cells f → HasLooks f × (n ≡ 0)
looks_here First n h = absurd (omega (arith, h))
looks_here Second n h = (tt, omega (arith, h))

cell_rest_law : (f : Format) (n : ℕ) → n < cells f → Lawful (λ c. FitsCell f c × (cell_tag c ≡ n)) cell_tail (cell_rest n)
unfolding cell_rest
cell_rest_law f zero h = constant _ cell_tail cell.Inline (tt, refl) (bare_only f) refl
cell_rest_law f (suc zero) h = constant _ cell_tail cell.Free (tt, refl) (free_only f) refl
cell_rest_law f (suc (suc zero)) h = made IsLocal number local_at _ cell_tail cell.Keep (λ x k. (k, refl)) (keep_only f) (λ x k. refl) local_law
cell_rest_law f (suc (suc (suc zero))) h = constant _ cell_tail cell.Look ((looks_here f 0 h).0, refl) (look_only f) refl
cell_rest_law f (suc (suc (suc (suc n)))) h = absurd (let k = (looks_here f (suc n) h).1 in omega (arith, k))

cells_some : (f : Format) → 0 < cells f
cells_some First = lit< tt
cells_some Second = lit< tt

cell_law : (f : Format) → Lawful (FitsCell f) s.cell_bytes (cell_at f)
unfolding cell_at
cell_law f = tagged_within (FitsCell f) s.cell_bytes cell_tail cell_tag (cells f) cell_rest (cells_some f) (cell_small f) cell_tagged (cell_rest_law f)

arm_law : (f : Format) → Lawful (FitsArm f) s.arm_bytes (arm_at f)
unfolding arm_at
arm_law f = made (λ (p : List ℕ × (CaseCell × ℕ)). AreCounted IsLocal 0 4 p.0 × (FitsCell f p.1.0 × IsLocal p.1.1)) (λ p. counted number p.0 ++ (s.cell_bytes p.1.0 ++ number p.1.1)) (pair_at (counted_at local_at 0 4) (pair_at (cell_at f) local_at)) (FitsArm f) s.arm_bytes
    (λ p. record { fields = p.0; cell = p.1.0; target = p.1.1 })
    (λ p h. record { fields = h.0; cell = h.1.0; target = h.1.1 })
    (λ a h. record { value = (a.fields, (a.cell, a.target)); fits = (h.fields, (h.cell, h.target)); is = refl })
    (λ p h. sym (append_assoc (counted number p.0) (s.cell_bytes p.1.0) (number p.1.1)))
    (pair (AreCounted IsLocal 0 4) (counted number) (counted_at local_at 0 4) (λ (p : CaseCell × ℕ). FitsCell f p.0 × IsLocal p.1) (λ p. s.cell_bytes p.0 ++ number p.1) (pair_at (cell_at f) local_at) (locals_law 4)
    (pair (FitsCell f) s.cell_bytes (cell_at f) IsLocal number local_at (cell_law f) local_law))

abbrev exit_tag : Term → ℕ
exit_tag (Ret x) = 0
exit_tag (Tail f args) = 1
exit_tag (Goto b) = 2
exit_tag (If x first second) = 3
exit_tag (Case x arms) = 4

abbrev exit_tail : Term → List ℕ
exit_tail (Ret x) = number x
exit_tail (Tail f args) = number f ++ counted number args
exit_tail (Goto b) = number b
exit_tail (If x first second) = number x ++ number first ++ number second
exit_tail (Case x arms) = number x ++ counted s.arm_bytes arms

abbrev ExitIs : Format → ℕ → Term → Type 0
ExitIs f n e = FitsTerm f e × (exit_tag e ≡ n)

exit_small : (e : Term) → exit_tag e < 5
exit_small (Ret x) = lit< tt
exit_small (Tail f args) = lit< tt
exit_small (Goto b) = lit< tt
exit_small (If x first second) = lit< tt
exit_small (Case x arms) = lit< tt

exit_tagged : (e : Term) → s.term_bytes e ≡ exit_tag e ∷ exit_tail e
exit_tagged (Ret x) = refl
exit_tagged (Tail f args) = refl
exit_tagged (Goto b) = refl
exit_tagged (If x first second) = refl
exit_tagged (Case x arms) = refl

ret_from : (f : Format) (e : Term) → ExitIs f 0 e → Made IsLocal Ret e
ret_from g (Ret x) h = record { value = x; fits = h.0; is = refl }
ret_from g e h = absurd (omega (arith, h.1))

ret_law : (f : Format) → Lawful (ExitIs f 0) exit_tail ret_at
unfolding ret_at
ret_law f = made IsLocal number local_at (ExitIs f 0) exit_tail Ret (λ x h. (h, refl)) (ret_from f) (λ x h. refl) local_law

tail_from : (f : Format) (e : Term) → ExitIs f 1 e → Made CallFits (λ p. Tail p.0 p.1) e
tail_from g (Tail f args) h = record { value = (f, args); fits = h.0; is = refl }
tail_from g e h = absurd (omega (arith, h.1))

tail_call_law : (f : Format) → Lawful (ExitIs f 1) exit_tail tail_call_at
unfolding tail_call_at
tail_call_law f = made CallFits (λ p. number p.0 ++ counted number p.1) (pair_at (leb_at 4 0 63) (counted_at local_at 0 16)) (ExitIs f 1) exit_tail (λ p. Tail p.0 p.1) (λ p h. (h, refl)) (tail_from f) (λ p h. refl) call_parts

goto_from : (f : Format) (e : Term) → ExitIs f 2 e → Made IsLocal Goto e
goto_from g (Goto x) h = record { value = x; fits = h.0; is = refl }
goto_from g e h = absurd (omega (arith, h.1))

goto_law : (f : Format) → Lawful (ExitIs f 2) exit_tail goto_at
unfolding goto_at
goto_law f = made IsLocal number local_at (ExitIs f 2) exit_tail Goto (λ x h. (h, refl)) (goto_from f) (λ x h. refl) local_law

abbrev IfFits : ℕ × (ℕ × ℕ) → Type 0
IfFits p = IsLocal p.0 × (IsLocal p.1.0 × IsLocal p.1.1)

if_from : (f : Format) (e : Term) → ExitIs f 3 e → Made IfFits (λ p. If p.0 p.1.0 p.1.1) e
if_from g (If x first second) h = record { value = (x, (first, second)); fits = (h.0.0, (h.0.1, h.0.2)); is = refl }
if_from g e h = absurd (omega (arith, h.1))

if_law : (f : Format) → Lawful (ExitIs f 3) exit_tail if_at
unfolding if_at
if_law f = made IfFits (λ p. number p.0 ++ (number p.1.0 ++ number p.1.1)) (pair_at local_at (pair_at local_at local_at)) (ExitIs f 3) exit_tail (λ p. If p.0 p.1.0 p.1.1)
    (λ p h. ((h.0, h.1.0, h.1.1), refl)) (if_from f) (λ p h. sym (append_assoc (number p.0) (number p.1.0) (number p.1.1)))
    (pair IsLocal number local_at (λ (p : ℕ × ℕ). IsLocal p.0 × IsLocal p.1) (λ p. number p.0 ++ number p.1) (pair_at local_at local_at) local_law two_locals)

abbrev CaseFits : Format → ℕ × List CaseArm → Type 0
CaseFits f p = IsLocal p.0 × AreCounted (FitsArm f) 0 64 p.1

case_from : (f : Format) (e : Term) → ExitIs f 4 e → Made (CaseFits f) (λ p. Case p.0 p.1) e
case_from f (Case x arms) h = record { value = (x, arms); fits = h.0; is = refl }
case_from f e h = absurd (omega (arith, h.1))

case_law : (f : Format) → Lawful (ExitIs f 4) exit_tail (case_at f)
unfolding case_at
case_law f = made (CaseFits f) (λ p. number p.0 ++ counted s.arm_bytes p.1) (pair_at local_at (counted_at (arm_at f) 0 64)) (ExitIs f 4) exit_tail (λ p. Case p.0 p.1) (λ p h. (h, refl)) (case_from f) (λ p h. refl)
    (pair IsLocal number local_at (AreCounted (FitsArm f) 0 64) (counted s.arm_bytes) (counted_at (arm_at f) 0 64) local_law (counted_law (FitsArm f) s.arm_bytes (arm_at f) 0 64 (lit≤ tt) (lit≤ tt) (arm_law f)))

exit_rest_law : (f : Format) (n : ℕ) → n < 5 → Lawful (ExitIs f n) exit_tail (exit_rest f n)
unfolding exit_rest
exit_rest_law f zero h = ret_law f
exit_rest_law f (suc zero) h = tail_call_law f
exit_rest_law f (suc (suc zero)) h = goto_law f
exit_rest_law f (suc (suc (suc zero))) h = if_law f
exit_rest_law f (suc (suc (suc (suc zero)))) h = case_law f
exit_rest_law f (suc (suc (suc (suc (suc n))))) h = absurd (omega arith)

exit_law : (f : Format) → Lawful (FitsTerm f) s.term_bytes (exit_at f)
unfolding exit_at
exit_law f = tagged (FitsTerm f) s.term_bytes exit_tail exit_tag 5 (exit_rest f) (lit< tt) exit_small exit_tagged (exit_rest_law f)

-- ---- blocks, functions and code

abbrev BlockParts : Format → List ℕ × (List Let × Term) → Type 0
BlockParts f p = AreCounted IsLocal 0 256 p.0 × (AreCounted (FitsLet f) 0 256 p.1.0 × FitsTerm f p.1.1)

block_law : (f : Format) → Lawful (FitsBlock f) s.block_bytes (block_at f)
unfolding block_at
block_law f = made (BlockParts f) (λ p. counted number p.0 ++ (counted s.let_bytes p.1.0 ++ s.term_bytes p.1.1)) (pair_at (counted_at local_at 0 256) (pair_at (counted_at (let_at f) 0 256) (exit_at f))) (FitsBlock f) s.block_bytes
    (λ p. record { params = p.0; lets = p.1.0; term = p.1.1 })
    (λ p h. record { params = h.0; lets = h.1.0; term = h.1.1 })
    (λ b h. record { value = (b.params, (b.lets, b.term)); fits = (h.params, (h.lets, h.term)); is = refl })
    (λ p h. sym (append_assoc (counted number p.0) (counted s.let_bytes p.1.0) (s.term_bytes p.1.1)))
    (pair (AreCounted IsLocal 0 256) (counted number) (counted_at local_at 0 256) (λ (p : List Let × Term). AreCounted (FitsLet f) 0 256 p.0 × FitsTerm f p.1) (λ p. counted s.let_bytes p.0 ++ s.term_bytes p.1) (pair_at (counted_at (let_at f) 0 256) (exit_at f)) (locals_law 256)
    (pair (AreCounted (FitsLet f) 0 256) (counted s.let_bytes) (counted_at (let_at f) 0 256) (FitsTerm f) s.term_bytes (exit_at f) (counted_law (FitsLet f) s.let_bytes (let_at f) 0 256 (lit≤ tt) (lit≤ tt) (let_law f)) (exit_law f)))

abbrev Params : Type 0
Params = List (Kind × Bool)

abbrev Header : Type 0
Header = Params × (Kind × List Kind)

abbrev HeaderFits : Format → Header → Type 0
HeaderFits f p = AreCounted (FitsParam f) 1 16 p.0 × (FitsKind p.1.0 × AreCounted FitsKind 0 240 p.1.1)

abbrev header_bytes : Header → List ℕ
header_bytes p = counted s.param_bytes p.0 ++ (s.kind_bytes p.1.0 ++ counted s.kind_bytes p.1.1)

header_law : (f : Format) → Lawful (HeaderFits f) header_bytes (header_at f)
unfolding header_at
header_law f = pair (AreCounted (FitsParam f) 1 16) (counted s.param_bytes) (counted_at (param_at f) 1 16) (λ (p : Kind × List Kind). FitsKind p.0 × AreCounted FitsKind 0 240 p.1) (λ p. s.kind_bytes p.0 ++ counted s.kind_bytes p.1) (pair_at kind_at (counted_at kind_at 0 240)) (params_law f)
    (pair FitsKind s.kind_bytes kind_at (AreCounted FitsKind 0 240) (counted s.kind_bytes) (counted_at kind_at 0 240) kind_law (kinds_law 0 240 (lit≤ tt) (lit≤ tt)))

abbrev FuncParts : Format → List ℕ × (Header × List Block) → Type 0
FuncParts f p = IsName is_lower p.0 × (HeaderFits f p.1.0 × AreCounted (FitsBlock f) 1 256 p.1.1)

five : (a b c d e : List ℕ) → a ++ ((b ++ (c ++ d)) ++ e) ≡ a ++ b ++ c ++ d ++ e
five a b c d e = simp append_assoc

-- the function of these parts
abbrev func_from : List ℕ × (Header × List Block) → Func
func_from p = record { name = p.0; params = kinds_of p.1.0.0; reads = marks_of p.1.0.0; result = p.1.0.1.0; locals = p.1.0.1.1; blocks = p.1.1 }

parts_from : (f : Format) (g : Func) → FitsFunc f g → Made (FuncParts f) func_from g
parts_from f g h = record {
  value = (g.name, ((s.marked g.params g.reads, (g.result, g.locals)), g.blocks));
  fits = (h.name, ((params_fit f g.params g.reads h.as_many h.params h.marks, (h.result, h.locals)), h.blocks));
  is = ap (λ (p : Lists). record { name = g.name; params = p.0; reads = p.1; result = g.result; locals = g.locals; blocks = g.blocks }) (marked_apart g.params g.reads h.as_many);
}

func_fits : (f : Format) (p : List ℕ × (Header × List Block)) → FuncParts f p → FitsFunc f (func_from p)
func_fits f p h = record {
  name = h.0;
  params = fits_kinds f p.1.0.0 h.1.0.0;
  as_many = as_many_marks p.1.0.0;
  marks = fits_marks f p.1.0.0 h.1.0.0.each;
  result = h.1.0.1.0;
  locals = h.1.0.1.1;
  blocks = h.1.1;
}

func_law : (f : Format) → Lawful (FitsFunc f) s.func_bytes (func_at f)
unfolding func_at
func_law f = made (FuncParts f) (λ p. name p.0 ++ (header_bytes p.1.0 ++ counted s.block_bytes p.1.1)) (pair_at (name_at is_lower) (pair_at (header_at f) (counted_at (block_at f) 1 256))) (FitsFunc f) s.func_bytes
    func_from (func_fits f) (parts_from f)
    (λ p h. five (name p.0) (counted s.param_bytes p.1.0.0) (s.kind_bytes p.1.0.1.0) (counted s.kind_bytes p.1.0.1.1) (counted s.block_bytes p.1.1)
    ∙ ap (λ (ps : Params). name p.0 ++ counted s.param_bytes ps ++ s.kind_bytes p.1.0.1.0 ++ counted s.kind_bytes p.1.0.1.1 ++ counted s.block_bytes p.1.1) (sym (marked_again p.1.0.0)))
    (pair (IsName is_lower) name (name_at is_lower) (λ (p : Header × List Block). HeaderFits f p.0 × AreCounted (FitsBlock f) 1 256 p.1) (λ p. header_bytes p.0 ++ counted s.block_bytes p.1) (pair_at (header_at f) (counted_at (block_at f) 1 256)) lower_law
    (pair (HeaderFits f) header_bytes (header_at f) (AreCounted (FitsBlock f) 1 256) (counted s.block_bytes) (counted_at (block_at f) 1 256) (header_law f) (counted_law (FitsBlock f) s.block_bytes (block_at f) 1 256 (lit≤ tt) (lit≤ tt) (block_law f))))

tables_bytes : Code → List ℕ
tables_bytes p = counted s.type_bytes p.types ++ counted s.func_bytes p.funcs

tables_law : (f : Format) → Lawful (FitsCode f) tables_bytes (tables_at f)
unfolding tables_at tables_bytes
tables_law f = made (λ (p : List DataType × List Func). AreCounted FitsType 0 64 p.0 × AreCounted (FitsFunc f) 0 64 p.1) (λ p. counted s.type_bytes p.0 ++ counted s.func_bytes p.1) (pair_at (counted_at type_at 0 64) (counted_at (func_at f) 0 64)) (FitsCode f) tables_bytes
    (λ p. record { types = p.0; funcs = p.1 }) (λ p h. record { types = h.0; funcs = h.1 }) (λ c h. record { value = (c.types, c.funcs); fits = (h.types, h.funcs); is = refl }) (λ p h. refl)
    (pair (AreCounted FitsType 0 64) (counted s.type_bytes) (counted_at type_at 0 64) (AreCounted (FitsFunc f) 0 64) (counted s.func_bytes) (counted_at (func_at f) 0 64)
    (counted_law FitsType s.type_bytes type_at 0 64 (lit≤ tt) (lit≤ tt) type_law) (counted_law (FitsFunc f) s.func_bytes (func_at f) 0 64 (lit≤ tt) (lit≤ tt) (func_law f)))

headed_law : {A : Type 0} (F : A → Type 0) (spell : A → List ℕ) (r : List ℕ → Read A) (b : ℕ) → Lawful F spell r → Lawful F (λ x. b ∷ spell x) (headed_at b r)
unfolding headed_at
headed_law F spell r b law = headed F spell r b law

-- ---- formats

abbrev digit : Format → ℕ
digit First = 49
digit Second = 50

digit_is : (f : Format) → is_digit (digit f) ≡ true
digit_is First = refl
digit_is Second = refl

format_back : (f : Format) → numbered_format (digit f) ≡ f
format_back First = refl
format_back Second = refl

digit_back : (b : ℕ) → is_digit b ≡ true → b ≡ digit (numbered_format b)
digit_back b h = by_tests (b == 49) (b == 50) refl refl h
  where
    by_tests : (v w : Bool) → (b == 49) ≡ v → (b == 50) ≡ w → (v || w) ≡ true → b ≡ digit (if v then First else Second)
    by_tests true w e k t = eqb-true b 49 e
    by_tests false true e k t = eqb-true b 50 k
    by_tests false false e k t = absurd cc

digit_law : Lawful (λ (f : Format). Unit {0}) (λ f. digit f ∷ []) digit_at
unfolding digit_at
digit_law = made (λ b. is_digit b ≡ true) (λ b. b ∷ []) (byte_at is_digit) (λ (f : Format). Unit {0}) (λ f. digit f ∷ []) numbered_format (λ b h. tt)
    (λ f h. record { value = digit f; fits = digit_is f; is = format_back f }) (λ b h. ap (λ c. c ∷ []) (digit_back b h)) (byte_law is_digit 49 refl)

format_spelled : (f : Format) → 71 ∷ 82 ∷ 76 ∷ digit f ∷ [] ≡ s.format_bytes f
format_spelled First = refl
format_spelled Second = refl

format_law : Lawful (λ (f : Format). Unit {0}) s.format_bytes format_at
unfolding format_at
format_law = retold _ _ _ (λ (f : Format). Unit {0}) s.format_bytes (λ f h. h) (λ f h. h) (λ f h. format_spelled f)
    (headed_law (λ (f : Format). Unit {0}) _ _ 71 (headed_law (λ (f : Format). Unit {0}) _ _ 82 (headed_law (λ (f : Format). Unit {0}) (λ f. digit f ∷ []) digit_at 76 digit_law)))

-- ---- code and its format

abbrev pub FitsFormat : Format × Code → Type 0
FitsFormat c = FitsCode c.0 c.1

abbrev pub format_spelling : Format × Code → List ℕ
format_spelling c = s.spelling c.0 c.1

-- the code behind the bytes that tell its format
behind_law : (f : Format)
    → Lawful (λ (c : Format × Code). FitsCode f c.1 × (c.0 ≡ f)) (λ c. tables_bytes c.1) (λ rest. map_read (λ p. (f, p)) (tables_at f rest))
behind_law f = made (FitsCode f) tables_bytes (tables_at f) (λ (c : Format × Code). FitsCode f c.1 × (c.0 ≡ f)) (λ c. tables_bytes c.1) (λ p. (f, p)) (λ p h. (h, refl))
    (λ c h. record { value = c.1; fits = h.0; is = ap (λ (g : Format). (g, c.1)) (sym h.1) }) (λ p h. refl) (tables_law f)

-- what is read is spelled so, and what is spelled so is read
pub code_law : Lawful FitsFormat format_spelling code_at
unfolding code_at tables_bytes
code_law = retold _ _ _ FitsFormat format_spelling (λ c h. h.1.0) (λ c h. (tt, (h, refl)))
    (λ c h. sym (append_assoc (s.format_bytes c.0) (counted s.type_bytes c.1.types) (counted s.func_bytes c.1.funcs)))
    (bind (λ (f : Format). Unit {0}) s.format_bytes format_at (λ f c. FitsCode f c.1 × (c.0 ≡ f)) (λ f c. tables_bytes c.1) (λ f rest. map_read (λ p. (f, p)) (tables_at f rest)) (λ c. c.0)
    format_law (λ f c h. h.1) (λ f h. behind_law f))
