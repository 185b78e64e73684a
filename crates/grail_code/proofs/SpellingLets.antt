-- The readers of lets read their spellings.
use Rattle.std.proofs.Common.{◌≡◌, ℕ, zero, suc, ◌<◌, ◌≤◌, true, false, List, [], ◌∷◌, ◌++◌, refl, sym, ap, append_assoc, lit<, lit≤, arith}
use Rattle.std.specs.Prelude.{◌==◌, if◌then◌else◌}
use Rattle.std.specs.Int.{w32, cast_signed, cast_unsigned}
use Rattle.std.proofs.lemmas.Int.{of_z-to_z, to_z-of_z}
use Rattle.std.proofs.Math.Facts.{sfits_to_z, Fits-of_z}
use Rattle.camelot_values.specs.Operator as operator
use Rattle.camelot_values.specs.Operator.{Operator}
use Rattle.grail_blocks.specs.declared.blocks.Place.{Place}
use Rattle.grail_blocks.specs.declared.blocks.Place.TheVariants as place
use Rattle.grail_code.specs.Code.{Op, Lit, Flag, Copy, Prim, Make, Call}
use Rattle.grail_code.specs.Spelling as s
use Rattle.grail_code.specs.Spelling.{Format, First, Second, IsNoDivision, IsOfFormat, number, counted, name, AreCounted, IsLocal, FitsKind, FitsCon, FitsType, FitsPlace, FitsOp, FitsLet, FitsCell, FitsArm, FitsTerm, FitsBlock, FitsFunc, FitsCode}
use Rattle.grail_code.specs.Reader.{pair_at, tag_at, leb_at, counted_at}
use Rattle.grail_code.specs.CodeReader.{local_at, numbered_operator, operators, operator_at, place_rest, place_at, lit_at, flag_at, copy_at, prim_at, make_at, call_at, op_rest, op_at, let_at}
use Rattle.grail_code.proofs.SpellingParts.{Lawful, Made, made, pair, constant, tagged, tag_law, counted_law}
use Rattle.grail_code.proofs.SpellingTypes.{upto_law}

-- ---- lets

pub local_law : Lawful IsLocal number local_at
unfolding local_at
local_law = upto_law 255

pub locals_law : (most : ℕ) → Lawful (AreCounted IsLocal 0 most) (counted number) (counted_at local_at 0 most)
locals_law most = counted_law IsLocal number local_at 0 most (lit≤ tt) (omega arith) local_law

-- the number of a function and arguments for it
abbrev pub CallFits : ℕ × List ℕ → Type 0
CallFits p = (p.0 ≤ 63) × AreCounted IsLocal 0 16 p.1

pub call_parts : Lawful CallFits (λ p. number p.0 ++ counted number p.1) (pair_at (leb_at 4 0 63) (counted_at local_at 0 16))
call_parts = pair (λ n. n ≤ 63) number (leb_at 4 0 63) (AreCounted IsLocal 0 16) (counted number) (counted_at local_at 0 16) (upto_law 63) (locals_law 16)

pub two_locals : Lawful (λ (p : ℕ × ℕ). IsLocal p.0 × IsLocal p.1) (λ p. number p.0 ++ number p.1) (pair_at local_at local_at)
two_locals = pair IsLocal number local_at IsLocal number local_at local_law local_law

-- operators
operators_some : (f : Format) → 0 < operators f
operators_some First = lit< tt
operators_some Second = lit< tt

operator_back : (op : Operator) → numbered_operator (s.operator_code op) ≡ op
operator_back operator.Add = refl
operator_back operator.Sub = refl
operator_back operator.Mul = refl
operator_back operator.Div = refl
operator_back operator.Mod = refl
operator_back operator.Eq = refl
operator_back operator.Ne = refl
operator_back operator.Lt = refl
operator_back operator.Le = refl
operator_back operator.Gt = refl
operator_back operator.Ge = refl

below_11 : (op : Operator) → s.operator_code op < 11
below_11 operator.Add = lit< tt
below_11 operator.Sub = lit< tt
below_11 operator.Mul = lit< tt
below_11 operator.Div = lit< tt
below_11 operator.Mod = lit< tt
below_11 operator.Eq = lit< tt
below_11 operator.Ne = lit< tt
below_11 operator.Lt = lit< tt
below_11 operator.Le = lit< tt
below_11 operator.Gt = lit< tt
below_11 operator.Ge = lit< tt

below_9 : (op : Operator) → IsNoDivision op → s.operator_code op < 9
below_9 operator.Add h = lit< tt
below_9 operator.Sub h = lit< tt
below_9 operator.Mul h = lit< tt
below_9 operator.Div h = absurd h
below_9 operator.Mod h = absurd h
below_9 operator.Eq h = lit< tt
below_9 operator.Ne h = lit< tt
below_9 operator.Lt h = lit< tt
below_9 operator.Le h = lit< tt
below_9 operator.Gt h = lit< tt
below_9 operator.Ge h = lit< tt

operator_small : (f : Format) (op : Operator) → IsOfFormat f op → s.operator_code op < operators f
operator_small First op h = below_9 op h
operator_small Second op h = below_11 op

operator_number : (n : ℕ) → n < 11 → n ≡ s.operator_code (numbered_operator n)
operator_number zero h = refl
operator_number (suc zero) h = refl
operator_number (suc (suc zero)) h = refl
operator_number (suc (suc (suc zero))) h = refl
operator_number (suc (suc (suc (suc zero)))) h = refl
operator_number (suc (suc (suc (suc (suc zero))))) h = refl
operator_number (suc (suc (suc (suc (suc (suc zero)))))) h = refl
operator_number (suc (suc (suc (suc (suc (suc (suc zero))))))) h = refl
operator_number (suc (suc (suc (suc (suc (suc (suc (suc zero)))))))) h = refl
operator_number (suc (suc (suc (suc (suc (suc (suc (suc (suc zero))))))))) h = refl
operator_number (suc (suc (suc (suc (suc (suc (suc (suc (suc (suc n)))))))))) h = omega arith

undivided_below : (n : ℕ) → n < 9 → IsNoDivision (numbered_operator n)
undivided_below zero h = tt
undivided_below (suc zero) h = tt
undivided_below (suc (suc zero)) h = tt
undivided_below (suc (suc (suc zero))) h = tt
undivided_below (suc (suc (suc (suc zero)))) h = tt
undivided_below (suc (suc (suc (suc (suc zero))))) h = tt
undivided_below (suc (suc (suc (suc (suc (suc zero)))))) h = tt
undivided_below (suc (suc (suc (suc (suc (suc (suc zero))))))) h = tt
undivided_below (suc (suc (suc (suc (suc (suc (suc (suc zero)))))))) h = tt
undivided_below (suc (suc (suc (suc (suc (suc (suc (suc (suc n))))))))) h = absurd (omega arith)

below_all : (f : Format) (n : ℕ) → n < operators f → n < 11
below_all First n h = omega arith
below_all Second n h = h

operator_fits : (f : Format) (n : ℕ) → n < operators f → IsOfFormat f (numbered_operator n)
operator_fits First n h = undivided_below n h
operator_fits Second n h = tt

operator_law : (f : Format) → Lawful (IsOfFormat f) (λ op. s.operator_code op ∷ []) (operator_at f)
unfolding operator_at
operator_law f = made (λ n. n < operators f) (λ n. n ∷ []) (tag_at (operators f)) (IsOfFormat f) (λ op. s.operator_code op ∷ []) numbered_operator (operator_fits f)
    (λ op h. record { value = s.operator_code op; fits = operator_small f op h; is = operator_back op })
    (λ n h. ap (λ k. k ∷ []) (operator_number n (below_all f n h))) (tag_law (operators f) (operators_some f))

-- places
abbrev place_tag : Place → ℕ
place_tag place.Inline = 0
place_tag place.New = 1
place_tag (place.Reuse x) = 2

abbrev place_tail : Place → List ℕ
place_tail (place.Reuse x) = number x
place_tail p = []

place_small : (p : Place) → place_tag p < 3
place_small place.Inline = lit< tt
place_small place.New = lit< tt
place_small (place.Reuse x) = lit< tt

place_tagged : (p : Place) → s.place_bytes p ≡ place_tag p ∷ place_tail p
place_tagged place.Inline = refl
place_tagged place.New = refl
place_tagged (place.Reuse x) = refl

inline_only : (p : Place) → FitsPlace p × (place_tag p ≡ 0) → place.Inline ≡ p
inline_only place.Inline h = refl
inline_only p h = absurd (omega (arith, h.1))

new_only : (p : Place) → FitsPlace p × (place_tag p ≡ 1) → place.New ≡ p
new_only place.New h = refl
new_only p h = absurd (omega (arith, h.1))

reuse_only : (p : Place) → FitsPlace p × (place_tag p ≡ 2) → Made IsLocal place.Reuse p
reuse_only (place.Reuse x) h = record { value = x; fits = h.0; is = refl }
reuse_only p h = absurd (omega (arith, h.1))

place_rest_law : (n : ℕ) → n < 3 → Lawful (λ p. FitsPlace p × (place_tag p ≡ n)) place_tail (place_rest n)
unfolding place_rest
place_rest_law zero h = constant _ place_tail place.Inline (tt, refl) inline_only refl
place_rest_law (suc zero) h = constant _ place_tail place.New (tt, refl) new_only refl
place_rest_law (suc (suc zero)) h = made IsLocal number local_at _ place_tail place.Reuse (λ x k. (k, refl)) reuse_only (λ x k. refl) local_law
place_rest_law (suc (suc (suc n))) h = absurd (omega arith)

place_law : Lawful FitsPlace s.place_bytes place_at
unfolding place_at
place_law = tagged FitsPlace s.place_bytes place_tail place_tag 3 place_rest (lit< tt) place_small place_tagged place_rest_law

-- operations
abbrev op_tag : Op → ℕ
op_tag (Lit z) = 0
op_tag (Flag b) = 1
op_tag (Copy x) = 2
op_tag (Prim op x y) = 3
op_tag (Make c args p) = 4
op_tag (Call f args) = 5

abbrev op_tail : Op → List ℕ
op_tail (Lit z) = number (cast_unsigned w32 z)
op_tail (Flag b) = (if b then 1 else 0) ∷ []
op_tail (Copy x) = number x
op_tail (Prim op x y) = s.operator_code op ∷ (number x ++ number y)
op_tail (Make c args p) = number c ++ counted number args ++ s.place_bytes p
op_tail (Call f args) = number f ++ counted number args

abbrev OpFits : Format → ℕ → Op → Type 0
OpFits f n op = FitsOp f op × (op_tag op ≡ n)

op_small : (op : Op) → op_tag op < 6
op_small (Lit z) = lit< tt
op_small (Flag b) = lit< tt
op_small (Copy x) = lit< tt
op_small (Prim op x y) = lit< tt
op_small (Make c args p) = lit< tt
op_small (Call f args) = lit< tt

op_tagged : (op : Op) → s.op_bytes op ≡ op_tag op ∷ op_tail op
op_tagged (Lit z) = refl
op_tagged (Flag b) = refl
op_tagged (Copy x) = refl
op_tagged (Prim op x y) = refl
op_tagged (Make c args p) = refl
op_tagged (Call f args) = refl

lit_from : (f : Format) (op : Op) → OpFits f 0 op → Made (λ n. n ≤ 4294967295) (λ n. Lit (cast_signed w32 n)) op
lit_from f (Lit z) h = record { value = cast_unsigned w32 z; fits = (let k = Fits-of_z {w = w32} {z = z} h.0 in omega arith); is = ap Lit (to_z-of_z w32 z h.0) }
lit_from f op h = absurd (omega (arith, h.1))

lit_law : (f : Format) → Lawful (OpFits f 0) op_tail lit_at
unfolding lit_at
lit_law f = made (λ n. n ≤ 4294967295) number (leb_at 4 0 4294967295) (OpFits f 0) op_tail (λ n. Lit (cast_signed w32 n)) (λ n h. (sfits_to_z {w = w32} {n = n} (omega arith), refl)) (lit_from f) (λ n h. ap number (sym (of_z-to_z w32 n (omega arith)))) (upto_law 4294967295)

flag_from : (f : Format) (op : Op) → OpFits f 1 op → Made (λ n. n < 2) (λ n. Flag (n == 1)) op
flag_from f (Flag true) h = record { value = 1; fits = lit< tt; is = refl }
flag_from f (Flag false) h = record { value = 0; fits = lit< tt; is = refl }
flag_from f op h = absurd (omega (arith, h.1))

flag_spelled : (n : ℕ) → n < 2 → n ∷ [] ≡ (if n == 1 then 1 else 0) ∷ []
flag_spelled zero h = refl
flag_spelled (suc zero) h = refl
flag_spelled (suc (suc n)) h = absurd (omega arith)

flag_law : (f : Format) → Lawful (OpFits f 1) op_tail flag_at
unfolding flag_at
flag_law f = made (λ n. n < 2) (λ n. n ∷ []) (tag_at 2) (OpFits f 1) op_tail (λ n. Flag (n == 1)) (λ n h. (tt, refl)) (flag_from f) flag_spelled (tag_law 2 (lit< tt))

copy_from : (f : Format) (op : Op) → OpFits f 2 op → Made IsLocal Copy op
copy_from f (Copy x) h = record { value = x; fits = h.0; is = refl }
copy_from f op h = absurd (omega (arith, h.1))

copy_law : (f : Format) → Lawful (OpFits f 2) op_tail copy_at
unfolding copy_at
copy_law f = made IsLocal number local_at (OpFits f 2) op_tail Copy (λ x h. (h, refl)) (copy_from f) (λ x h. refl) local_law

abbrev PrimFits : Format → Operator × (ℕ × ℕ) → Type 0
PrimFits f p = IsOfFormat f p.0 × (IsLocal p.1.0 × IsLocal p.1.1)

prim_from : (f : Format) (op : Op) → OpFits f 3 op → Made (PrimFits f) (λ p. Prim p.0 p.1.0 p.1.1) op
prim_from f (Prim o x y) h = record { value = (o, (x, y)); fits = (h.0.0, (h.0.1, h.0.2)); is = refl }
prim_from f op h = absurd (omega (arith, h.1))

prim_law : (f : Format) → Lawful (OpFits f 3) op_tail (prim_at f)
unfolding prim_at
prim_law f = made (PrimFits f) (λ p. (s.operator_code p.0 ∷ []) ++ (number p.1.0 ++ number p.1.1)) (pair_at (operator_at f) (pair_at local_at local_at)) (OpFits f 3) op_tail (λ p. Prim p.0 p.1.0 p.1.1) (λ p h. ((h.0, h.1.0, h.1.1), refl)) (prim_from f) (λ p h. refl)
    (pair (IsOfFormat f) (λ op. s.operator_code op ∷ []) (operator_at f) (λ (p : ℕ × ℕ). IsLocal p.0 × IsLocal p.1) (λ p. number p.0 ++ number p.1) (pair_at local_at local_at) (operator_law f) two_locals)

abbrev MakeFits : ℕ × (List ℕ × Place) → Type 0
MakeFits p = (p.0 ≤ 4095) × (AreCounted IsLocal 0 4 p.1.0 × FitsPlace p.1.1)

make_from : (f : Format) (op : Op) → OpFits f 4 op → Made MakeFits (λ p. Make p.0 p.1.0 p.1.1) op
make_from f (Make c args p) h = record { value = (c, (args, p)); fits = (h.0.0, (h.0.1, h.0.2)); is = refl }
make_from f op h = absurd (omega (arith, h.1))

make_law : (f : Format) → Lawful (OpFits f 4) op_tail make_at
unfolding make_at
make_law f = made MakeFits (λ p. number p.0 ++ (counted number p.1.0 ++ s.place_bytes p.1.1)) (pair_at (leb_at 4 0 4095) (pair_at (counted_at local_at 0 4) place_at)) (OpFits f 4) op_tail (λ p. Make p.0 p.1.0 p.1.1)
    (λ p h. ((h.0, h.1.0, h.1.1), refl)) (make_from f) (λ p h. sym (append_assoc (number p.0) (counted number p.1.0) (s.place_bytes p.1.1)))
    (pair (λ n. n ≤ 4095) number (leb_at 4 0 4095) (λ (p : List ℕ × Place). AreCounted IsLocal 0 4 p.0 × FitsPlace p.1) (λ p. counted number p.0 ++ s.place_bytes p.1) (pair_at (counted_at local_at 0 4) place_at) (upto_law 4095)
    (pair (AreCounted IsLocal 0 4) (counted number) (counted_at local_at 0 4) FitsPlace s.place_bytes place_at (locals_law 4) place_law))

call_from : (f : Format) (op : Op) → OpFits f 5 op → Made CallFits (λ p. Call p.0 p.1) op
call_from f (Call g args) h = record { value = (g, args); fits = h.0; is = refl }
call_from f op h = absurd (omega (arith, h.1))

call_law : (f : Format) → Lawful (OpFits f 5) op_tail call_at
unfolding call_at
call_law f = made CallFits (λ p. number p.0 ++ counted number p.1) (pair_at (leb_at 4 0 63) (counted_at local_at 0 16)) (OpFits f 5) op_tail (λ p. Call p.0 p.1) (λ p h. (h, refl)) (call_from f) (λ p h. refl) call_parts

op_rest_law : (f : Format) (n : ℕ) → n < 6 → Lawful (OpFits f n) op_tail (op_rest f n)
unfolding op_rest
op_rest_law f zero h = lit_law f
op_rest_law f (suc zero) h = flag_law f
op_rest_law f (suc (suc zero)) h = copy_law f
op_rest_law f (suc (suc (suc zero))) h = prim_law f
op_rest_law f (suc (suc (suc (suc zero)))) h = make_law f
op_rest_law f (suc (suc (suc (suc (suc zero))))) h = call_law f
op_rest_law f (suc (suc (suc (suc (suc (suc n)))))) h = absurd (omega arith)

op_law : (f : Format) → Lawful (FitsOp f) s.op_bytes (op_at f)
unfolding op_at
op_law f = tagged (FitsOp f) s.op_bytes op_tail op_tag 6 (op_rest f) (lit< tt) op_small op_tagged (op_rest_law f)

pub let_law : (f : Format) → Lawful (FitsLet f) s.let_bytes (let_at f)
unfolding let_at
let_law f = made (λ (p : ℕ × Op). IsLocal p.0 × FitsOp f p.1) (λ p. number p.0 ++ s.op_bytes p.1) (pair_at local_at (op_at f)) (FitsLet f) s.let_bytes (λ p. record { target = p.0; op = p.1 })
    (λ p h. record { target = h.0; op = h.1 }) (λ l h. record { value = (l.target, l.op); fits = (h.target, h.op); is = refl }) (λ p h. refl)
    (pair IsLocal number local_at (FitsOp f) s.op_bytes (op_at f) local_law (op_law f))
