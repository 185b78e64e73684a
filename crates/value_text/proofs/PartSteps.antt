-- Ints that are read at once, in front of other parts of their node.
use Rattle.std.proofs.Common.{◌≡◌, ℕ, ◌-◌, ◌<◌, ◌≤◌, List, [], ◌∷◌, ◌++◌, length, drop, take, refl, sym, ap, ◌∙◌, subst, arith, to_z, of_z, w32}
use Rattle.std.proofs.lemmas.List.{take_all}
use Rattle.std.proofs.lemmas.Int.{to_z-of_z}
use Rattle.std.specs.Prelude.{slice_index_or, true, get_or, ℤ, pos, neg_ℤ}
use Rattle.camelot_values.specs.Kinds.{DataType}
use Rattle.camelot_values.specs.declared.kinds.Kind.{Kind}
use Rattle.camelot_values.specs.declared.kinds.Kind.TheVariants as kind
use Rattle.camelot_values.specs.declared.value.Item.{Item}
use Rattle.camelot_values.specs.declared.value.Item.TheVariants as item
use Rattle.camelot_values.specs.Value.{IsInt32}
use Rattle.camelot_values.specs.Names.{is_digit}
use Rattle.value_text.specs.Choosing.{FewDigits}
use Rattle.value_text.specs.Grammar.{AreNamed, Ends}
use Rattle.value_text.specs.Dues.{Due}
use Rattle.value_text.specs.Dues as due
use Rattle.value_text.specs.Due.{Reading, further_due}
use Rattle.value_text.specs.Splitting.{skip, before_mark, FrontInt, FrontIntPart, FrontPart, NodeRead}
use Rattle.value_text.proofs.Atoms.{small_neg}
use Rattle.value_text.proofs.Digits.{front_below, front_digits, digit_range}
use Rattle.value_text.proofs.WordSteps.{skip_none}
use Rattle.value_text.proofs.NodeSteps.{front_is_read, front_int_named, mark_here, mark_first}
use Rattle.value_text.proofs.Following.{node_step, mark_step, node_shorter, mark_shorter}

parts_of : (others further : List Kind) (next : Kind) → 1 ≤ length others → next ≡ slice_index_or others 0 kind.Int
    → further ≡ take (length others - 1) (drop 1 others) → others ≡ next ∷ further
parts_of [] further next h e f = absurd (omega (arith, h))
parts_of (q ∷ others) further next h e f =
    ap (λ k. k ∷ others) (sym e) ∙ ap (λ l. next ∷ l) (sym (f ∙ take_all (length (q ∷ others) - 1) others (omega arith)))

pub part_here : (q : Kind) (others further : List Kind) (text after : List ℕ) (z : ℤ) (next : Kind) → q ≡ kind.Int → 1 ≤ length others
    → next ≡ slice_index_or others 0 kind.Int → further ≡ take (length others - 1) (drop 1 others) → FrontIntPart text z after
    → FrontPart q others text (item.Int (to_z w32 (of_z w32 z))) next further after
part_here q others further text after z next i h n f int = record {
  parts = parts_of others further next h n f;
  behind = int.behind;
  read = λ types. front_int_named types q (skip text) int.behind z i int.read;
  mark = int.mark;
}

-- an int and a comma that stand as they are printed
pub plain_here : (text rest after : List ℕ) (value good : ℕ) (z : ℤ) (first : ℕ) → FewDigits text value good → value ≤ 2147483647
    → rest ≡ take (length text - good) (drop good text) → 1 ≤ length rest → first ≡ get_or rest 0 0 → first ≡ 44
    → after ≡ take (length rest - 1) (drop 1 rest) → z ≡ pos value → FrontIntPart text z after
plain_here text rest after value good z first few small is some f comma a z_is =
    let r = mark_here rest after 44 first some f comma a in
    let s : text ≡ skip text = skip_none text (some_text text few.first) (no_space text few.first) in
    record {
      behind = rest;
      read = subst (λ t. FrontInt t z rest) s (front_digits text rest value good z few small is (subst Ends (sym r) refl) z_is);
      mark = mark_first rest after 44 first some f comma a;
    }
  where
    some_text : (text : List ℕ) → is_digit (get_or text 0 0) ≡ true → length text ≡ 0 → ⊥
    some_text [] h e = absurd cc
    some_text (c ∷ text) h e = absurd (omega (arith, e))

    no_space : (text : List ℕ) → is_digit (get_or text 0 0) ≡ true → get_or text 0 0 ≡ 32 → ⊥
    no_space text h e = let r = digit_range (get_or text 0 0) h in absurd (omega (arith, r.0, e))

-- the same behind spaces, or with more of them
pub spaced_here : (text t behind after : List ℕ) (z : ℤ) → t ≡ skip text → FrontInt t z behind → before_mark 44 behind ≡ 44 ∷ after
    → FrontIntPart text z after
spaced_here text t behind after z s int mark = record { behind = behind; read = subst (λ l. FrontInt l z behind) s int; mark = mark }

pub part_step : (types : List DataType) (first : List Due) (text : List ℕ) (xs new : List Item) (q : Kind) (others further : List Kind) (ds : List Due) (rest after : List ℕ) (x : Item) (next : Kind)
    → AreNamed types → FrontPart q others rest x next further after → new ≡ xs ++ x ∷ []
    → Reading types first text xs (due.Value q ∷ (further_due others ++ ds)) rest
    → Reading types first text new (due.Value next ∷ (further_due further ++ ds)) after
part_step types first text xs new q others further ds rest after x next names p push r =
    let n : NodeRead types q rest x [] p.behind = front_is_read types q rest (skip rest) p.behind x [] refl (p.read types) in
    let k = node_step types first text xs new q (further_due others ++ ds) (further_due others ++ ds) rest p.behind x [] names r n push refl in
    let m = subst (λ l. Reading types first text new (further_due l ++ ds) p.behind) p.parts k in
    mark_step types first text new 44 (due.Value next ∷ (further_due further ++ ds)) p.behind after m p.mark

pub part_shorter : (types : List DataType) (q : Kind) (others further : List Kind) (rest after : List ℕ) (x : Item) (next : Kind)
    → AreNamed types → FrontPart q others rest x next further after → length after < length rest
part_shorter types q others further rest after x next names p =
    let n : NodeRead types q rest x [] p.behind = front_is_read types q rest (skip rest) p.behind x [] refl (p.read types) in
    omega (arith, mark_shorter 44 p.behind after p.mark, node_shorter types q rest p.behind x [] names n)

-- an int below 0 as the code has it
pub below_kept : (digits rest : List ℕ) (value good : ℕ) (z : ℤ) → FewDigits digits value good → value ≤ 2147483648
    → rest ≡ take (length digits - good) (drop good digits) → Ends rest → z ≡ neg_ℤ (pos value) → FrontInt (45 ∷ digits) (to_z w32 (of_z w32 z)) rest
below_kept digits rest value good z d small is ends z_is =
    subst (λ y. FrontInt (45 ∷ digits) y rest) (sym (to_z-of_z w32 z (subst IsInt32 (sym z_is) (small_neg value small)))) (front_below digits rest value good z d small is ends z_is)
