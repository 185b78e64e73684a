-- The readers of names, kinds and types read their spellings.
use Rattle.std.proofs.Common.{◌≡◌, ℕ, zero, suc, ◌+◌, ◌<◌, ◌≤◌, Bool, true, false, List, [], ◌∷◌, ◌++◌, length, refl, sym, ap, subst, lit<, lit≤, arith}
use Rattle.std.specs.Prelude.{◌&&◌, if◌then◌else◌, IsTrue}
use Rattle.std.specs.List.{flat_map, AllByRecursion, list_all}
use Rattle.std.proofs.lemmas.List.Concat.{flat_map-cons}
use Rattle.camelot_values.specs.Names.{is_lower, is_upper, is_tail, has_form, IsName}
use Rattle.camelot_values.specs.Kinds.{Constructor, DataType, IsConstructor, IsDataType, AreTypes}
use Rattle.camelot_values.specs.declared.kinds.Kind.{Kind}
use Rattle.camelot_values.specs.declared.kinds.Kind.TheVariants as kind
use Rattle.grail_code.specs.Code.{Prim}
use Rattle.grail_code.specs.Spelling as s
use Rattle.grail_code.specs.Spelling.{number, counted, name, AreCounted, IsLocal, FitsKind, FitsCon, FitsType, FitsPlace, FitsOp, FitsLet, FitsCell, FitsArm, FitsTerm, FitsBlock, FitsFunc, FitsCode}
use Rattle.grail_code.specs.Reader.{Read, Done, pair_at, byte_at, leb_at, times_at, counted_at}
use Rattle.grail_code.specs.CodeReader.{tail_at, word_at, name_at, numbered_kind, kind_at, fields_at, layout_at, con_at, type_at}
use Rattle.grail_code.proofs.SpellingParts.{Lawful, Tells, Made, retold, made, pair, bind, constant, byte_law, tagged, InRow, row_law, number_law, counted_law}

-- ---- names

both_true : (a b : Bool) → (a && b) ≡ true → (a ≡ true) × (b ≡ true)
both_true true b h = (refl, h)
both_true false b h = absurd cc

tails_all : (xs : List ℕ) → AllByRecursion (λ b. is_tail b ≡ true) xs → list_all is_tail xs ≡ true
tails_all [] h = refl
tails_all (x ∷ xs) h = rw (h.0) (tails_all xs h.1)

all_tails : (xs : List ℕ) → list_all is_tail xs ≡ true → AllByRecursion (λ b. is_tail b ≡ true) xs
all_tails [] h = tt
all_tails (x ∷ xs) h = let k = both_true (is_tail x) (list_all is_tail xs) h in (k.0, all_tails xs k.1)

as_they_are : (xs : List ℕ) → flat_map (λ b. b ∷ []) xs ≡ xs
as_they_are [] = refl
as_they_are (x ∷ xs) = rw (flat_map-cons (λ b. b ∷ []) x xs) (ap (λ ys. x ∷ ys) (as_they_are xs))

abbrev IsWord : (ℕ → Bool) → ℕ → List ℕ → Type 0
IsWord is_first n word = (length word ≡ n) × IsTrue (has_form is_first word)

abbrev Letters : (ℕ → Bool) → ℕ → ℕ × List ℕ → Type 0
Letters is_first n p = (is_first p.0 ≡ true) × InRow (λ b. is_tail b ≡ true) n p.1

word_from : (is_first : ℕ → Bool) (n : ℕ) (word : List ℕ) → IsWord is_first (suc n) word → Made (Letters is_first n) (λ p. p.0 ∷ p.1) word
word_from is_first n [] h = absurd (omega (arith, h.0))
word_from is_first n (x ∷ xs) h = let k = both_true (is_first x) (list_all is_tail xs) h.1 in record { value = (x, xs); fits = (k.0, (omega (arith, h.0), all_tails xs k.1)); is = refl }

tail_law : Lawful (λ b. is_tail b ≡ true) (λ b. b ∷ []) tail_at
unfolding tail_at
tail_law = byte_law is_tail 97 refl

word_law : (is_first : ℕ → Bool) (letter : ℕ) → is_first letter ≡ true → (n : ℕ) → 1 ≤ n → Lawful (IsWord is_first n) (λ word. word) (word_at is_first n)
unfolding word_at
word_law is_first letter good zero some = absurd (omega arith)
word_law is_first letter good (suc n) some =
    made (Letters is_first n) (λ p. (p.0 ∷ []) ++ flat_map (λ b. b ∷ []) p.1) (pair_at (byte_at is_first) (times_at tail_at n)) (IsWord is_first (suc n)) (λ word. word) (λ p. p.0 ∷ p.1)
    (λ p h. (ap suc h.1.0, rw (h.0) (tails_all p.1 h.1.1))) (word_from is_first n) (λ p h. ap (λ w. p.0 ∷ w) (as_they_are p.1))
    (pair (λ b. is_first b ≡ true) (λ b. b ∷ []) (byte_at is_first) (InRow (λ b. is_tail b ≡ true) n) (λ xs. flat_map (λ b. b ∷ []) xs) (times_at tail_at n)
    (byte_law is_first letter good) (row_law (λ b. is_tail b ≡ true) (λ b. b ∷ []) tail_at tail_law n))

some_letters : (is_first : ℕ → Bool) (word : List ℕ) → IsTrue (has_form is_first word) → 1 ≤ length word
some_letters is_first [] h = absurd cc
some_letters is_first (b ∷ bs) h = omega arith

name_law : (is_first : ℕ → Bool) (letter : ℕ) → is_first letter ≡ true → Lawful (IsName is_first) name (name_at is_first)
unfolding name_at
name_law is_first letter good =
    retold _ _ _ (IsName is_first) name (λ w h. record { form = h.1.1; short = h.0.1 }) (λ w h. ((some_letters is_first w h.form, h.short), (refl, h.form))) (λ w h. refl)
    (bind (λ n. (1 ≤ n) × (n ≤ 64)) number (leb_at 4 1 64) (λ n w. IsWord is_first n w) (λ n w. w) (λ n rest. word_at is_first n rest) length
    (number_law 1 64 (lit≤ tt) (lit≤ tt)) (λ n w h. h.0) (λ n h. word_law is_first letter good n h.0))

pub lower_law : Lawful (IsName is_lower) name (name_at is_lower)
lower_law = name_law is_lower 97 refl

pub upper_law : Lawful (IsName is_upper) name (name_at is_upper)
upper_law = name_law is_upper 65 refl

-- ---- types

-- a number with a limit
pub upto_law : (most : ℕ) → Lawful (λ n. n ≤ most) number (leb_at 4 0 most)
upto_law most = retold _ _ _ (λ n. n ≤ most) number (λ n h. h.1) (λ n h. (omega arith, h)) (λ n h. refl) (number_law 0 most (lit≤ tt) (omega arith))

pub code_back : (n : ℕ) → s.kind_code (numbered_kind n) ≡ n
code_back zero = refl
code_back (suc zero) = refl
code_back (suc (suc zero)) = refl
code_back (suc (suc (suc t))) = omega arith

pub kind_back : (q : Kind) → numbered_kind (s.kind_code q) ≡ q
kind_back kind.Int = refl
kind_back kind.Flag = refl
kind_back kind.Dia = refl
kind_back (kind.Of t) = let e : 3 + t ≡ suc (suc (suc t)) = omega arith in rw e refl

pub kind_law : Lawful FitsKind s.kind_bytes kind_at
unfolding kind_at
kind_law = made (λ n. n ≤ 66) number (leb_at 4 0 66) FitsKind s.kind_bytes numbered_kind (λ n h. rw (code_back n) h) (λ q h. record { value = s.kind_code q; fits = h; is = kind_back q }) (λ n h. ap number (sym (code_back n))) (upto_law 66)

pub kinds_law : (least most : ℕ) → least ≤ 1 → least ≤ most → Lawful (AreCounted FitsKind least most) (counted s.kind_bytes) (counted_at kind_at least most)
kinds_law least most small some = counted_law FitsKind s.kind_bytes kind_at least most small some kind_law

record IsLayout (p : Bool × List Kind) : Type 0 where
  fields : AreCounted FitsKind 0 4 p.1
  bare : p.0 ≡ true → p.1 ≡ []

abbrev layout_tag : Bool × List Kind → ℕ
layout_tag (true, fields) = 1
layout_tag (false, fields) = 0

abbrev layout_tail : Bool × List Kind → List ℕ
layout_tail (true, fields) = []
layout_tail (false, fields) = counted s.kind_bytes fields

abbrev layout_bytes : Bool × List Kind → List ℕ
layout_bytes p = if p.0 then 1 ∷ [] else (0 ∷ counted s.kind_bytes p.1)

layout_tagged : (p : Bool × List Kind) → layout_bytes p ≡ layout_tag p ∷ layout_tail p
layout_tagged (true, fields) = refl
layout_tagged (false, fields) = refl

layout_small : (p : Bool × List Kind) → layout_tag p < 2
layout_small (true, fields) = lit< tt
layout_small (false, fields) = lit< tt

bare_from : (p : Bool × List Kind) → IsLayout p × (layout_tag p ≡ 1) → (true, []) ≡ p
bare_from (true, fields) h = ap (λ (xs : List Kind). (true, xs)) (sym (h.0.bare refl))
bare_from (false, fields) h = absurd (omega (arith, h.1))

boxed_from : (p : Bool × List Kind) → IsLayout p × (layout_tag p ≡ 0) → Made (AreCounted FitsKind 0 4) (λ fields. (false, fields)) p
boxed_from (true, fields) h = absurd (omega (arith, h.1))
boxed_from (false, fields) h = record { value = fields; fits = h.0.fields; is = refl }

fields_law : (n : ℕ) → n < 2 → Lawful (λ p. IsLayout p × (layout_tag p ≡ n)) layout_tail (fields_at n)
unfolding fields_at
fields_law zero h = made (AreCounted FitsKind 0 4) (counted s.kind_bytes) (counted_at kind_at 0 4) (λ p. IsLayout p × (layout_tag p ≡ 0)) layout_tail (λ fields. (false, fields))
    (λ fields k. (record { fields = k; bare = λ e. absurd cc }, refl)) boxed_from (λ fields k. refl) (kinds_law 0 4 (lit≤ tt) (lit≤ tt))
fields_law (suc zero) h = constant (λ p. IsLayout p × (layout_tag p ≡ 1)) layout_tail (true, []) (record { fields = record { enough = lit≤ tt; few = lit≤ tt; each = tt }; bare = λ e. refl }, refl) bare_from refl
fields_law (suc (suc n)) h = absurd (omega arith)

layout_law : Lawful IsLayout layout_bytes layout_at
unfolding layout_at
layout_law = tagged IsLayout layout_bytes layout_tail layout_tag 2 fields_at (lit< tt) layout_small layout_tagged fields_law

con_law : Lawful FitsCon s.con_bytes con_at
unfolding con_at
con_law = made (λ (p : List ℕ × (Bool × List Kind)). IsName is_upper p.0 × IsLayout p.1) (λ p. name p.0 ++ layout_bytes p.1) (pair_at (name_at is_upper) layout_at) FitsCon s.con_bytes
    (λ p. record { name = p.0; inline = p.1.0; fields = p.1.1 })
    (λ p h. record { name = h.0; fields = h.1.fields; inline_is_bare = h.1.bare })
    (λ c h. record { value = (c.name, (c.inline, c.fields)); fits = (h.name, record { fields = h.fields; bare = h.inline_is_bare }); is = refl })
    (λ p h. refl)
    (pair (IsName is_upper) name (name_at is_upper) IsLayout layout_bytes layout_at upper_law layout_law)

pub type_law : Lawful FitsType s.type_bytes type_at
unfolding type_at
type_law = made (λ (p : List ℕ × List Constructor). IsName is_lower p.0 × AreCounted FitsCon 1 64 p.1) (λ p. name p.0 ++ counted s.con_bytes p.1) (pair_at (name_at is_lower) (counted_at con_at 1 64)) FitsType s.type_bytes
    (λ p. record { name = p.0; cons = p.1 })
    (λ p h. record { name = h.0; cons = h.1 })
    (λ c h. record { value = (c.name, c.cons); fits = (h.name, h.cons); is = refl })
    (λ p h. refl)
    (pair (IsName is_lower) name (name_at is_lower) (AreCounted FitsCon 1 64) (counted s.con_bytes) (counted_at con_at 1 64) lower_law (counted_law FitsCon s.con_bytes con_at 1 64 (lit≤ tt) (lit≤ tt) con_law))

-- ---- what the code's own types ask for

cons_fit : (cs : List Constructor) → AllByRecursion FitsCon cs → AllByRecursion IsConstructor cs
cons_fit [] h = tt
cons_fit (c ∷ cs) h = (record { few_fields = h.0.fields.few; inline_is_bare = h.0.inline_is_bare }, cons_fit cs h.1)

each_fits : (ts : List DataType) → AllByRecursion FitsType ts → AllByRecursion IsDataType ts
each_fits [] h = tt
each_fits (t ∷ ts) h = (record { some_cons = h.0.cons.enough; few_cons = h.0.cons.few; each = cons_fit t.cons h.0.cons.each }, each_fits ts h.1)

types_told : (ts : List DataType) (rest bytes : List ℕ) (o : Read (List DataType)) → o ≡ Done ts rest
    → Tells (AreCounted FitsType 0 64) (counted s.type_bytes) bytes o → AreTypes ts
types_told ts rest bytes o e h = let k = subst (Tells (AreCounted FitsType 0 64) (counted s.type_bytes) bytes) e h in record { few_types = k.0.few; each = each_fits ts k.0.each }

pub types_fit : (bytes rest : List ℕ) (ts : List DataType) → counted_at type_at 0 64 bytes ≡ Done ts rest → AreTypes ts
types_fit bytes rest ts e = types_told ts rest bytes (counted_at type_at 0 64 bytes) e ((counted_law FitsType s.type_bytes type_at 0 64 (lit≤ tt) (lit≤ tt) type_law).tells bytes)
