-- What a look at a word says of the values that the word stands for.
use Rattle.std.proofs.Common.{◌≡◌, ℕ, zero, suc, ◌+◌, ◌-◌, ◌<◌, ◌≤◌, Bool, true, false, List, [], ◌∷◌, length, Option, Some, None, refl, sym, ap, ◌∙◌, subst, arith}
use Rattle.std.specs.Prelude.{◌==◌, nat_le, nat_lt, if◌then◌else◌, slice_get, IsSomeAnd}
use Rattle.std.specs.Option.{option_map}
use Rattle.std.specs.List.{AllByRecursion}
use Rattle.std.specs.Int.{w32}
use Rattle.std.proofs.lemmas.Int.{of_z-to_z}
use Rattle.std.proofs.Math.Facts.{sfits_to_z, Fits-of_z}
use Rattle.std.proofs.lemmas.Bool.Decides.{nat_tests}
use Rattle.std.proofs.lemmas.Option.{slice_get_within}
use Rattle.cell_span.specs.declared.cell.Cell.{Cell}
use Rattle.camelot_values.specs.Value as value
use Rattle.camelot_values.specs.Value.{Value, Values}
use Rattle.camelot_values.specs.Kinds.{DataType, Constructor, IsDataType, constructor, type_of}
use Rattle.camelot_values.specs.Typing.{Fits, FitAll}
use Rattle.camelot_values.specs.declared.kinds.Kind.{Kind}
use Rattle.camelot_values.specs.declared.kinds.Kind.TheVariants as kind
use Rattle.annotations.specs.Vectors.{Vector, at, node_units, potential, potential_all}
use Rattle.cell_machine.specs.Cells.{is_boxed, inline_base, inline_word, is_inline_word, int_word, word_int, flag_word}
use Rattle.cell_machine.specs.Stands.{Either, Stands, StandAll, footprint, footprints, words_at, times}
use Rattle.cell_machine.specs.theory.Framing.{con_within, boxed_by as boxed_from, stood, boxed_stands, inline_stands}
use Rattle.cell_machine.specs.theory.Counting.{times_here}
use Rattle.cell_owners.specs.declared.look.Due.TheVariants as due
use Rattle.cell_owners.specs.declared.look.Look.{Look}
use Rattle.cell_owners.specs.declared.look.Look.TheVariants as look
use Rattle.cell_owners.specs.Looks.{con_by, con_of, inline_look, look_at, due_kind, due_at}

-- ---- the constructor of a type

pub record ConIs (types : List DataType) (t c : ℕ) (k : Constructor) : Type 0 where
  pub con : constructor types c ≡ Some k
  pub type : type_of types c ≡ Some t

pub con_known : (types : List DataType) (t c : ℕ) (k : Constructor) → con_of types t c ≡ Some k → ConIs types t c k
con_known types t c k e = by_type (type_of types c) refl e
  where
    by_test : (u : ℕ) → type_of types c ≡ Some u → (b : Bool) → (u == t) ≡ b → (if b then constructor types c else None) ≡ Some k → ConIs types t c k
    by_test u of true h e = let same : u ≡ t = grind (arith, nat_tests, h) in record { con = e; type = of ∙ ap Some same }
    by_test u of false h e = absurd cc

    by_type : (o : Option ℕ) → type_of types c ≡ o → con_by t (constructor types c) o ≡ Some k → ConIs types t c k
    by_type None of e = absurd cc
    by_type (Some u) of e = by_test u of (u == t) refl e

pub con_there : (types : List DataType) (t c : ℕ) (k : Constructor) → constructor types c ≡ Some k → type_of types c ≡ Some t → con_of types t c ≡ Some k
con_there types t c k is of =
    let e : (t == t) ≡ true = grind (arith, nat_tests) in
    ap (con_by t (constructor types c)) of ∙ ap (λ b. if b then constructor types c else None) e ∙ is

pub few_fields : (types : List DataType) (t c : ℕ) (k : Constructor) (fields : List Kind) → AllByRecursion IsDataType types → Some k ≡ con_of types t c → fields ≡ k.fields → length fields ≤ 4
few_fields types t c k fields well e same = omega (arith, (con_within types c k well (con_known types t c k (sym e)).con).few_fields, ap length same)

-- ---- from a look to a value

pub record LeafIs (types : List DataType) (cells : List Cell) (vector : Vector) (q : Kind) (w k : ℕ) : Type 0 where
  pub value : Value
  pub fits : Fits types q value
  pub stands : Stands types cells value w
  pub carries : potential types (at vector) value ≡ k
  pub takes : (a : ℕ) → times a (footprint types cells value w) ≡ 0

abbrev pub Forth : List DataType → List Cell → Vector → Kind → ℕ → Look → Type 0
Forth types cells vector q w look.Wrong = Unit {0}
Forth types cells vector q w (look.Leaf k) = LeafIs types cells vector q w k
Forth types cells vector q w (look.Cell d) = (due_kind d ≡ q) × (due_at d ≡ w)

bit : (w : ℕ) → w ≤ 1 → w ≡ flag_word (w == 1)
bit zero h = refl
bit (suc zero) h = refl
bit (suc (suc w)) h = absurd (omega (arith, h))

inline_forth : (types : List DataType) (cells : List Cell) (vector : Vector) (t w : ℕ) → AllByRecursion IsDataType types → inline_base ≤ w → (o : Option Constructor)
    → con_of types t (w - inline_base) ≡ o → Forth types cells vector (kind.Of t) w (inline_look types vector (w - inline_base) o)
inline_forth types cells vector t w well above None e = tt
inline_forth types cells vector t w well above (Some con) e = by_inline con.inline refl
  where
    c : ℕ
    c = w - inline_base

    known : ConIs types t (w - inline_base) con
    known = con_known types t (w - inline_base) con e

    by_inline : (b : Bool) → con.inline ≡ b → Forth types cells vector (kind.Of t) w (if b then look.Leaf (node_units types (at vector) (w - inline_base)) else look.Wrong)
    by_inline false i = tt
    by_inline true i =
        let bare = (con_within types (w - inline_base) con well known.con).inline_is_bare i in
        let plain : is_boxed types (w - inline_base) ≡ false = boxed_from types (w - inline_base) con true known.con i in
        let word : w ≡ inline_word (w - inline_base) = omega (arith, above) in
        record {
          value = value.Con (w - inline_base) value.End;
          fits = (
            ap (option_map kind.Of) known.type,
            subst (λ o. IsSomeAnd o (λ con. FitAll types con.fields value.End)) (sym known.con) (subst (λ qs. FitAll types qs value.End) (sym bare) tt),
          );
          stands = subst (λ b. Either b (IsSomeAnd (slice_get cells w) (λ cell. (cell.tag ≡ w - inline_base) × StandAll types cells value.End cell.words)) (w ≡ inline_word (w - inline_base))) (sym plain) word;
          carries = omega arith;
          takes = λ x. ap (λ b. times x (if b then w ∷ footprints types cells value.End (words_at cells w) else [])) plain;
        }

pub look_forth : (types : List DataType) (cells : List Cell) (vector : Vector) → AllByRecursion IsDataType types → (q : Kind) (w : ℕ)
    → Forth types cells vector q w (look_at types vector q w)
look_forth types cells vector well kind.Int w = by_test (nat_lt w 4294967296) refl
  where
    by_test : (b : Bool) → nat_lt w 4294967296 ≡ b → Forth types cells vector kind.Int w (if b then look.Leaf 0 else look.Wrong)
    by_test false e = tt
    by_test true e =
        let small : w < 4294967296 = grind (arith, nat_tests, e) in
        record {
          value = value.Int (word_int w);
          fits = (refl, sfits_to_z {w = w32} {n = w} (omega (arith, small)));
          stands = sym (of_z-to_z w32 w (omega (arith, small)));
          carries = refl;
          takes = λ a. refl;
        }
look_forth types cells vector well kind.Flag w = by_test (nat_le w 1) refl
  where
    by_test : (b : Bool) → nat_le w 1 ≡ b → Forth types cells vector kind.Flag w (if b then look.Leaf 0 else look.Wrong)
    by_test false e = tt
    by_test true e = record { value = value.Flag (w == 1); fits = refl; stands = bit w (grind (arith, nat_tests, e)); carries = refl; takes = λ a. refl }
look_forth types cells vector well kind.Dia w = (refl, refl)
look_forth types cells vector well (kind.Of t) w = by_test (is_inline_word w) refl
  where
    by_test : (b : Bool) → is_inline_word w ≡ b → Forth types cells vector (kind.Of t) w
        (if b then inline_look types vector (w - inline_base) (con_of types t (w - inline_base)) else look.Cell (due.Boxed t w))
    by_test true e = inline_forth types cells vector t w well (grind (arith, nat_tests, e)) (con_of types t (w - inline_base)) refl
    by_test false e = (refl, refl)

-- ---- from a value to a look

abbrev pub Back : List DataType → List Cell → Vector → Kind → ℕ → Value → Look → Type 0
Back types cells vector q w v look.Wrong = ⊥
Back types cells vector q w v (look.Leaf k) = (potential types (at vector) v ≡ k) × ((a : ℕ) → times a (footprint types cells v w) ≡ 0)
Back types cells vector q w v (look.Cell d) = (due_kind d ≡ q) × (due_at d ≡ w) × (1 ≤ times w (footprint types cells v w))

no_parts : (types : List DataType) (units : ℕ → ℕ) (qs : List Kind) (vs : Values) → qs ≡ [] → FitAll types qs vs → potential_all types units vs ≡ 0
no_parts types units [] value.End e f = refl
no_parts types units [] (value.And v vs) e f = absurd f
no_parts types units (q ∷ qs) vs e f = absurd cc

inline_back : (types : List DataType) (cells : List Cell) (vector : Vector) (t w c : ℕ) (con : Constructor) (vs : Values) → AllByRecursion IsDataType types
    → constructor types c ≡ Some con → type_of types c ≡ Some t → con.inline ≡ true → FitAll types con.fields vs → Stands types cells (value.Con c vs) w
    → Back types cells vector (kind.Of t) w (value.Con c vs) (look_at types vector (kind.Of t) w)
inline_back types cells vector t w c con vs well is of plain fits stands =
    let b : is_boxed types c ≡ false = boxed_from types c con true is plain in
    let word = inline_stands types cells c vs w b stands in
    let above : is_inline_word w ≡ true = grind (arith, nat_tests, word) in
    let con_is : c ≡ w - inline_base = omega (arith, word) in
    let there : con_of types t (w - inline_base) ≡ Some con = ap (con_of types t) (sym con_is) ∙ con_there types t c con is of in
    let bare = (con_within types c con well is).inline_is_bare plain in
    let none : potential_all types (at vector) vs ≡ 0 = no_parts types (at vector) con.fields vs bare fits in
    subst (λ b. Back types cells vector (kind.Of t) w (value.Con c vs) (if b then inline_look types vector (w - inline_base) (con_of types t (w - inline_base)) else look.Cell (due.Boxed t w))) (sym above)
    (subst (λ o. Back types cells vector (kind.Of t) w (value.Con c vs) (inline_look types vector (w - inline_base) o)) (sym there)
    (subst (λ b. Back types cells vector (kind.Of t) w (value.Con c vs) (if b then look.Leaf (node_units types (at vector) (w - inline_base)) else look.Wrong)) (sym plain) (
      omega (arith, none, ap (node_units types (at vector)) con_is),
      λ a. ap (λ b. times a (if b then w ∷ footprints types cells vs (words_at cells w) else [])) b,
    )))

boxed_back : (types : List DataType) (cells : List Cell) (vector : Vector) (t w c : ℕ) (con : Constructor) (vs : Values) → length cells ≤ inline_base
    → constructor types c ≡ Some con → con.inline ≡ false → Stands types cells (value.Con c vs) w
    → Back types cells vector (kind.Of t) w (value.Con c vs) (look_at types vector (kind.Of t) w)
boxed_back types cells vector t w c con vs few is boxed stands =
    let b : is_boxed types c ≡ true = boxed_from types c con false is boxed in
    let s = boxed_stands types cells c vs w b stands in
    let whole = stood types cells c vs [] w s.0 b s.1 s.2 s.3 in
    let within : w < length cells = slice_get_within cells w s.0 s.1 in
    let below : is_inline_word w ≡ false = grind (arith, nat_tests, within, few) in
    let here : times w (w ∷ footprints types cells vs s.0.words) ≡ 1 + times w (footprints types cells vs s.0.words) = ap (λ n. n + times w (footprints types cells vs s.0.words)) (times_here w) in
    subst (λ b. Back types cells vector (kind.Of t) w (value.Con c vs) (if b then inline_look types vector (w - inline_base) (con_of types t (w - inline_base)) else look.Cell (due.Boxed t w))) (sym below)
    (refl, refl, omega (arith, ap (times w) whole.1, here))

pub look_back : (types : List DataType) (cells : List Cell) (vector : Vector) → AllByRecursion IsDataType types → length cells ≤ inline_base → (q : Kind) (w : ℕ) (v : Value)
    → Fits types q v → Stands types cells v w → Back types cells vector q w v (look_at types vector q w)
look_back types cells vector well few q w (value.Int z) f s =
    let fits = Fits-of_z {w = w32} {z = z} f.1 in
    let here : int_word z < 4294967296 = omega (arith, fits) in
    let small : w < 4294967296 = subst (λ w. w < 4294967296) (sym s) here in
    let test : nat_lt w 4294967296 ≡ true = grind (arith, nat_tests, small) in
    subst (λ q. Back types cells vector q w (value.Int z) (look_at types vector q w)) (sym f.0)
    (subst (λ b. Back types cells vector kind.Int w (value.Int z) (if b then look.Leaf 0 else look.Wrong)) (sym test) (refl, λ a. refl))
look_back types cells vector well few q w (value.Flag b) f s =
    subst (λ q. Back types cells vector q w (value.Flag b) (look_at types vector q w)) (sym f)
    (subst (λ t. Back types cells vector kind.Flag w (value.Flag b) (if t then look.Leaf 0 else look.Wrong)) (sym (small b s)) (refl, λ a. refl))
  where
    small : (b : Bool) → w ≡ flag_word b → nat_le w 1 ≡ true
    small true k = grind (arith, nat_tests, k)
    small false k = grind (arith, nat_tests, k)
look_back types cells vector well few q w value.Dia f s =
    subst (λ q. Back types cells vector q w value.Dia (look_at types vector q w)) (sym f) (refl, refl, omega (arith, times_here w))
look_back types cells vector well few q w (value.Con c vs) f s = by_type (type_of types c) refl f.0 (constructor types c) refl f.1
  where
    by_inline : (t : ℕ) (con : Constructor) → type_of types c ≡ Some t → constructor types c ≡ Some con → FitAll types con.fields vs → (b : Bool) → con.inline ≡ b
        → Back types cells vector (kind.Of t) w (value.Con c vs) (look_at types vector (kind.Of t) w)
    by_inline t con of is fits true i = inline_back types cells vector t w c con vs well is of i fits s
    by_inline t con of is fits false i = boxed_back types cells vector t w c con vs few is i s

    by_type : (u : Option ℕ) → type_of types c ≡ u → option_map kind.Of u ≡ Some q → (k : Option Constructor) → constructor types c ≡ k → IsSomeAnd k (λ con. FitAll types con.fields vs)
        → Back types cells vector q w (value.Con c vs) (look_at types vector q w)
    by_type None of e k is g = absurd cc
    by_type (Some t) of e None is g = absurd g
    by_type (Some t) of e (Some con) is g =
        let same : kind.Of t ≡ q = cc in
        subst (λ q. Back types cells vector q w (value.Con c vs) (look_at types vector q w)) same (by_inline t con of is g con.inline refl)
