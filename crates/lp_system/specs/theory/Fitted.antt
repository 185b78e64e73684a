-- Laws, for the proofs of this crate and of those above it.
-- The certificate of an assignment fits its code.
use Rattle.std.proofs.Common.{◌≡◌, ◌⊎◌, ℕ, zero, suc, ◌+◌, ◌-◌, ◌<◌, ◌≤◌, Bool, true, false, List, [], ◌∷◌, ◌++◌, length, map, Option, Some, None, IsTrue, refl, sym, ap, ◌∙◌, subst, arith, inl, inr}
use Rattle.std.specs.Prelude.{◌||◌, ◌&&◌, not, nat_le, nat_lt, cond, slice_get, flat_map, IsSomeAnd}
use Rattle.std.specs.List.{AllByRecursion, range_with_len, list_any}
use Rattle.std.specs.Option.{option_map, option_map_or}
use Rattle.std.proofs.lemmas.Bool.Decides.{nat_tests}
use Rattle.camelot_values.specs.Kinds.{Constructor, DataType, IsConstructor, IsDataType, AreTypes, type_of}
use Rattle.camelot_values.specs.Heap.{is_heap_type, has_boxed, fields_of, is_of, HoldsType, LeadsTo, reached, Reaches}
use Rattle.camelot_values.specs.Lists.{is_among}
use Rattle.camelot_values.specs.ReachLaws.{reached_is}
use Rattle.camelot_values.specs.declared.kinds.Kind.{Kind}
use Rattle.camelot_values.specs.declared.kinds.Kind.TheVariants as kind
use Rattle.grail_blocks.specs.Events.{params_at}
use Rattle.grail_code.specs.Code.{Op, Lit, Flag, Copy, Prim, Make, Call, Let, Block, Func, Code}
use Rattle.grail_code.specs.WellFormed.{kind_of, is_lent}
use Rattle.annotations.specs.Vectors.{Vector, is_heap_con}
use Rattle.certificate.specs.Certificates.{VarCert, BlockCert, MakeCert}
use Rattle.licence.specs.Fitting.{IsOfKind, IsHeapData, VarFits, BuildFits, MakeFits, IsRightAt, Right, Fits}
use Rattle.lp_system.specs.Unknowns.{Param, Result, BlockVar, Made, carriers, local_carriers}
use Rattle.lp_system.specs.Found.{Assignment, with_units, units_on, line_of, lines_of, block_by, make_line, made_by, lets_by, builds_by, func_by, certificate_by}
use Rattle.lp_system.specs.theory.Lent.{lent_none, owned_all}
use Rattle.lp_system.specs.theory.Listing.{among_here, among_later, in_range, range_has}
use Rattle.lp_system.specs.theory.Certified.{func_got}

-- ---- only heap types reach constructors

or_split : (a b : Bool) → (a || b) ≡ true → (a ≡ true) ⊎ (b ≡ true)
or_split true b h = inl refl
or_split false b h = inr h

any_both : {A : Type 0} (p : A → Bool) (xs ys : List A) → list_any p (xs ++ ys) ≡ true → (list_any p xs ≡ true) ⊎ (list_any p ys ≡ true)
any_both p [] ys h = inr h
any_both p (x ∷ xs) ys h = by_part (any_both p xs ys) (or_split (p x) (list_any p (xs ++ ys)) h)
  where
    first : (a b : Bool) → a ≡ true → (a || b) ≡ true
    first true b e = refl
    first false b e = absurd cc

    second : (a b : Bool) → b ≡ true → (a || b) ≡ true
    second true b e = refl
    second false b e = e

    by_part : (list_any p (xs ++ ys) ≡ true → (list_any p xs ≡ true) ⊎ (list_any p ys ≡ true)) → (p x ≡ true) ⊎ (list_any p (xs ++ ys) ≡ true)
        → ((p x || list_any p xs) ≡ true) ⊎ (list_any p ys ≡ true)
    by_part further (inl e) = inl (first (p x) (list_any p xs) e)
    by_part further (inr e) = by_rest (further e)
      where
        by_rest : (list_any p xs ≡ true) ⊎ (list_any p ys ≡ true) → ((p x || list_any p xs) ≡ true) ⊎ (list_any p ys ≡ true)
        by_rest (inl k) = inl (second (p x) (list_any p xs) k)
        by_rest (inr k) = inr k

-- a constructor with a field is boxed
boxed : (u : ℕ) (cons : List Constructor) → AllByRecursion IsConstructor cons → list_any (is_of u) (flat_map (λ c. c.fields) cons) ≡ true
    → list_any (λ c. not c.inline) cons ≡ true
boxed u [] all h = absurd cc
boxed u (c ∷ cons) all h = by_part (boxed u cons all.1) (any_both (is_of u) c.fields (flat_map (λ d. d.fields) cons) h)
  where
    second : (a b : Bool) → b ≡ true → (a || b) ≡ true
    second true b e = refl
    second false b e = e

    by_inline : (b : Bool) → c.inline ≡ b → list_any (is_of u) c.fields ≡ true → (not b || list_any (λ d. not d.inline) cons) ≡ true
    by_inline true e k = let none : false ≡ true = ap (list_any (is_of u)) (sym (all.0.inline_is_bare e)) ∙ k in absurd cc
    by_inline false e k = refl

    by_part : (list_any (is_of u) (flat_map (λ d. d.fields) cons) ≡ true → list_any (λ d. not d.inline) cons ≡ true)
        → (list_any (is_of u) c.fields ≡ true) ⊎ (list_any (is_of u) (flat_map (λ d. d.fields) cons) ≡ true)
        → (not c.inline || list_any (λ d. not d.inline) cons) ≡ true
    by_part rest (inl e) = by_inline c.inline refl e
    by_part rest (inr e) = second (not c.inline) (list_any (λ d. not d.inline) cons) (rest e)

type_at : (types : List DataType) (t : ℕ) (d : DataType) → AllByRecursion IsDataType types → slice_get types t ≡ Some d → IsDataType d
type_at [] t d all e = let missing : None ≡ Some d = e in absurd cc
type_at (x ∷ types) zero d all e = let is : x ≡ d = cc in subst IsDataType is all.0
type_at (x ∷ types) (suc t) d all e = type_at types t d all.1 e

holds_heap : (types : List DataType) (t u : ℕ) → AreTypes types → HoldsType types t u → is_heap_type types t ≡ true
holds_heap types t u well h = by_type (slice_get types t) refl
  where
    by_type : (o : Option DataType) → slice_get types t ≡ o → is_heap_type types t ≡ true
    by_type None e = let missing : false ≡ true = ap (λ o. list_any (is_of u) (option_map_or fields_of o [])) (sym e) ∙ h in absurd cc
    by_type (Some d) e = ap (λ o. option_map_or has_boxed o false) e ∙ boxed u d.cons (type_at types t d well.each e).each (ap (λ o. list_any (is_of u) (option_map_or fields_of o [])) (sym e) ∙ h)

pub reaches_heap : (types : List DataType) (q : Kind) (c : ℕ) → AreTypes types → Reaches types q c → IsHeapData types q
reaches_heap types kind.Int c well r = absurd r
reaches_heap types kind.Flag c well r = absurd r
reaches_heap types kind.Dia c well r = absurd r
reaches_heap types (kind.Of t) c well r = by_way r.leads.0 r.leads.1
  where
    by_way : (path : List ℕ) → LeadsTo types t path r.last → is_heap_type types t ≡ true
    by_way [] e = ap (is_heap_type types) e ∙ r.heap
    by_way (v ∷ path) h = holds_heap types t v well h.0

-- ---- vectors

units_of_kind : (types : List DataType) (q : Kind) (cs : List ℕ) (units : ℕ → ℕ) → ((c : ℕ) → IsTrue (is_among cs c) → Reaches types q c)
    → IsOfKind types q (units_on cs units)
units_of_kind types q [] units h = tt
units_of_kind types q (c ∷ cs) units h = by_units (units_of_kind types q cs units (λ d m. h d (among_later d c cs m))) (units c)
  where
    by_units : IsOfKind types q (units_on cs units) → (n : ℕ) → IsOfKind types q (with_units c n ++ units_on cs units)
    by_units rest zero = rest
    by_units rest (suc n) = (h c (among_here c cs), rest)

pub carried_of_kind : (types : List DataType) (q : Kind) (units : ℕ → ℕ) → IsOfKind types q (units_on (carriers types (Some q)) units)
carried_of_kind types q units = units_of_kind types q (reached types q) units (λ c m. (reached_is types q c).0 m)

-- what carries units is of a heap type
first_reached : (types : List DataType) (q : Kind) (v : Vector) (e : ℕ × ℕ) (es : Vector) → v ≡ e ∷ es → IsOfKind types q v → Reaches types q e.0
first_reached types q v e es is h = let k : IsOfKind types q (e ∷ es) = subst (IsOfKind types q) is h in k.0

-- ---- lines of locals

line_fits : (types : List DataType) (f : Func) (ps : List ℕ) (x : ℕ) (units : ℕ → ℕ) → AreTypes types → IsTrue (is_among ps x)
    → AllByRecursion (VarFits types f ps) (line_of x (units_on (local_carriers types f x) units))
line_fits types f ps x units well there = by_lent (is_lent types f x) refl
  where
    by_vector : is_lent types f x ≡ false → (q : Kind) (v : Vector) → kind_of f x ≡ Some q → v ≡ units_on (carriers types (Some q)) units
        → AllByRecursion (VarFits types f ps) (line_of x v)
    by_vector own q [] k e = tt
    by_vector own q (p ∷ v) k e =
        let of_kind : IsOfKind types q (p ∷ v) = subst (IsOfKind types q) (sym e) (carried_of_kind types q units) in (
          record {
            there = there;
            heap = subst (λ o. IsSomeAnd o (IsHeapData types)) (sym k) (reaches_heap types q p.0 well of_kind.0);
            owned = own;
            cons = subst (λ o. IsSomeAnd o (λ q. IsOfKind types q (p ∷ v))) (sym k) of_kind;
          },
          tt,
        )

    by_kind : is_lent types f x ≡ false → (o : Option Kind) → kind_of f x ≡ o → AllByRecursion (VarFits types f ps) (line_of x (units_on (carriers types o) units))
    by_kind own None e = tt
    by_kind own (Some q) e = by_vector own q (units_on (carriers types (Some q)) units) e refl

    by_lent : (b : Bool) → is_lent types f x ≡ b → AllByRecursion (VarFits types f ps) (line_of x (units_on (local_carriers types f x) units))
    by_lent true e = subst (λ cs. AllByRecursion (VarFits types f ps) (line_of x (units_on cs units))) (sym (lent_none types f x e)) tt
    by_lent false e = subst (λ cs. AllByRecursion (VarFits types f ps) (line_of x (units_on cs units))) (sym (owned_all types f x e)) (by_kind e (kind_of f x) refl)

vars_append : (P : VarCert → Type 0) (xs ys : List VarCert) → AllByRecursion P xs → AllByRecursion P ys → AllByRecursion P (xs ++ ys)
vars_append P [] ys h k = k
vars_append P (x ∷ xs) ys h k = (h.0, vars_append P xs ys h.1 k)

lines_fit : (types : List DataType) (f : Func) (ps xs : List ℕ) (units : ℕ → ℕ → ℕ) → AreTypes types
    → ((x : ℕ) → IsTrue (is_among xs x) → IsTrue (is_among ps x))
    → AllByRecursion (VarFits types f ps) (lines_of (λ x. units_on (local_carriers types f x) (units x)) xs)
lines_fit types f ps [] units well h = tt
lines_fit types f ps (x ∷ xs) units well h =
    vars_append (VarFits types f ps) (line_of x (units_on (local_carriers types f x) (units x))) (lines_of (λ y. units_on (local_carriers types f y) (units y)) xs)
    (line_fits types f ps x (units x) well (h x (among_here x xs))) (lines_fit types f ps xs units well (λ y m. h y (among_later y x xs m)))

-- ---- builds

build_fits : (types : List DataType) (p : Code) (func b n : ℕ) (value : Assignment) (op : Op) (P : MakeCert → Type 0)
    → ((v : Vector) → BuildFits p v op → P (record { block = b; place = n; vector = v })) → types ≡ p.types → AllByRecursion P (made_by types func b n value op)
build_fits types p func b n value (Lit z) P h same = tt
build_fits types p func b n value (Flag z) P h same = tt
build_fits types p func b n value (Copy x) P h same = tt
build_fits types p func b n value (Prim op x y) P h same = tt
build_fits types p func b n value (Call callee args) P h same = tt
build_fits types p func b n value (Make con args place) P h same = by_heap (is_heap_con types con) refl
  where
    units : ℕ → ℕ
    units c = value (Made func b n c)

    by_vector : (t : ℕ) (v : Vector) → type_of types con ≡ Some t → is_heap_con types con ≡ true
        → v ≡ units_on (carriers types (Some (kind.Of t))) units → AllByRecursion P (make_line b n v)
    by_vector t [] k heap e = tt
    by_vector t (w ∷ v) k heap e =
        let of_kind : IsOfKind types (kind.Of t) (w ∷ v) = subst (IsOfKind types (kind.Of t)) (sym e) (carried_of_kind types (kind.Of t) units) in
        let of_type : IsSomeAnd (type_of types con) (λ t. IsOfKind types (kind.Of t) (w ∷ v)) = subst (λ o. IsSomeAnd o (λ t. IsOfKind types (kind.Of t) (w ∷ v))) (sym k) of_kind in
        (h (w ∷ v) (subst (λ ts. IsTrue (is_heap_con ts con)) same heap, subst (λ ts. IsSomeAnd (type_of ts con) (λ t. IsOfKind ts (kind.Of t) (w ∷ v))) same of_type), tt)

    by_type : (o : Option ℕ) → type_of types con ≡ o → is_heap_con types con ≡ true
        → AllByRecursion P (make_line b n (units_on (carriers types (option_map kind.Of o)) units))
    by_type None e heap = tt
    by_type (Some t) e heap = by_vector t (units_on (carriers types (Some (kind.Of t))) units) e heap refl

    by_heap : (k : Bool) → is_heap_con types con ≡ k
        → AllByRecursion P (cond k (make_line b n (units_on (carriers types (option_map kind.Of (type_of types con))) units)) [])
    by_heap true e = by_type (type_of types con) refl e
    by_heap false e = tt

makes_append : (P : MakeCert → Type 0) (xs ys : List MakeCert) → AllByRecursion P xs → AllByRecursion P ys → AllByRecursion P (xs ++ ys)
makes_append P [] ys h k = k
makes_append P (x ∷ xs) ys h k = (h.0, makes_append P xs ys h.1 k)

-- the lets of a block from the one of this number on
lets_fit : (p : Code) (f : Func) (func b n number : ℕ) (value : Assignment) (k : Block) (ls : List Let) → slice_get f.blocks b ≡ Some k
    → ((i : ℕ) → slice_get k.lets (n + i) ≡ slice_get ls i)
    → AllByRecursion (λ m. m.block ≡ number → MakeFits p f m) (lets_by p.types func b (suc n) value ls)
lets_fit p f func b n number value k [] there at = tt
lets_fit p f func b n number value k (l ∷ ls) there at =
    makes_append (λ m. m.block ≡ number → MakeFits p f m) (made_by p.types func b (suc n) value l.op) (lets_by p.types func b (suc (suc n)) value ls)
    (build_fits p.types p func b (suc n) value l.op (λ m. m.block ≡ number → MakeFits p f m) fits refl)
    (lets_fit p f func b (suc n) number value k ls there (λ i. let e : suc n + i ≡ n + suc i = omega arith in ap (slice_get k.lets) e ∙ at (suc i)))
  where
    here : slice_get k.lets (suc n - 1) ≡ Some l
    here = let e : suc n - 1 ≡ n + 0 = omega arith in ap (slice_get k.lets) e ∙ at 0

    fits : (v : Vector) → BuildFits p v l.op → b ≡ number → MakeFits p f (record { block = b; place = suc n; vector = v })
    fits v h same = (omega arith, subst (λ o. IsSomeAnd o (λ q. IsSomeAnd (slice_get q.lets (suc n - 1)) (λ m. BuildFits p v m.op))) (sym there) (subst (λ o. IsSomeAnd o (λ m. BuildFits p v m.op)) (sym here) h))

builds_fit : (p : Code) (f : Func) (func b number : ℕ) (value : Assignment) (bs : List Block)
    → ((i : ℕ) → slice_get f.blocks (b + i) ≡ slice_get bs i)
    → AllByRecursion (λ m. m.block ≡ number → MakeFits p f m) (builds_by p.types func b value bs)
builds_fit p f func b number value [] at = tt
builds_fit p f func b number value (k ∷ bs) at =
    makes_append (λ m. m.block ≡ number → MakeFits p f m) (lets_by p.types func b 1 value k.lets) (builds_by p.types func (suc b) value bs)
    (lets_fit p f func b 0 number value k k.lets (let e : b ≡ b + 0 = omega arith in ap (slice_get f.blocks) e ∙ at 0) (λ i. let e : 0 + i ≡ i = omega arith in ap (slice_get k.lets) e))
    (builds_fit p f func (suc b) number value bs (λ i. let e : suc b + i ≡ b + suc i = omega arith in ap (slice_get f.blocks) e ∙ at (suc i)))

-- ---- blocks

same_numbers : (of : ℕ → BlockCert) (xs : List ℕ) → ((x : ℕ) → (of x).block ≡ x) → map (λ b. b.block) (map of xs) ≡ xs
same_numbers of [] h = refl
same_numbers of (x ∷ xs) h = let e : (of x).block ≡ x = h x in let rest : map (λ b. b.block) (map of xs) ≡ xs = same_numbers of xs h in ap (λ n. n ∷ map (λ b. b.block) (map of xs)) e ∙ ap (λ r. x ∷ r) rest

-- a number is among these exactly where it lies between
range_is : (k number : ℕ) → is_among (range_with_len 1 (k - 1)) number ≡ (nat_le 1 number && nat_lt number k)
range_is k number = by_test (is_among (range_with_len 1 (k - 1)) number) refl
  where
    by_order : is_among (range_with_len 1 (k - 1)) number ≡ false → (1 ≤ number) × (number < k) → ⊥
    by_order e h = let m : is_among (range_with_len 1 (k - 1)) number ≡ true = in_range 1 (k - 1) number h.0 (omega (arith, h.0, h.1)) in let q : true ≡ false = sym m ∙ e in absurd cc

    off : (a b : Bool) → nat_le 1 number ≡ a → nat_lt number k ≡ b → ((1 ≤ number) × (number < k) → ⊥) → (a && b) ≡ false
    off true true e d h = absurd (h (grind (arith, nat_tests, e), grind (arith, nat_tests, d)))
    off true false e d h = refl
    off false b e d h = refl

    by_test : (t : Bool) → is_among (range_with_len 1 (k - 1)) number ≡ t → is_among (range_with_len 1 (k - 1)) number ≡ (nat_le 1 number && nat_lt number k)
    by_test true e =
        let r = range_has 1 (k - 1) number e in
        let low : nat_le 1 number ≡ true = grind (arith, nat_tests, r.0) in
        let less : number < k = omega (arith, r.0, r.1) in
        let high : nat_lt number k ≡ true = grind (arith, nat_tests, less) in
        e ∙ sym (ap (λ a. a && nat_lt number k) low ∙ high)
    by_test false e = e ∙ sym (off (nat_le 1 number) (nat_lt number k) refl refl (by_order e))

blocks_fit : (types : List DataType) (f : Func) (func number : ℕ) (value : Assignment) (xs : List ℕ) → AreTypes types
    → AllByRecursion (λ b. b.block ≡ number → AllByRecursion (VarFits types f (params_at f.blocks number)) b.vars) (map (block_by types f func value) xs)
blocks_fit types f func number value [] well = tt
blocks_fit types f func number value (x ∷ xs) well = (
  λ same. subst (λ n. AllByRecursion (VarFits types f (params_at f.blocks n)) (lines_of (λ y. units_on (local_carriers types f y) (λ c. value (BlockVar func x y c))) (params_at f.blocks x))) same
      (lines_fit types f (params_at f.blocks x) (params_at f.blocks x) (λ y c. value (BlockVar func x y c)) well (λ y m. m)),
  blocks_fit types f func number value xs well,
)

-- ---- functions

func_right : (p : Code) (f : Func) (func number : ℕ) (value : Assignment) → AreTypes p.types → IsRightAt p f (func_by p.types value func f) number
func_right p f func number value well = record {
  own = λ first. record {
    name = refl;
    params = lines_fit p.types f (range_with_len 0 (length f.params)) (range_with_len 0 (length f.params)) (λ x c. value (Param func x c)) well (λ x m. m);
    result = carried_of_kind p.types f.result (λ c. value (Result func c));
  };
  line = ap (λ xs. is_among xs number) (same_numbers (block_by p.types f func value) (range_with_len 1 (length f.blocks - 1)) (λ x. refl)) ∙ range_is (length f.blocks) number;
  vars = blocks_fit p.types f func number value (range_with_len 1 (length f.blocks - 1)) well;
  makes = builds_fit p f func 0 number value f.blocks (λ i. let e : 0 + i ≡ i = omega arith in ap (slice_get f.blocks) e);
}

-- The certificate of an assignment fits.
pub certificate_fits : (p : Code) (unit : ℕ) (value : Assignment) → AreTypes p.types → Fits p (certificate_by p unit value)
certificate_fits p unit value well = λ func number. subst (λ o. Right p number (slice_get p.funcs func) o) (sym (func_got p unit value func)) (by_func func number (slice_get p.funcs func) refl)
  where
    by_func : (func number : ℕ) (o : Option Func) → slice_get p.funcs func ≡ o → Right p number o (option_map (func_by p.types value func) o)
    by_func func number None is = tt
    by_func func number (Some f) is = func_right p f func number value well
