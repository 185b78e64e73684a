-- Laws, for the proofs of this crate and of those above it.
-- A certificate that fits says nothing but of the unknowns.
use Rattle.std.proofs.Common.{◌≡◌, ◌⊎◌, ℕ, ◌-◌, ◌<◌, ◌≤◌, Bool, true, false, List, [], ◌∷◌, length, map, Option, Some, None, IsTrue, refl, sym, ap, ◌∙◌, subst, arith, inl, inr}
use Rattle.std.specs.Prelude.{◌==◌, ◌||◌, ◌&&◌, nat_le, nat_lt, if◌then◌else◌, slice_get, IsSomeAnd}
use Rattle.std.specs.List.{AllByRecursion, range_with_len}
use Rattle.std.specs.Option.{option_map, option_map_or}
use Rattle.std.proofs.lemmas.Bool.Decides.{nat_tests}
use Rattle.camelot_values.specs.Kinds.{DataType, type_of}
use Rattle.camelot_values.specs.Heap.{reached, Reaches}
use Rattle.camelot_values.specs.Lists.{is_among}
use Rattle.camelot_values.specs.ReachLaws.{reached_is}
use Rattle.camelot_values.specs.declared.kinds.Kind.{Kind}
use Rattle.camelot_values.specs.declared.kinds.Kind.TheVariants as kind
use Rattle.grail_blocks.specs.Events.{params_at}
use Rattle.grail_code.specs.Code.{Op, Lit, Flag, Copy, Prim, Make, Call, Let, Func, Code}
use Rattle.grail_code.specs.WellFormed.{kind_of}
use Rattle.annotations.specs.Vectors.{Vector, at}
use Rattle.certificate.specs.Certificates.{VarCert, BlockCert, MakeCert, FuncCert, Cert}
use Rattle.licence.specs.Books.{vector_of, block_of, make_of, book_of}
use Rattle.licence.specs.Fitting.{IsOfKind, VarFits, BuildFits, MakeFits, IsRightAt, Right, Fits}
use Rattle.lp_system.specs.Unknowns.{Unknown, Need, Back, Param, Result, BlockNeed, BlockVar, Made, is_listed, carriers, local_carriers, unknowns_of}
use Rattle.lp_system.specs.Found.{IsZeroOff, amount}
use Rattle.lp_system.specs.theory.Lent.{as_owned}
use Rattle.lp_system.specs.theory.Listing.{range_has, There, MadeHere, Stands, stands_listed}

-- ---- what is found has what all have

-- units of a constructor
at_has : (P : ℕ → Type 0) (v : Vector) (c : ℕ) → AllByRecursion (λ e. P e.0) v → (at v c ≡ 0) ⊎ P c
at_has P [] c h = inl refl
at_has P (e ∷ v) c h = by_test (at_has P v c h.1) (e.0 == c) refl
  where
    by_test : (at v c ≡ 0) ⊎ P c → (b : Bool) → (e.0 == c) ≡ b → ((if b then e.1 else at v c) ≡ 0) ⊎ P c
    by_test rest true t = let same : e.0 ≡ c = grind (arith, nat_tests, t) in inr (subst P same h.0)
    by_test rest false t = rest

-- a local's line
record Line (P : VarCert → Type 0) (vs : List VarCert) (x : ℕ) : Type 0 where
  line : VarCert
  var : line.var ≡ x
  is : vector_of vs x ≡ line.vector
  has : P line

line_has : (P : VarCert → Type 0) (vs : List VarCert) (x : ℕ) → AllByRecursion P vs → (vector_of vs x ≡ []) ⊎ Line P vs x
line_has P [] x h = inl refl
line_has P (v ∷ vs) x h = by_test (line_has P vs x h.1) (v.var == x) refl
  where
    chosen : (b : Bool) → (v.var == x) ≡ b → vector_of (v ∷ vs) x ≡ (if b then v.vector else vector_of vs x)
    chosen b t = ap (λ b. if b then v.vector else vector_of vs x) t

    further : (v.var == x) ≡ false → (vector_of vs x ≡ []) ⊎ Line P vs x → (vector_of (v ∷ vs) x ≡ []) ⊎ Line P (v ∷ vs) x
    further t (inl e) = inl (chosen false t ∙ e)
    further t (inr l) = inr (record { line = l.line; var = l.var; is = chosen false t ∙ l.is; has = l.has })

    by_test : (vector_of vs x ≡ []) ⊎ Line P vs x → (b : Bool) → (v.var == x) ≡ b → (vector_of (v ∷ vs) x ≡ []) ⊎ Line P (v ∷ vs) x
    by_test rest true t = inr (record { line = v; var = grind (arith, nat_tests, t); is = chosen true t; has = h.0 })
    by_test rest false t = further t rest

-- a block's line
record BlockLine (P : BlockCert → Type 0) (bs : List BlockCert) (b : ℕ) : Type 0 where
  line : BlockCert
  number : line.block ≡ b
  is : block_of bs b ≡ Some line
  among : is_among (map (λ k. k.block) bs) b ≡ true
  has : P line

block_has : (P : BlockCert → Type 0) (bs : List BlockCert) (b : ℕ) → AllByRecursion P bs → (block_of bs b ≡ None) ⊎ BlockLine P bs b
block_has P [] b h = inl refl
block_has P (k ∷ bs) b h = by_test (block_has P bs b h.1) (k.block == b) refl
  where
    chosen : (t : Bool) → (k.block == b) ≡ t → block_of (k ∷ bs) b ≡ (if t then Some k else block_of bs b)
    chosen t e = ap (λ t. if t then Some k else block_of bs b) e

    later : (t u : Bool) → u ≡ true → (t || u) ≡ true
    later true u e = refl
    later false u e = e

    first : (t u : Bool) → t ≡ true → (t || u) ≡ true
    first true u e = refl
    first false u e = absurd cc

    further : (k.block == b) ≡ false → (block_of bs b ≡ None) ⊎ BlockLine P bs b → (block_of (k ∷ bs) b ≡ None) ⊎ BlockLine P (k ∷ bs) b
    further t (inl e) = inl (chosen false t ∙ e)
    further t (inr l) = inr (record { line = l.line; number = l.number; is = chosen false t ∙ l.is; among = later (k.block == b) (is_among (map (λ k. k.block) bs) b) l.among; has = l.has })

    by_test : (block_of bs b ≡ None) ⊎ BlockLine P bs b → (t : Bool) → (k.block == b) ≡ t → (block_of (k ∷ bs) b ≡ None) ⊎ BlockLine P (k ∷ bs) b
    by_test rest true t = inr (record { line = k; number = grind (arith, nat_tests, t); is = chosen true t; among = first (k.block == b) (is_among (map (λ k. k.block) bs) b) t; has = h.0 })
    by_test rest false t = further t rest

-- a build's line
record MakeLine (P : MakeCert → Type 0) (ms : List MakeCert) (b n : ℕ) : Type 0 where
  line : MakeCert
  block : line.block ≡ b
  place : line.place ≡ n
  is : make_of ms b n ≡ line.vector
  has : P line

make_has : (P : MakeCert → Type 0) (ms : List MakeCert) (b n : ℕ) → AllByRecursion P ms → (make_of ms b n ≡ []) ⊎ MakeLine P ms b n
make_has P [] b n h = inl refl
make_has P (m ∷ ms) b n h = by_tests (make_has P ms b n h.1) (m.block == b) (m.place == n) refl refl
  where
    chosen : (t u : Bool) → (m.block == b) ≡ t → (m.place == n) ≡ u → make_of (m ∷ ms) b n ≡ (if t && u then m.vector else make_of ms b n)
    chosen t u e d = ap (λ t. if t && (m.place == n) then m.vector else make_of ms b n) e ∙ ap (λ u. if t && u then m.vector else make_of ms b n) d

    further : make_of (m ∷ ms) b n ≡ make_of ms b n → (make_of ms b n ≡ []) ⊎ MakeLine P ms b n → (make_of (m ∷ ms) b n ≡ []) ⊎ MakeLine P (m ∷ ms) b n
    further t (inl e) = inl (t ∙ e)
    further t (inr l) = inr (record { line = l.line; block = l.block; place = l.place; is = t ∙ l.is; has = l.has })

    by_tests : (make_of ms b n ≡ []) ⊎ MakeLine P ms b n → (t u : Bool) → (m.block == b) ≡ t → (m.place == n) ≡ u
        → (make_of (m ∷ ms) b n ≡ []) ⊎ MakeLine P (m ∷ ms) b n
    by_tests rest true true e d = inr (record { line = m; block = grind (arith, nat_tests, e); place = grind (arith, nat_tests, d); is = chosen true true e d; has = h.0 })
    by_tests rest true false e d = further (chosen true false e d) rest
    by_tests rest false u e d = further (chosen false u e d) rest

-- ---- kinds

-- units of what a kind reaches
of_kind : (types : List DataType) (q : Kind) (v : Vector) (c : ℕ) → IsOfKind types q v → (at v c ≡ 0) ⊎ IsTrue (is_among (carriers types (Some q)) c)
of_kind types q v c h = as_among (at_has (Reaches types q) v c h)
  where
    as_among : (at v c ≡ 0) ⊎ Reaches types q c → (at v c ≡ 0) ⊎ IsTrue (is_among (reached types q) c)
    as_among (inl e) = inl e
    as_among (inr r) = inr ((reached_is types q c).1 r)

of_some_kind : (types : List DataType) (o : Option Kind) (v : Vector) (c : ℕ) → IsSomeAnd o (λ q. IsOfKind types q v)
    → (at v c ≡ 0) ⊎ IsTrue (is_among (carriers types o) c)
of_some_kind types None v c h = absurd h
of_some_kind types (Some q) v c h = of_kind types q v c h

of_some_type : (types : List DataType) (o : Option ℕ) (v : Vector) (c : ℕ) → IsSomeAnd o (λ t. IsOfKind types (kind.Of t) v)
    → (at v c ≡ 0) ⊎ IsTrue (is_among (carriers types (option_map kind.Of o)) c)
of_some_type types None v c h = absurd h
of_some_type types (Some t) v c h = of_kind types (kind.Of t) v c h

-- a local of these, on whose units nothing else stands
of_line : (types : List DataType) (f : Func) (ps : List ℕ) (vs : List VarCert) (x c : ℕ) → AllByRecursion (VarFits types f ps) vs
    → (at (vector_of vs x) c ≡ 0) ⊎ (IsTrue (is_among ps x) × IsTrue (is_among (local_carriers types f x) c))
of_line types f ps vs x c h = by_line (line_has (VarFits types f ps) vs x h)
  where
    by_line : (vector_of vs x ≡ []) ⊎ Line (VarFits types f ps) vs x
        → (at (vector_of vs x) c ≡ 0) ⊎ (IsTrue (is_among ps x) × IsTrue (is_among (local_carriers types f x) c))
    by_line (inl e) = inl (ap (λ v. at v c) e)
    by_line (inr l) = by_units (of_some_kind types (kind_of f l.line.var) l.line.vector c l.has.cons)
      where
        by_units : (at l.line.vector c ≡ 0) ⊎ IsTrue (is_among (carriers types (kind_of f l.line.var)) c)
            → (at (vector_of vs x) c ≡ 0) ⊎ (IsTrue (is_among ps x) × IsTrue (is_among (local_carriers types f x) c))
        by_units (inl e) = inl (ap (λ v. at v c) l.is ∙ e)
        by_units (inr m) = inr (subst (λ y. IsTrue (is_among ps y)) l.var l.has.there, subst (λ y. IsTrue (is_among (local_carriers types f y) c)) l.var (as_owned types f l.line.var c l.has.owned m))

-- ---- functions

record Both (p : Code) (func : ℕ) (fc : FuncCert) : Type 0 where
  f : Func
  there : slice_get p.funcs func ≡ Some f
  right : (number : ℕ) → IsRightAt p f fc number

both_there : (p : Code) (c : Cert) (func : ℕ) (fc : FuncCert) → Fits p c → slice_get c.funcs func ≡ Some fc → Both p func fc
both_there p c func fc fits e = by_func (slice_get p.funcs func) refl
  where
    here : (o : Option Func) → slice_get p.funcs func ≡ o → (number : ℕ) → Right p number o (Some fc)
    here o d number = subst (λ o. Right p number o (Some fc)) d (subst (λ k. Right p number (slice_get p.funcs func) k) e (fits func number))

    by_func : (o : Option Func) → slice_get p.funcs func ≡ o → Both p func fc
    by_func None d = absurd (here None d 0 refl)
    by_func (Some f) d = record { f = f; there = d; right = here (Some f) d }

some_there : {A : Type 0} (xs : List A) (i : ℕ) (P : A → Type 0) → IsSomeAnd (slice_get xs i) P → There xs i P
some_there {A} xs i P h = by_option (slice_get xs i) refl h
  where
    by_option : (o : Option A) → slice_get xs i ≡ o → IsSomeAnd o P → There xs i P
    by_option None e k = absurd k
    by_option (Some x) e k = (x, e, k)

-- ---- unknown by unknown

-- nothing, or it stands
abbrev NothingOr : Code → Cert → Unknown → Type 0
NothingOr p c u = (amount (book_of c) u ≡ 0) ⊎ Stands p u

-- of a function that isn't there nothing is said
of_func : (p : Code) (c : Cert) (func : ℕ) (P : Option FuncCert → Type 0) → Fits p c → P None → ((fc : FuncCert) → Both p func fc → P (Some fc))
    → P (slice_get c.funcs func)
of_func p c func P fits none some = by_option (slice_get c.funcs func) refl
  where
    by_option : (o : Option FuncCert) → slice_get c.funcs func ≡ o → P o
    by_option None e = none
    by_option (Some fc) e = some fc (both_there p c func fc fits e)

line_between : (f : Func) (b : ℕ) (t : Bool) → t ≡ (nat_le 1 b && nat_lt b (length f.blocks)) → t ≡ true → (1 ≤ b) × (b < length f.blocks)
line_between f b t e is = by_tests (nat_le 1 b) (nat_lt b (length f.blocks)) refl refl (sym e ∙ is)
  where
    by_tests : (u v : Bool) → nat_le 1 b ≡ u → nat_lt b (length f.blocks) ≡ v → (u && v) ≡ true → (1 ≤ b) × (b < length f.blocks)
    by_tests true true d k h = (grind (arith, nat_tests, d), grind (arith, nat_tests, k))
    by_tests true false d k h = absurd cc
    by_tests false v d k h = absurd cc

on_need : (p : Code) (c : Cert) (func : ℕ) → Fits p c → NothingOr p c (Need func)
on_need p c func fits = of_func p c func (λ o. (option_map_or (λ f. f.need) o 0 ≡ 0) ⊎ Stands p (Need func)) fits (inl refl) (λ fc both. inr (both.f, both.there, tt))

on_back : (p : Code) (c : Cert) (func : ℕ) → Fits p c → NothingOr p c (Back func)
on_back p c func fits = of_func p c func (λ o. (option_map_or (λ f. f.back) o 0 ≡ 0) ⊎ Stands p (Back func)) fits (inl refl) (λ fc both. inr (both.f, both.there, tt))

on_param : (p : Code) (c : Cert) (func x con : ℕ) → Fits p c → NothingOr p c (Param func x con)
on_param p c func x con fits = of_func p c func (λ o. (at (option_map_or (λ f. vector_of f.params x) o []) con ≡ 0) ⊎ Stands p (Param func x con)) fits (inl refl)
    (λ fc both. stand fc both (of_line p.types both.f (range_with_len 0 (length both.f.params)) fc.params x con ((both.right 0).own refl).params))
  where
    stand : (fc : FuncCert) (both : Both p func fc)
        → (at (vector_of fc.params x) con ≡ 0)
        ⊎ (IsTrue (is_among (range_with_len 0 (length both.f.params)) x) × IsTrue (is_among (local_carriers p.types both.f x) con))
        → (at (vector_of fc.params x) con ≡ 0) ⊎ Stands p (Param func x con)
    stand fc both (inl e) = inl e
    stand fc both (inr h) = let r = range_has 0 (length both.f.params) x h.0 in inr (both.f, both.there, (omega (arith, r.1), h.1))

on_result : (p : Code) (c : Cert) (func con : ℕ) → Fits p c → NothingOr p c (Result func con)
on_result p c func con fits = of_func p c func (λ o. (at (option_map_or (λ f. f.result) o []) con ≡ 0) ⊎ Stands p (Result func con)) fits (inl refl)
    (λ fc both. stand fc both (of_kind p.types both.f.result fc.result con ((both.right 0).own refl).result))
  where
    stand : (fc : FuncCert) (both : Both p func fc) → (at fc.result con ≡ 0) ⊎ IsTrue (is_among (carriers p.types (Some both.f.result)) con)
        → (at fc.result con ≡ 0) ⊎ Stands p (Result func con)
    stand fc both (inl e) = inl e
    stand fc both (inr m) = inr (both.f, both.there, m)

on_block_need : (p : Code) (c : Cert) (func b : ℕ) → Fits p c → NothingOr p c (BlockNeed func b)
on_block_need p c func b fits = of_func p c func (λ o. (option_map_or (λ f. option_map_or (λ k. k.need) (block_of f.blocks b) 0) o 0 ≡ 0) ⊎ Stands p (BlockNeed func b)) fits (inl refl)
    (λ fc both. by_line fc both (block_has (λ k. Unit {0}) fc.blocks b (nothing_asked fc.blocks)))
  where
    nothing_asked : (bs : List BlockCert) → AllByRecursion (λ k. Unit {0}) bs
    nothing_asked [] = tt
    nothing_asked (k ∷ bs) = (tt, nothing_asked bs)

    by_line : (fc : FuncCert) (both : Both p func fc) → (block_of fc.blocks b ≡ None) ⊎ BlockLine (λ k. Unit {0}) fc.blocks b
        → (option_map_or (λ k. k.need) (block_of fc.blocks b) 0 ≡ 0) ⊎ Stands p (BlockNeed func b)
    by_line fc both (inl e) = inl (ap (λ o. option_map_or (λ k. k.need) o 0) e)
    by_line fc both (inr l) = inr (both.f, both.there, line_between both.f b (is_among (map (λ k. k.block) fc.blocks) b) (both.right b).line l.among)

on_block_var : (p : Code) (c : Cert) (func b x con : ℕ) → Fits p c → NothingOr p c (BlockVar func b x con)
on_block_var p c func b x con fits = of_func p c func (λ o. (at (option_map_or (λ f. option_map_or (λ k. vector_of k.vars x) (block_of f.blocks b) []) o []) con ≡ 0) ⊎ Stands p (BlockVar func b x con)) fits (inl refl)
    (λ fc both. by_line fc both (block_has (λ k. k.block ≡ b → AllByRecursion (VarFits p.types both.f (params_at both.f.blocks b)) k.vars) fc.blocks b (both.right b).vars))
  where
    by_line : (fc : FuncCert) (both : Both p func fc)
        → (block_of fc.blocks b ≡ None)
        ⊎ BlockLine (λ k. k.block ≡ b → AllByRecursion (VarFits p.types both.f (params_at both.f.blocks b)) k.vars) fc.blocks b
        → (at (option_map_or (λ k. vector_of k.vars x) (block_of fc.blocks b) []) con ≡ 0) ⊎ Stands p (BlockVar func b x con)
    by_line fc both (inl e) = inl (ap (λ o. at (option_map_or (λ k. vector_of k.vars x) o []) con) e)
    by_line fc both (inr l) = by_units (of_line p.types both.f (params_at both.f.blocks b) l.line.vars x con (l.has l.number))
      where
        by_units : (at (vector_of l.line.vars x) con ≡ 0)
            ⊎ (IsTrue (is_among (params_at both.f.blocks b) x) × IsTrue (is_among (local_carriers p.types both.f x) con))
            → (at (option_map_or (λ k. vector_of k.vars x) (block_of fc.blocks b) []) con ≡ 0) ⊎ Stands p (BlockVar func b x con)
        by_units (inl e) = inl (ap (λ o. at (option_map_or (λ k. vector_of k.vars x) o []) con) l.is ∙ e)
        by_units (inr h) = let between = line_between both.f b (is_among (map (λ k. k.block) fc.blocks) b) (both.right b).line l.among in inr (both.f, both.there, (between.0, between.1, h.0, h.1))

build_units : (p : Code) (v : Vector) (c : ℕ) (op : Op) → BuildFits p v op → (at v c ≡ 0) ⊎ MadeHere p.types op c
build_units p v c (Make con args at) h = by_units (of_some_type p.types (type_of p.types con) v c h.1)
  where
    by_units : (Rattle.annotations.specs.Vectors.at v c ≡ 0) ⊎ IsTrue (is_among (carriers p.types (option_map kind.Of (type_of p.types con))) c)
        → (Rattle.annotations.specs.Vectors.at v c ≡ 0) ⊎ MadeHere p.types (Make con args at) c
    by_units (inl e) = inl e
    by_units (inr m) = inr (h.0, m)
build_units p v c (Lit z) h = absurd h
build_units p v c (Flag z) h = absurd h
build_units p v c (Copy x) h = absurd h
build_units p v c (Prim op x y) h = absurd h
build_units p v c (Call callee args) h = absurd h

on_made : (p : Code) (c : Cert) (func b n con : ℕ) → Fits p c → NothingOr p c (Made func b n con)
on_made p c func b n con fits = of_func p c func (λ o. (at (option_map_or (λ f. make_of f.makes b n) o []) con ≡ 0) ⊎ Stands p (Made func b n con)) fits (inl refl)
    (λ fc both. by_line fc both (make_has (λ m. m.block ≡ b → MakeFits p both.f m) fc.makes b n (both.right b).makes))
  where
    by_line : (fc : FuncCert) (both : Both p func fc) → (make_of fc.makes b n ≡ []) ⊎ MakeLine (λ m. m.block ≡ b → MakeFits p both.f m) fc.makes b n
        → (at (make_of fc.makes b n) con ≡ 0) ⊎ Stands p (Made func b n con)
    by_line fc both (inl e) = inl (ap (λ v. at v con) e)
    by_line fc both (inr l) = by_build k.2.0 k.2.1 (build_units p l.line.vector con k.2.0.op k.2.2)
      where
        fit : MakeFits p both.f l.line
        fit = l.has l.block

        blocks : There both.f.blocks l.line.block (λ q. IsSomeAnd (slice_get q.lets (l.line.place - 1)) (λ m. BuildFits p l.line.vector m.op))
        blocks = some_there both.f.blocks l.line.block (λ q. IsSomeAnd (slice_get q.lets (l.line.place - 1)) (λ m. BuildFits p l.line.vector m.op)) fit.1

        k : There both.f.blocks l.line.block (λ q. There q.lets (l.line.place - 1) (λ m. BuildFits p l.line.vector m.op))
        k = (blocks.0, blocks.1, some_there blocks.0.lets (l.line.place - 1) (λ m. BuildFits p l.line.vector m.op) blocks.2)

        by_build : (m : Let) → slice_get k.0.lets (l.line.place - 1) ≡ Some m → (at l.line.vector con ≡ 0) ⊎ MadeHere p.types m.op con
            → (at (make_of fc.makes b n) con ≡ 0) ⊎ Stands p (Made func b n con)
        by_build m is (inl e) = inl (ap (λ v. at v con) l.is ∙ e)
        by_build m is (inr h) = inr (both.f, both.there, (k.0, ap (slice_get both.f.blocks) (sym l.block) ∙ k.1, (subst (λ i. 1 ≤ i) l.place fit.0, (m, ap (λ i. slice_get k.0.lets (i - 1)) (sym l.place) ∙ is, h))))

nothing_or : (p : Code) (c : Cert) (u : Unknown) → Fits p c → NothingOr p c u
nothing_or p c (Need func) fits = on_need p c func fits
nothing_or p c (Back func) fits = on_back p c func fits
nothing_or p c (Param func x con) fits = on_param p c func x con fits
nothing_or p c (Result func con) fits = on_result p c func con fits
nothing_or p c (BlockNeed func b) fits = on_block_need p c func b fits
nothing_or p c (BlockVar func b x con) fits = on_block_var p c func b x con fits
nothing_or p c (Made func b n con) fits = on_made p c func b n con fits

-- What a fitting certificate says of anything else is nothing.
pub nothing_off : (p : Code) (c : Cert) → Fits p c → IsZeroOff (unknowns_of p) (amount (book_of c))
nothing_off p c fits = λ u e. settle u e (nothing_or p c u fits)
  where
    settle : (u : Unknown) → is_listed (unknowns_of p) u ≡ false → NothingOr p c u → amount (book_of c) u ≡ 0
    settle u e (inl k) = k
    settle u e (inr s) = let both : true ≡ false = sym (stands_listed p u s) ∙ e in absurd cc
