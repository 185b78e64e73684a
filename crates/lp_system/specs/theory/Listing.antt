-- Laws, for the proofs of this crate and of those above it.
-- Just which unknowns a code has.
use Rattle.std.proofs.Common.{◌≡◌, ◌⊎◌, ℕ, zero, suc, ◌+◌, ◌-◌, ◌<◌, ◌≤◌, Bool, true, false, List, [], ◌∷◌, ◌++◌, length, map, Some, None, IsTrue, refl, sym, ap, ◌∙◌, subst, arith, inl, inr}
use Rattle.std.specs.Prelude.{◌==◌, ◌||◌, cond, slice_get, flat_map}
use Rattle.std.specs.List.{AllByRecursion, range_with_len}
use Rattle.std.specs.Option.{option_map}
use Rattle.std.proofs.lemmas.Bool.Decides.{nat_tests}
use Rattle.std.proofs.lemmas.List.Folds.{list_any-append}
use Rattle.camelot_values.specs.Kinds.{DataType, type_of}
use Rattle.camelot_values.specs.Lists.{is_among}
use Rattle.camelot_values.specs.NameLaws.{name_itself, same_name}
use Rattle.camelot_values.specs.declared.kinds.Kind.TheVariants as kind
use Rattle.grail_blocks.specs.declared.blocks.Place.{Place}
use Rattle.grail_blocks.specs.Events.{params_at}
use Rattle.grail_code.specs.Code.{Op, Lit, Flag, Copy, Prim, Make, Call, Let, Block, Func, Code}
use Rattle.annotations.specs.Vectors.{is_heap_con}
use Rattle.lp_system.specs.Unknowns.{Unknown, Need, Back, Param, Result, BlockNeed, BlockVar, Made, numbers_of, same, is_listed, carriers, local_carriers, params_unknowns, vars_unknowns, block_unknowns, blocks_unknowns, made_unknowns, lets_unknowns, builds_unknowns, func_unknowns, funcs_unknowns, unknowns_of}

-- ---- telling unknowns apart

abbrev of_sort : ℕ → List ℕ → Unknown
of_sort zero (f ∷ []) = Need f
of_sort (suc zero) (f ∷ []) = Back f
of_sort (suc (suc zero)) (f ∷ x ∷ c ∷ []) = Param f x c
of_sort (suc (suc (suc zero))) (f ∷ c ∷ []) = Result f c
of_sort (suc (suc (suc (suc zero)))) (f ∷ b ∷ []) = BlockNeed f b
of_sort (suc (suc (suc (suc (suc zero))))) (f ∷ b ∷ x ∷ c ∷ []) = BlockVar f b x c
of_sort (suc (suc (suc (suc (suc (suc zero)))))) (f ∷ b ∷ n ∷ c ∷ []) = Made f b n c
of_sort k rest = Need 0

abbrev named : List ℕ → Unknown
named [] = Need 0
named (k ∷ rest) = of_sort k rest

named_again : (u : Unknown) → named (numbers_of u) ≡ u
named_again (Need f) = refl
named_again (Back f) = refl
named_again (Param f x c) = refl
named_again (Result f c) = refl
named_again (BlockNeed f b) = refl
named_again (BlockVar f b x c) = refl
named_again (Made f b n c) = refl

pub same_is : (u v : Unknown) → same u v ≡ true → u ≡ v
same_is u v h = sym (named_again u) ∙ ap named (same_name (numbers_of u) (numbers_of v) h) ∙ named_again v

pub same_itself : (u : Unknown) → same u u ≡ true
same_itself u = name_itself (numbers_of u)

-- ---- tests

or_first : (a b : Bool) → a ≡ true → (a || b) ≡ true
or_first true b h = refl
or_first false b h = absurd cc

or_second : (a b : Bool) → b ≡ true → (a || b) ≡ true
or_second true b h = refl
or_second false b h = h

or_split : (a b : Bool) → (a || b) ≡ true → (a ≡ true) ⊎ (b ≡ true)
or_split true b h = inl refl
or_split false b h = inr h

-- ---- numbers among others

pub among_here : (x : ℕ) (xs : List ℕ) → IsTrue (is_among (x ∷ xs) x)
among_here x xs = or_first (x == x) (is_among xs x) (grind (arith, nat_tests))

pub among_later : (x y : ℕ) (xs : List ℕ) → IsTrue (is_among xs x) → IsTrue (is_among (y ∷ xs) x)
among_later x y xs h = or_second (y == x) (is_among xs x) h

pub among_split : (x y : ℕ) (xs : List ℕ) → IsTrue (is_among (y ∷ xs) x) → (y ≡ x) ⊎ IsTrue (is_among xs x)
among_split x y xs h = by_part (or_split (y == x) (is_among xs x) h)
  where
    by_part : ((y == x) ≡ true) ⊎ (is_among xs x ≡ true) → (y ≡ x) ⊎ IsTrue (is_among xs x)
    by_part (inl e) = inl (grind (arith, nat_tests, e))
    by_part (inr e) = inr e

pub in_range : (a n x : ℕ) → a ≤ x → x < a + n → IsTrue (is_among (range_with_len a n) x)
in_range a zero x h k = absurd (omega (arith, h, k))
in_range a (suc n) x h k = by_test (λ low. in_range (a + 1) n x low (omega (arith, k))) (a == x) refl
  where
    by_test : (a + 1 ≤ x → IsTrue (is_among (range_with_len (a + 1) n) x)) → (b : Bool) → (a == x) ≡ b → IsTrue (is_among (a ∷ range_with_len (a + 1) n) x)
    by_test rest true e = or_first (a == x) (is_among (range_with_len (a + 1) n) x) e
    by_test rest false e = among_later x a (range_with_len (a + 1) n) (rest (grind (arith, nat_tests, e, h)))

pub range_has : (a n x : ℕ) → IsTrue (is_among (range_with_len a n) x) → (a ≤ x) × (x < a + n)
range_has a zero x h = absurd cc
range_has a (suc n) x h = by_part (range_has (a + 1) n x) (among_split x a (range_with_len (a + 1) n) h)
  where
    by_part : (IsTrue (is_among (range_with_len (a + 1) n) x) → (a + 1 ≤ x) × (x < a + 1 + n))
        → (a ≡ x) ⊎ IsTrue (is_among (range_with_len (a + 1) n) x) → (a ≤ x) × (x < a + suc n)
    by_part rest (inl e) = (omega (arith, e), omega (arith, e))
    by_part rest (inr k) = let r = rest k in (omega (arith, r.0), omega (arith, r.1))

-- ---- what all of a list have

pub all_append : (P : Unknown → Type 0) (us vs : List Unknown) → AllByRecursion P us → AllByRecursion P vs → AllByRecursion P (us ++ vs)
all_append P [] vs h k = k
all_append P (u ∷ us) vs h k = (h.0, all_append P us vs h.1 k)

pub all_mapped : (P : Unknown → Type 0) (of : ℕ → Unknown) (cs : List ℕ) → ((c : ℕ) → IsTrue (is_among cs c) → P (of c)) → AllByRecursion P (map of cs)
all_mapped P of [] h = tt
all_mapped P of (c ∷ cs) h = (h c (among_here c cs), all_mapped P of cs (λ d k. h d (among_later d c cs k)))

pub all_flat : (P : Unknown → Type 0) (of : ℕ → List Unknown) (xs : List ℕ) → ((x : ℕ) → IsTrue (is_among xs x) → AllByRecursion P (of x))
    → AllByRecursion P (flat_map of xs)
all_flat P of [] h = tt
all_flat P of (x ∷ xs) h = all_append P (of x) (flat_map of xs) (h x (among_here x xs)) (all_flat P of xs (λ y k. h y (among_later y x xs k)))

-- what is listed has it too
pub listed_has : (P : Unknown → Type 0) (us : List Unknown) (u : Unknown) → AllByRecursion P us → IsTrue (is_listed us u) → P u
listed_has P [] u all h = absurd cc
listed_has P (v ∷ us) u all h = by_part (listed_has P us u all.1) (or_split (same u v) (is_listed us u) h)
  where
    by_part : (is_listed us u ≡ true → P u) → (same u v ≡ true) ⊎ (is_listed us u ≡ true) → P u
    by_part rest (inl e) = subst P (sym (same_is u v e)) all.0
    by_part rest (inr k) = rest k

-- ---- where an unknown stands in a list

pub listed_first : (us vs : List Unknown) (u : Unknown) → IsTrue (is_listed us u) → IsTrue (is_listed (us ++ vs) u)
listed_first us vs u h = list_any-append (same u) us vs ∙ or_first (is_listed us u) (is_listed vs u) h

pub listed_second : (us vs : List Unknown) (u : Unknown) → IsTrue (is_listed vs u) → IsTrue (is_listed (us ++ vs) u)
listed_second us vs u h = list_any-append (same u) us vs ∙ or_second (is_listed us u) (is_listed vs u) h

pub listed_here : (u : Unknown) (us : List Unknown) → IsTrue (is_listed (u ∷ us) u)
listed_here u us = or_first (same u u) (is_listed us u) (same_itself u)

pub listed_later : (u v : Unknown) (us : List Unknown) → IsTrue (is_listed us u) → IsTrue (is_listed (v ∷ us) u)
listed_later u v us h = or_second (same u v) (is_listed us u) h

pub listed_mapped : (of : ℕ → Unknown) (cs : List ℕ) (c : ℕ) → IsTrue (is_among cs c) → IsTrue (is_listed (map of cs) (of c))
listed_mapped of [] c h = absurd cc
listed_mapped of (d ∷ cs) c h = by_part (listed_mapped of cs c) (among_split c d cs h)
  where
    by_part : (IsTrue (is_among cs c) → IsTrue (is_listed (map of cs) (of c))) → (d ≡ c) ⊎ IsTrue (is_among cs c) → IsTrue (is_listed (of d ∷ map of cs) (of c))
    by_part rest (inl e) = subst (λ x. IsTrue (is_listed (of d ∷ map of cs) (of x))) e (listed_here (of d) (map of cs))
    by_part rest (inr k) = listed_later (of c) (of d) (map of cs) (rest k)

pub listed_flat : (of : ℕ → List Unknown) (xs : List ℕ) (x : ℕ) (u : Unknown) → IsTrue (is_among xs x) → IsTrue (is_listed (of x) u)
    → IsTrue (is_listed (flat_map of xs) u)
listed_flat of [] x u h k = absurd cc
listed_flat of (y ∷ xs) x u h k = by_part (λ m. listed_flat of xs x u m k) (among_split x y xs h)
  where
    by_part : (IsTrue (is_among xs x) → IsTrue (is_listed (flat_map of xs) u)) → (y ≡ x) ⊎ IsTrue (is_among xs x)
        → IsTrue (is_listed (of y ++ flat_map of xs) u)
    by_part rest (inl e) = listed_first (of y) (flat_map of xs) u (subst (λ z. IsTrue (is_listed (of z) u)) (sym e) k)
    by_part rest (inr m) = listed_second (of y) (flat_map of xs) u (rest m)

-- ---- which stand

-- at this place of the list is something of which this holds
abbrev pub There : {A : Type 0} → List A → ℕ → (A → Type 0) → Type 0
There {A} xs i P = (x : A) × (slice_get xs i ≡ Some x) × P x

-- a build of a heap type, in which the constructor carries units
abbrev pub MadeHere : List DataType → Op → ℕ → Type 0
MadeHere types (Make con args at) c = IsTrue (is_heap_con types con) × IsTrue (is_among (carriers types (option_map kind.Of (type_of types con))) c)
MadeHere types op c = ⊥

-- of a function
abbrev pub StandsIn : List DataType → Func → Unknown → Type 0
StandsIn types f (Need func) = Unit {0}
StandsIn types f (Back func) = Unit {0}
StandsIn types f (Param func x c) = (x < length f.params) × IsTrue (is_among (local_carriers types f x) c)
StandsIn types f (Result func c) = IsTrue (is_among (carriers types (Some f.result)) c)
StandsIn types f (BlockNeed func b) = (1 ≤ b) × (b < length f.blocks)
StandsIn types f (BlockVar func b x c) = (1 ≤ b) × (b < length f.blocks) × IsTrue (is_among (params_at f.blocks b) x) × IsTrue (is_among (local_carriers types f x) c)
StandsIn types f (Made func b n c) = There f.blocks b (λ k. (1 ≤ n) × There k.lets (n - 1) (λ l. MadeHere types l.op c))

abbrev pub func_of : Unknown → ℕ
func_of (Need func) = func
func_of (Back func) = func
func_of (Param func x c) = func
func_of (Result func c) = func
func_of (BlockNeed func b) = func
func_of (BlockVar func b x c) = func
func_of (Made func b n c) = func

abbrev pub Stands : Code → Unknown → Type 0
Stands p u = There p.funcs (func_of u) (λ f. StandsIn p.types f u)

-- ---- all that is listed stands

-- of this function, and standing in it
abbrev Of : List DataType → ℕ → Func → Unknown → Type 0
Of types func f u = (func_of u ≡ func) × StandsIn types f u

made_stand : (types : List DataType) (f : Func) (func b n : ℕ) (k : Block) (l : Let) → slice_get f.blocks b ≡ Some k → slice_get k.lets n ≡ Some l
    → AllByRecursion (Of types func f) (made_unknowns types func b (suc n) l.op)
made_stand types f func b n k l there here = by_op l.op refl
  where
    at : (op : Op) (c : ℕ) → l.op ≡ op → MadeHere types op c → Of types func f (Made func b (suc n) c)
    at op c e h = (refl, (k, there, (omega arith, (l, (let back : suc n - 1 ≡ n = omega arith in ap (slice_get k.lets) back ∙ here), subst (λ o. MadeHere types o c) (sym e) h))))

    by_heap : (con : ℕ) (args : List ℕ) (place : Place) (h : Bool) → is_heap_con types con ≡ h → l.op ≡ Make con args place
        → AllByRecursion (Of types func f) (cond h (map (Made func b (suc n)) (carriers types (option_map kind.Of (type_of types con)))) [])
    by_heap con args place true e is = all_mapped (Of types func f) (Made func b (suc n)) (carriers types (option_map kind.Of (type_of types con))) (λ c m. at (Make con args place) c is (e, m))
    by_heap con args place false e is = tt

    by_op : (op : Op) → l.op ≡ op → AllByRecursion (Of types func f) (made_unknowns types func b (suc n) op)
    by_op (Lit z) e = tt
    by_op (Flag z) e = tt
    by_op (Copy x) e = tt
    by_op (Prim op x y) e = tt
    by_op (Call callee args) e = tt
    by_op (Make con args place) e = by_heap con args place (is_heap_con types con) refl e

-- the lets from the one of this number on
lets_stand : (types : List DataType) (f : Func) (func b n : ℕ) (k : Block) (ls : List Let) → slice_get f.blocks b ≡ Some k
    → ((i : ℕ) → slice_get k.lets (n + i) ≡ slice_get ls i) → AllByRecursion (Of types func f) (lets_unknowns types func b (suc n) ls)
lets_stand types f func b n k [] there at = tt
lets_stand types f func b n k (l ∷ ls) there at = all_append (Of types func f) (made_unknowns types func b (suc n) l.op) (lets_unknowns types func b (suc (suc n)) ls)
    (made_stand types f func b n k l there (let e : n ≡ n + 0 = omega arith in ap (slice_get k.lets) e ∙ at 0))
    (lets_stand types f func b (suc n) k ls there (λ i. let e : suc n + i ≡ n + suc i = omega arith in ap (slice_get k.lets) e ∙ at (suc i)))

builds_stand : (types : List DataType) (f : Func) (func b : ℕ) (bs : List Block) → ((i : ℕ) → slice_get f.blocks (b + i) ≡ slice_get bs i)
    → AllByRecursion (Of types func f) (builds_unknowns types func b bs)
builds_stand types f func b [] at = tt
builds_stand types f func b (k ∷ bs) at = all_append (Of types func f) (lets_unknowns types func b 1 k.lets) (builds_unknowns types func (suc b) bs)
    (lets_stand types f func b 0 k k.lets (let e : b ≡ b + 0 = omega arith in ap (slice_get f.blocks) e ∙ at 0) (λ i. let e : 0 + i ≡ i = omega arith in ap (slice_get k.lets) e))
    (builds_stand types f func (suc b) bs (λ i. let e : suc b + i ≡ b + suc i = omega arith in ap (slice_get f.blocks) e ∙ at (suc i)))

blocks_stand : (types : List DataType) (f : Func) (func : ℕ) → AllByRecursion (Of types func f) (blocks_unknowns types f func)
blocks_stand types f func = all_flat (Of types func f) (block_unknowns types f func) (range_with_len 1 (length f.blocks - 1)) each
  where
    each : (b : ℕ) → IsTrue (is_among (range_with_len 1 (length f.blocks - 1)) b) → AllByRecursion (Of types func f) (block_unknowns types f func b)
    each b h =
        let r = range_has 1 (length f.blocks - 1) b h in
        let there : b < length f.blocks = omega (arith, r.0, r.1) in (
          (refl, (r.0, there)),
          all_flat (Of types func f) (λ x. map (BlockVar func b x) (local_carriers types f x)) (params_at f.blocks b)
              (λ x m. all_mapped (Of types func f) (BlockVar func b x) (local_carriers types f x) (λ c n. (refl, (r.0, there, m, n)))),
        )

func_stands : (types : List DataType) (func : ℕ) (f : Func) → AllByRecursion (Of types func f) (func_unknowns types func f)
func_stands types func f = ((refl, tt), ((refl, tt), all_append P params (result ++ (blocks ++ builds)) params_stand (all_append P result (blocks ++ builds) result_stands (all_append P blocks builds (blocks_stand types f func) builds_all))))
  where
    P : Unknown → Type 0
    P = Of types func f

    params : List Unknown
    params = params_unknowns types f func (range_with_len 0 (length f.params))

    result : List Unknown
    result = map (Result func) (carriers types (Some f.result))

    blocks : List Unknown
    blocks = blocks_unknowns types f func

    builds : List Unknown
    builds = builds_unknowns types func 0 f.blocks

    builds_all : AllByRecursion P builds
    builds_all = builds_stand types f func 0 f.blocks (λ i. let e : 0 + i ≡ i = omega arith in ap (slice_get f.blocks) e)

    params_stand : AllByRecursion P params
    params_stand = all_flat P (λ x. map (Param func x) (local_carriers types f x)) (range_with_len 0 (length f.params))
        (λ x m. let r = range_has 0 (length f.params) x m in let few : x < length f.params = omega (arith, r.1) in all_mapped P (Param func x) (local_carriers types f x) (λ c n. (refl, (few, n))))

    result_stands : AllByRecursion P result
    result_stands = all_mapped P (Result func) (carriers types (Some f.result)) (λ c n. (refl, n))

all_weaker : (P Q : Unknown → Type 0) (us : List Unknown) → ((u : Unknown) → P u → Q u) → AllByRecursion P us → AllByRecursion Q us
all_weaker P Q [] f h = tt
all_weaker P Q (u ∷ us) f h = (f u h.0, all_weaker P Q us f h.1)

funcs_stand : (p : Code) (func : ℕ) (fs : List Func) → ((i : ℕ) → slice_get p.funcs (func + i) ≡ slice_get fs i)
    → AllByRecursion (Stands p) (funcs_unknowns p.types func fs)
funcs_stand p func [] at = tt
funcs_stand p func (f ∷ fs) at = all_append (Stands p) (func_unknowns p.types func f) (funcs_unknowns p.types (suc func) fs)
    (all_weaker (Of p.types func f) (Stands p) (func_unknowns p.types func f) (λ u h. (f, (let e : func ≡ func + 0 = omega arith in ap (slice_get p.funcs) (h.0 ∙ e) ∙ at 0), h.1)) (func_stands p.types func f))
    (funcs_stand p (suc func) fs (λ i. let e : suc func + i ≡ func + suc i = omega arith in ap (slice_get p.funcs) e ∙ at (suc i)))

pub listed_stands : (p : Code) (u : Unknown) → IsTrue (is_listed (unknowns_of p) u) → Stands p u
unfolding unknowns_of
listed_stands p u h = listed_has (Stands p) (unknowns_of p) u (funcs_stand p 0 p.funcs (λ i. let e : 0 + i ≡ i = omega arith in ap (slice_get p.funcs) e)) h

-- ---- all that stands is listed

made_listed : (types : List DataType) (func b n c : ℕ) (op : Op) → MadeHere types op c → IsTrue (is_listed (made_unknowns types func b n op) (Made func b n c))
made_listed types func b n c (Make con args at) h = by_heap (is_heap_con types con) h.0
  where
    by_heap : (t : Bool) → t ≡ true → IsTrue (is_listed (cond t (map (Made func b n) (carriers types (option_map kind.Of (type_of types con)))) []) (Made func b n c))
    by_heap true e = listed_mapped (Made func b n) (carriers types (option_map kind.Of (type_of types con))) c h.1
    by_heap false e = absurd cc
made_listed types func b n c (Lit z) h = absurd h
made_listed types func b n c (Flag z) h = absurd h
made_listed types func b n c (Copy x) h = absurd h
made_listed types func b n c (Prim op x y) h = absurd h
made_listed types func b n c (Call callee args) h = absurd h

lets_listed : (types : List DataType) (func b n c : ℕ) (ls : List Let) (i : ℕ) (l : Let) → slice_get ls i ≡ Some l → MadeHere types l.op c
    → IsTrue (is_listed (lets_unknowns types func b n ls) (Made func b (n + i) c))
lets_listed types func b n c [] i l e h = let none : None ≡ Some l = e in absurd cc
lets_listed types func b n c (m ∷ ls) zero l e h =
    let is : m ≡ l = cc in
    let here : n ≡ n + 0 = omega arith in
    listed_first (made_unknowns types func b n m.op) (lets_unknowns types func b (suc n) ls) (Made func b (n + 0) c)
    (subst (λ j. IsTrue (is_listed (made_unknowns types func b n m.op) (Made func b j c))) here (made_listed types func b n c m.op (subst (λ k. MadeHere types k.op c) (sym is) h)))
lets_listed types func b n c (m ∷ ls) (suc i) l e h =
    let there : suc n + i ≡ n + suc i = omega arith in
    listed_second (made_unknowns types func b n m.op) (lets_unknowns types func b (suc n) ls) (Made func b (n + suc i) c)
    (subst (λ j. IsTrue (is_listed (lets_unknowns types func b (suc n) ls) (Made func b j c))) there (lets_listed types func b (suc n) c ls i l e h))

builds_listed : (types : List DataType) (func b n c : ℕ) (bs : List Block) (i : ℕ) (k : Block) → slice_get bs i ≡ Some k → 1 ≤ n
    → There k.lets (n - 1) (λ l. MadeHere types l.op c) → IsTrue (is_listed (builds_unknowns types func b bs) (Made func (b + i) n c))
builds_listed types func b n c [] i k e some h = let none : None ≡ Some k = e in absurd cc
builds_listed types func b n c (m ∷ bs) zero k e some h =
    let is : m ≡ k = cc in
    let here : b ≡ b + 0 = omega arith in
    let place : 1 + (n - 1) ≡ n = omega (arith, some) in
    listed_first (lets_unknowns types func b 1 m.lets) (builds_unknowns types func (suc b) bs) (Made func (b + 0) n c)
    (subst (λ j. IsTrue (is_listed (lets_unknowns types func b 1 m.lets) (Made func j n c))) here
    (subst (λ j. IsTrue (is_listed (lets_unknowns types func b 1 m.lets) (Made func b j c))) place (lets_listed types func b 1 c m.lets (n - 1) h.0 (ap (λ q. slice_get q.lets (n - 1)) is ∙ h.1) h.2)))
builds_listed types func b n c (m ∷ bs) (suc i) k e some h =
    let there : suc b + i ≡ b + suc i = omega arith in
    listed_second (lets_unknowns types func b 1 m.lets) (builds_unknowns types func (suc b) bs) (Made func (b + suc i) n c)
    (subst (λ j. IsTrue (is_listed (builds_unknowns types func (suc b) bs) (Made func j n c))) there (builds_listed types func (suc b) n c bs i k e some h))

-- in the parts of a function's unknowns
in_params : (u v w : Unknown) (params result blocks builds : List Unknown) → IsTrue (is_listed params u)
    → IsTrue (is_listed (v ∷ w ∷ (params ++ (result ++ (blocks ++ builds)))) u)
in_params u v w params result blocks builds h = listed_later u v (w ∷ (params ++ (result ++ (blocks ++ builds)))) (listed_later u w (params ++ (result ++ (blocks ++ builds))) (listed_first params (result ++ (blocks ++ builds)) u h))

behind_params : (u v w : Unknown) (params rest : List Unknown) → IsTrue (is_listed rest u) → IsTrue (is_listed (v ∷ w ∷ (params ++ rest)) u)
behind_params u v w params rest h = listed_later u v (w ∷ (params ++ rest)) (listed_later u w (params ++ rest) (listed_second params rest u h))

in_result : (u v w : Unknown) (params result blocks builds : List Unknown) → IsTrue (is_listed result u)
    → IsTrue (is_listed (v ∷ w ∷ (params ++ (result ++ (blocks ++ builds)))) u)
in_result u v w params result blocks builds h = behind_params u v w params (result ++ (blocks ++ builds)) (listed_first result (blocks ++ builds) u h)

in_blocks : (u v w : Unknown) (params result blocks builds : List Unknown) → IsTrue (is_listed blocks u)
    → IsTrue (is_listed (v ∷ w ∷ (params ++ (result ++ (blocks ++ builds)))) u)
in_blocks u v w params result blocks builds h = behind_params u v w params (result ++ (blocks ++ builds)) (listed_second result (blocks ++ builds) u (listed_first blocks builds u h))

in_builds : (u v w : Unknown) (params result blocks builds : List Unknown) → IsTrue (is_listed builds u)
    → IsTrue (is_listed (v ∷ w ∷ (params ++ (result ++ (blocks ++ builds)))) u)
in_builds u v w params result blocks builds h = behind_params u v w params (result ++ (blocks ++ builds)) (listed_second result (blocks ++ builds) u (listed_second blocks builds u h))

abbrev params_of : List DataType → ℕ → Func → List Unknown
params_of types func f = params_unknowns types f func (range_with_len 0 (length f.params))

abbrev result_of : List DataType → ℕ → Func → List Unknown
result_of types func f = map (Result func) (carriers types (Some f.result))

abbrev builds_of : List DataType → ℕ → Func → List Unknown
builds_of types func f = builds_unknowns types func 0 f.blocks

-- in the part of a block
in_block : (types : List DataType) (f : Func) (func b : ℕ) (u : Unknown) → 1 ≤ b → b < length f.blocks
    → IsTrue (is_listed (block_unknowns types f func b) u) → IsTrue (is_listed (blocks_unknowns types f func) u)
in_block types f func b u some less h = listed_flat (block_unknowns types f func) (range_with_len 1 (length f.blocks - 1)) b u (in_range 1 (length f.blocks - 1) b some (omega (arith, some, less))) h

func_listed : (types : List DataType) (f : Func) (u : Unknown) → StandsIn types f u → IsTrue (is_listed (func_unknowns types (func_of u) f) u)
func_listed types f (Need func) h = listed_here (Need func) (Back func ∷ (params_of types func f ++ (result_of types func f ++ (blocks_unknowns types f func ++ builds_of types func f))))
func_listed types f (Back func) h = listed_later (Back func) (Need func) (Back func ∷ (params_of types func f ++ (result_of types func f ++ (blocks_unknowns types f func ++ builds_of types func f))))
    (listed_here (Back func) (params_of types func f ++ (result_of types func f ++ (blocks_unknowns types f func ++ builds_of types func f))))
func_listed types f (Param func x c) h = in_params (Param func x c) (Need func) (Back func) (params_of types func f) (result_of types func f) (blocks_unknowns types f func) (builds_of types func f)
    (listed_flat (λ y. map (Param func y) (local_carriers types f y)) (range_with_len 0 (length f.params)) x (Param func x c) (in_range 0 (length f.params) x (omega arith) (omega (arith, h.0))) (listed_mapped (Param func x) (local_carriers types f x) c h.1))
func_listed types f (Result func c) h = in_result (Result func c) (Need func) (Back func) (params_of types func f) (result_of types func f) (blocks_unknowns types f func) (builds_of types func f)
    (listed_mapped (Result func) (carriers types (Some f.result)) c h)
func_listed types f (BlockNeed func b) h = in_blocks (BlockNeed func b) (Need func) (Back func) (params_of types func f) (result_of types func f) (blocks_unknowns types f func) (builds_of types func f)
    (in_block types f func b (BlockNeed func b) h.0 h.1 (listed_here (BlockNeed func b) (vars_unknowns types f func b (params_at f.blocks b))))
func_listed types f (BlockVar func b x c) h = in_blocks (BlockVar func b x c) (Need func) (Back func) (params_of types func f) (result_of types func f) (blocks_unknowns types f func) (builds_of types func f)
    (in_block types f func b (BlockVar func b x c) h.0 h.1 (listed_later (BlockVar func b x c) (BlockNeed func b) (vars_unknowns types f func b (params_at f.blocks b))
    (listed_flat (λ y. map (BlockVar func b y) (local_carriers types f y)) (params_at f.blocks b) x (BlockVar func b x c) h.2 (listed_mapped (BlockVar func b x) (local_carriers types f x) c h.3))))
func_listed types f (Made func b n c) h = in_builds (Made func b n c) (Need func) (Back func) (params_of types func f) (result_of types func f) (blocks_unknowns types f func) (builds_of types func f)
    (let e : 0 + b ≡ b = omega arith in subst (λ j. IsTrue (is_listed (builds_unknowns types func 0 f.blocks) (Made func j n c))) e (builds_listed types func 0 n c f.blocks b h.0 h.1 h.2.0 h.2.1))

funcs_listed : (types : List DataType) (func i : ℕ) (fs : List Func) (f : Func) (u : Unknown) → slice_get fs i ≡ Some f → func_of u ≡ func + i
    → StandsIn types f u → IsTrue (is_listed (funcs_unknowns types func fs) u)
funcs_listed types func i [] f u e is h = let none : None ≡ Some f = e in absurd cc
funcs_listed types func zero (g ∷ fs) f u e is h =
    let same_func : g ≡ f = cc in
    let here : func_of u ≡ func = is ∙ (let z : func + 0 ≡ func = omega arith in z) in
    listed_first (func_unknowns types func g) (funcs_unknowns types (suc func) fs) u (subst (λ n. IsTrue (is_listed (func_unknowns types n g) u)) here (func_listed types g u (subst (λ q. StandsIn types q u) (sym same_func) h)))
funcs_listed types func (suc i) (g ∷ fs) f u e is h =
    listed_second (func_unknowns types func g) (funcs_unknowns types (suc func) fs) u (funcs_listed types (suc func) i fs f u e (is ∙ (let z : func + suc i ≡ suc func + i = omega arith in z)) h)

pub stands_listed : (p : Code) (u : Unknown) → Stands p u → IsTrue (is_listed (unknowns_of p) u)
unfolding unknowns_of
stands_listed p u h = funcs_listed p.types 0 (func_of u) p.funcs h.0 u h.1 (let e : func_of u ≡ 0 + func_of u = omega arith in e) h.2
