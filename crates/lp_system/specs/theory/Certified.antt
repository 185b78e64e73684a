-- Laws, for the proofs of this crate and of those above it.
-- The certificate of an assignment says what the assignment says.
use Rattle.std.proofs.Common.{◌≡◌, ℕ, zero, suc, ◌+◌, ◌-◌, ◌<◌, ◌≤◌, Bool, true, false, List, [], ◌∷◌, ◌++◌, length, map, Option, Some, None, refl, sym, ap, ◌∙◌, subst, arith}
use Rattle.std.specs.Prelude.{◌==◌, ◌||◌, ◌&&◌, cond, if◌then◌else◌, slice_get}
use Rattle.std.specs.List.{range_with_len}
use Rattle.std.specs.Option.{option_map, option_map_or}
use Rattle.std.proofs.lemmas.Bool.Decides.{nat_tests}
use Rattle.camelot_values.specs.Kinds.{DataType, type_of}
use Rattle.camelot_values.specs.Lists.{is_among}
use Rattle.camelot_values.specs.declared.kinds.Kind.TheVariants as kind
use Rattle.grail_blocks.specs.Events.{params_at}
use Rattle.grail_code.specs.Code.{Op, Lit, Flag, Copy, Prim, Make, Call, Let, Block, Func, Code}
use Rattle.annotations.specs.Vectors.{Vector, at, is_heap_con}
use Rattle.certificate.specs.Certificates.{BlockCert, MakeCert, FuncCert}
use Rattle.licence.specs.Books.{vector_of, block_of, make_of, said, block_said, book_of}
use Rattle.lp_system.specs.Unknowns.{Unknown, Need, Back, Param, Result, BlockNeed, BlockVar, Made, is_listed, carriers, local_carriers, unknowns_of}
use Rattle.lp_system.specs.Found.{Assignment, IsZeroOff, book_by, with_units, units_on, line_of, lines_of, params_by, block_by, make_line, made_by, lets_by, builds_by, func_by, funcs_by, certificate_by}
use Rattle.lp_system.specs.theory.Listing.{in_range, There, MadeHere, StandsIn, Stands, listed_stands}

-- ---- units and lines, looked up

if_test : {A : Type 0} (b : Bool) (x y : A) → b ≡ true → (if b then x else y) ≡ x
if_test true x y e = refl
if_test false x y e = absurd cc

unless_test : {A : Type 0} (b : Bool) (x y : A) → b ≡ false → (if b then x else y) ≡ y
unless_test true x y e = absurd cc
unless_test false x y e = refl

cond_or : {A : Type 0} (a b : Bool) (x y : A) → a ≡ false → cond (a || b) x y ≡ cond b x y
cond_or true b x y e = absurd cc
cond_or false b x y e = refl

cond_first : {A : Type 0} (a b : Bool) (x y : A) → a ≡ true → cond (a || b) x y ≡ x
cond_first true b x y e = refl
cond_first false b x y e = absurd cc

both_same : {A : Type 0} (b : Bool) (x y : A) → x ≡ y → cond b x y ≡ y
both_same true x y e = e
both_same false x y e = refl

-- the units of a constructor are found, where it is among these
pub units_at : (cs : List ℕ) (units : ℕ → ℕ) (c : ℕ) → at (units_on cs units) c ≡ cond (is_among cs c) (units c) 0
units_at [] units c = refl
units_at (d ∷ cs) units c = by_units (units_at cs units c) (units d) refl
  where
    by_units : at (units_on cs units) c ≡ cond (is_among cs c) (units c) 0 → (n : ℕ) → units d ≡ n
        → at (with_units d n ++ units_on cs units) c ≡ cond ((d == c) || is_among cs c) (units c) 0
    by_units rest zero e = rest ∙ by_test (d == c) refl
      where
        by_test : (b : Bool) → (d == c) ≡ b → cond (is_among cs c) (units c) 0 ≡ cond (b || is_among cs c) (units c) 0
        by_test true t = let same : d ≡ c = grind (arith, nat_tests, t) in let none : units c ≡ 0 = ap units (sym same) ∙ e in both_same (is_among cs c) (units c) 0 none ∙ sym none
        by_test false t = refl
    by_units rest (suc n) e = by_test (d == c) refl
      where
        by_test : (b : Bool) → (d == c) ≡ b → (if d == c then suc n else at (units_on cs units) c) ≡ cond (b || is_among cs c) (units c) 0
        by_test true t = let same : d ≡ c = grind (arith, nat_tests, t) in if_test (d == c) (suc n) (at (units_on cs units) c) t ∙ sym e ∙ ap units same
        by_test false t = unless_test (d == c) (suc n) (at (units_on cs units) c) t ∙ rest

-- the vector of a local is found, where it is among these
pub vector_at : (vector : ℕ → Vector) (xs : List ℕ) (x : ℕ) → vector_of (lines_of vector xs) x ≡ cond (is_among xs x) (vector x) []
vector_at vector [] x = refl
vector_at vector (y ∷ xs) x = by_vector (vector_at vector xs x) (vector y) refl
  where
    by_vector : vector_of (lines_of vector xs) x ≡ cond (is_among xs x) (vector x) [] → (v : Vector) → vector y ≡ v
        → vector_of (line_of y v ++ lines_of vector xs) x ≡ cond ((y == x) || is_among xs x) (vector x) []
    by_vector rest [] e = rest ∙ by_test (y == x) refl
      where
        by_test : (b : Bool) → (y == x) ≡ b → cond (is_among xs x) (vector x) [] ≡ cond (b || is_among xs x) (vector x) []
        by_test true t = let same : y ≡ x = grind (arith, nat_tests, t) in let none : vector x ≡ [] = ap vector (sym same) ∙ e in both_same (is_among xs x) (vector x) [] none ∙ sym none
        by_test false t = refl
    by_vector rest (p ∷ ps) e = by_test (y == x) refl
      where
        by_test : (b : Bool) → (y == x) ≡ b → (if y == x then p ∷ ps else vector_of (lines_of vector xs) x) ≡ cond (b || is_among xs x) (vector x) []
        by_test true t = let same : y ≡ x = grind (arith, nat_tests, t) in if_test (y == x) (p ∷ ps) (vector_of (lines_of vector xs) x) t ∙ sym e ∙ ap vector same
        by_test false t = unless_test (y == x) (p ∷ ps) (vector_of (lines_of vector xs) x) t ∙ rest

pub block_at : (of : ℕ → BlockCert) (xs : List ℕ) (b : ℕ) → ((x : ℕ) → (of x).block ≡ x) → block_of (map of xs) b ≡ cond (is_among xs b) (Some (of b)) None
block_at of [] b same = refl
block_at of (x ∷ xs) b same = ap (λ n. if n == b then Some (of x) else block_of (map of xs) b) (same x) ∙ by_test (block_at of xs b same) (x == b) refl
  where
    by_test : block_of (map of xs) b ≡ cond (is_among xs b) (Some (of b)) None → (t : Bool) → (x == b) ≡ t
        → (if x == b then Some (of x) else block_of (map of xs) b) ≡ cond (t || is_among xs b) (Some (of b)) None
    by_test rest true e = let is : x ≡ b = grind (arith, nat_tests, e) in if_test (x == b) (Some (of x)) (block_of (map of xs) b) e ∙ ap (λ y. Some (of y)) is
    by_test rest false e = unless_test (x == b) (Some (of x)) (block_of (map of xs) b) e ∙ rest

-- ---- builds, looked up

-- what a build is to carry
abbrev vector_made : List DataType → (func b n : ℕ) → Assignment → Op → Vector
vector_made types func b n value (Make con args place) = cond (is_heap_con types con) (units_on (carriers types (option_map kind.Of (type_of types con))) (λ c. value (Made func b n c))) []
vector_made types func b n value op = []

none_behind : (xs ys : List MakeCert) (b n : ℕ) → make_of ys b n ≡ [] → make_of (xs ++ ys) b n ≡ make_of xs b n
none_behind [] ys b n e = e
none_behind (m ∷ xs) ys b n e = by_test (none_behind xs ys b n e) ((m.block == b) && (m.place == n))
  where
    by_test : make_of (xs ++ ys) b n ≡ make_of xs b n → (t : Bool) → (if t then m.vector else make_of (xs ++ ys) b n) ≡ (if t then m.vector else make_of xs b n)
    by_test rest true = refl
    by_test rest false = rest

-- a line of another place
line_elsewhere : (b n b' n' : ℕ) (v : Vector) (rest : List MakeCert) → ((b == b') && (n == n')) ≡ false
    → make_of (make_line b n v ++ rest) b' n' ≡ make_of rest b' n'
line_elsewhere b n b' n' [] rest e = refl
line_elsewhere b n b' n' (p ∷ ps) rest e = unless_test ((b == b') && (n == n')) (p ∷ ps) (make_of rest b' n') e

line_here : (b n : ℕ) (v : Vector) → make_of (make_line b n v) b n ≡ v
line_here b n [] = refl
line_here b n (p ∷ ps) = if_test ((b == b) && (n == n)) (p ∷ ps) [] (grind (arith, nat_tests))

made_elsewhere : (types : List DataType) (func b n b' n' : ℕ) (value : Assignment) (op : Op) (rest : List MakeCert)
    → ((b == b') && (n == n')) ≡ false → make_of (made_by types func b n value op ++ rest) b' n' ≡ make_of rest b' n'
made_elsewhere types func b n b' n' value (Lit z) rest e = refl
made_elsewhere types func b n b' n' value (Flag z) rest e = refl
made_elsewhere types func b n b' n' value (Copy x) rest e = refl
made_elsewhere types func b n b' n' value (Prim op x y) rest e = refl
made_elsewhere types func b n b' n' value (Call callee args) rest e = refl
made_elsewhere types func b n b' n' value (Make con args place) rest e = by_heap (is_heap_con types con)
  where
    v : Vector
    v = units_on (carriers types (option_map kind.Of (type_of types con))) (λ c. value (Made func b n c))

    by_heap : (h : Bool) → make_of (cond h (make_line b n v) [] ++ rest) b' n' ≡ make_of rest b' n'
    by_heap true = line_elsewhere b n b' n' v rest e
    by_heap false = refl

made_at : (types : List DataType) (func b n : ℕ) (value : Assignment) (op : Op)
    → make_of (made_by types func b n value op) b n ≡ vector_made types func b n value op
made_at types func b n value (Lit z) = refl
made_at types func b n value (Flag z) = refl
made_at types func b n value (Copy x) = refl
made_at types func b n value (Prim op x y) = refl
made_at types func b n value (Call callee args) = refl
made_at types func b n value (Make con args place) = by_heap (is_heap_con types con)
  where
    v : Vector
    v = units_on (carriers types (option_map kind.Of (type_of types con))) (λ c. value (Made func b n c))

    by_heap : (h : Bool) → make_of (cond h (make_line b n v) []) b n ≡ cond h v []
    by_heap true = line_here b n v
    by_heap false = refl

-- lets of other places
lets_elsewhere : (types : List DataType) (func b n b' n' : ℕ) (value : Assignment) (ls : List Let) → ((i : ℕ) → ((b == b') && (n + i == n')) ≡ false)
    → (rest : List MakeCert) → make_of (lets_by types func b n value ls ++ rest) b' n' ≡ make_of rest b' n'
lets_elsewhere types func b n b' n' value [] other rest = refl
lets_elsewhere types func b n b' n' value (l ∷ ls) other rest =
    let grouped : (made_by types func b n value l.op ++ lets_by types func b (suc n) value ls) ++ rest ≡ made_by types func b n value l.op
    ++ (lets_by types func b (suc n) value ls ++ rest)
    = append_is (made_by types func b n value l.op) (lets_by types func b (suc n) value ls) rest in
    let here : n + 0 ≡ n = omega arith in
    ap (λ ms. make_of ms b' n') grouped
    ∙ made_elsewhere types func b n b' n' value l.op (lets_by types func b (suc n) value ls ++ rest) (ap (λ j. (b == b') && (j == n')) (sym here) ∙ other 0)
    ∙ lets_elsewhere types func b (suc n) b' n' value ls (λ i. let there : suc n + i ≡ n + suc i = omega arith in ap (λ j. (b == b') && (j == n')) there ∙ other (suc i)) rest
  where
    append_is : (xs ys zs : List MakeCert) → (xs ++ ys) ++ zs ≡ xs ++ (ys ++ zs)
    append_is [] ys zs = refl
    append_is (x ∷ xs) ys zs = ap (λ r. x ∷ r) (append_is xs ys zs)

nothing_behind : (xs : List MakeCert) → xs ++ [] ≡ xs
nothing_behind [] = refl
nothing_behind (x ∷ xs) = ap (λ r. x ∷ r) (nothing_behind xs)

not_in_lets : (types : List DataType) (func b n b' n' : ℕ) (value : Assignment) (ls : List Let) → ((i : ℕ) → ((b == b') && (n + i == n')) ≡ false)
    → make_of (lets_by types func b n value ls) b' n' ≡ []
not_in_lets types func b n b' n' value ls other = ap (λ ms. make_of ms b' n') (sym (nothing_behind (lets_by types func b n value ls))) ∙ lets_elsewhere types func b n b' n' value ls other []

-- the build at the i-th let from here
lets_at : (types : List DataType) (func b n : ℕ) (value : Assignment) (ls : List Let) (i : ℕ)
    → make_of (lets_by types func b n value ls) b (n + i) ≡ option_map_or (λ l. vector_made types func b (n + i) value l.op) (slice_get ls i) []
lets_at types func b n value [] i = refl
lets_at types func b n value (l ∷ ls) zero =
    let here : n ≡ n + 0 = omega arith in
    subst (λ j. make_of (made_by types func b n value l.op ++ lets_by types func b (suc n) value ls) b j ≡ vector_made types func b j value l.op) here
    (none_behind (made_by types func b n value l.op) (lets_by types func b (suc n) value ls) b n (not_in_lets types func b (suc n) b n value ls (λ i. grind (arith, nat_tests))) ∙ made_at types func b n value l.op)
lets_at types func b n value (l ∷ ls) (suc i) =
    let there : suc n + i ≡ n + suc i = omega arith in
    made_elsewhere types func b n b (n + suc i) value l.op (lets_by types func b (suc n) value ls) (grind (arith, nat_tests))
    ∙ subst (λ j. make_of (lets_by types func b (suc n) value ls) b j ≡ option_map_or (λ l. vector_made types func b j value l.op) (slice_get ls i) []) there (lets_at types func b (suc n) value ls i)

-- a block before these
not_in_builds : (types : List DataType) (func b b' n : ℕ) (value : Assignment) (bs : List Block) → b' < b → make_of (builds_by types func b value bs) b' n ≡ []
not_in_builds types func b b' n value [] less = refl
not_in_builds types func b b' n value (k ∷ bs) less =
    lets_elsewhere types func b 1 b' n value k.lets (λ i. grind (arith, nat_tests, less)) (builds_by types func (suc b) value bs) ∙ not_in_builds types func (suc b) b' n value bs (omega (arith, less))

builds_at : (types : List DataType) (func b n : ℕ) (value : Assignment) (bs : List Block) (i : ℕ)
    → make_of (builds_by types func b value bs) (b + i) n ≡ option_map_or (λ k. make_of (lets_by types func (b + i) 1 value k.lets) (b + i) n) (slice_get bs i) []
builds_at types func b n value [] i = refl
builds_at types func b n value (k ∷ bs) zero =
    let here : b ≡ b + 0 = omega arith in
    subst (λ j. make_of (lets_by types func b 1 value k.lets ++ builds_by types func (suc b) value bs) j n ≡ make_of (lets_by types func j 1 value k.lets) j n) here
    (none_behind (lets_by types func b 1 value k.lets) (builds_by types func (suc b) value bs) b n (not_in_builds types func (suc b) b n value bs (omega arith)))
builds_at types func b n value (k ∷ bs) (suc i) =
    let there : suc b + i ≡ b + suc i = omega arith in
    lets_elsewhere types func b 1 (b + suc i) n value k.lets (λ j. grind (arith, nat_tests)) (builds_by types func (suc b) value bs)
    ∙ subst (λ j. make_of (builds_by types func (suc b) value bs) j n ≡ option_map_or (λ k. make_of (lets_by types func j 1 value k.lets) j n) (slice_get bs i) []) there (builds_at types func (suc b) n value bs i)

-- ---- functions, looked up

funcs_got : (types : List DataType) (value : Assignment) (first : ℕ) (fs : List Func) (i : ℕ)
    → slice_get (funcs_by types value first fs) i ≡ option_map (func_by types value (first + i)) (slice_get fs i)
funcs_got types value first [] i = refl
funcs_got types value first (f ∷ fs) zero = let here : first ≡ first + 0 = omega arith in ap (λ n. Some (func_by types value n f)) here
funcs_got types value first (f ∷ fs) (suc i) = let there : suc first + i ≡ first + suc i = omega arith in funcs_got types value (suc first) fs i ∙ ap (λ n. option_map (func_by types value n) (slice_get fs i)) there

pub func_got : (p : Code) (unit : ℕ) (value : Assignment) (func : ℕ)
    → slice_get (certificate_by p unit value).funcs func ≡ option_map (func_by p.types value func) (slice_get p.funcs func)
unfolding certificate_by
func_got p unit value func = funcs_got p.types value 0 p.funcs func ∙ (let e : 0 + func ≡ func = omega arith in ap (λ n. option_map (func_by p.types value n) (slice_get p.funcs func)) e)

-- what is said of a function, seen by `see`, is as wanted: where the function is there, and where it isn't
by_func : {B C : Type 0} (p : Code) (unit : ℕ) (value : Assignment) (func : ℕ) (say : FuncCert → B) (nothing : B) (see : B → C) (wanted : C)
    → ((f : Func) → slice_get p.funcs func ≡ Some f → see (say (func_by p.types value func f)) ≡ wanted)
    → (slice_get p.funcs func ≡ None → see nothing ≡ wanted) → see (said (certificate_by p unit value) func say nothing) ≡ wanted
by_func p unit value func say nothing see wanted there missing = ap (λ o. see (option_map_or say o nothing)) (func_got p unit value func) ∙ by_option (slice_get p.funcs func) refl
  where
    by_option : (o : Option Func) → slice_get p.funcs func ≡ o → see (option_map_or say (option_map (func_by p.types value func) o) nothing) ≡ wanted
    by_option None e = missing e
    by_option (Some f) e = there f e

-- an unknown that doesn't stand is nothing
pub off : (p : Code) (value : Assignment) (u : Unknown) → IsZeroOff (unknowns_of p) value → (Stands p u → ⊥) → value u ≡ 0
off p value u zero_off never = by_test (is_listed (unknowns_of p) u) refl
  where
    by_test : (b : Bool) → is_listed (unknowns_of p) u ≡ b → value u ≡ 0
    by_test true e = absurd (never (listed_stands p u e))
    by_test false e = zero_off u e

-- an unknown of a function that isn't there
no_func : (p : Code) (u : Unknown) (func : ℕ) (P : Func → Type 0) → slice_get p.funcs func ≡ None → There p.funcs func P → ⊥
no_func p u func P e h = let c : None ≡ Some h.0 = sym e ∙ h.1 in absurd cc

-- the same function
pub the_func : (p : Code) (func : ℕ) (f : Func) (P : Func → Type 0) → slice_get p.funcs func ≡ Some f → There p.funcs func P → P f
the_func p func f P e h = let same : Some h.0 ≡ Some f = sym h.1 ∙ e in let is : h.0 ≡ f = cc in subst P is h.2

-- a value that is looked up behind two tests is the assignment's, where this is nothing off them
tested : (a : Bool) (n : ℕ) → (a ≡ false → n ≡ 0) → cond a n 0 ≡ n
tested true n h = refl
tested false n h = sym (h refl)

at_tested : (a : Bool) (v : Vector) (c : ℕ) → at (cond a v []) c ≡ cond a (at v c) 0
at_tested true v c = refl
at_tested false v c = refl

-- ---- unknown by unknown

need_is : (p : Code) (unit : ℕ) (value : Assignment) (func : ℕ) → IsZeroOff (unknowns_of p) value
    → said (certificate_by p unit value) func (λ f. f.need) 0 ≡ value (Need func)
need_is p unit value func zero_off = by_func p unit value func (λ f. f.need) 0 (λ n. n) (value (Need func)) (λ f e. refl)
    (λ none. sym (off p value (Need func) zero_off (no_func p (Need func) func (λ f. StandsIn p.types f (Need func)) none)))

back_is : (p : Code) (unit : ℕ) (value : Assignment) (func : ℕ) → IsZeroOff (unknowns_of p) value
    → said (certificate_by p unit value) func (λ f. f.back) 0 ≡ value (Back func)
back_is p unit value func zero_off = by_func p unit value func (λ f. f.back) 0 (λ n. n) (value (Back func)) (λ f e. refl)
    (λ none. sym (off p value (Back func) zero_off (no_func p (Back func) func (λ f. StandsIn p.types f (Back func)) none)))

param_is : (p : Code) (unit : ℕ) (value : Assignment) (func x c : ℕ) → IsZeroOff (unknowns_of p) value
    → at (said (certificate_by p unit value) func (λ f. vector_of f.params x) []) c ≡ value (Param func x c)
param_is p unit value func x c zero_off = by_func p unit value func (λ f. vector_of f.params x) [] (λ v. at v c) (value (Param func x c)) there (λ none. sym (nothing (no_func p (Param func x c) func (λ f. StandsIn p.types f (Param func x c)) none)))
  where
    nothing : (Stands p (Param func x c) → ⊥) → value (Param func x c) ≡ 0
    nothing = off p value (Param func x c) zero_off

    there : (f : Func) → slice_get p.funcs func ≡ Some f → at (vector_of (params_by p.types f func value) x) c ≡ value (Param func x c)
    there f e =
        ap (λ v. at v c) (vector_at (λ y. units_on (local_carriers p.types f y) (λ d. value (Param func y d))) (range_with_len 0 (length f.params)) x)
        ∙ at_tested (is_among (range_with_len 0 (length f.params)) x) (units_on (local_carriers p.types f x) (λ d. value (Param func x d))) c
        ∙ ap (λ n. cond (is_among (range_with_len 0 (length f.params)) x) n 0) (units_at (local_carriers p.types f x) (λ d. value (Param func x d)) c ∙ tested (is_among (local_carriers p.types f x) c) (value (Param func x c)) no_con)
        ∙ tested (is_among (range_with_len 0 (length f.params)) x) (value (Param func x c)) no_param
      where
        no_con : is_among (local_carriers p.types f x) c ≡ false → value (Param func x c) ≡ 0
        no_con t = nothing (λ s. let h = the_func p func f (λ g. StandsIn p.types g (Param func x c)) e s in let k : true ≡ false = sym h.1 ∙ t in absurd cc)

        no_param : is_among (range_with_len 0 (length f.params)) x ≡ false → value (Param func x c) ≡ 0
        no_param t = nothing (λ s. let h = the_func p func f (λ g. StandsIn p.types g (Param func x c)) e s in
            let m : is_among (range_with_len 0 (length f.params)) x ≡ true = in_range 0 (length f.params) x (omega arith) (omega (arith, h.0)) in let k : true ≡ false = sym m ∙ t in absurd cc)

result_is : (p : Code) (unit : ℕ) (value : Assignment) (func c : ℕ) → IsZeroOff (unknowns_of p) value
    → at (said (certificate_by p unit value) func (λ f. f.result) []) c ≡ value (Result func c)
result_is p unit value func c zero_off = by_func p unit value func (λ f. f.result) [] (λ v. at v c) (value (Result func c)) there (λ none. sym (nothing (no_func p (Result func c) func (λ f. StandsIn p.types f (Result func c)) none)))
  where
    nothing : (Stands p (Result func c) → ⊥) → value (Result func c) ≡ 0
    nothing = off p value (Result func c) zero_off

    there : (f : Func) → slice_get p.funcs func ≡ Some f
        → at (units_on (carriers p.types (Some f.result)) (λ d. value (Result func d))) c ≡ value (Result func c)
    there f e = units_at (carriers p.types (Some f.result)) (λ d. value (Result func d)) c ∙ tested (is_among (carriers p.types (Some f.result)) c) (value (Result func c))
        (λ t. nothing (λ s. let h = the_func p func f (λ g. StandsIn p.types g (Result func c)) e s in let k : true ≡ false = sym h ∙ t in absurd cc))

-- a block's line is there exactly for a block after the first
line_at : (p : Code) (value : Assignment) (func b : ℕ) (f : Func) → block_of (map (block_by p.types f func value) (range_with_len 1 (length f.blocks - 1))) b
    ≡ cond (is_among (range_with_len 1 (length f.blocks - 1)) b) (Some (block_by p.types f func value b)) None
line_at p value func b f = block_at (block_by p.types f func value) (range_with_len 1 (length f.blocks - 1)) b (λ x. refl)

option_tested : {A B : Type 0} (a : Bool) (x : A) (say : A → B) (nothing : B) → option_map_or say (cond a (Some x) None) nothing ≡ cond a (say x) nothing
option_tested true x say nothing = refl
option_tested false x say nothing = refl

after_first : (f : Func) (b : ℕ) → 1 ≤ b → b < length f.blocks → is_among (range_with_len 1 (length f.blocks - 1)) b ≡ true
after_first f b some less = in_range 1 (length f.blocks - 1) b some (omega (arith, some, less))

block_need_is : (p : Code) (unit : ℕ) (value : Assignment) (func b : ℕ) → IsZeroOff (unknowns_of p) value
    → block_said (certificate_by p unit value) func b (λ k. k.need) 0 ≡ value (BlockNeed func b)
block_need_is p unit value func b zero_off = by_func p unit value func (λ f. option_map_or (λ k. k.need) (block_of f.blocks b) 0) 0 (λ n. n) (value (BlockNeed func b)) there (λ none. sym (nothing (no_func p (BlockNeed func b) func (λ f. StandsIn p.types f (BlockNeed func b)) none)))
  where
    nothing : (Stands p (BlockNeed func b) → ⊥) → value (BlockNeed func b) ≡ 0
    nothing = off p value (BlockNeed func b) zero_off

    there : (f : Func) → slice_get p.funcs func ≡ Some f
        → option_map_or (λ k. k.need) (block_of (map (block_by p.types f func value) (range_with_len 1 (length f.blocks - 1))) b) 0 ≡ value (BlockNeed func b)
    there f e =
        ap (λ o. option_map_or (λ k. k.need) o 0) (line_at p value func b f)
        ∙ option_tested (is_among (range_with_len 1 (length f.blocks - 1)) b) (block_by p.types f func value b) (λ k. k.need) 0
        ∙ tested (is_among (range_with_len 1 (length f.blocks - 1)) b) (value (BlockNeed func b))
        (λ t. nothing (λ s. let h = the_func p func f (λ g. StandsIn p.types g (BlockNeed func b)) e s in let k : true ≡ false = sym (after_first f b h.0 h.1) ∙ t in absurd cc))

block_var_is : (p : Code) (unit : ℕ) (value : Assignment) (func b x c : ℕ) → IsZeroOff (unknowns_of p) value
    → at (block_said (certificate_by p unit value) func b (λ k. vector_of k.vars x) []) c ≡ value (BlockVar func b x c)
block_var_is p unit value func b x c zero_off =
    by_func p unit value func (λ f. option_map_or (λ k. vector_of k.vars x) (block_of f.blocks b) []) [] (λ v. at v c) (value (BlockVar func b x c)) there (λ none. sym (nothing (no_func p (BlockVar func b x c) func (λ f. StandsIn p.types f (BlockVar func b x c)) none)))
  where
    nothing : (Stands p (BlockVar func b x c) → ⊥) → value (BlockVar func b x c) ≡ 0
    nothing = off p value (BlockVar func b x c) zero_off

    there : (f : Func) → slice_get p.funcs func ≡ Some f
        → at (option_map_or (λ k. vector_of k.vars x) (block_of (map (block_by p.types f func value) (range_with_len 1 (length f.blocks - 1))) b) []) c ≡ value (BlockVar func b x c)
    there f e =
        ap (λ o. at (option_map_or (λ k. vector_of k.vars x) o []) c) (line_at p value func b f)
        ∙ ap (λ v. at v c) (option_tested (is_among (range_with_len 1 (length f.blocks - 1)) b) (block_by p.types f func value b) (λ k. vector_of k.vars x) [])
        ∙ at_tested (is_among (range_with_len 1 (length f.blocks - 1)) b) (vector_of (block_by p.types f func value b).vars x) c
        ∙ ap (λ n. cond (is_among (range_with_len 1 (length f.blocks - 1)) b) n 0) inner
        ∙ tested (is_among (range_with_len 1 (length f.blocks - 1)) b) (value (BlockVar func b x c)) (λ t. nothing (λ s. let h = in_it s in let k : true ≡ false = sym (after_first f b h.0 h.1) ∙ t in absurd cc))
      where
        in_it : Stands p (BlockVar func b x c) → StandsIn p.types f (BlockVar func b x c)
        in_it = the_func p func f (λ g. StandsIn p.types g (BlockVar func b x c)) e

        inner : at (vector_of (block_by p.types f func value b).vars x) c ≡ value (BlockVar func b x c)
        inner =
            ap (λ v. at v c) (vector_at (λ y. units_on (local_carriers p.types f y) (λ d. value (BlockVar func b y d))) (params_at f.blocks b) x)
            ∙ at_tested (is_among (params_at f.blocks b) x) (units_on (local_carriers p.types f x) (λ d. value (BlockVar func b x d))) c
            ∙ ap (λ n. cond (is_among (params_at f.blocks b) x) n 0) (units_at (local_carriers p.types f x) (λ d. value (BlockVar func b x d)) c ∙ tested (is_among (local_carriers p.types f x) c) (value (BlockVar func b x c))
            (λ t. nothing (λ s. let h = in_it s in let k : true ≡ false = sym h.3 ∙ t in absurd cc)))
            ∙ tested (is_among (params_at f.blocks b) x) (value (BlockVar func b x c)) (λ t. nothing (λ s. let h = in_it s in let k : true ≡ false = sym h.2 ∙ t in absurd cc))

-- a build's units are what it carries
units_made : (types : List DataType) (func b n c : ℕ) (value : Assignment) (op : Op) → ((MadeHere types op c → ⊥) → value (Made func b n c) ≡ 0)
    → at (vector_made types func b n value op) c ≡ value (Made func b n c)
units_made types func b n c value (Lit z) h = sym (h (λ k. k))
units_made types func b n c value (Flag z) h = sym (h (λ k. k))
units_made types func b n c value (Copy x) h = sym (h (λ k. k))
units_made types func b n c value (Prim op x y) h = sym (h (λ k. k))
units_made types func b n c value (Call callee args) h = sym (h (λ k. k))
units_made types func b n c value (Make con args place) h =
    at_tested (is_heap_con types con) (units_on (carriers types (option_map kind.Of (type_of types con))) (λ d. value (Made func b n d))) c
    ∙ ap (λ m. cond (is_heap_con types con) m 0) (units_at (carriers types (option_map kind.Of (type_of types con))) (λ d. value (Made func b n d)) c
    ∙ tested (is_among (carriers types (option_map kind.Of (type_of types con))) c) (value (Made func b n c)) (λ t. h (λ k. let q : true ≡ false = sym k.1 ∙ t in absurd cc)))
    ∙ tested (is_heap_con types con) (value (Made func b n c)) (λ t. h (λ k. let q : true ≡ false = sym k.0 ∙ t in absurd cc))

make_is : (p : Code) (unit : ℕ) (value : Assignment) (func b n c : ℕ) → IsZeroOff (unknowns_of p) value
    → at (said (certificate_by p unit value) func (λ f. make_of f.makes b n) []) c ≡ value (Made func b n c)
make_is p unit value func b n c zero_off = by_func p unit value func (λ f. make_of f.makes b n) [] (λ v. at v c) (value (Made func b n c)) there (λ none. sym (nothing (no_func p (Made func b n c) func (λ f. StandsIn p.types f (Made func b n c)) none)))
  where
    nothing : (Stands p (Made func b n c) → ⊥) → value (Made func b n c) ≡ 0
    nothing = off p value (Made func b n c) zero_off

    there : (f : Func) → slice_get p.funcs func ≡ Some f → at (make_of (builds_by p.types func 0 value f.blocks) b n) c ≡ value (Made func b n c)
    there f e =
        let zero_b : 0 + b ≡ b = omega arith in
        ap (λ v. at v c) (subst (λ j. make_of (builds_by p.types func 0 value f.blocks) j n ≡ option_map_or (λ k. make_of (lets_by p.types func j 1 value k.lets) j n) (slice_get f.blocks b) []) zero_b (builds_at p.types func 0 n value f.blocks b))
        ∙ by_block (slice_get f.blocks b) refl
      where
        in_it : Stands p (Made func b n c) → StandsIn p.types f (Made func b n c)
        in_it = the_func p func f (λ g. StandsIn p.types g (Made func b n c)) e

        by_place : (k : Block) → slice_get f.blocks b ≡ Some k → (m : ℕ) → n ≡ m
            → at (make_of (lets_by p.types func b 1 value k.lets) b m) c ≡ value (Made func b n c)
        by_place k d zero i = ap (λ v. at v c) (not_in_lets p.types func b 1 b 0 value k.lets (λ j. grind (arith, nat_tests))) ∙ sym (nothing (λ s. let h = in_it s in omega (arith, h.2.0, i)))
        by_place k d (suc m) i =
            let one_m : 1 + m ≡ suc m = omega arith in
            ap (λ v. at v c) (subst (λ j. make_of (lets_by p.types func b 1 value k.lets) b j ≡ option_map_or (λ l. vector_made p.types func b j value l.op) (slice_get k.lets m) []) one_m (lets_at p.types func b 1 value k.lets m))
            ∙ by_let (slice_get k.lets m) refl
          where
            this_let : (l : Let) → slice_get k.lets m ≡ Some l → Stands p (Made func b n c) → MadeHere p.types l.op c
            this_let l is s =
                let h = in_it s in
                let same_block : Some h.0 ≡ Some k = sym h.1 ∙ d in
                let block_is : h.0 ≡ k = cc in
                let place_is : n - 1 ≡ m = omega (arith, i) in
                let same_let : Some h.2.1.0 ≡ Some l = sym h.2.1.1 ∙ ap (λ q. slice_get q.lets (n - 1)) block_is ∙ ap (slice_get k.lets) place_is ∙ is in
                let let_is : h.2.1.0 ≡ l = cc in
                subst (λ q. MadeHere p.types q.op c) let_is h.2.1.2

            by_let : (o : Option Let) → slice_get k.lets m ≡ o
                → at (option_map_or (λ l. vector_made p.types func b (suc m) value l.op) o []) c ≡ value (Made func b n c)
            by_let None is = sym (nothing (λ s. let h = in_it s in
                let same_block : Some h.0 ≡ Some k = sym h.1 ∙ d in
                let block_is : h.0 ≡ k = cc in
                let place_is : n - 1 ≡ m = omega (arith, i) in
                let missing : None ≡ Some h.2.1.0 = sym is ∙ sym (ap (slice_get k.lets) place_is) ∙ sym (ap (λ q. slice_get q.lets (n - 1)) block_is) ∙ h.2.1.1 in absurd cc))
            by_let (Some l) is = subst (λ j. at (vector_made p.types func b j value l.op) c ≡ value (Made func b n c)) i (units_made p.types func b n c value l.op (λ never. nothing (λ s. never (this_let l is s))))

        by_block : (o : Option Block) → slice_get f.blocks b ≡ o
            → at (option_map_or (λ k. make_of (lets_by p.types func b 1 value k.lets) b n) o []) c ≡ value (Made func b n c)
        by_block None d = sym (nothing (λ s. let h = in_it s in let missing : None ≡ Some h.0 = sym d ∙ h.1 in absurd cc))
        by_block (Some k) d = by_place k d n refl

-- The certificate of an assignment is a book of what the assignment says.
pub certificate_says : (p : Code) (unit : ℕ) (value : Assignment) → IsZeroOff (unknowns_of p) value → book_of (certificate_by p unit value) ≡ book_by unit value
unfolding certificate_by
certificate_says p unit value zero_off = λ i. record {
  unit = unit;
  need = λ func. need_is p unit value func zero_off i;
  back = λ func. back_is p unit value func zero_off i;
  param = λ func x c. param_is p unit value func x c zero_off i;
  result = λ func c. result_is p unit value func c zero_off i;
  block_need = λ func b. block_need_is p unit value func b zero_off i;
  block_var = λ func b x c. block_var_is p unit value func b x c zero_off i;
  make = λ func b n c. make_is p unit value func b n c zero_off i;
}
