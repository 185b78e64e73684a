-- Laws, for the proofs of this crate and of those above it.
-- No unknown stands twice: lists of unknowns that differ in one of their numbers don't meet, and each part is told
-- apart by its sort, its function, its block, its local or place, and its constructor, all of which ascend.
use Rattle.std.proofs.Common.{◌≡◌, ℕ, zero, suc, ◌+◌, ◌-◌, ◌<◌, ◌≤◌, Bool, true, false, List, [], ◌∷◌, ◌++◌, length, map, get_or, Option, Some, None, refl, ap, arith}
use Rattle.std.specs.Prelude.{◌||◌, flat_map, cond}
use Rattle.std.specs.List.{range_with_len, AllByRecursion}
use Rattle.std.specs.Option.{option_map}
use Rattle.camelot_values.specs.Kinds.{DataType, type_of}
use Rattle.camelot_values.specs.Lists.{Ascend}
use Rattle.camelot_values.specs.ReachLaws.{reached_ascends}
use Rattle.camelot_values.specs.declared.kinds.Kind.{Kind}
use Rattle.camelot_values.specs.declared.kinds.Kind.TheVariants as kind
use Rattle.grail_blocks.specs.Events.{params_at}
use Rattle.grail_code.specs.Code.{Op, Lit, Flag, Copy, Prim, Make, Call, Let, Block, Func, Code}
use Rattle.grail_code.specs.WellFormed.{BlocksFit, FuncFits, IsWellFormed}
use Rattle.annotations.specs.Vectors.{is_heap_con}
use Rattle.lp_system.specs.Unknowns.{Unknown, Need, Back, Param, Result, BlockNeed, BlockVar, Made, numbers_of, same, is_listed, NoRepeats, carriers, local_carriers, params_unknowns, vars_unknowns, block_unknowns, blocks_unknowns, made_unknowns, lets_unknowns, builds_unknowns, func_unknowns, funcs_unknowns, unknowns_of}
use Rattle.lp_system.specs.theory.Lent.{local_ascends}
use Rattle.lp_system.specs.theory.Values.{same_is}

-- ---- lists

all_weaken : {X : Type 0} (P Q : X → Type 0) → ((x : X) → P x → Q x) → (xs : List X) → AllByRecursion P xs → AllByRecursion Q xs
all_weaken P Q f [] h = tt
all_weaken P Q f (x ∷ xs) h = (f x h.0, all_weaken P Q f xs h.1)

all_append : (P : Unknown → Type 0) (us ws : List Unknown) → AllByRecursion P us → AllByRecursion P ws → AllByRecursion P (us ++ ws)
all_append P [] ws h k = k
all_append P (u ∷ us) ws h k = (h.0, all_append P us ws h.1 k)

all_each : (P : Unknown → Type 0) (make : ℕ → Unknown) → ((c : ℕ) → P (make c)) → (cons : List ℕ) → AllByRecursion P (map make cons)
all_each P make h [] = tt
all_each P make h (c ∷ cons) = (h c, all_each P make h cons)

all_parts : (P : Unknown → Type 0) (part : ℕ → List Unknown) → ((x : ℕ) → AllByRecursion P (part x)) → (xs : List ℕ) → AllByRecursion P (flat_map part xs)
all_parts P part h [] = tt
all_parts P part h (x ∷ xs) = all_append P (part x) (flat_map part xs) (h x) (all_parts P part h xs)

-- ---- ascending numbers

above_first : (x : ℕ) (xs : List ℕ) → Ascend (x ∷ xs) → AllByRecursion (λ y. x < y) xs
above_first x [] h = tt
above_first x (y ∷ ys) h = (h.0, all_weaken (λ z. y < z) (λ z. x < z) (λ z l. omega (arith, l, h.0)) ys (above_first y ys h.1))

rest_ascends : (x : ℕ) (xs : List ℕ) → Ascend (x ∷ xs) → Ascend xs
rest_ascends x [] h = tt
rest_ascends x (y ∷ ys) h = h.1

range_ascends : (a n : ℕ) → Ascend (range_with_len a n)
range_ascends a zero = tt
range_ascends a (suc zero) = tt
range_ascends a (suc (suc n)) = (omega arith, range_ascends (a + 1) (suc n))

carriers_ascend : (types : List DataType) (q : Option Kind) → Ascend (carriers types q)
carriers_ascend types None = tt
carriers_ascend types (Some q) = reached_ascends types q

-- ---- unknowns that differ in a number

-- which of its numbers
abbrev digit : ℕ → Unknown → ℕ
digit i u = get_or (numbers_of u) i 0

not_listed : (i d : ℕ) (u : Unknown) (ws : List Unknown) → digit i u ≤ d → AllByRecursion (λ w. d < digit i w) ws → is_listed ws u ≡ false
not_listed i d u [] h k = refl
not_listed i d u (w ∷ ws) h k = by_test (not_listed i d u ws h k.1) (same u w) refl
  where
    by_test : is_listed ws u ≡ false → (b : Bool) → same u w ≡ b → (b || is_listed ws u) ≡ false
    by_test rec false e = rec
    by_test rec true e = let q : digit i u ≡ digit i w = ap (digit i) (same_is u w e) in absurd (omega (arith, h, k.0, q))

neither : (u : Unknown) (us ws : List Unknown) → is_listed us u ≡ false → is_listed ws u ≡ false → is_listed (us ++ ws) u ≡ false
neither u [] ws h k = k
neither u (w ∷ us) ws h k = by_test (λ q. neither u us ws q k) (same u w) h
  where
    by_test : (is_listed us u ≡ false → is_listed (us ++ ws) u ≡ false) → (b : Bool) → (b || is_listed us u) ≡ false → (b || is_listed (us ++ ws) u) ≡ false
    by_test rec true e = absurd cc
    by_test rec false e = rec e

-- no number of that place is above `d` in the first list, and each is in the second
joined : (i d : ℕ) (us ws : List Unknown) → NoRepeats us → NoRepeats ws → AllByRecursion (λ u. digit i u ≤ d) us
    → AllByRecursion (λ w. d < digit i w) ws → NoRepeats (us ++ ws)
joined i d [] ws h k l m = k
joined i d (u ∷ us) ws h k l m = (neither u us ws h.0 (not_listed i d u ws l.0 m), joined i d us ws h.1 k l.1 m)

-- one unknown for each of these numbers
each_distinct : (make : ℕ → Unknown) (i : ℕ) → ((c : ℕ) → digit i (make c) ≡ c) → (cons : List ℕ) → Ascend cons → NoRepeats (map make cons)
each_distinct make i h [] a = tt
each_distinct make i h (c ∷ cons) a =
    (not_listed i c (make c) (map make cons) (omega (arith, h c)) (later cons (above_first c cons a)), each_distinct make i h cons (rest_ascends c cons a))
  where
    later : (ds : List ℕ) → AllByRecursion (λ d. c < d) ds → AllByRecursion (λ w. c < digit i w) (map make ds)
    later [] l = tt
    later (d ∷ ds) l = (omega (arith, h d, l.0), later ds l.1)

-- a part for each of these numbers
parts_distinct : (part : ℕ → List Unknown) (i : ℕ) → ((x : ℕ) → AllByRecursion (λ u. digit i u ≡ x) (part x)) → ((x : ℕ) → NoRepeats (part x))
    → (xs : List ℕ) → Ascend xs → NoRepeats (flat_map part xs)
parts_distinct part i h n [] a = tt
parts_distinct part i h n (x ∷ xs) a =
    joined i x (part x) (flat_map part xs) (n x) (parts_distinct part i h n xs (rest_ascends x xs a)) (all_weaken (λ u. digit i u ≡ x) (λ u. digit i u ≤ x) (λ u e. omega (arith, e)) (part x) (h x)) (later xs (above_first x xs a))
  where
    later : (ys : List ℕ) → AllByRecursion (λ y. x < y) ys → AllByRecursion (λ w. x < digit i w) (flat_map part ys)
    later [] l = tt
    later (y ∷ ys) l = all_append (λ w. x < digit i w) (part y) (flat_map part ys) (all_weaken (λ u. digit i u ≡ y) (λ w. x < digit i w) (λ u e. omega (arith, e, l.0)) (part y) (h y)) (later ys l.1)

-- ---- the parts of a function

-- of a sort from `low` to `high`, in this function
record IsPart (low high func : ℕ) (u : Unknown) : Type 0 where
  from : low ≤ digit 0 u
  to : digit 0 u ≤ high
  own : digit 1 u ≡ func

module _ (types : List DataType) (func : ℕ) where
  -- the builds of lets

  made_all : (P : Unknown → Type 0) (block place : ℕ) → ((c : ℕ) → P (Made func block place c)) → (op : Op)
      → AllByRecursion P (made_unknowns types func block place op)
  made_all P block place h (Lit z) = tt
  made_all P block place h (Flag b) = tt
  made_all P block place h (Copy x) = tt
  made_all P block place h (Prim op x y) = tt
  made_all P block place h (Call callee args) = tt
  made_all P block place h (Make con args at) = by_heap (is_heap_con types con)
    where
      by_heap : (b : Bool) → AllByRecursion P (cond b (map (Made func block place) (carriers types (option_map kind.Of (type_of types con)))) [])
      by_heap true = all_each P (Made func block place) h (carriers types (option_map kind.Of (type_of types con)))
      by_heap false = tt

  made_distinct : (block place : ℕ) (op : Op) → NoRepeats (made_unknowns types func block place op)
  made_distinct block place (Lit z) = tt
  made_distinct block place (Flag b) = tt
  made_distinct block place (Copy x) = tt
  made_distinct block place (Prim op x y) = tt
  made_distinct block place (Call callee args) = tt
  made_distinct block place (Make con args at) = by_heap (is_heap_con types con)
    where
      by_heap : (b : Bool) → NoRepeats (cond b (map (Made func block place) (carriers types (option_map kind.Of (type_of types con)))) [])
      by_heap true = each_distinct (Made func block place) 4 (λ c. refl) (carriers types (option_map kind.Of (type_of types con))) (carriers_ascend types (option_map kind.Of (type_of types con)))
      by_heap false = tt

  lets_all : (P : Unknown → Type 0) (block : ℕ) → ((place c : ℕ) → P (Made func block place c)) → (place : ℕ) (ls : List Let)
      → AllByRecursion P (lets_unknowns types func block place ls)
  lets_all P block h place [] = tt
  lets_all P block h place (l ∷ ls) =
      all_append P (made_unknowns types func block place l.op) (lets_unknowns types func block (suc place) ls) (made_all P block place (h place) l.op) (lets_all P block h (suc place) ls)

  -- places from this one on
  lets_from : (block place : ℕ) (ls : List Let) → AllByRecursion (λ u. place ≤ digit 3 u) (lets_unknowns types func block place ls)
  lets_from block place [] = tt
  lets_from block place (l ∷ ls) =
      all_append (λ u. place ≤ digit 3 u) (made_unknowns types func block place l.op) (lets_unknowns types func block (suc place) ls)
      (made_all (λ u. place ≤ digit 3 u) block place (λ c. omega arith) l.op)
      (all_weaken (λ u. suc place ≤ digit 3 u) (λ u. place ≤ digit 3 u) (λ u k. omega (arith, k)) (lets_unknowns types func block (suc place) ls) (lets_from block (suc place) ls))

  lets_distinct : (block place : ℕ) (ls : List Let) → NoRepeats (lets_unknowns types func block place ls)
  lets_distinct block place [] = tt
  lets_distinct block place (l ∷ ls) =
      joined 3 place (made_unknowns types func block place l.op) (lets_unknowns types func block (suc place) ls) (made_distinct block place l.op) (lets_distinct block (suc place) ls)
      (made_all (λ u. digit 3 u ≤ place) block place (λ c. omega arith) l.op)
      (all_weaken (λ u. suc place ≤ digit 3 u) (λ u. place < digit 3 u) (λ u k. omega (arith, k)) (lets_unknowns types func block (suc place) ls) (lets_from block (suc place) ls))

  builds_all : (P : Unknown → Type 0) → ((block place c : ℕ) → P (Made func block place c)) → (block : ℕ) (bs : List Block)
      → AllByRecursion P (builds_unknowns types func block bs)
  builds_all P h block [] = tt
  builds_all P h block (b ∷ bs) =
      all_append P (lets_unknowns types func block 1 b.lets) (builds_unknowns types func (suc block) bs) (lets_all P block (h block) 1 b.lets) (builds_all P h (suc block) bs)

  -- blocks from this one on
  builds_from : (block : ℕ) (bs : List Block) → AllByRecursion (λ u. block ≤ digit 2 u) (builds_unknowns types func block bs)
  builds_from block [] = tt
  builds_from block (b ∷ bs) =
      all_append (λ u. block ≤ digit 2 u) (lets_unknowns types func block 1 b.lets) (builds_unknowns types func (suc block) bs)
      (lets_all (λ u. block ≤ digit 2 u) block (λ place c. omega arith) 1 b.lets)
      (all_weaken (λ u. suc block ≤ digit 2 u) (λ u. block ≤ digit 2 u) (λ u k. omega (arith, k)) (builds_unknowns types func (suc block) bs) (builds_from (suc block) bs))

  builds_distinct : (block : ℕ) (bs : List Block) → NoRepeats (builds_unknowns types func block bs)
  builds_distinct block [] = tt
  builds_distinct block (b ∷ bs) =
      joined 2 block (lets_unknowns types func block 1 b.lets) (builds_unknowns types func (suc block) bs) (lets_distinct block 1 b.lets) (builds_distinct (suc block) bs)
      (lets_all (λ u. digit 2 u ≤ block) block (λ place c. omega arith) 1 b.lets)
      (all_weaken (λ u. suc block ≤ digit 2 u) (λ u. block < digit 2 u) (λ u k. omega (arith, k)) (builds_unknowns types func (suc block) bs) (builds_from (suc block) bs))

  builds_part : (bs : List Block) → AllByRecursion (IsPart 6 6 func) (builds_unknowns types func 0 bs)
  builds_part bs = builds_all (IsPart 6 6 func) (λ block place c. record { from = omega arith; to = omega arith; own = refl }) 0 bs

  -- parameters and results

  params_distinct : (f : Func) (xs : List ℕ) → Ascend xs → NoRepeats (params_unknowns types f func xs)
  params_distinct f xs a = parts_distinct (λ x. map (Param func x) (local_carriers types f x)) 2 (λ x. all_each (λ u. digit 2 u ≡ x) (Param func x) (λ c. refl) (local_carriers types f x))
      (λ x. each_distinct (Param func x) 3 (λ c. refl) (local_carriers types f x) (local_ascends types f x)) xs a

  params_part : (f : Func) (xs : List ℕ) → AllByRecursion (IsPart 2 2 func) (params_unknowns types f func xs)
  params_part f xs = all_parts (IsPart 2 2 func) (λ x. map (Param func x) (local_carriers types f x))
      (λ x. all_each (IsPart 2 2 func) (Param func x) (λ c. record { from = omega arith; to = omega arith; own = refl }) (local_carriers types f x)) xs

  results_distinct : (f : Func) → NoRepeats (map (Result func) (carriers types (Some f.result)))
  results_distinct f = each_distinct (Result func) 2 (λ c. refl) (carriers types (Some f.result)) (carriers_ascend types (Some f.result))

  results_part : (f : Func) → AllByRecursion (IsPart 3 3 func) (map (Result func) (carriers types (Some f.result)))
  results_part f = all_each (IsPart 3 3 func) (Result func) (λ c. record { from = omega arith; to = omega arith; own = refl }) (carriers types (Some f.result))

  -- blocks

  vars_distinct : (f : Func) (block : ℕ) (xs : List ℕ) → Ascend xs → NoRepeats (vars_unknowns types f func block xs)
  vars_distinct f block xs a = parts_distinct (λ x. map (BlockVar func block x) (local_carriers types f x)) 3
      (λ x. all_each (λ u. digit 3 u ≡ x) (BlockVar func block x) (λ c. refl) (local_carriers types f x))
      (λ x. each_distinct (BlockVar func block x) 4 (λ c. refl) (local_carriers types f x) (local_ascends types f x)) xs a

  vars_all : (P : Unknown → Type 0) (f : Func) (block : ℕ) → ((x c : ℕ) → P (BlockVar func block x c)) → (xs : List ℕ)
      → AllByRecursion P (vars_unknowns types f func block xs)
  vars_all P f block h xs = all_parts P (λ x. map (BlockVar func block x) (local_carriers types f x)) (λ x. all_each P (BlockVar func block x) (h x) (local_carriers types f x)) xs

  block_distinct : (f : Func) (block : ℕ) → Ascend (params_at f.blocks block) → NoRepeats (block_unknowns types f func block)
  block_distinct f block a = (
    not_listed 0 4 (BlockNeed func block) (vars_unknowns types f func block (params_at f.blocks block)) (omega arith) (vars_all (λ w. 4 < digit 0 w) f block (λ x c. omega arith) (params_at f.blocks block)),
    vars_distinct f block (params_at f.blocks block) a,
  )

  blocks_distinct : (f : Func) → ((block : ℕ) → Ascend (params_at f.blocks block)) → NoRepeats (blocks_unknowns types f func)
  blocks_distinct f a = parts_distinct (block_unknowns types f func) 2 (λ block. (refl, vars_all (λ u. digit 2 u ≡ block) f block (λ x c. refl) (params_at f.blocks block))) (λ block. block_distinct f block (a block))
      (range_with_len 1 (length f.blocks - 1)) (range_ascends 1 (length f.blocks - 1))

  blocks_part : (f : Func) → AllByRecursion (IsPart 4 5 func) (blocks_unknowns types f func)
  blocks_part f = all_parts (IsPart 4 5 func) (block_unknowns types f func)
      (λ block. (record { from = omega arith; to = omega arith; own = refl }, vars_all (IsPart 4 5 func) f block (λ x c. record { from = omega arith; to = omega arith; own = refl }) (params_at f.blocks block)))
      (range_with_len 1 (length f.blocks - 1))

-- ---- functions

wider : (low high low' high' func : ℕ) → low' ≤ low → high ≤ high' → (us : List Unknown) → AllByRecursion (IsPart low high func) us
    → AllByRecursion (IsPart low' high' func) us
wider low high low' high' func l h us p =
    all_weaken (IsPart low high func) (IsPart low' high' func) (λ u q. record { from = omega (arith, l, q.from); to = omega (arith, h, q.to); own = q.own }) us p

-- parts of lower sorts, and then one of higher sorts
parts_join : (low high next last func : ℕ) → high < next → (us ws : List Unknown) → AllByRecursion (IsPart low high func) us
    → AllByRecursion (IsPart next last func) ws → NoRepeats us → NoRepeats ws → NoRepeats (us ++ ws)
parts_join low high next last func l us ws p q h k =
    joined 0 high us ws h k (all_weaken (IsPart low high func) (λ u. digit 0 u ≤ high) (λ u e. e.to) us p) (all_weaken (IsPart next last func) (λ w. high < digit 0 w) (λ w e. omega (arith, l, e.from)) ws q)

module _ (types : List DataType) (func : ℕ) (f : Func) where
  params : List Unknown
  params = params_unknowns types f func (range_with_len 0 (length f.params))

  results : List Unknown
  results = map (Result func) (carriers types (Some f.result))

  blocks : List Unknown
  blocks = blocks_unknowns types f func

  builds : List Unknown
  builds = builds_unknowns types func 0 f.blocks

  last_part : AllByRecursion (IsPart 4 6 func) (blocks ++ builds)
  unfolding blocks builds
  last_part = all_append (IsPart 4 6 func) blocks builds (wider 4 5 4 6 func (omega arith) (omega arith) blocks (blocks_part types func f)) (wider 6 6 4 6 func (omega arith) (omega arith) builds (builds_part types func f.blocks))

  middle_part : AllByRecursion (IsPart 3 6 func) (results ++ (blocks ++ builds))
  unfolding results
  middle_part = all_append (IsPart 3 6 func) results (blocks ++ builds) (wider 3 3 3 6 func (omega arith) (omega arith) results (results_part types func f)) (wider 4 6 3 6 func (omega arith) (omega arith) (blocks ++ builds) last_part)

  rest_part : AllByRecursion (IsPart 2 6 func) (params ++ (results ++ (blocks ++ builds)))
  unfolding params
  rest_part = all_append (IsPart 2 6 func) params (results ++ (blocks ++ builds)) (wider 2 2 2 6 func (omega arith) (omega arith) params (params_part types func f (range_with_len 0 (length f.params))))
      (wider 3 6 2 6 func (omega arith) (omega arith) (results ++ (blocks ++ builds)) middle_part)

  func_part : AllByRecursion (IsPart 0 6 func) (func_unknowns types func f)
  unfolding params results blocks builds
  func_part = (record { from = omega arith; to = omega arith; own = refl }, (record { from = omega arith; to = omega arith; own = refl }, wider 2 6 0 6 func (omega arith) (omega arith) (params ++ (results ++ (blocks ++ builds))) rest_part))

  rest_distinct : ((block : ℕ) → Ascend (params_at f.blocks block)) → NoRepeats (params ++ (results ++ (blocks ++ builds)))
  unfolding params results blocks builds
  rest_distinct a =
      parts_join 2 2 3 6 func (omega arith) params (results ++ (blocks ++ builds)) (params_part types func f (range_with_len 0 (length f.params))) middle_part
      (params_distinct types func f (range_with_len 0 (length f.params)) (range_ascends 0 (length f.params)))
      (parts_join 3 3 4 6 func (omega arith) results (blocks ++ builds) (results_part types func f) last_part (results_distinct types func f)
      (parts_join 4 5 6 6 func (omega arith) blocks builds (blocks_part types func f) (builds_part types func f.blocks) (blocks_distinct types func f a) (builds_distinct types func 0 f.blocks)))

  func_distinct : ((block : ℕ) → Ascend (params_at f.blocks block)) → NoRepeats (func_unknowns types func f)
  unfolding params results blocks builds
  func_distinct a = (
    not_listed 0 0 (Need func) (Back func ∷ (params ++ (results ++ (blocks ++ builds)))) (omega arith) (omega arith, all_weaken (IsPart 2 6 func) (λ w. 0 < digit 0 w) (λ w e. omega (arith, e.from)) (params ++ (results ++ (blocks ++ builds))) rest_part),
    (
      not_listed 0 1 (Back func) (params ++ (results ++ (blocks ++ builds))) (omega arith) (all_weaken (IsPart 2 6 func) (λ w. 1 < digit 0 w) (λ w e. omega (arith, e.from)) (params ++ (results ++ (blocks ++ builds))) rest_part),
      rest_distinct a,
    ),
  )

-- ---- the code

-- the parameters of each block ascend
params_ascend : (p : Code) (f : Func) (number : ℕ) (bs : List Block) → BlocksFit p f number bs → (block : ℕ) → Ascend (params_at bs block)
params_ascend p f number [] h block = tt
params_ascend p f number (b ∷ bs) h zero = h.0.ascending
params_ascend p f number (b ∷ bs) h (suc block) = params_ascend p f (suc number) bs h.1 block

-- functions from this one on
funcs_from : (types : List DataType) (func : ℕ) (fs : List Func) → AllByRecursion (λ u. func ≤ digit 1 u) (funcs_unknowns types func fs)
funcs_from types func [] = tt
funcs_from types func (f ∷ fs) =
    all_append (λ u. func ≤ digit 1 u) (func_unknowns types func f) (funcs_unknowns types (suc func) fs)
    (all_weaken (IsPart 0 6 func) (λ u. func ≤ digit 1 u) (λ u e. omega (arith, e.own)) (func_unknowns types func f) (func_part types func f))
    (all_weaken (λ u. suc func ≤ digit 1 u) (λ u. func ≤ digit 1 u) (λ u k. omega (arith, k)) (funcs_unknowns types (suc func) fs) (funcs_from types (suc func) fs))

funcs_distinct : (p : Code) (func : ℕ) (fs : List Func) → AllByRecursion (FuncFits p) fs → NoRepeats (funcs_unknowns p.types func fs)
funcs_distinct p func [] h = tt
funcs_distinct p func (f ∷ fs) h =
    joined 1 func (func_unknowns p.types func f) (funcs_unknowns p.types (suc func) fs) (func_distinct p.types func f (params_ascend p f 0 f.blocks h.0.blocks)) (funcs_distinct p (suc func) fs h.1)
    (all_weaken (IsPart 0 6 func) (λ u. digit 1 u ≤ func) (λ u e. omega (arith, e.own)) (func_unknowns p.types func f) (func_part p.types func f))
    (all_weaken (λ u. suc func ≤ digit 1 u) (λ u. func < digit 1 u) (λ u k. omega (arith, k)) (funcs_unknowns p.types (suc func) fs) (funcs_from p.types (suc func) fs))

-- No unknown of well-formed code stands twice.
pub unknowns_distinct : (p : Code) → IsWellFormed p → NoRepeats (unknowns_of p)
unfolding unknowns_of
unknowns_distinct p w = funcs_distinct p 0 p.funcs w.funcs
