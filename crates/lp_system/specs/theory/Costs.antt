-- Laws, for the proofs of this crate and of those above it.
-- What a point costs is what its book's functions cost.
use Rattle.std.proofs.Common.{◌≡◌, ℕ, suc, ◌+◌, ◌-◌, Bool, true, false, pos, ◌+ℤ◌, ◌*ℤ◌, List, [], ◌∷◌, ◌++◌, length, map, refl, sym, ap, ◌∙◌, arith}
use Rattle.std.specs.Prelude.{sum, flat_map, cond, slice_get, Some}
use Rattle.std.specs.List.{range_with_len}
use Rattle.std.specs.Option.{option_map}
use Rattle.std.proofs.lemmas.List.Sums.{sum_by-cons}
use Rattle.dual_simplex.specs.Feasible.{total, cost_at}
use Rattle.camelot_values.specs.Kinds.{DataType, type_of}
use Rattle.camelot_values.specs.declared.kinds.Kind.TheVariants as kind
use Rattle.grail_blocks.specs.Events.{params_at}
use Rattle.grail_code.specs.Code.{Op, Lit, Flag, Copy, Prim, Make, Call, Let, Block, Func, Code}
use Rattle.grail_code.specs.WellFormed.{kind_of, is_lent}
use Rattle.annotations.specs.Vectors.{is_heap_con}
use Rattle.licence.specs.Books.{Book}
use Rattle.licence.specs.Rules.{LentCarryNothing, LentAreFree}
use Rattle.lp_system.specs.Unknowns.{Unknown, Need, Back, Param, Result, BlockNeed, BlockVar, Made, carriers, local_carriers, params_unknowns, vars_unknowns, block_unknowns, blocks_unknowns, made_unknowns, lets_unknowns, builds_unknowns, func_unknowns, funcs_unknowns, unknowns_of}
use Rattle.lp_system.specs.Forms.{cost_of, system_of}
use Rattle.lp_system.specs.Found.{Assignment, amount, param_cost, func_cost, funcs_cost}
use Rattle.lp_system.specs.theory.Lent.{lent_none, owned_all}
use Rattle.lp_system.specs.theory.Ring.{zero_times, one_times}

-- what an unknown of this value costs
abbrev paid : Assignment → Unknown → ℕ
paid value (Need func) = value (Need func)
paid value (Param func x con) = value (Param func x con)
paid value (Back func) = 0
paid value (Result func con) = 0
paid value (BlockNeed func block) = 0
paid value (BlockVar func block x con) = 0
paid value (Made func block place con) = 0

abbrev paid_by : Assignment → List Unknown → ℕ
paid_by value [] = 0
paid_by value (u ∷ us) = paid value u + paid_by value us

cost_paid : (value : Assignment) (u : Unknown) → cost_of u *ℤ pos (value u) ≡ pos (paid value u)
cost_paid value (Need func) = one_times (pos (value (Need func)))
cost_paid value (Param func x con) = one_times (pos (value (Param func x con)))
cost_paid value (Back func) = zero_times (pos (value (Back func)))
cost_paid value (Result func con) = zero_times (pos (value (Result func con)))
cost_paid value (BlockNeed func block) = zero_times (pos (value (BlockNeed func block)))
cost_paid value (BlockVar func block x con) = zero_times (pos (value (BlockVar func block x con)))
cost_paid value (Made func block place con) = zero_times (pos (value (Made func block place con)))

total_paid : (value : Assignment) (us : List Unknown) → total (map cost_of us) (map value us) ≡ pos (paid_by value us)
total_paid value [] = refl
total_paid value (u ∷ us) =
    ap (λ x. x +ℤ total (map cost_of us) (map value us)) (cost_paid value u) ∙ ap (λ x. pos (paid value u) +ℤ x) (total_paid value us)

module _ (value : Assignment) where
  paid_append : (us ws : List Unknown) → paid_by value (us ++ ws) ≡ paid_by value us + paid_by value ws
  paid_append [] ws = omega arith
  paid_append (u ∷ us) ws = let e = paid_append us ws in omega arith

  -- ---- what costs nothing

  free_each : (make : ℕ → Unknown) (cons : List ℕ) → ((c : ℕ) → paid value (make c) ≡ 0) → paid_by value (map make cons) ≡ 0
  free_each make [] h = refl
  free_each make (c ∷ cons) h = let e = h c in let d = free_each make cons h in omega arith

  free_both : (us ws : List Unknown) → paid_by value us ≡ 0 → paid_by value ws ≡ 0 → paid_by value (us ++ ws) ≡ 0
  free_both us ws h k = let e = paid_append us ws in omega arith

  free_all : (part : ℕ → List Unknown) (xs : List ℕ) → ((x : ℕ) → paid_by value (part x) ≡ 0) → paid_by value (flat_map part xs) ≡ 0
  free_all part [] h = refl
  free_all part (x ∷ xs) h = free_both (part x) (flat_map part xs) (h x) (free_all part xs h)

  free_block : (types : List DataType) (f : Func) (func block : ℕ) → paid_by value (block_unknowns types f func block) ≡ 0
  free_block types f func block =
      let e : paid_by value (vars_unknowns types f func block (params_at f.blocks block)) ≡ 0 =
      free_all (λ x. map (BlockVar func block x) (local_carriers types f x)) (params_at f.blocks block) (λ x. free_each (BlockVar func block x) (local_carriers types f x) (λ c. refl)) in
      omega arith

  free_made : (types : List DataType) (func block place : ℕ) (op : Op) → paid_by value (made_unknowns types func block place op) ≡ 0
  free_made types func block place (Lit z) = refl
  free_made types func block place (Flag b) = refl
  free_made types func block place (Copy x) = refl
  free_made types func block place (Prim op x y) = refl
  free_made types func block place (Call callee args) = refl
  free_made types func block place (Make con args at) = by_heap (is_heap_con types con)
    where
      by_heap : (b : Bool) → paid_by value (cond b (map (Made func block place) (carriers types (option_map kind.Of (type_of types con)))) []) ≡ 0
      by_heap true = free_each (Made func block place) (carriers types (option_map kind.Of (type_of types con))) (λ c. refl)
      by_heap false = refl

  free_lets : (types : List DataType) (func block place : ℕ) (ls : List Let) → paid_by value (lets_unknowns types func block place ls) ≡ 0
  free_lets types func block place [] = refl
  free_lets types func block place (l ∷ ls) =
      free_both (made_unknowns types func block place l.op) (lets_unknowns types func block (suc place) ls) (free_made types func block place l.op) (free_lets types func block (suc place) ls)

  free_builds : (types : List DataType) (func block : ℕ) (bs : List Block) → paid_by value (builds_unknowns types func block bs) ≡ 0
  free_builds types func block [] = refl
  free_builds types func block (b ∷ bs) =
      free_both (lets_unknowns types func block 1 b.lets) (builds_unknowns types func (suc block) bs) (free_lets types func block 1 b.lets) (free_builds types func (suc block) bs)

-- ---- what costs something

sum_first : (x : ℕ) (xs : List ℕ) → sum (x ∷ xs) ≡ x + sum xs
sum_first x xs = sum_by-cons (λ y. y) x xs

module _ (book : Book ℕ) where
  paid_param : (func x : ℕ) (cons : List ℕ) → paid_by (amount book) (map (Param func x) cons) ≡ sum (map (book.param func x) cons)
  paid_param func x [] = refl
  paid_param func x (c ∷ cons) = ap (λ n. book.param func x c + n) (paid_param func x cons) ∙ sym (sum_first (book.param func x c) (map (book.param func x) cons))

  -- what carries nothing costs nothing
  nothing_sums : (func x : ℕ) (cons : List ℕ) → ((con : ℕ) → book.param func x con ≡ 0) → 0 ≡ sum (map (book.param func x) cons)
  nothing_sums func x [] none = refl
  nothing_sums func x (c ∷ cons) none =
      let first = none c in
      let rest = nothing_sums func x cons none in
      let both = sum_first (book.param func x c) (map (book.param func x) cons) in
      omega (arith, first, rest, both)

  -- the unknowns of a parameter that isn't lent; one that is has none, and carries nothing
  paid_local : (types : List DataType) (f : Func) (func x : ℕ) → LentCarryNothing types f (book.param func)
      → paid_by (amount book) (map (Param func x) (local_carriers types f x)) ≡ param_cost types f book func x
  paid_local types f func x quiet = by_lent (is_lent types f x) refl
    where
      by_lent : (b : Bool) → is_lent types f x ≡ b → paid_by (amount book) (map (Param func x) (local_carriers types f x)) ≡ param_cost types f book func x
      by_lent true e = ap (λ cs. paid_by (amount book) (map (Param func x) cs)) (lent_none types f x e) ∙ nothing_sums func x (carriers types (kind_of f x)) (quiet x e)
      by_lent false e = ap (λ cs. paid_by (amount book) (map (Param func x) cs)) (owned_all types f x e) ∙ paid_param func x (carriers types (kind_of f x))

  paid_params : (types : List DataType) (f : Func) (func : ℕ) (xs : List ℕ) → LentCarryNothing types f (book.param func)
      → paid_by (amount book) (params_unknowns types f func xs) ≡ sum (map (param_cost types f book func) xs)
  paid_params types f func [] quiet = refl
  paid_params types f func (x ∷ xs) quiet =
      paid_append (amount book) (map (Param func x) (local_carriers types f x)) (params_unknowns types f func xs)
      ∙ (λ i. paid_local types f func x quiet i + paid_params types f func xs quiet i)
      ∙ sym (sum_first (param_cost types f book func x) (map (param_cost types f book func) xs))

  paid_func : (types : List DataType) (func : ℕ) (f : Func) → LentCarryNothing types f (book.param func) → paid_by (amount book) (func_unknowns types func f) ≡ func_cost types book func f
  paid_func types func f quiet =
      let e = paid_append (amount book) params (results ++ (blocks ++ builds)) in
      let d = paid_params types f func (range_with_len 0 (length f.params)) quiet in
      let r = free_each (amount book) (Result func) (carriers types (Some f.result)) (λ c. refl) in
      let b = free_all (amount book) (block_unknowns types f func) (range_with_len 1 (length f.blocks - 1)) (free_block (amount book) types f func) in
      let m = free_builds (amount book) types func 0 f.blocks in
      let z = free_both (amount book) results (blocks ++ builds) r (free_both (amount book) blocks builds b m) in
      add (book.need func) (paid_by (amount book) (params ++ (results ++ (blocks ++ builds)))) (paid_by (amount book) params) (paid_by (amount book) (results ++ (blocks ++ builds)))
      (sum (map (param_cost types f book func) (range_with_len 0 (length f.params)))) e d z
    where
      params : List Unknown
      params = params_unknowns types f func (range_with_len 0 (length f.params))

      results : List Unknown
      results = map (Result func) (carriers types (Some f.result))

      blocks : List Unknown
      blocks = blocks_unknowns types f func

      builds : List Unknown
      builds = builds_unknowns types func 0 f.blocks

      add : (need all first later cost : ℕ) → all ≡ first + later → first ≡ cost → later ≡ 0 → need + (0 + all) ≡ need + cost
      add need all first later cost e d z = omega arith

  paid_funcs : (p : Code) (func : ℕ) (fs : List Func) → LentAreFree p book → ((i : ℕ) → slice_get p.funcs (func + i) ≡ slice_get fs i)
      → paid_by (amount book) (funcs_unknowns p.types func fs) ≡ funcs_cost p.types book func fs
  paid_funcs p func [] lent at = refl
  paid_funcs p func (f ∷ fs) lent at =
      let here : slice_get p.funcs func ≡ Some f = (let z : func ≡ func + 0 = omega arith in ap (slice_get p.funcs) z ∙ at 0) in
      let later : (i : ℕ) → slice_get p.funcs (suc func + i) ≡ slice_get fs i = λ i. (let z : suc func + i ≡ func + suc i = omega arith in ap (slice_get p.funcs) z ∙ at (suc i)) in
      paid_append (amount book) (func_unknowns p.types func f) (funcs_unknowns p.types (suc func) fs)
      ∙ (λ i. paid_func p.types func f (lent func 0 f here) i + paid_funcs p (suc func) fs lent later i)

-- What a book costs, as a point of the system, where what is lent carries nothing.
pub costs_of : (p : Code) (book : Book ℕ) → LentAreFree p book → cost_at (system_of p) (map (amount book) (unknowns_of p)) ≡ pos (funcs_cost p.types book 0 p.funcs)
unfolding system_of unknowns_of
costs_of p book lent = total_paid (amount book) (funcs_unknowns p.types 0 p.funcs)
    ∙ ap pos (paid_funcs book p 0 p.funcs lent (λ i. let z : 0 + i ≡ i = omega arith in ap (slice_get p.funcs) z))
