-- The unknowns are counted.
use Rattle.std.proofs.Common.{◌≡◌, ℕ, suc, ◌+◌, ◌-◌, Bool, true, false, List, [], ◌∷◌, ◌++◌, length, map, Some, refl, ap, ◌∙◌, subst, arith, length-append}
use Rattle.std.specs.Prelude.{if◌then◌else◌, cond, flat_map, slice_get}
use Rattle.std.specs.List.{range_with_len}
use Rattle.std.specs.Option.{option_map, option_map_or}
use Rattle.std.proofs.lemmas.List.{length-map}
use Rattle.camelot_values.specs.Kinds.{DataType, type_of}
use Rattle.camelot_values.specs.declared.kinds.Kind.{Kind}
use Rattle.camelot_values.specs.declared.kinds.Kind.TheVariants as kind
use Rattle.grail_blocks.specs.Events.{params_at}
use Rattle.grail_code.specs.Code.{Op, Lit, Flag, Copy, Prim, Make, Call, Let, Block, Func, Code}
use Rattle.annotations.specs.Vectors.{is_heap_con}
use Rattle.lp_system.specs.Unknowns.{Param, Result, BlockVar, Made, carriers, local_carriers, params_unknowns, vars_unknowns, block_unknowns, blocks_unknowns, made_unknowns, lets_unknowns, builds_unknowns, func_unknowns, funcs_unknowns, unknowns_of}
use Rattle.lp_size.specs.Counting.{more, params_onto, locals_onto, made_count, builds_onto, begin_count, block_count, blocks_count_onto, func_count, funcs_count_onto}
use Rattle.lp_size.proofs.Caps.{cap, more_left, more_right, more_both, none}
use Rattle.lp_size.proofs.Tests.{not_first}

-- a part in front of others
part_onto : {A : Type 0} (total : ℕ) (part rest : List A) (n : ℕ) → length part ≡ n → total + n + length rest ≡ total + length (part ++ rest)
part_onto total part rest n e = let a = length-append part rest in omega (arith, a, e)

nothing_on : (total : ℕ) → cap total ≡ cap (total + 0)
nothing_on total = let z : total ≡ total + 0 = omega arith in ap cap z

module _ (types : List DataType) where
  locals_counted : (f : Func) (func block total : ℕ) (xs : List ℕ)
      → locals_onto types f (cap total) xs ≡ cap (total + length (vars_unknowns types f func block xs))
  locals_counted f func block total [] = nothing_on total
  locals_counted f func block total (x ∷ xs) =
      ap (λ n. locals_onto types f n xs) (more_left total (length (local_carriers types f x)))
      ∙ locals_counted f func block (total + length (local_carriers types f x)) xs
      ∙ ap cap (part_onto total (map (BlockVar func block x) (local_carriers types f x)) (vars_unknowns types f func block xs) (length (local_carriers types f x)) (length-map (local_carriers types f x) (BlockVar func block x)))

  params_counted : (f : Func) (func number total : ℕ) (qs : List Kind)
      → params_onto types f number (cap total) qs ≡ cap (total + length (params_unknowns types f func (range_with_len number (length qs))))
  params_counted f func number total [] = nothing_on total
  params_counted f func number total (q ∷ qs) =
      let next : suc number ≡ number + 1 = omega arith in
      ap (λ m. params_onto types f (suc number) m qs) (more_left total (length (local_carriers types f number)))
      ∙ params_counted f func (suc number) (total + length (local_carriers types f number)) qs
      ∙ ap (λ n. cap (total + length (local_carriers types f number) + length (params_unknowns types f func (range_with_len n (length qs))))) next
      ∙ ap cap (part_onto total (map (Param func number) (local_carriers types f number)) (params_unknowns types f func (range_with_len (number + 1) (length qs))) (length (local_carriers types f number))
      (length-map (local_carriers types f number) (Param func number)))

  made_counted : (func block at : ℕ) (op : Op) → length (made_unknowns types func block at op) ≡ made_count types op
  made_counted func block at (Make con args into) = by_heap (is_heap_con types con)
    where
      by_heap : (t : Bool) → length (cond t (map (Made func block at) (carriers types (option_map kind.Of (type_of types con)))) []) ≡ cond t (length (carriers types (option_map kind.Of (type_of types con)))) 0
      by_heap true = length-map (carriers types (option_map kind.Of (type_of types con))) (Made func block at)
      by_heap false = refl
  made_counted func block at (Lit z) = refl
  made_counted func block at (Flag b) = refl
  made_counted func block at (Copy x) = refl
  made_counted func block at (Prim o x y) = refl
  made_counted func block at (Call callee args) = refl

  builds_counted : (func block at total : ℕ) (ls : List Let) → builds_onto types (cap total) ls ≡ cap (total + length (lets_unknowns types func block at ls))
  builds_counted func block at total [] = nothing_on total
  builds_counted func block at total (x ∷ ls) =
      ap (λ n. builds_onto types n ls) (more_left total (made_count types x.op))
      ∙ builds_counted func block (suc at) (total + made_count types x.op) ls
      ∙ ap cap (part_onto total (made_unknowns types func block at x.op) (lets_unknowns types func block (suc at) ls) (made_count types x.op) (made_counted func block at x.op))

  all_builds : (func block : ℕ) (b : Block) → builds_onto types 0 b.lets ≡ cap (length (lets_unknowns types func block 1 b.lets))
  all_builds func block b = ap (λ n. builds_onto types n b.lets) none ∙ builds_counted func block 1 0 b.lets ∙ ap cap zero_on
    where
      zero_on : 0 + length (lets_unknowns types func block 1 b.lets) ≡ length (lets_unknowns types func block 1 b.lets)
      zero_on = omega arith

  -- a block after the first
  begin_counted : (f : Func) (func n : ℕ) (b : Block) → slice_get f.blocks (suc n) ≡ Some b
      → begin_count types f (suc n) b ≡ cap (length (block_unknowns types f func (suc n)))
  begin_counted f func n b e =
      ap (λ t. if t then 0 else more (locals_onto types f 0 b.params) 1) (not_first n)
      ∙ ap (λ m. more (locals_onto types f m b.params) 1) none
      ∙ ap (λ m. more m 1) (locals_counted f func (suc n) 0 b.params)
      ∙ more_left (0 + length (vars_unknowns types f func (suc n) b.params)) 1
      ∙ ap cap whole
    where
      params : params_at f.blocks (suc n) ≡ b.params
      params = ap (λ o. option_map_or (λ c. c.params) o []) e

      whole : 0 + length (vars_unknowns types f func (suc n) b.params) + 1 ≡ suc (length (vars_unknowns types f func (suc n) (params_at f.blocks (suc n))))
      whole = let q : length (vars_unknowns types f func (suc n) (params_at f.blocks (suc n))) ≡ length (vars_unknowns types f func (suc n) b.params) = ap (λ xs. length (vars_unknowns types f func (suc n) xs)) params in omega (arith, q)

  later_counted : (f : Func) (func n total : ℕ) (bs : List Block) → ((j : ℕ) → slice_get f.blocks (suc n + j) ≡ slice_get bs j)
      → blocks_count_onto types f (suc n) (cap total) bs ≡ cap (total + length (flat_map (block_unknowns types f func) (range_with_len (suc n) (length bs))) + length (builds_unknowns types func (suc n) bs))
  later_counted f func n total [] at = let z : total ≡ total + 0 + 0 = omega arith in ap cap z
  later_counted f func n total (b ∷ bs) at =
      let here : slice_get f.blocks (suc n) ≡ Some b = (let z : suc n ≡ suc n + 0 = omega arith in ap (slice_get f.blocks) z ∙ at 0) in
      let one : block_count types f (suc n) b ≡ cap (begins + lets) =
      ap (λ m. more m (builds_onto types 0 b.lets)) (begin_counted f func n b here) ∙ ap (more (cap begins)) (all_builds func (suc n) b) ∙ more_both begins lets in
      ap (λ m. blocks_count_onto types f (suc (suc n)) (more (cap total) m) bs) one
      ∙ ap (λ m. blocks_count_onto types f (suc (suc n)) m bs) (more_both total (begins + lets))
      ∙ later_counted f func (suc n) (total + (begins + lets)) bs (λ j. (let z : suc (suc n) + j ≡ suc n + suc j = omega arith in ap (slice_get f.blocks) z ∙ at (suc j)))
      ∙ subst (λ m. cap (total + (begins + lets) + length (flat_map (block_unknowns types f func) (range_with_len m (length bs))) + length (builds_unknowns types func (suc (suc n)) bs))
      ≡ cap (total + length (block_unknowns types f func (suc n) ++ flat_map (block_unknowns types f func) (range_with_len (suc n + 1) (length bs))) + length (lets_unknowns types func (suc n) 1 b.lets ++ builds_unknowns types func (suc (suc n)) bs)))
      next (ap cap sums)
    where
      begins : ℕ
      begins = length (block_unknowns types f func (suc n))

      lets : ℕ
      lets = length (lets_unknowns types func (suc n) 1 b.lets)

      next : suc n + 1 ≡ suc (suc n)
      next = omega arith

      sums : total + (begins + lets) + length (flat_map (block_unknowns types f func) (range_with_len (suc n + 1) (length bs))) + length (builds_unknowns types func (suc (suc n)) bs)
          ≡ total + length (block_unknowns types f func (suc n) ++ flat_map (block_unknowns types f func) (range_with_len (suc n + 1) (length bs))) + length (lets_unknowns types func (suc n) 1 b.lets ++ builds_unknowns types func (suc (suc n)) bs)
      sums =
          let a = length-append (block_unknowns types f func (suc n)) (flat_map (block_unknowns types f func) (range_with_len (suc n + 1) (length bs))) in
          let c = length-append (lets_unknowns types func (suc n) 1 b.lets) (builds_unknowns types func (suc (suc n)) bs) in
          omega (arith, a, c)

  blocks_counted : (f : Func) (func : ℕ) (bs : List Block) → f.blocks ≡ bs
      → blocks_count_onto types f 0 0 bs ≡ cap (length (flat_map (block_unknowns types f func) (range_with_len 1 (length bs - 1))) + length (builds_unknowns types func 0 bs))
  blocks_counted f func [] e = none
  blocks_counted f func (b ∷ bs) e =
      ap (λ m. blocks_count_onto types f 1 m bs) (first ∙ ap cap zero_on)
      ∙ later_counted f func 0 (length (lets_unknowns types func 0 1 b.lets)) bs (λ j. (let z : 1 + j ≡ suc j = omega arith in ap (slice_get f.blocks) z ∙ ap (λ xs. slice_get xs (suc j)) e))
      ∙ ap cap sums
    where
      first : more 0 (more 0 (builds_onto types 0 b.lets)) ≡ cap (0 + (0 + length (lets_unknowns types func 0 1 b.lets)))
      first = ap (λ m. more 0 (more 0 m)) (all_builds func 0 b) ∙ ap (more 0) (more_right 0 (length (lets_unknowns types func 0 1 b.lets))) ∙ more_right 0 (0 + length (lets_unknowns types func 0 1 b.lets))

      zero_on : 0 + (0 + length (lets_unknowns types func 0 1 b.lets)) ≡ length (lets_unknowns types func 0 1 b.lets)
      zero_on = omega arith

      sums : length (lets_unknowns types func 0 1 b.lets) + length (flat_map (block_unknowns types f func) (range_with_len 1 (length bs))) + length (builds_unknowns types func 1 bs)
          ≡ length (flat_map (block_unknowns types f func) (range_with_len 1 (length (b ∷ bs) - 1))) + length (lets_unknowns types func 0 1 b.lets ++ builds_unknowns types func 1 bs)
      sums =
          let less : length (b ∷ bs) - 1 ≡ length bs = omega arith in
          let q : length (flat_map (block_unknowns types f func) (range_with_len 1 (length (b ∷ bs) - 1))) ≡ length (flat_map (block_unknowns types f func) (range_with_len 1 (length bs))) = ap (λ n. length (flat_map (block_unknowns types f func) (range_with_len 1 n))) less in
          let a = length-append (lets_unknowns types func 0 1 b.lets) (builds_unknowns types func 1 bs) in
          omega (arith, q, a)

  func_counted : (func : ℕ) (f : Func) → func_count types f ≡ cap (length (func_unknowns types func f))
  func_counted func f =
      ap (λ m. more (more m (more result (blocks_count_onto types f 0 0 f.blocks))) 2) params_are
      ∙ ap (λ m. more (more (cap params) (more result m)) 2) (blocks_counted f func f.blocks refl)
      ∙ ap (λ m. more (more (cap params) m) 2) (more_right result (blocks + builds))
      ∙ ap (λ m. more m 2) (more_both params (result + (blocks + builds)))
      ∙ more_left (params + (result + (blocks + builds))) 2
      ∙ ap cap sums
    where
      params : ℕ
      params = length (params_unknowns types f func (range_with_len 0 (length f.params)))

      result : ℕ
      result = length (carriers types (Some f.result))

      blocks : ℕ
      blocks = length (blocks_unknowns types f func)

      builds : ℕ
      builds = length (builds_unknowns types func 0 f.blocks)

      params_are : params_onto types f 0 0 f.params ≡ cap params
      params_are =
          ap (λ m. params_onto types f 0 m f.params) none
          ∙ params_counted f func 0 0 f.params
          ∙ ap cap (let z : 0 + length (params_unknowns types f func (range_with_len 0 (length f.params))) ≡ length (params_unknowns types f func (range_with_len 0 (length f.params))) = omega arith in z)

      sums : params + (result + (blocks + builds)) + 2 ≡ length (func_unknowns types func f)
      sums =
          let r = length-map (carriers types (Some f.result)) (Result func) in
          let a = length-append (params_unknowns types f func (range_with_len 0 (length f.params))) (map (Result func) (carriers types (Some f.result)) ++ (blocks_unknowns types f func ++ builds_unknowns types func 0 f.blocks)) in
          let b = length-append (map (Result func) (carriers types (Some f.result))) (blocks_unknowns types f func ++ builds_unknowns types func 0 f.blocks) in
          let c = length-append (blocks_unknowns types f func) (builds_unknowns types func 0 f.blocks) in
          omega (arith, r, a, b, c)

  funcs_counted : (func total : ℕ) (fs : List Func) → funcs_count_onto types (cap total) fs ≡ cap (total + length (funcs_unknowns types func fs))
  funcs_counted func total [] = nothing_on total
  funcs_counted func total (f ∷ fs) =
      ap (λ n. funcs_count_onto types (more (cap total) n) fs) (func_counted func f)
      ∙ ap (λ n. funcs_count_onto types n fs) (more_both total (length (func_unknowns types func f)))
      ∙ funcs_counted (suc func) (total + length (func_unknowns types func f)) fs
      ∙ ap cap (part_onto total (func_unknowns types func f) (funcs_unknowns types (suc func) fs) (length (func_unknowns types func f)) refl)

-- The count is the number of unknowns, up to the most that 64 bits hold.
pub unknowns_counted : (p : Code) → funcs_count_onto p.types 0 p.funcs ≡ cap (length (unknowns_of p))
unfolding unknowns_of
unknowns_counted p = ap (λ n. funcs_count_onto p.types n p.funcs) none ∙ funcs_counted p.types 0 0 p.funcs ∙ ap cap zero_on
  where
    zero_on : 0 + length (funcs_unknowns p.types 0 p.funcs) ≡ length (funcs_unknowns p.types 0 p.funcs)
    zero_on = omega arith
