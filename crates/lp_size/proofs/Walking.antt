-- The rows of blocks and of functions are counted.
use Rattle.std.proofs.Common.{◌≡◌, ℕ, zero, suc, ◌+◌, ◌<◌, Bool, true, false, List, [], ◌∷◌, ◌++◌, length, replicate, Some, refl, sym, ap, ◌∙◌, subst, arith, length-append}
use Rattle.std.specs.Prelude.{if◌then◌else◌, cond, slice_get}
use Rattle.std.specs.List.{AllByRecursion}
use Rattle.std.proofs.lemmas.Option.{slice_get_within}
use Rattle.camelot_values.specs.declared.kinds.Kind.{Kind}
use Rattle.grail_blocks.specs.declared.blocks.Place.{Place}
use Rattle.grail_code.specs.Code.{Op, Lit, Flag, Copy, Prim, Make, Call, Let, Term, Block, Func, Code}
use Rattle.grail_code.specs.WellFormed.{kind_of, HaveKinds, Gives, LetFits, LetLends, TermFits, TermLends, BlocksFit, FuncFits, IsWellFormed}
use Rattle.grail_code.specs.Limits.{FuncIsWithin, IsWithinLimits}
use Rattle.annotations.specs.Vectors.{is_heap_con}
use Rattle.licence.specs.Rules.{Account, account_at, build_cost, carrying, after_op}
use Rattle.licence.specs.Checks.{Check, op_checks, term_checks, lets_checks, blocks_checks, funcs_checks}
use Rattle.lp_system.specs.Unknowns.{Unknown, BlockNeed, unknowns_of}
use Rattle.lp_system.specs.Forms.{Form, forms, once, unknown_book, rows_of}
use Rattle.lp_system.specs.theory.Listing.{stands_listed}
use Rattle.lp_size.specs.declared.origins.Slot.{Slot}
use Rattle.lp_size.specs.declared.taken.Taken.{Taken}
use Rattle.lp_size.specs.declared.taken.Taken.TheVariants as taken
use Rattle.lp_size.specs.Counting.{more, taken_first, taken_behind, slots_behind, lets_onto, block_rows, block_behind, blocks_onto, unbound, func_rows, funcs_onto}
use Rattle.lp_size.proofs.Caps.{cap, more_both, none}
use Rattle.lp_size.proofs.Asking.{kept, once_itself, once_other}
use Rattle.lp_size.proofs.Left.{IsLeft, ByNeed, IsTaken, left_call, taken_call, left_build, taken_build}
use Rattle.lp_size.proofs.Reach.{itself_carries}
use Rattle.lp_size.proofs.Slots.{AreBy, AreCarried, carried_op, first_carried, begun_by, begun_room, past_lets, later_by, AreQuiet, first_quiet, quiet_op}
use Rattle.lp_size.proofs.Steps.{held, counted, back_listed, made_listed, op_kept}
use Rattle.lp_size.proofs.Ending.{term_kept}
use Rattle.lp_size.proofs.Tests.{not_first}

-- a function has at most 256 locals
local_few : (f : Func) (x : ℕ) (q : Kind) → FuncIsWithin f → kind_of f x ≡ Some q → x < 256
local_few f x q within e =
    let there = slice_get_within (f.params ++ f.locals) x q e in
    let n = length-append f.params f.locals in
    omega (arith, there, n, within.few_params, within.few_locals)

left_later : (func block at : ℕ) (left : Form) → IsLeft func block at left → IsLeft func block (suc at) left
left_later func block at left l = record { made = λ n c k. l.made n c (omega (arith, k)); need = l.need; back = l.back }

-- what is left behind a let, and what was taken
abbrev IsBehind : List Unknown → (func block at : ℕ) → Taken → Form → Type 0
IsBehind us func block at t left = IsLeft func block (suc at) left × IsTaken us func t left

module _ (p : Code) (func : ℕ) (f : Func) (there : slice_get p.funcs func ≡ Some f) (within : FuncIsWithin f) (well : AllByRecursion (FuncFits p) p.funcs) where
  module _ (block : ℕ) (b : Block) (block_is : slice_get f.blocks block ≡ Some b) where
    left_behind : (i : ℕ) (slots : List Slot) (t : Taken) (account : Account Form) → AreCarried func block slots account.carried
        → IsTaken (unknowns_of p) func t account.left → IsLeft func block (suc i) account.left
        → (x : Let) (q : Kind) → slice_get b.lets i ≡ Some x → Gives p f x.op q
        → IsBehind (unknowns_of p) func block (suc i) (taken_behind p.types func t x.op) (after_op forms p.types unknown_book func block (suc i) account x.target x.op).left
    left_behind i slots t account h k l x q e fits = by_op x.op refl fits
      where
        same : IsBehind (unknowns_of p) func block (suc i) t account.left
        same = (left_later func block (suc i) account.left l, k)

        by_heap : (con : ℕ) (args : List ℕ) (into : Place) → x.op ≡ Make con args into → (o : Bool) → is_heap_con p.types con ≡ o
            → IsBehind (unknowns_of p) func block (suc i) (cond o taken.More t)
            (cond o (record { left = forms.minus account.left (build_cost forms unknown_book.unit into (unknown_book.make func block (suc i) con)); carried = carrying account.carried x.target (unknown_book.make func block (suc i)) }) account).left
        by_heap con args into is true d = (
          left_build func block (suc i) con into account.left l,
          taken_build (unknowns_of p) func block (suc i) con into account.left (made_listed p func f there block (suc i) slots t account h k b i block_is refl l con args into x e is d con (itself_carries p.types con d)) l,
        )
        by_heap con args into is false d = same

        by_op : (op : Op) → x.op ≡ op → Gives p f op q
            → IsBehind (unknowns_of p) func block (suc i) (taken_behind p.types func t op) (after_op forms p.types unknown_book func block (suc i) account x.target op).left
        by_op (Make con args into) is g = by_heap con args into is (is_heap_con p.types con) refl
        by_op (Call callee args) is g =
            let c = held (λ c. HaveKinds f args c.params × (q ≡ c.result)) (slice_get p.funcs callee) g in
            (left_call func block (suc i) callee account.left l, taken_call (unknowns_of p) func callee t account.left (back_listed p func f there block (suc i) slots t account h k callee c.0 c.1) k)
        by_op (Lit z) is g = same
        by_op (Flag z) is g = same
        by_op (Copy y) is g = same
        by_op (Prim o y z) is g = same

    lets_kept : (end : Term) → TermFits p f block end → TermLends p f end → (i : ℕ) (ls : List Let) → ((j : ℕ) → slice_get b.lets (i + j) ≡ slice_get ls j)
        → AllByRecursion (LetFits p f) ls → AllByRecursion (LetLends p f) ls
        → (slots : List Slot) (t : Taken) (account : Account Form) → AreCarried func block slots account.carried
        → IsTaken (unknowns_of p) func t account.left → IsLeft func block (suc i) account.left → AreQuiet p f func block slots → (total : ℕ)
        → lets_onto p f func block slots t (suc i) (cap total) ls end
        ≡ cap (total + kept (unknowns_of p) (lets_checks forms p f unknown_book (record { func = func; block = block; place = suc i }) account ls end))
    lets_kept end ends end_lends i [] at fits lends slots t account h k l quiet total =
        ap (more (cap total)) (term_kept p func f there block slots (suc i) t account h k l quiet well end ends end_lends)
        ∙ more_both total (kept (unknowns_of p) (term_checks forms p f unknown_book (record { func = func; block = block; place = suc i }) account end))
    lets_kept end ends end_lends i (x ∷ ls) at fits lends slots t account h k l quiet total =
        let g = held (Gives p f x.op) (kind_of f x.target) fits.0 in
        let here : slice_get b.lets i ≡ Some x = (let z : i ≡ i + 0 = omega arith in ap (slice_get b.lets) z ∙ at 0) in
        let behind = left_behind i slots t account h k l x g.0 here g.2 in
        let rest = lets_kept end ends end_lends (suc i) ls (λ j. (let z : suc i + j ≡ i + suc j = omega arith in ap (slice_get b.lets) z ∙ at (suc j))) fits.1 lends.1
        (slots_behind p.types func block slots (suc i) x) (taken_behind p.types func t x.op) (after_op forms p.types unknown_book func block (suc i) account x.target x.op)
        (carried_op p.types func block (suc i) slots account x.target x.op (local_few f x.target g.0 within g.1) h) behind.1 behind.0
        (quiet_op p f func block (suc i) slots x.target x.op lends.0.target quiet)
        (total + kept (unknowns_of p) (op_checks forms p f unknown_book (record { func = func; block = block; place = suc i }) account x.op)) in
        ap (λ n. lets_onto p f func block (slots_behind p.types func block slots (suc i) x) (taken_behind p.types func t x.op) (suc (suc i)) (more (cap total) n) ls end)
        (op_kept p func f there block (suc i) slots t account h k b i block_is refl l well x g.0 here g.2)
        ∙ ap (λ n. lets_onto p f func block (slots_behind p.types func block slots (suc i) x) (taken_behind p.types func t x.op) (suc (suc i)) n ls end)
        (more_both total (kept (unknowns_of p) (op_checks forms p f unknown_book (record { func = func; block = block; place = suc i }) account x.op)))
        ∙ rest
        ∙ ap cap (counted (unknowns_of p) total (kept (unknowns_of p) (op_checks forms p f unknown_book (record { func = func; block = block; place = suc i }) account x.op))
        (op_checks forms p f unknown_book (record { func = func; block = block; place = suc i }) account x.op)
        (lets_checks forms p f unknown_book (record { func = func; block = block; place = suc (suc i) }) (after_op forms p.types unknown_book func block (suc i) account x.target x.op) ls end) refl)

  -- ---- at the beginning of a block

  abbrev block_in : Unknown → ℕ
  block_in (BlockNeed g m) = m
  block_in u = 0

  first_left : (block : ℕ) → IsLeft func block 1 (account_at unknown_book func block).left
  first_left zero = record { made = λ n c k. refl; need = λ to k. refl; back = λ g. (0, refl) }
  first_left (suc n) = record { made = λ m c k. refl; need = λ to k. once_other (BlockNeed func (suc n)) (BlockNeed func to) (λ q. apart to k (ap block_in q)); back = λ g. (0, refl) }
    where
      apart : (to : ℕ) → suc n < to → suc n ≡ to → ⊥
      apart to k q = absurd (omega (arith, k, q))

  first_taken : (block : ℕ) → block < length f.blocks → IsTaken (unknowns_of p) func (taken_first block) (account_at unknown_book func block).left
  first_taken zero few = record { factor = λ v. refl; constant = refl }
  first_taken (suc n) few =
      subst (λ t. IsTaken (unknowns_of p) func (if t then taken.Nothing else taken.More) (once (BlockNeed func (suc n)))) (sym (not_first n))
      (ByNeed (suc n) (stands_listed p (BlockNeed func (suc n)) (f, there, (omega arith, few))) (once_itself (BlockNeed func (suc n))))

  -- ---- blocks

  blocks_kept : (number : ℕ) (bs : List Block) → ((j : ℕ) → slice_get f.blocks (number + j) ≡ slice_get bs j) → BlocksFit p f number bs
      → (slots : List Slot) → length slots ≡ 256 → AreBy number slots → (total : ℕ)
      → blocks_onto p f func slots number (cap total) bs ≡ cap (total + kept (unknowns_of p) (blocks_checks forms p f unknown_book func number bs))
  blocks_kept number [] at fits slots room past total = let z : total ≡ total + 0 = omega arith in ap cap z
  blocks_kept number (b ∷ bs) at fits slots room past total =
      let here : slice_get f.blocks number ≡ Some b = (let z : number ≡ number + 0 = omega arith in ap (slice_get f.blocks) z ∙ at 0) in
      let few : number < length f.blocks = slice_get_within f.blocks number b here in
      let part : List (Check Form) = lets_checks forms p f unknown_book (record { func = func; block = number; place = 1 }) (account_at unknown_book func number) b.lets b.term in
      let lets = lets_kept number b here b.term fits.0.term fits.0.term_lends 0 b.lets (λ j. (let z : 0 + j ≡ j = omega arith in ap (slice_get b.lets) z)) fits.0.lets fits.0.lets_lend slots (taken_first number) (account_at unknown_book func number)
      (first_carried func number slots room past) (first_taken number few) (first_left number) (first_quiet p func f there number slots past) 0 in
      let zero_on : 0 + kept (unknowns_of p) part ≡ kept (unknowns_of p) part = omega arith in
      let one : block_rows p f func number slots b ≡ cap (kept (unknowns_of p) part) = ap (λ n. lets_onto p f func number slots (taken_first number) 1 n b.lets b.term) none ∙ lets ∙ ap cap zero_on in
      let behind = past_lets p.types func number 1 slots b.lets (room, later_by number (suc number) slots (omega arith) past) in
      ap (λ n. blocks_onto p f func (block_behind p.types func number slots b) (suc number) (more (cap total) n) bs) one
      ∙ ap (λ n. blocks_onto p f func (block_behind p.types func number slots b) (suc number) n bs) (more_both total (kept (unknowns_of p) part))
      ∙ blocks_kept (suc number) bs (λ j. (let z : suc number + j ≡ number + suc j = omega arith in ap (slice_get f.blocks) z ∙ at (suc j))) fits.1 (block_behind p.types func number slots b) behind.0 behind.1 (total + kept (unknowns_of p) part)
      ∙ ap cap (counted (unknowns_of p) total (kept (unknowns_of p) part) part (blocks_checks forms p f unknown_book func (suc number) bs) refl)

  func_kept : BlocksFit p f 0 f.blocks → func_rows p func f ≡ cap (kept (unknowns_of p) (blocks_checks forms p f unknown_book func 0 f.blocks))
  func_kept fits =
      ap (λ n. blocks_onto p f func (replicate 256 (unbound func)) 0 n f.blocks) none
      ∙ blocks_kept 0 f.blocks (λ j. (let z : 0 + j ≡ j = omega arith in ap (slice_get f.blocks) z)) fits (replicate 256 (unbound func)) (begun_room func) (begun_by func) 0
      ∙ ap cap zero_on
    where
      zero_on : 0 + kept (unknowns_of p) (blocks_checks forms p f unknown_book func 0 f.blocks) ≡ kept (unknowns_of p) (blocks_checks forms p f unknown_book func 0 f.blocks)
      zero_on = omega arith

funcs_kept : (p : Code) → AllByRecursion (FuncFits p) p.funcs → (func : ℕ) (fs : List Func) → ((j : ℕ) → slice_get p.funcs (func + j) ≡ slice_get fs j) → AllByRecursion (FuncFits p) fs
    → AllByRecursion FuncIsWithin fs → (total : ℕ)
    → funcs_onto p func (cap total) fs ≡ cap (total + kept (unknowns_of p) (funcs_checks forms p unknown_book func fs))
funcs_kept p well func [] at fits within total = let z : total ≡ total + 0 = omega arith in ap cap z
funcs_kept p well func (f ∷ fs) at fits within total =
    let here : slice_get p.funcs func ≡ Some f = (let z : func ≡ func + 0 = omega arith in ap (slice_get p.funcs) z ∙ at 0) in
    let part : List (Check Form) = blocks_checks forms p f unknown_book func 0 f.blocks in
    ap (λ n. funcs_onto p (suc func) (more (cap total) n) fs) (func_kept p func f here within.0 well fits.0.blocks)
    ∙ ap (λ n. funcs_onto p (suc func) n fs) (more_both total (kept (unknowns_of p) part))
    ∙ funcs_kept p well (suc func) fs (λ j. (let z : suc func + j ≡ func + suc j = omega arith in ap (slice_get p.funcs) z ∙ at (suc j))) fits.1 within.1 (total + kept (unknowns_of p) part)
    ∙ ap cap (counted (unknowns_of p) total (kept (unknowns_of p) part) part (funcs_checks forms p unknown_book (suc func) fs) refl)

-- The count is the number of rows, up to the most that 64 bits hold.
pub rows_counted : (p : Code) → IsWellFormed p → IsWithinLimits p → funcs_onto p 0 0 p.funcs ≡ cap (length (rows_of p))
unfolding rows_of
rows_counted p w l =
    ap (λ n. funcs_onto p 0 n p.funcs) none
    ∙ funcs_kept p w.funcs 0 p.funcs (λ j. (let z : 0 + j ≡ j = omega arith in ap (slice_get p.funcs) z)) w.funcs l.funcs 0
    ∙ ap cap zero_on
  where
    zero_on : 0 + kept (unknowns_of p) (funcs_checks forms p unknown_book 0 p.funcs) ≡ kept (unknowns_of p) (funcs_checks forms p unknown_book 0 p.funcs)
    zero_on = omega arith
