-- Well-formed code within its limits has so few checks and unknowns that no sum of the code is cut.
use Rattle.std.proofs.Common.{◌≡◌, ℕ, zero, suc, ◌+◌, ◌*◌, ◌-◌, ◌<◌, ◌≤◌, ◌^◌, Bool, true, false, List, [], ◌∷◌, ◌++◌, length, map, Option, Some, None, refl, sym, ap, subst, arith, length-append}
use Rattle.std.specs.Prelude.{cond, flat_map, slice_get}
use Rattle.std.specs.List.{AllByRecursion, filter, range_with_len}
use Rattle.std.specs.Option.{option_map, option_map_or}
use Rattle.std.proofs.lemmas.List.{length-map}
use Rattle.camelot_values.specs.Kinds.{Constructor, DataType, constructors, constructor, IsConstructor, IsDataType, AreTypes, type_of}
use Rattle.camelot_values.specs.Lists.{Ascend}
use Rattle.camelot_values.specs.Heap.{is_reached}
use Rattle.camelot_values.specs.declared.kinds.Kind.{Kind}
use Rattle.camelot_values.specs.declared.kinds.Kind.TheVariants as kind
use Rattle.grail_blocks.specs.Events.{params_at}
use Rattle.grail_code.specs.Code.{Op, Lit, Flag, Copy, Prim, Make, Call, Let, CaseArm, Term, Ret, Tail, Goto, If, Case, Block, Func, Code}
use Rattle.grail_code.specs.WellFormed.{local_kinds, kind_of, is_marked, HaveKinds, PlaceFits, Gives, LetFits, ArmsFit, data_type, TermFits, BlocksFit, FuncFits, IsWellFormed}
use Rattle.grail_code.specs.Limits.{FuncIsWithin, IsWithinLimits}
use Rattle.annotations.specs.Vectors.{is_heap_con}
use Rattle.licence.specs.Books.{Units, Carried}
use Rattle.licence.specs.Rules.{Account, account_at, after_op, in_arm, first_con_of, Asks, call_asks, jump_asks, build_asks, build_cost}
use Rattle.licence.specs.Checks.{Check, Site, left_check, value_checks, local_checks, arguments_checks, op_checks, jump_checks, arms_checks, term_checks, lets_checks, blocks_checks, funcs_checks, checks_of}
use Rattle.licence.specs.theory.Asking.{arguments_few}
use Rattle.lp_system.specs.Unknowns.{Unknown, BlockVar, Param, Result, Made, carriers, local_carriers, params_unknowns, block_unknowns, blocks_unknowns, made_unknowns, lets_unknowns, builds_unknowns, func_unknowns, funcs_unknowns, unknowns_of}
use Rattle.lp_system.specs.Forms.{Form, forms, unknown_book, row_of, asks, rows_of}
use Rattle.lp_system.specs.theory.Lent.{either}
use Rattle.lp_size.proofs.Steps.{held, same_length}

-- ---- lists

fewer : {A : Type 0} (test : A → Bool) (xs : List A) → length (filter test xs) ≤ length xs
fewer test [] = omega arith
fewer test (x ∷ xs) = by_test (test x) (fewer test xs)
  where
    by_test : (t : Bool) → length (filter test xs) ≤ length xs → length (cond t (x ∷ filter test xs) (filter test xs)) ≤ suc (length xs)
    by_test true h = omega (arith, h)
    by_test false h = omega (arith, h)

range_length : (a n : ℕ) → length (range_with_len a n) ≡ n
range_length a zero = refl
range_length a (suc n) = ap suc (range_length (a + 1) n)

at_all : {A : Type 0} (P : A → Type 0) (xs : List A) (i : ℕ) (x : A) → AllByRecursion P xs → slice_get xs i ≡ Some x → P x
at_all P [] i x h e = let c : None ≡ Some x = e in absurd cc
at_all P (y ∷ xs) zero x h e = let same : y ≡ x = cc in subst P same h.0
at_all P (y ∷ xs) (suc i) x h e = at_all P xs i x h.1 e

all_both : {A : Type 0} (P : A → Type 0) (xs ys : List A) → AllByRecursion P xs → AllByRecursion P ys → AllByRecursion P (xs ++ ys)
all_both P [] ys h k = k
all_both P (x ∷ xs) ys h k = (h.0, all_both P xs ys h.1 k)

flat_few : {A B : Type 0} (of : A → List B) (k : ℕ) → ((x : A) → length (of x) ≤ k) → (xs : List A) → length (flat_map of xs) ≤ k * length xs
flat_few of k each [] = omega arith
flat_few of k each (x ∷ xs) = let a = length-append (of x) (flat_map of xs) in let h = each x in let r = flat_few of k each xs in times k (length xs) (length (of x)) (length (flat_map of xs)) (length (of x ++ flat_map of xs)) a h r
  where
    times : (k n a b c : ℕ) → c ≡ a + b → a ≤ k → b ≤ k * n → c ≤ k * suc n
    times k n a b c e h r = let d : k * suc n ≡ k + k * n = omega arith in omega (arith, e, h, r, d)

-- numbers that ascend below a bound
ascending_few : (n x : ℕ) (xs : List ℕ) → Ascend (x ∷ xs) → AllByRecursion (λ y. y < n) (x ∷ xs) → length (x ∷ xs) + x ≤ n
ascending_few n x [] a h = omega (arith, h.0)
ascending_few n x (y ∷ xs) a h = let r = ascending_few n y xs a.1 h.1 in omega (arith, a.0, r)

below_few : (n : ℕ) (xs : List ℕ) → Ascend xs → AllByRecursion (λ y. y < n) xs → length xs ≤ n
below_few n [] a h = omega arith
below_few n (x ∷ xs) a h = let r = ascending_few n x xs a h in omega (arith, r)

-- ---- types

cons_few : (types : List DataType) → AllByRecursion IsDataType types → length (constructors types) ≤ 64 * length types
cons_few [] h = omega arith
cons_few (t ∷ types) h = let a = length-append t.cons (constructors types) in let r = cons_few types h.1 in omega (arith, a, r, h.0.few_cons)

cons_all : (types : List DataType) → AllByRecursion IsDataType types → AllByRecursion IsConstructor (constructors types)
cons_all [] h = tt
cons_all (t ∷ types) h = all_both IsConstructor t.cons (constructors types) h.0.each (cons_all types h.1)

carriers_few : (types : List DataType) → AreTypes types → (q : Option Kind) → length (carriers types q) ≤ 4096
carriers_few types h None = omega arith
carriers_few types h (Some q) =
    let e = fewer (is_reached types q) (range_with_len 0 (length (constructors types))) in
    let r = range_length 0 (length (constructors types)) in
    let c = cons_few types h.each in
    omega (arith, e, r, c, h.few_types)

module _ (p : Code) (w : IsWellFormed p) (l : IsWithinLimits p) where
  -- ---- checks

  value_few : (s : Site) (q : Option Kind) (have need : Units Form) → length (value_checks p.types s q have need) ≤ 4096
  value_few s q have need = let e = length-map {B = Check Form} (carriers p.types q) (λ c. record { func = s.func; block = s.block; place = s.place; con = Some c; have = have c; need = need c }) in let c = carriers_few p.types l.types q in omega (arith, e, c)

  local_few : (f : Func) (s : Site) (carried : Carried Form) (asks : Asks Form) → length (local_checks p.types f s carried asks) ≤ 4096 * length asks
  local_few f s carried [] = omega arith
  local_few f s carried (a ∷ asks) =
      let b = length-append (value_checks p.types s (kind_of f a.0) (carried a.0) a.1) (local_checks p.types f s carried asks) in
      let v = value_few s (kind_of f a.0) (carried a.0) a.1 in
      let r = local_few f s carried asks in
      omega (arith, b, v, r)

  -- one more check behind
  one_behind : (xs : List (Check Form)) (x : Check Form) (n : ℕ) → length xs ≤ n → length (xs ++ x ∷ []) ≤ n + 1
  one_behind xs x n h = let a = length-append xs (x ∷ []) in omega (arith, a, h)

  args_few : (f : Func) (s : Site) (account : Account Form) (callee : ℕ) (g : Func) (args : List ℕ) → slice_get p.funcs callee ≡ Some g
      → HaveKinds f args g.params → length (arguments_checks p f unknown_book s account callee args) ≤ 65536
  args_few f s account callee g args e q =
      let few = (at_all FuncIsWithin p.funcs callee g l.funcs e).few_params in
      let n = same_length f args g.params q in
      let k = arguments_few (unknown_book.param callee) (is_marked g) 0 (length g.params) args in
      let r = local_few f s account.carried (call_asks unknown_book callee g args) in
      subst (λ o. length (option_map_or (λ b. local_checks p.types f s account.carried (call_asks unknown_book callee b args)) o []) ≤ 65536) (sym e) (omega (arith, few, n, k, r))

  op_few : (f : Func) (s : Site) (account : Account Form) (op : Op) (q : Kind) → Gives p f op q → length (op_checks forms p f unknown_book s account op) ≤ 65537
  op_few f s account (Make con args into) q fits = by_heap (is_heap_con p.types con)
    where
      values : List (Check Form)
      values = local_checks p.types f s account.carried (build_asks unknown_book s.func s.block s.place args)

      values_few : length values ≤ 65536
      values_few =
          let c = held (λ c. HaveKinds f args c.fields × PlaceFits f c.inline into × (option_map kind.Of (type_of p.types con) ≡ Some q)) (constructor p.types con) fits in
          let few = (at_all IsConstructor (constructors p.types) con c.0 (cons_all p.types l.types.each) c.1).few_fields in
          let n = same_length f args c.0.fields c.2.0 in
          let k = length-map {B = ℕ × Units Form} args (λ x. (x, unknown_book.make s.func s.block s.place)) in
          let r = local_few f s account.carried (build_asks unknown_book s.func s.block s.place args) in
          omega (arith, few, n, k, r)

      by_heap : (t : Bool) → length (cond t (values ++ left_check s account.left (build_cost forms unknown_book.unit into (unknown_book.make s.func s.block s.place con)) ∷ []) []) ≤ 65537
      by_heap true = one_behind values (left_check s account.left (build_cost forms unknown_book.unit into (unknown_book.make s.func s.block s.place con))) 65536 values_few
      by_heap false = omega arith
  op_few f s account (Call callee args) q fits =
      let c = held (λ c. HaveKinds f args c.params × (q ≡ c.result)) (slice_get p.funcs callee) fits in
      one_behind (arguments_checks p f unknown_book s account callee args) (left_check s account.left (unknown_book.need callee)) 65536 (args_few f s account callee c.0 args c.1 c.2.0)
  op_few f s account (Lit z) q fits = omega arith
  op_few f s account (Flag b) q fits = omega arith
  op_few f s account (Copy x) q fits = omega arith
  op_few f s account (Prim o x y) q fits = omega arith

  params_few : (f : Func) → FuncIsWithin f → (number : ℕ) (bs : List Block) → BlocksFit p f number bs → (to : ℕ) → length (params_at bs to) ≤ 256
  params_few f within number [] fits to = omega arith
  params_few f within number (b ∷ bs) fits zero =
      let n = length-append f.params f.locals in
      let r = below_few (length (local_kinds f)) b.params fits.0.ascending fits.0.params in
      omega (arith, n, r, within.few_params, within.few_locals)
  params_few f within number (b ∷ bs) fits (suc to) = params_few f within (suc number) bs fits.1 to

  module _ (f : Func) (within : FuncIsWithin f) (fits : FuncFits p f) where
    jump_few : (s : Site) (account : Account Form) (to : ℕ) → length (jump_checks p f unknown_book s account to) ≤ 1048577
    jump_few s account to =
        let n = params_few f within 0 f.blocks fits.blocks to in
        let k = length-map {B = ℕ × Units Form} (params_at f.blocks to) (λ x. (x, unknown_book.block_var s.func to x)) in
        let r = local_few f s account.carried (jump_asks f unknown_book s.func to) in
        one_behind (local_checks p.types f s account.carried (jump_asks f unknown_book s.func to)) (left_check s account.left (unknown_book.block_need s.func to)) 1048576 (omega (arith, n, k, r))

    arms_few : (number : ℕ) (s : Site) (account : Account Form) (on con : ℕ) (cs : List Constructor) (arms : List CaseArm) → ArmsFit f number cs arms
        → length (arms_checks forms p f unknown_book s account on con arms) ≤ 1048577 * length cs
    arms_few number s account on con [] [] h = omega arith
    arms_few number s account on con [] (a ∷ arms) h = absurd h
    arms_few number s account on con (c ∷ cs) [] h = absurd h
    arms_few number s account on con (c ∷ cs) (a ∷ arms) h =
        let e = length-append (jump_checks p f unknown_book s (in_arm forms p.types unknown_book account on con a) a.target) (arms_checks forms p f unknown_book s account on (suc con) arms) in
        let j = jump_few s (in_arm forms p.types unknown_book account on con a) a.target in
        let r = arms_few number s account on (suc con) cs arms h.1 in
        omega (arith, e, j, r)

    data_few : (q : Option Kind) (d : DataType) → data_type p.types q ≡ Some d → length d.cons ≤ 64
    data_few None d e = let c : None ≡ Some d = e in absurd cc
    data_few (Some kind.Int) d e = let c : None ≡ Some d = e in absurd cc
    data_few (Some kind.Flag) d e = let c : None ≡ Some d = e in absurd cc
    data_few (Some kind.Dia) d e = let c : None ≡ Some d = e in absurd cc
    data_few (Some (kind.Of t)) d e = (at_all IsDataType p.types t d l.types.each e).few_cons

    term_few : (number : ℕ) (s : Site) (account : Account Form) (end : Term) → TermFits p f number end
        → length (term_checks forms p f unknown_book s account end) ≤ 67108928
    term_few number s account (Ret x) h =
        let e = one_behind (value_checks p.types s (kind_of f x) (account.carried x) (unknown_book.result s.func)) (left_check s account.left (unknown_book.back s.func)) 4096 (value_few s (kind_of f x) (account.carried x) (unknown_book.result s.func)) in
        omega (arith, e)
    term_few number s account (Tail callee args) h = tail (held (λ g. HaveKinds f args g.params × (g.result ≡ f.result)) (slice_get p.funcs callee) h)
      where
        arguments : List (Check Form)
        arguments = arguments_checks p f unknown_book s account callee args

        value : List (Check Form)
        value = value_checks p.types s (Some f.result) (unknown_book.result callee) (unknown_book.result s.func)

        needed : Check Form
        needed = left_check s account.left (unknown_book.need callee)

        last : Check Form
        last = left_check s (forms.plus (forms.minus account.left (unknown_book.need callee)) (unknown_book.back callee)) (unknown_book.back s.func)

        tail : (g : Func) × (slice_get p.funcs callee ≡ Some g) × (HaveKinds f args g.params × (g.result ≡ f.result))
            → length (arguments ++ (needed ∷ (value ++ last ∷ []))) ≤ 67108928
        tail c =
            let a = length-append arguments (needed ∷ (value ++ last ∷ [])) in
            let v = one_behind value last 4096 (value_few s (Some f.result) (unknown_book.result callee) (unknown_book.result s.func)) in
            let r = args_few f s account callee c.0 args c.1 c.2.0 in
            omega (arith, a, v, r)
    term_few number s account (Goto to) h = let j = jump_few s account to in omega (arith, j)
    term_few number s account (If x first second) h =
        let a = length-append (jump_checks p f unknown_book s account first) (jump_checks p f unknown_book s account second) in
        let j = jump_few s account first in
        let k = jump_few s account second in
        omega (arith, a, j, k)
    term_few number s account (Case x arms) h =
        let d = held (λ d. ArmsFit f number d.cons arms) (data_type p.types (kind_of f x)) h in
        let few = data_few (kind_of f x) d.0 d.1 in
        let r = arms_few number s account x (first_con_of p.types (kind_of f x)) d.0.cons arms d.2 in
        omega (arith, few, r)

    lets_few : (number : ℕ) (s : Site) (account : Account Form) (ls : List Let) (end : Term) → AllByRecursion (LetFits p f) ls → TermFits p f number end
        → length (lets_checks forms p f unknown_book s account ls end) ≤ 65537 * length ls + 67108928
    lets_few number s account [] end h t = let e = term_few number s account end t in omega (arith, e)
    lets_few number s account (x ∷ ls) end h t =
        let g = held (Gives p f x.op) (kind_of f x.target) h.0 in
        let o = op_few f s account x.op g.0 g.2 in
        let r = lets_few number (record { func = s.func; block = s.block; place = suc s.place }) (after_op forms p.types unknown_book s.func s.block s.place account x.target x.op) ls end h.1 t in
        let a = length-append (op_checks forms p f unknown_book s account x.op)
        (lets_checks forms p f unknown_book (record { func = s.func; block = s.block; place = suc s.place }) (after_op forms p.types unknown_book s.func s.block s.place account x.target x.op) ls end) in
        omega (arith, o, r, a)

    blocks_few : (func number : ℕ) (bs : List Block) → BlocksFit p f number bs → AllByRecursion (λ b. length b.lets ≤ 256) bs
        → length (blocks_checks forms p f unknown_book func number bs) ≤ 83886400 * length bs
    blocks_few func number [] h k = omega arith
    blocks_few func number (b ∷ bs) h k =
        let s : Site = record { func = func; block = number; place = 1 } in
        let e = lets_few number s (account_at unknown_book func number) b.lets b.term h.0.lets h.0.term in
        let r = blocks_few func (suc number) bs h.1 k.1 in
        let a = length-append (lets_checks forms p f unknown_book s (account_at unknown_book func number) b.lets b.term) (blocks_checks forms p f unknown_book func (suc number) bs) in
        omega (arith, e, r, a, k.0)

  funcs_few : (func : ℕ) (fs : List Func) → AllByRecursion (FuncFits p) fs → AllByRecursion FuncIsWithin fs
      → length (funcs_checks forms p unknown_book func fs) ≤ 21474918400 * length fs
  funcs_few func [] h k = omega arith
  funcs_few func (f ∷ fs) h k =
      let e = blocks_few f k.0 h.0 func 0 f.blocks h.0.blocks k.0.few_lets in
      let r = funcs_few (suc func) fs h.1 k.1 in
      let a = length-append (blocks_checks forms p f unknown_book func 0 f.blocks) (funcs_checks forms p unknown_book (suc func) fs) in
      omega (arith, e, r, a, k.0.few_blocks)

  pub rows_few : length (rows_of p) ≤ 2 ^ 64 - 1
  unfolding rows_of
  rows_few =
      let e = fewer asks (map (row_of (unknowns_of p)) (checks_of forms p unknown_book)) in
      let m = length-map (checks_of forms p unknown_book) (row_of (unknowns_of p)) in
      let r = funcs_few 0 p.funcs w.funcs l.funcs in
      omega (arith, e, m, r, l.few_funcs)

  -- ---- unknowns

  each_few : (make : ℕ → Unknown) (q : Option Kind) → length (map make (carriers p.types q)) ≤ 4096
  each_few make q = let e = length-map (carriers p.types q) make in let c = carriers_few p.types l.types q in omega (arith, e, c)

  each_local_few : (make : ℕ → Unknown) (f : Func) (x : ℕ) → length (map make (local_carriers p.types f x)) ≤ 4096
  each_local_few make f x =
      let e = length-map (local_carriers p.types f x) make in
      let c = either p.types f (λ cs. length cs ≤ 4096) (omega arith) (carriers_few p.types l.types) x in
      omega (arith, e, c)

  made_few : (func block at : ℕ) (op : Op) → length (made_unknowns p.types func block at op) ≤ 4096
  made_few func block at (Make con args into) = by_heap (is_heap_con p.types con)
    where
      by_heap : (t : Bool) → length (cond t (map (Made func block at) (carriers p.types (option_map kind.Of (type_of p.types con)))) []) ≤ 4096
      by_heap true = each_few (Made func block at) (option_map kind.Of (type_of p.types con))
      by_heap false = omega arith
  made_few func block at (Lit z) = omega arith
  made_few func block at (Flag b) = omega arith
  made_few func block at (Copy x) = omega arith
  made_few func block at (Prim o x y) = omega arith
  made_few func block at (Call callee args) = omega arith

  lets_unknowns_few : (func block at : ℕ) (ls : List Let) → length (lets_unknowns p.types func block at ls) ≤ 4096 * length ls
  lets_unknowns_few func block at [] = omega arith
  lets_unknowns_few func block at (x ∷ ls) =
      let a = length-append (made_unknowns p.types func block at x.op) (lets_unknowns p.types func block (suc at) ls) in
      let m = made_few func block at x.op in
      let r = lets_unknowns_few func block (suc at) ls in
      omega (arith, a, m, r)

  builds_few : (func block : ℕ) (bs : List Block) → AllByRecursion (λ b. length b.lets ≤ 256) bs
      → length (builds_unknowns p.types func block bs) ≤ 1048576 * length bs
  builds_few func block [] h = omega arith
  builds_few func block (b ∷ bs) h =
      let a = length-append (lets_unknowns p.types func block 1 b.lets) (builds_unknowns p.types func (suc block) bs) in
      let m = lets_unknowns_few func block 1 b.lets in
      let r = builds_few func (suc block) bs h.1 in
      omega (arith, a, m, r, h.0)

  block_few : (f : Func) → FuncIsWithin f → FuncFits p f → (func block : ℕ) → length (block_unknowns p.types f func block) ≤ 1048577
  block_few f within fits func block =
      let n = params_few f within 0 f.blocks fits.blocks block in
      let r = flat_few (λ x. map (BlockVar func block x) (local_carriers p.types f x)) 4096 (λ x. each_local_few (BlockVar func block x) f x) (params_at f.blocks block) in
      omega (arith, n, r)

  func_few : (f : Func) → FuncIsWithin f → FuncFits p f → (func : ℕ) → length (func_unknowns p.types func f) ≤ 1073741824
  func_few f within fits func =
      let q = range_length 0 (length f.params) in
      let params = flat_few (λ x. map (Param func x) (local_carriers p.types f x)) 4096 (λ x. each_local_few (Param func x) f x) (range_with_len 0 (length f.params)) in
      let result = each_few (Result func) (Some f.result) in
      let n = range_length 1 (length f.blocks - 1) in
      let blocks = flat_few (block_unknowns p.types f func) 1048577 (block_few f within fits func) (range_with_len 1 (length f.blocks - 1)) in
      let builds = builds_few func 0 f.blocks within.few_lets in
      let a = length-append (params_unknowns p.types f func (range_with_len 0 (length f.params))) (map (Result func) (carriers p.types (Some f.result)) ++ (blocks_unknowns p.types f func ++ builds_unknowns p.types func 0 f.blocks)) in
      let b = length-append (map (Result func) (carriers p.types (Some f.result))) (blocks_unknowns p.types f func ++ builds_unknowns p.types func 0 f.blocks) in
      let c = length-append (blocks_unknowns p.types f func) (builds_unknowns p.types func 0 f.blocks) in
      omega (arith, q, params, result, n, blocks, builds, a, b, c, within.few_params, within.few_blocks)

  funcs_unknowns_few : (func : ℕ) (fs : List Func) → AllByRecursion (FuncFits p) fs → AllByRecursion FuncIsWithin fs
      → length (funcs_unknowns p.types func fs) ≤ 1073741824 * length fs
  funcs_unknowns_few func [] h k = omega arith
  funcs_unknowns_few func (f ∷ fs) h k =
      let e = func_few f k.0 h.0 func in
      let r = funcs_unknowns_few (suc func) fs h.1 k.1 in
      let a = length-append (func_unknowns p.types func f) (funcs_unknowns p.types (suc func) fs) in
      omega (arith, e, r, a)

  pub unknowns_few : length (unknowns_of p) ≤ 2 ^ 64 - 1
  unfolding unknowns_of
  unknowns_few = let r = funcs_unknowns_few 0 p.funcs w.funcs l.funcs in omega (arith, r, l.few_funcs)
