-- The blocks of code, one by one.
use Rattle.std.proofs.Common.{◌≡◌, ℕ, zero, suc, ◌+◌, ◌≤◌, List, [], ◌∷◌, ◌++◌, length, map, refl, sym, ap, ◌∙◌, arith}
use Rattle.std.specs.List.{AllByRecursion, filter, range_with_len}
use Rattle.grail_code.specs.Code as code
use Rattle.grail_code.specs.declared.code.Block.{Block as DeclaredCodeBlock}
use Rattle.normal_form.specs.declared.program.NormalBlock.{NormalBlock as DeclaredBlock}
use Rattle.normal_form.specs.declared.program.NormalFunction.{NormalFunction as DeclaredFunction}
use Rattle.normal_form.specs.Normal.{NormalBlock}
use Rattle.normal_form.specs.Programs.{block_of, normal_function_of}
use Rattle.normal_form.specs.Coded.{coded, coded_blocks}
use Rattle.code_gen.specs.Generated.{live_params}
use Rattle.grail_code.specs.Limits.{FuncIsWithin}
use Rattle.code_gen.specs.declared.local_set.LocalSet.{LocalSet}
use Rattle.code_gen.specs.Marked.{AreSeen, has, marks_at, told_params}
use Rattle.code_gen.proofs.Bodies.{length_coded}
use Rattle.code_gen.proofs.Seeing.{blocks_same, map_length}

ends_with : (a n : ℕ) → range_with_len a (suc n) ≡ range_with_len a n ++ (a + n) ∷ []
ends_with a zero = let e : a ≡ a + 0 = omega arith in ap (λ k. k ∷ []) e
ends_with a (suc n) = let e : (a + 1) + n ≡ a + suc n = omega arith in ap (λ l. a ∷ l) (ends_with (a + 1) n ∙ ap (λ k. range_with_len (a + 1) n ++ k ∷ []) e)

pub one_local_more : (n : ℕ) → range_with_len 0 (n + 1) ≡ range_with_len 0 n ++ n ∷ []
one_local_more n =
    let more : n + 1 ≡ suc n = omega arith in
    let same : 0 + n ≡ n = omega arith in
    ap (range_with_len 0) more ∙ ends_with 0 n ∙ ap (λ k. range_with_len 0 n ++ k ∷ []) same

pub first_params : (own size : ℕ) (seen : List LocalSet) (number : ℕ) (xs : List ℕ) → number ≡ 0 → xs ≡ range_with_len 0 own
    → xs ≡ told_params own size seen number
first_params own size seen zero xs e h = h
first_params own size seen (suc n) xs e h = absurd (omega (arith, e))

pub later_params : (own size : ℕ) (seen : List LocalSet) (number count : ℕ) (marks : LocalSet) (xs : List ℕ) → (number ≡ 0 → ⊥) → count ≡ length seen
    → marks ≡ marks_at seen count number
    → xs ≡ filter (has marks) (range_with_len 0 size) → xs ≡ told_params own size seen number
later_params own size seen zero count marks xs n full is h = absurd (n refl)
later_params own size seen (suc k) count marks xs n full is h = h ∙ ap (λ ms. filter (has ms) (range_with_len 0 size)) (is ∙ ap (λ c. marks_at seen c (suc k)) full)

-- ---- functions

abbrev pub code_for : DeclaredFunction → code.Func
code_for f = coded live_params (normal_function_of f)

few_back : (takes : ℕ → List ℕ) (number : ℕ) (bs : List NormalBlock)
    → AllByRecursion (λ (b : code.Block). length b.lets ≤ 256) (coded_blocks takes number bs)
    → AllByRecursion (λ (b : NormalBlock). length b.lets ≤ 256) bs
few_back takes number [] h = tt
few_back takes number (b ∷ bs) h = (h.0, few_back takes (suc number) bs h.1)

-- a function within the limits of code has few blocks, and few lets in each
pub few_blocks_of : (f : DeclaredFunction) → FuncIsWithin (code_for f) → length f.blocks.items ≤ 256
few_blocks_of f w =
    let size = length_coded (live_params (normal_function_of f)) 0 (map block_of f.blocks.items) in
    let mapped = map_length block_of f.blocks.items in
    let few = w.few_blocks in
    omega (arith, size, mapped, few)

pub few_lets_of : (f : DeclaredFunction) → FuncIsWithin (code_for f) → AllByRecursion (λ (b : NormalBlock). length b.lets ≤ 256) (map block_of f.blocks.items)
few_lets_of f w = few_back (live_params (normal_function_of f)) 0 (map block_of f.blocks.items) w.few_lets

-- a function within the limits of code has few locals
pub few_locals_of : (f : DeclaredFunction) → FuncIsWithin (code_for f) → length f.params.items + length f.locals.items ≤ 256
few_locals_of f w = let params = w.few_params in let locals = w.few_locals in omega (arith, params, locals)

-- the function with these blocks is its code
pub is_coded : (f : DeclaredFunction) (blocks : List code.Block) (seen : List LocalSet) (own size : ℕ) → own ≡ length f.params.items
    → size ≡ length f.params.items + length f.locals.items → FuncIsWithin (code_for f)
    → AreSeen (map block_of f.blocks.items) 0 seen → blocks ≡ coded_blocks (told_params own size seen) 0 (map block_of f.blocks.items)
    → ◌≡◌ {A = code.Func} (record { name = f.name; params = f.params.items; reads = f.reads.items; result = f.result; locals = f.locals.items; blocks = blocks }) (code_for f)
is_coded f blocks seen own size first all within s e =
    let n = normal_function_of f in
    let same : blocks ≡ coded_blocks (live_params n) 0 n.blocks =
    e ∙ ap (λ k. coded_blocks (told_params k size seen) 0 n.blocks) first ∙ ap (λ k. coded_blocks (told_params (length f.params.items) k seen) 0 n.blocks) all ∙ blocks_same n seen (few_locals_of f within) s in
    λ i. record { name = f.name; params = f.params.items; reads = f.reads.items; result = f.result; locals = f.locals.items; blocks = same i }

-- how many blocks are made
pub as_many : (blocks : List DeclaredCodeBlock) (takes : ℕ → List ℕ) (bs : List DeclaredBlock)
    → map code.block_of blocks ≡ coded_blocks takes 0 (map block_of bs) → length blocks ≡ length bs
as_many blocks takes bs e = sym (map_length code.block_of blocks) ∙ ap length e ∙ length_coded takes 0 (map block_of bs) ∙ map_length block_of bs

pub some_blocks_of : (f : DeclaredFunction) → FuncIsWithin (code_for f) → 1 ≤ length f.blocks.items
some_blocks_of f w =
    let size = length_coded (live_params (normal_function_of f)) 0 (map block_of f.blocks.items) in
    let mapped = map_length block_of f.blocks.items in
    let some = w.some_blocks in
    omega (arith, size, mapped, some)
