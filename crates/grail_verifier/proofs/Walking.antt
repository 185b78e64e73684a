-- Blocks and functions: what the walk finds is the first check of the whole list that fails.
use Rattle.std.proofs.Common.{◌≡◌, ℕ, zero, suc, ◌+◌, ◌-◌, ◌*◌, ◌<◌, ◌≤◌, false, List, [], ◌∷◌, length, replicate, Some, refl, sym, ap, ◌∙◌, subst, arith, inl, inr}
use Rattle.std.proofs.lemmas.List.{length-replicate}
use Rattle.std.specs.Prelude.{◌==◌, if◌then◌else◌, slice_get, ℤ, pos}
use Rattle.std.specs.List.{AllByRecursion}
use Rattle.std.proofs.lemmas.Bool.Decides.{nat_tests}
use Rattle.camelot_values.specs.declared.kinds.Kind.{Kind}
use Rattle.grail_code.specs.Code.{Let, Term, Block, Func, Code}
use Rattle.grail_code.specs.WellFormed.{kind_of, Gives, LetFits, TermFits, BlockFits}
use Rattle.annotations.specs.Vectors.{Vector, at}
use Rattle.certificate.specs.Certificates.{VarCert, MakeCert, MakesAscend, VarIsWithin, BlockIsWithin, FuncCert, Cert}
use Rattle.licence.specs.Books.{vector_of, make_of}
use Rattle.licence.specs.Rules.{Account, account_at, after_op}
use Rattle.licence.specs.Checks.{Site, op_checks, lets_checks, blocks_checks, funcs_checks, checks_of, integers}
use Rattle.grail_verifier.specs.Finding.{Found}
use Rattle.grail_verifier.specs.Walk.{op_short, left_behind, slots_behind, line_at, makes_from, in_front, lets_short, put_all, begun_short, lined_short, block_short, blocks_short, func_short, funcs_short}
use Rattle.grail_verifier.proofs.Composing.{nothing, both, AreUnits}
use Rattle.grail_verifier.proofs.Carrying.{IsHeld, IsHeldIn, LinesAscend}
use Rattle.grail_verifier.proofs.Lines.{line_is, front_is, from_ascends, from_keeps, put_is, none_at, all_length, make_few, var_few}
use Rattle.grail_verifier.proofs.Facts.{all_at, some_and, is_there, Ready, Known, ready_at, said_is, few_locals, block_fits, IsTarget, target_at}
use Rattle.grail_verifier.proofs.Stepping.{book, Tied, op_found, behind_let, left_grows, need_is}
use Rattle.grail_verifier.proofs.Ending.{block_says, term_found}

-- what is left of the lines of builds has those of this block from this place on
abbrev AreFrom : List MakeCert → FuncCert → (block place : ℕ) → Type 0
AreFrom makes own block place = (i : ℕ) → place ≤ i → make_of makes block i ≡ make_of own.makes block i

module _ (p : Code) (c : Cert) (known : Known p c) where
  module _ (func : ℕ) (f : Func) (own : FuncCert) (ready : Ready p c func f own) where
    made_held : (s : Site) → s.func ≡ func → (makes : List MakeCert) → MakesAscend makes → AreFrom makes own s.block s.place
        → IsHeld (in_front [] s.block s.place (makes_from s.block s.place makes)) ((book c).make s.func s.block s.place)
    made_held s e makes a from =
        subst (λ v. IsHeld v ((book c).make s.func s.block s.place)) (sym (front_is s.block s.place makes a ∙ from s.place (omega arith))) (record {
          same = λ con. ap (λ n. (book c).make n s.block s.place con) e ∙ ap (λ v. pos (at v con)) (said_is c func own (λ g. make_of g.makes s.block s.place) [] ready.lines);
          few = make_few own.makes s.block s.place ready.within.makes;
        })

    lets_found : (s : Site) → s.func ≡ func → (makes : List MakeCert) (left : ℕ) (slots : List Vector) (a : Account ℤ) (ls : List Let) (t : Term)
        → Tied f left slots a → AllByRecursion (LetFits p f) ls → TermFits p f s.block t
        → MakesAscend makes → AreFrom makes own s.block s.place → left ≤ s.place * 1099511627776 → s.place + length ls ≤ 257
        → Found (lets_checks integers p f (book c) s a ls t) (lets_short p c [] f own s makes left slots ls t)
    lets_found s e makes left slots a [] t tied lets term asc from few less = term_found p c known func f own ready s e left slots a s.block t tied (omega (arith, few, less)) term
    lets_found s e makes left slots a (l ∷ ls) t tied lets term asc from few less =
        both (op_checks integers p f (book c) s a l.op) (lets_checks integers p f (book c) (record { func = s.func; block = s.block; place = suc s.place }) (after_op integers p.types (book c) s.func s.block s.place a l.target l.op) ls t)
        (op_short p c f s left slots (in_front [] s.block s.place (makes_from s.block s.place makes)) l.op)
        (lets_short p c [] f own (record { func = s.func; block = s.block; place = suc s.place }) (makes_from s.block s.place makes)
        (left_behind p c left (in_front [] s.block s.place (makes_from s.block s.place makes)) l.op)
        (slots_behind p c slots (in_front [] s.block s.place (makes_from s.block s.place makes)) l) ls t)
        (op_found p c known func f own s left slots a (in_front [] s.block s.place (makes_from s.block s.place makes)) l tied (made_held s e makes asc from) lets.0)
        (λ paid. lets_found (record { func = s.func; block = s.block; place = suc s.place }) e (makes_from s.block s.place makes)
        (left_behind p c left (in_front [] s.block s.place (makes_from s.block s.place makes)) l.op)
        (slots_behind p c slots (in_front [] s.block s.place (makes_from s.block s.place makes)) l)
        (after_op integers p.types (book c) s.func s.block s.place a l.target l.op) ls t
        (behind_let p c known f s left slots a (in_front [] s.block s.place (makes_from s.block s.place makes)) l tied ready.limits (made_held s e makes asc from) lets.0 (omega (arith, few, less)) paid)
        lets.1 term (from_ascends s.block s.place makes asc)
        (λ i h. from_keeps s.block s.place s.block i makes (inr (refl, omega (arith, h))) ∙ from i (omega (arith, h)))
        (grows (some_and (Gives p f l.op) (kind_of f l.target) lets.0)) (omega (arith, less)))
      where
        grows : ((q : Kind) × (kind_of f l.target ≡ Some q) × Gives p f l.op q)
            → left_behind p c left (in_front [] s.block s.place (makes_from s.block s.place makes)) l.op ≤ suc s.place * 1099511627776
        grows (q, k, g) = omega (arith, few, left_grows p c known left (in_front [] s.block s.place (makes_from s.block s.place makes)) l.op f q g)

    -- at the beginning of a block
    begun_tied : (left : ℕ) (vars : List VarCert) (a : Account ℤ) → a.left ≡ pos left → LinesAscend vars → AllByRecursion VarIsWithin vars
        → ((x : ℕ) → AreUnits (vector_of vars x) (a.carried x)) → Tied f left (put_all (replicate 256 []) vars) a
    begun_tied left vars a e asc within same = record {
      left = e;
      held = λ x q k. subst (λ o. IsHeldIn o (a.carried x)) (sym (put_is (replicate 256 []) vars x asc (let l : x < 256 = few_locals f x q ready.limits k in omega (arith, l, length-replicate 256 none)) (none_at 256 x [] (few_locals f x q ready.limits k))))
          (record { same = same x; few = var_few vars x within });
      long = all_length (replicate 256 []) vars ∙ length-replicate 256 none;
    }
      where
        none : Vector
        none = []

    abbrev BlockFound : (number : ℕ) → List MakeCert → Block → Type 0
    BlockFound number makes b = Found (lets_checks integers p f (book c) (record { func = func; block = number; place = 1 }) (account_at (book c) func number) b.lets b.term) (block_short p c [] f own func number makes b)

    first_found : (makes : List MakeCert) (b : Block) → BlockFits p f 0 b → length b.lets ≤ 256 → MakesAscend makes → AreFrom makes own 0 1
        → BlockFound 0 makes b
    first_found makes b fits few asc from =
        lets_found (record { func = func; block = 0; place = 1 }) refl makes own.need (put_all (replicate 256 []) own.params) (account_at (book c) func 0) b.lets b.term
        (begun_tied own.need own.params (account_at (book c) func 0) (need_is p c known func own ready.lines) ready.formed.params.ascending ready.within.params
        (λ x con. ap (λ v. pos (at v con)) (said_is c func own (λ l. vector_of l.params x) [] ready.lines)))
        fits.lets fits.term asc from (let n : own.need ≤ 1099511627776 = ready.within.need in omega (arith, n)) (omega (arith, few))

    later_found : (n : ℕ) (makes : List MakeCert) (b : Block) → suc n < length f.blocks → BlockFits p f (suc n) b → length b.lets ≤ 256
        → MakesAscend makes → AreFrom makes own (suc n) 1 → BlockFound (suc n) makes b
    later_found n makes b less fits few asc from = by_line (target_at p c func f own (suc n) ready (omega arith) less)
      where
        s : Site
        s = record { func = func; block = suc n; place = 1 }

        not_first : (suc n == 0) ≡ false
        not_first = grind (arith, nat_tests)

        by_line : IsTarget p f own (suc n) → BlockFound (suc n) makes b
        by_line t =
            subst (λ z. Found (lets_checks integers p f (book c) s (account_at (book c) func (suc n)) b.lets b.term)
            (if z then begun_short p c [] f own s makes own.need own.params b else lined_short p c [] f own s makes (line_at own.blocks (suc n)) b)) (sym not_first)
            (subst (λ o. Found (lets_checks integers p f (book c) s (account_at (book c) func (suc n)) b.lets b.term) (lined_short p c [] f own s makes o b)) (sym (line_is own.blocks (suc n) (omega arith) ∙ t.stands))
            (lets_found s refl makes t.line.need (put_all (replicate 256 []) t.line.vars) (account_at (book c) func (suc n)) b.lets b.term
            (begun_tied t.line.need t.line.vars (account_at (book c) func (suc n)) (ap pos (block_says p c known func f own ready (suc n) t.line (λ l. l.need) 0 t.found)) t.ascend
            (all_at (λ l. BlockIsWithin l) own.blocks (suc n - 1) t.line ready.within.blocks t.stands).vars
            (λ x con. ap (λ v. pos (at v con)) (block_says p c known func f own ready (suc n) t.line (λ l. vector_of l.vars x) [] t.found)))
            fits.lets fits.term asc from (let m : t.line.need ≤ 1099511627776 = (all_at (λ l. BlockIsWithin l) own.blocks (suc n - 1) t.line ready.within.blocks t.stands).need in omega (arith, m)) (omega (arith, few))))

    block_found : (number : ℕ) (makes : List MakeCert) (b : Block) → number < length f.blocks → BlockFits p f number b → length b.lets ≤ 256
        → MakesAscend makes → AreFrom makes own number 1 → BlockFound number makes b
    block_found zero makes b less fits few asc from = first_found makes b fits few asc from
    block_found (suc n) makes b less fits few asc from = later_found n makes b less fits few asc from

    blocks_found : (number : ℕ) (makes : List MakeCert) (bs : List Block)
        → ((i : ℕ) (b : Block) → slice_get bs i ≡ Some b → slice_get f.blocks (number + i) ≡ Some b) → MakesAscend makes
        → ((block i : ℕ) → number ≤ block → make_of makes block i ≡ make_of own.makes block i)
        → Found (blocks_checks integers p f (book c) func number bs) (blocks_short p c [] f own func number makes bs)
    blocks_found number makes [] there asc from = nothing
    blocks_found number makes (b ∷ bs) there asc from =
        both (lets_checks integers p f (book c) (record { func = func; block = number; place = 1 }) (account_at (book c) func number) b.lets b.term) (blocks_checks integers p f (book c) func (suc number) bs)
        (block_short p c [] f own func number (makes_from number 0 makes) b) (blocks_short p c [] f own func (suc number) (makes_from number 0 makes) bs)
        (block_found number (makes_from number 0 makes) b (is_there f.blocks number b here) (block_fits p f number b ready.fits here) (all_at (λ x. length x.lets ≤ 256) f.blocks number b ready.limits.few_lets here) (from_ascends number 0 makes asc)
        (λ i h. from_keeps number 0 number i makes (inr (refl, omega arith)) ∙ from number i (omega arith)))
        (λ e. blocks_found (suc number) (makes_from number 0 makes) bs
        (λ i x k. (let z : suc number + i ≡ number + suc i = omega arith in ap (slice_get f.blocks) z) ∙ there (suc i) x k) (from_ascends number 0 makes asc)
        (λ block i h. from_keeps number 0 block i makes (inl (omega (arith, h))) ∙ from block i (omega (arith, h))))
      where
        here : slice_get f.blocks number ≡ Some b
        here = (let z : number ≡ number + 0 = omega arith in ap (slice_get f.blocks) z) ∙ there 0 b refl

    func_found : Found (blocks_checks integers p f (book c) func 0 f.blocks) (blocks_short p c [] f own func 0 own.makes f.blocks)
    func_found = blocks_found 0 own.makes f.blocks (λ i b e. (let z : 0 + i ≡ i = omega arith in ap (slice_get f.blocks) z) ∙ e) ready.formed.makes (λ block i h. refl)

  funcs_found : (func : ℕ) (fs : List Func) → ((i : ℕ) (f : Func) → slice_get fs i ≡ Some f → slice_get p.funcs (func + i) ≡ Some f)
      → Found (funcs_checks integers p (book c) func fs) (funcs_short p c [] func fs)
  funcs_found func [] there = nothing
  funcs_found func (f ∷ fs) there =
      both (blocks_checks integers p f (book c) func 0 f.blocks) (funcs_checks integers p (book c) (suc func) fs) (func_short p c [] func f (slice_get c.funcs func)) (funcs_short p c [] (suc func) fs)
      (by_lines (ready_at p c known func f here)) (λ e. funcs_found (suc func) fs (λ i g k. (let z : suc func + i ≡ func + suc i = omega arith in ap (slice_get p.funcs) z) ∙ there (suc i) g k))
    where
      here : slice_get p.funcs func ≡ Some f
      here = (let z : func ≡ func + 0 = omega arith in ap (slice_get p.funcs) z) ∙ there 0 f refl

      by_lines : ((own : FuncCert) × Ready p c func f own)
          → Found (blocks_checks integers p f (book c) func 0 f.blocks) (func_short p c [] func f (slice_get c.funcs func))
      by_lines (own, r) = subst (λ o. Found (blocks_checks integers p f (book c) func 0 f.blocks) (func_short p c [] func f o)) (sym r.lines) (func_found func f own r)

  -- the whole walk
  pub walk_found : Found (checks_of integers p (book c)) (funcs_short p c [] 0 p.funcs)
  walk_found = funcs_found 0 p.funcs (λ i f e. (let z : 0 + i ≡ i = omega arith in ap (slice_get p.funcs) z) ∙ e)
