-- Laws, for the proofs of this crate and of those above it.
-- In well-formed code a frame lends exactly where a parameter of its block is lent: no let binds a local that is lent,
-- and none is ever spent.
use Rattle.std.proofs.Common.{◌≡◌, ℕ, zero, suc, ◌<◌, ◌≤◌, Bool, true, false, List, [], ◌∷◌, ◌++◌, length, map, take, Option, Some, None, refl, sym, ap, ◌∙◌, subst, arith, inl, inr}
use Rattle.std.specs.Prelude.{◌==◌, ◌&&◌, ◌||◌, not, if◌then◌else◌, slice_get, ◌⊎◌}
use Rattle.std.specs.List.{AllByRecursion, list_any}
use Rattle.std.proofs.lemmas.Bool.Decides.{nat_tests}
use Rattle.camelot_values.specs.Kinds.{DataType}
use Rattle.grail_blocks.specs.Events.{Event, Use, Look, Bind, Reads, uses_of, let_events, argument_events}
use Rattle.grail_blocks.specs.States as states
use Rattle.grail_blocks.specs.States.{Status, Ready, nothing_bound, at_start, after_lets, after_let, state_at}
use Rattle.grail_blocks.specs.StateLaws.{after_append, uses_ready, bind_ready, operands_were_ready}
use Rattle.grail_code.specs.Code.{Op, Let, Block, Func, Code}
use Rattle.grail_code.specs.PlaceLaws.{all_at}
use Rattle.grail_code.specs.WellFormed.{is_lent, is_owned, is_read, is_of_heap, reads_of, LetLends, BlockFits, FuncFits, IsWellFormed}
use Rattle.frame_locals.specs.Places.{ready_at, waits_at, ready_in_func, waits_in_func, ready_in_block, waits_in_block, behind_operands}
use Rattle.licence.specs.theory.Sound.{fits_at}
use Rattle.frame_locals.specs.Lending.{HasLoan, LendsWhere, block_lends, lends_in_func, lends_in, lends_at}

-- a local that is lent isn't owned
lent_not_owned : (types : List DataType) (f : Func) (x : ℕ) → is_lent types f x ≡ true → is_owned types f x ≡ false
lent_not_owned types f x e = by_tests (is_of_heap types f x) (is_read f x) e
  where
    by_tests : (h r : Bool) → (h && r) ≡ true → (h && not r) ≡ false
    by_tests true true e = refl
    by_tests true false e = absurd cc
    by_tests false r e = refl

-- ---- what isn't owned stays ready

stays_used : (h : ℕ → Bool) (s : states.State) (y x : ℕ) → h x ≡ false → s x ≡ Ready → states.use_of h s y x ≡ Ready
stays_used h s y x n r = by_test (y == x) refl
  where
    by_test : (t : Bool) → (y == x) ≡ t → (if t && h y then states.Spent else s x) ≡ Ready
    by_test false e = r
    by_test true e =
        let same : y ≡ x = grind (arith, nat_tests, e) in
        let not_owned : h y ≡ false = ap h same ∙ n in
        ap (λ o. if o then states.Spent else s x) not_owned ∙ r

stays_bound : (s : states.State) (y x : ℕ) → s x ≡ Ready → states.bind s y x ≡ Ready
stays_bound s y x r = by_test (y == x)
  where
    by_test : (t : Bool) → (if t then Ready else s x) ≡ Ready
    by_test true = refl
    by_test false = r

pub stays_ready : (h : ℕ → Bool) (s : states.State) (events : List Event) (x : ℕ) → h x ≡ false → s x ≡ Ready → states.after h s events x ≡ Ready
stays_ready h s [] x n r = r
stays_ready h s (Bind y ∷ events) x n r = stays_ready h (states.bind s y) events x n (stays_bound s y x r)
stays_ready h s (Use y ∷ events) x n r = stays_ready h (states.use_of h s y) events x n (stays_used h s y x n r)
stays_ready h s (Look y ∷ events) x n r = stays_ready h s events x n r

lets_stay : (reads : Reads) (h : ℕ → Bool) (s : states.State) (ls : List Let) (x : ℕ) → h x ≡ false → s x ≡ Ready → after_lets reads h s ls x ≡ Ready
lets_stay reads h s [] x n r = r
lets_stay reads h s (l ∷ ls) x n r = lets_stay reads h (after_let reads h s l) ls x n (stays_ready h s (let_events reads l) x n r)

-- ---- what is lent and ready was so at the beginning

not_target : (types : List DataType) (f : Func) (y x : ℕ) → is_lent types f x ≡ true → is_lent types f y ≡ false → (y ≡ x → ⊥)
not_target types f y x lent n e = let k : false ≡ true = sym n ∙ ap (is_lent types f) e ∙ lent in absurd cc

let_was : (p : Code) (f : Func) (s : states.State) (l : Let) (x : ℕ) → LetLends p f l → is_lent p.types f x ≡ true
    → after_let (reads_of p) (is_owned p.types f) s l x ≡ Ready → s x ≡ Ready
let_was p f s l x h lent r =
    by_bind (bind_ready (states.after (is_owned p.types f) s (uses_of (reads_of p) l.op)) l.target x
    (sym (ap (λ (t : states.State). t x) (after_append (is_owned p.types f) s (uses_of (reads_of p) l.op) (Bind l.target ∷ []))) ∙ r))
  where
    by_bind : (l.target ≡ x) ⊎ (states.after (is_owned p.types f) s (uses_of (reads_of p) l.op) x ≡ Ready) → s x ≡ Ready
    by_bind (inl e) = absurd (not_target p.types f l.target x lent h.target e)
    by_bind (inr e) = operands_were_ready (reads_of p) (is_owned p.types f) s l.op x e

lets_were : (p : Code) (f : Func) (s : states.State) (ls : List Let) (x : ℕ) → AllByRecursion (LetLends p f) ls → is_lent p.types f x ≡ true
    → after_lets (reads_of p) (is_owned p.types f) s ls x ≡ Ready → s x ≡ Ready
lets_were p f s [] x h lent r = r
lets_were p f s (l ∷ ls) x h lent r = let_was p f s l x h.0 lent (lets_were p f (after_let (reads_of p) (is_owned p.types f) s l) ls x h.1 lent r)

all_taken : {A : Type 0} (P : A → Type 0) (n : ℕ) (xs : List A) → AllByRecursion P xs → AllByRecursion P (take n xs)
all_taken P zero xs h = tt
all_taken P (suc n) [] h = tt
all_taken P (suc n) (x ∷ xs) h = (h.0, all_taken P n xs h.1)

-- ---- what the parameters of a block bind

or_first : (a b : Bool) → a ≡ true → (a || b) ≡ true
or_first true b e = refl
or_first false b e = absurd cc

or_second : (a b : Bool) → b ≡ true → (a || b) ≡ true
or_second true b e = refl
or_second false b e = e

bound_lends : (h lends : ℕ → Bool) (s : states.State) (xs : List ℕ) (x : ℕ) → lends x ≡ true → states.after h s (map Bind xs) x ≡ Ready
    → (s x ≡ Ready) ⊎ (list_any lends xs ≡ true)
bound_lends h lends s [] x e r = inl r
bound_lends h lends s (y ∷ xs) x e r = by_rest (bound_lends h lends (states.bind s y) xs x e r)
  where
    by_bind : (y ≡ x) ⊎ (s x ≡ Ready) → (s x ≡ Ready) ⊎ (list_any lends (y ∷ xs) ≡ true)
    by_bind (inl same) = inr (or_first (lends y) (list_any lends xs) (ap lends same ∙ e))
    by_bind (inr q) = inl q

    by_rest : (states.bind s y x ≡ Ready) ⊎ (list_any lends xs ≡ true) → (s x ≡ Ready) ⊎ (list_any lends (y ∷ xs) ≡ true)
    by_rest (inl q) = by_bind (bind_ready s y x q)
    by_rest (inr q) = inr (or_second (lends y) (list_any lends xs) q)

record Bound (lends : ℕ → Bool) (s : states.State) : Type 0 where
  local : ℕ
  lent : lends local ≡ true
  ready : s local ≡ Ready

bound_here : (s : states.State) (x : ℕ) → states.bind s x x ≡ Ready
bound_here s x = let t : (x == x) ≡ true = grind (arith, nat_tests) in ap (λ b. if b then Ready else s x) t

lent_bound : (h lends : ℕ → Bool) → ((x : ℕ) → lends x ≡ true → h x ≡ false) → (s : states.State) (xs : List ℕ) → list_any lends xs ≡ true
    → Bound lends (states.after h s (map Bind xs))
lent_bound h lends n s [] e = absurd cc
lent_bound h lends n s (y ∷ xs) e = by_test (lends y) refl (lent_bound h lends n (states.bind s y) xs)
  where
    by_test : (t : Bool) → lends y ≡ t → (list_any lends xs ≡ true → Bound lends (states.after h (states.bind s y) (map Bind xs)))
        → Bound lends (states.after h (states.bind s y) (map Bind xs))
    by_test true q rest = record { local = y; lent = q; ready = stays_ready h (states.bind s y) (map Bind xs) y (n y q) (bound_here s y) }
    by_test false q rest = rest (sym (ap (λ t. t || list_any lends xs) q) ∙ e)

-- ---- a block

block_of_loan : (p : Code) (f : Func) (b : Block) (place : ℕ) → AllByRecursion (LetLends p f) b.lets
    → HasLoan p f (state_at (reads_of p) (is_owned p.types f) b place) → block_lends p f b ≡ true
block_of_loan p f b place h loan =
    let begun = lets_were p f (at_start (is_owned p.types f) b) (take place b.lets) loan.local (all_taken (LetLends p f) place b.lets h) loan.lent loan.ready in
    by_start (bound_lends (is_owned p.types f) (is_lent p.types f) nothing_bound b.params loan.local loan.lent begun)
  where
    by_start : (nothing_bound loan.local ≡ Ready) ⊎ (list_any (is_lent p.types f) b.params ≡ true) → list_any (is_lent p.types f) b.params ≡ true
    by_start (inl e) = absurd cc
    by_start (inr e) = e

loan_of_block : (p : Code) (f : Func) (b : Block) (place : ℕ) → block_lends p f b ≡ true
    → HasLoan p f (state_at (reads_of p) (is_owned p.types f) b place)
loan_of_block p f b place e =
    let k = lent_bound (is_owned p.types f) (is_lent p.types f) (lent_not_owned p.types f) nothing_bound b.params e in
    record {
      local = k.local;
      lent = k.lent;
      ready = lets_stay (reads_of p) (is_owned p.types f) (at_start (is_owned p.types f) b) (take place b.lets) k.local (lent_not_owned p.types f k.local k.lent) k.ready;
    }

loan_was : (p : Code) (f : Func) (s : states.State) (o : Option Let) → HasLoan p f (behind_operands p f s o) → HasLoan p f s
loan_was p f s None loan = loan
loan_was p f s (Some l) loan = record { local = loan.local; lent = loan.lent; ready = operands_were_ready (reads_of p) (is_owned p.types f) s l.op loan.local loan.ready }

loan_stays : (p : Code) (f : Func) (s : states.State) (o : Option Let) → HasLoan p f s → HasLoan p f (behind_operands p f s o)
loan_stays p f s None loan = loan
loan_stays p f s (Some l) loan = record {
  local = loan.local;
  lent = loan.lent;
  ready = stays_ready (is_owned p.types f) s (uses_of (reads_of p) l.op) loan.local (lent_not_owned p.types f loan.local loan.lent) loan.ready;
}

-- ---- a place

no_loan : (p : Code) (f : Func) → HasLoan p f nothing_bound → ⊥
no_loan p f loan = let e : nothing_bound loan.local ≡ Ready = loan.ready in absurd cc

lets_lend : (p : Code) (f : Func) (block : ℕ) (b : Block) → FuncFits p f → slice_get f.blocks block ≡ Some b → AllByRecursion (LetLends p f) b.lets
lets_lend p f block b h e = (fits_at p f block b h e).lets_lend

running : (p : Code) (f : Func) (block place : ℕ) → FuncFits p f → HasLoan p f (ready_in_block p f (slice_get f.blocks block) place) → lends_in_func p f (slice_get f.blocks block) ≡ true
running p f block place h loan = by_block (slice_get f.blocks block) refl loan
  where
    by_block : (o : Option Block) → slice_get f.blocks block ≡ o → HasLoan p f (ready_in_block p f o place) → lends_in_func p f o ≡ true
    by_block None e k = absurd (no_loan p f k)
    by_block (Some b) e k = block_of_loan p f b place (lets_lend p f block b h e) k

run_loan : (p : Code) (f : Func) (o : Option Block) (place : ℕ) → lends_in_func p f o ≡ true → HasLoan p f (ready_in_block p f o place)
run_loan p f None place e = absurd cc
run_loan p f (Some b) place e = loan_of_block p f b place e

waiting : (p : Code) (f : Func) (block place : ℕ) → FuncFits p f → HasLoan p f (waits_in_block p f (slice_get f.blocks block) place) → lends_in_func p f (slice_get f.blocks block) ≡ true
waiting p f block place h loan = by_block (slice_get f.blocks block) refl loan
  where
    by_block : (o : Option Block) → slice_get f.blocks block ≡ o → HasLoan p f (waits_in_block p f o place) → lends_in_func p f o ≡ true
    by_block None e k = absurd (no_loan p f k)
    by_block (Some b) e k = block_of_loan p f b place (lets_lend p f block b h e) (loan_was p f (state_at (reads_of p) (is_owned p.types f) b place) (slice_get b.lets place) k)

wait_loan : (p : Code) (f : Func) (o : Option Block) (place : ℕ) → lends_in_func p f o ≡ true → HasLoan p f (waits_in_block p f o place)
wait_loan p f None place e = absurd cc
wait_loan p f (Some b) place e = loan_stays p f (state_at (reads_of p) (is_owned p.types f) b place) (slice_get b.lets place) (loan_of_block p f b place e)

func_fits : (p : Code) (func : ℕ) (f : Func) → IsWellFormed p → slice_get p.funcs func ≡ Some f → FuncFits p f
func_fits p func f w e = all_at (FuncFits p) p.funcs func f w.funcs e

pub runs : (p : Code) (func block place : ℕ) (f : Func) → IsWellFormed p → slice_get p.funcs func ≡ Some f
    → LendsWhere p f (ready_at p func block place) (lends_at p func block)
runs p func block place f w e =
    let at : ready_at p func block place ≡ ready_in_block p f (slice_get f.blocks block) place = ap (λ o. ready_in_func p o block place) e in
    let lends : lends_at p func block ≡ lends_in_func p f (slice_get f.blocks block) = ap (λ o. lends_in p o block) e in
    record {
      told = λ loan. lends ∙ running p f block place (func_fits p func f w e) (subst (HasLoan p f) at loan);
      found = λ t. subst (HasLoan p f) (sym at) (run_loan p f (slice_get f.blocks block) place (sym lends ∙ t));
    }

pub waits : (p : Code) (func block place : ℕ) (f : Func) → IsWellFormed p → slice_get p.funcs func ≡ Some f
    → LendsWhere p f (waits_at p func block place) (lends_at p func block)
waits p func block place f w e =
    let at : waits_at p func block place ≡ waits_in_block p f (slice_get f.blocks block) place = ap (λ o. waits_in_func p o block place) e in
    let lends : lends_at p func block ≡ lends_in_func p f (slice_get f.blocks block) = ap (λ o. lends_in p o block) e in
    record {
      told = λ loan. lends ∙ waiting p f block place (func_fits p func f w e) (subst (HasLoan p f) at loan);
      found = λ t. subst (HasLoan p f) (sym at) (wait_loan p f (slice_get f.blocks block) place (sym lends ∙ t));
    }
