-- The rows of ends of blocks are counted.
use Rattle.std.proofs.Common.{◌≡◌, ℕ, suc, ◌+◌, ◌≤◌, Bool, true, false, ℤ, pos, ◌+ℤ◌, List, [], ◌∷◌, ◌++◌, length, map, Some, IsTrue, refl, sym, ap, ◌∙◌, subst, arith}
use Rattle.std.specs.Prelude.{cond, if◌then◌else◌, slice_get}
use Rattle.std.specs.List.{AllByRecursion}
use Rattle.std.proofs.lemmas.Int.{ints}
use Rattle.camelot_values.specs.Kinds.{Constructor, DataType}
use Rattle.camelot_values.specs.Lists.{is_among}
use Rattle.grail_blocks.specs.declared.blocks.CaseCell.{CaseCell}
use Rattle.grail_blocks.specs.declared.blocks.CaseCell.TheVariants as cell
use Rattle.grail_blocks.specs.Events.{params_at}
use Rattle.grail_code.specs.PlaceLaws.{all_at}
use Rattle.grail_code.specs.Code.{CaseArm, Term, Ret, Tail, Goto, If, Case, Func, Code}
use Rattle.grail_code.specs.WellFormed.{kind_of, is_lent, HaveKinds, JumpFits, ArmsFit, data_type, TermFits, ArmLends, TermLends, FuncFits}
use Rattle.annotations.specs.Vectors.{is_heap_con}
use Rattle.licence.specs.Books.{Carried}
use Rattle.licence.specs.Rules.{Account, opened, found, in_arm, first_con_of, jump_asks}
use Rattle.licence.specs.Checks.{Check, Site, left_check, value_checks, local_checks, arguments_checks, jump_checks, arms_checks, term_checks}
use Rattle.lp_system.specs.Unknowns.{Need, Back, Result, BlockNeed, BlockVar, is_listed, carriers, local_carriers, unknowns_of}
use Rattle.lp_system.specs.Forms.{Form, forms, once, one_cell, unknown_book}
use Rattle.lp_system.specs.theory.Lent.{lent_none, owned_all, as_owned}
use Rattle.lp_system.specs.theory.Listing.{among_here, among_later, stands_listed}
use Rattle.lp_size.specs.declared.origins.Origin.{Origin}
use Rattle.lp_size.specs.declared.origins.Origin.TheVariants as origin
use Rattle.lp_size.specs.declared.origins.Slot.{Slot}
use Rattle.lp_size.specs.declared.taken.Taken.{Taken}
use Rattle.lp_size.specs.Counting.{more, same_origin, origin_at, local_rows, value_rows, back_rows, taken_behind_call, bound, var_rows, vars_onto, jump_rows, plain_jump_rows, arms_onto, term_rows}
use Rattle.lp_size.proofs.Caps.{cap, more_left, more_both, none}
use Rattle.lp_size.proofs.Asking.{kept, kept_append, units_of, IsOff, nothing_kept, value_kept}
use Rattle.lp_size.proofs.Left as left
use Rattle.lp_size.proofs.Left.{IsLeft, IsTaken, behind_call, taken_call, back_kept}
use Rattle.lp_size.proofs.Slots.{AreCarried, arm_carried, none_bound, block_off, AreQuiet, quiet_on, quiet_arm}
use Rattle.lp_size.proofs.Steps.{held, counted, local_kept, call_kept, need_listed, back_listed}

-- what a value carries is never what a block needs
carried_need : (o : Origin) (con func to : ℕ) → (units_of o con).factor (BlockNeed func to) ≡ pos 0
carried_need (origin.Param f x) con func to = refl
carried_need (origin.Result f) con func to = refl
carried_need (origin.BlockVar f b x) con func to = refl
carried_need (origin.Made f b n) con func to = refl

sum_none : (a x : ℤ) → a ≡ pos 0 → x ≡ pos 0 → a +ℤ x ≡ pos 0
sum_none a x e d = omega (arith, ints, e, d)

matched_need : (t : Bool) (form units : Form) (func to : ℕ) → form.factor (BlockNeed func to) ≡ pos 0 → units.factor (BlockNeed func to) ≡ pos 0
    → (cond t (forms.plus form units) form).factor (BlockNeed func to) ≡ pos 0
matched_need true form units func to e d = sum_none (form.factor (BlockNeed func to)) (units.factor (BlockNeed func to)) e d
matched_need false form units func to e d = e

module _ (p : Code) (func : ℕ) (f : Func) (there : slice_get p.funcs func ≡ Some f) (block : ℕ) (slots : List Slot) where
  -- ---- jumps

  -- a target's parameter, of which nothing is listed where it's lent
  var_kept : (s : Site) (have : Origin) (to x : ℕ) → (is_lent p.types f x ≡ true → IsOff (unknowns_of p) have)
      → ((c : ℕ) → IsTrue (is_among (local_carriers p.types f x) c) → IsTrue (is_listed (unknowns_of p) (BlockVar func to x c)))
      → kept (unknowns_of p) (value_checks p.types s (kind_of f x) (units_of have) (unknown_book.block_var func to x)) ≡ var_rows p.types f have (origin.BlockVar func to x) x
  var_kept s have to x quiet listed = by_lent (is_lent p.types f x) refl
    where
      need : Origin
      need = origin.BlockVar func to x

      by_same : (b : Bool) → ◌≡◌ {A = ℕ} 0 (if b then 0 else 0)
      by_same true = refl
      by_same false = refl

      by_lent : (b : Bool) → is_lent p.types f x ≡ b
          → kept (unknowns_of p) (value_checks p.types s (kind_of f x) (units_of have) (units_of need)) ≡ (if same_origin have need then 0 else length (local_carriers p.types f x))
      by_lent true e =
          nothing_kept (unknowns_of p) s p.types (kind_of f x) have need (quiet e) (block_off p func f there to x e)
          ∙ by_same (same_origin have need)
          ∙ ap (λ cs. if same_origin have need then 0 else length cs) (sym (lent_none p.types f x e))
      by_lent false e =
          value_kept (unknowns_of p) s p.types (kind_of f x) have need (λ c m. listed c (as_owned p.types f x c e m))
          ∙ ap (λ cs. if same_origin have need then 0 else length cs) (sym (owned_all p.types f x e))

  vars_kept : (s : Site) (carried : Carried Form) (fields : List ℕ) (matched : Origin)
      → ((x : ℕ) → carried x ≡ units_of (bound func block slots fields matched x))
      → ((x : ℕ) → is_lent p.types f x ≡ true → IsOff (unknowns_of p) (bound func block slots fields matched x)) → (to total : ℕ) (xs : List ℕ)
      → ((x c : ℕ) → IsTrue (is_among xs x) → IsTrue (is_among (local_carriers p.types f x) c) → IsTrue (is_listed (unknowns_of p) (BlockVar func to x c)))
      → vars_onto p.types f func block slots fields matched to (cap total) xs ≡ cap (total + kept (unknowns_of p) (local_checks p.types f s carried (map (λ x. (x, unknown_book.block_var func to x)) xs)))
  vars_kept s carried fields matched same quiet to total [] listed = let z : total ≡ total + 0 = omega arith in ap cap z
  vars_kept s carried fields matched same quiet to total (x ∷ xs) listed =
      ap (λ t. vars_onto p.types f func block slots fields matched to t xs) (more_left total (var_rows p.types f (bound func block slots fields matched x) (origin.BlockVar func to x) x))
      ∙ vars_kept s carried fields matched same quiet to (total + var_rows p.types f (bound func block slots fields matched x) (origin.BlockVar func to x) x) xs (λ y c m. listed y c (among_later y x xs m))
      ∙ ap cap (counted (unknowns_of p) total (var_rows p.types f (bound func block slots fields matched x) (origin.BlockVar func to x) x)
      (value_checks p.types s (kind_of f x) (carried x) (unknown_book.block_var func to x)) (local_checks p.types f s carried (map (λ x. (x, unknown_book.block_var func to x)) xs))
      (ap (λ u. kept (unknowns_of p) (value_checks p.types s (kind_of f x) u (unknown_book.block_var func to x))) (same x)
      ∙ var_kept s (bound func block slots fields matched x) to x (quiet x) (λ c m. listed x c (among_here x xs) m)))

  module _ (at : ℕ) where
    abbrev site : Site
    site = record { func = func; block = block; place = at }

    jump_kept : (account : Account Form) (fields : List ℕ) (matched : Origin)
        → ((x : ℕ) → account.carried x ≡ units_of (bound func block slots fields matched x))
        → ((x : ℕ) → is_lent p.types f x ≡ true → IsOff (unknowns_of p) (bound func block slots fields matched x)) → (to : ℕ) → JumpFits f block to
        → account.left.factor (BlockNeed func to) ≡ pos 0
        → jump_rows p.types f func block slots fields matched to ≡ cap (kept (unknowns_of p) (jump_checks p f unknown_book site account to))
    jump_kept account fields matched same quiet to fits e =
        ap (λ n. more (vars_onto p.types f func block slots fields matched to n (params_at f.blocks to)) 1) none
        ∙ ap (λ n. more n 1) (vars_kept site account.carried fields matched same quiet to 0 (params_at f.blocks to)
        (λ x c m g. stands_listed p (BlockVar func to x c) (f, there, (some, fits.1, m, g))))
        ∙ more_left (0 + kept (unknowns_of p) values) 1
        ∙ ap cap whole
      where
        some : 1 ≤ to
        some = omega (arith, fits.0)

        values : List (Check Form)
        values = local_checks p.types f site account.carried (jump_asks f unknown_book func to)

        whole : 0 + kept (unknowns_of p) values + 1 ≡ kept (unknowns_of p) (values ++ left_check site account.left (once (BlockNeed func to)) ∷ [])
        whole =
            let a = kept_append (unknowns_of p) values (left_check site account.left (once (BlockNeed func to)) ∷ []) in
            let n = left.jump_kept (unknowns_of p) site func to account.left (stands_listed p (BlockNeed func to) (f, there, (some, fits.1))) e in
            omega (arith, a, n)

    module _ (t : Taken) (account : Account Form) (h : AreCarried func block slots account.carried) (k : IsTaken (unknowns_of p) func t account.left) (l : IsLeft func block at account.left) (quiet : AreQuiet p f func block slots) where
      plain_kept : (to : ℕ) → JumpFits f block to
          → plain_jump_rows p.types f func block slots to ≡ cap (kept (unknowns_of p) (jump_checks p f unknown_book site account to))
      plain_kept to fits = jump_kept account [] (origin.Result func) (none_bound func block slots account.carried (origin.Result func) h) (quiet_on p f func block slots (origin.Result func) quiet) to fits (l.need to fits.0)

      arm_kept : (on con : ℕ) (a : CaseArm) → JumpFits f block a.target → ArmLends p.types f (is_lent p.types f on) a
          → jump_rows p.types f func block slots a.fields (origin_at func block slots on) a.target ≡ cap (kept (unknowns_of p) (jump_checks p f unknown_book site (in_arm forms p.types unknown_book account on con a) a.target))
      arm_kept on con a fits lends = jump_kept (in_arm forms p.types unknown_book account on con a) a.fields (origin_at func block slots on) (carried a.cell) (quiet_arm p f func block slots on a lends quiet) a.target fits (left a.cell)
        where
          carried : (c : CaseCell) (x : ℕ) → (found forms p.types one_cell account on con a.fields c).carried x ≡ units_of (bound func block slots a.fields (origin_at func block slots on) x)
          carried cell.Free = arm_carried func block slots account.carried a.fields on h
          carried cell.Inline = arm_carried func block slots account.carried a.fields on h
          carried cell.Look = arm_carried func block slots account.carried a.fields on h
          carried (cell.Keep d) = arm_carried func block slots account.carried a.fields on h

          node : (opened forms p.types account on con a.fields).left.factor (BlockNeed func a.target) ≡ pos 0
          node = matched_need (is_heap_con p.types con) account.left (account.carried on con) func a.target (l.need a.target fits.0)
              (ap (λ u. (u con).factor (BlockNeed func a.target)) (h.same on) ∙ carried_need (origin_at func block slots on) con func a.target)

          left : (c : CaseCell) → (found forms p.types one_cell account on con a.fields c).left.factor (BlockNeed func a.target) ≡ pos 0
          left cell.Free = sum_none ((opened forms p.types account on con a.fields).left.factor (BlockNeed func a.target)) (pos 0) node refl
          left cell.Inline = node
          left cell.Look = node
          left (cell.Keep d) = node

      arms_kept : (on con total : ℕ) (cs : List Constructor) (arms : List CaseArm) → ArmsFit f block cs arms → AllByRecursion (ArmLends p.types f (is_lent p.types f on)) arms
          → arms_onto p.types f func block slots (origin_at func block slots on) (cap total) arms ≡ cap (total + kept (unknowns_of p) (arms_checks forms p f unknown_book site account on con arms))
      arms_kept on con total [] [] fits lends = let z : total ≡ total + 0 = omega arith in ap cap z
      arms_kept on con total [] (a ∷ arms) fits lends = absurd fits
      arms_kept on con total (c ∷ cs) [] fits lends = absurd fits
      arms_kept on con total (c ∷ cs) (a ∷ arms) fits lends =
          let part : List (Check Form) = jump_checks p f unknown_book site (in_arm forms p.types unknown_book account on con a) a.target in
          ap (λ n. arms_onto p.types f func block slots (origin_at func block slots on) (more (cap total) n) arms) (arm_kept on con a fits.0.jump lends.0)
          ∙ ap (λ n. arms_onto p.types f func block slots (origin_at func block slots on) n arms) (more_both total (kept (unknowns_of p) part))
          ∙ arms_kept on (suc con) (total + kept (unknowns_of p) part) cs arms fits.1 lends.1
          ∙ ap cap (counted (unknowns_of p) total (kept (unknowns_of p) part) part (arms_checks forms p f unknown_book site account on (suc con) arms) refl)

      -- ---- results

      result_listed : (c : ℕ) → IsTrue (is_among (carriers p.types (Some f.result)) c) → IsTrue (is_listed (unknowns_of p) (Result func c))
      result_listed c m = stands_listed p (Result func c) (f, there, m)

      own_need : IsTrue (is_listed (unknowns_of p) (Need func))
      own_need = need_listed p func f there block at slots t account h k func f there

      ret_kept : (x : ℕ) → kind_of f x ≡ Some f.result
          → term_rows p f func block slots t (Ret x) ≡ cap (kept (unknowns_of p) (term_checks forms p f unknown_book site account (Ret x)))
      ret_kept x q =
          let v = local_kept p func f there site block slots account.carried h x (origin.Result func) (λ c m. result_listed c (subst (λ o. IsTrue (is_among (carriers p.types o) c)) q m)) in
          let b = back_kept (unknowns_of p) site func t account.left own_need k in
          let a = kept_append (unknowns_of p) (value_checks p.types site (kind_of f x) (account.carried x) (unknown_book.result func)) (left_check site account.left (once (Back func)) ∷ []) in
          let whole : local_rows p.types f func block slots x (origin.Result func) + back_rows t
          ≡ kept (unknowns_of p) (value_checks p.types site (kind_of f x) (account.carried x) (unknown_book.result func) ++ left_check site account.left (once (Back func)) ∷ []) = omega (arith, v, b, a) in
          ap cap whole

      tail_kept : (callee : ℕ) (g : Func) (args : List ℕ) → slice_get p.funcs callee ≡ Some g → FuncFits p g → HaveKinds f args g.params
          → term_rows p f func block slots t (Tail callee args) ≡ cap (kept (unknowns_of p) (term_checks forms p f unknown_book site account (Tail callee args)))
      tail_kept callee g args e fits q =
          ap (λ n. more n (more (value_rows p.types (Some f.result) (origin.Result callee) (origin.Result func)) (back_rows (taken_behind_call func t callee)))) (call_kept p func f there block at slots t account h k callee g e fits args q)
          ∙ more_both (kept (unknowns_of p) (arguments ++ needed)) (value_rows p.types (Some f.result) (origin.Result callee) (origin.Result func) + back_rows (taken_behind_call func t callee))
          ∙ ap cap whole
        where
          arguments : List (Check Form)
          arguments = arguments_checks p f unknown_book site account callee args

          needed : List (Check Form)
          needed = left_check site account.left (once (Need callee)) ∷ []

          value : List (Check Form)
          value = value_checks p.types site (Some f.result) (unknown_book.result callee) (unknown_book.result func)

          last : List (Check Form)
          last = left_check site (behind_call account.left callee) (once (Back func)) ∷ []

          whole : kept (unknowns_of p) (arguments ++ needed) + (value_rows p.types (Some f.result) (origin.Result callee) (origin.Result func) + back_rows (taken_behind_call func t callee))
              ≡ kept (unknowns_of p) (arguments ++ (needed ++ (value ++ last)))
          whole =
              let v = value_kept (unknowns_of p) site p.types (Some f.result) (origin.Result callee) (origin.Result func) result_listed in
              let b = back_kept (unknowns_of p) site func (taken_behind_call func t callee) (behind_call account.left callee) own_need
              (taken_call (unknowns_of p) func callee t account.left (back_listed p func f there block at slots t account h k callee g e) k) in
              let a = kept_append (unknowns_of p) arguments needed in
              let c = kept_append (unknowns_of p) arguments (needed ++ (value ++ last)) in
              let d = kept_append (unknowns_of p) needed (value ++ last) in
              let i = kept_append (unknowns_of p) value last in
              omega (arith, v, b, a, c, d, i)

      if_kept : (x first second : ℕ) → JumpFits f block first → JumpFits f block second
          → term_rows p f func block slots t (If x first second) ≡ cap (kept (unknowns_of p) (term_checks forms p f unknown_book site account (If x first second)))
      if_kept x first second y n =
          ap (λ m. more m (plain_jump_rows p.types f func block slots second)) (plain_kept first y)
          ∙ ap (more (cap (kept (unknowns_of p) (jump_checks p f unknown_book site account first)))) (plain_kept second n)
          ∙ more_both (kept (unknowns_of p) (jump_checks p f unknown_book site account first)) (kept (unknowns_of p) (jump_checks p f unknown_book site account second))
          ∙ ap cap (sym (kept_append (unknowns_of p) (jump_checks p f unknown_book site account first) (jump_checks p f unknown_book site account second)))

      case_kept : (x : ℕ) (arms : List CaseArm) (d : DataType) → ArmsFit f block d.cons arms → AllByRecursion (ArmLends p.types f (is_lent p.types f x)) arms
          → term_rows p f func block slots t (Case x arms) ≡ cap (kept (unknowns_of p) (term_checks forms p f unknown_book site account (Case x arms)))
      case_kept x arms d fits lends =
          ap (λ n. arms_onto p.types f func block slots (origin_at func block slots x) n arms) none
          ∙ arms_kept x (first_con_of p.types (kind_of f x)) 0 d.cons arms fits lends
          ∙ ap cap zero_on
        where
          zero_on : 0 + kept (unknowns_of p) (arms_checks forms p f unknown_book site account x (first_con_of p.types (kind_of f x)) arms) ≡ kept (unknowns_of p) (arms_checks forms p f unknown_book site account x (first_con_of p.types (kind_of f x)) arms)
          zero_on = omega arith

      -- The end of a block.
      pub term_kept : AllByRecursion (FuncFits p) p.funcs → (end : Term) → TermFits p f block end → TermLends p f end
          → term_rows p f func block slots t end ≡ cap (kept (unknowns_of p) (term_checks forms p f unknown_book site account end))
      term_kept well (Ret x) fits lends = ret_kept x fits
      term_kept well (Tail callee args) fits lends =
          let c = held (λ g. HaveKinds f args g.params × (g.result ≡ f.result)) (slice_get p.funcs callee) fits in tail_kept callee c.0 args c.1 (all_at (FuncFits p) p.funcs callee c.0 well c.1) c.2.0
      term_kept well (Goto to) fits lends = plain_kept to fits
      term_kept well (If x first second) fits lends = if_kept x first second fits.1 fits.2
      term_kept well (Case x arms) fits lends = let d = held (λ d. ArmsFit f block d.cons arms) (data_type p.types (kind_of f x)) fits in case_kept x arms d.0 d.2 lends
