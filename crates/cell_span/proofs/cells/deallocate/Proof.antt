-- `deallocate` forgets the values, and hands the block back with the right to free it. Assumes `Logic`.
use Rattle.std.proofs.Common.{◌≡◌, ℕ, ◌+◌, ◌*◌, ◌^◌, ◌<◌, List, [], ◌∷◌, ◌++◌, length, refl, sym, ap, subst, ◌∙◌, w64, arith}
use native.Mathlib.Nat.{zero-mul}
use lib.Dec.{T as T'}
use Rattle.core.proofs.slots.Leases.{uncapped, block_ty, block_size, block_align, args, P}
use Rattle.std.proofs.alloc.Calls.{Al, token, Gives, at_gives, Gives-goes, Gives-Gives, Goes-blank}
use Rattle.std.proofs.mem.Param.{El, R, elτ}
use Rattle.std.proofs.raw_atomic.Walks.{proved_at, leaves}
use Rattle.std.proofs.RawLayout.{as_raw}
use Rattle.std.proofs.RcSteps.{word, word-Good}
use Rattle.std.proofs.VecSteps.Shapes.{after}
use mir.Syntax.{Fn, ty_unit, ty_array}
use mir.MapTy.{inst_fn}
use mir.Val.{Val, vptr, vint, vunit, has_ty, WT}
use base.Logic.{SProp, never, id⊢}
use base.Fml.{ftrue, froom, flft, Incl-trans}
use prog.Capped.{capped_fits}
use prog.Memory.{align, capped}
use prog.Wp.{Env, WpFn}
use contract.BorrowLft.{◌⊑◌}
use contract.Monad.{fact}
use contract.Running.{tables}
use types.Kit.{‵, raw, ◌⊛◌, given, later, prop, at_ret, ◌$◌, ◌∵◌, !, qed, by, move, keep, drop as leave, await, learn, group, use1, split, split3, join, regoal, rewrite, fsplit, fsplit3, fjoin, feq_i, feq_l, flt_l}
use types.Part.{whole, sub}
use types.Run.{stop, fld, of_opd, unit_lit, bin, size_word, align_word, no_more, and_then, first, blocks, exec, returns, enter}
use types.ByLocal.{alloc_all, pass_all, free_all, look_at, get, get_in, sets, is, lands_last, env}
use denote.Builtin.{RefOf, usize}
use denote.RattleType.{owns}
use denote.RawPtr.{Ptr, ptr_val, in_a_block}
use denote.Signature.{types_at, plain}
use denote.Steps.{nothing, heard}
use denote.Triple.Call.{calls_at_last}
use denote.Triple.Table.{framed}
use denote.Triple.Walked.{Stays, stay_dropped, walk_of, Goes-dropped}
use Rattle.cell_span.specs.Ownership.{offset, owned, freed_by}
use Rattle.cell_span.specs.contracts.cells.Deed as right
use Rattle.cell_span.specs.contracts.cells.deallocate.{ended, clauses}
use Rattle.cell_span.specs.contracts.cells.deallocate.Key.{name as #self}
use Rattle.cell_span.proofs.Rows.{size_of, Full, full_is_room}
use Rattle.cell_span.proofs.Values.{Owner, Start, unmarked, was_unmarked, was_pointer}
use Rattle.cell_span.proofs.cells.deallocate.Statement.{statement}
use Rattle.cell_span.proofs.cells.deallocate.Code as compiled

pub deallocate_spec : {M : Type 1} → statement M
deallocate_spec 𝓤 𝓛 𝓜 𝓡 wired X W laws handle_laws ghosts methods drops met_methods met_drops =
    let E : El = record { row = X; laws = laws } in
    let Z : Al = record { row = W; laws = handle_laws; g = ghosts; d = methods; drops = drops } in
    let H = 𝓛.H in let 𝓣 = tables 𝓤 H 𝓜 𝓡 𝓡.env in
    let T = ended X W ghosts methods drops in let c = clauses X W ghosts methods drops 𝓛 𝓜.mem 𝓡.returns in
    let fn : Fn = inst_fn (args E Z) compiled.function in
    let handle = RefOf (0 ∷ []) tt (plain (λ _. P E Z)) (λ _. tt) in
    let start = plain (λ _. Start E) in let number = plain (λ _. usize) in let owner = plain (λ _. Owner E) in let deed_slot = plain (λ _. right.the_row (R E) (P E Z) ghosts) in
    let stays : Stays T.signature.params T.kept =
    (stay_dropped handle T.kept.0, (stay_dropped start T.kept.1.0, (stay_dropped number T.kept.1.1.0, (stay_dropped owner T.kept.1.1.1.0, (stay_dropped deed_slot T.kept.1.1.1.1.0, tt))))) in
    proved_at 𝓛 T stays c 𝓜 𝓡 (
      Goes-dropped 𝓛 3 handle T.kept.0 (λ κs x w. refl),
      (
        Goes-dropped 𝓛 3 start T.kept.1.0 (λ κs x w. refl),
        (
          Goes-dropped 𝓛 3 number T.kept.1.1.0 (λ κs x w. refl),
          (Goes-blank 𝓛 3 owner T.kept.1.1.1.0 (λ κs x w. tt), (Goes-blank 𝓛 3 deed_slot T.kept.1.1.1.1.0 (λ κs x w. tt), tt)),
        ),
      ),
    )
    (#self (args E Z)) fn (compiled.unfolded 𝓤 H 𝓜 𝓡 wired (X, (W, tt)) methods drops) (λ z are.
    let Post : Val → SProp 𝓤 = (walk_of 𝓛 T stays c).post z in
    let κ = z.0.0.0 in let q = z.0.1.0 in let κ₁ = z.0.0.1.0 in let κ₂ = z.0.0.1.1.0 in let rest = ‵ (flft κ₁ z.0.1.1.0) ⊛ ‵ (flft κ₂ z.0.1.1.1.0) ⊛ ‵ ftrue in
    let a = z.0.3.0.now in let rb = z.0.3.0.ref_ptr.0 in let ro = z.0.3.0.ref_ptr.1 in let base = z.0.3.1.0 in let len = z.0.3.1.1.0 in
    let d = z.0.3.1.1.1.0 in let deed = z.0.3.1.1.1.1.0 in let vss = z.0.4 in
    let Places : Type 0 = (d.at ≡ base.ptr) × (d.first ≡ 0) × (length d.items ≡ len) × (d.spare ≡ 0) in
    let Right : Type 0 = (deed.at ≡ base.ptr) × (deed.len ≡ len) × (deed.alloc ≡ a) in
    qed 𝓛 (((‵ (flft κ q) ⊛ rest) ⊛ ‵ (owns (types_at T.signature.params z.0.0) z.0.3 vss))
    ∷ (raw (fact 𝓤 (κ₁ ⊑ X.lives)) ⊛ raw (fact 𝓤 (κ₂ ⊑ W.lives)) ⊛ raw (fact 𝓤 Places) ⊛ raw (fact 𝓤 Right)) ∷ []) ∵
    move ! (1 ∷ []) $ split3 ! $ heard ! (κ₁ ⊑ X.lives) (λ lives. heard ! (κ₂ ⊑ W.lives) (λ within. split ! $ heard ! Places (λ places. heard ! Right (λ may_free. split ! $ split ! $ move ! (2 ∷ []) $
    -- [what the parameters own; the token of the `&`; the other tokens]
    fsplit ! $ fsplit ! $ feq_l ! (λ e0. move ! (1 ∷ []) $ fsplit ! $ was_pointer ! base.ptr vss.1.0 (λ e1. fsplit ! $ fsplit ! $ feq_l ! (λ e2. flt_l ! (λ small.
    fsplit ! $ fsplit ! $ was_unmarked ! E vss.1.1.1.0 (λ e3. move ! (1 ∷ []) $ fsplit ! $ fsplit ! $ was_unmarked ! E vss.1.1.1.1.0 (λ e4.
    -- [the right to free; nothing; the places; the `&`; its token; the other tokens]
    keep ! (2 ∷ 0 ∷ 3 ∷ 4 ∷ 5 ∷ []) $
    regoal ! (λ (us : List Val). prop (WpFn 𝓤 H 𝓣.C 𝓣.Λ fn us Post)) (λ j. e0 j ++ (e1 j ++ (e2 j ++ (e3 j ++ (e4 j ++ []))))) refl $
    enter ! 𝓣.C 𝓣.Λ fn (vptr rb ro ∷ word base.ptr ∷ vint w64 len ∷ unmarked ∷ unmarked ∷ []) Post $
    alloc_all ! (λ l. pass_all ! refl ((tt, tt), (word-Good [] base.ptr, ((tt, record { fits = small }), ((tt, (tt, tt)), ((tt, (tt, tt)), tt))))) $ let En : Env 𝓤 H = env fn.locals l in
    rewrite ! 0 (λ (p : Ptr). ‵ (owned (R E) p d.first d.items d.spare)) places.0 refl $
    in_a_block ! base.ptr (λ p. owned (R E) p d.first d.items d.spare) (id⊢ 𝓤 (never 𝓤)) (λ b o e. fsplit3 ! $ flt_l ! (λ fits. move ! (1 ∷ []) $ leave ! $
    let s = size_of E in let al = capped (align (elτ E)) in let block = block_ty E len in
    let all : d.first + length d.items + d.spare ≡ len = omega (arith, places.1, places.2, places.3) in
    let below : len * s < 2 ^ 63 = subst (λ (k : ℕ). k * s < 2 ^ 63) all fits in let bytes : len * s < 2 ^ 64 = omega (arith, below) in
    let from : offset (R E) o d.first ≡ o = omega (arith, ap (λ (k : ℕ). k * s) places.1, zero-mul s) in
    let y = at_gives Z 𝓛 𝓜.mem 𝓡.returns κ q (rb, ro) a b o (len * s) al block in
    rewrite ! 0 (λ (k : ℕ). ‵ (Full E 𝓛 b k d.items)) from refl $
    use1 𝓛 (‵ (froom (ty_array (elτ E) (length d.items)) b o)) (full_is_room E 𝓛 b d.items o) $
    rewrite ! 0 (λ (k : ℕ). ‵ (froom (ty_array (elτ E) k) b o)) places.2 refl $ as_raw ! (ty_array (elτ E) len) b o $
    rewrite ! 1 (λ (k : W.Denot × Ptr × ℕ). ‵ (freed_by (R E) (token Z k.0) k.1 k.2)) (λ j. (may_free.2 j, (may_free.0 ∙ e) j, may_free.1 j)) refl $
    -- [the block's room; the right to free it; the `&`; its token; the other tokens]
    first ! $ blocks ! $ sets ! (is ! (of_opd ! (get_in ! (fld ! refl (stop !)) (sub ! 0 refl (whole !)))) (ap ptr_val e)) refl (tt, tt) $
    sets ! (is ! (bin ! (get ! refl) (size_word !) (record { fits = subst (λ (k : ℕ). k < 2 ^ 64) (sym (uncapped len s bytes)) bytes })) (ap (vint w64) (uncapped len s bytes))) refl (tt, record { fits = bytes }) $
    group ! 4 $ use1 𝓛 (raw ((Gives Z 𝓛 𝓜.mem 𝓡.returns).pre y))
    (Gives-goes Z 𝓛 𝓜.mem 𝓡.returns κ q (rb, ro) a (Incl-trans z.0.2.0 within) b o (len * s) al block (block_size E len bytes) (block_align E len) bytes (capped_fits (align (elτ E)))) $
    calls_at_last ! (framed 𝓤 H 𝓜 𝓣) (Gives Z 𝓛 𝓜.mem 𝓡.returns) (met_methods.deallocate drops) y
    (and_then ! (get ! refl) (and_then ! (get ! refl) (and_then ! (get ! refl) (and_then ! (align_word !) (no_more !))))) (λ v.
    use1 𝓛 (later (given (v ≡ vunit) (‵ (flft κ q)))) (Gives-Gives Z 𝓛 𝓜.mem 𝓡.returns κ q (rb, ro) a b o (len * s) al block v) $ await ! tt $ learn ! (λ is_unit.
    lands_last ! refl (subst (λ (u : Val). T' (has_ty ty_unit u) × WT u) (sym is_unit) (tt, tt)) $ exec ! 𝓣.C 𝓣.Λ En (after 1 fn.body) (at_ret En Post) $
    sets ! (of_opd ! (unit_lit !)) refl (tt, tt) $ returns ! (look_at ! 0 refl) $ free_all ! refl $
    -- [the token of the `&`; the other tokens]
    join ! $ nothing ! $ nothing ! $ fjoin ! $ nothing ! $ fjoin ! $ nothing ! $ fjoin ! $ nothing ! $ fjoin ! $ nothing ! $ fjoin ! $
    feq_i ! (List Val) (vunit ∷ []) (vunit ∷ []) refl $ nothing ! $ move ! (3 ∷ 2 ∷ 1 ∷ 0 ∷ []) $
    by ! (leaves 𝓛 T stays c z vunit tt (tt, (tt, (tt, (tt, (tt, tt))))) (tt, (tt, (tt, (tt, (tt, tt))))))))))))))))))))))
