-- `allocate` takes the room that the allocator gives as a row of empty places, and keeps the right to free it. Assumes
-- `Logic`.
use Rattle.std.proofs.Common.{◌≡◌, ℕ, ◌+◌, ◌*◌, ◌^◌, ◌<◌, List, [], ◌∷◌, ◌++◌, refl, sym, ap, subst, w64, lit<, true, false, arith}
use Rattle.std.specs.Prelude.{IfOk, Ok, Err}
use Rattle.std.specs.Vec.Ownership.{FitsInBlock}
use native.Mathlib.Nat.{zero-mul}
use Rattle.core.proofs.slots.Leases.{uncapped, block_ty, block_size, block_align, args, P}
use Rattle.core.specs.contracts.alloc.AllocError as refusal
use Rattle.core.specs.contracts.result.Result as result
use Rattle.std.proofs.alloc.Calls.{Al, Answer-typed, Takes, at_takes, Answered, Takes-goes, Takes-gives, answers}
use Rattle.std.proofs.mem.Param.{El, R, elτ}
use Rattle.std.proofs.raw_atomic.Walks.{proved_at, leaves}
use Rattle.std.proofs.RawLayout.{as_written}
use Rattle.std.proofs.RcSteps.{Good, word, word-Good, first_Good}
use Rattle.std.proofs.ResultValues.{ok_of, err_of}
use Rattle.std.proofs.VecSteps.Shapes.{after, head, arm_body}
use mir.Syntax.{Fn, Body, ty_array}
use mir.MapTy.{inst_fn}
use mir.Val.{Val, vptr, vint, vstruct, vcons, vnil}
use base.Logic.{SProp, emp}
use base.Fml.{ftrue, flft, Incl-trans}
use prog.Capped.{capped_fits}
use prog.Memory.{align, capped}
use prog.Wp.{Env, Wp, WpFn, after_seq, at_return}
use contract.BorrowLft.{◌⊑◌}
use contract.Monad.{fact, fact_i}
use contract.Running.{tables}
use types.Kit.{Post as After, any_q, ‵, raw, ◌⊛◌, later, prop, at_ret, ◌$◌, ◌∵◌, !, qed, by, move, keep, await, use0, use1, use2, use3, split, split3, join, regoal, fsplit, fjoin, fjoin3, feq_l, flt_i, flt_l}
use types.Match.{live, vrt, in_variant}
use types.Part.{whole, agg}
use types.Run.{stop, fld, lit, of_opd, bin, size_word, align_word, no_more, and_then, first, switches_on, exec, returns, enter}
use types.ByLocal.{alloc_all, pass_all, free_all, look_at, get, get_in, get_tag, sets, sets_last, is, lands_as, env}
use denote.Builtin.{RefOf, usize}
use denote.Laws.{Is}
use denote.Param.{layout}
use denote.RattleType.{RattleType, owns}
use denote.RawPtr.{Ptr, block_ptr}
use denote.Signature.{types_at, plain}
use denote.Steps.{nothing, heard, owned as makes}
use denote.Struct.Declared as Declared
use denote.Struct.Struct.{Struct, Struct-Makes}
use denote.Struct.Tuple.{Tuple}
use denote.Triple.Call.{calls_at}
use denote.Triple.Table.{framed}
use denote.Triple.Walked.{Stays, stay_dropped, walk_of, Goes-dropped}
use Rattle.cell_span.specs.Ownership.{offset}
use Rattle.cell_span.specs.contracts.cells.Deed as right
use Rattle.cell_span.specs.contracts.cells.allocate.{ended, clauses}
use Rattle.cell_span.specs.contracts.cells.allocate.Key.{name as #self}
use Rattle.cell_span.proofs.Rows.{size_of, Empty, room_is_empty}
use Rattle.cell_span.proofs.Values.{Owner, Start, Fields, unmarked, unmarked_made, makes_pointer, three_vals, three_of}
use Rattle.cell_span.proofs.cells.allocate.Statement.{statement}
use Rattle.cell_span.proofs.cells.allocate.Code as compiled

pub allocate_spec : {M : Type 1} → statement M
allocate_spec 𝓤 𝓛 𝓜 𝓡 wired X W laws handle_laws ghosts methods drops met_methods met_drops =
    let E : El = record { row = X; laws = laws } in
    let Z : Al = record { row = W; laws = handle_laws; g = ghosts; d = methods; drops = drops } in
    let H = 𝓛.H in let 𝓣 = tables 𝓤 H 𝓜 𝓡 𝓡.env in
    let T = ended X W ghosts methods drops in let c = clauses X W ghosts methods drops 𝓛 𝓜.mem 𝓡.returns in
    let fn : Fn = inst_fn (args E Z) compiled.function in
    let Right : RattleType = right.the_row (R E) (P E Z) ghosts in let Three : RattleType = Tuple (Start E ∷ Owner E ∷ Right ∷ []) in let Out : RattleType = result.the_row Three refusal.the_row in
    let handle = RefOf (0 ∷ []) tt (plain (λ _. P E Z)) (λ _. tt) in let number = plain (λ _. usize) in
    let stays : Stays T.signature.params T.kept = (stay_dropped handle T.kept.0, (stay_dropped number T.kept.1.0, tt)) in
    proved_at 𝓛 T stays c 𝓜 𝓡 (Goes-dropped 𝓛 3 handle T.kept.0 (λ κs x w. refl), (Goes-dropped 𝓛 3 number T.kept.1.0 (λ κs x w. refl), tt))
    (#self (args E Z)) fn (compiled.unfolded 𝓤 H 𝓜 𝓡 wired (X, (W, tt)) methods drops) (λ z are.
    let Post : Val → SProp 𝓤 = (walk_of 𝓛 T stays c).post z in
    let κ = z.0.0.0 in let q = z.0.1.0 in let κ₁ = z.0.0.1.0 in let κ₂ = z.0.0.1.1.0 in let rest = ‵ (flft κ₁ z.0.1.1.0) ⊛ ‵ (flft κ₂ z.0.1.1.1.0) ⊛ ‵ ftrue in
    let a = z.0.3.0.now in let rb = z.0.3.0.ref_ptr.0 in let ro = z.0.3.0.ref_ptr.1 in let len = z.0.3.1.0 in let vss = z.0.4 in
    let Fits : Type 0 = FitsInBlock (R E) len in
    let Has-places : Out.Denot → Type 0 = λ r. IfOk r (λ t. (t.1.at ≡ t.0.ptr) × (t.1.first ≡ 0) × (t.1.items ≡ []) × (t.1.spare ≡ len)) in
    let Has-right : Out.Denot → Type 0 = λ r. IfOk r (λ t. (t.2.at ≡ t.0.ptr) × (t.2.len ≡ len) × (t.2.alloc ≡ a)) in
    qed 𝓛 (((‵ (flft κ q) ⊛ rest) ⊛ ‵ (owns (types_at T.signature.params z.0.0) z.0.3 vss)) ∷ (raw (fact 𝓤 (κ₁ ⊑ X.lives)) ⊛ raw (fact 𝓤 (κ₂ ⊑ W.lives)) ⊛ raw (fact 𝓤 Fits)) ∷ []) ∵
    move ! (1 ∷ []) $ split3 ! $ heard ! (κ₁ ⊑ X.lives) (λ lives. heard ! (κ₂ ⊑ W.lives) (λ within. heard ! Fits (λ fits. split ! $ split ! $ move ! (2 ∷ []) $
    -- [what the parameters own; the token of the `&`; the other tokens]
    fsplit ! $ fsplit ! $ feq_l ! (λ e0. move ! (1 ∷ []) $ fsplit ! $ fsplit ! $ feq_l ! (λ e1. flt_l ! (λ small. keep ! (1 ∷ 2 ∷ 3 ∷ []) $
    regoal ! (λ (us : List Val). prop (WpFn 𝓤 H 𝓣.C 𝓣.Λ fn us Post)) (λ j. e0 j ++ (e1 j ++ [])) refl $
    enter ! 𝓣.C 𝓣.Λ fn (vptr rb ro ∷ vint w64 len ∷ []) Post $
    alloc_all ! (λ l. pass_all ! refl ((tt, tt), ((tt, record { fits = small }), tt)) $ let En : Env 𝓤 H = env fn.locals l in
    let s = size_of E in let al = capped (align (elτ E)) in let block = block_ty E len in
    let below : len * s < 2 ^ 63 = fits.0 in let bytes : len * s < 2 ^ 64 = omega (arith, below) in
    let arms : Body = head (after 2 fn.body) in
    let Then : After 𝓤 H = any_q (after_seq 𝓤 H (Wp 𝓤 H 𝓣.C 𝓣.Λ En (after 3 fn.body) (at_return 𝓤 H En Post)) (at_return 𝓤 H En Post)) in
    let y = at_takes Z 𝓛 𝓜.mem 𝓡.returns κ q (rb, ro) a (len * s) al block in
    sets ! (is ! (bin ! (get ! refl) (size_word !) (record { fits = subst (λ (k : ℕ). k < 2 ^ 64) (sym (uncapped len s bytes)) bytes })) (ap (vint w64) (uncapped len s bytes))) refl (tt, record { fits = bytes }) $
    use2 𝓛 (raw ((Takes Z 𝓛 𝓜.mem 𝓡.returns).pre y))
    (Takes-goes Z 𝓛 𝓜.mem 𝓡.returns κ q (rb, ro) a (Incl-trans z.0.2.0 within) (len * s) al block (block_size E len bytes) (block_align E len) bytes (capped_fits (align (elτ E)))) $
    calls_at ! (framed 𝓤 H 𝓜 𝓣) (Takes Z 𝓛 𝓜.mem 𝓡.returns) (met_methods.allocate drops) y (and_then ! (get ! refl) (and_then ! (get ! refl) (and_then ! (align_word !) (no_more !)))) (λ v.
    use1 𝓛 (later (raw (Answered Z 𝓛 𝓜.mem 𝓡.returns a block v) ⊛ ‵ (flft κ q))) (Takes-gives Z 𝓛 𝓜.mem 𝓡.returns κ q (rb, ro) a (len * s) al block v) $ await ! tt $ split ! $
    answers Z ! 𝓜.mem 𝓡.returns a block v
    -- the block's room, the right to free it, the token of the `&` and the other tokens
    (λ b o e.
    let p : Ptr = block_ptr b o in
    let base : (Start E).Denot = record { ptr = p } in
    let cells : (Owner E).Denot = record { mark = record {}; at = p; first = 0; items = []; spare = len } in
    let deed : Right.Denot = record { mark = record {}; at = p; len = len; alloc = a } in
    let made : Val = three_vals (word p) unmarked unmarked in
    let good : Good (layout Three) made = (tt, ((tt, tt), ((tt, tt), ((tt, tt), tt)))) in
    let whole_good = first_Good (layout Three) made good in
    let all : len ≡ 0 + 0 + len = omega arith in let from : o ≡ offset (R E) o (0 + 0) = omega (arith, zero-mul s) in
    lands_as ! e refl (Answer-typed true b o) $ first ! $ switches_on ! (get_tag ! (vrt ! refl (fld ! refl (stop !))) (whole !)) $ exec ! 𝓣.C 𝓣.Λ En (arm_body 0 arms) Then $
    sets ! (of_opd ! (get_in ! (vrt ! refl (fld ! refl (stop !))) (in_variant ! 0 0 refl refl (whole !)))) refl (tt, tt) $ sets ! (of_opd ! (get ! refl)) refl (tt, tt) $
    sets ! (agg ! (and_then ! (get ! refl) (no_more !))) refl (word-Good [] p) $
    sets ! (agg ! (no_more !)) refl (tt, tt) $ sets ! (agg ! (and_then ! (get ! refl) (no_more !))) refl (tt, (tt, tt)) $
    sets ! (agg ! (no_more !)) refl (tt, tt) $ sets ! (agg ! (and_then ! (get ! refl) (no_more !))) refl (tt, (tt, tt)) $
    sets ! (of_opd ! (get ! refl)) refl (tt, (tt, tt)) $ sets ! (of_opd ! (get ! refl)) refl (tt, (tt, tt)) $
    sets ! (agg ! (and_then ! (get ! refl) (and_then ! (get ! refl) (and_then ! (get ! refl) (no_more !))))) refl good $
    sets_last ! (agg ! (and_then ! (lit ! tt) (and_then ! (get ! refl) (no_more !)))) refl whole_good $
    exec ! 𝓣.C 𝓣.Λ En (after 3 fn.body) (at_ret En Post) $ sets ! (of_opd ! (get ! refl)) refl whole_good $
    move ! (1 ∷ []) $ use0 𝓛 (‵ ((Fields E).own_val (tt, tt) (unmarked ∷ []))) (unmarked_made E 𝓛) $ fjoin ! $ move ! (1 ∷ []) $
    -- [the block's room; the deed; ..]
    as_written ! (ty_array (elτ E) len) b o $ use1 𝓛 (‵ (Empty E 𝓛 b o len)) (room_is_empty E 𝓛 b len o) $
    types.Kit.rewrite ! 0 (λ (k : ℕ). ‵ (Empty E 𝓛 b k len)) from refl $ nothing ! $
    flt_i ! ((0 + 0 + len) * s) (2 ^ 63) (subst (λ (k : ℕ). k * s < 2 ^ 63) all below) $ fjoin3 ! $
    use0 𝓛 (‵ ((Fields E).own_val (tt, tt) (unmarked ∷ []))) (unmarked_made E 𝓛) $ fjoin ! $ makes_pointer ! p $
    use3 𝓛 (‵ (Three.own_val (base, cells, deed) (made ∷ []))) (three_of 𝓛 (Start E) (Owner E) Right base cells deed (word p) unmarked unmarked) $
    use1 𝓛 (‵ (Out.own_val (Ok (base, cells, deed)) (live 0 (vcons made vnil) ∷ []))) (ok_of 𝓛 Three refusal.the_row (base, cells, deed) made) $
    returns ! (look_at ! 0 refl) $ free_all ! refl $ move ! (1 ∷ 2 ∷ []) $ join ! $ move ! (1 ∷ []) $
    use0 𝓛 (raw (fact 𝓤 (Has-right (Ok (base, cells, deed))))) (fact_i 𝓤 (Has-right (Ok (base, cells, deed))) (emp 𝓤) (refl, refl, refl)) $
    use0 𝓛 (raw (fact 𝓤 (Has-places (Ok (base, cells, deed))))) (fact_i 𝓤 (Has-places (Ok (base, cells, deed))) (emp 𝓤) (refl, refl, refl, refl)) $ join ! $
    nothing ! $ nothing ! $ fjoin ! $ nothing ! $ fjoin ! $ move ! (3 ∷ 0 ∷ 2 ∷ 1 ∷ []) $
    by ! (leaves 𝓛 T stays c z (live 0 (vcons made vnil)) (Ok (base, cells, deed)) (tt, (tt, tt)) (tt, (tt, tt))))
    -- the token of the `&` and the other tokens
    (λ e.
    let Refusal : RattleType = Struct (Declared.shape refusal.the_type) in
    let none : Val = live 1 (vcons (vstruct vnil) vnil) in
    lands_as ! e refl (Answer-typed false 0 0) $ first ! $ switches_on ! (get_tag ! (vrt ! refl (fld ! refl (stop !))) (whole !)) $ exec ! 𝓣.C 𝓣.Λ En (arm_body 1 arms) Then $
    sets ! (of_opd ! (get_in ! (vrt ! refl (fld ! refl (stop !))) (in_variant ! 1 0 refl refl (whole !)))) refl (tt, tt) $
    sets_last ! (agg ! (and_then ! (lit ! tt) (and_then ! (get ! refl) (no_more !)))) refl (tt, (record { fits = lit< tt }, (tt, tt))) $
    exec ! 𝓣.C 𝓣.Λ En (after 3 fn.body) (at_ret En Post) $ sets ! (of_opd ! (get ! refl)) refl (tt, (record { fits = lit< tt }, (tt, tt))) $
    makes ! Refusal (Is Refusal) (Struct-Makes 𝓛 (Declared.shape refusal.the_type) tt) tt (vstruct vnil ∷ []) (tt, (refl, tt)) $
    use1 𝓛 (‵ (Out.own_val (Err (record {})) (none ∷ []))) (err_of 𝓛 Three refusal.the_row (record {}) (vstruct vnil)) $
    returns ! (look_at ! 0 refl) $ free_all ! refl $ move ! (1 ∷ 2 ∷ []) $ join ! $ move ! (1 ∷ []) $
    use0 𝓛 (raw (fact 𝓤 (Has-right (Err (record {}))))) (fact_i 𝓤 (Has-right (Err (record {}))) (emp 𝓤) tt) $
    use0 𝓛 (raw (fact 𝓤 (Has-places (Err (record {}))))) (fact_i 𝓤 (Has-places (Err (record {}))) (emp 𝓤) tt) $ join ! $
    nothing ! $ nothing ! $ fjoin ! $ nothing ! $ fjoin ! $ move ! (3 ∷ 0 ∷ 2 ∷ 1 ∷ []) $
    by ! (leaves 𝓛 T stays c z none (Err (record {})) (tt, (tt, tt)) (tt, (tt, tt)))))))))))))
