-- `get` reckons where the place begins, and hands out what is lent of the value there. Assumes `Logic`.
use Rattle.std.proofs.Common.{◌≡◌, ◌+◌, ◌-◌, ◌*◌, ◌^◌, ◌<◌, ◌≤◌, List, [], ◌∷◌, ◌++◌, length, refl, ◌∙◌, w64, arith}
use Rattle.std.specs.Prelude.{Some, slice_get}
use Rattle.std.proofs.mem.Param.{El, R, args}
use Rattle.std.proofs.ptr.Rows.{times_below, one_below}
use Rattle.std.proofs.raw_atomic.Walks.{proved_at, leaves}
use Rattle.std.proofs.RcSteps.{word, word-Good}
use Rattle.std.proofs.VecSteps.Shapes.{after}
use mir.Syntax.{Fn}
use mir.MapTy.{inst_fn}
use mir.Val.{Val, vptr, vint}
use base.Fraction.{full_share}
use base.Logic.{SProp, emp, never, id⊢}
use base.Fml.{ftrue, fat, flft}
use prog.Wp.{Env, WpFn}
use contract.BorrowLft.{◌⊑◌}
use contract.Monad.{fact, fact_i}
use contract.Running.{tables}
use types.Kit.{‵, raw, ◌⊛◌, prop, at_ret, ◌$◌, ◌∵◌, !, qed, by, move, keep, drop, use0, use1, split, split3, regoal, rewrite, fsplit, fjoin, feq_i, feq_l, flt_l}
use types.Part.{whole, sub}
use types.Run.{stop, fld, of_opd, bin, size_lit, addr, first, blocks, exec, returns, enter}
use types.ByLocal.{alloc_all, pass_all, free_all, look_at, get, get_in, through, sets, sets_last, take_at, give_at, env}
use denote.Builtin.{RefOf, usize}
use denote.Opens.{hide, unhide}
use denote.Memory.{shared_of}
use denote.Param.{layout}
use denote.RattleType.{owns}
use denote.RawPtr.{Ptr, in_a_block}
use denote.Signature.{types_at, plain}
use denote.Steps.{nothing, heard}
use denote.Triple.Walked.{Stays, stay_dropped, walk_of, Goes-dropped}
use Rattle.cell_span.specs.Ownership.{offset, lent}
use Rattle.cell_span.specs.contracts.cells.Cells.get.{ended, clauses}
use Rattle.cell_span.specs.contracts.cells.Cells.get.Key.{name as #self}
use Rattle.cell_span.proofs.Cutting.{around, place_of}
use Rattle.cell_span.proofs.Rows.{size_of, lent_one}
use Rattle.cell_span.proofs.Values.{Owner, Start, was_pointer}
use Rattle.cell_span.proofs.cells.Cells.get.Statement.{statement}
use Rattle.cell_span.proofs.cells.Cells.get.Code as compiled

pub get_spec : {M : Type 1} → statement M
get_spec 𝓤 𝓛 𝓜 𝓡 wired X laws =
    let E : El = record { row = X; laws = laws } in
    let H = 𝓛.H in let 𝓣 = tables 𝓤 H 𝓜 𝓡 𝓡.env in
    let T = ended X in let c = clauses X 𝓛 𝓜.mem 𝓡.returns in
    let fn : Fn = inst_fn (args E) compiled.function in
    let self = RefOf (0 ∷ []) tt (plain (λ _. Owner E)) (λ _. tt) in let start = plain (λ _. Start E) in let number = plain (λ _. usize) in
    let stays : Stays T.signature.params T.kept = (stay_dropped self T.kept.0, (stay_dropped start T.kept.1.0, (stay_dropped number T.kept.1.1.0, tt))) in
    proved_at 𝓛 T stays c 𝓜 𝓡
    (Goes-dropped 𝓛 2 self T.kept.0 (λ κs x w. refl), (Goes-dropped 𝓛 2 start T.kept.1.0 (λ κs x w. refl), (Goes-dropped 𝓛 2 number T.kept.1.1.0 (λ κs x w. refl), tt)))
    (#self (args E)) fn (compiled.unfolded 𝓤 H 𝓜 𝓡 wired (X, tt)) (λ z are.
    let Post : Val → SProp 𝓤 = (walk_of 𝓛 T stays c).post z in
    let κ = z.0.0.0 in let q = z.0.1.0 in let rest = ‵ (flft z.0.0.1.0 z.0.1.1.0) ⊛ ‵ ftrue in
    let d = z.0.3.0.now in let rb = z.0.3.0.ref_ptr.0 in let ro = z.0.3.0.ref_ptr.1 in let base = z.0.3.1.0 in let index = z.0.3.1.1.0 in let vss = z.0.4 in
    let Block : Type 0 = base.ptr ≡ d.at in let Place : Type 0 = (d.first ≤ index) × (index - d.first < length d.items) in
    qed 𝓛 (((‵ (flft κ q) ⊛ rest) ⊛ ‵ (owns (types_at T.signature.params z.0.0) z.0.3 vss)) ∷ (raw (fact 𝓤 (z.0.0.1.0 ⊑ X.lives)) ⊛ raw (fact 𝓤 Block) ⊛ raw (fact 𝓤 Place)) ∷ []) ∵
    move ! (1 ∷ []) $ split3 ! $ heard ! (z.0.0.1.0 ⊑ X.lives) (λ within. heard ! Block (λ block. heard ! Place (λ place. split ! $ move ! (1 ∷ []) $
    -- [what the parameters own; the tokens]
    fsplit ! $ fsplit ! $ feq_l ! (λ e0. move ! (1 ∷ []) $ fsplit ! $ was_pointer ! base.ptr vss.1.0 (λ e1. fsplit ! $ fsplit ! $ feq_l ! (λ e2. flt_l ! (λ small. keep ! (1 ∷ 2 ∷ []) $
    regoal ! (λ (us : List Val). prop (WpFn 𝓤 H 𝓣.C 𝓣.Λ fn us Post)) (λ i. e0 i ++ (e1 i ++ (e2 i ++ []))) refl $
    enter ! 𝓣.C 𝓣.Λ fn (vptr rb ro ∷ word base.ptr ∷ vint w64 index ∷ []) Post $
    alloc_all ! (λ l. pass_all ! refl ((tt, tt), (word-Good [] base.ptr, ((tt, record { fits = small }), tt))) $ let En : Env 𝓤 H = env fn.locals l in
    -- [what the `&` holds; the tokens]
    unhide ! $ fsplit ! $ drop ! $ in_a_block ! d.at (λ p. lent (R E) p d.first d.items d.spare κ) (id⊢ 𝓤 (never 𝓤)) (λ b o e. fsplit ! $ flt_l ! (λ fits.
    let s = size_of E in let i = index - d.first in let all = d.first + length d.items + d.spare in let a = around d.items i place.1 in
    let bytes : s < 2 ^ 64 = omega (arith, one_below all s (2 ^ 63) (omega (arith, place.1)) fits) in
    let far : index * s < 2 ^ 64 = omega (arith, times_below index all s (2 ^ 63) (omega (arith, place.0, place.1)) fits) in
    take_at ! 2 $ rewrite ! 0 (λ (p : Ptr). ‵ (fat full_share (layout (Start E)) (l 2) 0 (word p))) (block ∙ e) refl $ give_at ! 2 $
    first ! $ blocks ! $ sets ! (bin ! (get ! refl) (size_lit ! (record { fits = bytes })) (record { fits = far })) refl (tt, record { fits = far }) $
    sets ! (bin ! (get_in ! (fld ! refl (stop !)) (sub ! 0 refl (whole !))) (get ! refl) tt) refl (tt, tt) $
    use1 𝓛 (‵ (shared_of (R E) a.entry b (index * s + o) κ)) (lent_one E 𝓛 b κ d.items i (offset (R E) o d.first) (index * s + o) a.entry a.got (place_of d.first index s o place.0)) $ hide ! $
    sets_last ! (addr ! (through ! refl (stop !))) refl (tt, tt) $ exec ! 𝓣.C 𝓣.Λ En (after 1 fn.body) (at_ret En Post) $ sets ! (of_opd ! (get ! refl)) refl (tt, tt) $
    feq_i ! (List Val) (vptr b (index * s + o) ∷ []) (vptr b (index * s + o) ∷ []) refl $ fjoin ! $ returns ! (look_at ! 0 refl) $ free_all ! refl $
    -- [the `&` to the value; the tokens]
    use0 𝓛 (raw (fact 𝓤 (slice_get d.items i ≡ Some a.entry))) (fact_i 𝓤 (slice_get d.items i ≡ Some a.entry) (emp 𝓤) a.got) $
    nothing ! $ nothing ! $ fjoin ! $ nothing ! $ fjoin ! $ nothing ! $ fjoin ! $ move ! (3 ∷ 0 ∷ 2 ∷ 1 ∷ []) $
    by ! (leaves 𝓛 T stays c z (vptr b (index * s + o)) (record { ref_ptr = (b, index * s + o); now = a.entry }) (tt, (tt, (tt, tt))) (tt, (tt, (tt, tt)))))))))))))))
