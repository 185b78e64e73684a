-- `push` reckons where the first empty place begins, and writes into it. Assumes `Logic`.
use Rattle.std.proofs.Common.{◌≡◌, ℕ, suc, ◌+◌, ◌-◌, ◌*◌, ◌^◌, ◌<◌, ◌≤◌, List, [], ◌∷◌, ◌++◌, length, length-append, refl, sym, ap, subst, ◌∙◌, w64, arith}
use native.Mathlib.Nat.{suc-mul}
use Rattle.std.proofs.mem.Param.{El, R, args, elτ}
use Rattle.std.proofs.ptr.Rows.{times_below, one_below}
use Rattle.std.proofs.raw_atomic.Walks.{proved_at, leaves}
use Rattle.std.proofs.RawLayout.{as_written}
use Rattle.std.proofs.RcSteps.{word, word-Good}
use Rattle.std.proofs.VecSteps.Shapes.{after}
use mir.Syntax.{Fn}
use mir.MapTy.{inst_fn}
use mir.Val.{Val, vptr, vint, vunit}
use base.Fraction.{full_share}
use base.Logic.{SProp, emp, never, id⊢}
use base.Fml.{ftrue, fat, flft}
use prog.Wp.{Env, WpFn}
use contract.BorrowLft.{◌⊑◌}
use contract.Monad.{fact, fact_i}
use contract.Running.{tables}
use types.Kit.{‵, raw, ◌⊛◌, prop, at_ret, ◌$◌, ◌∵◌, !, qed, by, move, keep, use0, use2, split, split3, join, regoal, rewrite, fsplit, fsplit3, fjoin, fjoin3, feq_i, feq_l, flt_i, flt_l}
use types.Part.{whole, sub}
use types.Run.{init, stop, fld, of_opd, unit_lit, bin, size_lit, assigns_last, first, blocks, exec, returns, enter}
use types.ByLocal.{alloc_all, pass_all, free_all, look_at, get, get_in, through, sets, take_at, give_at, env}
use denote.Builtin.{usize}
use denote.Memory.{part_at}
use denote.Param.{layout}
use denote.RattleType.{owns}
use denote.RawPtr.{Ptr, in_a_block}
use denote.Signature.{types_at, plain}
use denote.Steps.{nothing, heard, opens, closes}
use denote.Triple.Walked.{Stays, stay_dropped, stay_ref, walk_of, Goes-dropped, Goes-ref}
use Rattle.cell_span.specs.Ownership.{offset, owned}
use Rattle.cell_span.specs.contracts.cells.Cells.push.{ended, clauses}
use Rattle.cell_span.specs.contracts.cells.Cells.push.Key.{name as #self}
use Rattle.cell_span.proofs.Cutting.{place_behind}
use Rattle.cell_span.proofs.Rows.{size_of, Full, Empty, glue, value_in, was_one}
use Rattle.cell_span.proofs.Values.{Owner, Start, was_pointer}
use Rattle.cell_span.proofs.cells.Cells.push.Statement.{statement}
use Rattle.cell_span.proofs.cells.Cells.push.Code as compiled

pub push_spec : {M : Type 1} → statement M
push_spec 𝓤 𝓛 𝓜 𝓡 wired X laws =
    let E : El = record { row = X; laws = laws } in
    let H = 𝓛.H in let 𝓣 = tables 𝓤 H 𝓜 𝓡 𝓡.env in
    let T = ended X in let c = clauses X 𝓛 𝓜.mem 𝓡.returns in
    let fn : Fn = inst_fn (args E) compiled.function in
    let start = plain (λ _. Start E) in let number = plain (λ _. usize) in let value = plain (λ _. R E) in
    let stays : Stays T.signature.params T.kept =
    (stay_ref (0 ∷ []) tt (plain (λ _. Owner E)), (stay_dropped start T.kept.1.0, (stay_dropped number T.kept.1.1.0, (stay_dropped value T.kept.1.1.1.0, tt)))) in
    proved_at 𝓛 T stays c 𝓜 𝓡
    (Goes-ref 𝓛 2 0 tt (plain (λ _. Owner E)), (Goes-dropped 𝓛 2 start T.kept.1.0 (λ κs x w. refl), (Goes-dropped 𝓛 2 number T.kept.1.1.0 (λ κs x w. refl), (Goes-dropped 𝓛 2 value T.kept.1.1.1.0 (λ κs x w. refl), tt))))
    (#self (args E)) fn (compiled.unfolded 𝓤 H 𝓜 𝓡 wired (X, tt)) (λ z are.
    let Post : Val → SProp 𝓤 = (walk_of 𝓛 T stays c).post z in
    let κ = z.0.0.0 in let q = z.0.1.0 in let rest = ‵ (flft z.0.0.1.0 z.0.1.1.0) ⊛ ‵ ftrue in
    let d = z.0.3.0.now in let rb = z.0.3.0.ref_ptr.0 in let ro = z.0.3.0.ref_ptr.1 in
    let base = z.0.3.1.0 in let index = z.0.3.1.1.0 in let item = z.0.3.1.1.1.0 in let vss = z.0.4 in
    let Block : Type 0 = base.ptr ≡ d.at in let Next : Type 0 = index ≡ d.first + length d.items in let Room : Type 0 = 1 ≤ d.spare in
    let left = d.spare - 1 in
    let new : (Owner E).Denot = record { mark = d.mark; at = d.at; first = d.first; items = d.items ++ item ∷ []; spare = left } in
    let Stays-so : Type 0 = (d.at ≡ d.at) × (d.first ≡ d.first) × (left ≡ left) in let Is-so : Type 0 = new.items ≡ d.items ++ item ∷ [] in
    qed 𝓛 (((‵ (flft κ q) ⊛ rest) ⊛ ‵ (owns (types_at T.signature.params z.0.0) z.0.3 vss))
    ∷ (raw (fact 𝓤 (z.0.0.1.0 ⊑ X.lives)) ⊛ raw (fact 𝓤 Block) ⊛ raw (fact 𝓤 Next) ⊛ raw (fact 𝓤 Room)) ∷ []) ∵
    move ! (1 ∷ []) $ split3 ! $ heard ! (z.0.0.1.0 ⊑ X.lives) (λ within. heard ! Block (λ block. split ! $ heard ! Next (λ next. heard ! Room (λ has_room. split ! $ split ! $ move ! (2 ∷ []) $
    -- [what the parameters own; the token of the `&mut`; the other tokens]
    fsplit ! $ fsplit3 ! $ feq_l ! (λ e0. move ! (2 ∷ []) $ fsplit ! $ was_pointer ! base.ptr vss.1.0 (λ e1. fsplit ! $ fsplit ! $ feq_l ! (λ e2. flt_l ! (λ small.
    fsplit ! $ was_one E ! item vss.1.1.1.0 (λ v e3 good. keep ! (2 ∷ 3 ∷ 4 ∷ 5 ∷ 0 ∷ []) $
    regoal ! (λ (us : List Val). prop (WpFn 𝓤 H 𝓣.C 𝓣.Λ fn us Post)) (λ j. e0 j ++ (e1 j ++ (e2 j ++ (e3 j ++ [])))) refl $
    enter ! 𝓣.C 𝓣.Λ fn (vptr rb ro ∷ word base.ptr ∷ vint w64 index ∷ v ∷ []) Post $
    alloc_all ! (λ l. pass_all ! refl ((tt, tt), (word-Good [] base.ptr, ((tt, record { fits = small }), (good, tt)))) $ let En : Env 𝓤 H = env fn.locals l in
    opens ! tt (Owner E) {h = d} rb ro (λ vs. move ! (1 ∷ []) $ fsplit ! $ move ! (1 ∷ []) $
    in_a_block ! d.at (λ p. owned (R E) p d.first d.items d.spare) (id⊢ 𝓤 (never 𝓤)) (λ b o e. fsplit3 ! $ flt_l ! (λ fits.
    let s = size_of E in let from = offset (R E) o d.first in let n = length d.items in let all = d.first + n + d.spare in
    let bytes : s < 2 ^ 64 = omega (arith, one_below all s (2 ^ 63) (omega (arith, has_room)) fits) in
    let far : index * s < 2 ^ 64 = omega (arith, times_below index all s (2 ^ 63) (omega (arith, next, has_room)) fits) in
    let at = index * s + o in
    let end : offset (R E) o (d.first + n) ≡ at = ap (λ (k : ℕ). k * s + o) (sym next) in
    let there : at ≡ n * s + from = sym end ∙ place_behind d.first n s o in
    let more : d.spare ≡ suc left = omega (arith, has_room) in
    let long : length new.items ≡ suc n = length-append d.items (item ∷ []) ∙ (omega arith) in
    let past : at + s ≡ offset (R E) o (d.first + length new.items) =
    omega (arith, end, ap (λ (k : ℕ). (d.first + k) * s) long, ap (λ (k : ℕ). k * s) (let m : d.first + suc n ≡ suc (d.first + n) = omega arith in m), suc-mul (d.first + n) s) in
    let same : all ≡ d.first + length new.items + left = omega (arith, long, more) in
    take_at ! 2 $ rewrite ! 0 (λ (p : Ptr). ‵ (fat full_share (layout (Start E)) (l 2) 0 (word p))) (block ∙ e) refl $ give_at ! 2 $
    first ! $ blocks ! $ sets ! (bin ! (get ! refl) (size_lit ! (record { fits = bytes })) (record { fits = far })) refl (tt, record { fits = far }) $
    sets ! (bin ! (get_in ! (fld ! refl (stop !)) (sub ! 0 refl (whole !))) (get ! refl) tt) refl (tt, tt) $
    rewrite ! 1 (λ (k : ℕ × ℕ). ‵ (Empty E 𝓛 b k.0 k.1)) (λ j. (end j, more j)) refl $ move ! (1 ∷ []) $ fsplit ! $ as_written ! (elτ E) b at $
    -- [room for the value; the empty places behind; the values before; the owner's fields, its cell and the open
    -- borrow, in four; the other tokens; what the value owns]
    sets ! (of_opd ! (get ! refl)) refl good $ assigns_last ! (of_opd ! (get ! refl)) (through ! refl (stop !)) (init ! 0 refl good) $
    exec ! 𝓣.C 𝓣.Λ En (after 1 fn.body) (at_ret En Post) $ sets ! (of_opd ! (unit_lit !)) refl (tt, tt) $
    move ! (0 ∷ 9 ∷ []) $ use2 𝓛 (‵ (part_at (R E) full_share item b at)) (value_in E 𝓛 b item at v) $ nothing ! $ move ! (1 ∷ 0 ∷ []) $ fjoin ! $ move ! (2 ∷ 0 ∷ []) $
    use2 𝓛 (‵ (Full E 𝓛 b from new.items)) (glue E 𝓛 b d.items (item ∷ []) from at there) $
    rewrite ! 1 (λ (k : ℕ). ‵ (Empty E 𝓛 b k left)) past refl $
    flt_i ! ((d.first + length new.items + left) * s) (2 ^ 63) (subst (λ (k : ℕ). k * s < 2 ^ 63) same fits) $ fjoin3 ! $
    rewrite ! 0 (λ (p : Ptr). ‵ (owned (R E) p d.first new.items left)) (sym e) refl $
    move ! (1 ∷ 0 ∷ []) $ fjoin ! $ move ! (1 ∷ 0 ∷ []) $ closes ! tt (Owner E) new vs rb ro $ returns ! (look_at ! 0 refl) $ free_all ! refl $
    -- [the `&mut`, in two; its token; the other tokens]
    move ! (2 ∷ 3 ∷ []) $ join ! $ move ! (1 ∷ 2 ∷ []) $ feq_i ! (List Val) vss.0 (vptr rb ro ∷ []) e0 $ fjoin3 ! $
    nothing ! $ nothing ! $ fjoin ! $ nothing ! $ fjoin ! $ nothing ! $ fjoin ! $ move ! (1 ∷ 0 ∷ []) $ fjoin ! $
    feq_i ! (List Val) (vunit ∷ []) (vunit ∷ []) refl $
    use0 𝓛 (raw (fact 𝓤 Is-so)) (fact_i 𝓤 Is-so (emp 𝓤) refl) $ use0 𝓛 (raw (fact 𝓤 Stays-so)) (fact_i 𝓤 Stays-so (emp 𝓤) (refl, refl, refl)) $ join ! $
    move ! (3 ∷ 2 ∷ 1 ∷ 0 ∷ []) $ by ! (leaves 𝓛 T stays c z vunit tt (new, (tt, (tt, (tt, tt)))) (tt, (tt, (tt, (tt, tt)))))))))))))))))))
