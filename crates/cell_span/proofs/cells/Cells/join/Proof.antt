-- `join` runs nothing: the values of two neighbours are put together under one owner. Assumes `Logic`.
use Rattle.std.proofs.Common.{◌≡◌, ℕ, ◌+◌, ◌*◌, ◌^◌, ◌<◌, List, [], ◌∷◌, ◌++◌, length, length-append, refl, sym, ap, subst, ◌∙◌, arith}
use Rattle.std.proofs.alloc.Calls.{Goes-blank}
use Rattle.std.proofs.mem.Param.{El, R, args}
use Rattle.std.proofs.raw_atomic.Walks.{proved_at, leaves}
use mir.Syntax.{Fn}
use mir.MapTy.{inst_fn}
use mir.Val.{Val}
use base.Logic.{SProp, emp, never, id⊢}
use prog.Wp.{WpFn}
use contract.BorrowLft.{◌⊑◌}
use contract.Monad.{fact, fact_i}
use contract.Running.{tables}
use types.Kit.{‵, raw, ◌⊛◌, prop, ◌$◌, ◌∵◌, !, qed, by, move, drop as leave, use0, use2, split, regoal, rewrite, fsplit, fsplit3, fjoin, fjoin3, flt_i, flt_l}
use types.Part.{whole, sub, agg}
use types.Run.{stop, fld, of_opd, no_more, and_then, returns, enter}
use types.ByLocal.{alloc_all, pass_all, free_all, look_at, get, get_in, sets}
use denote.RattleType.{owns}
use denote.RawPtr.{Ptr, in_a_block}
use denote.Signature.{types_at, plain}
use denote.Steps.{nothing, heard}
use denote.Triple.Entry.{alive}
use denote.Triple.Walked.{Stays, stay_dropped, walk_of}
use Rattle.cell_span.specs.Ownership.{offset, owned}
use Rattle.cell_span.specs.contracts.cells.Cells.join.{ended, clauses}
use Rattle.cell_span.specs.contracts.cells.Cells.join.Key.{name as #self}
use Rattle.cell_span.proofs.Cutting.{place_behind}
use Rattle.cell_span.proofs.Rows.{size_of, Full, glue}
use Rattle.cell_span.proofs.Values.{Owner, Fields, unmarked, unmarked_made, was_unmarked}
use Rattle.cell_span.proofs.cells.Cells.join.Statement.{statement}
use Rattle.cell_span.proofs.cells.Cells.join.Code as compiled

pub join_spec : {M : Type 1} → statement M
join_spec 𝓤 𝓛 𝓜 𝓡 wired X laws =
    let E : El = record { row = X; laws = laws } in
    let H = 𝓛.H in let 𝓣 = tables 𝓤 H 𝓜 𝓡 𝓡.env in
    let T = ended X in let c = clauses X 𝓛 𝓜.mem 𝓡.returns in
    let fn : Fn = inst_fn (args E) compiled.function in
    let owner = plain (λ _. Owner E) in
    let stays : Stays T.signature.params T.kept = (stay_dropped owner T.kept.0, (stay_dropped owner T.kept.1.0, tt)) in
    proved_at 𝓛 T stays c 𝓜 𝓡 (Goes-blank 𝓛 1 owner T.kept.0 (λ κs x w. tt), (Goes-blank 𝓛 1 owner T.kept.1.0 (λ κs x w. tt), tt))
    (#self (args E)) fn (compiled.unfolded 𝓤 H 𝓜 𝓡 wired (X, tt)) (λ z are.
    let Post : Val → SProp 𝓤 = (walk_of 𝓛 T stays c).post z in
    let d = z.0.3.0 in let m = z.0.3.1.0 in let vss = z.0.4 in let zs = d.items ++ m.items in
    let Asked : Type 0 = (m.at ≡ d.at) × (m.first ≡ d.first + length d.items) × (d.spare ≡ 0) × (m.spare ≡ 0) in
    let both : (Owner E).Denot = record { mark = d.mark; at = d.at; first = d.first; items = zs; spare = 0 } in
    let Is-both : Type 0 = (d.at ≡ d.at) × (d.first ≡ d.first) × (zs ≡ zs) × (0 ≡ 0) in
    qed 𝓛 ((raw (alive 𝓛 T.signature z.0.0 z.0.1) ⊛ ‵ (owns (types_at T.signature.params z.0.0) z.0.3 vss)) ∷ (raw (fact 𝓤 (z.0.0.0 ⊑ X.lives)) ⊛ raw (fact 𝓤 Asked)) ∷ []) ∵
    move ! (1 ∷ []) $ split ! $ heard ! (z.0.0.0 ⊑ X.lives) (λ within. heard ! Asked (λ asked. split ! $ move ! (1 ∷ []) $
    -- [what the parameters own; the tokens]
    fsplit ! $ fsplit ! $ was_unmarked ! E vss.0 (λ e0. move ! (1 ∷ []) $ fsplit ! $ fsplit ! $ was_unmarked ! E vss.1.0 (λ e1. move ! (1 ∷ []) $ leave ! $
    regoal ! (λ (us : List Val). prop (WpFn 𝓤 H 𝓣.C 𝓣.Λ fn us Post)) (λ i. e0 i ++ (e1 i ++ [])) refl $
    enter ! 𝓣.C 𝓣.Λ fn (unmarked ∷ unmarked ∷ []) Post $
    alloc_all ! (λ l. pass_all ! refl ((tt, (tt, tt)), ((tt, (tt, tt)), tt)) $
    -- [the second's places; the first's; the tokens]
    move ! (1 ∷ []) $ in_a_block ! d.at (λ p. owned (R E) p d.first d.items d.spare) (id⊢ 𝓤 (never 𝓤)) (λ b o e. fsplit3 ! $ flt_l ! (λ fits. move ! (1 ∷ []) $ leave ! $
    move ! (1 ∷ []) $ rewrite ! 0 (λ (p : Ptr). ‵ (owned (R E) p m.first m.items m.spare)) (asked.0 ∙ e) refl $ fsplit3 ! $ flt_l ! (λ more_fit. move ! (1 ∷ []) $ leave ! $
    let s = size_of E in let from = offset (R E) o d.first in let at = offset (R E) o m.first in
    let there : at ≡ length d.items * s + from = ap (λ (k : ℕ). k * s + o) asked.1 ∙ place_behind d.first (length d.items) s o in
    let same : m.first + length m.items + m.spare ≡ d.first + length zs + 0 = omega (arith, asked.1, asked.3, length-append d.items m.items) in
    move ! (1 ∷ 0 ∷ []) $ use2 𝓛 (‵ (Full E 𝓛 b from zs)) (glue E 𝓛 b d.items m.items from at there) $
    nothing ! $ move ! (1 ∷ 0 ∷ []) $ flt_i ! ((d.first + length zs + 0) * s) (2 ^ 63) (subst (λ (k : ℕ). k * s < 2 ^ 63) same more_fit) $ fjoin3 ! $
    rewrite ! 0 (λ (p : Ptr). ‵ (owned (R E) p d.first zs 0)) (sym e) refl $
    sets ! (of_opd ! (get_in ! (fld ! refl (stop !)) (sub ! 0 refl (whole !)))) refl (tt, tt) $
    sets ! (agg ! (and_then ! (get ! refl) (no_more !))) refl (tt, (tt, tt)) $
    returns ! (look_at ! 0 refl) $ free_all ! refl $
    use0 𝓛 (‵ ((Fields E).own_val (tt, tt) (unmarked ∷ []))) (unmarked_made E 𝓛) $ fjoin ! $
    use0 𝓛 (raw (fact 𝓤 Is-both)) (fact_i 𝓤 Is-both (emp 𝓤) (refl, refl, refl, refl)) $
    nothing ! $ nothing ! $ fjoin ! $ nothing ! $ fjoin ! $ move ! (3 ∷ 0 ∷ 2 ∷ 1 ∷ []) $
    by ! (leaves 𝓛 T stays c z unmarked both (tt, (tt, tt)) (tt, (tt, tt))))))))))))
