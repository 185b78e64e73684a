-- `split` runs nothing: the values are cut in two, and each part owns its own. Assumes `Logic`.
use Rattle.std.proofs.Common.{◌≡◌, ℕ, ◌+◌, ◌*◌, ◌^◌, ◌<◌, ◌≤◌, List, [], ◌∷◌, ◌++◌, length, take, drop, length-drop, refl, sym, ap, ◌∙◌, w64, arith}
use Rattle.std.proofs.lemmas.List.{take-append-drop, length-take-le}
use Rattle.std.proofs.alloc.Calls.{Goes-blank}
use Rattle.std.proofs.mem.Param.{El, R, args}
use Rattle.std.proofs.ptr.Rows.{times_below}
use Rattle.std.proofs.raw_atomic.Walks.{proved_at, leaves}
use mir.Syntax.{Fn}
use mir.MapTy.{inst_fn}
use mir.Val.{Val, vint}
use base.Logic.{SProp, emp, never, id⊢}
use prog.Wp.{WpFn}
use contract.BorrowLft.{◌⊑◌}
use contract.Monad.{fact, fact_i}
use contract.Running.{tables}
use types.Kit.{‵, raw, ◌⊛◌, prop, ◌$◌, ◌∵◌, !, qed, by, move, drop as leave, use0, use1, use2, split, join, regoal, rewrite, fsplit, fsplit3, fjoin, fjoin3, flt_i, flt_l}
use types.Part.{whole, sub, agg}
use types.Run.{stop, fld, of_opd, no_more, and_then, returns, enter}
use types.ByLocal.{alloc_all, pass_all, free_all, look_at, get, get_in, sets}
use denote.Builtin.{usize}
use denote.RattleType.{owns}
use denote.RawPtr.{Ptr, in_a_block}
use denote.Signature.{types_at, plain}
use denote.Steps.{nothing, heard}
use denote.Struct.Tuple.{Tuple}
use denote.Triple.Entry.{alive}
use denote.Triple.Walked.{Stays, stay_dropped, walk_of, Goes-dropped}
use Rattle.cell_span.specs.Ownership.{offset, owned}
use Rattle.cell_span.specs.contracts.cells.Cells.split.{ended, clauses}
use Rattle.cell_span.specs.contracts.cells.Cells.split.Key.{name as #self}
use Rattle.cell_span.proofs.Cutting.{place_behind}
use Rattle.cell_span.proofs.Rows.{size_of, Full, cut}
use Rattle.cell_span.proofs.Values.{Owner, Fields, unmarked, unmarked_made, was_unmarked, two_vals, two_of}
use Rattle.cell_span.proofs.cells.Cells.split.Statement.{statement}
use Rattle.cell_span.proofs.cells.Cells.split.Code as compiled

pub split_spec : {M : Type 1} → statement M
split_spec 𝓤 𝓛 𝓜 𝓡 wired X laws =
    let E : El = record { row = X; laws = laws } in
    let H = 𝓛.H in let 𝓣 = tables 𝓤 H 𝓜 𝓡 𝓡.env in
    let T = ended X in let c = clauses X 𝓛 𝓜.mem 𝓡.returns in
    let fn : Fn = inst_fn (args E) compiled.function in
    let self = plain (λ _. Owner E) in let number = plain (λ _. usize) in
    let stays : Stays T.signature.params T.kept = (stay_dropped self T.kept.0, (stay_dropped number T.kept.1.0, tt)) in
    proved_at 𝓛 T stays c 𝓜 𝓡 (Goes-blank 𝓛 1 self T.kept.0 (λ κs x w. tt), (Goes-dropped 𝓛 1 number T.kept.1.0 (λ κs x w. refl), tt))
    (#self (args E)) fn (compiled.unfolded 𝓤 H 𝓜 𝓡 wired (X, tt)) (λ z are.
    let Post : Val → SProp 𝓤 = (walk_of 𝓛 T stays c).post z in
    let d = z.0.3.0 in let n = z.0.3.1.0 in let vss = z.0.4 in let xs = take n d.items in let ys = drop n d.items in
    let Asked : Type 0 = (n ≤ length d.items) × (d.spare ≡ 0) in
    let front : (Owner E).Denot = record { mark = d.mark; at = d.at; first = d.first; items = xs; spare = 0 } in
    let back : (Owner E).Denot = record { mark = d.mark; at = d.at; first = d.first + n; items = ys; spare = 0 } in
    let Is-front : Type 0 = (d.at ≡ d.at) × (d.first ≡ d.first) × (xs ≡ xs) × (0 ≡ 0) in
    let Is-back : Type 0 = (d.at ≡ d.at) × (d.first + n ≡ d.first + n) × (ys ≡ ys) × (0 ≡ 0) in
    qed 𝓛 ((raw (alive 𝓛 T.signature z.0.0 z.0.1) ⊛ ‵ (owns (types_at T.signature.params z.0.0) z.0.3 vss)) ∷ (raw (fact 𝓤 (z.0.0.0 ⊑ X.lives)) ⊛ raw (fact 𝓤 Asked)) ∷ []) ∵
    move ! (1 ∷ []) $ split ! $ heard ! (z.0.0.0 ⊑ X.lives) (λ within. heard ! Asked (λ asked. split ! $ move ! (1 ∷ []) $
    -- [what the parameters own; the tokens]
    fsplit ! $ fsplit ! $ was_unmarked ! E vss.0 (λ e0. move ! (1 ∷ []) $ leave ! $
    regoal ! (λ (us : List Val). prop (WpFn 𝓤 H 𝓣.C 𝓣.Λ fn us Post)) (λ i. e0 i ++ (are.1.0.0 i ++ [])) refl $
    enter ! 𝓣.C 𝓣.Λ fn (unmarked ∷ vint w64 n ∷ []) Post $
    alloc_all ! (λ l. pass_all ! refl ((tt, (tt, tt)), ((tt, record { fits = are.1.0.1 }), tt)) $
    in_a_block ! d.at (λ p. owned (R E) p d.first d.items d.spare) (id⊢ 𝓤 (never 𝓤)) (λ b o e. fsplit3 ! $ flt_l ! (λ fits.
    let s = size_of E in let from = offset (R E) o d.first in let at = offset (R E) o (d.first + n) in let all = d.first + length d.items + d.spare in
    let long : length xs ≡ n = length-take-le n d.items asked.0 in
    let there : at ≡ length xs * s + from = place_behind d.first n s o ∙ ap (λ (k : ℕ). k * s + from) (sym long) in
    let front_fits : (d.first + length xs + 0) * s < 2 ^ 63 = times_below (d.first + length xs + 0) all s (2 ^ 63) (omega (arith, long, asked.0)) fits in
    let back_fits : (d.first + n + length ys + 0) * s < 2 ^ 63 =
    times_below (d.first + n + length ys + 0) all s (2 ^ 63) (omega (arith, length-drop n d.items, asked.0)) fits in
    move ! (1 ∷ []) $ leave ! $
    rewrite ! 0 (λ (zs : List X.Denot). ‵ (Full E 𝓛 b from zs)) (sym (take-append-drop n d.items)) refl $
    use1 𝓛 (‵ (Full E 𝓛 b from xs) ⊛ ‵ (Full E 𝓛 b at ys)) (cut E 𝓛 b xs ys from at there) $ split ! $
    nothing ! $ move ! (1 ∷ 0 ∷ []) $ flt_i ! ((d.first + length xs + 0) * s) (2 ^ 63) front_fits $ fjoin3 ! $ rewrite ! 0 (λ (p : Ptr). ‵ (owned (R E) p d.first xs 0)) (sym e) refl $
    nothing ! $ move ! (2 ∷ 0 ∷ []) $ flt_i ! ((d.first + n + length ys + 0) * s) (2 ^ 63) back_fits $ fjoin3 ! $ rewrite ! 0 (λ (p : Ptr). ‵ (owned (R E) p back.first ys 0)) (sym e) refl $
    -- [the back's places; the front's; the tokens]
    sets ! (of_opd ! (get_in ! (fld ! refl (stop !)) (sub ! 0 refl (whole !)))) refl (tt, tt) $
    sets ! (agg ! (and_then ! (get ! refl) (no_more !))) refl (tt, (tt, tt)) $
    sets ! (agg ! (and_then ! (get ! refl) (no_more !))) refl (tt, (tt, tt)) $
    sets ! (agg ! (and_then ! (get ! refl) (and_then ! (get ! refl) (no_more !)))) refl (tt, ((tt, tt), ((tt, tt), tt))) $
    returns ! (look_at ! 0 refl) $ free_all ! refl $
    use0 𝓛 (‵ ((Fields E).own_val (tt, tt) (unmarked ∷ []))) (unmarked_made E 𝓛) $ fjoin ! $ move ! (1 ∷ []) $
    use0 𝓛 (‵ ((Fields E).own_val (tt, tt) (unmarked ∷ []))) (unmarked_made E 𝓛) $ fjoin ! $
    use2 𝓛 (‵ ((Tuple (Owner E ∷ Owner E ∷ [])).own_val (front, back) (two_vals unmarked unmarked ∷ []))) (two_of 𝓛 (Owner E) (Owner E) front back unmarked unmarked) $
    use0 𝓛 (raw (fact 𝓤 Is-back)) (fact_i 𝓤 Is-back (emp 𝓤) (refl, refl, refl, refl)) $ use0 𝓛 (raw (fact 𝓤 Is-front)) (fact_i 𝓤 Is-front (emp 𝓤) (refl, refl, refl, refl)) $ join ! $
    nothing ! $ nothing ! $ fjoin ! $ nothing ! $ fjoin ! $ move ! (3 ∷ 0 ∷ 2 ∷ 1 ∷ []) $
    by ! (leaves 𝓛 T stays c z (two_vals unmarked unmarked) (front, back) (tt, (tt, tt)) (tt, (tt, tt))))))))))
