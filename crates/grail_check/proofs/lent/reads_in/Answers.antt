use Rattle.std.proofs.Common.{◌≡◌, ℕ, ◌∙◌, ap, List, length, map, arith, take, ◌++◌}
use Rattle.std.specs.Prelude.{Bool, slice_get, flat_map}
use Rattle.grail_code.specs.Code.{Func, block_of, func_of}
use Rattle.grail_code.specs.WellFormed.{looked_at, looked_in}
use Rattle.grail_check.specs.Marked.{mark_all, all_marks}
use Rattle.grail_check.proofs.LentLaws.{marked_count, whole_again, reads_count, reads_known}
use Rattle.grail_check.proofs.lent.reads_in.Goals as goal

-- the marks of all locals, where the slice of marks is the list again
all_marked : (f : Func) (n : ℕ) (items lent now rest : List Bool) (looks : List ℕ) → now ≡ mark_all lent looks → looks ≡ looked_in f → lent ≡ items → items ≡ all_marks f → n ≡ length items
    → take n (now ++ rest) ≡ mark_all (all_marks f) (looked_in f)
all_marked f n items lent now rest looks marked blocks same made count =
    let size : length now ≡ n = omega (arith, ap length marked, marked_count lent looks, ap length same, count) in
    whole_again n now rest size ∙ marked ∙ ap (λ m. mark_all m looks) (same ∙ made) ∙ ap (mark_all (all_marks f)) blocks

pub returns-clause-count : goal.returns-clause-count
returns-clause-count c =
    let f = func_of c.args.func.now in
    ap length (all_marked f c.in_ok-reads.reads.len c.in_ok-reads.reads.items c.deref_mut.result.now c.mark_blocks.new.reads _ (flat_map (λ b. looked_at b.term) (map block_of c.deref.result.now)) c.mark_blocks.ensures
    (ap (λ bs. flat_map (λ b. looked_at b.term) (map block_of bs)) c.deref.ensures.value) c.deref_mut.ensures.value c.in_ok-reads.ensures (omega (arith, c.in_ok-reads.reads.ok.0)))
    ∙ reads_count f (omega (arith, c.args.func.now.marks, c.args.func.now.reads.ok.0, c.args.func.now.params.ok.0))

pub returns-clause-known : goal.returns-clause-known
returns-clause-known c x less =
    let f = func_of c.args.func.now in
    ap (λ r. slice_get r x) (all_marked f c.in_ok-reads.reads.len c.in_ok-reads.reads.items c.deref_mut.result.now c.mark_blocks.new.reads _ (flat_map (λ b. looked_at b.term) (map block_of c.deref.result.now)) c.mark_blocks.ensures
    (ap (λ bs. flat_map (λ b. looked_at b.term) (map block_of bs)) c.deref.ensures.value) c.deref_mut.ensures.value c.in_ok-reads.ensures (omega (arith, c.in_ok-reads.reads.ok.0)))
    ∙ reads_known f (omega (arith, c.args.func.now.marks, c.args.func.now.reads.ok.0, c.args.func.now.params.ok.0)) x less
