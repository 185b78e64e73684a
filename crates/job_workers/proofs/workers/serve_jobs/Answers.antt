use Rattle.std.proofs.Common.{length, sym, ap, ◌∙◌, arith}
use Rattle.job_workers.proofs.Finishing.{sizes_now, legal_now, all_answered, all_held}
use Rattle.job_workers.proofs.workers.serve_jobs.Goals as goal

pub returns-then-withdrawn-eq0-clause-legal : goal.returns-then-withdrawn-eq0-clause-legal
returns-then-withdrawn-eq0-clause-legal g c = legal_now c.serve_rest.new.desk c.args.jobs.now g.N.DeskName.arena c.finish.result.journal.items c.kept.ensures.arena
    (sizes_now c.args.jobs.now g.N.JobName.planned g.N.DeskName.sizes c.serve_rest.new.desk.sizes c.requires.plans c.requires.sizes c.kept.ensures.sizes) c.finish.ensures.journal (c.finish.ensures.legal (c.serve_rest.ensures.asked ∙ sym (ap length c.kept.ensures.sizes)) c.serve_rest.ensures.left)

pub returns-then-withdrawn-eq0-clause-answered : goal.returns-then-withdrawn-eq0-clause-answered
returns-then-withdrawn-eq0-clause-answered g c = all_answered c.args.jobs.now c.serve_rest.new.desk c.finish.result.payloads.items c.requires.plans (sizes_now c.args.jobs.now g.N.JobName.planned g.N.DeskName.sizes c.serve_rest.new.desk.sizes c.requires.plans c.requires.sizes c.kept.ensures.sizes) c.finish.ensures.payloads (c.finish.ensures.filed (c.serve_rest.ensures.asked ∙ sym (ap length c.kept.ensures.sizes)) c.serve_rest.ensures.left (omega (arith, c.if-withdrawn-eq0.true, c.withdrawn-withdrawn.ensures)))

pub returns-then-withdrawn-eq0-clause-cells : goal.returns-then-withdrawn-eq0-clause-cells
returns-then-withdrawn-eq0-clause-cells g c = all_held c.args.jobs.now c.serve_rest.new.desk c.finish.result.payloads.items c.finish.result.journal.items c.finish.result.span c.requires.plans (sizes_now c.args.jobs.now g.N.JobName.planned g.N.DeskName.sizes c.serve_rest.new.desk.sizes c.requires.plans c.requires.sizes c.kept.ensures.sizes) c.finish.ensures.payloads
    (all_answered c.args.jobs.now c.serve_rest.new.desk c.finish.result.payloads.items c.requires.plans (sizes_now c.args.jobs.now g.N.JobName.planned g.N.DeskName.sizes c.serve_rest.new.desk.sizes c.requires.plans c.requires.sizes c.kept.ensures.sizes) c.finish.ensures.payloads (c.finish.ensures.filed (c.serve_rest.ensures.asked ∙ sym (ap length c.kept.ensures.sizes)) c.serve_rest.ensures.left (omega (arith, c.if-withdrawn-eq0.true, c.withdrawn-withdrawn.ensures))))
    c.kept.ensures.desk.places c.finish.ensures.cells c.finish.ensures.journal
