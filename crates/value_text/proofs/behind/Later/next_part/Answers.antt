use Rattle.std.proofs.Common.{◌≡◌, [], ap, arith, length, length-append}
use Rattle.value_text.proofs.LaterSteps.{next_frame, no_frames, nothing}
use Rattle.value_text.proofs.behind.Later.next_part.Goals as goal

pub returns-in-Some : goal.returns-in-Some
returns-in-Some c = next_frame c.args.self.now.inner.now c.args.self.now.closed c.args.self.now.frames.items c.pop.new.self.items c.args.self.now.others.now c.in-Some.frame c.requires.inner c.requires.closed c.in-Some.ensures.items

pub returns-in-None : goal.returns-in-None
returns-in-None c =
    let old : c.args.self.now.frames.items ≡ [] = nothing c.args.self.now.frames.items (omega (arith, c.args.self.now.frames.ok.0, c.in-None.ensures.cases.0)) in
    let new : c.pop.new.self.items ≡ [] = nothing c.pop.new.self.items (omega (arith, ap length old, ap length c.in-None.ensures.items, length-append c.pop.new.self.items [])) in
    (c.requires.inner, c.requires.closed, new, no_frames c.args.self.now.inner.now c.args.self.now.closed c.args.self.now.frames.items c.args.self.now.others.now c.requires.inner c.requires.closed old)
