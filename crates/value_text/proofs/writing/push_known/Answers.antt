use Rattle.std.proofs.Common.{◌≡◌, ◌+◌, ◌≤◌, length, arith}
use Rattle.value_text.proofs.WordTexts.{opened_cut, bare_cut}
use Rattle.value_text.proofs.writing.push_known.Goals as goal

pub returns-then-opens : goal.returns-then-opens
returns-then-opens c =
    let h : length c.args.known.now.name.now ≤ 15 = omega (arith, c.if-len-gt15.false) in
    let e : c.len-start.result + length c.args.known.now.name.now + 1 ≡ length c.args.out.now.items + length c.args.known.now.name.now + 1 = omega (arith, c.len-start.ensures, c.args.out.now.ok.0) in
    opened_cut _ c.args.known.now.word _ c.extend_from_slice.new.self.items _ _ _ c.requires h e c.in_ok-extend_from_slice.ensures.items c.truncate.ensures.items c.if-opens.true

pub returns-else-opens : goal.returns-else-opens
returns-else-opens c =
    let h : length c.args.known.now.name.now ≤ 15 = omega (arith, c.if-len-gt15.false) in
    let e : c.len-start.result + length c.args.known.now.name.now ≡ length c.args.out.now.items + length c.args.known.now.name.now = omega (arith, c.len-start.ensures, c.args.out.now.ok.0) in
    bare_cut _ c.args.known.now.word _ c.extend_from_slice.new.self.items _ _ _ c.requires h e c.in_ok-extend_from_slice.ensures.items c.truncate-else-opens.ensures.items c.if-opens.false
