use Rattle.std.proofs.Common.{◌≡◌, ◌++◌, length, ap, ◌∙◌, rules}
use Rattle.std.specs.Prelude.{codes}
use Rattle.text_lines.specs.Numbers.{number}
use Rattle.machine_image.specs.Words.{counts_of_state}
use Rattle.machine_image.proofs.Pieces.{counts_written}
use Rattle.machine_image.proofs.writing.push_counts.Goals as goal

pub returns : goal.returns
returns c =
    let count : c.len.result ≡ length c.args.state.now.cells.items = search rules in
    counts_written (counts_of_state c.args.state.now) c.args.out.now.items c.push_number.new.text.items c.push_net.new.out.items c.push_number-2.new.text.items c.push_number-3.new.text.items
    c.push_number-4.new.text.items c.push_number-5.new.text.items c.extend_from_slice.new.self.items c.in_ok-push_number.ensures.number c.in_ok-push_net.ensures c.in_ok-push_number-2.ensures.number
    c.in_ok-push_number-3.ensures.number c.in_ok-push_number-4.ensures.number
    (c.in_ok-push_number-5.ensures.number ∙ ap (λ n. c.push_number-4.new.text.items ++ (codes " cells " ++ number n)) count) c.in_ok-extend_from_slice.ensures.items
