use Rattle.std.proofs.Common.{◌≤◌, ◌+◌, ◌*◌, ℕ, ap, arith, length, length-append}
use Rattle.arrayvec.specs.ArrayVec.{ArrayVec}
use Rattle.nl_tool_texts.proofs.TerminalLemmas.{numbers_length}
use Rattle.nl_tool_texts.specs.Columns.{by_numbers}
use Rattle.nl_tool_texts.proofs.terminal.shown_now.Goals as goal
use Rattle.nl_tool_texts.proofs.terminal.shown_now.Goals.{then-contains, else-contains}

pub push_one-requires : goal.push_one-requires
push_one-requires c =
    let begun = c.args.begun.now in
    let none_shown = ap length c.new-shown.ensures in
    let none_next = ap length c.new-next.ensures in
    let both : length c.if-contains.shown.items + 4 * length c.if-contains.next.items ≤ 12 =
    elim c.if-contains.branch [
      | then-contains w ↦
          omega (
            arith,
            none_shown,
            none_next,
            ap (λ (v : ArrayVec ℕ). length v.items) w.shown-is,
            ap (λ (v : ArrayVec ℕ). length v.items) w.next-is,
            ap length w.push_all.ensures.items,
            length-append c.new-next.result.items begun,
            c.requires.few,
          )
      | else-contains w ↦
          omega (
            arith,
            none_shown,
            none_next,
            ap (λ (v : ArrayVec ℕ). length v.items) w.shown-is,
            ap (λ (v : ArrayVec ℕ). length v.items) w.next-is,
            ap length w.push_numbers.ensures.items,
            length-append c.new-shown.result.items (by_numbers begun),
            numbers_length begun,
            c.requires.few,
          )
    ] in
    record { room = omega (arith, both, ap length c.as_slice-then-is_whole.ensures.value, c.push.ensures.len) }
