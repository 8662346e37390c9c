use Rattle.std.proofs.Common.{◌≡◌, arith, drop, rules, length-set, refl}
use Rattle.std.proofs.lemmas.Grind.{common_steps}
use Rattle.nl_fields.specs.Digits.{digits_of}
use Rattle.nl_fields.proofs.HexLemmas.{Completes-first, Completes-more, room_left, written_more}
use Rattle.nl_fields.proofs.DigitLemmas.{same_spelling}
use Rattle.nl_fields.proofs.NumberLemmas.{IsDigits-digits_of}
use Rattle.nl_fields.proofs.numbers.append_hex64.Goals as goal

pub loop-left-init : goal.loop-left-init
loop-left-init c = (refl, omega arith, omega arith, Completes-first c.args.number _ c.hex_digit.ensures)

pub loop-left-preserved : goal.loop-left-preserved
loop-left-preserved c =
    let room = room_left c.loop-left.left c.loop-left.start c.loop-left-test.true c.loop-left.invariant.2 in (
      simp length-set c.loop-left.invariant.0,
      omega arith,
      room.1,
      rw (written_more c.loop-left.digits c.loop-left.start _ room.0 (omega arith))
          (Completes-more c.args.number c.loop-left.left _ _ c.loop-left.invariant.3 c.loop-left-test.true
          c.hex_digit-in-loop-left.ensures),
    )

pub returns-clause-ok : goal.returns-clause-ok
returns-clause-ok c =
    let digits : drop c.loop-left.start c.loop-left.digits ≡ digits_of 16 c.args.number =
    same_spelling (c.loop-left.invariant.3.done (omega arith)) (IsDigits-digits_of 16 c.args.number (omega arith) (search rules)) in
    first_of (search (rules, digits), grind (arith, common_steps, digits))
