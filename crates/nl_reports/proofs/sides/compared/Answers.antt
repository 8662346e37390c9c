use Rattle.std.proofs.Common.{◌≡◌, map, subst}
use Rattle.std.specs.Prelude.{IfOk}
use Rattle.nl_reports.specs.Compare.{Log, compared, compared_of, held_side, side_of}
use Rattle.nl_reports.proofs.sides.compared.Goals as goal

pub returns : goal.returns
returns c =
    let held : Log × Log = (held_side c.in_ok-before.before, held_side c.in_ok-after.after) in
    let sides : Log × Log = (side_of c.args.old.now, side_of c.args.new.now) in
    let are : held ≡ sides = λ i. (c.in_ok-before.ensures.value i, c.in_ok-after.ensures.value i) in
    record {
      value = subst (λ (s : Log × Log). IfOk c.rows_of.result (λ rows. map compared_of rows.items ≡ compared c.args.rules s.0 s.1)) are c.rows_of.ensures.value;
    }
