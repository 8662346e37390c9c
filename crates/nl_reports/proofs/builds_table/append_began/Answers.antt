use Rattle.std.proofs.Common.{◌/◌, ◌%◌, ◌∷◌, [], ℕ, List, Option, codes, rules, subst, sym}
use Rattle.std.specs.Prelude.{decimal}
use Rattle.indexmap.proofs.MapLemmas.{OnOk-map}
use Rattle.jiff_core.specs.declared.civil.datetime.DateTime.{DateTime}
use Rattle.nl_tool_texts.specs.Texts.{joined}
use Rattle.nl_reports.specs.BuildsTable.{IsBegun}
use Rattle.nl_reports.proofs.builds_table.append_began.Goals as goal

abbrev date : ℕ → DateTime → List ℕ
date year d = joined (decimal year ∷ codes "-" ∷ decimal (d.date.month / 10) ∷ decimal (d.date.month % 10) ∷ codes "-"
    ∷ decimal (d.date.day / 10) ∷ decimal (d.date.day % 10) ∷ codes " " ∷ decimal (d.time.hour / 10) ∷ decimal (d.time.hour % 10) ∷ codes ":"
    ∷ decimal (d.time.minute / 10) ∷ decimal (d.time.minute % 10) ∷ codes ":" ∷ decimal (d.time.second / 10) ∷ decimal (d.time.second % 10) ∷ [])

pub returns : goal.returns
returns c =
    let d : DateTime = c.to_datetime.result in
    let text = date c.unsigned_abs.result d in
    record {
      items = OnOk-map c.put.result _ _ (λ told. (
        text,
        subst (λ (o : Option ℕ). IsBegun c.args.zone.now o text) (sym c.in-Some.is)
            (d, (search rules), (search rules)),
        told,
      )) c.put.ensures.items;
    }
