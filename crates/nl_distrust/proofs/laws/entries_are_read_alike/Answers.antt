use Rattle.std.proofs.Common.{refl, sym, subst, ap, ◌∙◌, Option}
use Rattle.std.specs.Prelude.{IsSomeAnd}
use Rattle.nl_fields.specs.EntryLine.{IsSpelled, IsTold, Texts}
use Rattle.nl_fields.specs.declared.entry.Entry.{Entry}
use Rattle.nl_table.specs.History.{holds}
use Rattle.nl_table.specs.Versions.{current_version, oldest_version}
use Rattle.nl_distrust.specs.Distrusted.{mentioned_by}
use Rattle.nl_distrust.proofs.TrustLemmas.{spelled_alike, taken_is_named, told_alike}
use Rattle.nl_distrust.proofs.laws.entries_are_read_alike.Goals as goal

pub returns : goal.returns
returns c = record {
  five = λ line e is.
      let found = spelled_alike current_version line e refl is in
      subst (λ (o : Option Texts). IsSomeAnd o (IsSpelled e)) (sym found.1) found.2;
  four = λ line e is.
      let found = told_alike oldest_version line e refl is in
      subst (λ (o : Option Texts). IsSomeAnd o (IsTold e)) (sym found.1) found.2;
  mentioned = λ version line t none is name.
      ap (λ (o : Option Entry). holds (mentioned_by o line) t.name) none ∙ taken_is_named line t is name;
}
