use Rattle.std.proofs.Common.{◌≡◌, ◌∙◌, [], List, ℕ, ap, rules, sym}
use Rattle.nl_fields.specs.declared.entry.Entry.{Entry}
use Rattle.nl_distrust.specs.Distrusted.{distrusted_in}
use Rattle.nl_versions.specs.VersionOf.{lines_version}
use Rattle.nl_tool_doubt.proofs.doubts.damaged_of.Goals as goal

pub returns-then-is_whole : goal.returns-then-is_whole
returns-then-is_whole c =
    let v = c.lines_version-version.result in
    let log = c.args.log.now in
    let es = c.args.table.now in
    let none : ◌≡◌ {A = List Entry} [] (distrusted_in (lines_version log) log es) =
    sym (c.a_whole_log_is_trusted.ensures.whole v log es (sym c.is_whole.ensures.value ∙ c.if-is_whole.true))
    ∙ ap (λ (n : ℕ). distrusted_in n log es) c.lines_version-version.ensures in
    search (rules, none)
