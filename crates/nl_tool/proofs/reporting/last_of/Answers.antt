use Rattle.std.proofs.Common.{◌∙◌, ap, ap₂, map}
use Rattle.nl_reports.specs.Lasting.{lasting}
use Rattle.nl_tool.proofs.ReportLemmas.{told_is}
use Rattle.nl_tool.proofs.reporting.last_of.Goals as goal

pub returns-clause-value : goal.returns-clause-value
returns-clause-value c =
    let held = c.in_ok-log.ensures.value in
    let same = told_is c.in_ok-log.log.told _ held.3 in
    record {
      version = held.0;
      entries = held.1;
      is_log = held.2;
      named = c.version_of.ensures;
      builds = c.in_ok-lasting.ensures.value ∙ ap₂ lasting (ap (map (λ n. n.now)) c.as_slice.ensures.value ∙ held.4) same;
      waits = held.4;
    }
