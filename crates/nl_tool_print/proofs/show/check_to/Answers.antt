use Rattle.nl_table.specs.Log.{NotALog, OtherVersion}
use Rattle.nl_tool_print.proofs.VersionLemmas.{prints_as, refused_five, checked_five}
use Rattle.nl_tool_print.proofs.show.check_to.Goals as goal

pub returns-clause-prints : goal.returns-clause-prints
returns-clause-prints g c =
    prints_as _ _ (checked_five (g.R.Read.remaining c.args.reader)) _ _ c.check_log.result c.check_log.ensures.prints

pub returns-clause-refused : goal.returns-clause-refused
returns-clause-refused g c = record {
  not_a_log = λ refused. refused_five (g.R.Read.remaining c.args.reader) NotALog (c.check_log.ensures.refused.not_a_log refused);
  other_version = λ refused. refused_five (g.R.Read.remaining c.args.reader) OtherVersion (c.check_log.ensures.refused.other_version refused);
}
