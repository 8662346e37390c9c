use Rattle.nl_tool_print.proofs.VersionLemmas.{hashed_five, prints_as}
use Rattle.nl_tool_print.proofs.hash.hash_to.Goals as goal

pub returns-clause-prints : goal.returns-clause-prints
returns-clause-prints g c = prints_as _ _ (hashed_five c.args.command.now) _ _ c.hash_for.result c.hash_for.ensures.prints
