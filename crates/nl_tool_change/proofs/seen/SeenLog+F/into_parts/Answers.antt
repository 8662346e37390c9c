use Rattle.std.proofs.Common.{ap, subst, sym}
use Rattle.nl_folder.specs.FolderView.{folder_view}
use Rattle.nl_tool_change.specs.Seen.{HandsBack, seen_of}
use Rattle.nl_tool_change.proofs.SeenLogLemmas.{hands_five}
use Rattle.nl_tool_change.proofs.seen.SeenLog+F.into_parts.Goals as goal

pub returns-in-OfFive : goal.returns-in-OfFive
returns-in-OfFive g c = record {
  version = ap (λ log. (seen_of log).version) (sym c.in-OfFive.is);
  hands = subst (λ log. HandsBack (seen_of log) (folder_view g.F.Folder c.into_folder.result)) (sym c.in-OfFive.is)
      (hands_five c.in-OfFive.log c.into_folder.result c.into_folder.ensures);
}
