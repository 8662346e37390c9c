use Rattle.std.proofs.Common.{◌≡◌, ◌∙◌, ℕ, List, Option, ap, subst}
use Rattle.std.specs.Prelude.{IfSome}
use Rattle.nl_versions.specs.LogAs.{log_for}
use Rattle.nl_distrust.specs.Distrusted.{distrusted_in}
use Rattle.nl_tool_change.proofs.reading.distrusted_of.Goals as goal

pub returns-in_ok-distrusted-in-Ok-clause-found : goal.returns-in_ok-distrusted-in-Ok-clause-found
returns-in_ok-distrusted-in-Ok-clause-found c =
    let load = c.in-Ok.ensures.loaded in
    let same : c.args.bytes.now ≡ load.bytes =
    subst (λ (known : Option (List ℕ)). IfSome known (λ bs. bs ≡ load.bytes)) c.new.ensures.ahead load.given in
    record {
      version = c.in-Ok.loaded.version;
      entries = load.loads.entries;
      is_log = ap (log_for c.args.asked) same ∙ load.reads;
      are = c.in_ok-distrusted-in-Ok.ensures.value ∙ ap (distrusted_in c.in-Ok.loaded.version c.args.bytes.now) load.loads.answers;
    }
