use Rattle.std.proofs.Common.{◌≡◌, ℕ, List, ◌++◌, Result, Ok, Err}
use Rattle.std.specs.Prelude.{OnOk, if◌then◌else◌, is_ok}
use Rattle.nl_tool_change.proofs.answers.append_reply.Goals as goal

added : {E : Type 0} (r : Result (Unit {0}) E) (old text new : List ℕ) → new ≡ (if is_ok r then old ++ text else old) → OnOk r (new ≡ old ++ text)
added (Ok done) old text new is = is
added (Err fault) old text new is = tt

pub returns-in-Refused-Broken-clause-ok : goal.returns-in-Refused-Broken-clause-ok
returns-in-Refused-Broken-clause-ok c =
    let call = c.extend_from_slice-in-Refused-Broken in
    let fault = rw c.in-Refused-Broken.is at c.in-Refused-Broken.field-0-is in
    rw (c.in-Refused-Broken.is, fault) (added call.result c.args.out.now.items _ call.new.self.items call.ensures.items)
