use Rattle.std.proofs.Common.{inl, inr, refl, rules, subst}
use Rattle.nl_tool_change.specs.Reading.{HoldsNames}
use Rattle.nl_tool_change.proofs.DeedLemmas.{holds_names}
use Rattle.nl_tool_change.proofs.asked.read_asked.Goals as goal

pub returns-in-Err : goal.returns-in-Err
returns-in-Err c =
    let read = c.in-Ok-read_event_line in
    record { asks = inl (subst HoldsNames read.ensures.line (holds_names read.event (c.in-Err.ensures.memory refl) read.ensures.some)) }

pub returns-in-Err-NoEvent-read_event_line : goal.returns-in-Err-NoEvent-read_event_line
returns-in-Err-NoEvent-read_event_line c = record {
  asks = inr (
    λ e. search rules,
    λ e. search rules,
    λ name e. search rules,
    λ command e. search rules,
    λ fields e. search rules,
    λ event other is. search rules,
  );
}
