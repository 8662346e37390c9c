use Rattle.std.proofs.Common.{◌≡◌, List, ℕ, ℤ, subst}
use Rattle.std.specs.Prelude.{IsSomeAnd, MatchOption, slice_get}
use Rattle.nl_session.specs.Machine.{IsFirstNegative}
use Rattle.nl_tool_doubt.specs.Settling.{IsWholeLog, TellsDamage}
use Rattle.nl_tool_doubt.proofs.SettleLemmas.{first_within, not_looked}
use Rattle.nl_tool_doubt.proofs.settling.RetimeFinds.find.Goals as goal

pub returns-in_default-times_there : goal.returns-in_default-times_there
returns-in_default-times_there g c =
    let asked = c.args.self.now.asked in
    let log = c.args.log.now in
    let from = g.W.Write.contents c.args.writer.now in
    let to = g.W.Write.contents c.whole_table.new.writer in
    let found : IsWholeLog asked log c.in-Some.table from to =
    subst (λ o. MatchOption o (TellsDamage asked log from to) (λ table. IsWholeLog asked log table from to)) c.in-Some.is c.in_ok-table.ensures.whole in
    record { finds = not_looked found }

pub note_early-requires : goal.note_early-requires
note_early-requires g c = record { there = first_within _ c.in-Some-first_negative.at c.in-Some-first_negative.ensures }

pub returns-in-Ok-note_early : goal.returns-in-Ok-note_early
returns-in-Ok-note_early g c =
    let asked = c.args.self.now.asked in
    let log = c.args.log.now in
    let from = g.W.Write.contents c.args.writer.now in
    let to = g.W.Write.contents c.whole_table.new.writer in
    let at = c.in-Some-first_negative.at in
    let found : IsWholeLog asked log c.in-Some.table from to =
    subst (λ o. MatchOption o (TellsDamage asked log from to) (λ table. IsWholeLog asked log table from to)) c.in-Some.is c.in_ok-table.ensures.whole in
    let same = c.as_slice-given.ensures.value in
    record {
      finds = (
        c.in-Some.table,
        found,
        record {
          times = c.in-Ok.times.items;
          are = c.in-Ok.ensures.given;
          first = subst (λ (ts : List (List ℕ × ℤ)). IsFirstNegative ts at) same c.in-Some-first_negative.ensures;
          named = subst (λ (ts : List (List ℕ × ℤ)). IsSomeAnd (slice_get ts at) (λ pair. pair.0 ≡ c.note_early.new.early.items)) same
              c.in-Ok-note_early.ensures.named;
        },
      );
    }

pub returns : goal.returns
returns g c =
    let asked = c.args.self.now.asked in
    let log = c.args.log.now in
    let from = g.W.Write.contents c.args.writer.now in
    let to = g.W.Write.contents c.whole_table.new.writer in
    let found : IsWholeLog asked log c.in-Some.table from to =
    subst (λ o. MatchOption o (TellsDamage asked log from to) (λ table. IsWholeLog asked log table from to)) c.in-Some.is c.in_ok-table.ensures.whole in
    record { finds = not_looked found }
