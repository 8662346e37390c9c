use Rattle.std.proofs.Common.{arith, ap, get_or, inl, inr, length, sym, ◌∙◌, List, ℕ}
use Rattle.std.proofs.lemmas.List.{length-take}
use Rattle.std.proofs.lemmas.Option.{none-some, same_Some}
use Rattle.nl_fields.specs.Name.{is_forbidden}
use Rattle.nl_fields.proofs.SearchLemmas.{at_seam, ends_there, none_before, split_there}
use Rattle.nl_fields.proofs.name.split_name.Goals as goal

pub returns-in_err-at-clause-accepts : goal.returns-in_err-at-clause-accepts
returns-in_err-at-clause-accepts c name rest is line =
    absurd (none-some (length name) (c.in_err-at.ensures ∙ ends_there _ name rest is line))

pub returns-then-bytes-at-ne9-clause-accepts : goal.returns-then-bytes-at-ne9-clause-accepts
returns-then-bytes-at-ne9-clause-accepts c name rest is line =
    let same = same_Some _ _ (c.in_ok-at.ensures ∙ ends_there _ name rest is line) in
    let tab = ap (λ (k : ℕ). get_or c.args.bytes.now k 0) same ∙ ap (λ (s : List ℕ). get_or s (length name) 0) line ∙ at_seam name 9 rest in
    absurd (elim c.then-bytes-at-ne9.either [ inl other ↦ other tab | inr long ↦ omega (arith, same, is.some, is.short, long) ])

pub returns-clause-found : goal.returns-clause-found
returns-clause-found c =
    let before = none_before is_forbidden c.args.bytes.now c.in_ok-at.at (sym c.in_ok-at.ensures) in (
      record {
        some = omega (arith, before.0, length-take c.in_ok-at.at c.args.bytes.now, c.if-at-eq0.false);
        short = omega (arith, before.0, length-take c.in_ok-at.at c.args.bytes.now, c.if-at-gt-MAX_NAME.false);
        allowed = before.1;
      },
      split_there c.args.bytes.now c.in_ok-at.at 9 before.0 (omega (arith, c.if-bytes-at-ne9.false)),
    )
