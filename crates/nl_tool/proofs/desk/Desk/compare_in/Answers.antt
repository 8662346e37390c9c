use Rattle.std.proofs.Common.{Option, Result, Ok, Err, inl, inr, rules, sym}
use Rattle.std.proofs.lemmas.Result.{err_from_is_err_and}
use Rattle.std.specs.Prelude.{IfErr}
use Rattle.nl_tool_change.specs.declared.line_fault.WrongNumber.{WrongNumber}
use Rattle.nl_tool_print.specs.Faults.{IsLogFault}
use Rattle.nl_tool_texts.specs.declared.fault.ToolFault.{ToolFault}
use Rattle.nl_tool_words.specs.declared.words.Choices.{Choices}
use Rattle.nl_tool.specs.Faults.{IsCompareFault}
use Rattle.nl_tool.proofs.AnswerLemmas.{at_ok}
use Rattle.nl_tool.proofs.ReportLemmas.{as_log_by}
use Rattle.nl_tool.proofs.desk.Desk.compare_in.Goals as goal

as_compare : (r : Result (Unit {0}) ToolFault) (choices : Choices) (told : Option WrongNumber) → IfErr r IsLogFault
    → IfErr r (IsCompareFault choices told)
as_compare (Ok x) choices told h = tt
as_compare (Err e) choices told h = inl h

pub returns-clause-accepts : goal.returns-clause-accepts
returns-clause-accepts g c = at_ok c.compare_to.result (c.in_ok-most.most, c.in_ok-most.ensures.value)

pub returns-clause-least : goal.returns-clause-least
returns-clause-least g c = at_ok c.compare_to.result (c.in_ok-ms.ms, c.in_ok-ms.ensures.value)

pub returns-clause-faults : goal.returns-clause-faults
returns-clause-faults g c = as_compare c.compare_to.result c.args.choices _ (as_log_by c.compare_to.result c.compare_to.ensures.faults)

pub returns-in_err-old-clause-call : goal.returns-in_err-old-clause-call
returns-in_err-old-clause-call g c =
    let fault = err_from_is_err_and c.from_residual-in_err-old.result c.from_residual-in_err-old.ensures.1 in
    rw (fault.1, fault.2) (inl (record { why = inl c.in_err-old.ensures.faults; stays = search rules }))

pub returns-in_err-new_text-clause-call : goal.returns-in_err-new_text-clause-call
returns-in_err-new_text-clause-call g c =
    let fault = err_from_is_err_and c.from_residual-in_err-new_text.result c.from_residual-in_err-new_text.ensures.1 in
    rw (fault.1, fault.2) (inl (record { why = inl c.in_err-new_text.ensures.faults; stays = search rules }))

pub returns-in_err-new-clause-call : goal.returns-in_err-new-clause-call
returns-in_err-new-clause-call g c =
    let fault = err_from_is_err_and c.from_residual-in_err-new.result c.from_residual-in_err-new.ensures.1 in
    rw (fault.1, fault.2) (inl (record { why = inl c.in_err-new.ensures.faults; stays = search rules }))

pub returns-clause-call : goal.returns-clause-call
returns-clause-call g c = inr (record {
  most = c.in_ok-most.most;
  most_is = c.in_ok-most.ensures.value;
  least = c.in_ok-ms.ms;
  least_is = c.in_ok-ms.ensures.value;
  before = c.in_ok-old.old;
  before_is = record {
    text = c.in_ok-old_text.old_text.items;
    is = c.in_ok-old_text.ensures.value;
    last = rw c.as_slice.ensures.value at c.in_ok-old.ensures.value;
  };
  after = c.in_ok-new.new;
  after_is = record {
    text = c.in_ok-new_text.new_text.items;
    is = c.in_ok-new_text.ensures.value;
    last = rw c.as_slice-2.ensures.value at c.in_ok-new.ensures.value;
  };
  prints = rw (sym c.means-means.ensures.columns) c.compare_to.ensures.prints;
})
