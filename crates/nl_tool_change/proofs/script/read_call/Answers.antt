use Rattle.std.proofs.Common.{◌∙◌, subst, sym}
use Rattle.std.specs.Str.{IsUtf8}
use Rattle.nl_tool_change.proofs.WordLemmas.{call_is_text, no_call, one_call}
use Rattle.nl_folder.specs.declared.choices.Call.TheVariants.{ReadLog, AppendLog, CutLog, SyncLog, StartScratch, AppendScratch, SyncScratch}
use Rattle.nl_folder.specs.declared.choices.Call.TheVariants.{Replace, Any}
use Rattle.nl_tool_change.proofs.script.read_call.Goals as goal

pub returns-in-read_log : goal.returns-in-read_log
returns-in-read_log c = record {
  value = sym c.in-Ok.ensures.cases.0 ∙ c.in-read_log.is;
  accepts = λ met is. one_call c.in-Ok.name.now ReadLog met c.in-read_log.is (c.in-Ok.ensures.cases.0 ∙ is);
}

pub returns-in-append_log : goal.returns-in-append_log
returns-in-append_log c = record {
  value = sym c.in-Ok.ensures.cases.0 ∙ c.in-append_log.is;
  accepts = λ met is. one_call c.in-Ok.name.now AppendLog met c.in-append_log.is (c.in-Ok.ensures.cases.0 ∙ is);
}

pub returns-in-cut_log : goal.returns-in-cut_log
returns-in-cut_log c = record {
  value = sym c.in-Ok.ensures.cases.0 ∙ c.in-cut_log.is;
  accepts = λ met is. one_call c.in-Ok.name.now CutLog met c.in-cut_log.is (c.in-Ok.ensures.cases.0 ∙ is);
}

pub returns-in-sync_log : goal.returns-in-sync_log
returns-in-sync_log c = record {
  value = sym c.in-Ok.ensures.cases.0 ∙ c.in-sync_log.is;
  accepts = λ met is. one_call c.in-Ok.name.now SyncLog met c.in-sync_log.is (c.in-Ok.ensures.cases.0 ∙ is);
}

pub returns-in-start_scratch : goal.returns-in-start_scratch
returns-in-start_scratch c =
    record {
      value = sym c.in-Ok.ensures.cases.0 ∙ c.in-start_scratch.is;
      accepts = λ met is. one_call c.in-Ok.name.now StartScratch met c.in-start_scratch.is (c.in-Ok.ensures.cases.0 ∙ is);
    }

pub returns-in-append_scratch : goal.returns-in-append_scratch
returns-in-append_scratch c =
    record {
      value = sym c.in-Ok.ensures.cases.0 ∙ c.in-append_scratch.is;
      accepts = λ met is. one_call c.in-Ok.name.now AppendScratch met c.in-append_scratch.is (c.in-Ok.ensures.cases.0 ∙ is);
    }

pub returns-in-sync_scratch : goal.returns-in-sync_scratch
returns-in-sync_scratch c =
    record {
      value = sym c.in-Ok.ensures.cases.0 ∙ c.in-sync_scratch.is;
      accepts = λ met is. one_call c.in-Ok.name.now SyncScratch met c.in-sync_scratch.is (c.in-Ok.ensures.cases.0 ∙ is);
    }

pub returns-in-replace : goal.returns-in-replace
returns-in-replace c = record {
  value = sym c.in-Ok.ensures.cases.0 ∙ c.in-replace.is;
  accepts = λ met is. one_call c.in-Ok.name.now Replace met c.in-replace.is (c.in-Ok.ensures.cases.0 ∙ is);
}

pub returns-in-any : goal.returns-in-any
returns-in-any c = record {
  value = sym c.in-Ok.ensures.cases.0 ∙ c.in-any.is;
  accepts = λ met is. one_call c.in-Ok.name.now Any met c.in-any.is (c.in-Ok.ensures.cases.0 ∙ is);
}

pub returns-in_default-clause-accepts : goal.returns-in_default-clause-accepts
returns-in_default-clause-accepts c = λ met is.
    no_call c.in-Ok.name.now c.in_default.not-read_log c.in_default.not-append_log c.in_default.not-cut_log c.in_default.not-sync_log
    c.in_default.not-start_scratch c.in_default.not-append_scratch c.in_default.not-sync_scratch c.in_default.not-replace
    c.in_default.not-any met (c.in-Ok.ensures.cases.0 ∙ is)

pub returns-in-Err-clause-accepts : goal.returns-in-Err-clause-accepts
returns-in-Err-clause-accepts c = λ met is. absurd (c.in-Err.ensures.cases.0 (subst IsUtf8 (sym is) (call_is_text met)))
