use Rattle.std.proofs.Common.{◌∙◌, subst, sym}
use Rattle.std.specs.Str.{IsUtf8}
use Rattle.nl_tool_change.proofs.WordLemmas.{no_word, one_word, word_is_text}
use Rattle.nl_tool_change.specs.declared.script.Word.TheVariants as word
use Rattle.nl_tool_change.proofs.script.read_word.Goals as goal

pub returns-in-writes : goal.returns-in-writes
returns-in-writes c = record {
  value = sym c.in-Ok.ensures.cases.0 ∙ c.in-writes.is;
  accepts = λ met is. one_word c.in-Ok.name.now word.Writes met c.in-writes.is (c.in-Ok.ensures.cases.0 ∙ is);
}

pub returns-in-fates : goal.returns-in-fates
returns-in-fates c = record {
  value = sym c.in-Ok.ensures.cases.0 ∙ c.in-fates.is;
  accepts = λ met is. one_word c.in-Ok.name.now word.Fates met c.in-fates.is (c.in-Ok.ensures.cases.0 ∙ is);
}

pub returns-in-tails : goal.returns-in-tails
returns-in-tails c = record {
  value = sym c.in-Ok.ensures.cases.0 ∙ c.in-tails.is;
  accepts = λ met is. one_word c.in-Ok.name.now word.Tails met c.in-tails.is (c.in-Ok.ensures.cases.0 ∙ is);
}

pub returns-in-fuse : goal.returns-in-fuse
returns-in-fuse c = record {
  value = sym c.in-Ok.ensures.cases.0 ∙ c.in-fuse.is;
  accepts = λ met is. one_word c.in-Ok.name.now word.Fuse met c.in-fuse.is (c.in-Ok.ensures.cases.0 ∙ is);
}

pub returns-in-open : goal.returns-in-open
returns-in-open c = record {
  value = sym c.in-Ok.ensures.cases.0 ∙ c.in-open.is;
  accepts = λ met is. one_word c.in-Ok.name.now word.Open met c.in-open.is (c.in-Ok.ensures.cases.0 ∙ is);
}

pub returns-in-recompact : goal.returns-in-recompact
returns-in-recompact c =
    record {
      value = sym c.in-Ok.ensures.cases.0 ∙ c.in-recompact.is;
      accepts = λ met is. one_word c.in-Ok.name.now word.Recompact met c.in-recompact.is (c.in-Ok.ensures.cases.0 ∙ is);
    }

pub returns-in-record : goal.returns-in-record
returns-in-record c = record {
  value = sym c.in-Ok.ensures.cases.0 ∙ c.in-record.is;
  accepts = λ met is. one_word c.in-Ok.name.now word.Record met c.in-record.is (c.in-Ok.ensures.cases.0 ∙ is);
}

pub returns-in-restat : goal.returns-in-restat
returns-in-restat c = record {
  value = sym c.in-Ok.ensures.cases.0 ∙ c.in-restat.is;
  accepts = λ met is. one_word c.in-Ok.name.now word.Restat met c.in-restat.is (c.in-Ok.ensures.cases.0 ∙ is);
}

pub returns-in-sync : goal.returns-in-sync
returns-in-sync c = record {
  value = sym c.in-Ok.ensures.cases.0 ∙ c.in-sync.is;
  accepts = λ met is. one_word c.in-Ok.name.now word.Sync met c.in-sync.is (c.in-Ok.ensures.cases.0 ∙ is);
}

pub returns-in-stop : goal.returns-in-stop
returns-in-stop c = record {
  value = sym c.in-Ok.ensures.cases.0 ∙ c.in-stop.is;
  accepts = λ met is. one_word c.in-Ok.name.now word.Stop met c.in-stop.is (c.in-Ok.ensures.cases.0 ∙ is);
}

pub returns-in-crash : goal.returns-in-crash
returns-in-crash c = record {
  value = sym c.in-Ok.ensures.cases.0 ∙ c.in-crash.is;
  accepts = λ met is. one_word c.in-Ok.name.now word.Crash met c.in-crash.is (c.in-Ok.ensures.cases.0 ∙ is);
}

pub returns-in_default-clause-accepts : goal.returns-in_default-clause-accepts
returns-in_default-clause-accepts c = λ met is.
    no_word c.in-Ok.name.now c.in_default.not-writes c.in_default.not-fates c.in_default.not-tails c.in_default.not-fuse
    c.in_default.not-open c.in_default.not-recompact c.in_default.not-record c.in_default.not-restat
    c.in_default.not-sync c.in_default.not-stop c.in_default.not-crash met (c.in-Ok.ensures.cases.0 ∙ is)

pub returns-in-Err-clause-accepts : goal.returns-in-Err-clause-accepts
returns-in-Err-clause-accepts c = λ met is. absurd (c.in-Err.ensures.cases.0 (subst IsUtf8 (sym is) (word_is_text met)))
