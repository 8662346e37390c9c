-- A number that is refused has its text in the words.
use Rattle.std.proofs.Common.{◌≡◌, Bool, true, false, List, ℕ, Option, None, Some, Bor, inl, inr, refl, sym, subst}
use Rattle.std.specs.Prelude.{IsSome, IsSomeAnd}
use Rattle.nl_fields.specs.declared.name.NameFault.{NameFault}
use Rattle.nl_fields.specs.declared.name.NameFault.TheVariants as name
use Rattle.nl_reports.specs.declared.choice.Scope.{Scope}
use Rattle.nl_reports.specs.declared.choice.Scope.TheVariants.{All, Last}
use Rattle.nl_tool_change.specs.RecordWords.{of_name_fault}
use Rattle.nl_tool_change.specs.declared.line_fault.NumberOf.{NumberOf}
use Rattle.nl_tool_change.specs.declared.line_fault.NumberOf.TheVariants as number
use Rattle.nl_tool_change.specs.declared.line_fault.WrongNumber.{WrongNumber}
use Rattle.nl_tool_texts.specs.declared.fault.ToolFault.TheVariants.{BadNumber}
use Rattle.nl_tool_words.specs.declared.words.Changing.TheVariants.{Prune, Retime, Repair, Apply}
use Rattle.nl_tool_words.specs.declared.words.Reading.TheVariants.{Entries, Damage, Doubt, Builds, Summary, Trace, Picture}
use Rattle.nl_tool_words.specs.declared.words.Words.{Words}
use Rattle.nl_tool_words.specs.declared.words.Words.TheVariants.{Show, Check, Hash, HashFile, Read, Compare, Record, Recompact, Restat, Change, Mend, Replay}
use Rattle.nl_tool.specs.Faults.{IsFaultOf, IsGivenGraphFault}
use Rattle.nl_tool.specs.Reasons.{HasText, number_text}
use Rattle.nl_tool.specs.Reports.{IsLeast, IsMost, IsNoCounts, IsScope}

of_told : (words : Words) (told : Option WrongNumber) (which : NumberOf) → IsSomeAnd told (λ bad. bad.which ≡ which) → IsSome (number_text words which)
    → HasText words told
of_told words None which h there = h
of_told words (Some bad) which h there = subst (λ w. IsSome (number_text words w)) (sym h) there

some_most : (lines : Option (Bor (List ℕ))) → ((most : ℕ) → IsMost lines most → ⊥) → IsSome lines
some_most None h = absurd (h 10 refl)
some_most (Some text) h = refl

some_least : (least : Option (Bor (List ℕ))) → ((ms : ℕ) → IsLeast least ms → ⊥) → IsSome least
some_least None h = absurd (h 0 refl)
some_least (Some text) h = refl

some_build : (all : Bool) (build : Option (Bor (List ℕ))) → ((scope : Scope) → IsScope all build scope → ⊥) → IsSome build
some_build true build h = absurd (h All refl)
some_build false None h = absurd (h Last refl)
some_build false (Some text) h = refl

some_jobs : (jobs : Option (Bor (List ℕ))) (told : Option WrongNumber) → IsNoCounts jobs told BadNumber → IsSome jobs
some_jobs None told h = absurd (cc)
some_jobs (Some text) told h = refl

told_jobs : (jobs : Option (Bor (List ℕ))) (told : Option WrongNumber) → IsNoCounts jobs told BadNumber
    → IsSomeAnd told (λ bad. bad.which ≡ number.Jobs)
told_jobs None told h = absurd (cc)
told_jobs (Some text) told (inl h) = absurd (cc)
told_jobs (Some text) told (inr h) = h.0.1

no_graph : (graph : Option (Bor (List ℕ))) → IsGivenGraphFault graph BadNumber → ⊥
no_graph None h = h
no_graph (Some path) h = h

no_name : (why : NameFault) → BadNumber ≡ of_name_fault why → ⊥
no_name name.Empty h = absurd (cc)
no_name (name.BadByte at) h = absurd (cc)
no_name name.TooLong h = absurd (cc)
no_name name.OutOfMemory h = absurd (cc)

pub has_text : (words : Words) (told : Option WrongNumber) → IsFaultOf words told BadNumber → HasText words told
has_text (Show log) told h = absurd h
has_text (Check log) told h = absurd h
has_text (Hash command) told h = absurd h
has_text (HashFile file) told h = absurd h
has_text (Read Entries log choices) told h = absurd h
has_text (Read Damage log choices) told h = absurd h
has_text (Read Doubt log choices) told h = absurd h
has_text (Read Builds log choices) told h = absurd h
has_text (Read Summary log choices) told (inl (inl h)) = absurd h
has_text (Read Summary log choices) told (inl (inr h)) = absurd (no_graph choices.graph h)
has_text (Read Summary log choices) told (inr (inl h)) = of_told (Read Summary log choices) told number.Lines h.0.1 (some_most choices.lines h.1)
has_text (Read Summary log choices) told (inr (inr (inl h))) =
    of_told (Read Summary log choices) told number.Build h.0.1 (some_build choices.all choices.build h.1)
has_text (Read Summary log choices) told (inr (inr (inr h))) =
    of_told (Read Summary log choices) told number.Jobs (told_jobs choices.jobs told h) (some_jobs choices.jobs told h)
has_text (Read Trace log choices) told (inl h) = absurd h
has_text (Read Trace log choices) told (inr h) = of_told (Read Trace log choices) told number.Build h.0.1 (some_build choices.all choices.build h.1)
has_text (Read Picture log choices) told (inl (inl h)) = absurd h
has_text (Read Picture log choices) told (inl (inr h)) =
    of_told (Read Picture log choices) told number.Build h.0.1 (some_build choices.all choices.build h.1)
has_text (Read Picture log choices) told (inr h) = absurd (no_graph choices.graph h)
has_text (Compare old new choices) told (inl h) = absurd h
has_text (Compare old new choices) told (inr (inl h)) = of_told (Compare old new choices) told number.Lines h.0.1 (some_most choices.lines h.1)
has_text (Compare old new choices) told (inr (inr h)) = of_told (Compare old new choices) told number.Least h.0.1 (some_least choices.least h.1)
has_text (Record entry) told (inl (inl (inl h))) = of_told (Record entry) told number.Start h.0.1 refl
has_text (Record entry) told (inl (inl (inr (inl h)))) = of_told (Record entry) told number.End h.1.0.1 refl
has_text (Record entry) told (inl (inl (inr (inr h)))) = of_told (Record entry) told number.Mtime h.2.0.1 refl
has_text (Record entry) told (inl (inr h)) = absurd (no_name h.1.why h.1.is)
has_text (Record entry) told (inr h) = absurd h.1
has_text (Recompact log keep) told h = absurd h
has_text (Restat log times) told h = absurd h
has_text (Change Prune log file) told h = absurd h
has_text (Change Retime log file) told h = absurd h
has_text (Change Repair log file) told (inl h) = absurd (cc)
has_text (Change Repair log file) told (inr h) = absurd h
has_text (Change Apply log file) told h = absurd h
has_text (Mend log choices) told h = absurd h
has_text (Replay script) told h = absurd h
