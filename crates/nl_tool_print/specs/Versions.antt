-- What the commands print of a log where a version may be asked for: docs/FORMAT.md, "Versions 6 and 7".
use Rattle.std.specs.Prelude.{◌≡◌, ◌++◌, ◌∷◌, [], ℕ, List, length, Option, None, Some}
use Rattle.nl_fields.specs.Digits.{digits_of}
use Rattle.nl_lines.specs.Split.{torn_len}
use Rattle.nl_table.specs.History.{logged, table}
use Rattle.nl_table.specs.Log.{LogReading, Log, NotALog, OtherVersion, skipped_count}
use Rattle.nl_versions.specs.LogAs.{IsNamedFor, log_for, seen_for}
use Rattle.nl_versions.specs.Version.{hash_as, numbered}
use Rattle.nl_versions.specs.declared.version.LogVersion.{LogVersion}
use Rattle.nl_tool_print.specs.Output.{IsTextAsRead, report, show_text}
use Rattle.nl_tool_texts.specs.Files.{OfBytes}

abbrev pub hash_text_as : LogVersion → List ℕ → List ℕ
hash_text_as version command = digits_of 16 (hash_as version command) ++ 10 ∷ []

-- the command is the bytes that a reader gave
abbrev pub IsFileHashAs : LogVersion → Option (List ℕ) → List ℕ → Type 0
IsFileHashAs version known text = OfBytes known (λ command. text ≡ hash_text_as version command)

-- the log is one of the version that is asked for, or else of the one that its first line names
abbrev pub show_text_for : Option LogVersion → List ℕ → Option (List ℕ)
show_text_for asked bytes = show_text (log_for asked bytes)

abbrev pub checked_by : LogVersion → ℕ → ℕ → LogReading → Option (List ℕ)
checked_by version skipped torn (Log seen entries) =
    Some (report (numbered version seen) (length entries) (length (table (logged seen entries))) skipped torn)
checked_by version skipped torn OtherVersion = None
checked_by version skipped torn NotALog = None

-- `version` is the one that the report names
abbrev pub check_text_for : Option LogVersion → LogVersion → List ℕ → Option (List ℕ)
check_text_for asked version bytes =
    checked_by version (skipped_count (seen_for asked bytes)) (torn_len (seen_for asked bytes)) (log_for asked bytes)

-- the report names the version as one of which the reader's bytes are taken
pub record IsReportFor (asked : Option LogVersion) (known : Option (List ℕ)) (text : List ℕ) : Type 0 where
  pub version : LogVersion
  pub names : IsNamedFor asked known version
  pub told : IsTextAsRead (check_text_for asked version) known text
