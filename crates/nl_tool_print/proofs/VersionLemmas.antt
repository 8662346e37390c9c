-- What is printed of what was loaded, where a version may be asked for.
use Rattle.std.proofs.Common.{◌≡◌, ◌∙◌, ℕ, List, length, refl, sym, ap, subst, Result, Ok, Err}
use Rattle.std.specs.Prelude.{map, Option, None, Some, IfErr, IfSome, OnErr, OnOk}
use Rattle.std.specs.Io.KnownBytes.{Appends}
use Rattle.nl_fields.specs.declared.entry.Entry.{Entry}
use Rattle.nl_fields.specs.EntryLine.{line_of}
use Rattle.nl_fields.proofs.HashLemmas.{IsHash-hash_of}
use Rattle.nl_fields.specs.CommandHash.{hash_of}
use Rattle.nl_lines.specs.Split.{joined, torn_len}
use Rattle.nl_table.specs.Log.{LogReading, Log, NotALog, OtherVersion, log_of, skipped_count}
use Rattle.nl_table.specs.declared.loader.Loaded.{Loaded}
use Rattle.nl_versions.specs.Loading.{IsLoadFor}
use Rattle.nl_versions.specs.LogAs.{log_as, seen_for}
use Rattle.nl_versions.specs.Version.{as_version, numbered}
use Rattle.nl_versions.specs.declared.version.LogVersion.{LogVersion}
use Rattle.nl_versions.specs.declared.version.LogVersion.TheVariants.{Five}
use Rattle.nl_versions.proofs.LogAsLemmas.{log_five, text_five}
use Rattle.nl_tool_texts.specs.Output.{AppendsPrefixOf, Prints}
use Rattle.nl_tool_texts.specs.declared.fault.ToolFault.{ToolFault}
use Rattle.nl_tool_texts.specs.declared.fault.ToolFault.TheVariants.{NotALog as NoLog, OtherVersion as Other, Read, Memory, Write, Folder, NegativeTime, BadNumber, EmptyName, BadByte, LongName, BadLine, OtherGraph, Elsewhere}
use Rattle.nl_tool_print.specs.Output.{IsHashText, IsTextAsRead, check_text_of, checked_of, report, show_text, show_text_of}
use Rattle.nl_tool_print.specs.Versions.{IsReportFor, checked_by, hash_text_as, show_text_for}

pub shown_text : (asked : Option LogVersion) (known : Option (List ℕ)) (version : LogVersion) (loaded : Loaded)
    → IsLoadFor asked known version loaded → IsTextAsRead (show_text_for asked) known (joined (map line_of loaded.table))
shown_text asked known version loaded from = record {
  bytes = from.bytes;
  given = from.given;
  is = ap show_text from.reads ∙ ap (λ (es : List Entry). Some (joined (map line_of es))) (sym from.loads.answers);
}

pub checked_text : (asked : Option LogVersion) (known : Option (List ℕ)) (version : LogVersion) (loaded : Loaded)
    → IsLoadFor asked known version loaded
    → IsReportFor asked known (report (numbered version loaded.version) loaded.total (length loaded.table) loaded.skipped loaded.torn)
checked_text asked known version loaded from =
    let seen : List ℕ = seen_for asked from.bytes in
    let loads = from.loads in
    record {
      version = version;
      names = from.names;
      told = record {
        bytes = from.bytes;
        given = from.given;
        is = ap (checked_by version (skipped_count seen) (torn_len seen)) from.reads
            ∙ (λ i. Some (report (numbered version loaded.version) (sym loads.total i) (length (sym loads.answers i)) (sym loads.skipped i)
            (sym loads.torn i)));
      };
    }

-- a text that was written, or a part of it
pub prints_text : (IsText : List ℕ → Type 0) (text : List ℕ) (old new : Option (List ℕ)) (result : Result (Unit {0}) ToolFault)
    → IsText text → OnOk result (Appends old new text) → OnErr result (AppendsPrefixOf old new text) → IfErr result (λ e. e ≡ Write)
    → Prints IsText old new result
prints_text IsText text old new (Ok done) is ok prefix faults = (text, is, ok)
prints_text IsText text old new (Err fault) is ok prefix faults = subst (λ f. Prints IsText old new (Err f)) (sym faults) (text, is, prefix)

-- what is printed of one kind is of another, where each text of the one is
pub prints_as : (P Q : List ℕ → Type 0) → ((text : List ℕ) → P text → Q text) → (old new : Option (List ℕ))
    → (result : Result (Unit {0}) ToolFault) → Prints P old new result → Prints Q old new result
prints_as P Q is old new (Ok done) printed = (printed.0, is printed.0 printed.1, printed.2)
prints_as P Q is old new (Err Write) printed = (printed.0, is printed.0 printed.1, printed.2)
prints_as P Q is old new (Err NoLog) printed = printed
prints_as P Q is old new (Err Other) printed = printed
prints_as P Q is old new (Err Read) printed = printed
prints_as P Q is old new (Err Memory) printed = printed
prints_as P Q is old new (Err Folder) printed = printed
prints_as P Q is old new (Err (NegativeTime index)) printed = printed
prints_as P Q is old new (Err BadNumber) printed = printed
prints_as P Q is old new (Err EmptyName) printed = printed
prints_as P Q is old new (Err (BadByte at)) printed = printed
prints_as P Q is old new (Err LongName) printed = printed
prints_as P Q is old new (Err (BadLine number)) printed = printed
prints_as P Q is old new (Err OtherGraph) printed = printed
prints_as P Q is old new (Err Elsewhere) printed = printed

-- ---- where 5 is asked for

pub refused_five : (known : Option (List ℕ)) (reading : LogReading) → IfSome known (λ bs. log_as Five bs ≡ reading)
    → IfSome known (λ bs. log_of bs ≡ reading)
refused_five None reading is = tt
refused_five (Some bs) reading is = sym (log_five Five refl bs) ∙ is

pub shown_five : (known : Option (List ℕ)) (text : List ℕ) → IsTextAsRead (show_text_for (Some Five)) known text
    → IsTextAsRead show_text_of known text
shown_five known text shown = record {
  bytes = shown.bytes;
  given = shown.given;
  is = sym (ap show_text (log_five Five refl shown.bytes)) ∙ shown.is;
}

checked_same : (skipped torn : ℕ) (reading : LogReading) → checked_by Five skipped torn reading ≡ checked_of skipped torn reading
checked_same skipped torn (Log version es) = refl
checked_same skipped torn OtherVersion = refl
checked_same skipped torn NotALog = refl

checked_bytes : (bs : List ℕ) → checked_by Five (skipped_count (as_version Five bs)) (torn_len (as_version Five bs)) (log_as Five bs)
    ≡ check_text_of bs
checked_bytes bs =
    (λ i. checked_by Five (skipped_count (text_five Five refl bs i)) (torn_len (text_five Five refl bs i)) (log_five Five refl bs i))
    ∙ checked_same (skipped_count bs) (torn_len bs) (log_of bs)

pub checked_five : (known : Option (List ℕ)) (text : List ℕ) → IsReportFor (Some Five) known text
    → IsTextAsRead check_text_of known text
checked_five known text checked =
    let told = checked.told in
    record {
      bytes = told.bytes;
      given = told.given;
      is = sym (checked_bytes told.bytes)
          ∙ ap (λ v. checked_by v (skipped_count (as_version Five told.bytes)) (torn_len (as_version Five told.bytes))
          (log_as Five told.bytes)) (sym checked.names) ∙ told.is;
    }

pub hashed_five : (command text : List ℕ) → text ≡ hash_text_as Five command → IsHashText command text
hashed_five command text is = record { hash = hash_of command; is_hash = IsHash-hash_of command; is = is }
