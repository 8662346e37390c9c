-- What a run of events over an empty log leaves.
use Rattle.std.proofs.Common.{◌≡◌, ◌∙◌, ◌++◌, ◌∷◌, ℕ, List, [], Bool, ap, append_assoc, length, refl, inl, inr, subst, sym}
use Rattle.std.specs.Prelude.{Option, Some, codes, decimal, zip}
use Rattle.std.specs.List.{flat_map}
use Rattle.nl_table.specs.History.{History, Began}
use Rattle.nl_folder.specs.DiskState.{Disk, durable_disk, empty_file}
use Rattle.nl_folder.proofs.ImageLemmas.{durable_disk_unique}
use Rattle.nl_session.specs.declared.events.Event.{Event}
use Rattle.nl_session.specs.declared.events.Reply.{Reply}
use Rattle.nl_session.specs.Runs.{BeginsAt, Ran, HeadlineOn, HadMemory}
use Rattle.nl_tool_change.specs.Replay.{IsReplayOf, printed, reply_line}

-- an empty log that is at rest has the history of no entry
pub begins_empty : BeginsAt (Began 5) (Some (durable_disk [] empty_file))
begins_empty = record {
  bytes = [];
  reads = refl;
  only = λ c found. elim found [ inl same ↦ same | inr image ↦ durable_disk_unique [] c empty_file image ];
}

-- the lines of the replies, the line of the log's length, and the log
pub printed_is : (replies : List Reply) (log lines told ended text : List ℕ) → lines ≡ flat_map reply_line replies
    → told ≡ lines ++ (codes "log " ++ decimal (length log)) → ended ≡ told ++ 10 ∷ [] → text ≡ ended ++ log → text ≡ printed replies log
printed_is replies log lines told ended text a b c d =
    let lead = codes "log " ++ decimal (length log) in
    d ∙ ap (λ (t : List ℕ). t ++ log) (c ∙ ap (λ (t : List ℕ). t ++ 10 ∷ []) (b ∙ ap (λ (t : List ℕ). t ++ lead) a))
    ∙ ap (λ (t : List ℕ). t ++ log) (append_assoc (flat_map reply_line replies) lead (10 ∷ []))

-- the text of a run over an empty log
pub replayed : (events : List Event) (replies : List Reply) (old : Option Disk) (new : Disk) (settled : Bool) (text : List ℕ)
    → old ≡ Some (durable_disk [] empty_file) → ((start : History) → BeginsAt start old → HeadlineOn start (zip events replies) (Some new))
    → ((start : History) → BeginsAt start old → Ran start events replies (Some new) settled)
    → length replies ≡ length events → HadMemory replies → text ≡ printed replies new.visible → IsReplayOf events text
replayed events replies old new settled text empty headline run each memory is =
    let begins : BeginsAt (Began 5) old = subst (BeginsAt (Began 5)) (sym empty) begins_empty in
    record {
      replies = replies;
      disk = new;
      settled = settled;
      one_each = each;
      had_memory = memory;
      ran = run (Began 5) begins;
      headline = headline (Began 5) begins;
      is = is;
    }
