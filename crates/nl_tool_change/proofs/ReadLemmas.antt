-- What each answer says of a change by a file that is read first.
use Rattle.std.proofs.Common.{◌∙◌, ℕ, List, inl, inr, refl, ap, subst}
use Rattle.std.specs.Prelude.{Option, Result, Ok, Err, IfErr, OnOk}
use Rattle.std.specs.Result.{IsErrAnd}
use Rattle.nl_tool_texts.specs.declared.fault.ToolFault.{ToolFault}
use Rattle.nl_folder.specs.declared.folder.Folder.{Ghosts}
use Rattle.nl_tool_change.specs.Calls.{ChangesAsRead, ChangesLog, IsUnread, Meaning, SaysAsRead}
use Rattle.nl_folder.specs.FolderView.{FolderView, folder_view}
use Rattle.nl_tool_change.specs.Faults.{IsChangeFault, IsFileFault}
use Rattle.nl_tool_change.specs.Files.{FileReading}
use Rattle.nl_tool_change.specs.Updates.{AsSaid}

on_ok : {X Y : Type 0} (result : Result (Unit {0}) ToolFault) → (X → Y) → OnOk result X → OnOk result Y
on_ok (Ok done) f x = f x
on_ok (Err fault) f x = tt

module _ {T : Type 0} (reading : List ℕ → FileReading T) (meaning : List T → Meaning) (known : Option (List ℕ)) (old new : FolderView) where
  unread : (result : Result (Unit {0}) ToolFault) → IsUnread reading known result old new → SaysAsRead reading meaning known result old new
  unread (Ok done) u = absurd u.refused
  unread (Err fault) u = record {
    leaves = λ start begins. inl (refl, u.stays);
    contents = λ d is. tt;
    settled = tt;
    accepts = tt;
    said = inl (refl, u.stays);
    read = λ is. u.stays;
    bad_line = λ number is. (u.bad_line number is, u.stays);
    negative_time = λ index is. absurd (subst Refuses is u.refused);
    opened = λ d index there is. absurd (subst Refuses is u.refused);
    unmade = λ d is none. inl (ap (λ (v : FolderView). v.disk) u.stays ∙ is);
    untouched = λ d is none. ap (λ (v : FolderView). v.disk) u.stays;
    scratch = tt;
    bytes = record {
      not_a_log = λ d there is. absurd (subst Refuses is u.refused);
      other_version = λ d there is. absurd (subst Refuses is u.refused);
    };
    unchanged = λ is. record {
      disk = ap (λ (v : FolderView). v.disk) u.stays;
      settled = ap (λ (v : FolderView). v.is_settled) u.stays;
      scratch = ap (λ (v : FolderView). v.has_scratch) u.stays;
    };
    count = record {
      cause = λ is. absurd (subst Refuses is u.refused);
      steady = λ none. ap (λ (v : FolderView). v.failures) u.stays;
    };
  }
    where
      Refuses : Result (Unit {0}) ToolFault → Type 0
      Refuses result = IsErrAnd result IsFileFault

  -- what holds of the parts that the file says
  said_so : {P : List T → Type 0} (Q : List T → Type 0) (said : AsSaid reading known P) → Q said.parts → AsSaid reading known Q
  said_so Q said holds = record { parts = said.parts; said = said.said; holds = holds }

  changed : (result : Result (Unit {0}) ToolFault) → AsSaid reading known (λ parts. ChangesLog (meaning parts) result old new)
      → SaysAsRead reading meaning known result old new
  changed result said = record {
    leaves = λ start begins. inr (said_so _ said (said.holds.disk.leaves start begins));
    contents = λ d is. on_ok result (said_so _ said) (said.holds.disk.contents d is);
    settled = said.holds.settled;
    accepts = on_ok result (said_so _ said) said.holds.disk.accepts;
    said = inr (said_so _ said tt);
    read = λ is. absurd (subst Refuses is said.holds.refusals);
    bad_line = λ number is. absurd (subst Refuses is said.holds.refusals);
    negative_time = λ index is. said_so _ said (said.holds.disk.negative_time index is);
    opened = said.holds.disk.opened;
    unmade = said.holds.disk.unmade;
    untouched = said.holds.disk.untouched;
    scratch = said.holds.scratch;
    bytes = said.holds.bytes;
    unchanged = said.holds.unchanged;
    count = said.holds.count;
  }
    where
      Refuses : Result (Unit {0}) ToolFault → Type 0
      Refuses result = IfErr result IsChangeFault

-- the same of a folder
pub read_first : {T F : Type 0} (g : Ghosts F) (reading : List ℕ → FileReading T) (meaning : List T → Meaning) (known : Option (List ℕ))
    (old new : F) (result : Result (Unit {0}) ToolFault) → ChangesAsRead g reading meaning known result old new
    → SaysAsRead reading meaning known result (folder_view g old) (folder_view g new)
read_first g reading meaning known old new result (inl u) = unread reading meaning known (folder_view g old) (folder_view g new) result (
    record { refused = u.refused; bad_line = u.bad_line; stays = ap (folder_view g) u.stays }
    )
read_first g reading meaning known old new result (inr said) =
    changed reading meaning known (folder_view g old) (folder_view g new) result said
