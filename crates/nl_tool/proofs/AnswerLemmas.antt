-- What is said of an answer, by what is said of a part of it.
use Rattle.std.proofs.Common.{◌≡◌, ℕ, List, Option, Some, Result, Ok, Err, ap, inl, inr, subst, sym}
use Rattle.std.specs.Prelude.{IfErr, OnOk}
use Rattle.std.specs.Borrow.{Bor}
use Rattle.nl_folder.specs.FolderView.{folder_view}
use Rattle.nl_folder.specs.declared.folder.Folder.{Ghosts}
use Rattle.nl_tool_change.specs.Calls.{ChangesLogFor, Meaning, ReadsFirst}
use Rattle.nl_tool_change.specs.Files.{FileReading}
use Rattle.nl_tool_change.specs.declared.line_fault.WrongNumber.{WrongNumber}
use Rattle.nl_tool_change.specs.declared.place.AskedFolder.{AskedFolder}
use Rattle.nl_tool_texts.specs.declared.fault.ToolFault.{ToolFault}
use Rattle.nl_tool_words.specs.declared.words.Choices.{Choices}
use Rattle.nl_tool.specs.Faults.{IsGivenGraphFault, IsPathFault, IsPictureFault, IsSummaryFault}

pub at_ok : {T E P : Type 0} (r : Result T E) → P → OnOk r P
at_ok (Ok done) holds = holds
at_ok (Err fault) holds = tt

-- of a place the same as of its folder
pub reads_at : {T F : Type 0} (g : Ghosts F) (reading : List ℕ → FileReading T) (known : Option (List ℕ)) (meaning : List T → Meaning)
    (r : Result (Unit {0}) ToolFault) (old new : AskedFolder F)
    → ReadsFirst reading known (λ parts. ChangesLogFor old.asked (λ _. meaning parts) r (folder_view g old.folder) (folder_view g new.folder)) r old new
    → ReadsFirst reading known (λ parts. ChangesLogFor old.asked (λ _. meaning parts) r (folder_view g old.folder) (folder_view g new.folder)) r
    (folder_view g old.folder) (folder_view g new.folder)
reads_at {F = F} g reading known meaning r old new (inl unread) = inl (record {
  refused = unread.refused;
  bad_line = unread.bad_line;
  stays = ap (λ (p : AskedFolder F). folder_view g p.folder) unread.stays;
})
reads_at g reading known meaning r old new (inr said) = inr said

-- the faults of a path are those of what tells of a graph
pub picture_fault : {A : Type 0} (r : Result A ToolFault) (choices : Choices) (told : Option WrongNumber) (path : Bor (List ℕ))
    → choices.graph ≡ Some path → IfErr r IsPathFault → IfErr r (IsPictureFault choices told)
picture_fault (Ok x) choices told path is h = tt
picture_fault (Err fault) choices told path is (inl log) = inl (inl log)
picture_fault (Err fault) choices told path is (inr graph) = inr (subst (λ g. IsGivenGraphFault g fault) (sym is) graph)

pub summary_fault : {A : Type 0} (r : Result A ToolFault) (choices : Choices) (told : Option WrongNumber) (path : Bor (List ℕ))
    → choices.graph ≡ Some path → IfErr r IsPathFault → IfErr r (IsSummaryFault choices told)
summary_fault (Ok x) choices told path is h = tt
summary_fault (Err fault) choices told path is (inl log) = inl (inl log)
summary_fault (Err fault) choices told path is (inr graph) = inl (inr (subst (λ g. IsGivenGraphFault g fault) (sym is) graph))
