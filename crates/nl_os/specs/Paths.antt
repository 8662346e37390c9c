-- Where the files of a log stand (docs/DISK_MODEL.md, "A system of real files").
use Rattle.std.specs.Prelude.{◌≡◌, ℕ, ◌++◌, ◌==◌, List, length, Option, Some, None, codes, if◌then◌else◌, string_bytes}
use Rattle.std.specs.Path.{rsplit_once, slash}
use Rattle.nl_os.specs.declared.paths.Paths.{Paths}

-- of a path that was split at its last slash, if it has one
abbrev pub folder_of_split : Option (List ℕ × List ℕ) → List ℕ
folder_of_split None = codes "."
folder_of_split (Some split) = if length split.0 == 0 then codes "/" else split.0

-- the text before its last slash, `/` if that is empty, and `.` if there is no slash
abbrev pub folder_path_of : List ℕ → List ℕ
folder_path_of path = folder_of_split (rsplit_once slash path)

-- and of the folder in which both stand
pub record ArePathsOf (path : List ℕ) (paths : Paths) : Type 0 where
  pub log : string_bytes paths.log ≡ path
  pub scratch : string_bytes paths.scratch ≡ path ++ codes ".recompact"
  pub folder : string_bytes paths.folder ≡ folder_path_of path
