-- What a command knows of the machine: files to read, looks at files, and the folders of logs.
use Rattle.std.specs.Prelude.{bytes_eq, ◌≡◌, ◌++◌, ◌⊎◌, ⊤, IfSome, ℕ, Bool, true, List, [], Option, None, Some, codes, option_map, if◌then◌else◌, nat_eq}
use Rattle.std.specs.Borrow.{Bor}
use Rattle.std.specs.List.{starts_with}
use Rattle.nl_folder.specs.FolderView.{FolderView}
use Rattle.nl_table.specs.Log.{log_of}
use Rattle.nl_table.specs.Log as log_reading
use Rattle.nl_versions.specs.VersionOf.{as_five}
use Rattle.nl_tool_texts.specs.declared.fault.ToolFault.{ToolFault}
use Rattle.nl_tool_texts.specs.declared.fault.ToolFault.TheVariants.{NotALog}
use Rattle.nl_tool_doubt.specs.declared.files.FileState.{FileState}
use Rattle.nl_tool_doubt.specs.declared.files.FileState.TheVariants.{Missing}

-- the bytes that a read of the file at a path, or of standard input, gives; what a look at a path answers; and the folder of the log at a path: as far as they are known
pub record World : Type 0 where
  pub texts : List ℕ → Option (List ℕ)
  pub input : Option (List ℕ)
  pub states : Option (List ℕ → FileState)
  pub found : List ℕ → FolderView

-- a name below a folder, or from the one in which the program runs
abbrev pub path_below : Option (Bor (List ℕ)) → List ℕ → List ℕ
path_below None name = name
path_below (Some folder) name = folder.now ++ (codes "/" ++ name)

-- a name that begins with `/` is a path by itself
abbrev pub path_from : Option (Bor (List ℕ)) → List ℕ → List ℕ
path_from folder name = if starts_with nat_eq name (codes "/") then name else path_below folder name

-- what the outputs of a build are, which has this folder
abbrev pub states_from : Option (Bor (List ℕ)) → Option (List ℕ → FileState) → Option (List ℕ → FileState)
states_from folder states = option_map (λ (state_of : List ℕ → FileState) name. state_of (path_from folder name)) states

-- the file may be missing
abbrev pub MayMiss : Option (List ℕ → FileState) → List ℕ → Type 0
MayMiss None path = ⊤
MayMiss (Some state_of) path = state_of path ≡ Missing

-- the file of a graph, or standard input
abbrev pub graph_file : Bor (List ℕ) → Option (Bor (List ℕ))
graph_file path = if bytes_eq path.now (codes "-") then None else Some path

-- ---- what is known of a text

-- a reader gives the known bytes
abbrev pub Knows : Option (List ℕ) → Option (List ℕ) → Type 0
Knows None given = ⊤
Knows (Some bytes) given = given ≡ Some bytes

-- it is what is known of the file at a path; or it is empty, if a file that may be missing is
abbrev pub OpensText : World → Bool → List ℕ → Option (List ℕ) → Type 0
OpensText w missing_ok path known = Knows (w.texts path) known ⊎ ((missing_ok ≡ true) × (known ≡ Some []) × MayMiss w.states path)

-- without a path it is that of standard input
abbrev pub GivesText : World → Bool → Option (Bor (List ℕ)) → Option (List ℕ) → Type 0
GivesText w missing_ok None known = Knows w.input known
GivesText w missing_ok (Some path) known = OpensText w missing_ok path.now known

-- these bytes are the text
pub record IsTextOf (w : World) (missing_ok : Bool) (path : Option (Bor (List ℕ))) (bytes : List ℕ) : Type 0 where
  pub known : Option (List ℕ)
  pub gives : GivesText w missing_ok path known
  pub is : IfSome known (λ bs. bs ≡ bytes)

-- the bytes of what is read may be too many for a log
abbrev pub IsNoText : World → Bool → Option (Bor (List ℕ)) → ToolFault → Type 0
IsNoText w missing_ok path NotALog =
    (known : Option (List ℕ)) × GivesText w missing_ok path known × IfSome known (λ bs. log_of (as_five bs) ≡ log_reading.NotALog)
IsNoText w missing_ok path fault = ⊤

-- a line of standard error
abbrev pub said_line : List ℕ → List ℕ
said_line text = codes "nlog: " ++ (text ++ codes "\n")
