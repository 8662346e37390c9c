-- The files of outputs beside a log, and what a crash may leave of them: docs/DISK_MODEL.md, "Outputs".
use Rattle.std.specs.Prelude.{◌≡◌, ⊤, ℕ, Bool, true, false, bytes_eq, List, [], ◌∷◌, ◌++◌, Option, Some, None, IfSome, IsSome, if◌then◌else◌}
use Rattle.std.specs.List.{AllByRecursion}
use Rattle.nl_fields.specs.declared.entry.Entry.{Entry}
use Rattle.nl_table.specs.History.{History, answer}
use Rattle.nl_table.specs.Log.{history_of}
use Rattle.nl_folder.specs.DiskState.{Disk}
use Rattle.nl_folder.specs.CrashImages.{IsImage}
use Rattle.nl_session.specs.Headline.{Exchange, is_crash}
use Rattle.nl_session.specs.NeverStale.{MayEnter}

-- a step of a build: an exchange with its log, the contents that a file got, or a sync of a file that was answered Ok
pub data Step : Type 0 where
  Asked : Exchange → Step
  Written : (name contents : List ℕ) → Step
  Synced : (name : List ℕ) → Step

abbrev pub exchanges_of : List Step → List Exchange
exchanges_of [] = []
exchanges_of (Asked exchange ∷ steps) = exchange ∷ exchanges_of steps
exchanges_of (Written name contents ∷ steps) = exchanges_of steps
exchanges_of (Synced name ∷ steps) = exchanges_of steps

-- the contents that a read of a file gives, where they are known, and whether a crash leaves them
pub record Output : Type 0 where
  pub contents : Option (List ℕ)
  pub durable : Bool

-- of what isn't synced a crash may leave anything: old contents, new ones, a part, zeros or nothing. What it left stays
abbrev pub crashed : Output → Output
crashed o = if o.durable then o else record { contents = None; durable = true }

abbrev pub stepped : List ℕ → Output → Step → Output
stepped name o (Asked exchange) = if is_crash exchange then crashed o else o
stepped name o (Written other contents) = if bytes_eq name other then record { contents = Some contents; durable = false } else o
stepped name o (Synced other) = if bytes_eq name other then record o { durable = true } else o

-- a file after these steps
abbrev pub after : List ℕ → Output → List Step → Output
after name o [] = o
after name o (step ∷ steps) = after name (stepped name o step) steps

-- a crash may leave the file so
abbrev pub MayBeLeft : Output → List ℕ → Type 0
MayBeLeft o bytes = o.durable ≡ true → IfSome o.contents (λ contents. bytes ≡ contents)

-- a read may give these
abbrev pub MayBeRead : Output → List ℕ → Type 0
MayBeRead o bytes = IfSome o.contents (λ contents. bytes ≡ contents)

-- ---- a build that takes care of an output

-- it may have entered an entry of the output for which a command of this hash passes
abbrev pub MayVouch : List ℕ → ℕ → Entry → Exchange → Type 0
MayVouch name hash e exchange = MayEnter e exchange × (e.name ≡ name) × (e.hash ≡ hash)

abbrev pub writes : List ℕ → Step → Bool
writes name (Written other contents) = bytes_eq name other
writes name (Asked exchange) = false
writes name (Synced other) = false

abbrev pub NoneWrites : List ℕ → List Step → Type 0
NoneWrites name steps = AllByRecursion (λ step. writes name step ≡ false) steps

-- its contents are known, and no crash takes them
abbrev pub IsDurable : Output → Type 0
IsDurable o = (o.durable ≡ true) × IsSome o.contents

abbrev pub IsKnown : Output → Type 0
IsKnown o = IsSome o.contents

-- where an entry of the output is recorded for a command of this hash, the output is so, and isn't written later
abbrev pub IsCareful : (Output → Type 0) → List ℕ → ℕ → Output → List Step → Type 0
IsCareful Is name hash o [] = ⊤
IsCareful Is name hash o (Asked exchange ∷ steps) =
    ((e : Entry) → MayVouch name hash e exchange → Is o × NoneWrites name steps) × IsCareful Is name hash (stepped name o (Asked exchange)) steps
IsCareful Is name hash o (Written other contents ∷ steps) = IsCareful Is name hash (stepped name o (Written other contents)) steps
IsCareful Is name hash o (Synced other ∷ steps) = IsCareful Is name hash (stepped name o (Synced other)) steps

-- ---- what an entry vouches for

-- a load of these bytes finds an entry of the output for which a command of this hash passes
pub record Passes (name : List ℕ) (hash : ℕ) (bytes : List ℕ) : Type 0 where
  pub history : History
  pub reads : history_of bytes ≡ Some history
  pub found : Entry
  pub answers : answer history name ≡ Some found
  pub is_for : found.hash ≡ hash

-- an entry for a command of this hash was recorded, and the file then had these contents
pub record WasMade (name : List ℕ) (hash : ℕ) (o : Output) (steps : List Step) (contents : List ℕ) : Type 0 where
  pub before : List Step
  pub exchange : Exchange
  pub behind : List Step
  pub are : steps ≡ before ++ Asked exchange ∷ behind
  pub entry : Entry
  pub vouches : MayVouch name hash entry exchange
  pub had : (after name o before).contents ≡ Some contents

-- whatever a crash leaves of the log and of the file: if an entry passes, the file has what was there when such an entry was recorded
abbrev pub NeverHollow : List ℕ → ℕ → Output → List Step → Disk → Type 0
NeverHollow name hash o steps disk =
    (log contents : List ℕ) → IsImage disk log → Passes name hash log → MayBeLeft (after name o steps) contents → WasMade name hash o steps contents

-- no command of this hash passes for what stood of the output
abbrev pub PassesFor : ℕ → Option Entry → Type 0
PassesFor hash None = ⊥
PassesFor hash (Some e) = e.hash ≡ hash
