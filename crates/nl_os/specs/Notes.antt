-- What a call leaves of the files of a log.
use Rattle.std.specs.Prelude.{◌≡◌, None, Result, option_map}
use Rattle.nl_folder.specs.Calls.{count_after}
use Rattle.nl_os.specs.FailedCall.{Keeps}
use Rattle.nl_os.specs.FileId.{number_of}
use Rattle.nl_os.specs.declared.failed_call.FailedCall.{FailedCall}
use Rattle.nl_os.specs.declared.os_system.OsFile.{OsFile}
use Rattle.nl_os.specs.declared.os_system.OsSystem.{OsSystem}

-- a failure, if there was one, is kept and counted
pub record Told {R I F T E : Type 0} (which : FailedCall → Type 0) (result : Result T E) (old new : OsSystem R I F) : Type 0 where
  pub last : Keeps which result old.kept.last new.kept.last
  pub paths : new.paths ≡ old.paths
  pub failures : new.kept.count ≡ count_after result old.kept.count

-- and what the last look found stands, because nothing was changed
pub record Notes {R I F T E : Type 0} (which : FailedCall → Type 0) (result : Result T E) (old new : OsSystem R I F) : Type 0 where
  pub told : Told which result old new
  pub look : new.seen ≡ old.seen

-- and what the last look found counts no more
pub record Changed {R I F T E : Type 0} (which : FailedCall → Type 0) (result : Result T E) (old new : OsSystem R I F) : Type 0 where
  pub told : Told which result old new
  pub look : option_map number_of new.seen ≡ None

-- of an open file, whatever was read of it or written to it
pub record IsSame {F : Type 0} (old new : OsFile F) : Type 0 where
  pub role : new.role ≡ old.role
  pub id : number_of new.id ≡ number_of old.id
