-- A file of the operating system as one number.
use Rattle.std.specs.Prelude.{ℕ, ◌+◌, ◌*◌, ◌^◌}
use Rattle.nl_os.specs.declared.system_file.FileId.{FileId}

-- two files have one number only if both of their numbers are the same, because each is below 2^64
abbrev pub number_of : FileId → ℕ
number_of id = id.device * 2 ^ 64 + id.number
