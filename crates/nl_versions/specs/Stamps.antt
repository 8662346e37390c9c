-- What MTIME is in a log (docs/NINJA_TIMES.md).
use Rattle.std.specs.Prelude.{ℕ, Bool, true, false, List, if◌then◌else◌}
use Rattle.nl_versions.specs.Version.{has_starts}
use Rattle.nl_versions.specs.VersionOf.{names_four, version_of}
use Rattle.nl_versions.specs.declared.version.LogVersion.{LogVersion}
use Rattle.nl_versions.specs.declared.entries.Stamps.{Stamps}
use Rattle.nl_versions.specs.declared.entries.Stamps.TheVariants.{Unknown, OfEnd, OfStart}

-- nobody knows in a log of version 4
abbrev pub stamps_by : Bool → LogVersion → Stamps
stamps_by true version = Unknown
stamps_by false version = if has_starts version then OfStart else OfEnd

abbrev pub is_start : Stamps → Bool
is_start Unknown = false
is_start OfEnd = false
is_start OfStart = true

abbrev pub is_end : Stamps → Bool
is_end Unknown = false
is_end OfEnd = true
is_end OfStart = false

abbrev pub stamps_of : List ℕ → Stamps
stamps_of bytes = stamps_by (names_four bytes) (version_of bytes)
