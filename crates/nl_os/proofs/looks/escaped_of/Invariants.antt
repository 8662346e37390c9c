use Rattle.std.proofs.Common.{◌≡◌, take}
use Rattle.std.specs.List.{flat_map}
use Rattle.nl_os.specs.Looks.{escaped}
use Rattle.nl_os.proofs.looks.escaped_of.Given as goal

-- the bytes before the place are told
abbrev pub invariant-loop-byte : goal.invariant-loop-byte
invariant-loop-byte l = l.text.items ≡ flat_map escaped (take l.byte-index l.bytes)
