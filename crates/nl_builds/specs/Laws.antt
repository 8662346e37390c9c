-- What a reader could doubt of the builds of a log.
use Rattle.std.specs.Prelude.{◌≡◌, ℕ, ◌<◌, Bool, true, not, List, [], ◌∷◌, length}
use Rattle.nl_builds.specs.Builds.{Told}
use Rattle.nl_builds.specs.declared.build.Build.{Build}
use Rattle.nl_builds.specs.declared.build.How.{How}
use Rattle.nl_builds.specs.declared.build.How.TheVariants.{AsWritten, FoundAgain}
use Rattle.nl_builds.specs.declared.command.Command.{Command}
use Rattle.nl_builds.specs.declared.seen.Seen.{Seen}

-- each ends behind the one before it, and the last at this place
abbrev pub Share : {A : Type 0} → (A → ℕ) → ℕ → List A → ℕ → Type 0
Share to from [] end = from ≡ end
Share to from (x ∷ xs) end = (from < to x) × Share to (to x) xs end

-- each has one entry at least
abbrev pub ShareEntries : ℕ → List Command → ℕ → Type 0
ShareEntries from cs end = Share (λ (c : Command). c.to) from cs end

-- each has one command at least
abbrev pub ShareCommands : ℕ → List Seen → ℕ → Type 0
ShareCommands from ss end = Share (λ (s : Seen). s.to) from ss end

-- up to the number of entries and to that of commands
abbrev pub PlacesRise : Told → Type 0
PlacesRise t = ShareEntries 0 t.commands (length t.entries) × Share (λ (b : Build). b.to) 0 t.builds (length t.commands)

abbrev pub is_modest_by : How → Bool → Bool
is_modest_by AsWritten sure = true
is_modest_by (FoundAgain taken) sure = not sure

abbrev pub is_modest : Build → Bool
is_modest b = is_modest_by b.how b.is_sure

abbrev pub AreModest : List Build → Type 0
AreModest [] = Unit {0}
AreModest (b ∷ bs) = (is_modest b ≡ true) × AreModest bs
