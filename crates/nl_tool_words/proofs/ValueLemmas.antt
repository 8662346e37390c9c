-- The texts behind references that may be missing.
use Rattle.std.proofs.Common.{◌≡◌, ◌∙◌, ◌||◌, Bool, true, false, List, Option, Some, None, IsSome, is_some, option_map, refl, sym}
use Rattle.std.proofs.Common.{ap, Bor, true≢false}
use Rattle.std.specs.Prelude.{Box}
use Rattle.std.specs.Box.{box_value}
use Rattle.std.specs.declared.alloc.Global.{Global}
use Rattle.clap.specs.Words.{Row, Text, subcommand_name_of, subcommand_rows, subcommand_rows_of}
use Rattle.clap.specs.declared.parser.matches.ArgMatches.{ArgMatches}
use Rattle.clap.specs.declared.parser.matches.ArgMatches.TheViews.{out-ArgMatches, out-SubCommand}
use Rattle.clap.specs.declared.parser.matches.SubCommand.{SubCommand}

-- a reference to a text that is there
pub some_of : (o : Option (Bor Text)) (t : Option Text) → option_map (λ (s : Bor Text). s.now) o ≡ t → is_some t ≡ true → IsSome o
some_of None t e there = absurd (true≢false (sym there ∙ ap is_some (sym e)))
some_of (Some s) t e there = refl

pub text_of_some : (o : Option (Bor Text)) (r : Bor Text) (t : Option Text) → o ≡ Some r → option_map (λ (s : Bor Text). s.now) o ≡ t
    → t ≡ Some r.now
text_of_some o r t e f = sym f ∙ ap (option_map (λ (s : Bor Text). s.now)) e

pub or_false : (a b : Bool) → b ≡ false → (a || b) ≡ a
or_false true b e = refl
or_false false b e = e

-- the subcommand that was entered, by its name and its rows
pub entered_is : (m : ArgMatches) (name : Text) (rows : List Row) → Some name ≡ subcommand_name_of m
    → Some rows ≡ option_map (λ p. p.1) (subcommand_rows (out-ArgMatches m).subcommand)
    → subcommand_rows_of m ≡ Some (name, rows)
entered_is m name rows e f = go (out-ArgMatches m).subcommand e f
  where
    go : (b : Option (Box SubCommand Global)) → Some name ≡ option_map (λ b. (out-SubCommand (box_value b)).name.now) b
        → Some rows ≡ option_map (λ p. p.1) (subcommand_rows b) → subcommand_rows b ≡ Some (name, rows)
    go None e f = cc
    go (Some b) e f = cc
