use Rattle.std.specs.Prelude.{◌==◌}
use Rattle.std.proofs.Common.{◌≡◌, ◌∙◌, ◌<◌, ℕ, zero, suc, false, List, [], ◌∷◌, ap, arith, get_or, length, refl, sym}
use Rattle.std.proofs.Math.Dec.{eqb-suc-zero}
use Rattle.std.proofs.lemmas.Bool.{cond-false}
use Rattle.nl_builds.specs.Builds.{Told}
use Rattle.nl_builds.specs.declared.command.Command.{Command}
use Rattle.nl_reports.specs.Jobs.{build_commands, is_manifest_alone, last_number, last_of, or_last, told}
use Rattle.nl_reports.proofs.choice.last_number.Goals.{then-commands-ne1-via-then-commands-ne1, then-commands-ne1-via-else-commands-ne1+then-not-commands}
use Rattle.nl_reports.proofs.choice.last_number.Goals as goal

not_one : (cs : List Command) → (length cs ≡ 1 → ⊥) → is_manifest_alone cs ≡ false
not_one [] other = refl
not_one (c ∷ []) other = absurd (other refl)
not_one (c ∷ d ∷ cs) other = refl

not_it : (cs : List Command) (d : Command) → (get_or cs 0 d).is_manifest ≡ false → is_manifest_alone cs ≡ false
not_it [] d is = refl
not_it (c ∷ []) d is = is
not_it (c ∷ d ∷ cs) e is = refl

-- `count` counts its builds
last_is : (t : Told) (n count : ℕ) → 0 < n → is_manifest_alone (build_commands t n) ≡ false → last_of t n ≡ last_of t count → count ≡ length t.builds
    → n ≡ last_number t
last_is t zero count some apart same all = absurd (omega (arith, some))
last_is t (suc k) count some apart same all =
    let is : suc k ≡ last_of t (length t.builds) =
    sym (cond-false (is_manifest_alone (build_commands t (suc k))) (last_of t k) (suc k) apart) ∙ same ∙ ap (last_of t) all in
    sym (cond-false (suc k == 0) (length t.builds) (suc k) (eqb-suc-zero k)) ∙ ap (or_last (length t.builds)) is

pub returns-then-commands-ne1-clause-value : goal.returns-then-commands-ne1-clause-value
returns-then-commands-ne1-clause-value c =
    let cs = c.made_by.result.0.now in
    let alone : is_manifest_alone cs ≡ false = elim c.then-commands-ne1.branch [
      | then-commands-ne1-via-then-commands-ne1 w ↦ not_one cs w.if-commands-ne1.true
      | then-commands-ne1-via-else-commands-ne1+then-not-commands w ↦ not_it cs _ w.if-not-commands.true
    ] in
    last_is (told c.args.from.now) c.builds.number _ (omega (arith, c.builds-test.true)) (ap is_manifest_alone (sym c.made_by.ensures.commands) ∙ alone)
    c.builds.invariant.same c.builds.invariant.all
