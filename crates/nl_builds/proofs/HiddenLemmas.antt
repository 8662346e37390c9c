-- Where no border may hide, it doesn't matter how many names are new.
use Rattle.std.proofs.Common.{◌≡◌, ◌∙◌, ℕ, ◌||◌, ◌&&◌, not, Bool, true, false, List, [], ◌∷◌, refl, sym, ap, subst}
use Rattle.std.specs.Prelude.{nat_lt, Option, None, Some}
use Rattle.std.specs.List.{list_any}
use Rattle.std.proofs.lemmas.Bool.{cond-false}
use Rattle.nl_fields.specs.declared.entry.Entry.{Entry}
use Rattle.nl_builds.specs.Builds.{IsTold, Told, again, as_written, beside_doubts, counts_names, is_before, new_commands, next_doubts, next_is_sure, told_at, told_with, written_build, written_builds}
use Rattle.nl_builds.specs.Seen.{doubts, is_close}
use Rattle.nl_builds.specs.declared.build.Build.{Build}
use Rattle.nl_builds.specs.declared.build.How.TheVariants.{AsWritten}
use Rattle.nl_builds.specs.declared.command.Command.{Command}
use Rattle.nl_builds.specs.declared.command.Row.{Row}
use Rattle.nl_builds.specs.declared.seen.Seen.{Seen}
use Rattle.nl_versions.specs.Stamps.{is_end, is_start}
use Rattle.nl_versions.specs.declared.entries.Stamps.{Stamps}

neither : (a b : Bool) → (a || b) ≡ false → (a ≡ false) × (b ≡ false)
neither true b is = absurd (cc is)
neither false b is = (refl, is)

early_most : (d c e p q early : Bool) → (d || true && c || e && (p || true && q)) ≡ false → (d || early && c || e && (p || early && q)) ≡ false
early_most d c e p q true is = is
early_most true c e p q false is = absurd (cc is)
early_most false true e p q false is = absurd (cc is)
early_most false false false p q false is = refl
early_most false false true true q false is = absurd (cc is)
early_most false false true false q false is = refl

module _ (stamps : Stamps) where
  -- what doesn't doubt where its lines may be in another order doubts nowhere
  never : (early : Bool) (s : Seen) → doubts stamps true s ≡ false → doubts stamps early s ≡ false
  never true s is = is
  never false s is = early_most s.is_doubtful (is_close s) (is_end stamps) _ _ false is

  next_never : (new from : ℕ) (ss : List Seen) → list_any (doubts stamps true) ss ≡ false → next_doubts stamps new from ss ≡ false
  next_never new from [] none = refl
  next_never new from (s ∷ ss) none = never (nat_lt from new) s (neither (doubts stamps true s) (list_any (doubts stamps true) ss) none).0

  and_false : (a b : Bool) → b ≡ false → (a && b) ≡ false
  and_false true b is = is
  and_false false b is = refl

  beside_never : (new from : ℕ) (s : Seen) (ss : List Seen) → list_any (doubts stamps true) ss ≡ false → beside_doubts stamps new from false s ss ≡ false
  beside_never new from s ss none = and_false (is_start stamps || nat_lt from new) (next_doubts stamps new s.to ss) (next_never new s.to ss none)

  none_hides : (new from : ℕ) (s : Seen) (ss : List Seen) → list_any (doubts stamps true) (s ∷ ss) ≡ false
      → (doubts stamps (nat_lt from new) s || beside_doubts stamps new from false s ss) ≡ false
  none_hides new from s ss none =
      let both = neither (doubts stamps true s) (list_any (doubts stamps true) ss) none in
      ap (λ (b : Bool). b || beside_doubts stamps new from false s ss) (never (nat_lt from new) s both.0) ∙ beside_never new from s ss both.1

  build_alike : (new from : ℕ) (s : Seen) (ss : List Seen) → list_any (doubts stamps true) (s ∷ ss) ≡ false
      → written_build stamps new from false s ss ≡ written_build stamps 0 from false s ss
  build_alike new from s ss none =
      let with_hidden : Bool → Build = λ b. record {
        to = s.to;
        began = s.began;
        how = AsWritten;
        is_sure = (is_start stamps || is_end stamps) && s.is_sure && next_is_sure ss && not b;
      } in
      ap with_hidden (none_hides new from s ss none) ∙ sym (ap with_hidden (none_hides 0 from s ss none))

  builds_alike : (new from : ℕ) (ss : List Seen) → list_any (doubts stamps true) ss ≡ false
      → written_builds stamps new from false ss ≡ written_builds stamps 0 from false ss
  builds_alike new from [] none = refl
  builds_alike new from (s ∷ ss) none =
      let both = neither (doubts stamps true s) (list_any (doubts stamps true) ss) none in
      let next : ℕ → Bool → List Build = λ n b. written_builds stamps n s.to b ss in
      ap (λ (b : Build). b ∷ next new (doubts stamps (nat_lt from new) s)) (build_alike new from s ss none)
      ∙ ap (λ (b : Bool). written_build stamps 0 from false s ss ∷ next new b) (never (nat_lt from new) s both.0)
      ∙ ap (λ (bs : List Build). written_build stamps 0 from false s ss ∷ bs) (builds_alike new s.to ss both.1)
      ∙ sym (ap (λ (b : Bool). written_build stamps 0 from false s ss ∷ next 0 b) (never (nat_lt from 0) s both.0))

  told_alike : (es : List Entry) (cs : List Command) (rs : List Row) (seen : List Seen) (back : Option ℕ)
      → told_with stamps es cs rs seen back ≡ told_at stamps (new_commands (counts_names stamps back seen) es cs) es cs rs seen back
  told_alike es cs rs seen (Some place) = refl
  told_alike es cs rs seen None = go (list_any (doubts stamps true) seen) refl
    where
      written : ℕ → Told
      written count = as_written stamps count es cs seen

      go : (hides : Bool) → list_any (doubts stamps true) seen ≡ hides → written (new_commands true es cs) ≡ written (new_commands hides es cs)
      go true is = refl
      go false is =
          ap (λ (bs : List Build). record { entries = es; commands = cs; builds = bs }) (builds_alike (new_commands true es cs) 0 seen is)

  pub told_written : (es : List Entry) (cs : List Command) (rs : List Row) (seen : List Seen) (back : Option ℕ) (count : ℕ)
      → count ≡ new_commands (counts_names stamps back seen) es cs → is_before back count ≡ false
      → IsTold (told_with stamps es cs rs seen back) es cs (written_builds stamps count 0 false seen)
  told_written es cs rs seen back count is before =
      let told : told_with stamps es cs rs seen back ≡ as_written stamps count es cs seen =
      told_alike es cs rs seen back ∙ ap (λ (n : ℕ). told_at stamps n es cs rs seen back) (sym is)
      ∙ cond-false (is_before back count) (again stamps count es cs rs) (as_written stamps count es cs seen) before in
      subst (λ (t : Told). IsTold t es cs (written_builds stamps count 0 false seen)) (sym told) (refl, refl, refl)
