use Rattle.std.proofs.Common.{◌≡◌, ◌∙◌, ◌+◌, ◌<◌, ◌++◌, [], ◌∷◌, List, None, ℕ, ap, append-nil, append_assoc, arith, codes, drop, false, get_or, length, sym}
use Rattle.std.proofs.lemmas.List.{at_drop_more}
use Rattle.std.specs.Prelude.{decimal}
use Rattle.nl_builds.specs.declared.build.Build.{Build}
use Rattle.nl_builds.specs.declared.build.How.{How}
use Rattle.nl_builds.specs.declared.build.How.TheVariants.{AsWritten}
use Rattle.nl_reports.specs.BuildsText.{border_word, build_line, lines_from, numbers_line, told_line, taken_text}
use Rattle.nl_reports.specs.Jobs.{told}
use Rattle.nl_reports.specs.declared.job.Numbers.{Numbers}
use Rattle.nl_tool_texts.specs.Texts.{joined}
use Rattle.nl_reports.proofs.builds_table.builds_lines.Goals.{in-FoundAgain+in_ok-put-in-FoundAgain, in-AsWritten+in_ok-append-in-AsWritten}
use Rattle.nl_reports.proofs.builds_table.builds_lines.Goals as goal

-- the fields up to the word
abbrev fields : ℕ → ℕ → ℕ → ℕ → ℕ → List ℕ → List ℕ
fields number commands outputs wall total word = joined (decimal number ∷ codes "\t" ∷ decimal commands ∷ codes "\t" ∷ decimal outputs ∷ codes "\t"
    ∷ decimal wall ∷ codes "\t" ∷ decimal total ∷ codes "\t" ∷ word ∷ [])

whole : (number commands outputs wall total : ℕ) (old word taken : List ℕ)
    → (old ++ fields number commands outputs wall total word) ++ (taken ++ codes "\n") ≡ old ++ told_line number commands outputs wall total word taken
whole number commands outputs wall total old word taken = simp (append_assoc, append-nil)

pub loop-build-preserved : goal.loop-build-preserved
loop-build-preserved c =
    let t = told c.args.from.now in
    let bs = c.args.from.now.builds.items in
    let i = c.loop-build.build-index in
    let old = c.loop-build.lines.items in
    let number = c.loop-build.number + 1 in
    let no : Build = record { to = 0; began = None; how = AsWritten; is_sure = false } in
    let b = get_or c.deref-build-items.result.now i no in
    let n = c.numbers_of-numbers.result in
    let word = border_word b.how b.is_sure in
    let told_as = λ (how : How). old ++ told_line number n.commands n.outputs n.wall n.total word (taken_text how) in
    let first = c.in_ok-put.ensures.items ∙ (λ k. old ++ fields number n.commands n.outputs n.wall n.total (c.border_word.ensures k)) in
    let line : c.match-build.lines.items ≡ told_as b.how =
    elim c.match-build.branch [
      | in-FoundAgain+in_ok-put-in-FoundAgain w ↦
          let taken = codes "\t" ++ decimal w.in-FoundAgain.taken in
          ap (λ v. v.items) w.lines-is ∙ w.in_ok-put-in-FoundAgain.ensures.items ∙ ap (λ (l : List ℕ). l ++ (taken ++ codes "\n")) first
          ∙ whole number n.commands n.outputs n.wall n.total old word taken ∙ ap told_as (sym w.in-FoundAgain.is)
      | in-AsWritten+in_ok-append-in-AsWritten w ↦
          let taken : List ℕ = [] in
          ap (λ v. v.items) w.lines-is ∙ w.in_ok-append-in-AsWritten.ensures.items ∙ ap (λ (l : List ℕ). l ++ (taken ++ codes "\n")) first
          ∙ whole number n.commands n.outputs n.wall n.total old word taken ∙ ap told_as (sym w.in-AsWritten.is)
    ] in
    let within : i < length bs = omega (arith, c.loop-build-test.true, ap (λ (l : List Build). length l) c.deref-build-items.ensures.value) in
    let rest = lines_from t (number + 1) (drop (i + 1) bs) in
    record {
      lines = ap (λ (l : List ℕ). l ++ rest) (line ∙ ap (λ (m : Numbers). old ++ numbers_line number m b) c.numbers_of-numbers.ensures.value)
          ∙ append_assoc old (build_line t number b) rest
          ∙ ap (λ (l : List Build). old ++ (build_line t number (get_or l i no) ++ rest)) c.deref-build-items.ensures.value
          ∙ ap (λ (l : List ℕ). old ++ l) (sym (at_drop_more (λ (l : List Build). lines_from t number l) bs i no within))
          ∙ c.loop-build.invariant.lines;
      number = omega (arith, c.loop-build.invariant.number);
    }
