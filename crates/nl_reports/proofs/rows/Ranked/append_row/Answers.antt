use Rattle.std.proofs.Common.{◌≡◌, ◌∙◌, ◌++◌, ◌∷◌, [], ℕ, List, ap, append-nil, append_assoc, arith, codes, length, refl, sym, true≢false}
use Rattle.std.specs.Prelude.{Bool, decimal}
use Rattle.std.proofs.lemmas.Bool.{cond-false, eq-eqb, eqb-true}
use Rattle.std.proofs.lemmas.Result.{on_ok_weaker}
use Rattle.nl_tool_texts.specs.Fraction.{ratio}
use Rattle.nl_tool_texts.specs.Texts.{joined, line}
use Rattle.nl_reports.specs.Rows.{list_key, named_kind, rank_key, screen_row, shown_name, told_row}
use Rattle.nl_reports.specs.Sweep.{parts}
use Rattle.nl_reports.proofs.rows.Ranked.append_row.Goals.{then-self, else-self, then-unnamed, else-unnamed, in-Time, in-Weight, then-self-4+in_ok-put, else-self-4+in_ok-append}
use Rattle.nl_reports.proofs.rows.Ranked.append_row.Goals as goal

no_name : (name : List ℕ) → length name ≡ 0 → named_kind name ≡ codes "(none)"
no_name [] none = refl
no_name (c ∷ cs) none = absurd (omega (arith, none))

own_name : (name : List ℕ) → (length name ≡ 0 → ⊥) → named_kind name ≡ name
own_name [] some = absurd (some refl)
own_name (c ∷ cs) some = refl

kinds_key : (by commands : List ℕ) → codes "kinds-" ++ (by ++ (commands ++ codes "\t")) ≡ codes "kinds-" ++ by ++ commands ++ codes "\t"
kinds_key by commands = simp append_assoc

whole : (old key time weighted name : List ℕ) → ((old ++ key) ++ joined (time ∷ codes "\t" ∷ weighted ∷ codes "\t" ∷ [])) ++ line (name ∷ [])
    ≡ old ++ (key ++ line (time ∷ weighted ∷ name ∷ []))
whole old key time weighted name = simp (append_assoc, append-nil)

pub returns : goal.returns
returns c =
    let r = c.args.self.now in
    let row = told_row c.args.row.now in
    let old = c.args.lines.now.items in
    let named : c.if-unnamed.name.now ≡ shown_name r.of_kinds row.name = elim c.if-unnamed.branch [
      | then-unnamed w ↦ ap (λ v. v.now) w.name-is ∙ elim c.if-self.branch [
        | then-self v ↦ sym (no_name row.name (eqb-true _ 0 (sym v.is_empty-unnamed.ensures ∙ sym v.unnamed-is ∙ w.if-unnamed.true)))
            ∙ ap (λ (k : Bool). shown_name k row.name) (sym v.if-self.true)
        | else-self v ↦ absurd (true≢false (sym w.if-unnamed.true ∙ v.unnamed-is ∙ v.if-self.false))
      ]
      | else-unnamed w ↦ ap (λ v. v.now) w.name-is ∙ elim c.if-self.branch [
        | then-self v ↦
            sym (own_name row.name (λ none. true≢false (sym (eq-eqb _ 0 none) ∙ sym v.is_empty-unnamed.ensures ∙ sym v.unnamed-is ∙ w.if-unnamed.false)))
            ∙ ap (λ (k : Bool). shown_name k row.name) (sym v.if-self.true)
        | else-self v ↦ ap (λ (k : Bool). shown_name k row.name) (sym v.if-self.false)
      ]
    ] in
    let by : c.match-rank.by.now ≡ rank_key c.args.rank = elim c.match-rank.branch [
      | in-Time w ↦ ap (λ v. v.now) w.by-is ∙ ap rank_key (sym w.in-Time.is)
      | in-Weight w ↦ ap (λ v. v.now) w.by-is ∙ ap rank_key (sym w.in-Weight.is)
    ] in
    let key : c.if-self-4.lines.items ≡ old ++ list_key r.of_kinds c.args.rank row.sums.commands = elim c.if-self-4.branch [
      | then-self-4+in_ok-put w ↦
          ap (λ v. v.items) w.lines-is ∙ w.in_ok-put.ensures.items
          ∙ ap (λ (l : List ℕ). old ++ (codes "kinds-" ++ (l ++ (decimal row.sums.commands ++ codes "\t")))) by
          ∙ ap (λ (l : List ℕ). old ++ l) (kinds_key (rank_key c.args.rank) (decimal row.sums.commands))
          ∙ ap (λ (k : Bool). old ++ list_key k c.args.rank row.sums.commands) (sym w.if-self-4.true)
      | else-self-4+in_ok-append w ↦
          ap (λ v. v.items) w.lines-is ∙ w.in_ok-append.ensures.items ∙ ap (λ (l : List ℕ). old ++ l) by
          ∙ ap (λ (k : Bool). old ++ list_key k c.args.rank row.sums.commands) (sym w.if-self-4.false)
    ] in
    let weighted = c.as_bytes.ensures.value ∙ c.in_ok-weighted.ensures.value ∙ ap (ratio row.sums.weight) c.from.ensures in
    let time = decimal row.sums.time in
    let text = list_key r.of_kinds c.args.rank row.sums.commands ++ line (time ∷ ratio row.sums.weight parts ∷ shown_name r.of_kinds row.name ∷ []) in
    record {
      items = on_ok_weaker c.append_line-2.result (λ h. h
          ∙ (λ i. (c.in_ok-put-2.ensures.items ∙ (λ k. key k ++ joined (time ∷ codes "\t" ∷ weighted k ∷ codes "\t" ∷ []))) i ++ line (named i ∷ []))
          ∙ whole old (list_key r.of_kinds c.args.rank row.sums.commands) time (ratio row.sums.weight parts) (shown_name r.of_kinds row.name)
          ∙ ap (λ (l : List ℕ). old ++ l) (sym (cond-false r.lists.screen (screen_row r.of_kinds r.total row) text c.if-self-2.false))) c.append_line-2.ensures.items;
    }
