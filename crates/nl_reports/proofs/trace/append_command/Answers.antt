use Rattle.std.proofs.Common.{◌≡◌, ◌∙◌, ◌+◌, ◌++◌, ◌*◌, ◌≤◌, ◌∷◌, [], ℕ, List, ap, append_assoc, arith, codes, length, subst, sym}
use Rattle.std.specs.Prelude.{All, decimal}
use Rattle.std.proofs.lemmas.List.{at_drop_all}
use Rattle.std.proofs.lemmas.Result.{on_ok_weaker}
use Rattle.nl_fields.specs.Digits.{digits_of}
use Rattle.nl_tool_texts.specs.Escape.{IsBare}
use Rattle.nl_reports.specs.Events.{args_of, event_text, shown}
use Rattle.nl_reports.specs.Jobs.{seen}
use Rattle.nl_reports.proofs.EventLemmas.{command_is, end_text}
use Rattle.nl_reports.proofs.NameLemmas.{args_told, first_bare, names_text}
use Rattle.nl_tool_texts.proofs.TextLemmas.{three_parts}
use Rattle.nl_reports.proofs.trace.append_command.Goals as goal
use Rattle.nl_reports.proofs.trace.append_command.Goals.{then-is_first_bare, else-is_first_bare}

abbrev told : List ℕ → ℕ → List ℕ → List ℕ → List ℕ
told args dur name end = codes ",{\"args\":" ++ (args ++ (codes ",\"dur\":" ++ (decimal dur ++ (codes ",\"name\":" ++ (name ++ end)))))

in_order : (k a c d e f g h m n p q r : List ℕ)
    → ((k ++ a ++ (c ++ d)) ++ e ++ f) ++ ((g ++ h) ++ (m ++ n) ++ (p ++ q)) ++ r
    ≡ k ++ (a ++ (c ++ (d ++ (e ++ (f ++ (g ++ (h ++ (m ++ (n ++ (p ++ (q ++ r)))))))))))
in_order k a c d e f g h m n p q r = simp append_assoc

pub returns : goal.returns
returns c =
    let b = c.args.build in
    let j = seen c.args.job.now in
    let old = c.args.out.now.items in
    let args = event_text (args_of j) in
    let dur = codes ",\"dur\":" ++ decimal (c.time.result * 1000) in
    let name = event_text (shown c.name-name.result.now) in
    let number = codes ",\"ph\":\"X\",\"pid\":" ++ decimal b.number in
    let tid = codes ",\"tid\":" ++ decimal (c.args.lane + 1) in
    let ts = codes ",\"ts\":" ++ decimal (c.saturating_sub-ts.result * 1000) in
    let first = codes ",{\"args\":" ++ args ++ dur in
    let second = first ++ codes ",\"name\":" ++ name in
    let i = c.loop-entry.entry-index in
    let all : length j.outputs ≤ i = omega (arith, c.loop-entry-test.false) in
    let before = old ++ codes ",{\"args\":" in
    let start : c.append-2.new.out.items ≡ ((before ++ codes "{\"hash\":\"") ++ digits_of 16 j.hash) ++ codes "\",\"outputs\":[" =
    c.in_ok-append-2.ensures.items ∙ ap (λ (l : List ℕ). l ++ codes "\",\"outputs\":[") (c.in_ok-append_hex64.ensures.ok
    ∙ ap (λ (l : List ℕ). l ++ digits_of 16 j.hash) (c.in_ok-append.ensures.items ∙ sym (append_assoc old (codes ",{\"args\":") (codes "{\"hash\":\"")))) in
    let listed : c.loop-entry.out.items ++ 93 ∷ [] ≡ c.append-2.new.out.items ++ names_text 0 j.outputs =
    ap (λ (l : List ℕ). c.loop-entry.out.items ++ l) (sym (at_drop_all (names_text i) j.outputs i all)) ∙ c.loop-entry.invariant.told in
    let lasted = c.in_ok-append_with.ensures.items ∙ args_told before c.append-2.new.out.items c.loop-entry.out.items dur j start listed
    ∙ append_assoc before args dur ∙ append_assoc old (codes ",{\"args\":") (args ++ dur) in
    let named = three_parts old _ _ _ first (codes ",\"name\":") name lasted c.in_ok-append-4.ensures.items c.in_ok-append_shown-2.ensures.items in
    let begun = three_parts _ _ _ _ number tid ts c.in_ok-append_with-2.ensures.items c.in_ok-append_with-3.ensures.items c.in_ok-append_with-4.ensures.items in
    record {
      items = on_ok_weaker c.append-4.result (λ h. three_parts old _ _ _ second (number ++ tid ++ ts) (codes "}") named begun h
          ∙ ap (λ (l : List ℕ). old ++ l) (in_order (codes ",{\"args\":") args (codes ",\"dur\":") (decimal (c.time.result * 1000)) (codes ",\"name\":") name (codes ",\"ph\":\"X\",\"pid\":")
          (decimal b.number) (codes ",\"tid\":") (decimal (c.args.lane + 1)) (codes ",\"ts\":") (decimal (c.saturating_sub-ts.result * 1000)) (codes "}")
          ∙ (λ i. told args (c.time.ensures.value i * 1000) (event_text (shown (c.name-name.ensures i))) (end_text b.number (c.args.lane + 1) (c.saturating_sub-ts.ensures i * 1000)))
          ∙ command_is b c.args.lane j)) c.append-4.ensures.items;
    }

pub append_shown-requires : goal.append_shown-requires
append_shown-requires c = record {
  bare = elim c.if-is_first_bare.branch [
    | then-is_first_bare w ↦ λ is. first_bare c.args.job.now.outputs.now c.loop-entry.entry-index c.loop-entry.comma.now _ c.entry-item.result c.entry-item.result
        (subst (All IsBare) c.name-name.ensures (c.is_bare-is_first_bare.ensures.bare w.if-is_first_bare.true.1)) c.loop-entry.invariant.comma (sym w.if-is_first_bare.true.0 ∙ c.is_empty.ensures) (omega (arith, c.loop-entry-test.true))
        c.entry-item.is c.name-in-loop-entry.ensures.value
    | else-is_first_bare w ↦ λ is. subst (All IsBare) (w.name.ensures.value ∙ sym c.name-in-loop-entry.ensures.value) (w.is_bare-is_bare.ensures.bare (sym w.is_bare-is ∙ is))
  ];
}
