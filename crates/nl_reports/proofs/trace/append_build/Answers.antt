use Rattle.std.proofs.Common.{◌≡◌, ◌∙◌, ◌++◌, ℕ, List, ap, append-nil, append_assoc, codes, inl, inr, refl, sym}
use Rattle.std.specs.Global.{Vec}
use Rattle.std.proofs.lemmas.Bool.Decides.{eqb_tells}
use Rattle.std.proofs.lemmas.Result.{on_ok_weaker}
use Rattle.std.specs.Prelude.{decimal}
use Rattle.nl_reports.specs.Events.{build_name}
use Rattle.nl_reports.proofs.EventLemmas.{build_told, known_text}
use Rattle.nl_reports.proofs.trace.append_build.Goals as goal
use Rattle.nl_reports.proofs.trace.append_build.Goals.{then-build-eq0+in_ok-append-2, else-build-eq0+in_ok-append_with, in-AsWritten+in_ok-append-in-AsWritten, in-FoundAgain+in_ok-put-in-FoundAgain}

all_of_them : (n : ℕ) → n ≡ 0 → codes "all builds" ≡ build_name n
all_of_them n is = elim (eqb_tells n 0) [ inl h ↦ rw h.0 refl | inr h ↦ absurd (h.1 is) ]

one_of_them : (n : ℕ) → (n ≡ 0 → ⊥) → codes "build " ++ decimal n ≡ build_name n
one_of_them n some = elim (eqb_tells n 0) [ inl h ↦ absurd (some h.1) | inr h ↦ rw h.0 refl ]

in_line : (o a n k p d e : List ℕ) → (((o ++ a) ++ n) ++ k) ++ (p ++ (d ++ e)) ≡ o ++ (a ++ (n ++ (k ++ ((p ++ d) ++ e))))
in_line o a n k p d e = simp append_assoc

pub returns : goal.returns
returns c =
    let b = c.args.build in
    let old = c.args.out.now.items in
    let before = codes "{\"args\":{\"name\":\"" in
    let last = codes "},\"name\":\"process_name\",\"ph\":\"M\",\"pid\":" in
    let number = decimal b.number in
    let named : c.if-build-eq0.out.items ≡ (old ++ before) ++ build_name b.number = elim c.if-build-eq0.branch [
      | then-build-eq0+in_ok-append-2 w ↦ ap (λ (v : Vec ℕ). v.items) w.out-is ∙ w.in_ok-append-2.ensures.items ∙ (λ i. c.in_ok-append.ensures.items i ++ all_of_them b.number w.if-build-eq0.true i)
      | else-build-eq0+in_ok-append_with w ↦ ap (λ (v : Vec ℕ). v.items) w.out-is ∙ w.in_ok-append_with.ensures.items
          ∙ (λ i. c.in_ok-append.ensures.items i ++ one_of_them b.number w.if-build-eq0.false i)
    ] in
    let known : c.match-build.out.items ≡ ((old ++ before) ++ build_name b.number) ++ known_text b.how = elim c.match-build.branch [
      | in-AsWritten+in_ok-append-in-AsWritten w ↦ ap (λ (v : Vec ℕ). v.items) w.out-is ∙ w.in_ok-append-in-AsWritten.ensures.items ∙ (λ i. named i ++ known_text (sym w.in-AsWritten.is i))
      | in-FoundAgain+in_ok-put-in-FoundAgain w ↦ ap (λ (v : Vec ℕ). v.items) w.out-is ∙ w.in_ok-put-in-FoundAgain.ensures.items
          ∙ ap (λ (l : List ℕ). c.if-build-eq0.out.items ++ (codes ", found again\",\"rewritten\":true,\"taken\":" ++ l)) (append-nil (decimal w.in-FoundAgain.taken)) ∙ (λ i. named i ++ known_text (sym w.in-FoundAgain.is i))
    ] in
    record {
      items = on_ok_weaker c.put-2.result (λ h. h ∙ ap (λ (l : List ℕ). l ++ (last ++ (number ++ codes "}"))) known
          ∙ in_line old before (build_name b.number) (known_text b.how) last number (codes "}") ∙ ap (λ (l : List ℕ). old ++ l) (build_told b)) c.put-2.ensures.items;
    }
