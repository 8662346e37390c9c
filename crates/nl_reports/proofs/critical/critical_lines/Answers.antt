use Rattle.std.proofs.Common.{◌≡◌, ◌∙◌, ◌++◌, ◌+◌, ◌<◌, ◌≤◌, ◌∷◌, ℕ, Bool, true, false, List, [], ap, append-nil, append_assoc, arith, codes, drop, get_or, inl, inr, length, map, refl, sym}
use Rattle.std.specs.Global.{Vec}
use Rattle.std.specs.Prelude.{decimal}
use Rattle.std.proofs.lemmas.Bool.Decides.{eqb_tells}
use Rattle.nl_tool_texts.specs.Texts.{joined, line, told_moment, took_text}
use Rattle.std.proofs.lemmas.List.{at_drop_all, at_drop_more, length-map}
use Rattle.nl_reports.specs.Critical.{Ran as Told, lacking_line, ran_line, ran_lines, told_path, waited}
use Rattle.nl_tool_texts.specs.GraphText.{seen_graph}
use Rattle.nl_reports.specs.Jobs.{seen}
use Rattle.nl_reports.specs.Reaches.{ran_seen}
use Rattle.nl_reports.specs.Spans.{time_of}
use Rattle.nl_reports.specs.declared.critical.Ran.{Ran}
use Rattle.nl_reports.proofs.CriticalLemmas.{critical_told, path_told}
use Rattle.nl_reports.proofs.critical.critical_lines.Goals as goal
use Rattle.nl_reports.proofs.critical.critical_lines.Goals.{then-screen-2+in_ok-append_line, else-screen-2+in_ok-put-3, then-screen-3+in_ok-put-4, else-screen-3+in_ok-append_line-2}

none_lacking : (screen : Bool) (n time : ℕ) → n ≡ 0 → [] ≡ lacking_line screen n time
none_lacking screen n time none = elim (eqb_tells n 0) [ inl h ↦ rw h.0 refl | inr h ↦ absurd (h.1 none) ]

shown_lacking : (screen : Bool) (n time : ℕ) → (n ≡ 0 → ⊥) → screen ≡ true
    → joined (codes "Commands that the graph lacks: " ∷ decimal n ∷ codes " (" ∷ took_text screen time ∷ codes ")\n" ∷ []) ≡ lacking_line screen n time
shown_lacking screen n time some is = elim (eqb_tells n 0) [ inl h ↦ absurd (some h.1) | inr h ↦ rw h.0 (rw is refl) ]

told_lacking : (screen : Bool) (n time : ℕ) → (n ≡ 0 → ⊥) → screen ≡ false
    → line (codes "not-in-graph" ∷ decimal n ∷ took_text screen time ∷ []) ≡ lacking_line screen n time
told_lacking screen n time some is = elim (eqb_tells n 0) [ inl h ↦ absurd (some h.1) | inr h ↦ rw h.0 (rw is refl) ]

shown_ran : (screen : Bool) (before time wait : ℕ) (r : Told) → screen ≡ true → time ≡ time_of r.span → wait ≡ waited before r
    → line (took_text screen time ∷ took_text screen wait ∷ told_moment screen r.span.began ∷ r.name ∷ []) ≡ ran_line screen before r
shown_ran screen before time wait r is took waits = rw is (rw took (rw waits refl))

told_ran : (screen : Bool) (before time : ℕ) (r : Told) → screen ≡ false → time ≡ time_of r.span
    → joined (codes "on-path\t" ∷ took_text screen time ∷ codes "\t" ∷ told_moment screen r.span.began ∷ codes "\t" ∷ told_moment screen r.span.ended
    ∷ codes "\t" ∷ r.name ∷ codes "\n" ∷ []) ≡ ran_line screen before r
told_ran screen before time r is took = rw is (rw took refl)

-- the line of one more
more_ran : (screen : Bool) (before : ℕ) (xs ys : List Ran) (i : ℕ) (d : Ran) (new old text : List ℕ) → xs ≡ ys → i < length ys
    → new ≡ old ++ ran_line screen before (ran_seen (get_or xs i d)) → old ++ ran_lines screen before (map ran_seen (drop i ys)) ≡ text
    → new ++ ran_lines screen (get_or xs i d).span.ended (map ran_seen (drop (i + 1) ys)) ≡ text
more_ran screen before xs ys i d new old text same inside more so_far =
    let rest = map ran_seen (drop (i + 1) ys) in
    let r = get_or xs i d in
    ap (λ (l : List ℕ). l ++ ran_lines screen r.span.ended rest) more
    ∙ append_assoc old (ran_line screen before (ran_seen r)) (ran_lines screen r.span.ended rest)
    ∙ ap (λ (l : List Ran). old ++ ran_lines screen before (ran_seen (get_or l i d) ∷ rest)) same
    ∙ sym (at_drop_more (λ (l : List Ran). old ++ ran_lines screen before (map ran_seen l)) ys i d inside) ∙ so_far

pub loop-ran-preserved : goal.loop-ran-preserved
loop-ran-preserved c =
    let d : Ran = record { span = record { began = 0; ended = 0 }; name = record { ref_ptr = (0, 0); now = [] }; place = 0 } in
    let screen = c.args.screen in
    let ys = c.args.found.now.path.commands.items in
    let i = c.loop-ran.ran-index in
    let r = ran_seen (get_or c.as_slice-ran-items.result.now i d) in
    let before = c.loop-ran.before in
    let old = c.loop-ran.lines.items in
    let time : c.from.result ≡ time_of r.span = c.from.ensures ∙ c.time.ensures.value in
    let wait : c.from-in-loop-ran.result ≡ waited before r = c.from-in-loop-ran.ensures ∙ c.saturating_sub.ensures in
    let more : c.if-screen-2.lines.items ≡ old ++ ran_line screen before r = elim c.if-screen-2.branch [
      | then-screen-2+in_ok-append_line w ↦ ap (λ (v : Vec ℕ). v.items) w.lines-is ∙ w.in_ok-append_line.ensures.items
          ∙ ap (λ (l : List ℕ). old ++ l) (shown_ran screen before c.from.result c.from-in-loop-ran.result r w.if-screen-2.true time wait)
      | else-screen-2+in_ok-put-3 w ↦ ap (λ (v : Vec ℕ). v.items) w.lines-is ∙ w.in_ok-put-3.ensures.items
          ∙ ap (λ (l : List ℕ). old ++ l) (told_ran screen before c.from.result r w.if-screen-2.false time)
    ] in
    let inside : i < length ys = omega (arith, c.loop-ran-test.true, ap length c.as_slice-ran-items.ensures.value) in
    more_ran screen before c.as_slice-ran-items.result.now ys i d c.if-screen-2.lines.items old _ c.as_slice-ran-items.ensures.value inside more c.loop-ran.invariant

pub returns-then-found-eq0 : goal.returns-then-found-eq0
returns-then-found-eq0 c = record {
  value = λ g is.
      let js = map seen c.args.jobs.now in
      let found = c.args.found.now.path in
      let cs = found.commands.items in
      let i = c.loop-ran.ran-index in
      let path = c.loop-ran.lines.items in
      let all : length cs ≤ i = omega (arith, c.loop-ran-test.false, ap length c.as_slice-ran-items.ensures.value) in
      let none : drop i cs ≡ [] = at_drop_all (λ (l : List Ran). l) cs i all in
      let told : path ≡ told_path c.args.screen found.length (map ran_seen cs) = sym (append-nil path)
      ∙ sym (ap (λ (l : List Ran). path ++ ran_lines c.args.screen c.loop-ran.before (map ran_seen l)) none) ∙ c.loop-ran.invariant in
      critical_told c.args.screen (seen_graph g) js c.loop-ran.lines (record {
        some = λ e. search (arith, is.some e, length-map c.args.jobs.now seen);
        path = path;
        is_path = path_told c.args.screen (seen_graph g) js _ _ path is.is_path told;
        is = sym (append-nil path) ∙ ap (λ (l : List ℕ). path ++ l) (none_lacking c.args.screen c.args.found.now.lacking c.args.found.now.lacking_time c.if-found-eq0.true)
            ∙ (λ i. path ++ lacking_line c.args.screen (is.count i) (is.time i));
      });
}

pub returns : goal.returns
returns c = record {
  value = λ g is.
      let js = map seen c.args.jobs.now in
      let found = c.args.found.now.path in
      let cs = found.commands.items in
      let i = c.loop-ran.ran-index in
      let path = c.loop-ran.lines.items in
      let all : length cs ≤ i = omega (arith, c.loop-ran-test.false, ap length c.as_slice-ran-items.ensures.value) in
      let none : drop i cs ≡ [] = at_drop_all (λ (l : List Ran). l) cs i all in
      let told : path ≡ told_path c.args.screen found.length (map ran_seen cs) = sym (append-nil path)
      ∙ sym (ap (λ (l : List Ran). path ++ ran_lines c.args.screen c.loop-ran.before (map ran_seen l)) none) ∙ c.loop-ran.invariant in
      let lacks : c.if-screen-3.lines.items ≡ path ++ lacking_line c.args.screen c.args.found.now.lacking c.args.found.now.lacking_time = elim c.if-screen-3.branch [
        | then-screen-3+in_ok-put-4 w ↦ ap (λ (v : Vec ℕ). v.items) w.lines-is ∙ w.in_ok-put-4.ensures.items
            ∙ ap (λ (l : List ℕ). path ++ l) (shown_lacking c.args.screen c.args.found.now.lacking c.args.found.now.lacking_time c.if-found-eq0.false w.if-screen-3.true)
        | else-screen-3+in_ok-append_line-2 w ↦ ap (λ (v : Vec ℕ). v.items) w.lines-is ∙ w.in_ok-append_line-2.ensures.items
            ∙ ap (λ (l : List ℕ). path ++ l) (told_lacking c.args.screen c.args.found.now.lacking c.args.found.now.lacking_time c.if-found-eq0.false w.if-screen-3.false)
      ] in
      critical_told c.args.screen (seen_graph g) js c.if-screen-3.lines (record {
        some = λ e. search (arith, is.some e, length-map c.args.jobs.now seen);
        path = path;
        is_path = path_told c.args.screen (seen_graph g) js _ _ path is.is_path told;
        is = lacks ∙ (λ i. path ++ lacking_line c.args.screen (is.count i) (is.time i));
      });
}
