-- The parts of a picture, as they are written.
use Rattle.std.proofs.Common.{◌≡◌, ◌∙◌, ℕ, ◌+◌, ◌<◌, ◌≤◌, List, ◌++◌, Option, Result, ap, append-nil, append_assoc, arith, codes, drop, get_or, length, length-append, map, subst, sym, take, []}
use Rattle.std.specs.List.{flat_map, zip}
use Rattle.std.specs.Result.{IsErr}
use Rattle.std.proofs.lemmas.List.{at_drop_all, at_drop_more}
use Rattle.nl_tool_texts.specs.declared.fault.ToolFault.{ToolFault}
use Rattle.nl_reports.specs.Bars.{bar, bars_from, opened, short_bar, short_bars}
use Rattle.nl_reports.specs.Frame.{frame_of}
use Rattle.nl_reports.specs.Jobs.{Job, seen}
use Rattle.nl_reports.specs.Lanes.{lanes}
use Rattle.nl_reports.specs.Picture.{bars, bars_of, end, long_head, long_jobs, long_line, long_lines, longest, outline, outlined, picture, start}
use Rattle.nl_reports.specs.Picture.{frame as frame_in}
use Rattle.nl_reports.specs.Critical.{Ran}
use Rattle.nl_reports.specs.Curve.{curve}
use Rattle.nl_reports.specs.Reaches.{ran_seen}
use Rattle.nl_reports.specs.Rows.{spans}
use Rattle.nl_tool_texts.specs.Falling.{falling}
use Rattle.nl_reports.specs.Spans.{time_of}
use Rattle.nl_tool_texts.specs.Writing.{AppendsSomeOf, HoldsAllBut, Writes}
use Rattle.nl_tool_texts.specs.Output.{AppendsPrefixOf}
use Rattle.nl_reports.specs.declared.critical.Ran.{Ran as HeldRan}
use Rattle.nl_reports.specs.declared.frame.Short.{Short}
use Rattle.nl_reports.specs.declared.frame.Frame.{Frame}
use Rattle.nl_reports.specs.declared.job.Job.{Job as HeldJob}
use Rattle.nl_reports.specs.declared.moments.Span.{Span}
use Rattle.nl_tool_texts.proofs.FallingLemmas.{map-falling}
use Rattle.nl_tool_texts.proofs.ListedLemmas.{map-take}
use Rattle.nl_reports.proofs.PairLemmas.{pair_at, pairs_done}
use Rattle.nl_tool_texts.proofs.WritingLemmas.{end_missing, err_writes, held_more, none_written}

pub end_some : (f : Frame) (ls : List ℕ) (path : Option (List Ran)) (cs : List Span) (js : List Job) → 0 < length (end f ls path cs js)
end_some f ls path cs js = omega (
  arith,
  length-append ((codes "</g>\n" ++ curve f cs) ++ outlined f ls path) (longest f js),
  length-append (codes "</g>\n" ++ curve f cs) (outlined f ls path),
  length-append (codes "</g>\n") (curve f cs),
)

picture_some : (known : List ℕ) (path : Option (List Ran)) (js : List Job) → 0 < length (picture known path js)
picture_some known path js = omega (
  arith,
  end_some (frame_in js) (lanes (spans js)) path (spans js) js,
  length-append (start (frame_in js) known js ++ bars_of js) (end (frame_in js) (lanes (spans js)) path (spans js) js),
)

-- ---- the bars of the commands from one on, and those of short commands

pub bars_held : (old mid : Option (List ℕ)) (whole held more : List ℕ) (f : Frame) (js : List HeldJob) (found : List ℕ)
    (i lane : ℕ) (k : HeldJob) (shorts now : List Short) → i < length js → i < length found → k ≡ get_or js i k → lane ≡ get_or found i lane
    → more ≡ held ++ bar f shorts (seen k, lane) → now ≡ opened f shorts (seen k, lane)
    → HoldsAllBut old mid whole (held ++ bars_from f shorts (drop i (zip (map seen js) found)))
    → HoldsAllBut old mid whole (more ++ bars_from f now (drop (i + 1) (zip (map seen js) found)))
bars_held old mid whole held more f js found i lane k shorts now there lane_there is lane_is told opens holds =
    let after = drop (i + 1) (zip (map seen js) found) in
    subst (λ (l : List ℕ). HoldsAllBut old mid whole l)
    (pair_at (λ (l : List (Job × ℕ)). held ++ bars_from f shorts l) js found i lane k there lane_there is lane_is
    ∙ sym (append_assoc held (bar f shorts (seen k, lane)) (bars_from f (opened f shorts (seen k, lane)) after))
    ∙ (λ n. sym told n ++ bars_from f (sym opens n) after)) holds

pub bars_over : (old mid : Option (List ℕ)) (whole held : List ℕ) (f : Frame) (js : List HeldJob) (found : List ℕ) (i : ℕ) (shorts now : List Short)
    → length js ≤ i → now ≡ shorts → HoldsAllBut old mid whole (held ++ bars_from f shorts (drop i (zip (map seen js) found)))
    → HoldsAllBut old mid whole (held ++ short_bars f 0 now)
bars_over old mid whole held f js found i shorts now all is holds =
    subst (λ (l : List ℕ). HoldsAllBut old mid whole (held ++ l)) (pairs_done (bars_from f shorts) js found i all ∙ ap (short_bars f 0) (sym is)) holds

pub shorts_held : (old mid : Option (List ℕ)) (whole held more : List ℕ) (f : Frame) (shorts : List Short) (i : ℕ) (d : Short) → i < length shorts
    → more ≡ held ++ short_bar f i (get_or shorts i d) → HoldsAllBut old mid whole (held ++ short_bars f i (drop i shorts))
    → HoldsAllBut old mid whole (more ++ short_bars f (i + 1) (drop (i + 1) shorts))
shorts_held old mid whole held more f shorts i d within told holds =
    subst (λ (l : List ℕ). HoldsAllBut old mid whole l)
    (at_drop_more (λ (l : List Short). held ++ short_bars f i l) shorts i d within
    ∙ sym (append_assoc held (short_bar f i (get_or shorts i d)) (short_bars f (i + 1) (drop (i + 1) shorts)))
    ∙ ap (λ (l : List ℕ). l ++ short_bars f (i + 1) (drop (i + 1) shorts)) (sym told)) holds

-- ---- the whole

pub picture_is : (js : List Job) (known : List ℕ) (path : Option (List Ran)) (cs : List Span) (ls : List ℕ) (f : Frame) (first last : List ℕ)
    → cs ≡ spans js → ls ≡ lanes cs → f ≡ frame_of cs ls → first ≡ start f known js → last ≡ end f ls path cs js
    → first ++ bars f (zip js ls) ++ last ≡ picture known path js
picture_is js known path cs ls f first last ran found frame begins ends =
    let lane : ls ≡ lanes (spans js) = found ∙ ap lanes ran in
    (λ i. begins i ++ bars f (zip js ls) ++ ends i)
    ∙ (λ i. start ((frame ∙ (λ n. frame_of (ran n) (lane n))) i) known js ++ bars ((frame ∙ (λ n. frame_of (ran n) (lane n))) i) (zip js (lane i))
    ++ end ((frame ∙ (λ n. frame_of (ran n) (lane n))) i) (lane i) path (ran i) js)

pub none_drawn : (bytes : Option (List ℕ)) (known : List ℕ) (path : Option (List Ran)) (js : List Job) (r : Result (Unit {0}) ToolFault) → IsErr r
    → Writes bytes bytes (picture known path js) r
none_drawn bytes known path js r is =
    err_writes bytes bytes (picture known path js) r is (none_written bytes (picture known path js) (picture_some known path js))

-- ---- the end, which is held apart

pub end_absent : (old new : Option (List ℕ)) (text end whole : List ℕ) → 0 < length end → text ++ end ≡ whole → AppendsSomeOf old new text
    → AppendsPrefixOf old new whole
end_absent old new text end whole some is part = subst (λ (l : List ℕ). AppendsPrefixOf old new l) is (end_missing old new text end some part)

pub end_held : (old new : Option (List ℕ)) (text end whole held last : List ℕ) → text ++ end ≡ whole → last ≡ held ++ end
    → HoldsAllBut old new text held → HoldsAllBut old new whole last
end_held old new text end whole held last is more holds =
    subst (λ (l : List ℕ). HoldsAllBut old new l last) is (rw more (held_more old new text held end holds))

-- ---- the lines of the longest commands

pub lines_next : (f : Frame) (ks : List HeldJob) (i : ℕ) (k : HeldJob) → i < length ks → k ≡ get_or ks i k
    → long_lines f (i + 1) (map seen (drop i ks)) ≡ long_line f (i + 1) (seen k) ++ long_lines f (i + 1 + 1) (map seen (drop (i + 1) ks))
lines_next f ks i k within is =
    at_drop_more (λ (l : List HeldJob). long_lines f (i + 1) (map seen l)) ks i k within
    ∙ ap (λ (j : HeldJob). long_line f (i + 1) (seen j) ++ long_lines f (i + 1 + 1) (map seen (drop (i + 1) ks))) (sym is)

pub line_told : (f : Frame) (ks : List HeldJob) (i : ℕ) (k : HeldJob) (whole old new : List ℕ) → i < length ks → k ≡ get_or ks i k
    → new ≡ old ++ long_line f (i + 1) (seen k) → old ++ long_lines f (i + 1) (map seen (drop i ks)) ≡ whole
    → new ++ long_lines f (i + 1 + 1) (map seen (drop (i + 1) ks)) ≡ whole
line_told f ks i k whole old new within is more before =
    let rest = long_lines f (i + 1 + 1) (map seen (drop (i + 1) ks)) in
    ap (λ (l : List ℕ). l ++ rest) more ∙ append_assoc old (long_line f (i + 1) (seen k)) rest
    ∙ ap (λ (l : List ℕ). old ++ l) (sym (lines_next f ks i k within is)) ∙ before

pub lines_told : (f : Frame) (js : List HeldJob) (ks : List HeldJob) (i : ℕ) (old out new : List ℕ) → length ks ≤ i
    → ks ≡ take 10 (falling (λ (j : HeldJob). time_of j.span) js)
    → out ++ long_lines f (i + 1) (map seen (drop i ks)) ≡ (old ++ long_head f) ++ long_lines f 1 (map seen ks) → new ≡ out ++ codes "</svg>\n"
    → new ≡ old ++ longest f (map seen js)
lines_told f js ks i old out new all kept before last =
    let none : long_lines f (i + 1) (map seen (drop i ks)) ≡ long_lines f (i + 1) [] =
    at_drop_all (λ (l : List HeldJob). long_lines f (i + 1) (map seen l)) ks i all in
    let same : map seen ks ≡ long_jobs (map seen js) = ap (map seen) kept ∙ map-take seen 10 (falling (λ (j : HeldJob). time_of j.span) js)
    ∙ ap (take 10) (map-falling seen (λ (j : Job). time_of j.span) js) in
    let lines : out ≡ (old ++ long_head f) ++ long_lines f 1 (map seen ks) = sym (append-nil out) ∙ ap (λ (l : List ℕ). out ++ l) (sym none) ∙ before in
    last ∙ ap (λ (l : List ℕ). l ++ codes "</svg>\n") (lines ∙ ap (λ (l : List Job). (old ++ long_head f) ++ long_lines f 1 l) same)
    ∙ simp append_assoc

-- ---- the outlines of a critical path

pub outlines_next : (f : Frame) (ls : List ℕ) (xs : List HeldRan) (i : ℕ) (d : HeldRan) (out new whole : List ℕ) → i < length xs
    → new ≡ out ++ outline f ls (ran_seen (get_or xs i d)) → out ++ flat_map (outline f ls) (map ran_seen (drop i xs)) ≡ whole
    → new ++ flat_map (outline f ls) (map ran_seen (drop (i + 1) xs)) ≡ whole
outlines_next f ls xs i d out new whole within more before =
    let o = outline f ls in
    let rest = flat_map o (map ran_seen (drop (i + 1) xs)) in
    ap (λ (l : List ℕ). l ++ rest) more ∙ append_assoc out (o (ran_seen (get_or xs i d))) rest
    ∙ ap (λ (l : List ℕ). out ++ l) (sym (at_drop_more (λ (l : List HeldRan). flat_map o (map ran_seen l)) xs i d within)) ∙ before
