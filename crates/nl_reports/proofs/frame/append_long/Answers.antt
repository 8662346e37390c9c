use Rattle.std.proofs.Common.{◌≡◌, ◌∙◌, ◌<◌, ◌≤◌, ◌-◌, ◌+◌, ◌/◌, ◌++◌, ◌∷◌, [], ℕ, List, Vec, Global, ap, append-nil, append_assoc, arith, codes, inl, inr, length, min, refl, sym}
use Rattle.std.specs.Prelude.{decimal}
use Rattle.std.proofs.lemmas.Bool.{le-ltb, lt-ltb}
use Rattle.std.proofs.lemmas.Bool.Decides.{eqb_tells}
use Rattle.std.proofs.lemmas.Result.{on_ok_weaker}
use Rattle.nl_reports.specs.Bars.{drawn_width, kind_of, more_outputs, name_text, named, rect, room_of, times_text, title, width_of}
use Rattle.nl_reports.specs.Frame.{x_at}
use Rattle.nl_reports.specs.Jobs.{Job, first_name, seen}
use Rattle.nl_reports.specs.Spans.{time_of}
use Rattle.nl_reports.specs.declared.frame.Frame.{Frame}
use Rattle.nl_tool_texts.specs.Escape.{cut_name, label}
use Rattle.nl_tool_texts.specs.Kind.{base_of}
use Rattle.nl_tool_texts.specs.Texts.{joined, seconds}
use Rattle.nl_tool_texts.proofs.TextLemmas.{three_parts}
use Rattle.nl_reports.proofs.frame.append_long.Goals as goal
use Rattle.nl_reports.proofs.frame.append_long.Goals.{then-width-lt20, else-width-lt20, then-more-gt0+in_ok-put-2, else-more-gt0, then-room-lt4-via-then-room-lt4, then-room-lt4-via-else-room-lt4+then-frame-ge64}

room_is : (w r n : ℕ) → r ≡ w - 80 → n ≡ min (r / 70) 22 → n ≡ room_of w
room_is w r n rest is = omega (arith, rest, is)

no_room : (f : Frame) (lane x width : ℕ) (name : List ℕ) → room_of width < 4 → [] ≡ name_text f lane x width name
no_room f lane x width name few = rw (lt-ltb (room_of width) 4 few) refl

many_lanes : (f : Frame) (lane x width : ℕ) (name : List ℕ) → 4 ≤ room_of width → 64 ≤ f.top → [] ≡ name_text f lane x width name
many_lanes f lane x width name some many = rw (le-ltb (room_of width) 4 some) (rw (le-ltb f.top 64 many) refl)

with_name : (f : Frame) (lane x width : ℕ) (name : List ℕ) → 4 ≤ room_of width → f.top < 64
    → named f lane x (room_of width) name ≡ name_text f lane x width name
with_name f lane x width name some few = rw (le-ltb (room_of width) 4 some) (rw (lt-ltb f.top 64 few) refl)

drawn_narrow : (w n : ℕ) → n ≡ w → w < 20 → n ≡ drawn_width w
drawn_narrow w n is few = rw (lt-ltb w 20 few) is

drawn_wide : (w n : ℕ) → n ≡ w - 6 → 20 ≤ w → n ≡ drawn_width w
drawn_wide w n is many = rw (le-ltb w 20 many) is

some_more : (n : ℕ) → 0 < n → joined (codes " and " ∷ decimal n ∷ codes " more" ∷ []) ≡ more_outputs n
some_more n some = elim (eqb_tells n 0) [ inl h ↦ absurd (omega (arith, some, h.1)) | inr h ↦ rw h.0 refl ]

no_more : (n : ℕ) → n ≤ 0 → [] ≡ more_outputs n
no_more n none = elim (eqb_tells n 0) [ inl h ↦ rw h.0 refl | inr h ↦ absurd (h.1 (omega (arith, none))) ]

-- the times of a title
times_told : (time start : List ℕ) → joined (codes "\n" ∷ time ∷ codes " s from " ∷ start ∷ codes " s</title></rect>\n" ∷ []) ≡ times_text time start
times_told time start = simp (append_assoc, append-nil)

pub returns-then-room-lt4 : goal.returns-then-room-lt4
returns-then-room-lt4 c =
    let old = c.args.out.now.items in
    let f = c.args.frame.now in
    let j = seen c.args.job.now in
    let lane = c.args.lane in
    let x = c.x_at-x.ensures.value in
    let width = c.requires.width in
    let drawn : c.if-width-lt20.drawn ≡ drawn_width (width_of f j) = elim c.if-width-lt20.branch [
      | then-width-lt20 w ↦ drawn_narrow (width_of f j) _ (w.drawn-is ∙ width) (omega (arith, w.if-width-lt20.true, width))
      | else-width-lt20 w ↦ drawn_wide (width_of f j) _ (w.drawn-is ∙ ap (λ (n : ℕ). n - 6) width) (omega (arith, w.if-width-lt20.false, width))
    ] in
    let kind = c.kind_of.ensures.value in
    let labelled = c.in_ok-append_label.ensures.items ∙ ap (λ (n : List ℕ). c.put.new.out.items ++ label n) c.name-name.ensures in
    let outputs = c.saturating_sub-more.ensures in
    let extra : c.if-more-gt0.out.items ≡ c.append_label.new.out.items ++ more_outputs (length j.outputs - 1) = elim c.if-more-gt0.branch [
      | then-more-gt0+in_ok-put-2 w ↦ ap (λ (v : Vec ℕ Global). v.items) w.out-is ∙ w.in_ok-put-2.ensures.items
          ∙ ap (λ (l : List ℕ). c.append_label.new.out.items ++ l) (some_more _ w.if-more-gt0.true ∙ ap more_outputs outputs)
      | else-more-gt0 w ↦ ap (λ (v : Vec ℕ Global). v.items) w.out-is ∙ sym (append-nil c.append_label.new.out.items)
          ∙ ap (λ (l : List ℕ). c.append_label.new.out.items ++ l) (no_more _ w.if-more-gt0.false ∙ ap more_outputs outputs)
    ] in
    let times = c.in_ok-put-3.ensures.items
    ∙ (λ i. c.if-more-gt0.out.items ++ joined (codes "\n" ∷ seconds (c.time.ensures.value i) ∷ codes " s from " ∷ seconds (c.saturating_sub.ensures i)
    ∷ codes " s</title></rect>\n" ∷ []))
    ∙ ap (λ (l : List ℕ). c.if-more-gt0.out.items ++ l) (times_told (seconds (time_of j.span)) (seconds (j.span.began - f.began))) in
    let told = three_parts c.put.new.out.items c.append_label.new.out.items c.if-more-gt0.out.items c.put-2.new.out.items _ _ _ labelled extra times in
    let at = x_at f j.span.began in
    let name = first_name j.outputs in
    let room = room_is (width_of f j) c.saturating_sub-2.result c.min-room.result (c.saturating_sub-2.ensures ∙ ap (λ (n : ℕ). n - 80) width) c.min-room.ensures in
    let none : [] ≡ name_text f lane at (width_of f j) name = elim c.then-room-lt4.branch [
      | then-room-lt4-via-then-room-lt4 w ↦ no_room f lane at (width_of f j) name (omega (arith, room, w.if-room-lt4.true))
      | then-room-lt4-via-else-room-lt4+then-frame-ge64 w ↦
          many_lanes f lane at (width_of f j) name (omega (arith, room, w.if-room-lt4.false)) (omega (arith, w.if-frame-ge64.true))
    ] in
    record {
      items = three_parts old c.put.new.out.items c.put-2.new.out.items c.put-2.new.out.items
          (rect f lane at (drawn_width (width_of f j)) (kind_of j)) (title f j) (name_text f lane at (width_of f j) name)
          (c.in_ok-put.ensures.items ∙ (λ i. old ++ joined (codes "<rect class=\"k" ∷ decimal (kind i) ∷ codes "\" x=\"" ∷ decimal (x i)
          ∷ codes "\" y=\"" ∷ decimal (c.y_at.ensures.value i) ∷ codes "\" width=\"" ∷ decimal (drawn i) ∷ codes "\" height=\""
          ∷ decimal (c.height.ensures.value i) ∷ codes "\"><title>" ∷ [])))
          told
          (sym (append-nil c.put-2.new.out.items) ∙ ap (λ (l : List ℕ). c.put-2.new.out.items ++ l) none);
    }

pub returns : goal.returns
returns c =
    let old = c.args.out.now.items in
    let f = c.args.frame.now in
    let j = seen c.args.job.now in
    let lane = c.args.lane in
    let x = c.x_at-x.ensures.value in
    let width = c.requires.width in
    let drawn : c.if-width-lt20.drawn ≡ drawn_width (width_of f j) = elim c.if-width-lt20.branch [
      | then-width-lt20 w ↦ drawn_narrow (width_of f j) _ (w.drawn-is ∙ width) (omega (arith, w.if-width-lt20.true, width))
      | else-width-lt20 w ↦ drawn_wide (width_of f j) _ (w.drawn-is ∙ ap (λ (n : ℕ). n - 6) width) (omega (arith, w.if-width-lt20.false, width))
    ] in
    let kind = c.kind_of.ensures.value in
    let labelled = c.in_ok-append_label.ensures.items ∙ ap (λ (n : List ℕ). c.put.new.out.items ++ label n) c.name-name.ensures in
    let outputs = c.saturating_sub-more.ensures in
    let extra : c.if-more-gt0.out.items ≡ c.append_label.new.out.items ++ more_outputs (length j.outputs - 1) = elim c.if-more-gt0.branch [
      | then-more-gt0+in_ok-put-2 w ↦ ap (λ (v : Vec ℕ Global). v.items) w.out-is ∙ w.in_ok-put-2.ensures.items
          ∙ ap (λ (l : List ℕ). c.append_label.new.out.items ++ l) (some_more _ w.if-more-gt0.true ∙ ap more_outputs outputs)
      | else-more-gt0 w ↦ ap (λ (v : Vec ℕ Global). v.items) w.out-is ∙ sym (append-nil c.append_label.new.out.items)
          ∙ ap (λ (l : List ℕ). c.append_label.new.out.items ++ l) (no_more _ w.if-more-gt0.false ∙ ap more_outputs outputs)
    ] in
    let times = c.in_ok-put-3.ensures.items
    ∙ (λ i. c.if-more-gt0.out.items ++ joined (codes "\n" ∷ seconds (c.time.ensures.value i) ∷ codes " s from " ∷ seconds (c.saturating_sub.ensures i)
    ∷ codes " s</title></rect>\n" ∷ []))
    ∙ ap (λ (l : List ℕ). c.if-more-gt0.out.items ++ l) (times_told (seconds (time_of j.span)) (seconds (j.span.began - f.began))) in
    let told = three_parts c.put.new.out.items c.append_label.new.out.items c.if-more-gt0.out.items c.put-2.new.out.items _ _ _ labelled extra times in
    let at = x_at f j.span.began in
    let name = first_name j.outputs in
    let room = room_is (width_of f j) c.saturating_sub-2.result c.min-room.result (c.saturating_sub-2.ensures ∙ ap (λ (n : ℕ). n - 80) width) c.min-room.ensures in
    let titled = c.put-2.new.out.items in
    let base = c.base_of.ensures ∙ ap base_of c.name-name.ensures in
    record {
      items = on_ok_weaker c.append.result (λ h. three_parts old c.put.new.out.items titled c.append.new.out.items
          (rect f lane at (drawn_width (width_of f j)) (kind_of j)) (title f j) (name_text f lane at (width_of f j) name)
          (c.in_ok-put.ensures.items ∙ (λ i. old ++ joined (codes "<rect class=\"k" ∷ decimal (kind i) ∷ codes "\" x=\"" ∷ decimal (x i)
          ∷ codes "\" y=\"" ∷ decimal (c.y_at.ensures.value i) ∷ codes "\" width=\"" ∷ decimal (drawn i) ∷ codes "\" height=\""
          ∷ decimal (c.height.ensures.value i) ∷ codes "\"><title>" ∷ [])))
          told
          (three_parts titled c.put-3.new.out.items c.append_cut_name.new.out.items c.append.new.out.items _ _ (codes "</text>\n")
          c.in_ok-put-4.ensures.items c.in_ok-append_cut_name.ensures.items h
          ∙ (λ i. titled ++ (joined (codes "<text x=\"" ∷ decimal (x i + 40) ∷ codes "\" y=\"" ∷ decimal (c.y_at-2.ensures.value i + 135) ∷ codes "\">" ∷ [])
          ++ cut_name (room i) (base i) ++ codes "</text>\n"))
          ∙ ap (λ (l : List ℕ). titled ++ l) (with_name f lane at (width_of f j) name (omega (arith, room, c.if-room-lt4.false)) (omega (arith, c.if-frame-ge64.false)))))
          c.append.ensures.items;
    }
