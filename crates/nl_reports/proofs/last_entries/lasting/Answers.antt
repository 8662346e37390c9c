use Rattle.std.proofs.Common.{◌≡◌, ◌∙◌, ◌∷◌, ◌+◌, ◌-◌, ◌<◌, ◌≤◌, ◌++◌, [], Bool, List, ℕ, ap, arith, drop, get_or, length, length-set, map, not, refl, rules, sym, take}
use Rattle.std.specs.Prelude.{◌||◌, bytes_eq, reverse}
use Rattle.std.proofs.lemmas.List.{at_drop_more, drop_all, reverse-append}
use Rattle.nl_fields.specs.declared.entry.Entry.{Entry}
use Rattle.nl_table.specs.Table.{entry_names}
use Rattle.nl_builds.specs.declared.build.Build.{Build}
use Rattle.nl_builds.specs.declared.command.Command.{Command}
use Rattle.nl_reports.specs.Lasting.{builds_left, commands_left, entries_left, is_among, is_held, last_entries, marked, marks, whole}
use Rattle.nl_reports.proofs.LastingLawLemmas.{left_marked}
use Rattle.nl_reports.proofs.LastingLemmas.{all_ends, all_moved, builds_marked, commands_before, commands_marked, ends_apart, ends_more, left_place, length-ends, length-marks, marked_is, moved_build, moved_command, moved_more, or_is}
use Rattle.nl_reports.proofs.last_entries.lasting.Goals.{in-AsWritten, in-FoundAgain}
use Rattle.nl_reports.proofs.last_entries.lasting.Goals as goal

pub entries-init : goal.entries-init
entries-init c =
    let es = c.args.from.entries.items in
    let others = map (λ n. n.now) c.args.waiting.now in
    let at_is : c.len-at.result ≡ length es = omega (arith, c.len-at.ensures, c.args.from.entries.ok.0) in
    let none : [] ≡ drop c.len-at.result es = sym (drop_all c.len-at.result es (omega (arith, at_is))) in
    record {
      within = omega (arith, at_is);
      later = λ n. ap (λ ks. is_held ks n) c.in_ok-reserve.ensures.keys ∙ c.in_ok-later.ensures.value n
          ∙ ap (λ (l : List Entry). is_among n (entry_names l ++ others)) none;
      found = ap reverse c.in_ok-marks.ensures.items ∙ ap (marks others) none;
    }

pub entries-preserved : goal.entries-preserved
entries-preserved c =
    let others = map (λ n. n.now) c.args.waiting.now in
    let es = c.args.from.entries.items in
    let k = c.entries.at - 1 in
    let inside : k < length es = omega (arith, c.entries.invariant.within, c.entries-test.true) in
    let e = c.index.result.now in
    let rest = drop (k + 1) es in
    let keys = c.entries.later.keys in
    let same : c.entries.at ≡ k + 1 = omega (arith, c.entries-test.true) in
    let cut : drop k es ≡ e ∷ rest = at_drop_more (λ (l : List Entry). l) es k e inside ∙ ap (λ (x : Entry). x ∷ rest) (sym c.index.ensures) in
    let later : (n : List ℕ) → is_held keys n ≡ is_among n (entry_names rest ++ others) = λ n.
    c.entries.invariant.later n ∙ ap (λ m. is_among n (entry_names (drop m es) ++ others)) same in
    let name = c.name-bytes.ensures.value in
    record {
      within = omega (arith, inside);
      later = λ n. c.in_ok-insert.ensures.updates.0 (record { bytes = record { ref_ptr = (0, 0); now = n } })
          ∙ or_is (bytes_eq c.name-bytes.result.now n) (is_held keys n) ∙ (λ j. bytes_eq (name j) n || later n j)
          ∙ ap (λ (l : List Entry). is_among n (entry_names l ++ others)) (sym cut);
      found = ap reverse c.in_ok-push.ensures.items ∙ reverse-append c.entries.marks.items (c.in_ok-insert.field-0 ∷ [])
          ∙ (λ j. (c.in_ok-insert.ensures.added ∙ ap not (ap (is_held keys) name ∙ later e.name)) j
          ∷ (c.entries.invariant.found ∙ ap (λ m. marks others (drop m es)) same) j)
          ∙ ap (marks others) (sym cut);
    }

pub keep-requires : goal.keep-requires
keep-requires c =
    let others = map (λ n. n.now) c.args.waiting.now in
    let es = c.args.from.entries.items in
    ap length (marked_is others es c.entries.at c.entries.marks.items c.deref.result.now (omega (arith, c.entries-test.false)) (search rules) c.entries.invariant.found)
    ∙ length-marks others es

pub keep-requires-2 : goal.keep-requires-2
keep-requires-2 c =
    let f : Command → ℕ = λ d. get_or c.in_ok-before.before.items d.to (length c.loop-place.left.entries.items) in
    let xs = c.loop-place.left.commands.items in
    let inv = c.loop-place.invariant in
    let done : length xs ≤ c.loop-place.place =
    omega (arith, c.loop-place-test.false, c.loop-place.auto.place-end, c.len-place-end.ensures, inv.same, c.args.from.commands.ok.0) in
    ap length (c.deref-2.ensures.value ∙ all_ends f c.loop-place.end xs c.loop-place.place c.loop-place.marks.items _ done inv.marks)
    ∙ length-ends f 0 c.args.from.commands.items ∙ sym inv.same

pub loop-place-2-preserved : goal.loop-place-2-preserved
loop-place-2-preserved c =
    let inv = c.loop-place-2.invariant in
    let xs = c.loop-place-2.left.builds.items in
    let i = c.loop-place-2.place in
    let x = c.index-build.result.now in
    let f : ℕ → ℕ = λ at. get_or c.in_ok-before-2.before.items at (length c.loop-place-2.left.commands.items) in
    let how : c.match-build.how ≡ whole x.how = elim c.match-build.branch [
      | in-AsWritten w ↦ w.how-is ∙ ap whole (sym w.in-AsWritten.is)
      | in-FoundAgain w ↦ w.how-is ∙ ap whole (sym w.in-FoundAgain.is)
    ] in
    let within : i < length xs =
    omega (arith, c.loop-place-2-test.true, c.loop-place-2.auto.place-end, c.len-place-end-2.ensures, inv.same, c.loop-place.left.builds.ok.0) in
    let all : c.len-in-loop-place-2.result ≡ length c.loop-place-2.left.commands.items =
    omega (arith, c.len-in-loop-place-2.ensures, c.loop-place-2.left.commands.ok.0) in
    let to : c.item_at-to.result ≡ f x.to =
    c.item_at-to.ensures ∙ (λ j. get_or (c.deref-in-loop-place-2.ensures.value j) x.to (all j)) in
    let y : Build = record { to = c.item_at-to.result; began = x.began; how = c.match-build.how; is_sure = x.is_sure } in
    record {
      told = moved_more xs _ i x y within c.index-build.ensures refl (moved_build f) _
          (λ j. record { to = to j; began = x.began; how = how j; is_sure = x.is_sure }) inv.told;
      marks = ends_more xs _ i x y within c.index-build.ensures refl (λ (b : Build). f b.to) c.loop-place-2.end y.to _ c.loop-place-2.marks.items _ _
          to refl c.in_ok-push-3.ensures.items inv.marks;
      same = length-set {A = Build} xs i y ∙ inv.same;
      entries = inv.entries;
      commands = inv.commands;
    }

pub keep-requires-3 : goal.keep-requires-3
keep-requires-3 c =
    let f : Build → ℕ = λ d. get_or c.in_ok-before-2.before.items d.to (length c.loop-place-2.left.commands.items) in
    let xs = c.loop-place-2.left.builds.items in
    let inv = c.loop-place-2.invariant in
    let done : length xs ≤ c.loop-place-2.place =
    omega (arith, c.loop-place-2-test.false, c.loop-place-2.auto.place-end, c.len-place-end-2.ensures, inv.same, c.loop-place.left.builds.ok.0) in
    ap length (c.deref-3.ensures.value ∙ all_ends f c.loop-place-2.end xs c.loop-place-2.place c.loop-place-2.marks.items _ done inv.marks)
    ∙ length-ends f 0 c.loop-place.left.builds.items ∙ sym inv.same

pub returns : goal.returns
returns c =
    let others = map (λ n. n.now) c.args.waiting.now in
    let es = c.args.from.entries.items in
    let cs = c.args.from.commands.items in
    let bs = c.args.from.builds.items in
    let left = entries_left others es in
    let inv = c.loop-place.invariant in
    let inv2 = c.loop-place-2.invariant in
    let is : c.deref.result.now ≡ marks others es =
    marked_is others es c.entries.at c.entries.marks.items c.deref.result.now (omega (arith, c.entries-test.false)) (search rules) c.entries.invariant.found in
    let f : ℕ → ℕ = λ at. get_or c.in_ok-before.before.items at (length c.loop-place.left.entries.items) in
    let same : f ≡ left = λ i at. ((λ j. get_or c.in_ok-before.before.items at (length (inv.entries j).items)) ∙ c.in_ok-before.ensures.before at
    ∙ ap (λ (m : List Bool). length (marked m (take at es))) is ∙ left_place others es at) i in
    let done : length c.loop-place.left.commands.items ≤ c.loop-place.place =
    omega (arith, c.loop-place-test.false, c.loop-place.auto.place-end, c.len-place-end.ensures, inv.same, c.args.from.commands.ok.0) in
    let moved : c.loop-place.left.commands.items ≡ map (moved_command f) cs = all_moved (moved_command f) _ c.loop-place.place _ done inv.told in
    let ends : c.deref-2.result.now ≡ ends_apart (λ (d : Command). f d.to) 0 cs =
    c.deref-2.ensures.value ∙ all_ends (λ (d : Command). f d.to) c.loop-place.end _ c.loop-place.place c.loop-place.marks.items _ done inv.marks in
    let g : ℕ → ℕ = λ at. get_or c.in_ok-before-2.before.items at (length c.loop-place-2.left.commands.items) in
    let counts : ℕ → ℕ = λ at. length (commands_left left 0 (take at cs)) in
    let same2 : g ≡ counts = λ i at. ((λ j. get_or c.in_ok-before-2.before.items at (length (inv2.commands j).items)) ∙ c.in_ok-before-2.ensures.before at
    ∙ (λ j. length (marked (ends j) (take at (moved j)))) ∙ ap length (commands_before f 0 cs at) ∙ (λ j. length (commands_left (same j) 0 (take at cs)))) i in
    let done2 : length c.loop-place-2.left.builds.items ≤ c.loop-place-2.place =
    omega (arith, c.loop-place-2-test.false, c.loop-place-2.auto.place-end, c.len-place-end-2.ensures, inv2.same, c.loop-place.left.builds.ok.0) in
    let moved2 : c.loop-place-2.left.builds.items ≡ map (moved_build g) c.loop-place.left.builds.items =
    all_moved (moved_build g) _ c.loop-place-2.place _ done2 inv2.told in
    let ends2 : c.deref-3.result.now ≡ ends_apart (λ (d : Build). g d.to) 0 c.loop-place.left.builds.items =
    c.deref-3.ensures.value ∙ all_ends (λ (d : Build). g d.to) c.loop-place-2.end _ c.loop-place-2.place c.loop-place-2.marks.items _ done2 inv2.marks in
    let entries : c.loop-place-2.left.entries.items ≡ last_entries others es =
    ap (λ v. v.items) inv2.entries ∙ ap (λ v. v.items) inv.entries ∙ c.in_ok-before.ensures.items ∙ ap (λ (m : List Bool). marked m es) is ∙ sym (left_marked others es) in
    let commands : c.loop-place-2.left.commands.items ≡ commands_left left 0 cs =
    ap (λ v. v.items) inv2.commands ∙ c.in_ok-before-2.ensures.items ∙ (λ j. marked (ends j) (moved j)) ∙ commands_marked f 0 cs ∙ (λ j. commands_left (same j) 0 cs) in
    let builds : c.keep-3.new.items.items ≡ builds_left counts 0 bs =
    c.in_ok-keep.ensures.items ∙ (λ j. marked (ends2 j) (moved2 j)) ∙ builds_marked g 0 c.loop-place.left.builds.items
    ∙ (λ j. builds_left (same2 j) 0 (inv.builds j).items) in
    record {
      value = λ i. record { entries = entries i; commands = commands i; builds = builds i };
    }
