use Rattle.std.proofs.Common.{◌≡◌, ◌∙◌, ◌+◌, ◌++◌, ◌<◌, [], ap, append-nil, arith, cond, drop, get_or, length, sym, take}
use Rattle.std.proofs.lemmas.List.{drop_all}
use Rattle.std.proofs.lemmas.List.Edits.{length-swap}
use Rattle.nl_reports.specs.Lasting.{marked}
use Rattle.nl_reports.proofs.LastingLemmas.{kept_more, kept_same, marked_all, marks_before, marks_more}
use Rattle.nl_reports.proofs.last_entries.keep.Goals.{then-item_at, else-item_at}
use Rattle.nl_reports.proofs.last_entries.keep.Goals as goal

pub loop-place-preserved : goal.loop-place-preserved
loop-place-preserved g c =
    let bs = c.args.marks.now in
    let xs = c.loop-place.items.items in
    let k = c.loop-place.count in
    let i = c.loop-place.place in
    let b = c.item_at.result in
    let inv = c.loop-place.invariant in
    let here : i < length bs = c.loop-place-test.true in
    elim c.if-item_at.branch [
      | then-item_at w ↦
          let left : c.if-item_at.items.items ≡ w.swap.new.self.items = (λ j. (w.items-is j).items) in
          record {
            told = (λ j. take c.if-item_at.count (left j) ++ marked (drop (i + 1) bs) (drop (i + 1) (left j)))
                ∙ kept_more bs xs w.swap.new.self.items _ k c.if-item_at.count i b inv.within here inv.same c.item_at.ensures w.if-item_at.true
                w.count-is w.swap.ensures.by_index inv.told;
            before = marks_more bs i k c.if-item_at.count b _ _ _ here c.item_at.ensures
                (w.count-is ∙ ap (λ t. cond t (k + 1) k) (sym w.if-item_at.true)) c.in_ok-push.ensures.items inv.before;
            within = omega (arith, w.count-is, inv.within);
            same = inv.same ∙ sym (length-swap xs k i) ∙ sym (ap length w.swap.ensures.items) ∙ sym (ap length left);
          }
      | else-item_at w ↦
          let left : c.if-item_at.items.items ≡ xs = (λ j. (w.items-is j).items) in
          record {
            told = (λ j. take (w.count-is j) (left j) ++ marked (drop (i + 1) bs) (drop (i + 1) (left j)))
                ∙ kept_same bs xs _ k i b here inv.same c.item_at.ensures w.if-item_at.false inv.told;
            before = marks_more bs i k c.if-item_at.count b _ _ _ here c.item_at.ensures
                (w.count-is ∙ ap (λ t. cond t (k + 1) k) (sym w.if-item_at.false)) c.in_ok-push.ensures.items inv.before;
            within = omega (arith, w.count-is, inv.within);
            same = inv.same ∙ sym (ap length left);
          }
    ]

pub returns : goal.returns
returns g c =
    let bs = c.args.marks.now in
    let es = c.args.items.now.items in
    let k = c.loop-place.count in
    let i = c.loop-place.place in
    let xs = c.loop-place.items.items in
    let counts = c.loop-place.before.items in
    let inv = c.loop-place.invariant in
    let none : [] ≡ drop i bs = sym (drop_all i bs (c.loop-place-test.false)) in
    let items : take k xs ≡ marked bs es = sym (append-nil (take k xs)) ∙ ap (λ l. take k xs ++ marked l (drop i xs)) none ∙ inv.told in
    let all : counts ≡ marks_before 0 bs = sym (append-nil counts) ∙ ap (λ l. counts ++ marks_before k l) none ∙ inv.before in
    record {
      items = c.truncate.ensures.items ∙ items;
      before = λ place. (λ j. get_or (all j) place (length ((c.truncate.ensures.items ∙ items) j))) ∙ marked_all bs es c.requires place;
    }
