use Rattle.std.proofs.Common.{◌∙◌, ◌+◌, ◌<◌, ◌≤◌, ℕ, List, ap, arith, drop, get_or, length, max, sym}
use Rattle.std.specs.List.{fold}
use Rattle.std.proofs.lemmas.List.{at_drop_more, drop_all}
use Rattle.nl_reports.specs.Sweep.{running}
use Rattle.nl_reports.proofs.SharesLemmas.{most_of_starts}
use Rattle.nl_reports.proofs.moments.Shares.most.Goals as goal

pub loop-at-preserved : goal.loop-at-preserved
loop-at-preserved c = λ cs are.
    let starts = c.args.self.now.moments.starts.items in
    let i = c.loop-at.at-index in
    let most = c.loop-at.most in
    let items = c.deref-at-items.ensures.value in
    let within : i < length starts = omega (arith, c.loop-at-test.true, ap (λ (l : List ℕ). length l) items) in
    ap (λ (n : ℕ). fold (λ m t. max m (running cs t)) n (drop (i + 1) starts)) (c.max-most.ensures ∙ ap (max most) (c.running_near.ensures.value cs are.moments
    ∙ ap (λ (l : List ℕ). running cs (get_or l i 0)) items))
    ∙ sym (at_drop_more (λ (l : List ℕ). fold (λ m t. max m (running cs t)) most l) starts i 0 within)
    ∙ c.loop-at.invariant cs are

pub returns : goal.returns
returns c = record {
  value = λ cs are.
      let starts = c.args.self.now.moments.starts.items in
      let i = c.loop-at.at-index in
      let all : length starts ≤ i = omega (arith, c.loop-at-test.false, ap (λ (l : List ℕ). length l) c.deref-at-items.ensures.value) in
      ap (λ (l : List ℕ). fold (λ m t. max m (running cs t)) c.loop-at.most l) (sym (drop_all i starts all)) ∙ c.loop-at.invariant cs are
      ∙ most_of_starts cs starts are.moments.starts;
}
