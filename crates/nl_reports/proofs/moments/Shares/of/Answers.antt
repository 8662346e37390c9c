use Rattle.std.proofs.Common.{◌≡◌, ◌∙◌, ◌+◌, ◌-◌, ◌*◌, ◌/◌, ◌<◌, ◌≤◌, ℕ, List, ap, arith, get_or, inl, inr, length, refl, sym}
use Rattle.std.proofs.lemmas.Bool.{cases_lt}
use Rattle.std.proofs.lemmas.Bool.Decides.{eqb_tells}
use Rattle.std.proofs.lemmas.List.{get_or_default, get_or_past}
use Rattle.std.proofs.lemmas.Nat.{div_below, mul-le}
use Rattle.nl_reports.specs.Sweep.{alone_of, any_of, before, parts, share_of}
use Rattle.nl_reports.specs.SweepSteps.{AreSums, IsLow, Rises, Swept, running_by}
use Rattle.nl_reports.specs.declared.moments.Sums.{Sums}
use Rattle.nl_reports.proofs.SharesLemmas.{alone_is, busy_is}
use Rattle.nl_reports.proofs.SweepStepLemmas.{steady_until, sums_advance, swept_end, swept_start}
use Rattle.nl_reports.proofs.moments.Shares.of.Goals.{else-begun-starts-via-else-begun-starts, else-begun-starts-via-then-begun-starts+else-start-end, else-len-starts+then-len-ends, else-running-eq1, else-running-gt0, then-len-starts, then-running-eq1, then-running-gt0}
use Rattle.nl_reports.proofs.moments.Shares.of.Goals as goal

-- ---- the moment that comes next, 2 ^ 32 behind the last

not_before : (xs : List ℕ) (n at : ℕ) → at ≤ 4294967296 → ((k : ℕ) → n ≤ k → k < length xs → at ≤ get_or xs k 0) → at ≤ get_or xs n 4294967296
not_before xs n at low later = elim (cases_lt n (length xs)) [
  | inl h ↦ omega (arith, later n (omega arith) h, get_or_default xs n 0 4294967296 h)
  | inr h ↦ omega (arith, low, get_or_past xs n 4294967296 (omega (arith, h)))
]

not_after : (xs : List ℕ) → Rises xs → (n k : ℕ) → n ≤ k → k < length xs → get_or xs n 4294967296 ≤ get_or xs k 0
not_after xs rises n k order within = omega (arith, rises.order n k order within, get_or_default xs n 0 4294967296 (omega (arith, order, within)))

not_late : (xs : List ℕ) → Rises xs → (n : ℕ) → get_or xs n 4294967296 ≤ 4294967296
not_late xs rises n = elim (cases_lt n (length xs)) [
  | inl h ↦ omega (arith, rises.early n h, get_or_default xs n 0 4294967296 h)
  | inr h ↦ omega (arith, get_or_past xs n 4294967296 (omega (arith, h)))
]

-- ---- the sums up to it

any_some : (k : ℕ) → 0 < k → any_of k ≡ 1
any_some k some = elim (eqb_tells k 0) [ inl h ↦ absurd (omega (arith, some, h.1)) | inr h ↦ rw h.0 refl ]

any_none : (k : ℕ) → k ≤ 0 → any_of k ≡ 0
any_none k none = let e : k ≡ 0 = omega (arith, none) in ap any_of e

share_some : (k : ℕ) → 0 < k → share_of k ≡ parts / k
share_some k some = elim (eqb_tells k 0) [ inl h ↦ absurd (omega (arith, some, h.1)) | inr h ↦ rw h.0 refl ]

share_none : (k : ℕ) → k ≤ 0 → share_of k ≡ 0
share_none k none = let e : k ≡ 0 = omega (arith, none) in ap share_of e

share_low : (k : ℕ) → 0 < k → parts / k ≤ parts
share_low k some = omega (arith, div_below parts k (parts + 1) some (omega (arith, some)))

alone_not : (k : ℕ) → (k ≡ 1 → ⊥) → alone_of k ≡ 0
alone_not k not = elim (eqb_tells k 1) [ inl h ↦ absurd (not h.1) | inr h ↦ rw h.0 refl ]

one_more : (a len n : ℕ) → n ≡ 1 → a + len ≡ a + len * n
one_more a len n is = let e : a + len ≡ a + len * 1 = omega arith in e ∙ ap (λ (m : ℕ). a + len * m) (sym is)

none_more : (a len n : ℕ) → n ≡ 0 → a ≡ a + len * n
none_more a len n is = let e : a ≡ a + len * 0 = omega arith in e ∙ ap (λ (m : ℕ). a + len * m) (sym is)

low_shares : (a at next s : ℕ) → a ≤ at * parts → at ≤ next → s ≤ parts → a + (next - at) * s ≤ next * parts
low_shares a at next s low order most = omega (arith, low, order, mul-le (next - at) s (next - at) parts (omega arith) most)

share_most : (k : ℕ) → share_of k ≤ parts
share_most k = elim (cases_lt 0 k) [
  | inl h ↦ omega (arith, share_some k h, share_low k h)
  | inr h ↦ omega (arith, share_none k h)
]

any_most : (k : ℕ) → any_of k ≤ 1
any_most k = elim (cases_lt 0 k) [
  | inl h ↦ omega (arith, any_some k h)
  | inr h ↦ omega (arith, any_none k h)
]

alone_most : (k : ℕ) → alone_of k ≤ 1
alone_most k = elim (eqb_tells k 1) [ inl h ↦ rw h.0 (omega arith) | inr h ↦ rw h.0 (omega arith) ]

low_count : (a at next n : ℕ) → a ≤ at → at ≤ next → n ≤ 1 → a + (next - at) * n ≤ next
low_count a at next n low order most = omega (arith, low, order, mul-le (next - at) n (next - at) 1 (omega arith) most)

advanced : (old new : Sums) (next n : ℕ) (k : ℕ → ℕ) → old.at ≤ next → next ≤ 4294967296 → IsLow old → AreSums k old
    → ((t : ℕ) → old.at ≤ t → t < next → k t ≡ n) → new.at ≡ next → new.shares ≡ old.shares + (next - old.at) * share_of n
    → new.busy ≡ old.busy + (next - old.at) * any_of n → new.alone ≡ old.alone + (next - old.at) * alone_of n → IsLow new × AreSums k new
advanced old new next n k order room low sums same at shares busy alone =
    let r = sums_advance old next n k order same sums in (
      record {
        at = omega (arith, at, room);
        shares = omega (arith, at, shares, low_shares old.shares old.at next (share_of n) low.shares order (share_most n));
        busy = omega (arith, at, busy, low_count old.busy old.at next (any_of n) low.busy order (any_most n));
        alone = omega (arith, at, alone, low_count old.alone old.at next (alone_of n) low.alone order (alone_most n));
      },
      record {
        shares = shares ∙ r.shares ∙ sym (ap (before (λ t. share_of (k t))) at);
        busy = busy ∙ r.busy ∙ sym (ap (before (λ t. any_of (k t))) at);
        alone = alone ∙ r.alone ∙ sym (ap (before (λ t. alone_of (k t))) at);
      },
    )

pub overflow_sub-len : goal.overflow_sub-len
overflow_sub-len c =
    let starts = c.as_slice-starts.result.now in
    let ends = c.as_slice-ends.result.now in
    let old = c.events.sums in
    let inv = c.events.invariant in
    let begun = c.len-begun.result in
    let ended = c.len-ended.result in
    let at : begun ≡ length c.events.at_starts.items = omega (arith, c.len-begun.ensures) in
    let until : ended ≡ length c.events.at_ends.items = omega (arith, c.len-ended.ensures) in
    let next = c.min-next.result in
    let order : old.at ≤ next = omega (
      arith,
      c.min-next.ensures,
      c.item_at-start.ensures,
      c.item_at-end.ensures,
      not_before starts begun old.at inv.low.at (λ k from within. inv.begins k (omega (arith, at, from)) within),
      not_before ends ended old.at inv.low.at (λ k from within. inv.ends_later k (omega (arith, until, from)) within),
    ) in
    order

pub overflow_mul-sums : goal.overflow_mul-sums
overflow_mul-sums c =
    let starts = c.as_slice-starts.result.now in
    let ends = c.as_slice-ends.result.now in
    let old = c.events.sums in
    let inv = c.events.invariant in
    let begun = c.len-begun.result in
    let ended = c.len-ended.result in
    let at : begun ≡ length c.events.at_starts.items = omega (arith, c.len-begun.ensures) in
    let until : ended ≡ length c.events.at_ends.items = omega (arith, c.len-ended.ensures) in
    let next = c.min-next.result in
    let order : old.at ≤ next = omega (
      arith,
      c.min-next.ensures,
      c.item_at-start.ensures,
      c.item_at-end.ensures,
      not_before starts begun old.at inv.low.at (λ k from within. inv.begins k (omega (arith, at, from)) within),
      not_before ends ended old.at inv.low.at (λ k from within. inv.ends_later k (omega (arith, until, from)) within),
    ) in
    let starts_rise : Rises starts = rw c.as_slice-starts.ensures.value c.in_ok-moments.ensures.value.starts_rise in
    let ends_rise : Rises ends = rw c.as_slice-ends.ensures.value c.in_ok-moments.ensures.value.ends_rise in
    let room : next ≤ 4294967296 = omega (arith, c.min-next.ensures, c.item_at-start.ensures, not_late starts starts_rise begun) in
    let n = c.saturating_sub-running.result in
    omega (arith, order, room, mul-le (next - old.at) (parts / n) 4294967296 parts (omega (arith, order, room)) (share_low n c.if-running-gt0.true))

pub overflow_add-sums : goal.overflow_add-sums
overflow_add-sums c =
    let starts = c.as_slice-starts.result.now in
    let ends = c.as_slice-ends.result.now in
    let old = c.events.sums in
    let inv = c.events.invariant in
    let begun = c.len-begun.result in
    let ended = c.len-ended.result in
    let at : begun ≡ length c.events.at_starts.items = omega (arith, c.len-begun.ensures) in
    let until : ended ≡ length c.events.at_ends.items = omega (arith, c.len-ended.ensures) in
    let next = c.min-next.result in
    let order : old.at ≤ next = omega (
      arith,
      c.min-next.ensures,
      c.item_at-start.ensures,
      c.item_at-end.ensures,
      not_before starts begun old.at inv.low.at (λ k from within. inv.begins k (omega (arith, at, from)) within),
      not_before ends ended old.at inv.low.at (λ k from within. inv.ends_later k (omega (arith, until, from)) within),
    ) in
    let starts_rise : Rises starts = rw c.as_slice-starts.ensures.value c.in_ok-moments.ensures.value.starts_rise in
    let ends_rise : Rises ends = rw c.as_slice-ends.ensures.value c.in_ok-moments.ensures.value.ends_rise in
    let room : next ≤ 4294967296 = omega (arith, c.min-next.ensures, c.item_at-start.ensures, not_late starts starts_rise begun) in
    let n = c.saturating_sub-running.result in
    omega (arith, room, low_shares old.shares old.at next (parts / n) inv.low.shares order (share_low n c.if-running-gt0.true))

pub events-preserved-then-start-end : goal.events-preserved-then-start-end
events-preserved-then-start-end c =
    let starts = c.as_slice-starts.result.now in
    let ends = c.as_slice-ends.result.now in
    let old = c.events.sums in
    let inv = c.events.invariant in
    let begun = c.len-begun.result in
    let ended = c.len-ended.result in
    let at : begun ≡ length c.events.at_starts.items = omega (arith, c.len-begun.ensures) in
    let until : ended ≡ length c.events.at_ends.items = omega (arith, c.len-ended.ensures) in
    let next = c.min-next.result in
    let order : old.at ≤ next = omega (
      arith,
      c.min-next.ensures,
      c.item_at-start.ensures,
      c.item_at-end.ensures,
      not_before starts begun old.at inv.low.at (λ k from within. inv.begins k (omega (arith, at, from)) within),
      not_before ends ended old.at inv.low.at (λ k from within. inv.ends_later k (omega (arith, until, from)) within),
    ) in
    let starts_rise : Rises starts = rw c.as_slice-starts.ensures.value c.in_ok-moments.ensures.value.starts_rise in
    let ends_rise : Rises ends = rw c.as_slice-ends.ensures.value c.in_ok-moments.ensures.value.ends_rise in
    let room : next ≤ 4294967296 = omega (arith, c.min-next.ensures, c.item_at-start.ensures, not_late starts starts_rise begun) in
    let was : Swept = record { sums = old; at_starts = c.events.at_starts.items; at_ends = c.events.at_ends.items } in
    let n = c.saturating_sub-running.result in
    let len = next - old.at in
    let mid = c.if-running-gt0.sums in
    let sums = c.if-running-eq1.sums in
    let begins : (k : ℕ) → length was.at_starts ≤ k → k < length starts → next ≤ get_or starts k 0 =
    λ k from within. omega (arith, c.min-next.ensures, c.item_at-start.ensures, not_after starts starts_rise begun k (omega (arith, at, from)) within) in
    let later : (k : ℕ) → length was.at_ends ≤ k → k < length ends → next ≤ get_or ends k 0 =
    λ k from within. omega (arith, c.min-next.ensures, c.item_at-end.ensures, not_after ends ends_rise ended k (omega (arith, until, from)) within) in
    let mid_at : mid.at ≡ next = elim c.if-running-gt0.branch [
      | then-running-gt0 w ↦ ap (λ (s : Sums). s.at) w.sums-is
      | else-running-gt0 w ↦ ap (λ (s : Sums). s.at) w.sums-is
    ] in
    let mid_shares : mid.shares ≡ old.shares + len * share_of n = elim c.if-running-gt0.branch [
      | then-running-gt0 w ↦ ap (λ (s : Sums). s.shares) w.sums-is ∙ ap (λ (m : ℕ). old.shares + len * m) (sym (share_some n w.if-running-gt0.true))
      | else-running-gt0 w ↦ ap (λ (s : Sums). s.shares) w.sums-is ∙ none_more old.shares len (share_of n) (share_none n w.if-running-gt0.false)
    ] in
    let mid_busy : mid.busy ≡ old.busy + len * any_of n = elim c.if-running-gt0.branch [
      | then-running-gt0 w ↦ ap (λ (s : Sums). s.busy) w.sums-is ∙ one_more old.busy len (any_of n) (any_some n w.if-running-gt0.true)
      | else-running-gt0 w ↦ ap (λ (s : Sums). s.busy) w.sums-is ∙ none_more old.busy len (any_of n) (any_none n w.if-running-gt0.false)
    ] in
    let mid_alone : mid.alone ≡ old.alone = elim c.if-running-gt0.branch [
      | then-running-gt0 w ↦ ap (λ (s : Sums). s.alone) w.sums-is
      | else-running-gt0 w ↦ ap (λ (s : Sums). s.alone) w.sums-is
    ] in
    let now_at : sums.at ≡ mid.at = elim c.if-running-eq1.branch [
      | then-running-eq1 w ↦ ap (λ (s : Sums). s.at) w.sums-is
      | else-running-eq1 w ↦ ap (λ (s : Sums). s.at) w.sums-is
    ] in
    let shares : sums.shares ≡ mid.shares = elim c.if-running-eq1.branch [
      | then-running-eq1 w ↦ ap (λ (s : Sums). s.shares) w.sums-is
      | else-running-eq1 w ↦ ap (λ (s : Sums). s.shares) w.sums-is
    ] in
    let busy : sums.busy ≡ mid.busy = elim c.if-running-eq1.branch [
      | then-running-eq1 w ↦ ap (λ (s : Sums). s.busy) w.sums-is
      | else-running-eq1 w ↦ ap (λ (s : Sums). s.busy) w.sums-is
    ] in
    let alone : sums.alone ≡ old.alone + len * alone_of n = elim c.if-running-eq1.branch [
      | then-running-eq1 w ↦ ap (λ (s : Sums). s.alone) w.sums-is ∙ ap (λ (m : ℕ). m + len) mid_alone
          ∙ one_more old.alone len (alone_of n) (ap alone_of w.if-running-eq1.true)
      | else-running-eq1 w ↦ ap (λ (s : Sums). s.alone) w.sums-is ∙ mid_alone ∙ none_more old.alone len (alone_of n) (alone_not n w.if-running-eq1.false)
    ] in
    let on = advanced old sums next n (running_by starts ends) order room inv.low inv.sums
    (λ t low high. omega (arith, steady_until starts ends was inv next begins later t low high, c.saturating_sub-running.ensures, at, until))
    (now_at ∙ mid_at) (shares ∙ mid_shares) (busy ∙ mid_busy) alone in
    let new : Swept = record { sums = sums; at_starts = c.push.new.self.items; at_ends = c.events.at_ends.items } in
    let is : get_or starts (length was.at_starts) 0 ≡ next = ap (λ (m : ℕ). get_or starts m 0) (sym at)
    ∙ omega (arith, c.min-next.ensures, c.item_at-start.ensures, c.if-start-end.true, get_or_default starts begun 0 4294967296 c.if-begun-starts.true) in
    swept_start starts ends was inv next new starts_rise (omega (arith, c.if-begun-starts.true, at)) is order later on.0 on.1 (now_at ∙ mid_at) c.in_ok-push.ensures.items refl

pub events-preserved : goal.events-preserved
events-preserved c =
    let starts = c.as_slice-starts.result.now in
    let ends = c.as_slice-ends.result.now in
    let old = c.events.sums in
    let inv = c.events.invariant in
    let begun = c.len-begun.result in
    let ended = c.len-ended.result in
    let at : begun ≡ length c.events.at_starts.items = omega (arith, c.len-begun.ensures) in
    let until : ended ≡ length c.events.at_ends.items = omega (arith, c.len-ended.ensures) in
    let next = c.min-next.result in
    let order : old.at ≤ next = omega (
      arith,
      c.min-next.ensures,
      c.item_at-start.ensures,
      c.item_at-end.ensures,
      not_before starts begun old.at inv.low.at (λ k from within. inv.begins k (omega (arith, at, from)) within),
      not_before ends ended old.at inv.low.at (λ k from within. inv.ends_later k (omega (arith, until, from)) within),
    ) in
    let starts_rise : Rises starts = rw c.as_slice-starts.ensures.value c.in_ok-moments.ensures.value.starts_rise in
    let ends_rise : Rises ends = rw c.as_slice-ends.ensures.value c.in_ok-moments.ensures.value.ends_rise in
    let room : next ≤ 4294967296 = omega (arith, c.min-next.ensures, c.item_at-start.ensures, not_late starts starts_rise begun) in
    let was : Swept = record { sums = old; at_starts = c.events.at_starts.items; at_ends = c.events.at_ends.items } in
    let n = c.saturating_sub-running.result in
    let len = next - old.at in
    let mid = c.if-running-gt0.sums in
    let sums = c.if-running-eq1.sums in
    let begins : (k : ℕ) → length was.at_starts ≤ k → k < length starts → next ≤ get_or starts k 0 =
    λ k from within. omega (arith, c.min-next.ensures, c.item_at-start.ensures, not_after starts starts_rise begun k (omega (arith, at, from)) within) in
    let later : (k : ℕ) → length was.at_ends ≤ k → k < length ends → next ≤ get_or ends k 0 =
    λ k from within. omega (arith, c.min-next.ensures, c.item_at-end.ensures, not_after ends ends_rise ended k (omega (arith, until, from)) within) in
    let mid_at : mid.at ≡ next = elim c.if-running-gt0.branch [
      | then-running-gt0 w ↦ ap (λ (s : Sums). s.at) w.sums-is
      | else-running-gt0 w ↦ ap (λ (s : Sums). s.at) w.sums-is
    ] in
    let mid_shares : mid.shares ≡ old.shares + len * share_of n = elim c.if-running-gt0.branch [
      | then-running-gt0 w ↦ ap (λ (s : Sums). s.shares) w.sums-is ∙ ap (λ (m : ℕ). old.shares + len * m) (sym (share_some n w.if-running-gt0.true))
      | else-running-gt0 w ↦ ap (λ (s : Sums). s.shares) w.sums-is ∙ none_more old.shares len (share_of n) (share_none n w.if-running-gt0.false)
    ] in
    let mid_busy : mid.busy ≡ old.busy + len * any_of n = elim c.if-running-gt0.branch [
      | then-running-gt0 w ↦ ap (λ (s : Sums). s.busy) w.sums-is ∙ one_more old.busy len (any_of n) (any_some n w.if-running-gt0.true)
      | else-running-gt0 w ↦ ap (λ (s : Sums). s.busy) w.sums-is ∙ none_more old.busy len (any_of n) (any_none n w.if-running-gt0.false)
    ] in
    let mid_alone : mid.alone ≡ old.alone = elim c.if-running-gt0.branch [
      | then-running-gt0 w ↦ ap (λ (s : Sums). s.alone) w.sums-is
      | else-running-gt0 w ↦ ap (λ (s : Sums). s.alone) w.sums-is
    ] in
    let now_at : sums.at ≡ mid.at = elim c.if-running-eq1.branch [
      | then-running-eq1 w ↦ ap (λ (s : Sums). s.at) w.sums-is
      | else-running-eq1 w ↦ ap (λ (s : Sums). s.at) w.sums-is
    ] in
    let shares : sums.shares ≡ mid.shares = elim c.if-running-eq1.branch [
      | then-running-eq1 w ↦ ap (λ (s : Sums). s.shares) w.sums-is
      | else-running-eq1 w ↦ ap (λ (s : Sums). s.shares) w.sums-is
    ] in
    let busy : sums.busy ≡ mid.busy = elim c.if-running-eq1.branch [
      | then-running-eq1 w ↦ ap (λ (s : Sums). s.busy) w.sums-is
      | else-running-eq1 w ↦ ap (λ (s : Sums). s.busy) w.sums-is
    ] in
    let alone : sums.alone ≡ old.alone + len * alone_of n = elim c.if-running-eq1.branch [
      | then-running-eq1 w ↦ ap (λ (s : Sums). s.alone) w.sums-is ∙ ap (λ (m : ℕ). m + len) mid_alone
          ∙ one_more old.alone len (alone_of n) (ap alone_of w.if-running-eq1.true)
      | else-running-eq1 w ↦ ap (λ (s : Sums). s.alone) w.sums-is ∙ mid_alone ∙ none_more old.alone len (alone_of n) (alone_not n w.if-running-eq1.false)
    ] in
    let on = advanced old sums next n (running_by starts ends) order room inv.low inv.sums
    (λ t low high. omega (arith, steady_until starts ends was inv next begins later t low high, c.saturating_sub-running.ensures, at, until))
    (now_at ∙ mid_at) (shares ∙ mid_shares) (busy ∙ mid_busy) alone in
    let new : Swept = record { sums = sums; at_starts = c.events.at_starts.items; at_ends = c.push-else-begun-starts.new.self.items } in
    let other : begun < length starts → c.item_at-end.result < c.item_at-start.result = λ there. elim c.else-begun-starts.branch [
      | else-begun-starts-via-then-begun-starts+else-start-end w ↦ omega (arith, w.if-start-end.false)
      | else-begun-starts-via-else-begun-starts w ↦ absurd (omega (arith, w.if-begun-starts.false, there))
    ] in
    let first : c.item_at-end.result ≤ c.item_at-start.result = elim (cases_lt begun (length starts)) [
      | inl h ↦ omega (arith, other h)
      | inr h ↦ omega (arith, c.item_at-start.ensures, c.item_at-end.ensures, get_or_past starts begun 4294967296 (omega (arith, h)), not_late ends ends_rise ended)
    ] in
    let more : ended < length ends = elim (cases_lt ended (length ends)) [
      | inl h ↦ h
      | inr h ↦ elim c.if-len-starts.branch [
        | then-len-starts w ↦ absurd (omega (
          arith,
          c.item_at-start.ensures,
          c.item_at-end.ensures,
          get_or_past ends ended 4294967296 (omega (arith, h)),
          not_late starts starts_rise begun,
          other (omega (arith, w.if-len-starts.true, c.len.ensures, at)),
        ))
        | else-len-starts+then-len-ends w ↦ absurd (omega (arith, w.if-len-ends.true, w.len-else-len-starts.ensures, until, h))
      ]
    ] in
    let is : get_or ends (length was.at_ends) 0 ≡ next = ap (λ (m : ℕ). get_or ends m 0) (sym until)
    ∙ omega (arith, c.min-next.ensures, c.item_at-end.ensures, first, get_or_default ends ended 0 4294967296 more) in
    swept_end starts ends was inv next new ends_rise (omega (arith, more, until)) is order begins on.0 on.1 (now_at ∙ mid_at) c.in_ok-push-2.ensures.items refl

pub returns-clause-value : goal.returns-clause-value
returns-clause-value c = record {
  moments = c.in_ok-moments.ensures.value;
  swept = rw (c.as_slice-starts.ensures.value, c.as_slice-ends.ensures.value) at c.events.invariant;
  begun = omega (arith, c.events.invariant.begun, c.if-len-starts.false, c.len.ensures, ap (λ (l : List ℕ). length l) c.as_slice-starts.ensures.value);
  ended = omega (arith, c.events.invariant.ended, c.if-len-ends.false, c.len-else-len-starts.ensures, ap (λ (l : List ℕ). length l) c.as_slice-ends.ensures.value);
}

pub returns-clause-sums : goal.returns-clause-sums
returns-clause-sums c =
    let shares = returns-clause-value c in
    (busy_is c.args.spans.now _ shares, alone_is c.args.spans.now _ shares)
