-- The times of kinds, and where bars stand.
use Rattle.std.proofs.Common.{◌≡◌, ◌∙◌, ℕ, ◌+◌, ◌*◌, ◌-◌, ◌/◌, ◌<◌, ◌≤◌, Bool, true, false, cond, List, [], ◌∷◌, get_or, length, length-set, max, inl, inr, refl, arith, sym}
use Rattle.std.specs.Prelude.{nat_lt}
use Rattle.std.specs.List.{filter, fold, sum_by}
use Rattle.std.proofs.Math.Nat.{le_of_mul-le-mul_left, mul-div-le}
use Rattle.std.proofs.lemmas.Bool.Decides.{eqb_tells}
use Rattle.std.proofs.lemmas.Grind.{get_or-set_at}
use Rattle.std.proofs.lemmas.List.{get_or-set_other}
use Rattle.std.proofs.lemmas.List.Sums.{sum_by-cons}
use Rattle.nl_reports.specs.Bars.{drawn_width, width_of}
use Rattle.nl_reports.specs.Frame.{x_at}
use Rattle.nl_reports.specs.Jobs.{Job}
use Rattle.nl_reports.specs.Numbers.{total_time}
use Rattle.nl_reports.specs.Spans.{time_of}
use Rattle.nl_reports.specs.Times.{job_work, no_times, share_of, time_in, times_of, total, with_job, with_time}
use Rattle.nl_tool_texts.specs.Work.{is_same, place}
use Rattle.nl_reports.specs.declared.frame.Frame.{Frame}
use Rattle.nl_reports.specs.declared.kinds.Times.{Times}
use Rattle.nl_tool_texts.specs.declared.kind.Work.{Work}
use Rattle.nl_tool_texts.specs.declared.kind.Work.TheVariants.{Compile, Link, Archive, Generate, Test, Other}

-- ---- the times of kinds

-- each has a place
pub has_place : (w : Work) → place w < 6
has_place Compile = omega arith
has_place Link = omega arith
has_place Archive = omega arith
has_place Generate = omega arith
has_place Test = omega arith
has_place Other = omega arith

with_in : (t : Times) (v w : Work) (ms : ℕ) → length t.by_place ≡ 6 → time_in (with_time t v ms) w ≡ time_in t w + cond (is_same w v) ms 0
with_in t v w ms all = elim (eqb_tells (place w) (place v)) [
  | inl h ↦ get_or-set_at t.by_place (place v) (place w) (time_in t v + ms) 0 h.1 (omega (arith, all, has_place v))
      ∙ (λ i. get_or t.by_place (sym h.1 i) 0 + cond (sym h.0 i) ms 0)
  | inr h ↦ rw h.0 (omega (arith, get_or-set_other t.by_place (place v) (place w) (time_in t v + ms) 0 h.1))
]

filter_sum : (p : Job → Bool) (f : Job → ℕ) (j : Job) (js : List Job) → sum_by f (filter p (j ∷ js)) ≡ cond (p j) (f j) 0 + sum_by f (filter p js)
filter_sum p f j js = here (p j)
  where
    here : (t : Bool) → sum_by f (cond t (j ∷ filter p js) (filter p js)) ≡ cond t (f j) 0 + sum_by f (filter p js)
    here true = sum_by-cons f j (filter p js)
    here false = omega arith

time_from : (w : Work) (t : Times) (js : List Job) → length t.by_place ≡ 6
    → time_in (fold with_job t js) w ≡ time_in t w + sum_by (λ (j : Job). time_of j.span) (filter (λ j. is_same w (job_work j)) js)
time_from w t [] all = omega arith
time_from w t (j ∷ js) all =
    omega (
      arith,
      time_from w (with_job t j) js (length-set t.by_place _ _ ∙ all),
      with_in t (job_work j) w (time_of j.span) all,
      filter_sum (λ j. is_same w (job_work j)) (λ (j : Job). time_of j.span) j js,
    )

none_in : (w : Work) → time_in no_times w ≡ 0
none_in Compile = refl
none_in Link = refl
none_in Archive = refl
none_in Generate = refl
none_in Test = refl
none_in Other = refl

pub time_is : (js : List Job) (w : Work)
    → time_in (times_of js) w ≡ sum_by (λ (j : Job). time_of j.span) (filter (λ j. is_same w (job_work j)) js)
time_is js w = omega (arith, time_from w no_times js refl, none_in w)

-- it counts for one of them
once : (w : Work) (ms : ℕ) → cond (is_same Compile w) ms 0 + cond (is_same Link w) ms 0 + cond (is_same Archive w) ms 0
    + cond (is_same Generate w) ms 0 + cond (is_same Test w) ms 0 + cond (is_same Other w) ms 0 ≡ ms
once Compile ms = omega arith
once Link ms = omega arith
once Archive ms = omega arith
once Generate ms = omega arith
once Test ms = omega arith
once Other ms = omega arith

total_more : (t : Times) (w : Work) (ms : ℕ) → length t.by_place ≡ 6 → total (with_time t w ms) ≡ total t + ms
total_more t w ms all =
    omega (
      arith,
      once w ms,
      with_in t w Compile ms all,
      with_in t w Link ms all,
      with_in t w Archive ms all,
      with_in t w Generate ms all,
      with_in t w Test ms all,
      with_in t w Other ms all,
    )

total_from : (t : Times) (js : List Job) → length t.by_place ≡ 6 → total (fold with_job t js) ≡ total t + total_time js
total_from t [] all = omega arith
total_from t (j ∷ js) all =
    omega (
      arith,
      total_from (with_job t j) js (length-set t.by_place _ _ ∙ all),
      total_more t (job_work j) (time_of j.span) all,
      sum_by-cons (λ (j : Job). time_of j.span) j js,
    )

pub total_is : (js : List Job) → total (times_of js) ≡ total_time js
total_is js = omega (arith, total_from no_times js refl)

parts_sum : (m a b c d e f : ℕ) → 0 < m → a + b + c + d + e + f ≤ m
    → a * 100 / m + b * 100 / m + c * 100 / m + d * 100 / m + e * 100 / m + f * 100 / m ≤ 100
parts_sum m a b c d e f some all =
    le_of_mul-le-mul_left {k = m} (omega (
      arith,
      all,
      mul-div-le (a * 100) m,
      mul-div-le (b * 100) m,
      mul-div-le (c * 100) m,
      mul-div-le (d * 100) m,
      mul-div-le (e * 100) m,
      mul-div-le (f * 100) m,
    )) some

pub shares_few : (t : Times)
    → share_of t Compile + share_of t Link + share_of t Archive + share_of t Generate + share_of t Test + share_of t Other ≤ 100
shares_few t = parts_sum (max 1 (total t)) (time_in t Compile) (time_in t Link) (time_in t Archive) (time_in t Generate) (time_in t Test) (time_in t Other)
    (omega arith) (omega arith)

-- ---- where bars stand

pub drawn_most : (width : ℕ) → drawn_width width ≤ width
drawn_most width = most (nat_lt width 20)
  where
    most : (t : Bool) → cond t width (width - 6) ≤ width
    most true = omega arith
    most false = omega arith

pub bar_within : (f : Frame) (j : Job) → (1000 ≤ x_at f j.span.began) × (x_at f j.span.began + drawn_width (width_of f j) ≤ 15400)
bar_within f j = (omega arith, omega (arith, drawn_most (width_of f j)))
