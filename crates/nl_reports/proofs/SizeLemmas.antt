-- How long the text of a bar is.
use Rattle.std.proofs.Common.{ℕ, zero, suc, ◌+◌, ◌*◌, ◌-◌, ◌/◌, ◌%◌, ◌<◌, ◌≤◌, ◌^◌, ◌==◌, ◌≡◌, max, Bool, true, false, cond, List, [], ◌∷◌, ◌++◌, length, drop, take, Option, None, Some, replicate, set}
use Rattle.std.proofs.Common.{arith, refl, subst, sym, inl, inr, codes, length-append}
use Rattle.std.specs.Prelude.{decimal, nat_lt, slice_index}
use Rattle.std.proofs.Math.Nat.{div-le_of_le-mul}
use Rattle.std.proofs.lemmas.Nat.{mul-le}
use Rattle.std.specs.Int.{is_in_range}
use Rattle.std.specs.Option.{unwrap_or}
use Rattle.std.specs.List.{All, fold, sum_by, zip}
use Rattle.std.specs.Str.Lossy.{after_first_chunk, error_len_after_one, error_len_after_two, error_len_of_some, replacement_bytes, second_byte_max, second_byte_min, utf8_error_len, utf8_invalid_len, utf8_lossy, utf8_lossy_within, utf8_valid_len}
use Rattle.std.proofs.lemmas.Bool.{cases_Bool}
use Rattle.std.proofs.lemmas.Bool.Decides.{eqb_tells, leb_tells, nat_tests}
use Rattle.std.proofs.lemmas.Fmt.{length-decimal-le_wide}
use Rattle.std.proofs.lemmas.List.{length-drop, length-map, length-replicate, length-set, length-take, length-take-le}
use Rattle.std.proofs.lemmas.List.Elements.{All-cons, All-head, All-nil, All-replicate, All-set, All-tail}
use Rattle.std.proofs.lemmas.List.Folds.{sum_by-replicate}
use Rattle.std.proofs.lemmas.List.Sums.{sum_by-append, sum_by-cons}
use Rattle.std.proofs.lemmas.List.Sorted.{All-permutation, length_permutation}
use Rattle.std.proofs.lemmas.Str.{utf8_valid_len_le}
use Rattle.nl_reports.specs.Jobs.{Job, first_name}
use Rattle.nl_reports.specs.Bars.{bar, bar_before, bars_from, drawn_width, is_short, kind_of, long_bar, more_outputs, name_text, named, no_short, opened, pixel_of, rect, room_of, short_bar, short_bars, short_in, short_text, times_text, title, width_of, with_short}
use Rattle.nl_tool_texts.specs.Escape.{cut_at, cut_name, cut_text, escaped, escaped_behind, label, piece, shown}
use Rattle.nl_reports.specs.Frame.{frame_of, height, is_named, pitch, x_at, y_at}
use Rattle.nl_reports.specs.declared.frame.Frame.{Frame}
use Rattle.nl_reports.specs.Lanes.{lanes}
use Rattle.nl_reports.specs.Picture.{bars_of}
use Rattle.nl_reports.specs.Rows.{by_start, lead, spans}
use Rattle.nl_reports.specs.Spans.{IsEarly, closed_of, time_of}
use Rattle.nl_tool_texts.specs.Kind.{base_of}
use Rattle.nl_tool_texts.specs.Texts.{seconds}
use Rattle.nl_tool_texts.specs.Work.{place, work_of}
use Rattle.nl_reports.specs.declared.frame.Short.{Short}
use Rattle.nl_tool_texts.specs.declared.kind.Work.{Work}
use Rattle.nl_tool_texts.specs.declared.kind.Work.TheVariants.{Compile, Link, Archive, Generate, Test, Other}
use Rattle.nl_tool_texts.proofs.FallingLemmas.{falling_moves}
use Rattle.nl_reports.proofs.FitLemmas.{lanes_few}
use Rattle.nl_tool_texts.proofs.EscapeLemmas.{cut_within}
use Rattle.nl_reports.proofs.PictureLemmas.{drawn_most}

-- ---- a name

-- how long the text of a byte may be: that of an entity where it may be one's
abbrev weight : ℕ → ℕ
weight c = cond (nat_lt c 128) 5 1

weight_most : (c : ℕ) → weight c ≤ 5
weight_most c = most (nat_lt c 128)
  where
    most : (t : Bool) → cond t 5 1 ≤ 5
    most true = omega arith
    most false = omega arith

weights_most : (bs : List ℕ) → sum_by weight bs ≤ 5 * length bs
weights_most [] = omega arith
weights_most (b ∷ bs) = omega (arith, weight_most b, weights_most bs, sum_by-cons weight b bs)

piece_weight : (a b c : ℕ) → length (piece a b c) ≤ weight c
piece_weight a b c = grind (arith, nat_tests)

escaped_weight : (a b : ℕ) (text : List ℕ) → length (escaped_behind a b text) ≤ sum_by weight text
escaped_weight a b [] = omega arith
escaped_weight a b (c ∷ cs) = omega (arith, piece_weight a b c, escaped_weight b c cs, length-append (piece a b c) (escaped_behind b c cs), sum_by-cons weight c cs)

some_or : (t : Bool) (a b : Option ℕ) (n : ℕ) → 0 < unwrap_or a n → 0 < unwrap_or b n → 0 < unwrap_or (cond t a b) n
some_or true a b n left right = left
some_or false a b n left right = right

-- what begins no character has a byte
invalid_some : (bs : List ℕ) → 0 < length bs → 0 < utf8_invalid_len bs
unfolding utf8_error_len
invalid_some bs some =
    let n = length bs in
    let first = slice_index bs 0 in
    let third : Option ℕ = cond (nat_lt n 4) None (Some 3) in
    let three : 0 < unwrap_or third n = some_or (nat_lt n 4) None (Some 3) n some (omega arith) in
    let second : Option ℕ = cond (is_in_range 0x80 0xBF (slice_index bs 2)) third (Some 2) in
    let two : 0 < unwrap_or (error_len_after_two bs) n =
    some_or (nat_lt n 3) None second n some (some_or (is_in_range 0x80 0xBF (slice_index bs 2)) third (Some 2) n three (omega arith)) in
    let follows = is_in_range (second_byte_min first) (second_byte_max first) (slice_index bs 1) in
    let one : 0 < unwrap_or (error_len_after_one bs) n =
    some_or (nat_lt n 2) None (cond follows (error_len_after_two bs) (Some 1)) n some
    (some_or follows (error_len_after_two bs) (Some 1) n two (omega arith)) in
    some_or (n == 0) None (error_len_of_some bs) n some
    (some_or (is_in_range 0xC2 0xF4 first) (error_len_after_one bs) (Some 1) n one (omega arith))

lossy_weight : (k : ℕ) (bs : List ℕ) → sum_by weight (utf8_lossy_within k bs) ≤ 5 * length bs
lossy_weight zero bs = weights_most bs
lossy_weight (suc k) bs =
    elim (eqb_tells (utf8_valid_len bs) (length bs)) [
      | inl h ↦ rw h.0 (weights_most bs)
      | inr h ↦
          let v = utf8_valid_len bs in
          let n = utf8_invalid_len (drop v bs) in
          let rest = utf8_lossy_within k (after_first_chunk bs) in
          let low = utf8_valid_len_le bs in
          let there : 0 < length (drop v bs) = omega (arith, length-drop v bs, low, h.1) in
          rw h.0 (omega (
            arith,
            low,
            there,
            invalid_some (drop v bs) there,
            length-drop v bs,
            length-drop (v + n) bs,
            length-take-le v bs low,
            weights_most (take v bs),
            lossy_weight k (after_first_chunk bs),
            sum_by-append weight (take v bs) (replacement_bytes ++ rest),
            sum_by-append weight replacement_bytes rest,
          ))
    ]

shown_size : (name : List ℕ) → length (shown name) ≤ 5 * length name
unfolding utf8_lossy
shown_size name = omega (arith, escaped_weight 0 0 (utf8_lossy name), lossy_weight (length name) name)

label_size : (name : List ℕ) → length (label name) ≤ 102
label_size name =
    elim (leb_tells (length (shown name)) 100) [
      | inl h ↦ rw h.0 (omega (arith, h.1))
      | inr h ↦ rw h.0 (omega (arith, shown_size (take 20 name), length-take 20 name, length-append (shown (take 20 name)) (codes "..")))
    ]

-- ---- bars

-- a text has at most so many bytes
record AtMost (text : List ℕ) (most : ℕ) : Type 0 where
  size : length text ≤ most

said : (text : List ℕ) (most : ℕ) → length text ≤ most → AtMost text most
said text most short = record { size = short }

join : {xs ys : List ℕ} {m n : ℕ} → AtMost xs m → AtMost ys n → AtMost (xs ++ ys) (m + n)
join {xs} {ys} {m} {n} first second = record { size = omega (arith, first.size, second.size, length-append xs ys) }

digits : (k n : ℕ) → 0 < k → n < 10 ^ k → n < 10 ^ 64 → AtMost (decimal n) k
digits k n some fits wide = record { size = length-decimal-le_wide k n some fits wide }

kind_most : (name : List ℕ) → place (work_of name) ≤ 5
kind_most name = most (work_of name)
  where
    most : (w : Work) → place w ≤ 5
    most Compile = omega arith
    most Link = omega arith
    most Archive = omega arith
    most Generate = omega arith
    most Test = omega arith
    most Other = omega arith

x_most : (f : Frame) (at : ℕ) → x_at f at ≤ 15400
x_most f at = omega arith

pitch_most : (f : Frame) → pitch f ≤ 220
pitch_most f = most (is_named f) refl
  where
    most : (t : Bool) → is_named f ≡ t → cond t 220 (max 1 (8000 / (f.top + 1))) ≤ 220
    most true is = omega arith
    most false is =
        let high : 64 ≤ f.top = grind (arith, nat_tests, is) in
        let part : 8000 / (f.top + 1) ≤ 220 = div-le_of_le-mul (f.top + 1) (omega (arith, high)) in
        omega (arith, part)

y_most : (f : Frame) (lane : ℕ) → lane < 2 ^ 63 → y_at f lane < 10 ^ 22
y_most f lane low = omega (arith, low, mul-le lane (pitch f) lane 220 (omega arith) (pitch_most f))

y_named : (f : Frame) (lane : ℕ) → is_named f ≡ true → lane ≤ f.top → y_at f lane ≤ 14960
y_named f lane named low =
    let few : f.top < 64 = grind (arith, nat_tests, named) in
    omega (arith, low, few, mul-le lane (pitch f) 63 220 (omega (arith, low, few)) (pitch_most f))

rect_size : (f : Frame) (lane x width kind digits_of : ℕ) → 0 < digits_of → y_at f lane < 10 ^ digits_of → y_at f lane < 10 ^ 64 → x < 10 ^ 5
    → width < 10 ^ 5 → kind ≤ 5 → AtMost (rect f lane x width kind) (66 + digits_of)
rect_size f lane x width kind k some fits low near wide few =
    let class = digits 1 kind (omega arith) (omega (arith, few)) (omega (arith, few)) in
    let from = digits 5 x (omega arith) near (omega (arith, near)) in
    let down = digits k (y_at f lane) some fits low in
    let across = digits 5 width (omega arith) wide (omega (arith, wide)) in
    let high = digits 3 (height f) (omega arith) (omega (arith, pitch_most f)) (omega (arith, pitch_most f)) in
    let all =
    join (said (codes "<rect class=\"k") 14 (omega arith)) (join class (join (said (codes "\" x=\"") 5 (omega arith)) (join from
    (join (said (codes "\" y=\"") 5 (omega arith)) (join down (join (said (codes "\" width=\"") 9 (omega arith)) (join across
    (join (said (codes "\" height=\"") 10 (omega arith)) (join high (join (said (codes "\"><title>") 9 (omega arith)) (said [] 0 (omega arith))))))))))))
    in record { size = omega (arith, all.size) }

seconds_size : (ms : ℕ) → ms < 2 ^ 32 → AtMost (seconds ms) 11
seconds_size ms low =
    join (join (join (join (digits 7 (ms / 1000) (omega arith) (omega (arith, low)) (omega (arith, low))) (said (codes ".") 1 (omega arith)))
    (digits 1 (ms % 1000 / 100) (omega arith) (omega arith) (omega arith))) (digits 1 (ms % 100 / 10) (omega arith) (omega arith) (omega arith)))
    (digits 1 (ms % 10) (omega arith) (omega arith) (omega arith))

more_size : (n : ℕ) → n < 2 ^ 63 → AtMost (more_outputs n) 29
more_size n few =
    told (n == 0) (join (join (said (codes " and ") 5 (omega arith)) (digits 19 n (omega arith) (omega (arith, few)) (omega (arith, few))))
    (said (codes " more") 5 (omega arith)))
  where
    told : (t : Bool) → AtMost (codes " and " ++ decimal n ++ codes " more") 29 → AtMost (cond t [] (codes " and " ++ decimal n ++ codes " more")) 29
    told true some = said [] 29 (omega arith)
    told false some = some

times_size : {time start : List ℕ} → AtMost time 11 → AtMost start 11 → AtMost (times_text time start) 49
times_size time start =
    join (join (join (join (said (codes "\n") 1 (omega arith)) time) (said (codes " s from ") 8 (omega arith))) start)
    (said (codes " s</title></rect>\n") 18 (omega arith))

title_size : (f : Frame) (j : Job) → IsEarly j.span → length j.outputs < 2 ^ 63 → AtMost (title f j) 180
title_size f j early few =
    join (join (said (label (first_name j.outputs)) 102 (label_size (first_name j.outputs))) (more_size (length j.outputs - 1) (omega (arith, few))))
    (times_size (seconds_size (time_of j.span) (omega (arith, early.ended))) (seconds_size (j.span.began - f.began) (omega (arith, early.began))))

escaped_size : (text : List ℕ) → length (escaped text) ≤ 5 * length text
escaped_size text = omega (arith, escaped_weight 0 0 text, weights_most text)

cut_size : (most : ℕ) (text : List ℕ) → most ≤ 22 → length (cut_text most text) ≤ 110
cut_size most text few =
    let at = cut_at (most - 1) text in
    elim (leb_tells (length text) most) [
      | inl h ↦ rw h.0 (omega (arith, escaped_size text, h.1, few))
      | inr h ↦
          rw h.0 (omega (
            arith,
            few,
            h.1,
            cut_within (most - 1) text,
            escaped_size (take at text),
            length-take at text,
            length-append (escaped (take at text)) (226 ∷ 128 ∷ 166 ∷ []),
          ))
    ]

named_size : (f : Frame) (lane x room : ℕ) (name : List ℕ) → y_at f lane ≤ 14960 → x ≤ 15400 → room ≤ 22 → AtMost (named f lane x room name) 144
named_size f lane x room name low near few =
    let from = digits 5 (x + 40) (omega arith) (omega (arith, near)) (omega (arith, near)) in
    let down = digits 5 (y_at f lane + 135) (omega arith) (omega (arith, low)) (omega (arith, low)) in
    let all =
    join (join (join (said (codes "<text x=\"") 9 (omega arith)) (join from (join (said (codes "\" y=\"") 5 (omega arith)) (join down
    (join (said (codes "\">") 2 (omega arith)) (said [] 0 (omega arith))))))) (said (cut_name room (base_of name)) 110 (cut_size room (utf8_lossy (base_of name)) few)))
    (said (codes "</text>\n") 8 (omega arith))
    in record { size = omega (arith, all.size) }

name_most : (t u : Bool) (text : List ℕ) → length text ≤ 144 → length (cond t [] (cond u text [])) ≤ 144
name_most true u text short = omega arith
name_most false true text short = short
name_most false false text short = omega arith

name_thin : (t : Bool) (text : List ℕ) → length (cond t [] (cond false text [])) ≤ 0
name_thin true text = omega arith
name_thin false text = omega arith

-- the bar of a command, whatever its outputs are called
pub bar_size : (f : Frame) (j : Job) (lane : ℕ) → IsEarly j.span → length j.outputs < 2 ^ 63 → lane ≤ f.top → f.top < 2 ^ 63
    → length (long_bar f j lane) ≤ 400
bar_size f j lane early few low top =
    let x = x_at f j.span.began in
    let width = drawn_width (width_of f j) in
    let room = room_of (width_of f j) in
    let name = first_name j.outputs in
    let near : x < 10 ^ 5 = omega (arith, x_most f j.span.began) in
    let wide : width < 10 ^ 5 = omega (arith, x_most f (closed_of j.span), drawn_most (width_of f j)) in
    let text = (title_size f j early few).size in
    let whole = length-append (rect f lane x width (kind_of j) ++ title f j) (name_text f lane x (width_of f j) name) in
    let titled = length-append (rect f lane x width (kind_of j)) (title f j) in
    elim (cases_Bool (is_named f)) [
      | inl high ↦
          let y = y_named f lane high low in
          let bar = rect_size f lane x width (kind_of j) 5 (omega arith) (omega (arith, y)) (omega (arith, y)) near wide (kind_most name) in
          let word = named_size f lane x room name y (x_most f j.span.began) (omega arith) in
          omega (arith, bar.size, text, name_most (nat_lt room 4) (is_named f) (named f lane x room name) word.size, whole, titled)
      | inr thin ↦
          let y = y_most f lane (omega (arith, low, top)) in
          let bar = rect_size f lane x width (kind_of j) 22 (omega arith) y (omega (arith, y)) near wide (kind_most name) in
          let none : length (name_text f lane x (width_of f j) name) ≤ 0 =
          subst (λ (u : Bool). length (cond (nat_lt room 4) [] (cond u (named f lane x room name) [])) ≤ 0) (sym thin) (name_thin (nat_lt room 4) (named f lane x room name)) in
          omega (arith, bar.size, text, none, whole, titled)
    ]

-- what is known of short commands
pub record ShortFits (s : Short) : Type 0 where
  pub near : s.pixel ≤ 1540
  pub kind : s.kind ≤ 5
  pub few : s.count ≤ 18446744073709551615

none_fits : ShortFits no_short
none_fits = record { near = omega arith; kind = omega arith; few = omega arith }

-- their bars: one at most
abbrev pub some_in : Short → ℕ
some_in s = cond (s.count == 0) 0 1

abbrev pub few_in : List Short → ℕ
few_in shorts = sum_by some_in shorts

some_most : (s : Short) → some_in s ≤ 1
some_most s = most (s.count == 0)
  where
    most : (t : Bool) → cond t 0 1 ≤ 1
    most true = omega arith
    most false = omega arith

set_few : (shorts : List Short) (lane : ℕ) (s : Short) → few_in (set shorts lane s) + some_in (short_in shorts lane) ≤ few_in shorts + 1
set_few [] lane s = omega arith
set_few (o ∷ os) zero s = omega (arith, some_most s, sum_by-cons some_in s os, sum_by-cons some_in o os)
set_few (o ∷ os) (suc lane) s = omega (arith, set_few os lane s, sum_by-cons some_in o (set os lane s), sum_by-cons some_in o os)

in_fits : (shorts : List Short) (lane : ℕ) → All ShortFits shorts → ShortFits (short_in shorts lane)
in_fits [] lane fit = none_fits
in_fits (o ∷ os) zero fit = All-head ShortFits o os fit
in_fits (o ∷ os) (suc lane) fit = in_fits os lane (All-tail ShortFits o os fit)

with_fits : (f : Frame) (s : Short) (j : Job) → ShortFits s → ShortFits (with_short f s j)
with_fits f s j fits =
    elim (cases_Bool (s.pixel == pixel_of f j)) [
      | inl same ↦ rw same (record { near = fits.near; kind = fits.kind; few = omega arith })
      | inr apart ↦ rw apart (record { near = omega (arith, x_most f j.span.began); kind = kind_most (first_name j.outputs); few = omega arith })
    ]

module _ (f : Frame) (top : f.top < 2 ^ 63) where
  short_size : (lane : ℕ) (s : Short) → lane ≤ f.top → ShortFits s → length (short_bar f lane s) ≤ 400 * some_in s
  short_size lane s low fits =
      let y = y_most f lane (omega (arith, low, top)) in
      let all =
      join (join (rect_size f lane (s.pixel * 10) 10 s.kind 22 (omega arith) y (omega (arith, y)) (omega (arith, fits.near)) (omega arith) fits.kind)
      (digits 20 s.count (omega arith) (omega (arith, fits.few)) (omega (arith, fits.few)))) (said (codes " short</title></rect>\n") 22 (omega arith)) in
      drawn (s.count == 0) (omega (arith, all.size))
    where
      drawn : (t : Bool) → length (short_text f lane s) ≤ 400 → length (cond t [] (short_text f lane s)) ≤ 400 * cond t 0 1
      drawn true few = omega arith
      drawn false few = omega (arith, few)

  shorts_size : (lane : ℕ) (ss : List Short) → lane + length ss ≤ f.top + 1 → All ShortFits ss → length (short_bars f lane ss) ≤ 400 * few_in ss
  shorts_size lane [] low fit = omega arith
  shorts_size lane (s ∷ ss) low fit =
      omega (
        arith,
        short_size lane s (omega (arith, low)) (All-head ShortFits s ss fit),
        shorts_size (lane + 1) ss (omega (arith, low)) (All-tail ShortFits s ss fit),
        sum_by-cons some_in s ss,
        length-append (short_bar f lane s) (short_bars f (lane + 1) ss),
      )

  -- a command has its bar, or that of those before it, or is put to these
  one_size : (j : Job) (lane : ℕ) (shorts : List Short) → IsEarly j.span → length j.outputs < 2 ^ 63 → lane ≤ f.top → All ShortFits shorts
      → length (bar f shorts (j, lane)) + 400 * few_in (opened f shorts (j, lane)) ≤ 400 + 400 * few_in shorts
  one_size j lane shorts early small low fit =
      elim (cases_Bool (is_short f j)) [
        | inr long ↦ let most = bar_size f j lane early small low top in rw long (omega (arith, most))
        | inl short ↦
            let s = short_in shorts lane in
            let few = set_few shorts lane (with_short f s j) in
            let before = short_size lane s low (in_fits shorts lane fit) in
            rw short (elim (cases_Bool (s.pixel == pixel_of f j)) [
              | inl same ↦ let most : few_in (set shorts lane (with_short f s j)) ≤ few_in shorts + 1 = omega (arith, few) in bare same most
              | inr apart ↦ drawn apart before few
            ])
      ]
    where
      bare : (short_in shorts lane).pixel == pixel_of f j ≡ true → few_in (set shorts lane (with_short f (short_in shorts lane) j)) ≤ few_in shorts + 1
          → length (bar_before f (short_in shorts lane) j lane) + 400 * few_in (set shorts lane (with_short f (short_in shorts lane) j)) ≤ 400 + 400 * few_in shorts
      bare same most = subst (λ (t : Bool). length (cond t [] (short_bar f lane (short_in shorts lane)))
          + 400 * few_in (set shorts lane (with_short f (short_in shorts lane) j)) ≤ 400 + 400 * few_in shorts) (sym same) (omega (arith, most))

      drawn : (short_in shorts lane).pixel == pixel_of f j ≡ false → length (short_bar f lane (short_in shorts lane)) ≤ 400 * some_in (short_in shorts lane)
          → few_in (set shorts lane (with_short f (short_in shorts lane) j)) + some_in (short_in shorts lane) ≤ few_in shorts + 1
          → length (bar_before f (short_in shorts lane) j lane) + 400 * few_in (set shorts lane (with_short f (short_in shorts lane) j)) ≤ 400 + 400 * few_in shorts
      drawn apart before few = subst (λ (t : Bool). length (cond t [] (short_bar f lane (short_in shorts lane)))
          + 400 * few_in (set shorts lane (with_short f (short_in shorts lane) j)) ≤ 400 + 400 * few_in shorts) (sym apart) (omega (arith, before, few))

  open_fits : (j : Job) (lane : ℕ) (shorts : List Short) → All ShortFits shorts → All ShortFits (opened f shorts (j, lane))
  open_fits j lane shorts fit =
      elim (cases_Bool (is_short f j)) [
        | inl short ↦ rw short (All-set ShortFits shorts lane (with_short f (short_in shorts lane) j) (with_fits f (short_in shorts lane) j (in_fits shorts lane fit)) fit)
        | inr long ↦ rw long fit
      ]

  open_long : (j : Job) (lane : ℕ) (shorts : List Short) → length (opened f shorts (j, lane)) ≡ length shorts
  open_long j lane shorts =
      elim (cases_Bool (is_short f j)) [
        | inl short ↦ rw short (length-set shorts lane (with_short f (short_in shorts lane) j))
        | inr long ↦ rw long refl
      ]

  pub pairs_size : (js : List Job) (ls : List ℕ) (shorts : List Short) → All (λ (j : Job). IsEarly j.span) js
      → All (λ (j : Job). length j.outputs < 2 ^ 63) js → All (λ (l : ℕ). l ≤ f.top) ls → length shorts ≤ f.top + 1 → All ShortFits shorts
      → length (bars_from f shorts (zip js ls)) ≤ 400 * length js + 400 * few_in shorts
  pairs_size [] ls shorts early small low long fit = omega (arith, shorts_size 0 shorts (omega (arith, long)) fit)
  pairs_size (j ∷ js) [] shorts early small low long fit = omega (arith, shorts_size 0 shorts (omega (arith, long)) fit)
  pairs_size (j ∷ js) (l ∷ ls) shorts early small low long fit =
      omega (
        arith,
        one_size j l shorts (All-head (λ (i : Job). IsEarly i.span) j js early) (All-head (λ (i : Job). length i.outputs < 2 ^ 63) j js small)
            (All-head (λ (i : ℕ). i ≤ f.top) l ls low) fit,
        pairs_size js ls (opened f shorts (j, l)) (All-tail (λ (i : Job). IsEarly i.span) j js early)
            (All-tail (λ (i : Job). length i.outputs < 2 ^ 63) j js small) (All-tail (λ (i : ℕ). i ≤ f.top) l ls low)
            (omega (arith, long, open_long j l shorts)) (open_fits j l shorts fit),
        length-append (bar f shorts (j, l)) (bars_from f (opened f shorts (j, l)) (zip js ls)),
      )

-- no lane is above the highest
top_rises : (top : ℕ) (ls : List ℕ) → top ≤ fold (λ t lane. max t lane) top ls
top_rises top [] = omega arith
top_rises top (l ∷ ls) = omega (arith, top_rises (max top l) ls)

below_top : (top : ℕ) (ls : List ℕ) → All (λ (l : ℕ). l ≤ fold (λ t lane. max t lane) top ls) ls
below_top top [] = All-nil (λ (l : ℕ). l ≤ top)
below_top top (l ∷ ls) =
    All-cons (λ (i : ℕ). i ≤ fold (λ t lane. max t lane) (max top l) ls) l ls (omega (arith, top_rises (max top l) ls)) (below_top (max top l) ls)

top_few : (top : ℕ) (ls : List ℕ) → top < 2 ^ 63 → All (λ (l : ℕ). l < 2 ^ 63) ls → fold (λ t lane. max t lane) top ls < 2 ^ 63
top_few top [] low all = low
top_few top (l ∷ ls) low all =
    let own = All-head (λ (i : ℕ). i < 2 ^ 63) l ls all in
    top_few (max top l) ls (omega (arith, low, own)) (All-tail (λ (i : ℕ). i < 2 ^ 63) l ls all)

bars_size : (js : List Job) → All (λ (j : Job). IsEarly j.span) js → All (λ (j : Job). length j.outputs < 2 ^ 63) js → length js < 2 ^ 63
    → length (bars_of js) ≤ 400 * length js
bars_size js early small few =
    let ls = lanes (spans js) in
    let f = frame_of (spans js) ls in
    let top = top_few 0 ls (omega arith) (lanes_few (spans js) (omega (arith, few, length-map js (λ (j : Job). j.span)))) in
    let low = below_top 0 ls in
    let none = replicate (f.top + 1) no_short in
    omega (
      arith,
      sum_by-replicate some_in (f.top + 1) no_short,
      pairs_size f top js ls none early small low (omega (arith, length-replicate (f.top + 1) no_short)) (All-replicate ShortFits (f.top + 1) no_short none_fits),
    )

-- in whatever order they are given
pub all_bars_size : (js : List Job) → All (λ (j : Job). IsEarly j.span) js → All (λ (j : Job). length j.outputs < 2 ^ 63) js → length js < 2 ^ 63
    → length (bars_of (by_start js)) ≤ 400 * length js
all_bars_size js early small few =
    let moved = falling_moves lead js in
    let count = length_permutation js (by_start js) moved in
    omega (
      arith,
      count,
      bars_size (by_start js) (All-permutation (λ (j : Job). IsEarly j.span) js (by_start js) moved early)
          (All-permutation (λ (j : Job). length j.outputs < 2 ^ 63) js (by_start js) moved small) (omega (arith, count, few)),
    )
