use Rattle.std.proofs.Common.{◌≡◌, ◌∙◌, ◌+◌, ◌-◌, ◌<◌, ◌≤◌, ◌++◌, ◌∷◌, [], ℕ, List, ap, append-nil, append_assoc, arith, drop, false, get_or, length, map, max, pos, subst, sym}
use Rattle.std.specs.List.{All}
use Rattle.std.proofs.lemmas.List.Elements.{All-push}
use Rattle.std.proofs.lemmas.List.{at_drop_more, drop_all, get_or-map, get_or_default, length-map, map-append}
use Rattle.nl_builds.specs.declared.command.Command.{Command}
use Rattle.nl_fields.specs.declared.entry.Entry.{Entry}
use Rattle.nl_tool_texts.specs.Lists.{between}
use Rattle.nl_reports.specs.Jobs.{build_commands, build_jobs, commands_to, entries_to, first_name, job_of, jobs_from, told}
use Rattle.nl_reports.specs.Kinds.{AreSumsOf}
use Rattle.nl_reports.specs.Numbers.{spans_of}
use Rattle.nl_reports.specs.Rows.{Told, told_job, told_row}
use Rattle.nl_reports.specs.Shares.{AreSharesOf}
use Rattle.nl_reports.specs.Spans.{IsEarly, span_of, time_of}
use Rattle.nl_reports.specs.Summary.{with_numbers}
use Rattle.nl_reports.specs.Sweep.{alone_time, busy_time, most_at_once, weight}
use Rattle.nl_reports.specs.declared.moments.Span.{Span}
use Rattle.nl_reports.specs.declared.rows.Row.{Row}
use Rattle.nl_reports.proofs.JobLemmas.{spans_from}
use Rattle.nl_reports.proofs.KindLemmas.{all_within}
use Rattle.nl_reports.proofs.summary.Totals.add.Goals as goal

abbrev no_command : Command
no_command = record { began = 0; ended = 0; mtime = pos 0; hash = 0; to = 0; is_manifest = false }

pub loop-command-preserved : goal.loop-command-preserved
loop-command-preserved c =
    let ds = c.made_by-place.result.0.now in
    let old = c.loop-command.spans.items in
    let i = c.loop-command.command-index in
    let rest = map span_of (drop (i + 1) ds) in
    let k = c.of.result in
    record {
      told = ap (λ (l : List Span). l ++ rest) c.in_ok-push.ensures.items ∙ append_assoc old (k ∷ []) rest
          ∙ ap (λ (s : Span). old ++ (s ∷ rest)) c.of.ensures.value
          ∙ ap (λ (l : List Span). old ++ l) (sym (at_drop_more (λ (l : List Command). map span_of l) ds i no_command c.loop-command-test.true))
          ∙ c.loop-command.invariant.told;
      early = subst (All IsEarly) (sym c.in_ok-push.ensures.items) (All-push IsEarly old k c.loop-command.invariant.early c.of.ensures.early);
    }

pub returns-clause-totals : goal.returns-clause-totals
returns-clause-totals c =
    let t = told c.args.from.now in
    let n = c.args.number in
    let old = c.args.self.now in
    let numbers = c.numbers_of-numbers.result in
    let ds = c.made_by-place.result.0.now in
    let all : length ds ≤ c.loop-command.command-index = omega (arith, c.loop-command-test.false) in
    let own : c.loop-command.spans.items ≡ map span_of ds = sym (append-nil c.loop-command.spans.items)
    ∙ ap (λ (l : List Command). c.loop-command.spans.items ++ map span_of l) (sym (drop_all c.loop-command.command-index ds all)) ∙ c.loop-command.invariant.told in
    let held : c.as_slice.result.now ≡ spans_of (build_jobs t n) = c.as_slice.ensures.value ∙ own ∙ ap (map span_of) c.made_by-place.ensures.commands
    ∙ sym (spans_from t.entries (entries_to (commands_to (n - 1) t.builds) t.commands) (build_commands t n)) in
    let shares = c.in_ok-shares.ensures.sums in
    (λ i. record {
      outputs = old.outputs + numbers.outputs;
      wall = old.wall + c.from.ensures i;
      busy = old.busy + (c.from-2.ensures ∙ shares.0 ∙ ap busy_time held) i;
      alone = old.alone + (c.from-3.ensures ∙ shares.1 ∙ ap alone_time held) i;
      most = (c.max-self.ensures ∙ ap (max old.most) (c.most.ensures.value _ c.in_ok-shares.ensures.value ∙ ap most_at_once held)) i;
    }) ∙ (λ i. with_numbers old (c.numbers_of-numbers.ensures.value i) (spans_of (build_jobs t n)))

pub loop-span-preserved : goal.loop-span-preserved
loop-span-preserved c =
    let cs = c.deref-span-items.result.now in
    let ws = c.loop-span.weights.items in
    let i = c.loop-span.span-index in
    let no : Span = record { began = 0; ended = 0 } in
    let k = get_or cs i no in
    let f = weight cs in
    let rest = map f (drop (i + 1) cs) in
    let held : c.as_slice.result.now ≡ cs = c.as_slice.ensures.value ∙ sym c.deref-span-items.ensures.value in
    let shared = subst (λ (l : List Span). AreSharesOf l c.in_ok-shares.shares) held c.in_ok-shares.ensures.value in
    let own : c.weight.result ≡ f k = c.weight.ensures.value cs shared (i, c.loop-span-test.true, get_or_default cs i k no c.loop-span-test.true) in
    ap (λ (l : List ℕ). l ++ rest) c.in_ok-push-2.ensures.items ∙ append_assoc ws (c.weight.result ∷ []) rest
    ∙ ap (λ (w : ℕ). ws ++ (w ∷ rest)) own
    ∙ ap (λ (l : List ℕ). ws ++ l) (sym (at_drop_more (λ (l : List Span). map f l) cs i no c.loop-span-test.true))
    ∙ c.loop-span.invariant

pub loop-at-init : goal.loop-at-init
loop-at-init c =
    let t = told c.args.from.now in
    let n = c.args.number in
    record {
      value = λ k. map told_row c.reserve.new.self.items ++ map (told_job (spans_of (build_jobs t n))) (jobs_from t.entries (c.made_by-place.ensures.place k) (c.made_by-place.ensures.commands k));
      small = λ were. were;
    }

pub loop-at-preserved : goal.loop-at-preserved
loop-at-preserved c =
    let t = told c.args.from.now in
    let n = c.args.number in
    let cs = spans_of (build_jobs t n) in
    let ds = c.made_by-place.result.0.now in
    let i = c.loop-at.at in
    let d = get_or ds i no_command in
    let within : i < length ds = omega (arith, c.loop-at-test.true, c.loop-at.auto.at-end) in
    let start = c.loop-at.start in
    let old = c.loop-at.found.items in
    let rest = map (told_job cs) (jobs_from t.entries d.to (drop (i + 1) ds)) in
    let all : length ds ≤ c.loop-command.command-index = omega (arith, c.loop-command-test.false) in
    let own : c.loop-command.spans.items ≡ map span_of ds = sym (append-nil c.loop-command.spans.items)
    ∙ ap (λ (l : List Command). c.loop-command.spans.items ++ map span_of l) (sym (drop_all c.loop-command.command-index ds all)) ∙ c.loop-command.invariant.told in
    let ss = c.deref-span-items.result.now in
    let spans : ss ≡ map span_of ds = c.deref-span-items.ensures.value ∙ own in
    let same : cs ≡ map span_of ds =
    spans_from t.entries (entries_to (commands_to (n - 1) t.builds) t.commands) (build_commands t n) ∙ ap (map span_of) (sym c.made_by-place.ensures.commands) in
    let ws = c.loop-span.weights.items in
    let done : length ss ≤ c.loop-span.span-index = omega (arith, c.loop-span-test.false) in
    let weights : ws ≡ map (weight cs) (map span_of ds) = sym (append-nil ws)
    ∙ ap (λ (l : List Span). ws ++ map (weight ss) l) (sym (drop_all c.loop-span.span-index ss done))
    ∙ c.loop-span.invariant ∙ (λ k. map (weight ((spans ∙ sym same) k)) (spans k)) in
    let weighed : c.item_at.result ≡ weight cs (span_of d) =
    c.item_at.ensures ∙ ap (λ (l : List ℕ). get_or l i 0) (c.deref.ensures.value ∙ weights)
    ∙ get_or-map (weight cs) (map span_of ds) i (span_of no_command) 0 (rw length-map within) ∙ ap (weight cs) (get_or-map span_of ds i no_command (span_of no_command) within) in
    let r : Row = record { name = c.name.result; commands = 1; time = c.time.result; weight = c.from-in-loop-at.result } in
    let name : c.name.result.now ≡ first_name (job_of t.entries start d).outputs = c.name.ensures ∙ ap first_name (c.between.ensures ∙ ap (λ (es : List Entry). between start d.to es) c.as_slice-in-loop-at.ensures.value) in
    let time : c.time.result ≡ time_of (span_of d) = c.time.ensures.value ∙ ap time_of c.of-in-loop-at.ensures.value in
    let told : told_row r ≡ told_job cs (job_of t.entries start d) =
    λ k. record { name = name k; sums = record { commands = 1; time = time k; weight = (c.from-in-loop-at.ensures ∙ weighed) k } } in
    let now : map told_row c.push-in-loop-at.new.self.items ≡ map told_row old ++ told_row r ∷ [] = ap (map told_row) c.in_ok-push-3.ensures.items ∙ map-append told_row old (r ∷ []) in
    record {
      value = ap (λ (l : List Told). l ++ rest) now
          ∙ append_assoc (map told_row old) (told_row r ∷ []) rest ∙ ap (λ (u : Told). map told_row old ++ (u ∷ rest)) told
          ∙ ap (λ (l : List Told). map told_row old ++ l) (sym (at_drop_more (λ (l : List Command). map (told_job cs) (jobs_from t.entries start l)) ds i no_command within))
          ∙ c.loop-at.invariant.value;
      small = λ were. subst (AreSumsOf 1) (sym now) (all_within 1 (map told_row old) (told_row r ∷ []) (c.loop-at.invariant.small were) (
        record {
          commands = omega arith;
          time = omega (arith, c.time.ensures.bound, c.of-in-loop-at.ensures.early.ended);
          weight = omega (arith, c.from-in-loop-at.ensures);
        },
        tt,
      ));
    }
