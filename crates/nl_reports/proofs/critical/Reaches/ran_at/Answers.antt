use Rattle.std.proofs.Common.{◌≡◌, ◌∙◌, None, Option, Some, List, ap, get_or, length, option_and_then, option_map, refl, rules, sym, ℕ}
use Rattle.std.specs.Borrow.{Bor}
use Rattle.std.specs.Prelude.{slice_get}
use Rattle.std.specs.Slice.{IsItemAt}
use Rattle.std.proofs.lemmas.Option.{slice_get_past, slice_get_read}
use Rattle.nl_reports.specs.Critical.{Ran}
use Rattle.nl_reports.specs.Reaches.{HeldPlace, ran_in, ran_of, ran_seen}
use Rattle.nl_reports.specs.declared.moments.Span.{Span}
use Rattle.nl_reports.proofs.ReachesLemmas.{ran_found}
use Rattle.nl_reports.proofs.critical.Reaches.ran_at.Goals as goal

read : (ss : List Span) (i : ℕ) (r : Option (Bor Span)) → IsItemAt ss i r → slice_get ss i ≡ option_map (λ (s : Bor Span). s.now) r
read ss i None is = slice_get_past ss i is.3
read ss i (Some s) is = slice_get_read ss (length ss) i s.now refl is.3.0 is.1

abbrev told : HeldPlace → Option Span → Option Ran
told p o = option_map (λ (s : Span). record { span = s; name = p.0.now; place = p.1 }) o

pub returns-in_err-span : goal.returns-in_err-span
returns-in_err-span c =
    let ss = c.args.self.now.spans.now in
    let none : c.from_residual-in_err-span.result ≡ None = search rules in
    record {
      value = ap (option_map ran_seen) none ∙ sym (ran_found ss c.args.self.now.places.now c.args.node ∙ ap (option_and_then (ran_of ss)) (sym c.item_at.ensures ∙ c.in_ok-name.was)
          ∙ ap (told (c.in_ok-name.name, c.in_ok-name.place)) (read ss c.in_ok-name.place _ c.get.ensures.lookup ∙ ap (option_map (λ (s : Bor Span). s.now)) c.in_err-span.was));
    }

pub returns : goal.returns
returns c =
    let ss = c.args.self.now.spans.now in
    record {
      value = sym (ran_found ss c.args.self.now.places.now c.args.node ∙ ap (option_and_then (ran_of ss)) (sym c.item_at.ensures ∙ c.in_ok-name.was)
          ∙ ap (told (c.in_ok-name.name, c.in_ok-name.place)) (read ss c.in_ok-name.place _ c.get.ensures.lookup ∙ ap (option_map (λ (s : Bor Span). s.now)) c.in_ok-span.was));
    }
