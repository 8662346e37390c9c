use Rattle.std.proofs.Common.{◌≡◌, ◌∙◌, ◌++◌, ◌∷◌, [], ℕ, List, ap, append-nil}
use Rattle.std.proofs.lemmas.Result.{on_ok_weaker}
use Rattle.json.specs.Print.{print, print_from, quoted}
use Rattle.json.specs.Token as token
use Rattle.json.specs.Token.{Token}
use Rattle.nl_reports.specs.Events.{event_text}
use Rattle.nl_reports.proofs.BareLemmas.{bare_quoted}
use Rattle.nl_reports.proofs.trace.append_shown.Goals as goal

string_is : (s : List ℕ) → print (token.string s ∷ []) ≡ quoted s
unfolding print_from
string_is s = append-nil (quoted s)

pub returns-then-is_bare : goal.returns-then-is_bare
returns-then-is_bare c =
    let old = c.args.out.now.items in
    let name = c.args.name.now in
    record {
      items = on_ok_weaker c.put.result (λ h. h ∙ ap (λ (l : List ℕ). old ++ l) (bare_quoted name (c.requires.bare c.if-is_bare.true)))
          c.put.ensures.items;
    }

pub returns : goal.returns
unfolding event_text
returns c =
    let tokens = c.in_ok-string.ensures.ok ∙ ap (λ (ts : List Token). ts ++ token.string c.as_str.result.now ∷ []) c.new-json.ensures.tokens in
    let told = c.into_inner.ensures.items
    ∙ (λ i. (c.in_ok-string.ensures.room.0 ∙ c.new-json.ensures.before ∙ c.new.ensures.items) i ++ print (tokens i))
    ∙ ap (λ (s : List ℕ). print (token.string s ∷ [])) (c.as_str.ensures.value ∙ c.in_ok-text.ensures.lossy) ∙ string_is _ in
    record {
      items = on_ok_weaker c.append.result (λ h. h ∙ ap (λ (l : List ℕ). c.args.out.now.items ++ l) (c.as_slice.ensures.value ∙ told)) c.append.ensures.items;
    }
