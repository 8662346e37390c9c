use Rattle.std.proofs.Common.{◌≡◌, ◌∙◌, ◌+◌, ◌++◌, ◌<◌, ℕ, suc, List, ◌∷◌, add-one, arith, ap, drop, false, get_or, pos, rules, subst, sym, true}
use Rattle.std.specs.Option.{unwrap_or}
use Rattle.std.proofs.lemmas.List.{drop-drop, drop_more}
use Rattle.nl_builds.specs.Builds.{past_in, walk}
use Rattle.nl_builds.specs.Commands.{row_or}
use Rattle.nl_builds.specs.Seen.{empty, is_border, is_doubtful, is_sure, mark, with_command}
use Rattle.nl_builds.specs.declared.command.Command.{Command}
use Rattle.nl_builds.specs.declared.seen.Seen.{Seen}
use Rattle.nl_builds.proofs.RowLemmas.{got}
use Rattle.nl_builds.proofs.WalkLemmas.{IsFirst, begins, goes_on, row_at, walk_on}
use Rattle.nl_builds.proofs.seen.walk.Goals.{then-at-gt0+then-matches+in_ok-push, else-at-gt0}
use Rattle.nl_builds.proofs.seen.walk.Goals as goal

pub loop-at-preserved : goal.loop-at-preserved
loop-at-preserved c =
    let order = c.args.order in
    let stamps = c.args.stamps in
    let place = c.args.place in
    let cs = c.args.commands.now in
    let rs = c.args.rows.now in
    let at = c.loop-at.at in
    let s = c.loop-at.current in
    let it : Command = get_or cs at (record { began = 0; ended = 0; mtime = pos 0; hash = 0; to = 0; is_manifest = false }) in
    let row : c.unwrap_or-row.result ≡ row_or it (drop at rs) =
    c.unwrap_or-row.ensures ∙ (λ i. unwrap_or ((c.copied.ensures ∙ got rs at c.get.result c.get.ensures.lookup.0 c.get.ensures.lookup.1) i) (c.of.ensures.value i))
    ∙ row_at it rs at in
    let m : c.mark-mark.result ≡ mark order stamps s it (row_or it (drop at rs)) = c.mark-mark.ensures ∙ ap (mark order stamps s it) row in
    let left : drop at cs ≡ it ∷ drop (at + 1) cs = drop_more cs at _ (omega (arith, c.loop-at-test.true)) in
    let first = subst (IsFirst at c.args.is_sure s) left c.loop-at.invariant.first in
    let told = ap (λ (l : List Command). c.loop-at.found.items ++ walk_on at order stamps place c.args.is_sure s l (drop at rs)) (sym left) ∙ c.loop-at.invariant.told in
    let place_is : place + at + 1 ≡ place + suc at = omega arith in
    let all : List Seen = walk order stamps place c.args.is_sure cs rs in
    let added : c.add.new.self ≡ with_command c.if-at-gt0.current stamps (place + suc at) (is_doubtful c.mark-mark.result) it (row_or it (drop at rs)) =
    c.add.ensures.value ∙ (λ i. with_command c.if-at-gt0.current stamps (place_is i) (is_doubtful c.mark-mark.result) it (row i)) in
    let onward : (l : List Seen) → l ++ walk_on (suc at) order stamps place c.args.is_sure c.add.new.self (drop (at + 1) cs) (drop 1 (drop at rs)) ≡ all
    → l ++ walk_on (at + 1) order stamps place c.args.is_sure c.add.new.self (drop (at + 1) cs) (drop (at + 1) rs) ≡ all =
    λ l is. (λ i. l ++ walk_on (add-one at i) order stamps place c.args.is_sure c.add.new.self (drop (at + 1) cs) (sym (drop-drop 1 at rs) i)) ∙ is in
    elim c.if-at-gt0.branch [
      | then-at-gt0+then-matches+in_ok-push w ↦
          let border : is_border c.mark-mark.result ≡ true = search rules in
          let sure : w.match-matches-3.empty ≡ is_sure c.mark-mark.result = search rules in
          let past : w.if-matches-2.empty.past ≡ past_in order s = search rules in
          let blank : w.if-matches-2.empty ≡ empty w.if-matches-2.empty.is_sure w.if-matches-2.empty.past w.if-matches-2.empty.last = search rules in
          let new : record w.if-matches-2.empty { is_sure = w.match-matches-3.empty; last = it } ≡ empty w.match-matches-3.empty w.if-matches-2.empty.past it =
          ap (λ (e : Seen). record e { is_sure = w.match-matches-3.empty; last = it }) blank in
          let now : c.if-at-gt0.current ≡ empty (is_sure c.mark-mark.result) (past_in order s) it = w.current-is ∙ new ∙ (λ i. empty (sure i) (past i) it) in
          record {
            told = onward c.if-at-gt0.found.items (begins order stamps place c.args.is_sure all at c.loop-at.found.items c.if-at-gt0.found.items s c.add.new.self it
                (drop (at + 1) cs) (drop at rs) c.mark-mark.result m w.if-at-gt0.true border (ap (λ f. f.items) w.found-is ∙ w.in_ok-push.ensures.items)
                (added ∙ ap (λ (s : Seen). with_command s stamps (place + suc at) (is_doubtful c.mark-mark.result) it (row_or it (drop at rs))) now) told);
            first = subst (λ (n : ℕ). IsFirst n c.args.is_sure c.add.new.self (drop (at + 1) cs)) (sym (add-one at)) tt;
            empty = w.empty-is ∙ new ∙ search rules;
            by_moment = search rules;
          }
      | else-at-gt0 w ↦
          let outside : 0 < at → is_border c.mark-mark.result ≡ false = search rules in
          record {
            told = onward c.if-at-gt0.found.items (ap (λ (l : List Seen). l ++ walk_on (suc at) order stamps place c.args.is_sure c.add.new.self (drop (at + 1) cs) (drop 1 (drop at rs)))
                (ap (λ f. f.items) w.found-is) ∙ goes_on order stamps place c.args.is_sure all at c.loop-at.found.items s c.add.new.self it
                (drop (at + 1) cs) (drop at rs) c.mark-mark.result first m outside
                (added ∙ ap (λ (s : Seen). with_command s stamps (place + suc at) (is_doubtful c.mark-mark.result) it (row_or it (drop at rs))) w.current-is) told);
            first = subst (λ (n : ℕ). IsFirst n c.args.is_sure c.add.new.self (drop (at + 1) cs)) (sym (add-one at)) tt;
            empty = search rules;
            by_moment = search rules;
          }
    ]
