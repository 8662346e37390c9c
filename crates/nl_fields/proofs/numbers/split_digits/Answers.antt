use Rattle.std.proofs.Common.{◌≡◌, ◌-◌, ◌∷◌, ◌++◌, ◌∙◌, List, ℕ, ap, arith, drop, length, length-drop, sym, take}
use Rattle.std.proofs.lemmas.List.{take-append-drop, take_all}
use Rattle.nl_fields.proofs.LeadingLemmas.{IsLongest, longest_of_front, tab_behind, first_behind}
use Rattle.nl_fields.proofs.numbers.split_digits.Goals.{Joined-bytes-ge-LONGEST, then-bytes-ge-LONGEST, else-bytes-ge-LONGEST}
use Rattle.nl_fields.proofs.numbers.split_digits.Goals as goal

longest : (c : Joined-bytes-ge-LONGEST) → IsLongest c.args.bytes.now c.if-bytes-ge-LONGEST.number.0 c.if-bytes-ge-LONGEST.number.1
longest c = elim c.if-bytes-ge-LONGEST.branch [
  | then-bytes-ge-LONGEST w ↦
      let front = w.leading_digits.ensures in
      rw w.number-is (longest_of_front _ _ _ w.if-bytes-ge-LONGEST.true front.within front.spells front.longest)
  | else-bytes-ge-LONGEST w ↦
      let all = w.leading_digits-else-bytes-ge-LONGEST.ensures in
      rw w.number-is (record { within = all.within; spells = all.spells; longest = λ n k small. all.longest n k })
]

pub returns-clause-found : goal.returns-clause-found
returns-clause-found c =
    let at = longest (goal.at.returns-clause-found c).Joined-bytes-ge-LONGEST in
    let len = c.if-bytes-ge-LONGEST.number.1 in
    let behind : drop len c.args.bytes.now ≡ 9 ∷ c.in_ok-tab.rest.now =
    sym (take_all (length c.args.bytes.now - len) (drop len c.args.bytes.now) (omega (arith, length-drop len c.args.bytes.now)))
    ∙ c.in_ok-tab.ensures.cases.0 ∙ ap (λ (tab : ℕ). tab ∷ c.in_ok-tab.rest.now) c.if-tab-ne9.false in
    record {
      text = take len c.args.bytes.now;
      is_text = at.spells (omega (arith, c.if-len-eq0.false));
      is = sym (take-append-drop len c.args.bytes.now) ∙ ap (λ (s : List ℕ). take len c.args.bytes.now ++ s) behind;
    }

pub returns-then-len-eq0-clause-accepts : goal.returns-then-len-eq0-clause-accepts
returns-then-len-eq0-clause-accepts c n rest small begins =
    let at = longest (goal.at.returns-then-len-eq0-clause-accepts c).Joined-bytes-ge-LONGEST in
    absurd (omega (arith, (tab_behind _ rest n _ _ small begins at.within at.spells at.longest).0, c.if-len-eq0.true))

-- the spelling is all that there is
pub returns-in_err-tab-clause-accepts : goal.returns-in_err-tab-clause-accepts
returns-in_err-tab-clause-accepts c n rest small begins =
    let at = longest (goal.at.returns-in_err-tab-clause-accepts c).Joined-bytes-ge-LONGEST in
    let behind = tab_behind _ rest n _ _ small begins at.within at.spells at.longest in
    absurd (omega (arith, c.in_err-tab.ensures.cases, ap length behind.1))

pub returns-then-tab-ne9-clause-accepts : goal.returns-then-tab-ne9-clause-accepts
returns-then-tab-ne9-clause-accepts c n rest small begins =
    let at = longest (goal.at.returns-then-tab-ne9-clause-accepts c).Joined-bytes-ge-LONGEST in
    let behind = tab_behind _ rest n _ _ small begins at.within at.spells at.longest in
    absurd (c.if-tab-ne9.true (first_behind _ _ rest (sym c.in_ok-tab.ensures.cases.0 ∙ behind.1)))
