use Rattle.std.proofs.Common.{◌≡◌, ◌∙◌, None, Some, ap, sym, length, take, length-take, arith, rules, eq-eqb, ne_eqb}
use Rattle.std.proofs.lemmas.Grind.{common_steps}
use Rattle.std.proofs.lemmas.Bool.{cond-true, cond-false}
use Rattle.std.proofs.lemmas.Str.Pattern.{rfind_char}
use Rattle.nl_os.specs.Paths.{folder_of_split}
use Rattle.nl_os.proofs.PathLemmas.{rsplit_once-none, rsplit_once-last}
use Rattle.nl_os.proofs.paths.folder_part.Goals as goal

pub returns-in-None : goal.returns-in-None
returns-in-None c =
    let lacks = rfind_char 47 c.args.path.now None c.in-None.ensures.cases (omega arith) in
    record { value = sym (ap folder_of_split (rsplit_once-none 47 c.args.path.now lacks)) }

pub returns-in-Some-eq0 : goal.returns-in-Some-eq0
returns-in-Some-eq0 c =
    let path = c.args.path.now in
    let found = rfind_char 47 path (Some c.in-Some-eq0.field-0) c.in-Some-eq0.ensures.cases (omega arith) in
    let split = rsplit_once-last 47 path c.in-Some-eq0.field-0 found.0 found.1 found.2 in
    let nothing : length (take c.in-Some-eq0.field-0 path) ≡ 0 =
    omega (arith, length-take c.in-Some-eq0.field-0 path, c.in-Some-eq0.field-0-test) in
    record { value = sym (ap folder_of_split split ∙ cond-true _ _ _ (eq-eqb _ 0 nothing)) }

pub returns-in-Some : goal.returns-in-Some
returns-in-Some c =
    let path = c.args.path.now in
    let found = rfind_char 47 path (Some c.in-Some.slash) c.in-Some.ensures.cases (omega arith) in
    let split = rsplit_once-last 47 path c.in-Some.slash found.0 found.1 found.2 in
    let some : length (take c.in-Some.slash path) ≡ 0 → ⊥ = λ e.
    omega (arith, length-take c.in-Some.slash path, found.0, c.in-Some.slash-test) in
    let first : c.range.result.now ≡ take c.in-Some.slash path = grind (rules, common_steps) in
    record { value = first ∙ sym (ap folder_of_split split ∙ cond-false _ _ _ (ne_eqb _ 0 some)) }
