use Rattle.std.proofs.Common.{◌≡◌, ◌∙◌, ◌+◌, ◌<◌, ◌++◌, ◌∷◌, [], Bool, List, ℕ, ap, append-nil, append_assoc, arith, cond, false, get_or, length, map, not, refl, sym, take, true}
use mathlib.Core.Bool.{beq}
use Rattle.std.specs.List.{flat_map}
use Rattle.std.proofs.lemmas.List.{take_all, take_more}
use Rattle.std.proofs.lemmas.List.Concat.{flat_map-append}
use Rattle.nl_tool_texts.specs.Falling.{falling}
use Rattle.nl_reports.specs.Compare.{Compared, class_lines, classes, compared, compared_of, cost, head, listed_lines, of_class, side_of, told_classes, told_of_all, total_line}
use Rattle.nl_reports.specs.declared.sides.Class.{Class}
use Rattle.nl_reports.specs.declared.sides.Class.TheVariants.{Same}
use Rattle.nl_reports.specs.declared.sides.ComparedRow.{ComparedRow}
use Rattle.nl_reports.proofs.sides.compare_lines.Goals as goal

equal_is : (a b : Bool) → beq a b ≡ cond a b (not b)
equal_is true true = refl
equal_is true false = refl
equal_is false true = refl
equal_is false false = refl

-- what is told of one class more
class_more : (f : Class → List ℕ) (first lines new : List ℕ) (ks : List Class) (i : ℕ) (d : Class) → i < length ks
    → lines ≡ first ++ flat_map f (take i ks) → new ≡ lines ++ f (get_or ks i d) → new ≡ first ++ flat_map f (take (i + 1) ks)
class_more f first lines new ks i d within before after =
    let x = get_or ks i d in
    let whole : flat_map f (take (i + 1) ks) ≡ flat_map f (take i ks) ++ f x =
    ap (flat_map f) (take_more ks i d within) ∙ flat_map-append f (take i ks) (x ∷ []) ∙ ap (λ (l : List ℕ). flat_map f (take i ks) ++ l) (append-nil (f x)) in
    after ∙ ap (λ (l : List ℕ). l ++ f x) before ∙ append_assoc first (flat_map f (take i ks)) (f x) ∙ ap (λ (l : List ℕ). first ++ l) (sym whole)

-- equal ones come last, and none of them is listed
with_same : (screen : Bool) (cs : List Compared) (first : List ℕ)
    → (first ++ flat_map (total_line screen cs) told_classes) ++ total_line screen cs Same ≡ first ++ flat_map (total_line screen cs) classes
with_same screen cs first =
    let f = total_line screen cs in
    append_assoc first (flat_map f told_classes) (f Same)
    ∙ ap (λ (l : List ℕ). first ++ l)
    (ap (λ (l : List ℕ). flat_map f told_classes ++ l) (sym (append-nil (f Same))) ∙ sym (flat_map-append f told_classes (Same ∷ [])))

none_listed : (screen : Bool) (cs : List Compared) → listed_lines screen Same (take 0 cs) ≡ []
none_listed screen [] = refl
none_listed screen (c ∷ cs) = refl

pub loop-class-preserved : goal.loop-class-preserved
loop-class-preserved c =
    let inv = c.loop-class.invariant in
    let rows = map compared_of c.as_slice-rows.result.now in
    record {
      totals = class_more (total_line c.args.screen rows) _ c.loop-class.lines.items _ c.as_slice-class-items.result.now c.loop-class.class-index _ c.loop-class-test.true inv.totals
          c.in_ok-append_class.ensures.total;
      lists = class_more (class_lines c.args.screen c.args.most rows) [] c.loop-class.lists.items _ c.as_slice-class-items.result.now c.loop-class.class-index _
          c.loop-class-test.true inv.lists c.in_ok-append_class.ensures.listed;
    }

pub returns : goal.returns
returns c =
    let screen = c.args.screen in
    let most = c.args.most in
    let hashes = beq c.is_rapid.result c.is_rapid-2.result in
    let cs = map compared_of c.as_slice-rows.result.now in
    let inv = c.loop-class.invariant in
    let first = head screen hashes in
    let ks = c.as_slice-class-items.result.now in
    let told : take c.loop-class.class-index ks ≡ told_classes =
    take_all c.loop-class.class-index ks (omega (arith, c.loop-class-test.false)) ∙ c.as_slice-class-items.ensures in
    let lines : c.append_class-2.new.lines.items ≡ first ++ flat_map (total_line screen cs) classes =
    c.in_ok-append_class-2.ensures.total
    ∙ ap (λ (l : List ℕ). l ++ total_line screen cs Same) (inv.totals ∙ ap (λ (l : List Class). first ++ flat_map (total_line screen cs) l) told)
    ∙ with_same screen cs first in
    let lists : c.append_class-2.new.lists.items ≡ flat_map (class_lines screen most cs) told_classes =
    c.in_ok-append_class-2.ensures.listed ∙ ap (λ (l : List ℕ). c.loop-class.lists.items ++ l) (none_listed screen (falling cost (of_class Same cs))) ∙ append-nil c.loop-class.lists.items
    ∙ inv.lists ∙ ap (λ (l : List Class). flat_map (class_lines screen most cs) l) told in
    record {
      value = c.in_ok-append-2.ensures.items ∙ (λ j. lines j ++ (c.as_slice.ensures.value ∙ lists) j)
          ∙ ap (λ (rows : List ComparedRow). told_of_all screen most hashes (map compared_of rows)) c.as_slice-rows.ensures.value
          ∙ ap (told_of_all screen most hashes) c.in_ok-rows.ensures.value
          ∙ ap (λ (b : Bool). told_of_all screen most b (compared (record { hashes = b; least = c.args.least })
          (side_of c.args.old.now) (side_of c.args.new.now))) (equal_is c.is_rapid.result c.is_rapid-2.result ∙ (λ i. cond (c.is_rapid.ensures i) (c.is_rapid-2.ensures i) (not (c.is_rapid-2.ensures i))));
    }
