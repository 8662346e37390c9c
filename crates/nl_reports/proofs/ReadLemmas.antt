-- The text of events reads as these events.
use Rattle.std.proofs.Common.{◌≡◌, ◌∙◌, ℕ, ◌+◌, ◌-◌, ◌≤◌, ◌<◌, ◌^◌, List, [], ◌∷◌, map, Some, refl, sym, ap, arith, append-nil}
use Rattle.std.specs.Prelude.{option_and_then, option_map}
use Rattle.std.specs.List.{All}
use Rattle.std.proofs.lemmas.List.Elements.{All-head, All-tail}
use Rattle.json.specs.Token.{Token}
use Rattle.json.specs.Json as json
use Rattle.json.specs.Lex.{tokens}
use Rattle.json.specs.Print.{print}
use Rattle.json.specs.Tree as tree
use Rattle.json.specs.Tree.{HasNumbers, ItemsHaveNumbers, json_tokens}
use Rattle.json.proofs.Printed.Decimals.{IsNumber-decimal}
use Rattle.json.proofs.Printed.Tokens.{tokens-print}
use Rattle.json.proofs.Printed.Trees.{ArePrintable-json_tokens, value-json_tokens}
use Rattle.serde_json.specs.Data.{Data, array, item}
use Rattle.serde_json.specs.Read.{max_depth, of_items, of_json, read}
use Rattle.serde_json.specs.View.{items_of}
use Rattle.serde_json.specs.Written.{compact_text, items_outline, outline}
use Rattle.serde_json.proofs.Numbers.{number_of-decimal}
use Rattle.serde_json.proofs.Texts.{print-outline}
use Rattle.nl_builds.specs.declared.build.How.{How}
use Rattle.nl_builds.specs.declared.build.How.TheVariants.{AsWritten, FoundAgain}
use Rattle.nl_fields.specs.declared.entry.Entry.{Entry}
use Rattle.nl_reports.specs.Events.{build_event, micros, shown}
use Rattle.nl_reports.specs.Reading.{FewTaken, IsEvent, counts, names, tells}
use Rattle.nl_reports.specs.Spans.{time_of}
use Rattle.nl_reports.specs.Sweep.{running}
use Rattle.nl_reports.specs.Trace.{array_text}

-- what a value needs to be read back
record ReadsBack (d : Data) : Type 0 where
  numbers : HasNumbers (outline d)
  shallow : tree.depth (outline d) ≤ 3
  is : of_json (outline d) ≡ Some d

names_number : (es : List Entry) → ItemsHaveNumbers (items_outline (items_of (map (λ (e : Entry). shown e.name) es)))
names_number [] = tt
names_number (e ∷ es) = (tt, names_number es)

names_depth : (es : List Entry) → tree.items_depth (items_outline (items_of (map (λ (e : Entry). shown e.name) es))) ≡ 0
names_depth [] = refl
names_depth (e ∷ es) = omega (arith, names_depth es)

names_read : (es : List Entry) → of_items (items_outline (items_of (map (λ (e : Entry). shown e.name) es)))
    ≡ Some (items_of (map (λ (e : Entry). shown e.name) es))
names_read [] = refl
names_read (e ∷ es) = ap (option_map (item (shown e.name))) (names_read es)

build_reads : (number began : ℕ) (how : How) → number < 2 ^ 64 → FewTaken how
    → ReadsBack (build_event (record { number = number; began = began; how = how }))
build_reads number began AsWritten fits few = record {
  numbers = ((tt, (tt, tt)), (tt, (tt, (IsNumber-decimal number fits, tt))));
  shallow = omega arith;
  is = rw (number_of-decimal number fits) refl;
}
build_reads number began (FoundAgain taken) fits few = record {
  numbers = ((tt, (tt, (IsNumber-decimal taken few, tt))), (tt, (tt, (IsNumber-decimal number fits, tt))));
  shallow = omega arith;
  is = rw (number_of-decimal number fits, number_of-decimal taken few) refl;
}

event_reads : (d : Data) → IsEvent d → ReadsBack d
event_reads d (names b fits few) = build_reads b.number b.began b.how fits few
event_reads d (tells b lane j fits low short near) =
    let dur = micros (time_of j.span) in
    let ts = micros (j.span.began - b.began) in
    record {
      numbers = (
        (tt, (names_number j.outputs, tt)),
        (
          IsNumber-decimal dur short,
          (tt, (tt, (IsNumber-decimal b.number fits, (IsNumber-decimal (lane + 1) low, (IsNumber-decimal ts near, tt))))),
        ),
      );
      shallow = rw (names_depth j.outputs) (omega arith);
      is = rw (
        names_read j.outputs,
        number_of-decimal dur short,
        number_of-decimal b.number fits,
        number_of-decimal (lane + 1) low,
        number_of-decimal ts near,
      ) refl;
    }
event_reads d (counts b cs at fits few near) =
    let count = running cs at in
    let moment = micros (at - b.began) in
    record {
      numbers = ((IsNumber-decimal count few, tt), (tt, (tt, (IsNumber-decimal b.number fits, (IsNumber-decimal moment near, tt)))));
      shallow = omega arith;
      is = rw (number_of-decimal count few, number_of-decimal b.number fits, number_of-decimal moment near) refl;
    }

all_number : (ds : List Data) → All IsEvent ds → ItemsHaveNumbers (items_outline (items_of ds))
all_number [] all = tt
all_number (d ∷ ds) all = ((event_reads d (All-head IsEvent d ds all)).numbers, all_number ds (All-tail IsEvent d ds all))

all_shallow : (ds : List Data) → All IsEvent ds → tree.items_depth (items_outline (items_of ds)) ≤ 3
all_shallow [] all = omega arith
all_shallow (d ∷ ds) all =
    omega (arith, (event_reads d (All-head IsEvent d ds all)).shallow, all_shallow ds (All-tail IsEvent d ds all))

all_read : (ds : List Data) → All IsEvent ds → of_items (items_outline (items_of ds)) ≡ Some (items_of ds)
all_read [] all = refl
all_read (d ∷ ds) all =
    ap (option_and_then (λ x. option_map (item x) (of_items (items_outline (items_of ds))))) (event_reads d (All-head IsEvent d ds all)).is
    ∙ ap (option_map (item d)) (all_read ds (All-tail IsEvent d ds all))

pub reads_as : (ds : List Data) → All IsEvent ds → read (array_text ds) ≡ Some (array (items_of ds))
unfolding array_text
reads_as ds all =
    let d = array (items_of ds) in
    let text : compact_text d ≡ print (json_tokens (outline d)) = sym (print-outline d) in
    let told : tokens (print (json_tokens (outline d))) ≡ json_tokens (outline d) =
    tokens-print (json_tokens (outline d)) (ArePrintable-json_tokens (outline d) (all_number ds all)) in
    ap read text
    ∙ ap (λ (ts : List Token). option_and_then of_json (option_and_then (λ p. json.if_last p.0 p.1) (json.value max_depth ts)))
    (told ∙ sym (append-nil (json_tokens (outline d))))
    ∙ ap (λ o. option_and_then of_json (option_and_then (λ p. json.if_last p.0 p.1) o))
    (value-json_tokens (outline d) max_depth [] (omega (arith, all_shallow ds all)))
    ∙ ap (option_map array) (all_read ds all)
