use Rattle.std.proofs.Common.{◌≡◌, ◌∙◌, false, map, sym, true}
use Rattle.std.specs.Prelude.{if◌then◌else◌}
use Rattle.nl_tool_texts.specs.Work.{archived, compiled, extension_of, generated, is_in, linked, tested}
use Rattle.nl_tool_texts.specs.declared.kind.Work.TheVariants.{Compile, Link, Archive, Generate, Test, Other}
use Rattle.nl_tool_texts.proofs.kind.work_of.Goals as goal

pub returns-then-is_in-4 : goal.returns-then-is_in-4
returns-then-is_in-4 c =
    let e = extension_of c.args.name.now in
    let ext = c.extension_of-extension.ensures.value in
    let test1 : is_in e compiled ≡ false =
    sym (c.is_in.ensures ∙ (λ i. is_in (ext i) (map (λ w. w.now) (c.as_slice.ensures i)))) ∙ c.if-is_in.false in
    let test2 : is_in e linked ≡ false =
    sym (c.is_in-else-is_in.ensures ∙ (λ i. is_in (ext i) (map (λ w. w.now) (c.as_slice-else-is_in.ensures i)))) ∙ c.if-is_in-2.false in
    let test3 : is_in e archived ≡ false =
    sym (c.is_in-else-is_in-2.ensures ∙ (λ i. is_in (ext i) (map (λ w. w.now) (c.as_slice-else-is_in-2.ensures i)))) ∙ c.if-is_in-3.false in
    let test4 : is_in e generated ≡ true =
    sym (c.is_in-else-is_in-3.ensures ∙ (λ i. is_in (ext i) (map (λ w. w.now) (c.as_slice-else-is_in-3.ensures i)))) ∙ c.if-is_in-4.true in
    record { value = sym (λ i. if test1 i then Compile else (if test2 i then Link else (if test3 i then Archive else (if test4 i then Generate else (if is_in e tested then Test else Other))))) }

pub returns-then-is_in-5 : goal.returns-then-is_in-5
returns-then-is_in-5 c =
    let e = extension_of c.args.name.now in
    let ext = c.extension_of-extension.ensures.value in
    let test1 : is_in e compiled ≡ false =
    sym (c.is_in.ensures ∙ (λ i. is_in (ext i) (map (λ w. w.now) (c.as_slice.ensures i)))) ∙ c.if-is_in.false in
    let test2 : is_in e linked ≡ false =
    sym (c.is_in-else-is_in.ensures ∙ (λ i. is_in (ext i) (map (λ w. w.now) (c.as_slice-else-is_in.ensures i)))) ∙ c.if-is_in-2.false in
    let test3 : is_in e archived ≡ false =
    sym (c.is_in-else-is_in-2.ensures ∙ (λ i. is_in (ext i) (map (λ w. w.now) (c.as_slice-else-is_in-2.ensures i)))) ∙ c.if-is_in-3.false in
    let test4 : is_in e generated ≡ false =
    sym (c.is_in-else-is_in-3.ensures ∙ (λ i. is_in (ext i) (map (λ w. w.now) (c.as_slice-else-is_in-3.ensures i)))) ∙ c.if-is_in-4.false in
    let test5 : is_in e tested ≡ true =
    sym (c.is_in-else-is_in-4.ensures ∙ (λ i. is_in (ext i) (map (λ w. w.now) (c.as_slice-else-is_in-4.ensures i)))) ∙ c.if-is_in-5.true in
    record { value = sym (λ i. if test1 i then Compile else (if test2 i then Link else (if test3 i then Archive else (if test4 i then Generate else (if test5 i then Test else Other))))) }

pub returns-else-is_in-5 : goal.returns-else-is_in-5
returns-else-is_in-5 c =
    let e = extension_of c.args.name.now in
    let ext = c.extension_of-extension.ensures.value in
    let test1 : is_in e compiled ≡ false =
    sym (c.is_in.ensures ∙ (λ i. is_in (ext i) (map (λ w. w.now) (c.as_slice.ensures i)))) ∙ c.if-is_in.false in
    let test2 : is_in e linked ≡ false =
    sym (c.is_in-else-is_in.ensures ∙ (λ i. is_in (ext i) (map (λ w. w.now) (c.as_slice-else-is_in.ensures i)))) ∙ c.if-is_in-2.false in
    let test3 : is_in e archived ≡ false =
    sym (c.is_in-else-is_in-2.ensures ∙ (λ i. is_in (ext i) (map (λ w. w.now) (c.as_slice-else-is_in-2.ensures i)))) ∙ c.if-is_in-3.false in
    let test4 : is_in e generated ≡ false =
    sym (c.is_in-else-is_in-3.ensures ∙ (λ i. is_in (ext i) (map (λ w. w.now) (c.as_slice-else-is_in-3.ensures i)))) ∙ c.if-is_in-4.false in
    let test5 : is_in e tested ≡ false =
    sym (c.is_in-else-is_in-4.ensures ∙ (λ i. is_in (ext i) (map (λ w. w.now) (c.as_slice-else-is_in-4.ensures i)))) ∙ c.if-is_in-5.false in
    record { value = sym (λ i. if test1 i then Compile else (if test2 i then Link else (if test3 i then Archive else (if test4 i then Generate else (if test5 i then Test else Other))))) }
