use Rattle.std.proofs.Common.{◌∙◌, ap, sym}
use Rattle.nl_tool_texts.specs.Kind.{kind_of}
use Rattle.nl_tool_texts.specs.declared.kind.KindRule.{KindRule}
use Rattle.nl_tool_texts.proofs.LastByteLemmas.{folder_is, top_is}
use Rattle.nl_tool_texts.proofs.kind.kind_of.Goals as goal

pub returns-in-Folder : goal.returns-in-Folder
returns-in-Folder c =
    let name = c.args.name.now in
    record {
      value = folder_is name c.memrchr.result c.up_to.result.now c.memrchr.ensures c.up_to.ensures
          ∙ ap (λ (r : KindRule). kind_of r name) (sym c.in-Folder.is);
    }

pub returns-in-Top : goal.returns-in-Top
returns-in-Top c =
    let name = c.args.name.now in
    record {
      value = top_is name c.memchr.result c.up_to-in-Top.result.now c.memchr.ensures c.up_to-in-Top.ensures
          ∙ ap (λ (r : KindRule). kind_of r name) (sym c.in-Top.is);
    }
