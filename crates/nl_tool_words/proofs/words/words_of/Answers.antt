use Rattle.std.proofs.Common.{codes, sym}
use Rattle.nl_tool_words.proofs.DefinitionLemmas.{neither, only_show, unlike}
use Rattle.nl_tool_words.proofs.words.words_of.Goals as goal

pub returns-in_default-clause-name : goal.returns-in_default-clause-name
returns-in_default-clause-name c =
    let name = c.args.name.now in
    let other = c.in_default in
    sym (only_show name c.requires.named
    (neither _ _ (unlike name (codes "check") other.not-check)
    (neither _ _ (unlike name (codes "hash") other.not-hash)
    (neither _ _ (unlike name (codes "entries") other.not-entries)
    (neither _ _ (unlike name (codes "damage") other.not-damage)
    (neither _ _ (unlike name (codes "doubt") other.not-doubt)
    (neither _ _ (unlike name (codes "builds") other.not-builds)
    (neither _ _ (unlike name (codes "summary") other.not-summary)
    (neither _ _ (unlike name (codes "compare") other.not-compare)
    (neither _ _ (unlike name (codes "trace") other.not-trace)
    (neither _ _ (unlike name (codes "picture") other.not-picture)
    (neither _ _ (unlike name (codes "hash-file") other.not-text)
    (neither _ _ (unlike name (codes "mend") other.not-mend)
    (neither _ _ (unlike name (codes "record") other.not-record)
    (neither _ _ (unlike name (codes "recompact") other.not-recompact)
    (neither _ _ (unlike name (codes "restat") other.not-restat)
    (neither _ _ (unlike name (codes "prune") other.not-prune)
    (neither _ _ (unlike name (codes "retime") other.not-retime)
    (neither _ _ (unlike name (codes "repair") other.not-repair)
    (neither _ _ (unlike name (codes "apply") other.not-apply)
    (unlike name (codes "replay") other.not-replay)))))))))))))))))))))
