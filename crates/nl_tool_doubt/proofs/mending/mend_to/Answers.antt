use Rattle.std.proofs.Common.{◌≡◌, List, ℕ, Err, Ok, Result, subst, sym}
use Rattle.std.specs.Prelude.{Bool, None, OnErr, OnOk}
use Rattle.std.specs.Io.KnownBytes.{Appends}
use Rattle.nl_folder.specs.FolderView.{folder_view}
use Rattle.nl_tool_texts.specs.Output.{AppendsPrefixOf}
use Rattle.nl_tool_texts.specs.declared.fault.ToolFault.{ToolFault}
use Rattle.nl_tool_doubt.specs.Mending.{FindsDoubts, MendsFolder}
use Rattle.nl_tool_doubt.specs.Settling.{Settles}
use Rattle.nl_tool_doubt.specs.declared.mending.Mended.{Mended}
use Rattle.nl_tool_doubt.proofs.MendLemmas.{mend_fault, mend_made, mend_unmade}
use Rattle.nl_tool_doubt.proofs.SettleLemmas.{settles_less}
use Rattle.nl_tool_doubt.proofs.mending.mend_to.Goals as goal

pub returns-in-Ok-clause-call : goal.returns-in-Ok-clause-call
returns-in-Ok-clause-call g c =
    let view = folder_view g.D.Folder in
    let states = g.F.OutputFiles.states c.args.files.now in
    let from = g.W.Write.contents c.args.writer.now in
    let mid = g.W.Write.contents c.settle-place.new.writer in
    let to = g.W.Write.contents c.write_out-written.new.writer in
    let word = c.settle-place.new.word in
    let old = view c.args.folder in
    let new = view c.settle-place.result.0.folder in
    let call : Settles (FindsDoubts c.args.how states from mid word.text.items word.mended) (mid ≡ from) None (Ok c.in-Ok.field-0) old new =
    subst (λ (r : Result Bool ToolFault). Settles (FindsDoubts c.args.how states from mid word.text.items word.mended) (mid ≡ from) None r old new) c.in-Ok.is
    (settles_less (λ both. both.0) c.settle-place.ensures.call) in
    let write = c.write_out-written in
    let same = c.as_slice.ensures.value in
    subst (λ (r : Result Mended ToolFault). MendsFolder states c.args.how from to r old new) (sym c.and.ensures)
    (mend_made c.in-Ok.field-0 call write.result (subst (λ (text : List ℕ). OnOk write.result (Appends mid to text)) same write.ensures.ok)
    (subst (λ (text : List ℕ). OnErr write.result (AppendsPrefixOf mid to text)) same write.ensures.prefix) write.ensures.faults)

pub returns-clause-call : goal.returns-clause-call
returns-clause-call g c =
    let view = folder_view g.D.Folder in
    let states = g.F.OutputFiles.states c.args.files.now in
    let from = g.W.Write.contents c.args.writer.now in
    let mid = g.W.Write.contents c.settle-place.new.writer in
    let word = c.settle-place.new.word in
    let old = view c.args.folder in
    let new = view c.settle-place.result.0.folder in
    let call : Settles (FindsDoubts c.args.how states from mid word.text.items word.mended) (mid ≡ from) None (Err c.in-Err.fault) old new =
    subst (λ (r : Result Bool ToolFault). Settles (FindsDoubts c.args.how states from mid word.text.items word.mended) (mid ≡ from) None r old new) c.in-Err.is
    (settles_less (λ both. both.0) c.settle-place.ensures.call) in
    mend_unmade c.in-Err.fault call

pub returns-clause-faults : goal.returns-clause-faults
returns-clause-faults g c =
    let view = folder_view g.D.Folder in
    let states = g.F.OutputFiles.states c.args.files.now in
    let from = g.W.Write.contents c.args.writer.now in
    let mid = g.W.Write.contents c.settle-place.new.writer in
    let word = c.settle-place.new.word in
    let old = view c.args.folder in
    let new = view c.settle-place.result.0.folder in
    let call : Settles (FindsDoubts c.args.how states from mid word.text.items word.mended) (mid ≡ from) None (Err c.in-Err.fault) old new =
    subst (λ (r : Result Bool ToolFault). Settles (FindsDoubts c.args.how states from mid word.text.items word.mended) (mid ≡ from) None r old new) c.in-Err.is
    (settles_less (λ both. both.0) c.settle-place.ensures.call) in
    mend_fault c.in-Err.fault call
