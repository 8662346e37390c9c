use Rattle.std.proofs.Common.{◌≡◌, ◌/◌, count_by, nat_lt, rules}
use Rattle.nl_tool_doubt.specs.Doubts.{is_file, is_moved}
use Rattle.nl_tool_doubt.proofs.doubts.is_copied.Goals as goal

pub returns : goal.returns
returns c =
    let files : c.count-files.result ≡ count_by is_file c.args.looked.now = search rules in
    let moved : c.count-moved.result ≡ count_by is_moved c.args.looked.now = search rules in
    λ i. nat_lt (files i / 2) (moved i)
