use Rattle.nl_fields.specs.Name.{is_forbidden}
use Rattle.nl_fields.proofs.SearchLemmas.{IsFirstByte-position}
use Rattle.nl_fields.proofs.name.first_forbidden.Goals as goal

pub returns : goal.returns
returns c = IsFirstByte-position is_forbidden c.args.bytes.now c.memchr3.result c.memchr3.ensures
