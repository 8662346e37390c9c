use Rattle.std.proofs.Common.{◌≡◌, ◌∙◌, List, None, Option, Some, ap, map, option_map, refl, subst, sym}
use Rattle.std.specs.Borrow.{Bor}
use Rattle.nl_tool_texts.specs.GraphText.{seen_graph}
use Rattle.nl_reports.specs.Jobs.{Job, seen, told}
use Rattle.nl_reports.specs.Picture.{IsOutlined, IsPicture, known_in, picture}
use Rattle.nl_reports.specs.Found.{AreFound, IsFound}
use Rattle.nl_reports.specs.Reaches.{ran_seen}
use Rattle.nl_reports.specs.declared.critical.Critical.{Critical}
use Rattle.nl_reports.specs.Turns.{jobs_in_turn}
use Rattle.nl_tool_texts.specs.Writing.{PrintsInPieces}
use Rattle.nl_tool_texts.specs.declared.graph.NinjaGraph.{NinjaGraph}
use Rattle.nl_tool_texts.proofs.WritingLemmas.{pieces_of}
use Rattle.nl_reports.proofs.picture.draw_builds.Goals as goal

pub returns-in_default-clause-prints : goal.returns-in_default-clause-prints
returns-in_default-clause-prints g c =
    let t = told c.args.from.now in
    let scope = c.args.scope in
    let ran : map seen c.as_slice-jobs.result.now ≡ jobs_in_turn scope t = ap (map seen) c.as_slice-jobs.ensures.value ∙ c.in_ok-jobs.ensures.value in
    subst (λ (o : Option (Bor NinjaGraph)). PrintsInPieces (IsPicture scope (option_map (λ g'. seen_graph g'.now) o) t)
    (g.W.Write.contents c.args.writer.now) (g.W.Write.contents c.write_jobs.new.writer) c.write_jobs.result) (sym c.in_default.is)
    (pieces_of (IsPicture scope None t) (picture (known_in scope t) None (map seen c.as_slice-jobs.result.now))
    (λ i. picture (known_in scope t) None (ran i)) _ _ c.write_jobs.result c.write_jobs.ensures.writes c.write_jobs.ensures.faults)

pub returns-clause-prints : goal.returns-clause-prints
returns-clause-prints g c =
    let t = told c.args.from.now in
    let scope = c.args.scope in
    let js = map seen c.as_slice-jobs.result.now in
    let graph = c.in-Some.graph.now in
    let found = c.in-Some-2.found in
    let rans = map ran_seen found.path.commands.items in
    let ran : js ≡ jobs_in_turn scope t = ap (map seen) c.as_slice-jobs.ensures.value ∙ c.in_ok-jobs.ensures.value in
    let is : IsFound graph js found = subst (λ (o : Option Critical). AreFound graph js o) c.in-Some-2.is c.in_ok-found.ensures.value in
    let drawn = picture (known_in scope t) (Some rans) js in
    let outlined : IsOutlined (seen_graph graph) (known_in scope t) js drawn = record {
      length = found.path.length;
      rans = rans;
      is_path = is.is_path;
      is = refl;
    } in
    subst (λ (o : Option (Bor NinjaGraph)). PrintsInPieces (IsPicture scope (option_map (λ g'. seen_graph g'.now) o) t)
    (g.W.Write.contents c.args.writer.now) (g.W.Write.contents c.write_jobs-2.new.writer) c.write_jobs-2.result) (sym c.in-Some.is)
    (pieces_of (IsPicture scope (Some (seen_graph graph)) t) drawn
    (subst (λ (l : List Job). IsOutlined (seen_graph graph) (known_in scope t) l drawn) ran outlined) _ _ c.write_jobs-2.result
    c.write_jobs-2.ensures.writes c.write_jobs-2.ensures.faults)
