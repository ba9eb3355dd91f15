use Rattle.std.proofs.Common.{rules, ◌≡◌, get_or, slice_set}
use Rattle.std.proofs.lemmas.Result.{on_ok_weaker}
use Rattle.calvin_serve_lines.proofs.Gathers.{gathers}
use Rattle.calvin_serve_lines.proofs.gathering.Gathering.add.Goals as goal

pub returns-clause-ok : goal.returns-clause-ok
returns-clause-ok g c =
    let old = c.args.self.now in
    let group = c.args.asked.group in
    let at : c.index_mut.result.now ≡ get_or old group c.index_mut.result.now = search rules in
    let put : slice_set c.self.inside.groups.items c.group-group.result c.add.new.self ≡ slice_set old group c.add.new.self = search rules in
    on_ok_weaker c.add.result (λ more. gathers old _ c.args.asked c.index_mut.result.now c.add.new.self c.requires.room at more put) c.add.ensures.ok
