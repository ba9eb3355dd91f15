use Rattle.std.proofs.Common.{◌≡◌, ◌++◌, ◌∷◌, []}
use Rattle.std.proofs.lemmas.List.{map-id}
use Rattle.calvin_script.specs.Requests.{request}
use Rattle.calvin_script_tokens.proofs.Steps.{one_more}
use Rattle.calvin_script_tokens.proofs.request.KeptPiece.push_tokens.Goals as goal

pub returns : goal.returns
returns g c =
    let G = g.Op.Operation.grammar in
    let more : c.push.new.self.items ≡ c.args.found.now.items ++ c.in_ok-kept.kept ∷ [] = c.in-Ok.ensures.items in
    rw (map-id c.args.found.now.items, map-id c.push.new.self.items)
    (one_more (request G) 122 c.args.reader.now c.request_at.new.reader c.args.found.now.items c.push.new.self.items c.in_ok-kept.kept c.in_ok-kept.ensures more)
