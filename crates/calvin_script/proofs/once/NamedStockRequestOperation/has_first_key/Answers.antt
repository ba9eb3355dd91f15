use Rattle.calvin_script.proofs.OnceKeys.{first_key_once}
use Rattle.calvin_script.proofs.once.NamedStockRequestOperation.has_first_key.Goals as goal

pub returns : goal.returns
returns c = first_key_once c.args.self.now
