use Rattle.calvin_stock.proofs.CentsOfAll.{cents_hold}
use Rattle.calvin_stock.proofs.Pieces.{pieces_hold}
use Rattle.calvin_stock.proofs.totals.totals_hold.Goals as goal

pub returns-clause-cents : goal.returns-clause-cents
returns-clause-cents c = cents_hold

pub returns-clause-pieces : goal.returns-clause-pieces
returns-clause-pieces c = pieces_hold
