-- Merged requests that wait to be admitted, as a node keeps them (Thomson et al. 2012, section 3.2: requests are admitted in
-- the global order).
--     Waiting Args      these requests in order, and for how many more parts of a merged order there is room
use Rattle.std.specs.Prelude.{ℕ}
use Rattle.calvin_types.specs.Orders.{Order}

pub record Waiting (Args : Type 0) : Type 0 where
  pub requests : Order Args
  pub room : ℕ
