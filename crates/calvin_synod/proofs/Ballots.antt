-- One ballot before another ("Paxos Made Simple", section 2.2: proposal numbers are totally ordered).
--     Below a b      a comes before b
--     AtMost a b      a comes before b, or is b
use Rattle.std.specs.Prelude.{◌≡◌, ◌<◌, ◌≤◌}
use Rattle.calvin_types.specs.declared.place.Ballot.{Ballot}

-- a comes before b: by round, and then by replica
pub record Below (a b : Ballot) : Type 0 where
  pub rounds : a.round ≤ b.round
  pub replicas : a.round ≡ b.round → a.replica < b.replica

-- a comes before b, or is b
pub record AtMost (a b : Ballot) : Type 0 where
  pub rounds : a.round ≤ b.round
  pub replicas : a.round ≡ b.round → a.replica ≤ b.replica
