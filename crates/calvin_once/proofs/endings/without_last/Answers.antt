use Rattle.std.proofs.Common.{◌&&◌, ◌++◌, ◌∷◌, [], ◌∙◌}
use Rattle.calvin_types.specs.SameKeys.{same_keys}
use Rattle.calvin_once.proofs.LastKeys.{same_keys-alike}
use Rattle.calvin_once.proofs.endings.without_last.Goals as goal

pub returns-clause-some : goal.returns-clause-some
returns-clause-some c s =
    (λ i. same_keys (s.reads ++ c.args.last ∷ []) (c.in_ok-reads.ensures.some i) && same_keys (s.writes ++ c.args.last ∷ []) (c.in_ok-writes.ensures.some i))
    ∙ (λ i. same_keys-alike s.reads c.in_ok-reads.reads c.args.last i && same_keys-alike s.writes c.in_ok-writes.writes c.args.last i)
