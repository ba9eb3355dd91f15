use Rattle.calvin_order.proofs.NextEpochs.{next_unused, used_before}
use Rattle.calvin_order.proofs.sequencer.Sequencer.next_epoch.Goals as goal

pub returns-clause-unused : goal.returns-clause-unused
returns-clause-unused g c = next_unused c.args.self.now.sequencing

pub returns-clause-least : goal.returns-clause-least
returns-clause-least g c = used_before c.args.self.now.sequencing
