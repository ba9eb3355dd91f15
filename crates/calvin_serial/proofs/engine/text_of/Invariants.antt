use Rattle.std.proofs.Common.{◌≡◌, ◌-◌, [], length}
use Rattle.std.specs.FinMap.{empty}
use Rattle.calvin_script.specs.Scripts.{contents}
use Rattle.calvin_serial.proofs.Runs.{text_from}
use Rattle.calvin_serial.proofs.engine.text_of.Given as goal

-- the lines so far and those of the epochs to come are those of all epochs
abbrev pub invariant-loop-epoch : goal.invariant-loop-epoch
invariant-loop-epoch g l =
    let from = text_from g.A.App.meaning g.A.Reply.Printed.printed (contents l.script) l.sets in
    let n = length l.script.epochs.items in
    from l.text.items l.store l.epoch (n - l.epoch) ≡ from [] empty 0 n
