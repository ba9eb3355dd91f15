-- The events so far led here, and there is room for an outcome of each.
use Rattle.std.proofs.Common.{◌≡◌, ◌≤◌, length, take}
use Rattle.std.specs.Vec.{vec_len, vec_capacity}
use Rattle.calvin_synod_group.specs.Groups.{Leads}
use Rattle.calvin_synod_group.proofs.group.Group.run.Given as goal

abbrev pub invariant-loop-event : goal.invariant-loop-event
invariant-loop-event g l = record {
  room : length l.events ≤ vec_capacity l.outcomes;
  counted : vec_len l.outcomes ≡ l.event-index;
  led : Leads l.fn.self (take l.event-index l.events) l.outcomes.items l.self;
}
