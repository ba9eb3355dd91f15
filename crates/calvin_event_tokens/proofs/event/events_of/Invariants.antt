use Rattle.std.proofs.Common.{◌++◌, List, map, length}
use Rattle.json.specs.Token.{Token}
use Rattle.calvin_world.specs.declared.event.Event.{Event}
use Rattle.calvin_script_events.specs.EventForms.{event_of, event}
use Rattle.calvin_script_tokens.proofs.Insides.{SpellsEach}
use Rattle.calvin_event_tokens.proofs.event.events_of.Given as goal

abbrev pub invariant-events : goal.invariant-events
invariant-events g l =
    let one = event g.Op.Operation.grammar in
    (xs : List (Event g.row.Op.Denot)) (end : List Token) → SpellsEach one 123 l.reader xs end → SpellsEach one 123 l.initial.reader (map event_of l.found.items ++ xs) end

abbrev pub decreases-events : goal.decreases-events
decreases-events g l = length l.reader
