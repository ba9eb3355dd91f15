use Rattle.std.proofs.Common.{◌≡◌, ◌∷◌, ◌++◌, [], map, ap, ◌∙◌}
use Rattle.std.proofs.lemmas.List.{map-append}
use Rattle.json.specs.Token.{Token}
use Rattle.calvin_script_events.specs.EventForms.{event_of, event}
use Rattle.calvin_script_tokens.proofs.Steps.{each_onward, each_done, list_spelled, one_more, spells-shorter}
use Rattle.calvin_event_tokens.proofs.event.events_of.Goals as goal

pub events-preserved : goal.events-preserved
events-preserved g c =
    let one = event g.Op.Operation.grammar in
    let kept : c.ends_array.new.reader ≡ c.events.reader = c.ends_array.ensures.kept c.events-test.true in
    let more : map event_of c.push.new.self.items ≡ map event_of c.events.found.items ++ event_of c.in_ok-event.event ∷ [] =
    ap (map event_of) c.in-Ok.ensures.items ∙ map-append event_of c.events.found.items (c.in_ok-event.event ∷ []) in
    let pushed = one_more one 123 c.ends_array.new.reader c.event_at.new.reader _ _ (event_of c.in_ok-event.event) c.in_ok-event.ensures more in
    each_onward one 123 c.opens_array.new.reader c.events.reader c.event_at.new.reader _ _ c.events.invariant
    (rw kept at pushed)

pub events-smaller : goal.events-smaller
events-smaller g c =
    let kept : c.ends_array.new.reader ≡ c.events.reader = c.ends_array.ensures.kept c.events-test.true in
    let less = spells-shorter (event g.Op.Operation.grammar) 123 c.ends_array.new.reader c.event_at.new.reader (event_of c.in_ok-event.event) c.in_ok-event.ensures in
    rw (← kept) less

pub returns : goal.returns
returns g c =
    let one = event g.Op.Operation.grammar in
    let closed : c.events.reader ≡ Token.end_array ∷ c.ends_array.new.reader = c.ends_array.ensures.ended c.events-test.false in
    rw (c.in_ok-opens_array.ensures, c.shrink_to_fit.ensures.items) (list_spelled one 123 c.opens_array.new.reader c.ends_array.new.reader _
    (each_done one 123 c.opens_array.new.reader c.events.reader c.ends_array.new.reader _ c.events.invariant closed))
