-- How a book grows, event by event.
--     grown_none, grown_one, grown_then      no event, one, and such after others
--     new_world      a book in which nothing happened
use Rattle.std.proofs.Common.{◌≡◌, inl, inr, List, [], ◌∷◌, ◌++◌, append-nil, append_assoc, refl, sym, ap, ◌∙◌}
use Rattle.calvin_types.specs.declared.fault.Fault.{Fault}
use Rattle.calvin_types.specs.declared.fault.Fault.TheVariants.{OutOfMemory}
use Rattle.calvin_app.specs.Meaning.{Meaning}
use Rattle.calvin_world.specs.declared.event.Event.{Event}
use Rattle.calvin_world.specs.declared.event.Outcome.TheVariants.{Refused}
use Rattle.calvin_world.specs.Worlds.{WorldState, opening}
use Rattle.calvin_world.specs.SettledWorlds.{settles, SettledStep}
use Rattle.calvin_book.specs.Books.{Log, world_after, Applied, IsRefused}
use Rattle.calvin_book.proofs.Runs.{run_is}
use Rattle.calvin_sim.proofs.Leading.{done_one, done_then}
use Rattle.calvin_run.specs.Growing.{IsGrown}

module _ {Args Row Reply : Type 0} (m : Meaning Args Row Reply) where
  abbrev pub world_of : Log Args → WorldState Args Row Reply
  world_of log = world_after m log.config log.events

  pub grown_none : (old : Log Args) → IsGrown m old [] old
  grown_none old = record {
    appended = λ i. record { config = old.config; events = sym (append-nil old.events) i };
    takes = refl;
  }

  pub grown_one : (old : Log Args) (event : Event Args) (new : Log Args) → Applied m old event new → IsGrown m old (event ∷ []) new
  grown_one old event new applied = record {
    appended = applied.appended;
    takes = done_one m (world_of old) (world_of new) event (inl applied.takes);
  }

  pub grown_then : (old middle new : Log Args) (events later : List (Event Args)) → IsGrown m old events middle → IsGrown m middle later new → IsGrown m old (events ++ later) new
  grown_then old middle new events later first next = record {
    appended =
        next.appended ∙ (λ i. record { config = (first.appended i).config; events = (first.appended i).events ++ later })
        ∙ (λ i. record { config = old.config; events = append_assoc old.events events later i });
    takes = done_then m (world_of old) (world_of middle) (world_of new) events later first.takes next.takes;
  }

  -- ---- what is refused

  -- as a step that ended so
  pub refused_step : (log : Log Args) (event : Event Args) (fault : Fault) → (settles m (world_of log) event).0 ≡ Refused fault → SettledStep m (world_of log) event (Refused fault) (settles m (world_of log) event).1
  refused_step log event fault is = inl (λ i. (sym is i, (settles m (world_of log) event).1))

  pub refused_for_want : (log : Log Args) (event : Event Args) (fault : Fault) → IsRefused m log event fault → (SettledStep m (world_of log) event (Refused fault) (settles m (world_of log) event).1 → fault ≡ OutOfMemory) → fault ≡ OutOfMemory
  refused_for_want log event fault (inl is) only = only (refused_step log event fault is)
  refused_for_want log event fault (inr is) only = is

  -- ---- at first

  pub new_world : (log : Log Args) → log.events ≡ [] → world_of log ≡ opening log.config
  new_world log none = ap (world_after m log.config) none ∙ sym (run_is m log.config [] (opening log.config) refl)
