-- How a book grows as a script's batches are submitted in it. The notion is of this project.
--     IsGrown m old events new      these events took effect one after another, and are the last ones of the book
use Rattle.std.specs.Prelude.{◌≡◌, List, ◌++◌}
use Rattle.calvin_app.specs.Meaning.{Meaning}
use Rattle.calvin_world.specs.declared.event.Event.{Event}
use Rattle.calvin_book.specs.Books.{Log, world_after}
use Rattle.calvin_sim.specs.Simulations.{AllDone}

pub record IsGrown {Args Row Reply : Type 0} (m : Meaning Args Row Reply) (old : Log Args) (events : List (Event Args)) (new : Log Args) : Type 0 where
  pub appended : new ≡ record { config = old.config; events = old.events ++ events }
  pub takes : AllDone m (world_after m old.config old.events) events (world_after m new.config new.events)
