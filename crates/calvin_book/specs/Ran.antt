-- On which rows a request ran that was answered. The notion is of this project.
--     rows_at m c B q      the rows of the serial run just before a place
--     RanAt m c B a q      the request of an answered submission stands at the place, and ran on these rows: they hold every
--         write up to the epoch that its caller had been told of
use Rattle.std.specs.Prelude.{◌≡◌, ℕ, suc, ◌-◌, ◌<◌, Some}
use Rattle.std.specs.FinMap.{empty}
use Rattle.calvin_types.specs.declared.place.Place.{Place}
use Rattle.calvin_types.specs.Orders.{StandsAt}
use Rattle.calvin_app.specs.Meaning.{Meaning}
use Rattle.calvin_app.specs.Rows.{Rows}
use Rattle.calvin_app.specs.Serial.{answer_one, rows_before}
use Rattle.calvin_order.specs.Configs.{Config, stretch, order}
use Rattle.calvin_order.specs.Merged.{Assignment}
use Rattle.calvin_world.specs.Promises.{rows_after}
use Rattle.calvin_book.specs.declared.receipt.Answered.{Answered}

module _ {Args Row Reply : Type 0} (m : Meaning Args Row Reply) (c : Config) (B : Assignment Args) where
  abbrev pub rows_at : Place → Rows Row
  rows_at q = rows_before m (order c B (suc q.epoch)) empty q

  pub record RanAt (a : Answered Args Reply) (q : Place) : Type 0 where
    pub stands : StandsAt (order c B (suc q.epoch)) q a.submission.txn
    pub answer : a.answer ≡ answer_one m a.submission.txn (rows_at q)
    -- they are what requests of later epochs made of the rows after the told one
    pub told : (told : ℕ) → a.submission.told ≡ Some told → (told < q.epoch) × (rows_at q ≡ rows_before m (stretch c B (suc told) (q.epoch - told)) (rows_after m c B (suc told)) q)
