-- What receipts of a cluster say. The notions are of this project.
--     told_epoch report      the epoch that an answer tells of, where there is one
--     IsReplied m log a      the submission's event is there, and its first reply tells so
use Rattle.std.specs.Prelude.{◌≡◌, ℕ, Option, Some, None}
use Rattle.calvin_types.specs.declared.place.Place.{Place}
use Rattle.calvin_app.specs.Meaning.{Meaning}
use Rattle.calvin_book.specs.declared.receipt.Answered.{Answered}
use Rattle.calvin_book.specs.Books.{Log}
use Rattle.calvin_book.specs.Receipts.{IsSubmitEvent, reply_of, told_after}

abbrev pub told_epoch : {Args Reply : Type 0} → Option (Answered Args Reply) → Option ℕ
told_epoch None = None
told_epoch (Some a) = Some a.told

module _ {Args Row Reply : Type 0} (m : Meaning Args Row Reply) (log : Log Args) where
  pub record IsReplied (a : Answered Args Reply) : Type 0 where
    pub event : IsSubmitEvent log a.submission
    pub place : Place
    pub reply : reply_of m log a.submission ≡ Some (place, a.answer)
    pub told : a.told ≡ told_after a.submission.told place.epoch
