-- Its place in its sender's list.
use Rattle.std.proofs.Common.{◌≡◌, ◌<◌, ℕ, length, Some, sym, ◌∙◌, ap, subst}
use Rattle.std.specs.Prelude.{slice_get}
use Rattle.std.proofs.lemmas.Option.{slice_get-get_or}
use Rattle.calvin_histories.proofs.Finding.{find}
use Rattle.calvin_histories.proofs.senders.Senders.find.Goals as goal

pub returns : goal.returns
returns c = λ within senders listed.
    let lists = c.args.self.now.lists.items in
    let place = c.in_ok-at.ensures in
    find c.args.self.now.partitions lists senders listed c.args.name within.0 c.index.result.now
    (subst (λ (n : ℕ). slice_get lists n ≡ Some c.index.result.now) place.0 (slice_get-get_or lists c.in_ok-at.at c.index.result.now (subst (λ (n : ℕ). n < length lists) (sym place.0) place.1.1) ∙ ap Some (sym c.index.ensures)))
    c.get.result c.get.ensures
