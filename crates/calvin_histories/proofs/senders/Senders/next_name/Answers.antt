-- As many as stand in its list.
use Rattle.std.proofs.Common.{◌≡◌, ◌<◌, ℕ, length, Some, sym, ◌∙◌, ap, subst}
use Rattle.std.specs.Prelude.{slice_get}
use Rattle.std.proofs.lemmas.Option.{slice_get-get_or}
use Rattle.calvin_histories.proofs.Naming.{next_of}
use Rattle.calvin_histories.proofs.senders.Senders.next_name.Goals as goal

pub returns-in-Some : goal.returns-in-Some
returns-in-Some c = λ senders listed.
    let lists = c.args.self.now.lists.items in
    let place = c.in-Some.ensures in
    next_of c.args.self.now.partitions lists senders listed c.args.sender place.1.0 c.index.result.now
    (subst (λ (n : ℕ). slice_get lists n ≡ Some c.index.result.now) place.0 (slice_get-get_or lists c.in-Some.at c.index.result.now (subst (λ (n : ℕ). n < length lists) (sym place.0) place.1.1) ∙ ap Some (sym c.index.ensures)))
    c.len.result c.len.ensures
