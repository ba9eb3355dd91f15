-- It is one more of its sender's list; or it has none.
use Rattle.std.proofs.Common.{◌≡◌, ◌<◌, ℕ, [], ◌∷◌, ◌++◌, length, Some, sym, ◌∙◌, ap, subst}
use Rattle.std.specs.Prelude.{slice_get, slice_set}
use Rattle.std.proofs.lemmas.Option.{slice_get-get_or}
use Rattle.calvin_histories.specs.Positions.{AreListed}
use Rattle.calvin_histories.proofs.Finding.{on_ok, listed_here, listed_nowhere}
use Rattle.calvin_histories.proofs.senders.Senders.note.Goals as goal

pub returns-in_default-clause-listed : goal.returns-in_default-clause-listed
returns-in_default-clause-listed c = λ senders many listed. listed_nowhere c.args.self.now.partitions c.args.self.now.lists.items senders listed c.args.sender c.in_default.ensures

pub returns-clause-listed : goal.returns-clause-listed
returns-clause-listed c = on_ok c.push.result c.push.ensures.ok (λ more senders many listed.
    let lists = c.args.self.now.lists.items in
    let place = c.in-Some.ensures in
    let old = c.index_mut.result.now in
    subst (λ (n : ℕ). AreListed c.args.self.now.partitions (slice_set lists n c.push.new.self) (senders ++ c.args.sender ∷ [])) (sym place.0)
    (listed_here c.args.self.now.partitions lists senders listed c.args.sender c.args.number many place.1.0 old c.push.new.self
    (subst (λ (n : ℕ). slice_get lists n ≡ Some old) place.0 (slice_get-get_or lists c.in-Some.at old (subst (λ (n : ℕ). n < length lists) (sym place.0) place.1.1) ∙ ap Some (sym c.index_mut.ensures.value)))
    more))
