use Rattle.std.proofs.Common.{◌≡◌, true, Option, Some, None, is_some, IsSome, refl, subst, sym, rules}
use Rattle.std.proofs.lemmas.Bool.{false≢true}
use Rattle.std.specs.List.{filter}
use Rattle.std.proofs.lemmas.Fn.{filter_same}
use Rattle.calvin_types.specs.declared.place.Place.{Place}
use Rattle.calvin_lock.specs.declared.unreleased.Pending.{Pending}
use Rattle.calvin_lock.specs.Unreleased.{Among, Rises, pending_at}
use Rattle.calvin_lock.proofs.RisingPlaces.{among_filter, rises_filter}
use Rattle.calvin_lock.proofs.unreleased.keep_unreleased.Goals as goal

is_there : (o : Option Pending) → is_some o ≡ true → IsSome o
is_there None some = absurd (false≢true some)
is_there (Some p) some = search rules

there_is : (o : Option Pending) → IsSome o → is_some o ≡ true
there_is None some = search rules
there_is (Some p) some = refl

pub returns-clause-rises : goal.returns-clause-rises
returns-clause-rises c =
    let test = λ (x : Place). is_some (pending_at c.args.places.now.entries x) in
    let kept : c.retain.new.self.items ≡ filter test c.args.order.now.items = filter_same _ test _ (λ x b f' k. search rules) _ _ c.retain.ensures.filtered in
    subst Rises (sym kept) (rises_filter test c.args.order.now.items c.requires)

pub returns-clause-listed : goal.returns-clause-listed
returns-clause-listed c = λ q.
    let test = λ (x : Place). is_some (pending_at c.args.places.now.entries x) in
    let kept : c.retain.new.self.items ≡ filter test c.args.order.now.items = filter_same _ test _ (λ x b f' k. search rules) _ _ c.retain.ensures.filtered in
    let among = among_filter test c.args.order.now.items q in (
      λ there. (let both = among.0 (subst (λ l. Among l q) kept there) in (both.0, is_there (pending_at c.args.places.now.entries q) both.1)),
      λ both. subst (λ l. Among l q) (sym kept) (among.1 (both.0, there_is (pending_at c.args.places.now.entries q) both.1)),
    )
