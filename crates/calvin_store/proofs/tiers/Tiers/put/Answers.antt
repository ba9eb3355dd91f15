use Rattle.std.proofs.Common.{◌≡◌, ◌-◌, [], ◌∷◌, sym, ap, ◌∙◌}
use Rattle.std.specs.FinMap as map
use Rattle.calvin_app.specs.Stores.{without}
use Rattle.calvin_store.specs.Tiers.{both, names_of}
use Rattle.calvin_store.proofs.TwoTables.{both-put, names-removed, removed_same, apart-put, apart_as, get_hot, get_cold, not_cold}
use Rattle.calvin_store.proofs.tiers.Tiers.put.Given.{Over}
use Rattle.calvin_store.proofs.tiers.Tiers.put.Goals as goal
use Rattle.calvin_store.proofs.tiers.Tiers.put.Goals.{In-Some}

-- a key that was hot has no cold row, so none is taken
none_taken : (g : Over) (c : In-Some g) → c.self.inside.cold.rows ≡ map.remove c.self.inside.cold.rows c.args.key
none_taken g c =
    let hot = c.self.inside.hot.rows in
    let cold = c.self.inside.cold.rows in
    removed_same cold c.args.key (not_cold hot cold c.self.invariant c.args.key c.in-Some.had (sym c.put.ensures.had ∙ c.in-Some.is))

pub invariant_of-self : goal.invariant_of-self
invariant_of-self g c =
    let hot = c.self.inside.hot.rows in
    let cold = c.self.inside.cold.rows in
    apart_as (map.insert hot c.args.key c.args.row) c.put.new.self.rows (map.remove cold c.args.key) cold (ap (λ t. t.rows) c.put.ensures.new) (none_taken g (goal.at.invariant_of-self g c).In-Some) (apart-put hot cold c.args.key c.args.row c.self.invariant)

pub invariant_of-self-in-None : goal.invariant_of-self-in-None
invariant_of-self-in-None g c =
    let hot = c.self.inside.hot.rows in
    let cold = c.self.inside.cold.rows in
    apart_as (map.insert hot c.args.key c.args.row) c.put.new.self.rows (map.remove cold c.args.key) c.take.new.self.rows (ap (λ t. t.rows) c.put.ensures.new) (ap (λ t. t.rows) c.take.ensures.new) (apart-put hot cold c.args.key c.args.row c.self.invariant)

pub returns-in-Some-clause-new : goal.returns-in-Some-clause-new
returns-in-Some-clause-new g c =
    let k = c.args.key in
    let hot = c.self.inside.hot.rows in
    let cold = c.self.inside.cold.rows in
    let same = none_taken g (goal.at.returns-in-Some-clause-new g c).In-Some in
    let rows = (λ i. both (c.put.ensures.new i).rows (same i)) ∙ both-put hot cold k c.args.row ∙ ap (λ t. map.insert t.rows k c.args.row) c.self.view_is in
    let names = ap names_of same ∙ names-removed cold k ∙ ap (λ t. without t.cold (k ∷ [])) c.self.view_is in
    let room = ap (λ t. t.room) c.put.ensures.new ∙ ap (λ t. t.room - 1) c.self.view_is in
    λ i. record { rows = rows i; cold = names i; room = room i }

pub returns-in-Some-clause-had : goal.returns-in-Some-clause-had
returns-in-Some-clause-had g c =
    sym (get_hot c.self.inside.hot.rows c.self.inside.cold.rows c.args.key c.in-Some.had (sym c.put.ensures.had ∙ c.in-Some.is))
    ∙ ap (λ t. map.get t.rows c.args.key) c.self.view_is

pub returns-in-None-clause-new : goal.returns-in-None-clause-new
returns-in-None-clause-new g c =
    let k = c.args.key in
    let hot = c.self.inside.hot.rows in
    let cold = c.self.inside.cold.rows in
    let rows = (λ i. both (c.put.ensures.new i).rows (c.take.ensures.new i).rows) ∙ both-put hot cold k c.args.row ∙ ap (λ t. map.insert t.rows k c.args.row) c.self.view_is in
    let names = ap (λ t. names_of t.rows) c.take.ensures.new ∙ names-removed cold k ∙ ap (λ t. without t.cold (k ∷ [])) c.self.view_is in
    let room = ap (λ t. t.room) c.put.ensures.new ∙ ap (λ t. t.room - 1) c.self.view_is in
    λ i. record { rows = rows i; cold = names i; room = room i }

pub returns-in-None-clause-had : goal.returns-in-None-clause-had
returns-in-None-clause-had g c =
    c.take.ensures.had ∙ sym (get_cold c.self.inside.hot.rows c.self.inside.cold.rows c.args.key (sym c.put.ensures.had ∙ c.in-None.is))
    ∙ ap (λ t. map.get t.rows c.args.key) c.self.view_is
