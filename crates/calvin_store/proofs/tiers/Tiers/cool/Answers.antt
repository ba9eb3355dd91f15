use Rattle.std.proofs.Common.{◌≡◌, is_some, Err, sym, ap, ◌∙◌, rules}
use Rattle.std.specs.FinMap as map
use Rattle.calvin_types.specs.declared.fault.Fault.TheVariants.{OutOfMemory}
use Rattle.calvin_store.specs.Tiers.{both, names_of, is_hot_in}
use Rattle.calvin_store.proofs.TwoTables.{both-cooled, names-cooled, apart-cooled, apart_as, hot_in_both, not_cooled, no_room, did_cool}
use Rattle.calvin_store.proofs.tiers.Tiers.cool.Goals as goal

pub returns-in_default : goal.returns-in_default
returns-in_default g c =
    let k = c.args.key.now in
    not_cooled k c.args.self.now (sym (ap (λ t. is_hot_in t k) c.self.view_is) ∙ hot_in_both c.self.inside.hot.rows c.self.inside.cold.rows c.self.invariant k ∙ ap is_some (sym c.get.ensures ∙ c.in_default.is))

pub returns-in_err-reserve : goal.returns-in_err-reserve
returns-in_err-reserve g c =
    let k = c.args.key.now in
    let hot = c.self.inside.hot.rows in
    let is = sym (ap (λ t. is_hot_in t k) c.self.view_is) ∙ hot_in_both hot c.self.inside.cold.rows c.self.invariant k ∙ ap is_some (sym c.get.ensures ∙ c.in-Some.is) in
    let out : c.from_residual.result ≡ Err OutOfMemory = search rules in
    no_room k c.args.self.now c.from_residual.result _ is out ((λ i. record { rows = both hot (c.in_err-reserve.ensures.err i).rows; cold = names_of (c.in_err-reserve.ensures.err i).rows; room = c.self.inside.hot.room }) ∙ c.self.view_is)

pub invariant_of-self-2 : goal.invariant_of-self-2
invariant_of-self-2 g c =
    let k = c.args.key.now in
    let hot = c.self.inside.hot.rows in
    let cold = c.self.inside.cold.rows in
    apart_as (map.remove hot k) c.take.new.self.rows (map.insert cold k c.in-Some.row) c.put.new.self.rows (ap (λ t. t.rows) c.take.ensures.new) (ap (λ t. t.rows) c.put.ensures.new ∙ ap (λ t. map.insert t.rows k c.in-Some.row) c.in_ok-reserve.ensures.ok) (apart-cooled hot cold k c.in-Some.row c.self.invariant)

pub returns : goal.returns
returns g c =
    let k = c.args.key.now in
    let hot = c.self.inside.hot.rows in
    let cold = c.self.inside.cold.rows in
    let has = sym c.get.ensures ∙ c.in-Some.is in
    let is = sym (ap (λ t. is_hot_in t k) c.self.view_is) ∙ hot_in_both hot cold c.self.invariant k ∙ ap is_some has in
    let took = ap (λ t. t.rows) c.put.ensures.new ∙ ap (λ t. map.insert t.rows k c.in-Some.row) c.in_ok-reserve.ensures.ok in
    let rows = (λ i. both (c.take.ensures.new i).rows (took i)) ∙ both-cooled hot cold k c.in-Some.row has ∙ ap (λ t. t.rows) c.self.view_is in
    let names = ap names_of took ∙ names-cooled cold k c.in-Some.row ∙ ap (λ t. map.insert t.cold k tt) c.self.view_is in
    let room = ap (λ t. t.room) c.take.ensures.new ∙ ap (λ t. t.room) c.self.view_is in
    did_cool k c.args.self.now _ is (λ i. record { rows = rows i; cold = names i; room = room i })
