use Rattle.std.proofs.Common.{◌≡◌, ◌+◌, [], ◌∷◌, length, drop, is_some, sym, ap, ◌∙◌, arith}
use Rattle.std.proofs.lemmas.List.{drop_all}
use Rattle.std.specs.FinMap as map
use Rattle.calvin_types.proofs.Fews.{drop_at}
use Rattle.calvin_app.specs.Stores.{without}
use Rattle.calvin_store.specs.Tiers.{both, names_of, cold_of}
use Rattle.calvin_store.proofs.ColdKeys.{one_if, cold-at, cold-taken}
use Rattle.calvin_store.proofs.PutsInTurn.{without-nil, without-append}
use Rattle.calvin_store.proofs.TwoTables.{both-warmed, names-removed, removed_same, apart-put, apart_as}
use Rattle.calvin_store.proofs.tiers.warm.Given.{Over}
use Rattle.calvin_store.proofs.tiers.warm.Goals as goal
use Rattle.calvin_store.proofs.tiers.warm.Goals.{Joined-take, in-Some, in_default}

pub put-requires : goal.put-requires
put-requires g c =
    let there = ap (λ o. one_if (is_some o)) (sym c.take.ensures.had ∙ c.in-Some.is) in
    omega (arith, c.loop-i.invariant.room, c.requires.room, there, cold-at c.loop-i.cold.rows c.args.keys.now c.loop-i.i c.at-key.result c.at-key.ensures)

-- the keys that are left make of the cold keys what they made of them with this one
without_key : (g : Over) (c : Joined-take g) → without (names_of c.take.new.self.rows) (drop (c.loop-i.i + 1) c.args.keys.now) ≡ without (names_of c.args.cold.now.rows) c.args.keys.now
without_key g c =
    let k = c.at-key.result in
    let left = drop (c.loop-i.i + 1) c.args.keys.now in
    let names = names_of c.loop-i.cold.rows in
    ap (λ t. without (names_of t.rows) left) c.take.ensures.new ∙ ap (λ n. without n left) (names-removed c.loop-i.cold.rows k)
    ∙ sym (without-append names (k ∷ []) left) ∙ ap (without names) (sym (drop_at c.args.keys.now c.loop-i.i k c.at-key.ensures)) ∙ c.loop-i.invariant.so_far

pub loop-i-preserved : goal.loop-i-preserved
loop-i-preserved g c =
    let k = c.at-key.result in
    let hot = c.loop-i.hot.rows in
    let cold = c.loop-i.cold.rows in
    let gone = ap (λ t. t.rows) c.take.ensures.new in
    let named = without_key g (goal.at.loop-i-preserved g c).Joined-take in
    let left = cold-taken cold c.args.keys.now c.loop-i.i k c.at-key.ensures in
    let names = ap (λ rows. length (cold_of (names_of rows) (drop (c.loop-i.i + 1) c.args.keys.now))) gone in
    elim c.match-take.branch [
      | in-Some w ↦
          let x = w.in-Some.row in
          let there = sym c.take.ensures.had ∙ w.in-Some.is in
          let is = w.hot-is ∙ w.put.ensures.new in record {
            apart = apart_as (map.insert hot k x) c.match-take.hot.rows (map.remove cold k) c.take.new.self.rows (ap (λ t. t.rows) is) gone (apart-put hot cold k x c.loop-i.invariant.apart);
            rows = (λ i. both (is i).rows (gone i)) ∙ both-warmed hot cold k x c.loop-i.invariant.apart there ∙ c.loop-i.invariant.rows;
            so_far = named;
            room = omega (arith, ap (λ t. t.room) is, c.loop-i.invariant.room, c.requires.room, left, names, ap (λ o. one_if (is_some o)) there);
          }
      | in_default w ↦
          let same = gone ∙ sym (removed_same cold k (sym c.take.ensures.had ∙ w.in_default.is)) in record {
            apart = apart_as hot c.match-take.hot.rows cold c.take.new.self.rows (ap (λ t. t.rows) w.hot-is) same c.loop-i.invariant.apart;
            rows = (λ i. both (w.hot-is i).rows (same i)) ∙ c.loop-i.invariant.rows;
            so_far = named;
            room = omega (arith, ap (λ t. t.room) w.hot-is, c.loop-i.invariant.room, left, names);
          }
    ]

pub returns : goal.returns
returns g c = record {
  apart = c.loop-i.invariant.apart;
  rows = c.loop-i.invariant.rows;
  cold =
      let names = names_of c.loop-i.cold.rows in
      sym (without-nil names) ∙ ap (without names) (sym (drop_all c.loop-i.i c.args.keys.now (omega (arith, c.loop-i-test.false, c.len-i-end.ensures.len)))) ∙ c.loop-i.invariant.so_far;
  room = omega (arith, c.loop-i.invariant.room, ap (λ ks. length (cold_of (names_of c.loop-i.cold.rows) ks)) (drop_all c.loop-i.i c.args.keys.now (omega (arith, c.loop-i-test.false, c.len-i-end.ensures.len))));
}
