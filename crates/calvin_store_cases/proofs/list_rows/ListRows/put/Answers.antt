use Rattle.std.proofs.Common.{◌≡◌, ◌+◌, vec_len, sym, ap, ◌∙◌, subst, arith, rules}
use Rattle.std.specs.List.{insert}
use Rattle.std.specs.FinMap as map
use Rattle.calvin_app.specs.EntryPlaces.{IsAt, IsMissingAt}
use Rattle.calvin_app.specs.Entries.{rising, shown}
use Rattle.calvin_app.specs.EntryLaws.{rising-put, shown-put}
use Rattle.calvin_store_cases.proofs.list_rows.ListRows.put.Given.{Over}
use Rattle.calvin_store_cases.proofs.list_rows.ListRows.put.Goals as goal
use Rattle.calvin_store_cases.proofs.list_rows.ListRows.put.Goals.{In-Ok, In-Err}

present : (g : Over) (c : In-Ok g) → IsAt c.args.key c.self.inside.pairs.items c.in-Ok.i
present g c = subst (λ es. IsAt c.args.key es c.in-Ok.i) c.deref.ensures.value c.in-Ok.ensures

missing : (g : Over) (c : In-Err g) → IsMissingAt c.args.key c.self.inside.pairs.items c.in-Err.i
missing g c = subst (λ es. IsMissingAt c.args.key es c.in-Err.i) c.deref.ensures.value c.in-Err.ensures

pub invariant_of-self : goal.invariant_of-self
invariant_of-self g c =
    let at = present g (goal.at.invariant_of-self g c).In-Ok in
    (subst rising (at.put_is c.args.row) (rising-put c.self.inside.pairs.items c.args.key c.args.row c.self.invariant.0), c.self.invariant.1)

pub invariant_of-self-in-Err : goal.invariant_of-self-in-Err
invariant_of-self-in-Err g c =
    let es = c.self.inside.pairs.items in
    let here = (goal.at.invariant_of-self-in-Err g c).In-Err in
    let items : c.insert.new.self.items ≡ insert es c.in-Err.i (c.args.key, c.args.row) = search rules in
    let len : vec_len c.insert.new.self ≡ vec_len c.self.inside.pairs + 1 = search rules in (
      subst rising ((missing g here).put_is c.args.row ∙ sym items) (rising-put es c.args.key c.args.row c.self.invariant.0),
      omega (arith, len, ap (λ k. k.room) c.self.view_is, c.requires, c.insert.ensures.capacity, c.self.invariant.1),
    )

pub returns-in-Ok-clause-rows : goal.returns-in-Ok-clause-rows
returns-in-Ok-clause-rows g c =
    let at = present g (goal.at.returns-in-Ok-clause-rows g c).In-Ok in
    ap shown (sym (at.put_is c.args.row)) ∙ shown-put c.self.inside.pairs.items c.args.key c.args.row c.self.invariant.0 ∙ ap (λ k. map.insert k.rows c.args.key c.args.row) c.self.view_is

pub returns-in-Err-clause-rows : goal.returns-in-Err-clause-rows
returns-in-Err-clause-rows g c =
    let es = c.self.inside.pairs.items in
    let at = missing g (goal.at.returns-in-Err-clause-rows g c).In-Err in
    let items : c.insert.new.self.items ≡ insert es c.in-Err.i (c.args.key, c.args.row) = search rules in
    ap shown (items ∙ sym (at.put_is c.args.row)) ∙ shown-put es c.args.key c.args.row c.self.invariant.0 ∙ ap (λ k. map.insert k.rows c.args.key c.args.row) c.self.view_is
