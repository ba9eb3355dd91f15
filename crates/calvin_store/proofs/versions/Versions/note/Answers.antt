use Rattle.std.proofs.Common.{ap, refl, ◌∙◌, sym, Some, is_some}
use Rattle.calvin_store.proofs.BeforeVersions.{takes_kept, takes_plain, leaves_kept, leaves_plain, open_point, beside_more, beside_kept}
use Rattle.calvin_store.proofs.versions.Versions.note.Goals as goal

pub returns-then-has_both-clause-point : goal.returns-then-has_both-clause-point
returns-then-has_both-clause-point g c = λ rows is.
    open_point rows c.args.self.now.before.rows c.args.key c.args.row c.args.place c.in-Some.epoch c.args.self.now.epoch _ c.put.new.self.rows c.in-Some.is (ap (λ t. t.rows) c.put.ensures.new)
    (takes_kept rows c.args.self.now.before.rows c.args.key c.args.row c.args.place c.in-Some.epoch c.if-place-epoch.true)

pub returns-else-has_both-clause-point : goal.returns-else-has_both-clause-point
returns-else-has_both-clause-point g c = λ rows is.
    open_point rows c.args.self.now.before.rows c.args.key c.args.row c.args.place c.in-Some.epoch c.args.self.now.epoch _ _ c.in-Some.is refl
    (takes_plain rows c.args.self.now.before.rows c.args.key c.args.row c.args.place c.in-Some.epoch c.if-place-epoch.true (sym (c.is_some-has_both.ensures ∙ ap is_some c.get.ensures) ∙ c.if-has_both.false))

pub returns-then-not-has_both-clause-point : goal.returns-then-not-has_both-clause-point
returns-then-not-has_both-clause-point g c = λ rows is.
    open_point rows c.args.self.now.before.rows c.args.key c.args.row c.args.place c.in-Some.epoch c.args.self.now.epoch _ c.put-then-not-has_both.new.self.rows c.in-Some.is (ap (λ t. t.rows) c.put-then-not-has_both.ensures.new)
    (leaves_plain rows c.args.self.now.before.rows c.args.key c.args.row c.args.place c.in-Some.epoch c.if-place-epoch.false (sym (c.is_some-has_both.ensures ∙ ap is_some c.get.ensures) ∙ c.if-not-has_both.true) c.args.had is)

pub returns-else-not-has_both-clause-point : goal.returns-else-not-has_both-clause-point
returns-else-not-has_both-clause-point g c = λ rows is.
    open_point rows c.args.self.now.before.rows c.args.key c.args.row c.args.place c.in-Some.epoch c.args.self.now.epoch _ _ c.in-Some.is refl
    (leaves_kept rows c.args.self.now.before.rows c.args.key c.args.row c.args.place c.in-Some.epoch c.if-place-epoch.false (sym (c.is_some-has_both.ensures ∙ ap is_some c.get.ensures) ∙ c.if-not-has_both.false))

pub returns-then-has_both-clause-beside : goal.returns-then-has_both-clause-beside
returns-then-has_both-clause-beside g c = λ rows beside.
    beside_kept rows c.args.self.now.before.rows c.args.key c.args.row c.args.self.now.epoch c.in-Some.epoch (Some c.args.row) c.put.new.self.rows c.in-Some.is (ap (λ t. t.rows) c.put.ensures.new) beside

pub returns-else-has_both-clause-beside : goal.returns-else-has_both-clause-beside
returns-else-has_both-clause-beside g c = λ rows beside. beside_more rows c.args.self.now.before.rows c.args.key c.args.row c.args.self.now.epoch beside

pub returns-then-not-has_both-clause-beside : goal.returns-then-not-has_both-clause-beside
returns-then-not-has_both-clause-beside g c = λ rows beside.
    beside_kept rows c.args.self.now.before.rows c.args.key c.args.row c.args.self.now.epoch c.in-Some.epoch c.args.had c.put-then-not-has_both.new.self.rows c.in-Some.is (ap (λ t. t.rows) c.put-then-not-has_both.ensures.new) beside

pub returns-else-not-has_both-clause-beside : goal.returns-else-not-has_both-clause-beside
returns-else-not-has_both-clause-beside g c = λ rows beside. beside_more rows c.args.self.now.before.rows c.args.key c.args.row c.args.self.now.epoch beside
