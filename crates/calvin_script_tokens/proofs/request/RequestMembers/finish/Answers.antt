use Rattle.std.proofs.Common.{◌≡◌, Some, sym, ap, ◌∙◌}
use Rattle.calvin_script_tokens.proofs.Whole.{without_sets, with_sets}
use Rattle.calvin_script_tokens.proofs.request.RequestMembers.finish.Goals as goal

pub returns-then-self-2 : goal.returns-then-self-2
returns-then-self-2 g c found h =
    let r = c.args.self.now in
    let args = c.give_name.new.self in
    let whole : g.Op.Operation.grammar.completed args r.declared ≡ Some c.complete.new.sets = ap (g.Op.Operation.grammar.completed args) (sym (c.deref_mut.ensures.value ∙ c.in_ok-declared.ensures)) ∙ c.in_ok-complete.ensures in
    with_sets g.Op.Operation.grammar found r args h c.if-not-self.false c.if-not-self-2.false c.if-not-self-3.false c.in_ok-give_name.ensures
    c.complete.new.sets c.if-self.true c.if-self-2.true whole
    ∙ ap Some (sym c.new.ensures)

pub returns : goal.returns
returns g c found h =
    let r = c.args.self.now in
    without_sets g.Op.Operation.grammar found r c.give_name.new.self h c.if-not-self.false c.if-not-self-2.false c.if-not-self-3.false c.in_ok-give_name.ensures
    c.if-self-3.false c.if-self-4.false
    ∙ ap Some (sym c.new-2.ensures)
