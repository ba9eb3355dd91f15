use Rattle.std.proofs.Common.{arith, length, take, sym, ◌∙◌, subst, inr}
use Rattle.std.proofs.lemmas.List.{take_all}
use Rattle.std.specs.Io.KnownBytes.{Appends}
use Rattle.calvin_script.specs.Scripts.{all_listed}
use Rattle.calvin_serve_desk.specs.Desks.{Commits}
use Rattle.calvin_serve.proofs.Steps.{err_then}
use Rattle.calvin_serve.proofs.sitting.settle_as.Goals as goal

pub returns-in-Ok-write_all-clause-err : goal.returns-in-Ok-write_all-clause-err
returns-in-Ok-write_all-clause-err g c =
    let said = c.commit.new.text.items in
    let before = g.K.Sink.taken c.args.sink.now in
    let after = g.K.Sink.taken c.write_all.new.sink in
    let commits = subst (λ none. Commits g.A.App.meaning g.A.Reply.Printed.printed c.args.desk c.args.line.now (all_listed c.args.epoch.now) c.in-Ok.desk none said) c.new-text.ensures.items c.in-Ok.ensures.ok in
    let printed = subst (Appends before after) (c.deref.ensures.value ∙ sym (take_all (length said) said (omega arith))) c.in-Ok-write_all.ensures.whole in
    err_then c.new.result (λ s left. inr (c.in-Ok.desk, said, length said, commits, printed, left)) c.new.ensures.err

pub returns-in-Ok-clause-err : goal.returns-in-Ok-clause-err
returns-in-Ok-clause-err g c =
    let said = c.commit.new.text.items in
    let before = g.K.Sink.taken c.args.sink.now in
    let after = g.K.Sink.taken c.write_all.new.sink in
    let commits = subst (λ none. Commits g.A.App.meaning g.A.Reply.Printed.printed c.args.desk c.args.line.now (all_listed c.args.epoch.now) c.in-Ok.desk none said) c.new-text.ensures.items c.in-Ok.ensures.ok in
    let n = c.in-Err-write_all.ensures.beginning.0 in
    let printed = subst (λ w. Appends before after (take n w)) c.deref.ensures.value c.in-Err-write_all.ensures.beginning.2 in
    inr (c.in-Ok.desk, said, n, commits, printed, c.into_log.ensures.any_moment)
