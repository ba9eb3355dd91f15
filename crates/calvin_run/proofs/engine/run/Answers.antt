-- What is out is a beginning of the text of the book that was made of all that there was to read.
use Rattle.std.proofs.Common.{ℕ, ◌<◌, List, length, take, subst}
use Rattle.std.specs.Io.KnownBytes.{Appends}
use Rattle.calvin_run.proofs.Whole.{for_all_read}
use Rattle.calvin_run.proofs.engine.run.Goals as goal

pub returns-in_err-write_all-clause-beginning : goal.returns-in_err-write_all-clause-beginning
returns-in_err-write_all-clause-beginning g c = λ failed.
    let told = c.in_ok-told.told in
    let out = c.in_err-write_all.ensures.beginning in
    for_all_read _ (g.S.Source.left c.args.source.now) (g.S.Source.left c.read_all.new.source) c.in_ok-bytes.bytes.items c.in_ok-bytes.ensures.whole c.in_ok-bytes.ensures.end (
      told.book,
      told.text.items,
      c.in_ok-told.ensures.told,
      out.0,
      subst (λ (text : List ℕ). out.0 < length text) c.deref.ensures.value out.1,
      subst (λ (text : List ℕ). Appends (g.K.Sink.taken c.args.sink.now) (g.K.Sink.taken c.write_all.new.sink) (take out.0 text)) c.deref.ensures.value out.2,
    )
