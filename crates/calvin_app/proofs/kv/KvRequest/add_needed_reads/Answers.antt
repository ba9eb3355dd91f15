use Rattle.std.proofs.Common.{sym, ap, ◌∙◌}
use Rattle.std.specs.FinMap as finmap
use Rattle.calvin_app.specs.declared.kv.KvRequest.{KvRequest}
use Rattle.calvin_app.specs.Kv.{needs_of}
use Rattle.calvin_app.specs.KvLaws.{followed_first}
use Rattle.calvin_app.proofs.kv.KvRequest.add_needed_reads.Goals as goal

pub returns-in-Follow : goal.returns-in-Follow
returns-in-Follow c =
    c.add_followed.ensures ∙ sym (followed_first c.in-Follow.id)
    ∙ ap (λ (a : KvRequest). (needs_of a finmap.empty).reads) (sym c.in-Follow.is)
