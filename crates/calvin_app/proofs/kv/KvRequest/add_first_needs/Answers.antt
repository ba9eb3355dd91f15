use Rattle.std.proofs.Common.{sym, ap, ◌∙◌}
use Rattle.std.specs.FinMap as finmap
use Rattle.calvin_types.specs.declared.key_set.Sets.{Sets}
use Rattle.calvin_app.specs.declared.kv.KvRequest.{KvRequest}
use Rattle.calvin_app.specs.Kv.{needs_of}
use Rattle.calvin_app.specs.KvLaws.{followed_first}
use Rattle.calvin_app.proofs.kv.KvRequest.add_first_needs.Goals as goal

pub returns-in-Follow-clause-first : goal.returns-in-Follow-clause-first
returns-in-Follow-clause-first c =
    (λ i. record { reads = (c.add_followed.ensures ∙ sym (followed_first c.in-Follow.id)) i; writes = ap (λ (s : Sets). s.writes) c.requires i })
    ∙ ap (λ (a : KvRequest). needs_of a finmap.empty) (sym c.in-Follow.is)
