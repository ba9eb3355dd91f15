use Rattle.std.proofs.Common.{◌+◌, length, ◌∙◌, ap}
use Rattle.std.specs.List.{insert}
use Rattle.std.proofs.lemmas.List.{length-set}
use Rattle.calvin_types.proofs.Fews.{insert_carried}
use Rattle.calvin_types.proofs.key_list.KeyList.insert.Goals as goal

pub loop-j-preserved : goal.loop-j-preserved
loop-j-preserved c = record {
  to_come = ap (λ xs. insert xs (c.loop-j.j + 1) c.at-next.result) c.set.ensures ∙ insert_carried c.loop-j.self c.loop-j.j c.loop-j.carried c.at-next.result c.at-next.ensures ∙ c.loop-j.invariant.to_come;
  as_long = ap length c.set.ensures ∙ length-set c.loop-j.self c.loop-j.j c.loop-j.carried ∙ c.loop-j.invariant.as_long;
}
