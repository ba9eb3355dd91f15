use Rattle.std.proofs.Common.{◌∷◌, [], ◌++◌, length, ap, ◌∙◌, take, arith, length-take, rules}
use Rattle.std.proofs.lemmas.List.{take_all}
use Rattle.calvin_types.specs.Keys.{has}
use Rattle.calvin_app.specs.Writing.{keys_of}
use Rattle.calvin_once.specs.declared.kept.OnceRow.TheVariants as kept
use Rattle.calvin_once.specs.Once.{as_rows}
use Rattle.calvin_once.proofs.Again.{keys-as_rows}
use Rattle.calvin_app.proofs.Apart.{few_writes, apart_at}
use Rattle.calvin_once.proofs.Inner.{as_rows_at, length-as_rows}
use Rattle.calvin_once.proofs.inside.keep.Goals as goal

pub loop-i-preserved : goal.loop-i-preserved
loop-i-preserved g c = c.push.ensures ∙ ap (λ ws. ws ++ (c.at-row.result.0, kept.Row c.at-row.result.1) ∷ []) c.loop-i.invariant ∙ as_rows_at c.args.done.now c.loop-i.i c.at-row.result c.at-row.ensures

pub returns : goal.returns
returns g c = c.push-2.ensures ∙ ap (λ ws. ws ++ (c.args.key, kept.Reply c.args.reply) ∷ []) (c.loop-i.invariant ∙ ap as_rows (take_all c.loop-i.i c.args.done.now (omega (arith, c.len-i-end.ensures.len))))

pub push-requires : goal.push-requires
push-requires g c = (
  search rules,
  (
    omega (arith, ap length c.loop-i.invariant, length-as_rows g.row.Reply.Denot (take c.loop-i.i c.args.done.now), length-take c.loop-i.i c.args.done.now, few_writes c.args.done.now c.requires.among.few c.len-i-end.ensures.distinct c.requires.among.within, c.requires.among.number),
    ap (λ ws. has (keys_of ws) c.at-row.result.0) c.loop-i.invariant ∙ ap (λ ks. has ks c.at-row.result.0) (keys-as_rows g.row.Reply.Denot (take c.loop-i.i c.args.done.now)) ∙ apart_at c.args.done.now c.loop-i.i c.at-row.result c.len-i-end.ensures.distinct c.at-row.ensures,
  ),
)

pub push-requires-2 : goal.push-requires-2
push-requires-2 g c = (
  search rules,
  (
    omega (arith, ap length c.loop-i.invariant, length-as_rows g.row.Reply.Denot (take c.loop-i.i c.args.done.now), length-take c.loop-i.i c.args.done.now, few_writes c.args.done.now c.requires.among.few c.len-i-end.ensures.distinct c.requires.among.within, c.requires.among.number),
    ap (λ ws. has (keys_of ws) c.args.key) (c.loop-i.invariant ∙ ap as_rows (take_all c.loop-i.i c.args.done.now (omega (arith, c.len-i-end.ensures.len)))) ∙ ap (λ ks. has ks c.args.key) (keys-as_rows g.row.Reply.Denot c.args.done.now) ∙ c.requires.absent,
  ),
)
