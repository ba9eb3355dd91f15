use Rattle.std.proofs.Common.{arith, rules}
use Rattle.calvin_app.proofs.Views.{len-insert-le}
use Rattle.calvin_app_cases.proofs.scarce_rows.view_of.Goals as goal

pub put-requires : goal.put-requires
put-requires c = (search rules, omega (arith, len-insert-le c.loop-id.view c.key.result c.row_of.result, c.len.ensures, c.if-len-lt-MOST_KEYS.true))
