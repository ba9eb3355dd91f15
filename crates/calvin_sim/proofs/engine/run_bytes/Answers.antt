use Rattle.calvin_script.specs.KvOperations.{kv_grammar}
use Rattle.calvin_script.specs.StockOperations.{stock_grammar}
use Rattle.calvin_script.specs.OnceOperations.{once_grammar}
use Rattle.calvin_script.specs.Scripts.{contents}
use Rattle.calvin_sim.proofs.Runs.{kv_is, stock_is, once_is}
use Rattle.calvin_sim.proofs.Taken.{from_taken}
use Rattle.calvin_sim.proofs.engine.run_bytes.Goals as goal

pub run_script-requires : goal.run_script-requires
run_script-requires c =
    let bytes = c.args.bytes.items in
    let script = c.in-Kv.script in
    record { taken = from_taken kv_grammar bytes (contents script) (kv_is bytes c.in_ok-script.field-0 script c.in_ok-script.ensures c.in-Kv.is) }

pub returns-in_ok-world-in-Kv-clause-told : goal.returns-in_ok-world-in-Kv-clause-told
returns-in_ok-world-in-Kv-clause-told c =
    let bytes = c.args.bytes.items in
    let script = c.in-Kv.script in
    c.in_ok-world-in-Kv.ensures.run bytes (kv_is bytes c.in_ok-script.field-0 script c.in_ok-script.ensures c.in-Kv.is)

pub run_script-requires-in-Stock : goal.run_script-requires-in-Stock
run_script-requires-in-Stock c =
    let bytes = c.args.bytes.items in
    let script = c.in-Stock.script in
    record { taken = from_taken stock_grammar bytes (contents script) (stock_is bytes c.in_ok-script.field-0 script c.in_ok-script.ensures c.in-Stock.is) }

pub returns-in_ok-world-in-Stock-clause-told : goal.returns-in_ok-world-in-Stock-clause-told
returns-in_ok-world-in-Stock-clause-told c =
    let bytes = c.args.bytes.items in
    let script = c.in-Stock.script in
    c.in_ok-world-in-Stock.ensures.run bytes (stock_is bytes c.in_ok-script.field-0 script c.in_ok-script.ensures c.in-Stock.is)

pub run_script-requires-in-Once : goal.run_script-requires-in-Once
run_script-requires-in-Once c =
    let bytes = c.args.bytes.items in
    let script = c.in-Once.script in
    record { taken = from_taken once_grammar bytes (contents script) (once_is bytes c.in_ok-script.field-0 script c.in_ok-script.ensures c.in-Once.is) }

pub returns-in_ok-world-in-Once-clause-told : goal.returns-in_ok-world-in-Once-clause-told
returns-in_ok-world-in-Once-clause-told c =
    let bytes = c.args.bytes.items in
    let script = c.in-Once.script in
    c.in_ok-world-in-Once.ensures.run bytes (once_is bytes c.in_ok-script.field-0 script c.in_ok-script.ensures c.in-Once.is)
