use Rattle.calvin_app.specs.Kv.{kv}
use Rattle.calvin_script.specs.KvOperations.{kv_grammar}
use Rattle.calvin_script.specs.OnceOperations.{once_stock, once_grammar}
use Rattle.calvin_script.specs.Scripts.{contents}
use Rattle.calvin_script.specs.StockOperations.{stock_grammar}
use Rattle.calvin_sim.proofs.Runs.{kv_is, stock_is, once_is}
use Rattle.calvin_stock.specs.Stock.{stock}
use Rattle.calvin_text.specs.Texts.{kv_text, stock_text}
use Rattle.calvin_run.proofs.Ends.{kv_taken, stock_taken, once_taken, is_ran}
use Rattle.calvin_run.proofs.engine.run_bytes.Goals as goal

pub run_script-requires-clause-taken : goal.run_script-requires-clause-taken
run_script-requires-clause-taken g c κs within = kv_taken c.args.bytes.items c.in_ok-script.field-0 c.in-Kv.script c.in_ok-script.ensures c.in-Kv.is

pub returns-in_ok-book-in-Kv-clause-told : goal.returns-in_ok-book-in-Kv-clause-told
returns-in_ok-book-in-Kv-clause-told g c =
    let bytes = c.args.bytes.items in
    let script = c.in-Kv.script in
    let ran = c.in_ok-book-in-Kv.ensures in
    is_ran kv kv_grammar kv_text c.args.team.now.replicas c.args.team.now.wide bytes (contents script) (kv_is bytes c.in_ok-script.field-0 script c.in_ok-script.ensures c.in-Kv.is)
    c.in_ok-book-in-Kv.book c.in_ok-book-in-Kv.text.items ran.config ran.begins ran.told

pub run_script-requires-in-Stock-clause-taken : goal.run_script-requires-in-Stock-clause-taken
run_script-requires-in-Stock-clause-taken g c κs within = stock_taken c.args.bytes.items c.in_ok-script.field-0 c.in-Stock.script c.in_ok-script.ensures c.in-Stock.is

pub returns-in_ok-book-in-Stock-clause-told : goal.returns-in_ok-book-in-Stock-clause-told
returns-in_ok-book-in-Stock-clause-told g c =
    let bytes = c.args.bytes.items in
    let script = c.in-Stock.script in
    let ran = c.in_ok-book-in-Stock.ensures in
    is_ran stock stock_grammar stock_text c.args.team.now.replicas c.args.team.now.wide bytes (contents script) (stock_is bytes c.in_ok-script.field-0 script c.in_ok-script.ensures c.in-Stock.is)
    c.in_ok-book-in-Stock.book c.in_ok-book-in-Stock.text.items ran.config ran.begins ran.told

pub run_script-requires-in-Once-clause-taken : goal.run_script-requires-in-Once-clause-taken
run_script-requires-in-Once-clause-taken g c κs within = once_taken c.args.bytes.items c.in_ok-script.field-0 c.in-Once.script c.in_ok-script.ensures c.in-Once.is

pub returns-in_ok-book-in-Once-clause-told : goal.returns-in_ok-book-in-Once-clause-told
returns-in_ok-book-in-Once-clause-told g c =
    let bytes = c.args.bytes.items in
    let script = c.in-Once.script in
    let ran = c.in_ok-book-in-Once.ensures in
    is_ran once_stock once_grammar stock_text c.args.team.now.replicas c.args.team.now.wide bytes (contents script) (once_is bytes c.in_ok-script.field-0 script c.in_ok-script.ensures c.in-Once.is)
    c.in_ok-book-in-Once.book c.in_ok-book-in-Once.text.items ran.config ran.begins ran.told
