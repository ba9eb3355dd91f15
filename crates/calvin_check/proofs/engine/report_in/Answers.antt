use Rattle.std.proofs.Common.{Ok, ap, ◌∙◌}
use Rattle.calvin_script_events.specs.EventScripts.{world_contents}
use Rattle.calvin_event_tokens.specs.EventReading.{OfKv, OfStock, OfOnce, event_contents}
use Rattle.calvin_check.proofs.Told.{told_read}
use Rattle.calvin_check.proofs.engine.report_in.Goals as goal

pub returns-in-Kv : goal.returns-in-Kv
returns-in-Kv c =
    told_read (λ r. r.text.items) (λ r. r.is_expected) c.args.bytes.items (OfKv (world_contents c.in-Kv.script)) c.report_of.result
    (c.in_ok-script.ensures ∙ ap (λ s. Ok (event_contents s)) c.in-Kv.is) c.report_of.ensures.told c.report_of.ensures.only

pub returns-in-Stock : goal.returns-in-Stock
returns-in-Stock c =
    told_read (λ r. r.text.items) (λ r. r.is_expected) c.args.bytes.items (OfStock (world_contents c.in-Stock.script)) c.report_of-in-Stock.result
    (c.in_ok-script.ensures ∙ ap (λ s. Ok (event_contents s)) c.in-Stock.is) c.report_of-in-Stock.ensures.told c.report_of-in-Stock.ensures.only

pub returns-in-Once : goal.returns-in-Once
returns-in-Once c =
    told_read (λ r. r.text.items) (λ r. r.is_expected) c.args.bytes.items (OfOnce (world_contents c.in-Once.script)) c.report_of-in-Once.result
    (c.in_ok-script.ensures ∙ ap (λ s. Ok (event_contents s)) c.in-Once.is) c.report_of-in-Once.ensures.told c.report_of-in-Once.ensures.only
