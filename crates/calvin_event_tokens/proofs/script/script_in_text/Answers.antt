use Rattle.std.proofs.Common.{◌≡◌, [], arith, rules, IsUtf8}
use Rattle.json.specs.Lex.{tokens}
use Rattle.calvin_script_events.specs.EventScripts.{world_contents, world_script}
use Rattle.calvin_script_tokens.specs.Spelled.{Spells}
use Rattle.calvin_event_tokens.proofs.Whole.{script_read}
use Rattle.calvin_event_tokens.proofs.script.script_in_text.Goals as goal

pub returns : goal.returns
returns g c =
    let G = g.Op.Operation.grammar in
    let valid : IsUtf8 c.args.text.now = search rules in
    let all : Spells (world_script G) 125 (tokens c.args.text.now) (world_contents c.in_ok-script.script) c.read_script.new.reader = let read = c.in_ok-script.ensures in let start : c.in-Ok.reader ≡ tokens c.args.text.now = search rules in rw (← start) read in
    let over : c.read_script.new.reader ≡ [] = grind arith in
    script_read G c.args.text.now (world_contents c.in_ok-script.script) c.read_script.new.reader valid all over
