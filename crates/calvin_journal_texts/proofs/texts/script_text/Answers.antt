use Rattle.std.proofs.Common.{rules, ◌≡◌, ◌∙◌, ap}
use Rattle.serde_json.specs.Read.{read}
use Rattle.calvin_journal_texts.specs.Texts.{items_of, script_text}
use Rattle.calvin_journal_texts.specs.Trees.{script_json}
use Rattle.calvin_journal_texts.proofs.Written.{read-printed, script_printed}
use Rattle.calvin_journal_texts.proofs.texts.script_text.Goals as goal

pub returns-clause-json : goal.returns-clause-json
returns-clause-json c = λ js is.
    let text : c.push_script.new.text.items ≡ script_text c.args.partitions c.args.app.now (items_of c.args.epochs.now) = search rules in
    text ∙ script_printed c.args.partitions c.args.app.now js c.requires.plain (items_of c.args.epochs.now) is

pub returns-clause-reads : goal.returns-clause-reads
returns-clause-reads c = λ js is numbers shallow.
    let text : c.push_script.new.text.items ≡ script_text c.args.partitions c.args.app.now (items_of c.args.epochs.now) = search rules in
    ap read (text ∙ script_printed c.args.partitions c.args.app.now js c.requires.plain (items_of c.args.epochs.now) is) ∙ read-printed (script_json c.args.partitions c.args.app.now js) numbers shallow
