use Rattle.std.proofs.Common.{rules, ◌≡◌, true, false, refl}
use Rattle.std.specs.Prelude.{bytes_eq}
use Rattle.calvin_journal.proofs.Headings.{other_heading, whole_front, same_heading}
use Rattle.calvin_journal.proofs.opening.headed.Goals as goal

pub returns-then-ne-clause-no_journal : goal.returns-then-ne-clause-no_journal
returns-then-ne-clause-no_journal g c =
    let reader = c.args.reader in
    let no : bytes_eq c.args.line.now c.args.heading.now ≡ false = search rules in
    (refl, other_heading c.args.line.now c.args.heading.now c.requires.one_line (g.L.Log.told reader.log) reader.done c.requires.handed no)

pub invariant_of-result : goal.invariant_of-result
invariant_of-result g c =
    let reader = c.args.reader in
    whole_front c.args.line.now c.args.heading.now c.requires.one_line (g.L.Log.told reader.log) reader.done c.requires.handed

pub returns-clause-ok : goal.returns-clause-ok
returns-clause-ok g c =
    let reader = c.args.reader in
    let yes : bytes_eq c.args.line.now c.args.heading.now ≡ true = search rules in
    same_heading c.args.line.now c.args.heading.now c.requires.one_line (g.L.Log.told reader.log) reader.done c.requires.handed yes
