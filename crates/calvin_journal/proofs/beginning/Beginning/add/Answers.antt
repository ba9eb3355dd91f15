use Rattle.std.proofs.Common.{[], ◌∷◌, ◌++◌, ◌∙◌, sym, ap, subst, option_map}
use Rattle.std.specs.Prelude.{IfSome}
use Rattle.calvin_journal_log.specs.Disks.{Leads, Appended}
use Rattle.calvin_journal.specs.Journals.{IsGathered}
use Rattle.calvin_journal.specs.Readings.{Standing}
use Rattle.calvin_journal.proofs.Beginnings.{lines_with, line_gathered, line_added, piece_written, same_lines}
use Rattle.calvin_journal.proofs.beginning.Beginning.add.Goals as goal

pub invariant_of-result : goal.invariant_of-result
invariant_of-result g c =
    let begun = c.self.inside in
    line_gathered c.args.line.now c.requires.one_line begun.gathered.items c.put_line.new.text.items c.in-Ok.ensures (g.L.Log.told begun.log) c.self.invariant

pub returns-then-len-lt-PIECE-clause-ok : goal.returns-then-len-lt-PIECE-clause-ok
returns-then-len-lt-PIECE-clause-ok g c =
    let begun = c.self.inside in
    let line = c.args.line.now in
    let lines = line_added line c.requires.one_line begun.gathered.items c.put_line.new.text.items c.in-Ok.ensures (g.L.Log.told begun.log) c.self.invariant in
    ap (λ w. record { lines = w; failures = g.L.Log.failures begun.log }) lines
    ∙ ap (λ (s : Standing). record { lines = option_map (λ ls. ls ++ line ∷ []) s.lines; failures = s.failures }) c.self.view_is

pub invariant_of-result-in-Ok-append : goal.invariant_of-result-in-Ok-append
invariant_of-result-in-Ok-append g c =
    let begun = c.self.inside in
    let bytes = c.put_line.new.text.items in
    let held = line_gathered c.args.line.now c.requires.one_line begun.gathered.items bytes c.in-Ok.ensures (g.L.Log.told begun.log) c.self.invariant in
    let leads = subst (λ w. Leads (Appended w) (g.L.Log.told begun.log) (g.L.Log.told c.append.new.self)) c.deref.ensures.value c.in-Ok-append.ensures.whole in
    subst (λ w. IfSome (g.L.Log.told c.append.new.self) (IsGathered w)) (sym c.clear.ensures.items)
    (piece_written bytes (g.L.Log.told begun.log) (g.L.Log.told c.append.new.self) held leads)

pub returns-in-Ok-append-clause-ok : goal.returns-in-Ok-append-clause-ok
returns-in-Ok-append-clause-ok g c =
    let begun = c.self.inside in
    let line = c.args.line.now in
    let bytes = c.put_line.new.text.items in
    let told = g.L.Log.told begun.log in
    let new = g.L.Log.told c.append.new.self in
    let leads = subst (λ w. Leads (Appended w) told new) c.deref.ensures.value c.in-Ok-append.ensures.whole in
    let lines = ap (λ w. lines_with w new) c.clear.ensures.items ∙ same_lines bytes told new leads
    ∙ line_added line c.requires.one_line begun.gathered.items bytes c.in-Ok.ensures told c.self.invariant in
    ap (λ w. record { lines = w; failures = g.L.Log.failures c.append.new.self }) lines
    ∙ ap (λ n. record { lines = option_map (λ ls. ls ++ line ∷ []) (lines_with begun.gathered.items told); failures = n }) c.in-Ok-append.ensures.counts_no_success
    ∙ ap (λ (s : Standing). record { lines = option_map (λ ls. ls ++ line ∷ []) s.lines; failures = s.failures }) c.self.view_is
