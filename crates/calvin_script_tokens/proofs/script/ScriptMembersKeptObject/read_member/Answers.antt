use Rattle.std.proofs.Common.{◌≡◌, ◌^◌, ◌∷◌, map, codes, ap, ◌∙◌, arith}
use Rattle.json.specs.Token.{Token}
use Rattle.serde_json.specs.Find.{as_str}
use Rattle.calvin_script.specs.Spelling.{below, between, list}
use Rattle.calvin_script.specs.Scripts.{all_listed, batch}
use Rattle.calvin_script_tokens.specs.Gathered.{HoldsScript}
use Rattle.calvin_script_tokens.specs.Spelled.{Spells}
use Rattle.calvin_script_tokens.proofs.Held.{member_read, partitions_held, app_held, epochs_held, woven_held}
use Rattle.calvin_script_tokens.proofs.Steps.{string_spelled}
use Rattle.calvin_script_tokens.proofs.script.ScriptMembersKeptObject.read_member.Goals as goal

pub returns-then-is_same : goal.returns-then-is_same
returns-then-is_same g c found h =
    let G = g.Op.Operation.grammar in
    let s = c.in_ok-between.ensures in
    member_read (between 1 16) c.in_ok-between.field-0 (HoldsScript G) 126 0 found c.args.name.now (codes "partitions") c.args.reader.now c.between.new.reader _ (c.is_same.ensures c.if-is_same.true) (omega arith) s
    (partitions_held G found s.piece c.args.self.now h c.in_ok-between.field-0 s.means)

pub returns-then-is_same-2 : goal.returns-then-is_same-2
returns-then-is_same-2 g c found h =
    let G = g.Op.Operation.grammar in
    let wanted : c.in_ok-string_at.field-0.now ≡ G.app_name = c.is_same-then-is_same-2.ensures c.if-not-is_same.false ∙ c.app_name.ensures in
    let s : Spells as_str 0 c.args.reader.now G.app_name c.string_at.new.reader = string_spelled G.app_name c.args.reader.now c.string_at.new.reader (c.in_ok-string_at.ensures ∙ ap (λ text. Token.string text ∷ c.string_at.new.reader) wanted) in
    member_read as_str G.app_name (HoldsScript G) 126 0 found c.args.name.now (codes "app") c.args.reader.now c.string_at.new.reader _ (c.is_same-2.ensures c.if-is_same-2.true) (omega arith) s
    (app_held G found s.piece c.args.self.now h s.means)

pub returns-then-is_same-3 : goal.returns-then-is_same-3
returns-then-is_same-3 g c found h =
    let G = g.Op.Operation.grammar in
    let all = c.in_ok-list_of.field-0 in
    let s = c.in_ok-list_of.ensures in
    member_read (list (list (batch G))) (map all_listed all.items) (HoldsScript G) 126 126 found c.args.name.now (codes "epochs") c.args.reader.now c.list_of.new.reader _ (c.is_same-3.ensures c.if-is_same-3.true) (omega arith) s
    (epochs_held G found s.piece c.args.self.now h all s.means)

pub returns-then-is_same-4 : goal.returns-then-is_same-4
returns-then-is_same-4 g c found h =
    let G = g.Op.Operation.grammar in
    let s = c.in_ok-epoch_value.ensures in
    member_read (below (2 ^ 48)) c.in_ok-epoch_value.field-0 (HoldsScript G) 126 0 found c.args.name.now (codes "woven_from") c.args.reader.now c.epoch_value.new.reader _ (c.is_same-4.ensures c.if-is_same-4.true) (omega arith) s
    (woven_held G found s.piece c.args.self.now h c.in_ok-epoch_value.field-0 s.means)
