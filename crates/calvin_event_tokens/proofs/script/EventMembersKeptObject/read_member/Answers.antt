use Rattle.std.proofs.Common.{◌≡◌, ◌^◌, ◌∷◌, map, codes, string_bytes, ap, ◌∙◌, arith}
use Rattle.json.specs.Token.{Token}
use Rattle.serde_json.specs.Find.{as_str}
use Rattle.calvin_script.specs.Spelling.{below, between, list}
use Rattle.calvin_script_events.specs.EventForms.{event_of, event}
use Rattle.calvin_script_tokens.specs.Spelled.{Spells}
use Rattle.calvin_script_tokens.proofs.Held.{member_read}
use Rattle.calvin_script_tokens.proofs.Steps.{string_spelled}
use Rattle.calvin_event_tokens.specs.Members.{HoldsEvents}
use Rattle.calvin_event_tokens.proofs.Held.{partitions_held, replicas_held, app_held, events_held, delay_held, woven_from_held, expect_held}
use Rattle.calvin_event_tokens.proofs.script.EventMembersKeptObject.read_member.Goals as goal

pub returns-then-is_same : goal.returns-then-is_same
returns-then-is_same g c found h =
    let G = g.Op.Operation.grammar in
    let s = c.in_ok-between.ensures in
    member_read (between 1 16) c.in_ok-between.field-0 (HoldsEvents G) 124 0 found c.args.name.now (codes "partitions") c.args.reader.now c.between.new.reader _ (c.is_same.ensures c.if-is_same.true) (omega arith) s
    (partitions_held G found s.piece c.args.self.now h c.in_ok-between.field-0 s.means)

pub returns-then-is_same-2 : goal.returns-then-is_same-2
returns-then-is_same-2 g c found h =
    let G = g.Op.Operation.grammar in
    let s = c.in_ok-between-2.ensures in
    member_read (between 1 7) c.in_ok-between-2.field-0 (HoldsEvents G) 124 0 found c.args.name.now (codes "replicas") c.args.reader.now c.between-then-is_same-2.new.reader _ (c.is_same-2.ensures c.if-is_same-2.true) (omega arith) s
    (replicas_held G found s.piece c.args.self.now h c.in_ok-between-2.field-0 s.means)

pub returns-then-is_same-3 : goal.returns-then-is_same-3
returns-then-is_same-3 g c found h =
    let G = g.Op.Operation.grammar in
    let wanted : c.in_ok-string_at.field-0.now ≡ G.app_name = c.is_same-then-is_same-3.ensures c.if-not-is_same.false ∙ c.app_name.ensures in
    let s : Spells as_str 0 c.args.reader.now G.app_name c.string_at.new.reader = string_spelled G.app_name c.args.reader.now c.string_at.new.reader (c.in_ok-string_at.ensures ∙ ap (λ text. Token.string text ∷ c.string_at.new.reader) wanted) in
    member_read as_str G.app_name (HoldsEvents G) 124 0 found c.args.name.now (codes "app") c.args.reader.now c.string_at.new.reader _ (c.is_same-3.ensures c.if-is_same-3.true) (omega arith) s
    (app_held G found s.piece c.args.self.now h s.means)

pub returns-then-is_same-4 : goal.returns-then-is_same-4
returns-then-is_same-4 g c found h =
    let G = g.Op.Operation.grammar in
    let all = c.in_ok-events_of.field-0 in
    let s = c.in_ok-events_of.ensures in
    member_read (list (event G)) (map event_of all.items) (HoldsEvents G) 124 124 found c.args.name.now (codes "events") c.args.reader.now c.events_of.new.reader _ (c.is_same-4.ensures c.if-is_same-4.true) (omega arith) s
    (events_held G found s.piece c.args.self.now h all s.means)

pub returns-then-is_same-5 : goal.returns-then-is_same-5
returns-then-is_same-5 g c found h =
    let G = g.Op.Operation.grammar in
    let s = c.in_ok-self.ensures in
    member_read (between 0 16) c.in_ok-self.field-0 (HoldsEvents G) 124 0 found c.args.name.now (codes "delay") c.args.reader.now c.between-then-is_same-5.new.reader _ (c.is_same-5.ensures c.if-is_same-5.true) (omega arith) s
    (delay_held G found s.piece c.args.self.now h c.in_ok-self.field-0 s.means)

pub returns-then-is_same-6 : goal.returns-then-is_same-6
returns-then-is_same-6 g c found h =
    let G = g.Op.Operation.grammar in
    let s = c.in_ok-epoch_value.ensures in
    member_read (below (2 ^ 48)) c.in_ok-epoch_value.field-0 (HoldsEvents G) 124 0 found c.args.name.now (codes "woven_from") c.args.reader.now c.epoch_value.new.reader _ (c.is_same-6.ensures c.if-is_same-6.true) (omega arith) s
    (woven_from_held G found s.piece c.args.self.now h c.in_ok-epoch_value.field-0 s.means)

pub returns-then-is_same-7 : goal.returns-then-is_same-7
returns-then-is_same-7 g c found h =
    let G = g.Op.Operation.grammar in
    let all = c.in_ok-list_of.field-0 in
    let s = c.in_ok-list_of.ensures in
    member_read (list as_str) (map string_bytes all.items) (HoldsEvents G) 124 1 found c.args.name.now (codes "expect") c.args.reader.now c.list_of.new.reader _ (c.is_same-7.ensures c.if-is_same-7.true) (omega arith) s
    (expect_held G found s.piece c.args.self.now h all s.means)
