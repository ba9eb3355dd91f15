use Rattle.std.proofs.Common.{◌^◌, codes, arith}
use Rattle.std.proofs.lemmas.List.{map-id}
use Rattle.calvin_script.specs.Requests.{request}
use Rattle.calvin_script.specs.Spelling.{below, list}
use Rattle.calvin_script_tokens.specs.Gathered.{HoldsBatch}
use Rattle.calvin_script_tokens.specs.Spelled.{Spells}
use Rattle.calvin_script_tokens.proofs.Held.{member_read, group_held, requests_held}
use Rattle.calvin_script_tokens.proofs.batch.BatchMembersKeptObject.read_member.Goals as goal

pub returns-then-is_same : goal.returns-then-is_same
returns-then-is_same g c found h =
    let G = g.Op.Operation.grammar in
    let s = c.in_ok-u8_value.ensures in
    member_read (below (2 ^ 8)) c.in_ok-u8_value.field-0 (HoldsBatch G) 123 0 found c.args.name.now (codes "group") c.args.reader.now c.u8_value.new.reader _ (c.is_same.ensures c.if-is_same.true) (omega arith) s
    (group_held G found s.piece c.args.self.now h c.in_ok-u8_value.field-0 s.means)

pub returns-then-is_same-2 : goal.returns-then-is_same-2
returns-then-is_same-2 g c found h =
    let G = g.Op.Operation.grammar in
    let all = c.in_ok-list_of.field-0 in
    let s : Spells (list (request G)) 123 c.args.reader.now all.items c.list_of.new.reader = let read = c.in_ok-list_of.ensures in rw (map-id all.items) at read in
    member_read (list (request G)) all.items (HoldsBatch G) 123 123 found c.args.name.now (codes "txns") c.args.reader.now c.list_of.new.reader _ (c.is_same-2.ensures c.if-is_same-2.true) (omega arith) s
    (requests_held G found s.piece c.args.self.now h all s.means)
