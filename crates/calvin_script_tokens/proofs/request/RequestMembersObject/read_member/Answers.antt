use Rattle.std.proofs.Common.{◌≡◌, ◌^◌, true, codes, sym, ap, subst, ◌∙◌, arith}
use Rattle.serde_json.specs.Data.{put}
use Rattle.calvin_types.specs.declared.key_set.Sets.{Sets}
use Rattle.calvin_script.specs.Spelling.{below}
use Rattle.calvin_script.specs.KeyLists.{key, key_set}
use Rattle.calvin_script_tokens.specs.Gathered.{HoldsRequest}
use Rattle.calvin_script_tokens.specs.Names.{nameless}
use Rattle.calvin_script_tokens.proofs.Held.{member_read, client_held, own_number_held, op_held, attempt_held, reads_held, writes_held}
use Rattle.calvin_script_tokens.proofs.request.RequestMembersObject.read_member.Goals as goal

pub returns-then-is_same : goal.returns-then-is_same
returns-then-is_same g c found h =
    let G = g.Op.Operation.grammar in
    let s = c.in_ok-self.ensures in
    member_read (below (2 ^ 32)) c.in_ok-self.field-0 (HoldsRequest G) 121 0 found c.args.name.now (codes "client") c.args.reader.now c.u32_value.new.reader _ (c.is_same.ensures c.if-is_same.true) (omega arith) s
    (client_held G found s.piece c.args.self.now h c.in_ok-self.field-0 s.means)

pub returns-then-is_same-2 : goal.returns-then-is_same-2
returns-then-is_same-2 g c found h =
    let G = g.Op.Operation.grammar in
    let s = c.in_ok-self-2.ensures in
    member_read (below (2 ^ 32)) c.in_ok-self-2.field-0 (HoldsRequest G) 121 0 found c.args.name.now (codes "number") c.args.reader.now c.u32_value-then-is_same-2.new.reader _ (c.is_same-2.ensures c.if-is_same-2.true) (omega arith) s
    (own_number_held G found s.piece c.args.self.now h c.in_ok-self-2.field-0 s.means)

pub returns-then-is_same-3 : goal.returns-then-is_same-3
returns-then-is_same-3 g c found h =
    let G = g.Op.Operation.grammar in
    let s = c.in_ok-read_tokens.ensures in
    member_read (G.operation nameless) c.read_tokens.new.self (HoldsRequest G) 121 121 found c.args.name.now (codes "op") c.args.reader.now c.read_tokens.new._reader _ (c.is_same-3.ensures c.if-is_same-3.true) (omega arith) s
    (op_held G found s.piece c.args.self.now h c.read_tokens.new.self s.means)

pub returns-then-is_same-4 : goal.returns-then-is_same-4
returns-then-is_same-4 g c found h =
    let G = g.Op.Operation.grammar in
    let r = c.args.self.now in
    let s = c.in_ok-read_key_set.ensures in
    let sets : c.deref_mut.result.now ≡ r.declared = c.deref_mut.ensures.value ∙ c.in_ok-sets.ensures in
    let is : c.of.result ≡ record { reads = c.read_key_set.new.keys; writes = r.declared.writes } = c.of.ensures ∙ ap (λ (d : Sets). record { reads = c.read_key_set.new.keys; writes = d.writes }) sets in
    member_read (key_set key) c.read_key_set.new.keys (HoldsRequest G) 121 2 found c.args.name.now (codes "reads") c.args.reader.now c.read_key_set.new.reader _ (c.is_same-4.ensures c.if-is_same-4.true) (omega arith) s
    (subst (λ (d : Sets). HoldsRequest G (put (codes "reads") s.piece found) (record r { declared = d; seen = record r.seen { reads = true } })) (sym is) (reads_held G found s.piece r h c.read_key_set.new.keys s.means))

pub returns-then-is_same-5 : goal.returns-then-is_same-5
returns-then-is_same-5 g c found h =
    let G = g.Op.Operation.grammar in
    let r = c.args.self.now in
    let s = c.in_ok-read_key_set-2.ensures in
    let sets : c.deref_mut-then-is_same-5.result.now ≡ r.declared = c.deref_mut-then-is_same-5.ensures.value ∙ c.in_ok-sets-2.ensures in
    let is : c.of-then-is_same-5.result ≡ record { reads = r.declared.reads; writes = c.read_key_set-then-is_same-5.new.keys } = c.of-then-is_same-5.ensures ∙ ap (λ (d : Sets). record { reads = d.reads; writes = c.read_key_set-then-is_same-5.new.keys }) sets in
    member_read (key_set key) c.read_key_set-then-is_same-5.new.keys (HoldsRequest G) 121 2 found c.args.name.now (codes "writes") c.args.reader.now c.read_key_set-then-is_same-5.new.reader _ (c.is_same-5.ensures c.if-is_same-5.true) (omega arith) s
    (subst (λ (d : Sets). HoldsRequest G (put (codes "writes") s.piece found) (record r { declared = d; seen = record r.seen { writes = true } })) (sym is) (writes_held G found s.piece r h c.read_key_set-then-is_same-5.new.keys s.means))

pub returns-then-is_same-6 : goal.returns-then-is_same-6
returns-then-is_same-6 g c found h =
    let G = g.Op.Operation.grammar in
    let s = c.in_ok-self-3.ensures in
    member_read (below (2 ^ 8)) c.in_ok-self-3.field-0 (HoldsRequest G) 121 0 found c.args.name.now (codes "attempt") c.args.reader.now c.u8_value.new.reader _ (c.is_same-6.ensures c.if-is_same-6.true) (omega arith) s
    (attempt_held G found s.piece c.args.self.now h c.in_ok-self-3.field-0 s.means)
