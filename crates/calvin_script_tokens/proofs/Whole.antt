-- Requests, batches and scripts, from what was gathered of their members.
use Rattle.std.proofs.Common.{◌≡◌, ◌^◌, ℕ, List, [], Some, Ok, true, false, option_map, map, codes, refl, ◌∙◌, arith, IsUtf8}
use Rattle.std.specs.Prelude.{bytes_eq}
use Rattle.std.proofs.lemmas.Str.{is_utf8-from_IsUtf8}
use Rattle.std.proofs.lemmas.Slice.Eq.{bytes_eq-Decides}
use Rattle.json.specs.Token.{Token}
use Rattle.json.specs.Lex.{tokens}
use Rattle.json.specs.Json.{value}
use Rattle.serde_json.specs.Data.{Data, Members, object}
use Rattle.serde_json.specs.Find.{get_member, as_str}
use Rattle.serde_json.specs.Read.{read}
use Rattle.calvin_types.specs.declared.key_set.Sets.{Sets}
use Rattle.calvin_script.specs.Spelling.{below, between, list}
use Rattle.calvin_script.specs.KeyLists.{key, key_set}
use Rattle.calvin_script.specs.Grammar.{Grammar}
use Rattle.calvin_script.specs.declared.contents.Request.{Request}
use Rattle.calvin_script.specs.Requests.{request, request_of, named, sets_of, id_of}
use Rattle.calvin_script.specs.Scripts.{Listed, Contents, batch, batch_of, script, script_of, all_listed}
use Rattle.calvin_script.specs.Reading.{json, script_from}
use Rattle.calvin_script_tokens.specs.declared.batch.BatchMembers.{BatchMembers}
use Rattle.calvin_script_tokens.specs.declared.request.RequestMembers.{RequestMembers}
use Rattle.calvin_script_tokens.specs.declared.script.ScriptMembers.{ScriptMembers}
use Rattle.calvin_script_tokens.specs.Names.{nameless}
use Rattle.calvin_script_tokens.specs.Gathered.{HoldsRequest, HoldsBatch, HoldsScript}
use Rattle.calvin_script_tokens.specs.Spelled.{Spells}
use Rattle.calvin_script_tokens.proofs.Found.{there, missing}
use Rattle.calvin_script_tokens.proofs.Turns.{whole_read}

module _ {Args : Type 0} (grammar : Grammar Args) where
  -- ---- requests

  module _ (found : Members) (r : RequestMembers Args) (args : Args) (h : HoldsRequest grammar found r)
      (client : r.seen.client ≡ true) (own_number : r.seen.number ≡ true) (op : r.seen.op ≡ true)
      (renamed : (d : Data) → grammar.operation nameless d ≡ Some r.args → grammar.operation r.id d ≡ Some args) where
    -- with the sets that the operation needs where no row is known
    pub without_sets : r.seen.reads ≡ false → r.seen.writes ≡ false
        → request grammar (object found) ≡ Some (record { txn = record { id = r.id; attempt = r.attempt; args = args; sets = grammar.first_needs args }; is_declared = false })
    unfolding request request_of named sets_of id_of
    without_sets no_reads no_writes =
        let c = there (below (2 ^ 32)) (get_member (codes "client") found) r.id.client (rw client at h.client) in
        let n = there (below (2 ^ 32)) (get_member (codes "number") found) r.id.number (rw own_number at h.own_number) in
        let o = there (grammar.operation nameless) (get_member (codes "op") found) r.args (rw op at h.op) in
        let reads = missing (key_set key) (get_member (codes "reads") found) (rw no_reads at h.reads) in
        let writes = missing (key_set key) (get_member (codes "writes") found) (rw no_writes at h.writes) in
        rw (h.named, c.1, n.1, o.1, h.attempt, c.2, n.2, renamed o.0 o.2, reads, writes) refl

    -- with the sets that were declared
    pub with_sets : (sets : Sets) → r.seen.reads ≡ true → r.seen.writes ≡ true → grammar.completed args r.declared ≡ Some sets
        → request grammar (object found) ≡ Some (record { txn = record { id = r.id; attempt = r.attempt; args = args; sets = sets }; is_declared = true })
    unfolding request request_of named sets_of id_of
    with_sets sets some_reads some_writes whole =
        let c = there (below (2 ^ 32)) (get_member (codes "client") found) r.id.client (rw client at h.client) in
        let n = there (below (2 ^ 32)) (get_member (codes "number") found) r.id.number (rw own_number at h.own_number) in
        let o = there (grammar.operation nameless) (get_member (codes "op") found) r.args (rw op at h.op) in
        let reads = there (key_set key) (get_member (codes "reads") found) r.declared.reads (rw some_reads at h.reads) in
        let writes = there (key_set key) (get_member (codes "writes") found) r.declared.writes (rw some_writes at h.writes) in
        rw (h.named, c.1, n.1, o.1, h.attempt, c.2, n.2, renamed o.0 o.2, reads.1, writes.1, reads.2, writes.2, whole) refl

  -- ---- batches and scripts

  pub batch_spelled : (found : Members) (m : BatchMembers (Request Args)) (group : ℕ) (requests : List (Request Args)) (b : Listed Args) → HoldsBatch grammar found m
      → option_map Some m.group ≡ Some (Some group) → option_map (λ v. Some v.items) m.requests ≡ Some (Some requests)
      → batch_of group requests ≡ Some b → batch grammar (object found) ≡ Some b
  unfolding batch
  batch_spelled found m group requests b h a r whole =
      let g = there (below (2 ^ 8)) (get_member (codes "group") found) group (h.group ∙ a) in
      let t = there (list (request grammar)) (get_member (codes "txns") found) requests (h.requests ∙ r) in
      rw (h.named, g.1, t.1, g.2, t.2) whole

  pub script_spelled : (found : Members) (m : ScriptMembers (Request Args)) (partitions : ℕ) (epochs : List (List (Listed Args))) (s : Contents Args) → HoldsScript grammar found m → m.has_app ≡ true
      → option_map Some m.partitions ≡ Some (Some partitions) → option_map (λ v. Some (map all_listed v.items)) m.epochs ≡ Some (Some epochs)
      → script_of partitions m.woven_from epochs ≡ Some s → script grammar (object found) ≡ Some s
  unfolding script
  script_spelled found m partitions epochs s h app p e whole =
      let a = there as_str (get_member (codes "app") found) grammar.app_name (rw app at h.app) in
      let n = there (between 1 16) (get_member (codes "partitions") found) partitions (h.partitions ∙ p) in
      let l = there (list (list (batch grammar))) (get_member (codes "epochs") found) epochs (h.epochs ∙ e) in
      let same : bytes_eq grammar.app_name grammar.app_name ≡ true = (bytes_eq-Decides grammar.app_name grammar.app_name).1 refl in
      rw (h.named, n.1, a.1, l.1, n.2, a.2, h.woven_from, l.2, same) whole

  pub script_read : (bytes : List ℕ) (x : Contents Args) (rest : List Token) → IsUtf8 bytes → Spells (script grammar) 127 (tokens bytes) x rest → rest ≡ [] → script_from grammar bytes ≡ Ok x
  unfolding script_from json
  script_read bytes x rest u s none =
      let whole : read bytes ≡ Some s.piece = whole_read (value 127 (tokens bytes)) s.piece (rw none at (s.reads.at 127 (omega arith))) in
      rw (is_utf8-from_IsUtf8 bytes u, whole, s.means) refl
