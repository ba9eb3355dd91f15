-- One member more of a request, of a batch or of a script.
use Rattle.std.proofs.Common.{◌≡◌, ◌≤◌, ◌^◌, ℕ, List, Vec, Global, true, Option, Some, option_map, map, codes, refl, ap, ◌∙◌}
use Rattle.json.specs.Token.{Token}
use Rattle.serde_json.specs.Data.{Data, Members, put}
use Rattle.serde_json.specs.Find.{as_str}
use Rattle.serde_json.proofs.Views.{get_member-put}
use Rattle.calvin_types.specs.declared.key.Key.{Key}
use Rattle.calvin_script.specs.Spelling.{below, between, list, optional, where_given}
use Rattle.calvin_script.specs.KeyLists.{key, key_set}
use Rattle.calvin_script.specs.Grammar.{Grammar}
use Rattle.calvin_script.specs.declared.contents.Request.{Request}
use Rattle.calvin_script.specs.declared.contents.Epoch.{Epoch}
use Rattle.calvin_script.specs.Requests.{request_names, request}
use Rattle.calvin_script.specs.Scripts.{all_listed, batch_names, batch, script_names}
use Rattle.calvin_script_tokens.specs.declared.batch.BatchMembers.{BatchMembers}
use Rattle.calvin_script_tokens.specs.declared.request.RequestMembers.{RequestMembers}
use Rattle.calvin_script_tokens.specs.declared.script.ScriptMembers.{ScriptMembers}
use Rattle.calvin_script_tokens.specs.Names.{nameless}
use Rattle.calvin_script_tokens.specs.Gathered.{HoldsRequest, HoldsBatch, HoldsScript}
use Rattle.calvin_script_tokens.specs.Spelled.{Spells, MemberRead}
use Rattle.calvin_script_tokens.proofs.Found.{named_put, found_other, spelled_same, spelled_other}
use Rattle.calvin_script_tokens.proofs.Steps.{deeper}

-- a member was read, where what is gathered holds with it
pub member_read : {A B : Type 0} (f : Data → Option B) (y : B) (holds : Members → A → Type 0) (deep small : ℕ) (found : Members) (name wanted : List ℕ) (ts rest : List Token) (x : A)
    → name ≡ wanted → small ≤ deep → (s : Spells f small ts y rest) → holds (put wanted s.piece found) x → MemberRead holds deep found name ts x rest
member_read f y holds deep small found name wanted ts rest x is le s h = rw is (record { piece = s.piece; reads = deeper small deep ts rest s.piece le s.reads; held = h })

module _ {Args : Type 0} (grammar : Grammar Args) (found : Members) (d : Data) where
  module _ (r : RequestMembers Args) (h : HoldsRequest grammar found r) where
    pub client_held : (x : ℕ) → (below (2 ^ 32)) d ≡ Some x → HoldsRequest grammar (put (codes "client") d found) (record r { id = record { client = x; number = r.id.number }; seen = record r.seen { client = true } })
    client_held x means = record {
      client = spelled_same (codes "client") d found (below (2 ^ 32)) x means;
      own_number = spelled_other (codes "client") d found (below (2 ^ 32)) (codes "number") _ refl h.own_number;
      op = spelled_other (codes "client") d found (grammar.operation nameless) (codes "op") _ refl h.op;
      attempt = ap (optional 1 (below (2 ^ 8))) (found_other (codes "client") d found (codes "attempt") refl) ∙ h.attempt;
      reads = spelled_other (codes "client") d found (key_set key) (codes "reads") _ refl h.reads;
      writes = spelled_other (codes "client") d found (key_set key) (codes "writes") _ refl h.writes;
      named = named_put request_names (codes "client") d found refl h.named;
    }

    pub own_number_held : (x : ℕ) → (below (2 ^ 32)) d ≡ Some x → HoldsRequest grammar (put (codes "number") d found) (record r { id = record { client = r.id.client; number = x }; seen = record r.seen { number = true } })
    own_number_held x means = record {
      client = spelled_other (codes "number") d found (below (2 ^ 32)) (codes "client") _ refl h.client;
      own_number = spelled_same (codes "number") d found (below (2 ^ 32)) x means;
      op = spelled_other (codes "number") d found (grammar.operation nameless) (codes "op") _ refl h.op;
      attempt = ap (optional 1 (below (2 ^ 8))) (found_other (codes "number") d found (codes "attempt") refl) ∙ h.attempt;
      reads = spelled_other (codes "number") d found (key_set key) (codes "reads") _ refl h.reads;
      writes = spelled_other (codes "number") d found (key_set key) (codes "writes") _ refl h.writes;
      named = named_put request_names (codes "number") d found refl h.named;
    }

    pub op_held : (x : Args) → (grammar.operation nameless) d ≡ Some x → HoldsRequest grammar (put (codes "op") d found) (record r { args = x; seen = record r.seen { op = true } })
    op_held x means = record {
      client = spelled_other (codes "op") d found (below (2 ^ 32)) (codes "client") _ refl h.client;
      own_number = spelled_other (codes "op") d found (below (2 ^ 32)) (codes "number") _ refl h.own_number;
      op = spelled_same (codes "op") d found (grammar.operation nameless) x means;
      attempt = ap (optional 1 (below (2 ^ 8))) (found_other (codes "op") d found (codes "attempt") refl) ∙ h.attempt;
      reads = spelled_other (codes "op") d found (key_set key) (codes "reads") _ refl h.reads;
      writes = spelled_other (codes "op") d found (key_set key) (codes "writes") _ refl h.writes;
      named = named_put request_names (codes "op") d found refl h.named;
    }

    pub attempt_held : (x : ℕ) → (below (2 ^ 8)) d ≡ Some x → HoldsRequest grammar (put (codes "attempt") d found) (record r { attempt = x })
    attempt_held x means = record {
      client = spelled_other (codes "attempt") d found (below (2 ^ 32)) (codes "client") _ refl h.client;
      own_number = spelled_other (codes "attempt") d found (below (2 ^ 32)) (codes "number") _ refl h.own_number;
      op = spelled_other (codes "attempt") d found (grammar.operation nameless) (codes "op") _ refl h.op;
      attempt = ap (optional 1 (below (2 ^ 8))) (get_member-put (codes "attempt") d found) ∙ means;
      reads = spelled_other (codes "attempt") d found (key_set key) (codes "reads") _ refl h.reads;
      writes = spelled_other (codes "attempt") d found (key_set key) (codes "writes") _ refl h.writes;
      named = named_put request_names (codes "attempt") d found refl h.named;
    }

    pub reads_held : (x : List Key) → (key_set key) d ≡ Some x → HoldsRequest grammar (put (codes "reads") d found) (record r { declared = record { reads = x; writes = r.declared.writes }; seen = record r.seen { reads = true } })
    reads_held x means = record {
      client = spelled_other (codes "reads") d found (below (2 ^ 32)) (codes "client") _ refl h.client;
      own_number = spelled_other (codes "reads") d found (below (2 ^ 32)) (codes "number") _ refl h.own_number;
      op = spelled_other (codes "reads") d found (grammar.operation nameless) (codes "op") _ refl h.op;
      attempt = ap (optional 1 (below (2 ^ 8))) (found_other (codes "reads") d found (codes "attempt") refl) ∙ h.attempt;
      reads = spelled_same (codes "reads") d found (key_set key) x means;
      writes = spelled_other (codes "reads") d found (key_set key) (codes "writes") _ refl h.writes;
      named = named_put request_names (codes "reads") d found refl h.named;
    }

    pub writes_held : (x : List Key) → (key_set key) d ≡ Some x → HoldsRequest grammar (put (codes "writes") d found) (record r { declared = record { reads = r.declared.reads; writes = x }; seen = record r.seen { writes = true } })
    writes_held x means = record {
      client = spelled_other (codes "writes") d found (below (2 ^ 32)) (codes "client") _ refl h.client;
      own_number = spelled_other (codes "writes") d found (below (2 ^ 32)) (codes "number") _ refl h.own_number;
      op = spelled_other (codes "writes") d found (grammar.operation nameless) (codes "op") _ refl h.op;
      attempt = ap (optional 1 (below (2 ^ 8))) (found_other (codes "writes") d found (codes "attempt") refl) ∙ h.attempt;
      reads = spelled_other (codes "writes") d found (key_set key) (codes "reads") _ refl h.reads;
      writes = spelled_same (codes "writes") d found (key_set key) x means;
      named = named_put request_names (codes "writes") d found refl h.named;
    }

  module _ (b : BatchMembers (Request Args)) (h : HoldsBatch grammar found b) where
    pub group_held : (x : ℕ) → below (2 ^ 8) d ≡ Some x → HoldsBatch grammar (put (codes "group") d found) (record b { group = Some x })
    group_held x means = record {
      group = spelled_same (codes "group") d found (below (2 ^ 8)) x means;
      requests = spelled_other (codes "group") d found (list (request grammar)) (codes "txns") _ refl h.requests;
      named = named_put batch_names (codes "group") d found refl h.named;
    }

    pub requests_held : (x : Vec (Request Args) Global) → list (request grammar) d ≡ Some x.items → HoldsBatch grammar (put (codes "txns") d found) (record b { requests = Some x })
    requests_held x means = record {
      group = spelled_other (codes "txns") d found (below (2 ^ 8)) (codes "group") _ refl h.group;
      requests = spelled_same (codes "txns") d found (list (request grammar)) x.items means;
      named = named_put batch_names (codes "txns") d found refl h.named;
    }

  module _ (s : ScriptMembers (Request Args)) (h : HoldsScript grammar found s) where
    pub partitions_held : (x : ℕ) → between 1 16 d ≡ Some x → HoldsScript grammar (put (codes "partitions") d found) (record s { partitions = Some x })
    partitions_held x means = record {
      partitions = spelled_same (codes "partitions") d found (between 1 16) x means;
      app = spelled_other (codes "partitions") d found as_str (codes "app") _ refl h.app;
      woven_from = ap (where_given (below (2 ^ 48))) (found_other (codes "partitions") d found (codes "woven_from") refl) ∙ h.woven_from;
      epochs = spelled_other (codes "partitions") d found (list (list (batch grammar))) (codes "epochs") _ refl h.epochs;
      named = named_put script_names (codes "partitions") d found refl h.named;
    }

    pub app_held : as_str d ≡ Some grammar.app_name → HoldsScript grammar (put (codes "app") d found) (record s { has_app = true })
    app_held means = record {
      partitions = spelled_other (codes "app") d found (between 1 16) (codes "partitions") _ refl h.partitions;
      app = spelled_same (codes "app") d found as_str grammar.app_name means;
      woven_from = ap (where_given (below (2 ^ 48))) (found_other (codes "app") d found (codes "woven_from") refl) ∙ h.woven_from;
      epochs = spelled_other (codes "app") d found (list (list (batch grammar))) (codes "epochs") _ refl h.epochs;
      named = named_put script_names (codes "app") d found refl h.named;
    }

    pub epochs_held : (x : Vec (Epoch (Request Args)) Global) → list (list (batch grammar)) d ≡ Some (map all_listed x.items) → HoldsScript grammar (put (codes "epochs") d found) (record s { epochs = Some x })
    epochs_held x means = record {
      partitions = spelled_other (codes "epochs") d found (between 1 16) (codes "partitions") _ refl h.partitions;
      app = spelled_other (codes "epochs") d found as_str (codes "app") _ refl h.app;
      woven_from = ap (where_given (below (2 ^ 48))) (found_other (codes "epochs") d found (codes "woven_from") refl) ∙ h.woven_from;
      epochs = spelled_same (codes "epochs") d found (list (list (batch grammar))) (map all_listed x.items) means;
      named = named_put script_names (codes "epochs") d found refl h.named;
    }

    pub woven_held : (x : ℕ) → below (2 ^ 48) d ≡ Some x → HoldsScript grammar (put (codes "woven_from") d found) (record s { woven_from = Some x })
    woven_held x means = record {
      partitions = spelled_other (codes "woven_from") d found (between 1 16) (codes "partitions") _ refl h.partitions;
      app = spelled_other (codes "woven_from") d found as_str (codes "app") _ refl h.app;
      woven_from = ap (where_given (below (2 ^ 48))) (get_member-put (codes "woven_from") d found) ∙ ap (option_map Some) means;
      epochs = spelled_other (codes "woven_from") d found (list (list (batch grammar))) (codes "epochs") _ refl h.epochs;
      named = named_put script_names (codes "woven_from") d found refl h.named;
    }
