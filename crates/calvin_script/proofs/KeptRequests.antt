-- A request whose sets weren't declared follows from its operation.
use Rattle.std.proofs.Common.{◌≡◌, ℕ, false, Option, Some, None, is_some, refl, ap, subst}
use Rattle.serde_json.specs.Data.{Data}
use Rattle.calvin_types.specs.declared.place.RequestId.{RequestId}
use Rattle.calvin_types.specs.declared.txn.Txn.{Txn}
use Rattle.calvin_script.specs.Spelling.{◌>>=◌}
use Rattle.calvin_script.specs.Grammar.{Grammar}
use Rattle.calvin_script.specs.Requests.{sets_of, named}

abbrev pick : {A : Type 0} → A → Option A → A
pick x None = x
pick x (Some y) = y

module _ {Args : Type 0} (grammar : Grammar Args) (id : RequestId) (attempt : ℕ) where
  first_at : (o : Option Args) (writes : Option Data) (t : Txn Args)
      → (do
        args ← o
        sets ← sets_of grammar args None writes
        Some (record { id = id; attempt = attempt; args = args; sets = sets })) ≡ Some t
      → t.sets ≡ grammar.first_needs t.args
  unfolding sets_of
  first_at None writes t e = absurd (cc)
  first_at (Some args) (Some w) t e = absurd (cc)
  first_at (Some args) None t e = subst (λ (x : Txn Args). x.sets ≡ grammar.first_needs x.args) (ap (pick t) e) refl

  pub undeclared : (op : Data) (reads writes : Option Data) (t : Txn Args) → is_some reads ≡ false → named grammar id attempt op reads writes ≡ Some t → t.sets ≡ grammar.first_needs t.args
  unfolding named
  undeclared op None writes t none e = first_at (grammar.operation id op) writes t e
  undeclared op (Some reads) writes t none e = absurd (cc)
