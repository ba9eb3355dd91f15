-- An object is read member by member.
use Rattle.std.proofs.Common.{◌≡◌, ℕ, suc, List, ◌∷◌}
use Rattle.json.specs.Token.{Token}
use Rattle.serde_json.specs.Data.{Members, no_members, put}
use Rattle.calvin_script_tokens.specs.Spelled.{MemberRead, ObjectRead}
use Rattle.calvin_script_tokens.proofs.Insides.{ReadsMembers}
use Rattle.calvin_script_tokens.proofs.Steps.{members_end, members_more, object_reads}

module _ {A : Type 0} (holds : Members → A → Type 0) (deep : ℕ) (start : List Token) where
  -- what was gathered is what some members spell, and these are at the front of what is read from here on
  pub record Onward (ts : List Token) (x : A) : Type 0 where
    pub found : Members
    pub held : holds found x
    pub onward : (ms : Members) (end : List Token) → ReadsMembers deep ts found ms end → ReadsMembers deep start no_members ms end

  pub onward_none : (x : A) → holds no_members x → Onward start x
  onward_none x h = record { found = no_members; held = h; onward = λ ms end r. r }

  pub onward_more : (name : List ℕ) (ts inner rest : List Token) (x y : A) → ts ≡ Token.key name ∷ inner → (o : Onward ts x) → MemberRead holds deep o.found name inner y rest → Onward rest y
  onward_more name ts inner rest x y is o read = record {
    found = put name read.piece o.found;
    held = read.held;
    onward = λ ms end r. o.onward ms end (rw is (members_more deep name inner rest end read.piece o.found ms read.reads r));
  }

  pub onward_end : (before ts rest : List Token) (x : A) → before ≡ Token.begin_object ∷ start → ts ≡ Token.end_object ∷ rest → Onward ts x → ObjectRead holds (suc deep) before x rest
  onward_end before ts rest x opened closed o = record {
    members = o.found;
    reads = rw opened (object_reads deep start rest o.found (o.onward o.found rest (rw closed (members_end deep rest o.found))));
    held = o.held;
  }
