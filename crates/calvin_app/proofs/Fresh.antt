-- The sets that a request needs of all rows are those that it needs of its view.
use Rattle.std.proofs.Common.{◌≡◌, ℕ, Bool, true, false, if◌then◌else◌, List, [], ◌∷◌, refl, sym, ◌∙◌, ap}
use Rattle.std.proofs.lemmas.Bool.{eq-eqb}
use Rattle.calvin_types.specs.declared.key.Key.{Key}
use Rattle.calvin_types.specs.Exact.{both}
use Rattle.calvin_types.specs.declared.key_set.Sets.{Sets}
use Rattle.calvin_types.specs.declared.txn.Txn.{Txn}
use Rattle.calvin_app.specs.Rows.{Rows}
use Rattle.calvin_app.specs.Meaning.{Meaning, IsLawful}
use Rattle.calvin_app.specs.Rows.{view}
use Rattle.std.specs.FinMap.{empty}
use Rattle.calvin_app.specs.declared.answer.Answer.TheVariants as answer
use Rattle.calvin_app.specs.Serial.{is_current, answer_on, writes_on}
use Rattle.calvin_types.specs.SameKeys.{same_keys, same_sets}

pub same_keys-self : (ks : List Key) → same_keys ks ks ≡ true
same_keys-self [] = refl
same_keys-self (k ∷ ks) = both _ _ (both _ _ (eq-eqb k.table k.table refl) (eq-eqb k.id k.id refl)) (same_keys-self ks)

pub same_sets-self : (s : Sets) → same_sets s s ≡ true
same_sets-self s = both _ _ (same_keys-self s.reads) (same_keys-self s.writes)

-- a request that needs its declared sets of all rows needs them of its view
pub is_current-needed : {Args Row Reply : Type 0} {dependent : Args → Bool} {most top : ℕ} (m : Meaning Args Row Reply) → IsLawful m dependent most top → (txn : Txn Args) (rows : Rows Row) → m.needs txn.args rows ≡ txn.sets → is_current m txn (view rows txn.sets.reads) ≡ true
is_current-needed m lawful txn rows e =
    ap (λ (s : Sets). same_sets (m.needs txn.args (view rows s.reads)) s) (sym e)
    ∙ ap (λ (s : Sets). same_sets s (m.needs txn.args rows)) (lawful.sets_follow_from_their_reads txn.args rows)
    ∙ same_sets-self (m.needs txn.args rows)

-- so does one that isn't dependent, where it has the sets that it needs where no row is known
pub is_current-first : {Args Row Reply : Type 0} {dependent : Args → Bool} {most top : ℕ} (m : Meaning Args Row Reply) → IsLawful m dependent most top → (txn : Txn Args) (rows : Rows Row) → dependent txn.args ≡ false → m.needs txn.args empty ≡ txn.sets → is_current m txn (view rows txn.sets.reads) ≡ true
is_current-first m lawful txn rows fixed first = is_current-needed m lawful txn rows (lawful.independent_sets_are_fixed txn.args rows empty fixed ∙ first)

-- a request with the sets that it needs of its view is run
module _ {Args Row Reply : Type 0} (m : Meaning Args Row Reply) (txn : Txn Args) (v : Rows Row) (current : is_current m txn v ≡ true) where
  pub answer_on-current : answer_on m txn v ≡ answer.Reply (m.outcome txn.args v).0
  unfolding answer_on
  answer_on-current = ap (λ b. if b then answer.Reply (m.outcome txn.args v).0 else answer.Changed) current

  pub writes_on-current : writes_on m txn v ≡ (m.outcome txn.args v).1
  unfolding writes_on
  writes_on-current = ap (λ b. if b then (m.outcome txn.args v).1 else []) current
