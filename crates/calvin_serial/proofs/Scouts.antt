-- The requests of an epoch with their sets, one after another.
use Rattle.std.proofs.Common.{◌≡◌, List, [], ◌∷◌, ◌++◌, Result, Ok, Err, refl, sym, ap, ◌∙◌, append_assoc, append-nil}
use Rattle.calvin_types.specs.declared.fault.Fault.{Fault}
use Rattle.calvin_types.specs.declared.place.Place.{Place}
use Rattle.calvin_types.specs.declared.txn.Txn.{Txn}
use Rattle.calvin_types.specs.Orders.{Order}
use Rattle.calvin_app.specs.Rows.{Rows}
use Rattle.calvin_app.specs.Meaning.{Meaning}
use Rattle.calvin_script.specs.declared.contents.Request.{Request}
use Rattle.calvin_script.specs.Reading.{and_then}
use Rattle.calvin_serial.specs.Scouting.{scouted_txn, scouted_epoch}

module _ {Args : Type 0} where
  -- what comes after these requests
  abbrev pub behind : Order Args → Result (Order Args) Fault → Result (Order Args) Fault
  behind placed rest = and_then rest (λ later. Ok (placed ++ later))

  pub behind_none : (rest : Result (Order Args) Fault) → behind [] rest ≡ rest
  behind_none (Ok later) = refl
  behind_none (Err fault) = refl

  behind_one : (placed : Order Args) (p : Place × Txn Args) (rest : Result (Order Args) Fault) → behind placed (and_then rest (λ later. Ok (p ∷ later))) ≡ behind (placed ++ p ∷ []) rest
  behind_one placed p (Ok later) = ap Ok (sym (append_assoc placed (p ∷ []) later))
  behind_one placed p (Err fault) = refl

module _ {Args Row Reply : Type 0} (m : Meaning Args Row Reply) (rows : Rows Row) (placed more : Order Args) (all : Result (Order Args) Fault) where
  -- one request more
  pub one_scouted : (requests rest : List (Place × Request Args)) (p : Place) (r : Request Args) (t : Txn Args) → requests ≡ (p, r) ∷ rest → scouted_txn m rows r ≡ Ok t
      → more ≡ placed ++ (p, t) ∷ [] → behind placed (scouted_epoch m rows requests) ≡ all → behind more (scouted_epoch m rows rest) ≡ all
  one_scouted requests rest p r t here scouted longer so =
      ap (λ order. behind order (scouted_epoch m rows rest)) longer
      ∙ sym (behind_one placed (p, t) (scouted_epoch m rows rest))
      ∙ ap (λ txn. behind placed (and_then txn (λ u. and_then (scouted_epoch m rows rest) (λ later. Ok ((p, u) ∷ later))))) (sym scouted)
      ∙ ap (λ rs. behind placed (scouted_epoch m rows rs)) (sym here) ∙ so

  pub all_scouted : (requests : List (Place × Request Args)) → requests ≡ [] → behind placed (scouted_epoch m rows requests) ≡ all → all ≡ Ok placed
  all_scouted requests none so = sym so ∙ ap (λ rs. behind placed (scouted_epoch m rows rs)) none ∙ ap Ok (append-nil placed)
