-- An epoch that lists nothing has no requests.
use Rattle.std.proofs.Common.{◌≡◌, ℕ, ◌<◌, List, [], ◌∷◌, map, length, get_or, sym, ap, ◌∙◌, refl, arith}
use Rattle.std.proofs.lemmas.List.{get_or-map}
use Rattle.calvin_order.specs.Configs.{merged}
use Rattle.calvin_order.proofs.Joining.{joined_none, length-merged}
use Rattle.calvin_script.specs.declared.contents.Request.{Request}
use Rattle.calvin_script.specs.declared.contents.Epoch.{Epoch}
use Rattle.calvin_script.specs.declared.contents.Script.{Script}
use Rattle.calvin_script.specs.Scripts.{all_listed, requests_of, contents, batch_at}
use Rattle.calvin_serial.specs.Scouting.{serial_config}

none_mapped : {X Y : Type 0} (f : X → Y) (xs : List X) → length xs ≡ 0 → map f xs ≡ []
none_mapped f [] none = refl
none_mapped f (x ∷ xs) none = absurd (omega (arith, none))

nothing : {X : Type 0} (xs : List X) → length xs ≡ 0 → xs ≡ []
nothing [] none = refl
nothing (x ∷ xs) none = absurd (omega (arith, none))

pub none_listed : {Args : Type 0} (script : Script (Request Args)) (e : ℕ) (epoch : Epoch (Request Args)) → e < length script.epochs.items → epoch ≡ get_or script.epochs.items e epoch
    → length epoch.batches.items ≡ 0 → merged (serial_config (contents script)) (batch_at (contents script)) e ≡ []
none_listed script e epoch within here none =
    let listed = get_or-map all_listed script.epochs.items e epoch [] within ∙ ap all_listed (sym here) ∙ none_mapped _ epoch.batches.items none in
    let joins = joined_none (batch_at (contents script)) e script.partitions (λ h _. ap (λ batches. map (λ r. r.txn) (requests_of h batches)) listed) in
    nothing _ (length-merged (serial_config (contents script)) (batch_at (contents script)) e ∙ ap length joins)
