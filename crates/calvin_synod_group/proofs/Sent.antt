-- The packets of one message to all, one after another.
use Rattle.std.proofs.Common.{◌≡◌, ℕ, ◌+◌, List, [], ◌∷◌, ◌++◌, arith, sym, ap, ◌∙◌, append_assoc}
use Rattle.std.proofs.lemmas.List.FromFn.{map-range_with_len_more}
use Rattle.calvin_synod.specs.declared.message.Message.{Message}
use Rattle.calvin_synod.specs.Cases.{ToAll}
use Rattle.calvin_synod_group.specs.declared.packet.Packet.{Packet}
use Rattle.calvin_synod_group.specs.Groups.{packets_of}

pub one_more_sent : {B : Type 0} (before : List (Packet B)) (from : ℕ) (message copy : Message B) (n : ℕ) (now after : List (Packet B)) → now ≡ before ++ packets_of n from (ToAll message) → copy ≡ message → after ≡ now ++ record { from = from; to = n; message = copy } ∷ []
    → after ≡ before ++ packets_of (n + 1) from (ToAll message)
one_more_sent before from message copy n now after so_far same pushed =
    pushed
    ∙ (λ i. so_far i ++ record { from = from; to = n; message = same i } ∷ [])
    ∙ append_assoc before (packets_of n from (ToAll message)) (record { from = from; to = n; message = message } ∷ [])
    ∙ ap (λ ps. before ++ ps) (sym (map-range_with_len_more (λ to. record { from = from; to = to; message = message }) 0 n n (omega arith)))
