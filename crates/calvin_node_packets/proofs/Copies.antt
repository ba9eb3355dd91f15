-- Packets that are sent one after another.
use Rattle.std.proofs.Common.{◌≡◌, ℕ, Bool, true, false, ◌+◌, List, [], ◌∷◌, ◌++◌, take, Some, slice_get, map, arith, sym, ap, ◌∙◌, append_assoc}
use Rattle.std.proofs.lemmas.List.FromFn.{map-range_with_len_more}
use Rattle.std.proofs.lemmas.List.{map-append}
use Rattle.std.specs.List.{filter, range_with_len}
use Rattle.calvin_types.proofs.Fews.{take_at}
use Rattle.calvin_types.specs.declared.key_set.Sets.{Sets}
use Rattle.calvin_types.specs.declared.txn.Txn.{Txn}
use Rattle.calvin_types.specs.Participants.{site, has_local_key}
use Rattle.calvin_lock.specs.Local.{local_sets}
use Rattle.calvin_sched.proofs.Partitions.{one_more, none_more}
use Rattle.calvin_types.specs.declared.place.NodeId.{NodeId}
use Rattle.calvin_node_packets.specs.declared.packet.Address.TheVariants.{AtNode}
use Rattle.calvin_node_packets.specs.declared.packet.Content.{Content}
use Rattle.calvin_node_packets.specs.declared.packet.Content.TheVariants.{Warm}
use Rattle.calvin_node_packets.specs.declared.packet.Packet.{Packet}
use Rattle.calvin_node_packets.specs.Packets.{to_each, to_replicas, warm_packets}

module _ {Args Row Reply : Type 0} where
  -- to one replica more
  pub one_more_sent : (before : List (Packet Args Row Reply)) (from : NodeId) (content : Content Args Row Reply) (n : ℕ) (now after : List (Packet Args Row Reply)) → now ≡ before ++ to_replicas n from content
      → after ≡ now ++ record { from = from; to = AtNode (record { replica = n; partition = from.partition }); content = content } ∷ [] → after ≡ before ++ to_replicas (n + 1) from content
  one_more_sent before from content n now after so_far pushed =
      pushed
      ∙ (λ i. so_far i ++ record { from = from; to = AtNode (record { replica = n; partition = from.partition }); content = content } ∷ [])
      ∙ append_assoc before (to_replicas n from content) (record { from = from; to = AtNode (record { replica = n; partition = from.partition }); content = content } ∷ [])
      ∙ ap (λ ps. before ++ ps) (sym (map-range_with_len_more (λ r. record { from = from; to = AtNode (record { replica = r; partition = from.partition }); content = content }) 0 n n (omega arith)))

  -- to one partition more
  pub each_more_sent : (before : List (Packet Args Row Reply)) (from : NodeId) (replica : ℕ) (content : Content Args Row Reply) (partitions : List ℕ) (i p : ℕ) (now after : List (Packet Args Row Reply)) → slice_get partitions i ≡ Some p
      → now ≡ before ++ to_each from replica content (take i partitions) → after ≡ now ++ record { from = from; to = AtNode (record { replica = replica; partition = p }); content = content } ∷ []
      → after ≡ before ++ to_each from replica content (take (i + 1) partitions)
  each_more_sent before from replica content partitions i p now after at so_far pushed =
      pushed
      ∙ (λ j. so_far j ++ record { from = from; to = AtNode (record { replica = replica; partition = p }); content = content } ∷ [])
      ∙ append_assoc before (to_each from replica content (take i partitions)) (record { from = from; to = AtNode (record { replica = replica; partition = p }); content = content } ∷ [])
      ∙ ap (λ ps. before ++ ps) (sym (one_more partitions i at))
    where
      send : ℕ → Packet Args Row Reply
      send p = record { from = from; to = AtNode (record { replica = replica; partition = p }); content = content }

      one_more : (ps : List ℕ) (i : ℕ) → slice_get ps i ≡ Some p → map send (take (i + 1) ps) ≡ map send (take i ps) ++ send p ∷ []
      one_more ps i at = ap (λ qs. map send qs) (take_at ps i p at) ∙ map-append send (take i ps) (p ∷ [])

  -- a partition more is told to warm rows, or it stores no key of the request
  module _ (before : List (Packet Args Row Reply)) (parts : ℕ) (me : NodeId) (t : Txn Args) (p : ℕ) (now : List (Packet Args Row Reply)) where
    abbrev stores : ℕ → Bool
    stores q = has_local_key (site parts q) t

    abbrev told : ℕ → List (Packet Args Row Reply)
    told n = before ++ warm_packets parts me t (filter stores (range_with_len 0 n))

    pub warm_more : now ≡ told p → stores p ≡ true → (sets : Sets) → sets ≡ local_sets (site parts p) t.sets → (after : List (Packet Args Row Reply))
        → after ≡ now ++ record { from = me; to = AtNode (record { replica = me.replica; partition = p }); content = Warm sets } ∷ [] → after ≡ told (p + 1)
    warm_more so_far here sets is after pushed =
        pushed
        ∙ (λ i. so_far i ++ record { from = me; to = AtNode (record { replica = me.replica; partition = p }); content = Warm (is i) } ∷ [])
        ∙ append_assoc before (warm_packets parts me t (filter stores (range_with_len 0 p))) (warm_packets parts me t (p ∷ []))
        ∙ ap (λ ps. before ++ ps) (sym (ap (λ qs. warm_packets parts me t qs) (one_more stores p here) ∙ map-append send (filter stores (range_with_len 0 p)) (p ∷ [])))
      where
        send : ℕ → Packet Args Row Reply
        send q = record { from = me; to = AtNode (record { replica = me.replica; partition = q }); content = Warm (local_sets (site parts q) t.sets) }

    pub warm_same : now ≡ told p → stores p ≡ false → now ≡ told (p + 1)
    warm_same so_far away = so_far ∙ ap (λ qs. before ++ warm_packets parts me t qs) (sym (none_more stores p away))
