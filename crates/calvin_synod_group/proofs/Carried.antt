-- What the steps of a replica and the packets sent make of a group is what the definitions say.
use Rattle.std.proofs.Common.{◌≡◌, ◌<◌, ℕ, Bool, true, false, zero, suc, List, [], ◌∷◌, ◌++◌, map, length, get_or, set, inl, inr, refl, sym, ap, ◌∙◌, subst, Option, Some, None, Result, Ok, Err}
use Rattle.std.specs.Prelude.{slice_get}
use Rattle.std.specs.Option.{option_map}
use Rattle.std.proofs.lemmas.List.{append-nil, length-map, map-set, length-set, set-get_or}
use Rattle.std.proofs.lemmas.Option.{slice_get-map, slice_get_read, get_or_from_slice_get}
use Rattle.calvin_types.specs.declared.fault.Fault.{Fault}
use Rattle.calvin_types.specs.declared.fault.Fault.TheVariants.{OutOfMemory, NoNode, NoPacket}
use Rattle.calvin_types.specs.declared.place.Slot.{Slot}
use Rattle.calvin_synod.specs.declared.message.Message.{Message}
use Rattle.calvin_synod.specs.Cases.{message_grows, Replica, Letters, Silent, Deed, Refuses, Does, handle, propose, restart}
use Rattle.calvin_synod.specs.declared.mail.Mail.{Mail}
use Rattle.calvin_synod.specs.declared.mail.Mail.TheVariants as mail
use Rattle.calvin_synod.specs.Deeds.{MemberState, letters_of, Sends, Did}
use Rattle.calvin_synod.proofs.Growing.{answered_grows}
use Rattle.calvin_synod_group.specs.declared.packet.Packet.{Packet}
use Rattle.calvin_synod_group.specs.declared.event.GroupEvent.{GroupEvent}
use Rattle.calvin_synod_group.specs.declared.event.GroupEvent.TheVariants.{Propose, Deliver, Restart}
use Rattle.calvin_synod_group.specs.declared.event.Outcome.{Outcome}
use Rattle.calvin_synod_group.specs.declared.event.Outcome.TheVariants.{Done, Refused}
use Rattle.calvin_synod_group.specs.Groups.{GroupState, packets_of, outcome_of, carry_out, at_replica, deliver, happens, TakesEffect, packet_grows, grows, Step}
use Rattle.calvin_synod_group.specs.Deeds.{IsGroup, group_of, ended, Posted}

module _ {B : Type 0} where
  gives_effect : (given : Option (Slot × B)) → TakesEffect (outcome_of given)
  gives_effect None = tt
  gives_effect (Some g) = tt

  -- the event is a replica's deed
  abbrev pub IsDeedOf : GroupState B → GroupEvent B → ℕ → Deed B → Type 0
  IsDeedOf w event me deed = happens w event ≡ carry_out w me deed

  -- what the replica needs more memory for, the event does
  abbrev pub Needs : GroupState B → GroupEvent B → Bool → Type 0
  Needs w event needed = needed ≡ true → grows w event ≡ true

  -- no room, for a deed that would take effect
  out_of_memory : (w : GroupState B) (event : GroupEvent B) (me : ℕ) (x : Replica B) (letters : Letters B) (given : Option (Slot × B)) (fault : Fault) → IsDeedOf w event me (Does x letters given) → grows w event ≡ true → fault ≡ OutOfMemory → Step w event (Refused fault) w
  out_of_memory w event me x letters given fault e more f = inr (subst (λ (h : Outcome B × GroupState B). TakesEffect h.0) (sym e) (gives_effect given), more, ap (λ (k : Fault). Refused k) f, refl)

  -- refused before anything is sent
  pub ends_unsent : (w : GroupState B) (event : GroupEvent B) (me : ℕ) (deed : Deed B) (fault : Fault) (needed : Bool) → IsDeedOf w event me deed → Needs w event needed → Sends needed (Err fault) deed → Step w event (Refused fault) w
  ends_unsent w event me (Refuses f) fault needed e more s = inl (ap (λ (k : Fault). (Refused k, w)) s ∙ sym e)
  ends_unsent w event me (Does x letters given) fault needed e more s = out_of_memory w event me x letters given fault e (more s.0) s.1

  -- memory runs out where something would be sent
  pub ends_full : (w : GroupState B) (event : GroupEvent B) (me : ℕ) (deed : Deed B) (sent : Mail B) (fault : Fault) (needed : Bool) → IsDeedOf w event me deed → grows w event ≡ true → Sends needed (Ok sent) deed → fault ≡ OutOfMemory → Step w event (Refused fault) w
  ends_full w event me (Refuses f) sent fault needed e more s o = absurd s
  ends_full w event me (Does x letters given) sent fault needed e more s o = out_of_memory w event me x letters given fault e more o

  -- no room for what is sent, or for its copy
  pub did_not : (deed : Deed B) (sent : Mail B) (m : MemberState B) (fault : Fault) (told needed : Bool) → Sends told (Ok sent) deed → needed ≡ true → fault ≡ OutOfMemory → Did needed (Err fault) deed m m
  did_not (Refuses f) sent m fault told needed s more o = absurd s
  did_not (Does x letters given) sent m fault told needed s more o = (more, o, refl)

  -- the same of a message, which was to be answered
  pub did_not_take : (size from : ℕ) (message : Message B) (sent : Mail B) (m : MemberState B) (fault : Fault) (told : Bool) → Sends told (Ok sent) (handle size from message m.replica) → (letters_of sent ≡ Silent → ⊥) → fault ≡ OutOfMemory → Did (message_grows message) (Err fault) (handle size from message m.replica) m m
  did_not_take size from message sent m fault told s speaks o = did_not (handle size from message m.replica) sent m fault told (message_grows message) s (answered_grows told size from message m.replica sent s speaks) o

  -- a message whose copy is refused grows something
  pub copy_refused : (message : Message B) → (message_grows message ≡ false → false ≡ true) → message_grows message ≡ true
  copy_refused message refused = elim (message_grows message) as (λ b. (b ≡ false → false ≡ true) → b ≡ true) [ true ↦ (λ _. refl) | false ↦ (λ h. h refl) ] refused

  -- what is sent for a message is sent for its copy, by the same replica
  pub sends_copy : (members : List (MemberState B)) (i from : ℕ) (sent : Mail B) (message copy : Message B) (m n : MemberState B) → copy ≡ message → slice_get members i ≡ Some m → slice_get members i ≡ Some n
      → Sends (message_grows message) (Ok sent) (handle m.size from message m.replica) → Sends (message_grows copy) (Ok sent) (handle n.size from copy n.replica)
  sends_copy members i from sent message copy m n same there again s =
      let one : m ≡ n = cc in
      subst (λ (y : Message B × MemberState B). Sends (message_grows y.0) (Ok sent) (handle y.1.size from y.0 y.1.replica)) (λ k. (sym same k, one k)) s

  -- ---- the replicas

  each_set : (members : List (MemberState B)) (i : ℕ) (after : MemberState B) (Q : ℕ → MemberState B → Type 0) → ((j : ℕ) (x : MemberState B) → slice_get members j ≡ Some x → Q j x) → Q i after
      → (j : ℕ) (x : MemberState B) → slice_get (set members i after) j ≡ Some x → Q j x
  each_set [] i after Q each q j x e = each j x e
  each_set (y ∷ ys) zero after Q each q zero x e = let k : after ≡ x = cc in subst (Q 0) k q
  each_set (y ∷ ys) zero after Q each q (suc j) x e = each (suc j) x e
  each_set (y ∷ ys) (suc i) after Q each q zero x e = each zero x e
  each_set (y ∷ ys) (suc i) after Q each q (suc j) x e = each_set ys i after (λ k z. Q (suc k) z) (λ k z h. each (suc k) z h) q j x e

  -- a replica stays of its size and number
  pub stays_group : (size : ℕ) (members : List (MemberState B)) → IsGroup size members → (i : ℕ) (m after : MemberState B) → slice_get members i ≡ Some m → after.size ≡ m.size → after.me ≡ m.me → IsGroup size (set members i after)
  stays_group size members group i m after there s k = record {
    all_there = length-set members i after ∙ group.all_there;
    each = each_set members i after (λ j x. (x.size ≡ size) × (x.me ≡ j)) group.each (let own = group.each i m there in (s ∙ own.0, k ∙ own.1));
  }

  set_same : (members : List (MemberState B)) (i : ℕ) (m : MemberState B) → slice_get members i ≡ Some m → set members i m ≡ members
  set_same members i m there = subst (λ (y : MemberState B). set members i y ≡ members) (get_or_from_slice_get members i m m there) (set-get_or members i m)

  pub did_group : (size : ℕ) (members : List (MemberState B)) → IsGroup size members → (i : ℕ) (m after : MemberState B) → slice_get members i ≡ Some m → (deed : Deed B) (needed : Bool) (answer : Result (Option (Slot × B)) Fault) → Did needed answer deed m after → IsGroup size (set members i after)
  did_group size members group i m after there (Refuses f) needed (Ok given) d = absurd d
  did_group size members group i m after there (Refuses f) needed (Err fault) d = stays_group size members group i m after there (ap (λ (x : MemberState B). x.size) d.1) (ap (λ (x : MemberState B). x.me) d.1)
  did_group size members group i m after there (Does x letters given) needed (Ok gave) d = stays_group size members group i m after there (ap (λ (y : MemberState B). y.size) d.1) (ap (λ (y : MemberState B). y.me) d.1)
  did_group size members group i m after there (Does x letters given) needed (Err fault) d = stays_group size members group i m after there (ap (λ (y : MemberState B). y.size) d.2) (ap (λ (y : MemberState B). y.me) d.2)

  pub restarted_group : (size : ℕ) (members : List (MemberState B)) → IsGroup size members → (i : ℕ) (m after : MemberState B) → slice_get members i ≡ Some m → Did false (Ok None) (restart m.replica) m after → IsGroup size (set members i after)
  restarted_group size members group i m after there d = did_group size members group i m after there (restart m.replica) false (Ok None) d

  -- the packet that was looked up
  pub packet_there : (seen packets : List (Packet B)) (number : ℕ) (q : Packet B) → seen ≡ packets → number < length seen → q ≡ get_or seen number q → slice_get packets number ≡ Some q
  packet_there seen packets number q same within read = subst (λ (ps : List (Packet B)). slice_get ps number ≡ Some q) same (slice_get_read seen (length seen) number q refl within read)

  -- ---- how an event of a replica ends

  module _ (size : ℕ) (members : List (MemberState B)) (packets : List (Packet B)) (group : IsGroup size members) where
    abbrev w : GroupState B
    w = group_of members packets

    count : length w.replicas ≡ size
    count = length-map members (λ (m : MemberState B). m.replica) ∙ group.all_there

    replica_there : (i : ℕ) (m : MemberState B) → slice_get members i ≡ Some m → slice_get w.replicas i ≡ Some m.replica
    replica_there i m e = slice_get-map (λ (x : MemberState B). x.replica) members i ∙ ap (λ (o : Option (MemberState B)). option_map (λ (x : MemberState B). x.replica) o) e

    no_replica : (i : ℕ) → slice_get members i ≡ None → slice_get w.replicas i ≡ None
    no_replica i e = slice_get-map (λ (x : MemberState B). x.replica) members i ∙ ap (λ (o : Option (MemberState B)). option_map (λ (x : MemberState B). x.replica) o) e

    -- the step after the packets
    pub ends_sent : (event : GroupEvent B) (i : ℕ) (m after : MemberState B) → slice_get members i ≡ Some m → (deed : Deed B) → IsDeedOf w event i deed → (sent : Mail B) (told needed : Bool) → Sends told (Ok sent) deed → Needs w event needed
        → (answer : Result (Option (Slot × B)) Fault) → Did needed answer deed m after → (packets_after : List (Packet B)) → Posted packets size i sent answer packets_after
        → Step w event (ended answer) (group_of (set members i after) packets_after)
    ends_sent event i m after there (Refuses f) e sent told needed s more answer d ps p = absurd s
    ends_sent event i m after there (Does x letters given) e sent told needed s more (Err fault) d ps p =
        subst (λ (v : GroupState B). Step w event (Refused fault) v)
        (λ k. group_of ((sym (set_same members i m there) ∙ ap (λ (y : MemberState B). set members i y) (sym d.2)) k) (sym p k))
        (out_of_memory w event i x letters given fault e (more d.0) d.1)
    ends_sent event i m after there (Does x letters given) e sent told needed s more (Ok gave) d ps p =
        let replicas : map (λ (y : MemberState B). y.replica) (set members i after) ≡ set w.replicas i x = map-set (λ (y : MemberState B). y.replica) members i after ∙ ap (λ (y : MemberState B). set w.replicas i y.replica) d.1 in
        let posted : ps ≡ packets ++ packets_of (length w.replicas) i letters = p ∙ (λ k. packets ++ packets_of (sym count k) i (s k)) in
        inl ((λ k. (outcome_of (d.0 k), record { replicas = replicas k; packets = posted k })) ∙ sym e)

    -- ---- each event

    pub propose_is : (i : ℕ) (m : MemberState B) (slot : Slot) (batch : B) → slice_get members i ≡ Some m → IsDeedOf w (Propose i slot batch) i (propose m.me slot batch m.replica)
    propose_is i m slot batch there = ap (λ (o : Option (Replica B)). at_replica w i (propose i slot batch) o) (replica_there i m there) ∙ ap (λ (me : ℕ). carry_out w i (propose me slot batch m.replica)) (sym (group.each i m there).1)

    pub restart_is : (i : ℕ) (m : MemberState B) → slice_get members i ≡ Some m → IsDeedOf w (Restart i) i (restart m.replica)
    restart_is i m there = ap (λ (o : Option (Replica B)). at_replica w i restart o) (replica_there i m there)

    pub deliver_is : (number : ℕ) (p : Packet B) (m : MemberState B) → slice_get packets number ≡ Some p → slice_get members p.to ≡ Some m → IsDeedOf w (Deliver number) p.to (handle m.size p.from p.message m.replica)
    deliver_is number p m here there =
        ap (λ (o : Option (Packet B)). deliver w o) here
        ∙ ap (λ (o : Option (Replica B)). at_replica w p.to (handle (length w.replicas) p.from p.message) o) (replica_there p.to m there)
        ∙ ap (λ (n : ℕ). carry_out w p.to (handle n p.from p.message m.replica)) (count ∙ sym (group.each p.to m there).0)

    pub propose_nobody : (i : ℕ) (slot : Slot) (batch : B) → slice_get members i ≡ None → Step w (Propose i slot batch) (Refused NoNode) w
    propose_nobody i slot batch e = inl (sym (ap (λ (o : Option (Replica B)). at_replica w i (propose i slot batch) o) (no_replica i e)))

    pub restart_nobody : (i : ℕ) → slice_get members i ≡ None → Step w (Restart i) (Refused NoNode) w
    restart_nobody i e = inl (sym (ap (λ (o : Option (Replica B)). at_replica w i restart o) (no_replica i e)))

    pub deliver_nothing : (number : ℕ) → slice_get packets number ≡ None → Step w (Deliver number) (Refused NoPacket) w
    deliver_nothing number e = inl (sym (ap (λ (o : Option (Packet B)). deliver w o) e))

    pub deliver_nobody : (number : ℕ) (p : Packet B) → slice_get packets number ≡ Some p → slice_get members p.to ≡ None → Step w (Deliver number) (Refused NoNode) w
    deliver_nobody number p here e = inl (sym (ap (λ (o : Option (Packet B)). deliver w o) here ∙ ap (λ (o : Option (Replica B)). at_replica w p.to (handle (length w.replicas) p.from p.message) o) (no_replica p.to e)))

    -- of a delivery the packet's message tells
    delivery_needs : (number : ℕ) (q : Packet B) → slice_get packets number ≡ Some q → Needs w (Deliver number) (message_grows q.message)
    delivery_needs number q here more = ap packet_grows here ∙ more

    pub ends_restarted : (i : ℕ) (m after : MemberState B) → slice_get members i ≡ Some m → Did false (Ok None) (restart m.replica) m after → Step w (Restart i) Done (group_of (set members i after) packets)
    ends_restarted i m after there d = ends_sent (Restart i) i m after there (restart m.replica) (restart_is i m there) mail.Nothing false false refl (λ h. h) (Ok None) d packets (sym (append-nil packets))

    pub ends_proposed : (i : ℕ) (m n after : MemberState B) → slice_get members i ≡ Some m → slice_get members i ≡ Some n → (slot : Slot) (batch copy : B) → copy ≡ batch → (sent : Mail B) (told : Bool) → Sends told (Ok sent) (propose m.me slot batch m.replica)
        → (answer : Result (Option (Slot × B)) Fault) → Did true answer (propose n.me slot copy n.replica) n after → (packets_after : List (Packet B)) → Posted packets size i sent answer packets_after
        → Step w (Propose i slot batch) (ended answer) (group_of (set members i after) packets_after)
    ends_proposed i m n after there again slot batch copy same sent told s answer d packets_after p =
        let one : n ≡ m = cc in
        ends_sent (Propose i slot batch) i m after there (propose m.me slot batch m.replica) (propose_is i m slot batch there) sent told true s (λ _. refl) answer
        (subst (λ (y : B × MemberState B). Did true answer (propose y.1.me slot y.0 y.1.replica) y.1 after) (λ k. (same k, one k)) d) packets_after p

    pub ends_delivered : (number : ℕ) (q : Packet B) (m n after : MemberState B) → slice_get packets number ≡ Some q → slice_get members q.to ≡ Some m → slice_get members q.to ≡ Some n → (copy : Message B) → copy ≡ q.message → (sent : Mail B) (told : Bool) → Sends told (Ok sent) (handle m.size q.from q.message m.replica)
        → (answer : Result (Option (Slot × B)) Fault) → Did (message_grows copy) answer (handle n.size q.from copy n.replica) n after → (packets_after : List (Packet B)) → Posted packets size q.to sent answer packets_after
        → Step w (Deliver number) (ended answer) (group_of (set members q.to after) packets_after)
    ends_delivered number q m n after here there again copy same sent told s answer d packets_after p =
        let one : n ≡ m = cc in
        ends_sent (Deliver number) q.to m after there (handle m.size q.from q.message m.replica) (deliver_is number q m here there) sent told (message_grows q.message) s (delivery_needs number q here) answer
        (subst (λ (y : Message B × MemberState B). Did (message_grows y.0) answer (handle y.1.size q.from y.0 y.1.replica) y.1 after) (λ k. (same k, one k)) d) packets_after p

    -- ---- refused before anything is sent

    pub proposed_full : (i : ℕ) (m : MemberState B) → slice_get members i ≡ Some m → (slot : Slot) (batch : B) (sent : Mail B) (told : Bool) → Sends told (Ok sent) (propose m.me slot batch m.replica) → (fault : Fault) → fault ≡ OutOfMemory → Step w (Propose i slot batch) (Refused fault) w
    proposed_full i m there slot batch sent told s fault o = ends_full w (Propose i slot batch) i (propose m.me slot batch m.replica) sent fault told (propose_is i m slot batch there) refl s o

    pub proposed_unsent : (i : ℕ) (m : MemberState B) → slice_get members i ≡ Some m → (slot : Slot) (batch : B) (fault : Fault) (told : Bool) → Sends told (Err fault) (propose m.me slot batch m.replica) → Step w (Propose i slot batch) (Refused fault) w
    proposed_unsent i m there slot batch fault told s = ends_unsent w (Propose i slot batch) i (propose m.me slot batch m.replica) fault told (propose_is i m slot batch there) (λ _. refl) s

    pub delivered_full : (number : ℕ) (q : Packet B) (m : MemberState B) → slice_get packets number ≡ Some q → slice_get members q.to ≡ Some m → (sent : Mail B) (told : Bool) → Sends told (Ok sent) (handle m.size q.from q.message m.replica) → (fault : Fault) → fault ≡ OutOfMemory → message_grows q.message ≡ true → Step w (Deliver number) (Refused fault) w
    delivered_full number q m here there sent told s fault o more = ends_full w (Deliver number) q.to (handle m.size q.from q.message m.replica) sent fault told (deliver_is number q m here there) (delivery_needs number q here more) s o

    pub delivered_unsent : (number : ℕ) (q : Packet B) (m : MemberState B) → slice_get packets number ≡ Some q → slice_get members q.to ≡ Some m → (fault : Fault) → Sends (message_grows q.message) (Err fault) (handle m.size q.from q.message m.replica) → Step w (Deliver number) (Refused fault) w
    delivered_unsent number q m here there fault s = ends_unsent w (Deliver number) q.to (handle m.size q.from q.message m.replica) fault (message_grows q.message) (deliver_is number q m here there) (delivery_needs number q here) s
