-- Packets found by their senders' lists.
--     named_there      the name of the node at a node's place
--     none_listed      lists of no packets
--     listed_here, listed_nowhere      one packet more, of a node with a list, and of one without
--     find      what is found, and that nothing is where nothing is found
--     take_more, take_sender      the senders of the packets up to the next one
use Rattle.std.proofs.Common.{◌≡◌, ◌≢◌, ◌⊎◌, ℕ, zero, suc, ◌+◌, ◌*◌, ◌<◌, Bool, true, false, cond, List, [], ◌∷◌, ◌++◌, length, take, Option, Some, None, MatchOption, Result, Ok, Err, ◌≤◌, inl, inr, refl, sym, ap, subst, ◌∙◌, arith}
use Rattle.std.specs.Prelude.{OnOk, slice_get, slice_set}
use Rattle.std.specs.Option.{option_map}
use Rattle.std.proofs.lemmas.Bool.{cases_eq, cases_lt}
use Rattle.std.proofs.lemmas.List.{append-nil, length-set}
use Rattle.std.proofs.lemmas.Option.{none-some, slice_get_within}
use Rattle.std.proofs.lemmas.Nat.{div-add-mod', div-mul-add, mod-mul-add}
use Rattle.std.proofs.Math.Nat.{mod-lt}
use Rattle.calvin_types.specs.declared.place.NodeId.{NodeId}
use Rattle.calvin_node_packets.specs.Packets.{same_node}
use Rattle.calvin_bench.proofs.Lists.{set_here, set_other, get_split, get_only}
use Rattle.calvin_world.specs.declared.naming.PacketName.{PacketName}
use Rattle.calvin_node_packets.specs.declared.packet.Packet.{Packet}
use Rattle.calvin_histories.specs.Positions.{senders_of, positions, AreListed, IsListed, IsAt}
use Rattle.calvin_world.specs.Worlds.{index_of}
use Rattle.calvin_world.proofs.Named.{packet_from}
use Rattle.calvin_histories.specs.Histories.{id_of}
use Rattle.calvin_histories.proofs.Sent.{same_node_self, same_node_is}
use Rattle.calvin_histories.proofs.Positions.{positions_more, found, is_found}

some_is : {X : Type 0} {x y : X} → Some x ≡ Some y → x ≡ y
some_is e = cc

pub on_ok : {T E P Q : Type 0} (r : Result T E) → OnOk r P → (P → Q) → OnOk r Q
on_ok (Ok x) p go = go p
on_ok (Err e) p go = p

pub all_empty : (lists : List (List ℕ)) → ((i : ℕ) (numbers : List ℕ) → slice_get lists i ≡ Some numbers → numbers ≡ []) → (more : List ℕ) → more ≡ [] → (after : List (List ℕ)) → after ≡ lists ++ more ∷ [] → (i : ℕ) (numbers : List ℕ) → slice_get after i ≡ Some numbers → numbers ≡ []
all_empty lists empty more none after is i numbers there = elim (get_split lists (more ∷ []) i numbers (ap (λ ns. slice_get ns i) (sym is) ∙ there)) [
  | inl old ↦ empty old.0 numbers old.1
  | inr new ↦ sym (get_only more new.0 numbers new.1) ∙ none
]

pub none_listed : (parts replicas : ℕ) (lists : List (List ℕ)) → length lists ≡ replicas * parts → ((i : ℕ) (numbers : List ℕ) → slice_get lists i ≡ Some numbers → numbers ≡ []) → AreListed parts lists []
none_listed parts replicas lists number empty = record {
  some = λ any. positive replicas parts 0 (subst (λ n. 0 < n) number any) (cases_lt 0 parts);
  each = empty;
}
  where
    positive : (size parts i : ℕ) → i < size * parts → (0 < parts) ⊎ (parts ≤ 0) → 0 < parts
    positive size parts i less (inl some) = some
    positive size parts i less (inr none) = let e : parts ≡ 0 = omega (arith, none) in let z : i < size * 0 = subst (λ p. i < size * p) e less in absurd (omega (arith, z))

-- the name of the node at a node's place is the node's
pub named_there : (parts : ℕ) (id : NodeId) → id.partition < parts → id_of parts (index_of parts id) ≡ id
named_there parts id within = λ i. record { replica = div-mul-add id.replica parts id.partition within i; partition = mod-mul-add id.replica parts id.partition within i }

module _ (parts : ℕ) (lists : List (List ℕ)) (senders : List NodeId) (listed : AreListed parts lists senders) (sender : NodeId) where
  -- of another node nothing is listed more
  other_list : (i : ℕ) → same_node sender (id_of parts i) ≡ false → positions (id_of parts i) 0 (senders ++ sender ∷ []) ≡ positions (id_of parts i) 0 senders
  other_list i other = positions_more (id_of parts i) 0 senders sender ∙ (λ j. positions (id_of parts i) 0 senders ++ cond (other j) ((0 + length senders) ∷ []) []) ∙ append-nil (positions (id_of parts i) 0 senders)

  apart : (i : ℕ) → i ≢ index_of parts sender → same_node sender (id_of parts i) ≡ false
  apart i not_there = go (same_node sender (id_of parts i)) refl
    where
      go : (b : Bool) → same_node sender (id_of parts i) ≡ b → same_node sender (id_of parts i) ≡ false
      go false e = e
      go true e = absurd (not_there (sym (div-add-mod' i parts) ∙ ap (index_of parts) (sym (same_node_is sender (id_of parts i) e))))

  pub listed_here : (n : ℕ) → length senders ≡ n → sender.partition < parts → (numbers after : List ℕ) → slice_get lists (index_of parts sender) ≡ Some numbers → after ≡ numbers ++ n ∷ [] → AreListed parts (slice_set lists (index_of parts sender) after) (senders ++ sender ∷ [])
  listed_here n many within numbers after there more = record {
    some = λ any. listed.some (let e = length-set lists (index_of parts sender) after in omega (arith, any, e));
    each = λ i now at_i. go i now at_i (cases_eq i (index_of parts sender));
  }
    where
      same : same_node sender (id_of parts (index_of parts sender)) ≡ true
      same = (λ i. same_node sender (named_there parts sender within i)) ∙ same_node_self sender

      one_more : positions (id_of parts (index_of parts sender)) 0 senders ++ length senders ∷ [] ≡ positions (id_of parts (index_of parts sender)) 0 senders ++ (0 + length senders) ∷ []
      one_more = let e : length senders ≡ 0 + length senders = omega arith in ap (λ k. positions (id_of parts (index_of parts sender)) 0 senders ++ k ∷ []) e

      here : after ≡ positions (id_of parts (index_of parts sender)) 0 (senders ++ sender ∷ [])
      here = more ∙ (λ j. listed.each (index_of parts sender) numbers there j ++ sym many j ∷ []) ∙ one_more ∙ (λ j. positions (id_of parts (index_of parts sender)) 0 senders ++ cond (sym same j) ((0 + length senders) ∷ []) []) ∙ sym (positions_more (id_of parts (index_of parts sender)) 0 senders sender)

      go : (i : ℕ) (now : List ℕ) → slice_get (slice_set lists (index_of parts sender) after) i ≡ Some now → (i ≡ index_of parts sender) ⊎ (i ≢ index_of parts sender) → now ≡ positions (id_of parts i) 0 (senders ++ sender ∷ [])
      go i now at_i (inl e) =
          let is : after ≡ now = some_is (sym (set_here lists (index_of parts sender) after numbers there) ∙ (λ j. slice_get (slice_set lists (index_of parts sender) after) (sym e j)) ∙ at_i) in
          sym is ∙ here ∙ (λ j. positions (id_of parts (sym e j)) 0 (senders ++ sender ∷ []))
      go i now at_i (inr not_there) = listed.each i now (sym (set_other lists (index_of parts sender) i after not_there) ∙ at_i) ∙ sym (other_list i (apart i not_there))

  pub listed_nowhere : (IsListed parts lists sender → ⊥) → AreListed parts lists (senders ++ sender ∷ [])
  listed_nowhere never = record {
    some = listed.some;
    each = λ i numbers there. listed.each i numbers there ∙ sym (other_list i (go i numbers there (same_node sender (id_of parts i)) refl));
  }
    where
      go : (i : ℕ) (numbers : List ℕ) → slice_get lists i ≡ Some numbers → (b : Bool) → same_node sender (id_of parts i) ≡ b → same_node sender (id_of parts i) ≡ false
      go i numbers there false e = e
      go i numbers there true e =
          let is = same_node_is sender (id_of parts i) e in
          let some = listed.some (let w = slice_get_within lists i numbers there in omega (arith, w)) in
          absurd (never (subst (λ id. id.partition < parts) (sym is) (mod-lt i some), subst (λ n. n < length lists) (sym (ap (index_of parts) is ∙ div-add-mod' i parts)) (slice_get_within lists i numbers there)))

module _ (parts : ℕ) (lists : List (List ℕ)) (senders : List NodeId) (listed : AreListed parts lists senders) (name : PacketName) (within : name.sender.partition < parts) (numbers : List ℕ) (there : slice_get lists (index_of parts name.sender) ≡ Some numbers) where
  its_list : numbers ≡ positions name.sender 0 senders
  its_list = listed.each (index_of parts name.sender) numbers there ∙ (λ i. positions (named_there parts name.sender within i) 0 senders)

  pub find : (got : Option ℕ) → got ≡ slice_get numbers name.number → MatchOption got ((number : ℕ) → IsAt senders name number → ⊥) (IsAt senders name)
  find (Some n) is =
      let f = found name.sender 0 senders name.number n (ap (λ ks. slice_get ks name.number) (sym its_list) ∙ sym is) in
      let at : f.at ≡ n = (let e = f.number in omega (arith, e)) in
      subst (IsAt senders name) at (record { sender = f.there ∙ ap Some (same_node_is f.sender name.sender f.here); before = f.before })
  find None is = λ number at.
      none-some (0 + number) (is ∙ ap (λ ks. slice_get ks name.number) its_list ∙ (λ i. slice_get (positions name.sender 0 senders) (sym at.before i)) ∙ is_found name.sender 0 senders number name.sender at.sender (same_node_self name.sender))

module _ {Args Row Reply : Type 0} where
  pub take_more : (packets : List (Packet Args Row Reply)) (n : ℕ) (p : Packet Args Row Reply) → slice_get packets n ≡ Some p → take (n + 1) (senders_of packets) ≡ take n (senders_of packets) ++ p.from ∷ []
  take_more packets n p there = (let e : n + 1 ≡ suc n = omega arith in ap (λ k. take k (senders_of packets)) e) ∙ next packets n there
    where
      next : (packets : List (Packet Args Row Reply)) (n : ℕ) → slice_get packets n ≡ Some p → take (suc n) (senders_of packets) ≡ take n (senders_of packets) ++ p.from ∷ []
      next [] n there = absurd (none-some p there)
      next (q ∷ packets) zero there = let same : q ≡ p = cc in ap (λ (p : Packet Args Row Reply). p.from ∷ []) same
      next (q ∷ packets) (suc n) there = ap (λ ids. q.from ∷ ids) (next packets n there)

  pub take_sender : (packets : List (Packet Args Row Reply)) (n : ℕ) (id : NodeId) → option_map (λ p. p.from) (slice_get packets n) ≡ Some id → take (n + 1) (senders_of packets) ≡ take n (senders_of packets) ++ id ∷ []
  take_sender packets n id is = let sent = packet_from packets n id is in take_more packets n sent.0 sent.1 ∙ ap (λ (from : NodeId). take n (senders_of packets) ++ from ∷ []) sent.2
