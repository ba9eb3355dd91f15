-- How one event of a world that is written out ends, by the deed of its node; and what a synod makes of a message, by what it has of the slot.
use Rattle.std.proofs.Common.{◌≡◌, ℕ, ◌+◌, cond, List, [], ◌∷◌, ◌++◌, ◌||◌, Option, Some, None, sym, ap, ◌∙◌}
use Rattle.std.specs.Prelude.{is_some, nat_eq, nat_le, length}
use Rattle.std.specs.List.{list_any}
use Rattle.std.specs.FinMap.{get, insert, remove}
use Rattle.calvin_types.specs.declared.fault.Fault.TheVariants as fault
use Rattle.calvin_types.specs.declared.place.Ballot.{Ballot}
use Rattle.calvin_types.specs.declared.place.NodeId.{NodeId}
use Rattle.calvin_types.specs.declared.place.Slot.{Slot}
use Rattle.calvin_app.specs.declared.kv.KvRequest.{KvRequest}
use Rattle.calvin_app.specs.declared.kv.KvReply.{KvReply}
use Rattle.calvin_synod.specs.Cases as synod
use Rattle.calvin_synod.specs.Cases.{Replica}
use Rattle.calvin_synod.specs.declared.vote.Vote.{Vote}
use Rattle.calvin_synod.specs.declared.vote.Recorded.{Recorded}
use Rattle.calvin_synod.specs.declared.attempt.Attempt.{Attempt}
use Rattle.calvin_synod.specs.declared.message.Message.TheVariants as message
use Rattle.calvin_synod.specs.Quorums.{majority}
use Rattle.calvin_synod.specs.Roles.{promise_in, vote_in, bars_prepare, bars_accept, if_counts, voters_of}
use Rattle.calvin_world.specs.Worlds.{WorldState, carry_out}
use Rattle.calvin_world.proofs.OneSlot.{KvDeed}

abbrev pub World : Type 0
World = WorldState KvRequest ℕ KvReply

abbrev pub after : World → NodeId → KvDeed → World
after w me deed = (carry_out w me deed).1

-- it ends as the deed of its node
pub ends : (w : World) (me : NodeId) (deed known : KvDeed) → deed ≡ known → ((carry_out w me known).0, (carry_out w me known).1) ≡ carry_out w me deed
ends w me deed known e = sym (ap (carry_out w me) e)

module _ {B : Type 0} (size : ℕ) (x : Replica B) (slot : Slot) (ballot : Ballot) (from : ℕ) where
  pub prepares : (r : Option (Recorded B)) → get x.acceptor slot ≡ r → bars_prepare (promise_in r) ballot ≡ None
      → synod.handle size from (message.Prepare slot ballot) x ≡ synod.Does (record x { acceptor = insert x.acceptor slot (record { promise = ballot; vote = vote_in r }) }) (synod.ToOne from (message.Promise slot ballot (vote_in r))) None
  prepares r here unbarred =
      ap (λ o. synod.prepare from x slot ballot (bars_prepare (promise_in o) ballot)) here
      ∙ ap (synod.prepare from x slot ballot) unbarred
      ∙ ap (λ v. synod.Does (record x { acceptor = insert x.acceptor slot (record { promise = ballot; vote = v }) }) (synod.ToOne from (message.Promise slot ballot v)) None) (ap vote_in here)

  pub promises : (vote : Option (Vote B)) (t : Attempt B) → get x.proposer.attempts slot ≡ Some t → synod.handle size from (message.Promise slot ballot vote) x ≡ synod.promise size from x slot ballot vote (if_counts (Some t) from ballot)
  promises vote t here = ap (λ a. synod.promise size from x slot ballot vote (if_counts a from ballot)) here

  pub accepts : (batch : B) (r : Recorded B) → get x.acceptor slot ≡ Some r → synod.handle size from (message.Accept slot ballot batch) x ≡ synod.accept from x slot ballot batch (bars_accept (Some r.promise) ballot)
  accepts batch r here = ap (λ a. synod.accept from x slot ballot batch (bars_accept (promise_in a) ballot)) here

  -- a vote, by what is given and counted
  abbrev pub counted_with : B → Option Ballot → List ℕ → synod.Deed B
  counted_with batch given voters =
      cond (is_some given || list_any (nat_eq from) voters) (synod.Refuses fault.Known)
      (synod.Does
      (record x {
        learner = cond (nat_le (majority size) (length voters + 1))
            (record { counted = remove x.learner.counted (record { slot = slot; ballot = ballot }); given = insert x.learner.given slot ballot })
            (record { counted = insert x.learner.counted (record { slot = slot; ballot = ballot }) (voters ++ from ∷ []); given = x.learner.given });
      })
      synod.Silent (cond (nat_le (majority size) (length voters + 1)) (Some (slot, batch)) None))

  pub learns : (batch : B) (voters : List ℕ) → get x.learner.given slot ≡ None → voters_of x.learner slot ballot ≡ voters → synod.handle size from (message.Accepted slot ballot batch) x ≡ counted_with batch None voters
  learns batch voters ungiven counted = λ i. counted_with batch (ungiven i) (counted i)
