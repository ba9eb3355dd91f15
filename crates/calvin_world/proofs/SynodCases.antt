-- One node and its synod: a restart between the two phases, an old ballot, and an epoch without requests.
use Rattle.std.proofs.Common.{◌≡◌, ℕ, suc, true, cond, ◌&&◌, List, [], ◌∷◌, ◌++◌, inl, Option, Some, None, refl, sym, ap, ◌∙◌}
use Rattle.std.specs.Prelude.{nat_le}
use Rattle.std.specs.FinMap.{get, empty, get-empty}
use Rattle.std.proofs.lemmas.Option.{none-some}
use Rattle.calvin_types.specs.declared.fault.Fault.TheVariants as fault
use Rattle.calvin_types.specs.declared.place.Ballot.{Ballot}
use Rattle.calvin_types.specs.Deeds.{Refuses, Does}
use Rattle.calvin_types.specs.Places.{place_cmp, slot_cmp}
use Rattle.calvin_types.proofs.SlotMaps.{get_here}
use Rattle.calvin_app.specs.Kv.{kv}
use Rattle.calvin_app.specs.declared.kv.KvRequest.{KvRequest}
use Rattle.calvin_app.specs.declared.kv.KvReply.{KvReply}
use Rattle.calvin_synod.specs.Cases as synod
use Rattle.calvin_synod.specs.declared.attempt.Attempt.{Attempt}
use Rattle.calvin_synod.specs.declared.vote.Recorded.{Recorded}
use Rattle.calvin_synod.specs.declared.message.Message.TheVariants.{Refused}
use Rattle.calvin_synod.specs.Roles.{promise_in, bars_prepare, if_counts, proposal_cmp}
use Rattle.calvin_order.specs.Merged.{Batch}
use Rattle.calvin_sched.specs.Scheduling.{is_done}
use Rattle.calvin_sched.specs.Standing.{stands, none_done_from, greatest_below}
use Rattle.calvin_sched.proofs.Readiness.{none_kept}
use Rattle.calvin_node_acts.specs.declared.act.Act.TheVariants.{Submit, Close, Merge, Lock, Restart, Propose}
use Rattle.calvin_node_packets.specs.declared.packet.Content.TheVariants.{Synod}
use Rattle.calvin_node_acts.specs.NodeStates.{restarted}
use Rattle.calvin_node_acts.specs.Handling.{handle, by_synod}
use Rattle.calvin_node_acts.specs.Acting as node
use Rattle.calvin_world.specs.declared.event.Event.TheVariants.{At, Deliver}
use Rattle.calvin_world.specs.declared.event.Outcome.TheVariants as event
use Rattle.calvin_world.specs.WorkedCases.{alone, own_id, put, done_times, deciding, restarting, after_restart, RanRestart, outbid, outbid_done, RanOutbid, empty_run, empty_done, RanEmpty}
use Rattle.calvin_world.specs.Worlds.{WorldState, Leads, opening}
use Rattle.calvin_world.proofs.Alone.{first_node, one, joined, done_at, refused_at, merges}
use Rattle.calvin_world.proofs.OneSlot.{Node, Sent, KvDeed, slot_of, own, asks, promises, proposing, promising, agreed, proposed, promised_then, IsFree, with_all, decides}
use Rattle.calvin_world.proofs.OneRun.{batch, x_1, x_2, from_opening}

abbrev world : Node → List Sent → WorldState KvRequest ℕ KvReply
world x packets = one true true x packets

abbrev ballot_1 : Ballot
ballot_1 = record { round = 1; replica = 0 }

-- proposed, and promised
abbrev x_3 : Node
x_3 = proposing true true x_2 0 batch

abbrev x_4 : Node
x_4 = promising true true x_2 0 batch

unheld : get (empty {X = Batch KvRequest} {R = slot_cmp}) (slot_of 0) ≡ None
unheld = get-empty slot_cmp (slot_of 0)

unrecorded : get (empty {X = Recorded (Batch KvRequest)} {R = slot_cmp}) (slot_of 0) ≡ None
unrecorded = get-empty slot_cmp (slot_of 0)

to_proposal : ◌≡◌ {A = KvDeed} (node.propose alone 0 x_2) (Does x_3 (asks 0 ballot_1 ∷ []))
to_proposal = proposed true true x_2 0 batch refl refl unheld

-- ---- a restart between the phases

abbrev x_r : Node
x_r = restarted x_4 (record { acceptor = x_4.synod.acceptor; proposer = record { used = 1; seen = 0; attempts = empty }; learner = record { counted = empty; given = empty } })

late_promise : ◌≡◌ {A = KvDeed} (handle alone (promises 0 ballot_1) x_r) (Refuses fault.NotCurrent)
late_promise = ap (λ (a : Option (Attempt (Batch KvRequest))). by_synod {Reply = KvReply} alone x_r (synod.promise 1 0 x_r.synod (slot_of 0) ballot_1 None (if_counts a 0 ballot_1))) (get-empty slot_cmp (slot_of 0))

abbrev two_sent : List Sent
two_sent = asks 0 ballot_1 ∷ promises 0 ballot_1 ∷ []

-- submitted, closed and proposed anew
abbrev r_1 : Node
r_1 = record x_r { sequencer = record { opening = 0; queue = batch; closed = []; decided = []; held_back = [] } }

abbrev r_2 : Node
r_2 = record x_r { sequencer = record { opening = 0; queue = []; closed = (0, batch) ∷ []; decided = []; held_back = [] } }

abbrev r_3 : Node
r_3 = proposing true true r_2 0 batch

abbrev asks_anew : Sent
asks_anew = asks 0 (record { round = 2; replica = 0 })

restart_leads : Leads kv (world first_node []) restarting after_restart (world r_3 (two_sent ++ asks_anew ∷ []))
restart_leads = joined kv (world first_node []) (At own_id (Submit put) ∷ At own_id Close ∷ At own_id (Propose 0) ∷ Deliver 0 ∷ []) (done_times 4) (world x_4 two_sent) (
  world x_1 [],
  inl (done_at true true first_node x_1 [] [] (node.submit put first_node) refl),
  (
    world x_2 [],
    inl (done_at true true x_1 x_2 [] [] (node.close alone x_1) refl),
    (
      world x_3 (asks 0 ballot_1 ∷ []),
      inl (done_at true true x_2 x_3 [] (asks 0 ballot_1 ∷ []) (node.propose alone 0 x_2) to_proposal),
      (world x_4 two_sent, inl (done_at true true x_3 x_4 (asks 0 ballot_1 ∷ []) (promises 0 ballot_1 ∷ []) (handle alone (asks 0 ballot_1) x_3) (promised_then true true x_2 0 batch unrecorded)), refl),
    ),
  ),
)
    (At own_id Restart ∷ Deliver 1 ∷ At own_id (Propose 0) ∷ At own_id (Submit put) ∷ At own_id Close ∷ At own_id (Propose 0) ∷ [])
    (event.Done ∷ event.Refused fault.NotCurrent ∷ event.Refused fault.NotClosed ∷ done_times 3) (world r_3 (two_sent ++ asks_anew ∷ [])) (
      world x_r two_sent,
      inl (done_at true true x_4 x_r two_sent [] (node.restart x_4) refl),
      (
        world x_r two_sent,
        inl (refused_at true true x_r two_sent fault.NotCurrent (handle alone (promises 0 ballot_1) x_r) late_promise),
        (
          world x_r two_sent,
          inl (refused_at true true x_r two_sent fault.NotClosed (node.propose alone 0 x_r) refl),
          (
            world r_1 two_sent,
            inl (done_at true true x_r r_1 two_sent [] (node.submit put x_r) refl),
            (
              world r_2 two_sent,
              inl (done_at true true r_1 r_2 two_sent [] (node.close alone r_1) refl),
              (world r_3 (two_sent ++ asks_anew ∷ []), inl (done_at true true r_2 r_3 two_sent (asks_anew ∷ []) (node.propose alone 0 r_2) (proposed true true r_2 0 batch refl refl unheld)), refl),
            ),
          ),
        ),
      ),
    )

pub restart_runs : (w : WorldState KvRequest ℕ KvReply) × Leads kv (opening alone) restarting after_restart w × RanRestart w
restart_runs = (world r_3 (two_sent ++ asks_anew ∷ []), from_opening true true restarting after_restart (world r_3 (two_sent ++ asks_anew ∷ [])) restart_leads, record { node = r_3; there = refl; used = refl; asks = refl })

-- ---- an old ballot

abbrev ballot_2 : Ballot
ballot_2 = record { round = 2; replica = 0 }

-- proposed anew, and promised
abbrev y_4 : Node
y_4 = proposing true true x_3 0 batch

abbrev y_5 : Node
y_5 = promising true true x_3 0 batch

abbrev refusal : Sent
refusal = own (Synod (Refused (slot_of 0) ballot_1 ballot_2))

old_ballot : ◌≡◌ {A = KvDeed} (handle alone (asks 0 ballot_1) y_5) (Does y_5 (refusal ∷ []))
old_ballot = ap (λ (r : Option (Recorded (Batch KvRequest))). by_synod {Reply = KvReply} alone y_5 (synod.prepare 0 y_5.synod (slot_of 0) ballot_1 (bars_prepare (promise_in r) ballot_1))) (get_here empty (slot_of 0) (record { promise = ballot_2; vote = None }))

abbrev three_sent : List Sent
three_sent = asks 0 ballot_1 ∷ asks 0 ballot_2 ∷ promises 0 ballot_2 ∷ []

outbid_leads : Leads kv (world first_node []) outbid outbid_done (world y_5 (three_sent ++ refusal ∷ []))
outbid_leads = (
  world x_1 [],
  inl (done_at true true first_node x_1 [] [] (node.submit put first_node) refl),
  (
    world x_2 [],
    inl (done_at true true x_1 x_2 [] [] (node.close alone x_1) refl),
    (
      world x_3 (asks 0 ballot_1 ∷ []),
      inl (done_at true true x_2 x_3 [] (asks 0 ballot_1 ∷ []) (node.propose alone 0 x_2) to_proposal),
      (
        world y_4 (asks 0 ballot_1 ∷ asks 0 ballot_2 ∷ []),
        inl (done_at true true x_3 y_4 (asks 0 ballot_1 ∷ []) (asks 0 ballot_2 ∷ []) (node.propose alone 0 x_3) (proposed true true x_3 0 batch refl refl unheld)),
        (
          world y_5 three_sent,
          inl (done_at true true y_4 y_5 (asks 0 ballot_1 ∷ asks 0 ballot_2 ∷ []) (promises 0 ballot_2 ∷ []) (handle alone (asks 0 ballot_2) y_4) (promised_then true true x_3 0 batch unrecorded)),
          (
            world y_5 (three_sent ++ refusal ∷ []),
            inl (done_at true true y_5 y_5 three_sent (refusal ∷ []) (handle alone (asks 0 ballot_1) y_5) old_ballot),
            (world y_5 (three_sent ++ refusal ∷ []), inl (refused_at true true y_5 (three_sent ++ refusal ∷ []) fault.NotCurrent (handle alone refusal y_5) refl), refl),
          ),
        ),
      ),
    ),
  ),
)

pub outbid_runs : (w : WorldState KvRequest ℕ KvReply) × Leads kv (opening alone) outbid outbid_done w × RanOutbid w
outbid_runs = (
  world y_5 (three_sent ++ refusal ∷ []),
  from_opening true true outbid outbid_done (world y_5 (three_sent ++ refusal ∷ [])) outbid_leads,
  record {
    node = y_5;
    there = refl;
    promise = ap promise_in (get_here empty (slot_of 0) (record { promise = ballot_2; vote = None }));
    refusal = refl;
  },
)

-- ---- an epoch without requests

abbrev z_1 : Node
z_1 = record first_node { sequencer = record { opening = 0; queue = []; closed = (0, []) ∷ []; decided = []; held_back = [] } }

abbrev z_6 : Node
z_6 = agreed true true z_1 0 []

abbrev z_7 : Node
z_7 = record z_6 { merged_epochs = 1 }

abbrev four_sent : List Sent
four_sent = with_all true true z_1 0 [] [] 0

free : IsFree true true z_1 0 []
free = record {
  round = refl;
  closed = refl;
  unheld = unheld;
  unrecorded = unrecorded;
  ungiven = get-empty slot_cmp (slot_of 0);
  uncounted = get-empty proposal_cmp (record { slot = slot_of 0; ballot = ballot_1 });
  alike = refl;
  not_less = refl;
}

empty_leads : Leads kv (world first_node []) empty_run empty_done (world z_7 four_sent)
empty_leads = (
  world z_1 [],
  inl (done_at true true first_node z_1 [] [] (node.close alone first_node) refl),
  joined kv (world z_1 []) (deciding 0 0) (done_times 5) (world z_6 four_sent) (decides true true z_1 0 [] [] 0 free refl refl refl refl) (At own_id Merge ∷ At own_id Lock ∷ []) (event.Done ∷ event.Refused fault.NothingToLock ∷ []) (world z_7 four_sent) (
    world z_7 four_sent,
    inl (done_at true true z_6 z_7 four_sent [] (node.merge alone z_6) (merges true true z_6 0 [] (get_here empty (slot_of 0) []))),
    (world z_7 four_sent, inl (refused_at true true z_7 four_sent fault.NothingToLock (node.lock alone z_7) refl), refl),
  ),
)

none_later : none_done_from z_7.scheduler 1 ≡ true
none_later = none_kept z_7.scheduler.turns (λ q. nat_le 1 q.epoch && is_done z_7.scheduler q) (λ q y h. absurd (none-some y (sym (get-empty place_cmp q) ∙ h)))

pub empty_runs : (w : WorldState KvRequest ℕ KvReply) × Leads kv (opening alone) empty_run empty_done w × RanEmpty w
empty_runs = (
  world z_7 four_sent,
  from_opening true true empty_run empty_done (world z_7 four_sent) empty_leads,
  record {
    node = z_7;
    there = refl;
    stands = ap (λ b. cond b (Some 0) (greatest_below (λ e. stands z_7.scheduler 1 [] (suc e)) 0)) none_later;
    rows = refl;
  },
)
