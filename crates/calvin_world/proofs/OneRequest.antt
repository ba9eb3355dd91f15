-- A request that puts a number, in a world of one node: once it is locked and ready it begins, and is finished.
use Rattle.std.proofs.Common.{◌≡◌, ℕ, Bool, true, cond, List, [], ◌∷◌, Option, Some, ap, ◌∙◌}
use Rattle.std.specs.FinMap.{FinMap, get, insert, empty}
use Rattle.calvin_types.specs.declared.fault.Fault.TheVariants as fault
use Rattle.calvin_types.specs.declared.key.Key.{Key}
use Rattle.calvin_types.specs.declared.place.Place.{Place}
use Rattle.calvin_types.specs.declared.txn.Txn.{Txn}
use Rattle.calvin_types.specs.Deeds.{Refuses, Does}
use Rattle.calvin_types.specs.Participants.{Site, site}
use Rattle.calvin_types.specs.Places.{place_cmp}
use Rattle.calvin_types.proofs.ExactMaps.{insert_here}
use Rattle.calvin_types.proofs.PlaceOrder.{place_total, place_exact}
use Rattle.calvin_app.specs.Kv.{kv}
use Rattle.calvin_app.specs.declared.kv.KvRequest.{KvRequest}
use Rattle.calvin_app.specs.declared.kv.KvReply.{KvReply}
use Rattle.calvin_app.specs.Serial.{answer_on, writes_on}
use Rattle.calvin_app.specs.Stores.{put_at}
use Rattle.calvin_order.specs.Configs.{Config}
use Rattle.calvin_sched.specs.declared.phase.Phase.TheVariants as phase
use Rattle.calvin_sched.specs.Scheduling.{Turn, Scheduling, new_turn, with_turn, local_writes}
use Rattle.calvin_sched.specs.Steps as sched
use Rattle.calvin_node_packets.specs.declared.packet.Address.TheVariants.{AtClient}
use Rattle.calvin_node_packets.specs.declared.packet.Content.TheVariants.{Replies}
use Rattle.calvin_node_acts.specs.Acting as node
use Rattle.calvin_world.specs.WorkedCases.{alone_with, own_id, putting}
use Rattle.calvin_world.proofs.OneSlot.{Node, Sent, KvDeed}

abbrev pub Turns : Type 0
Turns = FinMap {K = Place} place_cmp (Turn KvRequest ℕ)

abbrev pub here : Site
here = site 1 0

-- request `number`, which puts v, stands at q and has asked for its locks after what stands in `turns`
module _ (points cold : Bool) (before : Node) (turns : Turns) (q : Place) (number v : ℕ) where
  abbrev c : Config
  c = alone_with points cold

  abbrev t : Txn KvRequest
  t = putting number v

  abbrev s : Scheduling KvRequest ℕ
  s = record before.scheduler { turns = insert turns q (new_turn t) }

  abbrev pub locked : Node
  locked = record before { id = own_id; scheduler = s }

  abbrev pub begun : Turn KvRequest ℕ
  begun = sched.begun_turn here before.scheduler.store.map (new_turn t)

  abbrev pub begun_turns : Turns
  begun_turns = insert (insert turns q (new_turn t)) q begun

  abbrev pub beginning : Node
  beginning = record locked { scheduler = record s { turns = begun_turns } }

  abbrev pub done_turns : Turns
  done_turns = insert begun_turns q (record begun { phase = phase.Done })

  abbrev pub put_writes : List (Key × ℕ)
  put_writes = local_writes here (writes_on kv t empty)

  abbrev pub finished : Node
  finished = record locked { scheduler = record s { turns = done_turns; store = put_at q put_writes before.scheduler.store } }

  abbrev pub reply : Sent
  reply = record { from = own_id; to = AtClient 7; content = Replies q t.id 1 (answer_on kv t empty) }

  pub begins : sched.is_ready here s q t ≡ true → ◌≡◌ {A = KvDeed} (node.begin c q locked) (Does beginning [])
  begins ready =
      ap (λ (o : Option (Turn KvRequest ℕ)). node.begin_by {Reply = KvReply} c locked q (sched.begin_at here q s o)) (insert_here place_cmp place_total place_exact turns q (new_turn t))
      ∙ ap (λ (b : Bool). node.begin_by {Reply = KvReply} c locked q (cond b (Does (with_turn s q begun) (sched.serving here begun)) (Refuses fault.NotReady))) ready

  pub begun_is : get begun_turns q ≡ Some begun
  begun_is = insert_here place_cmp place_total place_exact (insert turns q (new_turn t)) q begun

  pub finishes : ◌≡◌ {A = KvDeed} (node.finish kv c q beginning) (Does finished (reply ∷ []))
  finishes =
      ap (λ (o : Option (Turn KvRequest ℕ)). node.finish_by {Reply = KvReply} beginning q (sched.finish_with kv here beginning.scheduler (sched.job_at here q o))) begun_is
      ∙ ap (λ (o : Option (Turn KvRequest ℕ)). node.finish_by {Reply = KvReply} beginning q (Does (record beginning.scheduler { turns = sched.ended o begun_turns q; store = put_at q put_writes before.scheduler.store }) (t, answer_on kv t empty))) begun_is
