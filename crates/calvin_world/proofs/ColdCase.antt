-- A request that may touch cold rows, in a world of one node: it is held back over one closing, and its rows are warmed.
use Rattle.std.proofs.Common.{ℕ, true, [], ◌∷◌, inl, refl}
use Rattle.calvin_app.specs.Kv.{kv}
use Rattle.calvin_app.specs.declared.kv.KvRequest.{KvRequest}
use Rattle.calvin_app.specs.declared.kv.KvReply.{KvReply}
use Rattle.calvin_sched.specs.Standing.{warm}
use Rattle.calvin_node_packets.specs.declared.packet.Content.TheVariants.{Warm}
use Rattle.calvin_node_acts.specs.Acting as node
use Rattle.calvin_world.specs.WorkedCases.{alone, put_key, put, cold_run, cold_done, RanCold}
use Rattle.calvin_world.specs.Worlds.{WorldState, Leads, opening}
use Rattle.calvin_world.proofs.Alone.{first_node, one, done_at, delivered_at}
use Rattle.calvin_world.proofs.OneSlot.{Node, own}
use Rattle.calvin_world.proofs.OneRun.{from_opening}

abbrev world : Node → WorldState KvRequest ℕ KvReply
world x = one true true x (own (Warm put.sets) ∷ [])

abbrev x_1 : Node
x_1 = record first_node { sequencer = record { opening = 0; queue = []; closed = []; decided = []; held_back = record { request = put; closings = 0 } ∷ [] } }

abbrev x_2 : Node
x_2 = record x_1 { scheduler = warm (put_key ∷ []) x_1.scheduler }

abbrev x_3 : Node
x_3 = record x_2 { sequencer = record { opening = 0; queue = put ∷ []; closed = (0, []) ∷ []; decided = []; held_back = [] } }

abbrev x_4 : Node
x_4 = record x_2 { sequencer = record { opening = 0; queue = []; closed = (0, []) ∷ (1, put ∷ []) ∷ []; decided = []; held_back = [] } }

cold_leads : Leads kv (one true true first_node []) cold_run cold_done (world x_4)
cold_leads = (
  world x_1,
  inl (done_at true true first_node x_1 [] (own (Warm put.sets) ∷ []) (node.submit_cold alone put first_node) refl),
  (
    world x_2,
    inl (delivered_at true true kv x_1 x_2 (own (Warm put.sets) ∷ []) [] (own (Warm put.sets)) 0 refl refl refl),
    (
      world x_3,
      inl (done_at true true x_2 x_3 (own (Warm put.sets) ∷ []) [] (node.close alone x_2) refl),
      (world x_4, inl (done_at true true x_3 x_4 (own (Warm put.sets) ∷ []) [] (node.close alone x_3) refl), refl),
    ),
  ),
)

pub cold_runs : (w : WorldState KvRequest ℕ KvReply) × Leads kv (opening alone) cold_run cold_done w × RanCold w
cold_runs = (world x_4, from_opening true true cold_run cold_done (world x_4) cold_leads, record { node = x_4; there = refl; closed = refl; warms = refl })
