-- The world beside one of replicas over one growing order: each event of the first is an event of the second, or none.
use Rattle.std.proofs.Common.{◌≡◌, ◌≢◌, ℕ, true, ◌-◌, ◌<◌, ◌≤◌, List, [], ◌++◌, map, ◌⊎◌, inl, inr, refl, sym, ap, ◌∙◌, subst, Option, Some, None}
use Rattle.std.specs.Prelude.{slice_get, slice_set, unwrap_or}
use Rattle.std.specs.List.{Contains}
use Rattle.std.specs.FinMap.{get, empty}
use Rattle.std.proofs.lemmas.Bool.{cases_eq}
use Rattle.std.proofs.lemmas.List.{append-nil}
use Rattle.std.proofs.lemmas.List.Elements.{Contains-append_left, Contains-append_right, Contains-append_cases}
use Rattle.calvin_app.specs.Meaning.{Meaning, WritesWithin}
use Rattle.calvin_app.specs.Rows.{Rows}
use Rattle.calvin_app.specs.declared.answer.Answer.{Answer}
use Rattle.calvin_node_acts.specs.NodeStates.{NodeState}
use Rattle.calvin_node_packets.specs.declared.packet.Packet.{Packet}
use Rattle.calvin_node_packets.specs.declared.packet.Content.TheVariants.{Reads, Replies}
use Rattle.calvin_order.specs.Configs.{Config, stretch, order}
use Rattle.calvin_order.specs.Merged.{Batch, Assignment, end_of}
use Rattle.calvin_types.specs.Orders.{Order, StandsAt}
use Rattle.calvin_types.specs.declared.place.NodeId.{NodeId}
use Rattle.calvin_types.specs.declared.place.RequestId.{RequestId}
use Rattle.calvin_sched.specs.Standing.{local_places}
use Rattle.calvin_types.specs.Participants.{is_active}
use Rattle.calvin_bench.specs.Turns.{site_of}
use Rattle.calvin_types.specs.declared.place.Place.{Place}
use Rattle.calvin_types.specs.declared.place.Slot.{Slot}
use Rattle.calvin_types.specs.declared.txn.Txn.{Txn}
use Rattle.calvin_world.specs.Promises.{loaded_epochs, held_by, IsNode, Chosen, IsChosenUpTo}
use Rattle.calvin_world.specs.Worlds.{WorldState, index_of}
use Rattle.calvin_synod.proofs.Core.{agreement}
use Rattle.calvin_bench.specs.Lives
use Rattle.calvin_bench.proofs.ManyReplicas.{WorldKeeps, event_keeps}
use Rattle.calvin_bench.proofs.Lists.{set_here, set_other, get_left, get_right, get_split, get_map, set_map, set_same}
use Rattle.calvin_world.proofs.Kept.{Kept, chosen_group, after, chosen_on}

some_is : {X : Type 0} {x y : X} → Some x ≡ Some y → x ≡ y
some_is e = cc

module _ {Args Row Reply : Type 0} where
  pub one_chosen : (w : WorldState Args Row Reply) → Kept w → (slot : Slot) (b c : Batch Args) → Chosen w slot b → Chosen w slot c → b ≡ c
  one_chosen w kept slot b c p q = agreement (kept.synod slot (chosen_group w kept slot b p)).sound b c p q

  pub held_is : (w : WorldState Args Row Reply) → Kept w → (i : ℕ) (x : NodeState Args Row) → slice_get w.nodes i ≡ Some x → (slot : Slot) (c : Batch Args) → Chosen w slot c → get x.held slot ≢ None → held_by x slot ≡ c
  held_is w kept i x there slot c chosen some = go (get x.held slot) refl
    where
      go : (o : Option (Batch Args)) → get x.held slot ≡ o → unwrap_or (get x.held slot) [] ≡ c
      go None e = absurd (some e)
      go (Some b) e = ap (λ o. unwrap_or o []) e ∙ one_chosen w kept slot b c (kept.held i x there slot b e) chosen

-- what was admitted or passed over of an order, before what is pending
pub record Passed {Args Row : Type 0} (es : Order Args) (x : NodeState Args Row) : Type 0 where
  pub gone : Order Args
  pub whole : gone ++ x.pending ≡ es
  pub last : (p : Place) → x.scheduler.last ≡ Some p → (u : Txn Args) × StandsAt gone p u

module _ {Args Row : Type 0} where
  -- the epochs that were merged since the last restart
  abbrev pub since : Config → Assignment Args → NodeState Args Row → Order Args
  since config B x = stretch config B (loaded_epochs x) (x.merged_epochs - loaded_epochs x)

-- what holds of a node's epochs
pub record Bounds {Args Row : Type 0} (config : Config) (B : Assignment Args) (epochs : ℕ) (x : NodeState Args Row) : Type 0 where
  pub loaded : loaded_epochs x ≤ x.merged_epochs
  pub at_end : x.scheduler.opened_from.n ≡ 0
  pub merged_in : x.merged_epochs ≤ epochs
  pub kept_in : x.kept_epochs ≤ epochs
  pub holds : (slot : Slot) → loaded_epochs x ≤ slot.epoch → slot.epoch < x.merged_epochs → slot.group < config.partitions → get x.held slot ≢ None
  pub due : x.due ≡ local_places (site_of config.partitions x.id.partition) (since config B x)
  pub passed : Passed (since config B x) x

module _ {Args Row : Type 0} where
  abbrev pub mirror_node : Config → Assignment Args → ℕ → NodeState Args Row → Lives.Node Args Row
  mirror_node config B epochs x = record { partition = x.id.partition; scheduler = x.scheduler; pending = x.pending ++ stretch config B x.merged_epochs (epochs - x.merged_epochs); kept_at = end_of x.kept_epochs; kept = x.kept_rows }

module _ {Args Row Reply : Type 0} where
  abbrev pub mirror : WorldState Args Row Reply → Assignment Args → ℕ → List (Lives.Reads Row) → List (Lives.Given Reply) → Lives.World Args Row Reply
  mirror w B epochs reads replies = record { order = order w.config B epochs; settled = end_of epochs; nodes = map (mirror_node w.config B epochs) w.nodes; reads = reads; replies = replies }

  abbrev pub AreReads : List (Packet Args Row Reply) → List (Lives.Reads Row) → Type 0
  AreReads packets reads = (p : Packet Args Row Reply) → Contains packets p → (q : Place) (rows : Rows Row) → p.content ≡ Reads q rows → (k : ℕ) × (slice_get reads k ≡ Some (record { place = q; from = p.from.partition; rows = rows }))

  pub record IsReply (parts : ℕ) (es : Order Args) (replies : List (Lives.Given Reply)) (p : Packet Args Row Reply) (q : Place) (id : RequestId) (attempt : ℕ) (answer : Answer Reply) : Type 0 where
    pub number_of : ℕ
    pub given : slice_get replies number_of ≡ Some (record { by = index_of parts p.from; place = q; answer = answer })
    pub request : Txn Args
    pub stands : StandsAt es q request
    pub id_is : id ≡ request.id
    pub attempt_is : attempt ≡ request.attempt
    pub active : is_active (site_of parts p.from.partition) request ≡ true

  abbrev pub AreReplies : ℕ → Order Args → List (Packet Args Row Reply) → List (Lives.Given Reply) → Type 0
  AreReplies parts es packets replies = (p : Packet Args Row Reply) → Contains packets p → (q : Place) (id : RequestId) (attempt : ℕ) (answer : Answer Reply) → p.content ≡ Replies q id attempt answer → IsReply parts es replies p q id attempt answer

  pub record WasSent (parts : ℕ) (packets : List (Packet Args Row Reply)) (x : Lives.Given Reply) : Type 0 where
    pub packet : Packet Args Row Reply
    pub there : Contains packets packet
    pub by : index_of parts packet.from ≡ x.by
    pub partition : packet.from.partition < parts
    pub id : RequestId
    pub attempt : ℕ
    pub content : packet.content ≡ Replies x.place id attempt x.answer

  abbrev pub WereSent : ℕ → List (Packet Args Row Reply) → List (Lives.Given Reply) → Type 0
  WereSent parts packets replies = (k : ℕ) (x : Lives.Given Reply) → slice_get replies k ≡ Some x → WasSent parts packets x

  reads_joined : (packets sent : List (Packet Args Row Reply)) (reads more : List (Lives.Reads Row)) → AreReads packets reads → AreReads sent more → AreReads (packets ++ sent) (reads ++ more)
  reads_joined packets sent reads more left right p c q rows e = elim (Contains-append_cases packets sent p c) [
    | inl old ↦ let is = left p old q rows e in (is.0, get_left reads more is.0 _ is.1)
    | inr new ↦ let is = right p new q rows e in get_right reads more is.0 _ is.1
  ]

  replies_joined : (parts : ℕ) (es : Order Args) (packets sent : List (Packet Args Row Reply)) (replies more : List (Lives.Given Reply)) → AreReplies parts es packets replies → AreReplies parts es sent more → AreReplies parts es (packets ++ sent) (replies ++ more)
  replies_joined parts es packets sent replies more left right p c q id attempt answer e = elim (Contains-append_cases packets sent p c) [
    | inl old ↦ let is = left p old q id attempt answer e in record { number_of = is.number_of; given = get_left replies more is.number_of _ is.given; request = is.request; stands = is.stands; id_is = is.id_is; attempt_is = is.attempt_is; active = is.active }
    | inr new ↦
        let is = right p new q id attempt answer e in
        let at = get_right replies more is.number_of _ is.given in
        record { number_of = at.0; given = at.1; request = is.request; stands = is.stands; id_is = is.id_is; attempt_is = is.attempt_is; active = is.active }
  ]

  sent_joined : (parts : ℕ) (packets sent : List (Packet Args Row Reply)) (replies more : List (Lives.Given Reply)) → WereSent parts packets replies → WereSent parts sent more → WereSent parts (packets ++ sent) (replies ++ more)
  sent_joined parts packets sent replies more left right k x h = elim (get_split replies more k x h) [
    | inl old ↦ let is = left old.0 x old.1 in record { packet = is.packet; there = Contains-append_left packets sent is.packet is.there; by = is.by; partition = is.partition; id = is.id; attempt = is.attempt; content = is.content }
    | inr new ↦ let is = right new.0 x new.1 in record { packet = is.packet; there = Contains-append_right packets sent is.packet is.there; by = is.by; partition = is.partition; id = is.id; attempt = is.attempt; content = is.content }
  ]

module _ {Args Row Reply : Type 0} (m : Meaning Args Row Reply) (law : WritesWithin m) where
  pub record Mirrored (w : WorldState Args Row Reply) : Type 0 where
    pub epochs : ℕ
    pub batches : Assignment Args
    pub reads : List (Lives.Reads Row)
    pub replies : List (Lives.Given Reply)
    pub chosen : IsChosenUpTo w batches epochs
    pub bounds : (i : ℕ) (x : NodeState Args Row) → slice_get w.nodes i ≡ Some x → Bounds w.config batches epochs x
    pub keeps : WorldKeeps m w.config.partitions empty law (mirror w batches epochs reads replies)
    pub are_reads : AreReads w.packets reads
    pub are_replies : AreReplies w.config.partitions (order w.config batches epochs) w.packets replies
    pub were_sent : WereSent w.config.partitions w.packets replies

  -- one node changes
  module _ (w : WorldState Args Row Reply) (mirrored : Mirrored w) (me : NodeId) (x next : NodeState Args Row) (sent : List (Packet Args Row Reply)) (is : IsNode w me x) where
    abbrev as_node : NodeState Args Row → Lives.Node Args Row
    as_node = mirror_node w.config mirrored.batches mirrored.epochs

    abbrev old_mirror : Lives.World Args Row Reply
    old_mirror = mirror w mirrored.batches mirrored.epochs mirrored.reads mirrored.replies

    pub goes_on : (reads : List (Lives.Reads Row)) (replies : List (Lives.Given Reply)) → Bounds w.config mirrored.batches mirrored.epochs next
        → WorldKeeps m w.config.partitions empty law (mirror (after w me x next sent is) mirrored.batches mirrored.epochs (mirrored.reads ++ reads) (mirrored.replies ++ replies))
        → AreReads sent reads → AreReplies w.config.partitions (order w.config mirrored.batches mirrored.epochs) sent replies → WereSent w.config.partitions sent replies → Mirrored (after w me x next sent is)
    goes_on reads replies bounds keeps are_reads are_replies were_sent = record {
      epochs = mirrored.epochs;
      batches = mirrored.batches;
      reads = mirrored.reads ++ reads;
      replies = mirrored.replies ++ replies;
      chosen = λ slot early less. chosen_on w me x next sent is slot (mirrored.batches slot) (mirrored.chosen slot early less);
      bounds = λ i y there. bound i y there (cases_eq i (index_of w.config.partitions me));
      keeps = keeps;
      are_reads = reads_joined w.packets sent mirrored.reads reads mirrored.are_reads are_reads;
      are_replies = replies_joined w.config.partitions (order w.config mirrored.batches mirrored.epochs) w.packets sent mirrored.replies replies mirrored.are_replies are_replies;
      were_sent = sent_joined w.config.partitions w.packets sent mirrored.replies replies mirrored.were_sent were_sent;
    }
      where
        bound : (i : ℕ) (y : NodeState Args Row) → slice_get (slice_set w.nodes (index_of w.config.partitions me) next) i ≡ Some y → (i ≡ index_of w.config.partitions me) ⊎ (i ≢ index_of w.config.partitions me) → Bounds w.config mirrored.batches mirrored.epochs y
        bound i y there (inl e) = subst (Bounds w.config mirrored.batches mirrored.epochs) (some_is (sym (set_here w.nodes (index_of w.config.partitions me) next x is.there) ∙ ap (slice_get (slice_set w.nodes (index_of w.config.partitions me) next)) (sym e) ∙ there)) bounds
        bound i y there (inr apart) = mirrored.bounds i y (sym (set_other w.nodes (index_of w.config.partitions me) i next apart) ∙ there)

    -- an event of the other world
    pub lives_on : (event : Lives.Event Args) → Lives.node_of event ≡ index_of w.config.partitions me → (reads : List (Lives.Reads Row)) (replies : List (Lives.Given Reply))
        → Lives.NodeStep m w.config.partitions old_mirror event (as_node x) (as_node next) reads replies
        → WorldKeeps m w.config.partitions empty law (mirror (after w me x next sent is) mirrored.batches mirrored.epochs (mirrored.reads ++ reads) (mirrored.replies ++ replies))
    lives_on event at reads replies step = event_keeps m w.config.partitions empty law old_mirror event (mirror (after w me x next sent is) mirrored.batches mirrored.epochs (mirrored.reads ++ reads) (mirrored.replies ++ replies)) mirrored.keeps (record {
      node = as_node x;
      next = as_node next;
      reads = reads;
      replies = replies;
      is_there = ap (slice_get (map as_node w.nodes)) at ∙ get_map as_node w.nodes (index_of w.config.partitions me) x is.there;
      does = step;
      now = ap (λ (nodes : List (Lives.Node Args Row)). record { order = order w.config mirrored.batches mirrored.epochs; settled = end_of mirrored.epochs; nodes = nodes; reads = mirrored.reads ++ reads; replies = mirrored.replies ++ replies })
          (set_map as_node w.nodes (index_of w.config.partitions me) next ∙ ap (λ i. slice_set (map as_node w.nodes) i (as_node next)) (sym at));
    })

    -- none of its events
    pub stays_on : as_node next ≡ as_node x → WorldKeeps m w.config.partitions empty law (mirror (after w me x next sent is) mirrored.batches mirrored.epochs (mirrored.reads ++ []) (mirrored.replies ++ []))
    stays_on e = subst (WorldKeeps m w.config.partitions empty law) (sym same) mirrored.keeps
      where
        same : mirror (after w me x next sent is) mirrored.batches mirrored.epochs (mirrored.reads ++ []) (mirrored.replies ++ []) ≡ old_mirror
        same = λ i. record {
          order = order w.config mirrored.batches mirrored.epochs;
          settled = end_of mirrored.epochs;
          nodes = (set_map as_node w.nodes (index_of w.config.partitions me) next ∙ ap (slice_set (map as_node w.nodes) (index_of w.config.partitions me)) e ∙ set_same (map as_node w.nodes) (index_of w.config.partitions me) (as_node x) (get_map as_node w.nodes (index_of w.config.partitions me) x is.there)) i;
          reads = append-nil mirrored.reads i;
          replies = append-nil mirrored.replies i;
        }
