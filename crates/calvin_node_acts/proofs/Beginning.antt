-- What a request that begins or is finished makes of a node.
use Rattle.std.proofs.Common.{◌≡◌, ℕ, ◌⊎◌, inl, inr, Bool, true, false, cond, ◌&&◌, List, [], ◌∷◌, ◌++◌, length, nat_lt, Option, Some, None, Result, Ok, Err, refl, sym, ap, subst, ◌∙◌, arith}
use Rattle.std.proofs.lemmas.Bool.{false≢true, lt-ltb}
use Rattle.std.specs.Prelude.{is_err, OnOk}
use Rattle.calvin_types.specs.declared.fault.Fault.{Fault}
use Rattle.calvin_types.specs.declared.fault.Fault.TheVariants.{OutOfMemory, NotReady}
use Rattle.calvin_types.specs.declared.place.Place.{Place}
use Rattle.calvin_types.specs.declared.txn.Txn.{Txn}
use Rattle.calvin_types.specs.Deeds.{Deed, Refuses, Does, Did}
use Rattle.calvin_types.specs.Participants.{Site}
use Rattle.calvin_app.specs.declared.answer.Answer.{Answer}
use Rattle.calvin_app.specs.declared.job.Job.{Job}
use Rattle.calvin_app.specs.Meaning.{Meaning}
use Rattle.calvin_app.specs.Serial.{answer_on}
use Rattle.calvin_order.specs.Configs.{Config}
use Rattle.calvin_sched.specs.declared.phase.Phase.{Phase}
use Rattle.calvin_sched.specs.declared.phase.Phase.TheVariants.{Waiting, Begun, Done}
use Rattle.calvin_sched.specs.Keeping.{takes_effect}
use Rattle.calvin_sched.specs.Scheduling.{Turn, Scheduling, turn_at, with_turn, reads_here, serves_others}
use Rattle.calvin_sched.specs.Steps as sched
use Rattle.calvin_node_packets.specs.declared.packet.Packet.{Packet}
use Rattle.calvin_node_packets.specs.declared.packet.Address.TheVariants.{AtClient}
use Rattle.calvin_node_packets.specs.declared.packet.Content.TheVariants.{Reads, Replies}
use Rattle.calvin_node_packets.specs.Packets.{to_each}
use Rattle.calvin_node_acts.specs.NodeStates.{NodeState, site_of}
use Rattle.calvin_node_acts.specs.Acting as acting
use Rattle.calvin_node_acts.specs.Running.{NodeDid, NodeFinished}
use Rattle.calvin_node_acts.proofs.Settling.{running, with_steps}

module _ {Args Row : Type 0} (here : Site) (q : Place) (s next : Scheduling Args Row) (given : sched.Serving Args Row) where
  abbrev requested : Deed (Scheduling Args Row) (sched.Serving Args Row) → Txn Args
  requested (Refuses f) = given.request
  requested (Does s out) = out.request

  abbrev told : Deed (Scheduling Args Row) (sched.Serving Args Row) → List ℕ
  told (Refuses f) = given.others
  told (Does s out) = out.others

  -- what begins at a place is what stands there
  serves_given : (o : Option (Turn Args Row)) → sched.begin_at here q s o ≡ Does next given → serves_others here o ≡ (reads_here here given.request && nat_lt 0 (length given.others))
  serves_given None e = absurd (false≢true (ap takes_effect e))
  serves_given (Some x) e = by_phase x.phase e
    where
      ready : (b : Bool) → cond b (Does (with_turn s q (sched.begun_turn here s.store.map x)) (sched.serving here (sched.begun_turn here s.store.map x))) (Refuses NotReady) ≡ Does next given
          → serves_others here (Some x) ≡ (reads_here here given.request && nat_lt 0 (length given.others))
      ready true e = ap (λ d. reads_here here (requested d) && nat_lt 0 (length (told d))) e
      ready false e = absurd (false≢true (ap takes_effect e))

      by_phase : (phase : Phase) → sched.begin_by here q s x phase ≡ Does next given → serves_others here (Some x) ≡ (reads_here here given.request && nat_lt 0 (length given.others))
      by_phase Waiting e = ready (sched.is_ready here s q x.request) e
      by_phase Begun e = absurd (false≢true (ap takes_effect e))
      by_phase Done e = absurd (false≢true (ap takes_effect e))

-- what holds where a call succeeds, of one that did
pub on_ok : {T E : Type 0} (r : Result T E) (P : Type 0) → is_err r ≡ false → OnOk r P → P
on_ok (Ok x) P is h = h
on_ok (Err e) P is h = absurd (false≢true (sym is))

-- why a job wasn't taken
pub cause : {X A B C : Type 0} → X ⊎ (A × B × C) → X ⊎ (A × B)
cause (inl h) = inl h
cause (inr h) = inr (h.0, h.1)

-- a deed that takes effect and wants no memory isn't refused
pub no_refusal : {S Out : Type 0} (d : Deed S Out) (f : Fault) (old new : S) → takes_effect d ≡ true → Did {Out = Out} false (Err f) d old new → ⊥
no_refusal (Refuses g) f old new takes did = false≢true takes
no_refusal (Does next out) f old new takes did = false≢true did.0

module _ {Args Row : Type 0} (Reply : Type 0) (c : Config) (x : NodeState Args Row) (q : Place) (sent : List (Packet Args Row Reply)) where
  abbrev deed : Deed (Scheduling Args Row) (sched.Serving Args Row)
  deed = sched.begin (site_of c.partitions x) q x.scheduler

  abbrev serves : Bool
  serves = serves_others (site_of c.partitions x) (turn_at x.scheduler q)

  -- rows go to nobody where no other partition runs it
  to_nobody : (out : sched.Serving Args Row) (r : Bool) (ps : List ℕ) → cond (r && nat_lt 0 (length ps)) (to_each {Args = Args} {Row = Row} {Reply = Reply} x.id x.id.replica (Reads q out.rows) ps) [] ≡ cond r (to_each x.id x.id.replica (Reads q out.rows) ps) []
  to_nobody out true [] = refl
  to_nobody out true (p ∷ ps) = ap (λ b. cond b (to_each {Args = Args} {Row = Row} {Reply = Reply} x.id x.id.replica (Reads q out.rows) (p ∷ ps)) []) (lt-ltb 0 (length (p ∷ ps)) (omega arith))
  to_nobody out false ps = refl

  pub not_begun : (f : Fault) → deed ≡ Refuses f → NodeDid serves (Err f) (acting.begin c q x) (running c x) (running c x) sent sent
  not_begun f is = subst (λ d. NodeDid serves (Err f) (acting.begin_by c x q d) (running c x) (running c x) sent sent) (sym is) (refl, refl, refl)

  pub no_room : takes_effect deed ≡ true → serves ≡ true → NodeDid serves (Err OutOfMemory) (acting.begin c q x) (running c x) (running c x) sent sent
  no_room takes some = go deed takes
    where
      go : (d : Deed (Scheduling Args Row) (sched.Serving Args Row)) → takes_effect d ≡ true → NodeDid serves (Err OutOfMemory) (acting.begin_by c x q d) (running c x) (running c x) sent sent
      go (Refuses f) takes = absurd (false≢true takes)
      go (Does s out) takes = (some, refl, refl, refl)

  -- the rows are sent where a key is read here and another partition runs the request
  pub begun : (out : sched.Serving Args Row) (s : Scheduling Args Row) → Did false (Ok out) deed x.scheduler s → (b : Bool) → serves ≡ b → (all : List (Packet Args Row Reply)) → all ≡ sent ++ cond b (to_each x.id x.id.replica (Reads q out.rows) out.others) []
      → NodeDid serves (Ok tt) (acting.begin c q x) (running c x) (running c (with_steps x s x.pending)) sent all
  begun out s did b read all is = go deed refl did
    where
      go : (d : Deed (Scheduling Args Row) (sched.Serving Args Row)) → deed ≡ d → Did false (Ok out) d x.scheduler s → NodeDid serves (Ok tt) (acting.begin_by c x q d) (running c x) (running c (with_steps x s x.pending)) sent all
      go (Refuses f) e did = did
      go (Does next given) e did = (
        (λ i. running c (with_steps x (did.1 i) x.pending)),
        is
            ∙ (λ i. sent ++ cond ((sym read ∙ serves_given (site_of c.partitions x) q x.scheduler next given (turn_at x.scheduler q) e) i) (to_each x.id x.id.replica (Reads q (did.0 i).rows) (did.0 i).others) [])
            ∙ ap (λ ps. sent ++ ps) (to_nobody given (reads_here (site_of c.partitions x) given.request) given.others),
      )

-- a job that was run is taken
module _ {Args Row Reply : Type 0} (m : Meaning Args Row Reply) (c : Config) (x : NodeState Args Row) (sent : List (Packet Args Row Reply)) (j : Job Args Row) where
  pub finished : sched.job (site_of c.partitions x) j.place x.scheduler ≡ Ok j → (s : Scheduling Args Row) → s ≡ sched.after_job m (site_of c.partitions x) j x.scheduler → (answer : Answer Reply) → answer ≡ answer_on m j.txn j.view
      → (all : List (Packet Args Row Reply)) → all ≡ sent ++ record { from = x.id; to = AtClient j.txn.id.client; content = Replies j.place j.txn.id j.txn.attempt answer } ∷ []
      → NodeFinished m j (Ok tt) (running c x) (running c (with_steps x s x.pending)) sent all
  finished due s is answer told all sends = (
    due,
    subst (λ r. NodeDid true (Ok tt) (acting.finish_by x j.place (sched.finish_with m (site_of c.partitions x) x.scheduler r)) (running c x) (running c (with_steps x s x.pending)) sent all) (sym due)
        ((λ i. running c (with_steps x (is i) x.pending)), sends ∙ (λ i. sent ++ record { from = x.id; to = AtClient j.txn.id.client; content = Replies j.place j.txn.id j.txn.attempt (told i) } ∷ [])),
  )
