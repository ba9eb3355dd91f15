-- A script's submissions in a book, one event after another.
--     one_more, batch_done, request_only, batch_only      the requests of a batch, and its closing
--     group_more      the batches of an epoch
--     epoch_more, epochs_open, all_done      the epochs of a script
-- The equations of lists are those of calvin_sim's proofs (Submitted), which aren't apart there.
use Rattle.std.proofs.Common.{◌≡◌, ℕ, suc, ◌+◌, ◌<◌, ◌≤◌, true, List, [], ◌∷◌, ◌++◌, map, take, length, append-nil, Result, Ok, Err, IsOkUnless, refl, sym, ap, subst, ◌∙◌, arith}
use Rattle.std.specs.Prelude.{OnOk}
use Rattle.std.specs.List.{flat_map, range_with_len}
use Rattle.std.proofs.Math.ListN.{get_or}
use Rattle.std.proofs.lemmas.List.{map-append, take_more, take_all}
use Rattle.std.proofs.lemmas.Grind.{flat_map-append}
use Rattle.calvin_types.specs.declared.fault.Fault.{Fault}
use Rattle.calvin_types.specs.declared.fault.Fault.TheVariants.{OutOfMemory}
use Rattle.calvin_types.specs.declared.limits.TheConstants.{MOST_UNDECIDED, MOST_EPOCHS}
use Rattle.calvin_types.specs.declared.place.NodeId.{NodeId}
use Rattle.calvin_types.specs.declared.txn.Txn.{Txn}
use Rattle.calvin_app.specs.Meaning.{Meaning}
use Rattle.calvin_node_acts.specs.declared.act.Act.TheVariants.{Submit, Close}
use Rattle.calvin_script.specs.declared.contents.Request.{Request}
use Rattle.calvin_script.specs.Scripts.{Contents, Listed, requests_of, are_taken}
use Rattle.calvin_world.specs.declared.event.Event.{Event}
use Rattle.calvin_world.specs.declared.event.Event.TheVariants.{At}
use Rattle.calvin_world.specs.Worlds.{WorldState, opening}
use Rattle.calvin_world.specs.SettledWorlds.{settles}
use Rattle.calvin_book.specs.Books.{Log, world_after, Applied, IsRefused}
use Rattle.calvin_sim.specs.Simulations.{sequencer_of, submitting, submitting_epoch, submissions, listed_for}
use Rattle.calvin_sim.specs.Sequencers.{IsOpen, AreOpen}
use Rattle.calvin_sim.proofs.Submitted as sim
use Rattle.calvin_run.specs.Growing.{IsGrown}
use Rattle.calvin_run.proofs.Growing.{world_of, grown_one, grown_then, refused_for_want, new_world}

-- ---- one more of a list

module _ {Args : Type 0} where
  abbrev submit_at : ℕ → Request Args → Event Args
  submit_at g r = At (sequencer_of g) (Submit r.txn)

  requests_more : (g : ℕ) (requests : List (Request Args)) (i : ℕ) (r : Request Args) → i < length requests → r ≡ get_or requests i r → map (submit_at g) (take (i + 1) requests) ≡ map (submit_at g) (take i requests) ++ submit_at g r ∷ []
  requests_more g requests i r within is =
      ap (map (submit_at g)) (take_more requests i r within ∙ ap (λ x. take i requests ++ x ∷ []) (sym is)) ∙ map-append (submit_at g) (take i requests) (r ∷ [])

  groups_more : (f : ℕ → List (Event Args)) (h : ℕ) → flat_map f (range_with_len 0 (h + 1)) ≡ flat_map f (range_with_len 0 h) ++ f h
  groups_more f h =
      let next : h + 1 ≡ suc h = omega arith in
      ap (λ k. flat_map f (range_with_len 0 k)) next ∙ ap (flat_map f) (sim.range_more 0 h ∙ ap (λ k. range_with_len 0 h ++ k ∷ []) (omega arith))
      ∙ flat_map-append f (range_with_len 0 h) (h ∷ []) ∙ ap (λ l. flat_map f (range_with_len 0 h) ++ l) (append-nil (f h))

  epochs_more : (f : List (Listed Args) → List (Event Args)) (epochs : List (List (Listed Args))) (i : ℕ) (epoch : List (Listed Args)) → i < length epochs → epoch ≡ get_or epochs i epoch → flat_map f (take (i + 1) epochs) ≡ flat_map f (take i epochs) ++ f epoch
  epochs_more f epochs i epoch within is =
      ap (flat_map f) (take_more epochs i epoch within ∙ ap (λ x. take i epochs ++ x ∷ []) (sym is))
      ∙ flat_map-append f (take i epochs) (epoch ∷ []) ∙ ap (λ l. flat_map f (take i epochs) ++ l) (append-nil (f epoch))

module _ {Args Row Reply : Type 0} (m : Meaning Args Row Reply) where
  -- ---- batches

  named_event : (g : ℕ) (r : Request Args) (id : NodeId) (t : Txn Args) → id ≡ sequencer_of g → t ≡ r.txn → ◌≡◌ {A = Event Args} (At id (Submit t)) (submit_at g r)
  named_event g r id t at is = λ i. At (at i) (Submit (is i))

  pub one_more : (g : ℕ) (requests : List (Request Args)) (i : ℕ) (r : Request Args) (old middle new : Log Args) (id : NodeId) (t : Txn Args) → i < length requests → r ≡ get_or requests i r → id ≡ sequencer_of g → t ≡ r.txn
      → IsGrown m old (map (λ r. At (sequencer_of g) (Submit r.txn)) (take i requests)) middle → Applied m middle (At id (Submit t)) new → IsGrown m old (map (λ r. At (sequencer_of g) (Submit r.txn)) (take (i + 1) requests)) new
  one_more g requests i r old middle new id t within is at same grown applied =
      subst (λ l. IsGrown m old l new) (sym (requests_more g requests i r within is))
      (grown_then m old middle new (map (submit_at g) (take i requests)) (submit_at g r ∷ []) grown (grown_one m middle (submit_at g r) new (subst (λ event. Applied m middle event new) (named_event g r id t at same) applied)))

  pub batch_done : (g : ℕ) (requests : List (Request Args)) (i : ℕ) (old middle new : Log Args) (id : NodeId) (result : Result (Unit {0}) Fault) → length requests ≤ i → id ≡ sequencer_of g
      → IsGrown m old (map (λ r. At (sequencer_of g) (Submit r.txn)) (take i requests)) middle → OnOk result (Applied m middle (At id Close) new) → OnOk result (IsGrown m old (submitting g requests) new)
  batch_done g requests i old middle new id (Err fault) all at grown applied = tt
  batch_done g requests i old middle new id (Ok out) all at grown applied =
      grown_then m old middle new (map (submit_at g) requests) (At (sequencer_of g) Close ∷ []) (subst (λ l. IsGrown m old (map (submit_at g) l) middle) (take_all i requests all) grown)
      (grown_one m middle (At (sequencer_of g) Close) new (subst (λ x. Applied m middle (At x Close) new) at applied))

  pub request_only : (g : ℕ) (requests : List (Request Args)) (i : ℕ) (r : Request Args) (old middle : Log Args) (id : NodeId) (t : Txn Args) (fault : Fault) → i < length requests → r ≡ get_or requests i r → id ≡ sequencer_of g → t ≡ r.txn
      → IsGrown m old (map (λ r. At (sequencer_of g) (Submit r.txn)) (take i requests)) middle → IsRefused m middle (At id (Submit t)) fault
      → (n e : ℕ) → IsOpen (world_after m old.config old.events) g n e → are_taken requests ≡ true → n + length requests ≤ MOST_UNDECIDED → fault ≡ OutOfMemory
  request_only g requests i r old middle id t fault within is at same grown refused n e o taken room =
      refused_for_want m middle (At id (Submit t)) fault refused
      (λ step. sim.request_only m g requests i r (world_of m old) (world_of m middle) (settles m (world_of m middle) (At id (Submit t))).1 id t fault within is at same grown.takes step n e o taken room)

  pub batch_only : (g : ℕ) (requests : List (Request Args)) (i : ℕ) (old middle : Log Args) (id : NodeId) (result : Result (Unit {0}) Fault) → id ≡ sequencer_of g
      → IsGrown m old (map (λ r. At (sequencer_of g) (Submit r.txn)) (take i requests)) middle → ((fault : Fault) → result ≡ Err fault → IsRefused m middle (At id Close) fault)
      → (n e : ℕ) → IsOpen (world_after m old.config old.events) g n e → e < MOST_EPOCHS → IsOkUnless result OutOfMemory
  batch_only g requests i old middle id (Ok out) at grown refused n e o early = tt
  batch_only g requests i old middle id (Err fault) at grown refused n e o early =
      refused_for_want m middle (At id Close) fault (refused fault refl)
      (λ step. sim.batch_only m g requests i (world_of m old) (world_of m middle) (settles m (world_of m middle) (At id Close)).1 id (Err fault) at grown.takes step n e o early)

  -- ---- epochs

  pub group_more : (epoch : List (Listed Args)) (h : ℕ) (old middle new : Log Args) → IsGrown m old (flat_map (λ g. submitting g (requests_of g epoch)) (range_with_len 0 h)) middle → IsGrown m middle (submitting h (requests_of h epoch)) new
      → IsGrown m old (flat_map (λ g. submitting g (requests_of g epoch)) (range_with_len 0 (h + 1))) new
  group_more epoch h old middle new grown more =
      let f : ℕ → List (Event Args) = (λ g. submitting g (requests_of g epoch)) in
      subst (λ l. IsGrown m old l new) (sym (groups_more f h)) (grown_then m old middle new (flat_map f (range_with_len 0 h)) (f h) grown more)

  pub epoch_more : (partitions : ℕ) (epochs : List (List (Listed Args))) (i : ℕ) (epoch : List (Listed Args)) (old middle new : Log Args) → i < length epochs → epoch ≡ get_or epochs i epoch
      → IsGrown m old (flat_map (submitting_epoch partitions) (take i epochs)) middle → IsGrown m middle (submitting_epoch partitions epoch) new → IsGrown m old (flat_map (submitting_epoch partitions) (take (i + 1) epochs)) new
  epoch_more partitions epochs i epoch old middle new within is grown more =
      let f = submitting_epoch {Args = Args} partitions in
      subst (λ l. IsGrown m old l new) (sym (epochs_more f epochs i epoch within is)) (grown_then m old middle new (flat_map f (take i epochs)) (f epoch) grown more)

  -- the epochs before this one are submitted
  pub epochs_open : (script : Contents Args) (i : ℕ) → i < length script.epochs → (old middle : Log Args) → old.events ≡ [] → 0 < old.config.replicas → old.config.partitions ≡ script.partitions → IsGrown m old (flat_map (submitting_epoch script.partitions) (take i script.epochs)) middle
      → AreOpen (world_after m middle.config middle.events) script.partitions (λ g. listed_for g (take i script.epochs)) i
  epochs_open script i within old middle none some same grown =
      let first = new_world m old none in
      let config : (world_of m old).config ≡ old.config = ap (λ (w : WorldState Args Row Reply). w.config) first in
      sim.epochs_open m script i within (world_of m old) (world_of m middle) (first ∙ ap opening (sym config)) (subst (λ c. 0 < c.replicas) (sym config) some) (ap (λ c. c.partitions) config ∙ same) grown.takes

  -- all are, and nothing else happened
  pub all_done : (script : Contents Args) (i : ℕ) (old new : Log Args) → old.events ≡ [] → length script.epochs ≤ i → IsGrown m old (flat_map (submitting_epoch script.partitions) (take i script.epochs)) new
      → new ≡ record { config = old.config; events = submissions script }
  all_done script i old new none all grown =
      grown.appended ∙ (λ j. record { config = old.config; events = none j ++ flat_map (submitting_epoch script.partitions) (take_all i script.epochs all j) })
