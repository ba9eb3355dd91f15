-- A script's submissions, one event after another.
--     one_more, batch_done, request_only, batch_only      the requests of a batch, and its closing
--     group_more, epoch_only      the batches of an epoch
--     epoch_more, all_only      the epochs of a script
use Rattle.std.proofs.Common.{◌≡◌, ℕ, zero, suc, ◌+◌, ◌<◌, ◌≤◌, Bool, true, false, cond, List, [], ◌∷◌, ◌++◌, map, take, length, append-nil, Result, Ok, Err, IsOkUnless, refl, sym, ap, subst, ◌∙◌, arith}
use Rattle.std.specs.Prelude.{OnOk, nat_le, nat_eq}
use Rattle.std.specs.List.{flat_map, list_all, range_with_len}
use Rattle.std.proofs.Math.ListN.{get_or}
use Rattle.std.proofs.lemmas.Bool.{false≢true, and_parts, leb-true}
use Rattle.std.proofs.lemmas.List.{map-append, take_more, take_all, length-take-le}
use Rattle.std.proofs.lemmas.List.Folds.{list_all_at}
use Rattle.std.proofs.lemmas.List.Sums.{sum_by_more_le}
use Rattle.std.proofs.lemmas.List.FromFn.{length-range_with_len, get_or-range_with_len}
use Rattle.std.proofs.lemmas.Grind.{flat_map-append}
use Rattle.calvin_types.specs.declared.fault.Fault.{Fault}
use Rattle.calvin_types.specs.declared.fault.Fault.TheVariants.{OutOfMemory}
use Rattle.calvin_types.specs.declared.limits.TheConstants.{MOST_UNDECIDED, MOST_EPOCHS}
use Rattle.calvin_types.specs.declared.place.NodeId.{NodeId}
use Rattle.calvin_types.specs.declared.txn.Txn.{Txn}
use Rattle.calvin_types.specs.Submitting.{is_taken}
use Rattle.calvin_app.specs.Meaning.{Meaning}
use Rattle.calvin_node_acts.specs.declared.act.Act.TheVariants.{Submit, Close}
use Rattle.calvin_script.specs.declared.contents.Request.{Request}
use Rattle.calvin_script.specs.Scripts.{Contents, Listed, requests_of, are_taken}
use Rattle.calvin_world.specs.declared.event.Event.{Event}
use Rattle.calvin_world.specs.declared.event.Event.TheVariants.{At}
use Rattle.calvin_world.specs.declared.event.Outcome.{Outcome}
use Rattle.calvin_world.specs.declared.event.Outcome.TheVariants.{Done, Refused}
use Rattle.calvin_world.specs.Worlds.{WorldState, opening}
use Rattle.calvin_world.specs.SettledWorlds.{SettledStep, outcome_of}
use Rattle.calvin_sim.specs.Simulations.{sequencer_of, submitting, submitting_epoch, listed_for, fits, AllDone, AllTaken}
use Rattle.calvin_sim.specs.Sequencers.{IsOpen, AreOpen}
use Rattle.calvin_sim.proofs.Leading.{done_one, done_then}
use Rattle.calvin_sim.proofs.Opened.{submitted_open, all_open, opening_open, submit_only, close_only}

-- what passes of all passes of each
all_pass : {X : Type 0} (p : X → Bool) (xs : List X) (i : ℕ) (d : X) → i < length xs → list_all p xs ≡ true → p (get_or xs i d) ≡ true
all_pass p xs i d within all = go (p (get_or xs i d)) refl
  where
    go : (b : Bool) → p (get_or xs i d) ≡ b → p (get_or xs i d) ≡ true
    go true is = is
    go false is = absurd (false≢true (sym (list_all_at p xs i d within is) ∙ all))

pub range_more : (a n : ℕ) → range_with_len a (suc n) ≡ range_with_len a n ++ (a + n) ∷ []
range_more a zero = ap (λ k. k ∷ []) (omega arith)
range_more a (suc n) = ap (λ l. a ∷ l) (range_more (a + 1) n ∙ ap (λ k. range_with_len (a + 1) n ++ k ∷ []) (omega arith))

module _ {Args Row Reply : Type 0} (m : Meaning Args Row Reply) where
  -- ---- batches

  abbrev submit_at : ℕ → Request Args → Event Args
  submit_at g r = At (sequencer_of g) (Submit r.txn)

  named_step : (w v : WorldState Args Row Reply) (g : ℕ) (r : Request Args) (id : NodeId) (t : Txn Args) (outcome : Outcome) → id ≡ sequencer_of g → t ≡ r.txn → SettledStep m w (At id (Submit t)) outcome v → SettledStep m w (submit_at g r) outcome v
  named_step w v g r id t outcome at is step = subst (λ (x : NodeId × Txn Args). SettledStep m w (At x.0 (Submit x.1)) outcome v) (λ i. (at i, is i)) step

  pub one_more : (g : ℕ) (requests : List (Request Args)) (i : ℕ) (r : Request Args) (w v u : WorldState Args Row Reply) (id : NodeId) (t : Txn Args) → i < length requests → r ≡ get_or requests i r → id ≡ sequencer_of g → t ≡ r.txn
      → AllDone m w (map (λ r. At (sequencer_of g) (Submit r.txn)) (take i requests)) v → SettledStep m v (At id (Submit t)) Done u → AllDone m w (map (λ r. At (sequencer_of g) (Submit r.txn)) (take (i + 1) requests)) u
  one_more g requests i r w v u id t within is at same done step =
      subst (λ l. AllDone m w l u) (sym (ap (map (submit_at g)) (take_more requests i r within ∙ ap (λ x. take i requests ++ x ∷ []) (sym is)) ∙ map-append (submit_at g) (take i requests) (r ∷ [])))
      (done_then m w v u (map (submit_at g) (take i requests)) (submit_at g r ∷ []) done (done_one m v u (submit_at g r) (named_step v u g r id t Done at same step)))

  pub batch_done : (g : ℕ) (requests : List (Request Args)) (i : ℕ) (w v u : WorldState Args Row Reply) (id : NodeId) (result : Result (Unit {0}) Fault) → length requests ≤ i → id ≡ sequencer_of g
      → AllDone m w (map (λ r. At (sequencer_of g) (Submit r.txn)) (take i requests)) v → SettledStep m v (At id Close) (outcome_of result) u → OnOk result (AllDone m w (submitting g requests) u)
  batch_done g requests i w v u id (Err fault) all at done step = tt
  batch_done g requests i w v u id (Ok out) all at done step =
      done_then m w v u (map (submit_at g) requests) (At (sequencer_of g) Close ∷ []) (subst (λ l. AllDone m w (map (submit_at g) l) v) (take_all i requests all) done)
      (done_one m v u (At (sequencer_of g) Close) (subst (λ x. SettledStep m v (At x Close) Done u) at step))

  pub request_only : (g : ℕ) (requests : List (Request Args)) (i : ℕ) (r : Request Args) (w v u : WorldState Args Row Reply) (id : NodeId) (t : Txn Args) (fault : Fault) → i < length requests → r ≡ get_or requests i r → id ≡ sequencer_of g → t ≡ r.txn
      → AllDone m w (map (λ r. At (sequencer_of g) (Submit r.txn)) (take i requests)) v → SettledStep m v (At id (Submit t)) (Refused fault) u
      → (n e : ℕ) → IsOpen w g n e → are_taken requests ≡ true → n + length requests ≤ MOST_UNDECIDED → fault ≡ OutOfMemory
  request_only g requests i r w v u id t fault within is at same done step n e o taken room =
      let some = length-take-le i requests (omega (arith, within)) in
      let passes = ap (λ (x : Request Args). is_taken x.txn) is ∙ all_pass (λ x. is_taken x.txn) requests i r within taken in
      submit_only m v u g (n + length (take i requests)) e r.txn fault (submitted_open m g (take i requests) w v n e o done) passes (omega (arith, some, within, room)) (named_step v u g r id t (Refused fault) at same step)

  pub batch_only : (g : ℕ) (requests : List (Request Args)) (i : ℕ) (w v u : WorldState Args Row Reply) (id : NodeId) (result : Result (Unit {0}) Fault) → id ≡ sequencer_of g
      → AllDone m w (map (λ r. At (sequencer_of g) (Submit r.txn)) (take i requests)) v → SettledStep m v (At id Close) (outcome_of result) u
      → (n e : ℕ) → IsOpen w g n e → e < MOST_EPOCHS → IsOkUnless result OutOfMemory
  batch_only g requests i w v u id (Ok out) at done step n e o early = tt
  batch_only g requests i w v u id (Err fault) at done step n e o early =
      close_only m v u g (n + length (take i requests)) e fault (submitted_open m g (take i requests) w v n e o done) early (subst (λ x. SettledStep m v (At x Close) (Refused fault) u) at step)

  -- ---- epochs

  pub group_more : (epoch : List (Listed Args)) (h : ℕ) (w v u : WorldState Args Row Reply) → AllDone m w (flat_map (λ g. submitting g (requests_of g epoch)) (range_with_len 0 h)) v → AllDone m v (submitting h (requests_of h epoch)) u
      → AllDone m w (flat_map (λ g. submitting g (requests_of g epoch)) (range_with_len 0 (h + 1))) u
  group_more epoch h w v u done more =
      let f : ℕ → List (Event Args) = (λ g. submitting g (requests_of g epoch)) in
      let next : h + 1 ≡ suc h = omega arith in
      subst (λ l. AllDone m w l u)
      (sym (ap (λ k. flat_map f (range_with_len 0 k)) next ∙ ap (flat_map f) (range_more 0 h ∙ ap (λ k. range_with_len 0 h ++ k ∷ []) (omega arith)) ∙ flat_map-append f (range_with_len 0 h) (h ∷ []) ∙ ap (λ l. flat_map f (range_with_len 0 h) ++ l) (append-nil (f h))))
      (done_then m w v u (flat_map f (range_with_len 0 h)) (f h) done more)

  pub epoch_more : (partitions : ℕ) (epochs : List (List (Listed Args))) (i : ℕ) (epoch : List (Listed Args)) (w v u : WorldState Args Row Reply) → i < length epochs → epoch ≡ get_or epochs i epoch
      → AllDone m w (flat_map (submitting_epoch partitions) (take i epochs)) v → AllDone m v (submitting_epoch partitions epoch) u → AllDone m w (flat_map (submitting_epoch partitions) (take (i + 1) epochs)) u
  epoch_more partitions epochs i epoch w v u within is done more =
      let f = submitting_epoch {Args = Args} partitions in
      subst (λ l. AllDone m w l u)
      (sym (ap (flat_map f) (take_more epochs i epoch within ∙ ap (λ x. take i epochs ++ x ∷ []) (sym is)) ∙ flat_map-append f (take i epochs) (epoch ∷ []) ∙ ap (λ l. flat_map f (take i epochs) ++ l) (append-nil (f epoch))))
      (done_then m w v u (flat_map f (take i epochs)) (f epoch) done more)

-- ---- what is so of each batch of a script that fits

module _ {Args : Type 0} where
  taken_of : (g : ℕ) (epoch : List (Listed Args)) → list_all (λ (b : Listed Args). are_taken b.requests) epoch ≡ true → are_taken (requests_of g epoch) ≡ true
  taken_of g [] all = refl
  taken_of g (b ∷ bs) all =
      let parts = and_parts (are_taken b.requests) (list_all (λ (b : Listed Args). are_taken b.requests) bs) all in
      go (nat_eq b.group g) parts.0 (taken_of g bs parts.1)
    where
      go : (c : Bool) → are_taken b.requests ≡ true → are_taken (requests_of g bs) ≡ true → are_taken (cond c b.requests (requests_of g bs)) ≡ true
      go true here there = here
      go false here there = there

  module _ (script : Contents Args) (taken : AllTaken script) (fit : fits script ≡ true) (i : ℕ) (epoch : List (Listed Args)) (within : i < length script.epochs) (is : epoch ≡ get_or script.epochs i epoch) where
    abbrev f : ℕ → List (Listed Args) → ℕ
    f g x = length (requests_of g x)

    abbrev parts : (list_all (λ g. nat_le (listed_for g script.epochs) MOST_UNDECIDED) (range_with_len 0 script.partitions) ≡ true) × (nat_le (length script.epochs) MOST_EPOCHS ≡ true)
    parts = and_parts (list_all (λ g. nat_le (listed_for g script.epochs) MOST_UNDECIDED) (range_with_len 0 script.partitions)) (nat_le (length script.epochs) MOST_EPOCHS) fit

    pub epoch_taken : (g : ℕ) → are_taken (requests_of g epoch) ≡ true
    epoch_taken g = taken_of g epoch (ap (list_all (λ (b : Listed Args). are_taken b.requests)) is ∙ all_pass (λ x. list_all (λ (b : Listed Args). are_taken b.requests) x) script.epochs i epoch within taken)

    pub epoch_room : (g : ℕ) → g < script.partitions → listed_for g (take i script.epochs) + length (requests_of g epoch) ≤ MOST_UNDECIDED
    epoch_room g less =
        let here = all_pass (λ h. nat_le (listed_for h script.epochs) MOST_UNDECIDED) (range_with_len 0 script.partitions) g g (subst (λ n. g < n) (sym (length-range_with_len 0 script.partitions)) less) parts.0 in
        let at : get_or (range_with_len 0 script.partitions) g g ≡ g = get_or-range_with_len 0 script.partitions g g less ∙ omega arith in
        let most : listed_for g script.epochs ≤ MOST_UNDECIDED = leb-true (listed_for g script.epochs) MOST_UNDECIDED (ap (λ h. nat_le (listed_for h script.epochs) MOST_UNDECIDED) (sym at) ∙ here) in
        let more = sum_by_more_le (f g) script.epochs i epoch within in
        let same = ap (f g) is in
        omega (arith, most, more, same)

    pub epoch_early : i < MOST_EPOCHS
    epoch_early = let most : length script.epochs ≤ MOST_EPOCHS = leb-true (length script.epochs) MOST_EPOCHS parts.1 in omega (arith, most, within)

module _ {Args Row Reply : Type 0} (m : Meaning Args Row Reply) where
  -- the epochs before this one are submitted
  pub epochs_open : (script : Contents Args) (i : ℕ) → i < length script.epochs → (w v : WorldState Args Row Reply) → w ≡ opening w.config → 0 < w.config.replicas → w.config.partitions ≡ script.partitions → AllDone m w (flat_map (submitting_epoch script.partitions) (take i script.epochs)) v
      → AreOpen v script.partitions (λ g. listed_for g (take i script.epochs)) i
  epochs_open script i within w v first some same done g less =
      let at_first : AreOpen w script.partitions (λ h. 0) 0 = (λ h low. subst (λ u. IsOpen u h 0 0) (sym first) (opening_open m w.config some h (subst (λ n. h < n) (sym same) low))) in
      let o = all_open m script.partitions (take i script.epochs) (λ h. 0) 0 w v at_first done g less in
      let some_epochs = length-take-le i script.epochs (omega (arith, within)) in
      subst (λ (k : ℕ × ℕ). IsOpen v g k.0 k.1) (λ j. (none_before (listed_for g (take i script.epochs)) j, (none_before (length (take i script.epochs)) ∙ some_epochs) j)) o
    where
      none_before : (n : ℕ) → 0 + n ≡ n
      none_before n = omega arith
