-- Events in little room.
--     kept_new      at first there are none
--     kept_number      as many events as steps
--     kept_at, kept_past      the event at a place is that of the step there, if there is one
--     kept_same      more room changes nothing
--     take_past      where nothing is at a place, those before it are all
--     pushed_with, pushed_alone      one event more, with a request or without
--     submits, submits_cold      the step of an event that submits a request
use Rattle.std.proofs.Common.{◌≡◌, ℕ, zero, suc, false, ltb, List, [], ◌∷◌, ◌++◌, length, take, Option, Some, None, slice_get, refl, sym, ap, subst, ◌∙◌, arith}
use Rattle.std.proofs.lemmas.Bool.{ltb-false}
use Rattle.std.proofs.lemmas.Option.{none-some, slice_get_past}
use Rattle.std.specs.Option.{option_map}
use Rattle.calvin_types.specs.declared.place.NodeId.{NodeId}
use Rattle.calvin_types.specs.declared.txn.Txn.{Txn}
use Rattle.calvin_node_acts.specs.declared.act.Act.{Act}
use Rattle.calvin_node_acts.specs.declared.act.Act.TheVariants as act
use Rattle.calvin_world.specs.declared.event.Event.{Event}
use Rattle.calvin_world.specs.declared.event.Event.TheVariants as event
use Rattle.calvin_book.specs.declared.step.Step.{Step}
use Rattle.calvin_book.specs.declared.step.Step.TheVariants as step
use Rattle.calvin_book.specs.Kept.{event_of, events_of, before, request_of, HasRequest, AreEvents}

pub take_past : {X : Type 0} (xs : List X) (k : ℕ) → None ≡ slice_get xs k → take k xs ≡ xs
take_past [] zero none = refl
take_past [] (suc k) none = refl
take_past (x ∷ xs) zero none = absurd (none-some x none)
take_past (x ∷ xs) (suc k) none = ap (λ ys. x ∷ ys) (take_past xs k none)

some_same : {X : Type 0} (a b : X) → Some a ≡ Some b → a ≡ b
some_same a b e = cc

none_kept : {Args : Type 0} → AreEvents {Args = Args} [] []
none_kept k s at = absurd (none-some _ at)

pub kept_new : {Args : Type 0} (txns : List (Txn Args)) (steps : List Step) → txns ≡ [] → steps ≡ [] → AreEvents txns steps × (events_of txns steps ≡ [])
kept_new txns steps no_txns no_steps =
    let same : (txns, steps) ≡ ([], []) = λ i. (no_txns i, no_steps i) in
    subst (λ (k : List (Txn _) × List Step). AreEvents k.0 k.1 × (events_of k.0 k.1 ≡ [])) (sym same) (none_kept, refl)

module _ {Args : Type 0} where
  rest : (txns : List (Txn Args)) (s : Step) (steps : List Step) → AreEvents txns (s ∷ steps) → AreEvents txns steps
  rest txns s steps all k t at = all (suc k) t at

  first_is : (txns : List (Txn Args)) (s : Step) (steps : List Step) (all : AreEvents txns (s ∷ steps)) → events_of txns (s ∷ steps) ≡ (all 0 s refl).0 ∷ events_of txns steps
  first_is txns s steps all = ap (λ e. before e (events_of txns steps)) (all 0 s refl).1

  pub kept_number : (txns : List (Txn Args)) (steps : List Step) → AreEvents txns steps → length (events_of txns steps) ≡ length steps
  kept_number txns [] all = refl
  kept_number txns (s ∷ steps) all = ap length (first_is txns s steps all) ∙ ap suc (kept_number txns steps (rest txns s steps all))

  pub kept_at : (txns : List (Txn Args)) (steps : List Step) → AreEvents txns steps → (k : ℕ) (s : Step) → slice_get steps k ≡ Some s → event_of txns s ≡ slice_get (events_of txns steps) k
  kept_at txns [] all k s at = absurd (none-some _ at)
  kept_at txns (a ∷ steps) all zero s at =
      ap (event_of txns) (sym (some_same a s at)) ∙ (all 0 a refl).1 ∙ sym (ap (λ es. slice_get es 0) (first_is txns a steps all))
  kept_at txns (a ∷ steps) all (suc k) s at =
      kept_at txns steps (rest txns a steps all) k s at ∙ sym (ap (λ es. slice_get es (suc k)) (first_is txns a steps all))

  pub kept_past : (txns : List (Txn Args)) (steps : List Step) → AreEvents txns steps → (ns : List Step) → ns ≡ steps → (k : ℕ) → false ≡ ltb k (length ns) → slice_get (events_of txns steps) k ≡ None
  kept_past txns steps all ns ns_is k past =
      let not_below = ltb-false k (length ns) (sym past) in
      let number = kept_number txns steps all in
      slice_get_past (events_of txns steps) k (omega (arith, not_below, number, ap length ns_is))

  pub kept_same : (txns : List (Txn Args)) (steps : List Step) → AreEvents txns steps → (ts : List (Txn Args)) (now : List Step) → ts ≡ txns → now ≡ steps → AreEvents ts now × (events_of ts now ≡ events_of txns steps)
  kept_same txns steps all ts now ts_is now_is =
      let same : (ts, now) ≡ (txns, steps) = λ i. (ts_is i, now_is i) in
      subst (λ (k : List (Txn Args) × List Step). AreEvents k.0 k.1 × (events_of k.0 k.1 ≡ events_of txns steps)) (sym same) (all, refl)

  -- ---- one request more

  more_at : (txns more : List (Txn Args)) (n : ℕ) (f : Txn Args → Event Args) (e : Event Args) → option_map f (slice_get txns n) ≡ Some e → option_map f (slice_get (txns ++ more) n) ≡ Some e
  more_at [] more n f e is = absurd (none-some _ is)
  more_at (t ∷ txns) more zero f e is = is
  more_at (t ∷ txns) more (suc n) f e is = more_at txns more n f e is

  event_more : (txns more : List (Txn Args)) (s : Step) (e : Event Args) → event_of txns s ≡ Some e → event_of (txns ++ more) s ≡ Some e
  event_more txns more (step.Submit id n) e is = more_at txns more n (λ txn. event.At id (act.Submit txn)) e is
  event_more txns more (step.SubmitCold id n) e is = more_at txns more n (λ txn. event.At id (act.SubmitCold txn)) e is
  event_more txns more (step.Cool id key) e is = is
  event_more txns more (step.Close id) e is = is
  event_more txns more (step.Merge id) e is = is
  event_more txns more (step.Lock id) e is = is
  event_more txns more (step.Restart id) e is = is
  event_more txns more (step.Propose id epoch) e is = is
  event_more txns more (step.Snapshot id epoch) e is = is
  event_more txns more (step.Mark id epoch) e is = is
  event_more txns more (step.Begin id place) e is = is
  event_more txns more (step.Finish id place) e is = is
  event_more txns more (step.AskForReads id place replica) e is = is
  event_more txns more (step.AskForBatch id slot of) e is = is
  event_more txns more (step.Deliver n) e is = is

  pub still_events : (txns more : List (Txn Args)) (steps : List Step) → AreEvents txns steps → AreEvents (txns ++ more) steps
  still_events txns more steps all k s at = ((all k s at).0, event_more txns more s (all k s at).0 (all k s at).1)

  pub same_events : (txns more : List (Txn Args)) (steps : List Step) → AreEvents txns steps → events_of (txns ++ more) steps ≡ events_of txns steps
  same_events txns more [] all = refl
  same_events txns more (s ∷ steps) all =
      ap (λ e. before e (events_of (txns ++ more) steps)) (event_more txns more s (all 0 s refl).0 (all 0 s refl).1)
      ∙ ap (λ es. (all 0 s refl).0 ∷ es) (same_events txns more steps (rest txns s steps all))
      ∙ sym (first_is txns s steps all)

  -- ---- one step more

  step_more : (txns : List (Txn Args)) (steps : List Step) (s : Step) (e : Event Args) → event_of txns s ≡ Some e → events_of txns (steps ++ s ∷ []) ≡ events_of txns steps ++ e ∷ []
  step_more txns [] s e is = ap (λ x. before x []) is
  step_more txns (a ∷ steps) s e is = ap (before (event_of txns a)) (step_more txns steps s e is) ∙ along (event_of txns a)
    where
      along : (x : Option (Event Args)) → before x (events_of txns steps ++ e ∷ []) ≡ before x (events_of txns steps) ++ e ∷ []
      along None = refl
      along (Some event) = refl

  still_more : (txns : List (Txn Args)) (steps : List Step) → AreEvents txns steps → (s : Step) (e : Event Args) → event_of txns s ≡ Some e → AreEvents txns (steps ++ s ∷ [])
  still_more txns [] all s e is zero t at = (e, ap (event_of txns) (sym (some_same s t at)) ∙ is)
  still_more txns [] all s e is (suc k) t at = absurd (none-some _ at)
  still_more txns (a ∷ steps) all s e is zero t at = all 0 t at
  still_more txns (a ∷ steps) all s e is (suc k) t at = still_more txns steps (rest txns a steps all) s e is k t at

  pushed : (txns more : List (Txn Args)) (steps : List Step) → AreEvents txns steps → (s : Step) (e : Event Args) → event_of (txns ++ more) s ≡ Some e
      → AreEvents (txns ++ more) (steps ++ s ∷ []) × (events_of (txns ++ more) (steps ++ s ∷ []) ≡ events_of txns steps ++ e ∷ [])
  pushed txns more steps all s e is = (
    still_more (txns ++ more) steps (still_events txns more steps all) s e is,
    step_more (txns ++ more) steps s e is ∙ ap (λ es. es ++ e ∷ []) (same_events txns more steps all),
  )

  at_end : (txns : List (Txn Args)) (t : Txn Args) → slice_get (txns ++ t ∷ []) (length txns) ≡ Some t
  at_end [] t = refl
  at_end (u ∷ txns) t = at_end txns t

  -- what is kept after an event: its step behind the others, and its request, if it has one, behind the others
  module _ (txns : List (Txn Args)) (steps : List Step) (all : AreEvents txns steps) (n : ℕ) (n_is : n ≡ length txns) (e : Event Args) (s : Step) (step_is : (ts : List (Txn Args)) → HasRequest ts n e → event_of ts s ≡ Some e)
      (now : List Step) (now_is : now ≡ steps ++ s ∷ []) where
    pub pushed_with : (t : Txn Args) → request_of e ≡ Some t → (ts : List (Txn Args)) → ts ≡ txns ++ t ∷ [] → AreEvents ts now × (events_of ts now ≡ events_of txns steps ++ e ∷ [])
    pushed_with t has ts ts_is =
        let there : HasRequest (txns ++ t ∷ []) n e = λ u is. ap (slice_get (txns ++ t ∷ [])) n_is ∙ at_end txns t ∙ sym has ∙ is in
        let same : (ts, now) ≡ (txns ++ t ∷ [], steps ++ s ∷ []) = λ i. (ts_is i, now_is i) in
        subst (λ (k : List (Txn Args) × List Step). AreEvents k.0 k.1 × (events_of k.0 k.1 ≡ events_of txns steps ++ e ∷ [])) (sym same)
        (pushed txns (t ∷ []) steps all s e (step_is (txns ++ t ∷ []) there))

    pub pushed_alone : request_of e ≡ None → AreEvents txns now × (events_of txns now ≡ events_of txns steps ++ e ∷ [])
    pushed_alone without =
        let is = step_is txns (λ u has. absurd (none-some u (sym without ∙ has))) in
        subst (λ (k : List Step). AreEvents txns k × (events_of txns k ≡ events_of txns steps ++ e ∷ [])) (sym now_is)
        (still_more txns steps all s e is, step_more txns steps s e is)

  -- ---- the step of an event

  pub submits : (txns : List (Txn Args)) (n : ℕ) (id : NodeId) (a : Act Args) (txn : Txn Args) → a ≡ act.Submit txn → HasRequest txns n (event.At id a) → event_of txns (step.Submit id n) ≡ Some (event.At id a)
  submits txns n id a txn is =
      subst (λ (x : Act Args). HasRequest txns n (event.At id x) → event_of txns (step.Submit id n) ≡ Some (event.At id x)) (sym is) (λ has. ap (option_map (λ t. event.At id (act.Submit t))) (has txn refl))

  pub submits_cold : (txns : List (Txn Args)) (n : ℕ) (id : NodeId) (a : Act Args) (txn : Txn Args) → a ≡ act.SubmitCold txn → HasRequest txns n (event.At id a) → event_of txns (step.SubmitCold id n) ≡ Some (event.At id a)
  submits_cold txns n id a txn is =
      subst (λ (x : Act Args). HasRequest txns n (event.At id x) → event_of txns (step.SubmitCold id n) ≡ Some (event.At id x)) (sym is) (λ has. ap (option_map (λ t. event.At id (act.SubmitCold t))) (has txn refl))
