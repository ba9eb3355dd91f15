-- What a call makes of a book.
--     err_kept      a refusal leaves it
--     ok_kept, ok_applied      an event that took effect
--     on_err, same_err, why_refused      what is answered
use Rattle.std.proofs.Common.{◌≡◌, ℕ, List, [], ◌∷◌, ◌++◌, length, Result, Ok, Err, sym, ap, subst, ◌∙◌}
use Rattle.std.specs.Prelude.{OnErr}
use Rattle.calvin_types.specs.declared.fault.Fault.{Fault}
use Rattle.calvin_app.specs.Meaning.{Meaning, WritesWithin}
use Rattle.calvin_order.specs.Configs.{Config}
use Rattle.calvin_node_packets.specs.declared.packet.Packet.{Packet}
use Rattle.calvin_world.specs.declared.event.Event.{Event}
use Rattle.calvin_world.specs.declared.event.Outcome.TheVariants.{Done, Refused}
use Rattle.calvin_world.specs.Worlds.{WorldState, opening}
use Rattle.calvin_world.specs.SettledWorlds.{SettledStep}
use Rattle.calvin_world.proofs.SettledLaws.{config_in_code}
use Rattle.calvin_book.specs.Books.{Log, done_each, IsRun, world_after, Applied, IsRefused, CountsSent}
use Rattle.calvin_book.proofs.Runs.{run_more, run_is, refused_why, applied, counted_none, counted_more}

pub on_err : (P : Type 0) → P → (r : Result (Unit {0}) Fault) → OnErr r P
on_err P p (Ok out) = tt
on_err P p (Err fault) = p

pub same_err : {X : Type 0} (a b : Fault) → ◌≡◌ {A = Result X Fault} (Err a) (Err b) → a ≡ b
same_err a b e = cc

module _ {Args Row Reply : Type 0} (m : Meaning Args Row Reply) (w : WorldState Args Row Reply) (events : List (Event Args)) (run : IsRun m w.config events w) where
  abbrev log : Log Args
  log = record { config = w.config; events = events }

  pub after_is : (now : Log Args) → log ≡ now → w ≡ world_after m now.config now.events
  after_is now is = run_is m w.config events w run ∙ (λ i. world_after m (is i).config (is i).events)

  pub why_refused : (event : Event Args) (f : Fault) (v : WorldState Args Row Reply) → SettledStep m w event (Refused f) v → (now : Log Args) → log ≡ now → IsRefused m now event f
  why_refused event f v step now is = subst (λ (k : Log Args). IsRefused m k event f) is (refused_why m (world_after m w.config events) event f v (subst (λ (u : WorldState Args Row Reply). SettledStep m u event (Refused f) v) (run_is m w.config events w run) step))

  module _ (sent : List ℕ) (counted : CountsSent m w.config events sent) (es : List (Event Args)) (ss : List ℕ) (es_is : es ≡ events) (ss_is : ss ≡ sent) (v : WorldState Args Row Reply) where
    pub err_kept : v ≡ w → IsRun m v.config es v × CountsSent m v.config es ss
    err_kept same =
        let all : (v, (es, ss)) ≡ (w, (events, sent)) = λ i. (same i, (es_is i, ss_is i)) in
        subst (λ (k : WorldState Args Row Reply × (List (Event Args) × List ℕ)). IsRun m k.0.config k.1.0 k.0 × CountsSent m k.0.config k.1.0 k.1.1) (sym all) (run, counted)

    pub err_view : v ≡ w → ◌≡◌ {A = Log Args} (record { config = v.config; events = es }) log
    err_view same = λ i. record { config = (same i).config; events = es_is i }

    module _ (law : WritesWithin m) (event told : Event Args) (told_is : told ≡ event) (fs : List (Event Args)) (fs_is : fs ≡ es ++ told ∷ []) (step : SettledStep m w event Done v) where
      more : IsRun m w.config (events ++ event ∷ []) v
      more = run_more m w.config events w event v run step

      same_config : v.config ≡ w.config
      same_config = config_in_code m law w.config (events ++ event ∷ []) (done_each (events ++ event ∷ [])) v more

      all_events : fs ≡ events ++ event ∷ []
      all_events = fs_is ∙ (λ i. es_is i ++ told_is i ∷ [])

      pub ok_kept : (ps : List (Packet Args Row Reply)) → ps ≡ v.packets → (ts : List ℕ) → ts ≡ ss ++ length ps ∷ [] → IsRun m v.config fs v × CountsSent m v.config fs ts
      ok_kept ps ps_is ts ts_is =
          let all_sent : ts ≡ sent ++ length ps ∷ [] = ts_is ∙ (λ i. ss_is i ++ length ps ∷ []) in
          let all : (v.config, (fs, ts)) ≡ (w.config, (events ++ event ∷ [], sent ++ length ps ∷ [])) = λ i. (same_config i, (all_events i, all_sent i)) in
          subst (λ (k : Config × (List (Event Args) × List ℕ)). IsRun m k.0 k.1.0 v × CountsSent m k.0 k.1.0 k.1.1) (sym all)
          (more, counted_more m w.config events sent counted event v more (length ps) (ap length ps_is))

      pub ok_applied : (now : Log Args) → log ≡ now → Applied m now event (record { config = v.config; events = fs })
      ok_applied now is =
          subst (λ (k : Log Args × Log Args). Applied m k.0 event k.1) (λ i. (is i, record { config = sym same_config i; events = sym all_events i }))
          (applied m w.config events w event v run step)

-- at first nothing happened
module _ {Args Row Reply : Type 0} (m : Meaning Args Row Reply) (w : WorldState Args Row Reply) (k : Config) (opened : w ≡ opening k) where
  at_first : IsRun m w.config [] w × CountsSent m w.config [] []
  at_first = (opened ∙ ap opening (sym (ap (λ (v : WorldState Args Row Reply). v.config) opened)), counted_none m w.config)

  pub new_kept : (es : List (Event Args)) (ss : List ℕ) → es ≡ [] → ss ≡ [] → IsRun m w.config es w × CountsSent m w.config es ss
  new_kept es ss none nothing =
      let all : (es, ss) ≡ ([], []) = λ i. (none i, nothing i) in
      subst (λ (q : List (Event Args) × List ℕ). IsRun m w.config q.0 w × CountsSent m w.config q.0 q.1) (sym all) at_first
