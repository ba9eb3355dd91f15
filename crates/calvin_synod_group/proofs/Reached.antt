-- What holds of a group that some events led to.
use Rattle.std.proofs.Common.{◌≡◌, ◌<◌, ◌≤◌, ℕ, ◌+◌, List, [], ◌∷◌, ◌++◌, length, get_or, take, drop, sym, ap, ◌∙◌, subst}
use Rattle.std.proofs.lemmas.List.{take_more, take_all}
use Rattle.std.proofs.Math.Seq.{take-append_seam}
use Rattle.std.specs.List.{Contains}
use Rattle.calvin_types.specs.declared.place.Slot.{Slot}
use Rattle.calvin_synod_group.specs.declared.event.GroupEvent.{GroupEvent}
use Rattle.calvin_synod_group.specs.declared.event.Outcome.{Outcome}
use Rattle.calvin_synod_group.specs.declared.event.Outcome.TheVariants.{Gave}
use Rattle.calvin_synod_group.specs.Groups.{GroupState, opening, Step, Leads, IsReached, IsBeginning, Chosen}
use Rattle.calvin_synod_group.specs.declared.packet.Packet.{Packet}
use Rattle.calvin_synod.specs.Deeds.{MemberState}
use Rattle.calvin_synod_group.specs.Deeds.{IsGroup, group_of}
use Rattle.calvin_synod_group.proofs.Events.{Kept, opening_kept}
use Rattle.calvin_synod_group.proofs.Runs.{leads_on, leads_through, leads_keeps, kept_one, one_chosen, gave_is_chosen}

module _ {B : Type 0} where
  pub reached_on : (size : ℕ) (w : GroupState B) → IsReached size w → (event : GroupEvent B) (outcome : Outcome B) (after : GroupState B) → Step w event outcome after → IsReached size after
  reached_on size w reached event outcome after step = record { events = reached.events ++ event ∷ []; outcomes = reached.outcomes ++ outcome ∷ []; led = leads_on (opening size) reached.events reached.outcomes w event outcome after reached.led step }

  pub reached_one : (size : ℕ) (w : GroupState B) → IsReached size w → (slot : Slot) (x y : B) → Chosen w slot x → Chosen w slot y → x ≡ y
  reached_one size w reached slot x y p q = one_chosen size reached.events reached.outcomes w reached.led slot x y p q

  pub reached_gives : (size : ℕ) (w : GroupState B) → IsReached size w → (events : List (GroupEvent B)) (outcomes : List (Outcome B)) (after : GroupState B) → Leads w events outcomes after → (slot : Slot) (batch : B) → Contains outcomes (Gave slot batch) → Chosen after slot batch
  reached_gives size w reached events outcomes after run slot batch c = gave_is_chosen w events outcomes after (leads_keeps (opening size) reached.events reached.outcomes w (opening_kept size) reached.led) run slot batch c

  -- ---- the members after a loan of them as a slice

  whole_again : (size len : ℕ) (items seen new : List (MemberState B)) → length seen ≡ len → seen ≡ items → IsGroup size items → IsGroup size new → take len (new ++ drop (length new) items) ≡ new
  whole_again size len items seen new counted same before after =
      let as_long : length new ≡ len = after.all_there ∙ sym before.all_there ∙ ap (λ (ms : List (MemberState B)). length ms) (sym same) ∙ counted in
      subst (λ n. take n (new ++ drop (length new) items) ≡ new) as_long (take-append_seam new (drop (length new) items))

  pub stays_reached : (size len : ℕ) (items seen new : List (MemberState B)) (packets sent : List (Packet B)) → length seen ≡ len → seen ≡ items → IsGroup size items × IsReached size (group_of items packets) → IsGroup size new
      → (event : GroupEvent B) (outcome : Outcome B) → Step (group_of seen packets) event outcome (group_of new sent)
      → IsGroup size (take len (new ++ drop (length new) items)) × IsReached size (group_of (take len (new ++ drop (length new) items)) sent)
  stays_reached size len items seen new packets sent counted same before after event outcome step =
      subst (λ (ms : List (MemberState B)). IsGroup size ms × IsReached size (group_of ms sent)) (sym (whole_again size len items seen new counted same before.0 after))
      (after, reached_on size (group_of items packets) before.1 event outcome (group_of new sent) (subst (λ (ms : List (MemberState B)). Step (group_of ms packets) event outcome (group_of new sent)) same step))

  pub steps : (size len : ℕ) (items seen new : List (MemberState B)) (packets sent : List (Packet B)) → length seen ≡ len → seen ≡ items → IsGroup size items × IsReached size (group_of items packets) → IsGroup size new
      → (w : GroupState B) → group_of items packets ≡ w → (event now : GroupEvent B) → now ≡ event → (outcome : Outcome B) → Step (group_of seen packets) event outcome (group_of new sent)
      → Step w now outcome (group_of (take len (new ++ drop (length new) items)) sent)
  steps size len items seen new packets sent counted same before after w view event now is outcome step =
      subst (λ (ms : List (MemberState B)). Step w now outcome (group_of ms sent)) (sym (whole_again size len items seen new counted same before.0 after))
      (subst (λ (y : GroupState B × GroupEvent B). Step y.0 y.1 outcome (group_of new sent)) (λ k. ((ap (λ (ms : List (MemberState B)). group_of ms packets) same ∙ view) k, sym is k)) step)

  -- ---- a list of events, up to one of them

  pub led_on : (initial : GroupState B) (events : List (GroupEvent B)) (i : ℕ) (event : GroupEvent B) → i < length events → event ≡ get_or events i event → (outcomes : List (Outcome B)) (w : GroupState B) → Leads initial (take i events) outcomes w
      → (outcome told : Outcome B) (after : GroupState B) → Step w event outcome after → told ≡ outcome → (all : List (Outcome B)) → all ≡ outcomes ++ told ∷ [] → Leads initial (take (i + 1) events) all after
  led_on initial events i event within read outcomes w led outcome told after step same all pushed =
      let one_more : take i events ++ event ∷ [] ≡ take (i + 1) events = ap (λ (e : GroupEvent B). take i events ++ e ∷ []) read ∙ sym (take_more events i event within) in
      subst (λ (y : List (GroupEvent B) × List (Outcome B)). Leads initial y.0 y.1 after)
      (λ k. (one_more k, (ap (λ (o : Outcome B). outcomes ++ o ∷ []) (sym same) ∙ sym pushed) k))
      (leads_on initial (take i events) outcomes w event outcome after led step)

  led_all : (initial : GroupState B) (events : List (GroupEvent B)) (i : ℕ) → length events ≤ i → (outcomes : List (Outcome B)) (after : GroupState B) → Leads initial (take i events) outcomes after → Leads initial events outcomes after
  led_all initial events i past outcomes after led = subst (λ (es : List (GroupEvent B)). Leads initial es outcomes after) (take_all i events past) led

  pub run_gives : (size : ℕ) (w : GroupState B) → IsReached size w → (initial : GroupState B) → w ≡ initial → (events : List (GroupEvent B)) (i : ℕ) → length events ≤ i → (outcomes : List (Outcome B)) (after : GroupState B) → Leads initial (take i events) outcomes after
      → (slot : Slot) (batch : B) → Contains outcomes (Gave slot batch) → Chosen after slot batch
  run_gives size w reached initial view events i past outcomes after led slot batch c = reached_gives size initial (subst (λ v. IsReached size v) view reached) events outcomes after (led_all initial events i past outcomes after led) slot batch c

  pub run_one : (size : ℕ) (w : GroupState B) → IsReached size w → (initial : GroupState B) → w ≡ initial → (events : List (GroupEvent B)) (outcomes : List (Outcome B)) (after : GroupState B) → Leads initial events outcomes after
      → (slot : Slot) (x y : B) → Chosen after slot x → Chosen after slot y → x ≡ y
  run_one size w reached initial view events outcomes after led slot x y p q = kept_one after (leads_keeps initial events outcomes after (subst (λ v. Kept v) view (leads_keeps (opening size) reached.events reached.outcomes w (opening_kept size) reached.led)) led) slot x y p q

  pub still_one : (size : ℕ) (w : GroupState B) → IsReached size w → (initial : GroupState B) → w ≡ initial → (slot : Slot) (x y : B) → Chosen initial slot x → Chosen initial slot y → x ≡ y
  still_one size w reached initial view slot x y p q = reached_one size initial (subst (λ v. IsReached size v) view reached) slot x y p q

  -- a beginning of the events that ran
  pub run_begins : (size : ℕ) (w : GroupState B) → IsReached size w → (initial : GroupState B) → w ≡ initial → (events : List (GroupEvent B)) (i : ℕ) → length events ≤ i → (outcomes : List (Outcome B)) (after : GroupState B) → Leads initial (take i events) outcomes after
      → (early late : List (GroupEvent B)) → events ≡ early ++ late → IsBeginning initial early late outcomes after
  run_begins size w reached initial view events i past outcomes after led early late split =
      let through = leads_through initial early late outcomes after (subst (λ (es : List (GroupEvent B)). Leads initial es outcomes after) split (led_all initial events i past outcomes after led)) in
      record {
        then = through.0;
        first = through.1;
        rest = through.2;
        outcomes_are = through.3;
        led = through.4;
        led_on = through.5;
        given = reached_gives size initial (subst (λ v. IsReached size v) view reached) early through.1 through.0 through.4;
        one = run_one size w reached initial view early through.1 through.0 through.4;
      }
