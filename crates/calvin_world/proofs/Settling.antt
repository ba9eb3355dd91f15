-- The first node that merges an epoch settles it: the order grows by what it holds.
use Rattle.std.proofs.Common.{◌≡◌, ◌≢◌, ℕ, suc, ◌-◌, ◌<◌, ◌≤◌, [], ◌++◌, map, ◌⊎◌, inl, inr, refl, sym, ap, ◌∙◌, subst, arith, append_assoc, true, false, cond, Option, Some, None}
use Rattle.std.specs.Prelude.{slice_get, nat_lt, unwrap_or}
use Rattle.std.specs.FinMap.{get, empty}
use Rattle.std.proofs.lemmas.Bool.{cases_lt}
use Rattle.calvin_app.specs.Meaning.{Meaning, WritesWithin}
use Rattle.calvin_node_acts.specs.NodeStates.{NodeState}
use Rattle.calvin_order.proofs.Places.{before_end}
use Rattle.calvin_order.proofs.Epochs.{stretch_on, stretch_same, stretch_rises, stretch_stands}
use Rattle.calvin_order.specs.Configs.{stretch, order}
use Rattle.calvin_order.specs.Merged.{Batch, Assignment, end_of}
use Rattle.calvin_types.specs.Orders.{Order, StandsAt, Rises}
use Rattle.calvin_types.specs.declared.place.Slot.{Slot}
use Rattle.calvin_world.specs.Promises.{held_by, loaded_epochs, Chosen}
use Rattle.calvin_world.specs.Worlds.{WorldState}
use Rattle.calvin_bench.specs.Lives
use Rattle.calvin_order.proofs.Standing.{stands_left}
use Rattle.calvin_bench.proofs.ManyReplicas.{settle_keeps}
use Rattle.calvin_bench.proofs.Lists.{map_twice}
use Rattle.calvin_world.proofs.Kept.{Kept}
use Rattle.calvin_sched.specs.Standing.{local_places}
use Rattle.calvin_bench.specs.Turns.{site_of}
use Rattle.calvin_world.proofs.Mirror.{Passed, since, mirror_node, mirror, Mirrored}

is_less : (a b : ℕ) → a < b → nat_lt a b ≡ true
is_less a b h = grind arith

not_less : (a b : ℕ) → b ≤ a → nat_lt a b ≡ false
not_less a b h = grind arith

module _ {Args : Type 0} where
  -- one assignment for the first epochs, another from there on
  abbrev spliced : ℕ → Assignment Args → Assignment Args → Assignment Args
  spliced n B C slot = cond (nat_lt slot.epoch n) (B slot) (C slot)

  early : (n : ℕ) (B C : Assignment Args) (slot : Slot) → slot.epoch < n → spliced n B C slot ≡ B slot
  early n B C slot h = ap (λ b. cond b (B slot) (C slot)) (is_less slot.epoch n h)

  late : (n : ℕ) (B C : Assignment Args) (slot : Slot) → n ≤ slot.epoch → spliced n B C slot ≡ C slot
  late n B C slot h = ap (λ b. cond b (B slot) (C slot)) (not_less slot.epoch n h)

module _ {Args Row Reply : Type 0} where
  held_chosen : (w : WorldState Args Row Reply) → Kept w → (i : ℕ) (x : NodeState Args Row) → slice_get w.nodes i ≡ Some x → (slot : Slot) → get x.held slot ≢ None → Chosen w slot (held_by x slot)
  held_chosen w kept i x there slot some = go (get x.held slot) refl
    where
      go : (o : Option (Batch Args)) → get x.held slot ≡ o → Chosen w slot (unwrap_or (get x.held slot) [])
      go None e = absurd (some e)
      go (Some b) e = subst (λ o. Chosen w slot (unwrap_or o [])) (sym e) (kept.held i x there slot b e)

  module _ (m : Meaning Args Row Reply) (law : WritesWithin m) (w : WorldState Args Row Reply) (kept : Kept w) (mirrored : Mirrored m law w) (i : ℕ) (x : NodeState Args Row) (there : slice_get w.nodes i ≡ Some x) where
    abbrev B : Assignment Args
    B = mirrored.batches

    abbrev n : ℕ
    n = mirrored.epochs

    abbrev C : Assignment Args
    C = spliced mirrored.epochs mirrored.batches (held_by x)

    abbrev grown : Order Args
    grown = stretch w.config C n 1

    order_is : order w.config C (suc n) ≡ order w.config B n ++ grown
    order_is = stretch_on w.config C 0 n 1 (suc n) n (omega arith) (omega arith) ∙ ap (λ es. es ++ grown) (stretch_same w.config C B 0 n (λ slot low high less. early n B (held_by x) slot (omega (arith, high))))

    nodes_are : map (Lives.with_pending grown) (map (mirror_node w.config B n) w.nodes) ≡ map (mirror_node w.config C (suc n)) w.nodes
    nodes_are = map_twice (mirror_node w.config B n) (Lives.with_pending grown) (mirror_node w.config C (suc n)) w.nodes (λ j y at.
        let top = (mirrored.bounds j y at).merged_in in
        let more = n - y.merged_epochs in
        ap (with_these y)
        (append_assoc y.pending (stretch w.config B y.merged_epochs more) grown
        ∙ ap (λ es. y.pending ++ es)
        (ap (λ es. es ++ grown) (stretch_same w.config B C y.merged_epochs more (λ slot low high less. sym (early n B (held_by x) slot (omega (arith, top, high)))))
        ∙ sym (stretch_on w.config C y.merged_epochs more 1 (suc n - y.merged_epochs) n (omega (arith, top)) (omega (arith, top))))))
      where
        with_these : NodeState Args Row → Order Args → Lives.Node Args Row
        with_these y pending = record { partition = y.id.partition; scheduler = y.scheduler; pending = pending; kept_at = end_of y.kept_epochs; kept = y.kept_rows }

    same_since : (j : ℕ) (y : NodeState Args Row) → slice_get w.nodes j ≡ Some y → since w.config B y ≡ since w.config C y
    same_since j y at = sym (stretch_same w.config C B (loaded_epochs y) (y.merged_epochs - loaded_epochs y)
        (λ slot low high less. early n B (held_by x) slot (let l = (mirrored.bounds j y at).loaded in let g = (mirrored.bounds j y at).merged_in in omega (arith, high, l, g))))

    choose : x.merged_epochs ≡ n → ((g : ℕ) → g < w.config.partitions → get x.held (record { epoch = x.merged_epochs; group = g }) ≢ None) → (slot : Slot) → slot.epoch < suc n → slot.group < w.config.partitions → (slot.epoch < n) ⊎ (n ≤ slot.epoch) → Chosen w slot (C slot)
    choose next all_held slot low less (inl old) = subst (Chosen w slot) (sym (early n B (held_by x) slot old)) (mirrored.chosen slot old less)
    choose next all_held slot low less (inr new) =
        let at : x.merged_epochs ≡ slot.epoch = omega (arith, next, new, low) in
        subst (Chosen w slot) (sym (late n B (held_by x) slot new)) (held_chosen w kept i x there slot (subst (λ e. get x.held (record { epoch = e; group = slot.group }) ≢ None) at (all_held slot.group less)))

    pub settled : x.merged_epochs ≡ mirrored.epochs → ((g : ℕ) → g < w.config.partitions → get x.held (record { epoch = x.merged_epochs; group = g }) ≢ None) → (more : Mirrored m law w) × (x.merged_epochs < more.epochs)
    settled next all_held = (
      record {
        epochs = suc mirrored.epochs;
        batches = C;
        reads = mirrored.reads;
        replies = mirrored.replies;
        chosen = λ slot low less. choose next all_held slot low less (cases_lt slot.epoch mirrored.epochs);
        bounds = λ j y at. let b = mirrored.bounds j y at in record {
          loaded = b.loaded;
          at_end = b.at_end;
          merged_in = (let h = b.merged_in in omega (arith, h));
          kept_in = (let h = b.kept_in in omega (arith, h));
          holds = b.holds;
          due = b.due ∙ ap (local_places (site_of w.config.partitions y.id.partition)) (same_since j y at);
          passed = subst (λ es. Passed es y) (same_since j y at) b.passed;
        };
        keeps = settle_keeps m w.config.partitions empty law (mirror w B n mirrored.reads mirrored.replies) grown (end_of (suc mirrored.epochs)) (mirror w C (suc mirrored.epochs) mirrored.reads mirrored.replies) mirrored.keeps (record {
          rising = subst Rises order_is (stretch_rises w.config C 0 (suc mirrored.epochs));
          fresh = λ q t at before. let low = (stretch_stands w.config C mirrored.epochs 1 q t at).0 in let less = before_end q mirrored.epochs before in omega (arith, low, less);
          further = λ before. let less = before_end (end_of (suc mirrored.epochs)) mirrored.epochs before in omega (arith, less);
          now = λ k. record { order = order_is k; settled = end_of (suc mirrored.epochs); nodes = sym nodes_are k; reads = mirrored.reads; replies = mirrored.replies };
        });
        are_reads = mirrored.are_reads;
        are_replies = λ p c q id attempt answer e. let r = mirrored.are_replies p c q id attempt answer e in record {
          number_of = r.number_of;
          given = r.given;
          request = r.request;
          stands = subst (λ es. StandsAt es q r.request) (sym order_is) (stands_left (order w.config mirrored.batches mirrored.epochs) grown q r.request r.stands);
          id_is = r.id_is;
          attempt_is = r.attempt_is;
          active = r.active;
        };
        were_sent = mirrored.were_sent;
      },
      omega (arith, next),
    )
