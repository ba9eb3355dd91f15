-- One replica of a given order is opened, runs, and stands.
use Rattle.std.proofs.Common.{◌≡◌, ℕ, ◌+◌, ◌<◌, ◌==◌, Bool, true, false, cond, List, [], ◌∷◌, length, map, Option, Some, None, Result, refl, sym, ap, subst, ◌∙◌, arith}
use Rattle.std.specs.Prelude.{slice_get}
use Rattle.std.specs.List.{range_with_len}
use Rattle.std.specs.FinMap.{empty, get-empty}
use Rattle.std.proofs.lemmas.List.FromFn.{length-range_with_len, get_or-range_with_len}
use Rattle.std.proofs.lemmas.Option.{slice_get_within, get_or_from_slice_get}
use Rattle.calvin_types.specs.declared.fault.Fault.{Fault}
use Rattle.calvin_types.specs.declared.place.Place.{Place}
use Rattle.calvin_types.specs.Keys.{key_cmp, partition_of}
use Rattle.calvin_types.specs.Orders.{Order, Rises}
use Rattle.calvin_types.specs.Participants.{Site, site}
use Rattle.calvin_types.proofs.PlaceOrder.{not_before_itself}
use Rattle.calvin_app.specs.Meaning.{Meaning, WritesWithin}
use Rattle.calvin_app.specs.Rows.{part}
use Rattle.calvin_order.specs.Merged.{end_of}
use Rattle.calvin_order.proofs.Places.{before_by_epoch, before_end}
use Rattle.calvin_sched.specs.Scheduling.{opened}
use Rattle.calvin_sched.specs.Standing.{local_places, stands}
use Rattle.calvin_app.specs.Serial.{rows_before}
use Rattle.calvin_bench.specs.Turns.{Stands, site_of}
use Rattle.calvin_bench.specs.Lives.{Node, World, IsOpening, with_pending}
use Rattle.calvin_bench.specs.Steps.{Part, first_part, first_parts, Ran, RunsSerially}
use Rattle.calvin_bench.specs.Replicas.{IsReached}
use Rattle.calvin_bench.specs.declared.step.Step.{Step}
use Rattle.calvin_bench.specs.declared.step.Outcome.{Outcome}
use Rattle.calvin_bench.proofs.KeyRows.{get-part, same_rows}
use Rattle.calvin_bench.proofs.Lists.{get_map, was_map}
use Rattle.calvin_bench.proofs.ManyReplicas.{WorldKeeps, settle_keeps, opening_keeps, holds_from}
use Rattle.calvin_bench.proofs.Standing.{local_in, stands_is}
use Rattle.calvin_bench.proofs.Mirrored.{node_of, world, Mirrored, ran_mirrored}

no_row : {Row : Type 0} (b : Bool) → ◌≡◌ {A = Option Row} (cond b None None) None
no_row true = refl
no_row false = refl

-- no rows have no part
part_of_none : {Row : Type 0} (count p : ℕ) → part count p (empty {X = Row} {R = key_cmp}) ≡ empty
part_of_none {Row} count p = same_rows _ _ (λ k.
    get-part count p (empty {X = Row} {R = key_cmp}) k ∙ ap (λ o. cond (partition_of count k == p) o None) (get-empty key_cmp k) ∙ no_row (partition_of count k == p) ∙ sym (get-empty key_cmp k))

-- the partitions are numbered from 0
number_at : (count i p : ℕ) → slice_get (range_with_len 0 count) i ≡ Some p → p ≡ i
number_at count i p at =
    let within : i < length (range_with_len 0 count) = slice_get_within (range_with_len 0 count) i p at in
    let less : i < count = omega (arith, within, length-range_with_len 0 count) in
    let is : p ≡ 0 + i = sym (get_or_from_slice_get (range_with_len 0 count) i p p at) ∙ get_or-range_with_len 0 count i p less in
    omega (arith, is)

module _ {Args Row Reply : Type 0} (m : Meaning Args Row Reply) (count : ℕ) (law : WritesWithin m) (order : Order Args) (rising : Rises order) where
  -- a partition before the order is known
  abbrev fresh : ℕ → Node Args Row
  fresh p = record { partition = p; scheduler = opened (end_of 0) (part count p empty); pending = []; kept_at = end_of 0; kept = part count p empty }

  abbrev before : World Args Row Reply
  before = record { order = []; settled = end_of 0; nodes = map fresh (range_with_len 0 count); reads = []; replies = [] }

  opens : IsOpening m count empty before
  opens = record {
    no_order = refl;
    no_reads = refl;
    no_replies = refl;
    nodes = λ i node there.
        let was = was_map fresh (range_with_len 0 count) i node there in
        subst (λ (n : Node Args Row). n ≡ record { partition = n.partition; scheduler = opened (end_of 0) (part count n.partition empty); pending = []; kept_at = end_of 0; kept = part count n.partition empty }) was.2 refl;
  }

  same_nodes : (ns : List ℕ) → map (node_of m count law order) (map (first_part count) ns) ≡ map (with_pending order) (map fresh ns)
  same_nodes [] = refl
  same_nodes (p ∷ ns) = λ i. record { partition = p; scheduler = opened (end_of 0) (sym (part_of_none count p) i); pending = order; kept_at = end_of 0; kept = part count p empty } ∷ same_nodes ns i

  -- and once it is
  first_keeps : WorldKeeps m count empty law (world m count law order (first_parts count) [] [])
  first_keeps = settle_keeps m count empty law before order (end_of 0) (world m count law order (first_parts count) [] []) (opening_keeps m count empty law before opens) (record {
    rising = rising;
    fresh = λ n t at early. let h : n.epoch < 0 = before_end n 0 early in omega (arith, h);
    further = not_before_itself (end_of 0);
    now = λ i. record { order = order; settled = end_of 0; nodes = same_nodes (range_with_len 0 count) i; reads = []; replies = [] };
  })

  first_mirrored : Mirrored m count law order (first_parts count)
  first_mirrored = record {
    reads = [];
    replies = [];
    keeps = first_keeps;
    numbered = λ i x there.
        let was = was_map (first_part count) (range_with_len 0 count) i x there in
        subst (λ (z : Part Args Row). (z.here ≡ site count i) × (z.scheduler.opened_from ≡ end_of 0)) was.2 (ap (site count) (number_at count i was.0 was.1), refl);
  }

  -- a partition that stands
  stands_there : (p : ℕ) (x : Part Args Row) (merged n : ℕ) → x.scheduler.opened_from ≡ end_of 0 → stands x.scheduler merged (local_places (site count p) order) n ≡ true → Stands (site_of count p) order x.scheduler (end_of n)
  stands_there p x merged n from standing =
      let at_end = stands_is x.scheduler merged (local_places (site count p) order) n standing in record {
        all_before = λ q t at early local. at_end.done_before q (local_in (site count p) order q t at local) (before_end q n early);
        none_later = λ q done. before_by_epoch q (end_of n) (at_end.none_later (ap (λ (q : Place). q.n) from) q done);
      }

  -- from partitions that were reached
  pub runs_from : (parts : List (Part Args Row)) → Mirrored m count law order parts → (steps : List Step) (outcomes : List (Result (Outcome Row Reply) Fault)) (new : List (Part Args Row)) → Ran m order parts steps outcomes new
      → RunsSerially m count order steps outcomes new
  runs_from parts mirrored steps outcomes new h =
      let ran = ran_mirrored m count law order parts steps outcomes new mirrored h in
      let holds = holds_from m count empty law _ ran.0.keeps in record {
        given = ran.1;
        rows = λ p x merged n there standing.
            let was = ran.0.numbered p x there in
            let relation = subst (λ (h : Site). Stands (site_of count h.partition) order x.scheduler (end_of n)) (sym was.0) (stands_there p x merged n was.1 standing) in
            holds.rows p (node_of m count law order x) (end_of n) (get_map (node_of m count law order) new p x there) relation ∙ ap (λ (h : Site). part count h.partition (rows_before m order empty (end_of n))) was.0;
      }

  pub runs_serially : (steps : List Step) (outcomes : List (Result (Outcome Row Reply) Fault)) (new : List (Part Args Row)) → Ran m order (first_parts count) steps outcomes new → RunsSerially m count order steps outcomes new
  runs_serially = runs_from (first_parts count) first_mirrored

  pub reached_mirrored : (parts : List (Part Args Row)) → IsReached m count order parts → Mirrored m count law order parts
  reached_mirrored parts reached = (ran_mirrored m count law order (first_parts count) reached.steps reached.outcomes parts first_mirrored reached.ran).0
