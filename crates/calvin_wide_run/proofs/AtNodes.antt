-- How a list of events goes on at each node.
--     begins_at_nodes      the list that assembles histories which begin with what was marked
--     opened_only      a store isn't opened over a book for want of memory alone, where the number of workers is right
--     unassembled_only      one history for each node is refused for nothing but want of memory, or since no list gives them
use Rattle.std.proofs.Common.{◌≡◌, ◌⊎◌, ◌*◌, inl, inr, ℕ, ◌<◌, ◌≤◌, List, length, slice_get, Some, sym, subst, arith}
use Rattle.std.proofs.lemmas.Option.{slice_get-get_or}
use Rattle.std.proofs.Math.ListN.{get_or}
use mathlib.Core.List.{IsPrefix}
use Rattle.calvin_types.specs.declared.fault.Fault.{Fault}
use Rattle.calvin_types.specs.declared.fault.Fault.TheVariants.{OutOfMemory, BadWorkers}
use Rattle.calvin_cluster.specs.declared.cluster.TheConstants.{MOST_WORKERS}
use Rattle.calvin_app.specs.Meaning.{Meaning}
use Rattle.calvin_order.specs.Configs.{Config}
use Rattle.calvin_world.specs.declared.event.Event.{Event}
use Rattle.calvin_world.specs.Worlds.{opening}
use Rattle.calvin_book.specs.Books.{Log}
use Rattle.calvin_histories.specs.declared.assembly.Unassembled.{Unassembled}
use Rattle.calvin_histories.specs.declared.assembly.Unassembled.TheVariants.{Refused, NoRun}
use Rattle.calvin_histories.specs.declared.entry.Entry.{Entry}
use Rattle.calvin_histories.specs.Histories.{id_of, part_at, fault_of, IsAssembled, IsUnassembled}
use Rattle.calvin_wide_desk.specs.Stopping.{AreMarked, BeginWith}
use Rattle.calvin_wide_run.specs.Running.{BeginsAtNodes, IsWideFault}

module _ {Args Row Reply : Type 0} (m : Meaning Args Row Reply) where
  abbrev pub Marks : Type 0
  Marks = List (ℕ × List (Entry Args Row Reply))

  abbrev pub Histories : Type 0
  Histories = List (List (Entry Args Row Reply))

  -- the part of a store's list at a node
  abbrev pub at_node : Config → List (Event Args) → ℕ → List (Entry Args Row Reply)
  at_node c events i = part_at m (opening c) events (id_of c.partitions i)

  begins_at : (before : Log Args) (c : Config) (after : List (Event Args)) (histories : Histories) → c ≡ before.config → IsAssembled m c after histories → (i : ℕ) (mark : ℕ × List (Entry Args Row Reply)) → mark ≡ (i, at_node before.config before.events i)
      → (history : List (Entry Args Row Reply)) × (slice_get histories mark.0 ≡ Some history) × IsPrefix mark.1 history → IsPrefix (at_node before.config before.events i) (at_node before.config after i)
  begins_at before c after histories same assembled i mark is found =
      let there = subst (λ (x : ℕ × List (Entry Args Row Reply)). slice_get histories x.0 ≡ Some found.0) is found.1 in
      let begins = subst (λ (x : ℕ × List (Entry Args Row Reply)). IsPrefix x.1 found.0) is found.2 in
      let part = subst (λ (d : Config). at_node d after i ≡ found.0) same (assembled.parts i found.0 there) in
      subst (λ h. IsPrefix (at_node before.config before.events i) h) (sym part) begins

  pub begins_at_nodes : (before : Log Args) (c : Config) (after : List (Event Args)) (marks : Marks) (histories : Histories) → AreMarked m before marks → BeginWith marks histories → c ≡ before.config → IsAssembled m c after histories
      → BeginsAtNodes m before.config before.events after
  begins_at_nodes before c after marks histories marked begin same assembled i less =
      let d : ℕ × List (Entry Args Row Reply) = (i, at_node before.config before.events i) in
      let there = slice_get-get_or marks i d (subst (λ n. i < n) (sym marked.number) less) in
      let mark = get_or marks i d in
      begins_at before c after histories same assembled i mark (marked.each i mark there) (begin i mark there)

  -- ---- how it is refused

  pub unassembled_only : (c : Config) (histories : Histories) (why : Unassembled) → length histories ≡ c.replicas * c.partitions → IsUnassembled m c histories why → IsWideFault (fault_of why)
  unassembled_only c histories (Refused why) number (inl wrong) = absurd (wrong.1 number)
  unassembled_only c histories (Refused why) number (inr want) = subst IsWideFault (sym want) tt
  unassembled_only c histories (NoRun node entry) number stuck = tt

-- opening is refused for want of memory alone, where the number of workers is right
pub opened_only : (workers : ℕ) (fault : Fault) → 0 < workers → workers ≤ MOST_WORKERS → ((((workers ≡ 0) ⊎ (MOST_WORKERS < workers)) × (fault ≡ BadWorkers)) ⊎ ((0 < workers) × (workers ≤ MOST_WORKERS) × (fault ≡ OutOfMemory))) → IsWideFault fault
opened_only workers fault some most (inl (inl none, is)) = absurd (omega (arith, some, none))
opened_only workers fault some most (inl (inr more, is)) = absurd (omega (arith, most, more))
opened_only workers fault some most (inr (low, high, is)) = subst IsWideFault (sym is) tt
