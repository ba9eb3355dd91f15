-- What merging an epoch makes of a node.
use Rattle.std.proofs.Common.{◌≡◌, ℕ, zero, suc, ◌+◌, ◌<◌, ◌≤◌, ◌⊎◌, inl, inr, Bool, true, false, cond, not, ◌&&◌, List, [], ◌∷◌, ◌++◌, length, Result, Ok, Err, refl, sym, ap, subst, ◌∙◌, arith}
use Rattle.std.proofs.lemmas.Bool.{false≢true, and_parts, cases_lt, eq-eqb}
use Rattle.std.proofs.lemmas.List.Elements.{filter-append}
use Rattle.std.specs.List.{list_all, list_any, range_with_len}
use Rattle.std.specs.Prelude.{◌==◌, IsErrOf, IsOkUnless, OnOk}
use Rattle.std.specs.FinMap.{contains_key}
use Rattle.calvin_types.specs.declared.fault.Fault.{Fault}
use Rattle.calvin_types.specs.declared.fault.Fault.TheVariants.{OutOfMemory, NotComplete, AdmittedOutOfOrder}
use Rattle.calvin_types.specs.declared.place.Place.{Place}
use Rattle.calvin_types.specs.Orders.{Order}
use Rattle.calvin_types.specs.Participants.{site, has_local_key}
use Rattle.calvin_types.specs.Deeds.{Refuses, Does, Did}
use Rattle.calvin_order.specs.Configs.{Config}
use Rattle.calvin_order.specs.Merged.{joined}
use Rattle.calvin_order.specs.Merging.{Merging, HoldsAll, IsComplete, batch_at}
use Rattle.calvin_order.proofs.Joining.{all_numbered, length-merged}
use Rattle.calvin_sched.specs.Keeping.{Scheduled}
use Rattle.calvin_sched.specs.Progress.{left, merge}
use Rattle.calvin_sched.specs.Scheduling.{Scheduling, is_done}
use Rattle.calvin_sched.specs.Standing.{local_places}
use Rattle.calvin_node_acts.specs.NodeStates.{NodeState}
use Rattle.calvin_node_acts.specs.Acting as acting
use Rattle.calvin_node_acts.specs.Growing.{is_some_request}
use Rattle.calvin_node_acts.specs.Running.{NodeDid}
use Rattle.calvin_node_acts.specs.Layers.{Layer, Rest, state_of}
use Rattle.calvin_node_acts.proofs.Settling.{left_again, running}

-- ---- each number of a stretch passes

pub all_of : (p : ℕ → Bool) (a n : ℕ) → list_all p (range_with_len a n) ≡ true → (g : ℕ) → a ≤ g → g < a + n → p g ≡ true
all_of p a zero all g low high = absurd (omega (arith, low, high))
all_of p a (suc n) all g low high = go (and_parts (p a) (list_all p (range_with_len (a + 1) n)) all) (cases_lt a g) (λ rest up below. all_of p (a + 1) n rest g up below)
  where
    go : (p a ≡ true) × (list_all p (range_with_len (a + 1) n) ≡ true) → (a < g) ⊎ (g ≤ a) → (list_all p (range_with_len (a + 1) n) ≡ true → a + 1 ≤ g → g < a + 1 + n → p g ≡ true) → p g ≡ true
    go both (inl above) rest = rest both.1 (omega (arith, above)) (omega (arith, high))
    go both (inr at) rest = let same : a ≡ g = omega (arith, low, at) in subst (λ k. p k ≡ true) same both.0

all_from : (p : ℕ → Bool) (a n : ℕ) → ((g : ℕ) → a ≤ g → g < a + n → p g ≡ true) → list_all p (range_with_len a n) ≡ true
all_from p a zero each = refl
all_from p a (suc n) each = go (p a) (each a (omega arith) (omega arith)) (all_from p (a + 1) n (λ g low high. each g (omega (arith, low)) (omega (arith, high))))
  where
    go : (b : Bool) → b ≡ true → list_all p (range_with_len (a + 1) n) ≡ true → (b && list_all p (range_with_len (a + 1) n)) ≡ true
    go true is rest = rest
    go false is rest = is

-- whether a batch is missing, by what is answered
abbrev is_missing : Fault → Bool
is_missing NotComplete = true
is_missing _ = false

abbrev is_missing_batch : {T : Type 0} → Result T Fault → Bool
is_missing_batch (Ok x) = false
is_missing_batch (Err f) = is_missing f

-- a merge passes an epoch that is complete
pub passed : {Args : Type 0} (r : Result (Unit {0}) Fault) (m after : Merging Args) → IsComplete m → OnOk r (after ≡ record m { next = suc m.next }) → (IsErrOf r NotComplete → IsComplete m → ⊥) → IsOkUnless r NotComplete → after ≡ record m { next = suc m.next }
passed (Ok done) m after whole next missing only = next
passed (Err f) m after whole next missing only = absurd (missing (ap Err only) whole)

-- ---- the requests of an epoch

pub some_request : {Args : Type 0} (order : Order Args) → 0 < length order → is_some_request order ≡ true
some_request [] some = absurd (omega (arith, some))
some_request (e ∷ rest) some = refl

-- where one of the requests has a key here, there is one
some_of_any : {Args : Type 0} (p : (Place × _) → Bool) (order : Order Args) → list_any p order ≡ true → is_some_request order ≡ true
some_of_any p [] h = h
some_of_any p (e ∷ rest) h = refl

module _ {Args Row : Type 0} (s : Scheduling Args Row) where
  -- what is left of what was left and of more
  left_of_both : (due more : List Place) → left s (left s due ++ more) ≡ left s due ++ left s more
  left_of_both due more = filter-append (λ q. not (is_done s q)) (left s due) more ∙ ap (λ l. l ++ left s more) (left_again s due)

  left_of_later : (due more : List Place) → left s (due ++ left s more) ≡ left s due ++ left s more
  left_of_later due more = filter-append (λ q. not (is_done s q)) due (left s more) ∙ ap (λ l. left s due ++ l) (left_again s more)

module _ {Args Row : Type 0} (Reply : Type 0) (c : Config) (l : Layer Args) (r : Rest Args Row) where
  abbrev at_first : NodeState Args Row
  at_first = state_of l r

  abbrev next_order : Order Args
  next_order = acting.next_merged c at_first

  -- what the deed leaves
  abbrev after : NodeState Args Row
  after = record at_first { merged_epochs = suc l.merged_epochs; due = left r.scheduler.scheduling r.scheduler.due ++ local_places (site c.partitions l.id.partition) next_order; pending = r.pending ++ next_order }

  pub complete_is : HoldsAll l.held l.merged_epochs c.partitions → acting.is_complete c at_first ≡ true
  complete_is all = all_from (λ g. contains_key l.held (record { epoch = l.merged_epochs; group = g })) 0 c.partitions (λ g low high. all g (omega (arith, high)))

  there : acting.is_complete c at_first ≡ true → HoldsAll l.held l.merged_epochs c.partitions
  there all g less = all_of (λ g. contains_key l.held (record { epoch = l.merged_epochs; group = g })) 0 c.partitions all g (omega arith) (omega (arith, less))

  -- the deed, where a batch is missing
  pub refused : ((HoldsAll l.held l.merged_epochs c.partitions) → ⊥) → (grows : Bool) → NodeDid {Reply = Reply} grows (Err NotComplete) (acting.merge c at_first) (running c at_first) (running c at_first) [] []
  refused missing grows = go (acting.is_complete c at_first) refl
    where
      go : (b : Bool) → acting.is_complete c at_first ≡ b → NodeDid {Reply = Reply} grows (Err NotComplete) (acting.merge c at_first) (running c at_first) (running c at_first) [] []
      go true is = absurd (missing (there is))
      go false is = subst (λ b. NodeDid {Reply = Reply} grows (Err NotComplete) (cond b (Does after []) (Refuses NotComplete)) (running c at_first) (running c at_first) [] []) (sym is) (refl, refl, refl)

  -- or memory ran out
  pub wanting : acting.is_complete c at_first ≡ true → is_some_request next_order ≡ true → NodeDid {Reply = Reply} (is_some_request next_order) (Err OutOfMemory) (acting.merge c at_first) (running c at_first) (running c at_first) [] []
  wanting full some = subst (λ b. NodeDid {Reply = Reply} (is_some_request next_order) (Err OutOfMemory) (cond b (Does after []) (Refuses NotComplete)) (running c at_first) (running c at_first) [] []) (sym full) (some, refl, refl, refl)

  -- nothing is given of the next epoch: a batch of it is missing, or there was no room for its requests
  pub not_given : {T : Type 0} (f : Fault) → (f ≡ NotComplete) ⊎ ((f ≡ OutOfMemory) × (0 < length (joined (batch_at l.held) l.merged_epochs c.partitions))) → (◌≡◌ {A = Result T Fault} (Err f) (Err NotComplete) → HoldsAll l.held l.merged_epochs c.partitions → ⊥) → ((HoldsAll l.held l.merged_epochs c.partitions → ⊥) → ◌≡◌ {A = Result T Fault} (Err f) (Err NotComplete))
      → NodeDid {Reply = Reply} (is_some_request next_order) (Err f) (acting.merge c at_first) (running c at_first) (running c at_first) [] []
  not_given f (inl is) missing else = subst (λ g. NodeDid {Reply = Reply} (is_some_request next_order) (Err g) (acting.merge c at_first) (running c at_first) (running c at_first) [] []) (sym is) (refused (missing (ap Err is)) (is_some_request next_order))
  not_given f (inr both) missing else = subst (λ g. NodeDid {Reply = Reply} (is_some_request next_order) (Err g) (acting.merge c at_first) (running c at_first) (running c at_first) [] []) (sym both.0) (wanting (go (acting.is_complete c at_first) refl)
      (some_request next_order (let all = length-merged c (batch_at l.held) l.merged_epochs in let some = both.1 in omega (arith, all, some))))
    where
      go : (b : Bool) → acting.is_complete c at_first ≡ b → acting.is_complete c at_first ≡ true
      go true is = is
      go false is = absurd (false≢true (ap is_missing_batch (sym (ap Err both.0) ∙ else (λ all. false≢true (sym is ∙ complete_is all)))))

  -- what an epoch that is merged makes of the scheduler
  abbrev told : Order Args → Scheduled Args Row
  told order = record r.scheduler { merged = suc r.scheduler.merged; due = r.scheduler.due ++ left r.scheduler.scheduling (local_places r.scheduler.here order); due_room = 0 }

  pub takes : (epoch : ℕ) (order : Order Args) → order ≡ next_order → epoch ≡ l.merged_epochs → r.scheduler.merged ≡ l.merged_epochs → merge epoch order r.scheduler ≡ Does (told order) tt
  takes epoch order is at so_far = ap (λ b. cond b (Does (told order) tt) (Refuses AdmittedOutOfOrder)) (ap (λ b. b && list_all (λ e. e.0.epoch == epoch) order) (eq-eqb epoch r.scheduler.merged (at ∙ sym so_far)) ∙ subst (λ o. list_all (λ e. e.0.epoch == epoch) o ≡ true) (sym is) (subst (λ n. list_all (λ e. e.0.epoch == n) next_order ≡ true) (sym at) (all_numbered l.merged_epochs 0 _)))

  -- the scheduler isn't told, for want of memory
  pub untold : acting.is_complete c at_first ≡ true → (epoch : ℕ) (order : Order Args) → order ≡ next_order → epoch ≡ l.merged_epochs → r.scheduler.merged ≡ l.merged_epochs → (f : Fault) (s' : Scheduled Args Row)
      → Did {Out = Unit {0}} (list_any (λ e. has_local_key r.scheduler.here e.1) order) (Err f) (merge epoch order r.scheduler) r.scheduler s' → (s' ≡ r.scheduler) × NodeDid {Reply = Reply} (is_some_request next_order) (Err f) (acting.merge c at_first) (running c at_first) (running c at_first) [] []
  untold full epoch order is at so_far f s' did =
      let took = subst (λ d. Did {Out = Unit {0}} (list_any (λ e. has_local_key r.scheduler.here e.1) order) (Err f) d r.scheduler s') (takes epoch order is at so_far) did in (
        took.2,
        subst (λ g. NodeDid {Reply = Reply} (is_some_request next_order) (Err g) (acting.merge c at_first) (running c at_first) (running c at_first) [] []) (sym took.1)
            (wanting full (ap is_some_request (sym is) ∙ some_of_any (λ e. has_local_key r.scheduler.here e.1) order took.0)),
      )

  -- the epoch is merged
  pub merging : acting.is_complete c at_first ≡ true → r.scheduler.here ≡ site c.partitions l.id.partition → (epoch : ℕ) (order : Order Args) → order ≡ next_order → epoch ≡ l.merged_epochs → r.scheduler.merged ≡ l.merged_epochs → (grows : Bool) (l' : Layer Args) (pending' : Order Args) (s' : Scheduled Args Row)
      → Did (list_any (λ e. has_local_key r.scheduler.here e.1) order) (Ok tt) (merge epoch order r.scheduler) r.scheduler s' → l' ≡ record l { merged_epochs = suc l.merged_epochs } → pending' ≡ r.pending ++ order
      → NodeDid {Reply = Reply} grows (Ok tt) (acting.merge c at_first) (running c at_first) (running c (state_of l' (record r { pending = pending'; scheduler = s' }))) [] []
  merging full here epoch order is at so_far grows l' pending' s' did passed appended =
      let took = subst (λ d. Did (list_any (λ e. has_local_key r.scheduler.here e.1) order) (Ok tt) d r.scheduler s') (takes epoch order is at so_far) did in
      let places = local_places (site c.partitions l.id.partition) next_order in
      subst (λ b. NodeDid {Reply = Reply} grows (Ok tt) (cond b (Does after []) (Refuses NotComplete)) (running c at_first) (running c (state_of l' (record r { pending = pending'; scheduler = s' }))) [] []) (sym full) (
        (λ i. running c (state_of (passed i) (record r { pending = appended i; scheduler = took.1 i })))
            ∙ (λ i. running c (record at_first { merged_epochs = suc l.merged_epochs; pending = r.pending ++ is i; due = left r.scheduler.scheduling (r.scheduler.due ++ left r.scheduler.scheduling (local_places (here i) (is i))) }))
            ∙ (λ i. running c (record after { due = (left_of_later r.scheduler.scheduling r.scheduler.due places ∙ sym (left_of_both r.scheduler.scheduling r.scheduler.due places)) i })),
        refl,
      )
