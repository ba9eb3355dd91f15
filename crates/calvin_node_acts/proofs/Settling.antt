-- What a call of one part of a node made of it makes of the node.
use Rattle.std.proofs.Common.{◌≡◌, ℕ, suc, ◌<◌, Bool, true, false, cond, not, List, [], ◌∷◌, ◌++◌, length, drop, slice_index_or, Option, Some, None, Bor, Result, Ok, Err, refl, sym, ap, subst, ◌∙◌, arith}
use Rattle.std.proofs.lemmas.Bool.{false≢true}
use Rattle.std.proofs.lemmas.List.{append-nil}
use Rattle.std.specs.List.{filter}
use Rattle.std.specs.Prelude.{nat_le, is_some}
use Rattle.std.specs.Option.{option_copied}
use Rattle.calvin_types.specs.declared.config.Config.{Config as TheConfig}
use Rattle.calvin_types.specs.declared.fault.Fault.{Fault}
use Rattle.calvin_types.specs.declared.fault.Fault.TheVariants.{Older}
use Rattle.calvin_types.specs.declared.place.Place.{Place}
use Rattle.calvin_types.specs.Orders.{Order}
use Rattle.calvin_types.specs.Participants.{site}
use Rattle.calvin_types.specs.Deeds.{Deed, Refuses, Does, Did}
use Rattle.calvin_order.specs.Configs.{Config, config_of}
use Rattle.calvin_order.specs.Sequencing.{Sequencing}
use Rattle.calvin_app.specs.Rows.{Rows}
use Rattle.calvin_sched.specs.Keeping.{Scheduled, takes_effect}
use Rattle.calvin_sched.specs.Progress.{left}
use Rattle.calvin_sched.specs.Scheduling.{Scheduling, is_done}
use Rattle.calvin_node_acts.specs.NodeStates.{NodeState, with_sequencer}
use Rattle.calvin_node_packets.specs.declared.packet.Packet.{Packet}
use Rattle.calvin_node_acts.specs.Handling.{NodeDeed, by_scheduler}
use Rattle.calvin_node_acts.specs.Acting.{by_sequencer, lock_by, snapshot_by}
use Rattle.calvin_node_acts.specs.Running.{Running, NodeDid}
use Rattle.calvin_node_acts.specs.Layers.{Layer, IsOf, IsNode}

-- what the store of a node is opened with in code, with its sequencer's delay
abbrev pub config_at : TheConfig → Bool → Bool → ℕ → Config
config_at c points cold delay = record (config_of c points cold) { delay = delay }

-- what passes once passes again
pub filter_again : {A : Type 0} (p : A → Bool) (xs : List A) → filter p (filter p xs) ≡ filter p xs
filter_again p [] = refl
filter_again p (x ∷ xs) = go (p x) refl (filter_again p xs)
  where
    go : (b : Bool) → p x ≡ b → filter p (filter p xs) ≡ filter p xs → filter p (cond b (x ∷ filter p xs) (filter p xs)) ≡ cond b (x ∷ filter p xs) (filter p xs)
    go true e rest = ap (λ b. cond b (x ∷ filter p (filter p xs)) (filter p (filter p xs))) e ∙ ap (λ l. x ∷ l) rest
    go false e rest = rest

pub left_again : {Args Row : Type 0} (s : Scheduling Args Row) (due : List Place) → left s (left s due) ≡ left s due
left_again s due = filter_again (λ q. not (is_done s q)) due

-- what is left once places are done, of what was left before
pub left_then : {Args Row : Type 0} (before after : Scheduling Args Row) (due now : List Place) → now ≡ left after due → left before due ≡ due → left after now ≡ left after (left before due)
left_then before after due now is undone = ap (left after) (is ∙ ap (left after) (sym undone)) ∙ left_again after (left before due)

-- the call without what it answers
abbrev pub ended : {Out : Type 0} → Result Out Fault → Result (Unit {0}) Fault
ended (Ok out) = Ok tt
ended (Err fault) = Err fault

module _ {Args Row : Type 0} where
  -- the node with other data of its scheduler, and with other requests to admit
  abbrev pub with_steps : NodeState Args Row → Scheduling Args Row → Order Args → NodeState Args Row
  with_steps x s pending = record x { scheduler = s; pending = pending; due = left s x.due }

  abbrev pub running : Config → NodeState Args Row → Running Args Row
  running c y = record { config = c; state = y }

-- what sends nothing leaves what was sent before
pub quiet : {Args Row Reply : Type 0} (grows : Bool) (r : Result (Unit {0}) Fault) (d : NodeDeed Args Row Reply) (old new : Running Args Row) (sent : List (Packet Args Row Reply)) → NodeDid grows r d old new [] [] → NodeDid grows r d old new sent sent
quiet grows (Ok out) (Refuses f) old new sent h = h
quiet grows (Ok out) (Does next packets) old new sent h = (h.0, sym (append-nil sent) ∙ ap (λ ps. sent ++ ps) h.1)
quiet grows (Err e) (Refuses f) old new sent h = (h.0, h.1, refl)
quiet grows (Err e) (Does next packets) old new sent h = (h.0, h.1, h.2, refl)

module _ {Args Row : Type 0} (Reply : Type 0) (c : Config) (x : NodeState Args Row) (is : left x.scheduler x.due ≡ x.due) where
  -- the sequencer did something, and nothing is sent
  pub sequenced : {Out : Type 0} (grows : Bool) (r : Result Out Fault) (d : Deed (Sequencing Args) Out) (next : Sequencing Args) → Did grows r d x.sequencer next
      → NodeDid {Reply = Reply} true (ended r) (by_sequencer x [] d) (running c x) (running c (with_sequencer x next)) [] []
  sequenced grows (Ok out) (Refuses f) next h = h
  sequenced grows (Ok out) (Does s given) next h = (λ i. running c (record x { sequencer = h.1 i; due = (sym is) i }), refl)
  sequenced grows (Err e) (Refuses f) next h = (h.0, ap (λ s. running c (with_sequencer x s)) h.1, refl)
  sequenced grows (Err e) (Does s given) next h = (refl, h.1, ap (λ s. running c (with_sequencer x s)) h.2, refl)

  -- and some packets are sent
  pub sequenced_and_sent : {Out : Type 0} (grows : Bool) (out : Out) (d : Deed (Sequencing Args) Out) (next : Sequencing Args) (packets sent all : List (Packet Args Row Reply)) → Did grows (Ok out) d x.sequencer next → all ≡ sent ++ packets
      → NodeDid true (Ok tt) (by_sequencer x packets d) (running c x) (running c (with_sequencer x next)) sent all
  sequenced_and_sent grows out (Refuses f) next packets sent all h e = h
  sequenced_and_sent grows out (Does s given) next packets sent all h e = (λ i. running c (record x { sequencer = h.1 i; due = (sym is) i }), e)

  -- ---- the scheduler

  pub unchanged : (s : Scheduling Args Row) → s ≡ x.scheduler → running c (with_steps x s x.pending) ≡ running c x
  unchanged s e = (λ i. running c (with_steps x (e i) x.pending)) ∙ (λ i. running c (record x { due = is i }))

  -- the next request is admitted, or it isn't
  pub locked : (grows : Bool) (d : Deed (Scheduling Args Row) (Unit {0})) (s : Scheduling Args Row) (rest : Order Args) → Did grows (Ok tt) d x.scheduler s
      → NodeDid {Reply = Reply} grows (Ok tt) (lock_by x rest d) (running c x) (running c (with_steps x s rest)) [] []
  locked grows (Refuses f) s rest h = h
  locked grows (Does next given) s rest h = (λ i. running c (with_steps x (h.1 i) rest), refl)

  pub not_locked : (grows : Bool) (f : Fault) (d : Deed (Scheduling Args Row) (Unit {0})) (s : Scheduling Args Row) (rest : Order Args) → Did {Out = Unit {0}} grows (Err f) d x.scheduler s
      → NodeDid {Reply = Reply} grows (Err f) (lock_by x rest d) (running c x) (running c (with_steps x s x.pending)) [] []
  not_locked grows f (Refuses g) s rest h = (h.0, unchanged s h.1, refl)
  not_locked grows f (Does next given) s rest h = (h.0, h.1, unchanged s h.2, refl)

  -- the scheduler did something, and nothing is sent
  pub scheduled : (grows wide : Bool) → (grows ≡ true → wide ≡ true) → (r : Result (Unit {0}) Fault) (d : Deed (Scheduling Args Row) (Unit {0})) (s : Scheduling Args Row) → Did grows r d x.scheduler s
      → NodeDid {Reply = Reply} wide r (by_scheduler x d) (running c x) (running c (with_steps x s x.pending)) [] []
  scheduled grows wide more (Ok out) (Refuses f) s h = h
  scheduled grows wide more (Ok out) (Does next given) s h = (λ i. running c (with_steps x (h.1 i) x.pending), refl)
  scheduled grows wide more (Err f) (Refuses g) s h = (h.0, unchanged s h.1, refl)
  scheduled grows wide more (Err f) (Does next given) s h = (more h.0, h.1, unchanged s h.2, refl)

-- a snapshot that can be taken: it isn't, for want of memory, or it is
module _ {Args Row : Type 0} (Reply : Type 0) (c : Config) (x : NodeState Args Row) (is : left x.scheduler x.due ≡ x.due) (e : ℕ) (newer : nat_le x.kept_epochs e ≡ true) where
  -- the last snapshot isn't of this or a later epoch
  older_none : (s : Scheduling Args Row) (rows : Rows Row) → snapshot_by {Reply = Reply} e x (Does s rows) ≡ Does (record x { scheduler = s; kept_epochs = suc e; kept_rows = rows }) []
  older_none s rows = ap (λ b. cond b (Does (record x { scheduler = s; kept_epochs = suc e; kept_rows = rows }) []) (Refuses Older)) newer

  pub not_taken : (f : Fault) (d : Deed (Scheduling Args Row) (Rows Row)) (s : Scheduling Args Row) → takes_effect d ≡ true → Did {Out = Rows Row} true (Err f) d x.scheduler s
      → NodeDid {Reply = Reply} true (Err f) (snapshot_by e x d) (running c x) (running c (with_steps x s x.pending)) [] []
  not_taken f (Refuses g) s takes h = absurd (false≢true takes)
  not_taken f (Does next rows) s takes h = subst (λ d. NodeDid {Reply = Reply} true (Err f) d (running c x) (running c (with_steps x s x.pending)) [] []) (sym (older_none next rows)) (refl, h.1, unchanged Reply c x is s h.2, refl)

  pub taken : (rows : Rows Row) (d : Deed (Scheduling Args Row) (Rows Row)) (s : Scheduling Args Row) → Did true (Ok rows) d x.scheduler s
      → NodeDid {Reply = Reply} true (Ok tt) (snapshot_by e x d) (running c x) (running c (record (with_steps x s x.pending) { kept_epochs = suc e; kept_rows = rows })) [] []
  taken rows (Refuses g) s h = h
  taken rows (Does next given) s h = subst (λ d. NodeDid {Reply = Reply} true (Ok tt) d (running c x) (running c (record (with_steps x s x.pending) { kept_epochs = suc e; kept_rows = rows })) [] []) (sym (older_none next given))
      (λ i. running c (record (with_steps x (h.1 i) x.pending) { kept_epochs = suc e; kept_rows = h.0 i }), refl)

pub ended_is : (r : Result (Unit {0}) Fault) → ended r ≡ r
ended_is (Ok out) = refl
ended_is (Err fault) = refl

-- the first of some, and the rest
pub first_and_rest : {A : Type 0} (xs : List A) (x : A) → 0 < length xs → x ≡ slice_index_or xs 0 x → xs ≡ x ∷ drop 1 xs
first_and_rest [] x some at = absurd (omega (arith, some))
first_and_rest (y ∷ ys) x some at = ap (λ z. z ∷ ys) (sym at)

-- a copy is there where the original is
pub copied_some : {A : Type 0} (o : Option (Bor A)) → is_some (option_copied o) ≡ is_some o
copied_some None = refl
copied_some (Some r) = refl

-- the scheduler is still of its node
pub still_node : {Args Row : Type 0} (l k : Layer Args) (s : Scheduled Args Row) → IsOf l k → IsNode l s → IsNode k s
still_node l k s same node = record {
  here = node.here ∙ (λ i. site (sym same.partitions i) (sym same.id i).partition);
  merged = node.merged ∙ sym same.merged;
}

-- nothing is there where no copy is
pub none_there : {A : Type 0} (o : Option A) → is_some o ≡ false → o ≡ None
none_there None e = refl
none_there (Some x) e = absurd (false≢true (sym e))
