-- Two partitions of one replica, event by event: the two requests of a merged epoch from their locks to their replies.
use Rattle.std.proofs.Common.{◌≡◌, ◌≢◌, ℕ, suc, Bool, true, false, cond, ◌&&◌, List, [], ◌∷◌, ◌++◌, inl, Option, Some, None, refl, sym, ap, ◌∙◌, arith}
use Rattle.std.specs.Prelude.{◌==◌, is_some, nat_le, not, Ok, Err}
use Rattle.std.specs.Option.{unwrap_or}
use Rattle.std.specs.Ordering.{nat_cmp}
use Rattle.std.specs.Cmp.{nat_cmp_total}
use Rattle.std.specs.FinMap.{nat_cmp-IsAntisymmetric, empty, get, insert, get-empty}
use Rattle.std.specs.FinMap.{FinMap, get, insert, empty, get-empty, len, retain_keys, same_map, get-insert}
use Rattle.std.proofs.lemmas.Option.{none-some}
use Rattle.calvin_types.specs.declared.fault.Fault.TheVariants as fault
use Rattle.calvin_types.specs.declared.key.Key.{Key}
use Rattle.calvin_types.specs.declared.place.Place.{Place}
use Rattle.calvin_types.specs.declared.txn.Txn.{Txn}
use Rattle.calvin_types.specs.Deeds.{Refuses, Does}
use Rattle.calvin_types.specs.Keys.{key_cmp, same_key}
use Rattle.calvin_types.specs.KeyOrder.{key_cmp_total, key_cmp_exact}
use Rattle.calvin_types.specs.Participants.{Site, site, local_keys, is_active}
use Rattle.calvin_types.specs.Places.{place_cmp}
use Rattle.calvin_types.proofs.ExactMaps.{insert_here, insert_other}
use Rattle.calvin_types.proofs.PlaceOrder.{place_total, place_exact}
use Rattle.calvin_app.specs.Kv.{kv}
use Rattle.calvin_app.specs.declared.answer.Answer.{Answer}
use Rattle.calvin_app.specs.declared.answer.Answer.TheVariants as answer
use Rattle.calvin_app.specs.declared.kv.KvRequest.{KvRequest}
use Rattle.calvin_app.specs.declared.kv.KvReply.{KvReply}
use Rattle.calvin_app.specs.declared.kv.KvReply.TheVariants as kv_reply
use Rattle.calvin_app.specs.Kv.{moved}
use Rattle.calvin_app.specs.Rows.{Rows, view}
use Rattle.calvin_app.specs.Serial.{answer_on, writes_on}
use Rattle.calvin_app.specs.Stores.{Store, loaded, put_at}
use Rattle.calvin_app.proofs.Views.{view-none, view-push_row, view-push_none}
use Rattle.calvin_bench.proofs.Insertions.{insert_each}
use Rattle.calvin_sched.specs.declared.phase.Phase.{Phase}
use Rattle.calvin_sched.specs.declared.phase.Phase.TheVariants as phase
use Rattle.calvin_sched.specs.Scheduling.{Turn, Scheduling, new_turn, turn_at, turn_done, with_turn, is_before, is_done, is_collected, awaits, whole_view, put_some, local_writes}
use Rattle.calvin_sched.specs.Standing.{stands, none_done_from, greatest_below}
use Rattle.calvin_sched.specs.Steps as sched
use Rattle.calvin_sched.proofs.Readiness.{none_kept}
use Rattle.calvin_node_acts.specs.declared.act.Act.TheVariants.{Lock, Begin, Finish}
use Rattle.calvin_node_packets.specs.declared.packet.Content.TheVariants.{Reads}
use Rattle.calvin_node_acts.specs.Acting as node
use Rattle.calvin_node_acts.specs.Handling.{handle, by_scheduler}
use Rattle.calvin_world.specs.declared.event.Event.TheVariants.{At, Deliver}
use Rattle.calvin_world.specs.declared.event.Outcome.TheVariants.{Done}
use Rattle.calvin_world.specs.WorkedCases.{put_key, first_place, done_times}
use Rattle.calvin_world.specs.WorkedMove.{two, part_id, move_key, put_ten, move_four, next_place, move_ordering, move_running, told, done_reply, RanMove}
use Rattle.calvin_world.specs.Worlds.{Step, Leads, opening}
use Rattle.calvin_world.proofs.Alone.{joined}
use Rattle.calvin_world.proofs.OneSlot.{Node, KvDeed}
use Rattle.calvin_world.proofs.KnownWorlds.{World, after, ends}
use Rattle.calvin_world.proofs.MoveOrder.{left_merged, right_merged, w_18, to_merged}

abbrev Turns : Type 0
Turns = FinMap {K = Place} place_cmp (Turn KvRequest ℕ)

-- ---- what a node makes of a request at a place, by what stands there

module _ (x : Node) (q : Place) where
  abbrev here : Site
  here = site 2 x.id.partition

  abbrev s : Scheduling KvRequest ℕ
  s = x.scheduler

  -- a request that has begun, with the rows that it read
  abbrev begun : Txn KvRequest → Rows ℕ → Turn KvRequest ℕ
  begun t rows = record { request = t; phase = cond (is_active here t) phase.Begun phase.Done; served = rows; came = empty }

  begins : (t : Txn KvRequest) (rows : Rows ℕ) → get s.turns q ≡ Some (new_turn t) → sched.is_ready here s q t ≡ true → view s.store.map (local_keys here t.sets.reads) ≡ rows
      → ◌≡◌ {A = KvDeed} (node.begin two q x) (node.begin_by two x q (Does (with_turn s q (begun t rows)) (sched.serving here (begun t rows))))
  begins t rows there ready served =
      ap (λ (o : Option (Turn KvRequest ℕ)). node.begin_by {Reply = KvReply} two x q (sched.begin_at here q s o)) there
      ∙ ap (λ (b : Bool). node.begin_by {Reply = KvReply} two x q (cond b (Does (with_turn s q (sched.begun_turn here s.store.map (new_turn t))) (sched.serving here (sched.begun_turn here s.store.map (new_turn t)))) (Refuses fault.NotReady))) ready
      ∙ ap (λ (v : Rows ℕ). node.begin_by {Reply = KvReply} two x q (Does (with_turn s q (begun t v)) (sched.serving here (begun t v)))) served

  receives : (t : Turn KvRequest ℕ) (from : ℕ) (rows : Rows ℕ) → get s.turns q ≡ Some t → awaits here t from ≡ true
      → ◌≡◌ {A = KvDeed} (by_scheduler x (sched.on_reads here q from rows s)) (by_scheduler x (Does (with_turn s q (sched.with_rows from rows t)) tt))
  receives t from rows there awaited =
      ap (λ (o : Option (Turn KvRequest ℕ)). by_scheduler {Reply = KvReply} x (sched.on_reads_at here q from rows s o)) there
      ∙ ap (λ (b : Bool). by_scheduler {Reply = KvReply} x (cond b (Does (with_turn s q (sched.with_rows from rows t)) tt) (Refuses fault.NotAwaited))) awaited

  finishes : (t : Turn KvRequest ℕ) (whole : Rows ℕ) (a : Answer KvReply) (ws : List (Key × ℕ)) → get s.turns q ≡ Some t → t.phase ≡ phase.Begun → is_collected here t ≡ true
      → whole_view here t ≡ whole → answer_on kv t.request whole ≡ a → writes_on kv t.request whole ≡ ws
      → ◌≡◌ {A = KvDeed} (node.finish kv two q x) (node.finish_by x q (Does (record s { turns = insert s.turns q (record t { phase = phase.Done }); store = put_at q (local_writes here ws) s.store }) (t.request, a)))
  finishes t whole a ws there is_begun collected whole_is answered written =
      ap (λ (o : Option (Turn KvRequest ℕ)). node.finish_by x q (sched.finish_with kv here s (sched.job_at here q o))) there
      ∙ ap (λ (p : Phase). node.finish_by x q (sched.finish_with kv here s (sched.job_by here q t p))) is_begun
      ∙ ap (λ (b : Bool). node.finish_by x q (sched.finish_with kv here s (cond b (Ok (record { place = q; txn = t.request; view = whole_view here t })) (Err fault.ReadsMissing)))) collected
      ∙ (λ i. node.finish_by x q (Does (record s { turns = sched.ended (there i) s.turns q; store = put_at q (local_writes here (writes i)) s.store }) (t.request, answers i)))
    where
      writes : writes_on kv t.request (whole_view here t) ≡ ws
      writes = ap (writes_on kv t.request) whole_is ∙ written

      answers : answer_on kv t.request (whole_view here t) ≡ a
      answers = ap (answer_on kv t.request) whole_is ∙ answered

-- ---- places of the epoch, and turns at them

other_place : first_place ≢ next_place
other_place e = let none : ◌≡◌ {A = ℕ} 0 1 = ap (λ (q : Place). q.n) e in absurd (omega (arith, none))

-- what doesn't pass at the two places passes nowhere
abbrev AtTwo : Turns → Type 0
AtTwo turns = (p : Place → Bool) → p first_place ≡ false → p next_place ≡ false → (q : Place) (x : Turn KvRequest ℕ) → get turns q ≡ Some x → p q ≡ false

at_none : AtTwo empty
at_none p a b q x h = absurd (none-some x (sym (get-empty place_cmp q) ∙ h))

at_first : (turns : Turns) (x : Turn KvRequest ℕ) → AtTwo turns → AtTwo (insert turns first_place x)
at_first turns x known p a b = insert_each place_total place_exact (λ q y. p q ≡ false) turns first_place x a (known p a b)

at_next : (turns : Turns) (x : Turn KvRequest ℕ) → AtTwo turns → AtTwo (insert turns next_place x)
at_next turns x known p a b = insert_each place_total place_exact (λ q y. p q ≡ false) turns next_place x b (known p a b)

none_of : (turns : Turns) → AtTwo turns → (p : Place → Bool) → p first_place ≡ false → p next_place ≡ false → (len (retain_keys turns p) == 0) ≡ true
none_of turns known p a b = none_kept turns p (known p a b)

here_is : (turns : Turns) (q : Place) (x : Turn KvRequest ℕ) → get (insert turns q x) q ≡ Some x
here_is turns q x = insert_here place_cmp place_total place_exact turns q x

first_stays : (turns : Turns) (x : Turn KvRequest ℕ) → get (insert turns next_place x) first_place ≡ get turns first_place
first_stays turns x = insert_other place_cmp place_total place_exact turns next_place x first_place other_place

next_stays : (turns : Turns) (x : Turn KvRequest ℕ) → get (insert turns first_place x) next_place ≡ get turns next_place
next_stays turns x = insert_other place_cmp place_total place_exact turns first_place x next_place (λ e. other_place (sym e))

-- ---- rows

abbrev ten : Rows ℕ
ten = insert empty put_key 10

other_key : move_key ≢ put_key
other_key e = let one : ◌≡◌ {A = ℕ} 2 1 = ap (λ (k : Key). k.id) e in absurd (omega (arith, one))

has_ten : get ten put_key ≡ Some 10
has_ten = insert_here key_cmp key_cmp_total key_cmp_exact empty put_key 10

lacks_other : get ten move_key ≡ None
lacks_other = insert_other key_cmp key_cmp_total key_cmp_exact empty put_key 10 move_key other_key ∙ get-empty key_cmp move_key

view_ten : view ten (put_key ∷ []) ≡ ten
view_ten = sym (view-push_row ten [] put_key 10 has_ten) ∙ ap (λ (m : Rows ℕ). insert m put_key 10) (sym (view-none ten))

view_nothing : view (empty {X = ℕ} {R = key_cmp}) (move_key ∷ []) ≡ empty
view_nothing = sym (view-none empty ∙ view-push_none empty [] move_key (get-empty key_cmp move_key))

-- a later row of a key is the one that stays
put_twice : (m : Rows ℕ) (k : Key) (a b : ℕ) → insert (insert m k a) k b ≡ insert m k b
put_twice m k a b = same_map key_cmp_total key_cmp_exact _ _ (λ q.
    get-insert key_cmp_total (insert m k a) k b q ∙ ap (λ (o : Option ℕ). cond (same_key q k) (Some b) o) (get-insert key_cmp_total m k a q)
    ∙ elim (same_key q k) as (λ c. cond c (Some b) (cond c (Some a) (get m q)) ≡ cond c (Some b) (get m q)) [ true ↦ refl | false ↦ refl ]
    ∙ sym (get-insert key_cmp_total m k b q))

-- what the move makes of the row
moves : answer_on kv move_four ten ≡ answer.Reply kv_reply.Done
unfolding answer_on
moves = λ i. answer.Reply (moved 1 2 4 (unwrap_or (has_ten i) 0) (unwrap_or (lacks_other i) 0)).0

moved_rows : writes_on kv move_four ten ≡ (put_key, 6) ∷ (move_key, 4) ∷ []
unfolding writes_on
moved_rows = λ i. (moved 1 2 4 (unwrap_or (has_ten i) 0) (unwrap_or (lacks_other i) 0)).1

puts : answer_on kv put_ten empty ≡ answer.Reply kv_reply.Done
unfolding answer_on
puts = refl

put_row : writes_on kv put_ten empty ≡ (put_key, 10) ∷ []
unfolding writes_on
put_row = refl

-- ---- partition 0, after each of its events

abbrev l_1 : Node
l_1 = record left_merged { pending = (next_place, move_four) ∷ []; scheduler = record left_merged.scheduler { last = Some first_place } }

abbrev left_waits : Turns
left_waits = insert empty next_place (new_turn move_four)

abbrev l_2 : Node
l_2 = record l_1 { pending = []; scheduler = record l_1.scheduler { last = Some next_place; turns = left_waits } }

abbrev left_begun : Turn KvRequest ℕ
left_begun = record { request = move_four; phase = phase.Begun; served = empty; came = empty }

abbrev l_3 : Node
l_3 = record l_2 { scheduler = with_turn l_2.scheduler next_place left_begun }

abbrev left_collected : Turn KvRequest ℕ
left_collected = record left_begun { came = insert empty 1 ten }

abbrev l_4 : Node
l_4 = record l_3 { scheduler = with_turn l_3.scheduler next_place left_collected }

abbrev left_done : Turn KvRequest ℕ
left_done = record left_collected { phase = phase.Done }

abbrev l_5 : Node
l_5 = record l_4 { scheduler = record l_4.scheduler { turns = insert l_4.scheduler.turns next_place left_done; store = put_at next_place ((move_key, 4) ∷ []) (loaded empty) } }

-- ---- partition 1

abbrev r_1 : Node
r_1 = record right_merged { pending = (next_place, move_four) ∷ []; scheduler = record right_merged.scheduler { last = Some first_place; turns = insert empty first_place (new_turn put_ten) } }

abbrev r_2 : Node
r_2 = record r_1 { pending = []; scheduler = record r_1.scheduler { last = Some next_place; turns = insert r_1.scheduler.turns next_place (new_turn move_four) } }

abbrev put_begun : Turn KvRequest ℕ
put_begun = record { request = put_ten; phase = phase.Begun; served = empty; came = empty }

abbrev r_3 : Node
r_3 = record r_2 { scheduler = with_turn r_2.scheduler first_place put_begun }

abbrev put_done : Turn KvRequest ℕ
put_done = record put_begun { phase = phase.Done }

abbrev first_store : Store ℕ
first_store = put_at first_place ((put_key, 10) ∷ []) (loaded empty)

abbrev r_4 : Node
r_4 = record r_3 { scheduler = record r_3.scheduler { turns = insert r_3.scheduler.turns first_place put_done; store = first_store } }

abbrev right_begun : Turn KvRequest ℕ
right_begun = record { request = move_four; phase = phase.Begun; served = ten; came = empty }

abbrev r_5 : Node
r_5 = record r_4 { scheduler = with_turn r_4.scheduler next_place right_begun }

abbrev right_collected : Turn KvRequest ℕ
right_collected = record right_begun { came = insert empty 0 empty }

abbrev r_6 : Node
r_6 = record r_5 { scheduler = with_turn r_5.scheduler next_place right_collected }

abbrev right_done : Turn KvRequest ℕ
right_done = record right_collected { phase = phase.Done }

abbrev r_7 : Node
r_7 = record r_6 { scheduler = record r_6.scheduler { turns = insert r_6.scheduler.turns next_place right_done; store = put_at next_place ((put_key, 6) ∷ []) first_store } }

-- ---- what stands at their places

two_r_2 : AtTwo r_2.scheduler.turns
two_r_2 = at_next r_1.scheduler.turns (new_turn move_four) (at_first empty (new_turn put_ten) at_none)

two_r_4 : AtTwo r_4.scheduler.turns
two_r_4 = at_first r_3.scheduler.turns put_done (at_first r_2.scheduler.turns put_begun two_r_2)

two_r_7 : AtTwo r_7.scheduler.turns
two_r_7 = at_next r_6.scheduler.turns right_done (at_next r_5.scheduler.turns right_collected (at_next r_4.scheduler.turns right_begun two_r_4))

two_l_2 : AtTwo left_waits
two_l_2 = at_next empty (new_turn move_four) at_none

two_l_5 : AtTwo l_5.scheduler.turns
two_l_5 = at_next l_4.scheduler.turns left_done (at_next l_3.scheduler.turns left_collected (at_next left_waits left_begun two_l_2))

put_waits : get r_2.scheduler.turns first_place ≡ Some (new_turn put_ten)
put_waits = first_stays r_1.scheduler.turns (new_turn move_four) ∙ here_is empty first_place (new_turn put_ten)

move_waits : get r_4.scheduler.turns next_place ≡ Some (new_turn move_four)
move_waits = next_stays r_3.scheduler.turns put_done ∙ next_stays r_2.scheduler.turns put_begun ∙ here_is r_1.scheduler.turns next_place (new_turn move_four)

put_is_done : get r_4.scheduler.turns first_place ≡ Some put_done
put_is_done = here_is r_3.scheduler.turns first_place put_done

none_before : get left_waits first_place ≡ None
none_before = first_stays empty (new_turn move_four) ∙ get-empty place_cmp first_place

put_ready : sched.is_ready (site 2 1) r_2.scheduler first_place put_ten ≡ true
put_ready = none_of r_2.scheduler.turns two_r_2 (λ n. is_before n first_place && sched.blocks (site 2 1) (turn_at r_2.scheduler n) put_ten) refl refl

right_ready : sched.is_ready (site 2 1) r_4.scheduler next_place move_four ≡ true
right_ready = none_of r_4.scheduler.turns two_r_4 (λ n. is_before n next_place && sched.blocks (site 2 1) (turn_at r_4.scheduler n) move_four)
    (ap (λ (o : Option (Turn KvRequest ℕ)). sched.blocks (site 2 1) o move_four) put_is_done) refl

left_ready : sched.is_ready (site 2 0) l_2.scheduler next_place move_four ≡ true
left_ready = none_of left_waits two_l_2 (λ n. is_before n next_place && sched.blocks (site 2 0) (turn_at l_2.scheduler n) move_four)
    (ap (λ (o : Option (Turn KvRequest ℕ)). sched.blocks (site 2 0) o move_four) none_before) refl

-- ---- rows of the other partition

none_came : (p : ℕ) → get (empty {X = Rows ℕ} {R = nat_cmp}) p ≡ None
none_came p = get-empty nat_cmp p

came_is : (p : ℕ) (rows : Rows ℕ) → get (insert (empty {X = Rows ℕ} {R = nat_cmp}) p rows) p ≡ Some rows
came_is p rows = insert_here nat_cmp nat_cmp_total nat_cmp-IsAntisymmetric empty p rows

left_awaits : awaits (site 2 0) left_begun 1 ≡ true
left_awaits = ap (λ (o : Option (Rows ℕ)). not (is_some o)) (none_came 1)

right_awaits : awaits (site 2 1) right_begun 0 ≡ true
right_awaits = ap (λ (o : Option (Rows ℕ)). not (is_some o)) (none_came 0)

left_has_all : is_collected (site 2 0) left_collected ≡ true
left_has_all = ap (λ (o : Option (Rows ℕ)). is_some o && true) (came_is 1 ten)

right_has_all : is_collected (site 2 1) right_collected ≡ true
right_has_all = ap (λ (o : Option (Rows ℕ)). is_some o && true) (came_is 0 empty)

left_whole : whole_view (site 2 0) left_collected ≡ ten
left_whole = λ i. put_some (put_some empty move_key (get-empty {X = ℕ} key_cmp move_key i)) put_key (there i)
  where
    there : get (unwrap_or (get left_collected.came 1) empty) put_key ≡ Some 10
    there = ap (λ (o : Option (Rows ℕ)). get (unwrap_or o empty) put_key) (came_is 1 ten) ∙ has_ten

right_whole : whole_view (site 2 1) right_collected ≡ ten
right_whole = λ i. put_some (put_some empty move_key (there i)) put_key (has_ten i)
  where
    there : get (unwrap_or (get right_collected.came 0) empty) move_key ≡ None
    there = ap (λ (o : Option (Rows ℕ)). get (unwrap_or o empty) move_key) (came_is 0 empty) ∙ get-empty key_cmp move_key

-- ---- the world, after each event

abbrev v_1 : World
v_1 = after w_18 (part_id 0) (Does l_1 [])

abbrev v_2 : World
v_2 = after v_1 (part_id 0) (Does l_2 [])

abbrev v_3 : World
v_3 = after v_2 (part_id 1) (Does r_1 [])

abbrev v_4 : World
v_4 = after v_3 (part_id 1) (Does r_2 [])

abbrev v_5 : World
v_5 = after v_4 (part_id 1) (Does r_3 [])

abbrev v_6 : World
v_6 = after v_5 (part_id 1) (Does r_4 (done_reply 1 first_place put_ten ∷ []))

abbrev v_7 : World
v_7 = after v_6 (part_id 1) (Does r_5 (told 1 0 (Reads next_place ten) ∷ []))

abbrev v_8 : World
v_8 = after v_7 (part_id 0) (Does l_3 (told 0 1 (Reads next_place empty) ∷ []))

abbrev v_9 : World
v_9 = after v_8 (part_id 0) (Does l_4 [])

abbrev v_10 : World
v_10 = after v_9 (part_id 1) (Does r_6 [])

abbrev v_11 : World
v_11 = after v_10 (part_id 0) (Does l_5 (done_reply 0 next_place move_four ∷ []))

abbrev v_12 : World
v_12 = after v_11 (part_id 1) (Does r_7 (done_reply 1 next_place move_four ∷ []))

event_1 : Step kv w_18 (At (part_id 0) Lock) Done v_1
event_1 = inl refl

event_2 : Step kv v_1 (At (part_id 0) Lock) Done v_2
event_2 = inl refl

event_3 : Step kv v_2 (At (part_id 1) Lock) Done v_3
event_3 = inl refl

event_4 : Step kv v_3 (At (part_id 1) Lock) Done v_4
event_4 = inl refl

event_5 : Step kv v_4 (At (part_id 1) (Begin first_place)) Done v_5
event_5 = inl (ends v_4 (part_id 1) (node.begin two first_place r_2) (Does r_3 []) (begins r_2 first_place put_ten empty put_waits put_ready (sym (view-none empty))))

event_6 : Step kv v_5 (At (part_id 1) (Finish first_place)) Done v_6
event_6 = inl (ends v_5 (part_id 1) (node.finish kv two first_place r_3) (Does r_4 (done_reply 1 first_place put_ten ∷ []))
    (finishes r_3 first_place put_begun empty (answer.Reply kv_reply.Done) ((put_key, 10) ∷ []) (here_is r_2.scheduler.turns first_place put_begun) refl refl refl puts put_row))

event_7 : Step kv v_6 (At (part_id 1) (Begin next_place)) Done v_7
event_7 = inl (ends v_6 (part_id 1) (node.begin two next_place r_4) (Does r_5 (told 1 0 (Reads next_place ten) ∷ [])) (begins r_4 next_place move_four ten move_waits right_ready view_ten))

event_8 : Step kv v_7 (At (part_id 0) (Begin next_place)) Done v_8
event_8 = inl (ends v_7 (part_id 0) (node.begin two next_place l_2) (Does l_3 (told 0 1 (Reads next_place empty) ∷ []))
    (begins l_2 next_place move_four empty (here_is empty next_place (new_turn move_four)) left_ready view_nothing))

event_9 : Step kv v_8 (Deliver 11) Done v_9
event_9 = inl (ends v_8 (part_id 0) (handle two (told 1 0 (Reads next_place ten)) l_3) (Does l_4 []) (receives l_3 next_place left_begun 1 ten (here_is left_waits next_place left_begun) left_awaits))

event_10 : Step kv v_9 (Deliver 12) Done v_10
event_10 = inl (ends v_9 (part_id 1) (handle two (told 0 1 (Reads next_place empty)) r_5) (Does r_6 []) (receives r_5 next_place right_begun 0 empty (here_is r_4.scheduler.turns next_place right_begun) right_awaits))

event_11 : Step kv v_10 (At (part_id 0) (Finish next_place)) Done v_11
event_11 = inl (ends v_10 (part_id 0) (node.finish kv two next_place l_4) (Does l_5 (done_reply 0 next_place move_four ∷ []))
    (finishes l_4 next_place left_collected ten (answer.Reply kv_reply.Done) ((put_key, 6) ∷ (move_key, 4) ∷ []) (here_is l_3.scheduler.turns next_place left_collected) refl left_has_all left_whole moves moved_rows))

event_12 : Step kv v_11 (At (part_id 1) (Finish next_place)) Done v_12
event_12 = inl (ends v_11 (part_id 1) (node.finish kv two next_place r_6) (Does r_7 (done_reply 1 next_place move_four ∷ []))
    (finishes r_6 next_place right_collected ten (answer.Reply kv_reply.Done) ((put_key, 6) ∷ (move_key, 4) ∷ []) (here_is r_5.scheduler.turns next_place right_collected) refl right_has_all right_whole moves moved_rows))

running : Leads kv w_18 move_running (done_times 12) v_12
running = (
  v_1,
  event_1,
  (
    v_2,
    event_2,
    (
      v_3,
      event_3,
      (
        v_4,
        event_4,
        (
          v_5,
          event_5,
          (
            v_6,
            event_6,
            (v_7, event_7, (v_8, event_8, (v_9, event_9, (v_10, event_10, (v_11, event_11, (v_12, event_12, refl)))))),
          ),
        ),
      ),
    ),
  ),
)

-- ---- where they stand

left_is_done : get l_5.scheduler.turns next_place ≡ Some left_done
left_is_done = here_is l_4.scheduler.turns next_place left_done

right_is_done : get r_7.scheduler.turns next_place ≡ Some right_done
right_is_done = here_is r_6.scheduler.turns next_place right_done

put_stays_done : get r_7.scheduler.turns first_place ≡ Some put_done
put_stays_done = first_stays r_6.scheduler.turns right_done ∙ first_stays r_5.scheduler.turns right_collected ∙ first_stays r_4.scheduler.turns right_begun ∙ put_is_done

left_none_later : none_done_from l_5.scheduler 1 ≡ true
left_none_later = none_of l_5.scheduler.turns two_l_5 (λ q. nat_le 1 q.epoch && is_done l_5.scheduler q) refl refl

right_none_later : none_done_from r_7.scheduler 1 ≡ true
right_none_later = none_of r_7.scheduler.turns two_r_7 (λ q. nat_le 1 q.epoch && is_done r_7.scheduler q) refl refl

left_standing : stands l_5.scheduler 1 (next_place ∷ []) 1 ≡ true
left_standing = λ i. (turn_done (left_is_done i) && true) && left_none_later i

right_standing : stands r_7.scheduler 1 (first_place ∷ next_place ∷ []) 1 ≡ true
right_standing = λ i. (turn_done (put_stays_done i) && (turn_done (right_is_done i) && true)) && right_none_later i

pub move_runs : (w : World) × Leads kv (opening two) (move_ordering ++ move_running) (done_times 30) w × RanMove w
move_runs = (
  v_12,
  joined kv (opening two) move_ordering (done_times 18) w_18 to_merged move_running (done_times 12) v_12 running,
  record {
    left = l_5;
    right = r_7;
    there = refl;
    left_stands = ap (λ (b : Bool). cond b (Some 0) (greatest_below (λ e. stands l_5.scheduler 1 (next_place ∷ []) (suc e)) 0)) left_standing;
    right_stands = ap (λ (b : Bool). cond b (Some 0) (greatest_below (λ e. stands r_7.scheduler 1 (first_place ∷ next_place ∷ []) (suc e)) 0)) right_standing;
    left_rows = refl;
    right_rows = put_twice empty put_key 10 6;
    packets = refl;
  },
)
