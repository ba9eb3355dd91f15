-- Histories as they go on.
--     at_seam, last_in, last_is      an element between others, and the last one
--     numbered_next, numbered_length, at_numbered, whole_at      things with their numbers
--     one_more      what holds of each of a list's first elements holds of one more
--     told_there      of what something is told
--     has_sent      what a node has sent
--     sent_stays      what a longer history makes of a node has sent what it had sent before
--     next_locked, AreMarkedAt, marked_more      the nodes of a store, and marks of them, one by one
--     lives_more      one more history that gives a node's data
--     entered_in, replied_in      what a receipt says of a beginning holds of the whole
use Rattle.std.proofs.Common.{◌≡◌, ℕ, zero, suc, ◌+◌, ◌<◌, ◌*◌, List, [], ◌∷◌, ◌++◌, length, append_assoc, append-nil, Option, Some, None, slice_get, inl, inr, ◌⊎◌, refl, sym, ap, subst, ◌∙◌, arith}
use Rattle.std.specs.Prelude.{option_and_then}
use Rattle.std.proofs.Math.ListN.{get_or}
use Rattle.std.proofs.lemmas.Option.{none-some, slice_get_read, slice_get_within}
use mathlib.Core.List.{IsPrefix}
use Rattle.calvin_types.specs.declared.place.NodeId.{NodeId}
use Rattle.calvin_types.specs.Deeds.{Refuses, Does}
use Rattle.calvin_app.specs.Meaning.{Meaning}
use Rattle.calvin_bench.proofs.Lists.{get_left}
use Rattle.calvin_order.specs.Configs.{Config}
use Rattle.calvin_node_acts.specs.NodeStates.{NodeState}
use Rattle.calvin_node_acts.specs.Handling.{NodeDeed}
use Rattle.calvin_node_acts.specs.Running.{settled}
use Rattle.calvin_node_packets.specs.declared.packet.Packet.{Packet}
use Rattle.calvin_world.specs.Worlds.{index_of, opening}
use Rattle.calvin_book.specs.Books.{Log}
use Rattle.calvin_histories.specs.declared.entry.Entry.{Entry}
use Rattle.calvin_histories.specs.Histories.{Life, id_of, new_life, lives_on, deed_in, life_of, part_at}
use Rattle.calvin_histories.specs.Locked.{Lived, IsLife, lived_at, AreLockedOf}
use Rattle.calvin_histories.proofs.Lives.{index_is}
use Rattle.calvin_wide_desk.specs.declared.receipt.Entered.{Entered}
use Rattle.calvin_wide_desk.specs.declared.receipt.Replied.{Replied}
use Rattle.calvin_wide_desk.specs.Receipts.{IsEntry, HasSent, IsReply, IsEnteredIn, IsRepliedIn}
use Rattle.calvin_wide_desk.specs.Stopping.{numbered, HasLife, HaveLived}

-- what is told of something is told of what is there
pub told_there : {X Y : Type 0} (f : X → Option Y) (o : Option X) (y : Y) → option_and_then f o ≡ Some y → (x : X) × (o ≡ Some x) × (f x ≡ Some y)
told_there f None y is = absurd (none-some y is)
told_there f (Some x) y is = (x, refl, is)

before_or_at : (i n : ℕ) → i < n + 1 → (i < n) ⊎ (i ≡ n)
before_or_at zero zero less = inr refl
before_or_at zero (suc n) less = inl (omega arith)
before_or_at (suc i) zero less = absurd (omega (arith, less))
before_or_at (suc i) (suc n) less = elim (before_or_at i n (omega (arith, less))) [ inl before ↦ inl (omega (arith, before)) | inr at ↦ inr (ap suc at) ]

module _ {X : Type 0} where
  numbered_more : (n : ℕ) (xs : List X) (x : X) → numbered n (xs ++ x ∷ []) ≡ numbered n xs ++ (n + length xs, x) ∷ []
  numbered_more n [] x = ap (λ (k : ℕ). (k, x) ∷ []) (omega arith)
  numbered_more n (y ∷ xs) x = ap (λ rest. (n, y) ∷ rest) (numbered_more (suc n) xs x ∙ ap (λ (k : ℕ). numbered (suc n) xs ++ (k, x) ∷ []) (omega arith))

  pub numbered_next : (xs : List X) (ws : List (ℕ × X)) (x : X) (w : ℕ × X) → ws ≡ numbered 0 xs → w.0 ≡ length xs → w.1 ≡ x → ws ++ w ∷ [] ≡ numbered 0 (xs ++ x ∷ [])
  numbered_next xs ws x w are number is = (λ i. are i ++ (number i, is i) ∷ []) ∙ ap (λ (k : ℕ). numbered 0 xs ++ (k, x) ∷ []) (omega arith) ∙ sym (numbered_more 0 xs x)

  pub numbered_length : (n : ℕ) (xs : List X) → length (numbered n xs) ≡ length xs
  numbered_length n [] = refl
  numbered_length n (y ∷ xs) = ap suc (numbered_length (suc n) xs)

  pub at_numbered : (n : ℕ) (xs : List X) (i : ℕ) (w : ℕ × X) → slice_get (numbered n xs) i ≡ Some w → (w.0 ≡ n + i) × (slice_get xs i ≡ Some w.1)
  at_numbered n [] i w h = absurd (none-some w h)
  at_numbered n (y ∷ xs) zero w h = (ap (λ (v : ℕ × X). v.0) (sym (some_is h)) ∙ omega arith, ap (λ (v : ℕ × X). Some v.1) (some_is h))
    where
      some_is : {a b : ℕ × X} → Some a ≡ Some b → a ≡ b
      some_is e = cc
  at_numbered n (y ∷ xs) (suc i) w h = let rest = at_numbered (suc n) xs i w h in (rest.0 ∙ omega arith, rest.1)

  -- the last one, or one of the others
  pub get_more : (xs : List X) (x y : X) (k : ℕ) → slice_get (xs ++ x ∷ []) k ≡ Some y → (slice_get xs k ≡ Some y) ⊎ ((k ≡ length xs) × (x ≡ y))
  get_more [] x y zero h = inr (refl, some_is h)
    where
      some_is : {a b : X} → Some a ≡ Some b → a ≡ b
      some_is e = cc
  get_more [] x y (suc k) h = absurd (none-some y h)
  get_more (z ∷ xs) x y zero h = inl h
  get_more (z ∷ xs) x y (suc k) h = elim (get_more xs x y k h) [ inl old ↦ inl old | inr new ↦ inr (ap suc new.0, new.1) ]

  pub whole_at : (xs : List X) (n : ℕ) (w : ℕ × X) → n < length xs → w ≡ get_or (numbered 0 xs) n w → (w.0 ≡ n) × (slice_get xs n ≡ Some w.1)
  whole_at xs n w less is =
      let at = at_numbered 0 xs n w (slice_get_read (numbered 0 xs) (length xs) n w (sym (numbered_length 0 xs)) less is) in
      (at.0 ∙ omega arith, at.1)

  pub at_seam : (xs : List X) (x : X) (rest : List X) → slice_get (xs ++ x ∷ rest) (length xs) ≡ Some x
  at_seam [] x rest = refl
  at_seam (y ∷ xs) x rest = at_seam xs x rest

  pub last_in : (xs all : List X) (x : X) (n : ℕ) → all ≡ xs ++ x ∷ [] → n ≡ length xs → n < length all
  last_in xs all x n is number = subst (λ k. k < length all) (sym number) (subst (λ (ys : List X). length xs < length ys) (sym is) (slice_get_within (xs ++ x ∷ []) (length xs) x (at_seam xs x [])))

  pub last_is : (xs all : List X) (x y : X) (n : ℕ) → all ≡ xs ++ x ∷ [] → n ≡ length xs → y ≡ get_or all n y → y ≡ x
  last_is xs all x y n is number at =
      some_is (sym (slice_get_read all (length all) n y refl (last_in xs all x n is number) at) ∙ (λ i. slice_get (is i) (number i)) ∙ at_seam xs x [])
    where
      some_is : {a b : X} → Some a ≡ Some b → a ≡ b
      some_is e = cc

  pub one_more : (P : X → Type 0) (xs : List X) (n : ℕ) (x : X) → ((i : ℕ) (y : X) → i < n → slice_get xs i ≡ Some y → P y) → n < length xs → x ≡ get_or xs n x → P x → (i : ℕ) (y : X) → i < n + 1 → slice_get xs i ≡ Some y → P y
  one_more P xs n x before less is holds i y below at =
      elim (before_or_at i n below) [
        | inl earlier ↦ before i y earlier at
        | inr last ↦ subst P (some_is (sym (slice_get_read xs (length xs) n x refl less is) ∙ ap (slice_get xs) (sym last) ∙ at)) holds
      ]
    where
      some_is : {a b : X} → Some a ≡ Some b → a ≡ b
      some_is e = cc

-- the nodes of a store, one by one
module _ {Args Row Reply : Type 0} (m : Meaning Args Row Reply) (log : Log Args) where
  pub next_locked : (before rest : List (Lived Args Row Reply)) (n : Lived Args Row Reply) → AreLockedOf m log (before ++ n ∷ rest) → (n ≡ lived_at m log (length before)) × (length before < log.config.replicas * log.config.partitions)
  next_locked before rest n locked =
      let at = at_seam before n rest in
      (locked.each (length before) n at, subst (λ k. length before < k) locked.number (slice_get_within (before ++ n ∷ rest) (length before) n at))

  abbrev pub AreMarkedAt : List (ℕ × List (Entry Args Row Reply)) → Type 0
  AreMarkedAt marks = (i : ℕ) (mark : ℕ × List (Entry Args Row Reply)) → slice_get marks i ≡ Some mark → mark ≡ (i, part_at m (opening log.config) log.events (id_of log.config.partitions i))

  pub marked_more : (marks : List (ℕ × List (Entry Args Row Reply))) → AreMarkedAt marks → (mark : ℕ × List (Entry Args Row Reply)) (n : Lived Args Row Reply) (i : ℕ) → i ≡ length marks → n ≡ lived_at m log i → mark ≡ (i, n.history) → AreMarkedAt (marks ++ mark ∷ [])
  marked_more marks before mark n i is_length is_node is_mark k y at =
      elim (get_more marks mark y k at) [
        | inl old ↦ before k y old
        | inr new ↦
            let same : i ≡ k = is_length ∙ sym new.0 in
            sym new.1 ∙ is_mark ∙ ap (λ (l : Lived Args Row Reply). (i, l.history)) is_node ∙ ap (λ (j : ℕ). (j, part_at m (opening log.config) log.events (id_of log.config.partitions j))) same
      ]

module _ {Args Row Reply : Type 0} (m : Meaning Args Row Reply) (c : Config) where
  -- what a history has sent goes on
  sent_on : (life : Life Args Row Reply) (entries : List (Entry Args Row Reply)) (now : Life Args Row Reply) → ((next : Life Args Row Reply) → life_of m c next entries ≡ Some now → IsPrefix next.sent now.sent)
      → (d : NodeDeed Args Row Reply) → option_and_then (λ next. life_of m c next entries) (lives_on life d) ≡ Some now → IsPrefix life.sent now.sent
  sent_on life entries now later (Refuses f) is = absurd (none-some now is)
  sent_on life entries now later (Does next packets) is =
      let rest = later (record { state = settled next; sent = life.sent ++ packets }) is in
      (packets ++ rest.0, sym (append_assoc life.sent packets rest.0) ∙ rest.1)

  sent_more : (life : Life Args Row Reply) (entries : List (Entry Args Row Reply)) (now : Life Args Row Reply) → life_of m c life entries ≡ Some now → IsPrefix life.sent now.sent
  sent_more life [] now is = ([], append-nil life.sent ∙ ap (λ (l : Life Args Row Reply). l.sent) (some_is is))
    where
      some_is : {a b : Life Args Row Reply} → Some a ≡ Some b → a ≡ b
      some_is e = cc
  sent_more life (entry ∷ entries) now is = sent_on life entries now (λ next. sent_more next entries now) (deed_in m c entry life.state) is

  go_on : (xs ys : List (Entry Args Row Reply)) (l : Life Args Row Reply) → ((next : Life Args Row Reply) → life_of m c next xs ≡ Some l → life_of m c next (xs ++ ys) ≡ life_of m c l ys)
      → (o : Option (Life Args Row Reply)) → option_and_then (λ next. life_of m c next xs) o ≡ Some l → option_and_then (λ next. life_of m c next (xs ++ ys)) o ≡ life_of m c l ys
  go_on xs ys l later None is = absurd (none-some l is)
  go_on xs ys l later (Some next) is = later next is

  life_after : (life : Life Args Row Reply) (xs ys : List (Entry Args Row Reply)) (l : Life Args Row Reply) → life_of m c life xs ≡ Some l → life_of m c life (xs ++ ys) ≡ life_of m c l ys
  life_after life [] ys l is = ap (λ (k : Life Args Row Reply). life_of m c k ys) (some_is is)
    where
      some_is : {a b : Life Args Row Reply} → Some a ≡ Some b → a ≡ b
      some_is e = cc
  life_after life (x ∷ xs) ys l is = go_on xs ys l (λ next. life_after next xs ys l) (lives_on life (deed_in m c x life.state)) is

  pub has_sent : (n : Lived Args Row Reply) (id : NodeId) (history : List (Entry Args Row Reply)) (state : NodeState Args Row) (sent : List (Packet Args Row Reply)) → IsLife m n state sent → n.config ≡ c → id ≡ n.id → history ≡ n.history
      → (number : ℕ) (p : Packet Args Row Reply) → slice_get sent number ≡ Some p → HasSent m c id history number p
  has_sent n id history state sent lived is_config is_id is_history number p there =
      record { life = record { state = state; sent = sent }; lived = (λ i. life_of m (sym is_config i) (new_life (is_id i)) (is_history i)) ∙ lived; sent = there }

  pub sent_stays : (id : NodeId) (part whole : List (Entry Args Row Reply)) → IsPrefix part whole → (now : Life Args Row Reply) → life_of m c (new_life id) whole ≡ Some now → (number : ℕ) (p : Packet Args Row Reply) → HasSent m c id part number p → HasSent m c id whole number p
  sent_stays id part whole prefix now lived number p has =
      let on = sym (life_after (new_life id) part prefix.0 has.life has.lived) ∙ ap (life_of m c (new_life id)) prefix.1 ∙ lived in
      let more = sent_more has.life prefix.0 now on in
      record { life = now; lived = lived; sent = ap (λ ps. slice_get ps number) (sym more.1) ∙ get_left has.life.sent more.0 number p has.sent }

  pub lives_more : (histories : List (List (Entry Args Row Reply))) → HaveLived m c histories → (history : List (Entry Args Row Reply)) (id : NodeId) (n : ℕ) → id ≡ id_of c.partitions n → n ≡ length histories → HasLife m c id history → HaveLived m c (histories ++ history ∷ [])
  lives_more histories before history id n is_node number life i h at =
      elim (get_more histories history h i at) [
        | inl old ↦ before i h old
        | inr new ↦ subst (λ (a : NodeId). HasLife m c a h) (is_node ∙ ap (id_of c.partitions) (number ∙ sym new.0)) (subst (HasLife m c id) new.1 life)
      ]

  -- what a beginning of a node's history says holds of the whole
  module _ (histories : List (List (Entry Args Row Reply))) (node : ℕ) (part : List (Entry Args Row Reply)) where
    found_at : (whole : List (Entry Args Row Reply)) → slice_get histories node ≡ Some whole → (id : NodeId) → id ≡ id_of c.partitions node → slice_get histories (index_of c.partitions id) ≡ Some whole
    found_at whole there id is = ap (λ (a : NodeId). slice_get histories (index_of c.partitions a)) is ∙ ap (slice_get histories) (index_is c.partitions node) ∙ there

    abbrev Begins : Type 0
    Begins = (whole : List (Entry Args Row Reply)) × (slice_get histories node ≡ Some whole) × IsPrefix part whole

    pub entered_in : Begins → (s : Entered Args) → s.node ≡ id_of c.partitions node → IsEntry part s → IsEnteredIn c.partitions histories s
    entered_in (whole, there, prefix) s is entry =
        record { history = whole; of_node = found_at whole there s.node is; entry = ap (λ es. slice_get es s.entry) (sym prefix.1) ∙ get_left part prefix.0 s.entry _ entry }

    pub replied_in : Begins → HaveLived m c histories → (a : Replied Args Reply) → a.name.sender ≡ id_of c.partitions node → IsReply m c part a → IsRepliedIn m c histories a
    replied_in (whole, there, prefix) lived a is reply =
        let life = lived node whole there in
        let on = ap (λ (id : NodeId). life_of m c (new_life id) whole) is ∙ life.1 in
        record {
          history = whole;
          of_node = found_at whole there a.name.sender is;
          reply = record { replica = reply.replica; packet = reply.packet; sent = sent_stays a.name.sender part whole prefix life.0 on a.name.number reply.packet reply.sent; answers = reply.answers };
        }
