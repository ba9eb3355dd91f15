-- What packets reply that are noted, each place once, by the first that replied there: the same in whatever order the notes
-- stand, and in the order in which it is told where they stand in that of the places.
use Rattle.std.proofs.Common.{◌≡◌, ℕ, zero, suc, ◌+◌, Bool, true, false, cond, T, ◌||◌, List, [], ◌∷◌, ◌++◌, take, get_or, slice_get, Option, Some, None, refl, sym, ap, subst, ◌∙◌, arith}
use Rattle.std.specs.declared.cmp.Ordering.{Ordering}
use Rattle.std.specs.declared.cmp.Ordering.TheVariants.{Less, Equal, Greater}
use Rattle.std.specs.Ordering.{eq_by_cmp, is_eq, is_lt, ordering_reverse}
use Rattle.std.specs.Cmp.{eq_by_cmp_equiv}
use Rattle.std.specs.List.{All, IsDistinct, flat_map, list_any}
use Rattle.std.specs.List.Sorted.{IsPermutation, IsSortedByKey}
use Rattle.std.specs.Map.{keys_of, lookup}
use Rattle.std.specs.FinMap.{entries, from_entries, from_sorted, is_sorted, get-from_entries, get-from_sorted, entries-from_sorted, same_map}
use Rattle.std.specs.FinMap.Entries.{find, put, below_all, is_some-find}
use Rattle.std.specs.Option.{is_some, option_and_then, option_to_list}
use Rattle.std.proofs.lemmas.Bool.{false≢true}
use Rattle.std.proofs.lemmas.Grind.{flat_map-append}
use Rattle.std.proofs.lemmas.List.{append-nil, append_assoc, map-append}
use Rattle.std.proofs.lemmas.List.Elements.{All-head, All-tail, All-push}
use Rattle.std.proofs.lemmas.List.Folds.{list_any-append}
use Rattle.std.proofs.lemmas.List.Sorted.{IsPermutation-map, IsPermutation-sym, Contains-permutation}
use Rattle.std.proofs.lemmas.Map.Keys.{IsDistinct-push, IsDistinct-IsPermutation}
use Rattle.std.proofs.lemmas.Map.Views.{Contains-from_lookup, lookup-from_Contains}
use Rattle.std.proofs.lemmas.Option.{same_Some}
use Rattle.calvin_types.specs.declared.place.Place.{Place}
use Rattle.calvin_types.specs.declared.place.RequestId.{RequestId}
use Rattle.calvin_types.specs.Places.{place_cmp}
use Rattle.calvin_types.proofs.Conjunctions.{first, second, both, less}
use Rattle.calvin_types.proofs.Fews.{take_at}
use Rattle.calvin_types.proofs.HashMaps.{alike}
use Rattle.calvin_types.proofs.PlaceOrder.{place_total, place_exact, one_place}
use Rattle.calvin_app.specs.declared.answer.Answer.{Answer}
use Rattle.calvin_node_packets.specs.declared.packet.Packet.{Packet}
use Rattle.calvin_node_packets.specs.declared.packet.Content.{Content}
use Rattle.calvin_node_packets.specs.declared.packet.Content.TheVariants as content
use Rattle.calvin_node_packets.specs.Packets.{answered, replied as replied_to}
use Rattle.calvin_lock.specs.Queues.{equal_places}
use Rattle.calvin_lock.proofs.PlaceTests.{places_exact, places_self}
use Rattle.calvin_report.specs.FirstPut.{put_first}
use Rattle.calvin_report.specs.Replies.{ByPlace, reply_in, replied}
use Rattle.calvin_report.specs.Notes.{reply_at, noted, IsNote, AreApart, AreInOrder}
use Rattle.calvin_report.proofs.ByPlace.{find_entries, first_kept}

-- ---- places in order

-- of two places that differ and don't fall the first is before the other
rise : (p q : Place) → eq_by_cmp place_cmp p q ≡ false → is_lt (place_cmp q p) ≡ false → place_cmp p q ≡ Less
rise p q differ upward = go (place_cmp p q) refl
  where
    go : (o : Ordering) → place_cmp p q ≡ o → place_cmp p q ≡ Less
    go Less is = is
    go Equal is = absurd (false≢true (sym differ ∙ ap is_eq is))
    go Greater is = absurd (false≢true (sym upward ∙ ap is_lt (place_total.antisymm q p ∙ ap ordering_reverse is)))

module _ {X : Type 0} where
  below_less : (p q : Place) (es : List (Place × X)) → place_cmp p q ≡ Less → T (below_all place_cmp q es) → T (below_all place_cmp p es)
  below_less p q [] before h = tt
  below_less p q (e ∷ es) before h = both _ _ (subst (λ o. T (is_lt o)) (sym (place_total.trans p q e.0 before (less _ (first _ _ h)))) tt) (below_less p q es before (second _ _ h))

  next_below : (e f : Place × X) (es : List (Place × X)) → place_cmp e.0 f.0 ≡ Less → T (is_sorted place_cmp (f ∷ es)) → T (is_sorted place_cmp (e ∷ f ∷ es))
  next_below e f es before h = both _ _ (both _ _ (subst (λ o. T (is_lt o)) (sym before) tt) (below_less e.0 f.0 es before (first _ _ h))) h

  -- entries in order are those of their map
  in_order : (es : List (Place × X)) → T (is_sorted place_cmp es) → es ≡ entries (from_entries {R = place_cmp} es)
  in_order es so = sym (entries-from_sorted place_cmp es so)
      ∙ ap entries (same_map place_total place_exact (from_sorted es) (from_entries es) (λ q. get-from_sorted place_cmp es q so ∙ sym (get-from_entries place_total es q)))

-- a sort puts places of which none stands twice in order
pub sorted_notes : (notes : List (Place × ℕ)) → IsSortedByKey (λ n. n.0) place_cmp notes → AreApart notes → AreInOrder notes
unfolding IsDistinct
sorted_notes [] up apart = tt
sorted_notes (m ∷ []) up apart = tt
sorted_notes (m ∷ n ∷ notes) up apart =
    next_below m n notes (rise m.0 n.0 apart.0.0 (up 0 m (omega arith) (omega arith))) (sorted_notes (n ∷ notes) (λ k d above within. later k d (up (suc k) d (omega arith) (omega (arith, within)))) apart.1)
  where
    later : (k : ℕ) (d : Place × ℕ) → is_lt (place_cmp (get_or (m ∷ n ∷ notes) (suc k + 1) d).0 (get_or (n ∷ notes) k d).0) ≡ false → is_lt (place_cmp (get_or (n ∷ notes) (k + 1) d).0 (get_or (n ∷ notes) k d).0) ≡ false
    later k d h = let at : suc k + 1 ≡ suc (k + 1) = omega arith in subst (λ j. is_lt (place_cmp (get_or (m ∷ n ∷ notes) j d).0 (get_or (n ∷ notes) k d).0) ≡ false) at h

-- ---- what is noted

module _ {Args Row Reply : Type 0} (packets : List (Packet Args Row Reply)) where
  noted_keys : (notes : List (Place × ℕ)) → All (IsNote packets) notes → keys_of (noted packets notes) ≡ keys_of notes
  noted_keys [] each = refl
  noted_keys (n ∷ notes) each =
      ap (λ (es : ByPlace Reply). keys_of (es ++ noted packets notes)) (All-head (IsNote packets) n notes each).1 ∙ ap (λ ks. n.0 ∷ ks) (noted_keys notes (All-tail (IsNote packets) n notes each))

  noted_below : (p : Place) (notes : List (Place × ℕ)) → All (IsNote packets) notes → T (below_all place_cmp p notes) → T (below_all place_cmp p (noted packets notes))
  noted_below p [] each h = tt
  noted_below p (n ∷ notes) each h =
      subst (λ (es : ByPlace Reply). T (below_all place_cmp p (es ++ noted packets notes))) (sym (All-head (IsNote packets) n notes each).1)
      (both _ _ (first _ _ h) (noted_below p notes (All-tail (IsNote packets) n notes each) (second _ _ h)))

  noted_order : (notes : List (Place × ℕ)) → All (IsNote packets) notes → AreInOrder notes → T (is_sorted place_cmp (noted packets notes))
  noted_order [] each h = tt
  noted_order (n ∷ notes) each h =
      let others = All-tail (IsNote packets) n notes each in
      subst (λ (es : ByPlace Reply). T (is_sorted place_cmp (es ++ noted packets notes))) (sym (All-head (IsNote packets) n notes each).1)
      (both _ _ (noted_below n.0 notes others (first _ _ h)) (noted_order notes others (second _ _ h)))

  -- notes in order tell the first reply at each place, in order
  pub told_in_order : (notes : List (Place × ℕ)) → All (IsNote packets) notes → AreInOrder notes → noted packets notes ≡ entries (from_entries {R = place_cmp} (noted packets notes))
  told_in_order notes each order = in_order (noted packets notes) (noted_order notes each order)

  -- one more note
  pub noted_more : (notes : List (Place × ℕ)) (i : ℕ) (n : Place × ℕ) → slice_get notes i ≡ Some n → noted packets (take (i + 1) notes) ≡ noted packets (take i notes) ++ reply_at packets n.1
  noted_more notes i n here =
      ap (noted packets) (take_at notes i n here) ∙ flat_map-append (λ (m : Place × ℕ). reply_at packets m.1) (take i notes) (n ∷ []) ∙ ap (λ es. noted packets (take i notes) ++ es) (append-nil (reply_at packets n.1))

-- ---- notes in another order

find-lookup : {X : Type 0} (q : Place) (es : List (Place × X)) → find place_cmp q es ≡ lookup (eq_by_cmp place_cmp q) es
find-lookup q [] = refl
find-lookup q (e ∷ es) = ap (cond (eq_by_cmp place_cmp q e.0) (Some e.1)) (find-lookup q es)

module _ (xs ys : List (Place × ℕ)) (apart : AreApart xs) (moved : IsPermutation xs ys) where
  pub still_apart : AreApart ys
  still_apart = IsDistinct-IsPermutation (eq_by_cmp place_cmp) ((eq_by_cmp_equiv place_total).symm) (keys_of xs) (keys_of ys) (IsPermutation-map (λ (n : Place × ℕ). n.0) xs ys moved) apart

  lookup_moved : (q : Place) → lookup (eq_by_cmp place_cmp q) ys ≡ lookup (eq_by_cmp place_cmp q) xs
  lookup_moved q = go (lookup (eq_by_cmp place_cmp q) xs) refl (lookup (eq_by_cmp place_cmp q) ys) refl
    where
      go : (o : Option ℕ) → lookup (eq_by_cmp place_cmp q) xs ≡ o → (p : Option ℕ) → lookup (eq_by_cmp place_cmp q) ys ≡ p → lookup (eq_by_cmp place_cmp q) ys ≡ lookup (eq_by_cmp place_cmp q) xs
      go (Some i) is p there = lookup-from_Contains (eq_by_cmp_equiv place_total) q i ys still_apart (Contains-permutation xs ys (q, i) moved (Contains-from_lookup one_place q i xs is)) ∙ sym is
      go None is None there = there ∙ sym is
      go None is (Some i) there = there ∙ sym (lookup-from_Contains (eq_by_cmp_equiv place_total) q i xs apart (Contains-permutation ys xs (q, i) (IsPermutation-sym xs ys moved) (Contains-from_lookup one_place q i ys there)))

  find_moved : (q : Place) → find place_cmp q ys ≡ find place_cmp q xs
  find_moved q = find-lookup q ys ∙ lookup_moved q ∙ sym (find-lookup q xs)

first_of : {Reply : Type 0} → ByPlace Reply → Option (RequestId × Answer Reply)
first_of [] = None
first_of (e ∷ es) = Some e.1

module _ {Args Row Reply : Type 0} (packets : List (Packet Args Row Reply)) where
  -- what is found at a place is told by the note that is found there
  found_noted : (q : Place) (notes : List (Place × ℕ)) → All (IsNote packets) notes → find place_cmp q (noted packets notes) ≡ option_and_then (λ i. first_of (reply_at packets i)) (find place_cmp q notes)
  unfolding first_of
  found_noted q [] each = refl
  found_noted q (n ∷ notes) each =
      ap (λ (es : ByPlace Reply). find place_cmp q (es ++ noted packets notes)) note.1
      ∙ go (eq_by_cmp place_cmp q n.0) (found_noted q notes (All-tail (IsNote packets) n notes each))
    where
      note : IsNote packets n
      note = All-head (IsNote packets) n notes each

      go : (b : Bool) → find place_cmp q (noted packets notes) ≡ option_and_then (λ i. first_of (reply_at packets i)) (find place_cmp q notes)
          → cond b (Some note.0) (find place_cmp q (noted packets notes)) ≡ option_and_then (λ i. first_of (reply_at packets i)) (cond b (Some n.1) (find place_cmp q notes))
      go true others = sym (ap first_of note.1)
      go false others = others

  -- notes of which no two are of one place tell the same in another order
  pub same_replies : (xs ys : List (Place × ℕ)) → All (IsNote packets) xs → All (IsNote packets) ys → AreApart xs → IsPermutation xs ys
      → entries (from_entries {R = place_cmp} (noted packets ys)) ≡ entries (from_entries {R = place_cmp} (noted packets xs))
  same_replies xs ys of_xs of_ys apart moved =
      ap entries (same_map place_total place_exact (from_entries {R = place_cmp} (noted packets ys)) (from_entries (noted packets xs)) (λ q.
      get-from_entries place_total (noted packets ys) q ∙ found_noted q ys of_ys ∙ ap (option_and_then (λ i. first_of (reply_at packets i))) (find_moved xs ys apart moved q)
      ∙ sym (found_noted q xs of_xs) ∙ sym (get-from_entries place_total (noted packets xs) q)))

-- ---- packet by packet

module _ {Args Row Reply : Type 0} where
  abbrev told : List (Packet Args Row Reply) → ByPlace Reply
  told ps = flat_map (λ (r : Packet Args Row Reply). reply_in r.content) ps

  more_told : (packets : List (Packet Args Row Reply)) (i : ℕ) → told (take (suc i) packets) ≡ told (take i packets) ++ reply_at packets i
  more_told [] zero = refl
  more_told [] (suc i) = refl
  more_told (p ∷ ps) zero = refl
  more_told (p ∷ ps) (suc i) = ap (λ es. reply_in p.content ++ es) (more_told ps i) ∙ sym (append_assoc (reply_in p.content) (told (take i ps)) (reply_at ps i))

  said_reply : (c : Content Args Row Reply) (x : Place × RequestId × ℕ) → Some x ≡ replied_to c → (a : Answer Reply) × (Some a ≡ answered c) × (reply_in c ≡ (x.0, (x.1, a)) ∷ [])
  said_reply (content.Replies q id attempt answer) x is = (answer, refl, ap (λ (y : Place × RequestId × ℕ). (y.0, (y.1, answer)) ∷ []) (sym (same_Some x (q, id, attempt) is)))
  said_reply (content.Synod message) x is = absurd (cc)
  said_reply (content.Decided slot batch) x is = absurd (cc)
  said_reply (content.AskBatch slot) x is = absurd (cc)
  said_reply (content.Reads q rows) x is = absurd (cc)
  said_reply (content.AskReads q) x is = absurd (cc)
  said_reply (content.Warm sets) x is = absurd (cc)

  said_none : (c : Content Args Row Reply) → None ≡ replied_to c → reply_in c ≡ []
  said_none (content.Replies q id attempt answer) is = absurd (cc)
  said_none (content.Synod message) is = refl
  said_none (content.Decided slot batch) is = refl
  said_none (content.AskBatch slot) is = refl
  said_none (content.Reads q rows) is = refl
  said_none (content.AskReads q) is = refl
  said_none (content.Warm sets) is = refl

  -- what the packet of a number replies, by what an outbox tells of it
  of_some : (o : Option (Packet Args Row Reply)) (x : Place × RequestId × ℕ) → Some x ≡ option_and_then (λ p. replied_to p.content) o
      → (a : Answer Reply) × (Some a ≡ option_and_then (λ p. answered p.content) o) × (flat_map (λ (p : Packet Args Row Reply). reply_in p.content) (option_to_list o) ≡ (x.0, (x.1, a)) ∷ [])
  of_some None x is = absurd (cc)
  of_some (Some p) x is = let here = said_reply p.content x is in (here.0, here.1, append-nil (reply_in p.content) ∙ here.2)

  of_none : (o : Option (Packet Args Row Reply)) → None ≡ option_and_then (λ p. replied_to p.content) o → flat_map (λ (p : Packet Args Row Reply). reply_in p.content) (option_to_list o) ≡ []
  of_none None is = refl
  of_none (Some p) is = append-nil (reply_in p.content) ∙ said_none p.content is

  module _ (packets : List (Packet Args Row Reply)) (i : ℕ) where
    pub no_reply_here : None ≡ option_and_then (λ p. replied_to p.content) (slice_get packets i) → reply_at packets i ≡ []
    no_reply_here is = of_none (slice_get packets i) is

    pub is_note : (x : Place × RequestId × ℕ) → Some x ≡ option_and_then (λ p. replied_to p.content) (slice_get packets i) → IsNote packets (x.0, i)
    is_note x is = let here = of_some (slice_get packets i) x is in ((x.1, here.0), here.2)

  -- after so many packets: the places, and the notes of the first that replied at each
  pub record Noted (packets : List (Packet Args Row Reply)) (places : List Place) (notes : List (Place × ℕ)) (i : ℕ) : Type 0 where
    pub so_far : entries (from_entries {R = place_cmp} (noted packets notes)) ≡ entries (replied (take i packets))
    pub each : All (IsNote packets) notes
    pub apart : AreApart notes
    pub same : (q : Place) → list_any (equal_places q) places ≡ list_any (eq_by_cmp place_cmp q) (keys_of notes)

  module _ (packets : List (Packet Args Row Reply)) (places : List Place) (notes : List (Place × ℕ)) (i : ℕ) (now : Noted packets places notes i) where
    one_on : suc i ≡ i + 1
    one_on = omega arith

    told_on : told (take (i + 1) packets) ≡ told (take i packets) ++ reply_at packets i
    told_on = ap (λ n. told (take n packets)) (sym one_on) ∙ more_told packets i

    -- a packet that doesn't reply
    pub passed : reply_at packets i ≡ [] → Noted packets places notes (i + 1)
    passed none = record {
      so_far = now.so_far ∙ ap (λ es. entries (from_entries {R = place_cmp} es)) (sym (told_on ∙ ap (λ es. told (take i packets) ++ es) none ∙ append-nil (told (take i packets))));
      each = now.each;
      apart = now.apart;
      same = now.same;
    }

    module _ (q : Place) (note : IsNote packets (q, i)) where
      replied_on : entries (replied (take (i + 1) packets)) ≡ put_first q note.0 (entries (replied (take i packets)))
      replied_on = ap (λ es. entries (from_entries {R = place_cmp} es)) (told_on ∙ ap (λ es. told (take i packets) ++ es) note.1) ∙ first_kept (told (take i packets)) q note.0

      found : list_any (equal_places q) places ≡ true → is_some (find place_cmp q (entries (replied (take i packets)))) ≡ true
      found there =
          ap (λ (es : ByPlace Reply). is_some (find place_cmp q es)) (sym now.so_far) ∙ ap is_some (find_entries (noted packets notes) q) ∙ is_some-find place_cmp q (noted packets notes)
          ∙ ap (list_any (eq_by_cmp place_cmp q)) (noted_keys packets notes now.each) ∙ sym (now.same q) ∙ there

      -- one that replies where one did before
      pub noted_before : (after : List Place) → after ≡ places → list_any (equal_places q) places ≡ true → Noted packets after notes (i + 1)
      noted_before after unchanged there = record {
        so_far = now.so_far ∙ sym (replied_on ∙ ap (λ b. cond b (entries (replied (take i packets))) (put place_cmp q note.0 (entries (replied (take i packets))))) (found there));
        each = now.each;
        apart = now.apart;
        same = λ p. ap (list_any (equal_places p)) unchanged ∙ now.same p;
      }

      -- one that replies where none did
      pub noted_first : (after : List Place) → ((p : Place) → list_any (equal_places p) after ≡ cond (equal_places q p) true (list_any (equal_places p) places)) → list_any (equal_places q) places ≡ false → Noted packets after (notes ++ (q, i) ∷ []) (i + 1)
      noted_first after more absent = record {
        so_far = ap (λ es. entries (from_entries {R = place_cmp} es)) (flat_map-append (λ (n : Place × ℕ). reply_at packets n.1) notes ((q, i) ∷ []) ∙ ap (λ es. noted packets notes ++ es) (append-nil (reply_at packets i) ∙ note.1))
            ∙ first_kept (noted packets notes) q note.0 ∙ ap (put_first q note.0) now.so_far ∙ sym replied_on;
        each = All-push (IsNote packets) notes (q, i) now.each note;
        apart = subst (IsDistinct (eq_by_cmp place_cmp)) (sym keys_on) (IsDistinct-push (eq_by_cmp_equiv place_total) (keys_of notes) q now.apart (sym (now.same q) ∙ absent));
        same = λ p. more p ∙ ap (λ b. cond (equal_places q p) true b) (now.same p) ∙ one_more p ∙ sym (ap (list_any (eq_by_cmp place_cmp p)) keys_on ∙ list_any-append (eq_by_cmp place_cmp p) (keys_of notes) (q ∷ []));
      }
        where
          keys_on : keys_of (notes ++ (q, i) ∷ []) ≡ keys_of notes ++ q ∷ []
          keys_on = map-append (λ (n : Place × ℕ). n.0) notes ((q, i) ∷ [])

          one_more : (p : Place) → cond (equal_places q p) true (list_any (eq_by_cmp place_cmp p) (keys_of notes)) ≡ (list_any (eq_by_cmp place_cmp p) (keys_of notes) || (eq_by_cmp place_cmp p q || false))
          one_more p = ap (λ b. cond b true (list_any (eq_by_cmp place_cmp p) (keys_of notes))) (alike equal_places place_cmp place_total place_exact places_exact places_self q p ∙ (eq_by_cmp_equiv place_total).symm q p)
              ∙ go (eq_by_cmp place_cmp p q) (list_any (eq_by_cmp place_cmp p) (keys_of notes))
            where
              go : (a b : Bool) → cond a true b ≡ (b || (a || false))
              go true true = refl
              go true false = refl
              go false true = refl
              go false false = refl
