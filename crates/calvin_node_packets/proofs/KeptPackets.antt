-- Packets that are kept without their rows, sets and answers are restored from the lists of these.
use Rattle.std.proofs.Common.{◌≡◌, ℕ, zero, suc, ◌+◌, ◌-◌, ◌<◌, ◌≤◌, true, false, List, [], ◌∷◌, ◌++◌, length, map, take, Option, Some, None, slice_get, slice_set, refl, sym, ap, subst, ◌∙◌, arith}
use Rattle.std.specs.Prelude.{slice_index_or}
use Rattle.std.specs.FinMap as finmap
use Rattle.std.proofs.lemmas.Option.{none-some, same_Some, slice_get-map, slice_get-get_or, slice_get_past, slice_get_within, get_or_from_slice_get}
use Rattle.std.specs.Option.{option_map, option_and_then}
use Rattle.std.proofs.Math.Seq.{take-append_seam}
use Rattle.std.proofs.lemmas.List.{map-set, length-append, append-nil, get_or_append_left, get_or_push, get_or-take, length-take, length-map, map-append}
use Rattle.calvin_types.specs.declared.key_set.Sets.{Sets}
use Rattle.calvin_types.specs.declared.place.NodeId.{NodeId}
use Rattle.calvin_types.specs.declared.place.Place.{Place}
use Rattle.calvin_types.specs.declared.place.RequestId.{RequestId}
use Rattle.calvin_app.specs.Rows.{Rows}
use Rattle.calvin_app.specs.declared.answer.Answer.{Answer}
use Rattle.calvin_app.specs.declared.answer.Answer.TheVariants.{Changed}
use Rattle.calvin_node_packets.specs.declared.kept.Kept.{Kept}
use Rattle.calvin_node_packets.specs.declared.kept.KeptContent.{KeptContent}
use Rattle.calvin_node_packets.specs.declared.kept.KeptContent.TheVariants as stored
use Rattle.calvin_node_packets.specs.declared.packet.Content.{Content}
use Rattle.calvin_node_packets.specs.declared.packet.Content.TheVariants.{Synod, Decided, AskBatch, Reads, AskReads, Warm, Replies}
use Rattle.calvin_node_packets.specs.declared.packet.Packet.{Packet}
use Rattle.calvin_node_packets.specs.declared.packet.Address.{Address}
use Rattle.std.proofs.lemmas.Bool.{true≢false}
use Rattle.calvin_node_packets.specs.Packets.{is_light, IsLent, CanBePut, answered}
use Rattle.calvin_node_packets.specs.Keeping.{Lists, Counts, none, counts, is_plain, IsAt, with_it, AreKept, said, restored, kept_of, lists_with, lists_cut, Below}

-- no less of each
record Within (few many : Counts) : Type 0 where
  rows : few.rows ≤ many.rows
  sets : few.sets ≤ many.sets
  answers : few.answers ≤ many.answers

module _ {Args : Type 0} where
  more_with : (c : Counts) (k : KeptContent Args) (all : Counts) → Within (with_it c k) all → Within c all
  more_with c (stored.Synod message) all h = h
  more_with c (stored.Decided slot batch) all h = h
  more_with c (stored.AskBatch slot) all h = h
  more_with c (stored.Reads place number) all h = record { rows = omega (arith, h.rows); sets = h.sets; answers = h.answers }
  more_with c (stored.AskReads place) all h = h
  more_with c (stored.Warm number) all h = record { rows = h.rows; sets = omega (arith, h.sets); answers = h.answers }
  more_with c (stored.Replies place id attempt number) all h = record { rows = h.rows; sets = h.sets; answers = omega (arith, h.answers) }

  all_within : (ks : List (Kept Args)) (c all : Counts) → AreKept ks c all → Within c all
  all_within [] c all h = record { rows = omega (arith, ap (λ x. x.rows) h); sets = omega (arith, ap (λ x. x.sets) h); answers = omega (arith, ap (λ x. x.answers) h) }
  all_within (k ∷ ks) c all h = more_with c k.content all (all_within ks (with_it c k.content) all h.1)

  here_below : (k : KeptContent Args) (c all : Counts) → IsAt k c → Within (with_it c k) all → Below k all
  here_below (stored.Synod message) c all at h = tt
  here_below (stored.Decided slot batch) c all at h = tt
  here_below (stored.AskBatch slot) c all at h = tt
  here_below (stored.Reads place number) c all at h = omega (arith, at, h.rows)
  here_below (stored.AskReads place) c all at h = tt
  here_below (stored.Warm number) c all at h = omega (arith, at, h.sets)
  here_below (stored.Replies place id attempt number) c all at h = omega (arith, at, h.answers)

  -- what each has is there
  pub is_below : (ks : List (Kept Args)) (c all : Counts) (n : ℕ) (k : Kept Args) → AreKept ks c all → slice_get ks n ≡ Some k → Below k.content all
  is_below [] c all n k h here = absurd (none-some _ here)
  is_below (x ∷ ks) c all zero k h here = subst (λ (y : Kept Args). Below y.content all) (same_Some x k here) (here_below x.content c all h.0 (all_within ks (with_it c x.content) all h.1))
  is_below (x ∷ ks) c all (suc n) k h here = is_below ks (with_it c x.content) all n k h.1 here

  -- one more
  pub kept-push : (ks : List (Kept Args)) (k : Kept Args) (c all : Counts) → AreKept ks c all → IsAt k.content all → AreKept (ks ++ k ∷ []) c (with_it all k.content)
  kept-push [] k c all h at = (subst (λ (x : Counts). IsAt k.content x) (sym h) at, ap (λ (x : Counts). with_it x k.content) h)
  kept-push (x ∷ ks) k c all h at = (h.0, kept-push ks k (with_it c x.content) all h.1 at)

  -- and one less
  pub record IsShorter (ks : List (Kept Args)) (k : Kept Args) (c all : Counts) : Type 0 where
    pub left : Counts
    pub kept : AreKept ks c left
    pub last : IsAt k.content left
    pub all_is : with_it left k.content ≡ all

  pub kept-pop : (ks : List (Kept Args)) (k : Kept Args) (c all : Counts) → AreKept (ks ++ k ∷ []) c all → IsShorter ks k c all
  kept-pop [] k c all h = record { left = c; kept = refl; last = h.0; all_is = h.1 }
  kept-pop (x ∷ ks) k c all h = let rest = kept-pop ks k (with_it c x.content) all h.1 in record { left = rest.left; kept = (h.0, rest.kept); last = rest.last; all_is = rest.all_is }

  plain_adds_nothing : (k : KeptContent Args) (c : Counts) → is_plain k ≡ true → with_it c k ≡ c
  plain_adds_nothing (stored.Synod message) c h = refl
  plain_adds_nothing (stored.Decided slot batch) c h = refl
  plain_adds_nothing (stored.AskBatch slot) c h = refl
  plain_adds_nothing (stored.Reads place number) c h = absurd (cc)
  plain_adds_nothing (stored.AskReads place) c h = refl
  plain_adds_nothing (stored.Warm number) c h = absurd (cc)
  plain_adds_nothing (stored.Replies place id attempt number) c h = absurd (cc)

  plain_at : (k : KeptContent Args) (c : Counts) → is_plain k ≡ true → IsAt k c
  plain_at (stored.Synod message) c h = tt
  plain_at (stored.Decided slot batch) c h = tt
  plain_at (stored.AskBatch slot) c h = tt
  plain_at (stored.Reads place number) c h = absurd (cc)
  plain_at (stored.AskReads place) c h = tt
  plain_at (stored.Warm number) c h = absurd (cc)
  plain_at (stored.Replies place id attempt number) c h = absurd (cc)

  -- another that has nothing in the place of one that has nothing
  pub kept-set : (ks : List (Kept Args)) (n : ℕ) (old new : Kept Args) (c all : Counts) → AreKept ks c all → slice_get ks n ≡ Some old → is_plain old.content ≡ true → is_plain new.content ≡ true → AreKept (slice_set ks n new) c all
  kept-set [] n old new c all h here was is = absurd (none-some _ here)
  kept-set (x ∷ ks) zero old new c all h here was is =
      let same : with_it c x.content ≡ with_it c new.content = ap (λ (y : Kept Args). with_it c y.content) (same_Some x old here) ∙ plain_adds_nothing old.content c was ∙ sym (plain_adds_nothing new.content c is) in
      (plain_at new.content c is, subst (λ (y : Counts). AreKept ks y all) same h.1)
  kept-set (x ∷ ks) (suc n) old new c all h here was is = (h.0, kept-set ks n old new (with_it c x.content) all h.1 here was is)

-- what comes behind leaves what is there
behind : {X : Type 0} (xs more : List X) (i : ℕ) (d : X) → i < length xs → slice_index_or xs i d ≡ slice_index_or (xs ++ more) i d
behind xs more i d low = sym (get_or_append_left xs more d i low)

at_push : {X : Type 0} (xs : List X) (x d : X) → slice_index_or (xs ++ x ∷ []) (length xs) d ≡ x
at_push xs x d = get_or_push xs x d (length xs) refl

same_length : {X : Type 0} (xs : List X) → length xs ≡ length (xs ++ [])
same_length xs = sym (ap length (append-nil xs))

short : {X : Type 0} (xs : List X) (number left : ℕ) → number ≡ left → left + 1 ≡ length xs → length (take number xs) ≡ left
short xs number left is all = length-take number xs ∙ omega (arith, is, all)

before : {X : Type 0} (xs : List X) (number left i : ℕ) (d : X) → number ≡ left → i < left → slice_index_or xs i d ≡ slice_index_or (take number xs) i d
before xs number left i d is low = let there : i < number = omega (arith, is, low) in sym (get_or-take number xs i d there)

module _ {Row Reply : Type 0} where
  -- lists that agree as far as something is kept
  pub record Agree (all : Counts) (one other : Lists Row Reply) : Type 0 where
    pub rows : (i : ℕ) → i < all.rows → slice_index_or one.rows i finmap.empty ≡ slice_index_or other.rows i finmap.empty
    pub sets : (i : ℕ) → i < all.sets → slice_index_or one.sets i (record { reads = []; writes = [] }) ≡ slice_index_or other.sets i (record { reads = []; writes = [] })
    pub answers : (i : ℕ) → i < all.answers → slice_index_or one.answers i Changed ≡ slice_index_or other.answers i Changed

module _ {Args Row Reply : Type 0} where
  said_alike : (k : KeptContent Args) (all : Counts) (one other : Lists Row Reply) → Agree all one other → Below k all → said one k ≡ said other k
  said_alike (stored.Synod message) all one other h low = refl
  said_alike (stored.Decided slot batch) all one other h low = refl
  said_alike (stored.AskBatch slot) all one other h low = refl
  said_alike (stored.Reads place number) all one other h low = ap (λ r. Reads place r) (h.rows number low)
  said_alike (stored.AskReads place) all one other h low = refl
  said_alike (stored.Warm number) all one other h low = ap (λ s. Warm s) (h.sets number low)
  said_alike (stored.Replies place id attempt number) all one other h low = ap (λ a. Replies place id attempt a) (h.answers number low)

  pub restored_alike : (ks : List (Kept Args)) (c all : Counts) (one other : Lists Row Reply) → AreKept ks c all → Agree all one other → map (restored {Args = Args} one) ks ≡ map (restored other) ks
  restored_alike [] c all one other h same = refl
  restored_alike (k ∷ ks) c all one other h same =
      let low = here_below k.content c all h.0 (all_within ks (with_it c k.content) all h.1) in
      λ i. record { from = k.from; to = k.to; content = said_alike k.content all one other same low i } ∷ restored_alike ks (with_it c k.content) all one other h.1 same i

  agree_with : (l : Lists Row Reply) (content : Content Args Row Reply) → Agree (counts l) l (lists_with l content)
  agree_with l content = record {
    rows = λ i low. behind l.rows _ i finmap.empty low;
    sets = λ i low. behind l.sets _ i (record { reads = []; writes = [] }) low;
    answers = λ i low. behind l.answers _ i Changed low;
  }

  said_of : (l : Lists Row Reply) (content : Content Args Row Reply) → said (lists_with l content) (kept_of (counts l) content) ≡ content
  said_of l (Synod message) = refl
  said_of l (Decided slot batch) = refl
  said_of l (AskBatch slot) = refl
  said_of l (Reads place rows) = ap (λ r. Reads place r) (at_push l.rows rows finmap.empty)
  said_of l (AskReads place) = refl
  said_of l (Warm sets) = ap (λ s. Warm s) (at_push l.sets sets (record { reads = []; writes = [] }))
  said_of l (Replies place id attempt answer) = ap (λ a. Replies place id attempt a) (at_push l.answers answer Changed)

  placed : (c : Counts) (content : Content Args Row Reply) → IsAt (kept_of c content) c
  placed c (Synod message) = tt
  placed c (Decided slot batch) = tt
  placed c (AskBatch slot) = tt
  placed c (Reads place rows) = refl
  placed c (AskReads place) = tt
  placed c (Warm sets) = refl
  placed c (Replies place id attempt answer) = refl

  counts_with : (l : Lists Row Reply) (content : Content Args Row Reply) → with_it (counts l) (kept_of (counts l) content) ≡ counts (lists_with l content)
  counts_with l (Synod message) = λ i. record { rows = same_length l.rows i; sets = same_length l.sets i; answers = same_length l.answers i }
  counts_with l (Decided slot batch) = λ i. record { rows = same_length l.rows i; sets = same_length l.sets i; answers = same_length l.answers i }
  counts_with l (AskBatch slot) = λ i. record { rows = same_length l.rows i; sets = same_length l.sets i; answers = same_length l.answers i }
  counts_with l (Reads place rows) = λ i. record { rows = sym (length-append l.rows (rows ∷ [])) i; sets = same_length l.sets i; answers = same_length l.answers i }
  counts_with l (AskReads place) = λ i. record { rows = same_length l.rows i; sets = same_length l.sets i; answers = same_length l.answers i }
  counts_with l (Warm sets) = λ i. record { rows = same_length l.rows i; sets = sym (length-append l.sets (sets ∷ [])) i; answers = same_length l.answers i }
  counts_with l (Replies place id attempt answer) = λ i. record { rows = same_length l.rows i; sets = same_length l.sets i; answers = sym (length-append l.answers (answer ∷ [])) i }

  -- one packet more
  module _ (ks : List (Kept Args)) (l : Lists Row Reply) (from : NodeId) (to : Address) (content : Content Args Row Reply) (h : AreKept ks none (counts l)) where
    abbrev more : Kept Args
    more = record { from = from; to = to; content = kept_of (counts l) content }

    pub kept_with : AreKept (ks ++ more ∷ []) none (counts (lists_with l content))
    kept_with = subst (λ (c : Counts). AreKept (ks ++ more ∷ []) none c) (counts_with l content) (kept-push ks more none (counts l) h (placed (counts l) content))

    pub restored_with : map (restored (lists_with l content)) (ks ++ more ∷ []) ≡ map (restored l) ks ++ record { from = from; to = to; content = content } ∷ []
    restored_with =
        map-append (restored (lists_with l content)) ks (more ∷ [])
        ∙ (λ i. sym (restored_alike ks none (counts l) l (lists_with l content) h (agree_with l content)) i ++ record { from = from; to = to; content = said_of l content i } ∷ [])

  counts_cut : (l : Lists Row Reply) (k : KeptContent Args) (left : Counts) → IsAt k left → with_it left k ≡ counts l → left ≡ counts (lists_cut l k)
  counts_cut l (stored.Synod message) left at all = all
  counts_cut l (stored.Decided slot batch) left at all = all
  counts_cut l (stored.AskBatch slot) left at all = all
  counts_cut l (stored.Reads place number) left at all = λ i. record { rows = sym (short l.rows number left.rows at (ap (λ (c : Counts). c.rows) all)) i; sets = (all i).sets; answers = (all i).answers }
  counts_cut l (stored.AskReads place) left at all = all
  counts_cut l (stored.Warm number) left at all = λ i. record { rows = (all i).rows; sets = sym (short l.sets number left.sets at (ap (λ (c : Counts). c.sets) all)) i; answers = (all i).answers }
  counts_cut l (stored.Replies place id attempt number) left at all = λ i. record { rows = (all i).rows; sets = (all i).sets; answers = sym (short l.answers number left.answers at (ap (λ (c : Counts). c.answers) all)) i }

  agree_cut : (l : Lists Row Reply) (k : KeptContent Args) (left : Counts) → IsAt k left → Agree left l (lists_cut l k)
  agree_cut l (stored.Synod message) left at = record { rows = λ i low. refl; sets = λ i low. refl; answers = λ i low. refl }
  agree_cut l (stored.Decided slot batch) left at = record { rows = λ i low. refl; sets = λ i low. refl; answers = λ i low. refl }
  agree_cut l (stored.AskBatch slot) left at = record { rows = λ i low. refl; sets = λ i low. refl; answers = λ i low. refl }
  agree_cut l (stored.Reads place number) left at = record { rows = λ i low. before l.rows number left.rows i finmap.empty at low; sets = λ i low. refl; answers = λ i low. refl }
  agree_cut l (stored.AskReads place) left at = record { rows = λ i low. refl; sets = λ i low. refl; answers = λ i low. refl }
  agree_cut l (stored.Warm number) left at = record { rows = λ i low. refl; sets = λ i low. before l.sets number left.sets i (record { reads = []; writes = [] }) at low; answers = λ i low. refl }
  agree_cut l (stored.Replies place id attempt number) left at = record { rows = λ i low. refl; sets = λ i low. refl; answers = λ i low. before l.answers number left.answers i Changed at low }

  -- one packet less
  module _ (ks : List (Kept Args)) (k : Kept Args) (l : Lists Row Reply) (h : AreKept (ks ++ k ∷ []) none (counts l)) where
    pub kept_without : AreKept ks none (counts (lists_cut l k.content))
    kept_without =
        let less = kept-pop ks k none (counts l) h in
        subst (λ (c : Counts). AreKept ks none c) (counts_cut l k.content less.left less.last less.all_is) less.kept

    pub restored_without : map (restored (lists_cut l k.content)) ks ≡ map (restored l) ks
    restored_without =
        let less = kept-pop ks k none (counts l) h in
        sym (restored_alike ks none less.left l (lists_cut l k.content) less.kept (agree_cut l k.content less.left less.last))

  -- what a step that keeps one more packet comes to
  module _ (ks after : List (Kept Args)) (l now : Lists Row Reply) (packet : Packet Args Row Reply) (kept : KeptContent Args) (h : AreKept ks none (counts l)) (is : kept ≡ kept_of (counts l) packet.content) (lists : now ≡ lists_with l packet.content)
      (items : after ≡ ks ++ record { from = packet.from; to = packet.to; content = kept } ∷ []) where
    items_are : after ≡ ks ++ record { from = packet.from; to = packet.to; content = kept_of (counts l) packet.content } ∷ []
    items_are = items ∙ (λ i. ks ++ record { from = packet.from; to = packet.to; content = is i } ∷ [])

    pub pushed_kept : AreKept after none (counts now)
    pushed_kept =
        let with_items = subst (λ (xs : List (Kept Args)). AreKept xs none (counts (lists_with l packet.content))) (sym items_are) (kept_with ks l packet.from packet.to packet.content h) in
        subst (λ (x : Lists Row Reply). AreKept after none (counts x)) (sym lists) with_items

    pub pushed_packets : map (restored now) after ≡ map (restored l) ks ++ packet ∷ []
    pushed_packets = (λ i. map (restored (lists i)) (items_are i)) ∙ restored_with ks l packet.from packet.to packet.content h

  -- what a step that takes the last packet back comes to
  module _ (before ks : List (Kept Args)) (l now : Lists Row Reply) (last : Kept Args) (h : AreKept before none (counts l)) (items : before ≡ ks ++ last ∷ []) where
    with_last : AreKept (ks ++ last ∷ []) none (counts l)
    with_last = subst (λ (xs : List (Kept Args)). AreKept xs none (counts l)) items h

    pub last_below : Below last.content (counts l)
    last_below =
        let less = kept-pop ks last none (counts l) with_last in
        here_below last.content less.left (counts l) less.last (record { rows = omega (arith, ap (λ (c : Counts). c.rows) less.all_is); sets = omega (arith, ap (λ (c : Counts). c.sets) less.all_is); answers = omega (arith, ap (λ (c : Counts). c.answers) less.all_is) })

    pub popped_kept : now ≡ lists_cut l last.content → AreKept ks none (counts now)
    popped_kept is = subst (λ (x : Lists Row Reply). AreKept ks none (counts x)) (sym is) (kept_without ks last l with_last)

    pub popped_packets : now ≡ lists_cut l last.content → map (restored now) ks ≡ take (length (map (restored l) before) - 1) (map (restored l) before)
    popped_packets is =
        let all : map (restored l) before ≡ map (restored l) ks ++ restored l last ∷ [] = ap (λ xs. map (restored l) xs) items ∙ map-append (restored l) ks (last ∷ []) in
        let long : length (map (restored l) before) - 1 ≡ length (map (restored l) ks) = omega (arith, ap length all, length-append (map (restored l) ks) (restored l last ∷ [])) in
        ap (λ x. map (restored x) ks) is ∙ restored_without ks last l with_last ∙ sym (take-append_seam (map (restored l) ks) (restored l last ∷ []))
        ∙ (λ i. take (sym long i) (sym all i))

  -- the packet of a number, from what is kept of it
  module _ (ks : List (Kept Args)) (l : Lists Row Reply) (n : ℕ) (k : Kept Args) (h : AreKept ks none (counts l)) (here : slice_get ks n ≡ Some k) where
    pub kept_below : Below k.content (counts l)
    kept_below = is_below ks none (counts l) n k h here

    pub packet_at : slice_get (map (restored l) ks) n ≡ Some (restored l k)
    packet_at = slice_get-map (restored l) ks n ∙ ap (λ o. option_map (restored l) o) here

    -- the answer of a reply
    abbrev answer_of : Packet Args Row Reply → Option (Answer Reply)
    answer_of packet = answered packet.content

    pub answer_low : (place : Place) (id : RequestId) (attempt at : ℕ) → k.content ≡ stored.Replies place id attempt at → at < length l.answers
    answer_low place id attempt at is = subst (λ (x : KeptContent Args). Below x (counts l)) is kept_below

    pub answer_at : (place : Place) (id : RequestId) (attempt at : ℕ) (answer : Answer Reply) → k.content ≡ stored.Replies place id attempt at → slice_get l.answers at ≡ Some answer → Some answer ≡ option_and_then answer_of (slice_get (map (restored l) ks) n)
    answer_at place id attempt at answer is there =
        ap Some (sym (get_or_from_slice_get l.answers at answer Changed there)) ∙ ap (λ (x : KeptContent Args). answered (said l x)) (sym is) ∙ ap (option_and_then answer_of) (sym packet_at)

    answers_not : (x : KeptContent Args) → ((place : Place) (id : RequestId) (attempt at : ℕ) → x ≡ stored.Replies place id attempt at → ⊥) → None ≡ answered (said l x)
    answers_not (stored.Synod message) other = refl
    answers_not (stored.Decided slot batch) other = refl
    answers_not (stored.AskBatch slot) other = refl
    answers_not (stored.Reads place number) other = refl
    answers_not (stored.AskReads place) other = refl
    answers_not (stored.Warm number) other = refl
    answers_not (stored.Replies place id attempt number) other = absurd (other place id attempt number refl)

    pub no_answer : ((place : Place) (id : RequestId) (attempt at : ℕ) → k.content ≡ stored.Replies place id attempt at → ⊥) → None ≡ option_and_then answer_of (slice_get (map (restored l) ks) n)
    no_answer other = answers_not k.content other ∙ ap (option_and_then answer_of) (sym packet_at)

-- rows, or an answer, that come behind those in the lists
module _ (Args : Type 0) {Row Reply : Type 0} (l : Lists Row Reply) (place : Place) where
  pub rows_listed : (rows : Rows Row) (views : List (Rows Row)) → views ≡ l.rows ++ rows ∷ [] → record { rows = views; sets = l.sets; answers = l.answers } ≡ lists_with {Args = Args} l (Reads place rows)
  rows_listed rows views is = λ i. record { rows = is i; sets = sym (append-nil l.sets) i; answers = sym (append-nil l.answers) i }

  pub answer_listed : (id : RequestId) (attempt : ℕ) (answer : Answer Reply) (answers : List (Answer Reply)) → answers ≡ l.answers ++ answer ∷ [] → record { rows = l.rows; sets = l.sets; answers = answers } ≡ lists_with {Args = Args} l (Replies place id attempt answer)
  answer_listed id attempt answer answers is = λ i. record { rows = sym (append-nil l.rows) i; sets = sym (append-nil l.sets) i; answers = is i }

-- what is looked up at a number
pub found_at : {X : Type 0} (xs items : List X) (n : ℕ) (x d : X) → xs ≡ items → n < length xs → x ≡ slice_index_or xs n d → slice_get items n ≡ Some x
found_at xs items n x d is low here =
    subst (λ (ys : List _). slice_get ys n ≡ Some x) is (slice_get-get_or xs n d low ∙ ap Some (sym here))

set_same : {X : Type 0} (xs : List X) (n : ℕ) (x : X) → slice_get xs n ≡ Some x → xs ≡ slice_set xs n x
set_same [] n x here = absurd (none-some _ here)
set_same (y ∷ ys) zero x here = ap (λ z. z ∷ ys) (same_Some y x here)
set_same (y ∷ ys) (suc n) x here = ap (λ zs. y ∷ zs) (set_same ys n x here)

module _ {Args Row Reply : Type 0} where
  light_said : (l : Lists Row Reply) (k : KeptContent Args) → is_light (said l k) ≡ is_plain k
  light_said l (stored.Synod message) = refl
  light_said l (stored.Decided slot batch) = refl
  light_said l (stored.AskBatch slot) = refl
  light_said l (stored.Reads place number) = refl
  light_said l (stored.AskReads place) = refl
  light_said l (stored.Warm number) = refl
  light_said l (stored.Replies place id attempt number) = refl

  said_light : (l : Lists Row Reply) (c : Counts) (content : Content Args Row Reply) → is_light content ≡ true → said l (kept_of c content) ≡ content
  said_light l c (Synod message) h = refl
  said_light l c (Decided slot batch) h = refl
  said_light l c (AskBatch slot) h = refl
  said_light l c (Reads place rows) h = absurd (cc)
  said_light l c (AskReads place) h = refl
  said_light l c (Warm sets) h = absurd (cc)
  said_light l c (Replies place id attempt answer) h = absurd (cc)

  plain_light : (c : Counts) (content : Content Args Row Reply) → is_light content ≡ true → is_plain (kept_of c content) ≡ true
  plain_light c (Synod message) h = refl
  plain_light c (Decided slot batch) h = refl
  plain_light c (AskBatch slot) h = refl
  plain_light c (Reads place rows) h = absurd (cc)
  plain_light c (AskReads place) h = refl
  plain_light c (Warm sets) h = absurd (cc)
  plain_light c (Replies place id attempt answer) h = absurd (cc)

  module _ (ks : List (Kept Args)) (l : Lists Row Reply) (packets : List (Packet Args Row Reply)) (n : ℕ) (h : AreKept ks none (counts l)) (view : map (restored l) ks ≡ packets) where
    stands : (k : Kept Args) → slice_get ks n ≡ Some k → slice_get packets n ≡ Some (restored l k)
    stands k here = subst (λ (ps : List (Packet Args Row Reply)). slice_get ps n ≡ Some (restored l k)) view (packet_at ks l n k h here)

    -- what is lent that stays
    pub lent_listed : (a b c : Kept Args) → slice_get ks n ≡ Some a → slice_get ks n ≡ Some b → slice_get ks n ≡ Some c → (content : Content Args Row Reply) → is_plain c.content ≡ false → content ≡ said l c.content
        → IsLent packets packets n (record { from = a.from; to = b.to; content = content })
    lent_listed a b c at_a at_b at_c content some is =
        let from : a ≡ c = same_Some a c (sym at_a ∙ at_c) in
        let to : b ≡ c = same_Some b c (sym at_b ∙ at_c) in
        let packet : restored l c ≡ record { from = a.from; to = b.to; content = content } = λ i. record { from = (sym from i).from; to = (sym to i).to; content = sym is i } in
        let there : slice_get packets n ≡ Some (record { from = a.from; to = b.to; content = content }) = stands c at_c ∙ ap Some packet in
        record { there = there; other = record { from = a.from; to = b.to; content = content }; after_is = set_same packets n _ there; alike = refl; same = λ _. refl }

    -- what is lent that is taken out
    module _ (a b c d : Kept Args) (at_a : slice_get ks n ≡ Some a) (at_b : slice_get ks n ≡ Some b) (at_c : slice_get ks n ≡ Some c) (at_d : slice_get ks n ≡ Some d) (is_none : is_plain c.content ≡ true) where
      plain_d : is_plain d.content ≡ true
      plain_d = ap (λ (k : Kept Args). is_plain k.content) (same_Some d c (sym at_d ∙ at_c)) ∙ is_none

      pub lent_kept : (in_place : KeptContent Args) → is_plain in_place ≡ true → AreKept (slice_set ks n (record d { content = in_place })) none (counts l)
      lent_kept in_place plain = kept-set ks n d (record d { content = in_place }) none (counts l) h at_d plain_d plain

      pub lent_plain : (in_place : KeptContent Args) → is_plain in_place ≡ true → (content : Content Args Row Reply) → said l d.content ≡ content
          → IsLent packets (map (restored l) (slice_set ks n (record d { content = in_place }))) n (record { from = a.from; to = b.to; content = content })
      lent_plain in_place plain content is =
          let from : d ≡ a = same_Some d a (sym at_d ∙ at_a) in
          let to : d ≡ b = same_Some d b (sym at_d ∙ at_b) in
          let packet : restored l d ≡ record { from = a.from; to = b.to; content = content } = λ i. record { from = (from i).from; to = (to i).to; content = is i } in
          let light : is_light content ≡ true = ap is_light (sym is) ∙ light_said l d.content ∙ plain_d in
          record {
            there = stands d at_d ∙ ap Some packet;
            other = restored l (record d { content = in_place });
            after_is = map-set (restored l) ks n (record d { content = in_place }) ∙ ap (λ ps. slice_set ps n (restored l (record d { content = in_place }))) view;
            alike = light_said l in_place ∙ plain ∙ sym light;
            same = λ heavy. absurd (true≢false (sym light ∙ heavy));
          }

    -- what is put back
    module _ (packet : Packet Args Row Reply) (can : CanBePut packets n packet) where
      pub put_nothing : is_light packet.content ≡ false → packets ≡ slice_set packets n packet
      put_nothing heavy = set_same packets n packet (can.there ∙ ap Some (can.same heavy))

      module _ (d : Kept Args) (at_d : slice_get ks n ≡ Some d) (light : is_light packet.content ≡ true) (kept : KeptContent Args) (is : kept ≡ kept_of none packet.content) where
        plain_there : is_plain d.content ≡ true
        plain_there =
            let same : restored l d ≡ can.other = same_Some (restored l d) can.other (sym (stands d at_d) ∙ can.there) in
            sym (light_said l d.content) ∙ ap (λ (p : Packet Args Row Reply). is_light p.content) same ∙ can.alike ∙ light

        pub put_kept : AreKept (slice_set ks n (record { from = packet.from; to = packet.to; content = kept })) none (counts l)
        put_kept = kept-set ks n d (record { from = packet.from; to = packet.to; content = kept }) none (counts l) h at_d plain_there (ap is_plain is ∙ plain_light none packet.content light)

        pub put_packets : map (restored l) (slice_set ks n (record { from = packet.from; to = packet.to; content = kept })) ≡ slice_set packets n packet
        put_packets =
            let said_so : said l kept ≡ packet.content = ap (said l) is ∙ said_light l none packet.content light in
            map-set (restored l) ks n (record { from = packet.from; to = packet.to; content = kept })
            ∙ (λ i. slice_set (view i) n (record { from = packet.from; to = packet.to; content = said_so i }))

-- what is looked up in lists that are these
module _ {Args Row Reply : Type 0} (ks : List (Kept Args)) (l seen : Lists Row Reply) (n : ℕ) (k : Kept Args) (h : AreKept ks none (counts l)) (here : slice_get ks n ≡ Some k) (lists : seen ≡ l) where
  pub seen_below : Below k.content (counts seen)
  seen_below = subst (λ (x : Lists Row Reply). Below k.content (counts x)) (sym lists) (kept_below ks l n k h here)

  pub seen_said : said seen k.content ≡ said l k.content
  seen_said = ap (λ (x : Lists Row Reply). said x k.content) lists

-- a number past all that is kept
pub past_packets : {Args Row Reply : Type 0} (ks seen : List (Kept Args)) (l : Lists Row Reply) (n : ℕ) → seen ≡ ks → length seen ≤ n → slice_get (map (restored l) ks) n ≡ None
past_packets ks seen l n is past = slice_get-map (restored l) ks n ∙ ap (option_map (restored l)) (slice_get_past ks n (subst (λ (xs : List _). length xs ≤ n) is past))

-- the lists of these
abbrev pub lists_of : {Row Reply : Type 0} → List (Rows Row) → List Sets → List (Answer Reply) → Lists Row Reply
lists_of rows sets answers = record { rows = rows; sets = sets; answers = answers }

-- a number of a packet is a number of what is kept
pub within_kept : {Args Row Reply : Type 0} (ks : List (Kept Args)) (l : Lists Row Reply) (packets : List (Packet Args Row Reply)) (n : ℕ) (packet : Packet Args Row Reply) → map (restored l) ks ≡ packets → slice_get packets n ≡ Some packet → n < length ks
within_kept {Args} ks l packets n packet view there =
    let many : length (map (restored {Args = Args} l) ks) ≡ length ks = length-map ks (restored l) in
    let low : n < length packets = slice_get_within packets n packet there in
    omega (arith, many, ap length view, low)
