-- Beginnings of the history of a node, and what its end tells.
--     prefix_whole      a beginning as long as the whole is the whole
--     legal_more      after events there may stand anything
--     events_of-more, events_of-ended      the events of a history with one more event, and with an end
--     as_log-more      the history of events and one more
--     ended_whole      a legal history that begins with an ended one is that one
--     events_of-prefix      the events of a beginning begin the events
--     covered      what was ever seen of a history begins the history as it ended
use Rattle.std.proofs.Common.{◌≡◌, ◌≤◌, List, [], ◌∷◌, ◌++◌, length, Option, Some, None, refl, ap, sym, ◌∙◌, arith}
use mathlib.Core.List.{IsPrefix}
use Rattle.calvin_chronicles.specs.Histories.{events_of, as_log, IsLegal}

pub prefix_whole : {A : Type 0} (xs ys : List A) → IsPrefix xs ys → length ys ≤ length xs → xs ≡ ys
prefix_whole [] [] p le = refl
prefix_whole [] (y ∷ ys) p le = absurd (omega arith)
prefix_whole (x ∷ xs) [] p le = absurd (cc (p.1))
prefix_whole (x ∷ xs) (y ∷ ys) p le =
    let rest = prefix_whole xs ys (p.0, cc (p.1)) (omega arith) in cc (p.1, rest)

module _ {E : Type 0} where
  pub legal_more : (events : List E) (x : Option E) → IsLegal (as_log events ++ x ∷ [])
  legal_more [] (Some e) = tt
  legal_more [] None = refl
  legal_more (e ∷ events) x = legal_more events x

  pub events_of-more : (events : List E) (e : E) → events_of (as_log events ++ Some e ∷ []) ≡ events ++ e ∷ []
  events_of-more [] e = refl
  events_of-more (f ∷ events) e = ap (λ w. f ∷ w) (events_of-more events e)

  pub events_of-ended : (events : List E) → events_of (as_log events ++ None ∷ []) ≡ events
  events_of-ended [] = refl
  events_of-ended (f ∷ events) = ap (λ w. f ∷ w) (events_of-ended events)

  pub as_log-more : (events : List E) (e : E) → as_log (events ++ e ∷ []) ≡ as_log events ++ Some e ∷ []
  as_log-more [] e = refl
  as_log-more (f ∷ events) e = ap (λ w. Some f ∷ w) (as_log-more events e)

  ended_whole : (events : List E) (log : List (Option E)) → IsPrefix (as_log events ++ None ∷ []) log → IsLegal log → as_log events ++ None ∷ [] ≡ log
  ended_whole [] [] p legal = absurd (cc (p.1))
  ended_whole [] (Some e ∷ log) p legal = absurd (cc (p.1))
  ended_whole [] (None ∷ log) p legal = ap (λ (w : List (Option _)). None ∷ w) (sym legal)
  ended_whole (e ∷ events) [] p legal = absurd (cc (p.1))
  ended_whole (e ∷ events) (None ∷ log) p legal = absurd (cc (p.1))
  ended_whole (e ∷ events) (Some f ∷ log) p legal =
      let rest = ended_whole events log (p.0, cc (p.1)) legal in cc (p.1, rest)

  events_of-prefix : (xs ys : List (Option E)) → IsPrefix xs ys → IsPrefix (events_of xs) (events_of ys)
  events_of-prefix [] ys p = (events_of ys, refl)
  events_of-prefix (x ∷ xs) [] p = absurd (cc (p.1))
  events_of-prefix (Some e ∷ xs) (None ∷ ys) p = absurd (cc (p.1))
  events_of-prefix (None ∷ xs) (Some e ∷ ys) p = absurd (cc (p.1))
  events_of-prefix (None ∷ xs) (None ∷ ys) p = ([], refl)
  events_of-prefix (Some e ∷ xs) (Some f ∷ ys) p =
      let rest = events_of-prefix xs ys (p.0, cc (p.1)) in (rest.0, cc (p.1, rest.1))

  pub covered : (events : List E) (seen both : List (Option E)) → IsPrefix (as_log events ++ None ∷ []) both → IsPrefix seen both → IsLegal both → IsPrefix (events_of seen) events
  covered events seen both whole part legal =
      let same = ended_whole events both whole legal in
      let it : IsPrefix (events_of seen) (events_of both) = events_of-prefix seen both part in
      let all : events_of both ≡ events = ap events_of (sym same) ∙ events_of-ended events in
      (it.0, it.1 ∙ all)
