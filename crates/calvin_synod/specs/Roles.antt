-- What one replica keeps of the synods, by slot, and what its three roles make of a message ("Paxos Made Simple", sections 2.2 and 2.3).
--     Records B      the acceptor: what is recorded of each slot, over restarts
--     promise_at, vote_at      a slot's promise and vote, if there are such
--     bars_prepare, bars_accept      the promise that stands in the way of a prepare, or of an accept
--     promised, voted      the records after a promise;  after a vote
--     Proposing B      the proposer: the rounds used and seen, and for each slot the ballot under way
--     highest reports      the vote of the greatest ballot that is reported
--     batch_of own reports      what is to be accepted: the batch of the highest vote reported, else the own one
--     counts attempt from ballot      whether a promise counts for an attempt
--     current p from slot ballot      the attempt for which a promise counts
--     is_enough size attempt      whether with one report more it has a majority
--     next_ballot, started      the ballot of a new attempt;  the proposer with that attempt
--     counting, sending      the proposer with one report more;  with the attempt ended, its accept being sent
--     batch_due, reported      the batch that is sent with a promise;  the proposer after it
--     refused_at      the proposer after a refusal
--     Learning      the learner: whose votes are counted, and which slots' batches were given
--     voters_of l slot ballot      whose votes are counted for a slot and a ballot
--     knows, completes      the vote is counted, or the batch was given;  one vote more makes a majority
--     learned      the learner with one vote more
use Rattle.std.specs.Prelude.{ℕ, ◌+◌, Bool, ◌&&◌, ◌||◌, not, List, [], ◌∷◌, ◌++◌, map, Option, Some, None, is_some, length, nat_eq, nat_le, if◌then◌else◌, max}
use Rattle.std.specs.Option.{unwrap_or}
use Rattle.std.specs.List.{list_any}
use Rattle.std.specs.declared.cmp.Ordering.{Ordering}
use Rattle.std.specs.Ordering.{is_lt, eq_by_cmp, ordering_then}
use Rattle.std.specs.FinMap.{FinMap, get, insert, remove}
use Rattle.calvin_types.specs.declared.place.Ballot.{Ballot}
use Rattle.calvin_types.specs.declared.place.Slot.{Slot}
use Rattle.calvin_types.specs.Places.{ballot_cmp, slot_cmp}
use Rattle.calvin_synod.specs.declared.vote.Vote.{Vote}
use Rattle.calvin_synod.specs.declared.vote.Recorded.{Recorded}
use Rattle.calvin_synod.specs.declared.attempt.Report.{Report}
use Rattle.calvin_synod.specs.declared.attempt.Attempt.{Attempt}
use Rattle.calvin_synod.specs.declared.tallies.Proposal.{Proposal}
use Rattle.calvin_synod.specs.Quorums.{majority}

abbrev pub Records : Type 0 → Type 0
Records B = FinMap slot_cmp (Recorded B)

abbrev pub promise_in : {B : Type 0} → Option (Recorded B) → Option Ballot
promise_in None = None
promise_in (Some r) = Some r.promise

abbrev pub vote_in : {B : Type 0} → Option (Recorded B) → Option (Vote B)
vote_in None = None
vote_in (Some r) = r.vote

abbrev pub promise_at : {B : Type 0} → Records B → Slot → Option Ballot
promise_at records slot = promise_in (get records slot)

abbrev pub vote_at : {B : Type 0} → Records B → Slot → Option (Vote B)
vote_at records slot = vote_in (get records slot)

-- the promise that stands in the way of a prepare: one that is not less
abbrev pub bars_prepare : Option Ballot → Ballot → Option Ballot
bars_prepare None ballot = None
bars_prepare (Some promise) ballot = if is_lt (ballot_cmp promise ballot) then None else Some promise

-- the promise that stands in the way of an accept: a greater one
abbrev pub bars_accept : Option Ballot → Ballot → Option Ballot
bars_accept None ballot = None
bars_accept (Some promise) ballot = if is_lt (ballot_cmp ballot promise) then Some promise else None

-- the records after a promise: the vote stays
abbrev pub promised : {B : Type 0} → Records B → Slot → Ballot → Records B
promised records slot ballot = insert records slot (record { promise = ballot; vote = vote_at records slot })

-- the records after a vote, which promises its ballot too
abbrev pub voted : {B : Type 0} → Records B → Slot → Vote B → Records B
voted records slot vote = insert records slot (record { promise = vote.ballot; vote = Some vote })

-- the greatest round used in any slot, over restarts; the greatest seen in a refusal; and for each slot the ballot under way, until its accept is sent
pub record Proposing (B : Type 0) : Type 0 where
  pub used : ℕ
  pub seen : ℕ
  pub attempts : FinMap slot_cmp (Attempt B)

-- the one of the greater ballot
abbrev pub higher : {B : Type 0} → Option (Vote B) → Option (Vote B) → Option (Vote B)
higher None w = w
higher (Some v) None = Some v
higher (Some v) (Some w) = if is_lt (ballot_cmp v.ballot w.ballot) then Some w else Some v

abbrev pub highest : {B : Type 0} → List (Report B) → Option (Vote B)
highest [] = None
highest (report ∷ reports) = higher report.vote (highest reports)

abbrev pub batch_or : {B : Type 0} → B → Option (Vote B) → B
batch_or own None = own
batch_or own (Some vote) = vote.batch

abbrev pub batch_of : {B : Type 0} → B → List (Report B) → B
batch_of own reports = batch_or own (highest reports)

abbrev pub reporters : {B : Type 0} → List (Report B) → List ℕ
reporters counted = map (λ report. report.from) counted

-- a promise counts once, for the ballot under way
abbrev pub counts : {B : Type 0} → Attempt B → ℕ → Ballot → Bool
counts attempt from ballot = eq_by_cmp ballot_cmp attempt.ballot ballot && not (list_any (nat_eq from) (reporters attempt.counted))

-- the attempt for which a promise counts, if there is one
abbrev pub if_counts : {B : Type 0} → Option (Attempt B) → ℕ → Ballot → Option (Attempt B)
if_counts None from ballot = None
if_counts (Some attempt) from ballot = if counts attempt from ballot then Some attempt else None

abbrev pub current : {B : Type 0} → Proposing B → ℕ → Slot → Ballot → Option (Attempt B)
current p from slot ballot = if_counts (get p.attempts slot) from ballot

-- the reports, with one more
abbrev pub with_report : {B : Type 0} → Attempt B → ℕ → Option (Vote B) → List (Report B)
with_report attempt from vote = attempt.counted ++ record { from = from; vote = vote } ∷ []

abbrev pub is_enough : {B : Type 0} → ℕ → Attempt B → Bool
is_enough size attempt = nat_le (majority size) (length attempt.counted + 1)

-- the ballot of a new attempt of replica me: a round above all used and seen
abbrev pub next_ballot : {B : Type 0} → ℕ → Proposing B → Ballot
next_ballot me p = record { round = max p.used p.seen + 1; replica = me }

-- with a new attempt for a slot, in place of an older one
abbrev pub started : {B : Type 0} → ℕ → Proposing B → Slot → B → Proposing B
started me p slot batch = record {
  used = max p.used p.seen + 1;
  seen = p.seen;
  attempts = insert p.attempts slot (record { ballot = next_ballot me p; own = batch; counted = [] });
}

abbrev pub counting : {B : Type 0} → Proposing B → Slot → Attempt B → ℕ → Option (Vote B) → Proposing B
counting p slot attempt from vote = record p { attempts = insert p.attempts slot (record attempt { counted = with_report attempt from vote }) }

-- with the slot's attempt ended
abbrev pub sending : {B : Type 0} → Proposing B → Slot → Proposing B
sending p slot = record p { attempts = remove p.attempts slot }

-- the batch that is sent with a promise's report, where it makes a majority
abbrev pub batch_due : {B : Type 0} → ℕ → Option (Attempt B) → ℕ → Option (Vote B) → Option B
batch_due size None from vote = None
batch_due size (Some attempt) from vote = if is_enough size attempt then Some (batch_of attempt.own (with_report attempt from vote)) else None

-- after a promise: its report is counted, or makes a majority, with which the attempt ends
abbrev pub reported : {B : Type 0} → ℕ → Proposing B → Slot → Option (Attempt B) → ℕ → Option (Vote B) → Proposing B
reported size p slot None from vote = p
reported size p slot (Some attempt) from vote = if is_enough size attempt then sending p slot else counting p slot attempt from vote

-- after a refusal that names a greater round
abbrev pub refused_at : {B : Type 0} → Proposing B → Ballot → Proposing B
refused_at p promise = record p { seen = promise.round }

-- by slot, and then by ballot
abbrev pub proposal_cmp : Proposal → Proposal → Ordering
proposal_cmp a b = ordering_then (slot_cmp a.slot b.slot) (ballot_cmp a.ballot b.ballot)

-- whose votes are counted for each slot and ballot, in the order in which they came, as long as they are no majority; and at which ballot a slot's batch was given
pub record Learning : Type 0 where
  pub counted : FinMap proposal_cmp (List ℕ)
  pub given : FinMap slot_cmp Ballot

abbrev pub voters_of : Learning → Slot → Ballot → List ℕ
voters_of l slot ballot = unwrap_or (get l.counted (record { slot = slot; ballot = ballot })) []

-- the slot's batch was given, or the vote is counted
abbrev pub knows : Learning → ℕ → Slot → Ballot → Bool
knows l from slot ballot = is_some (get l.given slot) || list_any (nat_eq from) (voters_of l slot ballot)

abbrev pub completes : ℕ → Learning → Slot → Ballot → Bool
completes size l slot ballot = nat_le (majority size) (length (voters_of l slot ballot) + 1)

-- with one vote more: it is counted, or it makes a majority, with which the batch is given and that count ends
abbrev pub learned : ℕ → Learning → ℕ → Slot → Ballot → Learning
learned size l from slot ballot =
    if completes size l slot ballot
    then record { counted = remove l.counted (record { slot = slot; ballot = ballot }); given = insert l.given slot ballot }
    else record { counted = insert l.counted (record { slot = slot; ballot = ballot }) (voters_of l slot ballot ++ from ∷ []); given = l.given }
