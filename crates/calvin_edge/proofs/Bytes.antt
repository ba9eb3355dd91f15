-- Bytes that are taken or given, one piece after another.
use Rattle.std.proofs.Common.{ℕ, ◌≡◌, ◌+◌, ◌-◌, ◌≤◌, List, ◌++◌, length, take, drop, Option, Some, None, Result, Ok, Err, sym, ap, subst, ◌∙◌, append_assoc, drop_at, IfOk}
use Rattle.std.proofs.Math.Seq.{take-add}
use Rattle.std.proofs.lemmas.List.{take_rest, length-take-le, take-append-le}
use Rattle.std.specs.Io.KnownBytes.{Appends, Consumes, Keeps, ReadConsumes}
use Rattle.calvin_edge.specs.Devices.{ConsumesSome}

pub appends_more : (a b c : Option (List ℕ)) (bs cs : List ℕ) → Appends a b bs → Appends b c cs → Appends a c (bs ++ cs)
appends_more None b c bs cs p q = tt
appends_more (Some xs) None c bs cs p q = absurd p
appends_more (Some xs) (Some ys) None bs cs p q = absurd q
appends_more (Some xs) (Some ys) (Some zs) bs cs p q = q ∙ ap (λ l. l ++ cs) p ∙ append_assoc xs bs cs

pub consumes_more : (a b c : Option (List ℕ)) (bs cs : List ℕ) → Consumes a b bs → Consumes b c cs → Consumes a c (bs ++ cs)
consumes_more None b c bs cs p q = tt
consumes_more (Some xs) None c bs cs p q = absurd p
consumes_more (Some xs) (Some ys) None bs cs p q = absurd q
consumes_more (Some xs) (Some ys) (Some zs) bs cs p q = p ∙ ap (λ l. bs ++ l) q ∙ sym (append_assoc bs cs zs)

pub consumes_kept : (a b c : Option (List ℕ)) (bs : List ℕ) → Consumes a b bs → Keeps b c → Consumes a c bs
consumes_kept None b c bs p q = tt
consumes_kept (Some xs) None c bs p q = absurd p
consumes_kept (Some xs) (Some ys) None bs p q = absurd q
consumes_kept (Some xs) (Some ys) (Some zs) bs p q = p ∙ ap (λ l. bs ++ l) (sym q)

-- what one more write took, of what was left of the bytes
pub appends_next : (a b c : Option (List ℕ)) (bytes : List ℕ) (out n : ℕ) → Appends a b (take out bytes) → Appends b c (take n (take (length bytes - out) (drop out bytes))) → Appends a c (take (out + n) bytes)
appends_next a b c bytes out n p q = rw take-add (appends_more a b c _ _ p (rw take_rest at q))

-- so many bytes were consumed
pub consumed_some : (a b : Option (List ℕ)) (bytes : List ℕ) (n : ℕ) → n ≤ length bytes → Consumes a b (take n bytes) → ConsumesSome a b n
consumed_some a b bytes n h p = (take n bytes, length-take-le n bytes h, p)

-- what one more read gave, behind the front that was filled
pub consumes_next : (a b c : Option (List ℕ)) (before after : List ℕ) (filled n : ℕ) → take filled after ≡ take filled before → Consumes a b (take filled before) → Consumes b c (take n (drop filled after)) → Consumes a c (take (filled + n) after)
consumes_next a b c before after filled n front p q = rw take-add (consumes_more a b c _ _ (rw (← front) at p) q)

-- what was read into a part of a list stands behind its front
pub consumes_in_place : {E : Type 0} (a b : Option (List ℕ)) (r : Result ℕ E) (front part rest : List ℕ) (at : ℕ) → length front ≡ at → IfOk r (λ n. n ≤ length part) → ReadConsumes a b r part → IfOk r (λ n. Consumes a b (take n (drop at (front ++ (part ++ rest)))))
consumes_in_place a b (Ok n) front part rest at long fits read = subst (Consumes a b) (sym (ap (take n) (drop_at front (part ++ rest) at long) ∙ take-append-le n part rest fits)) read.0
consumes_in_place a b (Err e) front part rest at long fits read = tt
