-- What a call makes of data. The notion is of this project: a step is a function, so which refusal comes is the order of its
-- tests.
--     Deed S Out      a refusal, or the data after it and what comes out
--     Did grows result deed old new      what a call made of the data, by its deed
use Rattle.std.specs.Prelude.{◌≡◌, Bool, true, Result, Ok, Err}
use Rattle.calvin_types.specs.declared.fault.Fault.{Fault}
use Rattle.calvin_types.specs.declared.fault.Fault.TheVariants.{OutOfMemory}

-- a refusal, which leaves the data as they were; or the data after the call, and what it answers or sends
pub data Deed (S Out : Type 0) : Type 0 where
  Refuses : (fault : Fault) → Deed S Out
  Does : (next : S) (out : Out) → Deed S Out

-- the deed takes effect; or it is its refusal, and nothing changed; or memory ran out, where something grows, and nothing changed
abbrev pub Did : {S Out : Type 0} → Bool → Result Out Fault → Deed S Out → S → S → Type 0
Did grows (Ok out) (Refuses fault) old new = ⊥
Did grows (Ok out) (Does next given) old new = (out ≡ given) × (new ≡ next)
Did grows (Err refusal) (Refuses fault) old new = (refusal ≡ fault) × (new ≡ old)
Did grows (Err refusal) (Does next given) old new = (grows ≡ true) × (refusal ≡ OutOfMemory) × (new ≡ old)
