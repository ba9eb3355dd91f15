-- Which requests a sequencer takes, whatever it has taken before. That sets are declared is of Thomson et al. 2012, section
-- 3.2; that empty ones are refused, and how many attempts there are at a request whose sets were stale (section 3.2.1: it is
-- restarted), is of this project.
--     has_key sets      there is a key in one of the sets
--     is_attempt n      an issuer makes eight attempts, counted from 1
--     is_taken t      the request has a key, and its attempt is one of these
use Rattle.std.specs.Prelude.{ℕ, ◌&&◌, ◌==◌, length, nat_le, Bool, not}
use Rattle.calvin_types.specs.declared.key_set.Sets.{Sets}
use Rattle.calvin_types.specs.declared.limits.TheConstants.{MOST_ATTEMPTS}
use Rattle.calvin_types.specs.declared.txn.Txn.{Txn}

-- a request reads or writes something
abbrev pub has_key : Sets → Bool
has_key sets = not ((length sets.reads == 0) && (length sets.writes == 0))

-- the number of an attempt
abbrev pub is_attempt : ℕ → Bool
is_attempt n = nat_le 1 n && nat_le n MOST_ATTEMPTS

abbrev pub is_taken : {Args : Type 0} → Txn Args → Bool
is_taken t = has_key t.sets && is_attempt t.attempt
