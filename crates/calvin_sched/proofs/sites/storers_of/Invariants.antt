use Rattle.std.proofs.Common.{◌≡◌, ◌<◌, ℕ, false, length, take, get_or}
use Rattle.std.specs.List.{list_any}
use Rattle.calvin_types.specs.Participants.{site, is_local}
use Rattle.calvin_sched.specs.Sites.{IsLeastOf}
use Rattle.calvin_sched.proofs.sites.storers_of.Given as goal

abbrev pub invariant-loop-i : goal.invariant-loop-i
invariant-loop-i l = record {
  stores : (p : ℕ) → p < 16 → get_or l.stores p false ≡ list_any (is_local (site l.config.partitions p)) (take l.i l.keys);
  least : IsLeastOf l.config.partitions (take l.i l.keys) l.least;
  size : length l.stores ≡ 16;
}
