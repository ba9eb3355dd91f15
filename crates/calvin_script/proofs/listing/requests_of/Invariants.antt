use Rattle.std.proofs.Common.{◌≡◌, map, drop}
use Rattle.calvin_script.specs.Scripts.{listed, all_listed, requests_of}
use Rattle.calvin_script.proofs.listing.requests_of.Given as goal

abbrev pub invariant-loop-listed : goal.invariant-loop-listed
invariant-loop-listed g l = requests_of l.group (map listed (drop l.listed-index l.epoch.batches.items)) ≡ requests_of l.group (all_listed l.epoch)
