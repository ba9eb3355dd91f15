-- The search for the sets of a request (Thomson et al. 2012, section 3.2.1).
--     next m args rows sets      the sets that are needed of what the reads of these show
--     scouted m args rows n sets      of these sets and the n that come after them the first that repeat themselves
--     found m args rows      what is found from the sets on that are needed where no row is known
use Rattle.std.specs.Prelude.{ℕ, zero, suc, if◌then◌else◌, Result, Ok, Err}
use Rattle.std.specs.FinMap.{empty}
use Rattle.calvin_types.specs.declared.key_set.Sets.{Sets}
use Rattle.calvin_types.specs.declared.fault.Fault.{Fault}
use Rattle.calvin_types.specs.declared.fault.Fault.TheVariants.{Unsettled}
use Rattle.calvin_types.specs.SameKeys.{same_sets}
use Rattle.calvin_app.specs.Rows.{Rows, view}
use Rattle.calvin_app.specs.Meaning.{Meaning}
use Rattle.calvin_recon.specs.declared.scouting.TheConstants.{MOST_LOOKS}

module _ {Args Row Reply : Type 0} (m : Meaning Args Row Reply) (args : Args) (rows : Rows Row) where
  abbrev pub next : Sets → Sets
  next sets = m.needs args (view rows sets.reads)

  unfoldable pub scouted : ℕ → Sets → Result Sets Fault
  scouted zero sets = Err Unsettled
  scouted (suc n) sets = if same_sets (next sets) sets then Ok sets else scouted n (next sets)

  abbrev pub found : Result Sets Fault
  found = scouted MOST_LOOKS (m.needs args empty)
