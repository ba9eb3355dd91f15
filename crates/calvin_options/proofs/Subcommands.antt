-- What clap found of a subcommand.
use Rattle.std.proofs.Common.{◌≡◌, List, option_map, Option, Some, None, refl, Box}
use Rattle.std.specs.Box.{box_value}
use Rattle.clap.specs.Words.{Text, Row, subcommand_rows}
use Rattle.clap.specs.declared.parser.matches.ArgMatches.TheViews.{out-SubCommand}
use Rattle.clap.specs.declared.parser.matches.SubCommand.{SubCommand}
use Rattle.calvin_options.specs.Options.{rows_found}

pub same_name : {Z : Type 0} (s : Option (Box SubCommand Z)) → option_map (λ b. (out-SubCommand (box_value b)).name.now) s ≡ option_map (λ p. p.0) (subcommand_rows s)
same_name None = refl
same_name (Some b) = refl

-- the rows of a subcommand are those that were found of it
pub same_rows : (s : Option (Text × List Row)) (rows : List Row) → option_map (λ p. p.1) s ≡ Some rows → rows_found s ≡ rows
same_rows None rows e = absurd (cc)
same_rows (Some p) rows e = cc
