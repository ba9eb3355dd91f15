-- A command with an argument more.
use Rattle.std.proofs.Common.{◌≡◌, ◌||◌, ap₂, false, ◌∙◌}
use Rattle.clap.specs.Words.{App, Rule, AddsArg, app_of, rule_of, with_rule}
use Rattle.clap.specs.declared.builder.arg.Arg.{Arg}
use Rattle.clap.specs.declared.builder.command.Command.{Command}
use Rattle.clap.specs.declared.builder.command.Command.TheViews.{out-Command}

-- the command is such an application, and no argument of it is global
abbrev pub AddsTo : App → Command → Type 0
AddsTo app made = (app_of made ≡ app) × ((out-Command made).has_globals ≡ false)

pub added : (app : App) (rule : Rule) (old : Command) (a : Arg) (made : Command) → AddsArg old a made → rule_of a ≡ rule → a.global ≡ false
    → AddsTo app old → AddsTo (with_rule app rule) made
added app rule old a made adds is local before =
    (adds.shape local ∙ ap₂ with_rule before.0 is, adds.globals ∙ ap₂ (λ x y. x || y) before.1 local)
