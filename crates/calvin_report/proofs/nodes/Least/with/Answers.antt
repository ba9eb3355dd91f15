use Rattle.std.proofs.Common.{sym, ap, ◌∙◌}
use Rattle.calvin_report.specs.declared.nodes.Least.TheVariants.{Of}
use Rattle.calvin_report.proofs.Kept.{more_of}
use Rattle.calvin_report.proofs.nodes.Least.with.Goals as goal

pub returns-in-Of : goal.returns-in-Of
returns-in-Of c epochs is = ap Of c.lesser.ensures ∙ more_of epochs c.in-Of.least c.args.last (sym c.in-Of.is ∙ is)
