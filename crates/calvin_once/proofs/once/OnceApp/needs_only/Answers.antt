use Rattle.std.proofs.Common.{◌++◌, ◌∷◌, [], ap, sym, ◌∙◌}
use Rattle.calvin_types.specs.declared.key.Key.{Key}
use Rattle.calvin_types.specs.declared.key_set.Sets.{Sets}
use Rattle.calvin_types.specs.SameKeys.{same_sets}
use Rattle.calvin_once.specs.Once.{inside}
use Rattle.calvin_once.proofs.Again.{needs_last}
use Rattle.calvin_once.proofs.once.OnceApp.needs_only.Goals as goal

-- whether sets are those that are needed, as the key of the kept reply stands last in them
pub returns-in_default : goal.returns-in_default
returns-in_default g c =
    let m = g.A.App.meaning in
    let a = c.args.args.now in
    let needs = m.needs a.args (inside g.A.App.table_limit c.args.view.now) in
    sym (
    ap (λ (n : Sets). same_sets n c.args.sets.now) (needs_last m g.A.App.is_dependent g.A.App.key_limit g.A.App.table_limit g.met.A.App.lawful c.args.self.now.narrow a c.args.view.now)
    ∙ ap (λ (k : Key). same_sets (record { reads = needs.reads ++ k ∷ []; writes = needs.writes ++ k ∷ [] }) c.args.sets.now) (sym c.kept_key.ensures)
    ∙ c.in_default.ensures.none needs
    )

pub returns : goal.returns
returns g c =
    let m = g.A.App.meaning in
    let a = c.args.args.now in
    let needs = m.needs a.args (inside g.A.App.table_limit c.args.view.now) in
    c.needs_only.ensures
    ∙ ap (λ (n : Sets). same_sets n c.in-Some.others) c.add_looked_at.ensures
    ∙ sym (
    ap (λ (n : Sets). same_sets n c.args.sets.now) (needs_last m g.A.App.is_dependent g.A.App.key_limit g.A.App.table_limit g.met.A.App.lawful c.args.self.now.narrow a c.args.view.now)
    ∙ ap (λ (k : Key). same_sets (record { reads = needs.reads ++ k ∷ []; writes = needs.writes ++ k ∷ [] }) c.args.sets.now) (sym c.kept_key.ensures)
    ∙ c.in-Some.ensures.some needs
    )
