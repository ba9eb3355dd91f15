use Rattle.std.proofs.Common.{ℕ, [], ◌∷◌, ◌++◌, ap, sym, ◌∙◌, arith}
use Rattle.calvin_types.specs.Keys.{has}
use Rattle.calvin_app.specs.Writing.{keys_of}
use Rattle.calvin_once.specs.declared.kept.OnceRow.TheVariants as kept
use Rattle.calvin_once.specs.Once.{as_rows, inside}
use Rattle.calvin_once.proofs.Again.{unreply}
use Rattle.calvin_once.proofs.Inner.{few_keys, none_above}
use Rattle.calvin_once.proofs.once.Once.run_inside.Goals as goal

pub keep-requires : goal.keep-requires
keep-requires g c =
    let a = c.args.args.now in
    let v = c.add_inside.new.rows in
    let law = g.met.A.App.lawful in (
      g.met.A.App.rows_fit,
      (
        g.met.A.Keepable.kept_rows_fit,
        (
          c.requires.none,
          (
            record {
              few = (g.A.App.meaning.needs a v).writes;
              number = omega (arith, (law.bounded_writes a v).number, few_keys g.A.App.key_limit g.A.App.table_limit c.args.self.now.narrow);
              within = λ q there. law.writes_within_the_sets a v q (sym (ap (λ ws. has (keys_of ws) q) c.run_into.ensures.writes) ∙ there);
            },
            ap (λ ws. has (keys_of ws) c.args.key) c.run_into.ensures.writes ∙ none_above g.A.App.meaning g.A.App.is_dependent g.A.App.key_limit g.A.App.table_limit law a v c.args.key c.requires.above,
          ),
        ),
      ),
    )

pub returns-clause-writes : goal.returns-clause-writes
returns-clause-writes g c =
    let seen = c.add_inside.ensures ∙ ap (λ (n : ℕ). inside n c.args.view.now) c.top_table.ensures in
    let done = ap (g.A.App.meaning.outcome c.args.args.now) seen in
    let reply = unreply c.in-Reply.reply _ (sym c.in-Reply.is ∙ c.run_into.ensures.answer) in
    c.keep.ensures ∙ (λ j. as_rows (c.run_into.ensures.writes j) ++ (c.args.key, kept.Reply (reply j)) ∷ []) ∙ (λ j. as_rows (done j).1 ++ (c.args.key, kept.Reply (done j).0) ∷ [])
