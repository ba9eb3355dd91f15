-- What a report says of a beginning holds of the whole.
--     submitted_before      what was submitted, as the whole says, was so in each beginning that has its event
--     answered_in      the submission and its reply together
use Rattle.std.proofs.Common.{◌≡◌, ◌≤◌, ◌<◌, List, ◌++◌, length, take, sym, ap, subst, ◌∙◌, arith}
use Rattle.std.proofs.lemmas.List.{take-append-le}
use Rattle.std.proofs.lemmas.Option.{slice_get_within}
use mathlib.Core.List.{IsPrefix}
use Rattle.calvin_app.specs.Meaning.{Meaning}
use Rattle.calvin_order.specs.Configs.{Config}
use Rattle.calvin_node_acts.specs.declared.act.Act.TheVariants.{Submit}
use Rattle.calvin_world.specs.declared.event.Event.{Event}
use Rattle.calvin_world.specs.declared.event.Event.TheVariants.{At}
use Rattle.calvin_book.specs.declared.receipt.Submission.{Submission}
use Rattle.calvin_book.specs.declared.receipt.Answered.{Answered}
use Rattle.calvin_book.specs.Books.{Log, world_after}
use Rattle.calvin_book.specs.Receipts.{IsSubmitEvent, IsSubmitted, IsOpenTo, IsAnswered}
use Rattle.calvin_book.proofs.Growth.{submission_kept, answer_kept}
use Rattle.calvin_cluster_desk.specs.Receipts.{IsReplied}

module _ {Args Row Reply : Type 0} (m : Meaning Args Row Reply) (c : Config) where
  abbrev log : List (Event Args) → Log Args
  log es = record { config = c; events = es }

  submitted_before : (xs more : List (Event Args)) (s : Submission Args) → IsSubmitEvent (log xs) s → IsSubmitted m (log (xs ++ more)) s → IsSubmitted m (log xs) s
  submitted_before xs more s event is =
      let within = slice_get_within xs s.number (At s.node (Submit s.txn)) event in
      record {
        event = event;
        is_open = subst (λ es. IsOpenTo (world_after m c es) s.node s.told) (take-append-le s.number xs more (omega (arith, within))) is.is_open;
      }

  pub submitted_in : (part whole : List (Event Args)) → IsPrefix part whole → (s : Submission Args) → IsSubmitted m (log part) s → IsSubmitted m (log whole) s
  submitted_in part whole p s is = subst (λ es. IsSubmitted m (log es) s) p.1 (submission_kept m c part p.0 s is)

  pub answered_in : (asked mark whole : List (Event Args)) → IsPrefix asked whole → IsPrefix mark whole → (a : Answered Args Reply) → IsSubmitted m (log asked) a.submission → IsReplied m (log mark) a → IsAnswered m (log whole) a
  answered_in asked mark whole p q a is replied =
      let all = submitted_in asked whole p a.submission is in
      let there = submitted_before mark q.0 a.submission replied.event (subst (λ es. IsSubmitted m (log es) a.submission) (sym q.1) all) in
      subst (λ es. IsAnswered m (log es) a) q.1 (answer_kept m c mark q.0 a (record { submitted = there; place = replied.place; reply = replied.reply; told = replied.told }))
