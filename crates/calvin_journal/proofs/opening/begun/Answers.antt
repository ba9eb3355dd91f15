use Rattle.std.proofs.Common.{arith, rules, ◌≡◌, ◌++◌, ◌-◌, ◌∷◌, [], true, false, drop, take, length, refl, sym, ◌∙◌, ap, subst}
use Rattle.std.specs.Prelude.{nat_eq}
use Rattle.std.specs.List.{starts_with}
use Rattle.calvin_journal_log.specs.Disks.{Leads}
use Rattle.calvin_journal.specs.Journals.{AddedAll}
use Rattle.calvin_journal.proofs.Headings.{no_heading, completed, to_end, headed_disk, headed_in_part, headed_whole, headed_opens}
use Rattle.calvin_journal.proofs.opening.begun.Goals as goal

pub returns-then-not-starts_with-clause-no_journal : goal.returns-then-not-starts_with-clause-no_journal
returns-then-not-starts_with-clause-no_journal g c = λ _.
    let reader = c.args.reader in
    let ahead = drop reader.start reader.read.items in
    let differs : starts_with nat_eq c.args.heading.now ahead ≡ false = search rules in
    (refl, no_heading c.args.heading.now (g.L.Log.told reader.log) ahead c.requires.at_the_end c.requires.no_line differs)

pub returns-in-Err-clause-any_moment : goal.returns-in-Err-clause-any_moment
returns-in-Err-clause-any_moment g c =
    let reader = c.args.reader in
    let heading = c.args.heading.now in
    let ahead = drop reader.start reader.read.items in
    let bytes = c.deref.result.now in
    let size = length c.ahead-size.result.now in
    let added = take (length bytes - size) (drop size bytes) in
    let begins : starts_with nat_eq heading ahead ≡ true = search rules in
    let all : ahead ++ added ≡ heading ++ 10 ∷ [] =
    ap (λ w. ahead ++ w) (to_end size bytes ∙ ap (drop size) (c.deref.ensures.value ∙ c.in-Ok.ensures) ∙ ap (λ k. drop k (heading ++ 10 ∷ [])) (ap length c.ahead-size.ensures)) ∙ completed heading ahead begins in
    headed_in_part heading c.requires.one_line ahead added all (g.L.Log.told reader.log) (g.L.Log.told c.add_synced.new.log) c.requires.at_the_end c.in-Err.ensures.part

pub invariant_of-result : goal.invariant_of-result
invariant_of-result g c =
    let reader = c.args.reader in
    let heading = c.args.heading.now in
    let ahead = drop reader.start reader.read.items in
    let bytes = c.deref.result.now in
    let size = length c.ahead-size.result.now in
    let added = take (length bytes - size) (drop size bytes) in
    let begins : starts_with nat_eq heading ahead ≡ true = search rules in
    let all : ahead ++ added ≡ heading ++ 10 ∷ [] =
    ap (λ w. ahead ++ w) (to_end size bytes ∙ ap (drop size) (c.deref.ensures.value ∙ c.in-Ok.ensures) ∙ ap (λ k. drop k (heading ++ 10 ∷ [])) (ap length c.ahead-size.ensures)) ∙ completed heading ahead begins in
    let new = c.new-reader.result in
    let leads = subst (λ log. Leads (AddedAll added) (g.L.Log.told reader.log) (g.L.Log.told log)) (sym c.new-reader.ensures.log) c.in_default-add_synced.ensures.ok in
    let items = ap length c.in-Ok.ensures in
    let long : new.done ≡ length (heading ++ 10 ∷ []) = omega (arith, c.new-reader.ensures.done, c.len.ensures, c.in-Ok.text.ok, items) in
    let disk = headed_disk heading c.requires.one_line ahead added all (g.L.Log.told reader.log) (g.L.Log.told new.log) c.requires.at_the_end leads in
    headed_whole heading c.requires.one_line ahead added all (g.L.Log.told new.log) disk new.done long

pub returns-clause-ok : goal.returns-clause-ok
returns-clause-ok g c =
    let reader = c.args.reader in
    let heading = c.args.heading.now in
    let ahead = drop reader.start reader.read.items in
    let bytes = c.deref.result.now in
    let size = length c.ahead-size.result.now in
    let added = take (length bytes - size) (drop size bytes) in
    let begins : starts_with nat_eq heading ahead ≡ true = search rules in
    let all : ahead ++ added ≡ heading ++ 10 ∷ [] =
    ap (λ w. ahead ++ w) (to_end size bytes ∙ ap (drop size) (c.deref.ensures.value ∙ c.in-Ok.ensures) ∙ ap (λ k. drop k (heading ++ 10 ∷ [])) (ap length c.ahead-size.ensures)) ∙ completed heading ahead begins in
    let new = c.new-reader.result in
    let leads = subst (λ log. Leads (AddedAll added) (g.L.Log.told reader.log) (g.L.Log.told log)) (sym c.new-reader.ensures.log) c.in_default-add_synced.ensures.ok in
    let items = ap length c.in-Ok.ensures in
    let long : new.done ≡ length (heading ++ 10 ∷ []) = omega (arith, c.new-reader.ensures.done, c.len.ensures, c.in-Ok.text.ok, items) in
    headed_opens heading c.requires.one_line ahead added all (g.L.Log.told reader.log) (g.L.Log.told new.log) c.requires.at_the_end c.requires.no_line begins leads new.done long
