use Rattle.std.proofs.Common.{◌≡◌, ℕ, ◌+◌, ◌≤◌, List, ap, subst, sym, ◌∙◌}
use Rattle.std.specs.Bool.{OnFalse}
use Rattle.std.specs.FinMap.{entries}
use Rattle.std.proofs.lemmas.Bool.{not-true, not-false}
use Rattle.std.proofs.lemmas.List.{take_all}
use Rattle.calvin_types.specs.declared.place.Place.{Place}
use Rattle.calvin_report.specs.Replies.{replied}
use Rattle.calvin_report.proofs.FirstNotes.{Noted, is_note, no_reply_here, passed, noted_before, noted_first}
use Rattle.calvin_report.proofs.notes.notes_of.Goals as goal
use Rattle.calvin_report.proofs.notes.notes_of.Goals.{then-is_first+in_ok-push, else-is_first}

pub loop-number-preserved-in_default : goal.loop-number-preserved-in_default
loop-number-preserved-in_default g c =
    let packets = c.args.packets.now.packets in
    let i = c.loop-number.number in
    passed packets c.loop-number.places.keys c.loop-number.notes.items i c.loop-number.invariant (no_reply_here packets i (sym c.in_default.is ∙ c.reply.ensures))

pub loop-number-preserved : goal.loop-number-preserved
loop-number-preserved g c =
    let packets = c.args.packets.now.packets in
    let i = c.loop-number.number in
    let places = c.loop-number.places.keys in
    let after = c.insert.new.self.keys in
    let notes = c.loop-number.notes.items in
    let q = c.in-Some.place in
    let note = is_note packets i (q, c.in-Some._id, c.in-Some._attempt) (sym c.in-Some.is ∙ c.reply.ensures) in
    elim c.if-is_first.branch [
      | then-is_first+in_ok-push w ↦
          let absent = not-true _ (sym c.in_ok-is_first.ensures.added ∙ w.if-is_first.true) in
          subst (λ (ns : List (Place × ℕ)). Noted packets after ns (i + 1)) (sym (ap (λ v. v.items) w.notes-is ∙ w.in_ok-push.ensures.items))
          (noted_first packets places notes i c.loop-number.invariant q note after c.in_ok-is_first.ensures.updates.0 absent)
      | else-is_first w ↦
          let there = not-false _ (sym c.in_ok-is_first.ensures.added ∙ w.if-is_first.false) in
          let unchanged = subst (λ b. OnFalse b (after ≡ places)) w.if-is_first.false c.in_ok-is_first.ensures.unchanged in
          subst (λ (ns : List (Place × ℕ)). Noted packets after ns (i + 1)) (sym (ap (λ v. v.items) w.notes-is))
          (noted_before packets places notes i c.loop-number.invariant q note after unchanged there)
    ]

pub returns-clause-first : goal.returns-clause-first
returns-clause-first g c =
    let packets = c.args.packets.now.packets in
    c.loop-number.invariant.so_far ∙ ap (λ ps. entries (replied ps)) (take_all c.loop-number.number packets (subst (λ (n : ℕ). n ≤ c.loop-number.number) c.len-number-end.ensures c.loop-number-test.false))
