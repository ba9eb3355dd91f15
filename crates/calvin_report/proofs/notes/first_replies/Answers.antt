use Rattle.std.proofs.Common.{ℕ, ◌++◌, ◌∷◌, [], get_or, take, sym, ap, ◌∙◌}
use Rattle.std.specs.Option.{option_to_list}
use Rattle.std.proofs.lemmas.List.{take_all}
use Rattle.std.proofs.lemmas.Option.{slice_get-get_or}
use Rattle.calvin_types.specs.declared.place.Place.{Place}
use Rattle.calvin_report.specs.Notes.{noted}
use Rattle.calvin_report.proofs.FirstNotes.{noted_more, told_in_order}
use Rattle.calvin_report.proofs.notes.first_replies.Goals as goal

none : Place × ℕ
none = (record { epoch = 0; n = 0 }, 0)

pub loop-i-preserved-in_default : goal.loop-i-preserved-in_default
unfolding none
loop-i-preserved-in_default g c =
    let note = c.requires.each c.loop-i.i none c.loop-i-test.true in
    let e = sym (ap option_to_list c.in_default.is) ∙ c.reply_of.ensures ∙ note.1 in
    absurd (cc)

pub loop-i-preserved : goal.loop-i-preserved
unfolding none
loop-i-preserved g c =
    let packets = c.args.packets.now.packets in
    let notes = c.args.notes.now in
    let i = c.loop-i.i in
    let reply = sym (ap option_to_list c.in-Some.is) ∙ c.reply_of.ensures in
    c.in_ok-push.ensures.items ∙ ap (λ es. es ++ c.in-Some.reply ∷ []) c.loop-i.invariant ∙ ap (λ es. noted packets (take i notes) ++ es) reply
    ∙ sym (noted_more packets notes i (get_or notes i none) (slice_get-get_or notes i none c.loop-i-test.true))

pub returns-clause-ok : goal.returns-clause-ok
returns-clause-ok g c =
    let packets = c.args.packets.now.packets in
    let notes = c.args.notes.now in
    c.loop-i.invariant ∙ ap (noted packets) (take_all c.loop-i.i notes c.loop-i-test.false) ∙ told_in_order packets notes c.requires.each c.requires.order
