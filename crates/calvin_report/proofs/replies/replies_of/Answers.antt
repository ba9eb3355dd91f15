use Rattle.std.proofs.Common.{rules, ◌≡◌, ℕ, List, sym, ap, subst, ◌∙◌}
use Rattle.std.specs.List.{All}
use Rattle.std.specs.Result.{IfOk}
use Rattle.std.specs.FinMap.{entries, from_entries}
use Rattle.std.proofs.lemmas.List.Sorted.{All-permutation, answers_always}
use Rattle.calvin_types.specs.declared.place.Place.{Place}
use Rattle.calvin_types.specs.Places.{place_cmp}
use Rattle.calvin_report.specs.Notes.{noted, IsNote, AreInOrder}
use Rattle.calvin_report.specs.Replies.{ByPlace}
use Rattle.calvin_report.proofs.FirstNotes.{sorted_notes, still_apart, same_replies}
use Rattle.calvin_report.proofs.replies.replies_of.Goals as goal

pub first_replies-requires : goal.first_replies-requires
first_replies-requires g c =
    let notes = c.in_ok-notes.notes.items in
    let after = c.sort_by_key.new.self.items in
    let moved = c.in_ok-sort_by_key.ensures.permutation in
    let each = All-permutation (IsNote c.args.packets.now.packets) notes after moved c.in_ok-notes.ensures.each in
    let sorted = c.in_ok-sort_by_key.ensures.sorted (λ (n : Place × ℕ). n.0) (answers_always _ _ _ (λ f a r g h. search rules)) in
    record {
      each = subst (All (IsNote c.args.packets.now.packets)) (sym c.as_slice.ensures.value) each;
      order = subst AreInOrder (sym c.as_slice.ensures.value) (sorted_notes after sorted (still_apart notes after c.in_ok-notes.ensures.apart moved));
    }

pub returns-clause-ok : goal.returns-clause-ok
returns-clause-ok g c =
    let packets = c.args.packets.now.packets in
    let notes = c.in_ok-notes.notes.items in
    let after = c.sort_by_key.new.self.items in
    let moved = c.in_ok-sort_by_key.ensures.permutation in
    let each = All-permutation (IsNote packets) notes after moved c.in_ok-notes.ensures.each in
    let told = ap (λ (ns : List (Place × ℕ)). entries (from_entries {R = place_cmp} (noted packets ns))) c.as_slice.ensures.value
    ∙ same_replies packets notes after c.in_ok-notes.ensures.each each c.in_ok-notes.ensures.apart moved ∙ c.in_ok-notes.ensures.first in
    subst (λ (es : ByPlace g.row.A-Reply.Denot). IfOk c.first_replies.result (λ replies. replies.items ≡ es)) told c.first_replies.ensures.ok
