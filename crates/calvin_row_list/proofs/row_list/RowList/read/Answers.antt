use Rattle.std.proofs.Common.{◌≡◌, sym, ap, subst, ◌++◌, ◌∷◌, [], length, vec_len, vec_capacity, ◌∙◌, arith}
use Rattle.std.proofs.lemmas.List.{take_all}
use Rattle.std.specs.FinMap as map
use Rattle.calvin_app.specs.Entries.{shown}
use Rattle.calvin_app.specs.Rows.{view}
use Rattle.calvin_row_list.proofs.Fronts.{shown-entries}
use Rattle.calvin_row_list.proofs.Seen.{entries-none, entries-row, entries-no_row}
use Rattle.calvin_row_list.specs.declared.row_list.RowList.TheInside.{Inside}
use Rattle.calvin_row_list.specs.Listing.{IsListing}
use Rattle.calvin_row_list.proofs.row_list.RowList.read.Given as given
use Rattle.calvin_row_list.proofs.row_list.RowList.read.Goals as goal
use Rattle.calvin_row_list.proofs.row_list.RowList.read.Goals.{in-Some, in-None}

pub loop-i-init : goal.loop-i-init
loop-i-init g c = record {
  so_far = c.clear.ensures.items ∙ sym (entries-none (g.L.Look.shown c.args.rows.now));
  number = omega (arith, c.clear.ensures.len);
  room = c.clear.ensures.capacity ∙ ap (λ l. l.room) c.self.view_is;
}

pub loop-i-preserved : goal.loop-i-preserved
loop-i-preserved g c =
    let shows = g.L.Look.shown c.args.rows.now in
    let keys = c.args.keys.now in
    let key = c.at-key.result in
    elim c.match-look.branch [
      | in-Some w ↦ record {
        so_far = ap (λ (v : Inside g.row.Row.Denot). v.entries.items) w.self-inside-is ∙ w.push_reserved.ensures.items ∙ ap (λ es. es ++ (key, w.in-Some.row) ∷ []) c.loop-i.invariant.so_far ∙ entries-row shows keys c.loop-i.i key c.at-key.ensures w.in-Some.row c.len-i-end.ensures.rising (sym w.in-Some.ensures);
        number = omega (arith, ap (λ (v : Inside g.row.Row.Denot). vec_len v.entries) w.self-inside-is, w.push_reserved.ensures.len, c.loop-i.invariant.number);
        room = ap (λ (v : Inside g.row.Row.Denot). vec_capacity v.entries) w.self-inside-is ∙ w.push_reserved.ensures.capacity ∙ c.loop-i.invariant.room;
      }
      | in-None w ↦ record {
        so_far = ap (λ (v : Inside g.row.Row.Denot). v.entries.items) w.self-inside-is ∙ c.loop-i.invariant.so_far ∙ entries-no_row shows keys c.loop-i.i key c.at-key.ensures (sym w.in-None.ensures);
        number = omega (arith, ap (λ (v : Inside g.row.Row.Denot). vec_len v.entries) w.self-inside-is, c.loop-i.invariant.number);
        room = ap (λ (v : Inside g.row.Row.Denot). vec_capacity v.entries) w.self-inside-is ∙ c.loop-i.invariant.room;
      }
    ]

-- all keys were looked up
all_seen : (g : given.Over) (c : goal.After-loop-i g) → c.loop-i.self-inside.entries.items ≡ map.entries (view (g.L.Look.shown c.args.rows.now) c.args.keys.now)
all_seen g c = c.loop-i.invariant.so_far ∙ ap (λ ks. map.entries (view (g.L.Look.shown c.args.rows.now) ks)) (take_all c.loop-i.i c.args.keys.now (omega (arith, c.len-i-end.ensures.len, c.loop-i-test.false)))

pub invariant_of-self : goal.invariant_of-self
invariant_of-self g c =
    let rows = view (g.L.Look.shown c.args.rows.now) c.args.keys.now in
    subst IsListing (sym (all_seen g c)) (record { rises = map.entries_sorted rows; few = omega (arith, ap length (all_seen g c), c.loop-i.self-inside.entries.ok, c.loop-i.invariant.number, c.loop-i.auto.i-end, c.len-i-end.ensures.len, c.len-i-end.ensures.at_most) })

pub returns : goal.returns
returns g c =
    let rows = ap shown (all_seen g c) ∙ shown-entries (view (g.L.Look.shown c.args.rows.now) c.args.keys.now) in
    λ i. record { rows = rows i; room = c.loop-i.invariant.room i }
