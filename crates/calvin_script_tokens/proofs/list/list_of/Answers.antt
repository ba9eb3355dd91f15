use Rattle.std.proofs.Common.{◌≡◌, ◌∷◌, [], sym, ap, ◌∙◌}
use Rattle.json.specs.Token.{Token}
use Rattle.calvin_script_tokens.proofs.Insides.{SpellsEach}
use Rattle.calvin_script_tokens.proofs.Steps.{each_end, each_onward, each_done, list_spelled, one_more-shorter}
use Rattle.calvin_script_tokens.proofs.list.list_of.Goals as goal

pub returns-then-ends_array : goal.returns-then-ends_array
returns-then-ends_array g c =
    let one = g.T.Piece in
    let rest = c.ends_array.new.reader in
    let closed : c.opens_array.new.reader ≡ Token.end_array ∷ rest = c.ends_array.ensures.ended c.if-ends_array.true in
    let none : SpellsEach one.spelled one.deep c.opens_array.new.reader [] rest = rw closed (each_end one.spelled one.deep rest) in
    rw (c.in_ok-opens_array.ensures, c.new.ensures.items) (list_spelled one.spelled one.deep c.opens_array.new.reader rest [] none)

pub items-preserved : goal.items-preserved
items-preserved g c =
    let one = g.T.Piece in
    let kept : c.ends_array-in-items.new.reader ≡ c.items.reader = c.ends_array-in-items.ensures.kept c.items-test.true in
    let room : c.make_room.new.found.items ≡ c.items.found.items = c.in_ok-make_room.ensures in
    let pushed = c.in_ok-push_tokens.ensures in
    each_onward one.spelled one.deep c.ends_array.new.reader c.items.reader c.push_tokens.new.reader _ _ c.items.invariant
    (rw (kept, room) at pushed)

pub items-smaller : goal.items-smaller
items-smaller g c =
    let one = g.T.Piece in
    let kept : c.ends_array-in-items.new.reader ≡ c.items.reader = c.ends_array-in-items.ensures.kept c.items-test.true in
    let pushed = c.in_ok-push_tokens.ensures in
    let less = one_more-shorter one.spelled one.deep c.ends_array-in-items.new.reader c.push_tokens.new.reader _ _ pushed in
    rw (← kept) less

pub returns : goal.returns
returns g c =
    let one = g.T.Piece in
    let closed : c.items.reader ≡ Token.end_array ∷ c.ends_array-in-items.new.reader = c.ends_array-in-items.ensures.ended c.items-test.false in
    let start : c.ends_array.new.reader ≡ c.opens_array.new.reader = c.ends_array.ensures.kept c.if-ends_array.false in
    let opened : c.args.reader.now ≡ Token.begin_array ∷ c.ends_array.new.reader = c.in_ok-opens_array.ensures ∙ ap (λ ts. Token.begin_array ∷ ts) (sym start) in
    rw (opened, c.shrink_to_fit.ensures.items) (list_spelled one.spelled one.deep c.ends_array.new.reader c.ends_array-in-items.new.reader _
    (each_done one.spelled one.deep c.ends_array.new.reader c.items.reader c.ends_array-in-items.new.reader _ c.items.invariant closed))
