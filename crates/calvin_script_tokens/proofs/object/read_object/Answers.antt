use Rattle.std.proofs.Common.{◌≡◌, ◌∷◌, length, option_map, ap, ◌∙◌, arith}
use Rattle.json.specs.Token as token
use Rattle.calvin_script_tokens.specs.Spelled.{key_or_end}
use Rattle.calvin_script_tokens.proofs.Onward.{onward_none, onward_more, onward_end}
use Rattle.calvin_script_tokens.proofs.Steps.{Reads-shorter}
use Rattle.calvin_script_tokens.proofs.object.read_object.Goals as goal

pub members-init : goal.members-init
members-init g c = onward_none g.T.Object.holds g.T.Object.deep c.opens_object.new.reader c.args.object.now c.requires

pub members-smaller : goal.members-smaller
members-smaller g c =
    let o = c.members.invariant in
    let key : c.members.reader ≡ token.key c.in-Some.name.now ∷ c.key_at.new.reader = c.in_ok-name.ensures ∙ ap (λ k. key_or_end (option_map (λ n. n.now) k) ∷ c.key_at.new.reader) c.in-Some.is in
    let read = c.in_ok-read_member.ensures o.found o.held in
    let less = Reads-shorter g.T.Object.deep c.key_at.new.reader c.read_member.new.reader read.piece read.reads in
    omega (arith, ap length key, less)

pub members-preserved : goal.members-preserved
members-preserved g c =
    let o = c.members.invariant in
    let key : c.members.reader ≡ token.key c.in-Some.name.now ∷ c.key_at.new.reader = c.in_ok-name.ensures ∙ ap (λ k. key_or_end (option_map (λ n. n.now) k) ∷ c.key_at.new.reader) c.in-Some.is in
    onward_more g.T.Object.holds g.T.Object.deep c.opens_object.new.reader c.in-Some.name.now c.members.reader c.key_at.new.reader c.read_member.new.reader c.members.object c.read_member.new.self key o (c.in_ok-read_member.ensures o.found o.held)

pub returns : goal.returns
returns g c =
    let closed : c.members.reader ≡ token.end_object ∷ c.key_at.new.reader = grind (arith, c.in_ok-name.ensures, c.in_default.is) in
    onward_end g.T.Object.holds g.T.Object.deep c.opens_object.new.reader c.args.reader.now c.members.reader c.key_at.new.reader c.members.object c.in_ok-opens_object.ensures closed c.members.invariant
