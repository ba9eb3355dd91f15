use Rattle.std.proofs.Common.{◌≡◌, ◌∷◌, length, true, ap, arith}
use Rattle.json.specs.Token.{Token}
use Rattle.calvin_types.specs.Keys.{takes, insert_key}
use Rattle.calvin_script_tokens.proofs.Steps.{spells-shorter}
use Rattle.calvin_script_tokens.proofs.KeyTurns.{onward_none, onward_more, onward_end}
use Rattle.calvin_script_tokens.proofs.keys.read_key_set.Goals as goal

pub items-init : goal.items-init
items-init g c =
    let none : length c.args.keys.now ≡ 0 = ap length c.requires in
    record {
      onward = rw c.requires (onward_none g.F.KeyForm.form c.opens_array.new.reader);
      few = omega arith;
    }

pub items-preserved : goal.items-preserved
items-preserved g c =
    let kept : c.ends_array.new.reader ≡ c.items.reader = grind arith in
    let new : takes c.in_ok-key.key c.items.keys ≡ true = grind arith in
    let more : c.add_or_clear.new.self ≡ insert_key c.in_ok-key.key c.items.keys = grind arith in
    let spelled = c.in_ok-key.ensures in
    record {
      onward = onward_more g.F.KeyForm.form c.opens_array.new.reader c.items.reader c.key_at.new.reader c.in_ok-key.key c.items.keys c.add_or_clear.new.self c.items.invariant.onward (rw kept at spelled) new more;
      few = c.add_or_clear.ensures.at_most;
    }

pub items-smaller : goal.items-smaller
items-smaller g c =
    let kept : c.ends_array.new.reader ≡ c.items.reader = grind arith in
    let spelled = c.in_ok-key.ensures in
    let less = spells-shorter g.F.KeyForm.form 1 c.ends_array.new.reader c.key_at.new.reader c.in_ok-key.key spelled in
    rw (← kept) less

pub returns : goal.returns
returns g c =
    let closed : c.items.reader ≡ Token.end_array ∷ c.ends_array.new.reader = grind arith in
    let opened : c.args.reader.now ≡ Token.begin_array ∷ c.opens_array.new.reader = grind arith in
    rw opened (onward_end g.F.KeyForm.form c.opens_array.new.reader c.items.reader c.ends_array.new.reader c.items.keys c.items.invariant.onward closed c.items.invariant.few)
