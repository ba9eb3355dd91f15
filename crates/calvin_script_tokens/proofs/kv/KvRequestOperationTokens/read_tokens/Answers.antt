use Rattle.std.proofs.Common.{◌≡◌, ◌∷◌, codes, ap, ◌∙◌, arith}
use Rattle.json.specs.Token as token
use Rattle.calvin_app.specs.declared.kv.KvRequest.TheVariants.{Put, Add, Move, Follow}
use Rattle.calvin_script.specs.Numbers.{one_number, two_numbers, three_numbers}
use Rattle.calvin_script.specs.KvOperations.{kv_operation}
use Rattle.calvin_script_tokens.proofs.Operations.{named_spelled, put_is, get_spelled, add_is, move_is, follow_is}
use Rattle.calvin_script_tokens.proofs.kv.KvRequestOperationTokens.read_tokens.Goals as goal

pub returns-in_ok-id : goal.returns-in_ok-id
returns-in_ok-id c =
    rw c.put_of.ensures (named_spelled kv_operation two_numbers (λ n. Put n.0 n.1) (codes "put") put_is 0 (c.in_ok-id.id, c.in_ok-id.number) c.in_ok-name.name.now c.args.reader.now c.opens_array.new.reader c.string_at.new.reader c.two_numbers.new.reader
    (omega arith) c.in_ok-opens_array.ensures c.in_ok-name.ensures (c.is_same.ensures c.if-is_same.true) c.in_ok-id.ensures)

pub returns-in_ok-closes_array : goal.returns-in_ok-closes_array
returns-in_ok-closes_array c =
    let is : c.opens_array.new.reader ≡ token.string (codes "get") ∷ c.string_at.new.reader = c.in_ok-name.ensures ∙ ap (λ s. token.string s ∷ c.string_at.new.reader) (c.is_same-else-is_same.ensures c.if-is_same-2.true) in
    get_spelled c.read_key_set.new.keys c.args.reader.now c.opens_array.new.reader c.string_at.new.reader c.read_key_set.new.reader c.closes_array.new.reader c.in_ok-opens_array.ensures is c.in_ok-read_key_set.ensures c.in_ok-closes_array.ensures

pub returns-in_ok-id-2 : goal.returns-in_ok-id-2
returns-in_ok-id-2 c =
    rw c.add_of.ensures (named_spelled kv_operation two_numbers (λ n. Add n.0 n.1) (codes "add") add_is 0 (c.in_ok-id-2.id, c.in_ok-id-2.amount) c.in_ok-name.name.now c.args.reader.now c.opens_array.new.reader c.string_at.new.reader c.two_numbers-then-is_same-3.new.reader
    (omega arith) c.in_ok-opens_array.ensures c.in_ok-name.ensures (c.is_same-else-is_same-2.ensures c.if-is_same-3.true) c.in_ok-id-2.ensures)

pub returns-in_ok-from : goal.returns-in_ok-from
returns-in_ok-from c =
    rw c.move_of.ensures (named_spelled kv_operation three_numbers (λ n. Move n.0 n.1 n.2) (codes "move") move_is 0 (c.in_ok-from.from, c.in_ok-from.to, c.in_ok-from.amount) c.in_ok-name.name.now c.args.reader.now c.opens_array.new.reader c.string_at.new.reader c.three_numbers.new.reader
    (omega arith) c.in_ok-opens_array.ensures c.in_ok-name.ensures (c.is_same-else-is_same-3.ensures c.if-is_same-4.true) c.in_ok-from.ensures)

pub returns-in_ok-followed : goal.returns-in_ok-followed
returns-in_ok-followed c =
    rw c.follow_of.ensures (named_spelled kv_operation one_number Follow (codes "follow") follow_is 0 c.in_ok-followed.followed c.in_ok-name.name.now c.args.reader.now c.opens_array.new.reader c.string_at.new.reader c.one_number.new.reader
    (omega arith) c.in_ok-opens_array.ensures c.in_ok-name.ensures (c.is_same-else-is_same-4.ensures c.if-is_same-5.true) c.in_ok-followed.ensures)
