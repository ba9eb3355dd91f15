use Rattle.std.proofs.Common.{◌≡◌, ◌+◌, arith}
use Rattle.calvin_script_tokens.proofs.Digits.{next_read, read_fits}
use Rattle.calvin_script_tokens.proofs.tokens.short_digits.Goals as goal

pub next_digit-requires-in-loop-i : goal.next_digit-requires-in-loop-i
next_digit-requires-in-loop-i c = read_fits c.loop-i.i c.loop-i.n (omega (arith, c.loop-i-test.true, c.requires)) c.loop-i.invariant.so_far.bound

pub next_digit-requires-in-loop-i-2 : goal.next_digit-requires-in-loop-i-2
next_digit-requires-in-loop-i-2 c =
    let first = next_read c.args.bytes.now c.loop-i.i c.loop-i.n c.in_ok-n-3.n (omega (arith, c.loop-i-test.true)) c.in_ok-n-3.ensures c.loop-i.invariant.so_far in
    read_fits (c.loop-i.i + 1) c.in_ok-n-3.n (omega (arith, c.loop-i-test.true, c.requires)) first.bound

pub loop-i-preserved : goal.loop-i-preserved
loop-i-preserved c =
    let first = next_read c.args.bytes.now c.loop-i.i c.loop-i.n c.in_ok-n-3.n (omega (arith, c.loop-i-test.true)) c.in_ok-n-3.ensures c.loop-i.invariant.so_far in
    let second = next_read c.args.bytes.now (c.loop-i.i + 1) c.in_ok-n-3.n c.in_ok-n-4.n c.loop-i-test.true c.in_ok-n-4.ensures first in
    let same : c.loop-i.i + 1 + 1 ≡ c.loop-i.i + 2 = omega arith in
    record {
      so_far = rw same at second;
      within = omega (arith, c.loop-i-test.true);
    }

pub next_digit-requires-then-i-bytes : goal.next_digit-requires-then-i-bytes
next_digit-requires-then-i-bytes c = read_fits c.loop-i.i c.loop-i.n (omega (arith, c.if-i-bytes.true, c.requires)) c.loop-i.invariant.so_far.bound
