use Rattle.calvin_lock.proofs.marks.+next_bit.Given as goal

abbrev pub decreases-next_bit : goal.decreases-next_bit
decreases-next_bit l = l.size
