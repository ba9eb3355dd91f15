-- At first nothing happened.
use Rattle.calvin_order.specs.Configs.{config_of}
use Rattle.calvin_book.proofs.Keeping.{new_kept}
use Rattle.calvin_book.proofs.book.Book.new.Goals as goal

pub invariant_of-result : goal.invariant_of-result
invariant_of-result g c =
    new_kept g.A.App.meaning c.in_ok-world.world (config_of c.args.config.now g.S.Rows.points g.S.Rows.cold) c.in_ok-world.ensures.ok
    c.new-2.result.items c.new-3.result.items c.new-2.ensures.items c.new-3.ensures.items
