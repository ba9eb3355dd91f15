use Rattle.std.proofs.Common.{◌≡◌, ◌++◌, take}
use Rattle.calvin_journal_texts.specs.Joined.{continued}
use Rattle.calvin_journal_texts.specs.Texts.{items_of}
use Rattle.calvin_journal_texts.proofs.texts.push_continued.Given as goal

abbrev pub invariant-loop-next : goal.invariant-loop-next
invariant-loop-next l = l.text.items ≡ l.fn.text.items ++ continued (items_of (take l.next-index l.texts))
