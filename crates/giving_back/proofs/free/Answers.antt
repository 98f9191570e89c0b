-- `giving_back::free` meets its contract. Assumes nothing.
use Rattle.std.proofs.Common.{rules}
use Rattle.giving_back.proofs.Answered.{found_live, free_refused, free_done}
use Rattle.giving_back.proofs.free.Goals as goal

pub returns-in_err-k : goal.returns-in_err-k
returns-in_err-k c = search (rules, free_refused)

pub give_back-requires : goal.give_back-requires
give_back-requires c = let h = found_live _ _ _ c.in_ok-k.ensures in ((h.spot, h.live), h.bounded)

pub returns : goal.returns
returns c = let h = found_live _ _ _ c.in_ok-k.ensures in free_done _ _ _ h _ (c.give_back.ensures h.spot h.live)
