-- `giving_back::rename_allocation` meets its contract. Assumes nothing.
use Rattle.std.proofs.Common.{rules}
use Rattle.words.proofs.Spots.{in_table}
use Rattle.giving_back.proofs.Answered.{found_live, rename_refused, rename_done}
use Rattle.giving_back.proofs.rename_allocation.Goals as goal

pub returns-in_err-k : goal.returns-in_err-k
returns-in_err-k c = search (rules, rename_refused)

pub relabel-requires : goal.relabel-requires
relabel-requires c = let h = found_live _ _ _ c.in_ok-k.ensures in in_table _ _ _ h.live.place

pub returns : goal.returns
returns c =
    let h = found_live _ _ _ c.in_ok-k.ensures in
    rename_done _ _ _ _ h _ (c.relabel.ensures h.spot h.live.place)
