-- `words::fresh::write_fresh` meets its contract. Assumes nothing.
use Rattle.std.proofs.Common.{arith}
use Rattle.table.specs.Layout.{table_shape}
use Rattle.words.proofs.FreshWords.{fresh-words}
use Rattle.words.proofs.fresh.write_fresh.Goals as goal

pub set_head-requires : goal.set_head-requires
set_head-requires c = omega (arith, table_shape _ c.requires)

pub set_head-requires-2 : goal.set_head-requires-2
set_head-requires-2 c = omega (arith, table_shape _ c.requires)

pub set_head-requires-3 : goal.set_head-requires-3
set_head-requires-3 c = omega (arith, table_shape _ c.requires)

pub set_word-requires : goal.set_word-requires
set_word-requires c = (omega arith, omega (arith, table_shape _ c.requires))

pub set_word-requires-2 : goal.set_word-requires-2
set_word-requires-2 c = (omega arith, omega (arith, table_shape _ c.requires))

pub returns : goal.returns
returns c =
    let e = c.fill.ensures.after (λ y h. h) in
    rw (c.set_word-2.ensures, c.set_word.ensures, c.set_head-3.ensures, c.set_head-2.ensures, c.set_head.ensures, e) (fresh-words _ _ _ (table_shape _ c.requires).0 (table_shape _ c.requires).2)
