-- What holds at each turn of `walking::ids::Buckets::on_chain`, and what falls. Assumes nothing.
use Rattle.std.proofs.Common.{◌≡◌, ◌≤◌, length}
use Rattle.table.specs.Layout.{slot_count}
use Rattle.words.specs.Ids.{chain, Ends, on_chain}
use Rattle.walking.specs.Answers.{heads_and_links}
use Rattle.walking.proofs.ids.Buckets.on_chain.Given as goal

abbrev pub invariant-loop-k : goal.invariant-loop-k
invariant-loop-k l =
    (l.k ≤ slot_count l.table.words.now) × Ends (heads_and_links l.self) l.k
    × (on_chain l.table.words.now (heads_and_links l.self) 512 l.k l.id ≡ on_chain l.table.words.now (heads_and_links l.self) 512 l.start l.id)

abbrev pub decreases-loop-k : goal.decreases-loop-k
decreases-loop-k l = length (chain 512 (heads_and_links l.self) l.k)
