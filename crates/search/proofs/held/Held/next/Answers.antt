-- `search::held::Held::next` meets its contract. Assumes nothing.
use Rattle.words.proofs.Spots.{used-spot, spot-used}
use Rattle.search.specs.Fit.{held_next}
use Rattle.search.proofs.held.Held.next.Goals as goal

pub in_slot-requires : goal.in_slot-requires
in_slot-requires c = λ n.
    let t = c.args.self.table in
    let h = held_next _ _ (used-spot _ t.sound _ c.args.self.held) _ c.word.ensures n in
    spot-used _ t.sound _ h.0 h.1
