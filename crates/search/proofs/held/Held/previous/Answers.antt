-- `search::held::Held::previous` meets its contract. Assumes nothing.
use Rattle.words.proofs.Spots.{used-spot, spot-used}
use Rattle.search.specs.Fit.{held-previous}
use Rattle.search.proofs.held.Held.previous.Goals as goal

pub in_slot-requires : goal.in_slot-requires
in_slot-requires c = λ n.
    let t = c.args.self.table in
    let h = held-previous _ _ (used-spot _ t.sound _ c.args.self.held) _ c.word.ensures n in
    spot-used _ t.sound _ h.0 h.1
