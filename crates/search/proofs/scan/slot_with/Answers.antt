-- `search::scan::slot_with` meets its contract. Assumes nothing.
use Rattle.std.proofs.Common.{◌≡◌, ◌≢◌, rules}
use Rattle.std.proofs.lemmas.Iterator.{first_from_Range}
use Rattle.table.specs.Layout.{id_at}
use Rattle.search.proofs.Scanning.{found_within}
use Rattle.search.proofs.scan.slot_with.Goals as goal

pub returns : goal.returns
returns c =
    let ws = c.args.table.words.now in
    found_within ws c.args.id _ c.slot_count.ensures c.find.result
    (first_from_Range _ _ _ c.find.result (λ k. id_at ws k ≡ c.args.id) (λ k. id_at ws k ≢ c.args.id) c.find.ensures.ran
    (λ x q k. search rules) (λ x q k. search rules))
