-- What an accepted rename does: one chunk's label is new, and all else is as it was. Theorems. Assumes nothing.
use Rattle.std.specs.Prelude.{ℕ, ◌≡◌, refl}
use Rattle.laws.specs.Reply.{accepted}
use Rattle.model.specs.Block.{Block}
use Rattle.model.proofs.Effects.{renamed}
use Rattle.model.specs.GivingBack.{rename}
use Rattle.model.specs.Renaming.{Relabelled}

-- An accepted rename gives the chunk that is live under the id its new label, and changes nothing else.
pub rename-relabels : (id label : ℕ) (b after : Block) → rename id label b ≡ accepted after → Relabelled id label b after
rename-relabels id label b after e =
    renamed id b (Relabelled id label b) label after e
    (λ z l. record { spot = z; found = l; block = refl })
