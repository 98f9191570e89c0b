-- What a call keeps of a block's head: its size, its slots and its next id. Theorems. Assumes nothing.
use Rattle.std.specs.Prelude.{ℕ, ◌≡◌, refl}
use Rattle.std.proofs.Common.{le_refl, arith}
use Rattle.laws.specs.Reply.{accepted}
use Rattle.model.specs.Block.{Block}
use Rattle.model.proofs.Effects.{placed-cases, released, renamed}
use Rattle.model.specs.GivingBack.{release, rename}
use Rattle.model.specs.Placing.{Request, Placed, place}
use Rattle.model.specs.Soundness.{Sound}
use Rattle.model.specs.Heads.{Heads, SameHeads}

-- An accepted request does.
pub place-heads : (r : Request) (b : Block) → Sound b → (p : Placed) → place r b ≡ accepted p → Heads b p.block
place-heads r b s p e =
    placed-cases r b s p e (λ q. Heads b q.block)
    (λ z i w. record { size = refl; slots = refl; next = le_refl _; word = λ h. h })
    (λ z i l n t. record { size = refl; slots = refl; next = omega arith; word = λ h. omega arith })

-- An accepted free keeps all three.
pub release-heads : (id : ℕ) (b after : Block) → release id b ≡ accepted after → SameHeads b after
release-heads id b after e = released id b (SameHeads b) after e (λ z l. record { size = refl; slots = refl; next = refl })

-- So does an accepted rename.
pub rename-heads : (id label : ℕ) (b after : Block) → rename id label b ≡ accepted after → SameHeads b after
rename-heads id label b after e =
    renamed id b (SameHeads b) label after e (λ z l. record { size = refl; slots = refl; next = refl })
