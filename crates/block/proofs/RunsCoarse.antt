-- A call on words names a granularity of at least G where it does on the block. Assumes nothing.
use Rattle.std.specs.Prelude.{ℕ, ◌≤◌, ◌↔◌, ◌≡◌, refl}
use Rattle.std.proofs.Common.{sym, ap, ◌∙◌}
use mathlib.Core.List.{List}
use Rattle.laws.specs.Reply.{Reply, accepted, refused, not_refused}
use Rattle.model.specs.Apart.{Coarse}
use Rattle.model.specs.Block.{Block}
use Rattle.model.specs.Placing.{Placed, place}
use Rattle.model.specs.Runs.{Call}
use Rattle.model.specs.Runs.Call.{allocate, free, rename_to}
use Rattle.model.specs.Soundness.{Sound as SoundBlock}
use Rattle.words.specs.Words.{encode}
use Rattle.opening.specs.Calls.{leaves}
use Rattle.sub_allocator.specs.Answers.{Given}
use Rattle.placing.specs.Placing.{given, allocate_on}
use Rattle.block.proofs.RunsWritten.{allocate-written}
use Rattle.block.specs.RunsApart.{CoarseOn}

-- On the words of a sound block a call does exactly where it does on the block.
pub coarse_written : (G : ℕ) (c : Call) (b : Block) → SoundBlock b → CoarseOn G c (encode b) ↔ Coarse G c b
coarse_written G (allocate r) b h = (
  λ k p e. k (given p) (answer ∙ ap (λ (a : Reply Placed). (leaves given (λ p. p.block) (encode b) a).0) e),
  λ k g e. on (place r b) refl k (sym answer ∙ e),
)
  where
    answer : (allocate_on (encode b) r).0 ≡ (leaves given (λ p. p.block) (encode b) (place r b)).0
    answer = ap (λ (a : Reply Given × List ℕ). a.0) (allocate-written b h r)

    on : {g : Given} (a : Reply Placed) → place r b ≡ a → ((p : Placed) → place r b ≡ accepted p → G ≤ r.granularity)
        → (leaves given (λ p. p.block) (encode b) a).0 ≡ accepted g → G ≤ r.granularity
    on (accepted p) e k q = k p e
    on (refused n) e k q = absurd (not_refused (sym q))
coarse_written G (free id) b h = (λ k. tt, λ k. tt)
coarse_written G (rename_to id label) b h = (λ k. tt, λ k. tt)
