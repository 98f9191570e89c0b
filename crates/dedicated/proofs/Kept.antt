-- What every call on a dedicated block keeps: a sound record stays sound, of the same size. Assumes nothing.
use Rattle.std.specs.Prelude.{ℕ, ◌≡◌}
use Rattle.std.proofs.Math.Logic.{inl}
use Rattle.std.proofs.Common.{inr}
use Rattle.std.proofs.Math.Path.{refl}
use Rattle.laws.specs.Reply.{Reply}
use Rattle.model.specs.Placing.{Request}
use Rattle.dedicated.specs.Dedicated.{allocate_in, free_in, rename_in}
use Rattle.dedicated.specs.Exactly.{Sound}
use Rattle.dedicated.proofs.Exactly.{allocate-cases, id-cases}
use Rattle.dedicated.specs.declared.record.DedicatedBlock.{DedicatedBlock}

module _ (d : DedicatedBlock) (s : Sound d) where
  -- what a call leaves: a sound record of the same size
  abbrev Left : {A : Type 0} → Reply A × DedicatedBlock → Type 0
  Left x = Sound x.1 × (x.1.size ≡ d.size)

  -- Placing, accepted or refused.
  pub allocate-sound : (r : Request) → Left (allocate_in d r)
  allocate-sound r =
      allocate-cases d r Left (λ n. (s, refl)) (λ s f. (s, refl)) (λ s f o. (s, refl)) (λ s f o l. (s, refl))
      (λ s f o l. (record { size = s.size; allocated = inr refl }, refl))

  -- Giving back.
  pub free-sound : (id : ℕ) → Left (free_in d id)
  unfolding free_in
  free-sound id =
      id-cases d id _ Left (λ n. (s, refl)) (λ s i. (s, refl))
      (λ s i. (record { size = s.size; allocated = inl refl }, refl))

  -- Renaming.
  pub rename-sound : (id label : ℕ) → Left (rename_in d id label)
  unfolding rename_in
  rename-sound id label =
      id-cases d id _ Left (λ n. (s, refl)) (λ s i. (s, refl))
      (λ s i. (record { size = s.size; allocated = s.allocated }, refl))
