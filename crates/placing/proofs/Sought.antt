-- What had to be found, or was the refusal's reason. Assumes nothing.
use Rattle.std.specs.Prelude.{Option, Some, None, ok_or, Ok, Err, ◌≡◌, refl}
use Rattle.refusals.specs.declared.Refusal.{Refusal}

module _ {A : Type 0} (r : Refusal) where
  -- What was found is what there is,
  pub one_found : {x : A} (o : Option A) → Ok x ≡ ok_or o r → o ≡ Some x
  one_found None e = absurd cc
  one_found (Some y) e = cc

  -- and where nothing was, there is none, and the refusal is the one that it was to be.
  pub none_found : {q : Refusal} (o : Option A) → Err q ≡ ok_or o r → (o ≡ None) × (q ≡ r)
  none_found None e = (refl, cc)
  none_found (Some y) e = absurd cc
