-- The paper's number of each refusal, and what an answer stands for: a value or such a number. Assumes nothing.
use Rattle.std.specs.Prelude.{ℕ, ◌≡◌, refl, Result, Ok, Err}
use Rattle.laws.specs.Reply.{Reply, accepted, refused, number}
use Rattle.refusals.specs.declared.Refusal.{Refusal}
use Rattle.refusals.specs.declared.Refusal.TheVariants as refusal

abbrev pub number_of : Refusal → ℕ
number_of refusal.WordCount = 1
number_of refusal.Unsound = 2
number_of refusal.ZeroSize = 3
number_of refusal.Alignment = 4
number_of refusal.Granularity = 5
number_of refusal.Kind = 6
number_of refusal.NoRoom = 7
number_of refusal.NoId = 8
number_of refusal.NoSlot = 9
number_of refusal.UnknownId = 10
number_of refusal.Occupied = 11
number_of refusal.OtherSize = 12
number_of refusal.BlockSize = 13
number_of refusal.Sizes = 14
number_of refusal.Amount = 15
number_of refusal.ShortBuffer = 16
number_of refusal.NotId1 = 18

-- what a call answers, as the paper has it: the value asked for, or a refusal's number
abbrev pub reply : {A : Type 0} → Result A Refusal → Reply A
reply (Ok a) = accepted a
reply (Err r) = refused (number_of r)

-- the number given back: 0 for an accepted call
abbrev pub fault_of : {A : Type 0} → Result A Refusal → ℕ
fault_of answer = number (reply answer)

-- The first refusal, and the last.
numbers-named : (number_of refusal.WordCount ≡ 1) × (number_of refusal.NotId1 ≡ 18)
numbers-named = (refl, refl)
