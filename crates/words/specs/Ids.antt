-- Ids by buckets: a list of 512 heads, then a link for each slot. Assumes nothing.
use Rattle.std.specs.Prelude.{ℕ, zero, suc, ◌+◌, ◌-◌, ◌*◌, ◌/◌, ◌%◌, ◌^◌, ◌≤◌, ◌<◌, Bool, not, List, [], ◌∷◌, map, ◌≡◌, get_or, set}
use Rattle.std.proofs.Common.{arith}
use Rattle.std.specs.Int.Bits.{bit_xor}
use Rattle.laws.specs.Members.{has}
use Rattle.table.specs.Layout.{id_at}

-- every head and every link is 0 or a slot
abbrev pub AllAtMost : ℕ → List ℕ → Type 0
AllAtMost slots t = (i : ℕ) → get_or t i 0 ≤ slots

-- nothing was entered yet
abbrev pub AllZero : List ℕ → Type 0
AllZero t = (i : ℕ) → get_or t i 0 ≡ 0

-- the bucket of an id: of the number before it, some bits flipped, then the top nine of the 64 low bits of a product, so that
-- ids in a stride are spread
unfoldable pub bucket_of : ℕ → ℕ
bucket_of id = bit_xor ((id + (2 ^ 64 - 1)) % 2 ^ 64) 1448498774 * (2 ^ 8 + 1) * (2 ^ 9 + 1) * (2 ^ 14 + 1) * (2 ^ 26 + 1) % 2 ^ 64 / 2 ^ 55

-- It is one of 512.
pub bucket_below : (id : ℕ) → bucket_of id < 512
unfolding bucket_of
bucket_below id = omega arith

-- the head of slot k's bucket, and where k's link stands
abbrev pub head_of : List ℕ → ℕ → ℕ
head_of ws k = bucket_of (id_at ws k)

abbrev pub link_of : ℕ → ℕ
link_of k = 511 + k

-- the slots on the chain from slot k, at most so many; 0 ends it
unfoldable pub chain : ℕ → List ℕ → ℕ → List ℕ
chain zero t k = []
chain (suc n) t zero = []
chain (suc n) t (suc k) = suc k ∷ chain n t (get_or t (link_of (suc k)) 0)

-- the chain from slot k ends within 512 slots, and so does each from a head
abbrev pub Ends : List ℕ → ℕ → Type 0
Ends t k = chain 513 t k ≡ chain 512 t k

abbrev pub AllEnd : List ℕ → Type 0
AllEnd t = (h : ℕ) → h < 512 → Ends t (get_or t h 0)

abbrev pub ids_at : List ℕ → List ℕ → List ℕ
ids_at ws ks = map (id_at ws) ks

unfoldable pub on_chain : List ℕ → List ℕ → ℕ → ℕ → ℕ → Bool
on_chain ws t n k id = has id (ids_at ws (chain n t k))

-- no slot in the bucket of slot k has its id
unfoldable pub is_new : List ℕ → List ℕ → ℕ → Bool
is_new ws t k = not (on_chain ws t 512 (get_or t (head_of ws k) 0) (id_at ws k))

-- slot k comes first in its bucket
unfoldable pub entered : List ℕ → List ℕ → ℕ → List ℕ
entered ws t k = set (set t (head_of ws k) k) (link_of k) (get_or t (head_of ws k) 0)
