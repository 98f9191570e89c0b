-- The stores that relabel a chunk, take it whole or set it free, and the block that the words are then. Assumes nothing.
use Prim.Native.Nat.{ℕ, ◌+◌, ◌-◌, ◌≤◌}
use native.Mathlib.Nat.{add-zero}
use native.Mathlib.Omega.{arith}
use mathlib.Core.List.{List}
use mathlib.Core.Logic.{◌≢◌}
use mathlib.Core.Path.{◌≡◌, refl, sym, ap, subst, ◌∙◌}
use lib.ListN.{set, length-set}
use lib.Seq.{set-get_or}
use Rattle.model.specs.Block.{Spot, first, live_size}
use Rattle.model.specs.GivingBack.{grown, relabel}
use Rattle.model.proofs.Totals.{free_size, live_size_lem}
use Rattle.table.specs.Layout.{Slot, allocated_word, size_at, at}
use Rattle.stores.specs.Stores.{OnlySlot, nothing, stored, row-head_set}
use Rattle.words.specs.Words.{slot_of, row_of, encode, block_of}
use Rattle.words.specs.Spots.{InSlot}
use Rattle.words.proofs.Spots.{in_table, in_row, in_words}
use Rattle.chunks.specs.Premises.{FreeIn, LiveIn}
use Rattle.chunks.specs.ReplacedWords.{replaced-written}
use Rattle.chunks.specs.Steps.{made_live, relabelled, taken_whole, set_free}

-- One store gives the chunk another label.
pub relabel-words : (ws : List ℕ) (k label : ℕ) (z : Spot) → InSlot ws k z
    → set ws (at k 4) label ≡ encode (relabelled label z (block_of ws))
unfolding relabelled
relabel-words ws k label z h =
    let o = stored (in_table ws k z h) (nothing ws k) 4 label (omega arith) in
    replaced-written h (relabel label z.chunk) (allocated_word ws) (set ws (at k 4) label) refl refl refl
    (rw (set-get_or ws 1 0)
    (subst (OnlySlot ws (set ws (at k 4) label) k) (ap (λ (r : List ℕ). set r 4 label) (in_row ws k z h)) o))

-- the stores that give it another kind and label, once allocated is set
abbrev made : List ℕ → ℕ → ℕ → ℕ → ℕ → List ℕ
made ws k v kind label = set (set (set ws 1 v) (at k 3) kind) (at k 4) label

made_row : (ws : List ℕ) (k v kind label : ℕ) (z : Spot) → InSlot ws k z
    → OnlySlot (set ws 1 v) (made ws k v kind label) k
    (row_of (slot_of z.left) (first z) (slot_of z.right) (made_live kind label z.chunk))
made_row ws k v kind label z h =
    let s : Slot (set ws 1 v) k = rw length-set (in_table ws k z h) in
    let o = stored s (stored s (nothing (set ws 1 v) k) 3 kind (omega arith)) 4 label (omega arith) in
    subst (OnlySlot (set ws 1 v) (made ws k v kind label) k)
    (ap (λ (r : List ℕ). set (set r 3 kind) 4 label) (row-head_set ws 1 v k (omega arith) ∙ in_row ws k z h)) o

-- The free chunk becomes live as a whole.
pub take_words : (ws : List ℕ) (k kind label : ℕ) (z : Spot) → FreeIn ws k z → kind ≢ 0
    → made ws k (allocated_word ws + size_at ws k) kind label ≡ encode (taken_whole kind label z (block_of ws))
unfolding taken_whole
take_words ws k kind label z h live =
    let v = allocated_word ws + size_at ws k in
    let d = made_live kind label z.chunk in
    let e : v + live_size z.chunk ≡ allocated_word ws + live_size d =
    omega (arith, free_size z.chunk h.free, live_size_lem d live, (in_words h.place).size) in
    replaced-written h.place d v (made ws k v kind label) refl refl e (made_row ws k v kind label z h.place)

-- The live chunk becomes free.
pub free_words : (ws : List ℕ) (k : ℕ) (z : Spot) → LiveIn ws k z → size_at ws k ≤ allocated_word ws
    → made ws k (allocated_word ws - size_at ws k) 0 0 ≡ encode (set_free z (block_of ws))
unfolding set_free
free_words ws k z h l =
    let v = allocated_word ws - size_at ws k in
    let c = z.chunk in
    let e : v + live_size c ≡ allocated_word ws + live_size (grown c 0) =
    omega (arith, live_size_lem c h.live, free_size (grown c 0) refl, (in_words h.place).size) in
    let s : c.size ≡ c.size + 0 = sym (add-zero c.size) in
    replaced-written h.place (grown c 0) v (made ws k v 0 0) refl s e
    (subst (OnlySlot (set ws 1 v) (made ws k v 0 0) k)
    (ap (λ (n : ℕ). row_of (slot_of z.left) (first z) (slot_of z.right) (record { slot = c.slot; id = c.id; size = n; kind = 0; label = 0 })) s)
    (made_row ws k v 0 0 z h.place))
