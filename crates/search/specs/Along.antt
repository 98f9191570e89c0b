-- The walk along "next", by rising address: what it passed, what is ahead, and that it ends. Assumes nothing.
use Rattle.std.specs.Prelude.{◌≡◌, ℕ, ◌-◌, ◌^◌, ◌<◌, true, cond, ◌≢◌, List, [], ◌∷◌, ◌==◌, refl}
use Rattle.std.proofs.Common.{arith, sym, subst, ◌∙◌, ne_eqb}
use mathlib.Core.List.{reverse_aux}
use Rattle.std.proofs.lemmas.Bool.{eqb-false}
use Rattle.laws.specs.Tests.{cond_cases}
use Rattle.model.specs.Block.{Chunk}
use Rattle.table.specs.Layout.{first_slot, first_byte_at, next_at}
use Rattle.words.specs.Words.{slot_of, chunks_of, block_of, sound}
use Rattle.words.proofs.Linked.{linked_slot}
use Rattle.words.specs.Spots.{InSlot}
use Rattle.words.proofs.Spots.{sound-spot, in_table, in_words}
use Rattle.words.proofs.Written.{known}
use Rattle.search.specs.Fit.{next_first}
use Rattle.search.specs.Held.{HeldIn, in_bytes}

-- the walk is at slot k: it passed those on the left, and those on the right are ahead
pub record Along (ws : List ℕ) (k : ℕ) (left right : List Chunk) : Type 0 where
  pub whole : reverse_aux left right ≡ (block_of ws).chunks
  pub slot : k ≡ slot_of right

module _ (ws : List ℕ) (s : sound ws ≡ true) (k : ℕ) where
  -- It begins at the first slot, with all chunks ahead.
  pub along-first : k ≡ first_slot ws → Along ws k [] (block_of ws).chunks
  unfolding block_of
  along-first e = record {
    whole = refl;
    slot = e ∙ linked_slot ws 0 (first_slot ws) 0 (chunks_of ws) (known ws s).links;
  }

  module _ (left : List Chunk) where
    -- The first chunk ahead is in slot k,
    pub along-here : (c : Chunk) (cs : List Chunk) → Along ws k left (c ∷ cs)
        → InSlot ws k (record { left = left; chunk = c; right = cs })
    along-here c cs h =
        subst (λ (j : ℕ). InSlot ws j (record { left = left; chunk = c; right = cs })) (sym h.slot)
        (sound-spot ws s _ h.whole)

    -- and after it comes the slot that "next" says.
    pub along-next : (c : Chunk) (cs : List Chunk) → Along ws k left (c ∷ cs) → Along ws (next_at ws k) (c ∷ left) cs
    along-next c cs h = record { whole = h.whole; slot = (in_words (along-here c cs h)).next }

    -- A slot other than 0 holds a chunk.
    pub along-held : (right : List Chunk) → Along ws k left right → k ≢ 0 → HeldIn ws k
    along-held [] h n = absurd (n h.slot)
    along-held (c ∷ cs) h n = (_, along-here c cs h)

    -- At slot 0 nothing is ahead.
    pub along-end : (right : List Chunk) → Along ws k left right → k ≡ 0 → right ≡ []
    along-end [] h z = refl
    along-end (c ∷ cs) h z = absurd (omega (arith, (in_table ws k _ (along-here c cs h)).0))

-- ---- the walk ends

-- what is left of the addresses, from slot k on
abbrev pub ahead : List ℕ → ℕ → ℕ
ahead ws k = cond (k == 0) 0 (2 ^ 64 - first_byte_at ws k)

-- It falls from slot to slot.
pub ahead-falls : (ws : List ℕ) → sound ws ≡ true → (k : ℕ) → HeldIn ws k → k ≢ 0 → ahead ws (next_at ws k) < ahead ws k
ahead-falls ws s k h n =
    let b = in_bytes ws k h.0 h.1 s in
    rw (ne_eqb k 0 n)
    (cond_cases (λ (x : ℕ). x < 2 ^ 64 - first_byte_at ws k) (next_at ws k == 0)
    (λ e. omega arith)
    (λ e. omega (arith, next_first ws k h (eqb-false _ _ e))))
