-- What is said of the slots that a walk visits, where it passes its tests. Assumes nothing.
use Rattle.std.specs.Prelude.{ℕ, ◌+◌, ◌≤◌, ◌<◌, false, List, ◌≢◌, ◌≡◌}
use Rattle.laws.specs.Lists.{All, Pairwise, Head, Linked}
use Rattle.laws.specs.Members.{has}
use Rattle.model.specs.Block.{Chunk, total, allocated}
use Rattle.table.specs.Layout.{Slot, next_id, id_at, size_at, kind_at, label_at}
use Rattle.words.specs.Words.{slots_of}
use Rattle.words.specs.Soundness.{Walk, Follow, live_bytes, Unlike}

-- what is said of one slot
pub record Good (ws : List ℕ) (k : ℕ) : Type 0 where
  pub slot : Slot ws k
  pub id : (1 ≤ id_at ws k) × (id_at ws k < next_id ws)
  pub size : 1 ≤ size_at ws k
  pub kind : kind_at ws k ≤ 2
  pub label : kind_at ws k ≡ 0 → label_at ws k ≡ 0

-- what is said of the slots from k on, where the chunks are read: prev is the slot before, first the address where it
-- ends, before its kind, and seen are the ids of the chunks before
pub record Passed (ws : List ℕ) (prev first before : ℕ) (seen : List ℕ) (k : ℕ) (cs : List Chunk) : Type 0 where
  pub links : Walk ws prev k (slots_of cs)
  pub follow : Follow ws first (slots_of cs) (first + total cs)
  pub lives : live_bytes ws (slots_of cs) ≡ allocated cs
  pub good : All (Good ws) (slots_of cs)
  pub unseen : All (λ v. has (id_at ws v) seen ≡ false) (slots_of cs)
  pub apart : Pairwise (λ j k. id_at ws j ≢ id_at ws k) (slots_of cs)
  pub once : Pairwise Unlike (slots_of cs)
  pub head : Head (λ v. before ≡ 0 → kind_at ws v ≢ 0) (slots_of cs)
  pub neighbours : Linked (λ j k. kind_at ws j ≡ 0 → kind_at ws k ≢ 0) (slots_of cs)
