-- What the slots of a sound table tell is every word of it. Theorems. Assumes nothing.
use Rattle.std.specs.Prelude.{ℕ, ◌≤◌, ◌≢◌, ◌⊎◌, ◌≡◌, refl}
use Rattle.std.proofs.Common.{arith, inl, inr, ⊎_elim, sym, ap, subst, ◌∙◌}
use mathlib.Core.List.{List, [], ◌∷◌, reverse_aux, Memᴰ}
use Rattle.laws.specs.Every.{cases, clash}
use Rattle.laws.specs.Lists.{All, all_at}
use Rattle.laws.specs.Members.{same, same-eq, same_refl, eq_or_not}
use Rattle.model.specs.Block.{Chunk, Spot, total, first}
use Rattle.model.specs.Choose.{Cut}
use Rattle.model.proofs.Choose.{same_spot}
use Rattle.model.specs.Placing.{Request}
use Rattle.table.specs.Layout.{Slot, slot_count, block_size, next_id, row, empty_row}
use Rattle.words.specs.Words.{encode, block_of}
use Rattle.words.specs.Soundness.{Used, Sound}
use Rattle.opening.specs.Looked.{TableWords}
use Rattle.sub_allocator.specs.Answers.{Given}
use Rattle.block.specs.Entries.{Entry, entry_at, Tells, Empty, Same, one_lowest}
use Rattle.block.specs.FreedOnWords.{FreedAt}
use Rattle.block.specs.HandedOnWords.{piece_entry, WholeAt, SplitAt}
use Rattle.block.specs.RenamedOnWords.{LabelledAt}
use Rattle.block.specs.ReplacedOnWords.{TableOf, cut_stands, used-cut}
use Rattle.block.specs.SlotsOnWords.{table-known}
use Rattle.block.specs.OneTable.{Like}

-- ---- the chunks of two tables of which the one tells what the other does

-- a chunk of a sound table has a byte
some_byte : {ws : List ℕ} {cs : List Chunk} → TableOf ws cs → (z : Spot) → Cut cs z → 1 ≤ z.chunk.size
some_byte h z cut = let i = cut_stands h z cut in omega (arith, h.sound.sizes _ i.used, i.size)

module _ {ws vs : List ℕ} (tells : (i : ℕ) → Used ws i → Tells vs i (entry_at ws i)) where
  -- the chunks that begin at one address are one
  same-chunk : (left : List Chunk) (c d : Chunk) (cs ds : List Chunk) → TableOf ws (reverse_aux left (c ∷ cs))
      → TableOf vs (reverse_aux left (d ∷ ds)) → c ≡ d
  same-chunk left c d cs ds h k =
      let i = cut_stands h (record { left = left; chunk = c; right = cs }) refl in
      let t = tells c.slot i.used in
      let y = used-cut k c.slot t.0 in
      let j = y.2 in
      let sizes : All (λ x. 1 ≤ x.size) (reverse_aux left (d ∷ ds)) =
      rw k.chunks at (table-known vs k.table k.sound).block.sizes in
      let begins : first y.0 ≡ total left = sym j.first ∙ ap (λ (e : Entry). e.first) t.1 ∙ i.first in
      let one : y.0 ≡ record { left = left; chunk = d; right = ds } = same_spot _ sizes y.0 _ y.1 refl begins in
      let id : c.id ≡ y.0.chunk.id = sym i.id ∙ sym (ap (λ (e : Entry). e.id) t.1) ∙ j.id in
      let size : c.size ≡ y.0.chunk.size = sym i.size ∙ sym (ap (λ (e : Entry). e.size) t.1) ∙ j.size in
      let kind : c.kind ≡ y.0.chunk.kind = sym i.kind ∙ sym (ap (λ (e : Entry). e.kind) t.1) ∙ j.kind in
      let label : c.label ≡ y.0.chunk.label = sym i.label ∙ sym (ap (λ (e : Entry). e.label) t.1) ∙ j.label in
      let slot : c.slot ≡ y.0.chunk.slot = sym j.slot in
      let same : c ≡ y.0.chunk =
      (λ n. record { slot = slot n; id = id n; size = size n; kind = kind n; label = label n }) in
      same ∙ ap (λ (z : Spot). z.chunk) one

  -- and so are all from there on
  same-chunks : (left cs ds : List Chunk) → TableOf ws (reverse_aux left cs) → TableOf vs (reverse_aux left ds)
      → total cs ≡ total ds → cs ≡ ds
  same-chunks left [] [] h k e = refl
  same-chunks left [] (d ∷ ds) h k e =
      absurd (omega (arith, some_byte k (record { left = left; chunk = d; right = ds }) refl))
  same-chunks left (c ∷ cs) [] h k e =
      absurd (omega (arith, some_byte h (record { left = left; chunk = c; right = cs }) refl))
  same-chunks left (c ∷ cs) (d ∷ ds) h k e =
      let q = same-chunk left c d cs ds h k in
      let after = subst (λ (x : Chunk). TableOf vs (reverse_aux left (x ∷ ds))) (sym q) k in
      let rest = same-chunks (c ∷ left) cs ds h after (omega (arith, e, ap (λ (x : Chunk). x.size) q)) in
      λ n. q n ∷ rest n

-- ---- the words

-- Two sound tables of as many slots, that say the same block size and next id, are equal if each used slot of the one tells
-- the same in the other.
pub entries_tell : (ws vs : List ℕ) → TableWords ws → Sound ws → TableWords vs → Sound vs → slot_count ws ≡ slot_count vs
    → block_size ws ≡ block_size vs → next_id ws ≡ next_id vs → ((i : ℕ) → Used ws i → Tells vs i (entry_at ws i)) → ws ≡ vs
unfolding block_of
entries_tell ws vs t s t' s' n b i tells =
    let k = table-known ws t s in
    let l = table-known vs t' s' in
    let before : TableOf ws (block_of ws).chunks = record { table = t; sound = s; chunks = refl } in
    let after : TableOf vs (block_of vs).chunks = record { table = t'; sound = s'; chunks = refl } in
    let cs = same-chunks tells [] _ _ before after (k.block.whole ∙ b ∙ sym l.block.whole) in
    let same : block_of ws ≡ block_of vs = (λ j. record { size = b j; next = i j; slots = n j; chunks = cs j }) in
    sym k.words ∙ ap encode same ∙ l.words

-- a slot number is one of a list, or differs from each
member : (i : ℕ) (ks : List ℕ) → Memᴰ i ks ⊎ All (λ j. i ≢ j) ks
member i [] = inr tt
member i (k ∷ ks) =
    ⊎_elim (λ e. inl (Memᴰ.head e))
    (λ f. ⊎_elim (λ m. inl (Memᴰ.tail m)) (λ a. inr (f, a)) (member i ks)) (eq_or_not i k)

module _ {ws vs us : List ℕ} (a : Like ws vs) (b : Like ws us) where
  both-tell : {i : ℕ} {e : Entry} → Tells vs i e → Tells us i e → Used vs i → Tells us i (entry_at vs i)
  both-tell p q u = (q.0, q.1 ∙ sym p.1)

  both-same : {i : ℕ} → Same ws vs i → Same ws us i → Used vs i → Tells us i (entry_at vs i)
  both-same {i} p q u =
      let l : Slot ws i = rw a.slots at u.0 in
      ⊎_elim (λ t. absurd (u.1 (p.empty (l, same-eq _ _ t)).1))
      (λ f.
      let w : Used ws i = (l, λ z. clash (ap (λ (x : List ℕ). same x empty_row) z ∙ same_refl empty_row) f) in
      both-tell (p.used w) (q.used w) u)
      (cases (same (row ws i) empty_row))

  alike : next_id vs ≡ next_id us → ((i : ℕ) → Used vs i → Tells us i (entry_at vs i)) → vs ≡ us
  alike e tells =
      entries_tell vs us a.table a.sound b.table b.sound (a.slots ∙ sym b.slots) (a.size ∙ sym b.size) e
      tells

  -- A table where a chunk was handed out whole is the only one so,
  pub one-whole : (r : Request) (k : ℕ) (g : Given) → WholeAt r ws vs k g → WholeAt r ws us k g → vs ≡ us
  one-whole r k g p q =
      alike (p.next ∙ sym q.next)
      (λ i.
      ⊎_elim (λ (e : i ≡ k). rw e (both-tell p.chunk q.chunk)) (λ f. both-same (p.others i f) (q.others i f))
      (eq_or_not i k))

  -- one where it was split,
  pub one_split : (r : Request) (k : ℕ) (g : Given) → SplitAt r ws vs k g → SplitAt r ws us k g → vs ≡ us
  one_split r k g p q =
      let s = one_lowest ws q.slot p.slot q.lowest p.lowest in
      let piece = subst (λ (j : ℕ). Tells us j (piece_entry r ws k g.offset)) s q.piece in
      alike (p.next ∙ sym q.next)
      (λ i.
      ⊎_elim (λ (e : i ≡ k). rw e (both-tell p.remainder q.remainder))
      (λ f.
      ⊎_elim (λ (e : i ≡ p.slot). rw e (both-tell p.piece piece))
      (λ m. both-same (p.others i f m) (q.others i f (λ e. m (e ∙ s))))
      (eq_or_not i p.slot))
      (eq_or_not i k))

  -- one where a chunk was given back,
  pub one-freed : (k size : ℕ) (merged : List ℕ) → FreedAt ws vs k size merged → FreedAt ws us k size merged → vs ≡ us
  one-freed k size merged p q =
      alike (p.next ∙ sym q.next)
      (λ i.
      ⊎_elim (λ (e : i ≡ k). rw e (both-tell p.chunk q.chunk))
      (λ f.
      ⊎_elim (λ m u. absurd (u.1 (all_at (Empty vs) merged p.zeroed i m).1))
      (λ n. both-same (p.others i f n) (q.others i f n))
      (member i merged))
      (eq_or_not i k))

  -- and one where a chunk was renamed.
  pub one-labelled : (k label : ℕ) → LabelledAt ws vs k label → LabelledAt ws us k label → vs ≡ us
  one-labelled k label p q =
      alike (p.next ∙ sym q.next)
      (λ i.
      ⊎_elim (λ (e : i ≡ k). rw e (both-tell p.chunk q.chunk)) (λ f. both-same (p.others i f) (q.others i f))
      (eq_or_not i k))
