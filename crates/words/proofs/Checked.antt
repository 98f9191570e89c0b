-- That the check's tests pass exactly where a table is sound. Assumes nothing.
use Rattle.std.specs.Prelude.{ℕ, ◌-◌, ◌+◌, ◌≤◌, ◌<◌, true, false, not, ◌≢◌, ◌⊎◌, ◌↔◌, ◌≡◌, refl, eqb, length, get_or}
use Rattle.std.proofs.Common.{arith, inl, inr, ⊎_elim, sym, ap, subst, ◌∙◌, eqb-true, eq-eqb, ne_eqb, leb-true, le-leb}
use mathlib.Core.List.{List, [], ◌∷◌, Memᴰ}
use Rattle.std.proofs.lemmas.List.{length-map}
use Rattle.laws.specs.Counting.{count, count-has, counts-full, counts-cover, has-element, distinct-pairs}
use Rattle.laws.specs.Every.{pass, none, more, two, cases, together}
use Rattle.laws.specs.Lists.{All, Pairwise, Head, Linked as Neighbours, head_of, all_of, all_map, all_zip, all_at, pair_at}
use Rattle.laws.specs.Members.{has, has_other, same, same-eq, same_refl}
use Rattle.model.specs.Block.{Chunk, Block, total}
use Rattle.model.specs.Soundness.{DifferentIds, NotBothFree}
use Rattle.table.specs.Layout.{slot_count, is_table, Slot, block_size, next_id, first_slot, id_at, size_at, first_byte_at, kind_at, label_at, next_at, previous_at, empty_row}
use Rattle.words.specs.Words.{chunks_of, block_of, slots_of, table, sound, decode}
use Rattle.words.specs.Soundness.{Used, Follow, Sound}
use Rattle.words.specs.Checks.{links_ok, up_to, kind_ok, step_ok, walk_ok, walked, empty_below, checked}
use Rattle.words.specs.Linked.{Linked}
use Rattle.words.proofs.Linked.{row_at-none}
use Rattle.words.proofs.Rules.{when}
use Rattle.words.specs.Written.{Known}
use Rattle.words.proofs.Written.{known, decode-block, decode-table}
use Rattle.words.proofs.Keeping.{record-sound}
use Rattle.words.specs.EmptySlots.{is_empty, not_empty, found_empty, empty_found}
use Rattle.words.specs.Passed.{Good, Passed}
use Rattle.words.proofs.Passed.{whole-passed}

-- ---- the slots that a walk visits

module _ (ws : List ℕ) (p : Passed ws 0 0 1 [] (first_slot ws) (chunks_of ws)) where
  visited-good : (k : ℕ) → has k (slots_of (chunks_of ws)) ≡ true → Good ws k
  visited-good k h = all_at (Good ws) (slots_of (chunks_of ws)) p.good k ((has-element k (slots_of (chunks_of ws))).0 h)

  visited-count : count (λ k. has k (slots_of (chunks_of ws))) (slot_count ws) ≡ length (chunks_of ws)
  visited-count =
      let vs : List ℕ = slots_of (chunks_of ws) in
      count-has vs (slot_count ws) ((distinct-pairs vs).1 p.once) (all_map (λ v (g : Good ws v). g.slot) vs p.good)
      ∙ length-map (chunks_of ws) (λ (c : Chunk). c.slot)

-- ---- the tests pass, so the table is sound

-- a slot with an id is used
good_used : (ws : List ℕ) (k : ℕ) → Good ws k → Used ws k
good_used ws k g =
    let i : 1 ≤ id_at ws k = g.id.0 in
    (g.slot, λ e. let z : id_at ws k ≡ 0 = ap (λ (l : List ℕ). get_or l 0 0) e in omega arith)

module _ (ws : List ℕ) (p : Passed ws 0 0 1 [] (first_slot ws) (chunks_of ws))
    (e : empty_below ws (slot_count ws) (slot_count ws - length (chunks_of ws)) ≡ true) where
  -- By their number, the slots visited and the empty ones are all.
  visited-or-empty : (k : ℕ) → Slot ws k → (has k (slots_of (chunks_of ws)) ≡ true) ⊎ (is_empty ws k ≡ true)
  visited-or-empty k s =
      let vs : List ℕ = slots_of (chunks_of ws) in
      let empty : slot_count ws - length (chunks_of ws) ≤ count (is_empty ws) (slot_count ws) =
      found_empty ws (slot_count ws) _ e in
      counts-full (λ k. has k vs) (is_empty ws) (slot_count ws)
      (λ j low high h. not_empty ws j (visited-good ws p j h).id.0) (omega (arith, visited-count ws p))
      k s.0 s.1

  used-visited : (k : ℕ) → Used ws k → Memᴰ k (slots_of (chunks_of ws))
  used-visited k u =
      ⊎_elim (has-element k (slots_of (chunks_of ws))).0 (λ h. absurd (u.1 (same-eq _ _ h))) (visited-or-empty k u.0)

  used-good : (k : ℕ) → Used ws k → Good ws k
  used-good k u = all_at (Good ws) (slots_of (chunks_of ws)) p.good k (used-visited k u)

  one-id : (j k : ℕ) → Used ws j → Used ws k → id_at ws j ≡ id_at ws k → j ≡ k
  one-id j k u w x =
      ⊎_elim (λ q. q) (⊎_elim (λ f. absurd (f x)) (λ f. absurd (f (sym x))))
      (pair_at (λ j k. id_at ws j ≢ id_at ws k) (slots_of (chunks_of ws)) p.apart j k (used-visited j u)
      (used-visited k w))

-- Words that pass the check keep the rules of a table, one by one.
pub checked-record : (ws : List ℕ) → checked ws ≡ true → Sound ws
unfolding checked walked
checked-record ws c =
    let p : Passed ws 0 0 1 [] (first_slot ws) (chunks_of ws) = whole-passed ws (pass _ 0 (pass _ 3 c)) in
    let e : empty_below ws (slot_count ws) (slot_count ws - length (chunks_of ws)) ≡ true = pass _ 4 c in
    let whole : total (chunks_of ws) ≡ block_size ws = eqb-true _ _ (pass _ 1 (pass _ 3 c)) in
    let end : 0 + total (chunks_of ws) ≡ block_size ws = omega arith in
    record {
      size = (leb-true _ _ (pass _ 0 c), leb-true _ _ (pass _ 1 c));
      next = leb-true _ _ (pass _ 2 c);
      distinct = one-id ws p e;
      ids = λ k u. (used-good ws p e k u).id;
      sizes = λ k u. (used-good ws p e k u).size;
      kinds = λ k u. (used-good ws p e k u).kind;
      labels = λ k u. (used-good ws p e k u).label;
      walk = slots_of (chunks_of ws);
      links = p.links;
      once = p.once;
      visited = used-visited ws p e;
      used = all_map (good_used ws) (slots_of (chunks_of ws)) p.good;
      follow = subst (λ (x : ℕ). Follow ws 0 (slots_of (chunks_of ws)) x) end p.follow;
      neighbours = p.neighbours;
      allocated = sym (eqb-true _ _ (pass _ 2 (pass _ 3 c))) ∙ sym p.lives;
    }

-- ---- the table is sound, so the tests pass

-- Chunks that the words hold one after the other, and that keep the rules, are walked with no test failing.
links_pass : (ws : List ℕ) (prev k first before : ℕ) (seen : List ℕ) (cs : List Chunk) → Linked ws prev k first cs →
    All (λ c. (1 ≤ c.id) × (c.id < next_id ws)) cs → All (λ c. 1 ≤ c.size) cs → All (λ c. c.kind ≤ 2) cs →
    All (λ c. c.kind ≡ 0 → c.label ≡ 0) cs → All (λ c. (1 ≤ c.slot) × (c.slot ≤ slot_count ws)) cs →
    All (λ c. has c.id seen ≡ false) cs → Pairwise DifferentIds cs →
    Head (λ c. before ≡ 0 → c.kind ≢ 0) cs → Neighbours NotBothFree cs → walk_ok ws prev first before seen k cs ≡ true
unfolding walk_ok step_ok links_ok up_to kind_ok
links_pass ws prev k first before seen [] h i z g l p u d b n = eq-eqb k 0 h
links_pass ws prev k first before seen (c ∷ cs) h i z g l p u d b n =
    let at-id : id_at ws k ≡ c.id = ap (λ (r : List ℕ). get_or r 0 0) h.1 in
    let at_size : size_at ws k ≡ c.size = ap (λ (r : List ℕ). get_or r 1 0) h.1 in
    let at_first : first_byte_at ws k ≡ first = ap (λ (r : List ℕ). get_or r 2 0) h.1 in
    let at-kind : kind_at ws k ≡ c.kind = ap (λ (r : List ℕ). get_or r 3 0) h.1 in
    let at_label : label_at ws k ≡ c.label = ap (λ (r : List ℕ). get_or r 4 0) h.1 in
    let at-previous : previous_at ws k ≡ prev = ap (λ (r : List ℕ). get_or r 6 0) h.1 in
    let unseen : All (λ (x : Chunk). has x.id (c.id ∷ seen) ≡ false) cs =
    all_zip (λ (x : Chunk) (f : c.id ≢ x.id) (e : has x.id seen ≡ false). has_other x.id c.id seen f ∙ e)
    cs d.0 u.1 in
    let rest : walk_ok ws k (first + c.size) c.kind (c.id ∷ seen) (next_at ws k) cs ≡ true =
    links_pass ws k (next_at ws k) (first + c.size) c.kind (c.id ∷ seen) cs
    h.2 i.1 z.1 g.1 l.1 p.1 unseen d.1 n.0 n.1 in
    let free : eqb (kind_at ws k) 0 ≡ true → c.kind ≡ 0 = (λ e. sym at-kind ∙ eqb-true _ _ e) in
    let step : step_ok ws prev first before seen k ≡ true =
    more _ _ (le-leb k (slot_count ws) (rw h.0 p.0.1))
    (more _ _ (two _ _ (eq-eqb _ _ at_first) (eq-eqb _ _ at-previous))
    (more _ _
    (two _ _ (le-leb 1 (id_at ws k) (omega (arith, i.0))) (le-leb (id_at ws k) (next_id ws - 1) (omega (arith, i.0))))
    (more _ _ (ap (λ (x : ℕ). not (has x seen)) at-id ∙ ap not u.0)
    (more _ _ (le-leb 1 (size_at ws k) (omega (arith, z.0)))
    (more _ _
    (more _ _ (le-leb (kind_at ws k) 2 (omega (arith, g.0)))
    (more _ _ ((when (eqb (kind_at ws k) 0) (not (eqb before 0))).1 (λ e. ap not (ne_eqb before 0 (λ x. b x (free e)))))
    (more _ _ ((when (eqb (kind_at ws k) 0) (eqb (label_at ws k) 0)).1 (λ e. eq-eqb _ _ (at_label ∙ l.0 (free e))))
    none)))
    none))))) in
    two _ _ step (rw (at_size, at-kind, at-id) rest)

-- Sound words pass the check.
pub sound-checked : (ws : List ℕ) → sound ws ≡ true → checked ws ≡ true
unfolding checked walked block_of has
sound-checked ws h =
    let w : Known ws = known ws h in
    let cs : List Chunk = chunks_of ws in
    let vs : List ℕ = slots_of cs in
    let steps : walk_ok ws 0 0 1 [] (first_slot ws) cs ≡ true =
    links_pass ws 0 (first_slot ws) 0 1 [] cs w.links w.block.ids w.block.sizes w.block.kinds
    w.block.labels w.block.places (all_of (λ (c : Chunk). has c.id [] ≡ false) cs (λ c m. refl))
    w.block.distinct (head_of {P = λ (c : Chunk). ◌≡◌ {A = ℕ} 1 0 → c.kind ≢ 0} (λ c e. absurd (omega arith)) cs)
    w.block.neighbours in
    let p : Passed ws 0 0 1 [] (first_slot ws) cs = whole-passed ws steps in
    let each : (k : ℕ) → 1 ≤ k → k ≤ slot_count ws → (has k vs ≡ true) ⊎ (is_empty ws k ≡ true) =
    (λ k low high.
    ⊎_elim inl
    (λ f. inr (ap (λ (l : List ℕ). same l empty_row) (w.rows k low high ∙ row_at-none 0 0 cs k f) ∙ same_refl empty_row))
    (cases (has k vs))) in
    let whole : slot_count ws ≤ count (λ k. has k vs) (slot_count ws) + count (is_empty ws) (slot_count ws) =
    counts-cover (λ k. has k vs) (is_empty ws) (slot_count ws) each in
    let zeros : (k : ℕ) → 1 ≤ k → k ≤ slot_count ws → id_at ws k ≡ 0 → is_empty ws k ≡ true =
    (λ k low high z. ⊎_elim (λ t. absurd (omega (arith, (visited-good ws p k t).id))) (λ t. t) (each k low high)) in
    more _ _ (le-leb _ _ w.block.size.0)
    (more _ _ (le-leb _ _ w.block.size.1)
    (more _ _ (le-leb _ _ w.block.next)
    (more _ _
    (more _ _ steps (more _ _ (eq-eqb _ _ w.block.whole) (more _ _ (eq-eqb _ _ (sym w.allocated)) none)))
    (more _ _ (empty_found ws (slot_count ws) (slot_count ws - length cs) zeros (omega (arith, visited-count ws p)))
    none))))

-- ---- when a table is sound

-- Words of a table are sound exactly where they keep each of its rules.
pub sound-exactly : (ws : List ℕ) → is_table ws ≡ true → sound ws ≡ true ↔ Sound ws
sound-exactly ws t = (λ h. checked-record ws (sound-checked ws h), λ h. record-sound ws t h)

-- So the check of a table answers whether it is sound.
pub checked-sound : (ws : List ℕ) → is_table ws ≡ true → checked ws ≡ sound ws
checked-sound ws t = together _ _ (λ c. record-sound ws t (checked-record ws c)) (sound-checked ws)

-- Words are read as a block exactly where they are a table's and keep its rules.
pub decode-exactly : (ws : List ℕ) → ((b : Block) × (decode ws ≡ table b)) ↔ ((is_table ws ≡ true) × Sound ws)
decode-exactly ws = (
  λ d. let t = decode-table ws d.0 d.1 in (t.0, (sound-exactly ws t.0).0 t.1),
  λ h. (block_of ws, decode-block ws h.0 (record-sound ws h.0 h.1)),
)
