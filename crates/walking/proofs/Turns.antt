-- One turn of the walk's loop: what stands before it, and what each way through it comes to. Assumes nothing.
use Rattle.std.proofs.Common.{◌≡◌, ℕ, ◌+◌, ◌-◌, ◌%◌, ◌^◌, ◌<◌, ◌≤◌, Bool, true, false, cond, eqb, List, [], ◌∷◌, length, sym, refl, ◌∙◌, mod-eq_of_lt, arith, eqb-true, le-leb, leb-true, eq-eqb, ne_eqb, ap, lt_of_not-le, Some, None}
use Rattle.std.proofs.lemmas.Bool.{lt-leb}
use Rattle.laws.specs.Every.{every, pass, fail, more, none, clash}
use Rattle.laws.specs.Tests.{either}
use Rattle.model.specs.Block.{live_size}
use Rattle.table.specs.Layout.{is_table, table_shape, slot_count, Slot, block_size, allocated_word, next_id, first_slot, id_at, size_at, first_byte_at, kind_at, next_at}
use Rattle.words.specs.Words.{chunk_at, chunks_of}
use Rattle.words.specs.Checks.{up_to, links_ok, kind_ok, step_ok, walked}
use Rattle.words.specs.Ids.{AllEnd, AllAtMost, AllZero, is_new, entered, ids_at}
use Rattle.walking.specs.declared.place.Place.{Place}
use Rattle.walking.specs.Answers.{at_start, live_of, walk_end, whole_walk}
use Rattle.words.specs.Walking.{Walking, steps_ok, start, unvisited, stop, too_long, go_on, done, past}
use Rattle.walking.proofs.Chains.{all_end, Chains, chains_start, chains-enter, new_id, within-entered}

-- the walk so far, with the slots that it met in the buckets
pub record Turn (ws t : List ℕ) (here : Place) : Type 0 where
  pub visited : List ℕ
  pub fuel : ℕ
  pub walking : Walking ws here.prev here.k here.first here.before here.sum fuel visited
  pub chains : Chains ws t visited
  pub within : AllAtMost (slot_count ws) t
  pub count : here.n ≡ length visited
  pub word : here.first < 2 ^ 64

-- A broken rule: the walk answers nothing.
pub stopped : (ws : List ℕ) → walked ws ≡ false → None ≡ whole_walk ws
unfolding whole_walk
stopped ws e = rw e refl

pub first-turn : (ws t : List ℕ) → length t ≡ 1024 → AllZero t → Turn ws t (at_start (first_slot ws))
first-turn ws t l z = record {
  visited = [];
  fuel = slot_count ws;
  walking = start ws;
  chains = chains_start ws t l z;
  within = λ i. omega (arith, z i);
  count = refl;
  word = omega arith;
}

pub is_slot : (ws : List ℕ) (k s : ℕ) (b : Bool) → s ≡ slot_count ws → b ≡ up_to s k → b ≡ true → Slot ws k
unfolding up_to
is_slot ws k s b e h t =
    let u : up_to s k ≡ true = sym h ∙ t in
    (leb-true 1 k (pass _ 0 u), rw (← e) (leb-true k s (pass _ 1 u)))

-- what a chunk that keeps the rules adds
adds : (ws : List ℕ) (before k live : ℕ) → live_of ws before k ≡ Some live → (kind_ok ws before k ≡ true) × (live ≡ live_size (chunk_at ws k))
unfolding live_of
adds ws before k live = go (kind_ok ws before k)
  where
    go : (b : Bool) → cond b (Some (cond (eqb (kind_at ws k) 0) 0 (size_at ws k))) None ≡ Some live → (b ≡ true) × (live ≡ live_size (chunk_at ws k))
    go true e = (refl, cc)
    go false e = let z : ◌≡◌ {A = ℕ} 0 1 = cc in absurd (omega arith)

no_bytes : (ws : List ℕ) (before k : ℕ) → live_of ws before k ≡ None → kind_ok ws before k ≡ false
unfolding live_of
no_bytes ws before k = go (kind_ok ws before k)
  where
    go : (b : Bool) → cond b (Some (cond (eqb (kind_at ws k) 0) 0 (size_at ws k))) None ≡ None → b ≡ false
    go true e = let z : ◌≡◌ {A = ℕ} 0 1 = cc in absurd (omega arith)
    go false e = refl

exact_end : (first size end : ℕ) → first < 2 ^ 64 → size < 2 ^ 64 → end ≡ (first + size) % 2 ^ 64 → first < end → end ≡ first + size
exact_end first size end f s e l = omega arith

module _ {ws t : List ℕ} {here : Place} (turn : Turn ws t here) where
  fits : is_table ws ≡ true → length turn.visited ≤ 512
  fits e = omega (arith, turn.walking.fuel, table_shape ws e)

  pub ending : is_table ws ≡ true → AllEnd t
  ending e = all_end ws t turn.visited turn.chains (fits e)

  pub bad-links : Slot ws here.k → links_ok ws here.prev here.first here.k ≡ false → None ≡ whole_walk ws
  unfolding step_ok
  bad-links s e = stopped ws (stop turn.walking s.0 (fail _ 1 e))

  pub bad-id : Slot ws here.k → up_to (next_id ws - 1) (id_at ws here.k) ≡ false → None ≡ whole_walk ws
  unfolding step_ok
  bad-id s e = stopped ws (stop turn.walking s.0 (fail _ 2 e))

  pub known-id : is_table ws ≡ true → Slot ws here.k → is_new ws t here.k ≡ false → None ≡ whole_walk ws
  unfolding step_ok
  known-id i s e = stopped ws (stop turn.walking s.0 (fail _ 3 (sym (new_id ws t turn.visited here.k turn.chains (fits i)) ∙ e)))

  -- The end does not rise: the size is 0, or the sum passes what a word holds, and so the block.
  pub bad-size : (end : ℕ) → block_size ws < 2 ^ 64 → Slot ws here.k → end ≡ (here.first + size_at ws here.k) % 2 ^ 64 → end ≤ here.first → None ≡ whole_walk ws
  unfolding step_ok
  bad-size end b s e l =
      stopped ws
      (either _ (here.first + size_at ws here.k) (2 ^ 64)
      (λ h. stop turn.walking s.0 (fail _ 4 (lt-leb 1 (size_at ws here.k) (omega (arith, mod-eq_of_lt h)))))
      (λ h. too_long turn.walking s.0 (omega arith)))

  pub bad_kind : Slot ws here.k → live_of ws here.before here.k ≡ None → None ≡ whole_walk ws
  unfolding step_ok
  bad_kind s e = stopped ws (stop turn.walking s.0 (fail _ 5 (no_bytes ws here.before here.k e)))

  -- what a turn that passed every test has tested; the end rose, and did not wrap
  pub record Passed (end live : ℕ) : Type 0 where
    pub table : is_table ws ≡ true
    pub word : size_at ws here.k < 2 ^ 64
    pub slot : Slot ws here.k
    pub links : links_ok ws here.prev here.first here.k ≡ true
    pub id : up_to (next_id ws - 1) (id_at ws here.k) ≡ true
    pub new : is_new ws t here.k ≡ true
    pub wraps : end ≡ (here.first + size_at ws here.k) % 2 ^ 64
    pub rises : here.first < end
    pub adds : live_of ws here.before here.k ≡ Some live

  module _ {end live : ℕ} (p : Passed end live) where
    pub exactly : end ≡ here.first + size_at ws here.k
    exactly = exact_end here.first (size_at ws here.k) end turn.word p.word p.wraps p.rises

    step : step_ok ws here.prev here.first here.before (ids_at ws turn.visited) here.k ≡ true
    unfolding step_ok
    step =
        more _ _ (le-leb here.k (slot_count ws) p.slot.1)
        (more _ _ p.links
        (more _ _ p.id
        (more _ _ (sym (new_id ws t turn.visited here.k turn.chains (fits p.table)) ∙ p.new)
        (more _ _ (le-leb 1 (size_at ws here.k) (omega (arith, exactly, p.rises)))
        (more _ _ (adds ws here.before here.k live p.adds).0 none)))))

    begins : first_byte_at ws here.k ≡ here.first
    unfolding links_ok
    begins = eqb-true (first_byte_at ws here.k) here.first (pass _ 0 p.links)

    -- The walk goes on at the next slot.
    pub next-turn : Turn ws (entered ws t here.k) (record { prev = here.k; k = next_at ws here.k; first = end; before = kind_at ws here.k; sum = here.sum + live; n = here.n + 1 })
    next-turn =
        rw (exactly, (adds ws here.before here.k live p.adds).1) (record {
          visited = here.k ∷ turn.visited;
          fuel = turn.fuel - 1;
          walking = go_on turn.walking p.slot step;
          chains = chains-enter ws t turn.visited here.k p.slot.0 (omega (arith, p.slot, table_shape ws p.table)) turn.chains.long turn.chains (unvisited turn.walking begins);
          within = within-entered ws t (slot_count ws) here.k turn.within p.slot.1;
          count = omega (arith, turn.count);
          word = omega (arith, exactly, p.wraps);
        })

    -- No sum passes what a word holds.
    pub live-fits : here.sum + live ≤ end
    live-fits = omega (arith, next-turn.walking.part)

    pub count_fits : here.n ≤ 512
    count_fits = omega (arith, turn.count, fits p.table)

  -- The walk has ended: its answer is that of the whole.
  pub last_turn : (s : ℕ) → s ≡ slot_count ws → up_to s here.k ≡ false → walk_end ws here ≡ whole_walk ws
  unfolding up_to walk_end whole_walk walked
  last_turn s e h =
      either _ here.k 1
      (λ l.
      let z : here.k ≡ 0 = omega arith in
      let d = done turn.walking z in
      let n : here.n ≡ length (chunks_of ws) = turn.count ∙ d.3 in
      let t : eqb here.k 0 ≡ steps_ok ws = eq-eqb here.k 0 z ∙ sym d.0 in
      λ i. cond (every (t i ∷ eqb (d.1 i) (block_size ws) ∷ eqb (d.2 i) (allocated_word ws) ∷ [])) (Some (n i)) None)
      (λ l.
      let tests : List Bool = eqb here.k 0 ∷ eqb here.first (block_size ws) ∷ eqb here.sum (allocated_word ws) ∷ [] in
      let outside : Slot ws here.k → ⊥ =
      λ p. clash (more _ _ (le-leb 1 here.k p.0) (more _ _ (le-leb here.k s (rw e p.1)) none)) h in
      ap (λ (t : Bool). cond t (Some here.n) None) (fail tests 0 (ne_eqb here.k 0 (λ (z : here.k ≡ 0). omega arith)))
      ∙ stopped ws (past turn.walking (lt_of_not-le (λ u. outside (l, u)))))
