-- Runs on the words of a sound table are those of the block that they hold, and others change nothing. Theorems. Assumes nothing.
use Rattle.std.specs.Prelude.{ℕ, List, [], ◌∷◌, ◌≡◌, refl, length}
use Rattle.std.proofs.Common.{sym, ap, ◌∙◌}
use Rattle.laws.specs.Reply.{Reply, accepted, refused}
use Rattle.model.specs.Block.{Block}
use Rattle.model.specs.GivingBack.{release, rename}
use Rattle.model.proofs.Heads.{place-heads, release-heads, rename-heads}
use Rattle.model.proofs.Kept.{place-keeps, release-keeps, rename-keeps}
use Rattle.model.specs.Placing.{Request, Placed, place}
use Rattle.model.specs.Runs.{Call, Range, State, step, run, begin, after_place}
use Rattle.model.specs.Runs as model
use Rattle.model.specs.Runs.Call.{allocate, free, rename_to}
use Rattle.model.specs.Soundness.{Sound as SoundBlock}
use Rattle.table.specs.Layout.{word_count, slot_count}
use Rattle.words.specs.Words.{encode, Read, not_a_table, unsound, table, decode}
use Rattle.words.specs.Soundness.{Sound}
use Rattle.words.proofs.Checked.{decode-exactly}
use Rattle.words.proofs.Rows.{encode-length}
use Rattle.words.proofs.Written.{decode-encode, encode-decode, decode-sound}
use Rattle.opening.specs.Look.{on_table}
use Rattle.opening.specs.Calls.{leaves}
use Rattle.opening.specs.Creation.{new_on}
use Rattle.placing.specs.Placing.{given, allocate_on}
use Rattle.giving_back.specs.GivingBack.{changes, free_on, rename_on}
use Rattle.opening.specs.Looked.{TableWords, table_exactly}
use Rattle.opening.proofs.NewBlock.{new-read}
use Rattle.block.specs.Runs.{WordsState, after_allocate, after_free, after_rename, step_on, run_on, begin_on}
use Rattle.block.specs.RunsWritten.{written, KeptBlock}

-- ---- a call on the words that a sound block is written as

module _ (b : Block) (h : SoundBlock b) where
  -- It answers as the block does, and leaves the words of the block that the block's call leaves.
  pub allocate-written : (r : Request)
      → allocate_on (encode b) r ≡ leaves given (λ p. p.block) (encode b) (place r b)
  unfolding allocate_on
  allocate-written r = rw (decode-encode b h)

  pub free-written : (id : ℕ) → free_on (encode b) id ≡ changes (encode b) (release id b)
  unfolding free_on
  free-written id = rw (decode-encode b h)

  pub rename-written : (id label : ℕ) → rename_on (encode b) id label ≡ changes (encode b) (rename id label b)
  unfolding rename_on
  rename-written id label = rw (decode-encode b h)

module _ (s : State) (h : SoundBlock s.block) where
  same : KeptBlock s.block s.block
  same = record { sound = h; size = refl; slots = refl }

  -- A call keeps it so.
  pub step_kept : (c : Call) → KeptBlock s.block (step c s).block
  step_kept (allocate r) = on (place r s.block) refl
    where
      on : (a : Reply Placed) → place r s.block ≡ a → KeptBlock s.block (after_place r s a).block
      on (refused n) e = same
      on (accepted p) e =
          let k = place-heads r s.block h p e in
          record { sound = place-keeps s.block h r p e; size = k.size; slots = k.slots }
  step_kept (free id) = on (release id s.block) refl
    where
      on : (a : Reply Block) → release id s.block ≡ a → KeptBlock s.block (model.after_free id s a).block
      on (refused n) e = same
      on (accepted b) e =
          let k = release-heads id s.block b e in
          record { sound = release-keeps s.block h id b e; size = k.size; slots = k.slots }
  step_kept (rename_to id label) = on (rename id label s.block) refl
    where
      on : (a : Reply Block) → rename id label s.block ≡ a → KeptBlock s.block (model.after_rename s a).block
      on (refused n) e = same
      on (accepted b) e =
          let k = rename-heads id label s.block b e in
          record { sound = rename-keeps s.block h id label b e; size = k.size; slots = k.slots }

  -- A call on the words of a sound block leaves the words of the block after it, and the same ranges.
  pub step-written : (c : Call) → step_on c (written s) ≡ written (step c s)
  step-written (allocate r) =
      ap (after_allocate r s.live) (allocate-written s.block h r) ∙ on (place r s.block)
    where
      on : (a : Reply Placed)
          → after_allocate r s.live (leaves given (λ p. p.block) (encode s.block) a) ≡ written (after_place r s a)
      on (refused n) = refl
      on (accepted p) = refl
  step-written (free id) = ap (after_free id s.live) (free-written s.block h id) ∙ on (release id s.block)
    where
      on : (a : Reply Block) → after_free id s.live (changes (encode s.block) a) ≡ written (model.after_free id s a)
      on (refused n) = refl
      on (accepted b) = refl
  step-written (rename_to id label) =
      ap (after_rename s.live) (rename-written s.block h id label) ∙ on (rename id label s.block)
    where
      on : (a : Reply Block) → after_rename s.live (changes (encode s.block) a) ≡ written (model.after_rename s a)
      on (refused n) = refl
      on (accepted b) = refl

-- So do many.
pub run-written : (cs : List Call) (s : State) → SoundBlock s.block → run_on cs (written s) ≡ written (run cs s)
run-written [] s h = refl
run-written (c ∷ cs) s h =
    ap (run_on cs) (step-written s h c) ∙ run-written cs (step c s) (step_kept s h c).sound

-- They keep the block sound, its size and its slots.
pub run-kept : (cs : List Call) (s : State) → SoundBlock s.block → KeptBlock s.block (run cs s).block
run-kept [] s h = same s h
run-kept (c ∷ cs) s h =
    let k = step_kept s h c in
    let l = run-kept cs (step c s) k.sound in
    record { sound = l.sound; size = l.size ∙ k.size; slots = l.slots ∙ k.slots }

-- the state is told by its words and its ranges
same-state : (live : List Range) {ws vs : List ℕ} → ws ≡ vs
    → ◌≡◌ {A = WordsState} record { words = ws; live = live } record { words = vs; live = live }
same-state live e = ap (λ (ws : List ℕ). record { words = ws; live = live }) e

-- An accepted creation leaves the words of a fresh block, which is sound.
pub begin-written : (ws : List ℕ) (size : ℕ) → (new_on ws size).0 ≡ accepted tt
    → (begin_on ws size ≡ written (begin size (slot_count ws))) × SoundBlock (begin size (slot_count ws)).block
begin-written ws size ok =
    let b : Block = (begin size (slot_count ws)).block in
    let r = new-read ws size ok in
    (same-state [] (sym (encode-decode (new_on ws size).1 b r)), decode-sound (new_on ws size).1 b r)

-- ---- any words

-- the words are a sound block's, or no call changes them
data Start (s : WordsState) : Type 0 where
  holding : (b : Block) → SoundBlock b → s ≡ written record { block = b; live = s.live } → Start s
  refusing : ((c : Call) → step_on c s ≡ s) → Start s

step-refused : (s : WordsState) (n : ℕ) → ((A : Type 0) (f : Block → Reply A) → on_table f (decode s.words) ≡ refused n)
    → (c : Call) → step_on c s ≡ s
unfolding allocate_on free_on rename_on
step-refused s n e (allocate r) = rw (e _ (place r))
step-refused s n e (free id) = rw (e _ (release id))
step-refused s n e (rename_to id label) = rw (e _ (rename id label))

start : (s : WordsState) → Start s
start s = on (decode s.words) refl
  where
    on : (d : Read) → decode s.words ≡ d → Start s
    on not_a_table e = refusing (step-refused s 1 (λ A f. rw e))
    on unsound e = refusing (step-refused s 2 (λ A f. rw e))
    on (table b) e =
        holding b (decode-sound s.words b e) (same-state s.live (sym (encode-decode s.words b e)))

run-refused : (cs : List Call) (s : WordsState) → ((c : Call) → step_on c s ≡ s) → run_on cs s ≡ s
run-refused [] s f = refl
run-refused (c ∷ cs) s f = ap (run_on cs) (f c) ∙ run-refused cs s f

-- Words that are no table's, or not sound, are kept by any calls, and nothing is handed out or given back.
pub run-unsound : (cs : List Call) (s : WordsState) → (TableWords s.words → Sound s.words → ⊥) → run_on cs s ≡ s
run-unsound cs s n = on (start s)
  where
    on : Start s → run_on cs s ≡ s
    on (refusing f) = run-refused cs s f
    on (holding b h e) =
        let d = ap (λ (u : WordsState). decode u.words) e ∙ decode-encode b h in
        let k = (decode-exactly s.words).0 (b, d) in
        absurd (n ((table_exactly s.words).0 k.0) k.1)

-- Whatever words it begins with, a run keeps their number.
pub run_length : (cs : List Call) (s : WordsState) → length (run_on cs s).words ≡ length s.words
run_length cs s = on (start s)
  where
    on : Start s → length (run_on cs s).words ≡ length s.words
    on (refusing f) = ap (λ (u : WordsState). length u.words) (run-refused cs s f)
    on (holding b h e) =
        let t : State = record { block = b; live = s.live } in
        ap (λ (u : WordsState). length (run_on cs u).words) e
        ∙ ap (λ (u : WordsState). length u.words) (run-written cs t h)
        ∙ encode-length (run cs t).block ∙ ap word_count (run-kept cs t h).slots ∙ sym (encode-length b)
        ∙ sym (ap (λ (u : WordsState). length u.words) e)

-- And it keeps sound words of a table sound.
pub run_sound : (cs : List Call) (s : WordsState) → TableWords s.words → Sound s.words
    → Sound (run_on cs s).words
run_sound cs s t h =
    let d = (decode-exactly s.words).1 ((table_exactly s.words).1 t, h) in
    let b : Block = d.0 in
    let e = same-state s.live (encode-decode s.words b d.1) in
    let u : State = record { block = b; live = s.live } in
    let k = decode-sound s.words b d.1 in
    let after : Block = (run cs u).block in
    let r = decode-encode after (run-kept cs u k).sound in
    rw (← e) (rw (run-written cs u k) ((decode-exactly (encode after)).0 (after, r)).1)
