-- The lines of calls on words are those of the block that they hold. Assumes nothing.
use Rattle.std.specs.Prelude.{ℕ, List, [], ◌∷◌, ◌≡◌, refl}
use Rattle.std.proofs.Common.{ap, ◌∙◌}
use Rattle.laws.specs.Reply.{Reply, accepted, refused}
use Rattle.model.specs.Block.{Block, allocated}
use Rattle.model.specs.GivingBack.{release, rename}
use Rattle.model.proofs.Kept.{place-keeps, release-keeps, rename-keeps}
use Rattle.model.specs.Lines as model
use Rattle.model.specs.Lines.{Line, line, line_of, lines}
use Rattle.model.specs.Placing.{Placed, place}
use Rattle.model.specs.Runs.{Call, State, step, begin}
use Rattle.model.specs.Runs.Call.{allocate, free, rename_to}
use Rattle.model.specs.Soundness.{Sound as SoundBlock}
use Rattle.table.specs.Layout.{slot_count}
use Rattle.words.specs.Words.{encode}
use Rattle.words.proofs.Written.{decode-encode}
use Rattle.opening.specs.Calls.{leaves}
use Rattle.opening.specs.Creation.{new_on}
use Rattle.giving_back.specs.GivingBack.{changes}
use Rattle.placing.specs.Placing.{given}
use Rattle.opening.specs.Questions.{allocated_on}
use Rattle.block.specs.Runs.{told, placed_line, changed_line, step_on, line_on, lines_on, WordsState, begin_on}
use Rattle.block.specs.RunsWritten.{written}
use Rattle.block.proofs.RunsWritten.{allocate-written, free-written, rename-written, step_kept, step-written, begin-written}

-- the bytes told of the words of a sound block
told-written : (b : Block) → SoundBlock b → told (allocated_on (encode b)) ≡ allocated b.chunks
unfolding allocated_on
told-written b h = rw (decode-encode b h)

module _ (b : Block) (h : SoundBlock b) where
  -- a call that changes the block, and keeps it sound
  changed-written : (a : Reply Block) → ((c : Block) → a ≡ accepted c → SoundBlock c)
      → changed_line (changes (encode b) a) ≡ model.changed_line b a
  changed-written (accepted c) k = ap (line 0 0 0) (told-written c (k c refl))
  changed-written (refused n) k = ap (line n 0 0) (told-written b h)

  placed-written : (a : Reply Placed) → ((p : Placed) → a ≡ accepted p → SoundBlock p.block)
      → placed_line (leaves given (λ p. p.block) (encode b) a) ≡ model.placed_line b a
  placed-written (accepted p) k = ap (line 0 p.offset p.id) (told-written p.block (k p refl))
  placed-written (refused n) k = ap (line n 0 0) (told-written b h)

  -- The line of a call on the words of a sound block is that of the block.
  line-written : (c : Call) → line_on c (encode b) ≡ line_of c b
  line-written (allocate r) = ap placed_line (allocate-written b h r) ∙ placed-written (place r b) (place-keeps b h r)
  line-written (free id) = ap changed_line (free-written b h id) ∙ changed-written (release id b) (release-keeps b h id)
  line-written (rename_to id label) =
      ap changed_line (rename-written b h id label) ∙ changed-written (rename id label b) (rename-keeps b h id label)

-- So are those of many.
pub lines-written : (cs : List Call) (s : State) → SoundBlock s.block → lines_on cs (written s) ≡ lines cs s
unfolding lines_on lines
lines-written [] s h = refl
lines-written (c ∷ cs) s h =
    ap (λ (l : Line). l ∷ lines_on cs (step_on c (written s))) (line-written s.block h c)
    ∙ ap (λ (u : WordsState). line_of c s.block ∷ lines_on cs u) (step-written s h c)
    ∙ ap (λ (ls : List Line). line_of c s.block ∷ ls) (lines-written cs (step c s) (step_kept s h c).sound)

-- So after creation: what holds of the block's lines, as of those that the Rust was seen to answer, holds on words.
pub lines-begin : (ws : List ℕ) (size : ℕ) → (new_on ws size).0 ≡ accepted tt → (cs : List Call)
    → lines_on cs (begin_on ws size) ≡ lines cs (begin size (slot_count ws))
lines-begin ws size ok cs =
    let e = begin-written ws size ok in
    ap (lines_on cs) e.0 ∙ lines-written cs (begin size (slot_count ws)) e.1
