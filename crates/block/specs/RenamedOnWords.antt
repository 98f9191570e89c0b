-- What an accepted rename leaves in the slots of a table. Assumes nothing.
use Rattle.std.specs.Prelude.{ℕ, List, ◌≢◌, ◌≡◌, refl}
use Rattle.std.proofs.Common.{sym, subst, ◌∙◌}
use Rattle.laws.specs.Reply.{accepted}
use Rattle.model.proofs.Effects.{renamed}
use Rattle.model.specs.GivingBack.{relabel, rename}
use Rattle.model.proofs.Kept.{rename-keeps}
use Rattle.model.specs.Soundness.{Sound as SoundBlock}
use Rattle.table.specs.Layout.{next_id, id_at, size_at, first_byte_at, kind_at}
use Rattle.words.specs.Words.{encode, block_of}
use Rattle.words.proofs.Rows.{encode-head}
use Rattle.opening.proofs.Outcomes.{outcome-accepted}
use Rattle.giving_back.specs.GivingBack.{rename_on}
use Rattle.block.specs.Entries.{Entry, Tells, Same}
use Rattle.block.specs.Refused.{LiveSlot}
use Rattle.block.specs.ReplacedOnWords.{in_place, one-tells, one-others}
use Rattle.block.specs.SlotsOnWords.{Standing, table-known, spot-stands}

-- the chunk in slot k has the label, and is otherwise as it was
abbrev pub labelled_entry : List ℕ → ℕ → ℕ → Entry
labelled_entry ws k label = record {
  id = id_at ws k;
  size = size_at ws k;
  first = first_byte_at ws k;
  kind = kind_at ws k;
  label = label;
}

pub record LabelledAt (ws ws' : List ℕ) (k label : ℕ) : Type 0 where
  pub chunk : Tells ws' k (labelled_entry ws k label)
  -- no id is spent
  pub next : next_id ws' ≡ next_id ws
  -- every other slot is as it was
  pub others : (i : ℕ) → i ≢ k → Same ws ws' i

-- A rename gives the live chunk with the id, in some slot k, its new label.
pub rename-label : (ws : List ℕ) (id label : ℕ) → (rename_on ws id label).0 ≡ accepted tt → (k : ℕ) → LiveSlot ws id k
    → LabelledAt ws (rename_on ws id label).1 k label
unfolding rename_on block_of
rename-label ws id label e k l =
    let a = outcome-accepted (λ b. tt) (λ b. b) (rename id label) ws tt e in
    let t = a.0 in
    let s = a.1 in
    let b = block_of ws in
    let x = a.2.0 in
    let after =
    renamed id b (λ y. SoundBlock y → LabelledAt ws (encode y) k label) label x a.2.1
    (λ z m w.
    let here = spot-stands ws t s z m.cut in
    let one : z.chunk.slot ≡ k = s.distinct _ k here.used l.0 (here.id ∙ m.named ∙ sym l.1) in
    let i = subst (Standing ws z) one here in
    let d = relabel label z.chunk in
    let told = one-tells t s z i d _ w refl refl refl refl in
    let same : labelled_entry ws k label ≡ in_place ws k d =
    (λ j. record { id = i.id j; size = size_at ws k; first = first_byte_at ws k; kind = i.kind j; label = label }) in
    record {
      chunk = (told.0, told.1 ∙ sym same);
      next = (encode-head _).2;
      others = one-others t s z i d _ w refl refl refl refl;
    }) in
    subst (λ (v : List ℕ). LabelledAt ws v k label) (sym a.2.3)
    (after (rename-keeps b (table-known ws t s).block id label x a.2.1))
