-- A refused call on a dedicated block leaves the record's words as they were. Assumes nothing.
use Rattle.std.specs.Prelude.{ℕ, List, ◌≡◌, length}
use Rattle.laws.specs.Reply.{refused}
use Rattle.model.specs.Placing.{Request}
use Rattle.dedicated.specs.Dedicated.{allocate_in, free_in, rename_in}
use Rattle.dedicated.proofs.Exactly.{allocate-refused, free-refused, rename-refused}
use Rattle.dedicated.specs.RecordWords.{record_of}
use Rattle.dedicated.specs.SameWords.{same-words}
use Rattle.dedicated_changes_calls.specs.DedicatedChanges.{record_out, placed_record_out}

module _ (ws : List ℕ) (three : length ws ≡ 3) {n : ℕ} where
  pub allocate-kept : (r : Request) → (allocate_in (record_of ws) r).0 ≡ refused n
      → placed_record_out (allocate_in (record_of ws) r) ≡ (n, 0, 0, ws)
  allocate-kept r e = rw (e, (allocate-refused (record_of ws) r n e).1, same-words ws three)

  pub free-kept : (id : ℕ) → (free_in (record_of ws) id).0 ≡ refused n
      → record_out (free_in (record_of ws) id) ≡ (n, ws)
  free-kept id e = rw (e, (free-refused (record_of ws) id n e).1, same-words ws three)

  pub rename-kept : (id label : ℕ) → (rename_in (record_of ws) id label).0 ≡ refused n
      → record_out (rename_in (record_of ws) id label) ≡ (n, ws)
  rename-kept id label e = rw (e, (rename-refused (record_of ws) id label n e).1, same-words ws three)
