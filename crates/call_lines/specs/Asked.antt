-- What the code says that a line asks for, as the format has it. Assumes nothing.
use Rattle.std.proofs.Math.Option.{Option, none, some}
use Rattle.std.specs.Prelude.{◌≡◌, refl, Some, None}
use Rattle.std.specs.Prelude as code
use Rattle.std.proofs.Common.{sym, ap, ◌∙◌}
use Rattle.model.specs.Runs.Call.{allocate, free, rename_to}
use Rattle.call_lines.specs.Format.{Asked}
use Rattle.call_lines.specs.Format.Asked.{new, call}
use Rattle.sub_allocator.specs.Requests.{request_of}
use Rattle.call_lines.specs.declared.asked.Call as declared
use Rattle.call_lines.specs.declared.asked.Call.TheVariants as asked

abbrev pub asked_of : code.Option declared.Call → Option Asked
asked_of (Some (asked.New size slots)) = some (new size slots)
asked_of (Some (asked.Allocate r)) = some (call (allocate (request_of r)))
asked_of (Some (asked.Free id)) = some (call (free id))
asked_of None = none

-- ---- Two that ask for the same are equal.

-- a change of a label is no line of the program
abbrev asking : Option Asked → code.Option declared.Call
asking none = None
asking (some (new size slots)) = Some (asked.New size slots)
asking (some (call (allocate r))) =
    Some (asked.Allocate (record { size = r.size; alignment = r.alignment; kind = r.kind; granularity = r.granularity; label = r.label }))
asking (some (call (free id))) = Some (asked.Free id)
asking (some (call (rename_to id label))) = None

-- each is told by what it asks for
asked-back : (a : code.Option declared.Call) → asking (asked_of a) ≡ a
asked-back (Some (asked.New size slots)) = refl
asked-back (Some (asked.Allocate r)) = refl
asked-back (Some (asked.Free id)) = refl
asked-back None = refl

pub one_asked : (a b : code.Option declared.Call) → asked_of a ≡ asked_of b → a ≡ b
one_asked a b e = sym (asked-back a) ∙ ap asking e ∙ asked-back b
