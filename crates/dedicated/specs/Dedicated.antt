-- The dedicated block: what each call answers, and the record after it. Assumes nothing.
use Rattle.std.specs.Prelude.{ℕ, Bool, not, cond, ◌&&◌, ◌||◌, eqb, Result, Ok, Err}
use Rattle.laws.specs.Reply.{Reply, accepted, refused}
use Rattle.model.specs.Placing.{Request, fault}
use Rattle.refusals.specs.Refusals.{number_of}
use Rattle.refusals.specs.declared.Refusal.{Refusal}
use Rattle.sub_allocator.specs.Answers.{Given}
use Rattle.dedicated.specs.declared.record.DedicatedBlock.{DedicatedBlock}
use Rattle.dedicated.specs.declared.record.AllocationReport.{AllocationReport}

-- ---- the record

-- the size is at least 1, and allocated is 0 or the size
unfoldable pub is_sound : DedicatedBlock → Bool
is_sound d = not (eqb d.size 0) && (eqb d.allocated 0 || eqb d.allocated d.size)

abbrev pub block : ℕ → ℕ → ℕ → DedicatedBlock
block size allocated label = record { size = size; allocated = allocated; label = label }

-- ---- what a call by value hands back: the answer, and the record after it, on a refusal the one that came in

-- the one entry of the report
abbrev pub Entry : Type 0
Entry = AllocationReport

abbrev pub placed : DedicatedBlock → Result (Given × DedicatedBlock) Refusal → Reply Given × DedicatedBlock
placed d (Ok p) = (accepted p.0, p.1)
placed d (Err r) = (refused (number_of r), d)

abbrev pub changed : DedicatedBlock → Result DedicatedBlock Refusal → Reply (Unit {0}) × DedicatedBlock
changed d (Ok after) = (accepted tt, after)
changed d (Err r) = (refused (number_of r), d)

-- ---- the calls

-- 13 for no bytes; a new one has allocated 0 and label 0
unfoldable pub new_block : ℕ → Reply DedicatedBlock
new_block size = cond (eqb size 0) (refused 13) (accepted (block size 0 0))

-- 2 where the record is not sound, else what the call looks at next
abbrev pub sound_first : DedicatedBlock → ℕ → ℕ
sound_first d later = cond (is_sound d) later 2

-- then a fault of the request, 3 to 6; then 11 where the block is occupied, then 12 where the size differs; else 0
unfoldable pub request_fault : DedicatedBlock → Request → ℕ
request_fault d r =
    sound_first d
    (cond (eqb (fault r) 0)
    (cond (eqb d.allocated 0) (cond (eqb r.size d.size) 0 12) 11)
    (fault r))

-- then 18 where the id is not 1; else 0
unfoldable pub id_fault : DedicatedBlock → ℕ → ℕ
id_fault d id = sound_first d (cond (eqb id 1) 0 18)

-- a call that writes: what it tells and the record that it leaves; a fault keeps the record
abbrev pub writes : {A : Type 0} → ℕ → DedicatedBlock → A → DedicatedBlock → Reply A × DedicatedBlock
writes n d told after = cond (eqb n 0) (accepted told, after) (refused n, d)

-- one allocation of exactly the block size: offset 0, id 1
unfoldable pub allocate_in : DedicatedBlock → Request → Reply Given × DedicatedBlock
allocate_in d r = writes (request_fault d r) d (record { offset = 0; id = 1 }) (block d.size d.size r.label)

-- nothing is allocated any more, and the label stays
unfoldable pub free_in : DedicatedBlock → ℕ → Reply (Unit {0}) × DedicatedBlock
free_in d id = writes (id_fault d id) d tt (block d.size 0 d.label)

unfoldable pub rename_in : DedicatedBlock → ℕ → ℕ → Reply (Unit {0}) × DedicatedBlock
rename_in d id label = writes (id_fault d id) d tt (block d.size d.allocated label)

-- a call that asks
abbrev pub asks : {A : Type 0} → DedicatedBlock → A → Reply A
asks d told = cond (is_sound d) (accepted told) (refused 2)

-- the record itself
unfoldable pub checked_block : DedicatedBlock → Reply DedicatedBlock
checked_block d = asks d d

unfoldable pub allocated_in : DedicatedBlock → Reply ℕ
allocated_in d = asks d d.allocated

unfoldable pub is_empty_in : DedicatedBlock → Reply Bool
is_empty_in d = asks d (eqb d.allocated 0)

-- always one entry: first byte 0, the block's size, the label
unfoldable pub report_of : DedicatedBlock → Reply Entry
report_of d = asks d (record { first_byte = 0; size = d.size; label = d.label })
