-- `size_ranges::SizeRange::grow` meets its contract: the shift loses no bit. Assumes nothing.
use Rattle.std.proofs.Common.{arith, ap, ◌∙◌, shl_exact, min, ℕ, ◌*◌, ◌%◌, ◌^◌}
use Rattle.size_ranges.specs.RangeLaws.{range-least}
use Rattle.size_ranges.proofs.SizeRange.grow.Goals as goal

pub returns : goal.returns
returns c = let s = c.args.self in
    let l = range-least s.least s.most s.range in
    let exact = shl_exact {a = s.least} 29 (min c.args.count 7) 64 (omega arith) (omega arith) in
    c.min-2.ensures ∙ ap (λ (n : ℕ). min n s.most) (ap (λ (k : ℕ). s.least * 2 ^ k % 2 ^ 64) c.min.ensures ∙ exact)
