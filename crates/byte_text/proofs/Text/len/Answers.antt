-- `Text::len` meets its contract. Assumes nothing.
use Rattle.std.proofs.Common.{arith, ◌/◌}
use Rattle.laws.specs.Decimal.{decimal-short}
use Rattle.byte_text.specs.ByteText.{place}
use Rattle.byte_text.specs.ByteTextLaws.{text_length, suffix-short}
use Rattle.byte_text.proofs.Text.len.Goals as goal

pub overflow_add-result : goal.overflow_add-result
overflow_add-result c = omega (arith, decimal-short 19 (c.args.self.hundredths / 100) (omega arith))

pub overflow_add-result-2 : goal.overflow_add-result-2
overflow_add-result-2 c = omega (arith, decimal-short 19 (c.args.self.hundredths / 100) (omega arith), suffix-short (place c.args.self.unit))

pub returns : goal.returns
returns c = omega (arith, text_length c.args.self.hundredths (place c.args.self.unit))
