-- `Text::put` meets its contract: three parts, one behind another. Assumes nothing.
use Rattle.std.proofs.Common.{arith}
use Rattle.byte_text.specs.ByteText.{place}
use Rattle.byte_text.specs.ByteTextLaws.{text_length}
use Rattle.byte_text.proofs.Parts.{text}
use Rattle.byte_text.proofs.Text.put.Goals as goal

pub put_decimal-point-requires : goal.put_decimal-point-requires
put_decimal-point-requires c = omega (arith, text_length c.args.self.hundredths (place c.args.self.unit))

pub put_places-name-requires : goal.put_places-name-requires
put_places-name-requires c = omega (arith, text_length c.args.self.hundredths (place c.args.self.unit))

pub put_name-requires : goal.put_name-requires
put_name-requires c = omega (arith, text_length c.args.self.hundredths (place c.args.self.unit))

pub returns : goal.returns
returns c =
    text _ _ _ _ _ _ _ _ c.requires c.put_decimal-point.ensures.0 c.put_decimal-point.ensures.1 c.put_places-name.ensures.0 c.put_places-name.ensures.1 c.put_name.ensures
