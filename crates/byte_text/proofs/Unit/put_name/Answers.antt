-- `Unit::put_name` meets its contract: the letter, and "B" behind it. Assumes nothing.
use Rattle.std.proofs.Common.{arith, ap, ◌∙◌, length, [], ◌∷◌}
use Rattle.laws.specs.Splice.{splice-both}
use Rattle.byte_text.specs.ByteText.{spelt}
use Rattle.byte_text.proofs.Unit.put_name.Goals as goal

pub returns : goal.returns
returns c =
    let e = c.letter.ensures ∙ ap spelt c.in-Some.is in
    rw e
    (splice-both _ _ _ _ _ (c.in-Some.letter ∷ []) (66 ∷ []) (omega (arith, ap length e)) c.put-next.ensures.0 c.put-next.ensures.1 c.put-2.ensures.1)
