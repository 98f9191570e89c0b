-- `fmt_bytes` meets its contract: one law for each of its three answers. Assumes nothing.
use Rattle.std.proofs.Common.{ap, ◌∙◌, length}
use Rattle.laws.specs.Splice.{splice}
use Rattle.byte_text.specs.ByteText.{place, shown_of, text_of}
use Rattle.byte_text.proofs.Dividing.{shown-bounded}
use Rattle.byte_text.proofs.Parts.{too_much, too_short, text_is, written}
use Rattle.byte_text.proofs.fmt_bytes.Goals as goal

pub returns-then-amount : goal.returns-then-amount
returns-then-amount c = too_much _ _ c.if-amount.true

pub to_places-text-requires : goal.to_places-text-requires
to_places-text-requires c = rw c.of.ensures (shown-bounded _ c.if-amount.false)

pub returns-then-buf-needed : goal.returns-then-buf-needed
returns-then-buf-needed c =
    let t = c.to_places-text in
    let e = ap (λ u. text_of t.result.hundredths (place u)) t.ensures.unit ∙ text_is _ _ (shown_of c.of.result) c.of.ensures t.ensures.hundredths in
    too_short _ _ _ c.if-amount.false (c.len-needed.ensures ∙ ap length e) c.if-buf-needed.true

pub returns : goal.returns
returns c =
    let t = c.to_places-text in
    let e = ap (λ u. text_of t.result.hundredths (place u)) t.ensures.unit ∙ text_is _ _ (shown_of c.of.result) c.of.ensures t.ensures.hundredths in
    written _ _ _ _ c.if-amount.false (c.len-needed.ensures ∙ ap length e) c.if-buf-needed.false (c.put.ensures ∙ ap (splice _ 0) e)
