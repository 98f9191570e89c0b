-- `pages::align_up` meets its contract. Assumes nothing.
use Rattle.laws.specs.Rounding.{align_up}
use Rattle.pages.specs.Pages.{power_pos}
use Rattle.pages.proofs.align_up.Goals as goal

pub overflow_sub-alignment : goal.overflow_sub-alignment
overflow_sub-alignment c = power_pos c.requires.alignment_value

pub returns : goal.returns
unfolding align_up
returns c = c.align_down.ensures
