-- `pages::align_down` meets its contract: the mask is the remainder form. Assumes nothing.
use Rattle.pages.specs.Mask.{mask, mask-down}
use Rattle.pages.specs.Pages.{power_of_two, power_pos}
use Rattle.pages.proofs.align_down.Goals as goal

pub overflow_sub-result : goal.overflow_sub-result
overflow_sub-result c = power_pos c.requires

pub returns : goal.returns
unfolding mask
returns c = mask-down _ c.ranges.val.fits ((power_of_two _ c.ranges.alignment.fits).0 c.requires)
