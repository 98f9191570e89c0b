-- Worked examples of aligning and pages, by computing. Assumes nothing.
use Rattle.std.specs.Prelude.{ℕ, true, false, ◌≡◌, refl}
use Rattle.std.proofs.Common.{arith, true≢false}
use Rattle.std.specs.Int.Count.{ones}
use Rattle.laws.specs.Powers.{Pow64}
use Rattle.laws.specs.Rounding.{align_down, align_up}
use Rattle.pages.specs.Pages.{is_power_of_two, is_on_same_page, has_granularity_conflict}
use Rattle.pages.specs.Vulkan.{Resource, Below, PagesApart, may_stand}
use Rattle.pages.proofs.Vulkan.{page-test}

one : is_power_of_two 1 ≡ true
unfolding is_power_of_two ones
one = refl

none : is_power_of_two 0 ≡ false
unfolding is_power_of_two ones
none = refl

two_bits : is_power_of_two 6 ≡ false
unfolding is_power_of_two ones
two_bits = refl

down : align_down 1023 512 ≡ 512
unfolding align_down
down = refl

up : align_up 1023 512 ≡ 1024
unfolding align_up align_down
up = refl

up_stays : align_up 1024 512 ≡ 1024
unfolding align_up align_down
up_stays = refl

-- the first page but its last byte, linear
buffer : Resource
buffer = record { offset = 0; size = 1023; kind = 1 }

-- an image at an offset
image_at : ℕ → Resource
image_at offset = record { offset = offset; size = 256; kind = 2 }

page : Pow64 1024
page = (10, omega arith, refl)

-- On the next page the image may stand, and Vulkan's property holds.
next_page : may_stand 1024 buffer (image_at 1024) ≡ true
unfolding may_stand is_on_same_page align_down buffer image_at
next_page = refl

next_page_apart : PagesApart 1024 buffer (image_at 1024)
unfolding is_on_same_page align_down buffer image_at
next_page_apart = (page-test 1024 buffer (image_at 1024) page (record { under = omega arith; reach = omega arith })).0 refl

-- On the last byte of the same page it touches the buffer and may not, and the property fails.
same-page : may_stand 1024 buffer (image_at 1023) ≡ false
unfolding may_stand is_on_same_page has_granularity_conflict align_down buffer image_at
same-page = refl

touching : Below buffer (image_at 1023)
unfolding buffer image_at
touching = record { under = omega arith; reach = omega arith }

same-page_not_apart : PagesApart 1024 buffer (image_at 1023) → ⊥
unfolding is_on_same_page align_down buffer image_at
same-page_not_apart h = true≢false ((page-test 1024 buffer (image_at 1023) page touching).1 h)

-- Two buffers may share a page, and so may anything with a free chunk.
same_kind : has_granularity_conflict 1 1 ≡ false
unfolding has_granularity_conflict
same_kind = refl

beside_free : has_granularity_conflict 2 0 ≡ false
unfolding has_granularity_conflict
beside_free = refl
