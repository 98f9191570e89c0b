-- `walking::ids::bucket` meets its contract. Assumes nothing.
use Rattle.walking.proofs.Buckets.{spread_is}
use Rattle.walking.proofs.ids.bucket.Goals as goal

pub returns : goal.returns
returns c =
    spread_is _ _ _ _ _ _ c.wrapping_add_u64-before.ensures.value c.with_shifted.ensures c.with_shifted-few.ensures
    c.with_shifted-2.ensures c.with_shifted-spread.ensures
