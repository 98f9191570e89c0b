-- `walking::ids::Buckets::new` meets its contract. Assumes nothing.
use Rattle.walking.proofs.Chains.{zeros, zeros_long}
use Rattle.walking.proofs.ids.Buckets.new.Goals as goal

pub returns-clause-long : goal.returns-clause-long
returns-clause-long c = zeros_long 512 512

pub returns-clause-zero : goal.returns-clause-zero
returns-clause-zero c = zeros 512 512
