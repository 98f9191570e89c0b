-- `chunks::taking::set_free` meets its contract. Assumes nothing.
use Rattle.chunks.proofs.ChunkStores.{free_words}
use Rattle.chunks.proofs.taking.set_free.Goals as goal

pub returns : goal.returns
returns c = λ z h. cc (free_words c.args.w.now c.args.k z h c.requires.1)
