-- `chunks::labels::relabel` meets its contract. Assumes nothing.
use Rattle.chunks.proofs.ChunkStores.{relabel-words}
use Rattle.chunks.proofs.labels.relabel.Goals as goal

pub returns : goal.returns
returns c = λ z h. cc (relabel-words c.args.w.now c.args.k c.args.label z h)
