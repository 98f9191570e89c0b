-- `walking::ids::Buckets::enter` meets its contract. Assumes nothing.
use Rattle.std.proofs.Common.{arith}
use Rattle.walking.proofs.Chains.{array-within, array-start, array-ends, array-met, array-new, array-stored}
use Rattle.walking.proofs.ids.Buckets.enter.Goals as goal

pub on_chain-requires : goal.on_chain-requires
on_chain-requires c =
    let b = c.args.self.now in
    let p = c.requires in (
      array-within c.args.table.words.now b.heads _ _ _ _ (omega arith) c.word-id.ensures c.bucket-h.ensures _ p.0 p.2.1,
      array-start c.args.table.words.now b.heads b.links c.args.k _ _ (omega arith) c.word-id.ensures c.bucket-h.ensures _ p.0,
      array-ends c.args.table.words.now b.heads _ _ _ _ (omega arith) c.word-id.ensures c.bucket-h.ensures p.1,
    )

pub returns-then-on_chain-clause-value : goal.returns-then-on_chain-clause-value
returns-then-on_chain-clause-value c =
    array-met _ c.args.self.now.heads _ _ _ _ (omega arith) c.word-id.ensures c.bucket-h.ensures _ c.on_chain.ensures c.if-on_chain.true

pub returns-clause-value : goal.returns-clause-value
returns-clause-value c =
    array-new _ c.args.self.now.heads _ _ _ _ (omega arith) c.word-id.ensures c.bucket-h.ensures _ c.on_chain.ensures c.if-on_chain.false

pub returns-clause-after : goal.returns-clause-after
returns-clause-after c =
    λ e. array-stored _ c.args.self.now.heads _ _ _ _ (omega arith) c.word-id.ensures c.bucket-h.ensures c.requires.2.0
