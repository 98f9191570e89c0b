-- `walking::ids::Buckets::on_chain` meets its contract. Assumes nothing.
use Rattle.std.proofs.Common.{◌≡◌, sym, ◌∙◌, arith}
use Rattle.walking.proofs.Chains.{chain-ends, chain-here, chain-after, ends_on, shorter, link_read}
use Rattle.walking.proofs.ids.Buckets.on_chain.Goals as goal

pub returns-then-word-id : goal.returns-then-word-id
returns-then-word-id c =
    sym (chain-here _ _ 512 _ _ (λ (e : 512 ≡ 0). omega arith) c.loop-k-test.true (sym c.word.ensures ∙ c.if-word-id.true))
    ∙ c.loop-k.invariant.2

pub loop-k-smaller : goal.loop-k-smaller
loop-k-smaller c =
    shorter _ _ _ (link_read c.args.self.now.heads _ (omega arith) _ (omega arith)) c.loop-k-test.true c.loop-k.invariant.1

pub loop-k-preserved : goal.loop-k-preserved
loop-k-preserved c =
    let l = c.loop-k.invariant in
    let some = c.loop-k-test.true in
    let linked = link_read c.args.self.now.heads c.args.self.now.links (omega arith) c.loop-k.k (omega arith) in (
      rw (← linked) (c.requires.0 _),
      ends_on _ _ _ linked some l.1,
      sym (chain-after _ _ _ linked some l.1 _ _ (λ e. c.if-word-id.false (c.word.ensures ∙ e))) ∙ l.2,
    )

pub returns : goal.returns
returns c = sym (chain-ends _ _ _ _ _ c.loop-k-test.false) ∙ c.loop-k.invariant.2
