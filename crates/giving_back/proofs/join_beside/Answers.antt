-- `giving_back::join_beside` meets its contract. Assumes nothing.
use Rattle.std.proofs.Common.{sym, ◌∙◌}
use Rattle.words.proofs.Spots.{in_table}
use Rattle.giving_back.proofs.GivenBack.{beside-none, beside-held, beside-live, beside-joins, beside-joined}
use Rattle.giving_back.proofs.join_beside.Goals as goal
use Rattle.giving_back.proofs.join_beside.Goals.{then-n-eq0-via-then-n-eq0, then-n-eq0-via-else-n-eq0+then-not-is_free}

pub word-n-requires : goal.word-n-requires
word-n-requires c = in_table _ _ _ c.requires.0.1.place

pub is_free-requires : goal.is_free-requires
is_free-requires c = beside-held _ _ _ c.requires.0.1 _ _ _ c.link.ensures c.word-n.ensures c.if-n-eq0.false

pub returns-then-n-eq0 : goal.returns-then-n-eq0
returns-then-n-eq0 c = λ z h. elim c.then-n-eq0.branch [
  | then-n-eq0-via-then-n-eq0 w ↦ beside-none _ _ z h _ _ _ c.link.ensures c.word-n.ensures w.if-n-eq0.true
  | then-n-eq0-via-else-n-eq0+then-not-is_free w ↦
      beside-live _ _ z h _ _ _ c.link.ensures c.word-n.ensures w.if-n-eq0.false (sym w.is_free.ensures ∙ w.if-not-is_free.true)
]

pub join-requires : goal.join-requires
join-requires c =
    beside-joins _ _ _ c.requires.0.1 _ _ _ c.link.ensures c.word-n.ensures c.if-n-eq0.false c.requires.1
    (sym c.is_free.ensures ∙ c.if-not-is_free.false) _ c.left.ensures

pub returns : goal.returns
returns c = λ z h.
    beside-joined _ _ z h _ _ _ c.link.ensures c.word-n.ensures c.if-n-eq0.false c.requires.1
    (sym c.is_free.ensures ∙ c.if-not-is_free.false) _ c.left.ensures _ c.join.ensures
