-- `giving_back::give_back` meets its contract. Assumes nothing.
use Rattle.giving_back.proofs.GivenBack.{sets_free, in₁, bounded₁, in₂, bounded₂, given_back_lem}
use Rattle.giving_back.proofs.give_back.Goals as goal

pub set_free-requires : goal.set_free-requires
set_free-requires c = sets_free _ _ _ c.requires.0.1

pub join_beside-requires : goal.join_beside-requires
join_beside-requires c =
    let l = c.requires.0.1 in
    let h = c.requires.1 in
    let e = c.set_free.ensures _ l in
    ((_, in₁ _ _ _ l h _ e), bounded₁ _ _ _ l h _ e)

pub join_beside-requires-2 : goal.join_beside-requires-2
join_beside-requires-2 c =
    let l = c.requires.0.1 in
    let h = c.requires.1 in
    let e = c.set_free.ensures _ l in
    let f = c.join_beside.ensures _ (in₁ _ _ _ l h _ e) in
    ((_, in₂ _ _ _ l h _ e _ f), bounded₂ _ _ _ l h _ e _ f)

pub returns : goal.returns
returns c = λ z l.
    let h = c.requires.1 in
    let e = c.set_free.ensures z l in
    let f = c.join_beside.ensures _ (in₁ _ _ z l h _ e) in
    given_back_lem _ _ z l h _ e _ f _ (c.join_beside-2.ensures _ (in₂ _ _ z l h _ e _ f))
