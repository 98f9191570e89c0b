-- Demand 3, its first half: when a request is told 'no room', and where an accepted one is put. Theorems. Assumes nothing.
use Rattle.std.specs.Prelude.{ℕ, List, [], ◌∷◌, ◌↔◌, ◌≢◌, ◌⊎◌, ◌≡◌, refl}
use Rattle.std.proofs.Common.{arith, inl, inr, ⊎_elim, sym, ap, ◌∙◌}
use Rattle.std.proofs.Math.Option.{Option, none, some}
use Rattle.laws.specs.Reply.{accepted, refused, number, not_refused}
use Rattle.pages.specs.Vulkan.{Resource, OneLinear}
use Rattle.model.specs.Block.{Chunk, Block, Spot, first}
use Rattle.model.proofs.Choose.{same_spot}
use Rattle.model.proofs.PageRule.{before-rule, after-rule}
use Rattle.model.specs.Placing.{Request, Placed, last_of, next_of, asked, offset_in, chosen, place_in, place}
use Rattle.model.specs.Put.{Lowest, Choice, FitsIn, piece_in, whole_in}
use Rattle.model.proofs.Put.{answers, opened, choice-fits}
use Rattle.model.specs.Requests.{WellFormed}
use Rattle.model.proofs.Requests.{formed}
use Rattle.model.specs.Soundness.{Sound}
use Rattle.model.specs.Room.{Keeps, KeepsBefore, KeepsAfter, Room, Taken}

-- ---- where there is no neighbour the rule says nothing

dead : (A B : Resource) → (A.kind ≡ 0) ⊎ (B.kind ≡ 0) → OneLinear A B → ⊥
dead A B (inl e) o = ⊎_elim (λ (p : (A.kind ≡ 1) × (B.kind ≡ 2)). omega arith) (λ (p : (A.kind ≡ 2) × (B.kind ≡ 1)). omega arith) o
dead A B (inr e) o = ⊎_elim (λ (p : (A.kind ≡ 1) × (B.kind ≡ 2)). omega arith) (λ (p : (A.kind ≡ 2) × (B.kind ≡ 1)). omega arith) o

before_exactly : (r : Request) (o : ℕ) (left : List Chunk) → Keeps r.granularity (last_of left) (asked r o) ↔ KeepsBefore r o left
before_exactly r o [] = (λ k. tt, λ k l. absurd (dead (last_of []) (asked r o) (inl refl) l))
before_exactly r o (c ∷ left) = (λ k. k, λ k. k)

after-exactly : (r : Request) (o address : ℕ) (right : List Chunk)
    → Keeps r.granularity (asked r o) (next_of address right) ↔ KeepsAfter r o address right
after-exactly r o address [] = (λ k. tt, λ k l. absurd (dead (asked r o) (next_of address []) (inr refl) l))
after-exactly r o address (c ∷ right) = (λ k. k, λ k. k)

module _ (r : Request) (h : WellFormed r) (b : Block) (sound : Sound b) where
  -- ---- to fit by the tests is to have room

  room_fits : (z : Spot) (o : ℕ) → Room r b z o → FitsIn r b z o
  room_fits z o k = record {
    cut = k.cut;
    free = k.free;
    fits = record {
      aligned = k.aligned;
      above = k.above;
      below = k.below;
      before = (before-rule r h b sound z k.cut o k.above k.below).1 ((before_exactly r o z.left).1 k.before);
      after = (after-rule r h b sound z k.cut o k.above k.below).1 ((after-exactly r o _ z.right).1 k.after);
    };
  }

  fits-room : (z : Spot) (o : ℕ) → FitsIn r b z o → Room r b z o
  fits-room z o k =
      let f = k.fits in
      record {
        cut = k.cut;
        free = k.free;
        aligned = f.aligned;
        above = f.above;
        below = f.below;
        before = (before_exactly r o z.left).0 ((before-rule r h b sound z k.cut o f.above f.below).0 f.before);
        after = (after-exactly r o _ z.right).0 ((after-rule r h b sound z k.cut o f.above f.below).0 f.after);
      }

  -- What is chosen has room, and is the best that has; or there is no room.
  pub choice : Choice (Room r b) r (chosen r b)
  choice = on (chosen r b) (choice-fits r (formed h) b sound)
    where
      on : (s : Option Spot) → Choice (FitsIn r b) r s → Choice (Room r b) r s
      on none k = λ z o m. k z o (room_fits z o m)
      on (some z) k = record {
        room = fits-room z _ k.room;
        lowest = λ o m. k.lowest o (room_fits z o m);
        smallest = λ y o m. k.smallest y o (room_fits y o m);
        earliest = λ y o m. k.earliest y o (room_fits y o m);
      }

  -- ---- the demand

  -- On a sound block a well-formed request is told 'no room', refusal 7, exactly when no free chunk has room for it, at
  -- any offset.
  pub no_room : place r b ≡ refused 7 ↔ ((z : Spot) (o : ℕ) → Room r b z o → ⊥)
  no_room =
      let k = on (chosen r b) choice in
      let e = opened r b (formed h) in
      (λ q. k.0 (sym e ∙ q), λ f. e ∙ k.1 f)
    where
      on : (s : Option Spot) → Choice (Room r b) r s
          → place_in r b s ≡ refused 7 ↔ ((z : Spot) (o : ℕ) → Room r b z o → ⊥)
      on none k = (λ q. k, λ f. refl)
      on (some x) k = (
        λ q.
            absurd (answers r b (λ a. a ≢ refused 7) x
            (λ u v t. omega (arith, ap number t)) (λ u v w t. omega (arith, ap number t))
            (λ u v w. not_refused) (λ u. not_refused) q),
        λ f. absurd (f x (offset_in r x) k.room),
      )

  -- An accepted one is put where there is room: at the lowest offset of the smallest chunk that has room, and of chunks
  -- of that size in the one at the lowest address.
  pub put-best : (p : Placed) → place r b ≡ accepted p → Taken r b p
  put-best p e = on (chosen r b) choice (sym (opened r b (formed h)) ∙ e)
    where
      on : (s : Option Spot) → Choice (Room r b) r s → place_in r b s ≡ accepted p → Taken r b p
      on none k q = absurd (not_refused (sym q))
      on (some x) k q =
          answers r b (λ a. a ≡ accepted p → Taken r b p) x
          (λ u v t. absurd (not_refused (sym t)))
          (λ u v w t. absurd (not_refused (sym t)))
          (λ u v w t.
          let same : piece_in r x b ≡ p = cc in
          rw (← same) (record {
            spot = x;
            best = k;
            offset = refl;
            whole = λ l. absurd (omega arith);
            part = λ l. (refl, refl, w);
          }))
          (λ u t.
          let same : whole_in r x b ≡ p = cc in
          rw (← same) (record {
            spot = x;
            best = k;
            offset = refl;
            whole = λ l. (refl, refl);
            part = λ l. absurd (omega arith);
          })) q

  only_one : (y z : Spot) (o p : ℕ) → Lowest (Room r b) y o → Lowest (Room r b) z p → (y ≡ z) × (o ≡ p)
  only_one y z o p k l =
      let address : first y ≡ first z =
      omega (arith, k.earliest z p l.room sizes, l.earliest y o k.room (sym sizes)) in
      let e = same_spot b.chunks sound.sizes y z k.room.cut l.room.cut address in
      (e, omega (arith, k.lowest p (rw e l.room), l.lowest o (rw e at k.room)))
    where
      sizes : y.chunk.size ≡ z.chunk.size
      sizes = omega (arith, k.smallest z p l.room, l.smallest y o k.room)

  -- There is only one such place, so that the request is answered there.
  pub place_found : (z : Spot) (o : ℕ) → Lowest (Room r b) z o → (o ≡ offset_in r z) × (place r b ≡ place_in r b (some z))
  place_found z o k = on (chosen r b) choice (opened r b (formed h))
    where
      on : (s : Option Spot) → Choice (Room r b) r s → place r b ≡ place_in r b s
          → (o ≡ offset_in r z) × (place r b ≡ place_in r b (some z))
      on none f e = absurd (f z o k.room)
      on (some y) f e =
          let q = only_one y z _ o f k in
          (sym q.1 ∙ ap (offset_in r) q.0, e ∙ ap (λ x. place_in r b (some x)) q.0)
