-- The tests of a block's rules come to its soundness. Assumes nothing.
use Rattle.std.specs.Prelude.{ℕ, ◌≤◌, ◌<◌, Bool, true, false, not, cond, List, [], ◌∷◌, map, ◌≢◌, ◌↔◌, ◌≡◌, refl, eqb}
use Rattle.std.proofs.lemmas.Bool.{false≢true, eqb-false, not-true}
use Rattle.std.proofs.Math.Logic.Iff
use Rattle.std.proofs.Common.{ap, eqb-true, eq-eqb, ne_eqb, leb-true, le-leb, ltb-true, lt-ltb}
use Rattle.laws.specs.Counting.{distinct-pairs}
use Rattle.laws.specs.Every.{pass, none, more, two}
use Rattle.laws.specs.Lists.{All, Pairwise, Head, Linked, head_map, head_of}
use Rattle.laws.specs.Mapped.{pairs-mapped}
use Rattle.laws.specs.Members.{distinct}
use Rattle.model.specs.Block.{Chunk, Block, is_free}
use Rattle.model.specs.Soundness.{Sound, NotBothFree}
use Rattle.words.specs.Words.{chunk_ok, all_ok, none_free, rules}

-- A test that is asked only where another passes.
pub when : (t u : Bool) → cond t u true ≡ true ↔ (t ≡ true → u ≡ true)
when true u = (λ e h. e, λ f. f refl)
when false u = (λ e h. absurd (false≢true h), λ f. refl)

-- ---- numbers of chunks that differ

differ : (f : Chunk → ℕ) (cs : List Chunk) → distinct (map f cs) ≡ true ↔ Pairwise (λ x y. f x ≢ f y) cs
differ f cs = Iff.trans (distinct-pairs (map f cs)) (pairs-mapped f _ cs)

-- ---- each chunk

chunk-ok : (slots next : ℕ) (c : Chunk) → (1 ≤ c.id) × (c.id < next) → 1 ≤ c.size → c.kind ≤ 2
    → (c.kind ≡ 0 → c.label ≡ 0) → (1 ≤ c.slot) × (c.slot ≤ slots) → chunk_ok slots next c ≡ true
unfolding chunk_ok
chunk-ok slots next c i z k l p =
    more _ _ (le-leb _ _ i.0)
    (more _ _ (lt-ltb _ _ i.1)
    (more _ _ (le-leb _ _ z)
    (more _ _ (le-leb _ _ k)
    (more _ _ ((when (is_free c) (eqb c.label 0)).1 (λ e. eq-eqb _ _ (l (eqb-true _ _ e))))
    (more _ _ (le-leb _ _ p.0)
    (more _ _ (le-leb _ _ p.1)
    none))))))

all_ok_lem : (slots next : ℕ) (cs : List Chunk) → All (λ c. (1 ≤ c.id) × (c.id < next)) cs → All (λ c. 1 ≤ c.size) cs
    → All (λ c. c.kind ≤ 2) cs → All (λ c. c.kind ≡ 0 → c.label ≡ 0) cs
    → All (λ c. (1 ≤ c.slot) × (c.slot ≤ slots)) cs → all_ok slots next cs ≡ true
unfolding all_ok
all_ok_lem slots next [] i z k l p = refl
all_ok_lem slots next (c ∷ cs) i z k l p =
    two _ _ (chunk-ok slots next c i.0 z.0 k.0 l.0 p.0)
    (all_ok_lem slots next cs i.1 z.1 k.1 l.1 p.1)

each : (P : Chunk → Type 0) (slots next : ℕ) (cs : List Chunk) → ((c : Chunk) → chunk_ok slots next c ≡ true → P c)
    → all_ok slots next cs ≡ true → All P cs
unfolding all_ok
each P slots next [] f a = tt
each P slots next (c ∷ cs) f a = (f c (pass _ 0 a), each P slots next cs f (pass _ 1 a))

-- ---- neighbours

none_free_lem : (before : Bool) (cs : List Chunk)
    → none_free before cs ≡ true ↔ (Head (λ c. before ≡ true → c.kind ≢ 0) cs × Linked NotBothFree cs)
unfolding none_free
none_free_lem before [] = (λ e. (tt, tt), λ h. refl)
none_free_lem before (c ∷ cs) = (
  λ e.
      let h = (none_free_lem (is_free c) cs).0 (pass _ 1 e) in (
        λ b. eqb-false _ _ (not-true _ ((when before (not (is_free c))).0 (pass _ 0 e) b)),
        (head_map (λ d f k. f (eq-eqb _ _ k)) cs h.0, h.1),
      ),
  λ h.
      two _ _ ((when before (not (is_free c))).1 (λ b. ap not (ne_eqb _ _ (h.0 b))))
      ((none_free_lem (is_free c) cs).1 (head_map (λ d f k. f (eqb-true _ _ k)) cs h.1.0, h.1.1)),
)

-- A block passes the tests exactly where it is sound.
pub rules-sound : (b : Block) → rules b ≡ true ↔ Sound b
unfolding rules chunk_ok
rules-sound b = (
  λ e.
      let a : all_ok b.slots b.next b.chunks ≡ true = pass _ 6 e in
      record {
        slots = (leb-true _ _ (pass _ 0 e), leb-true _ _ (pass _ 1 e));
        size = (leb-true _ _ (pass _ 2 e), leb-true _ _ (pass _ 3 e));
        next = leb-true _ _ (pass _ 4 e);
        distinct = (differ _ b.chunks).0 (pass _ 5 e);
        ids = each _ b.slots b.next b.chunks (λ c k. (leb-true _ _ (pass _ 0 k), ltb-true _ _ (pass _ 1 k))) a;
        sizes = each _ b.slots b.next b.chunks (λ c k. leb-true _ _ (pass _ 2 k)) a;
        kinds = each _ b.slots b.next b.chunks (λ c k. leb-true _ _ (pass _ 3 k)) a;
        labels = each _ b.slots b.next b.chunks
            (λ c k z. eqb-true _ _ ((when (is_free c) (eqb c.label 0)).0 (pass _ 4 k) (eq-eqb _ _ z))) a;
        places = each _ b.slots b.next b.chunks
            (λ c k. (leb-true _ _ (pass _ 5 k), leb-true _ _ (pass _ 6 k))) a;
        apart = (differ _ b.chunks).0 (pass _ 7 e);
        whole = eqb-true _ _ (pass _ 8 e);
        neighbours = ((none_free_lem false b.chunks).0 (pass _ 9 e)).1;
      },
  λ h.
      more _ _ (le-leb _ _ h.slots.0)
      (more _ _ (le-leb _ _ h.slots.1)
      (more _ _ (le-leb _ _ h.size.0)
      (more _ _ (le-leb _ _ h.size.1)
      (more _ _ (le-leb _ _ h.next)
      (more _ _ ((differ _ b.chunks).1 h.distinct)
      (more _ _ (all_ok_lem b.slots b.next b.chunks h.ids h.sizes h.kinds h.labels h.places)
      (more _ _ ((differ _ b.chunks).1 h.apart)
      (more _ _ (eq-eqb _ _ h.whole)
      (more _ _ ((none_free_lem false b.chunks).1 (head_of (λ c e. absurd (false≢true e)) b.chunks, h.neighbours))
      none))))))))),
)
