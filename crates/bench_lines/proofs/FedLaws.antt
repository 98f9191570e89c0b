-- What a call reads of a text is printed and kept as its bytes are. Assumes nothing.
use Rattle.std.specs.Prelude.{ℕ, zero, suc, ◌+◌, ◌≤◌, Bool, ◌⊎◌, ◌≡◌, eqb, drop}
use Rattle.std.proofs.Common.{add-zero, zero-add, arith, inl, inr, ⊎_elim, ◌∙◌, leb-false, length-append, take_all}
use Rattle.std.proofs.Math.Bool.{true, false, cond}
use mathlib.Core.List.{List, [], ◌∷◌, ◌++◌}
use Rattle.std.proofs.Math.Path.{refl, sym, ap}
use Rattle.std.proofs.Math.ListN.{length, take}
use Rattle.laws.specs.Splice.{splice, splice-on, splice-reaches, splice-none, take-splice}
use Rattle.laws.specs.Tests.{cond_cases}
use Rattle.table.specs.Layout.{most_words}
use Rattle.call_lines.specs.Reading as reading
use Rattle.answer_lines.specs.Printed.{printed, longest}
use Rattle.bench_lines.specs.Feeding.{Kept, FedKept, begin, emptied, fits, has_room, outcome, ended_on, taken_on, stopped, fed_from, feed_on}
use Rattle.bench_lines.specs.Fits.{fitting, fit}
use Rattle.bench_lines.proofs.Fits.{fed-stays}
use Rattle.bench_lines.specs.Told.{State, after, tells, after_all, told, last_told, start}
use Rattle.bench_lines.proofs.Told.{text_told}
use Rattle.bench_lines.specs.Text.{output}
use Rattle.bench_lines.specs.declared.Bench.{Bench}
use Rattle.bench_lines.specs.Fed.{Feeds, state_of}

abbrev state : Kept → State
state k = state_of k.0 k.1

-- ---- one byte

module _ (s : Bench) (b : ℕ) (store out : List ℕ) where
  abbrev next : Kept
  next = taken_on s b store out

  next-state : state next ≡ after (state_of s store) b
  unfolding taken_on ended_on
  next-state = by (eqb b 10)
    where
      by : (x : Bool)
          → state (cond x (ended_on s store out) (record { line = reading.fed s.line b; lent = s.lent; used = s.used }, store, out))
          ≡ cond x (record { line = reading.fresh; words = (outcome s store).1 }) (record { line = reading.fed s.line b; words = take s.lent store })
      by true = ap (λ (ws : List ℕ). record { line = reading.fresh; words = ws }) (take-splice store (outcome s store).1)
      by false = refl

  next-out : next.2 ≡ splice out s.used (tells (state_of s store) b)
  unfolding taken_on ended_on
  next-out = by (eqb b 10)
    where
      by : (x : Bool)
          → (cond x (ended_on s store out) (record { line = reading.fed s.line b; lent = s.lent; used = s.used }, store, out)).2
          ≡ splice out s.used (cond x (printed (outcome s store).0) [])
      by true = refl
      by false = sym (splice-none out s.used)

  next-used : next.0.used ≡ s.used + length (tells (state_of s store) b)
  unfolding taken_on ended_on
  next-used = by (eqb b 10)
    where
      by : (x : Bool)
          → (cond x (ended_on s store out) (record { line = reading.fed s.line b; lent = s.lent; used = s.used }, store, out)).0.used
          ≡ s.used + length (cond x (printed (outcome s store).0) [])
      by true = refl
      by false = sym (add-zero s.used)

-- ---- many bytes

-- r comes of the first n bytes of the text, fed in from the place `at` on
record Reads (k : Kept) (at : ℕ) (text : List ℕ) (r : FedKept) (n : ℕ) : Type 0 where
  most : n ≤ length text
  read : r.0.read ≡ at + n
  keeps : state_of r.0.bench r.1 ≡ after_all (state k) (take n text)
  used : r.0.bench.used ≡ k.0.used + length (told (state k) (take n text))
  out : r.2 ≡ splice k.2 k.0.used (told (state k) (take n text))
  stops : (n ≡ length text) ⊎ (has_room r.0.bench r.2 ≡ false)

-- none of them
reads_none : (k : Kept) (at : ℕ) (text : List ℕ) → (0 ≡ length text) ⊎ (has_room k.0 k.2 ≡ false) → Reads k at text (stopped at k) 0
unfolding after_all told
reads_none k at text s = record {
  most = omega arith;
  read = sym (add-zero at);
  keeps = refl;
  used = sym (add-zero k.0.used);
  out = sym (splice-none k.2 k.0.used);
  stops = s;
}

-- one more
reads_more : (k : Kept) (at b : ℕ) (text : List ℕ) (r : FedKept) (n : ℕ) → k.0.used ≤ length k.2
    → Reads (taken_on k.0 b k.1 k.2) (suc at) text r n → Reads k at (b ∷ text) r (suc n)
unfolding after_all told
reads_more k at b text r n h p =
    let s : Bench = k.0 in
    let st : State = after (state k) b in
    let w : List ℕ = tells (state k) b in
    let t : List ℕ = take n text in
    let same : state (next s b k.1 k.2) ≡ st = next-state s b k.1 k.2 in
    let prints : told (state (next s b k.1 k.2)) t ≡ told st t = ap (λ (x : State). told x t) same in
    let ends : (next s b k.1 k.2).0.used ≡ s.used + length w = next-used s b k.1 k.2 in
    let l : length (w ++ told st t) ≡ length w + length (told st t) = length-append w (told st t) in
    let m : length (told (state (next s b k.1 k.2)) t) ≡ length (told st t) = ap length prints in
    record {
      most = omega (arith, p.most);
      read = omega (arith, p.read);
      keeps = p.keeps ∙ ap (λ (x : State). after_all x t) same;
      used = omega (arith, p.used);
      out =
          p.out ∙ ap (λ (x : List ℕ). splice x (next s b k.1 k.2).0.used (told (state (next s b k.1 k.2)) t)) (next-out s b k.1 k.2)
          ∙ ap (λ (m : ℕ). splice (splice k.2 s.used w) m (told (state (next s b k.1 k.2)) t)) ends
          ∙ ap (splice (splice k.2 s.used w) (s.used + length w)) prints ∙ splice-on k.2 s.used w (told st t) h;
      stops = ⊎_elim (λ e. inl (ap suc e)) inr p.stops;
    }

-- What is written stays within the buffer.
pub next_fits : (s : Bench) (b : ℕ) (store out : List ℕ) → s.used ≤ length out → (next s b store out).0.used ≤ length (next s b store out).2
next_fits s b store out h =
    rw (next-used s b store out, next-out s b store out) (splice-reaches out s.used (tells (state_of s store) b) h)

by_room : (k : Kept) (at b : ℕ) (t : List ℕ) → k.0.used ≤ length k.2
    → (n : ℕ) × Reads (taken_on k.0 b k.1 k.2) (suc at) t (fed_from (suc at) t (taken_on k.0 b k.1 k.2)) n
    → (n : ℕ) × Reads k at (b ∷ t) (fed_from at (b ∷ t) k) n
unfolding fed_from
by_room k at b t h ih =
    cond_cases (λ (r : FedKept). (n : ℕ) × Reads k at (b ∷ t) r n) (has_room k.0 k.2)
    (λ e. (suc ih.0, reads_more k at b t _ ih.0 h ih.1)) (λ e. (0, reads_none k at (b ∷ t) (inr e)))

reads : (text : List ℕ) (at : ℕ) (k : Kept) → k.0.used ≤ length k.2 → (n : ℕ) × Reads k at text (fed_from at text k) n
unfolding fed_from
reads [] at k h = (0, reads_none k at [] (inl refl))
reads (b ∷ t) at k h = by_room k at b t h (reads t (suc at) (taken_on k.0 b k.1 k.2) (next_fits k.0 b k.1 k.2 h))

-- what was written from the front on is read there
front : (used : ℕ) (after out w : List ℕ) → used ≡ 0 + length w → after ≡ splice out 0 w → take used after ≡ w
front used after out w u o =
    ap (λ (n : ℕ). take n after) (u ∙ zero-add (length w)) ∙ ap (take (length w)) o ∙ take-splice out w

-- with nothing written and room for an answer a byte is read, if there is one
moved : (k : Kept) (at : ℕ) (text : List ℕ) (r : FedKept) (n : ℕ) → k.0.used ≡ 0 → Reads k at text r n → longest ≤ length k.2
    → 1 ≤ length text → 1 ≤ n
unfolding has_room told
moved k at text r (suc n) u p room h = omega arith
moved k at text r zero u p room h =
    ⊎_elim (λ e. absurd (omega arith))
    (λ e.
    let o : r.2 ≡ k.2 = p.out ∙ splice-none k.2 k.0.used in
    let l : length r.2 ≡ length k.2 = ap length o in
    absurd (omega (arith, leb-false (r.0.bench.used + longest) (length r.2) e, p.used)))
    p.stops

-- ---- a call

-- So it is of every call on a store that is long enough; and in a buffer that has room for an answer it reads a byte at least.
pub feeds : (text : List ℕ) (from : ℕ) (s : Bench) (store out : List ℕ) → fits s store ≡ true
    → Feeds text from s store out (feed_on text from s store out)
unfolding feed_on
feeds text from s store out f = rw f (by (reads (drop from text) from (emptied s, store, out) (omega arith)))
  where
    enough : (most_words ≤ length store) × (s.lent ≤ length store)
    enough = fitting s store f

    same : (length (fed_from from (drop from text) (emptied s, store, out)).1 ≡ length store)
        × ((fed_from from (drop from text) (emptied s, store, out)).0.bench.lent ≤ length store)
    same = fed-stays (drop from text) from (emptied s, store, out) enough.0 enough.1

    by : (n : ℕ) × Reads (emptied s, store, out) from (drop from text) (fed_from from (drop from text) (emptied s, store, out)) n
        → Feeds text from s store out (fed_from from (drop from text) (emptied s, store, out))
    by h = record {
      bytes = h.0;
      most = h.1.most;
      read = h.1.read;
      prints = front _ _ out _ h.1.used h.1.out;
      keeps = h.1.keeps;
      long = fit _ _ (omega (arith, same, enough)) (omega (arith, same));
      stays = same.0;
      stops = h.1.stops;
      moves = moved (emptied s, store, out) from (drop from text) _ h.0 refl h.1;
    }

-- So a text that is fed in by one call, with room for an answer left behind it, is read to its end, and prints with its last line what
-- its lines print.
pub whole-text : (text store out : List ℕ) (r : FedKept) → fits begin store ≡ true → r ≡ feed_on text 0 begin store out
    → has_room r.0.bench r.2 ≡ true
    → (r.0.read ≡ length text) × (take r.0.bench.used r.2 ++ last_told (state_of r.0.bench r.1) ≡ output text)
whole-text text store out r f e room = by (rw e (feeds text 0 begin store out f))
  where
    by : Feeds text 0 begin store out r
        → (r.0.read ≡ length text) × (take r.0.bench.used r.2 ++ last_told (state_of r.0.bench r.1) ≡ output text)
    by h =
        let end : h.bytes ≡ length text = ⊎_elim (λ l. l) (λ no. cc) h.stops in
        let all : take h.bytes text ≡ text = take_all h.bytes text (omega arith) in (
          omega (arith, h.read),
          ap (λ (t : List ℕ). t ++ last_told (state_of r.0.bench r.1)) (h.prints ∙ ap (told start) all)
              ∙ ap (λ (s : State). told start text ++ last_told s) (h.keeps ∙ ap (after_all start) all) ∙ text_told text,
        )
