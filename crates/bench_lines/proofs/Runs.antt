-- How a text is read on, byte by byte. Assumes nothing.
use Rattle.std.proofs.Common.{ℕ, suc, ◌+◌, ◌≤◌, ◌<◌, arith, true, false, List, [], ◌∷◌, ◌≡◌, refl, sym, ap, ◌∙◌, length, max, drop, get_or, drop_of_length-le, drop-cons}
use Rattle.table.specs.Layout.{most_words}
use Rattle.bench_lines.proofs.FedLaws.{next_fits}
use Rattle.bench_lines.specs.Fits.{fitting}
use Rattle.bench_lines.proofs.Fits.{taken-stays}
use Rattle.bench_lines.specs.Feeding.{Kept, FedKept, emptied, fits, has_room, taken_on, stopped, fed_from, feed_on}
use Rattle.bench_lines.specs.declared.Bench.{Bench}

module _ (text : List ℕ) (at : ℕ) (k : Kept) where
  -- There is no room for an answer.
  pub room-ends : has_room k.0 k.2 ≡ false → stopped at k ≡ fed_from at (drop at text) k
  unfolding fed_from
  room-ends e = by (drop at text)
    where
      by : (t : List ℕ) → stopped at k ≡ fed_from at t k
      by [] = refl
      by (b ∷ t) = rw e

  -- There is no byte.
  pub text-ends : length text ≤ at → stopped at k ≡ fed_from at (drop at text) k
  unfolding fed_from
  text-ends h = rw (drop_of_length-le text h)

  -- One byte more.
  pub goes_on_lem : at < length text → has_room k.0 k.2 ≡ true
      → fed_from (at + 1) (drop (at + 1) text) (taken_on k.0 (get_or text at 0) k.1 k.2) ≡ fed_from at (drop at text) k
  unfolding fed_from
  goes_on_lem h e =
      let n : at + 1 ≡ suc at = omega arith in
      rw (drop-cons text at 0 h, e) (ap (λ (m : ℕ). fed_from m (drop m text) (taken_on k.0 (get_or text at 0) k.1 k.2)) n)

-- Nothing is written yet.
pub none_used : (s e : Bench) (n : ℕ) → e ≡ emptied s → e.used ≤ n
none_used s e n q = rw q (omega arith)

module _ (text : List ℕ) (from : ℕ) (s e : Bench) (store out : List ℕ) (q : e ≡ emptied s) where
  same : fits s store ≡ fits e store
  unfolding fits
  same = ap (λ (x : Bench). fits x store) (sym q)

  pub unfit : fits e store ≡ false → (record { bench = e; read = from }, store, out) ≡ feed_on text from s store out
  unfolding feed_on
  unfit f =
      rw (same ∙ f) (ap (λ (x : Bench). (record { bench = x; read = from }, store, out)) q)

  pub read-on : fits e store ≡ true → (r : FedKept) → r ≡ fed_from from (drop from text) (e, store, out) → r ≡ feed_on text from s store out
  unfolding feed_on
  read-on f r h = rw (same ∙ f) (h ∙ ap (λ (x : Bench). fed_from from (drop from text) (x, store, out)) q)

-- what the loop keeps: what is left to do comes to what was to do
pub record Going (text : List ℕ) (from : ℕ) (first : Kept) (at : ℕ) (s : Bench) (store out : List ℕ) : Type 0 where
  pub reached : at ≤ max from (length text)
  pub stores : length store ≡ length first.1
  pub outs : length out ≡ length first.2
  pub long : most_words ≤ length store
  pub lent : s.lent ≤ length store
  pub used : s.used ≤ length out
  pub same : fed_from at (drop at text) (s, store, out) ≡ fed_from from (drop from text) first

pub begins : (text : List ℕ) (from : ℕ) (s : Bench) (store out : List ℕ) → fits s store ≡ true → s.used ≤ length out → Going text from (s, store, out) from s store out
begins text from s store out e u =
    let f = fitting s store e in
    record { reached = omega arith; stores = refl; outs = refl; long = f.0; lent = f.1; used = u; same = refl }

pub turn : (text : List ℕ) (from : ℕ) (first : Kept) (at : ℕ) (s : Bench) (store out : List ℕ) → Going text from first at s store out
    → at < length text → has_room s out ≡ true
    → (s' : Bench) (store' out' : List ℕ) → (s', store', out') ≡ taken_on s (get_or text at 0) store out
    → length store' ≡ length store → length out' ≡ length out → Going text from first (at + 1) s' store' out'
turn text from first at s store out g h e s' store' out' q l m =
    let lent : s'.lent ≤ length store =
    rw (ap (λ (k : Kept). k.0.lent) q) (taken-stays s (get_or text at 0) store out g.long g.lent).1 in
    let used : s'.used ≤ length out' =
    rw (ap (λ (k : Kept). k.0.used) q, ap (λ (k : Kept). k.2) q) (next_fits s (get_or text at 0) store out g.used) in
    record {
      reached = omega arith;
      stores = l ∙ g.stores;
      outs = m ∙ g.outs;
      long = omega (arith, g.long);
      lent = omega arith;
      used = used;
      same = ap (fed_from (at + 1) (drop (at + 1) text)) q ∙ goes_on_lem text at (s, store, out) h e ∙ g.same;
    }
