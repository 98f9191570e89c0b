-- What each way through a move keeps. Assumes nothing.
use Rattle.std.proofs.Common.{ℕ, ◌+◌, ◌-◌, ◌≤◌, ◌<◌, arith, true, List, ◌≡◌, refl, sym, ap, ◌∙◌, length, take, drop, length-drop, take-add, take_all}
use Rattle.table.specs.Layout.{most_words}
use Rattle.answer_lines.specs.Printed.{longest}
use Rattle.bench_lines.specs.Fed.{Feeds, state_of}
use Rattle.bench_lines.proofs.FedLaws.{feeds}
use Rattle.bench_lines.specs.Feeding.{begin, fits, feed_on}
use Rattle.bench_lines.specs.Fits.{fit}
use Rattle.bench_lines.specs.Told.{State, after_all, after-pieces}
use Rattle.bench_lines.specs.declared.Bench.{Bench}
use Rattle.bench_lines.specs.declared.Fed.{Fed}
use Rattle.blockbench.specs.Moving.{MovesSome, MovesAll}

-- With no block at hand a store is long enough that has room for every table.
pub begin-fits : (b : Bench) (store : List ℕ) → b ≡ begin → most_words ≤ length store → fits b store ≡ true
begin-fits b store e h = rw e (fit begin store h (omega arith))

-- ---- some of a piece

module _ (text : List ℕ) (from : ℕ) (s : Bench) (store out : List ℕ) (f : fits s store ≡ true) (room : longest ≤ length out)
    (r : Fed) (store' out' : List ℕ) (e : (r, store', out') ≡ feed_on text from s store out) where
  fed : Feeds text from s store out (r, store', out')
  fed = rw e (feeds text from s store out f)

  offered : length (drop from text) ≡ length text - from
  offered = length-drop from text

  bytes : fed.bytes ≡ r.read - from
  bytes = omega (arith, fed.read)

  -- What it prints is written.
  pub written : MovesSome text from s store r store'
  written = record {
    moves = λ h. omega (arith, fed.read, fed.moves room (omega (arith, offered)));
    most = λ h. omega (arith, fed.read, fed.most, offered);
    keeps = fed.keeps ∙ ap (λ (n : ℕ). after_all (state_of s store) (take n (drop from text))) bytes;
    long = fed.long;
  }

-- ---- all of it

-- what the loop keeps: what is kept is what the bytes read leave
pub record Going (text : List ℕ) (s : Bench) (store : List ℕ) (m : Fed) (store' : List ℕ) : Type 0 where
  pub most : m.read ≤ length text
  pub keeps : state_of m.bench store' ≡ after_all (state_of s store) (take m.read text)
  pub long : fits m.bench store' ≡ true

pub begins : (text : List ℕ) (s : Bench) (store : List ℕ) → fits s store ≡ true → Going text s store (record { bench = s; read = 0 }) store
unfolding after_all
begins text s store f = record { most = omega arith; keeps = refl; long = f }

module _ (text : List ℕ) (s : Bench) (store : List ℕ) (m : Fed) (store' : List ℕ) (g : Going text s store m store') where
  pub turn : m.read < length text → (r : Fed) (store'' : List ℕ) → MovesSome text m.read m.bench store' r store''
      → Going text s store r store''
  turn h r store'' p =
      let n : ℕ = r.read - m.read in
      let next : List ℕ = take n (drop m.read text) in
      let sum : m.read + n ≡ r.read = omega (arith, p.moves h) in
      record {
        most = p.most (omega arith);
        keeps =
            p.keeps ∙ ap (λ (x : State). after_all x next) g.keeps
            ∙ sym (after-pieces (state_of s store) (take m.read text) next)
            ∙ ap (after_all (state_of s store)) (sym (take-add m.read n text) ∙ ap (λ (k : ℕ). take k text) sum);
        long = p.long;
      }

  -- The piece is read to its end.
  pub ends : length text ≤ m.read → MovesAll text s store m store'
  ends h = record { read = omega (arith, g.most); keeps = g.keeps ∙ ap (after_all (state_of s store)) (take_all m.read text h); long = g.long }
