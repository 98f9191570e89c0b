-- A text that is fed in by any number of calls: together they print what its lines print. Assumes nothing.
use Rattle.std.specs.Prelude.{ℕ, ◌-◌, ◌≤◌, true, cond, List, [], ◌∷◌, ◌++◌, ◌≡◌, length, take, drop}
use Rattle.answer_lines.specs.Printed.{longest}
use Rattle.bench_lines.specs.Feeding.{FedKept, is_begun, fits, feed_on}
use Rattle.bench_lines.specs.Fed.{state_of}
use Rattle.bench_lines.specs.Told.{State, after_all, told}
use Rattle.bench_lines.specs.declared.Bench.{Bench}

-- ---- one call

-- what a call is handed: a piece of the text, the place in it to read on from, and the buffer
pub record Turn : Type 0 where
  pub text : List ℕ
  pub from : ℕ
  pub out : List ℕ

-- what is kept, and the store
abbrev pub Left : Type 0
Left = Bench × List ℕ

module _ (t : Turn) (l : Left) where
  abbrev pub fedBy : FedKept
  fedBy = feed_on t.text t.from l.0 l.1 t.out

  abbrev pub leftBy : Left
  leftBy = (fedBy.0.bench, fedBy.1)

  -- how many bytes it reads, and which
  abbrev pub countBy : ℕ
  countBy = fedBy.0.read - t.from

  abbrev pub read_by : List ℕ
  read_by = take countBy (drop t.from t.text)

  -- the bytes of the buffer that are written
  abbrev pub printedBy : List ℕ
  printedBy = take fedBy.0.bench.used fedBy.2

-- ---- calls one after the other, each with what the one before it left

unfoldable pub left_after : List Turn → Left → Left
left_after [] l = l
left_after (t ∷ ts) l = left_after ts (leftBy t l)

unfoldable pub read_in : List Turn → Left → List ℕ
read_in [] l = []
read_in (t ∷ ts) l = read_by t l ++ read_in ts (leftBy t l)

unfoldable pub printed_in : List Turn → Left → List ℕ
printed_in [] l = []
printed_in (t ∷ ts) l = printedBy t l ++ printed_in ts (leftBy t l)

-- ---- what they print

abbrev pub state_left : Left → State
state_left l = state_of l.0 l.1

-- Any calls, whatever their pieces, places and buffers, print together what the bytes that they read print, and leave what these
-- leave, in a store that is as long as it was and long enough for the next call.
pub record Turns (ts : List Turn) (l : Left) : Type 0 where
  pub prints : printed_in ts l ≡ told (state_left l) (read_in ts l)
  pub keeps : state_left (left_after ts l) ≡ after_all (state_left l) (read_in ts l)
  pub long : fits (left_after ts l).0 (left_after ts l).1 ≡ true
  pub stays : length (left_after ts l).1 ≡ length l.1

-- ---- a whole text

-- the calls read a text, up to its rest: each is offered some first bytes of what is left of it, and what it does not read of them
-- is offered again
unfoldable pub Reads : List Turn → Left → List ℕ → List ℕ → Type 0
Reads [] l text rest = text ≡ rest
Reads (t ∷ ts) l text rest =
    ((more : List ℕ) × (text ≡ drop t.from t.text ++ more)) × Reads ts (leftBy t l) (drop (countBy t l) text) rest

-- each is offered a byte at least, and has room for an answer
unfoldable pub AllRoomy : List Turn → Type 0
AllRoomy [] = Unit {0}
AllRoomy (t ∷ ts) = ((longest ≤ length t.out) × (1 ≤ length (drop t.from t.text))) × AllRoomy ts

-- ---- the last line

-- one line feed more
abbrev pub line_feed : List ℕ → Turn
line_feed out = record { text = 10 ∷ []; from = 0; out = out }

-- it is fed in exactly where a line is begun
abbrev pub end_printed : Left → List ℕ → List ℕ
end_printed l out = cond (is_begun l.0) (printedBy (line_feed out) l) []
