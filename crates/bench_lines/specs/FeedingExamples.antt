-- Small texts fed in, in stores and buffers that are just long enough or just too short, by computing. Assumes nothing.
use Rattle.std.specs.Prelude.{ℕ, true, false, List, [], ◌∷◌, ◌++◌, ◌≡◌, refl, length, take, replicate}
use Prim.Native.String.{String}
use Rattle.laws.specs.Letters.{bytes}
use Rattle.laws.specs.Splice.{splice}
use Rattle.table.specs.Layout.{most_words}
use Rattle.call_lines.specs.Reading as reading
use Rattle.answer_lines.specs.Printed.{longest}
use Rattle.bench_lines.specs.Feeding.{FedKept, begin, is_begun, fits, has_room, ended_on, taken_on, fed_from, feed_on}
use Rattle.bench_lines.specs.Pieces.{Turn, Left, Reads, printed_in, left_after, end_printed}
use Rattle.bench_lines.specs.TextExamples.{prints}
use Rattle.bench_lines.specs.declared.Bench.{Bench}

-- what is kept between two lines
abbrev between : ℕ → ℕ → Bench
between lent used = record { line = reading.fresh; lent = lent; used = used }

-- a text fed in from a place on, in a store and a buffer of so many old words and bytes, open to computing
fed : String → ℕ → Bench → ℕ → ℕ → FedKept
unfolding prints feed_on fed_from taken_on ended_on fits has_room splice reading.fed reading.with_digit reading.with_space reading.with_letter reading.is_letter reading.letter_of reading.is_asking reading.asked
fed text from s store out = feed_on (bytes text) from s (replicate store 9) (replicate out 9)

-- ---- room for answers

-- A buffer of 84 bytes takes one answer, and then nothing more is read.
one_answer_lem : (fed "x\ny\n" 0 begin 3588 84).0 ≡ record { bench = between 0 2; read = 2 }
unfolding fed
one_answer_lem = refl

one_answer-out : (fed "x\ny\n" 0 begin 3588 84).2 ≡ bytes "?\n" ++ replicate 82 9
unfolding fed
one_answer-out = refl

-- From there on the buffer is written from its front again.
second_answer : (fed "x\n 12\n" 2 (between 0 2) 3588 84).0 ≡ record { bench = between 0 2; read = 6 }
unfolding fed
second_answer = refl

-- 86 bytes take two, one behind the other.
two_answers : (fed "x\ny\nz" 0 begin 3588 86).0 ≡ record { bench = between 0 4; read = 4 }
unfolding fed
two_answers = refl

two_answers_out : (fed "x\ny\nz" 0 begin 3588 86).2 ≡ bytes "?\n?\n" ++ replicate 82 9
unfolding fed
two_answers_out = refl

-- In one of 83 not a byte is read, and none is written.
no_room : (fed "x\n" 0 begin 3588 83).0 ≡ record { bench = between 0 0; read = 0 }
unfolding fed
no_room = refl

no_room_out : (fed "x\n" 0 begin 3588 83).2 ≡ replicate 83 9
unfolding fed
no_room_out = refl

-- Behind the text there is nothing to read.
behind : (fed "x\n" 3 begin 3588 84).0 ≡ record { bench = between 0 0; read = 3 }
unfolding fed
behind = refl

-- ---- the store

-- A new block has its words first in the store, which keeps its others.
opened : (fed "n 4096 1\n" 0 begin 3588 84).0 ≡ record { bench = between 11 8; read = 9 }
unfolding fed
opened = refl

opened-words :
    take 12 (fed "n 4096 1\n" 0 begin 3588 84).1 ≡ 4096 ∷ 0 ∷ 2 ∷ 1 ∷ 1 ∷ 4096 ∷ 0 ∷ 0 ∷ 0 ∷ 0 ∷ 0 ∷ 9 ∷ []
unfolding fed
opened-words = refl

opened-length : length (fed "n 4096 1\n" 0 begin 3588 84).1 ≡ 3588
unfolding fed
opened-length = refl

-- A refused one leaves none.
ended : (fed "n 0 1\n" 0 (between 11 0) 3588 84).0 ≡ record { bench = between 0 9; read = 6 }
unfolding fed
ended = refl

-- In a store of 3587 words nothing is read, and nothing if the block at hand has more words than the store.
short_store : (fed "x\n" 1 (between 0 5) 3587 84).0 ≡ record { bench = between 0 0; read = 1 }
unfolding fed
short_store = refl

short_store_out : (fed "x\n" 0 begin 3587 84).2 ≡ replicate 84 9
unfolding fed
short_store_out = refl

short_for_block : (fed "x\n" 0 (between 3589 5) 3588 84).0 ≡ record { bench = between 3589 0; read = 0 }
unfolding fed
short_for_block = refl

-- ---- a line that goes on

-- Two bytes of a line leave it begun, and its rest ends it.
begun : is_begun (fed "f 7" 0 begin 3588 84).0.bench ≡ true
unfolding fed reading.is_begun
begun = refl

goes_on_lem : (fed "\n" 0 (fed "f 7" 0 (between 11 0) 3588 84).0.bench 3588 84).2 ≡ bytes "2 0 0 0\n" ++ replicate 76 9
unfolding fed
goes_on_lem = refl

not_begun : is_begun (fed "f 7\n" 0 begin 3588 84).0.bench ≡ false
unfolding fed reading.is_begun
not_begun = refl

unread_begun : is_begun (fed " " 0 begin 3588 84).0.bench ≡ true
unfolding fed reading.is_begun
unread_begun = refl

-- At first no line is begun.
begin-not_begun : is_begun begin ≡ false
unfolding reading.is_begun
begin-not_begun = refl

-- ---- calls one after the other

-- a text in two pieces, of which the second takes two calls, each in a buffer that takes one answer
abbrev one_answer : String → ℕ → Turn
one_answer text from = record { text = bytes text; from = from; out = replicate longest 9 }

abbrev three_turns : List Turn
three_turns = one_answer "n 40" 0 ∷ one_answer "96 1\nf 7" 0 ∷ one_answer "96 1\nf 7" 5 ∷ []

abbrev at_first : Left
at_first = (begin, replicate most_words 9)

-- They read the whole text, and print the answer of its first line.
all_pieces : Reads three_turns at_first (bytes "n 4096 1\nf 7") []
unfolding fed Reads
all_pieces = ((bytes "96 1\nf 7", refl), (([], refl), (([], refl), refl)))

first-printed : printed_in three_turns at_first ≡ bytes "0 0 0 0\n"
unfolding fed printed_in
first-printed = refl

-- The last one has no line feed: it gets one, and its answer.
last_printed : end_printed (left_after three_turns at_first) (replicate longest 9) ≡ bytes "10 0 0 0\n"
unfolding fed left_after reading.is_begun
last_printed = refl
