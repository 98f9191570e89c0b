-- The paper's text and small ones, with the bytes that they print, by computing. Assumes nothing.
use Rattle.std.specs.Prelude.{ℕ, List, [], ◌≡◌, refl}
use Prim.Native.String.{String}
use Rattle.laws.specs.Decimal.{decimal, decimal_in, value_from}
use Rattle.laws.specs.Every.{every}
use Rattle.laws.specs.Letters.{bytes}
use Rattle.laws.specs.Members.{has, distinct, same}
use Rattle.model.specs.Lines as model
use Rattle.table.specs.Layout.{is_table}
use Rattle.words.specs.Checks.{up_to}
use Rattle.words.specs.Words.{row_at, rows, encode, read, chunks_of, block_of, chunk_ok, all_ok, none_free, rules, sound, decode}
use Rattle.opening.specs.Creation.{new_on}
use Rattle.opening.specs.Questions.{allocated_on}
use Rattle.placing.specs.Placing.{allocate_on}
use Rattle.giving_back.specs.GivingBack.{free_on}
use Rattle.call_lines.specs.Format.{cut, ended, lines, fields, all_digits, number_of, numbers_of, asked_by, asked_in, read_line}
use Rattle.bench_step.specs.Step.{new_answered, call_answered}
use Rattle.bench_lines.specs.Text.{printed_from, output}

-- what a quoted text prints, open to computing
unfoldable pub prints : String → List ℕ
unfolding output printed_from lines ended cut read_line fields asked_in asked_by numbers_of number_of all_digits value_from decimal decimal_in bytes new_answered call_answered new_on up_to allocated_on is_table decode sound rules none_free all_ok chunk_ok block_of chunks_of read encode rows row_at every has distinct same allocate_on free_on model.lines
prints s = output (bytes s)

-- The paper's input prints exactly the paper's lines.
paper :
    prints "n 4096 8\na 100 1 1 1024 7\na 256 64 2 1024 8\nf 2\nf 2\n"
    ≡ bytes "0 0 0 0\n0 0 2 100\n0 1024 3 1280\n0 0 0 1180\n10 0 0 1180\n"
unfolding prints
paper = refl

-- Its last line needs no line feed.
unfed_last :
    prints "n 4096 8\na 100 1 1 1024 7\na 256 64 2 1024 8\nf 2\nf 2"
    ≡ bytes "0 0 0 0\n0 0 2 100\n0 1024 3 1280\n0 0 0 1180\n10 0 0 1180\n"
unfolding prints
unfed_last = refl

-- No text prints nothing, and an empty line is unreadable.
no_text : prints "" ≡ []
unfolding prints
no_text = refl

empty_line : prints "\n" ≡ bytes "?\n"
unfolding prints
empty_line = refl

-- A call without a block, and one more.
no_block : prints "f 1\na 1 1 1 1 0\n" ≡ bytes "?\n?\n"
unfolding prints
no_block = refl

-- The block lives on after an unreadable line, and after slots outside 1 to 512.
lives-on :
    prints "n 16 2\na 4 1 1 1 0\nF 2\n\nn 8 0\nn 0 513\nf 2 \nf 2\n" ≡ bytes "0 0 0 0\n0 0 2 4\n?\n?\n?\n?\n?\n0 0 0 0\n"
unfolding prints
lives-on = refl

-- A refused block ends the one before it, and the next one is a fresh one.
ends :
    prints "n 16 2\na 4 1 1 1 0\nn 0 2\nf 2\na 4 1 1 1 0\nn 8 1\nf 2\na 8 1 2 1 0\n"
    ≡ bytes "0 0 0 0\n0 0 2 4\n13 0 0 0\n?\n?\n0 0 0 0\n10 0 0 0\n0 0 1 8\n"
unfolding prints
ends = refl

-- An accepted one ends it too, also one of the same size and slots.
opened-again : prints "n 16 2\na 4 1 1 1 0\nn 16 2\nf 2\n" ≡ bytes "0 0 0 0\n0 0 2 4\n0 0 0 0\n10 0 0 0\n"
unfolding prints
opened-again = refl

-- A refusal tells what is allocated, and changes nothing.
refusals :
    prints "n 16 2\na 4 1 1 1 0\na 0 1 1 1 0\na 4 3 1 1 0\na 4 1 1 0 0\na 4 1 0 1 0\na 13 1 1 1 0\na 4 1 1 1 0\nf 7\nf 2\n"
    ≡ bytes "0 0 0 0\n0 0 2 4\n3 0 0 4\n4 0 0 4\n5 0 0 4\n6 0 0 4\n7 0 0 4\n9 0 0 4\n10 0 0 4\n0 0 0 0\n"
unfolding prints
refusals = refl
