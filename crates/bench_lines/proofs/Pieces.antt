-- A text that is fed in by any number of calls: together they print what its lines print. Assumes nothing.
use Rattle.std.specs.Prelude.{ℕ, ◌+◌, ◌-◌, ◌≤◌, true, cond, List, [], ◌∷◌, ◌++◌, ◌≡◌, refl, length, take, drop}
use Rattle.std.proofs.Common.{arith, append_assoc, append-nil, sym, ap, ◌∙◌, length-append, length-drop, take-append-drop}
use Rattle.std.proofs.lemmas.List.{drop-append-le}
use Rattle.answer_lines.specs.Printed.{printed, longest}
use Rattle.bench_lines.specs.Feeding.{begin, is_begun, fits}
use Rattle.bench_lines.specs.Fed.{Feeds}
use Rattle.bench_lines.proofs.FedLaws.{feeds}
use Rattle.bench_lines.specs.Told.{State, comes, after_all, told, last_told, start, after-pieces, told-pieces}
use Rattle.bench_lines.proofs.Told.{text_told}
use Rattle.bench_lines.specs.Text.{output}
use Rattle.bench_lines.specs.Pieces.{Turn, Left, fedBy, leftBy, countBy, read_by, printedBy, left_after, read_in, printed_in, state_left, Turns, Reads, AllRoomy, line_feed, end_printed}

-- ---- one call, and calls one after the other

module _ (t : Turn) (l : Left) (f : fits l.0 l.1 ≡ true) where
  one : Feeds t.text t.from l.0 l.1 t.out (fedBy t l)
  one = feeds t.text t.from l.0 l.1 t.out f

  -- the place moves by as many bytes as are read
  count : countBy t l ≡ one.bytes
  count = omega (arith, one.read)

  read : take one.bytes (drop t.from t.text) ≡ read_by t l
  read = ap (λ (n : ℕ). take n (drop t.from t.text)) (sym count)

  turn-prints : printedBy t l ≡ told (state_left l) (read_by t l)
  turn-prints = one.prints ∙ ap (told (state_left l)) read

  turn-keeps : state_left (leftBy t l) ≡ after_all (state_left l) (read_by t l)
  turn-keeps = one.keeps ∙ ap (after_all (state_left l)) read

pub turns : (ts : List Turn) (l : Left) → fits l.0 l.1 ≡ true → Turns ts l
unfolding left_after read_in printed_in told after_all
turns [] l f = record { prints = refl; keeps = refl; long = f; stays = refl }
turns (t ∷ ts) l f =
    let p = one t l f in
    let q = turns ts (leftBy t l) p.long in
    let same : state_left (leftBy t l) ≡ after_all (state_left l) (read_by t l) = turn-keeps t l f in
    record {
      prints =
          ap (λ (x : List ℕ). x ++ printed_in ts (leftBy t l)) (turn-prints t l f)
          ∙ ap (λ (x : List ℕ). told (state_left l) (read_by t l) ++ x) (q.prints ∙ ap (λ (s : State). told s (read_in ts (leftBy t l))) same)
          ∙ sym (told-pieces (state_left l) (read_by t l) (read_in ts (leftBy t l)));
      keeps =
          q.keeps ∙ ap (λ (s : State). after_all s (read_in ts (leftBy t l))) same
          ∙ sym (after-pieces (state_left l) (read_by t l) (read_in ts (leftBy t l)));
      long = q.long;
      stays = q.stays ∙ p.stays;
    }

-- ---- a whole text

-- They read all of it but the rest, each byte once.
pub all_read : (ts : List Turn) (l : Left) (text rest : List ℕ) → fits l.0 l.1 ≡ true → Reads ts l text rest
    → read_in ts l ++ rest ≡ text
unfolding Reads read_in
all_read [] l text rest f e = sym e
all_read (t ∷ ts) l text rest f ((more, e), h) =
    let p = one t l f in
    let n = countBy t l in
    let offered : List ℕ = drop t.from t.text in
    append_assoc (read_by t l) (read_in ts (leftBy t l)) rest
    ∙ ap (λ (x : List ℕ). read_by t l ++ x) (all_read ts (leftBy t l) (drop n text) rest p.long h)
    ∙ ap (λ (x : List ℕ). read_by t l ++ drop n x) e
    ∙ ap (λ (x : List ℕ). read_by t l ++ x) (drop-append-le n offered more (omega (arith, count t l f, p.most)))
    ∙ sym (append_assoc (read_by t l) (drop n offered) more)
    ∙ ap (λ (x : List ℕ). x ++ more) (take-append-drop n offered) ∙ sym e

-- Then each reads a byte at least: no text needs more calls than it has bytes.
pub turns_move : (ts : List Turn) (l : Left) (text rest : List ℕ) → fits l.0 l.1 ≡ true → Reads ts l text rest → AllRoomy ts
    → length ts + length rest ≤ length text
unfolding Reads AllRoomy
turns_move [] l text rest f e r = omega (arith, ap length e)
turns_move (t ∷ ts) l text rest f ((more, e), h) ((room, offered), r) =
    let p = one t l f in
    let ih = turns_move ts (leftBy t l) (drop (countBy t l) text) rest p.long h r in
    let d : length (drop (countBy t l) text) ≡ length text - countBy t l = length-drop (countBy t l) text in
    let a : length text ≡ length (drop t.from t.text) + length more = ap length e ∙ length-append (drop t.from t.text) more in
    omega (arith, ih, count t l f, p.most, p.moves room offered)

-- ---- the last line

-- That prints what a last line without a line feed prints.
pub end-told : (l : Left) (out : List ℕ) → fits l.0 l.1 ≡ true → longest ≤ length out → end_printed l out ≡ last_told (state_left l)
unfolding last_told told
end-told l out f room =
    let p = one (line_feed out) l f in
    let all : p.bytes ≡ 1 = omega (arith, p.most, p.moves room (omega arith)) in
    ap (λ (x : List ℕ). cond (is_begun l.0) x [])
    (p.prints ∙ ap (λ (n : ℕ). told (state_left l) (take n (10 ∷ []))) all ∙ append-nil (printed (comes (state_left l)).0))

-- So any calls that read a whole text, from its first byte on, and then a line feed where a line is begun, print together what the
-- lines of the text print.
pub text_fed : (ts : List Turn) (store text out : List ℕ) → fits begin store ≡ true → Reads ts (begin, store) text []
    → longest ≤ length out → printed_in ts (begin, store) ++ end_printed (left_after ts (begin, store)) out ≡ output text
text_fed ts store text out f h room =
    let l : Left = (begin, store) in
    let p = turns ts l f in
    let whole : read_in ts l ≡ text = sym (append-nil (read_in ts l)) ∙ all_read ts l text [] f h in
    ap (λ (x : List ℕ). x ++ end_printed (left_after ts l) out) (p.prints ∙ ap (told start) whole)
    ∙ ap (λ (x : List ℕ). told start text ++ x)
    (end-told (left_after ts l) out p.long room ∙ ap last_told (p.keeps ∙ ap (after_all start) whole)) ∙ text_told text
