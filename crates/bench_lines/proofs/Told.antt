-- What a text prints byte by byte is what its lines print. Assumes nothing.
use Rattle.std.specs.Prelude.{ℕ, Bool, true, false, List, [], ◌∷◌, ◌++◌, ◌≡◌, refl, eqb}
use Rattle.std.proofs.Common.{append_assoc, append-nil, sym, ap, ◌∙◌}
use Rattle.laws.specs.Tests.{cond_cases}
use Rattle.call_lines.specs.Format.{cut, ended, lines, read_line, with_first}
use Rattle.call_lines.specs.Reading.{fresh, fed, fed_all}
use Rattle.call_lines.specs.ReadLaws.{none_begun, some_begun, fed-parts}
use Rattle.call_lines.proofs.ReadLaws.{line_read}
use Rattle.call_lines.specs.declared.line.Line.{Line}
use Rattle.answer_lines.specs.Printed.{printed}
use Rattle.bench_step.specs.Step.{Outcome, answered}
use Rattle.bench_lines.specs.Text.{printed_from, output}
use Rattle.bench_lines.specs.Told.{State, comes, after_all, told, last_told, start}

-- ---- line by line

-- a line that begins with p
abbrev within : List ℕ → List ℕ → State
within p ws = record { line = fed_all fresh p; words = ws }

-- it comes to what the format says
within-comes : (p ws : List ℕ) → comes (within p ws) ≡ answered (read_line p) ws
within-comes p ws = ap (λ a. answered a ws) (line_read p)

-- the pieces, the first of which goes on after p
abbrev goes_on : List ℕ → List (List ℕ) → List (List ℕ)
goes_on p [] = p ∷ []
goes_on p (q ∷ qs) = (p ++ q) ∷ qs

-- the last piece is a line if it has a byte
last_line : (p ws : List ℕ) → last_told (within p ws) ≡ printed_from ws (ended (p ∷ []))
unfolding last_told ended printed_from
last_line [] ws = rw none_begun
last_line (b ∷ p) ws =
    rw (some_begun b p) (ap (λ (x : Outcome). printed x.0) (within-comes (b ∷ p) ws) ∙ sym (append-nil (printed (answered (read_line (b ∷ p)) ws).0)))

-- there is always a piece
pieces : (c : ℕ) (t : List ℕ) → (q : List ℕ) × (qs : List (List ℕ)) × (cut c t ≡ q ∷ qs)
unfolding cut
pieces c [] = ([], [], refl)
pieces c (b ∷ s) =
    cond_cases (λ (x : List (List ℕ)). (q : List ℕ) × (qs : List (List ℕ)) × (x ≡ q ∷ qs)) (eqb b c)
    (λ e. ([], cut c s, refl)) (λ e. first (cut c s))
  where
    first : (ps : List (List ℕ)) → (q : List ℕ) × (qs : List (List ℕ)) × (with_first b ps ≡ q ∷ qs)
    first [] = (b ∷ [], [], refl)
    first (p ∷ ps) = (b ∷ p, ps, refl)

-- before it, a piece is a line,
line_first : (p t : List ℕ) → ended (p ∷ cut 10 t) ≡ p ∷ ended (cut 10 t)
unfolding ended
line_first p t = let h = pieces 10 t in rw h.2 (at p h.0 h.1)
  where
    at : (p q : List ℕ) (qs : List (List ℕ)) → ended (p ∷ q ∷ qs) ≡ p ∷ ended (q ∷ qs)
    at [] q qs = refl
    at (b ∷ p) q qs = refl

-- and after nothing it goes on as it is
goes_on-none : (t : List ℕ) → goes_on [] (cut 10 t) ≡ cut 10 t
goes_on-none t = let h = pieces 10 t in rw h.2

-- a byte goes on with the piece
goes_on-byte : (p : List ℕ) (b : ℕ) (ps : List (List ℕ)) → goes_on p (with_first b ps) ≡ goes_on (p ++ (b ∷ [])) ps
goes_on-byte p b [] = refl
goes_on-byte p b (q ∷ qs) = ap (λ (x : List ℕ). x ∷ qs) (sym (append_assoc p (b ∷ []) q))

-- from within a line on, the bytes print what the rest of the lines do
abbrev Goes : List ℕ → List ℕ → List ℕ → Type 0
Goes t p ws = told (within p ws) t ++ last_told (after_all (within p ws) t) ≡ printed_from ws (ended (goes_on p (cut 10 t)))

-- at a line feed,
at-feed : (t p ws : List ℕ) → Goes t [] (comes (within p ws)).1
    → (printed (comes (within p ws)).0 ++ told (within [] (comes (within p ws)).1) t) ++ last_told (after_all (within [] (comes (within p ws)).1) t)
    ≡ printed_from ws (ended ((p ++ []) ∷ cut 10 t))
unfolding printed_from
at-feed t p ws ih =
    let o : Outcome = comes (within p ws) in
    append_assoc (printed o.0) _ _
    ∙ ap (λ (x : List ℕ). printed o.0 ++ x) (ih ∙ ap (λ (ps : List (List ℕ)). printed_from o.1 (ended ps)) (goes_on-none t))
    ∙ ap (λ (x : Outcome). printed x.0 ++ printed_from x.1 (ended (cut 10 t))) (within-comes p ws)
    ∙ sym (ap (printed_from ws) (ap (λ (x : List ℕ). ended (x ∷ cut 10 t)) (append-nil p) ∙ line_first p t))

-- and at any other byte
at_byte : (b : ℕ) (t p ws : List ℕ) → Goes t (p ++ (b ∷ [])) ws
    → told (record { line = fed (fed_all fresh p) b; words = ws }) t
    ++ last_told (after_all (record { line = fed (fed_all fresh p) b; words = ws }) t)
    ≡ printed_from ws (ended (goes_on p (with_first b (cut 10 t))))
unfolding fed_all
at_byte b t p ws ih =
    ap (λ (l : Line). told (record { line = l; words = ws }) t ++ last_told (after_all (record { line = l; words = ws }) t)) (sym (fed-parts fresh p (b ∷ [])))
    ∙ ih ∙ ap (λ (ps : List (List ℕ)). printed_from ws (ended ps)) (sym (goes_on-byte p b (cut 10 t)))

by_byte : (b : ℕ) (t p ws : List ℕ) → Goes t [] (comes (within p ws)).1 → Goes t (p ++ (b ∷ [])) ws → Goes (b ∷ t) p ws
unfolding told after_all cut fed_all
by_byte b t p ws feed byte = go (eqb b 10) refl
  where
    go : (x : Bool) → eqb b 10 ≡ x → Goes (b ∷ t) p ws
    go true e = rw e (at-feed t p ws feed)
    go false e = rw e (at_byte b t p ws byte)

goes : (t p ws : List ℕ) → Goes t p ws
unfolding told after_all cut
goes [] p ws = rw (append-nil p) (last_line p ws)
goes (b ∷ t) p ws = by_byte b t p ws (goes t [] (comes (within p ws)).1) (goes t (p ++ (b ∷ [])) ws)

-- What a text prints byte by byte, with its last line, is what its lines print: on every text.
pub text_told : (text : List ℕ) → told start text ++ last_told (after_all start text) ≡ output text
unfolding output lines fed_all
text_told text = goes text [] [] ∙ ap (λ (ps : List (List ℕ)). printed_from [] (ended ps)) (goes_on-none text)
