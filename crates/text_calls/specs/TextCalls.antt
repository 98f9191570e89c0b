-- Byte text at the boundary: the numbers that stand for each answer. Assumes nothing.
use Rattle.std.specs.Prelude.{ℕ, List}
use Rattle.laws.specs.Reply.{Reply, accepted, refused}

-- the number given back, the count of bytes written, which is 0 on a refusal, and the buffer
abbrev pub bytes_out : Reply ℕ → List ℕ → ℕ × (ℕ × List ℕ)
bytes_out (accepted bytes) buf = (0, (bytes, buf))
bytes_out (refused n) buf = (n, (0, buf))

-- the same of a reply and its buffer together
abbrev pub text_out : Reply ℕ × List ℕ → ℕ × (ℕ × List ℕ)
text_out answer = bytes_out answer.0 answer.1
