-- The product that gives an id its bucket, factor by factor. Assumes nothing.
use Rattle.std.proofs.Common.{◌≡◌, ℕ, ◌+◌, ◌-◌, ◌*◌, ◌/◌, ◌%◌, ◌^◌, ◌<◌, sym, ap, ◌∙◌, mul_assoc, mul_comm, add-mul, add_comm, div-add-mod'}
use Rattle.std.proofs.Math.Nat.{add-mul-mod_self_right}
use Rattle.std.specs.Int.Bits.{bit_xor}
use Rattle.words.specs.Ids.{bucket_of, bucket_below}

-- A factor more, of what stayed below m.
factor : (a f m : ℕ) → a % m * f % m ≡ a * f % m
factor a f m =
    sym
    (ap (λ (n : ℕ). n * f % m) (sym (div-add-mod' a m))
    ∙ ap (λ (n : ℕ). n % m) (add-mul (a / m * m) (a % m) f ∙ add_comm (a / m * m * f) (a % m * f))
    ∙ ap (λ (n : ℕ). (a % m * f + n) % m) (mul_assoc (a / m) m f ∙ ap (λ (n : ℕ). a / m * n) (mul_comm m f) ∙ sym (mul_assoc (a / m) f m))
    ∙ add-mul-mod_self_right (a % m * f) (a / m * f) m)

more : (x y a f : ℕ) → x ≡ a % 2 ^ 64 → y ≡ x * f % 2 ^ 64 → y ≡ a * f % 2 ^ 64
more x y a f p q = q ∙ ap (λ (n : ℕ). n * f % 2 ^ 64) p ∙ factor a f (2 ^ 64)

-- What is left after four factors has the bucket in its top nine bits.
pub spread_is : (id z a b c d : ℕ) → z ≡ (id + (2 ^ 64 - 1)) % 2 ^ 64 → a ≡ bit_xor z 1448498774 * (2 ^ 8 + 1) % 2 ^ 64 → b ≡ a * (2 ^ 9 + 1) % 2 ^ 64 → c ≡ b * (2 ^ 14 + 1) % 2 ^ 64 →
    d ≡ c * (2 ^ 26 + 1) % 2 ^ 64 → d / 2 ^ 55 ≡ bucket_of id
unfolding bucket_of
spread_is id z a b c d o p q r s =
    ap (λ (n : ℕ). n / 2 ^ 55) (more c d _ (2 ^ 26 + 1) (more b c _ (2 ^ 14 + 1) (more a b _ (2 ^ 9 + 1) (p ∙ ap (λ (n : ℕ). bit_xor n 1448498774 * (2 ^ 8 + 1) % 2 ^ 64) o) q) r) s)

pub in_range : (h id : ℕ) → h ≡ bucket_of id → h < 512
in_range h id e = rw e (bucket_below id)
