-- A list with another written over a part of it. Assumes nothing.
use Rattle.std.specs.Prelude.{ℕ, ◌+◌, ◌≤◌, ◌<◌, ◌≡◌, set}
use Rattle.std.proofs.Math.Path.{sym, ap}
use Rattle.std.proofs.Common.{◌∙◌, add-zero, add_assoc, arith, length-append, take-append-drop}
use mathlib.Core.List.{List, [], ◌∷◌, ◌++◌, append_assoc}
use Rattle.std.proofs.Math.Nat.{zero-add}
use Rattle.std.proofs.Math.ListN.{length, take, drop}
use Rattle.std.proofs.Math.Seq.{length-take-le, take-append_seam, take_at, drop-append-add, drop-drop}
use Rattle.std.proofs.lemmas.List.Edits.{sets, sets-eq}

module _ {A : Type 0} where
  -- xs, with ys written over it from the place at on
  unfoldable pub splice : List A → ℕ → List A → List A
  splice xs at ys = take at xs ++ (ys ++ drop (at + length ys) xs)

  -- A run of stores, one place after another.
  pub splice-sets : (xs : List A) (at : ℕ) (ys : List A) → at + length ys ≤ length xs → splice xs at ys ≡ sets xs at ys
  unfolding splice
  splice-sets xs at ys h = sym (sets-eq ys xs at h ∙ append_assoc (take at xs) ys (drop (at + length ys) xs))

  -- A single element is a store.
  pub splice-one : (xs : List A) (at : ℕ) (b : A) → at < length xs → splice xs at (b ∷ []) ≡ set xs at b
  splice-one xs at b h = splice-sets xs at (b ∷ []) (omega arith)

  -- What is written from a place of the list on goes on after it.
  pub splice-on : (xs : List A) (at : ℕ) (s t : List A) → at ≤ length xs →
      splice (splice xs at s) (at + length s) t ≡ splice xs at (s ++ t)
  unfolding splice
  splice-on xs at s t h =
      let p : List A = take at xs ++ s in
      let r : List A = drop (at + length s) xs in
      let e : length p ≡ at + length s = simp (length-append, length-take-le at xs h) in
      let join : take at xs ++ (s ++ r) ≡ p ++ r = sym (append_assoc (take at xs) s r) in
      let front : take (at + length s) (p ++ r) ≡ p = take_at p r (at + length s) e in
      let rest : drop (at + length s + length t) (p ++ r) ≡ drop (at + length (s ++ t)) xs =
      ap (λ k. drop (k + length t) (p ++ r)) (sym e) ∙ drop-append-add p r (length t)
      ∙ drop-drop (length t) (at + length s) xs ∙ simp (length-append, add_assoc) in
      rw (join, front, rest) (simp append_assoc)

  -- It reaches at least as far as what is written.
  pub splice-reaches : (xs : List A) (at : ℕ) (s : List A) → at ≤ length xs → at + length s ≤ length (splice xs at s)
  unfolding splice
  splice-reaches xs at s h =
      let l : length (take at xs) ≡ at = length-take-le at xs h in
      rw (length-append, length-append) (omega arith)

  -- s from at on, and then t behind it, in a list that holds both.
  pub splice-both : (xs ys zs : List A) (at next : ℕ) (s t : List A) → at + length (s ++ t) ≤ length xs →
      next ≡ at + length s → ys ≡ splice xs at s → zs ≡ splice ys next t → zs ≡ splice xs at (s ++ t)
  splice-both xs ys zs at next s t h n a b =
      b ∙ ap (λ l. splice l next t) a ∙ ap (λ k. splice (splice xs at s) k t) n
      ∙ splice-on xs at s t (omega arith)

  -- At the front the text comes first, and then what it does not cover.
  pub splice_front : (xs ys : List A) → splice xs 0 ys ≡ ys ++ drop (length ys) xs
  unfolding splice
  splice_front xs ys = rw zero-add

  -- Where nothing is written nothing changes.
  pub splice-none : (xs : List A) (at : ℕ) → splice xs at [] ≡ xs
  unfolding splice
  splice-none xs at = rw (add-zero at) (take-append-drop at xs)

  -- What was written at the front is read there.
  pub take-splice : (xs ys : List A) → take (length ys) (splice xs 0 ys) ≡ ys
  take-splice xs ys = rw (splice_front xs ys) (take-append_seam ys (drop (length ys) xs))
