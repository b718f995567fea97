-- Bytes and segments compared one after the other: the i-th and those after it.
use Rattle.std.proofs.Common.{◌≡◌, ℕ, ◌+◌, ◌*◌, ◌-◌, ◌/◌, ◌^◌, ◌≤◌, ◌<◌, List, length, get_or, drop, Bool, true, ◌&&◌, eqb, arith, add-one, drop-cons, drop_of_length-le}
use mathlib.Core.Path.{ap₂}
use Rattle.bpf.specs.Bytes.{be}
use Rattle.direct.specs.Reading.{segments_agree, bytes_are}

module _ (f : List ℕ) (at : ℕ) (xs : List ℕ) (i : ℕ) where
  pub bytes_on : i < length xs → bytes_are f at (drop i xs) ≡ (eqb (be 1 at f) (get_or xs i 0) && bytes_are f (at + 1) (drop (i + 1) xs))
  unfolding bytes_are
  bytes_on h = rw (drop-cons xs i 0 h, add-one i)

  pub bytes_end : length xs ≤ i → bytes_are f at (drop i xs) ≡ true
  unfolding bytes_are
  bytes_end h = rw (drop_of_length-le xs h)

module _ (f : List ℕ) (p at : ℕ) (xs : List ℕ) where
  unfoldable pub segments_from : ℕ → Bool
  segments_from i = segments_agree f (p - 16 * i) (at + 2 * i) (drop i xs)

  pub segments_start : segments_from 0 ≡ segments_agree f p at xs
  unfolding segments_from
  segments_start = ap₂ (λ q a. segments_agree f q a xs) (omega arith) (omega arith)

  pub segments_on : (i : ℕ) → i < length xs
      → segments_from i ≡ (eqb (be 2 (at + 2 * i) f / 2 ^ (16 - (p - 16 * i))) (get_or xs i 0 / 2 ^ (16 - (p - 16 * i))) && segments_from (i + 1))
  unfolding segments_from segments_agree
  segments_on i h =
      let k : at + 2 * (i + 1) ≡ at + 2 * i + 2 = omega arith in
      let q : p - 16 * (i + 1) ≡ p - 16 * i - 16 = omega arith in
      rw (drop-cons xs i 0 h, k, q, add-one i)

  pub segments_end : (i : ℕ) → length xs ≤ i → segments_from i ≡ true
  unfolding segments_from segments_agree
  segments_end i h = rw (drop_of_length-le xs h)
