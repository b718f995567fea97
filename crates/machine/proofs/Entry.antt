-- A program that is not refused is at most 32,768 bytes long.
use Rattle.std.proofs.Common.{◌≡◌, ℕ, ◌%◌, ◌≤◌, false, not, ◌||◌, eqb, ltb}
use native.Mathlib.Omega.{arith}
use Rattle.std.proofs.lemmas.Bool.Decides.{nat_tests}

pub odd_long : (n : ℕ) → (eqb n 0 || (ltb 32768 n || not (eqb (n % 8) 0))) ≡ false → n ≤ 32768
odd_long n h = grind (arith, nat_tests)
