-- The tests of a net, one segment after another.
use Rattle.std.proofs.Common.{suc, ◌*◌, arith}
use Rattle.error.proofs.All.{either}
use Rattle.codegen.specs.Block.{Block}
use lib.Dec.{eqb}
use mathlib.Core.Path.{◌≡◌, ap₂, ◌∙◌}
use mathlib.Core.List.{List, [], ◌∷◌, ◌++◌}
use Prim.Native.Nat.{ℕ, ◌+◌, ◌<◌, ◌≤◌}
use native.Mathlib.Numerals.{add-one}
use borrow.Author.Tests.{ne_eqb}
use mir.Syntax.{w16}
use mir.Val.{Val}
use denote.Shadow.{shadow}
use denote.Array.{each}
use denote.Plain.{UInt}
use lib.ListN.{length, get_or, drop, drop_of_length-le}
use lib.Seq.{drop-cons}
use Rattle.bpf.specs.Program.{Each}
use Rattle.ast.proofs.Proper.{Half}
use Rattle.codegen.specs.declared.Width.TheVariants as W
use Rattle.codegen.specs.Emit.{check}
use Rattle.codegen.specs.Nets6.{last_test, tests}

-- the elements of an array of 16-bit numbers
pub halves : (xs : List ℕ) (us : List Val) → shadow (each ℕ (UInt w16).own_val xs us) → Each Half xs
halves [] us s = tt
halves (x ∷ xs) [] s = absurd s
halves (x ∷ xs) (u ∷ us) s = (s.0.1, halves xs us s.1)

module _ (ms es : List ℕ) (at i : ℕ) where
  pub tests_more : i < length ms → i < length es → get_or ms i 0 ≡ 0xffff
      → tests (drop i ms) (drop i es) at ≡ check W.Half at (get_or es i 0) ++ tests (drop (i + 1) ms) (drop (i + 1) es) (at + 2)
  unfolding tests
  tests_more h k e = ap₂ (λ a b. tests a b at) (drop-cons ms i 0 h) (drop-cons es i 0 k) ∙ rw (e, add-one)

  pub tests_last : i < length ms → i < length es → (get_or ms i 0 ≡ 0xffff → ⊥) → tests (drop i ms) (drop i es) at ≡ last_test (get_or ms i 0) (get_or es i 0) at
  unfolding tests
  tests_last h k e = ap₂ (λ a b. tests a b at) (drop-cons ms i 0 h) (drop-cons es i 0 k) ∙ rw (ne_eqb (get_or ms i 0) 0xffff e)

  pub tests_end : length ms ≤ i → tests (drop i ms) (drop i es) at ≡ []
  unfolding tests
  tests_end h = rw (drop_of_length-le ms h)

-- ---- how many lines they have

-- two lines for each segment, and one more for a mask
tests_size : (ms es : List ℕ) (at : ℕ) → length (tests ms es at) ≤ 2 * length ms + 1
unfolding tests
tests_size [] es at = omega arith
tests_size (m ∷ ms) [] at = omega arith
tests_size (m ∷ ms) (e ∷ es) at =
    let k = tests_size ms es (at + 2) in
    either (λ (b : Block). length b ≤ 2 * suc (length ms) + 1) (eqb m 0xffff) (omega arith)
    (either (λ (b : Block). length b ≤ 2 * suc (length ms) + 1) (eqb m 0) (omega arith) (omega arith))

pub tests_short : (ms es : List ℕ) (at : ℕ) → length ms ≡ 8 → length (tests ms es at) ≤ 17
tests_short ms es at e = omega (arith, tests_size ms es at)
