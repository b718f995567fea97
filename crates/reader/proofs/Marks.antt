-- The letters of the mark.
use Prim.Native.Nat.{ℕ, ◌+◌, ◌*◌, ◌≤◌, ◌<◌}
use mathlib.Core.Path.{◌≡◌}
use mathlib.Core.List.{List, [], ◌∷◌}
use mathlib.Core.Bool.{true, ◌&&◌}
use native.Mathlib.Omega.{arith}
use native.Mathlib.Nat.{zero-add}
use lib.Dec.{eqb}
use lib.ListN.{length}
use Rattle.std.proofs.lemmas.Bool.Decides.{nat_tests}
use Rattle.std.specs.List.{starts_with}
use Rattle.bpf.specs.Bytes.{be, AreBytes}

letters : (a b c : ℕ) → a < 256 → b < 256 → c < 256 → (eqb 80 a && (eqb 70 b && (eqb 84 c && true))) ≡ eqb ((a * 256 + b) * 256 + c) 0x504654
letters a b c p q r = grind (arith, nat_tests)

pub starts_pft : (s : List ℕ) → AreBytes s → 3 ≤ length s → starts_with eqb s (80 ∷ 70 ∷ 84 ∷ []) ≡ eqb (be 3 0 s) 0x504654
unfolding be
starts_pft [] h l = absurd (omega arith)
starts_pft (a ∷ []) h l = absurd (omega arith)
starts_pft (a ∷ b ∷ []) h l = absurd (omega arith)
starts_pft (a ∷ b ∷ c ∷ s) h l = rw zero-add (letters a b c (h 0) (h 1) (h 2))
