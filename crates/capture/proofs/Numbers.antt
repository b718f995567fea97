-- Numbers of a part of a list, and of a list that goes on: one law for both byte orders.
use Prim.Native.Nat.{ℕ, zero, suc, ◌+◌, ◌*◌, ◌≤◌}
use mathlib.Core.Path.{◌≡◌, refl, ap₂}
use mathlib.Core.List.{List, ◌++◌}
use native.Mathlib.Omega.{arith}
use lib.ListN.{length, drop, get_or-append}
use lib.Seq.{get_or-drop}
use Rattle.bpf.specs.Bytes.{le_at}
use Rattle.bpf.proofs.Bytes.{be_prefix, be_drop}
use Rattle.capture.specs.declared.Order.{Order}
use Rattle.capture.specs.declared.Order.TheVariants.{Big, Little}
use Rattle.capture.specs.Capture.{number_at}

le_drop : (n i at : ℕ) (s : List ℕ) → le_at n i (drop at s) ≡ le_at n (at + i) s
unfolding le_at
le_drop zero i at s = refl
le_drop (suc n) i at s =
    let e : at + suc i ≡ suc (at + i) = omega arith in
    ap₂ (λ x y. x + 256 * y) (get_or-drop at s i 0) (rw (le_drop n (suc i) at s, e))

le_prefix : (n at : ℕ) (f e : List ℕ) → at + n ≤ length f → le_at n at (f ++ e) ≡ le_at n at f
unfolding le_at
le_prefix zero at f e h = refl
le_prefix (suc n) at f e h = ap₂ (λ x y. x + 256 * y) (get_or-append f e 0 at (omega arith)) (le_prefix n (suc at) f e (omega arith))

pub number_drop : (o : Order) (i at : ℕ) (s : List ℕ) → number_at o i (drop at s) ≡ number_at o (at + i) s
number_drop Big i at s = be_drop 4 i at s
number_drop Little i at s = le_drop 4 i at s

pub number_prefix : (o : Order) (at : ℕ) (f e : List ℕ) → at + 4 ≤ length f → number_at o at (f ++ e) ≡ number_at o at f
number_prefix Big at f e h = be_prefix 4 at f e h
number_prefix Little at f e h = le_prefix 4 at f e h
