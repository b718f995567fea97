-- The numbers of a record's address, where they stand in the file.
use Prim.Native.Nat.{ℕ, suc, ◌+◌, ◌-◌, ◌≤◌}
use mathlib.Core.Path.{◌≡◌, refl, ap, ◌∙◌}
use mathlib.Core.List.{List, [], ◌∷◌}
use mathlib.Core.Bool.{true}
use native.Mathlib.Omega.{arith}
use lib.ListN.{take}
use lib.Dec.{eqb}
use Rattle.bpf.specs.Bytes.{be, bytes_at, segments_at}
use Rattle.bpf.proofs.Parts.{be_bytes, segments_bytes, take_bytes}
use Rattle.ast.specs.Record.{record_at, member}
use Rattle.reader.specs.Checking.{lengths, unused}

pub address_word : (at k : ℕ) (s : List ℕ) → k + 4 ≤ 16 → be 4 k (record_at at s).address ≡ be 4 (at + (8 + k)) s
unfolding record_at
address_word at k s h = be_bytes 4 k 16 (at + 8) s h ∙ ap (λ p. be 4 p s) (omega arith)

-- the eight segments
pub address_segments : (at : ℕ) (s : List ℕ) → segments_at 8 0 (record_at at s).address ≡ segments_at 8 (at + 8) s
unfolding record_at
address_segments at s = segments_bytes 8 0 16 (at + 8) s (omega arith) ∙ ap (λ p. segments_at 8 p s) (omega arith)

-- the first six bytes, each by itself
pub address_bytes : (at : ℕ) (s : List ℕ)
    → take 6 (record_at at s).address ≡ be 1 (at + 8) s ∷ be 1 (at + 9) s ∷ be 1 (at + 10) s ∷ be 1 (at + 11) s ∷ be 1 (at + 12) s ∷ be 1 (at + 13) s ∷ []
unfolding record_at bytes_at
address_bytes at s = take_bytes 6 16 (at + 8) s (omega arith) ∙ next 5 8 (next 4 9 (next 3 10 (next 2 11 (next 1 12 (next 0 13 refl)))))
  where
    next : (n a : ℕ) {l : List ℕ} → bytes_at n (at + (a + 1)) s ≡ l → bytes_at (suc n) (at + a) s ≡ be 1 (at + a) s ∷ l
    next n a e = ap (λ l. be 1 (at + a) s ∷ l) (ap (λ p. bytes_at n p s) (omega arith) ∙ e)

-- the bytes of the address from the n-th on, where they stand in the file
module _ (at : ℕ) (s : List ℕ) where
  from_byte : (n : ℕ) → n ≤ 16 → member n lengths ≡ true → unused n (record_at at s).address ≡ eqb (be (16 - n) (at + (8 + n)) s) 0
  unfolding record_at unused
  from_byte n h e = rw (e, be_bytes (16 - n) n 16 (at + 8) s (omega arith)) (ap (λ p. eqb (be (16 - n) p s) 0) (omega arith))

  pub unused_0 : unused 0 (record_at at s).address ≡ eqb (be 16 (at + 8) s) 0
  unused_0 = from_byte 0 (omega arith) refl

  pub unused_4 : unused 4 (record_at at s).address ≡ eqb (be 12 (at + 12) s) 0
  unused_4 = from_byte 4 (omega arith) refl

  pub unused_6 : unused 6 (record_at at s).address ≡ eqb (be 10 (at + 14) s) 0
  unused_6 = from_byte 6 (omega arith) refl

  pub unused_8 : unused 8 (record_at at s).address ≡ eqb (be 8 (at + 16) s) 0
  unused_8 = from_byte 8 (omega arith) refl
