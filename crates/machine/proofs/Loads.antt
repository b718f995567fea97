-- A packet load, at any width.
use Rattle.std.proofs.Common.{◌≡◌, ℕ, zero, suc, ◌+◌, ◌≤◌, List, length, take, drop, refl, arith, ◌-◌, length-take, length-drop}
use Rattle.std.proofs.Math.Nat.{zero-add}
use Rattle.std.proofs.lemmas.List.{get_or-take, get_or-drop}
use Rattle.bpf.specs.Bytes.{be}

-- the number of the part that a load takes
part_number : (m n at : ℕ) (f : List ℕ) → m ≤ n → be m 0 (take n (drop at f)) ≡ be m at f
unfolding be
part_number zero n at f h = refl
part_number (suc m) n at f h = rw (part_number m n at f (omega arith), zero-add m, get_or-take n (drop at f) m 0 h, get_or-drop at f m 0)

pub part_be : (n at : ℕ) (f : List ℕ) → at + n ≤ length f → let part = take (at + n - at) (drop at f) in be (length part) 0 part ≡ be n at f
part_be n at f h = rw (width, long) (part_number n n at f (omega arith))
  where
    width : at + n - at ≡ n
    width = omega arith

    long : length (take n (drop at f)) ≡ n
    long = omega (arith, length-take n (drop at f), length-drop at f)
