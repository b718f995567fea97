-- The mask of a segment as the code works it out.
use Rattle.std.specs.Prelude.{ℕ, cond, eqb, ltb}

-- the mask of segment i, where the first `full` segments count whole and `part` is the mask of the next
abbrev pub mask_at : ℕ → ℕ → ℕ → ℕ
mask_at i full part = cond (ltb i full) 0xffff (cond (eqb i full) part 0)
