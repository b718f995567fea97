-- What the functions of the build promise one another.
use Rattle.std.specs.Prelude.{Ok, Err}
use Rattle.error.specs.Answer.{Out}
use Rattle.std.specs.Prelude.{ℕ, ◌*◌, cond, ltb}
use Rattle.error.specs.declared.Refusal.TheVariants.{ShortBuffer}

-- the answer for a program of n instructions where so many bytes are lent
abbrev pub answer_of : ℕ → ℕ → Out ℕ
answer_of lent n = cond (ltb lent (8 * n)) (Err ShortBuffer) (Ok n)
