-- The direct reading of a tree file on a frame.
use Rattle.std.specs.Prelude.{Ok, Err}
use Rattle.std.specs.Prelude.{ℕ, List, Bool, cond}
use Rattle.error.specs.declared.Refusal.TheVariants.{LongFrame}
use Rattle.error.specs.Answer.{Out, ◌>>=◌, number_of}
use Rattle.bpf.specs.Bytes.{long_frame}
use Rattle.ast.specs.File.{parse}
use Rattle.direct.specs.Reading.{reads}

-- refusals 1 to 4 of the file, then 10 of the frame; "True and false are the direct reading's, of the whole tree."
unfoldable pub direct : List ℕ → List ℕ → Out Bool
direct s f = parse s >>= λ t. cond (long_frame f) (Err LongFrame) (Ok (reads t.link f t.tree))

-- ---- the values of the answer

-- the refusal's number; 0 for a reading
abbrev pub refusal_of : Out Bool → ℕ
refusal_of (Ok b) = 0
refusal_of (Err r) = number_of r

-- 1 for true, 0 for false and for a refusal
abbrev pub truth_of : Out Bool → ℕ
truth_of (Ok b) = cond b 1 0
truth_of (Err r) = 0
