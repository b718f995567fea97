-- The answers of the exported functions as numbers.
use Rattle.std.specs.Prelude.{Result}
use Rattle.capture.specs.declared.Halt.{Halt}
use Rattle.typing.specs.declared.Fault.{Fault}
use Rattle.capture.specs.declared.Tally.{Tally}
use Rattle.std.specs.Prelude.{Ok, Err}
use Rattle.vm.specs.declared.Outcome.{Outcome}
use Rattle.std.specs.Prelude.{Bool}
use Rattle.std.specs.Prelude.{ℕ, ◌+◌, ◌*◌, ◌^◌, cond, eqb}
use Rattle.error.specs.Answer.{Out, number_of}
use Rattle.vm.specs.Machine as Run
use Rattle.direct.specs.Direct as Direct
use Rattle.build.specs.Build as Build
use Rattle.capture.specs.Counting as Counting

-- the number of this interface: a landing that adds to it raises it by one
abbrev pub version : ℕ
version = 5

-- a refusal as "256 + refusal number"; 0 where there is none
abbrev pub beyond : ℕ → ℕ
beyond n = cond (eqb n 0) 0 (256 + n)

-- "verdict × 65,536 + steps, verdict 1 accepted, 2 dropped, 3 short, 4 broken; for a refused run (256 + refusal number) × 65,536"
abbrev pub run_number : Out Outcome → ℕ
run_number r = (Run.verdict_of r + beyond (Run.refusal_of r)) * 65536 + Run.steps_of r

-- "refusal × 65,536 + count"
abbrev pub build_number : Out ℕ → ℕ
build_number r = Build.refusal_of r * 65536 + Build.count_of r

-- "1 or 0; 256 + number where 1 to 4 or then 10 refuses"
abbrev pub direct_number : Out Bool → ℕ
direct_number r = Direct.truth_of r + beyond (Direct.refusal_of r)

-- of a count: refusal × 2^32 + accepted frames
abbrev pub count_number : Result Tally Halt → ℕ
count_number r = Counting.refusal_of r * 2 ^ 32 + (Counting.frames_in r).kept

-- of a frame in a capture: refusal × 2^32 + captured length
abbrev pub frame_number : Out ℕ → ℕ
frame_number (Err r) = number_of r * 2 ^ 32
frame_number (Ok n) = n

-- of a typed line: its file's length in bytes, or refusal × 2^32 + place
abbrev pub type_number : Result ℕ Fault → ℕ
type_number (Ok n) = n
type_number (Err e) = number_of e.refusal * 2 ^ 32 + e.place
