-- How the work can have ended.
use Rattle.std.specs.Prelude.{Result, Ok, Err, ◌≢◌}
use Rattle.frames.specs.declared.ended.Ended.{Ended}
use Rattle.frames.specs.declared.ended.Ended.TheVariants.{Usage}

abbrev pub NotUsage : Result Ended Ended → Type 0
NotUsage r = (r ≢ Err Usage) × (r ≢ Ok Usage)
