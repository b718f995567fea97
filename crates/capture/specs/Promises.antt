-- What holds of each tally of a capture.
use Rattle.std.specs.Prelude.{◌*◌, ◌≤◌}
use Rattle.capture.specs.declared.Tally.{Tally}

-- each frame has a header of 16 bytes, so that no sum of frames wraps where no place does
pub record Sound (t : Tally) : Type 0 where
  pub kept : t.kept ≤ t.given
  pub given : 16 * t.given ≤ t.stop
