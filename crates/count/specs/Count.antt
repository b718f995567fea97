-- T-01: "Crews bring classic pcap files and want the kept frames counted."
use Rattle.std.specs.Prelude.{Result}
use Rattle.capture.specs.declared.Halt.{Halt}
use Rattle.capture.specs.declared.Tally.{Tally}
use Rattle.capture.specs.Counting.{halt}
use Rattle.std.specs.Prelude.{Ok, Err}
use Rattle.std.specs.Prelude.{ℕ, ◌*◌, List, take}
use Rattle.error.specs.Answer.{Out}
use Rattle.ast.specs.declared.LinkType.{LinkType}
use Rattle.ast.specs.File.{header}
use Rattle.build.specs.Build.{build}
use Rattle.capture.specs.Counting.{none, counted}

-- what a count leaves: its answer, and every byte of the lent program buffer
pub record Left : Type 0 where
  pub answer : Result Tally Halt
  pub buffer : List ℕ

-- "when the link isn't the tree's": the link is that of the tree file's header
abbrev pub linked : List ℕ → List ℕ → Out LinkType → Result Tally Halt
linked P s (Err r) = Err (halt r none)
linked P s (Ok link) = counted P link s

-- "tested in that order, after the tree's own": the program is the first 8 × count bytes of the buffer
abbrev pub after : List ℕ → List ℕ → List ℕ → Out ℕ → Result Tally Halt
after T s buffer (Err r) = Err (halt r none)
after T s buffer (Ok n) = linked (take (8 * n) buffer) s (header T)

-- a tree file, a buffer of so many bytes, and a capture. "12 to 14 leave the built program in its buffer": it is the build's, whatever the
-- capture
unfoldable pub count : List ℕ → ℕ → List ℕ → Left
count T lent s = let b = build T lent in record { answer = after T s b.buffer b.answer; buffer = b.buffer }
