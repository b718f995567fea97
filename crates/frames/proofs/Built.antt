-- The program that a build leaves at its buffer's start.
use Rattle.std.proofs.Common.{Ok, ℕ, List, ◌≡◌, ◌*◌, ◌≤◌, sym, ◌∙◌, ap, take}
use Rattle.error.specs.Answer.{Out}
use Rattle.build.specs.Build.{build, program}
use Rattle.build.proofs.Demands.{left}
use Rattle.frames.specs.Program.{IsProgram}

-- of lent bytes the first are the program, where the build answered its count
pub is_program : (tree : List ℕ) (lent count : ℕ) → ◌≡◌ {A = Out ℕ} (Ok count) (build tree lent).answer
    → (b : List ℕ) → b ≡ (build tree lent).buffer → IsProgram tree (take (8 * count) b)
unfolding build
is_program tree lent count e b h =
    let l = left (program tree) lent count (sym e) in
    (l.insns, l.is, ap (take (8 * count)) h ∙ l.bytes)
