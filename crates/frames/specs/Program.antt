-- What the bytes of a tree's program are.
use Rattle.std.specs.Prelude.{ℕ, List, ◌≡◌, Ok}
use Rattle.bpf.specs.declared.Insn.{Insn}
use Rattle.bpf.specs.Program.{program_bytes}
use Rattle.build.specs.Build.{program}

-- the bytes are those of the tree's program, and no others
abbrev pub IsProgram : List ℕ → List ℕ → Type 0
IsProgram tree bytes = (p : List Insn) × (program tree ≡ Ok p) × (bytes ≡ program_bytes p)
