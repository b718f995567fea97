-- Blocks as the code holds them: their instructions in a row, and two rows of pending jumps.
use Rattle.std.specs.Prelude.{ℕ, ◌+◌, ◌-◌, ◌<◌, List, [], ◌∷◌, cond, map, take, get_or, set, ltb, Ok, Err}
use Rattle.error.specs.declared.Refusal.TheVariants.{FarJump}
use Rattle.error.specs.Answer.{Out}
use Rattle.bpf.specs.declared.Insn.{Insn}
use Rattle.bpf.specs.Program.{insn}
use Rattle.codegen.specs.declared.Side.{Side}
use Rattle.codegen.specs.declared.Exit.{Exit}
use Rattle.codegen.specs.declared.Exit.TheVariants.{Skip, Leave}
use Rattle.codegen.specs.declared.Slot.{Slot}
use Rattle.codegen.specs.declared.Slot.TheVariants.{Jt, Jf}
use Rattle.codegen.specs.declared.Line.{Line}
use Rattle.codegen.specs.declared.Line.TheVariants.{Plain, Branch, Jump}
use Rattle.codegen.specs.Block.{Block, same, sets_x, assemble}
use Rattle.emit.specs.declared.Patch.{Patch}
use Rattle.emit.specs.declared.Patch.TheVariants as P

-- ---- lines

-- a block's instructions; a jump that is still open has the distance 0
abbrev pub assembled : Block → List Insn
assembled = map assemble

abbrev pub exit_of : Line → Exit
exit_of (Plain o) = Skip 0
exit_of (Branch t k s e) = e
exit_of (Jump e) = e

-- how often a block writes X
abbrev pub writes : Block → ℕ
writes [] = 0
writes (l ∷ b) = cond (sets_x l) 1 0 + writes b

-- ---- pending jumps

abbrev pub place_of : Patch → ℕ
place_of (P.Jt i) = i
place_of (P.Jf i) = i
place_of (P.Ja i) = i

abbrev pub slot_patch : Slot → ℕ → Patch
slot_patch Jt i = P.Jt i
slot_patch Jf i = P.Jf i

-- the field of a line at place i that its distance goes to
abbrev pub patch_of : Line → ℕ → Patch
patch_of (Plain o) i = P.Ja i
patch_of (Branch t k s e) i = slot_patch s i
patch_of (Jump e) i = P.Ja i

abbrev pub pending : Side → Patch → Exit → List Patch → List Patch
pending e q (Skip n) rest = rest
pending e q (Leave p) rest = cond (same e p) (q ∷ rest) rest

-- the pending jumps by the side e, of a block whose first line is at i
abbrev pub patches : Side → ℕ → Block → List Patch
patches e i [] = []
patches e i (l ∷ b) = pending e (patch_of l i) (exit_of l) (patches e (i + 1) b)

-- those that a row holds, the first n
abbrev pub waiting : ℕ → List Patch → List Patch
waiting n row = take n row

-- ---- resolving

abbrev pub no_insn : Insn
no_insn = insn 0 0 0 0

-- an instruction with a distance in the field that a patch names
abbrev pub with_distance : Patch → ℕ → Insn → Insn
with_distance (P.Jt i) d x = insn x.code d x.jf x.k
with_distance (P.Jf i) d x = insn x.code x.jt d x.k
with_distance (P.Ja i) d x = insn x.code x.jt x.jf d

-- "writes jt, jf or k of one Insn .., all others unchanged": the row with that field of that instruction set to d
abbrev pub resolved : Patch → ℕ → List Insn → List Insn
resolved q d xs = set xs (place_of q) (with_distance q d (get_or xs (place_of q) no_insn))

-- the row with the distances of these pending jumps to a target; number 8, "a resolved distance exceeds 255"
unfoldable pub resolve : List Patch → ℕ → List Insn → Out (List Insn)
resolve [] to xs = Ok xs
resolve (q ∷ qs) to xs = let d = to - place_of q - 1 in cond (ltb 255 d) (Err FarJump) (resolve qs to (resolved q d xs))

-- every place is before the target
abbrev pub Below : ℕ → List Patch → Type 0
Below to [] = Unit {0}
Below to (q ∷ qs) = (place_of q < to) × Below to qs
