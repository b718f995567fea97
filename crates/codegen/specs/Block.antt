-- Blocks: instructions in a row whose jumps may still be open. Code falls off a block's end on success; an open jump leaves by
-- success or by failure, and is a pending `Patch` of the source until it is resolved.
use Rattle.std.specs.Prelude.{Ok, Err}
use Rattle.std.specs.Prelude.{ℕ, ◌+◌, List, [], ◌∷◌, ◌++◌, Bool, true, false, cond, ◌||◌, length, ltb}
use Rattle.error.specs.declared.Refusal.TheVariants.{FarJump}
use Rattle.error.specs.Answer.{Out}
use Rattle.bpf.specs.declared.Insn.{Insn}
use Rattle.bpf.specs.Program.{insn}
use Rattle.codegen.specs.declared.Width.{Width}
use Rattle.codegen.specs.declared.Width.TheVariants.{Byte, Half, Word}
use Rattle.codegen.specs.declared.Op.{Op}
use Rattle.codegen.specs.declared.Op.TheVariants.{LdAbs, LdhInd, LdxMsh, LdxImm, AndK}
use Rattle.codegen.specs.declared.Test.{Test}
use Rattle.codegen.specs.declared.Test.TheVariants.{Jeq, Jgt, Jge, Jset}
use Rattle.codegen.specs.declared.Side.{Side}
use Rattle.codegen.specs.declared.Side.TheVariants.{Success, Failure}
use Rattle.codegen.specs.declared.Exit.{Exit}
use Rattle.codegen.specs.declared.Exit.TheVariants.{Skip, Leave}
use Rattle.codegen.specs.declared.Slot.{Slot}
use Rattle.codegen.specs.declared.Slot.TheVariants.{Jt, Jf}
use Rattle.codegen.specs.declared.Line.{Line}
use Rattle.codegen.specs.declared.Line.TheVariants.{Plain, Branch, Jump}

-- the bytes of a load
abbrev pub bytes : Width → ℕ
bytes Byte = 1
bytes Half = 2
bytes Word = 4

abbrev pub Block : Type 0
Block = List Line

-- ---- resolving

abbrev pub same : Side → Side → Bool
same Success Success = true
same Success Failure = false
same Failure Success = false
same Failure Failure = true

-- an exit by the side e becomes e'
abbrev pub swap : Side → Exit → Exit → Exit
swap e e' (Skip n) = Skip n
swap e e' (Leave p) = cond (same e p) e' (Leave p)

abbrev pub swap_line : Side → Exit → Line → Line
swap_line e e' (Plain o) = Plain o
swap_line e e' (Branch t k s p) = Branch t k s (swap e e' p)
swap_line e e' (Jump p) = Jump (swap e e' p)

-- the exits of a block by the side e go to d lines past its end: "Distance is target − place − 1, for ja too."
unfoldable pub settle : Side → ℕ → Block → Block
settle e d [] = []
settle e d (l ∷ b) = swap_line e (Skip (length b + d)) l ∷ settle e d b

-- the exits by success become exits by failure
unfoldable pub turn : Block → Block
turn [] = []
turn (l ∷ b) = swap_line Success (Leave Failure) l ∷ turn b

-- a block's failures go to what follows it, and its success jumps out by a `ja`
unfoldable pub otherwise : Block → Block
otherwise b = settle Failure 0 (b ++ (Jump (Leave Success) ∷ []))

abbrev pub distance : Exit → ℕ
distance (Skip n) = n
distance (Leave e) = 0

abbrev pub far_line : Line → Bool
far_line (Plain o) = false
far_line (Branch t k s p) = ltb 255 (distance p)
far_line (Jump p) = ltb 255 (distance p)

unfoldable pub far : Block → Bool
far [] = false
far (l ∷ b) = far_line l || far b

-- number 8, "a resolved distance exceeds 255"
abbrev pub resolved : Block → Out Block
resolved b = cond (far b) (Err FarJump) (Ok b)

-- ---- writing X: `x_writes`, "Any ldx empties it"

abbrev pub sets_x : Line → Bool
sets_x (Plain (LdAbs w k)) = false
sets_x (Plain (LdhInd k)) = false
sets_x (Plain (LdxMsh k)) = true
sets_x (Plain (LdxImm k)) = true
sets_x (Plain (AndK k)) = false
sets_x (Branch t k s p) = false
sets_x (Jump p) = false

unfoldable pub writes_x : Block → Bool
writes_x [] = false
writes_x (l ∷ b) = sets_x l || writes_x b

-- ---- instructions

-- "Codes, hexadecimal: ldw 20, ldh 28, ldb 30, ldh indexed 48, ldx 4×(byte mod 16) b1, ldx number 01, and 54, jeq 15, jgt 25, jge 35,
-- jset 45, ja 05, ret 06."
abbrev pub op_insn : Op → Insn
op_insn (LdAbs Word k) = insn 0x20 0 0 k
op_insn (LdAbs Half k) = insn 0x28 0 0 k
op_insn (LdAbs Byte k) = insn 0x30 0 0 k
op_insn (LdhInd k) = insn 0x48 0 0 k
op_insn (LdxMsh k) = insn 0xb1 0 0 k
op_insn (LdxImm k) = insn 0x01 0 0 k
op_insn (AndK k) = insn 0x54 0 0 k

abbrev pub test_code : Test → ℕ
test_code Jeq = 0x15
test_code Jgt = 0x25
test_code Jge = 0x35
test_code Jset = 0x45

abbrev pub slot_insn : ℕ → ℕ → Slot → ℕ → Insn
slot_insn c k Jt d = insn c d 0 k
slot_insn c k Jf d = insn c 0 d k

unfoldable pub assemble : Line → Insn
assemble (Plain o) = op_insn o
assemble (Branch t k s p) = slot_insn (test_code t) k s (distance p)
assemble (Jump p) = insn 0x05 0 0 (distance p)
