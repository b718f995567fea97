-- "The machine is `inner` in vm.rs: A, X, 16 scratch words, 32-bit sums that wrap, big-endian loads."
-- The classes, sizes, modes and operations are those of the BPF paper (1993) with the numbers of Linux's filter header.
use Rattle.std.specs.Prelude.{Option, None, Some}
use Rattle.std.specs.Prelude.{Ok, Err}
use Rattle.error.specs.Answer.{Out}
use Rattle.std.specs.Prelude.{ℕ, zero, suc, ◌+◌, ◌*◌, ◌-◌, ◌/◌, ◌%◌, ◌^◌, List, [], ◌∷◌, false, true, Bool, cond, not, ◌||◌, length, get_or, set, replicate, ltb, leb, eqb}
use Rattle.std.specs.Int.Bits.{bit_and, bit_or, bit_xor}
use Rattle.error.specs.declared.Refusal.TheVariants.{LongFrame, OddProgram}
use Rattle.error.specs.Answer.{number_of}
use Rattle.bpf.specs.declared.Insn.{Insn}
use Rattle.bpf.specs.Bytes.{be, long_frame}
use Rattle.bpf.specs.Program.{insns_at}
use Rattle.vm.specs.declared.Verdict.{Verdict}
use Rattle.vm.specs.declared.Verdict.TheVariants.{Accepted, Dropped, Short, Broken}
use Rattle.vm.specs.declared.Outcome.{Outcome}
use Rattle.vm.specs.declared.Effect.{Effect}
use Rattle.vm.specs.declared.Effect.TheVariants.{SetA, SetX, Store, Skip, Stop}

-- "32-bit sums that wrap"
abbrev pub wrap : ℕ → ℕ
wrap n = n % 2 ^ 32

-- the entry n of a table of effects; what a table does not have is an "unknown code"
abbrev pub pick : ℕ → List Effect → Effect
pick n l = get_or l n (Stop Broken)

-- n bytes of the frame at a place, "short (a packet load leaves the frame)"
unfoldable pub load : ℕ → ℕ → List ℕ → (ℕ → Effect) → Effect
load n at f to = cond (leb (at + n) (length f)) (to (be n at f)) (Stop Short)

-- a packet load by its size W, H, B; "size 0x18" is broken. "Size is tested before the frame's end."
unfoldable pub sized_load : ℕ → ℕ → List ℕ → Effect
sized_load size at f = pick size (load 4 at f SetA ∷ load 2 at f SetA ∷ load 1 at f SetA ∷ [])

-- a scratch word; "scratch index over 15" is broken
unfoldable pub scratch : ℕ → List ℕ → (ℕ → Effect) → Effect
scratch k m to = cond (ltb k 16) (to (get_or m k 0)) (Stop Broken)

-- LD, by mode IMM, ABS, IND, MEM, LEN
unfoldable pub ld : List ℕ → List ℕ → ℕ → ℕ → ℕ → ℕ → Effect
ld f m mode size k x =
    pick mode
    (SetA k
    ∷ sized_load size k f
    ∷ sized_load size (wrap (x + k)) f
    ∷ scratch k m SetA
    ∷ SetA (length f)
    ∷ [])

-- LDX, by mode IMM, -, -, MEM, LEN, MSH; MSH is "4×(byte mod 16)" and known with size B only
unfoldable pub ldx : List ℕ → List ℕ → ℕ → ℕ → ℕ → Effect
ldx f m mode size k =
    pick mode
    (SetX k
    ∷ Stop Broken
    ∷ Stop Broken
    ∷ scratch k m SetX
    ∷ SetX (length f)
    ∷ cond (eqb size 2) (load 1 k f (λ v. SetX (4 * (v % 16)))) (Stop Broken)
    ∷ [])

-- ALU, by operation ADD, SUB, MUL, DIV, OR, AND, LSH, RSH, NEG, -, XOR; "divisor 0" is broken, "MOD is unknown"
unfoldable pub alu : ℕ → ℕ → ℕ → Effect
alu op a v =
    pick op
    (SetA (wrap (a + v))
    ∷ SetA (wrap (a + 2 ^ 32 - v))
    ∷ SetA (wrap (a * v))
    ∷ cond (eqb v 0) (Stop Broken) (SetA (a / v))
    ∷ SetA (bit_or a v)
    ∷ SetA (bit_and a v)
    ∷ SetA (wrap (a * 2 ^ (v % 32)))
    ∷ SetA (a / 2 ^ (v % 32))
    ∷ SetA (wrap (2 ^ 32 - a))
    ∷ Stop Broken
    ∷ SetA (bit_xor a v)
    ∷ [])

-- JMP, by operation JA, JEQ, JGT, JGE, JSET
unfoldable pub jmp : ℕ → Insn → ℕ → ℕ → Effect
jmp op i a v =
    pick op
    (Skip i.k
    ∷ Skip (cond (eqb a v) i.jt i.jf)
    ∷ Skip (cond (ltb v a) i.jt i.jf)
    ∷ Skip (cond (leb v a) i.jt i.jf)
    ∷ Skip (cond (not (eqb (bit_and a v) 0)) i.jt i.jf)
    ∷ [])

-- RET: a value other than 0 accepts
abbrev pub ret : ℕ → Effect
ret v = Stop (cond (eqb v 0) Dropped Accepted)

-- one instruction, by its class LD, LDX, ST, STX, ALU, JMP, RET, MISC. "X operand is bit 0x08"; RET takes A by bit 0x10, MISC is
-- TXA by bit 0x80 and TAX without it. Bits that vm.rs does not look at, the code's high byte among them, change nothing
unfoldable pub effect : List ℕ → List ℕ → Insn → ℕ → ℕ → Effect
effect f m i a x =
    let c = i.code in
    let k = i.k in
    let v = cond (eqb (c / 8 % 2) 0) k x in
    pick (c % 8)
    (ld f m (c / 32 % 8) (c / 8 % 4) k x
    ∷ ldx f m (c / 32 % 8) (c / 8 % 4) k
    ∷ Store k a
    ∷ Store k x
    ∷ alu (c / 16 % 16) a v
    ∷ jmp (c / 16 % 16) i a v
    ∷ ret (cond (eqb (c / 16 % 2) 0) k a)
    ∷ cond (eqb (c / 128 % 2) 0) (SetX a) (SetA x)
    ∷ [])

abbrev pub ended : Verdict → ℕ → Outcome
ended v t = record { verdict = v; steps = t }

-- the run after an effect, t instructions fetched: `on` goes on over the instructions to skip, with A, X and the scratch words. A store
-- beyond the 16 words is broken
abbrev pub after : (ℕ → ℕ → ℕ → List ℕ → Outcome) → Effect → ℕ → ℕ → ℕ → List ℕ → Outcome
after on (SetA v) t a x m = on 0 v x m
after on (SetX v) t a x m = on 0 a v m
after on (Store k v) t a x m = cond (ltb k 16) (on 0 a x (set m k v)) (ended Broken t)
after on (Skip n) t a x m = on n a x m
after on (Stop v) t a x m = ended v t

-- the run of a program over a frame from the instruction after the next n, t instructions fetched; jumps go forward, so it falls with the
-- program. "The step count is the instructions fetched"; "counter past the program" is broken
unfoldable pub exec : List ℕ → List Insn → ℕ → ℕ → ℕ → ℕ → List ℕ → Outcome
exec f [] n t a x m = ended Broken t
exec f (i ∷ p) (suc n) t a x m = exec f p n t a x m
exec f (i ∷ p) zero t a x m = after (λ n a' x' m'. exec f p n (suc t) a' x' m') (effect f m i a x) (suc t) a x m

-- A, X and the scratch words start at zero
unfoldable pub inner : List Insn → List ℕ → Outcome
inner p f = exec f p 0 0 0 0 (replicate 16 0)

-- number 11, "length 0, over 32,768, or not a multiple of 8"
abbrev pub odd_program : List ℕ → Bool
odd_program p = eqb (length p) 0 || (ltb 32768 (length p) || not (eqb (length p % 8) 0))

-- the bytes of a program, run over a frame: "A run tests 11, then 10, and writes to no buffer"
unfoldable pub run : List ℕ → List ℕ → Out Outcome
run p f = cond (odd_program p) (Err OddProgram) (cond (long_frame f) (Err LongFrame) (Ok (inner (insns_at (length p / 8) 0 p) f)))

-- ---- the values of a run's answer

-- the refusal's number; 0 for a run that was made
abbrev pub refusal_of : Out Outcome → ℕ
refusal_of (Ok o) = 0
refusal_of (Err r) = number_of r

-- what `inner` of vm.rs answers: "Rust's None is short or broken."
abbrev pub inner_of : Verdict → Option Bool
inner_of Accepted = Some true
inner_of Dropped = Some false
inner_of Short = None
inner_of Broken = None

-- accepted, dropped, short, broken: 1 to 4
abbrev pub number_of_verdict : Verdict → ℕ
number_of_verdict Accepted = 1
number_of_verdict Dropped = 2
number_of_verdict Short = 3
number_of_verdict Broken = 4

-- "a refused run has no verdict and 0 steps": 0 for no verdict
abbrev pub verdict_of : Out Outcome → ℕ
verdict_of (Ok o) = number_of_verdict o.verdict
verdict_of (Err r) = 0

abbrev pub steps_of : Out Outcome → ℕ
steps_of (Ok o) = o.steps
steps_of (Err r) = 0
