-- Instructions and programs as bytes.
use Rattle.std.specs.Prelude.{ℕ, zero, suc, ◌+◌, ◌/◌, ◌%◌, List, [], ◌∷◌, ◌++◌, cond, ◌&&◌, get_or, ltb, eqb}
use Rattle.bpf.specs.declared.Insn.{Insn}
use Rattle.bpf.specs.Bytes.{le, le_at}

abbrev pub insn : ℕ → ℕ → ℕ → ℕ → Insn
insn c t f n = record { code = c; jt = t; jf = f; k = n }

-- "An instruction is 8 bytes, little-endian: 16-bit code, jt, jf, 32-bit k."
unfoldable pub insn_bytes : Insn → List ℕ
insn_bytes i = le 2 i.code ++ (i.jt ∷ i.jf ∷ le 4 i.k)

unfoldable pub program_bytes : List Insn → List ℕ
program_bytes [] = []
program_bytes (i ∷ p) = insn_bytes i ++ program_bytes p

-- the instruction whose bytes start at a place
unfoldable pub insn_at : ℕ → List ℕ → Insn
insn_at at s = insn (le_at 2 at s) (get_or s (at + 2) 0) (get_or s (at + 3) 0) (le_at 4 (at + 4) s)

-- n instructions from a place on
unfoldable pub insns_at : ℕ → ℕ → List ℕ → List Insn
insns_at zero at s = []
insns_at (suc n) at s = insn_at at s ∷ insns_at n (at + 8) s

-- where the instruction at place i may jump: "Distance is target − place − 1, for ja too." Class JMP is 5, its operations are 0 to 4, and JA is
-- operation 0
abbrev pub targets : ℕ → Insn → List ℕ
targets i x =
    cond (eqb (x.code % 8) 5 && ltb (x.code / 16 % 16) 5)
    (cond (eqb (x.code / 16 % 16) 0) ((i + 1 + x.k) ∷ []) ((i + 1 + x.jt) ∷ (i + 1 + x.jf) ∷ []))
    []

-- every one of these is such
abbrev pub Each : {A : Type 0} → (A → Type 0) → List A → Type 0
Each q [] = Unit {0}
Each q (x ∷ xs) = q x × Each q xs
