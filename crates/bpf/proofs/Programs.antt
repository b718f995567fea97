-- A program written as bytes is read again.
use Prim.Native.Nat.{ℕ, zero, suc, ◌+◌, ◌*◌, ◌^◌, ◌<◌}
use mathlib.Core.Path.{◌≡◌, refl, sym, ap, ap₂, ◌∙◌}
use mathlib.Core.List.{List, [], ◌∷◌, ◌++◌, append_assoc, append-nil}
use native.Mathlib.Omega.{arith}
use native.Mathlib.Nat.{add-zero, zero-add}
use lib.ListN.{length, get_or, length-append}
use lib.Seq.{get_or-append-add}
use Rattle.bpf.specs.declared.Insn.{Insn}
use Rattle.bpf.specs.Bytes.{le, le_at}
use Rattle.bpf.specs.Program.{insn, insn_bytes, program_bytes, insn_at, insns_at, Each}
use Rattle.bpf.proofs.Bytes.{length_le, le_read}

-- an instruction's fields fit its bytes
abbrev pub FitsBytes : Insn → Type 0
FitsBytes i = (i.code < 256 ^ 2) × (i.jt < 256) × (i.jf < 256) × (i.k < 256 ^ 4)

abbrev pub AllFit : List Insn → Type 0
AllFit = Each FitsBytes

pub length_insn : (i : Insn) → length (insn_bytes i) ≡ 8
unfolding insn_bytes
length_insn i = omega (arith, length-append (le 2 i.code) (i.jt ∷ i.jf ∷ le 4 i.k), length_le 2 i.code, length_le 4 i.k)

pub length_program : (p : List Insn) → length (program_bytes p) ≡ 8 * length p
unfolding program_bytes
length_program [] = refl
length_program (i ∷ p) = omega (arith, length-append (insn_bytes i) (program_bytes p), length_insn i, length_program p)

-- ---- the instructions of any bytes

pub length_insns : (n at : ℕ) (s : List ℕ) → length (insns_at n at s) ≡ n
unfolding insns_at
length_insns zero at s = refl
length_insns (suc n) at s = ap suc (length_insns n (at + 8) s)

pub insns_get : (n at i : ℕ) (s : List ℕ) (d : Insn) → i < n → get_or (insns_at n at s) i d ≡ insn_at (at + 8 * i) s
unfolding insns_at
insns_get zero at i s d h = absurd (omega arith)
insns_get (suc n) at zero s d h = rw (add-zero at)
insns_get (suc n) at (suc i) s d h = insns_get n (at + 8) i s d (omega arith) ∙ ap (λ a. insn_at a s) (omega arith)

-- ---- a program written is read again

-- one instruction is read again where it stands
insn_read : (i : Insn) (pre post : List ℕ) → FitsBytes i → insn_at (length pre) (pre ++ (insn_bytes i ++ post)) ≡ i
unfolding le insn_at insn_bytes
insn_read i pre post h =
    λ j. insn (le_read 2 i.code pre (i.jt ∷ i.jf ∷ (le 4 i.k ++ post)) h.0 j)
    (get_or-append-add pre (insn_bytes i ++ post) 2 0 j) (get_or-append-add pre (insn_bytes i ++ post) 3 0 j) (last j)
  where
    four : List ℕ
    four = le 2 i.code ++ (i.jt ∷ i.jf ∷ [])

    reach : length (pre ++ four) ≡ length pre + 4
    reach = omega (arith, length-append pre four, length-append (le 2 i.code) (i.jt ∷ i.jf ∷ []), length_le 2 i.code)

    last : le_at 4 (length pre + 4) (pre ++ (insn_bytes i ++ post)) ≡ i.k
    last = rw (← reach, ← append_assoc pre four (le 4 i.k ++ post)) (le_read 4 i.k (pre ++ four) post h.3)

-- a program is read again where it stands
pub insns_read : (p : List Insn) (pre post : List ℕ) → AllFit p → insns_at (length p) (length pre) (pre ++ (program_bytes p ++ post)) ≡ p
unfolding insns_at program_bytes
insns_read [] pre post h = refl
insns_read (i ∷ p) pre post h =
    rw (append_assoc (insn_bytes i) (program_bytes p) post, insn_read i pre (program_bytes p ++ post) h.0)
    (ap (λ q. i ∷ q) (rw (← next, ← append_assoc pre (insn_bytes i) (program_bytes p ++ post)) (insns_read p (pre ++ insn_bytes i) post h.1)))
  where
    next : length (pre ++ insn_bytes i) ≡ length pre + 8
    next = omega (arith, length-append pre (insn_bytes i), length_insn i)

-- its instruction at place n
pub insn_at_lem : (n : ℕ) (p : List Insn) (pre post : List ℕ) (d : Insn) → n < length p → AllFit p → insn_at (length pre + 8 * n) (pre ++ (program_bytes p ++ post)) ≡ get_or p n d
insn_at_lem n p pre post d l h = sym (insns_get (length p) (length pre) n _ d l) ∙ ap (λ q. get_or q n d) (insns_read p pre post h)

-- ---- a whole program

pub program_read : (p : List Insn) → AllFit p → insns_at (length p) 0 (program_bytes p) ≡ p
program_read p h = ap (insns_at (length p) 0) (sym (append-nil (program_bytes p))) ∙ insns_read p [] [] h

pub program_at : (p : List Insn) (i : ℕ) (d : Insn) → i < length p → AllFit p → insn_at (8 * i) (program_bytes p) ≡ get_or p i d
program_at p i d l h = ap₂ insn_at (sym (zero-add (8 * i))) (sym (append-nil (program_bytes p))) ∙ insn_at_lem i p [] [] d l h
