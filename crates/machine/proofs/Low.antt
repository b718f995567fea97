-- Only the low byte of a code is read.
use Rattle.std.proofs.Common.{◌≡◌, ℕ, ◌+◌, ◌/◌, ◌%◌, List, get_or, sym, arith}
use Rattle.bpf.specs.declared.Insn.{Insn}
use Rattle.bpf.specs.Bytes.{le_at}
use Rattle.bpf.specs.Program.{insn}
use Rattle.vm.specs.Machine.{effect, jmp}

pub effect_low : (f m : List ℕ) (c t j k a x : ℕ) → effect f m (insn (c % 256) t j k) a x ≡ effect f m (insn c t j k) a x
unfolding effect jmp
effect_low f m c t j k a x =
    let class : c % 256 % 8 ≡ c % 8 = omega arith in
    let mode : c % 256 / 32 % 8 ≡ c / 32 % 8 = omega arith in
    let size : c % 256 / 8 % 4 ≡ c / 8 % 4 = omega arith in
    let operand : c % 256 / 8 % 2 ≡ c / 8 % 2 = omega arith in
    let operation : c % 256 / 16 % 16 ≡ c / 16 % 16 = omega arith in
    let register : c % 256 / 16 % 2 ≡ c / 16 % 2 = omega arith in
    let misc : c % 256 / 128 % 2 ≡ c / 128 % 2 = omega arith in
    cc

-- so an instruction does what the one with that byte alone for its code does
pub by_low : (f m : List ℕ) (i : Insn) (low a x : ℕ) → i.code % 256 ≡ low → effect f m i a x ≡ effect f m (insn low i.jt i.jf i.k) a x
by_low f m i low a x h = rw (← h) (sym (effect_low f m i.code i.jt i.jf i.k a x))

-- the instruction at a place, with that byte for its code
abbrev pub low_at : ℕ → List ℕ → Insn
low_at at s = insn (le_at 2 at s % 256) (get_or s (at + 2) 0) (get_or s (at + 3) 0) (le_at 4 (at + 4) s)
