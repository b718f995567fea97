-- Instructions written one after another.
use Rattle.std.proofs.Common.{◌≡◌, refl, sym, ap, ◌∙◌, ℕ, ◌+◌, ◌-◌, ◌*◌, ◌<◌, List, [], ◌∷◌, ◌++◌, length, take, drop, get_or, arith}
use mathlib.Core.List.{append-nil}
use native.Mathlib.Numerals.{add-one}
use Rattle.std.proofs.lemmas.List.{append_assoc, length-take-le, drop-drop}
use Rattle.std.proofs.Math.Seq.{take-suc, take_at, drop_at}
use borrow.Rule.Slice.PartMut.{put_mid}
use Rattle.bpf.specs.declared.Insn.{Insn}
use Rattle.bpf.specs.Program.{insn_bytes, program_bytes}
use Rattle.bpf.proofs.Programs.{length_program}

bytes_append : (p q : List Insn) → program_bytes (p ++ q) ≡ program_bytes p ++ program_bytes q
unfolding program_bytes
bytes_append [] q = refl
bytes_append (x ∷ p) q = ap (λ r. insn_bytes x ++ r) (bytes_append p q) ∙ sym (append_assoc (insn_bytes x) (program_bytes p) (program_bytes q))

-- the buffer d where the first i instructions are written
abbrev pub written : List Insn → List ℕ → ℕ → List ℕ
written p d i = program_bytes (take i p) ++ drop (8 * i) d

module _ (p : List Insn) (d : List ℕ) (i : ℕ) (x : Insn) (l : i < length p) where
  so_far : length (program_bytes (take i p)) ≡ 8 * i
  so_far = omega (arith, length_program (take i p), length-take-le i p (omega arith))

  one_more : program_bytes (take (i + 1) p) ≡ program_bytes (take i p) ++ insn_bytes (get_or p i x)
  unfolding program_bytes
  one_more = rw add-one (ap program_bytes (take-suc p i x l) ∙ bytes_append (take i p) (get_or p i x ∷ []) ∙ ap (λ r. program_bytes (take i p) ++ r) (append-nil (insn_bytes (get_or p i x))))

  -- one instruction more, as a copy into the part of the buffer at its place leaves it
  pub next : (at : ℕ) → at ≡ 8 * i → put_mid at (at + 8 - at) (written p d i) (insn_bytes (get_or p i x)) ≡ written p d (i + 1)
  next at e =
      rw (e, one_more, take_at (program_bytes (take i p)) (drop (8 * i) d) (8 * i) so_far, drop_at (program_bytes (take i p)) (drop (8 * i) d) (8 * i) so_far, drop-drop)
      (sym (append_assoc (program_bytes (take i p)) (insn_bytes (get_or p i x)) _) ∙ ap (λ n. program_bytes (take i p) ++ insn_bytes (get_or p i x) ++ drop n d) (omega arith))
