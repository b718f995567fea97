-- The bytes of a phrase's items in prefix order are its records.
use Prim.Native.Nat.{ℕ, suc}
use mathlib.Core.Path.{◌≡◌, ap, ◌∙◌}
use mathlib.Core.List.{◌++◌, append-nil}
use Rattle.typing.specs.Phrase.{Operand, term, negated, brackets, Phrase, one, two, record_bytes, join_byte, term_record, operand_bytes, phrase_bytes}
use Rattle.records.specs.Order.{file_bytes, operand_prefix, phrase_prefix}
use Rattle.records.proofs.Writes.{file_append}
use mathlib.Core.Path.{ap₂}

mutual
  operand_bytes_lem : (o : Operand) (d : ℕ) → file_bytes (operand_prefix d o) ≡ operand_bytes o
  operand_bytes_lem (term t) d = append-nil (term_record t)
  operand_bytes_lem (negated o) d = ap (λ s. record_bytes 3 0 0 0 0 ++ s) (operand_bytes_lem o d)
  operand_bytes_lem (brackets p) d = phrase_bytes_lem p (suc d)

  pub phrase_bytes_lem : (p : Phrase) (d : ℕ) → file_bytes (phrase_prefix d p) ≡ phrase_bytes p
  phrase_bytes_lem (one o) d = operand_bytes_lem o d
  phrase_bytes_lem (two p j o) d =
      ap (λ s. record_bytes (join_byte j) 0 0 0 0 ++ s) (file_append (phrase_prefix d p) (operand_prefix d o) ∙ ap₂ ◌++◌ (phrase_bytes_lem p d) (operand_bytes_lem o d))
