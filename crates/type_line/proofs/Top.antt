-- What the code's reading of a line says of the definition's answer.
use Rattle.std.specs.Prelude.{Result}
use Rattle.typing.specs.declared.Fault.{Fault}
use Rattle.typing.specs.Typed.{fault}
use Rattle.std.specs.Prelude.{Ok, Err}
use Prim.Native.Nat.{ℕ, zero, suc, ◌+◌, ◌*◌, ◌-◌, ◌≤◌, ◌<◌}
use mathlib.Core.Path.{◌≡◌, refl, sym, ap, ap₂, ◌∙◌}
use mathlib.Core.List.{List, ◌++◌}
use mathlib.Core.Bool.{Bool, true, false, cond}
use native.Mathlib.Omega.{arith}
use lib.ListN.{length, length-append, take, drop}
use Rattle.error.specs.declared.Refusal.TheVariants.{StrangeFile, UnknownWord, Unfinished, TooLarge}
use Rattle.ast.specs.declared.LinkType.{LinkType}
use Rattle.ast.specs.File.{link_of}
use Rattle.typing.specs.Words.{line_words}
use Rattle.typing.specs.Phrase.{Operand, term, negated, brackets, Phrase, one, two, operand_records, record_count, depth, Within, file_of, zeros}
use Rattle.typing.specs.Finds.{Found, phrase, unknown, unfinished}
use Rattle.typing.specs.Parse.{start, scan}
use Rattle.error.specs.Answer.{Out}
use Rattle.typing.specs.Typed.{Typed, placed, rejected, within, sized, linked, typed}
use Rattle.typing.proofs.Answers.{true-within}
use Rattle.typing.proofs.Passes.{file_length}
use Rattle.lines.specs.declared.Item.{Item}
use Rattle.lines.specs.declared.Size.{Size}
use Rattle.lines.specs.Reads.{Reading, reading, size, scans, begin}
use Rattle.lines.specs.Items.{phrase_items}
use Rattle.records.specs.Order.{operand_prefix, phrase_prefix, file_bytes, head_bytes}
use Rattle.lines.proofs.Simulates.{written, Follows}
use Rattle.records.proofs.Records.{phrase_bytes_lem}
use Rattle.type_line.specs.Filed as F
use Rattle.type_line.proofs.Whole.{phrase_count, first_items, in_order, reads_line}

-- ---- what was found

module _ (l₀ : List Item) where
  -- a refusal of the reading is the definition's
  found_fault : (link : ℕ) (f : Found) (r : Reading) (e : Fault) → Follows l₀ f r → r.answer ≡ Err e → sized link f ≡ rejected e.refusal e.place
  found_fault link (phrase p) r e h k = let z = ap (λ x. x.answer) h in cc
  found_fault link (unknown j) r e h k = let z : fault UnknownWord j ≡ e = cc in ap (λ x. rejected x.refusal x.place) z
  found_fault link (unfinished j) r e h k = let z : fault Unfinished j ≡ e = cc in ap (λ x. rejected x.refusal x.place) z

  record IsPhrase (f : Found) (r : Reading) (z : Size) : Type 0 where
    the_phrase : Phrase
    is : f ≡ phrase the_phrase
    counts : z.records ≡ record_count the_phrase
    deep : z.deepest ≡ depth the_phrase
    items : r.items ≡ written l₀ (phrase_items 0 the_phrase)

  found_whole : (f : Found) (r : Reading) (z : Size) → Follows l₀ f r → r.answer ≡ Ok z → IsPhrase f r z
  found_whole (phrase p) r z h e =
      let k : size (length (phrase_items 0 p)) (depth p) ≡ z = (let y = ap (λ x. x.answer) h in cc) in
      record { the_phrase = p; is = refl; counts = sym (ap (λ (x : Size). x.records) k) ∙ phrase_count 0 p; deep = sym (ap (λ (x : Size). x.deepest) k); items = ap (λ x. x.items) h }
  found_whole (unknown j) r z h e = cc
  found_whole (unfinished j) r z h e = cc

-- ---- the bytes

mutual
  operand_prefix_lem : (d : ℕ) (o : Operand) → length (operand_prefix d o) ≡ operand_records o
  operand_prefix_lem d (term t) = refl
  operand_prefix_lem d (negated o) = ap suc (operand_prefix_lem d o)
  operand_prefix_lem d (brackets p) = prefix_count (suc d) p

  prefix_count : (d : ℕ) (p : Phrase) → length (phrase_prefix d p) ≡ record_count p
  prefix_count d (one o) = operand_prefix_lem d o
  prefix_count d (two p j o) = omega (arith, length-append (phrase_prefix d p) (operand_prefix d o), prefix_count d p, operand_prefix_lem d o)

drop_zeros : (k m : ℕ) → drop k (zeros m) ≡ zeros (m - k)
drop_zeros zero m = let e : m ≡ m - zero = omega arith in ap (λ (i : ℕ). zeros i) e
drop_zeros (suc k) zero = let e : 0 ≡ 0 - suc k = omega arith in ap (λ (i : ℕ). zeros i) e
drop_zeros (suc k) (suc m) = let e : m - k ≡ suc m - suc k = omega arith in drop_zeros k m ∙ ap (λ (i : ℕ). zeros i) e

-- the file that the code writes is the phrase's
file_written : (link : ℕ) (l₀ items : List Item) (p : Phrase) → Within p → length l₀ ≡ 128 → items ≡ written l₀ (phrase_items 0 p)
    → F.written link (take (record_count p) items) ≡ file_of link p
file_written link l₀ items p fits len these =
    ap (λ x. F.written link (take (record_count p) x)) these
    ∙ (ap₂ (λ (n : ℕ) x. head_bytes link n ++ file_bytes x) (ap length (first_items l₀ p room) ∙ phrase_count 0 p) (in_order l₀ p room fits.flat)
    ∙ ap (λ s. head_bytes link (record_count p) ++ s) (phrase_bytes_lem p 0))
  where
    room : record_count p ≤ length l₀
    room = omega (arith, fits.few)

-- ---- the links

pub link_low : (link : ℕ) → link < 1 → link_of link ≡ Err StrangeFile
link_low zero h = refl
link_low (suc n) h = absurd (omega arith)

pub link_high : (link : ℕ) → 3 < link → link_of link ≡ Err StrangeFile
link_high zero h = absurd (omega arith)
link_high (suc zero) h = absurd (omega arith)
link_high (suc (suc zero)) h = absurd (omega arith)
link_high (suc (suc (suc zero))) h = absurd (omega arith)
link_high (suc (suc (suc (suc n)))) h = refl

pub link_good : (link : ℕ) → 1 ≤ link → link ≤ 3 → (l : LinkType) × (link_of link ≡ Ok l)
link_good zero h k = absurd (omega arith)
link_good (suc zero) h k = (_, refl)
link_good (suc (suc zero)) h k = (_, refl)
link_good (suc (suc (suc zero))) h k = (_, refl)
link_good (suc (suc (suc (suc n)))) h k = absurd (omega arith)

-- ---- what the definition answers

-- an answer and its bytes, by the definition's
pub leaves : {t u : Typed} → t ≡ u → (u.answer ≡ t.answer) × (u.tree ≡ t.tree)
leaves e = (sym (ap (λ x. x.answer) e), sym (ap (λ x. x.tree) e))

pub typed_link : (link : ℕ) (line : List ℕ) → link_of link ≡ Err StrangeFile → typed link line ≡ rejected StrangeFile 0
unfolding typed
typed_link link line e = rw e

-- a link byte that is refused, and one that is not
pub typed_strange : (link : ℕ) (line : List ℕ) (e : Fault) → F.placeless (link_of link) ≡ Err e → typed link line ≡ rejected e.refusal e.place
unfolding typed
typed_strange link line e h = by (link_of link) h
  where
    by : (o : Out LinkType) → F.placeless o ≡ Err e → linked o (sized link (scan (length line) start (line_words line))) ≡ rejected e.refusal e.place
    by (Ok l) h = cc
    by (Err r) h = let z : fault r 0 ≡ e = cc in ap (λ x. rejected x.refusal x.place) z

pub link_known : (link : ℕ) (l : LinkType) → F.placeless (link_of link) ≡ Ok l → (l : LinkType) × (link_of link ≡ Ok l)
link_known link l h = by (link_of link) refl h
  where
    by : (o : Out LinkType) → link_of link ≡ o → F.placeless o ≡ Ok l → (l : LinkType) × (link_of link ≡ Ok l)
    by (Ok k) e h = (k, e)
    by (Err r) e h = cc

typed_as : (link : ℕ) (line : List ℕ) (f : Found) → (l : LinkType) × (link_of link ≡ Ok l) → scan (length line) start (line_words line) ≡ f → typed link line ≡ sized link f
unfolding typed
typed_as link line f l e = rw (l.1, e)

-- a file's answer and its bytes, by its records
placed_as : (link : ℕ) (l₀ items : List Item) (p : Phrase) → Within p → length l₀ ≡ 128 → items ≡ written l₀ (phrase_items 0 p)
    → placed (file_of link p) ≡ F.made link (record_count p) items (zeros 3080)
placed_as link l₀ items p fits len these =
    ap₂ (λ (n : ℕ) (s : List ℕ). as_typed (Ok n) s) (file_length link p)
    (ap₂ (λ (s : List ℕ) (n : ℕ). s ++ zeros (3080 - n)) (sym (file_written link l₀ items p fits len these)) (file_length link p)
    ∙ ap (λ s. F.written link (take (record_count p) items) ++ s) (sym (drop_zeros (8 + 24 * record_count p) 3080)))
  where
    as_typed : Result ℕ Fault → List ℕ → Typed
    as_typed a s = record { answer = a; tree = s }

module _ (link : ℕ) (line : List ℕ) (l₀ items : List Item) (good : (l : LinkType) × (link_of link ≡ Ok l)) (r : Result Size Fault)
    (read : reading r items ≡ scans (length line) begin l₀ (line_words line)) where
  seen : (scans (length line) begin l₀ (line_words line)).answer ≡ r
  seen = ap (λ x. x.answer) (sym read)

  follows : Follows l₀ (scan (length line) start (line_words line)) (scans (length line) begin l₀ (line_words line))
  follows = reads_line l₀ (length line) (line_words line)

  pub typed_fault : (e : Fault) → r ≡ Err e → typed link line ≡ rejected e.refusal e.place
  typed_fault e h = typed_as link line _ good refl ∙ found_fault l₀ link _ _ e follows (seen ∙ h)

  pub typed_whole : (z : Size) → r ≡ Ok z → length l₀ ≡ 128 → typed link line ≡ F.filed link z items (zeros 3080)
  typed_whole z e len = typed_as link line (phrase p) good q.is ∙ by (within p) refl
    where
      q : IsPhrase l₀ (scan (length line) start (line_words line)) (scans (length line) begin l₀ (line_words line)) z
      q = found_whole l₀ _ _ z follows (seen ∙ e)

      p : Phrase
      p = q.the_phrase

      same : F.filed link z items (zeros 3080) ≡ cond (within p) (F.made link (record_count p) items (zeros 3080)) (F.kept (zeros 3080))
      same = ap₂ (λ (a b : ℕ). F.filed link (size a b) items (zeros 3080)) q.counts q.deep

      by : (b : Bool) → within p ≡ b → sized link (phrase p) ≡ F.filed link z items (zeros 3080)
      by true h =
          ap (λ b. cond b (placed (file_of link p)) (rejected TooLarge 0)) h
          ∙ (placed_as link l₀ items p (true-within p h) len (ap (λ x. x.items) read ∙ q.items)
          ∙ sym (same ∙ ap (λ b. cond b (F.made link (record_count p) items (zeros 3080)) (F.kept (zeros 3080))) h))
      by false h =
          ap (λ b. cond b (placed (file_of link p)) (rejected TooLarge 0)) h
          ∙ sym (same ∙ ap (λ b. cond b (F.made link (record_count p) items (zeros 3080)) (F.kept (zeros 3080))) h)
