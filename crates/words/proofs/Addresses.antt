-- An address part by part.
use Rattle.std.proofs.Common.{Option, None, Some, ℕ, suc, ◌+◌, ◌*◌, ◌-◌, ◌<◌, ◌≡◌, refl, ap, List, [], ◌∷◌, Bool, true, false, cond, length, take, drop, arith, add-one, length-drop}
use Rattle.std.proofs.lemmas.List.{take_all}
use lib.Dec.{eqb}
use borrow.Author.Tests.{ne_eqb}
use Rattle.bpf.specs.Bytes.{be}
use Rattle.typing.specs.Words.{decimal, onto, parts, before, octets, four, up_to}
use Rattle.typing.proofs.Numerals.{read, all_digits, parts_last, parts_dotted, dotted}
use Rattle.words.specs.Numbers.{Few}
use Rattle.words.proofs.Scans.{take_up_to}

-- ---- the first part

more : (s : List ℕ) → length (up_to 46 s) < length s → parts s ≡ up_to 46 s ∷ parts (drop (suc (length (up_to 46 s))) s)
more [] h = absurd (omega arith)
more (c ∷ s) h = by (eqb c 46) h (more s)
  where
    by : (b : Bool) → length (cond b [] (c ∷ up_to 46 s)) < suc (length s)
        → (length (up_to 46 s) < length s → parts s ≡ up_to 46 s ∷ parts (drop (suc (length (up_to 46 s))) s))
        → cond b ([] ∷ parts s) (onto c (parts s)) ≡ cond b [] (c ∷ up_to 46 s) ∷ parts (drop (suc (length (cond b [] (c ∷ up_to 46 s)))) (c ∷ s))
    by true h ih = refl
    by false h ih = ap (onto c) (ih (omega arith))

last : (s : List ℕ) → length (up_to 46 s) ≡ length s → parts s ≡ up_to 46 s ∷ []
last [] h = refl
last (c ∷ s) h = by (eqb c 46) h (last s)
  where
    by : (b : Bool) → length (cond b [] (c ∷ up_to 46 s)) ≡ suc (length s)
        → (length (up_to 46 s) ≡ length s → parts s ≡ up_to 46 s ∷ [])
        → cond b ([] ∷ parts s) (onto c (parts s)) ≡ cond b [] (c ∷ up_to 46 s) ∷ []
    by true h ih = absurd (omega arith)
    by false h ih = ap (onto c) (ih (omega arith))

-- where there is no dot
pub no_dot : (s : List ℕ) → length (up_to 46 s) ≡ length s → Few 1 (octets (parts s))
no_dot s h = rw (last s h) (by (decimal 255 (up_to 46 s)))
  where
    by : (o : Option ℕ) → Few 1 (before o (Some []))
    by None bs e = cc
    by (Some b) bs e = let z : b ∷ [] ≡ bs = cc in rw (← z) (omega arith)

-- where the first dot stands at a place
module _ (s : List ℕ) (n : ℕ) (dot : n ≡ length (up_to 46 s)) (inside : n < length s) where
  split : parts s ≡ up_to 46 s ∷ parts (drop (n + 1) s)
  split = rw (dot, add-one) (more s (rw dot at inside))

  front : (o : Option ℕ) → decimal 255 (take n s) ≡ o → decimal 255 (up_to 46 s) ≡ o
  front o e = rw (dot, take_up_to) at e

  pub no_byte : decimal 255 (take n s) ≡ None → Few 1 (octets (parts s))
  no_byte e = rw (split, front None e) (λ bs k. cc)

  pub byte_more : (b : ℕ) → decimal 255 (take n s) ≡ Some b → octets (parts s) ≡ before (Some b) (octets (parts (take (length s - (n + 1)) (drop (n + 1) s))))
  byte_more b e = rw (split, front (Some b) e, take_all (length s - (n + 1)) (drop (n + 1) s) (omega (arith, length-drop (n + 1) s)))

-- ---- the last part

pub last_byte : (s : List ℕ) (d : ℕ) → decimal 255 s ≡ Some d → octets (parts s) ≡ Some (d ∷ [])
last_byte s d e = rw (parts_last s (all_digits s d (read 255 s d e).0), e)

-- where it is no byte the parts are not one byte
pub last_bad : (s : List ℕ) → decimal 255 s ≡ None → (bs : List ℕ) → octets (parts s) ≡ Some bs → length bs ≡ 1 → ⊥
unfolding dotted
last_bad s e bs w h = by (parts s) (parts_dotted s) w
  where
    two : (o q : Option ℕ) (os : Option (List ℕ)) → before o (before q os) ≡ Some bs → ⊥
    two None q os w = cc
    two (Some b) None os w = cc
    two (Some b) (Some c) None w = cc
    two (Some b) (Some c) (Some cs) w = let z : b ∷ c ∷ cs ≡ bs = cc in omega (arith, ap length z)

    by : (ps : List (List ℕ)) → dotted ps ≡ s → octets ps ≡ Some bs → ⊥
    by [] d w = let z : [] ≡ bs = cc in omega (arith, ap length z)
    by (p ∷ []) d w = let k : before (decimal 255 s) (Some []) ≡ Some bs = rw d at w in cc
    by (p ∷ q ∷ ps) d w = two (decimal 255 p) (decimal 255 q) (octets ps) w

-- ---- four parts

-- a text, what stands behind its first three dots, and the bytes in front of these
pub record Three (s v : List ℕ) (a b c : ℕ) : Type 0 where
  pub t : List ℕ
  pub u : List ℕ
  pub first : octets (parts s) ≡ before (Some a) (octets (parts t))
  pub second : octets (parts t) ≡ before (Some b) (octets (parts u))
  pub third : octets (parts u) ≡ before (Some c) (octets (parts v))

pub four_bytes : {s v : List ℕ} {a b c : ℕ} → Three s v a b c → (d n : ℕ) → decimal 255 v ≡ Some d → n ≡ a * 16777216 + b * 65536 + c * 256 + d
    → four (octets (parts s)) ≡ Some n
unfolding be
four_bytes {v = v} h d n e k = rw (h.first, h.second, h.third, last_byte v d e) (ap Some (omega arith))

pub no_fourth : {s v : List ℕ} {a b c : ℕ} → Three s v a b c → decimal 255 v ≡ None → four (octets (parts s)) ≡ None
no_fourth {v = v} {a = a} {b = b} {c = c} h e = rw (h.first, h.second, h.third) (by (octets (parts v)) (last_bad v e))
  where
    by : (o : Option (List ℕ)) → ((bs : List ℕ) → o ≡ Some bs → length bs ≡ 1 → ⊥) → four (before (Some a) (before (Some b) (before (Some c) o))) ≡ None
    by None h = refl
    by (Some bs) h = rw (ne_eqb (length (a ∷ b ∷ c ∷ bs)) 4 (λ (k : length (a ∷ b ∷ c ∷ bs) ≡ 4). h bs refl (omega arith)))
