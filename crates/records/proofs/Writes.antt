-- Bytes written one part after another.
use Prim.Native.Nat.{ℕ, ◌+◌, ◌*◌, ◌≤◌, ◌<◌}
use mathlib.Core.Path.{◌≡◌, refl, sym, ap, ap₂, ◌∙◌}
use mathlib.Core.List.{List, [], ◌∷◌, ◌++◌, append_assoc, append-nil}
use native.Mathlib.Omega.{arith}
use native.Mathlib.Numerals.{add-one}
use lib.ListN.{length, take, drop, get_or, length-append, length-drop}
use lib.Seq.{take_at, drop_at, drop-drop, length-take-le, take-suc}
use Rattle.lines.specs.declared.Item.{Item}
use Rattle.records.specs.Arrange.{rows}
use Rattle.records.specs.Order.{row, file_bytes}

-- n bytes X written at a place
pub record Wrote (l : List ℕ) (at n : ℕ) (X m : List ℕ) : Type 0 where
  pub long : length X ≡ n
  pub fits : at + n ≤ length l
  pub is : m ≡ take at l ++ X ++ drop (at + n) l

module _ {l m k X Y : List ℕ} {at n j : ℕ} where
  pub and_then : Wrote l at n X m → Wrote m (at + n) j Y k → at + n + j ≤ length l → Wrote l at (n + j) (X ++ Y) k
  and_then a b room =
      record {
        long = omega (arith, length-append X Y, a.long, b.long);
        fits = omega arith;
        is = b.is ∙ (ap₂ (λ s t. s ++ Y ++ t) front back ∙ ap (λ s. s ++ drop (at + (n + j)) l) (append_assoc (take at l) X Y));
      }
    where
      head : length (take at l ++ X) ≡ at + n
      head = omega (arith, length-append (take at l) X, length-take-le at l (omega arith), a.long)

      front : take (at + n) m ≡ take at l ++ X
      front = ap (take (at + n)) a.is ∙ take_at (take at l ++ X) (drop (at + n) l) (at + n) head

      rest : drop (at + n) m ≡ drop (at + n) l
      rest = ap (drop (at + n)) a.is ∙ drop_at (take at l ++ X) (drop (at + n) l) (at + n) head

      sum : at + n + j ≡ at + (n + j)
      sum = omega arith

      back : drop (at + n + j) m ≡ drop (at + (n + j)) l
      back = sym (drop-drop j (at + n) m) ∙ (ap (drop j) rest ∙ (drop-drop j (at + n) l ∙ ap (λ (i : ℕ). drop i l) sum))

pub wrote_length : {l m X : List ℕ} {at n : ℕ} → Wrote l at n X m → length m ≡ length l
wrote_length {l} {m} {X} {at} {n} a =
    omega (arith, ap length a.is, length-append (take at l ++ X) (drop (at + n) l), length-append (take at l) X, length-take-le at l (omega (arith, a.fits)), length-drop (at + n) l, a.long, a.fits)

-- ---- all records

module _ {A : Type 0} (row : A → List ℕ) where
  pub rows_append : (xs ys : List A) → rows row (xs ++ ys) ≡ rows row xs ++ rows row ys
  rows_append [] ys = refl
  rows_append (x ∷ xs) ys = ap (λ s. row x ++ s) (rows_append xs ys) ∙ sym (append_assoc (row x) (rows row xs) (rows row ys))

  rows_next : (xs : List A) (i : ℕ) (d : A) → i < length xs → rows row (take (i + 1) xs) ≡ rows row (take i xs) ++ row (get_or xs i d)
  rows_next xs i d h =
      let x = get_or xs i d in
      rw (add-one i) (ap (rows row) (take-suc xs i d h) ∙ (rows_append (take i xs) (x ∷ []) ∙ ap (λ s. rows row (take i xs) ++ s) (append-nil (row x))))

  pub record Filling (tree₀ : List ℕ) (xs : List A) (tree : List ℕ) (i : ℕ) : Type 0 where
    pub most : i ≤ length xs
    pub wrote : Wrote tree₀ 8 (24 * i) (rows row (take i xs)) tree

  pub filling_next : {tree₀ tree tree' part : List ℕ} {xs : List A} {i : ℕ} (d : A) → Filling tree₀ xs tree i → i < length xs → 8 + 24 * length xs ≤ length tree₀
      → length part ≡ 24 → part ≡ row (get_or xs i d) → tree' ≡ take (8 + 24 * i) tree ++ part ++ drop (8 + 24 * i + length part) tree → Filling tree₀ xs tree' (i + 1)
  filling_next {tree₀} {tree} {tree'} {part} {xs} {i} d f h room long p e =
      let one : Wrote tree (8 + 24 * i) 24 part tree' = record { long = long; fits = omega (arith, wrote_length f.wrote); is = rw long at e } in
      let two = and_then f.wrote one (omega arith) in
      let size : 24 * i + 24 ≡ 24 * (i + 1) = omega arith in
      record { most = omega arith; wrote = rw (size, p, ← rows_next xs i d h) at two }

pub file_append : (xs ys : List Item) → file_bytes (xs ++ ys) ≡ file_bytes xs ++ file_bytes ys
file_append xs ys = rows_append row xs ys

-- ---- the whole file

pub file_is : (tree head part : List ℕ) (k : ℕ) {tree₁ tree₂ : List ℕ} → length head ≡ 8 → tree₁ ≡ head ++ drop 8 tree → tree₂ ≡ take 8 tree₁ ++ part ++ drop (8 + k) tree₁ → tree₂ ≡ (head ++ part) ++ drop (8 + k) tree
file_is tree head part k {tree₁} {tree₂} long e h =
    let front : take 8 tree₁ ≡ head = ap (take 8) e ∙ take_at head (drop 8 tree) 8 long in
    let rest : drop 8 tree₁ ≡ drop 8 tree = ap (drop 8) e ∙ drop_at head (drop 8 tree) 8 long in
    let back : drop (8 + k) tree₁ ≡ drop (8 + k) tree = sym (drop-drop k 8 tree₁) ∙ (ap (drop k) rest ∙ drop-drop k 8 tree) in
    h ∙ ap₂ (λ s t. s ++ part ++ t) front back
