-- Items as the words come, put into prefix order from the right: a join waits until what stands before it, as far as it is as deep, is done.
-- They are items of any type that tells of each how deep it is, whether it joins, and its record's bytes.
use Rattle.std.specs.Prelude.{ℕ, ◌+◌, List, [], ◌∷◌, ◌++◌, Bool, true, false, leb}

-- what is done, in its order, and the joins that wait, the last one met first
pub record Popped (A : Type 0) : Type 0 where
  pub finished : List A
  pub waiting : List A

abbrev pub popped : {A : Type 0} → List A → List A → Popped A
popped d w = record { finished = d; waiting = w }

-- joins at this depth or deeper wait no longer
unfoldable pub pop_from : {A : Type 0} → (A → ℕ) → ℕ → List A → List A → Popped A
pop_from deep t d [] = popped d []
pop_from deep t d (y ∷ ys) = elim (leb t (deep y)) [ true ↦ pop_from deep t (y ∷ d) ys | false ↦ popped d (y ∷ ys) ]

abbrev pub pop : {A : Type 0} → (A → ℕ) → ℕ → Popped A → Popped A
pop deep t r = pop_from deep t r.finished r.waiting

abbrev pub placed : {A : Type 0} → Bool → A → Popped A → Popped A
placed true x r = popped r.finished (x ∷ r.waiting)
placed false x r = popped (x ∷ r.finished) r.waiting

abbrev pub put : {A : Type 0} → (A → ℕ) → (A → Bool) → A → Popped A → Popped A
put deep joins x r = placed (joins x) x (pop deep (deep x + 1) r)

unfoldable pub order : {A : Type 0} → (A → ℕ) → (A → Bool) → List A → Popped A
order deep joins [] = popped [] []
order deep joins (x ∷ xs) = put deep joins x (order deep joins xs)

abbrev pub arranged : {A : Type 0} → (A → ℕ) → (A → Bool) → List A → List A
arranged deep joins xs = (pop deep 0 (order deep joins xs)).finished

-- the bytes of their records
abbrev pub rows : {A : Type 0} → (A → List ℕ) → List A → List ℕ
rows row [] = []
rows row (x ∷ xs) = row x ++ rows row xs
