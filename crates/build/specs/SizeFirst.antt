-- T-05, "Size first, load after", in the customer's words, of what calls of `question` and `load` answer and leave beside those of `build`.
-- `proofs/SizeFirst.antt` proves it of every tree file from what these functions promise.
use Rattle.std.specs.Prelude.{Ok, Err}
use Rattle.error.specs.Answer.{Out}
use Rattle.std.specs.Prelude.{ℕ, ◌*◌, ◌≤◌, ◌<◌, ◌≡◌, List, [], ◌∷◌, ◌↔◌, replicate, take}
use Rattle.error.specs.declared.Refusal.{Refusal}
use Rattle.error.specs.declared.Refusal.TheVariants.{ShortBuffer, CountMoved}
use Rattle.error.specs.Answer.{Numbered}
use Rattle.build.specs.Build.{question, load}
use Rattle.build.specs.Demands as D
use Rattle.build.specs.Demands.{Answers, Refuses, Frame, Begins, Demand3}

-- ---- the calls

-- what `question` and `load` answer for one tree file, and what `load` leaves, beside `build`, `run` and `direct_reading`
pub record Calls : Type 0 where
  pub base : D.Calls
  pub asks : Out ℕ  -- of `question`, which is lent no buffer
  pub loads : ℕ → ℕ → Out ℕ  -- of `load` with a count and a buffer of so many bytes
  pub leaves : ℕ → ℕ → List ℕ  -- every byte of that buffer afterwards

-- what the functions promise of them, equation by equation
pub record Kept (T : List ℕ) (c : Calls) : Type 0 where
  pub base : D.Kept T c.base
  pub asks : c.asks ≡ question T
  pub loads : (count lent : ℕ) → c.loads count lent ≡ (load T count lent).answer
  pub leaves : (count lent : ℕ) → c.leaves count lent ≡ (load T count lent).buffer

-- ---- the words

-- the load of a count answers and leaves what the build does with as many bytes: "what document 01 says", every byte
pub record Builds (c : Calls) (count lent : ℕ) : Type 0 where
  pub answer : c.loads count lent ≡ c.base.answer lent
  pub buffer : c.leaves count lent ≡ c.base.buffer lent

-- the load of a count is refused, "the buffer zero"
pub record Turns (c : Calls) (count lent : ℕ) (r : Refusal) : Type 0 where
  pub answer : c.loads count lent ≡ Err r
  pub buffer : c.leaves count lent ≡ replicate lent 0

-- the numbers of a question: "1 to 8 and 15". 9 and 19 are none of them
abbrev pub question_numbers : List ℕ
question_numbers = 1 ∷ 2 ∷ 3 ∷ 4 ∷ 5 ∷ 6 ∷ 7 ∷ 8 ∷ 15 ∷ []

-- ---- of the calls for a tree file T

pub record SizeFirst (T : List ℕ) (c : Calls) : Type 0 where
  -- "a question that returns the instruction count or refusal": the count that every build with room for it answers, or the refusal that every
  -- build gives
  pub counts : (n : ℕ) → (c.asks ≡ Ok n) ↔ ((lent : ℕ) → 8 * n ≤ lent → Answers c.base lent n)
  pub refusals : (r : Refusal) → (c.asks ≡ Err r) ↔ ((lent : ℕ) → Refuses c.base lent r)
  pub numbers : (r : Refusal) → c.asks ≡ Err r → Numbered question_numbers r
  -- "The load writes what document 01 says if the tree still has that count.": 9 is among the answers
  pub same : (n lent : ℕ) → c.asks ≡ Ok n → Builds c n lent
  -- "19 "count moved", after 1 to 8 and 15,": such a number comes whatever the count and whatever is lent
  pub refused : (r : Refusal) (count lent : ℕ) → c.asks ≡ Err r → Turns c count lent r
  -- "before 9, the buffer zero": a count that is not the tree's, in whichever of its bits, gives 19 whatever is lent,
  pub moved : (n count lent : ℕ) → c.asks ≡ Ok n → ¬ (count ≡ n) → Turns c count lent CountMoved
  -- and 9 comes only with the tree's count, where less is lent than it needs
  pub last : (count lent : ℕ) → (c.loads count lent ≡ Err ShortBuffer) ↔ ((c.asks ≡ Ok count) × (lent < 8 * count))
  -- 19 is given for nothing else than a count that moved
  pub only : (count lent : ℕ) → c.loads count lent ≡ Err CountMoved → (n : ℕ) × (c.asks ≡ Ok n) × (¬ (count ≡ n))
  -- a load answers no other count than the one that it takes
  pub counted : (count n lent : ℕ) → c.loads count lent ≡ Ok n → (n ≡ count) × (c.asks ≡ Ok count)
  -- and of the program that it leaves demand 3 holds
  pub third : (count lent : ℕ) → c.loads count lent ≡ Ok count → (F G : List ℕ) → Frame F → Frame G → Begins G F
      → Demand3 T c.base (take (8 * count) (c.leaves count lent)) F G

-- ---- of the calls c for the tree file that was asked, and d for the one that it is when it is loaded

pub record Edited (c d : Calls) : Type 0 where
  -- "A tree edited to another program of equal count is loaded as it then is."
  pub equal : (n lent : ℕ) → c.asks ≡ Ok n → d.asks ≡ Ok n → Builds d n lent
  -- one edited to a program of another count is not loaded
  pub other : (n m lent : ℕ) → c.asks ≡ Ok n → d.asks ≡ Ok m → ¬ (m ≡ n) → Turns d n lent CountMoved
  -- one edited to a tree that is turned down gives that number
  pub down : (n lent : ℕ) (r : Refusal) → c.asks ≡ Ok n → d.asks ≡ Err r → Turns d n lent r
