-- What the request finds in the words of a line, said by its grammar alone, without a parser. That every line has exactly one of these, and
-- that `scan` finds it, is proved in proofs/Answers.
use Rattle.std.specs.Prelude.{ℕ, ◌≡◌, List, [], ◌∷◌, ◌++◌}
use Rattle.typing.specs.Words.{Word, Placed, known, strange}
use Rattle.typing.specs.Phrase.{Phrase, words_of}

-- a word with its place
pub record Spot : Type 0 where
  pub place : ℕ
  pub word : Word

abbrev pub spots : List Spot → List Placed
spots [] = []
spots (s ∷ ss) = known s.place s.word ∷ spots ss

abbrev pub words : List Spot → List Word
words [] = []
words (s ∷ ss) = s.word ∷ words ss

-- a line that the rules allow, as far as its size is not asked, has these words
abbrev pub Allowed : List Word → Type 0
Allowed ws = (p : Phrase) × (words_of p ≡ ws)

-- a line that the rules allow begins with these words
abbrev pub Begins : List Word → Type 0
Begins ws = (rest : List Word) × Allowed (ws ++ rest)

pub data Found : Type 0 where
  phrase : Phrase → Found
  unknown unfinished : ℕ → Found

-- In the words of a line of `end` bytes: "The earliest place wins, and 16 precedes 17 at one place", so before a place that is found all words
-- are known and a line that the rules allow begins with them
pub data Finds (end : ℕ) (all : List Placed) : Found → Type 0 where
  -- 16 "unknown word"
  not_known : (ss : List Spot) (k : ℕ) (rest : List Placed) → all ≡ spots ss ++ (strange k ∷ rest)
      → Begins (words ss) → Finds end all (unknown k)
  -- 17 "unfinished", "at the first word that can't follow"
  cannot_follow : (ss : List Spot) (k : ℕ) (w : Word) (rest : List Placed) → all ≡ spots ss ++ (known k w ∷ rest)
      → Begins (words ss) → ¬ Begins (words ss ++ (w ∷ [])) → Finds end all (unfinished k)
  -- "or at the end, the line's length"
  not_ended : (ss : List Spot) → all ≡ spots ss → Begins (words ss) → ¬ Allowed (words ss) → Finds end all (unfinished end)
  -- a line that the rules allow
  whole : (ss : List Spot) (p : Phrase) → all ≡ spots ss → words_of p ≡ words ss → Finds end all (phrase p)
