-- T-04, in the customer's words: what words are, and what calls of `type_line` answer and leave. `proofs/Types.antt` proves it of every
-- link byte and line from what the functions promise.
use Rattle.std.specs.Prelude.{None, Some}
use Rattle.std.specs.Prelude.{Err, Result}
use Rattle.typing.specs.declared.Fault.{Fault}
use Rattle.typing.specs.Typed.{fault}
use Rattle.std.specs.Prelude.{Ok}
use Rattle.std.specs.Prelude.{ℕ, ◌+◌, ◌*◌, ◌-◌, ◌<◌, ◌≤◌, ◌≡◌, List, [], ◌∷◌, ◌++◌, true, false, ◌↔◌, ◌⊎◌, length, replicate}
use Rattle.error.specs.declared.Refusal.{Refusal}
use Rattle.error.specs.declared.Refusal.TheVariants.{StrangeFile, UnknownWord, Unfinished, TooLarge}
use Rattle.error.specs.Answer.{Numbered}
use Rattle.vm.specs.declared.Verdict.TheVariants.{Accepted, Dropped}
use Rattle.ast.specs.declared.LinkType.{LinkType}
use Rattle.ast.specs.File.{link_of, parse}
use Rattle.direct.specs.Reading.{network_start}
use Rattle.build.specs.Demands as B
use Rattle.build.specs.Demands.{Answers, program_of, Frame, Gets, ReadsPast}
use Rattle.typing.specs.declared.Word.TheVariants.{Address as address, Number as number}
use Rattle.typing.specs.Words.{keywords, keyword, word_of, AllInWord, spotted, words_from, line_words}
use Rattle.typing.specs.Numerals.{PortNumber, Dotted}
use Rattle.typing.specs.Phrase.{Phrase, words_of, record_count, Within, says, tree_of, file_of}
use Rattle.typing.specs.Finds.{Spot, spots, words, unknown, unfinished, Finds}
use Rattle.typing.specs.Typed.{typed}

-- ---- the calls

-- what `type_line` answers and leaves, and what `build`, `run` and `direct_reading` do with a tree file
pub record Calls : Type 0 where
  pub answer : ℕ → List ℕ → Result ℕ Fault  -- of `type_line` with a link byte and a line
  pub tree : ℕ → List ℕ → List ℕ  -- every byte of the tree afterwards
  pub base : List ℕ → B.Calls  -- of the others with a tree file

-- what the functions promise of them
pub record Kept (c : Calls) : Type 0 where
  pub answers : (link : ℕ) (line : List ℕ) → c.answer link line ≡ (typed link line).answer
  pub leaves : (link : ℕ) (line : List ℕ) → c.tree link line ≡ (typed link line).tree
  pub base : (T : List ℕ) → B.Kept T (c.base T)

-- ---- the words

-- a line says a phrase of the grammar: all its words are known, and they are the phrase's
pub record Says (line : List ℕ) (p : Phrase) : Type 0 where
  pub the_words : List Spot
  pub known : line_words line ≡ spots the_words
  pub said : words_of p ≡ words the_words

-- "Each line that these rules allow": it says a phrase that is not too large
abbrev pub Allows : List ℕ → Phrase → Type 0
Allows line p = Says line p × Within p

abbrev pub Refuses : Calls → ℕ → List ℕ → Refusal → ℕ → Type 0
Refuses c link line r place = c.answer link line ≡ Err (fault r place)

-- ---- "Words, brackets too, are separated by one or more spaces, which may also stand first or last"

pub record Spaced : Type 0 where
  pub nothing : (at : ℕ) → words_from false at [] ≡ []
  -- bytes without a space are one word, at the place of the first
  pub one : (at b : ℕ) (s : List ℕ) → AllInWord (b ∷ s) → words_from false at (b ∷ s) ≡ spotted at (word_of (b ∷ s)) ∷ []
  -- a space parts the words before it from those after it
  pub space : (at : ℕ) (s t : List ℕ) → words_from false at (s ++ (0x20 ∷ t)) ≡ words_from false at s ++ words_from false (at + length s + 1) t

-- ---- "an address is four decimals up to 255, a port one up to 65,535, without leading zeros"

pub record Numerals : Type 0 where
  pub addresses : (s : List ℕ) (v : ℕ) → (word_of s ≡ Some (address v)) ↔ Dotted s v
  pub ports : (s : List ℕ) (n : ℕ) → (word_of s ≡ Some (number n)) ↔ PortNumber s n
  -- "none of these words and no such address or port number"
  pub unknown : (s : List ℕ) → (word_of s ≡ None) ↔ ((keyword keywords s ≡ None) × ((v : ℕ) → ¬ Dotted s v) × ((n : ℕ) → ¬ PortNumber s n))

-- ---- of a program P of the build of a file T, and a frame F: the verdict is what a phrase says

pub record Decided (c : B.Calls) (P F : List ℕ) (l : LinkType) (p : Phrase) : Type 0 where
  pub accepted : Gets c P F Accepted ↔ (says l F p ≡ true)
  pub dropped : Gets c P F Dropped ↔ (says l F p ≡ false)
  pub either : Gets c P F Accepted ⊎ Gets c P F Dropped

-- ---- of a line that says a phrase p within the limits, with a link byte of a link l, and its file T

pub record Gives (c : Calls) (link : ℕ) (l : LinkType) (line : List ℕ) (p : Phrase) (T : List ℕ) : Type 0 where
  -- "The result is a version 1 tree file in 3,080 bytes, zero after its end"
  pub answers : c.answer link line ≡ Ok (length T)
  pub leaves : c.tree link line ≡ T ++ replicate (3080 - length T) 0
  pub long : length T ≡ 8 + 24 * record_count p
  -- "it passes 1 to 4," with the phrase's tree: the build turns it down with none of them
  pub passes : parse T ≡ Ok (record { link = l; tree = tree_of p })
  pub builds : (lent : ℕ) (r : Refusal) → B.Refuses (c.base T) lent r → Numbered (5 ∷ 6 ∷ 7 ∷ 8 ∷ 9 ∷ 15 ∷ []) r
  -- "and read directly is true exactly on the frames where the line, read word by word by these rules, is."
  pub reads : (F : List ℕ) → length F ≤ 65535 → (c.base T).read F ≡ Ok (says l F p)
  -- so, with demand 3, the verdict of the file's program is what the line says wherever it does not run short,
  pub decided : (lent count : ℕ) → Answers (c.base T) lent count → (F : List ℕ) → Frame F → ¬ ReadsPast (c.base T) (program_of (c.base T) lent count) F
      → Decided (c.base T) (program_of (c.base T) lent count) F l p
  -- and always on frames that reach 64 bytes past the network header's start
  pub there : (lent count : ℕ) → Answers (c.base T) lent count → (F : List ℕ) → Frame F → network_start l + 64 ≤ length F
      → Decided (c.base T) (program_of (c.base T) lent count) F l p

-- ---- of a link byte of a link l, and a line

pub record Typing (c : Calls) (link : ℕ) (l : LinkType) (line : List ℕ) : Type 0 where
  -- "Each line that these rules allow,"
  pub gives : (p : Phrase) → Allows line p → Gives c link l line p (file_of link p)
  -- "and no other, gives a file;"
  pub no_other : (n : ℕ) → c.answer link line ≡ Ok n → (p : Phrase) × Allows line p
  -- what a line says is one phrase
  pub one : (p q : Phrase) → Says line p → Says line q → p ≡ q
  -- "16 "unknown word", none of these words and no such address or port number, with the byte where it starts; 17 "unfinished", at the first
  -- word that can't follow or at the end, the line's length;" "The earliest place wins, and 16 precedes 17 at one place.": see `Finds`
  pub unknown_word : (k : ℕ) → Refuses c link line UnknownWord k ↔ Finds (length line) (line_words line) (unknown k)
  pub unfinished_line : (k : ℕ) → Refuses c link line Unfinished k ↔ Finds (length line) (line_words line) (unfinished k)
  -- "18 "too large", over 128 records or over 128 brackets open at once, only if neither holds."
  pub too_large : Refuses c link line TooLarge 0 ↔ ((p : Phrase) × Says line p × (¬ Within p))
  -- there is no other answer
  pub all : ((p : Phrase) × Allows line p) ⊎ (((k : ℕ) × Refuses c link line UnknownWord k) ⊎ (((k : ℕ) × Refuses c link line Unfinished k) ⊎ Refuses c link line TooLarge 0))

-- ---- of a link byte and a line

pub record Types (c : Calls) (link : ℕ) (line : List ℕ) : Type 0 where
  -- "the link comes beside the text; a link outside 1 to 3 gives 1 first."
  pub strange : (link < 1) ⊎ (3 < link) → Refuses c link line StrangeFile 0
  pub linked : 1 ≤ link → link ≤ 3 → (l : LinkType) × (link_of link ≡ Ok l) × Typing c link l line
  -- "zero .. on a refusal"
  pub zeroes : (r : Refusal) (k : ℕ) → Refuses c link line r k → c.tree link line ≡ replicate 3080 0
