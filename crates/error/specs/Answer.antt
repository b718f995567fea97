-- Document 01's table of refusals, those that the requests add, and answers that may be one of them.
use Rattle.std.specs.Prelude.{ℕ, List, [], ◌∷◌, Bool, false, ◌||◌, eqb, T, Result, Ok, Err}
use Rattle.error.specs.declared.Refusal.{Refusal}
use Rattle.error.specs.declared.Refusal.TheVariants.{StrangeFile, WrongCount, BadRecord, NotOneTree, KindOnRaw, PortProtocol, EtherOnRaw, FarJump, ShortBuffer, LongFrame, OddProgram, NoCapture, OtherLink, CutFrame, CookedAddress, UnknownWord, Unfinished, TooLarge, CountMoved}

-- "| Number | Word | Given when |"
abbrev pub number_of : Refusal → ℕ
number_of StrangeFile = 1
number_of WrongCount = 2
number_of BadRecord = 3
number_of NotOneTree = 4
number_of KindOnRaw = 5
number_of PortProtocol = 6
number_of EtherOnRaw = 7
number_of FarJump = 8
number_of ShortBuffer = 9
number_of LongFrame = 10
number_of OddProgram = 11
-- T-01: 12 "no capture", 13 "other link", 14 "cut frame"
number_of NoCapture = 12
number_of OtherLink = 13
number_of CutFrame = 14
-- T-03: 15 "cooked address"
number_of CookedAddress = 15
-- T-04: 16 "unknown word", 17 "unfinished", 18 "too large"
number_of UnknownWord = 16
number_of Unfinished = 17
number_of TooLarge = 18
-- T-05: 19 "count moved"
number_of CountMoved = 19

-- a number is one of these
abbrev pub among : List ℕ → ℕ → Bool
among [] n = false
among (m ∷ ms) n = eqb n m || among ms n

-- a refusal has one of these numbers
abbrev pub Numbered : List ℕ → Refusal → Type 0
Numbered ms r = T (among ms (number_of r))

-- a value, or a refusal
abbrev pub Out : Type 0 → Type 0
Out A = Result A Refusal

-- what is refused first is the answer
infixl 10 ◌>>=◌
abbrev pub ◌>>=◌ : {A B : Type 0} → Out A → (A → Out B) → Out B
◌>>=◌ (Err r) k = Err r
◌>>=◌ (Ok a) k = k a
