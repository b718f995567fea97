-- The answer to a typed line, and every byte of what it leaves.
use Rattle.std.specs.Prelude.{Result}
use Rattle.typing.specs.declared.Fault.{Fault}
use Rattle.std.specs.Prelude.{Ok, Err}
use Rattle.std.specs.Prelude.{ℕ, ◌-◌, List, ◌++◌, Bool, cond, ◌&&◌, length, leb}
use Rattle.error.specs.declared.Refusal.{Refusal}
use Rattle.error.specs.declared.Refusal.TheVariants.{UnknownWord, Unfinished, TooLarge}
use Rattle.error.specs.Answer.{Out}
use Rattle.ast.specs.declared.LinkType.{LinkType}
use Rattle.ast.specs.File.{link_of}
use Rattle.typing.specs.Words.{line_words}
use Rattle.typing.specs.Phrase.{Phrase, record_count, depth, file_of, zeros}
use Rattle.typing.specs.Finds.{Found, phrase, unknown, unfinished}
use Rattle.typing.specs.Parse.{start, scan}

-- a refusal, and the byte of the line where it is met
abbrev pub fault : Refusal → ℕ → Fault
fault r place = record { refusal = r; place = place }

-- what a typed line leaves: its answer, and every byte of the tree
pub record Typed : Type 0 where
  pub answer : Result ℕ Fault
  pub tree : List ℕ

-- "The result is a version 1 tree file in 3,080 bytes, zero after its end"
abbrev pub placed : List ℕ → Typed
placed s = record { answer = Ok (length s); tree = s ++ zeros (3080 - length s) }

-- "and on a refusal"
abbrev pub rejected : Refusal → ℕ → Typed
rejected r place = record { answer = Err (fault r place); tree = zeros 3080 }

-- "over 128 records or over 128 brackets open at once" does not hold
abbrev pub within : Phrase → Bool
within p = leb (record_count p) 128 && leb (depth p) 128

-- "16 "unknown word", .. with the byte where it starts; 17 "unfinished", at the first word that can't follow or at the end, the line's length;
-- 18 "too large", .. only if neither holds": that has no place of its own, and 0 is given
abbrev pub sized : ℕ → Found → Typed
sized link (unknown k) = rejected UnknownWord k
sized link (unfinished k) = rejected Unfinished k
sized link (phrase p) = cond (within p) (placed (file_of link p)) (rejected TooLarge 0)

-- "a link outside 1 to 3 gives 1 first", without a place
abbrev pub linked : Out LinkType → Typed → Typed
linked (Err r) t = rejected r 0
linked (Ok l) t = t

-- a link byte, and a line beside it
unfoldable pub typed : ℕ → List ℕ → Typed
typed link line = linked (link_of link) (sized link (scan (length line) start (line_words line)))
