-- The notes of a tree's records: for each record the guards that its tree requires, and where it ends.
use Rattle.std.specs.Prelude.{ℕ, ◌+◌, ◌≤◌, ◌<◌, ◌≡◌, List, length, get_or}
use Rattle.ast.specs.File.{count_of}
use Rattle.codegen.specs.Guards.{required_guards}
use Rattle.reader.specs.Reader.{Here, tree_of, end_of}
use Rattle.guards.specs.declared.Note.{Note}

-- the note of the tree at record i of the file s
abbrev pub note_of : List ℕ → ℕ → Note
note_of s i = record { guards = required_guards (tree_of s i); end = end_of s i }

-- the notes of the records from lo up to hi are those of the file s
pub record Noted (s : List ℕ) (M : List Note) (lo hi : ℕ) : Type 0 where
  pub note : (i : ℕ) (d : Note) → lo ≤ i → i < hi → get_or M i d ≡ note_of s i

-- a tree stands at record i of the file s, and the records after it are noted
pub record Next (s : List ℕ) (M : List Note) (i : ℕ) : Type 0 where
  pub here : Here s i
  pub long : count_of s ≤ length M
  pub noted : Noted s M (i + 1) (count_of s)
