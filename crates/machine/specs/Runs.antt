-- The run of a program's bytes from a counter on, as the loops of the code take it up. These are promises between the functions of the code;
-- what `run` answers is said without them, in vm/specs/Machine.
use Rattle.std.specs.Prelude.{◌≡◌, ℕ, ◌+◌, ◌/◌, ◌%◌, ◌<◌, ◌≤◌, cond, List, Result, Ok, Err, length, drop, replicate, nat_lt, slice_index, slice_set, leb}
use Rattle.bpf.specs.declared.Insn.{Insn}
use Rattle.bpf.specs.Bytes.{be, le_at}
use Rattle.bpf.specs.Program.{insns_at}
use Rattle.vm.specs.declared.Verdict.{Verdict}
use Rattle.vm.specs.declared.Verdict.TheVariants.{Accepted, Dropped, Short, Broken}
use Rattle.vm.specs.declared.Outcome.{Outcome}
use Rattle.vm.specs.declared.Effect.{Effect}
use Rattle.vm.specs.declared.Effect.TheVariants.{SetA, SetX, Store, Skip, Stop}
use Rattle.machine.specs.declared.Way.{Way}
use Rattle.machine.specs.declared.Way.TheVariants as way
use Rattle.machine.specs.declared.Registers.{Registers}
use Rattle.vm.specs.Machine.{exec, ended}

-- so many bytes of a frame, as a load finds them
abbrev pub loaded : ℕ → ℕ → List ℕ → Result ℕ Verdict
loaded n at f = cond (leb (at + n) (length f)) (Ok (be n at f)) (Err Short)

-- the effect of a value that is found, or of a verdict
abbrev pub settled : (ℕ → Effect) → Result ℕ Verdict → Effect
settled to (Ok v) = to v
settled to (Err e) = Stop e

-- the instructions of a program's bytes, and their number
abbrev pub insns_of : List ℕ → List Insn
insns_of s = insns_at (length s / 8) 0 s

-- the run from a counter on, t instructions fetched
abbrev pub from : List ℕ → List ℕ → ℕ → ℕ → ℕ → ℕ → List ℕ → Outcome
from s f pc t a x m = exec f (drop pc (insns_of s)) 0 t a x m

-- the run that an effect leaves
abbrev pub goes : List ℕ → List ℕ → Effect → ℕ → ℕ → ℕ → ℕ → List ℕ → Outcome
goes s f (SetA v) pc t a x m = from s f (pc + 1) (t + 1) v x m
goes s f (SetX v) pc t a x m = from s f (pc + 1) (t + 1) a v m
goes s f (Store k v) pc t a x m = cond (nat_lt k 16) (from s f (pc + 1) (t + 1) a x (slice_set m k v)) (ended Broken (t + 1))
goes s f (Skip n) pc t a x m = from s f (pc + 1 + n) (t + 1) a x m
goes s f (Stop v) pc t a x m = ended v (t + 1)

-- ---- with scratch words that are all zero

abbrev pub zeros : List ℕ
zeros = replicate 16 0

-- a place where an instruction of the program starts
pub record At (s : List ℕ) (at : ℕ) : Type 0 where
  pub inside : at < length s
  pub start : at % 8 ≡ 0
  pub whole : length s % 8 ≡ 0
  pub limit : length s ≤ 32768

-- the run that a way leaves from the instruction at a place
abbrev pub went : Way → List ℕ → List ℕ → ℕ → ℕ → ℕ → ℕ → Outcome
went way.On s f at t a x = from s f (at / 8 + 1) (t + 1) a x zeros
went way.Jump s f at t a x = from s f (at / 8 + 1 + le_at 4 (at + 4) s) (t + 1) a x zeros
went way.Taken s f at t a x = from s f (at / 8 + 1 + slice_index s (at + 2)) (t + 1) a x zeros
went way.Missed s f at t a x = from s f (at / 8 + 1 + slice_index s (at + 3)) (t + 1) a x zeros
went way.NextTaken s f at t a x = from s f (at / 8 + 2 + slice_index s (at + 10)) (t + 2) a x zeros
went way.NextMissed s f at t a x = from s f (at / 8 + 2 + slice_index s (at + 11)) (t + 2) a x zeros
went way.Accepted s f at t a x = ended Accepted (t + 1)
went way.Dropped s f at t a x = ended Dropped (t + 1)
went way.Short s f at t a x = ended Short (t + 1)
went way.Other s f at t a x = from s f (at / 8) t a x zeros

-- the bytes of the program that a way is read from
abbrev pub reach : Way → ℕ
reach way.On = 8
reach way.Jump = 8
reach way.Taken = 8
reach way.Missed = 8
reach way.NextTaken = 16
reach way.NextMissed = 16
reach way.Accepted = 8
reach way.Dropped = 8
reach way.Short = 8
reach way.Other = 8

-- a run that goes on by a way, with these registers
pub record Goes (s f : List ℕ) (at : ℕ) (before : ℕ → Outcome) (w : Way) (g : Registers) : Type 0 where
  pub room : at + reach w ≤ length s
  pub same : (t : ℕ) → before t ≡ went w s f at t g.a g.x

-- the run from the instruction at a place
unfoldable pub Turns : List ℕ → List ℕ → ℕ → Registers → Way → Registers → Type 0
Turns s f at g w r = Goes s f at (λ t. from s f (at / 8) t g.a g.x zeros) w r

-- the run that an effect of that instruction leaves
unfoldable pub Follows : List ℕ → List ℕ → ℕ → Registers → Effect → Way → Registers → Type 0
Follows s f at g e w r = Goes s f at (λ t. goes s f e (at / 8) t g.a g.x zeros) w r

-- wherever the instruction's effect is this one
unfoldable pub Settles : Effect → Registers → Way → Registers → Type 0
Settles e g w r = (s f : List ℕ) (at : ℕ) → At s at → ((t : ℕ) → from s f (at / 8) t g.a g.x zeros ≡ goes s f e (at / 8) t g.a g.x zeros) → Turns s f at g w r

-- the run from the instruction after it, which is the second of two
unfoldable pub Next : List ℕ → ℕ → ℕ → Way → Type 0
Next s at a w = (f : List ℕ) (x : ℕ) → Goes s f at (λ t. from s f (at / 8 + 1) (t + 1) a x zeros) w (record { a = a; x = x })
