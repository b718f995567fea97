-- The ways of the quick loop: what the code finds of an instruction is how the run goes on.
use Rattle.std.proofs.Common.{◌≡◌, ℕ, ◌+◌, ◌*◌, ◌/◌, ◌%◌, ◌<◌, Bool, true, false, cond, eqb, List, Ok, Err, length, get_or, refl, ◌∙◌, arith}
use Rattle.bpf.specs.Bytes.{le_at}
use Rattle.bpf.specs.Program.{insn_at}
use Rattle.vm.specs.declared.Effect.{Effect}
use Rattle.vm.specs.declared.Effect.TheVariants.{SetA, Skip}
use Rattle.machine.specs.declared.Way.{Way}
use Rattle.machine.specs.declared.Registers.{Registers}
use Rattle.vm.specs.Machine.{effect, load, jmp}
use Rattle.machine.specs.declared.Way.TheVariants as way
use Rattle.vm.specs.declared.Verdict.{Verdict}
use Rattle.vm.specs.declared.Outcome.{Outcome}
use Rattle.machine.specs.Runs.{loaded, from, goes, zeros, At, Next, Turns, Follows, Settles, Goes}
use Rattle.machine.proofs.Low.{effect_low, low_at}
use Rattle.machine.proofs.Onward.{run_on}

-- the instruction at a place of the program does what the effect of its low byte says
run_place : (s f : List ℕ) (at t a x : ℕ) (m : List ℕ) → At s at → from s f (at / 8) t a x m ≡ goes s f (effect f m (low_at at s) a x) (at / 8) t a x m
unfolding insn_at
run_place s f at t a x m h = rw effect_low (rw back at (run_on s f (at / 8) t a x m (omega arith)))
  where
    back : 8 * (at / 8) ≡ at
    back = omega arith

-- a turn by what the instruction's effect leaves
pub turned : (s f : List ℕ) (at : ℕ) (g r : Registers) (w : Way) → At s at → Follows s f at g (effect f zeros (low_at at s) g.a g.x) w r → Turns s f at g w r
unfolding Follows Turns
turned s f at g r w h q = record { room = q.room; same = λ t. run_place s f at t g.a g.x zeros h ∙ q.same t }

-- a turn that is right wherever the effect is this one
pub placed : (s f : List ℕ) (at : ℕ) (g r : Registers) (w : Way) → At s at → Settles (effect f zeros (low_at at s) g.a g.x) g w r → Turns s f at g w r
unfolding Settles Turns
placed s f at g r w h q = q s f at h (λ t. run_place s f at t g.a g.x zeros h)

-- what is not done leaves the run as it is
pub left : (e : Effect) (g : Registers) → Settles e g way.Other g
unfolding Settles Turns
left e g s f at h q = record { room = omega arith; same = λ t. refl }

-- a jump by k
pub jumped : (s f : List ℕ) (at : ℕ) (g : Registers) → At s at → Follows s f at g (Skip (le_at 4 (at + 4) s)) way.Jump g
unfolding Follows
jumped s f at g h = record { room = omega arith; same = λ t. refl }

-- a test, by its side
pub tested : (s f : List ℕ) (at : ℕ) (g : Registers) (w : Way) (b : Bool) → At s at → w ≡ cond b way.Taken way.Missed
    → Follows s f at g (Skip (cond b (get_or s (at + 2) 0) (get_or s (at + 3) 0))) w g
unfolding Follows
tested s f at g w true h e = rw e (record { room = omega arith; same = λ t. refl })
tested s f at g w false h e = rw e (record { room = omega arith; same = λ t. refl })

-- ---- a load, and the test that may follow it

test_at : (s f : List ℕ) (at t a x : ℕ) → At s at → le_at 2 at s % 256 ≡ 0x15
    → from s f (at / 8) t a x zeros
    ≡ from s f (at / 8 + 1 + cond (eqb a (le_at 4 (at + 4) s)) (get_or s (at + 2) 0) (get_or s (at + 3) 0)) (t + 1) a x zeros
unfolding effect jmp
test_at s f at t a x h q = run_place s f at t a x zeros h ∙ rw q

-- the run from the instruction after one whose load gives A, where it is a test
next_run : (s f : List ℕ) (at t a x : ℕ) → At s at → at + 8 < length s → le_at 2 (at + 8) s % 256 ≡ 0x15
    → from s f (at / 8 + 1) (t + 1) a x zeros
    ≡ from s f (at / 8 + 2 + cond (eqb a (le_at 4 (at + 12) s)) (get_or s (at + 10) 0) (get_or s (at + 11) 0)) (t + 2) a x zeros
next_run s f at t a x h i q =
    let next = test_at s f (at + 8) (t + 1) a x (record { inside = i; start = omega arith; whole = h.whole; limit = h.limit }) q in
    grind arith

pub next_test : (s : List ℕ) (at a : ℕ) (w : Way) → At s at → at + 8 < length s → le_at 2 (at + 8) s % 256 ≡ 0x15 → w ≡ cond (eqb a (le_at 4 (at + 12) s)) way.NextTaken way.NextMissed
    → Next s at a w
unfolding Next
next_test s at a w h i q e f x = rw e (side (eqb a (le_at 4 (at + 12) s)) (λ t. next_run s f at t a x h i q))
  where
    before : ℕ → Outcome
    before t = from s f (at / 8 + 1) (t + 1) a x zeros

    side : (b : Bool) → ((t : ℕ) → before t ≡ from s f (at / 8 + 2 + cond b (get_or s (at + 10) 0) (get_or s (at + 11) 0)) (t + 2) a x zeros)
        → Goes s f at before (cond b way.NextTaken way.NextMissed) (record { a = a; x = x })
    side true k = record { room = omega arith; same = k }
    side false k = record { room = omega arith; same = k }

-- where no test follows
pub next_on : (s : List ℕ) (at a : ℕ) → At s at → Next s at a way.On
unfolding Next
next_on s at a h f x = record { room = omega arith; same = λ t. refl }

-- a load inside the frame
pub loaded_then : (n place : ℕ) (s f : List ℕ) (at v : ℕ) (g : Registers) (w : Way) → loaded n place f ≡ Ok v → Next s at v w
    → Follows s f at g (load n place f SetA) w (record g { a = v })
unfolding Follows Next load
loaded_then n place s f at v g w h q = record { room = (q f g.x).room; same = λ t. grind (arith, (q f g.x).same t) }

-- and past its end
pub loaded_out : (n place : ℕ) (s f : List ℕ) (at : ℕ) {v : Verdict} (g : Registers) → At s at → loaded n place f ≡ Err v
    → Follows s f at g (load n place f SetA) way.Short g
unfolding Follows load
loaded_out n place s f at g i h = record { room = omega arith; same = λ t. grind arith }
