-- Where instructions jump, as one table with one theorem. Fields and places of the jumps are those of document 01's commissioning sheet.
use Prim.Native.Nat.{ℕ}
use mathlib.Core.List.{List, [], ◌∷◌}
use mathlib.Core.Bool.{Bool, true, false, ◌&&◌}
use lib.Dec.{eqb, T}
use Rattle.bpf.specs.declared.Insn.{Insn}
use Rattle.bpf.specs.Program.{insn, targets}

-- an instruction at a place, and its targets: by jt first
record Row : Type 0 where
  place : ℕ
  is : Insn
  goes : List ℕ

abbrev row : ℕ → Insn → List ℕ → Row
row i x l = record { place = i; is = x; goes = l }

abbrev same : List ℕ → List ℕ → Bool
same [] [] = true
same [] (n ∷ l) = false
same (m ∷ k) [] = false
same (m ∷ k) (n ∷ l) = eqb m n && same k l

test : List Row → Bool
test [] = true
test (r ∷ rs) = same (targets r.place r.is) r.goes && test rs

table : List Row
table =
    -- "Tcp or Udp: nine; jf 6, 1, 1 at 1, 3, 6; ja 2 at 4"
    row 0 (insn 0x28 0 0 12) []
    ∷ row 1 (insn 0x15 0 6 0x0800) (2 ∷ 8 ∷ [])
    ∷ row 3 (insn 0x15 0 1 6) (4 ∷ 5 ∷ [])
    ∷ row 4 (insn 0x05 0 0 2) (7 ∷ [])
    ∷ row 6 (insn 0x15 0 1 17) (7 ∷ 8 ∷ [])
    ∷ row 7 (insn 0x06 0 0 0xffffffff) []
    ∷ row 8 (insn 0x06 0 0 0) []
    -- "Tcp and Tcp destination port 80: eleven; jf 8, 6, 1 at 1, 3, 8; jt 4 at 5"
    ∷ row 1 (insn 0x15 0 8 0x0800) (2 ∷ 10 ∷ [])
    ∷ row 3 (insn 0x15 0 6 6) (4 ∷ 10 ∷ [])
    ∷ row 5 (insn 0x45 4 0 0x1fff) (10 ∷ 6 ∷ [])
    ∷ row 8 (insn 0x15 0 1 80) (9 ∷ 10 ∷ [])
    -- "Port 53, none, either: twenty; jt 8 at 1"
    ∷ row 1 (insn 0x15 8 0 0x86dd) (10 ∷ 2 ∷ [])
    -- ja goes by k alone, with the X bit too; a test goes by jt or jf, with the X bit and a high byte too
    ∷ row 4 (insn 0x0d 8 9 2) (7 ∷ [])
    ∷ row 4 (insn 0x1d 8 9 2) (13 ∷ 14 ∷ [])
    ∷ row 4 (insn 0xff25 8 9 2) (13 ∷ 14 ∷ [])
    ∷ row 4 (insn 0x35 8 9 2) (13 ∷ 14 ∷ [])
    -- operations 5 and 15 of the class are unknown, and the other classes do not jump
    ∷ row 4 (insn 0x55 8 9 2) []
    ∷ row 4 (insn 0xf5 8 9 2) []
    ∷ row 4 (insn 0x14 8 9 2) []
    ∷ row 4 (insn 0x17 8 9 2) []
    ∷ []

table_holds : T (test table)
unfolding test table
table_holds = tt
