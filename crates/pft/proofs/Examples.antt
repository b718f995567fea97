-- Answers as C gets them, computed: refusal × 2^32 + accepted frames, + captured length, or + place; refusal × 65,536 + count.
use Rattle.typing.specs.Typed.{fault}
use Rattle.capture.specs.Counting.{halt}
use Rattle.std.specs.Prelude.{Ok, Err}
use mathlib.Core.Path.{◌≡◌, refl}
use mathlib.Core.List.{List, [], ◌∷◌}
use Prim.Native.Nat.{ℕ}
use Rattle.error.specs.declared.Refusal.TheVariants.{StrangeFile, FarJump, ShortBuffer, NoCapture, OtherLink, CutFrame, CookedAddress, UnknownWord, Unfinished, TooLarge, CountMoved}
use Rattle.capture.specs.declared.Tally.{Tally}
use Rattle.capture.specs.Counting.{none}
use Rattle.pft.specs.Numbers.{build_number, count_number, frame_number, type_number}

-- 3 of 5 frames are kept
three : Tally
three = record { kept = 3; given = 5; stop = 1000 }

counts : List ℕ
counts =
    count_number (Ok three) ∷ count_number (Err (halt CutFrame three)) ∷ count_number (Err (halt NoCapture none)) ∷ count_number (Err (halt OtherLink none)) ∷ count_number (Err (halt StrangeFile none)) ∷ []

counts_are : counts ≡ (0x3 ∷ 0xe00000003 ∷ 0xc00000000 ∷ 0xd00000000 ∷ 0x100000000 ∷ [])
unfolding counts three
counts_are = refl

frames : List ℕ
frames = frame_number (Ok 60) ∷ frame_number (Err NoCapture) ∷ frame_number (Err CutFrame) ∷ []

frames_are : frames ≡ (60 ∷ 0xc00000000 ∷ 0xe00000000 ∷ [])
unfolding frames
frames_are = refl

types : List ℕ
types =
    type_number (Ok 80) ∷ type_number (Err (fault UnknownWord 8)) ∷ type_number (Err (fault Unfinished 11)) ∷ type_number (Err (fault TooLarge 0))
    ∷ type_number (Err (fault StrangeFile 0)) ∷ []

types_are : types ≡ (80 ∷ 0x1000000008 ∷ 0x110000000b ∷ 0x1200000000 ∷ 0x100000000 ∷ [])
unfolding types
types_are = refl

-- a question answers the first three, a load all
loads : List ℕ
loads =
    build_number (Ok 3946) ∷ build_number (Err FarJump) ∷ build_number (Err CookedAddress) ∷ build_number (Err CountMoved)
    ∷ build_number (Err ShortBuffer) ∷ []

loads_are : loads ≡ (3946 ∷ 0x80000 ∷ 0xf0000 ∷ 0x130000 ∷ 0x90000 ∷ [])
unfolding loads
loads_are = refl
