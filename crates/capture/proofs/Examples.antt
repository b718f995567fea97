-- Small captures, computed. The headers are as libpcap writes them (version 2.4, snap length 262,144); the places are those that the
-- format's description gives, the counts those of libpcap with the filter `ip`, and the limit and the numbers of refusals T-01's.
use Rattle.std.specs.Prelude.{Result}
use Rattle.capture.specs.declared.Halt.{Halt}
use Rattle.capture.specs.declared.Tally.{Tally}
use Rattle.std.specs.Prelude.{Ok, Err}
use Prim.Native.Nat.{ℕ}
use mathlib.Core.Path.{◌≡◌, refl}
use mathlib.Core.List.{List, [], ◌∷◌, ◌++◌}
use mathlib.Core.Bool.{Bool, true, ◌&&◌}
use lib.ListN.{take, replicate}
use lib.Dec.{eqb, T}
use Rattle.error.specs.declared.Refusal.TheVariants.{NoCapture, CutFrame}
use Rattle.bpf.specs.Bytes.{be, le_at}
use Rattle.bpf.specs.Program.{insn_at, insns_at}
use Rattle.vm.specs.Machine.{load, sized_load, scratch, ld, ldx, alu, jmp, effect, exec, inner, run}
use Rattle.ast.specs.declared.LinkType.{LinkType}
use Rattle.ast.specs.declared.LinkType.TheVariants.{Ethernet, RawIp, LinuxSll}
use Rattle.capture.specs.declared.Order.{Order}
use Rattle.capture.specs.declared.Order.TheVariants.{Big, Little}
use Rattle.capture.specs.Capture.{order_of, opened, front, piece, frames_after, frames, frames_of, frame_at}
use Rattle.capture.specs.Counting.{passing, counted, refusal_of, frames_in}

-- ---- file headers: mark, version 2.4, zone, accuracy, snap length, link

big : List ℕ
big =
    0xa1 ∷ 0xb2 ∷ 0xc3 ∷ 0xd4 ∷ 0 ∷ 2 ∷ 0 ∷ 4 ∷ 0 ∷ 0 ∷ 0 ∷ 0 ∷ 0 ∷ 0 ∷ 0 ∷ 0 ∷ 0 ∷ 4 ∷ 0 ∷ 0 ∷ 0 ∷ 0 ∷ 0 ∷ 1 ∷ []

little : List ℕ
little =
    0xd4 ∷ 0xc3 ∷ 0xb2 ∷ 0xa1 ∷ 2 ∷ 0 ∷ 4 ∷ 0 ∷ 0 ∷ 0 ∷ 0 ∷ 0 ∷ 0 ∷ 0 ∷ 0 ∷ 0 ∷ 0 ∷ 0 ∷ 4 ∷ 0 ∷ 101 ∷ 0 ∷ 0 ∷ 0 ∷ []

-- with times in nanoseconds
big_nano : List ℕ
big_nano =
    0xa1 ∷ 0xb2 ∷ 0x3c ∷ 0x4d ∷ 0 ∷ 2 ∷ 0 ∷ 4 ∷ 0 ∷ 0 ∷ 0 ∷ 0 ∷ 0 ∷ 0 ∷ 0 ∷ 0 ∷ 0 ∷ 4 ∷ 0 ∷ 0 ∷ 0 ∷ 0 ∷ 0 ∷ 113 ∷ []

-- and with the length of a frame check sequence in the link field
little_nano : List ℕ
little_nano =
    0x4d ∷ 0x3c ∷ 0xb2 ∷ 0xa1 ∷ 2 ∷ 0 ∷ 4 ∷ 0 ∷ 0 ∷ 0 ∷ 0 ∷ 0 ∷ 0 ∷ 0 ∷ 0 ∷ 0 ∷ 0 ∷ 0 ∷ 4 ∷ 0 ∷ 1 ∷ 0 ∷ 0 ∷ 0x30 ∷ []

-- of another writer, whose frame headers are longer
patched : List ℕ
patched =
    0xa1 ∷ 0xb2 ∷ 0xcd ∷ 0x34 ∷ 0 ∷ 2 ∷ 0 ∷ 4 ∷ 0 ∷ 0 ∷ 0 ∷ 0 ∷ 0 ∷ 0 ∷ 0 ∷ 0 ∷ 0 ∷ 4 ∷ 0 ∷ 0 ∷ 0 ∷ 0 ∷ 0 ∷ 1 ∷ []

-- ---- frames: a time, the captured length in four bytes, an original length of 1,500, and n bytes

frame : Order → List ℕ → ℕ → List ℕ
frame Big size n = replicate 8 9 ++ (size ++ (0 ∷ 0 ∷ 5 ∷ 0xdc ∷ replicate n 5))
frame Little size n = replicate 8 9 ++ (size ++ (0xdc ∷ 5 ∷ 0 ∷ 0 ∷ replicate n 5))

-- one of no bytes and one of three, then a cut header
cut_header : frames_of Big (big ++ (frame Big (0 ∷ 0 ∷ 0 ∷ 0 ∷ []) 0 ++ (frame Big (0 ∷ 0 ∷ 0 ∷ 3 ∷ []) 3 ++ replicate 15 1))) ≡ record { pieces = piece 40 0 ∷ piece 56 3 ∷ []; stop = 59 }
unfolding big frame frames frames_after front be le_at
cut_header = refl

-- the other order, and a cut body
cut_body : frames_of Little (little ++ (frame Little (3 ∷ 0 ∷ 0 ∷ 0 ∷ []) 3 ++ frame Little (4 ∷ 0 ∷ 0 ∷ 0 ∷ []) 3)) ≡ record { pieces = piece 40 3 ∷ []; stop = 43 }
unfolding little frame frames frames_after front be le_at
cut_body = refl

-- one at a time: the first, the second, the end, and a header of no capture
two : List ℕ
two = little ++ (frame Little (3 ∷ 0 ∷ 0 ∷ 0 ∷ []) 3 ++ frame Little (1 ∷ 0 ∷ 0 ∷ 0 ∷ []) 1)

first : frame_at two 24 ≡ Ok 3
unfolding two little frame frame_at order_of front be le_at
first = refl

second : frame_at two 43 ≡ Ok 1
unfolding two little frame frame_at order_of front be le_at
second = refl

no_more : frame_at two 60 ≡ Err CutFrame
unfolding two little frame frame_at order_of front be le_at
no_more = refl

none_in : frame_at (patched ++ frame Big (0 ∷ 0 ∷ 0 ∷ 3 ∷ []) 3) 24 ≡ Err NoCapture
unfolding patched frame frame_at order_of be le_at
none_in = refl

-- ---- counts, as one table with one theorem

data Row : Type 0 where
  counts : LinkType → List ℕ → ℕ → ℕ → ℕ → ℕ → Row  -- a link and a capture: the refusal, the frames kept, those given, and where reading stopped

-- document 01's Ip for Ethernet: a frame is kept whose bytes 12 and 13 are 8 and 0, and one of under 14 bytes is short
ip : List ℕ
ip = 0x28 ∷ 0 ∷ 0 ∷ 0 ∷ 12 ∷ 0 ∷ 0 ∷ 0 ∷ 0x15 ∷ 0 ∷ 0 ∷ 1 ∷ 0 ∷ 8 ∷ 0 ∷ 0 ∷ 6 ∷ 0 ∷ 0 ∷ 0 ∷ 255 ∷ 255 ∷ 255 ∷ 255 ∷ 6 ∷ 0 ∷ 0 ∷ 0 ∷ 0 ∷ 0 ∷ 0 ∷ 0 ∷ []

-- a frame of 14 bytes with an ethertype 8, n
typed : ℕ → List ℕ
typed n = frame Big (0 ∷ 0 ∷ 0 ∷ 14 ∷ []) 12 ++ (8 ∷ n ∷ [])

-- two of IPv4, one of ARP, and a short one
four : List ℕ
four = big ++ (typed 0 ++ (typed 6 ++ (typed 0 ++ frame Big (0 ∷ 0 ∷ 0 ∷ 13 ∷ []) 13)))

valued : Result Tally Halt → ℕ → ℕ → ℕ → ℕ → Bool
valued a r k g s = let t = frames_in a in eqb (refusal_of a) r && (eqb t.kept k && (eqb t.given g && eqb t.stop s))

holds : Row → Bool
holds (counts link s r k g e) = valued (counted ip link s) r k g e

test : List Row → Bool
test [] = true
test (r ∷ rs) = holds r && test rs

table : List Row
table =
    counts Ethernet four 0 2 4 143
    -- no frame: each link, both byte orders, both marks
    ∷ counts Ethernet big 0 0 0 24
    ∷ counts RawIp little 0 0 0 24
    ∷ counts LinuxSll big_nano 0 0 0 24
    -- 12: a byte too few; another mark, whatever the link
    ∷ counts Ethernet (take 23 big) 12 0 0 0
    ∷ counts RawIp patched 12 0 0 0
    -- 13: in all 32 bits, and before 14
    ∷ counts RawIp four 13 0 0 0
    ∷ counts Ethernet little_nano 13 0 0 0
    ∷ counts RawIp (big ++ (1 ∷ [])) 13 0 0 0
    -- 14 at a cut header, a cut body and a length of 65,536 whose bytes are there: the frames before it are counted, those behind it are not
    ∷ counts Ethernet (four ++ (1 ∷ [])) 14 2 4 143
    ∷ counts Ethernet (take 142 four) 14 2 3 114
    ∷ counts Ethernet (big ++ (typed 0 ++ (frame Big (0 ∷ 1 ∷ 0 ∷ 0 ∷ []) 65536 ++ typed 0))) 14 1 1 54
    -- and 65,535 is the longest
    ∷ counts Ethernet (big ++ (typed 0 ++ (frame Big (0 ∷ 0 ∷ 255 ∷ 255 ∷ []) 65535 ++ typed 0))) 0 2 3 65635
    ∷ []

table_holds : T (test table)
unfolding test holds valued table four typed ip frame big little big_nano little_nano patched counted passing opened order_of frames frames_after front load sized_load scratch ld ldx alu jmp effect exec inner run insns_at insn_at le_at be
table_holds = tt
