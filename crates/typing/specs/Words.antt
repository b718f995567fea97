-- T-04, the words of a typed line, each with the byte where it starts.
use Rattle.std.specs.Prelude.{Option, None, Some}
use Rattle.std.specs.Prelude.{ℕ, ◌+◌, ◌*◌, ◌-◌, ◌≡◌, List, [], ◌∷◌, Bool, true, false, cond, not, ◌&&◌, ◌||◌, length, eqb, leb}
use Rattle.bpf.specs.Bytes.{be}
-- the words are enums of the code; here they are written small, as they are typed
pub use Rattle.typing.specs.declared.Transport.{Transport}
pub use Rattle.typing.specs.declared.Transport.TheVariants.{Tcp as tcp, Udp as udp, Sctp as sctp}
pub use Rattle.typing.specs.declared.Name.{Name}
pub use Rattle.typing.specs.declared.Name.TheVariants.{Ip as ip, Ip6 as ip6, Arp as arp, Rarp as rarp, Icmp as icmp}
pub use Rattle.typing.specs.declared.Side.{Side}
pub use Rattle.typing.specs.declared.Side.TheVariants.{Src as src, Dst as dst}
pub use Rattle.typing.specs.declared.Join.{Join}
pub use Rattle.typing.specs.declared.Join.TheVariants.{And as and, Or as or}
pub use Rattle.typing.specs.declared.Word.{Word}
pub use Rattle.typing.specs.declared.Word.TheVariants.{Name as name, Over as over, Side as side, Host as host, Port as port, Opening as opening, Closing as closing, Negate as negate, Join as join, Address as address, Number as number}

-- ---- the bytes of a word

pub record Row : Type 0 where
  pub text : List ℕ
  pub word : Word

abbrev pub row : List ℕ → Word → Row
row t w = record { text = t; word = w }

abbrev pub keywords : List Row
keywords =
    row (0x69 ∷ 0x70 ∷ []) (name ip)  -- ip
    ∷ row (0x69 ∷ 0x70 ∷ 0x36 ∷ []) (name ip6)  -- ip6
    ∷ row (0x61 ∷ 0x72 ∷ 0x70 ∷ []) (name arp)  -- arp
    ∷ row (0x72 ∷ 0x61 ∷ 0x72 ∷ 0x70 ∷ []) (name rarp)  -- rarp
    ∷ row (0x74 ∷ 0x63 ∷ 0x70 ∷ []) (over tcp)  -- tcp
    ∷ row (0x75 ∷ 0x64 ∷ 0x70 ∷ []) (over udp)  -- udp
    ∷ row (0x73 ∷ 0x63 ∷ 0x74 ∷ 0x70 ∷ []) (over sctp)  -- sctp
    ∷ row (0x69 ∷ 0x63 ∷ 0x6d ∷ 0x70 ∷ []) (name icmp)  -- icmp
    ∷ row (0x68 ∷ 0x6f ∷ 0x73 ∷ 0x74 ∷ []) host  -- host
    ∷ row (0x70 ∷ 0x6f ∷ 0x72 ∷ 0x74 ∷ []) port  -- port
    ∷ row (0x73 ∷ 0x72 ∷ 0x63 ∷ []) (side src)  -- src
    ∷ row (0x64 ∷ 0x73 ∷ 0x74 ∷ []) (side dst)  -- dst
    ∷ row (0x28 ∷ []) opening  -- (
    ∷ row (0x29 ∷ []) closing  -- )
    ∷ row (0x6e ∷ 0x6f ∷ 0x74 ∷ []) negate  -- not
    ∷ row (0x61 ∷ 0x6e ∷ 0x64 ∷ []) (join and)  -- and
    ∷ row (0x6f ∷ 0x72 ∷ []) (join or)  -- or
    ∷ []

abbrev pub same : List ℕ → List ℕ → Bool
same [] [] = true
same [] (b ∷ t) = false
same (a ∷ s) [] = false
same (a ∷ s) (b ∷ t) = eqb a b && same s t

abbrev pub keyword : List Row → List ℕ → Option Word
keyword [] s = None
keyword (k ∷ ks) s = cond (same k.text s) (Some k.word) (keyword ks s)

-- "four decimals up to 255, a port one up to 65,535, without leading zeros"
abbrev pub digit : ℕ → Bool
digit c = leb 48 c && leb c 57

abbrev pub digits : List ℕ → Bool
digits [] = true
digits (c ∷ s) = digit c && digits s

-- the number that digits after those of v make
abbrev pub value : ℕ → List ℕ → ℕ
value v [] = v
value v (c ∷ s) = value (v * 10 + (c - 48)) s

abbrev pub empty : List ℕ → Bool
empty [] = true
empty (c ∷ s) = false

-- a decimal number up to a limit: digits, at least one, and a 0 in front only if it is alone
abbrev pub decimal : ℕ → List ℕ → Option ℕ
decimal most [] = None
decimal most (c ∷ s) =
    cond (digits (c ∷ s) && ((not (eqb c 48) || empty s) && leb (value 0 (c ∷ s)) most)) (Some (value 0 (c ∷ s))) None

-- what stands between the dots
abbrev pub onto : ℕ → List (List ℕ) → List (List ℕ)
onto c [] = (c ∷ []) ∷ []
onto c (p ∷ ps) = (c ∷ p) ∷ ps

abbrev pub parts : List ℕ → List (List ℕ)
parts [] = [] ∷ []
parts (c ∷ s) = let ps = parts s in cond (eqb c 46) ([] ∷ ps) (onto c ps)

abbrev pub before : Option ℕ → Option (List ℕ) → Option (List ℕ)
before None bs = None
before (Some b) None = None
before (Some b) (Some bs) = Some (b ∷ bs)

abbrev pub octets : List (List ℕ) → Option (List ℕ)
octets [] = Some []
octets (p ∷ ps) = before (decimal 255 p) (octets ps)

-- four of them are a number of 32 bits
abbrev pub four : Option (List ℕ) → Option ℕ
four None = None
four (Some bs) = cond (eqb (length bs) 4) (Some (be 4 0 bs)) None

abbrev pub either : Option Word → Option Word → Option Word
either None o = o
either (Some w) o = Some w

abbrev pub made : (ℕ → Word) → Option ℕ → Option Word
made f None = None
made f (Some n) = Some (f n)

-- a word by its bytes; none is "none of these words and no such address or port number"
unfoldable pub word_of : List ℕ → Option Word
word_of s = either (keyword keywords s) (either (made address (four (octets (parts s)))) (made number (decimal 65535 s)))

-- ---- the words of a line

-- "Words, brackets too, are separated by one or more spaces, which may also stand first or last"
abbrev pub in_word : ℕ → Bool
in_word c = not (eqb c 0x20)

-- bytes without a space
abbrev pub AllInWord : List ℕ → Type 0
AllInWord [] = Unit {0}
AllInWord (c ∷ s) = (in_word c ≡ true) × AllInWord s

-- the bytes up to the next that is `stop`, or to the end
abbrev pub up_to : ℕ → List ℕ → List ℕ
up_to stop [] = []
up_to stop (c ∷ s) = cond (eqb c stop) [] (c ∷ up_to stop s)

-- a word of the line with its place, or a place where none of the words starts
pub data Placed : Type 0 where
  known : ℕ → Word → Placed
  strange : ℕ → Placed

abbrev pub spotted : ℕ → Option Word → Placed
spotted at None = strange at
spotted at (Some w) = known at w

-- The words of a line whose first byte has a place, and stands after a byte of a word or not:
-- a word starts at each byte of a word that does not stand after another
unfoldable pub words_from : Bool → ℕ → List ℕ → List Placed
words_from after at [] = []
words_from after at (c ∷ s) =
    let rest = words_from (in_word c) (at + 1) s in
    cond (in_word c && not after) (spotted at (word_of (up_to 0x20 (c ∷ s))) ∷ rest) rest

abbrev pub line_words : List ℕ → List Placed
line_words s = words_from false 0 s
