-- The numbers of a line's words are in range, and so are those of the phrase that it is.
use Rattle.std.specs.Prelude.{Option, None, Some}
use Prim.Native.Nat.{ℕ, zero, suc, ◌+◌, ◌/◌, ◌%◌, ◌≤◌, ◌<◌, ◌^◌}
use mathlib.Core.Path.{◌≡◌, refl}
use mathlib.Core.List.{List, [], ◌∷◌, ◌++◌}
use mathlib.Core.Bool.{Bool, true, false, cond, not, ◌&&◌}
use native.Mathlib.Omega.{arith}
use lib.ListN.{length, get_or}
use lib.Dec.{eqb}
use Rattle.bpf.specs.Bytes.{be, AreBytes}
use Rattle.bpf.proofs.Bytes.{be_small}
use Rattle.typing.specs.declared.Word.{Word}
use Rattle.typing.specs.declared.Word.TheVariants.{Name as name, Over as over, Side as side, Host as host, Port as port, Opening as opening, Closing as closing, Negate as negate, Join as join, Address as address, Number as number}
use Rattle.typing.specs.declared.Term.{Term}
use Rattle.typing.specs.declared.Term.TheVariants.{Named as named, Bare as bare, Hosts as hosts, Ports as ports}
use Rattle.typing.specs.Words.{Row, keywords, same, keyword, decimal, before, octets, four, parts, either, made, word_of, up_to, in_word, Placed, known, strange, spotted, words_from}
use Rattle.bpf.specs.Program.{Each}
use Rattle.ast.proofs.Proper.{Byte}
use Rattle.typing.specs.declared.Transport.{Transport}
use Rattle.typing.specs.declared.Transport.TheVariants.{Tcp, Udp, Sctp}
use Rattle.typing.specs.declared.Name.{Name}
use Rattle.typing.specs.declared.Name.TheVariants.{Ip, Ip6, Arp, Rarp, Icmp}
use Rattle.typing.specs.declared.Side.{Side}
use Rattle.typing.specs.declared.Side.TheVariants.{Src, Dst}
use Rattle.typing.specs.declared.Join.{Join}
use Rattle.typing.specs.declared.Join.TheVariants.{And, Or}
use Rattle.typing.specs.Phrase.{record_bytes, name_byte, transport_byte, maybe_byte, dir_byte, join_byte, term_record, operand_bytes, phrase_bytes}
use Rattle.typing.specs.Phrase.{Operand, term, negated, brackets, Phrase, one, two, maybe, term_words, operand_words, words_of}
use Rattle.typing.specs.Finds.{Spot, spots, words}
use Rattle.words.proofs.Scans.{decimal_small}

-- "an address is four decimals up to 255, a port one up to 65,535"
abbrev pub SmallTerm : Term → Type 0
SmallTerm (named w) = Unit {0}
SmallTerm (bare t) = Unit {0}
SmallTerm (hosts s a) = a < 2 ^ 32
SmallTerm (ports t s k) = k < 2 ^ 16

abbrev mutual
  pub SmallOperand : Operand → Type 0
  SmallOperand (term t) = SmallTerm t
  SmallOperand (negated o) = SmallOperand o
  SmallOperand (brackets p) = SmallPhrase p

  pub SmallPhrase : Phrase → Type 0
  SmallPhrase (one o) = SmallOperand o
  SmallPhrase (two p j o) = SmallPhrase p × SmallOperand o

abbrev pub SmallWord : Word → Type 0
SmallWord (name n) = Unit {0}
SmallWord (over t) = Unit {0}
SmallWord (side s) = Unit {0}
SmallWord host = Unit {0}
SmallWord port = Unit {0}
SmallWord opening = Unit {0}
SmallWord closing = Unit {0}
SmallWord negate = Unit {0}
SmallWord (join j) = Unit {0}
SmallWord (address a) = a < 2 ^ 32
SmallWord (number n) = n < 2 ^ 16

abbrev Held : Option Word → Type 0
Held None = Unit {0}
Held (Some w) = SmallWord w

abbrev SmallRows : List Row → Type 0
SmallRows [] = Unit {0}
SmallRows (r ∷ rs) = SmallWord r.word × SmallRows rs

keyword_held : (rs : List Row) (s : List ℕ) → SmallRows rs → Held (keyword rs s)
keyword_held [] s h = tt
keyword_held (r ∷ rs) s h = by (same r.text s) (keyword_held rs s h.1)
  where
    by : (b : Bool) → Held (keyword rs s) → Held (cond b (Some r.word) (keyword rs s))
    by true k = h.0
    by false k = k

-- ---- addresses

abbrev HeldBytes : Option (List ℕ) → Type 0
HeldBytes None = Unit {0}
HeldBytes (Some bs) = AreBytes bs

before_bytes : (o : Option ℕ) (bs : Option (List ℕ)) → ((b : ℕ) → o ≡ Some b → b ≤ 255) → HeldBytes bs → HeldBytes (before o bs)
before_bytes None bs h k = tt
before_bytes (Some b) None h k = tt
before_bytes (Some b) (Some bs) h k = bytes
  where
    bytes : (i : ℕ) → get_or (b ∷ bs) i 0 < 256
    bytes zero = omega (arith, h b refl)
    bytes (suc i) = k i

octets_bytes : (ps : List (List ℕ)) → HeldBytes (octets ps)
octets_bytes [] = λ i. omega arith
octets_bytes (p ∷ ps) = before_bytes (decimal 255 p) (octets ps) (λ b e. decimal_small 255 p b e) (octets_bytes ps)

four_held : (o : Option (List ℕ)) → HeldBytes o → Held (made address (four o))
four_held None h = tt
four_held (Some bs) h = by (eqb (length bs) 4)
  where
    by : (b : Bool) → Held (made address (cond b (Some (be 4 0 bs)) None))
    by true = be_small 4 0 bs h
    by false = tt

number_held : (o : Option ℕ) → ((n : ℕ) → o ≡ Some n → n ≤ 65535) → Held (made number o)
number_held None h = tt
number_held (Some n) h = omega (arith, h n refl)

either_held : (a b : Option Word) → Held a → Held b → Held (either a b)
either_held None b h k = k
either_held (Some w) b h k = h

word_held : (s : List ℕ) → Held (word_of s)
unfolding word_of
word_held s =
    either_held (keyword keywords s) _ (keyword_held keywords s rows)
    (either_held (made address (four (octets (parts s)))) _ (four_held (octets (parts s)) (octets_bytes (parts s))) (number_held (decimal 65535 s) (λ n e. decimal_small 65535 s n e)))
  where
    rows : SmallRows keywords
    rows = (tt, (tt, (tt, (tt, (tt, (tt, (tt, (tt, (tt, (tt, (tt, (tt, (tt, (tt, (tt, (tt, (tt, tt)))))))))))))))))

-- ---- lines

abbrev SmallPlaced : Placed → Type 0
SmallPlaced (known k w) = SmallWord w
SmallPlaced (strange k) = Unit {0}

abbrev AllSmall : List Placed → Type 0
AllSmall [] = Unit {0}
AllSmall (p ∷ ps) = SmallPlaced p × AllSmall ps

placed_small : (k : ℕ) (o : Option Word) → Held o → SmallPlaced (spotted k o)
placed_small k None h = tt
placed_small k (Some w) h = h

line_small : (s : List ℕ) (b : Bool) (at : ℕ) → AllSmall (words_from b at s)
unfolding words_from
line_small [] b at = tt
line_small (c ∷ s) b at = by (in_word c && not b) (line_small s (in_word c) (at + 1))
  where
    by : (a : Bool) → AllSmall (words_from (in_word c) (at + 1) s)
        → AllSmall (cond a (spotted at (word_of (up_to 0x20 (c ∷ s))) ∷ words_from (in_word c) (at + 1) s) (words_from (in_word c) (at + 1) s))
    by true h = (placed_small at (word_of (up_to 0x20 (c ∷ s))) (word_held (up_to 0x20 (c ∷ s))), h)
    by false h = h

abbrev SmallWords : List Word → Type 0
SmallWords [] = Unit {0}
SmallWords (w ∷ ws) = SmallWord w × SmallWords ws

spots_small : (ss : List Spot) → AllSmall (spots ss) → SmallWords (words ss)
spots_small [] h = tt
spots_small (s ∷ ss) h = (h.0, spots_small ss h.1)

small_parts : (xs ys : List Word) → SmallWords (xs ++ ys) → SmallWords xs × SmallWords ys
small_parts [] ys h = (tt, h)
small_parts (x ∷ xs) ys h = let k = small_parts xs ys h.1 in ((h.0, k.0), k.1)

term_small : (t : Term) → SmallWords (term_words t) → SmallTerm t
term_small (named w) h = tt
term_small (bare t) h = tt
term_small (hosts s a) h = (small_parts (maybe side s) (host ∷ address a ∷ []) h).1.1.0
term_small (ports t s k) h = (small_parts (maybe side s) (port ∷ number k ∷ []) (small_parts (maybe over t) (maybe side s ++ (port ∷ number k ∷ [])) h).1).1.1.0

mutual
  operand_small : (o : Operand) → SmallWords (operand_words o) → SmallOperand o
  operand_small (term t) h = term_small t h
  operand_small (negated o) h = operand_small o h.1
  operand_small (brackets p) h = phrase_small p (small_parts (words_of p) (closing ∷ []) h.1).0

  phrase_small : (p : Phrase) → SmallWords (words_of p) → SmallPhrase p
  phrase_small (one o) h = operand_small o h
  phrase_small (two p j o) h = let k = small_parts (words_of p) (join j ∷ operand_words o) h in (phrase_small p k.0, operand_small o k.1.1)

-- the phrase of a line has numbers in range
pub in_range : (line : List ℕ) (ss : List Spot) (p : Phrase) → words_from false 0 line ≡ spots ss → words_of p ≡ words ss → SmallPhrase p
in_range line ss p e f = phrase_small p (rw (← f) at (spots_small ss (rw e at (line_small line false 0))))

-- ---- the bytes of its records are bytes

each_append : (xs ys : List ℕ) → Each Byte xs → Each Byte ys → Each Byte (xs ++ ys)
each_append [] ys h k = k
each_append (x ∷ xs) ys h k = (h.0, each_append xs ys h.1 k)

record_are : (k d p a v : ℕ) → k < 256 → d < 256 → p < 256 → a < 2 ^ 16 → v < 2 ^ 32 → Each Byte (record_bytes k d p a v)
record_are k d p a v hk hd hp ha hv =
    (hk, (hd, (hp, (none, (high, (byte a, (none, (none, (first, (byte (v / 256 / 256), (byte (v / 256), (byte v, (none, (none, (none, (none, (none, (none, (none, (none, (none, (none, (none, (none, tt))))))))))))))))))))))))
  where
    none : 0 < 256
    none = omega arith

    byte : (n : ℕ) → n % 256 < 256
    byte n = omega arith

    high : a / 256 < 256
    high = omega arith

    first : v / 256 / 256 / 256 < 256
    first = omega arith

name_small : (w : Name) → name_byte w < 256
name_small Ip = omega arith
name_small Ip6 = omega arith
name_small Arp = omega arith
name_small Rarp = omega arith
name_small Icmp = omega arith

over_small : (t : Transport) → transport_byte t < 256
over_small Tcp = omega arith
over_small Udp = omega arith
over_small Sctp = omega arith

maybe_small : (t : Option Transport) → maybe_byte t < 256
maybe_small None = omega arith
maybe_small (Some t) = over_small t

dir_small : (s : Option Side) → dir_byte s < 256
dir_small None = omega arith
dir_small (Some Src) = omega arith
dir_small (Some Dst) = omega arith

join_small : (j : Join) → join_byte j < 256
join_small And = omega arith
join_small Or = omega arith

term_are : (t : Term) → SmallTerm t → Each Byte (term_record t)
term_are (named w) h = record_are 10 0 (name_byte w) 0 0 (omega arith) (omega arith) (name_small w) (omega arith) (omega arith)
term_are (bare t) h = record_are 10 0 (transport_byte t) 0 0 (omega arith) (omega arith) (over_small t) (omega arith) (omega arith)
term_are (hosts s a) h = record_are 11 (dir_byte s) 0 0 a (omega arith) (dir_small s) (omega arith) (omega arith) h
term_are (ports t s k) h = record_are 15 (dir_byte s) (maybe_byte t) k 0 (omega arith) (dir_small s) (maybe_small t) h (omega arith)

mutual
  operand_are : (o : Operand) → SmallOperand o → Each Byte (operand_bytes o)
  operand_are (term t) h = term_are t h
  operand_are (negated o) h = each_append (record_bytes 3 0 0 0 0) (operand_bytes o) (record_are 3 0 0 0 0 (omega arith) (omega arith) (omega arith) (omega arith) (omega arith)) (operand_are o h)
  operand_are (brackets p) h = phrase_are p h

  pub phrase_are : (p : Phrase) → SmallPhrase p → Each Byte (phrase_bytes p)
  phrase_are (one o) h = operand_are o h
  phrase_are (two p j o) h =
      each_append (record_bytes (join_byte j) 0 0 0 0) (phrase_bytes p ++ operand_bytes o) (record_are (join_byte j) 0 0 0 0 (join_small j) (omega arith) (omega arith) (omega arith) (omega arith))
      (each_append (phrase_bytes p) (operand_bytes o) (phrase_are p h.0) (operand_are o h.1))
