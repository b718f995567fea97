-- Words are read as numbers exactly where they are decimals within their limits, and as addresses where they are four of them.
use Rattle.std.specs.Prelude.{Option, None, Some}
use Prim.Native.Nat.{ℕ, ◌+◌, ◌*◌, ◌-◌, ◌≤◌}
use mathlib.Core.Path.{◌≡◌, refl, sym, ap, ap₂, ◌∙◌}
use mathlib.Core.List.{List, [], ◌∷◌, ◌++◌, append_assoc, append-nil}
use mathlib.Core.Bool.{Bool, true, false, cond, not, ◌&&◌, ◌||◌, or-true}
use mathlib.Core.Logic.{◌↔◌}
use native.Mathlib.Omega.{arith}
use native.Mathlib.Nat.{zero-add}
use lib.ListN.{length}
use lib.Dec.{eqb, leb}
use borrow.Author.Tests.{eqb-true, eqb-false, leb-true, ne_eqb, le-leb}
use Rattle.bpf.specs.Bytes.{be}
use Rattle.bpf.specs.Program.{Each}
use Rattle.typing.specs.Words.{Word, address, number}
use Rattle.typing.specs.Words.{Row, keywords, same, keyword, digit, digits, value, empty, decimal, onto, parts, before, octets, four, either, made, word_of}
use Rattle.std.proofs.lemmas.Option.{cond_some}
use Rattle.std.proofs.lemmas.Bool.{and_parts}
use Rattle.typing.specs.Numerals.{Decimal, single, longer, PortNumber, Dotted}

-- ---- one digit more

digits_snoc : (s : List ℕ) (c : ℕ) → digits s ≡ true → digit c ≡ true → digits (s ++ (c ∷ [])) ≡ true
digits_snoc [] c h k = rw k
digits_snoc (b ∷ s) c h k = let e = and_parts (digit b) (digits s) h in rw (e.0, digits_snoc s c e.1 k)

value_snoc : (v : ℕ) (s : List ℕ) (c : ℕ) → value v (s ++ (c ∷ [])) ≡ value v s * 10 + (c - 48)
value_snoc v [] c = refl
value_snoc v (b ∷ s) c = value_snoc (v * 10 + (b - 48)) s c

digit_of : (d : ℕ) → d ≤ 9 → digit (48 + d) ≡ true
digit_of d h = rw (le-leb 48 (48 + d) (omega arith), le-leb (48 + d) 57 (omega arith))

of_digit : (c : ℕ) → digit c ≡ true → (48 ≤ c) × (c ≤ 57)
of_digit c h = let e = and_parts (leb 48 c) (leb c 57) h in (leb-true 48 c e.0, leb-true c 57 e.1)

-- ---- what is written is read

-- of a decimal: its first byte, the rest, and its number
record Shape (s : List ℕ) (v : ℕ) : Type 0 where
  first : ℕ
  rest : List ℕ
  text : s ≡ first ∷ rest
  all : digits s ≡ true
  worth : value 0 s ≡ v
  plain : not (eqb first 48) || empty rest ≡ true
  lowest : 1 ≤ v → 49 ≤ first

shape : (s : List ℕ) (v : ℕ) → Decimal s v → Shape s v
shape _ _ (single d h) =
    record {
      first = 48 + d;
      rest = [];
      text = refl;
      all = rw (digit_of d h);
      worth = omega arith;
      plain = or-true (not (eqb (48 + d) 48));
      lowest = λ k. omega arith;
    }
shape _ _ (longer s v d h one k) =
    let p = shape s v h in
    record {
      first = p.first;
      rest = p.rest ++ ((48 + d) ∷ []);
      text = ap (λ t. t ++ ((48 + d) ∷ [])) p.text;
      all = digits_snoc s (48 + d) p.all (digit_of d k);
      worth = value_snoc 0 s (48 + d) ∙ omega (arith, p.worth);
      plain = rw (ne_eqb p.first 48 (λ e. omega (arith, p.lowest one)));
      lowest = λ z. p.lowest one;
    }

plainly : (most c : ℕ) (s : List ℕ) (v : ℕ) → digits (c ∷ s) ≡ true → value 0 (c ∷ s) ≡ v → not (eqb c 48) || empty s ≡ true → v ≤ most → decimal most (c ∷ s) ≡ Some v
plainly most c s v h k l m = rw (h, l, k, le-leb v most m)

pub written : (most : ℕ) (s : List ℕ) (v : ℕ) → Decimal s v → v ≤ most → decimal most s ≡ Some v
written most s v h m =
    let p = shape s v h in
    rw p.text (plainly most p.first p.rest v (rw p.text at p.all) (rw p.text at p.worth) p.plain m)

-- ---- what is read is written

onward : (t s : List ℕ) (v : ℕ) → Decimal s v → 1 ≤ v → digits t ≡ true → Decimal (s ++ t) (value v t)
onward [] s v h one k = rw (append-nil s) h
onward (c ∷ t) s v h one k =
    let e = and_parts (digit c) (digits t) k in
    let l = of_digit c e.0 in
    let z : 48 + (c - 48) ≡ c = omega arith in
    let g : Decimal (s ++ (c ∷ [])) (v * 10 + (c - 48)) = rw z at (longer s v (c - 48) h one (omega arith)) in
    rw (append_assoc s (c ∷ []) t) at (onward t (s ++ (c ∷ [])) (v * 10 + (c - 48)) g (omega arith) e.1)

alone : (c : ℕ) → digit c ≡ true → Decimal (c ∷ []) (c - 48)
alone c h = let l = of_digit c h in let z : 48 + (c - 48) ≡ c = omega arith in rw z at (single (c - 48) (omega arith))

spelled : (c : ℕ) (s : List ℕ) → digits (c ∷ s) ≡ true → not (eqb c 48) || empty s ≡ true → Decimal (c ∷ s) (value 0 (c ∷ s))
spelled c [] h k = rw (zero-add (c - 48)) (alone c (and_parts (digit c) true h).0)
spelled c (d ∷ s) h k =
    let e = and_parts (digit c) (digits (d ∷ s)) h in
    let l = of_digit c e.0 in
    rw (zero-add (c - 48)) (onward (d ∷ s) (c ∷ []) (c - 48) (alone c e.0) (above (eqb c 48) refl k) e.1)
  where
    above : (b : Bool) → eqb c 48 ≡ b → not b || false ≡ true → 1 ≤ c - 48
    above true w z = cc
    above false w z = omega (arith, (of_digit c (and_parts (digit c) (digits (d ∷ s)) h).0).0, eqb-false c 48 w)

pub read : (most : ℕ) (s : List ℕ) (v : ℕ) → decimal most s ≡ Some v → Decimal s v × (v ≤ most)
read most [] v e = cc
read most (c ∷ s) v e =
    let k = cond_some (digits (c ∷ s) && ((not (eqb c 48) || empty s) && leb (value 0 (c ∷ s)) most)) (value 0 (c ∷ s)) v e in
    let a = and_parts (digits (c ∷ s)) _ k.0 in
    let b = and_parts (not (eqb c 48) || empty s) (leb (value 0 (c ∷ s)) most) a.1 in
    (rw k.1 at (spelled c s a.0 b.0), rw k.1 at (leb-true (value 0 (c ∷ s)) most b.1))

-- ---- what stands between the dots

unfoldable pub dotted : List (List ℕ) → List ℕ
dotted [] = []
dotted (p ∷ []) = p
dotted (p ∷ q ∷ ps) = p ++ (46 ∷ dotted (q ∷ ps))

-- there is something between the dots, be it nothing
record NotEmpty (ps : List (List ℕ)) : Type 0 where
  first : List ℕ
  rest : List (List ℕ)
  are : ps ≡ first ∷ rest

onto_some : (c : ℕ) (ps : List (List ℕ)) → NotEmpty (onto c ps)
onto_some c [] = record { first = c ∷ []; rest = []; are = refl }
onto_some c (p ∷ ps) = record { first = c ∷ p; rest = ps; are = refl }

parts_some : (s : List ℕ) → NotEmpty (parts s)
parts_some [] = record { first = []; rest = []; are = refl }
parts_some (c ∷ s) = by (eqb c 46)
  where
    by : (b : Bool) → NotEmpty (cond b ([] ∷ parts s) (onto c (parts s)))
    by true = record { first = []; rest = parts s; are = refl }
    by false = onto_some c (parts s)

dotted_empty : (ps : List (List ℕ)) → NotEmpty ps → dotted ([] ∷ ps) ≡ 46 ∷ dotted ps
unfolding dotted
dotted_empty ps h = rw h.are

dotted_onto : (c : ℕ) (ps : List (List ℕ)) → dotted (onto c ps) ≡ c ∷ dotted ps
unfolding dotted
dotted_onto c [] = refl
dotted_onto c (p ∷ []) = refl
dotted_onto c (p ∷ q ∷ ps) = refl

pub parts_dotted : (s : List ℕ) → dotted (parts s) ≡ s
unfolding dotted
parts_dotted [] = refl
parts_dotted (c ∷ s) = by (eqb c 46) refl (parts_dotted s)
  where
    by : (b : Bool) → eqb c 46 ≡ b → dotted (parts s) ≡ s → dotted (cond b ([] ∷ parts s) (onto c (parts s))) ≡ c ∷ s
    by true e h = dotted_empty (parts s) (parts_some s) ∙ ap₂ (λ x t. x ∷ t) (sym (eqb-true c 46 e)) h
    by false e h = dotted_onto c (parts s) ∙ ap (λ t. c ∷ t) h

no_dot : (c : ℕ) → digit c ≡ true → eqb c 46 ≡ false
no_dot c h = ne_eqb c 46 (λ e. omega (arith, (of_digit c h).0))

pub parts_last : (s : List ℕ) → digits s ≡ true → parts s ≡ s ∷ []
parts_last [] h = refl
parts_last (c ∷ s) h = let e = and_parts (digit c) (digits s) h in rw (no_dot c e.0, parts_last s e.1)

parts_next : (s t : List ℕ) → digits s ≡ true → parts (s ++ (46 ∷ t)) ≡ s ∷ parts t
parts_next [] t h = refl
parts_next (c ∷ s) t h = let e = and_parts (digit c) (digits s) h in rw (no_dot c e.0, parts_next s t e.1)

pub all_digits : (s : List ℕ) (v : ℕ) → Decimal s v → digits s ≡ true
all_digits s v h = (shape s v h).all

reads_address : (s : List ℕ) (v : ℕ) → Dotted s v → four (octets (parts s)) ≡ Some v
unfolding be
reads_address s v h =
    let e : parts s ≡ h.s₁ ∷ h.s₂ ∷ h.s₃ ∷ h.s₄ ∷ [] =
    ap parts h.text ∙ (parts_next h.s₁ _ (all_digits _ _ h.first.0) ∙ ap (λ ps. h.s₁ ∷ ps)
    (parts_next h.s₂ _ (all_digits _ _ h.second.0) ∙ ap (λ ps. h.s₂ ∷ ps)
    (parts_next h.s₃ _ (all_digits _ _ h.third.0) ∙ ap (λ ps. h.s₃ ∷ ps) (parts_last h.s₄ (all_digits _ _ h.fourth.0))))) in
    rw (e, written 255 _ _ h.first.0 h.first.1, written 255 _ _ h.second.0 h.second.1, written 255 _ _ h.third.0 h.third.1, written 255 _ _ h.fourth.0 h.fourth.1)
    (ap Some (omega (arith, h.worth)))

-- parts that are read as these numbers
Read : List (List ℕ) → List ℕ → Type 0
Read [] [] = Unit {0}
Read [] (b ∷ bs) = ⊥
Read (p ∷ ps) [] = ⊥
Read (p ∷ ps) (b ∷ bs) = (Decimal p b × (b ≤ 255)) × Read ps bs

octets_read : (ps : List (List ℕ)) (bs : List ℕ) → octets ps ≡ Some bs → Read ps bs
unfolding Read
octets_read [] bs e = let z : [] ≡ bs = cc in rw (← z) tt
octets_read (p ∷ ps) bs e = by (decimal 255 p) (octets ps) (λ b h. read 255 p b h) (octets_read ps) e
  where
    by : (o : Option ℕ) (os : Option (List ℕ)) → ((b : ℕ) → o ≡ Some b → Decimal p b × (b ≤ 255)) → ((cs : List ℕ) → os ≡ Some cs → Read ps cs)
        → before o os ≡ Some bs → Read (p ∷ ps) bs
    by None os h k w = cc
    by (Some b) None h k w = cc
    by (Some b) (Some cs) h k w = let z : b ∷ cs ≡ bs = cc in rw (← z) (h b refl, k cs refl)

four_dotted : (ps : List (List ℕ)) (bs : List ℕ) → Read ps bs → length bs ≡ 4 → Dotted (dotted ps) (be 4 0 bs)
unfolding Read dotted be
four_dotted [] (a ∷ b ∷ c ∷ d ∷ []) h k = absurd h
four_dotted (p ∷ []) (a ∷ b ∷ c ∷ d ∷ []) h k = absurd h.1
four_dotted (p ∷ q ∷ []) (a ∷ b ∷ c ∷ d ∷ []) h k = absurd h.1.1
four_dotted (p ∷ q ∷ r ∷ []) (a ∷ b ∷ c ∷ d ∷ []) h k = absurd h.1.1.1
four_dotted (p ∷ q ∷ r ∷ t ∷ []) (a ∷ b ∷ c ∷ d ∷ []) h k =
    record {
      s₁ = p;
      s₂ = q;
      s₃ = r;
      s₄ = t;
      v₁ = a;
      v₂ = b;
      v₃ = c;
      v₄ = d;
      first = h.0;
      second = h.1.0;
      third = h.1.1.0;
      fourth = h.1.1.1.0;
      text = refl;
      worth = omega arith;
    }
four_dotted (p ∷ q ∷ r ∷ t ∷ u ∷ ps) (a ∷ b ∷ c ∷ d ∷ []) h k = absurd h.1.1.1.1
four_dotted ps bs h k = absurd (omega arith)

address_read : (s : List ℕ) (v : ℕ) → four (octets (parts s)) ≡ Some v → Dotted s v
address_read s v e = by (octets (parts s)) refl e
  where
    by : (o : Option (List ℕ)) → octets (parts s) ≡ o → four o ≡ Some v → Dotted s v
    by None w h = cc
    by (Some bs) w h =
        let k = cond_some (eqb (length bs) 4) (be 4 0 bs) v h in
        rw (parts_dotted s, k.1) at (four_dotted (parts s) bs (octets_read (parts s) bs w) (eqb-true (length bs) 4 k.0))

-- ---- words

Plain : Word → Type 0
Plain (address a) = ⊥
Plain (number n) = ⊥
Plain w = Unit {0}

PlainRows : List Row → Type 0
PlainRows = Each (λ r. Plain r.word)

keyword_plain : (rs : List Row) (s : List ℕ) (w : Word) → PlainRows rs → keyword rs s ≡ Some w → Plain w
unfolding PlainRows
keyword_plain [] s w h e = cc
keyword_plain (r ∷ rs) s w h e = by (same r.text s) (keyword_plain rs s w h.1) e
  where
    by : (b : Bool) → (keyword rs s ≡ Some w → Plain w) → cond b (Some r.word) (keyword rs s) ≡ Some w → Plain w
    by true k z = let y : r.word ≡ w = cc in rw y at h.0
    by false k z = k z

rows_plain : PlainRows keywords
unfolding PlainRows Plain
rows_plain = (tt, (tt, (tt, (tt, (tt, (tt, (tt, (tt, (tt, (tt, (tt, (tt, (tt, (tt, (tt, (tt, (tt, tt)))))))))))))))))

-- no word of the list starts with a digit
keyword_none : (c : ℕ) (s : List ℕ) → digit c ≡ true → keyword keywords (c ∷ s) ≡ None
keyword_none c s h =
    let d = of_digit c h in
    rw (ne_eqb 0x69 c (λ e. omega arith), ne_eqb 0x61 c (λ e. omega arith), ne_eqb 0x72 c (λ e. omega arith), ne_eqb 0x74 c (λ e. omega arith), ne_eqb 0x75 c (λ e. omega arith), ne_eqb 0x73 c (λ e. omega arith), ne_eqb 0x68 c (λ e. omega arith), ne_eqb 0x70 c (λ e. omega arith), ne_eqb 0x64 c (λ e. omega arith), ne_eqb 0x28 c (λ e. omega arith), ne_eqb 0x29 c (λ e. omega arith), ne_eqb 0x6e c (λ e. omega arith), ne_eqb 0x6f c (λ e. omega arith))

starts_none : (s t : List ℕ) (v : ℕ) → Decimal s v → keyword keywords (s ++ t) ≡ None
starts_none s t v h =
    let p = shape s v h in
    rw p.text (keyword_none p.first (p.rest ++ t) (and_parts (digit p.first) (digits p.rest) (rw p.text at p.all)).0)

-- one number alone is no address
alone_none : (s : List ℕ) → digits s ≡ true → four (octets (parts s)) ≡ None
alone_none s h = rw (parts_last s h) (by (decimal 255 s))
  where
    by : (o : Option ℕ) → four (before o (Some [])) ≡ None
    by None = refl
    by (Some b) = refl

-- what a word is, by what its bytes are read as
Chosen : Option Word → Option ℕ → Option ℕ → Option Word
Chosen k a n = either k (either (made address a) (made number n))

is_address : (k : Option Word) (a n : Option ℕ) (v : ℕ) → ((w : Word) → k ≡ Some w → Plain w) → Chosen k a n ≡ Some (address v) → a ≡ Some v
unfolding Plain Chosen
is_address (Some w) a n v h e = absurd (h (address v) e)
is_address None None (Some n) v h e = cc
is_address None a n v h e = cc

is_number : (k : Option Word) (a n : Option ℕ) (v : ℕ) → ((w : Word) → k ≡ Some w → Plain w) → Chosen k a n ≡ Some (number v) → n ≡ Some v
unfolding Plain Chosen
is_number (Some w) a n v h e = absurd (h (number v) e)
is_number None None (Some n) v h e = cc
is_number None a n v h e = cc

is_none : (k : Option Word) (a n : Option ℕ) → Chosen k a n ≡ None → (k ≡ None) × (a ≡ None) × (n ≡ None)
unfolding Chosen
is_none None None None e = (refl, refl, refl)
is_none k a n e = cc

-- "an address is four decimals up to 255"
pub addresses : (s : List ℕ) (v : ℕ) → (word_of s ≡ Some (address v)) ↔ Dotted s v
unfolding word_of Chosen
addresses s v = (
  λ e. address_read s v (is_address (keyword keywords s) (four (octets (parts s))) (decimal 65535 s) v (λ w h. keyword_plain keywords s w rows_plain h) e),
  λ h. rw (ap (keyword keywords) h.text ∙ starts_none h.s₁ _ h.v₁ h.first.0, reads_address s v h),
)

-- "a port one up to 65,535, without leading zeros"
pub port_numbers_lem : (s : List ℕ) (n : ℕ) → (word_of s ≡ Some (number n)) ↔ PortNumber s n
unfolding word_of Chosen
port_numbers_lem s n = (
  λ e. read 65535 s n (is_number (keyword keywords s) (four (octets (parts s))) (decimal 65535 s) n (λ w h. keyword_plain keywords s w rows_plain h) e),
  λ h. rw (rw (append-nil s) at (starts_none s [] n h.0), alone_none s (all_digits s n h.0), written 65535 s n h.0 h.1),
)

-- "none of these words and no such address or port number"
pub strangers : (s : List ℕ) → (word_of s ≡ None) ↔ ((keyword keywords s ≡ None) × ((v : ℕ) → ¬ Dotted s v) × ((n : ℕ) → ¬ PortNumber s n))
unfolding word_of Chosen
strangers s = (
  λ e. let k = is_none (keyword keywords s) (four (octets (parts s))) (decimal 65535 s) e in
      (k.0, λ v h. let z = reads_address s v h in let y = k.1 in cc, λ n h. let z = written 65535 s n h.0 h.1 in let y = k.2 in cc),
  λ h. by (four (octets (parts s))) (decimal 65535 s) refl refl h.0 h.1 h.2,
)
  where
    by : (a n : Option ℕ) → four (octets (parts s)) ≡ a → decimal 65535 s ≡ n → keyword keywords s ≡ None → ((v : ℕ) → ¬ Dotted s v) → ((n : ℕ) → ¬ PortNumber s n) → word_of s ≡ None
    by None None e f k h i = rw (k, e, f)
    by None (Some n) e f k h i = absurd (i n (read 65535 s n f))
    by (Some v) n e f k h i = absurd (h v (address_read s v e))
