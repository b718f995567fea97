-- The words of a line read from the left: the phrase that they are, or the word that cannot follow. That this is the grammar is proved in
-- proofs/Answers: nobody needs to believe it.
use Rattle.std.specs.Prelude.{Option, None, Some}
use Rattle.std.specs.Prelude.{ℕ, zero, suc, List, [], ◌∷◌}
use Rattle.typing.specs.Words.{Transport, Side, Join, Word, name, over, side, host, port, opening, closing, negate, join, address, number, Placed, known, strange}
use Rattle.typing.specs.Phrase.{named, bare, hosts, ports, Operand, term, negated, brackets, Phrase, one, two}
use Rattle.typing.specs.Finds.{Found, phrase, unknown, unfinished}

-- what stands before the next operand inside one pair of brackets: perhaps a phrase and its join, and nots
pub data Level : Type 0 where
  fresh : ℕ → Level
  after : Phrase → Join → ℕ → Level

abbrev pub notted : Level → Level
notted (fresh n) = fresh (suc n)
notted (after p j n) = after p j (suc n)

abbrev pub nots : ℕ → Operand → Operand
nots zero o = o
nots (suc n) o = nots n (negated o)

abbrev pub fill : Level → Operand → Phrase
fill (fresh n) o = one (nots n o)
fill (after p j n) o = two p j (nots n o)

-- what has been read, with the levels of the brackets that are open, the innermost first
pub data State : Type 0 where
  want : Level → List Level → State  -- an operand must follow
  lone : Transport → Level → List Level → State  -- tcp, alone or of a port
  sided : Option Transport → Side → Level → List Level → State  -- src, of a host or a port
  hosted : Option Side → Level → List Level → State  -- host
  ported : Option Transport → Option Side → Level → List Level → State  -- port
  full : Phrase → List Level → State  -- a whole phrase

abbrev pub close : Phrase → List Level → Option State
close p [] = None
close p (l ∷ ls) = Some (full (fill l (brackets p)) ls)

abbrev pub sided_host : Option Transport → Side → Level → List Level → Option State
sided_host None s l ls = Some (hosted (Some s) l ls)
sided_host (Some t) s l ls = None

-- the state after a word, or none where it cannot follow
abbrev pub step : State → Word → Option State
step (want l ls) (name n) = Some (full (fill l (term (named n))) ls)
step (want l ls) (over t) = Some (lone t l ls)
step (want l ls) (side s) = Some (sided None s l ls)
step (want l ls) host = Some (hosted None l ls)
step (want l ls) port = Some (ported None None l ls)
step (want l ls) opening = Some (want (fresh 0) (l ∷ ls))
step (want l ls) negate = Some (want (notted l) ls)
step (lone t₀ l ls) (side s) = Some (sided (Some t₀) s l ls)
step (lone t₀ l ls) port = Some (ported (Some t₀) None l ls)
step (lone t₀ l ls) closing = close (fill l (term (bare t₀))) ls
step (lone t₀ l ls) (join j) = Some (want (after (fill l (term (bare t₀))) j 0) ls)
step (sided t₀ s₀ l ls) host = sided_host t₀ s₀ l ls
step (sided t₀ s₀ l ls) port = Some (ported t₀ (Some s₀) l ls)
step (hosted s₀ l ls) (address a) = Some (full (fill l (term (hosts s₀ a))) ls)
step (ported t₀ s₀ l ls) (number k) = Some (full (fill l (term (ports t₀ s₀ k))) ls)
step (full p ls) closing = close p ls
step (full p ls) (join j) = Some (want (after p j 0) ls)
step st w = None

abbrev pub ended : Phrase → List Level → Option Phrase
ended p [] = Some p
ended p (l ∷ ls) = None

-- the phrase, where the words may end
abbrev pub final : State → Option Phrase
final (want l ls) = None
final (lone t l ls) = ended (fill l (term (bare t))) ls
final (sided t s l ls) = None
final (hosted s l ls) = None
final (ported t s l ls) = None
final (full p ls) = ended p ls

abbrev pub ends : ℕ → Option Phrase → Found
ends end None = unfinished end
ends end (Some p) = phrase p

abbrev pub start : State
start = want (fresh 0) []

-- over the words of a line that has `end` bytes
unfoldable pub scan : ℕ → State → List Placed → Found
scan end st [] = ends end (final st)
scan end st (strange k ∷ ws) = unknown k
scan end st (known k w ∷ ws) = elim (step st w) [ None ↦ unfinished k | Some st' ↦ scan end st' ws ]
