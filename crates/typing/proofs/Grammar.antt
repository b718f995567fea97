-- The parser keeps the grammar: it reads the words of a phrase as that phrase, and whatever it has read begins the words of one.
use Rattle.std.specs.Prelude.{Option, None, Some, option_and_then, IfSome}
use Prim.Native.Nat.{ℕ, zero, suc}
use mathlib.Core.Path.{◌≡◌, refl, sym, ap, ◌∙◌}
use mathlib.Core.List.{List, [], ◌∷◌, ◌++◌, append_assoc, append-nil}
use lib.ListN.{replicate}
use Rattle.typing.specs.Words.{Transport, Side, Join, Word, name, ip, over, side, host, port, opening, closing, negate, join, address, number}
use Rattle.typing.specs.Phrase.{Term, named, bare, hosts, ports, Operand, term, negated, brackets, Phrase, one, two, maybe, term_words, operand_words, words_of}
use Rattle.typing.specs.Finds.{Begins}
use Rattle.typing.specs.Parse.{Level, fresh, after, notted, nots, fill, State, want, lone, sided, hosted, ported, full, close, sided_host, step, ended, final, start}

-- the state after some words, and the phrase that words after a state make
unfoldable pub walk : State → List Word → Option State
walk st [] = Some st
walk st (w ∷ ws) = option_and_then (λ s. walk s ws) (step st w)

unfoldable pub parse : State → List Word → Option Phrase
parse st ws = option_and_then final (walk st ws)

-- ---- the words of a phrase are read as the phrase

-- what can follow an operand
data Stops : List Word → Type 0 where
  at_end : Stops []
  at_join : {j : Join} {ws : List Word} → Stops (join j ∷ ws)
  at_close : {ws : List Word} → Stops (closing ∷ ws)

lone_full : (t : Transport) (l : Level) (ls : List Level) {rest : List Word} → Stops rest → parse (lone t l ls) rest ≡ parse (full (fill l (term (bare t))) ls) rest
unfolding parse walk
lone_full t l ls at_end = refl
lone_full t l ls at_join = refl
lone_full t l ls at_close = refl

fill_notted : (l : Level) (o : Operand) → fill (notted l) o ≡ fill l (negated o)
fill_notted (fresh n) o = refl
fill_notted (after p j n) o = refl

term_read : (t : Term) (l : Level) (ls : List Level) (rest : List Word) → Stops rest → parse (want l ls) (term_words t ++ rest) ≡ parse (full (fill l (term t)) ls) rest
unfolding parse walk
term_read (named n) l ls rest h = refl
term_read (bare t) l ls rest h = lone_full t l ls h
term_read (hosts None a) l ls rest h = refl
term_read (hosts (Some s) a) l ls rest h = refl
term_read (ports None None k) l ls rest h = refl
term_read (ports None (Some s) k) l ls rest h = refl
term_read (ports (Some t) None k) l ls rest h = refl
term_read (ports (Some t) (Some s) k) l ls rest h = refl

mutual
  unfolding parse walk

  operand_read : (o : Operand) (l : Level) (ls : List Level) (rest : List Word) → Stops rest → parse (want l ls) (operand_words o ++ rest) ≡ parse (full (fill l o) ls) rest
  operand_read (term t) l ls rest h = term_read t l ls rest h
  operand_read (negated o) l ls rest h = operand_read o (notted l) ls rest h ∙ ap (λ p. parse (full p ls) rest) (fill_notted l o)
  operand_read (brackets p) l ls rest h =
      ap (parse (want (fresh 0) (l ∷ ls))) (append_assoc (words_of p) (closing ∷ []) rest) ∙ phrase_read p (l ∷ ls) (closing ∷ rest) at_close

  phrase_read : (p : Phrase) (ls : List Level) (rest : List Word) → Stops rest → parse (want (fresh 0) ls) (words_of p ++ rest) ≡ parse (full p ls) rest
  phrase_read (one o) ls rest h = operand_read o (fresh 0) ls rest h
  phrase_read (two p j o) ls rest h =
      ap (parse (want (fresh 0) ls)) (append_assoc (words_of p) (join j ∷ operand_words o) rest)
      ∙ (phrase_read p ls (join j ∷ (operand_words o ++ rest)) at_join ∙ operand_read o (after p j 0) ls rest h)

pub parses : (p : Phrase) → parse start (words_of p) ≡ Some p
unfolding parse walk
parses p = ap (parse start) (sym (append-nil (words_of p))) ∙ phrase_read p [] [] at_end

-- the grammar is unambiguous
pub one_phrase : (p q : Phrase) → words_of p ≡ words_of q → p ≡ q
one_phrase p q e =
    let f = parses p in
    let g = parses q in
    let h = ap (parse start) e in cc

-- ---- what has been read

negates_snoc : (n : ℕ) (ws : List Word) → replicate n negate ++ (negate ∷ ws) ≡ negate ∷ (replicate n negate ++ ws)
negates_snoc zero ws = refl
negates_snoc (suc n) ws = ap (λ vs. negate ∷ vs) (negates_snoc n ws)

level_words : Level → List Word
level_words (fresh n) = replicate n negate
level_words (after p j n) = words_of p ++ (join j ∷ replicate n negate)

outer : List Level → List Word
outer [] = []
outer (l ∷ ls) = (outer ls ++ level_words l) ++ (opening ∷ [])

-- the words up to a state
pub before : State → List Word
before (want l ls) = outer ls ++ level_words l
before (lone t l ls) = (outer ls ++ level_words l) ++ (over t ∷ [])
before (sided t s l ls) = (outer ls ++ level_words l) ++ (maybe over t ++ (side s ∷ []))
before (hosted s l ls) = (outer ls ++ level_words l) ++ (maybe side s ++ (host ∷ []))
before (ported t s l ls) = (outer ls ++ level_words l) ++ (maybe over t ++ (maybe side s ++ (port ∷ [])))
before (full p ls) = outer ls ++ words_of p

nots_words : (n : ℕ) (o : Operand) → operand_words (nots n o) ≡ replicate n negate ++ operand_words o
nots_words zero o = refl
nots_words (suc n) o = nots_words n (negated o) ∙ negates_snoc n (operand_words o)

fill_words : (l : Level) (o : Operand) → words_of (fill l o) ≡ level_words l ++ operand_words o
unfolding level_words
fill_words (fresh n) o = nots_words n o
fill_words (after p j n) o =
    ap (λ ws. words_of p ++ (join j ∷ ws)) (nots_words n o) ∙ sym (append_assoc (words_of p) (join j ∷ replicate n negate) (operand_words o))

notted_words : (l : Level) → level_words (notted l) ≡ level_words l ++ (negate ∷ [])
unfolding level_words
notted_words (fresh n) = ap (λ ws. negate ∷ ws) (sym (append-nil (replicate n negate))) ∙ sym (negates_snoc n [])
notted_words (after p j n) =
    ap (λ ws. words_of p ++ (join j ∷ ws)) (ap (λ ws. negate ∷ ws) (sym (append-nil (replicate n negate))) ∙ sym (negates_snoc n []))
    ∙ sym (append_assoc (words_of p) (join j ∷ replicate n negate) (negate ∷ []))

filled : (l : Level) (o : Operand) (ls : List Level) → outer ls ++ words_of (fill l o) ≡ (outer ls ++ level_words l) ++ operand_words o
filled l o ls = ap (λ ws. outer ls ++ ws) (fill_words l o) ∙ sym (append_assoc (outer ls) (level_words l) (operand_words o))

close_sound : (p : Phrase) (ls : List Level) → IfSome (close p ls) (λ st. before st ≡ (outer ls ++ words_of p) ++ (closing ∷ []))
unfolding before outer
close_sound p [] = tt
close_sound p (l ∷ ls) = filled l (brackets p) ls ∙ simp append_assoc

sided_sound : (t : Option Transport) (s : Side) (l : Level) (ls : List Level)
    → IfSome (sided_host t s l ls) (λ st. before st ≡ ((outer ls ++ level_words l) ++ (maybe over t ++ (side s ∷ []))) ++ (host ∷ []))
unfolding before
sided_sound None s l ls = sym (append_assoc (outer ls ++ level_words l) (side s ∷ []) (host ∷ []))
sided_sound (Some t) s l ls = tt

step_sound : (st : State) (w : Word) → IfSome (step st w) (λ st'. before st' ≡ before st ++ (w ∷ []))
unfolding before outer level_words
step_sound (want l ls) (name n) = filled l (term (named n)) ls
step_sound (want l ls) (over t) = refl
step_sound (want l ls) (side s) = refl
step_sound (want l ls) host = refl
step_sound (want l ls) port = refl
step_sound (want l ls) opening = append-nil ((outer ls ++ level_words l) ++ (opening ∷ []))
step_sound (want l ls) negate = ap (λ ws. outer ls ++ ws) (notted_words l) ∙ sym (append_assoc (outer ls) (level_words l) (negate ∷ []))
step_sound (lone t₀ l ls) (side s) = sym (append_assoc (outer ls ++ level_words l) (over t₀ ∷ []) (side s ∷ []))
step_sound (lone t₀ l ls) port = sym (append_assoc (outer ls ++ level_words l) (over t₀ ∷ []) (port ∷ []))
step_sound (lone t₀ l ls) closing = rw (← filled l (term (bare t₀)) ls) (close_sound (fill l (term (bare t₀))) ls)
step_sound (lone t₀ l ls) (join j) = rw (← filled l (term (bare t₀)) ls) (sym (append_assoc (outer ls) (words_of (fill l (term (bare t₀)))) (join j ∷ [])))
step_sound (sided t₀ s₀ l ls) host = sided_sound t₀ s₀ l ls
step_sound (sided t₀ s₀ l ls) port = simp append_assoc
step_sound (hosted s₀ l ls) (address a) = filled l (term (hosts s₀ a)) ls ∙ simp append_assoc
step_sound (ported t₀ s₀ l ls) (number k) = filled l (term (ports t₀ s₀ k)) ls ∙ simp append_assoc
step_sound (full p ls) closing = close_sound p ls
step_sound (full p ls) (join j) = sym (append_assoc (outer ls) (words_of p) (join j ∷ []))
step_sound st w = tt

pub stepped : (st : State) (w : Word) (st' : State) → step st w ≡ Some st' → before st' ≡ before st ++ (w ∷ [])
stepped st w st' e = rw e at (step_sound st w)

pub start_words : before start ≡ []
unfolding before outer level_words
start_words = refl

-- ---- it can be finished

begins_less : (ws : List Word) (w : Word) → Begins (ws ++ (w ∷ [])) → Begins ws
begins_less ws w b = (w ∷ b.0, (b.1.0, b.1.1 ∙ append_assoc ws (w ∷ []) b.0))

begins_step : (st : State) (w : Word) (st' : State) → step st w ≡ Some st' → Begins (before st') → Begins (before st)
begins_step st w st' e b = begins_less (before st) w (rw (stepped st w st' e) at b)

full_begins : (ls : List Level) (p : Phrase) → Begins (before (full p ls))
unfolding before outer
full_begins [] p = ([], (p, sym (append-nil (words_of p))))
full_begins (l ∷ ls) p = begins_step (full p (l ∷ ls)) closing (full (fill l (brackets p)) ls) refl (full_begins ls (fill l (brackets p)))

ported_begins : (t : Option Transport) (s : Option Side) (l : Level) (ls : List Level) → Begins (before (ported t s l ls))
ported_begins t s l ls = begins_step (ported t s l ls) (number 0) (full (fill l (term (ports t s 0))) ls) refl (full_begins ls _)

-- every state that is reached begins a line that the rules allow
pub begins : (st : State) → Begins (before st)
begins (want l ls) = begins_step (want l ls) (name ip) (full (fill l (term (named ip))) ls) refl (full_begins ls _)
begins (lone t l ls) = begins_step (lone t l ls) port (ported (Some t) None l ls) refl (ported_begins (Some t) None l ls)
begins (sided t s l ls) = begins_step (sided t s l ls) port (ported t (Some s) l ls) refl (ported_begins t (Some s) l ls)
begins (hosted s l ls) = begins_step (hosted s l ls) (address 0) (full (fill l (term (hosts s 0))) ls) refl (full_begins ls _)
begins (ported t s l ls) = ported_begins t s l ls
begins (full p ls) = full_begins ls p

-- where the words may end they are the phrase's
ended_sound : (p : Phrase) (ls : List Level) → IfSome (ended p ls) (λ q. words_of q ≡ outer ls ++ words_of p)
unfolding outer
ended_sound p [] = refl
ended_sound p (l ∷ ls) = tt

final_sound : (st : State) → IfSome (final st) (λ q. words_of q ≡ before st)
unfolding before
final_sound (lone t l ls) = rw (← filled l (term (bare t)) ls) (ended_sound (fill l (term (bare t))) ls)
final_sound (full p ls) = ended_sound p ls
final_sound st = tt

pub finished : (st : State) (p : Phrase) → final st ≡ Some p → words_of p ≡ before st
finished st p e = rw e at (final_sound st)
