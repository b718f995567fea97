-- What `scan` finds is what the grammar says, and nothing else: every line has exactly one answer.
use Rattle.std.specs.Prelude.{Option, None, Some, option_and_then}
use Rattle.std.specs.Prelude.{Ok}
use Prim.Native.Nat.{ℕ}
use mathlib.Core.Logic.{◌↔◌}
use mathlib.Core.Path.{◌≡◌, refl, sym, ap, ◌∙◌}
use mathlib.Core.List.{List, [], ◌∷◌, ◌++◌, append_assoc, append-nil}
use mathlib.Core.Bool.{true}
use lib.ListN.{length}
use lib.Dec.{leb}
use borrow.Author.Tests.{leb-true, le-leb}
use Rattle.std.proofs.lemmas.Bool.{and_parts}
use Rattle.ast.specs.declared.LinkType.{LinkType}
use Rattle.ast.specs.File.{link_of}
use Rattle.typing.specs.Words.{Word, Placed, known, strange, line_words}
use Rattle.typing.specs.Phrase.{Phrase, words_of, record_count, depth, Within}
use Rattle.typing.specs.Finds.{Spot, spots, words, Allowed, Begins, Found, phrase, unfinished, Finds, not_known, cannot_follow, not_ended, whole}
use Rattle.typing.specs.Parse.{State, step, final, start, ends, scan}
use Rattle.typing.specs.Typed.{within, sized, typed}
use Rattle.typing.proofs.Grammar.{walk, parse, parses, before, stepped, start_words, begins, finished}

-- ---- walks

-- over some words, and then over others
walk-append : (ws rest : List Word) (st : State) → walk st (ws ++ rest) ≡ option_and_then (λ s. walk s rest) (walk st ws)
unfolding walk
walk-append [] rest st = refl
walk-append (w ∷ ws) rest st = by (step st w) (walk-append ws rest)
  where
    by : (o : Option State) → ((s : State) → walk s (ws ++ rest) ≡ option_and_then (λ r. walk r rest) (walk s ws))
        → option_and_then (λ s. walk s (ws ++ rest)) o ≡ option_and_then (λ r. walk r rest) (option_and_then (λ s. walk s ws) o)
    by None ih = refl
    by (Some s) ih = ih s

walk-sound : (ws : List Word) (st st' : State) → walk st ws ≡ Some st' → before st' ≡ before st ++ ws
unfolding walk
walk-sound [] st st' e = let z : st ≡ st' = cc in rw (← z) (sym (append-nil (before st)))
walk-sound (w ∷ ws) st st' e = by (step st w) refl e (walk-sound ws)
  where
    by : (o : Option State) → step st w ≡ o → option_and_then (λ s. walk s ws) o ≡ Some st'
        → ((s s' : State) → walk s ws ≡ Some s' → before s' ≡ before s ++ ws) → before st' ≡ before st ++ (w ∷ ws)
    by None f h ih = cc
    by (Some s) f h ih = ih s st' h ∙ (ap (λ vs. vs ++ ws) (stepped st w s f) ∙ append_assoc (before st) (w ∷ []) ws)

walk-parse : (ws rest : List Word) (st st' : State) → walk st ws ≡ Some st' → parse st (ws ++ rest) ≡ parse st' rest
unfolding parse
walk-parse ws rest st st' e = rw (walk-append ws rest st, e)

walk-snoc : (ws : List Word) (w : Word) (st st₁ st' : State) → walk st ws ≡ Some st₁ → step st₁ w ≡ Some st' → walk st (ws ++ (w ∷ [])) ≡ Some st'
unfolding walk
walk-snoc ws w st st₁ st' e f = rw (walk-append ws (w ∷ []) st, e, f)

-- words that are read to a phrase are walked over
walked : (ws rest : List Word) (st : State) (p : Phrase) → parse st (ws ++ rest) ≡ Some p → (st' : State) × (walk st ws ≡ Some st')
unfolding parse
walked ws rest st p e = by (walk st ws) refl (rw (walk-append ws rest st) at e)
  where
    by : (o : Option State) → walk st ws ≡ o → option_and_then final (option_and_then (λ s. walk s rest) o) ≡ Some p → (st' : State) × (walk st ws ≡ Some st')
    by None f h = cc
    by (Some s) f h = (s, f)

-- ---- what has been read begins a line that the rules allow, and what does not is not read

reached : (ws : List Word) (st : State) → walk start ws ≡ Some st → before st ≡ ws
reached ws st e = walk-sound ws start st e ∙ ap (λ vs. vs ++ ws) start_words

reached-begins : (ws : List Word) (st : State) → walk start ws ≡ Some st → Begins ws
reached-begins ws st e = rw (reached ws st e) at (begins st)

begun : (ws : List Word) → Begins ws → (st : State) × (walk start ws ≡ Some st)
begun ws b = walked ws b.0 start b.1.0 (ap (parse start) (sym b.1.1) ∙ parses b.1.0)

-- an allowed line that goes on from what has been read
goes_on : (ws rest : List Word) (st : State) (p : Phrase) → walk start ws ≡ Some st → words_of p ≡ ws ++ rest → parse st rest ≡ Some p
goes_on ws rest st p e h = sym (walk-parse ws rest start st e) ∙ (ap (parse start) (sym h) ∙ parses p)

None-goes-on : (ws : List Word) (w : Word) (st : State) → walk start ws ≡ Some st → step st w ≡ None → ¬ Begins (ws ++ (w ∷ []))
unfolding parse walk
None-goes-on ws w st e f b =
    let z = goes_on ws (w ∷ b.0) st b.1.0 e (b.1.1 ∙ append_assoc ws (w ∷ []) b.0) in
    let y : None ≡ Some b.1.0 = rw f at z in cc

None-ends : (ws : List Word) (st : State) → walk start ws ≡ Some st → final st ≡ None → ¬ Allowed ws
unfolding parse walk
None-ends ws st e f a = (let z : final st ≡ Some a.0 = goes_on ws [] st a.0 e (a.1 ∙ sym (append-nil ws)) in cc)

-- ---- what is found is what the grammar says

spot : ℕ → Word → Spot
spot k w = record { place = k; word = w }

spots-snoc : (ss : List Spot) (k : ℕ) (w : Word) (rest : List Placed) → spots (ss ++ (spot k w ∷ [])) ++ rest ≡ spots ss ++ (known k w ∷ rest)
unfolding spot
spots-snoc [] k w rest = refl
spots-snoc (s ∷ ss) k w rest = ap (λ ps. known s.place s.word ∷ ps) (spots-snoc ss k w rest)

words_snoc : (ss : List Spot) (k : ℕ) (w : Word) → words (ss ++ (spot k w ∷ [])) ≡ words ss ++ (w ∷ [])
unfolding spot
words_snoc [] k w = refl
words_snoc (s ∷ ss) k w = ap (λ ws. s.word ∷ ws) (words_snoc ss k w)

ends_found : (end : ℕ) (st : State) (ss : List Spot) → walk start (words ss) ≡ Some st → (o : Option Phrase) → final st ≡ o → Finds end (spots ss ++ []) (ends end o)
ends_found end st ss e None f = not_ended ss (append-nil (spots ss)) (reached-begins (words ss) st e) (None-ends (words ss) st e f)
ends_found end st ss e (Some p) f = whole ss p (append-nil (spots ss)) (finished st p f ∙ reached (words ss) st e)

step-found : (end k : ℕ) (w : Word) (ps : List Placed) (st : State) (ss : List Spot) → walk start (words ss) ≡ Some st → (o : Option State) → step st w ≡ o
    → ((st' : State) → step st w ≡ Some st' → Finds end (spots ss ++ (known k w ∷ ps)) (scan end st' ps))
    → Finds end (spots ss ++ (known k w ∷ ps)) (scan end st (known k w ∷ ps))
unfolding scan
step-found end k w ps st ss e None f ih =
    rw (f, scan) (cannot_follow ss k w ps refl (reached-begins (words ss) st e) (None-goes-on (words ss) w st e f))
step-found end k w ps st ss e (Some st') f ih = rw (f, scan) (ih st' f)

scan-found : (end : ℕ) (ps : List Placed) (st : State) (ss : List Spot) → walk start (words ss) ≡ Some st → Finds end (spots ss ++ ps) (scan end st ps)
unfolding scan
scan-found end [] st ss e = ends_found end st ss e (final st) refl
scan-found end (strange k ∷ ps) st ss e = not_known ss k ps refl (reached-begins (words ss) st e)
scan-found end (known k w ∷ ps) st ss e =
    step-found end k w ps st ss e (step st w) refl (λ st' f.
    rw (spots-snoc ss k w ps) at (scan-found end ps st' (ss ++ (spot k w ∷ [])) (rw (words_snoc ss k w) (walk-snoc (words ss) w start st st' e f))))

-- ---- and nothing else is

scan-stops : (end k : ℕ) (w : Word) (ps : List Placed) (st : State) → step st w ≡ None → scan end st (known k w ∷ ps) ≡ unfinished k
unfolding scan
scan-stops end k w ps st e = rw (e, scan)

scan-walk : (end : ℕ) (ss : List Spot) (ps : List Placed) (st st' : State) → walk st (words ss) ≡ Some st' → scan end st (spots ss ++ ps) ≡ scan end st' ps
unfolding walk scan
scan-walk end [] ps st st' e = let z : st ≡ st' = cc in ap (λ s. scan end s ps) z
scan-walk end (s ∷ ss) ps st st' e = by (step st s.word) e (λ r. scan-walk end ss ps r st')
  where
    by : (o : Option State) → option_and_then (λ r. walk r (words ss)) o ≡ Some st' → ((r : State) → walk r (words ss) ≡ Some st' → scan end r (spots ss ++ ps) ≡ scan end st' ps)
        → elim o as (λ _. Found) [ None ↦ unfinished s.place | Some r ↦ scan end r (spots ss ++ ps) ] ≡ scan end st' ps
    by None h ih = cc
    by (Some r) h ih = ih r h

stops-or : (ss : List Spot) (w : Word) (st : State) → walk start (words ss) ≡ Some st → ¬ Begins (words ss ++ (w ∷ [])) → (o : Option State) → step st w ≡ o → step st w ≡ None
stops-or ss w st e no_more None f = f
stops-or ss w st e no_more (Some st') f = absurd (no_more (reached-begins (words ss ++ (w ∷ [])) st' (walk-snoc (words ss) w start st st' e f)))

ends-or : (ss : List Spot) (st : State) → walk start (words ss) ≡ Some st → ¬ Allowed (words ss) → (o : Option Phrase) → final st ≡ o → final st ≡ None
ends-or ss st e never_ends None f = f
ends-or ss st e never_ends (Some p) f = absurd (never_ends (p, finished st p f ∙ reached (words ss) st e))

goes_last : (ws : List Word) (st : State) (p : Phrase) → walk start ws ≡ Some st → words_of p ≡ ws → final st ≡ Some p
unfolding parse walk
goes_last ws st p h w = goes_on ws [] st p h (w ∙ sym (append-nil ws))

found-scan : (end : ℕ) (all : List Placed) (f : Found) → Finds end all f → scan end start all ≡ f
unfolding scan
found-scan end all _ (not_known ss k rest e b) =
    let s = begun (words ss) b in ap (scan end start) e ∙ scan-walk end ss (strange k ∷ rest) start s.0 s.1
found-scan end all _ (cannot_follow ss k w rest e b no_more) =
    let s = begun (words ss) b in
    ap (scan end start) e ∙ (scan-walk end ss (known k w ∷ rest) start s.0 s.1
    ∙ scan-stops end k w rest s.0 (stops-or ss w s.0 s.1 no_more (step s.0 w) refl))
found-scan end all _ (not_ended ss e b never_ends) =
    let s = begun (words ss) b in
    ap (scan end start) (e ∙ sym (append-nil (spots ss))) ∙ (scan-walk end ss [] start s.0 s.1
    ∙ ap (ends end) (ends-or ss s.0 s.1 never_ends (final s.0) refl))
found-scan end all _ (whole ss p e w) =
    let s = begun (words ss) ([], (p, w ∙ sym (append-nil (words ss)))) in
    ap (scan end start) (e ∙ sym (append-nil (spots ss))) ∙ (scan-walk end ss [] start s.0 s.1
    ∙ ap (ends end) (goes_last (words ss) s.0 p s.1 w))

found : (end : ℕ) (all : List Placed) → Finds end all (scan end start all)
unfolding walk
found end all = scan-found end all start [] refl

-- the words of a line have one finding, and `scan` gives it
pub finds : (end : ℕ) (all : List Placed) (f : Found) → Finds end all f ↔ (scan end start all ≡ f)
finds end all f = (found-scan end all f, λ e. rw e at (found end all))

pub one-finding : (end : ℕ) (all : List Placed) (f g : Found) → Finds end all f → Finds end all g → f ≡ g
one-finding end all f g h k = sym (found-scan end all f h) ∙ found-scan end all g k

-- ---- the answer

-- each answer is that of what is found
pub typed-of : (link : ℕ) (line : List ℕ) (l : LinkType) (f : Found) → link_of link ≡ Ok l → Finds (length line) (line_words line) f → typed link line ≡ sized link f
unfolding typed
typed-of link line l f e h = rw (e, found-scan (length line) (line_words line) f h)

-- and one is
pub typed-found : (link : ℕ) (line : List ℕ) → Finds (length line) (line_words line) (scan (length line) start (line_words line))
typed-found link line = found (length line) (line_words line)

-- the words of a phrase that is found
pub found-words : {end : ℕ} {all : List Placed} {p : Phrase} (f : Found) → Finds end all f → f ≡ phrase p
    → (ss : List Spot) × (all ≡ spots ss) × (words_of p ≡ words ss)
found-words _ (not_known ss k rest e b) h = cc
found-words _ (cannot_follow ss k w rest e b n) h = cc
found-words _ (not_ended ss e b n) h = cc
found-words {p = p} _ (whole ss q e w) h = let same : q ≡ p = cc in (ss, e, rw same at w)

-- ---- an answer tells what was found

pub within-true : (p : Phrase) → Within p → within p ≡ true
within-true p h = rw (le-leb (record_count p) 128 h.few, le-leb (depth p) 128 h.flat)

pub true-within : (p : Phrase) → within p ≡ true → Within p
true-within p e =
    let k = and_parts (leb (record_count p) 128) (leb (depth p) 128) e in
    record { few = leb-true (record_count p) 128 k.0; flat = leb-true (depth p) 128 k.1 }
