-- What T-04 says of a typed line holds of every link byte and line.
use Rattle.typing.specs.Typed.{fault}
use Rattle.std.specs.Prelude.{Result, Ok, Err}
use Rattle.typing.specs.declared.Fault.{Fault}
use Prim.Native.Nat.{ℕ, ◌+◌, ◌/◌, ◌%◌, ◌≤◌, ◌<◌}
use mathlib.Core.Path.{◌≡◌, refl, sym, ap, ◌∙◌}
use mathlib.Core.List.{List, [], ◌∷◌}
use mathlib.Core.Bool.{Bool, true, false, cond}
use mathlib.Core.Logic.{◌↔◌, ◌⊎◌, inl, inr}
use native.Mathlib.Omega.{arith}
use lib.ListN.{length, replicate}
use lib.Seq.{take-length}
use borrow.Author.Tests.{le-ltb}
use Rattle.error.specs.declared.Refusal.{Refusal}
use Rattle.error.specs.declared.Refusal.TheVariants.{StrangeFile, ShortBuffer, UnknownWord, Unfinished, TooLarge}
use Rattle.error.specs.Answer.{Out, Numbered}
use Rattle.error.proofs.All.{Turned}
use Rattle.error.proofs.Among.{numbered_more}
use Rattle.bpf.specs.Bytes.{AreBytes}
use Rattle.bpf.specs.Program.{Each}
use Rattle.bpf.specs.declared.Insn.{Insn}
use Rattle.ast.specs.declared.LinkType.{LinkType}
use Rattle.ast.specs.File.{link_of, header}
use Rattle.ast.proofs.Proper.{Byte, each_bytes}
use Rattle.direct.specs.Reading.{network_start}
use Rattle.codegen.proofs.Refusals.{late, compile_turned}
use Rattle.build.specs.Build as Build
use Rattle.build.specs.Build.{into, too_short, program, build}
use Rattle.build.specs.Demands as B
use Rattle.build.specs.Demands.{Answers, program_of, Frame, ReadsPast}
use Rattle.build.proofs.Demands.{demands}
use Rattle.typing.specs.Words.{line_words}
use Rattle.typing.specs.Phrase.{Phrase, phrase_bytes, record_count, Within, says, tree_of, file_of}
use Rattle.typing.specs.Finds.{Found, phrase, unknown, unfinished, Finds, whole}
use Rattle.typing.specs.Parse.{start, scan}
use Rattle.typing.specs.Typed.{Typed, placed, rejected, within, sized, linked, typed}
use Rattle.typing.proofs.Answers.{found-words, typed-of, typed-found, one-finding, within-true, true-within}
use Rattle.typing.proofs.Passes.{file_length, file_header_lem, passes, file_says}
use Rattle.typing.proofs.Spaces.{space_parts, one_word}
use Rattle.typing.proofs.Numerals as N
use Rattle.type_line.specs.Types.{Calls, Kept, Says, Allows, Refuses, Spaced, Numerals, Decided, Gives, Typing, Types}
use Rattle.type_line.proofs.Ranges.{in_range, phrase_are}
use Rattle.type_line.proofs.Top.{link_low, link_high, link_good, typed_link}

pub spaced : Spaced
spaced =
    record {
      nothing = λ at. unfold Rattle.typing.specs.Words.words_from in refl;
      one = λ at b s h. one_word b s at h;
      space = λ at s t. space_parts s t false at;
    }

pub numerals : Numerals
numerals = record { addresses = N.addresses; ports = N.port_numbers_lem; unknown = N.strangers }

-- ---- the bytes of a file are bytes

file_are : (link : ℕ) (line : List ℕ) (p : Phrase) → link ≤ 3 → Allows line p → AreBytes (file_of link p)
file_are link line p h a = each_bytes (file_of link p) (omega arith, (omega arith, (omega arith, (omega arith, (omega arith, (omega arith, (low, (high, records))))))))
  where
    low : record_count p / 256 < 256
    low = let few = a.1.few in omega arith

    high : record_count p % 256 < 256
    high = omega arith

    records : Each Byte (phrase_bytes p)
    records = phrase_are p (in_range line a.0.the_words p a.0.known a.0.said)

-- ---- what was found, by the answer

-- two refusals that are one have one number and one place
same_fault : {r s : Refusal} {i j : ℕ} → ◌≡◌ {A = Result ℕ Fault} (Err (fault r i)) (Err (fault s j)) → fault r i ≡ fault s j
same_fault e = cc

same_refusal : {r s : Refusal} {i j : ℕ} → ◌≡◌ {A = Result ℕ Fault} (Err (fault r i)) (Err (fault s j)) → r ≡ s
same_refusal e = ap (λ (f : Fault). f.refusal) (same_fault e)

module _ (link : ℕ) (k : ℕ) where
  is_unknown : (f : Found) → (sized link f).answer ≡ Err (fault UnknownWord k) → f ≡ unknown k
  is_unknown (unknown j) e = ap (λ (f : Fault). unknown f.place) (same_fault e)
  is_unknown (unfinished j) e = let z = same_refusal e in cc
  is_unknown (phrase p) e = by (within p) e
    where
      by : (b : Bool) → (cond b (placed (file_of link p)) (rejected TooLarge 0)).answer ≡ Err (fault UnknownWord k) → phrase p ≡ unknown k
      by true h = cc
      by false h = let z = same_refusal h in cc

  is_unfinished : (f : Found) → (sized link f).answer ≡ Err (fault Unfinished k) → f ≡ unfinished k
  is_unfinished (unknown j) e = let z = same_refusal e in cc
  is_unfinished (unfinished j) e = ap (λ (f : Fault). unfinished f.place) (same_fault e)
  is_unfinished (phrase p) e = by (within p) e
    where
      by : (b : Bool) → (cond b (placed (file_of link p)) (rejected TooLarge 0)).answer ≡ Err (fault Unfinished k) → phrase p ≡ unfinished k
      by true h = cc
      by false h = let z = same_refusal h in cc

-- a file, or 18, is the answer to a whole phrase
module _ (link : ℕ) where
  abbrev Phrased : Found → Type 0
  Phrased f = (p : Phrase) × (f ≡ phrase p) × Within p

  is_file : (n : ℕ) (f : Found) → (sized link f).answer ≡ Ok n → Phrased f
  is_file n (unknown j) e = cc
  is_file n (unfinished j) e = cc
  is_file n (phrase p) e = by (within p) refl e
    where
      by : (b : Bool) → within p ≡ b → (cond b (placed (file_of link p)) (rejected TooLarge 0)).answer ≡ Ok n → Phrased (phrase p)
      by true w h = (p, refl, true-within p w)
      by false w h = cc

  is_large : (f : Found) → (sized link f).answer ≡ Err (fault TooLarge 0) → (p : Phrase) × (f ≡ phrase p) × (¬ Within p)
  is_large (unknown j) e = let z = same_refusal e in cc
  is_large (unfinished j) e = let z = same_refusal e in cc
  is_large (phrase p) e = (p, refl, λ w. (let z = within-true p w in let y = ap (λ b. (cond b (placed (file_of link p)) (rejected TooLarge 0)).answer) (sym z) ∙ e in cc))

within_false : (p : Phrase) → (¬ Within p) → within p ≡ false
within_false p h = by (within p) refl
  where
    by : (b : Bool) → within p ≡ b → within p ≡ false
    by true w = absurd (h (true-within p w))
    by false w = w

says_found : (line : List ℕ) (p : Phrase) → Says line p → Finds (length line) (line_words line) (phrase p)
says_found line p s = whole s.the_words p s.known s.said

found_says : (line : List ℕ) (p : Phrase) (f : Found) → Finds (length line) (line_words line) f → f ≡ phrase p → Says line p
found_says line p f h e = let k = found-words f h e in record { the_words = k.0; known = k.1; said = k.2 }

-- ---- what a file's build turns down

rejects : (o : Out (List Insn)) (lent : ℕ) (r : Refusal) → Turned (Numbered late) o → (into lent o).answer ≡ Err r → Numbered (5 ∷ 6 ∷ 7 ∷ 8 ∷ 9 ∷ 15 ∷ []) r
rejects (Err s) lent r h e = let same : s ≡ r = cc in rw same at (numbered_more late (5 ∷ 6 ∷ 7 ∷ 8 ∷ 9 ∷ 15 ∷ []) tt s h)
rejects (Ok p) lent r h e = by (too_short lent p) e
  where
    by : (b : Bool) → (cond b (Build.rejected lent ShortBuffer) (Build.placed lent p)).answer ≡ Err r → Numbered (5 ∷ 6 ∷ 7 ∷ 8 ∷ 9 ∷ 15 ∷ []) r
    by true g = let same : ShortBuffer ≡ r = cc in rw (← same) tt
    by false g = cc

-- ---- of calls that keep their promises

is_either : (b d : Bool) → (◌≡◌ {A = Out Bool} (Ok b) (Ok d)) ↔ (b ≡ d)
is_either b d = (λ e. cc, λ e. ap Ok e)

module _ (c : Calls) (k : Kept c) (link : ℕ) (line : List ℕ) (l : LinkType) (small : link ≤ 3) (e : link_of link ≡ Ok l) where
  found : Finds (length line) (line_words line) (scan (length line) start (line_words line))
  found = typed-found link line

  answers : c.answer link line ≡ (sized link (scan (length line) start (line_words line))).answer
  answers = k.answers link line ∙ ap (λ (t : Typed). t.answer) (typed-of link line l _ e found)

  answers_found : (f : Found) → Finds (length line) (line_words line) f → c.answer link line ≡ (sized link f).answer
  answers_found f h = k.answers link line ∙ ap (λ (t : Typed). t.answer) (typed-of link line l f e h)

  gives : (p : Phrase) → Allows line p → Gives c link l line p (file_of link p)
  gives p a =
      record {
        answers = k.answers link line ∙ ap (λ (t : Typed). t.answer) typed_file;
        leaves = k.leaves link line ∙ ap (λ (t : Typed). t.tree) typed_file;
        long = file_length link p;
        passes = passes link l p e a.1;
        builds = builds;
        reads = reads;
        decided = decided;
        there = there;
      }
    where
      T : List ℕ
      T = file_of link p

      typed_file : typed link line ≡ placed (file_of link p)
      typed_file = typed-of link line l (phrase p) e (says_found line p a.0) ∙ rw (within-true p a.1)

      base : B.Demands T (c.base T)
      base = demands T (file_are link line p small a) (c.base T) (k.base T)

      builds : (lent : ℕ) (r : Refusal) → B.Refuses (c.base T) lent r → Numbered (5 ∷ 6 ∷ 7 ∷ 8 ∷ 9 ∷ 15 ∷ []) r
      builds lent r h = unfold build in rejects (program T) lent r turned (sym ((k.base T).answers lent) ∙ h)
        where
          turned : Turned (Numbered late) (program T)
          turned = unfold program in rw (passes link l p e a.1) (compile_turned l (tree_of p))

      reads : (F : List ℕ) → length F ≤ 65535 → (c.base T).read F ≡ Ok (says l F p)
      reads F h = (k.base T).reads F ∙ file_says link l p F e a.1 (le-ltb 65535 (length F) h)

      by_says : (P F : List ℕ) → length F ≤ 65535 → B.Decided (c.base T) P F F → Decided (c.base T) P F l p
      by_says P F h d =
          record {
            accepted = (λ g. (is_either (says l F p) true).0 (sym (reads F h) ∙ d.accepted.0 g), λ g. d.accepted.1 (reads F h ∙ ap Ok g));
            dropped = (λ g. (is_either (says l F p) false).0 (sym (reads F h) ∙ d.dropped.0 g), λ g. d.dropped.1 (reads F h ∙ ap Ok g));
            either = d.either;
          }

      decided : (lent count : ℕ) → Answers (c.base T) lent count → (F : List ℕ) → Frame F → ¬ ReadsPast (c.base T) (program_of (c.base T) lent count) F
          → Decided (c.base T) (program_of (c.base T) lent count) F l p
      decided lent count b F f h = by_says _ F f.1 ((base.third lent count b F F f f (take-length F)).decided h)

      there : (lent count : ℕ) → Answers (c.base T) lent count → (F : List ℕ) → Frame F → network_start l + 64 ≤ length F
          → Decided (c.base T) (program_of (c.base T) lent count) F l p
      there lent count b F f h = by_says _ F f.1 ((base.third lent count b F F f f (take-length F)).there l (head ∙ e) h)
        where
          head : header T ≡ link_of link
          head = file_header_lem link p

  typing : Typing c link l line
  typing =
      record {
        gives = gives;
        no_other = λ n h. no_other n (is_file link n _ (sym answers ∙ h));
        one = λ p q a b. is_phrase (one-finding (length line) (line_words line) (phrase p) (phrase q) (says_found line p a) (says_found line q b));
        unknown_word = λ i. (λ h. rw (is_unknown link i (scan (length line) start (line_words line)) (sym answers ∙ h)) at found, λ h. answers_found (unknown i) h);
        unfinished_line = λ i. (λ h. rw (is_unfinished link i (scan (length line) start (line_words line)) (sym answers ∙ h)) at found, λ h. answers_found (unfinished i) h);
        too_large = (λ h. large (is_large link _ (sym answers ∙ h)), λ h. answers_found (phrase h.0) (says_found line h.0 h.1) ∙ rw (within_false h.0 h.2));
        all = all (scan (length line) start (line_words line)) refl;
      }
    where
      is_phrase : {p q : Phrase} → phrase p ≡ phrase q → p ≡ q
      is_phrase h = cc

      no_other : (n : ℕ) → (p : Phrase) × (scan (length line) start (line_words line) ≡ phrase p) × Within p → (p : Phrase) × Allows line p
      no_other n q = (q.0, (found_says line q.0 _ found q.1, q.2))

      large : (p : Phrase) × (scan (length line) start (line_words line) ≡ phrase p) × (¬ Within p) → (p : Phrase) × Says line p × (¬ Within p)
      large q = (q.0, found_says line q.0 _ found q.1, q.2)

      all : (f : Found) → scan (length line) start (line_words line) ≡ f
          → ((p : Phrase) × Allows line p) ⊎ (((i : ℕ) × Refuses c link line UnknownWord i) ⊎ (((i : ℕ) × Refuses c link line Unfinished i) ⊎ Refuses c link line TooLarge 0))
      all (unknown i) h = inr (inl (i, answers ∙ ap (λ f. (sized link f).answer) h))
      all (unfinished i) h = inr (inr (inl (i, answers ∙ ap (λ f. (sized link f).answer) h)))
      all (phrase p) h = by (within p) refl
        where
          by : (b : Bool) → within p ≡ b
              → ((p : Phrase) × Allows line p) ⊎ (((i : ℕ) × Refuses c link line UnknownWord i) ⊎ (((i : ℕ) × Refuses c link line Unfinished i) ⊎ Refuses c link line TooLarge 0))
          by true w = inl (p, (found_says line p _ found h, true-within p w))
          by false w = inr (inr (inr (answers ∙ (ap (λ f. (sized link f).answer) h ∙ rw w))))

-- ---- T-04

module _ (link : ℕ) (r : Refusal) (i : ℕ) where
  sized_zeroes : (f : Found) → (sized link f).answer ≡ Err (fault r i) → (sized link f).tree ≡ replicate 3080 0
  sized_zeroes (unknown j) h = refl
  sized_zeroes (unfinished j) h = refl
  sized_zeroes (phrase p) h = by (within p) h
    where
      by : (b : Bool) → (cond b (placed (file_of link p)) (rejected TooLarge 0)).answer ≡ Err (fault r i) → (cond b (placed (file_of link p)) (rejected TooLarge 0)).tree ≡ replicate 3080 0
      by true g = cc
      by false g = refl

  linked_zeroes : (o : Out LinkType) (f : Found) → (linked o (sized link f)).answer ≡ Err (fault r i) → (linked o (sized link f)).tree ≡ replicate 3080 0
  linked_zeroes (Err q) f h = refl
  linked_zeroes (Ok l) f h = sized_zeroes f h

  typed_zeroes : (line : List ℕ) → (typed link line).answer ≡ Err (fault r i) → (typed link line).tree ≡ replicate 3080 0
  unfolding typed
  typed_zeroes line h = linked_zeroes (link_of link) (scan (length line) start (line_words line)) h

pub types : (c : Calls) → Kept c → (link : ℕ) (line : List ℕ) → Types c link line
types c k link line =
    record {
      strange = λ h. k.answers link line ∙ ap (λ (t : Typed). t.answer) (typed_link link line (outside h));
      linked = λ low high. let l = link_good link low high in (l.0, l.1, typing c k link line l.0 high l.1);
      zeroes = λ r i h. k.leaves link line ∙ typed_zeroes link r i line (sym (k.answers link line) ∙ h);
    }
  where
    outside : (link < 1) ⊎ (3 < link) → link_of link ≡ Err StrangeFile
    outside (inl h) = link_low link h
    outside (inr h) = link_high link h
