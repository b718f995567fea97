-- What T-01 promises of a count holds of every tree file, buffer and capture.
use Rattle.capture.specs.Counting.{halt}
use Rattle.std.specs.Prelude.{Ok, Err}
use Rattle.error.specs.Answer.{Out}
use Rattle.vm.specs.declared.Outcome.{Outcome}
use Prim.Native.Nat.{ℕ, ◌+◌, ◌≤◌, ◌<◌}
use mathlib.Core.Path.{◌≡◌, refl, sym, ap, ◌∙◌}
use mathlib.Core.List.{List, [], ◌∷◌}
use mathlib.Core.Bool.{Bool, true, false, ◌&&◌}
use mathlib.Core.Logic.{◌↔◌}
use mathlib.Core.Logic.Iff as Iff
use native.Mathlib.Omega.{arith}
use borrow.Author.Tests.{leb-true, ltb-true, ltb-false, lt-ltb, le-ltb}
use lib.ListN.{length, take, drop, get_or, length-take, length-drop, get_or-eq_default}
use lib.Seq.{get_or-drop, get_or-take, take-length}
use lib.Dec.{ltb}
use Rattle.error.specs.declared.Refusal.TheVariants.{CutFrame}
use Rattle.bpf.specs.Bytes.{AreBytes}
use Rattle.vm.specs.declared.Verdict.{Verdict}
use Rattle.vm.specs.declared.Verdict.TheVariants.{Accepted, Dropped, Short, Broken}
use Rattle.vm.specs.Machine.{run}
use Rattle.ast.specs.declared.LinkType.{LinkType}
use Rattle.ast.specs.File.{header}
use Rattle.direct.specs.Reading.{network_start}
use Rattle.build.specs.Demands.{Answers, program_of, Frame, HasVerdict}
use Rattle.build.proofs.Demands as Base
use Rattle.build.proofs.Demands.{demands}
use Rattle.capture.specs.declared.Order.{Order}
use Rattle.capture.specs.Capture.{number_at, field_of, Piece, part, Frames, frames_of}
use Rattle.capture.specs.Counting.{is_accepted, accepted, passing, tally_of, ended, counted, refusal_of}
use Rattle.capture.specs.Reads.{Marked, Chain}
use Rattle.capture.proofs.Headers.{marked_order, unmarked, opened_unmarked, opened_other, opened_same, walked}
use Rattle.capture.proofs.Whole.{reads}
use Rattle.capture.proofs.Turning.{in_turn}
use Rattle.capture.proofs.Untested.{untested}
use Rattle.count.specs.Count.{count}
use Rattle.count.specs.Counts.{Calls, Kept, keeps, is_true, holds, reaches, Every, tallied, Counted, Linked, Counts}
use Rattle.count.proofs.Answers.{count-own, count-linked, count-buffer}

-- ---- a kept frame

is_accepted_lem : (v : Verdict) → (is_accepted v ≡ true) ↔ (v ≡ Accepted)
is_accepted_lem Accepted = (λ e. refl, λ e. refl)
is_accepted_lem Dropped = (λ e. let z : ◌≡◌ {A = ℕ} 0 1 = cc in absurd (omega arith), λ e. let z : ◌≡◌ {A = ℕ} 0 1 = cc in absurd (omega arith))
is_accepted_lem Short = (λ e. let z : ◌≡◌ {A = ℕ} 0 1 = cc in absurd (omega arith), λ e. let z : ◌≡◌ {A = ℕ} 0 1 = cc in absurd (omega arith))
is_accepted_lem Broken = (λ e. let z : ◌≡◌ {A = ℕ} 0 1 = cc in absurd (omega arith), λ e. let z : ◌≡◌ {A = ℕ} 0 1 = cc in absurd (omega arith))

has_verdict : (r : Out Outcome) → (accepted r ≡ true) ↔ HasVerdict Accepted r
has_verdict (Ok o) = is_accepted_lem o.verdict
has_verdict (Err r) = (λ e. let z : ◌≡◌ {A = ℕ} 0 1 = cc in absurd (omega arith), λ e. absurd e)

is_true_lem : (d : Out Bool) → (is_true d ≡ true) ↔ (d ≡ Ok true)
is_true_lem (Ok b) = (λ e. ap Ok e, λ e. cc)
is_true_lem (Err r) = (λ e. let z : ◌≡◌ {A = ℕ} 0 1 = cc in absurd (omega arith), λ e. let z : ◌≡◌ {A = ℕ} 0 1 = cc in absurd (omega arith))

-- two tests that hold together are one
same_test : (a b : Bool) → ((a ≡ true) ↔ (b ≡ true)) → a ≡ b
same_test true b h = sym (h.0 refl)
same_test false true h = h.1 refl
same_test false false h = refl

-- ---- a part of a capture

module _ (s : List ℕ) (z : AreBytes s) where
  byte_within : (n a i : ℕ) (b : Bool) → ltb i n ≡ b → get_or (take n (drop a s)) i 0 < 256
  byte_within n a i true t = rw (get_or-take n (drop a s) i 0 (ltb-true i n t), get_or-drop a s i 0) (z (a + i))
  byte_within n a i false t =
      rw (get_or-eq_default (take n (drop a s)) 0 {n = i} (omega (arith, length-take n (drop a s), ltb-false i n t))) (omega arith)

  part_bytes : (p : Piece) → AreBytes (part s p)
  part_bytes p i = byte_within p.size p.place i (ltb i p.size) refl

part_length : (s : List ℕ) (p : Piece) → p.place + p.size ≤ length s → length (part s p) ≡ p.size
part_length s p h = omega (arith, length-take p.size (drop p.place s), length-drop p.place s)

-- what holds of each frame of a chain that lies within the capture and the limit
every : (o : Order) (s : List ℕ) (q : Piece → Type 0) → ((p : Piece) → length (part s p) ≡ p.size → p.size ≤ 65535 → q p)
    → (at : ℕ) (ps : List Piece) (end : ℕ) → Chain o s at ps end → Every q ps
every o s q f at [] end c = tt
every o s q f at (p ∷ ps) end c = (f p (part_length s p c.0.within) c.0.most, every o s q f (p.place + p.size) ps end c.1)

same_passing : (s : List ℕ) (f g : List ℕ → Bool) (ps : List Piece) → Every (λ p. f (part s p) ≡ g (part s p)) ps → passing f s ps ≡ passing g s ps
unfolding passing
same_passing s f g [] h = refl
same_passing s f g (p ∷ ps) h = rw (h.0, same_passing s f g ps h.1)

all_pieces : (q : Piece → Type 0) → ((p : Piece) → q p) → (ps : List Piece) → Every q ps
all_pieces q f [] = tt
all_pieces q f (p ∷ ps) = (f p, all_pieces q f ps)

-- ---- of a tree file and a capture

-- the answer for an accepted tree, of the definitions
answered : (T : List ℕ) (c : Calls) → Kept T c → (lent n : ℕ) → Answers c.base lent n → (link : LinkType) → header T ≡ Ok link → (s : List ℕ)
    → c.answer lent s ≡ counted (program_of c.base lent n) link s
answered T c k lent n a link e s =
    k.answers lent s
    ∙ count-linked T lent s n (sym (k.base.answers lent) ∙ a)
    ∙ rw (e, ← k.base.leaves lent)

module _ (T : List ℕ) (zT : AreBytes T) (c : Calls) (k : Kept T c) (lent : ℕ) (s : List ℕ) (zS : AreBytes s) where
  module _ (n : ℕ) (a : Answers c.base lent n) (link : LinkType) (e : header T ≡ Ok link) where
    abbrev P : List ℕ
    P = program_of c.base lent n

    answer_is : (t : List ℕ) → c.answer lent t ≡ counted P link t
    answer_is t = answered T c k lent n a link e t

    truth_at : (p : Piece) → length (part s p) ≡ p.size → p.size ≤ 65535 → network_start link + 64 ≤ p.size → keeps c P (part s p) ≡ holds c (part s p)
    truth_at p l m r =
        let F = part s p in
        let f : Frame F = (part_bytes s zS p, omega arith) in
        let d = ((demands T zT c.base k.base).third lent n a F F f f (take-length F)).there link e (omega arith) in
        same_test (keeps c P F) (holds c F) (Iff.trans (has_verdict (c.base.ran P F)) (Iff.trans d.accepted (Iff.symm (is_true_lem (c.base.read F)))))

    both_at : (p : Piece) → length (part s p) ≡ p.size → p.size ≤ 65535
        → (reaches link (part s p) && keeps c P (part s p)) ≡ (reaches link (part s p) && holds c (part s p))
    both_at p l m = go (reaches link (part s p)) refl
      where
        go : (b : Bool) → reaches link (part s p) ≡ b → (b && keeps c P (part s p)) ≡ (b && holds c (part s p))
        go true t = truth_at p l m (omega (arith, leb-true (network_start link + 64) (length (part s p)) t))
        go false t = refl

    tallied_is : (fs : Frames) → tally_of P s fs ≡ tallied c P s fs
    tallied_is fs =
        let q = same_passing s (λ F. accepted (run P F)) (keeps c P) fs.pieces (all_pieces _ (λ p. ap accepted (sym (k.base.runs P (part s p)))) fs.pieces) in
        λ i. record { kept = q i; given = length fs.pieces; stop = fs.stop }

    module _ (fs : Frames) (x : c.answer lent s ≡ ended P s fs) where
      whole_is : fs.stop ≡ length s → c.answer lent s ≡ Ok (tally_of P s fs)
      whole_is w = x ∙ rw (le-ltb fs.stop (length s) (omega arith))

      cut_is : fs.stop < length s → c.answer lent s ≡ Err (halt CutFrame (tally_of P s fs))
      cut_is w = x ∙ rw (lt-ltb fs.stop (length s) w)

      to_end : ¬ (refusal_of (c.answer lent s) ≡ 14) → fs.stop ≤ length s → fs.stop ≡ length s
      to_end h l = go (ltb fs.stop (length s)) refl
        where
          go : (b : Bool) → ltb fs.stop (length s) ≡ b → fs.stop ≡ length s
          go true p = absurd (h (ap refusal_of (cut_is (ltb-true fs.stop (length s) p))))
          go false p = omega (arith, ltb-false fs.stop (length s) p)

    counted_at : (o : Order) → Marked o s → number_at o 20 s ≡ field_of link → Counted c lent P link o s
    unfolding counted
    counted_at o m l =
        let h = marked_order o s zS m in
        let r = reads o s m.long in
        let fs = frames_of o s in
        let x : c.answer lent s ≡ ended P s fs = answer_is s ∙ rw (opened_same s link o h l) in
        record {
          read = r;
          walked = λ at. walked o s at h;
          whole = λ w. whole_is fs x w ∙ rw (tallied_is fs);
          cut = λ w. cut_is fs x w ∙ rw (tallied_is fs);
          all = (
            λ ps. λ e. let z : ◌≡◌ {A = ℕ} 0 14 = sym (ap refusal_of (whole_is fs x (r.all ps.0 ps.1).1)) ∙ e in absurd (omega arith),
            λ h. (fs.pieces, rw (to_end fs x h r.stops.0) at r.chain),
          );
          gets = λ F. has_verdict (c.base.ran P F);
          truth = every o s _ (λ p l m w. truth_at p l m w) 24 fs.pieces fs.stop r.chain;
          truths = same_passing s _ _ fs.pieces (every o s _ both_at 24 fs.pieces fs.stop r.chain);
        }

    linked_at : Linked c lent P link s
    unfolding counted
    linked_at =
        record {
          unmarked = λ h. answer_is s ∙ rw (opened_unmarked s link (unmarked s h));
          other = λ o m h. answer_is s ∙ rw (opened_other s link o (marked_order o s zS m) h);
          untested = λ t m b. answer_is t ∙ untested P link s t m b ∙ sym (answer_is s);
          counted = counted_at;
          turns = λ cuts h. (in_turn P link).same cuts ∙ rw h (sym (answer_is s));
        }

  -- an accepted tree has a link
  none_frame : Frame []
  none_frame = (λ i. omega arith, omega arith)

  pub counts : Counts T c lent s
  counts =
      record {
        own = λ r e. (
          k.answers lent s ∙ count-own T lent s r (sym (k.base.answers lent) ∙ e),
          k.leaves lent s ∙ count-buffer T lent s ∙ sym (k.base.leaves lent) ∙ (demands T zT c.base k.base).first.zeroes lent r e,
        );
        leaves = k.leaves lent s ∙ count-buffer T lent s ∙ sym (k.base.leaves lent);
        linked = λ n a.
            let d = ((demands T zT c.base k.base).third lent n a [] [] none_frame none_frame refl).reaches in
            (d.0, d.1, linked_at n a d.0 d.1);
      }

-- ---- the promises can be kept

abbrev pub defined : List ℕ → Calls
defined T = record { base = Base.defined T; answer = λ lent s. (count T lent s).answer; buffer = λ lent s. (count T lent s).buffer }

pub kept : (T : List ℕ) → Kept T (defined T)
kept T = record { base = Base.kept T; answers = λ lent s. refl; leaves = λ lent s. refl }
