-- A record is good where it holds no more than its kind lets it.
use Prim.Native.Nat.{ℕ, zero, suc, ◌+◌, ◌-◌, ◌≤◌}
use mathlib.Core.Path.{◌≡◌, refl, sym, ◌∙◌}
use mathlib.Core.List.{List}
use mathlib.Core.Bool.{Bool, true, false, cond, not, ◌&&◌, ◌||◌, and-true, and-false, and_comm, or-true}
use native.Mathlib.Omega.{arith}
use lib.Dec.{eqb, leb}
use borrow.Author.Tests.{ne_eqb, le-leb, lt-leb}
use Rattle.bpf.specs.Bytes.{be, AreBytes, bytes_at}
use Rattle.bpf.proofs.Bytes.{be_small}
use Rattle.ast.specs.Record.{record_at, D, P, S, A, B, member, numbered, good}
use Rattle.reader.specs.declared.Kind.{Kind}
use Rattle.reader.specs.declared.Kind.TheVariants.{And, Or, Not, Protocol, Host4, Host6, Net, Net6, Port, PortRange, EtherHost, EtherProto, EtherMulticast, IpBroadcast, IpMulticast, Ip6Multicast, IpProtoChain, Ip6ProtoChain}
use Rattle.reader.specs.Checking.{row, most_for, fits, lengths, unused}

most : (m v : ℕ) (u : Bool) → (leb v m && (u || eqb v 0)) ≡ leb v (cond u m 0)
most m v true = and-true (leb v m)
most m zero false = rw (le-leb 0 m (omega arith))
most m (suc v) false = rw (ne_eqb (suc v) 0 (λ e. omega arith), lt-leb (suc v) 0 (omega arith)) (and-false (leb (suc v) m))

most_known : (m v : ℕ) (u : Bool) → v ≤ m → (u || eqb v 0) ≡ leb v (cond u m 0)
most_known m v u h = rw (le-leb v m h) at (most m v u)

small_most : (p v : ℕ) (u : Bool) → v ≤ 255 → (u || (numbered p || eqb v 0)) ≡ (numbered p || leb v (cond u 255 0))
small_most p v u h = go (numbered p)
  where
    go : (n : Bool) → (u || (n || eqb v 0)) ≡ (n || leb v (cond u 255 0))
    go true = or-true u
    go false = most_known 255 v u h

-- the same tests in another order
order : (a b c d e f g h z : Bool)
    → (a && (b && (c && (d && (e && (f && (g && (h && z)))))))) ≡ (((a && d) && ((b && e) && (g && (h && (f && z))))) && c)
order false b c d e f g h z = refl
order true false c false e f g h z = refl
order true false c true e f g h z = refl
order true true false false e f g h z = refl
order true true true false e f g h z = refl
order true true false true false f g h z = refl
order true true true true false f g h z = refl
order true true c true true false false h z = and-false c
order true true c true true false true false z = and-false c
order true true c true true false true true z = and-false c
order true true c true true true false h z = and-false c
order true true c true true true true false z = and-false c
order true true c true true true true true z = and_comm c z

known_length : (k : Kind) → member (row k).address lengths ≡ true
known_length And = refl
known_length Or = refl
known_length Not = refl
known_length Protocol = refl
known_length Host4 = refl
known_length Host6 = refl
known_length Net = refl
known_length Net6 = refl
known_length Port = refl
known_length PortRange = refl
known_length EtherHost = refl
known_length EtherProto = refl
known_length EtherMulticast = refl
known_length IpBroadcast = refl
known_length IpMulticast = refl
known_length Ip6Multicast = refl
known_length IpProtoChain = refl
known_length Ip6ProtoChain = refl

-- the record of a file, as one of this kind
module _ (s : List ℕ) (bytes : AreBytes s) (at : ℕ) (k : Kind) where
  pub good_fits : good (row k) (record_at at s) ≡ (fits (most_for (row k)) (record_at at s) && not (eqb (row k).number 10 && eqb (record_at at s).protocol 0))
  unfolding good fits unused record_at
  good_fits =
      order (leb (be 1 (at + 1) s) 3) (leb (be 1 (at + 2) s) 12) (not (eqb (row k).number 10 && eqb (be 1 (at + 2) s) 0))
      (member D (row k).uses || eqb (be 1 (at + 1) s) 0)
      (member P (row k).uses || eqb (be 1 (at + 2) s) 0)
      (member S (row k).uses || (numbered (be 1 (at + 2) s) || eqb (be 1 (at + 3) s) 0))
      (member A (row k).uses || eqb (be 2 (at + 4) s) 0)
      (member B (row k).uses || eqb (be 2 (at + 6) s) 0)
      (eqb (be (16 - (row k).address) (row k).address (bytes_at 16 (at + 8) s)) 0)
      ∙ λ j.
      (most 3 (be 1 (at + 1) s) (member D (row k).uses) j
      && (most 12 (be 1 (at + 2) s) (member P (row k).uses) j
      && (most_known 65535 (be 2 (at + 4) s) (member A (row k).uses) (omega (arith, be_small 2 (at + 4) s bytes)) j
      && (most_known 65535 (be 2 (at + 6) s) (member B (row k).uses) (omega (arith, be_small 2 (at + 6) s bytes)) j
      && (small_most (be 1 (at + 2) s) (be 1 (at + 3) s) (member S (row k).uses) (omega (arith, be_small 1 (at + 3) s bytes)) j
      && (sym (known_length k) j && eqb (be (16 - (row k).address) (row k).address (bytes_at 16 (at + 8) s)) 0))))))
      && not (eqb (row k).number 10 && eqb (be 1 (at + 2) s) 0)
