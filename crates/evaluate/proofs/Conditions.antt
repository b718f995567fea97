-- A port as the range from it to it, and a host as a net under the whole mask.
use Rattle.std.specs.Prelude.{Option}
use Prim.Native.Nat.{ℕ, ◌+◌, ◌^◌, ◌<◌}
use mathlib.Core.Path.{◌≡◌, ◌∙◌}
use mathlib.Core.List.{List}
use mathlib.Core.Bool.{◌&&◌}
use native.Mathlib.Omega.{arith}
use lib.Bits.{bit_and}
use lib.Dec.{eqb, leb}
use Rattle.std.proofs.lemmas.Bool.Decides.{nat_tests}
use Rattle.std.proofs.lemmas.Nat.Bits.{and_high}
use Rattle.bpf.specs.Bytes.{be, AreBytes}
use Rattle.bpf.proofs.Bytes.{be_small}
use Rattle.ast.specs.declared.LinkType.{LinkType}
use Rattle.ast.specs.declared.Dir.{Dir}
use Rattle.ast.specs.declared.Proto.{Proto}
use Rattle.ast.specs.declared.Primitive.TheVariants.{Port, Host4, Net}
use Rattle.direct.specs.Reading.{network_start, port_set, port_test, transport, reads_primitive}
use Rattle.evaluate.specs.Promise.{ranged}

one_port : (k v : ℕ) → (leb k v && leb v k) ≡ eqb v k
one_port k v = grind (arith, nat_tests)

pub port_reads : (L : LinkType) (f : List ℕ) (d : Dir) (p : Option Proto) (k : ℕ) → transport L f (port_set p) (port_test L f d (ranged k k)) ≡ reads_primitive L f (Port d p k)
unfolding reads_primitive
port_reads L f d p k = λ j. transport L f (port_set p) (port_test L f d (λ v. one_port k v j))

whole : (n : ℕ) → n < 2 ^ 32 → bit_and n 0xffff_ffff ≡ n
whole n h = and_high n 32 0 ∙ omega arith

pub host_reads : (L : LinkType) (f : List ℕ) → AreBytes f → (d : Dir) (a : ℕ) → a < 2 ^ 32 → reads_primitive L f (Net d a 0xffff_ffff) ≡ reads_primitive L f (Host4 d a)
unfolding reads_primitive
host_reads L f h d a l = rw (whole a l, whole (be 4 (network_start L + 12) f) (be_small 4 (network_start L + 12) f h), whole (be 4 (network_start L + 16) f) (be_small 4 (network_start L + 16) f h))
