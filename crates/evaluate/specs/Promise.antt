-- What the functions of the direct reading promise each other. What `direct_reading` answers is said without them, by `direct`.
use Rattle.std.specs.Prelude.{ℕ, ◌+◌, ◌*◌, ◌%◌, ◌^◌, ◌≡◌, List, Bool, ◌&&◌, eqb, leb}
use Rattle.ast.specs.declared.LinkType.{LinkType}
use Rattle.reader.specs.Reader.{tree_of, end_of}
use Rattle.direct.specs.Reading.{kind, port_set, port_test, network_start, b, h, reads}
use Rattle.evaluate.specs.declared.Ports.{Ports}
use Rattle.evaluate.specs.declared.Read.{Read}

-- "Range: low ≤ port ≤ high."
abbrev pub ranged : ℕ → ℕ → ℕ → Bool
ranged low high v = leb low v && leb v high

-- the two ways of `transport`, over IPv4 and over IPv6
unfoldable pub over_ipv4 : LinkType → List ℕ → Ports → Bool
over_ipv4 L f p =
    kind L f 0x0800
    && (port_set p.protocol (b f (network_start L + 9))
    && (eqb (h f (network_start L + 6) % 2 ^ 13) 0
    && port_test L f p.dir (ranged p.low p.high) (4 * (b f (network_start L) % 16))))

unfoldable pub over_ipv6 : LinkType → List ℕ → Ports → Bool
over_ipv6 L f p = kind L f 0x86dd && (port_set p.protocol (b f (network_start L + 6)) && port_test L f p.dir (ranged p.low p.high) 40)

-- the tree at record i is read, up to the record after it
pub record Says (L : LinkType) (f s : List ℕ) (i : ℕ) (r : Read) : Type 0 where
  pub value : r.value ≡ reads L f (tree_of s i)
  pub next : r.next ≡ end_of s i
