-- "The twelve protocols are rows of one constant table": ethertype, IPv4 protocol and IPv6 next header, for guards and emission.
use Rattle.std.specs.Prelude.{Option, None, Some}
use Rattle.std.specs.Prelude.{Ok, Err}
use Rattle.std.specs.Prelude.{ℕ, List, [], ◌∷◌, get_or}
use Rattle.error.specs.declared.Refusal.TheVariants.{PortProtocol}
use Rattle.error.specs.Answer.{Out}
use Rattle.ast.specs.declared.Proto.{Proto}
use Rattle.ast.specs.declared.Proto.TheVariants.{Ip, Ip6, Arp, Rarp, Tcp, Udp, Icmp, Icmp6, Igmp, Sctp, Num, Ip6Proto}
use Rattle.codegen.specs.declared.L4Set.{L4Set}
use Rattle.codegen.specs.declared.L4Set.TheVariants.{One, TcpOrUdp}
use Rattle.codegen.specs.declared.RowNumber.{RowNumber}
use Rattle.codegen.specs.declared.RowNumber.TheVariants.{Absent, Fixed, Small}
use Rattle.codegen.specs.declared.Row.{Row}

abbrev pub row : ℕ → RowNumber → RowNumber → Row
row e p n = record { ethertype = e; ip4_proto = p; ip6_nh = n }

-- in the order of the protocol bytes, from 1 on
abbrev pub protocols : List Row
protocols =
    row 0x0800 Absent Absent  -- Ip
    ∷ row 0x86dd Absent Absent  -- Ip6
    ∷ row 0x0806 Absent Absent  -- Arp
    ∷ row 0x8035 Absent Absent  -- Rarp
    ∷ row 0x0800 (Fixed 6) Absent  -- Tcp
    ∷ row 0x0800 (Fixed 17) Absent  -- Udp
    ∷ row 0x0800 (Fixed 1) Absent  -- Icmp
    ∷ row 0x86dd Absent (Fixed 58)  -- Icmp6
    ∷ row 0x0800 (Fixed 2) Absent  -- Igmp
    ∷ row 0x0800 (Fixed 132) Absent  -- Sctp
    ∷ row 0x0800 Small Absent  -- Num
    ∷ row 0x86dd Absent Small  -- Ip6Proto
    ∷ []

-- a protocol's place in the table, and its small number
abbrev pub index_of : Proto → ℕ
index_of Ip = 0
index_of Ip6 = 1
index_of Arp = 2
index_of Rarp = 3
index_of Tcp = 4
index_of Udp = 5
index_of Icmp = 6
index_of Icmp6 = 7
index_of Igmp = 8
index_of Sctp = 9
index_of (Num n) = 10
index_of (Ip6Proto n) = 11

abbrev pub small_of : Proto → ℕ
small_of Ip = 0
small_of Ip6 = 0
small_of Arp = 0
small_of Rarp = 0
small_of Tcp = 0
small_of Udp = 0
small_of Icmp = 0
small_of Icmp6 = 0
small_of Igmp = 0
small_of Sctp = 0
small_of (Num n) = n
small_of (Ip6Proto n) = n

abbrev pub row_of : Proto → Row
row_of p = get_or protocols (index_of p) (row 0 Absent Absent)

-- a row's number with the small number n
abbrev pub known : RowNumber → ℕ → Option ℕ
known Absent n = None
known (Fixed p) n = Some p
known Small n = Some n

-- `l4set_for`; number 6, "port or range with a protocol other than 0, 5, 6, 10"
abbrev pub l4set_for : Option Proto → Out L4Set
l4set_for None = Ok TcpOrUdp
l4set_for (Some Tcp) = Ok (One 6)
l4set_for (Some Udp) = Ok (One 17)
l4set_for (Some Sctp) = Ok (One 132)
l4set_for (Some Ip) = Err PortProtocol
l4set_for (Some Ip6) = Err PortProtocol
l4set_for (Some Arp) = Err PortProtocol
l4set_for (Some Rarp) = Err PortProtocol
l4set_for (Some Icmp) = Err PortProtocol
l4set_for (Some Icmp6) = Err PortProtocol
l4set_for (Some Igmp) = Err PortProtocol
l4set_for (Some (Num n)) = Err PortProtocol
l4set_for (Some (Ip6Proto n)) = Err PortProtocol
