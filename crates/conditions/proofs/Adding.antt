-- What is added is what grows where the rows stay the same: it is proved of the emitter before, by the names of the rows after.
use Rattle.std.proofs.Common.{refl, ◌++◌, length, ℕ, ◌≤◌}
use Rattle.codegen.specs.Block.{Block}
use Rattle.codegen.specs.Emit.{Code}
use Rattle.emit.specs.declared.Emitter.{Emitter}
use Rattle.emit.specs.Grown.{Grew, Grows}
use Rattle.emit.proofs.Grow.{Sized, sized, grows_then}
use Rattle.conditions.specs.Added.{Added, Adds}

-- the emitter d, by the names of the rows of e
abbrev pub named : Emitter → Emitter → Emitter
named d e = record d {
  insns = record { ref_ptr = d.insns.ref_ptr; ghost_name = e.insns.ghost_name; now = d.insns.now };
  success = record { ref_ptr = d.success.ref_ptr; ghost_name = e.success.ghost_name; now = d.success.now };
  failure = record { ref_ptr = d.failure.ref_ptr; ghost_name = e.failure.ghost_name; now = d.failure.now };
}

-- both, by the names of a third
both_named : {c : Code} {d e : Emitter} (k : Emitter) → Added c d e → Grew c (named d k) (named e k)
both_named k h = record {
  insns = h.insns;
  successes = h.successes;
  failures = h.failures;
  writings = h.writings;
  near = h.near;
  lines = h.lines;
  won = h.won;
  lost = h.lost;
  facts = h.facts;
  kept = record { same_insns = refl; same_won = refl; same_lost = refl; row = h.row; won_room = h.won_room; lost_room = h.lost_room; link = h.link };
}

pub grew : {c : Code} {d e : Emitter} → Added c d e → Grew c (named d e) e
grew {e = e} h = both_named e h

pub added : {c : Code} {d : Emitter} (e : Emitter) {f : Emitter} → Grew c (named d e) f → Added c d f
added e h = record {
  insns = h.insns;
  successes = h.successes;
  failures = h.failures;
  writings = h.writings;
  near = h.near;
  lines = h.lines;
  won = h.won;
  lost = h.lost;
  facts = h.facts;
  row = h.kept.row;
  won_room = h.kept.won_room;
  lost_room = h.kept.lost_room;
  link = h.kept.link;
}

pub adds : {b : Block} {d f : Emitter} → Grows b d f → Adds b d f
adds {d = d} h = added d h

-- a block that learns nothing, and another
pub adds_then : {A B : Block} {e f k : Emitter} → Adds A e f → Adds B f k → Adds (A ++ B) e k
adds_then {k = k} p q = added k (grows_then (both_named k p) (grew q))

-- at most n more of everything
pub added_sized : {c : Code} {e f : Emitter} (n : ℕ) → length c.block ≤ n → Added c e f → Sized n e f
added_sized n h g =
    let s = sized n h (grew g) in
    record {
      insns = s.insns;
      successes = s.successes;
      failures = s.failures;
      writings = s.writings;
      insns₀ = s.insns₀;
      successes₀ = s.successes₀;
      failures₀ = s.failures₀;
      writings₀ = s.writings₀;
      won_room = s.won_room;
      lost_room = s.lost_room;
    }
