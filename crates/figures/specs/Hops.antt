-- What a stream uses on each of its two hops, and who goes before it there.
use Rattle.std.specs.Prelude.{ℕ}
use Rattle.figures.specs.declared.groups.Group.{Group}
use Rattle.figures.specs.declared.groups.Group.TheVariants.{FromAbove, ToAbove}
use Rattle.figures.specs.declared.hops.Hop.{Hop}
use Rattle.figures.specs.declared.hops.Hop.TheVariants.{Probe, Hub}
use Rattle.figures.specs.declared.streams.Stream.{Stream}

abbrev pub line_used : {K : Type 0} → Hop → Stream K → ℕ
line_used Probe s = s.inbound
line_used Hub s = s.outbound

abbrev pub above : {K : Type 0} → Hop → Stream K → Group
above Probe s = FromAbove s.inbound s.priority
above Hub s = ToAbove s.outbound s.priority
