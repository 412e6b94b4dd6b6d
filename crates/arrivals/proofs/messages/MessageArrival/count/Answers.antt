use Rattle.std.proofs.Common.{◌≡◌, ◌+◌, ◌%◌, ◌∙◌, rules}
use Rattle.arrivals.specs.Messages.{rounded_up}
use Rattle.arrivals.specs.Quotients.{rounded_up_is}
use Rattle.arrivals.proofs.messages.MessageArrival.count.Goals as goal

pub returns : goal.returns
returns c =
    let m = c.meant-m.result in
    let x = c.min-w.result + m.jitter in
    let b : c.div_ceil-begun.result ≡ rounded_up (x % m.period) m.gap =
    c.div_ceil-begun.ensures ∙ rounded_up_is (x % m.period) m.gap c.meant-m.ensures.kept.gap_low in
    search rules
