use Rattle.std.proofs.Common.{◌<◌, ◌≡◌, get_or, length, ap, arith, subst₂}
use Rattle.std.proofs.lemmas.List.{length_push}
use Rattle.figures.specs.Told.{StreamTold}
use Rattle.listing.specs.declared.entries.Entry.{Entry}
use Rattle.records.specs.Records.{state_of, table}
use Rattle.network.proofs.FiguresTold.{stream_by_delays}
use Rattle.planfile.specs.Figures.{StreamsListed, no_stream}
use Rattle.planfile.specs.Kinds.{plan_alpha}
use Rattle.planfile.specs.Points.{noted}
use Rattle.planfile.proofs.FigureLines.{sound, none_added, stream_added, unread}
use Rattle.planfile.proofs.told.list_streams.Goals as goal

pub loop-place-init : goal.loop-place-init
loop-place-init c = (
  none_added (StreamsListed (state_of c.args.network.now.records) _) (noted c.args.journal.now) no_stream,
  omega arith,
)

pub loop-place-preserved : goal.loop-place-preserved
loop-place-preserved c =
    let net = c.args.network.now in
    let i = c.loop-place.place in
    let same = c.streams-stream-items.ensures in
    let less : i < length (table net.records) = omega (arith, ap length same, c.loop-place-test.true) in
    let t = c.in-Some.told in
    let s = get_or c.streams-stream-items.result.now i unread in
    let is : s ≡ get_or (table net.records) i unread = ap (λ xs. get_or xs i unread) same in
    let told : StreamTold net.records.rack (table net.records) c.args.delays.now i c.in-Some.told =
    subst₂ (λ r t. StreamTold r t c.args.delays.now i c.in-Some.told) c.requires.rack c.requires.streams c.in-Some.ensures in
    let answer =
    stream_by_delays plan_alpha (state_of net.records) (sound net)
    c.args.delays.now c.requires.delays i s unread less is c.in-Some.told told in (
      stream_added (state_of net.records) i s unread less is c.in-Some.told
          (noted c.args.journal.now) (noted c.loop-place.journal) (noted c.push.new.self) answer c.loop-place.invariant.0 c.push.ensures,
      omega (arith, ap length c.push.ensures, length_push (noted c.loop-place.journal) (Entry.Stream s.number t.q1 t.q2 t.total), c.loop-place.invariant.1),
    )
