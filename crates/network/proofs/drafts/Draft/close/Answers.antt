use Rattle.std.proofs.Common.{◌≡◌, ℕ, min, List, [], length, sym, subst}
use Rattle.figures.specs.declared.racks.Rack.{Rack}
use Rattle.figures.specs.declared.streams.Stream.{Stream}
use Rattle.figures.specs.Limits.{most_streams}
use Rattle.figures.specs.Tables.{Passing}
use Rattle.records.proofs.Requests.{state}
use Rattle.network.proofs.EmptyTable.{passing_empty}
use Rattle.network.proofs.drafts.Draft.close.Goals as goal

no_streams : {K : Type 0} (rack rack' : Rack) (m m' : List (Stream K)) (len : ℕ) → rack' ≡ rack → m' ≡ m → len ≡ 0 → state rack' m' len ≡ record { rack = rack; streams = []; room = min most_streams (length m) }
no_streams rack rack' m m' len a b c =
    let d : state rack' m' len ≡ state rack m 0 = cc in
    d

pub returns : goal.returns
returns g c =
    let e = c.new-records.ensures in
    let new = c.new-records.result in
    let draft = c.args.self in
    let is = no_streams draft.rack new.rack c.args.memory.now new.table.memory.now new.table.len e.0 e.2 e.1 in
    record {
      state = is;
      memory = e.2;
      passing = subst (λ st. Passing g.K.Arrival.alpha st.rack st.streams) (sym is) (passing_empty g.K.Arrival.alpha draft.rack draft.kept);
    }
