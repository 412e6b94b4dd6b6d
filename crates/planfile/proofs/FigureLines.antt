-- The lines that tell the figures of a network grow one by one.
use Rattle.std.proofs.Common.{◌≡◌, ℕ, ◌+◌, ◌-◌, ◌<◌, ◌≤◌, eqb, List, [], ◌∷◌, ◌++◌, length, get_or, take, Some, None, Ok, Option, sym, refl, ap, ◌∙◌, subst, append_assoc, arith, length-take}
use Rattle.std.proofs.lemmas.List.{append-nil, take_more}
use Rattle.std.proofs.lemmas.Bool.{cond-false, ne_eqb}
use Rattle.arrivals.specs.declared.choices.Choice.TheVariants.{First}
use Rattle.figures.specs.declared.delays.StreamFigures.{StreamFigures}
use Rattle.figures.specs.declared.racks.Line.{Line}
use Rattle.figures.specs.declared.streams.Stream.{Stream}
use Rattle.figures.specs.Racks.{line_at}
use Rattle.listing.specs.declared.entries.Entry.{Entry}
use Rattle.network.specs.declared.networks.Network.{Network}
use Rattle.records.specs.declared.lines.LineFigures.{LineFigures}
use Rattle.records.specs.Records.{state_of}
use Rattle.records.specs.Sound.{Sound}
use Rattle.records.specs.States.{LineAnswer, State, StreamAnswer}
use Rattle.planfile.specs.Figures.{LinesListed, NetworkListed, StreamsListed, absent, no_line, no_stream, present, stream}
use Rattle.planfile.specs.Kinds.{PlanKind, plan_alpha}
use Rattle.planfile.specs.Points.{Added}

-- what the type of a network keeps, of its state
pub sound : (net : Network PlanKind) → Sound (state_of net.records)
sound net = record { kept = net.kept; differ = net.differ; sixteen = net.sixteen; fields = net.fields }

-- one line more behind those that were added
added_more : (Sort Sort' : List Entry → Type 0) (lines lines₁ lines₂ : List Entry) (line : Entry) → ((more : List Entry) → Sort more → Sort' (more ++ line ∷ []))
    → Added Sort lines lines₁ → lines₂ ≡ lines₁ ++ line ∷ [] → Added Sort' lines lines₂
added_more Sort Sort' lines lines₁ lines₂ line on added is = (
  added.0 ++ line ∷ [],
  on added.0 added.1,
  is ∙ ap (λ ls. ls ++ line ∷ []) added.2 ∙ append_assoc lines added.0 (line ∷ []),
)

-- what stands beyond the end of a table
abbrev pub unread : Stream PlanKind
unread = record { number = 0; priority = 0; inbound = 0; outbound = 0; deadline = 0; kind = First (record { period = 0; jitter = 0; cells = 0; gap = 0 }) }

pub none_added : (Sort : List Entry → Type 0) (lines : List Entry) → Sort [] → Added Sort lines lines
none_added Sort lines h = ([], h, sym (append-nil lines))

module _ (st : State PlanKind) where
  more_streams : {xs : List (Stream PlanKind)} {ls : List Entry} (s : Stream PlanKind) (told : StreamFigures) → StreamsListed st xs ls
      → StreamAnswer plan_alpha st s.number (Ok told)
      → StreamsListed st (xs ++ s ∷ []) (ls ++ Entry.Stream s.number told.q1 told.q2 told.total ∷ [])
  more_streams s told no_stream a = stream s told a no_stream
  more_streams s told (stream x t b rest) a = stream x t b (more_streams s told rest a)

  -- the stream at the place i
  module _ (i : ℕ) (s d : Stream PlanKind) (less : i < length st.streams) (is : s ≡ get_or st.streams i d) where
    pub stream_added : (told : StreamFigures) (lines lines₁ lines₂ : List Entry)
        → StreamAnswer plan_alpha st s.number (Ok told) → Added (StreamsListed st (take i st.streams)) lines lines₁
        → lines₂ ≡ lines₁ ++ Entry.Stream s.number told.q1 told.q2 told.total ∷ []
        → Added (StreamsListed st (take (i + 1) st.streams)) lines lines₂
    stream_added told lines lines₁ lines₂ answer added noted =
        let next : take (i + 1) st.streams ≡ take i st.streams ++ s ∷ [] = take_more st.streams i d less ∙ ap (λ x. take i st.streams ++ x ∷ []) (sym is) in
        added_more (StreamsListed st (take i st.streams)) (StreamsListed st (take (i + 1) st.streams)) lines lines₁ lines₂
        (Entry.Stream s.number told.q1 told.q2 told.total)
        (λ more listed. subst (λ xs. StreamsListed st xs (more ++ Entry.Stream s.number told.q1 told.q2 told.total ∷ [])) (sym next) (more_streams s told listed answer))
        added noted

  more_absent : {l : ℕ} {slots : List (Option Line)} {ls : List Entry} → LinesListed st l slots ls → LinesListed st l (slots ++ None ∷ []) ls
  more_absent no_line = absent no_line
  more_absent (absent rest) = absent (more_absent rest)
  more_absent (present line told a rest) = present line told a (more_absent rest)

  more_lines : {l : ℕ} {slots : List (Option Line)} {ls : List Entry} (n : ℕ) (line : Line) (told : LineFigures) → LinesListed st l slots ls
      → n ≡ l + length slots → LineAnswer plan_alpha st n (Ok told)
      → LinesListed st l (slots ++ Some line ∷ []) (ls ++ Entry.Line n told.need told.places ∷ [])
  more_lines n line told (no_line {l = l}) e a =
      let is : n ≡ l = omega arith in
      subst (λ k. LinesListed st k (Some line ∷ []) (Entry.Line n told.need told.places ∷ [])) is (present line told a no_line)
  more_lines n line told (absent rest) e a = absent (more_lines n line told rest (omega arith) a)
  more_lines n line told (present x t b rest) e a = present x t b (more_lines n line told rest (omega arith) a)

  -- the line n
  module _ (n : ℕ) (low : 1 ≤ n) (high : n - 1 < length st.rack.lines) where
    slot : line_at st.rack n ≡ get_or st.rack.lines (n - 1) None
    slot = cond-false (eqb n 0) None (get_or st.rack.lines (n - 1) None) (ne_eqb n 0 (λ e. omega arith))

    next_slot : (o : Option Line) → line_at st.rack n ≡ o → take (n + 1 - 1) st.rack.lines ≡ take (n - 1) st.rack.lines ++ o ∷ []
    next_slot o e =
        ap (λ k. take k st.rack.lines) (omega arith) ∙ take_more st.rack.lines (n - 1) None high
        ∙ ap (λ x. take (n - 1) st.rack.lines ++ x ∷ []) (sym slot ∙ e)

    place : n ≡ 1 + length (take (n - 1) st.rack.lines)
    place = omega (arith, length-take (n - 1) st.rack.lines)

    pub line_added : (line : Line) (told : LineFigures) (lines lines₁ lines₂ : List Entry) → line_at st.rack n ≡ Some line
        → LineAnswer plan_alpha st n (Ok told) → Added (LinesListed st 1 (take (n - 1) st.rack.lines)) lines lines₁
        → lines₂ ≡ lines₁ ++ Entry.Line n told.need told.places ∷ [] → Added (LinesListed st 1 (take (n + 1 - 1) st.rack.lines)) lines lines₂
    line_added line told lines lines₁ lines₂ there answer added noted =
        added_more (LinesListed st 1 (take (n - 1) st.rack.lines)) (LinesListed st 1 (take (n + 1 - 1) st.rack.lines)) lines lines₁ lines₂
        (Entry.Line n told.need told.places)
        (λ more listed. subst (λ xs. LinesListed st 1 xs (more ++ Entry.Line n told.need told.places ∷ [])) (sym (next_slot (Some line) there)) (more_lines n line told listed place answer))
        added noted

    pub absent_added : (lines lines₁ : List Entry) → line_at st.rack n ≡ None → Added (LinesListed st 1 (take (n - 1) st.rack.lines)) lines lines₁
        → Added (LinesListed st 1 (take (n + 1 - 1) st.rack.lines)) lines lines₁
    absent_added lines lines₁ missing added = (
      added.0,
      subst (λ xs. LinesListed st 1 xs added.0) (sym (next_slot None missing)) (more_absent added.1),
      added.2,
    )

  -- each stream has its line, and the streams and the lines together are the figures of the network
  pub streams_length : {xs : List (Stream PlanKind)} {ls : List Entry} → StreamsListed st xs ls → length ls ≡ length xs
  streams_length no_stream = refl
  streams_length (stream s told a rest) = omega (arith, streams_length rest)

  pub network_added : (lines lines₁ lines₂ : List Entry) → Added (StreamsListed st st.streams) lines lines₁
      → Added (LinesListed st 1 st.rack.lines) lines₁ lines₂ → Added (NetworkListed st) lines lines₂
  network_added lines lines₁ lines₂ streams ports = (
    streams.0 ++ ports.0,
    record { of_streams = streams.0; of_lines = ports.0; streams_listed = streams.1; lines_listed = ports.1; in_order = refl },
    ports.2 ∙ ap (λ ls. ls ++ ports.0) streams.2 ∙ append_assoc lines streams.0 ports.0,
  )
