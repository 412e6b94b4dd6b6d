-- What a call that is not refused at once gives, and that the state it tries or leaves keeps what every state keeps.
use Rattle.std.proofs.Common.{◌≡◌, ℕ, zero, suc, ◌-◌, ◌<◌, ◌≤◌, Bool, true, false, not, ◌&&◌, eqb, ltb, leb, List, [], ◌∷◌, length, get_or, Some, None, Option, refl, ◌∙◌, arith, length-set}
use Rattle.std.proofs.lemmas.List.Sums.{prefix_len-le-length}
use Rattle.std.proofs.lemmas.Bool.{and_from, and_parts, leb-true, ltb-true}
use Rattle.std.specs.List.{insert, remove}
use Rattle.figures.specs.declared.racks.Line.{Line}
use Rattle.figures.specs.declared.racks.Rack.{Rack}
use Rattle.figures.specs.declared.streams.Stream.{Stream}
use Rattle.figures.specs.Limits.{most_streams}
use Rattle.figures.specs.Racks.{is_inbound, is_outbound, line_at}
use Rattle.admission.specs.declared.faults.TableFault.{TableFault}
use Rattle.admission.specs.Limits.{last_line, last_priority, last_stream, most_places}
use Rattle.records.specs.Lists.{filed, number_at, place, priority_at, withdrawn}
use Rattle.records.specs.Sound.{Sound}
use Rattle.admission.specs.Fields.{fields_within, within}
use Rattle.records.specs.States.{State, all_within, is_there, places_set, refused_unless, unfiled, unknown_line, unknown_stream, unplaced, with_places}
use Rattle.records.proofs.Filed.{filed_differ, filed_kept}
use Rattle.records.proofs.OtherPlaces.{Alike, bare, places_kept, set_alike}
use Rattle.records.proofs.Withdrawn.{withdrawn_differ, withdrawn_kept}

-- a test that did not refuse was passed, and so were those after it
passed : (test : Bool) (fault : TableFault) (rest : Option TableFault) → refused_unless test fault rest ≡ None
    → (test ≡ true) × (rest ≡ None)
passed true fault rest e = (refl, e)
passed false fault rest e = let z : ◌≡◌ {A = ℕ} 0 1 = cc in absurd (omega arith)

within_limits : (low n high : ℕ) → within low n high ≡ true → (low ≤ n) × (n ≤ high)
within_limits low n high e =
    let o = and_parts (leb low n) (leb n high) e in (leb-true low n o.0, leb-true n high o.1)

-- the stream can be filed: its fields and lines are good, its number and its priority are new, and the table has room
pub record Filable {K : Type 0} (st : State K) (s : Stream K) : Type 0 where
  pub fields : fields_within s ≡ true
  pub from_probe : is_inbound (line_at st.rack s.inbound) ≡ true
  pub to_host : is_outbound (line_at st.rack s.outbound) ≡ true
  pub new_number : number_at s.number st.streams ≡ length st.streams
  pub new_priority : priority_at s.priority st.streams ≡ length st.streams
  pub roomy : length st.streams < st.room
  pub low : s.priority < 256

-- a stream of the table has this number
pub record Known {K : Type 0} (st : State K) (n : ℕ) : Type 0 where
  pub number_low : 1 ≤ n
  pub number_high : n ≤ last_stream
  pub there : number_at n st.streams < length st.streams

-- there is a line of this number
pub record Lined {K : Type 0} (st : State K) (l : ℕ) : Type 0 where
  pub line_low : 1 ≤ l
  pub line_high : l ≤ last_line
  pub there : is_there (line_at st.rack l) ≡ true

-- and it can have so many places
pub record Placeable {K : Type 0} (st : State K) (l p : ℕ) : Type 0 where
  pub line_low : 1 ≤ l
  pub line_high : l ≤ last_line
  pub places_low : 1 ≤ p
  pub places_high : p ≤ most_places
  pub there : is_there (line_at st.rack l) ≡ true

module _ {K : Type 0} (st : State K) where
  pub unfiled_none : (s : Stream K) → unfiled st s ≡ None → Filable st s
  unfiled_none s e =
      let a = passed (fields_within s) _ _ e in
      let b = passed (is_inbound (line_at st.rack s.inbound)) _ _ a.1 in
      let c = passed (is_outbound (line_at st.rack s.outbound)) _ _ b.1 in
      let d = passed (leb (length st.streams) (number_at s.number st.streams)) _ _ c.1 in
      let f = passed (leb (length st.streams) (priority_at s.priority st.streams)) _ _ d.1 in
      let g = passed (ltb (length st.streams) st.room) _ _ f.1 in
      record {
        fields = a.0;
        from_probe = b.0;
        to_host = c.0;
        new_number = omega (arith, leb-true _ _ d.0, prefix_len-le-length (λ x. not (eqb x.number s.number)) st.streams);
        new_priority = omega (arith, leb-true _ _ f.0, prefix_len-le-length (λ x. not (eqb x.priority s.priority)) st.streams);
        roomy = ltb-true _ _ g.0;
        low = priority_low s a.0;
      }
    where
      priority_low : (s : Stream K) → fields_within s ≡ true → s.priority < 256
      priority_low s e =
          let o = and_parts (within 1 s.number last_stream) _ e in
          let p = and_parts (within 1 s.priority last_priority) _ o.1 in
          omega (arith, (within_limits 1 s.priority last_priority p.0).1)

  pub unknown_stream_none : (n : ℕ) → unknown_stream st n ≡ None → Known st n
  unknown_stream_none n e =
      let a = passed (within 1 n last_stream) _ _ e in
      let b = passed (ltb (number_at n st.streams) (length st.streams)) _ _ a.1 in
      let w = within_limits 1 n last_stream a.0 in
      record { number_low = w.0; number_high = w.1; there = ltb-true _ _ b.0 }

  pub unknown_line_none : (l : ℕ) → unknown_line st l ≡ None → Lined st l
  unknown_line_none l e =
      let a = passed (within 1 l last_line) _ _ e in
      let b = passed (is_there (line_at st.rack l)) _ _ a.1 in
      let w = within_limits 1 l last_line a.0 in
      record { line_low = w.0; line_high = w.1; there = b.0 }

  pub unplaced_none : (l p : ℕ) → unplaced st l p ≡ None → Placeable st l p
  unplaced_none l p e =
      let a = passed (within 1 l last_line && within 1 p most_places) _ _ e in
      let b = passed (is_there (line_at st.rack l)) _ _ a.1 in
      let o = and_parts (within 1 l last_line) (within 1 p most_places) a.0 in
      let v = within_limits 1 l last_line o.0 in
      let w = within_limits 1 p most_places o.1 in
      record { line_low = v.0; line_high = v.1; places_low = w.0; places_high = w.1; there = b.0 }

within_in : {K : Type 0} (s : Stream K) → fields_within s ≡ true → (i : ℕ) (xs : List (Stream K))
    → all_within xs ≡ true → all_within (insert xs i s) ≡ true
within_in s good zero xs h = and_from _ _ good h
within_in s good (suc i) [] h = and_from _ _ good refl
within_in s good (suc i) (x ∷ xs) h =
    let o = and_parts (fields_within x) (all_within xs) h in and_from _ _ o.0 (within_in s good i xs o.1)

within_out : {K : Type 0} (i : ℕ) (xs : List (Stream K)) → all_within xs ≡ true → all_within (remove xs i) ≡ true
within_out zero [] h = refl
within_out zero (x ∷ xs) h = (and_parts (fields_within x) (all_within xs) h).1
within_out (suc i) [] h = refl
within_out (suc i) (x ∷ xs) h =
    let o = and_parts (fields_within x) (all_within xs) h in and_from _ _ o.0 (within_out i xs o.1)

bare_places : (p : ℕ) (o : Option Line) → bare (with_places p o) ≡ bare o
bare_places p (Some line) = refl
bare_places p None = refl

-- a rack with other places at one line differs in nothing else
pub places_alike : (rack : Rack) (l p : ℕ) → Alike rack (places_set rack l p)
places_alike rack l p =
    set_alike rack (places_set rack l p) (l - 1) (with_places p (get_or rack.lines (l - 1) None)) refl refl
    (bare_places p (get_or rack.lines (l - 1) None))

module _ {K : Type 0} (st : State K) (S : Sound st) where
  pub filed_sound : (s : Stream K) (small_room : st.room ≤ most_streams) → unfiled st s ≡ None
      → Sound (record { rack = st.rack; streams = filed s st.streams; room = st.room })
  filed_sound s small_room e =
      let f = unfiled_none st s e in
      record {
        kept =
            filed_kept s st.rack st.streams S.kept (omega (arith, f.roomy))
            (and_from _ _ f.from_probe f.to_host) f.low f.new_priority;
        differ = filed_differ s st.streams S.differ f.new_number;
        sixteen = S.sixteen;
        fields = within_in s f.fields (place s.priority st.streams) st.streams S.fields;
      }

  pub withdrawn_sound : (n : ℕ) → unknown_stream st n ≡ None
      → Sound (record { rack = st.rack; streams = withdrawn n st.streams; room = st.room })
  withdrawn_sound n e =
      let k = unknown_stream_none st n e in
      record {
        kept = withdrawn_kept n st.streams k.there st.rack S.kept;
        differ = withdrawn_differ n st.streams k.there S.differ;
        sixteen = S.sixteen;
        fields = within_out (number_at n st.streams) st.streams S.fields;
      }

  pub placed_sound : (l p : ℕ) → unplaced st l p ≡ None
      → Sound (record { rack = places_set st.rack l p; streams = st.streams; room = st.room })
  placed_sound l p e =
      record {
        kept = places_kept st.rack (places_set st.rack l p) (places_alike st.rack l p) st.streams ∙ S.kept;
        differ = S.differ;
        sixteen = length-set st.rack.lines (l - 1) (with_places p (get_or st.rack.lines (l - 1) None)) ∙ S.sixteen;
        fields = S.fields;
      }
