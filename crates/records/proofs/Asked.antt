-- What the figures of a table say in answer to a figure call.
use Rattle.std.proofs.Common.{◌≡◌, ℕ, List, None, Ok, Err, Option, Result, sym, refl, subst, subst₂, inr}
use Rattle.figures.specs.declared.delays.Delays.{Delays as Listing}
use Rattle.figures.specs.declared.delays.StreamFigures.{StreamFigures}
use Rattle.figures.specs.declared.faults.FigureFault.{FigureFault}
use Rattle.figures.specs.declared.racks.Rack.{Rack}
use Rattle.figures.specs.declared.streams.Stream.{Stream}
use Rattle.figures.specs.Told.{DelaysAre, NeedTold, NeedToldFor, StreamTold}
use Rattle.admission.specs.declared.faults.TableFault.TheVariants.{Figure}
use Rattle.records.specs.Lists.{number_at}
use Rattle.records.specs.States.{State, unknown_stream, unknown_line, StreamAsked, StreamAnswer, LineAsked, LineAnswer}

-- r and t are the rack and the table whose figures are told
module _ {K : Type 0} (α : K → ℕ → ℕ) (st : State K) (r : Rack) (t : List (Stream K)) (same_rack : r ≡ st.rack) (same_table : t ≡ st.streams) where
  are_here : (delays : Listing) → DelaysAre α r t delays → DelaysAre α st.rack st.streams delays
  are_here delays are = subst₂ (λ x y. DelaysAre α x y delays) same_rack same_table are

  need_here : (delays : Listing) (l : ℕ) (x : Result (Option ℕ) FigureFault) → NeedToldFor α r t delays.q1 l x → NeedToldFor α st.rack st.streams delays.q1 l x
  need_here delays l x told = subst₂ (λ y z. NeedToldFor α y z delays.q1 l x) same_rack same_table told

  module _ (n : ℕ) (known : unknown_stream st n ≡ None) where
    pub stream_asked : (delays : Listing) → DelaysAre α r t delays → (i : ℕ) → i ≡ number_at n st.streams → (f : StreamFigures) → StreamTold r t delays i f → StreamAnswer α st n (Ok f)
    stream_asked delays are i at f told =
        let here : StreamTold st.rack st.streams delays i f = subst₂ (λ y z. StreamTold y z delays i f) same_rack same_table told in
        subst (λ o. StreamAsked α st o n (Ok f)) (sym known)
        (delays, are_here delays are, subst (λ k. StreamTold st.rack st.streams delays k f) at here)

  module _ (l : ℕ) (known : unknown_line st l ≡ None) where
    module _ (delays : Listing) (are : DelaysAre α r t delays) where
      need_of : (x : Result (Option ℕ) FigureFault) → NeedToldFor α r t delays.q1 l x → NeedTold α st.rack st.streams (are_here delays are).q1 l x
      need_of x told = need_here delays l x told (are_here delays are).q1 (are_here delays are).first_listed

      pub line_unneeded : (x : FigureFault) → NeedToldFor α r t delays.q1 l (Err x) → LineAnswer α st l (Err (Figure x))
      line_unneeded x told =
          subst (λ o. LineAsked α st o l (Err (Figure x))) (sym known)
          (x, refl, inr (record { q1 = (are_here delays are).q1; q2 = (are_here delays are).q2; delays = (are_here delays are).are; never = need_of (Err x) told }))
