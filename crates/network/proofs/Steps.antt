-- What a call leaves: a state that keeps what every state keeps, and whose table passes where it passed before.
use Rattle.std.proofs.Common.{◌≡◌, ℕ, zero, suc, ◌<◌, ◌≤◌, List, [], ◌∷◌, ◌++◌, length, take, drop, Some, None, Ok, Err, Option, Result, sym, refl, ap, ◌∙◌, subst, arith}
use Rattle.arrivals.specs.contracts.arrivals.Arrival.TheBound.{Met}
use Rattle.ports.specs.Loads.{Lawful}
use Rattle.figures.specs.declared.racks.Rack.{Rack}
use Rattle.figures.specs.declared.streams.Stream.{Stream}
use Rattle.figures.specs.Limits.{most_streams}
use Rattle.figures.specs.Tables.{Passing}
use Rattle.runs.proofs.Withdrawn.{withdrawal}
use Rattle.admission.specs.declared.faults.TableFault.{TableFault}
use Rattle.admission.specs.Checks.{CheckTold}
use Rattle.records.specs.Lists.{filed, number_at, withdrawn}
use Rattle.records.specs.Sound.{Sound}
use Rattle.records.specs.States.{State, Tried, places_set, unfiled, unknown_stream, unless, unplaced}
use Rattle.records.proofs.Refusals.{filed_sound, placed_sound, unknown_stream_none, withdrawn_sound}
use Rattle.network.specs.declared.calls.Call.{Call}
use Rattle.network.specs.declared.calls.Call.TheVariants as call
use Rattle.network.specs.States.{Answer, Answered, Carried}

-- the laws that a bound hands over, together
pub laws : {M : _} {𝓤 : _} {𝓛 : _} {𝓜 : _} {𝓡 : _} {e : _} {K : _} {a : _} {d : _} → Met {M = M} {𝓤 = 𝓤} 𝓛 𝓜 𝓡 e K a d → Lawful a.alpha
laws m = record { none = m.none; some = m.some; rises = m.rises; small = m.small }

split_at : {X : Type 0} (i : ℕ) (xs : List X) → i < length xs → (x : X) × (xs ≡ take i xs ++ x ∷ drop (suc i) xs)
split_at zero [] less = absurd (omega arith)
split_at zero (x ∷ xs) less = (x, refl)
split_at (suc i) [] less = absurd (omega arith)
split_at (suc i) (x ∷ xs) less = let p = split_at i xs (omega arith) in (p.0, ap (λ ys. x ∷ ys) p.1)

module _ {K : Type 0} (α : K → ℕ → ℕ) where
  -- a table that passes still does without the stream of a number
  pub withdrawn_passing : Lawful α → (rack : Rack) (n : ℕ) (xs : List (Stream K))
      → number_at n xs < length xs → Passing α rack xs → Passing α rack (withdrawn n xs)
  withdrawn_passing laws rack n xs there P =
      let at = number_at n xs in
      let p = split_at at xs there in
      withdrawal K α rack (take at xs) (drop (suc at) xs) p.0 laws (subst (Passing α rack) p.1 P)

  -- what holds of the state before a call, and of the new one where the call is done, holds of the state that it leaves
  module _ (Q : State K → Type 0) (st st' : State K) (before : Q st) where
    stays : st' ≡ st → Q st'
    stays same = subst Q (sym same) before

    tried : (o : Option TableFault) (new : State K) (r : Result (Unit {0}) TableFault)
        → (o ≡ None → CheckTold α new.rack new.streams (Ok tt) → Q new) → Tried α st o new r st' → Q st'
    tried (Some fault) new r done h = stays h.1
    tried None new (Ok tt) done h = subst Q (sym h.1) (done refl h.0)
    tried None new (Err fault) done h = stays h.1

    left : (o : Option TableFault) (new : State K) → (o ≡ None → Q new) → st' ≡ unless o new st → Q st'
    left (Some fault) new done h = stays h
    left None new done h = subst Q (sym h) (done refl)

    step : (c : Call K) (a : Answer)
        → ((s : Stream K) → unfiled st s ≡ None → Passing α st.rack (filed s st.streams)
        → Q (record { rack = st.rack; streams = filed s st.streams; room = st.room }))
        → ((n : ℕ) → unknown_stream st n ≡ None
        → Q (record { rack = st.rack; streams = withdrawn n st.streams; room = st.room }))
        → ((l p : ℕ) → unplaced st l p ≡ None → Passing α (places_set st.rack l p) st.streams
        → Q (record { rack = places_set st.rack l p; streams = st.streams; room = st.room }))
        → Answered α st c a st' → Q st'
    step (call.Request s) a files takes places h = tried (unfiled st s) _ h.0 (files s) h.2
    step (call.Withdraw n) a files takes places h = left (unknown_stream st n) _ (takes n) h.2.1
    step (call.SetPlaces l p) a files takes places h = tried (unplaced st l p) _ h.0 (places l p) h.2
    step (call.OfStream n) a files takes places h = stays h.3
    step (call.OfLine l) a files takes places h = stays h.3

  module _ (st : State K) (c : Call K) (a : Answer) (st' : State K) (h : Answered α st c a st') where
    pub room_step : st'.room ≡ st.room
    room_step =
        step (λ x. x.room ≡ st.room) st st' refl c a (λ s e P. refl) (λ n e. refl) (λ l p e P. refl) h

    pub sound_step : Sound st → (small_room : st.room ≤ most_streams) → Sound st'
    sound_step S small_room =
        step Sound st st' S c a (λ s e P. filed_sound st S s small_room e) (λ n e. withdrawn_sound st S n e)
        (λ l p e P. placed_sound st S l p e) h

    pub passing_step : Lawful α → Passing α st.rack st.streams
        → Passing α st'.rack st'.streams
    passing_step laws P =
        step (λ x. Passing α x.rack x.streams) st st' P c a (λ s e new. new)
        (λ n e. withdrawn_passing laws st.rack n st.streams (unknown_stream_none st n e).there P)
        (λ l p e new. new) h

  -- what each call keeps, a list of calls keeps
  carried : (Q : State K → Type 0)
      → ((st : State K) (c : Call K) (a : Answer) (st' : State K) → Answered α st c a st' → Q st → Q st')
      → (st : State K) (calls : List (Call K)) (answers : List Answer) (st' : State K) → Carried α st calls answers st' → Q st
      → Q st'
  carried Q each st [] [] st' h before = subst Q (sym h) before
  carried Q each st [] (a ∷ answers) st' h before = absurd h
  carried Q each st (c ∷ calls) [] st' h before = absurd h
  carried Q each st (c ∷ calls) (a ∷ answers) st' h before =
      carried Q each h.0 calls answers st' h.2 (each st c a h.0 h.1 before)

  module _ (st : State K) (calls : List (Call K)) (answers : List Answer) (st' : State K)
      (h : Carried α st calls answers st') where
    pub room_carried : st'.room ≡ st.room
    room_carried = carried (λ x. x.room ≡ st.room) (λ x c a y e same. room_step x c a y e ∙ same) st calls answers st' h refl

    pub sound_carried : Sound st → (small_room : st.room ≤ most_streams) → Sound st'
    sound_carried S small_room =
        (carried (λ x. Sound x × (x.room ≤ most_streams))
        (λ x c a y e before. (
          sound_step x c a y e before.0 before.1,
          omega (arith, room_step x c a y e, before.1),
        )) st calls answers st' h (S, small_room)).0

    pub passing_carried : Lawful α → Passing α st.rack st.streams
        → Passing α st'.rack st'.streams
    passing_carried laws =
        carried (λ x. Passing α x.rack x.streams) (λ x c a y e. passing_step x c a y e laws) st calls answers st' h
