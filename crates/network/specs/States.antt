-- What each call on a network answers and leaves, one call or a list of them; what the records stand for, and the
-- single calls, are defined in the crate records.
use Rattle.std.specs.Prelude.{◌≡◌, ℕ, List, [], ◌∷◌, Ok, Err, Result}
use Rattle.figures.specs.declared.delays.StreamFigures.{StreamFigures}
use Rattle.admission.specs.declared.faults.TableFault.{TableFault}
use Rattle.records.specs.declared.lines.LineFigures.{LineFigures}
use Rattle.records.specs.States.{State, Requested, PlacesSet, Withdrawn, StreamAnswer, LineAnswer}
use Rattle.network.specs.declared.calls.Call.{Call}
use Rattle.network.specs.declared.calls.Call.TheVariants as call
use Rattle.network.specs.declared.calls.Told.{Told}
use Rattle.network.specs.declared.calls.Told.TheVariants as told

-- what a call tells, or why it is refused
abbrev pub Answer : Type 0
Answer = Result Told TableFault

-- the answers of the calls as one kind of answer
abbrev pub done : Result (Unit {0}) TableFault → Answer
done (Ok x) = Ok told.Done
done (Err fault) = Err fault

abbrev pub of_stream : Result StreamFigures TableFault → Answer
of_stream (Ok figures) = Ok (told.Stream figures)
of_stream (Err fault) = Err fault

abbrev pub of_line : Result LineFigures TableFault → Answer
of_line (Ok figures) = Ok (told.Line figures)
of_line (Err fault) = Err fault

module _ {K : Type 0} (α : K → ℕ → ℕ) where
  -- one call on a state: its answer, and the state that it leaves
  abbrev pub Answered : State K → Call K → Answer → State K → Type 0
  Answered st (call.Request s) a st' = (r : Result (Unit {0}) TableFault) × (a ≡ done r) × Requested α st s r st'
  Answered st (call.Withdraw n) a st' = (r : Result (Unit {0}) TableFault) × (a ≡ done r) × Withdrawn α st n r st'
  Answered st (call.SetPlaces l p) a st' = (r : Result (Unit {0}) TableFault) × (a ≡ done r) × PlacesSet α st l p r st'
  Answered st (call.OfStream n) a st' = (r : Result StreamFigures TableFault) × (a ≡ of_stream r) × StreamAnswer α st n r × (st' ≡ st)
  Answered st (call.OfLine l) a st' = (r : Result LineFigures TableFault) × (a ≡ of_line r) × LineAnswer α st l r × (st' ≡ st)

  -- a list of calls, past every refusal
  abbrev pub Carried : State K → List (Call K) → List Answer → State K → Type 0
  Carried st [] [] st' = st' ≡ st
  Carried st [] (a ∷ answers) st' = ⊥
  Carried st (c ∷ cs) [] st' = ⊥
  Carried st (c ∷ cs) (a ∷ answers) st' = (mid : State K) × Answered st c a mid × Carried mid cs answers st'
