-- What the check of a table answers: the first check that fails, in the order of the checks, or that the table passes.
use Rattle.std.specs.Prelude.{◌≡◌, ℕ, ◌<◌, ◌≤◌, List, ◌∷◌, ◌++◌, Some, None, Ok, Err, Option, Result}
use Rattle.figures.specs.declared.delays.Delays.{Delays as Listing}
use Rattle.figures.specs.declared.faults.FigureFault.TheVariants.{NoDelay, NoNeed}
use Rattle.figures.specs.declared.racks.Line.{Line}
use Rattle.figures.specs.declared.racks.Rack.{Rack}
use Rattle.figures.specs.declared.streams.Stream.{Stream}
use Rattle.figures.specs.Racks.{line_at}
use Rattle.figures.specs.Tables.{◌∈◌, total, Delays, Passing}
use Rattle.figures.specs.Told.{Listed, DelaysTold, NeedOf}
use Rattle.admission.specs.declared.faults.TableFault.{TableFault}
use Rattle.admission.specs.declared.faults.TableFault.TheVariants.{OutsideLimits, Overfull, LineTaken, NoLine, StreamTaken, PriorityTaken, TableFull, NoStream, Figure, Late, Cramped}

-- the first stream of the table that is not good, and its number
pub record FirstOf {K : Type 0} (Good Bad : Stream K → Type 0) (table : List (Stream K)) (number : ℕ) : Type 0 where
  pub before : List (Stream K)
  pub stream : Stream K
  pub after : List (Stream K)
  pub split : table ≡ before ++ stream ∷ after
  pub earlier : (s : Stream K) → s ∈ before → Good s
  pub fails : Bad stream
  pub named : stream.number ≡ number

-- the stream's total is at most its deadline, or above it
abbrev pub InTime : {K : Type 0} → Rack → (Stream K → ℕ) → (Stream K → ℕ) → Stream K → Type 0
InTime rack q1 q2 s = total rack (q1 s) (q2 s) s ≤ s.deadline

abbrev pub TooLate : {K : Type 0} → Rack → (Stream K → ℕ) → (Stream K → ℕ) → Stream K → Type 0
TooLate rack q1 q2 s = s.deadline < total rack (q1 s) (q2 s) s

module _ {K : Type 0} (α : K → ℕ → ℕ) (rack : Rack) (table : List (Stream K)) where
  -- every stream has its delays; this is the first in table order whose total is above its deadline
  pub record FirstLate (number : ℕ) : Type 0 where
    pub q1 : Stream K → ℕ
    pub q2 : Stream K → ℕ
    pub delays : Delays α rack table q1 q2
    pub first : FirstOf (InTime rack q1 q2) (TooLate rack q1 q2) table number

  -- the line l passes: it is not there, or its port has a need that is at most its places
  abbrev pub Fits : (Stream K → ℕ) → ℕ → Option Line → Type 0
  Fits q1 l (Some line) = (n : ℕ) × NeedOf α rack table q1 l (Some line) (Some n) × (n ≤ line.places)
  Fits q1 l None = Unit {0}

  -- the line l does not pass: its port has no need, or one above its places
  abbrev pub Fails : (Stream K → ℕ) → ℕ → Option Line → TableFault → Type 0
  Fails q1 l (Some line) (Figure (NoNeed m)) = (m ≡ l) × NeedOf α rack table q1 l (Some line) None
  Fails q1 l (Some line) (Cramped m) = (m ≡ l) × ((n : ℕ) × NeedOf α rack table q1 l (Some line) (Some n) × (line.places < n))
  Fails q1 l (Some line) (Figure (NoDelay s)) = ⊥
  Fails q1 l (Some line) (Late s) = ⊥
  Fails q1 l (Some line) OutsideLimits = ⊥
  Fails q1 l (Some line) Overfull = ⊥
  Fails q1 l (Some line) (LineTaken m) = ⊥
  Fails q1 l (Some line) (NoLine m) = ⊥
  Fails q1 l (Some line) (StreamTaken s) = ⊥
  Fails q1 l (Some line) (PriorityTaken s) = ⊥
  Fails q1 l (Some line) (TableFull s) = ⊥
  Fails q1 l (Some line) (NoStream s) = ⊥
  Fails q1 l None fault = ⊥

  -- the first line, by rising number, that does not pass
  pub record FirstLine (q1 : Stream K → ℕ) (fault : TableFault) : Type 0 where
    pub line : ℕ
    pub low : 1 ≤ line
    pub high : line ≤ 16
    pub earlier : (l : ℕ) → 1 ≤ l → l < line → Fits q1 l (line_at rack l)
    pub fails : Fails q1 line (line_at rack line) fault

  -- every stream is in time, and some line does not pass
  pub record FirstUnfit (fault : TableFault) : Type 0 where
    pub q1 : Stream K → ℕ
    pub q2 : Stream K → ℕ
    pub delays : Delays α rack table q1 q2
    pub in_time : (s : Stream K) → s ∈ table → InTime rack q1 q2 s
    pub first : FirstLine q1 fault

  abbrev pub Refused : TableFault → Type 0
  Refused (Figure (NoDelay s)) = DelaysTold α rack table (Err (NoDelay s))
  Refused (Late s) = FirstLate s
  Refused (Figure (NoNeed l)) = FirstUnfit (Figure (NoNeed l))
  Refused (Cramped l) = FirstUnfit (Cramped l)
  Refused OutsideLimits = ⊥
  Refused Overfull = ⊥
  Refused (LineTaken l) = ⊥
  Refused (NoLine l) = ⊥
  Refused (StreamTaken s) = ⊥
  Refused (PriorityTaken s) = ⊥
  Refused (TableFull s) = ⊥
  Refused (NoStream s) = ⊥

  abbrev pub CheckTold : Result (Unit {0}) TableFault → Type 0
  CheckTold (Ok x) = Passing α rack table
  CheckTold (Err fault) = Refused fault

-- Parts of the check, for any q1 and q2 that the lists have.
abbrev pub DeadlinesTold : {K : Type 0} → Rack → List (Stream K) → Listing → Result (Unit {0}) TableFault → Type 0
DeadlinesTold {K} rack table figures (Ok x) =
    (q1 q2 : Stream K → ℕ) → Listed q1 table figures.q1 → Listed q2 table figures.q2 → (s : Stream K) → s ∈ table → InTime rack q1 q2 s
DeadlinesTold {K} rack table figures (Err fault) =
    (n : ℕ) × (fault ≡ Late n)
    × ((q1 q2 : Stream K → ℕ) → Listed q1 table figures.q1 → Listed q2 table figures.q2 → FirstOf (InTime rack q1 q2) (TooLate rack q1 q2) table n)

abbrev pub LineTold : {K : Type 0} → (K → ℕ → ℕ) → Rack → List (Stream K) → Listing → ℕ → Result (Unit {0}) TableFault → Type 0
LineTold {K} α rack table figures l (Ok x) =
    (q1 : Stream K → ℕ) → Listed q1 table figures.q1 → Fits α rack table q1 l (line_at rack l)
LineTold {K} α rack table figures l (Err fault) =
    (q1 : Stream K → ℕ) → Listed q1 table figures.q1 → Fails α rack table q1 l (line_at rack l) fault

abbrev pub LinesTold : {K : Type 0} → (K → ℕ → ℕ) → Rack → List (Stream K) → Listing → Result (Unit {0}) TableFault → Type 0
LinesTold {K} α rack table figures (Ok x) =
    (q1 : Stream K → ℕ) → Listed q1 table figures.q1 → (l : ℕ) → 1 ≤ l → l ≤ 16 → Fits α rack table q1 l (line_at rack l)
LinesTold {K} α rack table figures (Err fault) = (q1 : Stream K → ℕ) → Listed q1 table figures.q1 → FirstLine α rack table q1 fault
