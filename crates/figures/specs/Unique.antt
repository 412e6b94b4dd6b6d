-- Each figure is one number: two answers that meet its definition are the same answer.
use Rattle.std.specs.Prelude.{◌≡◌, ℕ, true, ◌⊎◌, List, Option}
use Rattle.arrivals.specs.Least.{Least, Found}
use Rattle.figures.specs.declared.racks.Rack.{Rack}
use Rattle.figures.specs.declared.streams.Stream.{Stream}
use Rattle.ports.specs.Limits.{horizon}
use Rattle.ports.specs.Port.{Wait, Queued, PortDelay, Clears, PortNeed}
use Rattle.figures.specs.Racks.{line_at, is_inbound, is_outbound}
use Rattle.figures.specs.Tables.{◌∈◌, Delays, Needs}

-- The figures of one port. 'None' is an answer too, so that 'it is q' and 'there is none' exclude each other.
pub record PortsUnique : Type 0 where
  -- the wait w_k of the cell k
  pub one_wait : (C : ℕ) (β : ℕ → ℕ) (k : ℕ) (r r' : Option ℕ) → Wait C β k r → Wait C β k r' → r ≡ r'
  -- the earliest tick e_k that the cell k can be queued at
  pub one_early : (α : ℕ → ℕ) (k e e' : ℕ) → Least (Queued α k) e → Least (Queued α k) e' → e ≡ e'
  pub one_delay : (C : ℕ) (α β : ℕ → ℕ) (r r' : Option ℕ) → PortDelay C α β r → PortDelay C α β r' → r ≡ r'
  -- the tick U that clears the port
  pub one_clearing : (C : ℕ) (G : ℕ → ℕ) (r r' : Option ℕ) → Found (Clears C G) horizon r → Found (Clears C G) horizon r' → r ≡ r'
  pub one_need : (C : ℕ) (G : ℕ → ℕ) (r r' : Option ℕ) → PortNeed C G r → PortNeed C G r' → r ≡ r'

-- The figures of a table in a rack, over any kind K with its arrival bound α.
pub record TablesUnique (K : Type 0) : Type 0 where
  -- the delays of each stream of the table
  pub same_delays : (α : K → ℕ → ℕ) (rack : Rack) (table : List (Stream K)) (q1 q2 q1' q2' : Stream K → ℕ)
      → Delays α rack table q1 q2 → Delays α rack table q1' q2'
      → (s : Stream K) → s ∈ table → (q1 s ≡ q1' s) × (q2 s ≡ q2' s)
  -- the need of each line that there is
  pub same_needs : (α : K → ℕ → ℕ) (rack : Rack) (table : List (Stream K)) (q1 q2 q1' q2' : Stream K → ℕ) (need need' : ℕ → ℕ)
      → Delays α rack table q1 q2 → Delays α rack table q1' q2'
      → Needs α rack table q1 need → Needs α rack table q1' need'
      → (l : ℕ) → (is_inbound (line_at rack l) ≡ true) ⊎ (is_outbound (line_at rack l) ≡ true) → need l ≡ need' l
