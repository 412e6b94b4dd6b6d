-- A table with no stream passes: nothing is queued at any port.
use Rattle.std.proofs.Common.{◌≡◌, ℕ, true, [], Some, None, Option, refl, arith}
use native.Mathlib.Nat.{min-zero}
use Rattle.std.proofs.lemmas.Bool.{and_from}
use Rattle.ports.specs.Port.{Need}
use Rattle.figures.specs.declared.racks.Line.{Line}
use Rattle.figures.specs.declared.racks.Rack.{Rack}
use Rattle.figures.specs.Racks.{cell_time, line_at, numbers, rack_kept}
use Rattle.figures.specs.Tables.{Passing, from_line, hub_load}
use Rattle.figures.proofs.Transport.{sums_same}

-- a port at which nothing is queued needs no place
idle : (C : ℕ) (G : ℕ → ℕ) → ((u : ℕ) → G u ≡ 0) → Need C G 0
idle C G none =
    record {
      until = 1;
      clears = (omega arith, record { has = (omega arith, omega (arith, none 1)); first = λ m h. h.0 });
      worst =
          record {
            bounds = λ k low high. omega (arith, none k);
            at = 1;
            from = omega arith;
            to = omega arith;
            met = omega (arith, none 1);
          };
    }

module _ {K : Type 0} (α : K → ℕ → ℕ) (rack : Rack) (kept : rack_kept rack ≡ true) where
  line_idle : (l u : ℕ) (o : Option Line) (i : ℕ) → from_line α rack [] (λ s. 0) l u o i ≡ 0
  line_idle l u (Some line) i = min-zero _
  line_idle l u None i = refl

  hub_idle : (l u : ℕ) → hub_load α rack [] (λ s. 0) l u ≡ 0
  hub_idle l u =
      sums_same (λ i. from_line α rack [] (λ s. 0) l u (line_at rack i) i) (λ i. 0) numbers
      (λ i m. line_idle l u (line_at rack i) i)

  pub passing_empty : Passing α rack []
  passing_empty =
      record {
        kept = and_from _ _ kept refl;
        distinct = λ s z a b e. absurd a;
        q1 = λ s. 0;
        q2 = λ s. 0;
        need = λ l. 0;
        delays = record { at_probe = λ s m. absurd m; at_hub = λ s m. absurd m };
        needs =
            record {
              of_probes = λ l e. idle (cell_time rack l) (λ u. 0) (λ u. refl);
              of_hubs = λ l e. idle (cell_time rack l) (hub_load α rack [] (λ s. 0) l) (hub_idle l);
            };
        in_time = λ s m. absurd m;
        room = λ l line e. omega arith;
      }
