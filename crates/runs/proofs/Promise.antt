-- The promise: no cell is longer on its way than its total, and no port holds more cells than its need.
use Rattle.std.proofs.Common.{◌≡◌, ℕ, ◌-◌, ◌<◌, ◌≤◌, Bool, true, false, List, Some, None, Option, refl, ⊎_elim, arith}
use native.Mathlib.Nat.{min-le_left, min-le_right}
use Rattle.std.proofs.lemmas.Bool.{both_ways, cases_lt}
use Rattle.figures.specs.declared.racks.Line.{Line}
use Rattle.figures.specs.declared.racks.Rack.{Rack}
use Rattle.figures.specs.declared.streams.Stream.{Stream}
use Rattle.figures.specs.Racks.{line_at, places_of, is_inbound, is_outbound}
use Rattle.figures.specs.Tables.{total, Passing}
use Rattle.runs.specs.Run.{reaches, way}
use Rattle.runs.specs.Promise.{Promise, PromiseKept}
use Rattle.runs.proofs.Sound.{Sound, sound}
use Rattle.runs.proofs.Network.{probe_wait, hub_wait, probe_held, hub_held}

pub promise : (K : Type 0) → Promise K
promise K α rack table all kept distinct q1 q2 need D N r R =
    record {
      in_time = in_time;
      probes = probe_held α rack table all T distinct q1 q2 need D N r R;
      hubs = hub_held α rack table all T distinct q1 q2 need D N r R;
    }
  where
    T : Sound rack table
    T = sound rack table kept

    in_time : (k : ℕ) → k < r.cells → (r.cell k).queued < r.end
        → way rack r k ≤ total rack (q1 (r.cell k).stream) (q2 (r.cell k).stream) (r.cell k).stream
    in_time k l came =
        let x = min-le_left (reaches rack r k) (r.end - 1) in
        let y = min-le_right (reaches rack r k) (r.end - 1) in
        let p = probe_wait α rack table all T distinct q1 q2 need D N r R k l came in
        let h = hub_wait α rack table all T distinct q1 q2 need D N r R k l in
        ⊎_elim
        (λ (e : (r.cell k).sent < r.end).
        let a = R.sent_after k l e in
        let b = R.moved_by k l e in
        let s = p (r.cell k).sent e a (omega arith) in
        ⊎_elim
        (λ (f : (r.cell k).moved < r.end).
        ⊎_elim
        (λ (g : (r.cell k).left < r.end). omega (arith, h f (r.cell k).left g (R.left_after k l g) (omega arith)))
        (λ (g : r.end ≤ (r.cell k).left). omega (arith, h f (r.end - 1) (omega arith) (omega arith) (omega arith)))
        (cases_lt (r.cell k).left r.end))
        (λ (f : r.end ≤ (r.cell k).moved). omega arith)
        (cases_lt (r.cell k).moved r.end))
        (λ (e : r.end ≤ (r.cell k).sent). omega (arith, p (r.end - 1) (omega arith) (omega arith) (omega arith)))
        (cases_lt (r.cell k).sent r.end)

-- where there is a line, its port has the places
enough_room : {K : Type 0} (α : K → ℕ → ℕ) (rack : Rack) (table : List (Stream K)) (P : Passing α rack table)
    (has : Option Line → Bool) → has None ≡ false
    → (l : ℕ) → has (line_at rack l) ≡ true → P.need l ≤ places_of (line_at rack l)
enough_room α rack table P has no' l h = go (line_at rack l) refl h
  where
    go : (line : Option Line) → line_at rack l ≡ line → has line ≡ true → P.need l ≤ places_of line
    go (Some line) e h = P.room l line e
    go None e h = absurd (both_ways (has None) no' h)

pub promise_kept : (K : Type 0) → PromiseKept K
promise_kept K α rack table all P r R =
    let Q = promise K α rack table all P.kept P.distinct P.q1 P.q2 P.need P.delays P.needs r R in
    record {
      in_time = λ k l c. omega (arith, Q.in_time k l c, P.in_time (r.cell k).stream (R.known k l));
      probes = λ l t s e. omega (arith, Q.probes l t s e, enough_room α rack table P is_inbound refl l s);
      hubs = λ l t s e. omega (arith, Q.hubs l t s e, enough_room α rack table P is_outbound refl l s);
    }
