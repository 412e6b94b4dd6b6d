-- The promise of a state whose table passes: what is told of it covers every run.
use Rattle.std.proofs.Common.{ℕ, ◌≤◌, sym, subst}
use Rattle.figures.specs.Tables.{Passing}
use Rattle.runs.specs.Run.{Keeps, Run, held, hub_port, probe_port, way}
use Rattle.runs.proofs.Promise.{promise}
use Rattle.records.specs.Sound.{Sound}
use Rattle.records.specs.States.{State}
use Rattle.network.specs.Promise.{Covered, Promised}
use Rattle.network.proofs.FiguresTold.{lines_told, streams_told, told_fits, told_need, told_total}

module _ {K : Type 0} (α : K → ℕ → ℕ) (st : State K) (S : Sound st) (P : Passing α st.rack st.streams) where
  pub covered : (r : Run K) → Keeps α st.rack st.streams r → Covered α st r
  covered r R =
      let Q = promise K α st.rack st.streams S.sixteen P.kept P.distinct P.q1 P.q2 P.need P.delays P.needs r R in
      record {
        in_time = λ k less came told answer.
            let s = (r.cell k).stream in
            let known = R.known k less in
            let same = sym (told_total α st S P s known told answer) in (
              subst (λ n. way st.rack r k ≤ n) same (Q.in_time k less came),
              subst (λ n. n ≤ s.deadline) same (P.in_time s known),
            );
        probes = λ l t there before told answer. (
          subst (λ n. held (probe_port st.rack r l) t ≤ n) (sym (told_need α st S P l told answer)) (Q.probes l t there before),
          told_fits α st S P l told answer,
        );
        hubs = λ l t there before told answer. (
          subst (λ n. held (hub_port st.rack r l) t ≤ n) (sym (told_need α st S P l told answer)) (Q.hubs l t there before),
          told_fits α st S P l told answer,
        );
      }

  pub promised : Promised α st
  promised =
      record { streams_told = streams_told α st S P; lines_told = lines_told α st S P; covered = covered }
