-- What the code adds up by places is what the definitions add up by streams, at the ports of either hop.
use Rattle.std.proofs.Common.{◌≡◌, ℕ, suc, ◌+◌, ◌-◌, ◌/◌, ◌<◌, min, cond, List, [], ◌∷◌, length, get_or, Some, None, sum_by, Option, refl, ap, subst, arith}
use Rattle.std.specs.List.{HoldsAt}
use Rattle.std.proofs.lemmas.List.{get_or_default}
use Rattle.std.proofs.lemmas.List.Sums.{sum_by-cons}
use Rattle.figures.specs.declared.groups.Group.{Group}
use Rattle.figures.specs.declared.groups.Group.TheVariants.{Between}
use Rattle.figures.specs.declared.hops.Hop.{Hop}
use Rattle.figures.specs.declared.hops.Hop.TheVariants.{Probe, Hub}
use Rattle.figures.specs.declared.racks.Line.{Line}
use Rattle.figures.specs.declared.racks.Rack.{Rack}
use Rattle.figures.specs.declared.streams.Stream.{Stream}
use Rattle.ports.specs.Port.{PortDelay}
use Rattle.figures.specs.Racks.{numbers, line_at, cell_time, spread}
use Rattle.figures.specs.Tables.{over, from_line, hub_load}
use Rattle.figures.specs.Hops.{line_used, above}
use Rattle.figures.specs.Sums.{in_group, seen, group_from, group_load, line_load, lines_load, hub_sum}
use Rattle.figures.specs.Told.{lateness, Late, DelayAt, StreamToldFor, Near}
use Rattle.figures.proofs.Transport.{delay_same}

module _ {K : Type 0} (α : K → ℕ → ℕ) (rack : Rack) (hop : Hop) (q1 : Stream K → ℕ) (late : List (Option ℕ)) where
  -- what a stream brings to its port
  abbrev pub brings : Stream K → ℕ → ℕ
  brings z w = seen α (lateness hop rack (q1 z)) z.kind w

  from_same : (group : Group) (w i : ℕ) (ss : List (Stream K)) → ((j : ℕ) → j < length ss → HoldsAt (λ s. get_or late (i + j) None ≡ lateness hop rack (q1 s)) ss j) → group_from α late group w i ss ≡ over (in_group group) (λ z. brings z w) ss
  from_same group w i [] h = refl
  from_same group w i (s ∷ ss) h =
      let here : get_or late i None ≡ lateness hop rack (q1 s) = subst (λ n. get_or late n None ≡ lateness hop rack (q1 s)) (omega arith) (h 0 (omega arith) s) in
      let rest = from_same group w (i + 1) ss (λ j less d. subst (λ n. get_or late n None ≡ lateness hop rack (q1 (get_or ss j d))) (omega arith) (h (suc j) (omega arith) d)) in
      let first : cond (in_group group s) (seen α (get_or late i None) s.kind w) 0 ≡ cond (in_group group s) (brings s w) 0 = ap (λ o. cond (in_group group s) (seen α o s.kind w) 0) here in
      omega (arith, sum_by-cons (λ x. cond (in_group group x) (brings x w) 0) s ss)

  pub group_same : (table : List (Stream K)) → Late hop rack q1 table late → (group : Group) (w : ℕ) → group_load α late table group w ≡ over (in_group group) (λ z. brings z w) table
  group_same table h group w =
      from_same group w 0 table (λ j less d. subst (λ n. get_or late n None ≡ lateness hop rack (q1 (get_or table j d))) {x = j} {y = 0 + j} (omega arith) (h j less d))

module _ {K : Type 0} (α : K → ℕ → ℕ) (rack : Rack) (table : List (Stream K)) where
  -- the delay by what the code adds up is the delay as defined
  pub delay_at_same : (hop : Hop) (q1 : Stream K → ℕ) (late : List (Option ℕ)) → Late hop rack q1 table late → (s : Stream K) (r : Option ℕ) → PortDelay (cell_time rack (line_used hop s)) (brings α rack hop q1 late s) (group_load α late table (above hop s)) r → DelayAt α rack table hop q1 s r
  delay_at_same Probe q1 late h s r d =
      delay_same (cell_time rack s.inbound) r (λ w. refl) (group_same α rack Probe q1 late table h (above Probe s)) d
  delay_at_same Hub q1 late h s r d =
      delay_same (cell_time rack s.outbound) r (λ w. refl) (group_same α rack Hub q1 late table h (above Hub s)) d

  -- the same for the stream that the code reads at a place
  pub delay_told : (hop : Hop) (late : List (Option ℕ)) (place : ℕ) (d : Stream K) (C : ℕ) (group : Group) (r : Option ℕ) → place < length table → C ≡ cell_time rack (line_used hop (get_or table place d)) → group ≡ above hop (get_or table place d) → PortDelay C (seen α (get_or late place None) (get_or table place d).kind) (group_load α late table group) r → StreamToldFor α rack table hop late place r
  delay_told hop late place d C group r less at-line higher delay q1 h e =
      let s = get_or table place d in
      let a : PortDelay (cell_time rack (line_used hop s)) (seen α (get_or late place None) s.kind) (group_load α late table group) r = subst (λ n. PortDelay n (seen α (get_or late place None) s.kind) (group_load α late table group) r) at-line delay in
      let b : PortDelay (cell_time rack (line_used hop s)) (seen α (get_or late place None) s.kind) (group_load α late table (above hop s)) r = subst (λ x. PortDelay (cell_time rack (line_used hop s)) (seen α (get_or late place None) s.kind) (group_load α late table x) r) higher a in
      let c : PortDelay (cell_time rack (line_used hop s)) (brings α rack hop q1 late s) (group_load α late table (above hop s)) r = subst (λ o. PortDelay (cell_time rack (line_used hop s)) (seen α o s.kind) (group_load α late table (above hop s)) r) (h place less d) b in
      subst (λ z. DelayAt α rack table hop q1 z r) (get_or_default table place d e less) (delay_at_same hop q1 late h s r c)

pub delay_near : (C : ℕ) (α β : ℕ → ℕ) (r : Option ℕ) → PortDelay C α β r → Near r
delay_near C α β None d = tt
delay_near C α β (Some q) d = omega (arith, d.worst.met, (d.waits d.worst.at d.worst.to).0)

module _ {K : Type 0} (α : K → ℕ → ℕ) (rack : Rack) (table : List (Stream K)) (q1 : Stream K → ℕ) (late : List (Option ℕ)) (h : Late Hub rack q1 table late) where
  line_same : (l u i : ℕ) (o : Option Line) → line_load α late rack table l u o i ≡ from_line α rack table q1 l u o i
  line_same l u i (Some line) =
      ap (min ((u - 1 + spread rack) / line.cell_time + 1)) (group_same α rack Hub q1 late table h (Between i l) u)
  line_same l u i None = refl

  lines_same : (l u : ℕ) (is : List ℕ) → lines_load α late rack table l u is ≡ sum_by (λ i. from_line α rack table q1 l u (line_at rack i) i) is
  lines_same l u [] = refl
  lines_same l u (i ∷ is) =
      omega (arith, line_same l u i (line_at rack i), lines_same l u is, sum_by-cons (λ i. from_line α rack table q1 l u (line_at rack i) i) i is)

  pub hub_sum_same : (l u : ℕ) → hub_sum α late rack table l u ≡ hub_load α rack table q1 l u
  hub_sum_same l u = lines_same l u numbers
