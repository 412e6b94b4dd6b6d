-- What a table that keeps its rules gives, fact by fact.
use Rattle.std.proofs.Common.{◌≡◌, ℕ, zero, suc, ◌+◌, ◌-◌, ◌<◌, ◌≤◌, Bool, true, false, eqb, ltb, List, [], ◌∷◌, length, get_or, None, Option, sym, refl, subst, inl, inr, ⊎_elim, arith}
use lib.ListN.{get_or-eq_default}
use Rattle.std.proofs.lemmas.Bool.{and_parts, both_ways, cases_lt, cond_both, eqb-false}
use Rattle.figures.specs.declared.racks.Line.{Line}
use Rattle.figures.specs.declared.racks.Rack.{Rack}
use Rattle.figures.specs.declared.streams.Stream.{Stream}
use Rattle.figures.specs.Limits.{longest_switch}
use Rattle.figures.specs.Racks.{numbers, line_at, cell_time, spread, is_inbound, is_outbound}
use Rattle.figures.specs.Tables.{◌∈◌, falls_under, placed, all_placed, table_kept}
use Rattle.figures.specs.RackLimits.{line_timed, hub_ordered, hub_high}
use Rattle.figures.proofs.TableFacts.{rack_is_kept, falls, are_placed, all_under}
use Rattle.runs.specs.Promise.{OnePlaceEach}

-- each priority is above those that follow
abbrev pub Falling : {K : Type 0} → List (Stream K) → Type 0
Falling [] = Unit {0}
Falling {K} (s ∷ ss) = ((z : Stream K) → z ∈ ss → z.priority < s.priority) × Falling ss

pub record Sound {K : Type 0} (rack : Rack) (table : List (Stream K)) : Type 0 where
  pub hub : rack.hub.least ≤ rack.hub.most
  pub near : spread rack ≤ longest_switch
  pub some_cell : (l : ℕ) → 1 ≤ cell_time rack l
  pub falling : Falling table
  pub from_probe : (s : Stream K) → s ∈ table → is_inbound (line_at rack s.inbound) ≡ true
  pub to_host : (s : Stream K) → s ∈ table → is_outbound (line_at rack s.outbound) ≡ true

-- a number with a line is the number of a place
pub line_there : (rack : Rack) (has : Option Line → Bool) → has None ≡ false → (l : ℕ) → has (line_at rack l) ≡ true
    → (1 ≤ l) × (l ≤ length rack.lines)
line_there rack has no' l =
    cond_both (eqb l 0) None (get_or rack.lines (l - 1) None) (λ line. has line ≡ true
    → (1 ≤ l) × (l ≤ length rack.lines))
    (λ _ h. absurd (both_ways (has None) no' h))
    (λ e h. ⊎_elim (λ (a : l - 1 < length rack.lines). let z : 1 ≤ l = above e in (z, omega arith))
    (λ (a : length rack.lines ≤ l - 1). absurd
    (both_ways (has None) no' (rw (get_or-eq_default rack.lines None a) at h)))
    (cases_lt (l - 1) (length rack.lines)))
  where
    above : eqb l 0 ≡ false → 1 ≤ l
    above e = ⊎_elim (λ (a : l < 1). absurd (eqb-false l 0 e (omega arith))) (λ (a : 1 ≤ l). a) (cases_lt l 1)

abbrev up_from : ℕ → ℕ → List ℕ
up_from low zero = []
up_from low (suc n) = low ∷ up_from (low + 1) n

in_up_from : (n low l : ℕ) → low ≤ l → l < low + n → l ∈ up_from low n
in_up_from zero low l a b = absurd (omega arith)
in_up_from (suc n) low l a b =
    ⊎_elim (λ (c : low < l). inr (in_up_from n (low + 1) l (omega arith) (omega arith)))
    (λ (c : l ≤ low). inl (omega arith)) (cases_lt low l)

pub number_in : (l : ℕ) → 1 ≤ l → l ≤ length numbers → l ∈ numbers
number_in l a b = in_up_from (length numbers) 1 l a (omega arith)

-- a line that is there is one of the numbers
pub inbound_in : (rack : Rack) → OnePlaceEach rack → (l : ℕ) → is_inbound (line_at rack l) ≡ true → l ∈ numbers
inbound_in rack all l h = let t = line_there rack is_inbound refl l h in number_in l t.0 (omega (arith, t.1, all))

each_above : {K : Type 0} (high : ℕ) (table : List (Stream K)) → falls_under high table ≡ true → Falling table
each_above high [] h = tt
each_above high (s ∷ ss) h =
    let o = and_parts (ltb s.priority high) (falls_under s.priority ss) h in
    (all_under s.priority ss o.1, each_above s.priority ss o.1)

all_there : {K : Type 0} (rack : Rack) (table : List (Stream K)) → all_placed rack table ≡ true → (s : Stream K)
    → s ∈ table → placed rack s ≡ true
all_there rack [] h s m = absurd m
all_there rack (x ∷ xs) h s m =
    let o = and_parts (placed rack x) (all_placed rack xs) h in
    ⊎_elim (λ e. subst (λ y. placed rack y ≡ true) (sym e) o.0) (all_there rack xs o.1 s) m

pub sound : {K : Type 0} (rack : Rack) (table : List (Stream K)) → table_kept rack table ≡ true → Sound rack table
sound {K} rack table h =
    let kept = rack_is_kept rack table h in
    let sides = λ (s : Stream K) (m : s ∈ table).
    and_parts (is_inbound (line_at rack s.inbound)) (is_outbound (line_at rack s.outbound))
    (all_there rack table (are_placed rack table h) s m) in
    record {
      hub = hub_ordered rack kept;
      near = omega (arith, hub_high rack kept);
      some_cell = λ l. (line_timed rack kept l).cell_low;
      falling = each_above 256 table (falls rack table h);
      from_probe = λ s m. (sides s m).0;
      to_host = λ s m. (sides s m).1;
    }
