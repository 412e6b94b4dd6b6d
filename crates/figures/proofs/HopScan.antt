-- The delays at the ports of one hop, told one stream after the other.
use Rattle.std.proofs.Common.{◌≡◌, ℕ, ◌+◌, ◌<◌, ◌≤◌, List, ◌++◌, length, get_or, take, drop, set, replicate, Some, None, Option, sym, refl, ap, ◌∙◌, subst, inl, inr, arith}
use Rattle.std.proofs.lemmas.List.{get_or-set_same, get_or-set_other, get_or-replicate, get_or_past, length-set, take-append-drop}
use Rattle.std.proofs.lemmas.Bool.{cases_lt, cases_eq}
use Rattle.std.specs.List.{HoldsAt}
use Rattle.figures.specs.declared.hops.Hop.{Hop}
use Rattle.figures.specs.declared.racks.Rack.{Rack}
use Rattle.figures.specs.declared.streams.Stream.{Stream}
use Rattle.ports.specs.Limits.{horizon}
use Rattle.figures.specs.Told.{Late, DelayAt, StreamToldFor, FirstWithout}
use Rattle.figures.proofs.Items.{drop_item, in_front}

module _ {K : Type 0} (α : K → ℕ → ℕ) (rack : Rack) (table : List (Stream K)) (hop : Hop) (late : List (Option ℕ)) where
  -- the delays of the streams below the place i are told
  pub record Scanned (i : ℕ) (figures : List ℕ) : Type 0 where
    pub told : (q1 : Stream K → ℕ) → Late hop rack q1 table late → (j : ℕ) → j < i → HoldsAt (λ s. DelayAt α rack table hop q1 s (Some (get_or figures j 0))) table j
    pub near : (j : ℕ) → get_or figures j 0 ≤ horizon
    pub long : length figures ≡ 64

  module _ (i : ℕ) (figures : List ℕ) (scanned : Scanned i figures) (less : i < 64) where
    -- the figure at j after one more is written at i
    kept : (q j : ℕ) → j < i → get_or (set figures i q) j 0 ≡ get_or figures j 0
    kept q j h = get_or-set_other figures i j q 0 (λ e. omega arith)

    here : (q : ℕ) → get_or (set figures i q) i 0 ≡ q
    here q = get_or-set_same figures i q 0 (omega (arith, scanned.long))

    pub scanned_more : (q : ℕ) → q ≤ horizon → StreamToldFor α rack table hop late i (Some q) → Scanned (i + 1) (set figures i q)
    scanned_more q small told = record {
      told = λ q1 h j lt.
          elim (cases_lt j i) [
            | inl before ↦ λ d. subst (λ n. DelayAt α rack table hop q1 (get_or table j d) (Some n)) (sym (kept q j before)) (scanned.told q1 h j before d)
            | inr after ↦
                let same : i ≡ j = omega arith in
                subst (λ n. HoldsAt (λ s. DelayAt α rack table hop q1 s (Some (get_or (set figures i q) n 0))) table n) same
                (λ d. subst (λ n. DelayAt α rack table hop q1 (get_or table i d) (Some n)) (sym (here q)) (told q1 h d))
          ];
      near = λ j.
          elim (cases_eq j i) [
            | inl same ↦ subst (λ n. get_or (set figures i q) n 0 ≤ horizon) (sym same) (subst (λ n. n ≤ horizon) (sym (here q)) small)
            | inr other ↦ subst (λ n. n ≤ horizon) (sym (get_or-set_other figures i j q 0 other)) (scanned.near j)
          ];
      long = length-set figures i q ∙ scanned.long;
    }

  pub scanned_none : Scanned 0 (replicate 64 0)
  scanned_none = record {
    told = λ q1 h j lt. absurd (omega arith);
    near = λ j. elim (cases_lt j 64) [ inl lt ↦ omega (arith, get_or-replicate {A = ℕ} 64 j 0 0 lt) | inr ge ↦ omega (arith, get_or_past {X = ℕ} (replicate 64 0) j 0 (omega arith)) ];
    long = refl;
  }

  -- the first stream without a delay is named
  pub scanned_fails : (i : ℕ) (figures : List ℕ) (s : Stream K) → Scanned i figures → i < length table → s ≡ get_or table i s → StreamToldFor α rack table hop late i None → (q1 : Stream K → ℕ) → Late hop rack q1 table late → FirstWithout (DelayAt α rack table hop q1) table s.number
  scanned_fails i figures s scanned less read told q1 h = record {
    before = take i table;
    stream = s;
    after = drop (i + 1) table;
    split = sym (take-append-drop i table) ∙ ap (λ rest. take i table ++ rest) (drop_item table i s less read);
    earlier = λ z m.
        let p = in_front table i z m in
        (get_or figures p.0 0, subst (λ x. DelayAt α rack table hop q1 x (Some (get_or figures p.0 0))) (sym (p.3 z)) (scanned.told q1 h p.0 p.1 z));
    none = subst (λ x. DelayAt α rack table hop q1 x None) (sym read) (told q1 h s);
    named = refl;
  }
