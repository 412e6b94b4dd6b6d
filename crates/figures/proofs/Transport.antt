-- Figures speak of what comes, and not of how it is written: bounds that agree at every window have the same figures.
use Rattle.std.proofs.Common.{◌≡◌, ℕ, Bool, cond, List, [], ◌∷◌, sum_by, Option, Result, refl, ap, subst, subst₂, inl, inr}
use mathlib.Core.Path.{fun_ext}
use Rattle.std.proofs.lemmas.List.Sums.{sum_by-cons}
use Rattle.ports.specs.Port.{PortDelay, PortNeed}
use Rattle.figures.specs.declared.faults.FigureFault.{FigureFault}
use Rattle.figures.specs.declared.hops.Hop.{Hop}
use Rattle.figures.specs.declared.racks.Rack.{Rack}
use Rattle.figures.specs.declared.streams.Stream.{Stream}
use Rattle.figures.specs.Tables.{◌∈◌, over}
use Rattle.figures.specs.Told.{HopToldFor}

module _ {α α' β β' : ℕ → ℕ} where
  pub delay_same : (C : ℕ) (r : Option ℕ) → ((w : ℕ) → α w ≡ α' w) → ((w : ℕ) → β w ≡ β' w) → PortDelay C α β r → PortDelay C α' β' r
  delay_same C r a b h = subst₂ (λ x y. PortDelay C x y r) (fun_ext a) (fun_ext b) h

module _ {G G' : ℕ → ℕ} where
  pub need_same : (C : ℕ) (r : Option ℕ) → ((u : ℕ) → G u ≡ G' u) → PortNeed C G r → PortNeed C G' r
  need_same C r g h = subst (λ x. PortNeed C x r) (fun_ext g) h

-- sums over a list of functions that agree on its elements
pub sums_same : {X : Type 0} (f g : X → ℕ) (xs : List X) → ((x : X) → x ∈ xs → f x ≡ g x) → sum_by f xs ≡ sum_by g xs
sums_same f g [] h = refl
sums_same f g (x ∷ xs) h =
    let a = sum_by-cons f x xs in
    let b = sum_by-cons g x xs in
    let c = h x (inl refl) in
    let d = sums_same f g xs (λ y m. h y (inr m)) in
    cc

pub over_same : {X : Type 0} (p : X → Bool) (f g : X → ℕ) (xs : List X) → ((x : X) → x ∈ xs → f x ≡ g x) → over p f xs ≡ over p g xs
over_same p f g xs h = sums_same (λ x. cond (p x) (f x) 0) (λ x. cond (p x) (g x) 0) xs (λ x m. ap (λ n. cond (p x) n 0) (h x m))

-- what is told of a table's traffic is told of the table
pub told_here : {K : Type 0} (α : K → ℕ → ℕ) {rack rack' : Rack} {table table' : List (Stream K)} (hop : Hop) {late late' : List (Option ℕ)} (r : Result (List ℕ) FigureFault)
    → rack' ≡ rack → table' ≡ table → late' ≡ late → HopToldFor α rack' table' hop late' r → HopToldFor α rack table hop late r
told_here α {rack} {rack'} {table} {table'} hop {late} {late'} r a b c told =
    subst (λ x. HopToldFor α x table hop late r) a (subst (λ x. HopToldFor α rack' x hop late r) b (subst (λ x. HopToldFor α rack' table' hop x r) c told))
