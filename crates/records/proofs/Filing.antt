-- What the memory holds once a record is in, and what the verdict leaves of it.
use Rattle.std.proofs.Common.{◌≡◌, ℕ, ◌+◌, ◌<◌, ◌≤◌, true, List, ◌++◌, length, take, drop, is_err, Ok, Err, Result, refl, ap, ◌∙◌, arith}
use Rattle.std.proofs.lemmas.List.Edits.{length-insert}
use Rattle.std.proofs.lemmas.List.{length-append, length-drop, length-take-le, take_at}
use Rattle.std.specs.List.{insert}
use Rattle.admission.specs.declared.faults.TableFault.{TableFault}
use Rattle.records.specs.States.{if_passed}

module _ {X : Type 0} (m n : List X) (len a : ℕ) (e : X) (le : a ≤ len) (lt : len < length m) (is : n ≡ insert (take len m) a e ++ drop (len + 1) m) where
  inserted_length : length (insert (take len m) a e) ≡ len + 1
  inserted_length =
      let n : length (take len m) ≡ len = length-take-le len m (omega arith) in
      length-insert (take len m) a e (omega arith) ∙ ap (λ k. k + 1) n

  pub front_is : take (len + 1) n ≡ insert (take len m) a e
  front_is = ap (take (len + 1)) is ∙ take_at (insert (take len m) a e) (drop (len + 1) m) (len + 1) inserted_length

  pub same_length : length n ≡ length m
  same_length =
      omega (arith, ap length is, length-append (insert (take len m) a e) (drop (len + 1) m), inserted_length, length-drop (len + 1) m)

pub if_failed : {X : Type 0} (r : Result (Unit {0}) TableFault) (new old : X) → is_err r ≡ true → if_passed r new old ≡ old
if_failed (Ok x) new old e = let z : ◌≡◌ {A = ℕ} 0 1 = cc in absurd (omega arith)
if_failed (Err f) new old e = refl
