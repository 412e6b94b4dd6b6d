-- A list of calls, one call after another.
use Rattle.std.proofs.Common.{◌≡◌, ℕ, ◌+◌, ◌<◌, List, [], ◌∷◌, ◌++◌, length, get_or, take, drop, set, sym, refl, ap, ◌∙◌, subst, subst₂, arith}
use Rattle.std.proofs.lemmas.List.{take_more, take_more_set, drop-drop, drop-set-lt, length-set}
use Rattle.records.specs.States.{State}
use Rattle.network.specs.declared.calls.Call.{Call}
use Rattle.network.specs.States.{Answer, Answered, Carried}

module _ {K : Type 0} (α : K → ℕ → ℕ) where
  pub carried_push : (calls : List (Call K)) (answers : List Answer) (st mid st' : State K) (c : Call K) (a : Answer) → Carried α st calls answers mid → Answered α mid c a st' → Carried α st (calls ++ c ∷ []) (answers ++ a ∷ []) st'
  carried_push [] [] st mid st' c a done next = (st', subst (λ s. Answered α s c a st') done next, refl)
  carried_push [] (x ∷ xs) st mid st' c a done next = absurd done
  carried_push (x ∷ xs) [] st mid st' c a done next = absurd done
  carried_push (x ∷ xs) (y ∷ ys) st mid st' c a done next = (done.0, done.1, carried_push xs ys done.0 mid st' c a done.2 next)

  -- the first i calls are carried out
  pub record Carrying (st : State K) (calls : List (Call K)) (before answers : List Answer) (i : ℕ) (now : State K) : Type 0 where
    pub done : Carried α st (take i calls) (take i answers) now
    pub rest : drop i answers ≡ drop i before
    pub long : length answers ≡ length before

  pub carrying_more : (st : State K) (calls : List (Call K)) (before answers : List Answer) (i : ℕ) (now next : State K) (c : Call K) (a : Answer) → i < length calls → i < length answers → c ≡ get_or calls i c → Carrying st calls before answers i now → Answered α now c a next → Carrying st calls before (set answers i a) (i + 1) next
  carrying_more st calls before answers i now next c a lc la read carrying answered = record {
    done =
        let more : take (i + 1) calls ≡ take i calls ++ c ∷ [] = take_more calls i c lc ∙ ap (λ x. take i calls ++ x ∷ []) (sym read) in
        let told : take (i + 1) (set answers i a) ≡ take i answers ++ a ∷ [] = take_more_set answers i a la in
        subst₂ (λ x y. Carried α st x y next) (sym more) (sym told) (carried_push (take i calls) (take i answers) st now next c a carrying.done answered);
    rest = drop-set-lt (i + 1) answers i a (omega arith) ∙ drop_one answers ∙ ap (drop 1) carrying.rest ∙ sym (drop_one before);
    long = length-set answers i a ∙ carrying.long;
  }
    where
      drop_one : (xs : List Answer) → drop (i + 1) xs ≡ drop 1 (drop i xs)
      drop_one xs = ap (λ n. drop n xs) (omega arith) ∙ sym (drop-drop 1 i xs)
