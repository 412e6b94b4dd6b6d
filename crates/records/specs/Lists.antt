-- The streams of a network as a list: where one stands, and what the list is with one more or one fewer.
use Rattle.std.specs.Prelude.{ℕ, Bool, true, not, ◌&&◌, List, [], ◌∷◌, ◌==◌, nat_lt}
use Rattle.std.specs.List.{insert, prefix_len, remove}
use Rattle.figures.specs.declared.streams.Stream.{Stream}

-- the index of the first stream with the number n; the length, if there is none
abbrev pub number_at : {K : Type 0} → ℕ → List (Stream K) → ℕ
number_at n xs = prefix_len (λ x. not (x.number == n)) xs

-- the index of the first stream with the priority p; the length, if there is none
abbrev pub priority_at : {K : Type 0} → ℕ → List (Stream K) → ℕ
priority_at p xs = prefix_len (λ x. not (x.priority == p)) xs

-- where a stream of the priority p goes: after the leading ones that are above p
abbrev pub place : {K : Type 0} → ℕ → List (Stream K) → ℕ
place p xs = prefix_len (λ x. nat_lt p x.priority) xs

-- the streams xs with s in its place
abbrev pub filed : {K : Type 0} → Stream K → List (Stream K) → List (Stream K)
filed s xs = insert xs (place s.priority xs) s

-- the streams xs without the first that has the number n
abbrev pub withdrawn : {K : Type 0} → ℕ → List (Stream K) → List (Stream K)
withdrawn n xs = remove xs (number_at n xs)

-- no stream of xs has the number n
abbrev pub lacks : {K : Type 0} → ℕ → List (Stream K) → Bool
lacks n [] = true
lacks n (x ∷ xs) = not (x.number == n) && lacks n xs

-- no two streams of the list have one number
abbrev pub numbers_differ : {K : Type 0} → List (Stream K) → Bool
numbers_differ [] = true
numbers_differ (x ∷ xs) = lacks x.number xs && numbers_differ xs
