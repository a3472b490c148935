-- Trusted: tests, searches and sums over the numbers below a bound. Each goes from 0 up, as a loop that counts up does.
use Rattle.std.specs.Prelude.{ℕ, zero, suc, ◌+◌, Bool, true, false, ◌&&◌, ◌||◌, List, [], ◌∷◌}

-- a where the test holds, and else b
abbrev pub pick : {A : Type 0} → Bool → A → A → A
pick true a b = a
pick false a b = b

abbrev pub implies : Bool → Bool → Bool
implies true b = b
implies false b = true

-- a after the steps f at 0, 1, .., n - 1
abbrev pub fold : {A : Type 0} → (A → ℕ → A) → A → ℕ → A
fold f a zero = a
fold f a (suc n) = f (fold f a n) n

-- p holds at some number below n
unfoldable pub some : (ℕ → Bool) → ℕ → Bool
some p n = fold (λ b i. b || p i) false n

-- p holds at every number below n
unfoldable pub every : (ℕ → Bool) → ℕ → Bool
every p n = fold (λ b i. b && p i) true n

-- the lowest of the k numbers from i on at which p holds, or i + k where there is none
abbrev pub first_from : (ℕ → Bool) → ℕ → ℕ → ℕ
first_from p zero i = i
first_from p (suc k) i = let rest = first_from p k (suc i) in pick (p i) i rest

-- the lowest number below n at which p holds, or n where there is none
unfoldable pub first : (ℕ → Bool) → ℕ → ℕ
first p n = first_from p n 0

-- w 0 + w 1 + .. + w (n - 1)
unfoldable pub sum : (ℕ → ℕ) → ℕ → ℕ
sum w n = fold (λ a i. a + w i) 0 n

-- f 0, f 1, .., f (n - 1)
unfoldable pub listed : {A : Type 0} → (ℕ → A) → ℕ → List A
listed f zero = []
listed f (suc n) = f 0 ∷ listed (λ i. f (suc i)) n
